-- Writes that are settled or pruned one after another.
use Rattle.std.proofs.Common.{◌≡◌, ◌&&◌, ℕ, ◌+◌, ◌*◌, ◌≤◌, true, List, [], ◌∷◌, ◌++◌, Option, Some, None, refl, sym, ap, ◌∙◌, subst, arith}
use Rattle.std.specs.Prelude.{All, is_some, take, drop}
use Rattle.std.proofs.lemmas.List.Elements.{All-cons, All-head, All-nil, All-tail}
use Rattle.std.proofs.lemmas.List.{take-append-drop}
use Rattle.base_types.specs.declared.entry.Settle.{Settle}
use Rattle.base_types.specs.declared.id.AttemptId.{AttemptId}
use Rattle.base_types.specs.declared.id.ObjId.{ObjId}
use Rattle.base_types.specs.declared.path.Path.{Path}
use Rattle.daos_model.specs.BoolLaws.{and_left, and_right}
use Rattle.daos_model.specs.declared.durable.Version.{Version}
use Rattle.pmem_pages.specs.Blocks.{Blocks, Budget}
use Rattle.pmem_pages.specs.Owners.{Changed, Holds}
use Rattle.pmem_pages.proofs.Owning.{changed_then}
use Rattle.vos_levels.specs.Levels.{hung_root, without_those}
use Rattle.vos_levels.proofs.Changing.{stays}
use Rattle.vos_path.specs.Objects.{Objects, objects_owner, objects_versions}
use Rattle.vos_path.specs.Small.{PathIsSmall}
use Rattle.vos_path.proofs.Written.{fewer_than, lacked_before}
use Rattle.vos_settle.specs.declared.name.WriteName.{WriteName}
use Rattle.vos_settle.specs.declared.task.WriteKind.{WriteKind}
use Rattle.vos_settle.specs.declared.task.WriteKind.TheVariants as kind
use Rattle.vos_settle.specs.Costs.{Lacks, Spends, for_one, objects_cost}
use Rattle.vos_settle.specs.Names.{IsNamed, moment_of}
use Rattle.vos_settle.specs.Versions.{WriteTurn, fits_kind, object_in, versions_after, versions_freed}
use Rattle.vos_settle.proofs.Smaller.{path_stays_small}
use Rattle.vos_settle.proofs.Sums.{spends_then}
use Rattle.vos_prune.specs.Removals.{Removed, done_blocks, pruning}
use Rattle.vos_prune.specs.Writers.{writer_of}
use Rattle.vos_object.specs.Each.{PathsAreSmall, RemoveTurn, RemovedIf, SettleTurn, Turned, Turning, TurnsEach, each_cost, removed_blocks, settled_blocks}
use Rattle.vos_object.specs.Settling.{is_removed, removed_each, settled_each, settling}
use Rattle.vos_object.proofs.Settled.{nobody_removed}

-- ---- what a write names

object_fits : (k : WriteKind) (p : Path) → fits_kind k p ≡ true → is_some p.obj ≡ true
object_fits kind.Punch p h = and_right _ (is_some p.obj) h
object_fits kind.Single p h = and_left (is_some p.obj) (is_some p.dkey) (and_left (is_some p.obj && is_some p.dkey) (is_some p.akey) h)
object_fits (kind.Extent low) p h = and_left (is_some p.obj) (is_some p.dkey) (and_left (is_some p.obj && is_some p.dkey) (is_some p.akey) h)

some_one : {A : Type 0} (x : Option A) → is_some x ≡ true → (a : A) × (x ≡ Some a)
some_one None h = absurd (let n : ⊥ = cc in n)
some_one (Some a) h = (a, refl)

pub named_object : (x : WriteName) → IsNamed x → (o : ObjId) × (x.path.obj ≡ Some o)
named_object x n = some_one x.path.obj (object_fits x.kind x.path n.fits)

-- ---- costs

-- what one write may stage
abbrev pub one_cost : WriteName → ℕ → ℕ → ℕ
one_cost x e v = objects_cost x.kind x.path.dkey x.path.akey e v

pub cost_append : (ns ms : List WriteName) (e v : ℕ) → each_cost (ns ++ ms) e v ≡ each_cost ns e v + each_cost ms e v
cost_append [] ms e v = omega arith
cost_append (n ∷ ns) ms e v = omega (arith, cost_append ns ms e v)

pub cost_more : (ns : List WriteName) (x : WriteName) (e v : ℕ) → each_cost ns e v + one_cost x e v ≡ each_cost (ns ++ x ∷ []) e v
cost_more ns x e v = omega (arith, cost_append ns (x ∷ []) e v)

pub cost_part : (ns : List WriteName) (i : ℕ) (e v : ℕ) → each_cost (take i ns) e v ≤ each_cost ns e v
cost_part ns i e v = let k = ap (λ z. each_cost z e v) (take-append-drop i ns) in omega (arith, k, cost_append (take i ns) (drop i ns) e v)

-- so much, and then this, lacked for all
pub lacks_after : (r s t d : ℕ) (x y : Budget) → r + s ≤ t → Spends r x y → Lacks s d y → Lacks t d x
lacks_after r s t d x y le h few =
    fewer_than (r + (s + (16 * d + 32))) (256 * r + 256 * (s + (16 * d + 32))) (t + (16 * d + 32)) (256 * (t + (16 * d + 32))) x (omega (arith, le)) (omega (arith, le))
    (lacked_before r (256 * r) (s + (16 * d + 32)) (256 * (s + (16 * d + 32))) x y h few)

-- what holds of all holds of the first, and of the last
all_front : {A : Type 0} (P : A → Type 0) (xs ys : List A) → All P (xs ++ ys) → All P xs
all_front P [] ys h = All-nil P
all_front P (x ∷ xs) ys h = All-cons P x xs (All-head P x (xs ++ ys) h) (all_front P xs ys (All-tail P x (xs ++ ys) h))

all_last : {A : Type 0} (P : A → Type 0) (xs : List A) (y : A) → All P (xs ++ y ∷ []) → P y
all_last P [] y h = All-head P y [] h
all_last P (x ∷ xs) y h = all_last P xs y (All-tail P x (xs ++ y ∷ []) h)

pub paths_front : (d : ℕ) (g : Objects) (ns : List WriteName) (i : ℕ) → PathsAreSmall d ns g → PathsAreSmall d (take i ns) g
paths_front d g ns i h = all_front (λ z. PathIsSmall d z.path g) (take i ns) (drop i ns) (subst (λ z. PathsAreSmall d z g) (sym (take-append-drop i ns)) h)

-- ---- one turn more

turns_more : (T : Turning) (ns : List WriteName) (x : WriteName) (m : Blocks) (g : Objects) (n : Blocks) (at : ℕ) (h : Objects) (o : Blocks) (root : ℕ) (k : Objects) → root ≡ hung_root k → TurnsEach T ns m g n at h → T x n h o root k → TurnsEach T (ns ++ x ∷ []) m g o root k
turns_more T [] x m g n at h o root k is s t = (o, root, k, (subst (λ y. T x y g o root k) s.same.blocks (subst (λ y. T x n y o root k) s.now_is t), record { same = record { blocks = refl; root_is = is }; now_is = refl }))
turns_more T (y ∷ ns) x m g n at h o root k is s t = (s.0, s.1, s.2, (s.3.0, turns_more T ns x s.0 s.2 n at h o root k is s.3.1 t))

-- what becomes of versions by names, and the blocks of those that go
abbrev pub After : Type 0
After = List WriteName → List Version → List Version

abbrev pub Freed : Type 0
Freed = List WriteName → List Version → ℕ

-- one turn, with what it staged and gave back
pub record OneTurn (T : Turning) (after : After) (freed : Freed) (x : WriteName) (m : Blocks) (g : Objects) (b : Budget) (n : Blocks) (at : ℕ) (c : Budget) : Type 0 where
  pub now : Objects
  pub turn : T x m g n at now
  pub changed : Changed objects_owner m g n now
  pub root_is : at ≡ hung_root now
  pub versions : objects_versions now ≡ after (x ∷ []) (objects_versions g)
  pub small : (d : ℕ) (q : Path) → PathIsSmall d q g → PathIsSmall d q now
  pub staged : (d : ℕ) → PathIsSmall d x.path g → Spends (one_cost x (for_one d) 1) b c
  pub gives : b.free + freed (x ∷ []) (objects_versions g) ≤ c.free

-- such turns one after another
pub record SoFar (T : Turning) (after : After) (freed : Freed) (ns : List WriteName) (m : Blocks) (g : Objects) (b : Budget) (n : Blocks) (at : ℕ) (c : Budget) : Type 0 where
  pub turned : Turned T after ns m g n at
  pub small : (d : ℕ) (q : Path) → PathIsSmall d q g → PathIsSmall d q turned.now
  pub staged : (d : ℕ) → PathsAreSmall d ns g → Spends (each_cost ns (for_one d) 1) b c
  pub gives : b.free + freed ns (objects_versions g) ≤ c.free

module _ (T : Turning) (after : After) (freed : Freed) (after_none : (vs : List Version) → after [] vs ≡ vs) (freed_none : (vs : List Version) → freed [] vs ≡ 0) (after_more : (ns : List WriteName) (x : WriteName) (vs : List Version) → after (ns ++ x ∷ []) vs ≡ after (x ∷ []) (after ns vs)) (freed_more : (ns : List WriteName) (x : WriteName) (vs : List Version) → freed (ns ++ x ∷ []) vs ≡ freed ns vs + freed (x ∷ []) (after ns vs)) where
  first : (m : Blocks) (g : Objects) (b : Budget) (at : ℕ) → Holds objects_owner m g → at ≡ hung_root g → SoFar T after freed [] m g b m at b
  first m g b at held root = record {
    turned = record { now = g; turns = record { same = record { blocks = refl; root_is = root }; now_is = refl }; changed = stays objects_owner m g held; root_is = root; versions = sym (after_none (objects_versions g)) };
    small = λ d q h. h;
    staged = λ d h. record { ranges_most = omega arith; ranges_least = omega arith; bytes_most = omega arith; bytes_least = omega arith };
    gives = omega (arith, freed_none (objects_versions g));
  }

  next : (ns : List WriteName) (x : WriteName) (m : Blocks) (g : Objects) (b : Budget) (n : Blocks) (at : ℕ) (c : Budget) (o : Blocks) (root : ℕ) (e : Budget) (s : SoFar T after freed ns m g b n at c) → OneTurn T after freed x n s.turned.now c o root e → SoFar T after freed (ns ++ x ∷ []) m g b o root e
  next ns x m g b n at c o root e s one =
      let vs = objects_versions g in
      let gave = subst (λ z. c.free + freed (x ∷ []) z ≤ e.free) s.turned.versions one.gives in
      record {
        turned = record {
          now = one.now;
          turns = turns_more T ns x m g n at s.turned.now o root one.now one.root_is s.turned.turns one.turn;
          changed = changed_then objects_owner m n o g s.turned.now one.now s.turned.changed one.changed;
          root_is = one.root_is;
          versions = one.versions ∙ (ap (after (x ∷ [])) s.turned.versions ∙ sym (after_more ns x vs));
        };
        small = λ d q h. one.small d q (s.small d q h);
        staged = λ d h. subst (λ k. Spends k b e) (cost_more ns x (for_one d) 1) (spends_then (each_cost ns (for_one d) 1) (one_cost x (for_one d) 1) b c e (s.staged d (all_front (λ z. PathIsSmall d z.path g) ns (x ∷ []) h)) (one.staged d (s.small d x.path (all_last (λ z. PathIsSmall d z.path g) ns x h))));
        gives = omega (arith, s.gives, gave, freed_more ns x vs);
      }

-- ---- settling

settled_more : (a : AttemptId) (s : Settle) (ns : List WriteName) (x : WriteName) (vs : List Version) → settled_each a s (ns ++ x ∷ []) vs ≡ settled_each a s (x ∷ []) (settled_each a s ns vs)
settled_more a s [] x vs = refl
settled_more a s (n ∷ ns) x vs = settled_more a s ns x _

blocks_more : (a : AttemptId) (s : Settle) (ns : List WriteName) (x : WriteName) (vs : List Version) → settled_blocks a s (ns ++ x ∷ []) vs ≡ settled_blocks a s ns vs + settled_blocks a s (x ∷ []) (settled_each a s ns vs)
blocks_more a s [] x vs = omega arith
blocks_more a s (n ∷ ns) x vs = omega (arith, blocks_more a s ns x (versions_after (settling a n s) n.path vs))

abbrev pub SettledSoFar : AttemptId → Settle → List WriteName → Blocks → Objects → Budget → Blocks → ℕ → Budget → Type 0
SettledSoFar a s = SoFar (SettleTurn a s) (settled_each a s) (settled_blocks a s)

pub settled_first : (a : AttemptId) (s : Settle) (m : Blocks) (g : Objects) (b : Budget) (at : ℕ) → Holds objects_owner m g → at ≡ hung_root g → SettledSoFar a s [] m g b m at b
settled_first a s m g b at held root = first (SettleTurn a s) (settled_each a s) (settled_blocks a s) (λ vs. refl) (λ vs. refl) (settled_more a s) (blocks_more a s) m g b at held root

pub settled_next : (a : AttemptId) (s : Settle) (ns : List WriteName) (x : WriteName) → IsNamed x → (m : Blocks) (g : Objects) (b : Budget) (n : Blocks) (at : ℕ) (c : Budget) (o : Blocks) (root : ℕ) (e : Budget) (f : SettledSoFar a s ns m g b n at c)
    → WriteTurn (settling a x s) x.path n f.turned.now o root
    → ((d : ℕ) → PathIsSmall d x.path f.turned.now → Spends (one_cost x (for_one d) 1) c e)
    → c.free + versions_freed (settling a x s) x.path (objects_versions f.turned.now) ≤ e.free
    → SettledSoFar a s (ns ++ x ∷ []) m g b o root e
settled_next a s ns x named m g b n at c o root e f w staged gives =
    let y = named_object x named in
    next (SettleTurn a s) (settled_each a s) (settled_blocks a s) (λ vs. refl) (λ vs. refl) (settled_more a s) (blocks_more a s) ns x m g b n at c o root e f (record {
      now = w.now;
      turn = record { turn = w; now_is = refl };
      changed = w.changed;
      root_is = w.root_is;
      versions = w.versions;
      small = λ d q h. path_stays_small (settling a x s) (object_in x.path y.0) x.path q n o f.turned.now w.now d f.turned.changed.holds w.changed.holds (w.nodes y.0 y.1) h;
      staged = staged;
      gives = omega (arith, gives);
    })

-- ---- taking out

removed_more : (ns : List WriteName) (x : WriteName) (vs : List Version) → removed_each (ns ++ x ∷ []) vs ≡ removed_each (x ∷ []) (removed_each ns vs)
removed_more [] x vs = refl
removed_more (n ∷ ns) x vs = removed_more ns x _

removed_blocks_more : (ns : List WriteName) (x : WriteName) (vs : List Version) → removed_blocks (ns ++ x ∷ []) vs ≡ removed_blocks ns vs + removed_blocks (x ∷ []) (removed_each ns vs)
removed_blocks_more [] x vs = omega arith
removed_blocks_more (n ∷ ns) x vs = omega (arith, removed_blocks_more ns x (without_those (is_removed n) vs))

abbrev pub RemovedSoFar : List WriteName → Blocks → Objects → Budget → Blocks → ℕ → Budget → Type 0
RemovedSoFar = SoFar RemoveTurn removed_each removed_blocks

pub removed_first : (m : Blocks) (g : Objects) (b : Budget) (at : ℕ) → Holds objects_owner m g → at ≡ hung_root g → RemovedSoFar [] m g b m at b
removed_first m g b at held root = first RemoveTurn removed_each removed_blocks (λ vs. refl) (λ vs. refl) removed_more removed_blocks_more m g b at held root

one_removed : (x : WriteName) → IsNamed x → (m : Blocks) (g : Objects) (b : Budget) (n : Blocks) (at : ℕ) (c : Budget) → Holds objects_owner m g
    → Removed (writer_of x.path x.kind (moment_of x) (objects_versions g)) x.kind (moment_of x) x.path m g n at
    → ((d : ℕ) → PathIsSmall d x.path g → Spends (one_cost x (for_one d) 1) b c)
    → b.free + done_blocks x.path x.kind (moment_of x) (objects_versions g) ≤ c.free
    → OneTurn RemoveTurn removed_each removed_blocks x m g b n at c
one_removed x named m g b n at c held removed staged gives = by (writer_of x.path x.kind (moment_of x) (objects_versions g)) refl removed
  where
    by : (w : Option AttemptId) → writer_of x.path x.kind (moment_of x) (objects_versions g) ≡ w → Removed w x.kind (moment_of x) x.path m g n at → OneTurn RemoveTurn removed_each removed_blocks x m g b n at c
    by None e r = record {
      now = g;
      turn = subst (λ w. RemovedIf w x m g n at g) (sym e) (record { same = r; now_is = refl });
      changed = subst (λ y. Changed objects_owner m g y g) (sym r.blocks) (stays objects_owner m g held);
      root_is = r.root_is;
      versions = sym (nobody_removed x (objects_versions g) e);
      small = λ d q h. h;
      staged = staged;
      gives = omega (arith, gives);
    }
    by (Some a) e r =
        let y = named_object x named in
        record {
          now = r.now;
          turn = subst (λ w. RemovedIf w x m g n at r.now) (sym e) (record { turn = r; now_is = refl });
          changed = r.changed;
          root_is = r.root_is;
          versions = r.versions;
          small = λ d q h. path_stays_small (pruning x.kind (moment_of x) a) (object_in x.path y.0) x.path q m n g r.now d held r.changed.holds (r.nodes y.0 y.1) h;
          staged = staged;
          gives = omega (arith, gives);
        }

pub removed_next : (ns : List WriteName) (x : WriteName) → IsNamed x → (m : Blocks) (g : Objects) (b : Budget) (n : Blocks) (at : ℕ) (c : Budget) (o : Blocks) (root : ℕ) (e : Budget) (f : RemovedSoFar ns m g b n at c)
    → Removed (writer_of x.path x.kind (moment_of x) (objects_versions f.turned.now)) x.kind (moment_of x) x.path n f.turned.now o root
    → ((d : ℕ) → PathIsSmall d x.path f.turned.now → Spends (one_cost x (for_one d) 1) c e)
    → c.free + done_blocks x.path x.kind (moment_of x) (objects_versions f.turned.now) ≤ e.free
    → RemovedSoFar (ns ++ x ∷ []) m g b o root e
removed_next ns x named m g b n at c o root e f removed staged gives = next RemoveTurn removed_each removed_blocks (λ vs. refl) (λ vs. refl) removed_more removed_blocks_more ns x m g b n at c o root e f (one_removed x named n f.turned.now c o root e f.turned.changed.holds removed staged gives)
