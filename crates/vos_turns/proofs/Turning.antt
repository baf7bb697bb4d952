-- Versions that a change takes are changed one after another.
use Rattle.std.proofs.Common.{◌≡◌, ℕ, zero, suc, ◌&&◌, ◌+◌, ◌*◌, ◌≤◌, ◌<◌, Bool, true, false, cond, List, [], ◌∷◌, ◌++◌, Option, Some, None, length, take, refl, sym, ap, ◌∙◌, subst, arith, add-one, get_or, inl, inr, ◌⊎◌}
use Rattle.std.specs.Prelude.{filter, if◌then◌else◌, is_some}
use Rattle.std.proofs.Math.Seq.{take-suc}
use Rattle.base_types.specs.declared.path.Path.{Path}
use Rattle.base_types.specs.Operations.{write_path}
use Rattle.daos_model.specs.BoolLaws.{and_left, and_right}
use Rattle.daos_model.specs.declared.durable.Version.{Version}
use Rattle.pmem_pages.specs.Blocks.{Blocks, Budget, IsSpent}
use Rattle.pmem_pages.specs.Owners.{Holds}
use Rattle.pmem_pages.proofs.Owning.{changed_then}
use Rattle.pmem_tree.specs.Calls.{IsShort}
use Rattle.base_types.specs.declared.id.AttemptId.{AttemptId}
use Rattle.pmem_pages.proofs.Owning.{changed_first, changed_second}
use Rattle.vos_entries.specs.Entries.{Entries, IsCommittedAt, IsConfirmedAt, IsGoneAt, entries_owner, list_blocks_at, listings}
use Rattle.vos_entries.specs.Lists.{FewerThan, FewerToRemove, StagesToRemove}
use Rattle.vos_fitting.proofs.Entries.{fits_committed, fits_confirmed, fits_without_entry}
use Rattle.vos_fitting.proofs.Writes.{fits_after_write}
use Rattle.vos_fitting.specs.vos_image.Kept.{Stored, stored_owner}
use Rattle.vos_levels.specs.Calls.{Becomes}
use Rattle.vos_fitting.proofs.vos_path.Written.{holds_first, holds_second}
use Rattle.vos_small.proofs.Fitting.{entries_fit_out, marks_fit}
use Rattle.vos_small.proofs.Smallness.{unlisted_take_none}
use Rattle.vos_turns.specs.declared.entries.EntryStep.{EntryStep}
use Rattle.vos_turns.specs.declared.entries.EntryStep.TheVariants as step
use Rattle.vos_levels.proofs.Changing.{stays}
use Rattle.vos_levels.specs.declared.change.Change.{Change}
use Rattle.vos_levels.specs.Changes.{changed_by, freed_by, keeps, sum_those}
use Rattle.vos_levels.specs.Levels.{hung_root, map_those, things, without_those}
use Rattle.vos_fitting.specs.vos_path.Objects.{Objects, objects_owner, objects_versions}
use Rattle.vos_fitting.specs.vos_path.Writes.{ObjectsAreSmall}
use Rattle.vos_fitting.proofs.vos_settle.Smaller.{objects_small}
use Rattle.vos_fitting.proofs.vos_settle.Sums.{spends_most, spends_none, spends_then}
use Rattle.vos_fitting.specs.vos_settle.Costs.{Spends}
use Rattle.vos_fitting.specs.vos_settle.declared.task.WriteKind.{WriteKind}
use Rattle.vos_fitting.specs.vos_settle.declared.task.WriteKind.TheVariants as kind
use Rattle.vos_fitting.specs.vos_settle.declared.task.Task.{Task}
use Rattle.vos_fitting.specs.vos_settle.Versions.{WriteTurn, done_version, fits_kind, is_version_taken, object_in, version_blocks, versions_after, versions_freed}
use Rattle.vos_small.specs.Rooms.{HasLeft}
use Rattle.vos_turns.specs.Steps.{EntryTurn, StandsUnlisted, VersionsTurn, cost_of}
use Rattle.vos_turns.specs.Turns.{AreFew, CanBeNamed, StandsBelow, TurnsTo, after_each, after_one, task_of, takes_version}

pub take_next : {A : Type 0} (xs : List A) (i : ℕ) (x : A) → i < length xs → x ≡ get_or xs i x → take (i + 1) xs ≡ take i xs ++ x ∷ []
take_next xs i x h is = ap (λ (n : ℕ). take n xs) (add-one i) ∙ (take-suc xs i x h ∙ ap (λ y. take i xs ++ y ∷ []) (sym is))

-- ---- what a version names

object_fits : (k : WriteKind) (p : Path) → fits_kind k p ≡ true → is_some p.obj ≡ true
object_fits kind.Punch p h = and_right _ (is_some p.obj) h
object_fits kind.Single p h = and_left (is_some p.obj) (is_some p.dkey) (and_left (is_some p.obj && is_some p.dkey) (is_some p.akey) h)
object_fits (kind.Extent low) p h = and_left (is_some p.obj) (is_some p.dkey) (and_left (is_some p.obj && is_some p.dkey) (is_some p.akey) h)

some_one : {A : Type 0} (x : Option A) → is_some x ≡ true → (a : A) × (x ≡ Some a)
some_one None h = absurd (cc)
some_one (Some a) h = (a, refl)

-- ---- lists

after_more : (c : Change) (us : List Version) (u : Version) (vs : List Version) → after_each c (us ++ u ∷ []) vs ≡ (if takes_version c u then after_one c u (after_each c us vs) else after_each c us vs)
after_more c [] u vs = refl
after_more c (x ∷ us) u vs = after_more c us u _

count_more : {A : Type 0} (t : A → Bool) (us : List A) (u : A) (b : Bool) → t u ≡ b → length (filter t (us ++ u ∷ [])) ≡ length (filter t us) + (if b then 1 else 0)
count_more t [] u true is = rw is refl
count_more t [] u false is = rw is refl
count_more t (x ∷ us) u b is = let rest = count_more t us u b is in elim (t x) as (λ d. length (cond d (x ∷ filter t (us ++ u ∷ [])) (filter t (us ++ u ∷ []))) ≡ length (cond d (x ∷ filter t us) (filter t us)) + (if b then 1 else 0)) [ true ↦ omega (arith, rest) | false ↦ rest ]

count_part : {A : Type 0} (t : A → Bool) (us : List A) (i : ℕ) → length (filter t (take i us)) ≤ length (filter t us)
count_part t us zero = omega arith
count_part t [] (suc i) = omega arith
count_part t (x ∷ us) (suc i) = let rest = count_part t us i in elim (t x) as (λ d. length (cond d (x ∷ filter t (take i us)) (filter t (take i us))) ≤ length (cond d (x ∷ filter t us) (filter t us))) [ true ↦ omega (arith, rest) | false ↦ rest ]

-- ---- what goes gives back

module _ {A : Type 0} (test : A → Bool) where
  mapped_length : (f : A → A) (xs : List A) → length (map_those test f xs) ≡ length xs
  mapped_length f [] = refl
  mapped_length f (x ∷ xs) = omega (arith, mapped_length f xs)

  gone_count : (size : A → ℕ) → ((a : A) → 1 ≤ size a) → (xs : List A) → length xs ≤ length (without_those test xs) + sum_those test size xs
  gone_count size some [] = omega arith
  gone_count size some (x ∷ xs) =
      let rest = gone_count size some xs in
      let one = some x in
      elim (test x) as (λ b. length (x ∷ xs) ≤ length (if b then without_those test xs else x ∷ without_those test xs) + ((if b then size x else 0) + sum_those test size xs)) [ true ↦ omega (arith, rest, one) | false ↦ omega (arith, rest) ]

  changed_count : (k : Bool) (f : A → A) (size : A → ℕ) → ((a : A) → 1 ≤ size a) → (xs : List A) → length xs ≤ length (changed_by k test f xs) + freed_by k test size xs
  changed_count true f size some xs = omega (arith, mapped_length f xs)
  changed_count false f size some xs = gone_count size some xs

-- so each version that goes does
pub gone_give : (t : Task) (p : Path) (vs : List Version) → length vs ≤ length (versions_after t p vs) + versions_freed t p vs
gone_give t p vs = changed_count (is_version_taken t.kind t p) (keeps t.change) done_version version_blocks (λ v. omega arith) vs

-- ---- one after another

pub turn_first : (c : Change) (m : Blocks) (g : Objects) (b : Budget) (at : ℕ) → Holds objects_owner m g → at ≡ hung_root g → ObjectsAreSmall 17 g → VersionsTurn c [] m g b m at b
turn_first c m g b at held root small = record {
  now = g;
  changed = stays objects_owner m g held;
  root_is = root;
  versions = refl;
  small = small;
  fits = λ k e nothing fits. fits;
  spent = spends_none _ b b refl;
  free = omega arith;
  gives = omega arith;
}

more_spent : (k : Bool) (n r : ℕ) (b d e : Budget) → r ≡ n + 1 → Spends ((if k then 4 else 631) * n) b d → Spends (if k then 4 else 631) d e → Spends ((if k then 4 else 631) * r) b e
more_spent true n r b d e is h one = spends_most (4 * n + 4) (4 * r) b e (omega (arith, is)) (spends_then (4 * n) 4 b d e h one)
more_spent false n r b d e is h one = spends_most (631 * n + 631) (631 * r) b e (omega (arith, is)) (spends_then (631 * n) 631 b d e h one)

one_spent : (k : Bool) (d e : Budget) → (k ≡ true → Spends 4 d e) → Spends 631 d e → Spends (if k then 4 else 631) d e
one_spent true d e few most = few refl
one_spent false d e few most = most

pub turn_more : (c : Change) (us : List Version) (u : Version) → takes_version c u ≡ true → CanBeNamed u → (m : Blocks) (g : Objects) (b : Budget) (n : Blocks) (at : ℕ) (d : Budget) (o : Blocks) (e : Budget) (f : VersionsTurn c us m g b n at d)
    → WriteTurn (task_of c u) (write_path u.write) n f.now o at → (keeps c ≡ true → Spends 4 d e) → Spends 631 d e → d.free ≤ e.free → d.free + length (objects_versions f.now) ≤ e.free + length (after_one c u (objects_versions f.now)) → VersionsTurn c (us ++ u ∷ []) m g b o at e
turn_more c us u takes named m g b n at d o e f w few most more gives =
    let some = object_fits (task_of c u).kind (write_path u.write) named.fits in
    let object = some_one (write_path u.write).obj some in
    record {
      now = w.now;
      changed = changed_then objects_owner m n o g f.now w.now f.changed w.changed;
      root_is = w.root_is;
      versions = w.versions ∙ (ap (after_one c u) f.versions ∙ (sym (ap (λ (t : Bool). if t then after_one c u (after_each c us (objects_versions g)) else after_each c us (objects_versions g)) takes) ∙ sym (after_more c us u (objects_versions g))));
      small = objects_small (task_of c u) (object_in (write_path u.write) object.0) (write_path u.write) n o f.now w.now 17 f.changed.holds w.changed.holds (w.nodes object.0 object.1) f.small;
      fits = λ k z nothing fits. fits_after_write k (task_of c u) (write_path u.write) n o at f.now z some w nothing (f.fits k z nothing fits);
      spent = more_spent (keeps c) (length (filter (takes_version c) us)) (length (filter (takes_version c) (us ++ u ∷ []))) b d e (count_more (takes_version c) us u true takes) f.spent (one_spent (keeps c) d e few most);
      free = omega (arith, f.free, more);
      gives = (let was = f.gives in let are = ap length w.versions in omega (arith, was, gives, are));
    }

pub turn_past : (c : Change) (us : List Version) (u : Version) → takes_version c u ≡ false → (m : Blocks) (g : Objects) (b : Budget) (n : Blocks) (at : ℕ) (d : Budget) → VersionsTurn c us m g b n at d → VersionsTurn c (us ++ u ∷ []) m g b n at d
turn_past c us u takes m g b n at d f = record {
  now = f.now;
  changed = f.changed;
  root_is = f.root_is;
  versions = f.versions ∙ (sym (ap (λ (t : Bool). if t then after_one c u (after_each c us (objects_versions g)) else after_each c us (objects_versions g)) takes) ∙ sym (after_more c us u (objects_versions g)));
  small = f.small;
  fits = f.fits;
  spent = subst (λ (r : ℕ). Spends (cost_of c * r) b d) (let more = count_more (takes_version c) us u false takes in omega (arith, more)) f.spent;
  free = f.free;
  gives = f.gives;
}

-- ---- none is lacking

few_more : (us : List Version) (i : ℕ) (u : Version) (c : Change) → takes_version c u ≡ true → i < length us → u ≡ get_or us i u → length (filter (takes_version c) (take i us)) + 1 ≤ length (filter (takes_version c) us)
few_more us i u c takes low is =
    let next = ap (λ (z : List Version). length (filter (takes_version c) z)) (take_next us i u low is) in
    omega (arith, next, count_more (takes_version c) (take i us) u true takes, count_part (takes_version c) us (i + 1))

kept_enough : (n : ℕ) (b d e : Budget) → n + 1 ≤ 64 → HasLeft 935 239360 b → Spends (4 * n) b d → Spends 4 d e → IsShort 17 e → ⊥
kept_enough n b d e few room spent one short =
    elim short [
      | inl ranges ↦ omega (arith, few, room.ranges, spent.ranges_most, one.ranges_most, ranges)
      | inr bytes ↦ omega (arith, few, room.bytes, spent.bytes_most, one.bytes_most, bytes)
    ]

still_left : (k : Bool) (n : ℕ) (b d : Budget) → n ≡ 0 → HasLeft 935 239360 b → Spends ((if k then 4 else 631) * n) b d → HasLeft 935 239360 d
still_left true n b d none room spent = record { ranges = omega (arith, none, room.ranges, spent.ranges_most); bytes = omega (arith, none, room.bytes, spent.bytes_most) }
still_left false n b d none room spent = record { ranges = omega (arith, none, room.ranges, spent.ranges_most); bytes = omega (arith, none, room.bytes, spent.bytes_most) }

kept_spent : (k : Bool) (n : ℕ) (b d : Budget) → k ≡ true → Spends ((if k then 4 else 631) * n) b d → Spends (4 * n) b d
kept_spent true n b d is h = h
kept_spent false n b d is h = absurd (cc)

pub none_lacks : (c : Change) (us : List Version) (i : ℕ) (u : Version) → takes_version c u ≡ true → i < length us → u ≡ get_or us i u → AreFew c us → (m : Blocks) (g : Objects) (b : Budget) (n : Blocks) (at : ℕ) (d e : Budget) → HasLeft 935 239360 b
    → VersionsTurn c (take i us) m g b n at d → (keeps c ≡ true → Spends 4 d e) → IsShort 17 e → (HasLeft 935 239360 d → ⊥) → ⊥
none_lacks c us i u takes low is few m g b n at d e room f spends short lacks =
    let more = few_more us i u c takes low is in
    elim few.few [
      | inl stay ↦ kept_enough (length (filter (takes_version c) (take i us))) b d e (omega (arith, few.most, more)) room (kept_spent (keeps c) (length (filter (takes_version c) (take i us))) b d stay f.spent) (spends stay) short
      | inr one ↦ lacks (still_left (keeps c) (length (filter (takes_version c) (take i us))) b d (omega (arith, one, more)) room f.spent)
    ]

-- ---- an entry

pub keep_entry : (a : AttemptId) (m : Blocks) (e : Entries) (at : ℕ) → Holds entries_owner m e → at ≡ hung_root e → StandsUnlisted e → EntryTurn step.Keep a m e m at
keep_entry a m e at held root un = record { now = e; changed = stays entries_owner m e held; root_is = root; stepped = refl; fits = λ k g may fits. record { fits = fits; nothing = un.nothing } }

pub commit_entry : (a : AttemptId) (m : Blocks) (e : Entries) (n : Blocks) (at : ℕ) → StandsUnlisted e → Becomes entries_owner hung_root listings m e n at (IsCommittedAt a) → EntryTurn step.Commit a m e n at
commit_entry a m e n at un b = record { now = b.now; changed = b.changed; root_is = b.root_is; stepped = b.shown_is; fits = λ k g may fits. fits_committed k a m n at g e b un.nothing fits }

pub confirm_entry : (a : AttemptId) (t : ℕ) (m : Blocks) (e : Entries) (n : Blocks) (at : ℕ) → StandsUnlisted e → Becomes entries_owner hung_root listings m e n at (IsConfirmedAt a t) → EntryTurn (step.Confirm t) a m e n at
confirm_entry a t m e n at un b = record { now = b.now; changed = b.changed; root_is = b.root_is; stepped = b.shown_is; fits = λ k g may fits. fits_confirmed k a t m n at g e may b un.nothing fits }

pub remove_entry : (a : AttemptId) (m : Blocks) (e : Entries) (n : Blocks) (at : ℕ) → StandsUnlisted e → Becomes entries_owner hung_root listings m e n at (IsGoneAt a) → EntryTurn step.Remove a m e n at
remove_entry a m e n at un b = record { now = b.now; changed = b.changed; root_is = b.root_is; stepped = b.shown_is; fits = λ k g may fits. fits_without_entry k a m n at g e b un.nothing fits }

pub lacks_none : (a : AttemptId) (m : Blocks) (e : Entries) (b : Budget) → Holds entries_owner m e → StandsUnlisted e → HasLeft 304 77824 b → FewerThan (list_blocks_at a (things e)) b → ⊥
lacks_none a m e b held un room few = marks_fit b (record { ranges = omega (arith, room.ranges); bytes = omega (arith, room.bytes) }) (subst (λ (n : ℕ). FewerThan n b) (unlisted_take_none m e a held un.nothing) few)

pub lacks_none_out : (a : AttemptId) (m : Blocks) (e : Entries) (b : Budget) → Holds entries_owner m e → StandsUnlisted e → HasLeft 304 77824 b → FewerToRemove (list_blocks_at a (things e)) e.0 b → ⊥
lacks_none_out a m e b held un room few = entries_fit_out e b un.small room (subst (λ (n : ℕ). FewerToRemove n e.0 b) (unlisted_take_none m e a held un.nothing) few)

some_left : (r y : ℕ) (b d : Budget) → r ≤ 303 → y ≤ 77800 → HasLeft 304 77824 b → IsSpent r y b d → HasLeft 1 24 d
some_left r y b d few fewer room spent = record { ranges = omega (arith, few, room.ranges, spent.ranges_most); bytes = omega (arith, fewer, room.bytes, spent.bytes_most) }

pub kept_left : (b : Budget) → HasLeft 304 77824 b → HasLeft 1 24 b
kept_left b room = record { ranges = omega (arith, room.ranges); bytes = omega (arith, room.bytes) }

pub committed_left : (a : AttemptId) (m : Blocks) (e : Entries) (b d : Budget) → Holds entries_owner m e → StandsUnlisted e → HasLeft 304 77824 b → IsSpent (list_blocks_at a (things e) + 1) (list_blocks_at a (things e) + 256) b d → HasLeft 1 24 d
committed_left a m e b d held un room spent =
    let none = unlisted_take_none m e a held un.nothing in
    some_left (list_blocks_at a (things e) + 1) (list_blocks_at a (things e) + 256) b d (omega (arith, none)) (omega (arith, none)) room spent

pub confirmed_left : (b d : Budget) → HasLeft 304 77824 b → IsSpent 1 256 b d → HasLeft 1 24 d
confirmed_left b d room spent = some_left 1 256 b d (omega arith) (omega arith) room spent

pub removed_left : (a : AttemptId) (m : Blocks) (e : Entries) (b d : Budget) → Holds entries_owner m e → StandsUnlisted e → HasLeft 304 77824 b → StagesToRemove (list_blocks_at a (things e)) e.0 b d → HasLeft 1 24 d
removed_left a m e b d held un room spent =
    let none = unlisted_take_none m e a held un.nothing in
    some_left (list_blocks_at a (things e) + 152) (list_blocks_at a (things e) + 38912) b d (omega (arith, none)) (omega (arith, none)) room (spent 17 un.small)

-- ---- both

pub objects_below : (m : Blocks) (o e : ℕ) (x : Stored) → StandsBelow m o e x → Holds objects_owner m x.0
objects_below m o e x s = holds_first objects_owner entries_owner m x s.holds

pub entries_after : (c : Change) (us : List Version) (m : Blocks) (o e : ℕ) (x : Stored) (b : Budget) (n : Blocks) (d : Budget) → StandsBelow m o e x → VersionsTurn c us m x.0 b n o d → Holds entries_owner n x.1
entries_after c us m o e x b n d s f = holds_second objects_owner entries_owner n (f.now, x.1) (changed_first objects_owner entries_owner m n x.0 f.now x.1 s.holds f.changed).holds

pub unlisted_below : (m : Blocks) (o e : ℕ) (x : Stored) → StandsBelow m o e x → StandsUnlisted x.1
unlisted_below m o e x s = record { nothing = s.nothing; small = s.small.entries }

few_cost : (k : Bool) (n : ℕ) (b d : Budget) → (k ≡ true) ⊎ (n ≤ 1) → n ≤ 64 → HasLeft 1024 256000 b → Spends ((if k then 4 else 631) * n) b d → HasLeft 304 77824 d
few_cost true n b d one most room spent = record { ranges = omega (arith, most, room.ranges, spent.ranges_most); bytes = omega (arith, most, room.bytes, spent.bytes_most) }
few_cost false n b d (inl never) most room spent = absurd (cc)
few_cost false n b d (inr one) most room spent = record { ranges = omega (arith, one, room.ranges, spent.ranges_most); bytes = omega (arith, one, room.bytes, spent.bytes_most) }

pub room_after : (c : Change) (us : List Version) (m : Blocks) (g : Objects) (b : Budget) (n : Blocks) (at : ℕ) (d : Budget) → AreFew c us → HasLeft 1024 256000 b → VersionsTurn c us m g b n at d → HasLeft 304 77824 d
room_after c us m g b n at d few room f = few_cost (keeps c) (length (filter (takes_version c) us)) b d few.few few.most room f.spent

pub both_turned : (c : Change) (us : List Version) (a : AttemptId) (s : EntryStep) (m : Blocks) (o e : ℕ) (x : Stored) (b : Budget) (n : Blocks) (d : Budget) (k : Blocks) (root : ℕ) → StandsBelow m o e x → VersionsTurn c us m x.0 b n o d → EntryTurn s a n x.1 k root → TurnsTo c us a s m x k o root
both_turned c us a s m o e x b n d k root below f t =
    let first = changed_first objects_owner entries_owner m n x.0 f.now x.1 below.holds f.changed in
    record {
      now = (f.now, t.now);
      changed = changed_then stored_owner m n k x (f.now, x.1) (f.now, t.now) first (changed_second objects_owner entries_owner n k f.now x.1 t.now first.holds t.changed);
      objects_root = f.root_is;
      entries_root = t.root_is;
      turned = record { versions = f.versions; entries = t.stepped };
      fits = λ z may fits. t.fits z f.now may (f.fits z x.1 below.nothing fits);
    }
