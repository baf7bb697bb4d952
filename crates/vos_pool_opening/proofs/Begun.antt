-- What an opening comes to, by the pool that the region became.
use Rattle.std.specs.Prelude.{◌≡◌, ◌⊎◌, ◌≤◌, ℕ, Bool, true, false, IfErr, IfOk, IsTrue, List, OnOk, Ok, Err, Result, Some, cond}
use Rattle.std.specs.Option.{option_map}
use Rattle.std.proofs.Common.{inl, inr, refl, sym, ap, subst, ◌∙◌, arith}
use mathlib.Core.Path.{fun_ext}
use Rattle.base_outside.specs.Causes.{Rose}
use Rattle.base_outside.specs.Images.{Image}
use Rattle.base_outside.specs.declared.region.Region.{Ghosts}
use Rattle.daos_model.specs.BoolLaws.{clash}
use Rattle.daos_model.specs.declared.durable.Durable.{Durable}
use Rattle.pmem_alloc.specs.Blocks.{free_count}
use Rattle.pmem_undo.specs.Layout.{SameContent, gate, is_content}
use Rattle.pmem_undo.specs.Settled.{IsAtRest, IsAttachable, settled}
use Rattle.vos_check_entries.specs.declared.entry.EntryRow.{EntryRow}
use Rattle.vos_check_region.specs.Blank.{IsBlank}
use Rattle.vos_commits.specs.Kept.{content_of, kept_in}
use Rattle.vos_pool_held.specs.declared.held.Held.{Held}
use Rattle.vos_pool_held.specs.vos_pool_base.Pool.{OpenedState, kept_by, kept_of}
use Rattle.vos_pool_held.specs.vos_pool_base.vos_image.Kept.{kept}
use Rattle.vos_pool_make.specs.Made.{IsMade, IsRefused, LeavesUnopened, StandsWith, has_stopped}
use Rattle.vos_pool_make.specs.declared.cause.OpenCause.{OpenCause}
use Rattle.vos_pool_make.specs.declared.cause.OpenCause.TheVariants as cause
use Rattle.vos_pool_opening.proofs.Ways.{rises-before, some-fewer}
use Rattle.vos_pool_opening.specs.Beginning.{begun}
use Rattle.vos_pool_opening.specs.Opening.{HasBegun, HasNotBegun, IsBackOf, IsBegunOf, IsGivenUp, IsLack, LeavesOn}
use Rattle.vos_pool_held.specs.vos_pool_base.vos_standing.Standing.{Stand}
use Rattle.vos_pool_opening.specs.Tidied.{StandsThere}
use Rattle.vos_pool_opening.specs.Ways.{IsWay}
use Rattle.vos_pool_site.specs.Left.{StandsInSome}
use Rattle.vos_pool_opening.specs.declared.beginning.Asked.{Asked}
use Rattle.vos_pool_opening.specs.declared.beginning.Beginning.{Beginning}
use Rattle.vos_pool_steps.proofs.vos_pool_base.Leaving.{free_as, free_at}
use Rattle.vos_pool_steps.proofs.vos_pool_base.vos_standing.Committed.{contents_stand}

pub if-ok : {A E : Type 0} (r : Result A E) (P Q : A → Type 0) → ((a : A) → P a → Q a) → IfOk r P → IfOk r Q
if-ok (Ok a) P Q f k = f a k
if-ok (Err e) P Q f k = tt

pub if-err : {A E : Type 0} (r : Result A E) (P Q : E → Type 0) → ((e : E) → P e → Q e) → IfErr r P → IfErr r Q
if-err (Ok a) P Q f k = tt
if-err (Err e) P Q f k = f e k

pub ok-is : {A E : Type 0} (r : Result A E) (a : A) (P : A → Type 0) → r ≡ Ok a → IfOk r P → P a
ok-is r a P is k = subst (λ s. IfOk s P) is k

pub ok-was : {A E : Type 0} {P : Type 0} (r : Result A E) (a : A) → r ≡ Ok a → OnOk r P → P
ok-was {P = P} r a is k = subst (λ s. OnOk s P) is k

pub err-is : {A E : Type 0} (r : Result A E) (e : E) (P : E → Type 0) → r ≡ Err e → IfErr r P → P e
err-is r e P is k = subst (λ s. IfErr s P) is k

-- ---- a way after another one

module _ {R : Type 0} (b : Beginning) (tells : Bool) (extent count burns : R → ℕ) (image : R → Image) (may_leave : R → Image → Type 0) where
  pub way-then : (p q r : OpenedState R) → IsWay b tells extent count burns image may_leave p q → kept_of tells extent image q ≡ kept_of tells extent image p → IsWay b tells extent count burns image may_leave q r
      → IsWay b tells extent count burns image may_leave p r
  way-then p q r first same next = record {
    found = λ x found. elim (next.found x found) [
      | inl before ↦ first.found x before
      | inr after ↦ inr (after ∙ ap (option_map (begun b)) same)
    ];
    left = λ tell c may. some-fewer (extent r.blocks.undo.region) r.table.header.target r.table.header.targets (free_count p.blocks) (free_count q.blocks) c first.free (next.left tell c may);
    target = next.target ∙ first.target;
    targets = next.targets ∙ first.targets;
    free = let one = first.free in let two = next.free in omega (arith, one, two);
    size = next.size ∙ first.size;
    later_faults = let one = first.later_faults in let two = next.later_faults in omega (arith, one, two);
    later_burns = let one = first.later_burns in let two = next.later_burns in omega (arith, one, two);
    cause = λ stopped. rises-before (count p.blocks.undo.region) (count q.blocks.undo.region) (count r.blocks.undo.region) (burns p.blocks.undo.region) (burns q.blocks.undo.region) (burns r.blocks.undo.region) first.later_faults first.later_burns (next.cause stopped);
  }

  -- what is given up of a later pool is given up of an earlier one
  pub given-up-then : (p q : OpenedState R) (back : R) (why : OpenCause) → IsWay b tells extent count burns image may_leave p q → kept_of tells extent image q ≡ kept_of tells extent image p → IsGivenUp b tells extent count burns image may_leave q back why
      → IsGivenUp b tells extent count burns image may_leave p back why
  given-up-then p q back why first same g = record { last = g.last; way = way-then p q g.last first same g.way; region = g.region; lack = g.lack; attachable = g.attachable }

-- what is handed back of a later pool for want of memory is given up of the first one
pub back-up : {R : Type 0} (b : Beginning) (tells : Bool) (extent count burns : R → ℕ) (image : R → Image) (may_leave : R → Image → Type 0) (p q : OpenedState R) (back : R) (why : OpenCause) → IsWay b tells extent count burns image may_leave p q
    → IsBackOf tells extent may_leave q back why → IsGivenUp b tells extent count burns image may_leave p back why
back-up b tells extent count burns image may_leave p q back why way g = record { last = q; way = way; region = g.region; lack = subst (IsLack q.blocks.undo.stopped) (sym g.memory) tt; attachable = g.attachable }

-- what stands with entries stands there
pub stands-there : {R : Type 0} (target : ℕ) (extent : R → ℕ) (image : R → Image) (p : OpenedState R) (rows rows' : List EntryRow) → p.table.header.target ≡ target → rows' ≡ rows → StandsWith target (extent p.blocks.undo.region) (image p.blocks.undo.region) p.table rows
    → StandsThere extent image p rows'
stands-there target extent image p rows rows' is rows_are s = record {
  stored = s.stored;
  stands = subst (λ (t : ℕ). Stand t (extent p.blocks.undo.region) (image p.blocks.undo.region) p.table s.stored) (sym is) s.stands;
  rows_are = rows_are ∙ s.entries;
}

-- ---- not begun

lack-refused : (target targets size : ℕ) (f : Image) (stopped : Bool) (why : OpenCause) → IsLack stopped why → IsRefused target targets size f why
lack-refused target targets size f stopped cause.Stopped lack = tt
lack-refused target targets size f stopped cause.Memory lack = tt
lack-refused target targets size f stopped (cause.Foreign at byte) lack = absurd lack
lack-refused target targets size f stopped (cause.Shape found asked) lack = absurd lack

lack-stopped : (stopped : Bool) (why : OpenCause) → IsLack stopped why → has_stopped why ≡ true → stopped ≡ true
lack-stopped stopped cause.Stopped lack is = lack
lack-stopped stopped cause.Memory lack is = absurd (clash false is refl)
lack-stopped stopped (cause.Foreign at byte) lack is = absurd lack
lack-stopped stopped (cause.Shape found asked) lack is = absurd lack

settled-closed : (size : ℕ) (f : Image) → f gate ≡ 0 → settled size f ≡ f
unfolding settled
settled-closed size f closed = rw closed refl

-- an image that the log of another one was rolled back into keeps the same
kept-rolled : (target size : ℕ) (f g : Image) → g gate ≡ 0 → g ≡ settled size f → kept_in (kept target size) size g ≡ kept_in (kept target size) size f
unfolding kept_in
kept-rolled target size f g closed rolled = ap (λ (h : Image). kept target size (content_of h)) (settled-closed size g closed ∙ rolled)

kept-there : (tells : Bool) (target size : ℕ) (f : Image) (x : Durable) (change : Durable → Durable) → IsTrue tells → Some x ≡ option_map change (kept_by tells target size f) → x ≡ change (kept_in (kept target size) size f)
kept-there false target size f x change told is = absurd (clash false told refl)
kept-there true target size f x change told is = cc

kept-at : (t t' n n' : ℕ) (c : Image) → t ≡ t' → n ≡ n' → kept_in (kept t n) n c ≡ kept_in (kept t' n') n' c
kept-at t t' n n' c target size = ap (λ (k : ℕ). kept_in (kept k n) n c) target ∙ ap (λ (m : ℕ). kept_in (kept t' m) m c) size

-- at rest only what is read is left
one-left : (f d : Image) (may_leave : Image → Type 0) → IsAtRest f may_leave → may_leave d → d ≡ f
one-left f d may_leave rest may = fun_ext (λ i. rest.only d may i)

-- ---- of the pool that a region became

module _ {R : Type 0} (tells : Bool) (extent count burns : R → ℕ) (image : R → Image) (may_leave : R → Image → Type 0) (asked : Asked) (region : R) (p : OpenedState R) (rows : List EntryRow)
    (made : IsMade tells extent count burns image asked.target asked.targets region p rows)
    (rest : IsTrue tells → IsAtRest (image p.blocks.undo.region) (may_leave p.blocks.undo.region))
    (frees : IsTrue tells → free_count p.blocks ≡ free_at (extent p.blocks.undo.region) (image p.blocks.undo.region)) where
  -- what it keeps is what the region kept
  keeps-as : IsTrue tells → (IsBlank (extent region) (image region) → ⊥) → kept_in (kept p.table.header.target (extent p.blocks.undo.region)) (extent p.blocks.undo.region) (image p.blocks.undo.region) ≡ kept_in (kept asked.target (extent region)) (extent region) (image region)
  keeps-as tell unblank =
      kept-at p.table.header.target asked.target (extent p.blocks.undo.region) (extent region) (image p.blocks.undo.region) made.target_is made.size
      ∙ kept-rolled asked.target (extent region) (image region) (image p.blocks.undo.region) (rest tell).closed (made.rolled tell unblank)

  -- so many blocks are free in it as in the region once its log was rolled back
  frees-as : IsTrue tells → (IsBlank (extent region) (image region) → ⊥) → free_count p.blocks ≡ free_at (extent region) (settled (extent region) (image region))
  frees-as tell unblank = frees tell ∙ (ap (λ (n : ℕ). free_at n (image p.blocks.undo.region)) made.size ∙ ap (free_at (extent region)) (made.rolled tell unblank))

  module _ (back : R) (why : OpenCause) (g : IsGivenUp asked.beginning tells extent count burns image may_leave p back why) where
    long : extent g.last.blocks.undo.region ≡ extent region
    long = g.way.size ∙ made.size

    target-as : g.last.table.header.target ≡ asked.target
    target-as = g.way.target ∙ made.target_is

    targets-as : g.last.table.header.targets ≡ asked.targets
    targets-as = g.way.targets ∙ made.targets_are

    left-of-last : (c : Image) → may_leave back c → may_leave g.last.blocks.undo.region c
    left-of-last c = subst (λ (r : R). may_leave r c) g.region

    keeps-of : IsTrue tells → (IsBlank (extent region) (image region) → ⊥) → (c : Image) → may_leave back c
        → (kept_in (kept asked.target (extent region)) (extent region) c ≡ kept_in (kept asked.target (extent region)) (extent region) (image region))
        ⊎ (kept_in (kept asked.target (extent region)) (extent region) c ≡ begun asked.beginning (kept_in (kept asked.target (extent region)) (extent region) (image region)))
    keeps-of tell unblank c may =
        let at = kept-at g.last.table.header.target asked.target (extent g.last.blocks.undo.region) (extent region) c target-as long in
        let was = keeps-as tell unblank in
        elim (g.way.found (kept_in (kept g.last.table.header.target (extent g.last.blocks.undo.region)) (extent g.last.blocks.undo.region) c) (tell, (c, (left-of-last c may, refl)))) [
          | inl before ↦
              inl (sym at ∙ (before.1.1.1
              ∙ (ap (kept_in (kept p.table.header.target (extent p.blocks.undo.region)) (extent p.blocks.undo.region)) (one-left (image p.blocks.undo.region) before.1.0 (may_leave p.blocks.undo.region) (rest tell) before.1.1.0) ∙ was)))
          | inr after ↦ inr (sym at ∙ (kept-there tells p.table.header.target (extent p.blocks.undo.region) (image p.blocks.undo.region) _ (begun asked.beginning) tell after ∙ ap (begun asked.beginning) was))
        ]

    stands-of : IsTrue tells → (IsBlank (extent region) (image region) → ⊥) → (c : Image) → may_leave back c → (few : ℕ) → StandsInSome (extent region) asked.target asked.targets few (image region) → StandsInSome (extent region) asked.target asked.targets few c
    stands-of tell unblank c may few s =
        let there = g.way.left tell c (left-of-last c may) in
        let free = s.stands.free in
        let as_free = frees-as tell unblank in
        let less : few ≤ free_count p.blocks = omega (arith, free, as_free) in
        let there_here : StandsInSome (extent region) asked.target asked.targets (free_count p.blocks) c =
        subst (λ (n : ℕ). StandsInSome n asked.target asked.targets (free_count p.blocks) c) long
        (subst (λ (k : ℕ). StandsInSome (extent g.last.blocks.undo.region) asked.target k (free_count p.blocks) c) targets-as
        (subst (λ (k : ℕ). StandsInSome (extent g.last.blocks.undo.region) k g.last.table.header.targets (free_count p.blocks) c) target-as there)) in
        some-fewer (extent region) asked.target asked.targets few (free_count p.blocks) c less there_here

    back-long : extent back ≡ extent region
    back-long = ap extent g.region ∙ long

    pub given-back : HasNotBegun tells extent count burns image may_leave asked region back why
    given-back = record {
      refused = λ tell. lack-refused asked.target asked.targets (extent region) (image region) g.last.blocks.undo.stopped why g.lack;
      handed_over = record {
        size = back-long;
        later_faults = let one = made.later_faults in let two = g.way.later_faults in let e = ap count g.region in omega (arith, one, two, e);
        later_burns = let one = made.later_burns in let two = g.way.later_burns in let e = ap burns g.region in omega (arith, one, two, e);
        stopped = λ says.
            subst (λ (r : R). Rose (count region) (count r) ⊎ Rose (burns region) (burns r)) (sym g.region)
            (rises-before (count region) (count p.blocks.undo.region) (count g.last.blocks.undo.region) (burns region) (burns p.blocks.undo.region) (burns g.last.blocks.undo.region) made.later_faults made.later_burns
            (g.way.cause (lack-stopped g.last.blocks.undo.stopped why g.lack says)));
      };
      left = λ tell unblank c may. inr (record {
        attachable = subst (λ (n : ℕ). IsAttachable n c) back-long (g.attachable tell c may);
        keeps = keeps-of tell unblank c may;
        stands = stands-of tell unblank c may;
      });
    }

-- ---- begun

module _ {R : Type 0} {Q : Ghosts R} (tells : Bool) (extent count burns : R → ℕ) (image : R → Image) (may_leave : R → Image → Type 0) (asked : Asked) (blank : Bool) (region : R) (p q : OpenedState R) (rows : List EntryRow) (h : Held R Q)
    (made : IsMade tells extent count burns image asked.target asked.targets region p rows)
    (rest : IsTrue tells → IsAtRest (image p.blocks.undo.region) (may_leave p.blocks.undo.region))
    (frees : IsTrue tells → free_count p.blocks ≡ free_at (extent p.blocks.undo.region) (image p.blocks.undo.region))
    (told : IsTrue tells → blank ≡ true → IsBlank (extent region) (image region))
    (untold : IsTrue tells → blank ≡ false → IsBlank (extent region) (image region) → ⊥)
    (way : IsWay asked.beginning tells extent count burns image may_leave p q) (same : kept_of tells extent image q ≡ kept_of tells extent image p)
    (b : IsBegunOf tells extent count burns image asked blank q h) where
  is-blank : IsTrue tells → IsBlank (extent region) (image region) → blank ≡ true
  is-blank tell zeros = by blank refl
    where
      by : (t : Bool) → blank ≡ t → blank ≡ true
      by true is = is
      by false is = absurd (untold tell is zeros)

  isnt-blank : IsTrue tells → (IsBlank (extent region) (image region) → ⊥) → blank ≡ false
  isnt-blank tell unblank = by blank refl
    where
      by : (t : Bool) → blank ≡ t → blank ≡ false
      by true is = absurd (unblank (told tell is))
      by false is = is

  tells-kept : IsTrue tells → kept_of tells extent image p ≡ Some (kept_in (kept p.table.header.target (extent p.blocks.undo.region)) (extent p.blocks.undo.region) (image p.blocks.undo.region))
  tells-kept tell = by tells tell
    where
      by : (t : Bool) → IsTrue t → kept_by t p.table.header.target (extent p.blocks.undo.region) (image p.blocks.undo.region) ≡ Some (kept_in (kept p.table.header.target (extent p.blocks.undo.region)) (extent p.blocks.undo.region) (image p.blocks.undo.region))
      by true tell = refl
      by false tell = absurd (clash false tell refl)

  pub begun-of : HasBegun tells extent count burns image asked region h
  begun-of = record {
    blank = λ tell zeros. b.same (is-blank tell zeros) ∙ (same ∙ (tells-kept tell ∙ ap (λ (d : Durable). Some d) ((made.keeps tell _ (tells-kept tell)).blank zeros)));
    written = λ tell unblank.
        b.begun_is (isnt-blank tell unblank)
        ∙ (ap (option_map (begun asked.beginning)) (same ∙ (tells-kept tell ∙ ap (λ (d : Durable). Some d) ((made.keeps tell _ (tells-kept tell)).written unblank))));
    free = λ tell unblank. let one = way.free in let two = b.free in let three = frees-as tells extent count burns image may_leave asked region p rows made rest frees tell unblank in omega (arith, one, two, three);
    floor = b.floor;
    why = b.why;
    running = b.running;
    target_is = b.target_is;
    targets_are = b.targets_are;
    size = b.size ∙ (way.size ∙ made.size);
    later_faults = let one = made.later_faults in let two = way.later_faults in let three = b.later_faults in omega (arith, one, two, three);
    later_burns = let one = made.later_burns in let two = way.later_burns in let three = b.later_burns in omega (arith, one, two, three);
  }

-- ---- refused before a pool was there

same-content : (f g : Image) → SameContent f g → content_of f ≡ content_of g
unfolding content_of
same-content f g same = fun_ext (λ i. by i (is_content i) (same i))
  where
    by : (i : ℕ) (t : Bool) → (t ≡ true → f i ≡ g i) → cond t (f i) 0 ≡ cond t (g i) 0
    by i true h = h refl
    by i false h = refl

kept-by-content : (target size : ℕ) (f c : Image) → SameContent (settled size c) (settled size f) → kept_in (kept target size) size c ≡ kept_in (kept target size) size f
unfolding kept_in
kept-by-content target size f c same = ap (kept target size) (same-content (settled size c) (settled size f) same)

stands-by-content : (size target targets few : ℕ) (f c : Image) → SameContent (settled size c) (settled size f) → StandsInSome size target targets few f → StandsInSome size target targets few c
stands-by-content size target targets few f c same s = record {
  layout = s.layout;
  stands = record {
    table = s.stands.table;
    stored = s.stands.stored;
    stands = contents_stand target size (settled size f) (settled size c) s.stands.table s.stands.stored same s.stands.stands;
    targets_as = s.stands.targets_as;
    layout_as = s.stands.layout_as;
    free = let free = s.stands.free in let e = free_as size (settled size f) (settled size c) same in omega (arith, free, e);
  };
}

pub refused-leaves : {R : Type 0} (extent : R → ℕ) (image : R → Image) (may_leave : R → Image → Type 0) (asked : Asked) (region back : R) → LeavesUnopened extent image may_leave asked.target asked.targets region back → LeavesOn extent image may_leave asked region back
refused-leaves extent image may_leave asked region back left unblank c may = elim (left c may) [
  | inl before ↦ inl before
  | inr after ↦ elim after [
    | inl stands ↦
        inr (record {
          attachable = stands.attachable;
          keeps = inl (kept-by-content asked.target (extent region) (image region) c stands.content);
          stands = λ few s. stands-by-content (extent region) asked.target asked.targets few (image region) c stands.content s;
        })
    | inr fresh ↦ absurd (unblank fresh.0)
  ]
]
