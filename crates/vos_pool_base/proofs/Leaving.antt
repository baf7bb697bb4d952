-- What may be left of a pool stands after a commit, and tidy stays tidy.
use Rattle.std.proofs.Common.{◌≡◌, ℕ, ◌+◌, ◌/◌, ◌≤◌, Bool, true, false, List, [], ◌∷◌, length, refl, sym, ap, ◌∙◌, subst, arith, inl, inr}
use Rattle.std.specs.Prelude.{IsTrue}
use Rattle.std.proofs.lemmas.Bool.Decides.{nat_tests}
use mathlib.Core.Path.{fun_ext}
use Rattle.base_outside.specs.Images.{Image, NoMore, Range, all_over, lies_in, over}
use Rattle.base_outside.specs.ImageLaws.{over_outside}
use Rattle.pmem_alloc.specs.Blocks.{BlocksState}
use Rattle.pmem_alloc.specs.Map.{blocks_end, free_blocks, is_free}
use Rattle.pmem_alloc.specs.Sets.{count_below}
use Rattle.pmem_undo.specs.Layout.{SameContent, gate, is_content}
use Rattle.pmem_undo.specs.Settled.{settled}
use Rattle.vos_commits.specs.Kept.{IsCommit}
use Rattle.vos_standing.specs.vos_image.Kept.{Stored}
use Rattle.vos_standing.specs.vos_image.Places.{Header}
use Rattle.vos_standing.specs.vos_places.declared.codec.Counters.{Counters}
use Rattle.vos_standing.specs.vos_places.Laws.{counted, counter_range}
use Rattle.vos_standing.specs.vos_places.Tables.{Table}
use Rattle.vos_standing.proofs.vos_places.Writing.{length_cont, length_counters, length_snap}
use Rattle.vos_pool_base.specs.Pool.{HasStood, OpenedState, ranges_of}
use Rattle.vos_pool_base.specs.Tidy.{IfTidy, IsLeftStanding, IsSamePool, IsTidy, LeavesBut, LeavesStanding}
use Rattle.vos_pool_base.proofs.Changing.{headers_stay}
use Rattle.vos_pool_base.proofs.Staging.{with_ranges}
use Rattle.vos_pool_base.proofs.Writing.{IsCallOf, StandsThen}
use Rattle.vos_standing.specs.Standing.{Stand}
use Rattle.vos_standing.proofs.Committed.{contents_stand}
use Rattle.vos_tables.specs.declared.change.Change.{Change}
use Rattle.vos_tables.specs.declared.change.Change.TheVariants.{Cont, Snapshot, Unused}
use Rattle.vos_tables.specs.Changes.{AllFit, Fits, all_changed, changed, range_of}

-- ---- free blocks of an image

abbrev pub free_at : ℕ → Image → ℕ
free_at size f = count_below (free_blocks size f) (blocks_end size)

free_same : (size : ℕ) (f g : Image) → SameContent g f → free_blocks size g ≡ free_blocks size f
unfolding free_blocks
free_same size f g same = fun_ext (λ b. let is : is_content (307200 + b / 8) ≡ true = grind (arith, nat_tests) in ap (λ (n : ℕ). is_free (blocks_end size) n b) (same (307200 + b / 8) is))

pub free_as : (size : ℕ) (f g : Image) → SameContent g f → free_at size g ≡ free_at size f
free_as size f g same = ap (λ s. count_below s (blocks_end size)) (free_same size f g same)

-- ---- what may be left

settled_closed : (size : ℕ) (f : Image) → f gate ≡ 0 → settled size f ≡ f
unfolding settled
settled_closed size f closed = rw closed refl

-- with fewer blocks free
left_fewer : (size target targets layout few before : ℕ) (c : Image) → few ≤ before → IsLeftStanding size target targets layout before c → IsLeftStanding size target targets layout few c
left_fewer size target targets layout few before c less s = record { table = s.table; stored = s.stored; stands = s.stands; targets_as = s.targets_as; layout_as = s.layout_as; free = let free = s.free in omega (arith, free, less) }

-- where no more may be left
pub left_no_more : (size target targets layout few before : ℕ) (old new : Image → Type 0) → few ≤ before → NoMore old new → LeavesStanding size target targets layout before old → LeavesStanding size target targets layout few new
left_no_more size target targets layout few before old new less no_more left c may = left_fewer size target targets layout few before c less (left c (no_more c may))

-- by the content once its log was rolled back
left_as : (size target targets layout few : ℕ) (c d : Image) → SameContent (settled size c) (settled size d) → IsLeftStanding size target targets layout few d → IsLeftStanding size target targets layout few c
left_as size target targets layout few c d same s = record {
  table = s.table;
  stored = s.stored;
  stands = contents_stand target size (settled size d) (settled size c) s.table s.stored same s.stands;
  targets_as = s.targets_as;
  layout_as = s.layout_as;
  free = let free = s.free in let e = free_as size (settled size d) (settled size c) same in omega (arith, free, e);
}

-- after a commit with which this stands, and that takes so many free blocks at most
module _ (size target few before cost : ℕ) (f g : Image) (old new : Image → Type 0) (t u : Table) (ranges : List Range) (done : Bool) (y : Stored) where
  pub left_after : IsCommit size ranges done f g old new → Stand target size (all_over ranges f) u y → IsSamePool t u → free_at size f ≤ free_at size (all_over ranges f) + cost → few + cost ≤ before
      → LeavesStanding size target t.header.targets t.header.layout before old → LeavesStanding size target t.header.targets t.header.layout few new
  left_after k stands same spent less left c may =
      let from = k.from c may in
      let is : from.0 ≡ f = fun_ext (λ i. k.rest.only from.0 from.1.0 i) in
      let was = left from.0 from.1.0 in
      let still : settled size from.0 ≡ f = ap (settled size) is ∙ settled_closed size f k.rest.closed in
      elim from.1.1 [
        | inl before_it ↦ left_fewer size target t.header.targets t.header.layout few before c (omega (arith, less)) (left_as size target t.header.targets t.header.layout before c from.0 before_it was)
        | inr after ↦
            let then_it : SameContent (settled size c) (all_over ranges f) = subst (λ (d : Image). SameContent (settled size c) (all_over ranges d)) still after in
            record {
              table = u;
              stored = y;
              stands = contents_stand target size (all_over ranges f) (settled size c) u y then_it stands;
              targets_as = same.targets;
              layout_as = same.layout;
              free =
                  let were = was.free in
                  let e : free_at size (settled size from.0) ≡ free_at size f = ap (free_at size) still in
                  let h = free_as size (all_over ranges f) (settled size c) then_it in
                  omega (arith, were, e, h, spent, less);
            }
      ]

-- at rest what stands is all that may be left
pub left_at_rest : (size target : ℕ) (f : Image) (old : Image → Type 0) (t : Table) (x : Stored) → f gate ≡ 0 → ((c : Image) → old c → (i : ℕ) → c i ≡ f i) → Stand target size f t x → LeavesStanding size target t.header.targets t.header.layout (free_at size f) old
left_at_rest size target f old t x closed only s c may =
    let is : c ≡ f = fun_ext (λ i. only c may i) in
    let still : settled size c ≡ f = ap (settled size) is ∙ settled_closed size f closed in
    record {
      table = t;
      stored = x;
      stands = subst (λ (d : Image). Stand target size d t x) (sym still) s;
      targets_as = refl;
      layout_as = refl;
      free = let e : free_at size (settled size c) ≡ free_at size f = ap (free_at size) still in omega (arith, e);
    }

-- ---- tidy

pub tidy_after : (size : ℕ) (f g : Image) (t u : Table) (ranges : List Range) → IsTidy size f t → StandsThen t.header.target size f ranges t u → IsSamePool t u → SameContent g (all_over ranges f) → IsTidy size g u
tidy_after size f g t u ranges h stand_then same written = record {
  stored = h.stored;
  stands = subst (λ (n : ℕ). Stand n size g u h.stored) (sym same.target) (contents_stand t.header.target size (all_over ranges f) g u h.stored written (stand_then h.stored h.stands));
  layout = same.layout ∙ h.layout;
  counted = h.counted;
  unlisted = h.unlisted;
  few = h.few;
}

-- ---- of pools

pub leaves_at : (size size' few : ℕ) (t v : Table) (m : Image → Type 0) → size' ≡ size → IsSamePool t v → LeavesStanding size t.header.target t.header.targets t.header.layout few m → LeavesStanding size' v.header.target v.header.targets v.header.layout few m
leaves_at size size' few t v m long same =
    subst (λ (n : ℕ). LeavesStanding size t.header.target t.header.targets t.header.layout few m → LeavesStanding n v.header.target v.header.targets v.header.layout few m) (sym long)
    (subst (λ (n : ℕ). LeavesStanding size t.header.target t.header.targets t.header.layout few m → LeavesStanding size n v.header.targets v.header.layout few m) (sym same.target)
    (subst (λ (n : ℕ). LeavesStanding size t.header.target t.header.targets t.header.layout few m → LeavesStanding size t.header.target n v.header.layout few m) (sym same.targets)
    (subst (λ (n : ℕ). LeavesStanding size t.header.target t.header.targets t.header.layout few m → LeavesStanding size t.header.target t.header.targets n few m) (sym same.layout) (λ h. h))))

pub same_pool : (t : Table) → IsSamePool t t
same_pool t = record { target = refl; targets = refl; layout = refl }

pub counted_same : (c : Counters) (t : Table) → IsSamePool t (counted c t)
counted_same c t = record { target = refl; targets = refl; layout = refl }

-- nothing was done
pub leaves_same : {R : Type 0} (tells : Bool) (extent : R → ℕ) (may_leave : R → Image → Type 0) (p : OpenedState R) → LeavesBut tells extent may_leave 0 p p
leaves_same tells extent may_leave p = record {
  same = same_pool p.table;
  left = λ few before less left tell. left_no_more _ _ _ _ few before _ _ (omega (arith, less)) (λ c may. may) (left tell);
}

-- a call that staged ranges outside the map and committed them
module _ {R : Type 0} (extent : R → ℕ) (tells : Bool) (image : R → Image) (may_leave : R → Image → Type 0) (p : OpenedState R) (after : BlocksState R) (u v : Table) (ranges : List Range) (done : Bool) where
  abbrev Leaving : BlocksState R → Type 0
  Leaving staged = IsCallOf extent tells image may_leave done staged after → IsSamePool p.table u → IsSamePool p.table v
      → (IsTrue tells → p.blocks.undo.stopped ≡ false → HasStood (extent p.blocks.undo.region) (image p.blocks.undo.region) p.table)
      → StandsThen p.table.header.target (extent p.blocks.undo.region) (image p.blocks.undo.region) ranges p.table u
      → free_at (extent p.blocks.undo.region) (all_over ranges (image p.blocks.undo.region)) ≡ free_at (extent p.blocks.undo.region) (image p.blocks.undo.region)
      → LeavesBut tells extent may_leave 0 p (record { blocks = after; table = v })

  leaving : Leaving (with_ranges ranges p.blocks)
  leaving k same now h stand_then free = record {
    same = now;
    left = λ few before less left tell.
        leaves_at (extent p.blocks.undo.region) (extent after.undo.region) few p.table v (may_leave after.undo.region) k.size now (by few before less (left tell) tell p.blocks.undo.stopped refl);
  }
    where
      by : (few before : ℕ) → few + 0 ≤ before → LeavesStanding (extent p.blocks.undo.region) p.table.header.target p.table.header.targets p.table.header.layout before (may_leave p.blocks.undo.region) → IsTrue tells
          → (s : Bool) → p.blocks.undo.stopped ≡ s → LeavesStanding (extent p.blocks.undo.region) p.table.header.target p.table.header.targets p.table.header.layout few (may_leave after.undo.region)
      by few before less left tell true is =
          left_no_more _ _ _ _ few before (may_leave p.blocks.undo.region) (may_leave after.undo.region) (omega (arith, less)) (λ c may. subst (λ r. may_leave r c) (k.untouched is) may) left
      by few before less left tell false is =
          let x = h tell is in
          left_after (extent p.blocks.undo.region) p.table.header.target few before 0 (image p.blocks.undo.region) (image after.undo.region) (may_leave p.blocks.undo.region) (may_leave after.undo.region) p.table u ranges done x.stored
          (k.committed tell is) (stand_then x.stored x.stands) same (omega (arith, free)) less left

  pub call_leaves : (staged : BlocksState R) → staged ≡ with_ranges ranges p.blocks → Leaving staged
  call_leaves staged is = subst (λ (s : BlocksState R). Leaving s) (sym is) leaving

-- and tidy stays tidy where it went well
pub call_tidies : {R : Type 0} (extent : R → ℕ) (tells : Bool) (image : R → Image) (may_leave : R → Image → Type 0) (p : OpenedState R) (after : BlocksState R) (u v : Table) (ranges : List Range) (staged : BlocksState R) → staged ≡ with_ranges ranges p.blocks
    → IsCallOf extent tells image may_leave true staged after → v ≡ u → IsSamePool p.table u → StandsThen p.table.header.target (extent p.blocks.undo.region) (image p.blocks.undo.region) ranges p.table u
    → IfTidy tells extent image p → IfTidy tells extent image (record { blocks = after; table = v })
call_tidies {R = R} extent tells image may_leave p after u v ranges staged is k last same stand_then tidy tell going =
    let c = subst (λ (s : BlocksState R). IsCallOf extent tells image may_leave true s after) is k in
    let was = c.running refl in
    subst (λ (w : Table). IsTidy (extent after.undo.region) (image after.undo.region) w) (sym last)
    (subst (λ (n : ℕ). IsTidy n (image after.undo.region) u) (sym c.size)
    (tidy_after (extent p.blocks.undo.region) (image p.blocks.undo.region) (image after.undo.region) p.table u ranges (tidy tell was) stand_then same ((c.committed tell was).written refl)))

-- ---- changes of fixed places

over_free : (r : Range) (f : Image) (i : ℕ) → r.place + length r.bytes ≤ 307200 → 307200 ≤ i → over r f i ≡ f i
over_free r f i low high = let off : lies_in i r ≡ false = grind (arith, nat_tests) in over_outside r f i off

range_low : (t : Table) (c : Change) → Fits t c → (range_of c).place + length (range_of c).bytes ≤ 307200
range_low t (Cont i r) fit = let long = length_cont r in let low = fit.0 in omega (arith, long, low)
range_low t (Snapshot i s) fit = let long = length_snap s in let low = fit.0 in omega (arith, long, low)
range_low t (Unused i) fit = let low = fit.0 in omega (arith, low)

all_free : (t : Table) (cs : List Change) (f : Image) (i : ℕ) → AllFit t cs → 307200 ≤ i → all_over (ranges_of cs) f i ≡ f i
all_free t [] f i fit high = refl
all_free t (c ∷ cs) f i fit high = all_free (changed c t) cs (over (range_of c) f) i fit.1 high ∙ over_free (range_of c) f i (range_low t c fit.0) high

free_beyond : (size : ℕ) (f g : Image) → ((i : ℕ) → 307200 ≤ i → g i ≡ f i) → free_at size g ≡ free_at size f
unfolding free_blocks
free_beyond size f g same = ap (λ s. count_below s (blocks_end size)) (fun_ext (λ b. ap (λ (n : ℕ). is_free (blocks_end size) n b) (same (307200 + b / 8) (omega arith))))

pub changes_free : (size : ℕ) (t : Table) (cs : List Change) (f : Image) → AllFit t cs → free_at size (all_over (ranges_of cs) f) ≡ free_at size f
changes_free size t cs f fit = free_beyond size f (all_over (ranges_of cs) f) (λ i high. all_free t cs f i fit high)

pub counters_free : (size : ℕ) (c : Counters) (f : Image) → free_at size (over (counter_range c) f) ≡ free_at size f
counters_free size c f = free_beyond size f (over (counter_range c) f) (λ i high. let long = length_counters c in over_free (counter_range c) f i (omega (arith, long)) high)

pub changes_same : (cs : List Change) (t : Table) → IsSamePool t (all_changed cs t)
changes_same cs t = record { target = ap (λ (h : Header). h.target) (headers_stay cs t); targets = ap (λ (h : Header). h.targets) (headers_stay cs t); layout = ap (λ (h : Header). h.layout) (headers_stay cs t) }
