-- A commit of the second layout's number is one of a pool that is raised.
use Rattle.std.proofs.Common.{◌≡◌, ℕ, Bool, true, false, IsTrue, List, [], ◌∷◌, Result, refl, sym, ap, ◌∙◌, subst, arith, inl, inr}
use Rattle.std.specs.Prelude.{is_ok}
use mathlib.Core.Path.{fun_ext}
use Rattle.base_outside.specs.Images.{Image, Range, all_over}
use Rattle.daos_model.specs.BoolLaws.{clash}
use Rattle.pmem_alloc.specs.Blocks.{BlocksState}
use Rattle.pmem_undo.specs.Layout.{SameContent, gate}
use Rattle.pmem_undo.specs.Settled.{settled}
use Rattle.vos_commits.specs.Kept.{IsCommit}
use Rattle.vos_pool_base.proofs.Leaving.{free_as, free_at}
use Rattle.vos_pool_base.proofs.Staging.{with_ranges}
use Rattle.vos_pool_base.proofs.Writing.{IsCallOf, StandsThen}
use Rattle.vos_pool_base.proofs.vos_standing.Committed.{closed_it_is_kept, contents_stand}
use Rattle.vos_pool_base.specs.Pool.{HasStood, MayBeFound, OpenedState, kept_by, kept_of, may_of}
use Rattle.vos_pool_base.specs.Tidy.{IsLeftStanding, Leaves, LeavesStanding}
use Rattle.vos_pool_base.specs.vos_image.Kept.{Stored, durable_of}
use Rattle.vos_pool_base.specs.vos_places.Tables.{Table, places_of}
use Rattle.vos_pool_base.specs.vos_standing.Standing.{Stand}
use Rattle.vos_pool_base.specs.vos_tables.Tables.{raised}
use Rattle.vos_pool_raise.specs.Raising.{IsLeftEither, LeavesEither, layout_range}
use Rattle.vos_pool_raise.proofs.Standing.{free_raised, stands_raised}
use Rattle.vos_pool_stage.proofs.Making.{StandsInPlace, staged_is_quiet}
use Rattle.vos_pool_stage.specs.Staged.{IsQuietCall, StandsInPool}
use Rattle.vos_store.specs.declared.refusal.Stopped.{Stopped}

-- what is staged
abbrev pub the_ranges : List Range
the_ranges = layout_range ∷ []

pub stands_then : (target size : ℕ) (f : Image) (t : Table) → StandsThen target size f the_ranges t (raised t)
stands_then target size f t x s = stands_raised target size f t x s

-- what a raised table keeps with something is what it kept
same_kept : (t : Table) (x : Stored) → durable_of (record { places = places_of (raised t); stored = x }) ≡ durable_of (record { places = places_of t; stored = x })
unfolding durable_of
same_kept t x = refl

-- ---- what may be left

settled_closed : (size : ℕ) (f : Image) → f gate ≡ 0 → settled size f ≡ f
unfolding settled
settled_closed size f closed = rw closed refl

left_as : (size target targets layout few : ℕ) (c d : Image) → SameContent (settled size c) (settled size d) → IsLeftStanding size target targets layout few d → IsLeftStanding size target targets layout few c
left_as size target targets layout few c d same s = record {
  table = s.table;
  stored = s.stored;
  stands = contents_stand target size (settled size d) (settled size c) s.table s.stored same s.stands;
  targets_as = s.targets_as;
  layout_as = s.layout_as;
  free = let free = s.free in let e = free_as size (settled size d) (settled size c) same in omega (arith, free, e);
}

left_either : (size target few : ℕ) (f g : Image) (old new : Image → Type 0) (t : Table) (done : Bool) (x : Stored) → IsCommit size the_ranges done f g old new → Stand target size f t x
    → LeavesStanding size target t.header.targets t.header.layout few old → (c : Image) → new c → IsLeftEither size target t.header.targets t.header.layout few c
left_either size target few f g old new t done x k stands left c may =
    let from = k.from c may in
    let is : from.0 ≡ f = fun_ext (λ i. k.rest.only from.0 from.1.0 i) in
    let was = left from.0 from.1.0 in
    let still : settled size from.0 ≡ f = ap (settled size) is ∙ settled_closed size f k.rest.closed in
    elim from.1.1 [
      | inl before ↦ inl (left_as size target t.header.targets t.header.layout few c from.0 before was)
      | inr after ↦
          let then_it : SameContent (settled size c) (all_over the_ranges f) = subst (λ (d : Image). SameContent (settled size c) (all_over the_ranges d)) still after in
          inr (record {
            table = raised t;
            stored = x;
            stands = contents_stand target size (all_over the_ranges f) (settled size c) (raised t) x then_it (stands_raised target size f t x stands);
            targets_as = refl;
            layout_as = refl;
            free =
                let were = was.free in
                let e : free_at size (settled size from.0) ≡ free_at size f = ap (free_at size) still in
                let h = free_as size (all_over the_ranges f) (settled size c) then_it in
                let r = free_raised size f in
                omega (arith, were, e, h, r);
          })
    ]

-- ---- a call that stages the number and commits it

module _ {R : Type 0} (extent : R → ℕ) (tells : Bool) (image : R → Image) (may_leave : R → Image → Type 0) (p : OpenedState R) (after : BlocksState R) (v : Table) (result : Result (Unit {0}) Stopped) (done : Bool) (ok : is_ok result ≡ done)
    (staged : BlocksState R) (is : staged ≡ with_ranges the_ranges p.blocks) (call : IsCallOf extent tells image may_leave done staged after)
    (target : v.header.target ≡ p.table.header.target) (targets : v.header.targets ≡ p.table.header.targets)
    (h : IsTrue tells → p.blocks.undo.stopped ≡ false → HasStood (extent p.blocks.undo.region) (image p.blocks.undo.region) p.table) where
  abbrev size : ℕ
  size = extent p.blocks.undo.region

  abbrev f : Image
  f = image p.blocks.undo.region

  abbrev q : OpenedState R
  q = record { blocks = after; table = v }

  k : IsCallOf extent tells image may_leave done (with_ranges the_ranges p.blocks) after
  k = subst (λ (s : BlocksState R). IsCallOf extent tells image may_leave done s after) is call

  committed : IsTrue tells → p.blocks.undo.stopped ≡ false → IsCommit size the_ranges (is_ok result) f (image after.undo.region) (may_leave p.blocks.undo.region) (may_leave after.undo.region)
  committed tell going = subst (λ d. IsCommit size the_ranges d f (image after.undo.region) (may_leave p.blocks.undo.region) (may_leave after.undo.region)) (sym ok) (k.committed tell going)

  again : p.blocks.undo.stopped ≡ true → is_ok result ≡ false
  again stopped = ok ∙ not_done done p.blocks.undo.stopped k.running stopped
    where
      not_done : (d s : Bool) → (d ≡ true → s ≡ false) → s ≡ true → d ≡ false
      not_done true s on off = absurd (clash s off (on refl))
      not_done false s on off = refl

  stays : IsTrue tells → p.blocks.undo.stopped ≡ true → (c : Image) → may_leave after.undo.region c → may_leave p.blocks.undo.region c
  stays tell stopped c left = subst (λ r. may_leave r c) (k.untouched stopped) left

  in_place : IsTrue tells → p.blocks.undo.stopped ≡ false → StandsInPlace p.table.header.target size f the_ranges p.table (raised p.table) (λ d. d)
  in_place tell going =
      let x = h tell going in
      record {
        before = x.stored;
        after = x.stored;
        stood = x.stands;
        stands = stands_raised p.table.header.target size f p.table x.stored x.stands;
        changes = same_kept p.table x.stored ∙ sym (closed_it_is_kept p.table.header.target size f p.table x.stored (k.committed tell going).rest.closed x.stands);
      }

  -- it is quiet
  pub raise_is_quiet : IsQuietCall result (kept_of tells extent image p) (kept_of tells extent image q) (may_of tells extent may_leave p) (may_of tells extent may_leave q)
  raise_is_quiet =
      subst (λ (n : ℕ). IsQuietCall result (kept_of tells extent image p) (kept_by tells n (extent after.undo.region) (image after.undo.region)) (may_of tells extent may_leave p) (MayBeFound tells n (extent after.undo.region) (may_leave after.undo.region))) (sym target)
      (subst (λ (n : ℕ). IsQuietCall result (kept_of tells extent image p) (kept_by tells p.table.header.target n (image after.undo.region)) (may_of tells extent may_leave p) (MayBeFound tells p.table.header.target n (may_leave after.undo.region))) (sym k.size)
      (staged_is_quiet tells p.table.header.target size f (image after.undo.region) (may_leave p.blocks.undo.region) (may_leave after.undo.region) p.blocks.undo.stopped p.table (raised p.table) the_ranges result in_place committed again stays))

  by_running : (few : ℕ) → LeavesStanding size p.table.header.target p.table.header.targets p.table.header.layout few (may_leave p.blocks.undo.region) → IsTrue tells → (s : Bool) → p.blocks.undo.stopped ≡ s
      → (c : Image) → may_leave after.undo.region c → IsLeftEither size p.table.header.target p.table.header.targets p.table.header.layout few c
  by_running few left tell true is_so c may = inl (left c (stays tell is_so c may))
  by_running few left tell false is_so c may =
      let x = h tell is_so in
      left_either size p.table.header.target few f (image after.undo.region) (may_leave p.blocks.undo.region) (may_leave after.undo.region) p.table (is_ok result) x.stored (committed tell is_so) x.stands left c may

  -- and leaves a pool of either layout
  pub raise_leaves : (few : ℕ) → Leaves tells extent may_leave few p → LeavesEither tells extent may_leave p.table.header.layout few q
  raise_leaves few left tell c may =
      subst (λ (n : ℕ). IsLeftEither n v.header.target v.header.targets p.table.header.layout few c) (sym k.size)
      (subst (λ (n : ℕ). IsLeftEither size n v.header.targets p.table.header.layout few c) (sym target)
      (subst (λ (n : ℕ). IsLeftEither size p.table.header.target n p.table.header.layout few c) (sym targets)
      (by_running few (left tell) tell p.blocks.undo.stopped refl c may)))

-- and where it went well all stands that stood
pub stands_after : {R : Type 0} (extent : R → ℕ) (tells : Bool) (image : R → Image) (may_leave : R → Image → Type 0) (p : OpenedState R) (after : BlocksState R) (v : Table) (staged : BlocksState R) → staged ≡ with_ranges the_ranges p.blocks → IsCallOf extent tells image may_leave true staged after → v ≡ raised p.table
    → IsTrue tells → (x : Stored) → StandsInPool extent image p x → StandsInPool extent image (record { blocks = after; table = v }) x
stands_after {R = R} extent tells image may_leave p after v staged is call last tell x s =
    let k = subst (λ (b : BlocksState R). IsCallOf extent tells image may_leave true b after) is call in
    let size = extent p.blocks.undo.region in
    let f = image p.blocks.undo.region in
    subst (λ (u : Table). Stand u.header.target (extent after.undo.region) (image after.undo.region) u x) (sym last)
    (subst (λ (n : ℕ). Stand p.table.header.target n (image after.undo.region) (raised p.table) x) (sym k.size)
    (contents_stand p.table.header.target size (all_over the_ranges f) (image after.undo.region) (raised p.table) x ((k.committed tell (k.running refl)).written refl) (stands_raised p.table.header.target size f p.table x s)))
