-- What an opening says of stops and of what is found, from what the region and the opening below say.
use Rattle.std.proofs.Common.{◌≡◌, ℕ, ◌+◌, ◌-◌, ◌≤◌, ◌<◌, ◌^◌, nat_lt, Bool, true, false, refl, sym, ◌∙◌, ap, subst, inl, inr, arith}
use Rattle.std.specs.Prelude.{◌⊎◌, IsTrue, Some, None, Result, Ok, Err, cond, is_err, is_some}
use Rattle.std.proofs.lemmas.Bool.Decides.{nat_tests}
use Rattle.base_outside.specs.Causes.{Rose}
use Rattle.base_outside.specs.Images.{Image, NoMore}
use Rattle.base_types.specs.declared.epoch.Epoch.{Epoch}
use Rattle.base_types.specs.declared.outcome.FloorWhy.{FloorWhy}
use Rattle.daos_model.specs.BoolLaws.{clash}
use Rattle.daos_model.specs.Changes.{reopened}
use Rattle.daos_model.specs.declared.durable.Durable.{Durable}
use Rattle.vos_commits.specs.Kept.{MayFind, kept_in}
use Rattle.vos_pool_held.proofs.Turning.{counted_state}
use Rattle.vos_pool_held.specs.vos_pool_base.Pool.{MayBeFound, kept_by}
use Rattle.vos_pool_held.specs.vos_pool_base.vos_image.Kept.{kept}
use Rattle.vos_pool_opening.specs.Beginning.{begun, next_incarnation}
use Rattle.vos_pool_opening.specs.declared.beginning.Beginning.TheVariants.{Again}
use Rattle.vos_store.specs.Calls.{Ailed, Finds, Fires, Opens}
use Rattle.vos_store.specs.Refusals.{reopen_stop, says}
use Rattle.vos_store.specs.declared.refusal.ReopenNo.{ReopenNo}

-- ---- stops

fires : (can_burn was is : Bool) (f f' b b' free free' targets targets' : ℕ) (opening opening' : Epoch × FloorWhy) → (can_burn ≡ false → b ≡ 0) → (can_burn ≡ false → b' ≡ 0) → Fires (counted_state can_burn was f b free targets opening) (counted_state can_burn is f' b' free' targets' opening')
fires true was is f f' b b' free free' targets targets' opening opening' none none' = inr (refl, refl)
fires false was is f f' b b' free free' targets targets' opening opening' none none' = inl (none' refl ∙ sym (none refl), refl)

ails : (can_burn was is : Bool) (f f' b b' free free' targets targets' : ℕ) (opening opening' : Epoch × FloorWhy) → (can_burn ≡ false → b ≡ 0) → (can_burn ≡ false → b' ≡ 0) → Rose f f' ⊎ Rose b b' → Ailed (counted_state can_burn was f b free targets opening) (counted_state can_burn is f' b' free' targets' opening')
ails can_burn was is f f' b b' free free' targets targets' opening opening' none none' (inl rose) = inl rose
ails true was is f f' b b' free free' targets targets' opening opening' none none' (inr rose) = inr (rose, refl, refl)
ails false was is f f' b b' free free' targets targets' opening opening' none none' (inr rose) = let n = none refl in let n' = none' refl in absurd (omega (arith, rose, n, n'))

-- An opening of a pool that had stopped: it runs after Ok alone, and answers Stopped only where a count of its region rose.
pub opens : (result : Result (Unit {0}) ReopenNo) (can_burn is : Bool) (f f' b b' free free' targets targets' : ℕ) (opening opening' : Epoch × FloorWhy)
    → (can_burn ≡ false → b ≡ 0) → (can_burn ≡ false → b' ≡ 0) → f ≤ f' → b ≤ b' → is ≡ is_err result
    → (says reopen_stop result ≡ true → Rose f f' ⊎ Rose b b') → targets' ≡ targets
    → Opens result (counted_state can_burn true f b free targets opening) (counted_state can_burn is f' b' free' targets' opening')
opens result can_burn is f f' b b' free free' targets targets' opening opening' none none' faults burns stops cause same = record {
  faults = faults;
  burns = burns;
  fuse = fires can_burn true is f f' b b' free free' targets targets' opening opening' none none';
  tells_fuse = refl;
  left = refl;
  may_fail = refl;
  sure = λ no. absurd (clash true refl no);
  unfailing = λ no _. absurd (clash true refl no);
  stops = stops;
  cause = λ is_stop. ails can_burn true is f f' b b' free free' targets targets' opening opening' none none' (cause is_stop);
  targets = same;
}

-- ---- what is kept

-- it is told where the region tells its bytes
told_same : (tells : Bool) (k d : Durable) → is_some (cond tells (Some k) None) ≡ is_some (cond tells (Some d) None)
told_same true k d = refl
told_same false k d = refl

pub tells_by : (tells : Bool) (k : Durable) → IsTrue tells → cond tells (Some k) None ≡ Some k
tells_by true k tell = refl
tells_by false k tell = absurd (clash false tell refl)

-- another incarnation
next_is : (n m : ℕ) → m + 1 < 2 ^ 64 → next_incarnation (Again n) false m ≡ m + 1
next_is n m small =
    let low : nat_lt (2 ^ 64 - 2) m ≡ false = grind (arith, nat_tests, small) in
    rw low refl

pub begun_again : (n : ℕ) (d : Durable) → d.incarnation + 1 < 2 ^ 64 → begun (Again n) d ≡ reopened d
unfolding reopened
begun_again n d small = ap (λ (m : ℕ). record d { incarnation = m }) (next_is n d.incarnation small)

-- what is found goes by the size
sized : (target size size' : ℕ) (may_leave : Image → Type 0) (x : Durable) → size' ≡ size → MayFind (kept target size') size' may_leave x → MayFind (kept target size) size may_leave x
sized target size size' may_leave x same = subst (λ (n : ℕ). MayFind (kept target n) n may_leave x) same

-- ---- a pool that is held

module _ (tells : Bool) (target size : ℕ) (f : Image) (may_leave : Image → Type 0) (n : ℕ) where
  abbrev Next : Type 0
  Next = (d : Durable) → kept_by tells target size f ≡ Some d → (x : Durable) → MayBeFound tells target size may_leave x → x.incarnation + 1 < 2 ^ 64

  -- what it kept is found, where what is read may be left
  here_found : (IsTrue tells → may_leave f) → IsTrue tells → MayBeFound tells target size may_leave (kept_in (kept target size) size f)
  here_found here tell = (tell, (f, (here tell, refl)))

  may_begin : (IsTrue tells → may_leave f) → Next → IsTrue tells → begun (Again n) (kept_in (kept target size) size f) ≡ reopened (kept_in (kept target size) size f)
  may_begin here next tell = begun_again n (kept_in (kept target size) size f) (next (kept_in (kept target size) size f) (tells_by tells (kept_in (kept target size) size f) tell) (kept_in (kept target size) size f) (here_found here tell))

  -- the next opening finds what it keeps now
  pub finds_begun : (k : Durable) (may' : Durable → Type 0) → (IsTrue tells → may_leave f) → Next
      → (IsTrue tells → cond tells (Some k) None ≡ Some (begun (Again n) (kept_in (kept target size) size f)))
      → ((d x : Durable) → cond tells (Some k) None ≡ Some d → may' x → x ≡ d) → ((x : Durable) → may' x → IsTrue tells) → ((d : Durable) → cond tells (Some k) None ≡ Some d → IsTrue tells)
      → Finds (Ok tt) (kept_by tells target size f) (cond tells (Some k) None) (MayBeFound tells target size may_leave) may'
  finds_begun k may' here next written steady tell_it tell_now = record {
    told = told_same tells _ _;
    found = λ d now.
        let tell = tell_now d now in
        let same : Some d ≡ Some (begun (Again n) (kept_in (kept target size) size f)) = sym now ∙ written tell in
        let is : d ≡ begun (Again n) (kept_in (kept target size) size f) = cc same in
        (kept_in (kept target size) size f, here_found here tell, is ∙ may_begin here next tell);
    left = λ x may.
        let tell = tell_it x may in
        inr (kept_in (kept target size) size f, here_found here tell, steady _ x (written tell) may ∙ may_begin here next tell);
  }

-- ---- a pool that isn't opened

module _ (tells : Bool) (target size size' : ℕ) (f f' : Image) (may_leave may_leave' : Image → Type 0) (n : ℕ) (e : ReopenNo) where
  -- what is kept of an image that may be left then
  abbrev On : Image → Type 0
  On c = may_leave c ⊎ ((kept_in (kept target size) size c ≡ kept_in (kept target size) size f) ⊎ (kept_in (kept target size) size c ≡ begun (Again n) (kept_in (kept target size) size f)))

  found_on : (IsTrue tells → may_leave f) → Next tells target size f may_leave n → IsTrue tells → (c : Image) (x : Durable) → x ≡ kept_in (kept target size) size c → On c
      → MayBeFound tells target size may_leave x ⊎ ((y : Durable) × MayBeFound tells target size may_leave y × (x ≡ reopened y))
  found_on here next tell c x is (inl may) = inl (tell, (c, (may, is)))
  found_on here next tell c x is (inr (inl same)) = inl (subst (MayBeFound tells target size may_leave) (sym (is ∙ same)) (here_found tells target size f may_leave n here tell))
  found_on here next tell c x is (inr (inr counted)) = inr (kept_in (kept target size) size f, here_found tells target size f may_leave n here tell, is ∙ (counted ∙ may_begin tells target size f may_leave n here next tell))

  pub finds_still : size' ≡ size → (IsTrue tells → may_leave f) → Next tells target size f may_leave n
      → (IsTrue tells → (c : Image) → may_leave' c → On c)
      → Finds (Err e) (kept_by tells target size f) (kept_by tells target size' f') (MayBeFound tells target size may_leave) (MayBeFound tells target size' may_leave')
  finds_still same here next on = record {
    told = told_same tells _ _;
    found = tt;
    left = λ x may.
        let found = sized target size size' may_leave' x same may.1 in
        found_on here next may.0 found.0 x found.1.1 (on may.0 found.0 found.1.0);
  }

-- ---- after its region was opened anew

module _ (tells : Bool) (target target' size size' : ℕ) (f f' : Image) (may_leave may_leave' : Image → Type 0) (as_target : target' ≡ target) (as_size : size' ≡ size) (crash : IsTrue tells → NoMore may_leave may_leave') where
  -- what may be found then could be found before
  pub found_before : (x : Durable) → MayBeFound tells target' size' may_leave' x → MayBeFound tells target size may_leave x
  found_before x may =
      let found = sized target size size' may_leave' x as_size (subst (λ (m : ℕ). MayFind (kept m size') size' may_leave' x) as_target may.1) in
      (may.0, (found.0, (crash may.0 found.0 found.1.0, found.1.1)))

  -- none of it is of the last incarnation
  pub next_later : (n : ℕ) → Next tells target size f may_leave n → Next tells target' size' f' may_leave' n
  next_later n next d told x may = next _ (tells_by tells (kept_in (kept target size) size f) may.0) x (found_before x may)
