-- A commit of blocks with staged ranges is a commit of what their region keeps.
use Rattle.std.specs.Prelude.{◌≡◌, ℕ, Bool, true, false, IsErr, IsTrue, OnOk, Result, Ok, Err, is_err, is_ok, refl}
use Rattle.std.proofs.Common.{◌∙◌, sym, subst}
use Rattle.base_outside.specs.Images.{Image, all_over}
use Rattle.daos_model.specs.BoolLaws.{clash}
use Rattle.pmem_alloc.specs.Blocks.{BlocksState}
use Rattle.pmem_undo.specs.Layout.{SameContent}
use Rattle.pmem_undo.specs.Settled.{ComesFrom}
use Rattle.pmem_undo.specs.Undo.{IsUndo}
use Rattle.vos_commits.specs.Kept.{IsCommit}

pub when_ok : {T E : Type 0} (P : Type 0) (r : Result T E) → OnOk r P → is_ok r ≡ true → P
when_ok P (Ok x) h ok = h
when_ok P (Err e) h ok = absurd (clash false ok refl)

pub not_ok : {T E : Type 0} (r : Result T E) (b : Bool) → b ≡ is_err r → b ≡ true → is_ok r ≡ false
not_ok (Ok x) b is bad = absurd (clash b bad is)
not_ok (Err e) b is bad = refl

pub is_well : {T E : Type 0} (r : Result T E) (b : Bool) → b ≡ is_err r → b ≡ false → is_ok r ≡ true
is_well (Ok x) b is well = refl
is_well (Err e) b is well = absurd (clash b is well)

-- what is known of a commit of blocks from the one moment to the other
pub record Committed {R : Type 0} {E : Type 0} (extent : R → ℕ) (tells : Bool) (image : R → Image) (may_leave : R → Image → Type 0) (staged after : BlocksState R) (result : Result (Unit {0}) E) : Type 0 where
  pub before : IsUndo (extent staged.undo.region) tells (image staged.undo.region) (may_leave staged.undo.region) staged.undo.staged staged.undo.stopped
  pub now : IsUndo (extent after.undo.region) tells (image after.undo.region) (may_leave after.undo.region) after.undo.staged after.undo.stopped
  pub from : IsTrue tells → ComesFrom (extent staged.undo.region) staged.undo.staged (may_leave staged.undo.region) (may_leave after.undo.region)
  pub written : OnOk result (IsTrue tells → SameContent (image after.undo.region) (all_over staged.undo.staged (image staged.undo.region)))
  pub went_on : OnOk result (staged.undo.stopped ≡ after.undo.stopped)

-- it is one of what the region keeps, also where nothing was done to the region since
pub commit_of : {R : Type 0} {E : Type 0} (extent : R → ℕ) (tells : Bool) (image : R → Image) (may_leave : R → Image → Type 0) (staged after : BlocksState R) (last : R) (result : Result (Unit {0}) E) (done : Bool) → is_ok result ≡ done → last ≡ after.undo.region
    → Committed extent tells image may_leave staged after result → IsTrue tells → staged.undo.stopped ≡ false
    → IsCommit (extent staged.undo.region) staged.undo.staged done (image staged.undo.region) (image last) (may_leave staged.undo.region) (may_leave last)
commit_of extent tells image may_leave staged after last result done same at k t going =
    subst (λ r. IsCommit (extent staged.undo.region) staged.undo.staged done (image staged.undo.region) (image r) (may_leave staged.undo.region) (may_leave r)) (sym at) (record {
      rest = k.before.rest t going;
      content = k.before.content;
      from = k.from t;
      written = λ ok. when_ok (IsTrue tells → SameContent (image after.undo.region) (all_over staged.undo.staged (image staged.undo.region))) result k.written (same ∙ ok) t;
      rests = λ ok. k.now.rest t (sym (when_ok (staged.undo.stopped ≡ after.undo.stopped) result k.went_on (same ∙ ok)) ∙ going);
    })

-- a commit that went well had not stopped before
pub was_running : {T E : Type 0} (r : Result T E) (was : Bool) → is_ok r ≡ true → (was ≡ true → IsErr r) → was ≡ false
was_running (Ok x) true ok again = let no = again refl in absurd (cc)
was_running (Ok x) false ok again = refl
was_running (Err e) was ok again = absurd (clash false ok refl)
