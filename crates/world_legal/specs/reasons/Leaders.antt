-- The first member that is down is a member, and down.
use Rattle.std.specs.Prelude.{ℕ, ◌≡◌, Bool, true, false, List, [], ◌∷◌, find, Some, refl, if◌then◌else◌}
use Rattle.std.proofs.Common.{sym, ◌∙◌, ap}
use Rattle.daos_model.specs.BoolLaws.{and_left, and_right}
use Rattle.dtx_base.specs.Leading.{first_down, is_down_among}
use Rattle.dtx_base.specs.Members.{all_targets, has_target}

found-so : (p : ℕ → Bool) (xs : List ℕ) (y : ℕ) → find p xs ≡ Some y → p y ≡ true
found-so p [] y f = let no : ⊥ = cc in absurd no
found-so p (x ∷ xs) y f = by (found-so p xs y) (p x) refl f
  where
    by : (find p xs ≡ Some y → p y ≡ true) → (b : Bool) → p x ≡ b → (if b then Some x else find p xs) ≡ Some y → p y ≡ true
    by rest true is f = let same : x ≡ y = cc in ap p (sym same) ∙ is
    by rest false is f = rest f

pub down-so : (members down t : ℕ) → first_down members down ≡ Some t → (has_target members t ≡ true) × (has_target down t ≡ true)
unfolding first_down
down-so members down t f = let is = found-so (is_down_among members down) all_targets t f in (and_left (has_target members t) (has_target down t) is, and_right (has_target members t) (has_target down t) is)
