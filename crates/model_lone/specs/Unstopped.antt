-- Where no line tells of a stop, none tells that a target opened again or was given up.
use Rattle.std.specs.Prelude.{ℕ, ◌≡◌, ◌++◌, true, false, List, [], ◌∷◌, Some, refl}
use Rattle.std.proofs.Common.{subst, inl, inr}
use Rattle.base_types.specs.declared.report.Line.{Line}
use Rattle.base_types.specs.declared.report.Line.TheVariants as line
use Rattle.model_laws.specs.Members.{Has, has-right}
use Rattle.daos_model.specs.Stops.{Running, Standing, after_all, is_at, lines_at, stop_numbers, stopped_number}
use Rattle.model_reports.specs.Stopless.{NoStops, follows_stop}
use Rattle.model_reports.specs.Stopless as stopless

-- lines that tell of no stop, and those of a target come in their order
pub record AreUnstopped (lines : List Line) (t : ℕ) : Type 0 where
  pub none : stop_numbers lines ≡ []
  pub last : Standing
  pub in_order : after_all (Some Running) (lines_at t lines) ≡ Some last

-- a line of that target tells of no opening, nor that it was given up
abbrev pub NoneFollowsNoStop : Type 0
NoneFollowsNoStop = (lines : List Line) (t : ℕ) → AreUnstopped lines t → (l : Line) → Has l lines → is_at t l ≡ true → follows_stop l ≡ false

-- the number of a stop is among those of the lines
number-told : (n t : ℕ) (ls : List Line) → Has (line.Stop n t) ls → Has n (stop_numbers ls)
number-told n t [] i = absurd i
number-told n t (l ∷ ls) (inl same) = subst (λ m. Has n (stopped_number m ++ stop_numbers ls)) same (inl refl)
number-told n t (l ∷ ls) (inr i) = has-right (stopped_number l) (stop_numbers ls) n (number-told n t ls i)

pub none-stopped : (lines : List Line) → stop_numbers lines ≡ [] → NoStops lines
none-stopped lines none n t i = subst (Has n) none (number-told n t lines i)

pub none-follows : NoneFollowsNoStop
none-follows lines t u = stopless.none-follows lines t u.last (none-stopped lines u.none) u.in_order
