-- An attempt that a line tells of is among the attempts of the lines; and the least target that a line says is down is found.
use Rattle.std.specs.Prelude.{ℕ, ◌≡◌, ◌≤◌, ◌<◌, Bool, true, false, min, nat_lt, List, [], ◌∷◌, Option, Some, None, refl, if◌then◌else◌}
use Rattle.std.proofs.Common.{inl, inr, ◌∙◌, ap, arith}
use Rattle.std.proofs.lemmas.Bool.Decides.{nat_tests}
use Rattle.base_types.specs.declared.report.Attempt.{Attempt}
use Rattle.base_types.specs.declared.report.Line.{Line}
use Rattle.base_types.specs.declared.report.Line.TheVariants as line
use Rattle.model_laws.specs.Members.{Has}
use Rattle.daos_model.specs.Attempts.{tries}
use Rattle.daos_model.specs.Stops.{down_targets, least, least_with}
use Rattle.report_writer.specs.Forms.{least_down, lesser}

-- ---- lines of attempts

-- an attempt and its line
pub try-among : (lines : List Line) (a : Attempt) → Has (line.Try a) lines → Has a (tries lines)
unfolding tries
try-among [] a i = absurd i
try-among (line.Try b ∷ lines) a (inl same) = let e : a ≡ b = cc in inl e
try-among (line.Try b ∷ lines) a (inr i) = inr (try-among lines a i)
try-among (line.Stop n t ∷ lines) a (inl same) = let no : ⊥ = cc in absurd no
try-among (line.Stop n t ∷ lines) a (inr i) = try-among lines a i
try-among (line.Restart n t incarnation floor ∷ lines) a (inl same) = let no : ⊥ = cc in absurd no
try-among (line.Restart n t incarnation floor ∷ lines) a (inr i) = try-among lines a i
try-among (line.Freeze t cont e ∷ lines) a (inl same) = let no : ⊥ = cc in absurd no
try-among (line.Freeze t cont e ∷ lines) a (inr i) = try-among lines a i
try-among (line.Snapshot name cont e ∷ lines) a (inl same) = let no : ⊥ = cc in absurd no
try-among (line.Snapshot name cont e ∷ lines) a (inr i) = try-among lines a i
try-among (line.Aggregate n t cont upto ∷ lines) a (inl same) = let no : ⊥ = cc in absurd no
try-among (line.Aggregate n t cont upto ∷ lines) a (inr i) = try-among lines a i
try-among (line.Down t ∷ lines) a (inl same) = let no : ⊥ = cc in absurd no
try-among (line.Down t ∷ lines) a (inr i) = try-among lines a i

-- ---- targets that were given up

lower : (m n : ℕ) → nat_lt m n ≡ true → m < n
lower m n is = grind (arith, nat_tests)

higher : (m n : ℕ) → nat_lt m n ≡ false → n ≤ m
higher m n is = grind (arith, nat_tests)

-- the least of two
lesser-is : (t : ℕ) (o : Option ℕ) → lesser t o ≡ least_with t o
lesser-is t None = refl
lesser-is t (Some other) = by (nat_lt other t) refl
  where
    by : (b : Bool) → nat_lt other t ≡ b → (if b then Some other else Some t) ≡ Some (min t other)
    by true is = let below : other < t = lower other t is in let e : other ≡ min t other = omega (arith, below) in ap (λ n. Some n) e
    by false is = let above : t ≤ other = higher other t is in let e : t ≡ min t other = omega (arith, above) in ap (λ n. Some n) e

-- the least target that a line says is down is the least of those that were given up
pub down-is : (lines : List Line) → least_down lines ≡ least (down_targets lines)
down-is [] = refl
down-is (line.Try a ∷ lines) = down-is lines
down-is (line.Stop n t ∷ lines) = down-is lines
down-is (line.Restart n t incarnation floor ∷ lines) = down-is lines
down-is (line.Freeze t cont epoch ∷ lines) = down-is lines
down-is (line.Snapshot name cont epoch ∷ lines) = down-is lines
down-is (line.Aggregate n t cont upto ∷ lines) = down-is lines
down-is (line.Down t ∷ lines) = ap (lesser t) (down-is lines) ∙ lesser-is t (least (down_targets lines))
