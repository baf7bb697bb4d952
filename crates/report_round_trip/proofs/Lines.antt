-- Attempts among the lines of a report.
use Rattle.std.proofs.Common.{◌≡◌, inl, inr, List, [], ◌∷◌}
use Rattle.base_types.specs.declared.report.Attempt.{Attempt}
use Rattle.base_types.specs.declared.report.Line.{Line}
use Rattle.base_types.specs.declared.report.Line.TheVariants as line
use Rattle.model_laws.specs.Members.{Has}
use Rattle.daos_model.specs.Attempts.{tries}

-- an attempt and its line
pub try-among : (lines : List Line) (a : Attempt) → Has (line.Try a) lines → Has a (tries lines)
unfolding tries
try-among [] a i = absurd i
try-among (line.Try b ∷ lines) a (inl same) = let e : a ≡ b = cc in inl e
try-among (line.Try b ∷ lines) a (inr i) = inr (try-among lines a i)
try-among (line.Stop n t ∷ lines) a (inl same) = let no : ⊥ = cc in absurd no
try-among (line.Stop n t ∷ lines) a (inr i) = try-among lines a i
try-among (line.Restart n t incarnation floor ∷ lines) a (inl same) = let no : ⊥ = cc in absurd no
try-among (line.Restart n t incarnation floor ∷ lines) a (inr i) = try-among lines a i
try-among (line.Freeze t cont e ∷ lines) a (inl same) = let no : ⊥ = cc in absurd no
try-among (line.Freeze t cont e ∷ lines) a (inr i) = try-among lines a i
try-among (line.Snapshot name cont e ∷ lines) a (inl same) = let no : ⊥ = cc in absurd no
try-among (line.Snapshot name cont e ∷ lines) a (inr i) = try-among lines a i
try-among (line.Aggregate n t cont upto ∷ lines) a (inl same) = let no : ⊥ = cc in absurd no
try-among (line.Aggregate n t cont upto ∷ lines) a (inr i) = try-among lines a i
try-among (line.Down t ∷ lines) a (inl same) = let no : ⊥ = cc in absurd no
try-among (line.Down t ∷ lines) a (inr i) = try-among lines a i
