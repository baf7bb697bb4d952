-- That attempts tell of their conditions and answers in the order of operations, however they ended.
use Rattle.std.specs.Prelude.{ℕ, ◌≡◌, ◌+◌, ◌⊎◌, All, List, map, take}
use Rattle.base_types.specs.declared.operation.Op.{Op}
use Rattle.base_types.specs.declared.report.Attempt.{Attempt}
use Rattle.base_types.specs.declared.report.Line.{Line}
use Rattle.base_types.specs.declared.script.Script.{Script}
use Rattle.daos_model.specs.Attempts.{tries}
use Rattle.daos_model.specs.Conditions.{condition_numbers}
use Rattle.daos_model.specs.Transactions.{attempt_ops, read_numbers}

-- An attempt came as far as the operation of this number: it tells of each condition and each read of those before it, in order, and of nothing else but
-- maybe the condition of that one.
pub record CameTo (ops : List Op) (op : ℕ) (a : Attempt) : Type 0 where
  pub conditions : (map (λ told. told.0) a.conds ≡ condition_numbers 0 (take op ops)) ⊎ (map (λ told. told.0) a.conds ≡ condition_numbers 0 (take (op + 1) ops))
  pub answers : map (λ got. got.0) a.gots ≡ read_numbers 0 (take op ops)

-- it came as far as some operation, or behind the last one
abbrev pub CameInOrder : List Op → Attempt → Type 0
CameInOrder ops a = (op : ℕ) × CameTo ops op a

-- so it is with an attempt, by the command that its id names in the script
abbrev pub TellsInOrder : Script → Attempt → Type 0
TellsInOrder s a = CameInOrder (attempt_ops s a.id) a

-- and with all that lines tell of
abbrev pub AllTellInOrder : Script → List Line → Type 0
AllTellInOrder s lines = All (TellsInOrder s) (tries lines)
