-- How an attempt's answers and conditions go with its outcome.
use Rattle.std.specs.Prelude.{ℕ, ◌+◌, ◌≡◌, Bool, true, false, not, List, [], ◌∷◌, ◌++◌, Option, Some, None, slice_get, map, take, All, is_some, if◌then◌else◌}
use Rattle.base_types.specs.declared.operation.Cond.{Cond}
use Rattle.base_types.specs.declared.operation.Cond.TheVariants.{Free, Must, MustNot}
use Rattle.base_types.specs.declared.operation.Op.{Op}
use Rattle.base_types.specs.declared.outcome.Outcome.{Outcome}
use Rattle.base_types.specs.declared.outcome.Outcome.TheVariants as outcome
use Rattle.base_types.specs.declared.report.Attempt.{Attempt}
use Rattle.base_types.specs.declared.script.Script.{Script}
use Rattle.daos_model.specs.Accesses.{is_condition}
use Rattle.daos_model.specs.Transactions.{attempt_ops, read_numbers}

-- the numbers of the operations that have a condition, numbered from n
unfoldable pub condition_numbers : ℕ → List Op → List ℕ
condition_numbers n [] = []
condition_numbers n (op ∷ ops) = (if is_condition op.cond then n ∷ [] else []) ++ condition_numbers (n + 1) ops

-- whether a condition holds, where it is known whether a cell stands under its path
abbrev pub holds_where : Bool → Cond → Bool
holds_where there Free = true
holds_where there Must = there
holds_where there MustNot = not there

abbrev pub op_holds_where : Bool → Option Op → Bool
op_holds_where there None = true
op_holds_where there (Some op) = holds_where there op.cond

-- the condition of the operation of this number holds by what was told
abbrev pub Holds : List Op → ℕ × Bool → Type 0
Holds ops told = op_holds_where told.1 (slice_get ops told.0) ≡ true

-- no condition that was told of is false
abbrev pub AllHold : List Op → Attempt → Type 0
AllHold ops a = All (Holds ops) a.conds

-- an epoch was issued; every condition and every read was told of, in order, and every condition holds
pub record IsWhole (ops : List Op) (a : Attempt) : Type 0 where
  pub issued : is_some a.epoch ≡ true
  pub asked : map (λ told. told.0) a.conds ≡ condition_numbers 0 ops
  pub answered : map (λ got. got.0) a.gots ≡ read_numbers 0 ops
  pub hold : AllHold ops a

-- the conditions up to this operation were told of, in order; its own is false, and all before it hold
pub record FailsAt (ops : List Op) (op : ℕ) (a : Attempt) : Type 0 where
  pub held : List (ℕ × Bool)
  pub there : Bool
  pub told : a.conds ≡ held ++ (op, there) ∷ []
  pub asked : map (λ told. told.0) a.conds ≡ condition_numbers 0 (take (op + 1) ops)
  pub hold : All (Holds ops) held
  pub fails : op_holds_where there (slice_get ops op) ≡ false

abbrev pub EndsRight : List Op → Attempt → Outcome → Type 0
EndsRight ops a outcome.Committed = IsWhole ops a
EndsRight ops a (outcome.CondFailed op) = FailsAt ops op a
EndsRight ops a (outcome.Restart cause) = AllHold ops a
EndsRight ops a (outcome.NoSpace target need free) = AllHold ops a
EndsRight ops a outcome.EpochsSpent = AllHold ops a
EndsRight ops a outcome.NoSnapshot = AllHold ops a
EndsRight ops a (outcome.Unknown target) = AllHold ops a

-- a committed attempt has all its answers, and its conditions hold; one that failed by a condition shows it; no other shows a
-- condition that is false
abbrev pub ConditionsLegal : Script → Attempt → Type 0
ConditionsLegal s a = EndsRight (attempt_ops s a.id) a a.outcome
