use Rattle.std.proofs.Common.{◌≡◌, ℕ, ◌≤◌, List, ◌++◌, length, drop}
use Rattle.daos_model.specs.Answers.{in_byte_order}
use Rattle.client_moves.proofs.joins.join_names.Given as goal

-- the names of the second list from here on
pub record Behind (behind : ℕ) (other names : List (List ℕ)) : Type 0 where
  pub within : behind ≤ length other
  pub are : names ≡ in_byte_order (drop behind other)

-- the names of the first list from here on, and those of the second
pub record Before (before : ℕ) (one other names : List (List ℕ)) : Type 0 where
  pub within : before ≤ length one
  pub are : names ≡ in_byte_order (drop before one ++ other)

abbrev pub invariant-loop-behind : goal.invariant-loop-behind
invariant-loop-behind l = Behind l.behind l.other l.names.items

abbrev pub decreases-loop-behind : goal.decreases-loop-behind
decreases-loop-behind l = l.behind

abbrev pub invariant-loop-before : goal.invariant-loop-before
invariant-loop-before l = Before l.before l.one l.fn.other l.names.items

abbrev pub decreases-loop-before : goal.decreases-loop-before
decreases-loop-before l = l.before
