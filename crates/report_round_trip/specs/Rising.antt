-- The numbers of conditions and of reads among operations rise.
use Rattle.std.specs.Prelude.{ℕ, ◌+◌, ◌≤◌, ◌++◌, Bool, true, false, List, [], ◌∷◌, if◌then◌else◌}
use Rattle.std.proofs.Common.{arith}
use Rattle.base_types.specs.declared.operation.Act.{Act}
use Rattle.base_types.specs.declared.operation.Act.TheVariants.{Fetch, Change}
use Rattle.base_types.specs.declared.operation.Op.{Op}
use Rattle.daos_model.specs.Accesses.{is_condition}
use Rattle.daos_model.specs.Conditions.{condition_numbers}
use Rattle.daos_model.specs.Transactions.{number_of_read, read_numbers}
use Rattle.report_reader.specs.Law.{RiseFrom}

-- numbers that rise from one on rise from a lesser one on
rise-lower : (n m : ℕ) (xs : List ℕ) → n ≤ m → RiseFrom m xs → RiseFrom n xs
rise-lower n m [] le k = tt
rise-lower n m (x ∷ xs) le k = let high = k.0 in (omega (arith, le, high), k.1)

-- one that may stand first
rise-after : (n : ℕ) (b : Bool) (xs : List ℕ) → RiseFrom (n + 1) xs → RiseFrom n ((if b then n ∷ [] else []) ++ xs)
rise-after n true xs k = (omega arith, k)
rise-after n false xs k = rise-lower n (n + 1) xs (omega arith) k

pub conditions-rise : (n : ℕ) (ops : List Op) → RiseFrom n (condition_numbers n ops)
unfolding condition_numbers
conditions-rise n [] = tt
conditions-rise n (op ∷ ops) = rise-after n (is_condition op.cond) (condition_numbers (n + 1) ops) (conditions-rise (n + 1) ops)

pub reads-rise : (n : ℕ) (ops : List Op) → RiseFrom n (read_numbers n ops)
unfolding read_numbers
reads-rise n [] = tt
reads-rise n (op ∷ ops) = by op.act (reads-rise (n + 1) ops)
  where
    by : (act : Act) → RiseFrom (n + 1) (read_numbers (n + 1) ops) → RiseFrom n (number_of_read n act ++ read_numbers (n + 1) ops)
    by (Fetch r) k = rise-after n true (read_numbers (n + 1) ops) k
    by (Change w) k = rise-after n false (read_numbers (n + 1) ops) k
