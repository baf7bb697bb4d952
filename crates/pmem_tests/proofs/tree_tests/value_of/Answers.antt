use Rattle.std.proofs.Common.{rules, refl, arith}
use Rattle.pmem_tests.proofs.Zeros.{two_set}
use Rattle.pmem_tests.proofs.tree_tests.value_of.Goals as goal

pub returns : goal.returns
returns c = record { fits = refl; room = search rules; rest = λ i h. two_set 180 _ _ i (omega arith) }
