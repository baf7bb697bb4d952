use Rattle.std.proofs.Common.{rules, arith}
use Rattle.pmem_tests.proofs.Zeros.{two_set}
use Rattle.pmem_tests.proofs.tree_tests.key_of.Goals as goal

pub returns : goal.returns
returns c = record { fits = omega arith; room = search rules; rest = λ i h. two_set 64 _ _ i h }
