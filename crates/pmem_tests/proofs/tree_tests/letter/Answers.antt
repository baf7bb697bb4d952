use Rattle.std.proofs.Common.{rules, arith}
use Rattle.pmem_tests.proofs.Zeros.{one_set}
use Rattle.pmem_tests.proofs.tree_tests.letter.Goals as goal

pub returns : goal.returns
returns c = record { fits = omega arith; room = search rules; rest = λ i h. one_set 64 _ i h }
