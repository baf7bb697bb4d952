use Rattle.run_determined.specs.Orders.{orders-are_one, unfailed-leave_told}
use Rattle.run_determined.proofs.laws_of_repeated_runs.Goals as goal

pub returns : goal.returns
returns c = record { orders = orders-are_one; unfailed = unfailed-leave_told }
