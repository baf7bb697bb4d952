use Rattle.world_upheld.specs.order.Answers.{answers-lie-behind}
use Rattle.world_upheld.specs.order.Clients.{clients-keep-order}
use Rattle.world_upheld.specs.order.Guards.{accesses-lie-behind, reads-are-above, writes-are-above}
use Rattle.world_upheld.specs.order.Known.{lines-are-known, readers-are-borne-firsts, writers-are-borne-firsts}
use Rattle.world_upheld.specs.order.Passing.{sweeping-keeps-order, targets-keep-order}
use Rattle.world_upheld.specs.order.Serving.{others-are-unfrozen, served-lie-behind}
use Rattle.world_upheld.specs.order.Stored.{happenings-store-behind}
use Rattle.world_upheld.proofs.order.laws_of_order_making.Goals as goal

pub returns : goal.returns
returns c = record {
  behind = accesses-lie-behind;
  above = writes-are-above;
  reads = reads-are-above;
  served = served-lie-behind;
  answers = answers-lie-behind;
  unfrozen = others-are-unfrozen;
  told = lines-are-known;
  readers = readers-are-borne-firsts;
  writers = writers-are-borne-firsts;
  stores = happenings-store-behind;
  targets = targets-keep-order;
  clients = clients-keep-order;
  swept = sweeping-keeps-order;
}
