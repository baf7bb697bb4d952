-- The report of a run in an order is legal.
use Rattle.std.specs.Prelude.{length}
use Rattle.std.proofs.Common.{◌∙◌, ap}
use Rattle.daos_model.specs.FormLaws.{length-map}
use Rattle.daos_model.specs.Opening.{Given}
use Rattle.run_laws.specs.turns.Numbers.{all-told_are_counted, orders-tell_all}
use Rattle.run_laws.specs.turns.OrderLaws.{orders-are-runs, orders-have-ended}
use Rattle.world_base.specs.declared.world.World.{World}
use Rattle.world_base.specs.Ended.{HasEnded}
use Rattle.world_base.specs.Stops.{WorldRun}
use Rattle.world_closing.specs.Whole.{all-runs-end_legal}
use Rattle.world_letters.specs.lives.Counting.{AreCountedSo}
use Rattle.world_closing.specs.Rules.{rules_of}
use Rattle.world_closing.specs.Below.{client_begins}
use Rattle.run_laws.specs.reports.Reports.{GoesInOrder, OrdersAreLegal}

module _ (g : Given) (w v : World) (k : GoesInOrder g w v) where
  -- it is a run of events
  pub events : WorldRun (rules_of g) w v
  events = orders-are-runs (rules_of g) g.job.order w v k.run

  -- which has ended
  pub ended : HasEnded (rules_of g) v
  ended = orders-have-ended (rules_of g) g.job.order w v (ap length k.begins.begins.clients ∙ length-map (client_begins (rules_of g) g.opening w) g.script.clients) k.run

  -- and lines count restarts and aggregations
  pub counted : AreCountedSo v
  counted = all-told_are_counted v (orders-tell_all (rules_of g) g.job.order w v k.begins.begins.lines k.restarts k.run)

pub orders-are-legal : OrdersAreLegal
orders-are-legal g w v holds k outside caused =
    all-runs-end_legal g outside w v k.begins.form k.begins.begins k.begins.few holds (events g w v k) (ended g w v k) caused (λ one. counted g w v k)
