-- The only client of a script is never told to restart, whatever its commands do, where no line of a run in an order tells of a stop.
use Rattle.std.specs.Prelude.{◌≡◌, true, false, None}
use Rattle.daos_model.specs.Attempts.{is_restart, tries}
use Rattle.daos_model.specs.Family.{resolved}
use Rattle.daos_model.specs.Opening.{Outside}
use Rattle.model_laws.specs.DecidedLaws.{all-from_has}
use Rattle.model_lone.specs.OnlyLaws.{only-clients-tell_so}
use Rattle.run_laws.specs.reports.Legal.{events, orders-are-legal}
use Rattle.run_laws.specs.reports.Reports.{OrdersOfOnlyClients}
use Rattle.world_closing.specs.Below.{report_over, durables_of}
use Rattle.world_closing.specs.Rules.{rules_of}
use Rattle.world_refusals.specs.Never.{alone-runs-never_restart}

-- an outside that may have caused whatever stopped and was given up
abbrev anything : Outside
anything = record { rises = λ t. None; foreign = λ t. true; keeps = λ t. true }

pub orders-of_only_clients : OrdersOfOnlyClients
orders-of_only_clients g w v holds k one none =
    only-clients-tell_so g anything (resolved (durables_of v)) (report_over (rules_of g) v) one none
    (all-from_has (λ a. is_restart a.outcome ≡ false) (tries v.lines) (alone-runs-never_restart (rules_of g) g.opening w v k.begins.form k.begins.begins k.begins.few (events g w v k) one none))
    (orders-are-legal g w v holds k anything (record { stops = λ t. tt; given_up = λ t z here down. tt })).told
