-- What clients do keeps, together, what goes about for them, that they stand at their commands, and epochs.
use Rattle.std.specs.Prelude.{ℕ, ◌<◌, refl}
use Rattle.std.proofs.Common.{arith}
use Rattle.world_base.specs.Events.{Rules}
use Rattle.world_base.specs.Steps.{KeptByCounting, KeptByHearing, KeptByMoves}
use Rattle.world_upheld.specs.world_causes.hearing.HappeningEpochs.{talks-once}
use Rattle.world_upheld.specs.world_letters.epochs.EventLaws.{stands-by-counting, stands-by-hearing, stands-by-moves}
use Rattle.world_upheld.specs.world_letters.epochs.Talking.{silent-unless}
use Rattle.world_upheld.specs.world_letters.waits.ClientLaws as wait
use Rattle.world_upheld.specs.world_making.dates.Answering.{quiet-client}
use Rattle.world_upheld.specs.world_making.dates.Going.{moved-dates}
use Rattle.world_upheld.specs.world_making.dates.Heard.{heard-dates}
use Rattle.world_upheld.specs.world_making.dates.Moves.{quiet-same}
use Rattle.world_upheld.specs.order.Clients.{ClientsTalk}

module _ (r : Rules) (top : ℕ) (some : 0 < r.attempts) where
  pub by-moves : KeptByMoves r (ClientsTalk r top)
  by-moves w n c here p = (
    wait.moves-keep r w n c here p.0,
    stands-by-moves r some w n c here p.1,
    moved-dates r top w n c p.1 p.2 here (λ idle. silent-unless w n c (talks-once r w p.0) here idle),
  )

  pub by-counting : KeptByCounting (ClientsTalk r top)
  by-counting w n k c here p = (
    wait.counting-keeps r w n k c here p.0,
    stands-by-counting r some w n k c here p.1,
    quiet-client r top w n c (record c { skip = k }) p.2 (quiet-same r top w n c (record c { skip = k }) p.2 here (omega arith) refl refl (λ name e i. i)),
  )

  pub by-hearing : KeptByHearing r (ClientsTalk r top)
  by-hearing w n c l rest here awake takes to p = (
    wait.hearing-keeps r w n c l rest here awake takes to p.0,
    stands-by-hearing r some w n c l rest here awake takes to p.1,
    heard-dates r top w n c l rest (talks-once r w p.0) p.1 p.2 here takes to,
  )
