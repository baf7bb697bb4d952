use Rattle.std.proofs.Common.{ap, is_some}
use Rattle.target_parts.specs.Ending.{some_reading}
use Rattle.target_parts.specs.Readings.{not-read}
use Rattle.target_reads.proofs.fetches.hear_fetch.Goals as goal

pub returns-in-Some-clause-turn : goal.returns-in-Some-clause-turn
returns-in-Some-clause-turn g c =
    let r = some_reading (g.C.Clock.next c.args.clock.now) in (r.0, r.1, λ d at. c.hear_known.ensures.turn d at r.0)

pub returns-in-Some-clause-clock : goal.returns-in-Some-clause-clock
returns-in-Some-clause-clock g c = not-read g.C.Clock.is_read (is_some c.args.request.now.ep) c.args.clock.now (ap is_some c.in-Some.is)
