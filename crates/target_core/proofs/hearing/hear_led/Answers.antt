use Rattle.target_parts.specs.Ending.{some_reading}
use Rattle.target_parts.specs.Readings.{not-read-by}
use Rattle.target_core.specs.HeardLaws.{others-have-epoch}
use Rattle.std.proofs.Common.{◌∙◌, sym}
use Rattle.target_core.proofs.hearing.hear_led.Goals as goal

pub returns-else-is_of_command-clause-turn : goal.returns-else-is_of_command-clause-turn
returns-else-is_of_command-clause-turn g c =
    let r = some_reading (g.C.Clock.next c.args.clock.now) in (r.0, r.1, λ n snaps d at. c.hear_other.ensures.turn n snaps d at r.0)

pub returns-else-is_of_command-clause-clock : goal.returns-else-is_of_command-clause-clock
returns-else-is_of_command-clause-clock g c = not-read-by g.C.Clock.is_read _ c.hear_other.result c.args.clock.now (others-have-epoch c.args.message (sym c.is_of_command.ensures ∙ c.if-is_of_command.false) c.requires.made)
