use Rattle.std.proofs.Common.{◌∙◌, sym}
use Rattle.target_core.proofs.Posting.{form-after_stops}
use Rattle.target_reads.specs.world_letters.kinds.TurnLaws.{turn-heard}
use Rattle.target_core.proofs.hearing.hear_other.Goals as goal

pub returns-then-is_after_stops-clause-reads : goal.returns-then-is_after_stops-clause-reads
returns-then-is_after_stops-clause-reads g c = turn-heard c.hear_after_stops.result c.args.message c.args.knows.now.member.memory c.hear_after_stops.new.knows.member.memory c.hear_after_stops.ensures.reads

pub hear_after_stops-requires-clause-form : goal.hear_after_stops-requires-clause-form
hear_after_stops-requires-clause-form g c = form-after_stops c.args.plan c.args.message (sym c.is_after_stops.ensures ∙ c.if-is_after_stops.true) c.requires.made c.requires.form
