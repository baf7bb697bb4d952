use Rattle.std.proofs.Common.{◌∙◌, sym}
use Rattle.target_parts.specs.Knowing.{memory_of}
use Rattle.target_core.proofs.Posting.{form-making, leads-end, leads-post, turn-tells}
use Rattle.target_reads.specs.world_letters.kinds.TurnLaws.{turn-heard}
use Rattle.target_core.proofs.hearing.hear_message.Goals as goal

pub hear_making-requires-clause-form : goal.hear_making-requires-clause-form
hear_making-requires-clause-form g c = form-making c.args.plan c.args.message (sym c.is_making.ensures ∙ c.if-is_making.true) c.requires.form

pub returns-then-is_making-clause-reads : goal.returns-then-is_making-clause-reads
returns-then-is_making-clause-reads g c = turn-heard c.hear_making.result c.args.message c.args.knows.now.member.memory c.hear_making.new.knows.member.memory c.hear_making.ensures.reads

pub returns-else-is_making-clause-turn : goal.returns-else-is_making-clause-turn
returns-else-is_making-clause-turn g c = (c.hear_led.ensures.turn.0, c.hear_led.ensures.turn.1, λ n is d at. c.hear_led.ensures.turn.2 n c.args.snaps.now d at)

pub returns-else-is_making-clause-posts : goal.returns-else-is_making-clause-posts
returns-else-is_making-clause-posts g c kind = leads-post c.args.plan.targets (memory_of c.args.knows.now) (memory_of c.hear_led.new.knows) c.args.snaps.now c.hear_led.result (c.hear_led.ensures.posts kind)

pub returns-else-is_making-clause-ends : goal.returns-else-is_making-clause-ends
returns-else-is_making-clause-ends g c asked goes = leads-end asked (memory_of c.args.knows.now) (memory_of c.hear_led.new.knows) c.args.snaps.now c.hear_led.result (c.hear_led.ensures.ends asked goes)

pub returns-else-is_making-clause-told : goal.returns-else-is_making-clause-told
returns-else-is_making-clause-told g c =
    turn-tells c.hear_led.result (g.S.Store.state c.args.store.now) (g.S.Store.state c.hear_led.new.store) (g.S.Store.durable c.args.store.now) (g.S.Store.durable c.hear_led.new.store) c.hear_led.ensures.stopped

pub returns-else-is_making-clause-silent : goal.returns-else-is_making-clause-silent
returns-else-is_making-clause-silent g c led = c.hear_led.ensures.stopped.silent
