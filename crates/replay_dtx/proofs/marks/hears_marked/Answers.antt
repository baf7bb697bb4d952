use Rattle.std.proofs.Common.{None, ap, refl, ◌∙◌}
use Rattle.world_base.specs.Requests.{sends}
use Rattle.replay_dtx.proofs.Turning.{marked_found}
use Rattle.replay_dtx.proofs.marks.hears_marked.Goals as goal

pub returns : goal.returns
returns c =
    marked_found c.args.plan c.args.from c.args.inc c.args.attempts.now c.args.before.now c.args.from.number c.in_ok-start.start c.all_confirmed_if-durable.result c.in_ok-answered_memory.field-0 c.sends.result
    refl c.in_ok-start.ensures c.all_confirmed_if-durable.ensures c.in_ok-answered_memory.ensures (c.sends.ensures ∙ ap (λ x. sends x None) c.new.ensures)
