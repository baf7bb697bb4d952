use Rattle.std.proofs.Common.{ap, ◌∙◌}
use Rattle.world_base.specs.Roles.{told_of_all}
use Rattle.replay_dtx.proofs.Turning.{mark_found}
use Rattle.replay_dtx.proofs.marks.hears_mark.Goals as goal

pub returns : goal.returns
returns c =
    mark_found c.args.plan c.args.from c.args.inc c.args.marks.now c.args.before.now c.in_ok-start.start c.all_marked-durable.result c.in_ok-memory.memory c.told_of_all-memory.result c.in_ok-attempts.attempts c.in_ok-says.field-0
    c.in_ok-start.ensures c.all_marked-durable.ensures c.in_ok-attempts.ensures c.in_ok-memory.ensures (c.told_of_all-memory.ensures ∙ ap (λ ids. told_of_all ids c.in_ok-memory.memory) c.as_slice.ensures) c.in_ok-says.ensures
