use Rattle.std.proofs.Common.{◌≡◌, sym, ◌∙◌, ap, subst, IfOk}
use Rattle.world_base.specs.ClientTurns.{told_at}
use Rattle.client_core.specs.Clients.{move_of}
use Rattle.client_core.proofs.Hearing.{group_told_last}
use Rattle.client_core.proofs.hears.group_told.Goals as goal

pub returns-else-is_group_left : goal.returns-else-is_group_left
returns-else-is_group_left c =
    let p = c.args.plan.now in
    let a = c.args.present in
    let last = sym c.is_group_left.ensures ∙ c.if-is_group_left.false in
    subst (λ x. IfOk c.told_at.result (λ m. move_of m ≡ x))
    (ap (λ b. told_at p c.args.state a c.args.op.now.cond a.stage b) c.in_ok-answer.ensures ∙ group_told_last p c.args.state a c.args.op.now c.args.answer last)
    c.told_at.ensures
