use Rattle.std.proofs.Common.{sym, ◌∙◌, ap, false}
use Rattle.world_base.specs.ClientTurns.{answered, reset_by}
use Rattle.client_core.proofs.Told.{answered_other, answered_reset}
use Rattle.client_core.proofs.hears.answered.Goals as goal

pub returns-in-Reset : goal.returns-in-Reset
returns-in-Reset c =
    let p = c.args.plan.now in
    let a = c.args.present in
    c.reset.ensures
    ∙ ap (λ m. reset_by p c.args.state (record a { waits = false }) c.in-Reset.target c.in-Reset.down m) c.get-request.ensures
    ∙ sym (answered_reset p c.args.state a c.in-Reset.target c.in-Reset.down c.in-Reset.message)
    ∙ ap (λ m. answered p c.args.state a m) (sym c.in-Reset.is)

pub returns-in_default : goal.returns-in_default
returns-in_default c =
    c.goes.ensures ∙ answered_other c.args.plan.now c.args.state c.args.present c.args.message.now c.in_default.not-Fetched c.in_default.not-Ended c.in_default.not-Reset
