use Rattle.std.proofs.Common.{sym, ◌∙◌, ap}
use Rattle.base_types.specs.declared.outcome.Cause.TheVariants.{Unresolved}
use Rattle.base_types.specs.declared.outcome.Outcome.TheVariants.{Restart}
use Rattle.base_messages.specs.declared.message.Message.TheVariants as message
use Rattle.world_base.specs.ClientTurns.{asks, ends, reset_by}
use Rattle.client_core.proofs.Told.{reset_again, reset_lost}
use Rattle.client_core.proofs.hears.reset.Goals as goal

pub returns-then-is_asked_again : goal.returns-then-is_asked_again
returns-then-is_asked_again c =
    let p = c.args.plan.now in
    let m = c.args.message.now in
    c.asks.ensures
    ∙ ap (λ x. asks c.args.target (message.Ask x) c.args.present c.args.state) c.attempt_id-by.ensures
    ∙ sym (reset_again p c.args.state c.args.present c.args.target m (sym c.is_asked_again.ensures ∙ c.if-is_asked_again.true))
    ∙ ap (λ d. reset_by p c.args.state c.args.present c.args.target d m) (sym c.if-down.false)

pub returns : goal.returns
returns c =
    let p = c.args.plan.now in
    let m = c.args.message.now in
    c.ends-2.ensures
    ∙ ap (λ x. ends p c.args.state c.args.present (Restart (Unresolved x))) c.attempt_id-by.ensures
    ∙ sym (reset_lost p c.args.state c.args.present c.args.target m (sym c.is_asked_again.ensures ∙ c.if-is_asked_again.false))
    ∙ ap (λ d. reset_by p c.args.state c.args.present c.args.target d m) (sym c.if-down.false)
