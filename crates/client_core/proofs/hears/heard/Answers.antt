use Rattle.std.proofs.Common.{◌≡◌, sym, ◌∙◌, ap, subst, None, Some, IfOk}
use Rattle.std.specs.Option.{option_copied}
use Rattle.client_core.specs.Clients.{move_of}
use Rattle.client_core.proofs.Hearing.{heard_done, heard_on, place_heard}
use Rattle.client_moves.specs.Places.{command_fits, is_at, numbered_at}
use Rattle.client_core.proofs.hears.heard.Goals as goal

pub returns-in_default : goal.returns-in_default
returns-in_default c =
    let p = c.args.plan.now in
    let s = c.hears_epochs-state.result in
    c.goes.ensures
    ∙ heard_done p c.args.state s c.args.message.now (place_heard p c.args.state s c.args.message.now c.requires.place c.hears_epochs-state.ensures) c.hears_epochs-state.ensures
    (sym c.command_at.ensures.exact ∙ ap option_copied c.in_default.is)

pub heard_at-requires-clause-at : goal.heard_at-requires-clause-at
heard_at-requires-clause-at c =
    let p = c.args.plan.now in
    let s = c.hears_epochs-state.result in
    let place = place_heard p c.args.state s c.args.message.now c.requires.place c.hears_epochs-state.ensures in
    let is = sym c.command_at.ensures.exact ∙ ap option_copied c.in-Some.is in
    let present = sym c.in_ok-copy_present.ensures ∙ c.in-Some-2.is in
    is_at p s c.in-Some.command.now place is c.in-Some.ensures.within (numbered_at p s c.in-Some.command.now c.in-Some-2.present place is present)

pub heard_at-requires-clause-fits : goal.heard_at-requires-clause-fits
heard_at-requires-clause-fits c =
    command_fits c.args.plan.now c.hears_epochs-state.result c.in-Some.command.now c.requires.fits (sym c.command_at.ensures.exact ∙ ap option_copied c.in-Some.is)

pub returns-in-None : goal.returns-in-None
returns-in-None c =
    c.goes-in-None.ensures
    ∙ heard_on c.args.plan.now c.args.state c.hears_epochs-state.result c.args.message.now None c.hears_epochs-state.ensures (sym c.in_ok-copy_present.ensures ∙ c.in-None.is)

pub returns-in-Some-2 : goal.returns-in-Some-2
returns-in-Some-2 c =
    subst (λ x. IfOk c.heard_at.result (λ m. move_of m ≡ x))
    (heard_on c.args.plan.now c.args.state c.hears_epochs-state.result c.args.message.now (Some c.in-Some-2.present) c.hears_epochs-state.ensures
    (sym c.in_ok-copy_present.ensures ∙ c.in-Some-2.is))
    c.heard_at.ensures
