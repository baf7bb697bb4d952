use Rattle.std.proofs.Common.{◌≡◌, sym, ◌∙◌, ap, subst, IfOk}
use Rattle.std.specs.Option.{option_copied}
use Rattle.world_base.specs.ClientTurns.{attempt_moves, command_moves}
use Rattle.client_moves.specs.Moves.{IsAt, move_of}
use Rattle.client_moves.specs.Places.{command_fits, is_at, moved_begins, moved_done, moved_on, moved_waits, numbered_at}
use Rattle.client_moves.proofs.Taken.{attempt_taken, none_taken}
use Rattle.client_moves.proofs.moves.moved.Goals as goal

pub returns-then-waits : goal.returns-then-waits
returns-then-waits c = c.rests.ensures ∙ moved_waits c.args.plan.now c.args.state (sym c.waits.ensures ∙ c.if-waits.true)

pub returns-in_default : goal.returns-in_default
returns-in_default c =
    c.rests-in_default.ensures
    ∙ moved_done c.args.plan.now c.args.state (sym c.waits.ensures ∙ c.if-waits.false) (sym c.command_at.ensures.exact ∙ ap option_copied c.in_default.is)

pub command_moves-requires-clause-at : goal.command_moves-requires-clause-at
command_moves-requires-clause-at c =
    λ numbered. subst (λ s. IsAt c.args.plan.now.commands s.place s.command c.in-Some.command.now) (sym c.taken-present.ensures.rest)
    (is_at c.args.plan.now c.args.state c.in-Some.command.now c.requires.place (sym c.command_at.ensures.exact ∙ ap option_copied c.in-Some.is) c.in-Some.ensures.within numbered)

pub attempt_moves-requires-clause-at : goal.attempt_moves-requires-clause-at
attempt_moves-requires-clause-at c =
    let is = sym c.command_at.ensures.exact ∙ ap option_copied c.in-Some.is in
    let present = sym c.taken-present.ensures.present ∙ c.in-Some-present.is in
    subst (λ s. IsAt c.args.plan.now.commands s.place s.command c.in-Some.command.now) (sym c.taken-present.ensures.rest)
    (is_at c.args.plan.now c.args.state c.in-Some.command.now c.requires.place is c.in-Some.ensures.within
    (numbered_at c.args.plan.now c.args.state c.in-Some.command.now c.in-Some-present.present c.requires.place is present))

pub attempt_moves-requires-clause-numbered : goal.attempt_moves-requires-clause-numbered
attempt_moves-requires-clause-numbered c =
    numbered_at c.args.plan.now c.args.state c.in-Some.command.now c.in-Some-present.present c.requires.place
    (sym c.command_at.ensures.exact ∙ ap option_copied c.in-Some.is) (sym c.taken-present.ensures.present ∙ c.in-Some-present.is)

pub attempt_moves-requires-clause-fits : goal.attempt_moves-requires-clause-fits
attempt_moves-requires-clause-fits c =
    command_fits c.args.plan.now c.args.state c.in-Some.command.now c.requires.fits (sym c.command_at.ensures.exact ∙ ap option_copied c.in-Some.is)

pub returns-in-None : goal.returns-in-None
returns-in-None c =
    let none = sym c.taken-present.ensures.present ∙ c.in-None.is in
    c.command_moves.ensures
    ∙ ap (λ s. command_moves c.args.plan.now s c.in-Some.command.now) (c.taken-present.ensures.rest ∙ none_taken c.args.state none)
    ∙ moved_begins c.args.plan.now c.args.state c.in-Some.command.now (sym c.waits.ensures ∙ c.if-waits.false)
    (sym c.command_at.ensures.exact ∙ ap option_copied c.in-Some.is) none

pub returns-in-Some-present : goal.returns-in-Some-present
returns-in-Some-present c =
    let p = c.args.plan.now in
    let d = c.in-Some.command.now in
    let a = c.in-Some-present.present in
    let is = sym c.command_at.ensures.exact ∙ ap option_copied c.in-Some.is in
    let present = sym c.taken-present.ensures.present ∙ c.in-Some-present.is in
    subst (λ x. IfOk c.attempt_moves.result (λ m. move_of m ≡ x))
    (ap (λ s. attempt_moves p s a d) c.taken-present.ensures.rest
    ∙ attempt_taken p c.args.state a d (numbered_at p c.args.state d a c.requires.place is present)
    ∙ moved_on p c.args.state d a (sym c.waits.ensures ∙ c.if-waits.false) is present)
    c.attempt_moves.ensures
