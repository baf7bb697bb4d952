use Rattle.std.proofs.Common.{◌≡◌, sym, ◌∙◌, ap, subst, slice_get, None, Some, IfOk}
use Rattle.std.specs.Option.{option_copied}
use Rattle.daos_model.specs.Accesses.{minor_writes}
use Rattle.world_base.specs.ClientTurns.{commits, op_moves}
use Rattle.client_moves.specs.Moves.{FirstFits, move_of}
use Rattle.client_moves.specs.Places.{op_fits, op_within}
use Rattle.client_moves.proofs.Writes.{first_fits}
use Rattle.client_moves.proofs.moves.op_moves.Goals as goal

pub commits-requires-clause-fits : goal.commits-requires-clause-fits
commits-requires-clause-fits c =
    let ops = c.args.ops.now in
    let targets = c.args.plan.now.targets in
    subst (FirstFits targets) (sym (c.in_ok-writes-in-None.ensures ∙ ap (minor_writes 0) c.as_slice.ensures)) (first_fits targets 0 ops c.requires.fits.objs)

pub returns-in_ok-writes-in-None : goal.returns-in_ok-writes-in-None
returns-in_ok-writes-in-None c =
    let none : slice_get c.args.ops.now c.args.present.op ≡ None = sym c.op_at.ensures ∙ ap option_copied c.in-None.is in
    c.commits.ensures
    ∙ ap (λ ws. commits c.args.plan.now c.args.state c.args.present ws) (c.in_ok-writes-in-None.ensures ∙ ap (minor_writes 0) c.as_slice.ensures)
    ∙ ap (λ o. op_moves c.args.plan.now c.args.state c.args.present c.args.ops.now c.args.snapshot o) (sym none)

pub asks_or_goes-requires-clause-fits : goal.asks_or_goes-requires-clause-fits
asks_or_goes-requires-clause-fits c =
    op_fits c.args.plan.now.targets c.args.ops.now c.args.present.op c.in-Some.op.now c.requires.fits (sym c.op_at.ensures ∙ ap option_copied c.in-Some.is)

pub asks_or_goes-requires-clause-within : goal.asks_or_goes-requires-clause-within
asks_or_goes-requires-clause-within c =
    op_within c.args.plan.now.targets c.args.ops.now c.args.present.op c.in-Some.op.now c.requires.fits (sym c.op_at.ensures ∙ ap option_copied c.in-Some.is)

pub returns-in-Some : goal.returns-in-Some
returns-in-Some c =
    let some : slice_get c.args.ops.now c.args.present.op ≡ Some c.in-Some.op.now = sym c.op_at.ensures ∙ ap option_copied c.in-Some.is in
    subst (λ o. IfOk c.asks_or_goes.result (λ m. move_of m ≡ op_moves c.args.plan.now c.args.state c.args.present c.args.ops.now c.args.snapshot o)) (sym some) c.asks_or_goes.ensures
