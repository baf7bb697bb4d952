use Rattle.std.proofs.Common.{◌≡◌, Some, is_some, sym, ◌∙◌, ap, true}
use Rattle.std.specs.Option.{option_copied}
use Rattle.world_base.specs.ClientTurns.{command_at, goes, is_waiting}
use Rattle.base_types.specs.declared.script.Command.TheVariants.{Run}
use Rattle.client_core.specs.Clients.{staged_attempt}
use Rattle.client_moves.specs.Places.{moved_on}
use Rattle.client_core.proofs.quiet.is_quiet.Goals as goal

pub returns-clause-quiet : goal.returns-clause-quiet
returns-clause-quiet c =
    λ quiet.
    let p = c.args.plan.now in
    let s = c.args.state.now in
    let a = c.in-Some.present in
    let d = Run c.in-Some-Run.ops c.in-Some-Run.skips c.in-Some-Run.field-0-2 in
    let ready : c.is_ready.result ≡ true = cc in
    let at : command_at p s ≡ Some d = sym c.command_at.ensures.exact ∙ ap option_copied c.in-Some-Run.is ∙ ap Some c.in-Some-Run.field-0-is in
    ap (λ q. goes (record s { present = staged_attempt q })) c.in-Some.is
    ∙ sym (c.is_run_quiet.ensures quiet p s (is_some c.in-Some-Run.field-0-2) (c.is_ready.ensures.skips ready))
    ∙ moved_on p s d a (ap is_waiting c.in-Some.is ∙ c.is_ready.ensures.waits ready) at c.in-Some.is
