use Rattle.std.proofs.Common.{◌≡◌, sym, ◌∙◌, ap, slice_get, Some}
use Rattle.std.specs.Option.{option_copied}
use Rattle.base_types.specs.Placement.{path_leader}
use Rattle.base_messages.specs.declared.message.Message.TheVariants as message
use Rattle.world_base.specs.ClientTurns.{asks}
use Rattle.client_moves.proofs.Writes.{commits_first}
use Rattle.client_moves.proofs.moves.commits.Goals as goal

pub returns : goal.returns
returns c =
    let a = c.args.present in
    let first : slice_get c.args.writes 0 ≡ Some c.in-Some.first.now =
    ap (λ ws. slice_get ws 0) (sym c.as_slice.ensures) ∙ sym c.first.ensures.value ∙ ap option_copied c.in-Some.is in
    c.asks.ensures
    ∙ ap (λ x. asks c.path_leader-leader.result (message.Commit x a.epoch a.first c.args.state.tracker c.args.writes) a c.args.state) c.attempt_id.ensures
    ∙ commits_first c.args.plan.now c.args.state a c.args.writes c.in-Some.first.now c.path_leader-leader.result first
    (c.path_leader-leader.ensures ∙ ap (λ x. path_leader x c.args.plan.now.targets) c.path.ensures)
