use Rattle.std.proofs.Common.{◌≡◌, sym, subst}
use Rattle.std.specs.Prelude.{filter}
use Rattle.daos_model.specs.Changes.{is_other}
use Rattle.dtx_base.specs.Leading.{is_led}
use Rattle.dtx_entries.specs.Settling.{entries_settled}
use Rattle.dtx_leader.proofs.Led.{whole-filtered}
use Rattle.dtx_leader.proofs.leader.Leader.hear_answer.Goals as goal

pub invariant_of-self-in-Some : goal.invariant_of-self-in-Some
unfolding entries_settled
invariant_of-self-in-Some c = subst (λ es. filter (is_led c.self.inside.seat.me) es ≡ es) (sym c.settle.ensures) (whole-filtered (is_led c.self.inside.seat.me) (is_other c.args.attempt) c.self.inside.table c.self.invariant)
