use Rattle.std.proofs.Common.{◌≡◌, map, sym, subst}
use Rattle.std.specs.Prelude.{filter}
use Rattle.daos_model.specs.Changes.{committed_at}
use Rattle.dtx_base.specs.Leading.{is_led, settled_led}
use Rattle.dtx_entries.specs.Settling.{entries_settled}
use Rattle.dtx_leader.proofs.Led.{led-committed}
use Rattle.dtx_leader.proofs.leader.Leader.settled.Goals as goal

pub invariant_of-self : goal.invariant_of-self
unfolding entries_settled
invariant_of-self c = subst (λ es. filter (is_led c.self.inside.seat.me) es ≡ es) (sym c.settle.ensures) (led-committed c.self.inside.seat.me c.args.attempt c.self.inside.table c.self.invariant)
