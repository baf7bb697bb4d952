use Rattle.std.proofs.Common.{◌≡◌, sym, subst}
use Rattle.std.specs.Prelude.{filter}
use Rattle.dtx_base.specs.Leading.{is_led}
use Rattle.dtx_leader.proofs.Led.{led-confirmed}
use Rattle.dtx_leader.proofs.leader.Leader.hear_marked_of.Goals as goal
use Rattle.dtx_leader.proofs.leader.Leader.hear_marked_of.Goals.{then-inc-self, else-inc-self}

pub invariant_of-self-2 : goal.invariant_of-self-2
invariant_of-self-2 c = elim c.if-inc-self.branch [
  | then-inc-self w ↦ subst (λ l. filter (is_led l.seat.me) l.table ≡ l.table) (sym w.self-inside-is)
      (subst (λ es. filter (is_led c.self.inside.seat.me) es ≡ es) (sym w.confirm_all.ensures) (led-confirmed c.self.inside.seat.me c.args.from c.args.attempts.now c.self.inside.table c.self.invariant))
  | else-inc-self w ↦ subst (λ l. filter (is_led l.seat.me) l.table ≡ l.table) (sym w.self-inside-is) c.self.invariant
]
