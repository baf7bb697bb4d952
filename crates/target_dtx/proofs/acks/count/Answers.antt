use Rattle.std.proofs.Common.{◌≡◌, IfOk, subst}
use Rattle.dtx_table.proofs.Owing.{ack-alike}
use Rattle.target_dtx.proofs.acks.count.Goals as goal

pub returns-clause-ok : goal.returns-clause-ok
returns-clause-ok c =
    subst (λ x. IfOk c.hear_ack.result (λ posts. (c.hear_ack.new.self, posts) ≡ x))
    (ack-alike c.args.attempt c.args.seat c.of_attempt-own.result.now c.args.entries.now.items c.args.leader.now c.of_attempt-own.ensures c.args.member c.args.inc c.args.refusal.now)
    c.hear_ack.ensures.ok
