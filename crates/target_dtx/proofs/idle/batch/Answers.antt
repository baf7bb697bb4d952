use Rattle.std.proofs.Common.{◌≡◌, IfOk, subst}
use Rattle.dtx_table.proofs.Owing.{batched-owing}
use Rattle.target_dtx.proofs.idle.batch.Goals as goal

pub returns-clause-ok : goal.returns-clause-ok
returns-clause-ok c =
    subst (λ x. IfOk c.batch.result (λ posts. (c.batch.new.self, posts) ≡ x))
    (batched-owing c.args.seat c.owing.result.now c.args.entries.now.items c.args.leader.now c.owing.ensures)
    c.batch.ensures.ok
