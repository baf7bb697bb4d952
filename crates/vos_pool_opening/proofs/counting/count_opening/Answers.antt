use Rattle.std.proofs.Common.{rules}
use Rattle.vos_pool_opening.proofs.Begins.{counted-begins, found-begun, on-ok-two}
use Rattle.vos_pool_opening.specs.Beginning.{begun}
use Rattle.vos_pool_opening.proofs.counting.count_opening.Goals as goal

pub returns-clause-begun : goal.returns-clause-begun
returns-clause-begun g c = c.count.ensures.makes (begun c.args.beginning) (λ running vs es kept. counted-begins c.args.beginning c.args.opened.now.table c.counters_with-counters.result c.next_incarnation-next.result (search rules) (search rules) vs es)

pub returns-clause-found : goal.returns-clause-found
returns-clause-found g c =
    on-ok-two c.count.result
    (λ table made tell vs es was.
    found-begun c.args.beginning c.args.opened.now.table c.count.new.self.table c.counters_with-counters.result c.next_incarnation-next.result _ _ (search rules) (search rules) table made vs es was)
    c.count.ensures.table
    (c.count.ensures.makes (begun c.args.beginning) (λ running vs es kept. counted-begins c.args.beginning c.args.opened.now.table c.counters_with-counters.result c.next_incarnation-next.result (search rules) (search rules) vs es)).done
