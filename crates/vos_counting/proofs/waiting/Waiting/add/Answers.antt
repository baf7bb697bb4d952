use Rattle.std.proofs.Common.{◌+◌, Some, cond, ap, arith, ◌∙◌}
use Rattle.std.specs.HashMap.{get}
use Rattle.std.specs.Prelude.{if◌then◌else◌}
use Rattle.std.proofs.lemmas.Bool.Decides.{nat_tests}
use Rattle.daos_model.specs.EntryLaws.{same_attempt-itself}
use Rattle.vos_counting.specs.Counting.{same_attempt_name}
use Rattle.vos_counting.specs.Waiting.{count_of}
use Rattle.vos_counting.proofs.Counts.{one_more}
use Rattle.vos_counting.proofs.waiting.Waiting.add.Goals as goal

pub returns-clause-added : goal.returns-clause-added
unfolding count_of
returns-clause-added c =
    let n = c.count-count.result in
    let old = get same_attempt_name c.args.self.now.counts in
    one_more c.args.attempt n old (get same_attempt_name c.insert.new.self) c.count-count.ensures
    (λ q. c.in_ok-insert.ensures.updates.0 q ∙ ap (λ k. cond (same_attempt_name k q) (Some (n + 1)) (old q)) c.attempt_name.ensures)

pub returns-clause-few : goal.returns-clause-few
unfolding count_of
returns-clause-few c =
    let a = c.args.attempt in
    let n = c.count-count.result in
    let old = get same_attempt_name c.args.self.now.counts in
    let more = one_more a n old (get same_attempt_name c.insert.new.self) c.count-count.ensures
    (λ q. c.in_ok-insert.ensures.updates.0 q ∙ ap (λ k. cond (same_attempt_name k q) (Some (n + 1)) (old q)) c.attempt_name.ensures) a
    ∙ ap (λ t. if t then count_of c.args.self.now a + 1 else count_of c.args.self.now a) (same_attempt-itself a) in
    let was = c.count-count.ensures in
    let low = c.if-count-ge-MOST_WAITING.false in
    grind (arith, nat_tests)
