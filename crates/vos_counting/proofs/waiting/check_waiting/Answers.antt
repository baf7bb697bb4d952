use Rattle.std.proofs.Common.{◌+◌, ◌∙◌, List, drop, subst, sym}
use Rattle.daos_model.specs.declared.durable.Version.{Version}
use Rattle.vos_counting.specs.Prepared.{counts_in}
use Rattle.vos_counting.specs.Waiting.{count_of}
use Rattle.vos_counting.proofs.Counts.{CountsSoFar, counts_more, counts_same, still_few}
use Rattle.vos_counting.proofs.Names.{next_item}
use Rattle.vos_counting.proofs.waiting.check_waiting.Goals as goal

pub loop-version-preserved-then-not-waits : goal.loop-version-preserved-then-not-waits
loop-version-preserved-then-not-waits c =
    let l = c.loop-version in
    let vs = c.args.versions.now in
    let v = c.version-item.result in
    let test = counts_in c.args.prepared.now in
    let here = subst (λ (z : List Version). CountsSoFar test (count_of l.waiting) z vs) (next_item vs l.version-index v c.loop-version-test.true c.version-item.is) l.invariant.counted in
    record {
      counted = counts_same test (count_of l.waiting) v (drop (l.version-index + 1) vs) vs (sym c.waits.ensures ∙ c.if-not-waits.true) here;
      few = l.invariant.few;
    }

pub loop-version-preserved : goal.loop-version-preserved
loop-version-preserved c =
    let l = c.loop-version in
    let vs = c.args.versions.now in
    let v = c.version-item.result in
    let test = counts_in c.args.prepared.now in
    let here = subst (λ (z : List Version). CountsSoFar test (count_of l.waiting) z vs) (next_item vs l.version-index v c.loop-version-test.true c.version-item.is) l.invariant.counted in
    record {
      counted = counts_more test (count_of l.waiting) (count_of c.add.new.self) v (drop (l.version-index + 1) vs) vs (sym c.waits.ensures ∙ c.if-not-waits.false) c.in_ok-add.ensures.added here;
      few = still_few v.by (count_of l.waiting) (count_of c.add.new.self) c.in_ok-add.ensures.added c.in_ok-add.ensures.few l.invariant.few;
    }
