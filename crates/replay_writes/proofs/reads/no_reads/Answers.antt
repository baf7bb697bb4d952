use Rattle.std.proofs.Common.{subst}
use Rattle.std.specs.Bool.{Decides}
use Rattle.base_types.specs.Operations.{write_path}
use Rattle.model_laws.specs.Lists.{all-more, all-taken}
use Rattle.replay_base.proofs.Starts.{all_so, none_so}
use Rattle.vos_stamp.specs.Stamps.{NoneAgainst}
use Rattle.replay_writes.proofs.Reading.{not_all}
use Rattle.replay_writes.proofs.reads.no_reads.Goals as goal

pub returns-then-not-none_against : goal.returns-then-not-none_against
returns-then-not-none_against c =
    none_so (not_all (λ w. NoneAgainst (write_path w.write) c.args.epoch.0 c.args.stamps.now) c.args.writes.now c.loop-write.write-index c.write-item.result c.none_against.result
    (subst (λ p. Decides c.none_against.result (NoneAgainst p c.args.epoch.0 c.args.stamps.now)) c.path.ensures c.none_against.ensures) c.if-not-none_against.true c.loop-write-test.true c.write-item.is)

pub loop-write-preserved : goal.loop-write-preserved
loop-write-preserved c =
    all-more (λ w. NoneAgainst (write_path w.write) c.args.epoch.0 c.args.stamps.now) c.args.writes.now c.loop-write.write-index c.write-item.result c.loop-write-test.true c.write-item.is c.loop-write.invariant
    (subst (λ p. NoneAgainst p c.args.epoch.0 c.args.stamps.now) c.path.ensures (c.none_against.ensures.0 c.if-not-none_against.false))

pub returns : goal.returns
returns c = all_so (all-taken (λ w. NoneAgainst (write_path w.write) c.args.epoch.0 c.args.stamps.now) c.args.writes.now c.loop-write.write-index c.loop-write-test.false c.loop-write.invariant)
