use Rattle.std.proofs.Common.{subst}
use Rattle.std.specs.Bool.{Decides}
use Rattle.std.proofs.lemmas.Bool.Decides.{not_from_Decides}
use Rattle.base_types.specs.Operations.{write_path}
use Rattle.model_laws.specs.Lists.{all-more}
use Rattle.replay_base.proofs.Starts.{all_so, none_so}
use Rattle.vos_stamp.specs.Stamps.{IsShown, NoneAgainst}
use Rattle.replay_writes.proofs.Reading.{Shows, never_first, none_more, not_first}
use Rattle.replay_writes.proofs.reads.is_first_read.Goals as goal
use Rattle.target_writes.specs.Writing.{read_found}

pub returns-then-is_shown : goal.returns-then-is_shown
returns-then-is_shown c =
    all_so (read_found c.args.epoch c.args.stamps.now c.args.writes.now c.loop-write.write-index c.write-item.result c.args.read.now c.loop-write.invariant.reads c.loop-write-test.true c.write-item.is
    (subst (λ p. IsShown p c.args.epoch.0 c.args.stamps.now c.args.read.now) c.path-path.ensures (c.is_shown.ensures.0 c.if-is_shown.true)))

pub returns-then-not-none_against : goal.returns-then-not-none_against
returns-then-not-none_against c =
    none_so (not_first c.args.epoch c.args.stamps.now c.args.read.now c.args.writes.now c.loop-write.write-index c.write-item.result
    (none_more (Shows c.args.epoch c.args.stamps.now c.args.read.now) c.args.writes.now c.loop-write.write-index c.write-item.result c.is_shown.result
    (subst (λ p. Decides c.is_shown.result (IsShown p c.args.epoch.0 c.args.stamps.now c.args.read.now)) c.path-path.ensures c.is_shown.ensures) c.if-is_shown.false c.loop-write-test.true c.write-item.is c.loop-write.invariant.none)
    c.loop-write-test.true c.write-item.is
    (not_from_Decides c.none_against.result (subst (λ p. Decides c.none_against.result (NoneAgainst p c.args.epoch.0 c.args.stamps.now)) c.path-path.ensures c.none_against.ensures) c.if-not-none_against.true))

pub loop-write-preserved : goal.loop-write-preserved
loop-write-preserved c = record {
  reads = all-more (λ w. NoneAgainst (write_path w.write) c.args.epoch.0 c.args.stamps.now) c.args.writes.now c.loop-write.write-index c.write-item.result c.loop-write-test.true c.write-item.is c.loop-write.invariant.reads
      (subst (λ p. NoneAgainst p c.args.epoch.0 c.args.stamps.now) c.path-path.ensures (c.none_against.ensures.0 c.if-not-none_against.false));
  none = none_more (Shows c.args.epoch c.args.stamps.now c.args.read.now) c.args.writes.now c.loop-write.write-index c.write-item.result c.is_shown.result
      (subst (λ p. Decides c.is_shown.result (IsShown p c.args.epoch.0 c.args.stamps.now c.args.read.now)) c.path-path.ensures c.is_shown.ensures) c.if-is_shown.false c.loop-write-test.true c.write-item.is c.loop-write.invariant.none;
}

pub returns : goal.returns
returns c = none_so (never_first c.args.epoch c.args.stamps.now c.args.read.now c.args.writes.now c.loop-write.write-index c.loop-write.invariant.none c.loop-write-test.false)
