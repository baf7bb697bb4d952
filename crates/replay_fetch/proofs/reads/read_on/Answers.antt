use Rattle.std.proofs.Common.{◌<◌, length, subst, sym}
use Rattle.replay_fetch.proofs.Reading.{gone_more, gone_none, met_ending, met_stuck, met_way}
use Rattle.replay_fetch.proofs.reads.read_on.Goals as goal
use Rattle.world_base.specs.LoopLaws.{one-fewer}

pub loop-work-init : goal.loop-work-init
loop-work-init c = gone_none c.args.plan c.args.request.now c.args.epoch c.args.work c.requires

pub loop-work-smaller : goal.loop-work-smaller
loop-work-smaller c =
    let way = met_way c.args.plan c.args.request.now c.args.epoch _ _ c.loop-work.work.memory.leader.decided _ c.in-Settles.attempt c.as_slice-decided.ensures c.in_ok-attempt.ensures c.in-Settles.is in
    let less = one-fewer c.in-Settles.attempt c.loop-work.work.memory.leader.decided way.own in
    subst (λ m. length m.leader.decided < length c.loop-work.work.memory.leader.decided) (sym c.settle_first-work.ensures.memory) less

pub loop-work-preserved : goal.loop-work-preserved
loop-work-preserved c =
    gone_more c.args.plan c.args.request.now c.args.epoch c.args.work c.loop-work.work c.settle_first-work.result c.in-Settles.attempt c.loop-work.invariant
    (met_way c.args.plan c.args.request.now c.args.epoch _ _ c.loop-work.work.memory.leader.decided _ c.in-Settles.attempt c.as_slice-decided.ensures c.in_ok-attempt.ensures c.in-Settles.is) c.settle_first-work.ensures

pub returns-in-Ends : goal.returns-in-Ends
returns-in-Ends c = record {
  gone = c.loop-work.invariant;
  comes = met_ending c.args.plan c.args.request.now c.args.epoch _ _ c.loop-work.work.memory.leader.decided _ c.in-Ends.ending c.as_slice-decided.ensures c.in_ok-attempt.ensures c.in-Ends.is;
}

pub returns-in-Stuck : goal.returns-in-Stuck
returns-in-Stuck c = record { gone = c.loop-work.invariant; comes = met_stuck c.args.plan c.args.request.now c.args.epoch _ _ _ c.in_ok-attempt.ensures c.in-Stuck.is }
