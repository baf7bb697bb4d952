use Rattle.std.proofs.Common.{subst}
use Rattle.client_core.specs.Clients.{ObjFits, OpFits}
use Rattle.model_laws.specs.Lists.{all-more, all-taken}
use Rattle.world_check.proofs.Starting.{ops_decide}
use Rattle.world_check.proofs.starts.ops_fit.Goals as goal

pub loop-op-preserved : goal.loop-op-preserved
loop-op-preserved c =
    all-more (OpFits c.args.targets) c.args.ops.now c.loop-op.op-index c.op-item.result c.loop-op-test.true c.op-item.is c.loop-op.invariant (subst (λ p. ObjFits c.args.targets p.obj) c.path.ensures (c.obj_fits.ensures.0 c.if-not-obj_fits.false))

pub returns : goal.returns
returns c = ops_decide c.args.targets c.args.ops.now (all-taken (OpFits c.args.targets) c.args.ops.now c.loop-op.op-index c.loop-op-test.false c.loop-op.invariant)
