use Rattle.std.proofs.Common.{◌≡◌, ◌<◌, ◌+◌, Some, ap, subst, sym}
use Rattle.daos_model.specs.declared.durable.Durable.{Durable}
use Rattle.target_parts.specs.Knowing.{IsHeard}
use Rattle.target_resync.specs.Openings.{TellsRestart}
use Rattle.target_parts.specs.Knowing.{memory_of}
use Rattle.snap_core.specs.Snaps.{SnapOf}
use Rattle.target_core.proofs.Posting.{opened-ends}
use Rattle.target_core.proofs.target.Target.restart.Goals as goal

pub restart-requires-clause-counted : goal.restart-requires-clause-counted
restart-requires-clause-counted g c =
    subst (λ y. (x : Durable) → g.S.Store.durable y.store ≡ Some x → (z : Durable) → g.S.Store.may y.store z → z.incarnation + 1 < 18446744073709551616) (sym c.self.view_is) c.requires.counted

pub restart-requires-clause-covered : goal.restart-requires-clause-covered
restart-requires-clause-covered g c =
    subst (λ y. (x : Durable) → g.S.Store.durable y.store ≡ Some x → (z : Durable) → g.S.Store.may y.store z → IsHeard z.lease z) (sym c.self.view_is) c.requires.covered

pub returns-in-Ok-restart-clause-line : goal.returns-in-Ok-restart-clause-line
returns-in-Ok-restart-clause-line g c = subst (λ y. TellsRestart c.args.number y.plan.me c.in-Ok-restart.field-0.did) c.self.view_is c.in-Ok-restart.ensures.line

pub returns-in-Ok-restart-clause-ends : goal.returns-in-Ok-restart-clause-ends
returns-in-Ok-restart-clause-ends g c asked =
    opened-ends asked (memory_of c.in-Ok-restart.field-0.knows) c.in-Ok.snaps c.in-Ok-restart.field-0.did.posts (ap (λ (s : SnapOf). s.collecting) c.in-Ok.ensures) (c.in-Ok-restart.ensures.ends asked)
