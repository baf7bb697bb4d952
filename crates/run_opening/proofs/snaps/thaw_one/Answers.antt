use Rattle.std.proofs.Common.{◌∙◌}
use Rattle.daos_model.specs.Changes.{thawed}
use Rattle.vos_store.specs.Refusals.{always_stop}
use Rattle.run_opening.proofs.Going.{goes-call}
use Rattle.run_opening.proofs.Thawing.{thawed-entries}
use Rattle.run_opening.proofs.Leaving.{leaves-call}
use Rattle.run_opening.proofs.snaps.thaw_one.Goals as goal

pub returns-clause-goes : goal.returns-clause-goes
returns-clause-goes g c =
    goes-call always_stop c.thaw.result (thawed c.args.snap.now.cont c.args.snap.now.epoch) (g.S.Store.state c.args.store.now) (g.S.Store.state c.thaw.new.self) (g.S.Store.durable c.args.store.now) (g.S.Store.durable c.thaw.new.self) _ _
    c.requires.running c.thaw.ensures.call c.thaw.ensures.kept (λ d is none. (c.thaw.ensures.free, thawed-entries c.args.snap.now.cont c.args.snap.now.epoch d ∙ none))

pub returns-clause-left : goal.returns-clause-left
returns-clause-left g c =
    leaves-call g.S.Store.durable g.S.Store.state g.S.Store.may g.met.S.Store.steady _ always_stop c.thaw.result (thawed c.args.snap.now.cont c.args.snap.now.epoch) c.args.store.now c.thaw.new.self c.requires.running c.thaw.ensures.kept
