use Rattle.std.proofs.Common.{◌∙◌, ap, refl, sym, subst}
use Rattle.vos_store.specs.Refusals.{fetch_stop}
use Rattle.target_parts.specs.Halts.{halt_stop}
use Rattle.target_parts.specs.Running.{runs_as, runs_call}
use Rattle.vos_store.specs.Refusals.{says}
use Rattle.target_snaps.specs.Freezing.{FreezesOrCut}
use Rattle.target_snaps.proofs.Freezed.{below-froze, read-untold, says-froze}
use Rattle.target_snaps.proofs.freezing.refuse_below.Goals as goal

pub returns-in-Ok-clause-froze : goal.returns-in-Ok-clause-froze
returns-in-Ok-clause-froze g c d at =
    absurd (read-untold c.args.read.now c.args.cont c.args.epoch d (g.S.Store.state c.args.store.now) (g.S.Store.state c.fetch.new.self) (g.S.Store.durable c.args.store.now) (g.S.Store.durable c.fetch.new.self) (g.S.Store.may c.args.store.now) (g.S.Store.may c.fetch.new.self)
    c.requires.of_cont (c.requires.below d at) (c.requires.new d at) c.in-Ok._answer (c.in-Ok.ensures.answer d at refl))

pub returns-in-Err-clause-froze : goal.returns-in-Err-clause-froze
returns-in-Err-clause-froze g c d at =
    subst (λ r. FreezesOrCut c.args.cont c.args.epoch d (g.S.Store.state c.args.store.now) (g.S.Store.durable c.fetch.new.self) (g.S.Store.state c.fetch.new.self) (g.S.Store.may c.fetch.new.self) r) (sym c.refused_so.ensures)
    (below-froze c.args.read.now c.args.cont c.args.epoch d (g.S.Store.state c.args.store.now) (g.S.Store.state c.fetch.new.self) (g.S.Store.durable c.args.store.now) (g.S.Store.durable c.fetch.new.self) (g.S.Store.may c.args.store.now) (g.S.Store.may c.fetch.new.self)
    c.requires.of_cont (c.requires.below d at) (c.requires.new d at) c.in-Err.no at (λ x may. g.met.S.Store.steady _ d x c.requires.running at may) (c.in-Err.ensures.answer d at) c.in-Err.ensures.kept c.in-Err.ensures.free c.in-Err.ensures.call.free)

pub returns-in-Err-clause-runs : goal.returns-in-Err-clause-runs
returns-in-Err-clause-runs g c =
    runs_as fetch_stop _ halt_stop c.refused_so.result (g.S.Store.state c.args.store.now) (g.S.Store.state c.fetch.new.self) (g.S.Store.durable c.args.store.now) (g.S.Store.durable c.fetch.new.self) (ap (says halt_stop) c.refused_so.ensures ∙ says-froze c.in-Err.no)
    (runs_call 0 fetch_stop _ (g.S.Store.state c.args.store.now) (g.S.Store.state c.fetch.new.self) (g.S.Store.durable c.args.store.now) (g.S.Store.durable c.fetch.new.self) c.requires.running c.in-Err.ensures.call c.in-Err.ensures.kept.told)
