use Rattle.std.proofs.Common.{◌∙◌, refl, subst, sym}
use Rattle.world_base.specs.Commits.{IsAllowed}
use Rattle.target_parts.specs.EpochLaws.{has-epochs}
use Rattle.target_parts.specs.Halts.{halt_stop}
use Rattle.target_parts.specs.Knowing.{LeadsWell, memory_of}
use Rattle.target_parts.specs.Running.{for_some_on, runs_on, still_runs}
use Rattle.target_writes.specs.Checks.{ByCause, CanStore, Checks}
use Rattle.target_writes.proofs.Storing.{prepares-leads, prepares-moved}
use Rattle.target_writes.proofs.checks.prepare.Goals as goal

pub refusal-requires-clause-enlisted : goal.refusal-requires-clause-enlisted
refusal-requires-clause-enlisted g c x at = (c.requires.can x at).enlisted

pub refusal-requires-clause-epochs : goal.refusal-requires-clause-epochs
refusal-requires-clause-epochs g c x at = has-epochs c.args.plan (memory_of c.args.knows.now) c.args.knows.now.entries.items x (c.requires.leads x at) (g.met.S.Store.formed _ c.requires.running x at)

pub store_writes-requires-clause-can : goal.store_writes-requires-clause-can
store_writes-requires-clause-can g c =
    for_some_on (g.S.Store.durable c.args.store.now) _ (CanStore c.args.entry.now c.args.writes.now) c.in_ok-cause.ensures.runs.told (λ d at. (d, (c.in_ok-cause.ensures.checked d at).stays.kept_is, c.requires.can d at))

pub returns-in-Some-clause-prepared : goal.returns-in-Some-clause-prepared
returns-in-Some-clause-prepared g c d at =
    let a = c.in_ok-cause.ensures.checked d at in (
      ByCause c.in-Some.cause (subst (Checks c.args.plan (g.S.Store.state c.args.store.now).opening c.args.first c.args.entry.now.epoch d c.args.knows.now.stamps.reads c.args.writes.now) c.in-Some.is a.holds) refl,
      a.stays,
    )

pub returns-in-None-clause-prepared : goal.returns-in-None-clause-prepared
returns-in-None-clause-prepared g c d at =
    let a = c.in_ok-cause.ensures.checked d at in
    let allowed : IsAllowed c.args.plan (g.S.Store.state c.args.store.now).opening c.args.first c.args.entry.now.epoch d c.args.knows.now.stamps.reads c.args.writes.now =
    subst (Checks c.args.plan (g.S.Store.state c.args.store.now).opening c.args.first c.args.entry.now.epoch d c.args.knows.now.stamps.reads c.args.writes.now) c.in-None.is a.holds in
    prepares-moved c.args.plan (g.S.Store.state c.args.store.now).opening c.args.first c.args.knows.now.stamps.reads c.args.entry.now c.args.writes.now d (g.S.Store.state c.store_writes.new.store) (g.S.Store.durable c.store_writes.new.store) (g.S.Store.may c.store_writes.new.store)
    (g.S.Store.state c.refusal.new.store).opening (g.S.Store.state c.args.store.now) (g.S.Store.state c.refusal.new.store) _ c.in_ok-cause.ensures.runs.opening a.stays.free
    (c.store_writes.ensures.stored d a.stays.kept_is c.args.first c.args.knows.now.stamps.reads
    (subst (λ o. IsAllowed c.args.plan o c.args.first c.args.entry.now.epoch d c.args.knows.now.stamps.reads c.args.writes.now) (sym c.in_ok-cause.ensures.runs.opening) allowed))

pub returns-in-None-clause-keeps : goal.returns-in-None-clause-keeps
returns-in-None-clause-keeps g c = record {
  runs = runs_on halt_stop _ _ _ _ _ _ _ (still_runs halt_stop _ _ _ _ _ refl c.in_ok-cause.ensures.runs) c.store_writes.ensures.runs;
  beside = record { hlc = refl; stamps = refl; member = refl };
  leads = λ runs.
      for_some_on (g.S.Store.durable c.args.store.now) _ (LeadsWell c.args.plan (memory_of c.args.knows.now) c.store_writes.new.entries.items) (c.store_writes.ensures.runs.told ∙ c.in_ok-cause.ensures.runs.told) (λ d at.
      let a = c.in_ok-cause.ensures.checked d at in
      let allowed : IsAllowed c.args.plan (g.S.Store.state c.args.store.now).opening c.args.first c.args.entry.now.epoch d c.args.knows.now.stamps.reads c.args.writes.now =
      subst (Checks c.args.plan (g.S.Store.state c.args.store.now).opening c.args.first c.args.entry.now.epoch d c.args.knows.now.stamps.reads c.args.writes.now) c.in-None.is a.holds in
      prepares-leads c.args.plan (g.S.Store.state c.refusal.new.store).opening c.args.first c.args.knows.now.stamps.reads c.args.entry.now c.args.writes.now d (g.S.Store.state c.store_writes.new.store) (g.S.Store.durable c.store_writes.new.store) (g.S.Store.may c.store_writes.new.store)
      (g.S.Store.state c.refusal.new.store) (memory_of c.args.knows.now) c.args.knows.now.entries.items c.store_writes.new.entries.items c.store_writes.result c.store_writes.ensures.entries c.store_writes.ensures.kept runs
      (c.store_writes.ensures.stored d a.stays.kept_is c.args.first c.args.knows.now.stamps.reads
      (subst (λ o. IsAllowed c.args.plan o c.args.first c.args.entry.now.epoch d c.args.knows.now.stamps.reads c.args.writes.now) (sym c.in_ok-cause.ensures.runs.opening) allowed))
      (c.requires.can d at).absent c.requires.heard (c.requires.leads d at));
}
