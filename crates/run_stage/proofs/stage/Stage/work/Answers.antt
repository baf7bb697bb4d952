use Rattle.std.proofs.Common.{◌∙◌, ap, slice_set, subst, sym}
use Rattle.model_laws.specs.Lists.{at-index}
use Rattle.run_laws.specs.shows.Accounts.{AreServed}
use Rattle.run_laws.specs.shows.Serving.{served-by-runs, served-first, served-one}
use Rattle.run_laws.specs.shows.Steps.{NotBegun}
use Rattle.run_stage.specs.Now.{stage_now}
use Rattle.run_stage.proofs.Opening.{on-err, same-there}
use Rattle.run_stage.proofs.Working.{work-broke, worked-cut, worked-whole}
use Rattle.run_laws.specs.target_parts.Stops.{stop_store}
use Rattle.world_base.specs.StepLaws.{set-here, set-same}
use Rattle.run_stage.proofs.stage.Stage.work.Goals as goal

pub hear_or_idle-requires-clause-opened : goal.hear_or_idle-requires-clause-opened
hear_or_idle-requires-clause-opened g c =
    let x = c.index_mut.result.now in
    (c.requires.able x (at-index c.args.self.now.targets.items c.args.t x c.requires.within c.index_mut.ensures.value)).opened c.requires.runs

pub hear_or_idle-requires-clause-running : goal.hear_or_idle-requires-clause-running
hear_or_idle-requires-clause-running g c =
    let x = c.index_mut.result.now in
    (c.requires.able x (at-index c.args.self.now.targets.items c.args.t x c.requires.within c.index_mut.ensures.value)).running c.requires.runs

pub hear_or_idle-requires-clause-letters : goal.hear_or_idle-requires-clause-letters
hear_or_idle-requires-clause-letters g c =
    let x = c.index_mut.result.now in
    (c.requires.able x (at-index c.args.self.now.targets.items c.args.t x c.requires.within c.index_mut.ensures.value)).hears c.requires.runs

-- the turn was whole
pub returns-in-Ok-clause-worked : goal.returns-in-Ok-clause-worked
returns-in-Ok-clause-worked g c =
    let now = c.args.self.now in
    let x = c.index_mut.result.now in
    let e = c.in_ok-said.ensures in
    worked-whole g.S.Store.durable g.S.Store.state g.S.Store.may g.C.Clock.is_read g.C.Clock.next c.args.settling c.args.t c.args.number x c.hear_or_idle.new.host c.hear_or_idle.new.between c.in_ok-said.said (stage_now now) (stage_now c.follow.new.self)
    (record { there = at-index now.targets.items c.args.t x c.requires.within c.index_mut.ensures.value; stands = c.requires.runs }) e.plan e.opened e.runs e.told e.clock e.posts e.once e.ends e.turned
    c.follow.result c.in-Ok.did c.target_id.result c.in-Ok.is c.target_id.ensures c.follow.ensures.followed

pub returns-in-Ok-clause-served : goal.returns-in-Ok-clause-served
returns-in-Ok-clause-served g c =
    let xs = c.args.self.now.targets.items in
    let x = c.index_mut.result.now in
    let y = c.hear_or_idle.new.host in
    subst (AreServed g.S.Store.durable g.S.Store.state g.C.Clock.is_read xs) (sym (ap (λ ts. ts.items) c.follow.ensures.targets))
    (served-one g.S.Store.durable g.S.Store.state g.C.Clock.is_read xs c.args.t x y (at-index xs c.args.t x c.requires.within c.index_mut.ensures.value)
    (served-by-runs stop_store c.in_ok-said.said (g.S.Store.state x.store) (g.S.Store.state y.store) (g.S.Store.durable x.store) (g.S.Store.durable y.store) c.in_ok-said.ensures.runs) c.in_ok-said.ensures.clock)

pub returns-in-Ok-clause-broke : goal.returns-in-Ok-clause-broke
returns-in-Ok-clause-broke g c =
    let now = c.args.self.now in
    let x = c.index_mut.result.now in
    let e = c.in_ok-said.ensures in
    work-broke g.S.Store.durable g.S.Store.state g.S.Store.may g.C.Clock.is_read g.C.Clock.next c.args.settling c.args.t c.args.number x c.hear_or_idle.new.host c.hear_or_idle.new.between c.in_ok-said.said (stage_now now) (stage_now c.follow.new.self)
    (record { there = at-index now.targets.items c.args.t x c.requires.within c.index_mut.ensures.value; stands = c.requires.runs }) e.plan e.opened e.runs e.told e.clock e.posts e.once e.ends e.turned
    c.follow.result (ap (λ ts. ts.items) c.follow.ensures.targets)

-- it was cut
pub returns-in-Err-clause-worked : goal.returns-in-Err-clause-worked
returns-in-Err-clause-worked g c =
    let now = c.args.self.now in
    let xs = now.targets.items in
    let x = c.index_mut.result.now in
    let y = c.hear_or_idle.new.host in
    let e = c.in_ok-said.ensures in
    let there = at-index xs c.args.t x c.requires.within c.index_mut.ensures.value in
    let same = same-there xs c.args.t c.index.result.now x (at-index xs c.args.t c.index.result.now c.requires.within c.index.ensures) there in
    worked-cut g.S.Store.durable g.S.Store.state g.S.Store.may g.C.Clock.is_read g.C.Clock.next c.args.settling c.args.t c.args.number x y c.hear_or_idle.new.between c.in_ok-said.said (stage_now now) (stage_now c.cut.new.self)
    (record { there = there; stands = c.requires.runs }) e.plan e.opened e.runs e.told e.clock e.posts e.once e.ends e.turned
    c.cut.result c.in-Err.stop c.faults-before.result c.in-Err.is (c.faults-before.ensures ∙ ap (λ z. (g.S.Store.state z.store).faults) same) (c.cut.ensures.after y (set-here xs c.args.t x y there))

pub returns-in-Err-clause-broke : goal.returns-in-Err-clause-broke
returns-in-Err-clause-broke g c =
    let now = c.args.self.now in
    let x = c.index_mut.result.now in
    let e = c.in_ok-said.ensures in
    work-broke g.S.Store.durable g.S.Store.state g.S.Store.may g.C.Clock.is_read g.C.Clock.next c.args.settling c.args.t c.args.number x c.hear_or_idle.new.host c.hear_or_idle.new.between c.in_ok-said.said (stage_now now) (stage_now c.cut.new.self)
    (record { there = at-index now.targets.items c.args.t x c.requires.within c.index_mut.ensures.value; stands = c.requires.runs }) e.plan e.opened e.runs e.told e.clock e.posts e.once e.ends e.turned
    c.cut.result (ap (λ ts. ts.items) c.cut.ensures.targets)

pub returns-in-Err-clause-served : goal.returns-in-Err-clause-served
returns-in-Err-clause-served g c =
    let xs = c.args.self.now.targets.items in
    let x = c.index_mut.result.now in
    let y = c.hear_or_idle.new.host in
    subst (AreServed g.S.Store.durable g.S.Store.state g.C.Clock.is_read xs) (sym (ap (λ ts. ts.items) c.cut.ensures.targets))
    (served-one g.S.Store.durable g.S.Store.state g.C.Clock.is_read xs c.args.t x y (at-index xs c.args.t x c.requires.within c.index_mut.ensures.value)
    (served-by-runs stop_store c.in_ok-said.said (g.S.Store.state x.store) (g.S.Store.state y.store) (g.S.Store.durable x.store) (g.S.Store.durable y.store) c.in_ok-said.ensures.runs) c.in_ok-said.ensures.clock)

-- it wasn't begun
pub returns-in_err-said-clause-broke : goal.returns-in_err-said-clause-broke
returns-in_err-said-clause-broke g c =
    let xs = c.args.self.now.targets.items in
    let x = c.index_mut.result.now in
    on-err _ c.from_residual.result (NotBegun (ap (slice_set xs c.args.t) (c.in_err-said.ensures.unbegun) ∙ set-same xs c.args.t x (at-index xs c.args.t x c.requires.within c.index_mut.ensures.value)))

pub returns-in_err-said-clause-served : goal.returns-in_err-said-clause-served
returns-in_err-said-clause-served g c =
    let xs = c.args.self.now.targets.items in
    let x = c.index_mut.result.now in
    subst (AreServed g.S.Store.durable g.S.Store.state g.C.Clock.is_read xs)
    (sym (ap (slice_set xs c.args.t) (c.in_err-said.ensures.unbegun) ∙ set-same xs c.args.t x (at-index xs c.args.t x c.requires.within c.index_mut.ensures.value)))
    (served-first g.S.Store.durable g.S.Store.state g.C.Clock.is_read xs)
