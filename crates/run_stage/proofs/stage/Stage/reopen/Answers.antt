use Rattle.std.proofs.Common.{◌∙◌, ap, refl, subst, sym}
use Rattle.std.proofs.Math.ListN.{set}
use Rattle.model_laws.specs.Lists.{at-index}
use Rattle.run_laws.specs.shows.Accounts.{AreServed}
use Rattle.run_laws.specs.shows.Serving.{served-by-opening, served-first, served-one, served-then}
use Rattle.run_stage.specs.Now.{stage_now}
use Rattle.run_laws.specs.shows.Steps.{NotBegun}
use Rattle.run_stage.proofs.Opening.{on-err, opened-broke, opening-broke, reopened-not, reopened-whole, same-there}
use Rattle.run_laws.specs.target_parts.Readings.{IsReadOn, not-read_on}
use Rattle.world_base.specs.StepLaws.{set-here}
use Rattle.run_stage.proofs.stage.Stage.reopen.Goals as goal

pub returns-in_err-try_opening-clause-served : goal.returns-in_err-try_opening-clause-served
returns-in_err-try_opening-clause-served g c = served-first g.S.Store.durable g.S.Store.state g.C.Clock.is_read c.args.self.now.targets.items

pub returns-in_err-try_opening-clause-broke : goal.returns-in_err-try_opening-clause-broke
returns-in_err-try_opening-clause-broke g c settling k = on-err _ c.from_residual.result (NotBegun refl)

pub restart-requires-clause-counted : goal.restart-requires-clause-counted
restart-requires-clause-counted g c =
    let x = c.index_mut.result.now in
    (c.requires.able x (at-index c.args.self.now.targets.items c.args.t x c.requires.within c.index_mut.ensures.value)).counted c.requires.stopped

pub restart-requires-clause-covered : goal.restart-requires-clause-covered
restart-requires-clause-covered g c =
    let x = c.index_mut.result.now in
    (c.requires.able x (at-index c.args.self.now.targets.items c.args.t x c.requires.within c.index_mut.ensures.value)).covered c.requires.stopped

-- it opened again
pub returns-in-Ok-clause-reopened : goal.returns-in-Ok-clause-reopened
returns-in-Ok-clause-reopened g c =
    let now = c.args.self.now in
    let xs = now.targets.items in
    let x = c.index_mut.result.now in
    let y = c.restart.new.self in
    let e = c.restart.ensures in
    let there = at-index xs c.args.t x c.requires.within c.index_mut.ensures.value in
    reopened-whole g.S.Store.durable g.S.Store.state g.S.Store.may c.args.t c.next_restart-number.result x y c.restart.result c.try_opening.new.self (stage_now now) (stage_now c.opened.new.self)
    (record { there = there; stands = c.requires.stopped }) c.in_ok-try_opening.ensures.tried c.in_ok-try_opening.ensures.few c.next_restart-number.ensures e.plan e.clock e.opens e.turn e.left e.bare e.native e.posts e.line e.reads e.ends e.fresh e.opened
    c.opened.result c.in-Ok.did c.in-Ok.is (c.opened.ensures.opened y (set-here xs c.args.t x y there))

pub returns-in-Ok-clause-broke : goal.returns-in-Ok-clause-broke
returns-in-Ok-clause-broke g c settling k =
    let now = c.args.self.now in
    let xs = now.targets.items in
    let x = c.index_mut.result.now in
    let y = c.restart.new.self in
    let e = c.restart.ensures in
    let there = at-index xs c.args.t x c.requires.within c.index_mut.ensures.value in
    opened-broke g.S.Store.durable g.S.Store.state g.S.Store.may c.args.t c.next_restart-number.result x y c.restart.result c.try_opening.new.self (stage_now now) (stage_now c.opened.new.self)
    (record { there = there; stands = c.requires.stopped }) c.in_ok-try_opening.ensures.tried c.in_ok-try_opening.ensures.few c.next_restart-number.ensures e.plan e.clock e.opens e.turn e.left e.bare e.native e.posts e.line e.reads e.ends e.fresh e.opened
    g.C.Clock.is_read g.C.Clock.next settling k c.opened.result c.in-Ok.did c.in-Ok.is
    (c.opened.ensures.broke y (set-here xs c.args.t x y there))

pub returns-in-Ok-clause-served : goal.returns-in-Ok-clause-served
returns-in-Ok-clause-served g c =
    let xs = c.args.self.now.targets.items in
    let x = c.index_mut.result.now in
    let y = c.restart.new.self in
    served-then g.S.Store.durable g.S.Store.state g.C.Clock.is_read xs (set xs c.args.t y) c.opened.new.self.targets.items
    (served-one g.S.Store.durable g.S.Store.state g.C.Clock.is_read xs c.args.t x y (at-index xs c.args.t x c.requires.within c.index_mut.ensures.value)
    (served-by-opening c.restart.result (g.S.Store.state x.store) (g.S.Store.state y.store) (g.S.Store.durable x.store) (g.S.Store.durable y.store) c.restart.ensures.opens)
    (subst (IsReadOn g.C.Clock.is_read x.clock) (sym c.restart.ensures.clock) (not-read_on g.C.Clock.is_read x.clock)))
    c.opened.ensures.served

-- it didn't open
pub returns-in-Err-clause-reopened : goal.returns-in-Err-clause-reopened
returns-in-Err-clause-reopened g c =
    let now = c.args.self.now in
    let xs = now.targets.items in
    let x = c.index_mut.result.now in
    let y = c.restart.new.self in
    let e = c.restart.ensures in
    let there = at-index xs c.args.t x c.requires.within c.index_mut.ensures.value in
    let same = same-there xs c.args.t c.index.result.now x (at-index xs c.args.t c.index.result.now c.requires.within c.index.ensures) there in
    reopened-not g.S.Store.durable g.S.Store.state g.S.Store.may c.args.t c.next_restart-number.result x y c.restart.result c.try_opening.new.self (stage_now now) (stage_now c.not_opened.new.self)
    (record { there = there; stands = c.requires.stopped }) c.in_ok-try_opening.ensures.tried c.in_ok-try_opening.ensures.few c.next_restart-number.ensures e.plan e.clock e.opens e.turn e.left e.bare e.native e.posts e.line e.reads e.ends e.fresh e.opened
    c.not_opened.result c.in-Err.stop c.faults-before.result c.in-Err.is (c.faults-before.ensures ∙ ap (λ z. (g.S.Store.state z.store).faults) same) (c.not_opened.ensures.after y (set-here xs c.args.t x y there))

pub returns-in-Err-clause-broke : goal.returns-in-Err-clause-broke
returns-in-Err-clause-broke g c settling k =
    let now = c.args.self.now in
    let xs = now.targets.items in
    let x = c.index_mut.result.now in
    let y = c.restart.new.self in
    let e = c.restart.ensures in
    let there = at-index xs c.args.t x c.requires.within c.index_mut.ensures.value in
    opening-broke g.S.Store.durable g.S.Store.state g.S.Store.may c.args.t c.next_restart-number.result x y c.restart.result c.try_opening.new.self (stage_now now) (stage_now c.not_opened.new.self)
    (record { there = there; stands = c.requires.stopped }) c.in_ok-try_opening.ensures.tried c.in_ok-try_opening.ensures.few c.next_restart-number.ensures e.plan e.clock e.opens e.turn e.left e.bare e.native e.posts e.line e.reads e.ends e.fresh e.opened
    g.C.Clock.is_read g.C.Clock.next settling k c.not_opened.result c.in-Err.stop c.in-Err.is (ap (λ ts. ts.items) c.not_opened.ensures.targets)

pub returns-in-Err-clause-served : goal.returns-in-Err-clause-served
returns-in-Err-clause-served g c =
    let xs = c.args.self.now.targets.items in
    let x = c.index_mut.result.now in
    let y = c.restart.new.self in
    subst (AreServed g.S.Store.durable g.S.Store.state g.C.Clock.is_read xs) (sym (ap (λ ts. ts.items) c.not_opened.ensures.targets))
    (served-one g.S.Store.durable g.S.Store.state g.C.Clock.is_read xs c.args.t x y (at-index xs c.args.t x c.requires.within c.index_mut.ensures.value)
    (served-by-opening c.restart.result (g.S.Store.state x.store) (g.S.Store.state y.store) (g.S.Store.durable x.store) (g.S.Store.durable y.store) c.restart.ensures.opens)
    (subst (IsReadOn g.C.Clock.is_read x.clock) (sym c.restart.ensures.clock) (not-read_on g.C.Clock.is_read x.clock)))
