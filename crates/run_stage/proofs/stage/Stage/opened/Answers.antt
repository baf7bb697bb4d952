use Rattle.std.specs.Prelude.{◌<◌, ◌≡◌, length, OnOk}
use Rattle.std.proofs.Common.{◌∙◌, ap, arith, subst, sym}
use Rattle.run_laws.specs.shows.ListLaws.{length-set}
use Rattle.run_laws.specs.shows.Turned.{followed, swept_stage, with_between}
use Rattle.run_stage.specs.Now.{stage_now}
use Rattle.run_stage.proofs.Opening.{armed-watch, on-err, opened-so}
use Rattle.run_stage.proofs.Stopping.{watched}
use Rattle.world_base.specs.declared.target.Life.TheVariants.{Running}
use Rattle.run_stage.proofs.stage.Stage.opened.Goals as goal

pub open-requires-clause-within : goal.open-requires-clause-within
open-requires-clause-within g c =
    subst (λ w. c.args.t < length w.lives) (sym (armed-watch g.S.Store.durable g.S.Store.state g.S.Store.may c.args.t (stage_now c.args.self.now) (stage_now c.arm.new.self) c.requires.there c.arm.ensures.armed)) c.requires.within

pub open-requires-clause-tried : goal.open-requires-clause-tried
open-requires-clause-tried g c =
    subst (λ w. w.restarts < w.openings) (sym (armed-watch g.S.Store.durable g.S.Store.state g.S.Store.may c.args.t (stage_now c.args.self.now) (stage_now c.arm.new.self) c.requires.there c.arm.ensures.armed)) c.requires.tried

pub follow-requires : goal.follow-requires
follow-requires g c = record {
  few =
      let armed = ap (λ w. length w.lives) (armed-watch g.S.Store.durable g.S.Store.state g.S.Store.may c.args.t (stage_now c.args.self.now) (stage_now c.arm.new.self) c.requires.there c.arm.ensures.armed) in
      let opened = ap (λ w. length w.lives) c.open.ensures in
      let same = length-set c.arm.new.self.watch.lives c.args.t Running in
      omega (arith, armed, opened, same);
}

-- its next fuse was set, it runs, and what followed came about
pub returns-clause-opened : goal.returns-clause-opened
returns-clause-opened g c x at =
    let mid = stage_now c.arm.new.self in
    let now = stage_now c.follow.new.self in
    opened-so g.S.Store.durable g.S.Store.state g.S.Store.may c.args.t x c.follow.result c.args.did (stage_now c.args.self.now) mid now c.open.new.self (c.arm.ensures.armed x at) c.open.ensures
    (subst (λ a. OnOk c.follow.result (now ≡ swept_stage (with_between (followed a c.args.did mid.between) (watched mid c.open.new.self)))) c.target_id.ensures c.follow.ensures.followed)

-- where memory is wanting for what follows its fuse is set all the same
pub returns-clause-broke : goal.returns-clause-broke
returns-clause-broke g c x at =
    let k = c.arm.ensures.armed x at in
    on-err _ c.follow.result (k.armed, k.fuse, ap (λ ts. ts.items) c.follow.ensures.targets ∙ ap (λ z. z.targets) k.after)
