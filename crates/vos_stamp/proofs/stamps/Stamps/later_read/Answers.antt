use Rattle.std.proofs.Common.{ap}
use Rattle.std.specs.Option.{option_copied}
use Rattle.base_types.specs.declared.path.Level.TheVariants.{Cont, Obj, Dkey}
use Rattle.vos_stamp.specs.Entities.{Stamped}
use Rattle.vos_stamp.proofs.Told.{last-answers, level-answers}
use Rattle.vos_stamp.proofs.stamps.Stamps.later_read.Goals as goal

pub returns-in-Some : goal.returns-in-Some
returns-in-Some c =
    let s = c.self.inside in
    level-answers c.args.path.now c.args.epoch.0 s.cont.raises s.obj.raises s.dkey.raises s.akey.raises c.self.invariant.reads c.args.self.now.reads (ap (λ (t : Stamped). t.reads) c.self.view_is) Cont s.cont.raises c.self.invariant.reads.conts c.in-Some.read.now c.in-Some.ensures

pub returns-in-Some-later_at : goal.returns-in-Some-later_at
returns-in-Some-later_at c =
    let s = c.self.inside in
    level-answers c.args.path.now c.args.epoch.0 s.cont.raises s.obj.raises s.dkey.raises s.akey.raises c.self.invariant.reads c.args.self.now.reads (ap (λ (t : Stamped). t.reads) c.self.view_is) Obj s.obj.raises c.self.invariant.reads.objs c.in-Some-later_at.read.now c.in-Some-later_at.ensures

pub returns-in-Some-later_at-2 : goal.returns-in-Some-later_at-2
returns-in-Some-later_at-2 c =
    let s = c.self.inside in
    level-answers c.args.path.now c.args.epoch.0 s.cont.raises s.obj.raises s.dkey.raises s.akey.raises c.self.invariant.reads c.args.self.now.reads (ap (λ (t : Stamped). t.reads) c.self.view_is) Dkey s.dkey.raises c.self.invariant.reads.dkeys c.in-Some-later_at-2.read.now c.in-Some-later_at-2.ensures

pub returns : goal.returns
returns c =
    let s = c.self.inside in
    last-answers c.args.path.now c.args.epoch.0 s.cont.raises s.obj.raises s.dkey.raises s.akey.raises c.self.invariant.reads c.args.self.now.reads (ap (λ (t : Stamped). t.reads) c.self.view_is) c.requires.form
    c.in_default.ensures c.in_default-later_at.ensures c.in_default-later_at-2.ensures (option_copied c.later_at-4.result) c.later_at-4.ensures
