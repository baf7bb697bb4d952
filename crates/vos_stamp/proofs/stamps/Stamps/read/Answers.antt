use Rattle.std.proofs.Common.{◌≡◌, [], ◌∷◌, ◌++◌, ap, ◌∙◌}
use Rattle.base_types.specs.declared.path.Level.TheVariants.{Cont, Obj, Dkey, Akey}
use Rattle.base_types.specs.declared.shown.Shown.{Shown}
use Rattle.vos_stamp.specs.Entities.{Stamped, reads_of}
use Rattle.vos_stamp.proofs.Told.{have-raised, reads-more, was-raised}
use Rattle.vos_stamp.proofs.stamps.Stamps.read.Goals as goal

pub invariant_of-self : goal.invariant_of-self
invariant_of-self c =
    let old = c.self.inside in
    let stamp = c.in_ok-stamp.stamp in
    let read : Shown = record { by = c.args.by; epoch = c.args.epoch; path = c.args.path.now } in
    let same : stamp ≡ read = c.in_ok-stamp.ensures ∙ ap (λ p. record { by = c.args.by; epoch = c.args.epoch; path = p }) c.in_ok-copy.ensures in
    record {
      reads =
          have-raised old.cont.raises old.obj.raises old.dkey.raises old.akey.raises c.raise_some.new.self.raises c.raise_some-2.new.self.raises c.raise_some-3.new.self.raises c.raise_some-4.new.self.raises read c.self.invariant.reads c.requires.form
          (was-raised Cont old.cont.raises c.raise_some.new.self.raises c.in_ok-cont.cont stamp read c.raise_some.ensures.raises c.in_ok-cont.ensures same)
          (was-raised Obj old.obj.raises c.raise_some-2.new.self.raises c.in_ok-obj.obj stamp read c.raise_some-2.ensures.raises c.in_ok-obj.ensures same)
          (was-raised Dkey old.dkey.raises c.raise_some-3.new.self.raises c.in_ok-dkey.dkey stamp read c.raise_some-3.ensures.raises c.in_ok-dkey.ensures same)
          (was-raised Akey old.akey.raises c.raise_some-4.new.self.raises c.in_ok-akey.akey stamp read c.raise_some-4.ensures.raises c.in_ok-akey.ensures same);
      few_conts = c.raise_some.ensures.bounded c.self.invariant.few_conts;
      few_objs = c.raise_some-2.ensures.bounded c.self.invariant.few_objs;
      few_dkeys = c.raise_some-3.ensures.bounded c.self.invariant.few_dkeys;
      few_akeys = c.raise_some-4.ensures.bounded c.self.invariant.few_akeys;
    }

pub returns-clause-raised : goal.returns-clause-raised
returns-clause-raised c =
    let old = c.self.inside in
    let stamp = c.in_ok-stamp.stamp in
    let read : Shown = record { by = c.args.by; epoch = c.args.epoch; path = c.args.path.now } in
    let same : stamp ≡ read = c.in_ok-stamp.ensures ∙ ap (λ p. record { by = c.args.by; epoch = c.args.epoch; path = p }) c.in_ok-copy.ensures in
    let new = was-raised Cont old.cont.raises c.raise_some.new.self.raises c.in_ok-cont.cont stamp read c.raise_some.ensures.raises c.in_ok-cont.ensures same in
    ap reads_of new ∙ reads-more old.cont.raises read ∙ ap (λ (t : Stamped). t.reads ++ read ∷ []) c.self.view_is
