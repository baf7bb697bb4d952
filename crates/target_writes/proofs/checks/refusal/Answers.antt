use Rattle.std.proofs.Common.{◌≡◌, ◌∙◌, ap, refl, subst, sym, true}
use Rattle.base_types.specs.Operations.{write_path}
use Rattle.model_laws.specs.Lists.{item-holds}
use Rattle.daos_model.specs.FormLaws.{path-in_form}
use Rattle.daos_model.specs.Forms.{is_path_in_form, is_write_in_form}
use Rattle.target_parts.specs.Halts.{halt_stop}
use Rattle.target_parts.specs.Running.{runs_first, runs_on, still_runs}
use Rattle.target_writes.specs.Checks.{ChecksOne}
use Rattle.target_writes.proofs.Checking.{checks-all, checks-next, checks-none}
use Rattle.target_writes.proofs.checks.refusal.Goals as goal

pub check-requires-clause-form : goal.check-requires-clause-form
check-requires-clause-form g c =
    let form = item-holds (λ w. is_write_in_form w.write ≡ true) c.args.writes.now c.loop-write.write-index c.write-item.result c.requires.form c.loop-write-test.true c.write-item.is in
    subst (λ p. is_path_in_form p ≡ true) (sym c.path.ensures) (path-in_form c.write-item.result.write form)

pub loop-write-init : goal.loop-write-init
loop-write-init g c = record {
  runs = runs_first _ _ c.requires.running;
  stays = λ d at. record { kept_is = at; free = refl };
  checked = λ d at. checks-none c.args.plan _ c.args.first c.args.epoch d c.args.stamps.now.reads;
}

pub loop-write-preserved : goal.loop-write-preserved
loop-write-preserved g c = record {
  runs = still_runs halt_stop _ _ _ _ _ refl (runs_on halt_stop _ _ _ _ _ _ _ c.loop-write.invariant.runs c.in_ok-cause.ensures.runs);
  stays = λ d at.
      let before = c.loop-write.invariant.stays d at in
      let a = c.in_ok-cause.ensures.checked d before.kept_is in
      record { kept_is = a.stays.kept_is; free = a.stays.free ∙ before.free };
  checked = λ d at.
      let before = c.loop-write.invariant.stays d at in
      let a = c.in_ok-cause.ensures.checked d before.kept_is in
      checks-next c.args.plan _ c.args.first c.args.epoch d c.args.stamps.now.reads c.args.writes.now c.loop-write.write-index c.write-item.result c.loop-write.refused c.in_ok-cause.cause _
      (c.loop-write.invariant.checked d at) c.loop-write-test.true c.write-item.is
      (subst (λ o. ChecksOne c.args.plan o c.args.first c.args.epoch d c.args.stamps.now.reads (write_path c.write-item.result.write) c.in_ok-cause.cause) c.loop-write.invariant.runs.opening
      (subst (λ p. ChecksOne c.args.plan (g.S.Store.state c.loop-write.store).opening c.args.first c.args.epoch d c.args.stamps.now.reads p c.in_ok-cause.cause) c.path.ensures a.holds))
      c.first_cause-refused.ensures;
}

pub returns-clause-checked : goal.returns-clause-checked
returns-clause-checked g c d at = record {
  stays = c.loop-write.invariant.stays d at;
  holds = checks-all c.args.plan _ c.args.first c.args.epoch d c.args.stamps.now.reads c.args.writes.now c.loop-write.write-index c.loop-write.refused c.loop-write-test.false (c.loop-write.invariant.checked d at);
}
