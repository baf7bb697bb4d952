use Rattle.std.specs.Prelude.{◌≡◌, false, Ok, Err, [], IsTrue, refl, unwrap_or}
use Rattle.std.proofs.Common.{◌∙◌, ap, rules, sym, subst}
use Rattle.daos_model.specs.Changes.{frozen}
use Rattle.pmem_undo.specs.Layout.{gate}
use Rattle.vos_pool_base.specs.Pool.{IsOpened, OpenedState}
use Rattle.vos_pool_base.proofs.Freezing.{changes_where, kept_with_of, made_at_err, made_at_ok}
use Rattle.vos_store.specs.declared.refusal.FreezeNo.TheVariants as freeze
use Rattle.vos_store.specs.Answers.{freezes}
use Rattle.vos_store.specs.Refusals.{freeze_stop}
use Rattle.vos_store.specs.Conditions.{CanFreeze}
use Rattle.vos_tables.specs.Changes.{all_changed}
use Rattle.vos_tables.specs.Kept.{MakesWhere, OfKept}
use Rattle.vos_pool_base.proofs.opened.Opened.freeze.Goals as goal

pub returns-in_err-plan-clause-answer : goal.returns-in_err-plan-clause-answer
returns-in_err-plan-clause-answer g c d is free =
    let old = c.args.self.now in
    let inv = subst (λ (p : OpenedState _). IsOpened (g.R.Region.extent p.blocks.undo.region) g.R.Region.tells (g.R.Region.image p.blocks.undo.region) p.blocks.undo.staged p.blocks.undo.stopped p.blocks.map p.blocks.lasting p.table) c.self.view_is c.self.invariant in
    let inside : c.self.inside.blocks.undo.stopped ≡ false = sym c.is_stopped.ensures ∙ c.if-is_stopped.false in
    let going : old.blocks.undo.stopped ≡ false = sym (ap (λ (p : OpenedState _). p.blocks.undo.stopped) c.self.view_is) ∙ inside in
    let closed : IsTrue g.R.Region.tells → g.R.Region.image old.blocks.undo.region gate ≡ 0 = λ t. subst (λ (p : OpenedState _). g.R.Region.image p.blocks.undo.region gate ≡ 0) c.self.view_is (c.size-size.ensures.undo_holds.rest t inside).closed in
    let k = kept_with_of g.R.Region.tells (g.R.Region.extent old.blocks.undo.region) (g.R.Region.image old.blocks.undo.region) old.table d (λ t. inv.stands t going) closed is in
    let answer = subst (λ (p : OpenedState _). OfKept p.table (λ e. CanFreeze c.args.cont c.args.s e → Err c.in_err-plan.field-0.0 ≡ freezes c.args.cont c.args.s e)) c.self.view_is c.in_err-plan.ensures.answer in
    let same : c.from_residual.result ≡ Err c.in_err-plan.field-0.0 = search rules in
    same ∙ subst (λ e. CanFreeze c.args.cont c.args.s e → Err c.in_err-plan.field-0.0 ≡ freezes c.args.cont c.args.s e) (sym k.is) (answer k.versions k.entries) (c.requires going d is)

pub returns-in-Ok-clause-answer : goal.returns-in-Ok-clause-answer
returns-in-Ok-clause-answer g c d is free =
    let old = c.args.self.now in
    let inv = subst (λ (p : OpenedState _). IsOpened (g.R.Region.extent p.blocks.undo.region) g.R.Region.tells (g.R.Region.image p.blocks.undo.region) p.blocks.undo.staged p.blocks.undo.stopped p.blocks.map p.blocks.lasting p.table) c.self.view_is c.self.invariant in
    let inside : c.self.inside.blocks.undo.stopped ≡ false = sym c.is_stopped.ensures ∙ c.if-is_stopped.false in
    let going : old.blocks.undo.stopped ≡ false = sym (ap (λ (p : OpenedState _). p.blocks.undo.stopped) c.self.view_is) ∙ inside in
    let closed : IsTrue g.R.Region.tells → g.R.Region.image old.blocks.undo.region gate ≡ 0 = λ t. subst (λ (p : OpenedState _). g.R.Region.image p.blocks.undo.region gate ≡ 0) c.self.view_is (c.size-size.ensures.undo_holds.rest t inside).closed in
    let k = kept_with_of g.R.Region.tells (g.R.Region.extent old.blocks.undo.region) (g.R.Region.image old.blocks.undo.region) old.table d (λ t. inv.stands t going) closed is in
    let answer = subst (λ (p : OpenedState _). OfKept p.table (λ e. CanFreeze c.args.cont c.args.s e → Ok tt ≡ freezes c.args.cont c.args.s e)) c.self.view_is c.in_ok-plan.ensures.answer in
    subst (λ e. CanFreeze c.args.cont c.args.s e → Ok tt ≡ freezes c.args.cont c.args.s e) (sym k.is) (answer k.versions k.entries) (c.requires going d is)

pub returns-in-Ok-clause-kept : goal.returns-in-Ok-clause-kept
returns-in-Ok-clause-kept g c =
    made_at_ok freeze_stop _ (frozen c.args.cont c.args.s) c.write_planned.result c.in-Ok.field-0 _ _ _ _
    (c.write_planned.ensures.makes (frozen c.args.cont c.args.s) (λ going.
    changes_where (CanFreeze c.args.cont c.args.s) (frozen c.args.cont c.args.s) _ c.args.self.now.table (all_changed (unwrap_or c.in_ok-plan.plan []) c.args.self.now.table) (c.requires going)
    (subst (λ (p : OpenedState _). MakesWhere (CanFreeze c.args.cont c.args.s) (frozen c.args.cont c.args.s) p.table (all_changed (unwrap_or c.in_ok-plan.plan []) p.table)) c.self.view_is c.in_ok-plan.ensures.frozen)))
    c.in-Ok.is

pub returns-in-Err-clause-kept : goal.returns-in-Err-clause-kept
returns-in-Err-clause-kept g c =
    made_at_err freeze_stop freeze.Stopped refl _ (frozen c.args.cont c.args.s) c.write_planned.result _ _ _ _
    (c.write_planned.ensures.makes (frozen c.args.cont c.args.s) (λ going.
    changes_where (CanFreeze c.args.cont c.args.s) (frozen c.args.cont c.args.s) _ c.args.self.now.table (all_changed (unwrap_or c.in_ok-plan.plan []) c.args.self.now.table) (c.requires going)
    (subst (λ (p : OpenedState _). MakesWhere (CanFreeze c.args.cont c.args.s) (frozen c.args.cont c.args.s) p.table (all_changed (unwrap_or c.in_ok-plan.plan []) p.table)) c.self.view_is c.in_ok-plan.ensures.frozen)))
