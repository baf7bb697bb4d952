use Rattle.std.specs.Prelude.{◌≡◌, false, Ok, Err, IsTrue, refl}
use Rattle.std.proofs.Common.{◌∙◌, ap, rules, sym, subst}
use Rattle.daos_model.specs.Changes.{enlisted}
use Rattle.pmem_undo.specs.Layout.{gate}
use Rattle.vos_pool_base.specs.Pool.{IsOpened, OpenedState}
use Rattle.vos_pool_base.proofs.Freezing.{kept_with_of, made_at_err, made_at_ok}
use Rattle.vos_store.specs.declared.refusal.EnlistNo.TheVariants as enlist
use Rattle.vos_store.specs.Answers.{enlists}
use Rattle.vos_store.specs.Refusals.{enlist_open, enlist_stop, says}
use Rattle.vos_tables.specs.Changes.{all_changed}
use Rattle.vos_tables.specs.Kept.{Makes, OfKept, kept_with}
use Rattle.vos_pool_base.proofs.opened.Opened.enlist.Goals as goal

pub returns-in_err-changes-clause-answer : goal.returns-in_err-changes-clause-answer
returns-in_err-changes-clause-answer g c d is free =
    let old = c.args.self.now in
    let inv = subst (λ (p : OpenedState _). IsOpened (g.R.Region.extent p.blocks.undo.region) g.R.Region.tells (g.R.Region.image p.blocks.undo.region) p.blocks.undo.staged p.blocks.undo.stopped p.blocks.map p.blocks.lasting p.table) c.self.view_is c.self.invariant in
    let inside : c.self.inside.blocks.undo.stopped ≡ false = sym c.is_stopped.ensures ∙ c.if-is_stopped.false in
    let going : old.blocks.undo.stopped ≡ false = sym (ap (λ (p : OpenedState _). p.blocks.undo.stopped) c.self.view_is) ∙ inside in
    let closed : IsTrue g.R.Region.tells → g.R.Region.image old.blocks.undo.region gate ≡ 0 = λ t. subst (λ (p : OpenedState _). g.R.Region.image p.blocks.undo.region gate ≡ 0) c.self.view_is (c.size-size.ensures.undo_holds.rest t inside).closed in
    let k = kept_with_of g.R.Region.tells (g.R.Region.extent old.blocks.undo.region) (g.R.Region.image old.blocks.undo.region) old.table d (λ t. inv.stands t going) closed is in
    let same : c.from_residual.result ≡ Err c.in_err-changes.field-0.0 = search rules in
    let answer = subst (λ (p : OpenedState _). OfKept p.table (λ e. says {T = Unit {0}} enlist_open (Err c.in_err-changes.field-0.0) ≡ false → Err c.in_err-changes.field-0.0 ≡ enlists c.args.conts.now e)) c.self.view_is c.in_err-changes.ensures.answer in
    same ∙ subst (λ e. Err c.in_err-changes.field-0.0 ≡ enlists c.args.conts.now e) (sym k.is) (answer k.versions k.entries (subst (λ r. says {T = Unit {0}} enlist_open r ≡ false) same free))

pub returns-in-Ok-clause-answer : goal.returns-in-Ok-clause-answer
returns-in-Ok-clause-answer g c d is free =
    let old = c.args.self.now in
    let inv = subst (λ (p : OpenedState _). IsOpened (g.R.Region.extent p.blocks.undo.region) g.R.Region.tells (g.R.Region.image p.blocks.undo.region) p.blocks.undo.staged p.blocks.undo.stopped p.blocks.map p.blocks.lasting p.table) c.self.view_is c.self.invariant in
    let inside : c.self.inside.blocks.undo.stopped ≡ false = sym c.is_stopped.ensures ∙ c.if-is_stopped.false in
    let going : old.blocks.undo.stopped ≡ false = sym (ap (λ (p : OpenedState _). p.blocks.undo.stopped) c.self.view_is) ∙ inside in
    let closed : IsTrue g.R.Region.tells → g.R.Region.image old.blocks.undo.region gate ≡ 0 = λ t. subst (λ (p : OpenedState _). g.R.Region.image p.blocks.undo.region gate ≡ 0) c.self.view_is (c.size-size.ensures.undo_holds.rest t inside).closed in
    let k = kept_with_of g.R.Region.tells (g.R.Region.extent old.blocks.undo.region) (g.R.Region.image old.blocks.undo.region) old.table d (λ t. inv.stands t going) closed is in
    let answer = subst (λ (p : OpenedState _). OfKept p.table (λ e. Ok tt ≡ enlists c.args.conts.now e)) c.self.view_is (λ vs es. c.in_ok-changes.ensures.answer vs es refl) in
    subst (λ e. Ok tt ≡ enlists c.args.conts.now e) (sym k.is) (answer k.versions k.entries)

pub returns-in-Ok-clause-kept : goal.returns-in-Ok-clause-kept
returns-in-Ok-clause-kept g c =
    made_at_ok enlist_stop _ (enlisted c.args.conts.now) c.write.result c.in-Ok.field-0 _ _ _ _
    (c.write.ensures.makes (enlisted c.args.conts.now) (λ going vs es is.
    subst (λ cs. kept_with (all_changed cs c.args.self.now.table) vs es ≡ enlisted c.args.conts.now (kept_with c.args.self.now.table vs es)) (sym c.deref.ensures.value)
    (subst (λ (p : OpenedState _). Makes (enlisted c.args.conts.now) p.table (all_changed c.in_ok-changes.changes.items p.table)) c.self.view_is c.in_ok-changes.ensures.enlisted vs es)))
    c.in-Ok.is

pub returns-clause-kept : goal.returns-clause-kept
returns-clause-kept g c =
    made_at_err enlist_stop enlist.Stopped refl _ (enlisted c.args.conts.now) c.write.result _ _ _ _
    (c.write.ensures.makes (enlisted c.args.conts.now) (λ going vs es is.
    subst (λ cs. kept_with (all_changed cs c.args.self.now.table) vs es ≡ enlisted c.args.conts.now (kept_with c.args.self.now.table vs es)) (sym c.deref.ensures.value)
    (subst (λ (p : OpenedState _). Makes (enlisted c.args.conts.now) p.table (all_changed c.in_ok-changes.changes.items p.table)) c.self.view_is c.in_ok-changes.ensures.enlisted vs es)))
