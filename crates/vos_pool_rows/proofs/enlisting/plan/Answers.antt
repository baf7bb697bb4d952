use Rattle.std.specs.Prelude.{◌≡◌, false, IsTrue}
use Rattle.std.proofs.Common.{◌∙◌, ap, sym, subst}
use Rattle.pmem_undo.specs.Layout.{gate}
use Rattle.vos_pool_base.specs.Pool.{IsOpened, OpenedState}
use Rattle.vos_pool_base.specs.vos_tables.Kept.{OfKept, answer_of}
use Rattle.vos_pool_base.proofs.Freezing.{kept_with_of}
use Rattle.vos_store.specs.Answers.{enlists}
use Rattle.vos_store.specs.Refusals.{enlist_open, says}
use Rattle.vos_pool_rows.proofs.enlisting.plan.Goals as goal

pub returns-clause-answer : goal.returns-clause-answer
returns-clause-answer g c run d is free =
    let p = c.args.opened.now in
    let inv = subst (λ (p : OpenedState _). IsOpened (g.R.Region.extent p.blocks.undo.region) g.R.Region.tells (g.R.Region.image p.blocks.undo.region) p.blocks.undo.staged p.blocks.undo.stopped p.blocks.map p.blocks.lasting p.table) c.opened.view_is c.opened.invariant in
    let inside : c.opened.inside.blocks.undo.stopped ≡ false = ap (λ (p : OpenedState _). p.blocks.undo.stopped) c.opened.view_is ∙ run in
    let closed : IsTrue g.R.Region.tells → g.R.Region.image p.blocks.undo.region gate ≡ 0 = λ t. subst (λ (p : OpenedState _). g.R.Region.image p.blocks.undo.region gate ≡ 0) c.opened.view_is (c.size-size.ensures.undo_holds.rest t inside).closed in
    let k = kept_with_of g.R.Region.tells (g.R.Region.extent p.blocks.undo.region) (g.R.Region.image p.blocks.undo.region) p.table d (λ t. inv.stands t run) closed is in
    let answer = subst (λ (p : OpenedState _). OfKept p.table (λ e. says enlist_open c.plan_enlist.result ≡ false → answer_of c.plan_enlist.result ≡ enlists c.args.conts.now e)) c.opened.view_is c.plan_enlist.ensures.answer in
    subst (λ e. answer_of c.plan_enlist.result ≡ enlists c.args.conts.now e) (sym k.is) (answer k.versions k.entries free)
