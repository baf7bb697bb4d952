use Rattle.std.proofs.Common.{◌≡◌, ◌∙◌, Err, refl, rules, subst, sym}
use Rattle.vos_store.specs.Refusals.{always_stop}
use Rattle.world_base.specs.Marks.{MarkNext}
use Rattle.world_base.specs.Roles.{is_prepared}
use Rattle.target_parts.specs.Knowing.{memory_of}
use Rattle.target_parts.specs.KnowsLaws.{memory-beside}
use Rattle.target_parts.specs.Listing.{none_left}
use Rattle.target_parts.specs.Running.{runs_first, runs_on, still_runs}
use Rattle.target_dtx.specs.Dtx.{GoesThrough}
use Rattle.target_dtx.proofs.Marking.{marks-cut, marks-on, none_marked, told-none, told-on}
use Rattle.target_dtx.proofs.marks.settle_all.Goals as goal
use Rattle.world_base.specs.PathLaws.{reached-here}

pub loop-mark-init : goal.loop-mark-init
loop-mark-init g c = record {
  runs = runs_first _ _ c.requires.running;
  leads = c.requires.leads;
  beside = record { hlc = refl; stamps = refl; member = refl };
  told = refl;
  reached = λ d at. record { durable = d; kept_is = at; holds = reached-here _ _ _ };
}

pub returns-in_err-settle_prepared-clause-settled : goal.returns-in_err-settle_prepared-clause-settled
returns-in_err-settle_prepared-clause-settled g c d at =
    let now = c.loop-mark.invariant.reached d at in
    let is : c.from_residual.result ≡ Err c.in_err-settle_prepared.field-0.0 = search rules in
    subst (λ r. GoesThrough (MarkNext is_prepared) c.args.marks.now d (g.S.Store.state c.args.store.now) (g.S.Store.durable c.settle_prepared.new.store) (g.S.Store.state c.settle_prepared.new.store) (g.S.Store.may c.settle_prepared.new.store) r) (sym is)
    (marks-cut c.args.marks.now _ c.loop-mark.mark-index none_marked c.step_of.result c.step_of.ensures.is now.durable _ (g.S.Store.state c.settle_prepared.new.store) (g.S.Store.durable c.settle_prepared.new.store) (g.S.Store.may c.settle_prepared.new.store) c.loop-mark-test.true now.holds _
    (c.in_err-settle_prepared.ensures.made now.durable now.kept_is))

pub loop-mark-preserved : goal.loop-mark-preserved
loop-mark-preserved g c =
    let inv = c.loop-mark.invariant in
    let one = c.in_ok-settle_prepared.ensures in
    record {
      runs = still_runs always_stop _ _ _ _ _ refl (runs_on always_stop _ _ _ _ _ _ _ inv.runs one.keeps.runs);
      leads = one.keeps.leads refl;
      beside = record { hlc = one.keeps.beside.hlc ∙ inv.beside.hlc; stamps = one.keeps.beside.stamps ∙ inv.beside.stamps; member = one.keeps.beside.member ∙ inv.beside.member };
      told =
          told-on c.args.marks.now c.loop-mark.mark-index none_marked (memory_of c.loop-mark.knows) (memory_of c.settle_prepared.new.knows) c.loop-mark-test.true
          (memory-beside c.loop-mark.knows c.settle_prepared.new.knows _ one.keeps.beside one.leader) ∙ inv.told;
      reached = λ d at.
          let now = inv.reached d at in
          marks-on c.args.marks.now _ c.loop-mark.mark-index none_marked c.step_of.result c.step_of.ensures.is now.durable _ (g.S.Store.state c.settle_prepared.new.store) (g.S.Store.durable c.settle_prepared.new.store) (g.S.Store.may c.settle_prepared.new.store) c.loop-mark-test.true now.holds
          (one.made now.durable now.kept_is);
    }

pub returns-clause-settled : goal.returns-clause-settled
returns-clause-settled g c d at = none_left (MarkNext is_prepared) c.args.marks.now _ c.loop-mark.mark-index _ _ c.loop-mark-test.false (c.loop-mark.invariant.reached d at)

pub returns-clause-told : goal.returns-clause-told
returns-clause-told g c = told-none c.args.marks.now c.loop-mark.mark-index _ (memory_of c.loop-mark.knows) c.loop-mark-test.false c.loop-mark.invariant.told
