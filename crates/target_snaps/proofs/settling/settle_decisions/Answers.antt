use Rattle.std.proofs.Common.{◌≡◌, ◌∙◌, Err, ap, arith, false, get_or, length, refl, rules, subst, sym, true}
use Rattle.std.specs.Prelude.{◌==◌}
use Rattle.vos_store.specs.Refusals.{always_stop}
use Rattle.world_base.specs.Idle.{IdleNext}
use Rattle.world_base.specs.Turns.{Reached}
use Rattle.target_parts.specs.Parts.{Now, kept, left_by}
use Rattle.target_parts.specs.Running.{runs_first, runs_on, still_runs}
use Rattle.target_snaps.specs.Settling.{SettlesOrCut}
use Rattle.target_snaps.proofs.Decided.{fewer-then, no_attempt, none-more, settles-more, settles-stop}
use Rattle.target_snaps.proofs.settling.settle_decisions.Goals as goal
use Rattle.target_parts.specs.KnowsLaws.{decided-on}
use Rattle.world_base.specs.PathLaws.{reached-here}

pub loop-plan-init : goal.loop-plan-init
loop-plan-init g c = record {
  runs = runs_first _ _ c.requires.running;
  leads = c.requires.leads;
  beside = record { hlc = refl; stamps = refl; member = refl };
  leader = refl;
  reached = λ d at. record { durable = d; kept_is = at; holds = reached-here _ _ _ };
}

pub loop-plan-smaller : goal.loop-plan-smaller
loop-plan-smaller g c =
    let some : (length c.loop-plan.knows.leader.decided == 0) ≡ false = search rules in
    let less = fewer-then c.loop-plan.knows.leader.decided _ some (ap (λ xs. get_or xs 0 no_attempt) c.decided-in-loop-plan.ensures) in
    let left = ap (λ l. length l.decided) c.in_ok-settle_decided.ensures.leader in
    omega (arith, less, left)

pub returns-in_err-settle_decided-clause-settled : goal.returns-in_err-settle_decided-clause-settled
returns-in_err-settle_decided-clause-settled g c d at =
    let now = c.loop-plan.invariant.reached d at in
    let some : (length c.loop-plan.knows.leader.decided == 0) ≡ false = search rules in
    let is : c.from_residual.result ≡ Err c.in_err-settle_decided.field-0.0 = search rules in
    subst (λ r. SettlesOrCut c.args.knows.now.leader.decided d (g.S.Store.state c.args.store.now) (g.S.Store.durable c.settle_decided.new.store) (g.S.Store.state c.settle_decided.new.store) (g.S.Store.may c.settle_decided.new.store) r) (sym is)
    (settles-stop c.loop-plan.knows.leader.decided _ some (ap (λ xs. get_or xs 0 no_attempt) c.decided-in-loop-plan.ensures) c.args.knows.now.leader.decided _ now.durable (g.S.Store.state c.loop-plan.store) (g.S.Store.state c.settle_decided.new.store)
    (g.S.Store.durable c.settle_decided.new.store) (left_by (g.S.Store.state c.settle_decided.new.store) (g.S.Store.may c.settle_decided.new.store)) (c.loop-plan.invariant.leads now.durable now.kept_is).rows.order now.holds (c.in_err-settle_decided.ensures.made now.durable now.kept_is))

pub loop-plan-preserved : goal.loop-plan-preserved
loop-plan-preserved g c =
    let inv = c.loop-plan.invariant in
    let one = c.in_ok-settle_decided.ensures in
    let some : (length c.loop-plan.knows.leader.decided == 0) ≡ false = search rules in
    record {
      runs = still_runs always_stop _ _ _ _ _ refl (runs_on always_stop _ _ _ _ _ _ _ inv.runs one.keeps.runs);
      leads = one.keeps.leads refl;
      beside = record { hlc = one.keeps.beside.hlc ∙ inv.beside.hlc; stamps = one.keeps.beside.stamps ∙ inv.beside.stamps; member = one.keeps.beside.member ∙ inv.beside.member };
      leader = decided-on c.args.knows.now.leader c.loop-plan.knows.leader c.settle_decided.new.knows.leader _ inv.leader one.leader;
      reached = λ d at.
          let now = inv.reached d at in
          subst (λ xs. Now (g.S.Store.durable c.settle_decided.new.store) (g.S.Store.state c.settle_decided.new.store) (λ k. Reached IdleNext c.args.knows.now.leader.decided (kept d (g.S.Store.state c.args.store.now)) xs k))
          (sym (ap (λ l. l.decided) one.leader))
          (settles-more c.loop-plan.knows.leader.decided _ some (ap (λ xs. get_or xs 0 no_attempt) c.decided-in-loop-plan.ensures) c.args.knows.now.leader.decided _ now.durable (g.S.Store.state c.loop-plan.store) (g.S.Store.state c.settle_decided.new.store)
          (g.S.Store.durable c.settle_decided.new.store) (left_by (g.S.Store.state c.settle_decided.new.store) (g.S.Store.may c.settle_decided.new.store)) (inv.leads now.durable now.kept_is).rows.order now.holds (one.made now.durable now.kept_is));
    }

pub returns-clause-settled : goal.returns-clause-settled
returns-clause-settled g c d at =
    let none : (length c.loop-plan.knows.leader.decided == 0) ≡ true = search rules in
    subst (λ xs. Now (g.S.Store.durable c.loop-plan.store) (g.S.Store.state c.loop-plan.store) (λ k. Reached IdleNext c.args.knows.now.leader.decided (kept d (g.S.Store.state c.args.store.now)) xs k))
    (none-more c.loop-plan.knows.leader.decided none) (c.loop-plan.invariant.reached d at)
