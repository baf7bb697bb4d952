use Rattle.std.proofs.Common.{◌≡◌, ◌∙◌, Err, refl, rules, subst, sym}
use Rattle.vos_store.specs.Refusals.{always_stop}
use Rattle.world_base.specs.Acks.{MarkedNext}
use Rattle.target_parts.specs.Listing.{none_left}
use Rattle.target_parts.specs.Running.{runs_first, runs_on, still_runs}
use Rattle.target_dtx.specs.Dtx.{GoesThrough}
use Rattle.target_dtx.proofs.Confirming.{confirms-cut, confirms-on, none_marked}
use Rattle.target_dtx.proofs.acks.confirm_all.Goals as goal
use Rattle.world_base.specs.PathLaws.{reached-here}

pub loop-attempt-init : goal.loop-attempt-init
loop-attempt-init g c = record {
  runs = runs_first _ _ c.requires.running;
  leads = c.requires.leads;
  beside = record { hlc = refl; stamps = refl; member = refl };
  leader = refl;
  reached = λ m d at. record { durable = d; kept_is = at; holds = reached-here _ _ _ };
}

pub returns-in_err-confirm-clause-confirmed : goal.returns-in_err-confirm-clause-confirmed
returns-in_err-confirm-clause-confirmed g c m d at =
    let now = c.loop-attempt.invariant.reached m d at in
    let is : c.from_residual.result ≡ Err c.in_err-confirm.field-0.0 = search rules in
    subst (λ r. GoesThrough (MarkedNext c.args.plan m c.args.member) c.args.attempts.now d (g.S.Store.state c.args.store.now) (g.S.Store.durable c.confirm.new.store) (g.S.Store.state c.confirm.new.store) (g.S.Store.may c.confirm.new.store) r) (sym is)
    (confirms-cut c.args.plan m c.args.member c.args.attempts.now _ c.loop-attempt.attempt-index none_marked now.durable _ (g.S.Store.state c.confirm.new.store) (g.S.Store.durable c.confirm.new.store) (g.S.Store.may c.confirm.new.store) c.loop-attempt-test.true now.holds _
    (c.in_err-confirm.ensures.made m now.durable now.kept_is))

pub loop-attempt-preserved : goal.loop-attempt-preserved
loop-attempt-preserved g c =
    let inv = c.loop-attempt.invariant in
    let one = c.in_ok-confirm.ensures in
    record {
      runs = still_runs always_stop _ _ _ _ _ refl (runs_on always_stop _ _ _ _ _ _ _ inv.runs one.keeps.runs);
      leads = one.keeps.leads refl;
      beside = record { hlc = one.keeps.beside.hlc ∙ inv.beside.hlc; stamps = one.keeps.beside.stamps ∙ inv.beside.stamps; member = one.keeps.beside.member ∙ inv.beside.member };
      leader = one.leader ∙ inv.leader;
      reached = λ m d at.
          let now = inv.reached m d at in
          confirms-on c.args.plan m c.args.member c.args.attempts.now _ c.loop-attempt.attempt-index none_marked now.durable _ (g.S.Store.state c.confirm.new.store) (g.S.Store.durable c.confirm.new.store) (g.S.Store.may c.confirm.new.store) c.loop-attempt-test.true now.holds
          (one.made m now.durable now.kept_is);
    }

pub returns-clause-confirmed : goal.returns-clause-confirmed
returns-clause-confirmed g c m d at = none_left (MarkedNext c.args.plan m c.args.member) c.args.attempts.now _ c.loop-attempt.attempt-index _ _ c.loop-attempt-test.false (c.loop-attempt.invariant.reached m d at)
