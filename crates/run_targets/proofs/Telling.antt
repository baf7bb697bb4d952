-- Before a run nothing was told of its clients, and what is told in the end begins in turn.
use Rattle.std.specs.Prelude.{ℕ, ◌≡◌, List, [], length, slice_get, Option, Some, None, Ok, IfOk, Result}
use Rattle.std.proofs.Common.{sym, ◌∙◌, ap, subst}
use Rattle.base_types.specs.declared.report.Line.{Line}
use Rattle.base_types.specs.declared.report.Report.{Report}
use Rattle.base_types.specs.declared.script.Command.{Command}
use Rattle.base_types.specs.declared.script.Script.{Script}
use Rattle.run_loop.specs.client_core.Clients.{ClientNow}
use Rattle.daos_model.specs.FormLaws.{length-map}
use Rattle.daos_model.specs.Opening.{Given}
use Rattle.daos_model.specs.declared.durable.Durable.{Durable}
use Rattle.run_loop.specs.Below.{AllBeginInTurn, AllTellInOrder, HaveStarted, StageNow, TargetOf, TellInTurn, from-map, map-get, report_with, state_of, tells-first, rules_of, first_tracker}
use Rattle.report_round_trip.specs.Values.{AllTellBytes}
use Rattle.vos_store.specs.Calls.{State}
use Rattle.run_loop.specs.world_ended.Clients.{AllEndWell}
use Rattle.world_letters.specs.kinds.Fitting.{AllAnswersFit}
use Rattle.world_base.specs.ClientTurns.{at_first}

module _ {S C : Type 0} (durable : S → Option Durable) (state : S → State) (g : Given) (a : StageNow S C) (xs : List (TargetOf S C)) (started : HaveStarted durable state g a.clients xs) where
  pub first : (n : ℕ) (c : ClientNow) → slice_get a.clients n ≡ Some c → (c.state.place ≡ 0) × (c.state.command ≡ 0) × (c.state.present ≡ None)
  first n c at =
      let x = from-map (λ (list : List Command). at_first g.script started.those.held (first_tracker g.opening)) g.script.clients n c.state (ap (λ cs. slice_get cs n) (sym started.those.states) ∙ map-get state_of a.clients n c at) in
      (ap (λ z. z.place) x.is, ap (λ z. z.command) x.is, ap (λ z. z.present) x.is)

  -- nothing was told of clients before their first turns
  pub told-first : a.between.lines ≡ [] → TellInTurn (rules_of g) a
  told-first none =
      tells-first (rules_of g) a started.form.some_attempt (sym (length-map state_of a.clients) ∙ ap length started.those.states ∙ length-map (λ (list : List Command). at_first g.script started.those.held (first_tracker g.opening)) g.script.clients) started.those.plans first none

  -- and the report of a run tells of them in turn
  pub told-last : {E : Type 0} (ran : Result (List Line) E) (lines : List Line) (report : Report) → a.between.lines ≡ [] → (TellInTurn (rules_of g) a → IfOk ran (AllBeginInTurn g.job.attempts g.script)) → ran ≡ Ok lines → report ≡ report_with g.script lines
      → AllBeginInTurn g.job.attempts g.script report.lines
  told-last ran lines report none all is same = subst (λ q. AllBeginInTurn g.job.attempts g.script q.lines) (sym same) (subst (λ q. IfOk q (AllBeginInTurn g.job.attempts g.script)) is (all (told-first none)))

-- what a run's lines tell its report tells
pub kinds-last : {E : Type 0} (s : Script) (ran : Result (List Line) E) (lines : List Line) (report : Report) → IfOk ran (AllAnswersFit s) → ran ≡ Ok lines → report ≡ report_with s lines → AllAnswersFit s report.lines
kinds-last s ran lines report all is same = subst (λ q. AllAnswersFit s q.lines) (sym same) (subst (λ q. IfOk q (AllAnswersFit s)) is all)

pub ends-last : {E : Type 0} (s : Script) (ran : Result (List Line) E) (lines : List Line) (report : Report) → IfOk ran (AllEndWell s) → ran ≡ Ok lines → report ≡ report_with s lines → AllEndWell s report.lines
ends-last s ran lines report all is same = subst (λ q. AllEndWell s q.lines) (sym same) (subst (λ q. IfOk q (AllEndWell s)) is all)

pub in-order-last : {E : Type 0} (s : Script) (ran : Result (List Line) E) (lines : List Line) (report : Report) → IfOk ran (AllTellInOrder s) → ran ≡ Ok lines → report ≡ report_with s lines → AllTellInOrder s report.lines
in-order-last s ran lines report all is same = subst (λ q. AllTellInOrder s q.lines) (sym same) (subst (λ q. IfOk q (AllTellInOrder s)) is all)

pub bytes-last : (s : Script) (lines : List Line) (report : Report) → AllTellBytes lines → report ≡ report_with s lines → AllTellBytes report.lines
bytes-last s lines report all same = subst (λ q. AllTellBytes q.lines) (sym same) all
