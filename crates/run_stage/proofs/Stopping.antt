-- What is left of the actors where a target's store stopped.
use Rattle.std.specs.Prelude.{ℕ, ◌≡◌, ◌<◌, ◌==◌, true, false, List, Option, Result, Ok, Err, OnOk}
use Rattle.std.proofs.Common.{◌∙◌, ap, subst}
use Rattle.base_types.specs.declared.epoch.Epoch.{Epoch}
use Rattle.base_types.specs.declared.id.AttemptId.{AttemptId}
use Rattle.base_types.specs.declared.report.Line.{Line}
use Rattle.run_laws.specs.shows.Stages.{StageNow}
use Rattle.run_laws.specs.shows.Turned.{AfterCut, AfterFailure, AfterStop, ByForeign, ByStop, Failed, given_up_stage, stopped_stage, swept_stage}
use Rattle.run_watch.specs.Watches.{FailsAgain, WatchNow}
use Rattle.run_laws.specs.target_parts.declared.stop.TargetStop.{TargetStop}
use Rattle.run_laws.specs.target_parts.declared.stop.TargetStop.TheVariants as stops

not-eight : (n : ℕ) → false ≡ (n == 8) → n ≡ 8 → ⊥
not-eight n is same = let no : false ≡ true = is ∙ ap (λ m. m == 8) same in cc

module _ {S C : Type 0} where
  -- the actors, whose targets stand so
  abbrev pub watched : StageNow S C → WatchNow → StageNow S C
  watched a w = record a { watch = w }

  -- the outside failed a target in its turn, not for the ninth time
  pub failed-again : (t before now : ℕ) (a : StageNow S C) (w : WatchNow) → before < now → FailsAgain t a.watch w false → AfterStop t before now a (watched a w)
  failed-again t before now a w rose fails = Failed rose fails.times fails.before (not-eight fails.times fails.ninth) (ap (watched a) fails.after)

  -- a target's turn was cut: it stopped, and what follows from that came about
  pub cut-off : {T E : Type 0} (result : Result T E) (t before now : ℕ) (stop : TargetStop) (a m b : StageNow S C) (issued : Option (AttemptId × Epoch)) (lines : List Line) → stop ≡ stops.Store issued lines → m ≡ swept_stage (stopped_stage t issued lines a)
      → OnOk result (AfterStop t before now m b) → OnOk result (AfterCut t before now stop a b)
  cut-off (Ok x) t before now stop a m b issued lines cut stopped after = record { issued = issued; lines = lines; cut = cut; after = subst (λ z. AfterStop t before now z b) stopped after }
  cut-off (Err e) t before now stop a m b issued lines cut stopped after = tt

  -- a target's opening failed by its store
  pub failed-by-stop : {T E : Type 0} (result : Result T E) (t before now : ℕ) (stop : TargetStop) (a b : StageNow S C) (issued : Option (AttemptId × Epoch)) (lines : List Line) → stop ≡ stops.Store issued lines
      → OnOk result (AfterStop t before now a b) → OnOk result (AfterFailure t before now stop a b)
  failed-by-stop (Ok x) t before now stop a b issued lines is after = ByStop issued lines is after
  failed-by-stop (Err e) t before now stop a b issued lines is after = tt

  -- or by a byte that is foreign
  pub failed-by-foreign : {T E : Type 0} (result : Result T E) (t before now : ℕ) (stop : TargetStop) (a b : StageNow S C) (at byte : ℕ) → stop ≡ stops.Foreign at byte
      → OnOk result (b ≡ swept_stage (given_up_stage t a)) → OnOk result (AfterFailure t before now stop a b)
  failed-by-foreign (Ok x) t before now stop a b at byte is given_up = ByForeign at byte is given_up
  failed-by-foreign (Err e) t before now stop a b at byte is given_up = tt
