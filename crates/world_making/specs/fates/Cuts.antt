-- So does such a turn that is cut.
use Rattle.std.specs.Prelude.{ℕ, ◌≡◌, List, Option, Some, refl}
use Rattle.base_types.specs.declared.report.Line.{Line}
use Rattle.world_causes.specs.world_commit.attempts.History.{History}
use Rattle.world_base.specs.declared.letter.Letter.{Letter}
use Rattle.world_base.specs.declared.world.World.{World}
use Rattle.world_base.specs.Changes.{After, Before, Change, InPart, Kept, Steps}
use Rattle.world_base.specs.CutTurns.{CutHere, CutTurn, HearingIsCut, InChange, InQuestion}
use Rattle.world_base.specs.Events.{Rules, kept, target_plan}
use Rattle.world_base.specs.PathLaws.{path-keeps}
use Rattle.world_base.specs.Roles.{is_prepared, with_unsettled}
use Rattle.world_base.specs.Stops.{TargetCut}
use Rattle.world_causes.specs.world_commit.fates.Facts.{Attempts}
use Rattle.world_causes.specs.world_commit.fates.Working.{work-begins}
use Rattle.world_making.specs.fates.Steps.{AtMaking, keeps-entries, making-step, partly-entries}
use Rattle.world_making.specs.making.Making.{IsOfMaking, MakingNext, MakingStage, making_begins, making_issues}
use Rattle.world_making.specs.making.Turns.{cuts-leave}
use Rattle.world_causes.specs.world_commit.stops.Cutting.{mid-stops}

module _ (r : Rules) (h : History) (w v : World) (k : Attempts r h w) (g : TargetCut r w v) (l : Letter) (reading number : ℕ) (is : IsOfMaking l.message)
    (turn : HearingIsCut is_prepared number (target_plan r g.t) g.s.opening g.s.memory reading l.from l.message (kept g.s) g.cut) where
  cut : CutTurn (MakingNext number (target_plan r g.t) g.s.memory reading l.from l.message) (making_issues l.message) g.t (making_begins g.s.memory) (kept g.s) g.cut
  cut = cuts-leave is_prepared number (target_plan r g.t) g.s.opening g.s.memory reading l.from l.message (kept g.s) g.cut turn is

  step : (a : MakingStage) (n : Kept) (o : Option Change) (b : MakingStage) (m : Kept) → MakingNext number (target_plan r g.t) g.s.memory reading l.from l.message a n o b → Steps o n m
      → AtMaking r h w g.t g.s g.here g.runs a n
      → AtMaking r h w g.t g.s g.here g.runs b m
  step = making-step r h w g.t g.s g.here g.runs number reading l.from l.message

  so-far : AtMaking r h w g.t g.s g.here g.runs cut.last cut.mid
  so-far =
      path-keeps (MakingNext number (target_plan r g.t) g.s.memory reading l.from l.message) (AtMaking r h w g.t g.s g.here g.runs) step (making_begins g.s.memory) (kept g.s) cut.did cut.last cut.mid cut.path
      (work-begins r h w g.t g.s g.here k.on)

  stops : (stage : MakingStage) (n : Kept) → AtMaking r h w g.t g.s g.here g.runs stage n → g.cut.left.durable ≡ n.durable → Attempts r h v
  stops stage n on same = mid-stops r h w g.t g.s g.here k n (with_unsettled stage.unsettled g.s.memory) g.cut v on same g.after

  pub making-cut : Attempts r h v
  making-cut = by cut.lines cut.here
    where
      by : (lines : List Line) → CutHere (MakingNext number (target_plan r g.t) g.s.memory reading l.from l.message) g.t cut.last cut.mid g.cut.left lines → Attempts r h v
      by lines (InQuestion same free) = stops cut.last cut.mid so-far same
      by lines (InChange c next may (Before same) free) = stops cut.last cut.mid so-far same
      by lines (InChange c next may (After same) free) = stops next g.cut.left (step cut.last cut.mid (Some c) next g.cut.left may (same, free) so-far) refl
      by lines (InChange c next may (InPart part) free) =
          stops cut.last g.cut.left (keeps-entries r h w g.t g.s g.here g.runs cut.last cut.mid g.cut.left (partly-entries c cut.mid.durable g.cut.left.durable part) so-far) refl
