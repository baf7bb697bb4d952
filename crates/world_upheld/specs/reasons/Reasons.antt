-- All that is accounted for in any run, and beside it where leaders' stops show.
use Rattle.world_legal.specs.world_commit.statuses.Events.{told_by}
use Rattle.world_upheld.specs.upheld.Events.{grows-with, later-with}
use Rattle.std.specs.Prelude.{◌++◌, [], slice_get}
use Rattle.std.proofs.Common.{◌∙◌, ap}
use Rattle.daos_model.specs.Opening.{Opening}
use Rattle.world_legal.specs.world_commit.attempts.History.{GrowsBy, History}
use Rattle.world_base.specs.declared.world.World.{World}
use Rattle.world_base.specs.Events.{Rules}
use Rattle.world_base.specs.Stops.{Begins, Goes, WorldEvent, WorldRun}
use Rattle.world_legal.specs.world_causes.causes.Causes.{Stored}
use Rattle.world_legal.specs.world_causes.handing.Begun.{losses-asked}
use Rattle.world_legal.specs.world_causes.handing.Handing.{asks-right}
use Rattle.world_legal.specs.doubts.Doubts.{Doubts}
use Rattle.world_legal.specs.doubts.Events.{doubts-begin}
use Rattle.world_legal.specs.doubts.Laws.{IsBeside}
use Rattle.world_legal.specs.reasons.Accounted.{stored_over}
use Rattle.world_legal.specs.world_causes.showing.Happening.{stored_in}
use Rattle.world_upheld.specs.upheld.Begins.{AreRulesInForm, RunBeginsWell, no_history}
use Rattle.world_upheld.specs.upheld.Events as stands
use Rattle.world_upheld.specs.reasons.Accounted.{AccountedFor}
use Rattle.world_upheld.specs.reasons.Doubting.{all-events-keep_doubts}
use Rattle.world_upheld.specs.reasons.Events.{accounted-then}
use Rattle.world_upheld.specs.reasons.Runs.{accounts-began, none-yet}

-- ---- the facts

-- all that is accounted for, and where leaders' stops show
pub record Reasons (r : Rules) (o : Opening) (h : History) (stored : Stored) (w : World) : Type 0 where
  pub accounted : AccountedFor r o h stored w
  pub doubts : Doubts r h w

-- ---- the statements

-- Each event of a run of a script in form keeps it, with what is stored in it, of what is decided and aborted by then.
abbrev pub AllEventsKeepReasons : Type 0
AllEventsKeepReasons =
    (r : Rules) (o : Opening) (h later : History) (stored : Stored) (w v : World) → AreRulesInForm r → Reasons r o h stored w → (e : WorldEvent r w v)
    → GrowsBy h (told_by e.happens) later → Reasons r o later (stored_in r e.happens ++ stored) v

-- a run begins with it, whatever its targets' versions stand for, where nothing is stored yet
abbrev pub RunsBeginWithReasons : Type 0
RunsBeginWithReasons = (r : Rules) (o : Opening) (w : World) → AreRulesInForm r → RunBeginsWell r o w → Reasons r o no_history [] w

-- so it holds at each moment of the run, of what was decided, aborted and stored by then
abbrev pub RunsHaveReasons : Type 0
RunsHaveReasons =
    (r : Rules) (o : Opening) (w v : World) → AreRulesInForm r → RunBeginsWell r o w → (run : WorldRun r w v) → (h : History) × Reasons r o h (stored_over r run) v

-- ---- one event

module _ (r : Rules) (o : Opening) (h later : History) (stored : Stored) (w v : World) (A : AreRulesInForm r) (k : AccountedFor r o h stored w) (e : WorldEvent r w v) (grows : GrowsBy h (told_by e.happens) later) where
  -- what else holds, as doubts ask
  pub beside-event : IsBeside r h later w e.u
  beside-event =
      let s = k.grounds in
      record {
        some = A.some_attempt;
        right = stands.right r o h later w v A.some_attempt s e grows;
        asks = asks-right r w s.heard.talk s.heard.requests s.heard.stand;
        attempts = s.heard.attempts;
        talk = s.heard.talk;
        endings = s.endings;
        lines = s.lines;
        outcomes = s.outcomes;
        losses = k.losses;
        lost = losses-asked r w s.heard.talk;
        attempts_then = stands.attempts-happened r o h later w v A.some_attempt s e grows;
        outcomes_then = (stands.told r o h later w v A.some_attempt s e grows).outcomes;
        requests_then = stands.requests-happened r o h later w v A.some_attempt s e grows;
        writes_then = λ t z x at i. (stands.grounds-then r o h later w v A.some_attempt s e grows).writes t z x (ap (λ y. slice_get y.targets t) e.after ∙ at) i;
      }

  doubts-then : Doubts r h w → Doubts r later v
  doubts-then doubts =
      all-events-keep_doubts r h later w v e beside-event k.grounds.heard.makings k.grounds.makers
      grows doubts

pub all-events-keep_reasons : AllEventsKeepReasons
all-events-keep_reasons r o h later stored w v A k e grows =
    record { accounted = accounted-then r o h later stored w v A k.accounted e grows; doubts = doubts-then r o h later stored w v A k.accounted e grows k.doubts }

-- ---- runs

pub reasons-begin : RunsBeginWithReasons
reasons-begin r o w A B = record { accounted = accounts-began r o w A B; doubts = doubts-begin r no_history w (none-yet r o w A B) B.lines }

pub runs-have_reasons : RunsHaveReasons
runs-have_reasons r o w v A B Begins = (no_history, reasons-begin r o w A B)
runs-have_reasons r o w v A B (Goes u x run e) =
    let k = runs-have_reasons r o w u A B run in
    let later = later-with k.0 (told_by e.happens) in
    (later, all-events-keep_reasons r o k.0 later (stored_over r run) u v A k.1 e (grows-with k.0 (told_by e.happens)))
