-- A cut of any turn that is of no snapshot and no aggregation, as an event.
use Rattle.std.specs.Prelude.{ℕ, ◌≡◌, Bool, true, false, List, [], Option, Some, None, refl}
use Rattle.std.proofs.Common.{◌∙◌, ap}
use Rattle.base_types.specs.declared.report.Line.{Line}
use Rattle.base_messages.specs.declared.message.Message.{Message}
use Rattle.base_messages.specs.declared.message.Message.TheVariants as message
use Rattle.base_messages.specs.declared.message.Post.{Post}
use Rattle.world_commit.specs.attempts.History.{GrowsBy, History}
use Rattle.world_commit.specs.fates.Answers.{ack-answers, state-answers}
use Rattle.world_commit.specs.fates.Asked.{AskedRight}
use Rattle.world_commit.specs.fates.Facts.{Attempts}
use Rattle.world_commit.specs.stops.CutAnswers.{ack-cut, ack_told, verdict-cut}
use Rattle.world_commit.specs.stops.Cuts.{commit-cut, fetch-cut, idle-cut, idling-cut, later-keeps, mark-cut, marked-cut, prepare-cut}
use Rattle.world_base.specs.declared.letter.Letter.{Letter}
use Rattle.world_base.specs.declared.target.TargetState.{TargetState}
use Rattle.world_base.specs.declared.world.World.{World}
use Rattle.world_base.specs.Changes.{Change, Kept, Steps}
use Rattle.world_base.specs.CutTurns.{CutHere, CutTurn, Cutting, HearingIsCut, InChange, InQuestion, none_issued}
use Rattle.world_base.specs.Events.{Rules, kept, target_plan}
use Rattle.world_base.specs.Letters.{Takes, target}
use Rattle.world_base.specs.PathLaws.{path-keeps}
use Rattle.world_base.specs.Roles.{is_prepared}
use Rattle.world_base.specs.Statuses.{AtOnce, Looking, Looks, NoChange, status_refusal}
use Rattle.world_base.specs.Stops.{AtWork, Hearing, IdleWork, CutOf, IsInHand, TargetCut}
use Rattle.world_base.specs.TargetTurns.{fetch_request}
use Rattle.world_base.specs.Verdicts.{Answers, IsAsked, QueryNext, QueryStage}

-- a message that is heard for no snapshot and no aggregation
abbrev pub is_without_snapshots : Message → Bool
is_without_snapshots (message.Snap x c name tracker) = false
is_without_snapshots (message.Freeze x c s) = false
is_without_snapshots (message.Held x refusal) = false
is_without_snapshots (message.Prune x c tracker e) = false
is_without_snapshots m = true

abbrev pub IsWithoutSnapshots : AtWork → Type 0
IsWithoutSnapshots (Hearing l reading number) = is_without_snapshots l.message ≡ true
IsWithoutSnapshots IdleWork = Unit {0}

-- What a leader would have told of an attempt that it aborted when it stopped: where an answer's refusal made it take its entry away.
abbrev pub message_told : Message → TargetState → Cutting → List Post
message_told (message.Ack x inc refusal) s cut = ack_told s x refusal cut.left.durable
message_told (message.StatusIs x inc how) s cut = ack_told s x (status_refusal x how) cut.left.durable
message_told m s cut = []

abbrev pub cut_told : AtWork → TargetState → Cutting → List Post
cut_told (Hearing l reading number) s cut = message_told l.message s cut
cut_told IdleWork s cut = []

-- a turn without changes leaves what was kept
module _ {S : Type 0} (Next : S → Kept → Option Change → S → Type 0) (none : (a : S) (k : Kept) (c : Change) (b : S) → Next a k (Some c) b → ⊥) where
  pub unchanged-cut : (t : ℕ) (start : S) (old : Kept) (cut : Cutting) → CutTurn Next none_issued t start old cut → cut.left.durable ≡ old.durable
  unchanged-cut t start old cut turn = by turn.lines turn.here
    where
      same : turn.mid ≡ old
      same = path-keeps Next (λ a k. k ≡ old) step start old turn.did turn.last turn.mid turn.path refl
        where
          step : (a : S) (k : Kept) (o : Option Change) (b : S) (l : Kept) → Next a k o b → Steps o k l → k ≡ old → l ≡ old
          step a k None b l next steps is = steps ∙ is
          step a k (Some c) b l next steps is = absurd (none a k c b next)

      by : (lines : List Line) → CutHere Next t turn.last turn.mid cut.left lines → cut.left.durable ≡ old.durable
      by lines (InQuestion left free) = left ∙ ap (λ k. k.durable) same
      by lines (InChange c next is left free) = absurd (none turn.last turn.mid c next is)

looks-alone : (a : AtOnce) (k : Kept) (c : Change) (b : AtOnce) → NoChange a k (Some c) b → ⊥
looks-alone a k c b next = by c a k (Some c) b next refl
  where
    by : (c : Change) (a : AtOnce) (k : Kept) (o : Option Change) (b : AtOnce) → NoChange a k o b → o ≡ Some c → ⊥
    by c a k o b (Looks k2) same = let no : ⊥ = cc in no

asks-alone : (a : QueryStage) (k : Kept) (c : Change) (b : QueryStage) → QueryNext a k (Some c) b → ⊥
asks-alone a k c b next = by c a k (Some c) b next refl
  where
    by : (c : Change) (a : QueryStage) (k : Kept) (o : Option Change) (b : QueryStage) → QueryNext a k o b → o ≡ Some c → ⊥
    by c a k o b (Answers k2) same = let no : ⊥ = cc in no

module _ (r : Rules) (h later : History) (w v : World) (right : AskedRight r h w) (k : Attempts r h w) (g : TargetCut r w v) where
  after : Attempts r h v → GrowsBy h [] later → Attempts r later v
  after on grows = later-keeps r h later v grows on

  by-kind : (l : Letter) (reading number : ℕ) → (rest : List Letter) → Takes w.messages l rest → l.to ≡ target g.t → (m : Message) → l.message ≡ m → is_without_snapshots m ≡ true
      → HearingIsCut is_prepared number (target_plan r g.t) g.s.opening g.s.memory reading l.from m (kept g.s) g.cut → GrowsBy h (message_told m g.s g.cut) later → Attempts r later v
  by-kind l reading number rest takes to (message.Fetch x op group ep first tracker read snapshot) is plain turn grows =
      after (fetch-cut r h w v g.t g.s g.here g.runs g.cut g.after k reading (fetch_request x op group ep first tracker read snapshot) turn) grows
  by-kind l reading number rest takes to (message.Commit x ep first tracker ws) is plain turn grows =
      after (commit-cut r h w v g.t g.s g.here g.runs g.cut g.after k l rest takes to x ep first tracker ws is reading right turn) grows
  by-kind l reading number rest takes to (message.Prepare e first ws inc) is plain turn grows = after (prepare-cut r h w v g.t g.s g.here g.runs g.cut g.after k l rest takes to e first ws inc is turn) grows
  by-kind l reading number rest takes to (message.Ack x inc refusal) is plain turn grows = ack-cut r h w v g.t g.s g.here g.runs g.cut g.after k l rest takes to later x inc refusal (ack-answers r l x inc refusal is) grows turn
  by-kind l reading number rest takes to (message.StatusIs x inc how) is plain turn grows =
      ack-cut r h w v g.t g.s g.here g.runs g.cut g.after k l rest takes to later x inc (status_refusal x how) (state-answers r l x inc how is) grows turn
  by-kind l reading number rest takes to (message.Mark inc ms) is plain turn grows = after (mark-cut r h w v g.t g.s g.here g.runs g.cut g.after k l rest takes to inc ms is turn) grows
  by-kind l reading number rest takes to (message.Marked inc ids) is plain turn grows = after (marked-cut r h w v g.t g.s g.here g.runs g.cut g.after k l rest takes to inc ids is turn) grows
  by-kind l reading number rest takes to (message.Verdict x ask inc c) is plain turn grows = after (verdict-cut r h w v g.t g.s g.here g.runs g.cut g.after k l rest takes to x ask inc c is reading turn) grows
  by-kind l reading number rest takes to (message.Query x ask) is plain turn grows =
      after (idle-cut r h w v g.t g.s g.here g.runs g.cut g.after k (unchanged-cut QueryNext asks-alone g.t IsAsked (kept g.s) g.cut turn)) grows
  by-kind l reading number rest takes to (message.Ask x) is plain turn grows =
      after (idle-cut r h w v g.t g.s g.here g.runs g.cut g.after k (unchanged-cut NoChange looks-alone g.t Looking (kept g.s) g.cut turn)) grows
  by-kind l reading number rest takes to (message.Status x inc) is plain turn grows =
      after (idle-cut r h w v g.t g.s g.here g.runs g.cut g.after k (unchanged-cut NoChange looks-alone g.t Looking (kept g.s) g.cut turn)) grows
  by-kind l reading number rest takes to (message.Reset' by down place more) is plain turn grows =
      after (idle-cut r h w v g.t g.s g.here g.runs g.cut g.after k (unchanged-cut NoChange looks-alone g.t Looking (kept g.s) g.cut turn)) grows
  by-kind l reading number rest takes to (message.Snap x c name tracker) is plain turn grows = let no : ⊥ = cc in absurd no
  by-kind l reading number rest takes to (message.Freeze x c s) is plain turn grows = let no : ⊥ = cc in absurd no
  by-kind l reading number rest takes to (message.Held x refusal) is plain turn grows = let no : ⊥ = cc in absurd no
  by-kind l reading number rest takes to (message.Prune x c tracker e) is plain turn grows = let no : ⊥ = cc in absurd no
  by-kind l reading number rest takes to m is plain turn grows = absurd turn

  pub cut-keeps : IsWithoutSnapshots g.work → GrowsBy h (cut_told g.work g.s g.cut) later → Attempts r later v
  cut-keeps plain grows = by g.work plain grows g.in_hand g.turn
    where
      by : (a : AtWork) → IsWithoutSnapshots a → GrowsBy h (cut_told a g.s g.cut) later → IsInHand w g.t a → CutOf (target_plan r g.t) g.s a g.cut → Attempts r later v
      by (Hearing l reading number) plain grows hand turn = by-kind l reading number hand.0.0 hand.0.1 hand.1 l.message refl plain turn grows
      by IdleWork plain grows hand turn = after (idling-cut r h w v g.t g.s g.here g.runs g.cut g.after k turn) grows
