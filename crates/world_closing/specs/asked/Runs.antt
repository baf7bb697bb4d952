-- From its beginning to where it has ended: who is waited for is asked, a run is over, and what became of attempts is known.
use Rattle.std.specs.Prelude.{◌≡◌, ◌≤◌, length, slice_get, Option, Some, None, refl}
use Rattle.std.proofs.Common.{sym, ◌∙◌, ap, subst}
use Rattle.daos_model.specs.FormLaws.{length-map}
use Rattle.daos_model.specs.Opening.{Opening}
use Rattle.dtx_base.specs.Leading.{undecided_attempt}
use Rattle.dtx_base.specs.Rows.{row_of}
use Rattle.model_laws.specs.Members.{Has}
use Rattle.world_commit.specs.attempts.Attempts.{inc_at, leader_of, row_in}
use Rattle.world_commit.specs.attempts.History.{GrowsBy, History}
use Rattle.world_base.specs.declared.target.TargetState.{TargetState}
use Rattle.world_base.specs.declared.world.World.{World}
use Rattle.world_base.specs.Ended.{HasEnded}
use Rattle.world_base.specs.Events.{Rules}
use Rattle.world_base.specs.Stops.{Begins, Goes, WorldEvent, WorldRun, swept}
use Rattle.world_answers.specs.world_causes.causes.Causes.{Stored}
use Rattle.world_commit.specs.fates.Facts.{talking}
use Rattle.world_commit.specs.requests.Rows.{commits-find}
use Rattle.world_letters.specs.lives.Lives.{Lives}
use Rattle.world_upheld.specs.below.Legal.{AreAsking, DownsAreKnown, IsStill, NoneGoesToGivenUp, WaitersAreAsked, events-go_on, runs-as_many, stored_over}
use Rattle.world_upheld.specs.explained.Explanations.{upheld_of}
use Rattle.world_upheld.specs.explained.Runs.{runs-are_explained}
use Rattle.world_upheld.specs.reasons.Runs.{runs-are_accounted}
use Rattle.world_upheld.specs.upheld.BeginVersions.{begins-well}
use Rattle.world_commit.specs.statuses.Events.{told_by}
use Rattle.world_upheld.specs.reasons.Accounted.{AccountedFor}
use Rattle.world_upheld.specs.reasons.Events.{accounted-then}
use Rattle.world_upheld.specs.upheld.Begins.{AreRulesInForm, RunBeginsWell, client_begins, held_at}
use Rattle.world_upheld.specs.upheld.Events as stands
use Rattle.world_upheld.specs.upheld.Events.{event-many}
use Rattle.world_upheld.specs.upheld.Runs.{held-first}
use Rattle.world_closing.specs.asked.Asked.{AllEndedRunsAreOver, AllEndedRunsConclude, AllRunsAskForCollections, AllRunsAskForWaiters, AllRunsHaveAll, AllRunsSendNone, AllStillRunsAreOver, ExplainedConclude, ExplainedResolve}
use Rattle.world_closing.specs.asked.CollectionEvents.{all-events-ask_others}
use Rattle.world_closing.specs.asked.Collections.{CollectionsAreAsked, nothing-collected}
use Rattle.world_closing.specs.asked.Concluding.{known-conclude, known-resolve, upheld-known}
use Rattle.world_closing.specs.asked.Over.{IsUnderWay, is-all_over}
use Rattle.world_closing.specs.asked.Waiters.{all-events-ask}

-- ---- at each moment

pub runs-have_all : AllRunsHaveAll
runs-have_all r o w v B run =
    let k = runs-as_many r w v run in
    record { targets = k.targets ∙ B.targets; clients = k.clients ∙ ap length B.clients ∙ length-map (client_begins r o w) r.script.clients }

pub runs-send_none : AllRunsSendNone
runs-send_none r o w v B Begins = λ l t s i to here down. subst (Has l) B.messages i
runs-send_none r o w v B (Goes u x run e) = events-go_on r u v e

-- nothing is undecided when a run begins
none-waited : (r : Rules) (o : Opening) (w : World) → RunBeginsWell r o w → WaitersAreAsked r w
none-waited r o w B x m u c other row client off = by (slice_get w.targets (leader_of r x)) refl row
  where
    by : (y : Option TargetState) → slice_get w.targets (leader_of r x) ≡ y → row_in y x ≡ Some u → 1 ≤ talking r (inc_at w (leader_of r x)) w x m
    by None gone at = let no : ⊥ = cc in absurd no
    by (Some s) here at =
        let none : row_of undecided_attempt x s.memory.leader.undecided ≡ None = ap (λ l. row_of undecided_attempt x l.undecided) (B.starts (leader_of r x) s here).leader in
        let no : ⊥ = cc (at, none) in absurd no

-- what lines tell of targets is so before what goes to given up ones is lost
unswept : (u : World) → Lives (swept u) → Lives u
unswept u k = record { told = k.told; bounded = k.bounded; stops = k.stops; restarts = k.restarts; aggregations = k.aggregations; drawn = k.drawn }

-- who is waited for is asked
record AreAllAsked (r : Rules) (w : World) : Type 0 where
  waiters : WaitersAreAsked r w
  collections : CollectionsAreAsked r w

module _ (r : Rules) (o : Opening) (h later : History) (stored : Stored) (w v : World) (A : AreRulesInForm r) (gone : NoneGoesToGivenUp w) (k : AccountedFor r o h stored w) (asked : AreAllAsked r w) (e : WorldEvent r w v)
    (grows : GrowsBy h (told_by e.happens) later) where
  asking : AreAsking r h later w e.u
  asking =
      let s = k.grounds in
      let then' = accounted-then r o h later stored w v A k e grows in
      let right = stands.right r o h later w v A.some_attempt s e grows in
      record {
        some = A.some_target;
        targets = s.heard.many;
        targets_then = ap (λ x. length x.targets) (sym e.after) ∙ (event-many r w v e ∙ s.heard.many);
        attempts = s.heard.attempts;
        attempts_then = stands.attempts-happened r o h later w v A.some_attempt s e grows;
        right = right;
        senders = s.senders;
        commits = commits-find r h w s.heard.attempts right;
        gone = gone;
        lives = s.lives;
        lives_then = unswept e.u (subst Lives e.after then'.grounds.lives);
        downs = k.knows;
        downs_then = subst DownsAreKnown e.after then'.knows;
        asked = asked.waiters;
      }

  asked-on : AreAllAsked r v
  asked-on = record {
    waiters = all-events-ask r h later w v e asking;
    collections = all-events-ask_others r h later w v k.grounds.heard.attempts e asking.attempts_then asked.collections;
  }

runs-ask : (r : Rules) (o : Opening) (w v : World) → AreRulesInForm r → RunBeginsWell r o w → WorldRun r w v → AreAllAsked r v
runs-ask r o w v A B Begins = record { waiters = none-waited r o w B; collections = nothing-collected r w (λ t s here. (B.starts t s here).collecting) }
runs-ask r o w v A B (Goes u x run e) =
    let k = runs-are_accounted r o w u A B run in
    asked-on r o k.0 (stands.later-with k.0 (told_by e.happens)) (stored_over r run) u v A (runs-send_none r o w u B run) k.1 (runs-ask r o w u A B run) e (stands.grows-with k.0 (told_by e.happens))

pub runs-ask_for_waiters : AllRunsAskForWaiters
runs-ask_for_waiters r o w v A B run = (runs-ask r o w v A B run).waiters

pub runs-ask_for_collections : AllRunsAskForCollections
runs-ask_for_collections r o w v A B run = (runs-ask r o w v A B run).collections

-- ---- in the end

pub still-all_over : AllStillRunsAreOver
still-all_over r o w v A B run still = is-all_over r k.0 v under_way still
  where
    k : (h : History) × AccountedFor r o h (stored_over r run) v
    k = runs-are_accounted r o w v A B run

    under_way : IsUnderWay r k.0 v
    under_way =
        let s = k.1 in
        let asked = runs-ask r o w v A B run in
        record {
          some = A.some_target;
          all = runs-have_all r o w v B run;
          attempts = s.grounds.heard.attempts;
          questions = s.grounds.heard.questions;
          talk = s.grounds.heard.talk;
          rows = s.grounds.rows;
          lines = s.grounds.lines;
          knows = s.knows;
          gone = runs-send_none r o w v B run;
          asked = asked.waiters;
          collected = asked.collections;
        }

-- where a run has ended, nobody goes on
still-ended : (r : Rules) (v : World) → HasEnded r v → IsStill r v
still-ended r v ended = record { to_clients = ended.to_clients; to_targets = ended.to_targets; clients = ended.clients; none_stopped = ended.none_stopped }

pub ended-all_over : AllEndedRunsAreOver
ended-all_over r o w v A B run ended = still-all_over r o w v A B run (still-ended r v ended)

-- ---- what became of attempts, of a run that stands for the opening

pub explained-resolve : ExplainedResolve
explained-resolve r o held h stored v A before k = known-resolve r o held h v (upheld-known r o held h v A before (upheld_of k))

pub explained-conclude : ExplainedConclude
explained-conclude r o held h stored v A before k done = known-conclude r o held h v (upheld-known r o held h v A before (upheld_of k)) done

pub ended-conclude : AllEndedRunsConclude
ended-conclude r o w v A B few run ended =
    let k = runs-are_explained r o w v A B few run in
    (k.0, k.1, explained-conclude r o (held_at w) k.0 (stored_over r run) v A (held-first r o w A B) k.1 (ended-all_over r o w v A (begins-well r o w B) run ended).over.done)
