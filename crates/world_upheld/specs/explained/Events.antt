-- Each event of a run keeps that outcomes show their causes, beside all that is accounted for.
use Rattle.std.specs.Prelude.{ℕ, ◌≤◌, ◌++◌}
use Rattle.daos_model.specs.Opening.{Opening}
use Rattle.model_laws.specs.Members.{contains-from_has}
use Rattle.world_legal.specs.world_commit.attempts.History.{GrowsBy, History}
use Rattle.world_legal.specs.world_commit.statuses.Events.{told_by}
use Rattle.world_base.specs.declared.world.World.{World}
use Rattle.world_base.specs.Events.{Rules}
use Rattle.world_base.specs.Stops.{WorldEvent}
use Rattle.world_legal.specs.world_causes.causes.Causes.{Stored}
use Rattle.world_upheld.specs.causing.OverDates.{CausesOverDates, events-keep_causes}
use Rattle.world_upheld.specs.causing.PlaceLaws.{all-events-keep_places}
use Rattle.world_upheld.specs.causing.Places.{Places}
use Rattle.world_owners.specs.world_making.freezings.Freezings.{HaveOneEpoch}
use Rattle.world_legal.specs.world_causes.handing.Begun.{losses-asked}
use Rattle.world_legal.specs.world_causes.showing.Happening.{stored_in}
use Rattle.world_upheld.specs.upheld.Begins.{AreRulesInForm}
use Rattle.world_upheld.specs.upheld.Heard.{HeardGrounds}
use Rattle.world_upheld.specs.reasons.Reasons.{Reasons, all-events-keep_reasons}
use Rattle.world_upheld.specs.upheld.Events as stands
use Rattle.world_upheld.specs.explained.Explanations.{AllEventsExplain, AllEventsKeepExplanations, Explanations, IsHeardKnown}
use Rattle.world_upheld.specs.explained.Heard.{all-heard_known, making-known}

module _ (r : Rules) (o : Opening) (h later : History) (stored : Stored) (w v : World) (A : AreRulesInForm r) (e : WorldEvent r w v) (grows : GrowsBy h (told_by e.happens) later)
    (x : IsHeardKnown r o h stored w v e) where
  abbrev k : Explanations r o h stored w
  k = x.explanations

  u : HeardGrounds r o h w
  u = k.reasons.accounted.grounds.heard

  reasons-then : Reasons r o later (stored_in r e.happens ++ stored) v
  reasons-then = all-events-keep_reasons r o h later stored w v A k.reasons e grows

  causes-then : (late : ℕ) → late ≤ 1 → CausesOverDates r o late (stored_in r e.happens ++ stored) v
  causes-then late low =
      events-keep_causes r o late h stored w v u.attempts (k.causes late low) (making-known r o h stored w A k late low) (u.talk, u.stand, u.epochs) (k.reasons.accounted.losses, losses-asked r w u.talk)
      reasons-then.accounted.grounds.heard.epochs e (x.known late low)

  once : HaveOneEpoch w
  once y a b i j = u.epochs.one y a b (contains-from_has w.issued (y, a) i) (contains-from_has w.issued (y, b) j)

  places-then : Places r o v
  places-then = all-events-keep_places r o u.few w v u.many once u.makings u.freezings e k.places

pub all-events-keep_explanations : AllEventsKeepExplanations
all-events-keep_explanations r o h later stored w v A k e grows =
    let x = all-heard_known r o h stored w v A k e in
    record {
      reasons = reasons-then r o h later stored w v A e grows x;
      causes = causes-then r o h later stored w v A e grows x;
      places = places-then r o h later stored w v A e grows x;
    }

-- ---- and what targets keep and answer

pub all-events-explain : AllEventsExplain
all-events-explain r o held h stored w v A before k e =
    let g = k.explanations.reasons.accounted.grounds in
    let go = stands.go r o held h w v A.some_attempt before g k.contents e in
    record {
      later = go.later;
      grows = go.grows;
      grew = stands.grew r o held h w v A.some_attempt before g k.contents e;
      explained = record {
        explanations = all-events-keep_explanations r o h go.later stored w v A k.explanations e go.grows;
        contents = stands.contents-then r o held h w v A.some_attempt before g k.contents e;
      };
    }
