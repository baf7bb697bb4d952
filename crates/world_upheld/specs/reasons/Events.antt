-- Each event of any run keeps what tells of a stop, and what was stored once, beside all that is upheld.
use Rattle.world_legal.specs.world_commit.attempts.Attempts.{entry_in}
use Rattle.world_legal.specs.world_commit.fates.Asked.{AskedRight}
use Rattle.world_legal.specs.world_commit.statuses.Events.{told_by}
use Rattle.world_legal.specs.world_contents.reads.Given.{Given}
use Rattle.world_upheld.specs.upheld.Events.{nothing_held}
use Rattle.world_owners.specs.Owners.{AllKeepOwn, all-events-keep_own}
use Rattle.world_readers.specs.stamps.Stamps.{StampsAreOwn}
use Rattle.world_readers.specs.stamps.Events as stamps
use Rattle.std.specs.Prelude.{ℕ, ◌≡◌, ◌++◌, slice_get, is_some}
use Rattle.std.proofs.Common.{◌∙◌, ap}
use Rattle.daos_model.specs.BoolLaws.{clash}
use Rattle.daos_model.specs.Opening.{Opening, top}
use Rattle.model_laws.specs.Members.{has-from_contains}
use Rattle.world_legal.specs.world_commit.attempts.History.{GrowsBy, History}
use Rattle.world_base.specs.declared.world.World.{World}
use Rattle.world_base.specs.ClientTurns.{attempt_id}
use Rattle.world_base.specs.Events.{Rules, client_plan}
use Rattle.world_base.specs.Stops.{WorldEvent}
use Rattle.world_legal.specs.world_causes.causes.Causes.{Stored}
use Rattle.world_letters.specs.clients.Snapshots.{is_at_snapshot}
use Rattle.world_letters.specs.epochs.Epochs.{IsEpochOf, IsIssued, IsOwn, IsSeen}
use Rattle.world_legal.specs.world_causes.handing.Begun.{leaders-targets, losses-asked, readers-new}
use Rattle.world_legal.specs.world_causes.handing.Handing.{commits-of_clients, hands-over}
use Rattle.world_legal.specs.world_causes.losses.Readers.{OpenAreHeld}
use Rattle.world_legal.specs.world_causes.handing.Places.{places-right}
use Rattle.world_legal.specs.world_causes.handing.Targets.{PlacesAreRight, asks-its_targets}
use Rattle.world_legal.specs.world_causes.handing.Tellers.{are-begun, ends-told}
use Rattle.world_legal.specs.reasons.Downs.{DownsAreTold, events-keep-downs}
use Rattle.world_legal.specs.reasons.Knowing.{DownsAreKnown}
use Rattle.world_legal.specs.world_causes.losses.Keeping.{AllBeside}
use Rattle.world_legal.specs.world_causes.losses.Losses.{Losses}
use Rattle.world_owners.specs.world_making.losses.Events.{all-events-keep-losses}
use Rattle.world_owners.specs.world_making.losses.RefusalEvents.{freeze-refusals-keep}
use Rattle.world_legal.specs.world_commit.requests.Rows.{commits-find}
use Rattle.world_legal.specs.world_causes.showing.Happening.{stored_in}
use Rattle.world_legal.specs.world_standing.standing.Events.{decided-issued}
use Rattle.world_legal.specs.world_causes.stored.Over.{IsStoringKnown, StoringOver}
use Rattle.world_upheld.specs.stored.Clients.{IsTalkKnown}
use Rattle.world_upheld.specs.stored.Events.{all-events-keep-stored, stored-writes-stay}
use Rattle.world_upheld.specs.stored.Writing.{StoredWrite}
use Rattle.world_upheld.specs.upheld.Begins.{AreRulesInForm}
use Rattle.world_upheld.specs.upheld.Events as stands
use Rattle.world_upheld.specs.upheld.Upheld.{Grounds}
use Rattle.world_legal.specs.world_causes.outcomes.Outcomes.{Agrees}
use Rattle.world_upheld.specs.reasons.Accounted.{AccountedFor, AllEventsKeepAccounts}
use Rattle.world_upheld.specs.reasons.Knowing.{all-events-keep_known}

-- ---- what follows of all that is upheld

pub places-of_rules : (r : Rules) → AreRulesInForm r → PlacesAreRight r
places-of_rules r A = places-right r r.script.targets A.some_target A.form

module _ (r : Rules) (o : Opening) (h : History) (w : World) (k : Grounds r o h w) where
  -- the epoch that a client knows of its attempt is that of its decision: what reads at a snapshot isn't decided
  agrees : Agrees r h w
  agrees n c a f e here at known decided = by (k.heard.epochs.known n c a f here at known)
    where
      issued : IsIssued w (attempt_id (client_plan r n) c a) e
      issued = decided-issued r h w k.heard.attempts (attempt_id (client_plan r n) c a) e decided

      by : IsEpochOf r w (attempt_id (client_plan r n) c a) f → f ≡ e
      by (IsOwn own) = k.heard.epochs.one (attempt_id (client_plan r n) c a) f e own issued
      by (IsSeen named) =
          clash (is_at_snapshot r (attempt_id (client_plan r n) c a)) (ap is_some named.reads) (k.heard.epochs.own (attempt_id (client_plan r n) c a) e issued)

-- what isn't settled is of an attempt of which its target keeps an entry
open-held : (r : Rules) (top : ℕ) (stored : Stored) (w : World) → AllKeepOwn r top stored w → OpenAreHeld w
open-held r top stored w k t s v here i off = let p = (k t s here).unsettled v i off in record { entry = p.entry; found = ap (λ z. entry_in z v.by) here ∙ p.found }

-- what else holds before an event, as losses ask
beside : (r : Rules) (o : Opening) (h : History) (stored : Stored) (w : World) → AreRulesInForm r → AccountedFor r o h stored w → AllBeside r h w
beside r o h stored w A k =
    let s = k.grounds in
    record {
      attempts = s.heard.attempts;
      new = readers-new r h w s.outcomes s.heard.talk s.heard.requests;
      held = open-held r (top o) stored w k.owned;
      begun = are-begun r h w s.heard.attempts s.outcomes s.heard.talk s.heard.requests;
      lost = losses-asked r w s.heard.talk;
      asks = asks-its_targets r h w s.heard.talk s.heard.requests s.heard.stand k.grounds.heard.within s.heard.attempts (places-of_rules r A);
    }

-- ---- one event

module _ (r : Rules) (o : Opening) (h later : History) (stored : Stored) (w v : World) (A : AreRulesInForm r) (k : AccountedFor r o h stored w) (e : WorldEvent r w v)
    (grows : GrowsBy h (told_by e.happens) later) where
  grounds-then : Grounds r o later v
  grounds-then = stands.grounds-then r o h later w v A.some_attempt k.grounds e grows

  right : AskedRight r h w
  right = stands.right r o h later w v A.some_attempt k.grounds e grows

  losses-then : Losses r v
  losses-then =
      all-events-keep-losses r h w v (beside r o h stored w A k) k.refusals
      (leaders-targets r later v grounds-then.outcomes grounds-then.heard.stand (places-of_rules r A)) e k.losses

  known : IsStoringKnown r h later w e.u
  known =
      let s = k.grounds in
      record {
        asked = right;
        attempts = s.heard.attempts;
        attempts_then = stands.attempts-happened r o h later w v A.some_attempt s e grows;
        hands = hands-over r w s.heard.talk s.heard.requests;
        handed = λ x born. s.outcomes.handed x born;
        handed_then = λ x born. (stands.told r o h later w v A.some_attempt s e grows).outcomes.handed x born;
        commits_then = commits-of_clients e.u (stands.requests-happened r o h later w v A.some_attempt s e grows);
        past = λ a c i here. s.heard.epochs.past a c i here;
        own = λ l x i ends. ends-told r w s.heard.talk s.heard.requests l x (has-from_contains w.messages l i) ends;
      }

  talks : IsTalkKnown r h w
  talks =
      let s = k.grounds in
      record { some = A.some_attempt; talk = s.heard.talk; endings = s.endings; lines = s.lines; outcomes = s.outcomes; agrees = agrees r o h w s }

  stored-then : StoringOver r (stored_in r e.happens ++ stored) v
  stored-then =
      let s = k.grounds in
      all-events-keep-stored r h later stored w v e known (record { makings = s.heard.makings; makers = s.makers; stand = s.heard.stand }) talks k.write k.once

  write-then : StoredWrite r (stored_in r e.happens ++ stored)
  write-then =
      let s = k.grounds in
      stored-writes-stay r h stored w e.u
      (record {
        attempts = s.heard.attempts;
        hands = hands-over r w s.heard.talk s.heard.requests;
        stand = s.heard.stand;
        writes_then = λ t z x at i. grounds-then.writes t z x (ap (λ y. slice_get y.targets t) e.after ∙ at) i;
      }) e.happens k.write

  downs-then : DownsAreTold v
  downs-then = events-keep-downs r w v k.grounds.endings e (stands.talk-happened r o h later w v A.some_attempt k.grounds e grows) grounds-then.lives k.downs

  knows-then : DownsAreKnown v
  knows-then =
      let s = k.grounds in
      all-events-keep_known r h w v s.heard.attempts (commits-find r h w s.heard.attempts (right)) k.downs e k.knows

  -- whose versions and timestamps there are
  given : Given r o nothing_held w
  given = stands.given r o h later w v A.some_attempt k.grounds e grows

  owned-then : AllKeepOwn r (top o) (stored_in r e.happens ++ stored) v
  owned-then = all-events-keep_own r (top o) h stored w v right k.grounds.heard.attempts k.owned e

  stamped-then : StampsAreOwn r v
  stamped-then = stamps.all-events-keep_own r o nothing_held w v given e k.stamped

  pub accounted-then : AccountedFor r o later (stored_in r e.happens ++ stored) v
  accounted-then = record {
    grounds = grounds-then;
    refusals = freeze-refusals-keep r w v e k.grounds.endings k.refusals;
    losses = losses-then;
    downs = downs-then;
    knows = knows-then;
    write = write-then;
    once = stored-then;
    owned = owned-then;
    stamped = stamped-then;
  }

pub all-events-keep_accounts : AllEventsKeepAccounts
all-events-keep_accounts r o h later stored w v A k e grows = accounted-then r o h later stored w v A k e grows
