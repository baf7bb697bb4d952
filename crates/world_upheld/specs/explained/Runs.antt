-- A run begins so that outcomes show their causes, and it is so at each moment.
use Rattle.std.specs.Prelude.{ℕ, ◌≡◌, ◌≤◌, ◌+◌, ◌*◌, ◌/◌, Bool, true, false, nat_lt, slice_get, Some, if◌then◌else◌}
use Rattle.std.proofs.Common.{sym, ◌∙◌, ap, subst, arith}
use Rattle.base_types.specs.declared.id.ContId.{ContId}
use Rattle.daos_model.specs.Durables.{row_of}
use Rattle.daos_model.specs.Opening.{Opening, top}
use Rattle.vos_store.specs.Answers.{floor_of}
use Rattle.world_legal.specs.world_commit.asks.Entries.{mapped}
use Rattle.world_base.specs.declared.client.ClientState.{ClientState}
use Rattle.world_base.specs.declared.target.TargetState.{TargetState}
use Rattle.world_base.specs.declared.world.World.{World}
use Rattle.world_base.specs.Events.{Rules}
use Rattle.world_base.specs.Stops.{Begins, Goes}
use Rattle.world_upheld.specs.causing.Begin.{refusals-and_places_begin, IsBegun}
use Rattle.world_upheld.specs.causing.OverDates.{causes-over_dates_begin, later-reads_issued}
use Rattle.world_legal.specs.reasons.Accounted.{stored_over}
use Rattle.world_upheld.specs.upheld.Begins.{RunBeginsWell, client_begins, held_at, no_history}
use Rattle.world_upheld.specs.upheld.BeginVersions.{begins-well}
use Rattle.world_upheld.specs.upheld.Events.{grows-with, later-with}
use Rattle.world_legal.specs.world_commit.statuses.Events.{told_by}
use Rattle.world_upheld.specs.upheld.Runs.{contents-begin, held-first}
use Rattle.world_upheld.specs.reasons.Reasons.{reasons-begin}
use Rattle.world_legal.specs.closing.Kept.{get-map}
use Rattle.world_upheld.specs.explained.Explanations.{AllRunsNameIssuedReads, AllRunsShowCauses, RunsAreExplained, RunsBeginWithExplanations, RunsHaveExplanations}
use Rattle.world_upheld.specs.explained.Events.{all-events-explain, all-events-keep_explanations}

-- ---- the beginning

epoch-low : (lease : ℕ) → (lease * 256 + 255) / 256 ≤ lease
epoch-low lease = omega arith

module _ (r : Rules) (o : Opening) (w : World) (B : RunBeginsWell r o w) where
  -- clients' trackers cover all epochs of the opening, and no more
  tracker-is : (n : ℕ) (c : ClientState) → slice_get w.clients n ≡ Some c → c.tracker.0 ≡ top o
  tracker-is n c here =
      let x = mapped (client_begins r o w) (slice_get r.script.clients n) c
      (sym (get-map (client_begins r o w) r.script.clients n) ∙ ap (λ cs. slice_get cs n) (sym B.clients) ∙ here) in
      sym (ap (λ z. z.tracker.0) x.2)

  floor-low : (t : ℕ) (s : TargetState) (c : ContId) → slice_get w.targets t ≡ Some s → (floor_of s.opening s.durable c).0.0 ≤ top o
  unfolding floor_of
  floor-low t s c here = by (nat_lt s.opening.0.0 (row_of s.durable c).floor.0)
    where
      by : (b : Bool) → (if b then ((row_of s.durable c).floor, (row_of s.durable c).why) else s.opening).0.0 ≤ top o
      by true = ((B.starts t s here).keeps.floors c).0
      by false = (B.starts t s here).floor

  begun : IsBegun o w
  begun = record {
    messages = B.messages;
    issued = B.issued;
    lines = B.lines;
    parked = λ t s here. ap (λ m. m.parked) (B.starts t s here).member;
    space = λ t s here. (B.starts t s here).free;
    ticks = λ t s here. (B.starts t s here).ticks;
    trackers = λ n c here. subst (λ e. e / 256 ≤ o.lease) (sym (tracker-is n c here)) (epoch-low o.lease);
    floors = λ t s c here. (floor-low t s c here, ((B.starts t s here).keeps.floors c).1);
    leases = λ t s here. (B.starts t s here).keeps.lease;
  }

pub explanations-begin : RunsBeginWithExplanations
explanations-begin r o w A B few =
    record { reasons = reasons-begin r o w A B; causes = λ late low. causes-over_dates_begin r o late w (begun r o w B); places = (refusals-and_places_begin r o w B.messages few).1 }

-- ---- runs

pub runs-have_explanations : RunsHaveExplanations
runs-have_explanations r o w v A B few Begins = (no_history, explanations-begin r o w A B few)
runs-have_explanations r o w v A B few (Goes u x run e) =
    let k = runs-have_explanations r o w u A B few run in
    (later-with k.0 (told_by e.happens), all-events-keep_explanations r o k.0 (later-with k.0 (told_by e.happens)) (stored_over r run) u v A k.1 e (grows-with k.0 (told_by e.happens)))

pub all-runs-show : AllRunsShowCauses
all-runs-show r o w v A B few run = (runs-have_explanations r o w v A B few run).1.causes

pub all-runs-name_issued : AllRunsNameIssuedReads
all-runs-name_issued r o w v A B few run before a after by epoch path among is =
    let k = (runs-have_explanations r o w v A B few run).1 in
    later-reads_issued r o (stored_over r run) v k.reasons.accounted.grounds.heard.epochs (k.causes 0 (omega arith)) (k.causes 1 (omega arith)) before a after by epoch path among is

-- ---- runs that stand for the opening

pub runs-are_explained : RunsAreExplained
runs-are_explained r o w v A B few Begins = (no_history, record { explanations = explanations-begin r o w A (begins-well r o w B) few; contents = contents-begin r o w A B })
runs-are_explained r o w v A B few (Goes u x run e) =
    let k = runs-are_explained r o w u A B few run in
    let s = all-events-explain r o (held_at w) k.0 (stored_over r run) u v A (held-first r o w A B) k.1 e in
    (s.later, s.explained)
