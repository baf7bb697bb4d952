-- No epoch that a target keeps is above what its lease covers, or above what was when the run began: at each moment of any run.
use Rattle.std.specs.Prelude.{ℕ, ◌≡◌, ◌≤◌, ◌/◌, Bool, true, false, max, nat_lt, All, List, map, filter, find, Option, Some, None, refl, if◌then◌else◌}
use Rattle.std.proofs.Common.{sym, subst, arith}
use Rattle.std.proofs.lemmas.List.Elements.{All-filter}
use Rattle.base_types.specs.declared.entry.Entry.{Entry}
use Rattle.base_types.specs.declared.entry.Settle.{Settle}
use Rattle.base_types.specs.declared.entry.Settle.TheVariants.{Abort, Commit, Confirm, Forget}
use Rattle.base_types.specs.declared.epoch.Epoch.{Epoch}
use Rattle.base_types.specs.declared.id.AttemptId.{AttemptId}
use Rattle.base_types.specs.declared.id.ContId.{ContId}
use Rattle.base_types.specs.declared.operation.MinorWrite.{MinorWrite}
use Rattle.base_types.specs.declared.outcome.FloorWhy.{FloorWhy}
use Rattle.base_types.specs.declared.outcome.FloorWhy.TheVariants.{Aggregate, Snapshot}
use Rattle.base_types.specs.declared.snapshot.Snap.{Snap}
use Rattle.base_types.specs.Epochs.{restart_floor}
use Rattle.model_laws.specs.DecidedLaws.{has-all}
use Rattle.model_laws.specs.EntryLaws.{found-has}
use Rattle.daos_model.specs.declared.durable.ContRow.{ContRow}
use Rattle.daos_model.specs.declared.durable.Durable.{Durable}
use Rattle.daos_model.specs.declared.durable.Version.{Version}
use Rattle.daos_model.specs.Changes.{aggregated_to, committed_at, confirmed_at, created, created_at, frozen, leased, marked, marked_at, new_snap, prepared, pruned, raised, raised_at, reopened, settled, with_versions}
use Rattle.daos_model.specs.Durables.{entry_key, is_frozen, is_row_of, is_snap_at, row_of, row_or_new, same_attempt, snap_key}
use Rattle.daos_model.specs.Ordered.{put}
use Rattle.world_base.specs.declared.world.World.{World}
use Rattle.world_base.specs.Changes.{IsPartly, Prunes}
use Rattle.world_base.specs.Events.{Rules}
use Rattle.world_base.specs.Snapshots.{prune_limit}
use Rattle.world_base.specs.Stops.{Begins, Goes, WorldRun}
use Rattle.world_answers.specs.world_contents.gots.MoreLaws.{all-mapped}
use Rattle.world_letters.specs.snapshots.Stages.{limit-low}
use Rattle.world_upheld.specs.below.Standing.{AreAll, all-put, epochs-puts, epochs-settled}
use Rattle.world_upheld.specs.hearing.Staying.{StaysCoveredOn, events-keep_what_stays}

-- ---- the statements

-- the greatest epoch that a lease covers, or this one
abbrev pub edge_over : ℕ → ℕ → ℕ
edge_over n lease = max n (restart_floor lease)

-- neither the floor of a container, nor up to where it was aggregated, is above an epoch
pub record IsRowWithin (edge : ℕ) (row : ContRow) : Type 0 where
  pub floor : row.floor.0 ≤ edge
  pub aggregated : row.aggregated.0 ≤ edge

-- no epoch that a target keeps is above what its lease covers, or above this one
pub record IsWithin (n : ℕ) (d : Durable) : Type 0 where
  pub versions : All (λ v. v.epoch.0 ≤ edge_over n d.lease) d.versions
  pub entries : All (λ e. e.epoch.0 ≤ edge_over n d.lease) d.entries
  pub rows : All (IsRowWithin (edge_over n d.lease)) d.conts
  pub snaps : All (λ s. s.epoch.0 ≤ edge_over n d.lease) d.snaps

-- so it is at each moment of a run, where it was at its beginning
abbrev pub AllRunsStayWithin : Type 0
AllRunsStayWithin = (n : ℕ) (r : Rules) (w v : World) → AreAll (IsWithin n) w → WorldRun r w v → AreAll (IsWithin n) v

-- ---- plain lemmas

edge-rises : (x n low high : ℕ) → low ≤ high → x ≤ edge_over n low → x ≤ edge_over n high
edge-rises x n low high up le = omega (arith, up, le)

edge-covers : (x n lease : ℕ) → x / 256 ≤ lease → x ≤ edge_over n lease
edge-covers x n lease low = let within : x ≤ restart_floor lease = omega (arith, low) in omega (arith, within)

within-limit : (x y n lease : ℕ) → x ≤ y → y / 256 ≤ lease → x ≤ edge_over n lease
within-limit x y n lease le low = let within : y ≤ restart_floor lease = omega (arith, low) in omega (arith, within, le)

-- one of two that are as late
either-of : (n : ℕ) (b : Bool) (e f : Entry) → e.epoch.0 ≤ n → f.epoch.0 ≤ n → (if b then e else f).epoch.0 ≤ n
either-of n true e f low also = low
either-of n false e f low also = also

-- ---- rows

raised-within : (edge : ℕ) (e : Epoch) (why : FloorWhy) (row : ContRow) → e.0 ≤ edge → IsRowWithin edge row → IsRowWithin edge (raised e why row)
raised-within edge e why row low k = by (nat_lt row.floor.0 e.0)
  where
    by : (b : Bool) → IsRowWithin edge (if b then record row { floor = e; why = why } else row)
    by true = record { floor = low; aggregated = k.aggregated }
    by false = k

raised-at_within : (edge : ℕ) (c : ContId) (e : Epoch) (why : FloorWhy) (row : ContRow) → e.0 ≤ edge → IsRowWithin edge row → IsRowWithin edge (raised_at c e why row)
raised-at_within edge c e why row low k = by (is_row_of c row)
  where
    by : (b : Bool) → IsRowWithin edge (if b then raised e why row else row)
    by true = raised-within edge e why row low k
    by false = k

aggregated-within : (edge : ℕ) (upto : Epoch) (n : ℕ) (row : ContRow) → upto.0 ≤ edge → IsRowWithin edge row → IsRowWithin edge (aggregated_to upto n row)
aggregated-within edge upto n row low k = by (nat_lt row.aggregated.0 upto.0)
  where
    by : (b : Bool) → IsRowWithin edge (if b then record row { aggregated = upto; number = n } else row)
    by true = record { floor = k.floor; aggregated = low }
    by false = k

marked-within : (edge : ℕ) (c : ContId) (upto : Epoch) (n : ℕ) (row : ContRow) → upto.0 ≤ edge → IsRowWithin edge row → IsRowWithin edge (marked_at c upto n row)
marked-within edge c upto n row low k = by (is_row_of c row)
  where
    by : (b : Bool) → IsRowWithin edge (if b then raised upto (Aggregate n) (aggregated_to upto n row) else row)
    by true = raised-within edge upto (Aggregate n) (aggregated_to upto n row) low (aggregated-within edge upto n row low k)
    by false = k

-- what is kept of each container is so
pub row-within : (n : ℕ) (d : Durable) (cont : ContId) → IsWithin n d → IsRowWithin (edge_over n d.lease) (row_of d cont)
unfolding row_of
row-within n d cont k = by (find (is_row_of cont) d.conts) refl
  where
    by : (o : Option ContRow) → find (is_row_of cont) d.conts ≡ o → IsRowWithin (edge_over n d.lease) (row_or_new cont o)
    by None none = record { floor = omega arith; aggregated = omega arith }
    by (Some row) found = has-all (IsRowWithin (edge_over n d.lease)) d.conts row k.rows (found-has (is_row_of cont) d.conts row found)

-- ---- changes

module _ (n : ℕ) where
  extends : (lease : ℕ) (d : Durable) → d.lease ≤ lease → IsWithin n d → IsWithin n (leased lease d)
  unfolding leased
  extends lease d up k = record {
    versions = λ i x lt. edge-rises _ n d.lease lease up (k.versions i x lt);
    entries = λ i x lt. edge-rises _ n d.lease lease up (k.entries i x lt);
    rows = λ i x lt. (let z = k.rows i x lt in record { floor = edge-rises _ n d.lease lease up z.floor; aggregated = edge-rises _ n d.lease lease up z.aggregated });
    snaps = λ i x lt. edge-rises _ n d.lease lease up (k.snaps i x lt);
  }

  stores : (e : Entry) (ws : List MinorWrite) (d : Durable) → e.epoch.0 / 256 ≤ d.lease → IsWithin n d → IsWithin n (prepared e ws d)
  unfolding prepared
  stores e ws d low k = record {
    versions = epochs-puts (λ x. x ≤ edge_over n d.lease) e ws d.versions (edge-covers e.epoch.0 n d.lease low) k.versions;
    entries = all-put (λ f. f.epoch.0 ≤ edge_over n d.lease) entry_key e d.entries (edge-covers e.epoch.0 n d.lease low) k.entries;
    rows = k.rows;
    snaps = k.snaps;
  }

  settles : (a : AttemptId) (step : Settle) (d : Durable) → IsWithin n d → IsWithin n (settled a step d)
  unfolding settled
  settles a Commit d k = record {
    versions = epochs-settled (λ x. x ≤ edge_over n d.lease) a Commit d k.versions;
    entries = all-mapped (λ f. f.epoch.0 ≤ edge_over n d.lease) (λ f. f.epoch.0 ≤ edge_over n d.lease) (committed_at a) d.entries
        (λ f low. either-of (edge_over n d.lease) (same_attempt f.attempt a) (record f { committed = true }) f low low) k.entries;
    rows = k.rows;
    snaps = k.snaps;
  }
  settles a Abort d k = record {
    versions = epochs-settled (λ x. x ≤ edge_over n d.lease) a Abort d k.versions;
    entries = All-filter _ (λ f. f.epoch.0 ≤ edge_over n d.lease) d.entries k.entries;
    rows = k.rows;
    snaps = k.snaps;
  }
  settles a (Confirm t) d k = record {
    versions = k.versions;
    entries = all-mapped (λ f. f.epoch.0 ≤ edge_over n d.lease) (λ f. f.epoch.0 ≤ edge_over n d.lease) (confirmed_at a t) d.entries
        (λ f low. either-of (edge_over n d.lease) (same_attempt f.attempt a) _ f low low) k.entries;
    rows = k.rows;
    snaps = k.snaps;
  }
  settles a Forget d k = record {
    versions = k.versions;
    entries = All-filter _ (λ f. f.epoch.0 ≤ edge_over n d.lease) d.entries k.entries;
    rows = k.rows;
    snaps = k.snaps;
  }

  opens : (d : Durable) → IsWithin n d → IsWithin n (reopened d)
  unfolding reopened
  opens d k = record { versions = k.versions; entries = k.entries; rows = k.rows; snaps = k.snaps }

  freezes : (c : ContId) (s : Epoch) (d : Durable) → s.0 / 256 ≤ d.lease → IsWithin n d → IsWithin n (frozen c s d)
  unfolding frozen
  freezes c s d low k = by (is_frozen d c s)
    where
      within : s.0 ≤ edge_over n d.lease
      within = edge-covers s.0 n d.lease low

      by : (b : Bool) → IsWithin n (if b then d else record d { conts = map (raised_at c s (Snapshot s)) d.conts; snaps = put snap_key (new_snap c s) d.snaps })
      by true = k
      by false = record {
        versions = k.versions;
        entries = k.entries;
        rows = all-mapped (IsRowWithin (edge_over n d.lease)) (IsRowWithin (edge_over n d.lease)) (raised_at c s (Snapshot s)) d.conts
            (λ row z. raised-at_within (edge_over n d.lease) c s (Snapshot s) row within z) k.rows;
        snaps = all-put (λ x. x.epoch.0 ≤ edge_over n d.lease) snap_key (new_snap c s) d.snaps within k.snaps;
      }

  creates : (c : ContId) (s : Epoch) (d : Durable) → IsWithin n d → IsWithin n (created c s d)
  unfolding created
  creates c s d k = record {
    versions = k.versions;
    entries = k.entries;
    rows = k.rows;
    snaps = all-mapped (λ x. x.epoch.0 ≤ edge_over n d.lease) (λ x. x.epoch.0 ≤ edge_over n d.lease) (created_at c s) d.snaps
        (λ x low. still x low (is_snap_at c s x)) k.snaps;
  }
    where
      still : (x : Snap) → x.epoch.0 ≤ edge_over n d.lease → (b : Bool) → (if b then record x { created = true } else x).epoch.0 ≤ edge_over n d.lease
      still x low true = low
      still x low false = low

  -- a prune, whole or in part
  some-go : (stays : Version → Bool) (c : ContId) (upto : Epoch) (m : ℕ) (d : Durable) → upto.0 ≤ edge_over n d.lease → IsWithin n d → IsWithin n (with_versions (filter stays d.versions) (marked c upto m d))
  unfolding with_versions marked
  some-go stays c upto m d low k = record {
    versions = All-filter stays (λ v. v.epoch.0 ≤ edge_over n d.lease) d.versions k.versions;
    entries = k.entries;
    rows = all-mapped (IsRowWithin (edge_over n d.lease)) (IsRowWithin (edge_over n d.lease)) (marked_at c upto m) d.conts (λ row z. marked-within (edge_over n d.lease) c upto m row low z) k.rows;
    snaps = k.snaps;
  }

  prunes : (c : ContId) (upto : Epoch) (m : ℕ) (d : Durable) → upto.0 ≤ edge_over n d.lease → IsWithin n d → IsWithin n (pruned c upto m d)
  unfolding pruned
  prunes c upto m d low k = some-go _ c upto m d low k

  parts : (c : ContId) (upto : Epoch) (m : ℕ) (d x : Durable) → upto.0 ≤ edge_over n d.lease → IsPartly (Prunes c upto m) d x → IsWithin n d → IsWithin n x
  parts c upto m d x low (vs, part, is) k =
      subst (IsWithin n) (sym is) (subst (λ ws. IsWithin n (with_versions ws (marked c upto m d))) (sym part.left) (some-go part.stays c upto m d low k))

  stays-within : StaysCoveredOn (IsWithin n)
  stays-within = record {
    plainly = record { extends = extends; stores = stores; settles = settles; opens = opens };
    freezes = freezes;
    creates = creates;
    prunes = λ c g m d low due k. prunes c (prune_limit c g d) m d (within-limit (prune_limit c g d).0 g.0 n d.lease (limit-low c g d) low) k;
    parts = λ c g m d x low due part k. parts c (prune_limit c g d) m d x (within-limit (prune_limit c g d).0 g.0 n d.lease (limit-low c g d) low) part k;
  }

-- ---- runs

pub all-runs-stay_within : AllRunsStayWithin
all-runs-stay_within n r w v all Begins = all
all-runs-stay_within n r w v all (Goes u x run e) = events-keep_what_stays (IsWithin n) (stays-within n) r u v e (all-runs-stay_within n r w u all run)
