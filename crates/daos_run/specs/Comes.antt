-- What a run comes to from stores that are opened for it.
use Rattle.std.specs.Prelude.{ℕ, ◌≡◌, ◌≤◌, ◌<◌, ◌⊎◌, slice_get, List, [], length, Option, Some}
use Rattle.base_types.specs.declared.outcome.FloorWhy.TheVariants.{Opening}
use Rattle.base_types.specs.declared.report.Report.{Report}
use Rattle.base_types.specs.declared.script.Script.{Script}
use Rattle.daos_model.specs.declared.durable.Durable.{Durable}
use Rattle.daos_model.specs.Changes.{enlisted}
use Rattle.daos_model.specs.Durables.{empty_durable}
use Rattle.daos_model.specs.Opening.{Given, Outside}
use Rattle.model_reports.specs.Rooms.{HasPlaces}
use Rattle.daos_run.specs.Slots.{AreClocksIn, stores_in}
use Rattle.run_targets.specs.Ends.{ClocksGave, ComesTo, FollowsOrder, HasClock, IsOutside, StandsForAttempts, cuts_and_failures_in, memory_at_first, rules_of, declared_conts, stop_lines_of}
use Rattle.run_starts.specs.run_opening.All.{AreKept, FromTo, MayBeFound}
use Rattle.run_starts.specs.run_opening.Left.{IsLeftOf}
use Rattle.run_starts.specs.run_opening.Opened.{lasting_snaps}
use Rattle.run_targets.specs.Below.{IsServed}
use Rattle.run_starts.specs.Starts.{CanOpen, begun_family}
use Rattle.script_traits.specs.Plain.{IsPlain}
use Rattle.vos_store.specs.Calls.{State}
use Rattle.world_base.specs.declared.target.TargetState.{TargetState}
pub use Rattle.run_targets.specs.Ends.{AreIssuedThere}

-- A script makes no snapshot, or beside so many there is a place for each that it makes, each attempted as often as is allowed.
abbrev pub FindsPlaces : Script → ℕ → ℕ → Type 0
FindsPlaces s attempts snaps = IsPlain s ⊎ HasPlaces s attempts snaps

-- a store once it was opened for a run: it had calls, by which it has no fewer free blocks, and as many where it kept no entries; the floor of its last
-- opening stays
pub record IsOpenedFrom {S : Type 0} (durable : S → Option Durable) (state : S → State) (old new : S) : Type 0 where
  pub served : IsServed (state old) (state new) (durable old) (durable new)
  pub free : (state old).free ≤ (state new).free
  pub still : (d : Durable) → durable old ≡ Some d → d.entries ≡ [] → (state new).free ≡ (state old).free
  pub opening : (state new).opening ≡ (state old).opening

-- What a run comes to from these stores: what it comes to from them once they got the script's containers and were opened together. An outside
-- that may have failed them since before may have failed them since. Where no snapshot lasts over the opening, none is there when the run
-- begins. Whatever the next openings find, another run of any script may begin with it, where one might begin with these stores.
pub record ComesFrom {S : Type 0} (durable : S → Option Durable) (state : S → State) (may : S → Durable → Type 0) (g : Given) (old new : List S) (q : Report) : Type 0 where
  pub opened : List S
  pub many : length opened ≡ length old
  pub each : FromTo old opened (λ t x y. IsOpenedFrom durable state x y)
  pub kept : (B : List Durable) → AreKept durable old B → AreKept durable opened (begun_family g.script B)
  pub since : (o : Outside) → IsOutside state o old new → IsOutside state o opened new
  pub comes : ComesTo durable state may g opened new q
  pub unsnapped : (B : List Durable) → AreKept durable old B → lasting_snaps g.script B ≡ [] → g.opening.stand.snaps ≡ []
  pub sound : (B : List Durable) → AreKept durable old B → CanOpen B → (lasts : List Durable) → MayBeFound may new lasts → CanOpen lasts

-- So it comes from these stores with their clocks; and in the run that the report follows, the clock at each place gave just the readings at which its
-- target issued epochs, or found that none are left, and no others.
pub record ComesFromClocks {S C : Type 0} (durable : S → Option Durable) (state : S → State) (may : S → Durable → Type 0) (is_read : C → C → Type 0) (next_reading : C → Option ℕ) (g : Given) (old new : List (Option (S × C))) (q : Report) : Type 0 where
  pub from : ComesFrom durable state may g (stores_in old) (stores_in new) q
  pub clocks : ClocksGave is_read next_reading g q from.comes.ordered.follows (AreClocksIn old new)

-- What the next openings find, of stores that kept B, after a run that gives no report. Either its opening came to no more than a part of what an opening
-- leaves, and that stands for what B stood for; or the run broke off, and it stands for the opening, the attempts that are resolved there, and snapshots
-- that were made. Another run of any script may begin with it.
pub record BreaksOff (g : Given) (B lasts : List Durable) : Type 0 where
  pub stand : IsLeftOf g.script B lasts ⊎ StandsForAttempts (rules_of g) g.opening lasts
  pub opens : CanOpen lasts

-- A report over regions of zeros tells of the turns in the order asked, from where each target keeps the script's containers alone, with as many blocks
-- free as the opening says, was opened once, with no floor, and remembers nothing yet. Each target has the clock that was handed out for it, at whose readings it issues epochs.
-- Of each target no more turns were cut, and no more openings failed, than the script has stop lines for it: so none where it has none.
pub record FollowsFromZeros {C : Type 0} (gives : ℕ → C → Type 0) (is_read : C → C → Type 0) (next_reading : C → Option ℕ) (g : Given) (q : Report) : Type 0 where
  pub follows : FollowsOrder g q
  pub opened : (t : ℕ) (s : TargetState) → slice_get follows.first.targets t ≡ Some s → s.durable ≡ enlisted (declared_conts g.script) (empty_durable 1)
  pub free : (t : ℕ) (s : TargetState) → slice_get follows.first.targets t ≡ Some s → s.free ≡ g.opening.free t
  pub floor : (t : ℕ) (s : TargetState) → slice_get follows.first.targets t ≡ Some s → s.opening ≡ (record { 0 = 0 }, Opening)
  pub memory : (t : ℕ) (s : TargetState) → slice_get follows.first.targets t ≡ Some s → s.memory ≡ memory_at_first s.durable
  pub clocks : (t : ℕ) → t < g.script.targets → HasClock (gives t) is_read next_reading g q follows t
  pub faults : (t : ℕ) → t < g.script.targets → cuts_and_failures_in g q follows t ≤ stop_lines_of t g.script.stops
