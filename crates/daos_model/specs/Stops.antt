-- How stops, restarts and the giving up of targets go with one another.
use Rattle.std.specs.Prelude.{ℕ, ◌+◌, ◌≡◌, ◌≤◌, ◌<◌, nat_eq, ◌==◌, Bool, true, false, List, [], ◌∷◌, ◌++◌, Option, Some, None, Contains, All, length, filter, min, ◌⊎◌}
use Rattle.std.specs.List.{IsDistinct}
use Rattle.std.specs.List.Sorted.{IsNonDecreasing, IsStrictlyIncreasing}
use Rattle.base_types.specs.declared.report.Line.{Line}
use Rattle.base_types.specs.declared.report.Line.TheVariants as line
use Rattle.base_types.specs.declared.report.Report.{Report}
use Rattle.base_types.specs.declared.script.Script.{Script}
use Rattle.base_types.specs.declared.script.StopDecl.{StopDecl}
use Rattle.daos_model.specs.Opening.{Outside}

-- the target that a line tells of
abbrev pub target_of : Line → Option ℕ
target_of (line.Try a) = None
target_of (line.Stop number target) = Some target
target_of (line.Restart number target incarnation floor) = Some target
target_of (line.Freeze target cont epoch) = Some target
target_of (line.Snapshot name cont epoch) = None
target_of (line.Aggregate number target cont upto) = Some target
target_of (line.Down target) = Some target

abbrev pub is_number : ℕ → Option ℕ → Bool
is_number n None = false
is_number n (Some m) = m == n

abbrev pub is_at : ℕ → Line → Bool
is_at t l = is_number t (target_of l)

-- the lines of a target, in their order
abbrev pub lines_at : ℕ → List Line → List Line
lines_at t lines = filter (is_at t) lines

abbrev pub IsBelowSome : ℕ → Option ℕ → Type 0
IsBelowSome n None = Unit {0}
IsBelowSome n (Some m) = m < n

-- a line tells of one of so many targets, or of none
abbrev pub HasTarget : ℕ → Line → Type 0
HasTarget targets l = IsBelowSome targets (target_of l)

-- whether a target runs, is stopped, or is given up
pub data Standing : Type 0 where
  Running : Standing
  Stopped : Standing
  Down : Standing

-- how a target stands after a line of its own, and that this line may come then: a running target freezes, aggregates or stops;
-- a stopped one opens again or is given up; of one that is given up no more is told
abbrev pub after : Standing → Line → Option Standing
after Running (line.Try a) = None
after Running (line.Stop number target) = Some Stopped
after Running (line.Restart number target incarnation floor) = None
after Running (line.Freeze target cont epoch) = Some Running
after Running (line.Snapshot name cont epoch) = None
after Running (line.Aggregate number target cont upto) = Some Running
after Running (line.Down target) = None
after Stopped (line.Try a) = None
after Stopped (line.Stop number target) = None
after Stopped (line.Restart number target incarnation floor) = Some Running
after Stopped (line.Freeze target cont epoch) = None
after Stopped (line.Snapshot name cont epoch) = None
after Stopped (line.Aggregate number target cont upto) = None
after Stopped (line.Down target) = Some Down
after Down l = None

abbrev pub after_all : Option Standing → List Line → Option Standing
after_all None ls = None
after_all (Some standing) [] = Some standing
after_all (Some standing) (l ∷ ls) = after_all (after standing l) ls

abbrev pub stopped_number : Line → List ℕ
stopped_number (line.Try a) = []
stopped_number (line.Stop number target) = number ∷ []
stopped_number (line.Restart number target incarnation floor) = []
stopped_number (line.Freeze target cont epoch) = []
stopped_number (line.Snapshot name cont epoch) = []
stopped_number (line.Aggregate number target cont upto) = []
stopped_number (line.Down target) = []

-- the numbers of the stops
abbrev pub stop_numbers : List Line → List ℕ
stop_numbers [] = []
stop_numbers (l ∷ ls) = stopped_number l ++ stop_numbers ls

abbrev pub restarted_number : Line → List ℕ
restarted_number (line.Try a) = []
restarted_number (line.Stop number target) = []
restarted_number (line.Restart number target incarnation floor) = number ∷ []
restarted_number (line.Freeze target cont epoch) = []
restarted_number (line.Snapshot name cont epoch) = []
restarted_number (line.Aggregate number target cont upto) = []
restarted_number (line.Down target) = []

-- the numbers of the restarts
abbrev pub restart_numbers : List Line → List ℕ
restart_numbers [] = []
restart_numbers (l ∷ ls) = restarted_number l ++ restart_numbers ls

abbrev pub aggregated_number : Line → List ℕ
aggregated_number (line.Try a) = []
aggregated_number (line.Stop number target) = []
aggregated_number (line.Restart number target incarnation floor) = []
aggregated_number (line.Freeze target cont epoch) = []
aggregated_number (line.Snapshot name cont epoch) = []
aggregated_number (line.Aggregate number target cont upto) = number ∷ []
aggregated_number (line.Down target) = []

-- the numbers of the aggregations
abbrev pub aggregate_numbers : List Line → List ℕ
aggregate_numbers [] = []
aggregate_numbers (l ∷ ls) = aggregated_number l ++ aggregate_numbers ls

abbrev pub opened_incarnation : Line → List ℕ
opened_incarnation (line.Try a) = []
opened_incarnation (line.Stop number target) = []
opened_incarnation (line.Restart number target incarnation floor) = incarnation ∷ []
opened_incarnation (line.Freeze target cont epoch) = []
opened_incarnation (line.Snapshot name cont epoch) = []
opened_incarnation (line.Aggregate number target cont upto) = []
opened_incarnation (line.Down target) = []

abbrev pub incarnations : List Line → List ℕ
incarnations [] = []
incarnations (l ∷ ls) = opened_incarnation l ++ incarnations ls

abbrev pub opened_floor : Line → List ℕ
opened_floor (line.Try a) = []
opened_floor (line.Stop number target) = []
opened_floor (line.Restart number target incarnation floor) = floor.0 ∷ []
opened_floor (line.Freeze target cont epoch) = []
opened_floor (line.Snapshot name cont epoch) = []
opened_floor (line.Aggregate number target cont upto) = []
opened_floor (line.Down target) = []

abbrev pub floors : List Line → List ℕ
floors [] = []
floors (l ∷ ls) = opened_floor l ++ floors ls

abbrev pub given_up : Line → List ℕ
given_up (line.Try a) = []
given_up (line.Stop number target) = []
given_up (line.Restart number target incarnation floor) = []
given_up (line.Freeze target cont epoch) = []
given_up (line.Snapshot name cont epoch) = []
given_up (line.Aggregate number target cont upto) = []
given_up (line.Down target) = target ∷ []

-- the targets that were given up
abbrev pub down_targets : List Line → List ℕ
down_targets [] = []
down_targets (l ∷ ls) = given_up l ++ down_targets ls

abbrev pub least_with : ℕ → Option ℕ → Option ℕ
least_with n None = Some n
least_with n (Some m) = Some (min n m)

-- the least of numbers, if there is one
abbrev pub least : List ℕ → Option ℕ
least [] = None
least (n ∷ ns) = least_with n (least ns)

abbrev pub is_stop_at : ℕ → StopDecl → Bool
is_stop_at t d = d.target == t

-- so many stops are no more than the script asks for and the outside caused together; where the outside's count stands at its
-- end nothing is said
abbrev pub AtMostWith : ℕ → ℕ → Option ℕ → Type 0
AtMostWith n m None = Unit {0}
AtMostWith n m (Some k) = n ≤ m + k

-- a target is given up where the outside failed it nine times or more, or where it read foreign bytes of a region that didn't keep
-- what was written
abbrev pub IsGivenUpBy : Option ℕ → Bool → Bool → Type 0
IsGivenUpBy None foreign keeps = Unit {0}
IsGivenUpBy (Some k) foreign keeps = (9 ≤ k) ⊎ ((foreign ≡ true) × (keeps ≡ false))

-- of one target: no line comes at a wrong time, and it ends running or given up; incarnations rise, floors don't fall; stops and
-- giving up have their causes
pub record StopsLegalAt (s : Script) (o : Outside) (lines : List Line) (t : ℕ) : Type 0 where
  pub alternate : (after_all (Some Running) (lines_at t lines) ≡ Some Running) ⊎ (after_all (Some Running) (lines_at t lines) ≡ Some Down)
  pub rising : IsStrictlyIncreasing (incarnations (lines_at t lines))
  pub kept : IsNonDecreasing (floors (lines_at t lines))
  pub caused : AtMostWith (length (stop_numbers (lines_at t lines))) (length (filter (is_stop_at t) s.stops)) (o.rises t)
  pub down : Contains (down_targets lines) t → IsGivenUpBy (o.rises t) (o.foreign t) (o.keeps t)

-- the numbers from n on, one after another
abbrev pub AreCounted : ℕ → List ℕ → Type 0
AreCounted n [] = Unit {0}
AreCounted n (m ∷ ms) = (m ≡ n) × AreCounted (n + 1) ms

-- restarts and aggregations have numbers of their own; where turns are taken in a stated order these are counted by the lines
pub record AreNumbered (threads : Bool) (numbers : List ℕ) : Type 0 where
  pub distinct : IsDistinct nat_eq numbers
  pub counted : threads ≡ false → AreCounted 0 numbers

pub record StopsLegal (s : Script) (threads : Bool) (o : Outside) (q : Report) : Type 0 where
  pub bounded : All (HasTarget s.targets) q.lines
  pub stops : AreCounted 0 (stop_numbers q.lines)
  pub restarts : AreNumbered threads (restart_numbers q.lines)
  pub aggregations : AreNumbered threads (aggregate_numbers q.lines)
  pub targets : (t : ℕ) → StopsLegalAt s o q.lines t
  pub down : q.down ≡ least (down_targets q.lines)
