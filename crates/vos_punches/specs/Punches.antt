-- The punches of versions, by where and when they were made.
use Rattle.std.specs.Prelude.{◌≡◌, ◌&&◌, All, Bool, true, false, nat_lt, List, Option, Some, None, if◌then◌else◌}
use Rattle.std.specs.List.{list_any}
use Rattle.base_types.specs.declared.epoch.Epoch.{Epoch}
use Rattle.base_types.specs.declared.path.Level.TheVariants.{Obj, Dkey}
use Rattle.base_types.specs.declared.path.Path.{Path}
use Rattle.base_types.specs.Paths.{cut_at, leads_to, same_path}
use Rattle.daos_model.specs.declared.durable.Version.{Version}
use Rattle.daos_model.specs.Prunes.{is_punch}
use Rattle.daos_model.specs.Versions.{version_path}
use Rattle.vos_levels.specs.vos_values.declared.keys.Moment.{Moment}
use Rattle.vos_levels.specs.Moments.{is_earlier, same_moment}
use Rattle.vos_punches.specs.Moments.{AreInOrder, has_moment, last_below, later_moment, with_moment, without_moment}

-- for each path the moments of its punches, in order
abbrev pub PunchesAt : Type 0
PunchesAt = Path → List Moment

abbrev pub moment_of : Version → Moment
moment_of v = record { epoch = v.epoch; minor = v.minor }

-- a version is a punch of a path, made at a moment
abbrev pub is_punch_of : Path → Moment → Version → Bool
is_punch_of p m v = is_punch v.write && (same_path (version_path v) p && same_moment (moment_of v) m)

-- These are the punches of some versions: at a path stands a moment exactly where one of them is a punch of the path, made then.
pub record ArePunchesOf (vs : List Version) (f : PunchesAt) : Type 0 where
  pub order : (p : Path) → AreInOrder (f p)
  pub exact : (p : Path) (m : Moment) → has_moment m (f p) ≡ list_any (is_punch_of p m) vs

-- the last punch below an epoch that covers a path: of its object, its dkey or the path itself
abbrev pub covering : Epoch → Path → PunchesAt → Option Moment
covering e p f = later_moment (last_below e (f (cut_at Obj p))) (later_moment (last_below e (f (cut_at Dkey p))) (last_below e (f p)))

-- a version is a punch below an epoch that covers a path: one of the path itself, or of what the path lies under
abbrev pub covers : Epoch → Path → Version → Bool
covers e p v = is_punch v.write && (nat_lt v.epoch.0 e.0 && leads_to (version_path v) p)

-- Of the versions that pass a test one was made at a moment, and none later.
pub record IsLast (test : Version → Bool) (m : Moment) (vs : List Version) : Type 0 where
  pub there : list_any (λ v. test v && same_moment (moment_of v) m) vs ≡ true
  pub last : All (λ v. test v ≡ true → is_earlier m (moment_of v) ≡ false) vs

-- the last punch of the versions that covers a path below an epoch was made at this moment, or there is none
abbrev pub IsLastOver : Option Moment → Epoch → Path → List Version → Type 0
IsLastOver None e p vs = list_any (covers e p) vs ≡ false
IsLastOver (Some m) e p vs = IsLast (covers e p) m vs

-- ---- changes

-- a version, once it is done
abbrev pub made_done : Version → Version
made_done v = record { epoch = v.epoch; minor = v.minor; by = v.by; done = true; write = v.write }

abbrev pub IsSame : PunchesAt → PunchesAt → Type 0
IsSame f g = (p : Path) → g p ≡ f p

-- a punch more at one path, or one less; at all others nothing changed
abbrev pub IsAdded : PunchesAt → PunchesAt → Path → Moment → Type 0
IsAdded f g p m = (q : Path) → g q ≡ (if same_path p q then with_moment m (f q) else f q)

abbrev pub IsRemoved : PunchesAt → PunchesAt → Path → Moment → Type 0
IsRemoved f g p m = (q : Path) → g q ≡ (if same_path p q then without_moment m (f q) else f q)
