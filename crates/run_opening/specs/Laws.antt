-- What is said of openings.
use Rattle.std.specs.Prelude.{ℕ, ◌≡◌, ◌≤◌, ◌<◌, true, List, [], length, map, slice_get, Contains, Some}
use Rattle.base_types.specs.declared.id.ContId.{ContId}
use Rattle.base_types.specs.declared.script.Script.{Script}
use Rattle.daos_model.specs.declared.durable.Durable.{Durable}
use Rattle.daos_model.specs.declared.durable.Version.{Version}
use Rattle.daos_model.specs.AsOf.{empty_stand}
use Rattle.daos_model.specs.Durables.{empty_durable, is_enlisted}
use Rattle.daos_model.specs.Changes.{reopened}
use Rattle.daos_model.specs.Family.{created_snaps, greatest_lease, stand}
use Rattle.daos_model.specs.Finals.{opening_of}
use Rattle.daos_model.specs.Opening.{kept}
use Rattle.daos_model.specs.Sound.{Sound}
use Rattle.run_opening.specs.Opened.{AreFloored, AreInForm, enlisted_family, lasting_snaps, opened_family}

-- ---- what an opening leaves

-- nothing is left to settle: all versions are done, and there are no entries
pub record IsQuiet (d : Durable) : Type 0 where
  pub done : (v : Version) → Contains d.versions v → v.done ≡ true
  pub entries : d.entries ≡ []

abbrev pub OpeningsSettleAll : Type 0
OpeningsSettleAll = (s : Script) (F : List Durable) (t : ℕ) (d : Durable) → slice_get (opened_family s F) t ≡ Some d → IsQuiet d

-- it stands for what it stood for, but for the snapshots that the script drops
abbrev pub OpeningsKeepWhatStands : Type 0
OpeningsKeepWhatStands = (s : Script) (F : List Durable) → stand (opened_family s F) ≡ kept s (stand F)

-- leases stay
abbrev pub OpeningsKeepLeases : Type 0
OpeningsKeepLeases = (s : Script) (F : List Durable) → greatest_lease (opened_family s F) ≡ greatest_lease F

-- what was sound is sound after it, with each frozen snapshot at or below its floor; and what was in form is in form
abbrev pub OpeningsKeepSound : Type 0
OpeningsKeepSound = (s : Script) (F : List Durable) → Sound F → Sound (opened_family s F)

abbrev pub OpeningsKeepFloors : Type 0
OpeningsKeepFloors = (s : Script) (F : List Durable) → AreFloored F → AreFloored (opened_family s F)

abbrev pub OpeningsKeepForm : Type 0
OpeningsKeepForm = (s : Script) (F : List Durable) → AreInForm F → AreInForm (opened_family s F)

-- ---- the containers of a script

-- Containers that are enlisted first change nothing of this: what was sound is sound, with each frozen snapshot at or below its floor, what was
-- in form is where none has more than 256 then, and the opening is the same.
abbrev pub EnlistingKeepsSound : Type 0
EnlistingKeepsSound = (cs : List ContId) (F : List Durable) → Sound F → Sound (enlisted_family cs F)

abbrev pub EnlistingKeepsFloors : Type 0
EnlistingKeepsFloors = (cs : List ContId) (F : List Durable) → AreFloored F → AreFloored (enlisted_family cs F)

abbrev pub AreFew : List Durable → Type 0
AreFew F = (t : ℕ) (d : Durable) → slice_get F t ≡ Some d → length d.conts ≤ 256

abbrev pub EnlistingKeepsForm : Type 0
EnlistingKeepsForm = (cs : List ContId) (F : List Durable) → AreFew (enlisted_family cs F) → AreInForm F → AreInForm (enlisted_family cs F)

abbrev pub EnlistingKeepsOpenings : Type 0
EnlistingKeepsOpenings = (s : Script) (cs : List ContId) (F : List Durable) (free : ℕ → ℕ) → opening_of s (enlisted_family cs F) free ≡ opening_of s F free

-- and what is enlisted stays so, over the opening too
abbrev pub OpenedKnowContainers : Type 0
OpenedKnowContainers =
    (s : Script) (cs : List ContId) (F : List Durable) (t : ℕ) (d : Durable) (c : ContId) → slice_get (opened_family s (enlisted_family cs F)) t ≡ Some d → Contains cs c
    → is_enlisted d c ≡ true

-- ---- between two runs

-- what is sound stays so where each store is opened again, and target 0 holds the same snapshots as created
pub record StaysSound (F G : List Durable) : Type 0 where
  pub sound : Sound G
  pub created : created_snaps G ≡ created_snaps F

abbrev pub ReopeningKeepsSound : Type 0
ReopeningKeepsSound = (F : List Durable) → Sound F → StaysSound F (map reopened F)

-- and each frozen snapshot lies at or below its floor still
abbrev pub ReopeningKeepsFloors : Type 0
ReopeningKeepsFloors = (F : List Durable) → AreFloored F → AreFloored (map reopened F)

-- ---- targets that were never used

abbrev pub AreUnused : List Durable → Type 0
AreUnused F = (t : ℕ) (d : Durable) → slice_get F t ≡ Some d → (incarnation : ℕ) × (d ≡ empty_durable incarnation)

abbrev pub UnusedAreSound : Type 0
UnusedAreSound = (F : List Durable) → AreUnused F → Sound F

-- they hold no snapshot
abbrev pub UnusedAreFloored : Type 0
UnusedAreFloored = (F : List Durable) → AreUnused F → AreFloored F

-- the opening leaves them as they are, once containers are enlisted, and they stand for nothing
abbrev pub UnusedOpenAsTheyAre : Type 0
UnusedOpenAsTheyAre = (s : Script) (cs : List ContId) (F : List Durable) → AreUnused F → opened_family s (enlisted_family cs F) ≡ enlisted_family cs F

abbrev pub UnusedStandForNothing : Type 0
UnusedStandForNothing = (s : Script) (F : List Durable) (free : ℕ → ℕ) → AreUnused F → opening_of s F free ≡ record { stand = empty_stand; lease = 0; free = free }
