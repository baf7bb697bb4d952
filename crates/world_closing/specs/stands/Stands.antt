-- What the targets stand for at each moment of any run, and in its end: now, at the snapshots of earlier runs, and at its own.
use Rattle.std.specs.Prelude.{ℕ, ◌≡◌, ◌⊎◌, ◌<◌, ◌≤◌, ◌^◌, All, List, Contains, map, slice_get, Some}
use Rattle.base_types.specs.declared.epoch.Epoch.{Epoch}
use Rattle.base_types.specs.declared.id.AttemptId.{AttemptId}
use Rattle.base_types.specs.declared.snapshot.Snap.{Snap}
use Rattle.model_laws.specs.Decided.{AreDecided, Decided, taken_in}
use Rattle.model_laws.specs.FamilyLaws.{HasNoneUnowned}
use Rattle.daos_model.specs.declared.stand.SnapMap.{SnapMap}
use Rattle.daos_model.specs.AsOf.{as_of}
use Rattle.daos_model.specs.Attempts.{tries}
use Rattle.daos_model.specs.Durables.{row_of}
use Rattle.daos_model.specs.Family.{Agree, part_of, stand}
use Rattle.daos_model.specs.Finals.{IsKeptIn, SameMap, StandInTheEnd}
use Rattle.daos_model.specs.Opening.{Given, Opening, kept_map, top}
use Rattle.daos_model.specs.Sound.{Sound}
use Rattle.world_commit.specs.attempts.History.{History}
use Rattle.world_base.specs.declared.target.TargetState.{TargetState}
use Rattle.world_base.specs.declared.world.World.{World}
use Rattle.world_base.specs.Ended.{HasEnded}
use Rattle.world_base.specs.Events.{Rules}
use Rattle.world_base.specs.Stops.{WorldRun}
use Rattle.world_answers.specs.world_causes.causes.LastCauses.{ids}
use Rattle.world_answers.specs.world_causes.causes.Storing.{AreApart}
use Rattle.world_answers.specs.world_contents.reads.Transactions.{decided_of}
use Rattle.world_answers.specs.world_making.freezings.Freezings.{IsCreatedFirst, IsOfSnap}
use Rattle.world_upheld.specs.below.Legal.{durables_of}
use Rattle.world_closing.specs.Rules.{rules_of}
use Rattle.world_upheld.specs.below.Legal.{Concluded, IsResolved, report_over}
use Rattle.world_upheld.specs.upheld.Begins.{AreRulesInForm, RunBeginsWith, held_at}
use Rattle.world_closing.specs.stands.Containers.{IsMapIn}

-- ---- the beginning

-- a snapshot of which the opening keeps this map: target 0 holds it as created, its name finds this map among those that are kept, and that holds
-- nothing outside its container, nor at cells that no target may hold
pub record IsHeldFirst (o : Opening) (w : World) (k : SnapMap) : Type 0 where
  pub created : IsCreatedFirst w k.cont k.epoch
  pub once : kept_map k.cont k.epoch.0 o.stand.snaps ≡ Some k.map
  pub map : IsMapIn k.cont k.map

-- What targets hold when a run begins is all that the opening stands for: that is nothing at cells that no target may hold, and each of its
-- snapshots is held. Its lease is one that a region holds.
pub record HoldsOpenings (o : Opening) (w : World) : Type 0 where
  pub unowned : HasNoneUnowned o.stand.now
  pub lease : o.lease < 2 ^ 56
  pub snaps : (k : SnapMap) → Contains o.stand.snaps k → IsHeldFirst o w k

-- ---- at each moment

-- a snapshot of this run: its epoch is above the opening and was issued to an attempt that makes a snapshot of its container, and its map is the
-- container's part of the opening and the transactions below it
pub record IsMadeHere (r : Rules) (o : Opening) (v : World) (all : List Decided) (k : SnapMap) : Type 0 where
  pub above : top o < k.epoch.0
  pub made : IsOfSnap r v.issued k.cont k.epoch
  pub map : SameMap k.map (part_of k.cont (as_of o.stand (taken_in all) k.epoch.0))

-- What targets keep stands for the opening and, one by one in the order of their epochs, for just these attempts, which are those that are resolved
-- there: no two of them have one epoch, and each one's lies above the opening. It stands for the snapshots of the opening, with the same maps, and
-- else for snapshots of this run alone. Replicas agree, now and at each of these.
pub record StandsForAll (r : Rules) (o : Opening) (v : World) : Type 0 where
  pub attempts : List (AttemptId × Epoch)
  pub only : (x : AttemptId) (e : Epoch) → Contains attempts (x, e) → IsResolved v x × (top o < e.0)
  pub all : (x : AttemptId) → IsResolved v x → (e : Epoch) × Contains attempts (x, e)
  pub apart : AreDecided (map (decided_of r.script) attempts)
  pub now : SameMap (stand (durables_of v)).now (as_of o.stand (taken_in (map (decided_of r.script) attempts)) (2 ^ 64))
  pub old : All (IsKeptIn (stand (durables_of v)).snaps) o.stand.snaps
  pub snaps : All (λ k. IsKeptIn o.stand.snaps k ⊎ IsMadeHere r o v (map (decided_of r.script) attempts) k) (stand (durables_of v)).snaps
  pub agree : Agree (durables_of v)

-- ---- the statements

-- So it is at each moment of a run that begins so, of the targets that are stopped or were given up too.
abbrev pub AllRunsStandForResolved : Type 0
AllRunsStandForResolved = (r : Rules) (o : Opening) (w v : World) → AreRulesInForm r → RunBeginsWith r o w → HoldsOpenings o w → WorldRun r w v → StandsForAll r o v

-- And it is sound where it was sound when the run began.
abbrev pub AllRunsKeepSound : Type 0
AllRunsKeepSound = (r : Rules) (o : Opening) (w v : World) → AreRulesInForm r → RunBeginsWith r o w → Sound (durables_of w) → WorldRun r w v → Sound (durables_of v)

-- And no write at or below a snapshot that is frozen is stored any more.
abbrev pub AllRunsKeepFloors : Type 0
AllRunsKeepFloors =
    (r : Rules) (o : Opening) (w v : World) → AreRulesInForm r → RunBeginsWith r o w → WorldRun r w v → (t : ℕ) (s : TargetState) → slice_get v.targets t ≡ Some s
    → (x : Snap) → Contains s.durable.snaps x → x.epoch.0 ≤ (row_of s.durable x.cont).floor.0

-- Where a run has ended, it is known what became of attempts, and each has one line at most, the targets stand for exactly what took effect, every
-- reported commit among it; their snapshots are those of the opening, and those of committed attempts, or of such of which it isn't sure what
-- became; and replicas agree.
abbrev pub AllEndsStand : Type 0
AllEndsStand =
    (g : Given) (w v : World) (h : History) → AreRulesInForm (rules_of g) → RunBeginsWith (rules_of g) g.opening w → HoldsOpenings g.opening w → WorldRun (rules_of g) w v
    → HasEnded (rules_of g) v → Concluded (rules_of g) g.opening (held_at w) h v → AreApart (ids (tries v.lines)) → StandInTheEnd g (durables_of v) (report_over (rules_of g) v)
