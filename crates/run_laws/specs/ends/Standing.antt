-- What targets stand for while a run goes on, and where it broke off.
use Rattle.std.specs.Prelude.{◌≡◌, ◌⊎◌, ◌<◌, ◌^◌, true, All, List, Contains, map}
use Rattle.std.proofs.lemmas.List.Elements.{All-weaker}
use Rattle.std.proofs.Common.{inl, inr}
use Rattle.base_types.specs.declared.epoch.Epoch.{Epoch}
use Rattle.base_types.specs.declared.id.AttemptId.{AttemptId}
use Rattle.daos_model.specs.declared.durable.Durable.{Durable}
use Rattle.daos_model.specs.declared.stand.SnapMap.{SnapMap}
use Rattle.daos_model.specs.AsOf.{as_of}
use Rattle.daos_model.specs.Family.{Agree, part_of, resolved, stand}
use Rattle.daos_model.specs.Finals.{IsKeptIn, SameMap}
use Rattle.daos_model.specs.Opening.{Opening, top}
use Rattle.model_laws.specs.Decided.{AreDecided, Decided, taken_in}
use Rattle.world_base.specs.declared.world.World.{World}
use Rattle.world_base.specs.Events.{Rules}
use Rattle.world_closing.specs.stands.Stands.{IsMadeHere, StandsForAll}
use Rattle.run_opening.specs.world_contents.reads.Transactions.{decided_of}
use Rattle.world_letters.specs.snapshots.Makings.{IsSnapIn}
use Rattle.world_closing.specs.Below.{durables_of}

-- a snapshot of a run: its epoch lies above the opening, an attempt of the script makes one of its container, and its map is the container's part of
-- the opening and the transactions below it
pub record IsMadeIn (r : Rules) (o : Opening) (all : List Decided) (k : SnapMap) : Type 0 where
  pub above : top o < k.epoch.0
  pub made : (x : AttemptId) × IsSnapIn r x k.cont
  pub map : SameMap k.map (part_of k.cont (as_of o.stand (taken_in all) k.epoch.0))

-- What is kept stands for the opening and, one by one in the order of their epochs, for just these attempts, which are those that are resolved
-- there: no two of them have one epoch, and each one's lies above the opening. It stands for the snapshots of the opening, with the same maps, and
-- else for snapshots of the run alone. Replicas agree, now and at each of these.
pub record StandsForAttempts (r : Rules) (o : Opening) (F : List Durable) : Type 0 where
  pub attempts : List (AttemptId × Epoch)
  pub only : (x : AttemptId) (e : Epoch) → Contains attempts (x, e) → (resolved F x ≡ true) × (top o < e.0)
  pub all : (x : AttemptId) → resolved F x ≡ true → (e : Epoch) × Contains attempts (x, e)
  pub apart : AreDecided (map (decided_of r.script) attempts)
  pub now : SameMap (stand F).now (as_of o.stand (taken_in (map (decided_of r.script) attempts)) (2 ^ 64))
  pub old : All (IsKeptIn (stand F).snaps) o.stand.snaps
  pub snaps : All (λ k. IsKeptIn o.stand.snaps k ⊎ IsMadeIn r o (map (decided_of r.script) attempts) k) (stand F).snaps
  pub agree : Agree F

-- so it is of what the targets of a world keep, where they stand so at a moment of a run
pub stands-for_attempts : (r : Rules) (o : Opening) (v : World) → StandsForAll r o v → StandsForAttempts r o (durables_of v)
stands-for_attempts r o v k = record {
  attempts = k.attempts;
  only = k.only;
  all = k.all;
  apart = k.apart;
  now = k.now;
  old = k.old;
  snaps = All-weaker (λ m. IsKeptIn o.stand.snaps m ⊎ IsMadeHere r o v (map (decided_of r.script) k.attempts) m) (λ m. IsKeptIn o.stand.snaps m ⊎ IsMadeIn r o (map (decided_of r.script) k.attempts) m)
      (λ m i. elim i [ inl kept ↦ inl kept | inr z ↦ inr (record { above = z.above; made = (z.made.0, z.made.2); map = z.map }) ]) (stand (durables_of v)).snaps k.snaps;
  agree = k.agree;
}
