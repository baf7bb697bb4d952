-- What a target holds frozen stays so, and what it holds as created.
use Rattle.std.specs.Prelude.{ℕ, ◌≡◌, ◌&&◌, ◌==◌, Bool, true, false, map, slice_get, Some, refl, if◌then◌else◌}
use Rattle.std.proofs.Common.{sym, ◌∙◌, ap, subst, inr}
use Rattle.std.specs.List.{list_any}
use Rattle.base_types.specs.declared.epoch.Epoch.{Epoch}
use Rattle.base_types.specs.declared.id.ContId.{ContId}
use Rattle.base_types.specs.declared.outcome.FloorWhy.TheVariants.{Snapshot}
use Rattle.base_types.specs.declared.snapshot.Snap.{Snap}
use Rattle.daos_model.specs.BoolLaws.{and_left, and_right, both}
use Rattle.daos_model.specs.Changes.{created, created_at, frozen, marked, new_snap, pruned, raised_at, reopened, with_versions}
use Rattle.daos_model.specs.declared.durable.Durable.{Durable}
use Rattle.daos_model.specs.Durables.{is_frozen, is_snap_at, snap_key}
use Rattle.daos_model.specs.Family.{is_created}
use Rattle.daos_model.specs.Ordered.{put}
use Rattle.model_laws.specs.EntryLaws.{put-has}
use Rattle.model_laws.specs.Members.{Has, any-has, has-any, has-map}
use Rattle.world_base.specs.declared.target.TargetState.{TargetState}
use Rattle.world_base.specs.declared.world.World.{World}
use Rattle.world_base.specs.ChangeLaws.{snaps-made}
use Rattle.world_base.specs.Changes.{Change, Creates, Extends, Freezes, IsPartly, Prepares, Prunes, Settles, made}
use Rattle.world_base.specs.ClientTurns.{is_created_at}
use Rattle.world_base.specs.Events.{Rules}
use Rattle.world_base.specs.Stops.{WorldEvent}
use Rattle.world_making.specs.making.Leaving.{IsThereStill, event-left}

-- a target holds a snapshot as created
unfoldable pub holds_created : Durable → ContId → Epoch → Bool
holds_created d c s = list_any (is_created_at c s) d.snaps

-- a target of a world holds a snapshot frozen
pub record IsFrozenAt (w : World) (t : ℕ) (c : ContId) (s : Epoch) : Type 0 where
  pub z : TargetState
  pub here : slice_get w.targets t ≡ Some z
  pub frozen : is_frozen z.durable c s ≡ true

-- or as created
pub record IsCreatedAt (w : World) (t : ℕ) (c : ContId) (s : Epoch) : Type 0 where
  pub z : TargetState
  pub here : slice_get w.targets t ≡ Some z
  pub created : holds_created z.durable c s ≡ true

-- ---- the statements

-- what a target holds frozen stays so in every event of a run, also where a turn is cut
abbrev pub FreezesStay : Type 0
FreezesStay = (r : Rules) (w v : World) → WorldEvent r w v → (t : ℕ) (c : ContId) (s : Epoch) → IsFrozenAt w t c s → IsFrozenAt v t c s

-- and what it holds as created
abbrev pub CreatedStay : Type 0
CreatedStay = (r : Rules) (w v : World) → WorldEvent r w v → (t : ℕ) (c : ContId) (s : Epoch) → IsCreatedAt w t c s → IsCreatedAt v t c s

-- what is created is frozen
abbrev pub CreatedAreFrozen : Type 0
CreatedAreFrozen = (w : World) (t : ℕ) (c : ContId) (s : Epoch) → IsCreatedAt w t c s → IsFrozenAt w t c s

-- ---- one change

-- a snapshot is held still, and as created where it was
pub record IsHeldStill (e : Durable) (x : Snap) : Type 0 where
  pub y : Snap
  pub has : Has y e.snaps
  pub cont : y.cont ≡ x.cont
  pub epoch : y.epoch ≡ x.epoch
  pub created : is_created x ≡ true → is_created y ≡ true

abbrev pub KeepsSnaps : Durable → Durable → Type 0
KeepsSnaps d e = (x : Snap) → Has x d.snaps → IsHeldStill e x

keeps-same : (d e : Durable) → e.snaps ≡ d.snaps → KeepsSnaps d e
keeps-same d e is x i = record { y = x; has = subst (Has x) (sym is) i; cont = refl; epoch = refl; created = λ k. k }

keeps-then : (d e f : Durable) → KeepsSnaps d e → KeepsSnaps e f → KeepsSnaps d f
keeps-then d e f k l x i =
    let y = k x i in
    let z = l y.y y.has in
    record { y = z.y; has = z.has; cont = z.cont ∙ y.cont; epoch = z.epoch ∙ y.epoch; created = λ c. z.created (y.created c) }

keeps-frozen : (c : ContId) (s : Epoch) (d : Durable) → KeepsSnaps d (frozen c s d)
unfolding frozen
keeps-frozen c s d = by (is_frozen d c s)
  where
    by : (b : Bool) → KeepsSnaps d (if b then d else record d { conts = map (raised_at c s (Snapshot s)) d.conts; snaps = put snap_key (new_snap c s) d.snaps })
    by true x i = record { y = x; has = i; cont = refl; epoch = refl; created = λ k. k }
    by false x i = record { y = x; has = put-has snap_key (new_snap c s) d.snaps x (inr i); cont = refl; epoch = refl; created = λ k. k }

keeps-created : (c : ContId) (s : Epoch) (d : Durable) → KeepsSnaps d (created c s d)
unfolding created
keeps-created c s d x i =
    record { y = created_at c s x; has = has-map (created_at c s) d.snaps x i; cont = cont (is_snap_at c s x); epoch = epoch (is_snap_at c s x); created = still (is_snap_at c s x) }
  where
    cont : (b : Bool) → (if b then record x { created = true } else x).cont ≡ x.cont
    cont true = refl
    cont false = refl

    epoch : (b : Bool) → (if b then record x { created = true } else x).epoch ≡ x.epoch
    epoch true = refl
    epoch false = refl

    still : (b : Bool) → is_created x ≡ true → is_created (if b then record x { created = true } else x) ≡ true
    still true k = refl
    still false k = k

snaps-pruned : (c : ContId) (upto : Epoch) (n : ℕ) (d : Durable) → (pruned c upto n d).snaps ≡ d.snaps
unfolding pruned with_versions marked
snaps-pruned c upto n d = refl

pub keeps-made : (c : Change) (d : Durable) → KeepsSnaps d (made c d)
keeps-made (Extends ticks) d = keeps-same d (made (Extends ticks) d) (snaps-made (Extends ticks) d refl)
keeps-made (Prepares e ws) d = keeps-same d (made (Prepares e ws) d) (snaps-made (Prepares e ws) d refl)
keeps-made (Settles a step) d = keeps-same d (made (Settles a step) d) (snaps-made (Settles a step) d refl)
keeps-made (Freezes c s) d = keeps-frozen c s d
keeps-made (Creates c s) d = keeps-created c s d
keeps-made (Prunes c upto n) d = keeps-same d (pruned c upto n d) (snaps-pruned c upto n d)

keeps-partly : (c : Change) (d x : Durable) → IsPartly c d x → KeepsSnaps d x
unfolding with_versions marked
keeps-partly (Prunes c upto n) d x p = keeps-same d x (ap (λ y. y.snaps) p.2)
keeps-partly (Extends ticks) d x p = absurd p
keeps-partly (Prepares e ws) d x p = absurd p
keeps-partly (Settles a step) d x p = absurd p
keeps-partly (Freezes c s) d x p = absurd p
keeps-partly (Creates c s) d x p = absurd p

keeps-opened : (d : Durable) → KeepsSnaps d (reopened d)
unfolding reopened
keeps-opened d = keeps-same d (reopened d) refl

-- ---- events

-- every event of a run leaves the snapshots of a target
pub snaps-left : (r : Rules) (w v : World) → WorldEvent r w v → (t : ℕ) (s : TargetState) → slice_get w.targets t ≡ Some s → IsThereStill KeepsSnaps v.targets t s.durable
snaps-left = event-left KeepsSnaps (λ d. keeps-same d d refl) keeps-then keeps-made keeps-partly keeps-opened

-- a snapshot that stands where another does is at its epoch
at-same : (c : ContId) (s : Epoch) (x y : Snap) → y.cont ≡ x.cont → y.epoch ≡ x.epoch → is_snap_at c s x ≡ true → is_snap_at c s y ≡ true
at-same c s x y cont epoch is = ap (λ z. (z.0 == c.0) && (y.epoch.0 == s.0)) cont ∙ ap (λ z. (x.cont.0 == c.0) && (z.0 == s.0)) epoch ∙ is

pub frozen-on : (d e : Durable) (c : ContId) (s : Epoch) → KeepsSnaps d e → is_frozen d c s ≡ true → is_frozen e c s ≡ true
unfolding is_frozen
frozen-on d e c s keeps is =
    let x = has-any (is_snap_at c s) d.snaps is in
    let k = keeps x.0 x.1 in
    any-has (is_snap_at c s) e.snaps k.y k.has (at-same c s x.0 k.y k.cont k.epoch x.2)

created-on : (d e : Durable) (c : ContId) (s : Epoch) → KeepsSnaps d e → holds_created d c s ≡ true → holds_created e c s ≡ true
unfolding holds_created
created-on d e c s keeps is =
    let x = has-any (is_created_at c s) d.snaps is in
    let k = keeps x.0 x.1 in
    any-has (is_created_at c s) e.snaps k.y k.has (both (is_snap_at c s k.y) (is_created k.y) (at-same c s x.0 k.y k.cont k.epoch (and_left (is_snap_at c s x.0) (is_created x.0) x.2)) (k.created (and_right (is_snap_at c s x.0) (is_created x.0) x.2)))

pub freezes-stay : FreezesStay
freezes-stay r w v e t c s k = let n = snaps-left r w v e t k.z k.here in record { z = n.z; here = n.here; frozen = frozen-on k.z.durable n.z.durable c s n.left k.frozen }

pub created-stay : CreatedStay
created-stay r w v e t c s k = let n = snaps-left r w v e t k.z k.here in record { z = n.z; here = n.here; created = created-on k.z.durable n.z.durable c s n.left k.created }

created-frozen : (d : Durable) (c : ContId) (s : Epoch) → holds_created d c s ≡ true → is_frozen d c s ≡ true
unfolding is_frozen holds_created
created-frozen d c s is = let x = has-any (is_created_at c s) d.snaps is in any-has (is_snap_at c s) d.snaps x.0 x.1 (and_left (is_snap_at c s x.0) (is_created x.0) x.2)

pub created-are_frozen : CreatedAreFrozen
created-are_frozen w t c s k = record { z = k.z; here = k.here; frozen = created-frozen k.z.durable c s k.created }
