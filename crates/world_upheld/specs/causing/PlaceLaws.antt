-- Every event of a run keeps how many places of snapshots are taken.
use Rattle.std.specs.Prelude.{ℕ, ◌≡◌, ◌≤◌, ◌+◌, ◌⊎◌, ◌++◌, true, filter, length, Some}
use Rattle.std.proofs.Common.{sym, ◌∙◌, ap, subst, arith}
use Rattle.base_types.specs.declared.epoch.Epoch.{Epoch}
use Rattle.base_types.specs.declared.id.ContId.{ContId}
use Rattle.daos_model.specs.Durables.{is_frozen}
use Rattle.daos_model.specs.Opening.{Opening}
use Rattle.world_base.specs.declared.world.World.{World}
use Rattle.world_base.specs.Events.{Rules}
use Rattle.world_base.specs.Stops.{WorldEvent}
use Rattle.world_upheld.specs.causing.Counting.{passes-longer}
use Rattle.world_upheld.specs.causing.DateLaws.{issued-now}
use Rattle.world_upheld.specs.causing.Dates.{newly_dated}
use Rattle.world_owners.specs.world_making.freezings.Snapped.{WasSnapped, all-events-snap_so}
use Rattle.world_upheld.specs.causing.Places.{HavePlaces, Places, Placing, is_frozen_for, placing-both, placing-made, placing-none, placing-opened, placing-partly}
use Rattle.world_owners.specs.world_making.freezings.Freezings.{Freezings, HaveOneEpoch, IsOfSnap}
use Rattle.world_owners.specs.world_making.making.Leaving.{IsThereStill, event-left}
use Rattle.world_letters.specs.snapshots.Makings.{Makings}

abbrev pub AllEventsKeepPlaces : Type 0
AllEventsKeepPlaces =
    (r : Rules) (o : Opening) → r.script.targets ≤ 64 → (w v : World) → length w.targets ≡ r.script.targets → HaveOneEpoch w → Makings r w → Freezings r o w → WorldEvent r w v → Places r o w → Places r o v

module _ (r : Rules) (o : Opening) (few : r.script.targets ≤ 64) (w : World) (many : length w.targets ≡ r.script.targets) (once : HaveOneEpoch w) (makings : Makings r w) (k : Freezings r o w) where
  pub places-stay : (v : World) → WorldEvent r w v → Places r o w → Places r o v
  places-stay v e p t z at = subst (λ y. HavePlaces r.script o v.issued y.durable) (sym it) (left.left.few new more)
    where
      before : WasSnapped r w v t z
      before = all-events-snap_so r o few w v many once makings k e t z at

      more-issued : v.issued ≡ w.issued ++ newly_dated r e.happens
      more-issued = ap (λ x. x.issued) e.after ∙ issued-now r w e.u e.happens

      left : IsThereStill (Placing r o v.issued) v.targets t before.s.durable
      left = event-left (Placing r o v.issued) (placing-none r o v.issued) (placing-both r o v.issued) (placing-made r o v.issued) (placing-partly r o v.issued) (placing-opened r o v.issued) r w v e t before.s before.here

      it : z ≡ left.z
      it = let same : Some z ≡ Some left.z = sym at ∙ left.here in let one : z ≡ left.z = cc in one

      new : (c : ContId) (f : Epoch) → is_frozen left.z.durable c f ≡ true → (is_frozen before.s.durable c f ≡ true) ⊎ IsOfSnap r v.issued c f
      new c f is = before.snaps.froze c f (subst (λ y. is_frozen y.durable c f ≡ true) (sym it) is)

      more : HavePlaces r.script o v.issued before.s.durable
      more = subst (λ js. HavePlaces r.script o js before.s.durable) (sym more-issued)
          (by (length o.stand.snaps) (length (filter (is_frozen_for r.script before.s.durable) w.issued)) (length (filter (is_frozen_for r.script before.s.durable) (w.issued ++ (newly_dated r e.happens)))) (p t before.s before.here)
          (passes-longer (is_frozen_for r.script before.s.durable) w.issued (newly_dated r e.happens)))
        where
          by : (a b c : ℕ) → length before.s.durable.snaps ≤ a + b → b ≤ c → length before.s.durable.snaps ≤ a + c
          by a b c q f = omega (arith, q, f)

pub all-events-keep_places : AllEventsKeepPlaces
all-events-keep_places r o few w v many once makings k e p = places-stay r o few w many once makings k v e p
