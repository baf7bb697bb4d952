-- Stores in which nothing is left to settle, with snapshots that last: a run may begin with them, and the opening is what they stand for together.
use Rattle.std.specs.Prelude.{ℕ, ◌≡◌, ◌≤◌, ◌<◌, ◌/◌, ◌&&◌, ◌||◌, ◌==◌, true, nat_lt, Contains, List, [], filter, is_some, length, map, slice_get, Some, refl, max, suc, zero, ◌∷◌}
use Rattle.std.specs.Option.{option_map}
use Rattle.std.proofs.Common.{sym, ◌∙◌, ap, subst, arith}
use Rattle.base_types.specs.declared.epoch.Epoch.{Epoch}
use Rattle.base_types.specs.declared.id.ContId.{ContId}
use Rattle.base_types.specs.declared.snapshot.Snap.{Snap}
use Rattle.base_types.specs.Epochs.{restart_floor}
use Rattle.model_laws.specs.DecidedLaws.{has-all}
use Rattle.model_laws.specs.Lists.{filter-all}
use Rattle.model_laws.specs.MatchLaws.{filter_on}
use Rattle.model_laws.specs.Matches.{counts_under}
use Rattle.model_laws.specs.Members.{Has, contains-from_has, has-from_contains, has-from_map, has-map}
use Rattle.model_laws.specs.TargetLaws.{agreeing-hold}
use Rattle.model_laws.specs.Targets.{is_own}
use Rattle.daos_model.specs.declared.cell.CellValue.{CellValue}
use Rattle.daos_model.specs.declared.durable.Durable.{Durable}
use Rattle.daos_model.specs.declared.durable.Version.{Version}
use Rattle.daos_model.specs.BoolLaws.{and_left, and_right}
use Rattle.daos_model.specs.Cells.{value_at}
use Rattle.daos_model.specs.Durables.{IsInForm, is_frozen, row_of}
use Rattle.daos_model.specs.Effect.{effects}
use Rattle.daos_model.specs.Family.{AgreeOn, counts, counts_at, counts_below, created_snaps, family_map, greatest_lease, resolved, snap_map, stand}
use Rattle.daos_model.specs.FormLaws.{length-map}
use Rattle.daos_model.specs.Opening.{Opening, kept_map, top}
use Rattle.daos_model.specs.Sound.{IsPlaced, IsSoundAt, Sound}
use Rattle.daos_model.specs.Versions.{writes_in}
use Rattle.world_base.specs.declared.target.TargetState.{TargetState}
use Rattle.world_base.specs.declared.world.World.{World}
use Rattle.world_answers.specs.world_making.freezings.Freezings.{KeepsFrozen}
use Rattle.world_answers.specs.world_making.making.Snapshots.{holds_created}
use Rattle.world_answers.specs.world_contents.reads.Versions.{HoldsMap, is_own_in}
use Rattle.world_upheld.specs.below.Legal.{get-map, durable_of, durables_of}
use Rattle.world_upheld.specs.explained.Explanations.{HoldKeptSnapshots}
use Rattle.world_upheld.specs.upheld.Begins.{KeepsSnapshots, is_settled_version, without_snaps, OpensWith}
use Rattle.world_upheld.specs.upheld.BeginVersions.{same-row}
use Rattle.world_closing.specs.stands.Containers.{family-inside, map-inside, part-inside}
use Rattle.world_closing.specs.stands.Covered.{edge_over, row-within}
use Rattle.world_closing.specs.stands.Created.{IsNamedIn, created-at, kept-among, kept-from, same-cont, same-epoch}
use Rattle.world_closing.specs.stands.Held.{opened-are_held}
use Rattle.world_closing.specs.stands.Sounding.{covered-within}
use Rattle.world_closing.specs.stands.Stands.{HoldsOpenings}

-- no lease is above the greatest
pub lease-within : (F : List Durable) (t : ℕ) (d : Durable) → slice_get F t ≡ Some d → d.lease ≤ greatest_lease F
lease-within [] t d at = let no : ⊥ = cc in absurd no
lease-within (e ∷ F) zero d at = let same : e.lease ≡ d.lease = cc in first e.lease d.lease (greatest_lease F) same
  where
    first : (a b c : ℕ) → a ≡ b → b ≤ max a c
    first a b c same = omega (arith, same)
lease-within (e ∷ F) (suc t) d at = later e.lease d.lease (greatest_lease F) (lease-within F t d at)
  where
    later : (a b c : ℕ) → b ≤ c → b ≤ max a c
    later a b c low = omega (arith, low)

-- and the greatest is at or below what all are
pub leases-below : (F : List Durable) (b : ℕ) → ((t : ℕ) (d : Durable) → slice_get F t ≡ Some d → d.lease ≤ b) → greatest_lease F ≤ b
leases-below [] b low = omega arith
leases-below (e ∷ F) b low = both e.lease (greatest_lease F) (low 0 e refl) (leases-below F b (λ t d at. low (suc t) d at))
  where
    both : (a c : ℕ) → a ≤ b → c ≤ b → max a c ≤ b
    both a c p q = omega (arith, p, q)

pub floors-rise : (n low high : ℕ) → n ≤ restart_floor low → low ≤ high → n ≤ restart_floor high
floors-rise n low high le up = omega (arith, le, up)

-- ---- the statement

-- A target has nothing left to settle: all its versions are done, and it has no entries. Each of its snapshots target 0 holds as created, and no
-- write at or below one is stored any more.
pub record IsLasting (F : List Durable) (d : Durable) : Type 0 where
  pub form : IsInForm d
  pub done : (v : Version) → Contains d.versions v → v.done ≡ true
  pub entries : d.entries ≡ []
  pub created : (s : Snap) → Contains d.snaps s → IsNamedIn (created_snaps F) s.cont s.epoch.0
  pub floored : (s : Snap) → Contains d.snaps s → s.epoch.0 ≤ (row_of d s.cont).floor.0

-- so it is of all targets of a world, and they are sound together
pub record AreLasting (w : World) : Type 0 where
  pub some : 0 < length w.targets
  pub sound : Sound (durables_of w)
  pub each : (t : ℕ) (s : TargetState) → slice_get w.targets t ≡ Some s → IsLasting (durables_of w) s.durable

-- What a run begins with of what its targets keep, with an opening (`RunBeginsWith`); and that no target holds a snapshot of which the opening keeps
-- no map, and that they hold all that it stands for.
pub record BeginsKept (o : Opening) (w : World) : Type 0 where
  pub opens : (t : ℕ) (s : TargetState) → slice_get w.targets t ≡ Some s → OpensWith (length w.targets) t o (without_snaps s).durable
  pub snapshots : (t : ℕ) (s : TargetState) → slice_get w.targets t ≡ Some s → KeepsSnapshots (length w.targets) t o s.durable
  pub frozen : (z : TargetState) (c : ContId) (s : Epoch) → slice_get w.targets 0 ≡ Some z → holds_created z.durable c s ≡ true → (t : ℕ) → KeepsFrozen w t c s
  pub kept : (z : TargetState) (c : ContId) (s : Epoch) → slice_get w.targets 0 ≡ Some z → holds_created z.durable c s ≡ true → (m : List CellValue) × (kept_map c s.0 o.stand.snaps ≡ Some m)
  pub known : HoldKeptSnapshots o w
  pub held : HoldsOpenings o w

-- a run may begin with such stores, and with what they stand for
abbrev pub LastingStoresBegin : Type 0
LastingStoresBegin = (o : Opening) (w : World) → AreLasting w → o.stand ≡ stand (durables_of w) → o.lease ≡ greatest_lease (durables_of w) → BeginsKept o w

-- ---- the law

module _ (o : Opening) (w : World) (k : AreLasting w) (stands : o.stand ≡ stand (durables_of w)) (leases : o.lease ≡ greatest_lease (durables_of w)) where
  abbrev F : List Durable
  F = durables_of w

  many : length F ≡ length w.targets
  many = length-map durable_of w.targets

  durable-at : (t : ℕ) (s : TargetState) → slice_get w.targets t ≡ Some s → slice_get F t ≡ Some s.durable
  durable-at t s here = get-map durable_of w.targets t ∙ ap (option_map durable_of) here

  sound-at : (t : ℕ) (s : TargetState) → slice_get w.targets t ≡ Some s → IsSoundAt F t s.durable
  sound-at t s here = k.sound.targets t s.durable (durable-at t s here)

  snaps-are : o.stand.snaps ≡ map (snap_map F) (created_snaps F)
  unfolding stand
  snaps-are = ap (λ x. x.snaps) stands

  now-is : o.stand.now ≡ family_map (counts F) F
  unfolding stand
  now-is = ap (λ x. x.now) stands

  lease-low : (t : ℕ) (s : TargetState) → slice_get w.targets t ≡ Some s → s.durable.lease ≤ o.lease
  lease-low t s here = subst (λ n. s.durable.lease ≤ n) (sym leases) (lease-within F t s.durable (durable-at t s here))

  -- ---- one target, but for its snapshots

  rises : (n lease high : ℕ) → n ≤ restart_floor lease → lease ≤ high → n ≤ restart_floor high
  rises n lease high le up = floors-rise n lease high le up

  alone : (x lease : ℕ) → x ≤ edge_over 0 lease → x ≤ restart_floor lease
  alone x lease le = omega (arith, le)

  within : (e lease : ℕ) → e ≤ restart_floor lease → e / 256 ≤ lease
  within e lease le = omega (arith, le)

  opens-with : (t : ℕ) (s : TargetState) → slice_get w.targets t ≡ Some s → OpensWith (length w.targets) t o (without_snaps s).durable
  opens-with t s here = record {
    form = record {
      versions = form.versions;
      writes = form.writes;
      entries = form.entries;
      conts = form.conts;
      floors = form.floors;
      snaps = refl;
      few_conts = form.few_conts;
      few_snaps = omega arith;
      lease = form.lease;
    };
    single = record { in_order = form.versions; single = a.single };
    placed = λ v i. subst (λ n. IsPlaced n t v) many (has-all (IsPlaced (length F) t) s.durable.versions v a.placed (has-from_contains s.durable.versions v i));
    done = (k.each t s here).done;
    entries = (k.each t s here).entries;
    snaps = refl;
    lease = up;
    covered = λ v i. (
        let low = has-all (λ u. u.epoch.0 ≤ restart_floor s.durable.lease) s.durable.versions v a.covered.versions (has-from_contains s.durable.versions v i) in
        (rises v.epoch.0 s.durable.lease o.lease low up, within v.epoch.0 s.durable.lease low));
    floors = λ cont. (
        let row = row-within 0 s.durable cont (covered-within s.durable a.covered) in (
          subst (λ x. x.floor.0 ≤ top o) (sym (same-row s.durable cont)) (rises (row_of s.durable cont).floor.0 s.durable.lease o.lease (alone _ s.durable.lease row.floor) up),
          subst (λ x. x.aggregated.0 ≤ top o) (sym (same-row s.durable cont)) (rises (row_of s.durable cont).aggregated.0 s.durable.lease o.lease (alone _ s.durable.lease row.aggregated) up),
        ));
    stands = λ c own.
        ap (λ vs. value_at (effects (writes_in vs) []) c) (sym (filter-all (counts F) s.durable.versions (λ v i. ap (λ b. b || resolved F v.by) ((k.each t s here).done v (contains-from_has s.durable.versions v i)))))
        ∙ agreeing-hold F (counts F) t s.durable c k.sound.agree.now (durable-at t s here) (subst (λ n. is_own n t c ≡ true) (sym many) own)
        ∙ ap (λ m. value_at m c) (sym now-is);
  }
    where
      form : IsInForm s.durable
      form = (k.each t s here).form

      a : IsSoundAt F t s.durable
      a = sound-at t s here

      up : s.durable.lease ≤ o.lease
      up = lease-low t s here

  -- ---- its snapshots

  -- its versions below the epoch of one give the map that is kept of it
  holds-map : (t : ℕ) (s : TargetState) (x y : Snap) → slice_get w.targets t ≡ Some s → Has y (created_snaps F) → y.cont.0 ≡ x.cont.0 → y.epoch.0 ≡ x.epoch.0
      → HoldsMap (is_own_in (length w.targets) t x.cont) is_settled_version s.durable.versions x.epoch.0 (snap_map F y).map
  holds-map t s x y here i cont epoch c own =
      ap (λ us. value_at (effects (writes_in us) []) c) settled
      ∙ sym (map-inside y.cont (counts_below F y.epoch.0) c s.durable inside)
      ∙ agreeing-hold F (counts_at F y) t s.durable c (has-all (λ z. AgreeOn F (counts_at F z)) (created_snaps F) y k.sound.agree.snaps i) (durable-at t s here) (subst (λ n. is_own n t c ≡ true) (sym many) (and_left (is_own (length w.targets) t c) (c.path.cont.0 == x.cont.0) own))
      ∙ family-inside F y.cont (counts_below F y.epoch.0) c (subst (λ n. 0 < n) (sym many) k.some) inside
      ∙ sym (part-inside y.cont (family_map (counts_below F y.epoch.0) F) c inside)
    where
      inside : (c.path.cont.0 == y.cont.0) ≡ true
      inside = ap (λ n. c.path.cont.0 == n) cont ∙ and_right (is_own (length w.targets) t c) (c.path.cont.0 == x.cont.0) own

      settled : filter (counts_under is_settled_version x.epoch.0) s.durable.versions ≡ filter (counts_below F y.epoch.0) s.durable.versions
      settled =
          filter_on (counts_under is_settled_version x.epoch.0) (counts_below F y.epoch.0) s.durable.versions
          (λ v j. let done : v.done ≡ true = (k.each t s here).done v (contains-from_has s.durable.versions v j) in
          ap (λ b. b && nat_lt v.epoch.0 x.epoch.0) (done ∙ sym (ap (λ b. b || resolved F v.by) done)) ∙ ap (λ n. counts F v && nat_lt v.epoch.0 n) (sym epoch))

  keeps-snapshots : (t : ℕ) (s : TargetState) → slice_get w.targets t ≡ Some s → KeepsSnapshots (length w.targets) t o s.durable
  keeps-snapshots t s here = record {
    form = (k.each t s here).form;
    floored = (k.each t s here).floored;
    leased = λ x i. within x.epoch.0 s.durable.lease (has-all (λ y. y.epoch.0 ≤ restart_floor s.durable.lease) s.durable.snaps x (sound-at t s here).covered.snaps (has-from_contains s.durable.snaps x i));
    maps = λ x m i is.
        (let j = kept-from o.stand.snaps x.cont x.epoch.0 m is in
        let y = has-from_map (snap_map F) (created_snaps F) j.k (subst (Has j.k) snaps-are j.among) in
        subst (HoldsMap (is_own_in (length w.targets) t x.cont) is_settled_version s.durable.versions x.epoch.0) (ap (λ q. q.map) y.2 ∙ j.map)
        (holds-map t s x y.0 here y.1 (ap (λ q. q.cont.0) y.2 ∙ j.cont) (ap (λ q. q.epoch.0) y.2 ∙ j.epoch)));
  }

  -- of a snapshot that target 0 holds as created a map is kept
  named-kept : (c : ContId) (e : ℕ) → IsNamedIn (created_snaps F) c e → (m : List CellValue) × (kept_map c e o.stand.snaps ≡ Some m)
  named-kept c e n =
      subst (λ ks. (m : List CellValue) × (kept_map c e ks ≡ Some m)) (sym snaps-are)
      (kept-among (map (snap_map F) (created_snaps F)) c e (snap_map F n.s) (has-map (snap_map F) (created_snaps F) n.s n.among) n.cont n.epoch)

  created-frozen_everywhere : (z : TargetState) (c : ContId) (s : Epoch) → slice_get w.targets 0 ≡ Some z → holds_created z.durable c s ≡ true → (t : ℕ) → KeepsFrozen w t c s
  created-frozen_everywhere z c s here is t y at =
      let n = created-at w c s (record { z = z; here = here; created = is }) in
      subst (λ a. is_frozen y.durable a s ≡ true) (same-cont n.s.cont c n.cont)
      (subst (λ e. is_frozen y.durable n.s.cont e ≡ true) (same-epoch n.s.epoch s n.epoch) (has-all (λ x. is_frozen y.durable x.cont x.epoch ≡ true) (created_snaps F) n.s (sound-at t y at).frozen n.among))

  pub begins-kept : BeginsKept o w
  begins-kept = record {
    opens = opens-with;
    snapshots = keeps-snapshots;
    frozen = created-frozen_everywhere;
    kept = λ z c s here is. named-kept c s.0 (created-at w c s (record { z = z; here = here; created = is }));
    known = λ t s here x i. (let m = named-kept x.cont x.epoch.0 ((k.each t s here).created x i) in ap is_some m.1);
    held = opened-are_held o w k.some (λ t s here. (k.each t s here).form) stands leases;
  }

pub lasting-stores-begin : LastingStoresBegin
lasting-stores-begin o w k stands leases = begins-kept o w k stands leases
