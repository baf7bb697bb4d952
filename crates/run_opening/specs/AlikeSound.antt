-- What is sound together stays so where versions, entries and snapshots stay, and leases cover what they covered.
use Rattle.std.specs.Prelude.{ℕ, ◌≡◌, ◌≢◌, Bool, true, All, AllPairs, Contains, List, length, map, slice_get, Some, refl}
use Rattle.std.specs.List.{list_any}
use Rattle.std.proofs.Common.{sym, ◌∙◌, ap, subst}
use Rattle.base_types.specs.declared.epoch.Epoch.{Epoch}
use Rattle.base_types.specs.declared.id.ContId.{ContId}
use Rattle.base_types.specs.Placement.{path_members}
use Rattle.model_laws.specs.DecidedLaws.{all-from_has, has-all}
use Rattle.model_laws.specs.Members.{Has}
use Rattle.daos_model.specs.declared.durable.Durable.{Durable}
use Rattle.daos_model.specs.declared.durable.Version.{Version}
use Rattle.daos_model.specs.Cells.{value_at}
use Rattle.daos_model.specs.Changes.{reopened}
use Rattle.daos_model.specs.Durables.{is_frozen, is_snap_at, version_key}
use Rattle.daos_model.specs.Family.{Agree, AgreeOn, counts, counts_at, created_snaps, is_in_field, map_where}
use Rattle.daos_model.specs.FormLaws.{length-map}
use Rattle.daos_model.specs.Sound.{IsCovered, IsOfEntry, IsPlaced, IsSoundAt, SayTheSame, Sound}
use Rattle.run_opening.specs.Alike.{KeepsData, at-alike, counts-alike, created-alike, entry-alike, map-alike}
use Rattle.run_opening.specs.Laws.{ReopeningKeepsSound}
use Rattle.run_opening.specs.SoundLaws.{at-mapped}

module _ (f : Durable → Durable) (same : KeepsData f) (covers : (d : Durable) → IsCovered d → IsCovered (f d)) where
  frozen-alike : (d : Durable) (c : ContId) (e : Epoch) → is_frozen (f d) c e ≡ is_frozen d c e
  unfolding is_frozen
  frozen-alike d c e = ap (list_any (is_snap_at c e)) (same.snaps d)

  -- replicas agree as they did
  agree-on : (F : List Durable) (p : Version → Bool) → AgreeOn F p → AgreeOn (map f F) p
  agree-on F p agree c t u d e dkey i j at bt =
      let x = at-mapped f F t d at in
      let y = at-mapped f F u e bt in
      let many : length (map f F) ≡ length F = length-map f F in
      subst (λ z. value_at z c ≡ value_at (map_where p e) c) (sym (map-alike f same p x.0) ∙ ap (map_where p) x.2)
      (subst (λ z. value_at (map_where p x.0) c ≡ value_at z c) (sym (map-alike f same p y.0) ∙ ap (map_where p) y.2)
      (agree c t u x.0 y.0 dkey (subst (λ n. Contains (path_members c.path n) t) many i) (subst (λ n. Contains (path_members c.path n) u) many j) x.1 y.1))

  module _ (F : List Durable) (k : Sound F) where
    agrees : Agree (map f F)
    agrees = record {
      now = subst (AgreeOn (map f F)) (sym (counts-alike f same.entries F)) (agree-on F (counts F) k.agree.now);
      snaps = subst (All (λ x. AgreeOn (map f F) (counts_at (map f F) x))) (sym (created-alike f same F))
          (all-from_has (λ x. AgreeOn (map f F) (counts_at (map f F) x)) (created_snaps F)
          (λ x i. subst (AgreeOn (map f F)) (sym (at-alike f same F x)) (agree-on F (counts_at F x) (has-all (λ y. AgreeOn F (counts_at F y)) (created_snaps F) x k.agree.snaps i))));
    }

    at-each : (t : ℕ) (d : Durable) → IsSoundAt F t d → IsSoundAt (map f F) t (f d)
    at-each t d c = record {
      covered = covers d c.covered;
      holds = subst (All (λ e. is_in_field e.members t ≡ true)) (sym (same.entries d)) c.holds;
      unsettled = all-from_has (IsOfEntry (f d)) (f d).versions (λ v i off. let z = has-all (IsOfEntry d) d.versions v c.unsettled (subst (Has v) (same.versions d) i) off in (z.0, entry-alike f same.entries d v.by ∙ z.1, z.2, z.3));
      placed = subst (λ n. All (IsPlaced n t) (f d).versions) (sym (length-map f F)) (subst (All (IsPlaced (length F) t)) (sym (same.versions d)) c.placed);
      single = subst (AllPairs (λ v w. version_key v ≢ version_key w)) (sym (same.versions d)) c.single;
      frozen = subst (All (λ x. is_frozen (f d) x.cont x.epoch ≡ true)) (sym (created-alike f same F))
          (all-from_has (λ x. is_frozen (f d) x.cont x.epoch ≡ true) (created_snaps F) (λ x i. frozen-alike d x.cont x.epoch ∙ has-all (λ y. is_frozen d y.cont y.epoch ≡ true) (created_snaps F) x c.frozen i));
    }

    entries-same : (t u : ℕ) (d g : Durable) → slice_get (map f F) t ≡ Some d → slice_get (map f F) u ≡ Some g → All (λ e. All (λ x. e.attempt ≡ x.attempt → SayTheSame e x) g.entries) d.entries
    entries-same t u d g at bt =
        let x = at-mapped f F t d at in
        let y = at-mapped f F u g bt in
        subst (λ es. All (λ e. All (λ z. e.attempt ≡ z.attempt → SayTheSame e z) g.entries) es) (sym (same.entries x.0) ∙ ap (λ z. z.entries) x.2)
        (subst (λ es. All (λ e. All (λ z. e.attempt ≡ z.attempt → SayTheSame e z) es) x.0.entries) (sym (same.entries y.0) ∙ ap (λ z. z.entries) y.2) (k.entries t u x.0 y.0 x.1 y.1))

    pub alike-sound : Sound (map f F)
    alike-sound = record {
      agree = agrees;
      targets = λ t d at. let e = at-mapped f F t d at in subst (IsSoundAt (map f F) t) e.2 (at-each t e.0 (k.targets t e.0 e.1));
      entries = entries-same;
    }

-- ---- stores that are opened again

reopened-data : KeepsData reopened
unfolding reopened
reopened-data = record { versions = λ d. refl; entries = λ d. refl; snaps = λ d. refl }

covered-reopened : (d : Durable) → IsCovered d → IsCovered (reopened d)
unfolding reopened
covered-reopened d c = record { versions = c.versions; entries = c.entries; floors = c.floors; aggregated = c.aggregated; snaps = c.snaps }

pub reopening-sound : ReopeningKeepsSound
reopening-sound F k = record { sound = alike-sound reopened reopened-data covered-reopened F k; created = created-alike reopened reopened-data F }
