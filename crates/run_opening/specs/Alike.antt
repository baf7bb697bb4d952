-- What all targets stand for is told by their versions, entries and snapshots alone.
use Rattle.std.specs.Prelude.{ℕ, ◌≡◌, ◌+◌, ◌^◌, ◌==◌, ◌&&◌, ◌||◌, Bool, is_some, nat_lt, not, List, [], ◌∷◌, ◌++◌, filter, find, length, map, Option, Some, None, refl}
use Rattle.std.specs.List.{list_any}
use Rattle.std.proofs.Common.{◌∙◌, ap}
use Rattle.base_types.specs.declared.entry.Entry.{Entry}
use Rattle.base_types.specs.declared.id.AttemptId.{AttemptId}
use Rattle.base_types.specs.declared.snapshot.Snap.{Snap}
use Rattle.daos_model.specs.declared.durable.Durable.{Durable}
use Rattle.daos_model.specs.declared.durable.Version.{Version}
use Rattle.daos_model.specs.Durables.{entry_of, is_entry_of}
use Rattle.daos_model.specs.Effect.{effects}
use Rattle.daos_model.specs.Family.{all_hold_from, counts, counts_at, counts_below, created_snaps, family_map, is_created, is_in_field, is_led_by, is_resolved_entry, is_within, joined, map_where, part_of, resolved, snap_map, stand}
use Rattle.daos_model.specs.FormLaws.{length-map}
use Rattle.daos_model.specs.Versions.{version_path, writes_in}
use Rattle.run_opening.specs.StandLaws.{map-same}

-- ---- entries alone say which attempts are resolved

module _ (f : Durable → Durable) (entries : (d : Durable) → (f d).entries ≡ d.entries) where
  pub entry-alike : (d : Durable) (x : AttemptId) → entry_of (f d) x ≡ entry_of d x
  unfolding entry_of
  entry-alike d x = ap (find (is_entry_of x)) (entries d)

  hold-alike : (t : ℕ) (e : Entry) (ds : List Durable) → all_hold_from t e (map f ds) ≡ all_hold_from t e ds
  hold-alike t e [] = refl
  hold-alike t e (d ∷ ds) =
      ap (λ o. (is_some o || not (is_in_field e.members t || e.leader == t)) && all_hold_from (t + 1) e (map f ds)) (entry-alike d e.attempt)
      ∙ ap (λ b. (is_some (entry_of d e.attempt) || not (is_in_field e.members t || e.leader == t)) && b) (hold-alike (t + 1) e ds)

  resolved_entry-alike : (F : List Durable) (o : Option Entry) → is_resolved_entry (map f F) o ≡ is_resolved_entry F o
  resolved_entry-alike F None = refl
  resolved_entry-alike F (Some e) =
      ap (λ n. e.committed || ((nat_lt e.leader n && nat_lt e.members (2 ^ n)) && all_hold_from 0 e (map f F))) (length-map f F)
      ∙ ap (λ b. e.committed || (is_within F e && b)) (hold-alike 0 e F)

  any_resolved-alike : (F : List Durable) (x : AttemptId) (ds : List Durable)
      → list_any (λ d. is_resolved_entry (map f F) (entry_of d x)) (map f ds) ≡ list_any (λ d. is_resolved_entry F (entry_of d x)) ds
  any_resolved-alike F x [] = refl
  any_resolved-alike F x (d ∷ ds) =
      ap (λ o. is_resolved_entry (map f F) o || list_any (λ g. is_resolved_entry (map f F) (entry_of g x)) (map f ds)) (entry-alike d x)
      ∙ ap (λ b. b || list_any (λ g. is_resolved_entry (map f F) (entry_of g x)) (map f ds)) (resolved_entry-alike F (entry_of d x))
      ∙ ap (λ b. is_resolved_entry F (entry_of d x) || b) (any_resolved-alike F x ds)

  pub resolved-alike : (F : List Durable) (x : AttemptId) → resolved (map f F) x ≡ resolved F x
  unfolding resolved
  resolved-alike F x = any_resolved-alike F x F

  pub counts-alike : (F : List Durable) → counts (map f F) ≡ counts F
  counts-alike F = λ i v. v.done || resolved-alike F v.by i

-- ---- versions and snapshots

-- each of so many targets keeps the versions, entries and snapshots that it kept
pub record KeepsData (f : Durable → Durable) : Type 0 where
  pub versions : (d : Durable) → (f d).versions ≡ d.versions
  pub entries : (d : Durable) → (f d).entries ≡ d.entries
  pub snaps : (d : Durable) → (f d).snaps ≡ d.snaps

module _ (f : Durable → Durable) (k : KeepsData f) where
  pub map-alike : (p : Version → Bool) (d : Durable) → map_where p (f d) ≡ map_where p d
  map-alike p d = ap (λ vs. effects (writes_in (filter p vs)) []) (k.versions d)

  joined-alike : (p : Version → Bool) (n t : ℕ) (ds : List Durable) → joined n t p (map f ds) ≡ joined n t p ds
  joined-alike p n t [] = refl
  joined-alike p n t (d ∷ ds) =
      ap (λ m. filter (is_led_by n t) m ++ joined n (t + 1) p (map f ds)) (map-alike p d) ∙ ap (λ m. filter (is_led_by n t) (map_where p d) ++ m) (joined-alike p n (t + 1) ds)

  family-alike : (p : Version → Bool) (F : List Durable) → family_map p (map f F) ≡ family_map p F
  family-alike p F = ap (λ n. joined n 0 p (map f F)) (length-map f F) ∙ joined-alike p (length F) 0 F

  pub created-alike : (F : List Durable) → created_snaps (map f F) ≡ created_snaps F
  created-alike [] = refl
  created-alike (d ∷ F) = ap (filter is_created) (k.snaps d)

  below-alike : (F : List Durable) (e : ℕ) → counts_below (map f F) e ≡ counts_below F e
  below-alike F e = λ i v. counts-alike f k.entries F i v && nat_lt v.epoch.0 e

  pub at-alike : (F : List Durable) (x : Snap) → counts_at (map f F) x ≡ counts_at F x
  at-alike F x = λ i v. below-alike F x.epoch.0 i v && ((version_path v).cont.0 == x.cont.0)

  snap-alike : (F : List Durable) (x : Snap) → snap_map (map f F) x ≡ snap_map F x
  snap-alike F x =
      ap (λ p. record { cont = x.cont; epoch = x.epoch; map = part_of x.cont (family_map p (map f F)) }) (below-alike F x.epoch.0)
      ∙ ap (λ m. record { cont = x.cont; epoch = x.epoch; map = part_of x.cont m }) (family-alike (counts_below F x.epoch.0) F)

  pub stand-alike : (F : List Durable) → stand (map f F) ≡ stand F
  unfolding stand
  stand-alike F = λ i. record {
    now = (ap (λ p. family_map p (map f F)) (counts-alike f k.entries F) ∙ family-alike (counts F) F) i;
    snaps = (map-same (snap_map (map f F)) (snap_map F) (snap-alike F) (created_snaps (map f F)) ∙ ap (map (snap_map F)) (created-alike F)) i;
  }
