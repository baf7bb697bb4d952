-- What was frozen is frozen.
use Rattle.std.proofs.Common.{ℕ, ◌≡◌, ◌||◌, ◌&&◌, ◌∙◌, refl, ap, Bool, true, false, List, [], ◌∷◌, map}
use Rattle.std.specs.Prelude.{◌==◌, if◌then◌else◌}
use Rattle.std.proofs.Common.{arith}
use Rattle.std.proofs.lemmas.Bool.Decides.{nat_tests}
use Rattle.std.specs.List.{list_any}
use Rattle.base_types.specs.declared.epoch.Epoch.{Epoch}
use Rattle.base_types.specs.declared.id.ContId.{ContId}
use Rattle.base_types.specs.declared.outcome.FloorWhy.TheVariants.{Snapshot}
use Rattle.base_types.specs.declared.snapshot.Snap.{Snap}
use Rattle.daos_model.specs.declared.durable.Durable.{Durable}
use Rattle.daos_model.specs.Answers.{is_before}
use Rattle.daos_model.specs.Changes.{frozen, new_snap, raised_at}
use Rattle.daos_model.specs.Durables.{is_frozen, is_snap_at, snap_key}
use Rattle.daos_model.specs.Ordered.{put}

same-number : (n : ℕ) → (n == n) ≡ true
same-number n = grind (arith, nat_tests)

snap-own : (c : ContId) (s : Epoch) → is_snap_at c s (new_snap c s) ≡ true
snap-own c s = ap (λ b. b && (s.0 == s.0)) (same-number c.0) ∙ same-number s.0

or-true : (b : Bool) → (b || true) ≡ true
or-true true = refl
or-true false = refl

any-there : (c : ContId) (s : Epoch) (us : List Snap) → list_any (is_snap_at c s) (put snap_key (new_snap c s) us) ≡ true
any-there c s [] = ap (λ b. b || false) (snap-own c s)
any-there c s (u ∷ us) =
    elim (is_before (snap_key u) (snap_key (new_snap c s))) as (λ b. list_any (is_snap_at c s) (if b then u ∷ put snap_key (new_snap c s) us else new_snap c s ∷ u ∷ us) ≡ true) [
      | true ↦ ap (λ b. is_snap_at c s u || b) (any-there c s us) ∙ or-true (is_snap_at c s u)
      | false ↦ ap (λ b. b || list_any (is_snap_at c s) (u ∷ us)) (snap-own c s)
    ]

pub is-frozen_then : (c : ContId) (s : Epoch) (d : Durable) → is_frozen (frozen c s d) c s ≡ true
unfolding frozen is_frozen
is-frozen_then c s d = by (list_any (is_snap_at c s) d.snaps) refl
  where
    by : (b : Bool) → list_any (is_snap_at c s) d.snaps ≡ b → list_any (is_snap_at c s) (if b then d else record d { conts = map (raised_at c s (Snapshot s)) d.conts; snaps = put snap_key (new_snap c s) d.snaps }).snaps ≡ true
    by true is = is
    by false is = any-there c s d.snaps
