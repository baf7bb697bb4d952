-- Later writes: none lies in an empty range, and a range may end with the last number of 64 bits.
use Rattle.std.proofs.Common.{ℕ, suc, ◌≡◌, ◌<◌, ◌≤◌, ◌-◌, ◌^◌, ◌&&◌, refl, sym, ◌∙◌, ap, Bool, true, false, nat_lt, nat_le, List, [], ◌∷◌, find, All, Some, None, min, arith}
use Rattle.std.specs.Prelude.{if◌then◌else◌}
use Rattle.std.proofs.lemmas.Bool.Decides.{nat_tests}
use Rattle.base_types.specs.declared.epoch.Epoch.{Epoch}
use Rattle.base_types.specs.declared.path.Path.{Path}
use Rattle.base_types.specs.Paths.{overlaps}
use Rattle.daos_model.specs.declared.durable.Durable.{Durable}
use Rattle.daos_model.specs.declared.durable.Version.{Version}
use Rattle.daos_model.specs.Versions.{first_between, is_between, version_path}
use Rattle.vos_store.specs.Answers.{later_write, shown_or_none}
use Rattle.target_parts.specs.Knowing.{HasEpochs}

find_same : {T : Type 0} (t u : T → Bool) (xs : List T) → All (λ x. t x ≡ u x) xs → find t xs ≡ find u xs
find_same t u [] all = refl
find_same t u (x ∷ xs) all =
    ap (λ (b : Bool). if b then Some x else find t xs) (all 0 x (omega arith))
    ∙ ap (λ r. if u x then Some x else r) (find_same t u xs (λ k d lt. all (suc k) d (omega arith)))

find_none : {T : Type 0} (t : T → Bool) (xs : List T) → All (λ x. t x ≡ false) xs → find t xs ≡ None
find_none t [] all = refl
find_none t (x ∷ xs) all =
    ap (λ (b : Bool). if b then Some x else find t xs) (all 0 x (omega arith)) ∙ find_none t xs (λ k d lt. all (suc k) d (omega arith))

capped : (n u cap : ℕ) → n < 2 ^ 64 → cap ≡ min (2 ^ 64 - 1) u → nat_le n cap ≡ nat_le n u
capped n u cap fits is = grind (arith, nat_tests)

between_capped : (p : Path) (e u cap : ℕ) (v : Version) → v.epoch.0 < 2 ^ 64 → cap ≡ min (2 ^ 64 - 1) u → is_between p e cap v ≡ is_between p e u v
unfolding is_between
between_capped p e u cap v fits is = ap (λ b. nat_lt e v.epoch.0 && b && overlaps p (version_path v)) (capped v.epoch.0 u cap fits is)

between_none : (p : Path) (e upto : ℕ) (v : Version) → upto ≤ e → is_between p e upto v ≡ false
unfolding is_between
between_none p e upto v le = none (nat_lt e v.epoch.0) (nat_le v.epoch.0 upto) (overlaps p (version_path v)) (λ a b. grind (arith, nat_tests))
  where
    none : (a b o : Bool) → (a ≡ true → b ≡ true → ⊥) → (a && b && o) ≡ false
    none false b o apart = refl
    none true false o apart = refl
    none true true o apart = absurd (apart refl refl)

-- a range that is empty has no later write
later_none : (p : Path) (e upto : Epoch) (d : Durable) → upto.0 ≤ e.0 → later_write p e upto d ≡ None
unfolding later_write first_between
later_none p e upto d le = ap shown_or_none (find_none (is_between p e.0 upto.0) d.versions (λ k v lt. between_none p e.0 upto.0 _ le))

-- a range may end with the last number
pub later_capped : (p : Path) (e u cap : Epoch) (d : Durable) → HasEpochs d → cap.0 ≡ min (2 ^ 64 - 1) u.0 → later_write p e cap d ≡ later_write p e u d
unfolding later_write first_between
later_capped p e u cap d fits is =
    ap shown_or_none (find_same (is_between p e.0 cap.0) (is_between p e.0 u.0) d.versions (λ k v lt. between_capped p e.0 u.0 cap.0 _ (fits k v lt) is))

pub later_none_capped : (p : Path) (e u cap : Epoch) (d : Durable) → HasEpochs d → cap.0 ≡ min (2 ^ 64 - 1) u.0 → cap.0 ≤ e.0 → None ≡ later_write p e u d
later_none_capped p e u cap d fits is le = sym (later_none p e cap d le) ∙ later_capped p e u cap d fits is
