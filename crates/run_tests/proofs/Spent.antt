-- A store whose lease is at its end.
use Rattle.std.specs.Prelude.{ℕ, ◌≡◌, ◌≤◌, ◌<◌, ◌+◌, ◌^◌, All, Contains, List, [], ◌∷◌, replicate, slice_set, Option, Some, None, refl}
use Rattle.std.proofs.Common.{suc, zero, sym, ◌∙◌, ap, subst, arith}
use Rattle.base_types.specs.Epochs.{restart_floor}
use Rattle.daos_model.specs.Changes.{leased}
use Rattle.daos_model.specs.Durables.{empty_durable}
use Rattle.daos_model.specs.Sound.{IsCovered, Sound}
use Rattle.daos_model.specs.declared.durable.Durable.{Durable}
use Rattle.model_laws.specs.DecidedLaws.{all-from_has, has-all}
use Rattle.model_laws.specs.Members.{has-from_contains}
use Rattle.run_opening.specs.Alike.{KeepsData}
use Rattle.run_opening.specs.AlikeSound.{alike-sound}
use Rattle.run_opening.specs.Opened.{AreFloored}
use Rattle.run_opening.specs.UnusedLaws.{unused-sound}
use Rattle.run_tests.specs.Lone.{CanOpenAny, IsLeft, IsOver}
use Rattle.run_tests.proofs.Places.{same-some}
use Rattle.run_tests.proofs.Runs.{none-used}
use Rattle.vos_plain.specs.Plain.{plain_durable}
use Rattle.vos_plain.specs.declared.store.PlainStore.{PlainStore}

-- so many ticks more are leased
abbrev leased_on : ℕ → Durable → Durable
leased_on n d = record d { lease = d.lease + n }

leased-data : (n : ℕ) → KeepsData (leased_on n)
leased-data n = record { versions = λ d. refl; entries = λ d. refl; snaps = λ d. refl }

-- what a lease covers, a longer one does
module _ {T : Type 0} (f : T → ℕ) (n lease : ℕ) where
  all-covered : (xs : List T) → All (λ x. f x ≤ restart_floor lease) xs → All (λ x. f x ≤ restart_floor (lease + n)) xs
  all-covered xs k = all-from_has (λ x. f x ≤ restart_floor (lease + n)) xs (λ x i. let low = has-all (λ y. f y ≤ restart_floor lease) xs x k i in omega (arith, low))

leased-covered : (n : ℕ) (d : Durable) → IsCovered d → IsCovered (leased_on n d)
leased-covered n d k = record {
  versions = all-covered (λ v. v.epoch.0) n d.lease d.versions k.versions;
  entries = all-covered (λ e. e.epoch.0) n d.lease d.entries k.entries;
  floors = all-covered (λ r. r.floor.0) n d.lease d.conts k.floors;
  aggregated = all-covered (λ r. r.aggregated.0) n d.lease d.conts k.aggregated;
  snaps = all-covered (λ s. s.epoch.0) n d.lease d.snaps k.snaps;
}

-- it holds no snapshot
leased-low : (n : ℕ) → AreFloored (leased n (empty_durable 1) ∷ [])
unfolding leased
leased-low n zero d at x i = let same : leased n (empty_durable 1) ≡ d = same-some (leased n (empty_durable 1)) d at in absurd (has-from_contains [] x (subst (λ y. Contains y.snaps x) (sym same) i))
leased-low n (suc t) d at x i = absurd (let e : None ≡ Some d = at in cc)

leased-opens : (n : ℕ) → CanOpenAny (leased n (empty_durable 1))
unfolding leased
leased-opens n =
    let none : 0 + n ≡ n = omega arith in
    record { sound = subst (λ l. Sound (leased l (empty_durable 1) ∷ [])) none (alike-sound (leased_on n) (leased-data n) (leased-covered n) (empty_durable 1 ∷ []) (unused-sound (empty_durable 1 ∷ []) none-used)); floored = λ t d at. leased-low n t d at }

pub spent-left : {C : Type 0} (parts slots : List (Option (PlainStore × C))) (new store : PlainStore) (clock : C) (n : ℕ) → parts ≡ replicate 1 None → slots ≡ slice_set parts 0 (Some (store, clock)) → plain_durable new ≡ empty_durable 1 → Some (plain_durable store) ≡ Some (leased n (plain_durable new))
    → IsOver IsLeft slots
unfolding leased
spent-left parts slots new store clock n empty set fresh extended =
    let is : plain_durable store ≡ leased n (empty_durable 1) = same-some (plain_durable store) (leased n (plain_durable new)) extended ∙ ap (leased n) fresh in
    record {
      store = store;
      clock = clock;
      is = set ∙ ap (λ ys. slice_set ys 0 (Some (store, clock))) empty;
      so = record {
        reopens = subst (λ d. d.incarnation + 1 < 2 ^ 64) (sym is) (omega arith);
        opens = subst CanOpenAny (sym is) (leased-opens n);
      };
    }
