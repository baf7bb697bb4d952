-- Epochs, by what a target knows: those that are issued, and those of versions.
use Rattle.std.proofs.Common.{ℕ, ◌≡◌, ◌/◌, ◌≤◌, ◌<◌, ◌^◌, refl, sym, ◌∙◌, ap, subst, true, false, nat_le, All, List, Option, Some, None, arith}
use Rattle.std.specs.Prelude.{if◌then◌else◌}
use Rattle.std.specs.Option.{option_map}
use Rattle.base_types.specs.declared.entry.Entry.{Entry}
use Rattle.base_types.specs.declared.epoch.Epoch.{Epoch}
use Rattle.base_types.specs.Epochs.{epoch_at, issued_ticks, last_ticks}
use Rattle.daos_hlc.specs.Clock.{Clock, next_ticks, within_last}
use Rattle.daos_model.specs.declared.durable.Durable.{Durable}
use Rattle.daos_model.specs.Durables.{IsInForm}
use Rattle.world_contents.specs.world_base.declared.target.TargetMemory.{TargetMemory}
use Rattle.world_contents.specs.world_base.declared.target.TargetPlan.{TargetPlan}
use Rattle.world_contents.specs.world_base.Requests.{epoch_of_ticks, request_epoch}
use Rattle.target_parts.specs.Covers.{epoch_for}
use Rattle.target_parts.specs.Knowing.{HasEpochs, IsHeard, LeadsWell}

-- a target's clock issues by what the target knows
pub epoch-known : (t : TargetPlan) (m : TargetMemory) (clock : Clock) (reading : ℕ) (tracker : Epoch) (ep : Option Epoch) → clock.target ≡ t.me → m.ticks ≡ clock.ticks
    → request_epoch t m reading tracker ep ≡ epoch_for clock reading tracker ep
epoch-known t m clock reading tracker None own ticks =
    ap (λ x. option_map (epoch_of_ticks x) (within_last (issued_ticks m.ticks reading tracker.0))) (sym own)
    ∙ ap (λ x. option_map (epoch_of_ticks clock.target) (within_last (issued_ticks x reading tracker.0))) ticks
epoch-known t m clock reading tracker (Some e) own ticks = refl

ticks-above : (old reading tracker ticks : ℕ) → ticks ≡ issued_ticks old reading tracker → old < ticks
ticks-above old reading tracker ticks is = omega arith

ticks-of_epoch : (ticks target : ℕ) → target < 256 → epoch_at ticks target / 256 ≡ ticks
ticks-of_epoch ticks target small = omega arith

-- the ticks of an epoch that is issued are above those so far
issued-above : (clock : Clock) (reading tracker : ℕ) (e : Epoch) → clock.target < 256 → option_map (epoch_of_ticks clock.target) (next_ticks clock reading tracker) ≡ Some e → clock.ticks < e.0 / 256
issued-above clock reading tracker e small is =
    elim (nat_le (issued_ticks clock.ticks reading tracker) last_ticks) as (λ b. option_map (epoch_of_ticks clock.target) (if b then Some (issued_ticks clock.ticks reading tracker) else None) ≡ Some e → clock.ticks < e.0 / 256) [
      | true ↦ λ here.
          let same : epoch_at (issued_ticks clock.ticks reading tracker) clock.target ≡ e.0 = cc in
          subst (λ n. clock.ticks < n / 256) same (subst (λ n. clock.ticks < n) (sym (ticks-of_epoch (issued_ticks clock.ticks reading tracker) clock.target small)) (ticks-above clock.ticks reading tracker (issued_ticks clock.ticks reading tracker) refl))
      | false ↦ λ here. absurd (let no : ⊥ = cc in no)
    ] is

epochs-apart : (x e ticks : ℕ) → x / 256 ≤ ticks → ticks < e / 256 → x ≡ e → ⊥
epochs-apart x e ticks le lt same = omega arith

-- no version has an epoch that is issued
pub issued-unused : (clock : Clock) (reading : ℕ) (tracker e : Epoch) (d : Durable) → clock.target < 256 → IsHeard clock.ticks d → epoch_for clock reading tracker None ≡ Some e
    → All (λ v. v.epoch.0 ≡ e.0 → ⊥) d.versions
issued-unused clock reading tracker e d small heard is = λ k v lt same. epochs-apart _ e.0 clock.ticks (heard.versions k v lt) (issued-above clock reading tracker.0 e small is) same

has-epoch : (n ticks lease : ℕ) → n / 256 ≤ ticks → ticks ≤ lease → lease < 2 ^ 56 → n < 2 ^ 64
has-epoch n ticks lease a b c = omega arith

-- epochs whose ticks the lease covers are numbers of 64 bits
pub has-epochs : (t : TargetPlan) (m : TargetMemory) (es : List Entry) (d : Durable) → LeadsWell t m es d → IsInForm d → HasEpochs d
has-epochs t m es d k form = λ i v lt. has-epoch _ m.ticks d.lease (k.heard.versions i v lt) k.heard.leased form.lease
