-- The events of a target keep what is said of epochs.
use Rattle.std.specs.Prelude.{ℕ, ◌≡◌, ◌≤◌, ◌<◌, ◌+◌, ◌*◌, ◌/◌, ◌%◌, ◌^◌, min, max, nat_le, Option, Some, None, refl}
use Rattle.std.specs.Option.{option_map}
use Rattle.std.proofs.Common.{sym, ap, arith}
use Rattle.std.proofs.lemmas.Option.{cond_some}
use Rattle.base_types.specs.declared.epoch.Epoch.{Epoch}
use Rattle.base_types.specs.declared.id.AttemptId.{AttemptId}
use Rattle.base_types.specs.Epochs.{issued_ticks, last_ticks}
use Rattle.world_base.specs.daos_hlc.Clock.{next_ticks}
use Rattle.base_messages.specs.declared.message.Message.{Message}
use Rattle.world_base.specs.declared.did.Did.{Did}
use Rattle.world_base.specs.declared.target.TargetMemory.{TargetMemory}
use Rattle.world_base.specs.declared.target.TargetPlan.{TargetPlan}
use Rattle.world_base.specs.declared.world.World.{World}
use Rattle.world_base.specs.Letters.{client, target}
use Rattle.world_base.specs.Requests.{epoch_of_ticks, request_epoch}
use Rattle.world_letters.specs.epochs.Epochs.{AsksEpoch, IsUnissued}
use Rattle.world_letters.specs.epochs.FetchTurns.{Covers}
use Rattle.world_letters.specs.epochs.Sayings.{Spent}

-- ---- an epoch that is issued

-- ticks that are issued are above those so far and those of the tracker
pub ticks-issued : (target ticks reading tracker t : ℕ) → next_ticks (record { target = target; ticks = ticks }) reading tracker ≡ Some t → (ticks < t) × (tracker / 256 < t)
ticks-issued target ticks reading tracker t h = by (cond_some (nat_le (issued_ticks ticks reading tracker) last_ticks) (issued_ticks ticks reading tracker) t h).1
  where
    above : (a b c : ℕ) → max (max (a + 1) b) (c + 1) ≡ t → (a < t) × (c < t)
    above a b c e = (omega arith, omega arith)

    by : issued_ticks ticks reading tracker ≡ t → (ticks < t) × (tracker / 256 < t)
    by e = above ticks (min reading (2 ^ 55)) (tracker / 256) e

-- it has ticks above those so far and above those of the tracker, and names the target
pub issued-ticks : (t : TargetPlan) (m : TargetMemory) (reading : ℕ) (tracker : Epoch) (e : Epoch) → t.me < 256 → request_epoch t m reading tracker None ≡ Some e
    → (m.ticks < e.0 / 256) × (tracker.0 < e.0) × (e.0 % 256 ≡ t.me)
issued-ticks t m reading tracker e few h = by (next_ticks (record { target = t.me; ticks = m.ticks }) reading tracker.0) refl h
  where
    parts : (n : ℕ) → e.0 ≡ n * 256 + t.me → m.ticks < n → tracker.0 / 256 < n → (m.ticks < e.0 / 256) × (tracker.0 < e.0) × (e.0 % 256 ≡ t.me)
    parts n is a b = (omega (arith, is, few, a), omega (arith, is, b), omega (arith, is, few))

    by : (o : Option ℕ) → next_ticks (record { target = t.me; ticks = m.ticks }) reading tracker.0 ≡ o → option_map (epoch_of_ticks t.me) o ≡ Some e
        → (m.ticks < e.0 / 256) × (tracker.0 < e.0) × (e.0 % 256 ≡ t.me)
    by None is k = let none : ⊥ = cc in absurd none
    by (Some n) is k =
        let up : (m.ticks < n) × (tracker.0 / 256 < n) = ticks-issued t.me m.ticks reading tracker.0 n is in
        let own : epoch_of_ticks t.me n ≡ e = cc in
        parts n (sym (ap (λ z. z.0) own)) up.0 up.1

-- ---- what a turn issues

-- a turn issues nothing, or an epoch to the attempt that asks for one
pub data Issuing (t : TargetPlan) (m : TargetMemory) (reading : ℕ) (said : Message) (lease : ℕ) (left : TargetMemory × Did) : Type 0 where
  Nothing : left.1.issued ≡ None → Issuing t m reading said lease left
  ItsEpoch : (x : AttemptId) (e tracker : Epoch) → AsksEpoch said x tracker → Covers t m reading tracker None e lease → left.1.issued ≡ Some (x, e) → e.0 / 256 ≤ left.0.ticks → Issuing t m reading said lease left

-- ---- the world after a turn

-- those who are told that no epoch is left
abbrev pub MaySpend : World → Option (AttemptId × Epoch) → Spent
MaySpend w o x to = (to ≡ client x.client) × IsUnissued w x × (o ≡ None)
