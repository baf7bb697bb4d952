-- How often a turn reads its clock.
use Rattle.std.proofs.Common.{ℕ, ◌≡◌, ◌≤◌, ◌+◌, refl, sym, ap, subst, Bool, true, false, Option, None, is_some, arith}
use Rattle.std.specs.Prelude.{Result}
pub use Rattle.base_outside.specs.Clocks.{AreReadings, ReadOn, Unread}
use Rattle.base_outside.specs.Clocks.{both-readings}
use Rattle.base_types.specs.declared.epoch.Epoch.{Epoch}
use Rattle.target_parts.specs.declared.stop.TargetStop.{TargetStop}
use Rattle.target_parts.specs.Stops.{stop_wanting}
use Rattle.vos_store.specs.Refusals.{says}

-- a clock was read so often at most
pub record IsReadUpTo {C : Type 0} (IsRead : C → C → Type 0) (most : ℕ) (c d : C) : Type 0 where
  pub times : ℕ
  pub few : times ≤ most
  pub readings : AreReadings IsRead times c d

-- how often a turn may read its clock: once, to issue an epoch; not where that is known, or none is to be issued
abbrev pub most_readings : (known : Bool) → ℕ
most_readings true = 0
most_readings false = 1

-- A turn read its clock just as often, unless memory was wanting in it, and never more often.
pub record IsReadBy {C T : Type 0} (IsRead : C → C → Type 0) (known : Bool) (result : Result T TargetStop) (c d : C) : Type 0 where
  pub few : IsReadUpTo IsRead (most_readings known) c d
  pub just : says stop_wanting result ≡ false → AreReadings IsRead (most_readings known) c d

-- where the epoch is known the clock wasn't read
pub not-read : {C : Type 0} (IsRead : C → C → Type 0) (known : Bool) (c : C) → known ≡ true → AreReadings IsRead (most_readings known) c c
not-read IsRead known c is = subst (λ b. AreReadings IsRead (most_readings b) c c) (sym is) Unread

pub read-once : {C : Type 0} (IsRead : C → C → Type 0) (ep : Option Epoch) (c d : C) → ep ≡ None → IsRead c d → AreReadings IsRead (most_readings (is_some ep)) c d
read-once IsRead ep c d none one = subst (λ o. AreReadings IsRead (most_readings (is_some o)) c d) (sym none) (ReadOn Unread one)

-- a turn that read its clock just so often
pub read-by : {C T : Type 0} (IsRead : C → C → Type 0) (known : Bool) (result : Result T TargetStop) (c d : C) → AreReadings IsRead (most_readings known) c d → IsReadBy IsRead known result c d
read-by IsRead known result c d k = record { few = record { times = most_readings known; few = omega arith; readings = k }; just = λ whole. k }

pub not-read-by : {C T : Type 0} (IsRead : C → C → Type 0) (known : Bool) (result : Result T TargetStop) (c : C) → known ≡ true → IsReadBy IsRead known result c c
not-read-by IsRead known result c is = read-by IsRead known result c c (not-read IsRead known c is)

-- one in which memory was wanting before it read its clock
pub wanting-by : {C T : Type 0} (IsRead : C → C → Type 0) (known : Bool) (result : Result T TargetStop) (c : C) → says stop_wanting result ≡ true → IsReadBy IsRead known result c c
wanting-by IsRead known result c wants = record { few = record { times = 0; few = omega arith; readings = Unread }; just = λ whole. let no : ⊥ = cc in absurd no }

-- a clock that was read no time is as it was
pub unread : {C : Type 0} (IsRead : C → C → Type 0) (known : Bool) (c d : C) → IsReadUpTo IsRead (most_readings known) c d → known ≡ true → d ≡ c
unread IsRead false c d k is = let no : ⊥ = cc in absurd no
unread {C} IsRead true c d k is = by k.times c d k.few k.readings
  where
    by : (n : ℕ) (a b : C) → n ≤ 0 → AreReadings IsRead n a b → b ≡ a
    by n a b few Unread = refl
    by n a b few (ReadOn more one) = absurd (omega (arith, few))

-- a clock is another one after any number of readings
pub record IsReadOn {C : Type 0} (IsRead : C → C → Type 0) (c d : C) : Type 0 where
  pub times : ℕ
  pub readings : AreReadings IsRead times c d

pub not-read_on : {C : Type 0} (IsRead : C → C → Type 0) (c : C) → IsReadOn IsRead c c
not-read_on IsRead c = record { times = 0; readings = Unread }

pub read-up_to : {C : Type 0} (IsRead : C → C → Type 0) (most : ℕ) (c d : C) → IsReadUpTo IsRead most c d → IsReadOn IsRead c d
read-up_to IsRead most c d k = record { times = k.times; readings = k.readings }

pub read-further : {C : Type 0} (IsRead : C → C → Type 0) (c d e : C) → IsReadOn IsRead c d → IsReadOn IsRead d e → IsReadOn IsRead c e
read-further IsRead c d e k l = record { times = k.times + l.times; readings = both-readings IsRead k.times l.times c d e k.readings l.readings }
