-- The epoch of a request.
use Rattle.std.proofs.Common.{ℕ, ◌≡◌, refl, sym, subst, Option, Some, None}
use Rattle.std.specs.Prelude.{IfSome}
use Rattle.base_types.specs.declared.epoch.Epoch.{Epoch}
use Rattle.daos_hlc.specs.Clock.{Clock}
use Rattle.target_parts.specs.Covers.{epoch_for}

-- a request that has an epoch keeps it at any reading, and so at the one that the clock tells
pub own_epoch : (next : Option ℕ) (clock : Clock) (tracker e : Epoch) (ep : Option Epoch) → ep ≡ Some e
    → (reading : ℕ) × IfSome next (λ r. r ≡ reading) × (Some e ≡ epoch_for clock reading tracker ep)
own_epoch None clock tracker e ep is = (0, tt, subst (λ o. Some e ≡ epoch_for clock 0 tracker o) (sym is) refl)
own_epoch (Some r) clock tracker e ep is = (r, refl, subst (λ o. Some e ≡ epoch_for clock r tracker o) (sym is) refl)
