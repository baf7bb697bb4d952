-- Whether a region that is read has stopped, and why.
use Rattle.std.specs.Prelude.{◌≡◌, ◌⊎◌, ◌≤◌, ℕ, Bool, true, false, ◌||◌, Result, Ok, Err}
use Rattle.base_outside.specs.Causes.{Rose}
use Rattle.vos_check_base.specs.declared.refusal.CheckNo.{CheckNo}
use Rattle.vos_check_base.specs.declared.refusal.CheckNo.TheVariants.{Stopped, Foreign, Memory}

-- whether it stopped, and how often the outside and a fuse have failed it
pub record Health : Type 0 where
  pub stopped : Bool
  pub faults : ℕ
  pub burns : ℕ

-- one of the two counts rose
abbrev pub IsHurt : Health → Health → Type 0
IsHurt before now = Rose before.faults now.faults ⊎ Rose before.burns now.burns

-- A call that answers so came between the two: no count fell, it stopped where the call says so, and that says so only where a count rose or it
-- had stopped before.
pub record Fares (before now : Health) (stops : Bool) : Type 0 where
  pub later_faults : before.faults ≤ now.faults
  pub later_burns : before.burns ≤ now.burns
  pub stopped : now.stopped ≡ (before.stopped || stops)
  pub cause : stops ≡ true → (before.stopped ≡ true) ⊎ IsHurt before now

-- A call that only reads came between the two.
pub record IsRead {S : Type 0} (health : S → Health) (looked : S → S → Type 0) (old new : S) (stops : Bool) : Type 0 where
  pub fares : Fares (health old) (health new) stops
  pub looks : looked old new

-- an answer says that a read failed
abbrev pub is_stopped : CheckNo → Bool
is_stopped Stopped = true
is_stopped (Foreign at byte) = false
is_stopped Memory = false

abbrev pub says_stopped : {V : Type 0} → Result V CheckNo → Bool
says_stopped (Ok v) = false
says_stopped (Err e) = is_stopped e
