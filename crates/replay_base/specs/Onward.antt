-- A target's turn from some stage on, where its free blocks so far aren't told.
use Rattle.std.specs.Prelude.{ℕ, ◌≡◌, ◌≤◌, Bool, true, false, Option}
use Rattle.daos_model.specs.declared.durable.Durable.{Durable}
use Rattle.world_base.specs.Changes.{Change, Kept}
use Rattle.world_base.specs.Turns.{Whole}

-- each of two facts follows from the other one
abbrev pub Iff : Type 0 → Type 0 → Type 0
Iff P Q = (P → Q) × (Q → P)

-- free blocks after changes that take none: no fewer than before; and as before where no change was made
abbrev pub FreeAfter : Bool → ℕ → ℕ → Type 0
FreeAfter false before after = after ≡ before
FreeAfter true before after = before ≤ after

abbrev pub keeps : Durable → ℕ → Kept
keeps d free = record { durable = d; free = free }

-- From a stage on, with this kept, a turn goes to its end. Its changes so far, if it made any, took no free blocks of those
-- at its beginning.
pub record Onward {S R : Type 0} (Next : S → Kept → Option Change → S → Type 0) (Ends : S → Kept → R → Type 0) (stage : S) (d : Durable) (changed : Bool) (free : ℕ) (new : Kept) (result : R) : Type 0 where
  pub blocks : ℕ
  pub may : FreeAfter changed free blocks
  pub turn : Whole Next Ends stage (keeps d blocks) new result
