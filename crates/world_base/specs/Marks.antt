-- A target hears a Mark: it settles the attempts that it names.
use Rattle.std.specs.Prelude.{ℕ, ◌≡◌, Bool, true, false, List, [], ◌∷◌, Option, Some, None}
use Rattle.base_types.specs.declared.entry.Settle.{Settle}
use Rattle.base_types.specs.declared.entry.Settle.TheVariants.{Abort, Commit}
use Rattle.base_types.specs.declared.id.AttemptId.{AttemptId}
use Rattle.base_messages.specs.declared.actor.ActorId.{ActorId}
use Rattle.base_messages.specs.declared.message.Message.TheVariants.{Marked}
use Rattle.daos_model.specs.declared.durable.Durable.{Durable}
use Rattle.dtx_base.specs.Leading.{attempts_of}
use Rattle.world_base.specs.declared.did.Did.{Did}
use Rattle.world_base.specs.declared.target.TargetMemory.{TargetMemory}
use Rattle.world_base.specs.Changes.{Change, Kept, Settles}
use Rattle.world_base.specs.Requests.{says}

-- what a Mark says became of an attempt
abbrev pub marked_step : Bool → Settle
marked_step true = Commit
marked_step false = Abort

-- The steps of a Mark; a stage is what is left of its list: an attempt that is due is settled. What is due is what is prepared here;
-- in a run that is what is in doubt here.
pub data MarkNext (is_due : AttemptId → Durable → Bool) : List (AttemptId × Bool) → Kept → Option Change → List (AttemptId × Bool) → Type 0 where
  SettlesMarked : (k : Kept) (a : AttemptId) (committed : Bool) (rest : List (AttemptId × Bool)) → is_due a k.durable ≡ true
      → MarkNext is_due ((a, committed) ∷ rest) k (Some (Settles a (marked_step committed))) rest
  PassesBy : (k : Kept) (a : AttemptId) (committed : Bool) (rest : List (AttemptId × Bool)) → is_due a k.durable ≡ false → MarkNext is_due ((a, committed) ∷ rest) k None rest

-- a Mark ends when none is left: the one that sent it is told so of all that it named; this is what is known then
pub data MarkEnds (m : TargetMemory) (from : ActorId) (inc : ℕ) (marks : List (AttemptId × Bool)) : List (AttemptId × Bool) → Kept → TargetMemory × Did → Type 0 where
  AllMarked : (k : Kept) (left : TargetMemory × Did) → left ≡ (m, says from (Marked inc (attempts_of marks)) None) → MarkEnds m from inc marks [] k left
