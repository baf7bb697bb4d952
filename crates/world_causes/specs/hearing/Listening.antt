-- A target hears what comes after stops and changes nothing that it keeps: an Ask, a Status, or a Reset of what leaders and members ask.
use Rattle.std.specs.Prelude.{ℕ, ◌≡◌, Bool, true, false, not, [], Some, None, refl}
use Rattle.std.proofs.Common.{sym, ap, subst, inl, inr}
use Rattle.base_types.specs.declared.epoch.Epoch.{Epoch}
use Rattle.base_types.specs.declared.id.AttemptId.{AttemptId}
use Rattle.base_types.specs.declared.outcome.FloorWhy.{FloorWhy}
use Rattle.base_messages.specs.declared.actor.ActorId.{ActorId}
use Rattle.base_messages.specs.declared.message.Message.{Message, more_of-Message}
use Rattle.base_messages.specs.declared.message.Message.TheVariants as message
use Rattle.model_laws.specs.Members.{Has, has-from_filter}
use Rattle.daos_model.specs.BoolLaws.{not_true}
use Rattle.dtx_base.specs.declared.member.Parked.{Parked}
use Rattle.dtx_base.specs.Joining as member
use Rattle.world_base.specs.declared.did.Did.{Did}
use Rattle.world_base.specs.declared.target.TargetMemory.{TargetMemory}
use Rattle.world_base.specs.declared.target.TargetPlan.{TargetPlan}
use Rattle.world_base.specs.Changes.{Kept}
use Rattle.world_base.specs.Further.{HearsFurther, reset_by}
use Rattle.world_base.specs.Roles.{member_at}
use Rattle.world_base.specs.Statuses.{ask_left, reset_left, state_of, status_left}
use Rattle.daos_model.specs.Durables.{entry_of}
use Rattle.world_contents.specs.world_commit.statuses.ResetTurns.{is_collecting}
use Rattle.world_contents.specs.world_commit.statuses.Turns.{Looked, looked}
use Rattle.world_causes.specs.hearing.Saying.{AllSay, TellsState, ask-says, reset-says}

-- such a message
abbrev pub is_listened : Message → Bool
is_listened (message.Ask x) = true
is_listened (message.Status x inc) = true
is_listened (message.Reset' by down place (more_of-Message q rest)) = not (is_collecting q)
is_listened m = false

-- what it keeps stays, its clock and its timestamps too; it issues no epoch, no more Fetches wait, and it says nothing but that
pub record Listens (old : Kept) (m : TargetMemory) (new : Kept) (left : TargetMemory × Did) : Type 0 where
  pub same : new ≡ old
  pub says : AllSay old.durable m.member.parked left.1.posts
  pub issued : left.1.issued ≡ None
  pub lines : left.1.lines ≡ []
  pub stamps : left.0.stamps ≡ m.stamps
  pub ticks : left.0.ticks ≡ m.ticks
  pub parked : (p : Parked) → Has p left.0.member.parked → Has p m.member.parked

module _ (t : TargetPlan) (m : TargetMemory) (old : Kept) where
  -- from what is left
  left-so : (left_by : Kept → TargetMemory × Did) (new : Kept) (left : TargetMemory × Did) → Looked left_by old new left → Listens old m old (left_by old) → Listens old m new left
  left-so left_by new left z k = subst (λ n. Listens old m n left) (sym z.same) (subst (Listens old m old) (sym z.follows) k)

  asks-so : (x : AttemptId) (from : ActorId) → Listens old m old (ask_left t m from x old)
  asks-so x from = record { same = refl; says = ask-says t m old.durable m.member.parked x from; issued = refl; lines = refl; stamps = refl; ticks = refl; parked = λ p i. i }

  states-so : (x : AttemptId) (inc : ℕ) (from : ActorId) → Listens old m old (status_left m from x inc old)
  states-so x inc from = record { same = refl; says = says; issued = refl; lines = refl; stamps = refl; ticks = refl; parked = λ p i. i }
    where
      says : AllSay old.durable m.member.parked (status_left m from x inc old).1.posts
      says p (inl same) = TellsState x inc (state_of (entry_of old.durable x)) (ap (λ n. n.message) same)
      says p (inr j) = absurd j

  parked-so : (down : Bool) (q : Message) (p : Parked) → Has p (member.reset_heard down q (member_at t m)).member.memory.parked → Has p m.member.parked
  unfolding member.unresolved
  parked-so down (message.Query a None) p i = i
  parked-so down (message.Query a (Some x)) p i = (has-from_filter (member.is_not_waiting a x) m.member.parked p i).0
  parked-so down q p i = i

  resets-so : (by : ℕ) (down : Bool) (q : Message) → Listens old m old (reset_left t m by down q old)
  resets-so by down q = record { same = refl; says = reset-says t m old.durable by down q; issued = refl; lines = refl; stamps = refl; ticks = refl; parked = parked-so down q }

  reset-by : (by : ℕ) (down : Bool) (q : Message) → is_collecting q ≡ false → reset_by t m by down q old ≡ reset_left t m by down q old
  reset-by by down (message.Freeze x c s) off = let no : ⊥ = cc in absurd no
  reset-by by down (message.Prune x c tracker e) off = let no : ⊥ = cc in absurd no
  reset-by by down q off = refl

pub listens : (number : ℕ) (t : TargetPlan) (opening : Epoch × FloorWhy) (m : TargetMemory) (reading : ℕ) (from : ActorId) (q : Message) (old new : Kept) (left : TargetMemory × Did) → is_listened q ≡ true
    → HearsFurther number t opening m reading from q old new left → Listens old m new left
listens number t opening m reading from (message.Ask x) old new left is turn = left-so t m old (ask_left t m from x) new left (looked (ask_left t m from x) old new left turn) (asks-so t m old x from)
listens number t opening m reading from (message.Status x inc) old new left is turn = left-so t m old (status_left m from x inc) new left (looked (status_left m from x inc) old new left turn) (states-so t m old x inc from)
listens number t opening m reading from (message.Reset' by down place (more_of-Message q rest)) old new left is turn =
    left-so t m old (reset_by t m by down q) new left (looked (reset_by t m by down q) old new left turn)
    (subst (Listens old m old) (sym (reset-by t m old by down q (not_true (is_collecting q) is))) (resets-so t m old by down q))
listens number t opening m reading from q old new left is turn = let no : ⊥ = cc in absurd no
