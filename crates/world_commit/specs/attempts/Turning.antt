-- What one target's change leaves of what all targets know.
use Rattle.std.specs.Prelude.{ℕ, ◌≡◌, ◌⊎◌, Bool, true, false, ◌==◌, slice_get, Some, refl, List, ◌++◌, Option}
use Rattle.std.proofs.Common.{sym, ◌∙◌, ap, subst, arith, inl, inr}
use Rattle.std.proofs.Math.ListN.{set}
use Rattle.std.proofs.lemmas.Bool.Decides.{nat_tests}
use Rattle.base_types.specs.declared.epoch.Epoch.{Epoch}
use Rattle.base_types.specs.declared.id.AttemptId.{AttemptId}
use Rattle.model_laws.specs.Members.{Has}
use Rattle.daos_model.specs.Durables.{entry_of, same_attempt}
use Rattle.daos_model.specs.EntryLaws.{same_attempt-itself}
use Rattle.dtx_base.specs.LeaderLaws.{same-is}
use Rattle.dtx_base.specs.Leading.{undecided_attempt}
use Rattle.dtx_base.specs.Rows.{is_among, row_of}
use Rattle.world_commit.specs.attempts.Attempts.{IsOrdered, entry_at, entry_in, inc_at, inc_in, is_known_at, is_known_in, row_at, row_in, is_asked_by, is_prepare_to, is_target}
use Rattle.world_base.specs.declared.target.TargetState.{TargetState}
use Rattle.world_base.specs.declared.world.World.{World}
use Rattle.world_base.specs.StepLaws.{set-here, set-there}
use Rattle.world_base.specs.Reads.{Asked, FetchStage, Known, Reading}
use Rattle.world_base.specs.declared.target.TargetMemory.{TargetMemory}
use Rattle.world_base.specs.Roles.{with_unsettled}
use Rattle.base_messages.specs.declared.message.Post.{Post}
use Rattle.world_base.specs.Letters.{letters_of, target}
use Rattle.base_messages.specs.declared.actor.ActorId.{ActorId}
use Rattle.base_types.specs.declared.entry.Entry.{Entry}
use Rattle.world_base.specs.declared.letter.Letter.{Letter}
use Rattle.base_types.specs.declared.operation.MinorWrite.{MinorWrite}
use Rattle.base_types.specs.declared.outcome.Outcome.{Outcome}
use Rattle.daos_model.specs.BoolLaws.{both}
use Rattle.base_messages.specs.declared.message.Message.TheVariants as message

-- two attempts are one, or they aren't
pub one-or_other : (x a : AttemptId) → (x ≡ a) ⊎ (x ≡ a → ⊥)
one-or_other x a = by (same_attempt x a) refl
  where
    by : (b : Bool) → same_attempt x a ≡ b → (x ≡ a) ⊎ (x ≡ a → ⊥)
    by true is = inl (same-is x a is)
    by false is = inr (λ same. let own : same_attempt x a ≡ true = ap (same_attempt x) (sym same) ∙ same_attempt-itself x in (let no : ⊥ = cc (own, is) in no))

pub one-or_another : (t u : ℕ) → (t ≡ u) ⊎ (t ≡ u → ⊥)
one-or_another t u = by (t == u) refl
  where
    by : (b : Bool) → (t == u) ≡ b → (t ≡ u) ⊎ (t ≡ u → ⊥)
    by true is = inl (grind (arith, nat_tests))
    by false is = inr (λ same. grind (arith, nat_tests))

-- a target's state changes, and no other one; its incarnation stays, and what was issued
pub record Turned (w v : World) (t : ℕ) (s z : TargetState) : Type 0 where
  pub here : slice_get w.targets t ≡ Some s
  pub targets : v.targets ≡ set w.targets t z
  pub incarnation : z.durable.incarnation ≡ s.durable.incarnation
  pub issued : (x : AttemptId) (e : Epoch) → Has (x, e) w.issued → Has (x, e) v.issued

-- what a target knows of an attempt stays
pub record Stays (s z : TargetState) (x : AttemptId) : Type 0 where
  pub entry : entry_of z.durable x ≡ entry_of s.durable x
  pub row : row_of undecided_attempt x z.memory.leader.undecided ≡ row_of undecided_attempt x s.memory.leader.undecided
  pub known : is_among x z.memory.leader.decided ≡ is_among x s.memory.leader.decided

module _ (w v : World) (t : ℕ) (s z : TargetState) (k : Turned w v t s z) where
  pub now : slice_get v.targets t ≡ Some z
  now = ap (λ ts. slice_get ts t) k.targets ∙ set-here w.targets t s z k.here

  pub elsewhere : (u : ℕ) → (u ≡ t → ⊥) → slice_get v.targets u ≡ slice_get w.targets u
  elsewhere u other = ap (λ ts. slice_get ts u) k.targets ∙ set-there w.targets t u z other

  pub entry-now : (x : AttemptId) → entry_at v t x ≡ entry_of z.durable x
  entry-now x = ap (λ o. entry_in o x) now

  pub entry-before : (x : AttemptId) → entry_at w t x ≡ entry_of s.durable x
  entry-before x = ap (λ o. entry_in o x) k.here

  pub row-now : (x : AttemptId) → row_at v t x ≡ row_of undecided_attempt x z.memory.leader.undecided
  row-now x = ap (λ o. row_in o x) now

  pub row-before : (x : AttemptId) → row_at w t x ≡ row_of undecided_attempt x s.memory.leader.undecided
  row-before x = ap (λ o. row_in o x) k.here

  pub known-now : (x : AttemptId) → is_known_at v t x ≡ is_among x z.memory.leader.decided
  known-now x = ap (λ o. is_known_in o x) now

  pub known-before : (x : AttemptId) → is_known_at w t x ≡ is_among x s.memory.leader.decided
  known-before x = ap (λ o. is_known_in o x) k.here

  pub entry-elsewhere : (x : AttemptId) (u : ℕ) → (u ≡ t → ⊥) → entry_at v u x ≡ entry_at w u x
  entry-elsewhere x u other = ap (λ o. entry_in o x) (elsewhere u other)

  pub row-elsewhere : (x : AttemptId) (u : ℕ) → (u ≡ t → ⊥) → row_at v u x ≡ row_at w u x
  row-elsewhere x u other = ap (λ o. row_in o x) (elsewhere u other)

  pub known-elsewhere : (x : AttemptId) (u : ℕ) → (u ≡ t → ⊥) → is_known_at v u x ≡ is_known_at w u x
  known-elsewhere x u other = ap (λ o. is_known_in o x) (elsewhere u other)

  pub inc-stays : (u : ℕ) → inc_at v u ≡ inc_at w u
  inc-stays u = elim (one-or_another u t) [
    | inl same ↦ subst (λ n. inc_at v n ≡ inc_at w n) (sym same) (ap inc_in now ∙ k.incarnation ∙ sym (ap inc_in k.here))
    | inr other ↦ ap inc_in (elsewhere u other)
  ]

  -- what all know of an attempt that the change leaves as it is
  pub entry-stays : (x : AttemptId) → entry_of z.durable x ≡ entry_of s.durable x → (u : ℕ) → entry_at v u x ≡ entry_at w u x
  entry-stays x same u = elim (one-or_another u t) [
    | inl here ↦ subst (λ n. entry_at v n x ≡ entry_at w n x) (sym here) (entry-now x ∙ same ∙ sym (entry-before x))
    | inr other ↦ entry-elsewhere x u other
  ]

  pub row-stays : (x : AttemptId) → row_of undecided_attempt x z.memory.leader.undecided ≡ row_of undecided_attempt x s.memory.leader.undecided → (u : ℕ) → row_at v u x ≡ row_at w u x
  row-stays x same u = elim (one-or_another u t) [
    | inl here ↦ subst (λ n. row_at v n x ≡ row_at w n x) (sym here) (row-now x ∙ same ∙ sym (row-before x))
    | inr other ↦ row-elsewhere x u other
  ]

  pub known-stays : (x : AttemptId) → is_among x z.memory.leader.decided ≡ is_among x s.memory.leader.decided → (u : ℕ) → is_known_at v u x ≡ is_known_at w u x
  known-stays x same u = elim (one-or_another u t) [
    | inl here ↦ subst (λ n. is_known_at v n x ≡ is_known_at w n x) (sym here) (known-now x ∙ same ∙ sym (known-before x))
    | inr other ↦ known-elsewhere x u other
  ]

  -- targets stand in order if this one does
  pub ordered-on : IsOrdered z → ((u : ℕ) (q : TargetState) → slice_get w.targets u ≡ Some q → IsOrdered q) → (u : ℕ) (q : TargetState) → slice_get v.targets u ≡ Some q → IsOrdered q
  ordered-on own all u q at = elim (one-or_another u t) [
    | inl here ↦ let found : Some z ≡ Some q = sym now ∙ subst (λ n. slice_get v.targets n ≡ Some q) here at in subst IsOrdered (let one : z ≡ q = cc in one) own
    | inr other ↦ all u q (sym (elsewhere u other) ∙ at)
  ]

-- what a target knows at a stage of a Fetch
abbrev pub fetch_memory : TargetMemory → FetchStage → TargetMemory
fetch_memory n Asked = n
fetch_memory n (Known e) = n
fetch_memory n (Reading e decided) = with_unsettled decided n

abbrev pub issue : AttemptId → Epoch → AttemptId × Epoch
issue x e = (x, e)

-- the world while a target is in the middle of a turn, in this state and with these messages sent
abbrev pub at_work : World → ℕ → TargetState → List Post → World
at_work w t z posts = record w { targets = set w.targets t z; messages = w.messages ++ letters_of (target t) posts }

-- a Prepare to a target asks it for its attempt
pub prepare-to : (l : Letter) (t : ℕ) (e : Entry) (first : Option Epoch) (ws : List MinorWrite) (inc : ℕ) → l.message ≡ message.Prepare e first ws inc → l.to ≡ target t → is_prepare_to e.attempt t l ≡ true
unfolding is_prepare_to
prepare-to l t e first ws inc is to =
    ap (is_asked_by e.attempt t l.to) is
    ∙ both (same_attempt e.attempt e.attempt) (is_target t l.to) (same_attempt-itself e.attempt) (ap (is_target t) to ∙ own t)
  where
    own : (t : ℕ) → is_target t (target t) ≡ true
    own t = grind (arith, nat_tests)

-- an Ack isn't a Prepare
pub ack-no_prepare : (x : AttemptId) (m : ℕ) (from to : ActorId) (a : AttemptId) (inc : ℕ) (refusal : Option Outcome) → is_prepare_to x m (record { from = from; to = to; message = message.Ack a inc refusal }) ≡ true → ⊥
unfolding is_prepare_to
ack-no_prepare x m from to a inc refusal is = let no : ⊥ = cc in no
