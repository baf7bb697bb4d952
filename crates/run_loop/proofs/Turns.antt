-- One turn of an actor, by what the actors' contracts say of it.
use Rattle.std.specs.Prelude.{ℕ, ◌≡◌, ◌≤◌, ◌<◌, Bool, true, false, List, length, max, Option, Result, Ok, Err, OnOk}
use Rattle.std.proofs.Common.{sym, subst, arith}
use Rattle.base_messages.specs.declared.actor.ActorId.{ActorId}
use Rattle.daos_model.specs.declared.durable.Durable.{Durable}
use Rattle.run_base.specs.Picks.{count_to}
use Rattle.run_stage.specs.Below.{AreAlike, AreFindable, CanGo, ClientTurned, GoesOn, StageNow, TargetTurned, client-turn-goes, named-client, named-target, target-turn-goes, turn_of}
use Rattle.vos_store.specs.Calls.{State}
use Rattle.world_base.specs.declared.letter.Letter.{Letter}
use Rattle.world_base.specs.Letters.{client, target}

-- ---- an actor by its kind and number

-- of the letters to it one has this number
pub client-number : (actor : ActorId) (n message : ℕ) (letters : List Letter) → actor.client ≡ true → n ≡ actor.number → message < max 1 (count_to actor letters) → message < max 1 (count_to (client n) letters)
client-number actor n message letters kind named few = subst (λ x. message < max 1 (count_to x letters)) (sym (named-client actor n kind named)) few

pub target-number : (actor : ActorId) (t message : ℕ) (letters : List Letter) → actor.client ≡ false → t ≡ actor.number → message < max 1 (count_to actor letters) → message < max 1 (count_to (target t) letters)
target-number actor t message letters kind named few = subst (λ x. message < max 1 (count_to x letters)) (sym (named-target actor t kind named)) few

-- ---- turns

-- there are few targets
pub few-targets : {S C : Type 0} (durable : S → Option Durable) (state : S → State) (may : S → Durable → Type 0) (a : StageNow S C) → CanGo durable state may a → length a.targets ≤ 64
few-targets durable state may a can = let many = can.many in let most = can.form.few_targets in omega (arith, many, most)

module _ {S C : Type 0} (durable : S → Option Durable) (state : S → State) (may : S → Durable → Type 0) (is_read : C → C → Type 0) (next_reading : C → Option ℕ) (findable : AreFindable durable may) (alike : AreAlike durable) (a b : StageNow S C) (can : CanGo durable state may a) where
  -- an actor's turn leads on, if it comes to its end
  pub client-goes-on : {T E : Type 0} (settling : Bool) (actor : ActorId) (n number : ℕ) (result : Result T E) → actor.client ≡ true → n ≡ actor.number → OnOk result (ClientTurned n number a b) → OnOk result (GoesOn durable state may is_read next_reading (turn_of settling actor number) a b)
  client-goes-on settling actor n number (Ok x) kind named k = subst (λ z. GoesOn durable state may is_read next_reading (turn_of settling z number) a b) (named-client actor n kind named) (client-turn-goes durable state may is_read next_reading findable alike a b can n number k settling)
  client-goes-on settling actor n number (Err e) kind named k = tt

  pub target-goes-on : {T E : Type 0} (settling : Bool) (actor : ActorId) (t number : ℕ) (result : Result T E) → actor.client ≡ false → t ≡ actor.number → OnOk result (TargetTurned durable state may is_read next_reading settling t number a b)
      → OnOk result (GoesOn durable state may is_read next_reading (turn_of settling actor number) a b)
  target-goes-on settling actor t number (Ok x) kind named k = subst (λ z. GoesOn durable state may is_read next_reading (turn_of settling z number) a b) (named-target actor t kind named) (target-turn-goes durable state may is_read next_reading findable alike a b can settling t number k)
  target-goes-on settling actor t number (Err e) kind named k = tt
