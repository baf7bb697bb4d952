-- Which actors have something to do, and what they hear, is that of each world that they show.
use Rattle.std.specs.Prelude.{ℕ, ◌≡◌, ◌≤◌, ◌<◌, ◌++◌, All, Bool, true, false, ◌||◌, nat_lt, List, [], ◌∷◌, filter, length, slice_get, max, Option, Some, refl, if◌then◌else◌}
use Rattle.std.proofs.Common.{sym, ◌∙◌, ap, subst, arith}
use Rattle.std.proofs.lemmas.Bool.Decides.{nat_tests}
use Rattle.std.proofs.lemmas.List.{append-nil}
use Rattle.std.proofs.lemmas.List.Elements.{All-append, All-cons, All-nil, filter-append}
use Rattle.base_messages.specs.declared.actor.ActorId.{ActorId}
use Rattle.client_core.specs.Clients.{ClientNow}
use Rattle.daos_model.specs.FormLaws.{length-map}
use Rattle.daos_model.specs.declared.durable.Durable.{Durable}
use Rattle.model_laws.specs.Lists.{at-within}
use Rattle.run_base.specs.Picks as picks
use Rattle.run_base.specs.Picks.{count_to, heard_awake, heard_by_client, if_client_due, if_target_due, is_client_due, is_due, is_due_where, numbered}
use Rattle.run_laws.specs.shows.Due.{AllAreDue, AreDue, IsActor, IsUp, is_due_client}
use Rattle.run_laws.specs.shows.ListLaws.{map-get}
use Rattle.run_laws.specs.shows.Parts.{target-there}
use Rattle.run_laws.specs.shows.Shows.{IsTargetOf, Shows, state_of}
use Rattle.run_laws.specs.shows.Stages.{IsPlace, StageNow}
use Rattle.run_laws.specs.turns.Turns.{heard_by_target, heard_in, heard_where}
use Rattle.target_core.specs.Targets.{TargetOf}
use Rattle.vos_store.specs.Calls.{State}
use Rattle.world_base.specs.declared.client.ClientState.{ClientState}
use Rattle.world_base.specs.declared.target.Life.{Life}
use Rattle.world_base.specs.declared.target.Life.TheVariants.{Down, Running, Stopped}
use Rattle.world_base.specs.declared.target.TargetState.{TargetState}
use Rattle.world_base.specs.declared.world.World.{World}
use Rattle.world_base.specs.Events.{Rules, client_plan, target_plan}
use Rattle.world_base.specs.Idle.{has_idle}
use Rattle.world_base.specs.Letters.{client, target}

-- ---- actors

abbrev actor : Bool → ℕ → ActorId
actor kind n = record { client = kind; number = n }

-- an actor by its kind and number
pub named-client : (a : ActorId) (n : ℕ) → a.client ≡ true → n ≡ a.number → client n ≡ a
named-client a n kind named = ap (actor true) named ∙ ap (λ k. actor k a.number) (sym kind)

pub named-target : (a : ActorId) (n : ℕ) → a.client ≡ false → n ≡ a.number → target n ≡ a
named-target a n kind named = ap (actor false) named ∙ ap (λ k. actor k a.number) (sym kind)

pub client-is-there : (n clients targets : ℕ) → n < clients → IsActor clients targets (client n)
client-is-there n clients targets within = record { client = λ is. within; target = λ is. let no : ⊥ = cc in absurd no }

pub target-is-there : (t clients targets : ℕ) → t < targets → IsActor clients targets (target t)
target-is-there t clients targets within = record { client = λ is. let no : ⊥ = cc in absurd no; target = λ is. within }

pub client-is-up : (lives : List Life) (n : ℕ) → IsUp lives (client n)
client-is-up lives n is down = let no : ⊥ = cc in no

pub target-is-up : (lives : List Life) (t : ℕ) → (slice_get lives t ≡ Some Down → ⊥) → IsUp lives (target t)
target-is-up lives t up is down = up down

-- ---- letters

-- a client that hears one of these letters is awake, and the number is that of one of them
pub record HearsOne (c : ClientState) (count number : ℕ) : Type 0 where
  pub awake : c.skip ≡ 0
  pub within : number < count

pub hears-one : (c : ClientState) (count heard number : ℕ) → heard ≡ heard_awake c count → 0 < heard → number < max 1 count → HearsOne c count number
hears-one c count heard number is some within = by (nat_lt 0 c.skip) refl
  where
    by : (b : Bool) → nat_lt 0 c.skip ≡ b → HearsOne c count number
    by true s = absurd (let none : heard ≡ 0 = is ∙ ap (λ b. if b then 0 else count) s in omega (arith, none, some))
    by false s = record { awake = grind (arith, nat_tests); within = let all : heard ≡ count = is ∙ ap (λ b. if b then 0 else count) s in let few : number < max 1 count = within in omega (arith, all, some, few) }

-- how many are heard are in flight
awake-few : (c : ClientState) (count : ℕ) → heard_awake c count ≤ count
awake-few c count = by (nat_lt 0 c.skip)
  where
    by : (b : Bool) → (if b then 0 else count) ≤ count
    by true = omega arith
    by false = omega arith

where-few : (life : Life) (count : ℕ) → heard_where life count ≤ count
where-few Running count = omega arith
where-few Stopped count = omega arith
where-few Down count = omega arith

-- ---- what is shown

module _ {S C : Type 0} (durable : S → Option Durable) (state : S → State) (r : Rules) (found : ℕ → Durable) (a : StageNow S C) (w : World) (k : Shows durable state r found a w) where
  pub many-clients : length w.clients ≡ length a.clients
  many-clients = ap length k.clients ∙ length-map state_of a.clients

  client-here : (n : ℕ) (c : ClientNow) → slice_get a.clients n ≡ Some c → slice_get w.clients n ≡ Some c.state
  client-here n c at = ap (λ cs. slice_get cs n) k.clients ∙ map-get state_of a.clients n c at

  -- a client has something to do where it has in the world
  pub client-due-shown : (settling : Bool) (n : ℕ) → n < length a.clients → is_due_client a.between.messages n (slice_get a.clients n) ≡ is_due settling r w (client n)
  client-due-shown settling n within =
      let c = at-within a.clients n within in
      ap (is_due_client a.between.messages n) c.1
      ∙ ap (λ p. is_client_due p c.0.state (count_to (client n) a.between.messages)) (k.plans n c.0 c.1)
      ∙ ap (λ ls. is_client_due (client_plan r n) c.0.state (count_to (client n) ls)) k.messages
      ∙ ap (if_client_due (client_plan r n) (count_to (client n) w.messages)) (sym (client-here n c.0 c.1))

  -- so has a target: one that runs by its letters and its idle work
  pub target-due-shown : (settling : Bool) (t : ℕ) (x : TargetOf S C) (life : Life) (due busy : Bool) → IsPlace a t x life → due ≡ is_due_where life busy
      → (life ≡ Running → (d : Durable) → durable x.store ≡ Some d → busy ≡ (nat_lt 0 (count_to (target t) a.between.messages) || has_idle settling x.plan x.memory d)) → due ≡ is_due settling r w (target t)
  target-due-shown settling t x life due busy place is works = (let s = target-there durable state r found a w t x life k place in by life refl s.s s.here s.is is)
    where
      here-too : (s : TargetState) → slice_get w.targets t ≡ Some s → (b : Bool) → b ≡ is_due_where s.life (nat_lt 0 (count_to (target t) w.messages) || has_idle settling (target_plan r t) s.memory s.durable) → b ≡ is_due settling r w (target t)
      here-too s here b same = same ∙ ap (if_target_due settling (target_plan r t) (count_to (target t) w.messages)) (sym here)

      by : (l : Life) → life ≡ l → (s : TargetState) → slice_get w.targets t ≡ Some s → IsTargetOf durable state (target_plan r t) l (found t) x s → due ≡ is_due_where l busy → due ≡ is_due settling r w (target t)
      by Running runs s here so same =
          here-too s here due
          (same ∙ works runs s.durable so.so.told
          ∙ ap (λ ls. nat_lt 0 (count_to (target t) ls) || has_idle settling x.plan x.memory s.durable) k.messages
          ∙ ap (λ p. nat_lt 0 (count_to (target t) w.messages) || has_idle settling p x.memory s.durable) so.made
          ∙ ap (λ m. nat_lt 0 (count_to (target t) w.messages) || has_idle settling (target_plan r t) m s.durable) so.so.knows
          ∙ ap (λ l. is_due_where l (nat_lt 0 (count_to (target t) w.messages) || has_idle settling (target_plan r t) s.memory s.durable)) (sym so.lives))
      by Stopped rests s here so same = here-too s here due (same ∙ ap (λ l. is_due_where l (nat_lt 0 (count_to (target t) w.messages) || has_idle settling (target_plan r t) s.memory s.durable)) (sym so.lives))
      by Down rests s here so same = here-too s here due (same ∙ ap (λ l. is_due_where l (nat_lt 0 (count_to (target t) w.messages) || has_idle settling (target_plan r t) s.memory s.durable)) (sym so.lives))

  -- those that are due of all actors are those that are due in the world
  pub due-shown : (settling : Bool) (due : List ActorId) → AllAreDue durable state settling a due → due ≡ picks.due settling r w
  due-shown settling due all =
      all.shown r found w k
      ∙ ap (λ n. filter (is_due settling r w) (numbered client n ++ numbered target (length a.targets))) (sym many-clients)
      ∙ ap (λ n. filter (is_due settling r w) (numbered client (length w.clients) ++ numbered target n)) (sym k.many)

  -- what a client hears, by its number
  pub client-heard-shown : (actor : ActorId) (n many : ℕ) → actor.client ≡ true → n ≡ actor.number → n < length a.clients
      → ((c : ClientNow) → slice_get a.clients n ≡ Some c → many ≡ heard_awake c.state (count_to (client n) a.between.messages)) → many ≡ heard_in w actor
  client-heard-shown actor n many kind named within is =
      let c = at-within a.clients n within in
      subst (λ x. many ≡ heard_in w x) (named-client actor n kind named)
      (is c.0 c.1 ∙ ap (λ ls. heard_awake c.0.state (count_to (client n) ls)) k.messages ∙ ap (heard_by_client (count_to (client n) w.messages)) (sym (client-here n c.0 c.1)))

  -- and what a target hears
  pub target-heard-shown : (actor : ActorId) (t many : ℕ) → actor.client ≡ false → t ≡ actor.number → t < length a.targets
      → ((life : Life) → slice_get a.watch.lives t ≡ Some life → many ≡ heard_where life (count_to (target t) a.between.messages)) → many ≡ heard_in w actor
  target-heard-shown actor t many kind named within is =
      let s = at-within w.targets t (subst (λ n. t < n) (sym k.many) within) in
      subst (λ x. many ≡ heard_in w x) (named-target actor t kind named)
      (is s.0.life (ap (λ ls. slice_get ls t) (sym k.lives) ∙ map-get (λ z. z.life) w.targets t s.0 s.1)
      ∙ ap (λ ls. heard_where s.0.life (count_to (target t) ls)) k.messages ∙ ap (heard_by_target (count_to (target t) w.messages)) (sym s.1))

-- ---- how many are heard

module _ {S C : Type 0} (a : StageNow S C) (actor : ActorId) where
  pub client-hears-few : (n many : ℕ) → actor.client ≡ true → n ≡ actor.number → n < length a.clients
      → ((c : ClientNow) → slice_get a.clients n ≡ Some c → many ≡ heard_awake c.state (count_to (client n) a.between.messages)) → many ≤ count_to actor a.between.messages
  client-hears-few n many kind named within is =
      let c = at-within a.clients n within in
      let few = awake-few c.0.state (count_to (client n) a.between.messages) in
      let same = is c.0 c.1 in
      subst (λ x. many ≤ count_to x a.between.messages) (named-client actor n kind named) (omega (arith, few, same))

  pub target-hears-few : (t many : ℕ) → actor.client ≡ false → t ≡ actor.number → t < length a.watch.lives
      → ((life : Life) → slice_get a.watch.lives t ≡ Some life → many ≡ heard_where life (count_to (target t) a.between.messages)) → many ≤ count_to actor a.between.messages
  target-hears-few t many kind named within is =
      let l = at-within a.watch.lives t within in
      let few = where-few l.0 (count_to (target t) a.between.messages) in
      let same = is l.0 l.1 in
      subst (λ x. many ≤ count_to x a.between.messages) (named-target actor t kind named) (omega (arith, few, same))

-- ---- those that have something to do, one by one

module _ {S C : Type 0} (durable : S → Option Durable) (state : S → State) (settling : Bool) (stage : StageNow S C) where
  module _ (some due : List ActorId) (a : ActorId) (k : AreDue durable state settling stage some due) where
    one-due : (r : Rules) (w : World) (is : Bool) → is_due settling r w a ≡ is → due ≡ filter (is_due settling r w) some → due ++ (if is then a ∷ [] else []) ≡ filter (is_due settling r w) (some ++ a ∷ [])
    one-due r w is due-is shown =
        ap (λ as'. as' ++ (if is then a ∷ [] else [])) shown
        ∙ ap (λ c. filter (is_due settling r w) some ++ (if c then a ∷ [] else [])) (sym due-is)
        ∙ sym (filter-append (is_due settling r w) some (a ∷ []))

    -- one more has something to do
    pub has-it : (due' : List ActorId) → due' ≡ due ++ a ∷ [] → ((r : Rules) (found : ℕ → Durable) (w : World) → Shows durable state r found stage w → is_due settling r w a ≡ true) → IsActor (length stage.clients) (length stage.targets) a → IsUp stage.watch.lives a
        → AreDue durable state settling stage (some ++ a ∷ []) due'
    has-it due' more is there up = record {
      shown = λ r found w s. more ∙ one-due r w true (is r found w s) (k.shown r found w s);
      there = one-all (IsActor (length stage.clients) (length stage.targets)) k.there there;
      up = one-all (IsUp stage.watch.lives) k.up up;
    }
      where
        one-all : (P : ActorId → Type 0) → All P due → P a → All P due'
        one-all P all one = subst (All P) (sym more) (All-append P due (a ∷ []) all (All-cons P a [] one (All-nil P)))

    -- one more has nothing to do
    pub has-none : ((r : Rules) (found : ℕ → Durable) (w : World) → Shows durable state r found stage w → is_due settling r w a ≡ false) → AreDue durable state settling stage (some ++ a ∷ []) due
    has-none is = record {
      shown = λ r found w s. sym (append-nil due) ∙ one-due r w false (is r found w s) (k.shown r found w s);
      there = k.there;
      up = k.up;
    }
