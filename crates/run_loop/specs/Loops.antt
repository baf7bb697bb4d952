-- Rounds and draws, one turn after another.
use Rattle.std.specs.Prelude.{ℕ, suc, ◌≡◌, ◌≤◌, ◌<◌, ◌+◌, ◌++◌, ◌==◌, ◌%◌, All, Bool, true, false, List, [], ◌∷◌, get_or, length, max, slice_get, Option, Some, Result, Ok, Err, OnOk, if◌then◌else◌, refl}
use Rattle.std.proofs.Common.{sym, ◌∙◌, ap, subst, arith}
use Rattle.std.proofs.lemmas.Bool.Decides.{nat_tests}
use Rattle.std.proofs.lemmas.List.{append_assoc}
use Rattle.std.proofs.lemmas.List.Elements.{All-get_or}
use Rattle.base_messages.specs.declared.actor.ActorId.{ActorId}
use Rattle.base_random.specs.Draws.{drawn}
use Rattle.daos_model.specs.declared.durable.Durable.{Durable}
use Rattle.run_base.specs.Picks.{is_due, numbered, after_pick, pick}
use Rattle.run_stage.specs.Below.{AllAreDue, GoesOn, IsBothWays, IsRun, Shows, StageNow, Way, all-draws-way, all-rounds-way, all_from_draw, all_rounds, client-due-shown, draws-are-run, due-shown, first_targets, from_draw, goes-as, goes-then, had-none-way, had-turn-way, heard_in, is_due_client, many-clients, more-draws-way, more-rounds-way, round-way, round_of, rounds-are-run, some_rounds, turn_of, turned, turns-are-run}
use Rattle.vos_store.specs.Calls.{State}
use Rattle.world_base.specs.declared.world.World.{World}
use Rattle.world_base.specs.Events.{Rules}
use Rattle.world_base.specs.Letters.{client, target}

-- ---- numbers

-- where there are some, one of them is drawn by the next number
pub some-pick : (x many len count p y : ℕ) → false ≡ (len == 0) → many ≡ len → len ≡ count → p ≡ pick x many → y ≡ after_pick x many → (p ≡ drawn x % count) × (y ≡ drawn x)
some-pick x many len count p y some same fits is last =
    let has : (many == 0) ≡ false = ap (λ n. n == 0) same ∙ sym some in
    (is ∙ ap (λ z. if z then 0 else drawn x % many) has ∙ ap (λ n. drawn x % n) (same ∙ fits), last ∙ ap (λ z. if z then x else drawn x) has)

-- a number drawn below how many there are is that of one of them
pub one-of : (p many len count : ℕ) → p < max 1 many → many ≡ len → len ≡ count → false ≡ (len == 0) → p < count
one-of p many len count low same fits some = let has : (len == 0) ≡ false = sym some in grind (arith, nat_tests)

-- what holds of all holds of the one of a number
pub holds-of-one : (P : ActorId → Type 0) (all : List ActorId) (p : ℕ) (a d : ActorId) → a ≡ get_or all p d → p < length all → All P all → P a
holds-of-one P all p a d is within k = subst P (sym is) (All-get_or P all p d within k)

pub within-now : (n end : ℕ) {T : Type 0} (olds nows : List T) → n < end → end ≡ length olds → length nows ≡ length olds → n < length nows
within-now n end olds nows low is same = omega (arith, low, is, same)

pub at-end : (t end : ℕ) {T : Type 0} (olds mids : List T) → end ≤ t → t ≤ end → end ≡ length mids → length mids ≡ length olds → t ≡ length olds
at-end t end olds mids past low is same = omega (arith, past, low, is, same)

pub none-in : {T : Type 0} (xs : List T) (len : ℕ) → true ≡ (len == 0) → len ≡ length xs → xs ≡ []
none-in [] len empty is = refl
none-in (x ∷ xs) len empty is = let no : ⊥ = grind (arith, nat_tests) in absurd no

pub some-in : {T : Type 0} (xs : List T) (len : ℕ) → false ≡ (len == 0) → len ≡ length xs → xs ≡ [] → ⊥
some-in [] len some is none = grind (arith, nat_tests)
some-in (x ∷ xs) len some is none = cc

-- ---- turns

-- some turns and then others, if those come to their end
pub goes-then-ok : {S C : Type 0} (durable : S → Option Durable) (state : S → State) (may : S → Durable → Type 0) (is_read : C → C → Type 0) (next_reading : C → Option ℕ) {T E : Type 0} (one other both : Way) (a b c : StageNow S C) (result : Result T E) → IsRun one
    → ((r : Rules) (found : ℕ → Durable) (w u v : World) → Shows durable state r found b u → (p : one.goes r w u) (q : other.goes r u v) → IsBothWays one other both r w u v p q) → GoesOn durable state may is_read next_reading one a b → OnOk result (GoesOn durable state may is_read next_reading other b c) → OnOk result (GoesOn durable state may is_read next_reading both a c)
goes-then-ok durable state may is_read next_reading one other both a b c (Ok x) runs join k l = goes-then durable state may is_read next_reading one other both a b c runs join k l
goes-then-ok durable state may is_read next_reading one other both a b c (Err e) runs join k l = tt

module _ {S C : Type 0} (durable : S → Option Durable) (state : S → State) (may : S → Durable → Type 0) (is_read : C → C → Type 0) (next_reading : C → Option ℕ) (settling : Bool) (a0 a : StageNow S C) where
  -- an actor has something to do in each world that is shown, or in none
  abbrev DueIs : Bool → ActorId → Type 0
  DueIs is actor = (r : Rules) (found : ℕ → Durable) (w : World) → Shows durable state r found a w → is_due settling r w actor ≡ is

  -- ---- a round

  module _ (before : List ActorId) (actor : ActorId) (k : GoesOn durable state may is_read next_reading (turned settling before) a0 a) where
    -- one has its turn
    one-more : (b : StageNow S C) → DueIs true actor → GoesOn durable state may is_read next_reading (turn_of settling actor 0) a b → GoesOn durable state may is_read next_reading (turned settling (before ++ actor ∷ [])) a0 b
    one-more b is turn =
        goes-then durable state may is_read next_reading (turned settling before) (turn_of settling actor 0) (turned settling (before ++ actor ∷ [])) a0 a b (turns-are-run settling before)
        (λ r found w u v s so one. had-turn-way settling r before actor w u so v one (is r found u s)) k turn

    -- one has none
    none-more : DueIs false actor → GoesOn durable state may is_read next_reading (turned settling (before ++ actor ∷ [])) a0 a
    none-more not_due =
        goes-as durable state may is_read next_reading (turned settling before) (turned settling (before ++ actor ∷ [])) a0 a (λ r found was w u old s so. had-none-way settling r before actor w u so (not_due r found u s)) k

  module _ (n : ℕ) (k : GoesOn durable state may is_read next_reading (turned settling (numbered client n)) a0 a) (within : n < length a.clients) where
    module _ (due : Bool) (shown : due ≡ is_due_client a.between.messages n (slice_get a.clients n)) where
      pub client-had-turn : (b : StageNow S C) → due ≡ true → GoesOn durable state may is_read next_reading (turn_of settling (client n) 0) a b → GoesOn durable state may is_read next_reading (turned settling (numbered client (suc n))) a0 b
      client-had-turn b is = one-more (numbered client n) (client n) k b (λ r found w s. sym (client-due-shown durable state r found a w s settling n within) ∙ sym shown ∙ is)

      pub client-had-none : due ≡ false → GoesOn durable state may is_read next_reading (turned settling (numbered client (suc n))) a0 a
      client-had-none is = none-more (numbered client n) (client n) k (λ r found w s. sym (client-due-shown durable state r found a w s settling n within) ∙ sym shown ∙ is)

  module _ (m t : ℕ) (k : GoesOn durable state may is_read next_reading (turned settling (first_targets m t)) a0 a) where
    next : first_targets m t ++ target t ∷ [] ≡ first_targets m (suc t)
    next = append_assoc (numbered client m) (numbered target t) (target t ∷ [])

    module _ (due : Bool) (shown : (r : Rules) (found : ℕ → Durable) (w : World) → Shows durable state r found a w → due ≡ is_due settling r w (target t)) where
      pub target-had-turn : (b : StageNow S C) → due ≡ true → GoesOn durable state may is_read next_reading (turn_of settling (target t) 0) a b → GoesOn durable state may is_read next_reading (turned settling (first_targets m (suc t))) a0 b
      target-had-turn b is turn =
          subst (λ as'. GoesOn durable state may is_read next_reading (turned settling as') a0 b) next (one-more (first_targets m t) (target t) k b (λ r found w s. sym (shown r found w s) ∙ is) turn)

      pub target-had-none : due ≡ false → GoesOn durable state may is_read next_reading (turned settling (first_targets m (suc t))) a0 a
      target-had-none is = subst (λ as'. GoesOn durable state may is_read next_reading (turned settling as') a0 a) next (none-more (first_targets m t) (target t) k (λ r found w s. sym (shown r found w s) ∙ is))

  -- all had their turns
  pub round-whole : GoesOn durable state may is_read next_reading (turned settling (first_targets (length a0.clients) (length a0.targets))) a0 a → GoesOn durable state may is_read next_reading (round_of settling) a0 a
  round-whole k =
      goes-as durable state may is_read next_reading (turned settling (first_targets (length a0.clients) (length a0.targets))) (round_of settling) a0 a
      (λ r found was w u old s so.
      let all = ap (λ n. first_targets n (length a0.targets)) (sym (many-clients durable state r was a0 w old)) ∙ ap (first_targets (length w.clients)) (sym old.many) in
      round-way settling r w u (first_targets (length a0.clients) (length a0.targets)) all so) k

  -- ---- rounds

  module _ (due : List ActorId) (all : AllAreDue durable state settling a due) where
    pub round-more : (b : StageNow S C) → (due ≡ [] → ⊥) → GoesOn durable state may is_read next_reading (some_rounds settling) a0 a → GoesOn durable state may is_read next_reading (round_of settling) a b → GoesOn durable state may is_read next_reading (some_rounds settling) a0 b
    round-more b some k round =
        goes-then durable state may is_read next_reading (some_rounds settling) (round_of settling) (some_rounds settling) a0 a b (rounds-are-run settling)
        (λ r found w u v s so one. more-rounds-way settling r w u v so one (λ none. some (due-shown durable state r found a u s settling due all ∙ none))) k round

    pub rounds-over : due ≡ [] → GoesOn durable state may is_read next_reading (some_rounds settling) a0 a → GoesOn durable state may is_read next_reading (all_rounds settling) a0 a
    rounds-over quiet k =
        goes-as durable state may is_read next_reading (some_rounds settling) (all_rounds settling) a0 a (λ r found was w u old s so. all-rounds-way settling r w u so (sym (due-shown durable state r found a u s settling due all) ∙ quiet)) k

    -- ---- draws

    pub draws-over : (x0 x : ℕ) → due ≡ [] → GoesOn durable state may is_read next_reading (from_draw settling x0 x) a0 a → GoesOn durable state may is_read next_reading (all_from_draw settling x0 x) a0 a
    draws-over x0 x quiet k =
        goes-as durable state may is_read next_reading (from_draw settling x0 x) (all_from_draw settling x0 x) a0 a (λ r found was w u old s so. all-draws-way settling r x0 x w u so (sym (due-shown durable state r found a u s settling due all) ∙ quiet)) k

    -- an actor is drawn, and then the letter that it hears, if it hears one
    pub draw-more : (x0 x z y p : ℕ) (actor : ActorId) (many message : ℕ) (b : StageNow S C) → slice_get due p ≡ Some actor → p ≡ drawn x % length due → z ≡ drawn x → ((r : Rules) (found : ℕ → Durable) (w : World) → Shows durable state r found a w → many ≡ heard_in w actor) → message ≡ pick z many
        → y ≡ after_pick z many → GoesOn durable state may is_read next_reading (from_draw settling x0 x) a0 a → GoesOn durable state may is_read next_reading (turn_of settling actor message) a b → GoesOn durable state may is_read next_reading (from_draw settling x0 y) a0 b
    draw-more x0 x z y p actor many message b its at next_is hears is last k turn =
        goes-then durable state may is_read next_reading (from_draw settling x0 x) (turn_of settling actor message) (from_draw settling x0 y) a0 a b (draws-are-run settling x0 x)
        (λ r found w u v s so one.
        more-draws-way settling r x0 x y message actor w u v so one (subst (λ as'. slice_get as' (drawn x % length as') ≡ Some actor) (due-shown durable state r found a u s settling due all) (subst (λ q. slice_get due q ≡ Some actor) at its))
        (is ∙ ap (λ q. pick q many) next_is ∙ ap (pick (drawn x)) (hears r found u s)) (last ∙ ap (λ q. after_pick q many) next_is ∙ ap (after_pick (drawn x)) (hears r found u s)))
        k turn
