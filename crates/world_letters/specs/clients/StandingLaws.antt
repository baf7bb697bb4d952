-- Each move of a client keeps how far its lines have told of its commands.
use Rattle.std.specs.Prelude.{ℕ, ◌≡◌, ◌≤◌, ◌<◌, ◌+◌, ◌++◌, Bool, true, false, List, [], ◌∷◌, length, take, slice_get, Some, None, refl, if◌then◌else◌}
use Rattle.std.proofs.Common.{append-nil, zero, suc, ◌⊎◌, sym, ◌∙◌, ap, subst, arith}
use Rattle.std.proofs.lemmas.Grind.{common_steps}
use Rattle.std.proofs.lemmas.List.{append_assoc, length-append}
use Rattle.std.proofs.lemmas.List.Elements.{filter-append}
use Rattle.std.proofs.lemmas.Option.{slice_get_within}
use Rattle.base_types.specs.declared.report.Attempt.{Attempt}
use Rattle.base_types.specs.declared.script.Command.{Command}
use Rattle.base_types.specs.Scripts.{is_numbered}
use Rattle.daos_model.specs.Attempts.{is_restart}
use Rattle.daos_model.specs.Order.{AreAttempts, AreInTurn, IsNumbered}
use Rattle.daos_model.specs.Transactions.{numbered}
use Rattle.world_base.specs.declared.client.ClientPlan.{ClientPlan}
use Rattle.world_letters.specs.clients.Standing.{AreTriedAgain, Stands, has_number}

-- ---- lists

add_one : (n : ℕ) → suc n ≡ n + 1
add_one n = omega arith

take-suc : {T : Type 0} (xs : List T) (n : ℕ) (x : T) → slice_get xs n ≡ Some x → take (suc n) xs ≡ take n xs ++ x ∷ []
take-suc [] n x h = let no : ⊥ = cc in absurd no
take-suc (y ∷ ys) zero x h = let e : y ≡ x = cc in ap (λ z. z ∷ []) e
take-suc (y ∷ ys) (suc n) x h = ap (λ zs. y ∷ zs) (take-suc ys n x h)

-- one element more
pub take-next : {T : Type 0} (xs : List T) (n : ℕ) (x : T) → slice_get xs n ≡ Some x → take (n + 1) xs ≡ take n xs ++ x ∷ []
take-next xs n x h = subst (λ k. take k xs ≡ take n xs ++ x ∷ []) (add_one n) (take-suc xs n x h)

-- ---- attempts

pub tried-more : (client command n m : ℕ) (as' : List Attempt) (a : Attempt) → AreTriedAgain client command n m as' → IsNumbered client command m a → is_restart a.outcome ≡ true
    → AreTriedAgain client command n (m + 1) (as' ++ a ∷ [])
tried-more client command n m [] a t i r = (subst (λ k. IsNumbered client command k a) (sym t) i, r, ap (λ k. k + 1) t)
tried-more client command n m (b ∷ more) a t i r = (t.0, t.1, tried-more client command (n + 1) m more a t.2 i r)

pub tried-below : (client command n m : ℕ) (as' : List Attempt) → AreTriedAgain client command n m as' → n ≤ m
tried-below client command n m [] t = omega (arith, t)
tried-below client command n m (b ∷ more) t = let k : n + 1 ≤ m = tried-below client command (n + 1) m more t.2 in omega (arith, k)

-- the last attempt ends a command
pub attempts-end : (limit client command n m : ℕ) (as' : List Attempt) (a : Attempt) → m < limit → AreTriedAgain client command n m as' → IsNumbered client command m a
    → (is_restart a.outcome ≡ false) ⊎ (m + 1 ≡ limit) → AreAttempts limit client command n (as' ++ a ∷ [])
attempts-end limit client command n m [] a low t i e = (subst (λ k. IsNumbered client command k a) (sym t) i, subst (λ k. (is_restart a.outcome ≡ false) ⊎ (k + 1 ≡ limit)) (sym t) e)
attempts-end limit client command n m (b ∷ []) a low t i e =
    let k : n + 1 ≤ m = tried-below client command (n + 1) m [] t.2 in
    (t.0, t.1, omega (arith, k, low), attempts-end limit client command (n + 1) m [] a low t.2 i e)
attempts-end limit client command n m (b ∷ c ∷ more) a low t i e =
    let k : n + 1 ≤ m = tried-below client command (n + 1) m (c ∷ more) t.2 in
    (t.0, t.1, omega (arith, k, low), attempts-end limit client command (n + 1) m (c ∷ more) a low t.2 i e)

-- the attempts of one command more
pub in-turn-more : (limit client n : ℕ) (cs : List Command) (d : Command) (done own : List Attempt) → AreInTurn limit client n cs done → AreAttempts limit client (n + length cs) 0 own
    → AreInTurn limit client n (cs ++ d ∷ []) (done ++ own)
in-turn-more limit client n [] d done own t k =
    (own, [], ap (λ z. z ++ own) t ∙ sym append_nil, subst (λ m. AreAttempts limit client m 0 own) (omega arith) k, refl)
  where
    append_nil : own ++ [] ≡ own
    append_nil = grind (arith, common_steps)
in-turn-more limit client n (c ∷ cs) d done own t k =
    (t.0, t.1 ++ own, ap (λ z. z ++ own) t.2 ∙ append_assoc t.0 t.1 own, t.3, in-turn-more limit client (n + 1) cs d t.1 own t.4 (subst (λ m. AreAttempts limit client m 0 own) (omega arith) k))

-- ---- what a client's lines have told

-- the numbered commands of which those up to this place are
abbrev so_far : ClientPlan → ℕ → List Command
so_far p place = numbered (take place p.commands)

numbered-one : (d : Command) → is_numbered d ≡ true → numbered (d ∷ []) ≡ d ∷ []
numbered-one d h = by (is_numbered d) h
  where
    by : (b : Bool) → b ≡ true → (if b then d ∷ [] else []) ≡ d ∷ []
    by true e = refl
    by false e = let no : ⊥ = cc in absurd no

numbered-none : (d : Command) → is_numbered d ≡ false → numbered (d ∷ []) ≡ []
numbered-none d h = by (is_numbered d) h
  where
    by : (b : Bool) → b ≡ false → (if b then d ∷ [] else []) ≡ []
    by false e = refl
    by true e = let no : ⊥ = cc in absurd no

-- a numbered command more
so_far-numbered : (p : ClientPlan) (place : ℕ) (d : Command) → slice_get p.commands place ≡ Some d → is_numbered d ≡ true → so_far p (place + 1) ≡ so_far p place ++ d ∷ []
so_far-numbered p place d at n = ap numbered (take-next p.commands place d at) ∙ filter-append is_numbered (take place p.commands) (d ∷ []) ∙ ap (λ z. so_far p place ++ z) (numbered-one d n)

so_far-same : (p : ClientPlan) (place : ℕ) (d : Command) → slice_get p.commands place ≡ Some d → is_numbered d ≡ false → so_far p (place + 1) ≡ so_far p place
so_far-same p place d at n = ap numbered (take-next p.commands place d at) ∙ filter-append is_numbered (take place p.commands) (d ∷ []) ∙ ap (λ z. so_far p place ++ z) (numbered-none d n) ∙ append-nil (so_far p place)

within-next : (p : ClientPlan) (place : ℕ) (d : Command) → slice_get p.commands place ≡ Some d → place + 1 ≤ length p.commands
within-next p place d at = let k : place < length p.commands = slice_get_within p.commands place d at in omega (arith, k)

-- a command with a number begins
pub stands-begins : (p : ClientPlan) (place command : ℕ) (d : Command) (attempts : List Attempt) → Stands p place command None attempts → slice_get p.commands place ≡ Some d → is_numbered d ≡ true
    → 0 < p.attempts → Stands p place command (Some 0) attempts
stands-begins p place command d attempts s at n some = record {
  within = s.within;
  numbers = s.numbers;
  over = s.over;
  begun = s.begun;
  all = s.all;
  in_turn = s.in_turn;
  at_present = (subst (λ as'. AreTriedAgain p.number command 0 0 as') (sym s.at_present) refl, some, ap has_number at ∙ n);
}

-- a command without one is over
pub stands-passes : (p : ClientPlan) (place command : ℕ) (d : Command) (attempts : List Attempt) → Stands p place command None attempts → slice_get p.commands place ≡ Some d → is_numbered d ≡ false
    → Stands p (place + 1) command None attempts
stands-passes p place command d attempts s at n = record {
  within = within-next p place d at;
  numbers = s.numbers ∙ ap length (sym (so_far-same p place d at n));
  over = s.over;
  begun = s.begun;
  all = s.all;
  in_turn = subst (λ cs. AreInTurn p.attempts p.number 0 cs s.over) (sym (so_far-same p place d at n)) s.in_turn;
  at_present = s.at_present;
}

-- the attempt that the client is at is told to restart, and the next one begins
pub stands-again : (p : ClientPlan) (place command n : ℕ) (a : Attempt) (attempts : List Attempt) → Stands p place command (Some n) attempts → IsNumbered p.number command n a
    → is_restart a.outcome ≡ true → n + 1 < p.attempts → Stands p place command (Some (n + 1)) (attempts ++ a ∷ [])
stands-again p place command n a attempts s i r low = record {
  within = s.within;
  numbers = s.numbers;
  over = s.over;
  begun = s.begun ++ a ∷ [];
  all = ap (λ z. z ++ a ∷ []) s.all ∙ append_assoc s.over s.begun (a ∷ []);
  in_turn = s.in_turn;
  at_present = (tried-more p.number command 0 n s.begun a s.at_present.0 i r, low, s.at_present.2);
}

-- the attempt that the client is at ends its command
pub stands-ends : (p : ClientPlan) (place command n : ℕ) (d : Command) (a : Attempt) (attempts : List Attempt) → Stands p place command (Some n) attempts → slice_get p.commands place ≡ Some d
    → is_numbered d ≡ true → IsNumbered p.number command n a → (is_restart a.outcome ≡ false) ⊎ (n + 1 ≡ p.attempts) → Stands p (place + 1) (command + 1) None (attempts ++ a ∷ [])
stands-ends p place command n d a attempts s at k i e = record {
  within = within-next p place d at;
  numbers = count;
  over = s.over ++ (s.begun ++ a ∷ []);
  begun = [];
  all = ap (λ z. z ++ a ∷ []) s.all ∙ append_assoc s.over s.begun (a ∷ []) ∙ sym (append-nil (s.over ++ (s.begun ++ a ∷ [])));
  in_turn = subst (λ cs. AreInTurn p.attempts p.number 0 cs (s.over ++ (s.begun ++ a ∷ []))) (sym next) more;
  at_present = refl;
}
  where
    next : so_far p (place + 1) ≡ so_far p place ++ d ∷ []
    next = so_far-numbered p place d at k

    one_more : length (so_far p place ++ d ∷ []) ≡ length (so_far p place) + 1
    one_more = length-append (so_far p place) (d ∷ [])

    count : command + 1 ≡ length (so_far p (place + 1))
    count = ap (λ z. z + 1) s.numbers ∙ sym one_more ∙ ap length (sym next)

    own : AreAttempts p.attempts p.number command 0 (s.begun ++ a ∷ [])
    own = attempts-end p.attempts p.number command 0 n s.begun a s.at_present.1 s.at_present.0 i e

    zero_more : command ≡ 0 + length (so_far p place)
    zero_more = let h : command ≡ length (so_far p place) = s.numbers in omega (arith, h)

    more : AreInTurn p.attempts p.number 0 (so_far p place ++ d ∷ []) (s.over ++ (s.begun ++ a ∷ []))
    more = in-turn-more p.attempts p.number 0 (so_far p place) d s.over (s.begun ++ a ∷ []) s.in_turn (subst (λ m. AreAttempts p.attempts p.number m 0 (s.begun ++ a ∷ [])) zero_more own)
