-- Which letters belong to a client's conversation, and what is left of one.
use Rattle.std.specs.Prelude.{ℕ, ◌≡◌, ◌<◌, length, slice_index_or, ◌==◌, ◌++◌, Bool, true, false, ◌&&◌, ◌||◌, not, List, [], ◌∷◌, filter, Contains, refl}
use Rattle.std.proofs.Common.{◌⊎◌, sym, ◌∙◌, ap, subst, inl, inr, append-nil, arith, cond, zero, suc}
use Rattle.std.proofs.lemmas.Bool.{eq-eqb, ne_eqb, or_right}
use Rattle.std.proofs.lemmas.List.Elements.{Contains-append_cases, Contains-append_left, Contains-append_right, Contains-push, filter-append}
use Rattle.world_base.specs.model_laws.Members.{Has, contains-from_has, has-cases, has-from_contains, has-left, has-right}
use Rattle.base_messages.specs.declared.actor.ActorId.{ActorId}
use Rattle.world_base.specs.declared.letter.Letter.{Letter}
use Rattle.world_base.specs.Letters.{Takes, client, is_client, is_talk_of, is_tell, talk_of}

-- ---- lists

filter-passes : {T : Type 0} (p : T → Bool) (x : T) (xs : List T) → p x ≡ true → filter p (x ∷ xs) ≡ x ∷ filter p xs
filter-passes p x xs h = ap (λ b. cond b (x ∷ filter p xs) (filter p xs)) h

filter-fails : {T : Type 0} (p : T → Bool) (x : T) (xs : List T) → p x ≡ false → filter p (x ∷ xs) ≡ filter p xs
filter-fails p x xs h = ap (λ b. cond b (x ∷ filter p xs) (filter p xs)) h

no-element : {T : Type 0} (xs ys : List T) (x : T) → xs ++ x ∷ ys ≡ [] → ⊥
no-element [] ys x h = cc
no-element (z ∷ zs) ys x h = cc

one-among : {T : Type 0} (xs ys : List T) (x y : T) → xs ++ x ∷ ys ≡ y ∷ [] → (x ≡ y) × (xs ++ ys ≡ [])
one-among [] ys x y h = (cc, cc)
one-among (z ∷ zs) ys x y h = let rest : zs ++ x ∷ ys ≡ [] = cc in absurd (no-element zs ys x rest)

-- ---- a letter is taken

-- what passes a test, beside the letter that is taken
kept-beside : (p : Letter → Bool) (letters : List Letter) (l : Letter) (rest : List Letter) (t : Takes letters l rest) → p l ≡ true → filter p letters ≡ filter p t.before ++ l ∷ filter p t.after
kept-beside p letters l rest t h = ap (filter p) t.among ∙ filter-append p t.before (l ∷ t.after) ∙ ap (λ ls. filter p t.before ++ ls) (filter-passes p l t.after h)

kept-left : (p : Letter → Bool) (letters : List Letter) (l : Letter) (rest : List Letter) (t : Takes letters l rest) → filter p rest ≡ filter p t.before ++ filter p t.after
kept-left p letters l rest t = ap (filter p) t.left ∙ filter-append p t.before t.after

-- a conversation is as it was once a letter that isn't of it is taken
pub talk-taken : (n : ℕ) (letters : List Letter) (l : Letter) (rest : List Letter) → Takes letters l rest → is_talk_of n l ≡ false → talk_of n rest ≡ talk_of n letters
talk-taken n letters l rest t isnt = kept-left (is_talk_of n) letters l rest t ∙ ap (λ ls. talk_of n t.before ++ ls) (sym (filter-fails (is_talk_of n) l t.after isnt))
    ∙ sym (filter-append (is_talk_of n) t.before (l ∷ t.after)) ∙ ap (talk_of n) (sym t.among)

-- a letter of a conversation of one letter is that one, and none is left
pub talk-only : (n : ℕ) (letters : List Letter) (l m : Letter) (rest : List Letter) → Takes letters l rest → is_talk_of n l ≡ true → talk_of n letters ≡ m ∷ [] → (l ≡ m) × (talk_of n rest ≡ [])
talk-only n letters l m rest t passes one =
    let k : (l ≡ m) × (talk_of n t.before ++ talk_of n t.after ≡ []) = one-among (talk_of n t.before) (talk_of n t.after) l m (sym (kept-beside (is_talk_of n) letters l rest t passes) ∙ one) in
    (k.0, kept-left (is_talk_of n) letters l rest t ∙ k.1)

-- a conversation without letters has none to take
pub talk-none : (n : ℕ) (letters : List Letter) (l : Letter) (rest : List Letter) → Takes letters l rest → is_talk_of n l ≡ true → talk_of n letters ≡ [] → ⊥
talk-none n letters l rest t passes none = no-element (talk_of n t.before) (talk_of n t.after) l (sym (kept-beside (is_talk_of n) letters l rest t passes) ∙ none)

-- a letter that is taken was in flight
pub taken-is-among : (letters : List Letter) (l : Letter) (rest : List Letter) → Takes letters l rest → Contains letters l
taken-is-among letters l rest t = subst (λ ls. Contains ls l) (sym t.among) (Contains-append_right t.before (l ∷ t.after) l (Contains-append_left (l ∷ []) t.after l (Contains-push [] l)))

-- a letter in flight can be taken
pub taken-from : (letters : List Letter) (l : Letter) → Contains letters l → (rest : List Letter) × Takes letters l rest
taken-from letters l in' = by letters in'.0 in'.1 in'.2
  where
    by : (ls : List Letter) (k : ℕ) → k < length ls → slice_index_or ls k l ≡ l → (rest : List Letter) × Takes ls l rest
    by [] k low at = absurd (omega arith)
    by (x ∷ xs) zero low at = (xs, record { before = []; after = xs; among = ap (λ y. y ∷ xs) at; left = refl })
    by (x ∷ xs) (suc k) low at =
        let t : (rest : List Letter) × Takes xs l rest = by xs k (omega arith) at in
        (x ∷ t.0, record { before = x ∷ t.1.before; after = t.1.after; among = ap (λ ls. x ∷ ls) t.1.among; left = ap (λ ls. x ∷ ls) t.1.left })

-- a conversation without letters has none among those in flight
pub none-among : (n : ℕ) (letters : List Letter) (l : Letter) → talk_of n letters ≡ [] → Contains letters l → is_talk_of n l ≡ true → ⊥
none-among n letters l none in' passes = let t = taken-from letters l in' in talk-none n letters l t.0 t.1 passes none

-- a letter that is left was in flight
pub left-is-among : (letters : List Letter) (l : Letter) (rest : List Letter) (m : Letter) → Takes letters l rest → Contains rest m → Contains letters m
left-is-among letters l rest m t in' = subst (λ ls. Contains ls m) (sym t.among) (by (Contains-append_cases t.before t.after m (subst (λ ls. Contains ls m) t.left in')))
  where
    by : Contains t.before m ⊎ Contains t.after m → Contains (t.before ++ l ∷ t.after) m
    by (inl b) = Contains-append_left t.before (l ∷ t.after) m b
    by (inr a) = Contains-append_right t.before (l ∷ t.after) m (Contains-append_right (l ∷ []) t.after m a)

-- ---- which letters are of a conversation

is-other : (n m : ℕ) (a : ActorId) → a ≡ client n → ((m ≡ n) → ⊥) → is_client m a ≡ false
is-other n m a e apart = ap (is_client m) e ∙ ne_eqb n m (λ same. apart (sym same))

is-itself : (n : ℕ) (a : ActorId) → a ≡ client n → is_client n a ≡ true
is-itself n a e = ap (is_client n) e ∙ eq-eqb n n refl

is-no-client : (n : ℕ) (a : ActorId) → a.client ≡ false → is_client n a ≡ false
is-no-client n a e = ap (λ b. b && (a.number == n)) e

of-both : (t f o : Bool) → f ≡ false → o ≡ false → (not t && (f || o)) ≡ false
of-both true f o hf ho = refl
of-both false f o hf ho = ap (λ b. b || o) hf ∙ ho

or-false : (b : Bool) → (b || false) ≡ b
or-false true = refl
or-false false = refl

-- a letter that tells a tracker is of no conversation
pub tell-is-no-talk : (n : ℕ) (l : Letter) → is_tell l.message ≡ true → is_talk_of n l ≡ false
unfolding is_talk_of
tell-is-no-talk n l h = ap (λ b. not b && (is_client n l.from || is_client n l.to)) h

-- what a client sends a target is of no other client's conversation
pub sent-is-no-talk : (n m : ℕ) (l : Letter) → l.from ≡ client n → l.to.client ≡ false → ((m ≡ n) → ⊥) → is_talk_of m l ≡ false
unfolding is_talk_of
sent-is-no-talk n m l from to apart = of-both (is_tell l.message) (is_client m l.from) (is_client m l.to) (is-other n m l.from from apart) (is-no-client m l.to to)

-- nor is what a target sends a client
pub got-is-no-talk : (n m : ℕ) (l : Letter) → l.from.client ≡ false → l.to ≡ client n → ((m ≡ n) → ⊥) → is_talk_of m l ≡ false
unfolding is_talk_of
got-is-no-talk n m l from to apart = of-both (is_tell l.message) (is_client m l.from) (is_client m l.to) (is-no-client m l.from from) (is-other n m l.to to apart)

-- what a client sends is of its own conversation
pub sent-is-talk : (n : ℕ) (l : Letter) → is_tell l.message ≡ false → l.from ≡ client n → is_talk_of n l ≡ true
unfolding is_talk_of
sent-is-talk n l isnt from = ap (λ b. not b && (is_client n l.from || is_client n l.to)) isnt ∙ ap (λ b. b || is_client n l.to) (is-itself n l.from from)

-- and so is what it gets
pub got-is-talk : (n : ℕ) (l : Letter) → is_tell l.message ≡ false → l.to ≡ client n → is_talk_of n l ≡ true
unfolding is_talk_of
got-is-talk n l isnt to = ap (λ b. not b && (is_client n l.from || is_client n l.to)) isnt ∙ or_right (is_client n l.from) (is_client n l.to) (is-itself n l.to to)

-- ---- a letter more

pub talk-with : (n : ℕ) (letters : List Letter) (l : Letter) → is_talk_of n l ≡ true → talk_of n (letters ++ l ∷ []) ≡ talk_of n letters ++ l ∷ []
talk-with n letters l passes = filter-append (is_talk_of n) letters (l ∷ []) ∙ ap (λ ls. talk_of n letters ++ ls) (filter-passes (is_talk_of n) l [] passes)

pub talk-beside : (n : ℕ) (letters : List Letter) (l : Letter) → is_talk_of n l ≡ false → talk_of n (letters ++ l ∷ []) ≡ talk_of n letters
talk-beside n letters l isnt = filter-append (is_talk_of n) letters (l ∷ []) ∙ ap (λ ls. talk_of n letters ++ ls) (filter-fails (is_talk_of n) l [] isnt) ∙ append-nil (talk_of n letters)

-- ---- whose letters there are

-- what a client sends a target is of that client's conversation alone
pub sent-is-of : (n j : ℕ) (l : Letter) → is_tell l.message ≡ false → l.from ≡ client j → l.to.client ≡ false → is_talk_of n l ≡ (j == n)
unfolding is_talk_of
sent-is-of n j l isnt from to =
    ap (λ b. not b && (is_client n l.from || is_client n l.to)) isnt ∙ ap (λ a. is_client n a || is_client n l.to) from ∙ ap (λ b. (j == n) || b) (is-no-client n l.to to) ∙ or-false (j == n)

-- another letter than the one that is taken is left
pub left-or-it : (letters : List Letter) (l : Letter) (rest : List Letter) (m : Letter) → Takes letters l rest → Contains letters m → (m ≡ l) ⊎ Contains rest m
left-or-it letters l rest m t i = by (has-cases t.before (l ∷ t.after) m (subst (Has m) t.among (has-from_contains letters m i)))
  where
    there : Has m (t.before ++ t.after) → Contains rest m
    there j = contains-from_has rest m (subst (Has m) (sym t.left) j)

    by : Has m t.before ⊎ Has m (l ∷ t.after) → (m ≡ l) ⊎ Contains rest m
    by (inl j) = inr (there (has-left t.before t.after m j))
    by (inr (inl e)) = inl e
    by (inr (inr j)) = inr (there (has-right t.before t.after m j))
