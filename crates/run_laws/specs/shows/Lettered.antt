-- Letters stay in form, whatever becomes of them.
use Rattle.std.specs.Prelude.{ℕ, ◌≡◌, ◌⊎◌, ◌≤◌, ◌<◌, ◌+◌, ◌++◌, ◌==◌, not, true, false, Bool, List, [], ◌∷◌, filter, length, map, slice_get, Option, Some, None, refl, if◌then◌else◌}
use Rattle.std.proofs.Common.{drop, inl, inr, suc, take, zero, sym, subst, arith}
use Rattle.std.proofs.lemmas.Bool.Decides.{nat_tests}
use Rattle.std.proofs.lemmas.Option.{slice_get_within}
use Rattle.base_messages.specs.declared.actor.ActorId.{ActorId}
use Rattle.base_messages.specs.declared.message.Post.{Post}
use Rattle.daos_model.specs.BoolLaws.{and_left, and_right}
use Rattle.model_laws.specs.Members.{Has, has-cases, has-from_filter, has-from_map}
use Rattle.run_base.specs.Letters.{BetweenNow}
use Rattle.run_base.specs.Sweeps.{is_down_in, is_given_up_there, is_left_by, is_lost_by}
use Rattle.run_laws.specs.shows.Turned.{followed, swept_between}
use Rattle.world_base.specs.declared.did.Did.{Did}
use Rattle.world_base.specs.declared.letter.Letter.{Letter}
use Rattle.world_base.specs.declared.target.Life.{Life}
use Rattle.world_base.specs.declared.target.TargetPlan.{TargetPlan}
use Rattle.std.specs.List.{after_first, before_first, position_or_len}
use Rattle.world_base.specs.Letters.{asked_after, asked_with, is_answer_to, is_answerable, letter_of, letters_of}
use Rattle.world_base.specs.Stops.{is_not_to, is_to, reset_letter, resets}
use Rattle.run_opening.specs.world_contents.posts.FormLaws.{resets-are-letters}
use Rattle.run_opening.specs.world_contents.posts.Forms.{IsLetter}

has-take : (n : ℕ) (xs : List Letter) (l : Letter) → Has l (take n xs) → Has l xs
has-take zero xs l i = absurd i
has-take (suc n) [] l i = i
has-take (suc n) (x ∷ xs) l (inl same) = inl same
has-take (suc n) (x ∷ xs) l (inr i) = inr (has-take n xs l i)

has-drop : (n : ℕ) (xs : List Letter) (l : Letter) → Has l (drop n xs) → Has l xs
has-drop zero xs l i = i
has-drop (suc n) [] l i = i
has-drop (suc n) (x ∷ xs) l i = inr (has-drop n xs l i)

first-left : (p : Letter → Bool) (xs : List Letter) (l : Letter) → Has l (before_first p xs ++ after_first p xs) → Has l xs
first-left p xs l i = elim (has-cases (before_first p xs) (after_first p xs) l i) [ inl j ↦ has-take (position_or_len p xs) xs l j | inr j ↦ has-drop (position_or_len p xs + 1) xs l j ]

-- a letter without an answer was so before, or is sent
pub has-asked : (asked ls : List Letter) (l : Letter) → Has l (asked_after asked ls) → Has l asked ⊎ Has l ls
unfolding asked_with
has-asked asked [] l i = inl i
has-asked asked (m ∷ ls) l i = elim (has-asked (asked_with asked m) ls l i) [ inl j ↦ one j | inr j ↦ inr (inr j) ]
  where
    one : Has l (asked_with asked m) → Has l asked ⊎ Has l (m ∷ ls)
    one j = by (is_answerable m.message) j
      where
        by : (b : Bool) → Has l (if b then asked ++ m ∷ [] else before_first (is_answer_to m) asked ++ after_first (is_answer_to m) asked) → Has l asked ⊎ Has l (m ∷ ls)
        by true k = elim (has-cases asked (m ∷ []) l k) [ inl old ↦ inl old | inr new ↦ inr (elim new [ inl same ↦ inl same | inr none ↦ absurd none ]) ]
        by false k = inl (first-left (is_answer_to m) asked l k)

module _ (plans : ℕ → TargetPlan) where
  -- all of some letters have form
  abbrev pub InForm : List Letter → Type 0
  InForm ls = (l : Letter) → Has l ls → IsLetter plans l

  pub both : (xs ys : List Letter) → InForm xs → InForm ys → InForm (xs ++ ys)
  both xs ys one two l i = elim (has-cases xs ys l i) [ inl j ↦ one l j | inr j ↦ two l j ]

  pub fewer : (test : Letter → Bool) (xs : List Letter) → InForm xs → InForm (filter test xs)
  fewer test xs k l i = k l (has-from_filter test xs l i).0

  pub sent : (from : ActorId) (posts : List Post) → ((q : Post) → Has q posts → IsLetter plans (letter_of from q)) → InForm (letters_of from posts)
  sent from posts k l i = let q = has-from_map (letter_of from) posts l i in subst (IsLetter plans) q.2 (k q.0 q.1)

  -- ---- without an answer

  with-one : (asked : List Letter) (l : Letter) → InForm asked → IsLetter plans l → InForm (asked_with asked l)
  unfolding asked_with
  with-one asked l k one = by (is_answerable l.message)
    where
      by : (b : Bool) → InForm (if b then asked ++ l ∷ [] else before_first (is_answer_to l) asked ++ after_first (is_answer_to l) asked)
      by true = both asked (l ∷ []) k (λ m i. elim i [ inl same ↦ subst (IsLetter plans) (sym same) one | inr none ↦ absurd none ])
      by false = λ m i. k m (first-left (is_answer_to l) asked m i)

  pub asked-on : (asked ls : List Letter) → InForm asked → InForm ls → InForm (asked_after asked ls)
  asked-on asked [] k some = k
  asked-on asked (l ∷ ls) k some = asked-on (asked_with asked l) ls (with-one asked l k (some l (inl refl))) (λ m i. some m (inr i))

  -- ---- what is lost

  reset-all : (down : Bool) (test : Letter → Bool) → ((l : Letter) → test l ≡ true → (l.to.client ≡ false) × (l.to.number < 64)) → (asked : List Letter) → InForm asked → InForm (map (reset_letter down) (filter test asked))
  reset-all down test few asked k l i =
      let q = has-from_map (reset_letter down) (filter test asked) l i in
      let j = has-from_filter test asked q.0 q.1 in
      let to = few q.0 j.1 in
      subst (IsLetter plans) q.2 (resets-are-letters plans down q.0 to.0 to.1 (k q.0 j.0))

  not-client : (b : Bool) → not b ≡ true → b ≡ false
  not-client true h = let no : ⊥ = cc in absurd no
  not-client false h = refl

  -- a letter to one of so many targets that is given up
  lost-few : (lives : List Life) → length lives ≤ 64 → (l : Letter) → is_lost_by lives l ≡ true → (l.to.client ≡ false) × (l.to.number < 64)
  lost-few lives few l is = (not-client l.to.client (and_left (not l.to.client) (is_down_in lives l.to.number) is), by (slice_get lives l.to.number) refl (and_right (not l.to.client) (is_down_in lives l.to.number) is))
    where
      by : (o : Option Life) → slice_get lives l.to.number ≡ o → is_given_up_there o ≡ true → l.to.number < 64
      by None at off = let no : ⊥ = cc in absurd no
      by (Some life) at on = let within = slice_get_within lives l.to.number life at in omega (arith, few, within)

  to-few : (t : ℕ) → t < 64 → (l : Letter) → is_to t l ≡ true → (l.to.client ≡ false) × (l.to.number < 64)
  to-few t few l is =
      let its = and_right (not l.to.client) (l.to.number == t) is in
      (not-client l.to.client (and_left (not l.to.client) (l.to.number == t) is), grind (arith, nat_tests))

  -- ---- what lies between

  pub record AllInForm (b : BetweenNow) : Type 0 where
    pub messages : InForm b.messages
    pub asked : InForm b.asked

  pub followed-form : (from : ActorId) (did : Did) (b : BetweenNow) → AllInForm b → ((q : Post) → Has q did.posts → IsLetter plans (letter_of from q)) → AllInForm (followed from did b)
  followed-form from did b k new = record { messages = both b.messages (letters_of from did.posts) k.messages (sent from did.posts new); asked = asked-on b.asked (letters_of from did.posts) k.asked (sent from did.posts new) }

  pub swept-form : (lives : List Life) (b : BetweenNow) → length lives ≤ 64 → AllInForm b → AllInForm (swept_between lives b)
  swept-form lives b few k = record {
    messages = fewer (is_left_by lives) _ (both b.messages _ k.messages (reset-all true (is_lost_by lives) (lost-few lives few) b.asked k.asked));
    asked = fewer (is_left_by lives) b.asked k.asked;
  }

  pub lost-form : (t : ℕ) (down : Bool) (b : BetweenNow) → t < 64 → AllInForm b → InForm (filter (is_not_to t) b.messages ++ resets t down b.asked)
  lost-form t down b few k = both (filter (is_not_to t) b.messages) (resets t down b.asked) (fewer (is_not_to t) b.messages k.messages) (reset-all down (is_to t) (to-few t few) b.asked k.asked)

  pub asked-lost : (t : ℕ) (b : BetweenNow) → AllInForm b → InForm (filter (is_not_to t) b.asked)
  asked-lost t b k = fewer (is_not_to t) b.asked k.asked
