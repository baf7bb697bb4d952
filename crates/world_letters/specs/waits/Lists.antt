-- What is left of lists, and of what targets hold, where some is lost.
use Rattle.std.specs.Prelude.{ℕ, zero, suc, ◌≡◌, ◌≤◌, ◌+◌, ◌++◌, ◌==◌, ◌&&◌, ◌||◌, Bool, true, false, not, List, [], ◌∷◌, filter, map, slice_get, Some, if◌then◌else◌, refl}
use Rattle.std.proofs.Common.{sym, ◌∙◌, ap, subst, arith, inl, inr}
use Rattle.std.proofs.Math.ListN.{set}
use Rattle.std.proofs.lemmas.List.Elements.{filter-append}
use Rattle.world_base.specs.model_laws.Members.{Has, has-cases, has-from_filter, has-from_map}
use Rattle.world_base.specs.model_laws.TargetLaws.{number_same, same_number}
use Rattle.world_base.specs.declared.letter.Letter.{Letter}
use Rattle.world_base.specs.declared.target.TargetMemory.{TargetMemory}
use Rattle.world_base.specs.declared.target.TargetState.{TargetState}
use Rattle.world_base.specs.Letters.{is_client, is_talk_of, talk_of}
use Rattle.world_base.specs.Stops.{reset_letter}
use Rattle.world_letters.specs.waits.Waits.{Held, HoldsNothing, collected_at, held_by, held_from, holder, is_asked_by, is_collected_of, is_open_of, is_parked_of, open_at, parked_at}

-- ---- tests

pub filter-yes : {T : Type 0} (p : T → Bool) (x : T) (xs : List T) → p x ≡ true → filter p (x ∷ xs) ≡ x ∷ filter p xs
filter-yes p x xs h = ap (λ b. if b then x ∷ filter p xs else filter p xs) h

pub filter-no : {T : Type 0} (p : T → Bool) (x : T) (xs : List T) → p x ≡ false → filter p (x ∷ xs) ≡ filter p xs
filter-no p x xs h = ap (λ b. if b then x ∷ filter p xs else filter p xs) h

pub filter-all : {T : Type 0} (p : T → Bool) (xs : List T) → ((x : T) → Has x xs → p x ≡ true) → filter p xs ≡ xs
filter-all p [] all = refl
filter-all p (x ∷ xs) all = filter-yes p x xs (all x (inl refl)) ∙ ap (λ ys. x ∷ ys) (filter-all p xs (λ y i. all y (inr i)))

pub filter-none : {T : Type 0} (p : T → Bool) (xs : List T) → ((x : T) → Has x xs → p x ≡ false) → filter p xs ≡ []
filter-none p [] none = refl
filter-none p (x ∷ xs) none = filter-no p x xs (none x (inl refl)) ∙ filter-none p xs (λ y i. none y (inr i))

-- two tests in either order
pub filter-swap : {T : Type 0} (p q : T → Bool) (xs : List T) → filter p (filter q xs) ≡ filter q (filter p xs)
filter-swap p q [] = refl
filter-swap {T} p q (x ∷ xs) = by (filter-swap p q xs) (p x) (q x) refl refl
  where
    by : filter p (filter q xs) ≡ filter q (filter p xs) → (b c : Bool) → p x ≡ b → q x ≡ c → filter p (filter q (x ∷ xs)) ≡ filter q (filter p (x ∷ xs))
    by rest true true e f = ap (filter p) (filter-yes q x xs f) ∙ filter-yes p x (filter q xs) e ∙ ap (λ ys. x ∷ ys) rest ∙ sym (filter-yes q x (filter p xs) f) ∙ ap (filter q) (sym (filter-yes p x xs e))
    by rest true false e f = ap (filter p) (filter-no q x xs f) ∙ rest ∙ sym (filter-no q x (filter p xs) f) ∙ ap (filter q) (sym (filter-yes p x xs e))
    by rest false true e f = ap (filter p) (filter-yes q x xs f) ∙ filter-no p x (filter q xs) e ∙ rest ∙ ap (filter q) (sym (filter-no p x xs e))
    by rest false false e f = ap (filter p) (filter-no q x xs f) ∙ rest ∙ ap (filter q) (sym (filter-no p x xs e))

-- ---- letters

-- a letter goes to a target that is lost
abbrev pub goes_to : (ℕ → Bool) → Letter → Bool
goes_to gone l = not l.to.client && gone l.to.number

abbrev pub stays_off : (ℕ → Bool) → Letter → Bool
stays_off gone l = not (goes_to gone l)

-- what is told of losses to a client is told of what it asked
module _ (n : ℕ) (gone : ℕ → Bool) (down : Bool) where
  reset-of : (l : Letter) → goes_to gone l ≡ true → is_talk_of n (reset_letter down l) ≡ is_asked_by n l
  unfolding is_talk_of
  reset-of l goes = ap (λ b. b || is_client n l.from) (by l.to.client goes)
    where
      by : (b : Bool) → (not b && gone l.to.number) ≡ true → (b && (l.to.number == n)) ≡ false
      by true h = let no : ⊥ = cc in absurd no
      by false h = refl

  pub resets-talk : (qs : List Letter) → talk_of n (map (reset_letter down) (filter (goes_to gone) qs)) ≡ map (reset_letter down) (filter (goes_to gone) (filter (is_asked_by n) qs))
  resets-talk [] = refl
  resets-talk (q ∷ qs) = by (resets-talk qs) (goes_to gone q) (is_asked_by n q) refl refl
    where
      by : talk_of n (map (reset_letter down) (filter (goes_to gone) qs)) ≡ map (reset_letter down) (filter (goes_to gone) (filter (is_asked_by n) qs)) → (b c : Bool) → goes_to gone q ≡ b → is_asked_by n q ≡ c
          → talk_of n (map (reset_letter down) (filter (goes_to gone) (q ∷ qs))) ≡ map (reset_letter down) (filter (goes_to gone) (filter (is_asked_by n) (q ∷ qs)))
      by rest true true e f =
          ap (λ x. talk_of n (map (reset_letter down) x)) (filter-yes (goes_to gone) q qs e) ∙ filter-yes (is_talk_of n) (reset_letter down q) (map (reset_letter down) (filter (goes_to gone) qs)) (reset-of q e ∙ f) ∙ ap (λ x. reset_letter down q ∷ x) rest
          ∙ ap (map (reset_letter down)) (sym (filter-yes (goes_to gone) q (filter (is_asked_by n) qs) e) ∙ ap (filter (goes_to gone)) (sym (filter-yes (is_asked_by n) q qs f)))
      by rest true false e f =
          ap (λ x. talk_of n (map (reset_letter down) x)) (filter-yes (goes_to gone) q qs e) ∙ filter-no (is_talk_of n) (reset_letter down q) (map (reset_letter down) (filter (goes_to gone) qs)) (reset-of q e ∙ f) ∙ rest
          ∙ ap (λ x. map (reset_letter down) (filter (goes_to gone) x)) (sym (filter-no (is_asked_by n) q qs f))
      by rest false true e f =
          ap (λ x. talk_of n (map (reset_letter down) x)) (filter-no (goes_to gone) q qs e) ∙ rest ∙ ap (map (reset_letter down)) (sym (filter-no (goes_to gone) q (filter (is_asked_by n) qs) e) ∙ ap (filter (goes_to gone)) (sym (filter-yes (is_asked_by n) q qs f)))
      by rest false false e f = ap (λ x. talk_of n (map (reset_letter down) x)) (filter-no (goes_to gone) q qs e) ∙ rest ∙ ap (λ x. map (reset_letter down) (filter (goes_to gone) x)) (sym (filter-no (is_asked_by n) q qs f))

  -- and it goes to the client, which isn't lost
  pub resets-stay : (qs : List Letter) → filter (stays_off gone) (map (reset_letter down) (filter (goes_to gone) (filter (is_asked_by n) qs))) ≡ map (reset_letter down) (filter (goes_to gone) (filter (is_asked_by n) qs))
  resets-stay qs = filter-all (stays_off gone) (map (reset_letter down) (filter (goes_to gone) (filter (is_asked_by n) qs))) stays
    where
      stays : (l : Letter) → Has l (map (reset_letter down) (filter (goes_to gone) (filter (is_asked_by n) qs))) → stays_off gone l ≡ true
      stays l i =
          let z = has-from_map (reset_letter down) (filter (goes_to gone) (filter (is_asked_by n) qs)) l i in
          let k = has-from_filter (is_asked_by n) qs z.0 (has-from_filter (goes_to gone) (filter (is_asked_by n) qs) z.0 z.1).0 in
          subst (λ x. stays_off gone x ≡ true) z.2 (of-client z.0.from.client (gone z.0.from.number) (z.0.from.number == n) k.1)
        where
          of-client : (b g c : Bool) → (b && c) ≡ true → not (not b && g) ≡ true
          of-client true g c h = refl
          of-client false g c h = let no : ⊥ = cc in absurd no

-- ---- what targets hold

-- all that a target holds is at that target
pub held-at : (n t : ℕ) (m : TargetMemory) (x : Held) → Has x (held_by n t m) → holder x ≡ t
held-at n t m x i = elim (has-cases (map (parked_at t) (filter (is_parked_of n) m.member.parked)) (map (open_at t) (filter (is_open_of n) m.leader.undecided) ++ map (collected_at t) (filter (is_collected_of n) m.collecting)) x i) [
  | inl j ↦ (let z = has-from_map (parked_at t) (filter (is_parked_of n) m.member.parked) x j in ap holder (sym z.2))
  | inr j ↦ elim (has-cases (map (open_at t) (filter (is_open_of n) m.leader.undecided)) (map (collected_at t) (filter (is_collected_of n) m.collecting)) x j) [
    | inl l ↦ (let z = has-from_map (open_at t) (filter (is_open_of n) m.leader.undecided) x l in ap holder (sym z.2))
    | inr l ↦ (let z = has-from_map (collected_at t) (filter (is_collected_of n) m.collecting) x l in ap holder (sym z.2))
  ]
]

-- those numbered from a number on hold at no lower one
pub held-from_low : (n t : ℕ) (ss : List TargetState) (x : Held) → Has x (held_from n t ss) → t ≤ holder x
held-from_low n t [] x i = absurd i
held-from_low n t (s ∷ ss) x i = elim (has-cases (held_by n t s.memory) (held_from n (t + 1) ss) x i) [
  | inl j ↦ (let e = held-at n t s.memory x j in omega (arith, e))
  | inr j ↦ (let k = held-from_low n (t + 1) ss x j in omega (arith, k))
]

pub nothing-held : (n t : ℕ) (m : TargetMemory) → HoldsNothing m → held_by n t m ≡ []
nothing-held n t m h =
    ap (λ ps. map (parked_at t) (filter (is_parked_of n) ps) ++ (map (open_at t) (filter (is_open_of n) m.leader.undecided) ++ map (collected_at t) (filter (is_collected_of n) m.collecting))) h.parked
    ∙ ap (λ us. map (open_at t) (filter (is_open_of n) us) ++ map (collected_at t) (filter (is_collected_of n) m.collecting)) h.undecided
    ∙ ap (λ cs. map (collected_at t) (filter (is_collected_of n) cs)) h.collecting

-- what is held elsewhere
abbrev pub is_held_off : (ℕ → Bool) → Held → Bool
is_held_off gone x = not (gone (holder x))

abbrev pub is_number_of : ℕ → ℕ → Bool
is_number_of t u = u == t

other-number : (t u : ℕ) → (u ≡ t → ⊥) → (u == t) ≡ false
other-number t u apart = by (u == t) refl
  where
    by : (b : Bool) → (u == t) ≡ b → (u == t) ≡ false
    by true e = absurd (apart (number_same u t e))
    by false e = e

-- where one target comes to hold nothing, all else stays
pub held-lost : (n i k : ℕ) (ss : List TargetState) (s z : TargetState) → slice_get ss k ≡ Some s → held_by n (i + k) z.memory ≡ [] → held_from n i (set ss k z) ≡ filter (is_held_off (is_number_of (i + k))) (held_from n i ss)
held-lost n i k [] s z here none = let no : ⊥ = cc in absurd no
held-lost n i zero (y ∷ ys) s z here none =
    ap (λ x. x ++ held_from n (i + 1) ys) (subst (λ m. held_by n m z.memory ≡ []) (let e : i + zero ≡ i = omega arith in e) none)
    ∙ sym (filter-append (is_held_off (is_number_of (i + zero))) (held_by n i y.memory) (held_from n (i + 1) ys) ∙ ap (λ x. x ++ filter (is_held_off (is_number_of (i + zero))) (held_from n (i + 1) ys)) gone ∙ stay)
  where
    gone : filter (is_held_off (is_number_of (i + zero))) (held_by n i y.memory) ≡ []
    gone = filter-none (is_held_off (is_number_of (i + zero))) (held_by n i y.memory) (λ x j. let e : holder x ≡ i = held-at n i y.memory x j in let f : holder x ≡ i + zero = omega (arith, e) in ap not (ap (λ m. m == (i + zero)) f ∙ same_number (i + zero)))

    stay : filter (is_held_off (is_number_of (i + zero))) (held_from n (i + 1) ys) ≡ held_from n (i + 1) ys
    stay = filter-all (is_held_off (is_number_of (i + zero))) (held_from n (i + 1) ys) (λ x j. let low : i + 1 ≤ holder x = held-from_low n (i + 1) ys x j in ap not (other-number (i + zero) (holder x) (λ e. omega (arith, low, e))))
held-lost n i (suc k) (y ∷ ys) s z here none =
    ap (λ x. held_by n i y.memory ++ x) (held-lost n (i + 1) k ys s z here (subst (λ m. held_by n m z.memory ≡ []) (sym on) none) ∙ ap (λ m. filter (is_held_off (is_number_of m)) (held_from n (i + 1) ys)) on)
    ∙ sym (filter-append (is_held_off (is_number_of (i + suc k))) (held_by n i y.memory) (held_from n (i + 1) ys) ∙ ap (λ x. x ++ filter (is_held_off (is_number_of (i + suc k))) (held_from n (i + 1) ys)) stay)
  where
    on : (i + 1) + k ≡ i + suc k
    on = omega arith

    stay : filter (is_held_off (is_number_of (i + suc k))) (held_by n i y.memory) ≡ held_by n i y.memory
    stay = filter-all (is_held_off (is_number_of (i + suc k))) (held_by n i y.memory) (λ x j. let e : holder x ≡ i = held-at n i y.memory x j in ap not (other-number (i + suc k) (holder x) (λ f. omega (arith, e, f))))

-- where one target holds the same, all do
pub held-same : (n i k : ℕ) (ss : List TargetState) (s z : TargetState) → slice_get ss k ≡ Some s → held_by n (i + k) z.memory ≡ held_by n (i + k) s.memory → held_from n i (set ss k z) ≡ held_from n i ss
held-same n i k [] s z here same = let no : ⊥ = cc in absurd no
held-same n i zero (y ∷ ys) s z here same =
    let is : s ≡ y = cc in
    ap (λ x. x ++ held_from n (i + 1) ys) (subst (λ m. held_by n m z.memory ≡ held_by n m y.memory) (let e : i + zero ≡ i = omega arith in e) (subst (λ w. held_by n (i + zero) z.memory ≡ held_by n (i + zero) w.memory) is same))
held-same n i (suc k) (y ∷ ys) s z here same =
    let on : (i + 1) + k ≡ i + suc k = omega arith in
    ap (λ x. held_by n i y.memory ++ x) (held-same n (i + 1) k ys s z here (subst (λ m. held_by n m z.memory ≡ held_by n m s.memory) (sym on) same))

-- where no lost target holds anything, nothing is lost
pub held-off : (n i : ℕ) (gone : ℕ → Bool) (ss : List TargetState) → ((k : ℕ) (s : TargetState) → slice_get ss k ≡ Some s → gone (i + k) ≡ true → held_by n (i + k) s.memory ≡ []) → filter (is_held_off gone) (held_from n i ss) ≡ held_from n i ss
held-off n i gone [] none = refl
held-off n i gone (s ∷ ss) none =
    filter-append (is_held_off gone) (held_by n i s.memory) (held_from n (i + 1) ss)
    ∙ ap (λ x. x ++ filter (is_held_off gone) (held_from n (i + 1) ss)) (own (gone i) refl)
    ∙ ap (λ x. held_by n i s.memory ++ x) (held-off n (i + 1) gone ss (λ k z here g. let on : (i + 1) + k ≡ i + suc k = omega arith in subst (λ m. held_by n m z.memory ≡ []) (sym on) (none (suc k) z here (subst (λ m. gone m ≡ true) on g))))
  where
    first : i + zero ≡ i
    first = omega arith

    own : (b : Bool) → gone i ≡ b → filter (is_held_off gone) (held_by n i s.memory) ≡ held_by n i s.memory
    own true g = let e : held_by n i s.memory ≡ [] = subst (λ m. held_by n m s.memory ≡ []) first (none zero s refl (subst (λ m. gone m ≡ true) (sym first) g)) in ap (filter (is_held_off gone)) e ∙ sym e
    own false g = filter-all (is_held_off gone) (held_by n i s.memory) (λ x j. ap not (ap gone (held-at n i s.memory x j) ∙ g))
