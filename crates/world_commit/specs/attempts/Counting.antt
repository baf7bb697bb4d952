-- How many of some pass a test, once one was taken out or others came.
use Rattle.std.specs.Prelude.{◌≡◌, ◌+◌, ◌≤◌, Bool, true, false, List, [], ◌∷◌, ◌++◌, refl, filter, if◌then◌else◌, map, suc, zero, ℕ, ◌<◌, ◌==◌}
use Rattle.std.proofs.Common.{sym, ◌∙◌, ap, subst, arith, inl, inr}
use Rattle.model_laws.specs.Members.{Has, has-cases, has-left, has-right}
use Rattle.world_commit.specs.attempts.Attempts.{count, one_if, IsOther, first_entry, others_of}
use Rattle.world_base.specs.declared.letter.Letter.{Letter}
use Rattle.world_base.specs.Letters.{Takes}
use Rattle.base_types.specs.declared.id.AttemptId.{AttemptId}
use Rattle.world_base.specs.Events.{Rules}
use Rattle.dtx_base.specs.Members.{all_targets, is_other_member, other_members}
use Rattle.std.proofs.lemmas.Bool.Decides.{nat_tests}
use Rattle.std.specs.List.{range_with_len}

pub count-append : {T : Type 0} (p : T → Bool) (xs ys : List T) → count p (xs ++ ys) ≡ count p xs + count p ys
count-append p [] ys = omega arith
count-append p (x ∷ xs) ys = let rest = count-append p xs ys in omega (arith, rest)

-- none passes
pub count-none : {T : Type 0} (p : T → Bool) (xs : List T) → ((x : T) → Has x xs → p x ≡ false) → count p xs ≡ 0
count-none p [] none = refl
count-none p (x ∷ xs) none = let rest = count-none p xs (λ y i. none y (inr i)) in rw (none x (inl refl)) (omega (arith, rest))

-- one that passes is counted
pub count-some : {T : Type 0} (p : T → Bool) (xs : List T) (x : T) → Has x xs → p x ≡ true → 1 ≤ count p xs
count-some p [] x i is = absurd i
count-some p (y ∷ xs) x (inl same) is = let one : p y ≡ true = ap p (sym same) ∙ is in rw one (omega arith)
count-some p (y ∷ xs) x (inr i) is = let rest = count-some p xs x i is in omega (arith, rest)

-- the same tests pass for the same
pub count-same : {T : Type 0} (p q : T → Bool) (xs : List T) → ((x : T) → Has x xs → p x ≡ q x) → count p xs ≡ count q xs
count-same p q [] same = refl
count-same p q (x ∷ xs) same = let one = same x (inl refl) in rw (one, count-same p q xs (λ y i. same y (inr i))) refl

-- ---- letters

pub count-taken : (p : Letter → Bool) (letters : List Letter) (l : Letter) (rest : List Letter) → Takes letters l rest → count p letters ≡ one_if (p l) + count p rest
count-taken p letters l rest k =
    let all = count-append p k.before (l ∷ k.after) in
    let left = count-append p k.before k.after in
    rw (k.among, k.left) (omega (arith, all, left))

pub has-taken : (letters : List Letter) (l : Letter) (rest : List Letter) → Takes letters l rest → Has l letters
has-taken letters l rest k = subst (Has l) (sym k.among) (has-right k.before (l ∷ k.after) l (inl refl))

pub has-left_over : (letters : List Letter) (l : Letter) (rest : List Letter) (n : Letter) → Takes letters l rest → Has n rest → Has n letters
has-left_over letters l rest n k i =
    subst (Has n) (sym k.among)
    (elim (has-cases k.before k.after n (subst (Has n) k.left i)) [
      | inl j ↦ has-left k.before (l ∷ k.after) n j
      | inr j ↦ has-right k.before (l ∷ k.after) n (inr j)
    ])

abbrev pub is_same : ℕ → ℕ → Bool
is_same n u = u == n

range-none : (n a k : ℕ) → n < a → count (is_same n) (range_with_len a k) ≡ 0
range-none n a zero lt = refl
range-none n a (suc k) lt =
    let off : is_same n a ≡ false = grind (arith, nat_tests) in
    let rest = range-none n (a + 1) k (omega (arith, lt)) in
    let zero' : one_if (is_same n a) ≡ 0 = ap one_if off in
    omega (arith, rest, zero')

range-few : (n a k : ℕ) → count (is_same n) (range_with_len a k) ≤ 1
range-few n a zero = omega arith
range-few n a (suc k) = by (range-few n (a + 1) k) (is_same n a) refl
  where
    by : count (is_same n) (range_with_len (a + 1) k) ≤ 1 → (b : Bool) → is_same n a ≡ b → one_if (is_same n a) + count (is_same n) (range_with_len (a + 1) k) ≤ 1
    by few true is =
        let same : a ≡ n = grind (arith, nat_tests) in
        let rest = range-none n (a + 1) k (omega (arith, same)) in
        let one : one_if (is_same n a) ≡ 1 = ap one_if is in
        omega (arith, rest, one)
    by few false is = let zero' : one_if (is_same n a) ≡ 0 = ap one_if is in omega (arith, few, zero')

count-filter : {T : Type 0} (p q : T → Bool) (xs : List T) → count p (filter q xs) ≤ count p xs
count-filter p q [] = omega arith
count-filter p q (x ∷ xs) = by (count-filter p q xs) (q x)
  where
    by : count p (filter q xs) ≤ count p xs → (b : Bool) → count p (if b then x ∷ filter q xs else filter q xs) ≤ one_if (p x) + count p xs
    by rest true = omega (arith, rest)
    by rest false = omega (arith, rest)

-- another member stands among them once
pub other-once : (r : Rules) (x : AttemptId) (n : ℕ) → IsOther r x n → count (is_same n) (others_of r x) ≡ 1
unfolding other_members
other-once r x n other =
    let most = count-filter (is_same n) (is_other_member (first_entry r x (record { 0 = 0 }))) all_targets in
    let few = range-few n 0 64 in
    let some = count-some (is_same n) (others_of r x) n other (let own : is_same n n ≡ true = grind (arith, nat_tests) in own) in
    omega (arith, most, few, some)

-- how many pass a test once they are changed
pub count-map : {T U : Type 0} (p : U → Bool) (q : T → Bool) (f : T → U) (xs : List T) → ((x : T) → p (f x) ≡ q x) → count p (map f xs) ≡ count q xs
count-map p q f [] same = refl
count-map p q f (x ∷ xs) same = let rest = count-map p q f xs same in let one : one_if (p (f x)) ≡ one_if (q x) = ap one_if (same x) in omega (arith, rest, one)
