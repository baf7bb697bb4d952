-- Commands by which a client tells another one, and the lines from `tell`.
use Rattle.std.proofs.Common.{◌≡◌, ◌<◌, ℕ, ◌+◌, suc, Bool, true, false, cond, eqb, leb, List, [], ◌∷◌, ◌++◌, length, Some, None, refl, sym, subst, ◌∙◌, arith, All, find}
use Rattle.std.specs.List.{AllByRecursion}
use Rattle.std.specs.Option.{option_map}
use Rattle.std.proofs.lemmas.Bool.{or_parts}
use Rattle.std.proofs.lemmas.Bool.Decides.{nat_tests}
use Rattle.std.proofs.lemmas.List.Elements.{All-from_recursion}
use Rattle.base_types.specs.Scripts.{AreTold, IsTold, is_numbered}
use Rattle.base_types.specs.declared.script.Command.{Command}
use Rattle.base_types.specs.declared.script.Command.TheVariants as command
use Rattle.daos_script.specs.declared.lists.Told.{Told}
use Rattle.daos_script.specs.Readings.{bad_tell, is_bad}
use Rattle.daos_script.specs.SoFar.{AreKept, IsKept}
use Rattle.daos_script.proofs.Pushes.{any_after, any_more}

-- ---- lists of commands

each : {A : Type 0} (P Q : A → Type 0) → ((x : A) → P x → Q x) → (xs : List A) → AllByRecursion P xs → AllByRecursion Q xs
each P Q f [] h = tt
each P Q f (x ∷ xs) h = (f x h.0, each P Q f xs h.1)

-- the list of one more client
kept-push : (tells : List Told) (own : ℕ) (lists : List (List Command)) (list : List Command) → AreKept tells own lists → AllByRecursion (IsKept tells (own + length lists)) list → AreKept tells own (lists ++ list ∷ [])
kept-push tells own [] list h k = (subst (λ n. AllByRecursion (IsKept tells n) list) (zero own) k, tt)
  where
    zero : (n : ℕ) → n + 0 ≡ n
    zero n = omega arith
kept-push tells own (l ∷ ls) list h k = (h.0, kept-push tells (suc own) ls list h.1 (subst (λ n. AllByRecursion (IsKept tells n) list) (later own (length ls)) k))
  where
    later : (n m : ℕ) → n + suc m ≡ suc n + m
    later n m = omega arith

-- the lists before the last one, and that one
kept-parts : (tells : List Told) (own : ℕ) (lists : List (List Command)) (list : List Command) → AreKept tells own (lists ++ list ∷ []) → AreKept tells own lists × AllByRecursion (IsKept tells (own + length lists)) list
kept-parts tells own [] list h = (tt, subst (λ n. AllByRecursion (IsKept tells n) list) (zero own) h.0)
  where
    zero : (n : ℕ) → n ≡ n + 0
    zero n = omega arith
kept-parts tells own (l ∷ ls) list h =
    let p = kept-parts tells (suc own) ls list h.1 in ((h.0, p.0), subst (λ n. AllByRecursion (IsKept tells n) list) (later own (length ls)) p.1)
  where
    later : (n m : ℕ) → suc n + m ≡ n + suc m
    later n m = omega arith

-- the same of all lists
pub all_kept-push : (tells : List Told) (lists : List (List Command)) (list : List Command) → AreKept tells 0 lists → AllByRecursion (IsKept tells (length lists)) list → AreKept tells 0 (lists ++ list ∷ [])
all_kept-push tells lists list h k = kept-push tells 0 lists list h (subst (λ n. AllByRecursion (IsKept tells n) list) (zero (length lists)) k)
  where
    zero : (n : ℕ) → n ≡ 0 + n
    zero n = omega arith

pub all_kept-parts : (tells : List Told) (lists : List (List Command)) (list : List Command) → AreKept tells 0 (lists ++ list ∷ []) → AreKept tells 0 lists × AllByRecursion (IsKept tells (length lists)) list
all_kept-parts tells lists list h =
    let p = kept-parts tells 0 lists list h in (p.0, subst (λ n. AllByRecursion (IsKept tells n) list) (zero (length lists)) p.1)
  where
    zero : (n : ℕ) → 0 + n ≡ n
    zero n = omega arith

-- ---- lines

-- with one line more
pub one_kept : (tells : List Told) (t : Told) (own : ℕ) (c : Command) → IsKept tells own c → IsKept (tells ++ t ∷ []) own c
one_kept tells t own (command.Run ops skips snapshot) h = tt
one_kept tells t own (command.Snap name cont) h = tt
one_kept tells t own (command.Aggregate cont) h = tt
one_kept tells t own (command.Tell to) h = any_more (λ t. (t.client ≡ own) × (t.to ≡ to)) tells (t ∷ []) h
one_kept tells t own (command.Skip turns) h = tt

pub more_kept : (tells : List Told) (t : Told) (own : ℕ) (lists : List (List Command)) → AreKept tells own lists → AreKept (tells ++ t ∷ []) own lists
more_kept tells t own [] h = tt
more_kept tells t own (list ∷ lists) h = (each (IsKept tells own) (IsKept (tells ++ t ∷ []) own) (one_kept tells t own) list h.0, more_kept tells t (suc own) lists h.1)

-- the line of the command itself
pub own_kept : (tells : List Told) (t : Told) (own : ℕ) → t.client ≡ own → IsKept (tells ++ t ∷ []) own (command.Tell t.to)
own_kept tells t own e = any_after (λ u. (u.client ≡ own) × (u.to ≡ t.to)) tells (t ∷ []) (0, t, omega arith, refl, (e, refl))

-- a numbered command tells none
pub numbered_kept : (tells : List Told) (own : ℕ) (c : Command) → is_numbered c ≡ true → IsKept tells own c
numbered_kept tells own (command.Run ops skips snapshot) e = tt
numbered_kept tells own (command.Snap name cont) e = tt
numbered_kept tells own (command.Aggregate cont) e = tt
numbered_kept tells own (command.Tell to) e = absurd cc
numbered_kept tells own (command.Skip turns) e = tt

-- ---- the end

none_bad : (n : ℕ) (tells : List Told) → bad_tell n tells ≡ None → AllByRecursion (λ t. is_bad n t ≡ false) tells
none_bad n [] e = tt
none_bad n (t ∷ ts) e = go (is_bad n t) refl e (λ e. none_bad n ts e)
  where
    go : (b : Bool) → is_bad n t ≡ b → option_map (λ u. u.line) (cond b (Some t) (find (is_bad n) ts)) ≡ None → (bad_tell n ts ≡ None → AllByRecursion (λ u. is_bad n u ≡ false) ts) → (is_bad n t ≡ false) × AllByRecursion (λ u. is_bad n u ≡ false) ts
    go true h e ih = absurd cc
    go false h e ih = (h, ih e)

-- a line that isn't bad
good : (n own to : ℕ) (t : Told) → is_bad n t ≡ false → (t.client ≡ own) × (t.to ≡ to) → (to < n) × (to ≡ own → ⊥)
good n own to t e same = subst (λ k. (k < n) × (k ≡ own → ⊥)) same.1 (below (leb n t.to) refl, λ is. other (eqb t.to t.client) refl (is ∙ sym same.0))
  where
    p : (eqb t.to t.client ≡ false) × (leb n t.to ≡ false)
    p = or_parts (eqb t.to t.client) (leb n t.to) e

    below : (b : Bool) → leb n t.to ≡ b → t.to < n
    below b h = let no = p.1 in grind (arith, nat_tests)

    other : (b : Bool) → eqb t.to t.client ≡ b → t.to ≡ t.client → ⊥
    other b h is = let no = p.0 in grind (arith, nat_tests)

module _ (n : ℕ) (tells : List Told) (none : bad_tell n tells ≡ None) where
  told_by : (own : ℕ) (c : Command) → IsKept tells own c → IsTold n own c
  told_by own (command.Run ops skips snapshot) h = tt
  told_by own (command.Snap name cont) h = tt
  told_by own (command.Aggregate cont) h = tt
  told_by own (command.Tell to) (k, t, lt, is, same) =
      let all : All (λ u. is_bad n u ≡ false) tells = All-from_recursion (λ u. is_bad n u ≡ false) tells (none_bad n tells none) in
      good n own to t (subst (λ u. is_bad n u ≡ false) is (all k t lt)) same
  told_by own (command.Skip turns) h = tt

  -- where no line is bad, each client that is told is another one that is there
  pub all_told : (own : ℕ) (lists : List (List Command)) → AreKept tells own lists → AreTold n own lists
  all_told own [] h = tt
  all_told own (list ∷ lists) h = (All-from_recursion (IsTold n own) list (each (IsKept tells own) (IsTold n own) (told_by own) list h.0), all_told (suc own) lists h.1)
