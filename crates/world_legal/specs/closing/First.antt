-- Lines that stand in turn begin a command with its first attempt that wasn't lost at a stop: it is told of again, or is the last one.
use Rattle.std.specs.Prelude.{ℕ, ◌≡◌, ◌⊎◌, ◌≤◌, ◌+◌, ◌++◌, ◌==◌, ◌&&◌, not, Bool, true, false, List, [], ◌∷◌, filter, find, Some, refl, if◌then◌else◌}
use Rattle.std.proofs.Common.{inl, inr, sym, ◌∙◌, ap, subst, arith}
use Rattle.base_types.specs.declared.id.AttemptId.{AttemptId}
use Rattle.base_types.specs.declared.report.Attempt.{Attempt}
use Rattle.base_types.specs.declared.report.Line.{Line}
use Rattle.base_types.specs.declared.report.Line.TheVariants as line
use Rattle.base_types.specs.declared.script.Command.{Command}
use Rattle.base_types.specs.declared.script.Script.{Script}
use Rattle.model_laws.specs.Members.{Has, has-cases, has-filter, has-from_filter, has-left, has-right}
use Rattle.model_laws.specs.TargetLaws.{number_same, same_number}
use Rattle.daos_model.specs.Attempts.{is_lost, is_of_client, is_restart, tries}
use Rattle.daos_model.specs.BoolLaws.{and_left, and_right, both, clash, false_of, not_true}
use Rattle.daos_model.specs.CausesShown.{epoch_of_attempt, first_epoch, starts_command}
use Rattle.daos_model.specs.Laws.{tries-append}
use Rattle.daos_model.specs.Order.{AllInTurn, AreAttempts, AreInTurn, client_commands}

-- a line that tells of an attempt is one of those
pub among-tries : (lines before : List Line) (a : Attempt) (after : List Line) → lines ≡ before ++ line.Try a ∷ after → Has a (tries lines)
unfolding tries
among-tries lines before a after e = subst (λ ls. Has a (tries ls)) (sym e) (subst (Has a) (sym (tries-append before (line.Try a ∷ after))) (has-right (tries before) (a ∷ tries after) a (inl refl)))

-- ---- one command

-- what is found among some attempts passes; and it is this one, or is told to restart
pub record IsFirst (p : Attempt → Bool) (xs : List Attempt) (a : Attempt) : Type 0 where
  pub b : Attempt
  pub among : Has b xs
  pub found : find p xs ≡ Some b
  pub passes : p b ≡ true
  pub how : (b ≡ a) ⊎ (is_restart b.outcome ≡ true)

first-of : (limit client command n : ℕ) (xs : List Attempt) (p : Attempt → Bool) (a : Attempt) → AreAttempts limit client command n xs → Has a xs → p a ≡ true → IsFirst p xs a
first-of limit client command n [] p a k i is = absurd i
first-of limit client command n (x ∷ []) p a k (inl same) is = record { b = x; among = inl refl; found = ap (λ b. if b then Some x else find p []) here; passes = here; how = inl (sym same) }
  where
    here : p x ≡ true
    here = subst (λ z. p z ≡ true) same is
first-of limit client command n (x ∷ []) p a k (inr none) is = absurd none
first-of limit client command n (x ∷ y ∷ more) p a k i is = by (p x) refl i (λ j. first-of limit client command (n + 1) (y ∷ more) p a k.3 j is)
  where
    on : IsFirst p (y ∷ more) a → p x ≡ false → IsFirst p (x ∷ y ∷ more) a
    on z off = record { b = z.b; among = inr z.among; found = ap (λ b. if b then Some x else find p (y ∷ more)) off ∙ z.found; passes = z.passes; how = z.how }

    by : (b : Bool) → p x ≡ b → Has a (x ∷ y ∷ more) → (Has a (y ∷ more) → IsFirst p (y ∷ more) a) → IsFirst p (x ∷ y ∷ more) a
    by true e j rest = record { b = x; among = inl refl; found = ap (λ b. if b then Some x else find p (y ∷ more)) e; passes = e; how = inr k.1 }
    by false e (inl same) rest = clash (p a) is (ap p same ∙ e)
    by false e (inr j) rest = on (rest j) e

-- ---- the commands of a client

pub command-of : (limit client command n : ℕ) (xs : List Attempt) (a : Attempt) → AreAttempts limit client command n xs → Has a xs → a.id.command ≡ command
command-of limit client command n [] a k i = absurd i
command-of limit client command n (b ∷ []) a k (inl same) = ap (λ c. c.id.command) same ∙ ap (λ x. x.command) k.0
command-of limit client command n (b ∷ []) a k (inr i) = absurd i
command-of limit client command n (b ∷ c ∷ more) a k (inl same) = ap (λ d. d.id.command) same ∙ ap (λ x. x.command) k.0
command-of limit client command n (b ∷ c ∷ more) a k (inr i) = command-of limit client command (n + 1) (c ∷ more) a k.3 i

pub from-on : (limit client n : ℕ) (cs : List Command) (xs : List Attempt) (a : Attempt) → AreInTurn limit client n cs xs → Has a xs → n ≤ a.id.command
from-on limit client n [] xs a k i = absurd (subst (Has a) k i)
from-on limit client n (c ∷ cs) xs a k i = elim (has-cases k.0 k.1 a (subst (Has a) k.2 i)) [
  | inl j ↦ let e : a.id.command ≡ n = command-of limit client n 0 k.0 a k.3 j in omega (arith, e)
  | inr j ↦ let low : n + 1 ≤ a.id.command = from-on limit client (n + 1) cs k.1 a k.4 j in omega (arith, low)
]

-- what is found behind others that don't pass, and before others
find-past : (p : Attempt → Bool) (xs ys : List Attempt) → ((a : Attempt) → Has a xs → p a ≡ false) → find p (xs ++ ys) ≡ find p ys
find-past p [] ys off = refl
find-past p (x ∷ xs) ys off = ap (λ b. if b then Some x else find p (xs ++ ys)) (off x (inl refl)) ∙ find-past p xs ys (λ a i. off a (inr i))

find-left : (p : Attempt → Bool) (xs ys : List Attempt) (b : Attempt) → find p xs ≡ Some b → find p (xs ++ ys) ≡ Some b
find-left p [] ys b e = let no : ⊥ = cc in absurd no
find-left p (x ∷ xs) ys b e = by (p x) (find-left p xs ys b) e
  where
    by : (c : Bool) → (find p xs ≡ Some b → find p (xs ++ ys) ≡ Some b) → (if c then Some x else find p xs) ≡ Some b → (if c then Some x else find p (xs ++ ys)) ≡ Some b
    by true rest h = h
    by false rest h = rest h

first-in : (limit client n : ℕ) (cs : List Command) (xs : List Attempt) (p : Attempt → Bool) (a : Attempt) → ((b : Attempt) → p b ≡ true → b.id.command ≡ a.id.command) → AreInTurn limit client n cs xs → Has a xs → p a ≡ true → IsFirst p xs a
first-in limit client n [] xs p a own k i is = absurd (subst (Has a) k i)
first-in limit client n (c ∷ cs) xs p a own k i is = subst (λ zs. IsFirst p zs a) (sym k.2) (elim (has-cases k.0 k.1 a (subst (Has a) k.2 i)) [
  | inl j ↦ here (first-of limit client n 0 k.0 p a k.3 j is)
  | inr j ↦ there j (first-in limit client (n + 1) cs k.1 p a own k.4 j is)
])
  where
    here : IsFirst p k.0 a → IsFirst p (k.0 ++ k.1) a
    here z = record { b = z.b; among = has-left k.0 k.1 z.b z.among; found = find-left p k.0 k.1 z.b z.found; passes = z.passes; how = z.how }

    there : Has a k.1 → IsFirst p k.1 a → IsFirst p (k.0 ++ k.1) a
    there j z = record { b = z.b; among = has-right k.0 k.1 z.b z.among; found = find-past p k.0 k.1 off ∙ z.found; passes = z.passes; how = z.how }
      where
        off : (b : Attempt) → Has b k.0 → p b ≡ false
        off b l = false_of (p b) (λ on.
            let same : b.id.command ≡ a.id.command = own b on in
            let e : b.id.command ≡ n = command-of limit client n 0 k.0 b k.3 l in
            let low : n + 1 ≤ a.id.command = from-on limit client (n + 1) cs k.1 a k.4 j in
            omega (arith, same, e, low))

-- ---- all clients

-- what is found of those that pass a weaker test
find-filter : (p q : Attempt → Bool) (xs : List Attempt) → ((a : Attempt) → p a ≡ true → q a ≡ true) → find p (filter q xs) ≡ find p xs
find-filter p q [] weaker = refl
find-filter p q (x ∷ xs) weaker = by (q x) refl (p x) refl (find-filter p q xs weaker)
  where
    by : (b : Bool) → q x ≡ b → (c : Bool) → p x ≡ c → find p (filter q xs) ≡ find p xs → find p (if b then x ∷ filter q xs else filter q xs) ≡ (if c then Some x else find p xs)
    by true e true f rest = ap (λ b. if b then Some x else find p (filter q xs)) f
    by true e false f rest = ap (λ b. if b then Some x else find p (filter q xs)) f ∙ rest
    by false e true f rest = clash (q x) (weaker x f) e
    by false e false f rest = rest

-- whose attempt starts a command, and that it isn't lost
pub record Starts (x : AttemptId) (a : Attempt) : Type 0 where
  pub client : a.id.client ≡ x.client
  pub command : a.id.command ≡ x.command
  pub sure : is_lost a.id a.outcome ≡ false

pub starts-is : (x : AttemptId) (a : Attempt) → starts_command x a ≡ true → Starts x a
starts-is x a is =
    let k = and_left ((a.id.client == x.client) && (a.id.command == x.command)) (not (is_lost a.id a.outcome)) is in
    record {
      client = number_same a.id.client x.client (and_left (a.id.client == x.client) (a.id.command == x.command) k);
      command = number_same a.id.command x.command (and_right (a.id.client == x.client) (a.id.command == x.command) k);
      sure = not_true (is_lost a.id a.outcome) (and_right ((a.id.client == x.client) && (a.id.command == x.command)) (not (is_lost a.id a.outcome)) is);
    }

starts-itself : (a : Attempt) → is_lost a.id a.outcome ≡ false → starts_command a.id a ≡ true
starts-itself a sure = both ((a.id.client == a.id.client) && (a.id.command == a.id.command)) (not (is_lost a.id a.outcome)) (both (a.id.client == a.id.client) (a.id.command == a.id.command) (same_number a.id.client) (same_number a.id.command)) (ap not sure)

-- The first epoch of the command of an attempt that wasn't lost is that of a line which wasn't lost, which is its own, or tells of a restart.
pub record BeginsWith (lines : List Line) (a : Attempt) : Type 0 where
  pub b : Attempt
  pub among : Has b (tries lines)
  pub epoch : first_epoch (tries lines) a.id ≡ b.epoch
  pub starts : Starts a.id b
  pub how : (b ≡ a) ⊎ (is_restart b.outcome ≡ true)

pub first-found : (limit : ℕ) (s : Script) (lines : List Line) (a : Attempt) → AllInTurn limit s lines → Has a (tries lines) → is_lost a.id a.outcome ≡ false → BeginsWith lines a
first-found limit s lines a turn i sure = record { b = z.b; among = (has-from_filter (is_of_client a.id.client) (tries lines) z.b z.among).0; epoch = ap epoch_of_attempt (sym (find-filter (starts_command a.id) (is_of_client a.id.client) (tries lines) weaker) ∙ z.found); starts = starts-is a.id z.b z.passes; how = z.how }
  where
    weaker : (b : Attempt) → starts_command a.id b ≡ true → is_of_client a.id.client b ≡ true
    weaker b is = let same = (starts-is a.id b is).client in subst (λ n. (n == a.id.client) ≡ true) (sym same) (same_number a.id.client)

    z : IsFirst (starts_command a.id) (filter (is_of_client a.id.client) (tries lines)) a
    z = first-in limit a.id.client 0 (client_commands s a.id.client) (filter (is_of_client a.id.client) (tries lines)) (starts_command a.id) a (λ b is. (starts-is a.id b is).command) (turn a.id.client)
        (has-filter (is_of_client a.id.client) (tries lines) a i (same_number a.id.client)) (starts-itself a sure)
