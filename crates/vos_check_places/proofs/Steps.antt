-- Rules in a row as steps of a reading, and where a reading stops.
use Rattle.std.proofs.Common.{◌≡◌, ℕ, Bool, true, false, List, [], ◌∷◌, Result, Ok, Err, get_or, refl, sym, ap, subst, ◌∙◌}
use Rattle.std.specs.Prelude.{if◌then◌else◌}
use Rattle.base_outside.specs.Images.{Image}
use Rattle.vos_image.specs.Steps.{Step, ◌>>=◌, rule}
use Rattle.vos_check_places.specs.declared.fault.Fault.{Fault}
use Rattle.vos_check_places.specs.declared.fault.Fault.TheVariants.{Foreign, Memory}
use Rattle.vos_check_places.specs.declared.judge.Rule.{Rule}
use Rattle.vos_check_places.specs.Rules.{judged}
use Rattle.vos_check_places.specs.Shown.{StopsAt}

-- ---- rules in a row

-- rules, one after another, and then a step
abbrev pub ruled : {A : Type 0} → List Rule → Step A → Step A
ruled [] x = x
ruled (r ∷ rs) x = rule r.0 r.1 >>= λ _. ruled rs x

abbrev pub AllHold : List Rule → Type 0
AllHold [] = Unit {0}
AllHold (r ∷ rs) = (r.1 ≡ true) × AllHold rs

-- an image has these bytes at the places of all rules
abbrev pub AllShown : Image → List ℕ → List Rule → Type 0
AllShown f bs [] = Unit {0}
AllShown f bs (r ∷ rs) = (f r.0 ≡ get_or bs r.0 0) × AllShown f bs rs

pub judged_well : (bs : List ℕ) (rs : List Rule) (u : Unit {0}) → judged bs rs ≡ Ok u → AllHold rs
judged_well bs [] u h = tt
judged_well bs (r ∷ rs) u h = by r.1 refl (judged_well bs rs u) h
  where
    by : (t : Bool) → r.1 ≡ t → (judged bs rs ≡ Ok u → AllHold rs) → (if t then judged bs rs else Err (Foreign r.0 (get_or bs r.0 0))) ≡ Ok u → AllHold (r ∷ rs)
    by true e more k = (e, more k)
    by false e more k = absurd (cc)

pub rules_go : {A : Type 0} (rs : List Rule) (x : Step A) (led : List ℕ) → AllHold rs → ruled rs x led ≡ x led
unfolding ◌>>=◌ rule
rules_go [] x led h = refl
rules_go (r ∷ rs) x led h = let e = h.0 in rw e (rules_go rs x led h.1)

first_fails : {A : Type 0} (bs : List ℕ) (rs : List Rule) (p : ℕ) (t : Bool) (y : Step A) (led : List ℕ) (at byte : ℕ) → (judged bs rs ≡ Err (Foreign at byte) → y led ≡ Err at)
    → (if t then judged bs rs else Err (Foreign p (get_or bs p 0))) ≡ Err (Foreign at byte) → (rule p t >>= λ _. y) led ≡ Err at
unfolding ◌>>=◌ rule
first_fails bs rs p true y led at byte more h = more h
first_fails bs rs p false y led at byte more h = let same : p ≡ at = cc in ap (λ (z : ℕ). Err z) same

pub rules_fail : {A : Type 0} (bs : List ℕ) (rs : List Rule) (x : Step A) (led : List ℕ) (at byte : ℕ) → judged bs rs ≡ Err (Foreign at byte) → ruled rs x led ≡ Err at
rules_fail bs [] x led at byte h = absurd (cc)
rules_fail bs (r ∷ rs) x led at byte h = first_fails bs rs r.0 r.1 (ruled rs x) led at byte (rules_fail bs rs x led at byte) h

-- the byte at the place of the rule that is broken
broken_shown : (bs : List ℕ) (rs : List Rule) (f : Image) (at byte : ℕ) → AllShown f bs rs → judged bs rs ≡ Err (Foreign at byte) → byte ≡ f at
broken_shown bs [] f at byte w h = absurd (cc)
broken_shown bs (r ∷ rs) f at byte w h = by r.1 (broken_shown bs rs f at byte w.1) h
  where
    by : (t : Bool) → (judged bs rs ≡ Err (Foreign at byte) → byte ≡ f at) → (if t then judged bs rs else Err (Foreign r.0 (get_or bs r.0 0))) ≡ Err (Foreign at byte) → byte ≡ f at
    by true more k = more k
    by false more k =
        let same : r.0 ≡ at = cc in
        let is : get_or bs r.0 0 ≡ byte = cc in
        sym is ∙ (sym w.0 ∙ ap f same)

-- ---- where a reading stops

pub stops_as : {A : Type 0} (r s : Result (A × List ℕ) ℕ) (f : Image) (e : Fault) → r ≡ s → StopsAt s f e → StopsAt r f e
stops_as {A = A} r s f e is h = subst (λ (z : Result (A × List ℕ) ℕ). StopsAt z f e) (sym is) h

-- a step that stops stops what comes after it
pub stops_first : {A B : Type 0} (x : Step A) (g : A → Step B) (led : List ℕ) (f : Image) (e : Fault) → StopsAt (x led) f e → StopsAt ((x >>= g) led) f e
unfolding ◌>>=◌
stops_first x g led f (Foreign at byte) h = record { stops = let is = h.stops in rw is refl; shown = h.shown }
stops_first x g led f Memory h = tt

pub goes : {A B : Type 0} (x : Step A) (g : A → Step B) (led : List ℕ) (a : A) (after : List ℕ) → x led ≡ Ok (a, after) → (x >>= g) led ≡ g a after
unfolding ◌>>=◌
goes x g led a after is = rw is refl

pub stops_then : {A B : Type 0} (x : Step A) (g : A → Step B) (led : List ℕ) (a : A) (after : List ℕ) (f : Image) (e : Fault) → x led ≡ Ok (a, after) → StopsAt (g a after) f e → StopsAt ((x >>= g) led) f e
stops_then x g led a after f e is h = stops_as ((x >>= g) led) (g a after) f e (goes x g led a after is) h

-- a reading that is by rules in a row stops at the first that is broken
pub rules_stop : {A : Type 0} (r : Result (A × List ℕ) ℕ) (bs : List ℕ) (rs : List Rule) (x : Step A) (led : List ℕ) (f : Image) (e : Fault)
    → r ≡ ruled rs x led → AllShown f bs rs → judged bs rs ≡ Err e → StopsAt r f e
rules_stop r bs rs x led f (Foreign at byte) is w h = record { stops = is ∙ rules_fail bs rs x led at byte h; shown = broken_shown bs rs f at byte w h }
rules_stop r bs rs x led f Memory is w h = tt

-- one rule in the place of another step that says the same
pub rule_moves : {B : Type 0} (at : ℕ) (t : Bool) (x y : Step B) (led other : List ℕ) → x led ≡ y other → (rule at t >>= λ _. x) led ≡ (rule at t >>= λ _. y) other
unfolding ◌>>=◌ rule
rule_moves at true x y led other e = e
rule_moves at false x y led other e = refl

pub step_moves : {B : Type 0} (s : Step (Unit {0})) (r : Rule) (x y : Step B) (led other : List ℕ) → s ≡ rule r.0 r.1 → x led ≡ y other → (s >>= λ _. x) led ≡ (rule r.0 r.1 >>= λ _. y) other
step_moves s r x y led other is e = ap (λ (z : Step (Unit {0})). (z >>= λ _. x) led) is ∙ rule_moves r.0 r.1 x y led other e
