-- Lists that say the same, as far as both go.
use Rattle.std.specs.Prelude.{◌≡◌, ◌++◌, List, [], ◌∷◌, refl}
use Rattle.std.proofs.Common.{sym, subst₂}

-- as far as both lists go they are the same
abbrev pub GoAlike : {A : Type 0} → List A → List A → Type 0
GoAlike [] ys = Unit {0}
GoAlike (x ∷ xs) [] = Unit {0}
GoAlike (x ∷ xs) (y ∷ ys) = (x ≡ y) × GoAlike xs ys

-- a list goes on from another one
abbrev pub GoesOnFrom : {A : Type 0} → List A → List A → Type 0
GoesOnFrom {A} before later = (more : List A) × (later ≡ before ++ more)

pub alike-turned : {A : Type 0} (xs ys : List A) → GoAlike xs ys → GoAlike ys xs
alike-turned [] [] k = tt
alike-turned [] (y ∷ ys) k = tt
alike-turned (x ∷ xs) [] k = tt
alike-turned (x ∷ xs) (y ∷ ys) k = (sym k.0, alike-turned xs ys k.1)

-- what goes before
alike-before : {A : Type 0} (xs more ys others : List A) → GoAlike (xs ++ more) (ys ++ others) → GoAlike xs ys
alike-before [] more ys others k = tt
alike-before (x ∷ xs) more [] others k = tt
alike-before (x ∷ xs) more (y ∷ ys) others k = (k.0, alike-before xs more ys others k.1)

pub alike-earlier : {A : Type 0} (xs ys later others : List A) → GoesOnFrom xs later → GoesOnFrom ys others → GoAlike later others → GoAlike xs ys
alike-earlier {A} xs ys later others k l both = alike-before xs k.0 ys l.0 (subst₂ (λ (as' bs : List A). GoAlike as' bs) k.1 l.1 both)

-- what comes after the same
pub alike-after : {A : Type 0} (xs more others : List A) → GoAlike (xs ++ more) (xs ++ others) → GoAlike more others
alike-after [] more others k = k
alike-after (x ∷ xs) more others k = alike-after xs more others k.1

-- ---- lists that end in one

pub nothing-more : {A : Type 0} (xs : List A) (x : A) → [] ≡ xs ++ x ∷ [] → ⊥
nothing-more [] x same = cc
nothing-more (y ∷ ys) x same = cc

-- what two lists that are the same end in, and what goes before that
pub record OneEnd {A : Type 0} (xs ys : List A) (x y : A) : Type 0 where
  pub before : xs ≡ ys
  pub last : x ≡ y

pub ends-one : {A : Type 0} (xs ys : List A) (x y : A) → xs ++ x ∷ [] ≡ ys ++ y ∷ [] → OneEnd xs ys x y
ends-one [] [] x y same = record { before = refl; last = cc }
ends-one [] (z ∷ zs) x y same = let rest : [] ≡ zs ++ y ∷ [] = cc in absurd (nothing-more zs y rest)
ends-one (z ∷ zs) [] x y same = let rest : [] ≡ zs ++ x ∷ [] = cc in absurd (nothing-more zs x rest)
ends-one (z ∷ zs) (u ∷ us) x y same =
    let first : z ≡ u = cc in
    let rest : zs ++ x ∷ [] ≡ us ++ y ∷ [] = cc in
    let k = ends-one zs us x y rest in
    let e = k.before in
    record { before = cc (first, e); last = k.last }
