-- Fields that are read one after another.
use Rattle.std.proofs.Common.{◌≡◌, ℕ, ◌+◌, ◌*◌, ◌==◌, not, Bool, true, false, List, [], Option, Some, None, Result, Ok, Err, refl, sym, subst, ◌∙◌, arith}
use Rattle.vos_image.specs.Steps.{Step, ◌>>=◌, give, rule, says}
use Rattle.vos_image.specs.Content.{Content, link}
use Rattle.vos_image.specs.Kinds.{read_akey_roots, read_roots, read_version}
use Rattle.std.specs.Prelude.{is_none}
use Rattle.base_types.specs.Keys.{key_fault}
use Rattle.pmem_pages.specs.declared.node.TreeKey.{TreeKey}
use Rattle.pmem_pages.specs.declared.node.Value.{Value}
use Rattle.pmem_pages.specs.Node.{key_text}
use Rattle.vos_values.specs.Keys.{name_in}
use Rattle.vos_values.specs.Values.{akey_in, roots_in}
use Rattle.vos_check_base.specs.Sets.{Set}
use Rattle.vos_check_base.specs.Answers.{Finds, MarksIn, Plain, nothing, same}
use Rattle.vos_check_base.proofs.Steps.{assoc, off, on, under}
use Rattle.vos_check.specs.Steps.{read_first, read_version_mark}

-- a check without links leads to nothing
pub leads_nowhere : {A V : Type 0} (c : Content) (o : Result (A × List ℕ) ℕ) (led : List ℕ) (s : Set) (says : V → A) (r : Result V ℕ) → MarksIn c s led → Plain o led says r → Finds c o s says r
leads_nowhere c o led s says (Ok v) m h = record { led = led; is = h; marks = m }
leads_nowhere c o led s says (Err at) m h = h

-- after a step that leads to nothing
pub then_plain : {A B V : Type 0} (x : Step A) (f : A → Step B) (led : List ℕ) (a : A) (says : V → B) (r : Result V ℕ) → x led ≡ Ok (a, led) → Plain (f a led) led says r → Plain ((x >>= f) led) led says r
then_plain x f led a says (Ok v) h k = on x f led a led _ h k
then_plain x f led a says (Err at) h k = on x f led a led _ h k

-- a rule, and what a field says
pub rule_says : {V : Type 0} (here at there place : ℕ) (t u : Bool) (x y : Option V) (led : List ℕ) (r : Result V ℕ) → here ≡ at → u ≡ t → y ≡ x → there ≡ place
    → rule here u led ≡ Ok (tt, led) → Plain (says there y led) led same r → Plain ((rule at t >>= λ _. says place x) led) led same r
rule_says here at there place t u x y led r p q s w h k =
    let h1 = subst (λ (n : ℕ). rule n u led ≡ Ok (tt, led)) p h in
    let h2 = subst (λ (b : Bool). rule at b led ≡ Ok (tt, led)) q h1 in
    let k1 = subst (λ (z : Option _). Plain (says there z led) led same r) s k in
    then_plain (rule at t) (λ _. says place x) led tt same r h2 (subst (λ (n : ℕ). Plain (says n x led) led same r) w k1)

pub rule_off : {A : Type 0} (here at : ℕ) (t u : Bool) (f : Unit {0} → Step A) (led : List ℕ) (e : ℕ) → here ≡ at → u ≡ t → rule here u led ≡ Err e → (rule at t >>= f) led ≡ Err e
rule_off here at t u f led e p q h = off (rule at t) f led e (subst (λ (b : Bool). rule at b led ≡ Err e) q (subst (λ (n : ℕ). rule n u led ≡ Err e) p h))

-- ---- the chain of a version

pub first_is : (c : Content) (b : ℕ) (fits : Bool) (first : ℕ) (led : List ℕ) → read_first c (256 * b + 76) fits first led ≡ (rule (256 * b + 84) fits >>= λ _. link c (256 * b + 86) first >>= λ _. rule (256 * b + 86) (not (first == 0))) led
unfolding read_first
first_is c b fits first led =
    let x : 256 * b + 76 + 8 ≡ 256 * b + 84 = omega arith in
    let y : 256 * b + 76 + 10 ≡ 256 * b + 86 = omega arith in
    rw (x, y) refl

pub first_ends : (c : Content) (b : ℕ) (fits : Bool) (first : ℕ) (led next : List ℕ) (s : Set) (r : Result (Unit {0}) ℕ) → MarksIn c s next → rule (256 * b + 84) fits led ≡ Ok (tt, led) → link c (256 * b + 86) first led ≡ Ok (tt, next)
    → Plain (rule (256 * b + 86) (not (first == 0)) next) next nothing r → Finds c (read_first c (256 * b + 76) fits first led) s nothing r
first_ends c b fits first led next s (Ok u) m h k l = record { led = next; is = first_is c b fits first led ∙ on _ _ led tt led _ h (on _ _ led tt next _ k l); marks = m }
first_ends c b fits first led next s (Err at) m h k l = first_is c b fits first led ∙ on _ _ led tt led _ h (on _ _ led tt next _ k l)

pub version_is : (c : Content) (at : ℕ) (fits : ℕ → Bool) (v : Value) (led : List ℕ) → read_version c at fits v led ≡ (read_version_mark at v >>= λ k. read_first c at (fits k.length) k.chain >>= λ _. give k) led
unfolding read_first read_version_mark
version_is c at fits v led = sym (assoc _ _ _ led ∙ under _ _ _ led (λ _ l. under _ _ _ l (λ k m. assoc _ _ _ m ∙ under _ _ _ m (λ _ n. assoc _ _ _ n))))

-- ---- names and roots

pub name_said : (at : ℕ) (k : TreeKey) (text led : List ℕ) → name_in k ≡ Some text → says at (name_in k) led ≡ Ok (key_text k, led)
unfolding name_in says
name_said at k text led h = by (is_none (key_fault (key_text k))) refl
  where
    by : (t : Bool) → is_none (key_fault (key_text k)) ≡ t → says at (name_in k) led ≡ Ok (key_text k, led)
    by true e = rw e refl
    by false e = let none : name_in k ≡ None = rw e refl in absurd (cc)

pub name_unsaid : (at : ℕ) (k : TreeKey) (led : List ℕ) → name_in k ≡ None → says at (name_in k) led ≡ Err at
unfolding says
name_unsaid at k led h = rw h refl

pub roots_are : (c : Content) (b : ℕ) (v : Value) (led : List ℕ) → read_roots c (256 * b + 76) (tt {0}) v led ≡ (says (256 * b + 76) (roots_in v) >>= λ r. link c (256 * b + 76) r.log >>= λ _. link c (256 * b + 80) r.below >>= λ _. give r) led
roots_are c b v led = let x : 256 * b + 76 + 4 ≡ 256 * b + 80 = omega arith in rw x refl

pub akey_roots_are : (c : Content) (b : ℕ) (v : Value) (led : List ℕ)
    → read_akey_roots c (256 * b + 76) [] v led ≡ (says (256 * b + 76) (akey_in v) >>= λ r. link c (256 * b + 76) r.log >>= λ _. link c (256 * b + 80) r.singles >>= λ _. link c (256 * b + 84) r.extents >>= λ _. give r) led
akey_roots_are c b v led =
    let x : 256 * b + 76 + 4 ≡ 256 * b + 80 = omega arith in
    let y : 256 * b + 76 + 8 ≡ 256 * b + 84 = omega arith in
    rw (x, y) refl
