-- The two roots are led to.
use Rattle.std.proofs.Common.{◌≡◌, ◌≢◌, ℕ, ◌==◌, true, false, List, [], ◌∷◌, ◌++◌, Result, Ok, Err, refl, sym, ap, ◌∙◌, subst, inl, inr}
use Rattle.std.specs.Prelude.{if◌then◌else◌}
use Rattle.std.proofs.lemmas.Bool.{ne_eqb}
use Rattle.std.proofs.lemmas.Bool.Decides.{eqb_tells}
use Rattle.vos_image.specs.Steps.{is_among}
use Rattle.vos_image.specs.Content.{Content, is_taken, link}
use Rattle.vos_check_places.specs.vos_places.Tables.{AreRoots}
use Rattle.vos_check_base.specs.Sets.{Set}
use Rattle.vos_check_base.specs.Answers.{Finds, MarksIn, nothing}
use Rattle.vos_check_content.specs.Whole.{LeadsBoth}

abbrev pub some_root : ℕ → List ℕ
some_root b = if b == 0 then [] else b ∷ []

link_goes : (c : Content) (at b : ℕ) (led : List ℕ) → (b ≢ 0 → is_taken c b ≡ true) → (b ≢ 0 → is_among b led ≡ false) → link c at b led ≡ Ok (tt, some_root b ++ led)
unfolding link
link_goes c at b led taken new = elim (eqb_tells b 0) [
  | inl a ↦ let e = a.0 in rw e refl
  | inr a ↦ let e : (b == 0) ≡ false = ne_eqb b 0 a.1 in rw (e, taken a.1, new a.1) refl
]

not_first : (a b : ℕ) → (a ≢ 0 → b ≢ a) → is_among b (some_root a) ≡ false
not_first a b apart = elim (eqb_tells a 0) [
  | inl z ↦ let e = z.0 in rw e refl
  | inr z ↦ let e : (a == 0) ≡ false = ne_eqb a 0 z.1 in let n : (b == a) ≡ false = ne_eqb b a (apart z.1) in rw (e, n) refl
]

none_behind : (xs : List ℕ) → xs ++ [] ≡ xs
none_behind [] = refl
none_behind (x ∷ xs) = ap (λ z. x ∷ z) (none_behind xs)

inside_ok : (x y : Unit {0} × List ℕ) → ◌≡◌ {A = Result (Unit {0} × List ℕ) ℕ} (Ok x) (Ok y) → x ≡ y
inside_ok x y e = cc

not_both : (x : Unit {0} × List ℕ) (at : ℕ) → ◌≡◌ {A = Result (Unit {0} × List ℕ) ℕ} (Err at) (Ok x) → ⊥
not_both x at e = cc

-- what a step that leads to a root left
record RootLed (c : Content) (b : ℕ) (led : List ℕ) (after : Set) (r : Result (Unit {0}) ℕ) : Type 0 where
  pub well : r ≡ Ok tt
  pub marks : MarksIn c after (some_root b ++ led)

led_on : (c : Content) (at b : ℕ) (led : List ℕ) (after : Set) (r : Result (Unit {0}) ℕ) → (b ≢ 0 → is_taken c b ≡ true) → (b ≢ 0 → is_among b led ≡ false) → Finds c (link c at b led) after nothing r → RootLed c b led after r
led_on c at b led after (Ok u) taken new found = record {
  well = refl;
  marks = subst (λ z. MarksIn c after z) (ap (λ (z : Unit {0} × List ℕ). z.1) (inside_ok (tt, found.led) (tt, some_root b ++ led) (sym found.is ∙ link_goes c at b led taken new))) found.marks;
}
led_on c at b led after (Err place) taken new found = absurd (not_both (tt, some_root b ++ led) place (sym found ∙ link_goes c at b led taken new))

pub first_marks : (c : Content) (objects entries : ℕ) (after : Set) (u : Unit {0}) → AreRoots c objects entries → Finds c (link c 40 objects []) after nothing (Ok u) → MarksIn c after (some_root objects)
first_marks c objects entries after u roots found = subst (λ z. MarksIn c after z) (none_behind (some_root objects)) (led_on c 40 objects [] after (Ok u) roots.first (λ some. refl) found).marks

failed : {P : Type 0} (at : ℕ) → ◌≡◌ {A = Result (Unit {0}) ℕ} (Err at) (Ok (tt {0})) → P
failed at e = absurd (let no : ⊥ = cc in no)

pub first_fails : {P : Type 0} (c : Content) (objects entries at : ℕ) (after : Set) → AreRoots c objects entries → Finds c (link c 40 objects []) after nothing (Err at) → P
first_fails c objects entries at after roots found = failed at (led_on c 40 objects [] after (Err at) roots.first (λ some. refl) found).well

pub second_led : (c : Content) (objects entries : ℕ) (after : Set) (r : Result (Unit {0}) ℕ) → AreRoots c objects entries → Finds c (link c 44 entries (some_root objects)) after nothing r → LeadsBoth c objects entries after r
second_led c objects entries after (Ok u) roots found = (led_on c 44 entries (some_root objects) after (Ok u) roots.second (λ some. not_first objects entries roots.apart) found).marks
second_led c objects entries after (Err at) roots found = failed at (led_on c 44 entries (some_root objects) after (Err at) roots.second (λ some. not_first objects entries roots.apart) found).well
