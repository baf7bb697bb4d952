-- The greatest of those that pass a test is one of them, and none of them is later.
use Rattle.std.proofs.Common.{◌≡◌, ◌⊎◌, ◌||◌, Bool, true, false, List, [], ◌∷◌, ◌++◌, Option, Some, None, refl, sym, ap, ◌∙◌, subst, arith, inl, inr}
use Rattle.std.specs.Prelude.{if◌then◌else◌}
use Rattle.std.specs.List.{list_any}
use Rattle.std.proofs.lemmas.Bool.Decides.{nat_tests}
use Rattle.vos_values.specs.declared.keys.Moment.{Moment}
use Rattle.vos_moments.specs.vos_levels.Moments.{is_earlier}
use Rattle.vos_extent.specs.declared.extent.ExtentVersion.{ExtentVersion}
use Rattle.vos_extent.specs.Shown.{Among, IsGreatest, greatest, greatest_with, if_passes, later_of, moment_of}

not_itself : (a : Moment) → is_earlier a a ≡ false
not_itself a = grind (arith, nat_tests)

not_later : (a b c : Moment) → is_earlier a b ≡ false → is_earlier b c ≡ false → is_earlier a c ≡ false
not_later a b c h k = grind (arith, nat_tests)

earlier_not : (a b : Moment) → is_earlier b a ≡ true → is_earlier a b ≡ false
earlier_not a b h = grind (arith, nat_tests)

inside : (x y : ExtentVersion) → Some x ≡ Some y → x ≡ y
inside x y h = cc

-- the later of two is one of them, and no less than either
record LaterIs (x y : Option ExtentVersion) (v : ExtentVersion) : Type 0 where
  from : (x ≡ Some v) ⊎ (y ≡ Some v)
  over_first : (a : ExtentVersion) → x ≡ Some a → is_earlier (moment_of v) (moment_of a) ≡ false
  over_second : (b : ExtentVersion) → y ≡ Some b → is_earlier (moment_of v) (moment_of b) ≡ false

same_not : (v a : ExtentVersion) → v ≡ a → is_earlier (moment_of v) (moment_of a) ≡ false
same_not v a e = subst (λ (z : ExtentVersion). is_earlier (moment_of v) (moment_of z) ≡ false) e (not_itself (moment_of v))

later_is : (x y : Option ExtentVersion) (v : ExtentVersion) → later_of x y ≡ Some v → LaterIs x y v
later_is None y v h = record { from = inr h; over_first = λ a e. absurd (let n : ⊥ = cc in n); over_second = λ b e. same_not v b (inside v b (sym h ∙ e)) }
later_is (Some a) None v h = record { from = inl h; over_first = λ c e. same_not v c (inside v c (sym h ∙ e)); over_second = λ b e. absurd (let n : ⊥ = cc in n) }
later_is (Some a) (Some b) v h = by (is_earlier (moment_of b) (moment_of a)) refl h
  where
    by : (t : Bool) → is_earlier (moment_of b) (moment_of a) ≡ t → (if t then Some a else Some b) ≡ Some v → LaterIs (Some a) (Some b) v
    by true e k =
        let is = inside a v k in
        record {
          from = inl k;
          over_first = λ c f. same_not v c (sym is ∙ inside a c f);
          over_second = λ c f. subst (λ (z : ExtentVersion). is_earlier (moment_of z) (moment_of c) ≡ false) is (subst (λ (z : ExtentVersion). is_earlier (moment_of a) (moment_of z) ≡ false) (inside b c f) (earlier_not (moment_of a) (moment_of b) e));
        }
    by false e k =
        let is = inside b v k in
        record {
          from = inr k;
          over_first = λ c f. subst (λ (z : ExtentVersion). is_earlier (moment_of z) (moment_of c) ≡ false) is (subst (λ (z : ExtentVersion). is_earlier (moment_of b) (moment_of z) ≡ false) (inside a c f) e);
          over_second = λ c f. same_not v c (sym is ∙ inside b c f);
        }

none_later : (x y : Option ExtentVersion) (a : ExtentVersion) → x ≡ Some a → later_of x y ≡ None → ⊥
none_later None y a e h = cc
none_later (Some b) None a e h = cc
none_later (Some b) (Some c) a e h = by (is_earlier (moment_of c) (moment_of b)) h
  where
    by : (t : Bool) → (if t then Some b else Some c) ≡ None → ⊥
    by true k = cc
    by false k = cc

none_second : (x y : Option ExtentVersion) (a : ExtentVersion) → y ≡ Some a → later_of x y ≡ None → ⊥
none_second None y a e h = cc
none_second (Some b) None a e h = cc
none_second (Some b) (Some c) a e h = none_later (Some b) (Some c) b refl h

-- the greatest of one, if there is one, and those of a list
record Tops (b : Option ExtentVersion) (test : ExtentVersion → Bool) (vs : List ExtentVersion) (v : ExtentVersion) : Type 0 where
  from : (b ≡ Some v) ⊎ Among test vs v
  over : (a : ExtentVersion) → b ≡ Some a → is_earlier (moment_of v) (moment_of a) ≡ false
  top : (x : ExtentVersion) → Among test vs x → is_earlier (moment_of v) (moment_of x) ≡ false

passes_is : (test : ExtentVersion → Bool) (y v : ExtentVersion) → if_passes test y ≡ Some v → (y ≡ v) × (test y ≡ true)
passes_is test y v h = by (test y) refl h
  where
    by : (t : Bool) → test y ≡ t → (if t then Some y else None) ≡ Some v → (y ≡ v) × (test y ≡ true)
    by true e k = (inside y v k, e)
    by false e k = absurd (let n : ⊥ = cc in n)

none_in_nil : (left : List ExtentVersion) (x : ExtentVersion) (right : List ExtentVersion) → [] ≡ left ++ x ∷ right → ⊥
none_in_nil [] x right h = cc
none_in_nil (y ∷ left) x right h = cc

passes_so : (test : ExtentVersion → Bool) (y : ExtentVersion) → test y ≡ true → if_passes test y ≡ Some y
passes_so test y h = ap (λ (t : Bool). if t then Some y else None) h

-- one that is behind the first, or the first
behind : (test : ExtentVersion → Bool) (y : ExtentVersion) (vs : List ExtentVersion) (x : ExtentVersion) → Among test (y ∷ vs) x → (y ≡ x) ⊎ Among test vs x
behind test y vs x h = by h.left h.is
  where
    by : (left : List ExtentVersion) → y ∷ vs ≡ left ++ x ∷ h.right → (y ≡ x) ⊎ Among test vs x
    by [] e = inl (cc)
    by (z ∷ left) e = inr (record { left = left; right = h.right; is = cc; passes = h.passes })

tops : (b : Option ExtentVersion) (test : ExtentVersion → Bool) (vs : List ExtentVersion) (v : ExtentVersion) → greatest_with b test vs ≡ Some v → Tops b test vs v
tops b test [] v h = record { from = inl h; over = λ a e. same_not v a (inside v a (sym h ∙ e)); top = λ x m. absurd (none_in_nil m.left x m.right m.is) }
tops b test (y ∷ vs) v h =
    let t = tops (later_of b (if_passes test y)) test vs v h in
    record {
      from = elim t.from [
        | inl e ↦
            let l = later_is b (if_passes test y) v e in
            elim l.from [
              | inl f ↦ inl f
              | inr f ↦ let p = passes_is test y v f in inr (record { left = []; right = vs; is = ap (λ z. z ∷ vs) p.0; passes = subst (λ z. test z ≡ true) p.0 p.1 })
            ]
        | inr m ↦ inr (record { left = y ∷ m.left; right = m.right; is = ap (λ z. y ∷ z) m.is; passes = m.passes })
      ];
      over = λ a e. over_later t a e (later_of b (if_passes test y)) refl;
      top = λ x m. elim (behind test y vs x m) [
        | inl e ↦ over_this t x (passes_so test y (subst (λ z. test z ≡ true) (sym e) m.passes) ∙ ap (λ z. Some z) e) (later_of b (if_passes test y)) refl
        | inr r ↦ t.top x r
      ];
    }
  where
    over_later : Tops (later_of b (if_passes test y)) test vs v → (a : ExtentVersion) → b ≡ Some a → (o : Option ExtentVersion) → later_of b (if_passes test y) ≡ o → is_earlier (moment_of v) (moment_of a) ≡ false
    over_later t a e None f = absurd (none_later b (if_passes test y) a e f)
    over_later t a e (Some z) f = not_later (moment_of v) (moment_of z) (moment_of a) (t.over z f) ((later_is b (if_passes test y) z f).over_first a e)

    over_this : Tops (later_of b (if_passes test y)) test vs v → (x : ExtentVersion) → if_passes test y ≡ Some x → (o : Option ExtentVersion) → later_of b (if_passes test y) ≡ o → is_earlier (moment_of v) (moment_of x) ≡ false
    over_this t x e None f = absurd (none_second b (if_passes test y) x e f)
    over_this t x e (Some z) f = not_later (moment_of v) (moment_of z) (moment_of x) (t.over z f) ((later_is b (if_passes test y) z f).over_second x e)

pub greatest_is : (test : ExtentVersion → Bool) (vs : List ExtentVersion) (v : ExtentVersion) → greatest test vs ≡ Some v → IsGreatest test vs v
greatest_is test vs v h =
    let t = tops None test vs v h in
    record {
      among = elim t.from [ inl e ↦ absurd (let n : ⊥ = cc in n) | inr m ↦ m ];
      top = t.top;
    }

-- there is none where none passes
some_with : (o : Option ExtentVersion) (test : ExtentVersion → Bool) (a : ExtentVersion) (ws : List ExtentVersion) → o ≡ Some a → greatest_with o test ws ≡ None → ⊥
some_with o test a [] e k = let n : ⊥ = cc in n
some_with o test a (w ∷ ws) e k = more (later_of o (if_passes test w)) refl (λ c f. some_with (later_of o (if_passes test w)) test c ws f k)
  where
    more : (p : Option ExtentVersion) → later_of o (if_passes test w) ≡ p → ((c : ExtentVersion) → later_of o (if_passes test w) ≡ Some c → ⊥) → ⊥
    more None f next = none_later o (if_passes test w) a e f
    more (Some c) f next = next c f

pub none_is : (b : Option ExtentVersion) (test : ExtentVersion → Bool) (vs : List ExtentVersion) → greatest_with b test vs ≡ None → list_any test vs ≡ false
none_is b test [] h = refl
none_is b test (y ∷ vs) h = by (test y) refl (none_is (later_of b (if_passes test y)) test vs h)
  where
    some_later : (p : Option ExtentVersion) → later_of b (if_passes test y) ≡ p → test y ≡ true → ⊥
    some_later None f e = none_second b (if_passes test y) y (passes_so test y e) f
    some_later (Some c) f e = some_with (later_of b (if_passes test y)) test c vs f h

    by : (t : Bool) → test y ≡ t → list_any test vs ≡ false → (t || list_any test vs) ≡ false
    by true e r = absurd (some_later (later_of b (if_passes test y)) refl e)
    by false e r = r
