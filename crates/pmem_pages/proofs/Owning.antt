-- Things that stand apart, and a change in one of them.
use Rattle.std.proofs.Common.{◌≡◌, ℕ, ◌<◌, List, [], ◌∷◌, ◌++◌, Some, None, sym, ◌∙◌, arith, inl, inr}
use Rattle.std.proofs.lemmas.Bool.{cases_lt}
use Rattle.pmem_pages.specs.Blocks.{Blocks, IsTaken}
use Rattle.pmem_pages.specs.Owners.{times, Owner, Holds, Changed, both, each, owned_each, such, maybe, times-append}

-- a taken block isn't free
pub not_free : (m : Blocks) (q : ℕ) → IsTaken m q → m q ≡ None → ⊥
not_free m q t e = let h = t.holds in cc

-- the first of two changes
pub changed_first : {A B : Type 0} (O : Owner A) (P : Owner B) (m n : Blocks) (a a2 : A) (b : B) → Holds (both O P) m (a, b) → Changed O m a n a2 → Changed (both O P) m (a, b) n (a2, b)
changed_first O P m n a a2 b h c =
    let split = λ (q : ℕ). times-append q (O.owned a) (P.owned b) in
    let split2 = λ (q : ℕ). times-append q (O.owned a2) (P.owned b) in
    let out : (q : ℕ) → 0 < times q (P.owned b) → times q (O.owned a2) ≡ 0 = λ q in_b.
    elim (cases_lt 0 (times q (O.owned a2))) [
      | inl in_new ↦ absurd (not_free m q (P.is_taken m b h.here.1 q in_b) (c.taken q (omega (arith, h.apart q, split q)) in_new))
      | inr none ↦ omega arith
    ] in
    record {
      holds = record {
        here = (c.holds.here, P.frame m n b (λ q in_b. c.outside q (omega (arith, h.apart q, split q)) (out q in_b)) h.here.1);
        apart = λ q. elim (cases_lt 0 (times q (P.owned b))) [
          | inl in_b ↦ omega (arith, h.apart q, split q, split2 q, out q in_b)
          | inr none ↦ omega (arith, c.holds.apart q, split2 q)
        ];
      };
      outside = λ q x y. c.outside q (omega (arith, x, split q)) (omega (arith, y, split2 q));
      taken = λ q x y. c.taken q (omega (arith, x, split q)) (omega (arith, x, y, split q, split2 q));
      given = λ q x y. c.given q (omega (arith, x, y, split q, split2 q)) (omega (arith, y, split2 q));
    }

-- the second of two changes
pub changed_second : {A B : Type 0} (O : Owner A) (P : Owner B) (m n : Blocks) (a : A) (b b2 : B) → Holds (both O P) m (a, b) → Changed P m b n b2 → Changed (both O P) m (a, b) n (a, b2)
changed_second O P m n a b b2 h c =
    let split = λ (q : ℕ). times-append q (O.owned a) (P.owned b) in
    let split2 = λ (q : ℕ). times-append q (O.owned a) (P.owned b2) in
    let out : (q : ℕ) → 0 < times q (O.owned a) → times q (P.owned b2) ≡ 0 = λ q in_a.
    elim (cases_lt 0 (times q (P.owned b2))) [
      | inl in_new ↦ absurd (not_free m q (O.is_taken m a h.here.0 q in_a) (c.taken q (omega (arith, h.apart q, split q)) in_new))
      | inr none ↦ omega arith
    ] in
    record {
      holds = record {
        here = (O.frame m n a (λ q in_a. c.outside q (omega (arith, h.apart q, split q)) (out q in_a)) h.here.0, c.holds.here);
        apart = λ q. elim (cases_lt 0 (times q (O.owned a))) [
          | inl in_a ↦ omega (arith, h.apart q, split q, split2 q, out q in_a)
          | inr none ↦ omega (arith, c.holds.apart q, split2 q)
        ];
      };
      outside = λ q x y. c.outside q (omega (arith, x, split q)) (omega (arith, y, split2 q));
      taken = λ q x y. c.taken q (omega (arith, x, split q)) (omega (arith, x, y, split q, split2 q));
      given = λ q x y. c.given q (omega (arith, x, y, split q, split2 q)) (omega (arith, y, split2 q));
    }

-- one change after another
pub changed_then : {A : Type 0} (O : Owner A) (m n o : Blocks) (a b c : A) → Changed O m a n b → Changed O n b o c → Changed O m a o c
changed_then O m n o a b c x y = record {
  holds = y.holds;
  outside = λ q in_a in_c. elim (cases_lt 0 (times q (O.owned b))) [
    | inl own ↦ y.given q own in_c ∙ sym (x.taken q in_a own)
    | inr none ↦ y.outside q (omega arith) in_c ∙ x.outside q in_a (omega arith)
  ];
  taken = λ q in_a in_c. elim (cases_lt 0 (times q (O.owned b))) [
    | inl own ↦ x.taken q in_a own
    | inr none ↦ sym (x.outside q in_a (omega arith)) ∙ y.taken q (omega arith) in_c
  ];
  given = λ q in_a in_c. elim (cases_lt 0 (times q (O.owned b))) [
    | inl own ↦ y.given q own in_c
    | inr none ↦ y.outside q (omega arith) in_c ∙ x.given q in_a (omega arith)
  ];
}

-- one thing of a list changes
pub changed_each : {A : Type 0} (O : Owner A) (m n : Blocks) (xs : List A) (a a2 : A) (ys : List A) → Holds (each O) m (xs ++ a ∷ ys) → Changed O m a n a2 → Changed (each O) m (xs ++ a ∷ ys) n (xs ++ a2 ∷ ys)
changed_each O m n [] a a2 ys h c =
    let r = changed_first O (each O) m n a a2 ys (record { here = h.here; apart = h.apart }) c in
    record { holds = record { here = r.holds.here; apart = r.holds.apart }; outside = r.outside; taken = r.taken; given = r.given }
changed_each O m n (x ∷ xs) a a2 ys h c =
    let tail : Holds (each O) m (xs ++ a ∷ ys) = record { here = h.here.1; apart = λ q. omega (arith, h.apart q, times-append q (O.owned x) (owned_each O (xs ++ a ∷ ys))) } in
    let r = changed_second O (each O) m n x (xs ++ a ∷ ys) (xs ++ a2 ∷ ys) (record { here = h.here; apart = h.apart }) (changed_each O m n xs a a2 ys tail c) in
    record { holds = record { here = r.holds.here; apart = r.holds.apart }; outside = r.outside; taken = r.taken; given = r.given }

-- a thing under a tree changes, and then the tree
pub changed_under : {A B : Type 0} (T : Owner A) (O : Owner B) (m n o : Blocks) (t t2 : A) (xs : List B) (a a2 : B) (ys : List B) → Holds (both T (each O)) m (t, xs ++ a ∷ ys) → Changed O m a n a2 → Changed T n t o t2 → Changed (both T (each O)) m (t, xs ++ a ∷ ys) o (t2, xs ++ a2 ∷ ys)
changed_under T O m n o t t2 xs a a2 ys h c d =
    let all : Holds (each O) m (xs ++ a ∷ ys) = record { here = h.here.1; apart = λ q. omega (arith, h.apart q, times-append q (T.owned t) (owned_each O (xs ++ a ∷ ys))) } in
    let x = changed_second T (each O) m n t (xs ++ a ∷ ys) (xs ++ a2 ∷ ys) h (changed_each O m n xs a a2 ys all c) in
    let y = changed_first T (each O) n o t t2 (xs ++ a2 ∷ ys) x.holds d in
    changed_then (both T (each O)) m n o (t, xs ++ a ∷ ys) (t, xs ++ a2 ∷ ys) (t2, xs ++ a2 ∷ ys) x y

-- with a plain fact that holds again
pub changed_such : {A : Type 0} (P : A → Type 0) (O : Owner A) (m n : Blocks) (a b : A) → Changed O m a n b → P b → Changed (such P O) m a n b
changed_such P O m n a b c p = record { holds = record { here = (c.holds.here, p); apart = c.holds.apart }; outside = c.outside; taken = c.taken; given = c.given }

-- a thing that was made goes into a list
pub changed_more : {A : Type 0} (O : Owner A) (m n : Blocks) (xs : List A) (a : A) (ys : List A) → Holds (each O) m (xs ++ ys) → Changed (maybe O) m None n (Some a) → Changed (each O) m (xs ++ ys) n (xs ++ a ∷ ys)
changed_more O m n [] a ys h c =
    let r = changed_first (maybe O) (each O) m n None (Some a) ys (record { here = (tt, h.here); apart = h.apart }) c in
    record { holds = record { here = r.holds.here; apart = r.holds.apart }; outside = r.outside; taken = r.taken; given = r.given }
changed_more O m n (x ∷ xs) a ys h c =
    let tail : Holds (each O) m (xs ++ ys) = record { here = h.here.1; apart = λ q. omega (arith, h.apart q, times-append q (O.owned x) (owned_each O (xs ++ ys))) } in
    let r = changed_second O (each O) m n x (xs ++ ys) (xs ++ a ∷ ys) (record { here = h.here; apart = h.apart }) (changed_more O m n xs a ys tail c) in
    record { holds = record { here = r.holds.here; apart = r.holds.apart }; outside = r.outside; taken = r.taken; given = r.given }

-- a thing of a list is given back
pub changed_less : {A : Type 0} (O : Owner A) (m n : Blocks) (xs : List A) (a : A) (ys : List A) → Holds (each O) m (xs ++ a ∷ ys) → Changed (maybe O) m (Some a) n None → Changed (each O) m (xs ++ a ∷ ys) n (xs ++ ys)
changed_less O m n [] a ys h c =
    let r = changed_first (maybe O) (each O) m n (Some a) None ys (record { here = h.here; apart = h.apart }) c in
    record { holds = record { here = r.holds.here.1; apart = r.holds.apart }; outside = r.outside; taken = r.taken; given = r.given }
changed_less O m n (x ∷ xs) a ys h c =
    let tail : Holds (each O) m (xs ++ a ∷ ys) = record { here = h.here.1; apart = λ q. omega (arith, h.apart q, times-append q (O.owned x) (owned_each O (xs ++ a ∷ ys))) } in
    let r = changed_second O (each O) m n x (xs ++ a ∷ ys) (xs ++ ys) (record { here = h.here; apart = h.apart }) (changed_less O m n xs a ys tail c) in
    record { holds = record { here = r.holds.here; apart = r.holds.apart }; outside = r.outside; taken = r.taken; given = r.given }

-- a thing is made and hung under a tree, which then changes
pub changed_under_more : {A B : Type 0} (T : Owner A) (O : Owner B) (m n o : Blocks) (t t2 : A) (xs : List B) (a : B) (ys : List B) → Holds (both T (each O)) m (t, xs ++ ys) → Changed (maybe O) m None n (Some a) → Changed T n t o t2 → Changed (both T (each O)) m (t, xs ++ ys) o (t2, xs ++ a ∷ ys)
changed_under_more T O m n o t t2 xs a ys h c d =
    let all : Holds (each O) m (xs ++ ys) = record { here = h.here.1; apart = λ q. omega (arith, h.apart q, times-append q (T.owned t) (owned_each O (xs ++ ys))) } in
    let x = changed_second T (each O) m n t (xs ++ ys) (xs ++ a ∷ ys) h (changed_more O m n xs a ys all c) in
    let y = changed_first T (each O) n o t t2 (xs ++ a ∷ ys) x.holds d in
    changed_then (both T (each O)) m n o (t, xs ++ ys) (t, xs ++ a ∷ ys) (t2, xs ++ a ∷ ys) x y

-- a tree changes, and then a thing that hung under it is given back
pub changed_under_less : {A B : Type 0} (T : Owner A) (O : Owner B) (m n o : Blocks) (t t2 : A) (xs : List B) (a : B) (ys : List B) → Holds (both T (each O)) m (t, xs ++ a ∷ ys) → Changed T m t n t2 → Changed (maybe O) n (Some a) o None → Changed (both T (each O)) m (t, xs ++ a ∷ ys) o (t2, xs ++ ys)
changed_under_less T O m n o t t2 xs a ys h d c =
    let x = changed_first T (each O) m n t t2 (xs ++ a ∷ ys) h d in
    let all : Holds (each O) n (xs ++ a ∷ ys) = record { here = x.holds.here.1; apart = λ q. omega (arith, x.holds.apart q, times-append q (T.owned t2) (owned_each O (xs ++ a ∷ ys))) } in
    let y = changed_second T (each O) n o t2 (xs ++ a ∷ ys) (xs ++ ys) x.holds (changed_less O n o xs a ys all c) in
    changed_then (both T (each O)) m n o (t, xs ++ a ∷ ys) (t2, xs ++ a ∷ ys) (t2, xs ++ ys) x y
