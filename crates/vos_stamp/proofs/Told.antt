-- What the levels have of the reads, and what their answers to a write say of the reads.
use Rattle.std.proofs.Common.{◌≡◌, ℕ, ◌%◌, ◌≤◌, ◌<◌, Bool, true, false, List, [], ◌∷◌, ◌++◌, get_or, Contains, Option, Some, None, refl, sym, ap, subst, ◌∙◌, inl, inr, arith, append_assoc}
use Rattle.std.specs.Prelude.{◌⊎◌, nat_lt, if◌then◌else◌}
use Rattle.std.proofs.lemmas.Bool.Decides.{nat_tests}
use Rattle.std.proofs.lemmas.List.Elements.{Contains-append_right, Contains-get_or, Contains-push_cases}
use Rattle.lru.proofs.Splits.{Contains-cons, Contains-head, Contains-nil, Contains-tail}
use Rattle.base_types.specs.declared.path.Level.{Level}
use Rattle.base_types.specs.declared.path.Level.TheVariants.{Cont, Obj, Dkey, Akey}
use Rattle.base_types.specs.declared.path.Path.{Path}
use Rattle.base_types.specs.declared.shown.Shown.{Shown}
use Rattle.base_types.specs.Paths.{cut_at, depth, level_of, overlaps, shorter_level, slot}
use Rattle.daos_model.specs.BoolLaws.{and_left, and_right}
use Rattle.daos_model.specs.Forms.{is_path_in_form}
use Rattle.vos_stamp.specs.declared.marks.Raise.{Raise}
use Rattle.vos_stamp.specs.Entities.{AnswersIf, AnswersLevel, HaveReads, asks_low, ends_at, entity, listed, raise_at, raise_or_none, raises, reaches, reads_of}
use Rattle.vos_stamp.specs.Marks.{rank, side}
use Rattle.vos_stamp.specs.Raised.{AnswersAt, WasRaised}
use Rattle.vos_stamp.specs.Stamps.{AnswersLater, IsShown, NoneAgainst, stands_against}
use Rattle.vos_stamp.proofs.Cuts.{First, Second, Shorter, near-by_slot, overlaps-cut, same-level, shorter}

-- ---- one read more

raises-more : (l : Level) (rs : List Shown) (r : Shown) → raises l (rs ++ r ∷ []) ≡ raises l rs ++ listed (raise_or_none l r)
raises-more l [] r = by (listed (raise_or_none l r))
  where
    by : (xs : List Raise) → xs ++ [] ≡ xs
    by [] = refl
    by (x ∷ xs) = ap (λ ys. x ∷ ys) (by xs)
raises-more l (q ∷ rs) r = ap (λ xs. listed (raise_or_none l q) ++ xs) (raises-more l rs r) ∙ sym (append_assoc (listed (raise_or_none l q)) (raises l rs) (listed (raise_or_none l r)))

pub reads-more : (xs : List Raise) (r : Shown) → reads_of (xs ++ listed (raise_or_none Cont r)) ≡ reads_of xs ++ r ∷ []
reads-more [] r = let far : reaches Cont r.path ≡ true = grind (arith, nat_tests) in rw far refl
reads-more (x ∷ xs) r = ap (λ ys. listed x.marks.high ++ ys) (reads-more xs r) ∙ sym (append_assoc (listed x.marks.high) (reads_of xs) (r ∷ []))

module _ (conts objs dkeys akeys : List Raise) (r : Shown) (h : HaveReads conts objs dkeys akeys) (form : is_path_in_form r.path ≡ true) where
  abbrev With : Level → List Raise → List Raise
  With l xs = xs ++ listed (raise_or_none l r)

  level-more : (l : Level) (xs : List Raise) → xs ≡ raises l (reads_of conts) → With l xs ≡ raises l (reads_of (With Cont conts))
  level-more l xs is =
      ap (λ ys. ys ++ listed (raise_or_none l r)) is ∙ sym (raises-more l (reads_of conts) r) ∙ ap (raises l) (sym (reads-more conts r))

  -- the levels have the reads, and one more
  pub have-more : HaveReads (With Cont conts) (With Obj objs) (With Dkey dkeys) (With Akey akeys)
  have-more = record {
    conts = level-more Cont conts h.conts;
    objs = level-more Obj objs h.objs;
    dkeys = level-more Dkey dkeys h.dkeys;
    akeys = level-more Akey akeys h.akeys;
    form = λ q c. elim (Contains-push_cases (reads_of conts) r q (subst (λ (xs : List Shown). Contains xs q) (reads-more conts r) c)) [
      | inl old ↦ h.form q old
      | inr same ↦ subst (λ (z : Shown). is_path_in_form z.path ≡ true) same form
    ];
  }

-- what was raised at a level: the read's marks, if it reaches there
pub was-raised : (l : Level) (old new : List Raise) (raise : Option Raise) (stamp r : Shown) → new ≡ old ++ listed raise → raise ≡ raise_or_none l stamp → stamp ≡ r
    → new ≡ old ++ listed (raise_or_none l r)
was-raised l old new raise stamp r is raised same = is ∙ ap (λ o. old ++ listed o) (raised ∙ ap (raise_or_none l) same)

pub have-raised : (conts objs dkeys akeys c o d a : List Raise) (r : Shown) → HaveReads conts objs dkeys akeys → is_path_in_form r.path ≡ true
    → c ≡ conts ++ listed (raise_or_none Cont r) → o ≡ objs ++ listed (raise_or_none Obj r) → d ≡ dkeys ++ listed (raise_or_none Dkey r)
    → a ≡ akeys ++ listed (raise_or_none Akey r) → HaveReads c o d a
have-raised conts objs dkeys akeys c o d a r h form is_c is_o is_d is_a = rw (is_c, is_o, is_d, is_a) (have-more conts objs dkeys akeys r h form)

-- ---- what is among the raised

raised-there : (l : Level) (rs : List Shown) (q : Shown) → Contains rs q → reaches l q.path ≡ true → Contains (raises l rs) (raise_at l q)
raised-there l [] q c far = absurd (Contains-nil q c)
raised-there l (r ∷ rs) q c far = by (Contains-cons r rs q c) (λ d. raised-there l rs q d far)
  where
    by : (r ≡ q) ⊎ Contains rs q → (Contains rs q → Contains (raises l rs) (raise_at l q)) → Contains (listed (raise_or_none l r) ++ raises l rs) (raise_at l q)
    by (inl same) rest =
        let here : raise_or_none l r ≡ Some (raise_at l q) = ap (raise_or_none l) same ∙ ap (λ b. if b then Some (raise_at l q) else None) far in
        rw here (Contains-head (raise_at l q) (raises l rs))
    by (inr d) rest = Contains-append_right (listed (raise_or_none l r)) (raises l rs) (raise_at l q) (rest d)

-- a read that reaches the level, and what it raises there
record Raised (l : Level) (rs : List Shown) (x : Raise) : Type 0 where
  read : Shown
  among : Contains rs read
  far : reaches l read.path ≡ true
  is : x ≡ raise_at l read

raised-of : (l : Level) (rs : List Shown) (x : Raise) → Contains (raises l rs) x → Raised l rs x
raised-of l [] x c = absurd (Contains-nil x c)
raised-of l (r ∷ rs) x c = by (reaches l r.path) refl c (raised-of l rs x)
  where
    more : Raised l rs x → Raised l (r ∷ rs) x
    more d = record { read = d.read; among = Contains-tail r rs d.read d.among; far = d.far; is = d.is }

    by : (b : Bool) → reaches l r.path ≡ b → Contains (listed (if b then Some (raise_at l r) else None) ++ raises l rs) x → (Contains (raises l rs) x → Raised l rs x) → Raised l (r ∷ rs) x
    by true far there rest = elim (Contains-cons (raise_at l r) (raises l rs) x there) [
      | inl same ↦ record { read = r; among = Contains-head r rs; far = far; is = sym same }
      | inr d ↦ more (rest d)
    ]
    by false apart there rest = more (rest there)

-- ---- the last twelve bits of an entity's number are its slot

slot-last : (p : Path) → entity p % 4096 ≡ slot p
unfolding slot
slot-last p = omega arith

-- ---- a read that a level tells of

module _ (p : Path) (e : ℕ) (rs : List Shown) where
  -- it is the read that raised the mark: on the low side it ends at the level
  told : (l : Level) (low : Bool) (r q : Shown) → side low (raise_at l r).marks ≡ Some q → (r ≡ q) × (low ≡ true → depth l ≡ depth (level_of q.path))
  told l false r q is = (let same : r ≡ q = cc in same, λ none. absurd (let false_is : ⊥ = cc in false_is))
  told l true r q is = by (ends_at l r.path) refl is
    where
      by : (b : Bool) → ends_at l r.path ≡ b → (if b then Some r else None) ≡ Some q → (r ≡ q) × (true ≡ true → depth l ≡ depth (level_of q.path))
      by true ends h =
          let same : r ≡ q = cc in
          (same, λ t. subst (λ z. depth l ≡ depth (level_of z.path)) same (let last : depth l ≡ depth (level_of r.path) = grind (arith, nat_tests) in last))
      by false over h = absurd (let none : ⊥ = cc in none)

  -- the level is that of the shorter path
  at-shorter : (l : Level) (q : Shown) → depth l ≤ depth (level_of p) → depth l ≤ depth (level_of q.path) → (b : Bool) → asks_low l p ≡ b
      → (b ≡ true → depth l ≡ depth (level_of q.path)) → shorter_level p q.path ≡ l
  at-shorter l q here there true low ends = by (shorter p q.path)
    where
      by : Shorter p q.path → shorter_level p q.path ≡ l
      by (First is le) =
          let last : depth l ≡ depth (level_of q.path) = ends refl in
          let under : depth l < depth (level_of p) = grind (arith, nat_tests) in absurd (omega (arith, le, under, last))
      by (Second is lt) = is ∙ same-level (level_of q.path) l (sym (ends refl))
  at-shorter l q here there false high ends = by (shorter p q.path)
    where
      by : Shorter p q.path → shorter_level p q.path ≡ l
      by (First is le) =
          let over : depth (level_of p) ≤ depth l = grind (arith, nat_tests) in
          is ∙ same-level (level_of p) l (omega (arith, here, over))
      by (Second is lt) =
          let over : depth (level_of p) ≤ depth l = grind (arith, nat_tests) in absurd (omega (arith, lt, over, there))

  at-level : (l : Level) (q : Shown) → depth l ≤ depth (level_of p) → WasRaised (raises l rs) (asks_low l p) (entity (cut_at l p) % 4096) q × (e < q.epoch.0) → IsShown p e rs q
  at-level l q here w = by (raised-of l rs w.0.0 w.0.1)
    where
      by : Raised l rs w.0.0 → IsShown p e rs q
      by d =
          let mark : side (asks_low l p) (raise_at l d.read).marks ≡ Some q = subst (λ (x : Raise). side (asks_low l p) x.marks ≡ Some q) d.is w.0.3 in
          let is = told l (asks_low l p) d.read q mark in
          let far : depth l ≤ depth (level_of d.read.path) = (let test : reaches l d.read.path ≡ true = d.far in grind (arith, nat_tests)) in
          let there : depth l ≤ depth (level_of q.path) = subst (λ (z : Shown). depth l ≤ depth (level_of z.path)) is.0 far in
          let level : shorter_level p q.path ≡ l = at-shorter l q here there (asks_low l p) refl is.1 in
          let number : entity (cut_at l q.path) % 4096 ≡ entity (cut_at l p) % 4096 =
          subst (λ (z : Shown). entity (cut_at l z.path) % 4096 ≡ entity (cut_at l p) % 4096) is.0 (subst (λ (x : Raise). x.entity % 4096 ≡ entity (cut_at l p) % 4096) d.is w.0.2) in
          let slots : slot (cut_at l p) ≡ slot (cut_at l q.path) = sym (slot-last (cut_at l p)) ∙ sym number ∙ slot-last (cut_at l q.path) in
          record {
            among = subst (Contains rs) is.0 d.among;
            later = w.1;
            near = near-by_slot p q.path l level slots;
          }

  pub level-shows : (l : Level) (q : Shown) → AnswersLevel l p e (raises l rs) (Some q) → IsShown p e rs q
  level-shows l q answer = by (reaches l p) refl answer
    where
      by : (b : Bool) → reaches l p ≡ b → AnswersIf b l p e (raises l rs) (Some q) → IsShown p e rs q
      by true far w = at-level l q (let here : depth l ≤ depth (level_of p) = grind (arith, nat_tests) in here) w
      by false over none = absurd (let false_is : ⊥ = cc in false_is)

  -- ---- none is told of

  module _ (form : is_path_in_form p ≡ true) (forms : (r : Shown) → Contains rs r → is_path_in_form r.path ≡ true)
      (conts : AnswersLevel Cont p e (raises Cont rs) None) (objs : AnswersLevel Obj p e (raises Obj rs) None)
      (dkeys : AnswersLevel Dkey p e (raises Dkey rs) None) (akeys : AnswersLevel Akey p e (raises Akey rs) None) where
    each : (l : Level) → AnswersLevel l p e (raises l rs) None
    each Cont = conts
    each Obj = objs
    each Dkey = dkeys
    each Akey = akeys

    -- the mark that a read raised at a level isn't above the epoch
    not-above : (l : Level) (r : Shown) → Contains rs r → reaches l p ≡ true → reaches l r.path ≡ true → cut_at l r.path ≡ cut_at l p
        → (b : Bool) → asks_low l p ≡ b → rank (side b (raise_at l r).marks) ≤ e
    not-above l r c far there cut b low =
        let answer : AnswersAt (raises l rs) (asks_low l p) (entity (cut_at l p)) e None = subst (λ z. AnswersIf z l p e (raises l rs) None) far (each l) in
        subst (λ z. rank (side z (raise_at l r).marks) ≤ e) low (answer (raise_at l r) (raised-there l rs r c there) (ap entity cut))

    -- a read that overlaps isn't later
    not-later : (r : Shown) → Contains rs r → overlaps p r.path ≡ true → r.epoch.0 ≤ e
    not-later r c over = by (shorter p r.path)
      where
        cut : cut_at (shorter_level p r.path) p ≡ cut_at (shorter_level p r.path) r.path
        cut = overlaps-cut p r.path form (forms r c) over

        by : Shorter p r.path → r.epoch.0 ≤ e
        by (First is le) =
            let l = level_of p in
            let far : reaches l p ≡ true = grind (arith, nat_tests) in
            let there : reaches l r.path ≡ true = (let lt : depth (level_of p) ≤ depth (level_of r.path) = le in grind (arith, nat_tests)) in
            let high : asks_low l p ≡ false = grind (arith, nat_tests) in
            not-above l r c far there (sym (subst (λ z. cut_at z p ≡ cut_at z r.path) is cut)) false high
        by (Second is lt) =
            let l = level_of r.path in
            let far : reaches l p ≡ true = (let le : depth (level_of r.path) < depth (level_of p) = lt in grind (arith, nat_tests)) in
            let there : reaches l r.path ≡ true = grind (arith, nat_tests) in
            let low : asks_low l p ≡ true = (let le : depth (level_of r.path) < depth (level_of p) = lt in grind (arith, nat_tests)) in
            let ends : ends_at l r.path ≡ true = grind (arith, nat_tests) in
            subst (λ b. rank (if b then Some r else None) ≤ e) ends
            (not-above l r c far there (sym (subst (λ z. cut_at z p ≡ cut_at z r.path) is cut)) true low)

    against : (r : Shown) → Contains rs r → (b : Bool) → stands_against p e r ≡ b → b ≡ false
    against r c false is = refl
    against r c true is =
        let later : nat_lt e r.epoch.0 ≡ true = and_left (nat_lt e r.epoch.0) (overlaps p r.path) is in
        let le = not-later r c (and_right (nat_lt e r.epoch.0) (overlaps p r.path) is) in
        let both : ⊥ = grind (arith, nat_tests) in absurd both

    pub none-told : NoneAgainst p e rs
    none-told = λ k d lt. let r = get_or rs k d in against r (Contains-get_or rs k d lt) (stands_against p e r) refl

-- ---- the levels' answers, of what the levels have

module _ (p : Path) (e : ℕ) (conts objs dkeys akeys : List Raise) (h : HaveReads conts objs dkeys akeys) (reads : List Shown) (are : reads_of conts ≡ reads) where
  -- a read that a level tells of is shown
  pub level-answers : (l : Level) (xs : List Raise) → xs ≡ raises l (reads_of conts) → (q : Shown) → AnswersLevel l p e xs (Some q) → IsShown p e reads q
  level-answers l xs has q answer =
      subst (λ rs. IsShown p e rs q) are (level-shows p e (reads_of conts) l q (subst (λ ys. AnswersLevel l p e ys (Some q)) has answer))

  -- the last level's answer, where the others tell of none
  pub last-answers : is_path_in_form p ≡ true → AnswersLevel Cont p e conts None → AnswersLevel Obj p e objs None → AnswersLevel Dkey p e dkeys None
      → (answer : Option Shown) → AnswersLevel Akey p e akeys answer → AnswersLater p e reads answer
  last-answers form c o d (Some q) a = level-answers Akey akeys h.akeys q a
  last-answers form c o d None a =
      subst (NoneAgainst p e) are
      (none-told p e (reads_of conts) form h.form (subst (λ ys. AnswersLevel Cont p e ys None) h.conts c) (subst (λ ys. AnswersLevel Obj p e ys None) h.objs o)
      (subst (λ ys. AnswersLevel Dkey p e ys None) h.dkeys d) (subst (λ ys. AnswersLevel Akey p e ys None) h.akeys a))
