-- The owing ones of entries that rise, once an entry changes.
use Rattle.std.proofs.Common.{◌≡◌, ℕ, ◌+◌, ◌<◌, ◌≤◌, Bool, true, false, ◌||◌, not, List, [], ◌∷◌, ◌++◌, length, get_or, take, drop, filter, find, map, Option, Some, None, refl, sym, ◌∙◌, ap, subst, arith}
use Rattle.std.specs.Prelude.{if◌then◌else◌}
use Rattle.std.specs.List.{list_any}
use Rattle.std.specs.Option.{option_map}
use Rattle.std.proofs.lemmas.List.{length-map}
use Rattle.std.proofs.lemmas.List.Filters.{length-filter_both}
use Rattle.base_types.specs.declared.entry.Entry.{Entry}
use Rattle.base_types.specs.declared.entry.Settle.{Settle}
use Rattle.base_types.specs.declared.entry.Settle.TheVariants.{Commit, Abort, Confirm, Forget}
use Rattle.base_types.specs.declared.id.AttemptId.{AttemptId}
use Rattle.daos_model.specs.Answers.{is_before}
use Rattle.daos_model.specs.BoolLaws.{and_left, and_right, clash}
use Rattle.daos_model.specs.Changes.{committed_at, confirmed_at, is_other}
use Rattle.daos_model.specs.Durables.{attempt_key, entry_key, is_entry_of, same_attempt}
use Rattle.daos_model.specs.OrderLaws.{before-itself, rising-map}
use Rattle.daos_model.specs.Ordered.{all_after, all_from, is_rising, put}
use Rattle.dtx_entries.specs.Owing.{is_owing, owing_with}
use Rattle.dtx_entries.specs.Settling.{changed, changed_at, entries_settled}
use Rattle.dtx_entries.specs.Places.{IsAlike, IsOnly}
use Rattle.dtx_entries.proofs.Places.{find-none, kept-none, no_entry, none-head, none-later, none-tail, parts, read-is, same-is, same-none, whole}
use Rattle.dtx_entries.proofs.Rising.{from-after, from-filter, put-first}

-- ---- what passes two tests

pub both-pass : {T : Type 0} (p q : T → Bool) (xs : List T) → filter q (filter p xs) ≡ filter p (filter q xs)
both-pass p q [] = refl
both-pass p q (x ∷ xs) = by (p x) (q x) refl refl (both-pass p q xs)
  where
    by : (b c : Bool) → p x ≡ b → q x ≡ c → filter q (filter p xs) ≡ filter p (filter q xs)
        → filter q (if b then x ∷ filter p xs else filter p xs) ≡ filter p (if c then x ∷ filter q xs else filter q xs)
    by true true e f more = ap (λ (b : Bool). if b then x ∷ filter q (filter p xs) else filter q (filter p xs)) f ∙ ap (λ z. x ∷ z) more ∙ sym (ap (λ (b : Bool). if b then x ∷ filter p (filter q xs) else filter p (filter q xs)) e)
    by true false e f more = ap (λ (b : Bool). if b then x ∷ filter q (filter p xs) else filter q (filter p xs)) f ∙ more
    by false true e f more = more ∙ sym (ap (λ (b : Bool). if b then x ∷ filter p (filter q xs) else filter p (filter q xs)) e)
    by false false e f more = more

-- where what passes one test passes another, those that pass the one are alike among those that pass the other
pub among-passing : {T : Type 0} (p q : T → Bool) → ((x : T) → p x ≡ true → q x ≡ true) → (xs : List T) → filter p (filter q xs) ≡ filter p xs
among-passing p q follows [] = refl
among-passing p q follows (x ∷ xs) = by (p x) (q x) refl refl (among-passing p q follows xs)
  where
    by : (b c : Bool) → p x ≡ b → q x ≡ c → filter p (filter q xs) ≡ filter p xs → filter p (if c then x ∷ filter q xs else filter q xs) ≡ (if b then x ∷ filter p xs else filter p xs)
    by true true e f more = ap (λ (b : Bool). if b then x ∷ filter p (filter q xs) else filter p (filter q xs)) e ∙ ap (λ z. x ∷ z) more
    by true false e f more = clash (q x) (follows x e) f
    by false true e f more = ap (λ (b : Bool). if b then x ∷ filter p (filter q xs) else filter p (filter q xs)) e ∙ more
    by false false e f more = more

pub none-filter : {T : Type 0} (p q : T → Bool) (xs : List T) → list_any p xs ≡ false → list_any p (filter q xs) ≡ false
none-filter p q [] none = refl
none-filter p q (x ∷ xs) none = by (q x) (none-filter p q xs (none-tail (p x) (list_any p xs) none))
  where
    by : (b : Bool) → list_any p (filter q xs) ≡ false → list_any p (if b then x ∷ filter q xs else filter q xs) ≡ false
    by true rest = ap (λ (b : Bool). b || list_any p (filter q xs)) (none-head (p x) (list_any p xs) none) ∙ rest
    by false rest = rest

-- what is found between those of which none passes is found alone
alike-between : {T : Type 0} (p q : T → Bool) (xs : List T) (u : T) (ys : List T) → list_any p xs ≡ false → list_any p ys ≡ false → find p (filter q (u ∷ [])) ≡ find p (filter q (xs ++ u ∷ ys))
alike-between p q [] u ys none rest = by (q u)
  where
    by : (b : Bool) → find p (if b then u ∷ [] else []) ≡ find p (if b then u ∷ filter q ys else filter q ys)
    by true = ap (λ o. if p u then Some u else o) (sym (find-none p (filter q ys) (none-filter p q ys rest)))
    by false = sym (find-none p (filter q ys) (none-filter p q ys rest))
alike-between p q (x ∷ xs) u ys none rest = alike-between p q xs u ys (none-tail (p x) (list_any p xs) none) rest ∙ by (q x)
  where
    by : (b : Bool) → find p (filter q (xs ++ u ∷ ys)) ≡ find p (if b then x ∷ filter q (xs ++ u ∷ ys) else filter q (xs ++ u ∷ ys))
    by true = sym (ap (λ (b : Bool). if b then Some x else find p (filter q (xs ++ u ∷ ys))) (none-head (p x) (list_any p xs) none))
    by false = refl

pub alike-none : (a : AttemptId) (es : List Entry) → list_any (is_entry_of a) es ≡ false → IsAlike a [] es
alike-none a es none q = sym (find-none (is_entry_of a) (filter q es) (none-filter (is_entry_of a) q es none))

-- an attempt's only entry, cut out
pub alike-only : (a : AttemptId) (es : List Entry) (i n : ℕ) → IsOnly a es i → n ≡ 1 → IsAlike a (take n (drop i es)) es
alike-only a es i n only one q =
    let u = get_or es i no_entry in
    let is : u ≡ get_or es i u = read-is es i only.within in
    let cut : take n (drop i es) ≡ u ∷ [] = ap (λ m. take m (drop i es)) one ∙ ap (take 1) (whole es i u only.within is) in
    ap (λ xs. find (is_entry_of a) (filter q xs)) cut
    ∙ alike-between (is_entry_of a) q (take i es) u (drop (i + 1) es) only.before only.after
    ∙ ap (λ xs. find (is_entry_of a) (filter q xs)) (sym (parts es i u only.within is))

pub fewer : {T : Type 0} (p : T → Bool) (xs : List T) → length (filter p xs) ≤ length xs
fewer p xs = omega (arith, length-filter_both p (λ x. not (p x)) (λ _. refl) xs)

-- one that is found among all leaves room, once it is taken from those that pass
pub one-less : {T : Type 0} (p q : T → Bool) (xs : List T) (r : T) → find p xs ≡ Some r → length (filter (λ x. not (p x)) (filter q xs)) < length xs
one-less p q [] r found = let no : ⊥ = cc in absurd no
one-less p q (x ∷ xs) r found = by (p x) (q x) refl found (one-less p q xs r)
  where
    by : (b c : Bool) → p x ≡ b → (if b then Some x else find p xs) ≡ Some r → (find p xs ≡ Some r → length (filter (λ x. not (p x)) (filter q xs)) < length xs)
        → length (filter (λ x. not (p x)) (if c then x ∷ filter q xs else filter q xs)) < length (x ∷ xs)
    by true true e f more =
        let gone : filter (λ x. not (p x)) (x ∷ filter q xs) ≡ filter (λ x. not (p x)) (filter q xs) = ap (λ (b : Bool). if not b then x ∷ filter (λ x. not (p x)) (filter q xs) else filter (λ x. not (p x)) (filter q xs)) e in
        rw gone (omega (arith, fewer (λ x. not (p x)) (filter q xs), fewer q xs))
    by true false e f more = omega (arith, fewer (λ x. not (p x)) (filter q xs), fewer q xs)
    by false true e f more =
        let stays : filter (λ x. not (p x)) (x ∷ filter q xs) ≡ x ∷ filter (λ x. not (p x)) (filter q xs) = ap (λ (b : Bool). if not b then x ∷ filter (λ x. not (p x)) (filter q xs) else filter (λ x. not (p x)) (filter q xs)) e in
        rw stays (omega (arith, more f))
    by false false e f more = omega (arith, more f)

-- ---- the entry of an attempt changes

keeps_attempt : (s : Settle) (e : Entry) → (changed s e).attempt ≡ e.attempt
keeps_attempt Commit e = refl
keeps_attempt Abort e = refl
keeps_attempt (Confirm t) e = refl
keeps_attempt Forget e = refl

pub changed-key : (a : AttemptId) (s : Settle) (e : Entry) → entry_key (changed_at a s e) ≡ entry_key e
changed-key a s e = by (same_attempt e.attempt a)
  where
    by : (b : Bool) → entry_key (if b then changed s e else e) ≡ entry_key e
    by true = ap attempt_key (keeps_attempt s e)
    by false = refl

pub rising-changed : (a : AttemptId) (s : Settle) (es : List Entry) → is_rising entry_key es ≡ true → is_rising entry_key (map (changed_at a s) es) ≡ true
rising-changed a s es r = rising-map entry_key (changed_at a s) (changed-key a s) es ∙ r

-- what is found of an attempt is of it, and after a key where all are
found-is : (a : AttemptId) (es : List Entry) (r : Entry) → find (is_entry_of a) es ≡ Some r → r.attempt ≡ a
found-is a [] r found = let no : ⊥ = cc in absurd no
found-is a (e ∷ es) r found = by (is_entry_of a e) refl found (found-is a es r)
  where
    by : (b : Bool) → is_entry_of a e ≡ b → (if b then Some e else find (is_entry_of a) es) ≡ Some r → (find (is_entry_of a) es ≡ Some r → r.attempt ≡ a) → r.attempt ≡ a
    by true is f more = let one : e ≡ r = cc in ap (λ x. x.attempt) (sym one) ∙ same-is e.attempt a is
    by false is f more = more f

found-after : (k : List ℕ) (p : Entry → Bool) (es : List Entry) (r : Entry) → all_after entry_key k es ≡ true → find p es ≡ Some r → is_before k (entry_key r) ≡ true
found-after k p [] r h found = let no : ⊥ = cc in absurd no
found-after k p (e ∷ es) r h found = by (p e) found (found-after k p es r (and_right (is_before k (entry_key e)) (all_after entry_key k es) h))
  where
    by : (b : Bool) → (if b then Some e else find p es) ≡ Some r → (find p es ≡ Some r → is_before k (entry_key r) ≡ true) → is_before k (entry_key r) ≡ true
    by true f more = let one : e ≡ r = cc in ap (λ x. is_before k (entry_key x)) (sym one) ∙ and_left (is_before k (entry_key e)) (all_after entry_key k es) h
    by false f more = more f

module _ (a : AttemptId) (s : Settle) (q : Entry → Bool) where
  abbrev with_one : Entry → List Entry → List Entry
  with_one e es = if q e then put entry_key e (filter (is_other a) es) else filter (is_other a) es

  -- the first one changes
  first-followed : (u : Entry) (us : List Entry) → is_rising entry_key (u ∷ us) ≡ true → is_entry_of a u ≡ true → filter q (map (changed_at a s) (u ∷ us)) ≡ with_one (changed s u) (filter q (u ∷ us))
  first-followed u us r is =
      ap (λ (b : Bool). filter q ((if b then changed s u else u) ∷ map (changed_at a s) us)) is
      ∙ ap (λ z. filter q (changed s u ∷ z)) (same-none (is_entry_of a) (changed s) us none)
      ∙ by (q (changed s u))
      ∙ ap (λ z. if q (changed s u) then put entry_key (changed s u) z else z) (sym (others (q u)))
    where
      none : list_any (is_entry_of a) us ≡ false
      none = none-later a u us r is

      kept : filter (is_other a) (filter q us) ≡ filter q us
      kept = kept-none (is_entry_of a) (filter q us) (none-filter (is_entry_of a) q us none)

      others : (c : Bool) → filter (is_other a) (if c then u ∷ filter q us else filter q us) ≡ filter q us
      others true = ap (λ (b : Bool). if not b then u ∷ filter (is_other a) (filter q us) else filter (is_other a) (filter q us)) is ∙ kept
      others false = kept

      from : all_from entry_key (entry_key (changed s u)) (filter q us) ≡ true
      from = subst (λ b. all_from entry_key (attempt_key b) (filter q us) ≡ true) (sym (keeps_attempt s u))
          (from-filter entry_key (entry_key u) q us (from-after entry_key (entry_key u) (entry_key u) us (before-itself (entry_key u)) (and_left (all_after entry_key (entry_key u) us) (is_rising entry_key us) r)))

      by : (c : Bool) → (if c then changed s u ∷ filter q us else filter q us) ≡ (if c then put entry_key (changed s u) (filter q us) else filter q us)
      by true = sym (put-first entry_key (changed s u) (filter q us) from)
      by false = refl

  -- a later one changes
  later-followed : (u : Entry) (us : List Entry) (r : Entry) → is_entry_of a u ≡ false → is_before (entry_key u) (entry_key (changed s r)) ≡ true
      → filter q (map (changed_at a s) us) ≡ with_one (changed s r) (filter q us) → filter q (map (changed_at a s) (u ∷ us)) ≡ with_one (changed s r) (filter q (u ∷ us))
  later-followed u us r apart lt more =
      ap (λ (b : Bool). filter q ((if b then changed s u else u) ∷ map (changed_at a s) us)) apart ∙ by (q u)
    where
      rest : List Entry
      rest = filter (is_other a) (filter q us)

      put-later : (c : Bool) → u ∷ (if c then put entry_key (changed s r) rest else rest) ≡ (if c then put entry_key (changed s r) (u ∷ rest) else u ∷ rest)
      put-later true = sym (ap (λ (b : Bool). if b then u ∷ put entry_key (changed s r) rest else changed s r ∷ u ∷ rest) lt)
      put-later false = refl

      by : (c : Bool) → (if c then u ∷ filter q (map (changed_at a s) us) else filter q (map (changed_at a s) us)) ≡ with_one (changed s r) (if c then u ∷ filter q us else filter q us)
      by true =
          ap (λ z. u ∷ z) more ∙ put-later (q (changed s r))
          ∙ sym (ap (λ (b : Bool). if q (changed s r) then put entry_key (changed s r) (if not b then u ∷ rest else rest) else (if not b then u ∷ rest else rest)) apart)
      by false = more

  followed : (es : List Entry) (r : Entry) → is_rising entry_key es ≡ true → find (is_entry_of a) es ≡ Some r → filter q (map (changed_at a s) es) ≡ with_one (changed s r) (filter q es)
  followed [] r rising found = let no : ⊥ = cc in absurd no
  followed (u ∷ us) r rising found = by (is_entry_of a u) refl found (followed us r (and_right (all_after entry_key (entry_key u) us) (is_rising entry_key us) rising))
    where
      by : (b : Bool) → is_entry_of a u ≡ b → (if b then Some u else find (is_entry_of a) us) ≡ Some r
          → (find (is_entry_of a) us ≡ Some r → filter q (map (changed_at a s) us) ≡ with_one (changed s r) (filter q us)) → filter q (map (changed_at a s) (u ∷ us)) ≡ with_one (changed s r) (filter q (u ∷ us))
      by true is f more = let one : u ≡ r = cc in first-followed u us rising is ∙ ap (λ x. with_one (changed s x) (filter q (u ∷ us))) one
      by false apart f more =
          let lt : is_before (entry_key u) (entry_key r) ≡ true = found-after (entry_key u) (is_entry_of a) us r (and_left (all_after entry_key (entry_key u) us) (is_rising entry_key us) rising) f in
          later-followed u us r apart (subst (λ b. is_before (entry_key u) (attempt_key b) ≡ true) (sym (keeps_attempt s r)) lt) (more f)

pub owing-follows : (me : Option ℕ) (a : AttemptId) (s : Settle) (es : List Entry) (r : Entry) → is_rising entry_key es ≡ true → find (is_entry_of a) es ≡ Some r → filter (is_owing me) (map (changed_at a s) es) ≡ owing_with me (changed s r) (filter (is_owing me) es)
owing-follows me a s es r rising found =
    followed a s (is_owing me) es r rising found
    ∙ ap (λ x. if is_owing me (changed s r) then put entry_key (changed s r) (filter (is_other x) (filter (is_owing me) es)) else filter (is_other x) (filter (is_owing me) es)) (sym (keeps_attempt s r ∙ found-is a es r found))

pub room-follows : (me : Option ℕ) (a : AttemptId) (s : Settle) (es : List Entry) (r : Entry) → find (is_entry_of a) es ≡ Some r → length (filter (is_other (changed s r).attempt) (filter (is_owing me) es)) < length es
room-follows me a s es r found =
    subst (λ x. length (filter (is_other x) (filter (is_owing me) es)) < length es) (sym (keeps_attempt s r ∙ found-is a es r found)) (one-less (is_entry_of a) (is_owing me) es r found)

-- ---- what a change of an attempt's entry tells

found-changed : (s : Settle) (o : Option Entry) (e : Entry) → Some e ≡ option_map (changed s) o → (r : Entry) × (o ≡ Some r) × (changed s r ≡ e)
found-changed s None e told = let no : ⊥ = cc in absurd no
found-changed s (Some r) e told = let same : changed s r ≡ e = cc in (r, refl, same)

not-found : (s : Settle) (o : Option Entry) → None ≡ option_map (changed s) o → o ≡ None
not-found s None told = refl
not-found s (Some r) told = let no : ⊥ = cc in absurd no

none-found : (p : Entry → Bool) (es : List Entry) → find p es ≡ None → list_any p es ≡ false
none-found p [] found = refl
none-found p (e ∷ es) found = by (p e) found (none-found p es)
  where
    by : (b : Bool) → (if b then Some e else find p es) ≡ None → (find p es ≡ None → list_any p es ≡ false) → (b || list_any p es) ≡ false
    by true f more = let no : ⊥ = cc in absurd no
    by false f more = more f

module _ (me : Option ℕ) (a : AttemptId) (s : Settle) (es os : List Entry) where
  -- the owing ones follow the entry that changed
  pub follows : (e : Entry) → is_rising entry_key es ≡ true → os ≡ filter (is_owing me) es → Some e ≡ option_map (changed s) (find (is_entry_of a) es) → owing_with me e os ≡ filter (is_owing me) (map (changed_at a s) es)
  follows e rising owing told =
      let r = found-changed s (find (is_entry_of a) es) e told in
      ap (λ x. owing_with me x os) (sym r.2) ∙ ap (owing_with me (changed s r.0)) owing ∙ sym (owing-follows me a s es r.0 rising r.1)

  -- and there is room for it
  pub follows-room : (e : Entry) → os ≡ filter (is_owing me) es → Some e ≡ option_map (changed s) (find (is_entry_of a) es) → length (filter (is_other e.attempt) os) < length es
  follows-room e owing told =
      let r = found-changed s (find (is_entry_of a) es) e told in
      subst (λ x. length (filter (is_other x.attempt) os) < length es) r.2
      (subst (λ x. length (filter (is_other (changed s r.0).attempt) x) < length es) (sym owing) (room-follows me a s es r.0 r.1))

  -- where the attempt has no entry nothing changes
  pub unchanged : None ≡ option_map (changed s) (find (is_entry_of a) es) → map (changed_at a s) es ≡ es
  unchanged told = same-none (is_entry_of a) (changed s) es (none-found (is_entry_of a) es (not-found s (find (is_entry_of a) es) told))

pub settled-fewer : (a : AttemptId) (s : Settle) (es : List Entry) → length (entries_settled a s es) ≤ length es
unfolding entries_settled
settled-fewer a Commit es = omega (arith, length-map es (committed_at a))
settled-fewer a Abort es = fewer (is_other a) es
settled-fewer a (Confirm t) es = omega (arith, length-map es (confirmed_at a t))
settled-fewer a Forget es = fewer (is_other a) es
