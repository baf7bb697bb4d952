-- Entries in a table for each client: what is made of one table is made of all entries.
use Rattle.std.proofs.Common.{◌≡◌, ◌≢◌, ℕ, zero, suc, ◌+◌, ◌<◌, ◌≤◌, Bool, true, false, ◌&&◌, ◌||◌, not, List, [], ◌∷◌, ◌++◌, Result, Ok, Err, length, get_or, set, map, filter, refl, sym, ◌∙◌, ap, arith}
use Rattle.std.specs.Prelude.{OnOk, ◌==◌, ◌^◌, bit_or, nat_lt, if◌then◌else◌}
use Rattle.std.specs.List.{list_all}
use Rattle.std.proofs.lemmas.Bool.Decides.{nat_tests}
use Rattle.std.proofs.lemmas.List.{map-append}
use Rattle.std.proofs.lemmas.List.Elements.{filter-append}
use Rattle.base_types.specs.declared.entry.Entry.{Entry}
use Rattle.base_types.specs.declared.entry.Settle.{Settle}
use Rattle.base_types.specs.declared.entry.Settle.TheVariants.{Commit, Abort, Confirm, Forget}
use Rattle.base_types.specs.declared.id.AttemptId.{AttemptId}
use Rattle.daos_model.specs.Answers.{is_before}
use Rattle.daos_model.specs.BoolLaws.{and_left, and_right, both}
use Rattle.daos_model.specs.Changes.{committed_at, confirmed_at, is_other}
use Rattle.daos_model.specs.Durables.{entry_key, same_attempt}
use Rattle.daos_model.specs.Ordered.{put}
use Rattle.dtx_entries.specs.Settling.{entries_settled}
use Rattle.dtx_entries.specs.Tables as table
use Rattle.vos_contents.specs.Clients.{are_by_client, entries_in, has_room, is_of_client}

-- ---- clients and the order of entries

client-before : (x e : Entry) → x.attempt.client < e.attempt.client → is_before (entry_key x) (entry_key e) ≡ true
client-before x e lt =
    let is : nat_lt x.attempt.client e.attempt.client ≡ true = grind (arith, nat_tests) in
    ap (λ (b : Bool). b || ((x.attempt.client == e.attempt.client) && is_before (x.attempt.command ∷ x.attempt.attempt ∷ []) (e.attempt.command ∷ e.attempt.attempt ∷ []))) is

client-after : (x e : Entry) → e.attempt.client < x.attempt.client → is_before (entry_key x) (entry_key e) ≡ false
client-after x e lt =
    let less : nat_lt x.attempt.client e.attempt.client ≡ false = grind (arith, nat_tests) in
    let same : (x.attempt.client == e.attempt.client) ≡ false = grind (arith, nat_tests) in
    ap (λ (b : Bool). b || ((x.attempt.client == e.attempt.client) && is_before (x.attempt.command ∷ x.attempt.attempt ∷ []) (e.attempt.command ∷ e.attempt.attempt ∷ []))) less
    ∙ ap (λ (b : Bool). b && is_before (x.attempt.command ∷ x.attempt.attempt ∷ []) (e.attempt.command ∷ e.attempt.attempt ∷ [])) same

client-is : (n : ℕ) (x : Entry) → is_of_client n x ≡ true → x.attempt.client ≡ n
client-is n x h = grind (arith, nat_tests)

first-of : (n : ℕ) (x : Entry) (xs : List Entry) → list_all (is_of_client n) (x ∷ xs) ≡ true → x.attempt.client ≡ n
first-of n x xs h = client-is n x (and_left (is_of_client n x) (list_all (is_of_client n) xs) h)

rest-of : (n : ℕ) (x : Entry) (xs : List Entry) → list_all (is_of_client n) (x ∷ xs) ≡ true → list_all (is_of_client n) xs ≡ true
rest-of n x xs h = and_right (is_of_client n x) (list_all (is_of_client n) xs) h

-- ---- an entry put among those of several clients

module _ (e : Entry) where
  -- behind those of a client before its own
  put-behind : (n : ℕ) (xs ys : List Entry) → list_all (is_of_client n) xs ≡ true → n < e.attempt.client → put entry_key e (xs ++ ys) ≡ xs ++ put entry_key e ys
  put-behind n [] ys h lt = refl
  put-behind n (x ∷ xs) ys h lt =
      let client : x.attempt.client ≡ n = first-of n x xs h in
      ap (λ (b : Bool). if b then x ∷ put entry_key e (xs ++ ys) else e ∷ x ∷ (xs ++ ys)) (client-before x e (omega (arith, client)))
      ∙ ap (λ zs. x ∷ zs) (put-behind n xs ys (rest-of n x xs h) lt)

  -- before those of clients after its own
  put-first : (n : ℕ) (ts : List table.Kept) → are_by_client n ts ≡ true → e.attempt.client < n → put entry_key e (entries_in ts) ≡ e ∷ entries_in ts
  put-first n [] h lt = refl
  put-first n (t ∷ ts) h lt = by t.items (and_left (list_all (is_of_client n) t.items) (are_by_client (n + 1) ts) h) (put-first (n + 1) ts (and_right (list_all (is_of_client n) t.items) (are_by_client (n + 1) ts) h) (omega arith))
    where
      by : (xs : List Entry) → list_all (is_of_client n) xs ≡ true → put entry_key e (entries_in ts) ≡ e ∷ entries_in ts → put entry_key e (xs ++ entries_in ts) ≡ e ∷ (xs ++ entries_in ts)
      by [] of rest = rest
      by (x ∷ xs) of rest =
          let client : x.attempt.client ≡ n = first-of n x xs of in
          ap (λ (b : Bool). if b then x ∷ put entry_key e (xs ++ entries_in ts) else e ∷ x ∷ (xs ++ entries_in ts)) (client-after x e (omega (arith, client)))

  put-before : (xs ys : List Entry) → put entry_key e ys ≡ e ∷ ys → put entry_key e (xs ++ ys) ≡ put entry_key e xs ++ ys
  put-before [] ys first = first
  put-before (x ∷ xs) ys first = by (is_before (entry_key x) (entry_key e)) (put-before xs ys first)
    where
      by : (b : Bool) → put entry_key e (xs ++ ys) ≡ put entry_key e xs ++ ys → (if b then x ∷ put entry_key e (xs ++ ys) else e ∷ x ∷ (xs ++ ys)) ≡ (if b then x ∷ put entry_key e xs else e ∷ x ∷ xs) ++ ys
      by true rest = ap (λ zs. x ∷ zs) rest
      by false rest = refl

  -- in the table of its client
  pub put-table : (n k : ℕ) (ts : List table.Kept) (u t : table.Kept) → are_by_client n ts ≡ true → k < length ts → u ≡ get_or ts k u → e.attempt.client ≡ n + k → t.items ≡ put entry_key e u.items → entries_in (set ts k t) ≡ put entry_key e (entries_in ts)
  put-table n k [] u t h lt is client made = absurd (omega arith)
  put-table n zero (x ∷ ts) u t h lt is client made =
      ap (λ zs. zs ++ entries_in ts) (made ∙ ap (λ z. put entry_key e z.items) is)
      ∙ sym (put-before x.items (entries_in ts) (put-first (n + 1) ts (and_right (list_all (is_of_client n) x.items) (are_by_client (n + 1) ts) h) (omega (arith, client))))
  put-table n (suc k) (x ∷ ts) u t h lt is client made =
      ap (λ zs. x.items ++ zs) (put-table (n + 1) k ts u t (and_right (list_all (is_of_client n) x.items) (are_by_client (n + 1) ts) h) (omega arith) is (omega (arith, client)) made)
      ∙ sym (put-behind n x.items (entries_in ts) (and_left (list_all (is_of_client n) x.items) (are_by_client (n + 1) ts) h) (omega (arith, client)))

  all-put : (q : Entry → Bool) (xs : List Entry) → q e ≡ true → list_all q xs ≡ true → list_all q (put entry_key e xs) ≡ true
  all-put q [] own h = both (q e) true own refl
  all-put q (x ∷ xs) own h = by (is_before (entry_key x) (entry_key e)) (all-put q xs own (and_right (q x) (list_all q xs) h))
    where
      by : (b : Bool) → list_all q (put entry_key e xs) ≡ true → list_all q (if b then x ∷ put entry_key e xs else e ∷ x ∷ xs) ≡ true
      by true rest = both (q x) (list_all q (put entry_key e xs)) (and_left (q x) (list_all q xs) h) rest
      by false rest = both (q e) (list_all q (x ∷ xs)) own h

-- ---- one table more, and one in place of another

of-set : (n k : ℕ) (ts : List table.Kept) (t : table.Kept) → are_by_client n ts ≡ true → list_all (is_of_client (n + k)) t.items ≡ true → are_by_client n (set ts k t) ≡ true
of-set n k [] t h of = refl
of-set n zero (x ∷ ts) t h of =
    both (list_all (is_of_client n) t.items) (are_by_client (n + 1) ts)
    (ap (λ m. list_all (is_of_client m) t.items) (let same : n ≡ n + zero = omega arith in same) ∙ of) (and_right (list_all (is_of_client n) x.items) (are_by_client (n + 1) ts) h)
of-set n (suc k) (x ∷ ts) t h of =
    both (list_all (is_of_client n) x.items) (are_by_client (n + 1) (set ts k t)) (and_left (list_all (is_of_client n) x.items) (are_by_client (n + 1) ts) h)
    (of-set (n + 1) k ts t (and_right (list_all (is_of_client n) x.items) (are_by_client (n + 1) ts) h) (ap (λ m. list_all (is_of_client m) t.items) (let same : n + 1 + k ≡ n + suc k = omega arith in same) ∙ of))

of-table : (n k : ℕ) (ts : List table.Kept) (u : table.Kept) → are_by_client n ts ≡ true → k < length ts → u ≡ get_or ts k u → list_all (is_of_client (n + k)) u.items ≡ true
of-table n k [] u h lt is = absurd (omega arith)
of-table n zero (x ∷ ts) u h lt is =
    ap (λ z. list_all (is_of_client (n + zero)) z.items) is
    ∙ ap (λ m. list_all (is_of_client m) x.items) (let same : n + zero ≡ n = omega arith in same)
    ∙ and_left (list_all (is_of_client n) x.items) (are_by_client (n + 1) ts) h
of-table n (suc k) (x ∷ ts) u h lt is =
    ap (λ m. list_all (is_of_client m) u.items) (let same : n + suc k ≡ n + 1 + k = omega arith in same)
    ∙ of-table (n + 1) k ts u (and_right (list_all (is_of_client n) x.items) (are_by_client (n + 1) ts) h) (omega arith) is

pub by_client-put : (e : Entry) (k : ℕ) (ts : List table.Kept) (u t : table.Kept) → are_by_client 0 ts ≡ true → k < length ts → u ≡ get_or ts k u → e.attempt.client ≡ k → t.items ≡ put entry_key e u.items → are_by_client 0 (set ts k t) ≡ true
by_client-put e k ts u t h lt is client made =
    of-set 0 k ts t h
    (ap (list_all (is_of_client (0 + k))) made
    ∙ all-put e (is_of_client (0 + k)) u.items (let own : (e.attempt.client == 0 + k) ≡ true = grind (arith, nat_tests) in own) (of-table 0 k ts u h lt is))

pub by_client-same : (k : ℕ) (ts : List table.Kept) (u t : table.Kept) → are_by_client 0 ts ≡ true → k < length ts → u ≡ get_or ts k u → t.items ≡ u.items → are_by_client 0 (set ts k t) ≡ true
by_client-same k ts u t h lt is same = of-set 0 k ts t h (ap (list_all (is_of_client (0 + k))) same ∙ of-table 0 k ts u h lt is)

pub entries-same : (k : ℕ) (ts : List table.Kept) (u t : table.Kept) → k < length ts → u ≡ get_or ts k u → t.items ≡ u.items → entries_in (set ts k t) ≡ entries_in ts
entries-same k [] u t lt is same = absurd (omega arith)
entries-same zero (x ∷ ts) u t lt is same = ap (λ zs. zs ++ entries_in ts) (same ∙ ap (λ z. z.items) is)
entries-same (suc k) (x ∷ ts) u t lt is same = ap (λ zs. x.items ++ zs) (entries-same k ts u t (omega arith) is same)

-- an empty table more
pub entries-more : (ts : List table.Kept) (t : table.Kept) → t.items ≡ [] → entries_in (ts ++ t ∷ []) ≡ entries_in ts
entries-more [] t none = ap (λ zs. zs ++ []) none
entries-more (x ∷ ts) t none = ap (λ zs. x.items ++ zs) (entries-more ts t none)

by-more : (n : ℕ) (ts : List table.Kept) (t : table.Kept) → t.items ≡ [] → are_by_client n ts ≡ true → are_by_client n (ts ++ t ∷ []) ≡ true
by-more n [] t none h = both (list_all (is_of_client n) t.items) true (ap (list_all (is_of_client n)) none) refl
by-more n (x ∷ ts) t none h =
    both (list_all (is_of_client n) x.items) (are_by_client (n + 1) (ts ++ t ∷ [])) (and_left (list_all (is_of_client n) x.items) (are_by_client (n + 1) ts) h)
    (by-more (n + 1) ts t none (and_right (list_all (is_of_client n) x.items) (are_by_client (n + 1) ts) h))

pub by_client-more : (ts : List table.Kept) (t : table.Kept) → t.items ≡ [] → are_by_client 0 ts ≡ true → are_by_client 0 (ts ++ t ∷ []) ≡ true
by_client-more ts t none h = by-more 0 ts t none h

-- ---- a step of an attempt

module _ (a : AttemptId) (s : Settle) where
  settled-append : (xs ys : List Entry) → entries_settled a s (xs ++ ys) ≡ entries_settled a s xs ++ entries_settled a s ys
  unfolding entries_settled
  settled-append xs ys = by s
    where
      by : (step : Settle) → entries_settled a step (xs ++ ys) ≡ entries_settled a step xs ++ entries_settled a step ys
      by Commit = map-append (committed_at a) xs ys
      by Abort = filter-append (is_other a) xs ys
      by (Confirm t) = map-append (confirmed_at a t) xs ys
      by Forget = filter-append (is_other a) xs ys

  apart : (n : ℕ) (x : Entry) → x.attempt.client ≡ n → n ≢ a.client → same_attempt x.attempt a ≡ false
  unfolding same_attempt
  apart n x client ne =
      let other : (x.attempt.client == a.client) ≡ false = grind (arith, nat_tests) in
      ap (λ (b : Bool). b && (x.attempt.command == a.command) && (x.attempt.attempt == a.attempt)) other

  -- entries of another client stay
  settled-others : (n : ℕ) (xs : List Entry) → list_all (is_of_client n) xs ≡ true → n ≢ a.client → entries_settled a s xs ≡ xs
  unfolding entries_settled
  settled-others n xs h ne = by s
    where
      mapped : (f : Entry → Entry) → ((x : Entry) → same_attempt x.attempt a ≡ false → f x ≡ x) → (ys : List Entry) → list_all (is_of_client n) ys ≡ true → map f ys ≡ ys
      mapped f stays [] of = refl
      mapped f stays (y ∷ ys) of = ap (λ z. z ∷ map f ys) (stays y (apart n y (first-of n y ys of) ne)) ∙ ap (λ zs. y ∷ zs) (mapped f stays ys (rest-of n y ys of))

      left : (ys : List Entry) → list_all (is_of_client n) ys ≡ true → filter (is_other a) ys ≡ ys
      left [] of = refl
      left (y ∷ ys) of =
          ap (λ (b : Bool). if not b then y ∷ filter (is_other a) ys else filter (is_other a) ys) (apart n y (first-of n y ys of) ne)
          ∙ ap (λ zs. y ∷ zs) (left ys (rest-of n y ys of))

      by : (step : Settle) → entries_settled a step xs ≡ xs
      by Commit = mapped (committed_at a) (λ x e. ap (λ (b : Bool). if b then record x { committed = true } else x) e) xs h
      by Abort = left xs h
      by (Confirm t) = mapped (confirmed_at a t) (λ x e. ap (λ (b : Bool). if b then record x { confirmed = bit_or x.confirmed (2 ^ t) } else x) e) xs h
      by Forget = left xs h

  settled-empty : entries_settled a s [] ≡ []
  unfolding entries_settled
  settled-empty = by s
    where
      by : (step : Settle) → entries_settled a step [] ≡ []
      by Commit = refl
      by Abort = refl
      by (Confirm t) = refl
      by Forget = refl

  -- where none of the tables is that of its client
  settled-none : (n : ℕ) (ts : List table.Kept) → are_by_client n ts ≡ true → ((m : ℕ) → n ≤ m → m < n + length ts → m ≢ a.client) → entries_settled a s (entries_in ts) ≡ entries_in ts
  settled-none n [] h none = settled-empty
  settled-none n (t ∷ ts) h none =
      settled-append t.items (entries_in ts)
      ∙ ap (λ zs. zs ++ entries_settled a s (entries_in ts)) (settled-others n t.items (and_left (list_all (is_of_client n) t.items) (are_by_client (n + 1) ts) h) (none n (omega arith) (omega arith)))
      ∙ ap (λ zs. t.items ++ zs) (settled-none (n + 1) ts (and_right (list_all (is_of_client n) t.items) (are_by_client (n + 1) ts) h) (λ m ge lt. none m (omega arith) (omega arith)))

  pub settled-absent : (ts : List table.Kept) → are_by_client 0 ts ≡ true → length ts ≤ a.client → entries_in ts ≡ entries_settled a s (entries_in ts)
  settled-absent ts h le = sym (settled-none 0 ts h (λ m ge lt. λ e. let no_one : ⊥ = omega arith in no_one))

  -- in the table of its client
  pub settled-table : (n k : ℕ) (ts : List table.Kept) (u t : table.Kept) → are_by_client n ts ≡ true → k < length ts → u ≡ get_or ts k u → a.client ≡ n + k → t.items ≡ entries_settled a s u.items → entries_in (set ts k t) ≡ entries_settled a s (entries_in ts)
  settled-table n k [] u t h lt is client made = absurd (omega arith)
  settled-table n zero (x ∷ ts) u t h lt is client made =
      ap (λ zs. zs ++ entries_in ts) (made ∙ ap (λ z. entries_settled a s z.items) is)
      ∙ ap (λ zs. entries_settled a s x.items ++ zs)
      (sym (settled-none (n + 1) ts (and_right (list_all (is_of_client n) x.items) (are_by_client (n + 1) ts) h) (λ m ge in'. λ e. let no_one : ⊥ = omega (arith, client) in no_one)))
      ∙ sym (settled-append x.items (entries_in ts))
  settled-table n (suc k) (x ∷ ts) u t h lt is client made =
      ap (λ zs. x.items ++ zs) (settled-table (n + 1) k ts u t (and_right (list_all (is_of_client n) x.items) (are_by_client (n + 1) ts) h) (omega arith) is (omega (arith, client)) made)
      ∙ ap (λ zs. zs ++ entries_settled a s (entries_in ts))
      (sym (settled-others n x.items (and_left (list_all (is_of_client n) x.items) (are_by_client (n + 1) ts) h) (λ e. let no_one : ⊥ = omega (arith, client) in no_one)))
      ∙ sym (settled-append x.items (entries_in ts))

  all-settled : (n : ℕ) (xs : List Entry) → list_all (is_of_client n) xs ≡ true → list_all (is_of_client n) (entries_settled a s xs) ≡ true
  unfolding entries_settled
  all-settled n xs h = by s
    where
      mapped : (f : Entry → Entry) → ((x : Entry) → (f x).attempt ≡ x.attempt) → (ys : List Entry) → list_all (is_of_client n) ys ≡ true → list_all (is_of_client n) (map f ys) ≡ true
      mapped f same [] of = refl
      mapped f same (y ∷ ys) of =
          both (is_of_client n (f y)) (list_all (is_of_client n) (map f ys)) (ap (λ z. z.client == n) (same y) ∙ and_left (is_of_client n y) (list_all (is_of_client n) ys) of) (mapped f same ys (rest-of n y ys of))

      left : (ys : List Entry) → list_all (is_of_client n) ys ≡ true → list_all (is_of_client n) (filter (is_other a) ys) ≡ true
      left [] of = refl
      left (y ∷ ys) of = one (is_other a y) (left ys (rest-of n y ys of))
        where
          one : (b : Bool) → list_all (is_of_client n) (filter (is_other a) ys) ≡ true → list_all (is_of_client n) (if b then y ∷ filter (is_other a) ys else filter (is_other a) ys) ≡ true
          one true rest = both (is_of_client n y) (list_all (is_of_client n) (filter (is_other a) ys)) (and_left (is_of_client n y) (list_all (is_of_client n) ys) of) rest
          one false rest = rest

      committed : (x : Entry) → (committed_at a x).attempt ≡ x.attempt
      committed x = one (same_attempt x.attempt a)
        where
          one : (b : Bool) → (if b then record x { committed = true } else x).attempt ≡ x.attempt
          one true = refl
          one false = refl

      confirmed : (t : ℕ) (x : Entry) → (confirmed_at a t x).attempt ≡ x.attempt
      confirmed t x = one (same_attempt x.attempt a)
        where
          one : (b : Bool) → (if b then record x { confirmed = bit_or x.confirmed (2 ^ t) } else x).attempt ≡ x.attempt
          one true = refl
          one false = refl

      by : (step : Settle) → list_all (is_of_client n) (entries_settled a step xs) ≡ true
      by Commit = mapped (committed_at a) committed xs h
      by Abort = left xs h
      by (Confirm t) = mapped (confirmed_at a t) (confirmed t) xs h
      by Forget = left xs h

  pub by_client-settled : (k : ℕ) (ts : List table.Kept) (u t : table.Kept) → are_by_client 0 ts ≡ true → k < length ts → u ≡ get_or ts k u → t.items ≡ entries_settled a s u.items → are_by_client 0 (set ts k t) ≡ true
  by_client-settled k ts u t h lt is made = of-set 0 k ts t h (ap (list_all (is_of_client (0 + k))) made ∙ all-settled (0 + k) u.items (of-table 0 k ts u h lt is))

-- ---- room

pub room-within : (k : ℕ) (ts : List table.Kept) → get_or (map has_room ts) k false ≡ true → k < length ts
room-within k [] h = absurd (let n : ⊥ = cc in n)
room-within zero (t ∷ ts) h = omega arith
room-within (suc k) (t ∷ ts) h = let rest : k < length ts = room-within k ts h in omega (arith, rest)

pub room-at : (k : ℕ) (ts : List table.Kept) (u : table.Kept) → get_or (map has_room ts) k false ≡ true → u ≡ get_or ts k u → u.room ≡ true
room-at k [] u h is = absurd (let n : ⊥ = cc in n)
room-at zero (t ∷ ts) u h is = ap (λ z. z.room) is ∙ h
room-at (suc k) (t ∷ ts) u h is = room-at k ts u h is

pub room-made : (k : ℕ) (ts : List table.Kept) (t : table.Kept) → k < length ts → t.room ≡ true → get_or (map has_room (set ts k t)) k false ≡ true
room-made k [] t lt h = absurd (omega arith)
room-made zero (x ∷ ts) t lt h = h
room-made (suc k) (x ∷ ts) t lt h = room-made k ts t (omega arith) h

pub room-told : {T E : Type 0} (r : Result T E) (n k : ℕ) (ts : List table.Kept) (t : table.Kept) → n ≡ k → k < length ts → OnOk r (t.room ≡ true) → OnOk r (get_or (map has_room (set ts k t)) n false ≡ true)
room-told (Ok x) n k ts t e lt h = ap (λ m. get_or (map has_room (set ts k t)) m false) e ∙ room-made k ts t lt h
room-told (Err x) n k ts t e lt h = tt
