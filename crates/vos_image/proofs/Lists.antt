-- The list of an entry is read.
use Rattle.std.proofs.Common.{◌≡◌, ℕ, zero, suc, ◌+◌, ◌-◌, ◌*◌, ◌≤◌, ◌<◌, ◌^◌, ◌==◌, not, Bool, true, false, List, [], ◌∷◌, ◌++◌, length, take, drop, replicate, Ok, refl, sym, ap, ◌∙◌, subst, arith, inl, inr, append_assoc}
use Rattle.std.specs.Prelude.{All, slice_index}
use Rattle.std.proofs.lemmas.Bool.{cases_lt, ne_eqb}
use Rattle.std.proofs.Math.Seq.{take-append-add}
use Rattle.std.proofs.lemmas.List.{append-nil, drop-drop, drop_all, drop_at, get_or-replicate, get_or_past, length-drop, length-replicate, length-take, take-append-drop, take_all}
use Rattle.std.proofs.lemmas.List.Elements.{All-cons, All-head, All-nil, All-tail}
use Rattle.byteorder.specs.Endian.{big_bytes, big_number}
use Rattle.byteorder.specs.Numbers.{big_number-reads_back, length-bytes_high_first}
use Rattle.pmem_pages.specs.Blocks.{Blocks}
use Rattle.pmem_pages.specs.Counts.{times_none, times_one, times_own}
use Rattle.pmem_pages.specs.Owners.{times, times-append}
use Rattle.vos_values.specs.Fields.{padded}
use Rattle.vos_values.specs.Links.{link_bytes}
use Rattle.vos_entries.specs.vos_chain.Chains.{Links, first_of}
use Rattle.vos_entries.proofs.vos_chain.Reading.{first_low}
use Rattle.vos_entries.specs.Entries.{AreListed, list_bytes}
use Rattle.vos_entries.proofs.Lists.{length_list}
use Rattle.vos_image.specs.Steps.{◌>>=◌, give, is_among, rule}
use Rattle.vos_image.specs.Content.{Content, block, link, shown}
use Rattle.vos_image.specs.Kinds.{Listed, read_list, read_numbers, read_part}
use Rattle.vos_image.proofs.Chains.{first_taken, link_kind, link_next, link_zeros, root_is_first, zero_three}
use Rattle.vos_image.proofs.Steps.{Passes, Tally, beside, given, kept, linked, none, not_among, recounted, root_tally, ruled, shown_there, go_on, zeros_hold}

-- ---- numbers

four_zeros : (bs : List ℕ) → ((i : ℕ) → slice_index bs i ≡ 0) → big_number 4 bs ≡ 0
four_zeros bs h = rw (h 0, h 1, h 2, h 3) refl

zeros_there : (k i : ℕ) → slice_index (replicate k 0) i ≡ 0
zeros_there k i = elim (cases_lt i k) [
  | inl low ↦ get_or-replicate k i 0 0 low
  | inr high ↦ get_or_past (replicate k 0) i 0 (omega (arith, length-replicate {A = ℕ} k 0, high))
]

number_first : (x : ℕ) (xs zs : List ℕ) → x < 2 ^ 32 → big_number 4 (list_bytes (x ∷ xs) ++ zs) ≡ x
number_first x xs zs low = ap (big_number 4) (append_assoc (big_bytes 4 x) (list_bytes xs) zs) ∙ big_number-reads_back 4 x (list_bytes xs ++ zs) (omega (arith, low))

number_rest : (x : ℕ) (xs zs : List ℕ) → drop 4 (list_bytes (x ∷ xs) ++ zs) ≡ list_bytes xs ++ zs
number_rest x xs zs = ap (drop 4) (append_assoc (big_bytes 4 x) (list_bytes xs) zs) ∙ drop_at (big_bytes 4 x) (list_bytes xs ++ zs) 4 (length-bytes_high_first 4 x)

numbers_read : (is_node : ℕ → Bool) (last : Bool) (n at k : ℕ) (ns so_far led : List ℕ)
    → length ns ≤ n
    → AreListed ns
    → All (λ b. is_node b ≡ true) ns
    → ((q : ℕ) → times q so_far + times q ns ≤ 1)
    → (length ns < n → last ≡ true)
    → read_numbers is_node last n at (list_bytes ns ++ replicate k 0) so_far led ≡ Ok (so_far ++ ns, led)
unfolding ◌>>=◌ rule
numbers_read is_node last zero at k [] so_far led few good nodes once ends = rw (append-nil so_far) refl
numbers_read is_node last zero at k (x ∷ xs) so_far led few good nodes once ends = absurd (omega (arith, few))
numbers_read is_node last (suc n) at k [] so_far led few good nodes once ends =
    let number : big_number 4 (replicate k 0) ≡ 0 = four_zeros (replicate k 0) (zeros_there k) in
    rw (number, ends (omega arith), zeros_hold at (replicate k 0) (zeros_there k) led, append-nil so_far) refl
numbers_read is_node last (suc n) at k (x ∷ xs) so_far led few good nodes once ends =
    let number = number_first x xs (replicate k 0) good.1 in
    let rest = number_rest x xs (replicate k 0) in
    let ne : (x == 0) ≡ false = ne_eqb x 0 (λ z. let some = good.0 in omega (arith, z, some)) in
    let node : is_node x ≡ true = All-head (λ b. is_node b ≡ true) x xs nodes in
    let new : is_among x so_far ≡ false = not_among x so_far (omega (arith, once x, times_one x x xs, times_own x)) in
    let more = numbers_read is_node last n (at + 4) k xs (so_far ++ x ∷ []) led (omega (arith, few)) good.2 (All-tail (λ b. is_node b ≡ true) x xs nodes) (λ q. omega (arith, once q, times_one q x xs, times-append q so_far (x ∷ []))) (λ less. ends (omega (arith, less))) in
    rw (number, ne, node, new, rest) (more ∙ ap (λ z. Ok (z, led)) (append_assoc so_far (x ∷ []) xs))

-- ---- the numbers of a block

pub list_front : (k : ℕ) (ns : List ℕ) → take (4 * k) (list_bytes ns) ≡ list_bytes (take k ns)
list_front zero ns = refl
list_front (suc k) [] = take_all (4 * suc k) [] (omega arith)
list_front (suc k) (n ∷ ns) =
    let e : 4 * suc k ≡ length (big_bytes 4 n) + 4 * k = omega (arith, length-bytes_high_first 4 n) in
    ap (λ z. take z (big_bytes 4 n ++ list_bytes ns)) e ∙ (take-append-add (big_bytes 4 n) (list_bytes ns) (4 * k) ∙ ap (λ z. big_bytes 4 n ++ z) (list_front k ns))

pub list_back : (k : ℕ) (ns : List ℕ) → drop (4 * k) (list_bytes ns) ≡ list_bytes (drop k ns)
list_back zero ns = refl
list_back (suc k) [] = drop_all (4 * suc k) [] (omega arith)
list_back (suc k) (n ∷ ns) =
    let e : 4 * suc k ≡ 4 + 4 * k = omega arith in
    ap (λ z. drop z (big_bytes 4 n ++ list_bytes ns)) e ∙ (sym (drop-drop (4 * k) 4 (big_bytes 4 n ++ list_bytes ns)) ∙ (ap (drop (4 * k)) (drop_at (big_bytes 4 n) (list_bytes ns) 4 (length-bytes_high_first 4 n)) ∙ list_back k ns))

-- ---- a list

behind_eight : (next : ℕ) (part : List ℕ) → drop 8 (link_bytes next part) ≡ padded 248 part
unfolding link_bytes
behind_eight next part = drop_at (big_bytes 4 next) (padded 248 part) 4 (length-bytes_high_first 4 next)

listed_front : (k : ℕ) (ns : List ℕ) → AreListed ns → AreListed (take k ns)
listed_front zero ns h = tt
listed_front (suc k) [] h = tt
listed_front (suc k) (n ∷ ns) h = (h.0, h.1, listed_front k ns h.2)

listed_back : (k : ℕ) (ns : List ℕ) → AreListed ns → AreListed (drop k ns)
listed_back zero ns h = h
listed_back (suc k) [] h = tt
listed_back (suc k) (n ∷ ns) h = listed_back k ns h.2

-- numbers that all pass a test
abbrev pub Pass : (ℕ → Bool) → List ℕ → Type 0
Pass is_node ns = All (λ b. is_node b ≡ true) ns

pass_front : (is_node : ℕ → Bool) (k : ℕ) (ns : List ℕ) → Pass is_node ns → Pass is_node (take k ns)
pass_front is_node zero ns h = All-nil (λ b. is_node b ≡ true)
pass_front is_node (suc k) [] h = h
pass_front is_node (suc k) (n ∷ ns) h = All-cons (λ b. is_node b ≡ true) n (take k ns) (All-head (λ b. is_node b ≡ true) n ns h) (pass_front is_node k ns (All-tail (λ b. is_node b ≡ true) n ns h))

pass_back : (is_node : ℕ → Bool) (k : ℕ) (ns : List ℕ) → Pass is_node ns → Pass is_node (drop k ns)
pass_back is_node zero ns h = h
pass_back is_node (suc k) [] h = h
pass_back is_node (suc k) (n ∷ ns) h = pass_back is_node k ns (All-tail (λ b. is_node b ≡ true) n ns h)

times_parts : (q k : ℕ) (ns : List ℕ) → times q ns ≡ times q (take k ns) + times q (drop k ns)
times_parts q k ns = sym (ap (times q) (take-append-drop k ns)) ∙ times-append q (take k ns) (drop k ns)

-- a block that has fewer than 62 numbers is the last one
last_short : (m : Blocks) (bs ns : List ℕ) → Links m bs (list_bytes (drop 62 ns)) → length (take 62 ns) < 62 → (first_of bs == 0) ≡ true
last_short m [] ns s short = refl
last_short m (b ∷ bs) ns s short =
    let some = s.1.1.0 in
    absurd (omega (arith, length_list (drop 62 ns), length-drop 62 ns, length-take 62 ns, short, some))

-- the first number of a block
first_number : (ns : List ℕ) (k : ℕ) → AreListed ns → 0 < length (list_bytes ns) → (big_number 4 (list_bytes (take 62 ns) ++ replicate k 0) == 0) ≡ false
first_number [] k h some = absurd (omega (arith, some))
first_number (n ∷ ns) k h some =
    let e = number_first n (take 61 ns) (replicate k 0) h.1 in
    rw e (ne_eqb n 0 (λ z. let more = h.0 in omega (arith, z, more)))

part_read : (is_node : ℕ → Bool) (last : Bool) (at k : ℕ) (ns so_far bs led : List ℕ) → bs ≡ list_bytes ns ++ replicate k 0 → length ns ≤ 62 → AreListed ns → Pass is_node ns → ((q : ℕ) → times q so_far + times q ns ≤ 1) → (length ns < 62 → last ≡ true)
    → read_part is_node last at bs so_far led ≡ Ok (so_far ++ ns, led)
unfolding read_part
part_read is_node last at k ns so_far bs led is few good nodes once ends = ap (λ z. read_numbers is_node last 62 at z so_far led) is ∙ numbers_read is_node last 62 at k ns so_far led few good nodes once ends

-- a block of a list, and then the rest
list_step : (c : Content) (is_node : ℕ → Bool) (k b next : ℕ) (bytes so_far more : List ℕ) (rest : Listed) (t0 t1 t2 : Tally)
    → (b == 0) ≡ false
    → block c b ≡ bytes
    → slice_index bytes 0 ≡ 8
    → take 3 (drop 1 bytes) ≡ 0 ∷ 0 ∷ 0 ∷ []
    → big_number 4 (drop 4 bytes) ≡ next
    → (big_number 4 (drop 8 bytes) == 0) ≡ false
    → ((led : List ℕ) → read_part is_node (next == 0) (256 * b + 8) (drop 8 bytes) so_far led ≡ Ok (more, led))
    → Passes (link c (256 * b + 4) next) tt t0 t1
    → Passes (read_list c is_node k next more) rest t1 t2
    → Passes (read_list c is_node (suc k) b so_far) (record { nodes = rest.nodes; blocks = b ∷ rest.blocks }) t0 t2
list_step c is_node k b next bytes so_far more rest t0 t1 t2 ne there kind three next_is first numbers down onward =
    let front : (slice_index bytes 0 == 8) ≡ true = ap (λ z. z == 8) kind in
    let zero = zeros_hold (256 * b + 1) (take 3 (drop 1 bytes)) (subst (λ z. (i : ℕ) → slice_index z i ≡ 0) (sym three) zero_three) in
    let some : not (big_number 4 (drop 8 bytes) == 0) ≡ true = ap not first in
    rw (ne, there)
    (ruled _ _ _ _ _ _ front
    (kept _ _ tt _ _ _ zero
    (rw next_is (go_on _ _ tt _ t0 t1 t2 down
    (ruled _ _ _ _ _ _ some
    (kept _ _ more _ _ _ numbers
    (go_on _ _ rest _ t1 t2 t2 onward (given _ t2))))))))

module _ (c : Content) (is_node : ℕ → Bool) where
  pub list_read : (k : ℕ) (bs ns so_far : List ℕ)
      → Links (shown c) bs (list_bytes ns)
      → length bs ≤ k
      → AreListed ns
      → Pass is_node ns
      → ((q : ℕ) → times q so_far + times q ns ≤ 1)
      → ((q : ℕ) → times q bs ≤ 1)
      → Passes (read_list c is_node k (first_of bs) so_far) (record { nodes = so_far ++ ns; blocks = bs }) (root_tally (first_of bs)) (λ q. times q bs)
  list_read zero [] [] so_far s fuel good nodes once apart = recounted _ _ none none _ _ (subst (λ z. Passes {A = Listed} (give (record { nodes = so_far; blocks = [] })) (record { nodes = z; blocks = [] }) none none) (sym (append-nil so_far)) (given _ none)) (λ q. omega (arith, times_none q)) (λ q. omega (arith, times_none q))
  list_read (suc k) [] [] so_far s fuel good nodes once apart = recounted _ _ none none _ _ (subst (λ z. Passes {A = Listed} (give (record { nodes = so_far; blocks = [] })) (record { nodes = z; blocks = [] }) none none) (sym (append-nil so_far)) (given _ none)) (λ q. omega (arith, times_none q)) (λ q. omega (arith, times_none q))
  list_read k [] (n ∷ ns) so_far s fuel good nodes once apart = absurd (let l = ap length s in omega (arith, l, length_list (n ∷ ns)))
  list_read zero (b ∷ bs) ns so_far s fuel good nodes once apart = absurd (omega (arith, fuel))
  list_read (suc k) (b ∷ bs) ns so_far s fuel good nodes once apart =
      let at = 256 * b in
      let next = first_of bs in
      let part = take 248 (list_bytes ns) in
      let there = shown_there c b (link_bytes next part) s.1.1.1.0 in
      let back : Links (shown c) bs (list_bytes (drop 62 ns)) = subst (Links (shown c) bs) (list_back 62 ns) s.1.1.1.1 in
      let low = first_low (shown c) bs (list_bytes (drop 62 ns)) back in
      let ne : (b == 0) ≡ false = ne_eqb b 0 (λ z. let least = s.0 in omega (arith, z, least)) in
      let more = λ (q : ℕ). times_one q b bs in
      let t0 : Tally = λ q. times q (b ∷ []) in
      let t1 : Tally = λ q. times q (b ∷ []) + root_tally next q in
      let t2 : Tally = λ q. times q (b ∷ bs) in
      let zs : List ℕ = replicate (248 - length part) 0 in
      let next_is = link_next next part low in
      let bytes_are : drop 8 (link_bytes next part) ≡ list_bytes (take 62 ns) ++ zs = behind_eight next part ∙ ap (λ z. z ++ zs) (list_front 62 ns) in
      let first = first_number ns (248 - length part) good s.1.1.0 in
      let numbers = λ (led : List ℕ). part_read is_node (next == 0) (at + 8) (248 - length part) (take 62 ns) so_far (drop 8 (link_bytes next part)) led bytes_are (omega (arith, length-take 62 ns)) (listed_front 62 ns good) (pass_front is_node 62 ns nodes) (λ q. omega (arith, once q, times_parts q 62 ns)) (last_short (shown c) bs ns back) in
      let rest = list_read k bs (drop 62 ns) (so_far ++ take 62 ns) back (omega (arith, fuel)) (listed_back 62 ns good) (pass_back is_node 62 ns nodes) (λ q. omega (arith, once q, times_parts q 62 ns, times-append q so_far (take 62 ns))) (λ q. omega (arith, apart q, more q)) in
      let joined : (so_far ++ take 62 ns) ++ drop 62 ns ≡ so_far ++ ns = append_assoc so_far (take 62 ns) (drop 62 ns) ∙ ap (λ z. so_far ++ z) (take-append-drop 62 ns) in
      let down = beside (link c (at + 4) next) tt none (root_tally next) t0 t1 t0 (linked c (at + 4) next (first_taken c bs (list_bytes (drop 62 ns)) back)) (λ q. omega arith) (λ q. omega arith) (λ q. omega (arith, apart q, more q, root_is_first q bs)) in
      let onward = beside (read_list c is_node k next (so_far ++ take 62 ns)) _ (root_tally next) (λ q. times q bs) t1 t2 t0 rest (λ q. omega arith) (λ q. omega (arith, more q)) (λ q. omega (arith, apart q, more q)) in
      let start : (big_number 4 (drop 8 (link_bytes next part)) == 0) ≡ false = ap (λ z. big_number 4 z == 0) bytes_are ∙ first in
      let step = list_step c is_node k b next (link_bytes next part) so_far (so_far ++ take 62 ns) _ t0 t1 t2 ne there.bytes_are (link_kind next part) (link_zeros next part) next_is start numbers down onward in
      let long_way : Passes {A = Listed} (read_list c is_node (suc k) b so_far) (record { nodes = so_far ++ ns; blocks = b ∷ bs }) t0 t2 =
      subst (λ z. Passes {A = Listed} (read_list c is_node (suc k) b so_far) (record { nodes = z; blocks = b ∷ bs }) t0 t2) joined step in
      recounted _ _ t0 t2 _ _ long_way (λ q. rw ne refl) (λ q. refl)
