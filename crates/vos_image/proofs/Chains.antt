-- A chain that stands is read.
use Rattle.std.proofs.Common.{◌≡◌, ◌≢◌, ℕ, zero, suc, ◌+◌, ◌-◌, ◌*◌, ◌≤◌, ◌<◌, ◌^◌, min, ◌==◌, ◌&&◌, not, Bool, true, false, List, [], ◌∷◌, ◌++◌, length, take, drop, refl, sym, ap, ◌∙◌, subst, arith, inl, inr}
use Rattle.std.specs.Prelude.{if◌then◌else◌, slice_index}
use Rattle.std.specs.List.{list_all}
use Rattle.std.proofs.lemmas.Bool.{cases_lt, ne_eqb}
use Rattle.std.proofs.lemmas.Bool.Decides.{nat_tests}
use Rattle.std.proofs.lemmas.List.{length-drop, length-take-le, take-append-drop, take_all}
use Rattle.byteorder.specs.Endian.{big_number}
use Rattle.byteorder.specs.Numbers.{big_number-reads_back}
use Rattle.pmem_pages.specs.Counts.{times_none, times_one}
use Rattle.pmem_pages.specs.Owners.{times}
use Rattle.vos_values.specs.Fields.{padded}
use Rattle.vos_values.specs.Links.{is_link, is_zero, link_bytes, next_in}
use Rattle.vos_values.proofs.LinkLaws.{link_again, part_again}
use Rattle.vos_values.proofs.Reading.{chosen_test}
use Rattle.vos_entries.specs.vos_chain.Chains.{Chain, Links, first_of}
use Rattle.vos_entries.proofs.vos_chain.Reading.{first_low}
use Rattle.vos_entries.proofs.Lists.{blocks_counted}
use Rattle.vos_image.specs.Steps.{give}
use Rattle.vos_image.specs.Content.{Content, is_taken, link, shown}
use Rattle.vos_image.specs.Kinds.{read_chain, read_links}
use Rattle.vos_image.proofs.Steps.{Passes, Tally, beside, given, kept, linked, none, recounted, root_tally, ruled, shown_there, go_on, zeros_hold}

-- ---- a block of a chain

pub link_kind : (next : ℕ) (part : List ℕ) → slice_index (link_bytes next part) 0 ≡ 8
unfolding link_bytes
link_kind next part = refl

pub link_zeros : (next : ℕ) (part : List ℕ) → take 3 (drop 1 (link_bytes next part)) ≡ 0 ∷ 0 ∷ 0 ∷ []
unfolding link_bytes
link_zeros next part = refl

pub link_next : (next : ℕ) (part : List ℕ) → next < 2 ^ 32 → big_number 4 (drop 4 (link_bytes next part)) ≡ next
unfolding link_bytes
link_next next part low = big_number-reads_back 4 next (padded 248 part) (omega (arith, low))

all_zero : (bs : List ℕ) → list_all is_zero bs ≡ true → (i : ℕ) → slice_index bs i ≡ 0
all_zero [] h i = refl
all_zero (b ∷ bs) h zero = by (b == 0) refl h
  where
    by : (t : Bool) → (b == 0) ≡ t → list_all is_zero (b ∷ bs) ≡ true → b ≡ 0
    by true e k = grind (arith, nat_tests)
    by false e k = absurd (let no : false ≡ true = sym (rw e refl) ∙ k in cc)
all_zero (b ∷ bs) h (suc i) = all_zero bs (by (b == 0) h) i
  where
    by : (t : Bool) → (t && list_all is_zero bs) ≡ true → list_all is_zero bs ≡ true
    by true k = k
    by false k = absurd (let no : false ≡ true = k in cc)

last_of_three : (a b c : Bool) → (a && b && c) ≡ true → c ≡ true
last_of_three true true c h = h
last_of_three true false c h = let no : ⊥ = cc in absurd no
last_of_three false b c h = let no : ⊥ = cc in absurd no

pub link_rest : (next : ℕ) (part : List ℕ) → next < 2 ^ 32 → length part ≤ 248 → (i : ℕ) → slice_index (drop (8 + length part) (link_bytes next part)) i ≡ 0
unfolding next_in
link_rest next part low few =
    let bs = link_bytes next part in
    let zeros_behind = list_all is_zero (drop (8 + length part) bs) in
    all_zero (drop (8 + length part) bs)
    (last_of_three (big_number 1 bs == 8) (list_all is_zero (take 3 (drop 1 bs))) zeros_behind (chosen_test (is_link (length part) bs) (big_number 4 (drop 4 bs)) next (link_again next part low few)))

-- ---- the first part of the bytes

first_part : (xs : List ℕ) → length (take 248 xs) ≡ min (length xs) 248
first_part xs = elim (cases_lt (length xs) 248) [
  | inl less ↦ ap length (take_all 248 xs (omega arith)) ∙ omega arith
  | inr more ↦ length-take-le 248 xs (omega arith) ∙ omega arith
]

-- ---- reading

-- whether a block is the last one of its chain
last_right : (c : Content) (bs bytes : List ℕ) → Links (shown c) bs bytes → (if length bs == 0 then first_of bs == 0 else not (first_of bs == 0)) ≡ true
last_right c [] bytes s = refl
last_right c (b ∷ bs) bytes s =
    let ne : (b == 0) ≡ false = ne_eqb b 0 (λ z. let least = s.0 in omega (arith, z, least)) in
    let more : (length (b ∷ bs) == 0) ≡ false = ne_eqb (length (b ∷ bs)) 0 (λ z. omega (arith, z)) in
    rw (more, ne) refl

pub first_taken : (c : Content) (bs bytes : List ℕ) → Links (shown c) bs bytes → first_of bs ≢ 0 → is_taken c (first_of bs) ≡ true
first_taken c [] bytes s ne = absurd (ne refl)
first_taken c (b ∷ bs) bytes s ne = (shown_there c b (link_bytes (first_of bs) (take 248 bytes)) s.1.1.1.0).taken

pub root_is_first : (q : ℕ) (bs : List ℕ) → root_tally (first_of bs) q ≤ times q bs
root_is_first q [] = omega (arith, times_none q)
root_is_first q (b ∷ bs) = elim (b == 0) as (λ z. times q (if z then [] else b ∷ []) ≤ times q (b ∷ bs)) [ true ↦ omega (arith, times_none q) | false ↦ omega (arith, times_one q b bs) ]

pub zero_three : (i : ℕ) → slice_index (0 ∷ 0 ∷ 0 ∷ []) i ≡ 0
zero_three zero = refl
zero_three (suc zero) = refl
zero_three (suc (suc zero)) = refl
zero_three (suc (suc (suc i))) = refl

pub links_read : (c : Content) (bs bytes : List ℕ) → Links (shown c) bs bytes → ((q : ℕ) → times q bs ≤ 1) → Passes (read_links c (length bs) (first_of bs) (length bytes)) (record { blocks = bs; bytes = bytes }) (root_tally (first_of bs)) (λ q. times q bs)
links_read c [] bytes s apart =
    subst (λ z. Passes {A = Chain} (read_links c 0 0 (length z)) (record { blocks = []; bytes = z }) (root_tally 0) (λ q. times q [])) (sym s) (given (record { blocks = []; bytes = [] }) (λ q. times q []))
links_read c (b ∷ bs) bytes s apart =
    let at = 256 * b in
    let next = first_of bs in
    let part = take 248 bytes in
    let there = shown_there c b (link_bytes next part) s.1.1.1.0 in
    let low = first_low (shown c) bs (drop 248 bytes) s.1.1.1.1 in
    let long = first_part bytes in
    let ne : (b == 0) ≡ false = ne_eqb b 0 (λ z. let least = s.0 in omega (arith, z, least)) in
    let more = λ (q : ℕ). times_one q b bs in
    let t0 : Tally = λ q. times q (b ∷ []) in
    let t1 : Tally = λ q. times q (b ∷ []) + root_tally next q in
    let t2 : Tally = λ q. times q (b ∷ bs) in
    let next_is = link_next next part low in
    let fits : (λ (z : ℕ). if length bs == 0 then z == 0 else not (z == 0)) next ≡ true = last_right c bs (drop 248 bytes) s.1.1.1.1 in
    let behind : (i : ℕ) → slice_index (drop (8 + min (length bytes) 248) (link_bytes next part)) i ≡ 0 = subst (λ z. (i : ℕ) → slice_index (drop (8 + z) (link_bytes next part)) i ≡ 0) long (link_rest next part low (omega (arith, long))) in
    let part_is : take (min (length bytes) 248) (drop 8 (link_bytes next part)) ≡ part = ap (λ z. take z (drop 8 (link_bytes next part))) (sym long) ∙ part_again next part in
    let all_is : part ++ drop 248 bytes ≡ bytes = take-append-drop 248 bytes in
    let rest = subst (λ z. Passes (read_links c (length bs) next z) (record { blocks = bs; bytes = drop 248 bytes }) (root_tally next) (λ q. times q bs)) (length-drop 248 bytes) (links_read c bs (drop 248 bytes) s.1.1.1.1 (λ q. omega (arith, apart q, more q))) in
    let down = beside (link c (at + 4) next) tt none (root_tally next) t0 t1 t0 (linked c (at + 4) next (first_taken c bs (drop 248 bytes) s.1.1.1.1)) (λ q. omega arith) (λ q. omega arith) (λ q. omega (arith, apart q, more q, root_is_first q bs)) in
    let onward = beside (read_links c (length bs) next (length bytes - 248)) (record { blocks = bs; bytes = drop 248 bytes }) (root_tally next) (λ q. times q bs) t1 t2 t0 rest (λ q. omega arith) (λ q. omega (arith, more q)) (λ q. omega (arith, apart q, more q)) in
    let ends : Passes {A = Chain} (give (record { blocks = b ∷ bs; bytes = part ++ drop 248 bytes })) (record { blocks = b ∷ bs; bytes = bytes }) t2 t2 = subst (λ z. Passes {A = Chain} (give (record { blocks = b ∷ bs; bytes = part ++ drop 248 bytes })) (record { blocks = b ∷ bs; bytes = z }) t2 t2) all_is (given (record { blocks = b ∷ bs; bytes = part ++ drop 248 bytes }) t2) in
    let long_way : Passes {A = Chain} (read_links c (length (b ∷ bs)) b (length bytes)) (record { blocks = b ∷ bs; bytes = bytes }) t0 t2 =
    rw (there.bytes_are, next_is, part_is)
    (ruled _ _ _ _ _ _ (rw (link_kind next part) refl)
    (kept _ _ tt _ _ _ (zeros_hold (at + 1) (take 3 (drop 1 (link_bytes next part))) (rw (link_zeros next part) zero_three))
    (go_on _ _ tt _ t0 t1 t2 down
    (ruled _ _ _ _ _ _ fits
    (kept _ _ tt _ _ _ (zeros_hold (at + 8 + min (length bytes) 248) (drop (8 + min (length bytes) 248) (link_bytes next part)) behind)
    (go_on _ _ _ _ t1 t2 t2 onward ends)))))) in
    recounted _ _ t0 t2 _ _ long_way (λ q. rw ne refl) (λ q. refl)

pub chain_read : (c : Content) (x : Chain) → Links (shown c) x.blocks x.bytes → ((q : ℕ) → times q x.blocks ≤ 1) → Passes (read_chain c (first_of x.blocks) (length x.bytes)) x (root_tally (first_of x.blocks)) (λ q. times q x.blocks)
unfolding read_chain
chain_read c x s apart =
    subst (λ z. Passes (read_links c z (first_of x.blocks) (length x.bytes)) x (root_tally (first_of x.blocks)) (λ q. times q x.blocks)) (blocks_counted (shown c) x.blocks x.bytes s) (links_read c x.blocks x.bytes s apart)
