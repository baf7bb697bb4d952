-- The list of an entry that is read stands.
use Rattle.std.proofs.Common.{◌≡◌, ◌≢◌, ℕ, zero, suc, ◌+◌, ◌*◌, ◌≤◌, ◌<◌, ◌==◌, ◌&&◌, not, Bool, true, false, List, [], ◌∷◌, ◌++◌, length, take, drop, refl, sym, ap, ◌∙◌, subst, arith, inl, inr, append_assoc}
use Rattle.std.specs.Prelude.{if◌then◌else◌, slice_index}
use Rattle.std.proofs.lemmas.Bool.{cases_lt}
use Rattle.std.proofs.lemmas.Bool.Decides.{nat_tests}
use Rattle.std.proofs.lemmas.List.{append-nil, drop-drop, drop_all, drop_at, get_or_past, length-append, length-drop, take_all, take_at}
use Rattle.std.proofs.lemmas.List.Elements.{All-cons, All-head, All-nil, All-tail}
use Rattle.byteorder.specs.Endian.{big_bytes, big_number}
use Rattle.pmem_pages.specs.Blocks.{Blocks}
use Rattle.pmem_pages.specs.Counts.{times_none, times_one}
use Rattle.pmem_pages.specs.Owners.{times, times-append}
use Rattle.vos_values.specs.Fields.{AreBytes}
use Rattle.vos_values.specs.Links.{link_bytes}
use Rattle.vos_values.proofs.Orders.{drop_bytes, number_back}
use Rattle.vos_values.proofs.Reading.{fits_in}
use Rattle.vos_entries.specs.vos_chain.Chains.{Links, first_of}
use Rattle.vos_entries.specs.Entries.{AreListed, list_bytes}
use Rattle.vos_entries.proofs.Lists.{length_list}
use Rattle.vos_image.specs.Steps.{Step, ◌>>=◌, fail, give, is_among, rule, zeros}
use Rattle.vos_image.specs.Laws.{IsOfBytes}
use Rattle.vos_image.specs.Content.{Content, block, is_taken, link, shown}
use Rattle.vos_image.specs.Kinds.{Listed, read_list, read_numbers, read_part}
use Rattle.vos_image.proofs.ChainsStand.{is_link_block}
use Rattle.vos_image.proofs.Lists.{Pass}
use Rattle.vos_image.proofs.Reading.{AreZero, IsLink, Tells, fresh, led_once, tells_given, tells_linked, tells_none, tells_quiet, tells_ruled, tells_then, tells_too, tells_zeros, zero_test}
use Rattle.vos_image.proofs.Standing.{all_both, block_bytes, block_room, shown_is, taken_high, taken_low}
use Rattle.vos_image.proofs.Steps.{none, root_tally}

-- ---- numbers

-- What numbers that were read are, from the front of some bytes: so many at most, and fewer only in the last block.
record NumbersRead (is_node : ℕ → Bool) (last : Bool) (n : ℕ) (bs so_far more : List ℕ) : Type 0 where
  ns : List ℕ
  is : more ≡ so_far ++ ns
  few : length ns ≤ n
  listed : AreListed ns
  pass : Pass is_node ns
  once : ((q : ℕ) → times q so_far ≤ 1) → (q : ℕ) → times q so_far + times q ns ≤ 1
  ends : length ns < n → last ≡ true
  bytes : take (4 * length ns) bs ≡ list_bytes ns
  behind : length ns < n → AreZero (drop (4 * length ns) bs)
  some : 0 < n → big_number 4 bs ≢ 0 → 0 < length ns

take_four : (n : ℕ) (bs : List ℕ) → 4 ≤ length bs → take (4 + n) bs ≡ take 4 bs ++ take n (drop 4 bs)
take_four n [] h = absurd (omega (arith, h))
take_four n (a ∷ []) h = absurd (omega (arith, h))
take_four n (a ∷ b ∷ []) h = absurd (omega (arith, h))
take_four n (a ∷ b ∷ c ∷ []) h = absurd (omega (arith, h))
take_four n (a ∷ b ∷ c ∷ d ∷ bs) h = let e : 4 + n ≡ suc (suc (suc (suc n))) = omega arith in ap (λ z. take z (a ∷ b ∷ c ∷ d ∷ bs)) e

front_is : (ns bs : List ℕ) → AreBytes bs → 4 ≤ length bs → take (4 * length ns) (drop 4 bs) ≡ list_bytes ns → take (4 * length (big_number 4 bs ∷ ns)) bs ≡ list_bytes (big_number 4 bs ∷ ns)
front_is ns bs bytes room rest =
    let e : 4 * length (big_number 4 bs ∷ ns) ≡ 4 + 4 * length ns = omega arith in
    ap (λ z. take z bs) e ∙ (take_four (4 * length ns) bs room ∙ (ap (λ z. z ++ take (4 * length ns) (drop 4 bs)) (sym (number_back 4 bs bytes room)) ∙ ap (λ z. big_bytes 4 (big_number 4 bs) ++ z) rest))

back_is : (x : ℕ) (ns bs : List ℕ) → AreZero (drop (4 * length ns) (drop 4 bs)) → AreZero (drop (4 * length (x ∷ ns)) bs)
back_is x ns bs h =
    let e : 4 * length (x ∷ ns) ≡ 4 + 4 * length ns = omega arith in
    subst AreZero (drop-drop (4 * length ns) 4 bs ∙ ap (λ z. drop z bs) (sym e)) h

test_first : (a b : Bool) → (a && not b) ≡ true → a ≡ true
test_first true b h = refl
test_first false b h = let no : ⊥ = cc in absurd no

test_next : (a b : Bool) → (a && not b) ≡ true → b ≡ false
test_next true false h = refl
test_next true true h = let no : ⊥ = cc in absurd no
test_next false b h = let no : ⊥ = cc in absurd no

one_more : (is_node : ℕ → Bool) (last : Bool) (n : ℕ) (bs so_far more : List ℕ) → AreBytes bs → 4 ≤ length bs → big_number 4 bs ≢ 0 → is_node (big_number 4 bs) ≡ true → times (big_number 4 bs) so_far ≡ 0
    → NumbersRead is_node last n (drop 4 bs) (so_far ++ big_number 4 bs ∷ []) more → NumbersRead is_node last (suc n) bs so_far more
one_more is_node last n bs so_far more bytes room ne node new rest =
    let x = big_number 4 bs in
    let once = λ (was : (q : ℕ) → times q so_far ≤ 1) (q : ℕ).
    rest.once (λ q. omega (arith, led_once x so_far new was q, times_one q x so_far, times-append q so_far (x ∷ []))) q in
    let few = rest.few in
    record {
      ns = x ∷ rest.ns;
      is = rest.is ∙ append_assoc so_far (x ∷ []) rest.ns;
      few = omega (arith, few);
      listed = (omega (arith, ne), fits_in 4 0 bs bytes, rest.listed);
      pass = All-cons (λ b. is_node b ≡ true) x rest.ns node rest.pass;
      once = λ was q. omega (arith, once was q, times-append q so_far (x ∷ []), times_one q x rest.ns);
      ends = λ less. rest.ends (omega (arith, less));
      bytes = front_is rest.ns bs bytes room rest.bytes;
      behind = λ less. back_is x rest.ns bs (rest.behind (omega (arith, less)));
      some = λ h k. omega arith;
    }

no_more : (is_node : ℕ → Bool) (last : Bool) (n : ℕ) (bs so_far : List ℕ) → (0 < n → last ≡ true) → (0 < n → AreZero bs) → (0 < n → big_number 4 bs ≡ 0) → NumbersRead is_node last n bs so_far so_far
no_more is_node last n bs so_far ends zeros none = record {
  ns = [];
  is = sym (append-nil so_far);
  few = omega arith;
  listed = tt;
  pass = All-nil (λ b. is_node b ≡ true);
  once = λ was q. omega (arith, was q, times_none q);
  ends = λ less. ends less;
  bytes = refl;
  behind = λ less. zeros less;
  some = λ h ne. absurd (ne (none h));
}

numbers_told : (is_node : ℕ → Bool) (last : Bool) (n at : ℕ) (bs so_far : List ℕ) → AreBytes bs → 4 * n ≤ length bs → Tells (read_numbers is_node last n at bs so_far) (NumbersRead is_node last n bs so_far) none (λ _. none)
numbers_told is_node last zero at bs so_far bytes room = tells_given so_far _ _ _ (no_more is_node last 0 bs so_far (λ h. absurd (omega (arith, h))) (λ h. absurd (omega (arith, h))) (λ h. absurd (omega (arith, h)))) (λ q. refl)
numbers_told is_node last (suc n) at bs so_far bytes room =
    by (numbers_told is_node last n (at + 4) (drop 4 bs) (so_far ++ big_number 4 bs ∷ []) (drop_bytes 4 bs bytes) (omega (arith, room, length-drop 4 bs))) (big_number 4 bs == 0) refl
  where
    by : Tells (read_numbers is_node last n (at + 4) (drop 4 bs) (so_far ++ big_number 4 bs ∷ [])) (NumbersRead is_node last n (drop 4 bs) (so_far ++ big_number 4 bs ∷ [])) none (λ _. none)
        → (t : Bool) → (big_number 4 bs == 0) ≡ t
        → Tells (if t then (rule at last >>= λ _. zeros at bs >>= λ _. give so_far) else (rule at (is_node (big_number 4 bs) && not (is_among (big_number 4 bs) so_far)) >>= λ _. read_numbers is_node last n (at + 4) (drop 4 bs) (so_far ++ big_number 4 bs ∷ []))) (NumbersRead is_node last (suc n) bs so_far) none (λ _. none)
    by rest true e =
        tells_ruled _ _ _ _ _ _ (λ ends.
        tells_zeros _ _ _ _ _ _ (λ zero_bytes.
        tells_given so_far _ _ _ (no_more is_node last (suc n) bs so_far (λ h. ends) (λ h. zero_bytes) (λ h. zero_test (big_number 4 bs) e)) (λ q. refl)))
    by rest false e =
        tells_ruled _ _ _ _ _ _ (λ right.
        let node = test_first (is_node (big_number 4 bs)) (is_among (big_number 4 bs) so_far) right in
        let new = fresh (big_number 4 bs) so_far (test_next (is_node (big_number 4 bs)) (is_among (big_number 4 bs) so_far) right) in
        let ne : big_number 4 bs ≢ 0 = λ z. let no : ⊥ = grind (arith, nat_tests) in no in
        tells_too _ _ _ _ _ _ _ rest (λ more read. one_more is_node last n bs so_far more bytes (omega (arith, room)) ne node new read) (λ more read q. refl))

-- ---- a list

-- what a list that was read is
pub record ListRead (c : Content) (is_node : ℕ → Bool) (b : ℕ) (so_far : List ℕ) (x : Listed) : Type 0 where
  pub ns : List ℕ
  pub nodes_are : x.nodes ≡ so_far ++ ns
  pub links : Links (shown c) x.blocks (list_bytes ns)
  pub first : first_of x.blocks ≡ b
  pub listed : AreListed ns
  pub pass : Pass is_node ns
  pub once : ((q : ℕ) → times q so_far ≤ 1) → (q : ℕ) → times q so_far + times q ns ≤ 1

list_both : (xs ys : List ℕ) → list_bytes (xs ++ ys) ≡ list_bytes xs ++ list_bytes ys
list_both [] ys = refl
list_both (x ∷ xs) ys = ap (λ z. big_bytes 4 x ++ z) (list_both xs ys) ∙ sym (append_assoc (big_bytes 4 x) (list_bytes xs) (list_bytes ys))

listed_both : (xs ys : List ℕ) → AreListed xs → AreListed ys → AreListed (xs ++ ys)
listed_both [] ys h k = k
listed_both (x ∷ xs) ys h k = (h.0, h.1, listed_both xs ys h.2 k)

none_left : (ns : List ℕ) → list_bytes ns ≡ [] → ns ≡ []
none_left [] e = refl
none_left (n ∷ ns) e = absurd (let l = ap length e in omega (arith, l, length_list (n ∷ ns)))

ends_there : (m : Blocks) (bs ns : List ℕ) → Links m bs (list_bytes ns) → first_of bs ≡ 0 → ns ≡ []
ends_there m [] ns s e = none_left ns s
ends_there m (b ∷ bs) ns s e = absurd (let low = s.0 in omega (arith, e, low))

-- the bytes of a block of a list, and what stands behind them
record Halved (xs ys : List ℕ) : Type 0 where
  here : take 248 (list_bytes (xs ++ ys)) ≡ list_bytes xs
  behind : drop 248 (list_bytes (xs ++ ys)) ≡ list_bytes ys

halved : (xs ys : List ℕ) → length xs ≤ 62 → (length xs < 62 → ys ≡ []) → Halved xs ys
halved xs ys few ends = elim (cases_lt (length xs) 62) [
  | inl less ↦
      subst (Halved xs) (sym (ends less)) (record {
        here = ap (λ z. take 248 (list_bytes z)) (append-nil xs) ∙ take_all 248 (list_bytes xs) (omega (arith, length_list xs, few));
        behind = ap (λ z. drop 248 (list_bytes z)) (append-nil xs) ∙ drop_all 248 (list_bytes xs) (omega (arith, length_list xs, few));
      })
  | inr more ↦
      let full : length (list_bytes xs) ≡ 248 = omega (arith, length_list xs, few, more) in
      record {
        here = ap (take 248) (list_both xs ys) ∙ take_at (list_bytes xs) (list_bytes ys) 248 full;
        behind = ap (drop 248) (list_both xs ys) ∙ drop_at (list_bytes xs) (list_bytes ys) 248 full;
      }
]

-- behind the numbers of a block stand zeros, or nothing
zeros_behind : (c : Content) (b : ℕ) (ns : List ℕ) → length ns ≤ 62 → (length ns < 62 → AreZero (drop (4 * length ns) (drop 8 (block c b)))) → AreZero (drop (8 + 4 * length ns) (block c b))
zeros_behind c b ns few h = elim (cases_lt (length ns) 62) [
  | inl less ↦ subst AreZero (drop-drop (4 * length ns) 8 (block c b)) (h less)
  | inr more ↦ λ i. get_or_past (drop (8 + 4 * length ns) (block c b)) i 0 (omega (arith, length-drop (8 + 4 * length ns) (block c b), block_room c b, more))
]

module _ (c : Content) (of_bytes : IsOfBytes c.bytes) (is_node : ℕ → Bool) where
  no_list : (b : ℕ) (so_far : List ℕ) → (b == 0) ≡ true → ListRead c is_node b so_far (record { nodes = so_far; blocks = [] })
  no_list b so_far e = record { ns = []; nodes_are = sym (append-nil so_far); links = refl; first = sym (zero_test b e); listed = tt; pass = All-nil (λ b. is_node b ≡ true); once = λ was q. omega (arith, was q, times_none q) }

  block_more : (b : ℕ) (so_far more : List ℕ) (rest : Listed) → is_taken c b ≡ true
      → (slice_index (block c b) 0 == 8) ≡ true
      → AreZero (take 3 (drop 1 (block c b)))
      → big_number 4 (drop 8 (block c b)) ≢ 0
      → NumbersRead is_node (big_number 4 (drop 4 (block c b)) == 0) 62 (drop 8 (block c b)) so_far more
      → ListRead c is_node (big_number 4 (drop 4 (block c b))) more rest
      → ListRead c is_node b so_far (record { nodes = rest.nodes; blocks = b ∷ rest.blocks })
  block_more b so_far more rest taken kind three some part list =
      let next = big_number 4 (drop 4 (block c b)) in
      let few = part.few in
      let ends : length part.ns < 62 → list.ns ≡ [] = λ less. ends_there (shown c) rest.blocks list.ns list.links (list.first ∙ zero_test next (part.ends less)) in
      let halves = halved part.ns list.ns part.few ends in
      let is_block = is_link_block c b (4 * length part.ns) of_bytes (omega (arith, few)) kind three (zeros_behind c b part.ns part.few part.behind) in
      let long = length-append part.ns list.ns in
      let first_some = part.some (omega arith) some in
      record {
        ns = part.ns ++ list.ns;
        nodes_are = list.nodes_are ∙ (ap (λ z. z ++ list.ns) part.is ∙ append_assoc so_far part.ns list.ns);
        links = (
          taken_low c b taken,
          (
            taken_high c b taken,
            (
              omega (arith, length_list (part.ns ++ list.ns), long, first_some),
              (
                shown_is c b _ taken (ap (λ z. link_bytes z (take 248 (list_bytes (part.ns ++ list.ns)))) list.first ∙ (ap (link_bytes next) (halves.here ∙ sym part.bytes) ∙ is_block)),
                subst (Links (shown c) rest.blocks) (sym halves.behind) list.links,
              ),
            ),
          ),
        );
        first = refl;
        listed = listed_both part.ns list.ns part.listed list.listed;
        pass = pass_both part.ns list.ns part.pass list.pass;
        once = λ was q.
            let once = list.once (λ q. let one = part.once was q in omega (arith, one, ap (times q) part.is, times-append q so_far part.ns)) q in
            omega (arith, once, ap (times q) part.is, times-append q so_far part.ns, times-append q part.ns list.ns);
      }
    where
      pass_both : (xs ys : List ℕ) → Pass is_node xs → Pass is_node ys → Pass is_node (xs ++ ys)
      pass_both xs [] h k = subst (Pass is_node) (sym (append-nil xs)) h
      pass_both xs (y ∷ ys) h k = all_both (λ b. is_node b ≡ true) xs y ys h (All-head (λ b. is_node b ≡ true) y ys k) (All-tail (λ b. is_node b ≡ true) y ys k)

  part_told : (b at : ℕ) (last : Bool) (so_far : List ℕ) → Tells (read_part is_node last at (drop 8 (block c b)) so_far) (NumbersRead is_node last 62 (drop 8 (block c b)) so_far) none (λ _. none)
  unfolding read_part
  part_told b at last so_far = numbers_told is_node last 62 at (drop 8 (block c b)) so_far (drop_bytes 8 (block c b) (block_bytes c b of_bytes)) (omega (arith, length-drop 8 (block c b), block_room c b))

  -- a block of a list, where the rest is read
  abbrev read_more : (k b : ℕ) → List ℕ → Step Listed
  read_more k b so_far =
      rule (256 * b) (slice_index (block c b) 0 == 8)
      >>= λ _. zeros (256 * b + 1) (take 3 (drop 1 (block c b)))
      >>= λ _. link c (256 * b + 4) (big_number 4 (drop 4 (block c b)))
      >>= λ _. rule (256 * b + 8) (not (big_number 4 (drop 8 (block c b)) == 0))
      >>= λ _. read_part is_node (big_number 4 (drop 4 (block c b)) == 0) (256 * b + 8) (drop 8 (block c b)) so_far
      >>= λ more. read_list c is_node k (big_number 4 (drop 4 (block c b))) more
      >>= λ rest. give (record { nodes = rest.nodes; blocks = b ∷ rest.blocks })

  not_zero : (b : ℕ) → (b == 0) ≡ false → b ≢ 0
  not_zero b e z = let no : ⊥ = grind (arith, nat_tests) in no

  not_none : (n : ℕ) → not (n == 0) ≡ true → n ≢ 0
  not_none n h z = let no : ⊥ = grind (arith, nat_tests) in no

  abbrev AsListed : (k b : ℕ) → List ℕ → Type 0
  AsListed k b so_far = IsLink c b → Tells (read_list c is_node k b so_far) (ListRead c is_node b so_far) (root_tally b) (λ x q. times q x.blocks)

  more_stands : (k b : ℕ) (so_far : List ℕ) → ((b : ℕ) (so_far : List ℕ) → AsListed k b so_far) → is_taken c b ≡ true → Tells (read_more k b so_far) (ListRead c is_node b so_far) (λ q. times q (b ∷ [])) (λ x q. times q x.blocks)
  more_stands k b so_far rest_stands taken =
      let next = big_number 4 (drop 4 (block c b)) in
      tells_ruled _ _ _ _ _ _ (λ kind.
      tells_zeros _ _ _ _ _ _ (λ three.
      tells_linked c _ next _ _ _ _ (λ next_taken.
      tells_ruled _ _ _ _ _ _ (λ some.
      tells_quiet _ _ _ _ _ _ (part_told b (256 * b + 8) (next == 0) so_far) (λ more part.
      tells_then _ _ _ _ (root_tally next) (λ x q. times q x.blocks) _ _ (λ q. times q (b ∷ [])) (rest_stands next more next_taken) (λ q. refl) (λ rest list.
      tells_given (record { nodes = rest.nodes; blocks = b ∷ rest.blocks }) _ _ _ (block_more b so_far more rest taken kind three (not_none (big_number 4 (drop 8 (block c b))) some) part list) (λ q. omega (arith, times_one q b rest.blocks))))))))

  pub list_stands : (k b : ℕ) (so_far : List ℕ) → AsListed k b so_far
  list_stands zero b so_far taken = by (b == 0) refl
    where
      by : (t : Bool) → (b == 0) ≡ t → Tells (if t then give (record { nodes = so_far; blocks = [] }) else fail (256 * b)) (ListRead c is_node b so_far) (λ q. times q (if t then [] else b ∷ [])) (λ x q. times q x.blocks)
      by true e = tells_given (record { nodes = so_far; blocks = [] }) _ _ _ (no_list b so_far e) (λ q. refl)
      by false e = tells_none _ _ _ _
  list_stands (suc k) b so_far taken = by (list_stands k) (b == 0) refl
    where
      by : ((b : ℕ) (so_far : List ℕ) → AsListed k b so_far) → (t : Bool) → (b == 0) ≡ t → Tells (if t then give (record { nodes = so_far; blocks = [] }) else read_more k b so_far) (ListRead c is_node b so_far) (λ q. times q (if t then [] else b ∷ [])) (λ x q. times q x.blocks)
      by rest true e = tells_given (record { nodes = so_far; blocks = [] }) _ _ _ (no_list b so_far e) (λ q. refl)
      by rest false e = more_stands k b so_far rest (taken (not_zero b e))
