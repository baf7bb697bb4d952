-- A chain that is read stands.
use Rattle.std.proofs.Common.{◌≡◌, ◌≢◌, ℕ, zero, suc, ◌+◌, ◌-◌, ◌≤◌, ◌<◌, min, ◌==◌, ◌&&◌, not, Bool, true, false, List, [], ◌∷◌, ◌++◌, length, take, drop, refl, sym, ap, ◌∙◌, subst, arith, inl, inr}
use Rattle.std.specs.Prelude.{if◌then◌else◌, slice_index}
use Rattle.std.specs.List.{list_all}
use Rattle.std.proofs.lemmas.Bool.{cases_lt, ne_eqb}
use Rattle.std.proofs.lemmas.Bool.Decides.{nat_tests}
use Rattle.std.proofs.lemmas.List.{append-nil, drop_all, drop_at, length-append, length-drop, length-take, take_all, take_at}
use Rattle.byteorder.specs.Endian.{big_number}
use Rattle.pmem_pages.specs.Counts.{times_one}
use Rattle.pmem_pages.specs.Owners.{times}
use Rattle.vos_values.specs.Links.{is_link, is_zero, link_bytes, next_in}
use Rattle.vos_values.proofs.LinkLaws.{link_back}
use Rattle.vos_values.proofs.Reading.{chosen_again}
use Rattle.vos_entries.specs.vos_chain.Chains.{Chain, Links, first_of}
use Rattle.vos_entries.specs.vos_chain.Made.{chain_blocks}
use Rattle.vos_image.specs.Laws.{IsOfBytes}
use Rattle.vos_image.specs.Content.{Content, block, shown}
use Rattle.vos_image.specs.Kinds.{read_chain, read_links}
use Rattle.vos_image.proofs.Reading.{AreZero, IsLink, Tells, tells_given, tells_linked, tells_ruled, tells_then, tells_too, tells_zeros}
use Rattle.vos_image.proofs.Standing.{block_bytes, block_room, shown_is, taken_high, taken_low}
use Rattle.vos_image.proofs.Steps.{root_tally}

-- ---- a block of a chain

pub all_zeros : (bs : List ℕ) → AreZero bs → list_all is_zero bs ≡ true
all_zeros [] h = refl
all_zeros (b ∷ bs) h = let first : b ≡ 0 = h 0 in rw first (all_zeros bs (λ i. h (suc i)))

one_byte : (bs : List ℕ) → big_number 1 bs ≡ slice_index bs 0
one_byte bs = omega arith

and_three : (a b c : Bool) → a ≡ true → b ≡ true → c ≡ true → (a && b && c) ≡ true
and_three a b c h k l = rw (h, k, l) refl

pub is_link_block : (c : Content) (b n : ℕ) → IsOfBytes c.bytes → n ≤ 248 → (slice_index (block c b) 0 == 8) ≡ true → AreZero (take 3 (drop 1 (block c b))) → AreZero (drop (8 + n) (block c b))
    → link_bytes (big_number 4 (drop 4 (block c b))) (take n (drop 8 (block c b))) ≡ block c b
unfolding next_in
is_link_block c b n bytes few kind three behind =
    let bs = block c b in
    link_back n (big_number 4 (drop 4 bs)) bs (block_room c b) (block_bytes c b bytes) few
    (chosen_again (is_link n bs) _ _ (and_three _ _ _ (ap (λ z. z == 8) (one_byte bs) ∙ kind) (all_zeros _ three) (all_zeros _ behind)) refl)

-- ---- reading

record AreLinks (c : Content) (b n : ℕ) (x : Chain) : Type 0 where
  links : Links (shown c) x.blocks x.bytes
  first : first_of x.blocks ≡ b
  long : length x.bytes ≡ n

blocks_less : (n k : ℕ) → suc k ≡ chain_blocks n → k ≡ chain_blocks (n - 248)
blocks_less n k e = omega (arith, e)

blocks_some : (n k : ℕ) → suc k ≡ chain_blocks n → 0 < n
blocks_some n k e = omega (arith, e)

blocks_none : (n : ℕ) → 0 ≡ chain_blocks n → n ≡ 0
blocks_none n e = omega (arith, e)

-- where there is a block to come, a block is led to
abbrev LeadsOn : ℕ → ℕ → Type 0
LeadsOn k b = (if k == 0 then b == 0 else not (b == 0)) ≡ true

leads_none : (b : ℕ) → LeadsOn 0 b → b ≡ 0
leads_none b h = grind (arith, nat_tests)

leads_some : (k b : ℕ) → LeadsOn (suc k) b → b ≢ 0
leads_some k b h z = let ne : (suc k == 0) ≡ false = ne_eqb (suc k) 0 (λ q. omega (arith, q)) in let is : not (b == 0) ≡ true = sym (rw ne refl) ∙ h in let no : ⊥ = grind (arith, nat_tests) in no

-- the part of a block, and what stands behind it
parts_are : (c : Content) (b n : ℕ) (rest : List ℕ) → length rest ≡ n - 248 → (take 248 (take (min n 248) (drop 8 (block c b)) ++ rest) ≡ take (min n 248) (drop 8 (block c b))) × (drop 248 (take (min n 248) (drop 8 (block c b)) ++ rest) ≡ rest)
parts_are c b n rest long =
    let part = take (min n 248) (drop 8 (block c b)) in
    let size : length part ≡ min n 248 = length-take (min n 248) (drop 8 (block c b)) ∙ omega (arith, length-drop 8 (block c b), block_room c b) in
    elim (cases_lt n 248) [
      | inl less ↦
          let none : rest ≡ [] = no_more rest (omega (arith, long, less)) in
          subst (λ z. (take 248 (part ++ z) ≡ part) × (drop 248 (part ++ z) ≡ z)) (sym none)
          (ap (take 248) (append-nil part) ∙ take_all 248 part (omega (arith, size)), ap (drop 248) (append-nil part) ∙ drop_all 248 part (omega (arith, size)))
      | inr more ↦ (take_at part rest 248 (omega (arith, size, more)), drop_at part rest 248 (omega (arith, size, more)))
    ]
  where
    no_more : (xs : List ℕ) → length xs ≡ 0 → xs ≡ []
    no_more [] e = refl
    no_more (x ∷ xs) e = absurd (omega (arith, e))

part_long : (c : Content) (b n : ℕ) (rest : List ℕ) → length rest ≡ n - 248 → length (take (min n 248) (drop 8 (block c b)) ++ rest) ≡ n
part_long c b n rest long = omega (arith, length-append (take (min n 248) (drop 8 (block c b))) rest, length-take (min n 248) (drop 8 (block c b)), length-drop 8 (block c b), block_room c b, long)

module _ (c : Content) (of_bytes : IsOfBytes c.bytes) where
  links_stand : (k b n : ℕ) → k ≡ chain_blocks n → LeadsOn k b → IsLink c b → Tells (read_links c k b n) (AreLinks c b n) (root_tally b) (λ x q. times q x.blocks)
  links_stand zero b n e on taken =
      let none : b ≡ 0 = leads_none b on in
      tells_given _ _ _ _ (record { links = refl; first = sym none; long = sym (blocks_none n e) }) (λ q. rw none refl)
  links_stand (suc k) b n e on taken =
      let some = leads_some k b on in
      let ne : (b == 0) ≡ false = ne_eqb b 0 some in
      let next = big_number 4 (drop 4 (block c b)) in
      tells_ruled _ _ _ _ _ _ (λ kind.
      tells_zeros _ _ _ _ _ _ (λ three.
      tells_linked c _ next _ _ _ _ (λ next_taken.
      tells_ruled _ _ _ _ _ _ (λ next_on.
      tells_zeros _ _ _ _ _ _ (λ behind.
      tells_then _ _ _ _ (root_tally next) (λ x q. times q x.blocks) _ _ (root_tally b) (links_stand k next (n - 248) (blocks_less n k e) next_on next_taken) (λ q. refl) (λ rest links.
      tells_given _ _ _ _
      (let both = parts_are c b n rest.bytes links.long in
      let part = take (min n 248) (drop 8 (block c b)) in
      record {
        links = (
          taken_low c b (taken some),
          (
            taken_high c b (taken some),
            (
              let some_bytes = blocks_some n k e in omega (arith, part_long c b n rest.bytes links.long, some_bytes),
              (
                shown_is c b _ (taken some) (ap (λ z. link_bytes z (take 248 (part ++ rest.bytes))) links.first ∙ (ap (link_bytes next) both.0 ∙ is_link_block c b (min n 248) of_bytes (omega arith) kind three behind)),
                subst (Links (shown c) rest.blocks) (sym both.1) links.links,
              ),
            ),
          ),
        );
        first = refl;
        long = part_long c b n rest.bytes links.long;
      })
      (λ q. rw ne (omega (arith, times_one q b rest.blocks)))))))))

-- A chain of some bytes stands, of which a block is the first.
pub record ChainStands (c : Content) (b n : ℕ) (x : Chain) : Type 0 where
  pub here : Links (shown c) x.blocks x.bytes
  pub first : first_of x.blocks ≡ b
  pub long : length x.bytes ≡ n

leads_on : (k b : ℕ) → 0 < k → b ≢ 0 → LeadsOn k b
leads_on zero b some ne = absurd (omega (arith, some))
leads_on (suc k) b some ne = let more : (suc k == 0) ≡ false = ne_eqb (suc k) 0 (λ q. omega (arith, q)) in let e = ne_eqb b 0 ne in rw (more, e) refl

blocks_more : (n : ℕ) → 1 ≤ n → 0 < chain_blocks n
blocks_more n some = omega (arith, some)

pub chain_stands : (c : Content) (b n : ℕ) → IsOfBytes c.bytes → 1 ≤ n → b ≢ 0 → IsLink c b → Tells (read_chain c b n) (ChainStands c b n) (root_tally b) (λ x q. times q x.blocks)
unfolding read_chain
chain_stands c b n of_bytes some ne taken =
    tells_too _ _ _ _ _ _ _ (links_stand c of_bytes (chain_blocks n) b n refl (leads_on (chain_blocks n) b (blocks_more n some) ne) taken)
    (λ x links. record { here = links.links; first = links.first; long = links.long }) (λ x links q. refl)
