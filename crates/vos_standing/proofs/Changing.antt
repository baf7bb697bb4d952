-- Whoever changes blocks that are shown changes those of the content, and leaves what stands beside them.
use Rattle.std.proofs.Common.{◌≡◌, ℕ, ◌+◌, ◌-◌, ◌≤◌, ◌<◌, true, false, ltb, [], ◌∷◌, Some, None, refl, sym, ap, ◌∙◌, arith, inl, inr}
use Rattle.std.proofs.lemmas.Bool.{cases_lt}
use Rattle.std.proofs.lemmas.Bool.Decides.{nat_tests}
use Rattle.base_outside.specs.Images.{Image}
use Rattle.pmem_pages.specs.Owners.{Changed, Holds, Owner, times}
use Rattle.pmem_alloc.specs.Map.{MapState, beside, is_block, map_bit, shown_in}
use Rattle.vos_places.specs.vos_image.Content.{shown}
use Rattle.vos_standing.specs.Laws.{BlocksAreShown, BlocksChange}
use Rattle.vos_standing.specs.Standing.{IsReadOf, content}
use Rattle.vos_standing.proofs.Agreeing.{named_agree, none_past, owned_low, past_shown}

pub blocks_are_shown : {G : Type 0} (O : Owner G) → BlocksAreShown O
blocks_are_shown O size f m x k h = record {
  here = O.frame (shown (content size f)) (shown_in m f) x (λ q some. let low = owned_low O (content size f) x h q some in named_agree size f m q k (omega (arith, low))) h.here;
  apart = h.apart;
}

none_or_some : (n : ℕ) → (n ≡ 0 → ⊥) → 0 < n
none_or_some n some = elim (cases_lt 0 n) [ inl more ↦ more | inr none ↦ absurd (some (omega arith)) ]

same_one : (a b : ℕ) → Some (a ∷ []) ≡ Some (b ∷ []) → a ≡ b
same_one a b e = cc

module _ (G : Type 0) (O : Owner G) (size : ℕ) (f g : Image) (m n : MapState) (x y : G) (k : IsReadOf size f m) (l : IsReadOf size g n) (h : Holds O (shown (content size f)) x) (C : Changed O (shown_in m f) x (shown_in n g) y) where
  was_low : (q : ℕ) → 131072 ≤ q → times q (O.owned x) ≡ 0
  was_low q high = elim (cases_lt 0 (times q (O.owned x))) [ inl some ↦ (let low = owned_low O (content size f) x h q some in absurd (omega (arith, low))) | inr none ↦ omega arith ]

  -- what was taken was free, and past the names of blocks nothing is free
  is_named : (q : ℕ) → 0 < times q (O.owned y) → q < 4294967296
  is_named q some = elim (cases_lt q 4294967296) [
    | inl low ↦ low
    | inr high ↦
        let free = C.taken q (was_low q (omega arith)) some in
        let there = past_shown m f (q - 4294967296) in
        let at : 4294967296 + (q - 4294967296) ≡ q = omega arith in
        let no : None ≡ Some (beside m f (q - 4294967296) ∷ []) = sym free ∙ (ap (shown_in m f) (sym at) ∙ there) in absurd (cc)
  ]

  is_unowned : (q : ℕ) → 4294967296 ≤ q → times q (O.owned y) ≡ 0
  is_unowned q high = elim (cases_lt 0 (times q (O.owned y))) [ inl some ↦ (let low = is_named q some in absurd (omega (arith, low))) | inr none ↦ omega arith ]

  changed : Changed O (shown (content size f)) x (shown (content size g)) y
  changed = record {
    holds = record {
      here = O.frame (shown_in n g) (shown (content size g)) y (λ q some. sym (named_agree size g n q l (is_named q some))) C.holds.here;
      apart = C.holds.apart;
    };
    outside = λ q none free. elim (cases_lt q 4294967296) [
      | inl low ↦ sym (named_agree size g n q l low) ∙ (C.outside q none free ∙ named_agree size f m q k low)
      | inr high ↦ none_past (content size g) q (omega arith) ∙ sym (none_past (content size f) q (omega arith))
    ];
    taken = λ q none some. sym (named_agree size f m q k (is_named q some)) ∙ C.taken q none some;
    given = λ q some none. (let low = owned_low O (content size f) x h q some in sym (named_agree size g n q l (omega (arith, low))) ∙ C.given q some none);
  }

  still : (i : ℕ) → beside n g i ≡ beside m f i
  still i = same_one (beside n g i) (beside m f i) (sym (past_shown n g i) ∙ (C.outside (4294967296 + i) (was_low (4294967296 + i) (omega arith)) (is_unowned (4294967296 + i) (omega arith)) ∙ past_shown m f i))

bytes_beside : (m : MapState) (f : Image) (i : ℕ) → i < 307200 → beside m f i ≡ f i
unfolding beside
bytes_beside m f i low = let l : ltb i 307200 ≡ true = grind (arith, nat_tests) in rw l refl

bits_beside : (m : MapState) (f : Image) (b : ℕ) → is_block m.end b ≡ false → beside m f (307200 + b) ≡ map_bit m b
unfolding beside
bits_beside m f b out =
    let l : ltb (307200 + b) 307200 ≡ false = grind (arith, nat_tests) in
    let at : (307200 + b) - 307200 ≡ b = omega arith in
    rw (l, at, out) refl

pub blocks_change : {G : Type 0} (O : Owner G) → BlocksChange O
blocks_change {G = G} O size f g m n x y k l end h C =
    let stays = still G O size f g m n x y k l h C in (
      changed G O size f g m n x y k l h C,
      record {
        bytes = λ i low. sym (bytes_beside n g i low) ∙ (stays i ∙ bytes_beside m f i low);
        map = record {
          end = end;
          bits = λ b out. sym (bits_beside n g b (ap (λ (e : ℕ). is_block e b) end ∙ out)) ∙ (stays (307200 + b) ∙ bits_beside m f b out);
        };
      },
    )
