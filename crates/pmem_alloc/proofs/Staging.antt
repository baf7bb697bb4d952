-- Bytes of the map that are staged.
use Rattle.std.proofs.Common.{◌≡◌, ℕ, ◌+◌, ◌-◌, ◌/◌, ◌≤◌, ◌<◌, Bool, true, false, List, [], ◌∷◌, ◌++◌, length, get_or, set, refl, sym, ap, ◌∙◌, arith, inl, inr, length-append, get_or-set_same, get_or-set_other}
use mathlib.Core.Path.{fun_ext}
use Rattle.std.proofs.lemmas.Bool.{cases_lt}
use Rattle.std.proofs.lemmas.Bool.Decides.{nat_tests, eqb_tells}
use Rattle.base_outside.specs.Images.{Image, Range, lies_in, over, all_over}
use Rattle.base_outside.specs.ImageLaws.{all_over-push, over_outside, over_inside}
use Rattle.pmem_undo.specs.Layout.{total_bytes}
use Rattle.pmem_alloc.specs.Map.{map_place, map_length, map_byte, StandsIn, MapState, free_blocks, free_in, blocks_end, is_free}
use Rattle.pmem_alloc.specs.Blocks.{StagesMap, IsBlocks, HoldsBlocks}
use Rattle.pmem_alloc.proofs.Marking.{not_free_outside}

pub total-push : (rs : List Range) (r : Range) → total_bytes (rs ++ r ∷ []) ≡ total_bytes rs + length r.bytes
total-push [] r = omega arith
total-push (q ∷ rs) r = let e = total-push rs r in omega arith

-- the byte of a block is staged
pub stages_one : (staged : List Range) (b byte : ℕ) → b < 131072 → StagesMap 1 staged (staged ++ map_byte b byte ∷ [])
stages_one staged b byte low =
    let r = map_byte b byte in
    record {
      ranges = length-append staged (r ∷ []);
      bytes = total-push staged r;
      elsewhere = λ f i out. ap (λ (g : Image). g i) (all_over-push staged r f) ∙ over_outside r (all_over staged f) i (grind (arith, nat_tests));
    }

pub stages_none : (staged : List Range) → StagesMap 0 staged staged
stages_none staged = record { ranges = omega arith; bytes = omega arith; elsewhere = λ f i out. refl }

pub stages_more : (n : ℕ) (a b c : List Range) → StagesMap n a b → StagesMap 1 b c → StagesMap (n + 1) a c
stages_more n a b c one two =
    let r = one.ranges in let r' = two.ranges in let t = one.bytes in let t' = two.bytes in
    record {
      ranges = omega arith;
      bytes = omega arith;
      elsewhere = λ f i out. two.elsewhere f i out ∙ one.elsewhere f i out;
    }

byte_stands : (g : Image) (b byte : ℕ) → over (map_byte b byte) g (map_place + b / 8) ≡ byte
byte_stands g b byte =
    let r = map_byte b byte in
    let inside : lies_in (map_place + b / 8) r ≡ true = grind (arith, nat_tests) in
    let first : (map_place + b / 8) - r.place ≡ 0 = omega arith in
    over_inside r g (map_place + b / 8) inside ∙ ap (λ (k : ℕ). get_or r.bytes k 0) first

-- the map in memory follows the byte that is staged
pub stands_on : (bytes : List ℕ) (staged : List Range) (b byte : ℕ) (f : Image) → length bytes ≡ 16384 → b < 131072 → StandsIn bytes (all_over staged f) → StandsIn (set bytes (b / 8) byte) (all_over (staged ++ map_byte b byte ∷ []) f)
stands_on bytes staged b byte f long low stands k below =
    let r = map_byte b byte in
    let pushed = ap (λ (g : Image). g (map_place + k)) (all_over-push staged r f) in
    elim (eqb_tells k (b / 8)) [
      | inl same ↦
          let e : k ≡ b / 8 = same.1 in
          let inside : b / 8 < length bytes = omega arith in
          ap (λ (j : ℕ). get_or (set bytes (b / 8) byte) j 0) e ∙ (get_or-set_same bytes (b / 8) byte 0 inside
          ∙ (sym (byte_stands (all_over staged f) b byte) ∙ (ap (λ (j : ℕ). over r (all_over staged f) (map_place + j)) (sym e) ∙ sym pushed)))
      | inr apart ↦
          let ne = apart.1 in
          let out : lies_in (map_place + k) r ≡ false = grind (arith, nat_tests) in
          get_or-set_other bytes (b / 8) k byte 0 ne ∙ (stands k below ∙ (sym (over_outside r (all_over staged f) (map_place + k) out) ∙ sym pushed))
    ]

-- What is free by the bytes that stand in an image is what is free there.
pub blocks_end_most : (size : ℕ) → blocks_end size ≤ 131072
unfolding blocks_end
blocks_end_most size = omega arith

not_free_past : (size byte q : ℕ) → 131072 ≤ q → is_free (blocks_end size) byte q ≡ false
not_free_past size byte q past = not_free_outside (blocks_end size) byte q (λ low high. omega (arith, blocks_end_most size))

free_stands : (size : ℕ) (bytes : List ℕ) (f : Image) → StandsIn bytes f → (q : ℕ) → free_in (blocks_end size) bytes q ≡ free_blocks size f q
unfolding free_in free_blocks
free_stands size bytes f stands q =
    elim (cases_lt (q / 8) map_length) [
      | inl low ↦ ap (λ (x : ℕ). is_free (blocks_end size) x q) (stands (q / 8) low)
      | inr high ↦ not_free_past size (get_or bytes (q / 8) 0) q (omega arith) ∙ sym (not_free_past size (f (map_place + q / 8)) q (omega arith))
    ]

pub free_stored : (size end : ℕ) (bytes : List ℕ) (f : Image) → end ≡ blocks_end size → StandsIn bytes f → free_in end bytes ≡ free_blocks size f
free_stored size end bytes f is stands = ap (λ (n : ℕ). free_in n bytes) is ∙ fun_ext (free_stands size bytes f stands)

pub is_blocks : (size : ℕ) (tells : Bool) (image : Image) (staged : List Range) (stopped : Bool) (map lasting : MapState) (many : ℕ) → HoldsBlocks size tells image staged stopped map.bytes lasting.bytes map.end lasting.end many → IsBlocks size tells image staged stopped map lasting
is_blocks size tells image staged stopped map lasting many h = record {
  end = h.end;
  lasting_end = h.lasting_end;
  stored = λ t going. free_stored size map.end map.bytes (all_over staged image) h.end (h.stands t going);
  lasting_stored = λ t going. free_stored size lasting.end lasting.bytes image h.lasting_end (h.lasting_stands t going);
  read = h.stands;
}
