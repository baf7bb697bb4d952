-- What the arrays of an allocator hold, from call to call.
use Rattle.std.proofs.Common.{◌≡◌, ℕ, ◌+◌, ◌≤◌, ◌<◌, Bool, true, false, List, [], ◌∷◌, ◌++◌, length, get_or, refl, sym, ap, ◌∙◌, arith}
use Rattle.std.specs.Prelude.{IsTrue, Result, Ok, Err, OnOk, OnErr, is_err}
use Rattle.std.proofs.lemmas.Bool.Decides.{nat_tests}
use Rattle.base_outside.specs.Images.{Image, Range, lies_in, all_over, bytes_at}
use Rattle.base_outside.specs.ImageLaws.{all_over-push, over_outside, get_or-bytes_at}
use Rattle.pmem_undo.specs.Layout.{SameContent, is_content}
use Rattle.pmem_alloc.specs.Map.{map_place, map_length, blocks_end, StandsIn}
use Rattle.pmem_alloc.specs.Blocks.{HoldsBlocks, IsOutsideMap}

-- bytes staged outside the map
pub holds_staged : (size : ℕ) (tells : Bool) (image : Image) (staged : List Range) (stopped : Bool) (map lasting : List ℕ) (end end' many place : ℕ) (bytes : List ℕ) → HoldsBlocks size tells image staged stopped map lasting end end' many → IsOutsideMap place (length bytes) → HoldsBlocks size tells image (staged ++ record { place = place; bytes = bytes } ∷ []) stopped map lasting end end' many
holds_staged size tells image staged stopped map lasting end end' many place bytes h out =
    let r : Range = record { place = place; bytes = bytes } in
    record {
      end = h.end;
      lasting_end = h.lasting_end;
      stands = λ t going k below.
          let off : lies_in (map_place + k) r ≡ false = grind (arith, nat_tests) in
          h.stands t going k below ∙ (sym (over_outside r (all_over staged image) (map_place + k) off) ∙ ap (λ (g : Image). g (map_place + k)) (sym (all_over-push staged r image)));
      lasting_stands = h.lasting_stands;
      few = h.few;
    }

-- it stopped
pub holds_stopped : (size size' : ℕ) (tells : Bool) (image image' : Image) (staged staged' : List Range) (stopped stopped' : Bool) (map lasting : List ℕ) (end end' many : ℕ) → HoldsBlocks size tells image staged stopped map lasting end end' many → size' ≡ size → stopped' ≡ true → HoldsBlocks size' tells image' staged' stopped' map lasting end end' many
holds_stopped size size' tells image image' staged staged' stopped stopped' map lasting end end' many h same off = record {
  end = h.end ∙ ap blocks_end (sym same);
  lasting_end = h.lasting_end ∙ ap blocks_end (sym same);
  stands = λ t going k below. absurd (cc);
  lasting_stands = λ t going k below. absurd (cc);
  few = h.few;
}

-- the image stays where it is told, and it hasn't stopped since
pub holds_looks : (size size' : ℕ) (tells : Bool) (image image' : Image) (staged staged' : List Range) (stopped stopped' : Bool) (map lasting : List ℕ) (end end' many : ℕ) → HoldsBlocks size tells image staged stopped map lasting end end' many → size' ≡ size → (IsTrue tells → image' ≡ image) → staged' ≡ staged → (stopped' ≡ false → stopped ≡ false) → HoldsBlocks size' tells image' staged' stopped' map lasting end end' many
holds_looks size size' tells image image' staged staged' stopped stopped' map lasting end end' many h same looks stays on = record {
  end = h.end ∙ ap blocks_end (sym same);
  lasting_end = h.lasting_end ∙ ap blocks_end (sym same);
  stands = λ t going k below. h.stands t (on going) k below ∙ (ap (λ (g : Image). all_over staged g (map_place + k)) (sym (looks t)) ∙ ap (λ (rs : List Range). all_over rs image' (map_place + k)) (sym stays));
  lasting_stands = λ t going k below. h.lasting_stands t (on going) k below ∙ ap (λ (g : Image). g (map_place + k)) (sym (looks t));
  few = h.few;
}

map_is_content : (k : ℕ) → is_content (map_place + k) ≡ true
map_is_content k = grind (arith, nat_tests)

-- what was staged is committed
pub holds_committed : (size size' : ℕ) (tells : Bool) (image image' : Image) (staged staged' : List Range) (stopped stopped' : Bool) (map lasting : List ℕ) (end end' many : ℕ) → HoldsBlocks size tells image staged stopped map lasting end end' many → size' ≡ size → (IsTrue tells → SameContent image' (all_over staged image)) → staged' ≡ [] → (stopped' ≡ false → stopped ≡ false) → HoldsBlocks size' tells image' staged' stopped' map map end end many
holds_committed size size' tells image image' staged staged' stopped stopped' map lasting end end' many h same committed none on =
    let stand = λ (t : IsTrue tells) (going : stopped' ≡ false) (k : ℕ) (below : k < map_length). h.stands t (on going) k below ∙ sym (committed t (map_place + k) (map_is_content k)) in
    record {
      end = h.end ∙ ap blocks_end (sym same);
      lasting_end = h.end ∙ ap blocks_end (sym same);
      stands = λ t going k below. stand t going k below ∙ ap (λ (rs : List Range). all_over rs image' (map_place + k)) (sym none);
      lasting_stands = stand;
      few = h.few;
    }

-- what was staged is dropped
pub holds_dropped : (size : ℕ) (tells : Bool) (image : Image) (staged : List Range) (stopped : Bool) (map lasting : List ℕ) (end end' many : ℕ) → HoldsBlocks size tells image staged stopped map lasting end end' many → HoldsBlocks size tells image [] stopped lasting lasting end' end' many
holds_dropped size tells image staged stopped map lasting end end' many h = record {
  end = h.lasting_end;
  lasting_end = h.lasting_end;
  stands = h.lasting_stands;
  lasting_stands = h.lasting_stands;
  few = h.few;
}

-- the map was read
pub holds_opened : (size : ℕ) (tells : Bool) (image : Image) (staged : List Range) (stopped : Bool) (map : List ℕ) (end : ℕ) → end ≡ blocks_end size → staged ≡ [] → (IsTrue tells → map ≡ bytes_at image map_place map_length) → HoldsBlocks size tells image staged stopped map map end end 0
holds_opened size tells image staged stopped map end is none read =
    let stand = λ (t : IsTrue tells) (k : ℕ) (below : k < map_length). ap (λ (xs : List ℕ). get_or xs k 0) (read t) ∙ get_or-bytes_at image map_place map_length k below in
    record {
      end = is;
      lasting_end = is;
      stands = λ t going k below. stand t k below ∙ ap (λ (rs : List Range). all_over rs image (map_place + k)) (sym none);
      lasting_stands = λ t going. stand t;
      few = omega arith;
    }

-- bytes of the map staged, and the map in memory with them
pub holds_marked : (size : ℕ) (tells : Bool) (image : Image) (staged staged' : List Range) (stopped : Bool) (map map' lasting : List ℕ) (end end' end'' many many' : ℕ) → HoldsBlocks size tells image staged stopped map lasting end end' many → end'' ≡ end → (StandsIn map (all_over staged image) → StandsIn map' (all_over staged' image)) → many' ≤ 1024 → HoldsBlocks size tells image staged' stopped map' lasting end'' end' many'
holds_marked size tells image staged staged' stopped map map' lasting end end' end'' many many' h same follows few = record {
  end = same ∙ h.end;
  lasting_end = h.lasting_end;
  stands = λ t going. follows (h.stands t going);
  lasting_stands = h.lasting_stands;
  few = few;
}

pub on_before : (was is : Bool) → (was ≡ true → is ≡ true) → is ≡ false → was ≡ false
on_before true is once off = let e = once refl in absurd (cc)
on_before false is once off = refl

-- a fact that holds at both outcomes
pub ok_or_err : {T E : Type 0} {A B P : Type 0} (r : Result T E) → OnOk r A → OnErr r B → (A → P) → (B → P) → P
ok_or_err (Ok x) a b ok err = ok a
ok_or_err (Err e) a b ok err = err b

pub when_no_err : {T E : Type 0} {A : Type 0} (r : Result T E) (b : Bool) → b ≡ is_err r → b ≡ false → OnOk r A → A
when_no_err (Ok x) b is off a = a
when_no_err (Err e) b is off a = absurd (cc)

pub on_ok : {T E : Type 0} {A B : Type 0} (r : Result T E) → OnOk r A → (A → B) → OnOk r B
on_ok (Ok x) a f = f a
on_ok (Err e) a f = a
