-- The ranges of a log, one by one.
use Rattle.std.proofs.Common.{◌≡◌, ℕ, suc, ◌+◌, ◌-◌, ◌<◌, ◌≤◌, ◌&&◌, leb, Bool, true, false, List, [], ◌∷◌, length, drop, Some, None, Result, Ok, Err, refl, ap, ◌∙◌, arith}
use Rattle.std.specs.Prelude.{if◌then◌else◌, nat_le}
use Rattle.std.proofs.lemmas.Bool.Decides.{nat_tests}
use Rattle.std.proofs.lemmas.List.{drop-drop, drop_all, length-drop}
use Rattle.pmem_undo.specs.Layout.{are_content}
use Rattle.pmem_undo.specs.Log.{number_in}
use Rattle.vos_check_region.specs.Fault.{after_range, next_range, ranges_fault}

-- ---- one range

abbrev pub next_by : ℕ → ℕ → ℕ → ℕ → ℕ → Result ℕ ℕ
next_by size at left place long = if are_content size place 0 then (if nat_le long left && are_content size place long then Ok long else Err (at + 4)) else Err at

next_there : (size at : ℕ) (bs : List ℕ) → 8 ≤ length bs → next_range size at bs ≡ next_by size at (length bs - 8) (number_in bs) (number_in (drop 4 bs))
unfolding next_range
next_there size at bs h = let t : leb 8 (length bs) ≡ true = grind (arith, nat_tests) in rw t refl

next_told : (size place at p long : ℕ) (bytes : List ℕ) → at + 8 ≤ length bytes → p ≡ number_in (drop at bytes) → long ≡ number_in (drop (at + 4) bytes) → next_range size place (drop at bytes) ≡ next_by size place (length bytes - (at + 8)) p long
next_told size place at p long bytes fits one two =
    let many : length (drop at bytes) - 8 ≡ length bytes - (at + 8) = omega (arith, length-drop at bytes) in
    let room : 8 ≤ length (drop at bytes) = omega (arith, length-drop at bytes) in
    let next : drop 4 (drop at bytes) ≡ drop (at + 4) bytes = drop-drop 4 at bytes in
    next_there size place (drop at bytes) room ∙ rw (many, next, one, two) refl

pub next_short : (size place at : ℕ) (bytes : List ℕ) → length bytes - at < 8 → next_range size place (drop at bytes) ≡ Err 36868
unfolding next_range
next_short size place at bytes h =
    let short : length (drop at bytes) < 8 = omega (arith, length-drop at bytes) in
    let t : leb 8 (length (drop at bytes)) ≡ false = grind (arith, nat_tests) in
    rw t refl

pub next_off : (size place at p long : ℕ) (bytes : List ℕ) → at + 8 ≤ length bytes → p ≡ number_in (drop at bytes) → long ≡ number_in (drop (at + 4) bytes) → are_content size p 0 ≡ false → next_range size place (drop at bytes) ≡ Err place
next_off size place at p long bytes fits one two off = next_told size place at p long bytes fits one two ∙ rw off refl

pub next_far : (size place at p long : ℕ) (bytes : List ℕ) → at + 8 ≤ length bytes → p ≡ number_in (drop at bytes) → long ≡ number_in (drop (at + 4) bytes) → are_content size p 0 ≡ true → length bytes - (at + 8) < long → next_range size place (drop at bytes) ≡ Err (place + 4)
next_far size place at p long bytes fits one two on far = let t : leb long (length bytes - (at + 8)) ≡ false = grind (arith, nat_tests) in next_told size place at p long bytes fits one two ∙ rw (on, t) refl

pub next_out : (size place at p long : ℕ) (bytes : List ℕ) → at + 8 ≤ length bytes → p ≡ number_in (drop at bytes) → long ≡ number_in (drop (at + 4) bytes) → are_content size p 0 ≡ true → are_content size p long ≡ false → next_range size place (drop at bytes) ≡ Err (place + 4)
next_out size place at p long bytes fits one two on out = by (leb long (length bytes - (at + 8))) refl
  where
    by : (t : Bool) → leb long (length bytes - (at + 8)) ≡ t → next_range size place (drop at bytes) ≡ Err (place + 4)
    by true e = next_told size place at p long bytes fits one two ∙ rw (on, e, out) refl
    by false e = next_told size place at p long bytes fits one two ∙ rw (on, e) refl

pub next_good : (size place at p long : ℕ) (bytes : List ℕ) → at + 8 ≤ length bytes → p ≡ number_in (drop at bytes) → long ≡ number_in (drop (at + 4) bytes) → are_content size p 0 ≡ true → long ≤ length bytes - (at + 8) → are_content size p long ≡ true → next_range size place (drop at bytes) ≡ Ok long
next_good size place at p long bytes fits one two on near good = let t : leb long (length bytes - (at + 8)) ≡ true = grind (arith, nat_tests) in next_told size place at p long bytes fits one two ∙ rw (on, t, good) refl

-- ---- all of them

one_more : (size n at : ℕ) (bs : List ℕ) → ranges_fault size (suc n) at bs ≡ after_range (next_range size at bs) (λ long. ranges_fault size n (at + 8 + long) (drop long (drop 8 bs)))
unfolding ranges_fault
one_more size n at bs = refl

pub fault_on : (size n at long : ℕ) (bytes : List ℕ) → Ok long ≡ next_range size (36872 + at) (drop at bytes) → ranges_fault size (suc n) (36872 + at) (drop at bytes) ≡ ranges_fault size n (36872 + (at + (8 + long))) (drop (at + (8 + long)) bytes)
fault_on size n at long bytes is =
    let here : 36872 + at + 8 + long ≡ 36872 + (at + (8 + long)) = omega arith in
    let rest : drop long (drop 8 (drop at bytes)) ≡ drop (at + (8 + long)) bytes = ap (drop long) (drop-drop 8 at bytes) ∙ (drop-drop long (at + 8) bytes ∙ (let e : at + 8 + long ≡ at + (8 + long) = omega arith in ap (λ k. drop k bytes) e)) in
    one_more size n (36872 + at) (drop at bytes) ∙ rw (← is, here, rest) refl

pub fault_off : (size n at place : ℕ) (bytes : List ℕ) → Err place ≡ next_range size (36872 + at) (drop at bytes) → ranges_fault size (suc n) (36872 + at) (drop at bytes) ≡ Some place
fault_off size n at place bytes is = one_more size n (36872 + at) (drop at bytes) ∙ rw (← is) refl

some_left : (size place : ℕ) (bs : List ℕ) → 0 < length bs → ranges_fault size 0 place bs ≡ Some 36868
unfolding ranges_fault
some_left size place [] h = absurd (omega (arith, h))
some_left size place (b ∷ bs) h = refl

pub fault_left : (size at place : ℕ) (bytes : List ℕ) → at < length bytes → ranges_fault size 0 place (drop at bytes) ≡ Some 36868
fault_left size at place bytes h = some_left size place (drop at bytes) (omega (arith, length-drop at bytes))

pub fault_none : (size at place : ℕ) (bytes : List ℕ) → length bytes ≤ at → ranges_fault size 0 place (drop at bytes) ≡ None
unfolding ranges_fault
fault_none size at place bytes h = let e : drop at bytes ≡ [] = drop_all at bytes h in rw e refl
