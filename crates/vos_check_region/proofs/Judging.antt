-- A log has no fault exactly where it is well formed.
use Rattle.std.proofs.Common.{◌≡◌, ℕ, zero, suc, ◌+◌, ◌-◌, ◌*◌, ◌&&◌, ◌==◌, leb, cond, Bool, true, false, List, [], ◌∷◌, length, take, drop, Option, Some, None, Result, Ok, Err, refl, arith}
use Rattle.std.specs.Prelude.{IsSome, if◌then◌else◌}
use Rattle.std.proofs.lemmas.Bool.Decides.{nat_tests}
use Rattle.base_outside.specs.Images.{Image, Range, bytes_at}
use Rattle.pmem_undo.specs.Layout.{are_content, gate, log_place, most_bytes, most_ranges}
use Rattle.pmem_undo.specs.Log.{cons_range, log_in, logged_count, logged_length, number_in, ranges_in}
use Rattle.pmem_undo.specs.Settled.{IsAttachable}
use Rattle.vos_check_region.specs.Fault.{after_range, log_fault, next_range, open_fault, ranges_fault}
use Rattle.vos_check_region.specs.Laws.{LogsAreJudged}

-- ---- one range, by its three tests

abbrev next_of : Bool → Bool → Bool → ℕ → ℕ → Result ℕ ℕ
next_of t u v at long = if t then (if u then (if v then Ok long else Err (at + 4)) else Err at) else Err (log_place + 4)

some_cons : (r : Range) (o : Option (List Range)) → IsSome o → IsSome (cons_range r o)
some_cons r None h = absurd (let no : ⊥ = cc in no)
some_cons r (Some rs) h = refl

some_behind : (r : Range) (o : Option (List Range)) → IsSome (cons_range r o) → IsSome o
some_behind r None h = absurd (let no : ⊥ = cc in no)
some_behind r (Some rs) h = refl

goes_well : (t u v : Bool) (at long : ℕ) (rest : ℕ → Option ℕ) (r : Range) (o : Option (List Range)) → after_range (next_of t u v at long) rest ≡ None → (rest long ≡ None → IsSome o) → IsSome (cond (t && v) (cons_range r o) None)
goes_well true true true at long rest r o h k = some_cons r o (k h)
goes_well true true false at long rest r o h k = absurd (let no : ⊥ = cc in no)
goes_well true false v at long rest r o h k = absurd (let no : ⊥ = cc in no)
goes_well false u v at long rest r o h k = absurd (let no : ⊥ = cc in no)

went_well : (t u v : Bool) (at long : ℕ) (rest : ℕ → Option ℕ) (r : Range) (o : Option (List Range)) → (v ≡ true → u ≡ true) → IsSome (cond (t && v) (cons_range r o) None) → (IsSome o → rest long ≡ None) → after_range (next_of t u v at long) rest ≡ None
went_well true true true at long rest r o e h k = k (some_behind r o h)
went_well true false true at long rest r o e h k = absurd (let f = e refl in let no : ⊥ = cc in no)
went_well true u false at long rest r o e h k = absurd (let no : ⊥ = cc in no)
went_well false u v at long rest r o e h k = absurd (let no : ⊥ = cc in no)

-- a range whose bytes are content begins in the content
begins_inside : (size place long left : ℕ) → (leb long left && are_content size place long) ≡ true → are_content size place 0 ≡ true
begins_inside size place long left h = grind (arith, nat_tests)

-- ---- all ranges

pub well_formed : (size n at : ℕ) (bs : List ℕ) → ranges_fault size n at bs ≡ None → IsSome (ranges_in size n bs)
unfolding ranges_fault next_range ranges_in
well_formed size zero at [] h = refl
well_formed size zero at (b ∷ bs) h = absurd (let no : ⊥ = cc in no)
well_formed size (suc n) at bs h =
    let p = number_in bs in
    let k = number_in (drop 4 bs) in
    goes_well (leb 8 (length bs)) (are_content size p 0) (leb k (length bs - 8) && are_content size p k) at k (λ long. ranges_fault size n (at + 8 + long) (drop long (drop 8 bs)))
    (record { place = p; bytes = take k (drop 8 bs) }) (ranges_in size n (drop k (drop 8 bs))) h (λ rest. well_formed size n (at + 8 + k) (drop k (drop 8 bs)) rest)

pub no_fault : (size n at : ℕ) (bs : List ℕ) → IsSome (ranges_in size n bs) → ranges_fault size n at bs ≡ None
unfolding ranges_fault next_range ranges_in
no_fault size zero at [] h = refl
no_fault size zero at (b ∷ bs) h = absurd (let no : ⊥ = cc in no)
no_fault size (suc n) at bs h =
    let p = number_in bs in
    let k = number_in (drop 4 bs) in
    went_well (leb 8 (length bs)) (are_content size p 0) (leb k (length bs - 8) && are_content size p k) at k (λ long. ranges_fault size n (at + 8 + long) (drop long (drop 8 bs)))
    (record { place = p; bytes = take k (drop 8 bs) }) (ranges_in size n (drop k (drop 8 bs))) (begins_inside size p k (length bs - 8)) h (λ rest. no_fault size n (at + 8 + k) (drop k (drop 8 bs)) rest)

-- ---- the log

told_well : (t u : Bool) (fault : Option ℕ) (o : Option (List Range)) → (if t then (if u then fault else Some (log_place + 4)) else Some log_place) ≡ None → (fault ≡ None → IsSome o) → IsSome (cond (t && u) o None)
told_well true true fault o h k = k h
told_well true false fault o h k = absurd (let no : ⊥ = cc in no)
told_well false u fault o h k = absurd (let no : ⊥ = cc in no)

was_well : (t u : Bool) (fault : Option ℕ) (o : Option (List Range)) → IsSome (cond (t && u) o None) → (IsSome o → fault ≡ None) → (if t then (if u then fault else Some (log_place + 4)) else Some log_place) ≡ None
was_well true true fault o h k = k h
was_well true false fault o h k = absurd (let no : ⊥ = cc in no)
was_well false u fault o h k = absurd (let no : ⊥ = cc in no)

log_well : (size : ℕ) (f : Image) → log_fault size f ≡ None → IsSome (log_in size f)
unfolding log_fault log_in
log_well size f h =
    told_well (leb (logged_count f) most_ranges) (leb (logged_length f) (8 * logged_count f + most_bytes)) _ (ranges_in size (logged_count f) (bytes_at f (log_place + 8) (logged_length f))) h
    (λ k. well_formed size (logged_count f) (log_place + 8) (bytes_at f (log_place + 8) (logged_length f)) k)

log_faultless : (size : ℕ) (f : Image) → IsSome (log_in size f) → log_fault size f ≡ None
unfolding log_fault log_in
log_faultless size f h =
    was_well (leb (logged_count f) most_ranges) (leb (logged_length f) (8 * logged_count f + most_bytes)) _ (ranges_in size (logged_count f) (bytes_at f (log_place + 8) (logged_length f))) h
    (λ k. no_fault size (logged_count f) (log_place + 8) (bytes_at f (log_place + 8) (logged_length f)) k)

pub judged : LogsAreJudged
unfolding open_fault
judged size f = (by (f gate == 0) refl, back (f gate == 0) refl)
  where
    by : (t : Bool) → (f gate == 0) ≡ t → cond (f gate == 0) None (log_fault size f) ≡ None → IsAttachable size f
    by true e h ajar = absurd (ajar (grind (arith, nat_tests, e)))
    by false e h ajar = log_well size f (rw e at h)

    back : (t : Bool) → (f gate == 0) ≡ t → IsAttachable size f → cond (f gate == 0) None (log_fault size f) ≡ None
    back true e h = rw e refl
    back false e h = rw e (log_faultless size f (h (λ z. let no : ⊥ = grind (arith, nat_tests, e, z) in no)))
