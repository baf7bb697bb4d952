-- The places of faults.
use Rattle.std.proofs.Common.{◌≡◌, ◌≢◌, ℕ, zero, suc, ◌+◌, ◌*◌, ◌<◌, ◌≤◌, ◌==◌, leb, true, false, List, [], ◌∷◌, length, get_or, Option, Some, None, Ok, Err, refl, sym, ap, ◌∙◌, arith, subst}
use Rattle.std.specs.Prelude.{IfSome}
use Rattle.std.specs.Option.{unwrap_or}
use Rattle.std.proofs.lemmas.Bool.{ne_eqb}
use Rattle.std.proofs.lemmas.Bool.Decides.{nat_tests}
use Rattle.base_outside.specs.Images.{Image, bytes_at}
use Rattle.pmem_undo.specs.Log.{logged_count, logged_length, number_in}
use Rattle.pmem_undo.specs.Settled.{IsAttachable}
use Rattle.vos_check_base.specs.vos_image.Places.{magic, read_bytes}
use Rattle.vos_check_base.specs.vos_image.Steps.{◌>>=◌, rule}
use Rattle.vos_check_base.specs.declared.refusal.CheckNo.{CheckNo}
use Rattle.vos_check_base.specs.declared.refusal.CheckNo.TheVariants.{Stopped, Foreign, Memory}
use Rattle.vos_check_region.proofs.Judging.{judged}
use Rattle.vos_check_region.specs.Fault.{IsUnshown, Shows, TellsFault, fault_of, judged_first, log_fault, magic_fault, open_fault, ranges_fault, raw_fault}

-- ---- the first eight bytes

first_goes : (f : Image) (at b : ℕ) (bs led : List ℕ) → f at ≡ b → read_bytes f at (b ∷ bs) led ≡ read_bytes f (at + 1) bs led
unfolding ◌>>=◌ rule
first_goes f at b bs led e = let t : (f at == b) ≡ true = grind (arith, nat_tests) in rw t refl

first_stops : (f : Image) (at b : ℕ) (bs led : List ℕ) → f at ≢ b → read_bytes f at (b ∷ bs) led ≡ Err at
unfolding ◌>>=◌ rule
first_stops f at b bs led e = let t : (f at == b) ≡ false = ne_eqb (f at) b e in rw t refl

pub bytes_differ : (f : Image) (at i : ℕ) (bs led : List ℕ) → i < length bs → ((k : ℕ) → k < i → f (at + k) ≡ get_or bs k 0) → f (at + i) ≢ get_or bs i 0 → read_bytes f at bs led ≡ Err (at + i)
bytes_differ f at i [] led low same other = absurd (omega (arith, low))
bytes_differ f at zero (b ∷ bs) led low same other =
    let e : at + 0 ≡ at = omega arith in
    first_stops f at b bs led (λ h. other (ap f e ∙ h)) ∙ ap Err (sym e)
bytes_differ f at (suc i) (b ∷ bs) led low same other =
    let e : at + 0 ≡ at = omega arith in
    let n : at + 1 + i ≡ at + suc i = omega arith in
    first_goes f at b bs led (ap f (sym e) ∙ same 0 (omega arith))
    ∙ (bytes_differ f (at + 1) i bs led (omega (arith, low)) (λ k below. let m : at + 1 + k ≡ at + suc k = omega arith in ap f m ∙ same (suc k) (omega (arith, below))) (λ h. other (ap f (sym n) ∙ h)) ∙ ap Err n)

pub bytes_agree : (f : Image) (at : ℕ) (bs led : List ℕ) → ((k : ℕ) → k < length bs → f (at + k) ≡ get_or bs k 0) → read_bytes f at bs led ≡ Ok (tt, led)
bytes_agree f at [] led same = refl
bytes_agree f at (b ∷ bs) led same =
    let e : at + 0 ≡ at = omega arith in
    first_goes f at b bs led (ap f (sym e) ∙ same 0 (omega arith))
    ∙ bytes_agree f (at + 1) bs led (λ k below. let m : at + 1 + k ≡ at + suc k = omega arith in ap f m ∙ same (suc k) (omega (arith, below)))

byte_of : (f : Image) (n at k : ℕ) → k < n → get_or (bytes_at f at n) k 0 ≡ f (at + k)
unfolding bytes_at
byte_of f zero at k low = absurd (omega arith)
byte_of f (suc n) at zero low = ap f (omega arith)
byte_of f (suc n) at (suc k) low = byte_of f n (at + 1) k (omega arith) ∙ ap f (omega arith)

byte_read : (f : Image) (bytes : List ℕ) (k : ℕ) → bytes ≡ bytes_at f 0 8 → k < 8 → f (0 + k) ≡ get_or bytes k 0
byte_read f bytes k is low = sym (ap (λ (z : List ℕ). get_or z k 0) is ∙ byte_of f 8 0 k low)

pub magic_differs : (f : Image) (bytes : List ℕ) (i : ℕ) → bytes ≡ bytes_at f 0 8 → i < 8 → ((k : ℕ) → k < i → get_or bytes k 0 ≡ get_or magic k 0) → get_or bytes i 0 ≢ get_or magic i 0 → magic_fault f ≡ Some i
unfolding magic_fault
magic_differs f bytes i is low same other =
    let e : 0 + i ≡ i = omega arith in
    ap fault_of (bytes_differ f 0 i magic [] low (λ k below. byte_read f bytes k is (omega (arith, low, below)) ∙ same k below) (λ h. other (sym (byte_read f bytes i is low) ∙ h))) ∙ ap Some e

pub magic_agrees : (f : Image) (bytes : List ℕ) → bytes ≡ bytes_at f 0 8 → ((k : ℕ) → k < 8 → get_or bytes k 0 ≡ get_or magic k 0) → magic_fault f ≡ None
unfolding magic_fault
magic_agrees f bytes is same = ap fault_of (bytes_agree f 0 magic [] (λ k below. byte_read f bytes k is below ∙ same k below))

-- ---- the log

pub many_ranges : (size count : ℕ) (f : Image) → count ≡ number_in (bytes_at f 36864 4) → 1024 < count → log_fault size f ≡ Some 36864
unfolding log_fault logged_count
many_ranges size count f one h = let t : leb count 1024 ≡ false = grind (arith, nat_tests) in rw (← one, t) refl

pub many_bytes : (size count long : ℕ) (f : Image) → count ≡ number_in (bytes_at f 36864 4) → long ≡ number_in (bytes_at f 36868 4) → count ≤ 1024 → 8 * count + 256000 < long → log_fault size f ≡ Some 36868
unfolding log_fault logged_count logged_length
many_bytes size count long f one two few h =
    let t : leb count 1024 ≡ true = grind (arith, nat_tests) in
    let u : leb long (8 * count + 256000) ≡ false = grind (arith, nat_tests) in
    rw (← one, ← two, t, u) refl

pub ranges_judged : (size count long : ℕ) (f : Image) (body : List ℕ) → count ≡ number_in (bytes_at f 36864 4) → long ≡ number_in (bytes_at f 36868 4) → count ≤ 1024 → long ≤ 8 * count + 256000 → body ≡ bytes_at f 36872 long
    → log_fault size f ≡ ranges_fault size count 36872 body
unfolding log_fault logged_count logged_length
ranges_judged size count long f body one two few short is =
    let t : leb count 1024 ≡ true = grind (arith, nat_tests) in
    let u : leb long (8 * count + 256000) ≡ true = grind (arith, nat_tests) in
    rw (← one, ← two, t, u, is) refl

-- ---- the region

pub closed_faultless : (size : ℕ) (f : Image) (b : ℕ) → b ≡ f 32768 → b ≡ 0 → raw_fault size f ≡ None
unfolding raw_fault open_fault
closed_faultless size f b is none = let e : f 32768 ≡ 0 = sym is ∙ none in rw e refl

ajar : (size : ℕ) (f : Image) (b : ℕ) → b ≡ f 32768 → b ≢ 0 → open_fault size f ≡ log_fault size f
unfolding open_fault
ajar size f b is some = let e : (f 32768 == 0) ≡ false = ne_eqb (f 32768) 0 (λ h. some (is ∙ h)) in rw e refl

pub raw_is : (size : ℕ) (f : Image) (b : ℕ) (fault first : Option ℕ) → b ≡ f 32768 → b ≢ 0 → log_fault size f ≡ fault → magic_fault f ≡ first → raw_fault size f ≡ judged_first fault first
unfolding raw_fault
raw_is size f b fault first is some log magic = let e = ajar size f b is some in rw (e, log, magic) refl

pub log_raw : (size : ℕ) (f : Image) (b : ℕ) → b ≡ f 32768 → b ≢ 0 → log_fault size f ≡ None → raw_fault size f ≡ None
unfolding raw_fault
log_raw size f b is some log = let e = ajar size f b is some in rw (e, log) refl

judged_well : (fault first : Option ℕ) → judged_first fault first ≡ None → fault ≡ None
judged_well None first h = refl
judged_well (Some at) first h = absurd (let no : ⊥ = cc in no)

pub raw_well : (size : ℕ) (f : Image) → raw_fault size f ≡ None → open_fault size f ≡ None
unfolding raw_fault
raw_well size f h = judged_well (open_fault size f) (magic_fault f) h

-- the byte at the place of a fault is shown
pub told_by : (fault : Option ℕ) (f h : Image) (place : ℕ) (e : CheckNo) → h ≡ f → fault ≡ Some place → Shows place h e → TellsFault fault f (Err e)
told_by fault f h place (Foreign at byte) same is x = (is ∙ ap Some (sym x.0), x.1 ∙ ap (λ (z : Image). z at) same)
told_by fault f h place Stopped same is x = tt
told_by fault f h place Memory same is x = absurd x

-- nothing is shown
pub told_none : (fault : Option ℕ) (f : Image) (e : CheckNo) → IsUnshown e → TellsFault fault f (Err e)
told_none fault f (Foreign at byte) h = absurd h
told_none fault f Stopped h = tt
told_none fault f Memory h = tt

-- a place in a region, or one of the first eight
pub low_by : (o : Option ℕ) (at n : ℕ) → IfSome o (λ i. i < 8) → 8 ≤ n → at < n → unwrap_or o at < n
low_by None at n h big low = low
low_by (Some i) at n h big low = omega (arith, h, big)

pub shows_moved : (f h : Image) (place other : ℕ) (e : CheckNo) → h ≡ f → place ≡ other → Shows place h e → Shows other f e
shows_moved f h place other e same is x = subst (λ (z : Image). Shows other z e) same (subst (λ (n : ℕ). Shows n h e) is x)

pub attaches : (size : ℕ) (f : Image) → raw_fault size f ≡ None → IsAttachable size f
attaches size f h = (judged size f).0 (raw_well size f h)
