-- Keys are read back exactly, and lie to one another as what they say does.
use Rattle.std.proofs.Common.{◌≡◌, ℕ, ◌<◌, ◌≤◌, ◌==◌, nat_lt, Bool, true, false, List, [], ◌∷◌, Option, Some, None, length, drop, refl, ap, ◌∙◌, subst, arith}
use Rattle.std.specs.Prelude.{if◌then◌else◌, is_none}
use Rattle.std.proofs.lemmas.Bool.Decides.{nat_tests}
use Rattle.std.proofs.lemmas.List.{take_at}
use Rattle.std.specs.Ordering.{nat_cmp}
use Rattle.std.specs.Cmp.Lexicographic.{slice_cmp}
use Rattle.byteorder.specs.Endian.{big_number}
use Rattle.std.specs.Option.{option_map}
use Rattle.base_types.specs.Keys.{first_bad_byte, key_fault}
use Rattle.base_types.specs.declared.key.KeyNo.TheVariants.{Empty, TooLong, BadByte}
use Rattle.base_types.specs.declared.id.AttemptId.{AttemptId}
use Rattle.pmem_pages.specs.declared.node.TreeKey.{TreeKey}
use Rattle.pmem_pages.specs.Node.{IsKey, key_cmp, key_text}
use Rattle.vos_values.specs.declared.keys.Moment.{Moment}
use Rattle.vos_values.specs.declared.keys.ExtentKey.{ExtentKey}
use Rattle.vos_values.specs.Fields.{AllFit, HasOrder, IsByteKey, IsExact, key_of, numbers_of, packed, padded}
use Rattle.vos_values.specs.Keys.{IsAttempt, IsName, name_in, name_key, IsExtentKey, IsMoment, attempt_fields, attempt_in, attempt_key, extent_fields, extent_in, extent_key, moment_fields, moment_in, moment_key}
use Rattle.vos_values.proofs.Orders.{packed_cmp}
use Rattle.vos_values.proofs.Reading.{chosen_again, chosen_is, chosen_test, fields_again, first_holds, fits_in, key_back, key_of_is, number_no, packed_back, then_holds}

pub below_true : (a b : ℕ) → a < b → nat_lt a b ≡ true
below_true a b h = grind (arith, nat_tests)

pub true_below : (a b : ℕ) → nat_lt a b ≡ true → a < b
true_below a b h = grind (arith, nat_tests)

pub same_true : (a b : ℕ) → (a == b) ≡ true → a ≡ b
same_true a b h = grind (arith, nat_tests)

-- keys lie to one another as their texts do
text_again : (text : List ℕ) → key_text (key_of text) ≡ text
unfolding key_of
text_again text = take_at text _ (length text) refl

pub keys_cmp : (xs ys : List ℕ) → key_cmp (key_of xs) (key_of ys) ≡ slice_cmp nat_cmp xs ys
unfolding key_cmp
keys_cmp xs ys = ap (λ z. slice_cmp nat_cmp z (key_text (key_of ys))) (text_again xs) ∙ ap (slice_cmp nat_cmp xs) (text_again ys)

-- ---- moments

moment_fit : (m : Moment) → IsMoment m → AllFit (moment_fields m)
moment_fit m h = (omega arith, h.epoch, (omega arith, let k = h.minor in omega arith, tt))

moment_again : (m : Moment) → IsMoment m → moment_in (moment_key m) ≡ Some m
unfolding moment_in moment_key key_of
moment_again m h =
    let p = fields_again 64 (moment_fields m) (moment_fit m h) in
    let bs = padded 64 (packed (moment_fields m)) in
    let a : big_number 8 bs ≡ m.epoch.0 = ap (number_no 0) p in
    let b : big_number 1 (drop 8 bs) ≡ m.minor = ap (number_no 1) p in
    chosen_again (nat_lt (big_number 1 (drop 8 bs)) 64) _ m (ap (λ z. nat_lt z 64) b ∙ below_true m.minor 64 h.minor)
    (λ i. record { epoch = record { 0 = a i }; minor = b i })

moment_back : (k : TreeKey) (m : Moment) → IsByteKey k → moment_in k ≡ Some m → IsMoment m × (moment_key m ≡ k)
unfolding moment_in moment_key
moment_back k m h e =
    let test = chosen_test _ _ m e in
    let is = chosen_is _ _ m e in
    let len = same_true k.len 9 (first_holds (k.len == 9) _ test) in
    let low = true_below _ 64 (then_holds (k.len == 9) _ test) in
    let text = packed_back (8 ∷ 1 ∷ []) 0 k.bytes h.are_bytes (omega (arith, h.key.room)) in
    subst (λ z. IsMoment z × (key_of (packed (moment_fields z)) ≡ k)) is
    (record { epoch = fits_in 8 0 k.bytes h.are_bytes; minor = low }, key_back k _ 9 h.key len text)

pub moments_exact : IsExact IsByteKey IsMoment moment_key moment_in
moments_exact = record { again = moment_again; back = moment_back }

pub moments_order : HasOrder IsMoment moment_key (λ m. numbers_of (moment_fields m))
unfolding moment_key
moments_order a b ha hb = keys_cmp (packed (moment_fields a)) (packed (moment_fields b)) ∙ packed_cmp (moment_fields a) (moment_fields b) (moment_fit a ha) (moment_fit b hb) (refl, (refl, tt))

-- ---- extents

extent_fit : (x : ExtentKey) → IsExtentKey x → AllFit (extent_fields x)
extent_fit x h = (omega arith, h.low, (omega arith, h.epoch, (omega arith, let k = h.minor in omega arith, tt)))

extent_again : (x : ExtentKey) → IsExtentKey x → extent_in (extent_key x) ≡ Some x
unfolding extent_in extent_key key_of
extent_again x h =
    let p = fields_again 64 (extent_fields x) (extent_fit x h) in
    let bs = padded 64 (packed (extent_fields x)) in
    let a : big_number 4 bs ≡ x.low = ap (number_no 0) p in
    let b : big_number 8 (drop 4 bs) ≡ x.epoch.0 = ap (number_no 1) p in
    let d : big_number 1 (drop 12 bs) ≡ x.minor = ap (number_no 2) p in
    chosen_again (nat_lt (big_number 1 (drop 12 bs)) 64) _ x (ap (λ z. nat_lt z 64) d ∙ below_true x.minor 64 h.minor)
    (λ i. record { low = a i; epoch = record { 0 = b i }; minor = d i })

extent_back : (k : TreeKey) (x : ExtentKey) → IsByteKey k → extent_in k ≡ Some x → IsExtentKey x × (extent_key x ≡ k)
unfolding extent_in extent_key
extent_back k x h e =
    let test = chosen_test _ _ x e in
    let is = chosen_is _ _ x e in
    let len = same_true k.len 13 (first_holds (k.len == 13) _ test) in
    let low = true_below _ 64 (then_holds (k.len == 13) _ test) in
    let text = packed_back (4 ∷ 8 ∷ 1 ∷ []) 0 k.bytes h.are_bytes (omega (arith, h.key.room)) in
    subst (λ z. IsExtentKey z × (key_of (packed (extent_fields z)) ≡ k)) is
    (record { low = fits_in 4 0 k.bytes h.are_bytes; epoch = fits_in 8 4 k.bytes h.are_bytes; minor = low }, key_back k _ 13 h.key len text)

pub extents_exact : IsExact IsByteKey IsExtentKey extent_key extent_in
extents_exact = record { again = extent_again; back = extent_back }

pub extents_order : HasOrder IsExtentKey extent_key (λ x. numbers_of (extent_fields x))
unfolding extent_key
extents_order a b ha hb = keys_cmp (packed (extent_fields a)) (packed (extent_fields b)) ∙ packed_cmp (extent_fields a) (extent_fields b) (extent_fit a ha) (extent_fit b hb) (refl, (refl, (refl, tt)))

-- ---- attempts

attempt_fit : (a : AttemptId) → IsAttempt a → AllFit (attempt_fields a)
attempt_fit a h = (omega arith, h.client, (omega arith, h.command, (omega arith, h.attempt, tt)))

attempt_again : (a : AttemptId) → IsAttempt a → attempt_in (attempt_key a) ≡ Some a
unfolding attempt_in attempt_key key_of
attempt_again x h =
    let p = fields_again 64 (attempt_fields x) (attempt_fit x h) in
    let bs = padded 64 (packed (attempt_fields x)) in
    let a : big_number 2 bs ≡ x.client = ap (number_no 0) p in
    let b : big_number 4 (drop 2 bs) ≡ x.command = ap (number_no 1) p in
    let d : big_number 1 (drop 6 bs) ≡ x.attempt = ap (number_no 2) p in
    ap (λ z. Some z) (λ i. record { client = a i; command = b i; attempt = d i })

attempt_back : (k : TreeKey) (a : AttemptId) → IsByteKey k → attempt_in k ≡ Some a → IsAttempt a × (attempt_key a ≡ k)
unfolding attempt_in attempt_key
attempt_back k x h e =
    let test = chosen_test _ _ x e in
    let is = chosen_is _ _ x e in
    let len = same_true k.len 7 test in
    let text = packed_back (2 ∷ 4 ∷ 1 ∷ []) 0 k.bytes h.are_bytes (omega (arith, h.key.room)) in
    subst (λ z. IsAttempt z × (key_of (packed (attempt_fields z)) ≡ k)) is
    (record { client = fits_in 2 0 k.bytes h.are_bytes; command = fits_in 4 2 k.bytes h.are_bytes; attempt = fits_in 1 6 k.bytes h.are_bytes }, key_back k _ 7 h.key len text)

pub attempts_exact : IsExact IsByteKey IsAttempt attempt_key attempt_in
attempts_exact = record { again = attempt_again; back = attempt_back }

pub attempts_order : HasOrder IsAttempt attempt_key (λ a. numbers_of (attempt_fields a))
unfolding attempt_key
attempts_order a b ha hb = keys_cmp (packed (attempt_fields a)) (packed (attempt_fields b)) ∙ packed_cmp (attempt_fields a) (attempt_fields b) (attempt_fit a ha) (attempt_fit b hb) (refl, (refl, (refl, tt)))

-- ---- names

name_long : (bytes : List ℕ) → IsName bytes → length bytes ≤ 64
name_long bytes h = by (length bytes == 0) (nat_lt 64 (length bytes)) refl h
  where
    by : (s t : Bool) → nat_lt 64 (length bytes) ≡ t → (if s then Some Empty else if t then Some TooLong else option_map (λ place. BadByte place) (first_bad_byte bytes)) ≡ None → length bytes ≤ 64
    by true t e n = absurd (cc)
    by false true e n = absurd (cc)
    by false false e n = grind (arith, nat_tests)

none_true : {A : Type 0} (x : Option A) → x ≡ None → is_none x ≡ true
none_true None h = refl
none_true (Some x) h = absurd (cc)

true_none : {A : Type 0} (x : Option A) → is_none x ≡ true → x ≡ None
true_none None h = refl
true_none (Some x) h = absurd (cc)

name_again : (bytes : List ℕ) → IsName bytes → name_in (name_key bytes) ≡ Some bytes
unfolding name_in name_key
name_again bytes h =
    let t = text_again bytes in
    chosen_again (is_none (key_fault (key_text (key_of bytes)))) _ bytes (ap (λ z. is_none (key_fault z)) t ∙ none_true (key_fault bytes) h) t

name_back : (k : TreeKey) (bytes : List ℕ) → IsByteKey k → name_in k ≡ Some bytes → IsName bytes × (name_key bytes ≡ k)
unfolding name_in name_key
name_back k bytes h e =
    let test = chosen_test _ _ bytes e in
    let is = chosen_is _ _ bytes e in
    subst (λ z. IsName z × (key_of z ≡ k)) is (true_none (key_fault (key_text k)) test, key_back k (key_text k) k.len h.key refl refl)

pub names_exact : IsExact IsByteKey IsName name_key name_in
names_exact = record { again = name_again; back = name_back }

pub names_order : HasOrder IsName name_key (λ bytes. bytes)
unfolding name_key
names_order a b ha hb = keys_cmp a b

pub name_is_key : (bytes : List ℕ) → IsName bytes → IsKey (name_key bytes)
unfolding name_key
name_is_key bytes h = key_of_is bytes (name_long bytes h)
