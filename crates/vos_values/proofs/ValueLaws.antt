-- Values are read back exactly.
use Rattle.std.proofs.Common.{◌≡◌, ℕ, ◌+◌, ◌<◌, ◌^◌, ◌==◌, ◌&&◌, Bool, true, false, List, [], ◌∷◌, ◌++◌, Some, drop, refl, ap, ◌∙◌, subst, arith}
use Rattle.std.proofs.lemmas.Bool.Decides.{nat_tests}
use Rattle.byteorder.specs.Endian.{big_bytes, big_number}
use Rattle.pmem_pages.specs.declared.node.Value.{Value}
use Rattle.pmem_pages.specs.Node.{value_len}
use Rattle.vos_values.specs.declared.values.Roots.{Roots}
use Rattle.vos_values.specs.declared.values.AkeyRoots.{AkeyRoots}
use Rattle.vos_values.specs.declared.values.LogMark.{LogMark}
use Rattle.vos_values.specs.declared.values.VersionMark.{VersionMark}
use Rattle.vos_values.specs.declared.values.EntryMark.{EntryMark}
use Rattle.vos_values.specs.Fields.{AllFit, AreBytes, IsByteValue, IsExact, fields_at, packed, padded, value_of}
use Rattle.vos_values.specs.Keys.{IsAttempt, attempt_at}
use Rattle.vos_values.specs.Values.{IsAkeyRoots, IsEntryMark, IsLogMark, IsRoots, IsVersionMark, akey_fields, akey_in, akey_value, entry_fields, entry_in, entry_value, is_chain_for, is_length, is_state, log_fields, log_in, log_value, roots_fields, roots_in, roots_value, state_of, version_fields, version_in, version_value}
use Rattle.vos_values.proofs.Reading.{chosen_again, chosen_is, chosen_test, fields_again, first_holds, fits_in, number_no, packed_back, then_holds, value_back}
use Rattle.vos_values.proofs.KeyLaws.{same_true}

-- ---- roots

roots_fit : (r : Roots) → IsRoots r → AllFit (roots_fields r)
roots_fit r h = (omega arith, h.log, (omega arith, h.below, tt))

roots_again : (r : Roots) → IsRoots r → roots_in (roots_value r) ≡ Some r
unfolding roots_in roots_value value_of
roots_again x h =
    let p = fields_again 180 (roots_fields x) (roots_fit x h) in
    let bs = padded 180 (packed (roots_fields x)) in
    let a : big_number 4 bs ≡ x.log = ap (number_no 0) p in
    let b : big_number 4 (drop 4 bs) ≡ x.below = ap (number_no 1) p in
    ap (λ z. Some z) (λ i. record { log = a i; below = b i })

roots_back : (v : Value) (r : Roots) → IsByteValue 1 v → roots_in v ≡ Some r → IsRoots r × (roots_value r ≡ v)
unfolding roots_in roots_value
roots_back v x h e =
    let len = same_true v.len 8 (chosen_test _ _ x e) in
    let text = packed_back (4 ∷ 4 ∷ []) 0 v.bytes h.are_bytes (omega (arith, h.value.room)) in
    subst (λ z. IsRoots z × (value_of (packed (roots_fields z)) ≡ v)) (chosen_is _ _ x e)
    (record { log = fits_in 4 0 v.bytes h.are_bytes; below = fits_in 4 4 v.bytes h.are_bytes }, value_back 1 v _ 8 h.value (omega arith) len text)

pub roots_exact : IsExact (IsByteValue 1) IsRoots roots_value roots_in
roots_exact = record { again = roots_again; back = roots_back }

akey_fit : (r : AkeyRoots) → IsAkeyRoots r → AllFit (akey_fields r)
akey_fit r h = (omega arith, h.log, (omega arith, h.singles, (omega arith, h.extents, tt)))

akey_again : (r : AkeyRoots) → IsAkeyRoots r → akey_in (akey_value r) ≡ Some r
unfolding akey_in akey_value value_of
akey_again x h =
    let p = fields_again 180 (akey_fields x) (akey_fit x h) in
    let bs = padded 180 (packed (akey_fields x)) in
    let a : big_number 4 bs ≡ x.log = ap (number_no 0) p in
    let b : big_number 4 (drop 4 bs) ≡ x.singles = ap (number_no 1) p in
    let d : big_number 4 (drop 8 bs) ≡ x.extents = ap (number_no 2) p in
    ap (λ z. Some z) (λ i. record { log = a i; singles = b i; extents = d i })

akey_back : (v : Value) (r : AkeyRoots) → IsByteValue 3 v → akey_in v ≡ Some r → IsAkeyRoots r × (akey_value r ≡ v)
unfolding akey_in akey_value
akey_back v x h e =
    let len = same_true v.len 12 (chosen_test _ _ x e) in
    let text = packed_back (4 ∷ 4 ∷ 4 ∷ []) 0 v.bytes h.are_bytes (omega (arith, h.value.room)) in
    subst (λ z. IsAkeyRoots z × (value_of (packed (akey_fields z)) ≡ v)) (chosen_is _ _ x e)
    (record { log = fits_in 4 0 v.bytes h.are_bytes; singles = fits_in 4 4 v.bytes h.are_bytes; extents = fits_in 4 8 v.bytes h.are_bytes }, value_back 3 v _ 12 h.value (omega arith) len text)

pub akeys_exact : IsExact (IsByteValue 3) IsAkeyRoots akey_value akey_in
akeys_exact = record { again = akey_again; back = akey_back }

-- ---- states

state_fits : (b : Bool) → state_of b < 256 ^ 1
state_fits true = omega arith
state_fits false = omega arith

state_is : (n : ℕ) (b : Bool) → n ≡ state_of b → is_state n ≡ true
state_is n true e = rw e refl
state_is n false e = rw e refl

state_again : (n : ℕ) (b : Bool) → n ≡ state_of b → (n == 2) ≡ b
state_again n true e = rw e refl
state_again n false e = rw e refl

state_back : (n : ℕ) → is_state n ≡ true → state_of (n == 2) ≡ n
state_back n h = grind (arith, nat_tests)

-- the attempt in bytes is in range
attempt_fits : (at : ℕ) (bs : List ℕ) → AreBytes bs → IsAttempt (attempt_at at bs)
attempt_fits at bs h = record { client = fits_in 2 at bs h; command = fits_in 4 (at + 2) bs h; attempt = fits_in 1 (at + 6) bs h }

both_true : (a b : Bool) → a ≡ true → b ≡ true → (a && b) ≡ true
both_true a b p q = rw (p, q) refl

-- ---- log entries

log_fit : (m : LogMark) → IsLogMark m → AllFit (log_fields m)
log_fit m h = (omega arith, state_fits m.punch, (omega arith, state_fits m.done, (omega arith, h.by.client, (omega arith, h.by.command, (omega arith, h.by.attempt, tt)))))

log_again : (m : LogMark) → IsLogMark m → log_in (log_value m) ≡ Some m
unfolding log_in log_value value_of
log_again x h =
    let p = fields_again 180 (log_fields x) (log_fit x h) in
    let bs = padded 180 (packed (log_fields x)) in
    let a : big_number 1 bs ≡ state_of x.punch = ap (number_no 0) p in
    let b : big_number 1 (drop 1 bs) ≡ state_of x.done = ap (number_no 1) p in
    let d : big_number 2 (drop 2 bs) ≡ x.by.client = ap (number_no 2) p in
    let e : big_number 4 (drop 4 bs) ≡ x.by.command = ap (number_no 3) p in
    let f : big_number 1 (drop 8 bs) ≡ x.by.attempt = ap (number_no 4) p in
    chosen_again (is_state (big_number 1 bs) && is_state (big_number 1 (drop 1 bs))) _ x
    (both_true (is_state (big_number 1 bs)) (is_state (big_number 1 (drop 1 bs))) (state_is _ x.punch a) (state_is _ x.done b))
    (λ i. record { punch = state_again _ x.punch a i; done = state_again _ x.done b i; by = record { client = d i; command = e i; attempt = f i } })

log_back : (v : Value) (m : LogMark) → IsByteValue 4 v → log_in v ≡ Some m → IsLogMark m × (log_value m ≡ v)
unfolding log_in log_value
log_back v x h e =
    let n = big_number 1 v.bytes in
    let o = big_number 1 (drop 1 v.bytes) in
    let test = chosen_test (((v.len == 9) && is_state n) && is_state o) _ x e in
    let front = first_holds ((v.len == 9) && is_state n) (is_state o) test in
    let len = same_true v.len 9 (first_holds (v.len == 9) (is_state n) front) in
    let a = state_back n (then_holds (v.len == 9) (is_state n) front) in
    let b = state_back o (then_holds ((v.len == 9) && is_state n) (is_state o) test) in
    let rest = packed (fields_at 2 (2 ∷ 4 ∷ 1 ∷ []) v.bytes) in
    let text = packed_back (1 ∷ 1 ∷ 2 ∷ 4 ∷ 1 ∷ []) 0 v.bytes h.are_bytes (omega (arith, h.value.room)) in
    let same : big_bytes 1 (state_of (n == 2)) ++ (big_bytes 1 (state_of (o == 2)) ++ rest) ≡ big_bytes 1 n ++ (big_bytes 1 o ++ rest) =
    ap (λ k. big_bytes 1 k ++ (big_bytes 1 (state_of (o == 2)) ++ rest)) a ∙ ap (λ k. big_bytes 1 n ++ (big_bytes 1 k ++ rest)) b in
    subst (λ z. IsLogMark z × (value_of (packed (log_fields z)) ≡ v)) (chosen_is _ _ x e)
    (record { by = attempt_fits 2 v.bytes h.are_bytes }, value_back 4 v _ 9 h.value (omega arith) len (same ∙ text))

pub logs_exact : IsExact (IsByteValue 4) IsLogMark log_value log_in
logs_exact = record { again = log_again; back = log_back }

-- ---- versions

length_fits : (n : ℕ) → is_length n ≡ true → n < 256 ^ 2
length_fits n h = grind (arith, nat_tests)

version_fit : (m : VersionMark) → IsVersionMark m → AllFit (version_fields m)
version_fit m h = (omega arith, state_fits m.done, (omega arith, h.by.client, (omega arith, h.by.command, (omega arith, h.by.attempt, (omega arith, length_fits m.length h.length, (omega arith, h.chain, tt))))))

version_again : (m : VersionMark) → IsVersionMark m → version_in (version_value m) ≡ Some m
unfolding version_in version_value value_of
version_again x h =
    let p = fields_again 180 (version_fields x) (version_fit x h) in
    let bs = padded 180 (packed (version_fields x)) in
    let a : big_number 1 bs ≡ state_of x.done = ap (number_no 0) p in
    let b : big_number 2 (drop 1 bs) ≡ x.by.client = ap (number_no 1) p in
    let d : big_number 4 (drop 3 bs) ≡ x.by.command = ap (number_no 2) p in
    let e : big_number 1 (drop 7 bs) ≡ x.by.attempt = ap (number_no 3) p in
    let f : big_number 2 (drop 8 bs) ≡ x.length = ap (number_no 4) p in
    let g : big_number 4 (drop 10 bs) ≡ x.chain = ap (number_no 5) p in
    chosen_again (is_state (big_number 1 bs) && is_length (big_number 2 (drop 8 bs))) _ x
    (both_true (is_state (big_number 1 bs)) (is_length (big_number 2 (drop 8 bs))) (state_is _ x.done a) (ap is_length f ∙ h.length))
    (λ i. record { done = state_again _ x.done a i; by = record { client = b i; command = d i; attempt = e i }; length = f i; chain = g i })

version_back : (kind : ℕ) → value_len kind ≡ 14 → (v : Value) (m : VersionMark) → IsByteValue kind v → version_in v ≡ Some m → IsVersionMark m × (version_value m ≡ v)
unfolding version_in version_value
version_back kind fits v x h e =
    let n = big_number 1 v.bytes in
    let l = is_length (big_number 2 (drop 8 v.bytes)) in
    let test = chosen_test (((v.len == 14) && is_state n) && l) _ x e in
    let front = first_holds ((v.len == 14) && is_state n) l test in
    let len = same_true v.len 14 (first_holds (v.len == 14) (is_state n) front) in
    let a = state_back n (then_holds (v.len == 14) (is_state n) front) in
    let rest = packed (fields_at 1 (2 ∷ 4 ∷ 1 ∷ 2 ∷ 4 ∷ []) v.bytes) in
    let text = packed_back (1 ∷ 2 ∷ 4 ∷ 1 ∷ 2 ∷ 4 ∷ []) 0 v.bytes h.are_bytes (omega (arith, h.value.room)) in
    let same : big_bytes 1 (state_of (n == 2)) ++ rest ≡ big_bytes 1 n ++ rest = ap (λ k. big_bytes 1 k ++ rest) a in
    subst (λ z. IsVersionMark z × (value_of (packed (version_fields z)) ≡ v)) (chosen_is _ _ x e)
    (record { by = attempt_fits 1 v.bytes h.are_bytes; length = then_holds ((v.len == 14) && is_state n) l test; chain = fits_in 4 10 v.bytes h.are_bytes }, value_back kind v _ 14 h.value (omega arith) len (same ∙ text))

pub singles_exact : IsExact (IsByteValue 5) IsVersionMark version_value version_in
singles_exact = record { again = version_again; back = version_back 5 refl }

pub extents_exact : IsExact (IsByteValue 6) IsVersionMark version_value version_in
extents_exact = record { again = version_again; back = version_back 6 refl }

-- ---- entries

entry_fit : (m : EntryMark) → IsEntryMark m → AllFit (entry_fields m)
entry_fit m h = (omega arith, state_fits m.committed, (omega arith, h.leader, (omega arith, h.members, (omega arith, h.confirmed, (omega arith, h.epoch, (omega arith, h.chain, tt))))))

entry_again : (m : EntryMark) → IsEntryMark m → entry_in (entry_value m) ≡ Some m
unfolding entry_in entry_value value_of
entry_again x h =
    let p = fields_again 180 (entry_fields x) (entry_fit x h) in
    let bs = padded 180 (packed (entry_fields x)) in
    let a : big_number 1 bs ≡ state_of x.committed = ap (number_no 0) p in
    let b : big_number 1 (drop 1 bs) ≡ x.leader = ap (number_no 1) p in
    let d : big_number 8 (drop 2 bs) ≡ x.members = ap (number_no 2) p in
    let e : big_number 8 (drop 10 bs) ≡ x.confirmed = ap (number_no 3) p in
    let f : big_number 8 (drop 18 bs) ≡ x.epoch.0 = ap (number_no 4) p in
    let g : big_number 4 (drop 26 bs) ≡ x.chain = ap (number_no 5) p in
    let s = state_again (big_number 1 bs) x.committed a in
    let listed : is_chain_for (big_number 1 bs == 2) (big_number 4 (drop 26 bs)) ≡ true = ap (λ z. is_chain_for z (big_number 4 (drop 26 bs))) s ∙ (ap (is_chain_for x.committed) g ∙ h.listed) in
    chosen_again (is_state (big_number 1 bs) && is_chain_for (big_number 1 bs == 2) (big_number 4 (drop 26 bs))) _ x
    (both_true (is_state (big_number 1 bs)) (is_chain_for (big_number 1 bs == 2) (big_number 4 (drop 26 bs))) (state_is _ x.committed a) listed)
    (λ i. record { committed = s i; leader = b i; members = d i; confirmed = e i; epoch = record { 0 = f i }; chain = g i })

entry_back : (v : Value) (m : EntryMark) → IsByteValue 7 v → entry_in v ≡ Some m → IsEntryMark m × (entry_value m ≡ v)
unfolding entry_in entry_value
entry_back v x h e =
    let n = big_number 1 v.bytes in
    let l = is_chain_for (n == 2) (big_number 4 (drop 26 v.bytes)) in
    let test = chosen_test (((v.len == 30) && is_state n) && l) _ x e in
    let front = first_holds ((v.len == 30) && is_state n) l test in
    let len = same_true v.len 30 (first_holds (v.len == 30) (is_state n) front) in
    let a = state_back n (then_holds (v.len == 30) (is_state n) front) in
    let rest = packed (fields_at 1 (1 ∷ 8 ∷ 8 ∷ 8 ∷ 4 ∷ []) v.bytes) in
    let text = packed_back (1 ∷ 1 ∷ 8 ∷ 8 ∷ 8 ∷ 4 ∷ []) 0 v.bytes h.are_bytes (omega (arith, h.value.room)) in
    let same : big_bytes 1 (state_of (n == 2)) ++ rest ≡ big_bytes 1 n ++ rest = ap (λ k. big_bytes 1 k ++ rest) a in
    subst (λ z. IsEntryMark z × (value_of (packed (entry_fields z)) ≡ v)) (chosen_is _ _ x e) (
      record { leader = fits_in 1 1 v.bytes h.are_bytes; members = fits_in 8 2 v.bytes h.are_bytes; confirmed = fits_in 8 10 v.bytes h.are_bytes; epoch = fits_in 8 18 v.bytes h.are_bytes; chain = fits_in 4 26 v.bytes h.are_bytes; listed = then_holds ((v.len == 30) && is_state n) l test },
      value_back 7 v _ 30 h.value (omega arith) len (same ∙ text),
    )

pub entries_exact : IsExact (IsByteValue 7) IsEntryMark entry_value entry_in
entries_exact = record { again = entry_again; back = entry_back }
