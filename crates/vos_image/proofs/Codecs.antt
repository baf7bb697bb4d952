-- What is read of keys and values, field by field, is what they were made of.
use Rattle.std.proofs.Common.{◌≡◌, ◌≢◌, ℕ, ◌+◌, ◌≤◌, ◌==◌, ◌&&◌, ◌||◌, not, nat_le, nat_lt, Bool, true, false, List, length, drop, Option, Some, None, Ok, refl, sym, ap, ◌∙◌, arith}
use Rattle.std.specs.Prelude.{if◌then◌else◌}
use Rattle.std.proofs.lemmas.Bool.{ne_eqb}
use Rattle.std.proofs.lemmas.Bool.Decides.{nat_tests}
use Rattle.byteorder.specs.Endian.{big_number}
use Rattle.base_types.specs.declared.key.KeyNo.{KeyNo}
use Rattle.base_types.specs.declared.key.KeyNo.TheVariants.{Empty, TooLong}
use Rattle.pmem_pages.specs.declared.node.TreeKey.{TreeKey}
use Rattle.pmem_pages.specs.Owners.{times}
use Rattle.vos_values.specs.declared.keys.ExtentKey.{ExtentKey}
use Rattle.vos_values.specs.declared.keys.Layout.{Layout}
use Rattle.vos_values.specs.declared.keys.Layout.TheVariants.{Two}
use Rattle.vos_values.specs.declared.keys.Moment.{Moment}
use Rattle.vos_values.specs.declared.keys.ObjectKey.{ObjectKey}
use Rattle.vos_values.specs.declared.values.AkeyRoots.{AkeyRoots}
use Rattle.vos_values.specs.declared.values.LogMark.{LogMark}
use Rattle.vos_values.specs.declared.values.Roots.{Roots}
use Rattle.vos_values.specs.declared.values.VersionMark.{VersionMark}
use Rattle.vos_values.specs.Fields.{key_of, total, widths_of}
use Rattle.vos_values.specs.Keys.{IsExtentKey, IsMoment, IsName, IsObjectKey, extent_fields, extent_in, extent_key, moment_fields, moment_in, moment_key, name_key, object_fields, object_in, object_key, class_of, has_sizes, is_said_size, is_size, object_of_class, sized_object}
use Rattle.vos_values.specs.Values.{IsAkeyRoots, IsLogMark, IsRoots, IsVersionMark, akey_value, is_state, log_in, log_value, roots_value, version_in, version_value}
use Rattle.vos_values.proofs.KeyLaws.{extents_exact, moments_exact, names_exact}
use Rattle.vos_values.proofs.ObjectLaws.{objects_exact}
use Rattle.vos_values.proofs.Reading.{chosen_is, chosen_test, length_packed}
use Rattle.vos_values.proofs.ValueLaws.{akeys_exact, logs_exact, roots_exact, singles_exact}
use Rattle.vos_image.specs.Steps.{◌>>=◌, rule, says}
use Rattle.vos_image.specs.Content.{Content, is_taken, link}
use Rattle.vos_image.specs.Kinds.{is_class, is_name_length, is_object_length, read_akey_roots, read_extent, read_mark, read_moment, read_name, read_object, read_roots, read_version}
use Rattle.vos_image.proofs.Steps.{Passes, Tally, beside, given, linked, none, root_tally, ruled, said, some_block, go_on}

pub at_most_test : (a b : ℕ) → a ≤ b → nat_le a b ≡ true
at_most_test a b h = grind (arith, nat_tests)

first_of_three : (a b c : Bool) → (a && b && c) ≡ true → a ≡ true
first_of_three true b c h = refl
first_of_three false true c h = let no : ⊥ = cc in absurd no
first_of_three false false c h = let no : ⊥ = cc in absurd no

mid_of_three : (a b c : Bool) → (a && b && c) ≡ true → b ≡ true
mid_of_three true true c h = refl
mid_of_three true false c h = let no : ⊥ = cc in absurd no
mid_of_three false b c h = let no : ⊥ = cc in absurd no

-- ---- keys

pub moment_length : (m : Moment) → (moment_key m).len ≡ 9
unfolding moment_key key_of
moment_length m = length_packed (moment_fields m)

moment_epoch : (m : Moment) → IsMoment m → big_number 8 (moment_key m).bytes ≡ m.epoch.0
unfolding moment_in
moment_epoch m h = let e = chosen_is _ _ m (moments_exact.again m h) in ap (λ (z : Moment). z.epoch.0) e

pub moment_read : (c : Content) (at : ℕ) (m : Moment) → IsMoment m → m.epoch.0 ≤ c.covered → (led : List ℕ) → read_moment c at (moment_key m) led ≡ Ok (m, led)
unfolding ◌>>=◌ rule says
moment_read c at m h low led = rw (moment_epoch m h, at_most_test m.epoch.0 c.covered low, moments_exact.again m h) refl

pub extent_length : (p : ExtentKey) → (extent_key p).len ≡ 13
unfolding extent_key key_of
extent_length p = length_packed (extent_fields p)

extent_epoch : (p : ExtentKey) → IsExtentKey p → big_number 8 (drop 4 (extent_key p).bytes) ≡ p.epoch.0
unfolding extent_in
extent_epoch p h = let e = chosen_is _ _ p (extents_exact.again p h) in ap (λ (z : ExtentKey). z.epoch.0) e

pub extent_read : (c : Content) (at : ℕ) (p : ExtentKey) → IsExtentKey p → p.epoch.0 ≤ c.covered → (led : List ℕ) → read_extent c at (extent_key p) led ≡ Ok (p, led)
unfolding ◌>>=◌ rule says
extent_read c at p h low led = rw (extent_epoch p h, at_most_test p.epoch.0 c.covered low, extents_exact.again p h) refl

pub name_read : (c : Content) (at : ℕ) (name : List ℕ) → IsName name → (led : List ℕ) → read_name c at (name_key name) led ≡ Ok (name, led)
unfolding says
name_read c at name h led = rw (names_exact.again name h) refl

-- ---- values

log_state : (k : LogMark) → IsLogMark k → is_state (big_number 1 (log_value k).bytes) ≡ true
unfolding log_in
log_state k h = mid_of_three _ _ _ (chosen_test _ _ k (logs_exact.again k h))

pub mark_read : (c : Content) (at : ℕ) (m : Moment) (k : LogMark) → IsLogMark k → (led : List ℕ) → read_mark c at m (log_value k) led ≡ Ok (k, led)
unfolding ◌>>=◌ rule says
mark_read c at m k h led =
    let state = log_state k h in
    rw (state, logs_exact.again k h) refl

version_state : (k : VersionMark) → IsVersionMark k → is_state (big_number 1 (version_value k).bytes) ≡ true
unfolding version_in
version_state k h = mid_of_three _ _ _ (chosen_test _ _ k (singles_exact.again k h))

not_zero : (b : ℕ) → b ≢ 0 → not (b == 0) ≡ true
not_zero b ne = let e = ne_eqb b 0 ne in rw e refl

pub version_read : (c : Content) (at : ℕ) (fits : ℕ → Bool) (k : VersionMark) → IsVersionMark k → fits k.length ≡ true → k.chain ≢ 0 → is_taken c k.chain ≡ true
    → Passes (read_version c at fits (version_value k)) k none (λ q. times q (some_block k.chain))
version_read c at fits k h long some taken =
    ruled _ _ _ _ _ _ (version_state k h)
    (said _ _ _ k _ _ _ (singles_exact.again k h)
    (ruled _ _ _ _ _ _ long
    (go_on _ _ tt _ none (root_tally k.chain) (root_tally k.chain) (linked c (at + 10) k.chain (λ _. taken))
    (ruled _ _ _ _ _ _ (not_zero k.chain some) (given k (root_tally k.chain))))))

pub akey_roots_read : (c : Content) (at : ℕ) (name : List ℕ) (r : AkeyRoots) → IsAkeyRoots r
    → (r.log ≢ 0 → is_taken c r.log ≡ true) → (r.singles ≢ 0 → is_taken c r.singles ≡ true) → (r.extents ≢ 0 → is_taken c r.extents ≡ true)
    → ((q : ℕ) → root_tally r.log q + (root_tally r.singles q + root_tally r.extents q) ≤ 1)
    → Passes (read_akey_roots c at name (akey_value r)) r none (λ q. root_tally r.log q + (root_tally r.singles q + root_tally r.extents q))
akey_roots_read c at name r h one two three apart =
    let t1 : Tally = root_tally r.log in
    let t2 : Tally = λ q. root_tally r.log q + root_tally r.singles q in
    let t3 : Tally = λ q. root_tally r.log q + (root_tally r.singles q + root_tally r.extents q) in
    let second = beside (link c (at + 4) r.singles) tt none (root_tally r.singles) t1 t2 t1 (linked c (at + 4) r.singles two) (λ q. omega arith) (λ q. omega arith) (λ q. omega (arith, apart q)) in
    let third = beside (link c (at + 8) r.extents) tt none (root_tally r.extents) t2 t3 t2 (linked c (at + 8) r.extents three) (λ q. omega arith) (λ q. omega arith) apart in
    said _ _ _ r _ _ _ (akeys_exact.again r h)
    (go_on _ _ tt _ none t1 t3 (linked c at r.log one)
    (go_on _ _ tt _ t1 t2 t3 second
    (go_on _ _ tt _ t2 t3 t3 third (given r t3))))

pub roots_read : {N : Type 0} (c : Content) (at : ℕ) (name : N) (r : Roots) → IsRoots r
    → (r.log ≢ 0 → is_taken c r.log ≡ true) → (r.below ≢ 0 → is_taken c r.below ≡ true)
    → ((q : ℕ) → root_tally r.log q + root_tally r.below q ≤ 1)
    → Passes (read_roots c at name (roots_value r)) r none (λ q. root_tally r.log q + root_tally r.below q)
roots_read c at name r h one two apart =
    let t1 : Tally = root_tally r.log in
    let t2 : Tally = λ q. root_tally r.log q + root_tally r.below q in
    let second = beside (link c (at + 4) r.below) tt none (root_tally r.below) t1 t2 t1 (linked c (at + 4) r.below two) (λ q. omega arith) (λ q. omega arith) apart in
    said _ _ _ r _ _ _ (roots_exact.again r h)
    (go_on _ _ tt _ none t1 t2 (linked c at r.log one)
    (go_on _ _ tt _ t1 t2 t2 second (given r t2)))

-- ---- names and objects

some_of_name : (n : ℕ) (fault : Option KeyNo) → (if n == 0 then Some Empty else if nat_lt 64 n then Some TooLong else fault) ≡ None → (nat_le 1 n && nat_le n 64) ≡ true
some_of_name n fault h = by (n == 0) refl (nat_lt 64 n) refl h
  where
    by : (t : Bool) → (n == 0) ≡ t → (u : Bool) → nat_lt 64 n ≡ u → (if t then Some Empty else if u then Some TooLong else fault) ≡ None → (nat_le 1 n && nat_le n 64) ≡ true
    by true e u d k = let no : ⊥ = cc in absurd no
    by false e true d k = let no : ⊥ = cc in absurd no
    by false e false d k = grind (arith, nat_tests)

pub name_length : (c : Content) (name : List ℕ) → IsName name → is_name_length c (name_key name).len ≡ true
unfolding name_key key_of
name_length c name h = some_of_name (length name) _ h

sized : (n : ℕ) → (n == 1) ≡ true → n ≡ 1
sized n h = grind (arith, nat_tests)

object_total : (o : ObjectKey) → (object_key o).len ≡ total (widths_of (object_fields o))
unfolding object_key key_of
object_total o = length_packed (object_fields o)

said_sizes : (a b s one : Bool) → one ≡ false → (a && b && (s || one)) ≡ true → s ≡ true
said_sizes a b true one e k = refl
said_sizes true true false one e k = let no : ⊥ = cc in absurd no
said_sizes true false false one e k = let no : ⊥ = cc in absurd no
said_sizes false true false one e k = let no : ⊥ = cc in absurd no
said_sizes false false false one e k = let no : ⊥ = cc in absurd no

pub object_length : (c : Content) (o : ObjectKey) → IsObjectKey Two o → is_size c.layout o.obj.unit ≡ true → is_object_length c (object_key o).len ≡ true
object_length c o h size = rw (object_total o) (by (o.obj.unit == 1) refl)
  where
    by : (t : Bool) → (o.obj.unit == 1) ≡ t → is_object_length c (total (widths_of (object_fields o))) ≡ true
    by true e = rw e refl
    by false e = rw e (let s : has_sizes c.layout ≡ true = said_sizes (nat_le 1 o.obj.unit) (nat_le o.obj.unit 64) (has_sizes c.layout) (o.obj.unit == 1) e size in rw s refl)

no_class : (n : ℕ) → is_class n ≡ false → class_of n ≡ None
no_class n h =
    let a : (n == 1) ≡ false = grind (arith, nat_tests) in
    let b : (n == 2) ≡ false = grind (arith, nat_tests) in
    let c : (n == 3) ≡ false = grind (arith, nat_tests) in
    let d : (n == 4) ≡ false = grind (arith, nat_tests) in
    let e : (n == 5) ≡ false = grind (arith, nat_tests) in
    let f : (n == 6) ≡ false = grind (arith, nat_tests) in
    let g : (n == 7) ≡ false = grind (arith, nat_tests) in
    let i : (n == 8) ≡ false = grind (arith, nat_tests) in
    rw (a, b, c, d, e, f, g, i) refl

class_there : (n cont number unit : ℕ) (o : ObjectKey) → object_of_class cont number unit (class_of n) ≡ Some o → is_class n ≡ true
class_there n cont number unit o h = by (is_class n) refl
  where
    by : (t : Bool) → is_class n ≡ t → is_class n ≡ true
    by true e = e
    by false e = absurd (let none = no_class n e in let no : None ≡ Some o = sym (rw none refl) ∙ h in cc)

class_said : (l : Layout) (k : TreeKey) (o : ObjectKey) → object_in l k ≡ Some o → is_class (big_number 1 (drop 16 k.bytes)) ≡ true
unfolding object_in
class_said l k o h = by (k.len == 25) (has_sizes l && (k.len == 26) && is_said_size (big_number 1 (drop 25 k.bytes))) h
  where
    by : (t u : Bool) → (if t then sized_object k 1 else if u then sized_object k (big_number 1 (drop 25 k.bytes)) else None) ≡ Some o → is_class (big_number 1 (drop 16 k.bytes)) ≡ true
    by true u e = class_there (big_number 1 (drop 16 k.bytes)) (big_number 16 k.bytes) (big_number 8 (drop 17 k.bytes)) 1 o e
    by false true e = class_there (big_number 1 (drop 16 k.bytes)) (big_number 16 k.bytes) (big_number 8 (drop 17 k.bytes)) (big_number 1 (drop 25 k.bytes)) o e
    by false false e = absurd (cc)

pub object_read : (c : Content) (at : ℕ) (o : ObjectKey) → IsObjectKey Two o → is_size c.layout o.obj.unit ≡ true → (led : List ℕ) → read_object c at (object_key o) led ≡ Ok (o, led)
unfolding ◌>>=◌ rule says
object_read c at o h size led =
    let again = (objects_exact c.layout).again o (record { cont = h.cont; number = h.number; size = size }) in
    rw (class_said c.layout (object_key o) o again, again) refl
