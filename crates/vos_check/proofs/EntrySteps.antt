-- The fields of an entry, by what was tested.
use Rattle.std.proofs.Common.{◌≡◌, ℕ, ◌+◌, ◌*◌, ◌^◌, ◌<◌, ◌≤◌, ltb, Bool, true, List, drop, Option, refl, arith}
use Rattle.std.proofs.lemmas.Bool.Decides.{nat_tests}
use Rattle.std.proofs.Math.Pow.{pow_mono}
use Rattle.std.specs.Prelude.{nat_le, nat_lt}
use Rattle.byteorder.specs.Endian.{big_number}
use Rattle.base_types.specs.declared.id.AttemptId.{AttemptId}
use Rattle.pmem_pages.specs.declared.node.Value.{Value}
use Rattle.vos_values.specs.declared.values.EntryMark.{EntryMark}
use Rattle.vos_values.specs.Values.{entry_in, is_state}
use Rattle.vos_image.specs.Steps.{Step, ◌>>=◌, give, rule, says}
use Rattle.vos_image.specs.Content.{Content, link}
use Rattle.vos_image.specs.Kinds.{fits_targets, read_entry}

abbrev pub entry_by : Content → ℕ → Bool → Bool → Bool → Bool → Bool → Option EntryMark → Step EntryMark
entry_by c b state leader members confirmed epoch said =
    rule (256 * b + 76) state
    >>= λ _. rule (256 * b + 77) leader
    >>= λ _. rule (256 * b + 78) members
    >>= λ _. rule (256 * b + 86) confirmed
    >>= λ _. rule (256 * b + 94) epoch
    >>= λ _. says (256 * b + 102) said
    >>= λ mark. link c (256 * b + 102) mark.chain
    >>= λ _. give mark

pub entry_tests : (c : Content) (b : ℕ) (a : AttemptId) (v : Value) (state leader members confirmed epoch : Bool) (said : Option EntryMark) (led : List ℕ)
    → state ≡ is_state (big_number 1 v.bytes) → leader ≡ nat_lt (big_number 1 (drop 1 v.bytes)) c.targets → members ≡ fits_targets c (big_number 8 (drop 2 v.bytes)) → confirmed ≡ fits_targets c (big_number 8 (drop 10 v.bytes))
    → epoch ≡ nat_le (big_number 8 (drop 18 v.bytes)) c.covered → said ≡ entry_in v → read_entry c (256 * b + 76) a v led ≡ entry_by c b state leader members confirmed epoch said led
entry_tests c b a v state leader members confirmed epoch said led p q r s t u =
    let p1 : 256 * b + 76 + 1 ≡ 256 * b + 77 = omega arith in
    let p2 : 256 * b + 76 + 2 ≡ 256 * b + 78 = omega arith in
    let p3 : 256 * b + 76 + 10 ≡ 256 * b + 86 = omega arith in
    let p4 : 256 * b + 76 + 18 ≡ 256 * b + 94 = omega arith in
    let p5 : 256 * b + 76 + 26 ≡ 256 * b + 102 = omega arith in
    rw (p1, p2, p3, p4, p5, p, q, r, s, t, u) refl

pub below_power : (n t : ℕ) → n < 2 ^ 64 → 64 ≤ t → ltb n (2 ^ t) ≡ true
below_power n t h k = let m : 2 ^ 64 ≤ 2 ^ t = pow_mono k in let low : n < 2 ^ t = omega (arith, h, m) in grind (arith, nat_tests)
