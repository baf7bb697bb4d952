-- What a lack of space tells has small numbers: of one of the targets, and of few blocks.
use Rattle.std.specs.Prelude.{ℕ, ◌≡◌, ◌≤◌, ◌<◌, ◌+◌, ◌*◌, ◌^◌, true, nat_le, List, [], ◌∷◌, length, All}
use Rattle.std.specs.Int.{div_ceil}
use Rattle.std.proofs.Common.{arith}
use Rattle.std.proofs.lemmas.Bool.Decides.{nat_tests}
use Rattle.std.proofs.lemmas.Grind.{div_ceil_times}
use Rattle.std.proofs.lemmas.List.Elements.{All-head, All-tail}
use Rattle.base_types.specs.declared.id.AttemptId.{AttemptId}
use Rattle.base_types.specs.declared.operation.MinorWrite.{MinorWrite}
use Rattle.base_types.specs.declared.operation.Write.{Write}
use Rattle.base_types.specs.declared.operation.Write.TheVariants as write
use Rattle.base_types.specs.declared.script.Script.{Script}
use Rattle.base_types.specs.Scripts.{IsInForm}
use Rattle.model_laws.specs.HoldingLaws.{holder-within, some-blocks}
use Rattle.daos_model.specs.Accesses.{minor_writes}
use Rattle.daos_model.specs.Blocks.{blocks, sum_of_blocks, write_blocks}
use Rattle.daos_model.specs.BoolLaws.{and_right}
use Rattle.daos_model.specs.CausesShown.{blocks_at, blocks_of_some, writes_at}
use Rattle.daos_model.specs.ExtentForms.{written-length}
use Rattle.daos_model.specs.Forms.{AreWritesInForm, ends_at_akey, is_length, is_write_in_form}
use Rattle.daos_model.specs.Transactions.{attempt_ops}
use Rattle.report_writer.specs.Forms.{IsNoSpace}
use Rattle.world_answers.specs.world_contents.posts.ScriptForm.{ops-few, writes-in-form}
use Rattle.world_answers.specs.world_contents.gots.FormLaws.{ops-form}

-- ---- blocks

-- bytes of a value take at most 5 blocks of 248 bytes
few-blocks : (n : ℕ) → is_length n ≡ true → div_ceil n 248 ≤ 5
few-blocks n h =
    let short : n ≤ 1024 = high n (and_right (nat_le 1 n) (nat_le n 1024) h) in
    let less : div_ceil n 248 * 248 < n + 248 = (div_ceil_times n 248 (omega arith)).1 in
    omega (arith, short, less)
  where
    high : (n : ℕ) → nat_le n 1024 ≡ true → n ≤ 1024
    high n h = grind (arith, nat_tests)

write-few : (w : Write) → is_write_in_form w ≡ true → write_blocks w ≤ 13
unfolding is_write_in_form
write-few (write.Single p bytes) h = let few = few-blocks (length bytes) (and_right (ends_at_akey p) (is_length (length bytes)) h) in omega (arith, few)
write-few (write.Extent p low bytes) h =
    let few = few-blocks (length bytes) (written-length p low bytes h) in
    omega (arith, few)
write-few (write.PunchObject p) h = omega arith
write-few (write.PunchDkey p) h = omega arith
write-few (write.PunchAkey p) h = omega arith

sum-few : (ws : List MinorWrite) → All (λ w. is_write_in_form w.write ≡ true) ws → sum_of_blocks ws ≤ 13 * length ws
sum-few [] forms = omega arith
sum-few (w ∷ ws) forms =
    let one = write-few w.write (All-head (λ (m : MinorWrite). is_write_in_form m.write ≡ true) w ws forms) in
    let rest = sum-few ws (All-tail (λ (m : MinorWrite). is_write_in_form m.write ≡ true) w ws forms) in
    omega (arith, one, rest)

held-sum : (ws : List MinorWrite) → blocks_of_some ws ≤ 2 + sum_of_blocks ws
unfolding blocks
held-sum [] = omega arith
held-sum (w ∷ ws) = omega arith

blocks-low : (s : Script) (t : ℕ) (x : AttemptId) → IsInForm s.targets s → blocks_at s t x < 2 ^ 32
blocks-low s t x form =
    let forms : AreWritesInForm (minor_writes 0 (attempt_ops s x)) = writes-in-form s.objs (attempt_ops s x) form.declared.obj_units (ops-few s.targets s x form) (ops-form s.targets s x form) in
    let all = held-sum (writes_at s.targets t (minor_writes 0 (attempt_ops s x))) in
    let fewer = some-blocks s.targets t (minor_writes 0 (attempt_ops s x)) in
    let sum = sum-few (minor_writes 0 (attempt_ops s x)) forms.each in
    let count = forms.count in
    omega (arith, all, fewer, sum, count)

-- ---- a lack of space

pub space-form : (s : Script) (x : AttemptId) (t need free : ℕ) → IsInForm s.targets s → 0 < s.targets → s.targets ≤ 256 → free < need → need ≡ blocks_at s t x → IsNoSpace t need free
space-form s x t need free form some few wanting is =
    let low = blocks-low s t x form in
    let any : 0 < blocks_at s t x = omega (arith, wanting, is) in
    let here : t < s.targets = holder-within s.targets t (minor_writes 0 (attempt_ops s x)) some any in
    record { number = omega (arith, here, few); wanted = omega (arith, low, is); found = omega (arith, low, is, wanting) }
