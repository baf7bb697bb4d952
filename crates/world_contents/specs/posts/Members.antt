-- What a target sends in a turn is addressed right, and what it keeps and knows names only who is there.
use Rattle.std.specs.Prelude.{ℕ, ◌≡◌, ◌<◌, ◌^◌, ◌==◌, Bool, true, false, bit_or, List, [], ◌∷◌, refl}
use Rattle.std.specs.Int.{bit_at}
use Rattle.std.proofs.Common.{inl, inr, arith, max}
use Rattle.std.proofs.lemmas.Bool.Decides.{nat_tests}
use Rattle.std.proofs.lemmas.Nat.Bits.{bit_at_or, bit_at-pow_other, bit_at-zero}
use Rattle.base_types.specs.declared.operation.MinorWrite.{MinorWrite}
use Rattle.base_types.specs.Operations.{write_path}
use Rattle.base_types.specs.Placement.{path_members, writes_members}
use Rattle.model_laws.specs.HoldingLaws.{path-within}
use Rattle.model_laws.specs.Members.{Has, has-cases}
use Rattle.daos_model.specs.BoolLaws.{clash}
use Rattle.world_commit.specs.dtx_base.Members.{has_target}
use Rattle.world_commit.specs.world_base.Commits as commit

-- ---- entries

-- members of writes are targets
pub writes-within : (ws : List MinorWrite) (n t : ℕ) → 0 < n → Has t (writes_members ws n) → t < n
unfolding writes_members
writes-within [] n t some i = absurd i
writes-within (w ∷ ws) n t some i = elim (has-cases (path_members (write_path w.write) n) (writes_members ws n) t i) [
  | inl j ↦ path-within (write_path w.write) n t some j
  | inr j ↦ writes-within ws n t some j
]

-- a bit that is set is that of one of the targets
pub bit-of : (ts : List ℕ) (t : ℕ) → has_target (commit.bits_of ts) t ≡ true → Has t ts
unfolding commit.bits_of has_target
bit-of [] t has = absurd (let none : bit_at 0 t ≡ 0 = bit_at-zero t in let one : bit_at 0 t ≡ 1 = grind (arith, nat_tests) in omega (arith, none, one))
bit-of (u ∷ ts) t has = by (bit-of ts t) (t == u) refl
  where
    by : (has_target (commit.bits_of ts) t ≡ true → Has t ts) → (b : Bool) → (t == u) ≡ b → Has t (u ∷ ts)
    by rest true same = let e : t ≡ u = grind (arith, nat_tests) in inl e
    by rest false apart =
        let other : bit_at (2 ^ u) t ≡ 0 = bit_at-pow_other u t (λ is. clash (t == u) (grind (arith, nat_tests)) apart) in
        let bits : bit_at (bit_or (2 ^ u) (commit.bits_of ts)) t ≡ max (bit_at (2 ^ u) t) (bit_at (commit.bits_of ts) t) = bit_at_or (2 ^ u) (commit.bits_of ts) t in
        let one : bit_at (bit_or (2 ^ u) (commit.bits_of ts)) t ≡ 1 = grind (arith, nat_tests) in
        let own : bit_at (commit.bits_of ts) t ≡ 1 = omega arith in
        inr (rest (rw own refl))
