-- A target where an attempt writes is the attempt's leader, or another member of it.
use Rattle.std.specs.Prelude.{ℕ, ◌≡◌, ◌⊎◌, ◌^◌, ◌<◌, ◌≤◌, ◌==◌, Bool, true, false, not, List, [], ◌∷◌, refl}
use Rattle.std.specs.Int.{bit_at}
use Rattle.std.proofs.Common.{sym, ap, subst, arith, inl, inr, max}
use Rattle.std.proofs.lemmas.Bool.Decides.{nat_tests}
use Rattle.std.proofs.lemmas.Nat.Bits.{bit_at_or, bit_at-lt, bit_at-pow_same}
use Rattle.base_types.specs.declared.id.Class.{Class}
use Rattle.base_types.specs.declared.id.Class.TheVariants.{S1, S2, S4, SX, RP2G1, RP2GX, RP3G1, RP3GX}
use Rattle.base_types.specs.declared.id.AttemptId.{AttemptId}
use Rattle.base_types.specs.declared.operation.MinorWrite.{MinorWrite}
use Rattle.base_types.specs.Operations.{write_path}
use Rattle.base_types.specs.Placement.{ClassFits, path_members, writes_members}
use Rattle.model_laws.specs.HoldingLaws.{path-within}
use Rattle.model_laws.specs.JoinLaws.{has-range}
use Rattle.model_laws.specs.Members.{Has, has-filter, has-from_contains, has-left, has-right}
use Rattle.model_laws.specs.TargetLaws.{number_same}
use Rattle.daos_model.specs.BoolLaws.{both}
use Rattle.world_commit.specs.dtx_base.Members.{all_targets, has_target, is_other_member, other_members}
use Rattle.world_commit.specs.attempts.Attempts.{IsOther, first_entry, leader_of, members_of, writes_of}
use Rattle.world_commit.specs.world_base.Events.{Rules}
use Rattle.world_contents.specs.reads.Given.{FitsTargets}
use Rattle.world_contents.specs.reads.Versions.{IsWriteAt}
use Rattle.world_commit.specs.world_base.Commits.{bits_of}

-- ---- bits

-- each of some targets has its bit
pub bits-has : (ts : List ℕ) (t : ℕ) → Has t ts → bit_at (bits_of ts) t ≡ 1
unfolding bits_of
bits-has [] t i = absurd i
bits-has (u ∷ ts) t (inl same) =
    let own : bit_at (2 ^ u) t ≡ 1 = subst (λ n. bit_at (2 ^ u) n ≡ 1) (sym same) (bit_at-pow_same u) in
    let all : bit_at (bits_of (u ∷ ts)) t ≡ max (bit_at (2 ^ u) t) (bit_at (bits_of ts) t) = bit_at_or (2 ^ u) (bits_of ts) t in
    let small : bit_at (bits_of ts) t < 2 = bit_at-lt (bits_of ts) t in
    grind (arith, nat_tests)
bits-has (u ∷ ts) t (inr i) =
    let rest : bit_at (bits_of ts) t ≡ 1 = bits-has ts t i in
    let all : bit_at (bits_of (u ∷ ts)) t ≡ max (bit_at (2 ^ u) t) (bit_at (bits_of ts) t) = bit_at_or (2 ^ u) (bits_of ts) t in
    let small : bit_at (2 ^ u) t < 2 = bit_at-lt (2 ^ u) t in
    grind (arith, nat_tests)

-- ---- there are so many targets

some-targets : (c : Class) (targets : ℕ) → ClassFits c targets → 0 < targets
some-targets S1 targets fits = omega (arith, fits)
some-targets S2 targets fits = omega (arith, fits)
some-targets S4 targets fits = omega (arith, fits)
some-targets SX targets fits = omega (arith, fits)
some-targets RP2G1 targets fits = omega (arith, fits)
some-targets RP2GX targets fits = omega (arith, fits)
some-targets RP3G1 targets fits = omega (arith, fits)
some-targets RP3GX targets fits = omega (arith, fits)

-- ---- members

-- a member of one of some writes is a member of them
pub all-members : (ws : List MinorWrite) (targets u : ℕ) (w : MinorWrite) → Has w ws → Has u (path_members (write_path w.write) targets) → Has u (writes_members ws targets)
unfolding writes_members
all-members [] targets u w i at = absurd i
all-members (v ∷ ws) targets u w (inl same) at =
    has-left (path_members (write_path v.write) targets) (writes_members ws targets) u (subst (λ z. Has u (path_members (write_path z.write) targets)) same at)
all-members (v ∷ ws) targets u w (inr i) at = has-right (path_members (write_path v.write) targets) (writes_members ws targets) u (all-members ws targets u w i at)

pub writes-member : (r : Rules) (x : AttemptId) (u : ℕ) (m : MinorWrite) → r.script.targets ≤ 64 → FitsTargets r m.write → IsWriteAt r x u m → (u ≡ leader_of r x) ⊎ IsOther r x u
unfolding other_members is_other_member has_target
writes-member r x u m few fits at = by (u == leader_of r x) refl
  where
    here : Has u (path_members (write_path m.write) r.script.targets)
    here = has-from_contains (path_members (write_path m.write) r.script.targets) u at.here

    bit : bit_at (members_of r x) u ≡ 1
    bit = bits-has (writes_members (writes_of r x) r.script.targets) u (all-members (writes_of r x) r.script.targets u m (has-from_contains (writes_of r x) m at.of_it) here)

    among : Has u all_targets
    among = let lt = path-within (write_path m.write) r.script.targets u (some-targets fits.0.class r.script.targets fits.2) here in has-range 0 64 u (omega arith) (omega (arith, lt, few))

    by : (b : Bool) → (u == leader_of r x) ≡ b → (u ≡ leader_of r x) ⊎ IsOther r x u
    by true is = inl (number_same u (leader_of r x) is)
    by false other =
        inr (has-filter (is_other_member (first_entry r x (record { 0 = 0 }))) all_targets u among
        (both (bit_at (members_of r x) u == 1) (not (u == leader_of r x)) (ap (λ n. n == 1) bit) (ap not other)))
