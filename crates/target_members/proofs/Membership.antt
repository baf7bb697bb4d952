-- The members of an attempt, group by group and write by write, and one bit for each.
use Rattle.std.proofs.Common.{ℕ, suc, ◌≡◌, ◌<◌, ◌≤◌, ◌+◌, ◌-◌, ◌^◌, ◌++◌, sym, ◌∙◌, ap, List, length, drop, get_or, append_assoc, append-nil, arith}
use Rattle.std.specs.Prelude.{bit_or}
use Rattle.std.specs.List.{range_with_len}
use Rattle.std.proofs.Math.ListN.{drop_of_length-le}
use Rattle.std.proofs.Math.Seq.{drop-cons}
use Rattle.std.proofs.lemmas.Nat.{or_comm}
use Rattle.base_types.specs.declared.id.ObjId.{ObjId}
use Rattle.base_types.specs.declared.operation.MinorWrite.{MinorWrite}
use Rattle.base_types.specs.Operations.{write_path}
use Rattle.base_types.specs.Placement.{groups_members, members, path_members, writes_members}
use Rattle.dtx_table.specs.Ranges.{from_one, none_left}
use Rattle.world_base.specs.Commits.{bits_of}
use Rattle.model_laws.specs.Lists.{drop-item}

-- ---- groups

-- the members of one group more follow
pub group_pushed : (o : ObjId) (group count n : ℕ) (xs all : List ℕ) → group < count → xs ++ groups_members o (range_with_len group (count - group)) n ≡ all
    → (xs ++ members o group n) ++ groups_members o (range_with_len (group + 1) (count - (group + 1))) n ≡ all
group_pushed o group count n xs all within so_far =
    let rest = groups_members o (range_with_len (group + 1) (count - (group + 1))) n in
    append_assoc xs (members o group n) rest ∙ ap (λ r. xs ++ groups_members o r n) (sym (from_one group count within)) ∙ so_far

pub groups_pushed : (o : ObjId) (group count n : ℕ) (xs all : List ℕ) → count ≤ group → xs ++ groups_members o (range_with_len group (count - group)) n ≡ all → xs ≡ all
groups_pushed o group count n xs all past so_far = sym (append-nil xs) ∙ ap (λ r. xs ++ groups_members o r n) (sym (none_left group count past)) ∙ so_far

-- ---- writes

-- the members of one write more follow
pub write_pushed : (n : ℕ) (ws : List MinorWrite) (i : ℕ) (w : MinorWrite) (xs all : List ℕ) → i < length ws → w ≡ get_or ws i w → xs ++ writes_members (drop i ws) n ≡ all
    → (xs ++ path_members (write_path w.write) n) ++ writes_members (drop (i + 1) ws) n ≡ all
unfolding writes_members
write_pushed n ws i w xs all lt is so_far =
    append_assoc xs (path_members (write_path w.write) n) (writes_members (drop (i + 1) ws) n) ∙ ap (λ r. xs ++ writes_members r n) (sym (drop-item ws i w lt is)) ∙ so_far

pub writes_pushed : (n : ℕ) (ws : List MinorWrite) (i : ℕ) (xs all : List ℕ) → length ws ≤ i → xs ++ writes_members (drop i ws) n ≡ all → xs ≡ all
unfolding writes_members
writes_pushed n ws i xs all le so_far = sym (append-nil xs) ∙ ap (λ r. xs ++ writes_members r n) (sym (drop_of_length-le ws le)) ∙ so_far

-- ---- bits

-- one bit more is set
pub bit_set : (ts : List ℕ) (i d bits : ℕ) → 0 < i → i ≤ length ts → bits ≡ bits_of (drop i ts) → bit_or bits (2 ^ get_or ts (i - 1) d) ≡ bits_of (drop (i - 1) ts)
unfolding bits_of
bit_set ts i d bits some le so_far =
    let next : i ≡ suc (i - 1) = omega arith in
    let within : i - 1 < length ts = omega arith in
    or_comm bits (2 ^ get_or ts (i - 1) d) ∙ ap (bit_or (2 ^ get_or ts (i - 1) d)) (so_far ∙ ap (λ n. bits_of (drop n ts)) next) ∙ ap bits_of (sym (drop-cons ts (i - 1) d within))

pub no_bits : (ts : List ℕ) (i : ℕ) → length ts ≤ i → 0 ≡ bits_of (drop i ts)
unfolding bits_of
no_bits ts i le = ap bits_of (sym (drop_of_length-le ts le))
