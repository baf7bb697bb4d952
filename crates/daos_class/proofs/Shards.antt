-- The targets of shards are found one by one.
use Rattle.std.proofs.Common.{ℕ, zero, suc, ◌+◌, ◌-◌, ◌≡◌, ◌≤◌, ◌<◌, List, [], ◌∷◌, ◌++◌, sym, ◌∙◌, ap, append_assoc, arith}
use Rattle.std.proofs.lemmas.List.{append-nil}
use Rattle.base_types.specs.Placement.{shard_target, shard_targets}

-- the first shard and those after it
shard_targets-first : (number shard left n : ℕ) → 0 < left → shard_targets number shard left n ≡ shard_target number shard n ∷ shard_targets number (shard + 1) (left - 1) n
shard_targets-first number shard zero n some = absurd (omega arith)
shard_targets-first number shard (suc left) n some =
    let less : left ≡ suc left - 1 = omega arith in
    ap (λ k. shard_target number shard n ∷ shard_targets number (shard + 1) k n) less

-- one shard more was found
pub found_more : (before after all : List ℕ) (number shard end n : ℕ) → shard < end → after ≡ before ++ shard_target number shard n ∷ []
    → before ++ shard_targets number shard (end - shard) n ≡ all → after ++ shard_targets number (shard + 1) (end - (shard + 1)) n ≡ all
found_more before after all number shard end n lt e so_far =
    let left : end - (shard + 1) ≡ end - shard - 1 = omega arith in
    let rest : List ℕ = shard_targets number (shard + 1) (end - shard - 1) n in
    ap (λ k. after ++ shard_targets number (shard + 1) k n) left
    ∙ ap (λ ts. ts ++ rest) e
    ∙ append_assoc before (shard_target number shard n ∷ []) rest
    ∙ ap (λ ts. before ++ ts) (sym (shard_targets-first number shard (end - shard) n (omega arith)))
    ∙ so_far

-- all shards were found
pub found_all : (before all : List ℕ) (number shard end n : ℕ) → end ≤ shard → before ++ shard_targets number shard (end - shard) n ≡ all → before ≡ all
found_all before all number shard end n le so_far =
    let none : end - shard ≡ 0 = omega arith in
    sym (append-nil before) ∙ ap (λ k. before ++ shard_targets number shard k n) (sym none) ∙ so_far
