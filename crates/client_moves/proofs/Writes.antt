-- The writes among operations, and the object of the first.
use Rattle.std.proofs.Common.{◌≡◌, ℕ, ◌+◌, List, [], ◌∷◌, ◌++◌, length, take, get_or, slice_get, Some, All, ◌<◌, refl, sym, ◌∙◌, ap, append_assoc, arith}
use Rattle.std.proofs.lemmas.List.{length-take-le, take_more}
use Rattle.std.proofs.lemmas.List.Elements.{All-head, All-tail}
use Rattle.base_types.specs.declared.id.Class.{Class}
use Rattle.base_types.specs.declared.id.Class.TheVariants.{S1, S2, S4, SX, RP2G1, RP2GX, RP3G1, RP3GX}
use Rattle.base_types.specs.declared.operation.Act.{Act}
use Rattle.base_types.specs.declared.operation.Act.TheVariants.{Fetch, Change}
use Rattle.base_types.specs.declared.operation.MinorWrite.{MinorWrite}
use Rattle.base_types.specs.declared.operation.Op.{Op}
use Rattle.base_types.specs.Operations.{act_path, write_path}
use Rattle.base_types.specs.Placement.{path_leader, targets_needed, writes_leader}
use Rattle.base_messages.specs.declared.message.Message.TheVariants as message
use Rattle.daos_model.specs.Accesses.{minor_write, minor_writes}
use Rattle.client_moves.specs.Moves.{FirstFits, ObjFits, OpFits}
use Rattle.world_base.specs.ClientTurns.{asks, attempt_id, commits}
use Rattle.world_base.specs.declared.client.ClientPlan.{ClientPlan}
use Rattle.world_base.specs.declared.client.ClientState.{ClientState}
use Rattle.world_base.specs.declared.client.Present.{Present}

writes_end : (n : ℕ) (xs : List Op) (op : Op) → minor_writes n (xs ++ op ∷ []) ≡ minor_writes n xs ++ minor_write (n + length xs) op.act
unfolding minor_writes
writes_end n [] op = grind arith
writes_end n (x ∷ xs) op =
    let at : n + 1 + length xs ≡ n + length (x ∷ xs) = omega arith in
    ap (λ ws. minor_write n x.act ++ ws) (writes_end (n + 1) xs op)
    ∙ sym (append_assoc (minor_write n x.act) (minor_writes (n + 1) xs) (minor_write (n + 1 + length xs) op.act))
    ∙ ap (λ k. minor_write n x.act ++ minor_writes (n + 1) xs ++ minor_write k op.act) at

-- the writes among one operation more
pub writes_more :
    (ops : List Op) (i : ℕ) (op : Op) → i < length ops → op ≡ get_or ops i op
    → minor_writes 0 (take (i + 1) ops) ≡ minor_writes 0 (take i ops) ++ minor_write i op.act
writes_more ops i op lt is =
    let short : length (take i ops) ≡ i = length-take-le i ops (omega arith) in
    ap (minor_writes 0) (take_more ops i op lt ∙ ap (λ x. take i ops ++ x ∷ []) (sym is))
    ∙ writes_end 0 (take i ops) op
    ∙ ap (λ k. minor_writes 0 (take i ops) ++ minor_write k op.act) (omega (arith, short))

pub writes_none : minor_writes 0 [] ≡ []
unfolding minor_writes
writes_none = refl

-- the first write is of an object that fits
pub first_fits : (targets n : ℕ) (ops : List Op) → All (OpFits targets) ops → FirstFits targets (minor_writes n ops)
unfolding minor_writes
first_fits targets n [] all = tt
first_fits targets n (op ∷ ops) all = by op.act (All-head (OpFits targets) op ops all) (first_fits targets (n + 1) ops (All-tail (OpFits targets) op ops all))
  where
    by : (a : Act) → ObjFits targets (act_path a).obj → FirstFits targets (minor_writes (n + 1) ops) → FirstFits targets (minor_write n a ++ minor_writes (n + 1) ops)
    by (Fetch r) fits rest = rest
    by (Change w) fits rest = fits

-- writes that there are go to the leader of the first
pub commits_first :
    (p : ClientPlan) (c : ClientState) (a : Present) (ws : List MinorWrite) (w : MinorWrite) (leader : ℕ)
    → slice_get ws 0 ≡ Some w → leader ≡ path_leader (write_path w.write) p.targets
    → asks leader (message.Commit (attempt_id p c a) a.epoch a.first c.tracker ws) a c ≡ commits p c a ws
unfolding writes_leader
commits_first p c a [] w leader is leads = absurd (cc)
commits_first p c a (v ∷ ws) w leader is leads =
    let same : v ≡ w = cc in
    ap (λ t. asks t (message.Commit (attempt_id p c a) a.epoch a.first c.tracker (v ∷ ws)) a c) (leads ∙ ap (λ x. path_leader (write_path x.write) p.targets) (sym same))

-- each class needs a target
pub needs_some : (class : Class) → 0 < targets_needed class
needs_some S1 = omega arith
needs_some S2 = omega arith
needs_some S4 = omega arith
needs_some SX = omega arith
needs_some RP2G1 = omega arith
needs_some RP2GX = omega arith
needs_some RP3G1 = omega arith
needs_some RP3GX = omega arith
