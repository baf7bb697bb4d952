-- The stages of freezes and prunes, and the lines that they have by then.
use Rattle.std.specs.Prelude.{ℕ, ◌≡◌, ◌≤◌, ◌⊎◌, Bool, List, [], ◌∷◌, ◌++◌, find, Option, Some, None}
use Rattle.std.proofs.Common.{append-nil, sym, ◌∙◌, ap, subst, arith, inl, inr}
use Rattle.base_types.specs.declared.epoch.Epoch.{Epoch}
use Rattle.base_types.specs.declared.id.ContId.{ContId}
use Rattle.base_types.specs.declared.report.Line.{Line}
use Rattle.base_types.specs.declared.report.Line.TheVariants as line
use Rattle.daos_model.specs.declared.durable.Durable.{Durable}
use Rattle.daos_model.specs.declared.durable.Version.{Version}
use Rattle.world_base.specs.declared.target.TargetMemory.{TargetMemory}
use Rattle.world_base.specs.declared.target.TargetPlan.{TargetPlan}
use Rattle.world_base.specs.Changes.{Change, Kept}
use Rattle.world_base.specs.CutTurns.{lines_of}
use Rattle.world_base.specs.Requests.{request_epoch}
use Rattle.world_base.specs.Snapshots as snap
use Rattle.world_base.specs.Turns.{listed}

-- no line, or that of a freeze at this epoch
abbrev pub FreezesAt : ℕ → ContId → Epoch → List Line → Type 0
FreezesAt t c s ls = (ls ≡ []) ⊎ (ls ≡ line.Freeze t c s ∷ [])

-- no line, or that of an aggregation up to this epoch or less
abbrev pub PrunesUpTo : ℕ → ℕ → ContId → Epoch → List Line → Type 0
PrunesUpTo t number c g ls = (ls ≡ []) ⊎ ((upto : Epoch) × (upto.0 ≤ g.0) × (ls ≡ line.Aggregate number t c upto ∷ []))

-- up to where a container may be pruned is no further than was asked
below-asked : (g : Epoch) (o : Option Version) → (snap.below_open g o).0 ≤ g.0
below-asked g None = omega arith
below-asked g (Some v) = omega arith

pub limit-low : (c : ContId) (g : Epoch) (d : Durable) → (snap.prune_limit c g d).0 ≤ g.0
unfolding snap.prune_limit
limit-low c g d = below-asked g (find (snap.is_open_in c g) d.versions)

module _ (p : TargetPlan) (m : TargetMemory) (reading : ℕ) (tracker : Epoch) (ep : Option Epoch) (c : ContId) where
  -- an epoch is the request's
  abbrev pub IsIts : Epoch → Type 0
  IsIts s = request_epoch p m reading tracker ep ≡ Some s

  -- of a freeze, what its stage says, and the lines so far
  abbrev pub FrozenSo : snap.FreezeStage → List Line → Type 0
  FrozenSo snap.Asked ls = ls ≡ []
  FrozenSo (snap.Known s) ls = IsIts s × (ls ≡ [])
  FrozenSo (snap.Freezing s) ls = IsIts s × (ls ≡ [])
  FrozenSo (snap.Frozen s told) ls = IsIts s × (told ≡ ls) × FreezesAt p.me c s ls
  FrozenSo (snap.Created s told) ls = IsIts s × (told ≡ ls) × FreezesAt p.me c s ls

  pub frozen-step : (alone : Bool) (s : snap.FreezeStage) (k : Kept) (o : Option Change) (u : snap.FreezeStage) → snap.FreezeNext p m reading tracker ep c alone s k o u
      → (ls : List Line) → FrozenSo s ls → FrozenSo u (ls ++ lines_of p.me (listed o))
  frozen-step alone s k o u (snap.HasEpoch k2 e is) ls h = (is, append-nil ls ∙ h)
  frozen-step alone s k o u (snap.ExtendsLease k2 e lease low is) ls h = (h.0, append-nil ls ∙ h.1)
  frozen-step alone s k o u (snap.IsCovered k2 e low) ls h = (h.0, append-nil ls ∙ h.1)
  frozen-step alone s k o u (snap.FreezesIt k2 e free unfrozen) ls h = (h.0, ap (λ x. x ++ line.Freeze p.me c e ∷ []) (sym h.1), inr (ap (λ x. x ++ line.Freeze p.me c e ∷ []) h.1))
  frozen-step alone s k o u (snap.IsFrozen k2 e free frozen) ls h = (h.0, sym (append-nil ls ∙ h.1), inl (append-nil ls ∙ h.1))
  frozen-step alone s k o u (snap.CreatesIt k2 e told only) ls h = (h.0, h.1 ∙ sym (append-nil ls), subst (FreezesAt p.me c e) (sym (append-nil ls)) h.2)

  -- of a prune
  module _ (number : ℕ) where
    abbrev pub PrunedSo : snap.PruneStage → List Line → Type 0
    PrunedSo snap.Asked ls = ls ≡ []
    PrunedSo (snap.Known g) ls = IsIts g × (ls ≡ [])
    PrunedSo (snap.Settling g decided) ls = IsIts g × (ls ≡ [])
    PrunedSo (snap.Pruned g told) ls = IsIts g × (told ≡ ls) × PrunesUpTo p.me number c g ls

    pub pruned-step : (s : snap.PruneStage) (k : Kept) (o : Option Change) (u : snap.PruneStage) → snap.PruneNext p m reading tracker ep c number s k o u
        → (ls : List Line) → PrunedSo s ls → PrunedSo u (ls ++ lines_of p.me (listed o))
    pruned-step s k o u (snap.HasEpoch k2 g is) ls h = (is, append-nil ls ∙ h)
    pruned-step s k o u (snap.ExtendsLease k2 g lease low is) ls h = (h.0, append-nil ls ∙ h.1)
    pruned-step s k o u (snap.IsCovered k2 g low) ls h = (h.0, append-nil ls ∙ h.1)
    pruned-step s k o u (snap.SettlesFirst k2 g a rest) ls h = (h.0, append-nil ls ∙ h.1)
    pruned-step s k o u (snap.PrunesIt k2 g due) ls h =
        (h.0, ap (λ x. x ++ line.Aggregate number p.me c (snap.prune_limit c g k.durable) ∷ []) (sym h.1), inr (snap.prune_limit c g k.durable, limit-low c g k.durable, ap (λ x. x ++ line.Aggregate number p.me c (snap.prune_limit c g k.durable) ∷ []) h.1))
    pruned-step s k o u (snap.PassesBy k2 g due) ls h = (h.0, sym (append-nil ls ∙ h.1), inl (append-nil ls ∙ h.1))
