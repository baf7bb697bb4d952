use Rattle.std.proofs.Common.{◌∷◌, [], inl, inr, subst}
use Rattle.base_outside.specs.Images.Call.{Read, Flush}
use Rattle.pmem_undo.specs.Settled.{IsUndoneBy}
use Rattle.pmem_undo.proofs.Phases.{OnOk-map}
use Rattle.pmem_undo.proofs.opening.flush_and_restore.Goals as goal

pub returns-clause-calls : goal.returns-clause-calls
returns-clause-calls g c =
    OnOk-map c.restore.result _ _ c.restore.ensures.calls (λ undone.
    elim (subst (λ n. IsUndoneBy g.R.Region.did n (Read ∷ []) c.flush.new.self c.restore.new.region) c.flush.ensures.extent undone) [
      | inl run ↦ inl (_, (c.in_ok-flush.ensures.call, run))
      | inr rest ↦ inr (rest.0, (rest.1.0, (rest.1.1.0, (_, (c.in_ok-flush.ensures.call, rest.1.1.1)))))
    ])
