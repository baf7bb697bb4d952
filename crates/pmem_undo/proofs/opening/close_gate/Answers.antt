use Rattle.std.proofs.Common.{◌∙◌, ap}
use Rattle.base_outside.specs.Images.{Image}
use Rattle.pmem_undo.specs.Layout.{gate}
use Rattle.pmem_undo.proofs.Phases.{OnOk-map}
use Rattle.pmem_undo.proofs.Settling.{gate_at}
use Rattle.pmem_undo.proofs.opening.close_gate.Goals as goal

pub returns-clause-rest : goal.returns-clause-rest
returns-clause-rest g c =
    OnOk-map c.flush.result _ _ c.flush.ensures.lasting (λ only t. record {
      only = only t;
      closed = ap (λ (b : Image). b gate) (c.flush.ensures.image t ∙ c.in_ok-write.ensures.image t) ∙ gate_at 0 (g.R.Region.image c.args.region.now);
    })
