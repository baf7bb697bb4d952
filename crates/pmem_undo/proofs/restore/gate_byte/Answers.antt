use Rattle.std.proofs.Common.{◌∙◌, ap, arith, List, ℕ, get_or}
use Rattle.base_outside.specs.ImageLaws.{get_or-bytes_at}
use Rattle.pmem_undo.specs.Layout.{gate}
use Rattle.pmem_undo.proofs.restore.gate_byte.Goals as goal

pub returns-clause-byte : goal.returns-clause-byte
returns-clause-byte g c t =
    ap (λ (z : List ℕ). get_or z 0 0) (c.in_ok-read.ensures.bytes t) ∙ get_or-bytes_at (g.R.Region.image c.args.region.now) gate 1 0 (omega arith)
