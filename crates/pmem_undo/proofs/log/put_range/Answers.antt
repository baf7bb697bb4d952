use Rattle.std.proofs.Common.{◌≡◌, ◌+◌, ◌++◌, ◌∙◌, ℕ, take, ap, arith}
use Rattle.pmem_undo.specs.Log.{number_bytes}
use Rattle.pmem_undo.proofs.Filling.{range_put}
use Rattle.pmem_undo.proofs.log.put_range.Goals as goal

pub returns-clause-bytes : goal.returns-clause-bytes
returns-clause-bytes g c t =
    let at = c.args.at in
    let eight : at + 8 ≡ at + 4 + 4 = omega arith in
    let second : take (at + 8) c.put_number-2.new.body ≡ take (at + 4) c.put_number.new.body ++ number_bytes c.args.span.length = ap (λ (k : ℕ). take k c.put_number-2.new.body) eight ∙ c.put_number-2.ensures in
    range_put (g.R.Region.image c.args.region.now) c.args.span (take at c.args.body.now) (take (at + 4) c.put_number.new.body) (take (at + 8) c.put_number-2.new.body) _ c.put_number.ensures second (c.in_ok-put_bytes.ensures.bytes t)
