use Rattle.std.proofs.Common.{◌∙◌, length}
use Rattle.vos_aggregate.proofs.Covering.{single-said}
use Rattle.vos_aggregate.proofs.later.Later.is_single_said.Goals as goal

pub returns : goal.returns
returns c =
    c.is_said_above.ensures
    ∙ single-said (length c.args.self.now.heads.now) c.args.path.now c.args.buckets.now c.requires c.args.sight c.args.self.now.from c.args.self.now.versions.now c.args.self.now.later.plain
