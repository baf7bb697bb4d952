use Rattle.std.proofs.Common.{sym, ap, ◌∙◌}
use Rattle.base_types.specs.Paths.{cut_at}
use Rattle.vos_punches.specs.Moments.{last_below}
use Rattle.vos_punches.proofs.Found.{at_place, none_of}
use Rattle.vos_punches.proofs.bucket.Bucket.last_below.Goals as goal

pub returns-in-Some : goal.returns-in-Some
returns-in-Some c =
    c.last_below.ensures
    ∙ ap (last_below c.args.below) (sym (at_place (cut_at c.args.level c.args.path.now) c.args.self.now.rows.items c.in-Some.place c.index.result.now (sym c.in-Some.ensures.first) c.index.ensures))

pub returns-in-None : goal.returns-in-None
returns-in-None c = ap (last_below c.args.below) (sym (none_of (cut_at c.args.level c.args.path.now) c.args.self.now.rows.items (sym c.place_of.ensures.first ∙ c.in-None.is)))
