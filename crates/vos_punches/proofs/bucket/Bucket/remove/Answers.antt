use Rattle.std.proofs.Common.{refl, sym, ◌∙◌}
use Rattle.vos_punches.specs.Moments.{without_moment}
use Rattle.vos_punches.proofs.Found.{row_absent, row_changed}
use Rattle.vos_punches.proofs.bucket.Bucket.remove.Goals as goal

pub returns-in-Some : goal.returns-in-Some
returns-in-Some c q =
    row_changed (without_moment c.args.at) c.args.path.now q c.args.self.now.rows.items c.in-Some.place c.index_mut.result.now (record { path = c.index_mut.result.now.path; moments = c.remove.new.self })
    (sym c.in-Some.ensures.first) c.index_mut.ensures.value refl c.remove.ensures

pub returns-in_default : goal.returns-in_default
returns-in_default c q = row_absent c.args.at c.args.path.now q c.args.self.now.rows.items (sym c.place_of.ensures.first ∙ c.in_default.is)
