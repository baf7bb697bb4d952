use Rattle.std.proofs.Common.{nat_eq, sym, ap, ◌∙◌}
use Rattle.std.specs.HashMap.{get}
use Rattle.std.specs.Option.{option_copied}
use Rattle.base_types.specs.Paths.{cut_at}
use Rattle.vos_punches.specs.Moments.{last_below}
use Rattle.vos_punches.specs.Rows.{in_found, moments_at}
use Rattle.vos_punches.proofs.punches.Punches.last_below.Goals as goal

pub returns-in-Some : goal.returns-in-Some
unfolding moments_at
returns-in-Some c =
    let p = cut_at c.args.level c.args.path.now in
    c.last_below.ensures
    ∙ ap (last_below c.args.below)
    (ap (λ z. in_found z p) (sym (ap option_copied c.in-Some.is) ∙ c.get.ensures.value)
    ∙ ap (λ k. in_found (get nat_eq c.args.self.now.buckets k) p) c.tag_at.ensures)

pub returns-in-None : goal.returns-in-None
unfolding moments_at
returns-in-None c =
    let p = cut_at c.args.level c.args.path.now in
    ap (last_below c.args.below)
    (ap (λ z. in_found z p) (sym (ap option_copied c.in-None.is) ∙ c.get.ensures.value)
    ∙ ap (λ k. in_found (get nat_eq c.args.self.now.buckets k) p) c.tag_at.ensures)
