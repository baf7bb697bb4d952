use Rattle.std.proofs.Common.{rules, nat_eq, sym, ap, ◌∙◌}
use Rattle.std.specs.HashMap.{get}
use Rattle.std.specs.Option.{option_copied_mut}
use Rattle.vos_punches.specs.Moments.{without_moment}
use Rattle.base_types.specs.Tags.{tag}
use Rattle.vos_punches.specs.Rows.{in_found, moments_at}
use Rattle.vos_punches.proofs.Kept.{absent, put_in}
use Rattle.vos_punches.proofs.punches.Punches.remove.Goals as goal

pub returns-in-Some : goal.returns-in-Some
unfolding moments_at
returns-in-Some c q =
    let updates = (c.get_mut.follows.holds c.remove.new.self).3 (search rules) in
    put_in (without_moment c.args.at) c.args.path.now q c.tag_at-tag.result (get nat_eq c.args.self.now.buckets) (get nat_eq (c.get_mut.follows.lender c.remove.new.self)) c.remove.new.self c.tag_at-tag.ensures updates.0
    c.in-Some.bucket.now (sym c.get_mut.ensures.value ∙ ap option_copied_mut c.in-Some.is) c.remove.ensures

pub returns-in_default : goal.returns-in_default
unfolding moments_at
returns-in_default c q =
    let same = c.get_mut.follows.holds-at-none in
    ap (λ z. in_found (get nat_eq z (tag q)) q) same
    ∙ absent c.args.at c.args.path.now q c.tag_at-tag.result (get nat_eq c.args.self.now.buckets) c.tag_at-tag.ensures (sym c.get_mut.ensures.value ∙ ap option_copied_mut c.in_default.is)
