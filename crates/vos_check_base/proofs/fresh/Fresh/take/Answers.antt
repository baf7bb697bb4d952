use Rattle.std.proofs.Common.{◌≡◌, true, arith, sym, subst, ap, ◌∙◌}
use Rattle.vos_check_base.specs.Sets.{FreshState, open_of, without}
use Rattle.vos_check_base.proofs.Sets.{cleared, open_in_within}
use Rattle.vos_check_base.proofs.fresh.Fresh.take.Goals as goal

pub bounds-self-inside-at : goal.bounds-self-inside-at
bounds-self-inside-at c =
    let has = subst (λ (m : FreshState). open_of m c.args.block ≡ true) (sym c.self.view_is) c.requires in
    let within = open_in_within _ _ _ has in omega (arith, within.1, c.self.invariant)

pub bounds-self-inside-at-2 : goal.bounds-self-inside-at-2
bounds-self-inside-at-2 c =
    let has = subst (λ (m : FreshState). open_of m c.args.block ≡ true) (sym c.self.view_is) c.requires in
    let within = open_in_within _ _ _ has in omega (arith, within.1, c.self.invariant)

pub returns : goal.returns
returns c q =
    let has = subst (λ (m : FreshState). open_of m c.args.block ≡ true) (sym c.self.view_is) c.requires in
    let within = open_in_within _ _ _ has in
    cleared c.self.inside.end c.self.inside.bytes c.args.block c.without_bit.result c.self.told c.self.invariant within.0 within.1 c.without_bit.ensures.same c.without_bit.ensures.others q
    ∙ ap (λ (m : FreshState). without (open_of m) c.args.block q) c.self.view_is
