use Rattle.std.proofs.Common.{◌≡◌, nat_eq, Some, None, sym, subst, ap, ◌∙◌}
use Rattle.std.specs.Map.{lookup}
use Rattle.std.specs.Option.{option_copied}
use Rattle.vos_stamp.specs.Marks.{above, side}
use Rattle.vos_stamp.specs.Raised.{AnswersAt, Marked, own_mark}
use Rattle.vos_stamp.proofs.Kept.{slot-is}
use Rattle.vos_stamp.proofs.Looked.{own-answers, slot-answers}
use Rattle.vos_stamp.proofs.table.Table.raised_above.Goals as goal

pub returns-in-Some : goal.returns-in-Some
returns-in-Some c =
    subst (λ (t : Marked). AnswersAt t.raises c.args.low c.args.entity c.args.epoch.0 (Some c.in-Some.read.now)) c.self.view_is
    (own-answers c.self.inside.own.entries c.self.inside.slots.items c.self.inside.history.raises c.self.invariant.1 c.args.low c.args.entity c.args.epoch.0 c.in-Some.read.now
    (sym c.own_above.ensures ∙ ap option_copied c.in-Some.is))

pub returns-in-None : goal.returns-in-None
returns-in-None c =
    let none : above c.args.epoch.0 (own_mark c.args.low (lookup (nat_eq c.args.entity) c.self.inside.own.entries)) ≡ None = sym c.own_above.ensures ∙ ap option_copied c.in-None.is in
    let slot = slot-is c.self.inside.slots.items c.args.entity c.place.result c.index.result.now c.self.invariant.1.sized c.place.ensures c.index.ensures in
    let answer = slot-answers c.self.inside.own.entries c.self.inside.slots.items c.self.inside.history.raises c.self.invariant.1 c.args.low c.args.entity c.args.epoch.0 none in
    subst (λ (t : Marked). AnswersAt t.raises c.args.low c.args.entity c.args.epoch.0 (option_copied c.above.result)) c.self.view_is
    (subst (AnswersAt c.self.inside.history.raises c.args.low c.args.entity c.args.epoch.0) (sym (c.above.ensures ∙ ap (λ m. above c.args.epoch.0 (side c.args.low m)) slot)) answer)
