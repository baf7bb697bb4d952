use Rattle.std.specs.Prelude.{◌≡◌}
use Rattle.std.proofs.Common.{ap, subst}
use Rattle.run_base.specs.Letters.{IsPicked, IsPlaceOf}
use Rattle.run_base.proofs.Places.{picked-at}
use Rattle.run_base.proofs.between.Between.take.Goals as goal

pub returns-clause-picked : goal.returns-clause-picked
returns-clause-picked c =
    let kept : c.self.inside.messages.items ≡ c.args.self.now.messages = ap (λ b. b.messages) c.self.view_is in
    let read : c.deref.result.now ≡ c.self.inside.messages.items = c.deref.ensures.value in
    let at = subst (λ ls. IsPlaceOf ls c.args.to c.args.number c.place_of-place.result) read c.place_of-place.ensures.place in
    subst (λ ls. IsPicked ls c.args.to c.args.number c.remove.result c.remove.new.self.items) kept
    (picked-at c.self.inside.messages.items c.args.to c.args.number c.place_of-place.result c.remove.result c.remove.new.self.items at c.remove.ensures.value c.remove.ensures.by_index.2)
