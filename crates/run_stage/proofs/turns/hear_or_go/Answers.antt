use Rattle.std.specs.Prelude.{◌<◌}
use Rattle.std.proofs.Common.{arith, subst}
use Rattle.run_base.specs.Letters.{IsPicked}
use Rattle.run_base.specs.Picks.{count_to}
use Rattle.run_laws.specs.shows.Shown.{hears-one}
use Rattle.run_stage.proofs.Working.{heard-one, only-messages}
use Rattle.world_base.specs.Letters.{client}
use Rattle.run_stage.proofs.turns.hear_or_go.Goals as goal

-- it heard a letter
pub returns-clause-works : goal.returns-clause-works
returns-clause-works c =
    let b = c.args.between.now in
    let left = c.take.new.self in
    let before = c.args.one.now in
    let apart = c.if-heard_by-eq0.false in
    let some : 0 < c.heard_by.result = omega (arith, apart) in
    heard-one c.hear.result c.args.n c.args.number before c.hear.new.self b left c.take.result (hears-one before.state (count_to (client c.args.n) b.messages) c.heard_by.result c.args.number c.heard_by.ensures some c.requires.number).awake
    (subst (λ a. IsPicked b.messages a c.args.number c.take.result left.messages) c.client_id.ensures c.take.ensures.picked) (only-messages b left c.take.ensures.asked c.take.ensures.issued c.take.ensures.lines) c.hear.ensures.turn
