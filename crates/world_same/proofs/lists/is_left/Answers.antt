use Rattle.std.proofs.Common.{arith, ◌≡◌, ◌≤◌, ◌+◌, ◌++◌, length, subst, ◌∙◌}
use Rattle.std.specs.Bool.{Decides}
use Rattle.std.proofs.Math.ListN.{take, drop}
use Rattle.std.proofs.lemmas.List.{length-take-le}
use Rattle.world_same.proofs.Taken.{joins}
use Rattle.world_same.proofs.lists.is_left.Goals as goal

pub returns-then-same_items : goal.returns-then-same_items
returns-then-same_items g c =
    let within : c.args.at ≤ length c.args.before.now = omega (arith, c.requires) in
    joins c.args.all.now (take c.args.at c.args.before.now) (drop (c.args.at + 1) c.args.before.now ++ c.args.more.now) c.args.at c.split_at.result.0.now c.split_at.result.1.now
    (length-take-le c.args.at c.args.before.now within) c.split_at.ensures.front c.split_at.ensures.back
    (c.same_items.ensures.0 c.if-same_items.true ∙ c.split_at-2.ensures.front) c.is_joined.result
    (subst (λ x. Decides c.is_joined.result (c.split_at.result.1.now ≡ x ++ c.args.more.now)) c.split_at-3.ensures.back c.is_joined.ensures)
