use Rattle.std.proofs.Common.{◌≡◌, ◌∙◌, arith, false, refl, sym, true}
use Rattle.dtx_table.specs.Due.{is_owed_at, is_owed_somewhere}
use Rattle.dtx_table.specs.Ranges.{any_here, any_later, none_anywhere}
use Rattle.dtx_table.proofs.batch.is_owed_somewhere.Goals as goal

pub loop-target-init : goal.loop-target-init
unfolding is_owed_somewhere
loop-target-init c = refl

pub returns-then-is_here : goal.returns-then-is_here
returns-then-is_here c =
    let is : is_owed_at c.args.down c.args.named.now c.args.entry.now c.loop-target.target ≡ true = sym c.is_owed_at-is_here.ensures ∙ c.if-is_here.true in
    any_here (is_owed_at c.args.down c.args.named.now c.args.entry.now) _ c.loop-target.target 64 (omega arith) is c.loop-target.invariant

pub loop-target-preserved : goal.loop-target-preserved
loop-target-preserved c =
    let is : is_owed_at c.args.down c.args.named.now c.args.entry.now c.loop-target.target ≡ false = sym c.is_owed_at-is_here.ensures ∙ c.if-is_here.false in
    any_later (is_owed_at c.args.down c.args.named.now c.args.entry.now) _ c.loop-target.target 64 (omega arith) is c.loop-target.invariant

pub returns : goal.returns
returns c = none_anywhere (is_owed_at c.args.down c.args.named.now c.args.entry.now) _ c.loop-target.target 64 (omega arith) c.loop-target.invariant
