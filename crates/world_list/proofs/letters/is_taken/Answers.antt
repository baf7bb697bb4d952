use Rattle.std.proofs.Common.{arith}
use Rattle.std.proofs.lemmas.Bool.{cases_order}
use Rattle.world_list.specs.Taken.{IsTakenAt}
use Rattle.world_list.proofs.Taken.{none_more, nowhere}
use Rattle.world_list.proofs.letters.is_taken.Goals as goal

pub loop-at-init : goal.loop-at-init
loop-at-init c = λ k within _. let none : ⊥ = omega (arith, within) in none

pub loop-at-preserved : goal.loop-at-preserved
loop-at-preserved c = λ k within at.
    none_more (λ n. IsTakenAt c.args.after.now c.args.before.now n c.args.letter.now c.args.sent.now) c.loop-at.at c.loop-at.invariant
    (λ there. let yes = c.is_taken_at.ensures.1 there in let no : ⊥ = cc (yes, c.if-is_taken_at.false) in no) k within (cases_order k c.loop-at.at) at

pub returns : goal.returns
returns c = (
  λ e. let no : ⊥ = cc in absurd no,
  λ h. absurd (nowhere c.args.after.now c.args.before.now c.args.letter.now c.args.sent.now c.loop-at.at c.loop-at-test.false c.loop-at.invariant h),
)
