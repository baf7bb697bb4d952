use Rattle.std.proofs.Common.{arith}
use Rattle.pmem_alloc.proofs.Holding.{on_ok, ok_or_err}
use Rattle.pmem_alloc.proofs.Paging.{block_taken}
use Rattle.pmem_alloc.proofs.Shown.{staged_shown, staged_spent, kept_spent, taken_named}
use Rattle.pmem_alloc.proofs.pages.BlocksPages.stage_block.Goals as goal

pub returns-in-Some-clause-staged : goal.returns-in-Some-clause-staged
returns-in-Some-clause-staged g c =
    on_ok c.stage.result c.stage.ensures.staged (λ is t.
    let taken = block_taken _ _ _ _ (taken_named _ _ _ (omega arith) (c.requires t)) in
    staged_shown g.R.Region.image c.args.self.now c.stage.new.self c.args.block c.in-Some.place c.args.from.now is c.in-Some.ensures.place c.told-from (omega arith) taken.0 taken.1.0 taken.1.1)

pub returns-in-Some-clause-spent : goal.returns-in-Some-clause-spent
returns-in-Some-clause-spent g c =
    ok_or_err c.stage.result c.stage.ensures.staged c.stage.ensures.kept
    (λ is. staged_spent c.args.self.now c.stage.new.self c.in-Some.place c.args.from.now is c.told-from)
    (λ is. kept_spent 1 256 c.args.self.now c.stage.new.self is)

pub returns-in-None-clause-staged : goal.returns-in-None-clause-staged
returns-in-None-clause-staged g c t = let no = c.in-None.ensures.taken.1 (block_taken _ _ _ _ (taken_named _ _ _ (omega arith) (c.requires t))) in absurd (cc)
