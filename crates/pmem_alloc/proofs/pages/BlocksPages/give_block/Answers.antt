use Rattle.std.proofs.Common.{ap, arith}
use Rattle.pmem_alloc.specs.Blocks.{BlocksState}
use Rattle.pmem_alloc.proofs.Paging.{block_taken}
use Rattle.pmem_alloc.proofs.Shown.{given_shown, given_count, taken_named}
use Rattle.pmem_alloc.proofs.pages.BlocksPages.give_block.Goals as goal

pub returns-in-Some-clause-given : goal.returns-in-Some-clause-given
returns-in-Some-clause-given g c t =
    given_shown g.R.Region.image c.args.self.now c.give.new.self c.args.block (omega arith) c.give.ensures.given
    c.give.ensures.beside (ap (λ (b : BlocksState _). b.undo.region) c.give.ensures.rest) c.give.ensures.staged

pub returns-in-Some-clause-free : goal.returns-in-Some-clause-free
returns-in-Some-clause-free g c t =
    let taken = block_taken _ _ _ _ (taken_named _ _ _ (omega arith) (c.requires t)) in
    given_count c.args.self.now c.give.new.self c.args.block c.give.ensures.given (ap (λ (b : BlocksState _). b.map.end) c.give.ensures.rest) taken.1.0 taken.1.1

pub returns-in-None-clause-given : goal.returns-in-None-clause-given
returns-in-None-clause-given g c t = let no = c.in-None.ensures.taken.1 (block_taken _ _ _ _ (taken_named _ _ _ (omega arith) (c.requires t))) in absurd (cc)

pub returns-in-None-clause-free : goal.returns-in-None-clause-free
returns-in-None-clause-free g c t = let no = c.in-None.ensures.taken.1 (block_taken _ _ _ _ (taken_named _ _ _ (omega arith) (c.requires t))) in absurd (cc)
