use Rattle.std.proofs.Common.{◌≤◌, subst, sym, arith}
use Rattle.pmem_undo.specs.Undo.{UndoState}
use Rattle.pmem_alloc.specs.Blocks.{IsBlocks, BlocksState, free_count, HoldsBlocks}
use Rattle.pmem_alloc.proofs.Staging.{is_blocks}
use Rattle.pmem_alloc.proofs.Holding.{holds_marked}
use Rattle.pmem_alloc.proofs.blocks.Blocks.take.Goals as goal

pub returns-then-count-n-clause-holds : goal.returns-then-count-n-clause-holds
returns-then-count-n-clause-holds g c =
    subst (λ (b : BlocksState _). IsBlocks (g.R.Region.extent b.undo.region) g.R.Region.tells (g.R.Region.image b.undo.region) b.undo.staged b.undo.stopped b.map b.lasting) c.self.view_is
    (is_blocks _ _ _ _ _ c.self.inside.map c.self.inside.lasting c.self.inside.many c.self.invariant)

pub returns-clause-holds : goal.returns-clause-holds
returns-clause-holds g c =
    let b = c.self.inside in
    let enough : c.args.n ≤ free_count c.args.self.now =
    subst (λ (s : BlocksState _). c.args.n ≤ free_count s) c.self.view_is (let count = c.count.ensures in omega arith) in
    let few = (c.requires.room enough).0 in
    let holds = λ (u : UndoState _). HoldsBlocks (g.R.Region.extent u.region) g.R.Region.tells (g.R.Region.image u.region) u.staged u.stopped c.take_many.new.map.bytes b.lasting.bytes c.take_many.new.map.end b.lasting.end c.args.n in
    is_blocks _ _ _ _ _ c.take_many.new.map b.lasting c.args.n
    (subst holds (sym c.take_many.ensures.rest)
    (holds_marked _ _ _ b.undo.staged c.take_many.new.undo.staged _ b.map.bytes _ _ b.map.end _ _ _ _ c.self.invariant c.take_many.ensures.end (c.take_many.ensures.stands (g.R.Region.image b.undo.region)) (omega arith)))
