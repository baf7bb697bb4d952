use Rattle.std.proofs.Common.{sym, subst}
use Rattle.pmem_undo.specs.Undo.{UndoState}
use Rattle.pmem_alloc.specs.Blocks.{HoldsBlocks}
use Rattle.pmem_alloc.proofs.Staging.{is_blocks}
use Rattle.pmem_alloc.proofs.Holding.{holds_staged, ok_or_err}
use Rattle.pmem_alloc.proofs.blocks.Blocks.stage.Goals as goal

pub invariant_of-self : goal.invariant_of-self
invariant_of-self g c =
    let b = c.self.inside in
    let holds = λ (u : UndoState _). HoldsBlocks (g.R.Region.extent u.region) g.R.Region.tells (g.R.Region.image u.region) u.staged u.stopped b.map.bytes b.lasting.bytes b.map.end b.lasting.end b.many in
    ok_or_err c.stage.result c.stage.ensures.staged c.stage.ensures.kept
    (λ e. subst holds (sym e) (holds_staged _ _ _ _ _ _ _ _ _ _ c.args.at c.args.bytes.now c.self.invariant c.requires.outside))
    (λ e. subst holds (sym e) c.self.invariant)

pub returns-clause-holds : goal.returns-clause-holds
returns-clause-holds g c =
    is_blocks _ _ _ _ _ c.self.inside.map c.self.inside.lasting c.self.inside.many (invariant_of-self g c)
