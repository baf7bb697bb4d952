use Rattle.std.proofs.Common.{◌∙◌, sym, subst}
use Rattle.pmem_alloc.specs.Map.{MapState}
use Rattle.pmem_undo.specs.Settled.{ComesFrom}
use Rattle.pmem_alloc.specs.Blocks.{IsBlocks, BlocksState}
use Rattle.pmem_alloc.proofs.Staging.{is_blocks}
use Rattle.pmem_alloc.proofs.Holding.{holds_committed}
use Rattle.pmem_alloc.proofs.blocks.Blocks.commit.Goals as goal

pub returns-clause-holds : goal.returns-clause-holds
returns-clause-holds g c =
    subst (λ (m : MapState). IsBlocks (g.R.Region.extent c.commit.new.self.region) g.R.Region.tells (g.R.Region.image c.commit.new.self.region) c.commit.new.self.staged c.commit.new.self.stopped c.self.inside.map m) (sym c.copy-self-inside.ensures)
    (is_blocks _ _ _ _ _ c.self.inside.map c.self.inside.map c.self.inside.many
    (holds_committed _ _ _ _ _ _ _ _ _ _ _ _ _ _ c.self.invariant c.commit.ensures.extent c.in_ok-commit.ensures.committed c.in_ok-commit.ensures.staged (λ on. c.in_ok-commit.ensures.stops.went_on ∙ on)))

pub returns-in_err-commit-clause-from : goal.returns-in_err-commit-clause-from
returns-in_err-commit-clause-from g c t =
    subst (λ (b : BlocksState _). ComesFrom (g.R.Region.extent b.undo.region) b.undo.staged (g.R.Region.may_leave b.undo.region) (g.R.Region.may_leave c.commit.new.self.region)) c.self.view_is (c.commit.ensures.from t)
