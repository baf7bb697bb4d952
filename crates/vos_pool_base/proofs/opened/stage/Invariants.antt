use Rattle.vos_pool_base.proofs.Staging.{StagedSoFar}
use Rattle.vos_pool_base.proofs.opened.stage.Given as goal

-- what the first changes write is staged: a range each, of 64 bytes at most
abbrev pub invariant-loop-change : goal.invariant-loop-change
invariant-loop-change g l = StagedSoFar l.initial.blocks l.blocks l.initial.changes l.change-index
