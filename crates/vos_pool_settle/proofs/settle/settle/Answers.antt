use Rattle.vos_pool_settle.proofs.settle.settle.Goals as goal

pub confirm-requires-clause-target : goal.confirm-requires-clause-target
confirm-requires-clause-target g c = c.requires.member c.in-Confirm.target c.in-Confirm.is
