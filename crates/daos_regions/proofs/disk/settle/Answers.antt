use Rattle.std.proofs.Common.{arith, ap, length, ℕ, List}
use Rattle.daos_regions.proofs.Holding.{fit_at}
use Rattle.daos_regions.proofs.disk.settle.Goals as goal

pub lay-requires : goal.lay-requires
lay-requires c =
    let fits = fit_at _ c.args.pieces.now c.loop-number.number c.index-pieces-number.result c.requires (omega arith) c.index-pieces-number.is in
    omega (arith, ap (λ (z : List ℕ). length z) c.deref.ensures.value)
