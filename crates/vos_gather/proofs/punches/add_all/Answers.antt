use Rattle.std.proofs.Common.{[], ◌∷◌, subst, sym}
use Rattle.std.specs.Prelude.{take}
use Rattle.vos_punches.specs.Punches.{IsAdded}
use Rattle.vos_punches.specs.Rows.{moments_at}
use Rattle.vos_settle.specs.Names.{moment_of}
use Rattle.vos_gather.specs.Gathered.{Gathered}
use Rattle.vos_gather.proofs.Gathering.{gathered_add, gathered_then}
use Rattle.vos_gather.proofs.Listing.{take_next}
use Rattle.vos_gather.proofs.punches.add_all.Goals as goal

pub loop-name-preserved : goal.loop-name-preserved
loop-name-preserved c =
    let ns = c.args.names.now in
    let i = c.loop-name.name-index in
    let n = c.name-item.result in
    let f = moments_at c.args.index.now in
    let g = moments_at c.loop-name.index in
    let h = moments_at c.add.new.self in
    let added : IsAdded g h n.path (moment_of n) = subst (λ p. IsAdded g h p (moment_of n)) c.in_ok-path.ensures (subst (IsAdded g h c.in_ok-path.path) c.moment.ensures c.in_ok-add.ensures.added) in
    record { gathered = subst (λ z. Gathered z f h) (sym (take_next ns i n c.loop-name-test.true c.name-item.is)) (gathered_then (take i ns) (n ∷ []) f g h c.loop-name.invariant.gathered (gathered_add n g h added)) }
