use Rattle.std.proofs.Common.{◌≡◌, ◌∷◌, ◌++◌, ◌+◌, [], List, take, true, false, sym, ◌∙◌, ap}
use Rattle.std.specs.Option.{option_copied}
use Rattle.std.proofs.lemmas.List.{take_more}
use Rattle.daos_model.specs.declared.durable.Version.{Version}
use Rattle.vos_aggregate.proofs.Least.{least-more}
use Rattle.vos_aggregate.proofs.least_open.Goals as goal
use Rattle.vos_aggregate.proofs.least_open.Goals.{then-is_less, else-is_less}

pub loop-version-preserved : goal.loop-version-preserved
loop-version-preserved c =
    let so_far : List Version = take c.loop-version.version-index c.args.versions.now in
    let more : take (c.loop-version.version-index + 1) c.args.versions.now ≡ so_far ++ c.version-item.result ∷ [] =
    take_more c.args.versions.now c.loop-version.version-index c.version-item.result c.loop-version-test.true ∙ ap (λ v. so_far ++ v ∷ []) (sym c.version-item.is) in
    elim c.if-is_less.branch [
      | then-is_less w ↦ rw (w.least-is, more) (least-more c.args.cont c.args.upto so_far c.version-item.result (option_copied c.loop-version.least) true (sym c.is_less.ensures ∙ w.if-is_less.true) c.loop-version.invariant)
      | else-is_less w ↦ rw (w.least-is, more) (least-more c.args.cont c.args.upto so_far c.version-item.result (option_copied c.loop-version.least) false (sym c.is_less.ensures ∙ w.if-is_less.false) c.loop-version.invariant)
    ]
