use Rattle.std.proofs.Common.{◌≡◌, true, ap, subst, sym, ◌∙◌}
use Rattle.std.specs.Prelude.{IfSome}
use Rattle.std.specs.Option.{option_copied}
use Rattle.vos_scan.specs.Layers.{covers, covers_at}
use Rattle.vos_scan.proofs.Stretches.{nth-fits}
use Rattle.vos_scan.proofs.layers.record_by.Goals as goal

pub nth_record-requires : goal.nth_record-requires
nth_record-requires c =
    let says : covers_at c.args.index c.in_ok-at.field-0.now ≡ true =
    subst (λ o. IfSome (option_copied o) (λ v. covers_at c.args.index v ≡ true)) c.in_ok-at.was c.requires in
    nth-fits c.args.index c.in-Extent.first c.in-Extent.at c.in-Extent.bytes c.from.result c.from-in-Extent.result c.as_slice.result.now c.from.ensures (c.from-in-Extent.ensures ∙ c.record_size.ensures) c.as_slice.ensures
    (ap (covers c.args.index) (sym c.in-Extent.is) ∙ says)
