use Rattle.std.proofs.Common.{◌∙◌, ap, sym}
use Rattle.base_outside.specs.Images.{Image}
use Rattle.pmem_undo.specs.Layout.{gate}
use Rattle.pmem_undo.proofs.Attaching.{stands_same, attachable_same, stands_from, looks_only, settled_shut, settled_closes}
use Rattle.pmem_undo.specs.Settled.{StandsFor, settled}
use Rattle.pmem_undo.proofs.Moments.{leaves_now}
use Rattle.pmem_undo.proofs.Phases.{OnOk-both}
use Rattle.pmem_undo.proofs.restore.restore.Goals as goal

pub returns-then-byte-eq0-clause-image : goal.returns-then-byte-eq0-clause-image
returns-then-byte-eq0-clause-image g c t =
    let f = g.R.Region.image c.args.region.now in
    (c.gate_byte.ensures.looks t).image ∙ sym (settled_shut (g.R.Region.extent c.args.region.now) f (sym (c.in_ok-byte.ensures.byte t) ∙ c.if-byte-eq0.true))

pub returns-clause-rest : goal.returns-clause-rest
returns-clause-rest g c =
    OnOk-both c.undo.result _ _ _ c.undo.ensures.image c.undo.ensures.only (λ image only t. record {
      only = only t;
      closed = ap (λ (b : Image). b gate) (image t) ∙ settled_closes _ _;
    })

pub returns-in_err-byte-clause-left : goal.returns-in_err-byte-clause-left
returns-in_err-byte-clause-left g c t z here =
    stands_same _ _ z (c.requires.log t) (c.requires.only t z ((c.gate_byte.ensures.looks t).crash z here))

pub returns-then-byte-eq0-clause-left : goal.returns-then-byte-eq0-clause-left
returns-then-byte-eq0-clause-left g c t z here =
    stands_same _ _ z (c.requires.log t) (c.requires.only t z ((c.gate_byte.ensures.looks t).crash z here))

pub returns-clause-left : goal.returns-clause-left
returns-clause-left g c t z here =
    let one = c.gate_byte.new.region in
    let two = c.undo.new.region in
    let looks = c.gate_byte.ensures.looks t in
    let size = g.R.Region.extent c.args.region.now in
    let f = g.R.Region.image c.args.region.now in
    let ok = attachable_same size (g.R.Region.extent one) f (g.R.Region.image one) (c.requires.log t) c.gate_byte.ensures.extent looks.image in
    let l = c.undo.ensures.any_moment t in
    let only = looks_only _ _ _ _ _ _ _ _ (c.requires.only t) looks in
    stands_from size _ f _ z c.gate_byte.ensures.extent looks.image
    (leaves_now _ _ _ _ (g.R.Region.may_leave one) (g.R.Region.may_leave two) (StandsFor (g.R.Region.extent one) (settled (g.R.Region.extent one) (g.R.Region.image one))) l
    (λ y h. g.met.R.Region.counts_now two (g.R.Region.moment one) y t l.later h) (λ y h. g.met.R.Region.only_now one y t h)
    (λ y h. stands_same _ _ y ok (only y h)) z here)
