use Rattle.std.proofs.Common.{◌∙◌, [], length, sym, ap, subst}
use Rattle.base_outside.specs.Images.{Image, bytes_at}
use Rattle.vos_image.specs.Content.{content_of}
use Rattle.vos_image.specs.Places.{read_places}
use Rattle.vos_check_base.specs.Answers.{IsFault}
use Rattle.vos_check_base.specs.declared.refusal.CheckNo.{CheckNo}
use Rattle.vos_check_content.proofs.HeldParts.{of_parts, parts_bytes, parts_shown}
use Rattle.vos_check_content.proofs.Assembling.{places_fault, places_shown}
use Rattle.vos_check_content.proofs.fixed.fixed.Goals as goal

pub returns-in-Ok-clause-read : goal.returns-in-Ok-clause-read
returns-in-Ok-clause-read g c told =
    let f = g.S.Source.bytes c.args.source.now in
    let places = c.as_slice-low.ensures.value ∙ c.in_ok-places.ensures.read told in
    let map = c.as_slice-high.ensures.value ∙ (c.in_ok-map.ensures.read told ∙ ap (λ (z : Image). bytes_at z 307200 16384) (c.bytes_from.ensures.kept told)) in
    c.in-Ok.ensures.read f (places_shown f c.as_slice-low.result.now c.as_slice-high.result.now places map)

pub returns-clause-fault : goal.returns-clause-fault
returns-clause-fault g c told =
    let f = g.S.Source.bytes c.args.source.now in
    let d = content_of c.args.size f in
    let places = c.as_slice-low.ensures.value ∙ c.in_ok-places.ensures.read told in
    let map = c.as_slice-high.ensures.value ∙ (c.in_ok-map.ensures.read told ∙ ap (λ (z : Image). bytes_at z 307200 16384) (c.bytes_from.ensures.kept told)) in
    subst (λ (e : CheckNo). IsFault d (read_places c.args.target d []) e) (sym c.in_check.ensures)
    (places_fault c.args.target c.args.size f c.in-Err.fault (c.in-Err.ensures.foreign f (places_shown f c.as_slice-low.result.now c.as_slice-high.result.now places map)))

pub returns-in-Ok-clause-held : goal.returns-in-Ok-clause-held
returns-in-Ok-clause-held g c =
    let places = c.as_slice-low.result.now in
    let map = c.as_slice-high.result.now in
    let many = ap length c.as_slice-high.ensures.value ∙ c.in_ok-map.ensures.many in
    record { image = of_parts places map; bytes = parts_bytes places map c.are_bytes.ensures c.are_bytes-2.ensures; keeps = (c.in-Ok.ensures.read (of_parts places map) (parts_shown places map many)).keeps }
