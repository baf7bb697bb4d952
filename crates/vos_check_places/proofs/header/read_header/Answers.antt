use Rattle.std.proofs.Common.{rules, ◌≡◌, Err, sym, ◌∙◌}
use Rattle.vos_image.specs.Content.{content_of}
use Rattle.vos_check_places.proofs.HeaderRules.{header_found, header_goes, header_rules, header_stops}
use Rattle.vos_check_places.proofs.Steps.{judged_well}
use Rattle.vos_check_places.proofs.header.read_header.Goals as goal

pub returns-in_err-judge-clause-foreign : goal.returns-in_err-judge-clause-foreign
returns-in_err-judge-clause-foreign c =
    let is : c.from_residual.result ≡ Err c.in_err-judge.field-0.0 = search rules in
    rw is (λ f s.
    let d = content_of c.args.size f in
    let bs = c.args.fixed.now in
    let h = c.fields_at-header.result in
    let gap = c.zeros_at.ensures in
    let rest = c.zeros_at-2.ensures in
    let k = header_found d bs c.eight_at.result h c.magic.result c.zeros_at.result c.zeros_at-2.result c.is_layout.result c.is_root.result c.is_root-2.result s.low (c.fields_at-header.ensures f s.low)
    c.magic.ensures.first c.magic.ensures.high gap.zeros gap.low gap.high rest.zeros rest.low rest.high c.eight_at.ensures c.is_layout.ensures (c.is_root.ensures f s.blocks) (c.is_root-2.ensures f s.blocks) in
    header_stops c.args.target d bs c.eight_at.result h c.magic.result c.zeros_at.result c.zeros_at-2.result c.is_layout.result c.is_root.result c.is_root-2.result c.in_err-judge.field-0.0 k (sym c.judge.ensures ∙ c.in_err-judge.was))

pub returns-clause-read : goal.returns-clause-read
returns-clause-read c f s =
    let d = content_of c.args.size f in
    let bs = c.args.fixed.now in
    let h = c.fields_at-header.result in
    let gap = c.zeros_at.ensures in
    let rest = c.zeros_at-2.ensures in
    let k = header_found d bs c.eight_at.result h c.magic.result c.zeros_at.result c.zeros_at-2.result c.is_layout.result c.is_root.result c.is_root-2.result s.low (c.fields_at-header.ensures f s.low)
    c.magic.ensures.first c.magic.ensures.high gap.zeros gap.low gap.high rest.zeros rest.low rest.high c.eight_at.ensures c.is_layout.ensures (c.is_root.ensures f s.blocks) (c.is_root-2.ensures f s.blocks) in
    header_goes c.args.target d bs c.eight_at.result h c.magic.result c.zeros_at.result c.zeros_at-2.result c.is_layout.result c.is_root.result c.is_root-2.result k
    (judged_well bs (header_rules c.args.target c.args.size c.eight_at.result h c.magic.result c.zeros_at.result c.zeros_at-2.result c.is_layout.result c.is_root.result c.is_root-2.result) _ (sym c.judge.ensures ∙ c.in_ok-judge.was))
