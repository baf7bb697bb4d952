use Rattle.std.proofs.Common.{rules, ◌≡◌, ◌+◌, ◌*◌, ℕ, List, [], ◌∷◌, Option, Err, sym, ap, subst, ◌∙◌, arith}
use Rattle.daos_model.specs.declared.durable.ContRow.{ContRow}
use Rattle.vos_image.specs.Content.{content_of}
use Rattle.vos_image.specs.Laws.{root_blocks}
use Rattle.vos_places.proofs.Writing.{tables_read}
use Rattle.vos_places.specs.Tables.{AreNewSnaps, TableStands, those}
use Rattle.vos_check_places.specs.Fixed.{header_of}
use Rattle.vos_check_places.specs.Parts.{snaps_reading}
use Rattle.vos_check_places.specs.Shown.{StopsAt}
use Rattle.vos_check_places.proofs.Steps.{AllHold, AllShown, judged_well}
use Rattle.vos_check_places.proofs.Whole.{ContsRead, HeaderRead, SnapsRead, ZerosFound, conts_stop, header_stops, map_stops, snaps_stop, table_stands, zeros_stop}
use Rattle.vos_check_places.proofs.places.read_fixed.Goals as goal

pub returns-in_err-header-clause-foreign : goal.returns-in_err-header-clause-foreign
returns-in_err-header-clause-foreign c =
    let is : c.from_residual.result ≡ Err c.in_err-header.field-0.0 = search rules in
    rw is (λ f s.
    let d = content_of c.args.size f in
    header_stops c.args.target d f c.in_err-header.field-0.0 (c.in_err-header.ensures.foreign f s))

pub returns-in_err-conts-clause-foreign : goal.returns-in_err-conts-clause-foreign
returns-in_err-conts-clause-foreign c =
    let is : c.from_residual-in_err-conts.result ≡ Err c.in_err-conts.field-0.0 = search rules in
    rw is (λ f s.
    let d = content_of c.args.size f in
    let h = header_of c.in_ok-header.header in
    let covered : d.covered ≡ c.in_ok-header.header.lease * 256 + 255 = ap (λ (n : ℕ). n * 256 + 255) (c.in_ok-header.ensures.fields f s).lease in
    let before : HeaderRead c.args.target d h = record { header = c.in_ok-header.ensures.read f s } in
    conts_stop c.args.target d h f c.in_err-conts.field-0.0 before (c.in_err-conts.ensures.foreign d (λ i low high. s.low i (omega arith) (omega arith)) covered (root_blocks h)))

pub returns-in_err-snaps-clause-foreign : goal.returns-in_err-snaps-clause-foreign
returns-in_err-snaps-clause-foreign c =
    let is : c.from_residual-in_err-snaps.result ≡ Err c.in_err-snaps.field-0.0 = search rules in
    rw is (λ f s.
    let d = content_of c.args.size f in
    let h = header_of c.in_ok-header.header in
    let covered : d.covered ≡ c.in_ok-header.header.lease * 256 + 255 = ap (λ (n : ℕ). n * 256 + 255) (c.in_ok-header.ensures.fields f s).lease in
    let conts = c.in_ok-conts.conts.items in
    let first : ContsRead c.args.target d h conts = record { header = c.in_ok-header.ensures.read f s; many = c.in_ok-conts.ensures.many; held = c.in_ok-conts.ensures.held d (λ i low high. s.low i (omega arith) (omega arith)) covered; new = c.in_ok-conts.ensures.new } in
    snaps_stop c.args.target d h conts f c.in_err-snaps.field-0.0 first
    (subst (λ (z : List (Option ContRow)). StopsAt (snaps_reading d (those z) (root_blocks h)) f c.in_err-snaps.field-0.0) c.deref.ensures.value
    (c.in_err-snaps.ensures.foreign d (λ i low high. s.low i (omega arith) (omega arith)) (root_blocks h))))

pub returns-in_err-judge-clause-foreign : goal.returns-in_err-judge-clause-foreign
returns-in_err-judge-clause-foreign c =
    let is : c.from_residual-in_err-judge.result ≡ Err c.in_err-judge.field-0.0 = search rules in
    rw is (λ f s.
    let d = content_of c.args.size f in
    let h = header_of c.in_ok-header.header in
    let covered : d.covered ≡ c.in_ok-header.header.lease * 256 + 255 = ap (λ (n : ℕ). n * 256 + 255) (c.in_ok-header.ensures.fields f s).lease in
    let conts = c.in_ok-conts.conts.items in
    let first : ContsRead c.args.target d h conts = record { header = c.in_ok-header.ensures.read f s; many = c.in_ok-conts.ensures.many; held = c.in_ok-conts.ensures.held d (λ i low high. s.low i (omega arith) (omega arith)) covered; new = c.in_ok-conts.ensures.new } in
    let snaps = c.in_ok-snaps.snaps.items in
    let next : SnapsRead c.args.target d h conts snaps = record {
      before = first;
      many = c.in_ok-snaps.ensures.many;
      held = c.in_ok-snaps.ensures.held d (λ i low high. s.low i (omega arith) (omega arith));
      new = subst (λ (z : List (Option ContRow)). AreNewSnaps (those z) [] (those snaps)) c.deref.ensures.value c.in_ok-snaps.ensures.new;
    } in
    let zeros : ZerosFound d c.zeros_at.result c.zeros_at-2.result = record {
      low_is = c.zeros_at.ensures.zeros f (λ i low high. s.low i (omega arith) (omega arith));
      high_is = c.zeros_at-2.ensures.zeros f (λ i low high. s.high i (omega arith) (omega arith));
    } in
    let shown : AllShown f c.args.fixed.now (c.zeros_at.result ∷ c.zeros_at-2.result ∷ []) = (
      s.low c.zeros_at.result.0 (omega arith) (omega (arith, c.zeros_at.ensures.high)),
      (s.high c.zeros_at-2.result.0 (omega (arith, c.zeros_at-2.ensures.low)) (omega (arith, c.zeros_at-2.ensures.high)), tt),
    ) in
    zeros_stop c.args.target d h conts snaps f c.in_err-judge.field-0.0 c.args.fixed.now c.zeros_at.result c.zeros_at-2.result next zeros shown (sym c.judge.ensures ∙ c.in_err-judge.was))

pub returns-in_err-read_map-clause-foreign : goal.returns-in_err-read_map-clause-foreign
returns-in_err-read_map-clause-foreign c =
    let is : c.from_residual-in_err-read_map.result ≡ Err c.in_err-read_map.field-0.0 = search rules in
    rw is (λ f s.
    let d = content_of c.args.size f in
    let h = header_of c.in_ok-header.header in
    let covered : d.covered ≡ c.in_ok-header.header.lease * 256 + 255 = ap (λ (n : ℕ). n * 256 + 255) (c.in_ok-header.ensures.fields f s).lease in
    let conts = c.in_ok-conts.conts.items in
    let first : ContsRead c.args.target d h conts = record { header = c.in_ok-header.ensures.read f s; many = c.in_ok-conts.ensures.many; held = c.in_ok-conts.ensures.held d (λ i low high. s.low i (omega arith) (omega arith)) covered; new = c.in_ok-conts.ensures.new } in
    let snaps = c.in_ok-snaps.snaps.items in
    let next : SnapsRead c.args.target d h conts snaps = record {
      before = first;
      many = c.in_ok-snaps.ensures.many;
      held = c.in_ok-snaps.ensures.held d (λ i low high. s.low i (omega arith) (omega arith));
      new = subst (λ (z : List (Option ContRow)). AreNewSnaps (those z) [] (those snaps)) c.deref.ensures.value c.in_ok-snaps.ensures.new;
    } in
    let zeros : ZerosFound d c.zeros_at.result c.zeros_at-2.result = record {
      low_is = c.zeros_at.ensures.zeros f (λ i low high. s.low i (omega arith) (omega arith));
      high_is = c.zeros_at-2.ensures.zeros f (λ i low high. s.high i (omega arith) (omega arith));
    } in
    let all : AllHold (c.zeros_at.result ∷ c.zeros_at-2.result ∷ []) = judged_well c.args.fixed.now (c.zeros_at.result ∷ c.zeros_at-2.result ∷ []) _ (sym c.judge.ensures ∙ c.in_ok-judge.was) in
    map_stops c.args.target d h conts snaps f c.in_err-read_map.field-0.0 c.zeros_at.result c.zeros_at-2.result next zeros all (c.in_err-read_map.ensures.foreign f s.blocks (root_blocks h)))

pub returns-clause-read : goal.returns-clause-read
returns-clause-read c f s =
    let d = content_of c.args.size f in
    let h = header_of c.in_ok-header.header in
    let covered : d.covered ≡ c.in_ok-header.header.lease * 256 + 255 = ap (λ (n : ℕ). n * 256 + 255) (c.in_ok-header.ensures.fields f s).lease in
    let conts = c.in_ok-conts.conts.items in
    let first : ContsRead c.args.target d h conts = record { header = c.in_ok-header.ensures.read f s; many = c.in_ok-conts.ensures.many; held = c.in_ok-conts.ensures.held d (λ i low high. s.low i (omega arith) (omega arith)) covered; new = c.in_ok-conts.ensures.new } in
    let snaps = c.in_ok-snaps.snaps.items in
    let next : SnapsRead c.args.target d h conts snaps = record {
      before = first;
      many = c.in_ok-snaps.ensures.many;
      held = c.in_ok-snaps.ensures.held d (λ i low high. s.low i (omega arith) (omega arith));
      new = subst (λ (z : List (Option ContRow)). AreNewSnaps (those z) [] (those snaps)) c.deref.ensures.value c.in_ok-snaps.ensures.new;
    } in
    let zeros : ZerosFound d c.zeros_at.result c.zeros_at-2.result = record {
      low_is = c.zeros_at.ensures.zeros f (λ i low high. s.low i (omega arith) (omega arith));
      high_is = c.zeros_at-2.ensures.zeros f (λ i low high. s.high i (omega arith) (omega arith));
    } in
    let all : AllHold (c.zeros_at.result ∷ c.zeros_at-2.result ∷ []) = judged_well c.args.fixed.now (c.zeros_at.result ∷ c.zeros_at-2.result ∷ []) _ (sym c.judge.ensures ∙ c.in_ok-judge.was) in
    let keeps : TableStands c.args.target d (record { header = h; conts = conts; snaps = snaps }) = table_stands c.args.target d h conts snaps c.zeros_at.result c.zeros_at-2.result next zeros all (c.in_ok-read_map.ensures.read f s.blocks) in
    record { keeps = keeps; read = tables_read c.args.target c.args.size f (record { header = h; conts = conts; snaps = snaps }) keeps }
