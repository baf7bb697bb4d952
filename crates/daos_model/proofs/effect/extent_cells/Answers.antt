use Rattle.std.proofs.Common.{◌≡◌, ◌+◌, ◌*◌, ◌-◌, ◌/◌, ◌<◌, ◌≤◌, length, reverse, take, drop, sym, ◌∙◌, ap, arith}
use Rattle.base_types.specs.Paths.{record_size}
use Rattle.daos_model.specs.Effect.{index_value, record_cells, records_of}
use Rattle.daos_model.proofs.RecordSteps.{cells-more, cells-none}
use Rattle.daos_model.proofs.effect.extent_cells.Goals as goal

pub loop-i-init : goal.loop-i-init
loop-i-init c = record {
  made = ap reverse c.new-cells.ensures.items ∙ sym (cells-none c.args.path.now c.args.low c.args.bytes.now c.count_records-i.result (omega (arith, c.count_records-i.ensures)));
  within = omega (arith, c.count_records-i.ensures);
}

pub loop-i-preserved : goal.loop-i-preserved
loop-i-preserved c =
    let within : c.loop-i.i ≤ length c.args.bytes.now / record_size c.args.path.now = c.loop-i.invariant.within in
    let lt : c.loop-i.i - 1 < length c.args.bytes.now / record_size c.args.path.now = omega (arith, within, c.loop-i-test.true) in
    let next : c.loop-i.i ≡ c.loop-i.i - 1 + 1 = omega (arith, c.loop-i-test.true) in
    let size : c.from-size.result ≡ record_size c.args.path.now = c.from-size.ensures ∙ c.record_size.ensures in
    record {
      made =
          ap reverse c.in_ok-push.ensures.items
          ∙ cells-more c.args.path.now c.args.low c.args.bytes.now (c.loop-i.i - 1) c.loop-i.cells.items c.in_ok-index_value.field-0 lt
          (c.loop-i.invariant.made ∙ ap (λ n. record_cells c.args.path.now (c.args.low + n) (drop n (records_of (record_size c.args.path.now) c.args.bytes.now))) next)
          (c.in_ok-index_value.ensures
          ∙ ap (index_value c.args.path.now (c.args.low + (c.loop-i.i - 1)))
          (c.nth_record-record.ensures ∙ ap (λ n. take n (drop ((c.loop-i.i - 1) * n) c.args.bytes.now)) size));
      within = omega (arith, within);
    }
