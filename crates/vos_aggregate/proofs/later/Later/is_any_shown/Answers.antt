use Rattle.std.proofs.Common.{◌≡◌, ◌+◌, ◌/◌, ◌<◌, ◌≤◌, ◌∙◌, Some, true, false, length, not, ap, sym, arith}
use Rattle.std.specs.List.{list_any}
use Rattle.base_types.specs.Paths.{record_size}
use Rattle.daos_model.specs.Cells.{cell_at}
use Rattle.daos_model.specs.Effect.{records_of}
use Rattle.daos_model.specs.Prunes.{is_hidden, is_shown}
use Rattle.daos_model.proofs.RecordSteps.{cells-none, length-records}
use Rattle.daos_model.proofs.Sights.{any-here, any-next}
use Rattle.vos_aggregate.proofs.Hiding.{hidden-later}
use Rattle.vos_aggregate.proofs.later.Later.is_any_shown.Goals as goal

pub returns-then-not-is_index_said : goal.returns-then-not-is_index_said
returns-then-not-is_index_said c =
    let at : c.from.result + c.loop-i.i ≡ c.args.low + c.loop-i.i = cc in
    let hidden : is_hidden c.args.self.now.versions.now c.args.sight c.args.version.now (cell_at c.args.path.now (Some (c.args.low + c.loop-i.i))) ≡ false =
    ap (λ n. is_hidden c.args.self.now.versions.now c.args.sight c.args.version.now (cell_at c.args.path.now (Some n))) (sym at)
    ∙ sym (hidden-later c.args.sight c.args.version.now (cell_at c.args.path.now (Some (c.from.result + c.loop-i.i))) c.args.self.now.versions.now c.args.self.now.from c.requires.last c.args.self.now.later.rising)
    ∙ sym c.is_index_said.ensures ∙ c.if-not-is_index_said.true in
    let lt : c.loop-i.i < length (records_of (record_size c.args.path.now) c.args.bytes.now) =
    omega (arith, c.loop-i-test.true, c.count_records-i-end.ensures, length-records (record_size c.args.path.now) c.args.bytes.now) in
    sym (any-here (is_shown c.args.self.now.versions.now c.args.sight c.args.version.now) c.args.path.now c.args.low (records_of (record_size c.args.path.now) c.args.bytes.now) c.loop-i.i lt (λ b. ap not hidden))
    ∙ c.loop-i.invariant

pub loop-i-preserved : goal.loop-i-preserved
loop-i-preserved c =
    let at : c.from.result + c.loop-i.i ≡ c.args.low + c.loop-i.i = cc in
    let hidden : is_hidden c.args.self.now.versions.now c.args.sight c.args.version.now (cell_at c.args.path.now (Some (c.args.low + c.loop-i.i))) ≡ true =
    ap (λ n. is_hidden c.args.self.now.versions.now c.args.sight c.args.version.now (cell_at c.args.path.now (Some n))) (sym at)
    ∙ sym (hidden-later c.args.sight c.args.version.now (cell_at c.args.path.now (Some (c.from.result + c.loop-i.i))) c.args.self.now.versions.now c.args.self.now.from c.requires.last c.args.self.now.later.rising)
    ∙ sym c.is_index_said.ensures ∙ c.if-not-is_index_said.false in
    let lt : c.loop-i.i < length (records_of (record_size c.args.path.now) c.args.bytes.now) =
    omega (arith, c.loop-i-test.true, c.count_records-i-end.ensures, length-records (record_size c.args.path.now) c.args.bytes.now) in
    any-next (is_shown c.args.self.now.versions.now c.args.sight c.args.version.now) c.args.path.now c.args.low (records_of (record_size c.args.path.now) c.args.bytes.now) c.loop-i.i lt (λ b. ap not hidden)
    ∙ c.loop-i.invariant

pub returns : goal.returns
returns c =
    let enough : length c.args.bytes.now / record_size c.args.path.now ≤ c.loop-i.i = omega (arith, c.loop-i-test.false, c.count_records-i-end.ensures) in
    sym (ap (list_any (is_shown c.args.self.now.versions.now c.args.sight c.args.version.now)) (cells-none c.args.path.now c.args.low c.args.bytes.now c.loop-i.i enough))
    ∙ c.loop-i.invariant
