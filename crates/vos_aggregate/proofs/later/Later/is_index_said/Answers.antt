use Rattle.std.proofs.Common.{◌≡◌, ◌||◌, ◌∙◌, Some, true, false, drop, length, sym, ap}
use Rattle.daos_model.specs.Cells.{cell_at}
use Rattle.vos_aggregate.specs.Buckets.{akey_hash}
use Rattle.vos_aggregate.specs.Saying.{any_above, any_around}
use Rattle.vos_aggregate.proofs.Covering.{index-said}
use Rattle.vos_aggregate.proofs.later.Later.is_index_said.Goals as goal

pub returns-then-is_said_around : goal.returns-then-is_said_around
returns-then-is_said_around c =
    let m = length c.args.self.now.heads.now in
    let us = drop c.args.self.now.from c.args.self.now.versions.now in
    let around : any_around m (akey_hash c.args.path.now) c.args.index c.args.sight (cell_at c.args.path.now (Some c.args.index)) us ≡ true = sym c.is_said_around.ensures ∙ c.if-is_said_around.true in
    c.if-is_said_around.true
    ∙ sym (ap (λ x. x || any_above m c.args.buckets.now c.args.sight (cell_at c.args.path.now (Some c.args.index)) us) around)
    ∙ index-said m c.args.path.now c.args.buckets.now c.requires c.args.sight c.args.self.now.from c.args.self.now.versions.now c.args.self.now.later.plain c.args.index

pub returns-else-is_said_around : goal.returns-else-is_said_around
returns-else-is_said_around c =
    let m = length c.args.self.now.heads.now in
    let us = drop c.args.self.now.from c.args.self.now.versions.now in
    let around : any_around m (akey_hash c.args.path.now) c.args.index c.args.sight (cell_at c.args.path.now (Some c.args.index)) us ≡ false = sym c.is_said_around.ensures ∙ c.if-is_said_around.false in
    c.is_said_above.ensures
    ∙ ap (λ n. any_above m c.args.buckets.now c.args.sight (cell_at c.args.path.now (Some n)) us) c.from.ensures
    ∙ sym (ap (λ x. x || any_above m c.args.buckets.now c.args.sight (cell_at c.args.path.now (Some c.args.index)) us) around)
    ∙ index-said m c.args.path.now c.args.buckets.now c.requires c.args.sight c.args.self.now.from c.args.self.now.versions.now c.args.self.now.later.plain c.args.index
