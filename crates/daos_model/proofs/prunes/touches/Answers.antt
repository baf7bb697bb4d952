use Rattle.std.proofs.Common.{◌∙◌, ap}
use Rattle.std.specs.Prelude.{◌&&◌, ◌/◌}
use Rattle.base_types.specs.Paths.{record_size, same_path}
use Rattle.daos_model.specs.Cells.{cell_at}
use Rattle.daos_model.specs.Prunes.{is_index_in}
use Rattle.daos_model.proofs.Sights.{touches-single, touches-extent}
use Rattle.daos_model.proofs.prunes.touches.Goals as goal

pub returns-in-Single : goal.returns-in-Single
returns-in-Single c = touches-single (cell_at c.args.path.now c.args.index) c.args.write.now c.in-Single.at c.in-Single.field-1 c.sets_single.result c.sets_single.ensures c.in-Single.is

pub returns-in-Extent : goal.returns-in-Extent
returns-in-Extent c =
    touches-extent (cell_at c.args.path.now c.args.index) c.args.write.now c.in-Extent.at c.in-Extent.low c.in-Extent.bytes c.sets_index.result
    (c.sets_index.ensures ∙ ap (λ n. same_path c.in-Extent.at c.args.path.now && is_index_in c.in-Extent.low n c.args.index) (c.count_records.ensures ∙ ap (λ n. n / record_size c.in-Extent.at) c.len.ensures)) c.in-Extent.is
