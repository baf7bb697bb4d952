use Rattle.std.proofs.Common.{◌≡◌, filter, length, ap, arith}
use Rattle.dtx_entries.specs.Owing.{is_owing}
use Rattle.dtx_entries.proofs.Followed.{fewer}
use Rattle.dtx_entries.proofs.table.EntryTable.reserve.Goals as goal

pub overflow_sub-lacking : goal.overflow_sub-lacking
overflow_sub-lacking c =
    let same : length c.self.inside.owing.items ≡ length (filter (is_owing c.self.inside.me) c.self.inside.rows.items) = ap length c.self.invariant.owing in
    omega (arith, same, fewer (is_owing c.self.inside.me) c.self.inside.rows.items, c.self.inside.owing.ok.0, c.self.inside.rows.ok.0, c.len.ensures, c.len-2.ensures, c.reserve.ensures.len)
