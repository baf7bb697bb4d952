use Rattle.std.proofs.Common.{◌≡◌, ◌∙◌, ◌<◌, length, sym, ap, arith}
use Rattle.std.specs.Prelude.{slice_index}
use Rattle.std.proofs.lemmas.Option.{get_or_from_slice_get}
use Rattle.pmem_alloc.specs.Blocks.{BlocksState, free_now}
use Rattle.pmem_alloc.specs.Sets.{Set}
use Rattle.pmem_alloc.specs.Laws.{were_free, are_taken, free_in_within}
use Rattle.pmem_tests.proofs.block_tests.take_and_give.Goals as goal

pub give-requires-clause-block : goal.give-requires-clause-block
give-requires-clause-block c =
    let new = c.take.new.self in
    let first : slice_index new.last 0 ≡ c.in-Ok.block = get_or_from_slice_get new.last 0 c.in-Ok.block 0 c.in-Ok.ensures.first in
    let one : 0 < length new.last = omega (arith, c.in-Ok.ensures.many) in
    let was = were_free new.last (free_now c.args.blocks.now) c.in-Ok.ensures.least 0 one in
    let within = free_in_within c.args.blocks.now.map.end c.args.blocks.now.map.bytes (slice_index new.last 0) was in
    let end = ap (λ (b : BlocksState _). b.map.end) c.in-Ok.ensures.rest in
    let all = c.take.ensures.holds.end in
    (omega (arith, within.0, first), omega (arith, within.1, first, end, all))

pub give-requires-clause-taken : goal.give-requires-clause-taken
give-requires-clause-taken c =
    let new = c.take.new.self in
    let first : slice_index new.last 0 ≡ c.in-Ok.block = get_or_from_slice_get new.last 0 c.in-Ok.block 0 c.in-Ok.ensures.first in
    let one : 0 < length new.last = omega (arith, c.in-Ok.ensures.many) in
    ap (free_now new) (sym first) ∙ (ap (λ (s : Set). s (slice_index new.last 0)) c.in-Ok.ensures.taken ∙ are_taken new.last (free_now c.args.blocks.now) 0 one)
