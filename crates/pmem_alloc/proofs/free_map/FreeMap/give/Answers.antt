use Rattle.std.proofs.Common.{arith, ap, sym, subst, ◌≡◌, ◌/◌, ◌∙◌, ◌<◌, false, true}
use Rattle.std.specs.Prelude.{slice_set}
use Rattle.pmem_alloc.specs.Sets.{set_to}
use Rattle.pmem_alloc.specs.Map.{MapState, SameBeside, free_of}
use Rattle.pmem_alloc.proofs.Marking.{beside_stays, counted_fits, given_holds, marked}
use Rattle.pmem_alloc.proofs.free_map.FreeMap.give.Goals as goal

pub overflow_add-self : goal.overflow_add-self
overflow_add-self c = omega (arith, counted_fits _ _ _ _ c.self.invariant)

pub invariant_of-self : goal.invariant_of-self
invariant_of-self c =
    let high = subst (λ (m : MapState). c.args.block < m.end) (sym c.self.view_is) c.requires.high in
    let taken = subst (λ (m : MapState). free_of m c.args.block ≡ false) (sym c.self.view_is) c.requires.taken in
    rw c.min-self-inside.ensures (given_holds _ _ _ _ c.args.block c.without_bit-byte.result c.self.invariant c.requires.low high taken c.self.told c.without_bit-byte.ensures.same c.without_bit-byte.ensures.others)

pub returns-clause-free : goal.returns-clause-free
returns-clause-free c =
    let high = subst (λ (m : MapState). c.args.block < m.end) (sym c.self.view_is) c.requires.high in
    marked c.self.inside.end c.self.inside.bytes c.args.block c.without_bit-byte.result 0 c.self.told c.self.invariant.small c.requires.low high c.without_bit-byte.ensures.same c.without_bit-byte.ensures.others
    ∙ ap (λ (m : MapState). set_to (free_of m) c.args.block true) c.self.view_is

pub returns-clause-beside : goal.returns-clause-beside
returns-clause-beside c =
    let high = subst (λ (m : MapState). c.args.block < m.end) (sym c.self.view_is) c.requires.high in
    subst (λ (m : MapState). SameBeside m (record { bytes = slice_set c.self.inside.bytes (c.args.block / 8) c.without_bit-byte.result; end = c.self.inside.end })) c.self.view_is
    (beside_stays c.self.inside.end c.self.inside.bytes c.args.block c.without_bit-byte.result c.self.told c.self.invariant.small c.requires.low high c.without_bit-byte.ensures.others)
