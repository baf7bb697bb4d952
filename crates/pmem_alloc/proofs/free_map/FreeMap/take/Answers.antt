use Rattle.std.proofs.Common.{arith, ap, sym, subst, ◌/◌, ◌∙◌, false}
use Rattle.std.specs.Prelude.{slice_set}
use Rattle.pmem_alloc.specs.Sets.{IsLeast, set_to}
use Rattle.pmem_alloc.specs.Map.{MapState, SameBeside, free_of}
use Rattle.pmem_alloc.specs.Laws.{free_in_within}
use Rattle.pmem_alloc.proofs.Marking.{beside_stays, least_within, taken_holds, marked}
use Rattle.pmem_alloc.proofs.free_map.FreeMap.take.Goals as goal

pub bounds-self-inside-at : goal.bounds-self-inside-at
bounds-self-inside-at c =
    let least = subst (λ (m : MapState). IsLeast (free_of m) c.args.block) (sym c.self.view_is) c.requires in
    let inside = least_within _ _ _ _ _ c.self.invariant least in omega (arith, inside.0, inside.1.0)

pub bounds-self-inside-at-2 : goal.bounds-self-inside-at-2
bounds-self-inside-at-2 c =
    let least = subst (λ (m : MapState). IsLeast (free_of m) c.args.block) (sym c.self.view_is) c.requires in
    let inside = least_within _ _ _ _ _ c.self.invariant least in omega (arith, inside.0, inside.1.0)

pub overflow_sub-self : goal.overflow_sub-self
overflow_sub-self c =
    let least = subst (λ (m : MapState). IsLeast (free_of m) c.args.block) (sym c.self.view_is) c.requires in
    (least_within _ _ _ _ _ c.self.invariant least).1.1

pub overflow_add-self : goal.overflow_add-self
overflow_add-self c =
    let least = subst (λ (m : MapState). IsLeast (free_of m) c.args.block) (sym c.self.view_is) c.requires in
    let inside = least_within _ _ _ _ _ c.self.invariant least in omega (arith, inside.0, inside.1.0)

pub invariant_of-self : goal.invariant_of-self
invariant_of-self c =
    let least = subst (λ (m : MapState). IsLeast (free_of m) c.args.block) (sym c.self.view_is) c.requires in
    taken_holds _ _ _ _ _ c.with_bit-byte.result c.self.invariant least c.self.told c.with_bit-byte.ensures.same (λ i below. c.with_bit-byte.ensures.others i)

pub returns-clause-free : goal.returns-clause-free
returns-clause-free c =
    let least = subst (λ (m : MapState). IsLeast (free_of m) c.args.block) (sym c.self.view_is) c.requires in
    let within = free_in_within _ _ _ least.is_in in
    marked c.self.inside.end c.self.inside.bytes c.args.block c.with_bit-byte.result 1 c.self.told c.self.invariant.small within.0 within.1 c.with_bit-byte.ensures.same (λ i below. c.with_bit-byte.ensures.others i)
    ∙ ap (λ (m : MapState). set_to (free_of m) c.args.block false) c.self.view_is

pub returns-clause-beside : goal.returns-clause-beside
returns-clause-beside c =
    let least = subst (λ (m : MapState). IsLeast (free_of m) c.args.block) (sym c.self.view_is) c.requires in
    let within = free_in_within c.self.inside.end c.self.inside.bytes c.args.block least.is_in in
    subst (λ (m : MapState). SameBeside m (record { bytes = slice_set c.self.inside.bytes (c.args.block / 8) c.with_bit-byte.result; end = c.self.inside.end })) c.self.view_is
    (beside_stays c.self.inside.end c.self.inside.bytes c.args.block c.with_bit-byte.result c.self.told c.self.invariant.small within.0 within.1 (λ i low ne. c.with_bit-byte.ensures.others i ne))
