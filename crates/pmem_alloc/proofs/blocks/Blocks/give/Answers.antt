use Rattle.std.proofs.Common.{◌<◌, ◌++◌, ◌∷◌, [], List, ap, sym, subst, arith}
use Rattle.base_outside.specs.Images.{Range, all_over}
use Rattle.pmem_undo.specs.Undo.{UndoState}
use Rattle.pmem_alloc.specs.Map.{MapState, StandsIn, map_byte}
use Rattle.pmem_alloc.specs.Blocks.{BlocksState, HoldsBlocks, StagesMap}
use Rattle.pmem_alloc.proofs.Staging.{is_blocks, blocks_end_most, stages_one, stands_on}
use Rattle.pmem_alloc.proofs.Holding.{holds_marked}
use Rattle.pmem_alloc.proofs.blocks.Blocks.give.Goals as goal

pub stage_byte-requires-clause-block : goal.stage_byte-requires-clause-block
stage_byte-requires-clause-block g c = omega (arith, c.requires.block.1, blocks_end_most (g.R.Region.extent c.args.self.now.undo.region))

pub invariant_of-self : goal.invariant_of-self
invariant_of-self g c =
    let b = c.self.inside in
    let small : c.args.block < 131072 = omega (arith, c.requires.block.1, blocks_end_most (g.R.Region.extent c.args.self.now.undo.region)) in
    let holds = λ (u : UndoState _). HoldsBlocks (g.R.Region.extent u.region) g.R.Region.tells (g.R.Region.image u.region) u.staged u.stopped c.give-byte.new.self.bytes b.lasting.bytes c.give-byte.new.self.end b.lasting.end b.many in
    let follows = λ (stands : StandsIn b.map.bytes (all_over b.undo.staged (g.R.Region.image b.undo.region))).
    subst (λ (m : MapState). StandsIn m.bytes (all_over (b.undo.staged ++ map_byte c.args.block c.give-byte.result ∷ []) (g.R.Region.image b.undo.region))) (sym c.give-byte.ensures.bytes)
    (stands_on b.map.bytes b.undo.staged c.args.block c.give-byte.result (g.R.Region.image b.undo.region) c.give-byte.ensures.long small stands) in
    subst holds (sym c.stage_byte.ensures)
    (holds_marked _ _ _ b.undo.staged _ _ b.map.bytes _ _ b.map.end _ _ _ _ c.self.invariant (ap (λ (m : MapState). m.end) c.give-byte.ensures.bytes) follows c.self.invariant.few)

pub returns-clause-staged : goal.returns-clause-staged
returns-clause-staged g c =
    let small : c.args.block < 131072 = omega (arith, c.requires.block.1, blocks_end_most (g.R.Region.extent c.args.self.now.undo.region)) in
    let old = ap (λ (b : BlocksState _). b.undo.staged) c.self.view_is in
    subst (λ (rs : List Range). StagesMap 1 rs c.stage_byte.new.undo.staged) old
    (subst (λ (u : UndoState _). StagesMap 1 c.self.inside.undo.staged u.staged) (sym c.stage_byte.ensures) (stages_one c.self.inside.undo.staged c.args.block c.give-byte.result small))

pub returns-clause-holds : goal.returns-clause-holds
returns-clause-holds g c = is_blocks _ _ _ _ _ c.give-byte.new.self c.self.inside.lasting c.self.inside.many (invariant_of-self g c)
