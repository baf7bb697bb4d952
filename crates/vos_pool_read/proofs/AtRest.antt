-- At rest what stands in a pool is all that may be left of it.
use Rattle.std.proofs.Common.{◌≡◌, ℕ, Bool, false, IsTrue, List, sym, ap, ◌∙◌, subst}
use Rattle.base_outside.specs.Images.{Image, Range, all_over}
use Rattle.pmem_alloc.specs.Blocks.{IsBlocks, free_count}
use Rattle.pmem_alloc.specs.Map.{free_blocks, free_of}
use Rattle.pmem_alloc.specs.Sets.{Set, count_below}
use Rattle.pmem_undo.specs.Undo.{IsUndo}
use Rattle.vos_pool_base.proofs.Leaving.{free_at, left_at_rest}
use Rattle.vos_pool_base.specs.Pool.{IsOpened, OpenedState}
use Rattle.vos_pool_base.specs.Tidy.{Leaves, LeavesStanding}

module _ {R : Type 0} (extent : R → ℕ) (tells : Bool) (image : R → Image) (may_leave : R → Image → Type 0) (p : OpenedState R)
    (opened : IsOpened (extent p.blocks.undo.region) tells (image p.blocks.undo.region) p.blocks.undo.staged p.blocks.undo.stopped p.blocks.map p.blocks.lasting p.table)
    (held : IsBlocks (extent p.blocks.undo.region) tells (image p.blocks.undo.region) p.blocks.undo.staged p.blocks.undo.stopped p.blocks.map p.blocks.lasting) where
  abbrev size : ℕ
  size = extent p.blocks.undo.region

  abbrev f : Image
  f = image p.blocks.undo.region

  pub free_is : IsTrue tells → p.blocks.undo.stopped ≡ false → free_count p.blocks ≡ free_at size f
  free_is tell going =
      let here : free_of p.blocks.map ≡ free_blocks size f = held.stored tell going ∙ ap (λ (rs : List Range). free_blocks size (all_over rs f)) opened.unstaged in
      ap (λ (s : Set). count_below s p.blocks.map.end) here ∙ ap (λ (n : ℕ). count_below (free_blocks size f) n) held.end

  pub leaves_at_rest : (IsTrue tells → IsUndo size tells f (may_leave p.blocks.undo.region) p.blocks.undo.staged p.blocks.undo.stopped) → p.blocks.undo.stopped ≡ false → Leaves tells extent may_leave (free_count p.blocks) p
  leaves_at_rest undo going tell =
      let rest = (undo tell).rest tell going in
      let x = opened.stands tell going in
      subst (λ (n : ℕ). LeavesStanding size p.table.header.target p.table.header.targets p.table.header.layout n (may_leave p.blocks.undo.region)) (sym (free_is tell going))
      (left_at_rest size p.table.header.target f (may_leave p.blocks.undo.region) p.table x.stored rest.closed rest.only x.stands)
