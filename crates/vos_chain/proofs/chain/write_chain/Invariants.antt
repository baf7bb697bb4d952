use Rattle.std.proofs.Common.{◌≡◌, ◌+◌, ◌*◌, ◌≤◌, ◌⊎◌, ℕ, IsTrue, drop, length}
use Rattle.vos_levels.specs.pmem_tree_base.Calls.{Rests}
use Rattle.vos_chain.specs.Made.{chain_blocks}
use Rattle.vos_chain.proofs.Links.{MadeSo}
use Rattle.vos_chain.proofs.chain.write_chain.Given as goal

-- what stands from here on was written; before it are whole parts
abbrev pub invariant-loop-left : goal.invariant-loop-left
invariant-loop-left g l = record {
  most : l.left ≤ length l.bytes;
  parts : (l.left ≡ length l.bytes) ⊎ ((k : ℕ) × (l.left ≡ 248 * k));
  made : IsTrue g.P.Pages.tells → MadeSo (g.P.Pages.blocks l.initial.pages) (drop l.left l.bytes) (g.P.Pages.blocks l.pages) l.first;
  free : (g.P.Pages.budget l.pages).free + chain_blocks (length l.bytes) ≡ (g.P.Pages.budget l.initial.pages).free + chain_blocks l.left;
  ranges_most : (g.P.Pages.budget l.initial.pages).ranges + 2 * chain_blocks l.left ≤ (g.P.Pages.budget l.pages).ranges + 2 * chain_blocks (length l.bytes);
  ranges_least : (g.P.Pages.budget l.pages).ranges ≤ (g.P.Pages.budget l.initial.pages).ranges;
  bytes_most : (g.P.Pages.budget l.initial.pages).bytes + 257 * chain_blocks l.left ≤ (g.P.Pages.budget l.pages).bytes + 257 * chain_blocks (length l.bytes);
  bytes_least : (g.P.Pages.budget l.pages).bytes ≤ (g.P.Pages.budget l.initial.pages).bytes;
  rests : Rests g.P.Pages.stopped g.P.Pages.count g.P.Pages.burns l.initial.pages l.pages;
}

abbrev pub decreases-loop-left : goal.decreases-loop-left
decreases-loop-left g l = l.left
