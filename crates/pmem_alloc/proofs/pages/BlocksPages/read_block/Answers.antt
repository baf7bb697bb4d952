use Rattle.std.proofs.Common.{◌∙◌, ℕ, Some, ap, arith, sym}
use Rattle.base_outside.specs.Images.{bytes_at, all_over}
use Rattle.pmem_alloc.proofs.Holding.{on_ok}
use Rattle.pmem_alloc.proofs.Paging.{block_taken, block_bytes}
use Rattle.pmem_alloc.proofs.Shown.{bytes_named, taken_named}
use Rattle.pmem_alloc.proofs.pages.BlocksPages.read_block.Goals as goal

pub returns-in-Some-clause-bytes : goal.returns-in-Some-clause-bytes
returns-in-Some-clause-bytes g c =
    on_ok c.read.result c.read.ensures.bytes (λ read t.
    let b = c.args.self.now in
    let f = all_over b.undo.staged (g.R.Region.image b.undo.region) in
    let taken = block_taken _ _ _ _ (taken_named _ _ _ (omega arith) (c.requires t)) in
    bytes_named _ _ c.args.block _ (omega arith) (block_bytes _ _ _ c.args.block taken.0 taken.1.0 taken.1.1)
    ∙ ap Some (ap (λ (p : ℕ). bytes_at f p 256) (sym c.in-Some.ensures.place) ∙ (ap (bytes_at f c.in-Some.place) (sym c.told-to) ∙ sym (read t))))

pub returns-in_ok-read-in-None-clause-bytes : goal.returns-in_ok-read-in-None-clause-bytes
returns-in_ok-read-in-None-clause-bytes g c t = let no = c.in-None.ensures.taken.1 (block_taken _ _ _ _ (taken_named _ _ _ (omega arith) (c.requires t))) in absurd (cc)
