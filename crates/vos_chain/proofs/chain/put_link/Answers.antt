use Rattle.std.proofs.Common.{◌∙◌, ap, Some}
use Rattle.pmem_pages.specs.Blocks.{put}
use Rattle.vos_chain.proofs.Links.{taken_by, put_twice}
use Rattle.vos_chain.proofs.chain.put_link.Goals as goal

pub stage_block-requires : goal.stage_block-requires
stage_block-requires g c told = taken_by _ _ _ _ (c.in_ok-block.ensures.taken told).1

pub returns-clause-made : goal.returns-clause-made
returns-clause-made g c told =
    c.in_ok-stage_block.ensures.staged told ∙ (put_twice _ _ _ _ _ (c.in_ok-block.ensures.taken told).1 ∙ ap (λ z. put (g.P.Pages.blocks c.args.pages.now) c.in_ok-block.block (Some z)) c.link_bytes-bytes.ensures)
