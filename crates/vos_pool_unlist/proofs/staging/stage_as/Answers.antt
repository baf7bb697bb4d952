use Rattle.std.proofs.Common.{ap, subst, sym}
use Rattle.std.specs.Prelude.{OnOk}
use Rattle.pmem_alloc.specs.Pages.{shown}
use Rattle.vos_entries.specs.Entries.{IsUnlistedAt, entries_owner, listings}
use Rattle.vos_levels.specs.Calls.{Becomes, OfThing}
use Rattle.vos_levels.specs.Levels.{hung_root}
use Rattle.vos_pool_unlist.proofs.staging.stage_as.Goals as goal

pub returns-clause-unlisted : goal.returns-clause-unlisted
returns-clause-unlisted g c =
    let image = g.R.Region.image in
    let root = c.args.entries.tree.root in
    subst (λ b. OnOk c.unlist-unlisted.result (OfThing g.R.Region.tells entries_owner hung_root (shown image c.args.blocks) root (λ e. Becomes entries_owner hung_root listings (shown image c.args.blocks) e (shown image b) root (IsUnlistedAt c.args.attempt)))) (sym c.into_blocks.ensures.is)
    (subst (λ at. OnOk c.unlist-unlisted.result (OfThing g.R.Region.tells entries_owner hung_root (shown image c.args.blocks) root (λ e. Becomes entries_owner hung_root listings (shown image c.args.blocks) e (shown image c.unlist-unlisted.new.pages) at (IsUnlistedAt c.args.attempt)))) (ap (λ t. t.tree.root) c.unlist-unlisted.ensures.kept)
    (subst (λ b. OnOk c.unlist-unlisted.result (OfThing g.R.Region.tells entries_owner hung_root (shown image b) root (λ e. Becomes entries_owner hung_root listings (shown image b) e (shown image c.unlist-unlisted.new.pages) c.unlist-unlisted.new.self.tree.root (IsUnlistedAt c.args.attempt)))) c.new-pages.ensures c.unlist-unlisted.ensures.unlisted))
