use Rattle.std.proofs.Common.{◌≤◌, ◌+◌, IsTrue, length, subst, sym}
use Rattle.std.specs.Prelude.{OnOk}
use Rattle.pmem_alloc.specs.Pages.{left, shown}
use Rattle.vos_keeping.specs.Keeping.{versions_in}
use Rattle.vos_turns.specs.vos_image.Kept.{Stored}
use Rattle.vos_turns.specs.Turns.{StandsBelow, TurnsTo, after_each}
use Rattle.vos_pool_turns.proofs.staging.stage_as.Goals as goal

pub returns-clause-turned : goal.returns-clause-turned
returns-clause-turned g c =
    let image = g.R.Region.image in
    subst (λ b. OnOk c.turn-turned.result (IsTrue g.R.Region.tells → (x : Stored) → StandsBelow (shown image c.args.blocks) c.args.objects.root c.args.entries.tree.root x → TurnsTo c.args.change c.args.versions.now c.args.attempt c.args.step (shown image c.args.blocks) x (shown image b) c.args.objects.root c.turn-turned.new.entries.tree.root)) (sym c.into_blocks.ensures.is)
    (subst (λ b. OnOk c.turn-turned.result (IsTrue g.R.Region.tells → (x : Stored) → StandsBelow (shown image b) c.args.objects.root c.args.entries.tree.root x → TurnsTo c.args.change c.args.versions.now c.args.attempt c.args.step (shown image b) x (shown image c.turn-turned.new.pages) c.args.objects.root c.turn-turned.new.entries.tree.root)) c.new-pages.ensures c.turn-turned.ensures.turned)

pub returns-clause-gives : goal.returns-clause-gives
returns-clause-gives g c =
    let image = g.R.Region.image in
    subst (λ b. OnOk c.turn-turned.result (IsTrue g.R.Region.tells → (x : Stored) → StandsBelow (shown image c.args.blocks) c.args.objects.root c.args.entries.tree.root x → (left c.args.blocks).free + length (versions_in x) ≤ (left b).free + length (after_each c.args.change c.args.versions.now (versions_in x)))) (sym c.into_blocks.ensures.is)
    (subst (λ b. OnOk c.turn-turned.result (IsTrue g.R.Region.tells → (x : Stored) → StandsBelow (shown image b) c.args.objects.root c.args.entries.tree.root x → (left b).free + length (versions_in x) ≤ (left c.turn-turned.new.pages).free + length (after_each c.args.change c.args.versions.now (versions_in x)))) c.new-pages.ensures c.turn-turned.ensures.gives)
