use Rattle.std.proofs.Common.{subst}
use Rattle.std.specs.Prelude.{IsTrue, OnOk}
use Rattle.vos_pool_stage.specs.Staged.{StandsInPool}
use Rattle.vos_pool_turns.specs.vos_turns.vos_image.Kept.{Stored}
use Rattle.vos_pool_unlist.specs.Unlisted.{HasUnlisted}
use Rattle.vos_pool_unlist.proofs.unlisting.unlist_pool.Goals as goal

pub returns-clause-unlisted : goal.returns-clause-unlisted
returns-clause-unlisted g c =
    subst (λ p. OnOk c.unlist_running.result.1 (IsTrue g.R.Region.tells → (x : Stored) → StandsInPool g.R.Region.extent g.R.Region.image p x → HasUnlisted g.R.Region.extent g.R.Region.image c.args.attempt x c.unlist_running.result.0)) c.opened.view_is c.unlist_running.ensures.unlisted
