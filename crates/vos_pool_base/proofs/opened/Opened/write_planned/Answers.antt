use Rattle.std.specs.Prelude.{[], unwrap_or}
use Rattle.std.proofs.Common.{subst}
use Rattle.vos_pool_base.specs.Pool.{ChangesTo, kept_of}
use Rattle.vos_tables.specs.Changes.{all_changed}
use Rattle.vos_pool_base.proofs.opened.Opened.write_planned.Goals as goal

pub returns-in-None-clause-makes : goal.returns-in-None-clause-makes
returns-in-None-clause-makes g c change makes =
    c.write.ensures.makes change (λ going.
    subst (λ plan. ChangesTo change (kept_of g.R.Region.tells g.R.Region.extent g.R.Region.image c.args.self.now) c.args.self.now.table (all_changed (unwrap_or plan []) c.args.self.now.table)) c.in-None.is (makes going))

pub returns-in-Some-clause-makes : goal.returns-in-Some-clause-makes
returns-in-Some-clause-makes g c change makes =
    c.write-in-Some.ensures.makes change (λ going.
    subst (λ plan. ChangesTo change (kept_of g.R.Region.tells g.R.Region.extent g.R.Region.image c.args.self.now) c.args.self.now.table (all_changed (unwrap_or plan []) c.args.self.now.table)) c.in-Some.is (makes going))
