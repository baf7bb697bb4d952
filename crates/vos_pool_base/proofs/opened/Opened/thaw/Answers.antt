use Rattle.std.specs.Prelude.{◌≡◌, [], ◌∷◌}
use Rattle.std.proofs.Common.{subst}
use Rattle.daos_model.specs.Changes.{thawed}
use Rattle.vos_pool_base.specs.Pool.{OpenedState}
use Rattle.vos_tables.specs.Changes.{all_changed}
use Rattle.vos_tables.specs.Kept.{kept_with}
use Rattle.vos_pool_base.proofs.opened.Opened.thaw.Goals as goal

pub returns-in-None-clause-kept : goal.returns-in-None-clause-kept
returns-in-None-clause-kept g c =
    c.write.ensures.makes (thawed c.args.cont c.args.s) (λ going vs es is.
    subst (λ (p : OpenedState _). kept_with p.table vs es ≡ thawed c.args.cont c.args.s (kept_with p.table vs es)) c.self.view_is (c.in-None.ensures.thawed vs es))

pub returns-in-Some-clause-kept : goal.returns-in-Some-clause-kept
returns-in-Some-clause-kept g c =
    c.write-in-Some.ensures.makes (thawed c.args.cont c.args.s) (λ going vs es is.
    subst (λ (p : OpenedState _). kept_with (all_changed (c.in-Some.change ∷ []) p.table) vs es ≡ thawed c.args.cont c.args.s (kept_with p.table vs es)) c.self.view_is (c.in-Some.ensures.thawed vs es))
