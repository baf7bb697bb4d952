use Rattle.std.proofs.Common.{sym, subst, ap, ◌∙◌}
use Rattle.daos_model.specs.Durables.{IsInForm, entry_key}
use Rattle.daos_model.specs.Ordered.{is_rising}
use Rattle.vos_pool_opening.proofs.Forming.{is-formed}
use Rattle.vos_pool_opening.proofs.contents.contents_in.Goals as goal

pub of-requires : goal.of-requires
of-requires c =
    subst IsInForm (sym c.in_ok-found.ensures)
    (is-formed c.args.tables.now c.args.versions.items c.args.entries.items c.tables_are_in_form.ensures c.requires.form (ap (is_rising entry_key) (sym c.deref.ensures.value) ∙ (sym c.is_rising.ensures ∙ c.if-not-is_rising.false)))
