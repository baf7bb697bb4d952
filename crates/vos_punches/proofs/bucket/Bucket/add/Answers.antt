use Rattle.std.proofs.Common.{refl, sym, ap, ◌∙◌}
use Rattle.vos_levels.proofs.Calls.{on_ok_then}
use Rattle.vos_punches.specs.Moments.{with_moment}
use Rattle.vos_punches.specs.Rows.{in_rows}
use Rattle.vos_punches.proofs.Found.{on_err_then, row_added, row_changed, row_same}
use Rattle.vos_punches.proofs.bucket.Bucket.add.Goals as goal

pub returns-in-Some-clause-added : goal.returns-in-Some-clause-added
returns-in-Some-clause-added c =
    on_ok_then c.add.result
    (λ h q. row_changed (with_moment c.args.at) c.args.path q c.args.self.now.rows.items c.in-Some.place c.index_mut.result.now (record { path = c.index_mut.result.now.path; moments = c.add.new.self })
    (sym c.in-Some.ensures.first) c.index_mut.ensures.value refl h)
    c.add.ensures.added

pub returns-in-Some-clause-kept : goal.returns-in-Some-clause-kept
returns-in-Some-clause-kept c =
    on_err_then c.add.result
    (λ h q. row_same c.args.path q c.args.self.now.rows.items c.in-Some.place c.index_mut.result.now (record { path = c.index_mut.result.now.path; moments = c.add.new.self })
    (sym c.in-Some.ensures.first) c.index_mut.ensures.value refl h)
    c.add.ensures.kept

pub returns-in_ok-push-in-None-clause-added : goal.returns-in_ok-push-in-None-clause-added
returns-in_ok-push-in-None-clause-added c q =
    ap (λ z. in_rows z q) c.in_ok-push-in-None.ensures.items
    ∙ row_added c.args.at c.args.path q c.args.self.now.rows.items c.in_ok-first_row-in-None.field-0 (sym c.in-None.ensures.first) c.in_ok-first_row-in-None.ensures.path c.in_ok-first_row-in-None.ensures.moments
