use Rattle.std.proofs.Common.{◌≡◌, Some, filter, ◌∙◌, ap}
use Rattle.dtx_entries.specs.Owing.{is_owing}
use Rattle.dtx_entries.proofs.Followed.{among-passing}
use Rattle.dtx_entries.proofs.table.EntryTable.owing.Goals as goal

pub returns-then-mine-me : goal.returns-then-mine-me
returns-then-mine-me c =
    let rows = c.self.inside.rows.items in
    let mine : c.self.inside.me ≡ Some c.args.me = cc in
    let kept : c.self.inside.owing.items ≡ filter (is_owing (Some c.args.me)) rows = c.self.invariant.owing ∙ ap (λ o. filter (is_owing o) rows) mine in
    ap (filter (is_owing (Some c.args.me))) (c.deref.ensures.value ∙ kept)
    ∙ among-passing (is_owing (Some c.args.me)) (is_owing (Some c.args.me)) (λ x is. is) rows
    ∙ ap (λ k. filter (is_owing (Some c.args.me)) k.items) c.self.view_is
