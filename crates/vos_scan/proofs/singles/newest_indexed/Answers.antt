use Rattle.std.proofs.Common.{◌≡◌, ◌∙◌, Some, None, ap, sym, take, drop, reverse}
use Rattle.std.specs.Prelude.{find}
use Rattle.std.specs.Option.{option_copied, option_or}
use Rattle.daos_model.specs.Cells.{single_cell}
use Rattle.vos_scan.specs.Newest.{says_at}
use Rattle.vos_scan.proofs.Chained.{find-split}
use Rattle.vos_scan.proofs.singles.newest_indexed.Goals as goal

pub returns-in-Some : goal.returns-in-Some
returns-in-Some c =
    let q = says_at (single_cell c.args.path.now) c.args.below.0 in
    let late : find q (reverse (drop c.args.index.now.covered c.args.rows.now)) ≡ Some c.in-Some.row.now =
    sym (ap (λ xs. find q (reverse xs)) c.split_at.ensures.back) ∙ sym c.newest.ensures ∙ ap option_copied c.in-Some.is in
    sym (find-split q c.args.index.now.covered c.args.rows.now ∙ ap (λ o. option_or o (find q (reverse (take c.args.index.now.covered c.args.rows.now)))) late)

pub returns : goal.returns
returns c =
    let q = says_at (single_cell c.args.path.now) c.args.below.0 in
    let late : find q (reverse (drop c.args.index.now.covered c.args.rows.now)) ≡ None =
    sym (ap (λ xs. find q (reverse xs)) c.split_at.ensures.back) ∙ sym c.newest.ensures ∙ ap option_copied c.in_default.is in
    c.newest_chained.ensures
    ∙ ap (λ xs. find q (reverse xs)) c.split_at.ensures.front
    ∙ sym (find-split q c.args.index.now.covered c.args.rows.now ∙ ap (λ o. option_or o (find q (reverse (take c.args.index.now.covered c.args.rows.now)))) late)
