use Rattle.std.proofs.Common.{◌≡◌, ◌∙◌, [], ap, subst, sym}
use Rattle.std.specs.Prelude.{IfSome, false}
use Rattle.std.specs.List.{list_any}
use Rattle.base_types.specs.declared.answer.Answer.TheVariants.{Names}
use Rattle.daos_model.specs.Answers.{answer}
use Rattle.daos_model.specs.Versions.{map_below}
use Rattle.vos_scan.specs.Names.{is_seen_punch, names_from}
use Rattle.vos_scan.proofs.Marking.{answer-dkeys}
use Rattle.vos_scan.proofs.reads.answer_dkeys_indexed.Goals as goal

pub returns-in-Some : goal.returns-in-Some
returns-in-Some c =
    let rows = c.args.rows.now in
    let made = subst (λ o. IfSome o (λ names. names.items ≡ names_from c.args.path.now c.args.below.0 rows [])) c.in-Some.is c.in_ok-names.ensures.names in
    let unpunched = subst (λ o. IfSome o (λ _. list_any (is_seen_punch c.args.below.0) rows ≡ false)) c.in-Some.is c.in_ok-names.ensures.unpunched in
    ap (λ ns. Names ns) (c.from_vec.ensures ∙ made)
    ∙ answer-dkeys c.args.path.now rows c.args.below.0 unpunched c.requires.form
    ∙ ap (λ r. answer r (map_below rows c.args.below.0)) (sym c.requires.dkeys)
