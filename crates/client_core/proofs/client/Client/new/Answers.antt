use Rattle.std.proofs.Common.{◌≡◌, refl, sym, ◌∙◌, ap, get_or, length, Some}
use Rattle.std.proofs.lemmas.Option.{slice_get_read}
use Rattle.client_core.proofs.Plans.{first_place, plan_fits}
use Rattle.client_core.proofs.client.Client.new.Goals as goal

pub returns-clause-commands : goal.returns-clause-commands
returns-clause-commands c =
    let lists = c.args.script.now.clients in
    let n = c.args.number in
    let x = c.index-as_slice-from.result in
    let at : x ≡ get_or lists n x = c.index-as_slice-from.is ∙ ap (λ s. get_or s c.from.result x) c.as_slice.ensures ∙ ap (λ i. get_or lists i x) c.from.ensures in
    slice_get_read lists (length lists) n x refl c.requires.number at ∙ ap (λ y. Some y) (sym c.in_ok-commands.ensures)

pub invariant_of-result : goal.invariant_of-result
invariant_of-result c =
    let lists = c.args.script.now.clients in
    let n = c.args.number in
    let x = c.index-as_slice-from.result in
    let at : x ≡ get_or lists n x = c.index-as_slice-from.is ∙ ap (λ s. get_or s c.from.result x) c.as_slice.ensures ∙ ap (λ i. get_or lists i x) c.from.ensures in
    let there = slice_get_read lists (length lists) n x refl c.requires.number at ∙ ap (λ y. Some y) (sym c.in_ok-commands.ensures) in
    let fits = plan_fits c.args.script.now n c.args.attempts c.in_ok-commands.commands c.requires.form there in
    (fits, first_place _ c.args.tracker c.in_ok-known.known fits)
