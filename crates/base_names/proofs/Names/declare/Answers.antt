use Rattle.std.proofs.Common.{◌≡◌, ◌∙◌, ap, map, nat_eq, ◌++◌, ◌∷◌, [], None}
use Rattle.std.proofs.lemmas.List.{map-append}
use Rattle.std.specs.Cmp.Lexicographic.{pointwise}
use Rattle.indexmap.specs.IndexMap.{get}
use Rattle.indexmap.proofs.CallerLemmas.{insert_entry-new}
use Rattle.base_names.specs.Names.{named, name_and_value}
use Rattle.base_names.proofs.Found.{lookup-named}
use Rattle.base_names.proofs.Names.declare.Goals as goal

pub returns-clause-ok : goal.returns-clause-ok
returns-clause-ok g c =
    let m = c.self.inside.table in
    let name = c.args.name.now in
    let key = c.in_ok-key.key in
    let key-is : key.items ≡ name = c.in_ok-key.ensures.items in
    let absent : get (λ a b. pointwise nat_eq a.items b.items) m key ≡ None = lookup-named m.entries key.items ∙ ap (named (map name_and_value m.entries)) key-is ∙ ap (λ xs. named xs name) c.self.view_is ∙ c.requires in
    let added = c.in_ok-insert.ensures.entries ∙ insert_entry-new (λ a b. pointwise nat_eq a.items b.items) m key c.args.value absent in
    ap (map name_and_value) added ∙ map-append name_and_value m.entries ((key, c.args.value) ∷ []) ∙ ap (λ xs. xs ++ (key.items, c.args.value) ∷ []) c.self.view_is ∙ ap (λ n. c.args.self.now ++ (n, c.args.value) ∷ []) key-is
