use Rattle.std.proofs.Common.{◌≡◌, [], ◌∷◌, ◌++◌, ◌∙◌, ap}
use Rattle.script_words.proofs.Known.{named_push}
use Rattle.script_words.proofs.tables.ObjDecls.add.Goals as goal

pub invariant_of-drop : goal.invariant_of-drop
invariant_of-drop c =
    let d = c.args.decl in
    let names : c.declare.new.self ≡ c.decls.inside.names ++ (d.name, (d.cont, d.id)) ∷ [] =
    c.in_ok-declare.ensures.ok ∙ ap (λ name. c.decls.inside.names ++ (name, (d.cont, d.id)) ∷ []) c.bytes.ensures in
    rw (c.in_ok-push.ensures.ok, names) (named_push c.decls.inside.decls c.decls.inside.names d c.decls.invariant c.requires.unit)
