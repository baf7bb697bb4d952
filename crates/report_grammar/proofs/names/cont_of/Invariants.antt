use Rattle.std.proofs.Common.{◌≡◌, drop}
use Rattle.report_grammar.specs.Names.{cont_of}
use Rattle.report_grammar.proofs.names.cont_of.Given as goal

abbrev pub invariant-loop-decl : goal.invariant-loop-decl
invariant-loop-decl l = cont_of (drop l.decl-index l.decls) l.name ≡ cont_of l.decls l.name
