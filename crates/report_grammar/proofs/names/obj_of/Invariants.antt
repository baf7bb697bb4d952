use Rattle.std.proofs.Common.{◌≡◌, drop}
use Rattle.report_grammar.specs.Names.{obj_of}
use Rattle.report_grammar.proofs.names.obj_of.Given as goal

abbrev pub invariant-loop-decl : goal.invariant-loop-decl
invariant-loop-decl l = obj_of (drop l.decl-index l.decls) l.cont l.name ≡ obj_of l.decls l.cont l.name
