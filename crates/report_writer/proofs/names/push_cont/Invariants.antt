use Rattle.std.proofs.Common.{◌≡◌, drop}
use Rattle.report_writer.specs.Names.{cont_word}
use Rattle.report_writer.proofs.names.push_cont.Given as goal

abbrev pub invariant-loop-decl : goal.invariant-loop-decl
invariant-loop-decl l = record {
  same : l.out.items ≡ l.initial.out.items;
  rest : cont_word (drop l.decl-index l.decls) l.cont ≡ cont_word l.decls l.cont;
}
