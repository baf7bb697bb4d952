use Rattle.std.proofs.Common.{◌≡◌, drop}
use Rattle.report_writer.specs.Names.{obj_word}
use Rattle.report_writer.proofs.names.push_obj.Given as goal

abbrev pub invariant-loop-decl : goal.invariant-loop-decl
invariant-loop-decl l = record {
  same : l.out.items ≡ l.initial.out.items;
  rest : obj_word (drop l.decl-index l.decls) l.cont l.obj ≡ obj_word l.decls l.cont l.obj;
}
