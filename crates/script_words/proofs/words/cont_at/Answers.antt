use Rattle.std.proofs.Common.{sym}
use Rattle.script_words.proofs.Known.{cont_is_known}
use Rattle.script_words.proofs.words.cont_at.Goals as goal

pub returns-in-Some-clause-known : goal.returns-in-Some-clause-known
returns-in-Some-clause-known c = cont_is_known c.args.decls.now.conts c.in_ok-word.word.now c.in-Some.id (sym c.in-Some.ensures)
