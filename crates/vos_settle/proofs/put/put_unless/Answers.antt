use Rattle.vos_levels.proofs.Calls.{on_ok_then}
use Rattle.vos_settle.proofs.Puts.{puts_same}
use Rattle.vos_settle.proofs.put.put_unless.Goals as goal

pub returns-then-had-clause-put : goal.returns-then-had-clause-put
returns-then-had-clause-put g c told t tree e at same = puts_same (g.P.Pages.blocks c.args.pages.now) c.args.tree.now.kind c.args.tree.now.root t c.args.key.now c.args.value.now e tree at (same c.if-had.true)

pub returns-clause-put : goal.returns-clause-put
returns-clause-put g c = on_ok_then c.put_value.result (λ h told t tree e at same. h told t tree e at) c.put_value.ensures.put
