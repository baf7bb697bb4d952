use Rattle.std.specs.Prelude.{Err}
use Rattle.std.proofs.Common.{rules, ◌≡◌, subst, sym}
use Rattle.run_opening.specs.All.{RunAll}
use Rattle.run_opening.proofs.Whole.{ended-run, opening-err, opening-runs, whole}
use Rattle.run_opening.proofs.Finding.{drops-found, ends-found}
use Rattle.run_opening.proofs.opening.open_all.Goals as goal

pub returns-in_err-end_attempts-clause-calls : goal.returns-in_err-end_attempts-clause-calls
returns-in_err-end_attempts-clause-calls g c =
    let is : c.from_residual.result ≡ Err c.in_err-end_attempts.field-0.0 = search rules in
    subst (λ r. RunAll g.S.Store.durable g.S.Store.state r c.args.stores.now c.end_attempts.new.stores) (sym is) (opening-err g.S.Store.durable g.S.Store.state c.in_err-end_attempts.field-0.0 c.args.stores.now c.end_attempts.new.stores c.in_err-end_attempts.ensures.goes)

pub drop_all-requires-clause-running : goal.drop_all-requires-clause-running
drop_all-requires-clause-running g c = ended-run g.S.Store.durable g.S.Store.state (tt {0}) c.args.stores.now c.end_attempts.new.stores c.in_ok-end_attempts.ensures.goes

pub returns-clause-calls : goal.returns-clause-calls
returns-clause-calls g c = opening-runs g.S.Store.durable g.S.Store.state c.args.script.now (tt {0}) c.drop_all.result c.args.stores.now c.end_attempts.new.stores c.drop_all.new.stores c.in_ok-end_attempts.ensures.goes c.drop_all.ensures.goes

pub returns-clause-opened : goal.returns-clause-opened
returns-clause-opened g c F kept sound =
    whole g.S.Store.durable g.S.Store.state c.args.script.now F sound c.args.stores.now (λ t x d at told. g.met.S.Store.formed x (c.requires.running t x at) d told) kept c.end_attempts.new.stores c.in_ok-end_attempts.ensures.goes c.drop_all.result c.drop_all.new.stores
    c.requires.some c.drop_all.ensures.goes

pub returns-in_err-end_attempts-clause-left : goal.returns-in_err-end_attempts-clause-left
returns-in_err-end_attempts-clause-left g c F kept sound lasts found =
    ends-found g.S.Store.durable g.S.Store.state g.S.Store.may c.args.script.now F sound c.args.stores.now kept c.end_attempts.new.stores c.in_err-end_attempts.ensures.goes.goes.many c.in_err-end_attempts.ensures.left lasts found

pub returns-clause-left : goal.returns-clause-left
returns-clause-left g c F kept sound lasts found =
    drops-found g.S.Store.durable g.S.Store.state g.S.Store.may c.args.script.now F sound c.args.stores.now kept c.end_attempts.new.stores (tt {0}) c.in_ok-end_attempts.ensures.goes c.drop_all.new.stores c.drop_all.ensures.goes.goes.many c.drop_all.ensures.left lasts found
