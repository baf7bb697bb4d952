use Rattle.run_starts.proofs.Adding.{added-err, added-ok, enlist-left}
use Rattle.run_starts.proofs.enlisting.enlist_at.Goals as goal

pub returns-in-Ok-clause-enlists : goal.returns-in-Ok-clause-enlists
returns-in-Ok-clause-enlists g c =
    added-ok g.S.Store.durable g.S.Store.state c.args.conts.now c.args.stores.now c.args.t c.index-stores-t.result c.enlist.new.self c.requires.within c.requires.running _ _ c.in-Ok.ensures.call c.in-Ok.ensures.free c.in-Ok.ensures.answer c.in-Ok.ensures.kept

pub returns-in-Err-clause-enlists : goal.returns-in-Err-clause-enlists
returns-in-Err-clause-enlists g c =
    added-err g.S.Store.durable g.S.Store.state c.args.conts.now c.args.stores.now c.args.t c.index-stores-t.result c.enlist.new.self c.requires.within c.requires.running c.in-Err.no c.enlist_stop.result c.enlist_stop.ensures _ _ c.in-Err.ensures.call c.in-Err.ensures.free c.in-Err.ensures.answer c.in-Err.ensures.many c.in-Err.ensures.kept

pub returns-in-Ok-clause-left : goal.returns-in-Ok-clause-left
returns-in-Ok-clause-left g c =
    enlist-left g.S.Store.durable g.S.Store.state g.S.Store.may g.met.S.Store.steady c.args.conts.now c.args.stores.now c.args.t c.index-stores-t.result c.enlist.new.self c.requires.within c.requires.running _ _ _ c.in-Ok.ensures.kept

pub returns-in-Err-clause-left : goal.returns-in-Err-clause-left
returns-in-Err-clause-left g c =
    enlist-left g.S.Store.durable g.S.Store.state g.S.Store.may g.met.S.Store.steady c.args.conts.now c.args.stores.now c.args.t c.index-stores-t.result c.enlist.new.self c.requires.within c.requires.running _ _ _ c.in-Err.ensures.kept
