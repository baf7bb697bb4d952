use Rattle.std.proofs.Common.{◌∙◌, subst}
use Rattle.run_opening.specs.All.{FromTo}
use Rattle.run_opening.specs.EnlistLaws.{enlisting-sound}
use Rattle.run_starts.specs.Calls.{WithContainers}
use Rattle.world_closing.specs.Below.{declared_conts}
use Rattle.run_starts.proofs.Whole.{adding-left, all-run, few-added, kept-added, none-left, opened-err, opened-ok, then-left, why-opening}
use Rattle.run_starts.proofs.opening.open_together.Goals as goal

pub open_all-requires-clause-running : goal.open_all-requires-clause-running
open_all-requires-clause-running g c = all-run g.S.Store.durable g.S.Store.state (tt {0}) c.args.stores.now c.enlist_all.new.stores c.in_ok-enlist_all.ensures.calls

pub returns-in-Ok-clause-calls : goal.returns-in-Ok-clause-calls
returns-in-Ok-clause-calls g c = opened-ok g.S.Store.durable g.S.Store.state c.args.stores.now c.enlist_all.new.stores c.open_all.new.stores c.in_ok-enlist_all.ensures.calls c.deref.result.now c.in_ok-enlist_all.ensures.enlisted c.in-Ok.ensures.calls

pub returns-in-Ok-clause-opened : goal.returns-in-Ok-clause-opened
returns-in-Ok-clause-opened g c B kept sound =
    let with : FromTo c.args.stores.now c.enlist_all.new.stores (λ t x y. WithContainers g.S.Store.durable (declared_conts c.args.script.now) x y) =
    subst (λ cs. FromTo c.args.stores.now c.enlist_all.new.stores (λ t x y. WithContainers g.S.Store.durable cs x y)) (c.deref.ensures.value ∙ c.in_ok-conts.ensures) c.in_ok-enlist_all.ensures.enlisted in
    let conts = declared_conts c.args.script.now in
    record {
      kept = c.in-Ok.ensures.opened _ (kept-added g.S.Store.durable g.S.Store.state conts B c.args.stores.now c.enlist_all.new.stores kept c.in_ok-enlist_all.ensures.calls.many with) (enlisting-sound conts B sound);
      few = few-added g.S.Store.durable g.S.Store.state conts B c.args.stores.now c.enlist_all.new.stores kept c.in_ok-enlist_all.ensures.calls.many with;
    }

pub returns-clause-calls : goal.returns-clause-calls
returns-clause-calls g c = opened-err g.S.Store.durable g.S.Store.state c.args.stores.now c.enlist_all.new.stores c.open_all.new.stores c.in_ok-enlist_all.ensures.calls c.in-Err.stop c.opening_stop.result c.opening_stop.ensures c.in-Err.ensures.calls

pub returns-clause-why : goal.returns-clause-why
returns-clause-why g c =
    why-opening g.S.Store.durable g.S.Store.state c.args.stores.now c.enlist_all.new.stores c.open_all.new.stores c.in_ok-enlist_all.ensures.calls (declared_conts c.args.script.now) c.in-Err.stop c.opening_stop.result c.opening_stop.ensures c.in-Err.ensures.calls

pub returns-in_err-conts-clause-left : goal.returns-in_err-conts-clause-left
returns-in_err-conts-clause-left g c B kept sound lasts found =
    none-left g.S.Store.durable g.S.Store.state g.S.Store.may c.args.script.now (declared_conts c.args.script.now) B sound c.args.stores.now kept g.met.S.Store.steady c.requires.running lasts found

pub returns-in_err-enlist_all-clause-left : goal.returns-in_err-enlist_all-clause-left
returns-in_err-enlist_all-clause-left g c B kept sound lasts found =
    adding-left g.S.Store.durable g.S.Store.state g.S.Store.may c.args.script.now c.deref.result.now B sound c.args.stores.now kept c.enlist_all.new.stores c.in_err-enlist_all.ensures.calls.many c.in_err-enlist_all.ensures.left lasts found

pub returns-in-Ok-clause-left : goal.returns-in-Ok-clause-left
returns-in-Ok-clause-left g c B kept sound lasts found =
    let with : FromTo c.args.stores.now c.enlist_all.new.stores (λ t x y. WithContainers g.S.Store.durable (declared_conts c.args.script.now) x y) =
    subst (λ cs. FromTo c.args.stores.now c.enlist_all.new.stores (λ t x y. WithContainers g.S.Store.durable cs x y)) (c.deref.ensures.value ∙ c.in_ok-conts.ensures) c.in_ok-enlist_all.ensures.enlisted in
    let conts = declared_conts c.args.script.now in
    then-left g.S.Store.durable g.S.Store.state g.S.Store.may c.args.script.now conts B sound c.args.stores.now kept lasts
    (c.in-Ok.ensures.left _ (kept-added g.S.Store.durable g.S.Store.state conts B c.args.stores.now c.enlist_all.new.stores kept c.in_ok-enlist_all.ensures.calls.many with) (enlisting-sound conts B sound) lasts found)

pub returns-clause-left : goal.returns-clause-left
returns-clause-left g c B kept sound lasts found =
    let with : FromTo c.args.stores.now c.enlist_all.new.stores (λ t x y. WithContainers g.S.Store.durable (declared_conts c.args.script.now) x y) =
    subst (λ cs. FromTo c.args.stores.now c.enlist_all.new.stores (λ t x y. WithContainers g.S.Store.durable cs x y)) (c.deref.ensures.value ∙ c.in_ok-conts.ensures) c.in_ok-enlist_all.ensures.enlisted in
    let conts = declared_conts c.args.script.now in
    then-left g.S.Store.durable g.S.Store.state g.S.Store.may c.args.script.now conts B sound c.args.stores.now kept lasts
    (c.in-Err.ensures.left _ (kept-added g.S.Store.durable g.S.Store.state conts B c.args.stores.now c.enlist_all.new.stores kept c.in_ok-enlist_all.ensures.calls.many with) (enlisting-sound conts B sound) lasts found)
