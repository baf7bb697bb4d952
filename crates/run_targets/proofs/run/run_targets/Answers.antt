use Rattle.run_targets.proofs.Runs.{all-served, answers-begin, breaks-early, breaks-late, comes, comes-read, ends-begin, goes, put-served, put-unfused}
use Rattle.run_targets.proofs.Telling.{bytes-last, ends-last, in-order-last, kinds-last, told-last}
use Rattle.run_loop.specs.Below.{given_by, rules_of}
use Rattle.run_targets.proofs.run.run_targets.Goals as goal

pub returns-in-Err-clause-served : goal.returns-in-Err-clause-served
returns-in-Err-clause-served g c = put-served g.S.Store.durable g.S.Store.state g.S.Store.may c.args.targets c.deref_mut.result.now c.disarm.new.targets c.deref_mut.ensures.value c.disarm.ensures g.C.Clock.is_read

pub returns-in-Err-clause-unfused : goal.returns-in-Err-clause-unfused
returns-in-Err-clause-unfused g c = put-unfused g.S.Store.durable g.S.Store.state g.S.Store.may c.args.targets c.deref_mut.result.now c.disarm.new.targets c.deref_mut.ensures.value c.disarm.ensures

pub run_in_order-targets-requires-clause-going : goal.run_in_order-targets-requires-clause-going
run_in_order-targets-requires-clause-going g c =
    let b = c.new-2 in
    goes g.S.Store.durable g.S.Store.state g.S.Store.may c.args.script.now c.args.job.now c.args.clients.items c.args.targets c.deref_mut-2.result.now c.arm.new.targets c.deref_mut-2.ensures.value c.in-Ok.watch c.arm.new.watch b.result c.as_slice.result.now c.arm.ensures c.as_slice.ensures c.in-Ok.ensures b.ensures.messages b.ensures.asked b.ensures.issued b.ensures.lines c.requires.started.0 c.requires.started.1
    g.met.S.Store.alike

pub returns-in-Ok-ran-clause-comes : goal.returns-in-Ok-ran-clause-comes
returns-in-Ok-ran-clause-comes g c o started told =
    let b = c.new-2 in
    let ran = c.run_in_order-targets in
    comes g.S.Store.durable g.S.Store.state g.S.Store.may c.args.script.now c.args.job.now c.args.clients.items c.args.targets c.deref_mut-2.result.now c.arm.new.targets c.deref_mut-2.ensures.value c.in-Ok.watch c.arm.new.watch b.result c.as_slice.result.now c.arm.ensures c.as_slice.ensures c.in-Ok.ensures b.ensures.messages b.ensures.asked b.ensures.issued b.ensures.lines
    g.C.Clock.is_read g.C.Clock.next ran.result.0 ran.result.1 c.deref_mut-3.result.now c.disarm-2.new.targets c.deref_mut-3.ensures.value c.disarm-2.ensures ran.ensures.served o started told ran.result.2 c.in-Ok-ran.lines c.in-Ok-ran.is g.met.S.Store.steady g.met.S.Store.findable g.met.S.Store.alike
    ran.ensures.run ran.ensures.accounts ran.ensures.reopens c.report_of.result c.report_of.ensures.report c.report_of.ensures.typed

pub returns-in-Ok-ran-clause-read : goal.returns-in-Ok-ran-clause-read
returns-in-Ok-ran-clause-read g c o started told =
    let b = c.new-2 in
    let ran = c.run_in_order-targets in
    comes-read g.S.Store.durable g.S.Store.state g.S.Store.may c.args.script.now c.args.job.now c.args.clients.items c.args.targets c.deref_mut-2.result.now c.arm.new.targets c.deref_mut-2.ensures.value c.in-Ok.watch c.arm.new.watch b.result c.as_slice.result.now c.arm.ensures c.as_slice.ensures c.in-Ok.ensures b.ensures.messages b.ensures.asked b.ensures.issued b.ensures.lines
    g.C.Clock.is_read g.C.Clock.next ran.result.0 ran.result.1 c.deref_mut-3.result.now c.disarm-2.new.targets c.deref_mut-3.ensures.value c.disarm-2.ensures ran.ensures.served o started told ran.result.2 c.in-Ok-ran.lines c.in-Ok-ran.is g.met.S.Store.steady g.met.S.Store.findable g.met.S.Store.alike
    ran.ensures.run ran.ensures.accounts ran.ensures.reopens c.report_of.result c.report_of.ensures.report c.report_of.ensures.typed

pub returns-in-Ok-ran-clause-in_turn : goal.returns-in-Ok-ran-clause-in_turn
returns-in-Ok-ran-clause-in_turn g c =
    let given = given_by c.args.script.now c.args.job.now c.requires.started.0 in
    let ran = c.run_in_order-targets in
    told-last g.S.Store.durable g.S.Store.state given _ c.args.targets.items c.requires.started.1 ran.result.2 c.in-Ok-ran.lines c.report_of.result c.new-2.ensures.lines (ran.ensures.in_turn (rules_of given)) c.in-Ok-ran.is c.report_of.ensures.report

pub returns-in-Ok-ran-clause-kinds : goal.returns-in-Ok-ran-clause-kinds
returns-in-Ok-ran-clause-kinds g c =
    let given = given_by c.args.script.now c.args.job.now c.requires.started.0 in
    let b = c.new-2 in
    let ran = c.run_in_order-targets in
    kinds-last c.args.script.now ran.result.2 c.in-Ok-ran.lines c.report_of.result
    (ran.ensures.kinds (rules_of given)
    (answers-begin g.S.Store.durable g.S.Store.state g.S.Store.may c.args.script.now c.args.job.now c.args.clients.items c.args.targets c.deref_mut-2.result.now c.arm.new.targets c.deref_mut-2.ensures.value c.in-Ok.watch c.arm.new.watch b.result c.as_slice.result.now c.arm.ensures c.as_slice.ensures c.in-Ok.ensures b.ensures.messages b.ensures.asked b.ensures.issued b.ensures.lines
    c.requires.started.0 c.requires.started.1))
    c.in-Ok-ran.is c.report_of.ensures.report

pub returns-in-Ok-ran-clause-ends : goal.returns-in-Ok-ran-clause-ends
returns-in-Ok-ran-clause-ends g c =
    let given = given_by c.args.script.now c.args.job.now c.requires.started.0 in
    let b = c.new-2 in
    let ran = c.run_in_order-targets in
    ends-last c.args.script.now ran.result.2 c.in-Ok-ran.lines c.report_of.result
    (ran.ensures.ends (rules_of given)
    (ends-begin g.S.Store.durable g.S.Store.state g.S.Store.may c.args.script.now c.args.job.now c.args.clients.items c.args.targets c.deref_mut-2.result.now c.arm.new.targets c.deref_mut-2.ensures.value c.in-Ok.watch c.arm.new.watch b.result c.as_slice.result.now c.arm.ensures c.as_slice.ensures c.in-Ok.ensures b.ensures.messages b.ensures.asked b.ensures.issued b.ensures.lines
    c.requires.started.0 c.requires.started.1))
    c.in-Ok-ran.is c.report_of.ensures.report

pub returns-in-Ok-ran-clause-in_order : goal.returns-in-Ok-ran-clause-in_order
returns-in-Ok-ran-clause-in_order g c =
    let given = given_by c.args.script.now c.args.job.now c.requires.started.0 in
    let b = c.new-2 in
    let ran = c.run_in_order-targets in
    in-order-last c.args.script.now ran.result.2 c.in-Ok-ran.lines c.report_of.result
    (ran.ensures.in_order (rules_of given)
    (ends-begin g.S.Store.durable g.S.Store.state g.S.Store.may c.args.script.now c.args.job.now c.args.clients.items c.args.targets c.deref_mut-2.result.now c.arm.new.targets c.deref_mut-2.ensures.value c.in-Ok.watch c.arm.new.watch b.result c.as_slice.result.now c.arm.ensures c.as_slice.ensures c.in-Ok.ensures b.ensures.messages b.ensures.asked b.ensures.issued b.ensures.lines
    c.requires.started.0 c.requires.started.1))
    c.in-Ok-ran.is c.report_of.ensures.report

pub returns-in-Ok-ran-clause-bytes : goal.returns-in-Ok-ran-clause-bytes
returns-in-Ok-ran-clause-bytes g c = bytes-last c.args.script.now c.in-Ok-ran.lines c.report_of.result c.report_of.ensures.bytes c.report_of.ensures.report

pub returns-in-Ok-ran-clause-served : goal.returns-in-Ok-ran-clause-served
returns-in-Ok-ran-clause-served g c =
    let b = c.new-2 in
    let ran = c.run_in_order-targets in
    all-served g.S.Store.durable g.S.Store.state g.S.Store.may c.args.script.now c.args.job.now c.args.clients.items c.args.targets c.deref_mut-2.result.now c.arm.new.targets c.deref_mut-2.ensures.value c.in-Ok.watch c.arm.new.watch b.result c.as_slice.result.now c.arm.ensures c.as_slice.ensures c.in-Ok.ensures b.ensures.messages b.ensures.asked b.ensures.issued b.ensures.lines
    g.C.Clock.is_read g.C.Clock.next ran.result.0 ran.result.1 c.deref_mut-3.result.now c.disarm-2.new.targets c.deref_mut-3.ensures.value c.disarm-2.ensures ran.ensures.served

pub returns-in-Ok-ran-clause-unfused : goal.returns-in-Ok-ran-clause-unfused
returns-in-Ok-ran-clause-unfused g c = put-unfused g.S.Store.durable g.S.Store.state g.S.Store.may c.run_in_order-targets.result.0 c.deref_mut-3.result.now c.disarm-2.new.targets c.deref_mut-3.ensures.value c.disarm-2.ensures

pub returns-clause-served : goal.returns-clause-served
returns-clause-served g c =
    let b = c.new-2 in
    let ran = c.run_in_order-targets in
    all-served g.S.Store.durable g.S.Store.state g.S.Store.may c.args.script.now c.args.job.now c.args.clients.items c.args.targets c.deref_mut-2.result.now c.arm.new.targets c.deref_mut-2.ensures.value c.in-Ok.watch c.arm.new.watch b.result c.as_slice.result.now c.arm.ensures c.as_slice.ensures c.in-Ok.ensures b.ensures.messages b.ensures.asked b.ensures.issued b.ensures.lines
    g.C.Clock.is_read g.C.Clock.next ran.result.0 ran.result.1 c.deref_mut-3.result.now c.disarm-2.new.targets c.deref_mut-3.ensures.value c.disarm-2.ensures ran.ensures.served

pub returns-clause-unfused : goal.returns-clause-unfused
returns-clause-unfused g c = put-unfused g.S.Store.durable g.S.Store.state g.S.Store.may c.run_in_order-targets.result.0 c.deref_mut-3.result.now c.disarm-2.new.targets c.deref_mut-3.ensures.value c.disarm-2.ensures

-- memory was wanting before the run, or in it
pub returns-in-Err-clause-broke : goal.returns-in-Err-clause-broke
returns-in-Err-clause-broke g c o started told =
    breaks-early g.S.Store.durable g.S.Store.state g.S.Store.may g.C.Clock.is_read g.C.Clock.next c.args.script.now c.args.job.now o c.args.clients.items c.args.targets c.deref_mut.result.now c.disarm.new.targets c.deref_mut.ensures.value c.disarm.ensures g.met.S.Store.steady g.met.S.Store.alike started told

pub returns-clause-broke : goal.returns-clause-broke
returns-clause-broke g c o started told =
    let b = c.new-2 in
    let ran = c.run_in_order-targets in
    breaks-late g.S.Store.durable g.S.Store.state g.S.Store.may c.args.script.now c.args.job.now c.args.clients.items c.args.targets c.deref_mut-2.result.now c.arm.new.targets c.deref_mut-2.ensures.value c.in-Ok.watch c.arm.new.watch b.result c.as_slice.result.now c.arm.ensures c.as_slice.ensures c.in-Ok.ensures b.ensures.messages b.ensures.asked b.ensures.issued b.ensures.lines
    g.C.Clock.is_read g.C.Clock.next ran.result.0 ran.result.1 c.deref_mut-3.result.now c.disarm-2.new.targets c.deref_mut-3.ensures.value c.disarm-2.ensures ran.ensures.served o started told ran.result.2 c.in-Err-ran.error c.in-Err-ran.is g.met.S.Store.steady g.met.S.Store.alike ran.ensures.broke
