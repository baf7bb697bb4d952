use Rattle.std.proofs.Common.{◌≡◌, ◌∙◌, Option, Some, sym}
use Rattle.std.specs.Prelude.{OnOk}
use Rattle.daos_model.specs.declared.durable.Durable.{Durable}
use Rattle.vos_tests.specs.Rows.{CanPut, one, put_one, put_two, started, two}
use Rattle.vos_tests.proofs.Allowed.{at-told, can_put_one, can_put_two, on-ok, one_in_form, put_one_is, put_two_is, two_in_form}
use Rattle.vos_tests.proofs.rows.put_two.Goals as goal

pub put-requires-clause-form : goal.put-requires-clause-form
put-requires-clause-form g c = one_in_form

pub put-requires-clause-here : goal.put-requires-clause-here
put-requires-clause-here g c =
    at-told (CanPut (g.S.Store.state c.start.new.store) 0 256 one) (g.S.Store.durable c.start.new.store) started c.in_ok-start.ensures.kept
    (can_put_one (g.S.Store.state c.start.new.store) (c.in_ok-start.ensures.state.opening ∙ c.requires.opening))

pub put-requires-2-clause-form : goal.put-requires-2-clause-form
put-requires-2-clause-form g c = two_in_form

pub put-requires-2-clause-here : goal.put-requires-2-clause-here
put-requires-2-clause-here g c =
    at-told (CanPut (g.S.Store.state c.put.new.store) 1 512 two) (g.S.Store.durable c.put.new.store) put_one
    (put_one_is (g.S.Store.durable c.start.new.store) (g.S.Store.durable c.put.new.store) c.in_ok-start.ensures.kept c.in_ok-put.ensures.kept)
    (can_put_two (g.S.Store.state c.put.new.store) (c.in_ok-put.ensures.state.opening ∙ c.in_ok-start.ensures.state.opening ∙ c.requires.opening))

pub returns-clause-kept : goal.returns-clause-kept
returns-clause-kept g c =
    on-ok c.put-2.result (λ kept. put_two_is (g.S.Store.durable c.start.new.store) (g.S.Store.durable c.put.new.store) (g.S.Store.durable c.put-2.new.store) c.in_ok-start.ensures.kept c.in_ok-put.ensures.kept kept) c.put-2.ensures.kept
