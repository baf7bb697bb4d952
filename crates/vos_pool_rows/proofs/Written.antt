-- What holds of a pool whose containers were enlisted in memory, after its region was written.
use Rattle.std.proofs.Common.{◌≡◌, ℕ, Bool, List, false, ◌∙◌, ap}
use Rattle.std.specs.Prelude.{IfErr, OnOk, Result, Ok, Err}
use Rattle.base_outside.specs.Images.{Image}
use Rattle.base_types.specs.declared.id.ContId.{ContId}
use Rattle.daos_model.specs.declared.durable.Durable.{Durable}
use Rattle.daos_model.specs.BoolLaws.{clash}
use Rattle.daos_model.specs.Changes.{enlisted}
use Rattle.vos_pool_base.specs.Pool.{OpenedState, StopsBy, kept_of, may_of}
use Rattle.vos_pool_base.specs.Tidy.{IfTidy, LeavesBut}
use Rattle.vos_pool_held.specs.Held.{IsHeld}
use Rattle.vos_pool_held.specs.Resting.{IfAtRest}
use Rattle.vos_store.specs.declared.refusal.EnlistNo.{EnlistNo}
use Rattle.vos_store.specs.declared.refusal.EnlistNo.TheVariants as enlist
use Rattle.vos_store.specs.Calls.{Makes}
use Rattle.vos_store.specs.Refusals.{enlist_open, enlist_stop, says}
use Rattle.vos_pool_rows.proofs.Keeping.{changed_holds, enlisted_keeps, stopped_holds}

module _ {R : Type 0} (tells : Bool) (extent : R → ℕ) (image : R → Image) (may_leave : R → Image → Type 0) (p q : OpenedState R) (memory memory' : Durable) (free floor target targets : ℕ) where
  pub written_holds : (cs : List ContId) (result : Result (Unit {0}) EnlistNo) (f f' b b' : ℕ) → IfErr result (λ e. e ≡ enlist.Stopped) → StopsBy (says enlist_stop result) p.blocks.undo.stopped q.blocks.undo.stopped f f' b b'
      → ∥ IsHeld tells extent image may_leave p memory free floor target targets ∥₁ → p.blocks.undo.stopped ≡ false → extent q.blocks.undo.region ≡ extent p.blocks.undo.region → LeavesBut tells extent may_leave 0 p q → q.blocks.map ≡ p.blocks.map
      → OnOk result (IfTidy tells extent image p → IfTidy tells extent image q) → IfAtRest tells image may_leave q
      → Makes p.blocks.undo.stopped enlist_stop (enlisted cs) result (kept_of tells extent image p) (kept_of tells extent image q) (may_of tells extent may_leave p) (may_of tells extent may_leave q)
      → memory' ≡ enlisted cs memory → ∥ IsHeld tells extent image may_leave q memory' free floor target targets ∥₁
  written_holds cs (Ok x) f f' b b' stopped s held run size l map tidy rests m made =
      changed_holds tells extent image may_leave p q memory memory' free floor target targets (enlisted cs) (enlisted_keeps cs) held run size l map m.done tidy rests made
  written_holds cs (Err e) f f' b b' stopped s held run size l map tidy rests m made =
      let same = enlisted_keeps cs memory in
      stopped_holds tells extent image may_leave p q memory memory' free floor target targets held (s.stopped ∙ ap enlist_stop stopped) size l map
      (ap (λ (d : Durable). d.lease) made ∙ same.lease) (ap (λ (d : Durable). d.versions) made ∙ same.versions)

-- it answers as what is kept asks, where that is Ok
pub written_answers : (result asked : Result (Unit {0}) EnlistNo) → IfErr result (λ e. e ≡ enlist.Stopped) → Ok tt ≡ asked → says enlist_open result ≡ false → result ≡ asked
written_answers (Ok x) asked stopped may free = may
written_answers (Err e) asked stopped may free = absurd (clash (enlist_open e) (ap enlist_open stopped) free)
