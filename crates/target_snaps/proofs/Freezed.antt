-- What the calls of a store say of a freeze.
use Rattle.std.proofs.Common.{ℕ, ◌≡◌, ◌≤◌, ◌+◌, ◌&&◌, inl, refl, sym, ◌∙◌, ap, subst, Bool, true, false, not, nat_le, length, List, Option, Some, None, Result, Ok, Err, arith}
use Rattle.std.specs.Prelude.{if◌then◌else◌}
use Rattle.std.specs.List.{list_any}
use Rattle.base_types.specs.declared.answer.Answer.{Answer}
use Rattle.base_types.specs.declared.epoch.Epoch.{Epoch}
use Rattle.base_types.specs.declared.id.ContId.{ContId}
use Rattle.base_types.specs.declared.operation.Read.{Read}
use Rattle.base_types.specs.declared.operation.Read.TheVariants as read
use Rattle.base_types.specs.declared.snapshot.Snap.{Snap}
use Rattle.base_types.specs.Operations.{read_path}
use Rattle.daos_model.specs.declared.durable.Durable.{Durable}
use Rattle.daos_model.specs.Changes.{frozen}
use Rattle.daos_model.specs.Durables.{is_frozen, is_snap_at, row_of}
use Rattle.daos_model.specs.Forms.{is_read_in_form}
use Rattle.vos_store.specs.Answers.{fetched, freezes, is_past}
use Rattle.vos_store.specs.Calls.{Looks, State}
use Rattle.vos_store.specs.Refusals.{fetch_open, fetch_stop, says}
use Rattle.vos_store.specs.declared.refusal.FetchNo.{FetchNo}
use Rattle.vos_store.specs.declared.refusal.FetchNo.TheVariants as fetch
use Rattle.vos_store.specs.declared.refusal.FreezeNo.{FreezeNo}
use Rattle.vos_store.specs.declared.refusal.FreezeNo.TheVariants as freeze
use Rattle.world_base.specs.Changes.{After, Before, Cut, Freezes, InPart}
use Rattle.target_parts.specs.Halts.{halt_stop}
use Rattle.target_parts.specs.Parts.{WasAsked, WasCut, kept, left_by}
use Rattle.target_parts.specs.Turning.{was_asked}
use Rattle.target_snaps.specs.Freezing.{FreezesOrCut, froze_by}

-- ---- what is there

pub among-frozen : (d : Durable) (xs : List Snap) (c : ContId) (s : Epoch) (b : Bool) → b ≡ list_any (is_snap_at c s) xs → xs ≡ d.snaps → b ≡ is_frozen d c s
unfolding is_frozen
among-frozen d xs c s b found is = found ∙ ap (list_any (is_snap_at c s)) is

pub frozen-before : (c : ContId) (s : Epoch) (d : Durable) → is_frozen d c s ≡ true → frozen c s d ≡ d
unfolding frozen
frozen-before c s d is = rw is refl

no-more : (h k : ℕ) → h ≤ k + 0 → h ≤ k
no-more h k le = omega arith

-- a freeze of what is frozen was cut, which changes nothing
pub freeze-asked : (c : ContId) (s : Epoch) (d : Durable) (h k : State) (finds : Durable → Type 0) → is_frozen d c s ≡ true → WasCut (Freezes c s) (kept d h) (left_by k finds) → WasAsked (kept d h) (left_by k finds)
freeze-asked c s d h k finds is cut x found = (same (cut x found).0, no-more h.free x.free (cut x found).1)
  where
    same : Cut (Freezes c s) d x.durable → x.durable ≡ d
    same (Before e) = e
    same (After e) = e ∙ frozen-before c s d is
    same (InPart p) = absurd p

-- ---- which freezes are refused

pub freezes-well : (c : ContId) (s : Epoch) (d : Durable) → nat_le s.0 (row_of d c).aggregated.0 ≡ false → nat_le 256 (length d.snaps) ≡ false → freezes c s d ≡ Ok tt
unfolding freezes
freezes-well c s d above place = rw above (rw place (by (not (is_frozen d c s))))
  where
    by : (b : Bool) → ◌≡◌ {A = Result (Unit {0}) FreezeNo} (if b && false then Err freeze.NoPlace else Ok tt) (Ok tt)
    by true = refl
    by false = refl

pub freezes-full : (c : ContId) (s : Epoch) (d : Durable) → nat_le s.0 (row_of d c).aggregated.0 ≡ false → is_frozen d c s ≡ false → nat_le 256 (length d.snaps) ≡ true → freezes c s d ≡ Err freeze.NoPlace
unfolding freezes
freezes-full c s d above new place = rw above (rw new (rw place refl))

freezes-below : (c : ContId) (s : Epoch) (d : Durable) → nat_le s.0 (row_of d c).aggregated.0 ≡ true → freezes c s d ≡ Err (freeze.Below (row_of d c).aggregated (row_of d c).number)
unfolding freezes
freezes-below c s d below = rw below refl

-- a read there is told by which aggregation
fetched-below : (r : Read) (s : Epoch) (d : Durable) → nat_le s.0 (row_of d (read_path r).cont).aggregated.0 ≡ true → is_frozen d (read_path r).cont s ≡ false
    → fetched r s d ≡ Err (fetch.Aggregated (row_of d (read_path r).cont).aggregated (row_of d (read_path r).cont).number)
unfolding fetched is_past
fetched-below r s d below new = rw below (rw new refl)

pub form-of_cont : (c : ContId) → is_read_in_form (read.Exists (record { cont = c; obj = None; dkey = None; akey = None })) ≡ true
unfolding is_read_in_form
form-of_cont c = refl

pub says-froze : (no : FetchNo) → says halt_stop (froze_by no) ≡ fetch_stop no
says-froze fetch.Stopped = refl
says-froze (fetch.Unsettled a) = refl
says-froze (fetch.Aggregated g n) = refl
says-froze fetch.Memory = refl

module _ (r : Read) (c : ContId) (s : Epoch) (d : Durable) (h k : State) (old new : Option Durable) (may finds : Durable → Type 0) (of_cont : (read_path r).cont ≡ c) (below : nat_le s.0 (row_of d c).aggregated.0 ≡ true) (unfrozen : is_frozen d c s ≡ false) where
  told-below : fetched r s d ≡ Err (fetch.Aggregated (row_of d c).aggregated (row_of d c).number)
  told-below =
      subst (λ y. fetched r s d ≡ Err (fetch.Aggregated (row_of d y).aggregated (row_of d y).number)) of_cont
      (fetched-below r s d (subst (λ y. nat_le s.0 (row_of d y).aggregated.0 ≡ true) (sym of_cont) below) (subst (λ y. is_frozen d y s ≡ false) (sym of_cont) unfrozen))

  -- the read isn't answered otherwise
  pub read-untold : (a : Answer) → Ok a ≡ fetched r s d → ⊥
  read-untold a is = let both : Ok a ≡ Err (fetch.Aggregated (row_of d c).aggregated (row_of d c).number) = is ∙ told-below in cc

  pub below-froze : (no : FetchNo) → old ≡ Some d → ((x : Durable) → may x → x ≡ d) → (fetch_open no ≡ false → Err no ≡ fetched r s d) → Looks (fetch_stop no) old new may finds → k.free ≡ h.free → h.free ≤ k.free + 0
      → FreezesOrCut c s d h new k finds (froze_by no)
  below-froze fetch.Stopped at steady answer looks free cost = inl (was_asked d h k old new may finds steady looks cost)
  below-froze (fetch.Unsettled a) at steady answer looks free cost =
      absurd (let both : Err (fetch.Unsettled a) ≡ Err (fetch.Aggregated (row_of d c).aggregated (row_of d c).number) = answer refl ∙ told-below in cc)
  below-froze (fetch.Aggregated g n) at steady answer looks free cost =
      let both : Err (fetch.Aggregated g n) ≡ Err (fetch.Aggregated (row_of d c).aggregated (row_of d c).number) = answer refl ∙ told-below in
      let epochs : (row_of d c).aggregated ≡ g = cc in
      let numbers : (row_of d c).number ≡ n = cc in
      (freezes-below c s d below ∙ ap (λ x. Err (freeze.Below x (row_of d c).number)) epochs ∙ ap (λ x. Err (freeze.Below g x)) numbers, record { kept_is = looks.same refl ∙ at; free = free })
  below-froze fetch.Memory at steady answer looks free cost = record { kept_is = looks.same refl ∙ at; free = free }
