-- What a store answers of what it keeps is in form.
use Rattle.std.proofs.Common.{◌≡◌, ℕ, ◌<◌, inr, true, List, Option, Some, None, Result, Ok, Err, sym, subst, arith}
use Rattle.std.specs.Prelude.{◌==◌, IfOk, IfSome, find}
use Rattle.std.specs.List.{list_all}
use Rattle.base_types.specs.declared.answer.Answer.{Answer}
use Rattle.base_types.specs.declared.epoch.Epoch.{Epoch}
use Rattle.std.specs.declared.alloc.AllocError.{AllocError}
use Rattle.base_types.specs.declared.operation.Read.{Read}
use Rattle.base_types.specs.declared.outcome.FloorWhy.{FloorWhy}
use Rattle.base_types.specs.declared.path.Path.{Path}
use Rattle.base_types.specs.declared.shown.Shown.{Shown}
use Rattle.daos_model.specs.declared.durable.ContRow.{ContRow}
use Rattle.daos_model.specs.declared.durable.Durable.{Durable}
use Rattle.daos_model.specs.declared.durable.Version.{Version}
use Rattle.daos_model.specs.Answers.{answer}
use Rattle.daos_model.specs.BoolLaws.{or_other}
use Rattle.daos_model.specs.Durables.{is_floor_in_form, is_stored_why, is_version_in_form}
use Rattle.daos_model.specs.FormLaws.{all-find, path-in_form}
use Rattle.daos_model.specs.Forms.{is_path_in_form, is_read_in_form}
use Rattle.daos_model.specs.Kinds.{is_of_kind}
use Rattle.daos_model.specs.Versions.{first_between, is_between, map_below}
use Rattle.daos_model.proofs.AnswerKinds.{kind-answer}
use Rattle.vos_store.specs.declared.refusal.FetchNo.{FetchNo}
use Rattle.vos_store.specs.Answers.{IsFloorShown, later_write, shown_or_none}

-- an answer of versions in form is of its read's kind
pub kind_of : (x : Result Answer FetchNo) (r : Read) (e : ℕ) (vs : List Version) → is_read_in_form r ≡ true → list_all is_version_in_form vs ≡ true → IfOk x (λ a. a ≡ answer r (map_below vs e)) → IfOk x (λ a. is_of_kind r a ≡ true)
kind_of (Ok a) r e vs g f is = subst (λ b. is_of_kind r b ≡ true) (sym is) (kind-answer r vs e g f)
kind_of (Err x) r e vs g f is = tt

shown_in_form : (p : Path) (above upto : Epoch) (d : Durable) → list_all is_version_in_form d.versions ≡ true → IfSome (later_write p above upto d) (λ x. is_path_in_form x.path ≡ true)
unfolding later_write first_between
shown_in_form p above upto d f = by (find (is_between p above.0 upto.0) d.versions) (all-find is_version_in_form (is_between p above.0 upto.0) d.versions f)
  where
    by : (o : Option Version) → IfSome o (λ v. is_version_in_form v ≡ true) → IfSome (shown_or_none o) (λ x. is_path_in_form x.path ≡ true)
    by None h = tt
    by (Some v) h = path-in_form v.write h

-- what is shown as a later write has a path in form
pub shows_in_form : (x : Result (Option Shown) AllocError) (p : Path) (above upto : Epoch) (d : Durable) → list_all is_version_in_form d.versions ≡ true → IfOk x (λ s. s ≡ later_write p above upto d) → IfOk x (λ s. IfSome s (λ y. is_path_in_form y.path ≡ true))
shows_in_form (Ok s) p above upto d f is = subst (λ z. IfSome z (λ y. is_path_in_form y.path ≡ true)) (sym is) (shown_in_form p above upto d f)
shows_in_form (Err e) p above upto d f is = tt

-- a floor above that of the opening was set by a snapshot or an aggregation
pub raised_shown : (opening : Epoch × FloorWhy) (r : ContRow) → is_floor_in_form r ≡ true → opening.0.0 < r.floor.0 → IsFloorShown opening (r.floor, r.why)
raised_shown opening r h above = inr (or_other (r.floor.0 == 0) (is_stored_why r.why) h (grind (arith, above)))
