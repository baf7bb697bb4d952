-- What the writes of an entry are kept as.
use Rattle.std.proofs.Common.{◌≡◌, true, List, [], ◌∷◌, Vec, Result, Ok, Err, refl, ◌∙◌, ap}
use Rattle.std.specs.Prelude.{All, IfOk}
use Rattle.std.specs.List.{list_all}
use Rattle.std.proofs.lemmas.List.Elements.{All-head, All-tail}
use Rattle.base_types.specs.declared.entry.Entry.{Entry}
use Rattle.base_types.specs.declared.operation.MinorWrite.{MinorWrite}
use Rattle.daos_model.specs.declared.durable.Durable.{Durable}
use Rattle.daos_model.specs.declared.durable.Version.{Version}
use Rattle.daos_model.specs.BoolLaws.{both}
use Rattle.daos_model.specs.Changes.{prepared}
use Rattle.daos_model.specs.Durables.{is_version_in_form}
use Rattle.daos_model.specs.Forms.{AreWritesInForm, is_write_in_form}
use Rattle.daos_model.specs.Versions.{versions_of}
use Rattle.vos_contents.specs.Steps.{with_entry}

versions-in_form : (e : Entry) (ws : List MinorWrite) → All (λ w. is_write_in_form w.write ≡ true) ws → list_all is_version_in_form (versions_of e ws) ≡ true
versions-in_form e [] h = refl
versions-in_form e (w ∷ ws) h =
    both (is_write_in_form w.write) (list_all is_version_in_form (versions_of e ws)) (All-head (λ x. is_write_in_form x.write ≡ true) w ws h)
    (versions-in_form e ws (All-tail (λ x. is_write_in_form x.write ≡ true) w ws h))

pub form_as_told : {Z E : Type 0} (r : Result (Vec Version Z) E) (e : Entry) (ws : List MinorWrite) → AreWritesInForm ws → IfOk r (λ v. v.items ≡ versions_of e ws) → IfOk r (λ v. list_all is_version_in_form v.items ≡ true)
form_as_told (Ok v) e ws f h = ap (list_all is_version_in_form) h ∙ versions-in_form e ws f.each
form_as_told (Err x) e ws f h = tt

-- an entry and its versions more are what a prepare makes
pub prepared_is : (e : Entry) (ws : List MinorWrite) (vs : List Version) (d y z : Durable) → vs ≡ versions_of e ws → y ≡ d → z ≡ with_entry vs e y → z ≡ prepared e ws d
unfolding prepared
prepared_is e ws vs d y z v s k = k ∙ ap (λ x. with_entry vs e x) s ∙ ap (λ x. with_entry x e d) v
