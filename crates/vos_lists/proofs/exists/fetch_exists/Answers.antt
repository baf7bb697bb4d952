use Rattle.std.proofs.Common.{◌≡◌, ◌∙◌, ap, subst, sym}
use Rattle.daos_model.specs.Answers.{has_cell_below, yes_or_no}
use Rattle.daos_model.specs.Durables.{version_key}
use Rattle.daos_model.specs.Ordered.{in_order}
use Rattle.daos_model.specs.Versions.{map_below}
use Rattle.vos_values.specs.declared.keys.ObjectKey.{ObjectKey}
use Rattle.vos_path.specs.Objects.{akey_path, dkey_path, object_path, objects_versions}
use Rattle.vos_path.proofs.Naming.{named}
use Rattle.vos_punches.specs.Punches.{covering}
use Rattle.vos_punches.specs.Rows.{moments_at}
use Rattle.vos_reads.specs.Ways.{IsSettled, akey_of, below_object, dkey_of}
use Rattle.vos_lists.specs.declared.view.View.{View}
use Rattle.vos_lists.specs.Covers.{CoverAkeys, CoverDkeys}
use Rattle.vos_lists.specs.Stands.{covered, has_value}
use Rattle.vos_lists.specs.Unders.{over_akeys, over_dkeys}
use Rattle.vos_lists.proofs.Alive.{akey_law}
use Rattle.vos_lists.proofs.NamesBelow.{cont_law, dkey_law, object_law}
use Rattle.vos_lists.proofs.Indexed.{cover_akeys, cover_dkeys, cover_objects, over_values}
use Rattle.vos_lists.proofs.Settled.{cont_path}
use Rattle.vos_lists.proofs.Ends.{cont_ends, form_ends}
use Rattle.vos_lists.proofs.exists.fetch_exists.Goals as goal

pub returns-in_ok-stands-in-Some-Some-clause-found : goal.returns-in_ok-stands-in-Some-Some-clause-found
returns-in_ok-stands-in-Some-Some-clause-found g c told x held at settled are =
    let m = g.P.Pages.blocks c.args.pages.now in
    let p = c.args.path.now in
    let e = c.args.below in
    let o : ObjectKey = record { cont = p.cont; obj = c.in-Some.obj } in
    let d = c.in-Some-Some.dkey in
    let a = c.in-Some-Some.akey in
    let path : p ≡ akey_path o d a = λ i. record { cont = p.cont; obj = c.in-Some.is i; dkey = c.in-Some-Some.is-0 i; akey = c.in-Some-Some.is-1 i } in
    let dkey = named p.dkey d c.in-Some-Some.is-0 c.requires.names.dkey in
    let akey = named p.akey a c.in-Some-Some.is-1 c.requires.names.akey in
    let w : View = record { unit = c.in-Some.obj.unit; below = e } in
    let object = c.in_ok-stands-in-Some-Some.ensures.object in
    let settled_akey = subst (λ z. IsSettled z e x) path settled in
    let law = akey_law m x o d a held object dkey akey e settled_akey in
    let f = moments_at c.args.punches.now in
    let punched : c.covering-punched.result ≡ covered w (over_akeys w o d x) (akey_of o d a x).0 = c.covering-punched.ensures ∙ (ap (λ z. covering e z f) path ∙ over_values m x held e f are o d a object dkey akey settled_akey) in
    let found = c.in_ok-stands-in-Some-Some.ensures.found told x held at ∙ ap (λ z. has_value w z (akey_of o d a x)) punched in
    c.yes_or_no-in-Some-Some.ensures ∙ ap yes_or_no (found ∙ (sym law ∙ ap (λ z. has_cell_below z (map_below (in_order version_key (objects_versions x)) e.0)) (sym path)))

pub returns-in_ok-stands-in-Some-None-clause-found : goal.returns-in_ok-stands-in-Some-None-clause-found
returns-in_ok-stands-in-Some-None-clause-found g c told x held at settled are =
    let m = g.P.Pages.blocks c.args.pages.now in
    let p = c.args.path.now in
    let e = c.args.below in
    let o : ObjectKey = record { cont = p.cont; obj = c.in-Some.obj } in
    let d = c.in-Some-None.dkey in
    let path : p ≡ dkey_path o d = λ i. record { cont = p.cont; obj = c.in-Some.is i; dkey = c.in-Some-None.is-0 i; akey = c.in-Some-None.is-1 i } in
    let dkey = named p.dkey d c.in-Some-None.is-0 c.requires.names.dkey in
    let w : View = record { unit = c.in-Some.obj.unit; below = e } in
    let object = c.in_ok-stands-in-Some-None.ensures.object in
    let settled_dkey = subst (λ z. IsSettled z e x) path settled in
    let law = dkey_law m x o d held object dkey e settled_dkey in
    let f = moments_at c.args.punches.now in
    let cover = subst (λ z. CoverAkeys w f z (over_akeys w o d x) (dkey_of o d x).1) (sym path) (cover_akeys m x held e f are o d object dkey settled_dkey) in
    c.yes_or_no-in-Some-None.ensures
    ∙ ap yes_or_no (c.in_ok-stands-in-Some-None.ensures.found told x held at cover ∙ (sym law ∙ ap (λ z. has_cell_below z (map_below (in_order version_key (objects_versions x)) e.0)) (sym path)))

pub returns-in_ok-stands-in-None-default-clause-found : goal.returns-in_ok-stands-in-None-default-clause-found
returns-in_ok-stands-in-None-default-clause-found g c told x held at settled are =
    let m = g.P.Pages.blocks c.args.pages.now in
    let p = c.args.path.now in
    let e = c.args.below in
    let o : ObjectKey = record { cont = p.cont; obj = c.in-Some.obj } in
    let akey = form_ends p c.requires.form c.in-None-default.is-0 in
    let path : p ≡ object_path o = λ i. record { cont = p.cont; obj = c.in-Some.is i; dkey = c.in-None-default.is-0 i; akey = akey i } in
    let w : View = record { unit = c.in-Some.obj.unit; below = e } in
    let object = c.in_ok-stands-in-None-default.ensures.object in
    let settled_object = subst (λ z. IsSettled z e x) path settled in
    let law = object_law m x o held object e settled_object in
    let f = moments_at c.args.punches.now in
    let cover = subst (λ z. CoverDkeys w f z (over_dkeys w o x) (below_object o x).1) (sym path) (cover_dkeys m x held e f are o object settled_object) in
    c.yes_or_no-in-None-default.ensures
    ∙ ap yes_or_no (c.in_ok-stands-in-None-default.ensures.found told x held at cover ∙ (sym law ∙ ap (λ z. has_cell_below z (map_below (in_order version_key (objects_versions x)) e.0)) (sym path)))

pub returns-in_default-clause-found : goal.returns-in_default-clause-found
returns-in_default-clause-found g c told x held at settled are =
    let m = g.P.Pages.blocks c.args.pages.now in
    let p = c.args.path.now in
    let e = c.args.below in
    let ends = cont_ends p c.requires.form c.in_default.is in
    let path : p ≡ cont_path p.cont = λ i. record { cont = p.cont; obj = c.in_default.is i; dkey = ends.0 i; akey = ends.1 i } in
    let settled_cont = subst (λ z. IsSettled z e x) path settled in
    let law = cont_law m x p.cont held e settled_cont in
    let cover = cover_objects m x held e (moments_at c.args.punches.now) are p.cont settled_cont in
    c.yes_or_no.ensures ∙ ap yes_or_no (c.in_ok-stands.ensures.found told x held at cover ∙ (sym law ∙ ap (λ z. has_cell_below z (map_below (in_order version_key (objects_versions x)) e.0)) (sym path)))
