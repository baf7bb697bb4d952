use Rattle.std.proofs.Common.{◌≡◌, ◌∙◌, ap, arith, subst, sym}
use Rattle.base_types.specs.declared.answer.Answer.TheVariants.{Names}
use Rattle.daos_model.specs.Answers.{dkeys_below, in_byte_order}
use Rattle.daos_model.specs.Durables.{version_key}
use Rattle.daos_model.specs.Ordered.{in_order}
use Rattle.daos_model.specs.Versions.{map_below}
use Rattle.pmem_pages.specs.Owners.{Holds}
use Rattle.vos_values.specs.declared.keys.ObjectKey.{ObjectKey}
use Rattle.vos_levels.proofs.Calls.{if_ok_then}
use Rattle.vos_levels.specs.Levels.{hung}
use Rattle.vos_path.specs.Objects.{dkey_level, object_path, objects_versions}
use Rattle.vos_reads.specs.Ways.{IsSettled, below_object}
use Rattle.vos_reads.proofs.Going.{dkeys_hold}
use Rattle.vos_punches.specs.Rows.{moments_at}
use Rattle.vos_lists.specs.Covers.{CoverDkeys}
use Rattle.vos_lists.specs.Stands.{dkey_name, dkey_stands}
use Rattle.vos_lists.specs.Unders.{over_dkeys}
use Rattle.vos_lists.specs.declared.view.View.{View}
use Rattle.vos_lists.proofs.NamesBelow.{dkeys_law}
use Rattle.vos_lists.proofs.Ends.{object_ends}
use Rattle.vos_lists.proofs.Indexed.{cover_dkeys}
use Rattle.vos_lists.proofs.Walking.{all_taken}
use Rattle.vos_lists.proofs.list.list_dkeys.Goals as goal

pub dkey_names-requires : goal.dkey_names-requires
dkey_names-requires g c = record {
  here = λ told.
      let s = c.requires.here told in
      let x = s.0 in
      let o : ObjectKey = record { cont = c.args.path.now.cont; obj = c.in-Some.obj } in
      let root = c.in_ok-root.ensures.found told x s.1.0 s.1.1.0 in
      let dkeys = (below_object o x).1 in
      (dkeys, (subst (λ b. Holds (hung dkey_level) b dkeys) (sym (c.under_object.ensures.kept told)) (dkeys_hold (g.P.Pages.blocks c.args.pages.now) x o s.1.0), (root, tt)));
}

pub returns-clause-found : goal.returns-clause-found
returns-clause-found g c = if_ok_then c.dkey_names.result (λ names h told x held at settled are.
    let m = g.P.Pages.blocks c.args.pages.now in
    let p = c.args.path.now in
    let e = c.args.below in
    let o : ObjectKey = record { cont = p.cont; obj = c.in-Some.obj } in
    let w : View = record { unit = c.in-Some.obj.unit; below = e } in
    let root = c.in_ok-root.ensures.found told x held at in
    let object = c.in_ok-root.ensures.object in
    let f = moments_at c.args.punches.now in
    let dkeys = (below_object o x).1 in
    let stand = dkeys_hold m x o held in
    let here = subst (λ b. Holds (hung dkey_level) b dkeys) (sym (c.under_object.ensures.kept told)) stand in
    let ends = object_ends p c.requires.form in
    let path : p ≡ object_path o = λ i. record { cont = p.cont; obj = c.in-Some.is i; dkey = ends.0 i; akey = ends.1 i } in
    let settled_object = subst (λ z. IsSettled z e x) path settled in
    let law = dkeys_law m x o held object e settled_object in
    let cover = subst (λ z. CoverDkeys w f z (over_dkeys w o x) dkeys) (sym path) (cover_dkeys m x held e f are o object settled_object) in
    let all = h told dkeys here root (over_dkeys w o x) cover ∙ all_taken dkey_level (dkey_stands w (over_dkeys w o x)) dkey_name m dkeys stand 18446744073709551615 (omega arith) in
    ap (λ z. Names z) (all ∙ (sym law ∙ ap (λ z. in_byte_order (dkeys_below z (map_below (in_order version_key (objects_versions x)) e.0))) (sym path)))) c.dkey_names.ensures.found
