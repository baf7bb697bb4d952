use Rattle.std.proofs.Common.{◌≡◌, ◌∙◌, ap, arith, subst, sym}
use Rattle.base_types.specs.declared.answer.Answer.TheVariants.{Names}
use Rattle.daos_model.specs.Answers.{akeys_below, in_byte_order}
use Rattle.daos_model.specs.Durables.{version_key}
use Rattle.daos_model.specs.Ordered.{in_order}
use Rattle.daos_model.specs.Versions.{map_below}
use Rattle.pmem_pages.specs.Owners.{Holds}
use Rattle.vos_values.specs.declared.keys.ObjectKey.{ObjectKey}
use Rattle.vos_levels.proofs.Calls.{if_ok_then}
use Rattle.vos_levels.specs.Levels.{hung}
use Rattle.vos_path.specs.Objects.{akey_level, dkey_path, objects_versions}
use Rattle.vos_path.proofs.Naming.{named}
use Rattle.vos_reads.specs.Ways.{IsSettled, dkey_of}
use Rattle.vos_reads.proofs.Going.{akeys_hold}
use Rattle.vos_punches.specs.Rows.{moments_at}
use Rattle.vos_lists.specs.Covers.{CoverAkeys}
use Rattle.vos_lists.specs.Stands.{akey_name, akey_stands}
use Rattle.vos_lists.specs.Unders.{over_akeys}
use Rattle.vos_lists.specs.declared.view.View.{View}
use Rattle.vos_lists.proofs.NamesBelow.{akeys_law}
use Rattle.vos_lists.proofs.Ends.{dkey_ends}
use Rattle.vos_lists.proofs.Indexed.{cover_akeys}
use Rattle.vos_lists.proofs.Walking.{all_taken}
use Rattle.vos_lists.proofs.list.list_akeys.Goals as goal

pub akey_names-requires : goal.akey_names-requires
akey_names-requires g c = record {
  here = λ told.
      let s = c.requires.here told in
      let x = s.0 in
      let o : ObjectKey = record { cont = c.args.path.now.cont; obj = c.in-Some-Some.obj } in
      let d = c.in-Some-Some.dkey in
      let root = c.in_ok-root.ensures.found told x s.1.0 s.1.1.0 in
      let akeys = (dkey_of o d x).1 in
      (akeys, (subst (λ b. Holds (hung akey_level) b akeys) (sym (c.under_dkey.ensures.kept told)) (akeys_hold (g.P.Pages.blocks c.args.pages.now) x o s.1.0 d), (root, tt)));
}

pub returns-clause-found : goal.returns-clause-found
returns-clause-found g c = if_ok_then c.akey_names.result (λ names h told x held at settled are.
    let m = g.P.Pages.blocks c.args.pages.now in
    let p = c.args.path.now in
    let e = c.args.below in
    let o : ObjectKey = record { cont = p.cont; obj = c.in-Some-Some.obj } in
    let d = c.in-Some-Some.dkey in
    let w : View = record { unit = c.in-Some-Some.obj.unit; below = e } in
    let root = c.in_ok-root.ensures.found told x held at in
    let object = c.in_ok-root.ensures.object in
    let f = moments_at c.args.punches.now in
    let akeys = (dkey_of o d x).1 in
    let stand = akeys_hold m x o held d in
    let here = subst (λ b. Holds (hung akey_level) b akeys) (sym (c.under_dkey.ensures.kept told)) stand in
    let akey = dkey_ends p c.requires.form in
    let path : p ≡ dkey_path o d = λ i. record { cont = p.cont; obj = c.in-Some-Some.is-0 i; dkey = c.in-Some-Some.is-1 i; akey = akey i } in
    let dkey = named p.dkey d c.in-Some-Some.is-1 c.requires.names.dkey in
    let settled_dkey = subst (λ z. IsSettled z e x) path settled in
    let law = akeys_law m x o d held object dkey e settled_dkey in
    let cover = subst (λ z. CoverAkeys w f z (over_akeys w o d x) akeys) (sym path) (cover_akeys m x held e f are o d object dkey settled_dkey) in
    let all = h told akeys here root (over_akeys w o d x) cover ∙ all_taken akey_level (akey_stands w (over_akeys w o d x)) akey_name m akeys stand 18446744073709551615 (omega arith) in
    ap (λ z. Names z) (all ∙ (sym law ∙ ap (λ z. in_byte_order (akeys_below z (map_below (in_order version_key (objects_versions x)) e.0))) (sym path)))) c.akey_names.ensures.found
