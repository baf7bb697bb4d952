use Rattle.std.proofs.Common.{◌≡◌, ◌∙◌, ap, arith, subst, sym}
use Rattle.std.specs.Option.{option_map}
use Rattle.base_types.specs.declared.operation.Read.TheVariants as read
use Rattle.daos_model.specs.Answers.{answer}
use Rattle.daos_model.specs.Durables.{version_key}
use Rattle.daos_model.specs.Ordered.{in_order}
use Rattle.daos_model.specs.Versions.{map_below}
use Rattle.pmem_pages.specs.Owners.{Holds}
use Rattle.vos_values.specs.declared.keys.ObjectKey.{ObjectKey}
use Rattle.vos_levels.specs.Levels.{find_last, things}
use Rattle.vos_levels.proofs.Calls.{if_ok_then}
use Rattle.vos_single.specs.Singles.{is_under, single_owner, version_of}
use Rattle.vos_path.specs.Objects.{akey_path, objects_versions}
use Rattle.vos_path.proofs.Naming.{named}
use Rattle.vos_path.proofs.Written.{holds_single}
use Rattle.vos_reads.specs.Cost.{StepsToSingle}
use Rattle.vos_reads.specs.Ways.{IsSettled, akey_of, single_answer, start_of}
use Rattle.vos_punches.specs.Punches.{covering}
use Rattle.vos_punches.specs.Rows.{moments_at}
use Rattle.vos_reads.proofs.Costs.{of_names}
use Rattle.vos_reads.proofs.Indexed.{covering_is}
use Rattle.vos_reads.proofs.Covered.{single_law}
use Rattle.vos_reads.proofs.Going.{values_hold}
use Rattle.vos_reads.proofs.single.fetch_single.Goals as goal

pub newest_single-requires : goal.newest_single-requires
newest_single-requires g c = record {
  here = λ told.
      let s = c.requires.here told in
      let x = s.0 in
      let m = g.P.Pages.blocks c.args.pages.now in
      let o : ObjectKey = record { cont = c.args.path.now.cont; obj = c.in-Some-Some-Some.obj } in
      let d = c.in-Some-Some-Some.dkey in
      let a = c.in-Some-Some-Some.akey in
      let e = c.way_down.ensures.kept told in
      let w = c.in_ok-roots.ensures.found told x s.1.0 s.1.1.0 in
      let same = e in
      let singles = (akey_of o d a x).1.0 in
      (singles, (subst (λ b. Holds single_owner b singles) (sym same) (holds_single m (akey_of o d a x) (values_hold m x o s.1.0 d a)), (ap (λ z. z.singles) w, tt)));
}

pub returns-clause-found : goal.returns-clause-found
returns-clause-found g c = if_ok_then c.newest_single.result (λ made h told x held at settled are.
    let m = g.P.Pages.blocks c.args.pages.now in
    let o : ObjectKey = record { cont = c.args.path.now.cont; obj = c.in-Some-Some-Some.obj } in
    let d = c.in-Some-Some-Some.dkey in
    let a = c.in-Some-Some-Some.akey in
    let e = c.way_down.ensures.kept told in
    let w = c.in_ok-roots.ensures.found told x held at in
    let same = e in
    let path : c.args.path.now ≡ akey_path o d a = λ i. record { cont = c.args.path.now.cont; obj = c.in-Some-Some-Some.is-0 i; dkey = c.in-Some-Some-Some.is-1 i; akey = c.in-Some-Some-Some.is-2 i } in
    let dkey = named c.args.path.now.dkey d c.in-Some-Some-Some.is-1 c.requires.names.dkey in
    let akey = named c.args.path.now.akey a c.in-Some-Some-Some.is-2 c.requires.names.akey in
    let v = akey_of o d a x in
    let q = c.covering-punched.ensures ∙ (ap (λ z. covering c.args.below z (moments_at c.args.punches.now)) path ∙ covering_is m x o d a held c.in_ok-roots.ensures.object dkey akey c.args.below (subst (λ z. IsSettled z c.args.below x) path settled) (moments_at c.args.punches.now) are) in
    let f = h told v.1.0 (subst (λ b. Holds single_owner b v.1.0) (sym same) (holds_single m v (values_hold m x o held d a))) (ap (λ z. z.singles) w) in
    let law = single_law m x o d a held c.in_ok-roots.ensures.object dkey akey c.args.below (subst (λ z. IsSettled z c.args.below x) path settled) in
    f
    ∙ (ap (λ z. single_answer z (option_map version_of (find_last (is_under (start_of c.args.below)) (things v.1.0)))) q
    ∙ (law ∙ ap (λ z. answer (read.Single z) (map_below (in_order version_key (objects_versions x)) c.args.below.0)) (sym path)))) c.newest_single.ensures.found

pub returns-in_err-roots-clause-steps : goal.returns-in_err-roots-clause-steps
returns-in_err-roots-clause-steps g c told x held at =
    let m = g.P.Pages.blocks c.args.pages.now in
    let o : ObjectKey = record { cont = c.args.path.now.cont; obj = c.in-Some-Some-Some.obj } in
    let d = c.in-Some-Some-Some.dkey in
    let a = c.in-Some-Some-Some.akey in
    let path : c.args.path.now ≡ akey_path o d a = λ i. record { cont = c.args.path.now.cont; obj = c.in-Some-Some-Some.is-0 i; dkey = c.in-Some-Some-Some.is-1 i; akey = c.in-Some-Some-Some.is-2 i } in
    of_names (λ o k a. StepsToSingle o k a x _ _) c.args.path.now o d a path (λ n few last.
    let one = c.way_down.ensures.steps told x held at n few in
    omega arith)

pub returns-clause-steps : goal.returns-clause-steps
returns-clause-steps g c told x held at =
    let m = g.P.Pages.blocks c.args.pages.now in
    let o : ObjectKey = record { cont = c.args.path.now.cont; obj = c.in-Some-Some-Some.obj } in
    let d = c.in-Some-Some-Some.dkey in
    let a = c.in-Some-Some-Some.akey in
    let path : c.args.path.now ≡ akey_path o d a = λ i. record { cont = c.args.path.now.cont; obj = c.in-Some-Some-Some.is-0 i; dkey = c.in-Some-Some-Some.is-1 i; akey = c.in-Some-Some-Some.is-2 i } in
    of_names (λ o k a. StepsToSingle o k a x _ _) c.args.path.now o d a path (λ n few last.
    let one = c.way_down.ensures.steps told x held at n few in
    let e = c.way_down.ensures.kept told in
    let w = c.in_ok-roots.ensures.found told x held at in
    let v = akey_of o d a x in
    let same = e in
    let three = c.newest_single.ensures.steps told v.1.0 (subst (λ b. Holds single_owner b v.1.0) (sym same) (holds_single m v (values_hold m x o held d a))) (ap (λ z. z.singles) w) n last in
    omega arith)
