use Rattle.std.proofs.Common.{◌≡◌, ◌∙◌, ◌+◌, ◌-◌, arith, ap, subst, sym}
use Rattle.base_types.specs.declared.answer.Answer.TheVariants.{Parts}
use Rattle.daos_model.specs.Answers.{pieces}
use Rattle.daos_model.specs.Durables.{version_key}
use Rattle.daos_model.specs.Ordered.{in_order}
use Rattle.daos_model.specs.Versions.{map_below}
use Rattle.pmem_pages.specs.Owners.{Holds}
use Rattle.vos_values.specs.declared.keys.ObjectKey.{ObjectKey}
use Rattle.vos_extent.specs.Extents.{extent_owner, extents}
use Rattle.vos_extent.specs.Shown.{pieces_at}
use Rattle.vos_path.specs.Objects.{akey_path, objects_versions}
use Rattle.vos_path.proofs.Naming.{named}
use Rattle.vos_path.proofs.Written.{holds_extent}
use Rattle.vos_reads.specs.Cost.{StepsToExtents}
use Rattle.vos_reads.specs.Ways.{IsSettled, akey_of, below_object, dkey_of, last_punch, start_of}
use Rattle.vos_punches.specs.Punches.{covering}
use Rattle.vos_punches.specs.Rows.{moments_at}
use Rattle.vos_reads.proofs.Costs.{of_names}
use Rattle.vos_reads.proofs.Indexed.{covering_is}
use Rattle.vos_reads.proofs.Arrays.{pieces_law, unit_bounds}
use Rattle.vos_reads.proofs.Going.{values_hold}
use Rattle.vos_reads.proofs.extent.fetch_extent.Goals as goal

pub pieces-requires-clause-some : goal.pieces-requires-clause-some
pieces-requires-clause-some g c = (unit_bounds c.args.path.now.obj c.in-Some-Some-Some.obj c.in-Some-Some-Some.is-0 c.requires.size).0

pub pieces-requires-clause-few : goal.pieces-requires-clause-few
pieces-requires-clause-few g c = (unit_bounds c.args.path.now.obj c.in-Some-Some-Some.obj c.in-Some-Some-Some.is-0 c.requires.size).1

pub pieces-requires-clause-here : goal.pieces-requires-clause-here
pieces-requires-clause-here g c told =
    let s = c.requires.here told in
    let x = s.0 in
    let m = g.P.Pages.blocks c.args.pages.now in
    let o : ObjectKey = record { cont = c.args.path.now.cont; obj = c.in-Some-Some-Some.obj } in
    let d = c.in-Some-Some-Some.dkey in
    let a = c.in-Some-Some-Some.akey in
    let e = c.way_down.ensures.kept told in
    let w = c.in_ok-roots.ensures.found told x s.1.0 s.1.1.0 in
    let same = e in
    let extents = (akey_of o d a x).1.1 in
    (extents, (subst (λ b. Holds extent_owner b extents) (sym same) (holds_extent m (akey_of o d a x) (values_hold m x o s.1.0 d a)), (ap (λ z. z.extents) w, tt)))

pub returns-clause-found : goal.returns-clause-found
returns-clause-found g c told x held at settled are =
    let m = g.P.Pages.blocks c.args.pages.now in
    let o : ObjectKey = record { cont = c.args.path.now.cont; obj = c.in-Some-Some-Some.obj } in
    let d = c.in-Some-Some-Some.dkey in
    let a = c.in-Some-Some-Some.akey in
    let e = c.way_down.ensures.kept told in
    let w = c.in_ok-roots.ensures.found told x held at in
    let same = e in
    let path : c.args.path.now ≡ akey_path o d a = λ i. record { cont = c.args.path.now.cont; obj = c.in-Some-Some-Some.is-0 i; dkey = c.in-Some-Some-Some.is-1 i; akey = c.in-Some-Some-Some.is-2 i } in
    let dkey = named c.args.path.now.dkey d c.in-Some-Some-Some.is-1 c.requires.names.dkey in
    let akey = named c.args.path.now.akey a c.in-Some-Some-Some.is-2 c.requires.names.akey in
    let l0 = (below_object o x).0 in
    let l1 = (dkey_of o d x).0 in
    let v = akey_of o d a x in
    let q = c.covering-punched.ensures ∙ (ap (λ z. covering c.args.below z (moments_at c.args.punches.now)) path ∙ covering_is m x o d a held c.in_ok-roots.ensures.object dkey akey c.args.below (subst (λ z. IsSettled z c.args.below x) path settled) (moments_at c.args.punches.now) are) in
    let f = c.in_ok-pieces.ensures.found told v.1.1 (subst (λ b. Holds extent_owner b v.1.1) (sym same) (holds_extent m v (values_hold m x o held d a))) (ap (λ z. z.extents) w) in
    let law = pieces_law m x o d a held c.in_ok-roots.ensures.object dkey akey c.args.below (subst (λ z. IsSettled z c.args.below x) path settled) c.args.low c.args.len in
    let count : (c.args.low + c.args.len) - c.args.low ≡ c.args.len = omega arith in
    ap (λ z. Parts z)
    (f
    ∙ (ap (λ z. pieces_at o.obj.unit (start_of c.args.below) z c.args.low ((c.args.low + c.args.len) - c.args.low) (extents v.1.1)) q
    ∙ (ap (λ z. pieces_at o.obj.unit (start_of c.args.below) (last_punch c.args.below l0 l1 v.0) c.args.low z (extents v.1.1)) count
    ∙ (sym law ∙ ap (λ z. pieces z c.args.low c.args.len (map_below (in_order version_key (objects_versions x)) c.args.below.0)) (sym path)))))

pub returns-in_err-roots-clause-steps : goal.returns-in_err-roots-clause-steps
returns-in_err-roots-clause-steps g c told x held at =
    let m = g.P.Pages.blocks c.args.pages.now in
    let o : ObjectKey = record { cont = c.args.path.now.cont; obj = c.in-Some-Some-Some.obj } in
    let d = c.in-Some-Some-Some.dkey in
    let a = c.in-Some-Some-Some.akey in
    let path : c.args.path.now ≡ akey_path o d a = λ i. record { cont = c.args.path.now.cont; obj = c.in-Some-Some-Some.is-0 i; dkey = c.in-Some-Some-Some.is-1 i; akey = c.in-Some-Some-Some.is-2 i } in
    of_names (λ o k a. StepsToExtents c.args.low (c.args.low + c.args.len) o k a x _ _) c.args.path.now o d a path (λ n few last.
    let one = c.way_down.ensures.steps told x held at n few in
    omega arith)

pub returns-in_err-pieces-clause-steps : goal.returns-in_err-pieces-clause-steps
returns-in_err-pieces-clause-steps g c told x held at =
    let m = g.P.Pages.blocks c.args.pages.now in
    let o : ObjectKey = record { cont = c.args.path.now.cont; obj = c.in-Some-Some-Some.obj } in
    let d = c.in-Some-Some-Some.dkey in
    let a = c.in-Some-Some-Some.akey in
    let path : c.args.path.now ≡ akey_path o d a = λ i. record { cont = c.args.path.now.cont; obj = c.in-Some-Some-Some.is-0 i; dkey = c.in-Some-Some-Some.is-1 i; akey = c.in-Some-Some-Some.is-2 i } in
    of_names (λ o k a. StepsToExtents c.args.low (c.args.low + c.args.len) o k a x _ _) c.args.path.now o d a path (λ n few last.
    let one = c.way_down.ensures.steps told x held at n few in
    let e = c.way_down.ensures.kept told in
    let w = c.in_ok-roots.ensures.found told x held at in
    let v = akey_of o d a x in
    let same = e in
    let three = c.pieces.ensures.steps told v.1.1 (subst (λ b. Holds extent_owner b v.1.1) (sym same) (holds_extent m v (values_hold m x o held d a))) (ap (λ z. z.extents) w) n last in
    omega arith)

pub returns-clause-steps : goal.returns-clause-steps
returns-clause-steps g c told x held at =
    let m = g.P.Pages.blocks c.args.pages.now in
    let o : ObjectKey = record { cont = c.args.path.now.cont; obj = c.in-Some-Some-Some.obj } in
    let d = c.in-Some-Some-Some.dkey in
    let a = c.in-Some-Some-Some.akey in
    let path : c.args.path.now ≡ akey_path o d a = λ i. record { cont = c.args.path.now.cont; obj = c.in-Some-Some-Some.is-0 i; dkey = c.in-Some-Some-Some.is-1 i; akey = c.in-Some-Some-Some.is-2 i } in
    of_names (λ o k a. StepsToExtents c.args.low (c.args.low + c.args.len) o k a x _ _) c.args.path.now o d a path (λ n few last.
    let one = c.way_down.ensures.steps told x held at n few in
    let e = c.way_down.ensures.kept told in
    let w = c.in_ok-roots.ensures.found told x held at in
    let v = akey_of o d a x in
    let same = e in
    let three = c.pieces.ensures.steps told v.1.1 (subst (λ b. Holds extent_owner b v.1.1) (sym same) (holds_extent m v (values_hold m x o held d a))) (ap (λ z. z.extents) w) n last in
    omega arith)
