use Rattle.std.proofs.Common.{subst, sym}
use Rattle.pmem_pages.specs.Owners.{Holds}
use Rattle.vos_levels.proofs.Calls.{if_ok_then}
use Rattle.vos_path.specs.Objects.{values_owner}
use Rattle.vos_reads.specs.Ways.{akey_of}
use Rattle.vos_reads.proofs.Going.{values_hold}
use Rattle.vos_lists.proofs.exists.akey_stands.Goals as goal

pub has_value-requires : goal.has_value-requires
has_value-requires g c = record {
  here = λ told.
      let s = c.requires.here told in
      let x = s.0 in
      let o = c.args.object in
      let d = c.args.dkey.now in
      let a = c.args.akey.now in
      let v = akey_of o d a x in
      (v, (subst (λ b. Holds values_owner b v) (sym (c.way_down.ensures.kept told)) (values_hold (g.P.Pages.blocks c.args.pages.now) x o s.1.0 d a), (c.in_ok-roots.ensures.found told x s.1.0 s.1.1.0, tt)));
}

pub returns-clause-found : goal.returns-clause-found
returns-clause-found g c = if_ok_then c.has_value.result (λ b h told x held at.
    let o = c.args.object in
    let d = c.args.dkey.now in
    let a = c.args.akey.now in
    let v = akey_of o d a x in
    h told v (subst (λ b. Holds values_owner b v) (sym (c.way_down.ensures.kept told)) (values_hold (g.P.Pages.blocks c.args.pages.now) x o held d a)) (c.in_ok-roots.ensures.found told x held at)) c.has_value.ensures.found
