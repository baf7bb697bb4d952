use Rattle.std.proofs.Common.{subst, sym}
use Rattle.pmem_pages.specs.Owners.{Holds}
use Rattle.vos_levels.proofs.Calls.{if_ok_then}
use Rattle.vos_levels.specs.Levels.{hung}
use Rattle.vos_path.specs.Objects.{dkey_level}
use Rattle.vos_reads.specs.Ways.{below_object}
use Rattle.vos_reads.proofs.Going.{dkeys_hold}
use Rattle.vos_lists.specs.Unders.{over_dkeys}
use Rattle.vos_lists.proofs.exists.object_stands.Goals as goal

pub any_dkey-requires : goal.any_dkey-requires
any_dkey-requires g c = record {
  here = λ told.
      let s = c.requires.here told in
      let x = s.0 in
      let dkeys = (below_object c.args.object x).1 in
      (dkeys, (subst (λ b. Holds (hung dkey_level) b dkeys) (sym (c.under_object.ensures.kept told)) (dkeys_hold (g.P.Pages.blocks c.args.pages.now) x c.args.object s.1.0), (c.in_ok-root.ensures.found told x s.1.0 s.1.1.0, tt)));
}

pub returns-clause-found : goal.returns-clause-found
returns-clause-found g c = if_ok_then c.any_dkey.result (λ b h told x held at cover.
    let o = c.args.object in
    let below = (below_object o x).1 in
    let here = subst (λ b. Holds (hung dkey_level) b below) (sym (c.under_object.ensures.kept told)) (dkeys_hold (g.P.Pages.blocks c.args.pages.now) x o held) in
    h told below here (c.in_ok-root.ensures.found told x held at) (over_dkeys c.args.view o x) cover) c.any_dkey.ensures.found
