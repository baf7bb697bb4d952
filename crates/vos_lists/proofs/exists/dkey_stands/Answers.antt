use Rattle.std.proofs.Common.{subst, sym}
use Rattle.pmem_pages.specs.Owners.{Holds}
use Rattle.vos_levels.proofs.Calls.{if_ok_then}
use Rattle.vos_levels.specs.Levels.{hung}
use Rattle.vos_path.specs.Objects.{akey_level}
use Rattle.vos_reads.specs.Ways.{dkey_of}
use Rattle.vos_reads.proofs.Going.{akeys_hold}
use Rattle.vos_lists.specs.Unders.{over_akeys}
use Rattle.vos_lists.proofs.exists.dkey_stands.Goals as goal

pub any_akey-requires : goal.any_akey-requires
any_akey-requires g c = record {
  here = λ told.
      let s = c.requires.here told in
      let x = s.0 in
      let d = c.args.dkey.now in
      let akeys = (dkey_of c.args.object d x).1 in
      (akeys, (subst (λ b. Holds (hung akey_level) b akeys) (sym (c.under_dkey.ensures.kept told)) (akeys_hold (g.P.Pages.blocks c.args.pages.now) x c.args.object s.1.0 d), (c.in_ok-root.ensures.found told x s.1.0 s.1.1.0, tt)));
}

pub returns-clause-found : goal.returns-clause-found
returns-clause-found g c = if_ok_then c.any_akey.result (λ b h told x held at cover.
    let o = c.args.object in
    let d = c.args.dkey.now in
    let below = (dkey_of o d x).1 in
    let here = subst (λ b. Holds (hung akey_level) b below) (sym (c.under_dkey.ensures.kept told)) (akeys_hold (g.P.Pages.blocks c.args.pages.now) x o held d) in
    h told below here (c.in_ok-root.ensures.found told x held at) (over_akeys c.args.view o d x) cover) c.any_akey.ensures.found
