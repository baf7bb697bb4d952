use Rattle.std.proofs.Common.{◌≡◌, ◌∙◌, Some, ap, subst, sym}
use Rattle.vos_levels.proofs.Calls.{if_ok_then}
use Rattle.vos_levels.specs.Levels.{hung}
use Rattle.vos_ilog.specs.Logs.{log_owner}
use Rattle.vos_path.specs.Objects.{akey_level}
use Rattle.vos_path.proofs.Written.{holds_second}
use Rattle.vos_punches.specs.Rows.{moments_at}
use Rattle.vos_lists.specs.Covers.{CoverAkeys}
use Rattle.vos_lists.specs.Entries.{name_of}
use Rattle.vos_lists.specs.Paths.{at_dkey}
use Rattle.vos_lists.specs.Stands.{covered}
use Rattle.vos_lists.proofs.dkeys.dkey_stands.Goals as goal

pub any_akey-requires : goal.any_akey-requires
any_akey-requires g c = record {
  here = λ told.
      let s = c.requires.here told in
      (s.0.1, (holds_second log_owner (hung akey_level) (g.P.Pages.blocks c.args.pages.now) s.0 s.1.0, (ap (λ r. r.below) s.1.1.0, tt)));
}

pub returns-in_default-clause-found : goal.returns-in_default-clause-found
returns-in_default-clause-found g c told x held at name q is cover = absurd (let f = c.in_ok-name.ensures.name in let n = c.in_default.is in let z : ⊥ = cc in z)

pub returns-clause-found : goal.returns-clause-found
returns-clause-found g c = if_ok_then c.any_akey.result (λ b h told x held at name q is cover.
    let said : Some c.in-Some.name ≡ name_of c.args.dkey.key = sym c.in-Some.is ∙ c.in_ok-name.ensures.name in
    let same : name ≡ c.in-Some.name = cc in
    let path : at_dkey c.args.above.now name ≡ c.at_dkey-path.result = ap (at_dkey c.args.above.now) same ∙ sym c.at_dkey-path.ensures in
    h told x.1 (holds_second log_owner (hung akey_level) (g.P.Pages.blocks c.args.pages.now) x held) (ap (λ r. r.below) at) (covered c.args.view q x.0)
    (subst (λ p. CoverAkeys c.args.view (moments_at c.args.punches.now) p (covered c.args.view q x.0) x.1) path cover)) c.any_akey.ensures.found
