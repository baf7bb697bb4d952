use Rattle.std.proofs.Common.{◌≡◌, ◌∙◌, Some, ap, subst, sym}
use Rattle.std.specs.Prelude.{◌++◌, map}
use Rattle.base_types.specs.declared.operation.Write.TheVariants.{PunchAkey}
use Rattle.pmem_pages.specs.Owners.{Holds}
use Rattle.vos_levels.proofs.Calls.{on_ok_then}
use Rattle.vos_single.specs.Singles.{single_owner, versions}
use Rattle.vos_extent.specs.Extents.{extent_owner, extents}
use Rattle.vos_path.specs.Objects.{extent_version, punches, single_version}
use Rattle.vos_path.proofs.Written.{holds_extent, holds_log, holds_single}
use Rattle.vos_lists.specs.Entries.{name_of}
use Rattle.vos_lists.specs.Paths.{at_akey}
use Rattle.vos_load.specs.Read.{AreRead}
use Rattle.vos_load.proofs.Walked.{read_then}
use Rattle.vos_load.proofs.akeys.read_akey.Goals as goal

pub returns-in_default-clause-read : goal.returns-in_default-clause-read
returns-in_default-clause-read g c told x held at name is = absurd (let f = c.in_ok-name.ensures.name in let n = c.in_default.is in let z : ⊥ = cc in z)

pub read_log-requires : goal.read_log-requires
read_log-requires g c = record {
  here = λ told.
      let s = c.requires.here told in
      (s.0.0, (holds_log (g.P.Pages.blocks c.args.pages.now) s.0 s.1.0, (ap (λ r. r.log) s.1.1.0, tt)));
}

pub read_singles-requires : goal.read_singles-requires
read_singles-requires g c = record {
  here = λ told.
      let s = c.requires.here told in
      (s.0.1.0, (subst (λ b. Holds single_owner b s.0.1.0) (sym (c.read_log.ensures.kept told)) (holds_single (g.P.Pages.blocks c.args.pages.now) s.0 s.1.0), (ap (λ r. r.singles) s.1.1.0, tt)));
}

pub read_extents-requires : goal.read_extents-requires
read_extents-requires g c = record {
  here = λ told.
      let s = c.requires.here told in
      (s.0.1.1, (subst (λ b. Holds extent_owner b s.0.1.1) (sym (c.read_singles.ensures.kept told ∙ c.read_log.ensures.kept told)) (holds_extent (g.P.Pages.blocks c.args.pages.now) s.0 s.1.0), (ap (λ r. r.extents) s.1.1.0, tt)));
}

pub returns-clause-read : goal.returns-clause-read
returns-clause-read g c = on_ok_then c.read_extents.result (λ h told x held at name is.
    let m = g.P.Pages.blocks c.args.pages.now in
    let said : Some c.in-Some.name ≡ name_of c.args.akey.key = sym c.in-Some.is ∙ c.in_ok-name.ensures.name in
    let same : name ≡ c.in-Some.name = cc in
    let path : at_akey c.args.above.now name ≡ c.in_ok-path.path = ap (at_akey c.args.above.now) same ∙ sym c.in_ok-path.ensures in
    let p = at_akey c.args.above.now name in
    let punch = ap (λ z. PunchAkey z) (c.in_ok-copy.ensures ∙ sym path) in
    let log = subst (λ z. AreRead (punches z x.0) c.args.versions.now.items c.read_log.new.versions.items) punch (c.in_ok-read_log.ensures.read told x.0 (holds_log m x held) (ap (λ r. r.log) at)) in
    let singles = subst (λ z. AreRead (map (single_version z) (versions x.1.0)) c.read_log.new.versions.items c.read_singles.new.versions.items) (sym path) (c.in_ok-read_singles.ensures.read told x.1.0 (subst (λ b. Holds single_owner b x.1.0) (sym (c.read_log.ensures.kept told)) (holds_single m x held)) (ap (λ r. r.singles) at)) in
    let extents_of = subst (λ z. AreRead (map (extent_version z) (extents x.1.1)) c.read_singles.new.versions.items c.read_extents.new.versions.items) (sym path) (h told x.1.1 (subst (λ b. Holds extent_owner b x.1.1) (sym (c.read_singles.ensures.kept told ∙ c.read_log.ensures.kept told)) (holds_extent m x held)) (ap (λ r. r.extents) at)) in
    read_then (punches (PunchAkey p) x.0) (map (single_version p) (versions x.1.0) ++ map (extent_version p) (extents x.1.1)) c.args.versions.now.items c.read_log.new.versions.items c.read_extents.new.versions.items log
    (read_then (map (single_version p) (versions x.1.0)) (map (extent_version p) (extents x.1.1)) c.read_log.new.versions.items c.read_singles.new.versions.items c.read_extents.new.versions.items singles extents_of)) c.read_extents.ensures.read
