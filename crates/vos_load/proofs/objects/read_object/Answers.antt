use Rattle.std.proofs.Common.{ap, subst, sym}
use Rattle.base_types.specs.declared.operation.Write.TheVariants.{PunchObject}
use Rattle.pmem_pages.specs.Owners.{Holds}
use Rattle.vos_ilog.specs.Logs.{log_owner}
use Rattle.vos_levels.proofs.Calls.{on_ok_then}
use Rattle.vos_levels.specs.Levels.{hung}
use Rattle.vos_path.specs.Objects.{dkey_level, dkeys_versions, object_path, punches}
use Rattle.vos_path.proofs.Written.{holds_first, holds_second}
use Rattle.vos_load.specs.Read.{AreRead}
use Rattle.vos_load.proofs.Walked.{read_then}
use Rattle.vos_load.proofs.objects.read_object.Goals as goal

pub read_log-requires : goal.read_log-requires
read_log-requires g c = record {
  here = λ told.
      let s = c.requires.here told in
      (s.0.0, (holds_first log_owner (hung dkey_level) (g.P.Pages.blocks c.args.pages.now) s.0 s.1.0, (ap (λ r. r.log) s.1.1.0, tt)));
}

pub read_dkeys-requires : goal.read_dkeys-requires
read_dkeys-requires g c = record {
  here = λ told.
      let s = c.requires.here told in
      (s.0.1, (subst (λ b. Holds (hung dkey_level) b s.0.1) (sym (c.read_log.ensures.kept told)) (holds_second log_owner (hung dkey_level) (g.P.Pages.blocks c.args.pages.now) s.0 s.1.0), (ap (λ r. r.below) s.1.1.0, tt)));
}

pub returns-clause-read : goal.returns-clause-read
returns-clause-read g c = on_ok_then c.read_dkeys.result (λ h told x held at.
    let m = g.P.Pages.blocks c.args.pages.now in
    let o = c.args.object.name in
    let punch = ap (λ z. PunchObject z) c.in_ok-copy.ensures in
    let log = subst (λ z. AreRead (punches z x.0) c.args.versions.now.items c.read_log.new.versions.items) punch (c.in_ok-read_log.ensures.read told x.0 (holds_first log_owner (hung dkey_level) m x held) (ap (λ r. r.log) at)) in
    let here = subst (λ b. Holds (hung dkey_level) b x.1) (sym (c.read_log.ensures.kept told)) (holds_second log_owner (hung dkey_level) m x held) in
    read_then (punches (PunchObject (object_path o)) x.0) (dkeys_versions o x.1) c.args.versions.now.items c.read_log.new.versions.items c.read_dkeys.new.versions.items log (h told x.1 here (ap (λ r. r.below) at))) c.read_dkeys.ensures.read
