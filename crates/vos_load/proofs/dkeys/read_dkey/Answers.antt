use Rattle.std.proofs.Common.{◌≡◌, ◌∙◌, ap, subst, sym, Some}
use Rattle.base_types.specs.declared.operation.Write.TheVariants.{PunchDkey}
use Rattle.pmem_pages.specs.Owners.{Holds}
use Rattle.vos_ilog.specs.Logs.{log_owner}
use Rattle.vos_levels.proofs.Calls.{on_ok_then}
use Rattle.vos_levels.specs.Levels.{hung}
use Rattle.vos_path.specs.Objects.{akey_level, punches}
use Rattle.vos_path.proofs.Written.{holds_first, holds_second}
use Rattle.vos_lists.specs.Entries.{name_of}
use Rattle.vos_lists.specs.Paths.{at_dkey}
use Rattle.vos_gather.specs.Gathered.{akeys_in}
use Rattle.vos_load.specs.Read.{AreRead}
use Rattle.vos_load.proofs.Walked.{read_then}
use Rattle.vos_load.proofs.dkeys.read_dkey.Goals as goal

pub read_log-requires : goal.read_log-requires
read_log-requires g c = record {
  here = λ told.
      let s = c.requires.here told in
      (s.0.0, (holds_first log_owner (hung akey_level) (g.P.Pages.blocks c.args.pages.now) s.0 s.1.0, (ap (λ r. r.log) s.1.1.0, tt)));
}

pub read_akeys-requires : goal.read_akeys-requires
read_akeys-requires g c = record {
  here = λ told.
      let s = c.requires.here told in
      (s.0.1, (subst (λ b. Holds (hung akey_level) b s.0.1) (sym (c.read_log.ensures.kept told)) (holds_second log_owner (hung akey_level) (g.P.Pages.blocks c.args.pages.now) s.0 s.1.0), (ap (λ r. r.below) s.1.1.0, tt)));
}

pub returns-in_default-clause-read : goal.returns-in_default-clause-read
returns-in_default-clause-read g c told x held at name is = absurd (let f = c.in_ok-name.ensures.name in let n = c.in_default.is in let z : ⊥ = cc in z)

pub returns-clause-read : goal.returns-clause-read
returns-clause-read g c = on_ok_then c.read_akeys.result (λ h told x held at name is.
    let m = g.P.Pages.blocks c.args.pages.now in
    let said : Some c.in-Some.name ≡ name_of c.args.dkey.key = sym c.in-Some.is ∙ c.in_ok-name.ensures.name in
    let same : name ≡ c.in-Some.name = cc in
    let path : at_dkey c.args.above.now name ≡ c.at_dkey-path.result = ap (at_dkey c.args.above.now) same ∙ sym c.at_dkey-path.ensures in
    let punch = ap (λ z. PunchDkey z) (c.in_ok-copy.ensures ∙ sym path) in
    let log = subst (λ z. AreRead (punches z x.0) c.args.versions.now.items c.read_log.new.versions.items) punch (c.in_ok-read_log.ensures.read told x.0 (holds_first log_owner (hung akey_level) m x held) (ap (λ r. r.log) at)) in
    let here = subst (λ b. Holds (hung akey_level) b x.1) (sym (c.read_log.ensures.kept told)) (holds_second log_owner (hung akey_level) m x held) in
    let below = subst (λ z. AreRead (akeys_in z x.1) c.read_log.new.versions.items c.read_akeys.new.versions.items) (sym path) (h told x.1 here (ap (λ r. r.below) at)) in
    read_then (punches (PunchDkey (at_dkey c.args.above.now name)) x.0) (akeys_in (at_dkey c.args.above.now name) x.1) c.args.versions.now.items c.read_log.new.versions.items c.read_akeys.new.versions.items log below) c.read_akeys.ensures.read
