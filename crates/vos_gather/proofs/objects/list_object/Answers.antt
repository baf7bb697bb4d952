use Rattle.std.proofs.Common.{ap, refl, subst, sym}
use Rattle.base_types.specs.declared.operation.Write.TheVariants.{PunchObject}
use Rattle.pmem_pages.specs.Owners.{Holds}
use Rattle.vos_ilog.specs.Logs.{log_owner}
use Rattle.vos_levels.proofs.Calls.{on_ok_then}
use Rattle.vos_levels.specs.Levels.{hung}
use Rattle.vos_path.specs.Objects.{dkey_level, dkeys_versions, object_path, punches}
use Rattle.vos_path.proofs.Written.{holds_first, holds_second}
use Rattle.vos_gather.proofs.Listing.{listed_then}
use Rattle.vos_gather.proofs.Places.{place_object}
use Rattle.vos_gather.specs.Wanted.{want_of}
use Rattle.vos_gather.proofs.objects.list_object.Goals as goal

pub list_log-requires : goal.list_log-requires
list_log-requires g c = record {
  place = place_object c.args.object.name c.requires.size;
  here = λ told.
      let s = c.requires.here told in
      (s.0.0, (holds_first log_owner (hung dkey_level) (g.P.Pages.blocks c.args.pages.now) s.0 s.1.0, (ap (λ r. r.log) s.1.1.0, tt)));
}

pub list_dkeys-requires : goal.list_dkeys-requires
list_dkeys-requires g c = record {
  place = place_object c.args.object.name c.requires.size;
  here = λ told.
      let s = c.requires.here told in
      (s.0.1, (subst (λ b. Holds (hung dkey_level) b s.0.1) (sym (c.list_log.ensures.kept told)) (holds_second log_owner (hung dkey_level) (g.P.Pages.blocks c.args.pages.now) s.0 s.1.0), (ap (λ r. r.below) s.1.1.0, tt)));
}

pub returns-clause-listed : goal.returns-clause-listed
returns-clause-listed g c = on_ok_then c.list_dkeys.result (λ h told x held at.
    let m = g.P.Pages.blocks c.args.pages.now in
    let o = c.args.object.name in
    let log = c.in_ok-list_log.ensures.listed told x.0 (holds_first log_owner (hung dkey_level) m x held) (ap (λ r. r.log) at) (PunchObject (object_path o)) refl refl in
    let here = subst (λ b. Holds (hung dkey_level) b x.1) (sym (c.list_log.ensures.kept told)) (holds_second log_owner (hung dkey_level) m x held) in
    listed_then (want_of c.args.wanted.now) (punches (PunchObject (object_path o)) x.0) (dkeys_versions o x.1) c.args.names.now.items c.list_log.new.names.items c.list_dkeys.new.names.items log (h told x.1 here (ap (λ r. r.below) at))) c.list_dkeys.ensures.listed

pub returns-clause-named : goal.returns-clause-named
returns-clause-named g c h = c.list_dkeys.ensures.named (c.list_log.ensures.named h)
