use Rattle.std.proofs.Common.{◌≡◌, ◌∙◌, ap, refl, subst, sym, Some}
use Rattle.std.specs.Prelude.{IfSome, is_some}
use Rattle.base_types.specs.declared.path.Path.{Path}
use Rattle.vos_values.specs.Keys.{IsName}
use Rattle.base_types.specs.declared.operation.Write.TheVariants.{PunchDkey}
use Rattle.pmem_pages.specs.Owners.{Holds}
use Rattle.vos_ilog.specs.Logs.{log_owner}
use Rattle.vos_levels.proofs.Calls.{on_ok_then}
use Rattle.vos_levels.specs.Levels.{hung}
use Rattle.vos_path.specs.Objects.{akey_level, punches}
use Rattle.vos_path.proofs.Written.{holds_first, holds_second}
use Rattle.vos_lists.specs.Entries.{name_of}
use Rattle.vos_lists.specs.Paths.{at_dkey}
use Rattle.vos_gather.specs.Gathered.{akeys_in}
use Rattle.vos_gather.specs.Wanted.{IsPlace, Listed, want_of}
use Rattle.vos_gather.proofs.Places.{place_dkey}
use Rattle.vos_gather.proofs.Listing.{listed_then}
use Rattle.vos_gather.proofs.dkeys.list_dkey.Goals as goal

pub list_log-requires : goal.list_log-requires
list_log-requires g c = record {
  place = subst IsPlace (sym c.at_dkey-path.ensures) (place_dkey c.args.above.now c.in-Some.name c.requires.place (subst (λ o. IfSome o IsName) c.in-Some.is c.in_ok-name.ensures.is));
  here = λ told.
      let s = c.requires.here told in
      (s.0.0, (holds_first log_owner (hung akey_level) (g.P.Pages.blocks c.args.pages.now) s.0 s.1.0, (ap (λ r. r.log) s.1.1.0, tt)));
}

pub list_akeys-requires : goal.list_akeys-requires
list_akeys-requires g c = record {
  place = subst IsPlace (sym c.at_dkey-path.ensures) (place_dkey c.args.above.now c.in-Some.name c.requires.place (subst (λ o. IfSome o IsName) c.in-Some.is c.in_ok-name.ensures.is));
  dkey = ap (λ (p : Path). is_some p.dkey) c.at_dkey-path.ensures;
  here = λ told.
      let s = c.requires.here told in
      (s.0.1, (subst (λ b. Holds (hung akey_level) b s.0.1) (sym (c.list_log.ensures.kept told)) (holds_second log_owner (hung akey_level) (g.P.Pages.blocks c.args.pages.now) s.0 s.1.0), (ap (λ r. r.below) s.1.1.0, tt)));
}

pub returns-in_default-clause-listed : goal.returns-in_default-clause-listed
returns-in_default-clause-listed g c told x held at name is = absurd (let f = c.in_ok-name.ensures.name in let n = c.in_default.is in let z : ⊥ = cc in z)

pub returns-clause-listed : goal.returns-clause-listed
returns-clause-listed g c = on_ok_then c.list_akeys.result (λ h told x held at name is.
    let m = g.P.Pages.blocks c.args.pages.now in
    let said : Some c.in-Some.name ≡ name_of c.args.dkey.key = sym c.in-Some.is ∙ c.in_ok-name.ensures.name in
    let same : name ≡ c.in-Some.name = cc in
    let path : at_dkey c.args.above.now name ≡ c.at_dkey-path.result = ap (at_dkey c.args.above.now) same ∙ sym c.at_dkey-path.ensures in
    let log = c.in_ok-list_log.ensures.listed told x.0 (holds_first log_owner (hung akey_level) m x held) (ap (λ r. r.log) at) (PunchDkey (at_dkey c.args.above.now name)) refl path in
    let here = subst (λ b. Holds (hung akey_level) b x.1) (sym (c.list_log.ensures.kept told)) (holds_second log_owner (hung akey_level) m x held) in
    let below = subst (λ z. Listed (want_of c.args.wanted.now) (akeys_in z x.1) c.list_log.new.names.items c.list_akeys.new.names.items) (sym path) (h told x.1 here (ap (λ r. r.below) at)) in
    listed_then (want_of c.args.wanted.now) (punches (PunchDkey (at_dkey c.args.above.now name)) x.0) (akeys_in (at_dkey c.args.above.now name) x.1) c.args.names.now.items c.list_log.new.names.items c.list_akeys.new.names.items log below) c.list_akeys.ensures.listed

pub returns-clause-named : goal.returns-clause-named
returns-clause-named g c h = c.list_akeys.ensures.named (c.list_log.ensures.named h)
