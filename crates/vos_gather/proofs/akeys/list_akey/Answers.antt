use Rattle.std.proofs.Common.{◌≡◌, ◌∙◌, Some, true, ap, refl, subst, sym}
use Rattle.std.specs.Prelude.{◌++◌, IfSome, map}
use Rattle.vos_values.specs.Keys.{IsName}
use Rattle.base_types.specs.declared.operation.Write.TheVariants.{PunchAkey}
use Rattle.daos_model.specs.Forms.{ends_at_akey}
use Rattle.pmem_pages.specs.Owners.{Holds}
use Rattle.vos_levels.proofs.Calls.{on_ok_then}
use Rattle.vos_single.specs.Singles.{single_owner, versions}
use Rattle.vos_extent.specs.Extents.{extent_owner, extents}
use Rattle.vos_path.specs.Objects.{extent_version, punches, single_version}
use Rattle.vos_path.proofs.Written.{holds_extent, holds_log, holds_single}
use Rattle.vos_lists.specs.Entries.{name_of}
use Rattle.vos_lists.specs.Paths.{at_akey}
use Rattle.vos_gather.specs.Wanted.{IsPlace, Listed, want_of}
use Rattle.vos_gather.proofs.Listing.{listed_quiet, listed_then, quiet_updates}
use Rattle.vos_gather.proofs.Places.{akey_ends, place_akey}
use Rattle.vos_gather.proofs.akeys.list_akey.Goals as goal

pub returns-in_default-clause-listed : goal.returns-in_default-clause-listed
returns-in_default-clause-listed g c told x held at name is = absurd (let f = c.in_ok-name.ensures.name in let n = c.in_default.is in let z : ⊥ = cc in z)

pub list_log-requires : goal.list_log-requires
list_log-requires g c = record {
  place = subst IsPlace (sym c.in_ok-path.ensures) (place_akey c.args.above.now c.in-Some.name c.requires.place c.requires.dkey (subst (λ o. IfSome o IsName) c.in-Some.is c.in_ok-name.ensures.is));
  here = λ told.
      let s = c.requires.here told in
      (s.0.0, (holds_log (g.P.Pages.blocks c.args.pages.now) s.0 s.1.0, (ap (λ r. r.log) s.1.1.0, tt)));
}

pub list_singles-requires : goal.list_singles-requires
list_singles-requires g c = record {
  place = subst IsPlace (sym c.in_ok-path.ensures) (place_akey c.args.above.now c.in-Some.name c.requires.place c.requires.dkey (subst (λ o. IfSome o IsName) c.in-Some.is c.in_ok-name.ensures.is));
  akey = subst (λ p. ends_at_akey p ≡ true) (sym c.in_ok-path.ensures) (akey_ends c.args.above.now c.in-Some.name c.requires.place c.requires.dkey);
  updates = c.if-not-wanted.false;
  here = λ told.
      let s = c.requires.here told in
      (s.0.1.0, (subst (λ b. Holds single_owner b s.0.1.0) (sym (c.list_log.ensures.kept told)) (holds_single (g.P.Pages.blocks c.args.pages.now) s.0 s.1.0), (ap (λ r. r.singles) s.1.1.0, tt)));
}

pub list_extents-requires : goal.list_extents-requires
list_extents-requires g c = record {
  place = subst IsPlace (sym c.in_ok-path.ensures) (place_akey c.args.above.now c.in-Some.name c.requires.place c.requires.dkey (subst (λ o. IfSome o IsName) c.in-Some.is c.in_ok-name.ensures.is));
  akey = subst (λ p. ends_at_akey p ≡ true) (sym c.in_ok-path.ensures) (akey_ends c.args.above.now c.in-Some.name c.requires.place c.requires.dkey);
  updates = c.if-not-wanted.false;
  here = λ told.
      let s = c.requires.here told in
      (s.0.1.1, (subst (λ b. Holds extent_owner b s.0.1.1) (sym (c.list_singles.ensures.kept told ∙ c.list_log.ensures.kept told)) (holds_extent (g.P.Pages.blocks c.args.pages.now) s.0 s.1.0), (ap (λ r. r.extents) s.1.1.0, tt)));
}

pub returns-then-not-wanted-clause-listed : goal.returns-then-not-wanted-clause-listed
returns-then-not-wanted-clause-listed g c told x held at name is =
    let said : Some c.in-Some.name ≡ name_of c.args.akey.key = sym c.in-Some.is ∙ c.in_ok-name.ensures.name in
    let same : name ≡ c.in-Some.name = cc in
    let path : at_akey c.args.above.now name ≡ c.in_ok-path.path = ap (at_akey c.args.above.now) same ∙ sym c.in_ok-path.ensures in
    let log = c.in_ok-list_log.ensures.listed told x.0 (holds_log (g.P.Pages.blocks c.args.pages.now) x held) (ap (λ r. r.log) at) (PunchAkey (at_akey c.args.above.now name)) refl path in
    let p = at_akey c.args.above.now name in
    listed_then (want_of c.args.wanted.now) (punches (PunchAkey p) x.0) (map (single_version p) (versions x.1.0) ++ map (extent_version p) (extents x.1.1)) c.args.names.now.items c.list_log.new.names.items c.list_log.new.names.items log
    (listed_quiet (want_of c.args.wanted.now) (map (single_version p) (versions x.1.0) ++ map (extent_version p) (extents x.1.1)) c.list_log.new.names.items (quiet_updates (want_of c.args.wanted.now) p (versions x.1.0) (extents x.1.1) c.if-not-wanted.true))

pub returns-clause-listed : goal.returns-clause-listed
returns-clause-listed g c = on_ok_then c.list_extents.result (λ h told x held at name is.
    let m = g.P.Pages.blocks c.args.pages.now in
    let said : Some c.in-Some.name ≡ name_of c.args.akey.key = sym c.in-Some.is ∙ c.in_ok-name.ensures.name in
    let same : name ≡ c.in-Some.name = cc in
    let path : at_akey c.args.above.now name ≡ c.in_ok-path.path = ap (at_akey c.args.above.now) same ∙ sym c.in_ok-path.ensures in
    let p = at_akey c.args.above.now name in
    let log = c.in_ok-list_log.ensures.listed told x.0 (holds_log m x held) (ap (λ r. r.log) at) (PunchAkey p) refl path in
    let singles = subst (λ z. Listed (want_of c.args.wanted.now) (map (single_version z) (versions x.1.0)) c.list_log.new.names.items c.list_singles.new.names.items) (sym path) (c.in_ok-list_singles.ensures.listed told x.1.0 (subst (λ b. Holds single_owner b x.1.0) (sym (c.list_log.ensures.kept told)) (holds_single m x held)) (ap (λ r. r.singles) at)) in
    let extents_of = subst (λ z. Listed (want_of c.args.wanted.now) (map (extent_version z) (extents x.1.1)) c.list_singles.new.names.items c.list_extents.new.names.items) (sym path) (h told x.1.1 (subst (λ b. Holds extent_owner b x.1.1) (sym (c.list_singles.ensures.kept told ∙ c.list_log.ensures.kept told)) (holds_extent m x held)) (ap (λ r. r.extents) at)) in
    listed_then (want_of c.args.wanted.now) (punches (PunchAkey p) x.0) (map (single_version p) (versions x.1.0) ++ map (extent_version p) (extents x.1.1)) c.args.names.now.items c.list_log.new.names.items c.list_extents.new.names.items log
    (listed_then (want_of c.args.wanted.now) (map (single_version p) (versions x.1.0)) (map (extent_version p) (extents x.1.1)) c.list_log.new.names.items c.list_singles.new.names.items c.list_extents.new.names.items singles extents_of)) c.list_extents.ensures.listed

pub returns-in_err-list_singles-clause-named : goal.returns-in_err-list_singles-clause-named
returns-in_err-list_singles-clause-named g c h = c.list_singles.ensures.named (c.list_log.ensures.named h)

pub returns-clause-named : goal.returns-clause-named
returns-clause-named g c h = c.list_extents.ensures.named (c.list_singles.ensures.named (c.list_log.ensures.named h))
