use Rattle.std.proofs.Common.{◌≡◌, ◌∙◌, ◌||◌, Bool, true, false, ap, subst, sym}
use Rattle.pmem_pages.specs.Owners.{Holds}
use Rattle.vos_levels.proofs.Calls.{if_ok_then}
use Rattle.vos_extent.specs.Extents.{extent_owner}
use Rattle.vos_path.proofs.Written.{holds_extent, holds_single}
use Rattle.vos_lists.specs.Stands.{has_extent, has_single}
use Rattle.vos_lists.proofs.values.has_value.Goals as goal

pub has_single-requires : goal.has_single-requires
has_single-requires g c = record {
  here = λ told.
      let s = c.requires.here told in
      (s.0.1.0, (holds_single (g.P.Pages.blocks c.args.pages.now) s.0 s.1.0, (ap (λ r. r.singles) s.1.1.0, tt)));
}

pub has_extent-requires : goal.has_extent-requires
has_extent-requires g c = record {
  here = λ told.
      let s = c.requires.here told in
      (s.0.1.1, (subst (λ b. Holds extent_owner b s.0.1.1) (sym (c.has_single.ensures.kept told)) (holds_extent (g.P.Pages.blocks c.args.pages.now) s.0 s.1.0), (ap (λ r. r.extents) s.1.1.0, tt)));
}

pub returns-then-branch-clause-found : goal.returns-then-branch-clause-found
returns-then-branch-clause-found g c told x held at =
    let b = c.in_ok-has_single.ensures.found told x.1.0 (holds_single (g.P.Pages.blocks c.args.pages.now) x held) (ap (λ r. r.singles) at) in
    let yes : has_single c.args.view c.args.punched x.1.0 ≡ true = sym b ∙ c.if-branch.true in
    sym (ap (λ (z : Bool). z || has_extent c.args.view c.args.punched x.1.1) yes)

pub returns-clause-found : goal.returns-clause-found
returns-clause-found g c = if_ok_then c.has_extent.result (λ made h told x held at.
    let m = g.P.Pages.blocks c.args.pages.now in
    let b = c.in_ok-has_single.ensures.found told x.1.0 (holds_single m x held) (ap (λ r. r.singles) at) in
    let no : has_single c.args.view c.args.punched x.1.0 ≡ false = sym b ∙ c.if-branch.false in
    h told x.1.1 (subst (λ b. Holds extent_owner b x.1.1) (sym (c.has_single.ensures.kept told)) (holds_extent m x held)) (ap (λ r. r.extents) at)
    ∙ sym (ap (λ (z : Bool). z || has_extent c.args.view c.args.punched x.1.1) no)) c.has_extent.ensures.found
