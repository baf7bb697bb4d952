use Rattle.std.proofs.Common.{[], ◌≡◌, ◌+◌, ◌∙◌, Some, None, ap, arith, refl, subst, sym}
use Rattle.std.specs.Option.{option_and_then}
use Rattle.pmem_pages.specs.Owners.{Holds}
use Rattle.pmem_pages.specs.Shape.{entries, first_above}
use Rattle.pmem_tree_base.specs.Find.{pair_of}
use Rattle.vos_levels.proofs.Calls.{goes_same, goes_then}
use Rattle.vos_levels.specs.Levels.{things}
use Rattle.vos_extent.specs.Extents.{Stored, placed_in_pair, placed_of, extent_level, extent_owner}
use Rattle.vos_extent.specs.declared.pieces.Placed.{Placed}
use Rattle.vos_values.specs.Keys.{extent_key}
use Rattle.vos_path.specs.Objects.{extent_version}
use Rattle.vos_values.specs.Keys.{name_key}
use Rattle.vos_lists.proofs.Walking.{ahead_none, ahead_over, coming}
use Rattle.vos_gather.specs.Wanted.{Listed, want_of}
use Rattle.vos_gather.proofs.Updates.{of_extent, of_extent_all}
use Rattle.vos_lists.proofs.Reading.{extent_again, least_extent}
use Rattle.vos_gather.proofs.Walked.{SoFar, every, so_far_all, so_far_first, so_far_next, whole}
use Rattle.vos_gather.proofs.values.list_extents.Goals as goal

pub loop-init : goal.loop-init
loop-init g c = record {
  so_far = λ told x held at.
      let m = g.P.Pages.blocks c.args.pages.now in
      let f = c.args.names.now.items in
      subst (λ k. SoFar (want_of c.args.wanted.now) extent_level (of_extent c.args.path.now) x k 0 f f) (sym c.least_key-key.ensures.key)
      (so_far_first (want_of c.args.wanted.now) extent_level placed_in_pair placed_of m (extent_again m) x held (of_extent c.args.path.now) (name_key []) least_extent f);
  named = λ h. h;
  key = c.least_key-key.ensures.is;
  kept = λ told. refl;
  budget = refl;
  goes = goes_same g.P.Pages.stopped g.P.Pages.count g.P.Pages.burns c.args.pages.now;
  went_on = refl;
}

pub returns-in_default-clause-listed : goal.returns-in_default-clause-listed
returns-in_default-clause-listed g c told x held at =
    let i = c.loop.invariant in
    let m = g.P.Pages.blocks c.args.pages.now in
    let here = subst (λ b. Holds extent_owner b x) (sym (i.kept told)) held in
    let none : None ≡ option_and_then placed_in_pair (pair_of (first_above c.loop.key (entries x.0))) = let f = c.in_ok-placed.ensures.found told x here at in let n = c.in_default.is in cc in
    let s = i.so_far told x held at in
    subst (λ z. Listed (want_of c.args.wanted.now) z c.args.names.now.items c.loop.names.items) (of_extent_all c.args.path.now (things x))
    (so_far_all (want_of c.args.wanted.now) (of_extent c.args.path.now) s.seen (things x) c.args.names.now.items c.loop.names.items (ahead_none {N = Stored} extent_level every whole placed_in_pair placed_of m (extent_again m) x held c.loop.key s.seen c.loop.counter s.ahead none) s.listed)

pub returns-clause-listed : goal.returns-clause-listed
returns-clause-listed g c told x held at =
    let i = c.loop.invariant in
    let m = g.P.Pages.blocks c.args.pages.now in
    let s = i.so_far told x held at in
    subst (λ z. Listed (want_of c.args.wanted.now) z c.args.names.now.items c.loop.names.items) (of_extent_all c.args.path.now (things x))
    (so_far_all (want_of c.args.wanted.now) (of_extent c.args.path.now) s.seen (things x) c.args.names.now.items c.loop.names.items (ahead_over {N = Stored} extent_level every whole placed_in_pair placed_of m (extent_again m) x held c.loop.key s.seen c.loop.counter s.ahead (let over = c.loop-test.false in omega (arith, over))) s.listed)

pub loop-preserved : goal.loop-preserved
loop-preserved g c =
    let i = c.loop.invariant in
    let p = c.next_over.ensures in
    let m = g.P.Pages.blocks c.args.pages.now in
    record {
      so_far = λ told x held at.
          let here = subst (λ b. Holds extent_owner b x) (sym (i.kept told)) held in
          let found : Some c.in-Some.placed ≡ option_and_then placed_in_pair (pair_of (first_above c.loop.key (entries x.0))) = sym c.in-Some.is ∙ c.in_ok-placed.ensures.found told x here at in
          let s = i.so_far told x held at in
          let next = coming {N = Stored} extent_level every whole placed_in_pair placed_of m (extent_again m) x held c.loop.key s.seen c.loop.counter c.in-Some.placed s.ahead found in
          let said = c.in_ok-note_extent.ensures.noted c.requires.updates (extent_version c.args.path.now next.thing.extent) (record { stored = next.thing; placed_is = sym next.shown_is; version_is = refl }) in
          subst (λ k. SoFar (want_of c.args.wanted.now) extent_level (of_extent c.args.path.now) x k (c.loop.counter + 1) c.args.names.now.items c.note_extent.new.names.items) (ap (λ (z : Placed). extent_key z.at) (sym next.shown_is) ∙ sym c.key_at-key.ensures.key)
          (so_far_next (want_of c.args.wanted.now) extent_level placed_in_pair placed_of m (extent_again m) x held (of_extent c.args.path.now) c.loop.key c.loop.counter c.in-Some.placed c.args.names.now.items c.loop.names.items c.note_extent.new.names.items s next said);
      named = λ h. c.note_extent.ensures.named (i.named h);
      key = c.key_at-key.ensures.is;
      kept = λ told. p.kept told ∙ i.kept told;
      budget = p.budget ∙ i.budget;
      goes = goes_then g.P.Pages.stopped g.P.Pages.count g.P.Pages.burns c.args.pages.now c.loop.pages c.next_over.new.pages i.goes p.goes;
      went_on = c.in_ok-placed.ensures.went_on ∙ i.went_on;
    }

pub returns-in_err-note_extent-clause-named : goal.returns-in_err-note_extent-clause-named
returns-in_err-note_extent-clause-named g c h = c.note_extent.ensures.named (c.loop.invariant.named h)
