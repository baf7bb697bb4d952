use Rattle.std.proofs.Common.{[], ◌∷◌, ◌≡◌, ◌+◌, ◌∙◌, Some, None, ap, arith, refl, subst, sym}
use Rattle.std.specs.Option.{option_and_then}
use Rattle.pmem_pages.specs.Owners.{Holds}
use Rattle.pmem_pages.specs.Shape.{entries, first_above}
use Rattle.pmem_tree_base.specs.Find.{pair_of}
use Rattle.vos_levels.proofs.Calls.{goes_same, goes_then}
use Rattle.vos_levels.specs.Levels.{things}
use Rattle.vos_extent.specs.Extents.{Stored, chain_of, placed_in_pair, placed_of, extent_level, extent_owner}
use Rattle.vos_extent.specs.declared.pieces.Placed.{Placed}
use Rattle.vos_values.specs.Keys.{extent_key}
use Rattle.vos_values.specs.Keys.{name_key}
use Rattle.vos_lists.proofs.Walking.{ahead_none, ahead_over, coming}
use Rattle.vos_load.specs.Read.{AreRead}
use Rattle.vos_gather.proofs.Updates.{of_extent, of_extent_all}
use Rattle.vos_lists.proofs.Reading.{extent_again, least_extent}
use Rattle.vos_gather.proofs.Walked.{every, whole}
use Rattle.vos_load.proofs.Placed.{extent_chain, extent_read}
use Rattle.vos_load.proofs.Walked.{SoFar, so_far_all, so_far_first, so_far_next}
use Rattle.vos_load.proofs.values.read_extents.Goals as goal

pub loop-init : goal.loop-init
loop-init g c = record {
  so_far = λ told x held at.
      let m = g.P.Pages.blocks c.args.pages.now in
      let f = c.args.versions.now.items in
      subst (λ k. SoFar extent_level (of_extent c.args.path.now) x k 0 f f) (sym c.least_key-key.ensures.key)
      (so_far_first extent_level placed_in_pair placed_of m (extent_again m) x held (of_extent c.args.path.now) (name_key []) least_extent f);
  key = c.least_key-key.ensures.is;
  kept = λ told. refl;
  budget = refl;
  goes = goes_same g.P.Pages.stopped g.P.Pages.count g.P.Pages.burns c.args.pages.now;
  went_on = refl;
}

pub returns-in_default-clause-read : goal.returns-in_default-clause-read
returns-in_default-clause-read g c told x held at =
    let i = c.loop.invariant in
    let m = g.P.Pages.blocks c.args.pages.now in
    let here = subst (λ b. Holds extent_owner b x) (sym (i.kept told)) held in
    let none : None ≡ option_and_then placed_in_pair (pair_of (first_above c.loop.key (entries x.0))) = let f = c.in_ok-placed.ensures.found told x here at in let n = c.in_default.is in cc in
    let s = i.so_far told x held at in
    subst (λ z. AreRead z c.args.versions.now.items c.loop.versions.items) (of_extent_all c.args.path.now (things x))
    (so_far_all (of_extent c.args.path.now) s.seen (things x) c.args.versions.now.items c.loop.versions.items (ahead_none {N = Stored} extent_level every whole placed_in_pair placed_of m (extent_again m) x held c.loop.key s.seen c.loop.counter s.ahead none) s.read)

pub returns-clause-read : goal.returns-clause-read
returns-clause-read g c told x held at =
    let i = c.loop.invariant in
    let m = g.P.Pages.blocks c.args.pages.now in
    let s = i.so_far told x held at in
    subst (λ z. AreRead z c.args.versions.now.items c.loop.versions.items) (of_extent_all c.args.path.now (things x))
    (so_far_all (of_extent c.args.path.now) s.seen (things x) c.args.versions.now.items c.loop.versions.items (ahead_over {N = Stored} extent_level every whole placed_in_pair placed_of m (extent_again m) x held c.loop.key s.seen c.loop.counter s.ahead (let over = c.loop-test.false in omega (arith, over))) s.read)

pub loop-preserved : goal.loop-preserved
loop-preserved g c =
    let i = c.loop.invariant in
    let p = c.next_over.ensures in
    let q = c.add_extent.ensures in
    let m = g.P.Pages.blocks c.args.pages.now in
    record {
      so_far = λ told x held at.
          let here = subst (λ b. Holds extent_owner b x) (sym (i.kept told)) held in
          let found : Some c.in-Some.placed ≡ option_and_then placed_in_pair (pair_of (first_above c.loop.key (entries x.0))) = sym c.in-Some.is ∙ c.in_ok-placed.ensures.found told x here at in
          let s = i.so_far told x held at in
          let next = coming {N = Stored} extent_level every whole placed_in_pair placed_of m (extent_again m) x held c.loop.key s.seen c.loop.counter c.in-Some.placed s.ahead found in
          let mine = subst (λ b. Holds extent_level.owner b next.thing) (sym (p.kept told ∙ i.kept told)) next.holds in
          let said = subst (λ z. AreRead (z ∷ []) c.loop.versions.items c.add_extent.new.versions.items) (extent_read c.args.path.now c.in-Some.placed next.thing next.shown_is) (c.in_ok-add_extent.ensures.read told (chain_of next.thing) (extent_chain (g.P.Pages.blocks c.next_over.new.pages) c.in-Some.placed next.thing mine next.shown_is)) in
          subst (λ k. SoFar extent_level (of_extent c.args.path.now) x k (c.loop.counter + 1) c.args.versions.now.items c.add_extent.new.versions.items) (ap (λ (z : Placed). extent_key z.at) (sym next.shown_is) ∙ sym c.key_at-key.ensures.key)
          (so_far_next extent_level placed_in_pair placed_of m (extent_again m) x held (of_extent c.args.path.now) c.loop.key c.loop.counter c.in-Some.placed c.args.versions.now.items c.loop.versions.items c.add_extent.new.versions.items s next said);
      key = c.key_at-key.ensures.is;
      kept = λ told. q.kept told ∙ (p.kept told ∙ i.kept told);
      budget = q.budget ∙ (p.budget ∙ i.budget);
      goes = goes_then g.P.Pages.stopped g.P.Pages.count g.P.Pages.burns c.args.pages.now c.next_over.new.pages c.add_extent.new.pages (goes_then g.P.Pages.stopped g.P.Pages.count g.P.Pages.burns c.args.pages.now c.loop.pages c.next_over.new.pages i.goes p.goes) q.goes;
      went_on = c.in_ok-add_extent.ensures.went_on ∙ (c.in_ok-placed.ensures.went_on ∙ i.went_on);
    }

pub add_extent-requires : goal.add_extent-requires
add_extent-requires g c = record {
  chain = λ told.
      let i = c.loop.invariant in
      let s = c.requires.here told in
      let x = s.0 in
      let m = g.P.Pages.blocks c.args.pages.now in
      let here = subst (λ b. Holds extent_owner b x) (sym (i.kept told)) s.1.0 in
      let found : Some c.in-Some.placed ≡ option_and_then placed_in_pair (pair_of (first_above c.loop.key (entries x.0))) = sym c.in-Some.is ∙ c.in_ok-placed.ensures.found told x here s.1.1.0 in
      let f = i.so_far told x s.1.0 s.1.1.0 in
      let next = coming {N = Stored} extent_level every whole placed_in_pair placed_of m (extent_again m) x s.1.0 c.loop.key f.seen c.loop.counter c.in-Some.placed f.ahead found in
      let mine = subst (λ b. Holds extent_level.owner b next.thing) (sym (c.next_over.ensures.kept told ∙ i.kept told)) next.holds in
      (chain_of next.thing, extent_chain (g.P.Pages.blocks c.next_over.new.pages) c.in-Some.placed next.thing mine next.shown_is);
}
