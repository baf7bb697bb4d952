use Rattle.std.proofs.Common.{◌≡◌, ◌+◌, ◌∙◌, true, false, Some, None, [], ap, arith, refl, subst, sym}
use Rattle.std.specs.Option.{option_and_then}
use Rattle.pmem_pages.specs.Owners.{Holds}
use Rattle.pmem_pages.specs.Shape.{entries, first_above}
use Rattle.pmem_tree_base.specs.Find.{pair_of}
use Rattle.vos_values.specs.Keys.{extent_key}
use Rattle.vos_levels.proofs.Calls.{goes_same, goes_then}
use Rattle.vos_extent.specs.declared.pieces.Placed.{Placed}
use Rattle.vos_extent.specs.Extents.{Stored, extent_level, extent_owner, placed_in_pair, placed_of}
use Rattle.vos_lists.specs.Stands.{has_record, is_there}
use Rattle.vos_lists.proofs.Reading.{extent_again, least_extent}
use Rattle.vos_lists.proofs.Walking.{Ahead, ahead_first, ahead_none, ahead_over, coming, none_any}
use Rattle.vos_lists.proofs.values.has_extent.Goals as goal

pub loop-init : goal.loop-init
loop-init g c = record {
  ahead = λ told x held at.
      subst (λ k. Ahead {N = Stored} extent_level (has_record c.args.view c.args.punched) (λ s. s) x k [] 0) (sym c.least_key-key.ensures.key)
      (ahead_first extent_level (has_record c.args.view c.args.punched) (λ s. s) placed_in_pair placed_of (g.P.Pages.blocks c.args.pages.now) (extent_again (g.P.Pages.blocks c.args.pages.now)) x held _ least_extent);
  key = c.least_key-key.ensures.is;
  kept = λ told. refl;
  budget = refl;
  goes = goes_same g.P.Pages.stopped g.P.Pages.count g.P.Pages.burns c.args.pages.now;
  went_on = refl;
}

pub next_over-requires-clause-here : goal.next_over-requires-clause-here
next_over-requires-clause-here g c told =
    let s = c.requires.here told in
    (s.0, (subst (λ b. Holds extent_owner b s.0) (sym (c.loop.invariant.kept told)) s.1.0, s.1.1))

pub returns-in_default-clause-found : goal.returns-in_default-clause-found
returns-in_default-clause-found g c told x held at =
    let i = c.loop.invariant in
    let m = g.P.Pages.blocks c.args.pages.now in
    let here = subst (λ b. Holds extent_owner b x) (sym (i.kept told)) held in
    let none : None ≡ option_and_then placed_in_pair (pair_of (first_above c.loop.key (entries x.0))) = let f = c.in_ok-placed.ensures.found told x here at in let n = c.in_default.is in cc in
    let test = has_record c.args.view c.args.punched in
    sym (none_any test (λ s. s) x.1 (sym (ahead_none extent_level test (λ s. s) placed_in_pair placed_of m (extent_again m) x held c.loop.key [] c.loop.counter (i.ahead told x held at) none)))

pub returns-then-is_there-clause-found : goal.returns-then-is_there-clause-found
returns-then-is_there-clause-found g c told x held at =
    let i = c.loop.invariant in
    let m = g.P.Pages.blocks c.args.pages.now in
    let here = subst (λ b. Holds extent_owner b x) (sym (i.kept told)) held in
    let found : Some c.in-Some.placed ≡ option_and_then placed_in_pair (pair_of (first_above c.loop.key (entries x.0))) = sym c.in-Some.is ∙ c.in_ok-placed.ensures.found told x here at in
    let test = has_record c.args.view c.args.punched in
    let next = coming extent_level test (λ s. s) placed_in_pair placed_of m (extent_again m) x held c.loop.key [] c.loop.counter c.in-Some.placed (i.ahead told x held at) found in
    let yes : test next.thing ≡ true = ap (λ (z : Placed). is_there c.args.view c.args.punched z.mark.length (record { epoch = z.at.epoch; minor = z.at.minor })) (sym next.shown_is) ∙ (sym c.is_there.ensures ∙ c.if-is_there.true) in
    sym (next.hit yes)

pub loop-preserved : goal.loop-preserved
loop-preserved g c =
    let i = c.loop.invariant in
    let p = c.next_over.ensures in
    record {
      ahead = λ told x held at.
          let m = g.P.Pages.blocks c.args.pages.now in
          let here = subst (λ b. Holds extent_owner b x) (sym (i.kept told)) held in
          let found : Some c.in-Some.placed ≡ option_and_then placed_in_pair (pair_of (first_above c.loop.key (entries x.0))) = sym c.in-Some.is ∙ c.in_ok-placed.ensures.found told x here at in
          let test = has_record c.args.view c.args.punched in
          let next = coming extent_level test (λ s. s) placed_in_pair placed_of m (extent_again m) x held c.loop.key [] c.loop.counter c.in-Some.placed (i.ahead told x held at) found in
          let no : test next.thing ≡ false = ap (λ (z : Placed). is_there c.args.view c.args.punched z.mark.length (record { epoch = z.at.epoch; minor = z.at.minor })) (sym next.shown_is) ∙ (sym c.is_there.ensures ∙ c.if-is_there.false) in
          subst (λ k. Ahead {N = Stored} extent_level test (λ s. s) x k [] (c.loop.counter + 1)) (ap (λ (z : Placed). extent_key z.at) (sym next.shown_is) ∙ sym c.key_at-key.ensures.key) (next.left_out no);
      key = c.key_at-key.ensures.is;
      kept = λ told. p.kept told ∙ i.kept told;
      budget = p.budget ∙ i.budget;
      goes = goes_then g.P.Pages.stopped g.P.Pages.count g.P.Pages.burns c.args.pages.now c.loop.pages c.next_over.new.pages i.goes p.goes;
      went_on = c.in_ok-placed.ensures.went_on ∙ i.went_on;
    }

pub returns-clause-found : goal.returns-clause-found
returns-clause-found g c told x held at =
    let i = c.loop.invariant in
    let m = g.P.Pages.blocks c.args.pages.now in
    let test = has_record c.args.view c.args.punched in
    sym (none_any test (λ s. s) x.1 (sym (ahead_over extent_level test (λ s. s) placed_in_pair placed_of m (extent_again m) x held c.loop.key [] c.loop.counter (i.ahead told x held at) (let over = c.loop-test.false in omega (arith, over)))))
