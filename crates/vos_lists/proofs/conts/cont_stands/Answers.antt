use Rattle.std.proofs.Common.{◌≡◌, ◌==◌, ◌&&◌, ◌+◌, ◌∙◌, Bool, true, false, Some, None, [], ap, arith, inl, inr, refl, subst, sym}
use Rattle.std.specs.Prelude.{IfSome}
use Rattle.std.specs.Option.{option_and_then}
use Rattle.std.proofs.lemmas.Bool.Decides.{nat_tests}
use Rattle.pmem_pages.specs.Node.{IsKey, key_cmp}
use Rattle.pmem_pages.specs.Owners.{Holds}
use Rattle.pmem_pages.specs.Shape.{entries, first_above}
use Rattle.pmem_tree_base.specs.Find.{pair_of}
use Rattle.vos_values.specs.Keys.{object_key}
use Rattle.vos_levels.proofs.Calls.{goes_same, goes_then}
use Rattle.vos_path.specs.Objects.{Object, below_owner, dkey_level, object_level, object_path, objects_owner}
use Rattle.vos_punches.specs.Rows.{moments_at}
use Rattle.vos_reads.specs.Ways.{punched_at}
use Rattle.vos_lists.specs.Covers.{CoverDkeys, view_of}
use Rattle.vos_lists.specs.declared.entry.ObjectEntry.{ObjectEntry}
use Rattle.vos_lists.specs.Entries.{object_in_pair}
use Rattle.vos_lists.specs.Stands.{cont_key, object_stands, stands_in}
use Rattle.vos_lists.proofs.Ranges.{and_no, early_fails, later_fails, other_cont, over_start}
use Rattle.vos_lists.proofs.Reading.{dkeys_in, object_again, object_shown}
use Rattle.vos_lists.proofs.Walking.{Ahead, ahead_cut, ahead_from, ahead_none, ahead_over, coming, none_any}
use Rattle.vos_lists.proofs.conts.cont_stands.Goals as goal

pub loop-init : goal.loop-init
loop-init g c = record {
  passed = λ told x held at.
      let m = g.P.Pages.blocks c.args.pages.now in
      subst (λ k. Ahead {N = Object} object_level (λ s. false) (λ s. s) x k [] 0) (sym c.cont_key-key.ensures.key)
      (ahead_from object_level (λ s. false) (λ s. s) object_in_pair object_shown m (object_again m) x held (cont_key c.args.cont) (λ a good no. refl));
  ahead = λ told x held at cover.
      let test = stands_in c.args.cont c.args.below in
      let m = g.P.Pages.blocks c.args.pages.now in
      subst (λ k. Ahead {N = Object} object_level test (λ s. s) x k [] 0) (sym c.cont_key-key.ensures.key)
      (ahead_from object_level test (λ s. s) object_in_pair object_shown m (object_again m) x held (cont_key c.args.cont) (early_fails c.args.cont c.args.below c.cont_key-key.ensures.small));
  low = λ told x held at. inl c.cont_key-key.ensures.key;
  key = c.cont_key-key.ensures.is;
  kept = λ told. refl;
  budget = refl;
  goes = goes_same g.P.Pages.stopped g.P.Pages.count g.P.Pages.burns c.args.pages.now;
  went_on = refl;
}

pub returns-in_default-clause-found : goal.returns-in_default-clause-found
returns-in_default-clause-found g c told x held at cover =
    let i = c.loop.invariant in
    let m = g.P.Pages.blocks c.args.pages.now in
    let here = subst (λ b. Holds objects_owner b x) (sym (i.kept told)) held in
    let none : None ≡ option_and_then object_in_pair (pair_of (first_above c.loop.key (entries x.0))) = let f = c.in_ok-object.ensures.found told x here at in let n = c.in_default.is in cc in
    let test = stands_in c.args.cont c.args.below in
    sym (none_any test (λ s. s) x.1 (sym (ahead_none object_level test (λ s. s) object_in_pair object_shown m (object_again m) x held c.loop.key [] c.loop.counter (i.ahead told x held at cover) none)))

pub returns-then-object-cont-clause-found : goal.returns-then-object-cont-clause-found
returns-then-object-cont-clause-found g c told x held at cover =
    let i = c.loop.invariant in
    let m = g.P.Pages.blocks c.args.pages.now in
    let cont = c.args.cont in
    let e = c.args.below in
    let here = subst (λ b. Holds objects_owner b x) (sym (i.kept told)) held in
    let found : Some c.in-Some.object ≡ option_and_then object_in_pair (pair_of (first_above c.loop.key (entries x.0))) = sym c.in-Some.is ∙ c.in_ok-object.ensures.found told x here at in
    let test = stands_in cont e in
    let next = coming object_level test (λ s. s) object_in_pair object_shown m (object_again m) x held c.loop.key [] c.loop.counter c.in-Some.object (i.ahead told x held at cover) found in
    let t = next.thing in
    let differs : (c.in-Some.object.name.cont.0 == cont.0) ≡ false = let d = c.if-object-cont.true in grind (arith, nat_tests) in
    let other : (t.name.cont.0 == cont.0) ≡ false = ap (λ (z : ObjectEntry). z.name.cont.0 == cont.0) (sym next.shown_is) ∙ differs in
    let small = c.cont_key-key.ensures.small in
    let over = over_start cont c.loop.key (object_key t.name) (i.low told x held at) next.over in
    let none = ahead_cut object_level test (λ s. s) object_in_pair object_shown m (object_again m) x held (object_key t.name) [] (c.loop.counter + 1) (next.left_out (other_cont cont e t other)) (λ y good behind. later_fails cont e small t y next.good good over other behind) in
    sym (none_any test (λ s. s) x.1 (sym none))

pub object_stands-requires : goal.object_stands-requires
object_stands-requires g c = record {
  here = λ told.
      let i = c.loop.invariant in
      let s = c.requires.here told in
      let x = s.0 in
      let m = g.P.Pages.blocks c.args.pages.now in
      let here = subst (λ b. Holds objects_owner b x) (sym (i.kept told)) s.1.0 in
      let found : Some c.in-Some.object ≡ option_and_then object_in_pair (pair_of (first_above c.loop.key (entries x.0))) = sym c.in-Some.is ∙ c.in_ok-object.ensures.found told x here s.1.1.0 in
      let next = coming object_level (λ s. false) (λ s. s) object_in_pair object_shown m (object_again m) x s.1.0 c.loop.key [] c.loop.counter c.in-Some.object (i.passed told x s.1.0 s.1.1.0) found in
      let same = c.next_object.ensures.kept told ∙ i.kept told in
      (next.thing.holds, (subst (λ b. Holds (below_owner dkey_level) b next.thing.holds) (sym same) (dkeys_in m next.thing next.holds), (ap (λ (z : ObjectEntry). z.roots) next.shown_is, tt)));
}

pub returns-then-branch-clause-found : goal.returns-then-branch-clause-found
returns-then-branch-clause-found g c told x held at cover =
    let i = c.loop.invariant in
    let m = g.P.Pages.blocks c.args.pages.now in
    let cont = c.args.cont in
    let e = c.args.below in
    let here = subst (λ b. Holds objects_owner b x) (sym (i.kept told)) held in
    let found : Some c.in-Some.object ≡ option_and_then object_in_pair (pair_of (first_above c.loop.key (entries x.0))) = sym c.in-Some.is ∙ c.in_ok-object.ensures.found told x here at in
    let test = stands_in cont e in
    let next = coming object_level test (λ s. s) object_in_pair object_shown m (object_again m) x held c.loop.key [] c.loop.counter c.in-Some.object (i.ahead told x held at cover) found in
    let t = next.thing in
    let same : (c.in-Some.object.name.cont.0 == cont.0) ≡ true = let d = c.if-object-cont.false in grind (arith, nat_tests) in
    let mine : (t.name.cont.0 == cont.0) ≡ true = ap (λ (z : ObjectEntry). z.name.cont.0 == cont.0) (sym next.shown_is) ∙ same in
    let below = subst (λ b. Holds (below_owner dkey_level) b t.holds) (sym (c.next_object.ensures.kept told ∙ i.kept told)) (dkeys_in m t next.holds) in
    let covered = subst (λ (z : ObjectEntry). CoverDkeys (view_of e z.name) (moments_at c.args.punches.now) (object_path z.name) (punched_at e t.holds.0) t.holds.1) (sym next.shown_is) (cover t next.among mine) in
    let said = c.in_ok-object_stands.ensures.found told t.holds below (ap (λ (z : ObjectEntry). z.roots) next.shown_is) covered in
    let stands : object_stands (view_of e t.name) t.holds ≡ true = ap (λ (z : ObjectEntry). object_stands (view_of e z.name) t.holds) (sym next.shown_is) ∙ (sym said ∙ c.if-branch.true) in
    sym (next.hit (ap (λ (b : Bool). b && object_stands (view_of e t.name) t.holds) mine ∙ stands))

pub loop-preserved : goal.loop-preserved
loop-preserved g c =
    let i = c.loop.invariant in
    let p = c.next_object.ensures in
    let q = c.object_stands.ensures in
    let m = g.P.Pages.blocks c.args.pages.now in
    let cont = c.args.cont in
    let e = c.args.below in
    let test = stands_in cont e in
    record {
      passed = λ told x held at.
          let here = subst (λ b. Holds objects_owner b x) (sym (i.kept told)) held in
          let found : Some c.in-Some.object ≡ option_and_then object_in_pair (pair_of (first_above c.loop.key (entries x.0))) = sym c.in-Some.is ∙ c.in_ok-object.ensures.found told x here at in
          let next = coming object_level (λ s. false) (λ s. s) object_in_pair object_shown m (object_again m) x held c.loop.key [] c.loop.counter c.in-Some.object (i.passed told x held at) found in
          subst (λ k. Ahead {N = Object} object_level (λ s. false) (λ s. s) x k [] (c.loop.counter + 1)) (ap (λ (z : ObjectEntry). z.key) (sym next.shown_is)) (next.left_out refl);
      ahead = λ told x held at cover.
          let here = subst (λ b. Holds objects_owner b x) (sym (i.kept told)) held in
          let found : Some c.in-Some.object ≡ option_and_then object_in_pair (pair_of (first_above c.loop.key (entries x.0))) = sym c.in-Some.is ∙ c.in_ok-object.ensures.found told x here at in
          let next = coming object_level test (λ s. s) object_in_pair object_shown m (object_again m) x held c.loop.key [] c.loop.counter c.in-Some.object (i.ahead told x held at cover) found in
          let t = next.thing in
          let below = subst (λ b. Holds (below_owner dkey_level) b t.holds) (sym (p.kept told ∙ i.kept told)) (dkeys_in m t next.holds) in
          let same : (c.in-Some.object.name.cont.0 == cont.0) ≡ true = let d = c.if-object-cont.false in grind (arith, nat_tests) in
          let mine : (t.name.cont.0 == cont.0) ≡ true = ap (λ (z : ObjectEntry). z.name.cont.0 == cont.0) (sym next.shown_is) ∙ same in
          let covered = subst (λ (z : ObjectEntry). CoverDkeys (view_of e z.name) (moments_at c.args.punches.now) (object_path z.name) (punched_at e t.holds.0) t.holds.1) (sym next.shown_is) (cover t next.among mine) in
          let said = c.in_ok-object_stands.ensures.found told t.holds below (ap (λ (z : ObjectEntry). z.roots) next.shown_is) covered in
          let no : object_stands (view_of e t.name) t.holds ≡ false = ap (λ (z : ObjectEntry). object_stands (view_of e z.name) t.holds) (sym next.shown_is) ∙ (sym said ∙ c.if-branch.false) in
          let fails : test t ≡ false = and_no (t.name.cont.0 == cont.0) (object_stands (view_of e t.name) t.holds) no in
          subst (λ k. Ahead {N = Object} object_level test (λ s. s) x k [] (c.loop.counter + 1)) (ap (λ (z : ObjectEntry). z.key) (sym next.shown_is)) (next.left_out fails);
      low = λ told x held at.
          let here = subst (λ b. Holds objects_owner b x) (sym (i.kept told)) held in
          let found : Some c.in-Some.object ≡ option_and_then object_in_pair (pair_of (first_above c.loop.key (entries x.0))) = sym c.in-Some.is ∙ c.in_ok-object.ensures.found told x here at in
          let next = coming object_level (λ s. false) (λ s. s) object_in_pair object_shown m (object_again m) x held c.loop.key [] c.loop.counter c.in-Some.object (i.passed told x held at) found in
          inr (ap (λ (z : ObjectEntry). key_cmp (cont_key cont) z.key) next.shown_is ∙ over_start cont c.loop.key (object_key next.thing.name) (i.low told x held at) next.over);
      key = subst (λ z. IfSome z (λ x. IsKey x.key)) c.in-Some.is c.in_ok-object.ensures.key;
      kept = λ told. q.kept told ∙ (p.kept told ∙ i.kept told);
      budget = q.budget ∙ (p.budget ∙ i.budget);
      goes = goes_then g.P.Pages.stopped g.P.Pages.count g.P.Pages.burns c.args.pages.now c.next_object.new.pages c.object_stands.new.pages (goes_then g.P.Pages.stopped g.P.Pages.count g.P.Pages.burns c.args.pages.now c.loop.pages c.next_object.new.pages i.goes p.goes) q.goes;
      went_on = c.in_ok-object_stands.ensures.went_on ∙ (c.in_ok-object.ensures.went_on ∙ i.went_on);
    }

pub returns-clause-found : goal.returns-clause-found
returns-clause-found g c told x held at cover =
    let i = c.loop.invariant in
    let m = g.P.Pages.blocks c.args.pages.now in
    let test = stands_in c.args.cont c.args.below in
    sym (none_any test (λ s. s) x.1 (sym (ahead_over object_level test (λ s. s) object_in_pair object_shown m (object_again m) x held c.loop.key [] c.loop.counter (i.ahead told x held at cover) (let over = c.loop-test.false in omega (arith, over)))))
