use Rattle.std.proofs.Common.{◌≡◌, ◌+◌, ◌∙◌, ◌++◌, ◌∷◌, Some, None, Option, [], false, length, ap, arith, refl, subst, sym}
use Rattle.std.specs.Prelude.{IfSome}
use Rattle.std.specs.Option.{option_and_then}
use Rattle.pmem_pages.specs.Node.{IsKey}
use Rattle.pmem_pages.specs.Owners.{Holds}
use Rattle.pmem_pages.specs.Shape.{entries, first_above}
use Rattle.pmem_tree_base.specs.Find.{pair_of}
use Rattle.vos_levels.proofs.Calls.{goes_same, goes_then}
use Rattle.vos_levels.specs.Levels.{hung}
use Rattle.vos_path.specs.Objects.{akey_level, values_owner}
use Rattle.vos_lists.specs.declared.entry.AkeyEntry.{AkeyEntry}
use Rattle.vos_lists.specs.Entries.{akey_in_pair}
use Rattle.vos_lists.specs.Stands.{akey_name, akey_names, akey_stands, has_value}
use Rattle.vos_values.specs.Keys.{name_key}
use Rattle.vos_lists.proofs.Reading.{akey_again, akey_shown, least_name, name_said, values_in}
use Rattle.vos_lists.proofs.Walking.{Ahead, ahead_first, ahead_full, ahead_none, ahead_over, coming, whole_taken}
use Rattle.vos_lists.proofs.akeys.akey_names.Goals as goal
use Rattle.vos_lists.proofs.akeys.akey_names.Goals.{then-branch+in_ok-push_name, else-branch}

pub loop-init : goal.loop-init
loop-init g c = record {
  passed = λ told x held at.
      let m = g.P.Pages.blocks c.args.pages.now in
      subst (λ k. Ahead akey_level (λ a. false) akey_name x k [] 0) (sym c.least_key-key.ensures.key)
      (ahead_first akey_level (λ a. false) akey_name akey_in_pair akey_shown m (akey_again m) x held (name_key []) (λ a good. least_name a.name good));
  ahead = λ told x held at q cover.
      let test = akey_stands c.args.view q in
      let m = g.P.Pages.blocks c.args.pages.now in
      subst (λ k. Ahead akey_level test akey_name x k c.new-names.result 0) (sym c.least_key-key.ensures.key)
      (subst (λ z. Ahead akey_level test akey_name x (name_key []) z 0) (sym c.new-names.ensures)
      (ahead_first akey_level test akey_name akey_in_pair akey_shown m (akey_again m) x held (name_key []) (λ a good. least_name a.name good)));
  few = let e = ap length c.new-names.ensures in omega (arith, e);
  key = c.least_key-key.ensures.is;
  kept = λ told. refl;
  budget = refl;
  goes = goes_same g.P.Pages.stopped g.P.Pages.count g.P.Pages.burns c.args.pages.now;
  went_on = refl;
}

pub returns-then-len-most-clause-found : goal.returns-then-len-most-clause-found
returns-then-len-most-clause-found g c told x held at q cover =
    let i = c.loop.invariant in
    let m = g.P.Pages.blocks c.args.pages.now in
    let test = akey_stands c.args.view q in
    let full : length c.loop.names ≡ c.args.most = let a = c.if-len-most.true in let b = c.len.ensures in let d = i.few in omega (arith, a, b, d) in
    ahead_full akey_level test akey_name akey_in_pair akey_shown m (akey_again m) x held c.loop.key c.loop.names c.loop.counter c.args.most (i.ahead told x held at q cover) full

pub returns-in_default-clause-found : goal.returns-in_default-clause-found
returns-in_default-clause-found g c told x held at q cover =
    let i = c.loop.invariant in
    let m = g.P.Pages.blocks c.args.pages.now in
    let here = subst (λ b. Holds (hung akey_level) b x) (sym (i.kept told)) held in
    let none : None ≡ option_and_then akey_in_pair (pair_of (first_above c.loop.key (entries x.0))) = let f = c.in_ok-akey.ensures.found told x here at in let n = c.in_default.is in cc in
    let test = akey_stands c.args.view q in
    whole_taken c.loop.names (akey_names c.args.view q x) c.args.most (ahead_none akey_level test akey_name akey_in_pair akey_shown m (akey_again m) x held c.loop.key c.loop.names c.loop.counter (i.ahead told x held at q cover) none) i.few

pub akey_stands-requires : goal.akey_stands-requires
akey_stands-requires g c = record {
  here = λ told.
      let i = c.loop.invariant in
      let s = c.requires.here told in
      let x = s.0 in
      let m = g.P.Pages.blocks c.args.pages.now in
      let here = subst (λ b. Holds (hung akey_level) b x) (sym (i.kept told)) s.1.0 in
      let found : Some c.in-Some.akey ≡ option_and_then akey_in_pair (pair_of (first_above c.loop.key (entries x.0))) = sym c.in-Some.is ∙ c.in_ok-akey.ensures.found told x here s.1.1.0 in
      let next = coming akey_level (λ a. false) akey_name akey_in_pair akey_shown m (akey_again m) x s.1.0 c.loop.key [] c.loop.counter c.in-Some.akey (i.passed told x s.1.0 s.1.1.0) found in
      let same = c.next_akey.ensures.kept told ∙ i.kept told in
      (next.thing.holds, (subst (λ b. Holds values_owner b next.thing.holds) (sym same) (values_in m next.thing next.holds), (ap (λ (z : AkeyEntry). z.roots) next.shown_is, tt)));
}

pub returns-clause-found : goal.returns-clause-found
returns-clause-found g c told x held at q cover =
    let i = c.loop.invariant in
    let m = g.P.Pages.blocks c.args.pages.now in
    let test = akey_stands c.args.view q in
    whole_taken c.loop.names (akey_names c.args.view q x) c.args.most (ahead_over akey_level test akey_name akey_in_pair akey_shown m (akey_again m) x held c.loop.key c.loop.names c.loop.counter (i.ahead told x held at q cover) (let over = c.loop-test.false in omega (arith, over))) i.few

pub loop-preserved : goal.loop-preserved
loop-preserved g c =
    let i = c.loop.invariant in
    let p = c.next_akey.ensures in
    let q = c.akey_stands.ensures in
    let m = g.P.Pages.blocks c.args.pages.now in
    let key_is = subst (λ z. IfSome z (λ x. IsKey x.key)) c.in-Some.is c.in_ok-akey.ensures.key in
    elim c.if-branch.branch [
      | then-branch+in_ok-push_name w ↦ record {
        passed = λ told x held at.
            let here = subst (λ b. Holds (hung akey_level) b x) (sym (i.kept told)) held in
            let found : Some c.in-Some.akey ≡ option_and_then akey_in_pair (pair_of (first_above c.loop.key (entries x.0))) = sym c.in-Some.is ∙ c.in_ok-akey.ensures.found told x here at in
            let next = coming akey_level (λ a. false) akey_name akey_in_pair akey_shown m (akey_again m) x held c.loop.key [] c.loop.counter c.in-Some.akey (i.passed told x held at) found in
            let key : c.in-Some.akey.key ≡ name_key next.thing.name = ap (λ (z : AkeyEntry). z.key) next.shown_is in
            subst (λ z. Ahead akey_level (λ a. false) akey_name x z [] (c.loop.counter + 1)) (sym key) (next.left_out refl);
        ahead = λ told x held at r cover.
            let test = akey_stands c.args.view r in
            let here = subst (λ b. Holds (hung akey_level) b x) (sym (i.kept told)) held in
            let found : Some c.in-Some.akey ≡ option_and_then akey_in_pair (pair_of (first_above c.loop.key (entries x.0))) = sym c.in-Some.is ∙ c.in_ok-akey.ensures.found told x here at in
            let next = coming akey_level test akey_name akey_in_pair akey_shown m (akey_again m) x held c.loop.key c.loop.names c.loop.counter c.in-Some.akey (i.ahead told x held at r cover) found in
            let values = subst (λ b. Holds values_owner b next.thing.holds) (sym (p.kept told ∙ i.kept told)) (values_in m next.thing next.holds) in
            let key : c.in-Some.akey.key ≡ name_key next.thing.name = ap (λ (z : AkeyEntry). z.key) next.shown_is in
            let name_is = name_said c.in-Some.akey.key next.thing.name key next.good in
            let said = c.in_ok-akey_stands.ensures.found told next.thing.holds values (ap (λ (z : AkeyEntry). z.roots) next.shown_is) next.thing.name name_is ∙ ap (λ z. has_value c.args.view z next.thing.holds) (cover next.thing next.among) in
            let names : c.if-branch.names ≡ c.loop.names ++ next.thing.name ∷ [] = w.names-is ∙ w.in_ok-push_name.ensures.pushed next.thing.name name_is in
            subst (λ z. Ahead akey_level test akey_name x z c.if-branch.names (c.loop.counter + 1)) (sym key)
            (subst (λ z. Ahead akey_level test akey_name x (name_key next.thing.name) z (c.loop.counter + 1)) (sym names) (next.taken (sym said ∙ w.if-branch.true)));
        few = let a = c.if-len-most.false in let b = c.len.ensures in let d = w.in_ok-push_name.ensures.one in let e = ap length w.names-is in omega (arith, a, b, d, e);
        key = key_is;
        kept = λ told. q.kept told ∙ (p.kept told ∙ i.kept told);
        budget = q.budget ∙ (p.budget ∙ i.budget);
        goes = goes_then g.P.Pages.stopped g.P.Pages.count g.P.Pages.burns c.args.pages.now c.next_akey.new.pages c.akey_stands.new.pages (goes_then g.P.Pages.stopped g.P.Pages.count g.P.Pages.burns c.args.pages.now c.loop.pages c.next_akey.new.pages i.goes p.goes) q.goes;
        went_on = c.in_ok-akey_stands.ensures.went_on ∙ (c.in_ok-akey.ensures.went_on ∙ i.went_on);
      }
      | else-branch w ↦ record {
        passed = λ told x held at.
            let here = subst (λ b. Holds (hung akey_level) b x) (sym (i.kept told)) held in
            let found : Some c.in-Some.akey ≡ option_and_then akey_in_pair (pair_of (first_above c.loop.key (entries x.0))) = sym c.in-Some.is ∙ c.in_ok-akey.ensures.found told x here at in
            let next = coming akey_level (λ a. false) akey_name akey_in_pair akey_shown m (akey_again m) x held c.loop.key [] c.loop.counter c.in-Some.akey (i.passed told x held at) found in
            let key : c.in-Some.akey.key ≡ name_key next.thing.name = ap (λ (z : AkeyEntry). z.key) next.shown_is in
            subst (λ z. Ahead akey_level (λ a. false) akey_name x z [] (c.loop.counter + 1)) (sym key) (next.left_out refl);
        ahead = λ told x held at r cover.
            let test = akey_stands c.args.view r in
            let here = subst (λ b. Holds (hung akey_level) b x) (sym (i.kept told)) held in
            let found : Some c.in-Some.akey ≡ option_and_then akey_in_pair (pair_of (first_above c.loop.key (entries x.0))) = sym c.in-Some.is ∙ c.in_ok-akey.ensures.found told x here at in
            let next = coming akey_level test akey_name akey_in_pair akey_shown m (akey_again m) x held c.loop.key c.loop.names c.loop.counter c.in-Some.akey (i.ahead told x held at r cover) found in
            let values = subst (λ b. Holds values_owner b next.thing.holds) (sym (p.kept told ∙ i.kept told)) (values_in m next.thing next.holds) in
            let key : c.in-Some.akey.key ≡ name_key next.thing.name = ap (λ (z : AkeyEntry). z.key) next.shown_is in
            let name_is = name_said c.in-Some.akey.key next.thing.name key next.good in
            let said = c.in_ok-akey_stands.ensures.found told next.thing.holds values (ap (λ (z : AkeyEntry). z.roots) next.shown_is) next.thing.name name_is ∙ ap (λ z. has_value c.args.view z next.thing.holds) (cover next.thing next.among) in
            subst (λ z. Ahead akey_level test akey_name x z c.if-branch.names (c.loop.counter + 1)) (sym key)
            (subst (λ z. Ahead akey_level test akey_name x (name_key next.thing.name) z (c.loop.counter + 1)) (sym w.names-is) (next.left_out (sym said ∙ w.if-branch.false)));
        few = let a = i.few in let e = ap length w.names-is in omega (arith, a, e);
        key = key_is;
        kept = λ told. q.kept told ∙ (p.kept told ∙ i.kept told);
        budget = q.budget ∙ (p.budget ∙ i.budget);
        goes = goes_then g.P.Pages.stopped g.P.Pages.count g.P.Pages.burns c.args.pages.now c.next_akey.new.pages c.akey_stands.new.pages (goes_then g.P.Pages.stopped g.P.Pages.count g.P.Pages.burns c.args.pages.now c.loop.pages c.next_akey.new.pages i.goes p.goes) q.goes;
        went_on = c.in_ok-akey_stands.ensures.went_on ∙ (c.in_ok-akey.ensures.went_on ∙ i.went_on);
      }
    ]
