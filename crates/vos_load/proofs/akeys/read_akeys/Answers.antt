use Rattle.std.proofs.Common.{[], ◌≡◌, ◌+◌, ◌∙◌, Some, None, ap, arith, refl, subst, sym}
use Rattle.std.specs.Prelude.{IfSome}
use Rattle.std.specs.Option.{option_and_then}
use Rattle.pmem_pages.specs.Node.{IsKey}
use Rattle.pmem_pages.specs.Owners.{Holds}
use Rattle.pmem_pages.specs.Shape.{entries, first_above}
use Rattle.pmem_tree_base.specs.Find.{pair_of}
use Rattle.vos_levels.proofs.Calls.{goes_same, goes_then}
use Rattle.vos_levels.specs.Levels.{hung, things}
use Rattle.vos_path.specs.Objects.{Akey, akey_level, values_owner}
use Rattle.vos_lists.specs.declared.entry.AkeyEntry.{AkeyEntry}
use Rattle.vos_lists.specs.Entries.{akey_in_pair}
use Rattle.vos_values.specs.Keys.{name_key}
use Rattle.vos_lists.proofs.Reading.{akey_again, akey_shown, least_name, name_said, values_in}
use Rattle.vos_lists.proofs.Walking.{ahead_none, ahead_over, coming}
use Rattle.vos_gather.specs.Gathered.{akey_in}
use Rattle.vos_gather.proofs.Walked.{every, whole}
use Rattle.vos_load.proofs.Walked.{SoFar, so_far_all, so_far_first, so_far_next}
use Rattle.vos_load.proofs.akeys.read_akeys.Goals as goal

pub loop-init : goal.loop-init
loop-init g c = record {
  so_far = λ told x held at.
      let m = g.P.Pages.blocks c.args.pages.now in
      let f = c.args.versions.now.items in
      subst (λ k. SoFar akey_level (akey_in c.args.above.now) x k 0 f f) (sym c.least_key-key.ensures.key)
      (so_far_first akey_level akey_in_pair akey_shown m (akey_again m) x held (akey_in c.args.above.now) (name_key []) (λ a good. least_name a.name good) f);
  key = c.least_key-key.ensures.is;
  kept = λ told. refl;
  budget = refl;
  goes = goes_same g.P.Pages.stopped g.P.Pages.count g.P.Pages.burns c.args.pages.now;
  went_on = refl;
}

pub returns-in_default-clause-read : goal.returns-in_default-clause-read
returns-in_default-clause-read g c told x held at =
    let i = c.loop.invariant in
    let m = g.P.Pages.blocks c.args.pages.now in
    let here = subst (λ b. Holds (hung akey_level) b x) (sym (i.kept told)) held in
    let none : None ≡ option_and_then akey_in_pair (pair_of (first_above c.loop.key (entries x.0))) = let f = c.in_ok-akey.ensures.found told x here at in let n = c.in_default.is in cc in
    let s = i.so_far told x held at in
    so_far_all (akey_in c.args.above.now) s.seen (things x) c.args.versions.now.items c.loop.versions.items (ahead_none {N = Akey} akey_level every whole akey_in_pair akey_shown m (akey_again m) x held c.loop.key s.seen c.loop.counter s.ahead none) s.read

pub read_akey-requires : goal.read_akey-requires
read_akey-requires g c = record {
  here = λ told.
      let i = c.loop.invariant in
      let s = c.requires.here told in
      let x = s.0 in
      let m = g.P.Pages.blocks c.args.pages.now in
      let here = subst (λ b. Holds (hung akey_level) b x) (sym (i.kept told)) s.1.0 in
      let found : Some c.in-Some.akey ≡ option_and_then akey_in_pair (pair_of (first_above c.loop.key (entries x.0))) = sym c.in-Some.is ∙ c.in_ok-akey.ensures.found told x here s.1.1.0 in
      let f = i.so_far told x s.1.0 s.1.1.0 in
      let next = coming {N = Akey} akey_level every whole akey_in_pair akey_shown m (akey_again m) x s.1.0 c.loop.key f.seen c.loop.counter c.in-Some.akey f.ahead found in
      let same = c.next_akey.ensures.kept told ∙ i.kept told in
      (next.thing.holds, (subst (λ b. Holds values_owner b next.thing.holds) (sym same) (values_in m next.thing next.holds), (ap (λ (z : AkeyEntry). z.roots) next.shown_is, tt)));
}

pub returns-clause-read : goal.returns-clause-read
returns-clause-read g c told x held at =
    let i = c.loop.invariant in
    let m = g.P.Pages.blocks c.args.pages.now in
    let s = i.so_far told x held at in
    so_far_all (akey_in c.args.above.now) s.seen (things x) c.args.versions.now.items c.loop.versions.items (ahead_over {N = Akey} akey_level every whole akey_in_pair akey_shown m (akey_again m) x held c.loop.key s.seen c.loop.counter s.ahead (let over = c.loop-test.false in omega (arith, over))) s.read

pub loop-preserved : goal.loop-preserved
loop-preserved g c =
    let i = c.loop.invariant in
    let p = c.next_akey.ensures in
    let q = c.read_akey.ensures in
    let m = g.P.Pages.blocks c.args.pages.now in
    record {
      so_far = λ told x held at.
          let here = subst (λ b. Holds (hung akey_level) b x) (sym (i.kept told)) held in
          let found : Some c.in-Some.akey ≡ option_and_then akey_in_pair (pair_of (first_above c.loop.key (entries x.0))) = sym c.in-Some.is ∙ c.in_ok-akey.ensures.found told x here at in
          let s = i.so_far told x held at in
          let next = coming {N = Akey} akey_level every whole akey_in_pair akey_shown m (akey_again m) x held c.loop.key s.seen c.loop.counter c.in-Some.akey s.ahead found in
          let t = next.thing in
          let values = subst (λ b. Holds values_owner b t.holds) (sym (p.kept told ∙ i.kept told)) (values_in m t next.holds) in
          let key : c.in-Some.akey.key ≡ name_key t.name = ap (λ (z : AkeyEntry). z.key) next.shown_is in
          let said = c.in_ok-read_akey.ensures.read told t.holds values (ap (λ (z : AkeyEntry). z.roots) next.shown_is) t.name (name_said c.in-Some.akey.key t.name key next.good) in
          subst (λ k. SoFar akey_level (akey_in c.args.above.now) x k (c.loop.counter + 1) c.args.versions.now.items c.read_akey.new.versions.items) (sym key)
          (so_far_next akey_level akey_in_pair akey_shown m (akey_again m) x held (akey_in c.args.above.now) c.loop.key c.loop.counter c.in-Some.akey c.args.versions.now.items c.loop.versions.items c.read_akey.new.versions.items s next said);
      key = subst (λ z. IfSome z (λ x. IsKey x.key)) c.in-Some.is c.in_ok-akey.ensures.key;
      kept = λ told. q.kept told ∙ (p.kept told ∙ i.kept told);
      budget = q.budget ∙ (p.budget ∙ i.budget);
      goes = goes_then g.P.Pages.stopped g.P.Pages.count g.P.Pages.burns c.args.pages.now c.next_akey.new.pages c.read_akey.new.pages (goes_then g.P.Pages.stopped g.P.Pages.count g.P.Pages.burns c.args.pages.now c.loop.pages c.next_akey.new.pages i.goes p.goes) q.goes;
      went_on = c.in_ok-read_akey.ensures.went_on ∙ (c.in_ok-akey.ensures.went_on ∙ i.went_on);
    }
