use Rattle.std.proofs.Common.{[], ◌≡◌, ◌+◌, ◌∙◌, Some, None, ap, arith, refl, subst, sym}
use Rattle.std.specs.Option.{option_and_then}
use Rattle.pmem_pages.specs.Owners.{Holds}
use Rattle.pmem_pages.specs.Shape.{entries, first_above}
use Rattle.pmem_tree_base.specs.Find.{pair_of}
use Rattle.vos_levels.proofs.Calls.{goes_same, goes_then}
use Rattle.vos_levels.specs.Levels.{things}
use Rattle.vos_ilog.specs.declared.ilog.LogEntry.{LogEntry}
use Rattle.vos_ilog.specs.Logs.{entry_in_pair, key_of_entry, log_level, log_owner}
use Rattle.vos_values.specs.Keys.{name_key}
use Rattle.vos_lists.proofs.Walking.{ahead_none, ahead_over, coming}
use Rattle.vos_load.specs.Read.{AreRead}
use Rattle.vos_gather.proofs.Listing.{entries_all, entry_punch}
use Rattle.vos_gather.proofs.Walked.{entry_again, every, least_entry, whole}
use Rattle.vos_load.proofs.Walked.{SoFar, so_far_all, so_far_first, so_far_next}
use Rattle.vos_load.proofs.log.read_log.Goals as goal

pub loop-init : goal.loop-init
loop-init g c = record {
  so_far = λ told x held at.
      let m = g.P.Pages.blocks c.args.pages.now in
      let f = c.args.versions.now.items in
      subst (λ k. SoFar log_level (entry_punch c.args.punch.now) x k 0 f f) (sym c.least_key-key.ensures.key)
      (so_far_first log_level entry_in_pair (λ e. e) m (entry_again m) x held (entry_punch c.args.punch.now) (name_key []) least_entry f);
  key = c.least_key-key.ensures.is;
  kept = λ told. refl;
  budget = refl;
  goes = goes_same g.P.Pages.stopped g.P.Pages.count g.P.Pages.burns c.args.pages.now;
  went_on = refl;
}

pub returns-in_default-clause-read : goal.returns-in_default-clause-read
returns-in_default-clause-read g c told x held at =
    let i = c.loop.invariant in
    let m = g.P.Pages.blocks c.args.pages.now in
    let here = subst (λ b. Holds log_owner b x) (sym (i.kept told)) held in
    let none : None ≡ option_and_then entry_in_pair (pair_of (first_above c.loop.key (entries x.0))) = let f = c.in_ok-entry.ensures.found told x here at in let n = c.in_default.is in cc in
    let s = i.so_far told x held at in
    subst (λ z. AreRead z c.args.versions.now.items c.loop.versions.items) (entries_all c.args.punch.now (things x))
    (so_far_all (entry_punch c.args.punch.now) s.seen (things x) c.args.versions.now.items c.loop.versions.items (ahead_none {N = LogEntry} log_level every whole entry_in_pair (λ e. e) m (entry_again m) x held c.loop.key s.seen c.loop.counter s.ahead none) s.read)

pub returns-clause-read : goal.returns-clause-read
returns-clause-read g c told x held at =
    let i = c.loop.invariant in
    let m = g.P.Pages.blocks c.args.pages.now in
    let s = i.so_far told x held at in
    subst (λ z. AreRead z c.args.versions.now.items c.loop.versions.items) (entries_all c.args.punch.now (things x))
    (so_far_all (entry_punch c.args.punch.now) s.seen (things x) c.args.versions.now.items c.loop.versions.items (ahead_over {N = LogEntry} log_level every whole entry_in_pair (λ e. e) m (entry_again m) x held c.loop.key s.seen c.loop.counter s.ahead (let over = c.loop-test.false in omega (arith, over))) s.read)

pub loop-preserved : goal.loop-preserved
loop-preserved g c =
    let i = c.loop.invariant in
    let p = c.next_over.ensures in
    let m = g.P.Pages.blocks c.args.pages.now in
    record {
      so_far = λ told x held at.
          let here = subst (λ b. Holds log_owner b x) (sym (i.kept told)) held in
          let found : Some c.in-Some.entry ≡ option_and_then entry_in_pair (pair_of (first_above c.loop.key (entries x.0))) = sym c.in-Some.is ∙ c.in_ok-entry.ensures.found told x here at in
          let s = i.so_far told x held at in
          let next = coming {N = LogEntry} log_level every whole entry_in_pair (λ e. e) m (entry_again m) x held c.loop.key s.seen c.loop.counter c.in-Some.entry s.ahead found in
          let said = subst (λ z. AreRead (entry_punch c.args.punch.now z) c.loop.versions.items c.add_punch.new.versions.items) next.shown_is (c.in_ok-add_punch.ensures) in
          subst (λ k. SoFar log_level (entry_punch c.args.punch.now) x k (c.loop.counter + 1) c.args.versions.now.items c.add_punch.new.versions.items) (ap key_of_entry (sym next.shown_is) ∙ sym c.key_of-key.ensures.key)
          (so_far_next log_level entry_in_pair (λ e. e) m (entry_again m) x held (entry_punch c.args.punch.now) c.loop.key c.loop.counter c.in-Some.entry c.args.versions.now.items c.loop.versions.items c.add_punch.new.versions.items s next said);
      key = c.key_of-key.ensures.is;
      kept = λ told. p.kept told ∙ i.kept told;
      budget = p.budget ∙ i.budget;
      goes = goes_then g.P.Pages.stopped g.P.Pages.count g.P.Pages.burns c.args.pages.now c.loop.pages c.next_over.new.pages i.goes p.goes;
      went_on = c.in_ok-entry.ensures.went_on ∙ i.went_on;
    }
