use Rattle.std.proofs.Common.{[], ◌≡◌, ◌+◌, ◌∙◌, Some, None, ap, arith, refl, subst, sym}
use Rattle.std.specs.Option.{option_and_then}
use Rattle.pmem_pages.specs.Owners.{Holds}
use Rattle.pmem_pages.specs.Shape.{entries, first_above}
use Rattle.pmem_tree_base.specs.Find.{pair_of}
use Rattle.vos_levels.proofs.Calls.{goes_same, goes_then}
use Rattle.vos_levels.specs.Levels.{things}
use Rattle.vos_ilog.specs.declared.ilog.LogEntry.{LogEntry}
use Rattle.vos_ilog.specs.Logs.{entry_in_pair, key_of_entry, log_level, log_owner}
use Rattle.vos_values.specs.Keys.{name_key}
use Rattle.vos_lists.proofs.Walking.{ahead_none, ahead_over, coming}
use Rattle.vos_gather.specs.Wanted.{Listed, want_of}
use Rattle.vos_gather.proofs.Listing.{entries_all, entry_punch}
use Rattle.vos_gather.proofs.Walked.{SoFar, entry_again, every, least_entry, so_far_all, so_far_first, so_far_next, whole}
use Rattle.vos_gather.proofs.log.list_log.Goals as goal

pub loop-init : goal.loop-init
loop-init g c = record {
  so_far = λ told x held at w u p.
      let m = g.P.Pages.blocks c.args.pages.now in
      let f = c.args.names.now.items in
      subst (λ k. SoFar (want_of c.args.wanted.now) log_level (entry_punch w) x k 0 f f) (sym c.least_key-key.ensures.key)
      (so_far_first (want_of c.args.wanted.now) log_level entry_in_pair (λ e. e) m (entry_again m) x held (entry_punch w) (name_key []) least_entry f);
  named = λ h. h;
  key = c.least_key-key.ensures.is;
  kept = λ told. refl;
  budget = refl;
  goes = goes_same g.P.Pages.stopped g.P.Pages.count g.P.Pages.burns c.args.pages.now;
  went_on = refl;
}

pub returns-in_default-clause-listed : goal.returns-in_default-clause-listed
returns-in_default-clause-listed g c told x held at w u p =
    let i = c.loop.invariant in
    let m = g.P.Pages.blocks c.args.pages.now in
    let here = subst (λ b. Holds log_owner b x) (sym (i.kept told)) held in
    let none : None ≡ option_and_then entry_in_pair (pair_of (first_above c.loop.key (entries x.0))) = let f = c.in_ok-entry.ensures.found told x here at in let n = c.in_default.is in cc in
    let s = i.so_far told x held at w u p in
    subst (λ z. Listed (want_of c.args.wanted.now) z c.args.names.now.items c.loop.names.items) (entries_all w (things x))
    (so_far_all (want_of c.args.wanted.now) (entry_punch w) s.seen (things x) c.args.names.now.items c.loop.names.items (ahead_none {N = LogEntry} log_level every whole entry_in_pair (λ e. e) m (entry_again m) x held c.loop.key s.seen c.loop.counter s.ahead none) s.listed)

pub returns-clause-listed : goal.returns-clause-listed
returns-clause-listed g c told x held at w u p =
    let i = c.loop.invariant in
    let m = g.P.Pages.blocks c.args.pages.now in
    let s = i.so_far told x held at w u p in
    subst (λ z. Listed (want_of c.args.wanted.now) z c.args.names.now.items c.loop.names.items) (entries_all w (things x))
    (so_far_all (want_of c.args.wanted.now) (entry_punch w) s.seen (things x) c.args.names.now.items c.loop.names.items (ahead_over {N = LogEntry} log_level every whole entry_in_pair (λ e. e) m (entry_again m) x held c.loop.key s.seen c.loop.counter s.ahead (let over = c.loop-test.false in omega (arith, over))) s.listed)

pub loop-preserved : goal.loop-preserved
loop-preserved g c =
    let i = c.loop.invariant in
    let p = c.next_over.ensures in
    let m = g.P.Pages.blocks c.args.pages.now in
    record {
      so_far = λ told x held at w u q.
          let here = subst (λ b. Holds log_owner b x) (sym (i.kept told)) held in
          let found : Some c.in-Some.entry ≡ option_and_then entry_in_pair (pair_of (first_above c.loop.key (entries x.0))) = sym c.in-Some.is ∙ c.in_ok-entry.ensures.found told x here at in
          let s = i.so_far told x held at w u q in
          let next = coming {N = LogEntry} log_level every whole entry_in_pair (λ e. e) m (entry_again m) x held c.loop.key s.seen c.loop.counter c.in-Some.entry s.ahead found in
          let said = subst (λ z. Listed (want_of c.args.wanted.now) (entry_punch w z) c.loop.names.items c.note.new.names.items) next.shown_is (c.in_ok-note.ensures.noted w u q) in
          subst (λ k. SoFar (want_of c.args.wanted.now) log_level (entry_punch w) x k (c.loop.counter + 1) c.args.names.now.items c.note.new.names.items) (ap key_of_entry (sym next.shown_is) ∙ sym c.key_of-key.ensures.key)
          (so_far_next (want_of c.args.wanted.now) log_level entry_in_pair (λ e. e) m (entry_again m) x held (entry_punch w) c.loop.key c.loop.counter c.in-Some.entry c.args.names.now.items c.loop.names.items c.note.new.names.items s next said);
      named = λ h. c.note.ensures.named (i.named h);
      key = c.key_of-key.ensures.is;
      kept = λ told. p.kept told ∙ i.kept told;
      budget = p.budget ∙ i.budget;
      goes = goes_then g.P.Pages.stopped g.P.Pages.count g.P.Pages.burns c.args.pages.now c.loop.pages c.next_over.new.pages i.goes p.goes;
      went_on = c.in_ok-entry.ensures.went_on ∙ i.went_on;
    }

pub returns-in_err-note-clause-named : goal.returns-in_err-note-clause-named
returns-in_err-note-clause-named g c h = c.note.ensures.named (c.loop.invariant.named h)
