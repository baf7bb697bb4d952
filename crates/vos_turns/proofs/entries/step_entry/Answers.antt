use Rattle.std.proofs.Common.{subst, sym}
use Rattle.vos_levels.proofs.Calls.{on_ok_then}
use Rattle.vos_turns.specs.Steps.{EntryTurn}
use Rattle.vos_turns.proofs.Turning.{commit_entry, confirm_entry, lacks_none, lacks_none_out, remove_entry, committed_left, confirmed_left, removed_left}
use Rattle.vos_turns.proofs.entries.step_entry.Goals as goal

pub returns-in-Commit-clause-stepped : goal.returns-in-Commit-clause-stepped
returns-in-Commit-clause-stepped g c = on_ok_then c.commit.result (λ h told e held at un.
    subst (λ s. EntryTurn s c.args.attempt (g.P.Pages.blocks c.args.pages.now) e (g.P.Pages.blocks c.commit.new.pages) c.commit.new.self.tree.root) (sym c.in-Commit.is)
    (commit_entry c.args.attempt (g.P.Pages.blocks c.args.pages.now) e (g.P.Pages.blocks c.commit.new.pages) c.commit.new.self.tree.root un (h told e held at))) c.commit.ensures.committed

pub returns-in-Commit-clause-too_much : goal.returns-in-Commit-clause-too_much
returns-in-Commit-clause-too_much g c refused told =
    let s = c.requires.here told in
    lacks_none c.args.attempt (g.P.Pages.blocks c.args.pages.now) s.0 (g.P.Pages.budget c.args.pages.now) s.1.0 s.1.1.1 (c.requires.room told) (c.commit.ensures.too_much refused told s.0 s.1.0 s.1.1.0)

pub returns-in-Confirm-clause-stepped : goal.returns-in-Confirm-clause-stepped
returns-in-Confirm-clause-stepped g c = on_ok_then c.confirm.result (λ h told e held at un.
    subst (λ s. EntryTurn s c.args.attempt (g.P.Pages.blocks c.args.pages.now) e (g.P.Pages.blocks c.confirm.new.pages) c.confirm.new.self.tree.root) (sym c.in-Confirm.is)
    (confirm_entry c.args.attempt c.in-Confirm.target (g.P.Pages.blocks c.args.pages.now) e (g.P.Pages.blocks c.confirm.new.pages) c.confirm.new.self.tree.root un (h told e held at))) c.confirm.ensures.confirmed

pub returns-in-Remove-clause-stepped : goal.returns-in-Remove-clause-stepped
returns-in-Remove-clause-stepped g c = on_ok_then c.remove.result (λ h told e held at un.
    subst (λ s. EntryTurn s c.args.attempt (g.P.Pages.blocks c.args.pages.now) e (g.P.Pages.blocks c.remove.new.pages) c.remove.new.self.tree.root) (sym c.in-Remove.is)
    (remove_entry c.args.attempt (g.P.Pages.blocks c.args.pages.now) e (g.P.Pages.blocks c.remove.new.pages) c.remove.new.self.tree.root un (h told e held at))) c.remove.ensures.removed

pub returns-in-Remove-clause-too_much : goal.returns-in-Remove-clause-too_much
returns-in-Remove-clause-too_much g c refused told =
    let s = c.requires.here told in
    lacks_none_out c.args.attempt (g.P.Pages.blocks c.args.pages.now) s.0 (g.P.Pages.budget c.args.pages.now) s.1.0 s.1.1.1 (c.requires.room told) (c.remove.ensures.too_much refused told s.0 s.1.0 s.1.1.0)

pub returns-in-Commit-clause-left : goal.returns-in-Commit-clause-left
returns-in-Commit-clause-left g c = on_ok_then c.commit.result (λ h told.
    let s = c.requires.here told in
    committed_left c.args.attempt (g.P.Pages.blocks c.args.pages.now) s.0 (g.P.Pages.budget c.args.pages.now) (g.P.Pages.budget c.commit.new.pages) s.1.0 s.1.1.1 (c.requires.room told) (h told s.0 s.1.0 s.1.1.0)) c.commit.ensures.staged

pub returns-in-Confirm-clause-left : goal.returns-in-Confirm-clause-left
returns-in-Confirm-clause-left g c = on_ok_then c.confirm.result (λ h told. confirmed_left (g.P.Pages.budget c.args.pages.now) (g.P.Pages.budget c.confirm.new.pages) (c.requires.room told) c.confirm.ensures.staged) c.confirm.ensures.went_on

pub returns-in-Remove-clause-left : goal.returns-in-Remove-clause-left
returns-in-Remove-clause-left g c = on_ok_then c.remove.result (λ h told.
    let s = c.requires.here told in
    removed_left c.args.attempt (g.P.Pages.blocks c.args.pages.now) s.0 (g.P.Pages.budget c.args.pages.now) (g.P.Pages.budget c.remove.new.pages) s.1.0 s.1.1.1 (c.requires.room told) (h told s.0 s.1.0 s.1.1.0)) c.remove.ensures.staged
