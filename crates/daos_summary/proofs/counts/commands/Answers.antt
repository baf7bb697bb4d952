use Rattle.std.proofs.Common.{◌+◌, sym, ap, subst, ◌∙◌, drop, ◌∷◌}
use Rattle.std.specs.List.{list_any}
use Rattle.std.specs.HashSet.{hash_set_len, contains}
use Rattle.std.proofs.lemmas.List.{drop_all}
use Rattle.daos_summary.specs.Counts.{commands_of, same_command}
use Rattle.daos_summary.proofs.Seen.{SoFar, start, seen, passed, ended, next_line}
use Rattle.daos_summary.proofs.counts.commands.Goals as goal
use Rattle.daos_summary.proofs.counts.commands.Goals.{in-Some+in_ok-insert, in_default}

pub loop-line-init : goal.loop-line-init
loop-line-init c = start _ _ c.args.lines.now (λ k. ap (list_any (same_command k)) c.new-seen.ensures.empty) c.new-seen.ensures.len

pub loop-line-preserved : goal.loop-line-preserved
loop-line-preserved c =
    let l = c.loop-line in
    let line = c.line-item.result in
    let all = commands_of c.args.lines.now in
    let rest = drop (l.line-index + 1) c.args.lines.now in
    let here : SoFar (λ k. contains same_command l.seen k) (hash_set_len l.seen) (line ∷ rest) all =
    subst (λ ls. SoFar (λ k. contains same_command l.seen k) (hash_set_len l.seen) ls all) (next_line c.args.lines.now l.line-index line c.loop-line-test.true c.line-item.is) l.invariant in
    elim c.match-command_of.branch [
      | in-Some+in_ok-insert w ↦ subst (λ s. SoFar (λ k. contains same_command s k) (hash_set_len s) rest all) (sym w.seen-is)
          (seen (λ k. contains same_command l.seen k) (λ k. contains same_command w.insert.new.self k) _ _ line rest all w.in-Some.command w.in_ok-insert.field-0 (sym w.in-Some.ensures) w.in_ok-insert.ensures.added w.in_ok-insert.ensures.updates.0 w.in_ok-insert.ensures.len here)
      | in_default w ↦ subst (λ s. SoFar (λ k. contains same_command s k) (hash_set_len s) rest all) (sym w.seen-is) (passed _ _ line rest all (sym w.in_default.ensures) here)
    ]

pub returns : goal.returns
returns c =
    let l = c.loop-line in
    c.len.ensures.len
    ∙ ended (λ k. contains same_command l.seen k) (hash_set_len l.seen) (commands_of c.args.lines.now)
    (subst (λ ls. SoFar (λ k. contains same_command l.seen k) (hash_set_len l.seen) ls (commands_of c.args.lines.now)) (drop_all l.line-index c.args.lines.now c.loop-line-test.false) l.invariant)
