use Rattle.std.proofs.Common.{◌∙◌, ap, sym}
use Rattle.vos_levels.proofs.Calls.{if_ok_then}
use Rattle.vos_path.proofs.Written.{holds_extent, holds_log, holds_single}
use Rattle.vos_prune.specs.Writers.{values_writer}
use Rattle.vos_prune.proofs.find.values_writer.Goals as goal

pub log_writer-requires-clause-log : goal.log_writer-requires-clause-log
log_writer-requires-clause-log g c told =
    let s = c.requires.here told in
    (s.0.0, (holds_log (g.P.Pages.blocks c.args.pages.now) s.0 s.1.0, (ap (λ r. r.log) s.1.1.0, tt)))

pub returns-in-Punch-clause-found : goal.returns-in-Punch-clause-found
returns-in-Punch-clause-found g c = if_ok_then c.log_writer.result (λ w h told x held at.
    h told x.0 (holds_log (g.P.Pages.blocks c.args.pages.now) x held) (ap (λ r. r.log) at) ∙ sym (ap (λ z. values_writer z c.args.at x) c.in-Punch.is)) c.log_writer.ensures.found

pub single_writer-requires-clause-here : goal.single_writer-requires-clause-here
single_writer-requires-clause-here g c told =
    let s = c.requires.here told in
    (s.0.1.0, (holds_single (g.P.Pages.blocks c.args.pages.now) s.0 s.1.0, (ap (λ r. r.singles) s.1.1.0, tt)))

pub returns-in-Single-clause-found : goal.returns-in-Single-clause-found
returns-in-Single-clause-found g c = if_ok_then c.single_writer.result (λ w h told x held at.
    h told x.1.0 (holds_single (g.P.Pages.blocks c.args.pages.now) x held) (ap (λ r. r.singles) at) ∙ sym (ap (λ z. values_writer z c.args.at x) c.in-Single.is)) c.single_writer.ensures.found

pub extent_writer-requires-clause-here : goal.extent_writer-requires-clause-here
extent_writer-requires-clause-here g c told =
    let s = c.requires.here told in
    (s.0.1.1, (holds_extent (g.P.Pages.blocks c.args.pages.now) s.0 s.1.0, (ap (λ r. r.extents) s.1.1.0, tt)))

pub returns-in-Extent-clause-found : goal.returns-in-Extent-clause-found
returns-in-Extent-clause-found g c = if_ok_then c.extent_writer.result (λ w h told x held at.
    h told x.1.1 (holds_extent (g.P.Pages.blocks c.args.pages.now) x held) (ap (λ r. r.extents) at) ∙ sym (ap (λ z. values_writer z c.args.at x) c.in-Extent.is)) c.extent_writer.ensures.found
