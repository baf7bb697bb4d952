use Rattle.std.proofs.Common.{◌∙◌, ap, sym}
use Rattle.vos_levels.specs.Levels.{hung}
use Rattle.vos_levels.proofs.Calls.{if_ok_then}
use Rattle.vos_ilog.specs.Logs.{log_owner}
use Rattle.vos_path.specs.Objects.{akey_level}
use Rattle.vos_path.proofs.Written.{holds_first, holds_second}
use Rattle.vos_prune.specs.Writers.{dkey_writer}
use Rattle.vos_prune.proofs.find.dkey_writer.Goals as goal

pub akeys_writer-requires-clause-here : goal.akeys_writer-requires-clause-here
akeys_writer-requires-clause-here g c told =
    let s = c.requires.here told in
    (s.0.1, (holds_second log_owner (hung akey_level) (g.P.Pages.blocks c.args.pages.now) s.0 s.1.0, (ap (λ r. r.below) s.1.1.0, tt)))

pub log_writer-requires-clause-log : goal.log_writer-requires-clause-log
log_writer-requires-clause-log g c told =
    let s = c.requires.here told in
    (s.0.0, (holds_first log_owner (hung akey_level) (g.P.Pages.blocks c.args.pages.now) s.0 s.1.0, (ap (λ r. r.log) s.1.1.0, tt)))

pub returns-in-Some-clause-found : goal.returns-in-Some-clause-found
returns-in-Some-clause-found g c = if_ok_then c.akeys_writer.result (λ w h told x held at.
    h told x.1 (holds_second log_owner (hung akey_level) (g.P.Pages.blocks c.args.pages.now) x held) (ap (λ r. r.below) at) ∙ sym (ap (λ z. dkey_writer c.args.kind c.args.at z x) c.in-Some.is)) c.akeys_writer.ensures.found

pub returns-in-None-clause-found : goal.returns-in-None-clause-found
returns-in-None-clause-found g c = if_ok_then c.log_writer.result (λ w h told x held at.
    h told x.0 (holds_first log_owner (hung akey_level) (g.P.Pages.blocks c.args.pages.now) x held) (ap (λ r. r.log) at) ∙ sym (ap (λ z. dkey_writer c.args.kind c.args.at z x) c.in-None.is)) c.log_writer.ensures.found
