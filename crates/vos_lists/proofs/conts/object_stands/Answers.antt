use Rattle.std.proofs.Common.{ap}
use Rattle.vos_levels.proofs.Calls.{if_ok_then}
use Rattle.vos_levels.specs.Levels.{hung}
use Rattle.vos_ilog.specs.Logs.{log_owner}
use Rattle.vos_path.specs.Objects.{dkey_level}
use Rattle.vos_path.proofs.Written.{holds_second}
use Rattle.vos_reads.specs.Ways.{punched_at}
use Rattle.vos_lists.proofs.conts.object_stands.Goals as goal

pub any_dkey-requires : goal.any_dkey-requires
any_dkey-requires g c = record {
  here = λ told.
      let s = c.requires.here told in
      (s.0.1, (holds_second log_owner (hung dkey_level) (g.P.Pages.blocks c.args.pages.now) s.0 s.1.0, (ap (λ r. r.below) s.1.1.0, tt)));
}

pub returns-clause-found : goal.returns-clause-found
returns-clause-found g c = if_ok_then c.any_dkey.result (λ b h told x held at cover.
    h told x.1 (holds_second log_owner (hung dkey_level) (g.P.Pages.blocks c.args.pages.now) x held) (ap (λ r. r.below) at) (punched_at c.args.below x.0) cover) c.any_dkey.ensures.found
