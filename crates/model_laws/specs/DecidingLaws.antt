-- A target's versions stand for decided transactions while one more is stored, and once it is decided or aborted.
use Rattle.std.specs.Prelude.{map, filter}
use Rattle.daos_model.specs.BoolLaws.{clash}
use Rattle.daos_model.specs.Durables.{version_key}
use Rattle.daos_model.specs.Ordered.{puts}
use Rattle.daos_model.specs.Versions.{done_by, is_not_pending, versions_of}
use Rattle.model_laws.specs.Dated.{is_about}
use Rattle.model_laws.specs.Deciding.{AbortsKeepMatches, HoldersKeepMatches, OthersKeepMatches, SettlesKeepMatches, StoresKeepMatches}
use Rattle.model_laws.specs.MatchLaws.{aborts-keep, commits-keep, decisions-keep, prepares-keep, same-keep}

pub stores-keep : StoresKeepMatches
stores-keep own e ws p vs opening all mark off m = same-keep own p p vs (puts version_key (versions_of e ws) vs) opening all mark (prepares-keep e ws p vs off) m

pub aborting-keeps : AbortsKeepMatches
aborting-keeps own a p vs opening all mark off m = same-keep own p p vs (filter (is_not_pending a) vs) opening all mark (aborts-keep a p vs off) m

pub settling-keeps : SettlesKeepMatches
settling-keeps own a p vs opening all mark same m = same-keep own p p vs (map (done_by a) vs) opening all mark (commits-keep a p p vs same) m

pub holders-keep : HoldersKeepMatches
holders-keep own a d p q vs opening all more mark f g le counts held added m =
    decisions-keep own d p q vs opening all more mark f g le (record { kept = counts.kept; new = λ v i now before. held.of_it v i (counts.new v i now before) before; held = held.there }) added m

pub others-keep : OthersKeepMatches
others-keep own a d p q vs opening all more mark f g le counts apart added m =
    decisions-keep own d p q vs opening all more mark f g le
    (record {
      kept = counts.kept;
      new = λ v i now before. clash (p v) (apart.none v i (counts.new v i now before)) before;
      held = λ c x is i about. clash (is_about c x) about (apart.apart c x is i);
    })
    added m
