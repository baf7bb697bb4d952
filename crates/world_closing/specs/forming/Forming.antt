-- Which reports their text determines, also where snapshots are made and read, and containers aggregated. The statement.
use Rattle.std.specs.Prelude.{◌≤◌, ◌<◌, ◌^◌, All}
use Rattle.base_types.specs.declared.report.Line.{Line}
use Rattle.base_types.specs.declared.report.Line.TheVariants as line
use Rattle.daos_model.specs.declared.stand.SnapMap.{SnapMap}
use Rattle.daos_model.specs.declared.stand.Stand.{Stand}
use Rattle.daos_model.specs.Opening.{Given}
use Rattle.model_laws.specs.Members.{Has}
use Rattle.report_writer.specs.Forms.{IsReportOf}
use Rattle.script_traits.specs.Keyed.{MapHasKeys, ScriptHasKeys}
use Rattle.world_base.specs.declared.world.World.{World}
use Rattle.world_base.specs.Stops.{WorldRun}
use Rattle.world_upheld.specs.below.Legal.{report_over}
use Rattle.world_closing.specs.Rules.{rules_of}
use Rattle.world_upheld.specs.explained.Explanations.{HoldNoMoreSnapshots}
use Rattle.world_upheld.specs.upheld.Begins.{AreRulesInForm, RunBeginsWith}
use Rattle.world_closing.specs.stands.Stands.{HoldsOpenings}

-- the cells that an opening stands for have keys, and so have those of each map that it keeps
pub record StandHasKeys (b : Stand) : Type 0 where
  pub now : MapHasKeys b.now
  pub snaps : All (λ (k : SnapMap). MapHasKeys k.map) b.snaps

-- Numbers and incarnations as small as their types hold: a run may stop, and aggregate, as often as it likes.
abbrev pub HasSmallCounts : Line → Type 0
HasSmallCounts (line.Stop number target) = number < 2 ^ 32
HasSmallCounts (line.Restart number target incarnation floor) = (number < 2 ^ 32) × (incarnation < 2 ^ 64)
HasSmallCounts (line.Aggregate number target cont upto) = number < 2 ^ 32
HasSmallCounts l = Unit {0}

-- what is asked of a run besides: names and keys of the script are keys, a command has at most 256 attempts, and numbers of lines are small
pub record IsSmallRun (g : Given) (v : World) : Type 0 where
  pub script : ScriptHasKeys g.script
  pub byte : g.job.attempts ≤ 256
  pub counts : (l : Line) → Has l v.lines → HasSmallCounts l

-- and keys of the cells that the opening stands for are keys
pub record IsKeyedRun (g : Given) (v : World) : Type 0 where
  pub small : IsSmallRun g v
  pub opening : StandHasKeys g.opening.stand

-- At each moment of a run of a script in form the text of the report of its lines so far determines that report: targets may stop, open again and
-- be given up, snapshots be made and read, and containers aggregated.
abbrev pub AllRunsReportInForm : Type 0
AllRunsReportInForm =
    (g : Given) (w v : World) → AreRulesInForm (rules_of g) → RunBeginsWith (rules_of g) g.opening w → HoldNoMoreSnapshots g.opening w → HoldsOpenings g.opening w → WorldRun (rules_of g) w v → IsKeyedRun g v
    → IsReportOf g.script (report_over (rules_of g) v)
