-- What crates above name of the laws of runs and of targets, passed on to them.
pub use Rattle.run_laws.specs.ends.Armed.{armed-accounted, armed-first, before-fuse, fuses-serve, fuses-started, fuses-tell, states_of, told-fuse}
pub use Rattle.run_laws.specs.ends.Arming.{AreArmed, AreUnfused, HaveFuses, lines_left}
pub use Rattle.run_laws.specs.ends.Begun.{IsFirstWatch, can-go, first-drawn, first_stage, nothing, run-begins, shows-first}
pub use Rattle.run_laws.specs.ends.Comes.{AreIssuedSince, BreaksOffSo, ClocksGave, AreClocksAt, ComesByClocks, ComesTo, FollowsOrder, HasClock, IsInRealTime, IsKeyed, IsLegal, IsOrdered, IsOutside, IsReportOfLines, IsSoundAgain, MayBeFound, StandsForAttempts, memory_at_first, report_with, AreIssuedThere, HasNoSnapshots, cuts_and_failures_in}
pub use Rattle.run_laws.specs.ends.Ending.{HasEndedSo, comes-by_clocks, comes-to}
pub use Rattle.run_laws.specs.ends.FuseLaws.{next-left}
pub use Rattle.run_laws.specs.ends.Keeping.{all-tell, breaks-off}
pub use Rattle.run_laws.specs.ends.Known.{legal-by-any}
pub use Rattle.run_laws.specs.ends.Lasts.{some-may_be, some_lasts}
pub use Rattle.run_laws.specs.ends.Places.{from-map, one-there, same-lists}
pub use Rattle.run_laws.specs.ends.Starts.{AllTell, AreFirst, BeginsSo, HasStarted, HaveStarted, first_world, given_by, or_empty, state_now, stores_of, target_state}
pub use Rattle.run_laws.specs.reports.Reports.{AreTyped, HasTypedNumbers}
pub use Rattle.run_laws.specs.shows.Accounts.{AreAccounted, AreServed, AtMostRises, IsServed, stop_lines_of}
pub use Rattle.run_laws.specs.shows.Asked.{AllTellInOrder, CameInOrder, TellsInOrder}
pub use Rattle.run_laws.specs.shows.Beginning.{RunBegins}
pub use Rattle.run_laws.specs.shows.CanGo.{CanGo}
pub use Rattle.run_laws.specs.shows.Due.{AllAreDue, IsActor, IsUp, first_targets, is_due_client}
pub use Rattle.run_laws.specs.shows.Ends.{EndsGoOn}
pub use Rattle.run_laws.specs.shows.EndsLaws.{ends-first}
pub use Rattle.run_laws.specs.shows.Going.{AreAlike, AreFindable, AreSteady}
pub use Rattle.run_laws.specs.shows.InTurn.{AllBeginInTurn, TellInTurn}
pub use Rattle.run_laws.specs.shows.InTurnLaws.{all-begin, tells-first}
pub use Rattle.run_laws.specs.shows.Kinds.{AnswersGoOn}
pub use Rattle.run_laws.specs.shows.KindsLaws.{answers-first}
pub use Rattle.run_laws.specs.shows.ListLaws.{length-set, map-get}
pub use Rattle.run_laws.specs.shows.Openings.{HasFuse}
pub use Rattle.run_laws.specs.shows.Serving.{served-by-runs, served-first, served-on, served-same, served-then}
pub use Rattle.run_laws.specs.shows.Shown.{client-due-shown, client-heard-shown, client-hears-few, due-shown, many-clients, named-client, named-target, target-heard-shown, target-hears-few}
pub use Rattle.run_laws.specs.shows.Shows.{Shows, state_of}
pub use Rattle.run_laws.specs.shows.Stages.{StageNow}
pub use Rattle.run_laws.specs.shows.Steps.{ClientTurned, TargetTurned}
pub use Rattle.run_laws.specs.steps.Breaking.{Breaks, broke-after-err, broke-between, broke-between-err, goes-then_breaks-err, target-turn-breaks, target-turn-breaks-err}
pub use Rattle.run_laws.specs.steps.Ended.{AllCanReopen, HasRunWith, can-reopen, has-run, left-accounted, left_of}
pub use Rattle.run_laws.specs.steps.Going.{GoesOn, IsBothWays, IsRun, all-draws-are-run, all-rounds-are-run, draws-are-run, goes-as, goes-none, goes-then, rounds-are-run, turns-are-run}
pub use Rattle.run_laws.specs.steps.Joining.{all-draws-way, all-rounds-way, draws-order-way, had-none-way, had-turn-way, more-draws-way, more-rounds-way, no-draws-way, no-rounds-way, nobody-way, round-way, rounds-order-way}
pub use Rattle.run_laws.specs.steps.Steps.{can-turn, client-turn-goes, target-turn-goes}
pub use Rattle.run_laws.specs.steps.Ways.{Way, all_from_draw, all_rounds, from_draw, in_order, round_of, some_rounds, turn_of, turned}
pub use Rattle.run_laws.specs.turns.Drawn.{AreDrawn}
pub use Rattle.run_laws.specs.turns.Faults.{count-same, fault_by, faults_in_draws, faults_in_turn, once_for}
pub use Rattle.run_laws.specs.turns.Orders.{AndThen, ByDraws, ByRounds, Draws, HasIt, HasNone, InDraws, InOrder, InRounds, InTurn, NoDraw, NoRound, Nobody, OneDraw, OneRound, RoundOf, Rounds}
pub use Rattle.run_laws.specs.turns.Readings.{HasGiven, readings_of}
pub use Rattle.run_laws.specs.turns.Turns.{TurnOf, heard_in}
pub use Rattle.run_laws.specs.target_core.Targets.{TargetOf}
pub use Rattle.run_laws.specs.reports.Closings.{declared_conts, durable_of, durables_of, first_tracker, rules_of}
