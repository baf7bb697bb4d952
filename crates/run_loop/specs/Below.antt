-- What crates above name of the laws of runs and of targets, passed on to them.
pub use Rattle.run_stage.specs.Below.{AllBeginInTurn, AllCanReopen, AllTell, AllTellInOrder, AnswersGoOn, AreAccounted, AreAlike, AreArmed, AreDrawn, AreFindable, AreFirst, AreIssuedSince, AreServed, AreSteady, AreTyped, AreUnfused, BeginsSo, Breaks, BreaksOffSo, ClocksGave, AreClocksAt, ComesByClocks, CameInOrder, CanGo, ComesTo, EndsGoOn, FollowsOrder, HasClock, HasEndedSo, HasFuse, HasGiven, HasRunWith, HasStarted, HasTypedNumbers, HaveFuses, HaveStarted, IsFirstWatch, IsInRealTime, IsKeyed, IsLegal, IsOrdered, IsOutside, IsReportOfLines, IsServed, IsSoundAgain, MayBeFound, RunBegins, Shows, StageNow, StandsForAttempts, TargetOf, TellInTurn, TellsInOrder, all-tell, answers-first, armed-accounted, armed-first, before-fuse, breaks-off, broke-between, can-go, comes-by_clocks, comes-to, ends-first, first-drawn, first_stage, first_world, from-map, fuses-serve, fuses-started, fuses-tell, given_by, left_of, legal-by-any, length-set, lines_left, map-get, memory_at_first, next-left, nothing, one-there, or_empty, readings_of, report_with, run-begins, same-lists, served-by-runs, served-on, served-same, served-then, shows-first, some-may_be, some_lasts, state_now, state_of, states_of, stores_of, target_state, tells-first, told-fuse, AreIssuedThere, HasNoSnapshots, declared_conts, durable_of, durables_of, first_tracker, rules_of, AtMostRises, cuts_and_failures_in, stop_lines_of}
