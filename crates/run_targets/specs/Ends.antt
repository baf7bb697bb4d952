-- How runs begin and what they come to, for the crates above.
pub use Rattle.run_loop.specs.Below.{AllTell, AreIssuedSince, BeginsSo, AreClocksAt, BreaksOffSo, ClocksGave, ComesByClocks, ComesTo, FollowsOrder, HasClock, HasStarted, HaveStarted, IsInRealTime, IsKeyed, IsLegal, IsOrdered, IsOutside, IsReportOfLines, IsSoundAgain, MayBeFound, StandsForAttempts, first_world, from-map, given_by, legal-by-any, memory_at_first, one-there, or_empty, same-lists, some-may_be, some_lasts, state_now, stores_of, target_state, AreIssuedThere, HasNoSnapshots, declared_conts, durable_of, durables_of, first_tracker, rules_of, AtMostRises, cuts_and_failures_in, stop_lines_of}
