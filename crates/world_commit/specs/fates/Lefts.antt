-- What a target's turn leaves in its middle: once all that it changes is changed, and its messages are sent.
use Rattle.std.specs.Prelude.{ℕ, ◌≡◌, List, [], Option, Bool}
use Rattle.std.proofs.Common.{inl}
use Rattle.base_types.specs.declared.entry.Verdict.{Verdict}
use Rattle.base_types.specs.declared.epoch.Epoch.{Epoch}
use Rattle.base_types.specs.declared.id.AttemptId.{AttemptId}
use Rattle.base_types.specs.declared.operation.Read.{Read}
use Rattle.model_laws.specs.Members.{Has}
use Rattle.base_messages.specs.declared.message.Message.TheVariants as message
use Rattle.dtx_base.specs.Leading.{attempts_of}
use Rattle.world_commit.specs.attempts.Counting.{has-taken}
use Rattle.world_commit.specs.attempts.History.{History}
use Rattle.world_commit.specs.attempts.Turning.{at_work}
use Rattle.world_commit.specs.fates.AnswerTurns as answer
use Rattle.world_commit.specs.fates.Facts.{Ongoing}
use Rattle.world_commit.specs.fates.FetchTurns.{AtFetch, TurnAnswers, TurnLeft, fetch-ends, fetch-step}
use Rattle.world_commit.specs.fates.IdleTurns.{AtIdle, idle-ends, idle-step}
use Rattle.world_commit.specs.fates.MarkTurns as mark
use Rattle.world_commit.specs.fates.VerdictTurns as verdict
use Rattle.world_commit.specs.fates.Working.{work-begins}
use Rattle.world_base.specs.declared.request.FetchRequest.{FetchRequest}
use Rattle.world_base.specs.declared.world.World.{World}
use Rattle.world_base.specs.Acks.{MarkedNext, to_confirm}
use Rattle.world_base.specs.Events.{Rules, TargetHearsRightly, TargetIdles, kept, target_after, target_plan}
use Rattle.world_base.specs.Idle.{IdleNext}
use Rattle.world_base.specs.Marks.{MarkNext}
use Rattle.world_base.specs.PathLaws.{path-keeps}
use Rattle.world_base.specs.Reads.{Asked, FetchNext}
use Rattle.world_base.specs.RightTurns.{HearsRightly}
use Rattle.world_base.specs.Roles.{is_in_doubt}
use Rattle.world_base.specs.TargetTurns.{fetch_request}
use Rattle.world_base.specs.Verdicts as verdicts

module _ (r : Rules) (h : History) (w v : World) (k : Ongoing r h w) (g : TargetHearsRightly r w v) where
  flies : Has g.l w.messages
  flies = has-taken w.messages g.l g.rest g.takes

  pub turn-begins : Ongoing r h (at_work w g.t (target_after g.s (kept g.s) g.s.memory) [])
  turn-begins = work-begins r h w g.t g.s g.here k

  pub fetch-left : (x : AttemptId) (op group : ℕ) (ep first : Option Epoch) (tracker : Epoch) (read : Read) (snapshot : Bool) → g.l.message ≡ message.Fetch x op group ep first tracker read snapshot → HearsRightly (target_plan r g.t) g.s.opening g.s.memory g.reading g.l.from (message.Fetch x op group ep first tracker read snapshot) (kept g.s) g.new (g.memory, g.did) → TurnLeft r h w g.t g.s g.here g.runs [] g.new (g.memory, g.did)
  fetch-left x op group ep first tracker read snapshot is turn =
      fetch-ends r h w g.t g.s g.here g.runs g.s.memory g.reading q g.l.from [] turn.last g.new (g.memory, g.did) turn.ends
      (path-keeps (FetchNext (target_plan r g.t) g.s.memory g.reading q) (AtFetch r h w g.t g.s g.here g.runs g.s.memory []) (fetch-step r h w g.t g.s g.here g.runs g.s.memory g.reading q []) Asked (kept g.s) turn.reached.did turn.last g.new turn.reached.path turn-begins)
    where
      q : FetchRequest
      q = fetch_request x op group ep first tracker read snapshot

  pub mark-answers : (inc : ℕ) (marks : List (AttemptId × Bool)) → g.l.message ≡ message.Mark inc marks → HearsRightly (target_plan r g.t) g.s.opening g.s.memory g.reading g.l.from (message.Mark inc marks) (kept g.s) g.new (g.memory, g.did) → TurnAnswers r h w g.t g.s g.here g.runs g.l.from (message.Marked inc (attempts_of marks)) g.new (g.memory, g.did)
  mark-answers inc marks is turn =
      mark.mark-ends r h w g.t g.s g.here g.runs g.s.memory g.l flies g.to_it inc marks is turn.last g.new (g.memory, g.did) turn.ends
      (path-keeps (MarkNext (is_in_doubt g.t)) (mark.AtMark r h w g.t g.s g.here g.runs g.s.memory g.l flies g.to_it marks) (mark.mark-step r h w g.t g.s g.here g.runs g.s.memory g.l flies g.to_it inc marks is) marks (kept g.s) turn.reached.did turn.last g.new turn.reached.path
      (record { on = turn-begins; left_of = λ x c i. i; done = λ x i. inl i }))

  pub marked-left : (inc : ℕ) (ids : List AttemptId) → g.l.message ≡ message.Marked inc ids → HearsRightly (target_plan r g.t) g.s.opening g.s.memory g.reading g.l.from (message.Marked inc ids) (kept g.s) g.new (g.memory, g.did) → TurnLeft r h w g.t g.s g.here g.runs [] g.new (g.memory, g.did)
  marked-left inc ids is turn =
      answer.marked-ends r h w g.t g.s g.here g.runs g.s.memory g.l flies g.to_it inc ids turn.last g.new (g.memory, g.did) turn.ends
      (path-keeps (MarkedNext (target_plan r g.t) g.s.memory g.l.from.number) (answer.AtMarked r h w g.t g.s g.here g.runs g.s.memory g.l flies g.to_it ids) (answer.marked-step r h w g.t g.s g.here g.runs g.s.memory g.l flies g.to_it inc ids is)
      (to_confirm inc ids (kept g.s).durable) (kept g.s) turn.reached.did turn.last g.new turn.reached.path (answer.marked-begins r h w g.t g.s g.here g.runs g.s.memory g.l flies g.to_it inc ids (kept g.s) turn-begins))

  pub query-answers : (x : AttemptId) (ask : Option AttemptId) → g.l.message ≡ message.Query x ask → HearsRightly (target_plan r g.t) g.s.opening g.s.memory g.reading g.l.from (message.Query x ask) (kept g.s) g.new (g.memory, g.did) → TurnAnswers r h w g.t g.s g.here g.runs g.l.from (verdicts.verdict_message (target_plan r g.t) g.s.memory x ask g.new.durable) g.new (g.memory, g.did)
  query-answers x ask is turn =
      answer.query-ends r h w g.t g.s g.here g.runs g.s.memory g.l flies g.to_it x ask is turn.last g.new (g.memory, g.did) turn.ends
      (path-keeps verdicts.QueryNext (λ stage i. Ongoing r h (answer.V r h w g.t g.s g.here g.runs g.s.memory g.l flies g.to_it i)) (answer.query-step r h w g.t g.s g.here g.runs g.s.memory g.l flies g.to_it) verdicts.IsAsked (kept g.s) turn.reached.did turn.last g.new
      turn.reached.path turn-begins)

  pub verdict-left : (x : AttemptId) (ask : Option AttemptId) (inc : ℕ) (c : Verdict) → g.l.message ≡ message.Verdict x ask inc c → HearsRightly (target_plan r g.t) g.s.opening g.s.memory g.reading g.l.from (message.Verdict x ask inc c) (kept g.s) g.new (g.memory, g.did) → TurnLeft r h w g.t g.s g.here g.runs [] g.new (g.memory, g.did)
  verdict-left x ask inc c is turn =
      verdict.verdict-ends r h w g.t g.s g.here g.runs g.s.memory g.l flies g.to_it x ask inc c is turn.last g.new (g.memory, g.did) turn.ends
      (path-keeps (verdicts.VerdictNext (is_in_doubt g.t) (target_plan r g.t) g.s.memory g.reading x ask c) (verdict.AtVerdict r h w g.t g.s g.here g.runs g.s.memory g.l flies g.to_it) (verdict.verdict-step r h w g.t g.s g.here g.runs g.s.memory g.l flies g.to_it x ask inc c is g.reading)
      verdicts.Heard (kept g.s) turn.reached.did turn.last g.new turn.reached.path turn-begins)

-- idle work
pub idle-left : (r : Rules) (h : History) (w v : World) → Ongoing r h w → (g : TargetIdles r w v) → TurnLeft r h w g.t g.s g.here g.runs [] g.new (g.memory, g.did)
idle-left r h w v k g =
    idle-ends r h w g.t g.s g.here g.runs g.s.memory g.settling g.turn.last g.new (g.memory, g.did) g.turn.ends
    (path-keeps IdleNext (AtIdle r h w g.t g.s g.here g.runs g.s.memory) (idle-step r h w g.t g.s g.here g.runs g.s.memory) g.s.memory.leader.decided (kept g.s) g.turn.reached.did g.turn.last g.new g.turn.reached.path (work-begins r h w g.t g.s g.here k))
