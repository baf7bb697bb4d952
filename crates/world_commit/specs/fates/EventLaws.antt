-- Every right event keeps the facts of attempts, but for what is without an answer.
use Rattle.std.specs.Prelude.{◌≡◌, true, [], ◌∷◌, ◌++◌, refl}
use Rattle.std.proofs.Common.{append-nil, sym, ◌∙◌, ap, subst, arith, inl, inr}
use Rattle.std.proofs.Math.ListN.{set}
use Rattle.base_types.specs.declared.epoch.Epoch.{Epoch}
use Rattle.base_types.specs.declared.id.AttemptId.{AttemptId}
use Rattle.model_laws.specs.Members.{Has, has-left}
use Rattle.base_messages.specs.declared.actor.ActorId.{ActorId}
use Rattle.base_messages.specs.declared.message.Message.{Message}
use Rattle.base_messages.specs.declared.message.Message.TheVariants as message
use Rattle.world_commit.specs.attempts.Asked.{IsCommitNew}
use Rattle.world_commit.specs.attempts.Turning.{issue, at_work}
use Rattle.world_commit.specs.attempts.Counting.{has-taken}
use Rattle.world_commit.specs.attempts.Frames.{same-untold}
use Rattle.world_commit.specs.attempts.History.{GrowsBy, History}
use Rattle.world_commit.specs.fates.AckTurns as ack
use Rattle.world_commit.specs.fates.Answers.{ack-answers}
use Rattle.world_commit.specs.fates.Asked.{AskedRight}
use Rattle.world_commit.specs.fates.ClientMoves.{goes-keeps, hears-keeps}
use Rattle.world_commit.specs.fates.CommitTurns as commit
use Rattle.world_commit.specs.fates.Concerns.{is_dull, kind-dull}
use Rattle.world_commit.specs.fates.Facts.{Ongoing}
use Rattle.world_commit.specs.fates.FetchTurns.{TurnAnswers, TurnLeft}
use Rattle.world_commit.specs.fates.Lefts.{fetch-left, idle-left, mark-answers, marked-left, query-answers, verdict-left}
use Rattle.world_commit.specs.fates.Overs.{Over}
use Rattle.world_commit.specs.fates.PrepareTurns as prepare
use Rattle.world_commit.specs.fates.Told.{silent_at, told_posts}
use Rattle.world_commit.specs.fates.Working.{AreMild, attempts-there, idle-over, is_mild, plain-mild, work-begins, work-over}
use Rattle.world_base.specs.declared.world.World.{World}
use Rattle.world_base.specs.Events.{ByClient, ByTarget, RightEvent, Rules, TargetHearsRightly, TargetIdles, ToClient, ToTarget, kept, listed, target_after, target_plan}
use Rattle.world_base.specs.Letters.{asked_after, client, letters_of, target}
use Rattle.world_base.specs.Acks.{AckNext, Heard}
use Rattle.world_base.specs.Commits as commits
use Rattle.world_base.specs.PathLaws.{path-keeps}
use Rattle.world_base.specs.Prepares as prepares
use Rattle.world_base.specs.RightTurns.{HearsRightly}
use Rattle.world_base.specs.TargetTurns.{commit_request, prepare_request}

-- ---- a target hears

module _ (r : Rules) (h later : History) (w v : World) (right : AskedRight r h w) (k : Ongoing r h w) (g : TargetHearsRightly r w v) (grows : GrowsBy h (g.did.posts ++ silent_at g.s (target_after g.s g.new g.memory) g.l.message) later) where
  flies : Has g.l w.messages
  flies = has-taken w.messages g.l g.rest g.takes

  targets : v.targets ≡ set w.targets g.t (target_after g.s g.new g.memory)
  targets = ap (λ u. u.targets) g.after

  messages : v.messages ≡ g.rest ++ letters_of (target g.t) g.did.posts
  messages = ap (λ u. u.messages) g.after

  asked : v.asked ≡ asked_after w.asked (letters_of (target g.t) g.did.posts)
  asked = ap (λ u. u.asked) g.after

  all-issued : v.issued ≡ w.issued ++ listed g.did.issued
  all-issued = ap (λ u. u.issued) g.after

  issued : (x : AttemptId) (e : Epoch) → Has (x, e) w.issued → Has (x, e) v.issued
  issued x e i = subst (Has (issue x e)) (sym all-issued) (has-left w.issued (listed g.did.issued) (issue x e) i)

  begins : Ongoing r h (at_work w g.t (target_after g.s (kept g.s) g.s.memory) [])
  begins = work-begins r h w g.t g.s g.here k

  over : Over w v g.t (target_after g.s g.new g.memory) g.l g.rest (letters_of (target g.t) g.did.posts)
  over = record { takes = g.takes; targets = targets; messages = messages; asked = asked; issued = issued }

  -- where nothing is silent
  grows-by : (m : Message) → g.l.message ≡ m → silent_at g.s (target_after g.s g.new g.memory) m ≡ [] → GrowsBy h g.did.posts later
  grows-by m is none = subst (λ ps. GrowsBy h ps later) (ap (λ q. g.did.posts ++ silent_at g.s (target_after g.s g.new g.memory) q) is ∙ ap (λ ps. g.did.posts ++ ps) none ∙ append-nil g.did.posts) grows

  -- a turn that asks for no attempt, and answers none
  ends : is_dull g.l.message ≡ true → GrowsBy h g.did.posts later → AreMild g.did.posts → Ongoing r h (at_work w g.t (target_after g.s g.new g.memory) g.did.posts) → Ongoing r later v
  ends dull told mild on = work-over r h later w v g.t (target_after g.s g.new g.memory) g.did.posts g.l g.rest g.takes (kind-dull g.l.message dull) told mild targets messages asked issued on

  left-ends : is_dull g.l.message ≡ true → GrowsBy h g.did.posts later → TurnLeft r h w g.t g.s g.here g.runs [] g.new (g.memory, g.did) → Ongoing r later v
  left-ends dull told left = ends dull told (λ q i. plain-mild q.message (left.plain q i)) left.on

  answer-ends : {to : ActorId} {m : Message} → is_mild m ≡ true → is_dull g.l.message ≡ true → GrowsBy h g.did.posts later → TurnAnswers r h w g.t g.s g.here g.runs to m g.new (g.memory, g.did) → Ongoing r later v
  answer-ends {to = to} {m = m} mild dull told left = ends dull told all left.on
    where
      all : AreMild g.did.posts
      all q i = by (subst (Has q) left.sent i)
        where
          by : Has q (record { to = to; message = m } ∷ []) → is_mild q.message ≡ true
          by (inl same) = ap (λ z. is_mild z.message) same ∙ mild
          by (inr none) = absurd none

  by-kind : (m : Message) → g.l.message ≡ m → HearsRightly (target_plan r g.t) g.s.opening g.s.memory g.reading g.l.from m (kept g.s) g.new (g.memory, g.did) → Ongoing r later v
  by-kind (message.Fetch x op group ep first tracker read snapshot) is turn =
      left-ends (ap is_dull is) (grows-by (message.Fetch x op group ep first tracker read snapshot) is refl)
      (fetch-left r h w v k g x op group ep first tracker read snapshot is turn)
  by-kind (message.Commit x ep first tracker ws) is turn =
      commit.commit-ends r h later w v g.t g.s g.here g.runs g.s.memory g.l g.rest g.takes g.to_it x ep first tracker ws is new sender g.s.opening g.reading g.l.from sender turn.last g.new (g.memory, g.did) turn.ends
      (path-keeps (commits.CommitNext (target_plan r g.t) g.s.opening g.s.memory g.reading (commit_request x ep first tracker ws)) (commit.AtCommit r h later w v g.t g.s g.here g.runs g.s.memory g.l g.rest g.takes g.to_it x ep first tracker ws is new sender g.reading)
      (commit.commit-step r h later w v g.t g.s g.here g.runs g.s.memory g.l g.rest g.takes g.to_it x ep first tracker ws is new sender g.s.opening g.reading) commits.Asked (kept g.s) turn.reached.did turn.last g.new turn.reached.path
      (commit.commit-begins r h later w v g.t g.s g.here g.runs g.s.memory g.l g.rest g.takes g.to_it x ep first tracker ws is new sender (kept g.s) refl begins))
      over (grows-by (message.Commit x ep first tracker ws) is refl) all-issued
    where
      sender : g.l.from ≡ client x.client
      sender = right.senders g.l x ep first tracker ws flies is

      new : IsCommitNew r h w g.l.to x ep ws
      new = right.commits g.l x ep first tracker ws flies is
  by-kind (message.Prepare e first ws inc) is turn =
      prepare.prepare-ends r h later w v g.t g.s g.here g.runs g.s.memory g.l g.rest g.takes g.to_it e first ws inc is g.s.opening turn.last g.new (g.memory, g.did) turn.ends
      (path-keeps (prepares.PrepareNext (target_plan r g.t) g.s.opening g.s.memory (prepare_request e first ws inc)) (prepare.AtPrepare r h later w v g.t g.s g.here g.runs g.s.memory g.l g.rest g.takes g.to_it e first ws inc is)
      (prepare.prepare-step r h later w v g.t g.s g.here g.runs g.s.memory g.l g.rest g.takes g.to_it e first ws inc is g.s.opening) prepares.Heard (kept g.s) turn.reached.did turn.last g.new turn.reached.path begins)
      over (grows-by (message.Prepare e first ws inc) is refl)
  by-kind (message.Ack x inc refusal) is turn =
      ack.ack-ends r h later w v g.t g.s g.here g.runs g.s.memory g.l g.rest g.takes g.to_it x inc refusal (ack-answers r g.l x inc refusal is) (right.one_epoch x) turn.last g.new (g.memory, g.did) turn.ends
      (path-keeps (AckNext (target_plan r g.t) g.s.memory g.l.from.number x inc refusal) (ack.AtAck r h later w v g.t g.s g.here g.runs g.s.memory g.l g.rest g.takes g.to_it x inc refusal (ack-answers r g.l x inc refusal is))
      (ack.ack-step r h later w v g.t g.s g.here g.runs g.s.memory g.l g.rest g.takes g.to_it x inc refusal (ack-answers r g.l x inc refusal is)) Heard (kept g.s) turn.reached.did turn.last g.new turn.reached.path (refl, begins))
      over (subst (λ q. GrowsBy h (g.did.posts ++ silent_at g.s (target_after g.s g.new g.memory) q) later) is grows)
  by-kind (message.Mark inc marks) is turn =
      answer-ends refl (ap is_dull is) (grows-by (message.Mark inc marks) is refl)
      (mark-answers r h w v k g inc marks is turn)
  by-kind (message.Marked inc ids) is turn =
      left-ends (ap is_dull is) (grows-by (message.Marked inc ids) is refl)
      (marked-left r h w v k g inc ids is turn)
  by-kind (message.Query x ask) is turn =
      answer-ends refl (ap is_dull is) (grows-by (message.Query x ask) is refl)
      (query-answers r h w v k g x ask is turn)
  by-kind (message.Verdict x ask inc c) is turn =
      left-ends (ap is_dull is) (grows-by (message.Verdict x ask inc c) is refl)
      (verdict-left r h w v k g x ask inc c is turn)
  by-kind m is turn = absurd turn

  hearing-keeps : Ongoing r later v
  hearing-keeps = by-kind g.l.message refl g.turn

-- ---- a target does its idle work

idling-keeps : (r : Rules) (h later : History) (w v : World) → Ongoing r h w → (g : TargetIdles r w v) → GrowsBy h g.did.posts later → Ongoing r later v
idling-keeps r h later w v k g grows =
    idle-over r h later w v g.t (target_after g.s g.new g.memory) g.did.posts grows (λ q i. plain-mild q.message (left.plain q i)) (ap (λ u. u.targets) g.after) (ap (λ u. u.messages) g.after) (ap (λ u. u.asked) g.after)
    (λ x e i. subst (Has (issue x e)) (sym (ap (λ u. u.issued) g.after)) (has-left w.issued (listed g.did.issued) (issue x e) i)) left.on
  where
    left : TurnLeft r h w g.t g.s g.here g.runs [] g.new (g.memory, g.did)
    left = idle-left r h w v k g

-- ---- nothing becomes of any attempt

ongoing-later : (r : Rules) (h later : History) (w : World) → GrowsBy h [] later → Ongoing r h w → Ongoing r later w
ongoing-later r h later w grows k =
    attempts-there r h later w w refl (λ x e i. i) (λ x. same-untold h later [] x grows (λ own how told. told.sent))
    (λ x. record { issued = λ e i. i; talks = λ inc m. refl; tries = λ m. omega arith; prepares = λ m l i is. i; refusals = λ inc l i is. inl i }) (λ l i. inl i) (λ l i. inl i) k

pub ongoing-kept : (r : Rules) (h later : History) (w v : World) → AskedRight r h w → Ongoing r h w → (event : RightEvent r w v) → GrowsBy h (told_posts event) later → Ongoing r later v
ongoing-kept r h later w v right k (ByClient g) grows = goes-keeps r later w v (ongoing-later r h later w grows k) g
ongoing-kept r h later w v right k (ToClient g) grows = hears-keeps r later w v (ongoing-later r h later w grows k) g
ongoing-kept r h later w v right k (ToTarget g) grows = hearing-keeps r h later w v right k g grows
ongoing-kept r h later w v right k (ByTarget g) grows = idling-keeps r h later w v k g grows
