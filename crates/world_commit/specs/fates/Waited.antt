-- Where a client waits for each attempt with a row, what is told in an event is sent.
use Rattle.std.specs.Prelude.{ℕ, ◌≡◌, ◌⊎◌, List, [], ◌++◌, slice_get, Option, Some, refl}
use Rattle.std.proofs.Common.{append-nil, sym, ◌∙◌, ap, subst, inl, inr}
use Rattle.base_types.specs.declared.epoch.Epoch.{Epoch}
use Rattle.base_types.specs.declared.id.AttemptId.{AttemptId}
use Rattle.base_types.specs.declared.outcome.Outcome.{Outcome}
use Rattle.base_types.specs.declared.outcome.Outcome.TheVariants.{Committed}
use Rattle.model_laws.specs.Members.{Has, has-left}
use Rattle.base_messages.specs.declared.actor.ActorId.{ActorId}
use Rattle.base_messages.specs.declared.message.Message.{Message}
use Rattle.base_messages.specs.declared.message.Message.TheVariants as message
use Rattle.base_messages.specs.declared.message.Post.{Post}
use Rattle.dtx_base.specs.declared.leading.Undecided.{Undecided}
use Rattle.dtx_base.specs.Leading.{undecided_attempt}
use Rattle.dtx_base.specs.Rows.{row_of}
use Rattle.world_commit.specs.attempts.History.{GrowsBy, History, Tells, target_posts}
use Rattle.world_commit.specs.fates.AckTurns as ack
use Rattle.world_commit.specs.fates.Answers.{ack-answers}
use Rattle.world_commit.specs.fates.Facts.{Attempts}
use Rattle.world_commit.specs.fates.Lefts.{turn-begins}
use Rattle.world_commit.specs.fates.Told.{silent_at, told_posts}
use Rattle.world_base.specs.declared.target.TargetState.{TargetState}
use Rattle.world_base.specs.declared.world.World.{World}
use Rattle.world_base.specs.Acks.{AckNext, Heard}
use Rattle.world_base.specs.Events.{ByClient, ByTarget, RightEvent, Rules, TargetHearsRightly, ToClient, ToTarget, kept, target_after, target_plan}
use Rattle.world_base.specs.PathLaws.{path-keeps}
use Rattle.world_base.specs.RightTurns.{HearsRightly}

-- for each attempt with a row a client waits
abbrev pub RowsWait : World → Type 0
RowsWait w = (t : ℕ) (s : TargetState) (x : AttemptId) (u : Undecided) → slice_get w.targets t ≡ Some s → row_of undecided_attempt x s.memory.leader.undecided ≡ Some u → (c : ActorId) × (u.client ≡ Some c)

-- what becomes of attempts by what is sent becomes of them by what is told
abbrev pub WaitedAreTold : Type 0
WaitedAreTold = (r : Rules) (h later : History) (w v : World) → Attempts r h w → RowsWait w → (event : RightEvent r w v) → GrowsBy h (target_posts event) later → GrowsBy h (told_posts event) later

hearing-sent : (r : Rules) (h : History) (w v : World) → Attempts r h w → RowsWait w → (g : TargetHearsRightly r w v) → (x : AttemptId) (own : Option Epoch) (how : Outcome)
    → Tells (g.did.posts ++ silent_at g.s (target_after g.s g.new g.memory) g.l.message) x own how → Tells g.did.posts x own how
hearing-sent r h w v k waits g x own how tells = by g.l.message refl g.turn tells
  where
    by : (m : Message) → g.l.message ≡ m → HearsRightly (target_plan r g.t) g.s.opening g.s.memory g.reading g.l.from m (kept g.s) g.new (g.memory, g.did) → Tells (g.did.posts ++ silent_at g.s (target_after g.s g.new g.memory) m) x own how
        → Tells g.did.posts x own how
    by (message.Ack y inc refusal) is turn told =
        ack.ack-waited r h h w v g.t g.s g.here g.runs g.s.memory g.l g.rest g.takes g.to_it y inc refusal (ack-answers r g.l y inc refusal is) turn.last g.new (g.memory, g.did) turn.ends
        (path-keeps (AckNext (target_plan r g.t) g.s.memory g.l.from.number y inc refusal) (ack.AtAck r h h w v g.t g.s g.here g.runs g.s.memory g.l g.rest g.takes g.to_it y inc refusal (ack-answers r g.l y inc refusal is))
        (ack.ack-step r h h w v g.t g.s g.here g.runs g.s.memory g.l g.rest g.takes g.to_it y inc refusal (ack-answers r g.l y inc refusal is)) Heard (kept g.s) turn.reached.did turn.last g.new turn.reached.path (refl, turn-begins r h w v k.on g))
        (λ u row. waits g.t g.s y u g.here row) x own how told
    by (message.StatusIs y inc end) is turn told = absurd turn
    by m is turn told = subst (λ ps. Tells ps x own how) (append-nil g.did.posts) told

told-sent : (r : Rules) (h : History) (w v : World) → Attempts r h w → RowsWait w → (event : RightEvent r w v) (x : AttemptId) (own : Option Epoch) (how : Outcome) → Tells (told_posts event) x own how → Tells (target_posts event) x own how
told-sent r h w v k waits (ByClient g) x own how tells = tells
told-sent r h w v k waits (ToClient g) x own how tells = tells
told-sent r h w v k waits (ToTarget g) x own how tells = hearing-sent r h w v k waits g x own how tells
told-sent r h w v k waits (ByTarget g) x own how tells = tells

sent-told : (r : Rules) (w v : World) (event : RightEvent r w v) (x : AttemptId) (own : Option Epoch) (how : Outcome) → Tells (target_posts event) x own how → Tells (told_posts event) x own how
sent-told r w v (ByClient g) x own how tells = tells
sent-told r w v (ToClient g) x own how tells = tells
sent-told r w v (ToTarget g) x own how tells = record { to = tells.to; sent = has-left g.did.posts (silent_at g.s (target_after g.s g.new g.memory) g.l.message) (record { to = tells.to; message = message.Ended x own how }) tells.sent }
sent-told r w v (ByTarget g) x own how tells = tells

pub waited-told : WaitedAreTold
waited-told r h later w v k waits event g = record {
  decided = g.decided;
  committed = λ x e tells. g.committed x e (told-sent r h w v k waits event x (Some e) Committed tells);
  only_decided = λ x e d. elim (g.only_decided x e d) [ inl before ↦ inl before | inr tells ↦ inr (sent-told r w v event x (Some e) Committed tells) ];
  aborted = g.aborted;
  refused = λ x tells. g.refused x (record { own = tells.own; how = tells.how; told = told-sent r h w v k waits event x tells.own tells.how tells.told; refused = tells.refused });
  only_aborted = λ x a. elim (g.only_aborted x a) [ inl before ↦ inl before | inr tells ↦ inr (record { own = tells.own; how = tells.how; told = sent-told r w v event x tells.own tells.how tells.told; refused = tells.refused }) ];
}
