-- Fetches are tried again, one after another.
use Rattle.std.specs.Prelude.{ℕ, ◌≡◌, ◌++◌, true, false, List, [], ◌∷◌, Option, Some, None}
use Rattle.base_types.specs.declared.entry.Settle.{Settle}
use Rattle.base_types.specs.declared.entry.Verdict.{Verdict}
use Rattle.base_types.specs.declared.id.AttemptId.{AttemptId}
use Rattle.base_messages.specs.declared.message.Message.{Message}
use Rattle.base_messages.specs.declared.message.Message.TheVariants.{Fetch}
use Rattle.base_messages.specs.declared.message.Post.{Post}
use Rattle.daos_model.specs.declared.durable.Durable.{Durable}
use Rattle.daos_model.specs.Changes.{settled}
use Rattle.dtx_base.specs.declared.member.Freed.{Freed}
use Rattle.dtx_base.specs.Joining.{verdict_heard}
use Rattle.world_base.specs.declared.did.Did.{Did}
use Rattle.world_base.specs.declared.request.FetchRequest.{FetchRequest}
use Rattle.world_base.specs.declared.target.TargetMemory.{TargetMemory}
use Rattle.world_base.specs.declared.target.TargetPlan.{TargetPlan}
use Rattle.world_base.specs.Changes.{Kept}
use Rattle.world_base.specs.Requests.{fetch_message, sends}
use Rattle.world_base.specs.Roles.{is_prepared, joins_on, member_at}
use Rattle.world_base.specs.Verdicts as verdict
use Rattle.world_base.specs.Verdicts.{VerdictEnds, VerdictNext, settles_by}
use Rattle.replay_base.specs.declared.leases.Covered.{Covered}
use Rattle.replay_base.specs.declared.told.Left.{Left}
use Rattle.replay_base.specs.Heard.{CanRead}
use Rattle.replay_base.specs.Onward.{Iff, Onward}
use Rattle.replay_verdict.specs.declared.again.Trial.{Trial}

-- what a Fetch asks
abbrev pub fetch_in : Message → Option FetchRequest
fetch_in (Fetch x op group ep first tracker r snapshot) = Some (record { attempt = x; op = op; group = group; ep = ep; first = first; tracker = tracker; read = r; snapshot = snapshot })
fetch_in m = None

-- how far a turn came once a Fetch that is tried left this, where these are to be sent already
pub record GoesOn (posts : List Post) (l : Left) (next : Trial) : Type 0 where
  pub durable : next.work.durable ≡ l.durable
  pub changed : next.work.changed ≡ l.changed
  pub memory : next.work.memory ≡ l.memory
  pub posts_are : next.posts ≡ posts ++ l.did.posts

-- a Verdict's turn from where these Fetches are left to be tried
abbrev pub TriesFrom : TargetPlan → TargetMemory → ℕ → AttemptId → Option AttemptId → Verdict → List Message → Trial → ℕ → Kept → TargetMemory × Did → Type 0
TriesFrom t m reading a ask v asks x free new left = Onward (VerdictNext is_prepared t m reading a ask v) VerdictEnds (verdict.Freed asks x.work.memory x.posts) x.work.durable x.work.changed free new left

-- it goes on so far, if it does
abbrev pub TriesTo : TargetPlan → TargetMemory → ℕ → AttemptId → Option AttemptId → Verdict → List Message → Option Trial → ℕ → Kept → TargetMemory × Did → Type 0
TriesTo t m reading a ask v asks None free new left = ⊥
TriesTo t m reading a ask v asks (Some x) free new left = TriesFrom t m reading a ask v asks x free new left

-- it goes on from where these are left to where those are
abbrev pub TriesOn : TargetPlan → List Message → Trial → List Message → Option Trial → Type 0
TriesOn t asks x rest o =
    (m : TargetMemory) (reading : ℕ) (a : AttemptId) (ask : Option AttemptId) (v : Verdict) (free : ℕ) (new : Kept) (left : TargetMemory × Did)
    → Iff (TriesFrom t m reading a ask v asks x free new left) (TriesTo t m reading a ask v rest o free new left)

-- what is read can still be
abbrev pub CanStill : TargetPlan → Option Trial → Type 0
CanStill t None = Unit {0}
CanStill t (Some x) = CanRead t x.work.durable x.work.memory.leader.decided

-- a message was tried, whatever is left behind it
pub record TriesAsk (t : TargetPlan) (q : Message) (x : Trial) (o : Option Trial) : Type 0 where
  pub on : (rest : List Message) → TriesOn t (q ∷ rest) x rest o
  pub read : CanStill t o

abbrev pub TriesOne : TargetPlan → FetchRequest → Trial → Option Trial → Type 0
TriesOne t q x o = TriesAsk t (fetch_message q) x o

-- all were
pub record AllTried (t : TargetPlan) (asks : List Message) (x : Trial) (o : Option Trial) : Type 0 where
  pub on : TriesOn t asks x [] o
  pub read : CanStill t o

-- ---- before them

-- what a member knows once it heard a Verdict, and what that sets free
abbrev pub heard_by : TargetPlan → AttemptId → Option AttemptId → Verdict → TargetMemory → TargetMemory × Freed
heard_by t a ask v m = (joins_on (verdict_heard a ask v (member_at t m)).member m, (verdict_heard a ask v (member_at t m)).freed)

abbrev pub settled_so : AttemptId → Option Settle → Durable → Covered
settled_so a None d = record { durable = d; changed = false }
settled_so a (Some step) d = record { durable = settled a step d; changed = true }

-- what is kept once an attempt is settled by a Verdict, where it is still prepared
abbrev pub settled_by : Verdict → AttemptId → Durable → Covered
settled_by v a d = settled_so a (settles_by is_prepared v a d) d

-- ---- and behind them

-- what is left at the end
abbrev pub left_by : Option Trial → Option Left
left_by None = None
left_by (Some x) = Some (record { durable = x.work.durable; changed = x.work.changed; memory = x.work.memory; did = sends x.posts None })
