-- The form of messages: what clients ask of targets, what targets tell each other, and what clients are told.
use Rattle.std.specs.Prelude.{ℕ, ◌≡◌, ◌<◌, ◌^◌, ◌⊎◌, Bool, true, false, IfSome, All, length, List, Option, Some, None, is_some}
use Rattle.std.proofs.Common.{subst}
use Rattle.base_types.specs.declared.entry.Entry.{Entry}
use Rattle.base_types.specs.declared.epoch.Epoch.{Epoch}
use Rattle.base_types.specs.declared.operation.MinorWrite.{MinorWrite}
use Rattle.base_types.specs.declared.operation.Read.{Read}
use Rattle.base_types.specs.Operations.{write_path}
use Rattle.base_types.specs.Placement.{ClassFits}
use Rattle.model_laws.specs.Members.{Has}
use Rattle.base_messages.specs.declared.actor.ActorId.{ActorId}
use Rattle.base_messages.specs.declared.message.Message.{Message, more_of-Message}
use Rattle.base_messages.specs.declared.message.Message.TheVariants.{Ack, Ask, Commit, Ended, Fetch, Fetched, Freeze, Held, Mark, Marked, Prepare, Prune, Query, Reset', Snap, Status, StatusIs, Tell, Verdict}
use Rattle.base_messages.specs.declared.message.Post.{Post}
use Rattle.daos_model.specs.Forms.{AreWritesInForm, is_read_in_form}
use Rattle.world_commit.specs.dtx_base.declared.leading.LeaderMemory.{LeaderMemory}
use Rattle.world_commit.specs.dtx_base.declared.leading.Undecided.{Undecided}
use Rattle.world_commit.specs.world_base.declared.letter.Letter.{Letter}
use Rattle.world_commit.specs.world_base.declared.target.Collection.{Collection}
use Rattle.world_commit.specs.world_base.declared.target.TargetMemory.{TargetMemory}
use Rattle.world_commit.specs.world_base.declared.target.TargetPlan.{TargetPlan}
use Rattle.world_commit.specs.world_base.Commits.{own_writes}

-- ---- what a message bears

-- a read has form, and at a snapshot its epoch is known
pub record IsReadAsked (r : Read) (ep : Option Epoch) (snapshot : Bool) : Type 0 where
  pub form : is_read_in_form r ≡ true
  pub known : snapshot ≡ true → is_some ep ≡ true

-- writes that a target can be asked to commit: 1 to 64 in form with rising numbers, some of them its own, of objects whose class
-- fits the targets
pub record AreWrites (t : TargetPlan) (ws : List MinorWrite) : Type 0 where
  pub form : AreWritesInForm ws
  pub some : 0 < length (own_writes t ws)
  pub fit : All (λ w. IfSome (write_path w.write).obj (λ o. ClassFits o.class t.targets)) ws

-- what a target can be asked to prepare, on so many targets: 1 to 64 writes in form, of an attempt that isn't committed and that no
-- member confirmed, whose leader and members are among them
pub record IsPrepareInForm (targets : ℕ) (e : Entry) (ws : List MinorWrite) : Type 0 where
  pub undecided : e.committed ≡ false
  pub unconfirmed : e.confirmed ≡ 0
  pub leader : e.leader < targets
  pub members : e.members < 2 ^ targets
  pub some : 0 < length ws
  pub form : AreWritesInForm ws

-- ---- who sends what

-- what a client asks of a target: to read, to commit, what became of an attempt, to make a snapshot of a container, or to aggregate it
abbrev pub IsAsked : TargetPlan → Message → Type 0
IsAsked t (Fetch x op group ep first tracker r snapshot) = IsReadAsked r ep snapshot
IsAsked t (Commit x ep first tracker ws) = AreWrites t ws
IsAsked t (Ask x) = Unit {0}
IsAsked t (Snap x c name tracker) = Unit {0}
IsAsked t (Prune x c (Some tracker) None) = Unit {0}
IsAsked t m = ⊥

-- what target 0 asks the others for a snapshot, or for an aggregation
abbrev pub IsCollecting : Message → Type 0
IsCollecting (Freeze x c s) = Unit {0}
IsCollecting (Prune x c None (Some g)) = Unit {0}
IsCollecting m = ⊥

-- what targets tell and ask each other, where there are so many
abbrev pub IsBetween : ℕ → Message → Type 0
IsBetween targets (Prepare e first ws inc) = IsPrepareInForm targets e ws
IsBetween targets (Ack x inc refusal) = Unit {0}
IsBetween targets (Mark inc marks) = Unit {0}
IsBetween targets (Marked inc ids) = Unit {0}
IsBetween targets (Query x ask) = Unit {0}
IsBetween targets (Verdict x ask inc v) = Unit {0}
IsBetween targets (Status x inc) = Unit {0}
IsBetween targets (StatusIs x inc how) = Unit {0}
IsBetween targets (Held x refusal) = Unit {0}
IsBetween targets m = IsCollecting m

-- what a client is told where nothing stops: an answer, how its attempt ended, or another's tracker
abbrev pub is_told : Message → Bool
is_told (Fetched x op group ep reply) = true
is_told (Ended x ep how) = true
is_told (Tell tracker) = true
is_told m = false

-- a message that a client sends to a target
abbrev pub is_of_client : Message → Bool
is_of_client (Fetch x op group ep first tracker r snapshot) = true
is_of_client (Commit x ep first tracker ws) = true
is_of_client (Ask x) = true
is_of_client (Snap x c name tracker) = true
is_of_client (Prune x c (Some tracker) None) = true
is_of_client m = false

-- a message that a target hears where nothing stops, and its form, whatever is kept and whoever sent it
abbrev pub HasForm : TargetPlan → Message → Type 0
HasForm t (Fetch x op group ep first tracker r snapshot) = IsReadAsked r ep snapshot
HasForm t (Commit x ep first tracker ws) = AreWrites t ws
HasForm t (Prepare e first ws inc) = IsPrepareInForm t.targets e ws
HasForm t (Ack x inc refusal) = Unit {0}
HasForm t (Mark inc marks) = Unit {0}
HasForm t (Marked inc ids) = Unit {0}
HasForm t (Query x ask) = Unit {0}
HasForm t (Verdict x ask inc v) = Unit {0}
HasForm t m = ⊥

-- what asks for a freeze, or for an aggregation
abbrev pub is_collecting : Message → Bool
is_collecting (Freeze x c s) = true
is_collecting (Prune x c tracker e) = true
is_collecting m = false

-- What else a target hears where targets stop: it is asked what became of an attempt, or what it holds of one; it is told what another one
-- holds; or a message to one of at most 64 targets got no answer, which asked for no snapshot and no aggregation.
abbrev pub HasFormAfterStops : Message → Type 0
HasFormAfterStops (Ask x) = Unit {0}
HasFormAfterStops (Status x inc) = Unit {0}
HasFormAfterStops (StatusIs x inc how) = Unit {0}
HasFormAfterStops (Reset' by down place (more_of-Message asked rest)) = (by < 64) × (is_collecting asked ≡ false)
HasFormAfterStops m = ⊥

-- What else a target hears: a client asks to make a snapshot of a container, or to aggregate it; target 0 asks another one for that; another one
-- answers; or what it asked of one of at most 64 targets got no answer.
abbrev pub HasFormOfMaking : Message → Type 0
HasFormOfMaking (Snap x c name tracker) = Unit {0}
HasFormOfMaking (Prune x c (Some tracker) None) = Unit {0}
HasFormOfMaking (Held x refusal) = Unit {0}
HasFormOfMaking (Reset' by down place (more_of-Message asked rest)) = (by < 64) × IsCollecting asked
HasFormOfMaking m = IsCollecting m

-- a target can be given a message in this form
abbrev pub IsInForm : TargetPlan → Message → Type 0
IsInForm t m = HasForm t m ⊎ HasFormAfterStops m ⊎ HasFormOfMaking m

-- what a client is told where targets may stop: also that what it asked of one got no answer; `plans` is the plan of each target
abbrev pub IsTold : (ℕ → TargetPlan) → Message → Type 0
IsTold plans (Fetched x op group ep reply) = Unit {0}
IsTold plans (Ended x ep how) = Unit {0}
IsTold plans (Tell tracker) = Unit {0}
IsTold plans (Reset' by down place (more_of-Message asked rest)) = IsAsked (plans by) asked
IsTold plans m = ⊥

-- The form of a letter where targets may stop. To a target it is in the form of what that hears, and comes from a client where it is what
-- clients ask, and else from one of at most 64 targets. To a client it is what clients are told.
pub record IsLetter (plans : ℕ → TargetPlan) (l : Letter) : Type 0 where
  pub few : l.from.client ≡ false → l.from.number < 64
  pub asked : l.to.client ≡ false → IsInForm (plans l.to.number) l.message
  pub kind : l.to.client ≡ false → is_of_client l.message ≡ l.from.client
  pub told : l.to.client ≡ true → IsTold plans l.message

-- ---- what is posted

-- what a client posts: it asks targets, and tells clients; `plans` is the plan of each target
pub record IsOfClient (plans : ℕ → TargetPlan) (q : Post) : Type 0 where
  pub asked : q.to.client ≡ false → IsAsked (plans q.to.number) q.message
  pub told : q.to.client ≡ true → is_told q.message ≡ true

abbrev pub ClientPosts : (ℕ → TargetPlan) → List Post → Type 0
ClientPosts plans posts = (q : Post) → Has q posts → IsOfClient plans q

-- what one of so many targets posts: it tells and asks other targets, and tells clients
pub record IsOfTarget (targets : ℕ) (q : Post) : Type 0 where
  pub between : q.to.client ≡ false → IsBetween targets q.message
  pub told : q.to.client ≡ true → is_told q.message ≡ true

abbrev pub TargetPosts : ℕ → List Post → Type 0
TargetPosts targets posts = (q : Post) → Has q posts → IsOfTarget targets q

-- it is clients that wait for the end of undecided attempts
abbrev pub ClientsWait : LeaderMemory → Type 0
ClientsWait m = (u : Undecided) (c : ActorId) → Has u m.undecided → u.client ≡ Some c → c.client ≡ true

-- what follows from a target's turn, where it was clients that waited before: it posts what has form, and clients wait
pub record Follows (targets : ℕ) (m : LeaderMemory) (posts : List Post) : Type 0 where
  pub form : TargetPosts targets posts
  pub waiting : ClientsWait m

abbrev pub PostsInForm : ℕ → LeaderMemory → LeaderMemory → List Post → Type 0
PostsInForm targets old new posts = ClientsWait old → Follows targets new posts

-- ---- what is being made besides

-- it is clients that wait for the snapshots and the aggregations that target 0 makes with the others
abbrev pub ClientsCollect : List Collection → Type 0
ClientsCollect cs = (n : Collection) → Has n cs → n.client.client ≡ true

-- so it is of all that a target remembers
pub record ClientsAwait (m : TargetMemory) : Type 0 where
  pub attempts : ClientsWait m.leader
  pub collections : ClientsCollect m.collecting

-- what follows from any turn of a target, where it was clients that waited before: it posts what has form, and clients wait
pub record TurnFollows (targets : ℕ) (m : TargetMemory) (posts : List Post) : Type 0 where
  pub form : TargetPosts targets posts
  pub waiting : ClientsAwait m

abbrev pub TurnsPostInForm : ℕ → TargetMemory → TargetMemory → List Post → Type 0
TurnsPostInForm targets old new posts = ClientsAwait old → TurnFollows targets new posts

-- so does a turn of a leader, in which nothing is made
pub leaders-post : (targets : ℕ) (old new : TargetMemory) (posts : List Post) → new.collecting ≡ old.collecting → PostsInForm targets old.leader new.leader posts → TurnsPostInForm targets old new posts
leaders-post targets old new posts same k waits =
    let f = k waits.attempts in
    record { form = f.form; waiting = record { attempts = f.waiting; collections = λ n i. waits.collections n (subst (Has n) same i) } }
