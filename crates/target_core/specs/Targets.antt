-- What a target is seen as, what holds of each, and what a turn of it comes to.
use Rattle.std.specs.Prelude.{ℕ, ◌≡◌, ◌≤◌, Bool, true, false, List, Option, None, Some, is_some, Result, Ok, Err}
use Rattle.std.specs.Option.{ForSome}
use Rattle.base_types.specs.declared.epoch.Epoch.{Epoch}
use Rattle.base_types.specs.declared.id.AttemptId.{AttemptId}
use Rattle.base_types.specs.declared.outcome.FloorWhy.{FloorWhy}
use Rattle.base_types.specs.declared.report.Line.{Line}
use Rattle.base_types.specs.Operations.{read_path}
use Rattle.base_messages.specs.declared.actor.ActorId.{ActorId}
use Rattle.base_messages.specs.declared.message.Message.{Message, more_of-Message}
use Rattle.base_messages.specs.declared.message.Message.TheVariants.{Ack, Ask, Commit, Fetch, Freeze, Held, Mark, Marked, Prepare, Prune, Query, Reset', Snap, Status, StatusIs, Verdict}
use Rattle.daos_model.specs.declared.durable.Durable.{Durable}
use Rattle.daos_model.specs.Changes.{reopened}
use Rattle.daos_model.specs.Durables.{is_enlisted}
use Rattle.snap_core.specs.Snaps.{SnapOf}
use Rattle.vos_store.specs.Calls.{State}
use Rattle.world_base.specs.declared.did.Did.{Did}
use Rattle.world_base.specs.declared.target.TargetMemory.{TargetMemory}
use Rattle.world_base.specs.declared.target.TargetPlan.{TargetPlan}
use Rattle.world_base.specs.Acks as ack
use Rattle.world_base.specs.Changes.{Kept}
use Rattle.world_base.specs.Commits as commit
use Rattle.world_base.specs.CutTurns.{Cutting, HearingIsCut, IdleWorkIsCut, listed_issue}
use Rattle.world_base.specs.Further.{HearsFurther, KnowsNoneDown}
use Rattle.world_base.specs.Idle.{IdleNext}
use Rattle.world_base.specs.Marks.{MarkNext}
use Rattle.world_base.specs.Prepares as prepare
use Rattle.world_base.specs.Reads as read
use Rattle.world_base.specs.Roles.{is_prepared, told_by}
use Rattle.world_base.specs.Snapshots as snap
use Rattle.world_base.specs.Statuses.{Looking, NoChange, opening_memory, status_refusal}
use Rattle.world_base.specs.TargetTurns.{Hears, IdlesWhole, commit_request, fetch_request, prepare_request}
use Rattle.world_base.specs.Verdicts as verdict
pub use Rattle.target_parts.specs.world_contents.posts.Forms.{HasForm, HasFormAfterStops, HasFormOfMaking, IsInForm, is_collecting, is_of_client}
use Rattle.target_parts.specs.declared.stop.TargetStop.{TargetStop}
use Rattle.target_parts.specs.declared.stop.TargetStop.TheVariants as stop
use Rattle.target_parts.specs.Parts.{Now, Partway, kept, left_by}
use Rattle.target_parts.specs.declared.knows.Knows.{Knows}
pub use Rattle.target_parts.specs.Standing.{IsPlaced, IsTarget}
use Rattle.target_resync.specs.Openings.{opening_did, opening_floor}
use Rattle.target_snaps.specs.HeldTurns.{AreFrozenHere, IsSnapsOf}
use Rattle.target_writes.specs.Checks.{CanCommit}
use Rattle.target_writes.specs.Turns.{CanPrepareHere}

-- ---- a target

-- what it is made for, its store and its clock, what it knows, and whether that is of what its store keeps: not where memory was wanting
-- when it opened again
pub record TargetOf (S C : Type 0) : Type 0 where
  pub plan : TargetPlan
  pub store : S
  pub clock : C
  pub memory : TargetMemory
  pub opened : Bool

-- It is one of at most 64, for which its store was made, and what it makes with the others is its own. Where it has opened, what it knows
-- fits what it keeps, and unless its store is stopped, each snapshot that it is making is frozen here.
pub record StandsAs (t : TargetPlan) (h : State) (old : Option Durable) (k : Knows) (s : SnapOf) (opened : Bool) : Type 0 where
  pub placed : IsPlaced t h
  pub few : t.targets ≤ 64
  pub makes : IsSnapsOf t s
  pub fits : opened ≡ true → IsTarget t h old k
  pub frozen : opened ≡ true → h.stopped ≡ false → ForSome old (AreFrozenHere s)

-- It opened, by the restart of a number, with this of what its store may have kept, and knows this.
pub record OpensAs (t : TargetPlan) (n : ℕ) (may : Durable → Type 0) (new : Option Durable) (k : State) (memory : TargetMemory) (did : Did) : Type 0 where
  pub found : Durable
  pub may_be : may found
  pub kept_is : new ≡ Some (reopened found)
  pub opening : k.opening ≡ opening_floor n found
  pub memory_is : memory ≡ opening_memory t (reopened found)
  pub did_is : did ≡ opening_did t n found

-- ---- what a target is asked

-- A message can be heard with what is kept: the container that is read, frozen or aggregated is here; and writes can be stored.
abbrev pub CanHear : TargetPlan → Message → Durable → Type 0
CanHear t (Fetch x op group ep first tracker r snapshot) d = is_enlisted d (read_path r).cont ≡ true
CanHear t (Commit x ep first tracker ws) d = CanCommit t x ep ws d
CanHear t (Prepare e first ws inc) d = CanPrepareHere e ws d
CanHear t (Snap x c name tracker) d = is_enlisted d c ≡ true
CanHear t (Freeze x c s) d = is_enlisted d c ≡ true
CanHear t (Prune x c tracker e) d = is_enlisted d c ≡ true
CanHear t m d = Unit {0}

-- a message that comes of stops
abbrev pub is_after_stops : Message → Bool
is_after_stops (Ask x) = true
is_after_stops (Status x inc) = true
is_after_stops (StatusIs x inc how) = true
is_after_stops (Reset' by down place asked) = true
is_after_stops m = false

-- a message by which something is made with other targets: a client asks for it, target 0 asks another one, that answers, or gave none
abbrev pub is_making : Message → Bool
is_making (Snap x c name tracker) = true
is_making (Freeze x c s) = true
is_making (Held x refusal) = true
is_making (Prune x c tracker e) = true
is_making (Reset' by down place (more_of-Message asked rest)) = is_collecting asked
is_making m = false

-- another target answers that it holds a snapshot, or has aggregated
abbrev pub is_held : Message → Bool
is_held (Held x refusal) = true
is_held m = false

-- what a client's command asks: to read, or to commit
abbrev pub is_of_command : Message → Bool
is_of_command (Fetch x op group ep first tracker r snapshot) = true
is_of_command (Commit x ep first tracker ws) = true
is_of_command m = false

-- a message for which no epoch is issued
abbrev pub has_epoch : Message → Bool
has_epoch (Fetch x op group ep first tracker r snapshot) = is_some ep
has_epoch (Commit x ep first tracker ws) = is_some ep
has_epoch (Snap x c name tracker) = false
has_epoch (Prune x c (Some tracker) None) = false
has_epoch m = true

-- ---- what a turn comes to

-- what a turn leaves that the store's stop cut, where the next opening finds this
abbrev pub cutting : Kept → Option (AttemptId × Epoch) → List Line → Cutting
cutting x issued lines = record { left = x; issued = listed_issue issued; lines = lines }

-- A turn in which a message is heard was cut short, as the world knows it, whatever the next opening finds. The number is the one drawn for
-- an aggregation.
abbrev pub HearsCut : ℕ → TargetPlan → Epoch × FloorWhy → TargetMemory → ℕ → ActorId → Message → Kept → (Kept → Type 0) → Option (AttemptId × Epoch) → List Line → Type 0
HearsCut number t opening m reading from message old finds issued lines =
    (x : Kept) → finds x → HearingIsCut is_prepared number t opening m reading from message old (cutting x issued lines)

-- A message is heard as where nothing stops, and then no member of a Commit is known to be down; or it is heard as what comes of stops, or
-- as what makes something with other targets.
pub data Heard (number : ℕ) (t : TargetPlan) (opening : Epoch × FloorWhy) (m : TargetMemory) (reading : ℕ) (from : ActorId) (q : Message) (old new : Kept) (left : TargetMemory × Did) : Type 0 where
  Plainly : KnowsNoneDown t m q → Hears t opening m reading from q old new left → Heard number t opening m reading from q old new left
  Further : HearsFurther number t opening m reading from q old new left → Heard number t opening m reading from q old new left

-- some of the changes of a turn in which a message is heard were made
abbrev pub HearsPartway : ℕ → TargetPlan → Epoch × FloorWhy → TargetMemory → ℕ → ActorId → Message → Kept → Kept → Type 0
HearsPartway number t opening m reading from (Fetch x op group ep first tracker r snapshot) old mid = Partway (read.FetchNext t m reading (fetch_request x op group ep first tracker r snapshot)) read.Asked old mid
HearsPartway number t opening m reading from (Commit x ep first tracker ws) old mid = Partway (commit.CommitNext t opening m reading (commit_request x ep first tracker ws)) commit.Asked old mid
HearsPartway number t opening m reading from (Prepare e first ws inc) old mid = Partway (prepare.PrepareNext t opening m (prepare_request e first ws inc)) prepare.Heard old mid
HearsPartway number t opening m reading from (Ack x inc refusal) old mid = Partway (ack.AckNext t m from.number x inc refusal) ack.Heard old mid
HearsPartway number t opening m reading from (Mark inc marks) old mid = Partway (MarkNext is_prepared) marks old mid
HearsPartway number t opening m reading from (Marked inc ids) old mid = Partway (ack.MarkedNext t m from.number) (ack.to_confirm inc ids old.durable) old mid
HearsPartway number t opening m reading from (Query x ask) old mid = Partway verdict.QueryNext verdict.IsAsked old mid
HearsPartway number t opening m reading from (Verdict x ask inc v) old mid = Partway (verdict.VerdictNext is_prepared t (told_by v x m) reading x ask v) verdict.Heard old mid
HearsPartway number t opening m reading from (Ask x) old mid = Partway NoChange Looking old mid
HearsPartway number t opening m reading from (Status x inc) old mid = Partway NoChange Looking old mid
HearsPartway number t opening m reading from (StatusIs x inc how) old mid = Partway (ack.AckNext t m from.number x inc (status_refusal x how)) ack.Heard old mid
HearsPartway number t opening m reading from (Snap x c name tracker) old mid = Partway (snap.FreezeNext t m reading tracker None c (snap.is_held_by_all t 0)) snap.Asked old mid
HearsPartway number t opening m reading from (Freeze x c s) old mid = Partway (snap.FreezeNext t m reading s (Some s) c false) snap.Asked old mid
HearsPartway number t opening m reading from (Held x refusal) old mid = Partway (snap.HeldNext t m from.number x refusal) snap.Heard old mid
HearsPartway number t opening m reading from (Prune x c (Some tracker) None) old mid = Partway (snap.PruneNext t m reading tracker None c number) snap.Asked old mid
HearsPartway number t opening m reading from (Prune x c None (Some g)) old mid = Partway (snap.PruneNext t m reading g (Some g) c number) snap.Asked old mid
HearsPartway number t opening m reading from (Reset' by down place asked) old mid = Partway NoChange Looking old mid
HearsPartway number t opening m reading from other old mid = ⊥

-- what is kept at a place of a turn where it might have been cut so
pub record IsKeptByCut (WasCut : Cutting → Type 0) (mid : Kept) : Type 0 where
  pub cut : Cutting
  pub left : cut.left ≡ mid
  pub was : WasCut cut

-- Memory was wanting in a turn: some of its changes were made, each whole, and what is kept is what a stop there leaves.
pub record WantsMemory (Partly : Kept → Type 0) (WasCut : Cutting → Type 0) (mid : Kept) : Type 0 where
  pub partly : Partly mid
  pub stops : IsKeptByCut WasCut mid

abbrev pub HearsNoFurther : ℕ → TargetPlan → Epoch × FloorWhy → TargetMemory → ℕ → ActorId → Message → Kept → Kept → Type 0
HearsNoFurther number t opening m reading from q old mid = WantsMemory (HearsPartway number t opening m reading from q old) (HearingIsCut is_prepared number t opening m reading from q old) mid

-- A turn in which a target hears a message at a reading of its clock, with the number drawn for an aggregation: it is whole, and these are what
-- the target then keeps and knows and what follows; or it was cut short; or memory was wanting, and some changes were made, each whole.
abbrev pub HearsOrStops : ℕ → TargetPlan → TargetMemory → ℕ → ActorId → Message → Durable → State → Option Durable → State → (Durable → Type 0) → TargetMemory → Result Did TargetStop → Type 0
HearsOrStops number t m reading from message d h new k finds left (Ok did) = Now new k (λ l. Heard number t h.opening m reading from message (kept d h) l (left, did))
HearsOrStops number t m reading from message d h new k finds left (Err (stop.Store issued lines)) = HearsCut number t h.opening m reading from message (kept d h) (left_by k finds) issued lines
HearsOrStops number t m reading from message d h new k finds left (Err (stop.Foreign at byte)) = ⊥
HearsOrStops number t m reading from message d h new k finds left (Err stop.Memory) = Now new k (HearsNoFurther number t h.opening m reading from message (kept d h))

-- idle work was cut short, whatever the next opening finds
abbrev pub IdlesCut : TargetPlan → TargetMemory → Kept → (Kept → Type 0) → Option (AttemptId × Epoch) → List Line → Type 0
IdlesCut t m old finds issued lines = (x : Kept) → finds x → IdleWorkIsCut t.me m old (cutting x issued lines)

-- Idle work: it is whole, and these are what the target then keeps and knows and what follows; or it was cut short; or memory was
-- wanting, and some changes were made, each whole.
abbrev pub IdlesOrStops : Bool → TargetPlan → TargetMemory → Durable → State → Option Durable → State → (Durable → Type 0) → TargetMemory → Result Did TargetStop → Type 0
IdlesOrStops settling t m d h new k finds left (Ok did) = Now new k (λ l. IdlesWhole settling t m (kept d h) l (left, did))
IdlesOrStops settling t m d h new k finds left (Err (stop.Store issued lines)) = IdlesCut t m (kept d h) (left_by k finds) issued lines
IdlesOrStops settling t m d h new k finds left (Err (stop.Foreign at byte)) = ⊥
IdlesOrStops settling t m d h new k finds left (Err stop.Memory) = Now new k (WantsMemory (Partway IdleNext m.leader.decided (kept d h)) (IdleWorkIsCut t.me m (kept d h)))
