-- What follows from turns in which something is made: that has form, goes with what was asked, and carries nothing of reads; and no line
-- tells of an attempt.
use Rattle.std.proofs.Common.{ℕ, ◌≡◌, refl, sym, ◌∙◌, ap, subst, arith, inl, inr, Bool, true, false, List, [], ◌∷◌, ◌++◌, map, Option, None, Some, Result, Ok, Err}
use Rattle.std.specs.Prelude.{IfOk, IfErr}
use Rattle.base_types.specs.declared.epoch.Epoch.{Epoch}
use Rattle.base_types.specs.declared.id.AttemptId.{AttemptId}
use Rattle.base_types.specs.declared.id.ContId.{ContId}
use Rattle.base_types.specs.declared.key.Key.{Key}
use Rattle.base_types.specs.declared.outcome.Outcome.{Outcome}
use Rattle.base_types.specs.declared.report.Line.{Line}
use Rattle.base_types.specs.declared.report.Line.TheVariants as line
use Rattle.base_messages.specs.declared.actor.ActorId.{ActorId}
use Rattle.base_messages.specs.declared.message.Message.{Message}
use Rattle.base_messages.specs.declared.message.Message.TheVariants as message
use Rattle.base_messages.specs.declared.message.Post.{Post}
use Rattle.daos_model.specs.Attempts.{tries}
use Rattle.daos_model.specs.Laws.{tries-append}
use Rattle.dtx_base.specs.declared.member.MemberMemory.{MemberMemory}
use Rattle.model_laws.specs.Members.{has-cases}
use Rattle.world_base.specs.declared.did.Did.{Did}
use Rattle.world_base.specs.declared.target.Collection.{Collection}
use Rattle.world_base.specs.declared.target.TargetPlan.{TargetPlan}
use Rattle.world_base.specs.Snapshots.{follows, freeze_to, prune_to, to_actor}
use Rattle.target_parts.specs.world_contents.posts.Forms.{ClientsCollect, TargetPosts}
use Rattle.target_parts.specs.world_contents.posts.Posting.{map-posted, one-posted, to-client, to-other}
use Rattle.world_ended.specs.Asking.{AreRefusals, Asked, IsEnd, MakesWith, PostsGoWith}
use Rattle.world_ended.specs.PostLaws as ended
use Rattle.world_ended.specs.world_letters.kinds.Loads.{AnswersOnce}
use Rattle.world_ended.specs.world_letters.kinds.PostLaws.{CarryNone, each-carries}
use Rattle.world_ended.specs.world_letters.kinds.TurnLaws.{is_of_read, unread-answers, unread-none}
use Rattle.target_parts.specs.declared.halt.Halt.{Halt}
use Rattle.target_parts.specs.declared.halt.Halt.TheVariants as halt
use Rattle.target_parts.specs.declared.stop.TargetStop.{TargetStop}
use Rattle.target_parts.specs.Stops.{lines_told, stop_memory, stop_of}
use Rattle.target_snaps.specs.declared.freezing.Froze.{Froze}
use Rattle.target_snaps.specs.declared.freezing.Froze.TheVariants as froze
use Rattle.target_snaps.specs.declared.request.ContRequest.{ContRequest}
use Rattle.target_snaps.specs.FreezeTurns.{freeze_lines}
use Rattle.target_snaps.specs.Following.{RequestFollows, TellsNoAttempt}

-- ---- lines

pub none-tried : tries [] ≡ []
unfolding tries
none-tried = refl

pub freeze-tried : (p : TargetPlan) (c : ContId) (s : Epoch) (f : Froze) → tries (freeze_lines p c s f) ≡ []
unfolding tries
freeze-tried p c s froze.Anew = refl
freeze-tried p c s f = refl

snapshot-line : (name : Key) (c : ContId) (s : Epoch) → tries (line.Snapshot name c s ∷ []) ≡ []
unfolding tries
snapshot-line name c s = refl

pub snapshot-tried : (ls : List Line) (name : Key) (c : ContId) (s : Epoch) → tries ls ≡ [] → tries (ls ++ line.Snapshot name c s ∷ []) ≡ []
snapshot-tried ls name c s none = tries-append ls (line.Snapshot name c s ∷ []) ∙ ap (λ ts. ts ++ tries (line.Snapshot name c s ∷ [])) none ∙ snapshot-line name c s

pub created-tried : (name : Key) (c : ContId) (s : Epoch) → tries (line.Snapshot name c s ∷ []) ≡ []
created-tried name c s = snapshot-line name c s

pub aggregate-tried : (number t : ℕ) (c : ContId) (upto : Epoch) → tries (line.Aggregate number t c upto ∷ []) ≡ []
unfolding tries
aggregate-tried number t c upto = refl

-- ---- what a turn tells

pub told-stop : (why : Halt) (issued : Option (AttemptId × Epoch)) (result : Result Did TargetStop) → result ≡ Err (stop_of why issued) → TellsNoAttempt result
told-stop halt.Stopped issued result is = ap (λ r. tries (lines_told r)) is ∙ none-tried
told-stop halt.Memory issued result is = ap (λ r. tries (lines_told r)) is ∙ none-tried

pub told-memory : (result : Result Did TargetStop) → result ≡ Err stop_memory → TellsNoAttempt result
told-memory result is = ap (λ r. tries (lines_told r)) is ∙ none-tried

pub told-lines : (lines : List Line) (result : Result Did TargetStop) → tries lines ≡ [] → IfOk result (λ did. did.lines ≡ lines) → IfErr result (λ e. e ≡ stop_memory) → TellsNoAttempt result
told-lines lines (Ok did) none ok wanting = ap tries ok ∙ none
told-lines lines (Err e) none ok wanting = told-memory (Err e) (ap Err wanting)

pub told-follows : (posts : List Post) (lines : List Line) (issued : Option (AttemptId × Epoch)) (result : Result Did TargetStop) → tries lines ≡ [] → IfOk result (λ did. did ≡ follows posts lines issued) → IfErr result (λ e. e ≡ stop_memory) → TellsNoAttempt result
told-follows posts lines issued (Ok did) none ok wanting = ap (λ (x : Did). tries x.lines) ok ∙ none
told-follows posts lines issued (Err e) none ok wanting = told-memory (Err e) (ap Err wanting)

-- what holds of the posts that follow holds of those of a turn that ends with them
pub holds-then : (P : List Post → Type 0) (posts : List Post) (lines : List Line) (issued : Option (AttemptId × Epoch)) (result : Result Did TargetStop) → P posts → IfOk result (λ did. did ≡ follows posts lines issued) → IfOk result (λ did. P did.posts)
holds-then P posts lines issued (Ok did) p is = subst (λ (d : Did). P d.posts) (sym is) p
holds-then P posts lines issued (Err e) p is = is

-- and what follows from that
pub holds-on : (P Q : List Post → Type 0) (result : Result Did TargetStop) → ((posts : List Post) → P posts → Q posts) → IfOk result (λ did. P did.posts) → IfOk result (λ did. Q did.posts)
holds-on P Q (Ok did) f p = f did.posts p
holds-on P Q (Err e) f p = p

-- ---- one message

pub one-carries : (to : ActorId) (m : Message) → is_of_read m ≡ false → CarryNone (to_actor to m)
one-carries to m other x r = let none = unread-none m other x r in omega (arith, none)

-- a client is told how its attempt ended
pub end-follows : (targets : ℕ) (q : ContRequest) (ep : Option Epoch) (how : Outcome) (old : List Collection) → ((b : Bool) → b ≡ true → IsEnd b how) → RequestFollows targets q old old (to_actor q.from (message.Ended q.attempt ep how))
end-follows targets q ep how old ends = record {
  form = λ client waits. (one-posted targets (record { to = q.from; message = message.Ended q.attempt ep how }) (to-client targets q.from (message.Ended q.attempt ep how) client refl), waits);
  goes = λ asked k makes. (ended.one-posted asked (record { to = q.from; message = message.Ended q.attempt ep how }) (ends (asked q.attempt) k), makes);
  reads = one-carries q.from (message.Ended q.attempt ep how) refl;
}

-- target 0 is told that what it asked for is held, or why it isn't
pub answer-form : (targets : ℕ) (q : ContRequest) (refusal : Option Outcome) → q.from.client ≡ false → TargetPosts targets (to_actor q.from (message.Held q.attempt refusal))
answer-form targets q refusal target = one-posted targets (record { to = q.from; message = message.Held q.attempt refusal }) (to-other targets q.from (message.Held q.attempt refusal) target tt)

pub answer-goes : (asked : Asked) (q : ContRequest) (refusal : Option Outcome) → AreRefusals refusal → PostsGoWith asked (to_actor q.from (message.Held q.attempt refusal))
answer-goes asked q refusal refuses = ended.one-posted asked (record { to = q.from; message = message.Held q.attempt refusal }) refuses

-- ---- the others are asked

-- where one collection more is made, for that client
collect-form : (q : ContRequest) (n : Collection) (old : List Collection) → n.client ≡ q.from → q.from.client ≡ true → ClientsCollect old → ClientsCollect (old ++ n ∷ [])
collect-form q n old its client waits m i = elim (has-cases old (n ∷ []) m i) as (λ w. m.client.client ≡ true) [
  | inl j ↦ waits m j
  | inr (inl same) ↦ ap (λ (z : Collection). z.client.client) same ∙ ap (λ (a : ActorId). a.client) its ∙ client
  | inr (inr none) ↦ absurd none
]

collect-asked : (q : ContRequest) (n : Collection) (old : List Collection) (asked : Asked) → n.attempt ≡ q.attempt → asked q.attempt ≡ true → MakesWith asked old → MakesWith asked (old ++ n ∷ [])
collect-asked q n old asked its k makes m i = elim (has-cases old (n ∷ []) m i) as (λ w. asked m.attempt ≡ true) [
  | inl j ↦ makes m j
  | inr (inl same) ↦ ap (λ (z : Collection). asked z.attempt) same ∙ ap asked its ∙ k
  | inr (inr none) ↦ absurd none
]

pub freezes-follow : (targets : ℕ) (q : ContRequest) (n : Collection) (s : Epoch) (ts : List ℕ) (old : List Collection) → n.client ≡ q.from → n.attempt ≡ q.attempt → RequestFollows targets q old (old ++ n ∷ []) (map (freeze_to q.attempt q.cont s) ts)
freezes-follow targets q n s ts old client attempt = record {
  form = λ is waits. (map-posted targets (freeze_to q.attempt q.cont s) ts (λ t i. to-other targets (record { client = false; number = t }) (message.Freeze q.attempt q.cont s) refl tt), collect-form q n old client is waits);
  goes = λ asked k makes. (ended.map-posted asked (freeze_to q.attempt q.cont s) ts (λ t. tt), collect-asked q n old asked attempt k makes);
  reads = each-carries (freeze_to q.attempt q.cont s) ts (λ t x r. unread-none (message.Freeze q.attempt q.cont s) refl x r);
}

pub prunes-follow : (targets : ℕ) (q : ContRequest) (n : Collection) (g : Epoch) (ts : List ℕ) (old : List Collection) → n.client ≡ q.from → n.attempt ≡ q.attempt → RequestFollows targets q old (old ++ n ∷ []) (map (prune_to q.attempt q.cont g) ts)
prunes-follow targets q n g ts old client attempt = record {
  form = λ is waits. (map-posted targets (prune_to q.attempt q.cont g) ts (λ t i. to-other targets (record { client = false; number = t }) (message.Prune q.attempt q.cont None (Some g)) refl tt), collect-form q n old client is waits);
  goes = λ asked k makes. (ended.map-posted asked (prune_to q.attempt q.cont g) ts (λ t. k), collect-asked q n old asked attempt k makes);
  reads = each-carries (prune_to q.attempt q.cont g) ts (λ t x r. unread-none (message.Prune q.attempt q.cont None (Some g)) refl x r);
}

-- ---- reads

pub none-answered : (result : Result Did TargetStop) (before after : MemberMemory) → after ≡ before → IfOk result (λ did. CarryNone did.posts) → IfOk result (λ did. AnswersOnce [] before after did.posts)
none-answered (Ok did) before after same none = unread-answers [] before after did.posts (ap (λ (m : MemberMemory). m.parked) same) none
none-answered (Err e) before after same none = none
