-- A Reset tells of a stop where its question was lost at a target that stopped, and so does what is sent at it.
use Rattle.std.specs.Prelude.{ℕ, ◌≡◌, ◌==◌, ◌++◌, Bool, true, false, ◌&&◌, List, [], ◌∷◌, filter, Option, Some, None, refl, if◌then◌else◌}
use Rattle.std.proofs.Common.{sym, ◌∙◌, ap, subst, inl, inr}
use Rattle.base_types.specs.declared.entry.Entry.{Entry}
use Rattle.base_types.specs.declared.epoch.Epoch.{Epoch}
use Rattle.base_types.specs.declared.id.AttemptId.{AttemptId}
use Rattle.base_types.specs.declared.outcome.FloorWhy.{FloorWhy}
use Rattle.base_types.specs.declared.outcome.Outcome.TheVariants as outcome
use Rattle.model_laws.specs.Members.{Has, has-cases, has-from_filter}
use Rattle.base_messages.specs.declared.actor.ActorId.{ActorId}
use Rattle.base_messages.specs.declared.message.Message.{Message, more_of-Message}
use Rattle.base_messages.specs.declared.message.Message.TheVariants as message
use Rattle.base_messages.specs.declared.message.Post.{Post}
use Rattle.daos_model.specs.Attempts.{tries}
use Rattle.daos_model.specs.BoolLaws.{and_left, and_right}
use Rattle.daos_model.specs.Durables.{same_attempt}
use Rattle.dtx_base.specs.declared.leading.Undecided.{Undecided}
use Rattle.dtx_base.specs.declared.member.Parked.{Parked}
use Rattle.dtx_base.specs.Joining as member
use Rattle.dtx_base.specs.Leading.{LeaderOf, down_told, ended, entry_led, mark_reset, prepare_reset, quietly, reset_of, to_target, undecided_of}
use Rattle.world_base.specs.declared.did.Did.{Did}
use Rattle.world_base.specs.declared.target.Collection.{Collection}
use Rattle.world_base.specs.declared.target.TargetMemory.{TargetMemory}
use Rattle.world_base.specs.declared.target.TargetPlan.{TargetPlan}
use Rattle.world_base.specs.declared.world.World.{World}
use Rattle.world_base.specs.Changes.{Kept}
use Rattle.world_base.specs.Events.{Rules, TargetHearsBy, kept, target_plan}
use Rattle.world_base.specs.Further.{HearsFurther, reset_by}
use Rattle.world_base.specs.Roles.{leader_at, member_at}
use Rattle.world_base.specs.Snapshots as snap
use Rattle.world_causes.specs.losses.Hearing.{TellsAsTold, ends-as, hearing-recalls}
use Rattle.world_causes.specs.losses.Losses.{Losses, is_asked_of, tells_stop}
use Rattle.world_causes.specs.losses.Recalling.{Recalls}
use Rattle.world_causes.specs.outcomes.Untried.{untried-none}

-- no attempt that reads here is this one
abbrev pub NoneReads : AttemptId → List Parked → Type 0
NoneReads a ps = (p : Parked) (x : AttemptId) → Has p ps → member.is_asker x p.ask ≡ true → same_attempt a x ≡ true → ⊥

-- what a Query was about is no attempt that reads here
abbrev pub AsksOfOthers : Message → List Parked → Type 0
AsksOfOthers (message.Query a ask) ps = NoneReads a ps
AsksOfOthers m ps = Unit {0}

-- nor is what a Verdict is about, or a Query that got no answer
abbrev pub WaitForOthers : Message → List Parked → Type 0
WaitForOthers (message.Verdict a ask inc v) ps = NoneReads a ps
WaitForOthers (message.Reset' by down place (more_of-Message q rest)) ps = AsksOfOthers q ps
WaitForOthers m ps = Unit {0}

-- what is sent tells of a stop only where a question of that attempt was lost at a target that stopped
abbrev LostSo : Bool → Message → List Post → Type 0
LostSo down asked posts = (q : Post) (x : AttemptId) → Has q posts → tells_stop x q.message ≡ true → (down ≡ false) × (is_asked_of x asked ≡ true)

none-lost : (down : Bool) (asked : Message) → LostSo down asked []
none-lost down asked q x i is = absurd i

both-lost : (down : Bool) (asked : Message) (ps qs : List Post) → LostSo down asked ps → LostSo down asked qs → LostSo down asked (ps ++ qs)
both-lost down asked ps qs k n q x i is = elim (has-cases ps qs q i) [ inl j ↦ k q x j is | inr j ↦ n q x j is ]

-- a message that tells of none
quiet-lost : (down : Bool) (asked : Message) (p : Post) → ((x : AttemptId) → tells_stop x p.message ≡ false) → LostSo down asked (p ∷ [])
quiet-lost down asked p off q x (inl same) is = let bad : false ≡ true = sym (off x) ∙ ap (λ y. tells_stop x y.message) (sym same) ∙ is in let no : ⊥ = cc in absurd no
quiet-lost down asked p off q x (inr gone) is = absurd gone

pub unknown-quiet : (a x : AttemptId) → (same_attempt a x && false) ≡ false
unknown-quiet a x = by (same_attempt a x)
  where
    by : (b : Bool) → (b && false) ≡ false
    by true = refl
    by false = refl

ended-lost : (down : Bool) (asked : Message) (o : Option ActorId) (a : AttemptId) (e : Epoch) (t : ℕ) → LostSo down asked (ended o a e (outcome.Unknown t))
ended-lost down asked None a e t = none-lost down asked
ended-lost down asked (Some c) a e t = quiet-lost down asked (record { to = c; message = message.Ended a (Some e) (outcome.Unknown t) }) (λ x. unknown-quiet a x)

down-lost : (down : Bool) (asked : Message) (t : ℕ) (a : AttemptId) (o : Option Entry) (u : Option Undecided) (l : LeaderOf) → LostSo down asked (down_told t a o u l).posts
down-lost down asked t a None u l = none-lost down asked
down-lost down asked t a (Some e) None l = none-lost down asked
down-lost down asked t a (Some e) (Some u) l = ended-lost down asked u.client a e.epoch t

prepare-lost : (asked : Message) (t : ℕ) (down : Bool) (a : AttemptId) (inc : ℕ) (l : LeaderOf) → ((x : AttemptId) → same_attempt a x ≡ true → is_asked_of x asked ≡ true) → LostSo down asked (prepare_reset t down a inc l).posts
unfolding prepare_reset
prepare-lost asked t true a inc l own = down-lost true asked t a (entry_led a l) (undecided_of a l) l
prepare-lost asked t false a inc l own = by (inc == l.incarnation)
  where
    status : LostSo false asked (to_target t (message.Status a inc) ∷ [])
    status q x (inl same) is = (refl, own x (ap (λ y. tells_stop x y.message) (sym same) ∙ is))
    status q x (inr gone) is = absurd gone

    by : (b : Bool) → LostSo false asked (if b then record { leader = l; posts = to_target t (message.Status a inc) ∷ [] } else quietly l).posts
    by true = status
    by false = none-lost false asked

mark-lost : (asked : Message) (t : ℕ) (down : Bool) (inc : ℕ) (marks : List (AttemptId × Bool)) (l : LeaderOf) → LostSo down asked (mark_reset t down inc marks l).posts
unfolding mark_reset
mark-lost asked t true inc marks l = none-lost true asked
mark-lost asked t false inc marks l = quiet-lost false asked (to_target t (message.Mark inc marks)) (λ x. refl)

leads-lost : (t : ℕ) (down : Bool) (m : Message) (l : LeaderOf) → LostSo down m (reset_of t down m l).posts
leads-lost t down (message.Prepare e first ws inc) l = prepare-lost (message.Prepare e first ws inc) t down e.attempt inc l (λ x own. own)
leads-lost t down (message.Status a inc) l = prepare-lost (message.Status a inc) t down a inc l (λ x own. own)
leads-lost t down (message.Mark inc marks) l = mark-lost (message.Mark inc marks) t down inc marks l
leads-lost t down m l = none-lost down m

-- ---- Fetches that waited

fetch-lost : (down : Bool) (asked : Message) (a : AttemptId) (m : Message) → ((x : AttemptId) → member.is_asker x m ≡ true → same_attempt a x ≡ true → ⊥) → LostSo down asked (member.unresolved_told a m)
fetch-lost down asked a (message.Fetch y op group ep first tracker r snapshot) off q x (inl same) is =
    let both : (same_attempt y x && same_attempt a x) ≡ true = ap (λ p. tells_stop x p.message) (sym same) ∙ is in
    absurd (off x (and_left (same_attempt y x) (same_attempt a x) both) (and_right (same_attempt y x) (same_attempt a x) both))
fetch-lost down asked a (message.Fetch y op group ep first tracker r snapshot) off q x (inr gone) is = absurd gone
fetch-lost down asked a m off q x i is = absurd i

freed-lost : (down : Bool) (asked : Message) (a : AttemptId) (ps : List Parked) → ((p : Parked) (x : AttemptId) → Has p ps → member.is_asker x p.ask ≡ true → same_attempt a x ≡ true → ⊥) → LostSo down asked (member.all_unresolved_told a ps)
freed-lost down asked a [] off = none-lost down asked
freed-lost down asked a (p ∷ ps) off =
    both-lost down asked (member.unresolved_told a p.ask) (member.all_unresolved_told a ps) (fetch-lost down asked a p.ask (λ x. off p x (inl refl))) (freed-lost down asked a ps (λ p2 x i. off p2 x (inr i)))

query-lost : (down : Bool) (asked : Message) (a : AttemptId) (ask : Option AttemptId) (s : member.MemberOf) → NoneReads a s.memory.parked → LostSo down asked (member.query_reset down a ask s).freed.posts
unfolding member.unresolved
query-lost down asked a (Some x) s others = freed-lost down asked a (filter (member.is_waiting a x) s.memory.parked) (λ p y i asks own. others p y (has-from_filter (member.is_waiting a x) s.memory.parked p i).0 asks own)
query-lost down asked a None s others = none-lost down asked

joins-lost : (down : Bool) (m : Message) (s : member.MemberOf) → AsksOfOthers m s.memory.parked → LostSo down m (member.reset_heard down m s).freed.posts
joins-lost down (message.Query a ask) s others = query-lost down (message.Query a ask) a ask s others
joins-lost down m s others = none-lost down m

-- ---- all of it

collected-lost : (by : ℕ) (down : Bool) (asked : Message) (x : AttemptId) (o : Option Collection) (m : TargetMemory) → ((y : AttemptId) → tells_stop y asked ≡ false) → LostSo down asked (snap.collection_reset by down asked x o m).1
collected-lost by false asked x o m off = quiet-lost false asked (to_target by asked) off
collected-lost by true asked x None m off = none-lost true asked
collected-lost by true asked x (Some c) m off = quiet-lost true asked (record { to = c.client; message = message.Ended x (Some c.epoch) (outcome.Unknown by) }) (λ y. unknown-quiet x y)

reset-lost : (t : TargetPlan) (m : TargetMemory) (by : ℕ) (down : Bool) (asked : Message) (k : Kept) → AsksOfOthers asked m.member.parked → LostSo down asked (reset_by t m by down asked k).1.posts
reset-lost t m by down (message.Freeze x c s) k others = collected-lost by down (message.Freeze x c s) x (snap.collection_of x m) m (λ y. refl)
reset-lost t m by down (message.Prune x c tracker e) k others = collected-lost by down (message.Prune x c tracker e) x (snap.collection_of x m) m (λ y. refl)
reset-lost t m by down asked k others =
    both-lost down asked (reset_of by down asked (leader_at t m k.durable)).posts (member.reset_heard down asked (member_at t m)).freed.posts (leads-lost by down asked (leader_at t m k.durable)) (joins-lost down asked (member_at t m) others)

reset-lines : (t : TargetPlan) (m : TargetMemory) (by : ℕ) (down : Bool) (asked : Message) (k : Kept) → (reset_by t m by down asked k).1.lines ≡ []
reset-lines t m by down (message.Freeze x c s) k = refl
reset-lines t m by down (message.Prune x c tracker e) k = refl
reset-lines t m by down asked k = refl

-- a question got no answer
abbrev pub is_reset : Message → Bool
is_reset (message.Reset' by down place more) = true
is_reset m = false

reset-tells : (number : ℕ) (p : TargetPlan) (opening : Epoch × FloorWhy) (m : TargetMemory) (reading : ℕ) (from : ActorId) (q : Message) (old new : Kept) (left : TargetMemory × Did) → is_reset q ≡ true → WaitForOthers q m.member.parked → HearsFurther number p opening m reading from q old new left → TellsAsTold q left.1.posts × (left.1.lines ≡ [])
reset-tells number p opening m reading from (message.Reset' by false place (more_of-Message asked rest)) old new left is others h =
    let ends = ends-as (reset_by p m by false asked) h.last new left h.ends in
    (λ q x i is2. (reset-lost p m by false asked new others q x (subst (λ j. Has q j.1.posts) ends i) is2).1, ap (λ j. j.1.lines) ends ∙ reset-lines p m by false asked new)
reset-tells number p opening m reading from (message.Reset' by true place (more_of-Message asked rest)) old new left is others h =
    let ends = ends-as (reset_by p m by true asked) h.last new left h.ends in
    (λ q x i is2. (let bad = (reset-lost p m by true asked new others q x (subst (λ j. Has q j.1.posts) ends i) is2).0 in let no : ⊥ = cc in absurd no), ap (λ j. j.1.lines) ends ∙ reset-lines p m by true asked new)
reset-tells number p opening m reading from q old new left is others h = let no : ⊥ = cc in absurd no

pub reset-recalls : (number : ℕ) (r : Rules) (w v : World) → Losses r w → (g : TargetHearsBy (HearsFurther number) r w v) → is_reset g.l.message ≡ true → WaitForOthers g.l.message g.s.memory.member.parked → Recalls r w v
reset-recalls number r w v k g is others = hearing-recalls (HearsFurther number) r w v k g tells.0 (ap tries tells.1 ∙ untried-none)
  where
    tells : TellsAsTold g.l.message g.did.posts × (g.did.lines ≡ [])
    tells = reset-tells number (target_plan r g.t) g.s.opening g.s.memory g.reading g.l.from g.l.message (kept g.s) g.new (g.memory, g.did) is others g.turn
