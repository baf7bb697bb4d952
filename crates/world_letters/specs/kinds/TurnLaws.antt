-- Turns of targets of which more of no read goes about behind them than before.
use Rattle.std.specs.Prelude.{ℕ, ◌≡◌, ◌≤◌, ◌+◌, ◌++◌, Bool, true, false, IfOk, List, [], ◌∷◌, Option, Result, Ok, Err, refl}
use Rattle.std.proofs.Common.{sym, ◌∙◌, ap, subst, arith}
use Rattle.base_types.specs.declared.epoch.Epoch.{Epoch}
use Rattle.base_types.specs.declared.id.AttemptId.{AttemptId}
use Rattle.base_types.specs.declared.operation.Read.{Read}
use Rattle.base_messages.specs.declared.actor.ActorId.{ActorId}
use Rattle.base_messages.specs.declared.message.Message.{Message}
use Rattle.base_messages.specs.declared.message.Message.TheVariants.{Fetch, Fetched}
use Rattle.base_messages.specs.declared.message.Post.{Post}
use Rattle.world_base.specs.dtx_base.declared.leading.LeaderMemory.{LeaderMemory}
use Rattle.world_base.specs.dtx_base.declared.member.Freed.{Freed}
use Rattle.world_base.specs.dtx_base.declared.member.MemberMemory.{MemberMemory}
use Rattle.world_base.specs.dtx_base.Joining.{MemberOf, member_step, reset_heard}
use Rattle.world_base.specs.dtx_base.Leading.{LeaderStep}
use Rattle.world_base.specs.declared.did.Did.{Did}
use Rattle.world_base.specs.Requests.{says}
use Rattle.world_letters.specs.kinds.Loads.{AnswersOnce, load, parked_load, post_load, total}
use Rattle.world_letters.specs.kinds.LoadLaws.{total-append}
use Rattle.world_letters.specs.kinds.PostLaws.{CarryNone, FreesOnce, resets-free}

-- a message that asks a read, or answers one
abbrev pub is_of_read : Message → Bool
is_of_read (Fetch x op group e first tracker r snapshot) = true
is_of_read (Fetched x op group e b) = true
is_of_read m = false

-- any other carries nothing
pub unread-none : (m : Message) → is_of_read m ≡ false → (x : AttemptId) (r : Read) → load x r m ≡ 0
unfolding load
unread-none (Fetch y op group e first tracker s snapshot) other x r = let no : ⊥ = cc in absurd no
unread-none (Fetched y op group e b) other x r = let no : ⊥ = cc in absurd no
unread-none m other x r = refl

-- ---- turns

-- posts that carry nothing, where the same Fetches wait
pub unread-answers : (given : List Message) (before after : MemberMemory) (posts : List Post) → after.parked ≡ before.parked → CarryNone posts → AnswersOnce given before after posts
unread-answers given before after posts same none x r =
    let nothing = none x r in
    let kept : total (parked_load x r) after.parked ≡ total (parked_load x r) before.parked = ap (total (parked_load x r)) same in
    omega (arith, nothing, kept)

pub turn-carries : {E : Type 0} (result : Result Did E) (given : List Message) (before after : MemberMemory) → after.parked ≡ before.parked → IfOk result (λ did. CarryNone did.posts) → IfOk result (λ did. AnswersOnce given before after did.posts)
turn-carries (Ok did) given before after same none = unread-answers given before after did.posts same none
turn-carries (Err e) given before after same none = none

-- a turn that goes on where the same Fetches wait
pub turn-on : {E : Type 0} (result : Result Did E) (given : List Message) (before mid after : MemberMemory) → mid.parked ≡ before.parked → IfOk result (λ did. AnswersOnce given mid after did.posts) → IfOk result (λ did. AnswersOnce given before after did.posts)
turn-on (Ok did) given before mid after same k = λ x r.
    let rest = k x r in
    let kept : total (parked_load x r) mid.parked ≡ total (parked_load x r) before.parked = ap (total (parked_load x r)) same in
    omega (arith, rest, kept)
turn-on (Err e) given before mid after same k = k

-- what carries more than nothing may be heard
pub turn-heard : {E : Type 0} (result : Result Did E) (m : Message) (before after : MemberMemory) → IfOk result (λ did. AnswersOnce [] before after did.posts) → IfOk result (λ did. AnswersOnce (m ∷ []) before after did.posts)
turn-heard (Ok did) m before after k = λ x r. let rest = k x r in omega (arith, rest)
turn-heard (Err e) m before after k = k

-- one message is told that carries nothing
pub says-none : {E : Type 0} (result : Result Did E) (to : ActorId) (m : Message) (issued : Option (AttemptId × Epoch)) → is_of_read m ≡ false → IfOk result (λ did. did ≡ says to m issued) → IfOk result (λ did. CarryNone did.posts)
says-none (Ok did) to m issued other is = subst (λ (d : Did). CarryNone d.posts) (sym is) (λ x r. let none = unread-none m other x r in omega (arith, none))
says-none (Err e) to m issued other is = is

-- what a leader's step sends
pub sent-by : (s : LeaderStep) (m : LeaderMemory) (posts sent : List Post) → CarryNone s.posts → ◌≡◌ {A = LeaderMemory × List Post} (m, posts) (s.leader.memory, s.posts) → sent ≡ posts → CarryNone sent
sent-by s m posts sent none is says = subst CarryNone (sym (says ∙ ap (λ (p : LeaderMemory × List Post). p.1) is)) none

-- what a Reset frees is answered, behind what else is sent
pub reset-answers : (down : Bool) (m : Message) (old new : MemberOf) (freed : Freed) (first posts sent : List Post) → member_step new freed ≡ reset_heard down m old → CarryNone first → posts ≡ first ++ freed.posts → sent ≡ posts → AnswersOnce [] old.memory new.memory sent
reset-answers down m old new freed first posts sent is none all says x r =
    let free : FreesOnce old.memory new.memory freed.posts freed.again x r = subst (λ s. FreesOnce old.memory s.member.memory s.freed.posts s.freed.again x r) (sym is) (resets-free down m old x r) in
    let once = free.once in
    let nothing = none x r in
    let both : total (post_load x r) sent ≡ total (post_load x r) first + total (post_load x r) freed.posts = ap (total (post_load x r)) (says ∙ all) ∙ total-append (post_load x r) first freed.posts in
    omega (arith, once, nothing, both)
