-- Turns of targets that end as committed only what was asked.
use Rattle.std.specs.Prelude.{ℕ, ◌≡◌, ◌++◌, IfOk, List, [], ◌∷◌, Option, Result, Ok, Err, refl}
use Rattle.std.proofs.Common.{sym, ◌∙◌, ap, subst}
use Rattle.base_types.specs.declared.epoch.Epoch.{Epoch}
use Rattle.base_types.specs.declared.id.AttemptId.{AttemptId}
use Rattle.base_messages.specs.declared.actor.ActorId.{ActorId}
use Rattle.base_messages.specs.declared.message.Message.{Message}
use Rattle.base_messages.specs.declared.message.Post.{Post}
use Rattle.world_letters.specs.dtx_base.declared.leading.LeaderMemory.{LeaderMemory}
use Rattle.world_letters.specs.dtx_base.declared.leading.Undecided.{Undecided}
use Rattle.world_letters.specs.dtx_base.Leading.{LeaderStep}
use Rattle.world_letters.specs.model_laws.Members.{Has}
use Rattle.world_letters.specs.world_base.declared.did.Did.{Did}
use Rattle.world_letters.specs.world_base.Requests.{says}
use Rattle.world_ended.specs.Asking.{Asked, EndsAsked, GoesWith, LeavesWith, PostsGoWith, WaitWith}
use Rattle.world_ended.specs.PostLaws.{both-posted, one-posted, waits-on}

-- what a leader's step sends, and what it then remembers
pub sent-by : (asked : Asked) (s : LeaderStep) (old new later : LeaderMemory) (posts sent : List Post) → EndsAsked asked old s.leader.memory s.posts → ◌≡◌ {A = LeaderMemory × List Post} (new, posts) (s.leader.memory, s.posts)
    → later ≡ new → sent ≡ posts → EndsAsked asked old later sent
sent-by asked s old new later posts sent k is after says =
    subst (λ m. EndsAsked asked old m sent) (sym (after ∙ ap (λ (p : LeaderMemory × List Post). p.0) is))
    (subst (EndsAsked asked old s.leader.memory) (sym (says ∙ ap (λ (p : LeaderMemory × List Post). p.1) is)) k)

-- where more is sent besides
pub and-more : (asked : Asked) (old new : LeaderMemory) (posts more : List Post) → EndsAsked asked old new posts → PostsGoWith asked more → EndsAsked asked old new (posts ++ more)
and-more asked old new posts more k l waits = let before = k waits in record { said = both-posted asked posts more before.said l; waiting = before.waiting }

-- where a turn goes on, and sends more
pub then-ends : (asked : Asked) (old mid new : LeaderMemory) (posts more : List Post) → EndsAsked asked old mid posts → EndsAsked asked mid new more → EndsAsked asked old new (posts ++ more)
then-ends asked old mid new posts more k l waits =
    let before = k waits in
    let after = l before.waiting in
    record { said = both-posted asked posts more before.said after.said; waiting = after.waiting }

-- where what is undecided was so before
pub fewer-end : (asked : Asked) (old new : LeaderMemory) (posts : List Post) → ((u : Undecided) → Has u new.undecided → Has u old.undecided) → PostsGoWith asked posts → EndsAsked asked old new posts
fewer-end asked old new posts fewer k waits = record { said = k; waiting = λ u c i is. waits u c (fewer u i) is }

-- a turn goes on from there
pub on-fewer : {E : Type 0} (asked : Asked) (old mid new : LeaderMemory) (result : Result Did E) → ((u : Undecided) → Has u mid.undecided → Has u old.undecided) → IfOk result (λ did. EndsAsked asked mid new did.posts) → IfOk result (λ did. EndsAsked asked old new did.posts)
on-fewer asked old mid new (Ok did) fewer k = λ waits. k (λ u c i is. waits u c (fewer u i) is)
on-fewer asked old mid new (Err e) fewer k = k

-- or from the same memory
pub on-same : {E : Type 0} (asked : Asked) (old mid new : LeaderMemory) (result : Result Did E) → mid ≡ old → IfOk result (λ did. EndsAsked asked mid new did.posts) → IfOk result (λ did. EndsAsked asked old new did.posts)
on-same asked old mid new result same k = subst (λ m. IfOk result (λ did. EndsAsked asked m new did.posts)) same k

-- one message is told
pub says-ends : {E : Type 0} (asked : Asked) (old new : LeaderMemory) (to : ActorId) (m : Message) (issued : Option (AttemptId × Epoch)) (result : Result Did E) → new ≡ old → GoesWith asked m → IfOk result (λ did. did ≡ says to m issued)
    → IfOk result (λ did. EndsAsked asked old new did.posts)
says-ends asked old new to m issued (Ok did) same k is =
    waits-on asked old new did.posts (ap (λ (x : LeaderMemory). x.undecided) same) (subst (PostsGoWith asked) (sym (ap (λ (x : Did). x.posts) is)) (one-posted asked (record { to = to; message = m }) k))
says-ends asked old new to m issued (Err e) same k is = is

-- and nobody waits who didn't
pub says-posts : {E : Type 0} (asked : Asked) (to : ActorId) (m : Message) (issued : Option (AttemptId × Epoch)) (result : Result Did E) → GoesWith asked m → IfOk result (λ did. did ≡ says to m issued) → IfOk result (λ did. PostsGoWith asked did.posts)
says-posts asked to m issued (Ok did) k is = subst (PostsGoWith asked) (sym (ap (λ (x : Did). x.posts) is)) (one-posted asked (record { to = to; message = m }) k)
says-posts asked to m issued (Err e) k is = is

pub posts-end : {E : Type 0} (asked : Asked) (m : LeaderMemory) (result : Result Did E) → IfOk result (λ did. PostsGoWith asked did.posts) → IfOk result (λ did. EndsAsked asked m m did.posts)
posts-end asked m (Ok did) k = waits-on asked m m did.posts refl k
posts-end asked m (Err e) k = k
