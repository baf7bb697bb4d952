-- What is posted has its form, from a later memory on.
use Rattle.std.specs.Prelude.{ℕ, ◌≡◌, true, IfOk, List, [], ◌∷◌, Option, Result, Ok, Err}
use Rattle.std.proofs.Common.{ap, subst, sym}
use Rattle.base_types.specs.declared.entry.Verdict.{Verdict}
use Rattle.base_types.specs.declared.entry.Verdict.TheVariants.{Aborted, Committed, Undecided}
use Rattle.base_types.specs.declared.id.AttemptId.{AttemptId}
use Rattle.world_contents.specs.model_laws.Members.{Has, has-from_filter}
use Rattle.base_types.specs.declared.epoch.Epoch.{Epoch}
use Rattle.base_messages.specs.declared.actor.ActorId.{ActorId}
use Rattle.base_messages.specs.declared.message.Message.{Message}
use Rattle.base_messages.specs.declared.message.Post.{Post}
use Rattle.dtx_base.specs.declared.leading.LeaderMemory.{LeaderMemory}
use Rattle.dtx_base.specs.declared.leading.Undecided.{Undecided as UndecidedOf}
use Rattle.world_contents.specs.world_base.declared.did.Did.{Did}
use Rattle.world_contents.specs.world_base.declared.target.TargetMemory.{TargetMemory}
use Rattle.world_contents.specs.world_base.Requests.{says}
use Rattle.world_contents.specs.world_base.Roles.{told_by, told_of, told_of_all}
use Rattle.world_contents.specs.posts.Forms.{PostsInForm, TargetPosts, is_told}
use Rattle.world_contents.specs.posts.Posting.{one-posted, to-client, waits-on}
use Rattle.target_parts.specs.declared.stop.TargetStop.{TargetStop}

pub later-posts : (targets : ℕ) (old mid new : LeaderMemory) (result : Result Did TargetStop) → mid ≡ old → IfOk result (λ did. PostsInForm targets mid new did.posts) → IfOk result (λ did. PostsInForm targets old new did.posts)
later-posts targets old mid new result same k = subst (λ m. IfOk result (λ did. PostsInForm targets m new did.posts)) same k

-- ---- where fewer wait

-- what is undecided was so before
abbrev pub IsFewer : LeaderMemory → LeaderMemory → Type 0
IsFewer old new = (u : UndecidedOf) → Has u new.undecided → Has u old.undecided

-- of what another target tells, nobody waits
told-of_fewer : (a : AttemptId) (m : TargetMemory) → IsFewer m.leader (told_of a m).leader
told-of_fewer a m u i = (has-from_filter _ m.leader.undecided u i).0

pub told-fewer : (ids : List AttemptId) (m : TargetMemory) (l : LeaderMemory) → l ≡ (told_of_all ids m).leader → IsFewer m.leader l
told-fewer ids m l is u i = all ids m u (subst (λ (x : LeaderMemory). Has u x.undecided) is i)
  where
    all : (ids : List AttemptId) (m : TargetMemory) → IsFewer m.leader (told_of_all ids m).leader
    all [] m u i = i
    all (a ∷ ids) m u i = told-of_fewer a m u (all ids (told_of a m) u i)

pub judged-fewer : (v : Verdict) (a : AttemptId) (m : TargetMemory) (l : LeaderMemory) → l ≡ (told_by v a m).leader → IsFewer m.leader l
judged-fewer v a m l is u i = by v (subst (λ (x : LeaderMemory). Has u x.undecided) is i)
  where
    by : (v : Verdict) → Has u (told_by v a m).leader.undecided → Has u m.leader.undecided
    by Committed i = told-of_fewer a m u i
    by Aborted i = told-of_fewer a m u i
    by Undecided i = i

pub fewer-wait : (targets : ℕ) (old new : LeaderMemory) (posts : List Post) → IsFewer old new → TargetPosts targets posts → PostsInForm targets old new posts
fewer-wait targets old new posts fewer k waits = record { form = k; waiting = λ u c i is. waits u c (fewer u i) is }

-- a turn goes on then
pub fewer-posts : (targets : ℕ) (old mid new : LeaderMemory) (result : Result Did TargetStop) → IsFewer old mid → IfOk result (λ did. PostsInForm targets mid new did.posts) → IfOk result (λ did. PostsInForm targets old new did.posts)
fewer-posts targets old mid new (Ok did) fewer k = λ waits. k (λ u c i is. waits u c (fewer u i) is)
fewer-posts targets old mid new (Err stop) fewer k = k

-- ---- what is told

-- a client is told
pub client-posts : (targets : ℕ) (old new : LeaderMemory) (from : ActorId) (m : Message) (issued : Option (AttemptId × Epoch)) (result : Result Did TargetStop) → from.client ≡ true → is_told m ≡ true → new ≡ old → IfOk result (λ did. did ≡ says from m issued)
    → IfOk result (λ did. PostsInForm targets old new did.posts)
client-posts targets old new from m issued (Ok did) client told same is =
    waits-on targets old new did.posts (ap (λ x. x.undecided) same) (subst (TargetPosts targets) (sym (ap (λ x. x.posts) is)) (one-posted targets _ (to-client targets from m client told)))
client-posts targets old new from m issued (Err stop) client told same is = is
