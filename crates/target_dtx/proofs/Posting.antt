use Rattle.world_ended.specs.Asking.{Asked, PostsGoWith}
use Rattle.world_ended.specs.PostLaws.{inquiries-end}
-- What is posted has its form.
use Rattle.std.proofs.Common.{ℕ, ◌≡◌, Bool, true, false, [], ap, subst, sym, List, Result, Ok, Err}
use Rattle.std.specs.Prelude.{IfOk}
use Rattle.base_types.specs.declared.entry.Entry.{Entry}
use Rattle.base_messages.specs.declared.message.Post.{Post}
use Rattle.dtx_base.specs.declared.leading.LeaderMemory.{LeaderMemory}
use Rattle.dtx_base.specs.Joining.{MemberOf, inquired, member_step}
use Rattle.world_ended.specs.world_letters.kinds.PostLaws.{CarryNone, inquiries-carry, none-carried}
use Rattle.target_dtx.specs.Dtx.{asks_if}
use Rattle.target_parts.specs.declared.stop.TargetStop.{TargetStop}
use Rattle.world_base.specs.declared.did.Did.{Did}
use Rattle.target_parts.specs.world_contents.posts.Forms.{PostsInForm, TargetPosts}
use Rattle.target_parts.specs.world_contents.posts.Posting.{goes-on, inquiries-are-in-form}

-- the Queries of idle work
pub inquired-posts : (targets : ℕ) (es : List Entry) (s new : MemberOf) (posts : List Post) → member_step new (record { posts = posts; again = [] }) ≡ inquired es s → TargetPosts targets posts
inquired-posts targets es s new posts is = subst (TargetPosts targets) (sym (ap (λ z. z.freed.posts) is)) (inquiries-are-in-form targets es s)

-- they end nothing
pub inquired-end : (asked : Asked) (es : List Entry) (s new : MemberOf) (posts : List Post) → member_step new (record { posts = posts; again = [] }) ≡ inquired es s → PostsGoWith asked posts
inquired-end asked es s new posts is = subst (PostsGoWith asked) (sym (ap (λ z. z.freed.posts) is)) (inquiries-end asked es s)

-- they carry nothing of reads
pub asks-carry-none : (settling : Bool) (es : List Entry) (s new : MemberOf) (posts : List Post) → member_step new (record { posts = posts; again = [] }) ≡ asks_if settling es s → CarryNone posts
asks-carry-none true es s new posts is = subst CarryNone (sym (ap (λ z. z.freed.posts) is)) (inquiries-carry es s)
asks-carry-none false es s new posts is = subst CarryNone (sym (ap (λ z. z.freed.posts) is)) none-carried

-- what idle work ends with, after what it settles
pub settled-posts : (targets : ℕ) (old mid new : LeaderMemory) (result : Result Did TargetStop) → mid.undecided ≡ old.undecided → IfOk result (λ did. PostsInForm targets mid new did.posts)
    → IfOk result (λ did. PostsInForm targets old new did.posts)
settled-posts targets old mid new (Ok did) same k = goes-on targets old mid new did.posts same k
settled-posts targets old mid new (Err stop) same k = k
