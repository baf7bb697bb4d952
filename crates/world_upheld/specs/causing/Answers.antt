-- Who says that a freeze is refused: in a turn of a target only the answer to a Freeze.
use Rattle.std.specs.Prelude.{ℕ, ◌≡◌, Bool, true, false, List, [], ◌∷◌, Some, None, refl}
use Rattle.std.proofs.Common.{◌∙◌, ap, subst, sym, inl, inr}
use Rattle.base_types.specs.declared.epoch.Epoch.{Epoch}
use Rattle.base_types.specs.declared.id.AttemptId.{AttemptId}
use Rattle.base_types.specs.declared.outcome.FloorWhy.{FloorWhy}
use Rattle.base_messages.specs.declared.actor.ActorId.{ActorId}
use Rattle.base_messages.specs.declared.message.Message.{Message}
use Rattle.base_messages.specs.declared.message.Message.TheVariants as message
use Rattle.base_messages.specs.declared.message.Post.{Post}
use Rattle.model_laws.specs.Members.{Has}
use Rattle.world_base.specs.declared.did.Did.{Did}
use Rattle.world_base.specs.declared.target.TargetMemory.{TargetMemory}
use Rattle.world_base.specs.declared.target.TargetPlan.{TargetPlan}
use Rattle.world_base.specs.Changes.{Kept}
use Rattle.world_base.specs.Further.{HearsFurther}
use Rattle.world_base.specs.Snapshots as snap
use Rattle.world_letters.specs.lines.Lines.{TellsPlainly}
use Rattle.world_owners.specs.world_making.freezings.Answering.{further-none, is_held}

-- a message says that a freeze is refused
abbrev pub says_refused : Message → Bool
says_refused (message.Held x (Some how)) = true
says_refused m = false

-- none of these does
abbrev pub NoneRefuses : List Post → Type 0
NoneRefuses posts = (q : Post) → Has q posts → says_refused q.message ≡ false

pub one-not : (q : Post) → says_refused q.message ≡ false → NoneRefuses (q ∷ [])
one-not q off p (inl same) = ap (λ x. says_refused x.message) same ∙ off
one-not q off p (inr none) = absurd none

pub plainly-not : (m : Message) → TellsPlainly m → says_refused m ≡ false
plainly-not (message.Held x refusal) h = absurd h
plainly-not m h = refl

-- what answers no Freeze and no Prune doesn't
off-held : (m : Message) → is_held m ≡ false → says_refused m ≡ false
off-held (message.Held x refusal) off = let no : ⊥ = cc in absurd no
off-held m off = refl

prune-not : (m : TargetMemory) (x : AttemptId) (from : ActorId) (s : snap.PruneStage) (k : Kept) (left : TargetMemory × Did) → snap.PruneEnds m x from s k left → NoneRefuses left.1.posts
prune-not m x from s k left (snap.IsHeld k2 g ls left2 says) = subst NoneRefuses (sym (ap (λ o. o.1.posts) says)) (one-not _ refl)

abbrev pub is_freeze : Message → Bool
is_freeze (message.Freeze x c s) = true
is_freeze m = false

pub further-not : (number : ℕ) (t : TargetPlan) (opening : Epoch × FloorWhy) (m : TargetMemory) (reading : ℕ) (from : ActorId) (q : Message) (old new : Kept) (left : TargetMemory × Did) → is_freeze q ≡ false
    → HearsFurther number t opening m reading from q old new left → NoneRefuses left.1.posts
further-not number t opening m reading from (message.Freeze x c s) old new left off h = let no : ⊥ = cc in absurd no
further-not number t opening m reading from (message.Prune x c None (Some g)) old new left off h = prune-not m x from h.last new left h.ends
further-not number t opening m reading from q old new left off h = λ p i. off-held p.message (further-none number t opening m reading from q old new left refl h p i)
