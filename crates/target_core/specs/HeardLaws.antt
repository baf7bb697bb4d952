-- How a message was heard, by its kind.
use Rattle.std.specs.Prelude.{ℕ, ◌≡◌, ◌&&◌, Bool, true, false, List, [], ◌∷◌, find, Option, Some, None, refl, if◌then◌else◌}
use Rattle.std.proofs.Common.{◌∙◌, ap}
use Rattle.base_types.specs.declared.epoch.Epoch.{Epoch}
use Rattle.base_types.specs.declared.id.AttemptId.{AttemptId}
use Rattle.base_types.specs.declared.operation.MinorWrite.{MinorWrite}
use Rattle.base_types.specs.declared.outcome.FloorWhy.{FloorWhy}
use Rattle.base_messages.specs.declared.actor.ActorId.{ActorId}
use Rattle.base_messages.specs.declared.message.Message.{Message}
use Rattle.base_messages.specs.declared.message.Message.TheVariants as message
use Rattle.dtx_base.specs.Leading.{first_down, is_down_among}
use Rattle.dtx_base.specs.Members.{all_targets, has_target}
use Rattle.target_parts.specs.world_commit.attempts.MemberBits.{has-none}
use Rattle.world_base.specs.declared.did.Did.{Did}
use Rattle.world_base.specs.declared.target.TargetMemory.{TargetMemory}
use Rattle.world_base.specs.declared.target.TargetPlan.{TargetPlan}
use Rattle.world_base.specs.Changes.{Kept}
use Rattle.world_base.specs.Commits as commit
use Rattle.world_base.specs.Commits.{CommitNext, led_entry}
use Rattle.world_base.specs.Further as further
use Rattle.world_base.specs.Further.{CommitDown}
use Rattle.world_base.specs.Statuses.{down_of}
use Rattle.world_base.specs.TargetTurns.{Hears, commit_request}
use Rattle.world_base.specs.Turns.{Reached}
use Rattle.target_core.specs.Targets.{Further, HasForm, Heard, Plainly, has_epoch, is_held, is_making, is_of_client, is_of_command}

-- ---- where nothing stopped

none-among : (xs : List ℕ) (members down : ℕ) → down ≡ 0 → find (is_down_among members down) xs ≡ None
none-among [] members down none = refl
none-among (x ∷ xs) members down none =
    ap (λ b. if b then Some x else find (is_down_among members down) xs) (off (has_target members x) (has_target down x) (ap (λ n. has_target n x) none ∙ has-none x)) ∙ none-among xs members down none
  where
    off : (a b : Bool) → b ≡ false → (a && b) ≡ false
    off true b k = k
    off false b k = refl

-- where no target is known to be down, none is of a Commit's members
none-down : (p : TargetPlan) (m : TargetMemory) (x : AttemptId) (ep first : Option Epoch) (tracker : Epoch) (ws : List MinorWrite) (e : Epoch) → m.leader.down ≡ 0 → down_of p m (commit_request x ep first tracker ws) e ≡ None
unfolding first_down
none-down p m x ep first tracker ws e up = none-among all_targets (led_entry p (commit_request x ep first tracker ws) e).members m.leader.down up

-- what leaders and members tell each other where nothing stops, and a Fetch, is heard alike whatever is known to be down
abbrev pub is_heard_alike : Message → Bool
is_heard_alike (message.Fetch x op group ep first tracker read snapshot) = true
is_heard_alike (message.Prepare e first ws inc) = true
is_heard_alike (message.Ack x inc refusal) = true
is_heard_alike (message.Mark inc marks) = true
is_heard_alike (message.Marked inc ids) = true
is_heard_alike (message.Query x ask) = true
is_heard_alike (message.Verdict x ask inc v) = true
is_heard_alike q = false

module _ (number : ℕ) (p : TargetPlan) (opening : Epoch × FloorWhy) (m : TargetMemory) (reading : ℕ) (from : ActorId) (old new : Kept) (left : TargetMemory × Did) where
  -- a Commit is heard in steps of its kind, however it ends
  pub commit-heard : (x : AttemptId) (ep first : Option Epoch) (tracker : Epoch) (ws : List MinorWrite) → Heard number p opening m reading from (message.Commit x ep first tracker ws) old new left
      → (last : commit.CommitStage) × Reached (CommitNext p opening m reading (commit_request x ep first tracker ws)) commit.Asked old last new
  commit-heard x ep first tracker ws (Plainly none w) = (w.last, w.reached)
  commit-heard x ep first tracker ws (Further w) = (w.last, w.reached)

  -- what isn't a Commit is heard as where nothing stops
  pub heard-alike : (q : Message) → is_heard_alike q ≡ true → Heard number p opening m reading from q old new left → Hears p opening m reading from q old new left
  heard-alike q alike (Plainly none w) = w
  heard-alike (message.Fetch x op group ep first tracker read snapshot) alike (Further w) = absurd w
  heard-alike (message.Prepare e first ws inc) alike (Further w) = absurd w
  heard-alike (message.Ack x inc refusal) alike (Further w) = absurd w
  heard-alike (message.Mark inc marks) alike (Further w) = absurd w
  heard-alike (message.Marked inc ids) alike (Further w) = absurd w
  heard-alike (message.Query x ask) alike (Further w) = absurd w
  heard-alike (message.Verdict x ask inc v) alike (Further w) = absurd w
  heard-alike q alike (Further w) = let no : ⊥ = cc in absurd no

  -- and so is every message without stops, where no target is known to be down
  pub plainly-heard : (q : Message) → HasForm p q → m.leader.down ≡ 0 → Heard number p opening m reading from q old new left → Hears p opening m reading from q old new left
  plainly-heard q form up (Plainly none w) = w
  plainly-heard (message.Commit x ep first tracker ws) form up (Further w) = absurd (by w.last new w.ends)
    where
      known : (e : Epoch) (down : ℕ) → down_of p m (commit_request x ep first tracker ws) e ≡ Some down → ⊥
      known e down is = let none = none-down p m x ep first tracker ws e up in let no : ⊥ = cc (none, is) in no

      by : (s : commit.CommitStage) (k : Kept) → CommitDown p m reading (commit_request x ep first tracker ws) from s k left → ⊥
      by s k (further.IsSpent j e down l spent is told) = known e down is
      by s k (further.IsUnknown j e down l is told) = known e down is
  plainly-heard (message.Fetch x op group ep first tracker read snapshot) form up (Further w) = absurd w
  plainly-heard (message.Prepare e first ws inc) form up (Further w) = absurd w
  plainly-heard (message.Ack x inc refusal) form up (Further w) = absurd w
  plainly-heard (message.Mark inc marks) form up (Further w) = absurd w
  plainly-heard (message.Marked inc ids) form up (Further w) = absurd w
  plainly-heard (message.Query x ask) form up (Further w) = absurd w
  plainly-heard (message.Verdict x ask inc v) form up (Further w) = absurd w
  plainly-heard q form up (Further w) = absurd form

-- what tells that something is held comes of no client
pub held-of_target : (m : Message) → is_held m ≡ true → is_of_client m ≡ false
held-of_target (message.Held x refusal) held = refl
held-of_target (message.Fetch x op group ep first tracker r snapshot) held = let no : ⊥ = cc in absurd no
held-of_target (message.Fetched x op group ep reply) held = let no : ⊥ = cc in absurd no
held-of_target (message.Commit x ep first tracker ws) held = let no : ⊥ = cc in absurd no
held-of_target (message.Ask x) held = let no : ⊥ = cc in absurd no
held-of_target (message.Snap x c name tracker) held = let no : ⊥ = cc in absurd no
held-of_target (message.Prune x c tracker e) held = let no : ⊥ = cc in absurd no
held-of_target (message.Ended x ep how) held = let no : ⊥ = cc in absurd no
held-of_target (message.Tell tracker) held = let no : ⊥ = cc in absurd no
held-of_target (message.Prepare e first ws inc) held = let no : ⊥ = cc in absurd no
held-of_target (message.Ack x inc refusal) held = let no : ⊥ = cc in absurd no
held-of_target (message.Mark inc marks) held = let no : ⊥ = cc in absurd no
held-of_target (message.Marked inc ids) held = let no : ⊥ = cc in absurd no
held-of_target (message.Query x ask) held = let no : ⊥ = cc in absurd no
held-of_target (message.Verdict x ask inc v) held = let no : ⊥ = cc in absurd no
held-of_target (message.Status x inc) held = let no : ⊥ = cc in absurd no
held-of_target (message.StatusIs x inc how) held = let no : ⊥ = cc in absurd no
held-of_target (message.Freeze x c s) held = let no : ⊥ = cc in absurd no
held-of_target (message.Reset' by down place asked) held = let no : ⊥ = cc in absurd no

-- what is no command of a client, and makes nothing, has its epoch
pub others-have-epoch : (m : Message) → is_of_command m ≡ false → is_making m ≡ false → has_epoch m ≡ true
others-have-epoch (message.Held x refusal) other none = refl
others-have-epoch (message.Fetch x op group ep first tracker r snapshot) other none = let no : ⊥ = cc in absurd no
others-have-epoch (message.Fetched x op group ep reply) other none = refl
others-have-epoch (message.Commit x ep first tracker ws) other none = let no : ⊥ = cc in absurd no
others-have-epoch (message.Ask x) other none = refl
others-have-epoch (message.Snap x c name tracker) other none = let no : ⊥ = cc in absurd no
others-have-epoch (message.Prune x c tracker e) other none = let no : ⊥ = cc in absurd no
others-have-epoch (message.Ended x ep how) other none = refl
others-have-epoch (message.Tell tracker) other none = refl
others-have-epoch (message.Prepare e first ws inc) other none = refl
others-have-epoch (message.Ack x inc refusal) other none = refl
others-have-epoch (message.Mark inc marks) other none = refl
others-have-epoch (message.Marked inc ids) other none = refl
others-have-epoch (message.Query x ask) other none = refl
others-have-epoch (message.Verdict x ask inc v) other none = refl
others-have-epoch (message.Status x inc) other none = refl
others-have-epoch (message.StatusIs x inc how) other none = refl
others-have-epoch (message.Freeze x c s) other none = refl
others-have-epoch (message.Reset' by down place asked) other none = refl
