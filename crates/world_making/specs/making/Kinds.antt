-- Which messages are of snapshots and aggregations, and which of attempts.
use Rattle.world_making.specs.making.Making.{IsOfMaking, is_of_snapshots, tells_of_snapshots}
use Rattle.base_messages.specs.declared.message.Message.{Message, more_of-Message}
use Rattle.std.specs.Prelude.{false, not, refl, true, ◌≡◌}
use Rattle.world_causes.specs.world_contents.posts.Forms.{is_collecting}
use Rattle.world_causes.specs.world_commit.statuses.Heard.{is_of_attempts}
use Rattle.world_causes.specs.world_commit.stops.CutEvents.{is_without_snapshots}
use Rattle.base_messages.specs.declared.message.Message.TheVariants as message

pub of-making : (m : Message) → is_of_attempts m ≡ false → IsOfMaking m
of-making (message.Snap x c name tracker) off = refl
of-making (message.Freeze x c s) off = refl
of-making (message.Held x refusal) off = refl
of-making (message.Prune x c tracker e) off = refl
of-making (message.Reset' by down place (more_of-Message q rest)) off = inner q off
  where
    inner : (q : Message) → not (is_collecting q) ≡ false → is_of_snapshots q ≡ true
    inner (message.Freeze x c s) is = refl
    inner (message.Prune x c tracker e) is = refl
    inner q is = let no : ⊥ = cc in absurd no
of-making m off = let no : ⊥ = cc in absurd no

pub cut-making : (m : Message) → is_without_snapshots m ≡ false → IsOfMaking m
cut-making (message.Snap x c name tracker) ours = refl
cut-making (message.Freeze x c s) ours = refl
cut-making (message.Held x refusal) ours = refl
cut-making (message.Prune x c tracker e) ours = refl
cut-making m ours = let no : ⊥ = cc in absurd no

pub of-attempts : (m : Message) → tells_of_snapshots m ≡ false → is_of_attempts m ≡ true
of-attempts (message.Snap x c called tracker) off = let no : ⊥ = cc in absurd no
of-attempts (message.Freeze x c s) off = let no : ⊥ = cc in absurd no
of-attempts (message.Held x refusal) off = let no : ⊥ = cc in absurd no
of-attempts (message.Prune x c tracker e) off = let no : ⊥ = cc in absurd no
of-attempts (message.Reset' by down place (more_of-Message q rest)) off = inner q off
  where
    inner : (q : Message) → is_of_snapshots q ≡ false → is_of_attempts (message.Reset' by down place (more_of-Message q rest)) ≡ true
    inner (message.Freeze x c s) is = let no : ⊥ = cc in absurd no
    inner (message.Prune x c tracker e) is = let no : ⊥ = cc in absurd no
    inner q is = refl
of-attempts m off = refl

pub without-snapshots : (m : Message) → tells_of_snapshots m ≡ false → is_without_snapshots m ≡ true
without-snapshots (message.Snap x c called tracker) off = let no : ⊥ = cc in absurd no
without-snapshots (message.Freeze x c s) off = let no : ⊥ = cc in absurd no
without-snapshots (message.Held x refusal) off = let no : ⊥ = cc in absurd no
without-snapshots (message.Prune x c tracker e) off = let no : ⊥ = cc in absurd no
without-snapshots m off = refl
