-- What is in flight between a client and targets, as far as epochs go.
use Rattle.std.specs.Prelude.{ℕ, ◌≡◌, Bool, true, false, List, [], ◌∷◌, Contains, slice_get, Some, refl}
use Rattle.std.proofs.Common.{sym, subst}
use Rattle.base_types.specs.declared.epoch.Epoch.{Epoch}
use Rattle.base_types.specs.declared.id.AttemptId.{AttemptId}
use Rattle.base_messages.specs.declared.message.Message.{Message}
use Rattle.base_messages.specs.declared.message.Message.TheVariants as message
use Rattle.world_base.specs.declared.client.ClientState.{ClientState}
use Rattle.world_base.specs.declared.letter.Letter.{Letter}
use Rattle.world_base.specs.declared.world.World.{World}
use Rattle.world_base.specs.ClientTurns.{waits}
use Rattle.world_base.specs.Letters.{Takes, is_talk_of, is_tell, talk_of}
use Rattle.world_letters.specs.epochs.Epochs.{AsksEpoch, LacksEpoch}
use Rattle.world_letters.specs.epochs.Lists.{nothing-passes, taken-alone}
use Rattle.world_letters.specs.talks.TalkLaws.{taken-is-among}

-- ---- letters of a conversation

pub asks-no_tell : (m : Message) (x : AttemptId) (k : Epoch) → AsksEpoch m x k → is_tell m ≡ false
asks-no_tell (message.Tell tracker) x k h = absurd h
asks-no_tell m x k h = refl

pub lacks-no_tell : (m : Message) (x : AttemptId) → LacksEpoch m x → is_tell m ≡ false
lacks-no_tell (message.Tell tracker) x h = absurd h
lacks-no_tell m x h = refl

-- the letters of a conversation: none, or one where the client waits
pub data AtMostOne (letters : List Letter) (waiting : Bool) : Type 0 where
  NoLetter : letters ≡ [] → AtMostOne letters waiting
  OneLetter : (z : Letter) → letters ≡ z ∷ [] → waiting ≡ true → AtMostOne letters waiting

-- it is so of every client's
abbrev pub TalksOnce : World → Type 0
TalksOnce w = (n : ℕ) (c : ClientState) → slice_get w.clients n ≡ Some c → AtMostOne (talk_of n w.messages) (waits c)

-- a client of whose conversation a letter is in flight waits, and no other is
pub talking : (w : World) (n : ℕ) (c : ClientState) (l : Letter) → TalksOnce w → slice_get w.clients n ≡ Some c → Contains w.messages l → is_talk_of n l ≡ true → (waits c ≡ true) × ((z : Letter) × (talk_of n w.messages ≡ z ∷ []))
talking w n c l v here among t = by (v n c here)
  where
    by : AtMostOne (talk_of n w.messages) (waits c) → (waits c ≡ true) × ((z : Letter) × (talk_of n w.messages ≡ z ∷ []))
    by (OneLetter z is waiting) = (waiting, (z, is))
    by (NoLetter none) = absurd (nothing-passes (is_talk_of n) w.messages l none among t)

-- of a client that doesn't wait no letter is in flight
pub silent-unless : (w : World) (n : ℕ) (c : ClientState) → TalksOnce w → slice_get w.clients n ≡ Some c → waits c ≡ false → talk_of n w.messages ≡ []
silent-unless w n c v here idle = by (v n c here)
  where
    by : AtMostOne (talk_of n w.messages) (waits c) → talk_of n w.messages ≡ []
    by (NoLetter none) = none
    by (OneLetter z is waiting) = let no : ⊥ = cc in absurd no

-- ---- a letter that is taken

-- where the letter of a conversation is taken, none of it is left
pub taken-silent : (w : World) (n : ℕ) (c : ClientState) (l : Letter) (rest : List Letter) → TalksOnce w → slice_get w.clients n ≡ Some c → Takes w.messages l rest → is_talk_of n l ≡ true
    → talk_of n rest ≡ []
taken-silent w n c l rest v here t talk = subst (λ ls. talk_of n ls ≡ []) (sym t.left) (taken-alone (is_talk_of n) t.before t.after l k.1.0 (subst (λ ls. talk_of n ls ≡ k.1.0 ∷ []) t.among k.1.1) talk)
  where
    k : (waits c ≡ true) × ((z : Letter) × (talk_of n w.messages ≡ z ∷ []))
    k = talking w n c l v here (taken-is-among w.messages l rest t) talk
