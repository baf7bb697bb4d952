-- Which attempts were stored at which targets: each at most once, and none that was refused there for want of space.
use Rattle.std.specs.Prelude.{ℕ, ◌≡◌, List, [], ◌∷◌, map, Contains, Some}
use Rattle.base_types.specs.declared.epoch.Epoch.{Epoch}
use Rattle.base_types.specs.declared.id.AttemptId.{AttemptId}
use Rattle.base_types.specs.declared.outcome.Outcome.TheVariants as outcome
use Rattle.base_types.specs.declared.report.Attempt.{Attempt}
use Rattle.model_laws.specs.Members.{Has}
use Rattle.base_messages.specs.declared.message.Message.{Message}
use Rattle.base_messages.specs.declared.message.Message.TheVariants as message
use Rattle.base_messages.specs.declared.message.Reply.TheVariants as reply
use Rattle.daos_model.specs.Attempts.{tries}
use Rattle.world_base.specs.declared.letter.Letter.{Letter}
use Rattle.world_base.specs.declared.world.World.{World}
use Rattle.world_base.specs.Letters.{target}
use Rattle.world_causes.specs.causes.Causes.{Dated, Stored}

-- none stands there twice
abbrev pub AreApart : {T : Type 0} → List T → Type 0
AreApart [] = Unit {0}
AreApart (x ∷ xs) = (Has x xs → ⊥) × AreApart xs

abbrev pub dated_ids : Dated → List AttemptId
dated_ids is = map (λ i. i.0) is

-- a message tells that an attempt was refused at a target for want of space
abbrev pub RefusesAt : Message → ℕ → AttemptId → Type 0
RefusesAt (message.Ack y inc (Some (outcome.NoSpace u need free))) t x = (y ≡ x) × (u ≡ t)
RefusesAt (message.Ended y own (outcome.NoSpace u need free)) t x = (y ≡ x) × (u ≡ t)
RefusesAt (message.Fetched y op group own (reply.Outcome (outcome.NoSpace u need free))) t x = (y ≡ x) × (u ≡ t)
RefusesAt m t x = ⊥

-- a message asks to prepare an attempt
abbrev pub IsPrepareOf : Message → AttemptId → Type 0
IsPrepareOf (message.Prepare e first ws inc) x = e.attempt ≡ x
IsPrepareOf m x = ⊥

-- an attempt was refused at a target for want of space: its leader is told so, or its client, or its line tells so
pub data IsRefusedAt (w : World) (t : ℕ) (x : AttemptId) : Type 0 where
  IsTold : (l : Letter) → Contains w.messages l → RefusesAt l.message t x → IsRefusedAt w t x
  HasItsLine : (a : Attempt) (need free : ℕ) → Contains (tries w.lines) a → a.id ≡ x → a.outcome ≡ outcome.NoSpace t need free → IsRefusedAt w t x

-- a target is asked to prepare an attempt
pub record IsAskedAt (w : World) (t : ℕ) (x : AttemptId) : Type 0 where
  pub l : Letter
  pub among : Contains w.messages l
  pub to : l.to ≡ target t
  pub its : IsPrepareOf l.message x

-- each attempt was stored at most once at each target, and not where it is asked for still; where it was refused for want of space,
-- it wasn't stored, and isn't asked for
pub record StoredOnce (stored : Stored) (w : World) : Type 0 where
  pub once : AreApart stored
  pub issued : (t : ℕ) (x : AttemptId) → Contains stored (t, x) → (e : Epoch) × Contains w.issued (x, e)
  pub asked : (t : ℕ) (x : AttemptId) → IsAskedAt w t x → Contains stored (t, x) → ⊥
  pub refused : (t : ℕ) (x : AttemptId) → IsRefusedAt w t x → (Contains stored (t, x) → ⊥) × (IsAskedAt w t x → ⊥)
