-- Whether writes are allowed, and what storing them comes to.
use Rattle.std.specs.Prelude.{ℕ, ◌≡◌, ◌≢◌, ◌≤◌, ◌<◌, ◌⊎◌, true, All, List, ◌∷◌, Option, Some, None, Result, Ok, Err}
use Rattle.base_types.specs.declared.entry.Entry.{Entry}
use Rattle.base_types.specs.declared.epoch.Epoch.{Epoch}
use Rattle.base_types.specs.declared.id.AttemptId.{AttemptId}
use Rattle.base_types.specs.declared.operation.MinorWrite.{MinorWrite}
use Rattle.base_types.specs.declared.outcome.Cause.{Cause}
use Rattle.base_types.specs.declared.outcome.FloorWhy.{FloorWhy}
use Rattle.base_types.specs.declared.outcome.Outcome.{Outcome}
use Rattle.base_types.specs.declared.outcome.Outcome.TheVariants as outcome
use Rattle.base_types.specs.declared.path.Path.{Path}
use Rattle.base_types.specs.declared.shown.Shown.{Shown}
use Rattle.base_types.specs.Operations.{write_path}
use Rattle.daos_model.specs.declared.durable.Durable.{Durable}
use Rattle.daos_model.specs.Blocks.{blocks}
use Rattle.daos_model.specs.Durables.{entry_key, entry_of, is_enlisted, object_key, version_key}
use Rattle.daos_model.specs.Ordered.{put}
use Rattle.vos_stamp.specs.Stamps.{AnswersWrite}
use Rattle.vos_store.specs.Answers.{floor_of}
use Rattle.vos_store.specs.Calls.{State}
use Rattle.vos_store.specs.Conditions.{IsLeased}
use Rattle.world_base.specs.declared.target.TargetPlan.{TargetPlan}
use Rattle.world_base.specs.Changes.{Prepares}
use Rattle.world_base.specs.Commits.{IsAllowed, IsRefusedBy, own_writes}
use Rattle.world_base.specs.Reads.{later_of}
pub use Rattle.target_parts.specs.world_contents.posts.Forms.{AreWrites}
use Rattle.target_parts.specs.declared.halt.Halt.{Halt}
use Rattle.target_parts.specs.declared.halt.Halt.TheVariants as halt
use Rattle.target_parts.specs.Parts.{Did, Stays, WasAsked, WasCut, kept, left_by}

-- a write on a path is refused, or allowed
abbrev pub ChecksOne : TargetPlan → Epoch × FloorWhy → Option Epoch → Epoch → Durable → List Shown → Path → Option Cause → Type 0
ChecksOne t opening first e d stamps p cause = AnswersWrite t.me p e.0 (floor_of opening d p.cont) stamps (later_of t first e p d) cause

-- writes are refused, or allowed
abbrev pub Checks : TargetPlan → Epoch × FloorWhy → Option Epoch → Epoch → Durable → List Shown → List MinorWrite → Option Cause → Type 0
Checks t opening first e d stamps ws (Some c) = IsRefusedBy t opening first e d stamps ws c
Checks t opening first e d stamps ws None = IsAllowed t opening first e d stamps ws

-- the containers of writes are here
abbrev pub AreEnlisted : List MinorWrite → Durable → Type 0
AreEnlisted ws d = All (λ w. is_enlisted d (write_path w.write).cont ≡ true) ws

-- the place that a write takes among versions at an epoch
abbrev pub place_of : Epoch → MinorWrite → List ℕ
place_of e w = e.0 ∷ w.minor ∷ object_key (write_path w.write).cont (write_path w.write).obj

-- no version of an object that is written has this epoch and the number of a write
abbrev pub AreNew : Epoch → List MinorWrite → Durable → Type 0
AreNew e ws d = All (λ w. All (λ v. version_key v ≢ place_of e w) d.versions) ws

-- an entry and its writes can be stored, unless they are refused: the attempt has no entry here, its containers are here, the places of
-- the writes are free, and the lease covers the epoch
pub record CanStore (e : Entry) (ws : List MinorWrite) (d : Durable) : Type 0 where
  pub absent : entry_of d e.attempt ≡ None
  pub enlisted : AreEnlisted ws d
  pub new : AreNew e.epoch ws d
  pub leased : IsLeased e.epoch d

-- why writes aren't stored: a cause refuses them, or there is no space for them
pub data IsRefusal (t : TargetPlan) (opening : Epoch × FloorWhy) (first : Option Epoch) (e : Epoch) (d : Durable) (stamps : List Shown) (ws : List MinorWrite) (free : ℕ) (how : Outcome) : Type 0 where
  ByCause : (c : Cause) → IsRefusedBy t opening first e d stamps ws c → how ≡ outcome.Restart c → IsRefusal t opening first e d stamps ws free how
  BySpace : IsAllowed t opening first e d stamps ws → free < blocks ws → how ≡ outcome.NoSpace t.me (blocks ws) free → IsRefusal t opening first e d stamps ws free how

-- they were allowed, and there was space for them
pub record FindsSpace (t : TargetPlan) (opening : Epoch × FloorWhy) (first : Option Epoch) (e : Epoch) (d : Durable) (stamps : List Shown) (ws : List MinorWrite) (free : ℕ) : Type 0 where
  pub allowed : IsAllowed t opening first e d stamps ws
  pub space : blocks ws ≤ free

-- Writes were stored with their entry; or refused; or the store stopped at a check or as it stored them; or memory was wanting.
abbrev pub PreparesOrNot : TargetPlan → Epoch × FloorWhy → Option Epoch → List Shown → Entry → List MinorWrite → Durable → State → Option Durable → State → (Durable → Type 0) → Result (Option Outcome) Halt → Type 0
PreparesOrNot t opening first stamps e ws d h new k finds (Ok None) = FindsSpace t opening first e.epoch d stamps ws h.free × Did (Prepares e ws) d h new k
PreparesOrNot t opening first stamps e ws d h new k finds (Ok (Some how)) = IsRefusal t opening first e.epoch d stamps ws h.free how × Stays d h new k
PreparesOrNot t opening first stamps e ws d h new k finds (Err halt.Stopped) = WasAsked (kept d h) (left_by k finds) ⊎ (FindsSpace t opening first e.epoch d stamps ws h.free × WasCut (Prepares e ws) (kept d h) (left_by k finds))
PreparesOrNot t opening first stamps e ws d h new k finds (Err halt.Memory) = Stays d h new k

-- the entries that are known once writes were stored or not
abbrev pub entries_then : Entry → Option Outcome → List Entry → List Entry
entries_then e None es = put entry_key e es
entries_then e (Some how) es = es

-- ---- a target among others

-- the places of writes are free at an epoch that is known
abbrev pub AreNewAt : Option Epoch → List MinorWrite → Durable → Type 0
AreNewAt None ws d = Unit {0}
AreNewAt (Some e) ws d = AreNew e ws d

-- an attempt's writes can be committed by a target: their containers are here, the attempt has no entry here, and where the epoch is
-- known, the places of those writes that belong to a group of this target are free
pub record CanCommit (t : TargetPlan) (x : AttemptId) (ep : Option Epoch) (ws : List MinorWrite) (d : Durable) : Type 0 where
  pub enlisted : AreEnlisted ws d
  pub absent : entry_of d x ≡ None
  pub new : AreNewAt ep (own_writes t ws) d
