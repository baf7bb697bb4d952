-- What a target remembers, and what of it fits what it keeps.
use Rattle.std.specs.Prelude.{ℕ, ◌≡◌, ◌≤◌, ◌/◌, ◌^◌, ◌<◌, true, false, All, List, [], Some, is_some}
use Rattle.base_types.specs.declared.entry.Entry.{Entry}
use Rattle.base_types.specs.declared.id.AttemptId.{AttemptId}
use Rattle.base_types.specs.Operations.{read_path}
use Rattle.world_contents.specs.model_laws.Members.{Has}
use Rattle.base_messages.specs.declared.message.Message.{Message}
use Rattle.base_messages.specs.declared.message.Message.TheVariants.{Fetch}
use Rattle.daos_model.specs.declared.durable.Durable.{Durable}
use Rattle.daos_model.specs.Durables.{attempt_key, entry_of, is_enlisted}
use Rattle.daos_model.specs.Ordered.{is_rising}
use Rattle.dtx_base.specs.declared.leading.LeaderMemory.{LeaderMemory}
use Rattle.dtx_base.specs.declared.leading.Undecided.{Undecided}
use Rattle.dtx_base.specs.declared.member.MemberMemory.{MemberMemory}
use Rattle.dtx_base.specs.declared.member.Parked.{Parked}
use Rattle.world_contents.specs.world_base.declared.target.TargetMemory.{TargetMemory}
use Rattle.world_contents.specs.world_base.declared.target.TargetPlan.{TargetPlan}
pub use Rattle.world_contents.specs.posts.Forms.{IsReadAsked}
use Rattle.target_parts.specs.declared.knows.Knows.{Knows}

-- what a target remembers, beside the snapshots and aggregations that it makes with others
abbrev pub memory_of : Knows → TargetMemory
memory_of k = record { ticks = k.hlc.ticks; stamps = k.stamps.reads; leader = k.leader; member = k.member.memory; collecting = [] }

-- ---- what it keeps

-- the epochs of versions are numbers of 64 bits
abbrev pub HasEpochs : Durable → Type 0
HasEpochs d = All (λ v. v.epoch.0 < 2 ^ 64) d.versions

-- no version is later than these ticks, and the lease covers them
pub record IsHeard (ticks : ℕ) (d : Durable) : Type 0 where
  pub versions : All (λ v. v.epoch.0 / 256 ≤ ticks) d.versions
  pub leased : ticks ≤ d.lease

-- an attempt is prepared here, and this target leads it
pub record IsOpenHere (me : ℕ) (a : AttemptId) (d : Durable) : Type 0 where
  pub entry : Entry
  pub here : entry_of d a ≡ Some entry
  pub unsettled : entry.committed ≡ false
  pub led : entry.leader ≡ me

-- The attempts that a leader remembers are prepared here, and it leads them. Those that are decided stand in order, and none of them
-- is undecided.
pub record AreRowsOpen (me : ℕ) (m : LeaderMemory) (d : Durable) : Type 0 where
  pub order : is_rising attempt_key m.decided ≡ true
  pub decided : (a : AttemptId) → Has a m.decided → IsOpenHere me a d
  pub undecided : (u : Undecided) → Has u m.undecided → IsOpenHere me u.attempt d
  pub apart : (u : Undecided) → Has u m.undecided → Has u.attempt m.decided → ⊥

-- an attempt that isn't among those that are decided or undecided here
pub record IsApart (a : AttemptId) (m : LeaderMemory) : Type 0 where
  pub decided : Has a m.decided → ⊥
  pub undecided : (u : Undecided) → Has u m.undecided → u.attempt ≡ a → ⊥

-- ---- Fetches that wait

-- a Fetch that may wait: it has form, and its epoch is known
abbrev pub IsParkable : Message → Type 0
IsParkable (Fetch x op group ep first tracker r snapshot) = IsReadAsked r ep snapshot × (is_some ep ≡ true)
IsParkable m = ⊥

-- the container that it reads is here
abbrev pub IsAskHere : Message → Durable → Type 0
IsAskHere (Fetch x op group ep first tracker r snapshot) d = is_enlisted d (read_path r).cont ≡ true
IsAskHere m d = ⊥

abbrev pub AreParkable : MemberMemory → Type 0
AreParkable m = (p : Parked) → Has p m.parked → IsParkable p.ask

abbrev pub AreAsksHere : MemberMemory → Durable → Type 0
AreAsksHere m d = (p : Parked) → Has p m.parked → IsAskHere p.ask d

-- ---- a target

-- What a target remembers fits what it keeps: it knows the entries; the attempts that it has to settle are prepared here; no version is
-- later than its ticks, and the lease covers them; and what the Fetches that wait read is here.
pub record LeadsWell (t : TargetPlan) (m : TargetMemory) (es : List Entry) (d : Durable) : Type 0 where
  pub entries : es ≡ d.entries
  pub rows : AreRowsOpen t.me m.leader d
  pub heard : IsHeard m.ticks d
  pub asks : AreAsksHere m.member d

-- what holds of what a target knows whatever it keeps: its epochs bear its number, and the Fetches that wait have form
pub record IsOwn (t : TargetPlan) (k : Knows) : Type 0 where
  pub clock : k.hlc.target ≡ t.me
  pub member : k.member.me ≡ t.me
  pub parked : AreParkable k.member.memory

-- all but the entries and what is remembered as a leader stays
pub record IsBeside (old new : Knows) : Type 0 where
  pub hlc : new.hlc ≡ old.hlc
  pub stamps : new.stamps ≡ old.stamps
  pub member : new.member ≡ old.member
