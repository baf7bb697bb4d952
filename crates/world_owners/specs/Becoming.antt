-- What becomes of what a target keeps: it is left, or an entry is stored on it with its writes.
use Rattle.std.specs.Prelude.{ℕ, ◌≡◌, ◌⊎◌, ◌<◌, Bool, false, List, Option, Some, None}
use Rattle.std.proofs.Common.{sym, ◌∙◌, ap, subst}
use Rattle.base_types.specs.declared.entry.Entry.{Entry}
use Rattle.base_types.specs.declared.epoch.Epoch.{Epoch}
use Rattle.base_types.specs.declared.operation.MinorWrite.{MinorWrite}
use Rattle.base_types.specs.Epochs.{lease_for}
use Rattle.base_messages.specs.declared.message.Message.{Message}
use Rattle.base_messages.specs.declared.message.Message.TheVariants as message
use Rattle.model_laws.specs.Members.{Has}
use Rattle.daos_model.specs.declared.durable.Durable.{Durable}
use Rattle.daos_model.specs.Changes.{prepared}
use Rattle.world_base.specs.declared.request.CommitRequest.{CommitRequest}
use Rattle.world_base.specs.declared.target.TargetMemory.{TargetMemory}
use Rattle.world_base.specs.declared.target.TargetPlan.{TargetPlan}
use Rattle.world_base.specs.ChangeLaws.{LeaseRises, entries-leased, extends-raises, lease-same, lease-steps, lease-then, versions-leased}
use Rattle.world_base.specs.Changes.{Change, Cut, Extends, Kept, Steps}
use Rattle.world_base.specs.Commits as commit
use Rattle.world_base.specs.Requests.{request_epoch}
use Rattle.world_base.specs.TargetTurns.{commit_request}
use Rattle.world_making.specs.world_causes.causes.Causes.{Dated}
use Rattle.world_making.specs.world_causes.showing.CutTurns.{is_store}
use Rattle.world_owners.specs.Changing.{IsLeftOf, left-cut, left-same, left-then}

-- What a Commit brings its target: the entry that this leads, at the epoch of the request, and the writes of its groups. An epoch that the
-- request doesn't bear counts as issued then.
pub record IsOfCommit (p : TargetPlan) (m : TargetMemory) (issued : Dated) (q : CommitRequest) (k : Entry) (ws : List MinorWrite) : Type 0 where
  pub reading : ℕ
  pub epoch : Epoch
  pub has : request_epoch p m reading q.tracker q.ep ≡ Some epoch
  pub dated : (q.ep ≡ Some epoch) ⊎ Has (q.attempt, epoch) issued
  pub entry : k ≡ commit.led_entry p q epoch
  pub writes : ws ≡ commit.own_writes p q.writes

-- What a message brings a target to store: a Commit that, and a Prepare the entry and the writes that it says.
abbrev pub Brings : TargetPlan → TargetMemory → Dated → Message → Entry → List MinorWrite → Type 0
Brings p m issued (message.Commit x ep first tracker own) k ws = IsOfCommit p m issued (commit_request x ep first tracker own) k ws
Brings p m issued (message.Prepare e first own inc) k ws = (k ≡ e) × (ws ≡ own)
Brings p m issued q k ws = ⊥

-- versions and entries are the same, and the lease is no lower
pub record IsExtended (d x : Durable) : Type 0 where
  pub versions : x.versions ≡ d.versions
  pub entries : x.entries ≡ d.entries
  pub lease : LeaseRises d x

-- an entry was stored with its writes, and perhaps the lease extended before
pub record IsStoredOn (d : Durable) (k : Entry) (ws : List MinorWrite) (e : Durable) : Type 0 where
  pub on : Durable
  pub extended : IsExtended d on
  pub now : e ≡ prepared k ws on

-- What a target keeps after an event: what is left of what it kept, or that with such an entry and its writes stored.
pub data Becomes (B : Entry → List MinorWrite → Type 0) (d e : Durable) : Type 0 where
  IsLeft : IsLeftOf d e → Becomes B d e
  IsStored : (k : Entry) (ws : List MinorWrite) → B k ws → IsStoredOn d k ws e → Becomes B d e

pub becomes-so : (B C : Entry → List MinorWrite → Type 0) (d e : Durable) → ((k : Entry) (ws : List MinorWrite) → B k ws → IsStoredOn d k ws e → C k ws) → Becomes B d e → Becomes C d e
becomes-so B C d e so (IsLeft left) = IsLeft left
becomes-so B C d e so (IsStored k ws b on) = IsStored k ws (so k ws b on) on

-- ---- the lease is extended

pub extended-itself : (d x : Durable) → x ≡ d → IsExtended d x
extended-itself d x is = record { versions = ap (λ y. y.versions) is; entries = ap (λ y. y.entries) is; lease = lease-same d x (ap (λ y. y.lease) is) }

pub left-extended : (d x : Durable) → IsExtended d x → IsLeftOf d x
left-extended d x e = left-same d x e.versions e.entries e.lease

pub extended-more : (d : Durable) (k l : Kept) (n ticks : ℕ) → k.durable.lease < n → lease_for n ≡ Some ticks → Steps (Some (Extends ticks)) k l → IsExtended d k.durable → IsExtended d l.durable
extended-more d k l n ticks low is st e = record {
  versions = ap (λ x. x.versions) st.0 ∙ versions-leased ticks k.durable ∙ e.versions;
  entries = ap (λ x. x.entries) st.0 ∙ entries-leased ticks k.durable ∙ e.entries;
  lease = lease-then d k.durable l.durable e.lease (lease-steps (Some (Extends ticks)) k l st (extends-raises k.durable n ticks low is));
}

pub extended-same : (d : Durable) (k l : Kept) → Steps None k l → IsExtended d k.durable → IsExtended d l.durable
extended-same d k l same e = subst (λ x. IsExtended d x.durable) (sym same) e

-- a step that was cut
abbrev pub StepIsCut : Option Change → Durable → Durable → Type 0
StepIsCut None d x = ⊥
StepIsCut (Some c) d x = Cut c d x

abbrev pub is_store_step : Option Change → Bool
is_store_step None = false
is_store_step (Some c) = is_store c

pub extending-cut : (d : Durable) (k : Kept) (n ticks : ℕ) (x : Durable) → k.durable.lease < n → lease_for n ≡ Some ticks → Cut (Extends ticks) k.durable x → IsExtended d k.durable → IsLeftOf d x
extending-cut d k n ticks x low is cut e = left-then d k.durable x (left-extended d k.durable e) (left-cut (Extends ticks) k.durable x (extends-raises k.durable n ticks low is) cut)
