-- What a target's turn issues that hears a request: nothing, or an epoch to the attempt that asks for one.
use Rattle.std.specs.Prelude.{ℕ, ◌≡◌, ◌≤◌, ◌/◌, false, if◌then◌else◌, List, Option, Some, None, refl}
use Rattle.std.proofs.Common.{sym, ◌∙◌, ap, subst, arith}
use Rattle.base_types.specs.declared.epoch.Epoch.{Epoch}
use Rattle.base_types.specs.declared.id.AttemptId.{AttemptId}
use Rattle.base_types.specs.declared.outcome.FloorWhy.{FloorWhy}
use Rattle.base_types.specs.Epochs.{heard_ticks}
use Rattle.base_messages.specs.declared.actor.ActorId.{ActorId}
use Rattle.base_messages.specs.declared.message.Message.{Message}
use Rattle.world_base.specs.declared.did.Did.{Did}
use Rattle.world_base.specs.declared.request.CommitRequest.{CommitRequest}
use Rattle.world_base.specs.declared.request.FetchRequest.{FetchRequest}
use Rattle.world_base.specs.declared.target.TargetMemory.{TargetMemory}
use Rattle.world_base.specs.declared.target.TargetPlan.{TargetPlan}
use Rattle.world_base.specs.Changes.{Kept}
use Rattle.world_base.specs.Commits as commit
use Rattle.world_base.specs.Further as further
use Rattle.world_base.specs.MemoryLaws.{heard-up}
use Rattle.world_base.specs.Reads as read
use Rattle.world_base.specs.Requests.{issued_for, request_epoch, with_ticks}
use Rattle.world_letters.specs.epochs.CommitTurns.{CommitStands}
use Rattle.world_letters.specs.epochs.Epochs.{AsksEpoch}
use Rattle.world_letters.specs.epochs.FetchTurns as dates
use Rattle.world_letters.specs.epochs.FetchTurns.{Covers, Dates, FetchStands}
use Rattle.world_letters.specs.epochs.Sayings.{Known}
use Rattle.world_letters.specs.epochs.TargetEvents.{Issuing, ItsEpoch, Nothing}

-- ---- each kind of request

fetch-ticks : (q : FetchRequest) (e : Epoch) (decided : List AttemptId) (m : TargetMemory) → q.snapshot ≡ false → (read.memory_then q e decided m).ticks ≡ heard_ticks m.ticks e.0
fetch-ticks q e decided m plain = ap (λ b. (if b then m else with_ticks e m).ticks) plain

-- a read that isn't at a snapshot
pub fetch-dates : (t : TargetPlan) (m : TargetMemory) (reading : ℕ) (q : FetchRequest) (from : ActorId) → q.snapshot ≡ false → (s : read.FetchStage) (k : Kept) (left : TargetMemory × Did) → read.FetchEnds t m reading q from s k left → FetchStands t m reading q s k
    → Dates t m reading q.attempt q.ep q.tracker k.durable.lease left
fetch-dates t m reading q from plain s k left (read.IsSpent j i at none is) h = dates.IsSpent none (ap (λ z. z.1.issued) is)
fetch-dates t m reading q from plain s k left (read.IsRefused j e decided c i why is) h =
    dates.IsDated e h (ap (λ z. z.1.issued) is) (subst (λ n. e.0 / 256 ≤ n) (sym (ap (λ z. z.0.ticks) is ∙ fetch-ticks q e decided m plain)) (heard-up m.ticks e.0).1)
fetch-dates t m reading q from plain s k left (read.MeetsUnresolved j e decided a i none unsettled among other is) h =
    dates.IsDated e h (ap (λ z. z.1.issued) is) (subst (λ n. e.0 / 256 ≤ n) (sym (ap (λ z. z.0.ticks) is ∙ fetch-ticks q e decided m plain)) (heard-up m.ticks e.0).1)
fetch-dates t m reading q from plain s k left (read.IsParked j e decided a leader i none unsettled other is) h =
    dates.IsDated e h (ap (λ z. z.1.issued) is) (subst (λ n. e.0 / 256 ≤ n) (sym (ap (λ z. z.0.ticks) is ∙ fetch-ticks q e decided m plain)) (heard-up m.ticks e.0).1)
fetch-dates t m reading q from plain s k left (read.IsServed j e decided b i none ok is) h =
    dates.IsDated e h (ap (λ z. z.1.issued) is) (subst (λ n. e.0 / 256 ≤ n) (sym (ap (λ z. z.0.ticks) is ∙ fetch-ticks q e decided m plain)) (heard-up m.ticks e.0).1)

pub commit-dates : (t : TargetPlan) (opening : Epoch × FloorWhy) (m : TargetMemory) (reading : ℕ) (q : CommitRequest) (from : ActorId) (s : commit.CommitStage) (k : Kept) (left : TargetMemory × Did) → commit.CommitEnds t opening m reading q from s k left
    → CommitStands t m reading q s k → Dates t m reading q.attempt q.ep q.tracker k.durable.lease left
commit-dates t opening m reading q from s k left (commit.IsSpent j i none is) h = dates.IsSpent none (ap (λ z. z.1.issued) is)
commit-dates t opening m reading q from s k left (commit.IsRefused j e c i why is) h = dates.IsDated e h (ap (λ z. z.1.issued) is) (subst (λ z. e.0 / 256 ≤ z.0.ticks) (sym is) (heard-up m.ticks e.0).1)
commit-dates t opening m reading q from s k left (commit.HasNoSpace j e i allowed space is) h = dates.IsDated e h (ap (λ z. z.1.issued) is) (subst (λ z. e.0 / 256 ≤ z.0.ticks) (sym is) (heard-up m.ticks e.0).1)
commit-dates t opening m reading q from s k left (commit.HasBegun j e i is) h = dates.IsDated e h (ap (λ z. z.1.issued) is) (subst (λ z. e.0 / 256 ≤ z.0.ticks) (sym is) (heard-up m.ticks e.0).1)

-- a Commit with a member that is known to be down; its ticks don't go down
pub down-dates : (t : TargetPlan) (m : TargetMemory) (reading : ℕ) (q : CommitRequest) (from : ActorId) (s : commit.CommitStage) (k : Kept) (left : TargetMemory × Did) → further.CommitDown t m reading q from s k left → CommitStands t m reading q s k
    → Dates t m reading q.attempt q.ep q.tracker k.durable.lease left × (m.ticks ≤ left.0.ticks)
down-dates t m reading q from s k left (further.IsSpent j e down i none known is) h = (dates.IsSpent none (ap (λ z. z.1.issued) is), subst (λ z. m.ticks ≤ z.0.ticks) (sym is) (omega arith))
down-dates t m reading q from s k left (further.IsUnknown j e down i known is) h =
    (dates.IsDated e h (ap (λ z. z.1.issued) is) (subst (λ z. e.0 / 256 ≤ z.0.ticks) (sym is) (heard-up m.ticks e.0).1), subst (λ z. m.ticks ≤ z.0.ticks) (sym is) (heard-up m.ticks e.0).0)

-- ---- what follows

module _ (t : TargetPlan) (m : TargetMemory) (reading : ℕ) (said : Message) (x : AttemptId) (ep : Option Epoch) (tracker : Epoch) (lease : ℕ) (left : TargetMemory × Did) (asks : ep ≡ None → AsksEpoch said x tracker) (D : Dates t m reading x ep tracker lease left) where
  pub dates-issue : Issuing t m reading said lease left
  dates-issue = by D
    where
      dated : (o : Option Epoch) → ep ≡ o → (e : Epoch) → Covers t m reading tracker o e lease → left.1.issued ≡ issued_for x o e → e.0 / 256 ≤ left.0.ticks → Issuing t m reading said lease left
      dated None none e c is up = ItsEpoch x e tracker (asks none) c is up
      dated (Some own) some e c is up = Nothing is

      by : Dates t m reading x ep tracker lease left → Issuing t m reading said lease left
      by (dates.IsSpent none is) = Nothing is
      by (dates.IsDated e c is up) = dated ep refl e c is up

  -- the epoch of the request was its own, or is issued now
  pub dates-know : (P : Known) → ((e : Epoch) → ep ≡ Some e → P x e) → ((e : Epoch) → left.1.issued ≡ Some (x, e) → P x e) → (e : Epoch) → request_epoch t m reading tracker ep ≡ Some e → P x e
  dates-know P own new e found = by D
    where
      same : (f : Epoch) → Some f ≡ Some e → f ≡ e
      same f is = cc

      dated : (o : Option Epoch) → ep ≡ o → (f : Epoch) → left.1.issued ≡ issued_for x o f → f ≡ e → request_epoch t m reading tracker o ≡ Some e → P x e
      dated None none f is one found' = subst (P x) one (new f is)
      dated (Some g) some f is one found' = subst (P x) (same g found') (own g some)

      by : Dates t m reading x ep tracker lease left → P x e
      by (dates.IsSpent none is) = let no : ⊥ = cc in absurd no
      by (dates.IsDated f c is up) = dated ep refl f is (same f (sym c.found ∙ found)) found

  -- where there is none, none is issued
  pub dates-spent : request_epoch t m reading tracker ep ≡ None → (ep ≡ None) × (left.1.issued ≡ None)
  dates-spent none = (no-own ep refl none, by D)
    where
      no-own : (o : Option Epoch) → ep ≡ o → request_epoch t m reading tracker o ≡ None → ep ≡ None
      no-own None is k = is
      no-own (Some own) is k = let no : ⊥ = cc in absurd no

      by : Dates t m reading x ep tracker lease left → left.1.issued ≡ None
      by (dates.IsSpent k is) = is
      by (dates.IsDated f c is up) = let found : request_epoch t m reading tracker ep ≡ Some f = c.found in let no : ⊥ = cc in absurd no
