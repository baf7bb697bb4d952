-- What the turns of the rows keep.
use Rattle.std.proofs.Common.{ℕ, ◌≡◌, refl, sym, ◌∙◌, ap, subst, true, false, List, [], ◌∷◌, map, find, Option, Some, None, Bool, Ok, arith}
use Rattle.std.specs.Prelude.{if◌then◌else◌}
use Rattle.std.specs.Option.{option_map}
use Rattle.base_types.specs.declared.entry.Entry.{Entry}
use Rattle.base_types.specs.declared.entry.Settle.TheVariants.{Commit}
use Rattle.base_types.specs.declared.epoch.Epoch.{Epoch}
use Rattle.base_types.specs.declared.id.AttemptId.{AttemptId}
use Rattle.base_types.specs.declared.operation.MinorWrite.{MinorWrite}
use Rattle.base_types.specs.declared.outcome.FloorWhy.{FloorWhy}
use Rattle.base_messages.specs.declared.actor.ActorId.{ActorId}
use Rattle.base_messages.specs.declared.message.Message.{Message}
use Rattle.daos_model.specs.declared.durable.Durable.{Durable}
use Rattle.daos_model.specs.Answers.{is_before}
use Rattle.daos_model.specs.Changes.{committed_at, enlisted, leased, prepared, settled}
use Rattle.daos_model.specs.Durables.{entry_key, entry_of, is_enlisted, is_entry_of, same_attempt}
use Rattle.daos_model.specs.Ordered.{put}
use Rattle.vos_store.specs.Calls.{State}
use Rattle.world_base.specs.declared.did.Did.{Did}
use Rattle.world_base.specs.declared.request.CommitRequest.{CommitRequest}
use Rattle.world_base.specs.declared.request.FetchRequest.{FetchRequest}
use Rattle.world_base.specs.declared.target.TargetMemory.{TargetMemory}
use Rattle.world_base.specs.declared.target.TargetPlan.{TargetPlan}
use Rattle.world_base.specs.Changes.{Change, Kept, Steps}
use Rattle.world_base.specs.Commits as commits
use Rattle.world_base.specs.Commits.{CommitNext, CommitStage}
use Rattle.world_base.specs.Reads as read
use Rattle.world_base.specs.Reads.{FetchNext, FetchStage}
use Rattle.world_base.specs.Turns.{Here, More, Path}
use Rattle.target_core.specs.HeardLaws.{commit-heard, heard-alike}
use Rattle.target_core.specs.Targets.{HearsOrStops}
use Rattle.target_parts.specs.Parts.{kept}
use Rattle.target_parts.specs.Knowing.{IsHeard}
use Rattle.target_tests.specs.Rows.{IsBlank, IsHere, commit, cont, fetch}

-- ---- a fact that each change of a turn keeps

module _ (P : Durable → Type 0) (leases : (lease : ℕ) (d : Durable) → P d → P (leased lease d)) (settles : (a : AttemptId) (d : Durable) → P d → P (settled a Commit d))
    (t : TargetPlan) (m : TargetMemory) (reading : ℕ) (q : FetchRequest)
  where
    next_fetch : (s : FetchStage) (k : Kept) (o : Option Change) (u : FetchStage) (l : Kept) → FetchNext t m reading q s k o u → Steps o k l → P k.durable → P l.durable
    next_fetch s k o u l (read.AtSnapshot x e snapshot ep) steps p = subst (λ y. P y.durable) (sym steps) p
    next_fetch s k o u l (read.HasEpoch x e snapshot ep) steps p = subst (λ y. P y.durable) (sym steps) p
    next_fetch s k o u l (read.ExtendsLease x e lease low is) steps p = subst P (sym steps.0) (leases lease k.durable p)
    next_fetch s k o u l (read.IsCovered x e covers) steps p = subst (λ y. P y.durable) (sym steps) p
    next_fetch s k o u l (read.SettlesOwn x e decided a none unsettled among) steps p = subst P (sym steps.0) (settles a k.durable p)

    pub fetch_keeps : (s : FetchStage) (k : Kept) (did : List Change) (u : FetchStage) (l : Kept) → Path (FetchNext t m reading q) s k did u l → P k.durable → P l.durable
    fetch_keeps s k did u l Here p = p
    fetch_keeps s k did u l (More before v n o w z rest next steps) p = next_fetch v n o u l next steps (fetch_keeps s k before v n rest p)

module _ (t : TargetPlan) (opening : Epoch × FloorWhy) (m : TargetMemory) (reading : ℕ) (q : CommitRequest)
    (P : Durable → Type 0) (leases : (lease : ℕ) (d : Durable) → P d → P (leased lease d)) (stores : (e : Entry) (ws : List MinorWrite) (d : Durable) → e.attempt ≡ q.attempt → P d → P (prepared e ws d))
  where
    next_commit : (s : CommitStage) (k : Kept) (o : Option Change) (u : CommitStage) (l : Kept) → CommitNext t opening m reading q s k o u → Steps o k l → P k.durable → P l.durable
    next_commit s k o u l (commits.HasEpoch x e ep) steps p = subst (λ y. P y.durable) (sym steps) p
    next_commit s k o u l (commits.ExtendsLease x e lease low is) steps p = subst P (sym steps.0) (leases lease k.durable p)
    next_commit s k o u l (commits.IsCovered x e covers) steps p = subst (λ y. P y.durable) (sym steps) p
    next_commit s k o u l (commits.Stores x e allowed space) steps p = subst P (sym steps.0) (stores (commits.led_entry t q e) (commits.own_writes t q.writes) k.durable refl p)

    pub commit_keeps : (s : CommitStage) (k : Kept) (did : List Change) (u : CommitStage) (l : Kept) → Path (CommitNext t opening m reading q) s k did u l → P k.durable → P l.durable
    commit_keeps s k did u l Here p = p
    commit_keeps s k did u l (More before v n o w z rest next steps) p = next_commit v n o u l next steps (commit_keeps s k before v n rest p)

-- ---- the container

pub here_leased : (lease : ℕ) (d : Durable) → IsHere d → IsHere (leased lease d)
unfolding leased is_enlisted
here_leased lease d h = h

pub here_settled : (a : AttemptId) (d : Durable) → IsHere d → IsHere (settled a Commit d)
unfolding settled is_enlisted
here_settled a d h = h

pub here_prepared : (e : Entry) (ws : List MinorWrite) (d : Durable) → IsHere d → IsHere (prepared e ws d)
unfolding prepared is_enlisted
here_prepared e ws d h = h

pub here_enlisted : (d : Durable) → d.conts ≡ [] → IsHere (enlisted (cont ∷ []) d)
unfolding enlisted is_enlisted
here_enlisted d none = rw none refl

-- ---- nothing was written

pub blank_leased : (lease : ℕ) (d : Durable) → IsBlank d → IsBlank (leased lease d)
unfolding leased
blank_leased lease d b = record { versions = b.versions; entries = b.entries }

pub blank_settled : (a : AttemptId) (d : Durable) → IsBlank d → IsBlank (settled a Commit d)
unfolding settled
blank_settled a d b = record { versions = ap (map _) b.versions; entries = ap (map (committed_at a)) b.entries }

pub blank_enlisted : (d : Durable) → IsBlank d → IsBlank (enlisted (cont ∷ []) d)
unfolding enlisted
blank_enlisted d b = record { versions = b.versions; entries = b.entries }

pub blank_heard : (d : Durable) → IsBlank d → IsHeard d.lease d
blank_heard d b = record { versions = rw b.versions (λ k v lt. absurd (omega arith)); leased = omega arith }

pub blank_absent : (a : AttemptId) (d : Durable) → IsBlank d → entry_of d a ≡ None
unfolding entry_of
blank_absent a d b = ap (find (is_entry_of a)) b.entries

-- ---- an attempt without an entry

pub absent_leased : (x : AttemptId) (lease : ℕ) (d : Durable) → entry_of d x ≡ None → entry_of (leased lease d) x ≡ None
unfolding leased entry_of
absent_leased x lease d h = h

not_found : (e : Entry) (x : AttemptId) (es : List Entry) → same_attempt e.attempt x ≡ false → find (is_entry_of x) es ≡ None → find (is_entry_of x) (put entry_key e es) ≡ None
not_found e x [] apart none = ap (λ (t : Bool). if t then Some e else None) apart
not_found e x (y ∷ es) apart none =
    elim (is_before (entry_key y) (entry_key e)) as (λ t. find (is_entry_of x) (if t then y ∷ put entry_key e es else e ∷ y ∷ es) ≡ None) [
      | true ↦ elim (same_attempt y.attempt x) as (λ t. (if t then Some y else find (is_entry_of x) es) ≡ None → (if t then Some y else find (is_entry_of x) (put entry_key e es)) ≡ None) [
        | true ↦ λ h. absurd (let n : ⊥ = cc in n)
        | false ↦ λ h. not_found e x es apart h
      ] none
      | false ↦ ap (λ (t : Bool). if t then Some e else find (is_entry_of x) (y ∷ es)) apart ∙ none
    ]

pub absent_prepared : (x : AttemptId) (e : Entry) (ws : List MinorWrite) (d : Durable) → same_attempt e.attempt x ≡ false → entry_of d x ≡ None → entry_of (prepared e ws d) x ≡ None
unfolding prepared entry_of
absent_prepared x e ws d apart h = not_found e x d.entries apart h

-- two attempts of the first command of the first client
abbrev pub tried : ℕ → AttemptId
tried n = record { client = 0; command = 0; attempt = n }

pub tries_apart : same_attempt (tried 0) (tried 1) ≡ false
unfolding same_attempt
tries_apart = refl

-- ---- turns

-- what is kept after a change was kept before it
pub mapped : (f : Durable → Durable) (old : Option Durable) (x : Durable) → option_map f old ≡ Some x → (d : Durable) × (old ≡ Some d) × (f d ≡ x)
mapped f None x is = absurd (let n : ⊥ = cc in n)
mapped f (Some d) x is = (d, refl, (let same : f d ≡ x = cc in same))

pub read_keeps : (P : Durable → Type 0) → ((lease : ℕ) (d : Durable) → P d → P (leased lease d)) → ((a : AttemptId) (d : Durable) → P d → P (settled a Commit d))
    → (t : TargetPlan) (m : TargetMemory) (reading : ℕ) (from : ActorId) (by : AttemptId) (key : List ℕ) (message : Message) (d : Durable) (h k : State) (new : Option Durable) (finds : Durable → Type 0) (left : TargetMemory) (did : Did)
    → message ≡ fetch by key → HearsOrStops 0 t m reading from message d h new k finds left (Ok did) → P d → (x : Durable) × (new ≡ Some x) × P x
read_keeps P leases settles t m reading from by key message d h k new finds left did is turn p =
    let now = subst (λ x. HearsOrStops 0 t m reading from x d h new k finds left (Ok did)) is turn in
    let heard = heard-alike 0 t h.opening m reading from (kept d h) (kept now.durable k) (left, did) (fetch by key) refl now.holds in
    (now.durable, now.kept_is, fetch_keeps P leases settles t m reading _ _ _ _ _ _ heard.reached.path p)

pub write_keeps : (P : Durable → Type 0) (t : TargetPlan) (m : TargetMemory) (reading : ℕ) (from : ActorId) (by : AttemptId) (ep : Option Epoch) (key : List ℕ) (message : Message) (d : Durable) (h k : State) (new : Option Durable) (finds : Durable → Type 0)
    (left : TargetMemory) (did : Did) → ((lease : ℕ) (d : Durable) → P d → P (leased lease d)) → ((e : Entry) (ws : List MinorWrite) (d : Durable) → e.attempt ≡ by → P d → P (prepared e ws d))
    → message ≡ commit by ep key → HearsOrStops 0 t m reading from message d h new k finds left (Ok did) → P d → (x : Durable) × (new ≡ Some x) × P x
write_keeps P t m reading from by ep key message d h k new finds left did leases stores is turn p =
    let now = subst (λ x. HearsOrStops 0 t m reading from x d h new k finds left (Ok did)) is turn in
    let heard = commit-heard 0 t h.opening m reading from (kept d h) (kept now.durable k) (left, did) _ _ _ _ _ now.holds in
    (now.durable, now.kept_is, commit_keeps t h.opening m reading _ P leases stores _ _ _ _ _ heard.1.path p)
