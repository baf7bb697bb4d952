-- Every right event keeps that an undecided attempt waits for a member, and that no member is known to be down.
use Rattle.std.specs.Prelude.{ℕ, ◌≡◌, ◌⊎◌, false, List, slice_get, Option, Some, None, refl}
use Rattle.std.specs.List.{list_all}
use Rattle.std.proofs.Common.{sym, ◌∙◌, ap, subst, inl, inr}
use Rattle.base_types.specs.declared.entry.Entry.{Entry}
use Rattle.base_types.specs.declared.epoch.Epoch.{Epoch}
use Rattle.base_types.specs.declared.id.AttemptId.{AttemptId}
use Rattle.base_types.specs.declared.operation.MinorWrite.{MinorWrite}
use Rattle.base_types.specs.declared.outcome.FloorWhy.{FloorWhy}
use Rattle.base_types.specs.declared.outcome.Outcome.{Outcome}
use Rattle.base_types.specs.Placement.{writes_members}
use Rattle.base_messages.specs.declared.actor.ActorId.{ActorId}
use Rattle.base_messages.specs.declared.message.Message.{Message}
use Rattle.base_messages.specs.declared.message.Message.TheVariants as message
use Rattle.base_messages.specs.declared.message.Post.{Post}
use Rattle.daos_model.specs.declared.durable.Durable.{Durable}
use Rattle.dtx_base.specs.declared.leading.Undecided.{Undecided}
use Rattle.dtx_base.specs.Leading.{ack_heard, entry_led, undecided_attempt}
use Rattle.dtx_base.specs.Members.{has_target, other_members}
use Rattle.dtx_base.specs.Rows.{row_of}
use Rattle.world_commit.specs.asks.Asks.{RowsLack}
use Rattle.world_commit.specs.asks.Knowing.{CommitsAreNew, KnowsAttempts, unborn-still}
use Rattle.world_commit.specs.asks.Moving.{TargetMoves, goes-moves, heard-moves, hears-moves, idle-moves, now-here, same-there}
use Rattle.world_commit.specs.asks.Rows.{IsLacking, LeadsOn, ack-leads, begun-rows}
use Rattle.world_commit.specs.attempts.Attempts.{entry_in, leader_of, members_of, others_of, row_at, row_in}
use Rattle.world_commit.specs.attempts.Counting.{has-taken}
use Rattle.world_commit.specs.attempts.History.{History}
use Rattle.world_commit.specs.attempts.Stored.{led-found, target-is}
use Rattle.world_commit.specs.attempts.MemberBits.{others-same}
use Rattle.world_commit.specs.attempts.Turning.{one-or_another}
use Rattle.world_base.specs.declared.did.Did.{Did}
use Rattle.world_base.specs.declared.letter.Letter.{Letter}
use Rattle.world_base.specs.declared.request.CommitRequest.{CommitRequest}
use Rattle.world_base.specs.declared.target.TargetMemory.{TargetMemory}
use Rattle.world_base.specs.declared.target.TargetPlan.{TargetPlan}
use Rattle.world_base.specs.declared.target.TargetState.{TargetState}
use Rattle.world_base.specs.declared.world.World.{World}
use Rattle.world_base.specs.Events.{ByClient, ByTarget, RightEvent, Rules, TargetHearsRightly, ToClient, ToTarget, kept, target_after, target_plan}
use Rattle.world_base.specs.Acks as ack
use Rattle.world_base.specs.Changes.{Change, Kept, Steps}
use Rattle.world_base.specs.Commits as commit
use Rattle.world_base.specs.Commits.{bits_of}
use Rattle.world_base.specs.MemoryLaws.{commit-leaves, fetch-leaves, idle-leaves, mark-leaves, marked-leaves, prepare-leaves, query-leaves, verdict-leaves}
use Rattle.world_base.specs.PathLaws.{reached-keeps}
use Rattle.world_base.specs.RightTurns.{HearsRightly}
use Rattle.world_base.specs.Roles.{is_in_doubt, leader_at}
use Rattle.world_base.specs.TargetTurns.{commit_request, fetch_request, prepare_request}
use Rattle.world_base.specs.Turns.{Whole}

-- ---- a turn

-- a row that comes is of an attempt that begins, or whose Ack is heard
abbrev pub IsNewRow : TargetPlan → TargetMemory → Durable → AttemptId → Entry → Message → Type 0
IsNewRow t m d x e (message.Ack y inc refusal) = entry_led x (leader_at t m d) ≡ Some e
IsNewRow t m d x e (message.Commit y ep first tracker ws) = (x ≡ y) × ((own : Epoch) × (e ≡ commit.led_entry t (commit_request y ep first tracker ws) own))
IsNewRow t m d x e q = ⊥

-- an attempt that begins has no row yet
abbrev pub IsFresh : TargetMemory → Message → Type 0
IsFresh m (message.Commit y ep first tracker ws) = row_of undecided_attempt y m.leader.undecided ≡ None
IsFresh m q = Unit {0}

-- what is left of rows after a turn that hears a message
pub record RowsAfter (t : TargetPlan) (m : TargetMemory) (d : Durable) (q : Message) (n : TargetMemory) : Type 0 where
  pub rows : (x : AttemptId) (u : Undecided) → row_of undecided_attempt x n.leader.undecided ≡ Some u → (row_of undecided_attempt x m.leader.undecided ≡ Some u) ⊎ ((e : Entry) × IsNewRow t m d x e q × IsLacking e u)
  pub down : n.leader.down ≡ m.leader.down

rows-same : (t : TargetPlan) (m n : TargetMemory) (d : Durable) (q : Message) → n.leader.undecided ≡ m.leader.undecided → n.leader.down ≡ m.leader.down → RowsAfter t m d q n
rows-same t m n d q same down = record { rows = λ x u at. inl (ap (row_of undecided_attempt x) (sym same) ∙ at); down = down }

-- an Ack
abbrev AckStands : TargetPlan → TargetMemory → ℕ → AttemptId → ℕ → Option Outcome → Kept → ack.AckStage → Kept → Type 0
AckStands t m member a inc refusal old ack.Heard k = k ≡ old
AckStands t m member a inc refusal old (ack.Followed s) k = LeadsOn (leader_at t m old.durable) s

ack-step : (t : TargetPlan) (m : TargetMemory) (member : ℕ) (a : AttemptId) (inc : ℕ) (refusal : Option Outcome) (old : Kept) (s : ack.AckStage) (k : Kept) (o : Option Change) (u : ack.AckStage) (l : Kept)
    → ack.AckNext t m member a inc refusal s k o u → Steps o k l → AckStands t m member a inc refusal old s k → AckStands t m member a inc refusal old u l
ack-step t m member a inc refusal old s k o u l (ack.Aborts j is) steps h = subst (λ z. LeadsOn (leader_at t m z.durable) (ack_heard member a inc refusal (leader_at t m k.durable))) h (ack-leads member a inc refusal (leader_at t m k.durable))
ack-step t m member a inc refusal old s k o u l (ack.Counts j is) steps h = subst (λ z. LeadsOn (leader_at t m z.durable) (ack_heard member a inc refusal (leader_at t m k.durable))) h (ack-leads member a inc refusal (leader_at t m k.durable))

ack-ends : (t : TargetPlan) (m : TargetMemory) (member : ℕ) (a : AttemptId) (inc : ℕ) (refusal : Option Outcome) (old : Kept) (s : ack.AckStage) (k : Kept) (left : TargetMemory × Did)
    → AckStands t m member a inc refusal old s k → ack.AckEnds m s k left → RowsAfter t m old.durable (message.Ack a inc refusal) left.0
ack-ends t m member a inc refusal old s k left stands (ack.IsFollowed j step z is) = subst (λ x. RowsAfter t m old.durable (message.Ack a inc refusal) x.0) (sym is) (record { rows = stands.rows; down = stands.down })

-- whatever a leader hears as an Ack
pub acks-rows : (t : TargetPlan) (m : TargetMemory) (member : ℕ) (a : AttemptId) (inc : ℕ) (refusal : Option Outcome) (old new : Kept) (left : TargetMemory × Did) → Whole (ack.AckNext t m member a inc refusal) (ack.AckEnds m) ack.Heard old new left
    → RowsAfter t m old.durable (message.Ack a inc refusal) left.0
acks-rows t m member a inc refusal old new left h =
    ack-ends t m member a inc refusal old h.last new left (reached-keeps (ack.AckNext t m member a inc refusal) (AckStands t m member a inc refusal old) (ack-step t m member a inc refusal old) ack.Heard old h.last new h.reached refl) h.ends

-- a Commit
commit-ends : (t : TargetPlan) (opening : Epoch × FloorWhy) (m : TargetMemory) (reading : ℕ) (x : AttemptId) (ep first : Option Epoch) (tracker : Epoch) (ws : List MinorWrite) (from : ActorId) (d : Durable) (s : commit.CommitStage) (k : Kept)
    (left : TargetMemory × Did) → row_of undecided_attempt x m.leader.undecided ≡ None → commit.CommitEnds t opening m reading (commit_request x ep first tracker ws) from s k left
    → RowsAfter t m d (message.Commit x ep first tracker ws) left.0
commit-ends t opening m reading x ep first tracker ws from d s k left none (commit.IsSpent j z spent is) = rows-same t m left.0 d (message.Commit x ep first tracker ws) (ap (λ y. y.0.leader.undecided) is) (ap (λ y. y.0.leader.down) is)
commit-ends t opening m reading x ep first tracker ws from d s k left none (commit.IsRefused j e c z why is) = rows-same t m left.0 d (message.Commit x ep first tracker ws) (ap (λ y. y.0.leader.undecided) is) (ap (λ y. y.0.leader.down) is)
commit-ends t opening m reading x ep first tracker ws from d s k left none (commit.HasNoSpace j e z allowed full is) =
    rows-same t m left.0 d (message.Commit x ep first tracker ws) (ap (λ y. y.0.leader.undecided) is) (ap (λ y. y.0.leader.down) is)
commit-ends t opening m reading x ep first tracker ws from d s k left none (commit.HasBegun j e z is) = record {
  rows = λ y u at.
      elim (begun-rows (commit.led_entry t q e) first from ws (leader_at t m k.durable) none y u (ap (λ n. row_of undecided_attempt y n.0.leader.undecided) (sym is) ∙ at)) [
        | inl old ↦ inl old
        | inr new ↦ inr (commit.led_entry t q e, (new.0, (e, refl)), new.1)
      ];
  down = (commit-leaves t opening m reading q from (commit.Stored e) k left (commit.HasBegun k e left is)).down;
}
  where
    q : CommitRequest
    q = commit_request x ep first tracker ws

pub hears-rows : (t : TargetPlan) (opening : Epoch × FloorWhy) (m : TargetMemory) (reading : ℕ) (from : ActorId) (q : Message) (old new : Kept) (left : TargetMemory × Did)
    → HearsRightly t opening m reading from q old new left → IsFresh m q → RowsAfter t m old.durable q left.0
hears-rows t opening m reading from (message.Fetch x op group ep first tracker r snapshot) old new left h fresh =
    let k = (fetch-leaves t m reading (fetch_request x op group ep first tracker r snapshot) from h.last new left h.ends).leads in
    rows-same t m left.0 old.durable (message.Fetch x op group ep first tracker r snapshot) k.undecided k.down
hears-rows t opening m reading from (message.Commit x ep first tracker ws) old new left h fresh = commit-ends t opening m reading x ep first tracker ws from old.durable h.last new left fresh h.ends
hears-rows t opening m reading from (message.Prepare e first ws inc) old new left h fresh =
    let k = prepare-leaves t opening m (prepare_request e first ws inc) h.last new left h.ends in
    rows-same t m left.0 old.durable (message.Prepare e first ws inc) (ap (λ z. z.leader.undecided) k) (ap (λ z. z.leader.down) k)
hears-rows t opening m reading from (message.Ack x inc refusal) old new left h fresh = acks-rows t m from.number x inc refusal old new left h
hears-rows t opening m reading from (message.Mark inc marks) old new left h fresh =
    let k = mark-leaves m from inc marks h.last new left h.ends in rows-same t m left.0 old.durable (message.Mark inc marks) (ap (λ z. z.leader.undecided) k) (ap (λ z. z.leader.down) k)
hears-rows t opening m reading from (message.Marked inc ids) old new left h fresh =
    let k = marked-leaves t m from.number inc ids h.last new left h.ends in rows-same t m left.0 old.durable (message.Marked inc ids) k.undecided k.down
hears-rows t opening m reading from (message.Query x ask) old new left h fresh =
    let k = query-leaves t m from x ask h.last new left h.ends in rows-same t m left.0 old.durable (message.Query x ask) (ap (λ z. z.leader.undecided) k) (ap (λ z. z.leader.down) k)
hears-rows t opening m reading from (message.Verdict x ask inc v) old new left h fresh =
    let k = (verdict-leaves (is_in_doubt t.me) t m reading x ask v old new left h).0.leads in rows-same t m left.0 old.durable (message.Verdict x ask inc v) k.undecided k.down
hears-rows t opening m reading from q old new left h fresh = absurd h

-- ---- the world

-- where no target changes
client-rows : (r : Rules) (w v : World) → v.targets ≡ w.targets → RowsLack r w → RowsLack r v
client-rows r w v same k t x u at = k t x u (ap (λ ts. row_in (slice_get ts t) x) (sym same) ∙ at)

-- a target's turn, where each row that is left was there or lacks a member
pub target-rows : (r : Rules) (w v : World) (t : ℕ) (s z : TargetState) (heard : Option Letter) (posts : List Post) → TargetMoves w v t s z heard posts
    → ((x : AttemptId) (u : Undecided) → row_of undecided_attempt x z.memory.leader.undecided ≡ Some u → (row_of undecided_attempt x s.memory.leader.undecided ≡ Some u) ⊎ (list_all (has_target u.counted) (others_of r x) ≡ false))
    → RowsLack r w → RowsLack r v
target-rows r w v t s z heard posts g rows k u x q at = elim (one-or_another u t) [
  | inl same ↦
      elim (rows x q (ap (λ o. row_in o x) (sym (now-here w v t s z heard posts g)) ∙ ap (λ n. row_at v n x) (sym same) ∙ at)) [
        | inl old ↦ k t x q (ap (λ o. row_in o x) g.here ∙ old)
        | inr lacks ↦ lacks
      ]
  | inr other ↦ k u x q (ap (λ o. row_in o x) (sym (same-there w v t s z heard posts g u other)) ∙ at)
]

abbrev pub mask_in : Option TargetState → ℕ
mask_in None = 0
mask_in (Some s) = s.memory.leader.down

-- the targets that one knows to be down
abbrev pub mask_at : World → ℕ → ℕ
mask_at w t = mask_in (slice_get w.targets t)

target-masks : (w v : World) (t : ℕ) (s z : TargetState) (heard : Option Letter) (posts : List Post) → TargetMoves w v t s z heard posts → z.memory.leader.down ≡ s.memory.leader.down → (u : ℕ) → mask_at v u ≡ mask_at w u
target-masks w v t s z heard posts g down u = elim (one-or_another u t) [
  | inl same ↦ subst (λ n. mask_at v n ≡ mask_at w n) (sym same) (ap mask_in (now-here w v t s z heard posts g) ∙ down ∙ sym (ap mask_in g.here))
  | inr other ↦ ap mask_in (same-there w v t s z heard posts g u other)
]

-- the entry of a row that was there has the other members of its attempt
pub led-others : (r : Rules) (h : History) (w : World) → KnowsAttempts r h w → (t : ℕ) (s : TargetState) → slice_get w.targets t ≡ Some s → (x : AttemptId) (e : Entry) → entry_led x (leader_at (target_plan r t) s.memory s.durable) ≡ Some e
    → other_members e ≡ others_of r x
led-others r h w A t s here x e led =
    let found = led-found (target_plan r t) s.memory s.durable x e (A.ordered t s here).entries led in
    let its = (A.entries x).one t e (ap (λ o. entry_in o x) here ∙ found.0) in
    others-same r x e its.leader its.members

module _ (r : Rules) (h : History) (w v : World) (Q : CommitsAreNew r h w) (A : KnowsAttempts r h w) (g : TargetHearsRightly r w v) where
  -- a Commit brings an attempt that has no row yet
  fresh-of : (said : Message) → g.l.message ≡ said → IsFresh g.s.memory said
  fresh-of (message.Commit x ep first tracker ws) is =
      let new = Q g.l x ep first tracker ws (has-taken w.messages g.l g.rest g.takes) is in
      by (row_of undecided_attempt x g.s.memory.leader.undecided) refl (λ q at. unborn-still r h w x new.unstored new.unended (A.rows x g.t q at))
    where
      by : (o : Option Undecided) → row_of undecided_attempt x g.s.memory.leader.undecided ≡ o → ((q : Undecided) → row_at w g.t x ≡ Some q → ⊥) → o ≡ None
      by None at none = refl
      by (Some q) at none = absurd (none q (ap (λ o. row_in o x) g.here ∙ at))
  fresh-of said is = tt

  -- the entry of a new row has the other members of its attempt
  its-others : (x : AttemptId) (e : Entry) (said : Message) → g.l.message ≡ said → IsNewRow (target_plan r g.t) g.s.memory g.s.durable x e said → other_members e ≡ others_of r x
  its-others x e (message.Ack y inc refusal) is new = led-others r h w A g.t g.s g.here x e new
  its-others x e (message.Commit y ep first tracker ws) is new =
      let k = Q g.l y ep first tracker ws (has-taken w.messages g.l g.rest g.takes) is in
      let leads : g.t ≡ leader_of r y = target-is g.t (leader_of r y) (sym g.to_it ∙ k.receiver) in
      let members : bits_of (writes_members ws r.script.targets) ≡ members_of r y = ap (λ z. bits_of (writes_members z r.script.targets)) k.writes in
      others-same r x e (ap (λ z. z.leader) new.1.1 ∙ leads ∙ ap (leader_of r) (sym new.0)) (ap (λ z. z.members) new.1.1 ∙ members ∙ ap (members_of r) (sym new.0))
  its-others x e said is new = absurd new

  after : RowsAfter (target_plan r g.t) g.s.memory g.s.durable g.l.message g.memory
  after = hears-rows (target_plan r g.t) g.s.opening g.s.memory g.reading g.l.from g.l.message (kept g.s) g.new (g.memory, g.did) g.turn (fresh-of g.l.message refl)

  heard-rows : RowsLack r w → RowsLack r v
  heard-rows k = target-rows r w v g.t g.s (target_after g.s g.new g.memory) (Some g.l) g.did.posts (heard-moves r w v g) (λ x u at. elim (after.rows x u at) [
    | inl old ↦ inl old
    | inr new ↦ inr (ap (list_all (has_target u.counted)) (sym (its-others x new.0 g.l.message refl new.1)) ∙ new.2)
  ]) k

  heard-masks : (u : ℕ) → mask_at v u ≡ mask_at w u
  heard-masks = target-masks w v g.t g.s (target_after g.s g.new g.memory) (Some g.l) g.did.posts (heard-moves r w v g) after.down

module _ (r : Rules) (h : History) (w v : World) (Q : CommitsAreNew r h w) (A : KnowsAttempts r h w) where
  pub lacks-kept : RowsLack r w → RightEvent r w v → RowsLack r v
  lacks-kept k (ByClient g) = client-rows r w v (goes-moves r w v g).targets k
  lacks-kept k (ToClient g) = client-rows r w v (hears-moves r w v g).targets k
  lacks-kept k (ToTarget g) = heard-rows r h w v Q A g k
  lacks-kept k (ByTarget g) =
      let l = idle-leaves g.settling (target_plan r g.t) g.s.memory g.turn.last g.new (g.memory, g.did) g.turn.ends in
      target-rows r w v g.t g.s (target_after g.s g.new g.memory) None g.did.posts (idle-moves r w v g) (λ x u at. inl (ap (row_of undecided_attempt x) (sym l.undecided) ∙ at)) k

  -- each target knows the same ones to be down
  pub masks-kept : RightEvent r w v → (u : ℕ) → mask_at v u ≡ mask_at w u
  masks-kept (ByClient g) u = ap (λ ts. mask_in (slice_get ts u)) (goes-moves r w v g).targets
  masks-kept (ToClient g) u = ap (λ ts. mask_in (slice_get ts u)) (hears-moves r w v g).targets
  masks-kept (ToTarget g) u = heard-masks r h w v Q A g u
  masks-kept (ByTarget g) u =
      target-masks w v g.t g.s (target_after g.s g.new g.memory) None g.did.posts (idle-moves r w v g) (idle-leaves g.settling (target_plan r g.t) g.s.memory g.turn.last g.new (g.memory, g.did) g.turn.ends).down u
