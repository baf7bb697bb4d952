-- What is stored, or was about to be, is of attempts with writes.
use Rattle.std.specs.Prelude.{ℕ, ◌≡◌, ◌++◌, Bool, true, false, List, [], ◌∷◌, filter, slice_get, Contains, Option, Some, refl}
use Rattle.std.proofs.Common.{sym, ◌∙◌, ap, subst, inl, inr}
use Rattle.base_types.specs.declared.epoch.Epoch.{Epoch}
use Rattle.base_types.specs.declared.id.AttemptId.{AttemptId}
use Rattle.base_types.specs.declared.operation.MinorWrite.{MinorWrite}
use Rattle.base_messages.specs.declared.message.Message.{Message}
use Rattle.base_messages.specs.declared.message.Message.TheVariants as message
use Rattle.daos_model.specs.Accesses.{minor_writes}
use Rattle.daos_model.specs.EntryLaws.{same_attempt-itself}
use Rattle.daos_model.specs.Transactions.{attempt_ops}
use Rattle.daos_model.specs.declared.durable.Durable.{Durable}
use Rattle.model_laws.specs.Members.{Has, contains-from_has, has-cases, has-from_contains, has-from_filter, has-from_map}
use Rattle.world_legal.specs.world_commit.attempts.Counting.{has-taken}
use Rattle.world_legal.specs.world_commit.attempts.History.{History}
use Rattle.world_base.specs.declared.letter.Letter.{Letter}
use Rattle.world_base.specs.declared.target.TargetState.{TargetState}
use Rattle.world_base.specs.declared.world.World.{World}
use Rattle.world_base.specs.CutTurns.{CommitIsCut, HearingIsCut, NoneIsDown, OneIsDown}
use Rattle.world_base.specs.Events.{ByClient, ByTarget, Rules, ToClient, ToTarget, kept, target_after, target_plan}
use Rattle.world_base.specs.Roles.{is_prepared}
use Rattle.world_base.specs.StepLaws.{set-here}
use Rattle.world_base.specs.Stops.{AtWork, CutOf, Draws, Fails, Further, GivenUp, Happening, Hearing, IdleWork, IsCut, IsInHand, Opens, Plainly, TargetCut}
use Rattle.world_base.specs.TargetTurns.{commit_request}
use Rattle.world_legal.specs.world_causes.causes.Causes.{Stored, is_new_to, stored_as, stored_by}
use Rattle.world_letters.specs.epochs.Asking.{ops-at}
use Rattle.world_letters.specs.epochs.Epochs.{ClientsStand}
use Rattle.world_legal.specs.world_commit.fates.Facts.{Attempts, IsSaidSo}
use Rattle.world_legal.specs.world_causes.hearing.Going.{EntriesWrite}
use Rattle.world_legal.specs.world_causes.hearing.PlainTurns.{others-write}
use Rattle.world_legal.specs.world_causes.outcomes.Premises.{HandsOver, hands}
use Rattle.world_legal.specs.world_causes.showing.Cutting.{commit_stored, hearing_stored, work_stored}
use Rattle.world_legal.specs.world_causes.showing.CutTurns.{stored_if}
use Rattle.world_legal.specs.world_causes.showing.Happening.{stored_in}
use Rattle.world_legal.specs.world_causes.causes.StoreTurns.{IsCommitOf}
use Rattle.world_legal.specs.world_causes.causes.Storing.{IsPrepareOf}
use Rattle.world_legal.specs.world_causes.outcomes.Outcomes.{HasWrites}

-- it is so of each that is stored somewhere
abbrev pub StoredWrite : Rules → Stored → Type 0
StoredWrite r stored = (t : ℕ) (x : AttemptId) → Contains stored (t, x) → HasWrites r x

-- What is known of the world before an event: attempts; that clients stand at their commands, and wait for the ends of what they hand over. And
-- after it entries are of attempts with writes.
pub record IsWritingKnown (r : Rules) (h : History) (w v : World) : Type 0 where
  pub attempts : Attempts r h w
  pub hands : HandsOver r w
  pub stand : ClientsStand r w
  pub writes_then : EntriesWrite r v

-- ---- what is asked to be stored

module _ (r : Rules) (h : History) (w : World) (A : Attempts r h w) (hand : HandsOver r w) (stand : ClientsStand r w) where
  -- a client hands writes over
  commit-writes : (l : Letter) (x : AttemptId) → Has l w.messages → (m : Message) → l.message ≡ m → IsCommitOf m x → HasWrites r x
  commit-writes l x i (message.Commit y ep first tracker ws) is same =
      let asks : hands x l.message ≡ true = ap (hands x) is ∙ ap (λ n. hands x (message.Commit n ep first tracker ws)) same ∙ same_attempt-itself x in
      let z = hand.waits l x i asks in
      let j = stand x.client z.c z.here in
      let ops = ops-at r x.client z.c z.waits.a j.0 z.waits.present j.1 in
      λ none. z.waits.behind.writes (ap (minor_writes 0) (sym ops) ∙ ap (λ n. minor_writes 0 (attempt_ops r.script n)) z.waits.own ∙ none)
  commit-writes l x i m is none = absurd none

  -- and an attempt with another member writes something
  pub prepare-writes : (l : Letter) (x : AttemptId) → Has l w.messages → (m : Message) → l.message ≡ m → IsPrepareOf m x → HasWrites r x
  prepare-writes l x i (message.Prepare e first ws inc) is same =
      let way = (let k : IsSaidSo r h w l.from l.to (message.Prepare e first ws inc) = subst (IsSaidSo r h w l.from l.to) is (A.on.letters l i) in k.way) in
      subst (HasWrites r) same (others-write r e.attempt way.member way.other)
  prepare-writes l x i m is none = absurd none

-- ---- what is stored

both-write : (r : Rules) (new stored : Stored) → StoredWrite r new → StoredWrite r stored → StoredWrite r (new ++ stored)
both-write r new stored one two t x i = elim (has-cases new stored (t, x) (has-from_contains (new ++ stored) (t, x) i)) [
  | inl j ↦ one t x (contains-from_has new (t, x) j)
  | inr j ↦ two t x (contains-from_has stored (t, x) j)
]

none-write : (r : Rules) → StoredWrite r []
none-write r t x i = absurd (has-from_contains [] (t, x) i)

-- entries that are there then are of attempts with writes
new-write : (r : Rules) (v : World) (t : ℕ) (old : Durable) (z : TargetState) → slice_get v.targets t ≡ Some z → EntriesWrite r v → StoredWrite r (stored_by t old z.durable)
new-write r v t old z here writes u x i =
    let a = has-from_map (stored_as t) (filter (is_new_to old) z.durable.entries) (u, x) (has-from_contains (stored_by t old z.durable) (u, x) i) in
    subst (HasWrites r) (ap (λ y. y.1) a.2) (writes t z a.0 here (has-from_filter (is_new_to old) z.durable.entries a.0 a.1).0)

perhaps-write : (r : Rules) (b : Bool) (t : ℕ) (x : AttemptId) → HasWrites r x → StoredWrite r (stored_if b t x)
perhaps-write r false t x some u y i = absurd (has-from_contains [] (u, y) i)
perhaps-write r true t x some u y i = elim (has-from_contains ((t, x) ∷ []) (u, y) i) [
  | inl same ↦ subst (HasWrites r) (sym (ap (λ z. z.1) same)) some
  | inr none ↦ absurd none
]

-- ---- events

module _ (r : Rules) (h : History) (w v : World) (K : IsWritingKnown r h w v) where
  cut-writes : (g : TargetCut r w v) → StoredWrite r (work_stored (target_plan r g.t) g.s g.work g.cut g.turn)
  cut-writes g = by g.work g.in_hand g.turn
    where
      commit-cut : (l : Letter) (reading : ℕ) (x : AttemptId) (ep first : Option Epoch) (tracker : Epoch) (ws : List MinorWrite) → HasWrites r x
          → (u : CommitIsCut (target_plan r g.t) g.s.opening g.s.memory reading (commit_request x ep first tracker ws) (kept g.s) g.cut)
          → StoredWrite r (commit_stored (target_plan r g.t) g.s.opening g.s.memory reading (commit_request x ep first tracker ws) (kept g.s) g.cut u)
      commit-cut l reading x ep first tracker ws some (NoneIsDown up turn) = perhaps-write r _ g.t x some
      commit-cut l reading x ep first tracker ws some (OneIsDown e down is turn) = none-write r

      heard : (l : Letter) (reading number : ℕ) → Has l w.messages → (m : Message) → l.message ≡ m
          → (u : HearingIsCut is_prepared number (target_plan r g.t) g.s.opening g.s.memory reading l.from m (kept g.s) g.cut)
          → StoredWrite r (hearing_stored number (target_plan r g.t) g.s.opening g.s.memory reading l.from m (kept g.s) g.cut u)
      heard l reading number i (message.Commit x ep first tracker ws) is u =
          commit-cut l reading x ep first tracker ws (commit-writes r h w K.attempts K.hands K.stand l x i (message.Commit x ep first tracker ws) is refl) u
      heard l reading number i (message.Prepare e first ws inc) is u =
          perhaps-write r _ g.t e.attempt (prepare-writes r h w K.attempts K.hands K.stand l e.attempt i (message.Prepare e first ws inc) is refl)
      heard l reading number i m is u = none-write r

      by : (work : AtWork) → IsInHand w g.t work → (turn : CutOf (target_plan r g.t) g.s work g.cut) → StoredWrite r (work_stored (target_plan r g.t) g.s work g.cut turn)
      by (Hearing l reading number) hand turn = heard l reading number (has-taken w.messages l hand.0.0 hand.0.1) l.message refl turn
      by IdleWork hand turn = none-write r

  stored-writes : (e : Happening r w v) → StoredWrite r (stored_in r e)
  stored-writes (Plainly (ByClient g) up) = none-write r
  stored-writes (Plainly (ToClient g) up) = none-write r
  stored-writes (Plainly (ToTarget g) up) =
      new-write r v g.t g.s.durable (target_after g.s g.new g.memory)
      (ap (λ u. slice_get u.targets g.t) g.after ∙ set-here w.targets g.t g.s (target_after g.s g.new g.memory) g.here) K.writes_then
  stored-writes (Plainly (ByTarget g) up) =
      new-write r v g.t g.s.durable (target_after g.s g.new g.memory)
      (ap (λ u. slice_get u.targets g.t) g.after ∙ set-here w.targets g.t g.s (target_after g.s g.new g.memory) g.here) K.writes_then
  stored-writes (Further f) =
      let g = f.hears in
      new-write r v g.t g.s.durable (target_after g.s g.new g.memory)
      (ap (λ u. slice_get u.targets g.t) g.after ∙ set-here w.targets g.t g.s (target_after g.s g.new g.memory) g.here) K.writes_then
  stored-writes (IsCut g) = cut-writes g
  stored-writes (Opens g) = none-write r
  stored-writes (Fails g) = none-write r
  stored-writes (GivenUp g) = none-write r
  stored-writes (Draws g) = none-write r

  pub writes-stay : (stored : Stored) (e : Happening r w v) → StoredWrite r stored → StoredWrite r (stored_in r e ++ stored)
  writes-stay stored e k = both-write r (stored_in r e) stored (stored-writes e) k

pub stored-writes-begin : (r : Rules) → StoredWrite r []
stored-writes-begin r = none-write r
