-- Where epochs of snapshots count as those of the attempts that read there, a target that hears such a read keeps that outcomes show their
-- causes.
use Rattle.std.specs.Prelude.{ℕ, ◌≡◌, ◌≤◌, ◌+◌, ◌/◌, ◌++◌, ◌⊎◌, true, [], ◌∷◌, map, Contains, refl}
use Rattle.std.proofs.Common.{append-nil, inl, inr, sym, ◌∙◌, ap, subst, arith}
use Rattle.base_types.specs.declared.epoch.Epoch.{Epoch}
use Rattle.base_types.specs.declared.id.AttemptId.{AttemptId}
use Rattle.base_messages.specs.declared.message.Post.{Post}
use Rattle.model_laws.specs.Members.{Has, contains-from_has, has-cases, has-from_contains, has-from_map}
use Rattle.daos_model.specs.Attempts.{tries}
use Rattle.daos_model.specs.Opening.{Opening, top}
use Rattle.dtx_base.specs.declared.member.Parked.{Parked}
use Rattle.world_base.specs.declared.letter.Letter.{Letter}
use Rattle.world_base.specs.declared.request.FetchRequest.{FetchRequest}
use Rattle.world_base.specs.declared.target.TargetState.{TargetState}
use Rattle.world_base.specs.declared.world.World.{World}
use Rattle.world_base.specs.Events as events
use Rattle.world_base.specs.Events.{Rules, TargetHears, kept, target_after, target_plan, with_epoch}
use Rattle.world_base.specs.Letters.{letter_of, letters_of, target}
use Rattle.world_base.specs.Reads as read
use Rattle.world_base.specs.Requests.{fetch_message}
use Rattle.world_base.specs.TargetTurns.{Hears}
use Rattle.world_base.specs.TurnLaws.{hears-keeps}
use Rattle.world_base.specs.Turns.{Whole}
use Rattle.world_legal.specs.world_causes.causes.AtFloors.{IsTarget}
use Rattle.world_legal.specs.world_causes.causes.Causes.{Dated, Stored, blocks_of_stored, stored_by}
use Rattle.world_legal.specs.world_causes.causes.FloorLaws.{turns-keep-floors}
use Rattle.world_legal.specs.world_causes.causes.Paths.{AreOpen}
use Rattle.world_legal.specs.world_causes.causes.Shown.{Causes, FloorsShown, limit_over}
use Rattle.world_legal.specs.world_causes.causes.Turns.{PostShows}
use Rattle.world_legal.specs.world_causes.causes.Leases.{whole-to}
use Rattle.world_upheld.specs.causing.Dates.{with_dates}
use Rattle.world_legal.specs.world_causes.showing.Following.{FollowsOn, continues-keep, posted}
use Rattle.world_upheld.specs.causing.OneTurn.{post-on, turn-keeps}
use Rattle.world_upheld.specs.causing.SnapshotReads.{IsAtSnapshot, extends-none, IsDatedRead, SnapshotReadLeaves, WaitsThen, snapshot-reads_show}
use Rattle.world_letters.specs.epochs.Epochs.{reads_snapshot}
use Rattle.world_letters.specs.talks.TalkLaws.{left-is-among}

-- ---- the statements

-- one epoch more may count
abbrev pub CountingKeepsCauses : Type 0
CountingKeepsCauses =
    (r : Rules) (o : Opening) (stored : Stored) (dated : Dated) (w : World) (x : AttemptId) (e : Epoch) → e.0 / 256 ≤ limit_over o w.lines (dated ++ (x, e) ∷ []) → Causes r o stored (with_dates dated w) → Causes r o stored (with_dates (dated ++ (x, e) ∷ []) w)

-- and a target hears a read at a snapshot, of which that is known that it rests on
abbrev pub SnapshotReadsKeepCauses : Type 0
SnapshotReadsKeepCauses =
    (r : Rules) (o : Opening) (stored : Stored) (dated : Dated) (w v : World) (g : TargetHears r w v) (q : FetchRequest) (e : Epoch) → g.l.message ≡ fetch_message q → IsDatedRead r o dated w.lines q g.l.from e (kept g.s)
    → IsTarget r o dated w.lines g.t g.s.opening (kept g.s) → AreOpen r.script (target_plan r g.t) w.lines (top o) g.s.durable g.s.memory.leader.decided → Causes r o stored (with_dates dated w)
    → Causes r o (stored_by g.t g.s.durable g.new.durable ++ stored) (with_dates (dated ++ events.listed g.did.issued) v)

-- ---- an epoch counts

pub counting-keeps : CountingKeepsCauses
unfolding tries
counting-keeps r o stored dated w x e within C = continues-keep r o stored [] (with_dates dated w) (with_dates (dated ++ (x, e) ∷ []) w) C (record {
  added = (x, e) ∷ [];
  issued = refl;
  more = [];
  lines = sym (append-nil w.lines);
  silent = refl;
  clients = refl;
  messages = λ l i. inl i;
  dates = λ y f i. dates y f (has-from_contains ((x, e) ∷ []) (y, f) i);
  told = λ t floor cont reason i. absurd (has-from_contains [] i.1 (i.0, i.2, i.3));
  targets = λ t z at. (z, at, same t z);
  floors = record { opening = C.floors.opening; leased = C.floors.leased; stored = C.floors.stored; aggregated = C.floors.aggregated };
})
  where
    pair : AttemptId → Epoch → AttemptId × Epoch
    pair a b = (a, b)

    dates : (y : AttemptId) (f : Epoch) → Has (pair y f) (pair x e ∷ []) → f.0 / 256 ≤ limit_over o w.lines (dated ++ (x, e) ∷ [])
    dates y f (inl is) = subst (λ z. z.0 / 256 ≤ limit_over o w.lines (dated ++ (x, e) ∷ [])) (sym (ap (λ z. z.1) is)) within
    dates y f (inr none) = absurd none

    low : (n : ℕ) → n ≤ n
    low n = omega arith

    same : (t : ℕ) (z : TargetState) → FollowsOn r stored [] (limit_over o w.lines (dated ++ (x, e) ∷ [])) t z z
    same t z = record { ticks = λ runs. inl (runs, low z.memory.ticks); lease = inl (low z.durable.lease); free = low (z.free + blocks_of_stored r.script t stored); parked = λ p i. inl i }

-- ---- a read is heard

module _ (r : Rules) (o : Opening) (stored : Stored) (dated : Dated) (w v : World) (g : TargetHears r w v) (q : FetchRequest) (e : Epoch) (is : g.l.message ≡ fetch_message q) (K : IsDatedRead r o dated w.lines q g.l.from e (kept g.s))
    (T : IsTarget r o dated w.lines g.t g.s.opening (kept g.s)) (opens : AreOpen r.script (target_plan r g.t) w.lines (top o) g.s.durable g.s.memory.leader.decided) (C : Causes r o stored (with_dates dated w)) where
  new : Stored
  new = stored_by g.t g.s.durable g.new.durable

  turn : Whole (read.FetchNext (target_plan r g.t) g.s.memory g.reading q) (read.FetchEnds (target_plan r g.t) g.s.memory g.reading q g.l.from) read.Asked (kept g.s) g.new (g.memory, g.did)
  turn = subst (λ m. Hears (target_plan r g.t) g.s.opening g.s.memory g.reading g.l.from m (kept g.s) g.new (g.memory, g.did)) is g.turn

  left : SnapshotReadLeaves r o stored dated w.lines g.s.memory q e (kept g.s) g.new (g.memory, g.did)
  left = snapshot-reads_show r o stored dated w.lines (target_plan r g.t) g.s.opening g.s.memory g.reading q g.l.from e (kept g.s) g.new (g.memory, g.did) T opens K turn

  lines : v.lines ≡ w.lines
  lines = ap (λ u. u.lines) g.after ∙ ap (λ ls. w.lines ++ map (with_epoch w.issued) ls) left.silent ∙ append-nil w.lines

  floors : FloorsShown o v
  floors = turns-keep-floors w v g.t g.s g.new g.memory [] g.here (ap (λ u. u.targets) g.after) (lines ∙ sym (append-nil w.lines))
      (hears-keeps (target_plan r g.t) g.s.opening g.s.memory g.reading g.l.from g.l.message (kept g.s) g.new (g.memory, g.did) g.turn) o (record { opening = C.floors.opening; leased = C.floors.leased; stored = C.floors.stored; aggregated = C.floors.aggregated })

  post-then : (p : Post) → Has p g.did.posts → PostShows r o (new ++ stored) dated v.lines p
  unfolding tries
  post-then p i = subst (λ ls. PostShows r o (new ++ stored) dated ls p) (append-nil w.lines ∙ sym lines) (post-on r o new stored dated w.lines [] p refl (left.posts p i))

  messages : (l : Letter) → Contains v.messages l → Contains w.messages l ⊎ PostShows r o (new ++ stored) dated v.lines (posted l)
  messages l i = elim (has-cases g.rest (letters_of (target g.t) g.did.posts) l (has-from_contains (g.rest ++ letters_of (target g.t) g.did.posts) l (subst (λ u. Contains u.messages l) g.after i))) [
    | inl j ↦ inl (left-is-among w.messages g.l g.rest l g.takes (contains-from_has g.rest l j))
    | inr j ↦ (let p = has-from_map (letter_of (target g.t)) g.did.posts l j in inr (subst (λ y. PostShows r o (new ++ stored) dated v.lines (posted y)) p.2 (post-then p.0 p.1)))
  ]

  parked-then : (p : Parked) → WaitsThen r dated q e g.s.memory.member.parked p → Contains g.s.memory.member.parked p ⊎ (reads_snapshot p.ask ≡ true)
  parked-then p (inl i) = inl (contains-from_has g.s.memory.member.parked p i)
  parked-then p (inr k) = inr (ap reads_snapshot k.0 ∙ K.snapshot)

  read-keeps : Causes r o (new ++ stored) (with_dates dated v)
  unfolding tries
  read-keeps = turn-keeps r o stored new (with_dates dated w) (with_dates dated v) g.t g.s (target_after g.s g.new g.memory) C (record {
    here = g.here;
    targets = ap (λ u. u.targets) g.after;
    clients = ap (λ u. u.clients) g.after;
    added = [];
    issued = sym (append-nil dated);
    more = [];
    lines = lines ∙ sym (append-nil w.lines);
    silent = refl;
    comes = λ l i. absurd i;
    unrestarted = λ l n u inc floor i same. absurd i;
    messages = messages;
    dates = λ x f i. absurd (has-from_contains [] (x, f) i);
    ticks = λ runs. subst (λ js. g.memory.ticks ≤ limit_over o w.lines js) (sym (append-nil dated)) (subst (λ n. n ≤ limit_over o w.lines dated) (sym left.ticks) (C.bounded.ticks g.t g.s g.here g.runs));
    lease = whole-to (read.FetchNext (target_plan r g.t) g.s.memory g.reading q) (read.FetchEnds (target_plan r g.t) g.s.memory g.reading q g.l.from) read.Asked (kept g.s) g.new (g.memory, g.did) edge IsAtSnapshot tt
        (extends-none edge (target_plan r g.t) g.s.memory g.reading q K.snapshot) (near g.s.durable.lease (limit_over o w.lines dated) (C.bounded.leases g.t g.s g.here)) turn;
    free = left.free;
    parked = λ p i. parked-then p (left.parked p (has-from_contains g.memory.member.parked p i));
    floors = record { opening = floors.opening; leased = floors.leased; stored = floors.stored; aggregated = floors.aggregated };
  })
    where
      edge : ℕ
      edge = limit_over o w.lines dated + 1 + 65535

      near : (a b : ℕ) → a ≤ b + 65536 → a ≤ b + 1 + 65535
      near a b low = omega (arith, low)

  -- nothing is issued
  read-keeps_then : Causes r o (new ++ stored) (with_dates (dated ++ events.listed g.did.issued) v)
  read-keeps_then = subst (λ i. Causes r o (new ++ stored) (with_dates (dated ++ events.listed i) v)) (sym left.issued) (subst (λ is. Causes r o (new ++ stored) (with_dates is v)) (sym (append-nil dated)) read-keeps)

pub snapshot-reads_keep : SnapshotReadsKeepCauses
unfolding new
snapshot-reads_keep r o stored dated w v g q e is K T opens C = read-keeps_then r o stored dated w v g q e is K T opens C
