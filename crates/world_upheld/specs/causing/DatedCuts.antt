-- Where epochs of snapshots count as those of the attempts that read there, a target that stops in a turn that tells and issues nothing, and takes no
-- blocks, keeps that outcomes show their causes; so does one that stops as it hears a read at a snapshot, or a Verdict.
use Rattle.std.specs.Prelude.{ℕ, ◌≡◌, ◌≤◌, ◌+◌, ◌++◌, ◌⊎◌, true, false, List, [], ◌∷◌, filter, Contains, Option, Some, None, refl}
use Rattle.std.proofs.Common.{append-nil, inl, inr, sym, ◌∙◌, ap, subst, arith}
use Rattle.base_types.specs.declared.entry.Verdict.{Verdict}
use Rattle.base_types.specs.declared.entry.Verdict.TheVariants as verdicts
use Rattle.base_types.specs.declared.epoch.Epoch.{Epoch}
use Rattle.base_types.specs.declared.id.AttemptId.{AttemptId}
use Rattle.base_types.specs.declared.report.Line.{Line}
use Rattle.base_types.specs.declared.report.Line.TheVariants as line
use Rattle.base_messages.specs.declared.message.Message.TheVariants as message
use Rattle.model_laws.specs.Members.{Has, contains-from_has, has-cases, has-from_contains, has-from_filter, has-from_map}
use Rattle.daos_model.specs.Attempts.{tries}
use Rattle.daos_model.specs.Opening.{Opening, top}
use Rattle.dtx_base.specs.Joining.{verdict_heard}
use Rattle.world_base.specs.declared.letter.Letter.{Letter}
use Rattle.world_base.specs.declared.request.FetchRequest.{FetchRequest}
use Rattle.world_base.specs.declared.target.TargetMemory.{TargetMemory}
use Rattle.world_base.specs.declared.target.TargetPlan.{TargetPlan}
use Rattle.world_base.specs.declared.world.World.{World}
use Rattle.world_base.specs.CutTurns.{CutTurn, HearingIsCut, issued_by_fetch, none_issued}
use Rattle.world_base.specs.Events.{Rules, kept, target_plan}
use Rattle.world_base.specs.Reads as read
use Rattle.world_base.specs.Requests.{fetch_message}
use Rattle.world_base.specs.Roles.{is_prepared, member_at, told_by}
use Rattle.world_base.specs.Stops.{CutOf, Hearing, IsCut, TargetCut, is_not_to, is_to, reset_letter, resets, stopped_at, stops_so_far, swept}
use Rattle.world_base.specs.TurnLaws.{fetch-plain, verdict-plain}
use Rattle.world_base.specs.Verdicts as turn
use Rattle.world_legal.specs.world_causes.causes.AtFloors.{IsTarget}
use Rattle.world_legal.specs.world_causes.causes.Causes.{Dated, Stored}
use Rattle.world_legal.specs.world_causes.causes.Heard.{meet-at}
use Rattle.world_legal.specs.world_causes.causes.Leases.{AsksBelow, VerdictBelow, verdict-to}
use Rattle.world_legal.specs.world_causes.causes.Paths.{AreOpen}
use Rattle.world_legal.specs.world_causes.causes.Shown.{Causes, FloorsShown, limit_over}
use Rattle.world_legal.specs.world_causes.causes.Turns.{PostShows}
use Rattle.world_upheld.specs.causing.DatedVerdicts.{IsVerdictRight, freed-below}
use Rattle.world_upheld.specs.causing.Dates.{with_dates}
use Rattle.world_legal.specs.world_causes.showing.Following.{posted}
use Rattle.world_upheld.specs.causing.OneTurn.{turn-keeps}
use Rattle.world_upheld.specs.causing.SnapshotReads.{IsAtSnapshot, extends-none}
use Rattle.world_owners.specs.world_making.prunings.Floors.{all-events-keep_floors}
use Rattle.world_legal.specs.world_causes.restarts.Resting.{is_silent}
use Rattle.world_legal.specs.world_causes.showing.CutTurns.{cut-free, cut-leased, cut-silent, fetch-cheap, verdict-cheap}
use Rattle.world_legal.specs.world_causes.showing.Follows.{silent-shows}
use Rattle.world_letters.specs.snapshots.Makings.{ComesOf}

-- a target stops as it hears a read at a snapshot
abbrev pub SnapshotReadCutsKeepCauses : Type 0
SnapshotReadCutsKeepCauses =
    (r : Rules) (o : Opening) (stored : Stored) (dated : Dated) (w v : World) (g : TargetCut r w v) (l : Letter) (reading number : ℕ) (q : FetchRequest) (e : Epoch) → g.work ≡ Hearing l reading number → l.message ≡ fetch_message q → q.snapshot ≡ true → q.ep ≡ Some e
    → Causes r o stored (with_dates dated w) → Causes r o stored (with_dates (dated ++ g.cut.issued) v)

-- or a Verdict
abbrev pub VerdictCutsKeepCauses : Type 0
VerdictCutsKeepCauses =
    (r : Rules) (o : Opening) (stored : Stored) (dated : Dated) (w v : World) (g : TargetCut r w v) (l : Letter) (reading number : ℕ) (x : AttemptId) (ask : Option AttemptId) (inc : ℕ) (k : Verdict) → g.work ≡ Hearing l reading number → l.message ≡ message.Verdict x ask inc k
    → IsTarget r o dated w.lines g.t g.s.opening (kept g.s) → AreOpen r.script (target_plan r g.t) w.lines (top o) g.s.durable g.s.memory.leader.decided → IsVerdictRight r o dated w.lines (target_plan r g.t) g.s.memory (kept g.s) x ask k
    → Causes r o stored (with_dates dated w) → Causes r o stored (with_dates (dated ++ g.cut.issued) v)

near : (a b : ℕ) → a ≤ b + 65536 → a ≤ b + 1 + 65535
near a b low = omega (arith, low)

module _ (r : Rules) (o : Opening) (stored : Stored) (dated : Dated) (w v : World) (g : TargetCut r w v) (silent : g.cut.lines ≡ []) (free : g.s.free ≤ g.cut.left.free) (lease : g.cut.left.durable.lease ≤ limit_over o w.lines dated + 1 + 65535)
    (C : Causes r o stored (with_dates dated w)) where
  abbrev stop : List Line
  stop = line.Stop (stops_so_far w.lines) g.t ∷ []

  lines : v.lines ≡ w.lines ++ stop
  lines = ap (λ u. u.lines) g.after ∙ ap (λ ls. (w.lines ++ ls) ++ stop) silent ∙ ap (λ ls. ls ++ stop) (append-nil w.lines)

  floors : FloorsShown o v
  floors = let F = all-events-keep_floors r w (swept v) (record { u = v; happens = IsCut g; after = refl }) o (record { opening = C.floors.opening; leased = C.floors.leased; stored = C.floors.stored; aggregated = C.floors.aggregated }) in
      record { opening = F.opening; leased = F.leased; stored = F.stored; aggregated = F.aggregated }

  one-stops : (y : Line) → Has y stop → y ≡ line.Stop (stops_so_far w.lines) g.t
  one-stops y (inl same) = same
  one-stops y (inr none) = absurd none

  comes : (y : Line) → y ≡ line.Stop (stops_so_far w.lines) g.t → ComesOf r dated y
  comes y same = subst (ComesOf r dated) (sym same) tt

  messages : (k : Letter) → Contains v.messages k → Contains w.messages k ⊎ PostShows r o stored dated v.lines (posted k)
  messages k i = elim (has-cases (filter (is_not_to g.t) w.messages) (resets g.t false w.asked) k (has-from_contains (filter (is_not_to g.t) w.messages ++ resets g.t false w.asked) k (subst (λ u. Contains u.messages k) g.after i))) [
    | inl j ↦ inl (contains-from_has w.messages k (has-from_filter (is_not_to g.t) w.messages k j).0)
    | inr j ↦ inr (silent-shows r o stored dated v.lines k (let z = has-from_map (reset_letter false) (filter (is_to g.t) w.asked) k j in ap (λ y. is_silent y.message) (sym z.2)))
  ]

  quiet-keeps : Causes r o stored (with_dates dated v)
  unfolding tries
  quiet-keeps = turn-keeps r o stored [] (with_dates dated w) (with_dates dated v) g.t g.s (stopped_at g.s g.cut.left) C (record {
    here = g.here;
    targets = ap (λ u. u.targets) g.after;
    clients = ap (λ u. u.clients) g.after;
    added = [];
    issued = sym (append-nil dated);
    more = stop;
    lines = lines;
    silent = refl;
    comes = λ y i. comes y (one-stops y i);
    unrestarted = λ y n u inc floor i same. let stops = one-stops y i in let no : ⊥ = cc in absurd no;
    messages = messages;
    dates = λ x f i. absurd (has-from_contains [] (x, f) i);
    ticks = λ runs. let no : ⊥ = cc in absurd no;
    lease = lease;
    free = free;
    parked = λ p i. absurd (has-from_contains [] p i);
    floors = record { opening = floors.opening; leased = floors.leased; stored = floors.stored; aggregated = floors.aggregated };
  })

  -- where nothing was issued
  quiet-cut_keeps : g.cut.issued ≡ [] → Causes r o stored (with_dates (dated ++ g.cut.issued) v)
  quiet-cut_keeps none = subst (λ is. Causes r o stored (with_dates (dated ++ is) v)) (sym none) (subst (λ is. Causes r o stored (with_dates is v)) (sym (append-nil dated)) quiet-keeps)

-- ---- a read at a snapshot

read-issues : (q : FetchRequest) (e : Epoch) → q.ep ≡ Some e → (s : read.FetchStage) → issued_by_fetch q s ≡ []
read-issues q e own read.Asked = refl
read-issues q e own (read.Known f) = refl
read-issues q e own (read.Reading f decided) = by q.ep own
  where
    by : (ep : Option Epoch) → ep ≡ Some e → issued_by_fetch (record q { ep = ep }) (read.Reading f decided) ≡ []
    by None is = let no : ⊥ = cc in absurd no
    by (Some h) is = refl

pub snapshot-read-cuts_keep : SnapshotReadCutsKeepCauses
snapshot-read-cuts_keep r o stored dated w v g l reading number q e hears is at own C =
    quiet-cut_keeps r o stored dated w v g
    (cut-silent (read.FetchNext (target_plan r g.t) g.s.memory reading q) (fetch-plain (target_plan r g.t) g.s.memory reading q) (issued_by_fetch q) g.t read.Asked (kept g.s) g.cut turn')
    (cut-free (read.FetchNext (target_plan r g.t) g.s.memory reading q) (fetch-plain (target_plan r g.t) g.s.memory reading q) (issued_by_fetch q) g.t read.Asked (kept g.s) g.cut turn' (fetch-cheap (target_plan r g.t) g.s.memory reading q))
    (cut-leased (read.FetchNext (target_plan r g.t) g.s.memory reading q) (fetch-plain (target_plan r g.t) g.s.memory reading q) (issued_by_fetch q) g.t read.Asked (kept g.s) g.cut turn' (limit_over o w.lines dated + 1 + 65535) IsAtSnapshot tt
    (extends-none (limit_over o w.lines dated + 1 + 65535) (target_plan r g.t) g.s.memory reading q at) (near g.s.durable.lease (limit_over o w.lines dated) (C.bounded.leases g.t g.s g.here)))
    C (turn'.issued ∙ read-issues q e own turn'.last)
  where
    turn' : CutTurn (read.FetchNext (target_plan r g.t) g.s.memory reading q) (issued_by_fetch q) g.t read.Asked (kept g.s) g.cut
    turn' = subst (λ m. HearingIsCut is_prepared number (target_plan r g.t) g.s.opening g.s.memory reading l.from m (kept g.s) g.cut) is (subst (λ work. CutOf (target_plan r g.t) g.s work g.cut) hears g.turn)

-- ---- a Verdict

-- what a Verdict tells a leader changes nothing of what a member knows
member-same : (t : TargetPlan) (k : Verdict) (x : AttemptId) (m : TargetMemory) → member_at t m ≡ member_at t (told_by k x m)
member-same t verdicts.Committed x m = refl
member-same t verdicts.Aborted x m = refl
member-same t verdicts.Undecided x m = refl

pub verdict-cuts_keep : VerdictCutsKeepCauses
verdict-cuts_keep r o stored dated w v g l reading number x ask inc k hears is T opens V C =
    quiet-cut_keeps r o stored dated w v g
    (cut-silent (turn.VerdictNext is_prepared (target_plan r g.t) (told_by k x g.s.memory) reading x ask k) (verdict-plain is_prepared (target_plan r g.t) (told_by k x g.s.memory) reading x ask k) none_issued g.t turn.Heard (kept g.s) g.cut turn')
    (cut-free (turn.VerdictNext is_prepared (target_plan r g.t) (told_by k x g.s.memory) reading x ask k) (verdict-plain is_prepared (target_plan r g.t) (told_by k x g.s.memory) reading x ask k) none_issued g.t turn.Heard (kept g.s) g.cut turn' (verdict-cheap is_prepared (target_plan r g.t) m reading x ask k))
    (cut-leased (turn.VerdictNext is_prepared (target_plan r g.t) (told_by k x g.s.memory) reading x ask k) (verdict-plain is_prepared (target_plan r g.t) (told_by k x g.s.memory) reading x ask k) none_issued g.t turn.Heard (kept g.s) g.cut turn' (edge + 65535) (VerdictBelow edge is_prepared (target_plan r g.t) m reading x ask k)
    (subst (λ z. AsksBelow edge (verdict_heard x ask k z).freed.again) (member-same (target_plan r g.t) k x g.s.memory) below)
    (verdict-to edge is_prepared (target_plan r g.t) m reading x ask k) (near g.s.durable.lease (limit_over o w.lines dated) (C.bounded.leases g.t g.s g.here)))
    C turn'.issued
  where
    m : TargetMemory
    m = told_by k x g.s.memory

    edge : ℕ
    edge = limit_over o w.lines dated + 1

    turn' : CutTurn (turn.VerdictNext is_prepared (target_plan r g.t) (told_by k x g.s.memory) reading x ask k) none_issued g.t turn.Heard (kept g.s) g.cut
    turn' = subst (λ q. HearingIsCut is_prepared number (target_plan r g.t) g.s.opening g.s.memory reading l.from q (kept g.s) g.cut) is (subst (λ work. CutOf (target_plan r g.t) g.s work g.cut) hears g.turn)

    more : (n : ℕ) → n ≤ n + 1
    more n = omega arith

    below : AsksBelow edge (verdict_heard x ask k (member_at (target_plan r g.t) g.s.memory)).freed.again
    below = freed-below r o stored dated w.lines (target_plan r g.t) g.s.opening g.s.memory reading x ask k (kept g.s) T V (C.bounded.ticks g.t g.s g.here g.runs) (meet-at r o stored (with_dates dated w) g.t g.s C g.here) opens edge (more (limit_over o w.lines dated))
