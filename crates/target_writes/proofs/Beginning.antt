-- An attempt begins, whose own writes are stored.
use Rattle.std.proofs.Common.{ℕ, ◌≡◌, refl, ◌∙◌, ap, Bool, true, false, List, [], Option, Some}
use Rattle.std.specs.Prelude.{if◌then◌else◌}
use Rattle.base_types.specs.declared.entry.Entry.{Entry}
use Rattle.base_types.specs.declared.epoch.Epoch.{Epoch}
use Rattle.base_types.specs.declared.operation.MinorWrite.{MinorWrite}
use Rattle.base_messages.specs.declared.actor.ActorId.{ActorId}
use Rattle.base_messages.specs.declared.message.Post.{Post}
use Rattle.daos_model.specs.declared.durable.Durable.{Durable}
use Rattle.dtx_base.specs.declared.leading.LeaderMemory.{LeaderMemory}
use Rattle.dtx_base.specs.Leading.{LeaderOf, LeaderStep, begun, begun_alone, begun_with_others}
use Rattle.dtx_base.specs.Members.{is_written_at, other_members, writes_at}
use Rattle.dtx_base.specs.Rows.{is_empty}
use Rattle.target_members.specs.dtx_table.declared.seat.Seat.{Seat}
use Rattle.target_members.specs.dtx_table.Seats.{came, leader_of}
use Rattle.world_base.specs.declared.did.Did.{Did}
use Rattle.world_base.specs.declared.request.CommitRequest.{CommitRequest}
use Rattle.world_base.specs.declared.target.TargetMemory.{TargetMemory}
use Rattle.world_base.specs.declared.target.TargetPlan.{TargetPlan}
use Rattle.world_base.specs.Commits.{begins_at, led_entry, own_writes}
use Rattle.world_base.specs.Requests.{issued_for, sends}
use Rattle.world_base.specs.Roles.{leader_at}
use Rattle.target_parts.specs.Knowing.{AreRowsOpen, IsApart, IsOpenHere}
use Rattle.target_parts.specs.KnowsLaws.{leader-known}
use Rattle.target_parts.specs.RowKeeping.{rows-begun, rows-decided}
use Rattle.target_writes.specs.Turns.{begun_of}

-- what begins doesn't depend on the entries that are kept
begun-anyhow : (e : Entry) (first : Option Epoch) (client : ActorId) (ws : List MinorWrite) (s : Seat) (es : List Entry) (m : LeaderMemory) → came (begun e first client ws (leader_of s [] m)) ≡ came (begun e first client ws (leader_of s es m))
unfolding begun
begun-anyhow e first client ws s es m =
    elim (is_empty (other_members e)) as (λ b. came (if◌then◌else◌ {A = LeaderStep} b (begun_alone e client (leader_of s [] m)) (begun_with_others e first client ws (leader_of s [] m)))
    ≡ came (if◌then◌else◌ {A = LeaderStep} b (begun_alone e client (leader_of s es m)) (begun_with_others e first client ws (leader_of s es m)))) [ true ↦ refl | false ↦ refl ]

-- what a leader at this target then remembers and sends
pub begun-here : (t : TargetPlan) (n : TargetMemory) (q : CommitRequest) (from : ActorId) (e : Entry) (d : Durable) (s : Seat) (es : List Entry) (l : LeaderMemory) (posts : List Post) → (l, posts) ≡ came (begun e q.first from q.writes (leader_of s [] n.leader))
    → s.me ≡ t.me → s.targets ≡ t.targets → s.incarnation ≡ d.incarnation → es ≡ d.entries → e ≡ led_entry t q e.epoch → (l, posts) ≡ came (begins_at t n q from e.epoch d)
begun-here t n q from e d s es l posts is me targets inc entries own =
    is ∙ begun-anyhow e q.first from q.writes s es n.leader ∙ ap (λ x. came (begun e q.first from q.writes x)) (leader-known t n s es d me targets inc entries)
    ∙ ap (λ x. came (begun x q.first from q.writes (leader_at t n d))) own

-- and what is told
pub begun-told : (t : TargetPlan) (n : TargetMemory) (q : CommitRequest) (from : ActorId) (e : Epoch) (d : Durable) (l : LeaderMemory) (posts : List Post) (did : Did) → (l, posts) ≡ came (begins_at t n q from e d) → did ≡ sends posts (issued_for q.attempt q.ep e)
    → (record n { leader = l }, did) ≡ begun_of t n q from e d
begun-told t n q from e d l posts did is said =
    ap (λ x. (record n { leader = l }, x)) said ∙ ap (λ (x : LeaderMemory × List Post). (record n { leader = x.0 }, sends x.1 (issued_for q.attempt q.ep e))) is

-- the attempts that a leader remembers stay prepared here
pub begun-rows : (me : ℕ) (e : Entry) (first : Option Epoch) (client : ActorId) (ws : List MinorWrite) (l : LeaderOf) (d : Durable) → AreRowsOpen me l.memory d → IsOpenHere me e.attempt d → IsApart e.attempt l.memory
    → AreRowsOpen me (begun e first client ws l).leader.memory d
unfolding begun
begun-rows me e first client ws l d r here apart = by (is_empty (other_members e))
  where
    by : (b : Bool) → AreRowsOpen me (if◌then◌else◌ {A = LeaderStep} b (begun_alone e client l) (begun_with_others e first client ws l)).leader.memory d
    by true = rows-decided me l.memory d r e.attempt l.memory.undecided here apart.decided (λ u i. (i, apart.undecided u i))
    by false = rows-begun me l.memory d r e.attempt (Some client) here apart.decided

-- the writes of a target's groups are its own
pub writes-own : (t : TargetPlan) (ws : List MinorWrite) → writes_at t.targets t.me ws ≡ own_writes t ws
unfolding is_written_at
writes-own t ws = refl
