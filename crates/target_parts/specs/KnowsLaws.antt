-- What stays of what a target knows where its entries and its leader alone change.
use Rattle.std.proofs.Common.{ℕ, ◌≡◌, sym, ◌∙◌, ap, subst, List, [], filter}
use Rattle.base_types.specs.declared.entry.Entry.{Entry}
use Rattle.base_types.specs.declared.id.AttemptId.{AttemptId}
use Rattle.base_types.specs.declared.shown.Shown.{Shown}
use Rattle.daos_hlc.specs.Clock.{Clock}
use Rattle.daos_model.specs.declared.durable.Durable.{Durable}
use Rattle.dtx_base.specs.declared.leading.LeaderMemory.{LeaderMemory}
use Rattle.dtx_base.specs.declared.member.MemberMemory.{MemberMemory}
use Rattle.dtx_base.specs.Leading.{LeaderOf, is_led}
use Rattle.dtx_leader.specs.dtx_table.declared.seat.Seat.{Seat}
use Rattle.dtx_leader.specs.dtx_table.Seats.{leader_of}
use Rattle.world_contents.specs.world_base.declared.target.TargetMemory.{TargetMemory}
use Rattle.world_contents.specs.world_base.declared.target.TargetPlan.{TargetPlan}
use Rattle.world_contents.specs.world_base.Roles.{leader_at}
use Rattle.target_parts.specs.declared.knows.Knows.{Knows}
use Rattle.target_parts.specs.Knowing.{AreParkable, IsBeside, IsOwn, memory_of}

abbrev pub remembered : ℕ → List Shown → LeaderMemory → MemberMemory → TargetMemory
remembered ticks stamps leader member = record { ticks = ticks; stamps = stamps; leader = leader; member = member; collecting = [] }

pub memory-beside : (old new : Knows) (l : LeaderMemory) → IsBeside old new → new.leader ≡ l → memory_of new ≡ record (memory_of old) { leader = l }
memory-beside old new l b leader =
    ap (λ c. remembered c.ticks new.stamps.reads new.leader new.member.memory) b.hlc
    ∙ ap (λ s. remembered old.hlc.ticks s.reads new.leader new.member.memory) b.stamps
    ∙ ap (λ x. remembered old.hlc.ticks old.stamps.reads x new.member.memory) leader
    ∙ ap (λ m. remembered old.hlc.ticks old.stamps.reads l m.memory) b.member

pub memory-same : (old new : Knows) → IsBeside old new → new.leader ≡ old.leader → memory_of new ≡ memory_of old
memory-same old new b leader = memory-beside old new old.leader b leader

pub own-beside : (t : TargetPlan) (old new : Knows) → IsBeside old new → IsOwn t old → IsOwn t new
own-beside t old new b own = record {
  clock = ap (λ c. c.target) b.hlc ∙ own.clock;
  member = ap (λ m. m.me) b.member ∙ own.member;
  parked = subst (λ m. AreParkable m.memory) (sym b.member) own.parked;
}

abbrev leader_with : ℕ → ℕ → ℕ → List Entry → LeaderMemory → LeaderOf
leader_with me targets inc es m = record { me = me; targets = targets; incarnation = inc; entries = filter (is_led me) es; memory = m }

-- a target as a leader, by the entries that it knows
pub leader-known : (t : TargetPlan) (m : TargetMemory) (s : Seat) (es : List Entry) (d : Durable) → s.me ≡ t.me → s.targets ≡ t.targets → s.incarnation ≡ d.incarnation → es ≡ d.entries
    → leader_of s es m.leader ≡ leader_at t m d
leader-known t m s es d me targets inc entries =
    ap (λ x. leader_with x s.targets s.incarnation es m.leader) me
    ∙ ap (λ x. leader_with t.me x s.incarnation es m.leader) targets
    ∙ ap (λ x. leader_with t.me t.targets x es m.leader) inc
    ∙ ap (λ x. leader_with t.me t.targets d.incarnation x m.leader) entries

-- with another clock
abbrev pub with_clock : Clock → Knows → Knows
with_clock clock k = record { hlc = clock; stamps = k.stamps; entries = k.entries; leader = k.leader; member = k.member }

-- of what a leader remembers only the decided attempts changed, and then changed again
pub decided-on : (old mid new : LeaderMemory) (ds : List AttemptId) → mid ≡ record old { decided = mid.decided } → new ≡ record mid { decided = ds } → new ≡ record old { decided = new.decided }
decided-on old mid new ds before one =
    one ∙ ap (λ x. record mid { decided = x }) (sym (ap (λ (l : LeaderMemory). l.decided) one)) ∙ ap (λ (l : LeaderMemory). record l { decided = new.decided }) before
