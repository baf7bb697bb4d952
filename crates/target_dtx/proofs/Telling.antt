-- What a target tells and asks once all that it decided is settled leaves of what it remembers.
use Rattle.std.proofs.Common.{ℕ, ◌≡◌, ◌∙◌, ap, sym, subst, Bool, true, false, not, ◌&&◌, List, length}
use Rattle.std.specs.Prelude.{◌==◌, ◌||◌}
use Rattle.base_types.specs.declared.entry.Entry.{Entry}
use Rattle.model_laws.specs.Members.{Has}
use Rattle.base_messages.specs.declared.message.Post.{Post}
use Rattle.daos_model.specs.declared.durable.Durable.{Durable}
use Rattle.dtx_base.specs.declared.leading.LeaderMemory.{LeaderMemory}
use Rattle.dtx_base.specs.declared.leading.Naming.{Naming}
use Rattle.dtx_base.specs.declared.member.Freed.{Freed}
use Rattle.dtx_base.specs.declared.member.MemberMemory.{MemberMemory}
use Rattle.dtx_base.specs.Joining.{MemberOf, MemberStep, inquired, is_inquiry_due, member_step}
use Rattle.dtx_base.specs.Leading.{LeaderOf, batched, is_batch_due}
use Rattle.dtx_table.specs.Seats.{came}
use Rattle.world_base.specs.declared.target.TargetMemory.{TargetMemory}
use Rattle.world_base.specs.declared.target.TargetPlan.{TargetPlan}
use Rattle.world_base.specs.Idle.{has_idle}
use Rattle.world_base.specs.Roles.{leader_at, member_at}
use Rattle.target_parts.specs.declared.knows.Knows.{Knows}
use Rattle.target_parts.specs.Knowing.{AreRowsOpen, IsHeard, IsOwn, LeadsWell, memory_of}
use Rattle.target_parts.specs.RowKeeping.{rows-named}
use Rattle.target_dtx.specs.Dtx.{asks_if}

-- a batch leaves all but what is named
pub batch-named : (l : LeaderOf) (n : LeaderMemory) (posts : List Post) → ◌≡◌ {A = LeaderMemory × List Post} (n, posts) (came (batched l)) → n ≡ record l.memory { named = (batched l).leader.memory.named }
unfolding batched
batch-named l n posts is = ap (λ (p : LeaderMemory × List Post). p.0) is

-- Queries leave all but what was asked
pub record AsksLeave (s n : MemberOf) : Type 0 where
  pub me : n.me ≡ s.me
  pub parked : n.memory.parked ≡ s.memory.parked

pub asks-leave : (b : Bool) (es : List Entry) (s n : MemberOf) (freed : Freed) → member_step n freed ≡ asks_if b es s → AsksLeave s n
unfolding inquired
asks-leave false es s n freed is = record { me = ap (λ (x : MemberStep). x.member.me) is; parked = ap (λ (x : MemberStep). x.member.memory.parked) is }
asks-leave true es s n freed is = record { me = ap (λ (x : MemberStep). x.member.me) is; parked = ap (λ (x : MemberStep). x.member.memory.parked) is }

pub nothing-asked : (s n : MemberOf) → n ≡ s → AsksLeave s n
nothing-asked s n is = record { me = ap (λ (x : MemberOf). x.me) is; parked = ap (λ (x : MemberOf). x.memory.parked) is }

module _ (t : TargetPlan) (old new : Knows) (hlc : new.hlc ≡ old.hlc) (asks : AsksLeave old.member new.member) where
  pub own-told : IsOwn t old → IsOwn t new
  own-told own = record {
    clock = ap (λ c. c.target) hlc ∙ own.clock;
    member = asks.me ∙ own.member;
    parked = λ p i. own.parked p (subst (λ ps. Has p ps) asks.parked i);
  }

  pub leads-told : (d : Durable) (named : List Naming) → new.leader ≡ record old.leader { named = named } → new.entries.items ≡ old.entries.items → LeadsWell t (memory_of old) old.entries.items d → LeadsWell t (memory_of new) new.entries.items d
  leads-told d named leader entries k = record {
    entries = entries ∙ k.entries;
    rows = subst (λ l. AreRowsOpen t.me l d) (sym leader) (rows-named t.me old.leader d k.rows named);
    heard = subst (λ c. IsHeard c.ticks d) (sym hlc) k.heard;
    asks = λ p i. k.asks p (subst (λ ps. Has p ps) asks.parked i);
  }

-- there is idle work just where one of three tests says so
pub has-idle : (b : Bool) (t : TargetPlan) (m : TargetMemory) (d : Durable) (none due asks : Bool) → none ≡ (length m.leader.decided == 0) → due ≡ is_batch_due (leader_at t m d) → asks ≡ is_inquiry_due d.entries (member_at t m)
    → (not none || due || (b && asks)) ≡ has_idle b t m d
unfolding has_idle
has-idle b t m d none due asks none-is due-is asks-is =
    ap (λ (x : Bool). not x || due || (b && asks)) none-is
    ∙ ap (λ (x : Bool). not (length m.leader.decided == 0) || x || (b && asks)) due-is
    ∙ ap (λ (x : Bool). not (length m.leader.decided == 0) || is_batch_due (leader_at t m d) || (b && x)) asks-is

abbrev member_with : ℕ → MemberMemory → MemberOf
member_with me memory = record { me = me; memory = memory }

-- a target as a member, by what it knows
pub member-known : (t : TargetPlan) (k : Knows) → IsOwn t k → k.member ≡ member_at t (memory_of k)
member-known t k own = ap (λ x. member_with x k.member.memory) own.member
