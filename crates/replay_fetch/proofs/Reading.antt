-- A read goes on from one decided attempt to the next, and comes to its ending.
use Rattle.std.proofs.Common.{ℕ, ◌≡◌, refl, sym, ◌∙◌, ap, subst, List, Bool, true, false, Option, Some, None}
use Rattle.std.specs.Prelude.{filter, if◌then◌else◌}
use Rattle.base_types.specs.declared.entry.Settle.TheVariants.{Commit}
use Rattle.base_types.specs.declared.epoch.Epoch.{Epoch}
use Rattle.base_types.specs.declared.id.AttemptId.{AttemptId}
use Rattle.base_messages.specs.declared.actor.ActorId.{ActorId}
use Rattle.base_messages.specs.declared.message.Reply.TheVariants as reply
use Rattle.daos_model.specs.declared.durable.Durable.{Durable}
use Rattle.daos_model.specs.Changes.{settled}
use Rattle.world_base.specs.declared.did.Did.{Did}
use Rattle.world_base.specs.declared.request.FetchRequest.{FetchRequest}
use Rattle.world_base.specs.declared.target.TargetMemory.{TargetMemory}
use Rattle.world_base.specs.declared.target.TargetPlan.{TargetPlan}
use Rattle.world_base.specs.Changes.{Change, Kept, Settles}
use Rattle.world_base.specs.Reads.{FetchEnds, FetchNext, FetchStage, Reading, SettlesOwn, memory_then, ticks_known}
use Rattle.world_base.specs.Requests.{is_other_attempt, with_ticks}
use Rattle.world_base.specs.Roles.{with_unsettled}
use Rattle.replay_base.specs.declared.told.Left.{Left}
use Rattle.replay_base.specs.Heard.{AreLedHere, CanRead}
use Rattle.replay_base.specs.Leaving.{Comes}
use Rattle.replay_base.specs.Onward.{Iff, Onward}
use Rattle.replay_base.proofs.Chains.{NoWay, OneEnd, OneStep, change_iff, end_comes, nowhere_comes}
use Rattle.replay_base.proofs.Leaders.{led_committed, led_fewer}
use Rattle.replay_base.proofs.Starts.{iff_both}
use Rattle.replay_fetch.specs.Fetched.{FetchLeaves}
use Rattle.replay_fetch.specs.Left.{left_of}
use Rattle.replay_fetch.specs.Met.{ComesTo, HasGone, HasRead, IsEnding, IsInTheWay, IsMet, IsSettled, IsStuck, ReadsFrom, left_by}
use Rattle.replay_fetch.specs.declared.meets.Ending.{Ending}
use Rattle.replay_fetch.specs.declared.meets.Ending.TheVariants as ending
use Rattle.replay_fetch.specs.declared.meets.Met.{Met}
use Rattle.replay_fetch.specs.declared.meets.Met.TheVariants as met
use Rattle.replay_fetch.specs.declared.reads.End.{End}
use Rattle.replay_fetch.specs.declared.reads.Work.{Work}
use Rattle.replay_fetch.proofs.Meeting.{settled-in_form}
use Rattle.replay_fetch.proofs.Stages.{ended, ends_at, ends_with, next_at, one_ending, stuck_unended, way_unended}

module _ (t : TargetPlan) (m : TargetMemory) (reading : ℕ) (q : FetchRequest) (from : ActorId) where
  abbrev Next : FetchStage → Kept → Option Change → FetchStage → Type 0
  Next = FetchNext t m reading q

  abbrev Ends : FetchStage → Kept → TargetMemory × Did → Type 0
  Ends = FetchEnds t m reading q from

  -- a decided attempt is in the way, and settled
  way_step : (e : Epoch) (decided : List AttemptId) (d : Durable) (a : AttemptId) → AreLedHere t decided d → IsInTheWay t q e d decided a
      → OneStep Next Ends (Reading e decided) d (Some (Settles a Commit)) (Reading e (filter (is_other_attempt a) decided))
  way_step e decided d a led way = record {
    there = λ free. SettlesOwn (record { durable = d; free = free }) e decided a way.free way.meets way.own;
    alone = λ free p u next.
        let s = next_at t m reading q from (Reading e decided) (record { durable = d; free = free }) p u next in
        let here = way.meets in
        let there = s.way.meets in
        let same : s.a ≡ a = cc in
        (s.change ∙ ap (λ x. Some (Settles x Commit)) same, s.there ∙ ap (λ x. Reading e (filter (is_other_attempt x) decided)) same);
    goes = λ free r ends. let x = ends_at t m reading q from (Reading e decided) (record { durable = d; free = free }) r ends in way_unended t m reading q from e d decided a x.r led way x.is;
  }

  pub settles_iff : (e : Epoch) (decided : List AttemptId) (d : Durable) (changed : Bool) (free : ℕ) (new : Kept) (left : TargetMemory × Did) (a : AttemptId) → AreLedHere t decided d → IsInTheWay t q e d decided a
      → Iff (Onward Next Ends (Reading e decided) d changed free new left) (Onward Next Ends (Reading e (filter (is_other_attempt a) decided)) (settled a Commit d) true free new left)
  settles_iff e decided d changed free new left a led way =
      change_iff Next Ends (Reading e decided) (Reading e (filter (is_other_attempt a) decided)) d (Settles a Commit) refl (way_step e decided d a led way) changed free new left

  -- it comes to its ending
  pub ending_one : (e : Epoch) (decided : List AttemptId) (d : Durable) (r : Ending) → AreLedHere t decided d → IsEnding t q e d decided r → OneEnd Next Ends (Reading e decided) d (ended t m reading q from e decided r)
  ending_one e decided d r led is = record {
    there = λ free. ends_with t m reading q from e decided (record { durable = d; free = free }) r is;
    alone = λ free x ends.
        let y = ends_at t m reading q from (Reading e decided) (record { durable = d; free = free }) x ends in
        y.left_is ∙ ap (ended t m reading q from e decided) (one_ending t m reading q from e d decided r y.r is y.is);
    stays = λ free p u next. let s = next_at t m reading q from (Reading e decided) (record { durable = d; free = free }) p u next in way_unended t m reading q from e d decided s.a r led s.way is;
  }

  -- or it doesn't go on
  pub stuck_none : (e : Epoch) (decided : List AttemptId) (d : Durable) → IsStuck t q e d → NoWay Next Ends (Reading e decided) d
  stuck_none e decided d stuck = record {
    stays = λ free p u next. let s = next_at t m reading q from (Reading e decided) (record { durable = d; free = free }) p u next in stuck.unmet s.a s.way.meets;
    goes = λ free r ends. let x = ends_at t m reading q from (Reading e decided) (record { durable = d; free = free }) r ends in stuck_unended t m reading q from e d decided x.r stuck x.is;
  }

-- ---- as the code says it

-- what is met, of what is met there
pub met_way : (t : TargetPlan) (q : FetchRequest) (e : Epoch) (d : Durable) (ds decided : List AttemptId) (m : Met) (a : AttemptId) → ds ≡ decided → IsMet t q e d ds m → m ≡ met.Settles a → IsInTheWay t q e d decided a
met_way t q e d ds decided m a same is here = subst (λ xs. IsInTheWay t q e d xs a) same (subst (IsMet t q e d ds) here is)

pub met_ending : (t : TargetPlan) (q : FetchRequest) (e : Epoch) (d : Durable) (ds decided : List AttemptId) (m : Met) (r : Ending) → ds ≡ decided → IsMet t q e d ds m → m ≡ met.Ends r → IsEnding t q e d decided r
met_ending t q e d ds decided m r same is here = subst (λ xs. IsEnding t q e d xs r) same (subst (IsMet t q e d ds) here is)

pub met_stuck : (t : TargetPlan) (q : FetchRequest) (e : Epoch) (d : Durable) (ds : List AttemptId) (m : Met) → IsMet t q e d ds m → m ≡ met.Stuck → IsStuck t q e d
met_stuck t q e d ds m is here = subst (IsMet t q e d ds) here is

-- it went on nowhere, or by one attempt more
pub gone_none : (t : TargetPlan) (q : FetchRequest) (e : Epoch) (w : Work) → CanRead t w.durable w.memory.leader.decided → HasGone t q e w w
gone_none t q e w read = record { on = λ m from free reading k left. (λ x. x, λ x. x); knows = refl; read = read }

pub gone_more : (t : TargetPlan) (q : FetchRequest) (e : Epoch) (old mid new : Work) (a : AttemptId) → HasGone t q e old mid → IsInTheWay t q e mid.durable mid.memory.leader.decided a → IsSettled a mid new → HasGone t q e old new
gone_more t q e old mid new a gone way is = record {
  on = λ m from free reading k left. iff_both (gone.on m from free reading k left) (there m from free reading k left);
  knows = is.memory ∙ ap (with_unsettled (filter (is_other_attempt a) mid.memory.leader.decided)) gone.knows ∙ sym (ap (λ x. with_unsettled x.leader.decided old.memory) is.memory);
  read = subst (λ x. CanRead t x new.memory.leader.decided) (sym is.durable) (subst (λ x. CanRead t (settled a Commit mid.durable) x.leader.decided) (sym is.memory) (record {
    versions = settled-in_form a mid.durable gone.read.versions;
    led = led_fewer t mid.memory.leader.decided (settled a Commit mid.durable) (is_other_attempt a) (led_committed t mid.memory.leader.decided a mid.durable gone.read.led);
  }));
}
  where
    there : (m : TargetMemory) (from : ActorId) (free reading : ℕ) (k : Kept) (left : TargetMemory × Did) → Iff (ReadsFrom t q e m from mid free reading k left) (ReadsFrom t q e m from new free reading k left)
    there m from free reading k left =
        subst (λ x. Iff (ReadsFrom t q e m from mid free reading k left) (Onward (FetchNext t m reading q) (FetchEnds t m reading q from) (Reading e new.memory.leader.decided) new.durable x free k left)) (sym is.changed)
        (subst (λ x. Iff (ReadsFrom t q e m from mid free reading k left) (Onward (FetchNext t m reading q) (FetchEnds t m reading q from) (Reading e new.memory.leader.decided) x true free k left)) (sym is.durable)
        (subst (λ x. Iff (ReadsFrom t q e m from mid free reading k left) (Onward (FetchNext t m reading q) (FetchEnds t m reading q from) (Reading e x.leader.decided) (settled a Commit mid.durable) true free k left)) (sym is.memory)
        (settles_iff t m reading q from e mid.memory.leader.decided mid.durable mid.changed free k left a gone.read.led way)))

-- what is known with a read's epoch
known_then : (q : FetchRequest) (e : Epoch) (decided : List AttemptId) (m : TargetMemory) (b : Bool) → (if b then with_unsettled decided m else with_ticks e (with_unsettled decided m)) ≡ with_unsettled decided (if b then m else with_ticks e m)
known_then q e decided m true = refl
known_then q e decided m false = refl

-- which attempts are decided then
decided_after : (t : TargetPlan) (q : FetchRequest) (from : ActorId) (e : Epoch) (r : Ending) (n : TargetMemory) → (left_by t q from e r n).0.leader.decided ≡ n.leader.decided
decided_after t q from e (ending.Replies (reply.Answer b)) n = refl
decided_after t q from e (ending.Replies (reply.Outcome o)) n = refl
decided_after t q from e (ending.Parks a leader) n = refl

decided_known : (q : FetchRequest) (e : Epoch) (m : TargetMemory) (b : Bool) → (if b then m else with_ticks e m).leader.decided ≡ m.leader.decided
decided_known q e m true = refl
decided_known q e m false = refl

pub ended_leaves : (t : TargetPlan) (q : FetchRequest) (from : ActorId) (e : Epoch) (old : Work) (x : End) (w : Work) (o : Option Ending) (r : Ending) (l : Left) → HasRead t q e old x → w ≡ x.work → o ≡ x.ending → o ≡ Some r
    → l ≡ left_of w (left_by t q from e r (ticks_known q e w.memory)) → FetchLeaves t from q old.memory (Reading e old.memory.leader.decided) old.durable old.changed (Some l)
ended_leaves t q from e old x w o r l h at_work at_ending some is = record {
  comes = λ reading free new left. iff_both (h.gone.on old.memory from free reading new left) (comes reading free new left);
  read = subst (λ y. CanRead t y.durable y.memory.leader.decided) (sym is) (subst (λ y. CanRead t w.durable y) (sym decided_is) (subst (λ y. CanRead t y.durable y.memory.leader.decided) (sym at_work) h.gone.read));
}
  where
    decided_is : (left_by t q from e r (ticks_known q e w.memory)).0.leader.decided ≡ w.memory.leader.decided
    decided_is = decided_after t q from e r (ticks_known q e w.memory) ∙ decided_known q e w.memory q.snapshot

    its : IsEnding t q e x.work.durable x.work.memory.leader.decided r
    its = subst (ComesTo t q e x.work.durable x.work.memory.leader.decided) (sym at_ending ∙ some) h.comes

    knows : ticks_known q e w.memory ≡ memory_then q e x.work.memory.leader.decided old.memory
    knows = ap (λ y. ticks_known q e y.memory) at_work ∙ ap (ticks_known q e) h.gone.knows ∙ known_then q e x.work.memory.leader.decided old.memory q.snapshot

    l_is : l ≡ left_of w (left_by t q from e r (memory_then q e x.work.memory.leader.decided old.memory))
    l_is = is ∙ ap (λ y. left_of w (left_by t q from e r y)) knows

    comes : (reading : ℕ) → Comes (FetchNext t old.memory reading q) (FetchEnds t old.memory reading q from) (Reading e x.work.memory.leader.decided) x.work.durable x.work.changed (Some l)
    comes reading =
        end_comes (FetchNext t old.memory reading q) (FetchEnds t old.memory reading q from) (Reading e x.work.memory.leader.decided) x.work.durable x.work.changed l
        (ap (λ y. y.durable) is ∙ ap (λ y. y.durable) at_work) (ap (λ y. y.changed) is ∙ ap (λ y. y.changed) at_work)
        (subst (λ y. OneEnd (FetchNext t old.memory reading q) (FetchEnds t old.memory reading q from) (Reading e x.work.memory.leader.decided) x.work.durable (y.memory, y.did)) (sym l_is)
        (ending_one t old.memory reading q from e x.work.memory.leader.decided x.work.durable r h.gone.read.led its))

pub stuck_leaves : (t : TargetPlan) (q : FetchRequest) (from : ActorId) (e : Epoch) (old : Work) (x : End) (o : Option Ending) → HasRead t q e old x → o ≡ x.ending → o ≡ None
    → FetchLeaves t from q old.memory (Reading e old.memory.leader.decided) old.durable old.changed None
stuck_leaves t q from e old x o h at_ending none = record { comes = λ reading free new left. iff_both (h.gone.on old.memory from free reading new left) (comes reading free new left); read = tt }
  where
    comes : (reading : ℕ) → Comes (FetchNext t old.memory reading q) (FetchEnds t old.memory reading q from) (Reading e x.work.memory.leader.decided) x.work.durable x.work.changed None
    comes reading =
        nowhere_comes (FetchNext t old.memory reading q) (FetchEnds t old.memory reading q from) (Reading e x.work.memory.leader.decided) x.work.durable x.work.changed
        (stuck_none t old.memory reading q from e x.work.memory.leader.decided x.work.durable (subst (ComesTo t q e x.work.durable x.work.memory.leader.decided) (sym at_ending ∙ none) h.comes))

-- ---- one decided attempt fewer
