-- A turn in which a target hears of a snapshot or an aggregation keeps the facts of attempts.
use Rattle.std.specs.Prelude.{ℕ, ◌≡◌, true, List, [], slice_get, Some, refl}
use Rattle.std.proofs.Common.{append-nil, sym, ◌∙◌, ap, subst, inl, inr}
use Rattle.base_messages.specs.declared.message.Message.{Message}
use Rattle.base_messages.specs.declared.message.Message.TheVariants as message
use Rattle.base_messages.specs.declared.message.Post.{Post}
use Rattle.dtx_base.specs.Leading.{undecided_attempt}
use Rattle.dtx_base.specs.Members.{has_target}
use Rattle.dtx_base.specs.Rows.{row_of}
use Rattle.model_laws.specs.Members.{Has}
use Rattle.world_causes.specs.world_commit.attempts.Attempts.{inc_at, leader_of}
use Rattle.world_causes.specs.world_commit.attempts.History.{History}
use Rattle.world_causes.specs.world_commit.attempts.MemberBits.{has-with, has-with_other}
use Rattle.world_causes.specs.world_commit.attempts.Turning.{one-or_another, at_work}
use Rattle.world_base.specs.declared.letter.Letter.{Letter}
use Rattle.world_base.specs.declared.target.TargetState.{TargetState}
use Rattle.world_base.specs.declared.world.World.{World}
use Rattle.world_base.specs.Events.{Rules, TargetHearsBy, kept, target_after, target_plan}
use Rattle.world_base.specs.Further.{HearsFurther}
use Rattle.world_base.specs.Letters.{Takes, letters_of, target}
use Rattle.world_base.specs.PathLaws.{reached-keeps}
use Rattle.world_base.specs.Roles.{with_unsettled}
use Rattle.world_base.specs.StepLaws.{set-here, set-twice}
use Rattle.world_causes.specs.world_commit.fates.Concerns.{no-talk}
use Rattle.world_causes.specs.world_commit.fates.Facts.{Ongoing}
use Rattle.world_causes.specs.world_commit.fates.Overs.{Over}
use Rattle.world_causes.specs.world_commit.fates.Working.{work-begins}
use Rattle.world_making.specs.fates.Sends.{is_sent_in_making, making-sent, making-unconcerned, so, spare}
use Rattle.world_making.specs.fates.Steps.{AtMaking, making-step}
use Rattle.world_making.specs.making.Making.{IsOfMaking, MakingLeaves, MakingNext, down_then, making_begins}
use Rattle.world_making.specs.making.Turns.{hearings-leave}
use Rattle.world_causes.specs.world_commit.statuses.Listening as listening
use Rattle.world_causes.specs.world_commit.statuses.Turns.{hears-over}

-- who was known to be down is
down-stays : (q : Message) (down m : ℕ) → has_target down m ≡ true → has_target (down_then q down) m ≡ true
down-stays (message.Reset' by true place more) down m has = elim (one-or_another m by) [
  | inl same ↦ subst (λ n. has_target (down_then (message.Reset' by true place more) down) n ≡ true) (sym same) (has-with down by)
  | inr apart ↦ has-with_other down by m apart ∙ has
]
down-stays q down m has = has

module _ (number : ℕ) (r : Rules) (h : History) (w v : World) (k : Ongoing r h w) (g : TargetHearsBy (HearsFurther number) r w v) (is : IsOfMaking g.l.message) where
  pub left : MakingLeaves number (target_plan r g.t) g.s.memory g.reading g.l.from g.l.message (kept g.s) g.new (g.memory, g.did)
  left = hearings-leave number (target_plan r g.t) g.s.opening g.s.memory g.reading g.l.from g.l.message (kept g.s) g.new (g.memory, g.did) g.turn is

  -- the target at the end of the steps, before anything is sent
  abbrev Y : TargetState
  Y = target_after g.s g.new (with_unsettled left.last.unsettled g.s.memory)

  abbrev Z : TargetState
  Z = target_after g.s g.new g.memory

  abbrev W : World
  W = at_work w g.t Y []

  abbrev ls : List Letter
  ls = letters_of (target g.t) g.did.posts

  so-far : Ongoing r h W
  so-far =
      reached-keeps (MakingNext number (target_plan r g.t) g.s.memory g.reading g.l.from g.l.message) (AtMaking r h w g.t g.s g.here g.runs) (making-step r h w g.t g.s g.here g.runs number g.reading g.l.from g.l.message)
      (making_begins g.s.memory) (kept g.s) left.last g.new left.reached (work-begins r h w g.t g.s g.here k)

  there : slice_get W.targets g.t ≡ Some Y
  there = set-here w.targets g.t g.s Y g.here

  over : Over W v g.t Z g.l g.rest ls
  over = let o = hears-over number r w v g in record {
    takes = subst (λ ms. Takes ms g.l g.rest) (sym (append-nil w.messages)) o.takes;
    targets = o.targets ∙ sym (set-twice w.targets g.t Y Z);
    messages = o.messages;
    asked = o.asked;
    issued = o.issued;
  }

  abbrev V : World
  V = listening.V r h W v g.t Y Z there g.l g.rest ls over

  pub making-ongoing : Ongoing r h v
  making-ongoing =
      listening.ends r h W v g.t Y Z there g.l g.rest ls over g.runs refl refl left.ends.knows.decided
      (λ m has. ap (λ d. has_target d m) left.ends.knows.down ∙ down-stays g.l.message g.s.memory.leader.down m has)
      (λ x. listening.row-same x (row_of undecided_attempt x g.s.memory.leader.undecided) (row_of undecided_attempt x g.memory.leader.undecided) (ap (row_of undecided_attempt x) left.ends.knows.undecided))
      (λ x. listening.taken-falls r h W v g.t Y Z there g.l g.rest ls over x (spare (target g.t) g.did.posts sent x) (λ m. inl (no-talk r x g.l (making-unconcerned g.l.message is x) (inc_at V (leader_of r x)) m)))
      (listening.come-so r h W v g.t Y Z there g.l g.rest ls over (λ n i. so (target g.t) g.did.posts sent r h v n i)) (work-begins r h W g.t Y there so-far)
    where
      sent : (z : Post) → Has z g.did.posts → is_sent_in_making z.message ≡ true
      sent = making-sent (target_plan r g.t) g.s.memory g.l.from g.l.message g.new.durable g.did.posts left.ends.sends
