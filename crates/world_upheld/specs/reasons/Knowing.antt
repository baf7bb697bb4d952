-- What a leader knows to be down was given up, also where it is told so of a snapshot or an aggregation that it asked for.
use Rattle.std.specs.Prelude.{ℕ, ◌≡◌, ◌⊎◌, Bool, true, false, refl}
use Rattle.std.proofs.Common.{inl, inr, sym, ◌∙◌, ap, subst}
use Rattle.base_messages.specs.declared.message.Message.{Message, more_of-Message}
use Rattle.base_messages.specs.declared.message.Message.TheVariants as message
use Rattle.dtx_base.specs.Members.{has_target}
use Rattle.world_legal.specs.world_commit.attempts.Counting.{has-taken}
use Rattle.world_legal.specs.world_commit.attempts.History.{History}
use Rattle.world_legal.specs.world_commit.attempts.MemberBits.{has-with_other}
use Rattle.world_legal.specs.world_commit.attempts.Turning.{one-or_another}
use Rattle.world_base.specs.declared.world.World.{World}
use Rattle.world_base.specs.Events.{Rules, kept, target_after, target_plan}
use Rattle.world_base.specs.Stops.{Draws, Fails, Further, GivenUp, Happening, HearsMore, IsCut, Opens, Plainly, WorldEvent}
use Rattle.world_legal.specs.world_commit.fates.Facts.{Attempts}
use Rattle.world_legal.specs.reasons.Downs.{DownsAreTold, TellsDown}
use Rattle.world_legal.specs.reasons.Knowing.{DownsAreKnown, happening-known, one-changed}
use Rattle.world_owners.specs.world_making.making.Kinds.{of-attempts}
use Rattle.world_owners.specs.world_making.making.Making.{IsOfMaking, MakingLeaves, down_then, tells_of_snapshots}
use Rattle.world_owners.specs.world_making.making.Turns.{hearings-leave}
use Rattle.world_legal.specs.world_commit.requests.Rows.{CommitsFindNoRow}
use Rattle.world_legal.specs.world_standing.standing.Events.{no-collections}

-- ---- the statement

-- each event keeps it so, where who is told that a target is down is told so of one that was given up, and Commits are new
abbrev pub AllEventsKeepKnownDowns : Type 0
AllEventsKeepKnownDowns = (r : Rules) (h : History) (w v : World) → Attempts r h w → CommitsFindNoRow w → DownsAreTold w → WorldEvent r w v → DownsAreKnown w → DownsAreKnown v

-- ---- what is told

-- a target that is known to be down then was known so, or is told to be
down-from : (q : Message) (d u : ℕ) → has_target (down_then q d) u ≡ true → (has_target d u ≡ true) ⊎ TellsDown u q
down-from (message.Reset' by true place (more_of-Message m rest)) d u has = elim (one-or_another u by) [
  | inl same ↦ inr (sym same)
  | inr off ↦ inl (sym (has-with_other d by u off) ∙ has)
]
down-from (message.Reset' by false place (more_of-Message m rest)) d u has = inl has
down-from q d u has = inl has

-- ---- turns

module _ (r : Rules) (h : History) (w v : World) (attempts : Attempts r h w) (commits : CommitsFindNoRow w) (downs : DownsAreTold w) (k : DownsAreKnown w) where
  making-known : (f : HearsMore r w v) → IsOfMaking f.hears.l.message → DownsAreKnown v
  making-known f is =
      let g = f.hears in
      one-changed w v k _ (ap (λ x. x.lines) g.after) g.t g.s (target_after g.s g.new g.memory) g.here (ap (λ x. x.targets) g.after)
      (λ u has. elim (down-from g.l.message g.s.memory.leader.down u (ap (λ n. has_target n u) (sym left.ends.knows.down) ∙ has)) [
        | inl was ↦ inl was
        | inr tells ↦ inr (downs g.l u (has-taken w.messages g.l g.rest g.takes) tells)
      ])
    where
      left :
          MakingLeaves f.number (target_plan r f.hears.t) f.hears.s.memory f.hears.reading f.hears.l.from f.hears.l.message (kept f.hears.s) f.hears.new
          (f.hears.memory, f.hears.did)
      left =
          hearings-leave f.number (target_plan r f.hears.t) f.hears.s.opening f.hears.s.memory f.hears.reading f.hears.l.from f.hears.l.message (kept f.hears.s) f.hears.new
          (f.hears.memory, f.hears.did) f.hears.turn is

  heard-known : (f : HearsMore r w v) (b : Bool) → tells_of_snapshots f.hears.l.message ≡ b → DownsAreKnown v
  heard-known f true is = making-known f is
  heard-known f false off =
      happening-known r h w v attempts commits downs k (Further f) (no-collections r w v (Further f) (of-attempts f.hears.l.message off))

  all-known : (e : Happening r w v) → DownsAreKnown v
  all-known (Further f) = heard-known f (tells_of_snapshots f.hears.l.message) refl
  all-known (Plainly e up) = happening-known r h w v attempts commits downs k (Plainly e up) tt
  all-known (IsCut g) = happening-known r h w v attempts commits downs k (IsCut g) tt
  all-known (Opens g) = happening-known r h w v attempts commits downs k (Opens g) tt
  all-known (Fails g) = happening-known r h w v attempts commits downs k (Fails g) tt
  all-known (GivenUp g) = happening-known r h w v attempts commits downs k (GivenUp g) tt
  all-known (Draws g) = happening-known r h w v attempts commits downs k (Draws g) tt

pub all-events-keep_known : AllEventsKeepKnownDowns
all-events-keep_known r h w v attempts commits downs e k =
    subst DownsAreKnown (sym e.after) (λ t u s here is. all-known r h w e.u attempts commits downs k e.happens t u s here is)
