-- Whatever happens keeps what is stored once.
use Rattle.std.specs.Prelude.{◌≡◌, ◌++◌, Bool, true, false, refl}
use Rattle.std.proofs.Common.{sym, subst, inl, inr}
use Rattle.world_legal.specs.world_commit.attempts.Counting.{has-taken}
use Rattle.world_legal.specs.world_commit.attempts.History.{History}
use Rattle.world_base.specs.declared.world.World.{World}
use Rattle.world_base.specs.Events.{ByClient, ByTarget, Rules, ToClient, ToTarget, rightly}
use Rattle.world_base.specs.Stops.{Draws, Fails, Further, GivenUp, Happening, HearsMore, IsCut, Opens, Plainly}
use Rattle.world_legal.specs.world_causes.causes.Causes.{Stored, stored_by}
use Rattle.world_legal.specs.world_commit.fates.Rightly.{letters-tell}
use Rattle.world_owners.specs.world_making.making.Kinds.{of-attempts}
use Rattle.world_owners.specs.world_making.making.Making.{tells_of_snapshots}
use Rattle.world_legal.specs.world_causes.showing.Happening.{stored_in}
use Rattle.world_legal.specs.world_causes.stored.Cutting.{cut-over}
use Rattle.world_legal.specs.world_causes.stored.Further.{further-over}
use Rattle.world_legal.specs.world_causes.stored.Over.{IsStoringKnown, StoringOver}
use Rattle.world_legal.specs.world_causes.stored.Stopping.{failure-keeps, giving-up_keeps, numbers-keep, opening-keeps, sweep-keeps}
use Rattle.world_legal.specs.world_causes.stored.Targets.{idling-over, rightly-over}
use Rattle.world_upheld.specs.stored.Clients.{IsTalkKnown, goes-over, hearing-goes-over}
use Rattle.world_upheld.specs.stored.Laws.{AllClientsKeepStored, AllEventsKeepStored, AllHappeningsKeepStored, HappeningsKeepStoredWrites, IsMakingKnown, MakingEndsMakers, MakingKeepsStored, MakingStoresNothing, StoredWritesBegin}
use Rattle.world_upheld.specs.stored.Turns as turn
use Rattle.world_upheld.specs.stored.Writing.{StoredWrite, stored-writes-begin, writes-stay}

pub making-stores-nothing : MakingStoresNothing
making-stores-nothing r w v g is = turn.stores-nothing g.number r w v g.hears is

pub making-ends-makers-alone : MakingEndsMakers
making-ends-makers-alone r w v makings makers g is = turn.ends-makers g.number r w v g.hears is makings makers

pub stored-writes-began : StoredWritesBegin
stored-writes-began = stored-writes-begin

pub stored-writes-stay : HappeningsKeepStoredWrites
stored-writes-stay r h stored w v known e k = writes-stay r h w v known stored e k

pub making-keeps-stored : MakingKeepsStored
making-keeps-stored r h stored w v attempts hands known writes g is k =
    turn.making-over g.number r w v g.hears is h stored known.makings known.makers attempts hands known.stand writes k

pub all-clients-keep-stored : AllClientsKeepStored
all-clients-keep-stored r h stored w v K (inl g) S = goes-over r h stored w v K S g
all-clients-keep-stored r h stored w v K (inr g) S = hearing-goes-over r h stored w v K S g

-- ---- whatever happens

module _ (r : Rules) (h later : History) (stored : Stored) (w v : World) (G : IsStoringKnown r h later w v) (known : IsMakingKnown r w) (K : IsTalkKnown r h w)
    (writes : StoredWrite r stored)
    (S : StoringOver r stored w) where
  heard-over : (g : HearsMore r w v) (b : Bool) → tells_of_snapshots g.hears.l.message ≡ b → StoringOver r (stored_by g.hears.t g.hears.s.durable g.hears.new.durable ++ stored) v
  heard-over g true is = making-keeps-stored r h stored w v G.attempts G.hands known writes g is S
  heard-over g false off = further-over r h later stored w v G S g (of-attempts g.hears.l.message off)

  happening-over : (e : Happening r w v) → StoringOver r (stored_in r e ++ stored) v
  happening-over (Plainly (ByClient g) up) = goes-over r h stored w v K S g
  happening-over (Plainly (ToClient g) up) = hearing-goes-over r h stored w v K S g
  happening-over (Plainly (ToTarget g) up) =
      rightly-over r h later stored w v G S (rightly r w v g (letters-tell r h w G.attempts g.l g.t g.s (has-taken w.messages g.l g.rest g.takes) g.to_it g.here))
  happening-over (Plainly (ByTarget g) up) = idling-over r h later stored w v G S g
  happening-over (Further g) = heard-over g (tells_of_snapshots g.hears.l.message) refl
  happening-over (IsCut g) = cut-over r h later stored w v G S g
  happening-over (Opens g) = opening-keeps r stored w v g S
  happening-over (Fails g) = failure-keeps r stored w v g S
  happening-over (GivenUp g) = giving-up_keeps r stored w v g S
  happening-over (Draws g) = numbers-keep r stored w v g S

pub all-happenings-keep-stored : AllHappeningsKeepStored
all-happenings-keep-stored r h later stored w v G known K writes e S = happening-over r h later stored w v G known K writes S e

pub all-events-keep-stored : AllEventsKeepStored
all-events-keep-stored r h later stored w v e G known K writes S =
    subst (StoringOver r (stored_in r e.happens ++ stored)) (sym e.after)
    (sweep-keeps r (stored_in r e.happens ++ stored) e.u (happening-over r h later stored w e.u G known K writes S e.happens))
