-- Each event of any run keeps the order of real time.
use Rattle.std.specs.Prelude.{ℕ, ◌≡◌, ◌⊎◌, ◌<◌, ◌++◌, false, List, [], Contains}
use Rattle.std.proofs.Common.{sym, subst, inl, inr}
use Rattle.daos_model.specs.declared.durable.Version.{Version}
use Rattle.daos_model.specs.Opening.{Opening, top}
use Rattle.model_laws.specs.Members.{Has, has-right}
use Rattle.world_base.specs.declared.world.World.{World}
use Rattle.world_base.specs.Events.{ByClient, ByTarget, ClientGoes, ClientHears, Rules, ToClient, ToTarget}
use Rattle.world_base.specs.Stops.{Draws, Fails, Further, GivenUp, Happening, IsCut, Opens, Plainly, WorldEvent}
use Rattle.world_upheld.specs.world_causes.hearing.Going.{AnswersAreServed, Before}
use Rattle.world_upheld.specs.world_causes.outcomes.Keeping.{IsOfTarget}
use Rattle.world_upheld.specs.world_commit.attempts.History.{GrowsBy, History, Served}
use Rattle.world_upheld.specs.world_commit.fates.Facts.{Attempts}
use Rattle.world_upheld.specs.world_commit.requests.Rows.{leaders-know}
use Rattle.world_upheld.specs.world_commit.stops.Cuts.{later-keeps}
use Rattle.world_upheld.specs.world_letters.clients.Snapshots.{is_at_snapshot}
use Rattle.world_upheld.specs.world_letters.waits.Happenings as wait
use Rattle.world_upheld.specs.world_letters.waits.Waits.{Conversation}
use Rattle.world_upheld.specs.world_making.prunings.MakingGots.{all-events-keep_gots}
use Rattle.world_upheld.specs.order.Clients.{clients-keep-order}
use Rattle.world_upheld.specs.order.Known.{lines-are-known, readers-are-borne-firsts, writers-are-borne-firsts}
use Rattle.world_upheld.specs.order.Passing.{OrderKnown, OrderStands, PassesOn, sweeping-keeps-order, targets-keep-order}
use Rattle.world_upheld.specs.upheld.Events as stands
use Rattle.world_upheld.specs.upheld.Heard.{all-heard_right}
use Rattle.world_upheld.specs.upheld.Telling.{all-targets_tell}
use Rattle.world_upheld.specs.upheld.Upheld.{Upheld}
use Rattle.world_upheld.specs.upheld.Begins.{AreBefore}
use Rattle.world_order.specs.Clients.{by-counting, by-hearing, by-moves}
use Rattle.world_order.specs.Epochs.{epochs-happened, frozen-made}
use Rattle.world_order.specs.Standing.{StandsInOrder, StandsInOrderStill}

-- each event of a run keeps it, beside all that is upheld
abbrev pub AllEventsKeepOrder : Type 0
AllEventsKeepOrder =
    (r : Rules) (o : Opening) (held : ℕ → List Version) (h : History) (w v : World) → 0 < r.attempts → AreBefore o held → StandsInOrder r o held h w → WorldEvent r w v
    → StandsInOrderStill r o held h v

module _ (r : Rules) (o : Opening) (held : ℕ → List Version) (h : History) (w v : World) (some : 0 < r.attempts) (before : AreBefore o held) (k : StandsInOrder r o held h w)
    (e : WorldEvent r w v) where
  abbrev all : Upheld r o held h w
  all = k.upheld

  abbrev later : History
  later = stands.later-so r o held h w v some before all.grounds all.contents e

  -- ---- what is known

  at-event : Before r o held h w
  at-event = record {
    given = all-heard_right r o held h w before all.grounds.heard;
    right = stands.right r o h later w v some all.grounds e (stands.go r o held h w v some before all.grounds all.contents e).grows;
    senders = all.grounds.senders;
    attempts = all.grounds.heard.attempts;
    writes = all.grounds.writes;
    versions = all.contents.versions;
    reads = all.contents.reads;
  }

  known : (g : Happening r w e.u) → IsOfTarget g → OrderKnown r o held h w e.u
  known g ours = record {
    before = at-event;
    told = lines-are-known r h w all.grounds.lines all.contents.gots all.contents.reads.asked all.grounds.outcomes;
    writers = writers-are-borne-firsts r (top o) h w all.grounds.heard.epochs at-event.right all.grounds.heard.attempts all.grounds.firsts;
    readers = readers-are-borne-firsts r w all.grounds.firsts;
    epochs = all.grounds.heard.epochs;
    epochs_then = epochs-happened r o h w e.u all.grounds.heard g ours;
    frozen_then = frozen-made r o h w e.u all.grounds.heard g ours;
  }

  -- what was served by then, at no snapshot, has epochs that were issued
  issued-then : (q : Served) → Has q later.served → is_at_snapshot r q.by ≡ false → Contains e.u.issued (q.by, q.epoch)
  issued-then q i off = subst (λ (z : World). Contains z.issued (q.by, q.epoch)) e.after ((stands.go r o held h w v some before all.grounds all.contents e).reads.issued q i off)

  -- ---- what happens

  abbrev Passes : Happening r w e.u → Type 0
  Passes g = PassesOn r k.passed later w e.u g

  by-target : (g : Happening r w e.u) → IsOfTarget g → AnswersAreServed g later → Passes g
  by-target g ours also =
      targets-keep-order r o held h later w e.u k.passed (known g ours) g ours (all-targets_tell r h w e.u all.grounds.heard.attempts g ours).tries also issued-then k.order

  by-client : ClientGoes r w e.u ⊎ ClientHears r w e.u → OrderStands r k.passed e.u
  by-client g =
      clients-keep-order r (top o) k.passed (by-moves r (top o) some) (by-counting r (top o) some) (by-hearing r (top o) some) w e.u
      (all.grounds.heard.talk, all.grounds.heard.stand, all.grounds.heard.epochs) g k.order

  passes : (g : Happening r w e.u) → AnswersAreServed g later → Passes g
  passes (Plainly (ByClient g) up) also = record { more = []; answered = tt; order = by-client (inl g) }
  passes (Plainly (ToClient g) up) also = record { more = []; answered = tt; order = by-client (inr g) }
  passes (Plainly (ToTarget g) up) also = by-target (Plainly (ToTarget g) up) tt also
  passes (Plainly (ByTarget g) up) also = by-target (Plainly (ByTarget g) up) tt also
  passes (Further g) also = by-target (Further g) tt also
  passes (IsCut g) also = by-target (IsCut g) tt also
  passes (Opens g) also = by-target (Opens g) tt also
  passes (Fails g) also = by-target (Fails g) tt also
  passes (GivenUp g) also = by-target (GivenUp g) tt also
  passes (Draws g) also = by-target (Draws g) tt also

  comes : Passes e.happens
  comes = passes e.happens (stands.go r o held h w v some before all.grounds all.contents e).also

  -- ---- what clients were told

  abbrev mine : History
  mine = record h { served = k.passed }

  -- what became of attempts speaks of no reads
  attempts-too : Attempts r mine w
  attempts-too = later-keeps r h mine w grows all.grounds.heard.attempts
    where
      grows : GrowsBy h [] mine
      grows = record {
        decided = λ x f d. d;
        committed = λ x f t. absurd t.sent;
        only_decided = λ x f d. inl d;
        aborted = λ x a. a;
        refused = λ x t. absurd t.told.sent;
        only_aborted = λ x a. inl a;
      }

  talk-happened : Conversation r e.u
  talk-happened = wait.happenings-keep r w e.u all.grounds.heard.requests (leaders-know r h w all.grounds.heard.attempts all.grounds.rows) e.happens all.grounds.heard.talk

  pub keeps : StandsInOrderStill r o held h v
  keeps = record {
    later = later;
    grew = stands.grew r o held h w v some before all.grounds all.contents e;
    stands = record {
      upheld = record {
        grounds = stands.grounds-then r o h later w v some all.grounds e (stands.go r o held h w v some before all.grounds all.contents e).grows;
        contents = stands.contents-then r o held h w v some before all.grounds all.contents e;
      };
      passed = comes.more ++ k.passed;
      gots = all-events-keep_gots r mine (record later { served = comes.more ++ k.passed }) w v some (λ q i. has-right comes.more k.passed q i) all.grounds.heard.talk all.grounds.senders attempts-too
          all.grounds.heard.stand k.gots e talk-happened comes.answered;
      order = subst (OrderStands r (comes.more ++ k.passed)) (sym e.after) (sweeping-keeps-order r (comes.more ++ k.passed) e.u comes.order);
    };
  }

pub all-events-keep_order : AllEventsKeepOrder
all-events-keep_order r o held h w v some before k e = keeps r o held h w v some before k e
