-- Clients stay at the commands of their numbers, whatever happens.
use Rattle.std.specs.Prelude.{◌≡◌, ◌<◌, Bool, true, false, slice_get, refl}
use Rattle.std.proofs.Common.{sym, ◌∙◌, ap}
use Rattle.world_contents.specs.world_commit.attempts.History.{History}
use Rattle.world_base.specs.declared.world.World.{World}
use Rattle.world_base.specs.ClientTurns.{waits}
use Rattle.world_base.specs.Events.{Rules, client_plan}
use Rattle.world_base.specs.Letters.{talk_of}
use Rattle.world_base.specs.Stops.{Draws, Fails, Further, GivenUp, Happening, IsCut, Opens, Plainly, WorldEvent}
use Rattle.world_contents.specs.world_letters.epochs.Epochs.{ClientsStand}
use Rattle.world_contents.specs.world_letters.epochs.EventLaws.{clients-stand}
use Rattle.world_contents.specs.world_letters.epochs.Talking.{AtMostOne, NoLetter, OneLetter, TalksOnce}
use Rattle.world_contents.specs.world_commit.fates.Facts.{Attempts}
use Rattle.world_contents.specs.world_commit.fates.Rightly.{events-are-right}
use Rattle.world_contents.specs.world_letters.waits.Waits.{Conversation, IsAsked, IsHeld, IsReplied, TalksSo, asked_of, held_of}

-- ---- the statements

abbrev pub EventsKeepClients : Type 0
EventsKeepClients = (r : Rules) (h : History) (w v : World) → 0 < r.attempts → Attempts r h w → ClientsStand r w → WorldEvent r w v → ClientsStand r v

-- ---- conversations

-- one thing goes about for a client that waits, so at most one letter
pub talks-once : (r : Rules) (w : World) → Conversation r w → TalksOnce w
talks-once r w k n c here = by (waits c) (k.talks n c here)
  where
    by : (b : Bool) → TalksSo (client_plan r n) n c (talk_of n w.messages) (held_of n w) (asked_of n w) b → AtMostOne (talk_of n w.messages) b
    by true (IsAsked q is letters held asked) = OneLetter _ letters refl
    by true (IsHeld q x is holds letters held asked) = NoLetter letters
    by true (IsReplied q l is reply letters held asked) = OneLetter _ letters refl
    by false quiet = NoLetter quiet.no_letters

-- ---- clients

clients-same : (r : Rules) (w v : World) → v.clients ≡ w.clients → ClientsStand r w → ClientsStand r v
clients-same r w v same S n c at = S n c (ap (λ cs. slice_get cs n) (sym same) ∙ at)

happening-clients : (r : Rules) (h : History) (w v : World) → 0 < r.attempts → Attempts r h w → ClientsStand r w → Happening r w v → ClientsStand r v
happening-clients r h w v some k S (Plainly e up) = clients-stand r some w v S (events-are-right r h w v k e)
happening-clients r h w v some k S (Further g) = clients-same r w v (ap (λ u. u.clients) g.hears.after) S
happening-clients r h w v some k S (IsCut g) = clients-same r w v (ap (λ u. u.clients) g.after) S
happening-clients r h w v some k S (Opens g) = clients-same r w v (ap (λ u. u.clients) g.after) S
happening-clients r h w v some k S (Fails g) = clients-same r w v (ap (λ u. u.clients) g.after) S
happening-clients r h w v some k S (GivenUp g) = clients-same r w v (ap (λ u. u.clients) g.after) S
happening-clients r h w v some k S (Draws g) = clients-same r w v (ap (λ u. u.clients) g.after) S

pub events-keep-clients : EventsKeepClients
events-keep-clients r h w v some k S e = clients-same r e.u v (ap (λ u. u.clients) e.after) (happening-clients r h w e.u some k S e.happens)
