-- Clients keep that outcomes show their causes, whatever their commands are, where epochs of snapshots count as those of the attempts that read
-- there.
use Rattle.std.specs.Prelude.{◌<◌, refl}
use Rattle.std.proofs.Common.{append-nil, inl, inr, sym, ap, subst, arith}
use Rattle.daos_model.specs.Opening.{Opening, top}
use Rattle.model_laws.specs.Members.{Has}
use Rattle.world_legal.specs.world_commit.attempts.Counting.{has-left_over, has-taken}
use Rattle.world_base.specs.declared.world.World.{World}
use Rattle.world_base.specs.ClientTurns.{Ended_by, HearTurn, Heard_on, Move, heard, listed, moved}
use Rattle.world_base.specs.Events.{ClientGoes, ClientHears, Rules, after_turn, client_plan, with_client}
use Rattle.world_base.specs.Letters.{client}
use Rattle.world_base.specs.StepLaws.{after-both, by-going, by-next, set-here}
use Rattle.world_base.specs.Steps.{KeptByCounting, KeptByMoves, after_move, without}
use Rattle.world_legal.specs.world_causes.causes.Causes.{Dated, Stored}
use Rattle.world_legal.specs.world_causes.causes.HearingLaws.{LossesStand}
use Rattle.world_legal.specs.world_causes.causes.Shown.{Causes}
use Rattle.world_upheld.specs.causing.Dates.{line-on, with_dates}
use Rattle.world_upheld.specs.causing.Doing.{AreBegun, counting-causes, dated-goes_causes}
use Rattle.world_upheld.specs.causing.Ending.{AreToldOf, told-by-counting, told-by-hearing, told-by-moves}
use Rattle.world_upheld.specs.causing.Told.{dated-hears_causes}
use Rattle.world_owners.specs.world_making.dates.Answering.{quiet-client}
use Rattle.world_owners.specs.world_making.dates.Going.{moved-dates}
use Rattle.world_owners.specs.world_making.dates.Heard.{heard-dates}
use Rattle.world_owners.specs.world_making.dates.Moves.{quiet-same}
use Rattle.world_letters.specs.epochs.Epochs.{ClientsStand, Epochs}
use Rattle.world_letters.specs.epochs.EventLaws.{stands-by-counting, stands-by-hearing, stands-by-moves}
use Rattle.world_letters.specs.epochs.Talking.{silent-unless}
use Rattle.world_legal.specs.world_causes.hearing.HappeningEpochs.{talks-once}
use Rattle.world_legal.specs.world_causes.losses.ClientHears.{LossesAreAsked, heard-steps}
use Rattle.world_legal.specs.world_causes.losses.Clients.{After, Stepped, after-none, moves-step, stepped, counts-step}
use Rattle.world_legal.specs.world_causes.losses.Losses.{Losses}
use Rattle.world_letters.specs.waits.ClientLaws.{counting-keeps, hearing-keeps, moves-keep}
use Rattle.world_letters.specs.waits.Waits.{Conversation}

-- what goes along: conversations, places and epochs
abbrev pub ClientsKnown : Rules → Opening → World → Type 0
ClientsKnown r o w = Conversation r w × ClientsStand r w × Epochs r (top o) w

-- and what tells of losses, of questions of clients about their attempts
abbrev pub LossesKnown : Rules → World → Type 0
LossesKnown r w = Losses r w × LossesAreAsked w

-- a client goes on without a message; what was begun stays so
abbrev pub GoingKeepsCauses : Type 0
GoingKeepsCauses =
    (r : Rules) (o : Opening) (stored : Stored) (dated : Dated) (w v : World) → 0 < r.attempts → ClientsKnown r o w → LossesKnown r w → AreBegun r dated w → ClientGoes r w v → Causes r o stored (with_dates dated w)
    → AreBegun r dated v × Causes r o stored (with_dates dated v)

-- or hears one, also that a request of its is lost
abbrev pub HearsKeepsCauses : Type 0
HearsKeepsCauses =
    (r : Rules) (o : Opening) (stored : Stored) (dated : Dated) (w v : World) → 0 < r.attempts → ClientsKnown r o w → LossesKnown r w → AreBegun r dated w → (g : ClientHears r w v) → LossesStand r w.lines g.n g.c g.l.message → Causes r o stored (with_dates dated w)
    → AreBegun r dated v × Causes r o stored (with_dates dated v)

-- what was begun was so, after steps of a client's turn
pub begun-after : (r : Rules) (dated : Dated) (w u : World) → AreBegun r dated w → After r w u → AreToldOf r w u → AreBegun r dated u
begun-after r dated w u begun k ends x e i = elim (begun x e i) [
  | inl at ↦ ends x at
  | inr told ↦ inr (line-on w u x k.more k.told told)
]

module _ (r : Rules) (o : Opening) (stored : Stored) (dated : Dated) (some : 0 < r.attempts) (w : World) (lost : LossesKnown r w) (begun : AreBegun r dated w) where
  abbrev All : World → Type 0
  All u = ClientsKnown r o u × After r w u × AreToldOf r w u × Causes r o stored (with_dates dated u)

  all-moves : KeptByMoves r All
  all-moves u n c here p = (
    (moves-keep r u n c here p.0.0, stands-by-moves r some u n c here p.0.1, dates),
    moves-step r w u n c here p.1,
    told-by-moves r w u n c here p.2,
    dated-goes_causes r o stored dated u n c (talks-once r u p.0.0) p.0.1 dates (begun-after r dated w u begun p.1 p.2) here p.3,
  )
    where
      dates : Epochs r (top o) (after_move u n (moved (client_plan r n) c))
      dates = moved-dates r (top o) u n c p.0.1 p.0.2 here (λ idle. silent-unless u n c (talks-once r u p.0.0) here idle)

  all-counting : KeptByCounting All
  all-counting u n k c here p = (
    (counting-keeps r u n k c here p.0.0, stands-by-counting r some u n k c here p.0.1, dates),
    counts-step r w u n k c here p.1,
    told-by-counting r w u n k c here p.2,
    counting-causes r o stored dated u n k c (begun-after r dated w u begun p.1 p.2) dates here p.3,
  )
    where
      dates : Epochs r (top o) (with_client n (record c { skip = k }) u)
      dates = quiet-client r (top o) u n c (record c { skip = k }) p.0.2 (quiet-same r (top o) u n c (record c { skip = k }) p.0.2 here (omega arith) refl refl (λ name e i. i))

  pub going : (v : World) → ClientsKnown r o w → ClientGoes r w v → Causes r o stored (with_dates dated w) → All v
  going v known g C = by-next r All all-moves all-counting w v (known, after-none r w w.messages lost.0 (λ l i. i), (λ x at. inl at), C) g

  pub hears : (v : World) → ClientsKnown r o w → (g : ClientHears r w v) → LossesStand r w.lines g.n g.c g.l.message → Causes r o stored (with_dates dated w) → All v
  hears v known g losses C = subst All (sym g.after) (by g.turn)
    where
      first : Move
      first = heard (client_plan r g.n) g.c g.l.message

      flies : Has g.l w.messages
      flies = has-taken w.messages g.l g.rest g.takes

      steps : Stepped r w (without w g.rest) g.n g.c first
      steps = heard-steps r w lost.0 g.n g.c g.l g.rest g.here flies (λ q x. lost.1 g.l q x flies (ap (λ a. a.client) g.to_it))

      dates : Epochs r (top o) (after_move (without w g.rest) g.n first)
      dates = heard-dates r (top o) w g.n g.c g.l g.rest (talks-once r w known.0) known.1 known.2 g.here g.takes g.to_it

      all-heard : All (after_move (without w g.rest) g.n first)
      all-heard = (
        (hearing-keeps r w g.n g.c g.l g.rest g.here g.awake g.takes g.to_it known.0, stands-by-hearing r some w g.n g.c g.l g.rest g.here g.awake g.takes g.to_it known.1, dates),
        stepped r w (without w g.rest) (after-none r w g.rest lost.0 (λ l i. has-left_over w.messages g.l g.rest l g.takes i)) g.n g.c first g.here steps,
        told-by-hearing r w g.n g.c g.l g.rest g.here,
        dated-hears_causes r o stored dated w g.n g.c g.l g.rest (talks-once r w known.0) dates begun steps.past g.here g.takes g.to_it losses C,
      )

      by : HearTurn (client_plan r g.n) g.c g.l.message g.did g.d → All (with_client g.n g.d (after_turn w (client g.n) g.did g.rest))
      by (Ended_by over says after) = rw (after, says, append-nil w.issued) all-heard
      by (Heard_on rest over did says) =
          rw (says, did.issued, append-nil w.issued)
          (subst All (after-both (without w g.rest) g.n (listed first.post) rest.posts (listed first.line) rest.lines first.state g.d)
          (by-going r All all-moves (after_move (without w g.rest) g.n first) g.n first.state g.d rest.posts rest.lines (set-here w.clients g.n g.c first.state g.here) all-heard did.goes_on))

pub going-keeps : GoingKeepsCauses
going-keeps r o stored dated w v some known lost begun g C = let k = going r o stored dated some w lost begun v known g C in (begun-after r dated w v begun k.1 k.2, k.3)

pub hears-keeps : HearsKeepsCauses
hears-keeps r o stored dated w v some known lost begun g losses C = let k = hears r o stored dated some w lost begun v known g losses C in (begun-after r dated w v begun k.1 k.2, k.3)
