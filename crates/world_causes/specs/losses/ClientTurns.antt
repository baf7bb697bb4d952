-- A client's turn keeps the facts of losses.
use Rattle.std.specs.Prelude.{◌≡◌, true}
use Rattle.std.proofs.Common.{append-nil, sym, ap, subst}
use Rattle.model_laws.specs.Members.{Has}
use Rattle.world_contents.specs.world_commit.attempts.Counting.{has-left_over, has-taken}
use Rattle.world_base.specs.declared.world.World.{World}
use Rattle.world_base.specs.ClientTurns.{Ended_by, HearTurn, Heard_on, Move, heard, listed}
use Rattle.world_base.specs.Events.{ClientGoes, ClientHears, Rules, after_turn, client_plan, with_client}
use Rattle.world_base.specs.Letters.{client}
use Rattle.world_base.specs.StepLaws.{after-both, by-going, set-here}
use Rattle.world_base.specs.Steps.{after_move, without}
use Rattle.world_causes.specs.losses.ClientHears.{LossesAreAsked, heard-steps}
use Rattle.world_causes.specs.losses.Clients.{After, AreBegun, after-losses, after-none, going-after, moves-step, stepped}
use Rattle.world_causes.specs.losses.Losses.{Losses}

pub going-keeps : (r : Rules) (w v : World) → AreBegun r w → ClientGoes r w v → Losses r w → Losses r v
going-keeps r w v begun g k = after-losses r w v begun k (going-after r w v k g)

module _ (r : Rules) (w v : World) (asked : LossesAreAsked w) (k : Losses r w) (g : ClientHears r w v) where
  abbrev first : Move
  first = heard (client_plan r g.n) g.c g.l.message

  flies : Has g.l w.messages
  flies = has-taken w.messages g.l g.rest g.takes

  at-first : After r w (after_move (without w g.rest) g.n first)
  at-first = stepped r w (without w g.rest) (after-none r w g.rest k (λ l i. has-left_over w.messages g.l g.rest l g.takes i)) g.n g.c first g.here
      (heard-steps r w k g.n g.c g.l g.rest g.here flies (λ q x. asked g.l q x flies to-client))
    where
      to-client : g.l.to.client ≡ true
      to-client = ap (λ a. a.client) g.to_it

  hearing-after : After r w v
  hearing-after = subst (After r w) (sym g.after) (by g.turn)
    where
      by : HearTurn (client_plan r g.n) g.c g.l.message g.did g.d → After r w (with_client g.n g.d (after_turn w (client g.n) g.did g.rest))
      by (Ended_by over says after) = rw (after, says, append-nil w.issued) at-first
      by (Heard_on rest over did says) =
          rw (says, did.issued, append-nil w.issued)
          (subst (After r w) (after-both (without w g.rest) g.n (listed first.post) rest.posts (listed first.line) rest.lines first.state g.d)
          (by-going r (After r w) (moves-step r w) (after_move (without w g.rest) g.n first) g.n first.state g.d rest.posts rest.lines (set-here w.clients g.n g.c first.state g.here) at-first did.goes_on))

pub hearing-keeps : (r : Rules) (w v : World) → AreBegun r w → LossesAreAsked w → ClientHears r w v → Losses r w → Losses r v
hearing-keeps r w v begun asked g k = after-losses r w v begun k (hearing-after r w v asked k g)
