-- A client's turn leads from a world that the actors show to one that they show then.
use Rattle.std.specs.Prelude.{ℕ, ◌≡◌, List, slice_get, Bool, Option, Some, None, refl}
use Rattle.std.proofs.Common.{sym, ◌∙◌, ap, subst}
use Rattle.std.proofs.Math.ListN.{set}
use Rattle.client_core.specs.Clients.{ClientNow}
use Rattle.daos_model.specs.declared.durable.Durable.{Durable}
use Rattle.run_base.specs.Letters.{BetweenNow, IsPicked}
use Rattle.run_base.specs.Picks.{count_to, heard_awake, heard_by_client}
use Rattle.run_laws.specs.shows.Parts.{IsTurnSo, follow-shown, picked-takes, swept-shown}
use Rattle.run_laws.specs.shows.ListLaws.{get-set, map-get, map-set}
use Rattle.run_laws.specs.shows.Shows.{Leads, Shows, state_of}
use Rattle.run_laws.specs.shows.Stages.{AreFound, StageNow}
use Rattle.run_laws.specs.shows.Turned.{followed, swept_stage, with_between, with_client_at}
use Rattle.run_laws.specs.turns.Turns.{Doing}
use Rattle.vos_store.specs.Calls.{State}
use Rattle.world_base.specs.declared.did.Did.{Did}
use Rattle.world_base.specs.declared.letter.Letter.{Letter}
use Rattle.world_base.specs.declared.world.World.{World}
use Rattle.world_base.specs.ClientTurns.{HearTurn, NextTurn}
use Rattle.world_base.specs.Events.{ByClient, Rules, ToClient, after_turn, client_plan, with_client}
use Rattle.world_base.specs.Letters.{Takes, client}
use Rattle.world_base.specs.Stops.{Plainly, swept}

module _ {S C : Type 0} (durable : S → Option Durable) (state : S → State) (may : S → Durable → Type 0) (r : Rules) (n : ℕ) (c d : ClientNow) (a : StageNow S C) (did : Did) (left : BetweenNow) (at : slice_get a.clients n ≡ Some c) (plan : d.plan ≡ c.plan) where
  -- the actors after this
  abbrev pub client-after : StageNow S C
  client-after = swept_stage (with_between (followed (client n) did left) (with_client_at n d a))

  module _ (asked : left.asked ≡ a.between.asked) (issued : left.issued ≡ a.between.issued) (lines : left.lines ≡ a.between.lines) where
    abbrev world-after : World → List Letter → World
    world-after w rest = with_client n d.state (after_turn w (client n) did rest)

    shown : (found : ℕ → Durable) (w : World) (rest : List Letter) → left.messages ≡ rest → Shows durable state r found a w → Shows durable state r found client-after (swept (world-after w rest))
    shown found w rest messages k = swept-shown durable state r found _ _ (record {
      clients = ap (λ cs. set cs n d.state) k.clients ∙ sym (map-set state_of a.clients n d);
      plans = λ m x is. get-set (λ j y. y.plan ≡ client_plan r j) a.clients n d (plan ∙ k.plans n c at) k.plans m x is;
      many = k.many;
      lives = k.lives;
      targets = λ t x life s p here. f.targets t x life s (record { there = p.there; stands = p.stands }) here;
      messages = f.messages;
      asked = f.asked;
      issued = f.issued;
      lines = f.lines;
      restarts = k.restarts;
    })
      where
        f : Shows durable state r found (with_between (followed (client n) did left) a) (after_turn w (client n) did rest)
        f = follow-shown durable state r found a w (client n) did left rest k messages asked issued lines

    here : (found : ℕ → Durable) (w : World) → Shows durable state r found a w → slice_get w.clients n ≡ Some c.state
    here found w k = ap (λ cs. slice_get cs n) k.clients ∙ map-get state_of a.clients n c at

    same-found : (found : ℕ → Durable) → AreFound may client-after found → AreFound may a found
    same-found found are t x life p rests = are t x life (record { there = p.there; stands = p.stands }) rests

    -- it heard a message
    pub client-hears : (settling : Bool) (number : ℕ) (l : Letter) (rest : List Letter) → c.state.skip ≡ 0 → IsPicked a.between.messages (client n) number l rest → left.messages ≡ rest → HearTurn c.plan c.state l.message did d.state
        → Leads durable state may (IsTurnSo settling r (client n) number 0 None None None None) r a client-after
    client-hears settling number l rest awake picked messages turn found are = record {
      before = found;
      were = same-found found are;
      led = λ w reached k. record {
        next = swept (world-after w rest);
        turn = record {
          turn = Doing (record {
            event = record {
              u = world-after w rest;
              happens = Plainly (ToClient (record {
                n = n;
                c = c.state;
                d = d.state;
                did = did;
                l = l;
                rest = rest;
                here = here found w k;
                awake = awake;
                takes = subst (λ ls. Takes ls l rest) k.messages (picked-takes a.between.messages number l rest (client n) picked);
                to_it = picked.to_it;
                turn = subst (λ p. HearTurn p c.state l.message did d.state) (k.plans n c at) turn;
                after = refl;
              })) tt;
              after = refl;
            };
            by = (refl, subst (λ ls. IsPicked ls (client n) number l rest) k.messages picked);
          }) tt;
          raised_is = refl;
          stops_is = refl;
          downs_is = refl;
          faults_is = refl;
          read_is = refl;
        };
        shows = shown found w rest messages k;
      };
    }

    -- it went on without one
    pub client-goes : (settling : Bool) (number : ℕ) → heard_awake c.state (count_to (client n) a.between.messages) ≡ 0 → left.messages ≡ a.between.messages → NextTurn c.plan c.state did d.state
        → Leads durable state may (IsTurnSo settling r (client n) number 0 None None None None) r a client-after
    client-goes settling number none messages turn found are = record {
      before = found;
      were = same-found found are;
      led = λ w reached k. record {
        next = swept (world-after w w.messages);
        turn = record {
          turn = Doing (record {
            event = record {
              u = world-after w w.messages;
              happens = Plainly (ByClient (record {
                n = n;
                c = c.state;
                d = d.state;
                did = did;
                here = here found w k;
                turn = subst (λ p. NextTurn p c.state did d.state) (k.plans n c at) turn;
                after = refl;
              })) tt;
              after = refl;
            };
            by = (refl, ap (heard_by_client (count_to (client n) w.messages)) (here found w k) ∙ ap (λ ls. heard_awake c.state (count_to (client n) ls)) (sym k.messages) ∙ none);
          }) tt;
          raised_is = refl;
          stops_is = refl;
          downs_is = refl;
          faults_is = refl;
          read_is = refl;
        };
        shows = shown found w w.messages (messages ∙ k.messages) k;
      };
    }
