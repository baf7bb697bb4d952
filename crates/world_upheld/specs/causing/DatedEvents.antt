-- What targets do is done alike where epochs of snapshots count as those of the attempts that read there.
use Rattle.std.specs.Prelude.{ℕ, ◌≡◌, ◌++◌, List, [], map}
use Rattle.std.proofs.Common.{sym, ◌∙◌, ap}
use Rattle.base_types.specs.declared.report.Line.{Line}
use Rattle.base_messages.specs.declared.message.Message.{Message}
use Rattle.world_base.specs.declared.world.World.{World}
use Rattle.world_base.specs.Events as events
use Rattle.world_base.specs.Events.{Rules, TargetHearsBy, TargetHearsRightly, TargetIdles, after_turn, kept, target_after, target_plan, with_epoch, with_target}
use Rattle.world_base.specs.Further.{HearsFurther}
use Rattle.world_base.specs.Letters.{target}
use Rattle.world_base.specs.MemoryLaws.{hears-follows, idles-follows}
use Rattle.world_base.specs.Stops.{AtWork, Hearing, HearsMore, IdleWork, IsInHand, IsNumberFresh, NumbersDrawn, OpeningFails, TargetCut, TargetGivenUp, TargetOpens}
use Rattle.world_legal.specs.world_causes.causes.Causes.{Dated}
use Rattle.world_upheld.specs.causing.Dates.{with_dates}
use Rattle.world_letters.specs.lives.Events.{as-added}
use Rattle.world_letters.specs.lives.TurnLines.{further-lines}

-- ---- an event where these count as the epochs of attempts

pub silent-same : (is js : Dated) (ls : List Line) → ls ≡ [] → map (with_epoch is) ls ≡ map (with_epoch js) ls
silent-same is js ls none = ap (map (with_epoch is)) none ∙ sym (ap (map (with_epoch js)) none)

module _ (r : Rules) (dated : Dated) (w v : World) where
  unfoldable pub hears-dated : (g : TargetHearsRightly r w v) → TargetHearsRightly r (with_dates dated w) (with_dates (dated ++ events.listed g.did.issued) v)
  hears-dated g = record {
    t = g.t;
    s = g.s;
    new = g.new;
    memory = g.memory;
    did = g.did;
    reading = g.reading;
    l = g.l;
    rest = g.rest;
    here = g.here;
    runs = g.runs;
    takes = g.takes;
    to_it = g.to_it;
    turn = g.turn;
    after = ap (with_dates (dated ++ events.listed g.did.issued)) g.after
        ∙ ap (λ ls. record (with_dates (dated ++ events.listed g.did.issued) (with_target g.t (target_after g.s g.new g.memory) (after_turn w (target g.t) g.did g.rest))) { lines = w.lines ++ ls })
        (silent-same w.issued dated g.did.lines (hears-follows (target_plan r g.t) g.s.opening g.s.memory g.reading g.l.from g.l.message (kept g.s) g.new (g.memory, g.did) g.turn).lines);
  }

  unfoldable pub idles-dated : (g : TargetIdles r w v) → TargetIdles r (with_dates dated w) (with_dates (dated ++ events.listed g.did.issued) v)
  idles-dated g = record {
    settling = g.settling;
    t = g.t;
    s = g.s;
    new = g.new;
    memory = g.memory;
    did = g.did;
    here = g.here;
    runs = g.runs;
    turn = g.turn;
    after = ap (with_dates (dated ++ events.listed g.did.issued)) g.after
        ∙ ap (λ ls. record (with_dates (dated ++ events.listed g.did.issued) (with_target g.t (target_after g.s g.new g.memory) (after_turn w (target g.t) g.did w.messages))) { lines = w.lines ++ ls })
        (silent-same w.issued dated g.did.lines (idles-follows g.settling (target_plan r g.t) g.s.memory (kept g.s) g.new (g.memory, g.did) g.turn).lines);
  }

  pub fresh-dated : (m : Message) (n : ℕ) → IsNumberFresh w m n → IsNumberFresh (with_dates dated w) m n
  fresh-dated m n fresh is = let f = fresh is in record { drawn = f.drawn; unused = f.unused }

  unfoldable pub further-dated : (g : HearsMore r w v) → HearsMore r (with_dates dated w) (with_dates (dated ++ events.listed g.hears.did.issued) v)
  further-dated g = record { number = g.number; hears = hears; fresh = fresh-dated g.hears.l.message g.number g.fresh }
    where
      k : TargetHearsBy (HearsFurther g.number) r w v
      k = g.hears

      same : map (with_epoch w.issued) k.did.lines ≡ map (with_epoch dated) k.did.lines
      same = let own = (further-lines g.number (target_plan r k.t) k.s.opening k.s.memory k.reading k.l.from k.l.message (kept k.s) k.new (k.memory, k.did) k.turn).own in as-added k.t w.issued k.did.lines own ∙ sym (as-added k.t dated k.did.lines own)

      hears : TargetHearsBy (HearsFurther g.number) r (with_dates dated w) (with_dates (dated ++ events.listed k.did.issued) v)
      hears = record {
        t = k.t;
        s = k.s;
        new = k.new;
        memory = k.memory;
        did = k.did;
        reading = k.reading;
        l = k.l;
        rest = k.rest;
        here = k.here;
        runs = k.runs;
        takes = k.takes;
        to_it = k.to_it;
        turn = k.turn;
        after = ap (with_dates (dated ++ events.listed k.did.issued)) k.after
            ∙ ap (λ ls. record (with_dates (dated ++ events.listed k.did.issued) (with_target k.t (target_after k.s k.new k.memory) (after_turn w (target k.t) k.did k.rest))) { lines = w.lines ++ ls }) same;
      }

  pub in_hand-dated : (t : ℕ) (work : AtWork) → IsInHand w t work → IsInHand (with_dates dated w) t work
  in_hand-dated t (Hearing l reading number) h = (h.0, h.1, fresh-dated l.message number h.2)
  in_hand-dated t IdleWork h = tt

  unfoldable pub cut-dated : (g : TargetCut r w v) → TargetCut r (with_dates dated w) (with_dates (dated ++ g.cut.issued) v)
  cut-dated g = record { t = g.t; s = g.s; work = g.work; cut = g.cut; here = g.here; runs = g.runs; in_hand = in_hand-dated g.t g.work g.in_hand; turn = g.turn; after = ap (with_dates (dated ++ g.cut.issued)) g.after }

  pub opens-dated : TargetOpens r w v → TargetOpens r (with_dates dated w) (with_dates dated v)
  opens-dated g = record { t = g.t; s = g.s; number = g.number; free = g.free; here = g.here; stopped = g.stopped; is_free = record { drawn = g.is_free.drawn; unused = g.is_free.unused }; no_less = g.no_less; after = ap (with_dates dated) g.after }

  pub fails-dated : OpeningFails r w v → OpeningFails r (with_dates dated w) (with_dates dated v)
  fails-dated g = record { t = g.t; s = g.s; k = g.k; here = g.here; stopped = g.stopped; left = g.left; no_less = g.no_less; after = ap (with_dates dated) g.after }

  pub given_up-dated : TargetGivenUp r w v → TargetGivenUp r (with_dates dated w) (with_dates dated v)
  given_up-dated g = record { t = g.t; s = g.s; here = g.here; stopped = g.stopped; after = ap (with_dates dated) g.after }

  pub drawn-dated : NumbersDrawn w v → NumbersDrawn (with_dates dated w) (with_dates dated v)
  drawn-dated g = record { numbers = g.numbers; above = g.above; after = ap (with_dates dated) g.after }
