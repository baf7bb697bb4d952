-- The numbers of restarts and aggregations in an event's lines are those that were drawn for it.
use Rattle.std.specs.Prelude.{ℕ, ◌≡◌, ◌⊎◌, ◌<◌, nat_eq, Bool, true, false, List, [], ◌∷◌, ◌++◌, filter, map, Option, Some, None, refl}
use Rattle.std.proofs.Common.{append-nil, append_assoc, sym, ◌∙◌, ap, subst, inl, inr}
use Rattle.std.proofs.lemmas.List.Elements.{filter-append}
use Rattle.base_types.specs.declared.report.Line.{Line}
use Rattle.base_types.specs.declared.report.Line.TheVariants as line
use Rattle.base_messages.specs.declared.message.Message.{Message}
use Rattle.world_base.specs.model_laws.Members.{Has}
use Rattle.world_base.specs.model_laws.TargetLaws.{number_same}
use Rattle.daos_model.specs.Stops.{aggregate_numbers, restart_numbers}
use Rattle.world_base.specs.declared.world.World.{World}
use Rattle.world_base.specs.Events.{ByClient, ByTarget, Event, Rules, ToClient, ToTarget, client_plan, kept, target_plan, with_epoch}
use Rattle.world_base.specs.Roles.{is_prepared}
use Rattle.world_base.specs.Stops.{AtWork, CutOf, Draws, Fails, Further, GivenUp, Happening, Hearing, IdleWork, IsCut, IsFreeAggregate, IsFreeRestart, Opens, Plainly, TargetCut, WorldEvent, is_aggregate_of, is_restart_of, restart_line, stops_so_far, swept}
use Rattle.world_letters.specs.lives.Adding.{aggregates-append, restarts-append}
use Rattle.world_letters.specs.lives.ClientLines.{AreTries, hears-own, next-own}
use Rattle.world_letters.specs.lives.CutLines.{hearing-cut, idle-cut}
use Rattle.world_letters.specs.lives.Events.{as-added, no_prune, tries-filled, tries-numbers, turn-restarts}
use Rattle.world_letters.specs.lives.TurnLines.{AreTurnLines, further-lines, idle-lines, plain-lines}

-- ---- what was drawn for an event

-- the number of a restart that was drawn for it, if one was
abbrev pub restart_of : {r : Rules} {w v : World} → Happening r w v → Option ℕ
restart_of (Opens g) = Some g.number
restart_of (Plainly e up) = None
restart_of (Further g) = None
restart_of (IsCut g) = None
restart_of (Fails g) = None
restart_of (GivenUp g) = None
restart_of (Draws g) = None

abbrev pub number_at : AtWork → Option ℕ
number_at (Hearing l reading number) = Some number
number_at IdleWork = None

-- the number of an aggregation that was drawn for it, if one was
abbrev pub aggregate_of : {r : Rules} {w v : World} → Happening r w v → Option ℕ
aggregate_of (Further g) = Some g.number
aggregate_of (IsCut g) = number_at g.work
aggregate_of (Plainly e up) = None
aggregate_of (Opens g) = None
aggregate_of (Fails g) = None
aggregate_of (GivenUp g) = None
aggregate_of (Draws g) = None

-- the lines that were added have no other number of a restart than this, and none of an aggregation but that
pub record TakesNumbers (restart aggregate : Option ℕ) (w v : World) : Type 0 where
  pub more : List Line
  pub lines : v.lines ≡ w.lines ++ more
  pub restarts : (n : ℕ) → Has n (restart_numbers more) → restart ≡ Some n
  pub aggregates : (n : ℕ) → Has n (aggregate_numbers more) → aggregate ≡ Some n

-- ---- lines of attempts, and of targets' turns

none-has : (ns : List ℕ) (n : ℕ) → ns ≡ [] → Has n ns → ⊥
none-has ns n none i = subst (Has n) none i

tries-take : (w v : World) (more : List Line) → v.lines ≡ w.lines ++ more → AreTries more → TakesNumbers None None w v
tries-take w v more lines own = record {
  more = more;
  lines = lines;
  restarts = λ n i. absurd (none-has _ n (tries-numbers more own).restarts i);
  aggregates = λ n i. absurd (none-has _ n (tries-numbers more own).aggregations i);
}

nothing-taken : (w v : World) → v.lines ≡ w.lines → TakesNumbers None None w v
nothing-taken w v same = record { more = []; lines = same ∙ sym (append-nil w.lines); restarts = λ n i. absurd i; aggregates = λ n i. absurd i }

turn-aggregate : (t number : ℕ) (q : Message) (ls : List Line) (n : ℕ) → AreTurnLines t number q ls → Has n (aggregate_numbers ls) → Some number ≡ Some n
turn-aggregate t number q ls n k i = elim k.numbers [ inl none ↦ absurd (none-has _ n none i) | inr one ↦ by (subst (Has n) one.1 i) ]
  where
    by : Has n (number ∷ []) → Some number ≡ Some n
    by (inl same) = ap Some (sym same)
    by (inr none) = absurd none

turn-takes : (w v : World) (t number : ℕ) (q : Message) (ls : List Line) → v.lines ≡ w.lines ++ ls → AreTurnLines t number q ls → TakesNumbers None (Some number) w v
turn-takes w v t number q ls lines k = record {
  more = ls;
  lines = lines;
  restarts = λ n i. absurd (none-has _ n (turn-restarts t ls k.own) i);
  aggregates = λ n i. turn-aggregate t number q ls n k i;
}

-- a cut turn's lines have the line of the stop behind them
module _ (w v : World) (t number : ℕ) (q : Message) (ls : List Line) (lines : v.lines ≡ w.lines ++ (ls ++ line.Stop (stops_so_far w.lines) t ∷ [])) (k : AreTurnLines t number q ls) where
  abbrev last : List Line
  last = line.Stop (stops_so_far w.lines) t ∷ []

  cut-restarts : restart_numbers (ls ++ last) ≡ []
  cut-restarts = restarts-append ls last ∙ append-nil (restart_numbers ls) ∙ turn-restarts t ls k.own

  cut-aggregates : aggregate_numbers (ls ++ last) ≡ aggregate_numbers ls
  cut-aggregates = aggregates-append ls last ∙ append-nil (aggregate_numbers ls)

  stop-takes : TakesNumbers None (Some number) w v
  stop-takes = record {
    more = ls ++ last;
    lines = lines;
    restarts = λ n i. absurd (none-has _ n cut-restarts i);
    aggregates = λ n i. turn-aggregate t number q ls n k (subst (Has n) cut-aggregates i);
  }

  -- where no number was drawn for it, a turn has none
  silent-takes : aggregate_numbers ls ≡ [] → TakesNumbers None None w v
  silent-takes none = record {
    more = ls ++ last;
    lines = lines;
    restarts = λ n i. absurd (none-has _ n cut-restarts i);
    aggregates = λ n i. absurd (none-has _ n (cut-aggregates ∙ none) i);
  }

-- ---- events

plain-takes : (r : Rules) (w v : World) → Event r w v → TakesNumbers None None w v
plain-takes r w v (ByClient g) = tries-take w v (map (with_epoch w.issued) g.did.lines) (ap (λ x. x.lines) g.after) (tries-filled w.issued g.did.lines (next-own (client_plan r g.n) g.c g.d g.did g.turn))
plain-takes r w v (ToClient g) = tries-take w v (map (with_epoch w.issued) g.did.lines) (ap (λ x. x.lines) g.after) (tries-filled w.issued g.did.lines (hears-own (client_plan r g.n) g.c g.d g.l.message g.did g.turn))
plain-takes r w v (ToTarget g) =
    nothing-taken w v
    (ap (λ x. x.lines) g.after ∙ ap (λ ls. w.lines ++ map (with_epoch w.issued) ls) (plain-lines (target_plan r g.t) g.s.opening g.s.memory g.reading g.l.from g.l.message (kept g.s) g.new (g.memory, g.did) g.turn) ∙ append-nil w.lines)
plain-takes r w v (ByTarget g) =
    nothing-taken w v
    (ap (λ x. x.lines) g.after ∙ ap (λ ls. w.lines ++ map (with_epoch w.issued) ls) (idle-lines g.settling (target_plan r g.t) g.s.memory g.turn.last g.new (g.memory, g.did) g.turn.ends) ∙ append-nil w.lines)

cut-takes : (r : Rules) (w v : World) (g : TargetCut r w v) → TakesNumbers None (number_at g.work) w v
unfolding no_prune
cut-takes r w v g = by g.work g.turn
  where
    lines : v.lines ≡ w.lines ++ (g.cut.lines ++ line.Stop (stops_so_far w.lines) g.t ∷ [])
    lines = ap (λ x. x.lines) g.after ∙ append_assoc w.lines g.cut.lines (line.Stop (stops_so_far w.lines) g.t ∷ [])

    by : (work : AtWork) → CutOf (target_plan r g.t) g.s work g.cut → TakesNumbers None (number_at work) w v
    by (Hearing l reading number) turn =
        stop-takes w v g.t number l.message g.cut.lines lines (hearing-cut is_prepared number (target_plan r g.t) g.s.opening g.s.memory reading l.from l.message (kept g.s) g.cut turn)
    by IdleWork turn =
        let k = idle-cut g.t 0 no_prune g.s.memory (kept g.s) g.cut turn in
        silent-takes w v g.t 0 no_prune g.cut.lines lines k (elim k.numbers [ inl none ↦ none | inr one ↦ let no : false ≡ true = one.0 in absurd (cc) ])

happening-takes : (r : Rules) (w v : World) (e : Happening r w v) → TakesNumbers (restart_of e) (aggregate_of e) w v ⊎ (v.lines ≡ w.lines)
happening-takes r w v (Plainly e up) = inl (plain-takes r w v e)
happening-takes r w v (Further g) =
    let h = g.hears in
    let k = further-lines g.number (target_plan r h.t) h.s.opening h.s.memory h.reading h.l.from h.l.message (kept h.s) h.new (h.memory, h.did) h.turn in
    inl (turn-takes w v h.t g.number h.l.message h.did.lines (ap (λ x. x.lines) h.after ∙ ap (λ ls. w.lines ++ ls) (as-added h.t w.issued h.did.lines k.own)) k)
happening-takes r w v (IsCut g) = inl (cut-takes r w v g)
happening-takes r w v (Opens g) = inl (record {
  more = restart_line g.number g.t g.s.durable ∷ [];
  lines = ap (λ x. x.lines) g.after;
  restarts = λ n i. by n i;
  aggregates = λ n i. absurd i;
})
  where
    by : (n : ℕ) → Has n (g.number ∷ []) → Some g.number ≡ Some n
    by n (inl same) = ap Some (sym same)
    by n (inr none) = absurd none
happening-takes r w v (Fails g) = inr (ap (λ x. x.lines) g.after)
happening-takes r w v (GivenUp g) = inl (record { more = line.Down g.t ∷ []; lines = ap (λ x. x.lines) g.after; restarts = λ n i. absurd i; aggregates = λ n i. absurd i })
happening-takes r w v (Draws g) = inr (ap (λ x. x.lines) g.after)

pub event-takes : (r : Rules) (w v : World) (e : WorldEvent r w v) → TakesNumbers (restart_of e.happens) (aggregate_of e.happens) w v
event-takes r w v e = subst (TakesNumbers (restart_of e.happens) (aggregate_of e.happens) w) (sym e.after) (swept-takes e.u (happening-takes r w e.u e.happens))
  where
    swept-takes : (u : World) → TakesNumbers (restart_of e.happens) (aggregate_of e.happens) w u ⊎ (u.lines ≡ w.lines) → TakesNumbers (restart_of e.happens) (aggregate_of e.happens) w (swept u)
    swept-takes u (inl k) = record { more = k.more; lines = k.lines; restarts = k.restarts; aggregates = k.aggregates }
    swept-takes u (inr same) = record { more = []; lines = same ∙ sym (append-nil w.lines); restarts = λ n i. absurd i; aggregates = λ n i. absurd i }

-- ---- a number that was drawn for another

-- lines without a number leave it free
module _ (n : ℕ) where
  no-restart : (ls : List Line) → (Has n (restart_numbers ls) → ⊥) → filter (is_restart_of n) ls ≡ []
  no-restart [] off = refl
  no-restart (line.Try a ∷ ls) off = no-restart ls off
  no-restart (line.Stop k t ∷ ls) off = no-restart ls off
  no-restart (line.Restart k t inc floor ∷ ls) off = rw (apart-from k (λ same. off (inl same))) (no-restart ls (λ i. off (inr i)))
    where
      apart-from : (k : ℕ) → (n ≡ k → ⊥) → nat_eq k n ≡ false
      apart-from k other = by (nat_eq k n) refl
        where
          by : (b : Bool) → nat_eq k n ≡ b → b ≡ false
          by false is = refl
          by true is = absurd (other (sym (number_same k n is)))
  no-restart (line.Freeze t c f ∷ ls) off = no-restart ls off
  no-restart (line.Snapshot name c f ∷ ls) off = no-restart ls off
  no-restart (line.Aggregate k t c f ∷ ls) off = no-restart ls off
  no-restart (line.Down t ∷ ls) off = no-restart ls off

  no-aggregate : (ls : List Line) → (Has n (aggregate_numbers ls) → ⊥) → filter (is_aggregate_of n) ls ≡ []
  no-aggregate [] off = refl
  no-aggregate (line.Try a ∷ ls) off = no-aggregate ls off
  no-aggregate (line.Stop k t ∷ ls) off = no-aggregate ls off
  no-aggregate (line.Restart k t inc floor ∷ ls) off = no-aggregate ls off
  no-aggregate (line.Freeze t c f ∷ ls) off = no-aggregate ls off
  no-aggregate (line.Snapshot name c f ∷ ls) off = no-aggregate ls off
  no-aggregate (line.Aggregate k t c f ∷ ls) off = rw (apart-from k (λ same. off (inl same))) (no-aggregate ls (λ i. off (inr i)))
    where
      apart-from : (k : ℕ) → (n ≡ k → ⊥) → nat_eq k n ≡ false
      apart-from k other = by (nat_eq k n) refl
        where
          by : (b : Bool) → nat_eq k n ≡ b → b ≡ false
          by false is = refl
          by true is = absurd (other (sym (number_same k n is)))
  no-aggregate (line.Down t ∷ ls) off = no-aggregate ls off

pub restart-stays : (r : Rules) (w v : World) (e : WorldEvent r w v) (n : ℕ) → (restart_of e.happens ≡ Some n → ⊥) → IsFreeRestart w n → n < v.numbers.restarts → IsFreeRestart v n
restart-stays r w v e n other free drawn = record {
  drawn = drawn;
  unused = ap (filter (is_restart_of n)) k.lines ∙ filter-append (is_restart_of n) w.lines k.more ∙ ap (λ ls. ls ++ filter (is_restart_of n) k.more) free.unused ∙ no-restart n k.more (λ i. other (k.restarts n i));
}
  where
    k : TakesNumbers (restart_of e.happens) (aggregate_of e.happens) w v
    k = event-takes r w v e

pub aggregate-stays : (r : Rules) (w v : World) (e : WorldEvent r w v) (n : ℕ) → (aggregate_of e.happens ≡ Some n → ⊥) → IsFreeAggregate w n → n < v.numbers.aggregates → IsFreeAggregate v n
aggregate-stays r w v e n other free drawn = record {
  drawn = drawn;
  unused = ap (filter (is_aggregate_of n)) k.lines ∙ filter-append (is_aggregate_of n) w.lines k.more ∙ ap (λ ls. ls ++ filter (is_aggregate_of n) k.more) free.unused ∙ no-aggregate n k.more (λ i. other (k.aggregates n i));
}
  where
    k : TakesNumbers (restart_of e.happens) (aggregate_of e.happens) w v
    k = event-takes r w v e
