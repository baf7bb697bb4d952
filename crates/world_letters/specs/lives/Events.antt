-- Each event of a run keeps what its lines tell of targets.
use Rattle.std.specs.Prelude.{ℕ, ◌+◌, ◌≡◌, ◌⊎◌, ◌≤◌, ◌==◌, ◌++◌, Bool, true, false, nat_eq, List, [], ◌∷◌, All, length, map, slice_get, Option, Some, None, refl, if◌then◌else◌}
use Rattle.std.specs.List.{IsDistinct}
use Rattle.std.proofs.Common.{append-nil, append_assoc, sym, ◌∙◌, ap, subst, arith, inl, inr}
use Rattle.std.proofs.Math.ListN.{set}
use Rattle.std.proofs.lemmas.List.{length-append}
use Rattle.std.proofs.lemmas.List.Elements.{All-nil}
use Rattle.base_types.specs.Epochs.{restart_floor}
use Rattle.base_types.specs.declared.epoch.Epoch.{Epoch}
use Rattle.base_types.specs.declared.id.AttemptId.{AttemptId}
use Rattle.base_types.specs.declared.report.Line.{Line}
use Rattle.base_types.specs.declared.report.Line.TheVariants as line
use Rattle.base_messages.specs.declared.message.Message.{Message}
use Rattle.base_messages.specs.declared.message.Message.TheVariants.{Marked}
use Rattle.world_base.specs.model_laws.Members.{Has, has-cases, has-from_filter, has-from_map}
use Rattle.world_base.specs.model_laws.TargetLaws.{same_number}
use Rattle.daos_model.specs.Changes.{reopened}
use Rattle.daos_model.specs.Stops as told
use Rattle.daos_model.specs.Stops.{AreCounted, HasTarget, after_all, aggregate_numbers, aggregated_number, floors, incarnations, is_at, lines_at, opened_floor, opened_incarnation, restart_numbers, restarted_number, stop_numbers, stopped_number, target_of}
use Rattle.world_base.specs.declared.target.Life.TheVariants.{Down, Running}
use Rattle.world_base.specs.declared.target.TargetState.{TargetState}
use Rattle.world_base.specs.declared.world.World.{World}
use Rattle.world_base.specs.CutTurns.{Cutting}
use Rattle.world_base.specs.Events.{ByClient, ByTarget, ClientGoes, ClientHears, Event, Rules, ToClient, ToTarget, client_plan, kept, target_after, target_plan, with_epoch}
use Rattle.world_base.specs.Roles.{is_prepared}
use Rattle.world_base.specs.Stops.{AtWork, CutOf, Draws, Fails, Further, GivenUp, Happening, Hearing, HearsMore, IdleWork, IsBelowNumbers, IsCut, IsFreeAggregate, IsInHand, IsNumberFresh, NumbersDrawn, OpeningFails, Opens, Plainly, TargetCut, TargetGivenUp, TargetOpens, WorldEvent, opened_at, restart_line, stopped_at, stops_so_far, swept}
use Rattle.world_base.specs.TurnLaws.{hears-keeps, idles-keeps}
use Rattle.world_letters.specs.lives.Adding.{Adds, AreOf, HasNew, NoNumber, OneNumber, OpensAgain, StaysAsItIs, adds-keeps, after-append, aggregates-append, all-of, at-append, floors-append, goes-on, incarnations-append, none-stopped, one-adds, stops_of, restarts-append, stops-append}
use Rattle.world_letters.specs.lives.ClientLines.{AreTries, hears-own, next-own}
use Rattle.world_letters.specs.lives.CutLines.{hearing-cut, idle-cut}
use Rattle.world_letters.specs.lives.Leases.{Lasts, further-lasts, hearing-lasts, idle-lasts}
use Rattle.world_letters.specs.lives.Lives.{Lives, TellsOf, standing_of}
use Rattle.world_letters.specs.lives.Numbers.{distinct-none, gather-none}
use Rattle.world_letters.specs.lives.TurnLines.{AreTurnLines, IsTurnLine, further-lines, idle-lines, plain-lines}

-- ---- no target goes on

-- where each target stays as it is, and what is told is of attempts
tries-none : (ls : List Line) → AreTries ls → (t : ℕ) → lines_at t ls ≡ []
tries-none [] own t = refl
tries-none (line.Try a ∷ ls) own t = tries-none ls (λ m i. own m (inr i)) t
tries-none (line.Stop n u ∷ ls) own t = let k = own (line.Stop n u) (inl refl) in let e : line.Stop n u ≡ line.Try k.0 = k.1 in let no : ⊥ = cc in absurd no
tries-none (line.Restart n u inc floor ∷ ls) own t = let k = own (line.Restart n u inc floor) (inl refl) in let e : line.Restart n u inc floor ≡ line.Try k.0 = k.1 in let no : ⊥ = cc in absurd no
tries-none (line.Freeze u c s ∷ ls) own t = let k = own (line.Freeze u c s) (inl refl) in let e : line.Freeze u c s ≡ line.Try k.0 = k.1 in let no : ⊥ = cc in absurd no
tries-none (line.Snapshot name c s ∷ ls) own t = let k = own (line.Snapshot name c s) (inl refl) in let e : line.Snapshot name c s ≡ line.Try k.0 = k.1 in let no : ⊥ = cc in absurd no
tries-none (line.Aggregate n u c s ∷ ls) own t = let k = own (line.Aggregate n u c s) (inl refl) in let e : line.Aggregate n u c s ≡ line.Try k.0 = k.1 in let no : ⊥ = cc in absurd no
tries-none (line.Down u ∷ ls) own t = let k = own (line.Down u) (inl refl) in let e : line.Down u ≡ line.Try k.0 = k.1 in let no : ⊥ = cc in absurd no

-- no numbers are among them
pub record HasNoNumbers (ls : List Line) : Type 0 where
  pub stops : stop_numbers ls ≡ []
  pub restarts : restart_numbers ls ≡ []
  pub aggregations : aggregate_numbers ls ≡ []

pub tries-numbers : (ls : List Line) → AreTries ls → HasNoNumbers ls
tries-numbers ls own = record {
  stops = gather-none stopped_number stop_numbers refl (λ l ls. refl) ls (λ l i. ap stopped_number (own l i).1);
  restarts = gather-none restarted_number restart_numbers refl (λ l ls. refl) ls (λ l i. ap restarted_number (own l i).1);
  aggregations = gather-none aggregated_number aggregate_numbers refl (λ l ls. refl) ls (λ l i. ap aggregated_number (own l i).1);
}

same-targets : (w v : World) (more : List Line) → v.targets ≡ w.targets → v.numbers ≡ w.numbers → v.lines ≡ w.lines ++ more → AreTries more → Adds None w v
same-targets w v more targets numbers lines own = record {
  more = more;
  lines = lines;
  numbers = numbers;
  few = ap length targets;
  targets = λ t z at. (z, ap (λ ts. slice_get ts t) (sym targets) ∙ at, goes-on more t z z (tries-none more own t) refl (omega arith) (omega arith));
  bounded = all-of (HasTarget (length w.targets)) more (λ l i. subst (HasTarget (length w.targets)) (sym (own l i).1) tt);
  stops = subst (AreCounted (stops_so_far w.lines)) (sym none.stops) tt;
  stopped = none-stopped more none.stops;
  restarts = NoNumber none.restarts;
  aggregations = NoNumber none.aggregations;
}
  where
    none : HasNoNumbers more
    none = tries-numbers more own

-- the epochs that lines get are of attempts
pub tries-filled : (issued : List (AttemptId × Epoch)) (ls : List Line) → AreTries ls → AreTries (map (with_epoch issued) ls)
tries-filled issued ls own l i =
    let k = has-from_map (with_epoch issued) ls l i in
    let t = own k.0 k.1 in
    (_, sym k.2 ∙ ap (with_epoch issued) t.1)

client-goes : (r : Rules) (w v : World) → ClientGoes r w v → Adds None w v
client-goes r w v g =
    same-targets w v (map (with_epoch w.issued) g.did.lines) (ap (λ x. x.targets) g.after) (ap (λ x. x.numbers) g.after) (ap (λ x. x.lines) g.after)
    (tries-filled w.issued g.did.lines (next-own (client_plan r g.n) g.c g.d g.did g.turn))

client-hears : (r : Rules) (w v : World) → ClientHears r w v → Adds None w v
client-hears r w v g =
    same-targets w v (map (with_epoch w.issued) g.did.lines) (ap (λ x. x.targets) g.after) (ap (λ x. x.numbers) g.after) (ap (λ x. x.lines) g.after)
    (tries-filled w.issued g.did.lines (hears-own (client_plan r g.n) g.c g.d g.l.message g.did g.turn))

-- ---- a running target goes on

turn-of : (t : ℕ) (l : Line) → IsTurnLine t l → (target_of l ≡ None) ⊎ (target_of l ≡ Some t)
turn-of t (line.Freeze u c e) own = inr (ap Some own)
turn-of t (line.Aggregate n u c e) own = inr (ap Some own)
turn-of t (line.Snapshot name c e) own = inl refl
turn-of t (line.Try a) own = absurd own
turn-of t (line.Stop n u) own = absurd own
turn-of t (line.Restart n u inc floor) own = absurd own
turn-of t (line.Down u) own = absurd own

turn-are : (t number : ℕ) (q : Message) (ls : List Line) → AreTurnLines t number q ls → AreOf t ls
turn-are t number q ls k l i = turn-of t l (k.own l i)

-- by them a target that runs goes on running
turn-stands : (t : ℕ) (ls : List Line) → ((l : Line) → Has l ls → IsTurnLine t l) → after_all (Some told.Running) (lines_at t ls) ≡ Some told.Running
turn-stands t [] own = refl
turn-stands t (line.Try a ∷ ls) own = absurd (own (line.Try a) (inl refl))
turn-stands t (line.Stop n u ∷ ls) own = absurd (own (line.Stop n u) (inl refl))
turn-stands t (line.Restart n u inc floor ∷ ls) own = absurd (own (line.Restart n u inc floor) (inl refl))
turn-stands t (line.Down u ∷ ls) own = absurd (own (line.Down u) (inl refl))
turn-stands t (line.Snapshot name c s ∷ ls) own = turn-stands t ls (λ m i. own m (inr i))
turn-stands t (line.Freeze u c s ∷ ls) own = by (u == t) (turn-stands t ls (λ m i. own m (inr i)))
  where
    by : (b : Bool) → after_all (Some told.Running) (lines_at t ls) ≡ Some told.Running → after_all (Some told.Running) (if b then line.Freeze u c s ∷ lines_at t ls else lines_at t ls) ≡ Some told.Running
    by true k = k
    by false k = k
turn-stands t (line.Aggregate n u c s ∷ ls) own = by (u == t) (turn-stands t ls (λ m i. own m (inr i)))
  where
    by : (b : Bool) → after_all (Some told.Running) (lines_at t ls) ≡ Some told.Running → after_all (Some told.Running) (if b then line.Aggregate n u c s ∷ lines_at t ls else lines_at t ls) ≡ Some told.Running
    by true k = k
    by false k = k

-- among them are no stops, restarts and openings
turn-stop : (t : ℕ) (l : Line) → IsTurnLine t l → stopped_number l ≡ []
turn-stop t (line.Freeze u c e) own = refl
turn-stop t (line.Aggregate n u c e) own = refl
turn-stop t (line.Snapshot name c e) own = refl
turn-stop t (line.Try a) own = refl
turn-stop t (line.Stop n u) own = absurd own
turn-stop t (line.Restart n u inc floor) own = absurd own
turn-stop t (line.Down u) own = refl

turn-restart : (t : ℕ) (l : Line) → IsTurnLine t l → (restarted_number l ≡ []) × (opened_incarnation l ≡ []) × (opened_floor l ≡ [])
turn-restart t (line.Freeze u c e) own = (refl, refl, refl)
turn-restart t (line.Aggregate n u c e) own = (refl, refl, refl)
turn-restart t (line.Snapshot name c e) own = (refl, refl, refl)
turn-restart t (line.Try a) own = (refl, refl, refl)
turn-restart t (line.Stop n u) own = (refl, refl, refl)
turn-restart t (line.Restart n u inc floor) own = absurd own
turn-restart t (line.Down u) own = (refl, refl, refl)

module _ (t : ℕ) (ls : List Line) (own : (l : Line) → Has l ls → IsTurnLine t l) where
  turn-stops : stop_numbers ls ≡ []
  turn-stops = gather-none stopped_number stop_numbers refl (λ l ls. refl) ls (λ l i. turn-stop t l (own l i))

  pub turn-restarts : restart_numbers ls ≡ []
  turn-restarts = gather-none restarted_number restart_numbers refl (λ l ls. refl) ls (λ l i. (turn-restart t l (own l i)).0)

  turn-incarnations : incarnations (lines_at t ls) ≡ []
  turn-incarnations = gather-none opened_incarnation incarnations refl (λ l ls. refl) (lines_at t ls) (λ l i. (turn-restart t l (own l (has-from_filter (is_at t) ls l i).0)).1)

  turn-floors : floors (lines_at t ls) ≡ []
  turn-floors = gather-none opened_floor floors refl (λ l ls. refl) (lines_at t ls) (λ l i. (turn-restart t l (own l (has-from_filter (is_at t) ls l i).0)).2)

-- where an aggregation has a line, its number was drawn for it
new-number : (w : World) (t number : ℕ) (q : Message) (ls : List Line) → IsNumberFresh w q number → AreTurnLines t number q ls → HasNew (IsFreeAggregate w) (aggregate_numbers ls)
new-number w t number q ls fresh k = elim k.numbers [ inl none ↦ NoNumber none | inr one ↦ OneNumber number (fresh one.0) one.1 ]

-- a target's turn
turn-adds : (w v : World) (t number : ℕ) (q : Message) (s z : TargetState) (ls : List Line) → slice_get w.targets t ≡ Some s → s.life ≡ Running → v.targets ≡ set w.targets t z → z.life ≡ s.life → Lasts s.durable z.durable
    → v.lines ≡ w.lines ++ ls → v.numbers ≡ w.numbers → IsNumberFresh w q number → AreTurnLines t number q ls → Adds None w v
turn-adds w v t number q s z ls here runs targets life lasts lines numbers fresh k =
    one-adds None w v t s z ls here targets lines numbers (turn-are t number q ls k)
    (record {
      stands = ap (λ x. after_all (Some (standing_of x)) (lines_at t ls)) runs ∙ turn-stands t ls k.own ∙ ap (λ x. Some (standing_of x)) (sym (life ∙ runs));
      incarnation = let e : z.durable.incarnation ≡ s.durable.incarnation = lasts.incarnation in omega (arith, e);
      lease = lasts.lease;
      opens = StaysAsItIs (turn-incarnations t ls k.own) (turn-floors t ls k.own);
    })
    (subst (AreCounted (stops_so_far w.lines)) (sym (turn-stops t ls k.own)) tt) (none-stopped ls (turn-stops t ls k.own)) (NoNumber (turn-restarts t ls k.own)) (new-number w t number q ls fresh k)

-- lines of targets stand as they are added
pub as-added : (t : ℕ) (issued : List (AttemptId × Epoch)) (ls : List Line) → ((l : Line) → Has l ls → IsTurnLine t l) → map (with_epoch issued) ls ≡ ls
as-added t issued [] own = refl
as-added t issued (line.Freeze u c e ∷ ls) own = ap (λ x. line.Freeze u c e ∷ x) (as-added t issued ls (λ m i. own m (inr i)))
as-added t issued (line.Aggregate n u c e ∷ ls) own = ap (λ x. line.Aggregate n u c e ∷ x) (as-added t issued ls (λ m i. own m (inr i)))
as-added t issued (line.Snapshot name c e ∷ ls) own = ap (λ x. line.Snapshot name c e ∷ x) (as-added t issued ls (λ m i. own m (inr i)))
as-added t issued (line.Try a ∷ ls) own = absurd (own (line.Try a) (inl refl))
as-added t issued (line.Stop n u ∷ ls) own = absurd (own (line.Stop n u) (inl refl))
as-added t issued (line.Restart n u inc floor ∷ ls) own = absurd (own (line.Restart n u inc floor) (inl refl))
as-added t issued (line.Down u ∷ ls) own = absurd (own (line.Down u) (inl refl))

-- ---- events without stops

-- a turn that adds no line
silent-adds : (w v : World) (t : ℕ) (s z : TargetState) → slice_get w.targets t ≡ Some s → v.targets ≡ set w.targets t z → z.life ≡ s.life → Lasts s.durable z.durable → v.lines ≡ w.lines → v.numbers ≡ w.numbers → Adds None w v
silent-adds w v t s z here targets life lasts lines numbers =
    one-adds None w v t s z [] here targets (lines ∙ sym (append-nil w.lines)) numbers (λ l i. absurd i) (goes-on [] t s z refl life (let e : z.durable.incarnation ≡ s.durable.incarnation = lasts.incarnation in omega (arith, e)) lasts.lease) tt (λ u. refl) (NoNumber refl) (NoNumber refl)

plain-adds : (r : Rules) (w v : World) → Event r w v → Adds None w v
plain-adds r w v (ByClient g) = client-goes r w v g
plain-adds r w v (ToClient g) = client-hears r w v g
plain-adds r w v (ToTarget g) =
    let k = hears-keeps (target_plan r g.t) g.s.opening g.s.memory g.reading g.l.from g.l.message (kept g.s) g.new (g.memory, g.did) g.turn in
    silent-adds w v g.t g.s (target_after g.s g.new g.memory) g.here (ap (λ x. x.targets) g.after) refl (record { incarnation = k.incarnation; lease = k.lease.rises })
    (ap (λ x. x.lines) g.after ∙ ap (λ ls. w.lines ++ map (with_epoch w.issued) ls) (plain-lines (target_plan r g.t) g.s.opening g.s.memory g.reading g.l.from g.l.message (kept g.s) g.new (g.memory, g.did) g.turn) ∙ append-nil w.lines)
    (ap (λ x. x.numbers) g.after)
plain-adds r w v (ByTarget g) =
    let k = idles-keeps g.settling (target_plan r g.t) g.s.memory (kept g.s) g.new (g.memory, g.did) g.turn in
    silent-adds w v g.t g.s (target_after g.s g.new g.memory) g.here (ap (λ x. x.targets) g.after) refl (record { incarnation = k.incarnation; lease = k.lease.rises })
    (ap (λ x. x.lines) g.after ∙ ap (λ ls. w.lines ++ map (with_epoch w.issued) ls) (idle-lines g.settling (target_plan r g.t) g.s.memory g.turn.last g.new (g.memory, g.did) g.turn.ends) ∙ append-nil w.lines)
    (ap (λ x. x.numbers) g.after)

-- ---- what else is heard

further-adds : (r : Rules) (w v : World) → HearsMore r w v → Adds None w v
further-adds r w v g =
    let h = g.hears in
    let k = further-lines g.number (target_plan r h.t) h.s.opening h.s.memory h.reading h.l.from h.l.message (kept h.s) h.new (h.memory, h.did) h.turn in
    turn-adds w v h.t g.number h.l.message h.s (target_after h.s h.new h.memory) h.did.lines h.here h.runs (ap (λ x. x.targets) h.after) refl
    (further-lasts g.number (target_plan r h.t) h.s.opening h.s.memory h.reading h.l.from h.l.message (kept h.s) h.new (h.memory, h.did) h.turn)
    (ap (λ x. x.lines) h.after ∙ ap (λ ls. w.lines ++ ls) (as-added h.t w.issued h.did.lines k.own)) (ap (λ x. x.numbers) h.after) g.fresh k

-- ---- stops

-- a stop's line behind those of its turn
module _ (w v : World) (t number : ℕ) (q : Message) (s : TargetState) (cut : Cutting) (here : slice_get w.targets t ≡ Some s) (runs : s.life ≡ Running) (targets : v.targets ≡ set w.targets t (stopped_at s cut.left)) (lasts : Lasts s.durable cut.left.durable)
    (lines : v.lines ≡ w.lines ++ (cut.lines ++ line.Stop (stops_so_far w.lines) t ∷ [])) (numbers : v.numbers ≡ w.numbers) (fresh : IsNumberFresh w q number) (k : AreTurnLines t number q cut.lines) where
  abbrev last : List Line
  last = line.Stop (stops_so_far w.lines) t ∷ []

  own : AreOf t (cut.lines ++ last)
  own l i = elim (has-cases cut.lines last l i) [ inl j ↦ turn-of t l (k.own l j) | inr j ↦ by j ]
    where
      by : Has l last → (target_of l ≡ None) ⊎ (target_of l ≡ Some t)
      by (inl same) = inr (ap target_of same)
      by (inr none) = absurd none

  its-own : lines_at t last ≡ last
  its-own = by (t == t) (same_number t)
    where
      by : (b : Bool) → b ≡ true → (if b then last else []) ≡ last
      by true e = refl
      by false e = let no : ⊥ = cc in absurd no

  at-it : lines_at t (cut.lines ++ last) ≡ lines_at t cut.lines ++ last
  at-it = at-append t cut.lines last ∙ ap (λ x. lines_at t cut.lines ++ x) its-own

  stands : after_all (Some told.Running) (lines_at t (cut.lines ++ last)) ≡ Some told.Stopped
  stands = ap (after_all (Some told.Running)) at-it ∙ after-append (Some told.Running) (lines_at t cut.lines) last ∙ ap (λ o. after_all o last) (turn-stands t cut.lines k.own)

  -- one stop more is told of it, and of no other target
  one-more : (u : ℕ) → length (stop_numbers (lines_at u (cut.lines ++ last))) ≡ stops_of (Some t) u
  one-more u =
      ap (λ x. length (stop_numbers x)) (at-append u cut.lines last) ∙ ap length (stops-append (lines_at u cut.lines) (lines_at u last)) ∙ length-append (stop_numbers (lines_at u cut.lines)) (stop_numbers (lines_at u last))
      ∙ ap (λ n. n + length (stop_numbers (lines_at u last))) (none-stopped cut.lines (turn-stops t cut.lines k.own) u) ∙ by (t == u)
    where
      by : (b : Bool) → 0 + length (stop_numbers (if b then last else [])) ≡ (if b then 1 else 0)
      by true = refl
      by false = refl

  stop-adds : Adds (Some t) w v
  stop-adds =
      one-adds (Some t) w v t s (stopped_at s cut.left) (cut.lines ++ last) here targets lines numbers own
      (record {
        stands = ap (λ x. after_all (Some (standing_of x)) (lines_at t (cut.lines ++ last))) runs ∙ stands;
        incarnation = let e : cut.left.durable.incarnation ≡ s.durable.incarnation = lasts.incarnation in omega (arith, e);
        lease = lasts.lease;
        opens = StaysAsItIs (ap incarnations at-it ∙ incarnations-append (lines_at t cut.lines) last ∙ append-nil (incarnations (lines_at t cut.lines)) ∙ turn-incarnations t cut.lines k.own)
            (ap floors at-it ∙ floors-append (lines_at t cut.lines) last ∙ append-nil (floors (lines_at t cut.lines)) ∙ turn-floors t cut.lines k.own);
      })
      (subst (AreCounted (stops_so_far w.lines)) (sym (stops-append cut.lines last ∙ ap (λ x. x ++ stop_numbers last) (turn-stops t cut.lines k.own))) (refl, tt))
      one-more
      (NoNumber (restarts-append cut.lines last ∙ append-nil (restart_numbers cut.lines) ∙ turn-restarts t cut.lines k.own))
      (subst (HasNew (IsFreeAggregate w)) (sym (aggregates-append cut.lines last ∙ append-nil (aggregate_numbers cut.lines))) (new-number w t number q cut.lines fresh k))

-- a message that asks for no aggregation
unfoldable pub no_prune : Message
no_prune = Marked 0 []

-- a turn that was cut left its target's incarnation, and its lease no lower
pub cut-lasts_so : (r : Rules) (w v : World) (g : TargetCut r w v) → Lasts g.s.durable g.cut.left.durable
cut-lasts_so r w v g = by g.work g.turn
  where
    by : (work : AtWork) → CutOf (target_plan r g.t) g.s work g.cut → Lasts g.s.durable g.cut.left.durable
    by (Hearing l reading number) turn = hearing-lasts is_prepared number (target_plan r g.t) g.s.opening g.s.memory reading l.from l.message (kept g.s) g.cut turn
    by IdleWork turn = idle-lasts g.t g.s.memory (kept g.s) g.cut turn

cut-adds : (r : Rules) (w v : World) (g : TargetCut r w v) → Adds (Some g.t) w v
unfolding no_prune
cut-adds r w v g = by g.work g.in_hand g.turn
  where
    targets : v.targets ≡ set w.targets g.t (stopped_at g.s g.cut.left)
    targets = ap (λ x. x.targets) g.after

    lines : v.lines ≡ w.lines ++ (g.cut.lines ++ line.Stop (stops_so_far w.lines) g.t ∷ [])
    lines = ap (λ x. x.lines) g.after ∙ append_assoc w.lines g.cut.lines (line.Stop (stops_so_far w.lines) g.t ∷ [])

    numbers : v.numbers ≡ w.numbers
    numbers = ap (λ x. x.numbers) g.after

    by : (work : AtWork) → IsInHand w g.t work → CutOf (target_plan r g.t) g.s work g.cut → Adds (Some g.t) w v
    by (Hearing l reading number) hand turn =
        stop-adds w v g.t number l.message g.s g.cut g.here g.runs targets (cut-lasts_so r w v g) lines numbers hand.2
        (hearing-cut is_prepared number (target_plan r g.t) g.s.opening g.s.memory reading l.from l.message (kept g.s) g.cut turn)
    by IdleWork hand turn =
        stop-adds w v g.t 0 no_prune g.s g.cut g.here g.runs targets (cut-lasts_so r w v g) lines numbers (λ is. let no : ⊥ = cc in absurd no) (idle-cut g.t 0 no_prune g.s.memory (kept g.s) g.cut turn)

-- ---- openings

-- one line of a target of its own
single-at : (t : ℕ) (l : Line) → target_of l ≡ Some t → lines_at t (l ∷ []) ≡ l ∷ []
single-at t l own = by (is_at t l) (ap (told.is_number t) own ∙ same_number t)
  where
    by : (b : Bool) → b ≡ true → (if b then l ∷ [] else []) ≡ l ∷ []
    by true e = refl
    by false e = let no : ⊥ = cc in absurd no

single-of : (t : ℕ) (l : Line) → target_of l ≡ Some t → AreOf t (l ∷ [])
single-of t l its m (inl same) = inr (ap target_of same ∙ its)
single-of t l its m (inr none) = absurd none

opening-adds : (r : Rules) (w v : World) → TargetOpens r w v → Adds None w v
unfolding reopened
opening-adds r w v g =
    one-adds None w v g.t g.s (opened_at r g.t g.number g.s g.free) (opens ∷ []) g.here (ap (λ x. x.targets) g.after) (ap (λ x. x.lines) g.after) (ap (λ x. x.numbers) g.after) (single-of g.t opens refl)
    (record {
      stands = ap (λ x. after_all (Some (standing_of x)) (lines_at g.t (opens ∷ []))) g.stopped ∙ ap (after_all (Some told.Stopped)) (single-at g.t opens refl);
      incarnation = omega arith;
      lease = omega arith;
      opens = OpensAgain (omega arith) (ap incarnations (single-at g.t opens refl)) (ap floors (single-at g.t opens refl));
    })
    tt (λ u. none-stopped (opens ∷ []) refl u) (OneNumber g.number g.is_free refl) (NoNumber refl)
  where
    opens : Line
    opens = restart_line g.number g.t g.s.durable

failing-adds : (r : Rules) (w v : World) → OpeningFails r w v → Adds None w v
unfolding reopened
failing-adds r w v g =
    one-adds None w v g.t g.s z [] g.here (ap (λ x. x.targets) g.after) (ap (λ x. x.lines) g.after ∙ sym (append-nil w.lines)) (ap (λ x. x.numbers) g.after) (λ l i. absurd i) (goes-on [] g.t g.s z refl refl raised same) tt (λ u. refl) (NoNumber refl) (NoNumber refl)
  where
    z : TargetState
    z = record g.s { durable = g.k.durable; free = g.k.free }

    raised : g.s.durable.incarnation ≤ g.k.durable.incarnation
    raised = elim g.left [
      | inl is ↦ let e : g.k.durable.incarnation ≡ g.s.durable.incarnation = ap (λ d. d.incarnation) is in omega (arith, e)
      | inr is ↦ let e : g.k.durable.incarnation ≡ g.s.durable.incarnation + 1 = ap (λ d. d.incarnation) is in omega (arith, e)
    ]

    same : g.s.durable.lease ≤ g.k.durable.lease
    same = elim g.left [
      | inl is ↦ let e : g.k.durable.lease ≡ g.s.durable.lease = ap (λ d. d.lease) is in omega (arith, e)
      | inr is ↦ let e : g.k.durable.lease ≡ g.s.durable.lease = ap (λ d. d.lease) is in omega (arith, e)
    ]

given_up-adds : (r : Rules) (w v : World) → TargetGivenUp r w v → Adds None w v
given_up-adds r w v g =
    one-adds None w v g.t g.s (record g.s { life = Down }) (line.Down g.t ∷ []) g.here (ap (λ x. x.targets) g.after) (ap (λ x. x.lines) g.after) (ap (λ x. x.numbers) g.after) (single-of g.t (line.Down g.t) refl)
    (record {
      stands = ap (λ x. after_all (Some (standing_of x)) (lines_at g.t (line.Down g.t ∷ []))) g.stopped ∙ ap (after_all (Some told.Stopped)) (single-at g.t (line.Down g.t) refl);
      incarnation = omega arith;
      lease = omega arith;
      opens = StaysAsItIs (ap incarnations (single-at g.t (line.Down g.t) refl)) (ap floors (single-at g.t (line.Down g.t) refl));
    })
    tt (λ u. none-stopped (line.Down g.t ∷ []) refl u) (NoNumber refl) (NoNumber refl)

-- ---- every event

-- numbers are drawn, or given back
drawing-keeps : (w v : World) → NumbersDrawn w v → Lives w → Lives v
drawing-keeps w v g k = subst Lives (sym g.after) (record { told = k.told; bounded = k.bounded; stops = k.stops; restarts = k.restarts; aggregations = k.aggregations; drawn = g.above })

-- the target that stops in an event, if one does
abbrev pub stops_in : {r : Rules} {w v : World} → Happening r w v → Option ℕ
stops_in (IsCut g) = Some g.t
stops_in (Plainly e up) = None
stops_in (Further g) = None
stops_in (Opens g) = None
stops_in (Fails g) = None
stops_in (GivenUp g) = None
stops_in (Draws g) = None

-- an event adds lines, or draws numbers
pub happening-adds : (r : Rules) (w v : World) (e : Happening r w v) → Adds (stops_in e) w v ⊎ ((stops_in e ≡ None) × NumbersDrawn w v)
happening-adds r w v (Plainly e up) = inl (plain-adds r w v e)
happening-adds r w v (Further g) = inl (further-adds r w v g)
happening-adds r w v (IsCut g) = inl (cut-adds r w v g)
happening-adds r w v (Opens g) = inl (opening-adds r w v g)
happening-adds r w v (Fails g) = inl (failing-adds r w v g)
happening-adds r w v (GivenUp g) = inl (given_up-adds r w v g)
happening-adds r w v (Draws g) = inr (refl, g)

happening-keeps : (r : Rules) (w v : World) → Happening r w v → Lives w → Lives v
happening-keeps r w v e k = elim (happening-adds r w v e) [ inl a ↦ adds-keeps (stops_in e) w v a k | inr g ↦ drawing-keeps w v g.1 k ]

-- what goes to targets that are given up is lost, and lines and targets stay
sweep-keeps : (w : World) → Lives w → Lives (swept w)
sweep-keeps w k = record { told = k.told; bounded = k.bounded; stops = k.stops; restarts = k.restarts; aggregations = k.aggregations; drawn = k.drawn }

pub event-keeps : (r : Rules) (w v : World) → WorldEvent r w v → Lives w → Lives v
event-keeps r w v e k = subst Lives (sym e.after) (sweep-keeps e.u (happening-keeps r w e.u e.happens k))

-- a world in which all targets run, and nothing was told
pub lives-begin : (w : World) → w.lines ≡ [] → ((t : ℕ) (s : TargetState) → slice_get w.targets t ≡ Some s → s.life ≡ Running) → Lives w
lives-begin w none runs = record {
  told = λ t s at. subst (λ ls. TellsOf ls t s) (sym none) (record {
    stands = ap (λ x. Some (standing_of x)) (sym (runs t s at));
    rising = λ k lt. absurd (omega (arith, lt));
    opened = All-nil (λ n. n ≤ s.durable.incarnation);
    kept = λ i j d le lt. absurd (omega (arith, lt));
    covered = All-nil (λ f. f ≤ restart_floor s.durable.lease);
  });
  bounded = subst (All (HasTarget (length w.targets))) (sym none) (All-nil (HasTarget (length w.targets)));
  stops = subst (λ ls. AreCounted 0 (stop_numbers ls)) (sym none) tt;
  restarts = subst (λ ls. IsDistinct nat_eq (restart_numbers ls)) (sym none) distinct-none;
  aggregations = subst (λ ls. IsDistinct nat_eq (aggregate_numbers ls)) (sym none) distinct-none;
  drawn = subst (All (IsBelowNumbers w.numbers)) (sym none) (All-nil (IsBelowNumbers w.numbers));
}
