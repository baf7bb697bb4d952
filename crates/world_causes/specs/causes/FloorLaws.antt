-- The floors of targets, and the lines that tell of them, over stops, openings, failed openings and where targets are given up.
use Rattle.std.specs.Prelude.{ℕ, ◌≡◌, ◌⊎◌, ◌≤◌, ◌++◌, List, [], ◌∷◌, slice_get, Some, refl}
use Rattle.std.proofs.Common.{sym, ◌∙◌, ap, subst, arith, append-nil, inl, inr}
use Rattle.std.proofs.Math.ListN.{set}
use Rattle.std.proofs.lemmas.List.{append_assoc}
use Rattle.base_types.specs.declared.epoch.Epoch.{Epoch}
use Rattle.base_types.specs.declared.id.ContId.{ContId}
use Rattle.base_types.specs.declared.outcome.FloorWhy.{FloorWhy}
use Rattle.base_types.specs.declared.outcome.FloorWhy.TheVariants as why
use Rattle.base_types.specs.declared.report.Line.{Line}
use Rattle.base_types.specs.declared.report.Line.TheVariants as line
use Rattle.base_types.specs.Epochs.{restart_floor}
use Rattle.model_laws.specs.Lists.{any-of}
use Rattle.model_laws.specs.Members.{has-right}
use Rattle.daos_model.specs.CausesShown.{ShowsFloor}
use Rattle.daos_model.specs.Changes.{reopened}
use Rattle.daos_model.specs.Durables.{row_of}
use Rattle.daos_model.specs.Opening.{Opening, top}
use Rattle.world_base.specs.declared.target.Life.TheVariants.{Down, Running}
use Rattle.world_base.specs.declared.target.TargetMemory.{TargetMemory}
use Rattle.world_base.specs.declared.target.TargetState.{TargetState}
use Rattle.world_base.specs.declared.world.World.{World}
use Rattle.world_base.specs.CutTurns.{Cutting}
use Rattle.world_base.specs.Changes.{Kept}
use Rattle.world_base.specs.Events.{Rules, target_after}
use Rattle.world_base.specs.Stops.{OpeningFails, TargetGivenUp, TargetOpens, after_cut, opened_at, restart_line, stopped_at, stops_so_far, swept}
use Rattle.world_causes.specs.causes.Floors.{row-stays}
use Rattle.world_base.specs.TurnLaws.{KeepsAs}
use Rattle.world_causes.specs.causes.Growth.{at-set}
use Rattle.world_causes.specs.causes.Lasting.{told-more}
use Rattle.world_causes.specs.causes.Shown.{FloorsShown, HasLine, IsCovered, IsOfBefore, IsTold}

-- ---- the statements

abbrev pub KeepsFloors : World → World → Type 0
KeepsFloors w v = (o : Opening) → FloorsShown o w → FloorsShown o v

-- where a turn is cut in which no floor was set
abbrev pub StopsKeepFloors : Type 0
StopsKeepFloors =
    (w v : World) (t : ℕ) (s : TargetState) (cut : Cutting) → slice_get w.targets t ≡ Some s → s.life ≡ Running → v ≡ after_cut w t s cut → cut.left.durable.conts ≡ s.durable.conts → s.durable.lease ≤ cut.left.durable.lease
    → KeepsFloors w v

abbrev pub OpeningsKeepFloors : Type 0
OpeningsKeepFloors = (r : Rules) (w v : World) → TargetOpens r w v ⊎ OpeningFails r w v ⊎ TargetGivenUp r w v → KeepsFloors w v

abbrev pub SweepsKeepFloors : Type 0
SweepsKeepFloors = (w : World) → KeepsFloors w (swept w)

-- a target runs or doesn't as before, with the floor of its opening and the containers that it had, and a lease no lower
pub record RowsStay (s z : TargetState) : Type 0 where
  pub life : z.life ≡ s.life
  pub opening : z.opening ≡ s.opening
  pub conts : z.durable.conts ≡ s.durable.conts
  pub lease : s.durable.lease ≤ z.durable.lease

-- where so each target stays, and more lines are told
abbrev pub StayingKeepsFloors : Type 0
StayingKeepsFloors =
    (w v : World) (more : List Line) → v.lines ≡ w.lines ++ more → ((t : ℕ) (z : TargetState) → slice_get v.targets t ≡ Some z → (s : TargetState) × (slice_get w.targets t ≡ Some s) × RowsStay s z) → KeepsFloors w v

-- ---- one target

record FloorsAt (o : Opening) (lines : List Line) (t : ℕ) (s : TargetState) : Type 0 where
  pub opening : (cont : ContId) → s.life ≡ Running → IsTold o lines t cont s.opening.0 s.opening.1
  pub leased : s.life ≡ Running → (s.opening.0.0 ≤ top o) ⊎ (s.opening.0.0 ≤ restart_floor s.durable.lease)
  pub stored : (cont : ContId) → IsTold o lines t cont (row_of s.durable cont).floor (row_of s.durable cont).why ⊎ IsCovered s (row_of s.durable cont).floor.0
  pub aggregated : (cont : ContId) → IsTold o lines t cont (row_of s.durable cont).aggregated (why.Aggregate (row_of s.durable cont).number)

of-one : (o : Opening) (w : World) (t : ℕ) (s : TargetState) → slice_get w.targets t ≡ Some s → FloorsShown o w → FloorsAt o w.lines t s
of-one o w t s here F = record { opening = λ c runs. F.opening t s c here runs; leased = λ runs. F.leased t s here runs; stored = λ c. F.stored t s c here; aggregated = λ c. F.aggregated t s c here }

of-all : (o : Opening) (v : World) → ((t : ℕ) (s : TargetState) → slice_get v.targets t ≡ Some s → FloorsAt o v.lines t s) → FloorsShown o v
of-all o v all = record {
  opening = λ t s c here runs. (all t s here).opening c runs;
  leased = λ t s here runs. (all t s here).leased runs;
  stored = λ t s c here. (all t s here).stored c;
  aggregated = λ t s c here. (all t s here).aggregated c;
}

-- a target whose rows are as before, where what its opening covered stays covered
module _ (o : Opening) (lines more : List Line) (t : ℕ) (s z : TargetState) (conts : z.durable.conts ≡ s.durable.conts)
    (cover : (n : ℕ) → IsCovered s n → (n ≤ top o) ⊎ IsCovered z n) where
  kept-so : (cont : ContId) (floor : Epoch) (reason : FloorWhy) → IsTold o lines t cont floor reason ⊎ IsCovered s floor.0 → IsTold o (lines ++ more) t cont floor reason ⊎ IsCovered z floor.0
  kept-so cont floor reason (inl told) = inl (told-more o lines more t cont floor reason told)
  kept-so cont floor reason (inr covered) = elim (cover floor.0 covered) [ inl low ↦ inl (IsOfBefore low) | inr k ↦ inr k ]

  at-rows : FloorsAt o lines t s → ((cont : ContId) → z.life ≡ Running → IsTold o (lines ++ more) t cont z.opening.0 z.opening.1) → (z.life ≡ Running → (z.opening.0.0 ≤ top o) ⊎ (z.opening.0.0 ≤ restart_floor z.durable.lease))
      → FloorsAt o (lines ++ more) t z
  at-rows F opens leased = record {
    opening = opens;
    leased = leased;
    stored = λ c. subst (λ row. IsTold o (lines ++ more) t c row.floor row.why ⊎ IsCovered z row.floor.0) (sym (row-stays s.durable z.durable c conts)) (kept-so c (row_of s.durable c).floor (row_of s.durable c).why (F.stored c));
    aggregated = λ c. subst (λ row. IsTold o (lines ++ more) t c row.aggregated (why.Aggregate row.number)) (sym (row-stays s.durable z.durable c conts))
        (told-more o lines more t c (row_of s.durable c).aggregated (why.Aggregate (row_of s.durable c).number) (F.aggregated c));
  }

floor-up : (a b : ℕ) → a ≤ b → restart_floor a ≤ restart_floor b
floor-up a b up = omega (arith, up)

-- more lines are told, and a target is as it was
same-at : (o : Opening) (lines more : List Line) (t : ℕ) (s : TargetState) → FloorsAt o lines t s → FloorsAt o (lines ++ more) t s
same-at o lines more t s k = at-rows o lines more t s s refl (λ m c. inr c) k (λ c runs. told-more o lines more t c s.opening.0 s.opening.1 (k.opening c runs)) k.leased

-- a world in which one target changed, and more lines are told
one-changed : (o : Opening) (w v : World) (t : ℕ) (s z : TargetState) (more : List Line) → slice_get w.targets t ≡ Some s → v.targets ≡ set w.targets t z → v.lines ≡ w.lines ++ more
    → (FloorsAt o w.lines t s → FloorsAt o (w.lines ++ more) t z) → FloorsShown o w → FloorsShown o v
one-changed o w v t s z more here targets lines own F =
    of-all o v (λ u y at. subst (λ ls. FloorsAt o ls u y) (sym lines)
    (at-set w.targets t s z (FloorsAt o (w.lines ++ more)) here (own (of-one o w t s here F)) (λ n x there. same-at o w.lines more n x (of-one o w n x there F)) u y (ap (λ ts. slice_get ts u) (sym targets) ∙ at)))

-- ---- the events

pub stops-keep-floors : StopsKeepFloors
stops-keep-floors w v t s cut here runs after conts lease o F =
    one-changed o w v t s (stopped_at s cut.left) (cut.lines ++ line.Stop (stops_so_far w.lines) t ∷ []) here (ap (λ u. u.targets) after) (ap (λ u. u.lines) after ∙ append_assoc w.lines cut.lines (line.Stop (stops_so_far w.lines) t ∷ [])) own F
  where
    still : (stopped_at s cut.left).life ≡ Running → ⊥
    still is = let no : ⊥ = cc in no

    own : FloorsAt o w.lines t s → FloorsAt o (w.lines ++ (cut.lines ++ line.Stop (stops_so_far w.lines) t ∷ [])) t (stopped_at s cut.left)
    own k = at-rows o w.lines (cut.lines ++ line.Stop (stops_so_far w.lines) t ∷ []) t s (stopped_at s cut.left) conts cover k (λ c is. absurd (still is)) (λ is. absurd (still is))
      where
        cover : (n : ℕ) → IsCovered s n → (n ≤ top o) ⊎ IsCovered (stopped_at s cut.left) n
        cover n c = by (k.leased runs)
          where
            by : (s.opening.0.0 ≤ top o) ⊎ (s.opening.0.0 ≤ restart_floor s.durable.lease) → (n ≤ top o) ⊎ IsCovered (stopped_at s cut.left) n
            by (inl low) = let is : n ≤ s.opening.0.0 = c.running runs in inl (omega (arith, is, low))
            by (inr low) = let is : n ≤ s.opening.0.0 = c.running runs in let up : restart_floor s.durable.lease ≤ restart_floor cut.left.durable.lease = floor-up s.durable.lease cut.left.durable.lease lease in
                inr (record { running = λ r. absurd (still r); stopped = λ r. omega (arith, is, low, up) })

opening-floors : (r : Rules) (w v : World) → TargetOpens r w v → KeepsFloors w v
unfolding reopened
opening-floors r w v g o F = one-changed o w v g.t g.s (opened_at r g.t g.number g.s g.free) (restart_line g.number g.t g.s.durable ∷ []) g.here (ap (λ u. u.targets) g.after) (ap (λ u. u.lines) g.after) own F
  where
    not-running : g.s.life ≡ Running → ⊥
    not-running runs = let no : ⊥ = cc (g.stopped, runs) in no

    own : FloorsAt o w.lines g.t g.s → FloorsAt o (w.lines ++ restart_line g.number g.t g.s.durable ∷ []) g.t (opened_at r g.t g.number g.s g.free)
    own k = at-rows o w.lines (restart_line g.number g.t g.s.durable ∷ []) g.t g.s (opened_at r g.t g.number g.s g.free) refl
        (λ n c. inr (record { running = λ runs. c.stopped not-running; stopped = λ off. absurd (off refl) })) k
        (λ c runs. HasLine (any-of (ShowsFloor g.t (record { 0 = restart_floor g.s.durable.lease }) c (why.Restart g.number)) (w.lines ++ restart_line g.number g.t g.s.durable ∷ []) (restart_line g.number g.t g.s.durable)
        (has-right w.lines (restart_line g.number g.t g.s.durable ∷ []) (restart_line g.number g.t g.s.durable) (inl refl)) ((reopened g.s.durable).incarnation, refl)))
        (λ runs. inr (omega arith))

failure-floors : (r : Rules) (w v : World) → OpeningFails r w v → KeepsFloors w v
unfolding reopened
failure-floors r w v g o F = one-changed o w v g.t g.s z [] g.here (ap (λ u. u.targets) g.after) (ap (λ u. u.lines) g.after ∙ sym (append-nil w.lines)) own F
  where
    z : TargetState
    z = record g.s { durable = g.k.durable; free = g.k.free }

    not-running : g.s.life ≡ Running → ⊥
    not-running runs = let no : ⊥ = cc (g.stopped, runs) in no

    same-lease : g.k.durable.lease ≡ g.s.durable.lease
    same-lease = elim g.left [ inl is ↦ ap (λ d. d.lease) is | inr is ↦ ap (λ d. d.lease) is ]

    same-conts : g.k.durable.conts ≡ g.s.durable.conts
    same-conts = elim g.left [ inl is ↦ ap (λ d. d.conts) is | inr is ↦ ap (λ d. d.conts) is ]

    own : FloorsAt o w.lines g.t g.s → FloorsAt o (w.lines ++ []) g.t z
    own k = at-rows o w.lines [] g.t g.s z same-conts (λ n c. inr (record { running = c.running; stopped = λ off. subst (λ m. n ≤ restart_floor m) (sym same-lease) (c.stopped off) })) k
        (λ c runs. absurd (not-running runs)) (λ runs. absurd (not-running runs))

given_up-floors : (r : Rules) (w v : World) → TargetGivenUp r w v → KeepsFloors w v
given_up-floors r w v g o F = one-changed o w v g.t g.s z (line.Down g.t ∷ []) g.here (ap (λ u. u.targets) g.after) (ap (λ u. u.lines) g.after) own F
  where
    z : TargetState
    z = record g.s { life = Down }

    not-running : g.s.life ≡ Running → ⊥
    not-running runs = let no : ⊥ = cc (g.stopped, runs) in no

    gone : z.life ≡ Running → ⊥
    gone runs = let no : ⊥ = cc in no

    own : FloorsAt o w.lines g.t g.s → FloorsAt o (w.lines ++ line.Down g.t ∷ []) g.t z
    own k = at-rows o w.lines (line.Down g.t ∷ []) g.t g.s z refl (λ n c. inr (record { running = λ runs. absurd (gone runs); stopped = λ off. c.stopped not-running })) k (λ c runs. absurd (gone runs)) (λ runs. absurd (gone runs))

pub openings-keep-floors : OpeningsKeepFloors
openings-keep-floors r w v (inl g) = opening-floors r w v g
openings-keep-floors r w v (inr (inl g)) = failure-floors r w v g
openings-keep-floors r w v (inr (inr g)) = given_up-floors r w v g

pub sweeps-keep-floors : SweepsKeepFloors
sweeps-keep-floors w o F = record { opening = F.opening; leased = F.leased; stored = F.stored; aggregated = F.aggregated }

-- a target that stays as it was, but for its lease
staying-at : (o : Opening) (lines more : List Line) (t : ℕ) (s z : TargetState) → RowsStay s z → FloorsAt o lines t s → FloorsAt o (lines ++ more) t z
staying-at o lines more t s z k F = at-rows o lines more t s z k.conts cover F (λ c runs. subst (λ f. IsTold o (lines ++ more) t c f.0 f.1) (sym k.opening) (told-more o lines more t c s.opening.0 s.opening.1 (F.opening c (sym k.life ∙ runs))))
    (λ runs. leased (F.leased (sym k.life ∙ runs)))
  where
    up : restart_floor s.durable.lease ≤ restart_floor z.durable.lease
    up = floor-up s.durable.lease z.durable.lease k.lease

    cover : (n : ℕ) → IsCovered s n → (n ≤ top o) ⊎ IsCovered z n
    cover n c = inr (record {
      running = λ runs. subst (λ f. n ≤ f.0.0) (sym k.opening) (c.running (sym k.life ∙ runs));
      stopped = λ off. let low : n ≤ restart_floor s.durable.lease = c.stopped (λ runs. off (k.life ∙ runs)) in omega (arith, low, up);
    })

    leased : (s.opening.0.0 ≤ top o) ⊎ (s.opening.0.0 ≤ restart_floor s.durable.lease) → (z.opening.0.0 ≤ top o) ⊎ (z.opening.0.0 ≤ restart_floor z.durable.lease)
    leased (inl low) = inl (subst (λ f. f.0.0 ≤ top o) (sym k.opening) low)
    leased (inr low) = inr (subst (λ f. f.0.0 ≤ restart_floor z.durable.lease) (sym k.opening) (omega (arith, low, up)))

pub staying-keeps-floors : StayingKeepsFloors
staying-keeps-floors w v more lines stay o F = of-all o v (λ u z at. subst (λ ls. FloorsAt o ls u z) (sym lines) (now u z at))
  where
    now : (u : ℕ) (z : TargetState) → slice_get v.targets u ≡ Some z → FloorsAt o (w.lines ++ more) u z
    now u z at = let k = stay u z at in staying-at o w.lines more u k.0 z k.2 (of-one o w u k.0 k.1 F)

-- more lines alone
pub lines-keep-floors : (w v : World) (more : List Line) → v.targets ≡ w.targets → v.lines ≡ w.lines ++ more → KeepsFloors w v
lines-keep-floors w v more targets lines o F = of-all o v (λ u z at. subst (λ ls. FloorsAt o ls u z) (sym lines) (same-at o w.lines more u z (of-one o w u z (ap (λ ts. slice_get ts u) (sym targets) ∙ at) F)))

-- one target's turn
pub turns-keep-floors : (w v : World) (t : ℕ) (s : TargetState) (new : Kept) (memory : TargetMemory) (more : List Line) → slice_get w.targets t ≡ Some s → v.targets ≡ set w.targets t (target_after s new memory) → v.lines ≡ w.lines ++ more → KeepsAs s.durable new.durable
    → KeepsFloors w v
turns-keep-floors w v t s new memory more here targets lines keeps o F =
    one-changed o w v t s (target_after s new memory) more here targets lines (staying-at o w.lines more t s (target_after s new memory) (record { life = refl; opening = refl; conts = keeps.conts; lease = keeps.lease.rises })) F
