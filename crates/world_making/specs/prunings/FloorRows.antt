-- What a turn for a snapshot or an aggregation leaves of floors and of what was aggregated: each is as it was, or a line tells of it.
use Rattle.std.specs.Prelude.{ℕ, ◌≡◌, ◌⊎◌, ◌≤◌, ◌/◌, ◌++◌, Bool, true, false, nat_lt, List, [], ◌∷◌, map, Option, Some, None, refl, if◌then◌else◌}
use Rattle.std.proofs.Common.{sym, ◌∙◌, ap, subst, arith, append_assoc, inl, inr}
use Rattle.base_types.specs.Epochs.{restart_floor}
use Rattle.base_types.specs.declared.epoch.Epoch.{Epoch}
use Rattle.base_types.specs.declared.id.AttemptId.{AttemptId}
use Rattle.base_types.specs.declared.id.ContId.{ContId}
use Rattle.base_types.specs.declared.outcome.FloorWhy.{FloorWhy}
use Rattle.base_types.specs.declared.outcome.FloorWhy.TheVariants as why
use Rattle.base_types.specs.declared.report.Line.{Line}
use Rattle.base_types.specs.declared.report.Line.TheVariants as line
use Rattle.model_laws.specs.Members.{Has, has-left, has-right}
use Rattle.model_laws.specs.TargetLaws.{number_same}
use Rattle.daos_model.specs.CausesShown.{ShowsFloor}
use Rattle.daos_model.specs.Changes.{aggregated_to, created, frozen, leased, marked, marked_at, new_snap, prepared, pruned, raised, raised_at, settled, with_versions}
use Rattle.daos_model.specs.Durables.{is_frozen, is_row_of, row_of, snap_key}
use Rattle.daos_model.specs.Ordered.{put}
use Rattle.daos_model.specs.declared.durable.ContRow.{ContRow}
use Rattle.daos_model.specs.declared.durable.Durable.{Durable}
use Rattle.world_base.specs.ChangeLaws.{conts-settled, lease-frozen}
use Rattle.world_base.specs.Changes.{After, Before, Change, Creates, Cut, Extends, Freezes, InPart, IsPartly, Kept, Prepares, Prunes, Settles, Steps, made}
use Rattle.world_base.specs.CutTurns.{CutHere, CutTurn, Cutting, InChange, InQuestion, cut_line, line_of, lines_of}
use Rattle.world_base.specs.PathLaws.{path-keeps}
use Rattle.world_base.specs.Turns.{Here, More, Path, listed}
use Rattle.world_causes.specs.world_contents.frozen.Rows.{of-marked_at, of-raised_at, row-each}

-- ---- one row

-- a line shows a floor of a target's container, and why it is there
abbrev pub HasFloorLine : ℕ → List Line → Epoch → ContId → FloorWhy → Type 0
HasFloorLine t ls floor b reason = (l : Line) × Has l ls × ShowsFloor t floor b reason l

-- A container's floor is as it was, or shown, or low enough; and the epoch that it was aggregated to is as it was, or shown.
pub record RowGoes (t : ℕ) (ls : List Line) (Low : ℕ → Type 0) (b : ContId) (r q : ContRow) : Type 0 where
  pub floor : ((q.floor ≡ r.floor) × (q.why ≡ r.why)) ⊎ HasFloorLine t ls q.floor b q.why ⊎ Low q.floor.0
  pub aggregated : ((q.aggregated ≡ r.aggregated) × (q.number ≡ r.number)) ⊎ HasFloorLine t ls q.aggregated b (why.Aggregate q.number)

-- so it is of all containers
abbrev pub RowsGo : ℕ → List Line → (ℕ → Type 0) → Durable → Durable → Type 0
RowsGo t ls Low d e = (b : ContId) → RowGoes t ls Low b (row_of d b) (row_of e b)

module _ (t : ℕ) (Low : ℕ → Type 0) where
  goes-same : (ls : List Line) (b : ContId) (r : ContRow) → RowGoes t ls Low b r r
  goes-same ls b r = record { floor = inl (refl, refl); aggregated = inl (refl, refl) }

  goes-then : (ls : List Line) (b : ContId) (r q p : ContRow) → RowGoes t ls Low b r q → RowGoes t ls Low b q p → RowGoes t ls Low b r p
  goes-then ls b r q p k l = record { floor = floor k.floor l.floor; aggregated = aggregated k.aggregated l.aggregated }
    where
      moved : (e f : Epoch) (x y : FloorWhy) → f ≡ e → y ≡ x → HasFloorLine t ls e b x → HasFloorLine t ls f b y
      moved e f x y at is z = subst (λ g. HasFloorLine t ls g b y) (sym at) (subst (HasFloorLine t ls e b) (sym is) z)

      floor : ((q.floor ≡ r.floor) × (q.why ≡ r.why)) ⊎ HasFloorLine t ls q.floor b q.why ⊎ Low q.floor.0 → ((p.floor ≡ q.floor) × (p.why ≡ q.why)) ⊎ HasFloorLine t ls p.floor b p.why ⊎ Low p.floor.0
          → ((p.floor ≡ r.floor) × (p.why ≡ r.why)) ⊎ HasFloorLine t ls p.floor b p.why ⊎ Low p.floor.0
      floor first (inr now) = inr now
      floor (inl before) (inl same) = inl (same.0 ∙ before.0, same.1 ∙ before.1)
      floor (inr (inl z)) (inl same) = inr (inl (moved q.floor p.floor q.why p.why same.0 same.1 z))
      floor (inr (inr low)) (inl same) = inr (inr (subst (λ (e : Epoch). Low e.0) (sym same.0) low))

      aggregated : ((q.aggregated ≡ r.aggregated) × (q.number ≡ r.number)) ⊎ HasFloorLine t ls q.aggregated b (why.Aggregate q.number)
          → ((p.aggregated ≡ q.aggregated) × (p.number ≡ q.number)) ⊎ HasFloorLine t ls p.aggregated b (why.Aggregate p.number)
          → ((p.aggregated ≡ r.aggregated) × (p.number ≡ r.number)) ⊎ HasFloorLine t ls p.aggregated b (why.Aggregate p.number)
      aggregated first (inr now) = inr now
      aggregated (inl before) (inl same) = inl (same.0 ∙ before.0, same.1 ∙ before.1)
      aggregated (inr z) (inl same) = inr (moved q.aggregated p.aggregated (why.Aggregate q.number) (why.Aggregate p.number) same.0 (ap (λ n. why.Aggregate n) same.1) z)

  -- ---- one change

  rows-then : (ls : List Line) (d e f : Durable) → RowsGo t ls Low d e → RowsGo t ls Low e f → RowsGo t ls Low d f
  rows-then ls d e f k l b = goes-then ls b (row_of d b) (row_of e b) (row_of f b) (k b) (l b)

  -- where the containers are as they were
  rows-same : (ls : List Line) (d e : Durable) → e.conts ≡ d.conts → RowsGo t ls Low d e
  unfolding row_of
  rows-same ls d e same b = subst (λ rows. RowGoes t ls Low b (row_of d b) (row_of (record d { conts = rows }) b)) (sym same) (goes-same ls b (row_of d b))

  cont-is : (b c : ContId) (r : ContRow) → is_row_of b r ≡ true → is_row_of c r ≡ true → c ≡ b
  cont-is b c r own other = ap cont_of (sym (number_same r.cont.0 c.0 other) ∙ number_same r.cont.0 b.0 own)
    where
      cont_of : ℕ → ContId
      cont_of n = record { 0 = n }

  -- a floor is raised to an epoch that is shown, or low
  raised-goes : (ls : List Line) (b : ContId) (e : Epoch) (reason : FloorWhy) (r q : ContRow) → HasFloorLine t ls e b reason ⊎ Low e.0 → RowGoes t ls Low b r q → RowGoes t ls Low b r (raised e reason q)
  raised-goes ls b e reason r q told k = by (nat_lt q.floor.0 e.0)
    where
      by : (up : Bool) → RowGoes t ls Low b r (if up then record q { floor = e; why = reason } else q)
      by true = record { floor = inr told; aggregated = k.aggregated }
      by false = k

  frozen-goes : (ls : List Line) (c : ContId) (s : Epoch) (d : Durable) → HasFloorLine t ls s c (why.Snapshot s) ⊎ Low s.0 → RowsGo t ls Low d (frozen c s d)
  unfolding frozen row_of
  frozen-goes ls c s d told b = by (is_frozen d c s)
    where
      each : (q : ContRow) → is_row_of b q ≡ true → RowGoes t ls Low b q (raised_at c s (why.Snapshot s) q)
      each q own = at (is_row_of c q) refl
        where
          at : (x : Bool) → is_row_of c q ≡ x → RowGoes t ls Low b q (if x then raised s (why.Snapshot s) q else q)
          at true is = raised-goes ls b s (why.Snapshot s) q q (subst (λ y. HasFloorLine t ls s y (why.Snapshot s) ⊎ Low s.0) (cont-is b c q own is) told) (goes-same ls b q)
          at false is = goes-same ls b q

      by : (old : Bool) → RowGoes t ls Low b (row_of d b) (row_of (if old then d else record d { conts = map (raised_at c s (why.Snapshot s)) d.conts; snaps = put snap_key (new_snap c s) d.snaps }) b)
      by true = goes-same ls b (row_of d b)
      by false = row-each (raised_at c s (why.Snapshot s)) b (of-raised_at b c s (why.Snapshot s)) (RowGoes t ls Low b) d.conts (goes-same ls b _) each

  marked-goes : (ls : List Line) (c : ContId) (upto : Epoch) (n : ℕ) (d : Durable) → Has (line.Aggregate n t c upto) ls → RowsGo t ls Low d (marked c upto n d)
  unfolding marked row_of
  marked-goes ls c upto n d told b = row-each (marked_at c upto n) b (of-marked_at b c upto n) (RowGoes t ls Low b) d.conts (goes-same ls b _) each
    where
      shown : b ≡ c → HasFloorLine t ls upto b (why.Aggregate n)
      shown same = subst (λ y. HasFloorLine t ls upto y (why.Aggregate n)) (sym same) (line.Aggregate n t c upto, told, refl)

      aggregates : b ≡ c → (q : ContRow) → RowGoes t ls Low b q (aggregated_to upto n q)
      aggregates same q = at (nat_lt q.aggregated.0 upto.0)
        where
          at : (up : Bool) → RowGoes t ls Low b q (if up then record q { aggregated = upto; number = n } else q)
          at true = record { floor = inl (refl, refl); aggregated = inr (shown same) }
          at false = goes-same ls b q

      each : (q : ContRow) → is_row_of b q ≡ true → RowGoes t ls Low b q (marked_at c upto n q)
      each q own = at (is_row_of c q) refl
        where
          at : (x : Bool) → is_row_of c q ≡ x → RowGoes t ls Low b q (if x then raised upto (why.Aggregate n) (aggregated_to upto n q) else q)
          at true is = let same = sym (cont-is b c q own is) in raised-goes ls b upto (why.Aggregate n) q (aggregated_to upto n q) (inl (shown same)) (aggregates same q)
          at false is = goes-same ls b q

  part-goes : (ls : List Line) (c : Change) (d x : Durable) → ((l : Line) → Has l (cut_line t c) → Has l ls) → IsPartly c d x → RowsGo t ls Low d x
  unfolding with_versions row_of
  part-goes ls (Prunes c upto n) d x told p = subst (λ y. RowsGo t ls Low d y) (sym p.2) (λ b. marked-goes ls c upto n d (told (line.Aggregate n t c upto) (inl refl)) b)
  part-goes ls (Extends ticks) d x told p = absurd p
  part-goes ls (Prepares e ws) d x told p = absurd p
  part-goes ls (Settles a step) d x told p = absurd p
  part-goes ls (Freezes c s) d x told p = absurd p
  part-goes ls (Creates c s) d x told p = absurd p

  -- a change that was made, where its lines are told
  made-goes : (ls : List Line) (c : Change) (d : Durable) → ((l : Line) → Has l (line_of t c) → Has l ls) → RowsGo t ls Low d (made c d)
  unfolding leased prepared created pruned with_versions row_of
  made-goes ls (Extends ticks) d told = rows-same ls d (leased ticks d) refl
  made-goes ls (Prepares e ws) d told = rows-same ls d (prepared e ws d) refl
  made-goes ls (Settles a step) d told = rows-same ls d (settled a step d) (conts-settled a step d)
  made-goes ls (Freezes c s) d told = frozen-goes ls c s d (inl (line.Freeze t c s, told (line.Freeze t c s) (inl refl), (refl, refl)))
  made-goes ls (Creates c s) d told = rows-same ls d (created c s d) refl
  made-goes ls (Prunes c upto n) d told = λ b. marked-goes ls c upto n d (told (line.Aggregate n t c upto) (inl refl)) b

-- ---- the lines of changes

lines-append : (t : ℕ) (cs ds : List Change) → lines_of t (cs ++ ds) ≡ lines_of t cs ++ lines_of t ds
lines-append t [] ds = refl
lines-append t (c ∷ cs) ds = ap (λ ls. line_of t c ++ ls) (lines-append t cs ds) ∙ sym (append_assoc (line_of t c) (lines_of t cs) (lines_of t ds))

-- the lease covers the snapshot that a change freezes
abbrev pub CoversFreeze : Durable → Change → Type 0
CoversFreeze d (Freezes c s) = s.0 / 256 ≤ d.lease
CoversFreeze d c = Unit {0}

-- the floor of the next opening covers an epoch
abbrev pub BelowLease : ℕ → ℕ → Type 0
BelowLease lease n = n ≤ restart_floor lease

-- ---- paths

module _ {S : Type 0} (Next : S → Kept → Option Change → S → Type 0) (t : ℕ) where
  -- what a path changed is shown by the lines of its changes
  pub path-goes : (Low : ℕ → Type 0) (ls : List Line) (start : S) (old : Kept) (did : List Change) (last : S) (mid : Kept) → Path Next start old did last mid → ((l : Line) → Has l (lines_of t did) → Has l ls) → RowsGo t ls Low old.durable mid.durable
  path-goes Low ls start old did last mid Here told = rows-same t Low ls old.durable old.durable refl
  path-goes Low ls start old did last mid (More some u m o v n path next steps) told =
      rows-then t Low ls old.durable m.durable mid.durable (path-goes Low ls start old some u m path (λ l i. before l (has-left (lines_of t some) (lines_of t (listed o)) l i))) (step o steps (λ l i. before l (has-right (lines_of t some) (lines_of t (listed o)) l i)))
    where
      before : (l : Line) → Has l (lines_of t some ++ lines_of t (listed o)) → Has l ls
      before l i = told l (subst (Has l) (sym (lines-append t some (listed o))) i)

      step : (y : Option Change) → Steps y m mid → ((l : Line) → Has l (lines_of t (listed y)) → Has l ls) → RowsGo t ls Low m.durable mid.durable
      step None is shown = rows-same t Low ls m.durable mid.durable (ap (λ k. k.durable.conts) is)
      step (Some c) is shown = subst (λ d. RowsGo t ls Low m.durable d) (sym is.0) (made-goes t Low ls c m.durable (λ l i. shown l (has-left (line_of t c) [] l i)))

  -- where a stage has the lines of the changes so far, the last one has those of all
  pub path-lines : (told_at : S → List Line) → ((s : S) (k : Kept) (o : Option Change) (u : S) → Next s k o u → told_at u ≡ told_at s ++ lines_of t (listed o)) → (start : S) (old : Kept) (did : List Change) (last : S) (mid : Kept)
      → Path Next start old did last mid → told_at start ≡ [] → lines_of t did ≡ told_at last
  path-lines told_at step start old did last mid Here none = sym none
  path-lines told_at step start old did last mid (More some u m o v n path next steps) none =
      lines-append t some (listed o) ∙ ap (λ ls. ls ++ lines_of t (listed o)) (path-lines told_at step start old some u m path none) ∙ sym (step u m o last next)

  -- ---- a cut

  module _ (P : S → Kept → Type 0) (step : (s : S) (k : Kept) (o : Option Change) (u : S) (l : Kept) → Next s k o u → Steps o k l → P s k → P u l) (covers : (s : S) (k : Kept) (o : Option Change) (u : S) → Next s k o u → P s k → (c : Change) → o ≡ Some c → CoversFreeze k.durable c) where
    -- what was cut changed floors that the lease covers, or that lines show
    pub cut-goes : (issues : S → List (AttemptId × Epoch)) (start : S) (old : Kept) (cut : Cutting) → CutTurn Next issues t start old cut → P start old → RowsGo t cut.lines (BelowLease cut.left.durable.lease) old.durable cut.left.durable
    cut-goes issues start old cut g begins =
        rows-then t Low cut.lines old.durable g.mid.durable cut.left.durable (path-goes Low cut.lines start old g.did g.last g.mid g.path (λ l i. subst (Has l) (sym g.all_lines) (has-left (lines_of t g.did) g.lines l i)))
        (here g.lines g.here (λ l i. subst (Has l) (sym g.all_lines) (has-right (lines_of t g.did) g.lines l i)))
      where
        Low : ℕ → Type 0
        Low = BelowLease cut.left.durable.lease

        holds : P g.last g.mid
        holds = path-keeps Next P step start old g.did g.last g.mid g.path begins

        made-so : (c : Change) → CoversFreeze g.mid.durable c → ((l : Line) → Has l (cut_line t c) → Has l cut.lines) → cut.left.durable ≡ made c g.mid.durable → RowsGo t cut.lines Low g.mid.durable cut.left.durable
        made-so (Freezes c s) covered told is =
            subst (λ d. RowsGo t cut.lines Low g.mid.durable d) (sym is)
            (frozen-goes t Low cut.lines c s g.mid.durable (inr (let same : cut.left.durable.lease ≡ g.mid.durable.lease = ap (λ d. d.lease) is ∙ lease-frozen c s g.mid.durable in omega (arith, covered, same))))
        made-so (Prunes c upto n) covered told is = subst (λ d. RowsGo t cut.lines Low g.mid.durable d) (sym is) (made-goes t Low cut.lines (Prunes c upto n) g.mid.durable told)
        made-so (Extends ticks) covered told is = subst (λ d. RowsGo t cut.lines Low g.mid.durable d) (sym is) (made-goes t Low cut.lines (Extends ticks) g.mid.durable (λ l i. absurd i))
        made-so (Prepares e ws) covered told is = subst (λ d. RowsGo t cut.lines Low g.mid.durable d) (sym is) (made-goes t Low cut.lines (Prepares e ws) g.mid.durable (λ l i. absurd i))
        made-so (Settles a x) covered told is = subst (λ d. RowsGo t cut.lines Low g.mid.durable d) (sym is) (made-goes t Low cut.lines (Settles a x) g.mid.durable (λ l i. absurd i))
        made-so (Creates c s) covered told is = subst (λ d. RowsGo t cut.lines Low g.mid.durable d) (sym is) (made-goes t Low cut.lines (Creates c s) g.mid.durable (λ l i. absurd i))

        left-so : (c : Change) → CoversFreeze g.mid.durable c → ((l : Line) → Has l (cut_line t c) → Has l cut.lines) → Cut c g.mid.durable cut.left.durable → RowsGo t cut.lines Low g.mid.durable cut.left.durable
        left-so c covered told (Before is) = rows-same t Low cut.lines g.mid.durable cut.left.durable (ap (λ d. d.conts) is)
        left-so c covered told (After is) = made-so c covered told is
        left-so c covered told (InPart p) = part-goes t Low cut.lines c g.mid.durable cut.left.durable told p

        here : (lines : List Line) → CutHere Next t g.last g.mid cut.left lines → ((l : Line) → Has l lines → Has l cut.lines) → RowsGo t cut.lines Low g.mid.durable cut.left.durable
        here lines (InChange c next is left free) told = left-so c (covers g.last g.mid (Some c) next is holds c refl) told left
        here lines (InQuestion is free) told = rows-same t Low cut.lines g.mid.durable cut.left.durable (ap (λ d. d.conts) is)
