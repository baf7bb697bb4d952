-- A legal report tells of what its script has, and is read back.
use Rattle.std.proofs.Common.{◌≡◌, inl, ℕ, ◌+◌, ◌<◌, ◌++◌, Bool, true, false, List, [], ◌∷◌, All, refl, sym, ap, subst, ◌∙◌, arith}
use Rattle.std.specs.Prelude.{nat_lt, length}
use Rattle.std.proofs.lemmas.Bool.Decides.{nat_tests}
use Rattle.std.proofs.lemmas.Option.{slice_get_within}
use Rattle.base_types.specs.declared.answer.Answer.{Answer}
use Rattle.base_types.specs.declared.epoch.Epoch.{Epoch}
use Rattle.base_types.specs.declared.id.AttemptId.{AttemptId}
use Rattle.base_types.specs.declared.id.ContId.{ContId}
use Rattle.base_types.specs.declared.outcome.Cause.{Cause}
use Rattle.base_types.specs.declared.outcome.Cause.TheVariants as cause
use Rattle.base_types.specs.declared.outcome.FloorWhy.{FloorWhy}
use Rattle.base_types.specs.declared.outcome.FloorWhy.TheVariants as why
use Rattle.base_types.specs.declared.outcome.Outcome.{Outcome}
use Rattle.base_types.specs.declared.outcome.Outcome.TheVariants as outcome
use Rattle.base_types.specs.declared.report.Attempt.{Attempt}
use Rattle.base_types.specs.declared.report.Line.{Line}
use Rattle.base_types.specs.declared.report.Line.TheVariants as line
use Rattle.base_types.specs.declared.report.Report.{Report}
use Rattle.model_laws.specs.DecidedLaws.{all-from_has, has-all}
use Rattle.model_laws.specs.Members.{Has, has-from_contains, has-left, has-right}
use Rattle.daos_model.specs.Attempts.{tries}
use Rattle.daos_model.specs.CausesShown.{ShowsCause, ShowsFloor, ShowsUnresolved, ShowsWhy}
use Rattle.daos_model.specs.Conditions.{ConditionsLegal, EndsRight}
use Rattle.daos_model.specs.Durables.{same_attempt}
use Rattle.daos_model.specs.Headline.{Headline}
use Rattle.daos_model.specs.Opening.{Given, Outside}
use Rattle.daos_model.specs.ReadsLegal.{AttemptReadsLegal, IsToldRight, map_read}
use Rattle.daos_model.specs.Snapshots.{ComesFrom}
use Rattle.daos_model.specs.Stops.{AreCounted, HasTarget, stop_numbers}
use Rattle.daos_model.specs.TookEffect.{took}
use Rattle.daos_model.specs.Transactions.{attempt_ops}
use Rattle.report_writer.specs.Forms.{IsReportOf}
use Rattle.report_reader.specs.Marks as marks
use Rattle.report_reader.specs.Marks.{table_of}
use Rattle.report_reader.specs.Told.{cause_fits, has_attempt, outcome_fits, outcome_fits_in}
use Rattle.report_reader.specs.Law.{IsAttemptIn, IsGotIn, IsLineIn, IsReportFor, StopsFrom}
use Rattle.report_reader.specs.Reading.{asked}
use Rattle.report_round_trip.specs.Laws.{IsSpelled, IsToldWell}
use Rattle.report_round_trip.proofs.InOrder.{in-order}
use Rattle.report_round_trip.proofs.Lines.{try-among}
use Rattle.report_round_trip.proofs.Marks.{command-ops, has-attempt, is-asked, is-read}
use Rattle.report_round_trip.proofs.Snaps.{is-snap}
use Rattle.report_round_trip.proofs.Space.{lacks-within}
use Rattle.report_round_trip.proofs.Tries.{cond-asks, got-reads, is-of-command}
use Rattle.model_laws.specs.EntryLaws.{same-attempt}
use Rattle.model_laws.specs.Lists.{any-all, has-cut}

-- ---- numbers

below : (t n : ℕ) → t < n → nat_lt t n ≡ true
below t n lt = grind (arith, nat_tests)

-- stops counted from a number on
stops-from : (n : ℕ) (lines : List Line) → AreCounted n (stop_numbers lines) → StopsFrom n lines
stops-from n [] k = tt
stops-from n (line.Try a ∷ lines) k = stops-from n lines k
stops-from n (line.Stop number target ∷ lines) k = (k.0, stops-from (n + 1) lines k.1)
stops-from n (line.Restart number target incarnation floor ∷ lines) k = stops-from n lines k
stops-from n (line.Freeze target cont epoch ∷ lines) k = stops-from n lines k
stops-from n (line.Snapshot name cont epoch ∷ lines) k = stops-from n lines k
stops-from n (line.Aggregate number target cont upto ∷ lines) k = stops-from n lines k
stops-from n (line.Down target ∷ lines) k = stops-from n lines k

-- the line that shows a floor tells of its target
floor-within : (n t : ℕ) (floor : Epoch) (cont : ContId) (reason : FloorWhy) (l : Line) → HasTarget n l → ShowsFloor t floor cont reason l → t < n
floor-within n t floor cont why.Opening l h k = absurd k
floor-within n t floor cont (why.Restart number) l h k = subst (HasTarget n) k.1 h
floor-within n t floor cont (why.Snapshot e) l h k = subst (HasTarget n) k.0 h
floor-within n t floor cont (why.Aggregate number) l h k = subst (HasTarget n) k h

module _ (g : Given) (o : Outside) (resolved : AttemptId → Bool) (q : Report) (some : 0 < g.script.targets) (form : IsReportOf g.script q) (legal : Headline g o resolved q) (told : All (IsToldWell g.script) (tries q.lines)) where
  -- ---- attempts

  known : (x : AttemptId) (b : Attempt) → Has b (tries q.lines) → b.id ≡ x → has_attempt (table_of g.script) x ≡ true
  known x b i its = let c = is-of-command g.job.attempts g.script q.lines b legal.outcomes.in_turn i in subst (λ y. has_attempt (table_of g.script) y ≡ true) its (has-attempt g.script b.id c.0 c.1)

  right : (a : Attempt) → Has a (tries q.lines) → IsToldRight (attempt_ops g.script a.id) (map_read g.script g.opening.stand (took g.script resolved q.lines) a a.epoch) a
  right a i = has-all (AttemptReadsLegal g.script g.opening.stand (took g.script resolved q.lines)) (tries q.lines) a legal.reads i

  got-in : (a : Attempt) → Has a (tries q.lines) → (got : ℕ × Answer) → Has got a.gots → IsGotIn g.script a.id got
  got-in a i got j =
      let r = got-reads (attempt_ops g.script a.id) (map_read g.script g.opening.stand (took g.script resolved q.lines) a a.epoch) a (right a i) got j in
      let spelled = has-all (IsSpelled g.script a.id) a.gots got (has-all (IsToldWell g.script) (tries q.lines) a told i).answers j in
      record { reads = is-read g.script a.id got.0 r.0 r.1; fits = spelled.fits; values = spelled.values }

  cond-in : (a : Attempt) → Has a (tries q.lines) → (cond : ℕ × Bool) → Has cond a.conds → asked (table_of g.script) a.id cond.0 ≡ true
  cond-in a i cond j =
      let k = cond-asks (attempt_ops g.script a.id) (map_read g.script g.opening.stand (took g.script resolved q.lines) a a.epoch) a (right a i) cond j in
      is-asked g.script a.id cond.0 k.op k.at k.asked

  -- ---- outcomes

  unresolved-fits : (before : List Line) (a : Attempt) (by : AttemptId) → Has a (tries q.lines) → (b : Bool) → same_attempt by a.id ≡ b → ShowsUnresolved g.script q.lines before a by b → has_attempt (table_of g.script) by ≡ true
  unresolved-fits before a by i true same shown = known by a i (sym (same-attempt by a.id same))
  unresolved-fits before a by i false other shown = known by shown.1 (has-from_contains (tries q.lines) shown.1 (shown.0, shown.2, shown.3)) shown.4.0

  reason-fits : (before : List Line) (a : Attempt) (reason : Cause) → Has a (tries q.lines) → ShowsCause g q.lines before a reason → cause_fits g.script (table_of g.script) reason ≡ true
  reason-fits before a (cause.ReadLater by epoch path) i shown =
      known by shown.reader.1 (has-from_contains (tries q.lines) shown.reader.1 (shown.reader.0, shown.reader.2, shown.reader.3)) shown.reader.4.0
  reason-fits before a (cause.WriteLater by epoch path) i shown =
      known by shown.writer.1 (has-from_contains (tries q.lines) shown.writer.1 (shown.writer.0, shown.writer.2, shown.writer.3)) shown.writer.4.0
  reason-fits before a (cause.Unresolved by) i shown = unresolved-fits before a by i (same_attempt by a.id) refl shown
  reason-fits before a (cause.Floor target epoch reason) i shown =
      below target g.script.targets
      (floor-within g.script.targets target epoch shown.cont reason shown.shown.1 (any-all (HasTarget g.script.targets) (ShowsFloor target epoch shown.cont reason) q.lines legal.outcomes.stops.bounded shown.shown) shown.shown.4)

  -- one that failed by a condition tells of it last
  failed-within : (a : Attempt) (op : ℕ) → Has a (tries q.lines) → EndsRight (attempt_ops g.script a.id) a (outcome.CondFailed op) → op < length (attempt_ops g.script a.id)
  failed-within a op i ends =
      let here : Has (op, ends.there) a.conds = subst (Has (op, ends.there)) (sym ends.told) (has-right ends.held ((op, ends.there) ∷ []) (op, ends.there) (inl refl)) in
      let k = cond-asks (attempt_ops g.script a.id) (map_read g.script g.opening.stand (took g.script resolved q.lines) a a.epoch) a (right a i) (op, ends.there) here in
      slice_get_within (attempt_ops g.script a.id) op k.op k.at

  down-within : (before after : List Line) (a : Attempt) (t : ℕ) → q.lines ≡ before ++ line.Try a ∷ after → Has (line.Down t) before → t < g.script.targets
  down-within before after a t cut i =
      has-all (HasTarget g.script.targets) q.lines (line.Down t) legal.outcomes.stops.bounded (subst (Has (line.Down t)) (sym cut) (has-left before (line.Try a ∷ after) (line.Down t) i))

  how-fits : (before after : List Line) (a : Attempt) (how : Outcome) → q.lines ≡ before ++ line.Try a ∷ after → Has a (tries q.lines) → EndsRight (attempt_ops g.script a.id) a how → ShowsWhy g q.lines before a how
      → outcome_fits g.script (table_of g.script) (length (attempt_ops g.script a.id)) how ≡ true
  how-fits before after a outcome.Committed cut i ends shown = refl
  how-fits before after a (outcome.CondFailed op) cut i ends shown = below op (length (attempt_ops g.script a.id)) (failed-within a op i ends)
  how-fits before after a (outcome.Restart reason) cut i ends shown = reason-fits before a reason i shown
  how-fits before after a (outcome.NoSpace target need free) cut i ends shown = below target g.script.targets (lacks-within g q.lines a target need free some shown)
  how-fits before after a outcome.EpochsSpent cut i ends shown = refl
  how-fits before after a outcome.NoSnapshot cut i ends shown = refl
  how-fits before after a (outcome.Unknown target) cut i ends shown = below target g.script.targets (down-within before after a target cut (has-from_contains before (line.Down target) shown.down))

  ends-in : (a : Attempt) → Has (line.Try a) q.lines → Has a (tries q.lines) → outcome_fits_in g.script (table_of g.script) (marks.ops_of (table_of g.script) a.id) a.outcome ≡ true
  ends-in a i among =
      let c = is-of-command g.job.attempts g.script q.lines a legal.outcomes.in_turn among in
      let cut = has-cut q.lines (line.Try a) i in
      let how = how-fits cut.0 cut.1 a a.outcome cut.2 among (has-all (ConditionsLegal g.script) (tries q.lines) a legal.outcomes.conditions among) (legal.causes cut.0 a cut.1 cut.2) in
      ap (λ ops. outcome_fits_in g.script (table_of g.script) ops a.outcome) (command-ops g.script a.id c.0 c.1) ∙ how

  attempt-in : (a : Attempt) → Has (line.Try a) q.lines → IsAttemptIn g.script a
  attempt-in a i =
      let among = try-among q.lines a i in
      let ordered = in-order g.script (attempt_ops g.script a.id) a a.outcome refl (has-all (ConditionsLegal g.script) (tries q.lines) a legal.outcomes.conditions among) (has-all (IsToldWell g.script) (tries q.lines) a told among) in
      record {
        ends = ends-in a i among;
        conds = all-from_has (λ (cond : ℕ × Bool). asked (table_of g.script) a.id cond.0 ≡ true) a.conds (cond-in a among);
        conds_rise = ordered.conds;
        gots = all-from_has (IsGotIn g.script a.id) a.gots (got-in a among);
        gots_rise = ordered.gots;
      }

  -- ---- lines

  bounded : (l : Line) → Has l q.lines → HasTarget g.script.targets l
  bounded l i = has-all (HasTarget g.script.targets) q.lines l legal.outcomes.stops.bounded i

  line-in : (l : Line) → Has l q.lines → IsLineIn g.script l
  line-in (line.Try a) i = attempt-in a i
  line-in (line.Stop number target) i = bounded (line.Stop number target) i
  line-in (line.Restart number target incarnation floor) i = bounded (line.Restart number target incarnation floor) i
  line-in (line.Freeze target cont epoch) i = bounded (line.Freeze target cont epoch) i
  line-in (line.Snapshot name cont epoch) i =
      let made = has-all (ComesFrom g.script (tries q.lines)) q.lines (line.Snapshot name cont epoch) legal.outcomes.snapshots.lines_from i in
      is-snap name cont g.script made.1.id made.4.command
  line-in (line.Aggregate number target cont upto) i = bounded (line.Aggregate number target cont upto) i
  line-in (line.Down target) i = bounded (line.Down target) i

  pub for-script : IsReportFor g.script q
  for-script = record {
    targets = legal.outcomes.targets;
    in_form = form;
    lines = all-from_has (IsLineIn g.script) q.lines line-in;
    stops = stops-from 0 q.lines legal.outcomes.stops.stops;
  }
