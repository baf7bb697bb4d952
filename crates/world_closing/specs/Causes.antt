-- When all attempts have their lines, every line shows its cause in the whole list of lines, in any run: targets may stop, snapshots are made and read,
-- and containers aggregated.
use Rattle.std.specs.Prelude.{ℕ, ◌≡◌, ◌≢◌, ◌⊎◌, ◌≤◌, ◌<◌, ◌+◌, ◌*◌, ◌^◌, ◌++◌, ◌==◌, ◌&&◌, Bool, true, false, not, max, nat_lt, Any, List, [], ◌∷◌, filter, length, Contains, is_some, slice_get, Some, refl, if◌then◌else◌}
use Rattle.std.proofs.Common.{append_assoc, sym, ◌∙◌, ap, subst, inl, inr, arith}
use Rattle.std.proofs.lemmas.Bool.Decides.{nat_tests}
use Rattle.std.proofs.lemmas.List.{length-append}
use Rattle.base_types.specs.declared.epoch.Epoch.{Epoch}
use Rattle.base_types.specs.declared.id.AttemptId.{AttemptId}
use Rattle.base_types.specs.declared.outcome.Cause.TheVariants as cause
use Rattle.base_types.specs.declared.outcome.FloorWhy.{FloorWhy}
use Rattle.base_types.specs.declared.outcome.Outcome.{Outcome}
use Rattle.base_types.specs.declared.outcome.Outcome.TheVariants as outcome
use Rattle.base_types.specs.declared.path.Path.{Path}
use Rattle.base_types.specs.declared.report.Attempt.{Attempt}
use Rattle.base_types.specs.declared.report.Line.{Line}
use Rattle.base_types.specs.declared.report.Line.TheVariants as line
use Rattle.base_types.specs.declared.script.Script.{Script}
use Rattle.base_types.specs.Epochs.{last_ticks}
use Rattle.base_types.specs.Operations.{write_path}
use Rattle.base_types.specs.Paths.{overlaps}
use Rattle.model_laws.specs.Lists.{any-of}
use Rattle.model_laws.specs.Members.{Has, contains-from_has, has-filter, has-from_contains, has-from_filter, has-from_map, has-left, has-map}
use Rattle.model_laws.specs.TargetLaws.{same_number}
use Rattle.model_reports.specs.Lines.{line-of, one-of-any}
use Rattle.daos_model.specs.Accesses.{access_paths, minor_writes}
use Rattle.daos_model.specs.Attempts.{has_own_epoch, is_lost, is_restart, is_unknown, snapshot_or_none, tries, up_to_last_of}
use Rattle.daos_model.specs.BoolLaws.{clash}
use Rattle.daos_model.specs.Laws.{tries-append}
use Rattle.daos_model.specs.CausesShown.{AreSpent, CausesShown, IsFloor, IsLaterRead, IsLaterWrite, LacksBlocks, LacksPlace, LacksSpace, ShowsFloor, ShowsWhy, StopsAfter, WasAnswered, blocks_of_others, first_epoch, is_snap, lacks_space_at, leader_of_attempt, other_snaps}
use Rattle.daos_model.specs.CausesShown as shown
use Rattle.daos_model.specs.Durables.{same_attempt}
use Rattle.daos_model.specs.Opening.{Given, top}
use Rattle.daos_model.specs.Order.{AllInTurn}
use Rattle.daos_model.specs.Stops.{restart_numbers}
use Rattle.daos_model.specs.Transactions.{attempt_ops, command_of}
use Rattle.world_base.specs.declared.world.World.{World}
use Rattle.world_base.specs.ClientTurns.{known_epoch}
use Rattle.world_base.specs.Events.{Rules}
use Rattle.world_answers.specs.world_causes.causes.Causes.{Dated, MeetsOther, ShowsLack, ShowsRead, Stored, blocks_of_stored}
use Rattle.world_answers.specs.world_causes.causes.LastCauses.{blocks-within, count-within, ids}
use Rattle.world_answers.specs.world_causes.causes.Shown as stand
use Rattle.world_answers.specs.world_causes.causes.Shown.{Causes, IsFirstEpoch, IsOpenTo, MeetsFloor, MeetsLaterWrite, MeetsUnresolved, OutcomeStands, SpendsAll, WasLost}
use Rattle.world_answers.specs.world_causes.causes.Storing.{AreApart, dated_ids}
use Rattle.world_closing.specs.Rules.{rules_of}
use Rattle.world_upheld.specs.causing.Dates.{AreDates, counted_as, counts-issued, issued-own, with_dates}
use Rattle.world_letters.specs.clients.Snapshots.{at-same, is_at_snapshot}
use Rattle.world_answers.specs.world_making.dates.Moves.{command-same}
use Rattle.world_letters.specs.epochs.Epochs.{Epochs, HasLine, IsEpochOf, IsOwn, IsSeen}
use Rattle.world_letters.specs.lives.Adding.{restarts-append}
use Rattle.world_upheld.specs.below.Legal.{BeginsWith, among-tries, first-found, one-line, report_over}

-- ---- what this stands on

-- Each attempt of which an epoch counts has its line, with that epoch; each that was stored at a target has one, which doesn't tell that space was
-- wanting there; none was stored twice at a target, counts with two epochs, or has two lines; a later read that a line's cause names was issued its
-- epoch; and lines stand in turn.
pub record AllAreTold (g : Given) (stored : Stored) (dated : Dated) (v : World) : Type 0 where
  pub epochs : Epochs (rules_of g) (top g.opening) v
  pub dates : AreDates (rules_of g) 0 dated v
  pub told : (x : AttemptId) (e : Epoch) → Contains dated (x, e) → HasLine v x e
  pub stored_are : (t : ℕ) (x : AttemptId) → Contains stored (t, x) → (a : Attempt) × Contains (tries v.lines) a × (a.id ≡ x) × (lacks_space_at t a.outcome ≡ false)
  pub later : (a : Attempt) (by : AttemptId) (epoch : Epoch) (path : Path) → Has a (tries v.lines) → a.outcome ≡ outcome.Restart (cause.ReadLater by epoch path) → Contains v.issued (by, epoch)
  pub in_turn : AllInTurn g.job.attempts g.script v.lines
  pub lines_apart : AreApart (ids (tries v.lines))
  pub dates_apart : AreApart (dated_ids dated)
  pub stored_apart : AreApart stored

-- So each line shows its cause among all lines, in a run that makes and reads snapshots, and aggregates.
abbrev pub LastCausesShow : Type 0
LastCausesShow =
    (g : Given) (stored : Stored) (dated : Dated) (v : World) → AllAreTold g stored dated v → Causes (rules_of g) g.opening stored (with_dates dated v) → CausesShown g (report_over (rules_of g) v)

-- ---- lists

apart-left : (xs ys : Dated) → AreApart (dated_ids (xs ++ ys)) → AreApart (dated_ids xs)
apart-left [] ys k = tt
apart-left (x ∷ xs) ys k = (λ i. k.0 (more xs i), apart-left xs ys k.1)
  where
    more : (zs : Dated) → Has x.0 (dated_ids zs) → Has x.0 (dated_ids (zs ++ ys))
    more [] i = absurd i
    more (z ∷ zs) (inl same) = inl same
    more (z ∷ zs) (inr i) = inr (more zs i)

-- fewer pass that are apart
apart-filter : (p : AttemptId × Epoch → Bool) (xs : Dated) → AreApart (dated_ids xs) → AreApart (dated_ids (filter p xs))
apart-filter p [] k = tt
apart-filter p (x ∷ xs) k = by (p x) (apart-filter p xs k.1)
  where
    less : Has x.0 (dated_ids (filter p xs)) → Has x.0 (dated_ids xs)
    less i = let j = has-from_map (λ z. z.0) (filter p xs) x.0 i in subst (λ y. Has y (dated_ids xs)) j.2 (has-map (λ z. z.0) xs j.0 (has-from_filter p xs j.0 j.1).0)

    by : (b : Bool) → AreApart (dated_ids (filter p xs)) → AreApart (dated_ids (if b then x ∷ filter p xs else filter p xs))
    by true rest = (λ i. k.0 (less i), rest)
    by false rest = rest

-- attempts that make a snapshot, but for one
abbrev snaps_else : Script → AttemptId → Attempt → Bool
snaps_else s x a = is_snap (command_of s a.id) && not (same_attempt a.id x)

other-snaps_are : (s : Script) (x : AttemptId) (ts : List Attempt) → other_snaps s x ts ≡ length (filter (snaps_else s x) ts)
other-snaps_are s x [] = refl
other-snaps_are s x (a ∷ ts) = by (snaps_else s x a) (other-snaps_are s x ts)
  where
    by : (b : Bool) → other_snaps s x ts ≡ length (filter (snaps_else s x) ts) → (if b then 1 else 0) + other_snaps s x ts ≡ length (if b then a ∷ filter (snaps_else s x) ts else filter (snaps_else s x) ts)
    by true rest = omega (arith, rest)
    by false rest = omega (arith, rest)

-- attempts of a command read at one snapshot, at one epoch
one-snapshot : (r : Rules) (n : ℕ) (w : World) (x y : AttemptId) (e f : Epoch) → Epochs r n w → is_at_snapshot r x ≡ true → x.client ≡ y.client → x.command ≡ y.command → IsEpochOf r w x e → IsEpochOf r w y f → e ≡ f
one-snapshot r n w x y e f E at client command (IsOwn i) k = clash (is_at_snapshot r x) at (E.own x e i)
one-snapshot r n w x y e f E at client command (IsSeen s) (IsOwn i) = clash (is_at_snapshot r y) (sym (at-same r x y client command) ∙ at) (E.own y f i)
one-snapshot r n w x y e f E at client command (IsSeen s) (IsSeen t) =
    let name : s.name ≡ t.name = let k : Some s.name ≡ Some t.name = sym s.reads ∙ ap snapshot_or_none (command-same r.script x y client command) ∙ t.reads in cc in
    let c : s.c ≡ t.c = let k : Some s.c ≡ Some t.c = sym s.here ∙ ap (slice_get w.clients) client ∙ t.here in cc in
    let known : known_epoch t.c.known t.name ≡ Some e = subst (λ d. known_epoch d.known t.name ≡ Some e) c (subst (λ m. known_epoch s.c.known m ≡ Some e) name s.known) in
    let same : Some e ≡ Some f = sym known ∙ t.known in
    cc

-- as many attempts as dates
names : (is : Dated) → length (dated_ids is) ≡ length is
names [] = refl
names (i ∷ is) = let e : length (dated_ids is) ≡ length is = names is in omega (arith, e)

-- an attempt by its parts
abbrev numbered : ℕ → ℕ → ℕ → AttemptId
numbered client command n = record { client = client; command = command; attempt = n }

same-numbered : (x y : AttemptId) (n : ℕ) → y.client ≡ x.client → y.command ≡ x.command → y.attempt ≡ n → record x { attempt = n } ≡ y
same-numbered x y n client command number = ap (λ c. numbered c x.command n) (sym client) ∙ ap (λ c. numbered y.client c n) (sym command) ∙ ap (numbered y.client y.command) (sym number)

-- a number is below another, or equal to it, or above it
data Compared (m n : ℕ) : Type 0 where
  Below : m < n → Compared m n
  Level : m ≡ n → Compared m n
  Above : n < m → Compared m n

compared : (m n : ℕ) → Compared m n
compared m n = by (nat_lt m n) refl (nat_lt n m) refl
  where
    by : (b : Bool) → nat_lt m n ≡ b → (c : Bool) → nat_lt n m ≡ c → Compared m n
    by true is c d = Below (grind (arith, nat_tests))
    by false off true is = Above (grind (arith, nat_tests))
    by false off false none = Level (let low : (m < n → ⊥) = λ k. let yes' : nat_lt m n ≡ true = grind (arith, nat_tests) in clash (nat_lt m n) yes' off in let high : (n < m → ⊥) = λ k. let yes' : nat_lt n m ≡ true = grind (arith, nat_tests) in clash (nat_lt n m) yes' none in omega (arith, low, high))

-- ---- in the end

module _ (g : Given) (stored : Stored) (dated : Dated) (v : World) (T : AllAreTold g stored dated v) (C : Causes (rules_of g) g.opening stored (with_dates dated v)) where
  abbrev r : Rules
  r = rules_of g

  -- one line of an attempt, with its epoch
  the-line : (a b : Attempt) → Has a (tries v.lines) → Has b (tries v.lines) → a.id ≡ b.id → a ≡ b
  the-line a b i j same = one-line (tries v.lines) a b T.lines_apart i j same

  line-epoch : (a : Attempt) (e : Epoch) → Has a (tries v.lines) → Contains dated (a.id, e) → a.epoch ≡ Some e
  line-epoch a e i j = let l = T.told a.id e j in sym (ap (λ z. z.epoch) (the-line l.0 a (has-from_contains (tries v.lines) l.0 l.1) i l.2)) ∙ l.3

  own-epoch : (b : Attempt) (e : Epoch) → Contains v.issued (b.id, e) → has_own_epoch g.script b ≡ true
  own-epoch b e i = ap not (T.epochs.own b.id e i)

  counts : (x : AttemptId) (e : Epoch) → Contains v.issued (x, e) → Contains dated (x, e)
  counts x e i = contains-from_has dated (x, e) (counts-issued r 0 dated v T.dates x e (has-from_contains v.issued (x, e) i))

  -- an attempt that is told to restart, and wasn't lost, was issued an epoch
  restart-issued : (b : Attempt) → Has b (tries v.lines) → is_restart b.outcome ≡ true → is_lost b.id b.outcome ≡ false → (e : Epoch) × Contains dated (b.id, e)
  restart-issued b i restarts sure = by b.outcome restarts sure (let k = line-of v.lines b i in (k.before, C.lines k.before b k.after k.among))
    where
      unresolved : (before : List Line) (by : AttemptId) (itself : Bool) → same_attempt by b.id ≡ itself → same_attempt by b.id ≡ false → MeetsUnresolved itself r dated before b.id by → (e : Epoch) × Contains dated (b.id, e)
      unresolved before by true is off k = clash (same_attempt by b.id) is off
      unresolved before by false is off k = (k.0.own, k.0.its)

      by : (how : Outcome) → is_restart how ≡ true → is_lost b.id how ≡ false → (before : List Line) × OutcomeStands r g.opening stored dated before b.id how → (e : Epoch) × Contains dated (b.id, e)
      by (outcome.Restart (cause.ReadLater by2 epoch path)) is off k = (k.1.own, k.1.its)
      by (outcome.Restart (cause.WriteLater by2 epoch path)) is off k = (k.1.own, k.1.its)
      by (outcome.Restart (cause.Unresolved by2)) is off k = unresolved k.0 by2 (same_attempt by2 b.id) refl off k.1
      by (outcome.Restart (cause.Floor target epoch reason)) is off k = (k.1.own, k.1.its)
      by outcome.Committed is off k = let no : ⊥ = cc in absurd no
      by (outcome.CondFailed op) is off k = let no : ⊥ = cc in absurd no
      by (outcome.NoSpace target need free) is off k = let no : ⊥ = cc in absurd no
      by outcome.EpochsSpent is off k = let no : ⊥ = cc in absurd no
      by outcome.NoSnapshot is off k = let no : ⊥ = cc in absurd no
      by (outcome.Unknown target) is off k = let no : ⊥ = cc in absurd no

  -- ---- one line

  module _ (before : List Line) (a : Attempt) (after : List Line) (among : v.lines ≡ before ++ line.Try a ∷ after) where
    own : Has a (tries v.lines)
    own = among-tries v.lines before a after among

    -- what stands before it is among all lines
    earlier : (b : Attempt) → Has b (tries before) → Has b (tries v.lines)
    earlier b i = subst (λ ls. Has b (tries ls)) (sym among) (subst (Has b) (sym (tries-append before (line.Try a ∷ after))) (has-left (tries before) (tries (line.Try a ∷ after)) b i))

    its-epoch : (e : Epoch) → Contains dated (a.id, e) → a.epoch ≡ Some e
    its-epoch e i = line-epoch a e own i

    later-read : (by : AttemptId) (epoch : Epoch) (path : Path) → a.outcome ≡ outcome.Restart (cause.ReadLater by epoch path) → ShowsRead r dated a.id by epoch path → IsLaterRead g.script (tries v.lines) a by epoch path
    later-read by epoch path is k = record {
      own = k.own;
      issued = its-epoch k.own k.its;
      later = k.later;
      reader = let i = T.later a by epoch path own is in let b = T.told by epoch (counts by epoch i) in any-of (λ b. (b.id ≡ by) × (b.epoch ≡ Some epoch) × (has_own_epoch g.script b ≡ true)) (tries v.lines) b.0 (has-from_contains (tries v.lines) b.0 b.1)
          (b.2, b.3, own-epoch b.0 epoch (subst (λ y. Contains v.issued (y, epoch)) (sym b.2) i));
      asks = k.asks;
      near = k.near;
    }

    -- ---- the first epoch

    -- the first epoch that goes with it is no later than that of any attempt of its command from there on
    module _ (first : Epoch) (k : IsFirstEpoch dated before a.id first) where
      first-low : (y : AttemptId) (f : Epoch) → Contains dated (y, f) → y.client ≡ a.id.client → y.command ≡ a.id.command → k.number ≤ y.attempt → first.0 ≤ f.0
      first-low y f i client command up = elim (at-or-not (is_at_snapshot r y)) [
        | inl at ↦ read-low at
        | inr off ↦ own-low (compared k.number y.attempt) (issued-own r 0 dated v T.dates y f off i) (issued-own r 0 dated v T.dates z first (sym same ∙ off) k.its)
      ]
        where
          z : AttemptId
          z = record a.id { attempt = k.number }

          same : is_at_snapshot r y ≡ is_at_snapshot r z
          same = at-same r y z client command

          at-or-not : (b : Bool) → (b ≡ true) ⊎ (b ≡ false)
          at-or-not true = inl refl
          at-or-not false = inr refl

          -- all attempts that read at a snapshot have its epoch
          read-low : is_at_snapshot r y ≡ true → first.0 ≤ f.0
          read-low at =
              let m = T.dates.epochs y f i in
              let n = T.dates.epochs z first k.its in
              let one : m.0 ≡ n.0 = one-snapshot r (top g.opening) v y z m.0 n.0 T.epochs at client command m.1 n.1 in
              none-later f.0 first.0 m.0.0 n.0.0 (ap (λ e. e.0) m.2 ∙ as-read y m.0 at) (ap (λ e. e.0) n.2 ∙ as-read z n.0 (sym same ∙ at)) (ap (λ e. e.0) one)
            where
              as-read : (x : AttemptId) (e : Epoch) → is_at_snapshot r x ≡ true → (counted_as r 0 x e).0 ≡ e.0 + 0
              as-read x e is = ap (λ b. (if b then record { 0 = e.0 + 0 } else e).0) is

              none-later : (f first m n : ℕ) → f ≡ m + 0 → first ≡ n + 0 → m ≡ n → first ≤ f
              none-later f first m n p q s = omega (arith, p, q, s)

          own-low : Compared k.number y.attempt → Contains v.issued (y, f) → Contains v.issued (z, first) → first.0 ≤ f.0
          own-low (Below lt) j its = let less : first.0 < f.0 = T.epochs.same_command y z f first j its client command lt in omega (arith, less)
          own-low (Level level) j its =
              let one : first ≡ f = T.epochs.one y first f (subst (λ x. Contains v.issued (x, first)) (same-numbered a.id y k.number client command (sym level)) its) j in
              let even : first.0 ≡ f.0 = ap (λ e. e.0) one in
              omega (arith, even)
          own-low (Above gt) j its = absurd (omega (arith, up, gt))

      -- an attempt of the command that wasn't lost comes no earlier
      not-before : (b : Attempt) → Has b (tries v.lines) → b.id.client ≡ a.id.client → b.id.command ≡ a.id.command → is_lost b.id b.outcome ≡ false → k.number ≤ b.id.attempt
      not-before b i client command sure = by (compared b.id.attempt k.number)
        where
          lost : WasLost before (record a.id { attempt = b.id.attempt }) → ⊥
          lost z =
              let c = one-of-any (λ c. (c.id ≡ record a.id { attempt = b.id.attempt }) × (is_lost c.id c.outcome ≡ true)) (tries before) z in
              let one : c.0 ≡ b = the-line c.0 b (earlier c.0 c.1) i (c.2.0 ∙ same-numbered a.id b.id b.id.attempt client command refl) in
              clash (is_lost b.id b.outcome) (subst (λ y. is_lost y.id y.outcome ≡ true) one c.2.1) sure

          by : Compared b.id.attempt k.number → k.number ≤ b.id.attempt
          by (Below lt) = absurd (lost (k.lost b.id.attempt lt))
          by (Level same) = omega (arith, same)
          by (Above gt) = omega (arith, gt)

    record Begun (first : Epoch) : Type 0 where
      epoch : Epoch
      is : first_epoch (tries v.lines) a.id ≡ Some epoch
      low : first.0 ≤ epoch.0

    begun : (mine first : Epoch) → Contains dated (a.id, mine) → is_lost a.id a.outcome ≡ false → IsFirstEpoch dated before a.id first → Begun first
    begun mine first i sure k = by z.how
      where
        z : BeginsWith v.lines a
        z = first-found g.job.attempts g.script v.lines a T.in_turn own sure

        from : (f : Epoch) → Contains dated (z.b.id, f) → Begun first
        from f j = record {
          epoch = f;
          is = z.epoch ∙ line-epoch z.b f z.among j;
          low = first-low first k z.b.id f j z.starts.client z.starts.command (not-before first k z.b z.among z.starts.client z.starts.command z.starts.sure);
        }

        by : (z.b ≡ a) ⊎ (is_restart z.b.outcome ≡ true) → Begun first
        by (inl same) = from mine (subst (λ y. Contains dated (y.id, mine)) (sym same) i)
        by (inr restarts) = let e = restart-issued z.b z.among restarts z.starts.sure in from e.0 e.1

    later-write : (by : AttemptId) (epoch : Epoch) (path : Path) → a.outcome ≡ outcome.Restart (cause.WriteLater by epoch path) → MeetsLaterWrite r dated before a.id by epoch path → IsLaterWrite g.script g.job.epsilon (tries v.lines) a by epoch path
    later-write by epoch path is k =
        let b = begun k.own k.first k.its (ap (is_lost a.id) is) k.begun in
        record {
          own = k.own;
          issued = its-epoch k.own k.its;
          later = k.later;
          first = b.epoch;
          begun = b.is;
          uncertain = let low : k.first.0 ≤ b.epoch.0 = b.low in let near' : epoch.0 ≤ k.first.0 + 256 * g.job.epsilon = k.uncertain in omega (arith, low, near');
          writer = let c = T.told by epoch k.writer in any-of (λ b. (b.id ≡ by) × (b.epoch ≡ Some epoch)) (tries v.lines) c.0 (has-from_contains (tries v.lines) c.0 c.1) (c.2, c.3);
          writes = k.writes;
          near = k.near;
        }

    -- ---- blocks

    abbrev IsTold : ℕ → ℕ × AttemptId → Type 0
    IsTold t i = (i.1 ≢ a.id) × ((b : Attempt) × Has b (tries v.lines) × (b.id ≡ i.1) × (lacks_space_at t b.outcome ≡ false))

    -- one that was refused for want of space wasn't stored there
    others-told : (t need free : ℕ) → a.outcome ≡ outcome.NoSpace t need free → (i : ℕ × AttemptId) → Has i stored → i.0 ≡ t → IsTold t i
    others-told t need free is i j at = (off, (b.0, has-from_contains (tries v.lines) b.0 b.1, b.2, b.3))
      where
        b : (b : Attempt) × Contains (tries v.lines) b × (b.id ≡ i.1) × (lacks_space_at t b.outcome ≡ false)
        b = T.stored_are t i.1 (contains-from_has stored (t, i.1) (subst (λ u. Has (u, i.1) stored) at j))

        off : i.1 ≢ a.id
        off e = clash (t == t) (same_number t) (ap (lacks_space_at t) (sym is) ∙ ap (λ z. lacks_space_at t z.outcome) (sym (the-line b.0 a (has-from_contains (tries v.lines) b.0 b.1) own (b.2 ∙ e))) ∙ b.3)

    lacks-blocks : (t need free : ℕ) → a.outcome ≡ outcome.NoSpace t need free → ShowsLack r g.opening stored dated a.id t need free → LacksBlocks g v.lines a t need free
    lacks-blocks t need free is k = record {
      issued = ap is_some (its-epoch k.own k.its);
      wanting = k.wanting;
      need_is = k.need_is;
      accounted =
          let p : g.opening.free t ≤ free + blocks_of_stored g.script t stored = k.accounted in
          let q : blocks_of_stored g.script t stored ≤ blocks_of_others g.script t a.id (tries v.lines) = blocks-within g.script t a.id stored (tries v.lines) T.stored_apart (others-told t need free is) in
          omega (arith, p, q);
    }

    -- places of snapshots that others were to make are those that lines tell of
    fewer-snaps : length (filter (stand.is_other_snap g.script a.id) dated) ≤ other_snaps g.script a.id (tries v.lines)
    fewer-snaps =
        let c : length (dated_ids others) ≤ length (filter (snaps_else g.script a.id) (tries v.lines)) = count-within (dated_ids others) (filter (snaps_else g.script a.id) (tries v.lines)) (apart-filter (stand.is_other_snap g.script a.id) dated T.dates_apart) its-line in
        let n : length (dated_ids others) ≡ length others = names others in
        let e : other_snaps g.script a.id (tries v.lines) ≡ length (filter (snaps_else g.script a.id) (tries v.lines)) = other-snaps_are g.script a.id (tries v.lines) in
        omega (arith, c, n, e)
      where
        others : Dated
        others = filter (stand.is_other_snap g.script a.id) dated

        its-line : (y : AttemptId) → Has y (dated_ids others) → (b : Attempt) × Has b (filter (snaps_else g.script a.id) (tries v.lines)) × (b.id ≡ y)
        its-line y i =
            let j = has-from_map (λ z. z.0) others y i in
            let q = has-from_filter (stand.is_other_snap g.script a.id) dated j.0 j.1 in
            let b = T.told j.0.0 j.0.1 (contains-from_has dated j.0 q.0) in (
              b.0,
              has-filter (snaps_else g.script a.id) (tries v.lines) b.0 (has-from_contains (tries v.lines) b.0 b.1) (subst (λ z. (is_snap (command_of g.script z) && not (same_attempt z a.id)) ≡ true) (sym b.2) q.1),
              b.2 ∙ j.2,
            )

    -- no place is left for a snapshot
    lacks-place : (t need free : ℕ) → stand.LacksPlace r g.opening dated a.id t need free → LacksPlace g v.lines a t need free
    lacks-place t need free k = record {
      issued = ap is_some (its-epoch k.own k.its);
      target = k.target;
      need_is = k.need_is;
      free_is = k.free_is;
      full =
          let p : 256 ≤ length g.opening.stand.snaps + length (filter (stand.is_other_snap g.script a.id) dated) = k.full in
          let q : length (filter (stand.is_other_snap g.script a.id) dated) ≤ other_snaps g.script a.id (tries v.lines) = fewer-snaps in
          omega (arith, p, q);
    }

    lacks-space : (snaps : Bool) (t need free : ℕ) → is_snap (command_of g.script a.id) ≡ snaps → a.outcome ≡ outcome.NoSpace t need free → stand.LacksSpace snaps r g.opening stored dated a.id t need free → LacksSpace snaps g v.lines a t need free
    lacks-space true t need free same is k = lacks-place t need free k
    lacks-space false t need free same is k = lacks-blocks t need free is k

    -- ---- ticks

    spent-ticks : SpendsAll g.opening dated before a.id → AreSpent g v.lines
    spent-ticks k = sum (max (2 ^ 55) g.opening.lease) last_ticks (length k.before) (length (restart_numbers before)) (length (restart_numbers v.lines)) (length (tries v.lines)) k.spent fewer counted
      where
        apart : AreApart (a.id ∷ dated_ids k.before)
        apart = (
          λ i. let j = has-from_map (λ z. z.0) k.before a.id i in k.none j.0.1 (subst (λ x. Contains k.before (x, j.0.1)) j.2 (contains-from_has k.before j.0 j.1)),
          apart-left k.before k.since (subst (λ is. AreApart (dated_ids is)) k.among T.dates_apart),
        )

        lines : (y : AttemptId) → Has y (a.id ∷ dated_ids k.before) → (b : Attempt) × Has b (tries v.lines) × (b.id ≡ y)
        lines y (inl is) = (a, own, sym is)
        lines y (inr i) =
            let j = has-from_map (λ z. z.0) k.before y i in
            let b = T.told j.0.0 j.0.1 (subst (λ is. Contains is j.0) (sym k.among) (contains-from_has (k.before ++ k.since) j.0 (has-left k.before k.since j.0 j.1))) in
            (b.0, has-from_contains (tries v.lines) b.0 b.1, b.2 ∙ j.2)

        counted : length k.before + 1 ≤ length (tries v.lines)
        counted =
            let c : length (a.id ∷ dated_ids k.before) ≤ length (tries v.lines) = count-within (a.id ∷ dated_ids k.before) (tries v.lines) apart lines in
            let e : length (dated_ids k.before) ≡ length k.before = names k.before in
            omega (arith, c, e)

        fewer : length (restart_numbers before) ≤ length (restart_numbers v.lines)
        fewer =
            let all : length (restart_numbers v.lines) ≡ length (restart_numbers before) + length (restart_numbers (line.Try a ∷ after)) = ap (λ ls. length (restart_numbers ls)) among ∙ ap length (restarts-append before (line.Try a ∷ after)) ∙ length-append (restart_numbers before) (restart_numbers (line.Try a ∷ after)) in
            omega (arith, all)

        sum : (m last b few many told : ℕ) → last < m + b + 65536 * few + 1 → few ≤ many → b + 1 ≤ told → last < m + 65536 * many + told
        sum m last b few many told p q c = omega (arith, p, q, c)

    -- ---- unresolved attempts

    open-is : (by : AttemptId) (b : Attempt) → Has b (tries v.lines) → b.id ≡ by → IsOpenTo g.script before a.id by → shown.IsOpen g.script v.lines before a b
    open-is by b i same (stand.NotAnswered none) = shown.NotAnswered (λ was. none (subst (λ y. WasAnswered y a.id.client before) same was))
    open-is by b i same (stand.IsUnknown k) =
        let c = one-of-any (λ c. (c.id ≡ by) × (is_unknown c.outcome ≡ true)) (tries before) k in
        let one : c.0 ≡ b = the-line c.0 b (earlier c.0 c.1) i (c.2.0 ∙ sym same) in
        shown.IsUnknown (subst (λ y. is_unknown y.outcome ≡ true) one c.2.1)
    open-is by b i same (stand.LeaderStopped first rest c its cut stops) =
        let all : v.lines ≡ first ++ line.Try c ∷ (rest ++ line.Try a ∷ after) = among ∙ ap (λ ls. ls ++ line.Try a ∷ after) cut ∙ append_assoc first (line.Try c ∷ rest) (line.Try a ∷ after) in
        let here : Has c (tries v.lines) = among-tries v.lines first c (rest ++ line.Try a ∷ after) all in
        let one : c ≡ b = the-line c b here i (its ∙ sym same) in
        shown.LeaderStopped first (rest ++ line.Try a ∷ after) (subst (λ y. v.lines ≡ first ++ line.Try y ∷ (rest ++ line.Try a ∷ after)) one all)
        (subst (λ y. StopsAfter (leader_of_attempt g.script y ∷ []) (up_to_last_of y.client first) before) (sym same) stops)

    other-unresolved : (by : AttemptId) → MeetsOther r dated a.id by → IsOpenTo g.script before a.id by → Any (λ b. (b.id ≡ by) × shown.IsUnresolved g.script v.lines before a b) (tries v.lines)
    other-unresolved by k open' =
        any-of (λ b. (b.id ≡ by) × shown.IsUnresolved g.script v.lines before a b) (tries v.lines) b.0 (has-from_contains (tries v.lines) b.0 b.1) (
          b.2,
          record {
            own = k.own;
            issued = its-epoch k.own k.its;
            its = k.other;
            its_issued = b.3;
            below = k.below;
            overlap = subst (λ y. Any (λ w. Any (λ p. overlaps p (write_path w.write) ≡ true) (access_paths (attempt_ops g.script a.id))) (minor_writes 0 (attempt_ops g.script y))) (sym b.2) k.overlap;
            unresolved = open-is by b.0 (has-from_contains (tries v.lines) b.0 b.1) b.2 open';
          },
        )
      where
        b : HasLine v by k.other
        b = T.told by k.other k.others

    unresolved : (by : AttemptId) (itself : Bool) → MeetsUnresolved itself r dated before a.id by → shown.ShowsUnresolved g.script v.lines before a by itself
    unresolved by true k = k
    unresolved by false k = other-unresolved by k.0 k.1

    -- ---- floors

    floor-shown : (t : ℕ) (epoch : Epoch) (reason : FloorWhy) → MeetsFloor r dated before a.id t epoch reason → IsFloor g.script v.lines a t epoch reason
    floor-shown t epoch reason k = record {
      own = k.own;
      issued = its-epoch k.own k.its;
      reached = k.reached;
      target = k.target;
      cont = k.cont;
      accessed = k.accessed;
      shown = let l = one-of-any (ShowsFloor t epoch k.cont reason) before k.shown in any-of (ShowsFloor t epoch k.cont reason) v.lines l.0 (subst (Has l.0) (sym among) (has-left before (line.Try a ∷ after) l.0 l.1)) l.2;
    }

    -- ---- all of them

    outcome-shown : (how : Outcome) → a.outcome ≡ how → OutcomeStands r g.opening stored dated before a.id how → ShowsWhy g v.lines before a how
    outcome-shown outcome.Committed is k = tt
    outcome-shown (outcome.CondFailed op) is k = tt
    outcome-shown (outcome.Restart (cause.ReadLater by epoch path)) is k = later-read by epoch path is k
    outcome-shown (outcome.Restart (cause.WriteLater by epoch path)) is k = later-write by epoch path is k
    outcome-shown (outcome.Restart (cause.Unresolved by)) is k = unresolved by (same_attempt by a.id) k
    outcome-shown (outcome.Restart (cause.Floor target epoch reason)) is k = floor-shown target epoch reason k
    outcome-shown (outcome.NoSpace target need free) is k = lacks-space (is_snap (command_of g.script a.id)) target need free refl is k
    outcome-shown outcome.EpochsSpent is k = spent-ticks k
    outcome-shown outcome.NoSnapshot is k = tt
    outcome-shown (outcome.Unknown target) is k = record { target = k.0; down = k.1 }

  causes-shown : CausesShown g (report_over r v)
  causes-shown before a after among = outcome-shown before a after among a.outcome refl (C.lines before a after among)

pub last-causes_show : LastCausesShow
last-causes_show g stored dated v T C = causes-shown g stored dated v T C
