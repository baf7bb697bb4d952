-- What it shows that a freeze is refused: what was aggregated has its line, and places of snapshots are taken by others.
use Rattle.std.specs.Prelude.{ℕ, ◌≡◌, ◌≤◌, ◌<◌, ◌+◌, ◌/◌, ◌++◌, ◌&&◌, Any, Bool, true, false, not, nat_le, List, [], ◌∷◌, filter, length, Contains, Option, Some, None, Ok, Err, refl, if◌then◌else◌}
use Rattle.std.proofs.Common.{append-nil, inl, inr, sym, ◌∙◌, ap, subst, arith}
use Rattle.std.proofs.lemmas.Bool.Decides.{nat_tests}
use Rattle.base_types.specs.declared.epoch.Epoch.{Epoch}
use Rattle.base_types.specs.declared.id.AttemptId.{AttemptId}
use Rattle.base_types.specs.declared.id.ContId.{ContId}
use Rattle.base_types.specs.declared.outcome.Cause.TheVariants.{Floor}
use Rattle.base_types.specs.declared.outcome.FloorWhy.{FloorWhy}
use Rattle.base_types.specs.declared.outcome.FloorWhy.TheVariants as why
use Rattle.base_types.specs.declared.outcome.Outcome.{Outcome}
use Rattle.base_types.specs.declared.outcome.Outcome.TheVariants as outcome
use Rattle.base_types.specs.declared.report.Line.{Line}
use Rattle.base_types.specs.declared.script.Command.{Command}
use Rattle.base_types.specs.declared.script.Command.TheVariants.{Aggregate, Run, Skip, Snap, Tell}
use Rattle.base_messages.specs.declared.message.Message.TheVariants as message
use Rattle.model_laws.specs.EntryLaws.{same-attempt}
use Rattle.model_laws.specs.JoinLaws.{has-range}
use Rattle.model_laws.specs.Members.{Has, contains-from_has}
use Rattle.daos_model.specs.Accesses.{attempt_targets, option_targets}
use Rattle.daos_model.specs.declared.durable.ContRow.{ContRow}
use Rattle.daos_model.specs.BoolLaws.{and_left, and_right, both}
use Rattle.daos_model.specs.CausesShown.{ShowsFloor, containers_or_none, is_snap}
use Rattle.daos_model.specs.Durables.{is_frozen, row_of, same_attempt}
use Rattle.daos_model.specs.Opening.{Opening, top}
use Rattle.daos_model.specs.Transactions.{command_of}
use Rattle.vos_store.specs.Answers.{freezes}
use Rattle.vos_store.specs.declared.refusal.FreezeNo.TheVariants as freeze
use Rattle.world_base.specs.declared.letter.Letter.{Letter}
use Rattle.world_base.specs.declared.world.World.{World}
use Rattle.world_base.specs.Changes.{Kept}
use Rattle.world_base.specs.Events.{Rules, target_plan}
use Rattle.world_base.specs.Snapshots.{freeze_cause, refusal_of}
use Rattle.world_legal.specs.world_causes.causes.Causes.{Dated, Stored}
use Rattle.world_legal.specs.world_causes.causes.CommitTurns.{RefusalShows}
use Rattle.world_legal.specs.world_causes.causes.Dates.{limit-rises}
use Rattle.world_legal.specs.world_causes.causes.Floors.{has-line, row-stays}
use Rattle.world_legal.specs.world_causes.causes.Lasting.{limit-told, refusal-more}
use Rattle.world_legal.specs.world_causes.causes.Shown.{IsTold, LacksSpace, is_other_snap, limit_over}
use Rattle.world_upheld.specs.causing.Counting.{passes-more}
use Rattle.world_upheld.specs.causing.Places.{HavePlaces, freezes_of, is_frozen_for}
use Rattle.world_letters.specs.snapshots.Makings.{IsSnapIn}

-- the refusal of a freeze that a target tells shows its cause
abbrev pub FreezeRefusalsShow : Rules → Opening → World → Type 0
FreezeRefusalsShow r o w = (l : Letter) (x : AttemptId) (how : Outcome) → Contains w.messages l → l.message ≡ message.Held x (Some how) → RefusalShows r o [] w.issued w.lines x how

-- ---- as more is stored, issued and told

pub refusal-on : (r : Rules) (o : Opening) (new stored : Stored) (issued added : Dated) (lines more : List Line) (x : AttemptId) (how : Outcome) → RefusalShows r o stored issued lines x how → RefusalShows r o (new ++ stored) (issued ++ added) (lines ++ more) x how
refusal-on r o new stored issued added lines more x how k = record {
  shows = refusal-more r o new stored issued added lines more x how k.shows;
  told = λ n i. by (n / 256) (limit_over o lines issued) (limit_over o (lines ++ more) issued) (limit_over o (lines ++ more) (issued ++ added)) (k.told n i) (limit-told o lines more issued) (limit-rises o (lines ++ more) issued added);
}
  where
    by : (n a b c : ℕ) → n ≤ a → a ≤ b → b ≤ c → n ≤ c
    by n a b c p q z = omega (arith, p, q, z)

-- where anything is stored
pub refusal-anywhere : (r : Rules) (o : Opening) (stored : Stored) (issued added : Dated) (lines more : List Line) (x : AttemptId) (how : Outcome) → RefusalShows r o [] issued lines x how → RefusalShows r o stored (issued ++ added) (lines ++ more) x how
refusal-anywhere r o stored issued added lines more x how k = subst (λ s. RefusalShows r o s (issued ++ added) (lines ++ more) x how) (append-nil stored) (refusal-on r o stored [] issued added lines more x how k)

-- ---- a freeze

-- a snapshot is made at all targets, in its container
pub snap-at : (r : Rules) (x : AttemptId) (c : ContId) (t : ℕ) → IsSnapIn r x c → t < r.script.targets → Contains (attempt_targets r.script x) t
snap-at r x c t makes there = subst (λ d. Contains (option_targets x.command r.script.targets d) t) (sym makes.1) (contains-from_has _ t (has-range 0 r.script.targets t (omega arith) (omega (arith, there))))

pub snap-accesses : (r : Rules) (x : AttemptId) (c : ContId) → IsSnapIn r x c → Contains (containers_or_none (command_of r.script x)) c
snap-accesses r x c makes = subst (λ d. Contains (containers_or_none d) c) (sym makes.1) (contains-from_has (c ∷ []) c (inl refl))

pub snap-is : (r : Rules) (x : AttemptId) (c : ContId) → IsSnapIn r x c → is_snap (command_of r.script x) ≡ true
snap-is r x c makes = ap is_snap makes.1

-- what is frozen of attempts but for this one is of others that make snapshots
frozen-snaps : (r : Rules) (k : Kept) (i : AttemptId × Epoch) → is_frozen_for r.script k.durable i ≡ true → is_snap (command_of r.script i.0) ≡ true
frozen-snaps r k i = by (command_of r.script i.0)
  where
    by : (d : Option Command) → freezes_of k.durable i.1 d ≡ true → is_snap d ≡ true
    by None is = let no : ⊥ = cc in absurd no
    by (Some (Run ops turns snapshot)) is = let no : ⊥ = cc in absurd no
    by (Some (Snap name c)) is = refl
    by (Some (Aggregate c)) is = let no : ⊥ = cc in absurd no
    by (Some (Tell client)) is = let no : ⊥ = cc in absurd no
    by (Some (Skip turns)) is = let no : ⊥ = cc in absurd no

-- what is known where a snapshot is to be frozen: its attempt, and that its epoch was issued to it, and no other
pub record IsToFreeze (r : Rules) (o : Opening) (now : Dated) (t : ℕ) (x : AttemptId) (c : ContId) (s : Epoch) : Type 0 where
  pub makes : IsSnapIn r x c
  pub there : t < r.script.targets
  pub issued : Contains now (x, s)
  pub only : (e : Epoch) → Has (x, e) now → e ≡ s
  pub above : top o < s.0

module _ (r : Rules) (o : Opening) (now : Dated) (lines : List Line) (t : ℕ) (x : AttemptId) (c : ContId) (s : Epoch) (K : IsToFreeze r o now t x c s) (old k : Kept) (conts : k.durable.conts ≡ old.durable.conts) (snaps : k.durable.snaps ≡ old.durable.snaps) where
  -- others alone have taken the places
  others-took : HavePlaces r.script o now old.durable → is_frozen k.durable c s ≡ false → 256 ≤ length k.durable.snaps → 256 ≤ length o.stand.snaps + length (filter (is_other_snap r.script x) now)
  unfolding is_frozen
  others-took few off full =
      by (length old.durable.snaps) (length o.stand.snaps) (length (filter (is_frozen_for r.script old.durable) now)) (length (filter (is_other_snap r.script x) now)) (subst (λ ss. 256 ≤ length ss) snaps full) few (passes-more (is_frozen_for r.script old.durable) (is_other_snap r.script x) now other)
    where
      by : (n a b e : ℕ) → 256 ≤ n → n ≤ a + b → b ≤ e → 256 ≤ a + e
      by n a b e p q z = omega (arith, p, q, z)

      off-old : is_frozen old.durable c s ≡ false
      off-old = ap (λ ss. is_frozen (record old.durable { snaps = ss }) c s) (sym snaps) ∙ off

      own : is_frozen_for r.script old.durable (x, s) ≡ false
      own = ap (freezes_of old.durable s) K.makes.1 ∙ off-old

      another : (i : AttemptId × Epoch) → Has i now → is_frozen_for r.script old.durable i ≡ true → (b : Bool) → same_attempt i.0 x ≡ b → not b ≡ true
      another i j is false apart = refl
      another i j is true same =
          let it : i.0 ≡ x = same-attempt i.0 x same in
          let at : i.1 ≡ s = K.only i.1 (subst (λ y. Has (y, i.1) now) it j) in
          let on : is_frozen_for r.script old.durable (x, s) ≡ true = subst (λ e. is_frozen_for r.script old.durable (x, e) ≡ true) at (subst (λ y. is_frozen_for r.script old.durable (y, i.1) ≡ true) it is) in
          let no : ⊥ = cc in absurd no

      other : (i : AttemptId × Epoch) → Has i now → is_frozen_for r.script old.durable i ≡ true → is_other_snap r.script x i ≡ true
      other i j is = both (is_snap (command_of r.script i.0)) (not (same_attempt i.0 x)) (frozen-snaps r old i is) (another i j is (same_attempt i.0 x) refl)

  -- a refusal shows what was aggregated, or that no place is left
  pub freeze-refused : (how : Outcome) → ((cont : ContId) → IsTold o lines t cont (row_of old.durable cont).aggregated (why.Aggregate (row_of old.durable cont).number))
      → ((floor : Epoch) (cont : ContId) (reason : FloorWhy) → Any (ShowsFloor t floor cont reason) lines → floor.0 / 256 ≤ limit_over o lines now)
      → HavePlaces r.script o now old.durable → freeze_cause (target_plan r t) c s k.durable ≡ Some how → RefusalShows r o [] now lines x how
  unfolding freezes
  freeze-refused how told within few refused = by (nat_le s.0 (row_of k.durable c).aggregated.0) (not (is_frozen k.durable c s) && nat_le 256 (length k.durable.snaps)) refl refl refused
    where
      row : ContRow
      row = row_of k.durable c

      line : s.0 ≤ row.aggregated.0 → Any (ShowsFloor t row.aggregated c (why.Aggregate row.number)) lines
      line reached = has-line o lines t c row.aggregated (why.Aggregate row.number) s.0 K.above reached (subst (λ z. IsTold o lines t c z.aggregated (why.Aggregate z.number)) (sym (row-stays old.durable k.durable c conts)) (told c))

      low : nat_le s.0 row.aggregated.0 ≡ true → s.0 ≤ row.aggregated.0
      low is = grind (arith, nat_tests)

      many : nat_le 256 (length k.durable.snaps) ≡ true → 256 ≤ length k.durable.snaps
      many is = grind (arith, nat_tests)

      unfrozen : (b : Bool) → not b ≡ true → b ≡ false
      unfrozen true is = let no : ⊥ = cc in absurd no
      unfrozen false is = refl

      below : nat_le s.0 row.aggregated.0 ≡ true → RefusalShows r o [] now lines x (outcome.Restart (Floor t row.aggregated (why.Aggregate row.number)))
      below is = record {
        shows = record {
          own = s;
          its = K.issued;
          reached = low is;
          target = snap-at r x c t K.makes K.there;
          cont = c;
          accessed = snap-accesses r x c K.makes;
          shown = line (low is);
        };
        told = λ n i. one n i;
      }
        where
          one : (n : ℕ) → Has n (row.aggregated.0 ∷ []) → n / 256 ≤ limit_over o lines now
          one n (inl same) = subst (λ m. m / 256 ≤ limit_over o lines now) (sym same) (within row.aggregated c (why.Aggregate row.number) (line (low is)))
          one n (inr none) = absurd none

      full : (not (is_frozen k.durable c s) && nat_le 256 (length k.durable.snaps)) ≡ true → RefusalShows r o [] now lines x (outcome.NoSpace t 1 0)
      full is = record {
        shows = subst (λ b. LacksSpace b r o [] now x t 1 0) (sym (snap-is r x c K.makes)) (record {
          own = s;
          its = K.issued;
          target = snap-at r x c t K.makes K.there;
          need_is = refl;
          free_is = refl;
          full = others-took few (unfrozen (is_frozen k.durable c s) (and_left (not (is_frozen k.durable c s)) (nat_le 256 (length k.durable.snaps)) is)) (many (and_right (not (is_frozen k.durable c s)) (nat_le 256 (length k.durable.snaps)) is));
        });
        told = λ n i. absurd i;
      }

      by : (a b : Bool) → nat_le s.0 row.aggregated.0 ≡ a → (not (is_frozen k.durable c s) && nat_le 256 (length k.durable.snaps)) ≡ b
          → refusal_of (target_plan r t) (if a then Err (freeze.Below row.aggregated row.number) else if b then Err freeze.NoPlace else Ok tt) ≡ Some how → RefusalShows r o [] now lines x how
      by true b is full' h = let same : outcome.Restart (Floor t row.aggregated (why.Aggregate row.number)) ≡ how = cc in subst (RefusalShows r o [] now lines x) same (below is)
      by false true is full' h = let same : outcome.NoSpace t 1 0 ≡ how = cc in subst (RefusalShows r o [] now lines x) same (full full')
      by false false is full' h = let no : ⊥ = cc in absurd no
