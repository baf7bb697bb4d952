-- The versions that don't count go from a pool, each by one turn.
use Rattle.std.proofs.Common.{◌≡◌, ℕ, Bool, true, false, List, [], ◌∷◌, Ok, Result, refl, sym, ap, ◌∙◌, subst}
use Rattle.std.specs.Prelude.{All, IsTrue}
use Rattle.std.proofs.lemmas.List.Elements.{All-cons, All-nil}
use Rattle.base_outside.specs.Images.{Image}
use Rattle.daos_model.specs.declared.durable.Version.{Version}
use Rattle.vos_counting.specs.declared.prepared.Prepared.{Prepared}
use Rattle.vos_counting.specs.Prepared.{counts_in}
use Rattle.vos_entries.specs.Entries.{Entries, entries_in}
use Rattle.vos_keeping.proofs.Going.{uncounted_go}
use Rattle.vos_keeping.specs.Keeping.{versions_in}
use Rattle.vos_keeping.specs.vos_places.Tables.{places_of}
use Rattle.vos_levels.specs.declared.change.Change.TheVariants.{Abort}
use Rattle.vos_pool_settle.proofs.Leaving.{all_left}
use Rattle.vos_pool_settle.proofs.Made.{same_stored}
use Rattle.vos_pool_stage.specs.Staged.{StandsInPool}
use Rattle.vos_pool_stage.specs.vos_pool_base.Pool.{OpenedState}
use Rattle.vos_pool_steps.proofs.Steps.{quiet-follows, turn-is-quiet}
use Rattle.vos_pool_steps.specs.Quiet.{IsQuietStep}
use Rattle.vos_pool_tidy.proofs.Uncounted.{all_went, goes, none_counts, not_done, one_gone, passed, staying, went}
use Rattle.vos_pool_tidy.specs.Clearing.{IsCleared, IsUncleared}
use Rattle.vos_pool_turns.specs.Pool.{CanTurn, IsOneTurn, TurnsKept}
use Rattle.vos_pool_turns.specs.vos_fitting.Fitting.{ListNothing}
use Rattle.vos_pool_turns.specs.vos_turns.declared.entries.EntryStep.TheVariants as step
use Rattle.vos_pool_turns.specs.vos_turns.vos_image.Kept.{Stored, counts}
use Rattle.vos_store.specs.declared.refusal.Stopped.{Stopped}

each : {A : Type 0} (P : A → Type 0) → ((x : A) → P x) → (xs : List A) → All P xs
each P all [] = All-nil P
each P all (x ∷ xs) = All-cons P x xs (all x) (each P all xs)

-- The same entries stand in a pool as at first, and once the versions went that are left, those would be left that will be.
pub record IsPartCleared {R : Type 0} (extent : R → ℕ) (image : R → Image) (test : Version → Bool) (rest all : List Version) (x : Stored) (p : OpenedState R) : Type 0 where
  pub now : Stored
  pub stands : StandsInPool extent image p now
  pub entries : now.1 ≡ x.1
  pub left : staying test rest (versions_in now) ≡ staying test all (versions_in x)

module _ {R : Type 0} (extent : R → ℕ) (tells : Bool) (image : R → Image) (may_leave : R → Image → Type 0) (count burns : R → ℕ) (prepared : Prepared) (all : List Version) (o : OpenedState R) where
  -- what is known from the beginning to this moment
  abbrev pub PartOf : List Version → OpenedState R → Type 0
  PartOf rest p = IsTrue tells → (x : Stored) → IsUncleared extent image prepared all o x → IsPartCleared extent image (counts_in prepared) rest all x p

  pub begins : PartOf all o
  begins told x is = record { now = x; stands = is.stands; entries = refl; left = refl }

  pub passes : (u : Version) (rest : List Version) (p : OpenedState R) → counts_in prepared u ≡ true → PartOf (u ∷ rest) p → PartOf rest p
  passes u rest p well part told x is =
      let k = part told x is in
      record { now = k.now; stands = k.stands; entries = k.entries; left = sym (passed (counts_in prepared) u rest (versions_in k.now) well) ∙ k.left }

  pub can_turn : (rest : List Version) (p : OpenedState R) → PartOf rest p → IsTrue tells → (x : Stored) × IsUncleared extent image prepared all o x → (y : Stored) × CanTurn extent image step.Keep p y
  can_turn rest p part told here =
      let k = part told here.0 here.1 in (k.now, record { stands = k.stands; nothing = subst (λ (e : Entries). ListNothing e) (sym k.entries) here.1.nothing; step = tt })

  module _ (u : Version) (rest : List Version) (p : OpenedState R) (out : counts_in prepared u ≡ false) (part : PartOf (u ∷ rest) p) (here : IsTrue tells → (x : Stored) × IsUncleared extent image prepared all o x) where
    -- it doesn't count by what stands there
    uncounted : (told : IsTrue tells) (y : Stored) → StandsInPool extent image p y → counts (entries_in y.1) u ≡ false
    uncounted told y stands =
        let x = here told in
        let k = part told x.0 x.1 in
        let is = same_stored p.table.header.target (extent p.blocks.undo.region) (image p.blocks.undo.region) p.table y k.now stands k.stands in
        ap (λ (s : Stored). counts (entries_in s.1) u) is ∙ (ap (λ (e : Entries). counts (entries_in e) u) k.entries ∙ (sym (x.1.told u) ∙ out))

    keeps : TurnsKept tells extent image (Abort u.by) (u ∷ []) u.by step.Keep p (λ d. d)
    keeps told going x y can turned q rows =
        let es = entries_in x.1 in
        let none = uncounted told x can.stands in
        uncounted_go (goes u) (places_of p.table) q x y rows turned.entries (each (λ v. goes u v ≡ true → counts es v ≡ false) (λ v. none_counts es u v none) (versions_in x)) (turned.versions ∙ one_gone u (not_done es u none) (versions_in x))

    module _ (q : OpenedState R) (r : Result (Unit {0}) Stopped) (one : IsOneTurn tells extent image may_leave count burns (Abort u.by) (u ∷ []) u.by step.Keep p q r) where
      turn_quiet : IsQuietStep tells extent count burns image may_leave p q
      turn_quiet = turn-is-quiet tells extent count burns image may_leave (Abort u.by) (u ∷ []) u.by step.Keep p q r one keeps

      turns_part : r ≡ Ok tt → PartOf rest q
      turns_part well told x is =
          let k = part told x is in
          let can : CanTurn extent image step.Keep p k.now = record { stands = k.stands; nothing = subst (λ (e : Entries). ListNothing e) (sym k.entries) is.nothing; step = tt } in
          let h = (subst (λ (z : Result (Unit {0}) Stopped). IsOneTurn tells extent image may_leave count burns (Abort u.by) (u ∷ []) u.by step.Keep p q z) well one).turned told k.now can in
          let gone = h.turned.versions ∙ one_gone u (not_done (entries_in k.now.1) u (uncounted told k.now k.stands)) (versions_in k.now) in
          record {
            now = h.now;
            stands = h.stands;
            entries = h.turned.entries ∙ k.entries;
            left = ap (staying (counts_in prepared) rest) gone ∙ (sym (went (counts_in prepared) u rest (versions_in k.now) out) ∙ k.left);
          }

    -- after its turn it is gone, quietly
    pub turned_quietly : (ones : List Version) (q : OpenedState R) (r : Result (Unit {0}) Stopped) → ones ≡ u ∷ [] → IsOneTurn tells extent image may_leave count burns (Abort u.by) ones u.by step.Keep p q r
        → IsQuietStep tells extent count burns image may_leave o p → IsQuietStep tells extent count burns image may_leave o q
    turned_quietly ones q r same one before =
        quiet-follows tells extent count burns image may_leave o p q before (turn_quiet q r (subst (λ (z : List Version). IsOneTurn tells extent image may_leave count burns (Abort u.by) z u.by step.Keep p q r) same one))

    pub turned_part : (ones : List Version) (q : OpenedState R) (r : Result (Unit {0}) Stopped) → ones ≡ u ∷ [] → IsOneTurn tells extent image may_leave count burns (Abort u.by) ones u.by step.Keep p q r → r ≡ Ok tt → PartOf rest q
    turned_part ones q r same one = turns_part q r (subst (λ (z : List Version). IsOneTurn tells extent image may_leave count burns (Abort u.by) z u.by step.Keep p q r) same one)

  -- with none left all are gone that don't count
  pub ends : (p : OpenedState R) → PartOf [] p → IsTrue tells → (x : Stored) → IsUncleared extent image prepared all o x → IsCleared extent image x p
  ends p part told x is =
      let k = part told x is in
      let test = counts_in prepared in
      record {
        now = k.now;
        stands = k.stands;
        entries = k.entries;
        versions = all_left (versions_in k.now) ∙ (k.left ∙ (ap (λ (z : List Version). staying test z (versions_in x)) is.versions ∙ all_went (entries_in x.1) test is.told (versions_in x)));
      }
