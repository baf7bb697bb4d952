-- One turn of a tidy pool removes a version.
use Rattle.std.proofs.Common.{◌≡◌, ℕ, ◌≤◌, ◌+◌, ◌&&◌, Bool, true, false, not, cond, List, [], ◌∷◌, Ok, Err, Result, Some, length, sym, ap, ◌∙◌, subst, arith, inr}
use Rattle.std.specs.Prelude.{All, IsTrue, OnOk, filter, if◌then◌else◌}
use Rattle.std.proofs.lemmas.List.Elements.{All-cons, All-nil}
use Rattle.base_outside.specs.Images.{Image}
use Rattle.base_types.specs.declared.id.AttemptId.{AttemptId}
use Rattle.daos_model.specs.Changes.{with_versions}
use Rattle.daos_model.specs.declared.durable.Durable.{Durable}
use Rattle.daos_model.specs.declared.durable.Version.{Version}
use Rattle.daos_model.specs.Durables.{version_key}
use Rattle.daos_model.specs.Ordered.{in_order}
use Rattle.pmem_alloc.specs.Blocks.{free_count}
use Rattle.pmem_undo.specs.Undo.{IsUndo}
use Rattle.vos_image.specs.Kept.{Stored}
use Rattle.vos_image.specs.Places.{Places}
use Rattle.vos_keeping.proofs.Going.{counted_go}
use Rattle.vos_keeping.proofs.Lists.{filtered_in_order}
use Rattle.vos_keeping.proofs.Settling.{kept_versions}
use Rattle.vos_keeping.specs.Keeping.{AreGone, SameRows, kept_so, versions_in}
use Rattle.vos_levels.specs.declared.change.Change.TheVariants.{Prune}
use Rattle.vos_pool_base.specs.vos_places.Tables.{places_of}
use Rattle.vos_pool_base.proofs.vos_tables.Places.{length_in_order}
use Rattle.vos_pool_base.specs.Pool.{OpenedState, kept_of}
use Rattle.vos_pool_base.specs.Tidy.{IfTidy}
use Rattle.vos_pool_settle.specs.Removing.{IsRemoval, goes_with, without_version}
use Rattle.vos_pool_settle.specs.Settling.{OfItsKept}
use Rattle.vos_pool_settle.proofs.Leaving.{all_left, without_is}
use Rattle.vos_pool_settle.proofs.Made.{can_turn, each_counts, kept_is}
use Rattle.vos_pool_settle.proofs.Named.{is_same}
use Rattle.vos_pool_turns.specs.Pool.{CanTurn, HasTurned, IsOneTurn, TurnsKept}
use Rattle.vos_store.specs.declared.refusal.Stopped.{Stopped}
use Rattle.vos_pool_turns.specs.vos_turns.declared.entries.EntryStep.TheVariants as step
use Rattle.vos_pool_turns.specs.vos_turns.Turns.{AreFew, CanBeNamed, IsTurned, after_each, after_one}

-- those of the name go where the version is done
one_gone : (u : Version) (vs : List Version) → after_each Prune (u ∷ []) vs ≡ filter (λ v. not (goes_with u v)) vs
one_gone u vs = by u.done
  where
    by : (b : Bool) → (if b then after_one Prune u vs else vs) ≡ filter (λ v. not (b && (is_same u v && v.done))) vs
    by true = without_is (λ w. is_same u w && w.done) vs
    by false = all_left vs

pub few_one : (u : Version) (ones : List Version) → ones ≡ u ∷ [] → AreFew Prune ones
few_one u ones same = subst (AreFew Prune) (sym same) (record { few = inr (most u.done); most = (let m = most u.done in omega (arith, m)) })
  where
    most : (b : Bool) → length (cond b (u ∷ []) []) ≤ 1
    most true = omega arith
    most false = omega arith

pub named_one : (u : Version) (ones : List Version) → ones ≡ u ∷ [] → CanBeNamed u → All CanBeNamed ones
named_one u ones same named = subst (λ (z : List Version). All CanBeNamed z) (sym same) (All-cons CanBeNamed u [] named (All-nil CanBeNamed))

pub some_is : (d e : Durable) → Some d ≡ Some e → d ≡ e
some_is d e same = cc

module _ {R : Type 0} (extent : R → ℕ) (tells : Bool) (image : R → Image) (may_leave : R → Image → Type 0) (count burns : R → ℕ) (p : OpenedState R) (tidy : IfTidy tells extent image p) where
  pub can_keep : IsTrue tells → p.blocks.undo.stopped ≡ false → (x : Stored) × CanTurn extent image step.Keep p x
  can_keep = can_turn extent tells image may_leave p tidy step.Keep (λ told going. tt)

  module _ (u : Version) (a : AttemptId) where
    gone : (x y : Stored) (q : Places) → IsTrue tells → p.blocks.undo.stopped ≡ false → CanTurn extent image step.Keep p x → IsTurned Prune (u ∷ []) a step.Keep x y → SameRows (places_of p.table) q → AreGone (goes_with u) (places_of p.table) x q y
    gone x y q told going can turned rows = counted_go (goes_with u) (places_of p.table) q x y rows (each_counts extent tells image may_leave p tidy told going x can.stands) turned.entries (turned.versions ∙ one_gone u (versions_in x))

    keeps : TurnsKept tells extent image Prune (u ∷ []) a step.Keep p (without_version u)
    keeps told going x y can turned q rows = (gone x y q told going can turned rows).kept

    removed : (q : OpenedState R) (r : Result (Unit {0}) Stopped) → IsOneTurn tells extent image may_leave count burns Prune (u ∷ []) a step.Keep p q r → IsRemoval tells extent image may_leave count burns u p q r
    removed q r k = record {
      kept = k.kept (without_version u) keeps;
      tidy = after r k.turned k.stops.went_on;
      left = k.left;
      free = k.free;
      size = k.size;
      stops = k.stops;
    }
      where
        after : (r : Result (Unit {0}) Stopped) → OnOk r (IsTrue tells → (x : Stored) → CanTurn extent image step.Keep p x → HasTurned extent image Prune (u ∷ []) a step.Keep x q) → OnOk r (p.blocks.undo.stopped ≡ q.blocks.undo.stopped) → OnOk r (IfTidy tells extent image p → IfTidy tells extent image q)
        after (Ok z) turned went = λ was told running.
            let going : p.blocks.undo.stopped ≡ false = went ∙ running in
            let t = was told going in
            let can : CanTurn extent image step.Keep p t.stored = record { stands = t.stands; nothing = t.unlisted; step = tt } in
            let h = turned told t.stored can in
            let l = gone t.stored h.now (places_of q.table) told going can h.turned k.rows in
            record {
              stored = h.now;
              stands = h.stands;
              layout = k.left.same.layout ∙ t.layout;
              counted = l.count;
              unlisted = h.nothing;
              few = λ b. (let few = t.few b in let wait = l.wait b in omega (arith, few, wait));
            }
        after (Err z) turned went = tt

    pub removes : (ones : List Version) (q : OpenedState R) (r : Result (Unit {0}) Stopped) → ones ≡ u ∷ [] → IsOneTurn tells extent image may_leave count burns Prune ones a step.Keep p q r → IsRemoval tells extent image may_leave count burns u p q r
    removes ones q r same k = removed q r (subst (λ (z : List Version). IsOneTurn tells extent image may_leave count burns Prune z a step.Keep p q r) same k)

  module _ (undo : IsTrue tells → IsUndo (extent p.blocks.undo.region) tells (image p.blocks.undo.region) (may_leave p.blocks.undo.region) p.blocks.undo.staged p.blocks.undo.stopped) where
    -- what is kept has the versions that stand there
    pub kept_stand : (told : IsTrue tells) (going : p.blocks.undo.stopped ≡ false) (d : Durable) → kept_of tells extent image p ≡ Some d → d.versions ≡ in_order version_key (versions_in (tidy told going).stored)
    kept_stand told going d is =
        let t = tidy told going in
        let same = some_is d (kept_so (places_of p.table) t.stored) (sym is ∙ kept_is extent tells image may_leave p tidy undo told going t.stored t.stands) in
        ap (λ (e : Durable). e.versions) same ∙ kept_versions (places_of p.table) t.stored (each_counts extent tells image may_leave p tidy told going t.stored t.stands)

    module _ (u : Version) (q : OpenedState R) where
      gives_one : (r : Result (Unit {0}) Stopped) → OnOk r (IsTrue tells → (x : Stored) → CanTurn extent image step.Keep p x → free_count p.blocks + length (versions_in x) ≤ free_count q.blocks + length (after_each Prune (u ∷ []) (versions_in x)))
          → OnOk r (OfItsKept tells extent image p (λ d. free_count p.blocks + length d.versions ≤ free_count q.blocks + length (without_version u d).versions))
      unfolding with_versions
      gives_one (Ok z) gives = λ told going d is.
          let t = tidy told going in
          let vs = versions_in t.stored in
          let stand = kept_stand told going d is in
          let gave = gives told t.stored (record { stands = t.stands; nothing = t.unlisted; step = tt }) in
          let were = ap length stand in
          let are = ap (λ (z : List Version). length (filter (λ v. not (goes_with u v)) z)) stand in
          let left = ap length (filtered_in_order version_key (λ v. not (goes_with u v)) vs) in
          let gone = ap length (one_gone u vs) in
          omega (arith, gave, were, are, left, gone, length_in_order version_key vs, length_in_order version_key (filter (λ v. not (goes_with u v)) vs))
      gives_one (Err z) gives = tt

      pub gives : (a : AttemptId) (ones : List Version) (r : Result (Unit {0}) Stopped) → ones ≡ u ∷ [] → IsOneTurn tells extent image may_leave count burns Prune ones a step.Keep p q r
          → OnOk r (OfItsKept tells extent image p (λ d. free_count p.blocks + length d.versions ≤ free_count q.blocks + length (without_version u d).versions))
      gives a ones r same k = gives_one r (subst (λ (z : List Version). IsOneTurn tells extent image may_leave count burns Prune z a step.Keep p q r) same k).gives
