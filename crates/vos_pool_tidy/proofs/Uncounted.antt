-- Versions that don't count go one after another.
use Rattle.std.proofs.Common.{◌≡◌, ℕ, ◌==◌, ◌&&◌, ◌||◌, Bool, true, false, not, cond, List, [], ◌∷◌, refl, sym, ap, ◌∙◌, arith}
use Rattle.std.specs.Prelude.{All, filter, if◌then◌else◌}
use Rattle.std.specs.List.{list_any}
use Rattle.std.proofs.lemmas.Bool.Decides.{nat_tests}
use Rattle.std.proofs.lemmas.List.Elements.{All-cons, All-nil}
use Rattle.base_types.specs.declared.entry.Entry.{Entry}
use Rattle.base_types.specs.declared.id.AttemptId.{AttemptId}
use Rattle.base_types.specs.Operations.{write_path}
use Rattle.daos_model.specs.BoolLaws.{and_left, and_right, clash, not_true, or_left, or_right}
use Rattle.daos_model.specs.declared.durable.Version.{Version}
use Rattle.daos_model.specs.Durables.{same_attempt}
use Rattle.daos_model.specs.EntryLaws.{same_attempt-itself}
use Rattle.vos_counting.proofs.Counts.{same_is}
use Rattle.vos_keeping.proofs.Lists.{on_all, same_filter}
use Rattle.vos_levels.specs.declared.change.Change.TheVariants.{Abort}
use Rattle.vos_levels.specs.Changes as changes
use Rattle.vos_pool_settle.proofs.Leaving.{filter_both, without_is}
use Rattle.vos_pool_settle.proofs.Named.{is_same, own_name}
use Rattle.vos_pool_turns.specs.vos_settle.Names.{kind_of}
use Rattle.vos_pool_turns.specs.vos_settle.Versions.{is_write}
use Rattle.vos_pool_turns.specs.vos_turns.Turns.{after_each, after_one}
use Rattle.vos_pool_turns.specs.vos_turns.vos_image.Kept.{counts, is_prepared_for}

-- with an unsettled version those go that have its name and its attempt, and aren't settled
abbrev pub goes : Version → Version → Bool
goes u v = is_same u v && (changes.same_attempt v.by u.by && not v.done)

own_attempt : (a : AttemptId) → changes.same_attempt a a ≡ true
unfolding same_attempt
own_attempt a = same_attempt-itself a

pub one_gone : (u : Version) → u.done ≡ false → (vs : List Version) → after_each (Abort u.by) (u ∷ []) vs ≡ filter (λ v. not (goes u v)) vs
one_gone u waits vs =
    ap (λ (t : Bool). if t && not u.done then after_one (Abort u.by) u vs else vs) (own_attempt u.by)
    ∙ (ap (λ (d : Bool). if not d then after_one (Abort u.by) u vs else vs) waits ∙ without_is (goes u) vs)

-- ---- none of them counts

pub not_done : (es : List Entry) (v : Version) → counts es v ≡ false → v.done ≡ false
unfolding counts
not_done es v out = or_left v.done (list_any (is_prepared_for v) es) out

abbrev prepared_at : AttemptId → ℕ → Entry → Bool
prepared_at a n e = same_attempt e.attempt a && ((e.epoch.0 == n) && not e.committed)

same_epoch : (u v : Version) → is_same u v ≡ true → v.epoch.0 ≡ u.epoch.0
same_epoch u v same =
    let moment = and_right (is_write (write_path u.write) (kind_of u.write) v.write) ((v.epoch.0 == u.epoch.0) && (v.minor == u.minor)) same in
    let epoch = and_left (v.epoch.0 == u.epoch.0) (v.minor == u.minor) moment in
    grind (arith, nat_tests)

pub none_counts : (es : List Entry) (u v : Version) → counts es u ≡ false → goes u v ≡ true → counts es v ≡ false
unfolding counts same_attempt
none_counts es u v out with_it =
    let rest = and_right (is_same u v) (changes.same_attempt v.by u.by && not v.done) with_it in
    let epoch = same_epoch u v (and_left (is_same u v) (changes.same_attempt v.by u.by && not v.done) with_it) in
    let by = same_is v.by u.by (and_left (changes.same_attempt v.by u.by) (not v.done) rest) in
    let waits = not_true v.done (and_right (changes.same_attempt v.by u.by) (not v.done) rest) in
    let prepared : list_any (prepared_at v.by v.epoch.0) es ≡ list_any (prepared_at u.by u.epoch.0) es = ap (λ (a : AttemptId). list_any (prepared_at a v.epoch.0) es) by ∙ ap (λ (n : ℕ). list_any (prepared_at u.by n) es) epoch in
    ap (λ (d : Bool). d || list_any (prepared_at v.by v.epoch.0) es) waits ∙ (prepared ∙ or_right u.done (list_any (is_prepared_for u) es) out)

-- ---- one after another

-- a version goes with one of some that don't count
abbrev pub goes_any : (Version → Bool) → List Version → Version → Bool
goes_any test us v = list_any (λ u. not (test u) && goes u v) us

abbrev pub staying : (Version → Bool) → List Version → List Version → List Version
staying test us vs = filter (λ v. not (goes_any test us v)) vs

pub alike : (s t : Version → Bool) → ((v : Version) → s v ≡ t v) → (vs : List Version) → filter s vs ≡ filter t vs
alike s t same [] = refl
alike s t same (v ∷ vs) = ap (λ (b : Bool). cond b (v ∷ filter s vs) (filter s vs)) (same v) ∙ ap (λ (z : List Version). cond (t v) (v ∷ z) z) (alike s t same vs)

-- with one that counts none goes
pub passed : (test : Version → Bool) (u : Version) (us vs : List Version) → test u ≡ true → staying test (u ∷ us) vs ≡ staying test us vs
passed test u us vs well = alike (λ v. not (goes_any test (u ∷ us) v)) (λ v. not (goes_any test us v)) (λ v. ap (λ (b : Bool). not ((not b && goes u v) || goes_any test us v)) well) vs

-- with one that doesn't, those of its name
pub went : (test : Version → Bool) (u : Version) (us vs : List Version) → test u ≡ false → staying test (u ∷ us) vs ≡ staying test us (filter (λ v. not (goes u v)) vs)
went test u us vs out = sym (filter_both (goes u) (goes_any test us) (goes_any test (u ∷ us)) vs (λ v. sym (ap (λ (b : Bool). (not b && goes u v) || goes_any test us v) out)))

-- ---- all of them

module _ (es : List Entry) (test : Version → Bool) (told : (v : Version) → test v ≡ counts es v) where
  -- one that counts goes with none
  none_takes : (us : List Version) (v : Version) → test v ≡ true → goes_any test us v ≡ false
  none_takes [] v well = refl
  none_takes (u ∷ us) v well = by (test u) refl (goes u v) refl (none_takes us v well)
    where
      by : (s : Bool) → test u ≡ s → (t : Bool) → goes u v ≡ t → goes_any test us v ≡ false → ((not s && t) || goes_any test us v) ≡ false
      by true is t go rest = rest
      by false is false go rest = rest
      by false is true go rest = absurd (clash (test v) well (told v ∙ none_counts es u v (sym (told u) ∙ is) go))

  -- one that doesn't goes with itself
  more_take : (u : Version) (us vs : List Version) → All (λ v. test v ≡ false → goes_any test us v ≡ true) vs → All (λ v. test v ≡ false → goes_any test (u ∷ us) v ≡ true) vs
  more_take u us vs all = on_all (λ v. test v ≡ false → goes_any test us v ≡ true) (λ v. test v ≡ false → goes_any test (u ∷ us) v ≡ true) (λ v h out. elim (not (test u) && goes u v) as (λ b. (b || goes_any test us v) ≡ true) [ true ↦ refl | false ↦ h out ]) vs all

  its_own : (v : Version) → test v ≡ false → (not (test v) && goes v v) ≡ true
  its_own v out =
      let waits = not_done es v (sym (told v) ∙ out) in
      ap (λ (b : Bool). not b && goes v v) out
      ∙ (ap (λ (b : Bool). b && (changes.same_attempt v.by v.by && not v.done)) (own_name v) ∙ (ap (λ (b : Bool). b && not v.done) (own_attempt v.by) ∙ ap not waits))

  each_goes : (vs : List Version) → All (λ v. test v ≡ false → goes_any test vs v ≡ true) vs
  each_goes [] = All-nil (λ v. test v ≡ false → goes_any test [] v ≡ true)
  each_goes (v ∷ vs) = All-cons (λ w. test w ≡ false → goes_any test (v ∷ vs) w ≡ true) v vs (λ out. ap (λ (b : Bool). b || goes_any test vs v) (its_own v out)) (more_take v vs vs (each_goes vs))

  -- where each of them goes that doesn't count, those stay that count
  pub all_went : (vs : List Version) → staying test vs vs ≡ filter (counts es) vs
  all_went vs =
      same_filter (λ v. not (goes_any test vs v)) (counts es) vs (on_all (λ v. test v ≡ false → goes_any test vs v ≡ true) (λ v. not (goes_any test vs v) ≡ counts es v) (λ v h. by v (test v) refl h) vs (each_goes vs))
    where
      by : (v : Version) (b : Bool) → test v ≡ b → (test v ≡ false → goes_any test vs v ≡ true) → not (goes_any test vs v) ≡ counts es v
      by v true well h = ap not (none_takes vs v well) ∙ (sym well ∙ told v)
      by v false out h = ap not (h out) ∙ (sym out ∙ told v)
