-- Idle work, attempt by attempt.
use Rattle.std.proofs.Common.{◌≡◌, ◌<◌, refl, sym, ◌∙◌, ap, subst, Bool, true, false, not, List, [], ◌∷◌, length, get_or, Option, Result, Ok, Err, arith}
use Rattle.std.specs.Prelude.{◌==◌, IfErr, IfOk, OnOk, if◌then◌else◌}
use Rattle.std.specs.Option.{ForSome}
use Rattle.std.proofs.lemmas.Bool.Decides.{nat_tests}
use Rattle.base_types.specs.declared.entry.Settle.TheVariants.{Commit}
use Rattle.base_types.specs.declared.id.AttemptId.{AttemptId}
use Rattle.model_laws.specs.Lists.{filter-all}
use Rattle.model_laws.specs.Members.{Has}
use Rattle.model_laws.specs.RisingLaws.{after-has}
use Rattle.daos_model.specs.declared.durable.Durable.{Durable}
use Rattle.daos_model.specs.Answers.{is_before}
use Rattle.daos_model.specs.BoolLaws.{and_left, clash, false_of}
use Rattle.daos_model.specs.Durables.{attempt_key, same_attempt}
use Rattle.daos_model.specs.EntryLaws.{same_attempt-itself}
use Rattle.daos_model.specs.FormLaws.{length-filter}
use Rattle.daos_model.specs.Ordered.{all_after, is_rising}
use Rattle.daos_model.specs.OrderLaws.{before-itself}
use Rattle.dtx_base.specs.LeaderLaws.{same-is}
use Rattle.dtx_base.specs.Rows.{is_other_row, itself, without_row}
use Rattle.vos_store.specs.Calls.{State}
use Rattle.world_base.specs.declared.did.Did.{Did as DidOf}
use Rattle.world_base.specs.declared.target.TargetMemory.{TargetMemory}
use Rattle.world_base.specs.declared.target.TargetPlan.{TargetPlan}
use Rattle.world_base.specs.Changes.{Kept, Settles, made}
use Rattle.world_base.specs.Idle.{AllSettled, IdleEnds, IdleNext, SettlesFirst, idle_memory, idle_told}
use Rattle.world_base.specs.Roles.{with_unsettled}
use Rattle.world_base.specs.Turns.{CutShort, Reached, Whole}
use Rattle.target_parts.specs.declared.stop.TargetStop.{TargetStop}
use Rattle.target_parts.specs.Parts.{Did, Now, WasCut, kept}
use Rattle.target_parts.specs.Turning.{cut_in_change, reached_change, whole}
use Rattle.target_parts.specs.Stops.{Turn, never, stop_memory}

-- of attempts in order, those without the first are the rest
without-first : (a : AttemptId) (rest : List AttemptId) → is_rising attempt_key (a ∷ rest) ≡ true → without_row itself a (a ∷ rest) ≡ rest
without-first a rest rising =
    ap (λ (b : Bool). if not b then a ∷ without_row itself a rest else without_row itself a rest) (same_attempt-itself a)
    ∙ filter-all _ rest (λ x i. ap not (other x i))
  where
    other : (x : AttemptId) → Has x rest → same_attempt x a ≡ false
    other x i = false_of (same_attempt x a) (λ same. clash (is_before (attempt_key a) (attempt_key a)) (subst (λ y. is_before (attempt_key a) (attempt_key y) ≡ true) (same-is x a same) (after x i)) (before-itself (attempt_key a)))
      where
        after : (x : AttemptId) → Has x rest → is_before (attempt_key a) (attempt_key x) ≡ true
        after x i = after-has attempt_key (attempt_key a) rest x (and_left (all_after attempt_key (attempt_key a) rest) (is_rising attempt_key rest) rising) i

pub fewer-left : (a : AttemptId) (rest : List AttemptId) → length (without_row itself a (a ∷ rest)) < length (a ∷ rest)
fewer-left a rest =
    subst (λ (b : Bool). length (if not b then a ∷ without_row itself a rest else without_row itself a rest) < length (a ∷ rest)) (sym (same_attempt-itself a))
    (let few = length-filter (is_other_row itself a) rest in omega (arith, few))

module _ (all : List AttemptId) (old : Kept) (a : AttemptId) (rest : List AttemptId) (d : Durable) (h : State) (rising : is_rising attempt_key (a ∷ rest) ≡ true) (reached : Reached IdleNext all old (a ∷ rest) (kept d h)) where
  pub idles-on : (k : State) (new : Option Durable) → Did (Settles a Commit) d h new k → Now new k (λ l. Reached IdleNext all old (without_row itself a (a ∷ rest)) l)
  idles-on k new did = record {
    durable = made (Settles a Commit) d;
    kept_is = did.kept_is;
    holds = subst (λ xs. Reached IdleNext all old xs (kept (made (Settles a Commit) d) k)) (sym (without-first a rest rising))
        (reached_change IdleNext all old (a ∷ rest) (kept d h) (Settles a Commit) rest (kept (made (Settles a Commit) d) k) reached (SettlesFirst (kept d h) a rest) refl did.free);
  }

  pub idles-cut : (finds : Kept → Type 0) → WasCut (Settles a Commit) (kept d h) finds → CutShort IdleNext all old finds
  idles-cut finds cut = cut_in_change IdleNext all old (a ∷ rest) (kept d h) (Settles a Commit) rest finds reached (SettlesFirst (kept d h) a rest) cut

-- ---- the attempts that are left, as the code sees them

abbrev pub none_decided : AttemptId
none_decided = record { client = 0; command = 0; attempt = 0 }

module _ (xs : List AttemptId) (a : AttemptId) (some : (length xs == 0) ≡ false) (first : a ≡ get_or xs 0 none_decided) where
  pub fewer : length (without_row itself a xs) < length xs
  fewer = by xs some first
    where
      by : (xs : List AttemptId) → (length xs == 0) ≡ false → a ≡ get_or xs 0 none_decided → length (without_row itself a xs) < length xs
      by [] some first = let no : ⊥ = cc in absurd no
      by (x ∷ rest) some first = subst (λ y. length (without_row itself y (x ∷ rest)) < length (x ∷ rest)) (sym first) (fewer-left x rest)

  module _ (all : List AttemptId) (old : Kept) (d : Durable) (h k : State) (new : Option Durable) (finds : Kept → Type 0) (rising : is_rising attempt_key xs ≡ true) (reached : Reached IdleNext all old xs (kept d h)) where
    pub idles-more : Did (Settles a Commit) d h new k → Now new k (λ l. Reached IdleNext all old (without_row itself a xs) l)
    idles-more did = by xs some first rising reached
      where
        by : (xs : List AttemptId) → (length xs == 0) ≡ false → a ≡ get_or xs 0 none_decided → is_rising attempt_key xs ≡ true → Reached IdleNext all old xs (kept d h) → Now new k (λ l. Reached IdleNext all old (without_row itself a xs) l)
        by [] some first rising reached = let no : ⊥ = cc in absurd no
        by (x ∷ rest) some first rising reached = subst (λ y. Did (Settles y Commit) d h new k → Now new k (λ l. Reached IdleNext all old (without_row itself y (x ∷ rest)) l)) (sym first) (idles-on all old x rest d h rising reached k new) did

    pub idles-stop : WasCut (Settles a Commit) (kept d h) finds → CutShort IdleNext all old finds
    idles-stop cut = by xs some first rising reached
      where
        by : (xs : List AttemptId) → (length xs == 0) ≡ false → a ≡ get_or xs 0 none_decided → is_rising attempt_key xs ≡ true → Reached IdleNext all old xs (kept d h) → CutShort IdleNext all old finds
        by [] some first rising reached = let no : ⊥ = cc in absurd no
        by (x ∷ rest) some first rising reached = subst (λ y. WasCut (Settles y Commit) (kept d h) finds → CutShort IdleNext all old finds) (sym first) (idles-cut all old x rest d h rising reached finds) cut

pub none-left : (xs : List AttemptId) → (length xs == 0) ≡ true → xs ≡ []
none-left [] empty = refl
none-left (x ∷ xs) empty = let none : length (x ∷ xs) ≡ 0 = grind (arith, nat_tests) in absurd (omega (arith, none))

-- ---- the end

module _ (t : TargetPlan) (m : TargetMemory) (x : Durable) where
  unsettled-memory : (b : Bool) → idle_memory b t (with_unsettled [] m) x ≡ idle_memory b t m x
  unsettled-memory false = refl
  unsettled-memory true = refl

  unsettled-told : (b : Bool) → idle_told b t (with_unsettled [] m) x ≡ idle_told b t m x
  unsettled-told false = refl
  unsettled-told true = refl

-- what is told and asked ends idle work, or memory is wanting for that
pub idles-told : (b : Bool) (t : TargetPlan) (m mid n : TargetMemory) (old : Kept) (k : State) (new : Option Durable) (finds : Durable → Type 0) (r : Result DidOf TargetStop) → mid ≡ with_unsettled [] m
    → Now new k (λ l. Reached IdleNext m.leader.decided old [] l) → ForSome new (λ x. OnOk r (n ≡ idle_memory b t mid x)) → ForSome new (λ x. IfOk r (λ did. did ≡ idle_told b t mid x)) → IfErr r (λ e. e ≡ stop_memory)
    → Turn IdleNext never m.leader.decided old (λ did l. Whole IdleNext (IdleEnds b t m) m.leader.decided old l (n, did)) new k finds r
idles-told b t m mid n old k new finds (Ok did) mid-is now memory told wanting = record {
  durable = now.durable;
  kept_is = now.kept_is;
  holds = whole IdleNext (IdleEnds b t m) m.leader.decided old (kept now.durable k) [] (n, did) now.holds (AllSettled (kept now.durable k) (n, did) left);
}
  where
    left : ◌≡◌ {A = TargetMemory × DidOf} (n, did) (idle_memory b t m now.durable, idle_told b t m now.durable)
    left =
        ap (λ y. (y, did)) (memory now.durable now.kept_is ∙ ap (λ y. idle_memory b t y now.durable) mid-is ∙ unsettled-memory t m now.durable b)
        ∙ ap (λ y. (idle_memory b t m now.durable, y)) (told now.durable now.kept_is ∙ ap (λ y. idle_told b t y now.durable) mid-is ∙ unsettled-told t m now.durable b)
idles-told b t m mid n old k new finds (Err e) mid-is now memory told wanting =
    subst (λ s. Turn IdleNext never m.leader.decided old (λ did l. Whole IdleNext (IdleEnds b t m) m.leader.decided old l (n, did)) new k finds (Err s)) (sym wanting) (record {
      durable = now.durable;
      kept_is = now.kept_is;
      holds = record { last = []; reached = now.holds };
    })
