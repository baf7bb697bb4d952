-- Where each stage of a turn has one step, turns go one way.
use Rattle.std.specs.Prelude.{ℕ, zero, suc, ◌≡◌, ◌<◌, ◌⊎◌, ◌++◌, List, [], ◌∷◌, length, Option, Some, None, refl}
use Rattle.std.proofs.Common.{append-nil, append_assoc, length-append, inl, inr, sym, ◌∙◌, ap, subst, arith}
use Rattle.std.proofs.lemmas.Bool.{cases_order}
use Rattle.daos_model.specs.declared.durable.Durable.{Durable}
use Rattle.world_base.specs.Changes.{Change, Kept, Steps, made}
use Rattle.world_base.specs.PathLaws.{path-keeps}
use Rattle.world_base.specs.Turns.{Here, More, Path, Reached, listed}

-- ---- the definitions

-- a step of one turn and a step of another are one
pub record OneStep {S : Type 0} (o p : Option Change) (u v : S) : Type 0 where
  pub change : o ≡ p
  pub stage : u ≡ v

-- how many steps were made
abbrev pub steps_in : {S : Type 0} {Next : S → Kept → Option Change → S → Type 0} {s : S} {k : Kept} {did : List Change} {t : S} {l : Kept} → Path Next s k did t l → ℕ
steps_in Here = zero
steps_in (More did t l o u m path next steps) = suc (steps_in path)

-- two turns came equally far
pub record OnePlace {S : Type 0} (did did' : List Change) (t t' : S) (l l' : Kept) : Type 0 where
  pub did_same : did ≡ did'
  pub stage_same : t ≡ t'
  pub kept_same : l.durable ≡ l'.durable

module _ {S : Type 0} (Next : S → Kept → Option Change → S → Type 0) (Fits : S → Durable → Type 0) where
  -- a stage that fits what is kept has at most one step, however many blocks are free
  abbrev pub HasOneStep : Type 0
  HasOneStep = (s : S) (k l : Kept) (o p : Option Change) (u v : S) → Fits s k.durable → k.durable ≡ l.durable → Next s k o u → Next s l p v → OneStep o p u v

  -- and what comes after a step fits again
  abbrev pub FitsOn : Type 0
  FitsOn = (s : S) (k : Kept) (o : Option Change) (u : S) (l : Kept) → Next s k o u → Steps o k l → Fits s k.durable → Fits u l.durable

-- ---- one step

abbrev after_step : Option Change → Durable → Durable
after_step None d = d
after_step (Some c) d = made c d

step-makes : (o : Option Change) (k l : Kept) → Steps o k l → l.durable ≡ after_step o k.durable
step-makes None k l same = ap (λ x. x.durable) same
step-makes (Some c) k l steps = steps.0

-- the same change of the same leaves the same, whatever it costs
pub steps-same : (o p : Option Change) (k l m n : Kept) → o ≡ p → k.durable ≡ l.durable → Steps o k m → Steps p l n → m.durable ≡ n.durable
steps-same o p k l m n change same one other = step-makes o k m one ∙ ap (λ x. after_step x k.durable) change ∙ ap (after_step p) same ∙ sym (step-makes p l n other)

-- ---- as many steps

module _ {S : Type 0} (Next : S → Kept → Option Change → S → Type 0) (Fits : S → Durable → Type 0) (one : HasOneStep Next Fits) (on : FitsOn Next Fits) where
  -- two turns from one beginning that made as many steps came equally far
  pub path-same :
      (s : S) (k k' : Kept) (did did' : List Change) (t t' : S) (l l' : Kept)
      → Fits s k.durable → k.durable ≡ k'.durable → (p : Path Next s k did t l) (q : Path Next s k' did' t' l') → steps_in p ≡ steps_in q
      → OnePlace did did' t t' l l'
  path-same s k k' did did' t t' l l' fits same Here Here as_many = record { did_same = refl; stage_same = refl; kept_same = same }
  path-same s k k' did did' t t' l l' fits same Here (More _ _ _ _ _ _ path next steps) as_many = let no : ⊥ = omega arith in absurd no
  path-same s k k' did did' t t' l l' fits same (More _ _ _ _ _ _ path next steps) Here as_many = let no : ⊥ = omega arith in absurd no
  path-same s k k' _ _ _ _ _ _ fits same (More did t l o u m path next steps) (More did' t' l' o' u' m' path' next' steps') as_many =
      let so = path-same s k k' did did' t t' l l' fits same path path' (omega arith) in
      let step : OneStep o o' u u' = one t l l' o o' u u' (path-keeps Next (λ x d. Fits x d.durable) on s k did t l path fits) so.kept_same next (subst (λ x. Next x l' o' u') (sym so.stage_same) next') in
      record {
        did_same = ap (λ x. x ++ listed o) so.did_same ∙ ap (λ x. did' ++ listed x) step.change;
        stage_same = step.stage;
        kept_same = steps-same o o' l l' m m' step.change so.kept_same steps steps';
      }

-- ---- a turn that goes further

-- so many steps of a turn, the next one, and the rest
pub record Split {S : Type 0} (Next : S → Kept → Option Change → S → Type 0) (s : S) (k : Kept) (did : List Change) (t : S) (l : Kept) (n : ℕ) : Type 0 where
  pub before : List Change
  pub mid : S
  pub had : Kept
  pub path : Path Next s k before mid had
  pub so_many : steps_in path ≡ n
  pub change : Option Change
  pub after : S
  pub has : Kept
  pub next : Next mid had change after
  pub steps : Steps change had has
  pub rest : Reached Next after has t l
  pub did_all : did ≡ (before ++ listed change) ++ rest.did

pub split-at : {S : Type 0} (Next : S → Kept → Option Change → S → Type 0) (s : S) (k : Kept) (did : List Change) (t : S) (l : Kept) (n : ℕ) (p : Path Next s k did t l) → n < steps_in p → Split Next s k did t l n
split-at Next s k did t l n Here less = let no : ⊥ = omega arith in absurd no
split-at Next s k _ _ _ n (More did t l o u m path next steps) less = by (split-at Next s k did t l n path) (cases_order n (steps_in path))
  where
    by : (n < steps_in path → Split Next s k did t l n) → (n ≡ steps_in path) ⊎ ((n < steps_in path) ⊎ (steps_in path < n)) → Split Next s k (did ++ listed o) u m n
    by earlier (inl here) = record {
      before = did;
      mid = t;
      had = l;
      path = path;
      so_many = sym here;
      change = o;
      after = u;
      has = m;
      next = next;
      steps = steps;
      rest = record { did = []; path = Here };
      did_all = sym (append-nil (did ++ listed o));
    }
    by earlier (inr (inl less)) =
        let x = earlier less in
        record {
          before = x.before;
          mid = x.mid;
          had = x.had;
          path = x.path;
          so_many = x.so_many;
          change = x.change;
          after = x.after;
          has = x.has;
          next = x.next;
          steps = x.steps;
          rest = record { did = x.rest.did ++ listed o; path = More x.rest.did t l o u m x.rest.path next steps };
          did_all = ap (λ z. z ++ listed o) x.did_all ∙ append_assoc (x.before ++ listed x.change) x.rest.did (listed o);
        }
    by earlier (inr (inr later)) = let no : ⊥ = omega (arith, less, later) in absurd no

-- ---- as many changes

module _ {S : Type 0} (Next : S → Kept → Option Change → S → Type 0) (Fits : S → Durable → Type 0) (one : HasOneStep Next Fits) (on : FitsOn Next Fits) where
  -- where one turn made fewer steps than another, and its next step is a change, it made fewer changes
  fewer-changes :
      (s : S) (k k' : Kept) (did did' : List Change) (t t' : S) (l l' : Kept) (c : Change) (u : S)
      → Fits s k.durable → k.durable ≡ k'.durable → (p : Path Next s k did t l) (q : Path Next s k' did' t' l') → Next t l (Some c) u → steps_in p < steps_in q → length did < length did'
  fewer-changes s k k' did did' t t' l l' c u fits same p q next less =
      let x = split-at Next s k' did' t' l' (steps_in p) q less in
      let so = path-same Next Fits one on s k k' did x.before t x.mid l x.had fits same p x.path (sym x.so_many) in
      let step : OneStep (Some c) x.change u x.after = one t l x.had (Some c) x.change u x.after (path-keeps Next (λ y d. Fits y d.durable) on s k did t l p fits) so.kept_same next (subst (λ y. Next y x.had x.change x.after) (sym so.stage_same) x.next) in
      let all : did' ≡ (did ++ c ∷ []) ++ x.rest.did = x.did_all ∙ ap (λ y. (y ++ listed x.change) ++ x.rest.did) (sym so.did_same) ∙ ap (λ y. (did ++ listed y) ++ x.rest.did) (sym step.change) in
      omega (arith, ap length all, length-append (did ++ c ∷ []) x.rest.did, length-append did (c ∷ []))

  -- two turns of which the next steps are changes made as many steps, if they made as many changes
  pub as_many-steps :
      (s : S) (k k' : Kept) (did did' : List Change) (t t' : S) (l l' : Kept) (c c' : Change) (u u' : S)
      → Fits s k.durable → k.durable ≡ k'.durable → (p : Path Next s k did t l) (q : Path Next s k' did' t' l') → Next t l (Some c) u → Next t' l' (Some c') u' → length did ≡ length did' → steps_in p ≡ steps_in q
  as_many-steps s k k' did did' t t' l l' c c' u u' fits same p q next next' as_many = by (cases_order (steps_in p) (steps_in q))
    where
      by : (steps_in p ≡ steps_in q) ⊎ ((steps_in p < steps_in q) ⊎ (steps_in q < steps_in p)) → steps_in p ≡ steps_in q
      by (inl is) = is
      by (inr (inl less)) = let no : ⊥ = omega (arith, fewer-changes s k k' did did' t t' l l' c u fits same p q next less) in absurd no
      by (inr (inr more)) = let no : ⊥ = omega (arith, fewer-changes s k' k did' did t' t l' l c' u' (subst (Fits s) same fits) (sym same) q p next' more) in absurd no
