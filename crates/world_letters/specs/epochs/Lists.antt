-- What holds of lists of letters, lines and issued epochs.
use Rattle.std.specs.Prelude.{ℕ, ◌≡◌, ◌≢◌, ◌<◌, ◌++◌, ◌⊎◌, Bool, true, false, List, [], ◌∷◌, filter, find, Contains, All, slice_get, Option, Some, None, refl, if◌then◌else◌, max, ◌≤◌}
use Rattle.std.proofs.Common.{sym, ◌∙◌, ap, subst, inl, inr, ⊎_elim, arith, append_assoc}
use Rattle.std.proofs.Math.ListN.{set}
use Rattle.std.proofs.lemmas.Bool.Decides.{eqb_tells}
use Rattle.std.proofs.lemmas.List.Elements.{All-contains_itself, All-weaker, Contains-append_cases, Contains-append_left, Contains-append_right, Contains-push, Contains-push_cases, filter-append}
use Rattle.base_types.specs.declared.epoch.Epoch.{Epoch}
use Rattle.base_types.specs.declared.id.AttemptId.{AttemptId}
use Rattle.base_types.specs.declared.report.Attempt.{Attempt}
use Rattle.base_types.specs.declared.report.Line.{Line}
use Rattle.base_types.specs.declared.report.Line.TheVariants as line
use Rattle.world_base.specs.model_laws.EntryLaws.{same-attempt}
use Rattle.daos_model.specs.Attempts.{EachTry, tries, epoch_or_none, has_own_epoch, own_epochs}
use Rattle.daos_model.specs.Durables.{same_attempt}
use Rattle.daos_model.specs.EntryLaws.{same_attempt-itself}
use Rattle.daos_model.specs.Laws.{tries-append}
use Rattle.world_base.specs.Events.{epoch_issued, epoch_of_issue, is_issue_of}
use Rattle.world_base.specs.StepLaws.{set-here, set-there}
use Rattle.world_base.specs.ClientTurns.{greatest}
use Rattle.world_letters.specs.talks.HearLaws.{greatest-above}
use Rattle.daos_model.specs.Order.{AreIssued}
use Rattle.std.specs.List.{IsDistinct}
use Rattle.base_types.specs.declared.script.Script.{Script}

-- one value, where there is one
pub one-value : {T : Type 0} (o : Option T) (x y : T) → o ≡ Some x → o ≡ Some y → x ≡ y
one-value o x y h k = cc

-- ---- one among others

pub same-number : (m n : ℕ) → (m ≡ n) ⊎ ((m ≡ n) → ⊥)
same-number m n = ⊎_elim (λ k. inl k.1) (λ k. inr (λ same. let off : m ≢ n = k.1 in omega (arith, off, same))) (eqb_tells m n)

-- what is so of one that changed, and of each other, is so of all
pub at-set : {T : Type 0} (xs : List T) (n : ℕ) (c d : T) (P : ℕ → T → Type 0) → slice_get xs n ≡ Some c → P n d → ((m : ℕ) (z : T) → ((m ≡ n) → ⊥) → slice_get xs m ≡ Some z → P m z)
    → (m : ℕ) (z : T) → slice_get (set xs n d) m ≡ Some z → P m z
at-set xs n c d P here own others m z at = by (same-number m n)
  where
    by : (m ≡ n) ⊎ ((m ≡ n) → ⊥) → P m z
    by (inl same) =
        let now : slice_get (set xs n d) m ≡ Some d = subst (λ k. slice_get (set xs n d) k ≡ Some d) (sym same) (set-here xs n c d here) in
        let is : d ≡ z = one-value (slice_get (set xs n d) m) d z now at in
        subst (λ k. P k z) (sym same) (subst (λ y. P n y) is own)
    by (inr off) = others m z off (sym (set-there xs n m d off) ∙ at)

-- ---- what a list has

pub contains-none : {T : Type 0} (x : T) → Contains [] x → ⊥
contains-none x h = let low : h.0 < 0 = h.1 in omega (arith, low)

pub contains-one : {T : Type 0} (y x : T) → Contains (y ∷ []) x → y ≡ x
contains-one y x h = ⊎_elim (λ k. absurd (contains-none x k)) (λ e. e) (Contains-push_cases [] y x h)

pub contains-cons : {T : Type 0} (y : T) (ys : List T) (x : T) → Contains (y ∷ ys) x → (y ≡ x) ⊎ Contains ys x
contains-cons y ys x h = ⊎_elim (λ k. inl (contains-one y x k)) (λ k. inr k) (Contains-append_cases (y ∷ []) ys x h)

-- what holds of each element
pub all-each : {T : Type 0} (P : T → Type 0) (xs : List T) → ((x : T) → Contains xs x → P x) → All P xs
all-each P xs f = All-weaker (Contains xs) P f xs (All-contains_itself xs)

pub contains-filter : {T : Type 0} (p : T → Bool) (xs : List T) (x : T) → Contains (filter p xs) x → Contains xs x × (p x ≡ true)
contains-filter p [] x h = absurd (contains-none x h)
contains-filter p (y ∷ ys) x h = by (λ k. contains-filter p ys x k) (p y) refl h
  where
    later : (Contains (filter p ys) x → Contains ys x × (p x ≡ true)) → Contains (filter p ys) x → Contains (y ∷ ys) x × (p x ≡ true)
    later ih k = let l : Contains ys x × (p x ≡ true) = ih k in (Contains-append_right (y ∷ []) ys x l.0, l.1)

    by : (Contains (filter p ys) x → Contains ys x × (p x ≡ true)) → (b : Bool) → p y ≡ b → Contains (if b then y ∷ filter p ys else filter p ys) x → Contains (y ∷ ys) x × (p x ≡ true)
    by ih true e k = ⊎_elim (λ same. (Contains-append_left (y ∷ []) ys x (subst (λ z. Contains (y ∷ []) z) same (Contains-push [] y)), subst (λ z. p z ≡ true) same e)) (later ih) (contains-cons y (filter p ys) x k)
    by ih false e k = later ih k

-- ---- what a filter leaves

-- where nothing passes, no element does
pub nothing-passes : {T : Type 0} (p : T → Bool) (xs : List T) (x : T) → filter p xs ≡ [] → Contains xs x → p x ≡ true → ⊥
nothing-passes p [] x e h t = contains-none x h
nothing-passes p (y ∷ ys) x e h t = by (λ none k. nothing-passes p ys x none k t) (p y) refl e
  where
    by : (filter p ys ≡ [] → Contains ys x → ⊥) → (b : Bool) → p y ≡ b → (if b then y ∷ filter p ys else filter p ys) ≡ [] → ⊥
    by ih true q k = cc
    by ih false q k = ⊎_elim (λ same. let no : p x ≡ false = subst (λ z. p z ≡ false) same q in cc) (λ later. ih k later) (contains-cons y ys x h)

both-empty : {T : Type 0} (xs : List T) (y : T) (ys : List T) (z : T) → xs ++ y ∷ ys ≡ z ∷ [] → xs ++ ys ≡ []
both-empty [] y ys z e = cc
both-empty (x ∷ []) y ys z e = let k : y ∷ ys ≡ [] = cc in let no : ⊥ = cc in absurd no
both-empty (x ∷ w ∷ xs) y ys z e = let k : w ∷ (xs ++ y ∷ ys) ≡ [] = cc in let no : ⊥ = cc in absurd no

-- the one element that passes is taken out
pub taken-alone : {T : Type 0} (p : T → Bool) (before after : List T) (x z : T) → filter p (before ++ x ∷ after) ≡ z ∷ [] → p x ≡ true → filter p (before ++ after) ≡ []
taken-alone p before after x z e t = filter-append p before after ∙ both-empty (filter p before) x (filter p after) z (sym split ∙ e)
  where
    first : filter p (x ∷ after) ≡ x ∷ filter p after
    first = ap (λ b. if b then x ∷ filter p after else filter p after) t

    split : filter p (before ++ x ∷ after) ≡ filter p before ++ x ∷ filter p after
    split = filter-append p before (x ∷ after) ∙ ap (λ zs. filter p before ++ zs) first

-- ---- attempts

-- the epoch that was issued to an attempt is found where there is one
pub epoch-found : (issued : List (AttemptId × Epoch)) (x : AttemptId)
    → ((epoch_issued issued x ≡ None) × ((e : Epoch) → Contains issued (x, e) → ⊥)) ⊎ ((f : Epoch) × (epoch_issued issued x ≡ Some f) × Contains issued (x, f))
epoch-found [] x = inl (refl, λ e h. contains-none (x, e) h)
epoch-found (i ∷ is) x = by (same_attempt i.0 x) refl (epoch-found is x)
  where
    by : (b : Bool) → same_attempt i.0 x ≡ b
        → ((epoch_issued is x ≡ None) × ((e : Epoch) → Contains is (x, e) → ⊥)) ⊎ ((f : Epoch) × (epoch_issued is x ≡ Some f) × Contains is (x, f))
        → ((epoch_of_issue (if b then Some i else find (is_issue_of x) is) ≡ None) × ((e : Epoch) → Contains (i ∷ is) (x, e) → ⊥)) ⊎ ((f : Epoch) × (epoch_of_issue (if b then Some i else find (is_issue_of x) is) ≡ Some f) × Contains (i ∷ is) (x, f))
    by true e k = inr (i.1, refl, subst (λ y. Contains (i ∷ is) (y, i.1)) (same-attempt i.0 x e) (Contains-append_left (i ∷ []) is i (Contains-push [] i)))
    by false e (inl k) = inl (k.0, λ f h. ⊎_elim (λ same. let own : i.0 ≡ x = ap (λ j. j.0) same in let yes : same_attempt i.0 x ≡ true = subst (λ y. same_attempt i.0 y ≡ true) own (same_attempt-itself i.0) in let no : ⊥ = cc in no) (λ later. k.1 f later) (contains-cons i is (x, f) h))
    by false e (inr k) = inr (k.0, k.1, Contains-append_right (i ∷ []) is (x, k.0) k.2)

-- ---- one line more

pub tries-push : (lines : List Line) (a : Attempt) → tries (lines ++ line.Try a ∷ []) ≡ tries lines ++ a ∷ []
unfolding tries
tries-push lines a = tries-append lines (line.Try a ∷ [])

-- where the element pushed stands
push-split : {T : Type 0} (xs before after : List T) (x y : T) → xs ++ x ∷ [] ≡ before ++ y ∷ after → ((before ≡ xs) × (x ≡ y)) ⊎ ((rest : List T) × (xs ≡ before ++ y ∷ rest))
push-split [] [] after x y e = inl (refl, cc)
push-split [] (b ∷ []) after x y e = let k : [] ≡ y ∷ after = cc in let no : ⊥ = cc in absurd no
push-split [] (b ∷ c ∷ bs) after x y e = let k : [] ≡ c ∷ (bs ++ y ∷ after) = cc in let no : ⊥ = cc in absurd no
push-split (z ∷ zs) [] after x y e = let k : z ≡ y = cc in inr (zs, ap (λ v. v ∷ zs) k)
push-split {T = T} (z ∷ zs) (b ∷ bs) after x y e = by (push-split zs bs after x y (cc))
  where
    first : z ≡ b
    first = cc

    by : ((bs ≡ zs) × (x ≡ y)) ⊎ ((rest : List T) × (zs ≡ bs ++ y ∷ rest)) → ((b ∷ bs ≡ z ∷ zs) × (x ≡ y)) ⊎ ((rest : List T) × (z ∷ zs ≡ b ∷ (bs ++ y ∷ rest)))
    by (inl k) = let same : bs ≡ zs = k.0 in inl (cc, k.1)
    by (inr k) = let same : zs ≡ bs ++ y ∷ k.0 = k.1 in inr (k.0, cc)

-- what each attempt has, it has with one more line
pub each-push : (P : List Line → Attempt → Type 0) (lines : List Line) (a : Attempt) → EachTry P lines → P lines a → EachTry P (lines ++ line.Try a ∷ [])
each-push P lines a each p before b after e = by (push-split lines before after (line.Try a) (line.Try b) e)
  where
    by : ((before ≡ lines) × (line.Try a ≡ line.Try b)) ⊎ ((rest : List Line) × (lines ≡ before ++ line.Try b ∷ rest)) → P before b
    by (inl k) = let same : line.Try a ≡ line.Try b = k.1 in let own : a ≡ b = cc in subst (λ ls. P ls b) (sym k.0) (subst (λ c. P lines c) own p)
    by (inr k) = each before b k.0 k.1

pub greatest-has : (t : ℕ) (es : List ℕ) (e : ℕ) → Contains es e → e ≤ greatest t es
unfolding greatest
greatest-has t [] e h = absurd (contains-none e h)
greatest-has t (f ∷ es) e h = by (greatest-above (max t f) es) (λ k. greatest-has (max t f) es e k) (contains-cons f es e h)
  where
    by : max t f ≤ greatest (max t f) es → (Contains es e → e ≤ greatest (max t f) es) → (f ≡ e) ⊎ Contains es e → e ≤ greatest (max t f) es
    by up ih (inl same) = omega (arith, up, same)
    by up ih (inr k) = ih k

-- those of attempts, and of attempts after them
pub own_epochs-append : (s : Script) (before after : List Attempt) → own_epochs s (before ++ after) ≡ own_epochs s before ++ own_epochs s after
unfolding own_epochs
own_epochs-append s [] after = refl
own_epochs-append s (a ∷ before) after =
    ap (λ es. (if has_own_epoch s a then epoch_or_none a.epoch else []) ++ es) (own_epochs-append s before after)
    ∙ sym (append_assoc (if has_own_epoch s a then epoch_or_none a.epoch else []) (own_epochs s before) (own_epochs s after))

pub none-issued : (s : Script) (top : ℕ) (lines : List Line) → lines ≡ [] → AreIssued s top lines
unfolding own_epochs IsDistinct tries
none-issued s top lines none = subst (λ ls. AreIssued s top ls) (sym none) (record { distinct = tt; above = λ k d low. absurd (omega (arith, low)) })
