-- Attempts that are the same but for their epochs are told alike.
use Rattle.std.specs.Prelude.{ℕ, ◌≡◌, ◌+◌, ◌++◌, ◌==◌, Bool, true, false, List, [], ◌∷◌, map, filter, Option, Some, None, refl, if◌then◌else◌}
use Rattle.std.proofs.Common.{append-nil, sym, ◌∙◌, ap, subst, inl, inr}
use Rattle.std.proofs.lemmas.List.Elements.{filter-append}
use Rattle.base_types.specs.declared.epoch.Epoch.{Epoch}
use Rattle.base_types.specs.declared.id.AttemptId.{AttemptId}
use Rattle.base_types.specs.declared.report.Attempt.{Attempt}
use Rattle.base_types.specs.declared.report.Line.{Line}
use Rattle.base_types.specs.declared.report.Line.TheVariants as line
use Rattle.base_types.specs.declared.script.Command.{Command}
use Rattle.world_base.specs.model_laws.Members.{Has, has-cases}
use Rattle.world_base.specs.model_laws.TargetLaws.{number_same, same_number}
use Rattle.daos_model.specs.Attempts.{is_of_client, tried, tries, tries_of}
use Rattle.daos_model.specs.Laws.{tries-append}
use Rattle.daos_model.specs.Order.{AreAttempts, AreInTurn}
use Rattle.std.proofs.lemmas.List.{map-append}
use Rattle.world_base.specs.declared.client.ClientPlan.{ClientPlan}
use Rattle.world_letters.specs.clients.Standing.{AreOfPresent, AreTriedAgain, Stands}
use Rattle.world_base.specs.Events.{with_epoch}
use Rattle.world_letters.specs.lines.Lines.{AreTheSame, filled}

-- ---- lists of the same

pub same-append : (xs ys us vs : List Attempt) → AreTheSame xs ys → AreTheSame us vs → AreTheSame (xs ++ us) (ys ++ vs)
same-append [] [] us vs k h = h
same-append [] (y ∷ ys) us vs k h = absurd k
same-append (x ∷ xs) [] us vs k h = absurd k
same-append (x ∷ xs) (y ∷ ys) us vs k h = (k.0, same-append xs ys us vs k.1 h)

pub same-filled : (issued : List (AttemptId × Epoch)) (xs : List Attempt) → AreTheSame xs (map (filled issued) xs)
same-filled issued [] = tt
same-filled issued (x ∷ xs) = (record { id = refl; conds = refl; gots = refl; outcome = refl }, same-filled issued xs)

-- ---- lines with epochs filled in

one-filled : (issued : List (AttemptId × Epoch)) (l : Line) → tried (with_epoch issued l) ≡ map (filled issued) (tried l)
one-filled issued (line.Try a) = refl
one-filled issued (line.Stop n t) = refl
one-filled issued (line.Restart n t incarnation floor) = refl
one-filled issued (line.Freeze t cont e) = refl
one-filled issued (line.Snapshot name cont e) = refl
one-filled issued (line.Aggregate n t cont upto) = refl
one-filled issued (line.Down t) = refl

pub tries-filled : (issued : List (AttemptId × Epoch)) (ls : List Line) → tries (map (with_epoch issued) ls) ≡ map (filled issued) (tries ls)
unfolding tries
tries-filled issued [] = refl
tries-filled issued (l ∷ ls) =
    ap (λ ts. ts ++ tries (map (with_epoch issued) ls)) (one-filled issued l) ∙ ap (λ ts. map (filled issued) (tried l) ++ ts) (tries-filled issued ls) ∙ sym (map-append (filled issued) (tried l) (tries ls))

-- ---- whose attempts they are

abbrev pub AreOf : ℕ → List Attempt → Type 0
AreOf n xs = (a : Attempt) → Has a xs → a.id.client ≡ n

attempts-of : (limit client command n : ℕ) (xs : List Attempt) → AreAttempts limit client command n xs → AreOf client xs
attempts-of limit client command n [] k a i = absurd k
attempts-of limit client command n (x ∷ []) k a (inl e) = ap (λ z. z.id.client) e ∙ ap (λ z. z.client) k.0
attempts-of limit client command n (x ∷ []) k a (inr i) = absurd i
attempts-of limit client command n (x ∷ y ∷ xs) k a (inl e) = ap (λ z. z.id.client) e ∙ ap (λ z. z.client) k.0
attempts-of limit client command n (x ∷ y ∷ xs) k a (inr i) = attempts-of limit client command (n + 1) (y ∷ xs) k.3 a i

in-turn-of : (limit client n : ℕ) (cs : List Command) (xs : List Attempt) → AreInTurn limit client n cs xs → AreOf client xs
in-turn-of limit client n [] xs k a i = absurd (subst (λ ys. Has a ys) k i)
in-turn-of limit client n (c ∷ cs) xs k a i = elim (has-cases k.0 k.1 a (subst (λ ys. Has a ys) k.2 i)) [
  | inl j ↦ attempts-of limit client n 0 k.0 k.3 a j
  | inr j ↦ in-turn-of limit client (n + 1) cs k.1 k.4 a j
]

again-of : (client command n m : ℕ) (xs : List Attempt) → AreTriedAgain client command n m xs → AreOf client xs
again-of client command n m [] k a i = absurd i
again-of client command n m (x ∷ xs) k a (inl e) = ap (λ z. z.id.client) e ∙ ap (λ z. z.client) k.0
again-of client command n m (x ∷ xs) k a (inr i) = again-of client command (n + 1) m xs k.2 a i

begun-of : (p : ClientPlan) (place command : ℕ) (xs : List Attempt) (present : Option ℕ) → AreOfPresent p place command xs present → AreOf p.number xs
begun-of p place command xs None k a i = absurd (subst (λ ys. Has a ys) k i)
begun-of p place command xs (Some n) k a i = again-of p.number command 0 n xs k.0 a i

-- a client tells of attempts of its own
pub stands-of : (p : ClientPlan) (place command : ℕ) (present : Option ℕ) (xs : List Attempt) → Stands p place command present xs → AreOf p.number xs
stands-of p place command present xs k a i = elim (has-cases k.over k.begun a (subst (λ ys. Has a ys) k.all i)) [
  | inl j ↦ in-turn-of p.attempts p.number 0 _ k.over k.in_turn a j
  | inr j ↦ begun-of p place command k.begun present k.at_present a j
]

filter-own : (issued : List (AttemptId × Epoch)) (n : ℕ) (xs : List Attempt) → AreOf n xs → filter (is_of_client n) (map (filled issued) xs) ≡ map (filled issued) xs
filter-own issued n [] k = refl
filter-own issued n (x ∷ xs) k = by (x.id.client == n) (ap (λ m. m == n) (k x (inl refl)) ∙ same_number n) (filter-own issued n xs (λ a i. k a (inr i)))
  where
    by : (b : Bool) → b ≡ true → filter (is_of_client n) (map (filled issued) xs) ≡ map (filled issued) xs
        → (if b then filled issued x ∷ filter (is_of_client n) (map (filled issued) xs) else filter (is_of_client n) (map (filled issued) xs)) ≡ filled issued x ∷ map (filled issued) xs
    by true e rest = ap (λ zs. filled issued x ∷ zs) rest
    by false e rest = let no : ⊥ = cc in absurd no

filter-others : (issued : List (AttemptId × Epoch)) (n m : ℕ) (xs : List Attempt) → ((n ≡ m) → ⊥) → AreOf n xs → filter (is_of_client m) (map (filled issued) xs) ≡ []
filter-others issued n m [] apart k = refl
filter-others issued n m (x ∷ xs) apart k = by (x.id.client == m) refl (filter-others issued n m xs apart (λ a i. k a (inr i)))
  where
    by : (b : Bool) → (x.id.client == m) ≡ b → filter (is_of_client m) (map (filled issued) xs) ≡ []
        → (if b then filled issued x ∷ filter (is_of_client m) (map (filled issued) xs) else filter (is_of_client m) (map (filled issued) xs)) ≡ []
    by true e rest = absurd (apart (sym (k x (inl refl)) ∙ number_same x.id.client m e))
    by false e rest = rest

tries_of-append : (n : ℕ) (ls more : List Line) → tries_of n (ls ++ more) ≡ tries_of n ls ++ tries_of n more
tries_of-append n ls more = ap (filter (is_of_client n)) (tries-append ls more) ∙ filter-append (is_of_client n) (tries ls) (tries more)

-- the lines that a client adds are its own, and are none of another's
pub own-more : (issued : List (AttemptId × Epoch)) (n : ℕ) (ls more : List Line) → AreOf n (tries more) → tries_of n (ls ++ map (with_epoch issued) more) ≡ tries_of n ls ++ map (filled issued) (tries more)
own-more issued n ls more own =
    tries_of-append n ls (map (with_epoch issued) more) ∙ ap (λ ts. tries_of n ls ++ filter (is_of_client n) ts) (tries-filled issued more) ∙ ap (λ ts. tries_of n ls ++ ts) (filter-own issued n (tries more) own)

pub others-same : (issued : List (AttemptId × Epoch)) (n m : ℕ) (ls more : List Line) → ((n ≡ m) → ⊥) → AreOf n (tries more) → tries_of m (ls ++ map (with_epoch issued) more) ≡ tries_of m ls
others-same issued n m ls more apart own =
    tries_of-append m ls (map (with_epoch issued) more) ∙ ap (λ ts. tries_of m ls ++ filter (is_of_client m) ts) (tries-filled issued more)
    ∙ ap (λ ts. tries_of m ls ++ ts) (filter-others issued n m (tries more) apart own) ∙ append-nil (tries_of m ls)
