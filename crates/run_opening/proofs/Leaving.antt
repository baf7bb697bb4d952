-- What the next openings of stores find, wherever calls of them were cut.
use Rattle.std.specs.Prelude.{ℕ, zero, suc, ◌≡◌, ◌<◌, ◌+◌, ◌⊎◌, ◌==◌, Bool, true, false, nat_lt, List, [], ◌∷◌, length, slice_get, slice_index_or, slice_set, take, Option, Some, Result, Ok, if◌then◌else◌, refl}
use Rattle.std.specs.Option.{option_map}
use Rattle.std.proofs.Common.{sym, ◌∙◌, ap, subst, inl, inr, arith}
use Rattle.std.proofs.lemmas.Bool.{cases_eq, cases_lt}
use Rattle.std.proofs.lemmas.Bool.Decides.{nat_tests}
use Rattle.std.proofs.lemmas.List.{take_all}
use Rattle.base_types.specs.declared.entry.Entry.{Entry}
use Rattle.base_types.specs.declared.entry.Settle.TheVariants.{Forget}
use Rattle.base_types.specs.declared.id.AttemptId.{AttemptId}
use Rattle.base_types.specs.declared.snapshot.Snap.{Snap}
use Rattle.daos_model.specs.declared.durable.Durable.{Durable}
use Rattle.daos_model.specs.Changes.{settled, thawed}
use Rattle.model_laws.specs.TargetLaws.{number_same}
use Rattle.vos_store.specs.Calls.{Makes, State}
use Rattle.run_opening.specs.declared.stop.OpeningStop.{OpeningStop}
use Rattle.run_opening.specs.All.{AllRun, GoesAll, GoesAt, alike}
use Rattle.run_opening.specs.Left.{Leaves, LeavesAll, LeavesAt, first_ended, first_forgotten, first_thawed, nothing, only_parts, or_not}
use Rattle.run_opening.specs.Steps.{all_ended, all_forgotten, all_thawed, ended, ended_at, forgotten, same}
use Rattle.run_opening.proofs.Ending.{at-read, more-ended, more-forgotten}
use Rattle.run_opening.proofs.Thawing.{more-thawed}
use Rattle.run_opening.proofs.Walks.{all-upto, same-at, still-run, there, upto}
use Rattle.target_parts.specs.world_base.StepLaws.{set-here, set-there}

-- ---- parts

take-none : {T : Type 0} (xs : List T) → take 0 xs ≡ []
take-none [] = refl
take-none (x ∷ xs) = refl

pub none-ended : (r : AttemptId → Bool) (d : Durable) → d ≡ first_ended r 0 d
none-ended r d = sym (ap (λ es. all_ended r es d) (take-none d.entries))

pub none-forgotten : (d : Durable) → d ≡ first_forgotten 0 d
none-forgotten d = sym (ap (λ es. all_forgotten es d) (take-none d.entries))

pub none-thawed : (xs : List Snap) (d : Durable) → d ≡ all_thawed (take 0 xs) d
none-thawed xs d = sym (ap (λ ys. all_thawed ys d) (take-none xs))

pub whole-ended : (r : AttemptId → Bool) (d : Durable) → ended r d ≡ first_ended r (length d.entries) d
whole-ended r d = sym (ap (λ es. all_ended r es d) (take_all (length d.entries) d.entries (omega arith)))

pub whole-forgotten : (d : Durable) → forgotten d ≡ first_forgotten (length d.entries) d
whole-forgotten d = sym (ap (λ es. all_forgotten es d) (take_all (length d.entries) d.entries (omega arith)))

pub whole-thawed : (xs : List Snap) (d : Durable) → all_thawed xs d ≡ all_thawed (take (length xs) xs) d
whole-thawed xs d = sym (ap (λ ys. all_thawed ys d) (take_all (length xs) xs (omega arith)))

-- after some first entries the next one is settled or not
pub next-ended : (r : AttemptId → Bool) (es : List Entry) (i : ℕ) (z : Entry) → i < length es → (d : Durable) → es ≡ d.entries → (n : ℕ)
    → (m : ℕ) × (or_not (ended_at r (slice_index_or es i z)) n (all_ended r (take i es) d) ≡ first_ended r m d)
next-ended r es i z lt d own zero = (i, ap (λ xs. all_ended r (take i xs) d) own)
next-ended r es i z lt d own (suc n) = (i + 1, more-ended r es i z lt d ∙ ap (λ xs. all_ended r (take (i + 1) xs) d) own)

pub next-forgotten : (es : List Entry) (i : ℕ) (z : Entry) → i < length es → (d : Durable) → es ≡ d.entries → (n : ℕ)
    → (m : ℕ) × (or_not (settled (slice_index_or es i z).attempt Forget) n (all_forgotten (take i es) d) ≡ first_forgotten m d)
next-forgotten es i z lt d own zero = (i, ap (λ xs. all_forgotten (take i xs) d) own)
next-forgotten es i z lt d own (suc n) = (i + 1, more-forgotten es i z lt d ∙ ap (λ xs. all_forgotten (take (i + 1) xs) d) own)

pub next-thawed : (xs : List Snap) (i : ℕ) (z : Snap) → i < length xs → (d : Durable) (n : ℕ)
    → (m : ℕ) × (or_not (thawed (slice_index_or xs i z).cont (slice_index_or xs i z).epoch) n (all_thawed (take i xs) d) ≡ first_thawed xs m d)
next-thawed xs i z lt d zero = (i, refl)
next-thawed xs i z lt d (suc n) = (i + 1, more-thawed xs i z lt d)

-- a change, or nothing, said in another way
pub or_not-as : (c f : Durable → Durable) (d : Durable) → c d ≡ f d → (n : ℕ) → (m : ℕ) × (or_not c n d ≡ or_not f m d)
or_not-as c f d is zero = (0, refl)
or_not-as c f d is (suc n) = (1, is)

-- ---- one store

module _ {S : Type 0} (durable : S → Option Durable) (state : S → State) (may : S → Durable → Type 0)
    (steady : (s : S) (d x : Durable) → (state s).stopped ≡ false → durable s ≡ Some d → may s x → x ≡ d) where
  -- a store that runs
  pub leaves-itself : (parts : ℕ → Durable → Durable) (s : S) → (state s).stopped ≡ false → ((d : Durable) → (n : ℕ) × (d ≡ parts n d)) → Leaves durable may parts s s
  leaves-itself parts s running all d x told found = let n = all d in (n.0, steady s d x running told found ∙ n.1)

  -- a call
  pub leaves-call : {T E : Type 0} (was : Bool) (stop : E → Bool) (result : Result T E) (change : Durable → Durable) (old new : S) → (state old).stopped ≡ false
      → Makes was stop change result (durable old) (durable new) (may old) (may new) → Leaves durable may (or_not change) old new
  leaves-call was stop result change old new running m d x told found = by (m.left x found)
    where
      by : may old x ⊎ ((was ≡ false) × (Some x ≡ option_map change (durable old))) → (n : ℕ) × (x ≡ or_not change n d)
      by (inl before) = (0, steady old d x running told before)
      by (inr made) = (1, let e : Some x ≡ Some (change d) = made.1 ∙ ap (option_map change) told in cc)

  -- the same parts, said in another way of what is kept
  pub leaves-as : (p q : ℕ → Durable → Durable) (old new : S) → ((d : Durable) (n : ℕ) → durable old ≡ Some d → (m : ℕ) × (p n d ≡ q m d)) → Leaves durable may p old new → Leaves durable may q old new
  leaves-as p q old new is k d x told found =
      let n = k d x told found in
      let m = is d n.0 told in
      (m.0, n.1 ∙ m.1)

  -- after calls that came to their end
  pub leaves-on : (c : Durable → Durable) (p q : ℕ → Durable → Durable) (old mid new : S) → durable mid ≡ option_map c (durable old)
      → ((d : Durable) (n : ℕ) → durable old ≡ Some d → (m : ℕ) × (p n (c d) ≡ q m d)) → Leaves durable may p mid new → Leaves durable may q old new
  leaves-on c p q old mid new made is k d x told found =
      let n = k (c d) x (made ∙ ap (option_map c) told) found in
      let m = is d n.0 told in
      (m.0, n.1 ∙ m.1)

  -- and after the last one
  pub leaves-made : (c : Durable → Durable) (q : ℕ → Durable → Durable) (old new : S) → (state new).stopped ≡ false → durable new ≡ option_map c (durable old)
      → ((d : Durable) → durable old ≡ Some d → (n : ℕ) × (c d ≡ q n d)) → Leaves durable may q old new
  leaves-made c q old new running made is d x told found =
      let n = is d told in
      (n.0, steady new (c d) x running (made ∙ ap (option_map c) told) found ∙ n.1)

  -- ---- all stores

  -- the calls were of the store at one place
  pub leaves-at : (parts : ℕ → Durable → Durable) (stores : List S) (t : ℕ) (z store : S) → t < length stores → Leaves durable may parts (slice_index_or stores t z) store → LeavesAt durable may t parts stores (slice_set stores t store)
  leaves-at parts stores t z store low l x y at bt =
      let old : slice_index_or stores t z ≡ x = same-at stores t (slice_index_or stores t z) x (at-read stores t z low) at in
      let new : store ≡ y = same-at (slice_set stores t store) t store y (set-here stores t x store at) bt in
      subst (λ w. Leaves durable may parts w y) old (subst (λ w. Leaves durable may parts (slice_index_or stores t z) w) new l)

  -- calls that came to their end
  pub all-leave : {T : Type 0} (c : ℕ → Durable → Durable) (q : ℕ → ℕ → Durable → Durable) (x : T) (old new : List S) → GoesAll durable state c (Ok x) old new
      → ((t : ℕ) (d : Durable) → (n : ℕ) × (c t d ≡ q t n d)) → LeavesAll durable may q old new
  all-leave c q x old new k is t a b at bt = leaves-made (c t) (q t) a b (k.each t a b at bt).runs.stops (k.each t a b at bt).made (λ d told. is t d)

  -- further ones
  pub all-leave_on : {T : Type 0} (c : ℕ → Durable → Durable) (p q : ℕ → ℕ → Durable → Durable) (x : T) (old mid new : List S) → GoesAll durable state c (Ok x) old mid
      → ((t n : ℕ) (d : Durable) → (m : ℕ) × (p t n (c t d) ≡ q t m d)) → LeavesAll durable may p mid new → LeavesAll durable may q old new
  all-leave_on c p q x old mid new k is l t a b at bt =
      let mt = there old mid t a a k.many at in
      leaves-on (c t) (p t) (q t) a (slice_index_or mid t a) b (k.each t a (slice_index_or mid t a) at mt).made (λ d n told. is t n d) (l t (slice_index_or mid t a) b mt bt)

  -- calls of one store
  pub one-leaves : {T : Type 0} (t : ℕ) (change : Durable → Durable) (p : ℕ → Durable → Durable) (result : Result T OpeningStop) (old new : List S) → AllRun state old → GoesAt durable state t change result old new
      → LeavesAt durable may t p old new → LeavesAll durable may (only_parts t p) old new
  one-leaves t change p result old new run k l u x y at bt d z told found = by (u == t) refl
    where
      same-one : (u t : ℕ) → u ≡ t → (u == t) ≡ true
      same-one u t e = grind (arith, nat_tests)

      by : (b : Bool) → (u == t) ≡ b → (n : ℕ) × (z ≡ (if b then p else nothing) n d)
      by true is =
          let same' = number_same u t is in
          l x y (ap (slice_get old) (sym same') ∙ at) (ap (slice_get new) (sym same') ∙ bt) d z told found
      by false is =
          let apart : u ≡ t → ⊥ = (λ e. let no : true ≡ false = sym (same-one u t e) ∙ is in let n : ⊥ = cc in n) in
          let stay : y ≡ x = same-at new u y x bt (ap (λ l. slice_get l u) k.set ∙ set-there old t u k.store apart ∙ at) in
          (0, steady x d z (run u x at) told (subst (λ w. may w z) stay found))

  -- one store was asked, which changed nothing
  pub read-leaves : {T U : Type 0} (n : ℕ) (x : T) (result : Result U OpeningStop) (old mid new : List S) → GoesAll durable state (alike same) (Ok x) old mid → GoesAt durable state n same result mid new → LeavesAt durable may n nothing mid new → LeavesAll durable may (λ t. nothing) old new
  read-leaves n x result old mid new a b l =
      all-leave_on (alike same) (only_parts n nothing) (λ t. nothing) x old mid new a (λ t k d. (0, plain (t == n) k d)) (one-leaves n same nothing result mid new (still-run durable state (alike same) x old mid a) b l)
    where
      plain : (b : Bool) (k : ℕ) (d : Durable) → (if b then nothing else nothing) k d ≡ d
      plain true k d = refl
      plain false k d = refl

  -- a walk that ends early, at one store
  pub walk-leaves : {T U : Type 0} (change : Durable → Durable) (p : ℕ → Durable → Durable) (n : ℕ) (x : T) (result : Result U OpeningStop) (old mid new : List S)
      → ((d : Durable) → d ≡ p 0 d) → ((d : Durable) → (m : ℕ) × (change d ≡ p m d))
      → GoesAll durable state (upto n change) (Ok x) old mid → GoesAt durable state n change result mid new → LeavesAt durable may n p mid new → LeavesAll durable may (λ t. p) old new
  walk-leaves change p n x result old mid new none whole a b l =
      all-leave_on (upto n change) (only_parts n p) (λ t. p) x old mid new a each
      (one-leaves n change p result mid new (still-run durable state (upto n change) x old mid a) b l)
    where
      each : (t k : ℕ) (d : Durable) → (m : ℕ) × (only_parts n p t k (upto n change t d) ≡ p m d)
      each t k d = elim (cases_lt t n) [
        | inl below ↦
            let off : (t == n) ≡ false = grind (arith, nat_tests) in
            let m = whole d in
            (m.0, ap (λ (b : Bool). (if b then p else nothing) k (upto n change t d)) off ∙ all-upto n change t d below ∙ m.1)
        | inr high ↦
            let not' : nat_lt t n ≡ false = grind (arith, nat_tests) in
            let stays : upto n change t d ≡ d = ap (λ (b : Bool). (if b then change else same) d) not' in
            elim (cases_eq t n) [
              | inl is ↦
                  let on : (t == n) ≡ true = grind (arith, nat_tests) in
                  (k, ap (λ (b : Bool). (if b then p else nothing) k (upto n change t d)) on ∙ ap (p k) stays)
              | inr apart ↦
                  let off : (t == n) ≡ false = grind (arith, nat_tests) in
                  (0, ap (λ (b : Bool). (if b then p else nothing) k (upto n change t d)) off ∙ stays ∙ none d)
            ]
      ]
