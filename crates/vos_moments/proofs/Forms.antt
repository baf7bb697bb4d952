-- Versions that are settled or pruned by their moments, one moment after another.
use Rattle.std.proofs.Common.{◌≡◌, ℕ, ◌+◌, ◌*◌, ◌^◌, ◌<◌, ◌&&◌, ◌||◌, Bool, true, false, List, [], ◌∷◌, ◌++◌, length, refl, sym, ap, ◌∙◌, subst}
use Rattle.std.specs.Prelude.{take, drop, get_or, not}
use Rattle.std.proofs.lemmas.List.{take-append-drop}
use Rattle.std.specs.List.{list_any}
use Rattle.base_types.specs.declared.entry.Settle.{Settle}
use Rattle.base_types.specs.declared.entry.Settle.TheVariants as step
use Rattle.base_types.specs.declared.id.AttemptId.{AttemptId}
use Rattle.vos_punches.specs.pmem_pages.Blocks.{Blocks, Budget, IsSpent}
use Rattle.vos_punches.specs.pmem_pages.Owners.{Holds}
use Rattle.vos_punches.specs.pmem_pages.Shape.{entries}
use Rattle.vos_punches.specs.pmem_tree.Calls.{TooFew}
use Rattle.vos_punches.specs.vos_values.declared.keys.Moment.{Moment}
use Rattle.vos_punches.specs.vos_levels.declared.change.Change.{Change}
use Rattle.vos_punches.specs.vos_levels.declared.change.Change.TheVariants.{Commit, Abort, Prune}
use Rattle.vos_punches.specs.vos_levels.Calls.{Becomes}
use Rattle.vos_punches.specs.vos_levels.Changes.{changed_by, freed_by, keeps, same_attempt, takes}
use Rattle.vos_punches.specs.vos_levels.Levels.{Hung, Level, hung, hung_root, things}
use Rattle.vos_punches.specs.vos_levels.Moments.{same_moment}
use Rattle.vos_punches.specs.Moments.{has_moment}
use Rattle.vos_moments.specs.Steps.{change_of, decides}
use Rattle.vos_moments.specs.Taking.{TooFewToRemove, Took, number_of, one_each}
use Rattle.vos_moments.proofs.Taking.{agree_all, few_then, lacked_then, puts_one, removes_one, some_number, sum_agree, take_more, takes_both, takes_more, took_none, took_same, took_then}

-- How versions stand in a tree: what each says, what it is when done, and the blocks that it has.
pub record Form (A V : Type 0) : Type 1 where
  pub level : Level A
  pub shown : Hung A → List V
  pub sized : (g : Hung A) → length (shown g) ≡ length (things g)
  pub moment : V → Moment
  pub by : V → AttemptId
  pub is_done : V → Bool
  pub done : V → V
  pub finished : (v : V) → is_done (done v) ≡ true
  pub size : V → ℕ
  pub chain : ℕ

-- a change takes a version of one moment, or of some
abbrev pub taken_of : {A V : Type 0} → Form A V → Change → Moment → V → Bool
taken_of F c at v = same_moment (F.moment v) at && takes c (F.by v) (F.is_done v)

abbrev pub taken_at : {A V : Type 0} → Form A V → Change → List Moment → V → Bool
taken_at F c ms v = has_moment (F.moment v) ms && takes c (F.by v) (F.is_done v)

-- the unsettled ones of an attempt
abbrev pub settled_at : {A V : Type 0} → Form A V → AttemptId → List Moment → V → Bool
settled_at F a ms v = has_moment (F.moment v) ms && (same_attempt (F.by v) a && not (F.is_done v))

abbrev pub Took_of : {A V : Type 0} → Form A V → Change → (V → Bool) → Blocks → Hung A → Budget → Blocks → ℕ → Budget → Type 0
Took_of F c taken m g b n at e = Took (hung F.level) F.shown (keeps c) taken F.done F.size F.chain m g b n at e

and_none : (a b : Bool) → b ≡ false → (a && b) ≡ false
and_none true b h = h
and_none false b h = refl

-- what is done isn't taken by a commit
kept_done : (c : Change) (by : AttemptId) → keeps c ≡ true → takes c by true ≡ false
kept_done (Commit a) by k = and_none (same_attempt by a) false refl
kept_done (Abort a) by k = absurd (let n : ⊥ = cc in n)
kept_done Prune by k = absurd (let n : ⊥ = cc in n)

module _ {A V : Type 0} (F : Form A V) where
  pub not_again : (c : Change) (p : V → Bool) → keeps c ≡ true → (v : V) → (p (F.done v) && takes c (F.by (F.done v)) (F.is_done (F.done v))) ≡ false
  not_again c p k v = and_none (p (F.done v)) (takes c (F.by (F.done v)) (F.is_done (F.done v))) (ap (takes c (F.by (F.done v))) (F.finished v) ∙ kept_done c (F.by (F.done v)) k)

  -- ---- one moment

  pub took_nothing : (taken : V → Bool) (c : Change) (m : Blocks) (g : Hung A) (b : Budget) (n : Blocks) (root : ℕ) (e : Budget) → Holds (hung F.level) m g → root ≡ hung_root g → n ≡ m → e ≡ b → list_any taken (F.shown g) ≡ false → Took_of F c taken m g b n root e
  took_nothing taken c m g b n root e h is same spent none = took_none F.level F.shown F.sized (keeps c) F.done F.size F.chain taken m g b n root e h is same spent none

  pub took_one : (taken : V → Bool) (c : Change) (m : Blocks) (g : Hung A) (b : Budget) (n : Blocks) (root : ℕ) (e : Budget) → list_any taken (F.shown g) ≡ true → Becomes (hung F.level) hung_root F.shown m g n root (λ vs ws. ws ≡ changed_by (keeps c) taken F.done vs)
      → ((d : ℕ) → length (entries g.0) < 2 ^ d → IsSpent (8 * d + 16 + F.chain) (256 * (8 * d + 16) + F.chain) b e) → (keeps c ≡ true → root ≡ hung_root g) → (keeps c ≡ true → IsSpent 1 256 b e) → e.free ≡ b.free + freed_by (keeps c) taken F.size (F.shown g) → Took_of F c taken m g b n root e
  took_one taken c m g b n root e some became staged kept put gave =
      let count = some_number taken (F.shown g) some in
      record {
        becomes = became;
        removes = removes_one (number_of taken (F.shown g)) F.chain g.0 b e count staged;
        puts = λ k. puts_one (number_of taken (F.shown g)) b e count (put k);
        root = kept;
        gives = gave;
      }

  -- ---- one moment after another

  none_taken : (c : Change) (vs : List V) → list_any (taken_at F c []) vs ≡ false
  none_taken c [] = refl
  none_taken c (v ∷ vs) = none_taken c vs

  pub took_first : (c : Change) (m : Blocks) (g : Hung A) (b : Budget) (root : ℕ) → Holds (hung F.level) m g → root ≡ hung_root g → Took_of F c (taken_at F c []) m g b m root b
  took_first c m g b root h is = took_nothing (taken_at F c []) c m g b m root b h is refl refl (none_taken c (F.shown g))

  took_next : (c : Change) (ms : List Moment) (at : Moment) (m : Blocks) (g : Hung A) (b : Budget) (n : Blocks) (root : ℕ) (e : Budget) (o : Blocks) (next : ℕ) (f : Budget) → Holds (hung F.level) m g → (s : Took_of F c (taken_at F c ms) m g b n root e) → Took_of F c (taken_of F c at) n s.becomes.now e o next f → Took_of F c (taken_at F c (ms ++ at ∷ [])) m g b o next f
  took_next c ms at m g b n root e o next f h s t =
      took_then F.level F.shown F.sized (keeps c) F.done F.size F.chain (taken_at F c ms) (taken_of F c at) (taken_at F c (ms ++ at ∷ [])) m g b n root e o next f h (not_again c (λ v. same_moment (F.moment v) at))
      (agree_all (taken_at F c (ms ++ at ∷ [])) (λ v. taken_at F c ms v || taken_of F c at v) (F.shown g) (λ v. takes_more (F.moment v) ms at (takes c (F.by v) (F.is_done v)))) s t

  -- the first moments, and the next
  pub took_more : (c : Change) (ms : List Moment) (i : ℕ) (z : Moment) → i < length ms → (m : Blocks) (g : Hung A) (b : Budget) (n : Blocks) (root : ℕ) (e : Budget) (o : Blocks) (next : ℕ) (f : Budget) → Holds (hung F.level) m g → (s : Took_of F c (taken_at F c (take i ms)) m g b n root e) → Took_of F c (taken_of F c (get_or ms i z)) n s.becomes.now e o next f → Took_of F c (taken_at F c (take (i + 1) ms)) m g b o next f
  took_more c ms i z within m g b n root e o next f h s t = subst (λ y. Took_of F c (taken_at F c y) m g b o next f) (sym (take_more ms i z within)) (took_next c (take i ms) (get_or ms i z) m g b n root e o next f h s t)

  pub few_next : (taken : V → Bool) (c : Change) (m : Blocks) (g : Hung A) (b : Budget) (n : Blocks) (root : ℕ) (e f : Budget) → Holds (hung F.level) m g → (s : Took_of F c taken m g b n root e) → TooFew s.becomes.now.0 f → TooFew g.0 f
  few_next taken c m g b n root e f h s few = few_then F.level F.shown F.sized (keeps c) F.done F.size F.chain taken m g b n root e f h s few

  pub lacked_next : (c : Change) (ms : List Moment) (i : ℕ) (m : Blocks) (g : Hung A) (b : Budget) (n : Blocks) (root : ℕ) (e : Budget) → Holds (hung F.level) m g → (s : Took_of F c (taken_at F c (take i ms)) m g b n root e) → TooFew s.becomes.now.0 e → TooFewToRemove (number_of (taken_at F c ms) (F.shown g)) F.chain g.0 b
  lacked_next c ms i m g b n root e h s few =
      lacked_then F.level F.shown F.sized (keeps c) F.done F.size F.chain (taken_at F c (take i ms)) (taken_at F c (drop i ms)) (taken_at F c ms) m g b n root e h
      (agree_all (taken_at F c ms) (λ v. taken_at F c (take i ms) v || taken_at F c (drop i ms) v) (F.shown g) (λ v. ap (λ y. taken_at F c y v) (sym (take-append-drop i ms)) ∙ takes_both (F.moment v) (take i ms) (drop i ms) (takes c (F.by v) (F.is_done v)))) s few

  -- ---- what a step settles

  taken_settled : (a : AttemptId) (s : Settle) (ms : List Moment) → decides s ≡ true → (v : V) → settled_at F a ms v ≡ taken_at F (change_of a s) ms v
  taken_settled a step.Commit ms d v = refl
  taken_settled a step.Abort ms d v = refl
  taken_settled a (step.Confirm target) ms d v = absurd (let n : ⊥ = cc in n)
  taken_settled a step.Forget ms d v = absurd (let n : ⊥ = cc in n)

  pub settled_from : (k : Change) (a : AttemptId) (s : Settle) (ms : List Moment) → k ≡ change_of a s → decides s ≡ true → (m : Blocks) (g : Hung A) (b : Budget) (n : Blocks) (root : ℕ) (e : Budget) → Took_of F k (taken_at F k ms) m g b n root e → Took_of F (change_of a s) (settled_at F a ms) m g b n root e
  settled_from k a s ms is d m g b n root e t =
      took_same F.level F.shown F.sized (keeps (change_of a s)) F.done F.size F.chain (taken_at F (change_of a s) ms) (settled_at F a ms) m g b n root e (agree_all (settled_at F a ms) (taken_at F (change_of a s) ms) (F.shown g) (taken_settled a s ms d))
      (subst (λ z. Took_of F z (taken_at F z ms) m g b n root e) is t)

  pub settled_lacks : (k : Change) (a : AttemptId) (s : Settle) (ms : List Moment) → k ≡ change_of a s → decides s ≡ true → (g : Hung A) (b : Budget) → TooFewToRemove (number_of (taken_at F k ms) (F.shown g)) F.chain g.0 b → TooFewToRemove (number_of (settled_at F a ms) (F.shown g)) F.chain g.0 b
  settled_lacks k a s ms is d g b few =
      let same : number_of (taken_at F k ms) (F.shown g) ≡ number_of (settled_at F a ms) (F.shown g) = ap (λ z. number_of (taken_at F z ms) (F.shown g)) is ∙ sym (sum_agree (settled_at F a ms) (taken_at F (change_of a s) ms) one_each (F.shown g) (agree_all (settled_at F a ms) (taken_at F (change_of a s) ms) (F.shown g) (taken_settled a s ms d))) in
      subst (λ z. TooFewToRemove z F.chain g.0 b) same few
