-- Targets that lose what goes to them, and know nothing from then on, keep the facts of attempts.
use Rattle.std.specs.Prelude.{ℕ, ◌≡◌, ◌+◌, Bool, true, false, ◌&&◌, not, slice_get, Some, refl}
use Rattle.std.proofs.Common.{sym, ◌∙◌, ap, subst, arith, inl, inr}
use Rattle.base_types.specs.declared.id.AttemptId.{AttemptId}
use Rattle.model_laws.specs.Members.{Has, has-from_filter}
use Rattle.daos_model.specs.BoolLaws.{and_right, clash, false_of}
use Rattle.dtx_base.specs.declared.leading.Undecided.{Undecided}
use Rattle.dtx_base.specs.Members.{has_target}
use Rattle.world_commit.specs.attempts.Attempts.{IsOrdered, count, inc_at, is_known_at, is_prepare_to, leader_of, one_if, row_at}
use Rattle.world_commit.specs.attempts.Counting.{count-none}
use Rattle.world_commit.specs.attempts.History.{History}
use Rattle.world_commit.specs.fates.Facts.{Attempts, Awaited, IsQuiet, IsSaidSo, PromptsFly, Rows, RunsAt, answers_for, asks_for, is_prompt, knows_down, prepares_in_vain, prepares_it, refuses_for, talking}
use Rattle.world_commit.specs.fates.Frames.{asked-on, one-unless, said-on}
use Rattle.world_commit.specs.stops.Counts.{count-filtered}
use Rattle.world_commit.specs.stops.Losses.{Loses, as-many, asked-by, fewer, is_lost, talk-resets, try-resets}
use Rattle.world_commit.specs.stops.Parts.{KeepsEntries, entries-stay, grows-still, held-stays, open-stays}
use Rattle.world_base.specs.declared.letter.Letter.{Letter}
use Rattle.world_base.specs.declared.target.TargetState.{TargetState}
use Rattle.world_base.specs.declared.world.World.{World}
use Rattle.world_base.specs.Events.{Rules}
use Rattle.world_base.specs.Stops.{reset_letter}

-- what targets keep stays; these of them know nothing, and all others what they knew
pub record Leaves (out : ℕ → Bool) (w v : World) : Type 0 where
  pub entries : KeepsEntries w v
  pub incarnation : (t : ℕ) → inc_at v t ≡ inc_at w t
  pub row : (t : ℕ) (x : AttemptId) (u : Undecided) → row_at v t x ≡ Some u → (out t ≡ false) × (row_at w t x ≡ Some u)
  pub known : (t : ℕ) (x : AttemptId) → is_known_at v t x ≡ true → is_known_at w t x ≡ true
  pub down : (t m : ℕ) → out t ≡ false → knows_down v t m ≡ knows_down w t m
  pub runs : (t : ℕ) → RunsAt v t → RunsAt w t
  pub row_on : (t : ℕ) (x : AttemptId) → RunsAt v t → row_at v t x ≡ row_at w t x
  pub known_on : (t : ℕ) (x : AttemptId) → RunsAt v t → is_known_at v t x ≡ is_known_at w t x
  pub ordered : (t : ℕ) (s : TargetState) → slice_get v.targets t ≡ Some s → IsOrdered s
  pub quiet : (t : ℕ) (s : TargetState) → slice_get v.targets t ≡ Some s → IsQuiet s

-- a Reset asks nobody to prepare, and refuses nothing
pub reset-no_prepare : (x : AttemptId) (m : ℕ) (down : Bool) (q l : Letter) → reset_letter down q ≡ l → is_prepare_to x m l ≡ true → ⊥
unfolding is_prepare_to
reset-no_prepare x m down q l same is = let bad : false ≡ true = ap (is_prepare_to x m) same ∙ is in (let no : ⊥ = cc in no)

reset-no_refusal : (i : ℕ) (x : AttemptId) (down : Bool) (q l : Letter) → reset_letter down q ≡ l → refuses_for i x l.message ≡ true → ⊥
reset-no_refusal i x down q l same is = let bad : false ≡ true = ap (λ y. refuses_for i x y.message) same ∙ is in (let no : ⊥ = cc in no)

reset-no_prompt : (down : Bool) (q : Letter) → is_prompt (reset_letter down q) ≡ false
unfolding is_prompt
reset-no_prompt down q = refl

module _ (r : Rules) (h : History) (w v : World) (out : ℕ → Bool) (down : Bool) (rest : Leaves out w v) (loss : Loses out down w v) (k : Attempts r h w) where
  rows-on : (x : AttemptId) → Rows r h w x → Rows r h v x
  unfolding open-stays
  rows-on x i = record {
    undecided = λ t u at.
        let p = rest.row t x u at in
        let o = i.undecided t u p.1 in
        record { here = open-stays r h w v rest.entries t x o.here; unknown = false_of (is_known_at v t x) (λ is. clash (is_known_at w t x) (rest.known t x is) o.unknown); client = o.client };
    unsettled = λ t is. let o = i.unsettled t (rest.known t x is) in record { here = open-stays r h w v rest.entries t x o.here; decided = o.decided };
    either = λ e runs at prepared. elim (i.either e (rest.runs (leader_of r x) runs) (sym (rest.entries.entry (leader_of r x) x) ∙ at) prepared) [
      | inl known ↦ inl (rest.known_on (leader_of r x) x runs ∙ known)
      | inr q ↦ inr (q.0, rest.row_on (leader_of r x) x runs ∙ q.1)
    ];
  }

  awaited-on : (x : AttemptId) → Awaited r h w x → Awaited r h v x
  awaited-on x i = record {
    once = λ m u o at.
        let p = rest.row (leader_of r x) x u at in
        let talks : talking r (inc_at v (leader_of r x)) v x m ≡ talking r (inc_at w (leader_of r x)) w x m =
        ap (λ n. talking r n v x m) (rest.incarnation (leader_of r x))
        ∙ as-many (asks_for (inc_at w (leader_of r x)) x) (answers_for (inc_at w (leader_of r x)) x) (talk-resets (inc_at w (leader_of r x)) x) (leader_of r x) m out down w v loss k.prompt p.0
        (λ q among is. asked-by r h w (inc_at w (leader_of r x)) x q.from q.to q.message (k.on.letters q among) is) in
        one-unless (rest.down (leader_of r x) m p.0) (ap (λ n. n + one_if (has_target u.counted m)) talks) (i.once m u o p.1);
    few = λ n m o.
        let less = fewer (asks_for n x) (answers_for n x) (talk-resets n x) (leader_of r x) m out down w v loss k.prompt in
        let few = i.few n m o in
        omega (arith, less, few);
    tries = λ m o.
        let less = fewer (prepares_it x) (prepares_in_vain x) (try-resets x) (leader_of r x) m out down w v loss k.prompt in
        let few = i.tries m o in
        omega (arith, less, few);
    before = λ m l among is. elim (loss.came l among) [ inl old ↦ rest.entries.entry m x ∙ i.before m l old is | inr q ↦ absurd (reset-no_prepare x m down q.0 l q.2 is) ];
    counted = λ m u o at has. held-stays r h w v rest.entries m x (i.counted m u o (rest.row (leader_of r x) x u at).1 has);
    firm = λ l e among is d. elim (loss.came l among) [
      | inl old ↦ i.firm l e old (subst (λ n. refuses_for n x l.message ≡ true) (rest.incarnation (leader_of r x)) is) d
      | inr q ↦ reset-no_refusal (inc_at v (leader_of r x)) x down q.0 l q.2 is
    ];
  }

  prompt-on : PromptsFly v
  prompt-on p wide =
      let left = ap (count p) loss.asked ∙ count-filtered p (λ l. not (is_lost out l)) w.asked in
      let right = loss.counts p in
      let none = count-none (λ q. is_lost out q && (loss.comes q && p (reset_letter down q))) w.asked (λ q i. false_of (is_lost out q && (loss.comes q && p (reset_letter down q))) (λ is.
      clash (is_prompt (reset_letter down q)) (wide (reset_letter down q) (and_right (loss.comes q) (p (reset_letter down q)) (and_right (is_lost out q) (loss.comes q && p (reset_letter down q)) is))) (reset-no_prompt down q))) in
      let same = k.prompt (λ l. not (is_lost out l) && p l) (λ l is. wide l (and_right (not (is_lost out l)) (p l) is)) in
      omega (arith, left, right, none, same)

  pub losing-keeps : Attempts r h v
  losing-keeps = record {
    on = record {
      each = λ x. record { entries = entries-stay r h w v rest.entries x (k.on.each x).entries; rows = rows-on x (k.on.each x).rows; awaited = awaited-on x (k.on.each x).awaited };
      letters = λ l i. elim (loss.came l i) [
        | inl old ↦ said-on r h h w v (grows-still r h w v rest.entries) l.from l.to l.message (k.on.letters l old)
        | inr q ↦ subst (λ y. IsSaidSo r h v y.from y.to y.message) q.2 (asked-on r h h w v (grows-still r h w v rest.entries) q.0.from q.0.to q.0.message (k.on.asked q.0 q.1))
      ];
      asked = λ l i. asked-on r h h w v (grows-still r h w v rest.entries) l.from l.to l.message (k.on.asked l (has-from_filter (λ l. not (is_lost out l)) w.asked l (subst (Has l) loss.asked i)).0);
      ordered = rest.ordered;
      quiet = rest.quiet;
    };
    prompt = prompt-on;
  }
