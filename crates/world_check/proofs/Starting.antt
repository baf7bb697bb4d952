-- Whether a list of events starts well, as the code tests it.
use Rattle.std.proofs.Common.{ℕ, suc, zero, ◌≡◌, ◌<◌, ◌≤◌, ◌+◌, sym, ◌∙◌, ap, subst, Bool, true, List, [], ◌∷◌, length, drop, get_or, slice_get, Some, None, All, arith, ◌⊎◌, inl, inr, ◌&&◌, nat_le}
use Rattle.std.specs.Prelude.{count_by, is_some}
use Rattle.std.specs.Bool.{Decides}
use Rattle.std.proofs.lemmas.Bool.Decides.{Decides-and, nat_tests}
use Rattle.std.proofs.lemmas.Bool.{cases_order}
use Rattle.client_core.specs.Clients.{CommandFits, IsInPlace, OpFits, OpsFit, PlanFits, has_number}
use Rattle.base_types.specs.declared.operation.Op.{Op}
use Rattle.base_types.specs.declared.script.Command.{Command}
use Rattle.base_types.specs.Scripts.{is_numbered}
use Rattle.std.proofs.lemmas.Option.{slice_get_past}
use Rattle.world_base.specs.declared.client.ClientState.{ClientState}
use Rattle.world_base.specs.declared.world.World.{World}
use Rattle.world_base.specs.Events.{Rules, client_plan, commands_or_none}
use Rattle.world_list.specs.Fitting.{AreInPlace, PlansFit}
use Rattle.world_check.specs.Starting.{HasPlace, commands_of}

-- ---- what clients have to do

pub ops_decide : (targets : ℕ) (ops : List Op) → All (OpFits targets) ops → Decides (nat_le (length ops) 64) (OpsFit targets ops)
ops_decide targets ops all = (λ h. record { few = grind (arith, nat_tests); objs = all }, λ f. (let few = f.few in grind (arith, nat_tests)))

plan_fits : (r : Rules) (n : ℕ) → All (CommandFits r.script.targets) (commands_of r.script n) → count_by is_numbered (commands_of r.script n) ≤ 100000 → PlanFits (client_plan r n)
plan_fits r n commands few = record { commands = commands; few = few }

nothing_fits : (r : Rules) (n : ℕ) → slice_get r.script.clients n ≡ None → PlanFits (client_plan r n)
nothing_fits r n none =
    plan_fits r n (subst (All (CommandFits r.script.targets)) (sym (ap commands_or_none none)) (λ k d lt. absurd (omega arith)))
    (subst (λ xs. count_by is_numbered xs ≤ 100000) (sym (ap commands_or_none none)) (omega arith))

pub all_fit : (r : Rules) (i : ℕ) → ((k : ℕ) → k < i → PlanFits (client_plan r k)) → length r.script.clients ≤ i → PlansFit r
all_fit r i before le n = by (cases_order n i)
  where
    by : (n ≡ i) ⊎ ((n < i) ⊎ (i < n)) → PlanFits (client_plan r n)
    by (inl here) = (let past : length r.script.clients ≤ n = omega (arith, le, here) in nothing_fits r n (slice_get_past r.script.clients n past))
    by (inr (inl less)) = before n less
    by (inr (inr more)) = (let past : length r.script.clients ≤ n = omega (arith, le, more) in nothing_fits r n (slice_get_past r.script.clients n past))

pub fit_more : (r : Rules) (i : ℕ) (commands : List Command) → commands ≡ commands_of r.script i → All (CommandFits r.script.targets) commands → count_by is_numbered commands ≤ 100000 → ((k : ℕ) → k < i → PlanFits (client_plan r k))
    → (k : ℕ) → k < i + 1 → PlanFits (client_plan r k)
fit_more r i commands is fits few before k within = by (cases_order k i)
  where
    by : (k ≡ i) ⊎ ((k < i) ⊎ (i < k)) → PlanFits (client_plan r k)
    by (inl here) =
        subst (λ n. PlanFits (client_plan r n)) (sym here)
        (plan_fits r i (subst (All (CommandFits r.script.targets)) is fits) (subst (λ xs. count_by is_numbered xs ≤ 100000) is few))
    by (inr (inl less)) = before k less
    by (inr (inr more)) = let past : ⊥ = omega (arith, within, more) in absurd past

pub fit_not : (r : Rules) (i : ℕ) (commands : List Command) → commands ≡ commands_of r.script i → (All (CommandFits r.script.targets) commands → count_by is_numbered commands ≤ 100000 → ⊥) → PlansFit r → ⊥
fit_not r i commands is bad fits = bad (subst (All (CommandFits r.script.targets)) (sym is) (fits i).commands) (subst (λ xs. count_by is_numbered xs ≤ 100000) (sym is) (fits i).few)

-- ---- how far they came

in_place : (r : Rules) (n : ℕ) (c : ClientState) → HasPlace (commands_of r.script n) c → IsInPlace (client_plan r n) c
in_place r n c h = record { few = h.few; numbered = h.numbered }

has_place : (r : Rules) (n : ℕ) (c : ClientState) → IsInPlace (client_plan r n) c → HasPlace (commands_of r.script n) c
has_place r n c h = record { few = h.few; numbered = h.numbered }

-- as the code tests it, part by part
pub place_decides : (commands rest : List Command) (c : ClientState) (left : ℕ) (present numbered few kind test : Bool) → rest ≡ drop c.place commands → left ≡ count_by is_numbered rest → numbered ≡ has_number (slice_get commands c.place) → present ≡ is_some c.present
    → Decides few (c.command + left ≤ 100000) → Decides kind (present ≡ true → numbered ≡ true) → test ≡ (few && kind) → Decides test (HasPlace commands c)
place_decides commands rest c left present numbered few kind test rest_is left_is number_is present_is one two all =
    let both_hold = Decides-and few kind one two in
    let left_same : left ≡ count_by is_numbered (drop c.place commands) = left_is ∙ ap (count_by is_numbered) rest_is in (
      λ h.
          let p = both_hold.0 (sym all ∙ h) in
          record {
            few = subst (λ n. c.command + n ≤ 100000) left_same p.0;
            numbered = λ some. sym number_is ∙ p.1 (present_is ∙ some);
          },
      λ h. all ∙ both_hold.1 (subst (λ n. c.command + n ≤ 100000) (sym left_same) h.few, λ some. number_is ∙ h.numbered (sym present_is ∙ some)),
    )

get_at : {A : Type 0} (xs : List A) (n : ℕ) (x : A) → n < length xs → x ≡ get_or xs n x → slice_get xs n ≡ Some x
get_at [] n x lt is = let bad : ⊥ = omega (arith, lt) in absurd bad
get_at (y ∷ ys) zero x lt is = ap Some (sym is)
get_at (y ∷ ys) (suc n) x lt is = get_at ys n x (omega arith) is

abbrev pub SoFar : Rules → World → ℕ → Type 0
SoFar r w i = (k : ℕ) (c : ClientState) → k < i → slice_get w.clients k ≡ Some c → IsInPlace (client_plan r k) c

pub places_more : (r : Rules) (w : World) (clients : List ClientState) (i : ℕ) (commands : List Command) (d : ClientState) → clients ≡ w.clients → commands ≡ commands_of r.script i → i < length clients → d ≡ get_or clients i d → HasPlace commands d → SoFar r w i → SoFar r w (i + 1)
places_more r w clients i commands d same is lt at has before k c within there = by (cases_order k i)
  where
    by : (k ≡ i) ⊎ ((k < i) ⊎ (i < k)) → IsInPlace (client_plan r k) c
    by (inl here) =
        let here_d : slice_get w.clients i ≡ Some d = subst (λ xs. slice_get xs i ≡ Some d) same (get_at clients i d lt at) in
        let here_c : slice_get w.clients i ≡ Some c = subst (λ n. slice_get w.clients n ≡ Some c) here there in
        let one : d ≡ c = cc in
        subst (λ n. IsInPlace (client_plan r n) c) (sym here) (in_place r i c (subst (HasPlace (commands_of r.script i)) one (subst (λ xs. HasPlace xs d) is has)))
    by (inr (inl less)) = before k c less there
    by (inr (inr more)) = let past : ⊥ = omega (arith, within, more) in absurd past

pub places_not : (r : Rules) (w : World) (clients : List ClientState) (i : ℕ) (commands : List Command) (d : ClientState) → clients ≡ w.clients → commands ≡ commands_of r.script i → i < length clients → d ≡ get_or clients i d → (HasPlace commands d → ⊥) → AreInPlace r w → ⊥
places_not r w clients i commands d same is lt at bad places =
    bad (subst (λ xs. HasPlace xs d) (sym is) (has_place r i d (places i d (subst (λ xs. slice_get xs i ≡ Some d) same (get_at clients i d lt at)))))

pub places_all : (r : Rules) (w : World) (clients : List ClientState) (i : ℕ) → clients ≡ w.clients → length clients ≤ i → SoFar r w i → AreInPlace r w
places_all r w clients i same le before n c there = by (cases_order n i)
  where
    none : length clients ≤ n → ⊥
    none past = (let gone : slice_get w.clients n ≡ None = subst (λ xs. slice_get xs n ≡ None) same (slice_get_past clients n past) in let bad : ⊥ = cc in bad)

    by : (n ≡ i) ⊎ ((n < i) ⊎ (i < n)) → IsInPlace (client_plan r n) c
    by (inl here) = absurd (none (omega (arith, le, here)))
    by (inr (inl less)) = before n c less there
    by (inr (inr more)) = absurd (none (omega (arith, le, more)))
