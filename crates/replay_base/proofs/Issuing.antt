-- Which ticks a clock can issue, whatever it reads.
use Rattle.std.proofs.Common.{ℕ, ◌≡◌, ◌≤◌, ◌<◌, ◌+◌, ◌/◌, ◌%◌, ◌^◌, refl, sym, ◌∙◌, ap, subst, Bool, true, false, nat_le, Option, Some, None, ◌⊎◌, inl, inr, arith}
use Rattle.std.specs.Prelude.{if◌then◌else◌, max}
use Rattle.std.specs.Bool.{Decides}
use Rattle.std.specs.Option.{option_map}
use Rattle.std.proofs.lemmas.Bool.Decides.{nat_tests}
use Rattle.base_types.specs.declared.epoch.Epoch.{Epoch}
use Rattle.base_types.specs.declared.id.AttemptId.{AttemptId}
use Rattle.base_types.specs.Epochs.{epoch_at, issued_ticks, last_ticks}
use Rattle.daos_hlc.specs.Clock.{next_ticks, within_last}
use Rattle.world_base.specs.declared.target.TargetMemory.{TargetMemory}
use Rattle.world_base.specs.declared.target.TargetPlan.{TargetPlan}
use Rattle.world_base.specs.Requests.{epoch_of_ticks, request_epoch}
use Rattle.replay_base.specs.Issuing.{CanIssue, least_ticks}
use Rattle.replay_base.specs.Requested.{AsksAt, TellsEpoch}
use Rattle.world_base.specs.Events.{epoch_of_issue}

-- ---- ticks within the last ones

pub within : (n : ℕ) → n ≤ last_ticks → within_last n ≡ Some n
within n le = (let t : nat_le n last_ticks ≡ true = grind (arith, nat_tests) in ap (λ (b : Bool). if b then Some n else None) t)

pub beyond : (n : ℕ) → last_ticks < n → within_last n ≡ None
beyond n lt = (let t : nat_le n last_ticks ≡ false = grind (arith, nat_tests) in ap (λ (b : Bool). if b then Some n else None) t)

pub some_within : (n m : ℕ) → within_last n ≡ Some m → (n ≡ m) × (n ≤ last_ticks)
some_within n m is =
    elim (nat_le n last_ticks) as (λ b. nat_le n last_ticks ≡ b → (if b then Some n else None) ≡ Some m → (n ≡ m) × (n ≤ last_ticks)) [
      | true ↦ λ t here. (let same : n ≡ m = cc in same, grind (arith, nat_tests))
      | false ↦ λ t here. absurd (let bad : ⊥ = cc in bad)
    ] refl is

pub none_within : (n : ℕ) → within_last n ≡ None → last_ticks < n
none_within n is =
    elim (nat_le n last_ticks) as (λ b. nat_le n last_ticks ≡ b → (if b then Some n else None) ≡ None → last_ticks < n) [
      | true ↦ λ t here. absurd (let bad : ⊥ = cc in bad)
      | false ↦ λ t here. grind (arith, nat_tests)
    ] refl is

-- ---- no ticks are left

pub spent_whatever : (me ticks tracker reading : ℕ) → least_ticks ticks tracker ≡ None → next_ticks (record { target = me; ticks = ticks }) reading tracker ≡ None
spent_whatever me ticks tracker reading none =
    let past = none_within (max (ticks + 1) (tracker / 256 + 1)) none in
    beyond (issued_ticks ticks reading tracker) (omega (arith, past))

pub spent_always : (me ticks tracker reading : ℕ) → next_ticks (record { target = me; ticks = ticks }) reading tracker ≡ None → least_ticks ticks tracker ≡ None
spent_always me ticks tracker reading none =
    let past = none_within (issued_ticks ticks reading tracker) none in
    beyond (max (ticks + 1) (tracker / 256 + 1)) (omega (arith, past))

-- ---- ticks that may be issued

issues : (me ticks reading : ℕ) (tracker e : Epoch) → epoch_at (issued_ticks ticks reading tracker.0) me ≡ e.0 → issued_ticks ticks reading tracker.0 ≤ last_ticks → CanIssue me ticks tracker e
issues me ticks reading tracker e same le =
    (reading, ap (option_map (epoch_of_ticks me)) (within (issued_ticks ticks reading tracker.0) le) ∙ ap (λ n. Some (epoch_with n)) same)
  where
    epoch_with : ℕ → Epoch
    epoch_with n = record { 0 = n }

epoch_parts : (e me ticks : ℕ) → e % 256 ≡ me → e / 256 ≡ ticks → epoch_at ticks me ≡ e
epoch_parts e me ticks own at = omega (arith, own, at)

-- the least ones, or greater ones that a clock may read
pub issues_least : (me ticks least : ℕ) (tracker e : Epoch) → least_ticks ticks tracker.0 ≡ Some least → e.0 % 256 ≡ me → e.0 / 256 ≡ least → CanIssue me ticks tracker e
issues_least me ticks least tracker e some own at =
    let l = some_within (max (ticks + 1) (tracker.0 / 256 + 1)) least some in
    let is = l.0 in
    let le = l.1 in
    let here : issued_ticks ticks 0 tracker.0 ≡ least = omega (arith, is) in
    let fits : issued_ticks ticks 0 tracker.0 ≤ last_ticks = omega (arith, is, le) in
    issues me ticks 0 tracker e (ap (λ n. epoch_at n me) here ∙ epoch_parts e.0 me least own at) fits

pub issues_read : (me ticks least : ℕ) (tracker e : Epoch) → least_ticks ticks tracker.0 ≡ Some least → e.0 % 256 ≡ me → least < e.0 / 256 → e.0 / 256 ≤ 2 ^ 55 → CanIssue me ticks tracker e
issues_read me ticks least tracker e some own above le =
    let l = some_within (max (ticks + 1) (tracker.0 / 256 + 1)) least some in
    let is = l.0 in
    let here : issued_ticks ticks (e.0 / 256) tracker.0 ≡ e.0 / 256 = omega (arith, is, above, le) in
    let fits : issued_ticks ticks (e.0 / 256) tracker.0 ≤ last_ticks = omega (arith, here, le) in
    issues me ticks (e.0 / 256) tracker e (ap (λ n. epoch_at n me) here ∙ epoch_parts e.0 me (e.0 / 256) own refl) fits

-- what an epoch that can be issued is
pub record IsIssued (me ticks : ℕ) (tracker e : Epoch) : Type 0 where
  pub least : ℕ
  pub some : least_ticks ticks tracker.0 ≡ Some least
  pub own : e.0 % 256 ≡ me
  pub kind : (e.0 / 256 ≡ least) ⊎ ((least < e.0 / 256) × (e.0 / 256 ≤ 2 ^ 55))

issued_own : (n me e : ℕ) → me < 256 → epoch_at n me ≡ e → e % 256 ≡ me
issued_own n me e small is = omega (arith, small, is)

issued_at : (n me e : ℕ) → me < 256 → epoch_at n me ≡ e → e / 256 ≡ n
issued_at n me e small is = omega (arith, small, is)

kinds : (ticks reading tracker n : ℕ) → n ≡ issued_ticks ticks reading tracker → (n ≡ max (ticks + 1) (tracker / 256 + 1)) ⊎ ((max (ticks + 1) (tracker / 256 + 1) < n) × (n ≤ 2 ^ 55))
kinds ticks reading tracker n is =
    elim (nat_le n (max (ticks + 1) (tracker / 256 + 1))) as (λ b. nat_le n (max (ticks + 1) (tracker / 256 + 1)) ≡ b → (n ≡ max (ticks + 1) (tracker / 256 + 1)) ⊎ ((max (ticks + 1) (tracker / 256 + 1) < n) × (n ≤ 2 ^ 55))) [
      | true ↦ λ t.
          let le : n ≤ max (ticks + 1) (tracker / 256 + 1) = grind (arith, nat_tests) in
          inl (omega (arith, is, le))
      | false ↦ λ t.
          let lt : max (ticks + 1) (tracker / 256 + 1) < n = grind (arith, nat_tests) in
          inr (lt, omega (arith, is, lt))
    ] refl

pub is_issued : (me ticks : ℕ) (tracker e : Epoch) → me < 256 → CanIssue me ticks tracker e → IsIssued me ticks tracker e
is_issued me ticks tracker e small can = by (within_last (issued_ticks ticks can.0 tracker.0)) refl can.1
  where
    made : (n : ℕ) → issued_ticks ticks can.0 tracker.0 ≡ n → n ≤ last_ticks → epoch_at n me ≡ e.0 → IsIssued me ticks tracker e
    made n is le same =
        let at = issued_at n me e.0 small same in
        let fits : max (ticks + 1) (tracker.0 / 256 + 1) ≤ last_ticks = omega (arith, is, le) in
        record {
          least = max (ticks + 1) (tracker.0 / 256 + 1);
          some = within (max (ticks + 1) (tracker.0 / 256 + 1)) fits;
          own = issued_own n me e.0 small same;
          kind = subst (λ x. (x ≡ max (ticks + 1) (tracker.0 / 256 + 1)) ⊎ ((max (ticks + 1) (tracker.0 / 256 + 1) < x) × (x ≤ 2 ^ 55))) (sym at) (kinds ticks can.0 tracker.0 n (sym is));
        }

    by : (o : Option ℕ) → within_last (issued_ticks ticks can.0 tracker.0) ≡ o → option_map (epoch_of_ticks me) o ≡ Some e → IsIssued me ticks tracker e
    by None is none = absurd (let bad : ⊥ = cc in bad)
    by (Some n) is some =
        let w = some_within (issued_ticks ticks can.0 tracker.0) n is in
        let same : epoch_of_ticks me n ≡ e = cc in
        made n w.0 (subst (λ x. x ≤ last_ticks) w.0 w.1) (ap (λ x. x.0) same)

-- ---- as the code tests it

pub spent_so : (t : TargetPlan) (m : TargetMemory) (tracker : Epoch) → least_ticks m.ticks tracker.0 ≡ None → (reading : ℕ) × (request_epoch t m reading tracker None ≡ None)
spent_so t m tracker none = (0, ap (option_map (epoch_of_ticks t.me)) (spent_whatever t.me m.ticks tracker.0 0 none))

unmapped : (me : ℕ) (o : Option ℕ) → option_map (epoch_of_ticks me) o ≡ None → o ≡ None
unmapped me None is = refl
unmapped me (Some n) is = absurd (let bad : ⊥ = cc in bad)

pub unspent : (t : TargetPlan) (m : TargetMemory) (tracker : Epoch) (least : ℕ) → least_ticks m.ticks tracker.0 ≡ Some least → (reading : ℕ) × (request_epoch t m reading tracker None ≡ None) → ⊥
unspent t m tracker least some spent =
    let gone = spent_always t.me m.ticks tracker.0 spent.0 (unmapped t.me (next_ticks (record { target = t.me; ticks = m.ticks }) spent.0 tracker.0) spent.1) in
    let bad : ⊥ = cc in bad

pub never_issued : (me ticks : ℕ) (tracker e : Epoch) → me < 256 → least_ticks ticks tracker.0 ≡ None → CanIssue me ticks tracker e → ⊥
never_issued me ticks tracker e small none can =
    let i = is_issued me ticks tracker e small can in
    let some = i.some in
    let bad : ⊥ = cc in bad

pub issue_decides : (me ticks least : ℕ) (tracker e : Epoch) (test : Bool) → me < 256 → least_ticks ticks tracker.0 ≡ Some least
    → Decides test ((e.0 % 256 ≡ me) × ((e.0 / 256 ≡ least) ⊎ ((least < e.0 / 256) × (e.0 / 256 ≤ 2 ^ 55)))) → Decides test (CanIssue me ticks tracker e)
issue_decides me ticks least tracker e test small some same = (
  λ h.
      let k = same.0 h in
      kind k.0 k.1,
  λ can.
      let i = is_issued me ticks tracker e small can in
      let its = i.some in
      let least_is : i.least ≡ least = cc in
      same.1 (i.own, subst (λ n. (e.0 / 256 ≡ n) ⊎ ((n < e.0 / 256) × (e.0 / 256 ≤ 2 ^ 55))) least_is i.kind),
)
  where
    kind : e.0 % 256 ≡ me → (e.0 / 256 ≡ least) ⊎ ((least < e.0 / 256) × (e.0 / 256 ≤ 2 ^ 55)) → CanIssue me ticks tracker e
    kind own (inl at) = issues_least me ticks least tracker e some own at
    kind own (inr above) = issues_read me ticks least tracker e some own above.0 above.1

-- ---- the epoch of a request

pub asks_own : (t : TargetPlan) (m : TargetMemory) (tracker : Epoch) (ep : Option Epoch) (own e : Epoch) (test : Bool) → ep ≡ Some own → Decides test (own ≡ e) → Decides test (AsksAt (λ reading. request_epoch t m reading tracker ep) e)
asks_own t m tracker ep own e test is same = (
  λ h. (0, ap (request_epoch t m 0 tracker) is ∙ ap Some (same.0 h)),
  λ asks.
      let one : Some own ≡ Some e = sym (ap (request_epoch t m asks.0 tracker) is) ∙ asks.1 in
      let its : own ≡ e = cc in
      same.1 its,
)

pub asks_issued : (t : TargetPlan) (m : TargetMemory) (tracker : Epoch) (ep : Option Epoch) (e : Epoch) (test : Bool) → ep ≡ None → Decides test (CanIssue t.me m.ticks tracker e) → Decides test (AsksAt (λ reading. request_epoch t m reading tracker ep) e)
asks_issued t m tracker ep e test is same = (
  λ h. (let can = same.0 h in (can.0, ap (request_epoch t m can.0 tracker) is ∙ can.1)),
  λ asks. same.1 (asks.0, sym (ap (request_epoch t m asks.0 tracker) is) ∙ asks.1),
)

pub tells_issued : (ep : Option Epoch) (issued : Option (AttemptId × Epoch)) (o : Option Epoch) → ep ≡ None → o ≡ epoch_of_issue issued → TellsEpoch ep issued o
tells_issued ep None o none is = subst (TellsEpoch ep None) (sym is) (none, refl)
tells_issued ep (Some i) o none is = subst (TellsEpoch ep (Some i)) (sym is) (inr (none, (i.0, refl)))
