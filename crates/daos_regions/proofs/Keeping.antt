-- What a rack of regions in memory keeps, from call to call.
use Rattle.std.proofs.Common.{◌≡◌, ◌≢◌, ℕ, ◌≤◌, Bool, true, false, List, Option, Some, None, set, refl, sym, ap, ◌∙◌, subst, arith}
use Rattle.std.specs.Prelude.{slice_get, unwrap_or, Result, Ok, Err, OnErr, is_ok}
use Rattle.std.specs.Option.{option_flatten}
use Rattle.base_outside.specs.Racks.{at_home, is_away, IsKept, set_other, put_home, take_away}
use Rattle.daos_regions.specs.MemState.{MemState}
use Rattle.daos_regions.specs.Periods.{DiskState, MayLeave, read_now}
use Rattle.daos_regions.specs.PeriodLaws.{after_end, end_may_leave}
use Rattle.daos_regions.specs.declared.keep.Keep.{Keep}
use Rattle.daos_regions.specs.MemRackState.{no_region, kept_region, opened_image, is_out_of_home, HoldsBack, KeepsOthers, TakesBack}

kept_stays : (m m' : MemState) (out out' : Bool) → m' ≡ m → out' ≡ out → IsKept (opened_image m) (opened_image m') (MayLeave m.disk) (MayLeave m'.disk) m.calls.faults m'.calls.faults m.disk.size m'.disk.size out out'
kept_stays m m' out out' same stays = record {
  same_image = ap opened_image same;
  crash = λ c now. subst (λ (n : MemState). MayLeave n.disk c) same now;
  same_faults = ap (λ (n : MemState). n.calls.faults) same;
  same_size = ap (λ (n : MemState). n.disk.size) same;
  stays = stays;
}

-- the regions of all other targets are the same
pub others_by : (xs ys : List (Option MemState)) (t : ℕ) → ((u : ℕ) → u ≢ t → slice_get ys u ≡ slice_get xs u) → KeepsOthers xs ys t
others_by xs ys t same u ne =
    kept_stays (kept_region xs u) (kept_region ys u) (is_out_of_home xs u) (is_out_of_home ys u)
    (ap (λ o. unwrap_or (option_flatten o) no_region) (same u ne)) (ap is_away (same u ne))

pub others_set : (xs ys : List (Option MemState)) (t : ℕ) (y : Option MemState) → ys ≡ set xs t y → KeepsOthers xs ys t
others_set xs ys t y is = others_by xs ys t (λ u ne. ap (λ zs. slice_get zs u) is ∙ set_other xs t u y ne)

pub others_twice : (xs ys zs : List (Option MemState)) (t : ℕ) (x y : Option MemState) → ys ≡ set xs t x → zs ≡ set ys t y → KeepsOthers xs zs t
others_twice xs ys zs t x y one two =
    others_by xs zs t (λ u ne. ap (λ ws. slice_get ws u) two ∙ (set_other ys t u y ne ∙ (ap (λ ws. slice_get ws u) one ∙ set_other xs t u x ne)))

home_is_not_away : (o : Option (Option MemState)) (m : MemState) → option_flatten o ≡ Some m → is_away o ≡ false
home_is_not_away None m home = refl
home_is_not_away (Some None) m home = absurd (cc)
home_is_not_away (Some (Some x)) m home = refl

same_opened : (m y : MemState) → y.disk ≡ m.disk → y.keep ≡ m.keep → opened_image y ≡ opened_image m
same_opened m y disk keep =
    ap (λ (d : DiskState). read_now (after_end d y.keep)) disk ∙ ap (λ (k : Keep). read_now (after_end m.disk k)) keep

-- a region was taken out and put in again, with the same disk
pub held_back : (xs ys zs : List (Option MemState)) (t : ℕ) (m y : MemState) → at_home xs t ≡ Some m → ys ≡ set xs t None → zs ≡ set ys t (Some y) → y.disk ≡ m.disk → y.keep ≡ m.keep → m.calls.faults ≤ y.calls.faults → HoldsBack xs zs t
held_back xs ys zs t m y home one two disk keep later =
    let there : slice_get zs t ≡ Some (Some y) = ap (λ ws. slice_get ws t) two ∙ put_home ys t y (ap (λ ws. is_away (slice_get ws t)) one ∙ ap is_away (take_away xs t m home)) in
    let old : kept_region xs t ≡ m = ap (λ o. unwrap_or o no_region) home in
    let new : kept_region zs t ≡ y = ap (λ o. unwrap_or (option_flatten o) no_region) there in
    let same : (kept_region zs t).disk ≡ (kept_region xs t).disk = ap (λ (n : MemState). n.disk) new ∙ (disk ∙ sym (ap (λ (n : MemState). n.disk) old)) in
    let before = ap (λ (n : MemState). n.calls.faults) old in
    let after = ap (λ (n : MemState). n.calls.faults) new in
    record {
      same_image = ap opened_image new ∙ (same_opened m y disk keep ∙ sym (ap opened_image old));
      crash = λ c now. subst (λ (d : DiskState). MayLeave d c) same now;
      later = omega (arith, before, after, later);
      same_size = ap (λ (d : DiskState). d.size) same;
      stays = ap is_away there ∙ sym (home_is_not_away (slice_get xs t) m home);
    }

-- a region was taken back
pub taken_back : (xs ys : List (Option MemState)) (t : ℕ) (m : MemState) → ys ≡ set xs t (Some m) → is_out_of_home xs t ≡ true → TakesBack m ys t
taken_back xs ys t m is out =
    let there : slice_get ys t ≡ Some (Some m) = ap (λ ws. slice_get ws t) is ∙ put_home xs t m out in
    let new : kept_region ys t ≡ m = ap (λ o. unwrap_or (option_flatten o) no_region) there in
    record {
      reads = subst (λ (n : MemState). MayLeave m.disk (opened_image n)) (sym new) (end_may_leave m.disk m.keep);
      crash = λ c now. subst (λ (n : MemState). MayLeave n.disk c) new now;
      same_faults = ap (λ (n : MemState). n.calls.faults) new;
      same_size = ap (λ (n : MemState). n.disk.size) new;
      home = ap is_away there;
    }

pub when_not_ok : {T E : Type 0} {A : Type 0} (r : Result T E) (b : Bool) → b ≡ is_ok r → b ≡ false → OnErr r A → A
when_not_ok (Ok x) b is off a = absurd (cc)
when_not_ok (Err e) b is off a = a
