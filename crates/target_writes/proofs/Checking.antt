-- Writes are checked one after another: what one more check makes of what the checks before it say.
use Rattle.std.proofs.Common.{ℕ, ◌≡◌, ◌<◌, ◌≤◌, ◌+◌, ◌++◌, refl, sym, ◌∙◌, ap, subst, Bool, true, false, nat_le, nat_lt, List, [], ◌∷◌, length, take, get_or, Option, Some, None, arith, append_assoc}
use Rattle.std.specs.Prelude.{if◌then◌else◌}
use Rattle.std.proofs.lemmas.Bool.Decides.{nat_tests}
use Rattle.std.proofs.lemmas.List.{take_all, take_more}
use Rattle.std.proofs.lemmas.List.Elements.{All-push}
use Rattle.base_types.specs.declared.epoch.Epoch.{Epoch}
use Rattle.base_types.specs.declared.operation.MinorWrite.{MinorWrite}
use Rattle.base_types.specs.declared.outcome.Cause.{Cause}
use Rattle.base_types.specs.declared.outcome.Cause.TheVariants.{Floor}
use Rattle.base_types.specs.declared.outcome.FloorWhy.{FloorWhy}
use Rattle.base_types.specs.declared.shown.Shown.{Shown}
use Rattle.base_types.specs.Operations.{write_path}
use Rattle.daos_model.specs.declared.durable.Durable.{Durable}
use Rattle.vos_stamp.specs.Stamps.{ElseReadThenWrite, IsShown, NoneAgainst, check_of, first_cause, floor_cause, later_cause, read_later}
use Rattle.vos_stamp.specs.Stamps as stamp
use Rattle.vos_store.specs.Answers.{floor_of}
use Rattle.world_base.specs.declared.target.TargetPlan.{TargetPlan}
use Rattle.world_base.specs.Commits.{ByFloor, ByRead, ByWrite, FirstRead, NoReads, first_floor, first_later, or_else}
use Rattle.world_base.specs.Reads.{later_of}
use Rattle.target_writes.specs.Checks.{Checks, ChecksOne}

-- ---- which of two causes is told

first_takes : (b c : Cause) → check_of c < check_of b → Some c ≡ first_cause (Some b) (Some c)
first_takes b c less =
    let test : nat_lt (check_of c) (check_of b) ≡ true = grind (arith, nat_tests) in
    ap (λ (y : Bool). if y then Some c else Some b) (sym test)

first_stays : (b : Cause) (c : Option Cause) → ((x : Cause) → c ≡ Some x → check_of b ≤ check_of x) → Some b ≡ first_cause (Some b) c
first_stays b None late = refl
first_stays b (Some x) late =
    let le : check_of b ≤ check_of x = late x refl in
    let test : nat_lt (check_of x) (check_of b) ≡ false = grind (arith, nat_tests) in
    ap (λ (y : Bool). if y then Some x else Some b) (sym test)

-- that of the first check stays
first_of_all : (b : Cause) (c : Option Cause) → check_of b ≡ 0 → Some b ≡ first_cause (Some b) c
first_of_all b c zero = first_stays b c (λ x is. omega (arith, zero))

read-second : (r : Shown) (x : Cause) → Some (read_later r) ≡ Some x → check_of x ≡ 1
read-second r x is = let same : read_later r ≡ x = cc in ap (λ y. check_of y) (sym same)

write-third : (later : Option Shown) (x : Cause) → later_cause later ≡ Some x → check_of x ≡ 2
write-third None x is = absurd (let n : ⊥ = cc in n)
write-third (Some v) x is = let same : stamp.write_later v ≡ x = cc in ap (λ y. check_of y) (sym same)

-- ---- the first of a list, and one more

or_none : {A : Type 0} (x : Option A) → or_else x None ≡ x
or_none None = refl
or_none (Some x) = refl

or_assoc : {A : Type 0} (x y z : Option A) → or_else x (or_else y z) ≡ or_else (or_else x y) z
or_assoc None y z = refl
or_assoc (Some x) y z = refl

module _ (t : TargetPlan) (opening : Epoch × FloorWhy) (first : Option Epoch) (e : Epoch) (d : Durable) (stamps : List Shown) where
  abbrev floor_at : MinorWrite → Option Cause
  floor_at w = floor_cause t.me e.0 (floor_of opening d (write_path w.write).cont)

  abbrev later_at : MinorWrite → Option Shown
  later_at w = later_of t first e (write_path w.write) d

  abbrev So : List MinorWrite → Option Cause → Type 0
  So ws cause = Checks t opening first e d stamps ws cause

  floor-more : (ws : List MinorWrite) (w : MinorWrite) → first_floor t opening e d (ws ++ w ∷ []) ≡ or_else (first_floor t opening e d ws) (floor_at w)
  unfolding first_floor
  floor-more [] w = or_none (floor_at w)
  floor-more (v ∷ ws) w = ap (λ x. or_else (floor_at v) x) (floor-more ws w) ∙ or_assoc (floor_at v) (first_floor t opening e d ws) (floor_at w)

  later-more : (ws : List MinorWrite) (w : MinorWrite) → first_later t first e d (ws ++ w ∷ []) ≡ or_else (first_later t first e d ws) (later_at w)
  unfolding first_later
  later-more [] w = or_none (later_at w)
  later-more (v ∷ ws) w = ap (λ x. or_else (later_at v) x) (later-more ws w) ∙ or_assoc (later_at v) (first_later t first e d ws) (later_at w)

  -- a floor refuses the writes so far, or none does
  floor-on : (ws : List MinorWrite) (w : MinorWrite) (f : Option Cause) → first_floor t opening e d ws ≡ f → first_floor t opening e d (ws ++ w ∷ []) ≡ or_else f (floor_at w)
  floor-on ws w f is = floor-more ws w ∙ ap (λ x. or_else x (floor_at w)) is

  later-on : (ws : List MinorWrite) (w : MinorWrite) (x : Option Shown) → first_later t first e d ws ≡ x → first_later t first e d (ws ++ w ∷ []) ≡ or_else x (later_at w)
  later-on ws w x is = later-more ws w ∙ ap (λ y. or_else y (later_at w)) is

  -- the cause of a floor is of the first check
  floor-first : (f : Epoch × FloorWhy) (c : Cause) → floor_cause t.me e.0 f ≡ Some c → check_of c ≡ 0
  floor-first f c is = by (nat_le e.0 f.0.0) is
    where
      by : (b : Bool) → (if b then Some (Floor t.me f.0 f.1) else None) ≡ Some c → check_of c ≡ 0
      by true h = let same : Floor t.me f.0 f.1 ≡ c = cc in ap (λ y. check_of y) (sym same)
      by false h = absurd (let n : ⊥ = cc in n)

  first-floor : (ws : List MinorWrite) (c : Cause) → first_floor t opening e d ws ≡ Some c → check_of c ≡ 0
  unfolding first_floor
  first-floor [] c is = absurd (let n : ⊥ = cc in n)
  first-floor (v ∷ ws) c is = by (floor_at v) refl (first-floor ws c) is
    where
      by : (f : Option Cause) → floor_at v ≡ f → (first_floor t opening e d ws ≡ Some c → check_of c ≡ 0) → or_else f (first_floor t opening e d ws) ≡ Some c → check_of c ≡ 0
      by None at rest h = rest h
      by (Some x) at rest h = floor-first (floor_of opening d (write_path v.write).cont) c (at ∙ h)

  reads-more : (ws : List MinorWrite) (w : MinorWrite) → NoReads e stamps ws → NoneAgainst (write_path w.write) e.0 stamps → NoReads e stamps (ws ++ w ∷ [])
  reads-more ws w before none = All-push (λ v. NoneAgainst (write_path v.write) e.0 stamps) ws w before none

  read-more : (ws : List MinorWrite) (w : MinorWrite) (r : Shown) → FirstRead e stamps ws r → FirstRead e stamps (ws ++ w ∷ []) r
  read-more ws w r f = record {
    before = f.before;
    w = f.w;
    after = f.after ++ w ∷ [];
    among = ap (λ xs. xs ++ w ∷ []) f.among ∙ append_assoc f.before (f.w ∷ f.after) (w ∷ []);
    none_before = f.none_before;
    shown = f.shown;
  }

  read-new : (ws : List MinorWrite) (w : MinorWrite) (r : Shown) → NoReads e stamps ws → IsShown (write_path w.write) e.0 stamps r → FirstRead e stamps (ws ++ w ∷ []) r
  read-new ws w r none shown = record { before = ws; w = w; after = []; among = refl; none_before = none; shown = shown }

  -- ---- the next write is refused by a floor

  floor-next : (ws : List MinorWrite) (w : MinorWrite) (f : Cause) → floor_at w ≡ Some f → (refused : Option Cause) → So ws refused → So (ws ++ w ∷ []) (first_cause refused (Some f))
  floor-next ws w f is None allowed = ByFloor (floor-on ws w None allowed.floors ∙ is)
  floor-next ws w f is (Some c) (ByFloor found) = subst (So (ws ++ w ∷ [])) (first_of_all c (Some f) (first-floor ws c found)) (ByFloor (floor-on ws w (Some c) found))
  floor-next ws w f is (Some c) (ByRead none r read told) =
      let zero = floor-first (floor_of opening d (write_path w.write).cont) f is in
      let one : check_of c ≡ 1 = ap (λ y. check_of y) told in
      subst (So (ws ++ w ∷ [])) (first_takes c f (omega (arith, zero, one))) (ByFloor (floor-on ws w None none ∙ is))
  floor-next ws w f is (Some c) (ByWrite none reads v found told) =
      let zero = floor-first (floor_of opening d (write_path w.write).cont) f is in
      let two : check_of c ≡ 2 = ap (λ y. check_of y) told in
      subst (So (ws ++ w ∷ [])) (first_takes c f (omega (arith, zero, two))) (ByFloor (floor-on ws w None none ∙ is))

  -- ---- no floor refuses it, but a later read

  read-next : (ws : List MinorWrite) (w : MinorWrite) (r : Shown) → floor_at w ≡ None → IsShown (write_path w.write) e.0 stamps r → (refused : Option Cause) → So ws refused
      → So (ws ++ w ∷ []) (first_cause refused (Some (read_later r)))
  read-next ws w r is shown None allowed = ByRead (floor-on ws w None allowed.floors ∙ is) r (read-new ws w r allowed.reads shown) refl
  read-next ws w r is shown (Some c) (ByFloor found) =
      subst (So (ws ++ w ∷ [])) (first_of_all c (Some (read_later r)) (first-floor ws c found)) (ByFloor (floor-on ws w (Some c) found))
  read-next ws w r is shown (Some c) (ByRead none q read told) =
      let one : check_of c ≡ 1 = ap (λ y. check_of y) told in
      subst (So (ws ++ w ∷ [])) (first_stays c (Some (read_later r)) (λ x same. let also = read-second r x same in omega (arith, one, also)))
      (ByRead (floor-on ws w None none ∙ is) q (read-more ws w q read) told)
  read-next ws w r is shown (Some c) (ByWrite none reads v found told) =
      let two : check_of c ≡ 2 = ap (λ y. check_of y) told in
      let one : check_of (read_later r) ≡ 1 = refl in
      subst (So (ws ++ w ∷ [])) (first_takes c (read_later r) (omega (arith, one, two)))
      (ByRead (floor-on ws w None none ∙ is) r (read-new ws w r reads shown) refl)

  -- ---- neither does, but perhaps a later write

  write-next : (ws : List MinorWrite) (w : MinorWrite) → floor_at w ≡ None → NoneAgainst (write_path w.write) e.0 stamps → (later : Option Shown) → later_at w ≡ later → (refused : Option Cause) → So ws refused
      → So (ws ++ w ∷ []) (first_cause refused (later_cause later))
  write-next ws w is none None at None allowed = record {
    floors = floor-on ws w None allowed.floors ∙ is;
    reads = reads-more ws w allowed.reads none;
    writes = later-on ws w None allowed.writes ∙ at;
  }
  write-next ws w is none (Some v) at None allowed =
      ByWrite (floor-on ws w None allowed.floors ∙ is) (reads-more ws w allowed.reads none) v (later-on ws w None allowed.writes ∙ at) refl
  write-next ws w is none later at (Some c) (ByFloor found) =
      subst (So (ws ++ w ∷ [])) (first_of_all c (later_cause later) (first-floor ws c found)) (ByFloor (floor-on ws w (Some c) found))
  write-next ws w is none later at (Some c) (ByRead above q read told) =
      let one : check_of c ≡ 1 = ap (λ y. check_of y) told in
      subst (So (ws ++ w ∷ [])) (first_stays c (later_cause later) (λ x same. let two = write-third later x same in omega (arith, one, two)))
      (ByRead (floor-on ws w None above ∙ is) q (read-more ws w q read) told)
  write-next ws w is none later at (Some c) (ByWrite above reads v found told) =
      let two : check_of c ≡ 2 = ap (λ y. check_of y) told in
      subst (So (ws ++ w ∷ [])) (first_stays c (later_cause later) (λ x same. let also = write-third later x same in omega (arith, two, also)))
      (ByWrite (floor-on ws w None above ∙ is) (reads-more ws w reads none) v (later-on ws w (Some v) found) told)

  -- ---- whatever the check of the next write says

  checks-more : (ws : List MinorWrite) (w : MinorWrite) (refused cause : Option Cause) → So ws refused → ChecksOne t opening first e d stamps (write_path w.write) cause
      → So (ws ++ w ∷ []) (first_cause refused cause)
  checks-more ws w refused cause so_far said = by (floor_at w) refl said
    where
      by : (f : Option Cause) → floor_at w ≡ f → ElseReadThenWrite (write_path w.write) e.0 stamps (later_at w) f cause → So (ws ++ w ∷ []) (first_cause refused cause)
      by (Some f) is told = subst (λ c. So (ws ++ w ∷ []) (first_cause refused c)) (sym told) (floor-next ws w f is refused so_far)
      by None is (stamp.ByRead r shown told) = subst (λ c. So (ws ++ w ∷ []) (first_cause refused c)) (sym told) (read-next ws w r is shown refused so_far)
      by None is (stamp.ByWrite none told) = subst (λ c. So (ws ++ w ∷ []) (first_cause refused c)) (sym told) (write-next ws w is none (later_at w) refl refused so_far)

  -- ---- along the list

  pub checks-none : So [] None
  unfolding first_floor first_later
  checks-none = record { floors = refl; reads = λ k w lt. absurd (omega arith); writes = refl }

  pub checks-next : (ws : List MinorWrite) (i : ℕ) (w : MinorWrite) (p : Option Cause) (cause : Option Cause) (now : Option Cause) → So (take i ws) p → i < length ws → w ≡ get_or ws i w
      → ChecksOne t opening first e d stamps (write_path w.write) cause → now ≡ first_cause p cause → So (take (i + 1) ws) now
  checks-next ws i w p cause now so_far lt is said first_is =
      subst (λ xs. So xs now) (sym (take_more ws i w lt ∙ ap (λ y. take i ws ++ y ∷ []) (sym is)))
      (subst (λ c. So (take i ws ++ w ∷ []) c) (sym first_is) (checks-more (take i ws) w p cause so_far said))

  pub checks-all : (ws : List MinorWrite) (i : ℕ) (cause : Option Cause) → length ws ≤ i → So (take i ws) cause → So ws cause
  checks-all ws i cause le said = subst (λ xs. So xs cause) (take_all i ws le) said
