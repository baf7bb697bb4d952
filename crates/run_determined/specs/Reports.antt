-- Reports of runs in one order are one, where their clocks gave the same and their turns left the same open.
use Rattle.std.specs.Prelude.{ℕ, ◌≡◌, ◌⊎◌, ◌≤◌, ◌<◌, ◌+◌, ◌-◌, ◌^◌, List, [], ◌∷◌, length, map, slice_get, Option, Some, None, refl}
use Rattle.std.specs.Option.{option_map}
use Rattle.std.proofs.Common.{zero, suc, inl, inr, sym, ◌∙◌, ap, ap₂, subst, arith}
use Rattle.std.proofs.lemmas.Bool.{cases_order}
use Rattle.std.proofs.lemmas.Option.{slice_get-map, slice_get_past, slice_get_within}
use Rattle.base_types.specs.declared.report.Report.{Report}
use Rattle.base_types.specs.declared.script.Command.{Command}
use Rattle.daos_model.specs.declared.durable.Durable.{Durable}
use Rattle.base_types.specs.declared.snapshot.Snap.{Snap}
use Rattle.daos_model.specs.FormLaws.{length-map}
use Rattle.daos_model.specs.Opening.{Given}
use Rattle.model_laws.specs.Lists.{at-within}
use Rattle.run_determined.specs.Failing.{fails-none_beyond}
use Rattle.run_determined.specs.Knowing.{runs-have_targets}
use Rattle.run_determined.specs.Orders.{AreOneRun, LeaveTheSame, NeverFails, ReadTheSame, orders-are_one}
use Rattle.run_laws.specs.Below.{durable_of, durables_of, first_tracker, rules_of, snaps_held}
use Rattle.run_laws.specs.ends.Comes.{FollowsOrder, IsAsStored, IsOrdered, cuts_and_failures_in, memory_at_first}
use Rattle.run_laws.specs.shows.Accounts.{stop_lines_of}
use Rattle.run_laws.specs.turns.OrderLaws.{orders-are-runs}
use Rattle.vos_store.specs.Calls.{State}
use Rattle.world_base.specs.declared.target.Life.TheVariants.{Running}
use Rattle.world_base.specs.declared.target.TargetState.{TargetState}
use Rattle.world_base.specs.declared.world.World.{World}
use Rattle.world_base.specs.ClientTurns.{at_first}
use Rattle.world_determined.specs.Worlds.{SameButFree, but_free, target_but_free}

-- ---- the statements

-- what a run is given, with other free blocks
abbrev pub with_free : (ℕ → ℕ) → Given → Given
with_free free g = record g { opening = record g.opening { free = free } }

-- the targets of two worlds are the same but for free blocks
abbrev pub HaveSameTargets : World → World → Type 0
HaveSameTargets w v = (t : ℕ) (s z : TargetState) → slice_get w.targets t ≡ Some s → slice_get v.targets t ≡ Some z → target_but_free s ≡ target_but_free z

-- The runs that two reports follow tell the same and leave the same behind, and each target's clock gave the same in both.
pub record TellOneRun {g : Given} {free : ℕ → ℕ} {q p : Report} (f : FollowsOrder g q) (h : FollowsOrder (with_free free g) p) : Type 0 where
  pub lines : q.lines ≡ p.lines
  pub kept : durables_of f.last ≡ durables_of h.last
  pub run : AreOneRun f.run h.run

-- Two reports of runs of one script and one job, which begin with targets that are the same but for free blocks, are one, where the clocks gave the
-- same and the turns left the same open, as far as both go.
abbrev pub ReportsAreOne : Type 0
ReportsAreOne =
    (g : Given) (free : ℕ → ℕ) (q p : Report) (f : FollowsOrder g q) (h : FollowsOrder (with_free free g) p) → HaveSameTargets f.first h.first → ReadTheSame f.run h.run → LeaveTheSame f.run h.run → TellOneRun f h

-- Where of each target no more turns are cut, and no more openings fail, than the script has stop lines for it, none is cut and none fails of a script
-- without stop lines.
abbrev pub UnaskedNeverFail : Type 0
UnaskedNeverFail = (g : Given) (q : Report) (f : FollowsOrder g q) → ((t : ℕ) → t < g.script.targets → cuts_and_failures_in g q f t ≤ stop_lines_of t g.script.stops) → g.script.stops ≡ [] → NeverFails f.run

-- Of two stores each tells what it keeps and the floor of its last opening, and both the same.
pub record AreStoredAlike {S T : Type 0} (durable : S → Option Durable) (state : S → State) (other : T → Option Durable) (others : T → State) (xs : List S) (ys : List T) : Type 0 where
  pub many : length xs ≡ length ys
  pub kept : (t : ℕ) (x : S) (y : T) → slice_get xs t ≡ Some x → slice_get ys t ≡ Some y → durable x ≡ other y
  pub floors : (t : ℕ) (x : S) (y : T) → slice_get xs t ≡ Some x → slice_get ys t ≡ Some y → (state x).opening ≡ (others y).opening

-- The runs of reports over such stores begin with such targets.
abbrev pub StoresBeginAlike : {S T : Type 0} → (S → Option Durable) → (S → State) → (S → Durable → Type 0) → (T → Option Durable) → (T → State) → (T → Durable → Type 0) → Type 0
StoresBeginAlike {S} {T} durable state may other others found =
    (g : Given) (free : ℕ → ℕ) (q p : Report) (xs ys : List S) (zs us : List T) (k : IsOrdered durable state may g q xs ys) (l : IsOrdered other others found (with_free free g) p zs us)
    → length xs ≡ g.script.targets → AreStoredAlike durable state other others xs zs → HaveSameTargets k.follows.first l.follows.first

-- no count of a store rose, or stands at the end of its range
abbrev pub NoneRose : {S : Type 0} → (S → State) → List S → List S → Type 0
NoneRose {S} state xs ys =
    (t : ℕ) (x y : S) → slice_get xs t ≡ Some x → slice_get ys t ≡ Some y → ((state y).faults ≡ (state x).faults) × ((state y).burns ≡ (state x).burns) × ((state y).faults < 2 ^ 64 - 1) × ((state y).burns < 2 ^ 64 - 1)

-- Where none rose no turn was cut, and no opening failed.
abbrev pub UnrisenNeverFail : {S : Type 0} → (S → Option Durable) → (S → State) → (S → Durable → Type 0) → Type 0
UnrisenNeverFail {S} durable state may =
    (g : Given) (q : Report) (xs ys : List S) (k : IsOrdered durable state may g q xs ys)
    → length xs ≡ g.script.targets → length ys ≡ g.script.targets → NoneRose state xs ys → NeverFails k.follows.run

-- ---- the beginning

lists-one : (ss zs : List TargetState) → length ss ≡ length zs → ((t : ℕ) (s z : TargetState) → slice_get ss t ≡ Some s → slice_get zs t ≡ Some z → target_but_free s ≡ target_but_free z) → map target_but_free ss ≡ map target_but_free zs
lists-one [] [] many each = refl
lists-one [] (z ∷ zs) many each = absurd (omega (arith, many))
lists-one (s ∷ ss) [] many each = absurd (omega (arith, many))
lists-one (s ∷ ss) (z ∷ zs) many each = ap₂ (λ (x : TargetState) (xs : List TargetState). x ∷ xs) (each 0 s z refl refl) (lists-one ss zs (omega (arith, many)) (λ t x y at there. each (suc t) x y at there))

snaps-but_free : (o : Option TargetState) → snaps_held (option_map target_but_free o) ≡ snaps_held o
snaps-but_free None = refl
snaps-but_free (Some s) = refl

durables-but_free : (ss : List TargetState) → map durable_of (map target_but_free ss) ≡ map durable_of ss
durables-but_free [] = refl
durables-but_free (s ∷ ss) = ap (λ (ds : List Durable). s.durable ∷ ds) (durables-but_free ss)

worlds-one : (w v : World) → map target_but_free w.targets ≡ map target_but_free v.targets → w.clients ≡ v.clients → w.messages ≡ v.messages → w.asked ≡ v.asked → w.issued ≡ v.issued → w.numbers ≡ v.numbers → w.lines ≡ v.lines → SameButFree w v
worlds-one w v targets clients messages asked issued numbers lines = cc

module _ (g : Given) (free : ℕ → ℕ) (q p : Report) (f : FollowsOrder g q) (h : FollowsOrder (with_free free g) p) where
  begin-one : HaveSameTargets f.first h.first → SameButFree f.first h.first
  begin-one each =
      worlds-one f.first h.first targets clients (f.begins.begins.messages ∙ sym h.begins.begins.messages) (f.begins.begins.asked ∙ sym h.begins.begins.asked) (f.begins.begins.issued ∙ sym h.begins.begins.issued) (f.numbers ∙ sym h.numbers)
      (f.begins.begins.lines ∙ sym h.begins.begins.lines)
    where
      targets : map target_but_free f.first.targets ≡ map target_but_free h.first.targets
      targets = lists-one f.first.targets h.first.targets (f.begins.begins.targets ∙ sym h.begins.begins.targets) each

      snaps : snaps_held (slice_get f.first.targets 0) ≡ snaps_held (slice_get h.first.targets 0)
      snaps =
          sym (snaps-but_free (slice_get f.first.targets 0)) ∙ ap snaps_held (sym (slice_get-map target_but_free f.first.targets 0)) ∙ ap (λ (ss : List TargetState). snaps_held (slice_get ss 0)) targets
          ∙ ap snaps_held (slice_get-map target_but_free h.first.targets 0) ∙ snaps-but_free (slice_get h.first.targets 0)

      clients : f.first.clients ≡ h.first.clients
      clients = f.begins.begins.clients ∙ ap (λ (held : List Snap). map (λ (commands : List Command). at_first g.script held (first_tracker g.opening)) g.script.clients) snaps ∙ sym h.begins.begins.clients

  pub report-one : HaveSameTargets f.first h.first → ReadTheSame f.run h.run → LeaveTheSame f.run h.run → TellOneRun f h
  report-one each reads leaves =
      let one = orders-are_one (rules_of g) g.opening (with_free free g).opening g.job.order f.first h.first f.last h.last f.run h.run f.begins h.begins (begin-one each) reads leaves in
      record {
        lines = f.lines ∙ ap (λ (x : World). x.lines) one.same ∙ sym h.lines;
        kept = sym (durables-but_free f.last.targets) ∙ ap durables_of one.same ∙ durables-but_free h.last.targets;
        run = one;
      }

pub reports-are_one : ReportsAreOne
reports-are_one g free q p f h each reads leaves = report-one g free q p f h each reads leaves

-- ---- stores

stored-one : {S T : Type 0} (durable : S → Option Durable) (state : S → State) (other : T → Option Durable) (others : T → State) (x : S) (y : T) (s z : TargetState) → IsAsStored durable state x s → IsAsStored other others y z
    → durable x ≡ other y → (state x).opening ≡ (others y).opening → target_but_free s ≡ target_but_free z
stored-one {S} {T} durable state other others x y s z k l kept floor =
    let both : Some s.durable ≡ Some z.durable = sym k.kept ∙ kept ∙ l.kept in
    let one : s.durable ≡ z.durable = cc (both) in
    ap target_but_free k.as_it_is ∙ ap₂ (λ d o. record { durable = d; free = 0; opening = o; life = Running; memory = memory_at_first d }) one floor ∙ sym (ap target_but_free l.as_it_is)

pub stores-begin_alike : {S T : Type 0} (durable : S → Option Durable) (state : S → State) (may : S → Durable → Type 0) (other : T → Option Durable) (others : T → State) (found : T → Durable → Type 0) → StoresBeginAlike durable state may other others found
stores-begin_alike {S} {T} durable state may other others found g free q p xs ys zs us k l many alike t s z here there =
    let low : t < length xs = let a = slice_get_within k.follows.first.targets t s here in let b = k.follows.begins.begins.targets in omega (arith, a, b, many) in
    let x = at-within xs t low in
    let y = at-within zs t (let same = alike.many in omega (arith, same, low)) in
    stored-one durable state other others x.0 y.0 s z (k.begins t x.0 s x.1 here) (l.begins t y.0 z y.1 there) (alike.kept t x.0 y.0 x.1 y.1) (alike.floors t x.0 y.0 x.1 y.1)

at-or_past : (n t : ℕ) → (t < n) ⊎ (n ≤ t)
at-or_past n t = elim (cases_order t n) [
  | inl same ↦ inr (omega (arith, same))
  | inr other ↦ elim other [ inl less ↦ inl less | inr more ↦ inr (omega (arith, more)) ]
]

pub unasked-never_fail : UnaskedNeverFail
unasked-never_fail g q f few none t = elim (at-or_past g.script.targets t) [
  | inl low ↦ (let lines : stop_lines_of t g.script.stops ≡ 0 = ap (stop_lines_of t) none in let most = few t low in omega (arith, lines, most))
  | inr past ↦ fails-none_beyond (rules_of g) f.first f.last t (orders-are-runs (rules_of g) g.job.order f.first f.last f.run) (λ v run. let m = runs-have_targets (rules_of g) g.opening f.first v f.begins run in omega (arith, m, past))
]

none-more : (n fx bx fy by' : ℕ) → fy ≡ fx → by' ≡ bx → n + fx + bx ≤ fy + by' → n ≡ 0
none-more n fx bx fy by' faults burns k = omega (arith, faults, burns, k)

pub unrisen-never_fail : {S : Type 0} (durable : S → Option Durable) (state : S → State) (may : S → Durable → Type 0) → UnrisenNeverFail durable state may
unrisen-never_fail {S} durable state may g q xs ys k many still none t = elim (at-or_past (length xs) t) [
  | inl low ↦
      let x = at-within xs t low in
      let y = at-within ys t (omega (arith, low, many, still)) in
      let rose = none t x.0 y.0 x.1 y.1 in
      let a = rose.0 in let b = rose.1 in let c = rose.2 in let d = rose.3 in
      elim (k.faults t x.0 y.0 x.1 y.1) [
        | inl end ↦ absurd (omega (arith, end, c))
        | inr more ↦ elim more [
          | inl end ↦ absurd (omega (arith, end, d))
          | inr within ↦ none-more _ _ _ _ _ a b within
        ]
      ]
  | inr past ↦ fails-none_beyond (rules_of g) k.follows.first k.follows.last t (orders-are-runs (rules_of g) g.job.order k.follows.first k.follows.last k.follows.run)
      (λ v run. let m = runs-have_targets (rules_of g) g.opening k.follows.first v k.follows.begins run in omega (arith, m, many, past))
]
