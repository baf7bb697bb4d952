-- An entry comes into a log, or in the place of a creation.
use Rattle.std.proofs.Common.{◌≡◌, ℕ, ◌==◌, ◌&&◌, Bool, true, false, List, [], ◌∷◌, Option, Some, None, refl, sym, ap, ◌∙◌, subst, arith}
use Rattle.std.specs.Prelude.{if◌then◌else◌}
use Rattle.std.specs.List.{find, list_any}
use Rattle.std.proofs.lemmas.Bool.Decides.{nat_tests}
use Rattle.pmem_pages.specs.Blocks.{Blocks}
use Rattle.pmem_pages.specs.Owners.{Changed, Holds, maybe, times}
use Rattle.pmem_pages.specs.Shape.{IsTree, entries}
use Rattle.pmem_pages.specs.declared.node.TreeKey.{TreeKey}
use Rattle.pmem_pages.specs.declared.node.Value.{Value}
use Rattle.vos_values.specs.declared.keys.Moment.{Moment}
use Rattle.vos_values.specs.Keys.{IsAttempt, IsMoment, moment_key}
use Rattle.vos_extent.specs.vos_levels.Calls.{Becomes}
use Rattle.vos_extent.specs.vos_levels.Levels.{hung_root, in_none, is_level, things}
use Rattle.vos_extent.specs.vos_levels.Moments.{same_moment}
use Rattle.vos_extent.proofs.vos_levels.Changing.{hung_tree}
use Rattle.vos_extent.proofs.vos_levels.Moments.{moment_level}
use Rattle.vos_extent.proofs.vos_levels.Settling.{becomes_shown}
use Rattle.vos_extent.proofs.vos_levels.Spots.{first_false, then_false}
use Rattle.vos_extent.proofs.vos_levels.Testing.{AllGood, all_good}
use Rattle.vos_ilog.specs.declared.ilog.LogEntry.{LogEntry}
use Rattle.vos_ilog.specs.Logs.{IsLogEntry, Log, is_at, log_level, log_owner, moment_of, value_of_entry}
use Rattle.vos_path.specs.declared.stamp.Stamp.{Stamp}
use Rattle.vos_path.specs.Calls.{IsPut}
use Rattle.pmem_tree.specs.Changes.{PutAt}
use Rattle.vos_path.specs.Objects.{is_punch}
use Rattle.vos_path.specs.Writes.{IsNoted, fresh_entry, has_punch_at, is_punch_at}
use Rattle.vos_path.proofs.Lists.{filter_put}
use Rattle.vos_path.proofs.Putting.{hung_put}

pub log_tree : (m : Blocks) (kind root : ℕ) (g : Log) → kind ≡ 4 → Holds log_owner m g → root ≡ hung_root g → IsTree m kind root g.0
log_tree m kind root g e h at = subst (λ k. IsTree m k root g.0) (sym e) (hung_tree log_level m root g h at)

both_true : (s t : Bool) → (s && t) ≡ true → (s ≡ true) × (t ≡ true)
both_true true t h = (refl, h)
both_true false t h = absurd (let n : ⊥ = cc in n)

eq_true : (a b : ℕ) → (a == b) ≡ true → a ≡ b
eq_true a b h = grind (arith, nat_tests)

pub moments_same : (a b : Moment) → same_moment a b ≡ true → a ≡ b
moments_same a b h =
    let s = both_true (a.epoch.0 == b.epoch.0) (a.minor == b.minor) h in
    let e = eq_true a.epoch.0 b.epoch.0 s.0 in
    let f = eq_true a.minor b.minor s.1 in
    λ i. record { epoch = record { 0 = e i }; minor = f i }

log_exact : (at : Moment) → IsMoment at → (e : LogEntry) → IsLogEntry e → is_level log_level (moment_key at) e ≡ true → log_level.key e ≡ moment_key at
log_exact at h e good level = ap moment_key (moments_same (moment_of e) at (moment_level at (moment_of e) h good.moment ∙ level))

in_none_changes : (m : Blocks) (x : Option LogEntry) (b : LogEntry) → Changed (maybe in_none) m x m (Some b)
unfolding times
in_none_changes m None b = record { holds = record { here = tt; apart = λ q. omega arith }; outside = λ q x y. refl; taken = λ q x y. absurd (omega arith); given = λ q x y. absurd (omega arith) }
in_none_changes m (Some a) b = record { holds = record { here = tt; apart = λ q. omega arith }; outside = λ q x y. refl; taken = λ q x y. absurd (omega arith); given = λ q x y. absurd (omega arith) }

inside : {A : Type 0} (x y : A) → Some x ≡ Some y → x ≡ y
inside x y h = cc

first_fails : (s t : Bool) → (s && t) ≡ false → t ≡ true → s ≡ false
first_fails true t h k = absurd (let n : ⊥ = cc in n)
first_fails false t h k = refl

-- what stands at the moment is no punch
punch_fails : (at : Moment) → IsMoment at → (xs : List LogEntry) (a : LogEntry) → AllGood log_level xs → find (is_level log_level (moment_key at)) xs ≡ Some a → has_punch_at at xs ≡ false → is_punch a ≡ false
punch_fails at h [] a good found none = absurd (let n : ⊥ = cc in n)
punch_fails at h (x ∷ xs) a good found none = by (is_level log_level (moment_key at) x) refl found (λ f. punch_fails at h xs a good.1 f (then_false (is_punch_at at x) (list_any (is_punch_at at) xs) none))
  where
    by : (t : Bool) → is_level log_level (moment_key at) x ≡ t → (if t then Some x else find (is_level log_level (moment_key at)) xs) ≡ Some a → (find (is_level log_level (moment_key at)) xs ≡ Some a → is_punch a ≡ false) → is_punch a ≡ false
    by true e f r =
        let here = first_false (is_punch_at at x) (list_any (is_punch_at at) xs) none in
        ap is_punch (sym (inside x a f)) ∙ first_fails (is_punch x) (is_at at x) here (moment_level at (moment_of x) h good.0.moment ∙ e)
    by false e f r = r f

-- a look-up by the key finds the entry of the moment
found_same : (at : Moment) → IsMoment at → (xs : List LogEntry) → AllGood log_level xs → find (is_level log_level (moment_key at)) xs ≡ find (is_at at) xs
found_same at h [] good = refl
found_same at h (x ∷ xs) good =
    ap (λ (t : Bool). if t then Some x else find (is_level log_level (moment_key at)) xs) (sym (moment_level at (moment_of x) h good.0.moment))
    ∙ ap (λ z. if is_at at x then Some x else z) (found_same at h xs good.1)

pub log_noted : (m o : Blocks) (g : Log) (s : Stamp) (punch : Bool) (kind root : ℕ) (key : TreeKey) (value : Value) → kind ≡ 4 → key ≡ moment_key s.at → value ≡ value_of_entry (fresh_entry s punch) → IsMoment s.at → IsAttempt s.by
    → Holds log_owner m g → has_punch_at s.at (things g) ≡ false → PutAt m kind g.0 key value o root → Becomes log_owner hung_root things m g o root (IsNoted (fresh_entry s punch))
log_noted m o g s punch kind root key value k key_is value_is moment by h none put =
    let b = fresh_entry s punch in
    let put2 : PutAt m 4 g.0 (moment_key s.at) (value_of_entry b) o root = subst (λ z. PutAt m 4 g.0 (moment_key s.at) z o root) value_is (subst (λ z. PutAt m 4 g.0 z value o root) key_is (subst (λ z. PutAt m z g.0 key value o root) k put)) in
    let x = find (is_level log_level (moment_key s.at)) (things g) in
    let good = all_good log_level (entries g.0) g.1 h.here.1.leads in
    becomes_shown things (IsPut x b) things (IsNoted b)
    (λ y is. record {
      put = subst (λ z. IsPut z b (things g) (things y)) (found_same s.at moment (things g) good) is;
      punches = filter_put is_punch x b (things g) (things y) is (λ a f. punch_fails s.at moment (things g) a good f none);
    })
    (hung_put log_level (moment_key s.at) (log_exact s.at moment) m m o g b root h (in_none_changes m x b) refl (record { moment = moment; by = by }) put2)
