-- Logs, single versions and extents that are read stand.
use Rattle.std.proofs.Common.{◌≡◌, ◌≢◌, ℕ, ◌≤◌, ◌==◌, not, nat_le, Bool, true, length, drop, Some, refl, sym, ap, ◌∙◌, subst, arith}
use Rattle.std.proofs.lemmas.Bool.Decides.{nat_tests}
use Rattle.byteorder.specs.Endian.{big_number}
use Rattle.daos_model.specs.Forms.{fits_records}
use Rattle.pmem_pages.specs.Counts.{times_none}
use Rattle.pmem_pages.specs.declared.node.TreeKey.{TreeKey}
use Rattle.pmem_pages.specs.declared.node.Value.{Value}
use Rattle.vos_values.specs.declared.keys.ExtentKey.{ExtentKey}
use Rattle.vos_values.specs.declared.keys.Moment.{Moment}
use Rattle.vos_values.specs.declared.values.LogMark.{LogMark}
use Rattle.vos_values.specs.declared.values.VersionMark.{VersionMark}
use Rattle.vos_values.specs.Fields.{IsByteKey, IsByteValue}
use Rattle.vos_values.specs.Keys.{IsExtentKey, IsMoment, extent_in, extent_key, moment_in, moment_key}
use Rattle.vos_values.specs.Values.{IsLogMark, IsVersionMark, log_value, version_in, version_value}
use Rattle.vos_values.proofs.KeyLaws.{extents_exact, moments_exact}
use Rattle.vos_values.proofs.Reading.{chosen_is}
use Rattle.vos_values.proofs.ValueLaws.{extents_exact as extent_marks_exact, logs_exact, singles_exact}
use Rattle.vos_path.specs.vos_ilog.Logs.{log_level}
use Rattle.vos_path.specs.vos_single.Singles.{single_level}
use Rattle.vos_path.specs.vos_extent.Extents.{extent_level}
use Rattle.vos_entries.specs.vos_chain.Chains.{Chain, first_of}
use Rattle.vos_image.specs.Laws.{IsOfBytes}
use Rattle.vos_image.specs.Content.{Content}
use Rattle.vos_image.specs.Fits.{ExtentFits, LogFits, SingleFits}
use Rattle.vos_image.specs.Kinds.{any_length, extents, logs, read_extent, read_mark, read_moment, read_version, singles, stored_extent, stored_single}
use Rattle.vos_image.proofs.ChainsStand.{chain_stands}
use Rattle.vos_image.proofs.Levels.{at_least}
use Rattle.vos_image.proofs.Reading.{IsLink, Tells, says_what, tells_given, tells_linked, tells_on, tells_ruled, tells_said}
use Rattle.vos_image.proofs.Standing.{Gives}
use Rattle.vos_image.proofs.Steps.{Tally, none, root_tally}

-- ---- keys

pub at_most_is : (a b : ℕ) → nat_le a b ≡ true → a ≤ b
at_most_is a b h = grind (arith, nat_tests)

pub small : (n k : ℕ) → k ≤ 64 → (n == k) ≡ true → n ≤ 64
small n k few h = grind (arith, nat_tests)

pub record MomentRead (c : Content) (m : Moment) (k : TreeKey) : Type 0 where
  pub good : IsMoment m
  pub is : moment_key m ≡ k
  pub covered : m.epoch.0 ≤ c.covered

moment_epoch : (k : TreeKey) (m : Moment) → moment_in k ≡ Some m → big_number 8 k.bytes ≡ m.epoch.0
unfolding moment_in
moment_epoch k m e = ap (λ (z : Moment). z.epoch.0) (chosen_is _ _ m e)

moment_told : (c : Content) (at : ℕ) (k : TreeKey) → Tells (read_moment c at k) (λ m. IsByteKey k → MomentRead c m k) none (λ _. none)
moment_told c at k =
    tells_ruled _ _ _ _ _ _ (λ low.
    says_what _ _ _ (λ m e byte.
    let both = moments_exact.back k m byte e in
    let is = moment_epoch k m e in
    let most = at_most_is (big_number 8 k.bytes) c.covered low in
    record { good = both.0; is = both.1; covered = omega (arith, is, most) }))

pub record ExtentRead (c : Content) (p : ExtentKey) (k : TreeKey) : Type 0 where
  pub good : IsExtentKey p
  pub is : extent_key p ≡ k
  pub covered : p.epoch.0 ≤ c.covered

extent_epoch : (k : TreeKey) (p : ExtentKey) → extent_in k ≡ Some p → big_number 8 (drop 4 k.bytes) ≡ p.epoch.0
unfolding extent_in
extent_epoch k p e = ap (λ (z : ExtentKey). z.epoch.0) (chosen_is _ _ p e)

extent_told : (c : Content) (at : ℕ) (k : TreeKey) → Tells (read_extent c at k) (λ p. IsByteKey k → ExtentRead c p k) none (λ _. none)
extent_told c at k =
    tells_ruled _ _ _ _ _ _ (λ low.
    says_what _ _ _ (λ p e byte.
    let both = extents_exact.back k p byte e in
    let is = extent_epoch k p e in
    let most = at_most_is (big_number 8 (drop 4 k.bytes)) c.covered low in
    record { good = both.0; is = both.1; covered = omega (arith, is, most) }))

-- ---- logs

pub record MarkRead (x : LogMark) (v : Value) : Type 0 where
  pub good : IsLogMark x
  pub is : log_value x ≡ v

mark_told : (c : Content) (at : ℕ) (m : Moment) (v : Value) → Tells (read_mark c at m v) (λ x. IsByteValue 4 v → MarkRead x v) none (λ _. none)
mark_told c at m v = tells_ruled _ _ _ _ _ _ (λ state. says_what _ _ _ (λ x e byte. let both = logs_exact.back v x byte e in record { good = both.0; is = both.1 }))

abbrev pub MarkValued : Moment → LogMark → Value → Type 0
MarkValued m x v = MarkRead x v

pub logs_given : (c : Content) → Gives logs log_level c (LogFits c) (MomentRead c) MarkValued (λ _. none)
logs_given c = record {
  kind = refl;
  short = λ n h. small n 9 (omega arith) h;
  name = moment_told c;
  value = mark_told c;
  thing = λ m x k v named valued.
      tells_given _ _ _ _ (record { key = sym named.is; value = sym valued.is; good = record { moment = named.good; by = valued.good.by }; fits = named.covered; here = tt }) (λ q. omega (arith, times_none q));
}

-- ---- versions

pub record VersionRead (c : Content) (fits : ℕ → Bool) (x : VersionMark) (v : Value) : Type 0 where
  pub good : IsVersionMark x
  pub is : version_value x ≡ v
  pub long : fits x.length ≡ true
  pub some : x.chain ≢ 0
  pub taken : IsLink c x.chain

not_none : (b : ℕ) → not (b == 0) ≡ true → b ≢ 0
not_none b h z = let no : ⊥ = grind (arith, nat_tests) in no

abbrev pub chain_roots : VersionMark → Tally
chain_roots x = root_tally x.chain

version_told : (c : Content) (at kind : ℕ) (fits : ℕ → Bool) (v : Value) → ((x : VersionMark) → IsByteValue kind v → version_in v ≡ Some x → IsVersionMark x × (version_value x ≡ v))
    → Tells (read_version c at fits v) (λ x. IsByteValue kind v → VersionRead c fits x v) none chain_roots
version_told c at kind fits v back =
    tells_ruled _ _ _ _ _ _ (λ state.
    tells_said _ _ _ _ _ _ (λ x e.
    tells_ruled _ _ _ _ _ _ (λ long.
    tells_linked c _ x.chain _ _ _ _ (λ taken.
    tells_ruled _ _ _ _ _ _ (λ some.
    tells_given _ _ _ _ (λ byte. let both = back x byte e in record { good = both.0; is = both.1; long = long; some = not_none x.chain some; taken = taken }) (λ q. omega arith))))))

-- what a version says of the chain that was read
marked : (x : VersionMark) (chain : Chain) → length chain.bytes ≡ x.length → first_of chain.blocks ≡ x.chain → record { done = x.done; by = x.by; length = length chain.bytes; chain = first_of chain.blocks } ≡ x
marked x chain long first = λ i. record { done = x.done; by = x.by; length = long i; chain = first i }

abbrev pub SingleValued : Content → Moment → VersionMark → Value → Type 0
SingleValued c m x v = VersionRead c any_length x v

pub singles_given : (c : Content) → IsOfBytes c.bytes → Gives singles single_level c (SingleFits c) (MomentRead c) (SingleValued c) chain_roots
singles_given c of_bytes = record {
  kind = refl;
  short = λ n h. small n 9 (omega arith) h;
  name = moment_told c;
  value = λ at m v. version_told c at 5 any_length v (λ x byte e. singles_exact.back v x byte e);
  thing = λ m x k v named valued.
      tells_on _ _ _ _ _ _ _ (chain_stands c x.chain x.length of_bytes (at_least x.length valued.good.length) valued.some valued.taken) (λ chain stands.
      let is = marked x chain stands.long stands.first in
      tells_given (stored_single m x chain) _ _ _
      (record {
        key = sym named.is;
        value = sym valued.is ∙ ap version_value (sym is);
        good = record { moment = named.good; mark = subst IsVersionMark (sym is) valued.good };
        fits = named.covered;
        here = stands.here;
      })
      (λ q. refl));
}

abbrev pub ExtentValued : Content → ℕ → ExtentKey → VersionMark → Value → Type 0
ExtentValued c unit p x v = VersionRead c (fits_records unit p.low) x v

pub extents_given : (c : Content) (unit : ℕ) → IsOfBytes c.bytes → Gives (extents unit) extent_level c (ExtentFits c unit) (ExtentRead c) (ExtentValued c unit) chain_roots
extents_given c unit of_bytes = record {
  kind = refl;
  short = λ n h. small n 13 (omega arith) h;
  name = extent_told c;
  value = λ at p v. version_told c at 6 (fits_records unit p.low) v (λ x byte e. extent_marks_exact.back v x byte e);
  thing = λ p x k v named valued.
      tells_on _ _ _ _ _ _ _ (chain_stands c x.chain x.length of_bytes (at_least x.length valued.good.length) valued.some valued.taken) (λ chain stands.
      let is = marked x chain stands.long stands.first in
      tells_given (stored_extent p x chain) _ _ _
      (record {
        key = sym named.is;
        value = sym valued.is ∙ ap version_value (sym is);
        good = record { place = named.good; mark = subst IsVersionMark (sym is) valued.good };
        fits = record { epoch = named.covered; records = ap (fits_records unit p.low) stands.long ∙ valued.long };
        here = stands.here;
      })
      (λ q. refl));
}
