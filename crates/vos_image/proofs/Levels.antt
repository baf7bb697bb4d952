-- Each kind of trees reads its level.
use Rattle.std.proofs.Common.{◌≡◌, ◌≢◌, ℕ, ◌+◌, ◌≤◌, ◌<◌, ◌^◌, ◌==◌, ◌&&◌, nat_le, Bool, true, false, List, [], ◌∷◌, ◌++◌, length, refl, ap, arith}
use Rattle.std.specs.Prelude.{All}
use Rattle.std.proofs.lemmas.Bool.Decides.{nat_tests}
use Rattle.daos_model.specs.Forms.{fits_records}
use Rattle.pmem_pages.specs.Counts.{times_none}
use Rattle.pmem_pages.specs.Owners.{Holds, Owner, both, times, times-append}
use Rattle.pmem_pages.proofs.Shapes.{root_fits}
use Rattle.vos_values.specs.Values.{is_length}
use Rattle.vos_entries.specs.vos_levels.Levels.{Hung, Level, hung, hung_root, things}
use Rattle.vos_entries.specs.vos_chain.Chains.{Chain, chain_owner, first_of}
use Rattle.vos_path.specs.vos_ilog.Logs.{Log, log_level, log_owner, mark_of as mark_of_entry, moment_of as moment_of_entry}
use Rattle.vos_path.specs.vos_single.Singles.{Stored as StoredSingle, chain_of as single_chain, mark_of as single_mark, moment_of as single_moment, single_level}
use Rattle.vos_path.specs.vos_extent.Extents.{Stored as StoredExtent, chain_of as extent_chain, extent_level, mark_of as extent_mark, place_of}
use Rattle.vos_path.specs.Objects.{Below}
use Rattle.vos_image.specs.Steps.{Step, ◌>>=◌, give}
use Rattle.vos_image.specs.Content.{Content, is_taken, shown}
use Rattle.vos_image.specs.Fits.{ExtentFits, LogFits, SingleFits}
use Rattle.vos_image.specs.Kinds.{any_length, extents, logs, read_chain, singles}
use Rattle.vos_image.specs.Trees.{read_tree}
use Rattle.vos_image.proofs.Chains.{chain_read, first_taken}
use Rattle.vos_image.proofs.Codecs.{extent_length, extent_read, mark_read, moment_length, moment_read, version_read}
use Rattle.vos_image.proofs.Steps.{Passes, Tally, beside, given, none, recounted, root_tally, silent, some_block, go_on}
use Rattle.vos_image.proofs.Trees.{Takes, root_shown, tree_read}

same : (a b : ℕ) → a ≡ b → (a == b) ≡ true
same a b e = grind (arith, nat_tests)

-- ---- logs

pub logs_taken : (c : Content) → Takes logs log_level c (LogFits c) moment_of_entry mark_of_entry (λ v. [])
logs_taken c = record {
  kind = refl;
  length = λ v good fits. same _ 9 (moment_length (moment_of_entry v));
  key = λ v good fits at led. moment_read c at (moment_of_entry v) good.moment fits led;
  leads = λ v good fits held at. recounted _ _ none none none (λ q. times q []) (silent _ _ none (mark_read c at (moment_of_entry v) (mark_of_entry v) (record { by = good.by }))) (λ q. omega arith) (λ q. omega (arith, times_none q));
  below = λ v good fits held. given v (λ q. times q []);
}

-- ---- versions

pub at_least : (n : ℕ) → is_length n ≡ true → 1 ≤ n
at_least n h = by (nat_le 1 n) refl h
  where
    by : (t : Bool) → nat_le 1 n ≡ t → (t && nat_le n 1024) ≡ true → 1 ≤ n
    by true e k = grind (arith, nat_tests)
    by false e k = let no : ⊥ = cc in absurd no

first_some : (c : Content) (x : Chain) → chain_owner.stands (shown c) x → 1 ≤ length x.bytes → first_of x.blocks ≢ 0
first_some c x s some zero = by x.blocks s zero
  where
    by : (bs : List ℕ) → chain_owner.stands (shown c) (record { blocks = bs; bytes = x.bytes }) → first_of bs ≡ 0 → ⊥
    by [] s e = let l = ap length s in omega (arith, l, some)
    by (b ∷ bs) s e = let least = s.0 in omega (arith, e, least)

pub singles_taken : (c : Content) → Takes singles single_level c (SingleFits c) single_moment single_mark (λ s. some_block (first_of s.blocks))
singles_taken c = record {
  kind = refl;
  length = λ s good fits. same _ 9 (moment_length (single_moment s));
  key = λ s good fits at led. moment_read c at (single_moment s) good.moment fits led;
  leads = λ s good fits held at. version_read c at any_length (single_mark s) good.mark refl (some s good held) (first_taken c s.blocks s.version.bytes held.here (some s good held));
  below = λ s good fits held. go_on (read_chain c (first_of s.blocks) (length s.version.bytes)) _ (single_chain s) s _ _ _ (chain_read c (single_chain s) held.here held.apart) (given s (λ q. times q s.blocks));
}
  where
    some : (s : StoredSingle) → single_level.Good s → Holds single_level.owner (shown c) s → first_of s.blocks ≢ 0
    some s good held = first_some c (single_chain s) held.here (at_least (length s.version.bytes) good.mark.length)

pub extents_taken : (c : Content) (unit : ℕ) → Takes (extents unit) extent_level c (ExtentFits c unit) (λ s. place_of s.extent) extent_mark (λ s. some_block (first_of s.blocks))
extents_taken c unit = record {
  kind = refl;
  length = λ s good fits. same _ 13 (extent_length (place_of s.extent));
  key = λ s good fits at led. extent_read c at (place_of s.extent) good.place fits.epoch led;
  leads = λ s good fits held at. version_read c at (fits_records unit s.extent.low) (extent_mark s) good.mark fits.records (some s good held) (first_taken c s.blocks s.extent.bytes held.here (some s good held));
  below = λ s good fits held. go_on (read_chain c (first_of s.blocks) (length s.extent.bytes)) _ (extent_chain s) s _ _ _ (chain_read c (extent_chain s) held.here held.apart) (given s (λ q. times q s.blocks));
}
  where
    some : (s : StoredExtent) → extent_level.Good s → Holds extent_level.owner (shown c) s → first_of s.blocks ≢ 0
    some s good held = first_some c (extent_chain s) held.here (at_least (length s.extent.bytes) good.mark.length)

-- ---- things that stand side by side

pub first_holds : {A B : Type 0} (O : Owner A) (P : Owner B) (c : Content) (x : A × B) → Holds (both O P) (shown c) x → Holds O (shown c) x.0
first_holds O P c x h = record { here = h.here.0; apart = λ q. omega (arith, h.apart q, times-append q (O.owned x.0) (P.owned x.1)) }

pub second_holds : {A B : Type 0} (O : Owner A) (P : Owner B) (c : Content) (x : A × B) → Holds (both O P) (shown c) x → Holds P (shown c) x.1
second_holds O P c x h = record { here = h.here.1; apart = λ q. omega (arith, h.apart q, times-append q (O.owned x.0) (P.owned x.1)) }

-- one thing is read, and then another beside it
pub both_read : {A B C : Type 0} (O : Owner A) (P : Owner B) (c : Content) (x : Step A) (y : A → Step B) (f : A → B → C) (a : A) (b : B) (r s : Tally)
    → Holds (both O P) (shown c) (a, b)
    → Passes x a r (λ q. times q (O.owned a)) → Passes (y a) b s (λ q. times q (P.owned b))
    → Passes (x >>= λ u. y u >>= λ v. give (f u v)) (f a b) (λ q. r q + s q) (λ q. times q ((both O P).owned (a, b)))
both_read O P c x y f a b r s held one two =
    let split = λ (q : ℕ). times-append q (O.owned a) (P.owned b) in
    let t0 : Tally = λ q. r q + s q in
    let t1 : Tally = λ q. times q (O.owned a) + s q in
    let t2 : Tally = λ q. times q (O.owned a ++ P.owned b) in
    let first = beside x a r (λ q. times q (O.owned a)) t0 t1 s one (λ q. refl) (λ q. refl) (λ q. omega (arith, held.apart q, split q, two.more q)) in
    let second = beside (y a) b s (λ q. times q (P.owned b)) t1 t2 (λ q. times q (O.owned a)) two (λ q. omega arith) (λ q. omega (arith, split q)) held.apart in
    go_on x _ a (f a b) t0 t1 t2 first (go_on (y a) _ b (f a b) t1 t2 t2 second (given (f a b) t2))

-- ---- what has a log and a tree of further things

pub root_small : {A : Type 0} (L : Level A) (c : Content) (g : Hung A) → Holds (hung L) (shown c) g → hung_root g < 2 ^ 32
root_small L c g h = root_fits (shown c) L.kind g.0 h.here.0.0

pub root_taken : {A : Type 0} (L : Level A) (c : Content) (g : Hung A) → Holds (hung L) (shown c) g → hung_root g ≢ 0 → is_taken c (hung_root g) ≡ true
root_taken L c g h = root_shown c L.kind g.0 h.here.0.0

pub log_read : (c : Content) (g : Log) → Holds log_owner (shown c) g → All (LogFits c) (things g) → Passes (read_tree logs c (hung_root g)) g (root_tally (hung_root g)) (λ q. times q (log_owner.owned g))
log_read c g h fits = tree_read logs log_level c (LogFits c) moment_of_entry mark_of_entry (λ v. []) (logs_taken c) g h fits

abbrev pub below_tally : {A : Type 0} → Below A → Tally
below_tally b q = root_tally (hung_root b.0) q + root_tally (hung_root b.1) q

-- the blocks of the two roots
abbrev pub below_blocks : {A : Type 0} → Below A → List ℕ
below_blocks b = some_block (hung_root b.0) ++ some_block (hung_root b.1)

pub below_split : {A : Type 0} (b : Below A) (q : ℕ) → times q (below_blocks b) ≡ below_tally b q
below_split b q = times-append q (some_block (hung_root b.0)) (some_block (hung_root b.1))
