-- What changes write is staged, range by range.
use Rattle.std.specs.Prelude.{◌≡◌, ◌≤◌, ◌<◌, ◌+◌, ◌*◌, ◌↔◌, ℕ, List, [], ◌∷◌, ◌++◌, length, take, IsErr, OnOk, Result, Ok, Err, get_or, refl}
use Rattle.std.proofs.Common.{◌∙◌, ap, sym, arith, inl, inr, length-append}
use Rattle.std.proofs.lemmas.List.{map-append, take_more}
use Rattle.base_outside.specs.Images.{Range}
use Rattle.pmem_alloc.specs.Blocks.{BlocksState}
use Rattle.pmem_alloc.proofs.Staging.{total-push}
use Rattle.pmem_undo.specs.Layout.{total_bytes}
use Rattle.pmem_undo.specs.Undo.{IsTooMuch}
use Rattle.vos_pool_base.specs.Pool.{ranges_of}
use Rattle.vos_standing.proofs.vos_places.Writing.{length_cont, length_snap}
use Rattle.vos_tables.specs.declared.change.Change.{Change}
use Rattle.vos_tables.specs.declared.change.Change.TheVariants.{Cont, Snapshot, Unused}
use Rattle.vos_tables.specs.Changes.{range_of}

-- where there is room, a range was staged
pub was_staged : {E : Type 0} (r : Result (Unit {0}) E) (A : Type 0) (staged : List Range) (n i : ℕ) → OnOk r A → (IsErr r ↔ IsTooMuch staged n) → length staged ≡ i → total_bytes staged ≤ 64 * i → n ≤ 64 → i < 300 → A
was_staged (Ok x) A staged n i is refused many bytes small few = is
was_staged (Err e) A staged n i is refused many bytes small few = absurd (elim (refused.0 refl) [ inl ranges ↦ omega (arith, ranges, many, few) | inr more ↦ omega (arith, more, bytes, small, few) ])

abbrev pub with_ranges : {R : Type 0} → List Range → BlocksState R → BlocksState R
with_ranges staged b = record b { undo = record b.undo { staged = staged } }

pub record StagedSoFar {R : Type 0} (first now : BlocksState R) (cs : List Change) (i : ℕ) : Type 0 where
  pub blocks_are : now ≡ with_ranges (ranges_of (take i cs)) first
  pub many : length now.undo.staged ≡ i
  pub bytes : total_bytes now.undo.staged ≤ 64 * i

-- each writes at most 64 bytes
pub range_small : (c : Change) → length (range_of c).bytes ≤ 64
range_small (Cont i r) = let long = length_cont r in omega (arith, long)
range_small (Snapshot i s) = let long = length_snap s in omega (arith, long)
range_small (Unused i) = omega arith

pub small_as : (q : Range) (bytes : List ℕ) (c : Change) → q ≡ range_of c → bytes ≡ q.bytes → length bytes ≤ 64
small_as q bytes c is same = let most = range_small c in let e = ap (λ (x : Range). length x.bytes) is in let f = ap length same in omega (arith, most, e, f)

-- and so one more is
pub stages_next : {R : Type 0} (first now next : BlocksState R) (cs : List Change) (i : ℕ) (d : Change) (q : Range) (place : ℕ) (bytes : List ℕ) → StagedSoFar first now cs i → i < length cs → q ≡ range_of (get_or cs i d) → place ≡ q.place → bytes ≡ q.bytes
    → next ≡ with_ranges (now.undo.staged ++ record { place = place; bytes = bytes } ∷ []) now
    → StagedSoFar first next cs (i + 1)
stages_next {R = R} first now next cs i d q place bytes s low whole at with_bytes more =
    let r : Range = record { place = place; bytes = bytes } in
    let is : r ≡ range_of (get_or cs i d) = ap (λ p. let x : Range = record { place = p; bytes = bytes } in x) at ∙ (ap (λ b. let x : Range = record { place = q.place; bytes = b } in x) with_bytes ∙ whole) in
    let small : length r.bytes ≤ 64 = let most = range_small (get_or cs i d) in let e = ap (λ (x : Range). length x.bytes) is in omega (arith, most, e) in
    let staged : next.undo.staged ≡ now.undo.staged ++ r ∷ [] = ap (λ (b : BlocksState R). b.undo.staged) more in
    let so_far : now.undo.staged ≡ ranges_of (take i cs) = ap (λ (b : BlocksState R). b.undo.staged) s.blocks_are in
    let all : ranges_of (take (i + 1) cs) ≡ ranges_of (take i cs) ++ r ∷ [] = ap ranges_of (take_more cs i d low) ∙ (map-append range_of (take i cs) (get_or cs i d ∷ []) ∙ ap (λ x. ranges_of (take i cs) ++ x ∷ []) (sym is)) in
    let many = s.many in
    let counted = s.bytes in
    record {
      blocks_are = more ∙ (ap (λ (b : BlocksState R). with_ranges (b.undo.staged ++ r ∷ []) b) s.blocks_are ∙ ap (λ rs. with_ranges rs first) (sym all));
      many = ap length staged ∙ (length-append now.undo.staged (r ∷ []) ∙ ap (λ n. n + 1) many);
      bytes = let e = ap total_bytes staged ∙ total-push now.undo.staged r in omega (arith, e, counted, small);
    }

-- one range alone
pub one_staged : {R : Type 0} (b s : BlocksState R) (place : ℕ) (bytes bytes' : List ℕ) → b.undo.staged ≡ [] → bytes ≡ bytes' → s ≡ with_ranges (b.undo.staged ++ record { place = place; bytes = bytes } ∷ []) b → s ≡ with_ranges (record { place = place; bytes = bytes' } ∷ []) b
one_staged b s place bytes bytes' none same is = is ∙ (ap (λ rs. with_ranges (rs ++ record { place = place; bytes = bytes } ∷ []) b) none ∙ ap (λ bs. let r : Range = record { place = place; bytes = bs } in with_ranges (r ∷ []) b) same)
