-- Several of the least numbers of a set.
use Rattle.std.proofs.Common.{◌≡◌, ℕ, ◌+◌, false, List, [], ◌∷◌, ◌++◌, refl, ap, arith}
use Rattle.pmem_alloc.specs.Sets.{Set, set_to, without, count_below, IsLeast, AreLeast}
use Rattle.pmem_alloc.specs.Map.{free_in}
use Rattle.pmem_alloc.proofs.Counting.{count_out}
use Rattle.pmem_alloc.specs.Laws.{free_in_within}

pub without-push : (bs : List ℕ) (b : ℕ) (s : Set) → without (bs ++ b ∷ []) s ≡ set_to (without bs s) b false
without-push [] b s = refl
without-push (a ∷ bs) b s = without-push bs b (set_to s a false)

pub least-push : (bs : List ℕ) (b : ℕ) (s : Set) → AreLeast s bs → IsLeast (without bs s) b → AreLeast s (bs ++ b ∷ [])
least-push [] b s all one = (one, tt)
least-push (a ∷ bs) b s all one = (all.0, least-push bs b (set_to s a false) all.1 one)

-- one free block less
pub one_less : (end i : ℕ) (bytes : List ℕ) (new : Set) (b all : ℕ) → IsLeast (free_in end bytes) b → new ≡ set_to (free_in end bytes) b false → count_below (free_in end bytes) end + i ≡ all → count_below new end + (i + 1) ≡ all
one_less end i bytes new b all least is so_far =
    let within = free_in_within end bytes b least.is_in in
    let fewer = count_out (free_in end bytes) b end within.1 least.is_in in
    let e : count_below new end ≡ count_below (set_to (free_in end bytes) b false) end = ap (λ (s : Set). count_below s end) is in
    omega (arith, fewer, e, so_far)
