-- A chain of blocks that holds bytes, 248 to a block.
use Rattle.std.specs.Prelude.{◌≡◌, ◌<◌, ◌≤◌, ◌^◌, ℕ, List, [], ◌∷◌, length, take, drop, Some}
use Rattle.std.proofs.Common.{arith, ap, inl, inr, ◌∙◌}
use Rattle.std.proofs.lemmas.Bool.Decides.{eqb_tells}
use Rattle.pmem_pages.specs.Blocks.{Blocks, IsTaken}
use Rattle.pmem_pages.specs.Counts.{times_none, times_one, times_other, times_own}
use Rattle.pmem_pages.specs.Owners.{Owner, SameIn, times}
use Rattle.vos_levels.specs.vos_values.Links.{link_bytes}

pub record Chain : Type 0 where
  pub blocks : List ℕ
  pub bytes : List ℕ

-- the block that leads to a chain, 0 for none
abbrev pub first_of : List ℕ → ℕ
first_of [] = 0
first_of (b ∷ bs) = b

-- each block but the last holds 248 bytes and leads to the next one
abbrev pub Links : Blocks → List ℕ → List ℕ → Type 0
Links m [] bytes = bytes ≡ []
Links m (b ∷ bs) bytes =
    (1264 ≤ b) × ((b < 2 ^ 32) × ((0 < length bytes) × ((m b ≡ Some (link_bytes (first_of bs) (take 248 bytes))) × Links m bs (drop 248 bytes))))

pub chain_taken : (m : Blocks) (bs bytes : List ℕ) → Links m bs bytes → (q : ℕ) → 0 < times q bs → IsTaken m q
chain_taken m [] bytes s q h = absurd (omega (arith, times_none q))
chain_taken m (b ∷ bs) bytes s q h =
    elim (eqb_tells q b) [
      | inl a ↦ record { bytes = _; holds = ap m a.1 ∙ s.1.1.1.0 }
      | inr a ↦ chain_taken m bs (drop 248 bytes) s.1.1.1.1 q (omega (arith, h, times_one q b bs, times_other q b a.1))
    ]

pub chain_frame : (m n : Blocks) (bs bytes : List ℕ) → SameIn m n bs → Links m bs bytes → Links n bs bytes
chain_frame m n [] bytes f s = s
chain_frame m n (b ∷ bs) bytes f s = (
  s.0,
  (
    s.1.0,
    (
      s.1.1.0,
      (
        f b (omega (arith, times_one b b bs, times_own b)) ∙ s.1.1.1.0,
        chain_frame m n bs (drop 248 bytes) (λ q h. f q (omega (arith, h, times_one q b bs))) s.1.1.1.1,
      ),
    ),
  ),
)

abbrev pub chain_owner : Owner Chain
chain_owner = record { stands = λ m c. Links m c.blocks c.bytes; owned = λ c. c.blocks; is_taken = λ m c. chain_taken m c.blocks c.bytes; frame = λ m n c. chain_frame m n c.blocks c.bytes }
