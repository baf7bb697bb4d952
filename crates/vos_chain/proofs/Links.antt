-- A block more in front of a chain, and one less.
use Rattle.std.proofs.Common.{◌≡◌, ℕ, ◌+◌, ◌-◌, ◌≤◌, ◌<◌, ◌^◌, ◌⊎◌, List, [], ◌∷◌, ◌++◌, length, take, drop, Some, None, refl, sym, ap, ◌∙◌, subst, arith, inl, inr}
use Rattle.std.proofs.lemmas.Bool.{cases_lt}
use Rattle.std.proofs.lemmas.List.{take_all, drop_all, take-append-drop, drop-drop, length-drop, length-take-le}
use Rattle.std.proofs.lemmas.Bool.Decides.{eqb_tells}
use mathlib.Core.Path.{fun_ext}
use Rattle.pmem_pages.specs.Blocks.{Blocks, IsTaken, put}
use Rattle.pmem_pages.specs.Counts.{times_none, times_one, times_own, times_other}
use Rattle.pmem_pages.specs.Owners.{Changed, times}
use Rattle.pmem_pages.proofs.BlockLaws.{put_here, put_other}
use Rattle.pmem_pages.proofs.Owning.{not_free}
use Rattle.vos_levels.specs.vos_values.Links.{link_bytes}
use Rattle.vos_chain.specs.Chains.{Links, chain_frame, chain_owner, chain_taken, first_of}
use Rattle.vos_chain.specs.Made.{MadeChain}

-- what was made from the last block on
pub record MadeSo (m : Blocks) (bytes : List ℕ) (n : Blocks) (first : ℕ) : Type 0 where
  pub blocks : List ℕ
  pub first_is : first ≡ first_of blocks
  pub changed : Changed chain_owner m (record { blocks = []; bytes = [] }) n (record { blocks = blocks; bytes = bytes })

pub made_chain : (m : Blocks) (bytes : List ℕ) (n : Blocks) (first : ℕ) → MadeSo m bytes n first → MadeChain m bytes n first
made_chain m bytes n first h = record {
  blocks = h.blocks;
  first_is = h.first_is;
  changed = record { holds = record { here = h.changed.holds.here; apart = h.changed.holds.apart }; outside = h.changed.outside; taken = h.changed.taken; given = h.changed.given };
}

pub made_none : (m : Blocks) → MadeSo m [] m 0
made_none m = record {
  blocks = [];
  first_is = refl;
  changed = record { holds = record { here = refl; apart = λ q. omega (arith, times_none q) }; outside = λ q x y. refl; taken = λ q x y. absurd (omega (arith, y, times_none q)); given = λ q x y. absurd (omega (arith, x, times_none q)) };
}

-- the part that is written, and what stands behind it
pub made_more : (m n : Blocks) (part rest : List ℕ) (first b : ℕ)
    → MadeSo m rest n first
    → 1264 ≤ b
    → b < 2 ^ 32
    → n b ≡ None
    → 0 < length part
    → take 248 (part ++ rest) ≡ part
    → drop 248 (part ++ rest) ≡ rest
    → 0 < length (part ++ rest)
    → MadeSo m (part ++ rest) (put n b (Some (link_bytes first part))) b
made_more m n part rest first b made low high free some front back whole =
    let o = put n b (Some (link_bytes first part)) in
    let c = made.changed in
    let new : times b made.blocks ≡ 0 = elim (cases_lt 0 (times b made.blocks)) [
      | inl own ↦ absurd (not_free n b (chain_taken n made.blocks rest c.holds.here b own) free)
      | inr none ↦ omega arith
    ] in
    let other : (q : ℕ) → 0 < times q made.blocks → o q ≡ n q = λ q own. elim (eqb_tells q b) [
      | inl same ↦ absurd (let z : times q made.blocks ≡ times b made.blocks = ap (λ k. times k made.blocks) same.1 in omega (arith, own, z, new))
      | inr ne ↦ put_other n b (Some (link_bytes first part)) q ne.1
    ] in
    let block : o b ≡ Some (link_bytes (first_of made.blocks) (take 248 (part ++ rest))) = rw (← made.first_is, front) (put_here n b (Some (link_bytes first part))) in
    let below : Links o made.blocks (drop 248 (part ++ rest)) = rw back (chain_frame n o made.blocks rest other c.holds.here) in
    record {
      blocks = b ∷ made.blocks;
      first_is = refl;
      changed = record {
        holds = record {
          here = (low, (high, (whole, (block, below))));
          apart = λ q. elim (eqb_tells q b) [
            | inl same ↦ let z : times q made.blocks ≡ times b made.blocks = ap (λ k. times k made.blocks) same.1 in let y : times q (b ∷ []) ≡ times b (b ∷ []) = ap (λ k. times k (b ∷ [])) same.1 in omega (arith, z, y, new, times_own b, times_one q b made.blocks)
            | inr ne ↦ omega (arith, c.holds.apart q, times_one q b made.blocks, times_other q b ne.1)
          ];
        };
        outside = λ q x y. elim (eqb_tells q b) [
          | inl same ↦ absurd (let w : times q (b ∷ []) ≡ times b (b ∷ []) = ap (λ k. times k (b ∷ [])) same.1 in omega (arith, y, w, times_own b, times_one q b made.blocks))
          | inr ne ↦ put_other n b (Some (link_bytes first part)) q ne.1 ∙ c.outside q x (omega (arith, y, times_one q b made.blocks))
        ];
        taken = λ q x y. elim (eqb_tells q b) [
          | inl same ↦ elim (cases_lt 0 (times q made.blocks)) [
            | inl own ↦ c.taken q x own
            | inr none ↦ sym (c.outside q x (omega arith)) ∙ (ap n same.1 ∙ free)
          ]
          | inr ne ↦ c.taken q x (omega (arith, y, times_one q b made.blocks, times_other q b ne.1))
        ];
        given = λ q x y. absurd (omega (arith, x, times_none q));
      };
    }

pub taken_by : (m n : Blocks) (b : ℕ) (x : List ℕ) → n ≡ put m b (Some x) → IsTaken n b
taken_by m n b x e = record { bytes = x; holds = rw e (put_here m b (Some x)) }

-- what was put, put again
pub put_twice : (m n : Blocks) (b : ℕ) (x y : List ℕ) → n ≡ put m b (Some x) → put n b (Some y) ≡ put m b (Some y)
put_twice m n b x y e = fun_ext (λ q.
    elim (eqb_tells q b) [
      | inl same ↦ ap (put n b (Some y)) same.1 ∙ (put_here n b (Some y) ∙ (sym (put_here m b (Some y)) ∙ ap (put m b (Some y)) (sym same.1)))
      | inr ne ↦ put_other n b (Some y) q ne.1 ∙ (ap (λ (z : Blocks). z q) e ∙ (put_other m b (Some x) q ne.1 ∙ sym (put_other m b (Some y) q ne.1)))
    ])

pub part_step : (S : List ℕ) (n : ℕ) → n ≤ 248 → (n ≡ 248) ⊎ (length S ≡ n) → take 248 S ≡ take n S
part_step S n h (inl e) = ap (λ z. take z S) (sym e)
part_step S n h (inr e) = take_all 248 S (omega (arith, e, h)) ∙ sym (take_all n S (omega (arith, e)))

-- the part in front of what was written
pub chain_step : (m n o : Blocks) (bytes : List ℕ) (start left first b : ℕ)
    → start < left
    → left ≤ length bytes
    → left ≤ start + 248
    → (left ≡ start + 248) ⊎ (left ≡ length bytes)
    → MadeSo m (drop left bytes) n first
    → 1264 ≤ b
    → b < 2 ^ 32
    → n b ≡ None
    → o ≡ put n b (Some (link_bytes first (take (left - start) (drop start bytes))))
    → MadeSo m (drop start bytes) o b
chain_step m n o bytes start left first b low most near ends made range high free is =
    let S = drop start bytes in
    let part = take (left - start) S in
    let rest = drop (left - start) S in
    let rest_is : drop left bytes ≡ rest = ap (λ z. drop z bytes) (let e : left ≡ start + (left - start) = omega arith in e) ∙ sym (drop-drop (left - start) start bytes) in
    let whole : part ++ rest ≡ S = take-append-drop (left - start) S in
    let size : length S ≡ length bytes - start = length-drop start bytes in
    let long : length part ≡ left - start = length-take-le (left - start) S (omega (arith, size, most)) in
    let choice : (left - start ≡ 248) ⊎ (length S ≡ left - start) = elim ends [ inl e ↦ inl (omega (arith, e)) | inr e ↦ inr (omega (arith, e, size)) ] in
    let front : take 248 S ≡ part = part_step S (left - start) (omega arith) choice in
    let back : drop 248 S ≡ rest = elim choice [ inl e ↦ ap (λ z. drop z S) (sym e) | inr e ↦ drop_all 248 S (omega (arith, e, near)) ∙ sym (drop_all (left - start) S (omega (arith, e))) ] in
    let behind : MadeSo m rest n first = subst (λ z. MadeSo m z n first) rest_is made in
    let more = made_more m n part rest first b behind range high free (omega (arith, long, low)) (rw whole front) (rw whole back) (rw whole (omega (arith, size, low, most))) in
    subst (λ z. MadeSo m S z b) (sym is) (subst (λ z. MadeSo m z (put n b (Some (link_bytes first part))) b) whole more)
