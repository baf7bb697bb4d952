-- A chain that is read, or given back, block by block.
use Rattle.std.proofs.Common.{◌≡◌, ℕ, ◌-◌, ◌≤◌, ◌<◌, ◌^◌, min, List, [], ◌∷◌, ◌++◌, length, take, drop, Some, None, refl, sym, ap, ◌∙◌, subst, arith, inl, inr, append_assoc}
use Rattle.std.proofs.lemmas.Bool.{cases_lt}
use Rattle.std.proofs.lemmas.Bool.Decides.{eqb_tells}
use Rattle.std.proofs.lemmas.List.{append-nil, take-append-drop, length-drop, length-take-le, take_all}
use Rattle.pmem_pages.specs.Blocks.{Blocks, put}
use Rattle.pmem_pages.specs.Counts.{times_one, times_own, times_other}
use Rattle.pmem_pages.specs.Owners.{Changed, Holds, maybe, times}
use Rattle.pmem_pages.proofs.BlockLaws.{put_here, put_other}
use Rattle.pmem_pages.proofs.Owning.{changed_then}
use Rattle.vos_levels.specs.vos_values.Links.{link_bytes, next_in}
use Rattle.vos_levels.proofs.vos_values.LinkLaws.{link_again, part_again}
use Rattle.vos_chain.specs.Chains.{Chain, Links, chain_frame, chain_owner, first_of}
use Rattle.vos_chain.specs.Made.{IsChainAt}

inside : (x y : List ℕ) → Some x ≡ Some y → x ≡ y
inside x y h = cc

-- what is read of a block of a chain
pub link_of : (m : Blocks) (b n : ℕ) (part bytes : List ℕ) → m b ≡ Some bytes → m b ≡ Some (link_bytes n part) → bytes ≡ link_bytes n part
link_of m b n part bytes x y = inside bytes (link_bytes n part) (sym x ∙ y)

pub next_of : (count n : ℕ) (part bytes : List ℕ) → bytes ≡ link_bytes n part → n < 2 ^ 32 → length part ≡ count → count ≤ 248 → next_in count bytes ≡ Some n
next_of count n part bytes is low l few = ap (next_in count) is ∙ (ap (λ k. next_in k (link_bytes n part)) (sym l) ∙ link_again n part low (omega arith))

pub part_of : (count n : ℕ) (part bytes : List ℕ) → bytes ≡ link_bytes n part → length part ≡ count → take count (drop 8 bytes) ≡ part
part_of count n part bytes is l = ap (λ z. take count (drop 8 z)) is ∙ (ap (λ k. take k (drop 8 (link_bytes n part))) (sym l) ∙ part_again n part)

-- ---- reading

-- what is left to read of a chain
pub record Rest (m : Blocks) (c : Chain) (block left : ℕ) (bytes : List ℕ) : Type 0 where
  pub blocks : List ℕ
  pub rest : List ℕ
  pub links : Links m blocks rest
  pub block_is : block ≡ first_of blocks
  pub left_is : left ≡ length rest
  pub all : bytes ++ rest ≡ c.bytes

pub rest_whole : (m : Blocks) (first count : ℕ) (c : Chain) → IsChainAt m first count c → Rest m c first count []
rest_whole m first count c h = record { blocks = c.blocks; rest = c.bytes; links = h.holds.here; block_is = h.first_is; left_is = h.count_is; all = refl }

-- the first block of what is left
pub record First (m : Blocks) (c : Chain) (block left : ℕ) (bytes : List ℕ) : Type 0 where
  pub next : ℕ
  pub part : List ℕ
  pub here : m block ≡ Some (link_bytes next part)
  pub low : next < 2 ^ 32
  pub long : length part ≡ min left 248
  pub after : (n : ℕ) (read : List ℕ) → n ≡ next → read ≡ bytes ++ part → Rest m c n (left - min left 248) read

pub first_low : (m : Blocks) (bs bytes : List ℕ) → Links m bs bytes → first_of bs < 2 ^ 32
first_low m [] bytes s = omega arith
first_low m (b ∷ bs) bytes s = s.1.0

first_part : (xs : List ℕ) → length (take 248 xs) ≡ min (length xs) 248
first_part xs = elim (cases_lt (length xs) 248) [
  | inl less ↦ ap length (take_all 248 xs (omega arith)) ∙ omega arith
  | inr more ↦ length-take-le 248 xs (omega arith) ∙ omega arith
]

pub rest_first : (m : Blocks) (c : Chain) (block left : ℕ) (bytes : List ℕ) → Rest m c block left bytes → 0 < left → First m c block left bytes
rest_first m c block left bytes r some = by r.blocks r.rest r.links r.block_is r.left_is r.all
  where
    by : (bs rest : List ℕ) → Links m bs rest → block ≡ first_of bs → left ≡ length rest → bytes ++ rest ≡ c.bytes → First m c block left bytes
    by [] rest s e l a = absurd (let z : length rest ≡ 0 = ap length s in omega (arith, l, z, some))
    by (b ∷ bs) rest s e l a = record {
      next = first_of bs;
      part = take 248 rest;
      here = ap m e ∙ s.1.1.1.0;
      low = first_low m bs (drop 248 rest) s.1.1.1.1;
      long = first_part rest ∙ ap (λ k. min k 248) (sym l);
      after = λ n read is more. record {
        blocks = bs;
        rest = drop 248 rest;
        links = s.1.1.1.1;
        block_is = is;
        left_is = omega (arith, length-drop 248 rest, l);
        all = ap (λ z. z ++ drop 248 rest) more ∙ (append_assoc bytes (take 248 rest) (drop 248 rest) ∙ (ap (λ z. bytes ++ z) (take-append-drop 248 rest) ∙ a));
      };
    }

pub rest_none : (m : Blocks) (c : Chain) (block left : ℕ) (bytes : List ℕ) → Rest m c block left bytes → left ≤ 0 → bytes ≡ c.bytes
rest_none m c block left bytes r none = by r.rest r.left_is r.all
  where
    by : (rest : List ℕ) → left ≡ length rest → bytes ++ rest ≡ c.bytes → bytes ≡ c.bytes
    by [] l a = sym (append-nil bytes) ∙ a
    by (x ∷ rest) l a = absurd (omega (arith, l, none))

-- ---- giving back

-- what is left of a chain whose first blocks were given back
pub record Left (m : Blocks) (c : Chain) (now : Blocks) (block left : ℕ) : Type 0 where
  pub rest : Chain
  pub changed : Changed chain_owner m c now rest
  pub block_is : block ≡ first_of rest.blocks
  pub left_is : left ≡ length rest.bytes

pub left_whole : (m : Blocks) (first count : ℕ) (c : Chain) → IsChainAt m first count c → Left m c m first count
left_whole m first count c h = record {
  rest = c;
  changed = record { holds = h.holds; outside = λ q x y. refl; taken = λ q x y. absurd (omega arith); given = λ q x y. absurd (omega arith) };
  block_is = h.first_is;
  left_is = h.count_is;
}

-- the first block is given back
give_first : (m : Blocks) (b : ℕ) (bs bytes : List ℕ) → Holds chain_owner m (record { blocks = b ∷ bs; bytes = bytes }) → Changed chain_owner m (record { blocks = b ∷ bs; bytes = bytes }) (put m b None) (record { blocks = bs; bytes = drop 248 bytes })
give_first m b bs bytes h =
    let once : times b bs ≡ 0 = omega (arith, h.apart b, times_one b b bs, times_own b) in
    let other : (q : ℕ) → 0 < times q bs → put m b None q ≡ m q = λ q own. elim (eqb_tells q b) [
      | inl same ↦ absurd (let z : times q bs ≡ times b bs = ap (λ k. times k bs) same.1 in omega (arith, own, z, once))
      | inr ne ↦ put_other m b None q ne.1
    ] in
    record {
      holds = record { here = chain_frame m (put m b None) bs (drop 248 bytes) other h.here.1.1.1.1; apart = λ q. omega (arith, h.apart q, times_one q b bs) };
      outside = λ q x y. elim (eqb_tells q b) [
        | inl same ↦ absurd (let w : times q (b ∷ []) ≡ times b (b ∷ []) = ap (λ k. times k (b ∷ [])) same.1 in omega (arith, x, w, times_own b, times_one q b bs))
        | inr ne ↦ put_other m b None q ne.1
      ];
      taken = λ q x y. absurd (omega (arith, x, y, times_one q b bs));
      given = λ q x y. elim (eqb_tells q b) [
        | inl same ↦ ap (put m b None) same.1 ∙ put_here m b None
        | inr ne ↦ absurd (omega (arith, x, y, times_one q b bs, times_other q b ne.1))
      ];
    }

pub record FirstLeft (m : Blocks) (c : Chain) (now : Blocks) (block left : ℕ) : Type 0 where
  pub next : ℕ
  pub part : List ℕ
  pub here : now block ≡ Some (link_bytes next part)
  pub low : next < 2 ^ 32
  pub long : length part ≡ min left 248
  pub after : (n : ℕ) (then : Blocks) → n ≡ next → then ≡ put now block None → Left m c then n (left - min left 248)

pub left_first : (m : Blocks) (c : Chain) (now : Blocks) (block left : ℕ) → Left m c now block left → 0 < left → FirstLeft m c now block left
left_first m c now block left r some = by r.rest.blocks r.rest.bytes r.changed r.block_is r.left_is
  where
    by : (bs rest : List ℕ) → Changed chain_owner m c now (record { blocks = bs; bytes = rest }) → block ≡ first_of bs → left ≡ length rest → FirstLeft m c now block left
    by [] rest d e l = absurd (let z : length rest ≡ 0 = ap length d.holds.here in omega (arith, l, z, some))
    by (b ∷ bs) rest d e l = record {
      next = first_of bs;
      part = take 248 rest;
      here = ap now e ∙ d.holds.here.1.1.1.0;
      low = first_low now bs (drop 248 rest) d.holds.here.1.1.1.1;
      long = first_part rest ∙ ap (λ k. min k 248) (sym l);
      after = λ n then is p. record {
        rest = record { blocks = bs; bytes = drop 248 rest };
        changed = subst (λ z. Changed chain_owner m c z (record { blocks = bs; bytes = drop 248 rest })) (sym (p ∙ ap (λ k. put now k None) e))
            (changed_then chain_owner m now (put now b None) c (record { blocks = b ∷ bs; bytes = rest }) (record { blocks = bs; bytes = drop 248 rest }) d (give_first now b bs rest d.holds));
        block_is = is;
        left_is = omega (arith, length-drop 248 rest, l);
      };
    }

pub left_none : (m : Blocks) (c : Chain) (now : Blocks) (block left : ℕ) → Left m c now block left → left ≤ 0 → Changed (maybe chain_owner) m (Some c) now None
left_none m c now block left r none = by r.rest.blocks r.rest.bytes r.changed r.left_is
  where
    by : (bs rest : List ℕ) → Changed chain_owner m c now (record { blocks = bs; bytes = rest }) → left ≡ length rest → Changed (maybe chain_owner) m (Some c) now None
    by [] rest d l = record { holds = record { here = tt; apart = d.holds.apart }; outside = d.outside; taken = d.taken; given = d.given }
    by (b ∷ bs) rest d l = absurd (omega (arith, l, none, d.holds.here.1.1.0))
