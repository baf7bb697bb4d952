-- What a content says of itself is what its table's header says.
use Rattle.std.proofs.Common.{◌≡◌, ℕ, ◌+◌, ◌*◌, List, [], Result, Ok, Err, ap}
use Rattle.vos_pool_base.specs.vos_image.Content.{Content, layout_of}
use Rattle.vos_pool_base.specs.vos_image.Places.{Header, header_in, read_header}
use Rattle.vos_pool_base.specs.vos_image.Steps.{Step, ◌>>=◌, give, onward}
use Rattle.vos_pool_stage.specs.Laws.{ContentsSayTheirHeaders}
use Rattle.vos_commits.specs.Kept.{content_of as bytes_of}
use Rattle.vos_pool_base.specs.vos_standing.Standing.{content}

-- what a reading in two steps gave its second step gave
then_was : {A B : Type 0} (a : Step A) (k : A → Step B) (led : List ℕ) (r : B × List ℕ) → (a >>= k) led ≡ Ok r → (x : A × List ℕ) × (k x.0 x.1 ≡ Ok r)
unfolding ◌>>=◌
then_was {A} {B} a k led r is = by (a led) is
  where
    by : (o : Result (A × List ℕ) ℕ) → onward o k ≡ Ok r → (x : A × List ℕ) × (k x.0 x.1 ≡ Ok r)
    by (Ok x) h = (x, h)
    by (Err at) h = let no : ⊥ = cc in absurd no

given_was : {A : Type 0} (x : A) (led : List ℕ) (r : A × List ℕ) → give x led ≡ Ok r → x ≡ r.0
given_was x led r is = cc

header_read : (target : ℕ) (c : Content) (h : Header) (after : List ℕ) → read_header target c [] ≡ Ok (h, after) → header_in c.bytes ≡ h
unfolding read_header
header_read target c h after is =
    let a = then_was _ _ _ _ is in
    let b = then_was _ _ _ _ a.1 in
    let d = then_was _ _ _ _ b.1 in
    let e = then_was _ _ _ _ d.1 in
    let f = then_was _ _ _ _ e.1 in
    let g = then_was _ _ _ _ f.1 in
    let i = then_was _ _ _ _ g.1 in
    let j = then_was _ _ _ _ i.1 in
    let k = then_was _ _ _ _ j.1 in
    given_was _ _ _ k.1

pub contents_say : ContentsSayTheirHeaders
unfolding header_in
contents_say target size f t x s =
    let is = header_read target (content size f) t.header _ s.table.header in
    record {
      layout = ap (λ (h : Header). layout_of h.layout) is;
      covered = ap (λ (h : Header). h.lease * 256 + 255) is;
      targets = ap (λ (h : Header). h.targets) is;
    }
