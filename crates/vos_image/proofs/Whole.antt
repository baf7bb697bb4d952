-- All that stands in an image is read.
use Rattle.std.proofs.Common.{◌≡◌, ℕ, List, [], Result, Ok, refl, sym, ap, subst, arith, ◌∙◌}
use Rattle.pmem_pages.specs.Owners.{times, times-append}
use Rattle.vos_path.specs.Objects.{Objects, objects_owner}
use Rattle.vos_entries.specs.Entries.{Entries, entries_owner}
use Rattle.vos_image.specs.Steps.{◌>>=◌, read_of}
use Rattle.vos_image.specs.Content.{Content, content_of}
use Rattle.vos_image.specs.Kept.{Whole, kept, kept_of, read_content, read_whole}
use Rattle.vos_image.specs.Kinds.{entries, objects}
use Rattle.vos_image.specs.Laws.{NoOtherStands, WhatStandsIsKept, WhatStandsIsRead, root_blocks}
use Rattle.vos_image.specs.Nodes.{nodes_in}
use Rattle.vos_image.specs.Places.{Places, read_places}
use Rattle.vos_image.specs.Trees.{read_tree}
use Rattle.vos_image.proofs.Entries.{entries_read}
use Rattle.vos_image.proofs.Levels.{first_holds, second_holds}
use Rattle.vos_image.proofs.Objects.{objects_read}
use Rattle.vos_image.proofs.Steps.{Passes, root_tally, some_block}

-- three steps, one after another
steps : (target : ℕ) (c : Content) (p : Places) (led1 : List ℕ) (o : Objects) (led2 : List ℕ) (e : Entries) (led3 : List ℕ)
    → read_places target c [] ≡ Ok (p, led1)
    → read_tree objects c p.header.objects led1 ≡ Ok (o, led2)
    → read_tree (entries (nodes_in o)) c p.header.entries led2 ≡ Ok (e, led3)
    → read_whole target c [] ≡ Ok (record { places = p; stored = (o, e) }, led3)
unfolding read_whole ◌>>=◌
steps target c p led1 o led2 e led3 one two three = rw (one, two, three) refl

pub stands_read : WhatStandsIsRead
unfolding read_content
stands_read target size f p x s =
    let c = content_of size f in
    let split = λ (q : ℕ). times-append q (objects_owner.owned x.0) (entries_owner.owned x.1) in
    let roots = λ (q : ℕ). times-append q (some_block p.header.entries) (some_block p.header.objects) in
    let one = subst (λ z. Passes (read_tree objects c z) x.0 (root_tally z) (λ q. times q (objects_owner.owned x.0))) (sym s.objects) (objects_read c x.0 (first_holds objects_owner entries_owner c x s.holds) s.fits.objects) in
    let two = subst (λ z. Passes (read_tree (entries (nodes_in x.0)) c z) x.1 (root_tally z) (λ q. times q (entries_owner.owned x.1))) (sym s.entries) (entries_read c (nodes_in x.0) x.1 (second_holds objects_owner entries_owner c x s.holds) s.fits.entries) in
    let first = one.passed (root_blocks p.header) (λ q some off. omega (arith, roots q, off, some, s.holds.apart q, split q, two.more q)) in
    let second = two.passed first.after (λ q some off. omega (arith, first.counted q, roots q, off, some, s.holds.apart q, split q, one.more q)) in
    ap read_of (steps target c p (root_blocks p.header) x.0 first.after x.1 second.after s.places first.is second.is)

pub no_other_stands : NoOtherStands
no_other_stands target size f x y s t =
    let one = stands_read target size f x.places x.stored s in
    let two = stands_read target size f y.places y.stored t in
    same_read (read_content target size f) x y one two
  where
    same_read : (r : Result Whole ℕ) (v w : Whole) → r ≡ Ok v → r ≡ Ok w → v ≡ w
    same_read r v w h k = let both : Ok v ≡ Ok w = sym h ∙ k in cc

pub stands_kept : WhatStandsIsKept
unfolding kept
stands_kept target size f p x s = ap kept_of (stands_read target size f p x s)
