-- All that is read of an image stands in it.
use Rattle.std.proofs.Common.{◌≡◌, ℕ, List, [], Result, Ok, Err, refl, sym, ap, subst, arith}
use Rattle.base_outside.specs.Images.{Image}
use Rattle.pmem_pages.specs.Owners.{times, times-append}
use Rattle.vos_path.specs.Objects.{Objects, object_level, objects_owner}
use Rattle.vos_entries.specs.Entries.{Entries, entries_owner, entry_level}
use Rattle.vos_image.specs.Steps.{Step, read_of}
use Rattle.vos_image.specs.Content.{Content, content_of}
use Rattle.vos_image.specs.Fits.{EntryFits, ObjectFits}
use Rattle.vos_image.specs.Kept.{Whole, read_content, read_whole}
use Rattle.vos_image.specs.Laws.{IsOfBytes, LayoutIsWhereSomeStand, Stands, WhatIsReadStands}
use Rattle.vos_image.specs.Nodes.{nodes_in}
use Rattle.vos_image.specs.Places.{Places, read_places}
use Rattle.vos_image.proofs.EntriesStand.{entries_stand}
use Rattle.vos_image.proofs.ObjectsStand.{objects_stand}
use Rattle.vos_image.proofs.PlacesRead.{Ends, RootsLed, ends_given, ends_on, places_end}
use Rattle.vos_image.proofs.Reading.{Tells, Told}
use Rattle.vos_image.proofs.Standing.{StandsRead}
use Rattle.vos_image.proofs.Steps.{Tally, root_tally, some_block}
use Rattle.vos_image.proofs.Whole.{stands_read}

-- what is told of a step, after some blocks
ends_told : {A : Type 0} (x : Step A) (P : A → Type 0) (from : Tally) (to : A → Tally) (led : List ℕ) → Tells x P from to → Ends x led (λ a after. Told P from to a led after)
ends_told x P from to led t = record { ended = λ a after h. t.told a led after h }

-- the fixed places that were read, and what they lead to
record PlacesRead (target : ℕ) (c : Content) (p : Places) (led : List ℕ) : Type 0 where
  is : read_places target c [] ≡ Ok (p, led)
  roots : RootsLed c p.header led

places_are : (target : ℕ) (c : Content) → Ends (read_places target c) [] (PlacesRead target c)
places_are target c = record { ended = λ p led h. record { is = h; roots = (places_end target c).ended p led h } }

abbrev ObjectsTold : Content → ℕ → Objects → List ℕ → List ℕ → Type 0
ObjectsTold c b o led after = Told (StandsRead object_level c (ObjectFits c) b) (root_tally b) (λ g q. times q (objects_owner.owned g)) o led after

abbrev EntriesTold : Content → Objects → ℕ → Entries → List ℕ → List ℕ → Type 0
EntriesTold c o b e led after = Told (StandsRead entry_level c (EntryFits c (nodes_in o)) b) (root_tally b) (λ g q. times q (entries_owner.owned g)) e led after

module _ (target size : ℕ) (f : Image) where
  all_stand : (p : Places) (led : List ℕ) (o : Objects) (mid : List ℕ) (e : Entries) (after : List ℕ)
      → PlacesRead target (content_of size f) p led
      → ObjectsTold (content_of size f) p.header.objects o led mid
      → EntriesTold (content_of size f) o p.header.entries e mid after
      → Stands target size f p (o, e)
  all_stand p led o mid e after places first next =
      let roots = λ (q : ℕ). times-append q (some_block p.header.entries) (some_block p.header.objects) in
      let apart = next.apart (first.apart places.roots.apart) in
      record {
        places = subst (λ z. read_places target (content_of size f) [] ≡ Ok (p, z)) places.roots.is places.is;
        holds = record {
          here = (first.fact.here, next.fact.here);
          apart = λ q. omega (arith, apart q, first.counted q, next.counted q, roots q, ap (times q) places.roots.is, times-append q (objects_owner.owned o) (entries_owner.owned e));
        };
        objects = sym first.fact.root;
        entries = sym next.fact.root;
        fits = record { objects = first.fact.fit; entries = next.fact.fit };
      }

  whole_ends : IsOfBytes f → Ends (read_whole target (content_of size f)) [] (λ x after. Stands target size f x.places x.stored)
  unfolding read_whole
  whole_ends of_bytes =
      let c = content_of size f in
      ends_on _ _ _ _ _ (places_are target c) (λ p led places.
      ends_on _ _ _ _ _ (ends_told _ _ _ _ led (objects_stand c p.header.objects of_bytes places.roots.objects)) (λ o mid first.
      ends_on _ _ _ _ _ (ends_told _ _ _ _ mid (entries_stand c (nodes_in o) p.header.entries of_bytes places.roots.entries)) (λ e after next.
      ends_given (record { places = p; stored = (o, e) }) after _ (all_stand p led o mid e after places first next))))

pub read_stands : WhatIsReadStands
unfolding read_content
read_stands target size f x of_bytes h = by (read_whole target (content_of size f) []) refl h
  where
    by : (y : Result (Whole × List ℕ) ℕ) → read_whole target (content_of size f) [] ≡ y → read_of y ≡ Ok x → Stands target size f x.places x.stored
    by (Ok z) e k = let is : z.0 ≡ x = cc in subst (λ (w : Whole). Stands target size f w.places w.stored) is ((whole_ends target size f of_bytes).ended z.0 z.1 e)
    by (Err at) e k = absurd (let no : ⊥ = cc in no)

pub layout_stands : LayoutIsWhereSomeStand
layout_stands target size f of_bytes = record {
  there = λ x. record { all = x.0; stands = read_stands target size f x.0 of_bytes x.1 };
  back = λ s. (s.all, stands_read target size f s.all.places s.all.stored s.stands);
}
