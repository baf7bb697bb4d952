-- All fits where an entry came, was committed, confirmed or went.
use Rattle.std.proofs.Common.{◌≡◌, ℕ, ◌*◌, ◌^◌, ◌<◌, true, List, [], refl, ap, ◌∙◌, arith, inl, inr}
use Rattle.std.specs.Prelude.{All, bit_or, nat_lt}
use Rattle.std.proofs.lemmas.Bool.{cases_lt}
use Rattle.std.proofs.lemmas.Bool.Decides.{nat_tests}
use Rattle.std.proofs.lemmas.List.Elements.{All-nil, All-same}
use Rattle.std.proofs.lemmas.Nat.Bits.{and_pow, bit_at_above}
use Rattle.std.proofs.lemmas.Nat.{or_lt, pow_below}
use Rattle.std.specs.List.{list_any}
use Rattle.pmem_pages.specs.Counts.{times_none}
use Rattle.pmem_pages.specs.Owners.{times}
use Rattle.vos_entries.specs.Entries.{Entries, Listing, Stored as StoredEntry, committed, confirmed_by, is_listing_at, listing_of, listings}
use Rattle.vos_image.specs.Content.{Content}
use Rattle.vos_image.specs.Fits.{AllFit, EntryFits}
use Rattle.vos_image.specs.Nodes.{Node, is_of, nodes_in}
use Rattle.vos_levels.specs.Levels.{things}
use Rattle.vos_image.specs.vos_path.Objects.{Objects}
use Rattle.vos_fitting.specs.Fitting.{EntryMayStand, FitsCommitted, FitsConfirmed, FitsWithEntry, FitsWithoutEntry, ListNothing, MembersAreTargets, StillFit}
use Rattle.vos_fitting.proofs.Alls.{from_map, of_map, of_others, of_those, on_all, on_both, with_more}

record ListingFits (c : Content) (l : Listing) : Type 0 where
  entry : EntryMayStand c l.entry
  nothing : l.nodes ≡ []

entry_of_listing : (c : Content) (ns : List Node) (s : StoredEntry) → ListingFits c (listing_of s) → EntryFits c ns s
entry_of_listing c ns s h = record {
  leader = h.entry.leader;
  members = h.entry.members;
  confirmed = h.entry.confirmed;
  epoch = h.entry.epoch;
  are_nodes = All-same (λ b. list_any (is_of s.entry.attempt s.entry.epoch b) ns ≡ true) s.nodes [] h.nothing (All-nil (λ b. list_any (is_of s.entry.attempt s.entry.epoch b) ns ≡ true));
  once = λ q. (let none = ap (times q) h.nothing in omega (arith, none, times_none q));
}

listings_fit : (c : Content) (g : Objects) (e : Entries) → ListNothing e → AllFit c g e → All (ListingFits c) (listings e)
listings_fit c g e nothing fits =
    of_map (ListingFits c) listing_of (things e)
    (on_both (λ s. s.nodes ≡ []) (EntryFits c (nodes_in g)) (λ s. ListingFits c (listing_of s)) (λ s none h. record { entry = record { leader = h.leader; members = h.members; confirmed = h.confirmed; epoch = h.epoch }; nothing = none }) (things e) nothing fits.entries)

so_they_fit : (c : Content) (g : Objects) (e f : Entries) → AllFit c g e → All (ListingFits c) (listings f) → StillFit c g f
so_they_fit c g e f fits all =
    let each = from_map (ListingFits c) listing_of (things f) all in
    record {
      fits = record { objects = fits.objects; entries = on_all (λ s. ListingFits c (listing_of s)) (EntryFits c (nodes_in g)) (entry_of_listing c (nodes_in g)) (things f) each };
      nothing = on_all (λ s. ListingFits c (listing_of s)) (λ s. s.nodes ≡ []) (λ s h. h.nothing) (things f) each;
    }

pub fits_with_entry : FitsWithEntry
fits_with_entry c x m n at g e may turn nothing fits =
    so_they_fit c g e turn.now fits (with_more (ListingFits c) (record { entry = x; nodes = [] }) (listings e) (listings turn.now) turn.shown_is (record { entry = may; nothing = refl }) (listings_fit c g e nothing fits))

pub fits_committed : FitsCommitted
fits_committed c a m n at g e turn nothing fits =
    so_they_fit c g e turn.now fits
    (All-same (ListingFits c) (listings turn.now) _ turn.shown_is
    (of_those (ListingFits c) (is_listing_at a) committed (λ l h. record { entry = record { leader = h.entry.leader; members = h.entry.members; confirmed = h.entry.confirmed; epoch = h.entry.epoch }; nothing = refl }) (listings e) (listings_fit c g e nothing fits)))

one_more : (targets n t : ℕ) → t < targets → nat_lt n (2 ^ targets) ≡ true → nat_lt (bit_or n (2 ^ t)) (2 ^ targets) ≡ true
one_more targets n t low h =
    let fits : n < 2 ^ targets = grind (arith, nat_tests) in
    let all = or_lt targets n (2 ^ t) fits (pow_below t targets low) in
    grind (arith, nat_tests)

pub fits_confirmed : FitsConfirmed
fits_confirmed c a t m n at g e low turn nothing fits =
    so_they_fit c g e turn.now fits
    (All-same (ListingFits c) (listings turn.now) _ turn.shown_is
    (of_those (ListingFits c) (is_listing_at a) (confirmed_by t) (λ l h. record { entry = record { leader = h.entry.leader; members = h.entry.members; confirmed = one_more c.targets l.entry.confirmed t low h.entry.confirmed; epoch = h.entry.epoch }; nothing = h.nothing }) (listings e) (listings_fit c g e nothing fits)))

pub fits_without_entry : FitsWithoutEntry
fits_without_entry c a m n at g e turn nothing fits =
    so_they_fit c g e turn.now fits (All-same (ListingFits c) (listings turn.now) _ turn.shown_is (of_others (ListingFits c) (is_listing_at a) (listings e) (listings_fit c g e nothing fits)))

pub members_are_targets : MembersAreTargets
members_are_targets c members t fits set = elim (cases_lt t c.targets) [
  | inl low ↦ low
  | inr high ↦
      (let below : members < 2 ^ c.targets = grind (arith, nat_tests) in
      let none = bit_at_above members c.targets t below high in
      let zero_times : 0 * 2 ^ t ≡ 0 = omega arith in
      absurd (set (and_pow members t ∙ (ap (λ (b : ℕ). b * 2 ^ t) none ∙ zero_times))))
]
