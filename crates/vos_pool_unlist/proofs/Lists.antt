-- Entries whose lists are given back one after another.
use Rattle.std.proofs.Common.{◌≡◌, ℕ, ◌+◌, ◌<◌, ◌==◌, add-one, drop, drop-cons, get_or, ◌&&◌, ◌||◌, Bool, true, false, not, List, [], ◌∷◌, length, map, refl, sym, ap, ◌∙◌, arith}
use Rattle.std.specs.Prelude.{All, if◌then◌else◌}
use Rattle.std.specs.List.{list_any}
use Rattle.std.proofs.lemmas.Bool.Decides.{nat_tests}
use Rattle.std.proofs.lemmas.List.Elements.{All-cons, All-head, All-nil, All-same, All-tail}
use Rattle.base_types.specs.declared.entry.Entry.{Entry}
use Rattle.base_types.specs.declared.id.AttemptId.{AttemptId}
use Rattle.daos_model.specs.BoolLaws.{or_left, or_right}
use Rattle.pmem_pages.specs.Counts.{times_none}
use Rattle.vos_check_entries.specs.declared.entry.EntryRow.{EntryRow}
use Rattle.vos_check_entries.specs.Rows.{entry_row}
use Rattle.vos_entries.specs.Entries.{Entries, IsUnlistedAt, Listing, Stored as StoredEntry, entries_in, entry_of, is_listing_at, listing_of, listings, unlisted}
use Rattle.vos_keeping.proofs.Lists.{on_all}
use Rattle.vos_levels.specs.Changes.{same_attempt}
use Rattle.vos_levels.specs.Levels.{map_those, things}
use Rattle.vos_pool_turns.proofs.vos_fitting.Alls.{from_map, of_map, of_those}
use Rattle.vos_pool_turns.specs.vos_turns.vos_image.Content.{Content}
use Rattle.vos_pool_turns.specs.vos_turns.vos_image.Fits.{AllFit, EntryFits}
use Rattle.vos_pool_turns.specs.vos_turns.vos_image.Nodes.{Node, is_of, nodes_in}
use Rattle.vos_pool_turns.specs.vos_turns.vos_image.vos_path.Objects.{Objects}

-- ---- what the layout asks of entries

-- it asks nothing of the blocks of their lists
abbrev stored_with : List ℕ → Listing → StoredEntry
stored_with blocks l = record { entry = l.entry; nodes = l.nodes; blocks = blocks }

abbrev ListingFits : Content → List Node → Listing → Type 0
ListingFits c ns l = EntryFits c ns (stored_with [] l)

in_other_blocks : (c : Content) (ns : List Node) (l : Listing) (bs ds : List ℕ) → EntryFits c ns (stored_with bs l) → EntryFits c ns (stored_with ds l)
in_other_blocks c ns l bs ds h = record { leader = h.leader; members = h.members; confirmed = h.confirmed; epoch = h.epoch; are_nodes = h.are_nodes; once = h.once }

none_listed : (c : Content) (ns : List Node) (l : Listing) → ListingFits c ns l → ListingFits c ns (unlisted l)
none_listed c ns l h = record {
  leader = h.leader;
  members = h.members;
  confirmed = h.confirmed;
  epoch = h.epoch;
  are_nodes = All-nil (λ b. list_any (is_of l.entry.attempt l.entry.epoch b) ns ≡ true);
  once = λ q. omega (arith, times_none q);
}

pub fits_unlisted : (c : Content) (a : AttemptId) (g : Objects) (e f : Entries) → IsUnlistedAt a (listings e) (listings f) → AllFit c g e → AllFit c g f
fits_unlisted c a g e f is fits =
    let ns = nodes_in g in
    let were = of_map (ListingFits c ns) listing_of (things e) (on_all (EntryFits c ns) (λ s. ListingFits c ns (listing_of s)) (λ s. in_other_blocks c ns (listing_of s) s.blocks []) (things e) fits.entries) in
    let are = All-same (ListingFits c ns) (listings f) _ is (of_those (ListingFits c ns) (is_listing_at a) unlisted (none_listed c ns) (listings e) were) in
    record {
      objects = fits.objects;
      entries = on_all (λ s. ListingFits c ns (listing_of s)) (EntryFits c ns) (λ s. in_other_blocks c ns (listing_of s) [] s.blocks) (things f) (from_map (ListingFits c ns) listing_of (things f) are);
    }

-- ---- the entries stay

abbrev listed_entry : Listing → Entry
listed_entry l = l.entry

of_listings : (xs : List StoredEntry) → map entry_of xs ≡ map listed_entry (map listing_of xs)
of_listings [] = refl
of_listings (x ∷ xs) = ap (λ (z : List Entry). x.entry ∷ z) (of_listings xs)

same_listed : (t : Listing → Bool) (ls : List Listing) → map listed_entry (map_those t unlisted ls) ≡ map listed_entry ls
same_listed t [] = refl
same_listed t (l ∷ ls) = ap (λ (z : List Entry). listed_entry (if t l then unlisted l else l) ∷ z) (same_listed t ls) ∙ ap (λ z. z ∷ map listed_entry ls) (elim (t l) as (λ b. listed_entry (if b then unlisted l else l) ≡ l.entry) [ true ↦ refl | false ↦ refl ])

pub same_entries : (a : AttemptId) (e f : Entries) → IsUnlistedAt a (listings e) (listings f) → entries_in f ≡ entries_in e
same_entries a e f is = of_listings (things f) ∙ (ap (map listed_entry) is ∙ (same_listed (is_listing_at a) (listings e) ∙ sym (of_listings (things e))))

-- ---- one row after another

-- the list of an entry is given back for a row
abbrev is_due : Listing → EntryRow → Bool
is_due l r = is_listing_at r.entry.attempt l && not (r.listed == 0)

abbrev is_left : List EntryRow → Listing → Bool
is_left rows l = list_any (is_due l) rows

-- an entry that no row is left for lists no nodes
abbrev IsLeft : List EntryRow → Listing → Type 0
IsLeft rows l = is_left rows l ≡ false → l.nodes ≡ []

abbrev pub AreLeft : List EntryRow → Entries → Type 0
AreLeft rows e = All (IsLeft rows) (listings e)

own_attempt : (a : AttemptId) → same_attempt a a ≡ true
own_attempt a =
    let client : (a.client == a.client) ≡ true = grind (arith, nat_tests) in
    let command : (a.command == a.command) ≡ true = grind (arith, nat_tests) in
    let attempt : (a.attempt == a.attempt) ≡ true = grind (arith, nat_tests) in
    rw (client, command, attempt) refl

none_in : (ns : List ℕ) → not (length ns == 0) ≡ false → ns ≡ []
none_in [] out = refl
none_in (n ∷ ns) out = absurd (let some : not (length (n ∷ ns) == 0) ≡ true = grind (arith, nat_tests) in let never : true ≡ false = sym some ∙ out in cc)

its_row : (s : StoredEntry) → is_due (listing_of s) (entry_row s) ≡ false → s.nodes ≡ []
its_row s out = none_in s.nodes (ap (λ t. t && not (length s.nodes == 0)) (sym (own_attempt s.entry.attempt)) ∙ out)

rows_of : (ss : List StoredEntry) → All (λ s. IsLeft (map entry_row ss) (listing_of s)) ss
rows_of [] = All-nil (λ s. IsLeft [] (listing_of s))
rows_of (s ∷ ss) =
    All-cons (λ x. IsLeft (map entry_row (s ∷ ss)) (listing_of x)) s ss
    (λ out. its_row s (or_left (is_due (listing_of s) (entry_row s)) (is_left (map entry_row ss) (listing_of s)) out))
    (on_all (λ x. IsLeft (map entry_row ss) (listing_of x)) (λ x. IsLeft (map entry_row (s ∷ ss)) (listing_of x)) (λ x h out. h (or_right (is_due (listing_of x) (entry_row s)) (is_left (map entry_row ss) (listing_of x)) out)) ss (rows_of ss))

-- the rows from one on are that one and the rest
pub next_row : (rows : List EntryRow) (i : ℕ) (d : EntryRow) → i < length rows → drop i rows ≡ get_or rows i d ∷ drop (i + 1) rows
next_row rows i d low = rw (drop-cons rows i d low, add-one) refl

-- at first there is a row for each entry that lists nodes
pub all_left : (e : Entries) (rows : List EntryRow) → rows ≡ map entry_row (things e) → AreLeft rows e
all_left e rows is = of_map (IsLeft rows) listing_of (things e) (rw is (rows_of (things e)))

-- a row that says that none are listed does nothing
pub passed : (e : Entries) (r : EntryRow) (rows : List EntryRow) → r.listed ≡ 0 → AreLeft (r ∷ rows) e → AreLeft rows e
passed e r rows none all = on_all (IsLeft (r ∷ rows)) (IsLeft rows) (λ l h out. h (ap (λ (n : ℕ). (is_listing_at r.entry.attempt l && not (n == 0)) || is_left rows l) none ∙ (off (is_listing_at r.entry.attempt l) (is_left rows l) ∙ out))) (listings e) all
  where
    off : (s t : Bool) → ((s && false) || t) ≡ t
    off true t = refl
    off false t = refl

-- for another the list is given back
one_given : (r : EntryRow) (rows : List EntryRow) (ls : List Listing) → All (IsLeft (r ∷ rows)) ls → All (IsLeft rows) (map_those (is_listing_at r.entry.attempt) unlisted ls)
one_given r rows [] all = All-nil (IsLeft rows)
one_given r rows (l ∷ ls) all =
    All-cons (IsLeft rows) (if is_listing_at r.entry.attempt l then unlisted l else l) (map_those (is_listing_at r.entry.attempt) unlisted ls)
    (by (is_listing_at r.entry.attempt l) refl (All-head (IsLeft (r ∷ rows)) l ls all))
    (one_given r rows ls (All-tail (IsLeft (r ∷ rows)) l ls all))
  where
    by : (b : Bool) → is_listing_at r.entry.attempt l ≡ b → IsLeft (r ∷ rows) l → IsLeft rows (if b then unlisted l else l)
    by true is h out = refl
    by false is h out = h (ap (λ t. (t && not (r.listed == 0)) || is_left rows l) is ∙ out)

pub given : (r : EntryRow) (rows : List EntryRow) (e f : Entries) → IsUnlistedAt r.entry.attempt (listings e) (listings f) → AreLeft (r ∷ rows) e → AreLeft rows f
given r rows e f is all = All-same (IsLeft rows) (listings f) _ is (one_given r rows (listings e) all)

-- at last no entry lists nodes
pub none_left : (e : Entries) → AreLeft [] e → All (λ s. s.nodes ≡ []) (things e)
none_left e all = on_all (λ s. IsLeft [] (listing_of s)) (λ s. s.nodes ≡ []) (λ s h. h refl) (things e) (from_map (IsLeft []) listing_of (things e) all)
