-- What a stretch of an array holds below an epoch, by the versions that say it.
use Rattle.std.proofs.Common.{◌≡◌, ℕ, zero, suc, ◌+◌, ◌-◌, ◌*◌, ◌/◌, ◌<◌, ◌≤◌, Bool, true, false, ◌&&◌, ◌||◌, List, [], ◌∷◌, ◌++◌, Option, Some, None, length, take, drop, reverse, refl, sym, ◌∙◌, ap, arith, add-one}
use Rattle.std.specs.Prelude.{◌==◌, IfSome, find, filter, nat_eq, nat_le, nat_lt, if◌then◌else◌}
use Rattle.std.proofs.lemmas.Bool.Decides.{nat_tests}
use Rattle.std.proofs.lemmas.List.{drop-drop}
use Rattle.base_types.specs.declared.operation.Write.{Write}
use Rattle.base_types.specs.declared.operation.Write.TheVariants.{Single, Extent, PunchObject, PunchDkey, PunchAkey}
use Rattle.base_types.specs.declared.path.Path.{Path}
use Rattle.base_types.specs.PathLaws.{same_path-Decides}
use Rattle.base_types.specs.Paths.{leads_to, record_size, same_path}
use Rattle.daos_model.specs.declared.cell.CellValue.{CellValue}
use Rattle.daos_model.specs.declared.durable.Version.{Version}
use Rattle.daos_model.specs.Answers.{record_of}
use Rattle.daos_model.specs.Cells.{index_cell, same_cell, value_at}
use Rattle.daos_model.specs.Effect.{cut_records, record_cells, records_of}
use Rattle.daos_model.specs.Pieces.{window}
use Rattle.daos_model.specs.Prunes.{is_index_in, touches, values_of}
use Rattle.daos_model.specs.Versions.{map_below, sees}
use Rattle.daos_model.proofs.RecordSteps.{record-within}
use Rattle.daos_model.proofs.Sights.{any-extent_cells}
use Rattle.vos_scan.specs.Layers.{covers, covers_at, is_about, is_layer, meets, record_by, record_in}
use Rattle.vos_scan.specs.Newest.{left_by, says_at}
use Rattle.vos_scan.proofs.Newest.{found-passes, value_at-newest}

-- ---- finding among those that pass a test

find-filter : {T : Type 0} (t s u : T → Bool) → ((x : T) → t x ≡ (s x && u x)) → (xs : List T) → find t xs ≡ find u (filter s xs)
find-filter t s u same [] = refl
find-filter t s u same (x ∷ xs) = ap (λ (b : Bool). if b then Some x else find t xs) (same x) ∙ ap (λ o. if s x && u x then Some x else o) (find-filter t s u same xs) ∙ by (s x)
  where
    by : (b : Bool) → (if b && u x then Some x else find u (filter s xs)) ≡ find u (if b then x ∷ filter s xs else filter s xs)
    by true = refl
    by false = refl

-- ---- what a write says of an index

no_single : (s : Bool) → ((s && false) || false) ≡ false
no_single true = refl
no_single false = refl

above : (b : Bool) → b ≡ (b && true)
above true = refl
above false = refl

within : (at count low len i : ℕ) → low ≤ i → i < low + len → is_index_in at count (Some i) ≡ true → meets at count low len ≡ true
within at count low len i from to h =
    let le : nat_le at i ≡ true = first (nat_le at i) (nat_lt (i - at) count) h in
    let lt : nat_lt (i - at) count ≡ true = second (nat_le at i) (nat_lt (i - at) count) h in
    let a : nat_lt low (at + count) ≡ true = grind (arith, nat_tests) in
    let b : nat_lt at (low + len) ≡ true = grind (arith, nat_tests) in
    join (nat_lt low (at + count)) (nat_lt at (low + len)) a b
  where
    first : (a b : Bool) → (a && b) ≡ true → a ≡ true
    first true b e = refl
    first false b e = e

    second : (a b : Bool) → (a && b) ≡ true → b ≡ true
    second true b e = e
    second false b e = absurd (let n : ⊥ = cc in n)

    join : (a b : Bool) → a ≡ true → b ≡ true → (a && b) ≡ true
    join true b d e = e
    join false b d e = absurd (let n : ⊥ = cc in n)

in_stretch : (m s x : Bool) → (x ≡ true → m ≡ true) → (s && x) ≡ ((m && s) && x)
in_stretch true true x h = refl
in_stretch true false x h = refl
in_stretch false s false h = no s
  where
    no : (s : Bool) → (s && false) ≡ false
    no true = refl
    no false = refl
in_stretch false s true h = absurd (let e : false ≡ true = h refl in let n : ⊥ = cc in n)

-- a write that says what an index of a stretch holds is one of those about the stretch, and covers the index
touches-about : (p : Path) (low len i : ℕ) (w : Write) → low ≤ i → i < low + len → touches (index_cell p i) w ≡ (is_about p low len w && covers i w)
unfolding touches same_cell
touches-about p low len i (Single q b) from to = no_single (same_path q p)
touches-about p low len i (Extent q at b) from to =
    any-extent_cells (index_cell p i) q at b
    ∙ in_stretch (meets at (length b / record_size q) low len) (same_path q p) (is_index_in at (length b / record_size q) (Some i)) (within at (length b / record_size q) low len i from to)
touches-about p low len i (PunchObject q) from to = above (leads_to q p)
touches-about p low len i (PunchDkey q) from to = above (leads_to q p)
touches-about p low len i (PunchAkey q) from to = above (leads_to q p)

layer-says : (p : Path) (low len i e : ℕ) → low ≤ i → i < low + len → (v : Version) → says_at (index_cell p i) e v ≡ (is_layer p low len e v && covers_at i v)
layer-says p low len i e from to v = ap (λ b. sees e v && b) (touches-about p low len i v.write from to) ∙ sym (and_assoc (sees e v) (is_about p low len v.write) (covers i v.write))
  where
    and_assoc : (a b c : Bool) → ((a && b) && c) ≡ (a && (b && c))
    and_assoc true b c = refl
    and_assoc false b c = refl

-- ---- the record that a write leaves

nth-value : (p q : Path) (at size k count : ℕ) (b : List ℕ) → same_path q p ≡ true → k < count → value_at (record_cells q at (cut_records count size b)) (index_cell p (at + k)) ≡ Some (take size (drop (k * size) b))
unfolding same_cell
nth-value p q at size k zero b same lt = absurd (omega arith)
nth-value p q at size zero (suc count) b same lt =
    let here : nat_eq at (at + zero) ≡ true = grind (arith, nat_tests) in
    let front : zero * size ≡ zero = omega arith in
    ap (λ (t : Bool). if t && nat_eq at (at + zero) then Some (take size b) else value_at (record_cells q (at + 1) (cut_records count size (drop size b))) (index_cell p (at + zero))) same
    ∙ ap (λ (t : Bool). if t then Some (take size b) else value_at (record_cells q (at + 1) (cut_records count size (drop size b))) (index_cell p (at + zero))) here
    ∙ ap (λ n. Some (take size (drop n b))) (sym front)
nth-value p q at size (suc k) (suc count) b same lt =
    let later : nat_eq at (at + suc k) ≡ false = grind (arith, nat_tests) in
    let next : at + suc k ≡ at + 1 + k = omega arith in
    let more : size + k * size ≡ suc k * size = omega arith in
    ap (λ (t : Bool). if t && nat_eq at (at + suc k) then Some (take size b) else value_at (record_cells q (at + 1) (cut_records count size (drop size b))) (index_cell p (at + suc k))) same
    ∙ ap (λ (t : Bool). if t then Some (take size b) else value_at (record_cells q (at + 1) (cut_records count size (drop size b))) (index_cell p (at + suc k))) later
    ∙ ap (λ n. value_at (record_cells q (at + 1) (cut_records count size (drop size b))) (index_cell p n)) next
    ∙ nth-value p q (at + 1) size k count (drop size b) same (omega arith)
    ∙ ap (λ xs. Some (take size xs)) (drop-drop (k * size) size b)
    ∙ ap (λ n. Some (take size (drop n b))) more

-- an extent that says what an index holds
pub record IsHolding (p q : Path) (i at : ℕ) (b : List ℕ) : Type 0 where
  pub same : same_path q p ≡ true
  pub from : at ≤ i
  pub lies : i - at < length b / record_size q

holding : (p q : Path) (i at : ℕ) (b : List ℕ) → touches (index_cell p i) (Extent q at b) ≡ true → IsHolding p q i at b
unfolding touches
holding p q i at b t = by (same_path q p) (nat_le at i) (nat_lt (i - at) (length b / record_size q)) refl refl refl (sym (any-extent_cells (index_cell p i) q at b) ∙ t)
  where
    by : (s f l : Bool) → same_path q p ≡ s → nat_le at i ≡ f → nat_lt (i - at) (length b / record_size q) ≡ l → (s && (f && l)) ≡ true → IsHolding p q i at b
    by true true true s f l h = record { same = s; from = grind (arith, nat_tests); lies = grind (arith, nat_tests) }
    by true true false s f l h = absurd (let n : ⊥ = cc in n)
    by true false l s f m h = absurd (let n : ⊥ = cc in n)
    by false f l s g m h = absurd (let n : ⊥ = cc in n)

record-left : (p : Path) (i : ℕ) (w : Write) → touches (index_cell p i) w ≡ true → value_at (values_of w) (index_cell p i) ≡ record_in i w
unfolding touches same_cell
record-left p i (Single q b) t = absurd (let e : false ≡ true = sym (no_single (same_path q p)) ∙ t in let n : ⊥ = cc in n)
record-left p i (Extent q at b) t =
    let h : IsHolding p q i at b = holding p q i at b t in
    let e : i ≡ at + (i - at) = omega (arith, h.from) in
    ap (λ n. value_at (record_cells q at (records_of (record_size q) b)) (index_cell p n)) e
    ∙ nth-value p q at (record_size q) (i - at) (length b / record_size q) b h.same h.lies
record-left p i (PunchObject q) t = refl
record-left p i (PunchDkey q) t = refl
record-left p i (PunchAkey q) t = refl

length-take : (n : ℕ) (xs : List ℕ) → n ≤ length xs → length (take n xs) ≡ n
length-take zero xs le = refl
length-take (suc n) [] le = absurd (omega arith)
length-take (suc n) (x ∷ xs) le = ap suc (length-take n xs (omega arith))

length-drop : (n k : ℕ) (xs : List ℕ) → n + k ≤ length xs → k ≤ length (drop n xs)
length-drop zero k xs le = omega arith
length-drop (suc n) k [] le = absurd (omega arith)
length-drop (suc n) k (x ∷ xs) le = length-drop n k xs (omega arith)

sized : (size : ℕ) (r : List ℕ) → length r ≡ size → record_of size (Some r) ≡ Some r
sized size r h = let e : (length r == size) ≡ true = grind (arith, nat_tests) in ap (λ (b : Bool). if b then Some r else None) e

-- it has the size of the array's records
record-whole : (p : Path) (i : ℕ) (w : Write) → touches (index_cell p i) w ≡ true → record_of (record_size p) (record_in i w) ≡ record_in i w
record-whole p i (Single q b) t = refl
record-whole p i (Extent q at b) t =
    let h : IsHolding p q i at b = holding p q i at b t in
    let size : record_size q ≡ record_size p = ap (λ (x : Path). record_size x) ((same_path-Decides q p).0 h.same) in
    let fits : (i - at + 1) * record_size q ≤ length b = record-within (record_size q) (length b) (i - at) h.lies in
    let split : (i - at + 1) * record_size q ≡ (i - at) * record_size q + record_size q = omega arith in
    let long : record_size q ≤ length (drop ((i - at) * record_size q) b) = length-drop ((i - at) * record_size q) (record_size q) b (omega (arith, fits, split)) in
    sized (record_size p) (take (record_size q) (drop ((i - at) * record_size q) b)) (length-take (record_size q) (drop ((i - at) * record_size q) b) long ∙ size)
record-whole p i (PunchObject q) t = refl
record-whole p i (PunchDkey q) t = refl
record-whole p i (PunchAkey q) t = refl

second_of : (a b : Bool) → (a && b) ≡ true → b ≡ true
second_of true b e = e
second_of false b e = absurd (let n : ⊥ = cc in n)

record_by-left : (p : Path) (i e : ℕ) (o : Option Version) → IfSome o (λ v. says_at (index_cell p i) e v ≡ true) → left_by (index_cell p i) o ≡ record_by i o
record_by-left p i e None h = refl
record_by-left p i e (Some v) h = record-left p i v.write (second_of (sees e v) (touches (index_cell p i) v.write) h)

record_by-whole : (p : Path) (i e : ℕ) (o : Option Version) → IfSome o (λ v. says_at (index_cell p i) e v ≡ true) → record_of (record_size p) (record_by i o) ≡ record_by i o
record_by-whole p i e None h = refl
record_by-whole p i e (Some v) h = record-whole p i v.write (second_of (sees e v) (touches (index_cell p i) v.write) h)

-- what an index of a stretch holds below an epoch is the record of the newest version about the stretch that covers it
pub record-here : (p : Path) (low len i e : ℕ) (vs : List Version) → low ≤ i → i < low + len → record_of (record_size p) (value_at (map_below vs e) (index_cell p i)) ≡ record_by i (find (covers_at i) (filter (is_layer p low len e) (reverse vs)))
record-here p low len i e vs from to =
    let o : Option Version = find (says_at (index_cell p i) e) (reverse vs) in
    let passes : IfSome o (λ v. says_at (index_cell p i) e v ≡ true) = found-passes (says_at (index_cell p i) e) (reverse vs) in
    ap (record_of (record_size p)) (value_at-newest (index_cell p i) e vs ∙ record_by-left p i e o passes)
    ∙ record_by-whole p i e o passes
    ∙ ap (record_by i) (find-filter (says_at (index_cell p i) e) (is_layer p low len e) (covers_at i) (layer-says p low len i e from to) (reverse vs))

window_suc : (p : Path) (i n : ℕ) (m : List CellValue) → window p i (suc n) m ≡ window p i n m ++ value_at m (index_cell p (i + n)) ∷ []
unfolding window
window_suc p i zero m = let e : i ≡ i + zero = omega arith in ap (λ k. value_at m (index_cell p k) ∷ []) e
window_suc p i (suc n) m =
    let e : i + 1 + n ≡ i + suc n = omega arith in
    ap (λ xs. value_at m (index_cell p i) ∷ xs) (window_suc p (i + 1) n m ∙ ap (λ k. window p (i + 1) n m ++ value_at m (index_cell p k) ∷ []) e)

-- one index more of an array
pub window_last : (p : Path) (i n : ℕ) (m : List CellValue) → window p i (n + 1) m ≡ window p i n m ++ value_at m (index_cell p (i + n)) ∷ []
window_last p i n m = rw add-one (window_suc p i n m)

-- the record at an index that an extent covers lies within its bytes
pub nth-fits : (i at : ℕ) (q : Path) (b : List ℕ) (from size : ℕ) (bytes : List ℕ) → from ≡ at → size ≡ record_size q → bytes ≡ b → covers i (Extent q at b) ≡ true → (i - from + 1) * size ≤ length bytes
nth-fits i at q b from size bytes f s e h =
    let lies : nat_lt (i - at) (length b / record_size q) ≡ true = second_of (nat_le at i) (nat_lt (i - at) (length b / record_size q)) h in
    let lt : i - at < length b / record_size q = grind (arith, nat_tests) in
    let fits : (i - at + 1) * record_size q ≤ length b = record-within (record_size q) (length b) (i - at) lt in
    rw f (rw s (rw e fits))
