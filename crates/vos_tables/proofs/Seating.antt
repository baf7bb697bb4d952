-- Containers that come to places one by one.
use Rattle.std.proofs.Common.{◌≡◌, ℕ, zero, suc, ◌<◌, ◌≤◌, ◌+◌, Bool, true, false, ◌||◌, List, [], ◌∷◌, ◌++◌, Option, Some, None, Ok, Err, length, get_or, refl, sym, ap, subst, ◌∙◌, arith, nat_lt}
use Rattle.std.specs.Prelude.{is_some, set, if◌then◌else◌}
use Rattle.std.specs.List.{list_any}
use Rattle.std.proofs.lemmas.Bool.Decides.{nat_tests}
use Rattle.std.proofs.lemmas.List.{length-set, set-get_or}
use Rattle.base_types.specs.declared.entry.Entry.{Entry}
use Rattle.base_types.specs.declared.id.ContId.{ContId}
use Rattle.daos_model.specs.declared.durable.ContRow.{ContRow}
use Rattle.daos_model.specs.declared.durable.Version.{Version}
use Rattle.daos_model.specs.Changes.{enlisted, with_cont, with_conts}
use Rattle.daos_model.specs.Durables.{cont_key, is_row_of, new_row}
use Rattle.daos_model.specs.FormLaws.{absent_rows}
use Rattle.daos_model.specs.Ordered.{in_order, put}
use Rattle.vos_places.specs.Codec.{IsContUnder}
use Rattle.vos_places.specs.Laws.{RowsCome, covered_by}
use Rattle.vos_places.specs.Tables.{Table, those}
use Rattle.vos_store.specs.declared.refusal.EnlistNo.TheVariants as no
use Rattle.vos_store.specs.Answers.{enlists}
use Rattle.vos_tables.specs.declared.change.Change.{Change}
use Rattle.vos_tables.specs.declared.change.Change.TheVariants.{Cont, Snapshot, Unused}
use Rattle.vos_tables.specs.Changes.{AllFit, Fits, all_changed, changed}
use Rattle.vos_tables.specs.Kept.{Makes, OfKept, kept_with}
use Rattle.vos_tables.specs.Seats.{AreSeated, FindsCont, FindsUnused}
use Rattle.vos_tables.specs.Tables.{IsTable}
use Rattle.vos_tables.proofs.Applying.{cont_applied, snap_applied, unused_applied}
use Rattle.vos_tables.proofs.Places.{any_in_order, fewer_used, length_in_order, one_unused, push_in, seat_in}

-- ---- several changes

one_applied : (t : Table) (x : Change) → IsTable t → Fits t x → IsTable (changed x t)
one_applied t (Cont i r) h f = cont_applied t i r h f
one_applied t (Snapshot i s) h f = snap_applied t i s h f
one_applied t (Unused i) h f = unused_applied t i h f

all_applied : (t : Table) (xs : List Change) → IsTable t → AllFit t xs → IsTable (all_changed xs t)
all_applied t [] h f = h
all_applied t (x ∷ xs) h f = all_applied (changed x t) xs (one_applied t x h f.0) f.1

one_more : (t : Table) (xs : List Change) (x : Change) → all_changed (xs ++ x ∷ []) t ≡ changed x (all_changed xs t)
one_more t [] x = refl
one_more t (y ∷ ys) x = one_more (changed y t) ys x

one_fits : (t : Table) (xs : List Change) (x : Change) → AllFit t xs → Fits (all_changed xs t) x → AllFit t (xs ++ x ∷ [])
one_fits t [] x f g = (g, tt)
one_fits t (y ∷ ys) x f g = (f.0, one_fits (changed y t) ys x f.1 g)

-- ---- a container that comes

any_at : {T : Type 0} (p : T → Bool) (os : List (Option T)) (i : ℕ) (x : T) → get_or os i None ≡ Some x → p x ≡ true → list_any p (those os) ≡ true
any_at p [] i x is h = absurd (let n : None ≡ Some x = is in let k : ⊥ = cc in k)
any_at p (None ∷ os) zero x is h = let n : ⊥ = cc in absurd n
any_at p (Some y ∷ os) zero x is h = let e : p y ≡ true = cc in rw e refl
any_at p (None ∷ os) (suc i) x is h = any_at p os i x is h
any_at p (Some y ∷ os) (suc i) x is h = by (p y) (list_any p (those os)) (any_at p os i x is h)
  where
    by : (s t : Bool) → t ≡ true → (s || t) ≡ true
    by true t k = refl
    by false t k = k

pub seat_there : (c : ContId) (os : List (Option ContRow)) (at : Option (ℕ × ContRow)) → is_some at ≡ true → FindsCont c os at → in_order cont_key (those os) ≡ with_cont c (in_order cont_key (those os))
seat_there c os None some found = let n : ⊥ = cc in absurd n
seat_there c os (Some at) some found =
    let rows = in_order cont_key (those os) in
    let there : list_any (is_row_of c) rows ≡ true = any_in_order cont_key (is_row_of c) (those os) ∙ any_at (is_row_of c) os at.0 at.1 found.0.row_there found.1 in
    sym (ap (λ (b : Bool). if b then rows else put cont_key (new_row c) rows) there)

pub seat_absent : (c : ContId) (os : List (Option ContRow)) (at : Option (ℕ × ContRow)) → is_some at ≡ false → FindsCont c os at → FindsCont c os None
seat_absent c os None none found = found
seat_absent c os (Some at) none found = let n : ⊥ = cc in absurd n

come_in : (c : ContId) (os qs : List (Option ContRow)) → FindsCont c os None → in_order cont_key (those qs) ≡ put cont_key (new_row c) (in_order cont_key (those os)) → in_order cont_key (those qs) ≡ with_cont c (in_order cont_key (those os))
come_in c os qs none is =
    let rows = in_order cont_key (those os) in
    is ∙ sym (ap (λ (b : Bool). if b then rows else put cont_key (new_row c) rows) (any_in_order cont_key (is_row_of c) (those os) ∙ none))

pub seat_one : (c : ContId) (os : List (Option ContRow)) (at : ℕ) → FindsCont c os None → FindsUnused os (Some at) → in_order cont_key (those (set os at (Some (new_row c)))) ≡ with_cont c (in_order cont_key (those os))
seat_one c os at none unused =
    let empty : set os at None ≡ os = ap (set os at) (sym unused.1) ∙ set-get_or os at None in
    come_in c os (set os at (Some (new_row c))) none
    (seat_in cont_key os at (new_row c) unused.0 (absent_rows c (those (set os at None)) (ap (λ z. list_any (is_row_of c) (those z)) empty ∙ none))
    ∙ ap (λ z. put cont_key (new_row c) (in_order cont_key (those z))) empty)

pub seat_more : (c : ContId) (os : List (Option ContRow)) → FindsCont c os None → in_order cont_key (those (os ++ Some (new_row c) ∷ [])) ≡ with_cont c (in_order cont_key (those os))
seat_more c os none = come_in c os (os ++ Some (new_row c) ∷ []) none (push_in cont_key os (new_row c) (absent_rows c (those os) none))

-- where a place isn't used there are no more than 256
pub seat_within : (t : Table) (os : List (Option ContRow)) (xs : List Change) (at : ℕ) → AreSeated t os xs → FindsUnused os (Some at) → (length os ≡ 256) × (at < 256)
seat_within t os xs at s unused =
    let some : length (those os) < length os = one_unused os at unused.0 unused.1 in
    let exact : length os ≡ 256 = by (nat_lt 256 (length os)) refl some in
    (exact, subst (λ n. at < n) exact unused.0)
  where
    by : (b : Bool) → nat_lt 256 (length os) ≡ b → length (those os) < length os → length os ≡ 256
    by true e some = let more : 256 < length os = grind (arith, nat_tests) in absurd (omega (arith, s.full more))
    by false e some = let few : length os ≤ 256 = grind (arith, nat_tests) in omega (arith, s.many)

length_pushed : {T : Type 0} (os : List T) (o : T) → length (os ++ o ∷ []) ≡ length os + 1
length_pushed [] o = refl
length_pushed (x ∷ os) o = omega (arith, length_pushed os o)

seat_longer : {T : Type 0} (os : List (Option T)) (at : ℕ) (r : T) → at < length os → get_or os at None ≡ None → length (those (set os at (Some r))) ≡ length (those os) + 1
seat_longer [] at r low is = absurd (omega (arith, low))
seat_longer (None ∷ os) zero r low is = omega arith
seat_longer (Some x ∷ os) zero r low is = let no : ⊥ = cc in absurd no
seat_longer (None ∷ os) (suc at) r low is = seat_longer os at r (omega (arith, low)) is
seat_longer (Some x ∷ os) (suc at) r low is = let h = seat_longer os at r (omega (arith, low)) is in omega (arith, h)

pub seated_one : RowsCome → (t : Table) (c : ContId) (os : List (Option ContRow)) (xs : List Change) (at : ℕ) → AreSeated t os xs → FindsCont c os None → FindsUnused os (Some at) → IsContUnder (covered_by t.header) (new_row c)
    → AreSeated t (set os at (Some (new_row c))) (xs ++ Cont at (new_row c) ∷ [])
seated_one come t c os xs at s none unused small =
    let within = seat_within t os xs at s unused in
    let qs = set os at (Some (new_row c)) in
    let long : length qs ≡ length os = length-set os at (Some (new_row c)) in
    let fit = s.fit within.0 in
    let made : all_changed xs t ≡ record t { conts = os } = s.made within.0 in
    let table : IsTable (record t { conts = os }) = subst IsTable made (all_applied t xs s.table fit) in
    let fits : Fits (record t { conts = os }) (Cont at (new_row c)) = (within.1, small, come (record t { conts = os }) at (new_row c) table.apart unused.0 unused.1 none) in
    record {
      table = s.table;
      many = subst (λ n. 256 ≤ n) (sym long) s.many;
      full = λ more. absurd (omega (arith, long, within.0));
      fit = λ _. one_fits t xs (Cont at (new_row c)) fit (subst (λ u. Fits u (Cont at (new_row c))) (sym made) fits);
      made = λ _. one_more t xs (Cont at (new_row c)) ∙ ap (changed (Cont at (new_row c))) made;
      few = let longer = seat_longer os at (new_row c) unused.0 unused.1 in let pushed = length_pushed xs (Cont at (new_row c)) in omega (arith, longer, pushed, s.few);
    }

length_more : {T : Type 0} (os : List (Option T)) (r : T) → length (those (os ++ Some r ∷ [])) ≡ length (those os) + 1
length_more [] r = refl
length_more (None ∷ os) r = length_more os r
length_more (Some x ∷ os) r = omega (arith, length_more os r)

pub seated_more : (t : Table) (c : ContId) (os : List (Option ContRow)) (xs : List Change) → AreSeated t os xs → FindsUnused os None → AreSeated t (os ++ Some (new_row c) ∷ []) xs
seated_more t c os xs s full =
    let long = length_pushed os (Some (new_row c)) in
    record {
      table = s.table;
      many = omega (arith, long, s.many);
      full = λ more. omega (arith, long, length_more os (new_row c), full);
      fit = λ exact. absurd (omega (arith, long, s.many));
      made = λ exact. absurd (omega (arith, long, s.many));
      few = omega (arith, length_more os (new_row c), s.few);
    }

-- ---- all that come

-- how many there are together
together : (t : Table) (cs : List ContId) (os : List (Option ContRow)) (vs : List Version) (es : List Entry) → in_order cont_key (those os) ≡ with_conts cs (in_order cont_key (those t.conts)) → length (enlisted cs (kept_with t vs es)).conts ≡ length (those os)
unfolding enlisted
together t cs os vs es is = ap (λ z. length z) (sym is) ∙ length_in_order cont_key (those os)

pub enlist_many : (t : Table) (cs : List ContId) (os : List (Option ContRow)) (xs : List Change) → AreSeated t os xs → in_order cont_key (those os) ≡ with_conts cs (in_order cont_key (those t.conts)) → 256 < length os → OfKept t (λ d. enlists cs d ≡ Err (no.TooMany (length os)))
unfolding enlists
enlist_many t cs os xs s is more vs es =
    let n : length (enlisted cs (kept_with t vs es)).conts ≡ length os = together t cs os vs es is ∙ s.full more in
    let over : nat_lt 256 (length os) ≡ true = grind (arith, nat_tests) in
    rw (n, over) refl

pub enlist_few : (t : Table) (cs : List ContId) (os : List (Option ContRow)) → in_order cont_key (those os) ≡ with_conts cs (in_order cont_key (those t.conts)) → length os ≤ 256 → OfKept t (λ d. enlists cs d ≡ Ok tt)
unfolding enlists
enlist_few t cs os is few vs es =
    let n : length (enlisted cs (kept_with t vs es)).conts ≡ length (those os) = together t cs os vs es is in
    let under : nat_lt 256 (length (those os)) ≡ false = let low = fewer_used os in grind (arith, nat_tests) in
    rw (n, under) refl

pub enlist_makes : (t : Table) (cs : List ContId) (os : List (Option ContRow)) (xs : List Change) → AreSeated t os xs → in_order cont_key (those os) ≡ with_conts cs (in_order cont_key (those t.conts)) → length os ≤ 256 → Makes (enlisted cs) t (all_changed xs t)
unfolding enlisted
enlist_makes t cs os xs s is few vs es =
    let exact : length os ≡ 256 = omega (arith, s.many) in
    ap (λ u. kept_with u vs es) (s.made exact) ∙ ap (λ z. record (kept_with t vs es) { conts = z }) is

pub enlist_fits : (t : Table) (os : List (Option ContRow)) (xs : List Change) → AreSeated t os xs → length os ≤ 256 → AllFit t xs
enlist_fits t os xs s few = let exact : length os ≡ 256 = omega (arith, s.many) in s.fit exact

-- so they change few places
pub enlist_small : (t : Table) (os : List (Option ContRow)) (xs : List Change) → AreSeated t os xs → length os ≤ 256 → length xs ≤ 256
enlist_small t os xs s few = omega (arith, s.few, fewer_used os, few)
