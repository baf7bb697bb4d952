-- What stands once an entry and its writes were prepared is tidy.
use Rattle.std.specs.Prelude.{All, filter, not, ◌&&◌, ◌==◌}
use Rattle.std.proofs.Common.{◌≡◌, ℕ, ◌≤◌, Bool, true, false, List, [], ◌∷◌, length, refl, sym, ap, ◌∙◌, subst, arith}
use Rattle.std.proofs.lemmas.Bool.Decides.{nat_tests}
use Rattle.std.proofs.lemmas.List.Elements.{All-cons, All-nil}
use Rattle.base_types.specs.declared.entry.Entry.{Entry}
use Rattle.base_types.specs.declared.id.AttemptId.{AttemptId}
use Rattle.base_types.specs.declared.operation.MinorWrite.{MinorWrite}
use Rattle.daos_model.specs.declared.durable.Version.{Version}
use Rattle.daos_model.specs.Durables.{same_attempt}
use Rattle.daos_model.specs.Versions.{is_pending, version_of, versions_of}
use Rattle.vos_entries.specs.Entries.{Entries, Listing, Stored as StoredEntry, entries_in, listing_of, listings}
use Rattle.vos_fitting.proofs.Alls.{from_map, of_map}
use Rattle.vos_image.specs.Kept.{Stored, counts}
use Rattle.vos_levels.specs.Levels.{HasMore, things}
use Rattle.vos_path.specs.Objects.{objects_versions}
use Rattle.vos_pool_base.specs.Tidy.{FewPending, NoneListed}
use Rattle.vos_pool_write.specs.Prepared.{IsPrepared}
use Rattle.vos_pool_write.proofs.Lists.{all_more, filter_have, filter_have_none, filter_nothing}
use Rattle.vos_pool_write.proofs.Prepared.{absent_all, not_counted, on_each_of}

-- ---- lists

pub none_listed_then : (x z y : Stored) (e : Entry) → z.1 ≡ x.1 → HasMore (record { entry = e; nodes = [] }) (listings z.1) (listings y.1) → NoneListed x → NoneListed y
none_listed_then x z y e same entered h =
    let before : All (λ (l : Listing). l.nodes ≡ []) (listings z.1) = of_map (λ (l : Listing). l.nodes ≡ []) listing_of (things z.1) (subst (λ (g : Entries). All (λ (s : StoredEntry). s.nodes ≡ []) (things g)) (sym same) h) in
    from_map (λ (l : Listing). l.nodes ≡ []) listing_of (things y.1) (all_more (λ (l : Listing). l.nodes ≡ []) (record { entry = e; nodes = [] }) (listings z.1) (listings y.1) entered refl before)

-- ---- unsettled versions

left_of : (a b : Bool) → (a && b) ≡ true → a ≡ true
left_of true b h = refl
left_of false b h = h

right_of : (a b : Bool) → (a && b) ≡ true → b ≡ true
right_of true b h = h
right_of false b h = let no : ⊥ = cc in absurd no

number_is : (a b : ℕ) → (a == b) ≡ true → a ≡ b
number_is a b h = grind (arith, nat_tests)

attempt_is : (a b : AttemptId) → same_attempt a b ≡ true → a ≡ b
unfolding same_attempt
attempt_is a b h =
    let client : a.client ≡ b.client = number_is a.client b.client (left_of _ _ (left_of _ _ h)) in
    let command : a.command ≡ b.command = number_is a.command b.command (right_of _ _ (left_of _ _ h)) in
    let attempt : a.attempt ≡ b.attempt = number_is a.attempt b.attempt (right_of _ _ h) in
    ap (λ (n : ℕ). let z : AttemptId = record { client = n; command = a.command; attempt = a.attempt } in z) client ∙ (ap (λ (n : ℕ). let z : AttemptId = record { client = b.client; command = n; attempt = a.attempt } in z) command ∙ ap (λ (n : ℕ). let z : AttemptId = record { client = b.client; command = b.command; attempt = n } in z) attempt)

versions_many : (e : Entry) (ws : List MinorWrite) → length (versions_of e ws) ≡ length ws
versions_many e [] = refl
versions_many e (w ∷ ws) = let h = versions_many e ws in omega (arith, h)

not_true_of : (b : Bool) → (b ≡ true → ⊥) → b ≡ false
not_true_of true h = absurd (h refl)
not_true_of false h = refl

undone_of : (b : Bool) → not b ≡ true → b ≡ false
undone_of true h = let no : ⊥ = cc in absurd no
undone_of false h = refl

clash_of : (b : Bool) → b ≡ true → b ≡ false → ⊥
clash_of true t f = let no : ⊥ = cc in no
clash_of false t f = let no : ⊥ = cc in no

-- an attempt with no entry has no unsettled version that counts
none_pending : (a : AttemptId) (e : Entry) (es : List Entry) → same_attempt e.attempt a ≡ true → All (λ (n : Entry). same_attempt n.attempt e.attempt ≡ false) es → (v : Version) → counts es v ≡ true → is_pending a v ≡ false
unfolding is_pending
none_pending a e es own absent v counted = not_true_of (same_attempt v.by a && not v.done) (λ on.
    let by : v.by ≡ e.attempt = attempt_is v.by a (left_of (same_attempt v.by a) (not v.done) on) ∙ sym (attempt_is e.attempt a own) in
    let undone : v.done ≡ false = undone_of v.done (right_of (same_attempt v.by a) (not v.done) on) in
    clash_of (counts es v) counted (not_counted v es undone (subst (λ (b : AttemptId). All (λ (n : Entry). same_attempt n.attempt b ≡ false) es) (sym by) absent)))

others_settled : (a : AttemptId) (e : Entry) (ws : List MinorWrite) → same_attempt e.attempt a ≡ false → All (λ v. is_pending a v ≡ false) (versions_of e ws)
unfolding is_pending
others_settled a e [] off = All-nil (λ v. is_pending a v ≡ false)
others_settled a e (w ∷ ws) off = All-cons (λ v. is_pending a v ≡ false) (version_of e w) (versions_of e ws) (rw off refl) (others_settled a e ws off)

pub few_then : (e : Entry) (ws : List MinorWrite) (x z y : Stored) → IsPrepared e ws x z y → length ws ≤ 64 → FewPending x → FewPending y
few_then e ws x z y k few h a = by (same_attempt e.attempt a) refl
  where
    now : length (filter (is_pending a) (objects_versions y.0)) ≡ length (filter (is_pending a) (objects_versions z.0))
    now = ap (λ o. length (filter (is_pending a) (objects_versions o))) k.objects

    by : (s : Bool) → same_attempt e.attempt a ≡ s → length (filter (is_pending a) (objects_versions y.0)) ≤ 64
    by true own =
        let none : length (filter (is_pending a) (objects_versions x.0)) ≡ 0 = ap length (filter_nothing (is_pending a) (objects_versions x.0) (on_each_of (λ v. counts (entries_in x.1) v ≡ true) (λ v. is_pending a v ≡ false) (none_pending a e (entries_in x.1) own (absent_all e.attempt (things x.1) k.absent)) (objects_versions x.0) k.counted)) in
        let more = filter_have (is_pending a) (versions_of e ws) (objects_versions x.0) (objects_versions z.0) k.come in
        let many = versions_many e ws in
        omega (arith, none, more, many, few, now)
    by false off =
        let still = ap length (filter_have_none (is_pending a) (versions_of e ws) (objects_versions x.0) (objects_versions z.0) k.come (others_settled a e ws off)) in
        let were = h a in
        omega (arith, still, were, now)
