-- Prunes leave what all targets stand for.
use Rattle.std.specs.Prelude.{ℕ, suc, ◌≡◌, ◌+◌, ◌^◌, ◌==◌, Bool, true, false, ◌&&◌, ◌||◌, not, nat_lt, is_some, List, [], ◌∷◌, ◌++◌, map, filter, find, length, Contains, Option, Some, None, if◌then◌else◌, refl}
use Rattle.std.specs.List.{list_any}
use Rattle.std.proofs.Common.{sym, ◌∙◌, ap, subst, inl, inr}
use Rattle.base_types.specs.declared.entry.Entry.{Entry}
use Rattle.base_types.specs.declared.epoch.Epoch.{Epoch}
use Rattle.base_types.specs.declared.id.AttemptId.{AttemptId}
use Rattle.base_types.specs.declared.id.ContId.{ContId}
use Rattle.base_types.specs.declared.snapshot.Snap.{Snap}
use Rattle.base_types.specs.Placement.{path_leader}
use Rattle.daos_model.specs.declared.cell.Cell.{Cell}
use Rattle.daos_model.specs.declared.cell.CellValue.{CellValue}
use Rattle.daos_model.specs.declared.durable.Durable.{Durable}
use Rattle.daos_model.specs.declared.durable.Version.{Version}
use Rattle.daos_model.specs.BoolLaws.{and_left, and_right}
use Rattle.daos_model.specs.Cells.{same_cell, value_at}
use Rattle.daos_model.specs.Durables.{entry_of, is_entry_of, is_frozen, is_snap_at}
use Rattle.daos_model.specs.Effect.{effects}
use Rattle.daos_model.specs.Family.{all_hold_from, counts, counts_below, created_snaps, family_map, holds, is_created, is_in_field, is_led_by, is_resolved_entry, is_within, joined, map_where, part_of, resolved, snap_map, stand}
use Rattle.daos_model.specs.Versions.{writes_in}
use Rattle.model_laws.specs.MatchLaws.{filter_on}
use Rattle.model_laws.specs.Members.{Has, contains-from_has, has-any}
use Rattle.model_laws.specs.PruneLaws.{prunes-now, prunes-sights}
use Rattle.model_laws.specs.PruneMatchLaws.{prunes-elsewhere}
use Rattle.model_laws.specs.Pruning.{ArePruned, HasSnapAt, IsPruned, IsReady, PrunesKeepStand, SameSnap, SameSnaps}
use Rattle.model_laws.specs.TargetLaws.{number_same, same_number, value-filter}

-- ---- the same attempts are resolved

entry-same : (c : ContId) (upto : Epoch) (d f : Durable) (x : AttemptId) → IsPruned c upto d f → entry_of f x ≡ entry_of d x
unfolding entry_of
entry-same c upto d f x p = ap (find (is_entry_of x)) p.entries

hold-same : (c : ContId) (upto : Epoch) (t : ℕ) (e : Entry) (F G : List Durable) → ArePruned c upto F G → all_hold_from t e G ≡ all_hold_from t e F
hold-same c upto t e [] [] p = refl
hold-same c upto t e [] (f ∷ G) p = absurd p
hold-same c upto t e (d ∷ F) [] p = absurd p
hold-same c upto t e (d ∷ F) (f ∷ G) p =
    ap (λ o. (is_some o || not (is_in_field e.members t || e.leader == t)) && all_hold_from (t + 1) e G) (entry-same c upto d f e.attempt p.0)
    ∙ ap (λ b. (holds e.attempt d || not (is_in_field e.members t || e.leader == t)) && b) (hold-same c upto (t + 1) e F G p.1)

length-same : (c : ContId) (upto : Epoch) (F G : List Durable) → ArePruned c upto F G → length G ≡ length F
length-same c upto [] [] p = refl
length-same c upto [] (f ∷ G) p = absurd p
length-same c upto (d ∷ F) [] p = absurd p
length-same c upto (d ∷ F) (f ∷ G) p = ap suc (length-same c upto F G p.1)

resolved_entry-same : (c : ContId) (upto : Epoch) (F G : List Durable) → ArePruned c upto F G → (o : Option Entry) → is_resolved_entry G o ≡ is_resolved_entry F o
resolved_entry-same c upto F G p None = refl
resolved_entry-same c upto F G p (Some e) =
    ap (λ n. e.committed || ((nat_lt e.leader n && nat_lt e.members (2 ^ n)) && all_hold_from 0 e G)) (length-same c upto F G p)
    ∙ ap (λ b. e.committed || (is_within F e && b)) (hold-same c upto 0 e F G p)

any_resolved-same : (c : ContId) (upto : Epoch) (F G : List Durable) → ArePruned c upto F G → (x : AttemptId) (ds fs : List Durable) → ArePruned c upto ds fs
    → list_any (λ d. is_resolved_entry G (entry_of d x)) fs ≡ list_any (λ d. is_resolved_entry F (entry_of d x)) ds
any_resolved-same c upto F G p x [] [] q = refl
any_resolved-same c upto F G p x [] (f ∷ fs) q = absurd q
any_resolved-same c upto F G p x (d ∷ ds) [] q = absurd q
any_resolved-same c upto F G p x (d ∷ ds) (f ∷ fs) q =
    ap (λ o. is_resolved_entry G o || list_any (λ g. is_resolved_entry G (entry_of g x)) fs) (entry-same c upto d f x q.0)
    ∙ ap (λ b. b || list_any (λ g. is_resolved_entry G (entry_of g x)) fs) (resolved_entry-same c upto F G p (entry_of d x))
    ∙ ap (λ b. is_resolved_entry F (entry_of d x) || b) (any_resolved-same c upto F G p x ds fs q.1)

counts-same : (c : ContId) (upto : Epoch) (F G : List Durable) → ArePruned c upto F G → (v : Version) → counts G v ≡ counts F v
unfolding resolved
counts-same c upto F G p v = ap (λ b. v.done || b) (any_resolved-same c upto F G p v.by F G p)

-- ---- maps of families

or_else : Option (List ℕ) → Option (List ℕ) → Option (List ℕ)
or_else None o = o
or_else (Some b) o = Some b

value-two : (xs m : List CellValue) (k : Cell) → value_at (xs ++ m) k ≡ or_else (value_at xs k) (value_at m k)
unfolding or_else
value-two [] m k = refl
value-two (v ∷ xs) m k =
    elim (same_cell v.cell k) as (λ b. (if b then Some v.bytes else value_at (xs ++ m) k) ≡ or_else (if b then Some v.bytes else value_at xs k) (value_at m k)) [
      | true ↦ refl
      | false ↦ value-two xs m k
    ]

-- two families whose targets hold the same, one by one
abbrev HoldTheSame : Cell → (Version → Bool) → (Version → Bool) → List Durable → List Durable → Type 0
HoldTheSame k p q [] [] = Unit {0}
HoldTheSame k p q [] (f ∷ G) = ⊥
HoldTheSame k p q (d ∷ F) [] = ⊥
HoldTheSame k p q (d ∷ F) (f ∷ G) = (value_at (map_where q f) k ≡ value_at (map_where p d) k) × HoldTheSame k p q F G

joined-same : (targets t : ℕ) (k : Cell) (p q : Version → Bool) (F G : List Durable) → HoldTheSame k p q F G → value_at (joined targets t q G) k ≡ value_at (joined targets t p F) k
joined-same targets t k p q [] [] h = refl
joined-same targets t k p q [] (f ∷ G) h = absurd h
joined-same targets t k p q (d ∷ F) [] h = absurd h
joined-same targets t k p q (d ∷ F) (f ∷ G) h =
    value-two (filter (is_led_by targets t) (map_where q f)) (joined targets (t + 1) q G) k
    ∙ ap (λ o. or_else o (value_at (joined targets (t + 1) q G) k)) (led f q ∙ ap (λ o. if is_led then o else None) h.0 ∙ sym (led d p))
    ∙ ap (or_else (value_at (filter (is_led_by targets t) (map_where p d)) k)) (joined-same targets (t + 1) k p q F G h.1)
    ∙ sym (value-two (filter (is_led_by targets t) (map_where p d)) (joined targets (t + 1) p F) k)
  where
    is_led : Bool
    is_led = path_leader k.path targets == t

    led : (g : Durable) (r : Version → Bool) → value_at (filter (is_led_by targets t) (map_where r g)) k ≡ (if is_led then value_at (map_where r g) k else None)
    led g r = value-filter (λ c. path_leader c.path targets == t) (map_where r g) k

family-same : (k : Cell) (p q : Version → Bool) (F G : List Durable) → length G ≡ length F → HoldTheSame k p q F G → value_at (family_map q G) k ≡ value_at (family_map p F) k
family-same k p q F G same h = ap (λ n. value_at (joined n 0 q G) k) same ∙ joined-same (length F) 0 k p q F G h

map-same : (p q : Version → Bool) (f : Durable) → ((v : Version) → q v ≡ p v) → map_where q f ≡ map_where p f
map-same p q f same = ap (λ us. effects (writes_in us) []) (filter_on q p f.versions (λ v i. same v))

-- ---- pruned families

-- each target's map stays, where it stays for each by itself
each-pruned : (c : ContId) (upto : Epoch) (k : Cell) (p q : Version → Bool) (F G : List Durable) → ArePruned c upto F G → ((v : Version) → q v ≡ p v)
    → ((d f : Durable) → Has d F → IsPruned c upto d f → value_at (map_where p f) k ≡ value_at (map_where p d) k) → HoldTheSame k p q F G
each-pruned c upto k p q [] [] r same each = r
each-pruned c upto k p q [] (f ∷ G) r same each = absurd r
each-pruned c upto k p q (d ∷ F) [] r same each = absurd r
each-pruned c upto k p q (d ∷ F) (f ∷ G) r same each =
    (ap (λ m. value_at m k) (map-same p q f same) ∙ each d f (inl refl) r.0, each-pruned c upto k p q F G r.1 same (λ g h i. each g h (inr i)))

done-counts : (F : List Durable) (v : Version) → v.done ≡ true → counts F v ≡ true
done-counts F v done = ap (λ b. b || resolved F v.by) done

frozen-snap : (c : ContId) (d : Durable) (s : Snap) → s.cont.0 ≡ c.0 → is_frozen d s.cont s.epoch ≡ true → HasSnapAt c d.snaps s.epoch.0
unfolding is_frozen
frozen-snap c d s same h =
    let x = has-any (is_snap_at s.cont s.epoch) d.snaps h in (
      x.0,
      contains-from_has d.snaps x.0 x.1,
      number_same x.0.cont.0 s.cont.0 (and_left (x.0.cont.0 == s.cont.0) (x.0.epoch.0 == s.epoch.0) x.2) ∙ same,
      number_same x.0.epoch.0 s.epoch.0 (and_right (x.0.cont.0 == s.cont.0) (x.0.epoch.0 == s.epoch.0) x.2),
    )

snaps-created : (c : ContId) (upto : Epoch) (F G : List Durable) → ArePruned c upto F G → created_snaps G ≡ created_snaps F
snaps-created c upto [] [] p = refl
snaps-created c upto [] (f ∷ G) p = absurd p
snaps-created c upto (d ∷ F) [] p = absurd p
snaps-created c upto (d ∷ F) (f ∷ G) p = ap (filter is_created) p.0.snaps

-- the map of a snapshot
snap-kept : (c : ContId) (upto : Epoch) (F G : List Durable) → ((d : Durable) → Contains F d → IsReady (created_snaps F) d) → ArePruned c upto F G → (s : Snap) → Has s (created_snaps F)
    → SameSnap (snap_map G s) (snap_map F s)
snap-kept c upto F G ready pruned s i = record { cont = refl; epoch = refl; map = λ k. part k (k.path.cont.0 == s.cont.0) refl }
  where
    below : ℕ
    below = s.epoch.0

    of_snap : (k : Cell) → k.path.cont.0 ≡ s.cont.0 → (b : Bool) → (s.cont.0 == c.0) ≡ b → (d f : Durable) → Has d F → IsPruned c upto d f
        → value_at (map_where (counts_below F s.epoch.0) f) k ≡ value_at (map_where (counts_below F s.epoch.0) d) k
    of_snap k at true e d f j p =
        prunes-sights c upto d.snaps (counts F) d.versions f.versions s.epoch.0 (ready d (contains-from_has F d j)).form (done-counts F) p.versions
        (inr (frozen-snap c d s (number_same s.cont.0 c.0 e) ((ready d (contains-from_has F d j)).frozen s (contains-from_has (created_snaps F) s i)))) k
    of_snap k at false e d f j p =
        prunes-elsewhere c upto d.snaps (counts_below F s.epoch.0) d.versions f.versions k (ready d (contains-from_has F d j)).form p.versions
        (λ same. let n : true ≡ false = sym (same_number c.0) ∙ ap (λ n. n == c.0) (sym (sym at ∙ same)) ∙ e in let no : ⊥ = cc in absurd no)

    part : (k : Cell) (b : Bool) → (k.path.cont.0 == s.cont.0) ≡ b → value_at (part_of s.cont (family_map (counts_below G s.epoch.0) G)) k ≡ value_at (part_of s.cont (family_map (counts_below F s.epoch.0) F)) k
    part k b e =
        value-filter (λ d. d.path.cont.0 == s.cont.0) (family_map (counts_below G s.epoch.0) G) k
        ∙ kept b e
        ∙ sym (value-filter (λ d. d.path.cont.0 == s.cont.0) (family_map (counts_below F s.epoch.0) F) k)
      where
        kept : (b : Bool) → (k.path.cont.0 == s.cont.0) ≡ b
            → (if k.path.cont.0 == s.cont.0 then value_at (family_map (counts_below G s.epoch.0) G) k else None) ≡ (if k.path.cont.0 == s.cont.0 then value_at (family_map (counts_below F s.epoch.0) F) k else None)
        kept true e =
            ap (λ o. if k.path.cont.0 == s.cont.0 then o else None)
            (family-same k (counts_below F s.epoch.0) (counts_below G s.epoch.0) F G (length-same c upto F G pruned)
            (each-pruned c upto k (counts_below F s.epoch.0) (counts_below G s.epoch.0) F G pruned (λ v. ap (λ b. b && nat_lt v.epoch.0 s.epoch.0) (counts-same c upto F G pruned v))
            (of_snap k (number_same k.path.cont.0 s.cont.0 e) (s.cont.0 == c.0) refl)))
        kept false e =
            ap (λ b. if b then value_at (family_map (counts_below G s.epoch.0) G) k else None) e
            ∙ sym (ap (λ b. if b then value_at (family_map (counts_below F s.epoch.0) F) k else None) e)

snaps-kept : (c : ContId) (upto : Epoch) (F G : List Durable) → ((d : Durable) → Contains F d → IsReady (created_snaps F) d) → ArePruned c upto F G → (ss : List Snap)
    → ((s : Snap) → Has s ss → Has s (created_snaps F)) → SameSnaps (map (snap_map G) ss) (map (snap_map F) ss)
snaps-kept c upto F G ready pruned [] among = tt
snaps-kept c upto F G ready pruned (s ∷ ss) among = (snap-kept c upto F G ready pruned s (among s (inl refl)), snaps-kept c upto F G ready pruned ss (λ x i. among x (inr i)))

pub prunes-stand : PrunesKeepStand
unfolding stand
prunes-stand c upto F G ready pruned = record {
  now = λ k.
      family-same k (counts F) (counts G) F G (length-same c upto F G pruned)
      (each-pruned c upto k (counts F) (counts G) F G pruned (counts-same c upto F G pruned)
      (λ d f i p. prunes-now c upto d.snaps (counts F) d.versions f.versions (ready d (contains-from_has F d i)).form (done-counts F) p.versions k));
  snaps = subst (λ ss. SameSnaps (map (snap_map G) ss) (map (snap_map F) (created_snaps F))) (sym (snaps-created c upto F G pruned))
      (snaps-kept c upto F G ready pruned (created_snaps F) (λ s i. i));
}
