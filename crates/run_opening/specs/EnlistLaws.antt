-- Containers that are enlisted leave sound targets sound, and what they stand for.
use Rattle.std.specs.Prelude.{◌≡◌, ◌≤◌, ◌⊎◌, Bool, true, false, max, List, [], ◌∷◌, All, length, map, if◌then◌else◌, refl}
use Rattle.std.specs.List.{list_any}
use Rattle.std.proofs.Common.{inl, inr, sym, ap, subst, arith}
use Rattle.base_types.specs.declared.id.ContId.{ContId}
use Rattle.base_types.specs.declared.script.Script.{Script}
use Rattle.base_types.specs.Epochs.{restart_floor}
use Rattle.model_laws.specs.DecidedLaws.{all-from_has, has-all}
use Rattle.model_laws.specs.EntryLaws.{has-put, put-has}
use Rattle.model_laws.specs.Members.{Has, any-has, has-any, has-from_contains}
use Rattle.model_laws.specs.TargetLaws.{same_number}
use Rattle.daos_model.specs.declared.durable.ContRow.{ContRow}
use Rattle.daos_model.specs.declared.durable.Durable.{Durable}
use Rattle.daos_model.specs.Changes.{enlisted, with_cont, with_conts}
use Rattle.daos_model.specs.Durables.{IsInForm, cont_key, is_enlisted, is_row_of, new_row}
use Rattle.daos_model.specs.Family.{greatest_lease}
use Rattle.daos_model.specs.FormLaws.{enlisted-in_form}
use Rattle.daos_model.specs.Opening.{kept}
use Rattle.daos_model.specs.Sound.{IsCovered}
use Rattle.daos_model.specs.Ordered.{put}
use Rattle.run_opening.specs.Alike.{KeepsData, stand-alike}
use Rattle.run_opening.specs.AlikeSound.{alike-sound}
use Rattle.run_opening.specs.Laws.{EnlistingKeepsForm, EnlistingKeepsOpenings, EnlistingKeepsSound, OpenedKnowContainers}
use Rattle.run_opening.specs.Opened.{enlisted_family, opened}
use Rattle.run_opening.specs.SoundLaws.{at-mapped}

-- ---- rows

-- a row is one that was there, or a new one
one-more : (c : ContId) (rows : List ContRow) (r : ContRow) → Has r (with_cont c rows) → (r ≡ new_row c) ⊎ Has r rows
one-more c rows r i = by (list_any (is_row_of c) rows) i
  where
    by : (b : Bool) → Has r (if b then rows else put cont_key (new_row c) rows) → (r ≡ new_row c) ⊎ Has r rows
    by true i = inr i
    by false i = has-put cont_key (new_row c) rows r i

pub rows-hold : (P : ContRow → Type 0) (new : (c : ContId) → P (new_row c)) (cs : List ContId) (rows : List ContRow) → All P rows → All P (with_conts cs rows)
rows-hold P new [] rows all = all
rows-hold P new (c ∷ cs) rows all = rows-hold P new cs (with_cont c rows) (all-from_has P (with_cont c rows) (λ r i. by r (one-more c rows r i)))
  where
    by : (r : ContRow) → (r ≡ new_row c) ⊎ Has r rows → P r
    by r (inl same) = subst P (sym same) (new c)
    by r (inr i) = has-all P rows r all i

-- what is enlisted stays so, and what is added is
stays-in : (c a : ContId) (rows : List ContRow) → list_any (is_row_of c) rows ≡ true → list_any (is_row_of c) (with_cont a rows) ≡ true
stays-in c a rows h = by (list_any (is_row_of a) rows)
  where
    by : (b : Bool) → list_any (is_row_of c) (if b then rows else put cont_key (new_row a) rows) ≡ true
    by true = h
    by false = let r = has-any (is_row_of c) rows h in any-has (is_row_of c) (put cont_key (new_row a) rows) r.0 (put-has cont_key (new_row a) rows r.0 (inr r.1)) r.2

all-stay_in : (c : ContId) (cs : List ContId) (rows : List ContRow) → list_any (is_row_of c) rows ≡ true → list_any (is_row_of c) (with_conts cs rows) ≡ true
all-stay_in c [] rows h = h
all-stay_in c (a ∷ cs) rows h = all-stay_in c cs (with_cont a rows) (stays-in c a rows h)

added : (c : ContId) (rows : List ContRow) → list_any (is_row_of c) (with_cont c rows) ≡ true
added c rows = by (list_any (is_row_of c) rows) refl
  where
    by : (b : Bool) → list_any (is_row_of c) rows ≡ b → list_any (is_row_of c) (if b then rows else put cont_key (new_row c) rows) ≡ true
    by true is = is
    by false is = any-has (is_row_of c) (put cont_key (new_row c) rows) (new_row c) (put-has cont_key (new_row c) rows (new_row c) (inl refl)) (same_number c.0)

all-added : (c : ContId) (cs : List ContId) (rows : List ContRow) → Has c cs → list_any (is_row_of c) (with_conts cs rows) ≡ true
all-added c [] rows i = absurd i
all-added c (a ∷ cs) rows (inl same) = all-stay_in c cs (with_cont a rows) (subst (λ z. list_any (is_row_of c) (with_cont z rows) ≡ true) same (added c rows))
all-added c (a ∷ cs) rows (inr i) = all-added c cs (with_cont a rows) i

-- ---- what is kept

enlisted-data : (cs : List ContId) → KeepsData (enlisted cs)
unfolding enlisted
enlisted-data cs = record { versions = λ d. refl; entries = λ d. refl; snaps = λ d. refl }

covered-enlisted : (cs : List ContId) (d : Durable) → IsCovered d → IsCovered (enlisted cs d)
unfolding enlisted
covered-enlisted cs d c = record {
  versions = c.versions;
  entries = c.entries;
  floors = rows-hold (λ r. r.floor.0 ≤ restart_floor d.lease) (λ a. omega arith) cs d.conts c.floors;
  aggregated = rows-hold (λ r. r.aggregated.0 ≤ restart_floor d.lease) (λ a. omega arith) cs d.conts c.aggregated;
  snaps = c.snaps;
}

pub enlisting-sound : EnlistingKeepsSound
enlisting-sound cs F k = alike-sound (enlisted cs) (enlisted-data cs) (covered-enlisted cs) F k

pub enlisting-form : EnlistingKeepsForm
enlisting-form cs F few forms t d at =
    let e = at-mapped (enlisted cs) F t d at in
    subst IsInForm e.2 (enlisted-in_form cs e.0 (subst (λ y. length y.conts ≤ 256) (sym e.2) (few t d at)) (forms t e.0 e.1))

leases-enlisted : (cs : List ContId) (ds : List Durable) → greatest_lease (map (enlisted cs) ds) ≡ greatest_lease ds
unfolding enlisted
leases-enlisted cs [] = refl
leases-enlisted cs (d ∷ ds) = ap (max d.lease) (leases-enlisted cs ds)

pub enlisting-openings : EnlistingKeepsOpenings
enlisting-openings s cs F free =
    λ i. record { stand = kept s (stand-alike (enlisted cs) (enlisted-data cs) F i); lease = leases-enlisted cs F i; free = free }

knows : (s : Script) (cs : List ContId) (F : List Durable) (d : Durable) (c : ContId) → Has c cs → is_enlisted (opened s F (enlisted cs d)) c ≡ true
unfolding opened enlisted is_enlisted
knows s cs F d c i = all-added c cs d.conts i

pub opened-knows : OpenedKnowContainers
opened-knows s cs F t d c at i =
    let x = at-mapped (opened s (enlisted_family cs F)) (enlisted_family cs F) t d at in
    let y = at-mapped (enlisted cs) F t x.0 x.1 in
    subst (λ z. is_enlisted z c ≡ true) x.2 (subst (λ z. is_enlisted (opened s (enlisted_family cs F) z) c ≡ true) y.2 (knows s cs (enlisted_family cs F) y.0 c (has-from_contains cs c i)))
