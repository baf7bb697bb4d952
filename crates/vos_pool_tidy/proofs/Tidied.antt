-- A pool whose lists were given back and whose versions all count is tidy.
use Rattle.std.proofs.Common.{◌≡◌, ℕ, Bool, true, List, [], ◌∷◌, length, map, refl, sym, ap, ◌∙◌, subst, arith}
use Rattle.std.specs.Prelude.{All, filter, OnOk, Result, Ok, Err}
use Rattle.std.proofs.lemmas.List.Elements.{All-cons, All-nil}
use Rattle.base_outside.specs.Images.{Image}
use Rattle.base_types.specs.declared.entry.Entry.{Entry}
use Rattle.daos_model.specs.declared.durable.Version.{Version}
use Rattle.daos_model.specs.Versions.{is_pending}
use Rattle.vos_check_entries.specs.declared.entry.EntryRow.{EntryRow}
use Rattle.vos_check_entries.specs.Rows.{entry_row}
use Rattle.vos_counting.specs.Counting.{FewWait, entries_of}
use Rattle.vos_counting.specs.declared.prepared.Prepared.{Prepared}
use Rattle.vos_counting.specs.Prepared.{counts_in}
use Rattle.vos_entries.specs.Entries.{Entries, Stored as StoredEntry, entries_in, entry_of}
use Rattle.vos_keeping.proofs.Lists.{of_filter}
use Rattle.vos_keeping.specs.Keeping.{versions_in}
use Rattle.vos_levels.specs.Levels.{things}
use Rattle.vos_pool_stage.specs.vos_pool_base.Pool.{OpenedState}
use Rattle.vos_pool_stage.specs.vos_pool_base.Tidy.{IsTidy}
use Rattle.vos_pool_tidy.proofs.Uncounted.{alike}
use Rattle.vos_pool_tidy.specs.Answers.{answered}
use Rattle.vos_pool_tidy.specs.Clearing.{IsCleared, IsUncleared}
use Rattle.vos_pool_tidy.specs.declared.refusal.TidyNo.{TidyNo}
use Rattle.vos_pool_turns.specs.vos_fitting.Fitting.{ListNothing}
use Rattle.vos_pool_turns.specs.vos_turns.vos_image.Kept.{Stored, counts}
use Rattle.vos_pool_unlist.specs.declared.refusal.UnlistNo.{UnlistNo}
use Rattle.vos_pool_unlist.specs.Unlisted.{HasNoLists}
use Rattle.vos_store.specs.declared.refusal.Stopped.{Stopped}

of_rows : (ss : List StoredEntry) → entries_of (map entry_row ss) ≡ map entry_of ss
of_rows [] = refl
of_rows (s ∷ ss) = ap (λ (z : List Entry). s.entry ∷ z) (of_rows ss)

each_itself : (t : Version → Bool) (vs : List Version) → All (λ v. t v ≡ true → t v ≡ true) vs
each_itself t [] = All-nil (λ v. t v ≡ true → t v ≡ true)
each_itself t (v ∷ vs) = All-cons (λ v. t v ≡ true → t v ≡ true) v vs (λ yes. yes) (each_itself t vs)

module _ {R : Type 0} (extent : R → ℕ) (image : R → Image) (prepared : Prepared) (rows : List EntryRow) (vs : List Version) (x : Stored) (rows_are : rows ≡ map entry_row (things x.1)) (versions_are : vs ≡ versions_in x) (told : (v : Version) → counts_in prepared v ≡ counts (entries_of rows) v) where
  -- without lists it is ready for versions to go
  pub uncleared : (p : OpenedState R) → (h : HasNoLists extent image x p) → IsUncleared extent image prepared vs p h.now
  uncleared p h = record {
    stands = h.stands;
    nothing = h.nothing;
    versions = versions_are ∙ sym (ap (λ o. versions_in (o, x.1)) h.objects);
    told = λ v. told v ∙ ap (λ (es : List Entry). counts es v) (ap entries_of rows_are ∙ (of_rows (things x.1) ∙ sym h.entries));
  }

  -- and once they went, it is tidy
  pub tidied : (p q : OpenedState R) → q.table.header.layout ≡ 2 → FewWait (filter (counts_in prepared) vs) → (h : HasNoLists extent image x p) → IsCleared extent image h.now q → IsTidy (extent q.blocks.undo.region) (image q.blocks.undo.region) q.table
  tidied p q layout few h c =
      let es = entries_in h.now.1 in
      let u = uncleared p h in
      let same : versions_in c.now ≡ filter (counts_in prepared) vs = c.versions ∙ (sym (alike (counts_in prepared) (counts es) u.told (versions_in h.now)) ∙ sym (ap (filter (counts_in prepared)) u.versions)) in
      record {
        stored = c.now;
        stands = c.stands;
        layout = layout;
        counted =
            subst (λ (e : Entries). All (λ v. counts (entries_in e) v ≡ true) (versions_in c.now)) (sym c.entries)
            (subst (λ (z : List Version). All (λ v. counts es v ≡ true) z) (sym c.versions) (of_filter (λ v. counts es v ≡ true) (counts es) (versions_in h.now) (each_itself (counts es) (versions_in h.now))));
        unlisted = subst (λ (e : Entries). ListNothing e) (sym c.entries) h.nothing;
        few = λ a. (let low = few a in let is = ap (λ (z : List Version). length (filter (is_pending a) z)) same in omega (arith, low, is));
      }

-- ---- by the answer

pub on_well : {P : Type 0} (r : Result (Unit {0}) UnlistNo) (z : Unit {0}) → r ≡ Ok z → OnOk r P → P
on_well {P = P} r z well h = subst (λ (s : Result (Unit {0}) UnlistNo). OnOk s P) well h

pub when_answered : {P Q : Type 0} (r : Result (Unit {0}) Stopped) (s : Result (Unit {0}) TidyNo) → s ≡ answered r → (P → Q) → OnOk r P → OnOk s Q
when_answered {P = P} {Q = Q} r s is made h = subst (λ (z : Result (Unit {0}) TidyNo). OnOk z Q) (sym is) (by r h)
  where
    by : (r : Result (Unit {0}) Stopped) → OnOk r P → OnOk (answered r) Q
    by (Ok x) h = made h
    by (Err e) h = tt
