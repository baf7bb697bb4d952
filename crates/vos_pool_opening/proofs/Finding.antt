-- What is found in a tidy pool is what it keeps.
use Rattle.std.specs.Prelude.{◌≡◌, ℕ, Bool, true, false, All, IsTrue, List, [], ◌∷◌, Some, filter, map, if◌then◌else◌}
use Rattle.std.specs.List.{list_all}
use Rattle.std.proofs.Common.{refl, sym, ap, ◌∙◌, subst}
use Rattle.base_outside.specs.Images.{Image}
use Rattle.base_types.specs.declared.entry.Entry.{Entry}
use Rattle.daos_model.specs.BoolLaws.{and_left, and_right, both, clash}
use Rattle.daos_model.specs.declared.durable.Durable.{Durable}
use Rattle.daos_model.specs.declared.durable.Version.{Version}
use Rattle.daos_model.specs.Durables.{entry_key, is_version_in_form, version_key}
use Rattle.daos_model.specs.Ordered.{in_order}
use Rattle.pmem_undo.specs.Layout.{gate}
use Rattle.pmem_undo.specs.Settled.{IsAtRest}
use Rattle.vos_check_entries.specs.declared.entry.EntryRow.{EntryRow}
use Rattle.vos_check_entries.specs.Rows.{entry_row}
use Rattle.vos_commits.specs.Kept.{kept_in}
use Rattle.vos_counting.specs.Counting.{entries_of}
use Rattle.vos_keeping.proofs.Lists.{of_filter}
use Rattle.vos_keeping.specs.Keeping.{SameRows}
use Rattle.vos_levels.specs.Levels.{things}
use Rattle.vos_pool_held.specs.vos_pool_base.vos_image.Kept.{Stored, counts, durable_of, kept}
use Rattle.vos_pool_held.specs.vos_pool_base.vos_path.Objects.{objects_versions}
use Rattle.vos_pool_held.specs.vos_pool_base.vos_places.Tables.{Table, places_of}
use Rattle.vos_pool_held.specs.vos_pool_base.vos_standing.Standing.{Stand}
use Rattle.vos_pool_held.specs.vos_pool_base.vos_tables.Kept.{kept_with}
use Rattle.vos_pool_held.specs.vos_pool_base.Pool.{OpenedState, kept_by}
use Rattle.vos_pool_held.specs.vos_pool_base.Tidy.{IfTidy}
use Rattle.vos_pool_held.specs.vos_turns.Turns.{CanBeNamed}
use Rattle.vos_pool_opening.specs.Tidied.{IsFoundIn, StandsThere}
use Rattle.vos_pool_stage.specs.Staged.{StandsInPool}
use Rattle.vos_pool_steps.specs.Quiet.{IsQuietStep}
use Rattle.vos_pool_steps.proofs.vos_pool_base.vos_standing.Committed.{closed_it_is_kept}

rows-say : (ss : List _) → entries_of (map entry_row ss) ≡ map (λ s. s.entry) ss
rows-say [] = refl
rows-say (s ∷ ss) = ap (λ z. s.entry ∷ z) (rows-say ss)

-- the versions that count and the entries of what stands are what is kept
pub found-kept : (target size : ℕ) (f : Image) (t : Table) (x : Stored) (rows : List EntryRow) (vs us : List Version) → f gate ≡ 0 → Stand target size f t x → rows ≡ map entry_row (things x.1) → vs ≡ objects_versions x.0
    → us ≡ filter (counts (entries_of rows)) vs → kept_in (kept target size) size f ≡ kept_with t (in_order version_key us) (in_order entry_key (entries_of rows))
unfolding durable_of
found-kept target size f t x rows vs us closed stands rows_are versions_are counted =
    closed_it_is_kept target size f t x closed stands
    ∙ (ap (λ (es : List Entry). kept_with t (in_order version_key (filter (counts es) (objects_versions x.0))) (in_order entry_key es)) (sym (ap entries_of rows_are ∙ rows-say (things x.1)))
    ∙ (ap (λ (ws : List Version). kept_with t (in_order version_key (filter (counts (entries_of rows)) ws)) (in_order entry_key (entries_of rows))) (sym versions_are)
    ∙ ap (λ (ws : List Version). kept_with t (in_order version_key ws) (in_order entry_key (entries_of rows))) (sym counted)))

-- with the same rows the same is kept
pub kept-with-same : (t u : Table) (vs : List Version) (es : List Entry) → SameRows (places_of t) (places_of u) → kept_with t vs es ≡ kept_with u vs es
kept-with-same t u vs es same = let a = same.conts in let b = same.snaps in let c = same.lease in let d = same.incarnation in rw (a, b, c, d) refl

-- what holds of each holds of those that count
pub some-form : (t goes : Version → Bool) (vs : List Version) → list_all t vs ≡ true → list_all t (filter goes vs) ≡ true
some-form t goes [] all = refl
some-form t goes (v ∷ vs) all = elim (goes v) as (λ b. list_all t (if b then v ∷ filter goes vs else filter goes vs) ≡ true) [
  | true ↦ both (t v) (list_all t (filter goes vs)) (and_left (t v) (list_all t vs) all) (some-form t goes vs (and_right (t v) (list_all t vs) all))
  | false ↦ some-form t goes vs (and_right (t v) (list_all t vs) all)
]

pub some-each : (P : Version → Type 0) (goes : Version → Bool) (vs : List Version) → All P vs → All P (filter goes vs)
some-each P goes vs all = of_filter P goes vs (λ k d within passes. all k d within)

kept-told : (tells : Bool) (target size : ℕ) (f : Image) → IsTrue tells → kept_by tells target size f ≡ Some (kept_in (kept target size) size f)
kept-told true target size f tell = refl
kept-told false target size f tell = absurd (clash false tell refl)

-- What was read of a pool is found in it, once it is tidy.
pub found-in : {R : Type 0} (tells : Bool) (extent count burns : R → ℕ) (image : R → Image) (may_leave : R → Image → Type 0) (p q : OpenedState R) (rows : List EntryRow) (vs us : List Version)
    → (IsTrue tells → IsAtRest (image p.blocks.undo.region) (may_leave p.blocks.undo.region)) → (IsTrue tells → StandsThere extent image p rows) → (IsTrue tells → (x : Stored) → StandsInPool extent image p x → vs ≡ objects_versions x.0)
    → us ≡ filter (counts (entries_of rows)) vs → list_all is_version_in_form vs ≡ true → All CanBeNamed vs → IsQuietStep tells extent count burns image may_leave p q → q.blocks.undo.stopped ≡ false → IfTidy tells extent image q
    → IsFoundIn tells extent image q rows us
found-in tells extent count burns image may_leave p q rows vs us rest there read counted form named step going tidy = record {
  running = going;
  kept = λ tell.
      let s = there tell in
      step.kept going
      ∙ (kept-told tells p.table.header.target (extent p.blocks.undo.region) (image p.blocks.undo.region) tell
      ∙ ap (λ (d : Durable). Some d)
      (found-kept p.table.header.target (extent p.blocks.undo.region) (image p.blocks.undo.region) p.table s.stored rows vs us (rest tell).closed s.stands s.rows_are (read tell s.stored s.stands) counted
      ∙ kept-with-same p.table q.table (in_order version_key us) (in_order entry_key (entries_of rows)) step.rows));
  tidy = tidy;
  form = subst (λ (ws : List Version). list_all is_version_in_form ws ≡ true) (sym counted) (some-form is_version_in_form (counts (entries_of rows)) vs form);
  named = subst (All CanBeNamed) (sym counted) (some-each CanBeNamed (counts (entries_of rows)) vs named);
}
