-- What the changes of the contents of a store make of what they stand for.
use Rattle.std.proofs.Common.{◌≡◌, ℕ, ◌+◌, ◌≤◌, Bool, true, false, not, List, [], ◌∷◌, None, length, map, refl, sym, ◌∙◌, ap, subst, arith}
use Rattle.std.specs.Prelude.{filter, if◌then◌else◌}
use Rattle.std.specs.List.{list_all, list_any}
use Rattle.base_types.specs.declared.entry.Entry.{Entry}
use Rattle.base_types.specs.declared.entry.Settle.TheVariants.{Commit, Abort, Confirm, Forget}
use Rattle.base_types.specs.declared.epoch.Epoch.{Epoch}
use Rattle.base_types.specs.declared.id.AttemptId.{AttemptId}
use Rattle.base_types.specs.declared.id.ContId.{ContId}
use Rattle.base_types.specs.declared.outcome.FloorWhy.TheVariants.{Snapshot}
use Rattle.base_types.specs.declared.snapshot.Snap.{Snap}
use Rattle.daos_model.specs.declared.durable.ContRow.{ContRow}
use Rattle.daos_model.specs.declared.durable.Durable.{Durable}
use Rattle.daos_model.specs.declared.durable.Version.{Version}
use Rattle.daos_model.specs.Changes.{committed_at, confirmed_at, created, created_at, discarded, enlisted, frozen, is_other, is_other_snap, is_out_of_range, marked, marked_at, new_snap, pruned, raised_at, settled, thawed, with_conts, with_versions}
use Rattle.daos_model.specs.Durables.{IsInForm, entry_key, entry_of, is_frozen, is_snap_at, is_version_in_form, snap_key, version_key}
use Rattle.daos_model.specs.FormLaws.{absent_keys, all-put, enlisted-in_form, length-filter, length-put}
use Rattle.daos_model.specs.OrderLaws.{in_order-puts, rising-put}
use Rattle.daos_model.specs.Ordered.{put, puts}
use Rattle.daos_model.specs.Prunes.{is_going, is_staying}
use Rattle.daos_model.specs.Versions.{done_by, is_not_pending}
use Rattle.daos_model.specs.BoolLaws.{and_left, and_right, both}
use Rattle.vos_contents.specs.Steps.{with_entry}
use Rattle.dtx_entries.specs.Settling.{entries_settled}
use Rattle.vos_rows.specs.Sweeps.{unmarked}

-- ---- changes

-- what a step makes of the entries in a table
pub entries-committed : (a : AttemptId) (es fs : List Entry) → fs ≡ entries_settled a Commit es → fs ≡ map (committed_at a) es
unfolding entries_settled
entries-committed a es fs e = e

pub entries-aborted : (a : AttemptId) (es fs : List Entry) → fs ≡ entries_settled a Abort es → fs ≡ filter (is_other a) es
unfolding entries_settled
entries-aborted a es fs e = e

pub entries-confirmed : (a : AttemptId) (t : ℕ) (es fs : List Entry) → fs ≡ entries_settled a (Confirm t) es → fs ≡ map (confirmed_at a t) es
unfolding entries_settled
entries-confirmed a t es fs e = e

pub entries-forgotten : (a : AttemptId) (es fs : List Entry) → fs ≡ entries_settled a Forget es → fs ≡ filter (is_other a) es
unfolding entries_settled
entries-forgotten a es fs e = e

pub committed_is : (a : AttemptId) (d : Durable) (vs : List Version) (es : List Entry) → vs ≡ map (done_by a) d.versions → es ≡ map (committed_at a) d.entries → (record d { versions = vs; entries = es }) ≡ settled a Commit d
unfolding settled
committed_is a d vs es v e = ap (λ x. record d { versions = x; entries = es }) v ∙ ap (λ x. record d { versions = map (done_by a) d.versions; entries = x }) e

pub aborted_is : (a : AttemptId) (d : Durable) (vs : List Version) (es : List Entry) → vs ≡ filter (is_not_pending a) d.versions → es ≡ filter (is_other a) d.entries → (record d { versions = vs; entries = es }) ≡ settled a Abort d
unfolding settled
aborted_is a d vs es v e = ap (λ x. record d { versions = x; entries = es }) v ∙ ap (λ x. record d { versions = filter (is_not_pending a) d.versions; entries = x }) e

pub confirmed_is : (a : AttemptId) (t : ℕ) (d : Durable) (es : List Entry) → es ≡ map (confirmed_at a t) d.entries → (record d { entries = es }) ≡ settled a (Confirm t) d
unfolding settled
confirmed_is a t d es e = ap (λ x. record d { entries = x }) e

pub forgotten_is : (a : AttemptId) (d : Durable) (es : List Entry) → es ≡ filter (is_other a) d.entries → (record d { entries = es }) ≡ settled a Forget d
unfolding settled
forgotten_is a d es e = ap (λ x. record d { entries = x }) e

pub created_is : (c : ContId) (s : Epoch) (d : Durable) (xs : List Snap) → xs ≡ map (created_at c s) d.snaps → (record d { snaps = xs }) ≡ created c s d
unfolding created
created_is c s d xs e = ap (λ x. record d { snaps = x }) e

pub thawed_is : (c : ContId) (s : Epoch) (d : Durable) (xs : List Snap) → xs ≡ filter (is_other_snap c s) d.snaps → (record d { snaps = xs }) ≡ thawed c s d
unfolding thawed
thawed_is c s d xs e = ap (λ x. record d { snaps = x }) e

pub discarded_is : (c : ContId) (lo hi : Epoch) (d : Durable) (vs : List Version) → vs ≡ filter (is_out_of_range c lo hi) d.versions → (record d { versions = vs }) ≡ discarded c lo hi d
unfolding discarded with_versions
discarded_is c lo hi d vs e = ap (λ x. record d { versions = x }) e

pub frozen_new : (c : ContId) (s : Epoch) (d : Durable) (rows : List ContRow) (xs : List Snap) → list_any (is_snap_at c s) d.snaps ≡ false → rows ≡ map (raised_at c s (Snapshot s)) d.conts → xs ≡ put snap_key (new_snap c s) d.snaps → (record d { conts = rows; snaps = xs }) ≡ frozen c s d
unfolding frozen is_frozen
frozen_new c s d rows xs new r e =
    ap (λ x. record d { conts = x; snaps = xs }) r
    ∙ ap (λ x. record d { conts = map (raised_at c s (Snapshot s)) d.conts; snaps = x }) e
    ∙ sym (ap (λ (b : Bool). if b then d else record d { conts = map (raised_at c s (Snapshot s)) d.conts; snaps = put snap_key (new_snap c s) d.snaps }) new)

pub frozen_again : (c : ContId) (s : Epoch) (d : Durable) → list_any (is_snap_at c s) d.snaps ≡ true → d ≡ frozen c s d
unfolding frozen is_frozen
frozen_again c s d there =
    sym (ap (λ (b : Bool). if b then d else record d { conts = map (raised_at c s (Snapshot s)) d.conts; snaps = put snap_key (new_snap c s) d.snaps }) there)

pub unmarked-map : (t : Version → Bool) (vs : List Version) → unmarked (map t vs) vs ≡ filter (λ v. not (t v)) vs
unmarked-map t [] = refl
unmarked-map t (v ∷ vs) =
    elim (t v) as (λ (b : Bool). (if b then unmarked (map t vs) vs else v ∷ unmarked (map t vs) vs) ≡ (if not b then v ∷ filter (λ u. not (t u)) vs else filter (λ u. not (t u)) vs)) [
      | true ↦ unmarked-map t vs
      | false ↦ ap (λ x. v ∷ x) (unmarked-map t vs)
    ]

pub swept_by : (c : ContId) (upto : Epoch) (d : Durable) (vs : List Version) (ss : List Snap) (marks read : List Bool) (ws : List Version) → marks ≡ map (is_going c upto vs ss) vs → vs ≡ d.versions → ss ≡ d.snaps → read ≡ marks → ws ≡ unmarked read d.versions → ws ≡ filter (is_staying c upto d) d.versions
swept_by c upto d vs ss marks read ws m v s r e =
    e ∙ ap (λ x. unmarked x d.versions) (r ∙ m ∙ ap (λ x. map (is_going c upto x ss) x) v ∙ ap (λ x. map (is_going c upto d.versions x) d.versions) s)
    ∙ unmarked-map (is_going c upto d.versions d.snaps) d.versions

pub pruned_is : (c : ContId) (upto : Epoch) (n : ℕ) (d : Durable) (rows : List ContRow) (vs : List Version) → rows ≡ map (marked_at c upto n) d.conts → vs ≡ filter (is_staying c upto d) d.versions → (record d { versions = vs; conts = rows }) ≡ pruned c upto n d
unfolding pruned with_versions marked
pruned_is c upto n d rows vs r e =
    ap (λ x. record d { versions = vs; conts = x }) r ∙ ap (λ x. record d { versions = x; conts = map (marked_at c upto n) d.conts }) e

-- an entry and its versions more, in form
pub with_entry-in_form : (vs : List Version) (e : Entry) (d : Durable) → entry_of d e.attempt ≡ None → list_all is_version_in_form vs ≡ true → IsInForm d → IsInForm (with_entry vs e d)
unfolding entry_of
with_entry-in_form vs e d absent form k = record {
  versions = in_order-puts version_key vs d.versions k.versions;
  writes = all_puts vs form;
  entries = rising-put entry_key e d.entries (absent_keys e.attempt d.entries absent) k.entries;
  conts = k.conts;
  floors = k.floors;
  snaps = k.snaps;
  few_conts = k.few_conts;
  few_snaps = k.few_snaps;
  lease = k.lease;
}
  where
    all_puts : (us : List Version) → list_all is_version_in_form us ≡ true → list_all is_version_in_form (puts version_key us d.versions) ≡ true
    all_puts [] h = k.writes
    all_puts (u ∷ us) h =
        all-put is_version_in_form version_key u (puts version_key us d.versions) (and_left (is_version_in_form u) (list_all is_version_in_form us) h)
        (all_puts us (and_right (is_version_in_form u) (list_all is_version_in_form us) h))

-- ---- rows after each change

-- what all rows pass, those that are left pass
pub all_left : (p t : Version → Bool) (vs ws : List Version) → ws ≡ filter t vs → list_all p vs ≡ true → list_all p ws ≡ true
all_left p t vs ws e h = ap (list_all p) e ∙ left vs h
  where
    left : (us : List Version) → list_all p us ≡ true → list_all p (filter t us) ≡ true
    left [] k = refl
    left (u ∷ us) k =
        elim (t u) as (λ (b : Bool). list_all p (if b then u ∷ filter t us else filter t us) ≡ true) [
          | true ↦ both (p u) (list_all p (filter t us)) (and_left (p u) (list_all p us) k) (left us (and_right (p u) (list_all p us) k))
          | false ↦ left us (and_right (p u) (list_all p us) k)
        ]

pub length-puts : (vs us : List Version) → length (puts version_key vs us) ≡ length vs + length us
length-puts [] us = omega arith
length-puts (v ∷ vs) us = omega (arith, length-put version_key v (puts version_key vs us), length-puts vs us)

pub fewer_versions : (vs ws : List Version) (t : Version → Bool) → ws ≡ filter t vs → length ws ≤ length vs
fewer_versions vs ws t e = subst (λ x. length x ≤ length vs) (sym e) (length-filter t vs)

pub fewer_entries : (es fs : List Entry) (t : Entry → Bool) → fs ≡ filter t es → length fs ≤ length es
fewer_entries es fs t e = subst (λ x. length x ≤ length es) (sym e) (length-filter t es)

pub entry_added : (d : Durable) (new : List Version) (x : Entry) (vs : List Version) (es : List Entry) → vs ≡ puts version_key new d.versions → es ≡ put entry_key x d.entries → (record d { versions = vs; entries = es }) ≡ with_entry new x d
entry_added d new x vs es v e = ap (λ z. record d { versions = z; entries = es }) v ∙ ap (λ z. record d { versions = puts version_key new d.versions; entries = z }) e

pub not_frozen : (c : ContId) (s : Epoch) (d : Durable) → list_any (is_snap_at c s) d.snaps ≡ false → is_frozen d c s ≡ false
unfolding is_frozen
not_frozen c s d e = e

pub enlisted_is : (cs : List ContId) (d : Durable) (rows : List ContRow) → rows ≡ with_conts cs d.conts → length rows ≤ 256 → IsInForm d → IsInForm (record d { conts = rows })
unfolding enlisted
enlisted_is cs d rows e few k =
    subst (λ x. IsInForm (record d { conts = x })) (sym e) (enlisted-in_form cs d (subst (λ x. length x ≤ 256) e few) k)
