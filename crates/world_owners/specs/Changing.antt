-- What a change by which nothing is stored leaves of a target's versions, of the entries of those that aren't settled, and of its lease.
use Rattle.std.specs.Prelude.{ℕ, ◌≡◌, ◌≤◌, ◌<◌, ◌^◌, Bool, true, false, ◌||◌, bit_or, find, map, List, Option, Some, None, refl, if◌then◌else◌}
use Rattle.std.specs.Option.{option_map}
use Rattle.std.proofs.Common.{sym, ◌∙◌, ap, subst, arith}
use Rattle.base_types.specs.declared.entry.Entry.{Entry}
use Rattle.base_types.specs.declared.entry.Settle.{Settle}
use Rattle.base_types.specs.declared.entry.Settle.TheVariants.{Abort, Commit, Confirm, Forget}
use Rattle.base_types.specs.declared.epoch.Epoch.{Epoch}
use Rattle.base_types.specs.declared.id.AttemptId.{AttemptId}
use Rattle.base_types.specs.declared.id.ContId.{ContId}
use Rattle.base_types.specs.declared.outcome.FloorWhy.TheVariants.{Snapshot}
use Rattle.model_laws.specs.Members.{Has, has-from_filter, has-from_map}
use Rattle.daos_model.specs.declared.durable.Durable.{Durable}
use Rattle.daos_model.specs.declared.durable.Version.{Version}
use Rattle.daos_model.specs.BoolLaws.{clash}
use Rattle.daos_model.specs.Changes.{committed_at, confirmed_at, created, frozen, leased, marked, new_snap, pruned, raised_at, settled, with_versions}
use Rattle.daos_model.specs.Durables.{entry_of, is_entry_of, is_frozen, same_attempt, snap_key}
use Rattle.daos_model.specs.EntryLaws.{same_attempt-itself}
use Rattle.daos_model.specs.Ordered.{put}
use Rattle.daos_model.specs.Prunes.{Partly, is_going, is_staying}
use Rattle.daos_model.specs.Versions.{done_by, is_not_pending}
use Rattle.world_base.specs.ChangeLaws.{LeaseRises, Raises, lease-same, lease-steps, lease-then}
use Rattle.world_base.specs.Changes.{After, Before, Change, Creates, Cut, Extends, Freezes, InPart, IsPartly, Kept, Prepares, Prunes, Settles, Steps, made}
use Rattle.world_base.specs.EntryLaws.{entry-aborted_other, entry-confirmed}
use Rattle.world_making.specs.world_commit.attempts.Stored.{found-attempt}
use Rattle.world_making.specs.world_contents.reads.ChangeLaws.{apart-of, entry-settled, open-other, other-entry, other-stays, still-open}
use Rattle.world_making.specs.world_contents.reads.Versions.{IsPreparedAt}

-- ---- what is said

-- an attempt goes a step on, and isn't forgotten
abbrev pub ForgetsNone : Settle → Type 0
ForgetsNone Commit = Unit {0}
ForgetsNone Abort = Unit {0}
ForgetsNone (Confirm t) = Unit {0}
ForgetsNone Forget = ⊥

-- a change, or none, of what is kept: nothing is stored and no attempt forgotten, and a lease is extended upwards, within a clock's ticks
abbrev pub StoresNone : Durable → Option Change → Type 0
StoresNone d None = Unit {0}
StoresNone d (Some (Extends ticks)) = (d.lease ≤ ticks) × (ticks < 2 ^ 56)
StoresNone d (Some (Prepares e ws)) = ⊥
StoresNone d (Some (Settles a step)) = ForgetsNone step
StoresNone d (Some (Freezes c s)) = Unit {0}
StoresNone d (Some (Creates c s)) = Unit {0}
StoresNone d (Some (Prunes c upto n)) = Unit {0}

-- a version was kept before; it may be done since
pub record WasKept (d : Durable) (v : Version) : Type 0 where
  pub before : Version
  pub among : Has before d.versions
  pub same : v ≡ record before { done = v.done }
  pub stays : before.done ≡ true → v.done ≡ true

-- each version that isn't settled is of a prepared entry
abbrev pub AllPrepared : Durable → Type 0
AllPrepared d = (v : Version) → Has v d.versions → v.done ≡ false → IsPreparedAt d v.by v.epoch

-- What a target keeps is left of what it kept: each version was kept before, one that isn't settled is of a prepared entry where each was,
-- and the lease is no lower.
pub record IsLeftOf (d e : Durable) : Type 0 where
  pub versions : (v : Version) → Has v e.versions → WasKept d v
  pub prepared : AllPrepared d → AllPrepared e
  pub lease : LeaseRises d e

-- ---- nothing, and one after the other

pub was-kept : (d : Durable) (v : Version) → Has v d.versions → WasKept d v
was-kept d v i = record { before = v; among = i; same = refl; stays = λ is. is }

-- the same entries are prepared where none changed
pub prepared-same : (d e : Durable) (x : AttemptId) (f : Epoch) → e.entries ≡ d.entries → IsPreparedAt d x f → IsPreparedAt e x f
unfolding entry_of
prepared-same d e x f same p = record { entry = p.entry; found = ap (λ es. find (is_entry_of x) es) same ∙ p.found; open' = p.open'; epoch = p.epoch }

-- no version more, and the same entries
pub left-fewer : (d e : Durable) → ((v : Version) → Has v e.versions → Has v d.versions) → e.entries ≡ d.entries → LeaseRises d e → IsLeftOf d e
left-fewer d e fewer same lease = record { versions = λ v i. was-kept d v (fewer v i); prepared = λ all v i off. prepared-same d e v.by v.epoch same (all v (fewer v i) off); lease = lease }

pub left-same : (d e : Durable) → e.versions ≡ d.versions → e.entries ≡ d.entries → LeaseRises d e → IsLeftOf d e
left-same d e versions entries lease = left-fewer d e (λ v i. subst (Has v) versions i) entries lease

pub left-itself : (d e : Durable) → e ≡ d → IsLeftOf d e
left-itself d e is = left-same d e (ap (λ x. x.versions) is) (ap (λ x. x.entries) is) (lease-same d e (ap (λ x. x.lease) is))

abbrev done_as : Bool → Version → Version
done_as b u = record u { done = b }

pub left-then : (d e f : Durable) → IsLeftOf d e → IsLeftOf e f → IsLeftOf d f
left-then d e f k l = record { versions = λ v i. back v (l.versions v i); prepared = λ all. l.prepared (k.prepared all); lease = lease-then d e f k.lease l.lease }
  where
    back : (v : Version) → WasKept e v → WasKept d v
    back v y = let x = k.versions y.before y.among in record { before = x.before; among = x.among; same = y.same ∙ ap (done_as v.done) x.same; stays = λ is. y.stays (x.stays is) }

-- ---- an attempt goes a step on

versions-committed : (a : AttemptId) (d : Durable) (v : Version) → Has v (map (done_by a) d.versions) → WasKept d v
unfolding done_by
versions-committed a d v i =
    let y = has-from_map (done_by a) d.versions v i in
    record { before = y.0; among = y.1; same = subst (λ u. u ≡ record y.0 { done = u.done }) y.2 refl; stays = λ is. ap (λ u. u.done) (sym y.2) ∙ ap (λ b. b || same_attempt y.0.by a) is }

prepared-committed : (a : AttemptId) (d : Durable) → AllPrepared d → (v : Version) → Has v (map (done_by a) d.versions) → v.done ≡ false → IsPreparedAt (settled a Commit d) v.by v.epoch
prepared-committed a d all v i off =
    let y = has-from_map (done_by a) d.versions v i in
    let was = still-open a y.0 (ap (λ x. x.done) y.2 ∙ off) in
    subst Open (sym (other-stays a y.0 was.1) ∙ y.2) (open-of y.0 (all y.0 y.1 was.0) was.1)
  where
    Open : Version → Type 0
    Open u = IsPreparedAt (settled a Commit d) u.by u.epoch

    open-of : (u : Version) → IsPreparedAt d u.by u.epoch → same_attempt u.by a ≡ false → IsPreparedAt (settled a Commit d) u.by u.epoch
    open-of u z other =
        let apart : same_attempt z.entry.attempt a ≡ false = apart-of z.entry.attempt u.by a (found-attempt d u.by z.entry z.found) other in
        record { entry = z.entry; found = entry-settled d a u.by ∙ ap (option_map (committed_at a)) z.found ∙ ap (λ x. Some x) (other-entry a z.entry apart); open' = z.open'; epoch = z.epoch }

prepared-aborted : (a : AttemptId) (d : Durable) (v : Version) → same_attempt v.by a ≡ false → IsPreparedAt d v.by v.epoch → IsPreparedAt (settled a Abort d) v.by v.epoch
prepared-aborted a d v other z =
    record { entry = z.entry; found = entry-aborted_other a d v.by (λ same. clash (same_attempt v.by a) (ap (λ y. same_attempt y a) same ∙ same_attempt-itself a) other) ∙ z.found; open' = z.open'; epoch = z.epoch }

-- who confirmed an entry is no matter of whether it is prepared
confirmed-same : (a : AttemptId) (n : ℕ) (k : Entry) → ((confirmed_at a n k).committed ≡ k.committed) × ((confirmed_at a n k).epoch ≡ k.epoch)
confirmed-same a n k = by (same_attempt k.attempt a)
  where
    by : (b : Bool) → ((if b then record k { confirmed = bit_or k.confirmed (2 ^ n) } else k).committed ≡ k.committed) × ((if b then record k { confirmed = bit_or k.confirmed (2 ^ n) } else k).epoch ≡ k.epoch)
    by true = (refl, refl)
    by false = (refl, refl)

prepared-confirmed : (a : AttemptId) (n : ℕ) (d : Durable) (x : AttemptId) (f : Epoch) → IsPreparedAt d x f → IsPreparedAt (settled a (Confirm n) d) x f
prepared-confirmed a n d x f z =
    let k = confirmed-same a n z.entry in
    record { entry = confirmed_at a n z.entry; found = entry-confirmed a n d x ∙ ap (option_map (confirmed_at a n)) z.found; open' = k.0 ∙ z.open'; epoch = k.1 ∙ z.epoch }

left-settled : (a : AttemptId) (step : Settle) (d : Durable) → ForgetsNone step → LeaseRises d (settled a step d) → IsLeftOf d (settled a step d)
unfolding settled
left-settled a Commit d none lease = record { versions = versions-committed a d; prepared = prepared-committed a d; lease = lease }
left-settled a Abort d none lease = record {
  versions = λ v i. was-kept d v (has-from_filter (is_not_pending a) d.versions v i).0;
  prepared = λ all v i off. let was = has-from_filter (is_not_pending a) d.versions v i in prepared-aborted a d v (open-other a v was.1 off) (all v was.0 off);
  lease = lease;
}
left-settled a (Confirm n) d none lease = record { versions = was-kept d; prepared = λ all v i off. prepared-confirmed a n d v.by v.epoch (all v i off); lease = lease }
left-settled a Forget d none lease = absurd none

-- ---- snapshots and aggregation

left-frozen : (c : ContId) (s : Epoch) (d : Durable) → LeaseRises d (frozen c s d) → IsLeftOf d (frozen c s d)
unfolding frozen
left-frozen c s d lease = by (is_frozen d c s) lease
  where
    by : (b : Bool) → LeaseRises d (if b then d else record d { conts = map (raised_at c s (Snapshot s)) d.conts; snaps = put snap_key (new_snap c s) d.snaps })
        → IsLeftOf d (if b then d else record d { conts = map (raised_at c s (Snapshot s)) d.conts; snaps = put snap_key (new_snap c s) d.snaps })
    by true up = left-same d d refl refl up
    by false up = left-same d _ refl refl up

left-pruned : (c : ContId) (upto : Epoch) (n : ℕ) (d : Durable) → LeaseRises d (pruned c upto n d) → IsLeftOf d (pruned c upto n d)
unfolding pruned with_versions marked
left-pruned c upto n d lease = left-fewer d (pruned c upto n d) (λ v i. (has-from_filter (is_staying c upto d) d.versions v i).0) refl lease

-- and of a prune that was cut
left-in_part : (c : ContId) (upto : Epoch) (n : ℕ) (d : Durable) (vs : List Version) → Partly d.versions (is_going c upto d.versions d.snaps) vs → IsLeftOf d (with_versions vs (marked c upto n d))
unfolding with_versions marked
left-in_part c upto n d vs p = left-fewer d (with_versions vs (marked c upto n d)) (λ v i. (has-from_filter p.stays d.versions v (subst (Has v) p.left i)).0) refl (lease-same d (with_versions vs (marked c upto n d)) refl)

-- ---- every such change

raises-of : (d : Durable) (o : Option Change) → StoresNone d o → Raises d o
raises-of d None none = tt
raises-of d (Some (Extends ticks)) up = up
raises-of d (Some (Prepares e ws)) none = tt
raises-of d (Some (Settles a step)) none = tt
raises-of d (Some (Freezes c s)) none = tt
raises-of d (Some (Creates c s)) none = tt
raises-of d (Some (Prunes c upto n)) none = tt

pub lease-made : (c : Change) (d : Durable) → StoresNone d (Some c) → LeaseRises d (made c d)
lease-made c d none = lease-steps (Some c) (record { durable = d; free = 0 }) (record { durable = made c d; free = 0 }) (refl, omega arith) (raises-of d (Some c) none)

left-by : (c : Change) (d : Durable) → StoresNone d (Some c) → LeaseRises d (made c d) → IsLeftOf d (made c d)
unfolding leased created
left-by (Extends ticks) d none lease = left-same d (leased ticks d) refl refl lease
left-by (Prepares e ws) d none lease = absurd none
left-by (Settles a step) d none lease = left-settled a step d none lease
left-by (Freezes c s) d none lease = left-frozen c s d lease
left-by (Creates c s) d none lease = left-same d (created c s d) refl refl lease
left-by (Prunes c upto n) d none lease = left-pruned c upto n d lease

pub left-made : (c : Change) (d : Durable) → StoresNone d (Some c) → IsLeftOf d (made c d)
left-made c d none = left-by c d none (lease-made c d none)

pub left-partly : (c : Change) (d x : Durable) → IsPartly c d x → IsLeftOf d x
left-partly (Prunes c upto n) d x p = subst (IsLeftOf d) (sym p.2) (left-in_part c upto n d p.0 p.1)
left-partly (Extends ticks) d x p = absurd p
left-partly (Prepares e ws) d x p = absurd p
left-partly (Settles a step) d x p = absurd p
left-partly (Freezes c s) d x p = absurd p
left-partly (Creates c s) d x p = absurd p

-- a step, and a change that was cut
pub left-steps : (o : Option Change) (k l : Kept) → StoresNone k.durable o → Steps o k l → IsLeftOf k.durable l.durable
left-steps None k l none same = left-itself k.durable l.durable (ap (λ x. x.durable) same)
left-steps (Some c) k l none st = subst (IsLeftOf k.durable) (sym st.0) (left-made c k.durable none)

pub left-cut : (c : Change) (d x : Durable) → StoresNone d (Some c) → Cut c d x → IsLeftOf d x
left-cut c d x none (Before is) = left-itself d x is
left-cut c d x none (After is) = subst (IsLeftOf d) (sym is) (left-made c d none)
left-cut c d x none (InPart p) = left-partly c d x p
