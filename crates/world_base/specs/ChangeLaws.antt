-- What each change leaves of what a target keeps.
use Rattle.std.specs.Prelude.{ℕ, ◌≡◌, ◌≤◌, ◌<◌, ◌*◌, ◌^◌, min, nat_le, Bool, true, false, Option, Some, None, List, refl, if◌then◌else◌}
use Rattle.std.specs.Int.{div_ceil}
use Rattle.std.specs.Prelude.{filter, map}
use Rattle.std.proofs.Common.{sym, ◌∙◌, ap, subst, arith}
use Rattle.std.proofs.lemmas.Bool.Decides.{nat_tests}
use Rattle.std.proofs.lemmas.Grind.{div_ceil_times}
use Rattle.base_types.specs.declared.entry.Entry.{Entry}
use Rattle.base_types.specs.declared.entry.Settle.{Settle}
use Rattle.base_types.specs.declared.entry.Settle.TheVariants.{Abort, Commit, Confirm, Forget}
use Rattle.base_types.specs.declared.id.AttemptId.{AttemptId}
use Rattle.base_types.specs.declared.operation.MinorWrite.{MinorWrite}
use Rattle.base_types.specs.Epochs.{last_ticks, lease_for}
use Rattle.daos_model.specs.declared.durable.Durable.{Durable}
use Rattle.daos_model.specs.declared.durable.Version.{Version}
use Rattle.base_types.specs.declared.epoch.Epoch.{Epoch}
use Rattle.base_types.specs.declared.id.ContId.{ContId}
use Rattle.base_types.specs.declared.outcome.FloorWhy.TheVariants.{Snapshot}
use Rattle.daos_model.specs.Changes.{committed_at, confirmed_at, created, frozen, is_other, leased, marked, new_snap, prepared, pruned, raised_at, settled, with_versions}
use Rattle.daos_model.specs.Durables.{is_frozen, snap_key}
use Rattle.daos_model.specs.Ordered.{put}
use Rattle.daos_model.specs.Versions.{done_by, is_not_pending}
use Rattle.world_base.specs.Changes.{Change, Creates, Extends, Freezes, Kept, Prepares, Prunes, Settles, Steps, is_plain, made}

-- ---- one change

-- a step of an attempt leaves all but the versions and the entries
settled-leaves : {T : Type 0} (of : Durable → T) (a : AttemptId) (step : Settle) (d : Durable) → ((vs : List Version) (es : List Entry) → of (record d { versions = vs; entries = es }) ≡ of d) → of (settled a step d) ≡ of d
unfolding settled
settled-leaves of a Commit d same = same (map (done_by a) d.versions) (map (committed_at a) d.entries)
settled-leaves of a Abort d same = same (filter (is_not_pending a) d.versions) (filter (is_other a) d.entries)
settled-leaves of a (Confirm t) d same = same d.versions (map (confirmed_at a t) d.entries)
settled-leaves of a Forget d same = same d.versions (filter (is_other a) d.entries)

pub conts-settled : (a : AttemptId) (step : Settle) (d : Durable) → (settled a step d).conts ≡ d.conts
conts-settled a step d = settled-leaves (λ x. x.conts) a step d (λ vs es. refl)

snaps-settled : (a : AttemptId) (step : Settle) (d : Durable) → (settled a step d).snaps ≡ d.snaps
snaps-settled a step d = settled-leaves (λ x. x.snaps) a step d (λ vs es. refl)

pub incarnation-settled : (a : AttemptId) (step : Settle) (d : Durable) → (settled a step d).incarnation ≡ d.incarnation
incarnation-settled a step d = settled-leaves (λ x. x.incarnation) a step d (λ vs es. refl)

pub lease-settled : (a : AttemptId) (step : Settle) (d : Durable) → (settled a step d).lease ≡ d.lease
lease-settled a step d = settled-leaves (λ x. x.lease) a step d (λ vs es. refl)

pub lease-prepared : (e : Entry) (ws : List MinorWrite) (d : Durable) → (prepared e ws d).lease ≡ d.lease
unfolding prepared
lease-prepared e ws d = refl

pub lease-leased : (n : ℕ) (d : Durable) → (leased n d).lease ≡ n
unfolding leased
lease-leased n d = refl

pub entries-leased : (n : ℕ) (d : Durable) → (leased n d).entries ≡ d.entries
unfolding leased
entries-leased n d = refl

pub versions-leased : (n : ℕ) (d : Durable) → (leased n d).versions ≡ d.versions
unfolding leased
versions-leased n d = refl

pub incarnation-prepared : (e : Entry) (ws : List MinorWrite) (d : Durable) → (prepared e ws d).incarnation ≡ d.incarnation
unfolding prepared
incarnation-prepared e ws d = refl

-- a plain change touches neither the containers nor the snapshots
pub conts-made : (c : Change) (d : Durable) → is_plain c ≡ true → (made c d).conts ≡ d.conts
unfolding leased prepared
conts-made (Extends ticks) d plain = refl
conts-made (Prepares e ws) d plain = refl
conts-made (Settles a step) d plain = conts-settled a step d
conts-made (Freezes c s) d plain = absurd (cc)
conts-made (Creates c s) d plain = absurd (cc)
conts-made (Prunes c upto n) d plain = absurd (cc)

pub snaps-made : (c : Change) (d : Durable) → is_plain c ≡ true → (made c d).snaps ≡ d.snaps
unfolding leased prepared
snaps-made (Extends ticks) d plain = refl
snaps-made (Prepares e ws) d plain = refl
snaps-made (Settles a step) d plain = snaps-settled a step d
snaps-made (Freezes c s) d plain = absurd (cc)
snaps-made (Creates c s) d plain = absurd (cc)
snaps-made (Prunes c upto n) d plain = absurd (cc)

-- a freeze leaves all but the containers and the snapshots
frozen-leaves : {T : Type 0} (of : Durable → T) (c : ContId) (s : Epoch) (d : Durable)
    → of (record d { conts = map (raised_at c s (Snapshot s)) d.conts; snaps = put snap_key (new_snap c s) d.snaps }) ≡ of d → of (frozen c s d) ≡ of d
unfolding frozen
frozen-leaves of c s d same = by (is_frozen d c s)
  where
    by : (b : Bool) → of (if b then d else record d { conts = map (raised_at c s (Snapshot s)) d.conts; snaps = put snap_key (new_snap c s) d.snaps }) ≡ of d
    by true = refl
    by false = same

incarnation-frozen : (c : ContId) (s : Epoch) (d : Durable) → (frozen c s d).incarnation ≡ d.incarnation
incarnation-frozen c s d = frozen-leaves (λ x. x.incarnation) c s d refl

pub lease-frozen : (c : ContId) (s : Epoch) (d : Durable) → (frozen c s d).lease ≡ d.lease
lease-frozen c s d = frozen-leaves (λ x. x.lease) c s d refl

pub entries-frozen : (c : ContId) (s : Epoch) (d : Durable) → (frozen c s d).entries ≡ d.entries
entries-frozen c s d = frozen-leaves (λ x. x.entries) c s d refl

pub entries-created : (c : ContId) (s : Epoch) (d : Durable) → (created c s d).entries ≡ d.entries
unfolding created
entries-created c s d = refl

pub entries-pruned : (c : ContId) (upto : Epoch) (n : ℕ) (d : Durable) → (pruned c upto n d).entries ≡ d.entries
unfolding pruned with_versions marked
entries-pruned c upto n d = refl

-- no change touches the incarnation
pub incarnation-made : (c : Change) (d : Durable) → (made c d).incarnation ≡ d.incarnation
unfolding leased prepared created pruned with_versions marked
incarnation-made (Extends ticks) d = refl
incarnation-made (Prepares e ws) d = refl
incarnation-made (Settles a step) d = incarnation-settled a step d
incarnation-made (Freezes c s) d = incarnation-frozen c s d
incarnation-made (Creates c s) d = refl
incarnation-made (Prunes c upto n) d = refl

pub lease-created : (c : ContId) (s : Epoch) (d : Durable) → (created c s d).lease ≡ d.lease
unfolding created
lease-created c s d = refl

pub lease-pruned : (c : ContId) (upto : Epoch) (n : ℕ) (d : Durable) → (pruned c upto n d).lease ≡ d.lease
unfolding pruned with_versions marked
lease-pruned c upto n d = refl

-- ---- the lease

covers-of : (n last l : ℕ) → (if nat_le n last then Some (min last (div_ceil n 65536 * 65536)) else None) ≡ Some l → (n ≤ l) × (l ≤ last)
covers-of n last l h = by (nat_le n last) refl h
  where
    up : n ≤ div_ceil n 65536 * 65536
    up = (div_ceil_times n 65536 (omega arith)).0

    least : (a b : ℕ) → n ≤ a → n ≤ b → min a b ≡ l → (n ≤ l) × (l ≤ a)
    least a b p q e = (omega arith, omega arith)

    by : (b : Bool) → nat_le n last ≡ b → (if b then Some (min last (div_ceil n 65536 * 65536)) else None) ≡ Some l → (n ≤ l) × (l ≤ last)
    by true is f =
        let low : n ≤ last = grind (arith, nat_tests) in
        let same : min last (div_ceil n 65536 * 65536) ≡ l = cc in
        least last (div_ceil n 65536 * 65536) low up same
    by false is f = absurd (let no : ⊥ = cc in no)

-- a lease that is stored covers the ticks that it is stored for, and is within a clock's
pub lease-covers : (n l : ℕ) → lease_for n ≡ Some l → (n ≤ l) × (l < 2 ^ 56)
lease-covers n l h = let c = covers-of n last_ticks l h in (c.0, within c.1)
  where
    within : l ≤ last_ticks → l < 2 ^ 56
    within le = omega (arith, le)

-- a change of the lease is upwards, and within a clock's ticks
abbrev pub Raises : Durable → Option Change → Type 0
Raises d None = Unit {0}
Raises d (Some (Extends ticks)) = (d.lease ≤ ticks) × (ticks < 2 ^ 56)
Raises d (Some (Prepares e ws)) = Unit {0}
Raises d (Some (Settles a step)) = Unit {0}
Raises d (Some (Freezes c s)) = Unit {0}
Raises d (Some (Creates c s)) = Unit {0}
Raises d (Some (Prunes c upto n)) = Unit {0}

-- a lease is no lower than before, and within a clock's ticks where it was so before
pub record LeaseRises (d e : Durable) : Type 0 where
  pub rises : d.lease ≤ e.lease
  pub within : d.lease < 2 ^ 56 → e.lease < 2 ^ 56

pub lease-same : (d e : Durable) → e.lease ≡ d.lease → LeaseRises d e
lease-same d e same = record { rises = omega (arith, same); within = λ low. subst (λ n. n < 2 ^ 56) (sym same) low }

pub lease-then : (d e f : Durable) → LeaseRises d e → LeaseRises e f → LeaseRises d f
lease-then d e f k l = record { rises = let p : d.lease ≤ e.lease = k.rises in let q : e.lease ≤ f.lease = l.rises in omega (arith, p, q); within = λ low. l.within (k.within low) }

pub lease-steps : (o : Option Change) (k l : Kept) → Steps o k l → Raises k.durable o → LeaseRises k.durable l.durable
lease-steps None k l same up = lease-same k.durable l.durable (ap (λ x. x.durable.lease) same)
lease-steps (Some (Extends ticks)) k l st up =
    let now : l.durable.lease ≡ ticks = ap (λ d. d.lease) st.0 ∙ lease-leased ticks k.durable in
    record { rises = subst (λ n. k.durable.lease ≤ n) (sym now) up.0; within = λ low. subst (λ n. n < 2 ^ 56) (sym now) up.1 }
lease-steps (Some (Prepares e ws)) k l st up = lease-same k.durable l.durable (ap (λ d. d.lease) st.0 ∙ lease-prepared e ws k.durable)
lease-steps (Some (Settles a step)) k l st up = lease-same k.durable l.durable (ap (λ d. d.lease) st.0 ∙ lease-settled a step k.durable)
lease-steps (Some (Freezes c s)) k l st up = lease-same k.durable l.durable (ap (λ d. d.lease) st.0 ∙ lease-frozen c s k.durable)
lease-steps (Some (Creates c s)) k l st up = lease-same k.durable l.durable (ap (λ d. d.lease) st.0 ∙ lease-created c s k.durable)
lease-steps (Some (Prunes c upto n)) k l st up = lease-same k.durable l.durable (ap (λ d. d.lease) st.0 ∙ lease-pruned c upto n k.durable)

-- the lease that a turn extends to covers ticks above it
pub extends-raises : (d : Durable) (n ticks : ℕ) → d.lease < n → lease_for n ≡ Some ticks → Raises d (Some (Extends ticks))
extends-raises d n ticks low is = let c = lease-covers n ticks is in (let up : n ≤ ticks = c.0 in omega (arith, low, up), c.1)
