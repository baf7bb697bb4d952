-- No attempt counts with two epochs, where none was issued two.
use Rattle.std.specs.Prelude.{◌≡◌, Bool, true, false, not, [], ◌∷◌, filter, refl, if◌then◌else◌}
use Rattle.std.proofs.Common.{sym, ap, subst}
use Rattle.base_types.specs.declared.id.AttemptId.{AttemptId}
use Rattle.model_laws.specs.Members.{Has, has-filter, has-from_map, has-map}
use Rattle.world_base.specs.declared.world.World.{World}
use Rattle.world_base.specs.Events.{Rules}
use Rattle.world_answers.specs.world_causes.causes.Causes.{Dated}
use Rattle.world_closing.specs.Issued.{IssuedOnce}
use Rattle.world_answers.specs.world_causes.causes.Storing.{AreApart, dated_ids}
use Rattle.world_upheld.specs.causing.Dates.{AreDates, is_own_date, is_read_date}
use Rattle.world_letters.specs.clients.Snapshots.{is_at_snapshot}

-- the epochs that count are of attempts that are apart
abbrev pub DatesAreApart : Type 0
DatesAreApart = (r : Rules) (dated : Dated) (w : World) → AreDates r 0 dated w → IssuedOnce w → AreApart (dated_ids dated)

-- one of an attempt among those that pass by their attempts
passes-on : (p : AttemptId → Bool) (x : AttemptId) (xs : Dated) → p x ≡ true → Has x (dated_ids xs) → Has x (dated_ids (filter (λ i. p i.0) xs))
passes-on p x xs is i =
    let j = has-from_map (λ z. z.0) xs x i in
    subst (λ y. Has y (dated_ids (filter (λ i. p i.0) xs))) j.2 (has-map (λ z. z.0) (filter (λ i. p i.0) xs) j.0 (has-filter (λ i. p i.0) xs j.0 j.1 (subst (λ y. p y ≡ true) (sym j.2) is)))

both-apart : (r : Rules) (xs : Dated) → AreApart (dated_ids (filter (is_own_date r) xs)) → AreApart (dated_ids (filter (is_read_date r) xs)) → AreApart (dated_ids xs)
both-apart r [] own read = tt
both-apart r (x ∷ xs) own read = by (is_at_snapshot r x.0) refl own read (both-apart r xs)
  where
    owns : Bool → Dated
    owns b = if not b then x ∷ filter (is_own_date r) xs else filter (is_own_date r) xs

    reads : Bool → Dated
    reads b = if b then x ∷ filter (is_read_date r) xs else filter (is_read_date r) xs

    by : (b : Bool) → is_at_snapshot r x.0 ≡ b → AreApart (dated_ids (owns b)) → AreApart (dated_ids (reads b))
        → (AreApart (dated_ids (filter (is_own_date r) xs)) → AreApart (dated_ids (filter (is_read_date r) xs)) → AreApart (dated_ids xs)) → AreApart (dated_ids (x ∷ xs))
    by true at o k rest = (λ i. k.0 (passes-on (is_at_snapshot r) x.0 xs at i), rest o k.1)
    by false off o k rest = (λ i. o.0 (passes-on (λ y. not (is_at_snapshot r y)) x.0 xs (ap not off) i), rest o.1 k)

pub dates-apart : DatesAreApart
dates-apart r dated w D once = both-apart r dated (subst (λ is. AreApart (dated_ids is)) (sym D.issued) once) D.once
