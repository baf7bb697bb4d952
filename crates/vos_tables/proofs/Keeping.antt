-- What an image keeps, by the table that its places hold.
use Rattle.std.proofs.Common.{◌≡◌, refl, sym, ap, ◌∙◌}
use Rattle.daos_model.specs.declared.durable.Durable.{Durable}
use Rattle.vos_places.specs.vos_image.Kept.{Stored, durable_of}
use Rattle.vos_places.specs.vos_image.Laws.{WhatStandsIsKept}
use Rattle.vos_places.specs.Tables.{Table, places_of}
use Rattle.vos_tables.specs.Kept.{kept_with}
use Rattle.vos_tables.specs.Laws.{TablesAreKept}

whole_kept : (t : Table) (x : Stored) → durable_of (record { places = places_of t; stored = x }) ≡ kept_with t (durable_of (record { places = places_of t; stored = x })).versions (durable_of (record { places = places_of t; stored = x })).entries
unfolding durable_of
whole_kept t x = refl

pub kept_of_table : WhatStandsIsKept → TablesAreKept
kept_of_table law target size f t x stands =
    let e = law target size f (places_of t) x stands in
    e ∙ (whole_kept t x ∙ ap (λ (d : Durable). kept_with t d.versions d.entries) (sym e))
