use Rattle.std.proofs.Common.{◌≡◌}
use Rattle.vos_levels.proofs.Calls.{if_ok_then}
use Rattle.vos_object.proofs.ReadForms.{exists_form, extent_ends, extent_fits, single_ends}
use Rattle.vos_object.proofs.object.Objects.fetch.Goals as goal

pub fetch_single-requires-clause-form : goal.fetch_single-requires-clause-form
fetch_single-requires-clause-form g c = single_ends c.args.read.now c.in-Single.path c.in-Single.is c.requires.form

pub fetch_extent-requires-clause-form : goal.fetch_extent-requires-clause-form
fetch_extent-requires-clause-form g c = extent_ends c.args.read.now c.in-Extent.path c.in-Extent.low c.in-Extent.len c.in-Extent.is c.requires.form

pub fetch_extent-requires-clause-end : goal.fetch_extent-requires-clause-end
fetch_extent-requires-clause-end g c = extent_fits c.args.read.now c.in-Extent.path c.in-Extent.low c.in-Extent.len c.in-Extent.is c.requires.form

pub fetch_exists-requires-clause-form : goal.fetch_exists-requires-clause-form
fetch_exists-requires-clause-form g c = exists_form c.args.read.now c.in-Exists.path c.in-Exists.is c.requires.form

pub returns-in-Single-clause-single : goal.returns-in-Single-clause-single
returns-in-Single-clause-single g c p is = let same : p ≡ c.in-Single.path = let h = c.in-Single.is in cc in rw same c.fetch_single.ensures.steps

pub returns-in-Extent-clause-extent : goal.returns-in-Extent-clause-extent
returns-in-Extent-clause-extent g c p low len is =
    let h = c.in-Extent.is in
    let path : p ≡ c.in-Extent.path = cc in
    let first : low ≡ c.in-Extent.low = cc in
    let count : len ≡ c.in-Extent.len = cc in
    rw (path, first, count) c.fetch_extent.ensures.steps

pub returns-in-Exists-clause-found : goal.returns-in-Exists-clause-found
returns-in-Exists-clause-found g c = rw c.in-Exists.is (if_ok_then c.fetch_exists.result (λ a h told x held at settled are. h told x held at settled are) c.fetch_exists.ensures.found)
