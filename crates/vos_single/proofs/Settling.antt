-- Versions of a single value are settled or pruned by their moments.
use Rattle.std.proofs.Common.{◌≡◌, ℕ, ◌<◌, ◌≤◌, ◌&&◌, ◌==◌, Bool, false, List, [], ◌∷◌, Option, map, refl, sym, ap, ◌∙◌, arith}
use Rattle.std.specs.List.{find, list_any}
use Rattle.std.specs.Option.{option_map}
use Rattle.std.proofs.lemmas.Bool.Decides.{nat_tests}
use Rattle.pmem_pages.specs.Blocks.{Blocks}
use Rattle.pmem_pages.specs.Owners.{Holds}
use Rattle.pmem_pages.specs.Shape.{entries}
use Rattle.pmem_pages.specs.declared.node.TreeKey.{TreeKey}
use Rattle.vos_values.specs.declared.keys.Moment.{Moment}
use Rattle.vos_values.specs.declared.values.VersionMark.{VersionMark}
use Rattle.vos_values.specs.Keys.{IsMoment, moment_key}
use Rattle.vos_moments.specs.vos_levels.declared.change.Change.{Change}
use Rattle.vos_moments.specs.vos_levels.Changes.{takes}
use Rattle.vos_moments.specs.vos_levels.Levels.{things}
use Rattle.vos_moments.proofs.vos_levels.Testing.{AllGood, all_good}
use Rattle.vos_moments.proofs.Forms.{Form}
use Rattle.vos_moments.proofs.Taking.{any_shown, length_shown, taken_is}
use Rattle.vos_versions.specs.Marks.{mark_at}
use Rattle.vos_versions.proofs.Levels.{mark_found}
use Rattle.vos_single.specs.declared.single.SingleVersion.{SingleVersion}
use Rattle.vos_single.specs.Singles.{Singles, Stored, blocks_of_version, done_version, is_at, is_taken, mark_of, single_level, single_owner, version_of, versions}
use Rattle.vos_single.specs.Settling.{moment_of_version, takes_mark}
use Rattle.vos_single.proofs.Changing.{single_versions}
use Rattle.vos_single.proofs.Reading.{tells_at}

-- how versions of a single value stand in their tree
abbrev pub single_form : Form Stored SingleVersion
single_form = record { level = single_level; shown = versions; sized = λ g. length_shown version_of (things g); moment = moment_of_version; by = λ v. v.by; is_done = λ v. v.done; done = done_version; finished = λ v. refl; size = blocks_of_version; chain = 5 }

apart : (a b x y : ℕ) → y < 64 → 64 ≤ b → ((x == a) && (y == b)) ≡ false
apart a b x y low high = grind (arith, nat_tests)

none_good : (at : Moment) (c : Change) → 64 ≤ at.minor → (vs : List Stored) → AllGood single_level vs → list_any (is_taken c at) (map version_of vs) ≡ false
none_good at c high [] good = refl
none_good at c high (v ∷ vs) good =
    let no : is_at at v ≡ false = apart at.epoch.0 at.minor v.version.epoch.0 v.version.minor (let k = good.0.moment.minor in omega arith) high in
    rw (no, none_good at c high vs good.1) refl

-- no version has such a number
pub none_high : (m : Blocks) (g : Singles) (at : Moment) (c : Change) → 64 ≤ at.minor → Holds single_owner m g → false ≡ list_any (is_taken c at) (versions g)
none_high m g at c high h = sym (none_good at c high (things g) (all_good single_level (entries g.0) g.1 h.here.1.leads))

pub taken_there : (m : Blocks) (g : Singles) (at : Moment) (key : TreeKey) (c : Change) (o : Option VersionMark) (b : Bool) → IsMoment at → key ≡ moment_key at → Holds single_owner m g → o ≡ mark_at key (entries g.0) → b ≡ takes_mark c o → b ≡ list_any (is_taken c at) (versions g)
taken_there m g at key c o b good is h found taken =
    let here : o ≡ option_map mark_of (find (is_at at) (things g)) = found ∙ (ap (λ k. mark_at k (entries g.0)) is ∙ mark_found single_versions (moment_key at) (is_at at) (tells_at at good) m g h) in
    taken ∙ (taken_is single_level (moment_key at) (is_at at) (tells_at at good) m g h mark_of (λ k. takes c k.by k.done) o here ∙ sym (any_shown version_of (is_taken c at) (things g)))
