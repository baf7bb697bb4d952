-- Entries of a log are settled or pruned by their moments.
use Rattle.std.proofs.Common.{◌≡◌, ℕ, ◌<◌, ◌≤◌, ◌&&◌, ◌==◌, Bool, false, List, [], ◌∷◌, Option, refl, sym, ◌∙◌, arith}
use Rattle.std.specs.List.{find, list_any}
use Rattle.std.specs.Option.{option_map}
use Rattle.std.proofs.lemmas.Bool.Decides.{nat_tests}
use Rattle.pmem_pages.specs.Blocks.{Blocks}
use Rattle.pmem_pages.specs.Owners.{Holds}
use Rattle.pmem_pages.specs.Shape.{entries}
use Rattle.vos_values.specs.declared.keys.Moment.{Moment}
use Rattle.vos_values.specs.declared.values.LogMark.{LogMark}
use Rattle.vos_values.specs.Keys.{IsMoment}
use Rattle.vos_moments.specs.vos_levels.declared.change.Change.{Change}
use Rattle.vos_moments.specs.vos_levels.Changes.{takes}
use Rattle.vos_moments.specs.vos_levels.Levels.{things}
use Rattle.vos_moments.proofs.vos_levels.Testing.{AllGood, all_good}
use Rattle.vos_moments.proofs.Forms.{Form}
use Rattle.vos_moments.proofs.Taking.{taken_is}
use Rattle.vos_ilog.specs.declared.ilog.LogEntry.{LogEntry}
use Rattle.vos_ilog.specs.Logs.{Log, done_entry, is_at, is_taken, log_level, log_owner, mark_of, moment_of, one_block}
use Rattle.vos_ilog.specs.Settling.{takes_mark}
use Rattle.vos_ilog.proofs.Adding.{tells_at}

-- how entries stand in a log
abbrev pub log_form : Form LogEntry LogEntry
log_form = record { level = log_level; shown = things; sized = λ g. refl; moment = moment_of; by = λ v. v.by; is_done = λ v. v.done; done = done_entry; finished = λ v. refl; size = one_block; chain = 0 }

apart : (a b x y : ℕ) → y < 64 → 64 ≤ b → ((x == a) && (y == b)) ≡ false
apart a b x y low high = grind (arith, nat_tests)

none_good : (at : Moment) (c : Change) → 64 ≤ at.minor → (vs : List LogEntry) → AllGood log_level vs → list_any (is_taken c at) vs ≡ false
none_good at c high [] good = refl
none_good at c high (v ∷ vs) good =
    let no : is_at at v ≡ false = apart at.epoch.0 at.minor v.epoch.0 v.minor (let k = good.0.moment.minor in omega arith) high in
    rw (no, none_good at c high vs good.1) refl

-- no entry has such a number
pub none_high : (m : Blocks) (g : Log) (at : Moment) (c : Change) → 64 ≤ at.minor → Holds log_owner m g → false ≡ list_any (is_taken c at) (things g)
none_high m g at c high h = sym (none_good at c high (things g) (all_good log_level (entries g.0) g.1 h.here.1.leads))

pub taken_there : (m : Blocks) (g : Log) (at : Moment) (c : Change) (o : Option LogMark) (b : Bool) → IsMoment at → Holds log_owner m g → o ≡ option_map mark_of (find (is_at at) (things g)) → b ≡ takes_mark c o → b ≡ list_any (is_taken c at) (things g)
taken_there m g at c o b good h found is = is ∙ taken_is log_level _ (is_at at) (tells_at at good) m g h mark_of (λ k. takes c k.by k.done) o found
