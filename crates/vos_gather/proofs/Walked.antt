-- A walk up over the things of a level, the names of whose writes are listed.
use Rattle.std.proofs.Common.{◌≡◌, ℕ, ◌+◌, Bool, true, List, [], ◌∷◌, ◌++◌, Option, Some, refl, sym, ap, ◌∙◌, subst, arith, ◌≤◌, length}
use Rattle.std.specs.declared.cmp.Ordering.TheVariants.{Less}
use Rattle.std.specs.Cmp.Lexicographic.{slice_cmp}
use Rattle.std.specs.Ordering.{nat_cmp}
use Rattle.std.proofs.lemmas.List.{append-nil}
use Rattle.daos_model.specs.declared.durable.Version.{Version}
use Rattle.pmem_pages.specs.Blocks.{Blocks}
use Rattle.pmem_pages.specs.Node.{key_cmp}
use Rattle.pmem_pages.specs.Owners.{Holds}
use Rattle.pmem_pages.specs.declared.node.Pair.{Pair}
use Rattle.pmem_pages.specs.declared.node.TreeKey.{TreeKey}
use Rattle.vos_values.specs.Fields.{packed}
use Rattle.base_types.specs.Paths.{class_number}
use Rattle.byteorder.specs.Endian.{big_bytes}
use Rattle.byteorder.specs.Numbers.{length-bytes_high_first}
use Rattle.vos_values.specs.declared.keys.ObjectKey.{ObjectKey}
use Rattle.vos_values.specs.Keys.{moment_fields, moment_key, name_key, object_fields, object_key, size_fields}
use Rattle.vos_values.specs.Values.{log_value}
use Rattle.vos_values.proofs.KeyLaws.{keys_cmp, moments_exact}
use Rattle.vos_values.proofs.Orders.{packed_cmp}
use Rattle.vos_values.proofs.ValueLaws.{logs_exact}
use Rattle.vos_levels.specs.Levels.{Hung, Level, hung, pair_of_thing}
use Rattle.vos_ilog.specs.declared.ilog.LogEntry.{LogEntry}
use Rattle.vos_ilog.specs.Logs.{IsLogEntry, entry_in_pair, entry_when, entry_with, key_of_entry, log_level, mark_of, moment_of}
use Rattle.vos_path.specs.Objects.{together}
use Rattle.vos_path.proofs.Lists.{together_append}
use Rattle.vos_lists.specs.Stands.{names_of}
use Rattle.vos_lists.proofs.Walking.{Ahead, Coming, ahead_first}
use Rattle.vos_settle.specs.declared.name.WriteName.{WriteName}
use Rattle.vos_gather.specs.Wanted.{Listed, Want}
use Rattle.vos_gather.proofs.Listing.{listed_none, listed_then}

abbrev pub every : {A : Type 0} → A → Bool
every a = true

abbrev pub whole : {A : Type 0} → A → A
whole a = a

names_all : {A : Type 0} (xs : List A) → names_of every whole xs ≡ xs
names_all [] = refl
names_all (x ∷ xs) = ap (λ z. x ∷ z) (names_all xs)

-- Things up to a key were seen, and the wanted names among their versions were listed.
pub record SoFar {A : Type 0} (w : Want) (L : Level A) (versions : A → List Version) (g : Hung A) (key : TreeKey) (passed : ℕ) (f now : List WriteName) : Type 0 where
  pub seen : List A
  pub ahead : Ahead {N = A} L every whole g key seen passed
  pub listed : Listed w (together versions seen) f now

module _ {A X : Type 0} (w : Want) (L : Level A) (parse : Pair → Option X) (shown : A → X) (m : Blocks) (again : (a : A) → L.Good a → Holds L.owner m a → parse (pair_of_thing L a) ≡ Some (shown a)) (g : Hung A) (held : Holds (hung L) m g) (versions : A → List Version) where
  pub so_far_first : (key : TreeKey) → ((a : A) → L.Good a → key_cmp key (L.key a) ≡ Less) → (f : List WriteName) → SoFar w L versions g key 0 f f
  so_far_first key low f = record { seen = []; ahead = ahead_first {N = A} L every whole parse shown m again g held key low; listed = listed_none w f }

  pub so_far_next : (key : TreeKey) (passed : ℕ) (x : X) (f now later : List WriteName) (s : SoFar w L versions g key passed f now) (next : Coming {N = A} L every whole parse shown m again g held key s.seen passed x)
      → Listed w (versions next.thing) now later → SoFar w L versions g (L.key next.thing) (passed + 1) f later
  so_far_next key passed x f now later s next h = record {
    seen = s.seen ++ next.thing ∷ [];
    ahead = next.taken refl;
    listed = subst (λ z. Listed w z f later) (ap (λ z. together versions s.seen ++ z) (sym (append-nil (versions next.thing))) ∙ sym (together_append versions s.seen (next.thing ∷ []))) (listed_then w (together versions s.seen) (versions next.thing) f now later s.listed h);
  }

pub so_far_all : {A : Type 0} (w : Want) (versions : A → List Version) (seen xs : List A) (f now : List WriteName) → seen ≡ names_of every whole xs → Listed w (together versions seen) f now → Listed w (together versions xs) f now
so_far_all w versions seen xs f now is h = subst (λ z. Listed w (together versions z) f now) (is ∙ names_all xs) h

-- ---- entries of logs

pub least_entry : (e : LogEntry) → IsLogEntry e → key_cmp (name_key []) (key_of_entry e) ≡ Less
unfolding moment_key name_key
least_entry e h =
    let x = moment_of e in
    let g = h.moment in
    keys_cmp [] (packed (moment_fields x)) ∙ packed_cmp [] (moment_fields x) tt (omega arith, g.epoch, (omega arith, let k = g.minor in omega arith, tt)) tt

pub entry_again : (m : Blocks) (e : LogEntry) → IsLogEntry e → Holds log_level.owner m e → entry_in_pair (pair_of_thing log_level e) ≡ Some e
entry_again m e h held =
    ap (entry_when (log_value (mark_of e))) (moments_exact.again (moment_of e) h.moment)
    ∙ ap (entry_with (moment_of e)) (logs_exact.again (mark_of e) (record { by = h.by }))

-- ---- objects

some_first : (xs ys : List ℕ) → 1 ≤ length xs → slice_cmp nat_cmp [] (xs ++ ys) ≡ Less
some_first [] ys h = absurd (omega (arith, h))
some_first (x ∷ xs) ys h = refl

pub least_object : (o : ObjectKey) → key_cmp (name_key []) (object_key o) ≡ Less
unfolding object_key name_key
least_object o = keys_cmp [] (packed (object_fields o)) ∙ some_first (big_bytes 16 o.cont.0) (packed ((1, class_number o.obj.class) ∷ (8, o.obj.number) ∷ size_fields o.obj.unit)) (omega (arith, length-bytes_high_first 16 o.cont.0))
