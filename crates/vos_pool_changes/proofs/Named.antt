-- Versions that can be named.
use Rattle.std.proofs.Common.{◌≡◌, ℕ, ◌<◌, ◌&&◌, ◌||◌, Bool, true, false, cond, List, [], ◌∷◌, Option, Some, None, get_or, refl, sym, subst}
use Rattle.std.specs.Prelude.{All, IfSome, is_none, is_some, map}
use Rattle.std.specs.List.{list_all}
use Rattle.std.specs.Coded.{Coded-set, coded_bool, coded_option, le_prop, Π_prop}
use Rattle.std.proofs.lemmas.List.Elements.{All-cons, All-filter, All-head, All-map, All-nil, All-tail}
use Rattle.base_types.specs.contracts.key.KeyNo as no
use Rattle.base_types.specs.declared.entry.Entry.{Entry}
use Rattle.base_types.specs.declared.entry.Settle.{Settle}
use Rattle.base_types.specs.declared.entry.Settle.TheVariants as settle
use Rattle.base_types.specs.declared.epoch.Epoch.{Epoch}
use Rattle.base_types.specs.declared.id.AttemptId.{AttemptId}
use Rattle.base_types.specs.declared.id.ContId.{ContId}
use Rattle.base_types.specs.declared.operation.MinorWrite.{MinorWrite}
use Rattle.base_types.specs.declared.operation.Write.{Write}
use Rattle.base_types.specs.declared.operation.Write.TheVariants as write
use Rattle.base_types.specs.declared.path.Path.{Path}
use Rattle.base_types.specs.Keys.{IsKey, key_fault}
use Rattle.base_types.specs.Operations.{write_path}
use Rattle.base_types.specs.Paths.{record_size}
use Rattle.daos_model.specs.Answers.{is_before}
use Rattle.daos_model.specs.BoolLaws.{and_left, and_right}
use Rattle.daos_model.specs.Changes.{discarded, is_out_of_range, prepared, pruned, settled, with_versions}
use Rattle.daos_model.specs.declared.durable.Durable.{Durable}
use Rattle.daos_model.specs.declared.durable.Version.{Version}
use Rattle.daos_model.specs.Durables.{version_key}
use Rattle.daos_model.specs.Forms.{is_unit, is_write_in_form}
use Rattle.daos_model.specs.Ordered.{put, puts}
use Rattle.daos_model.specs.Prunes.{is_staying}
use Rattle.daos_model.specs.Versions.{done_by, is_not_pending, version_of, versions_of}
use Rattle.vos_pool_changes.specs.Taking.{can_be_taken, is_key_or_none, may_hold}
use Rattle.vos_pool_settle.specs.vos_pool_base.vos_path.Writes.{NamesAreKeys}
use Rattle.vos_pool_settle.specs.vos_settle.Names.{kind_of}
use Rattle.vos_pool_settle.specs.vos_settle.Versions.{fits_kind}
use Rattle.vos_pool_settle.specs.vos_turns.Turns.{CanBeNamed}
use Rattle.vos_pool_write.specs.Several.{AllMayBeStaged}

-- ---- two ways in which a version can be named are one

key-prop : (key : Option (List ℕ)) → IsProp (IfSome key IsKey)
key-prop None = λ a b i. tt
key-prop (Some bytes) = Coded-set (coded_option no.the_row.coded) (key_fault bytes) None

named-prop : (v : Version) → IsProp (CanBeNamed v)
named-prop v a b i = record {
  minor = le_prop a.minor b.minor i;
  fits = Coded-set coded_bool _ _ a.fits b.fits i;
  size = Coded-set coded_bool _ _ a.size b.size i;
  names = record {
    dkey = key-prop (write_path v.write).dkey a.names.dkey b.names.dkey i;
    akey = key-prop (write_path v.write).akey a.names.akey b.names.akey i;
  };
}

pub all_named-prop : (vs : List Version) → IsProp (All CanBeNamed vs)
all_named-prop vs = Π_prop (λ k. Π_prop (λ d. Π_prop (λ low. named-prop (get_or vs k d))))

-- ---- those that stay

pub named_as : (d e : Durable) → d ≡ e → All CanBeNamed e.versions → All CanBeNamed d.versions
named_as d e same all = subst (λ (x : Durable). All CanBeNamed x.versions) (sym same) all

done_named : (a : AttemptId) (vs : List Version) → All CanBeNamed vs → All CanBeNamed (map (done_by a) vs)
unfolding done_by
done_named a vs all = All-map CanBeNamed (done_by a) vs (λ k d low. let n = all k d low in record { minor = n.minor; fits = n.fits; size = n.size; names = n.names })

pub settled_named : (a : AttemptId) (s : Settle) (d : Durable) → All CanBeNamed d.versions → All CanBeNamed (settled a s d).versions
unfolding settled
settled_named a settle.Commit d all = done_named a d.versions all
settled_named a settle.Abort d all = All-filter (is_not_pending a) CanBeNamed d.versions all
settled_named a (settle.Confirm t) d all = all
settled_named a settle.Forget d all = all

pub pruned_named : (c : ContId) (upto : Epoch) (n : ℕ) (d : Durable) → All CanBeNamed d.versions → All CanBeNamed (pruned c upto n d).versions
unfolding pruned with_versions
pruned_named c upto n d all = All-filter (is_staying c upto d) CanBeNamed d.versions all

pub discarded_named : (c : ContId) (lo hi : Epoch) (d : Durable) → All CanBeNamed d.versions → All CanBeNamed (discarded c lo hi d).versions
unfolding discarded with_versions
discarded_named c lo hi d all = All-filter (is_out_of_range c lo hi) CanBeNamed d.versions all

-- ---- those that come

put_named : (v : Version) (us : List Version) → CanBeNamed v → All CanBeNamed us → All CanBeNamed (put version_key v us)
put_named v [] one all = All-cons CanBeNamed v [] one all
put_named v (u ∷ us) one all = by (is_before (version_key u) (version_key v)) (put_named v us one (All-tail CanBeNamed u us all))
  where
    by : (b : Bool) → All CanBeNamed (put version_key v us) → All CanBeNamed (cond b (u ∷ put version_key v us) (v ∷ u ∷ us))
    by true rest = All-cons CanBeNamed u (put version_key v us) (All-head CanBeNamed u us all) rest
    by false rest = All-cons CanBeNamed v (u ∷ us) one all

puts_named : (vs us : List Version) → All CanBeNamed vs → All CanBeNamed us → All CanBeNamed (puts version_key vs us)
puts_named [] us come all = all
puts_named (v ∷ vs) us come all = put_named v (puts version_key vs us) (All-head CanBeNamed v vs come) (puts_named vs us (All-tail CanBeNamed v vs come) all)

punched_object : {A B C : Type 0} (o : Option A) (d : Option B) (k : Option C) → (is_some o && is_none d && is_none k) ≡ true → (((is_none d || is_some o) && (is_none k || is_some d)) && is_some o) ≡ true
punched_object (Some o) None None h = refl
punched_object o d k h = absurd (cc)

punched_dkey : {A B C : Type 0} (o : Option A) (d : Option B) (k : Option C) → (is_some o && is_some d && is_none k) ≡ true → (((is_none d || is_some o) && (is_none k || is_some d)) && is_some o) ≡ true
punched_dkey (Some o) (Some d) None h = refl
punched_dkey o d k h = absurd (cc)

punched_akey : {A B C : Type 0} (o : Option A) (d : Option B) (k : Option C) → (is_some o && is_some d && is_some k) ≡ true → (((is_none d || is_some o) && (is_none k || is_some d)) && is_some o) ≡ true
punched_akey (Some o) (Some d) (Some k) h = refl
punched_akey o d k h = absurd (cc)

-- a write in form has a path of its kind
fits : (w : Write) → is_write_in_form w ≡ true → fits_kind (kind_of w) (write_path w) ≡ true
unfolding is_write_in_form
fits (write.Single p bytes) h = and_left _ _ h
fits (write.Extent p low bytes) h = and_left _ _ (and_left _ _ h)
fits (write.PunchObject p) h = punched_object p.obj p.dkey p.akey h
fits (write.PunchDkey p) h = punched_dkey p.obj p.dkey p.akey h
fits (write.PunchAkey p) h = punched_akey p.obj p.dkey p.akey h

key_is : (key : Option (List ℕ)) → is_key_or_none key ≡ true → IfSome key IsKey
key_is None h = tt
key_is (Some bytes) h = by (key_fault bytes) h
  where
    by : {A : Type 0} (fault : Option A) → is_none fault ≡ true → fault ≡ None
    by None h = refl
    by (Some x) h = absurd (cc)

keys_are : (p : Path) → may_hold p ≡ true → NamesAreKeys p
keys_are p h =
    let k = and_right (is_unit (record_size p)) (is_key_or_none p.dkey && is_key_or_none p.akey) h in record {
      dkey = key_is p.dkey (and_left (is_key_or_none p.dkey) (is_key_or_none p.akey) k);
      akey = key_is p.akey (and_right (is_key_or_none p.dkey) (is_key_or_none p.akey) k);
    }

size_is : (p : Path) → may_hold p ≡ true → is_unit (record_size p) ≡ true
size_is p h = and_left (is_unit (record_size p)) (is_key_or_none p.dkey && is_key_or_none p.akey) h

-- writes in form that objects can take may be staged,
pub all_staged : (e : Entry) (ws : List MinorWrite) → All (λ w. is_write_in_form w.write ≡ true) ws → All (λ w. w.minor < 64) ws → list_all can_be_taken ws ≡ true → AllMayBeStaged e ws
all_staged e [] form minors taken = tt
all_staged e (w ∷ ws) form minors taken =
    let one = and_left (can_be_taken w) (list_all can_be_taken ws) taken in (
      record {
        minor = All-head (λ w. w.minor < 64) w ws minors;
        form = All-head (λ w. is_write_in_form w.write ≡ true) w ws form;
        size = size_is (write_path w.write) one;
        names = keys_are (write_path w.write) one;
      },
      all_staged e ws (All-tail (λ w. is_write_in_form w.write ≡ true) w ws form) (All-tail (λ w. w.minor < 64) w ws minors) (and_right (can_be_taken w) (list_all can_be_taken ws) taken),
    )

-- and their versions can be named
come_named : (e : Entry) (ws : List MinorWrite) → AllMayBeStaged e ws → All CanBeNamed (versions_of e ws)
come_named e [] all = All-nil CanBeNamed
come_named e (w ∷ ws) all = let s = all.0 in All-cons CanBeNamed (version_of e w) (versions_of e ws) (record { minor = s.minor; fits = fits w.write s.form; size = s.size; names = s.names }) (come_named e ws all.1)

pub prepared_named : (e : Entry) (ws : List MinorWrite) (d : Durable) → AllMayBeStaged e ws → All CanBeNamed d.versions → All CanBeNamed (prepared e ws d).versions
unfolding prepared
prepared_named e ws d staged all = puts_named (versions_of e ws) d.versions (come_named e ws staged) all
