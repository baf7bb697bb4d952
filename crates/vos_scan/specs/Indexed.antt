-- An index of the first versions of a row.
use Rattle.std.specs.Prelude.{ℕ, ◌≡◌, ◌≤◌, ◌&&◌, ◌==◌, nat_le, nat_lt, Bool, true, false, length, map, take, drop, List, [], ◌∷◌, ◌++◌, Option, Some, None}
use Rattle.std.specs.List.{list_all, list_any}
use Rattle.std.specs.Option.{option_eq}
use Rattle.base_types.specs.declared.operation.Write.{Write}
use Rattle.base_types.specs.declared.operation.Write.TheVariants.{Single, Extent, PunchObject, PunchDkey, PunchAkey}
use Rattle.base_types.specs.declared.path.Path.{Path}
use Rattle.base_types.specs.Keys.{same_key}
use Rattle.base_types.specs.Paths.{same_object}
use Rattle.daos_model.specs.declared.durable.Version.{Version}
use Rattle.vos_scan.specs.declared.index.ReadIndex.{ReadIndex}
use Rattle.vos_scan.specs.Chains.{AreChained, version_place}
use Rattle.vos_scan.specs.Names.{is_seen_punch, names_from}

-- the path of an update
abbrev pub updated : Write → Option Path
updated (Single p bytes) = Some p
updated (Extent p low bytes) = Some p
updated (PunchObject p) = None
updated (PunchDkey p) = None
updated (PunchAkey p) = None

-- two paths name the same dkey
abbrev pub same_dkey : Path → Path → Bool
same_dkey p q = (p.cont.0 == q.cont.0) && (option_eq same_object p.obj q.obj && option_eq same_key p.dkey q.dkey)

abbrev pub both_same : Option Path → Option Path → Bool
both_same None q = false
both_same (Some p) None = false
both_same (Some p) (Some q) = same_dkey p q

-- two writes are updates of the same dkey
abbrev pub update_same : Write → Write → Bool
update_same w x = both_same (updated w) (updated x)

-- a version that is done makes the dkey that this one makes, wherever this one is seen
abbrev pub stands_for : Version → Version → Bool
stands_for v u = u.done && (nat_le u.epoch.0 v.epoch.0 && update_same u.write v.write)

-- the rows at places, of those that are there
abbrev pub picked : List ℕ → List Version → List Version
picked [] vs = []
picked (i ∷ is) vs = take 1 (drop i vs) ++ picked is vs

-- versions make the same dkeys under paths that name none as others, and a punch is seen among both alike
pub record AreNamed (vs us : List Version) : Type 0 where
  pub names : (p : Path) (e : ℕ) → p.dkey ≡ None → p.akey ≡ None → names_from p e vs [] ≡ names_from p e us []
  pub punches : (e : ℕ) → list_any (is_seen_punch e) vs ≡ list_any (is_seen_punch e) us

abbrev pub is_done : Version → Bool
is_done v = v.done

abbrev pub is_below : ℕ → ℕ → Bool
is_below n i = nat_lt i n

-- of the first rows, so many, which are done, those at its places make all dkeys
pub record IsIndex (covered : ℕ) (firsts : List ℕ) (vs : List Version) : Type 0 where
  pub within : covered ≤ length vs
  pub done : list_all is_done (take covered vs) ≡ true
  pub below : list_all (is_below covered) firsts ≡ true
  pub named : AreNamed (take covered vs) (picked firsts (take covered vs))

-- and chains lead through these rows
pub record IsIndexOf (i : ReadIndex) (vs : List Version) : Type 0 where
  pub rows : IsIndex i.covered i.firsts.items vs
  pub chained : AreChained (map version_place (take i.covered vs)) i.chains.lasts.items i.chains.links.items
