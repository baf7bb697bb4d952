-- A read that no unsettled version keeps from its answer sees all that counts.
use Rattle.std.specs.Prelude.{◌≡◌, ◌⊎◌, ◌==◌, Bool, true, false, ◌&&◌, ◌||◌, not, nat_lt, is_none, is_some, List, [], ◌∷◌, Option, Some, None, Contains, Decides, refl}
use Rattle.std.specs.Option.{option_eq}
use Rattle.std.specs.List.{list_all}
use Rattle.std.proofs.Common.{sym, ◌∙◌, ap, subst, inl, inr}
use Rattle.std.proofs.Common.{arith}
use Rattle.std.proofs.lemmas.Bool.Decides.{nat_tests}
use Rattle.base_types.specs.declared.operation.Read.{Read}
use Rattle.base_types.specs.declared.operation.Read.TheVariants as read
use Rattle.base_types.specs.declared.operation.Write.{Write}
use Rattle.base_types.specs.declared.operation.Write.TheVariants as write
use Rattle.base_types.specs.declared.path.Path.{Path}
use Rattle.base_types.specs.Keys.{same_key}
use Rattle.base_types.specs.Operations.{read_path, write_path}
use Rattle.base_types.specs.Paths.{leads_to, overlaps, same_object}
use Rattle.base_types.specs.PathLaws.{same_key-Decides, same_object-Decides}
use Rattle.daos_model.specs.declared.cell.Cell.{Cell}
use Rattle.daos_model.specs.declared.durable.Version.{Version}
use Rattle.daos_model.specs.BoolLaws.{and_left, and_right, both, clash}
use Rattle.daos_model.specs.Durables.{is_version_in_form}
use Rattle.daos_model.specs.ExtentForms.{read-at_akey}
use Rattle.daos_model.specs.Forms.{ends_at_akey, ends_at_dkey, ends_at_object, is_path_in_form, is_read_in_form, is_write_in_form}
use Rattle.daos_model.specs.Prunes.{is_punch, touches}
use Rattle.daos_model.specs.Versions.{blocks_read, map_below, sees, version_path}
use Rattle.model_laws.specs.Dated.{Dated, dated_of, is_about, map_of}
use Rattle.model_laws.specs.Matches.{ServedReadsSeeAll, counts_under}
use Rattle.model_laws.specs.MatchLaws.{counted-has, has-counted}
use Rattle.model_laws.specs.Members.{Has, contains-from_has, has-from_contains}
use Rattle.model_laws.specs.ReadLaws.{answer-same}
use Rattle.model_laws.specs.TouchLaws.{punch-path, update-path}
use Rattle.model_laws.specs.VersionLaws.{maps-same}
use Rattle.std.proofs.lemmas.Bool.{or_right}

-- ---- paths that lead to one cell overlap

-- one of two tests holds only where the other does
abbrev Only : Bool → Bool → Type 0
Only a b = a ≡ true → b ≡ true

-- a path has a dkey only with an object, and an akey only with a dkey
record IsChain (p : Path) : Type 0 where
  dkey : Only (is_some p.dkey) (is_some p.obj)
  akey : Only (is_some p.akey) (is_some p.dkey)

-- of two paths one goes no further than the other
record GoesNoFurther (p q : Path) : Type 0 where
  obj : Only (is_some p.obj) (is_some q.obj)
  dkey : Only (is_some p.dkey) (is_some q.dkey)
  akey : Only (is_some p.akey) (is_some q.akey)

abbrev AllOnly : Bool → Bool → Bool → Bool → Bool → Bool → Type 0
AllOnly a b c d e f = Only a d × Only b e × Only c f

shorter : (a b c d e f : Bool) → Only b a → Only c b → Only e d → Only f e → AllOnly a b c d e f ⊎ AllOnly d e f a b c
shorter a b c d e true h i j k = inl (λ x. j (k refl), λ x. k refl, λ x. refl)
shorter a b true d e false h i j k = inr (λ x. h (i refl), λ x. i refl, λ x. refl)
shorter a b false d true false h i j k = inl (λ x. j refl, λ x. refl, λ x. x)
shorter a true false d false false h i j k = inr (λ x. h refl, λ x. refl, λ x. x)
shorter a false false true false false h i j k = inl (λ x. refl, λ x. x, λ x. x)
shorter true false false false false false h i j k = inr (λ x. refl, λ x. x, λ x. x)
shorter false false false false false false h i j k = inl (λ x. x, λ x. x, λ x. x)

level : {T : Type 0} (same : T → T → Bool) → ((a b : T) → Decides (same a b) (a ≡ b)) → (x y r : Option T) → (is_none x || option_eq same x r) ≡ true
    → (is_none y || option_eq same y r) ≡ true → Only (is_some x) (is_some y) → (is_none x || option_eq same x y) ≡ true
level same each None y r h k only = refl
level same each (Some a) None r h k only = absurd (let e : false ≡ true = only refl in let n : ⊥ = cc in n)
level same each (Some a) (Some b) None h k only = absurd (let n : ⊥ = cc in n)
level same each (Some a) (Some b) (Some c) h k only = (each a b).1 ((each a c).0 h ∙ sym ((each b c).0 k))

abbrev pub cont_test : Path → Path → Bool
cont_test p q = p.cont.0 == q.cont.0

abbrev pub obj_test : Path → Path → Bool
obj_test p q = is_none p.obj || option_eq same_object p.obj q.obj

abbrev pub dkey_test : Path → Path → Bool
dkey_test p q = is_none p.dkey || option_eq same_key p.dkey q.dkey

abbrev pub akey_test : Path → Path → Bool
akey_test p q = is_none p.akey || option_eq same_key p.akey q.akey

no_further-leads : (p q r : Path) → leads_to p r ≡ true → leads_to q r ≡ true → GoesNoFurther p q → leads_to p q ≡ true
unfolding leads_to
no_further-leads p q r h k less =
    both (cont_test p q && obj_test p q && dkey_test p q) (akey_test p q)
    (both (cont_test p q && obj_test p q) (dkey_test p q)
    (both (cont_test p q) (obj_test p q)
    (let a : (p.cont.0 == r.cont.0) ≡ true = and_left (cont_test p r) (obj_test p r) (and_left (cont_test p r && obj_test p r) (dkey_test p r) (and_left (cont_test p r && obj_test p r && dkey_test p r) (akey_test p r) h)) in
    let b : (q.cont.0 == r.cont.0) ≡ true = and_left (cont_test q r) (obj_test q r) (and_left (cont_test q r && obj_test q r) (dkey_test q r) (and_left (cont_test q r && obj_test q r && dkey_test q r) (akey_test q r) k)) in
    grind (arith, nat_tests))
    (level same_object same_object-Decides p.obj q.obj r.obj
    (and_right (cont_test p r) (obj_test p r) (and_left (cont_test p r && obj_test p r) (dkey_test p r) (and_left (cont_test p r && obj_test p r && dkey_test p r) (akey_test p r) h)))
    (and_right (cont_test q r) (obj_test q r) (and_left (cont_test q r && obj_test q r) (dkey_test q r) (and_left (cont_test q r && obj_test q r && dkey_test q r) (akey_test q r) k))) less.obj))
    (level same_key same_key-Decides p.dkey q.dkey r.dkey
    (and_right (cont_test p r && obj_test p r) (dkey_test p r) (and_left (cont_test p r && obj_test p r && dkey_test p r) (akey_test p r) h))
    (and_right (cont_test q r && obj_test q r) (dkey_test q r) (and_left (cont_test q r && obj_test q r && dkey_test q r) (akey_test q r) k)) less.dkey))
    (level same_key same_key-Decides p.akey q.akey r.akey
    (and_right (cont_test p r && obj_test p r && dkey_test p r) (akey_test p r) h)
    (and_right (cont_test q r && obj_test q r && dkey_test q r) (akey_test q r) k) less.akey)

prefixes-overlap : (p q r : Path) → IsChain p → IsChain q → leads_to p r ≡ true → leads_to q r ≡ true → overlaps p q ≡ true
unfolding overlaps
prefixes-overlap p q r f g h k =
    elim (shorter (is_some p.obj) (is_some p.dkey) (is_some p.akey) (is_some q.obj) (is_some q.dkey) (is_some q.akey) f.dkey f.akey g.dkey g.akey) [
      | inl less ↦ ap (λ b. b || leads_to q p) (no_further-leads p q r h k (record { obj = less.0; dkey = less.1; akey = less.2 }))
      | inr less ↦ or_right (leads_to p q) (leads_to q p) (no_further-leads q p r k h (record { obj = less.0; dkey = less.1; akey = less.2 }))
    ]

-- ---- paths in form

some_of : {T U : Type 0} (x : Option T) (y : Option U) → (is_none x || is_some y) ≡ true → Only (is_some x) (is_some y)
some_of None y h e = absurd (let n : ⊥ = cc in n)
some_of (Some a) y h e = h

chain-path : (p : Path) → is_path_in_form p ≡ true → IsChain p
chain-path p h = record {
  dkey = some_of p.dkey p.obj (and_left (is_none p.dkey || is_some p.obj) (is_none p.akey || is_some p.dkey) h);
  akey = some_of p.akey p.dkey (and_right (is_none p.dkey || is_some p.obj) (is_none p.akey || is_some p.dkey) h);
}

chain-akey : (p : Path) → ends_at_akey p ≡ true → IsChain p
chain-akey p h = record {
  dkey = λ e. and_left (is_some p.obj) (is_some p.dkey) (and_left (is_some p.obj && is_some p.dkey) (is_some p.akey) h);
  akey = λ e. and_right (is_some p.obj) (is_some p.dkey) (and_left (is_some p.obj && is_some p.dkey) (is_some p.akey) h);
}

chain-dkey : (p : Path) → ends_at_dkey p ≡ true → IsChain p
chain-dkey p h = record {
  dkey = λ e. and_left (is_some p.obj) (is_some p.dkey) (and_left (is_some p.obj && is_some p.dkey) (is_none p.akey) h);
  akey = λ e. and_right (is_some p.obj) (is_some p.dkey) (and_left (is_some p.obj && is_some p.dkey) (is_none p.akey) h);
}

none_some : {T : Type 0} (x : Option T) (b : Bool) → is_none x ≡ true → Only (is_some x) b
none_some None b h e = absurd (let n : ⊥ = cc in n)
none_some (Some a) b h e = absurd (let n : ⊥ = cc in n)

chain-object : (p : Path) → ends_at_object p ≡ true → IsChain p
chain-object p h = record {
  dkey = λ e. and_left (is_some p.obj) (is_none p.dkey) (and_left (is_some p.obj && is_none p.dkey) (is_none p.akey) h);
  akey = none_some p.akey (is_some p.dkey) (and_right (is_some p.obj && is_none p.dkey) (is_none p.akey) h);
}

chain-read : (r : Read) → is_read_in_form r ≡ true → IsChain (read_path r)
unfolding is_read_in_form
chain-read (read.Single p) h = chain-akey p h
chain-read (read.Extent p low len) h = chain-akey p (read-at_akey p low len h)
chain-read (read.Dkeys p) h = chain-object p h
chain-read (read.Akeys p) h = chain-dkey p h
chain-read (read.Exists p) h = chain-path p h

chain-punch : (w : Write) → is_punch w ≡ true → is_write_in_form w ≡ true → IsChain (write_path w)
unfolding is_write_in_form
chain-punch (write.Single p bytes) e h = absurd (let n : ⊥ = cc in n)
chain-punch (write.Extent p low bytes) e h = absurd (let n : ⊥ = cc in n)
chain-punch (write.PunchObject p) e h = chain-object p h
chain-punch (write.PunchDkey p) e h = chain-dkey p h
chain-punch (write.PunchAkey p) e h = chain-akey p h

-- a write that says what a cell under a path holds overlaps the path
pub touches-overlaps : (r : Read) (c : Cell) (w : Write) → is_read_in_form r ≡ true → is_write_in_form w ≡ true → leads_to (read_path r) c.path ≡ true → touches c w ≡ true
    → overlaps (read_path r) (write_path w) ≡ true
unfolding overlaps
touches-overlaps r c w f g under at = by (is_punch w) refl
  where
    by : (b : Bool) → is_punch w ≡ b → overlaps (read_path r) (write_path w) ≡ true
    by true e = prefixes-overlap (read_path r) (write_path w) c.path (chain-read r f) (chain-punch w e g) under (punch-path w c e at)
    by false e = ap (λ b. b || leads_to (write_path w) (read_path r)) (ap (leads_to (read_path r)) (update-path w c e at) ∙ under)

-- ---- the law

pub all-has : {T : Type 0} (t : T → Bool) (xs : List T) (x : T) → list_all t xs ≡ true → Has x xs → t x ≡ true
all-has t [] x h i = absurd i
all-has t (y ∷ xs) x h (inl same) = ap t same ∙ and_left (t y) (list_all t xs) h
all-has t (y ∷ xs) x h (inr i) = all-has t xs x (and_right (t y) (list_all t xs) h) i

pub served-all : ServedReadsSeeAll
unfolding map_below sees blocks_read
served-all r p vs e single forms read done free =
    answer-same r (map_below vs e) (map_of (counts_under p e) vs)
    (λ c under. maps-same (sees e) (counts_under p e) vs vs c single single (λ x about. (λ i. there x i, λ i. here c under x about i)))
  where
    there : (x : Dated) → Contains (dated_of (sees e) vs) x → Contains (dated_of (counts_under p e) vs) x
    there x i =
        let v = counted-has (sees e) vs x (has-from_contains (dated_of (sees e) vs) x i) in
        let counts : counts_under p e v.0 ≡ true = both (p v.0) (nat_lt v.0.epoch.0 e) (done v.0 (and_left v.0.done (nat_lt v.0.epoch.0 e) v.2)) (and_right v.0.done (nat_lt v.0.epoch.0 e) v.2) in
        contains-from_has (dated_of (counts_under p e) vs) x (subst (λ y. Has y (dated_of (counts_under p e) vs)) v.3 (has-counted (counts_under p e) vs v.0 v.1 counts))

    settled : (c : Cell) → leads_to (read_path r) c.path ≡ true → (v : Version) → Has v vs → touches c v.write ≡ true → nat_lt v.epoch.0 e ≡ true → (b : Bool) → v.done ≡ b → v.done ≡ true
    settled c under v i at lt true f = f
    settled c under v i at lt false f =
        clash (blocks_read (read_path r) e v)
        (both (not v.done && nat_lt v.epoch.0 e) (overlaps (read_path r) (version_path v)) (both (not v.done) (nat_lt v.epoch.0 e) (ap not f) lt)
        (touches-overlaps r c v.write read (all-has is_version_in_form vs v forms i) under at))
        (free v (contains-from_has vs v i))

    here : (c : Cell) → leads_to (read_path r) c.path ≡ true → (x : Dated) → is_about c x ≡ true → Contains (dated_of (counts_under p e) vs) x → Contains (dated_of (sees e) vs) x
    here c under x about i =
        let v = counted-has (counts_under p e) vs x (has-from_contains (dated_of (counts_under p e) vs) x i) in
        let lt = and_right (p v.0) (nat_lt v.0.epoch.0 e) v.2 in
        let seen : sees e v.0 ≡ true = both v.0.done (nat_lt v.0.epoch.0 e) (settled c under v.0 v.1 (ap (λ y. touches c y.write) v.3 ∙ about) lt v.0.done refl) lt in
        contains-from_has (dated_of (sees e) vs) x (subst (λ y. Has y (dated_of (sees e) vs)) v.3 (has-counted (sees e) vs v.0 v.1 seen))
