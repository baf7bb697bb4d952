-- What a prune leaves goes on to match the decided transactions.
use Rattle.std.specs.Prelude.{◌≡◌, ◌≢◌, ◌+◌, ◌==◌, Bool, true, false, ◌&&◌, ◌||◌, not, is_none, List, filter, Contains, refl}
use Rattle.std.specs.Option.{option_eq}
use Rattle.std.proofs.Common.{sym, ◌∙◌, ap, subst, arith, inl}
use Rattle.std.proofs.lemmas.Bool.Decides.{nat_tests}
use Rattle.base_types.specs.declared.epoch.Epoch.{Epoch}
use Rattle.base_types.specs.declared.id.ContId.{ContId}
use Rattle.base_types.specs.declared.operation.Write.{Write}
use Rattle.base_types.specs.declared.path.Path.{Path}
use Rattle.base_types.specs.declared.snapshot.Snap.{Snap}
use Rattle.base_types.specs.Keys.{same_key}
use Rattle.base_types.specs.Operations.{write_path}
use Rattle.base_types.specs.Paths.{leads_to, same_object}
use Rattle.daos_model.specs.declared.cell.Cell.{Cell}
use Rattle.daos_model.specs.declared.durable.Version.{Version}
use Rattle.daos_model.specs.BoolLaws.{and_left}
use Rattle.daos_model.specs.Cells.{value_at}
use Rattle.daos_model.specs.Changes.{pruned, with_versions}
use Rattle.daos_model.specs.Prunes.{Partly, is_going, is_old, is_punch, is_staying, touches}
use Rattle.daos_model.specs.Versions.{map_below, sees}
use Rattle.model_laws.specs.Dated.{AreSingleInOrder, Dated, dated, dated_of, is_from, map_of}
use Rattle.model_laws.specs.Matches.{Matches, counts_under}
use Rattle.model_laws.specs.MatchLaws.{counted-has, has-counted, mark-from, marks-rise}
use Rattle.model_laws.specs.Members.{Has, contains-from_has, has-filter, has-from_contains, has-from_filter}
use Rattle.model_laws.specs.PruneLaws.{going-old, old-cont, old-epoch, prunes-order, prunes-sights}
use Rattle.model_laws.specs.Pruning.{PrunesAreWhole, PrunesKeepAnswers, PrunesKeepMatches, PrunesKeepOthers, PrunesKeepWhatIsGiven}
use Rattle.model_laws.specs.ReadLaws.{answer-same_map}
use Rattle.model_laws.specs.TouchLaws.{punch-path, update-path}
use Rattle.model_laws.specs.VersionLaws.{maps-same}

pub prunes-whole : PrunesAreWhole
unfolding pruned with_versions
prunes-whole c upto n d = record {
  stays = is_staying c upto d;
  left = refl;
  planned = λ v e. gone (is_going c upto d.versions d.snaps v) e;
  punches = λ p u e punch update older under going. ap not going;
}
  where
    gone : (b : Bool) → not b ≡ false → b ≡ true
    gone true e = refl
    gone false e = absurd (let n : ⊥ = cc in n)

pub prunes-given : PrunesKeepWhatIsGiven
prunes-given c upto snaps own p vs ws opening all e form done cut sight gives k of = prunes-sights c upto snaps p vs ws e form done cut sight k ∙ gives k of

pub prunes-answers : PrunesKeepAnswers
unfolding map_below sees
prunes-answers c upto snaps vs ws r e form cut sight =
    answer-same_map r (map_below ws e) (map_below vs e) (prunes-sights c upto snaps (λ v. v.done) vs ws e form (λ v done. done) cut sight)

-- ---- which writes are left

-- where all versions of a write stay
write-left : (p stays : Version → Bool) (vs : List Version) (x : Dated) → Has x (dated_of p (filter stays vs)) → Has x (dated_of p vs)
write-left p stays vs x i =
    let v = counted-has p (filter stays vs) x i in
    subst (λ y. Has y (dated_of p vs)) v.3 (has-counted p vs v.0 (has-from_filter stays vs v.0 v.1).0 v.2)

left-write : (p stays : Version → Bool) (vs : List Version) (x : Dated) → ((v : Version) → Has v vs → dated v ≡ x → stays v ≡ true) → Has x (dated_of p vs) → Has x (dated_of p (filter stays vs))
left-write p stays vs x keeps i =
    let v = counted-has p vs x i in
    subst (λ y. Has y (dated_of p (filter stays vs))) v.3 (has-counted p (filter stays vs) v.0 (has-filter stays vs v.0 v.1 (keeps v.0 v.1 v.3)) v.2)

-- a version stays that can't go
stays-not_going : (c : ContId) (upto : Epoch) (snaps : List Snap) (vs ws : List Version) (cut : Partly vs (is_going c upto vs snaps) ws) (v : Version)
    → (is_going c upto vs snaps v ≡ true → ⊥) → cut.stays v ≡ true
stays-not_going c upto snaps vs ws cut v never = by (cut.stays v) refl
  where
    by : (b : Bool) → cut.stays v ≡ b → cut.stays v ≡ true
    by true e = e
    by false e = absurd (never (cut.planned v e))

pub prunes-matches : PrunesKeepMatches
prunes-matches c upto snaps own p vs ws opening all mark form decided done cut le m = record {
  above = λ k of x about. (
    λ i.
        (higher.above k of x about).0
        (let h = from (dated_of p ws) x i in
        into (dated_of p vs) x (write-left p cut.stays vs x (subst (λ us. Has x (dated_of p us)) cut.left h.0)) h.1),
    λ i.
        let h = from (dated_of p vs) x ((higher.above k of x about).1 i) in
        into (dated_of p ws) x
        (subst (λ us. Has x (dated_of p us)) (sym cut.left)
        (left-write p cut.stays vs x
        (λ v j same. stays-not_going c upto snaps vs ws cut v (λ going. late v x (going-old c upto vs snaps v going) same h.1)) h.0))
        h.1,
  );
  at_mark = prunes-given c upto snaps own p vs ws opening all (upto.0 + 1) form done cut (inl (omega arith)) higher.at_mark;
}
  where
    higher : Matches own p vs opening all (upto.0 + 1)
    higher = marks-rise own p vs opening all mark (upto.0 + 1) form decided m le

    from : (xs : List Dated) (x : Dated) → Contains (filter (is_from (upto.0 + 1)) xs) x → Has x xs × (is_from (upto.0 + 1) x ≡ true)
    from xs x i = has-from_filter (is_from (upto.0 + 1)) xs x (has-from_contains (filter (is_from (upto.0 + 1)) xs) x i)

    into : (xs : List Dated) (x : Dated) → Has x xs → is_from (upto.0 + 1) x ≡ true → Contains (filter (is_from (upto.0 + 1)) xs) x
    into xs x i e = contains-from_has (filter (is_from (upto.0 + 1)) xs) x (has-filter (is_from (upto.0 + 1)) xs x i e)

    late : (v : Version) (x : Dated) → is_old c upto v ≡ true → dated v ≡ x → is_from (upto.0 + 1) x ≡ true → ⊥
    late v x old same h =
        let low = old-epoch c upto v old in
        let high = mark-from (upto.0 + 1) x h in
        let at : v.epoch.0 ≡ x.epoch = ap (λ y. y.epoch) same in
        omega (arith, low, high, at)

-- ---- other containers

leads_to-cont : (p q : Path) → leads_to p q ≡ true → p.cont.0 ≡ q.cont.0
unfolding leads_to
leads_to-cont p q h =
    let one = and_left ((p.cont.0 == q.cont.0) && (is_none p.obj || option_eq same_object p.obj q.obj) && (is_none p.dkey || option_eq same_key p.dkey q.dkey)) (is_none p.akey || option_eq same_key p.akey q.akey) h in
    let two = and_left ((p.cont.0 == q.cont.0) && (is_none p.obj || option_eq same_object p.obj q.obj)) (is_none p.dkey || option_eq same_key p.dkey q.dkey) one in
    let e : (p.cont.0 == q.cont.0) ≡ true = and_left (p.cont.0 == q.cont.0) (is_none p.obj || option_eq same_object p.obj q.obj) two in
    grind (arith, nat_tests)

-- a write says what cells of its own container hold
pub touches-cont : (k : Cell) (w : Write) → touches k w ≡ true → (write_path w).cont.0 ≡ k.path.cont.0
touches-cont k w at = by (is_punch w) refl
  where
    by : (b : Bool) → is_punch w ≡ b → (write_path w).cont.0 ≡ k.path.cont.0
    by true e = leads_to-cont (write_path w) k.path (punch-path w k e at)
    by false e = ap (λ q. q.cont.0) (update-path w k e at)

-- a prune changes nothing at a cell of another container
pub prunes-elsewhere : (c : ContId) (upto : Epoch) (snaps : List Snap) (t : Version → Bool) (vs ws : List Version) (k : Cell) → AreSingleInOrder vs
    → Partly vs (is_going c upto vs snaps) ws → k.path.cont.0 ≢ c.0 → value_at (map_of t ws) k ≡ value_at (map_of t vs) k
prunes-elsewhere c upto snaps t vs ws k form cut apart =
    maps-same t t ws vs k (prunes-order vs ws (is_going c upto vs snaps) form cut) form
    (λ x about. (
      λ i. contains-from_has (dated_of t vs) x (write-left t cut.stays vs x (subst (λ us. Has x (dated_of t us)) cut.left (has-from_contains (dated_of t ws) x i))),
      λ i.
          contains-from_has (dated_of t ws) x
          (subst (λ us. Has x (dated_of t us)) (sym cut.left)
          (left-write t cut.stays vs x (λ v j same. keeps x about v same) (has-from_contains (dated_of t vs) x i))),
    ))
  where
    keeps : (x : Dated) → touches k x.write ≡ true → (v : Version) → dated v ≡ x → cut.stays v ≡ true
    keeps x about v same =
        stays-not_going c upto snaps vs ws cut v
        (λ going. apart (sym (touches-cont k v.write (ap (λ y. touches k y.write) same ∙ about)) ∙ old-cont c upto v (going-old c upto vs snaps v going)))

pub prunes-others : PrunesKeepOthers
prunes-others c upto snaps own p vs ws opening all mark form cut apart m = record {
  above = λ k of x about. (
    λ i.
        (m.above k of x about).0
        (let h = from (dated_of p ws) x i in into (dated_of p vs) x (write-left p cut.stays vs x (subst (λ us. Has x (dated_of p us)) cut.left h.0)) h.1),
    λ i.
        let h = from (dated_of p vs) x ((m.above k of x about).1 i) in
        into (dated_of p ws) x (subst (λ us. Has x (dated_of p us)) (sym cut.left) (left-write p cut.stays vs x (λ v j same. keeps k of x about v same) h.0)) h.1,
  );
  at_mark = λ k of. prunes-elsewhere c upto snaps (counts_under p mark) vs ws k form cut (apart k of) ∙ m.at_mark k of;
}
  where
    from : (xs : List Dated) (x : Dated) → Contains (filter (is_from mark) xs) x → Has x xs × (is_from mark x ≡ true)
    from xs x i = has-from_filter (is_from mark) xs x (has-from_contains (filter (is_from mark) xs) x i)

    into : (xs : List Dated) (x : Dated) → Has x xs → is_from mark x ≡ true → Contains (filter (is_from mark) xs) x
    into xs x i e = contains-from_has (filter (is_from mark) xs) x (has-filter (is_from mark) xs x i e)

    keeps : (k : Cell) → own k ≡ true → (x : Dated) → touches k x.write ≡ true → (v : Version) → dated v ≡ x → cut.stays v ≡ true
    keeps k of x about v same =
        stays-not_going c upto snaps vs ws cut v
        (λ going.
        apart k of
        (sym (touches-cont k v.write (ap (λ y. touches k y.write) same ∙ about))
        ∙ old-cont c upto v (going-old c upto vs snaps v going)))
