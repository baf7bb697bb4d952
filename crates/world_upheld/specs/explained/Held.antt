-- Targets that hold only snapshots of which the opening keeps maps hold no more than those.
use Rattle.std.specs.Prelude.{ℕ, ◌≡◌, ◌≤◌, ◌+◌, ◌++◌, ◌==◌, ◌&&◌, ◌⊎◌, Bool, true, false, is_some, List, [], ◌∷◌, length, map, Some, refl, if◌then◌else◌}
use Rattle.std.proofs.Common.{sym, ap, subst, arith, inl, inr}
use Rattle.std.proofs.lemmas.Bool.{eqb-true}
use Rattle.base_types.specs.declared.id.ContId.{ContId}
use Rattle.daos_model.specs.Answers.{is_before}
use Rattle.daos_model.specs.BoolLaws.{and_left, and_right, clash}
use Rattle.daos_model.specs.declared.stand.SnapMap.{SnapMap}
use Rattle.daos_model.specs.Durables.{snap_key}
use Rattle.daos_model.specs.Opening.{kept_map}
use Rattle.daos_model.specs.OrderLaws.{before-itself}
use Rattle.daos_model.specs.Ordered.{all_after, is_rising}
use Rattle.model_laws.specs.Lists.{has-cut}
use Rattle.model_laws.specs.Members.{Has, contains-from_has, has-cases, has-left, has-right}
use Rattle.model_laws.specs.RisingLaws.{after-has}
use Rattle.world_upheld.specs.explained.Explanations.{KeptAreNoMore}

one-longer : {T : Type 0} (before after : List T) (x : T) → length (before ++ x ∷ after) ≡ length (before ++ after) + 1
one-longer [] after x = omega arith
one-longer (y ∷ before) after x = let k : length (before ++ x ∷ after) ≡ length (before ++ after) + 1 = one-longer before after x in omega (arith, k)

-- what rises by its keys, each of which is among others, is no longer than those
module _ {T : Type 0} (key : T → List ℕ) where
  rising-short : (xs : List T) (ks : List (List ℕ)) → is_rising key xs ≡ true → ((x : T) → Has x xs → Has (key x) ks) → length xs ≤ length ks
  rising-short [] ks rising all = omega arith
  rising-short (x ∷ xs) ks rising all =
      let low : length xs ≤ length (before ++ after) = rising-short xs (before ++ after) (and_right (all_after key (key x) xs) (is_rising key xs) rising) still in
      let long : length ks ≡ length (before ++ key x ∷ after) = ap length cut.2 in
      let one : length (before ++ key x ∷ after) ≡ length (before ++ after) + 1 = one-longer before after (key x) in
      omega (arith, low, long, one)
    where
      cut : (before : List (List ℕ)) × (after : List (List ℕ)) × (ks ≡ before ++ key x ∷ after)
      cut = has-cut ks (key x) (all x (inl refl))

      before : List (List ℕ)
      before = cut.0

      after : List (List ℕ)
      after = cut.1

      -- none of the others has its key
      apart : (y : T) → Has y xs → key y ≡ key x → ⊥
      apart y i same =
          clash (is_before (key x) (key y)) (after-has key (key x) xs y (and_left (all_after key (key x) xs) (is_rising key xs) rising) i)
          (subst (λ k. is_before (key x) k ≡ false) (sym same) (before-itself (key x)))

      still : (y : T) → Has y xs → Has (key y) (before ++ after)
      still y i = by (has-cases before (key x ∷ after) (key y) (subst (Has (key y)) cut.2 (all y (inr i))))
        where
          by : Has (key y) before ⊎ ((key y ≡ key x) ⊎ Has (key y) after) → Has (key y) (before ++ after)
          by (inl j) = has-left before after (key y) j
          by (inr (inl same)) = absurd (apart y i same)
          by (inr (inr j)) = has-right before after (key y) j

abbrev kept_key : SnapMap → List ℕ
kept_key k = k.cont.0 ∷ k.epoch.0 ∷ []

-- a snapshot of which a map is kept is among those
kept-has : (c : ContId) (e : ℕ) (ks : List SnapMap) → is_some (kept_map c e ks) ≡ true → Has (c.0 ∷ e ∷ []) (map kept_key ks)
kept-has c e [] is = let no : ⊥ = cc in absurd no
kept-has c e (k ∷ ks) is = by ((k.cont.0 == c.0) && (k.epoch.0 == e)) refl is (λ some. kept-has c e ks some)
  where
    by : (b : Bool) → ((k.cont.0 == c.0) && (k.epoch.0 == e)) ≡ b → is_some (if b then Some k.map else kept_map c e ks) ≡ true
        → (is_some (kept_map c e ks) ≡ true → Has (c.0 ∷ e ∷ []) (map kept_key ks)) → Has (c.0 ∷ e ∷ []) (kept_key k ∷ map kept_key ks)
    by true same some rest =
        let cont : k.cont.0 ≡ c.0 = eqb-true k.cont.0 c.0 (and_left (k.cont.0 == c.0) (k.epoch.0 == e) same) in
        let epoch : k.epoch.0 ≡ e = eqb-true k.epoch.0 e (and_right (k.cont.0 == c.0) (k.epoch.0 == e) same) in
        inl (cc (cont, epoch))
    by false off some rest = inr (rest some)

length-map : {T U : Type 0} (f : T → U) (xs : List T) → length (map f xs) ≡ length xs
length-map f [] = refl
length-map f (x ∷ xs) = let k : length (map f xs) ≡ length xs = length-map f xs in omega (arith, k)

pub kept-no-more : KeptAreNoMore
kept-no-more r o w B kept t s here =
    let low : length s.durable.snaps ≤ length (map kept_key o.stand.snaps) =
    rising-short snap_key s.durable.snaps (map kept_key o.stand.snaps) (B.starts t s here).keeps.form.snaps
    (λ x i. kept-has x.cont x.epoch.0 o.stand.snaps (kept t s here x (contains-from_has s.durable.snaps x i))) in
    let same : length (map kept_key o.stand.snaps) ≡ length o.stand.snaps = length-map kept_key o.stand.snaps in
    omega (arith, low, same)
