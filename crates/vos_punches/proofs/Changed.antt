-- The punches of versions where the versions change.
use Rattle.std.proofs.Common.{◌≡◌, ◌&&◌, ◌||◌, not, Bool, true, false, List, [], ◌∷◌, ◌++◌, map, refl, sym, ap, ◌∙◌, subst}
use Rattle.std.specs.Prelude.{All, filter, if◌then◌else◌}
use Rattle.std.specs.List.{list_any}
use Rattle.std.proofs.lemmas.List.Elements.{All-head, All-tail}
use Rattle.base_types.specs.declared.id.AttemptId.{AttemptId}
use Rattle.base_types.specs.declared.path.Path.{Path}
use Rattle.base_types.specs.PathLaws.{same_path-Decides}
use Rattle.base_types.specs.Paths.{same_path}
use Rattle.daos_model.specs.declared.durable.Version.{Version}
use Rattle.daos_model.specs.Prunes.{is_punch}
use Rattle.daos_model.specs.Versions.{done_by, version_path}
use Rattle.vos_levels.specs.vos_values.declared.keys.Moment.{Moment}
use Rattle.vos_levels.specs.Levels.{HasMore, map_those, without_those}
use Rattle.vos_levels.specs.Moments.{same_moment}
use Rattle.vos_punches.specs.Moments.{AreInOrder, has_moment, with_moment, without_moment}
use Rattle.vos_punches.specs.Punches.{ArePunchesOf, IsAdded, IsRemoved, PunchesAt, is_punch_of, made_done, moment_of}
use Rattle.vos_punches.proofs.Order.{has_with, has_without, order_with, order_without, same_equal}

clash : {X : Type 0} (b : Bool) → b ≡ true → b ≡ false → X
clash true h k = absurd (let n : ⊥ = cc in n)
clash false h k = absurd (let n : ⊥ = cc in n)

-- ---- one more

any_more : (t : Version → Bool) (v : Version) (left right : List Version) → list_any t (left ++ v ∷ right) ≡ (t v || list_any t (left ++ right))
any_more t v [] right = refl
any_more t v (x ∷ left) right = ap (λ b. t x || b) (any_more t v left right) ∙ turn (t x) (t v) (list_any t (left ++ right))
  where
    turn : (a b c : Bool) → (a || (b || c)) ≡ (b || (a || c))
    turn true true c = refl
    turn true false c = refl
    turn false b c = refl

has_more : (t : Version → Bool) (v : Version) (vs ws : List Version) → HasMore v vs ws → list_any t ws ≡ (t v || list_any t vs)
has_more t v vs ws h = ap (list_any t) h.after_is ∙ (any_more t v h.left h.right ∙ ap (λ z. t v || list_any t z) (sym h.before_is))

pub added_update : (v : Version) (vs ws : List Version) (f : PunchesAt) → HasMore v vs ws → is_punch v.write ≡ false → ArePunchesOf vs f → ArePunchesOf ws f
added_update v vs ws f h u a = record {
  order = a.order;
  exact = λ p m. a.exact p m ∙ sym (has_more (is_punch_of p m) v vs ws h ∙ ap (λ (b : Bool). (b && (same_path (version_path v) p && same_moment (moment_of v) m)) || list_any (is_punch_of p m) vs) u);
}

pub added_punch : (v : Version) (vs ws : List Version) (f g : PunchesAt) → HasMore v vs ws → is_punch v.write ≡ true → ArePunchesOf vs f → IsAdded f g (version_path v) (moment_of v) → ArePunchesOf ws g
added_punch v vs ws f g h u a i = record {
  order = λ p. subst AreInOrder (sym (i p)) (order p (same_path (version_path v) p));
  exact = λ p m.
      ap (has_moment m) (i p)
      ∙ (by p m (same_path (version_path v) p)
      ∙ (ap (λ b. ((same_path (version_path v) p && same_moment (moment_of v) m)) || b) (a.exact p m)
      ∙ sym (has_more (is_punch_of p m) v vs ws h ∙ ap (λ (b : Bool). (b && (same_path (version_path v) p && same_moment (moment_of v) m)) || list_any (is_punch_of p m) vs) u)));
}
  where
    order : (p : Path) (b : Bool) → AreInOrder (if b then with_moment (moment_of v) (f p) else f p)
    order p true = order_with (moment_of v) (f p) (a.order p)
    order p false = a.order p

    by : (p : Path) (m : Moment) (b : Bool) → has_moment m (if b then with_moment (moment_of v) (f p) else f p) ≡ ((b && same_moment (moment_of v) m) || has_moment m (f p))
    by p m true = has_with (moment_of v) m (f p)
    by p m false = refl

-- ---- done

any_mapped : (t : Version → Bool) (f : Version → Version) (vs : List Version) → ((v : Version) → t (f v) ≡ t v) → list_any t (map f vs) ≡ list_any t vs
any_mapped t f [] h = refl
any_mapped t f (v ∷ vs) h = ap (λ b. b || list_any t (map f vs)) (h v) ∙ ap (λ b. t v || b) (any_mapped t f vs h)

any_those : (t test : Version → Bool) (f : Version → Version) (vs : List Version) → ((v : Version) → t (f v) ≡ t v) → list_any t (map_those test f vs) ≡ list_any t vs
any_those t test f [] h = refl
any_those t test f (v ∷ vs) h = ap (λ b. t (if test v then f v else v) || b) (any_those t test f vs h) ∙ ap (λ b. b || list_any t vs) (by (test v))
  where
    by : (b : Bool) → t (if b then f v else v) ≡ t v
    by true = h v
    by false = refl

pub committed : (at : AttemptId) (vs : List Version) (f : PunchesAt) → ArePunchesOf vs f → ArePunchesOf (map (done_by at) vs) f
unfolding done_by
committed at vs f a = record { order = a.order; exact = λ p m. a.exact p m ∙ sym (any_mapped (is_punch_of p m) (done_by at) vs (λ v. refl)) }

pub committed_those : (test : Version → Bool) (vs : List Version) (f : PunchesAt) → ArePunchesOf vs f → ArePunchesOf (map_those test made_done vs) f
committed_those test vs f a = record { order = a.order; exact = λ p m. a.exact p m ∙ sym (any_those (is_punch_of p m) test made_done vs (λ v. refl)) }

-- ---- gone

no_punch : (p : Path) (m : Moment) (v : Version) → is_punch v.write ≡ false → is_punch_of p m v ≡ false
no_punch p m v h = ap (λ (b : Bool). b && (same_path (version_path v) p && same_moment (moment_of v) m)) h

silent : (p : Path) (m : Moment) (v : Version) → (is_punch v.write ≡ true → ⊥) → is_punch_of p m v ≡ false
silent p m v n = by (is_punch v.write) refl
  where
    by : (b : Bool) → is_punch v.write ≡ b → is_punch_of p m v ≡ false
    by true e = absurd (n e)
    by false e = no_punch p m v e

any_without : (p : Path) (m : Moment) (goes : Version → Bool) (vs : List Version) → All (λ v. is_punch v.write ≡ true → goes v ≡ false) vs → list_any (is_punch_of p m) (without_those goes vs) ≡ list_any (is_punch_of p m) vs
any_without p m goes [] h = refl
any_without p m goes (v ∷ vs) h = by (goes v) refl (any_without p m goes vs (All-tail (λ v. is_punch v.write ≡ true → goes v ≡ false) v vs h))
  where
    by : (b : Bool) → goes v ≡ b → list_any (is_punch_of p m) (without_those goes vs) ≡ list_any (is_punch_of p m) vs
        → list_any (is_punch_of p m) (if b then without_those goes vs else v ∷ without_those goes vs) ≡ (is_punch_of p m v || list_any (is_punch_of p m) vs)
    by true e r = r ∙ ap (λ b. b || list_any (is_punch_of p m) vs) (sym (silent p m v (λ k. clash (goes v) e (All-head (λ v. is_punch v.write ≡ true → goes v ≡ false) v vs h k))))
    by false e r = ap (λ b. is_punch_of p m v || b) r

pub removed_updates : (goes : Version → Bool) (vs : List Version) (f : PunchesAt) → All (λ v. is_punch v.write ≡ true → goes v ≡ false) vs → ArePunchesOf vs f → ArePunchesOf (without_those goes vs) f
removed_updates goes vs f h a = record { order = a.order; exact = λ p m. a.exact p m ∙ sym (any_without p m goes vs h) }

any_filtered : (p : Path) (m : Moment) (stays : Version → Bool) (vs : List Version) → All (λ v. is_punch v.write ≡ true → stays v ≡ true) vs → list_any (is_punch_of p m) (filter stays vs) ≡ list_any (is_punch_of p m) vs
any_filtered p m stays [] h = refl
any_filtered p m stays (v ∷ vs) h = by (stays v) refl (any_filtered p m stays vs (All-tail (λ v. is_punch v.write ≡ true → stays v ≡ true) v vs h))
  where
    by : (b : Bool) → stays v ≡ b → list_any (is_punch_of p m) (filter stays vs) ≡ list_any (is_punch_of p m) vs
        → list_any (is_punch_of p m) (if b then v ∷ filter stays vs else filter stays vs) ≡ (is_punch_of p m v || list_any (is_punch_of p m) vs)
    by false e r = r ∙ ap (λ b. b || list_any (is_punch_of p m) vs) (sym (silent p m v (λ k. clash (stays v) (All-head (λ v. is_punch v.write ≡ true → stays v ≡ true) v vs h k) e)))
    by true e r = ap (λ b. is_punch_of p m v || b) r

pub filtered_updates : (stays : Version → Bool) (vs : List Version) (f : PunchesAt) → All (λ v. is_punch v.write ≡ true → stays v ≡ true) vs → ArePunchesOf vs f → ArePunchesOf (filter stays vs) f
filtered_updates stays vs f h a = record { order = a.order; exact = λ p m. a.exact p m ∙ sym (any_filtered p m stays vs h) }

-- of the punches of a path those of one moment went
pub any_gone : (p q : Path) (m n : Moment) (goes : Version → Bool) (vs : List Version) → All (λ v. goes v ≡ is_punch_of p m v) vs
    → ((v : Version) → is_punch_of p m v ≡ true → is_punch_of q n v ≡ (same_path p q && same_moment m n))
    → ((v : Version) → is_punch_of p m v ≡ false → (same_path p q && same_moment m n) ≡ true → is_punch_of q n v ≡ false)
    → list_any (is_punch_of q n) (without_those goes vs) ≡ (not (same_path p q && same_moment m n) && list_any (is_punch_of q n) vs)
any_gone p q m n goes [] h k l = none (same_path p q && same_moment m n)
  where
    none : (b : Bool) → false ≡ (not b && false)
    none true = refl
    none false = refl
any_gone p q m n goes (v ∷ vs) h k l = by (goes v) (same_path p q && same_moment m n) refl refl (any_gone p q m n goes vs (All-tail (λ v. goes v ≡ is_punch_of p m v) v vs h) k l)
  where
    is : is_punch_of p m v ≡ goes v
    is = sym (All-head (λ v. goes v ≡ is_punch_of p m v) v vs h)

    by : (b c : Bool) → goes v ≡ b → (same_path p q && same_moment m n) ≡ c → list_any (is_punch_of q n) (without_those goes vs) ≡ (not (same_path p q && same_moment m n) && list_any (is_punch_of q n) vs)
        → list_any (is_punch_of q n) (if b then without_those goes vs else v ∷ without_those goes vs) ≡ (not c && (is_punch_of q n v || list_any (is_punch_of q n) vs))
    by true true e d r = r ∙ ap (λ (z : Bool). not z && list_any (is_punch_of q n) vs) d
    by true false e d r =
        r ∙ (ap (λ (z : Bool). not z && list_any (is_punch_of q n) vs) d
        ∙ ap (λ z. z || list_any (is_punch_of q n) vs) (sym (k v (is ∙ e) ∙ d)))
    by false true e d r =
        ap (λ z. z || list_any (is_punch_of q n) (without_those goes vs)) (l v (is ∙ e) d)
        ∙ (r ∙ ap (λ (z : Bool). not z && list_any (is_punch_of q n) vs) d)
    by false false e d r = ap (λ z. is_punch_of q n v || z) (r ∙ ap (λ (z : Bool). not z && list_any (is_punch_of q n) vs) d)

and_left : (a b : Bool) → (a && b) ≡ true → a ≡ true
and_left true b h = refl
and_left false b h = absurd (let n : ⊥ = cc in n)

and_right : (a b : Bool) → (a && b) ≡ true → b ≡ true
and_right true b h = h
and_right false b h = absurd (let n : ⊥ = cc in n)

of_same : (p q : Path) (m n : Moment) (v : Version) → is_punch_of p m v ≡ true → is_punch_of q n v ≡ (same_path p q && same_moment m n)
of_same p q m n v h =
    let two = and_right (is_punch v.write) (same_path (version_path v) p && same_moment (moment_of v) m) h in
    let path = (same_path-Decides (version_path v) p).0 (and_left (same_path (version_path v) p) (same_moment (moment_of v) m) two) in
    let moment = same_equal (moment_of v) m (and_right (same_path (version_path v) p) (same_moment (moment_of v) m) two) in
    ap (λ (b : Bool). b && (same_path (version_path v) q && same_moment (moment_of v) n)) (and_left (is_punch v.write) (same_path (version_path v) p && same_moment (moment_of v) m) h)
    ∙ (ap (λ z. same_path z q && same_moment (moment_of v) n) path ∙ ap (λ z. same_path p q && same_moment z n) moment)

of_other : (p q : Path) (m n : Moment) (v : Version) → is_punch_of p m v ≡ false → (same_path p q && same_moment m n) ≡ true → is_punch_of q n v ≡ false
of_other p q m n v h k =
    let path = (same_path-Decides p q).0 (and_left (same_path p q) (same_moment m n) k) in
    let moment = same_equal m n (and_right (same_path p q) (same_moment m n) k) in
    ap (λ z. is_punch_of z n v) (sym path) ∙ (ap (λ z. is_punch_of p z v) (sym moment) ∙ h)

pub removed_punch : (goes : Version → Bool) (p : Path) (m : Moment) (vs : List Version) (f g : PunchesAt) → All (λ v. goes v ≡ is_punch_of p m v) vs → ArePunchesOf vs f → IsRemoved f g p m → ArePunchesOf (without_those goes vs) g
removed_punch goes p m vs f g h a i = record {
  order = λ q. subst AreInOrder (sym (i q)) (order q (same_path p q));
  exact = λ q n.
      ap (has_moment n) (i q)
      ∙ (by q n (same_path p q)
      ∙ (ap (λ b. not (same_path p q && same_moment m n) && b) (a.exact q n)
      ∙ sym (any_gone p q m n goes vs h (of_same p q m n) (of_other p q m n))));
}
  where
    order : (q : Path) (b : Bool) → AreInOrder (if b then without_moment m (f q) else f q)
    order q true = order_without m (f q) (a.order q)
    order q false = a.order q

    by : (q : Path) (n : Moment) (b : Bool) → has_moment n (if b then without_moment m (f q) else f q) ≡ (not (b && same_moment m n) && has_moment n (f q))
    by q n true = has_without m n (f q)
    by q n false = refl
