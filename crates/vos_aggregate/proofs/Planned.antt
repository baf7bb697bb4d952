-- Marks that are planned from a place on: one version more.
use Rattle.std.proofs.Common.{◌≡◌, ℕ, zero, suc, ◌<◌, Bool, true, false, ◌&&◌, ◌||◌, not, List, [], ◌∷◌, length, get_or, set, map, refl, sym, ◌∙◌, ap, arith}
use Rattle.std.specs.List.{list_any}
use Rattle.base_types.specs.declared.epoch.Epoch.{Epoch}
use Rattle.base_types.specs.declared.id.ContId.{ContId}
use Rattle.base_types.specs.declared.operation.Write.{Write}
use Rattle.base_types.specs.declared.operation.Write.TheVariants.{Single, Extent, PunchObject, PunchDkey, PunchAkey}
use Rattle.base_types.specs.declared.path.Level.{Level}
use Rattle.base_types.specs.declared.path.Level.TheVariants.{Obj, Dkey, Akey}
use Rattle.base_types.specs.declared.path.Path.{Path}
use Rattle.base_types.specs.Operations.{write_path}
use Rattle.base_types.specs.Paths.{leads_to}
use Rattle.daos_model.specs.declared.durable.Version.{Version}
use Rattle.daos_model.specs.Answers.{is_before}
use Rattle.daos_model.specs.BoolLaws.{and_left, and_right}
use Rattle.daos_model.specs.Durables.{version_key}
use Rattle.daos_model.specs.OrderLaws.{before-asym}
use Rattle.daos_model.specs.Ordered.{all_after, is_rising}
use Rattle.daos_model.specs.Prunes.{is_old, is_punch}
use Rattle.daos_model.specs.Versions.{version_path}
use Rattle.vos_aggregate.specs.Sparing.{goes_by, is_over, marks_from, needs, spared}

-- ---- tests

none-of : (u o p n a : Bool) → u ≡ false → p ≡ true → n ≡ false → a ≡ false → (u || (o && p && not (n || a))) ≡ o
none-of false true true false false e f g h = refl
none-of false false true false false e f g h = refl
none-of true o p n a e f g h = absurd (let k : ⊥ = cc in k)
none-of false o false n a e f g h = absurd (let k : ⊥ = cc in k)
none-of false o true true a e f g h = absurd (let k : ⊥ = cc in k)
none-of false o true false true e f g h = absurd (let k : ⊥ = cc in k)

only-first : (u o p n : Bool) → p ≡ false → (u || (o && p && not n)) ≡ u
only-first true o p n e = refl
only-first false o true n e = absurd (let k : ⊥ = cc in k)
only-first false true false n e = refl
only-first false false false n e = refl

only-leads : (p b l u : Bool) → p ≡ false → b ≡ false → u ≡ false → (not p && not b && l && not u) ≡ l
only-leads false false true false e f g = refl
only-leads false false false false e f g = refl
only-leads true b l u e f g = absurd (let k : ⊥ = cc in k)
only-leads false true l u e f g = absurd (let k : ⊥ = cc in k)
only-leads false false l true e f g = absurd (let k : ⊥ = cc in k)

no-last : (x u : Bool) → u ≡ true → (x && not u) ≡ false
no-last true true e = refl
no-last false true e = refl
no-last x false e = absurd (let k : ⊥ = cc in k)

no-second : (a b x y : Bool) → b ≡ true → (a && not b && x && y) ≡ false
no-second true true x y e = refl
no-second false true x y e = refl
no-second a false x y e = absurd (let k : ⊥ = cc in k)

take-out : (u o p l a : Bool) → u ≡ false → p ≡ true → ((u || (o && p && not a)) && not l) ≡ (u || (o && p && not (l || a)))
take-out false true true true true e f = refl
take-out false true true true false e f = refl
take-out false true true false true e f = refl
take-out false true true false false e f = refl
take-out false false true l a e f = refl
take-out true o p l a e f = absurd (let k : ⊥ = cc in k)
take-out false o false l a e f = absurd (let k : ⊥ = cc in k)

and-true : (x : Bool) → (x && true) ≡ x
and-true true = refl
and-true false = refl

-- ---- punches of all levels

over-punch : (w : Write) (q : Path) (x : Bool) → is_punch w ≡ true → (x && not (is_over Obj q w) && not (is_over Dkey q w) && not (is_over Akey q w)) ≡ (x && not (leads_to (write_path w) q))
over-punch (Single p bytes) q x h = absurd (let k : ⊥ = cc in k)
over-punch (Extent p low bytes) q x h = absurd (let k : ⊥ = cc in k)
over-punch (PunchObject p) q x h = and-true (x && not (leads_to p q) && true) ∙ and-true (x && not (leads_to p q))
over-punch (PunchDkey p) q x h = and-true (x && true && not (leads_to p q)) ∙ ap (λ b. b && not (leads_to p q)) (and-true x)
over-punch (PunchAkey p) q x h = ap (λ b. b && not (leads_to p q)) (and-true (x && true) ∙ and-true x)

over-update : (w : Write) (q : Path) (x : Bool) → is_punch w ≡ false → (x && not (is_over Obj q w) && not (is_over Dkey q w) && not (is_over Akey q w)) ≡ x
over-update (Single p bytes) q x h = and-true (x && true && true) ∙ and-true (x && true) ∙ and-true x
over-update (Extent p low bytes) q x h = and-true (x && true && true) ∙ and-true (x && true) ∙ and-true x
over-update (PunchObject p) q x h = absurd (let k : ⊥ = cc in k)
over-update (PunchDkey p) q x h = absurd (let k : ⊥ = cc in k)
over-update (PunchAkey p) q x h = absurd (let k : ⊥ = cc in k)

spared-map : (l : Level) (q : Path) (f : Version → Bool) (ws : List Version) → spared l q (map f ws) ws ≡ map (λ w. f w && not (is_over l q w.write)) ws
spared-map l q f [] = refl
spared-map l q f (w ∷ ws) = ap (λ xs. (f w && not (is_over l q w.write)) ∷ xs) (spared-map l q f ws)

-- `unseen` tells which updates go, and no punch
module _ (unseen : Version → Bool) (c : ContId) (upto : Epoch) (calm : (w : Version) → is_punch w.write ≡ true → unseen w ≡ false) where
  -- ---- one version at the front, and those after it
  module _ (v : Version) where
    map-after : (f g : Version → Bool) → ((w : Version) → is_before (version_key v) (version_key w) ≡ true → f w ≡ g w) → (ws : List Version) → all_after version_key (version_key v) ws ≡ true → map f ws ≡ map g ws
    map-after f g same [] h = refl
    map-after f g same (w ∷ ws) h =
        ap (λ x. x ∷ map f ws) (same w (and_left (is_before (version_key v) (version_key w)) (all_after version_key (version_key v) ws) h))
        ∙ ap (λ xs. g w ∷ xs) (map-after f g same ws (and_right (is_before (version_key v) (version_key w)) (all_after version_key (version_key v) ws) h))

    -- a version needs no punch before it
    none-needed : (ws : List Version) → all_after version_key (version_key v) ws ≡ true → list_any (needs unseen v) ws ≡ false
    unfolding needs
    none-needed [] h = refl
    none-needed (w ∷ ws) h =
        let after : is_before (version_key v) (version_key w) ≡ true = and_left (is_before (version_key v) (version_key w)) (all_after version_key (version_key v) ws) h in
        ap (λ x. x || list_any (needs unseen v) ws) (no-second (not (is_punch w.write)) (is_before (version_key v) (version_key w)) (leads_to (version_path v) (version_path w)) (not (unseen w)) after)
        ∙ none-needed ws (and_right (is_before (version_key v) (version_key w)) (all_after version_key (version_key v) ws) h)

    punch-needs_none : (w : Version) → is_punch v.write ≡ true → needs unseen w v ≡ false
    unfolding needs
    punch-needs_none w h = ap (λ b. not b && not (is_before (version_key w) (version_key v)) && leads_to (version_path w) (version_path v) && not (unseen v)) h

    gone-needs_none : (w : Version) → unseen v ≡ true → needs unseen w v ≡ false
    unfolding needs
    gone-needs_none w h = no-last (not (is_punch v.write) && not (is_before (version_key w) (version_key v)) && leads_to (version_path w) (version_path v)) (unseen v) h

    staying-needs : (w : Version) → is_punch v.write ≡ false → unseen v ≡ false → is_before (version_key v) (version_key w) ≡ true → needs unseen w v ≡ leads_to (version_path w) (version_path v)
    unfolding needs
    staying-needs w update stays after =
        only-leads (is_punch v.write) (is_before (version_key w) (version_key v)) (leads_to (version_path w) (version_path v)) (unseen v) update (before-asym (version_key v) (version_key w) after) stays

    punch-here : is_punch v.write ≡ true → (us : List Version) → all_after version_key (version_key v) us ≡ true → is_old c upto v ≡ goes_by unseen c upto (v ∷ us) v
    unfolding goes_by
    punch-here punch us after =
        sym (none-of (unseen v) (is_old c upto v) (is_punch v.write) (needs unseen v v) (list_any (needs unseen v) us) (calm v punch) punch (punch-needs_none v punch) (none-needed us after))

    update-here : is_punch v.write ≡ false → (us : List Version) → unseen v ≡ goes_by unseen c upto us v
    unfolding goes_by
    update-here update us = sym (only-first (unseen v) (is_old c upto v) (is_punch v.write) (list_any (needs unseen v) us) update)

    -- a punch, or an update that goes, is no reason for a punch after it to stay
    idle-here : (us : List Version) (w : Version) → needs unseen w v ≡ false → goes_by unseen c upto us w ≡ goes_by unseen c upto (v ∷ us) w
    unfolding goes_by
    idle-here us w e = ap (λ x. unseen w || (is_old c upto w && is_punch w.write && not (x || list_any (needs unseen w) us))) (sym e)

    -- an update that stays is one where it leads there
    staying-here : is_punch v.write ≡ false → unseen v ≡ false → (us : List Version) (w : Version) → is_before (version_key v) (version_key w) ≡ true
        → (goes_by unseen c upto us w && not (is_over Obj (version_path v) w.write) && not (is_over Dkey (version_path v) w.write) && not (is_over Akey (version_path v) w.write)) ≡ goes_by unseen c upto (v ∷ us) w
    unfolding goes_by
    staying-here update stays us w after = by (is_punch w.write) refl
      where
        by : (p : Bool) → is_punch w.write ≡ p
            → (goes_by unseen c upto us w && not (is_over Obj (version_path v) w.write) && not (is_over Dkey (version_path v) w.write) && not (is_over Akey (version_path v) w.write)) ≡ goes_by unseen c upto (v ∷ us) w
        by true e =
            over-punch w.write (version_path v) (goes_by unseen c upto us w) e
            ∙ take-out (unseen w) (is_old c upto w) (is_punch w.write) (leads_to (version_path w) (version_path v)) (list_any (needs unseen w) us) (calm w e) e
            ∙ ap (λ x. unseen w || (is_old c upto w && is_punch w.write && not (x || list_any (needs unseen w) us))) (sym (staying-needs w update stays after))
        by false e =
            over-update w.write (version_path v) (goes_by unseen c upto us w) e
            ∙ only-first (unseen w) (is_old c upto w) (is_punch w.write) (list_any (needs unseen w) us) e
            ∙ sym (only-first (unseen w) (is_old c upto w) (is_punch w.write) (list_any (needs unseen w) (v ∷ us)) e)

    -- the marks at the front
    punch-front : is_punch v.write ≡ true → (us : List Version) → all_after version_key (version_key v) us ≡ true → is_old c upto v ∷ map (goes_by unseen c upto us) us ≡ map (goes_by unseen c upto (v ∷ us)) (v ∷ us)
    punch-front punch us after =
        ap (λ x. x ∷ map (goes_by unseen c upto us) us) (punch-here punch us after)
        ∙ ap (λ xs. goes_by unseen c upto (v ∷ us) v ∷ xs) (map-after (goes_by unseen c upto us) (goes_by unseen c upto (v ∷ us)) (λ w h. idle-here us w (punch-needs_none w punch)) us after)

    goes-front : is_punch v.write ≡ false → unseen v ≡ true → (us : List Version) → all_after version_key (version_key v) us ≡ true → unseen v ∷ map (goes_by unseen c upto us) us ≡ map (goes_by unseen c upto (v ∷ us)) (v ∷ us)
    goes-front update goes us after =
        ap (λ x. x ∷ map (goes_by unseen c upto us) us) (update-here update (v ∷ us))
        ∙ ap (λ xs. goes_by unseen c upto (v ∷ us) v ∷ xs) (map-after (goes_by unseen c upto us) (goes_by unseen c upto (v ∷ us)) (λ w h. idle-here us w (gone-needs_none w goes)) us after)

    spared-all : (f : Version → Bool) (ws : List Version) → spared Akey (version_path v) (spared Dkey (version_path v) (spared Obj (version_path v) (map f ws) ws) ws) ws
        ≡ map (λ w. f w && not (is_over Obj (version_path v) w.write) && not (is_over Dkey (version_path v) w.write) && not (is_over Akey (version_path v) w.write)) ws
    spared-all f ws =
        ap (λ xs. spared Akey (version_path v) (spared Dkey (version_path v) xs ws) ws) (spared-map Obj (version_path v) f ws)
        ∙ ap (λ xs. spared Akey (version_path v) xs ws) (spared-map Dkey (version_path v) (λ w. f w && not (is_over Obj (version_path v) w.write)) ws)
        ∙ spared-map Akey (version_path v) (λ w. f w && not (is_over Obj (version_path v) w.write) && not (is_over Dkey (version_path v) w.write)) ws

    stays-front : is_punch v.write ≡ false → unseen v ≡ false → (us : List Version) → all_after version_key (version_key v) us ≡ true
        → unseen v ∷ spared Akey (version_path v) (spared Dkey (version_path v) (spared Obj (version_path v) (map (goes_by unseen c upto us) us) us) us) us ≡ map (goes_by unseen c upto (v ∷ us)) (v ∷ us)
    stays-front update stays us after =
        ap (λ x. x ∷ spared Akey (version_path v) (spared Dkey (version_path v) (spared Obj (version_path v) (map (goes_by unseen c upto us) us) us) us) us) (update-here update (v ∷ us))
        ∙ ap (λ xs. goes_by unseen c upto (v ∷ us) v ∷ xs)
        (spared-all (goes_by unseen c upto us) us
        ∙ map-after (λ w. goes_by unseen c upto us w && not (is_over Obj (version_path v) w.write) && not (is_over Dkey (version_path v) w.write) && not (is_over Akey (version_path v) w.write))
        (goes_by unseen c upto (v ∷ us)) (λ w h. staying-here update stays us w h) us after)

  -- ---- at a place
  after-front : (u : Version) (us : List Version) → is_rising version_key (u ∷ us) ≡ true → all_after version_key (version_key u) us ≡ true
  after-front u us h = and_left (all_after version_key (version_key u) us) (is_rising version_key us) h

  rising-rest : (u : Version) (us : List Version) → is_rising version_key (u ∷ us) ≡ true → is_rising version_key us ≡ true
  rising-rest u us h = and_right (all_after version_key (version_key u) us) (is_rising version_key us) h

  pub punch-at : (v : Version) → is_punch v.write ≡ true → (vs : List Version) (at : ℕ) → at < length vs → get_or vs at v ≡ v → is_rising version_key vs ≡ true
      → set (marks_from unseen c upto (suc at) vs) at (is_old c upto v) ≡ marks_from unseen c upto at vs
  punch-at v punch [] at lt is h = absurd (omega arith)
  punch-at v punch (u ∷ us) zero lt is h =
      ap (λ x. is_old c upto x ∷ map (goes_by unseen c upto us) us) (sym is) ∙ punch-front u (ap (λ (x : Version). is_punch x.write) is ∙ punch) us (after-front u us h)
  punch-at v punch (u ∷ us) (suc at) lt is h = ap (λ xs. false ∷ xs) (punch-at v punch us at (omega arith) is (rising-rest u us h))

  pub goes-at : (v : Version) → is_punch v.write ≡ false → unseen v ≡ true → (vs : List Version) (at : ℕ) → at < length vs → get_or vs at v ≡ v → is_rising version_key vs ≡ true
      → set (marks_from unseen c upto (suc at) vs) at (unseen v) ≡ marks_from unseen c upto at vs
  goes-at v update goes [] at lt is h = absurd (omega arith)
  goes-at v update goes (u ∷ us) zero lt is h =
      ap (λ x. unseen x ∷ map (goes_by unseen c upto us) us) (sym is) ∙ goes-front u (ap (λ (x : Version). is_punch x.write) is ∙ update) (ap unseen is ∙ goes) us (after-front u us h)
  goes-at v update goes (u ∷ us) (suc at) lt is h = ap (λ xs. false ∷ xs) (goes-at v update goes us at (omega arith) is (rising-rest u us h))

  pub stays-at : (v : Version) → is_punch v.write ≡ false → unseen v ≡ false → (vs : List Version) (at : ℕ) → at < length vs → get_or vs at v ≡ v → is_rising version_key vs ≡ true
      → set (spared Akey (version_path v) (spared Dkey (version_path v) (spared Obj (version_path v) (marks_from unseen c upto (suc at) vs) vs) vs) vs) at (unseen v) ≡ marks_from unseen c upto at vs
  stays-at v update stays [] at lt is h = absurd (omega arith)
  stays-at v update stays (u ∷ us) zero lt is h =
      ap (λ (x : Version). unseen x ∷ spared Akey (version_path x) (spared Dkey (version_path x) (spared Obj (version_path x) (map (goes_by unseen c upto us) us) us) us) us) (sym is)
      ∙ stays-front u (ap (λ (x : Version). is_punch x.write) is ∙ update) (ap unseen is ∙ stays) us (after-front u us h)
  stays-at v update stays (u ∷ us) (suc at) lt is h = ap (λ xs. false ∷ xs) (stays-at v update stays us at (omega arith) is (rising-rest u us h))
