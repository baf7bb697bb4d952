-- Keys of moments lie to one another as the moments do.
use Rattle.std.proofs.Common.{◌≡◌, ℕ, ◌==◌, ◌&&◌, ◌||◌, nat_lt, true, false, sym, ap, ◌∙◌, arith, List, refl, [], ◌∷◌}
use Rattle.std.proofs.lemmas.Bool.Decides.{nat_tests}
use Rattle.std.specs.Ordering.{nat_cmp, ordering_then}
use Rattle.std.specs.declared.cmp.Ordering.TheVariants.{Less, Equal}
use Rattle.pmem_tree.specs.pmem_pages.Node.{key_cmp}
use Rattle.pmem_tree.specs.pmem_pages.Shape.{AllAbove, Entry, Rises, chosen}
use Rattle.pmem_tree.specs.pmem_pages.declared.node.TreeKey.{TreeKey}
use Rattle.vos_values.specs.declared.keys.Moment.{Moment}
use Rattle.vos_values.specs.Keys.{IsMoment, moment_key}
use Rattle.vos_values.proofs.KeyLaws.{moments_order}
use Rattle.vos_levels.specs.Levels.{LeadToAll, LeadsTo, Level}
use Rattle.vos_levels.specs.Moments.{AllLater, Rise, is_earlier, same_moment}

two_level : (a b x y : ℕ) → ((x == a) && (y == b)) ≡ chosen (ordering_then (nat_cmp a x) (ordering_then (nat_cmp b y) Equal)) false true false
two_level a b x y = grind (arith, nat_tests)

two_below : (a b x y : ℕ) → (nat_lt x a || ((x == a) && nat_lt y b)) ≡ chosen (ordering_then (nat_cmp a x) (ordering_then (nat_cmp b y) Equal)) false false true
two_below a b x y = grind (arith, nat_tests)

pub moment_level : (a b : Moment) → IsMoment a → IsMoment b → same_moment b a ≡ chosen (key_cmp (moment_key a) (moment_key b)) false true false
moment_level a b ha hb = two_level a.epoch.0 a.minor b.epoch.0 b.minor ∙ ap (λ o. chosen o false true false) (sym (moments_order a b ha hb))

pub moment_below : (a b : Moment) → IsMoment a → IsMoment b → is_earlier b a ≡ chosen (key_cmp (moment_key a) (moment_key b)) false false true
moment_below a b ha hb = two_below a.epoch.0 a.minor b.epoch.0 b.minor ∙ ap (λ o. chosen o false false true) (sym (moments_order a b ha hb))

two_less : (a b x y : ℕ) → ordering_then (nat_cmp a x) (ordering_then (nat_cmp b y) Equal) ≡ Less → (nat_lt a x || ((a == x) && nat_lt b y)) ≡ true
two_less a b x y h = grind (arith, nat_tests)

pub moment_earlier : (a b : Moment) → IsMoment a → IsMoment b → key_cmp (moment_key a) (moment_key b) ≡ Less → is_earlier a b ≡ true
moment_earlier a b ha hb h = two_less a.epoch.0 a.minor b.epoch.0 b.minor (sym (moments_order a b ha hb) ∙ h)

module _ {A : Type 0} (L : Level A) (moment : A → Moment) (good : (a : A) → L.Good a → IsMoment (moment a)) (key : (a : A) → L.key a ≡ moment_key (moment a)) where
  all_later : (k : TreeKey) (a : A) → L.Good a → k ≡ L.key a → (es : List Entry) (xs : List A) → LeadToAll L es xs → AllAbove k es → AllLater moment (moment a) xs
  all_later k a g is [] [] p h = tt
  all_later k a g is [] (x ∷ xs) p h = absurd p
  all_later k a g is (e ∷ es) [] p h = absurd p
  all_later k a g is (e ∷ es) (x ∷ xs) p h =
      let less : key_cmp (moment_key (moment a)) (moment_key (moment x)) ≡ Less = ap (λ z. key_cmp z (moment_key (moment x))) (sym (is ∙ key a)) ∙ (ap (key_cmp k) (sym (p.0.key ∙ key x)) ∙ h.0) in
      (moment_earlier (moment a) (moment x) (good a g) (good x p.0.good) less, all_later k a g is es xs p.1 h.1)

  -- the things of a level whose keys are moments
  pub things_rise : (es : List Entry) (xs : List A) → LeadToAll L es xs → Rises es → Rise moment xs
  things_rise [] [] p h = tt
  things_rise [] (x ∷ xs) p h = absurd p
  things_rise (e ∷ es) [] p h = absurd p
  things_rise (e ∷ es) (x ∷ xs) p h = (all_later e.key x p.0.good p.0.key es xs p.1 h.0, things_rise es xs p.1 h.1)
