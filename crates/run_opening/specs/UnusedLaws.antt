-- Targets that were never used are sound, and stand for nothing.
use Rattle.std.specs.Prelude.{ℕ, suc, ◌≡◌, ◌+◌, ◌++◌, max, Bool, true, List, [], ◌∷◌, All, filter, length, map, refl}
use Rattle.std.proofs.Common.{sym, ◌∙◌, ap, subst, arith}
use Rattle.std.proofs.lemmas.List.Elements.{All-nil}
use Rattle.base_types.specs.declared.id.ContId.{ContId}
use Rattle.base_types.specs.declared.script.Script.{Script}
use Rattle.daos_model.specs.declared.durable.Durable.{Durable}
use Rattle.daos_model.specs.declared.durable.Version.{Version}
use Rattle.daos_model.specs.AsOf.{empty_stand}
use Rattle.daos_model.specs.Cells.{value_at}
use Rattle.daos_model.specs.Changes.{enlisted}
use Rattle.daos_model.specs.Durables.{empty_durable, is_frozen}
use Rattle.daos_model.specs.Family.{AgreeOn, counts, counts_at, created_snaps, greatest_lease, is_created, is_led_by, joined, map_where, snap_map, stand}
use Rattle.daos_model.specs.Opening.{kept}
use Rattle.daos_model.specs.Sound.{IsSoundAt, SayTheSame}
use Rattle.run_opening.specs.Laws.{AreUnused, UnusedAreSound, UnusedOpenAsTheyAre, UnusedStandForNothing}
use Rattle.run_opening.specs.Opened.{enlisted_family, opened}

-- those behind the first are unused too
rest : (d : Durable) (F : List Durable) → AreUnused (d ∷ F) → AreUnused F
rest d F unused t e at = unused (suc t) e at

no_versions : (p : Version → Bool) (d : Durable) → (n : ℕ) × (d ≡ empty_durable n) → map_where p d ≡ []
no_versions p d u = ap (map_where p) u.1

none-created : (F : List Durable) → AreUnused F → created_snaps F ≡ []
none-created [] unused = refl
none-created (d ∷ F) unused = ap (λ y. filter is_created y.snaps) (unused 0 d refl).1

agree-unused : (F : List Durable) (p : Version → Bool) → AreUnused F → AgreeOn F p
agree-unused F p unused c t u d e dkey i j at bt = ap (λ m. value_at m c) (no_versions p d (unused t d at) ∙ sym (no_versions p e (unused u e bt)))

sound-empty : (F : List Durable) (t n : ℕ) → created_snaps F ≡ [] → IsSoundAt F t (empty_durable n)
sound-empty F t n none = record {
  covered = record { versions = All-nil _; entries = All-nil _; floors = All-nil _; aggregated = All-nil _; snaps = All-nil _ };
  holds = All-nil _;
  unsettled = All-nil _;
  placed = All-nil _;
  single = λ i j v lt short. absurd (omega arith);
  frozen = subst (All (λ x. is_frozen (empty_durable n) x.cont x.epoch ≡ true)) (sym none) (All-nil _);
}

pub unused-sound : UnusedAreSound
unused-sound F unused = record {
  agree = record {
    now = agree-unused F (counts F) unused;
    snaps = subst (All (λ x. AgreeOn F (counts_at F x))) (sym (none-created F unused)) (All-nil _);
  };
  targets = λ t d at. let e = unused t d at in subst (IsSoundAt F t) (sym e.1) (sound-empty F t e.0 (none-created F unused));
  entries = λ t u d f at bt. subst (λ y. All (λ e. All (λ g. e.attempt ≡ g.attempt → SayTheSame e g) f.entries) y.entries) (sym (unused t d at).1) (All-nil _);
}

-- ---- the opening

as-it-is : (s : Script) (cs : List ContId) (G : List Durable) (n : ℕ) → opened s G (enlisted cs (empty_durable n)) ≡ enlisted cs (empty_durable n)
unfolding opened enlisted
as-it-is s cs G n = refl

each-stays : (s : Script) (cs : List ContId) (G F : List Durable) → AreUnused F → map (opened s G) (map (enlisted cs) F) ≡ map (enlisted cs) F
each-stays s cs G [] unused = refl
each-stays s cs G (d ∷ F) unused =
    let e = unused 0 d refl in
    ap (λ y. y ∷ map (opened s G) (map (enlisted cs) F)) (subst (λ y. opened s G (enlisted cs y) ≡ enlisted cs y) (sym e.1) (as-it-is s cs G e.0))
    ∙ ap (λ ys. enlisted cs d ∷ ys) (each-stays s cs G F (rest d F unused))

pub unused-open : UnusedOpenAsTheyAre
unused-open s cs F unused = each-stays s cs (enlisted_family cs F) F unused

-- ---- what they stand for

joined-unused : (n t : ℕ) (p : Version → Bool) (F : List Durable) → AreUnused F → joined n t p F ≡ []
joined-unused n t p [] unused = refl
joined-unused n t p (d ∷ F) unused =
    ap (λ m. filter (is_led_by n t) m ++ joined n (t + 1) p F) (no_versions p d (unused 0 d refl)) ∙ joined-unused n (t + 1) p F (rest d F unused)

lease-unused : (F : List Durable) → AreUnused F → greatest_lease F ≡ 0
lease-unused [] unused = refl
lease-unused (d ∷ F) unused = ap (λ y. max y.lease (greatest_lease F)) (unused 0 d refl).1 ∙ ap (max 0) (lease-unused F (rest d F unused))

nothing : (F : List Durable) → AreUnused F → stand F ≡ empty_stand
unfolding stand
nothing F unused = λ i. record { now = joined-unused (length F) 0 (counts F) F unused i; snaps = ap (map (snap_map F)) (none-created F unused) i }

pub unused-stand : UnusedStandForNothing
unused-stand s F free unused = λ i. record { stand = kept s (nothing F unused i); lease = lease-unused F unused i; free = free }
