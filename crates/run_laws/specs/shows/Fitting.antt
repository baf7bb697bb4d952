-- Actors that can have their turns can have them after a turn.
use Rattle.run_opening.specs.world_contents.posts.KnownSnapshots.{ReadsKnown}
use Rattle.std.specs.Prelude.{ℕ, ◌≡◌, ◌≤◌, ◌<◌, ◌+◌, ◌==◌, ◌^◌, length, slice_get, slice_set, Bool, true, false, Option, Some, refl, if◌then◌else◌}
use Rattle.std.proofs.Common.{inl, inr, sym, ◌∙◌, ap, subst, arith}
use Rattle.std.proofs.lemmas.Bool.{cases_eq}
use Rattle.std.proofs.lemmas.Option.{slice_get_within}
use Rattle.client_core.specs.Clients.{ClientNow}
use Rattle.daos_model.specs.declared.durable.Durable.{Durable}
use Rattle.model_laws.specs.Members.{contains-from_has, has-from_contains}
use Rattle.run_base.specs.Letters.{BetweenNow}
use Rattle.run_laws.specs.shows.Givings.{lives-same}
use Rattle.run_laws.specs.shows.Lettered.{AllInForm, asked-lost, lost-form, swept-form}
use Rattle.run_laws.specs.shows.CanGo.{CanGo, CanWork}
use Rattle.run_laws.specs.shows.ListLaws.{get-set, length-set}
use Rattle.run_laws.specs.shows.Shows.{IsGoing}
use Rattle.run_laws.specs.shows.Stages.{IsPlace, StageNow}
use Rattle.run_laws.specs.shows.Turned.{AfterStop, Failed, LastTime, NotFailed, failed_stage, given_up_between, given_up_stage, swept_stage}
use Rattle.run_watch.specs.Watches.{WatchNow, after_fault, with_life}
use Rattle.target_core.specs.Targets.{TargetOf}
use Rattle.vos_store.specs.Calls.{State}
use Rattle.world_base.specs.declared.target.Life.{Life}
use Rattle.world_base.specs.declared.target.Life.TheVariants.{Down, Running}
use Rattle.world_base.specs.Events.{Rules, client_plan, target_plan}
use Rattle.world_base.specs.StepLaws.{set-is, set-there}
use Rattle.world_closing.specs.Below.{AreRulesInForm}

-- all that lets actors have their turns, whatever their stores tell
pub record Fits {S C : Type 0} (state : S → State) (r : Rules) (a : StageNow S C) : Type 0 where
  pub plans : (n : ℕ) (c : ClientNow) → slice_get a.clients n ≡ Some c → c.plan ≡ client_plan r n
  pub known : (n : ℕ) (c : ClientNow) → slice_get a.clients n ≡ Some c → ReadsKnown c.plan c.state
  pub made : (t : ℕ) (x : TargetOf S C) → slice_get a.targets t ≡ Some x → x.plan ≡ target_plan r t
  pub many : length a.targets ≡ r.script.targets
  pub standing : length a.watch.lives ≡ length a.targets
  pub openings : a.watch.openings < 2 ^ 32
  pub work : (t : ℕ) (x : TargetOf S C) → IsPlace a t x Running → CanWork state x
  pub between : AllInForm (target_plan r) a.between

module _ {S C : Type 0} (durable : S → Option Durable) (state : S → State) (may : S → Durable → Type 0) where
  pub fits-of : (a : StageNow S C) (k : CanGo durable state may a) → Fits state k.rules a
  fits-of a k = record {
    plans = k.plans;
    known = k.known;
    made = k.made;
    many = k.many;
    standing = k.standing;
    openings = k.openings;
    work = k.work;
    between = record { messages = λ l i. k.messages l (contains-from_has a.between.messages l i); asked = λ l i. k.asked l (contains-from_has a.between.asked l i) };
  }

  pub can-go : (r : Rules) (a : StageNow S C) → AreRulesInForm r → Fits state r a → ((t : ℕ) (x : TargetOf S C) (d : Durable) → slice_get a.targets t ≡ Some x → durable x.store ≡ Some d → IsGoing durable state may a) → CanGo durable state may a
  can-go r a rules f told = record {
    rules = r;
    form = rules;
    plans = f.plans;
    known = f.known;
    made = f.made;
    many = f.many;
    standing = f.standing;
    openings = f.openings;
    work = f.work;
    messages = λ l i. f.between.messages l (has-from_contains a.between.messages l i);
    asked = λ l i. f.between.asked l (has-from_contains a.between.asked l i);
    told = told;
  }

module _ {S C : Type 0} (state : S → State) (r : Rules) (rules : AreRulesInForm r) (a : StageNow S C) (f : Fits state r a) where
  pub few : length a.watch.lives ≤ 64
  few = let s = f.standing in let m = f.many in let most = rules.few_targets in omega (arith, s, m, most)

  pub few-numbers : (t : ℕ) (x : TargetOf S C) → slice_get a.targets t ≡ Some x → t < 64
  few-numbers t x at = let p = slice_get_within a.targets t x at in let m = f.many in let most = rules.few_targets in omega (arith, p, m, most)

  pub fit-swept : Fits state r (swept_stage a)
  fit-swept = record {
    plans = f.plans;
    known = f.known;
    made = f.made;
    many = f.many;
    standing = f.standing;
    openings = f.openings;
    work = λ t x p. f.work t x (record { there = p.there; stands = p.stands });
    between = swept-form (target_plan r) a.watch.lives a.between few f.between;
  }

  -- one of the targets changed, and how it stands
  pub fit-target : (t : ℕ) (x y : TargetOf S C) (watch : WatchNow) (life : Life) (b : BetweenNow) → slice_get a.targets t ≡ Some x → y.plan ≡ x.plan → watch.lives ≡ slice_set a.watch.lives t life → watch.openings < 2 ^ 32 → (life ≡ Running → CanWork state y)
      → AllInForm (target_plan r) b → Fits state r (record a { targets = slice_set a.targets t y; watch = watch; between = b })
  fit-target t x y watch life b at plan lives openings can k = record {
    plans = f.plans;
    known = f.known;
    made = λ u z here. get-set (λ j q. q.plan ≡ target_plan r j) a.targets t y (plan ∙ f.made t x at) f.made u z here;
    many = length-set a.targets t y ∙ f.many;
    standing = ap length lives ∙ length-set a.watch.lives t life ∙ f.standing ∙ sym (length-set a.targets t y);
    openings = openings;
    work = λ u z p. elim (cases_eq u t) [
      | inl same ↦
          (let one : y ≡ z = set-is a.targets t y z (subst (λ v. slice_get (slice_set a.targets t y) v ≡ Some z) same p.there) in
          let runs : life ≡ Running = set-is a.watch.lives t life Running (subst (λ v. slice_get (slice_set a.watch.lives t life) v ≡ Some Running) same (ap (λ ls. slice_get ls u) (sym lives) ∙ p.stands)) in
          subst (CanWork state) one (can runs))
      | inr apart ↦ f.work u z (record { there = sym (set-there a.targets t u y apart) ∙ p.there; stands = sym (set-there a.watch.lives t u life apart) ∙ ap (λ ls. slice_get ls u) (sym lives) ∙ p.stands })
    ];
    between = k;
  }

  -- how one of the targets stands changed, and it doesn't run
  pub fit-life : (t : ℕ) (watch : WatchNow) (life : Life) (b : BetweenNow) → watch.lives ≡ slice_set a.watch.lives t life → watch.openings ≡ a.watch.openings → (life ≡ Running → ⊥) → AllInForm (target_plan r) b → Fits state r (record a { watch = watch; between = b })
  fit-life t watch life b lives openings rests k = record {
    plans = f.plans;
    known = f.known;
    made = f.made;
    many = f.many;
    standing = ap length lives ∙ length-set a.watch.lives t life ∙ f.standing;
    openings = subst (λ n. n < 2 ^ 32) (sym openings) f.openings;
    work = λ u z p. elim (cases_eq u t) [
      | inl same ↦ absurd (rests (set-is a.watch.lives t life Running (subst (λ v. slice_get (slice_set a.watch.lives t life) v ≡ Some Running) same (ap (λ ls. slice_get ls u) (sym lives) ∙ p.stands))))
      | inr apart ↦ f.work u z (record { there = p.there; stands = sym (set-there a.watch.lives t u life apart) ∙ ap (λ ls. slice_get ls u) (sym lives) ∙ p.stands })
    ];
    between = k;
  }

  pub fit-given_up : (t : ℕ) → t < 64 → Fits state r (given_up_stage t a)
  fit-given_up t small = fit-life t (with_life t Down a.watch) Down (given_up_between t a.between) refl refl (λ e. let no : ⊥ = cc in no)
      (record { messages = lost-form (target_plan r) t true a.between small f.between; asked = asked-lost (target_plan r) t a.between f.between })

  pub fit-failed : (t n : ℕ) → Fits state r (failed_stage t n a)
  fit-failed t n = record {
    plans = f.plans;
    known = f.known;
    made = f.made;
    many = f.many;
    standing = ap length (sym (lives-same t n a.watch)) ∙ f.standing;
    openings = subst (λ k. k < 2 ^ 32) same-openings f.openings;
    work = λ u z p. f.work u z (record { there = p.there; stands = ap (λ ls. slice_get ls u) (lives-same t n a.watch) ∙ p.stands });
    between = f.between;
  }
    where
      same-openings : a.watch.openings ≡ (after_fault t n a.watch).openings
      same-openings = by (n == 8)
        where
          by : (b : Bool) → a.watch.openings ≡ (if b then a.watch else record a.watch { faults = slice_set a.watch.faults t (n + 1) }).openings
          by true = refl
          by false = refl

-- after a store stopped
pub fit-after_stop : {S C : Type 0} (state : S → State) (r : Rules) (t before now : ℕ) (a b : StageNow S C) → AreRulesInForm r → t < 64 → Fits state r a → AfterStop t before now a b → Fits state r b
fit-after_stop state r t before now a b rules small f (NotFailed less same) = subst (Fits state r) (sym same) f
fit-after_stop state r t before now a b rules small f (Failed more n at few same) = subst (Fits state r) (sym same) (fit-failed state r rules a f t n)
fit-after_stop state r t before now a b rules small f (LastTime more at same) = subst (Fits state r) (sym same) (fit-swept state r rules (given_up_stage t a) (fit-given_up state r rules a f t small))
