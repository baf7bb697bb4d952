-- The world that a run begins with.
use Rattle.std.specs.Prelude.{ℕ, ◌≡◌, ◌≤◌, ◌+◌, ◌^◌, true, List, [], length, replicate, slice_get, Option, Some, None, is_some, refl}
use Rattle.std.proofs.Common.{sym, ◌∙◌, ap, subst, arith}
use Rattle.std.proofs.lemmas.Bool.{true≢false}
use Rattle.base_types.specs.declared.script.Command.{Command}
use Rattle.client_core.specs.Clients.{ClientNow}
use Rattle.daos_model.specs.declared.durable.Durable.{Durable}
use Rattle.daos_model.specs.FormLaws.{length-map}
use Rattle.daos_model.specs.Opening.{Given}
use Rattle.model_laws.specs.Lists.{length-replicate}
use Rattle.model_laws.specs.Members.{Has, has-from_contains}
use Rattle.run_base.specs.Letters.{BetweenNow}
use Rattle.run_base.specs.Sweeps.{lives_of}
use Rattle.run_laws.specs.shows.CanGo.{CanGo}
use Rattle.run_laws.specs.shows.Going.{AreAlike}
use Rattle.run_laws.specs.shows.ListLaws.{map-get}
use Rattle.run_laws.specs.shows.Shows.{IsCounted, IsGoing, IsTargetOf, Shows, state_of}
use Rattle.run_laws.specs.shows.Stages.{StageNow}
use Rattle.run_watch.specs.Watches.{WatchNow, first_watch}
use Rattle.target_core.specs.Targets.{TargetOf}
use Rattle.vos_store.specs.Calls.{State}
use Rattle.world_base.specs.declared.target.Life.{Life}
use Rattle.world_base.specs.declared.target.Life.TheVariants.{Running}
use Rattle.world_base.specs.declared.client.ClientState.{ClientState}
use Rattle.world_base.specs.declared.target.TargetMemory.{TargetMemory}
use Rattle.world_base.specs.Events.{target_plan}
use Rattle.world_base.specs.Stops.{Begins}
use Rattle.world_closing.specs.Rules.{rules_of}
use Rattle.run_opening.specs.world_contents.posts.Forms.{ClientsAwait, ClientsWait}
use Rattle.world_closing.specs.Below.{first_tracker, no_leading}
use Rattle.run_opening.specs.world_contents.posts.KnownSnapshots.{ReadsKnown, reads-known-begin}
use Rattle.world_base.specs.ClientTurns.{at_first}
use Rattle.run_laws.specs.ends.Places.{from-map, maps-replicate, one-there, replicate-at}
use Rattle.run_laws.specs.shows.Beginning.{RunBegins}
use Rattle.run_laws.specs.turns.Drawn.{AreDrawn}
use Rattle.run_laws.specs.ends.Starts.{AllTell, AreFirst, HaveStarted, first_world, or_empty, state_now, stores_of}

-- ---- what stores tell

pub told-is : (o : Option Durable) → is_some o ≡ true → o ≡ Some (or_empty o)
told-is None h = absurd (true≢false (sym h))
told-is (Some d) h = refl

pub told-there : {S C : Type 0} (durable : S → Option Durable) (xs : List (TargetOf S C)) → AllTell durable (stores_of xs) → (t : ℕ) (x : TargetOf S C) → slice_get xs t ≡ Some x → is_some (durable x.store) ≡ true
told-there durable xs told t x at = told t x.store (map-get (λ y. y.store) xs t x at)

-- ---- before any turn

-- nothing lies between actors
abbrev pub nothing : BetweenNow
nothing = record { messages = []; asked = []; issued = []; lines = [] }

-- clients and targets, and how these stand, before any turn
abbrev pub first_stage : {S C : Type 0} → List ClientNow → List (TargetOf S C) → WatchNow → StageNow S C
first_stage cs xs watch = record { clients = cs; targets = xs; watch = watch; between = nothing }

-- so many targets run, and nothing has happened yet, whichever stop lines are to come
abbrev pub IsFirstWatch : ℕ → WatchNow → Type 0
IsFirstWatch targets watch = watch ≡ first_watch targets watch.stops

-- a client that is before its first turn is at no attempt
first-state : (g : Given) (cs : List ClientNow) → AreFirst g cs → (n : ℕ) (c : ClientNow) → slice_get cs n ≡ Some c → c.state.present ≡ None
first-state g cs those n c at =
    let x = from-map (λ (list : List Command). at_first g.script those.held (first_tracker g.opening)) g.script.clients n c.state (ap (λ ss. slice_get ss n) (sym those.states) ∙ map-get state_of cs n c at) in
    ap (λ (s : ClientState). s.present) x.is

none-waits : (m : TargetMemory) → m.leader ≡ no_leading → m.collecting ≡ [] → ClientsAwait m
none-waits m idle nothing = record { attempts = subst ClientsWait (sym idle) (λ u c i is. absurd i); collections = λ n i. absurd (subst (Has n) nothing i) }

module _ {S C : Type 0} (durable : S → Option Durable) (state : S → State) where
  module _ (g : Given) (cs : List ClientNow) (xs : List (TargetOf S C)) (k : HaveStarted durable state g cs xs) where
    made : (t : ℕ) (x : TargetOf S C) → slice_get xs t ≡ Some x → x.plan ≡ target_plan (rules_of g) t
    made t x at = (k.each t x at).plan

    known : (n : ℕ) (c : ClientNow) → slice_get cs n ≡ Some c → ReadsKnown c.plan c.state
    known n c at = reads-known-begin c.plan c.state (first-state g cs k.those n c at)

    pub first-drawn : AreDrawn (first_world durable state cs xs)
    first-drawn = record { drawn = omega arith; counted = tt }

    -- ---- where stores tell what they keep

    module _ (told : AllTell durable (stores_of xs)) where
      its : (t : ℕ) (x : TargetOf S C) → slice_get xs t ≡ Some x → durable x.store ≡ Some (or_empty (durable x.store))
      its t x at = told-is (durable x.store) (told-there durable xs told t x at)

      -- a run begins so
      pub run-begins : RunBegins (rules_of g) g.opening (first_world durable state cs xs)
      run-begins = (k.so told).begins

      now : (found : Durable) (t : ℕ) (x : TargetOf S C) → slice_get xs t ≡ Some x → IsTargetOf durable state (target_plan (rules_of g) t) Running found x (state_now durable state x)
      now found t x at = record { made = made t x at; lives = refl; so = record { told = its t x at; free = refl; opening = refl; opened = (k.each t x at).opened; running = (k.each t x at).running; knows = refl } }

      -- and this is what the actors show
      pub shows-first : (watch : WatchNow) → IsFirstWatch g.script.targets watch → (found : ℕ → Durable) → Shows durable state (rules_of g) found (first_stage cs xs watch) (first_world durable state cs xs)
      shows-first watch first found = record {
        clients = refl;
        plans = k.those.plans;
        many = length-map (state_now durable state) xs;
        lives = lives;
        targets = λ t x life s place here.
            let y = from-map (state_now durable state) xs t s here in
            let runs : life ≡ Running = replicate-at g.script.targets t Running life (ap (λ w. slice_get w.lives t) (sym first) ∙ place.stands) in
            subst (λ l. IsTargetOf durable state (target_plan (rules_of g) t) l (found t) x s) (sym runs)
            (subst (IsTargetOf durable state (target_plan (rules_of g) t) Running (found t) x) (ap (state_now durable state) (one-there xs t x y.of_it place.there y.at) ∙ sym y.is) (now (found t) t x place.there));
        messages = refl;
        asked = refl;
        issued = refl;
        lines = refl;
        restarts = ap (λ w. w.restarts) (sym first);
      }
        where
          lives : lives_of (first_world durable state cs xs) ≡ watch.lives
          lives = maps-replicate (state_now durable state) (λ s. s.life) Running xs (λ x. refl) ∙ ap (λ n. replicate n Running) k.many ∙ ap (λ w. w.lives) (sym first)

    -- ---- whether or not they do

    module _ (may : S → Durable → Type 0) (watch : WatchNow) (first : IsFirstWatch g.script.targets watch) where
      going : AllTell durable (stores_of xs) → IsGoing durable state may (first_stage cs xs watch)
      going told = record {
        rules = rules_of g;
        opening = g.opening;
        first = first_world durable state cs xs;
        begins = run-begins told;
        reached = λ found are. record { now = first_world durable state cs xs; run = Begins; drawn = first-drawn; shows = shows-first told watch first found };
        counted = λ t x life place. subst (IsCounted durable state may (2 ^ 63 + 1 + watch.openings) x) (sym (runs t life place.stands)) (seldom t x place.there);
      }
        where
          runs : (t : ℕ) (life : Life) → slice_get watch.lives t ≡ Some life → life ≡ Running
          runs t life stands = replicate-at g.script.targets t Running life (ap (λ w. slice_get w.lives t) (sym first) ∙ stands)

          seldom : (t : ℕ) (x : TargetOf S C) → slice_get xs t ≡ Some x → (d : Durable) → durable x.store ≡ Some d → d.incarnation ≤ 2 ^ 63 + 1 + watch.openings
          seldom t x at d is = let low = (k.each t x at).seldom d is in omega (arith, low)

      -- the actors can have their turns
      pub can-go : AreAlike durable → CanGo durable state may (first_stage cs xs watch)
      can-go alike = record {
        rules = rules_of g;
        form = k.form;
        plans = k.those.plans;
        known = known;
        made = made;
        many = k.many;
        standing = ap (λ w. length w.lives) first ∙ length-replicate g.script.targets Running ∙ sym k.many;
        openings = let none = ap (λ w. w.openings) first in omega (arith, none);
        work = λ t x place. record { opened = (k.each t x place.there).opened; running = (k.each t x place.there).running; waiting = none-waits x.memory (k.each t x place.there).leader (k.each t x place.there).makes };
        messages = λ l i. absurd (has-from_contains [] l i);
        asked = λ l i. absurd (has-from_contains [] l i);
        told = λ t x d at is. going (λ u s to. alike x.store s (ap is_some is));
      }
