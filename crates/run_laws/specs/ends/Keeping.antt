-- What the first world of a run keeps, and what is found where it broke off.
use Rattle.std.specs.Prelude.{ℕ, ◌≡◌, ◌⊎◌, ◌<◌, true, All, List, ◌∷◌, length, map, slice_get, Option, Some, is_some, refl, [], false, Bool, None, filter, if◌then◌else◌, suc, zero}
use Rattle.std.proofs.lemmas.List.Elements.{All-head}
use Rattle.std.proofs.Common.{sym, ◌∙◌, ap, subst, inl, inr, arith}
use Rattle.client_core.specs.Clients.{ClientNow}
use Rattle.daos_model.specs.declared.durable.Durable.{Durable}
use Rattle.base_types.specs.declared.script.Command.TheVariants.{Snap as Make}
use Rattle.base_types.specs.declared.snapshot.Snap.{Snap}
use Rattle.daos_model.specs.declared.stand.SnapMap.{SnapMap}
use Rattle.daos_model.specs.Family.{created_snaps, snap_map, stand}
use Rattle.daos_model.specs.Finals.{IsKeptIn}
use Rattle.daos_model.specs.FormLaws.{length-map}
use Rattle.daos_model.specs.Opening.{Given, Opening}
use Rattle.daos_model.specs.Sound.{Sound}
use Rattle.model_laws.specs.Lists.{at-within}
use Rattle.run_laws.specs.shows.Going.{AreAlike}
use Rattle.run_laws.specs.shows.Broken.{HasBrokenOff, IsBrokenFrom, MayBeFoundOf}
use Rattle.run_laws.specs.shows.ListLaws.{map-get}
use Rattle.run_laws.specs.shows.Parts.{at-both}
use Rattle.run_laws.specs.steps.Breaking.{Breaks}
use Rattle.run_laws.specs.steps.Going.{AllTell as AllStoresTell}
use Rattle.run_watch.specs.Watches.{WatchNow}
use Rattle.target_core.specs.Targets.{TargetOf}
use Rattle.vos_store.specs.Calls.{State}
use Rattle.world_base.specs.declared.world.World.{World}
use Rattle.world_base.specs.Events.{Rules, commands_or_none}
use Rattle.world_base.specs.Stops.{Begins, WorldRun}
use Rattle.world_closing.specs.Rules.{rules_of}
use Rattle.world_closing.specs.Below.{durable_of, durables_of}
use Rattle.run_laws.specs.ends.Standing.{IsMadeIn, StandsForAttempts, stands-for_attempts}
use Rattle.run_laws.specs.shows.Beginning.{RunBegins}
use Rattle.run_opening.specs.Opened.{IsFloored}
use Rattle.world_closing.specs.stands.Runs.{all-runs-keep_floors, all-runs-keep_sound, all-runs-stand}
use Rattle.world_closing.specs.stands.Stands.{HoldsOpenings}
use Rattle.run_opening.specs.world_contents.reads.Transactions.{decided_of}
use Rattle.run_laws.specs.ends.Arming.{HaveFuses}
use Rattle.run_laws.specs.ends.Begun.{IsFirstWatch, first-drawn, first_stage, shows-first, told-is, told-there}
use Rattle.run_laws.specs.ends.Comes.{AreKept, BreaksOffSo, IsSoundAgain, MayBeFound}
use Rattle.run_laws.specs.ends.Lasts.{found_at, one-may_be}
use Rattle.run_laws.specs.ends.Places.{from-map, same-lists}
use Rattle.run_laws.specs.ends.Starts.{AllTell, HaveStarted, first_world, or_empty, state_now, stores_of}
use Rattle.base_types.specs.declared.id.AttemptId.{AttemptId}
use Rattle.base_types.specs.declared.script.Command.{Command}
use Rattle.world_letters.specs.epochs.Epochs.{Unsnapped, is_unsnapped}
use Rattle.daos_model.specs.Transactions.{command_of, numbered_at}
use Rattle.base_types.specs.Scripts.{is_numbered}

-- what stands among those that pass a test stands in the list, and passes
pub filter-at : {T : Type 0} (t : T → Bool) (xs : List T) (k : ℕ) (x : T) → slice_get (filter t xs) k ≡ Some x → (j : ℕ) × (slice_get xs j ≡ Some x) × (t x ≡ true)
filter-at t [] k x at = let no : ⊥ = cc in absurd no
filter-at {T = T} t (y ∷ ys) k x at = by (t y) refl k at (λ m. filter-at t ys m x)
  where
    by : (b : Bool) → t y ≡ b → (m : ℕ) → slice_get (if b then y ∷ filter t ys else filter t ys) m ≡ Some x
        → ((i : ℕ) → slice_get (filter t ys) i ≡ Some x → (j : ℕ) × (slice_get ys j ≡ Some x) × (t x ≡ true)) → (j : ℕ) × (slice_get (y ∷ ys) j ≡ Some x) × (t x ≡ true)
    by true e zero h rest = let same : y ≡ x = cc in (0, h, ap t (sym same) ∙ e)
    by true e (suc m) h rest = let r = rest m h in (suc r.0, r.1, r.2)
    by false e m h rest = let r = rest m h in (suc r.0, r.1, r.2)

-- an attempt's command bears a number, and neither makes a snapshot nor reads at one, nor aggregates
pub command-plain : (r : Rules) (x : AttemptId) (d : Command) → Unsnapped r → command_of r.script x ≡ Some d → (is_unsnapped d ≡ true) × (is_numbered d ≡ true)
unfolding command_of
command-plain r x d plain at = by (slice_get r.script.clients x.client) refl at
  where
    by : (o : Option (List Command)) → slice_get r.script.clients x.client ≡ o → numbered_at x.command o ≡ Some d → (is_unsnapped d ≡ true) × (is_numbered d ≡ true)
    by None e h = let no : ⊥ = cc in absurd no
    by (Some list) e h =
        let f = filter-at is_numbered list x.command d h in
        (plain x.client f.0 d (ap (λ o. slice_get (commands_or_none o) f.0) e ∙ f.1), f.2)

-- no attempt makes a snapshot
pub no-snaps : (r : Rules) (x : AttemptId) (d : Command) → Unsnapped r → command_of r.script x ≡ Some d → is_unsnapped d ≡ false → ⊥
no-snaps r x d plain at not_plain = let one = (command-plain r x d plain at).0 in let no : ⊥ = cc in no

-- ---- soundness

-- what a run from a world has come to is sound again, where that world kept what is sound together
pub sound-again : (r : Rules) (o : Opening) (first last : World) (F lasts : List Durable) → RunBegins r o first → WorldRun r first last → durables_of first ≡ F → durables_of last ≡ lasts → Sound F → IsSoundAgain lasts
sound-again r o first last F lasts b run kept keeps sound = record {
  sound = subst Sound keeps (all-runs-keep_sound r o first last b.form b.begins (subst Sound (sym kept) sound) run);
  floored = λ t d at.
      let s = from-map durable_of last.targets t d (ap (λ ds. slice_get ds t) keeps ∙ at) in
      subst IsFloored (sym s.is) (all-runs-keep_floors r o first last b.form b.begins run t s.of_it s.at);
}

-- what a run has come to stands for the opening and for just the attempts that are resolved there
pub stands-so : (r : Rules) (o : Opening) (first last : World) (lasts : List Durable) → RunBegins r o first → HoldsOpenings o first → WorldRun r first last → durables_of last ≡ lasts → StandsForAttempts r o lasts
stands-so r o first last lasts b holds run keeps = subst (StandsForAttempts r o) keeps (stands-for_attempts r o last (all-runs-stand r o first last b.form b.begins holds run))

-- where the opening has no snapshot and none is made, target 0 holds none
pub none-created : (r : Rules) (o : Opening) (lasts : List Durable) → Unsnapped r → o.stand.snaps ≡ [] → StandsForAttempts r o lasts → created_snaps lasts ≡ []
unfolding stand
none-created r o lasts unsnapped none k = by (created_snaps lasts) refl
  where
    Its : SnapMap → Type 0
    Its z = IsKeptIn o.stand.snaps z ⊎ IsMadeIn r o (map (decided_of r.script) k.attempts) z

    by : (ss : List Snap) → created_snaps lasts ≡ ss → created_snaps lasts ≡ []
    by [] is = is
    by (s ∷ ss) is = elim (All-head Its (snap_map lasts s) (map (snap_map lasts) ss) (subst (λ q. All Its (map (snap_map lasts) q)) is k.snaps)) [
      | inl old ↦ absurd (subst (λ q. IsKeptIn q (snap_map lasts s)) none old)
      | inr made ↦ absurd (no-snaps r made.made.0 (Make made.made.1.0 s.cont) unsnapped made.made.1.1 refl)
    ]

module _ {S C : Type 0} (durable : S → Option Durable) (state : S → State) (may : S → Durable → Type 0) where
  -- each of these targets keeps what that one kept
  abbrev pub KeepAlike : List (TargetOf S C) → List (TargetOf S C) → Type 0
  KeepAlike xs ys = (t : ℕ) (x y : TargetOf S C) → slice_get xs t ≡ Some x → slice_get ys t ≡ Some y → durable y.store ≡ durable x.store

  -- where the stores of a run's targets tell what they keep, all stores do
  pub all-tell : AreAlike durable → (g : Given) (cs : List ClientNow) (xs : List (TargetOf S C)) → HaveStarted durable state g cs xs → AllTell durable (stores_of xs) → AllStoresTell durable
  all-tell alike g cs xs k told s =
      let some : 0 < g.script.targets = k.form.some_target in
      let many : length xs ≡ g.script.targets = k.many in
      let x = at-within xs 0 (omega (arith, some, many)) in
      alike x.0.store s (told-there durable xs told 0 x.0 x.1)

  -- ---- the first world

  pub first-keeps : (cs : List ClientNow) (xs armed : List (TargetOf S C)) → length armed ≡ length xs → KeepAlike xs armed → ((s : S) → is_some (durable s) ≡ true) → (F : List Durable) → AreKept durable (stores_of xs) F → durables_of (first_world durable state cs armed) ≡ F
  first-keeps cs xs armed many alike all F f = same-lists (durables_of (first_world durable state cs armed)) F many-first (λ t d z here at.
      let s = from-map durable_of (first_world durable state cs armed).targets t d here in
      let y = from-map (state_now durable state) armed t s.of_it s.at in
      let x = at-both armed xs t y.of_it (sym many) y.at in
      let told : Some s.of_it.durable ≡ Some z = ap (λ q. Some q.durable) y.is ∙ sym (told-is (durable y.of_it.store) (all y.of_it.store)) ∙ alike t x.0 y.of_it x.1 y.at ∙ f.each t x.0.store z (map-get (λ p. p.store) xs t x.0 x.1) at in
      let same : s.of_it.durable ≡ z = cc in
      s.is ∙ same)
    where
      many-first : length (durables_of (first_world durable state cs armed)) ≡ length F
      many-first = length-map durable_of (first_world durable state cs armed).targets ∙ length-map (state_now durable state) armed ∙ many ∙ sym (length-map (λ p. p.store) xs) ∙ sym f.many

  -- ---- where a run broke off

  module _ (g : Given) (cs : List ClientNow) (xs armed rest ys : List (TargetOf S C)) (now : WatchNow) (begins : HaveStarted durable state g cs armed) (told : AllTell durable (stores_of armed)) (all : AllStoresTell durable) (first : IsFirstWatch g.script.targets now)
      (many : length armed ≡ length xs) (alike : KeepAlike xs armed) (broke : Breaks durable state may (first_stage cs armed now) rest) {write : ℕ → ℕ} (unfused : HaveFuses durable state may write rest ys) where
    abbrev r : Rules
    r = rules_of g

    abbrev first_one : World
    first_one = first_world durable state cs armed

    b : RunBegins r g.opening first_one
    b = (begins.so told).begins

    module _ (lasts : List Durable) (m : MayBeFound may (stores_of ys) lasts) where
      may-be : MayBeFoundOf durable state may rest (found_at lasts)
      may-be t x at = let z = one-may_be durable state may rest ys unfused lasts m t x at in subst (may x.store) (ap or_empty (sym z.1)) z.2

      from : IsBrokenFrom durable state may r (first_stage cs armed now) rest (found_at lasts)
      from = broke all r (found_at lasts) may-be

      came : HasBrokenOff r first_one (length rest) (found_at lasts)
      came = from.led first_one (record { opening = g.opening; first = first_one; begins = b; run = Begins; drawn = first-drawn durable state g cs armed begins }) (shows-first durable state g cs armed begins told now first from.before)

      run : WorldRun r first_one came.last
      run = came.run first_one Begins

      keeps : durables_of came.last ≡ lasts
      keeps = same-lists (durables_of came.last) lasts many-last (λ t e d here at. let s = from-map durable_of came.last.targets t e here in s.is ∙ came.keeps t s.of_it s.at ∙ ap or_empty at)
        where
          many-last : length (durables_of came.last) ≡ length lasts
          many-last = length-map durable_of came.last.targets ∙ came.many ∙ sym unfused.many ∙ sym (length-map (λ z. z.store) ys) ∙ sym m.many

      stands : StandsForAttempts r g.opening lasts
      stands = stands-so r g.opening first_one came.last lasts b (begins.so told).holds run keeps

    pub breaks-off : BreaksOffSo durable may g (stores_of xs) (stores_of ys)
    breaks-off = record {
      stand = stands;
      sound = λ F f sound lasts m. sound-again r g.opening first_one (came lasts m).last F lasts b (run lasts m) (first-keeps cs xs armed many alike all F f) (keeps lasts m) sound;
      unsnapped = λ none lasts m. none-created r g.opening lasts none.0 none.1 (stands lasts m);
    }
