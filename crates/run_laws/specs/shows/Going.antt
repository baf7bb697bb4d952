-- What goes on once turns led from one stage to another.
use Rattle.run_laws.specs.turns.Drawn.{turn-runs-on}
use Rattle.std.specs.Prelude.{ℕ, ◌≡◌, ◌≤◌, ◌+◌, ◌^◌, slice_get, Bool, true, false, Option, Some, None, is_some}
use Rattle.std.proofs.Common.{inl, inr, sym, ◌∙◌, ap, subst, arith}
use Rattle.std.proofs.lemmas.Bool.{cases_eq}
use Rattle.base_messages.specs.declared.actor.ActorId.{ActorId}
use Rattle.daos_model.specs.Durables.{empty_durable}
use Rattle.daos_model.specs.declared.durable.Durable.{Durable}
use Rattle.run_laws.specs.shows.Reopening.{choosing, chosen, others}
use Rattle.run_laws.specs.shows.Parts.{IsTurnSo, at-both, place-of, target-there}
use Rattle.run_laws.specs.shows.Shows.{IsCounted, IsGoing, IsReached, IsTargetOf, Leads, WasReached}
use Rattle.run_laws.specs.shows.Stages.{AreFound, IsPlace, StageNow}
use Rattle.run_laws.specs.turns.Raising.{turns-raise}
use Rattle.target_core.specs.Targets.{TargetOf}
use Rattle.vos_store.specs.Calls.{State}
use Rattle.world_base.specs.declared.target.Life.{Life}
use Rattle.world_base.specs.declared.target.Life.TheVariants.{Down, Running, Stopped}
use Rattle.world_base.specs.declared.target.TargetState.{TargetState}
use Rattle.world_base.specs.Events.{target_plan}

-- something may be found of each store that tells what it keeps
abbrev pub AreFindable : {S : Type 0} → (S → Option Durable) → (S → Durable → Type 0) → Type 0
AreFindable {S} durable may = (s : S) → is_some (durable s) ≡ true → (x : Durable) × may s x

-- a store that isn't stopped opens with what it keeps
abbrev pub AreSteady : {S : Type 0} → (S → Option Durable) → (S → State) → (S → Durable → Type 0) → Type 0
AreSteady {S} durable state may = (s : S) (d x : Durable) → (state s).stopped ≡ false → durable s ≡ Some d → may s x → x ≡ d

-- what is told of one store is told of all
abbrev pub AreAlike : {S : Type 0} → (S → Option Durable) → Type 0
AreAlike {S} durable = (s t : S) → is_some (durable s) ≡ true → is_some (durable t) ≡ true

module _ {S C : Type 0} (durable : S → Option Durable) (state : S → State) (may : S → Durable → Type 0) where
  -- ---- a choice

  module _ (findable : AreFindable durable may) (a : StageNow S C) (all : (x : TargetOf S C) → is_some (durable x.store) ≡ true) where
    abbrev one-found : Option (TargetOf S C) → Durable
    one-found None = empty_durable 0
    one-found (Some x) = (findable x.store (all x)).0

    abbrev pub some-found : ℕ → Durable
    some-found t = one-found (slice_get a.targets t)

    pub found-some : AreFound may a some-found
    found-some t x life p rests = subst (λ o. may x.store (one-found o)) (sym p.there) (findable x.store (all x)).1

    -- and of one target what was to be found of it
    pub found-with : (t : ℕ) (x : TargetOf S C) (d : Durable) → slice_get a.targets t ≡ Some x → may x.store d → AreFound may a (choosing t d some-found)
    found-with t x d at m u z life p rests = elim (cases_eq u t) [
      | inl same ↦ (let one : x ≡ z = let e : Some x ≡ Some z = sym at ∙ subst (λ v. slice_get a.targets v ≡ Some z) same p.there in cc in
          subst (λ q. may q.store (choosing t d some-found u)) one (subst (may x.store) (sym (ap (choosing t d some-found) same ∙ chosen t d some-found)) m))
      | inr apart ↦ subst (may z.store) (sym (others t d some-found u apart)) (found-some u z life p rests)
    ]

  -- ---- a run goes on

  module _ (a b : StageNow S C) (settling : Bool) (actor : ActorId) (k raised : ℕ) (stops downs faults : Option ℕ) (read : Option (ℕ × ℕ)) (g : IsGoing durable state may a) (leads : Leads durable state may (IsTurnSo settling g.rules actor k raised stops downs faults read) g.rules a b) where
    pub was : (found : ℕ → Durable) → AreFound may a found → (y : IsReached durable state may g.rules g.first found a) → WasReached g.rules y.now
    was found are y = record { opening = g.opening; first = g.first; begins = g.begins; run = y.run; drawn = y.drawn }

    pub reached-on : (found : ℕ → Durable) → AreFound may b found → IsReached durable state may g.rules g.first found b
    reached-on found are =
        let z = leads found are in
        let y = g.reached z.before z.were in
        let l = z.led y.now (was z.before z.were y) y.shows in
        let on = turn-runs-on settling g.rules actor k y.now l.next l.turn.turn in
        record { now = l.next; run = on.run g.first y.run; drawn = on.drawn y.drawn; shows = l.shows }

    -- ---- how often stores were opened

    abbrev most : StageNow S C → ℕ
    most c = 2 ^ 63 + 1 + c.watch.openings

    -- what a target kept in a world that was shown before
    few-before : (found : ℕ → Durable) → AreFound may a found → (y : IsReached durable state may g.rules g.first found a) → (t : ℕ) (s : TargetState) → slice_get y.now.targets t ≡ Some s → s.durable.incarnation ≤ most a
    few-before found are y t s here =
        let x = at-both y.now.targets a.targets t s (sym y.shows.many) here in
        let p = place-of durable state g.rules found a y.now t x.0 y.shows x.1 in
        by p.0 p.1 (y.shows.targets t x.0 p.0 s p.1 here) (g.counted t x.0 p.0 p.1)
      where
        by : {x : TargetOf S C} (life : Life) → IsPlace a t x life → IsTargetOf durable state (target_plan g.rules t) life (found t) x s → IsCounted durable state may (most a) x life → s.durable.incarnation ≤ most a
        by {x = x} Running p is counted = counted s.durable is.so.told
        by {x = x} Stopped p is counted = counted s.durable (subst (may x.store) (sym is.so.keeps) (are t x Stopped p (λ e. let no : ⊥ = cc in no)))
        by {x = x} Down p is counted = counted s.durable (subst (may x.store) (sym is.so.keeps) (are t x Down p (λ e. let no : ⊥ = cc in no)))

    few-after : a.watch.openings + raised ≤ b.watch.openings → (found : ℕ → Durable) → AreFound may b found → (t : ℕ) (x : TargetOf S C) (life : Life) → IsPlace b t x life → (d : Durable) → ((s : TargetState) → IsTargetOf durable state (target_plan g.rules t) life (found t) x s → d ≡ s.durable)
        → d.incarnation ≤ most b
    few-after up found are t x life p d its =
        let z = leads found are in
        let y = g.reached z.before z.were in
        let l = z.led y.now (was z.before z.were y) y.shows in
        let s = target-there durable state g.rules found b l.next t x life l.shows p in
        let o = turns-raise settling g.rules actor k y.now l.next l.turn.turn t s.s s.here in
        let before = few-before z.before z.were y t o.0 o.1 in
        let rises = o.2 in
        let by = l.turn.raised_is in
        let same : d.incarnation ≡ s.s.durable.incarnation = ap (λ e. e.incarnation) (its s.s s.is) in
        omega (arith, up, before, rises, by, same)

    pub counted-on : AreFindable durable may → ((x : TargetOf S C) → is_some (durable x.store) ≡ true) → a.watch.openings + raised ≤ b.watch.openings → (t : ℕ) (x : TargetOf S C) (life : Life) → IsPlace b t x life → IsCounted durable state may (most b) x life
    counted-on findable all up t x Running p = λ d told.
        few-after up (some-found findable b all) (found-some findable b all) t x Running p d (λ s is. let e : Some d ≡ Some s.durable = sym told ∙ is.so.told in cc)
    counted-on findable all up t x Stopped p = λ d m.
        few-after up (choosing t d (some-found findable b all)) (found-with findable b all t x d p.there m) t x Stopped p d (λ s is. sym (is.so.keeps ∙ chosen t d (some-found findable b all)))
    counted-on findable all up t x Down p = λ d m.
        few-after up (choosing t d (some-found findable b all)) (found-with findable b all t x d p.there m) t x Down p d (λ s is. sym (is.so.keeps ∙ chosen t d (some-found findable b all)))

    pub going-on : AreFindable durable may → ((x : TargetOf S C) → is_some (durable x.store) ≡ true) → a.watch.openings + raised ≤ b.watch.openings → IsGoing durable state may b
    going-on findable all up = record {
      rules = g.rules;
      opening = g.opening;
      first = g.first;
      begins = g.begins;
      reached = reached-on;
      counted = counted-on findable all up;
    }
