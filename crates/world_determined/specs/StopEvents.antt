-- What becomes of targets leads from worlds that are the same but for free blocks to such worlds: a cut at one place, an opening, and their ends.
use Rattle.std.specs.Prelude.{ℕ, ◌≡◌, ◌⊎◌, ◌++◌, true, false, List, [], ◌∷◌, slice_get}
use Rattle.std.proofs.Common.{inl, inr, sym, ◌∙◌, ap, ap₂, subst₂}
use Rattle.base_types.specs.declared.epoch.Epoch.{Epoch}
use Rattle.base_types.specs.declared.id.AttemptId.{AttemptId}
use Rattle.base_types.specs.declared.report.Line.{Line}
use Rattle.base_types.specs.declared.report.Line.TheVariants as line
use Rattle.daos_model.specs.Changes.{reopened}
use Rattle.daos_model.specs.declared.durable.Durable.{Durable}
use Rattle.world_base.specs.declared.target.Life.TheVariants.{Down, Stopped}
use Rattle.world_base.specs.declared.target.TargetState.{TargetState}
use Rattle.world_base.specs.declared.world.Numbers.{Numbers}
use Rattle.world_base.specs.declared.world.World.{World}
use Rattle.world_base.specs.CutTurns.{Cutting, HearingIsCut, IdleWorkIsCut}
use Rattle.world_base.specs.Events.{Rules, kept, target_plan, with_target}
use Rattle.world_base.specs.Letters.{asked_after, letters_of, target}
use Rattle.world_base.specs.Statuses.{opening_posts}
use Rattle.world_base.specs.Roles.{is_prepared}
use Rattle.world_base.specs.Stops.{AtWork, CutOf, Hearing, IdleWork, IsInHand, NumbersDrawn, OpeningFails, TargetCut, TargetGivenUp, TargetOpens, after_cut, no_memory, opened_at, restart_line, stopped_at, stops_so_far, with_lost}
use Rattle.world_determined.specs.Choices.{LeadDecided, cut_work, was_raised}
use Rattle.world_determined.specs.Cuts.{OneCut, place_of}
use Rattle.world_determined.specs.CutTurns.{cut-hearing_is_one, cut-idling_is_one, hearing_place}
use Rattle.world_determined.specs.Fetches.{NoneLedElsewhere}
use Rattle.world_determined.specs.Worlds.{SameButFree, but_free, target-same, target-set, target_but_free}
use Rattle.world_determined.specs.TargetEvents.{Setting, one-setting}

module _ (r : Rules) (w v w' v' : World) (same : SameButFree w v) where
  -- a world after a cut
  cut-after : (t u : ℕ) (s z : TargetState) (cut cut' : Cutting) → t ≡ u → target_but_free s ≡ target_but_free z → OneCut cut cut' → SameButFree (after_cut w t s cut) (after_cut v u z cut')
  cut-after t u s z cut cut' number state one =
      let stopped : target_but_free (stopped_at s cut.left) ≡ target_but_free (stopped_at z cut'.left) =
      ap (λ (x : TargetState). record x { durable = cut.left.durable; life = Stopped; memory = no_memory }) state ∙ ap (λ (d : Durable). record z { durable = d; free = 0; life = Stopped; memory = no_memory }) one.kept_same in
      let told : SameButFree (told_of w t cut) (told_of v u cut') =
      ap (λ (x : World). told_of x t cut) same ∙ ap (λ i. told_of (but_free v) i cut) number
      ∙ ap (λ (is : List (AttemptId × Epoch)). told_by (but_free v) u is cut.lines) one.issued_same ∙ ap (λ (ls : List Line). told_by (but_free v) u cut'.issued ls) one.lines_same in
      ap (λ i. but_free (with_lost i false (with_target i (stopped_at s cut.left) (told_of w t cut)))) number
      ∙ ap (with_lost u false) (target-set (told_of w t cut) (told_of v u cut') u (stopped_at s cut.left) (stopped_at z cut'.left) told stopped)
    where
      told_by : World → ℕ → List (AttemptId × Epoch) → List Line → World
      told_by x i issued lines = record x { issued = x.issued ++ issued; lines = x.lines ++ lines ++ line.Stop (stops_so_far x.lines) i ∷ [] }

      told_of : World → ℕ → Cutting → World
      told_of x i c = told_by x i c.issued c.lines

  -- what was cut at one place
  cut-one :
      (t u : ℕ) (s z : TargetState) (work work' : AtWork) (cut cut' : Cutting) (hand : IsInHand w t work) (hand' : IsInHand v u work') (turn : CutOf (target_plan r t) s work cut) (turn' : CutOf (target_plan r u) z work' cut')
      → NoneLedElsewhere (target_plan r t) s.memory.leader.decided s.durable → t ≡ u → target_but_free s ≡ target_but_free z
      → cut_work w t (target_plan r t) s work cut hand turn ≡ cut_work v u (target_plan r u) z work' cut' hand' turn' → OneCut cut cut'
  cut-one t u s z (Hearing l reading number) (Hearing m other drawn) cut cut' hand hand' turn turn' led number_same state chosen =
      let heard : l ≡ m = cc in
      let clock : reading ≡ other = cc in
      let drawn_same : number ≡ drawn = cc in
      let at : hearing_place is_prepared number (target_plan r t) s.opening s.memory reading l.from l.message (kept s) cut turn ≡ hearing_place is_prepared drawn (target_plan r u) z.opening z.memory other m.from m.message (kept z) cut' turn' = cc in
      let where_it_is = one-setting t u s z reading other l m number_same state clock heard in
      subst₂ (λ (n : ℕ) (x : Setting).
      (d : HearingIsCut is_prepared n (target_plan r x.t) x.s.opening x.s.memory x.reading x.l.from x.l.message (kept z) cut')
      → hearing_place is_prepared number (target_plan r t) s.opening s.memory reading l.from l.message (kept s) cut turn ≡ hearing_place is_prepared n (target_plan r x.t) x.s.opening x.s.memory x.reading x.l.from x.l.message (kept z) cut' d
      → OneCut cut cut') drawn_same where_it_is
      (λ d so. cut-hearing_is_one is_prepared number (target_plan r t) s.opening s.memory reading l.from l.message (kept s) (kept z) cut cut' led (ap (λ (x : Setting). x.s.durable) where_it_is) turn d so) turn' at
  cut-one t u s z (Hearing l reading number) IdleWork cut cut' hand hand' turn turn' led number_same state chosen = let no : ⊥ = cc in absurd no
  cut-one t u s z IdleWork (Hearing m other drawn) cut cut' hand hand' turn turn' led number_same state chosen = let no : ⊥ = cc in absurd no
  cut-one t u s z IdleWork IdleWork cut cut' hand hand' turn turn' led number_same state chosen =
      let at : place_of turn ≡ place_of turn' = cc in
      subst₂ (λ (n : ℕ) (x : TargetState). (d : IdleWorkIsCut n x.memory (kept z) cut') → place_of turn ≡ place_of d → OneCut cut cut') number_same state
      (λ d so. cut-idling_is_one t s.memory (kept s) (kept z) cut cut' (ap (λ (x : TargetState). x.durable) state) turn d so) turn' at

  -- a target's turn is cut
  pub cuts-one : LeadDecided r w → (g : TargetCut r w w') (h : TargetCut r v v') → g.t ≡ h.t → cut_work w g.t (target_plan r g.t) g.s g.work g.cut g.in_hand g.turn ≡ cut_work v h.t (target_plan r h.t) h.s h.work h.cut h.in_hand h.turn → SameButFree w' v'
  cuts-one led g h number chosen =
      let state = target-same w v g.t g.s h.s same g.here (ap (slice_get v.targets) number ∙ h.here) in
      ap but_free g.after
      ∙ cut-after g.t h.t g.s h.s g.cut h.cut number state (cut-one g.t h.t g.s h.s g.work h.work g.cut h.cut g.in_hand h.in_hand g.turn h.turn (led g.t g.s g.here) number state chosen)
      ∙ sym (ap but_free h.after)

  -- a target opens again
  pub opens-one : (g : TargetOpens r w w') (h : TargetOpens r v v') → g.t ≡ h.t → g.number ≡ h.number → SameButFree w' v'
  opens-one g h number drawn =
      let state = target-same w v g.t g.s h.s same g.here (ap (slice_get v.targets) number ∙ h.here) in
      let durable : g.s.durable ≡ h.s.durable = ap (λ (x : TargetState). x.durable) state in
      ap but_free g.after
      ∙ target-set (told_of w g.t g.number g.s.durable) (told_of v h.t h.number h.s.durable) g.t (opened_at r g.t g.number g.s g.free) (opened_at r h.t h.number h.s h.free) (told g.t h.t g.number h.number g.s.durable h.s.durable number drawn durable)
      (opened g.t h.t g.number h.number g.s h.s number drawn state)
      ∙ ap (λ i. but_free (with_target i (opened_at r h.t h.number h.s h.free) (told_of v h.t h.number h.s.durable))) number ∙ sym (ap but_free h.after)
    where
      told_of : World → ℕ → ℕ → Durable → World
      told_of x t n d = record x {
        messages = x.messages ++ letters_of (target t) (opening_posts (target_plan r t) (reopened d));
        asked = asked_after x.asked (letters_of (target t) (opening_posts (target_plan r t) (reopened d)));
        lines = x.lines ++ restart_line n t d ∷ [];
      }

      told : (t u n m : ℕ) (d e : Durable) → t ≡ u → n ≡ m → d ≡ e → SameButFree (told_of w t n d) (told_of v u m e)
      told t u n m d e at by kept =
          ap (λ (x : World). told_of x t n d) same ∙ ap (λ i. told_of (but_free v) i n d) at ∙ ap (λ i. told_of (but_free v) u i d) by ∙ ap (told_of (but_free v) u m) kept

      opened : (t u n m : ℕ) (s z : TargetState) → t ≡ u → n ≡ m → target_but_free s ≡ target_but_free z → target_but_free (opened_at r t n s g.free) ≡ target_but_free (opened_at r u m z h.free)
      opened t u n m s z at by state =
          ap (λ i. target_but_free (opened_at r i n s g.free)) at ∙ ap (λ i. target_but_free (opened_at r u i s g.free)) by ∙ ap (λ (x : TargetState). target_but_free (opened_at r u m x g.free)) state

  -- it fails to
  pub fails-one : (g : OpeningFails r w w') (h : OpeningFails r v v') → g.t ≡ h.t → was_raised g.left ≡ was_raised h.left → SameButFree w' v'
  fails-one g h number raised =
      let state = target-same w v g.t g.s h.s same g.here (ap (slice_get v.targets) number ∙ h.here) in
      let left = left-one g.s.durable h.s.durable g.k.durable h.k.durable (ap (λ (x : TargetState). x.durable) state) g.left h.left raised in
      ap but_free g.after
      ∙ target-set w v g.t (record g.s { durable = g.k.durable; free = g.k.free }) (record h.s { durable = h.k.durable; free = h.k.free }) same
      (ap (λ (x : TargetState). record x { durable = g.k.durable }) state ∙ ap (λ (d : Durable). record h.s { durable = d; free = 0 }) left)
      ∙ ap (λ i. but_free (with_target i (record h.s { durable = h.k.durable; free = h.k.free }) v)) number ∙ sym (ap but_free h.after)
    where
      left-one : (d e d' e' : Durable) → d ≡ e → (p : (d' ≡ d) ⊎ (d' ≡ reopened d)) (q : (e' ≡ e) ⊎ (e' ≡ reopened e)) → was_raised p ≡ was_raised q → d' ≡ e'
      left-one d e d' e' kept (inl p) (inl q) alike = p ∙ kept ∙ sym q
      left-one d e d' e' kept (inl p) (inr q) alike = let no : ⊥ = cc in absurd no
      left-one d e d' e' kept (inr p) (inl q) alike = let no : ⊥ = cc in absurd no
      left-one d e d' e' kept (inr p) (inr q) alike = p ∙ ap reopened kept ∙ sym q

  -- it is given up
  pub given_up-one : (g : TargetGivenUp r w w') (h : TargetGivenUp r v v') → g.t ≡ h.t → SameButFree w' v'
  given_up-one g h number =
      let state = target-same w v g.t g.s h.s same g.here (ap (slice_get v.targets) number ∙ h.here) in
      let told : SameButFree (told_of w g.t) (told_of v h.t) = ap (λ (x : World). told_of x g.t) same ∙ ap (told_of (but_free v)) number in
      ap but_free g.after
      ∙ ap (with_lost g.t true) (target-set (told_of w g.t) (told_of v h.t) g.t (record g.s { life = Down }) (record h.s { life = Down }) told (ap (λ (x : TargetState). record x { life = Down }) state))
      ∙ ap (λ i. but_free (with_lost i true (with_target i (record h.s { life = Down }) (told_of v h.t)))) number ∙ sym (ap but_free h.after)
    where
      told_of : World → ℕ → World
      told_of x t = record x { lines = x.lines ++ line.Down t ∷ [] }

  -- numbers are drawn
  pub draws-one : (g : NumbersDrawn w w') (h : NumbersDrawn v v') → g.numbers ≡ h.numbers → SameButFree w' v'
  draws-one g h drawn = ap but_free g.after ∙ ap₂ (λ (x : World) (n : Numbers). record x { numbers = n }) same drawn ∙ sym (ap but_free h.after)
