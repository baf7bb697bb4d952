-- A target's whole turn leads from worlds that are the same but for free blocks to such worlds, where it hears the same at the same reading.
use Rattle.std.specs.Prelude.{ℕ, ◌≡◌, Bool, List, slice_get, Some}
use Rattle.std.proofs.Common.{sym, ◌∙◌, ap, subst, subst₂}
use Rattle.world_base.specs.declared.did.Did.{Did}
use Rattle.world_base.specs.declared.letter.Letter.{Letter}
use Rattle.world_base.specs.declared.target.TargetMemory.{TargetMemory}
use Rattle.world_base.specs.declared.target.TargetState.{TargetState}
use Rattle.world_base.specs.declared.world.World.{World}
use Rattle.world_base.specs.Changes.{Kept}
use Rattle.world_base.specs.Events.{Rules, TargetHears, TargetHearsBy, TargetIdles, after_turn, kept, target_after, target_plan, with_target}
use Rattle.world_base.specs.Further.{HearsFurther}
use Rattle.world_base.specs.Letters.{target}
use Rattle.world_base.specs.Stops.{HearsMore}
use Rattle.world_base.specs.TargetTurns.{Hearing as Turning, Hears, IdlesWhole}
use Rattle.world_determined.specs.Choices.{LeadDecided}
use Rattle.world_determined.specs.Open.{left_open}
use Rattle.world_determined.specs.Turns.{further-is_one, hearing-is_one, idling-is_one}
use Rattle.world_determined.specs.Wholes.{OneTurn}
use Rattle.world_determined.specs.Worlds.{SameButFree, after-same, but_free, target-same, target-set, target_but_free}

-- a target in a turn: its number, what it is, the reading of its clock, and what it hears
pub record Setting : Type 0 where
  pub t : ℕ
  pub s : TargetState
  pub reading : ℕ
  pub l : Letter

abbrev pub setting : ℕ → TargetState → ℕ → Letter → Setting
setting t s reading l = record { t = t; s = target_but_free s; reading = reading; l = l }

pub one-setting : (t u : ℕ) (s z : TargetState) (reading other : ℕ) (l m : Letter) → t ≡ u → target_but_free s ≡ target_but_free z → reading ≡ other → l ≡ m → setting t s reading l ≡ setting u z other m
one-setting t u s z reading other l m number state clock heard =
    ap (λ (x : ℕ). setting x s reading l) number ∙ ap (λ (x : TargetState). record { t = u; s = x; reading = reading; l = l }) state
    ∙ ap (λ (x : ℕ). setting u z x l) clock ∙ ap (λ (x : Letter). setting u z other x) heard

module _ (r : Rules) (w v w' v' : World) (same : SameButFree w v) where
  -- a world after a target's turn
  target-after : (t u : ℕ) (s z : TargetState) (k l : Kept) (m n : TargetMemory) (did did' : Did) (rest left : List Letter)
      → t ≡ u → target_but_free s ≡ target_but_free z → k.durable ≡ l.durable → m ≡ n → did ≡ did' → rest ≡ left
      → SameButFree (with_target t (target_after s k m) (after_turn w (target t) did rest)) (with_target u (target_after z l n) (after_turn v (target u) did' left))
  target-after t u s z k l m n did did' rest left number state kept known told others =
      let turned : SameButFree (after_turn w (target t) did rest) (after_turn v (target u) did' left) =
      ap (λ (x : World). after_turn x (target t) did rest) same ∙ ap (λ i. after_turn (but_free v) (target i) did rest) number
      ∙ ap (λ (x : Did). after_turn (but_free v) (target u) x rest) told ∙ ap (λ (x : List Letter). after_turn (but_free v) (target u) did' x) others in
      ap (λ i. but_free (with_target i (target_after s k m) (after_turn w (target t) did rest))) number
      ∙ target-set (after_turn w (target t) did rest) (after_turn v (target u) did' left) u (target_after s k m) (target_after z l n) turned (after-same s z k l m n state kept known)

  -- the target that has it
  target-here : (t u : ℕ) (s z : TargetState) → t ≡ u → slice_get w.targets t ≡ Some s → slice_get v.targets u ≡ Some z → target_but_free s ≡ target_but_free z
  target-here t u s z number here there = target-same w v t s z same here (ap (slice_get v.targets) number ∙ there)

  -- where the turns are one
  heard-one : (Turn Other : Turning) (g : TargetHearsBy Turn r w w') (h : TargetHearsBy Other r v v') → g.t ≡ h.t → g.rest ≡ h.rest → OneTurn {R = TargetMemory × Did} g.new h.new (g.memory, g.did) (h.memory, h.did) → SameButFree w' v'
  heard-one Turn Other g h number others one =
      ap but_free g.after
      ∙ target-after g.t h.t g.s h.s g.new h.new g.memory h.memory g.did h.did g.rest h.rest number (target-here g.t h.t g.s h.s number g.here h.here) one.kept_same
      (ap (λ (x : TargetMemory × Did). x.0) one.left_same) (ap (λ (x : TargetMemory × Did). x.1) one.left_same)
      others
      ∙ sym (ap but_free h.after)

  -- what it is in both
  hears-setting : (Turn Other : Turning) (g : TargetHearsBy Turn r w w') (h : TargetHearsBy Other r v v') → g.t ≡ h.t → g.l ≡ h.l → g.reading ≡ h.reading
      → setting g.t g.s g.reading g.l ≡ setting h.t h.s h.reading h.l
  hears-setting Turn Other g h number heard clock =
      one-setting g.t h.t g.s h.s g.reading h.reading g.l h.l number (target-here g.t h.t g.s h.s number g.here h.here) clock heard

  -- a target hears a message
  pub hears-one : LeadDecided r w → (g : TargetHears r w w') (h : TargetHears r v v') → g.t ≡ h.t → g.l ≡ h.l → g.rest ≡ h.rest → g.reading ≡ h.reading → left_open g.l.message g.did ≡ left_open h.l.message h.did → SameButFree w' v'
  hears-one led g h number heard others clock told =
      let at = hears-setting Hears Hears g h number heard clock in
      let turn : Hears (target_plan r g.t) g.s.opening g.s.memory g.reading g.l.from g.l.message (kept h.s) h.new (h.memory, h.did) =
      subst (λ (x : Setting). Hears (target_plan r x.t) x.s.opening x.s.memory x.reading x.l.from x.l.message (kept h.s) h.new (h.memory, h.did)) (sym at) h.turn in
      let tells : left_open g.l.message g.did ≡ left_open g.l.message h.did = told ∙ ap (λ (x : Setting). left_open x.l.message h.did) (sym at) in
      heard-one Hears Hears g h number others
      (hearing-is_one (target_plan r g.t) g.s.opening g.s.memory g.reading g.l.from g.l.message (kept g.s) (kept h.s) g.new h.new (g.memory, g.did) (h.memory, h.did) (led g.t g.s g.here)
      (ap (λ (x : Setting). x.s.durable) at) tells g.turn turn)

  -- a target hears a further message
  pub further-one : (g : HearsMore r w w') (h : HearsMore r v v') → g.hears.t ≡ h.hears.t → g.hears.l ≡ h.hears.l → g.hears.rest ≡ h.hears.rest → g.hears.reading ≡ h.hears.reading → g.number ≡ h.number → SameButFree w' v'
  further-one g h number heard others clock drawn =
      let at = hears-setting (HearsFurther g.number) (HearsFurther h.number) g.hears h.hears number heard clock in
      let turn : HearsFurther g.number (target_plan r g.hears.t) g.hears.s.opening g.hears.s.memory g.hears.reading g.hears.l.from g.hears.l.message (kept h.hears.s) h.hears.new (h.hears.memory, h.hears.did) =
      subst₂ (λ (n : ℕ) (x : Setting). HearsFurther n (target_plan r x.t) x.s.opening x.s.memory x.reading x.l.from x.l.message (kept h.hears.s) h.hears.new (h.hears.memory, h.hears.did)) (sym drawn) (sym at) h.hears.turn in
      heard-one (HearsFurther g.number) (HearsFurther h.number) g.hears h.hears number others
      (further-is_one g.number (target_plan r g.hears.t) g.hears.s.opening g.hears.s.memory g.hears.reading g.hears.l.from g.hears.l.message (kept g.hears.s) (kept h.hears.s) g.hears.new h.hears.new
      (g.hears.memory, g.hears.did) (h.hears.memory, h.hears.did) (ap (λ (x : Setting). x.s.durable) at) g.hears.turn turn)

  -- a target does its idle work
  pub idles-one : (g : TargetIdles r w w') (h : TargetIdles r v v') → g.t ≡ h.t → g.settling ≡ h.settling → SameButFree w' v'
  idles-one g h number settles =
      let state = target-here g.t h.t g.s h.s number g.here h.here in
      let turn : IdlesWhole g.settling (target_plan r g.t) g.s.memory (kept h.s) h.new (h.memory, h.did) =
      subst (λ (b : Bool). IdlesWhole b (target_plan r g.t) g.s.memory (kept h.s) h.new (h.memory, h.did)) (sym settles)
      (subst₂ (λ (t : ℕ) (s : TargetState). IdlesWhole h.settling (target_plan r t) s.memory (kept h.s) h.new (h.memory, h.did)) (sym number) (sym state) h.turn) in
      let one = idling-is_one g.settling (target_plan r g.t) g.s.memory (kept g.s) (kept h.s) g.new h.new (g.memory, g.did) (h.memory, h.did) (ap (λ (x : TargetState). x.durable) state) g.turn turn in
      ap but_free g.after
      ∙ target-after g.t h.t g.s h.s g.new h.new g.memory h.memory g.did h.did w.messages v.messages number state one.kept_same (ap (λ (x : TargetMemory × Did). x.0) one.left_same)
      (ap (λ (x : TargetMemory × Did). x.1) one.left_same) (ap (λ (x : World). x.messages) same)
      ∙ sym (ap but_free h.after)
