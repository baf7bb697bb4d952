-- Of the readings at which epochs are issued no more matters than that they are the same.
use Rattle.std.specs.Prelude.{ℕ, ◌≡◌, ◌==◌, Bool, true, false, List, [], ◌∷◌, Option, Some, None, refl, if◌then◌else◌}
use Rattle.std.proofs.Common.{sym, ◌∙◌, ap, subst}
use Rattle.model_laws.specs.TargetLaws.{same_number}
use Rattle.base_messages.specs.declared.message.Message.{Message}
use Rattle.base_messages.specs.declared.message.Message.TheVariants as message
use Rattle.run_determined.specs.Agreeing.{GoAlike}
use Rattle.run_laws.specs.turns.Readings.{read_at_work, read_for, reading_of}
use Rattle.world_base.specs.declared.target.TargetMemory.{TargetMemory}
use Rattle.world_base.specs.declared.target.TargetPlan.{TargetPlan}
use Rattle.world_base.specs.declared.target.TargetState.{TargetState}
use Rattle.world_base.specs.declared.world.World.{World}
use Rattle.world_base.specs.CutTurns.{Cutting}
use Rattle.world_base.specs.Requests.{request_epoch}
use Rattle.world_base.specs.Stops.{AtWork, CutOf, Hearing, IdleWork, IsInHand}
use Rattle.world_determined.specs.Choices as choice
use Rattle.world_determined.specs.Choices.{Choice, CutWork, cut_work}
use Rattle.world_determined.specs.Readings.{AreTimed, IssuesAlike}

-- the readings of each clock in two events go alike
abbrev pub ReadAlike : Option (ℕ × ℕ) → Option (ℕ × ℕ) → Type 0
ReadAlike one other = (t : ℕ) → GoAlike (reading_of one t) (reading_of other t)

-- ---- what is heard

-- a target read this
abbrev at_reading : ℕ → ℕ → Option (ℕ × ℕ)
at_reading t x = Some (t, x)

-- where both hear the same, either both read their clock or none does
pub reads-one : (t u : ℕ) (q m : Message) (x y : ℕ) → t ≡ u → q ≡ m → ReadAlike (read_for t q x) (read_for u m y) → read_for t q x ≡ read_for u m y
reads-one t u q m x y number heard alike =
    by _ (subst (λ (z : Message). ReadAlike (read_for t q x) (read_for t z y)) (sym heard) (subst (λ i. ReadAlike (read_for t q x) (read_for i m y)) (sym number) alike))
    ∙ ap (λ i. read_for i q y) number ∙ ap (λ (z : Message). read_for u z y) heard
  where
    here : GoAlike (if t == t then x ∷ [] else []) (if t == t then y ∷ [] else []) → x ≡ y
    here k = (subst (λ b. GoAlike (if b then x ∷ [] else []) (if b then y ∷ [] else [])) (same_number t) k).0

    by : (known : Bool) → ReadAlike (if known then None else at_reading t x) (if known then None else at_reading t y) → (if known then None else at_reading t x) ≡ (if known then None else at_reading t y)
    by true k = refl
    by false k = ap (at_reading t) (here (k t))

one-reading : (t x y : ℕ) → at_reading t x ≡ at_reading t y → x ≡ y
one-reading t x y same = ap second same
  where
    second : Option (ℕ × ℕ) → ℕ
    second None = 0
    second (Some z) = z.1

-- and then they issue the same epoch, if one is issued
pub issues-alike : (p : TargetPlan) (m : TargetMemory) (t x y : ℕ) (q : Message) → AreTimed m.member.parked → read_for t q x ≡ read_for t q y → IssuesAlike p m x y q
issues-alike p m t x y (message.Fetch a op group None first tracker r snapshot) timed same = ap (λ z. request_epoch p m z tracker None) (one-reading t x y same)
issues-alike p m t x y (message.Fetch a op group (Some e) first tracker r snapshot) timed same = refl
issues-alike p m t x y (message.Commit a None first tracker ws) timed same = ap (λ z. request_epoch p m z tracker None) (one-reading t x y same)
issues-alike p m t x y (message.Commit a (Some e) first tracker ws) timed same = refl
issues-alike p m t x y (message.Snap a c called tracker) timed same = ap (λ z. request_epoch p m z tracker None) (one-reading t x y same)
issues-alike p m t x y (message.Prune a c (Some tracker) None) timed same = ap (λ z. request_epoch p m z tracker None) (one-reading t x y same)
issues-alike p m t x y (message.Verdict a ask inc v) timed same = timed
issues-alike p m t x y q timed same = tt

-- ---- what was cut

abbrev pub read_of_work : ℕ → CutWork → Option (ℕ × ℕ)
read_of_work t (choice.InHearing l reading number at) = read_for t l.message reading
read_of_work t (choice.InIdling at) = None

-- what is chosen in an event that is cut tells which clock is read
abbrev pub read_of_choice : Choice → Option (ℕ × ℕ)
read_of_choice (choice.IsCut t work) = read_of_work t work
read_of_choice c = None

pub cut-read : (w : World) (t : ℕ) (p : TargetPlan) (s : TargetState) (work : AtWork) (cut : Cutting) (hand : IsInHand w t work) (turn : CutOf p s work cut) → read_at_work t work ≡ read_of_work t (cut_work w t p s work cut hand turn)
cut-read w t p s (Hearing l reading number) cut hand turn = refl
cut-read w t p s IdleWork cut hand turn = refl
