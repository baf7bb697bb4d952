-- Turns in which what others tell is settled, idle work, and turns without a change are determined.
use Rattle.std.specs.Prelude.{ℕ, ◌≡◌, Bool, List, Option, None, refl}
use Rattle.std.proofs.Common.{sym, ◌∙◌, ap}
use Rattle.base_types.specs.declared.id.AttemptId.{AttemptId}
use Rattle.base_types.specs.declared.outcome.Outcome.{Outcome}
use Rattle.base_messages.specs.declared.actor.ActorId.{ActorId}
use Rattle.daos_model.specs.declared.durable.Durable.{Durable}
use Rattle.daos_model.specs.BoolLaws.{clash}
use Rattle.dtx_base.specs.Leading.{ack_heard, entry_led, marked_heard, may_confirm}
use Rattle.world_base.specs.declared.did.Did.{Did}
use Rattle.world_base.specs.declared.target.TargetMemory.{TargetMemory}
use Rattle.world_base.specs.declared.target.TargetPlan.{TargetPlan}
use Rattle.world_base.specs.Acks as ack
use Rattle.world_base.specs.Changes.{Change, Kept}
use Rattle.world_base.specs.Idle.{AllSettled, IdleEnds, IdleNext, SettlesFirst, idle_memory, idle_told}
use Rattle.world_base.specs.Marks.{AllMarked, MarkEnds, MarkNext, PassesBy, SettlesMarked}
use Rattle.world_base.specs.Requests.{nothing_follows, says}
use Rattle.world_base.specs.Roles.{leader_at, leads_on}
use Rattle.world_base.specs.Statuses.{EndsAs, IsDone, Looking, Looks, NoChange}
use Rattle.world_base.specs.Turns.{Whole}
use Rattle.world_base.specs.Verdicts as verdict
use Rattle.world_determined.specs.Paths.{FitsOn, HasOneStep}
use Rattle.world_determined.specs.Wholes.{HasOneEnd, IsLast, OneTurn, whole-one}

-- whatever is kept, a stage fits it
abbrev pub Always : {S : Type 0} → S → Durable → Type 0
Always s d = Unit {0}

pub always-on : {S : Type 0} (Next : S → Kept → Option Change → S → Type 0) → FitsOn Next Always
always-on Next s k o u l next steps fits = tt

-- ---- a Mark

module _ (is_due : AttemptId → Durable → Bool) where
  pub marks-one : HasOneStep (MarkNext is_due) Always
  marks-one _ k l _ _ _ _ fits same (SettlesMarked _ a committed rest is) (SettlesMarked _ _ _ _ is') = record { change = refl; stage = refl }
  marks-one _ k l _ _ _ _ fits same (SettlesMarked _ a committed rest is) (PassesBy _ _ _ _ is') = clash (is_due a l.durable) (sym (ap (is_due a) same) ∙ is) is'
  marks-one _ k l _ _ _ _ fits same (PassesBy _ a committed rest is) (SettlesMarked _ _ _ _ is') = clash (is_due a l.durable) is' (sym (ap (is_due a) same) ∙ is)
  marks-one _ k l _ _ _ _ fits same (PassesBy _ a committed rest is) (PassesBy _ _ _ _ is') = record { change = refl; stage = refl }

module _ (is_due : AttemptId → Durable → Bool) (m : TargetMemory) (from : ActorId) (inc : ℕ) (marks : List (AttemptId × Bool)) where
  pub marks-end : HasOneEnd (MarkNext is_due) (MarkEnds m from inc marks) Always
  marks-end _ k l left left' fits same (AllMarked _ _ is) (AllMarked _ _ is') = is ∙ sym is'

  pub marks-last : IsLast (MarkNext is_due) (MarkEnds m from inc marks) Always
  marks-last _ k l left o u fits same (AllMarked _ _ is) next = elim next [ ]

  pub marks_are_one :
      (old old' new new' : Kept) (left left' : TargetMemory × Did) → old.durable ≡ old'.durable
      → Whole (MarkNext is_due) (MarkEnds m from inc marks) marks old new left → Whole (MarkNext is_due) (MarkEnds m from inc marks) marks old' new' left' → OneTurn new new' left left'
  marks_are_one old old' new new' left left' same w v = whole-one _ _ Always (marks-one is_due) (always-on _) marks-end marks-last marks old old' new new' left left' tt same w v

-- ---- an Ack

module _ (t : TargetPlan) (m : TargetMemory) (member : ℕ) (a : AttemptId) (inc : ℕ) (refusal : Option Outcome) where
  abbrev refuses : Durable → Bool
  refuses d = ack.is_refusing member a inc refusal (leader_at t m d)

  abbrev followed : Durable → ack.AckStage
  followed d = ack.Followed (ack_heard member a inc refusal (leader_at t m d))

  pub acks-one : HasOneStep (ack.AckNext t m member a inc refusal) Always
  acks-one _ k l _ _ _ _ fits same (ack.Aborts _ is) (ack.Aborts _ is') = record { change = refl; stage = ap followed same }
  acks-one _ k l _ _ _ _ fits same (ack.Aborts _ is) (ack.Counts _ is') = clash (refuses l.durable) (sym (ap refuses same) ∙ is) is'
  acks-one _ k l _ _ _ _ fits same (ack.Counts _ is) (ack.Aborts _ is') = clash (refuses l.durable) is' (sym (ap refuses same) ∙ is)
  acks-one _ k l _ _ _ _ fits same (ack.Counts _ is) (ack.Counts _ is') = record { change = refl; stage = ap followed same }

  pub acks-end : HasOneEnd (ack.AckNext t m member a inc refusal) (ack.AckEnds m) Always
  acks-end _ k l left left' fits same (ack.IsFollowed _ s _ is) (ack.IsFollowed _ _ _ is') = is ∙ sym is'

  pub acks-last : IsLast (ack.AckNext t m member a inc refusal) (ack.AckEnds m) Always
  acks-last _ k l left o u fits same (ack.IsFollowed _ s _ is) next = elim next [ ]

  pub acks_are_one :
      (old old' new new' : Kept) (left left' : TargetMemory × Did) → old.durable ≡ old'.durable
      → Whole (ack.AckNext t m member a inc refusal) (ack.AckEnds m) ack.Heard old new left → Whole (ack.AckNext t m member a inc refusal) (ack.AckEnds m) ack.Heard old' new' left' → OneTurn new new' left left'
  acks_are_one old old' new new' left left' same w v = whole-one _ _ Always acks-one (always-on _) acks-end acks-last ack.Heard old old' new new' left left' tt same w v

-- ---- a Marked

module _ (t : TargetPlan) (m : TargetMemory) (member : ℕ) where
  abbrev confirms : AttemptId → Durable → Bool
  confirms a d = may_confirm member (entry_led a (leader_at t m d))

  pub marked-one : HasOneStep (ack.MarkedNext t m member) Always
  marked-one _ k l _ _ _ _ fits same (ack.Confirms _ a rest is) (ack.Confirms _ _ _ is') = record { change = refl; stage = refl }
  marked-one _ k l _ _ _ _ fits same (ack.Confirms _ a rest is) (ack.PassesBy _ _ _ is') = clash (confirms a l.durable) (sym (ap (confirms a) same) ∙ is) is'
  marked-one _ k l _ _ _ _ fits same (ack.PassesBy _ a rest is) (ack.Confirms _ _ _ is') = clash (confirms a l.durable) is' (sym (ap (confirms a) same) ∙ is)
  marked-one _ k l _ _ _ _ fits same (ack.PassesBy _ a rest is) (ack.PassesBy _ _ _ is') = record { change = refl; stage = refl }

  pub marked-end : (inc : ℕ) (ids : List AttemptId) → HasOneEnd (ack.MarkedNext t m member) (ack.MarkedEnds t m member inc ids) Always
  marked-end inc ids _ k l left left' fits same (ack.AllConfirmed _ _ is) (ack.AllConfirmed _ _ is') =
      is ∙ ap (λ d. (leads_on (marked_heard member inc ids (leader_at t m d)) m, nothing_follows)) same ∙ sym is'

  pub marked-last : (inc : ℕ) (ids : List AttemptId) → IsLast (ack.MarkedNext t m member) (ack.MarkedEnds t m member inc ids) Always
  marked-last inc ids _ k l left o u fits same (ack.AllConfirmed _ _ is) next = elim next [ ]

  pub marked_are_one :
      (inc : ℕ) (ids : List AttemptId) (start : List AttemptId) (old old' new new' : Kept) (left left' : TargetMemory × Did) → old.durable ≡ old'.durable
      → Whole (ack.MarkedNext t m member) (ack.MarkedEnds t m member inc ids) start old new left → Whole (ack.MarkedNext t m member) (ack.MarkedEnds t m member inc ids) start old' new' left' → OneTurn new new' left left'
  marked_are_one inc ids start old old' new new' left left' same w v = whole-one _ _ Always marked-one (always-on _) (marked-end inc ids) (marked-last inc ids) start old old' new new' left left' tt same w v

-- ---- a Query

pub queries-one : HasOneStep verdict.QueryNext Always
queries-one _ k l _ _ _ _ fits same (verdict.Answers _) (verdict.Answers _) = record { change = refl; stage = refl }

module _ (t : TargetPlan) (m : TargetMemory) (from : ActorId) (a : AttemptId) (ask : Option AttemptId) where
  pub queries-end : HasOneEnd verdict.QueryNext (verdict.QueryEnds t m from a ask) Always
  queries-end _ k l left left' fits same (verdict.IsTold _ _ is) (verdict.IsTold _ _ is') = is ∙ ap (λ d. (m, says from (verdict.verdict_message t m a ask d) None)) same ∙ sym is'

  pub queries-last : IsLast verdict.QueryNext (verdict.QueryEnds t m from a ask) Always
  queries-last _ k l left o u fits same (verdict.IsTold _ _ is) next = elim next [ ]

  pub queries_are_one :
      (old old' new new' : Kept) (left left' : TargetMemory × Did) → old.durable ≡ old'.durable
      → Whole verdict.QueryNext (verdict.QueryEnds t m from a ask) verdict.IsAsked old new left → Whole verdict.QueryNext (verdict.QueryEnds t m from a ask) verdict.IsAsked old' new' left' → OneTurn new new' left left'
  queries_are_one old old' new new' left left' same w v = whole-one _ _ Always queries-one (always-on _) queries-end queries-last verdict.IsAsked old old' new new' left left' tt same w v

-- ---- turns without a change

pub at_once-one : HasOneStep NoChange Always
at_once-one _ k l _ _ _ _ fits same (Looks _) (Looks _) = record { change = refl; stage = refl }

-- what follows goes by what is kept but for free blocks
abbrev pub GoesByKept : (Kept → TargetMemory × Did) → Type 0
GoesByKept left_by = (k l : Kept) → k.durable ≡ l.durable → left_by k ≡ left_by l

module _ (left_by : Kept → TargetMemory × Did) where
  pub at_once-end : GoesByKept left_by → HasOneEnd NoChange (EndsAs left_by) Always
  at_once-end goes _ k l left left' fits same (IsDone _ _ is) (IsDone _ _ is') = is ∙ goes k l same ∙ sym is'

  pub at_once-last : IsLast NoChange (EndsAs left_by) Always
  at_once-last _ k l left o u fits same (IsDone _ _ is) next = elim next [ ]

  pub at_once_are_one :
      GoesByKept left_by → (old old' new new' : Kept) (left left' : TargetMemory × Did) → old.durable ≡ old'.durable
      → Whole NoChange (EndsAs left_by) Looking old new left → Whole NoChange (EndsAs left_by) Looking old' new' left' → OneTurn new new' left left'
  at_once_are_one goes old old' new new' left left' same w v = whole-one _ _ Always at_once-one (always-on _) (at_once-end goes) at_once-last Looking old old' new new' left left' tt same w v

-- ---- idle work

pub idle-one : HasOneStep IdleNext Always
idle-one _ k l _ _ _ _ fits same (SettlesFirst _ a rest) (SettlesFirst _ _ _) = record { change = refl; stage = refl }

module _ (settling : Bool) (t : TargetPlan) (m : TargetMemory) where
  pub idle-end : HasOneEnd IdleNext (IdleEnds settling t m) Always
  idle-end _ k l left left' fits same (AllSettled _ _ is) (AllSettled _ _ is') = is ∙ ap (λ d. (idle_memory settling t m d, idle_told settling t m d)) same ∙ sym is'

  pub idle-last : IsLast IdleNext (IdleEnds settling t m) Always
  idle-last _ k l left o u fits same (AllSettled _ _ is) next = elim next [ ]

  pub idle_is_one :
      (start : List AttemptId) (old old' new new' : Kept) (left left' : TargetMemory × Did) → old.durable ≡ old'.durable
      → Whole IdleNext (IdleEnds settling t m) start old new left → Whole IdleNext (IdleEnds settling t m) start old' new' left' → OneTurn new new' left left'
  idle_is_one start old old' new new' left left' same w v = whole-one _ _ Always idle-one (always-on _) idle-end idle-last start old old' new new' left left' tt same w v
