-- What each settling of a Mark, each confirmation of a Marked and each settling of idle work keeps, the turn keeps.
use Rattle.std.specs.Prelude.{◌<◌, ◌∷◌, ◌≡◌, Bool, Contains, List, Option, Some, filter, length, not, refl, true}
use Rattle.std.proofs.Common.{◌∙◌, ap, inl, inr, subst, sym}
use Rattle.base_types.specs.declared.id.AttemptId.{AttemptId}
use Rattle.model_laws.specs.Lists.{filter-shorter}
use Rattle.model_laws.specs.Members.{Has}
use Rattle.daos_model.specs.declared.durable.Durable.{Durable}
use Rattle.daos_model.specs.EntryLaws.{same_attempt-itself}
use Rattle.world_base.specs.Changes.{Change, Kept, Settles, Steps}
use Rattle.world_base.specs.Marks.{MarkNext, PassesBy, SettlesMarked, marked_step}
use Rattle.world_base.specs.PathLaws.{reached-keeps}
use Rattle.world_base.specs.Requests.{is_other_attempt}
use Rattle.world_base.specs.Roles.{is_prepared}
use Rattle.world_base.specs.Turns.{Reached}

-- what is left of a list is of the list
abbrev IsLeftOf : {T : Type 0} → List T → List T → Type 0
IsLeftOf {T} all rest = (x : T) → Has x rest → Has x all

-- what holds while these are left
record Leaves {T : Type 0} (P : Kept → Type 0) (all rest : List T) (k : Kept) : Type 0 where
  holds : P k
  left : IsLeftOf all rest

fewer : {T : Type 0} (P : Kept → Type 0) (all : List T) (x : T) (rest : List T) (k l : Kept) → P l → Leaves P all (x ∷ rest) k → Leaves P all rest l
fewer P all x rest k l holds s = record { holds = holds; left = λ y i. s.left y (inr i) }

module _ (P : Kept → Type 0) where
  -- a Mark settles what it names, is due, and so is prepared here
  abbrev pub MarkingKeeps : List (AttemptId × Bool) → Type 0
  MarkingKeeps marks = (k l : Kept) (a : AttemptId) (committed : Bool) → Has (a, committed) marks → is_prepared a k.durable ≡ true → Steps (Some (Settles a (marked_step committed))) k l → P k → P l

  mark-step : (is_due : AttemptId → Durable → Bool) → ((a : AttemptId) (d : Durable) → is_due a d ≡ true → is_prepared a d ≡ true) → (marks : List (AttemptId × Bool)) → MarkingKeeps marks → (s : List (AttemptId × Bool)) (k : Kept) (o : Option Change) (u : List (AttemptId × Bool)) (l : Kept) → MarkNext is_due s k o u → Steps o k l
      → Leaves P marks s k → Leaves P marks u l
  mark-step is_due prepared marks keeps s k o u l (SettlesMarked j a committed rest is) steps h =
      fewer P marks (a, committed) rest k l (keeps k l a committed (h.left (a, committed) (inl refl)) (prepared a k.durable is) steps h.holds) h
  mark-step is_due prepared marks keeps s k o u l (PassesBy j a committed rest is) steps h = fewer P marks (a, committed) rest k l (subst P (sym steps) h.holds) h

  pub marks-keep : (is_due : AttemptId → Durable → Bool) → ((a : AttemptId) (d : Durable) → is_due a d ≡ true → is_prepared a d ≡ true) → (marks : List (AttemptId × Bool)) → MarkingKeeps marks → (old new : Kept) (last : List (AttemptId × Bool)) → Reached (MarkNext is_due) marks old last new → P old → P new
  marks-keep is_due prepared marks keeps old new last r p = (reached-keeps (MarkNext is_due) (Leaves P marks) (mark-step is_due prepared marks keeps) marks old last new r (record { holds = p; left = λ x i. i })).holds

-- without one of them attempts are fewer
pub one-fewer : (a : AttemptId) (decided : List AttemptId) → Contains decided a → length (filter (is_other_attempt a) decided) < length decided
one-fewer a decided among =
    filter-shorter (is_other_attempt a) decided among.0 a among.1 (ap (λ x. is_other_attempt a x) among.2 ∙ ap not (same_attempt-itself a))
