-- What doesn't concern an attempt leaves its facts as they are, and what letters say stays so.
use Rattle.std.specs.Prelude.{List, Option, Some}
use Rattle.std.proofs.Common.{inl, inr}
use Rattle.base_types.specs.declared.epoch.Epoch.{Epoch}
use Rattle.base_types.specs.declared.id.AttemptId.{AttemptId}
use Rattle.base_types.specs.declared.outcome.Outcome.{Outcome}
use Rattle.base_types.specs.declared.outcome.Outcome.TheVariants.{Committed}
use Rattle.base_messages.specs.declared.message.Post.{Post}
use Rattle.world_commit.specs.attempts.History.{Aborted, Decided, GrowsBy, History, Tells}

-- ---- what became of an attempt

-- the same became of it
pub record SameFate (h later : History) (x : AttemptId) : Type 0 where
  pub decided : (e : Epoch) → Decided h x e → Decided later x e
  pub only_decided : (e : Epoch) → Decided later x e → Decided h x e
  pub aborted : Aborted h x → Aborted later x
  pub only_aborted : Aborted later x → Aborted h x

pub same-itself : (h : History) (x : AttemptId) → SameFate h h x
same-itself h x = record { decided = λ e d. d; only_decided = λ e d. d; aborted = λ a. a; only_aborted = λ a. a }

-- as it does where nobody is told of it
pub same-untold : (h later : History) (posts : List Post) (x : AttemptId) → GrowsBy h posts later → ((own : Option Epoch) (how : Outcome) → Tells posts x own how → ⊥) → SameFate h later x
same-untold h later posts x g untold = record {
  decided = g.decided x;
  only_decided = λ e d. elim (g.only_decided x e d) [ inl before ↦ before | inr told ↦ absurd (untold (Some e) Committed told) ];
  aborted = g.aborted x;
  only_aborted = λ a. elim (g.only_aborted x a) [ inl before ↦ before | inr told ↦ absurd (untold told.own told.how told.told) ];
}
