-- What is decided and aborted by what is told, where some of it was decided before.
use Rattle.std.specs.Prelude.{◌⊎◌, ◌++◌, List, [], Some, refl}
use Rattle.std.proofs.Common.{inl, inr}
use Rattle.base_types.specs.declared.epoch.Epoch.{Epoch}
use Rattle.base_types.specs.declared.id.AttemptId.{AttemptId}
use Rattle.base_types.specs.declared.outcome.Outcome.TheVariants.{Committed}
use Rattle.base_messages.specs.declared.message.Post.{Post}
use Rattle.model_laws.specs.Members.{Has, has-cases, has-left, has-right}
use Rattle.world_contents.specs.world_commit.attempts.History.{Decided, GrowsBy, History, Served, Tells}
use Rattle.world_contents.specs.reads.Growing.{committed_in, grown, refused_in}
use Rattle.world_contents.specs.reads.GrowLaws.{grown-grows}

-- The history with these attempts decided, and those aborted that messages tell of so, has grown by what the messages tell: where each
-- attempt that they tell of as committed is among them, or was decided so before.
pub tells-grow : (h : History) (posts : List Post) (told : List (AttemptId × Epoch)) (served : List Served) → ((x : AttemptId) (e : Epoch) → Tells posts x (Some e) Committed → Has (x, e) told ⊎ Decided h x e)
    → ((x : AttemptId) (e : Epoch) → Has (x, e) told → Tells posts x (Some e) Committed) → GrowsBy h posts (record { decided = told ++ h.decided; aborted = refused_in posts ++ h.aborted; served = served })
tells-grow h posts told served covers from = record {
  decided = λ x e d. has-right told h.decided (x, e) d;
  committed = λ x e t. elim (covers x e t) [ inl i ↦ has-left told h.decided (x, e) i | inr d ↦ has-right told h.decided (x, e) d ];
  only_decided = λ x e d. elim (has-cases told h.decided (x, e) d) [ inl i ↦ inr (from x e i) | inr b ↦ inl b ];
  aborted = g.aborted;
  refused = g.refused;
  only_aborted = g.only_aborted;
}
  where
    g : GrowsBy h posts (grown h (committed_in posts) posts [])
    g = grown-grows h (committed_in posts) posts [] refl
