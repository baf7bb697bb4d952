-- The clients of a script, made one after another.
use Rattle.std.specs.Prelude.{ℕ, ◌≡◌, ◌+◌, List, [], ◌∷◌, ◌++◌, length, slice_get, Some}
use Rattle.std.proofs.Common.{◌∙◌, ap, sym}
use Rattle.client_core.specs.Clients.{ClientNow}
use Rattle.base_types.specs.declared.epoch.Epoch.{Epoch}
use Rattle.base_types.specs.declared.script.Command.{Command}
use Rattle.base_types.specs.declared.script.Script.{Script}
use Rattle.base_types.specs.declared.snapshot.Snap.{Snap}
use Rattle.daos_run.proofs.Slots.{at-end, length-end}
use Rattle.world_base.specs.ClientTurns.{at_first, plan_of}

-- those of the lists with numbers below this
pub record AreSoFar (s : Script) (held : List Snap) (attempts : ℕ) (tracker : Epoch) (cs : List ClientNow) (n : ℕ) : Type 0 where
  pub many : length cs ≡ n
  pub plans : (k : ℕ) (c : ClientNow) → slice_get cs k ≡ Some c → (list : List Command) × (slice_get s.clients k ≡ Some list) × (c.plan ≡ plan_of s k attempts list)
  pub states : (k : ℕ) (c : ClientNow) → slice_get cs k ≡ Some c → c.state ≡ at_first s held tracker

pub one-more : (s : Script) (held : List Snap) (attempts : ℕ) (tracker : Epoch) (cs cs' : List ClientNow) (n : ℕ) (c : ClientNow) (list : List Command) → AreSoFar s held attempts tracker cs n → cs' ≡ cs ++ c ∷ [] → slice_get s.clients n ≡ Some list → c.plan ≡ plan_of s n attempts list
    → c.state ≡ at_first s held tracker → AreSoFar s held attempts tracker cs' (n + 1)
one-more s held attempts tracker cs cs' n c list k more here plan state = record {
  many = ap length more ∙ length-end cs c ∙ ap (λ m. m + 1) k.many;
  plans = λ m d at. at-end (λ j e. (l : List Command) × (slice_get s.clients j ≡ Some l) × (e.plan ≡ plan_of s j attempts l)) cs c k.plans
      (list, ap (slice_get s.clients) k.many ∙ here, plan ∙ ap (λ j. plan_of s j attempts list) (sym k.many)) m d (ap (λ xs. slice_get xs m) (sym more) ∙ at);
  states = λ m d at. at-end (λ j e. e.state ≡ at_first s held tracker) cs c k.states state m d (ap (λ xs. slice_get xs m) (sym more) ∙ at);
}
