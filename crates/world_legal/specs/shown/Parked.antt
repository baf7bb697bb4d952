-- A read that a client waits for is one that it asked.
use Rattle.std.specs.Prelude.{ℕ, ◌≡◌, ◌≤◌, Some}
use Rattle.std.proofs.Common.{sym, ◌∙◌, ap}
use Rattle.base_types.specs.declared.epoch.Epoch.{Epoch}
use Rattle.base_messages.specs.declared.message.Message.TheVariants as message
use Rattle.base_messages.specs.declared.message.Post.{Post}
use Rattle.world_base.specs.declared.client.ClientState.{ClientState}
use Rattle.world_base.specs.declared.client.Present.{Present}
use Rattle.world_base.specs.declared.request.FetchRequest.{FetchRequest}
use Rattle.world_base.specs.Events.{Rules, client_plan}
use Rattle.world_base.specs.Requests.{fetch_message}
use Rattle.world_standing.specs.world_letters.talks.AskLaws.{sent-is-asked}
use Rattle.world_standing.specs.world_letters.talks.Asked.{Asked}
use Rattle.world_standing.specs.world_letters.waits.Waits.{IsQuestion, ItsAsk, ItsRequest}

-- a read that is asked
pub read-sent : (r : Rules) (n : ℕ) (c : ClientState) (a : Present) (q : Post) (f : FetchRequest) → c.present ≡ Some a → IsQuestion (client_plan r n) c q → q.message ≡ fetch_message f → (k : Epoch) × (k.0 ≤ c.tracker.0) × Asked (client_plan r n) k c a q
read-sent r n c a q f at (ItsRequest k low sent) says = (k, low, sent-is-asked (client_plan r n) k c a q at sent)
read-sent r n c a q f at (ItsAsk k s g low sent commit is) says = let bad : message.Ask g.attempt ≡ fetch_message f = sym (ap (λ z. z.message) is) ∙ says in let no : ⊥ = cc in absurd no
