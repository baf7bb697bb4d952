-- What clients send and what targets send that open answers nothing.
use Rattle.std.specs.Prelude.{ℕ, ◌≡◌, Bool, true, false, List, [], ◌∷◌, filter, Option, Some, None, refl}
use Rattle.std.proofs.Common.{sym, ◌∙◌, ap, subst, inl, inr}
use Rattle.base_types.specs.declared.entry.Entry.{Entry}
use Rattle.base_types.specs.declared.epoch.Epoch.{Epoch}
use Rattle.base_messages.specs.declared.message.Message.{Message}
use Rattle.base_messages.specs.declared.message.Message.TheVariants as message
use Rattle.base_messages.specs.declared.message.Post.{Post}
use Rattle.model_laws.specs.Members.{Has, has-cases, has-from_map}
use Rattle.daos_model.specs.declared.durable.Durable.{Durable}
use Rattle.dtx_base.specs.Leading.{is_led, is_open}
use Rattle.dtx_base.specs.Members.{other_members}
use Rattle.world_base.specs.declared.client.ClientState.{ClientState}
use Rattle.world_base.specs.declared.client.Present.{Present}
use Rattle.world_base.specs.ClientTurns.{listed, moved, waits}
use Rattle.world_base.specs.Events.{Rules, client_plan, target_plan}
use Rattle.world_base.specs.Statuses.{opening_posts, status_to, statuses_for, statuses_of}
use Rattle.world_letters.specs.endings.Clients.{IsQuestion}
use Rattle.world_letters.specs.talks.AskLaws.{move-is, waiting-rests}
use Rattle.world_letters.specs.talks.Asked.{ARead, ASnapshot, AnAggregation, Asked, Asking, IsMove, ItsWrites, Silent, Telling}

-- a message that asks, or tells a tracker
abbrev pub is_unasked : Message → Bool
is_unasked (message.Fetch x op group ep first tracker r snapshot) = true
is_unasked (message.Commit x ep first tracker ws) = true
is_unasked (message.Ask x) = true
is_unasked (message.Status x inc) = true
is_unasked (message.Snap x c name tracker) = true
is_unasked (message.Prune x c tracker e) = true
is_unasked (message.Tell k) = true
is_unasked m = false

-- all these do
abbrev pub AreUnasked : List Post → Type 0
AreUnasked posts = (q : Post) → Has q posts → is_unasked q.message ≡ true

one-unasked : (q : Post) → is_unasked q.message ≡ true → AreUnasked (q ∷ [])
one-unasked q is p (inl same) = ap (λ x. is_unasked x.message) same ∙ is
one-unasked q is p (inr none) = absurd none

-- ---- clients

asks-unasked : (r : Rules) (n : ℕ) (k : Epoch) (c : ClientState) (a : Present) (q : Post) → Asked (client_plan r n) k c a q → is_unasked q.message ≡ true
asks-unasked r n k c a q (ARead ops turns snapshot op rd at here asks says) = ap (λ x. is_unasked x.message) says
asks-unasked r n k c a q (ItsWrites ops turns snapshot w ws at last all says) = ap (λ x. is_unasked x.message) says
asks-unasked r n k c a q (ASnapshot name cont at says) = ap (λ x. is_unasked x.message) says
asks-unasked r n k c a q (AnAggregation cont at says) = ap (λ x. is_unasked x.message) says

pub move-unasked : (r : Rules) (n : ℕ) (c : ClientState) → AreUnasked (listed (moved (client_plan r n) c).post)
move-unasked r n c = by (waits c) refl
  where
    none : (o : Option Post) → o ≡ None → AreUnasked (listed o)
    none o is q i = absurd (subst (λ z. Has q (listed z)) is i)

    one : (o : Option Post) (q : Post) → o ≡ Some q → is_unasked q.message ≡ true → AreUnasked (listed o)
    one o q is k = subst (λ z. AreUnasked (listed z)) (sym is) (one-unasked q k)

    is-a : IsMove (client_plan r n) c (moved (client_plan r n) c) → AreUnasked (listed (moved (client_plan r n) c).post)
    is-a (Silent free nothing) = none _ nothing
    is-a (Telling m nothing free says) = one _ _ says refl
    is-a (Asking a q at asked says state) = one _ q says (asks-unasked r n c.tracker c a q asked)

    by : (b : Bool) → waits c ≡ b → AreUnasked (listed (moved (client_plan r n) c).post)
    by true h = none _ (ap (λ m. m.post) (waiting-rests (client_plan r n) c h))
    by false h = is-a (move-is (client_plan r n) c h)

pub question-unasked : (o : Option Post) → IsQuestion o → AreUnasked (listed o)
question-unasked None asks = λ s i. absurd i
question-unasked (Some q) asks = one-unasked q (ap is_unasked asks.1)

-- ---- openings

statuses-unasked : (inc : ℕ) (es : List Entry) → AreUnasked (statuses_for inc es)
statuses-unasked inc [] = λ q i. absurd i
statuses-unasked inc (e ∷ es) = λ q i. elim (has-cases (statuses_of inc e) (statuses_for inc es) q i) [
  | inl j ↦ (let z = has-from_map (status_to inc e.attempt) (other_members e) q j in ap (λ x. is_unasked x.message) (sym z.2))
  | inr j ↦ statuses-unasked inc es q j
]

pub opening-unasked : (r : Rules) (t : ℕ) (d : Durable) → AreUnasked (opening_posts (target_plan r t) d)
unfolding opening_posts
opening-unasked r t d = statuses-unasked d.incarnation (filter is_open (filter (is_led t) d.entries))
