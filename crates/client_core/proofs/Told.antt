-- What a message tells a client.
use Rattle.std.proofs.Common.{◌≡◌, ℕ, Bool, true, false, List, [], ◌∷◌, ◌++◌, max, Option, refl, sym, ◌∙◌, ap}
use Rattle.base_types.specs.declared.epoch.Epoch.{Epoch}
use Rattle.base_types.specs.declared.id.AttemptId.{AttemptId}
use Rattle.base_types.specs.declared.outcome.Outcome.{Outcome}
use Rattle.base_messages.specs.declared.message.Message.{Message, Reset, end_of-Message, more_of-Message}
use Rattle.base_messages.specs.declared.message.Message as own
use Rattle.base_messages.specs.declared.message.Message.TheBlock as block
use Rattle.base_messages.specs.declared.message.Message.TheVariants as message
use Rattle.base_messages.specs.declared.message.Reply.{Reply}
use Rattle.client_core.specs.Clients.{is_asked_again}
use Rattle.world_base.specs.ClientTurns.{about, answered, asks_again, goes, greatest, lost, request_of, reset, reset_by, told_by_message}
use Rattle.world_base.specs.declared.client.ClientPlan.{ClientPlan}
use Rattle.world_base.specs.declared.client.ClientState.{ClientState}
use Rattle.world_base.specs.declared.client.Present.{Present}

greatest_append : (t : ℕ) (xs ys : List ℕ) → greatest t (xs ++ ys) ≡ greatest (greatest t xs) ys
unfolding greatest
greatest_append t [] ys = refl
greatest_append t (x ∷ xs) ys = greatest_append (max t x) xs ys

-- one epoch after another is heard of
pub told_both : (t r s : ℕ) (xs ys told : List ℕ) → r ≡ greatest t xs → told ≡ ys → s ≡ greatest r told → s ≡ greatest t (xs ++ ys)
told_both t r s xs ys told first same second =
    second ∙ ap (λ r. greatest r told) first ∙ ap (λ z. greatest (greatest t xs) z) same ∙ sym (greatest_append t xs ys)

told_nothing :
    (m : Message)
    → ((x : AttemptId) (op group : ℕ) (e : Option Epoch) (r : Reply) → m ≡ message.Fetched x op group e r → ⊥)
    → ((x : AttemptId) (e : Option Epoch) (how : Outcome) → m ≡ message.Ended x e how → ⊥)
    → ((t : Epoch) → m ≡ message.Tell t → ⊥)
    → told_by_message m ≡ []
told_nothing (message.Fetched x op group e r) f d t = absurd (f x op group e r refl)
told_nothing (message.Ended x e how) f d t = absurd (d x e how refl)
told_nothing (message.Tell e) f d t = absurd (t e refl)
told_nothing m f d t = refl

-- a message that tells of no epoch leaves the tracker
pub told_none :
    (t : ℕ) (m : Message)
    → ((x : AttemptId) (op group : ℕ) (e : Option Epoch) (r : Reply) → m ≡ message.Fetched x op group e r → ⊥)
    → ((x : AttemptId) (e : Option Epoch) (how : Outcome) → m ≡ message.Ended x e how → ⊥)
    → ((e : Epoch) → m ≡ message.Tell e → ⊥)
    → t ≡ greatest t (told_by_message m)
unfolding greatest
told_none t m f d e = ap (λ told. greatest t told) (sym (told_nothing m f d e))

about_rolled : (target : ℕ) (down : Bool) (m : Message) → about (own.roll-Message (own.Message-F.Reset target down m)) ≡ request_of m
unfolding own.roll-Message denote.Hole.Carrier.roll denote.Hole.Carrier.hidden block.hidden-the_row-Message-0
about_rolled target down m = refl

-- a lost request is what its reset is about
pub about_reset : (target : ℕ) (down : Bool) (m : Message) → about (Reset target down m) ≡ request_of m
about_reset target down m = ap about (sym (message.rolls-Reset target down m)) ∙ about_rolled target down m

answered_rolled :
    (p : ClientPlan) (c : ClientState) (a : Present) (target : ℕ) (down : Bool) (m : Message)
    → answered p c a (own.roll-Message (own.Message-F.Reset target down m)) ≡ reset_by p c (record a { waits = false }) target down m
unfolding own.roll-Message denote.Hole.Carrier.roll denote.Hole.Carrier.hidden block.hidden-the_row-Message-0
answered_rolled p c a target down m = refl

-- and it is what its reset answers
pub answered_reset :
    (p : ClientPlan) (c : ClientState) (a : Present) (target : ℕ) (down : Bool) (m : Message)
    → answered p c a (Reset target down m) ≡ reset_by p c (record a { waits = false }) target down m
answered_reset p c a target down m = ap (answered p c a) (sym (message.rolls-Reset target down m)) ∙ answered_rolled p c a target down m

-- what became of some requests is asked, and others are lost
pub reset_again : (p : ClientPlan) (c : ClientState) (a : Present) (target : ℕ) (m : Message) → is_asked_again m ≡ true → reset p c a target m ≡ asks_again p c a target
reset_again p c a target (message.Commit x e first tracker ws) h = refl
reset_again p c a target (message.Ask x) h = refl
reset_again p c a target m h = absurd (cc)

pub reset_lost : (p : ClientPlan) (c : ClientState) (a : Present) (target : ℕ) (m : Message) → is_asked_again m ≡ false → reset p c a target m ≡ lost p c a
reset_lost p c a target (message.Commit x e first tracker ws) h = absurd (cc)
reset_lost p c a target (message.Ask x) h = absurd (cc)
reset_lost p c a target m h = refl

reset_same : (target : ℕ) (down : Bool) (place : _) (m : Message) (rest : _) → message.Reset' target down place (more_of-Message m rest) ≡ Reset target down m
unfolding own.roll-Message denote.Hole.Carrier.roll denote.Hole.Carrier.hidden block.hidden-the_row-Message-0
reset_same target down place m end_of-Message = refl ∙ message.rolls-Reset target down m

-- other messages answer nothing
pub answered_other :
    (p : ClientPlan) (c : ClientState) (a : Present) (m : Message)
    → ((x : AttemptId) (op group : ℕ) (e : Option Epoch) (r : Reply) → m ≡ message.Fetched x op group e r → ⊥)
    → ((x : AttemptId) (e : Option Epoch) (how : Outcome) → m ≡ message.Ended x e how → ⊥)
    → ((target : ℕ) (down : Bool) (r : Message) → m ≡ Reset target down r → ⊥)
    → goes c ≡ answered p c a m
answered_other p c a (message.Fetched x op group e r) f d r' = absurd (f x op group e r refl)
answered_other p c a (message.Ended x e how) f d r = absurd (d x e how refl)
answered_other p c a (message.Reset' target down place (more_of-Message m rest)) f d r = absurd (r target down m (reset_same target down place m rest))
answered_other p c a m f d r = refl
