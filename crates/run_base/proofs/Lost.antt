-- The letter that tells of a loss.
use Rattle.std.specs.Prelude.{ℕ, ◌≡◌, ◌==◌, ◌&&◌, not, Bool, true, false, refl}
use Rattle.std.proofs.Common.{◌∙◌, ap, sym, arith}
use Rattle.std.proofs.lemmas.Bool.Decides.{nat_tests}
use Rattle.base_messages.specs.declared.message.Message.{Message, Reset, end_of-Message, more_of-Message}
use Rattle.base_messages.specs.declared.message.Message as own
use Rattle.base_messages.specs.declared.message.Message.TheBlock as block
use Rattle.base_messages.specs.declared.message.Message.TheVariants as message
use Rattle.world_base.specs.declared.letter.Letter.{Letter}
use Rattle.world_base.specs.Letters.{reset_message}
use Rattle.world_base.specs.Stops.{is_to, reset_letter}

reset-rolled : (t : ℕ) (down : Bool) (q : Message) → reset_message t down q ≡ own.roll-Message (own.Message-F.Reset t down q)
unfolding own.roll-Message denote.Hole.Carrier.roll denote.Hole.Carrier.hidden block.hidden-the_row-Message-0
reset-rolled t down q = refl

-- the one that is made is the one of the definition
reset-is : (t : ℕ) (down : Bool) (q : Message) → Reset t down q ≡ reset_message t down q
reset-is t down q = sym (reset-rolled t down q ∙ message.rolls-Reset t down q)

same-number : (t : ℕ) (l : Letter) → is_to t l ≡ true → t ≡ l.to.number
same-number t l is = by l.to.client is
  where
    by : (b : Bool) → not b && (l.to.number == t) ≡ true → t ≡ l.to.number
    by true h = let no : ⊥ = cc in absurd no
    by false h = grind (arith, nat_tests)

pub reset-made : (t : ℕ) (down : Bool) (l : Letter) (q : Message) → is_to t l ≡ true → q ≡ l.message → ◌≡◌ {A = Letter} (record { from = l.to; to = l.from; message = Reset t down q }) (reset_letter down l)
reset-made t down l q is same =
    ap (λ m. record { from = l.to; to = l.from; message = m }) (ap (Reset t down) same ∙ reset-is t down l.message ∙ ap (λ n. reset_message n down l.message) (same-number t l is))
