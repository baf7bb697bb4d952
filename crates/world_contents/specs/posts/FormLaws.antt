-- What is asked and told in form, a target can hear; and what is sent so, or lost, is in flight in form.
use Rattle.std.specs.Prelude.{ℕ, ◌≡◌, ◌⊎◌, ◌<◌, Bool, true, false, Some, None, refl}
use Rattle.std.proofs.Common.{inl, inr, sym, ◌∙◌, subst}
use Rattle.base_messages.specs.declared.message.Message.{Message}
use Rattle.base_messages.specs.declared.message.Message.TheVariants as message
use Rattle.base_messages.specs.declared.message.Post.{Post}
use Rattle.world_commit.specs.world_base.declared.letter.Letter.{Letter}
use Rattle.world_commit.specs.world_base.declared.target.TargetPlan.{TargetPlan}
use Rattle.world_commit.specs.world_base.Letters.{client, letter_of, reset_message, target}
use Rattle.world_commit.specs.world_base.Stops.{reset_letter}
use Rattle.world_contents.specs.posts.Forms.{IsAsked, IsBetween, IsCollecting, IsInForm, IsLetter, IsOfClient, IsOfTarget, IsTold, is_collecting, is_of_client, is_told}

-- what a client asks has the form of what is heard
abbrev pub AskedIsHeard : Type 0
AskedIsHeard = (t : TargetPlan) (m : Message) → IsAsked t m → IsInForm t m

-- and so has what another target tells or asks
abbrev pub BetweenIsHeard : Type 0
BetweenIsHeard = (t : TargetPlan) (m : Message) → IsBetween t.targets m → IsInForm t m

-- What a client posts is a letter in form.
abbrev pub ClientsSendLetters : Type 0
ClientsSendLetters = (plans : ℕ → TargetPlan) (n : ℕ) (q : Post) → IsOfClient plans q → IsLetter plans (letter_of (client n) q)

-- And so is what one of at most 64 targets posts, each of which is made for as many.
abbrev pub TargetsSendLetters : Type 0
TargetsSendLetters = (plans : ℕ → TargetPlan) (targets t : ℕ) (q : Post) → t < 64 → ((u : ℕ) → (plans u).targets ≡ targets) → IsOfTarget targets q → IsLetter plans (letter_of (target t) q)

-- Who sent a letter in form to one of at most 64 targets, and is told that it got no answer, is told so by a letter in form.
abbrev pub ResetsAreLetters : Type 0
ResetsAreLetters = (plans : ℕ → TargetPlan) (down : Bool) (l : Letter) → l.to.client ≡ false → l.to.number < 64 → IsLetter plans l → IsLetter plans (reset_letter down l)

-- ---- messages

pub asked-is-heard : AskedIsHeard
asked-is-heard t (message.Fetch x op group ep first tracker r snapshot) k = inl k
asked-is-heard t (message.Commit x ep first tracker ws) k = inl k
asked-is-heard t (message.Ask x) k = inr (inl k)
asked-is-heard t (message.Snap x c name tracker) k = inr (inr k)
asked-is-heard t (message.Prune x c (Some tracker) None) k = inr (inr k)
asked-is-heard t m k = absurd k

pub between-is-heard : BetweenIsHeard
between-is-heard t (message.Prepare e first ws inc) k = inl k
between-is-heard t (message.Ack x inc refusal) k = inl k
between-is-heard t (message.Mark inc marks) k = inl k
between-is-heard t (message.Marked inc ids) k = inl k
between-is-heard t (message.Query x ask) k = inl k
between-is-heard t (message.Verdict x ask inc v) k = inl k
between-is-heard t (message.Status x inc) k = inr (inl k)
between-is-heard t (message.StatusIs x inc how) k = inr (inl k)
between-is-heard t (message.Freeze x c s) k = inr (inr k)
between-is-heard t (message.Prune x c None (Some g)) k = inr (inr k)
between-is-heard t (message.Held x refusal) k = inr (inr k)
between-is-heard t m k = absurd k

-- ---- who sent it

-- what a client asks is of a client
pub asked-of_client : (t : TargetPlan) (m : Message) → IsAsked t m → is_of_client m ≡ true
asked-of_client t (message.Fetch x op group ep first tracker r snapshot) k = refl
asked-of_client t (message.Commit x ep first tracker ws) k = refl
asked-of_client t (message.Ask x) k = refl
asked-of_client t (message.Snap x c name tracker) k = refl
asked-of_client t (message.Prune x c (Some tracker) None) k = refl
asked-of_client t m k = absurd k

-- and what targets tell each other is not
pub between-of_target : (targets : ℕ) (m : Message) → IsBetween targets m → is_of_client m ≡ false
between-of_target targets (message.Fetch x op group ep first tracker r snapshot) k = absurd k
between-of_target targets (message.Commit x ep first tracker ws) k = absurd k
between-of_target targets (message.Ask x) k = absurd k
between-of_target targets (message.Snap x c name tracker) k = absurd k
between-of_target targets (message.Prune x c (Some tracker) None) k = absurd k
between-of_target targets m k = refl

-- what clients are told where nothing stops they are told where targets may stop
told-still : (plans : ℕ → TargetPlan) (m : Message) → is_told m ≡ true → IsTold plans m
told-still plans (message.Fetched x op group ep reply) k = tt
told-still plans (message.Ended x ep how) k = tt
told-still plans (message.Tell tracker) k = tt
told-still plans m k = let no : ⊥ = cc in absurd no

-- ---- letters

pub clients-send-letters : ClientsSendLetters
clients-send-letters plans n q k = record {
  few = λ from. (let no : ⊥ = cc in absurd no);
  asked = λ to. asked-is-heard (plans q.to.number) q.message (k.asked to);
  kind = λ to. asked-of_client (plans q.to.number) q.message (k.asked to);
  told = λ to. told-still plans q.message (k.told to);
}

pub targets-send-letters : TargetsSendLetters
targets-send-letters plans targets t q low many k = record {
  few = λ from. low;
  asked = λ to. between-is-heard (plans q.to.number) q.message (subst (λ n. IsBetween n q.message) (sym (many q.to.number)) (k.between to));
  kind = λ to. between-of_target targets q.message (k.between to);
  told = λ to. told-still plans q.message (k.told to);
}

-- ---- what got no answer

-- what a target hears, and a client asks, is asked in form
asked-by_client : (t : TargetPlan) (m : Message) → IsInForm t m → is_of_client m ≡ true → IsAsked t m
asked-by_client t (message.Fetch x op group ep first tracker r snapshot) (inl k) is = k
asked-by_client t (message.Fetch x op group ep first tracker r snapshot) (inr (inl k)) is = absurd k
asked-by_client t (message.Fetch x op group ep first tracker r snapshot) (inr (inr k)) is = absurd k
asked-by_client t (message.Commit x ep first tracker ws) (inl k) is = k
asked-by_client t (message.Commit x ep first tracker ws) (inr (inl k)) is = absurd k
asked-by_client t (message.Commit x ep first tracker ws) (inr (inr k)) is = absurd k
asked-by_client t (message.Ask x) k is = tt
asked-by_client t (message.Snap x c name tracker) k is = tt
asked-by_client t (message.Prune x c (Some tracker) None) k is = tt
asked-by_client t m k is = let no : ⊥ = cc in absurd no

-- what another target asks is for a snapshot or an aggregation, or it isn't
collects-or-not : (t : TargetPlan) (m : Message) → IsInForm t m → is_of_client m ≡ false → (is_collecting m ≡ false) ⊎ IsCollecting m
collects-or-not t (message.Freeze x c s) k of_target = inr tt
collects-or-not t (message.Prune x c None (Some g)) k of_target = inr tt
collects-or-not t (message.Prune x c None None) (inl k) of_target = absurd k
collects-or-not t (message.Prune x c None None) (inr (inl k)) of_target = absurd k
collects-or-not t (message.Prune x c None None) (inr (inr k)) of_target = absurd k
collects-or-not t (message.Prune x c (Some tracker) (Some g)) (inl k) of_target = absurd k
collects-or-not t (message.Prune x c (Some tracker) (Some g)) (inr (inl k)) of_target = absurd k
collects-or-not t (message.Prune x c (Some tracker) (Some g)) (inr (inr k)) of_target = absurd k
collects-or-not t (message.Prune x c (Some tracker) None) k of_target = let no : ⊥ = cc in absurd no
collects-or-not t m k of_target = inl refl

-- so who asked for it, and gets no answer, hears so in form
lost-in_form : (t : TargetPlan) (by : ℕ) (down : Bool) (m : Message) → by < 64 → (is_collecting m ≡ false) ⊎ IsCollecting m → IsInForm t (reset_message by down m)
lost-in_form t by down m few (inl none) = inr (inl (few, none))
lost-in_form t by down m few (inr some) = inr (inr (few, some))

pub resets-are-letters : ResetsAreLetters
resets-are-letters plans down l to low k = record {
  few = λ target. low;
  asked = λ target. lost-in_form (plans l.from.number) l.to.number down l.message low (collects-or-not (plans l.to.number) l.message (k.asked to) (k.kind to ∙ target));
  kind = λ target. sym to;
  told = λ client. asked-by_client (plans l.to.number) l.message (k.asked to) (let is = k.kind to in let one : is_of_client l.message ≡ true = cc in one);
}
