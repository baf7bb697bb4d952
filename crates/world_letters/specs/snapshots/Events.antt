-- Each event of a run keeps it so.
use Rattle.std.specs.Prelude.{ℕ, ◌+◌, ◌≡◌, ◌⊎◌, ◌<◌, ◌++◌, Bool, true, false, List, [], ◌∷◌, drop, filter, map, take, slice_get, Option, Some, None, refl, if◌then◌else◌}
use Rattle.std.specs.List.{position_or_len}
use Rattle.std.proofs.Common.{append-nil, sym, ◌∙◌, ap, subst, inl, inr}
use Rattle.std.proofs.Math.ListN.{set}
use Rattle.std.proofs.lemmas.List.{take-append-drop}
use Rattle.base_types.specs.declared.entry.Entry.{Entry}
use Rattle.base_types.specs.declared.epoch.Epoch.{Epoch}
use Rattle.base_types.specs.declared.id.AttemptId.{AttemptId}
use Rattle.base_types.specs.declared.report.Attempt.{Attempt}
use Rattle.base_types.specs.declared.report.Line.{Line}
use Rattle.base_types.specs.declared.report.Line.TheVariants as line
use Rattle.base_types.specs.declared.script.Command.{Command}
use Rattle.base_types.specs.Scripts.{is_numbered}
use Rattle.base_messages.specs.declared.actor.ActorId.{ActorId}
use Rattle.base_messages.specs.declared.message.Message.{Message, more_of-Message}
use Rattle.base_messages.specs.declared.message.Message.TheVariants as message
use Rattle.base_messages.specs.declared.message.Post.{Post}
use Rattle.std.proofs.lemmas.Bool.{cases_eq}
use Rattle.world_base.specs.model_laws.Members.{Has, contains-from_has, has-cases, has-from_contains, has-from_filter, has-from_map, has-left, has-right}
use Rattle.daos_model.specs.Changes.{reopened}
use Rattle.daos_model.specs.declared.durable.Durable.{Durable}
use Rattle.daos_model.specs.Transactions.{command_of, numbered, numbered_at}
use Rattle.world_base.specs.dtx_base.Leading.{is_led, is_open, to_target}
use Rattle.world_base.specs.dtx_base.Members.{other_members}
use Rattle.world_base.specs.declared.client.ClientState.{ClientState}
use Rattle.world_base.specs.declared.client.Present.{Present}
use Rattle.world_base.specs.declared.did.Did.{Did}
use Rattle.world_base.specs.declared.letter.Letter.{Letter}
use Rattle.world_base.specs.declared.target.Collection.{Collection}
use Rattle.world_base.specs.declared.target.TargetState.{TargetState}
use Rattle.world_base.specs.declared.world.World.{World}
use Rattle.world_base.specs.ClientTurns.{attempt_id, command_at, heard, listed, moved, waits}
use Rattle.world_base.specs.Events as events
use Rattle.world_base.specs.Events.{ByClient, ByTarget, Event, Rules, TargetHearsBy, ToClient, ToTarget, client_plan, commands_or_none, kept, target_plan, with_epoch}
use Rattle.world_base.specs.Further.{HearsFurther}
use Rattle.world_base.specs.Letters.{asked_after, asked_with, client, is_answer_to, is_answerable, letter_of, letters_of, target, without_first}
use Rattle.world_base.specs.Snapshots.{freeze_to, prune_to}
use Rattle.world_base.specs.Statuses.{opening_posts, status_to, statuses_for, statuses_of}
use Rattle.world_base.specs.StepLaws.{by-hearing, by-next, set-is, set-there}
use Rattle.world_base.specs.Steps.{KeptByCounting, KeptByHearing, KeptByMoves}
use Rattle.world_base.specs.Stops.{AtWork, CutOf, Draws, Fails, Further, GivenUp, Happening, Hearing, HearsMore, IdleWork, IsCut, IsInHand, NumbersDrawn, OpeningFails, Opens, Plainly, TargetCut, TargetGivenUp, TargetOpens, WorldEvent, is_not_to, is_not_to_down, is_to, is_to_down, reset_letter, resets, restart_line, stops_so_far, swept, with_lost}
use Rattle.world_base.specs.Roles.{is_prepared}
use Rattle.world_letters.specs.clients.AnswerLaws.{numbered-here}
use Rattle.world_letters.specs.clients.Standing.{HasTold}
use Rattle.world_letters.specs.endings.Clients.{IsQuestion, heard-asks}
use Rattle.world_letters.specs.endings.Posts.{further-sent}
use Rattle.world_letters.specs.endings.Telling.{AsksAgain, AsksFreezes, AsksPrunes, IsLost, IsSent, Quietly, TellsAfter, is_collected}
use Rattle.world_letters.specs.epochs.Epochs.{ClientsStand}
use Rattle.world_letters.specs.epochs.EventLaws.{stands-by-counting, stands-by-hearing, stands-by-moves}
use Rattle.world_letters.specs.lines.EndingLaws.{all-hear-tell, idle-tells}
use Rattle.world_letters.specs.lines.Lines.{Endings, TellsPlainly}
use Rattle.world_letters.specs.lives.ClientLines.{AreTries, heard-own, listed-own, moved-own}
use Rattle.world_letters.specs.lives.Events.{as-added}
use Rattle.world_letters.specs.lives.TurnLines.{AreTurnLines, further-lines, idle-lines, plain-lines}
use Rattle.world_letters.specs.snapshots.Cuts.{cut-comes, idle-comes}
use Rattle.world_letters.specs.snapshots.Further.{LeavesSo}
use Rattle.world_letters.specs.snapshots.FurtherLaws.{further-leaves}
use Rattle.world_letters.specs.snapshots.Makings.{AsksSo, CollectsSo, ComesOf, IsSnapOf, IsSo, Makings, asks-more, collects-more, comes-more, so-more}
use Rattle.world_letters.specs.snapshots.Memories.{idle-same, plain-same}
use Rattle.world_letters.specs.talks.AskLaws.{move-is, waiting-rests}
use Rattle.world_letters.specs.talks.Asked.{ARead, ASnapshot, AnAggregation, Asked, Asking, IsMove, ItsWrites, Silent, Telling}
use Rattle.world_letters.specs.talks.TalkLaws.{left-is-among, taken-is-among}

-- ---- what is without an answer was so before, or was sent

left-was : {T : Type 0} (p : T → Bool) (xs : List T) (x : T) → Has x (without_first p xs) → Has x xs
left-was p xs x i = elim (has-cases (take n xs) (drop (n + 1) xs) x i) [
  | inl j ↦ subst (Has x) (take-append-drop n xs) (has-left (take n xs) (drop n xs) x j)
  | inr j ↦ subst (Has x) (take-append-drop (n + 1) xs) (has-right (take (n + 1) xs) (drop (n + 1) xs) x j)
]
  where
    n : ℕ
    n = position_or_len p xs

asked-once : (asked : List Letter) (l n : Letter) → Has n (asked_with asked l) → Has n asked ⊎ (n ≡ l)
unfolding asked_with
asked-once asked l n i = by (is_answerable l.message) i
  where
    by : (b : Bool) → Has n (if b then asked ++ l ∷ [] else without_first (is_answer_to l) asked) → Has n asked ⊎ (n ≡ l)
    by true i = elim (has-cases asked (l ∷ []) n i) [
      | inl before ↦ inl before
      | inr (inl same) ↦ inr same
      | inr (inr none) ↦ absurd none
    ]
    by false i = inl (left-was (is_answer_to l) asked n i)

asked-was : (asked ls : List Letter) (n : Letter) → Has n (asked_after asked ls) → Has n asked ⊎ Has n ls
asked-was asked [] n i = inl i
asked-was asked (l ∷ ls) n i = elim (asked-was (asked_with asked l) ls n i) [
  | inl j ↦ elim (asked-once asked l n j) [ inl before ↦ inl before | inr new ↦ inr (inl new) ]
  | inr new ↦ inr (inr new)
]

-- ---- posts

-- what is sent is so
abbrev PostsSo : Rules → List (AttemptId × Epoch) → List Post → Type 0
PostsSo r is posts = (q : Post) → Has q posts → IsSo r is q.message × AsksSo r is q.message

plain-so : (r : Rules) (is : List (AttemptId × Epoch)) (m : Message) → TellsPlainly m → IsSo r is m × AsksSo r is m
plain-so r is (message.Fetched x op group e b) h = (tt, tt)
plain-so r is (message.Ended x e how) h = (tt, tt)
plain-so r is (message.Ack x inc refusal) h = (tt, tt)
plain-so r is (message.Prepare e first ws inc) h = (tt, tt)
plain-so r is (message.Mark inc marks) h = (tt, tt)
plain-so r is (message.Marked inc ids) h = (tt, tt)
plain-so r is (message.Query x ask) h = (tt, tt)
plain-so r is (message.Verdict x ask inc v) h = (tt, tt)
plain-so r is m h = absurd h

after-so : (r : Rules) (is : List (AttemptId × Epoch)) (m : Message) → TellsAfter m → IsSo r is m × AsksSo r is m
after-so r is (message.Fetched x op group e b) h = (tt, tt)
after-so r is (message.Ended x e how) h = (tt, tt)
after-so r is (message.Ack x inc refusal) h = (tt, tt)
after-so r is (message.Held x refusal) h = (tt, tt)
after-so r is (message.Prepare e first ws inc) h = (tt, tt)
after-so r is (message.Mark inc marks) h = (tt, tt)
after-so r is (message.Marked inc ids) h = (tt, tt)
after-so r is (message.Query x ask) h = (tt, tt)
after-so r is (message.Verdict x ask inc v) h = (tt, tt)
after-so r is (message.Status x inc) h = (tt, tt)
after-so r is (message.StatusIs x inc how) h = (tt, tt)
after-so r is m h = absurd h

-- what is asked again was asked so
again-so : (r : Rules) (is : List (AttemptId × Epoch)) (q asked : Message) → IsLost q asked → IsSo r is q → AsksSo r is asked
again-so r is (message.Reset' t down place (more_of-Message m rest)) asked lost so = subst (AsksSo r is) lost so
again-so r is q asked lost so = absurd lost

collected-so : (r : Rules) (is : List (AttemptId × Epoch)) (m : Message) → is_collected m ≡ true → AsksSo r is m → IsSo r is m
collected-so r is (message.Freeze x c s) kind so = so
collected-so r is (message.Prune x c (Some tracker) None) kind so = so
collected-so r is (message.Prune x c None (Some g)) kind so = so
collected-so r is (message.Prune x c None None) kind so = tt
collected-so r is (message.Prune x c (Some tracker) (Some g)) kind so = tt
collected-so r is m kind so = let no : ⊥ = cc in absurd no

mapped-so : (r : Rules) (is : List (AttemptId × Epoch)) (to : ℕ → Post) (ts : List ℕ) → ((t : ℕ) → IsSo r is (to t).message × AsksSo r is (to t).message) → PostsSo r is (map to ts)
mapped-so r is to ts each q i = let z = has-from_map to ts q i in subst (λ x. IsSo r is x.message × AsksSo r is x.message) z.2 (each z.0)

sent-so : (r : Rules) (is : List (AttemptId × Epoch)) (q : Message) (did : Did) → IsSo r is q → ((x : AttemptId) (e : Epoch) → did.issued ≡ Some (x, e) → Has (x, e) is) → IsSent q did → PostsSo r is did.posts
sent-so r is q did so issued (Quietly after) = λ s i. after-so r is s.message (after s i)
sent-so r is q did so issued (AsksFreezes x c name tracker e ts same posts one) =
    let made : IsSnapOf r x name c = subst (IsSo r is) same so in
    subst (PostsSo r is) (sym posts) (mapped-so r is (freeze_to x c e) ts (λ t. ((issued x e one, (name, made)), (issued x e one, (name, made)))))
sent-so r is q did so issued (AsksPrunes x c tracker g ts same posts one) =
    let made = subst (IsSo r is) same so in
    subst (PostsSo r is) (sym posts) (mapped-so r is (prune_to x c g) ts (λ t. ((issued x g one, made), (issued x g one, made))))
sent-so r is q did so issued (AsksAgain t asked lost kind posts) = subst (PostsSo r is) (sym posts) again
  where
    asks : AsksSo r is asked
    asks = again-so r is q asked lost so

    again : PostsSo r is (to_target t asked ∷ [])
    again s (inl same) = subst (λ x. IsSo r is x.message × AsksSo r is x.message) (sym same) (collected-so r is asked kind asks, asks)
    again s (inr none) = absurd none

-- ---- a world after an event

-- where these letters were left in flight and these were sent, so many more are issued, and these lines were added
record Follows (r : Rules) (w v : World) : Type 0 where
  rest : List Letter
  actor : ActorId
  posts : List Post
  more : List (AttemptId × Epoch)
  told : List Line
  were : (l : Letter) → Has l rest → Has l w.messages
  messages : v.messages ≡ rest ++ letters_of actor posts
  asked : v.asked ≡ asked_after w.asked (letters_of actor posts)
  issued : v.issued ≡ w.issued ++ more
  lines : v.lines ≡ w.lines ++ told
  sent : PostsSo r (w.issued ++ more) posts
  come : (l : Line) → Has l told → ComesOf r (w.issued ++ more) l
  collecting : (t : ℕ) (s : TargetState) (c : Collection) → slice_get v.targets t ≡ Some s → Has c s.memory.collecting → CollectsSo r (w.issued ++ more) c

follows-keeps : (r : Rules) (w v : World) → Makings r w → Follows r w v → Makings r v
follows-keeps r w v k f = record {
  letters = λ l i. elim (has-cases f.rest (letters_of f.actor f.posts) l (subst (Has l) f.messages i)) [
    | inl j ↦ subst (λ is. IsSo r is l.message) (sym f.issued) (so-more r w.issued (w.issued ++ f.more) more l.message (k.letters l (f.were l j)))
    | inr j ↦ (let z = has-from_map (letter_of f.actor) f.posts l j in subst (λ is. IsSo r is l.message) (sym f.issued) (subst (λ x. IsSo r (w.issued ++ f.more) x.message) z.2 (f.sent z.0 z.1).0))
  ];
  asked = λ l i. elim (asked-was w.asked (letters_of f.actor f.posts) l (subst (Has l) f.asked i)) [
    | inl j ↦ subst (λ is. AsksSo r is l.message) (sym f.issued) (asks-more r w.issued (w.issued ++ f.more) more l.message (k.asked l j))
    | inr j ↦ (let z = has-from_map (letter_of f.actor) f.posts l j in subst (λ is. AsksSo r is l.message) (sym f.issued) (subst (λ x. AsksSo r (w.issued ++ f.more) x.message) z.2 (f.sent z.0 z.1).1))
  ];
  collecting = λ t s c at i. subst (λ is. CollectsSo r is c) (sym f.issued) (f.collecting t s c at i);
  lines = λ l i. elim (has-cases w.lines f.told l (subst (Has l) f.lines i)) [
    | inl j ↦ subst (λ is. ComesOf r is l) (sym f.issued) (comes-more r w.issued (w.issued ++ f.more) more l (k.lines l j))
    | inr j ↦ subst (λ is. ComesOf r is l) (sym f.issued) (f.come l j)
  ];
}
  where
    more : (x : AttemptId) (e : Epoch) → Has (x, e) w.issued → Has (x, e) (w.issued ++ f.more)
    more x e i = has-left w.issued f.more (x, e) i

-- what targets collect, where one was set
set-collects : (r : Rules) (is : List (AttemptId × Epoch)) (w : World) (ts : List TargetState) (t : ℕ) (z : TargetState) → ts ≡ set w.targets t z → ((c : Collection) → Has c z.memory.collecting → CollectsSo r is c)
    → ((u : ℕ) (s : TargetState) (c : Collection) → slice_get w.targets u ≡ Some s → Has c s.memory.collecting → CollectsSo r is c) → (u : ℕ) (s : TargetState) (c : Collection) → slice_get ts u ≡ Some s → Has c s.memory.collecting → CollectsSo r is c
set-collects r is w ts t z targets new old u s c at i = by (cases_eq u t)
  where
    there : slice_get (set w.targets t z) u ≡ Some s
    there = ap (λ xs. slice_get xs u) (sym targets) ∙ at

    by : (u ≡ t) ⊎ ((u ≡ t) → ⊥) → CollectsSo r is c
    by (inl same) = let is-it : z ≡ s = set-is w.targets t z s (subst (λ n. slice_get (set w.targets t z) n ≡ Some s) same there) in new c (subst (λ x. Has c x.memory.collecting) (sym is-it) i)
    by (inr apart) = old u s c (sym (set-there w.targets t u z apart) ∙ there) i

-- ---- clients

-- the command of an attempt that a client is at
pub command-is : (r : Rules) (n : ℕ) (c : ClientState) (a : Present) (d : Command) (attempts : List Attempt) → HasTold (client_plan r n) c attempts → command_at (client_plan r n) c ≡ Some d → is_numbered d ≡ true
    → command_of r.script (attempt_id (client_plan r n) c a) ≡ Some d
unfolding command_of
command-is r n c a d attempts told at number = at-option (slice_get r.script.clients n) c.command ∙ ap (slice_get (numbered (client_plan r n).commands)) told.numbers ∙ numbered-here (client_plan r n) c.place d at number
  where
    at-option : (o : Option (List Command)) (k : ℕ) → numbered_at k o ≡ slice_get (numbered (commands_or_none o)) k
    at-option None k = refl
    at-option (Some list) k = refl

asks-so : (r : Rules) (is : List (AttemptId × Epoch)) (n : ℕ) (k : Epoch) (c : ClientState) (a : Present) (q : Post) (attempts : List Attempt) → HasTold (client_plan r n) c attempts → Asked (client_plan r n) k c a q → IsSo r is q.message × AsksSo r is q.message
asks-so r is n k c a q attempts told (ARead ops turns snapshot op rd at here asks says) = subst (λ x. IsSo r is x.message × AsksSo r is x.message) (sym says) (tt, tt)
asks-so r is n k c a q attempts told (ItsWrites ops turns snapshot w ws at last all says) = subst (λ x. IsSo r is x.message × AsksSo r is x.message) (sym says) (tt, tt)
asks-so r is n k c a q attempts told (ASnapshot name cont at says) =
    let made = command-is r n c a _ attempts told at refl in subst (λ x. IsSo r is x.message × AsksSo r is x.message) (sym says) (made, made)
asks-so r is n k c a q attempts told (AnAggregation cont at says) =
    let made = command-is r n c a _ attempts told at refl in subst (λ x. IsSo r is x.message × AsksSo r is x.message) (sym says) (made, made)

one-so : (r : Rules) (is : List (AttemptId × Epoch)) (o : Option Post) (q : Post) → o ≡ Some q → IsSo r is q.message × AsksSo r is q.message → PostsSo r is (listed o)
one-so r is o q same so s i = by (subst (λ z. Has s (listed z)) same i)
  where
    by : Has s (q ∷ []) → IsSo r is s.message × AsksSo r is s.message
    by (inl it) = subst (λ x. IsSo r is x.message × AsksSo r is x.message) (sym it) so
    by (inr none) = absurd none

none-so : (r : Rules) (is : List (AttemptId × Epoch)) (o : Option Post) → o ≡ None → PostsSo r is (listed o)
none-so r is o none s i = absurd (subst (λ z. Has s (listed z)) none i)

move-so : (r : Rules) (is : List (AttemptId × Epoch)) (n : ℕ) (c : ClientState) (attempts : List Attempt) → HasTold (client_plan r n) c attempts → PostsSo r is (listed (moved (client_plan r n) c).post)
move-so r is n c attempts told = by (waits c) refl
  where
    is-a : IsMove (client_plan r n) c (moved (client_plan r n) c) → PostsSo r is (listed (moved (client_plan r n) c).post)
    is-a (Silent free none) = none-so r is _ none
    is-a (Telling m none free says) = one-so r is _ _ says (tt, tt)
    is-a (Asking a q at asked says state) = one-so r is _ q says (asks-so r is n c.tracker c a q attempts told asked)

    by : (b : Bool) → waits c ≡ b → PostsSo r is (listed (moved (client_plan r n) c).post)
    by true h = none-so r is _ (ap (λ m. m.post) (waiting-rests (client_plan r n) c h))
    by false h = is-a (move-is (client_plan r n) c h)

question-so : (r : Rules) (is : List (AttemptId × Epoch)) (o : Option Post) → IsQuestion o → PostsSo r is (listed o)
question-so r is None asks s i = absurd i
question-so r is (Some q) asks s (inl same) = subst (λ m. IsSo r is m × AsksSo r is m) (sym (ap (λ x. x.message) same ∙ asks.1)) (tt, tt)
question-so r is (Some q) asks s (inr none) = absurd none

tries-come : (r : Rules) (is : List (AttemptId × Epoch)) (issued : List (AttemptId × Epoch)) (ls : List Line) → AreTries ls → (l : Line) → Has l (map (with_epoch issued) ls) → ComesOf r is l
tries-come r is issued ls own l i =
    let z = has-from_map (with_epoch issued) ls l i in
    let a = own z.0 z.1 in
    subst (ComesOf r is) (ap (with_epoch issued) (sym a.1) ∙ z.2) tt

-- clients stand at their commands, and all is so
record Both (r : Rules) (w : World) : Type 0 where
  stand : ClientsStand r w
  makings : Makings r w

client-follows : (r : Rules) (w v : World) (n : ℕ) (rest : List Letter) (posts : List Post) (ls : List Line) → v.targets ≡ w.targets → v.issued ≡ w.issued → ((l : Letter) → Has l rest → Has l w.messages) → v.messages ≡ rest ++ letters_of (client n) posts
    → v.asked ≡ asked_after w.asked (letters_of (client n) posts) → v.lines ≡ w.lines ++ map (with_epoch w.issued) ls → AreTries ls → PostsSo r w.issued posts → Makings r w → Follows r w v
client-follows r w v n rest posts ls targets issued were messages asked lines own so k = record {
  rest = rest;
  actor = client n;
  posts = posts;
  more = [];
  told = map (with_epoch w.issued) ls;
  were = were;
  messages = messages;
  asked = asked;
  issued = issued ∙ sym (append-nil w.issued);
  lines = lines;
  sent = subst (λ is. PostsSo r is posts) (sym (append-nil w.issued)) so;
  come = tries-come r (w.issued ++ []) w.issued ls own;
  collecting = λ t s c at i. subst (λ is. CollectsSo r is c) (sym (append-nil w.issued)) (k.collecting t s c (ap (λ ts. slice_get ts t) (sym targets) ∙ at) i);
}

module _ (r : Rules) (some : 0 < r.attempts) where
  both-moves : KeptByMoves r (Both r)
  both-moves w n c here b = record {
    stand = stands-by-moves r some w n c here b.stand;
    makings = follows-keeps r w _ b.makings
        (client-follows r w _ n w.messages (listed (moved (client_plan r n) c).post) (listed (moved (client_plan r n) c).line) refl refl (λ l i. i) refl refl refl (listed-own (moved (client_plan r n) c).line (moved-own (client_plan r n) c))
        (move-so r w.issued n c (b.stand n c here).0 (b.stand n c here).1) b.makings);
  }

  both-hearing : KeptByHearing r (Both r)
  both-hearing w n c l rest here awake takes to b = record {
    stand = stands-by-hearing r some w n c l rest here awake takes to b.stand;
    makings = follows-keeps r w _ b.makings
        (client-follows r w _ n rest (listed (heard (client_plan r n) c l.message).post) (listed (heard (client_plan r n) c l.message).line) refl refl
        (λ m i. has-from_contains w.messages m (left-is-among w.messages l rest m takes (contains-from_has rest m i))) refl refl refl
        (listed-own (heard (client_plan r n) c l.message).line (heard-own (client_plan r n) c l.message)) (question-so r w.issued _ (heard-asks (client_plan r n) c l.message)) b.makings);
  }

  both-counting : KeptByCounting (Both r)
  both-counting w n k c here b = record { stand = stands-by-counting r some w n k c here b.stand; makings = record { letters = b.makings.letters; asked = b.makings.asked; collecting = b.makings.collecting; lines = b.makings.lines } }

-- ---- targets

listed-has : (o : Option (AttemptId × Epoch)) (is : List (AttemptId × Epoch)) (x : AttemptId) (e : Epoch) → o ≡ Some (x, e) → Has (x, e) (is ++ events.listed o)
listed-has o is x e one = subst (λ z. Has (x, e) (is ++ events.listed z)) (sym one) (has-right is ((x, e) ∷ []) (x, e) (inl refl))

module _ (r : Rules) (some : 0 < r.attempts) (w : World) (k : Both r w) (ends : Endings w) where
  grown : (more : List (AttemptId × Epoch)) (c : Collection) → CollectsSo r w.issued c → CollectsSo r (w.issued ++ more) c
  grown more c h = collects-more r w.issued (w.issued ++ more) (λ x e i. has-left w.issued more (x, e) i) c h

  -- a turn without stops
  plain-keeps : (v : World) → Event r w v → Both r v
  plain-keeps v (ByClient g) = by-next r (Both r) (both-moves r some) (both-counting r some) w v k g
  plain-keeps v (ToClient g) = by-hearing r (Both r) (both-moves r some) (both-hearing r some) w v k g
  plain-keeps v (ToTarget g) = record {
    stand = λ n c at. k.stand n c (ap (λ x. slice_get x.clients n) (sym g.after) ∙ at);
    makings = follows-keeps r w v k.makings (record {
      rest = g.rest;
      actor = target g.t;
      posts = g.did.posts;
      more = events.listed g.did.issued;
      told = [];
      were = λ m i. has-from_contains w.messages m (left-is-among w.messages g.l g.rest m g.takes (contains-from_has g.rest m i));
      messages = ap (λ x. x.messages) g.after;
      asked = ap (λ x. x.asked) g.after;
      issued = ap (λ x. x.issued) g.after;
      lines = ap (λ x. x.lines) g.after ∙ ap (λ ls. w.lines ++ map (with_epoch w.issued) ls) (plain-lines (target_plan r g.t) g.s.opening g.s.memory g.reading g.l.from g.l.message (kept g.s) g.new (g.memory, g.did) g.turn);
      sent = λ q i. plain-so r _ q.message ((all-hear-tell (target_plan r g.t) g.s.opening g.s.memory g.reading g.l.from g.l.message (kept g.s) g.new (g.memory, g.did) (ends g.l (taken-is-among w.messages g.l g.rest g.takes)) g.turn).0 q i);
      come = λ l i. absurd i;
      collecting = set-collects r _ w v.targets g.t _ (ap (λ x. x.targets) g.after)
          (λ c i. grown _ c (k.makings.collecting g.t g.s c g.here (subst (Has c) (plain-same (target_plan r g.t) g.s.opening g.s.memory g.reading g.l.from g.l.message (kept g.s) g.new (g.memory, g.did) g.turn) i)))
          (λ u s c at i. grown _ c (k.makings.collecting u s c at i));
    });
  }
  plain-keeps v (ByTarget g) = record {
    stand = λ n c at. k.stand n c (ap (λ x. slice_get x.clients n) (sym g.after) ∙ at);
    makings = follows-keeps r w v k.makings (record {
      rest = w.messages;
      actor = target g.t;
      posts = g.did.posts;
      more = events.listed g.did.issued;
      told = [];
      were = λ m i. i;
      messages = ap (λ x. x.messages) g.after;
      asked = ap (λ x. x.asked) g.after;
      issued = ap (λ x. x.issued) g.after;
      lines = ap (λ x. x.lines) g.after ∙ ap (λ ls. w.lines ++ map (with_epoch w.issued) ls) (idle-lines g.settling (target_plan r g.t) g.s.memory g.turn.last g.new (g.memory, g.did) g.turn.ends);
      sent = λ q i. plain-so r _ q.message ((idle-tells g.settling (target_plan r g.t) g.s.memory g.turn.last g.new (g.memory, g.did) g.turn.ends).0 q i);
      come = λ l i. absurd i;
      collecting = set-collects r _ w v.targets g.t _ (ap (λ x. x.targets) g.after)
          (λ c i. grown _ c (k.makings.collecting g.t g.s c g.here (subst (Has c) (idle-same g.settling (target_plan r g.t) g.s.memory g.turn.last g.new (g.memory, g.did) g.turn.ends) i)))
          (λ u s c at i. grown _ c (k.makings.collecting u s c at i));
    });
  }

  -- a further message
  further-keeps : (v : World) → HearsMore r w v → Both r v
  further-keeps v f = record {
    stand = λ n c at. k.stand n c (ap (λ x. slice_get x.clients n) (sym g.after) ∙ at);
    makings = follows-keeps r w v k.makings (record {
      rest = g.rest;
      actor = target g.t;
      posts = g.did.posts;
      more = events.listed g.did.issued;
      told = g.did.lines;
      were = λ m i. has-from_contains w.messages m (left-is-among w.messages g.l g.rest m g.takes (contains-from_has g.rest m i));
      messages = ap (λ x. x.messages) g.after;
      asked = ap (λ x. x.asked) g.after;
      issued = ap (λ x. x.issued) g.after;
      lines = ap (λ x. x.lines) g.after ∙ ap (λ ls. w.lines ++ ls) (as-added g.t w.issued g.did.lines turn-lines.own);
      sent = sent-so r _ g.l.message g.did so issued (further-sent f.number (target_plan r g.t) g.s.opening g.s.memory g.reading g.l.from (kept g.s) g.new (g.memory, g.did) g.l.message (ends g.l (taken-is-among w.messages g.l g.rest g.takes)) g.turn);
      come = leaves.lines;
      collecting = set-collects r _ w v.targets g.t _ (ap (λ x. x.targets) g.after) leaves.collecting (λ u s c at i. grown _ c (k.makings.collecting u s c at i));
    });
  }
    where
      g : TargetHearsBy (HearsFurther f.number) r w v
      g = f.hears

      is : List (AttemptId × Epoch)
      is = w.issued ++ events.listed g.did.issued

      so : IsSo r is g.l.message
      so = so-more r w.issued is (λ x e i. has-left w.issued (events.listed g.did.issued) (x, e) i) g.l.message (k.makings.letters g.l (has-from_contains w.messages g.l (taken-is-among w.messages g.l g.rest g.takes)))

      issued : (x : AttemptId) (e : Epoch) → g.did.issued ≡ Some (x, e) → Has (x, e) is
      issued x e one = listed-has g.did.issued w.issued x e one

      turn-lines : AreTurnLines g.t f.number g.l.message g.did.lines
      turn-lines = further-lines f.number (target_plan r g.t) g.s.opening g.s.memory g.reading g.l.from g.l.message (kept g.s) g.new (g.memory, g.did) g.turn

      leaves : LeavesSo r is (g.memory, g.did)
      leaves = further-leaves r is (target_plan r g.t) g.s.opening g.s.memory g.reading g.l.from (kept g.s) g.new (g.memory, g.did) (λ c i. grown (events.listed g.did.issued) c (k.makings.collecting g.t g.s c g.here i)) issued f.number g.l.message so g.turn

-- ---- what is lost

lost-letter : (r : Rules) (is : List (AttemptId × Epoch)) (down : Bool) (qs : List Letter) → ((q : Letter) → Has q qs → AsksSo r is q.message) → (l : Letter) → Has l (map (reset_letter down) qs) → IsSo r is l.message
lost-letter r is down qs so l i = let z = has-from_map (reset_letter down) qs l i in subst (λ x. IsSo r is x.message) z.2 (so z.0 z.1)

lost-keeps : (r : Rules) (t : ℕ) (down : Bool) (w : World) → Makings r w → Makings r (with_lost t down w)
lost-keeps r t down w k = record {
  letters = λ l i. elim (has-cases (filter (is_not_to t) w.messages) (resets t down w.asked) l i) [
    | inl j ↦ k.letters l (has-from_filter (is_not_to t) w.messages l j).0
    | inr j ↦ lost-letter r w.issued down (filter (is_to t) w.asked) (λ q n. k.asked q (has-from_filter (is_to t) w.asked q n).0) l j
  ];
  asked = λ l i. k.asked l (has-from_filter (is_not_to t) w.asked l i).0;
  collecting = k.collecting;
  lines = k.lines;
}

sweep-keeps : (r : Rules) (w : World) → Makings r w → Makings r (swept w)
sweep-keeps r w k = record {
  letters = λ l i. elim (has-cases w.messages told l (has-from_filter (is_not_to_down w.targets) (w.messages ++ told) l i).0) [
    | inl j ↦ k.letters l j
    | inr j ↦ lost-letter r w.issued true (filter (is_to_down w.targets) w.asked) (λ q n. k.asked q (has-from_filter (is_to_down w.targets) w.asked q n).0) l j
  ];
  asked = λ l i. k.asked l (has-from_filter (is_not_to_down w.targets) w.asked l i).0;
  collecting = k.collecting;
  lines = k.lines;
}
  where
    told : List Letter
    told = map (reset_letter true) (filter (is_to_down w.targets) w.asked)

-- ---- stops and openings

module _ (r : Rules) (w : World) (k : Makings r w) where
  old : (is : List (AttemptId × Epoch)) (more : List (AttemptId × Epoch)) → is ≡ w.issued ++ more → (x : AttemptId) (e : Epoch) → Has (x, e) w.issued → Has (x, e) is
  old is more same x e i = subst (Has (x, e)) (sym same) (has-left w.issued more (x, e) i)

  cut-lines : (v : World) (g : TargetCut r w v) → (l : Line) → Has l g.cut.lines → ComesOf r (w.issued ++ g.cut.issued) l
  cut-lines v g = by g.work g.in_hand g.turn
    where
      now : (x : AttemptId) (e : Epoch) → Has (x, e) g.cut.issued → Has (x, e) (w.issued ++ g.cut.issued)
      now x e i = has-right w.issued g.cut.issued (x, e) i

      by : (work : AtWork) → IsInHand w g.t work → CutOf (target_plan r g.t) g.s work g.cut → (l : Line) → Has l g.cut.lines → ComesOf r (w.issued ++ g.cut.issued) l
      by (Hearing n reading number) hand turn =
          cut-comes r (w.issued ++ g.cut.issued) (target_plan r g.t) g.s.opening g.s.memory reading n.from (kept g.s) g.cut now number is_prepared n.message
          (so-more r w.issued (w.issued ++ g.cut.issued) (old _ g.cut.issued refl) n.message (k.letters n (has-from_contains w.messages n (taken-is-among w.messages n hand.0.0 hand.0.1)))) turn
      by IdleWork hand turn = idle-comes r (w.issued ++ g.cut.issued) (target_plan r g.t) g.s.opening g.s.memory 0 (target g.t) (kept g.s) g.cut now 0 turn

  cut-keeps : (v : World) → TargetCut r w v → Makings r v
  cut-keeps v g = subst (Makings r) (sym g.after) (lost-keeps r g.t false _ (record {
    letters = λ l i. so-more r w.issued _ (old _ g.cut.issued refl) l.message (k.letters l i);
    asked = λ l i. asks-more r w.issued _ (old _ g.cut.issued refl) l.message (k.asked l i);
    collecting = set-collects r _ w _ g.t _ refl (λ c i. absurd i) (λ u s c at i. collects-more r w.issued _ (old _ g.cut.issued refl) c (k.collecting u s c at i));
    lines = λ l i. elim (has-cases (w.lines ++ g.cut.lines) (line.Stop (stops_so_far w.lines) g.t ∷ []) l i) [
      | inl j ↦ elim (has-cases w.lines g.cut.lines l j) [ inl n ↦ comes-more r w.issued _ (old _ g.cut.issued refl) l (k.lines l n) | inr n ↦ cut-lines v g l n ]
      | inr j ↦ stop l j
    ];
  }))
    where
      stop : (l : Line) → Has l (line.Stop (stops_so_far w.lines) g.t ∷ []) → ComesOf r (w.issued ++ g.cut.issued) l
      stop l (inl same) = subst (ComesOf r (w.issued ++ g.cut.issued)) (sym same) tt
      stop l (inr none) = absurd none

  statuses-so : (is : List (AttemptId × Epoch)) (inc : ℕ) (es : List Entry) → PostsSo r is (statuses_for inc es)
  statuses-so is inc [] = λ q i. absurd i
  statuses-so is inc (e ∷ es) = λ q i. elim (has-cases (statuses_of inc e) (statuses_for inc es) q i) [
    | inl j ↦ mapped-so r is (status_to inc e.attempt) (other_members e) (λ t. (tt, tt)) q j
    | inr j ↦ statuses-so is inc es q j
  ]

  opening-so : (is : List (AttemptId × Epoch)) (t : ℕ) (d : Durable) → PostsSo r is (opening_posts (target_plan r t) d)
  unfolding opening_posts
  opening-so is t d = statuses-so is d.incarnation (filter is_open (filter (is_led t) d.entries))

  opening-keeps : (v : World) → TargetOpens r w v → Makings r v
  opening-keeps v g = follows-keeps r w v k (record {
    rest = w.messages;
    actor = target g.t;
    posts = opening_posts (target_plan r g.t) (reopened g.s.durable);
    more = [];
    told = restart_line g.number g.t g.s.durable ∷ [];
    were = λ l i. i;
    messages = ap (λ x. x.messages) g.after;
    asked = ap (λ x. x.asked) g.after;
    issued = ap (λ x. x.issued) g.after ∙ sym (append-nil w.issued);
    lines = ap (λ x. x.lines) g.after;
    sent = opening-so (w.issued ++ []) g.t (reopened g.s.durable);
    come = restart;
    collecting = set-collects r _ w v.targets g.t _ (ap (λ x. x.targets) g.after) (λ c i. absurd i) (λ u s c at i. collects-more r w.issued _ (old _ [] refl) c (k.collecting u s c at i));
  })
    where
      restart : (l : Line) → Has l (restart_line g.number g.t g.s.durable ∷ []) → ComesOf r (w.issued ++ []) l
      restart l (inl same) = subst (ComesOf r (w.issued ++ [])) (sym same) tt
      restart l (inr none) = absurd none

  failing-keeps : (v : World) → OpeningFails r w v → Makings r v
  failing-keeps v g = subst (Makings r) (sym g.after) (record {
    letters = k.letters;
    asked = k.asked;
    collecting = set-collects r w.issued w _ g.t _ refl (λ c i. k.collecting g.t g.s c g.here i) k.collecting;
    lines = k.lines;
  })

  given_up-keeps : (v : World) → TargetGivenUp r w v → Makings r v
  given_up-keeps v g = subst (Makings r) (sym g.after) (lost-keeps r g.t true _ (record {
    letters = k.letters;
    asked = k.asked;
    collecting = set-collects r w.issued w _ g.t _ refl (λ c i. k.collecting g.t g.s c g.here i) k.collecting;
    lines = λ l i. elim (has-cases w.lines (line.Down g.t ∷ []) l i) [ inl j ↦ k.lines l j | inr j ↦ down l j ];
  }))
    where
      down : (l : Line) → Has l (line.Down g.t ∷ []) → ComesOf r w.issued l
      down l (inl same) = subst (ComesOf r w.issued) (sym same) tt
      down l (inr none) = absurd none

  drawing-keeps : (v : World) → NumbersDrawn w v → Makings r v
  drawing-keeps v g = subst (Makings r) (sym g.after) (record { letters = k.letters; asked = k.asked; collecting = k.collecting; lines = k.lines })

-- ---- every event

happening-keeps : (r : Rules) → 0 < r.attempts → (w v : World) → Happening r w v → Endings w → Both r w → Both r v
happening-keeps r some w v (Plainly e up) ends k = plain-keeps r some w k ends v e
happening-keeps r some w v (Further g) ends k = further-keeps r some w k ends v g
happening-keeps r some w v (IsCut g) ends k = record { stand = λ n c at. k.stand n c (ap (λ x. slice_get x.clients n) (sym g.after) ∙ at); makings = cut-keeps r w k.makings v g }
happening-keeps r some w v (Opens g) ends k = record { stand = λ n c at. k.stand n c (ap (λ x. slice_get x.clients n) (sym g.after) ∙ at); makings = opening-keeps r w k.makings v g }
happening-keeps r some w v (Fails g) ends k = record { stand = λ n c at. k.stand n c (ap (λ x. slice_get x.clients n) (sym g.after) ∙ at); makings = failing-keeps r w k.makings v g }
happening-keeps r some w v (GivenUp g) ends k = record { stand = λ n c at. k.stand n c (ap (λ x. slice_get x.clients n) (sym g.after) ∙ at); makings = given_up-keeps r w k.makings v g }
happening-keeps r some w v (Draws g) ends k = record { stand = λ n c at. k.stand n c (ap (λ x. slice_get x.clients n) (sym g.after) ∙ at); makings = drawing-keeps r w k.makings v g }

pub event-keeps : (r : Rules) → 0 < r.attempts → (w v : World) → WorldEvent r w v → Endings w → ClientsStand r w → Makings r w → ClientsStand r v × Makings r v
event-keeps r some w v e ends stand makings =
    let k = happening-keeps r some w e.u e.happens ends (record { stand = stand; makings = makings }) in
    (λ n c at. k.stand n c (ap (λ x. slice_get x.clients n) (sym e.after) ∙ at), subst (Makings r) (sym e.after) (sweep-keeps r e.u k.makings))

pub makings-begin : (r : Rules) (w : World) → w.messages ≡ [] → w.asked ≡ [] → w.lines ≡ [] → ((t : ℕ) (s : TargetState) → slice_get w.targets t ≡ Some s → s.memory.collecting ≡ []) → Makings r w
makings-begin r w messages asked lines collecting = record {
  letters = λ l i. absurd (subst (Has l) messages i);
  asked = λ l i. absurd (subst (Has l) asked i);
  collecting = λ t s c at i. absurd (subst (Has c) (collecting t s at) i);
  lines = λ l i. absurd (subst (Has l) lines i);
}
