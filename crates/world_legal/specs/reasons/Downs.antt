-- Who is told that a target is down, is told so of one that was given up.
use Rattle.std.specs.Prelude.{ℕ, ◌≡◌, ◌⊎◌, ◌++◌, ◌==◌, Bool, true, false, not, List, [], ◌∷◌, map, filter, slice_get, Option, Some, None, refl, if◌then◌else◌}
use Rattle.std.proofs.Common.{append_assoc, zero, suc, inl, inr, sym, ◌∙◌, ap, subst}
use Rattle.std.proofs.lemmas.Bool.{eqb-true}
use Rattle.base_types.specs.declared.entry.Entry.{Entry}
use Rattle.base_types.specs.declared.id.AttemptId.{AttemptId}
use Rattle.base_types.specs.declared.report.Line.{Line}
use Rattle.base_types.specs.declared.report.Line.TheVariants as line
use Rattle.base_messages.specs.declared.actor.ActorId.{ActorId}
use Rattle.base_messages.specs.declared.message.Message.{Message, more_of-Message}
use Rattle.base_messages.specs.declared.message.Message.TheVariants as message
use Rattle.base_messages.specs.declared.message.Post.{Post}
use Rattle.daos_model.specs.BoolLaws.{and_right, clash}
use Rattle.daos_model.specs.Changes.{reopened}
use Rattle.daos_model.specs.declared.durable.Durable.{Durable}
use Rattle.daos_model.specs.Stops as told
use Rattle.daos_model.specs.Stops.{Standing, after, after_all, is_at, lines_at}
use Rattle.dtx_base.specs.Leading.{is_led, is_open, to_target}
use Rattle.dtx_base.specs.Members.{other_members}
use Rattle.model_laws.specs.Members.{Has, contains-from_has, has-cases, has-from_filter, has-from_map, has-left, has-right}
use Rattle.world_standing.specs.world_commit.attempts.Counting.{has-left_over, has-taken}
use Rattle.world_base.specs.declared.client.ClientState.{ClientState}
use Rattle.world_base.specs.declared.did.Did.{Did}
use Rattle.world_base.specs.declared.letter.Letter.{Letter}
use Rattle.world_base.specs.declared.target.Life.{Life}
use Rattle.world_base.specs.declared.target.Life.TheVariants.{Down, Running, Stopped}
use Rattle.world_base.specs.declared.target.TargetState.{TargetState}
use Rattle.world_base.specs.declared.world.World.{World}
use Rattle.world_base.specs.ClientTurns.{request_of, waits}
use Rattle.world_base.specs.Events.{ByClient, ByTarget, Event, Rules, ToClient, ToTarget, client_plan, kept, target_plan}
use Rattle.world_base.specs.Letters.{Takes, client, is_talk_of, is_tell, letter_of, letters_of, talk_of, target}
use Rattle.world_base.specs.Snapshots.{freeze_to, prune_to}
use Rattle.world_base.specs.Statuses.{opening_posts, status_to, statuses_for, statuses_of}
use Rattle.world_base.specs.Stops.{Draws, Fails, Further, GivenUp, Happening, HearsMore, IsCut, Opens, Plainly, WorldEvent, is_down_at, is_given_up, is_not_to, is_not_to_down, is_to, is_to_down, reset_letter, resets, stops_so_far, swept}
use Rattle.world_standing.specs.world_letters.endings.Posts.{further-sent}
use Rattle.world_standing.specs.world_letters.endings.Telling.{AsksAgain, AsksFreezes, AsksPrunes, IsSent, Quietly, TellsAfter, is_collected}
use Rattle.world_standing.specs.world_letters.lines.EndingLaws.{all-hear-tell, idle-tells}
use Rattle.world_standing.specs.world_letters.lines.Lines.{Endings, TellsPlainly}
use Rattle.world_standing.specs.world_letters.lives.Lives.{Lives, standing_of}
use Rattle.world_standing.specs.world_letters.talks.TalkLaws.{sent-is-talk, taken-from, talk-none, talk-only}
use Rattle.world_standing.specs.world_letters.waits.ClientLaws.{present-of, question-about}
use Rattle.world_standing.specs.world_letters.waits.Waits.{Conversation, IsAsked, IsHeld, IsReplied, TalksSo, asked_of, held_of}

-- ---- the fact

-- a message tells that a target is down, by which another one got no answer
abbrev pub TellsDown : ℕ → Message → Type 0
TellsDown t (message.Reset' by true place (more_of-Message q rest)) = by ≡ t
TellsDown t m = ⊥

-- a line tells that this target was given up
abbrev pub DownsAreTold : World → Type 0
DownsAreTold w = (l : Letter) (t : ℕ) → Has l w.messages → TellsDown t l.message → Has (line.Down t) w.lines

-- ---- which messages tell of none

asks-none : (t : ℕ) (m : Message) (x : AttemptId) → request_of m ≡ Some x → TellsDown t m → ⊥
asks-none t (message.Reset' by true place (more_of-Message q rest)) x of is = let no : ⊥ = cc (of) in no
asks-none t m x of is = is

tell-none : (t : ℕ) (m : Message) → is_tell m ≡ true → TellsDown t m → ⊥
tell-none t (message.Reset' by true place (more_of-Message q rest)) of is = let no : ⊥ = cc (of) in no
tell-none t m of is = is

plainly-none : (t : ℕ) (m : Message) → TellsPlainly m → TellsDown t m → ⊥
plainly-none t (message.Reset' by true place (more_of-Message q rest)) k is = k
plainly-none t m k is = is

after-none : (t : ℕ) (m : Message) → TellsAfter m → TellsDown t m → ⊥
after-none t (message.Reset' by true place (more_of-Message q rest)) k is = k
after-none t m k is = is

collected-none : (t : ℕ) (m : Message) → is_collected m ≡ true → TellsDown t m → ⊥
collected-none t (message.Reset' by true place (more_of-Message q rest)) k is = let no : ⊥ = cc (k) in no
collected-none t m k is = is

-- ---- posts

NonesDown : List Post → Type 0
NonesDown posts = (q : Post) (t : ℕ) → Has q posts → TellsDown t q.message → ⊥

sent-none : (m : Message) (did : Did) → IsSent m did → NonesDown did.posts
unfolding NonesDown
sent-none m did (Quietly posts) q t i is = after-none t q.message (posts q i) is
sent-none m did (AsksFreezes x c name tracker s ts heard posts issued) q t i is = let z = has-from_map (freeze_to x c s) ts q (subst (Has q) posts i) in subst (λ y. TellsDown t y.message) (sym z.2) is
sent-none m did (AsksPrunes x c tracker g ts heard posts issued) q t i is = let z = has-from_map (prune_to x c g) ts q (subst (Has q) posts i) in subst (λ y. TellsDown t y.message) (sym z.2) is
sent-none m did (AsksAgain u asked lost kind posts) q t i is = by (subst (Has q) posts i)
  where
    by : Has q (to_target u asked ∷ []) → ⊥
    by (inl same) = collected-none t asked kind (subst (λ y. TellsDown t y.message) same is)
    by (inr none) = none

-- those of an opening ask for statuses
statuses-none : (inc : ℕ) (es : List Entry) → NonesDown (statuses_for inc es)
unfolding NonesDown
statuses-none inc [] q t i is = i
statuses-none inc (e ∷ es) q t i is = elim (has-cases (statuses_of inc e) (statuses_for inc es) q i) [
  | inl j ↦ (let z = has-from_map (status_to inc e.attempt) (other_members e) q j in subst (λ y. TellsDown t y.message) (sym z.2) is)
  | inr j ↦ statuses-none inc es q t j is
]

opening-none : (r : Rules) (t : ℕ) (d : Durable) → NonesDown (opening_posts (target_plan r t) d)
unfolding opening_posts
opening-none r t d = statuses-none d.incarnation (filter is_open (filter (is_led t) d.entries))

-- what clients send

client-none : (r : Rules) (w : World) → Conversation r w → (l : Letter) (n t : ℕ) → Has l w.messages → l.from ≡ client n → TellsDown t l.message → ⊥
client-none r w k l n t i from is = by (is_tell l.message) refl
  where
    talks : is_tell l.message ≡ false → ⊥
    talks off = of (slice_get w.clients n) refl
      where
        its : is_talk_of n l ≡ true
        its = sent-is-talk n l off from

        rest : (left : List Letter) × Takes w.messages l left
        rest = taken-from w.messages l (contains-from_has w.messages l i)

        waiting : (c : ClientState) → (b : Bool) → waits c ≡ b → TalksSo (client_plan r n) n c (talk_of n w.messages) (held_of n w) (asked_of n w) b → ⊥
        waiting c false now q = talk-none n w.messages l rest.0 rest.1 its q.no_letters
        waiting c true now (IsAsked q question one none free) =
            let only = talk-only n w.messages l (letter_of (client n) q) rest.0 rest.1 its one in
            let p = present-of c now in
            let about = question-about (client_plan r n) c p.a q p.at question in
            asks-none t l.message _ (ap (λ z. request_of z.message) only.0 ∙ about.of_attempt) is
        waiting c true now (IsHeld q x question holds none one free) = talk-none n w.messages l rest.0 rest.1 its none
        waiting c true now (IsReplied q m question got one none free) =
            let only = talk-only n w.messages l m rest.0 rest.1 its one in
            let p = present-of c now in
            clash l.from.client (ap (λ a. a.client) from) (ap (λ x. x.from.client) only.0 ∙ ap (λ a. a.client) got.from ∙ (question-about (client_plan r n) c p.a q p.at question).to_target)

        of : (o : Option ClientState) → slice_get w.clients n ≡ o → ⊥
        of None e = talk-none n w.messages l rest.0 rest.1 its (k.nobody n e).no_letters
        of (Some c) e = waiting c (waits c) refl (k.talks n c e)

    by : (b : Bool) → is_tell l.message ≡ b → ⊥
    by true of = tell-none t l.message of is
    by false off = talks off

-- ---- turns

turn-keeps : (w v : World) (from : ActorId) (rest : List Letter) (posts : List Post) (more : List Line) → v.messages ≡ rest ++ letters_of from posts → v.lines ≡ w.lines ++ more → ((l : Letter) → Has l rest → Has l w.messages)
    → ((l : Letter) (t : ℕ) → Has l (letters_of from posts) → TellsDown t l.message → ⊥) → DownsAreTold w → DownsAreTold v
turn-keeps w v from rest posts more messages lines left none k l t i is = elim (has-cases rest (letters_of from posts) l (subst (Has l) messages i)) [
  | inl j ↦ subst (Has (line.Down t)) (sym lines) (has-left w.lines more (line.Down t) (k l t (left l j) is))
  | inr j ↦ absurd (none l t j is)
]

posts-none : (from : ActorId) (posts : List Post) → NonesDown posts → (l : Letter) (t : ℕ) → Has l (letters_of from posts) → TellsDown t l.message → ⊥
unfolding NonesDown
posts-none from posts none l t i is = let z = has-from_map (letter_of from) posts l i in none z.0 t z.1 (subst (λ x. TellsDown t x.message) (sym z.2) is)

client-posts : (r : Rules) (v : World) (n : ℕ) (rest : List Letter) (posts : List Post) → Conversation r v → v.messages ≡ rest ++ letters_of (client n) posts → (l : Letter) (t : ℕ) → Has l (letters_of (client n) posts) → TellsDown t l.message → ⊥
client-posts r v n rest posts talk messages l t i is =
    client-none r v talk l n t (subst (Has l) (sym messages) (has-right rest (letters_of (client n) posts) l i)) (let z = has-from_map (letter_of (client n)) posts l i in ap (λ x. x.from) (sym z.2)) is

plain-keeps : (r : Rules) (w v : World) → Endings w → Conversation r v → Event r w v → DownsAreTold w → DownsAreTold v
unfolding NonesDown
plain-keeps r w v ends talk (ByClient g) k = turn-keeps w v (client g.n) w.messages g.did.posts _ (ap (λ u. u.messages) g.after) (ap (λ u. u.lines) g.after) (λ l i. i) (client-posts r v g.n w.messages g.did.posts talk (ap (λ u. u.messages) g.after)) k
plain-keeps r w v ends talk (ToClient g) k =
    turn-keeps w v (client g.n) g.rest g.did.posts _ (ap (λ u. u.messages) g.after) (ap (λ u. u.lines) g.after) (λ l i. has-left_over w.messages g.l g.rest l g.takes i) (client-posts r v g.n g.rest g.did.posts talk (ap (λ u. u.messages) g.after)) k
plain-keeps r w v ends talk (ToTarget g) k =
    turn-keeps w v (target g.t) g.rest g.did.posts _ (ap (λ u. u.messages) g.after) (ap (λ u. u.lines) g.after) (λ l i. has-left_over w.messages g.l g.rest l g.takes i)
    (posts-none (target g.t) g.did.posts (λ q t i is. plainly-none t q.message ((all-hear-tell (target_plan r g.t) g.s.opening g.s.memory g.reading g.l.from g.l.message (kept g.s) g.new (g.memory, g.did)
    (ends g.l (contains-from_has w.messages g.l (has-taken w.messages g.l g.rest g.takes))) g.turn).0 q i) is)) k
plain-keeps r w v ends talk (ByTarget g) k =
    turn-keeps w v (target g.t) w.messages g.did.posts _ (ap (λ u. u.messages) g.after) (ap (λ u. u.lines) g.after) (λ l i. i)
    (posts-none (target g.t) g.did.posts (λ q t i is. plainly-none t q.message ((idle-tells g.settling (target_plan r g.t) g.s.memory g.turn.last g.new (g.memory, g.did) g.turn.ends).0 q i) is)) k

more-keeps : (r : Rules) (w v : World) → Endings w → HearsMore r w v → DownsAreTold w → DownsAreTold v
more-keeps r w v ends f k =
    let g = f.hears in
    turn-keeps w v (target g.t) g.rest g.did.posts _ (ap (λ u. u.messages) g.after) (ap (λ u. u.lines) g.after) (λ l i. has-left_over w.messages g.l g.rest l g.takes i)
    (posts-none (target g.t) g.did.posts (sent-none g.l.message g.did
    (further-sent f.number (target_plan r g.t) g.s.opening g.s.memory g.reading g.l.from (kept g.s) g.new (g.memory, g.did) g.l.message (ends g.l (contains-from_has w.messages g.l (has-taken w.messages g.l g.rest g.takes))) g.turn))) k

-- ---- what is lost

-- a Reset tells of the target that was asked
reset-tells : (down : Bool) (q : Letter) (t : ℕ) → TellsDown t (reset_letter down q).message → (down ≡ true) × (q.to.number ≡ t)
reset-tells true q t is = (refl, is)
reset-tells false q t is = absurd is

to-it : (t : ℕ) (q : Letter) → is_to t q ≡ true → q.to.number ≡ t
to-it t q is = eqb-true q.to.number t (and_right (not q.to.client) (q.to.number == t) is)

lost-keeps : (t : ℕ) (down : Bool) (w v : World) (more : List Line) → v.messages ≡ filter (is_not_to t) w.messages ++ resets t down w.asked → v.lines ≡ w.lines ++ more → (down ≡ true → Has (line.Down t) more) → DownsAreTold w → DownsAreTold v
lost-keeps t down w v more messages lines tells k l u i is = elim (has-cases (filter (is_not_to t) w.messages) (resets t down w.asked) l (subst (Has l) messages i)) [
  | inl j ↦ subst (Has (line.Down u)) (sym lines) (has-left w.lines more (line.Down u) (k l u (has-from_filter (is_not_to t) w.messages l j).0 is))
  | inr j ↦ new (has-from_map (reset_letter down) (filter (is_to t) w.asked) l j)
]
  where
    new : (q : Letter) × Has q (filter (is_to t) w.asked) × (reset_letter down q ≡ l) → Has (line.Down u) v.lines
    new z =
        let d = reset-tells down z.0 u (subst (λ y. TellsDown u y.message) (sym z.2) is) in
        let same : t ≡ u = sym (to-it t z.0 (has-from_filter (is_to t) w.asked z.0 z.1).1) ∙ d.1 in
        subst (Has (line.Down u)) (sym lines) (has-right w.lines more (line.Down u) (subst (λ n. Has (line.Down n) more) same (tells d.0)))

-- who isn't down and is so in the end was given up by one of the lines between
abbrev StaysUp : ℕ → List Line → Type 0
StaysUp t ls = (y : Standing) → (y ≡ told.Down → ⊥) → after_all (Some y) (lines_at t ls) ≡ Some told.Down → Has (line.Down t) ls

-- of a target that is down the lines tell that it was given up
down-among : (t : ℕ) (x : Standing) (ls : List Line) → (x ≡ told.Down → ⊥) → after_all (Some x) (lines_at t ls) ≡ Some told.Down → Has (line.Down t) ls
down-among t x [] up ends = let same : x ≡ told.Down = cc in absurd (up same)
down-among t x (l ∷ ls) up ends = by (λ y on e. down-among t y ls on e) (is_at t l) refl ends
  where
    here : (l : Line) → is_at t l ≡ true → (y : Standing) → after x l ≡ Some y → (l ≡ line.Down t) ⊎ (y ≡ told.Down → ⊥)
    here (line.Down u) at y is = inl (ap line.Down (eqb-true u t at))
    here (line.Try a) at y is = let no : ⊥ = cc in absurd no
    here (line.Stop n u) at y is = inr (stop x is)
      where
        stop : (x : Standing) → after x (line.Stop n u) ≡ Some y → y ≡ told.Down → ⊥
        stop told.Running e down = let no : ⊥ = cc (e, down) in no
        stop told.Stopped e down = let no : ⊥ = cc (e) in no
        stop told.Down e down = let no : ⊥ = cc (e) in no
    here (line.Restart n u inc floor) at y is = inr (restart x is)
      where
        restart : (x : Standing) → after x (line.Restart n u inc floor) ≡ Some y → y ≡ told.Down → ⊥
        restart told.Running e down = let no : ⊥ = cc (e) in no
        restart told.Stopped e down = let no : ⊥ = cc (e, down) in no
        restart told.Down e down = let no : ⊥ = cc (e) in no
    here (line.Freeze u c e) at y is = inr (freeze x is)
      where
        freeze : (x : Standing) → after x (line.Freeze u c e) ≡ Some y → y ≡ told.Down → ⊥
        freeze told.Running g down = let no : ⊥ = cc (g, down) in no
        freeze told.Stopped g down = let no : ⊥ = cc (g) in no
        freeze told.Down g down = let no : ⊥ = cc (g) in no
    here (line.Snapshot name c e) at y is = let no : ⊥ = cc in absurd no
    here (line.Aggregate n u c e) at y is = inr (aggregate x is)
      where
        aggregate : (x : Standing) → after x (line.Aggregate n u c e) ≡ Some y → y ≡ told.Down → ⊥
        aggregate told.Running g down = let no : ⊥ = cc (g, down) in no
        aggregate told.Stopped g down = let no : ⊥ = cc (g) in no
        aggregate told.Down g down = let no : ⊥ = cc (g) in no

    goes : StaysUp t ls → (o : Option Standing) → after x l ≡ o → is_at t l ≡ true → after_all o (lines_at t ls) ≡ Some told.Down → Has (line.Down t) (l ∷ ls)
    goes rest None is at e = let no : ⊥ = cc in absurd no
    goes rest (Some y) is at e = elim (here l at y is) [ inl same ↦ inl (sym same) | inr on ↦ inr (rest y on e) ]

    by : StaysUp t ls → (b : Bool) → is_at t l ≡ b → after_all (Some x) (if b then l ∷ lines_at t ls else lines_at t ls) ≡ Some told.Down → Has (line.Down t) (l ∷ ls)
    by rest true at e = goes rest (after x l) refl at e
    by rest false at e = inr (rest x up e)

given-up_told : (w : World) → Lives (swept w) → (t : ℕ) → is_down_at w.targets t ≡ true → Has (line.Down t) w.lines
given-up_told w k t is = by (slice_get w.targets t) refl (down-is w.targets t is)
  where
    down-is : (ss : List TargetState) (t : ℕ) → is_down_at ss t ≡ true → (s : TargetState) × (slice_get ss t ≡ Some s) × (s.life ≡ Down)
    down-is [] t is = let no : ⊥ = cc in absurd no
    down-is (s ∷ ss) zero is = (s, refl, given_up s.life is)
      where
        given_up : (l : Life) → is_given_up l ≡ true → l ≡ Down
        given_up Down e = refl
        given_up Running e = let no : ⊥ = cc in absurd no
        given_up Stopped e = let no : ⊥ = cc in absurd no
    down-is (s ∷ ss) (suc t) is = down-is ss t is

    by : (o : Option TargetState) → slice_get w.targets t ≡ o → (s : TargetState) × (slice_get w.targets t ≡ Some s) × (s.life ≡ Down) → Has (line.Down t) w.lines
    by o at z = down-among t told.Running w.lines (λ e. let no : ⊥ = cc (e) in no) ((k.told t z.0 z.1).stands ∙ ap (λ l. Some (standing_of l)) z.2)

sweeping-told : (w : World) → Lives (swept w) → DownsAreTold w → DownsAreTold (swept w)
sweeping-told w lives k l u i is = elim (has-cases w.messages new l (has-from_filter (is_not_to_down w.targets) (w.messages ++ new) l i).0) [
  | inl j ↦ k l u j is
  | inr j ↦ (let z = has-from_map (reset_letter true) (filter (is_to_down w.targets) w.asked) l j in
      let d = reset-tells true z.0 u (subst (λ y. TellsDown u y.message) (sym z.2) is) in
      subst (λ n. Has (line.Down n) w.lines) d.1 (given-up_told w lives z.0.to.number (and_right (not z.0.to.client) (is_down_at w.targets z.0.to.number) (has-from_filter (is_to_down w.targets) w.asked z.0 z.1).1)))
]
  where
    new : List Letter
    new = map (reset_letter true) (filter (is_to_down w.targets) w.asked)

-- ---- whatever happens

happenings-told : (r : Rules) (w v : World) → Endings w → Conversation r v → Happening r w v → DownsAreTold w → DownsAreTold v
happenings-told r w v ends talk (Plainly e up) k = plain-keeps r w v ends talk e k
happenings-told r w v ends talk (Further f) k = more-keeps r w v ends f k
happenings-told r w v ends talk (IsCut g) k = lost-keeps g.t false w v (g.cut.lines ++ line.Stop (stops_so_far w.lines) g.t ∷ []) (ap (λ u. u.messages) g.after) (ap (λ u. u.lines) g.after ∙ append_assoc w.lines g.cut.lines (line.Stop (stops_so_far w.lines) g.t ∷ [])) (λ is. let no : ⊥ = cc (is) in absurd no) k
happenings-told r w v ends talk (Opens g) k =
    turn-keeps w v (target g.t) w.messages (opening_posts (target_plan r g.t) (reopened g.s.durable)) _ (ap (λ u. u.messages) g.after) (ap (λ u. u.lines) g.after) (λ l i. i)
    (posts-none (target g.t) (opening_posts (target_plan r g.t) (reopened g.s.durable)) (opening-none r g.t (reopened g.s.durable))) k
happenings-told r w v ends talk (Fails g) k = subst DownsAreTold (sym g.after) k
happenings-told r w v ends talk (GivenUp g) k = lost-keeps g.t true w v (line.Down g.t ∷ []) (ap (λ u. u.messages) g.after) (ap (λ u. u.lines) g.after) (λ is. inl refl) k
happenings-told r w v ends talk (Draws g) k = subst DownsAreTold (sym g.after) k

-- ---- the statements

-- so it is where nothing is in flight
abbrev pub DownsBegin : Type 0
DownsBegin = (w : World) → w.messages ≡ [] → DownsAreTold w

pub downs-begin : DownsBegin
downs-begin w none l t i is = absurd (subst (Has l) none i)

-- each event keeps it so, where conversations are in order once it happened, and the lines of targets tell of them after it
abbrev pub EventsKeepDowns : Type 0
EventsKeepDowns = (r : Rules) (w v : World) → Endings w → (e : WorldEvent r w v) → Conversation r e.u → Lives v → DownsAreTold w → DownsAreTold v

pub events-keep-downs : EventsKeepDowns
events-keep-downs r w v ends e talk lives k = subst DownsAreTold (sym e.after) (sweeping-told e.u (subst Lives e.after lives) (happenings-told r w e.u ends talk e.happens k))
