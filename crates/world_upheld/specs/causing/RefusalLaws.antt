-- Every event of a run keeps that refusals of Freezes show their causes.
use Rattle.std.specs.Prelude.{ℕ, ◌≡◌, ◌⊎◌, ◌++◌, Bool, true, false, List, [], ◌∷◌, filter, map, Some, refl}
use Rattle.std.proofs.Common.{append-nil, append_assoc, sym, ◌∙◌, ap, subst, inl, inr}
use Rattle.base_types.specs.declared.id.AttemptId.{AttemptId}
use Rattle.base_types.specs.declared.outcome.Outcome.{Outcome}
use Rattle.base_types.specs.declared.report.Line.{Line}
use Rattle.base_types.specs.declared.report.Line.TheVariants as line
use Rattle.base_messages.specs.declared.actor.ActorId.{ActorId}
use Rattle.base_messages.specs.declared.message.Message.{Message}
use Rattle.base_messages.specs.declared.message.Message.TheVariants as message
use Rattle.base_messages.specs.declared.message.Post.{Post}
use Rattle.model_laws.specs.Members.{Has, contains-from_has, has-cases, has-from_contains, has-from_filter, has-from_map}
use Rattle.daos_model.specs.Changes.{reopened}
use Rattle.daos_model.specs.Opening.{Opening}
use Rattle.world_base.specs.declared.letter.Letter.{Letter}
use Rattle.world_base.specs.declared.world.World.{World}
use Rattle.world_base.specs.ClientTurns.{heard, listed, moved}
use Rattle.world_base.specs.Events.{ByClient, ByTarget, Event, Rules, TargetHearsBy, ToClient, ToTarget, client_plan, kept, target_plan, with_epoch}
use Rattle.world_base.specs.Further.{HearsFurther}
use Rattle.world_base.specs.Letters.{client, letter_of, letters_of, target}
use Rattle.world_base.specs.Statuses.{opening_posts}
use Rattle.world_base.specs.StepLaws.{by-hearing, by-next}
use Rattle.world_base.specs.Steps.{KeptByCounting, KeptByHearing, KeptByMoves}
use Rattle.world_base.specs.Stops.{Draws, Fails, Further, GivenUp, Happening, HearsMore, IsCut, Opens, Plainly, WorldEvent, is_not_to, is_not_to_down, is_to, is_to_down, reset_letter, resets, restart_line, stops_so_far, swept}
use Rattle.world_legal.specs.world_causes.causes.Causes.{Dated, Stored}
use Rattle.world_legal.specs.world_causes.causes.CommitTurns.{RefusalShows}
use Rattle.world_legal.specs.world_causes.causes.Shown.{Causes}
use Rattle.world_upheld.specs.causing.Answers.{NoneRefuses, further-not, plainly-not, says_refused}
use Rattle.world_upheld.specs.causing.Hearing.{answers-show}
use Rattle.world_upheld.specs.causing.Dates.{newly_dated, with_dates}
use Rattle.world_upheld.specs.causing.Known.{IsMakingKnown}
use Rattle.world_upheld.specs.causing.Refusing.{FreezeRefusalsShow, refusal-on}
use Rattle.world_letters.specs.endings.Clients.{heard-asks}
use Rattle.world_letters.specs.lines.EndingLaws.{all-hear-tell, idle-tells}
use Rattle.world_letters.specs.talks.TalkLaws.{left-is-among, taken-is-among}
use Rattle.world_owners.specs.world_making.freezings.Unasked.{AreUnasked, is_unasked, move-unasked, opening-unasked, question-unasked}

abbrev pub AllEventsKeepFreezeRefusals : Type 0
AllEventsKeepFreezeRefusals =
    (r : Rules) (o : Opening) (stored : Stored) (dated : Dated) (w v : World) → IsMakingKnown r o (with_dates dated w) → Causes r o stored (with_dates dated w) → (e : WorldEvent r w v) → FreezeRefusalsShow r o (with_dates (dated ++ newly_dated r e.happens) v)

-- ---- clients

-- what is asked refuses none
unasked-not : (posts : List Post) → AreUnasked posts → NoneRefuses posts
unasked-not posts asks q i = by q.message (asks q i)
  where
    by : (m : Message) → is_unasked m ≡ true → says_refused m ≡ false
    by (message.Held x refusal) is = let no : ⊥ = cc in absurd no
    by m is = refl

-- letters that refuse a Freeze are among these
abbrev RefusalsAreAmong : List Letter → List Letter → Type 0
RefusalsAreAmong old ls = (l : Letter) → Has l ls → says_refused l.message ≡ true → Has l old

posts-among : (old rest : List Letter) (actor : ActorId) (posts : List Post) → RefusalsAreAmong old rest → NoneRefuses posts → RefusalsAreAmong old (rest ++ letters_of actor posts)
posts-among old rest actor posts were off l i is = elim (has-cases rest (letters_of actor posts) l i) [
  | inl j ↦ were l j is
  | inr j ↦ (let z = has-from_map (letter_of actor) posts l j in let no : ⊥ = cc (ap (λ x. says_refused x.message) z.2 ∙ is, off z.0 z.1) in absurd no)
]

module _ (r : Rules) (old : List Letter) where
  abbrev Among : World → Type 0
  Among w = RefusalsAreAmong old w.messages

  among-moves : KeptByMoves r Among
  among-moves w n c here k = posts-among old w.messages (client n) (listed (moved (client_plan r n) c).post) k (unasked-not _ (move-unasked r n c))

  among-counting : KeptByCounting Among
  among-counting w n m c here k = k

  among-hearing : KeptByHearing r Among
  among-hearing w n c l rest here awake takes to k =
      posts-among old rest (client n) (listed (heard (client_plan r n) c l.message).post) (λ m i is. k m (has-from_contains w.messages m (left-is-among w.messages l rest m takes (contains-from_has rest m i))) is)
      (unasked-not _ (question-unasked _ (heard-asks (client_plan r n) c l.message)))

-- ---- openings, and what is lost

resets-not : (down : Bool) (qs : List Letter) (l : Letter) → Has l (map (reset_letter down) qs) → says_refused l.message ≡ false
resets-not down qs l i = let z = has-from_map (reset_letter down) qs l i in ap (λ x. says_refused x.message) (sym z.2)

-- what is lost at a target, and what tells of it
lost-among : (t : ℕ) (down : Bool) (letters asked : List Letter) → RefusalsAreAmong letters (filter (is_not_to t) letters ++ resets t down asked)
lost-among t down letters asked l i is = elim (has-cases (filter (is_not_to t) letters) (resets t down asked) l i) [
  | inl j ↦ (has-from_filter (is_not_to t) letters l j).0
  | inr j ↦ (let off = resets-not down (filter (is_to t) asked) l j in let no : ⊥ = cc (off, is) in absurd no)
]

-- ---- what goes on

-- epochs were issued and lines added; a letter that refuses a Freeze was in flight, or shows its cause
record GoesOn (r : Rules) (o : Opening) (dated : Dated) (w u : World) : Type 0 where
  more : List Line
  lines : u.lines ≡ w.lines ++ more
  letters : (l : Letter) (x : AttemptId) (how : Outcome) → Has l u.messages → l.message ≡ message.Held x (Some how) → Has l w.messages ⊎ RefusalShows r o [] dated w.lines x how

goes-shows : (r : Rules) (o : Opening) (dated added : Dated) (w u : World) → FreezeRefusalsShow r o (with_dates dated w) → GoesOn r o dated w u → FreezeRefusalsShow r o (with_dates (dated ++ added) u)
goes-shows r o dated added w u before k l x how i says = subst (λ ls. RefusalShows r o [] (dated ++ added) ls x how) (sym k.lines) (refusal-on r o [] [] dated added w.lines k.more x how (was (k.letters l x how (has-from_contains u.messages l i) says)))
  where
    was : Has l w.messages ⊎ RefusalShows r o [] dated w.lines x how → RefusalShows r o [] dated w.lines x how
    was (inl j) = before l x how (contains-from_has w.messages l j) says
    was (inr shows) = shows

old-letters : (r : Rules) (o : Opening) (dated : Dated) (w u : World) → RefusalsAreAmong w.messages u.messages → (l : Letter) (x : AttemptId) (how : Outcome) → Has l u.messages → l.message ≡ message.Held x (Some how) → Has l w.messages ⊎ RefusalShows r o [] dated w.lines x how
old-letters r o dated w u among l x how i says = inl (among l i (ap says_refused says))

module _ (r : Rules) (o : Opening) (stored : Stored) (dated : Dated) (w u : World) (K : IsMakingKnown r o (with_dates dated w)) (C : Causes r o stored (with_dates dated w)) where
  all-among : RefusalsAreAmong w.messages w.messages
  all-among l i is = i

  plain-goes : Event r w u → GoesOn r o dated w u
  plain-goes (ByClient g) = record {
    more = map (with_epoch w.issued) g.did.lines;
    lines = ap (λ x. x.lines) g.after;
    letters = old-letters r o dated w u (by-next r (Among r w.messages) (among-moves r w.messages) (among-counting r w.messages) w u all-among g);
  }
  plain-goes (ToClient g) = record {
    more = map (with_epoch w.issued) g.did.lines;
    lines = ap (λ x. x.lines) g.after;
    letters = old-letters r o dated w u (by-hearing r (Among r w.messages) (among-moves r w.messages) (among-hearing r w.messages) w u all-among g);
  }
  plain-goes (ToTarget g) = record {
    more = map (with_epoch w.issued) g.did.lines;
    lines = ap (λ x. x.lines) g.after;
    letters = old-letters r o dated w u (subst (λ x. RefusalsAreAmong w.messages x.messages) (sym g.after) (posts-among w.messages g.rest (target g.t) g.did.posts (λ m i is. has-from_contains w.messages m (left-is-among w.messages g.l g.rest m g.takes (contains-from_has g.rest m i)))
        (λ q i. plainly-not q.message ((all-hear-tell (target_plan r g.t) g.s.opening g.s.memory g.reading g.l.from g.l.message (kept g.s) g.new (g.memory, g.did) (K.ends g.l (taken-is-among w.messages g.l g.rest g.takes)) g.turn).0 q i))));
  }
  plain-goes (ByTarget g) = record {
    more = map (with_epoch w.issued) g.did.lines;
    lines = ap (λ x. x.lines) g.after;
    letters = old-letters r o dated w u (subst (λ x. RefusalsAreAmong w.messages x.messages) (sym g.after) (posts-among w.messages w.messages (target g.t) g.did.posts all-among
        (λ q i. plainly-not q.message ((idle-tells g.settling (target_plan r g.t) g.s.memory g.turn.last g.new (g.memory, g.did) g.turn.ends).0 q i))));
  }

  further-goes : HearsMore r w u → GoesOn r o dated w u
  further-goes f = record {
    more = map (with_epoch w.issued) g.did.lines;
    lines = ap (λ x. x.lines) g.after;
    letters = λ l x how i says. by l x how says (has-cases g.rest (letters_of (target g.t) g.did.posts) l (subst (λ z. Has l z.messages) g.after i));
  }
    where
      g : TargetHearsBy (HearsFurther f.number) r w u
      g = f.hears

      sent : (m : Message) → g.l.message ≡ m → HearsFurther f.number (target_plan r g.t) g.s.opening g.s.memory g.reading g.l.from m (kept g.s) g.new (g.memory, g.did)
          → (q : Post) (x : AttemptId) (how : Outcome) → Has q g.did.posts → q.message ≡ message.Held x (Some how) → RefusalShows r o [] dated w.lines x how
      sent (message.Freeze y c asked) is h q x how i says =
          answers-show r o stored (with_dates dated w) K C g.t g.s g.here (C.bounded.ticks g.t g.s g.here g.runs) g.reading g.l g.rest g.takes g.to_it f.number g.new (g.memory, g.did) y c asked is h q x how i says
      sent m is h q x how i says = let off = further-not f.number (target_plan r g.t) g.s.opening g.s.memory g.reading g.l.from m (kept g.s) g.new (g.memory, g.did) refl h q i in let no : ⊥ = cc (off, ap says_refused says) in absurd no

      by : (l : Letter) (x : AttemptId) (how : Outcome) → l.message ≡ message.Held x (Some how) → Has l g.rest ⊎ Has l (letters_of (target g.t) g.did.posts) → Has l w.messages ⊎ RefusalShows r o [] dated w.lines x how
      by l x how says (inl j) = inl (has-from_contains w.messages l (left-is-among w.messages g.l g.rest l g.takes (contains-from_has g.rest l j)))
      by l x how says (inr j) = let p = has-from_map (letter_of (target g.t)) g.did.posts l j in inr (sent g.l.message refl g.turn p.0 x how p.1 (ap (λ y. y.message) p.2 ∙ says))

  happening-goes : Happening r w u → GoesOn r o dated w u
  happening-goes (Plainly e up) = plain-goes e
  happening-goes (Further f) = further-goes f
  happening-goes (IsCut g) = record {
    more = g.cut.lines ++ line.Stop (stops_so_far w.lines) g.t ∷ [];
    lines = ap (λ x. x.lines) g.after ∙ append_assoc w.lines g.cut.lines (line.Stop (stops_so_far w.lines) g.t ∷ []);
    letters = old-letters r o dated w u (subst (λ x. RefusalsAreAmong w.messages x.messages) (sym g.after) (lost-among g.t false w.messages w.asked));
  }
  happening-goes (Opens g) = record {
    more = restart_line g.number g.t g.s.durable ∷ [];
    lines = ap (λ x. x.lines) g.after;
    letters = old-letters r o dated w u (subst (λ x. RefusalsAreAmong w.messages x.messages) (sym g.after) (posts-among w.messages w.messages (target g.t) (opening_posts (target_plan r g.t) (reopened g.s.durable)) all-among (unasked-not _ (opening-unasked r g.t (reopened g.s.durable)))));
  }
  happening-goes (Fails g) = record {
    more = [];
    lines = ap (λ x. x.lines) g.after ∙ sym (append-nil w.lines);
    letters = old-letters r o dated w u (subst (λ x. RefusalsAreAmong w.messages x.messages) (sym g.after) all-among);
  }
  happening-goes (GivenUp g) = record {
    more = line.Down g.t ∷ [];
    lines = ap (λ x. x.lines) g.after;
    letters = old-letters r o dated w u (subst (λ x. RefusalsAreAmong w.messages x.messages) (sym g.after) (lost-among g.t true w.messages w.asked));
  }
  happening-goes (Draws g) = record {
    more = [];
    lines = ap (λ x. x.lines) g.after ∙ sym (append-nil w.lines);
    letters = old-letters r o dated w u (subst (λ x. RefusalsAreAmong w.messages x.messages) (sym g.after) all-among);
  }

-- what goes to targets that are given up is lost
swept-shows : (r : Rules) (o : Opening) (dated : Dated) (u : World) → FreezeRefusalsShow r o (with_dates dated u) → FreezeRefusalsShow r o (with_dates dated (swept u))
swept-shows r o dated u k l x how i says = by (has-cases u.messages told l (has-from_filter (is_not_to_down u.targets) (u.messages ++ told) l (has-from_contains (swept u).messages l i)).0)
  where
    told : List Letter
    told = map (reset_letter true) (filter (is_to_down u.targets) u.asked)

    by : Has l u.messages ⊎ Has l told → RefusalShows r o [] dated u.lines x how
    by (inl j) = k l x how (contains-from_has u.messages l j) says
    by (inr j) = let off = resets-not true (filter (is_to_down u.targets) u.asked) l j in let no : ⊥ = cc (off, ap says_refused says) in absurd no

pub all-events-keep_refusals : AllEventsKeepFreezeRefusals
all-events-keep_refusals r o stored dated w v K C e =
    subst (λ z. FreezeRefusalsShow r o (with_dates (dated ++ newly_dated r e.happens) z)) (sym e.after)
    (swept-shows r o (dated ++ newly_dated r e.happens) e.u (goes-shows r o dated (newly_dated r e.happens) w e.u K.refusals (happening-goes r o stored dated w e.u K C e.happens)))
