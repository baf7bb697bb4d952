-- Each event of a run keeps how what is in flight ends attempts.
use Rattle.std.specs.Prelude.{ℕ, ◌++◌, Bool, true, false, List, [], ◌∷◌, Contains, filter, map, ◌≡◌}
use Rattle.std.proofs.Common.{sym, ap, subst, inl, inr}
use Rattle.base_types.specs.declared.entry.Entry.{Entry}
use Rattle.daos_model.specs.declared.durable.Durable.{Durable}
use Rattle.daos_model.specs.Changes.{reopened}
use Rattle.world_base.specs.dtx_base.Leading.{is_led, is_open}
use Rattle.world_base.specs.dtx_base.Members.{other_members}
use Rattle.world_base.specs.model_laws.Members.{Has, contains-from_has, has-cases, has-from_contains, has-from_filter, has-from_map}
use Rattle.world_base.specs.declared.letter.Letter.{Letter}
use Rattle.world_base.specs.declared.world.World.{World}
use Rattle.world_base.specs.ClientTurns.{heard, listed}
use Rattle.world_base.specs.Events.{ByClient, ByTarget, Event, Rules, ToClient, ToTarget, client_plan, kept, target_plan}
use Rattle.world_base.specs.Letters.{client, target}
use Rattle.world_base.specs.Statuses.{opening_posts, status_to, statuses_for, statuses_of}
use Rattle.world_base.specs.StepLaws.{by-hearing, by-next}
use Rattle.world_base.specs.Steps.{KeptByHearing}
use Rattle.world_base.specs.Stops.{Draws, Fails, Further, GivenUp, Happening, IsCut, Opens, Plainly, WorldEvent, is_not_to, is_not_to_down, is_to, is_to_down, reset_letter, resets, swept, with_lost}
use Rattle.world_letters.specs.lines.EndingLaws.{PostsEnd, all-end, all-hear-tell, endings-by-counting, endings-by-moves, idle-ends, sent-end}
use Rattle.world_letters.specs.lines.Lines.{Endings, TellsEnd}
use Rattle.world_letters.specs.talks.TalkLaws.{left-is-among, taken-is-among}
use Rattle.world_letters.specs.endings.Clients.{heard-ends}
use Rattle.world_letters.specs.endings.Posts.{further-sent}
use Rattle.world_letters.specs.endings.Telling.{AsksAgain, AsksFreezes, AsksPrunes, IsSent, Quietly, after-ends, is_collected}
use Rattle.world_base.specs.declared.did.Did.{Did}
use Rattle.world_base.specs.Snapshots.{freeze_to, prune_to}
use Rattle.world_base.specs.dtx_base.Leading.{to_target}
use Rattle.base_messages.specs.declared.message.Message.{Message}
use Rattle.base_messages.specs.declared.message.Message.TheVariants as message
use Rattle.base_messages.specs.declared.message.Post.{Post}

-- ---- what is sent

-- what is asked of the other targets ends nothing
collected-ends : (m : Message) → is_collected m ≡ true → TellsEnd m
collected-ends (message.Freeze x c s) is = tt
collected-ends (message.Prune x c tracker e) is = tt
collected-ends m is = let no : ⊥ = cc in absurd no

mapped-end : (to : ℕ → Post) (ts : List ℕ) → ((t : ℕ) → TellsEnd (to t).message) → PostsEnd (map to ts)
mapped-end to ts each q i = let z = has-from_map to ts q i in subst (λ x. TellsEnd x.message) z.2 (each z.0)

pub sent-ends : (q : Message) (did : Did) → IsSent q did → PostsEnd did.posts
sent-ends q did (Quietly after) = λ s i. after-ends s.message (after s i)
sent-ends q did (AsksFreezes x c name tracker e ts is posts issued) = subst PostsEnd (sym posts) (mapped-end (freeze_to x c e) ts (λ t. tt))
sent-ends q did (AsksPrunes x c tracker g ts is posts issued) = subst PostsEnd (sym posts) (mapped-end (prune_to x c g) ts (λ t. tt))
sent-ends q did (AsksAgain t asked lost is posts) = subst PostsEnd (sym posts) one
  where
    one : PostsEnd (to_target t asked ∷ [])
    one s (inl same) = subst (λ x. TellsEnd x.message) (sym same) (collected-ends asked is)
    one s (inr none) = absurd none

-- ---- events without stops

pub hearing-keeps : (r : Rules) → KeptByHearing r Endings
hearing-keeps r w n c l rest here awake takes to k =
    sent-end (client n) rest (listed (heard (client_plan r n) c l.message).post) (λ m i. k m (left-is-among w.messages l rest m takes i)) (heard-ends (client_plan r n) c l.message)

pub plain-keeps : (r : Rules) (w v : World) → Event r w v → Endings w → Endings v
plain-keeps r w v (ByClient g) k = by-next r Endings (endings-by-moves r) endings-by-counting w v k g
plain-keeps r w v (ToClient g) k = by-hearing r Endings (endings-by-moves r) (hearing-keeps r) w v k g
plain-keeps r w v (ToTarget g) k =
    subst (λ ls. (l : Letter) → Contains ls l → TellsEnd l.message) (sym (ap (λ x. x.messages) g.after))
    (sent-end (target g.t) g.rest g.did.posts (λ m i. k m (left-is-among w.messages g.l g.rest m g.takes i)) (all-end g.did.posts
    (all-hear-tell (target_plan r g.t) g.s.opening g.s.memory g.reading g.l.from g.l.message (kept g.s) g.new (g.memory, g.did) (k g.l (taken-is-among w.messages g.l g.rest g.takes)) g.turn).0))
plain-keeps r w v (ByTarget g) k =
    subst (λ ls. (l : Letter) → Contains ls l → TellsEnd l.message) (sym (ap (λ x. x.messages) g.after))
    (sent-end (target g.t) w.messages g.did.posts k (idle-ends g.settling (target_plan r g.t) g.s.memory g.turn.last g.new (g.memory, g.did) g.turn.ends).0)

-- ---- what is lost

-- who is told that a letter got no answer is told of no end
reset-ends : (down : Bool) (l : Letter) → TellsEnd (reset_letter down l).message
reset-ends down l = tt

resets-end : (down : Bool) (qs : List Letter) (l : Letter) → Has l (map (reset_letter down) qs) → TellsEnd l.message
resets-end down qs l i = let z = has-from_map (reset_letter down) qs l i in subst (λ x. TellsEnd x.message) z.2 (reset-ends down z.0)

lost-keeps : (t : ℕ) (down : Bool) (w : World) → Endings w → Endings (with_lost t down w)
lost-keeps t down w k l i = elim (has-cases (filter (is_not_to t) w.messages) (resets t down w.asked) l (has-from_contains (filter (is_not_to t) w.messages ++ resets t down w.asked) l i)) [
  | inl j ↦ k l (contains-from_has w.messages l (has-from_filter (is_not_to t) w.messages l j).0)
  | inr j ↦ resets-end down (filter (is_to t) w.asked) l j
]

sweep-keeps : (w : World) → Endings w → Endings (swept w)
sweep-keeps w k l i = elim (has-cases w.messages told l (has-from_filter (is_not_to_down w.targets) (w.messages ++ told) l (has-from_contains (swept w).messages l i)).0) [
  | inl j ↦ k l (contains-from_has w.messages l j)
  | inr j ↦ resets-end true (filter (is_to_down w.targets) w.asked) l j
]
  where
    told : List Letter
    told = map (reset_letter true) (filter (is_to_down w.targets) w.asked)

-- ---- openings

both-ends : (ps qs : List Post) → PostsEnd ps → PostsEnd qs → PostsEnd (ps ++ qs)
both-ends ps qs f g q i = elim (has-cases ps qs q i) [ inl j ↦ f q j | inr j ↦ g q j ]

statuses-end : (inc : ℕ) (es : List Entry) → PostsEnd (statuses_for inc es)
statuses-end inc [] = λ q i. absurd i
statuses-end inc (e ∷ es) = both-ends (statuses_of inc e) (statuses_for inc es) (λ q i. let z = has-from_map (status_to inc e.attempt) (other_members e) q i in subst (λ x. TellsEnd x.message) z.2 tt) (statuses-end inc es)

opening-end : (r : Rules) (t : ℕ) (d : Durable) → PostsEnd (opening_posts (target_plan r t) d)
unfolding opening_posts
opening-end r t d = statuses-end d.incarnation (filter is_open (filter (is_led t) d.entries))

-- ---- every event

happening-keeps : (r : Rules) (w v : World) → Happening r w v → Endings w → Endings v
happening-keeps r w v (Plainly e up) k = plain-keeps r w v e k
happening-keeps r w v (Further f) k =
    let g = f.hears in
    subst (λ ls. (l : Letter) → Contains ls l → TellsEnd l.message) (sym (ap (λ x. x.messages) g.after))
    (sent-end (target g.t) g.rest g.did.posts (λ m i. k m (left-is-among w.messages g.l g.rest m g.takes i))
    (sent-ends g.l.message g.did (further-sent f.number (target_plan r g.t) g.s.opening g.s.memory g.reading g.l.from (kept g.s) g.new (g.memory, g.did) g.l.message (k g.l (taken-is-among w.messages g.l g.rest g.takes)) g.turn)))
happening-keeps r w v (IsCut g) k = subst Endings (sym g.after) (lost-keeps g.t false w k)
happening-keeps r w v (Opens g) k =
    subst (λ ls. (l : Letter) → Contains ls l → TellsEnd l.message) (sym (ap (λ x. x.messages) g.after)) (sent-end (target g.t) w.messages (opening_posts (target_plan r g.t) (reopened g.s.durable)) k (opening-end r g.t (reopened g.s.durable)))
happening-keeps r w v (Fails g) k = subst Endings (sym g.after) k
happening-keeps r w v (GivenUp g) k = subst Endings (sym g.after) (lost-keeps g.t true w k)
happening-keeps r w v (Draws g) k = subst Endings (sym g.after) k

pub event-keeps : (r : Rules) (w v : World) → WorldEvent r w v → Endings w → Endings v
event-keeps r w v e k = subst Endings (sym e.after) (sweep-keeps e.u (happening-keeps r w e.u e.happens k))
