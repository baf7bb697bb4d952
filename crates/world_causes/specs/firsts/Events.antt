-- Every event of a run keeps first epochs.
use Rattle.std.specs.Prelude.{ℕ, ◌≡◌, ◌<◌, ◌++◌, ◌⊎◌, Bool, true, false, List, [], ◌∷◌, map, filter, Contains, slice_get, Some, None, refl}
use Rattle.std.proofs.Common.{inl, inr, sym, ◌∙◌, ap, subst}
use Rattle.std.proofs.Math.ListN.{set}
use Rattle.std.proofs.lemmas.Bool.{cases_eq}
use Rattle.std.proofs.lemmas.List.Elements.{Contains-append_left}
use Rattle.base_types.specs.declared.entry.Entry.{Entry}
use Rattle.base_types.specs.declared.epoch.Epoch.{Epoch}
use Rattle.base_types.specs.declared.id.AttemptId.{AttemptId}
use Rattle.base_types.specs.declared.report.Line.{Line}
use Rattle.base_types.specs.declared.report.Line.TheVariants as line
use Rattle.base_messages.specs.declared.message.Message.{Message}
use Rattle.base_messages.specs.declared.message.Message.TheVariants as message
use Rattle.base_messages.specs.declared.message.Post.{Post}
use Rattle.daos_model.specs.Changes.{reopened}
use Rattle.daos_model.specs.declared.durable.Durable.{Durable}
use Rattle.dtx_base.specs.declared.member.Parked.{Parked}
use Rattle.dtx_base.specs.Leading.{is_led, is_open}
use Rattle.dtx_base.specs.Members.{other_members}
use Rattle.model_laws.specs.Lists.{none-in}
use Rattle.model_laws.specs.Members.{Has, contains-from_has, has-cases, has-from_contains, has-from_filter, has-from_map}
use Rattle.world_base.specs.declared.client.ClientState.{ClientState}
use Rattle.world_base.specs.declared.did.Did.{Did}
use Rattle.world_base.specs.declared.letter.Letter.{Letter}
use Rattle.world_base.specs.declared.target.Life.TheVariants.{Down}
use Rattle.world_base.specs.declared.target.TargetMemory.{TargetMemory}
use Rattle.world_base.specs.declared.target.TargetState.{TargetState}
use Rattle.world_base.specs.declared.world.World.{World}
use Rattle.world_base.specs.Events as events
use Rattle.world_base.specs.Events.{ByClient, ByTarget, Event, Rules, ToClient, ToTarget, after_turn, kept, target_after, target_plan, with_epoch, with_target}
use Rattle.world_base.specs.Letters.{Takes, letter_of, letters_of, target}
use Rattle.world_base.specs.StepLaws.{by-hearing, by-next, set-is, set-there}
use Rattle.world_base.specs.Statuses.{opening_posts, status_to, statuses_for, statuses_of}
use Rattle.world_base.specs.Stops.{Draws, Fails, Further, GivenUp, Happening, IsCut, Opens, Plainly, WorldEvent, after_cut, after_opening, is_not_to, is_not_to_down, is_to, is_to_down, opened_at, reset_letter, resets, restart_line, stopped_at, stops_so_far, swept, with_lost}
use Rattle.world_causes.specs.causes.Causes.{Dated}
use Rattle.world_causes.specs.causes.FirstTurns.{Knows, all-hear-knows, idle-knows, is_undated}
use Rattle.world_causes.specs.causes.Premises.{RequestKnows}
use Rattle.world_contents.specs.world_letters.epochs.Epochs as epochs
use Rattle.world_contents.specs.world_letters.epochs.Epochs.{ClientsStand, Epochs}
use Rattle.world_contents.specs.world_letters.talks.TalkLaws.{left-is-among, taken-is-among}
use Rattle.world_causes.specs.firsts.Clients.{Standing, answers-bear, by-counts, by-hears, by-moves}
use Rattle.world_causes.specs.firsts.Firsts.{Firsts, GoesWith, MessageTells, WaitsSo}
use Rattle.world_causes.specs.firsts.Further.{AllWait, Leaves, PostsTell, all-bear, further-leaves}
use Rattle.world_causes.specs.causes.Lasting.{lost-more}
use Rattle.world_causes.specs.firsts.Keeping.{IsMore, clients-stay, follows-keeps, lines-only, more-by, none-more, tells-stay, waits-stay}

-- ---- what was heard, or waited, before

-- a request that is heard
asks-for : (r : Rules) (issued : Dated) (lines : List Line) (m : Message) → MessageTells r issued lines m → RequestKnows (GoesWith r issued lines) m
asks-for r issued lines (message.Fetch x op group ep first tracker q snapshot) k = k
asks-for r issued lines (message.Commit x ep first tracker ws) k = k
asks-for r issued lines (message.Prepare e first ws inc) k = k
asks-for r issued lines m k = tt

-- a Fetch that waits has an epoch
waits-dated : (m : Message) (x : AttemptId) (e : Epoch) → epochs.GoesWith m x e → is_undated m ≡ false
waits-dated (message.Fetch y op group None first tracker q snapshot) x e k = absurd k
waits-dated m x e k = refl

all-dated : (r : Rules) (top : ℕ) (w : World) (t : ℕ) (s : TargetState) → Epochs r top w → slice_get w.targets t ≡ Some s → (p : Parked) → Has p s.memory.member.parked → is_undated p.ask ≡ false
all-dated r top w t s E here p i = let k = (E.parked t s p here (contains-from_has s.memory.member.parked p i)).0 in waits-dated p.ask k.x k.e k.bears

-- ---- a target's turn

-- letters that are sent beside others in flight
sent : (r : Rules) (issued : Dated) (lines : List Line) (w : World) (t : ℕ) (rest : List Letter) (posts : List Post) → ((l : Letter) → Contains rest l → Contains w.messages l) → PostsTell r issued lines posts
    → (l : Letter) → Contains (rest ++ letters_of (target t) posts) l → Contains w.messages l ⊎ MessageTells r issued lines l.message
sent r issued lines w t rest posts were tell l i = elim (has-cases rest (letters_of (target t) posts) l (has-from_contains (rest ++ letters_of (target t) posts) l i)) [
  | inl j ↦ inl (were l (contains-from_has rest l j))
  | inr j ↦ inr (let q = has-from_map (letter_of (target t)) posts l j in subst (λ x. MessageTells r issued lines x.message) q.2 (tell q.0 q.1))
]

-- where one target is set, a Fetch waits there, or where it waited
waits-at : (w : World) (ts : List TargetState) (t : ℕ) (z : TargetState) (P : Parked → Type 0) → ts ≡ set w.targets t z → ((p : Parked) → Contains z.memory.member.parked p → P p)
    → ((u : ℕ) (s : TargetState) (p : Parked) → slice_get w.targets u ≡ Some s → Contains s.memory.member.parked p → P p) → (u : ℕ) (s : TargetState) (p : Parked) → slice_get ts u ≡ Some s → Contains s.memory.member.parked p → P p
waits-at w ts t z P targets new old u s p at i = by (cases_eq u t)
  where
    there : slice_get (set w.targets t z) u ≡ Some s
    there = ap (λ xs. slice_get xs u) (sym targets) ∙ at

    by : (u ≡ t) ⊎ ((u ≡ t) → ⊥) → P p
    by (inl same) = let is-it : z ≡ s = set-is w.targets t z s (subst (λ n. slice_get (set w.targets t z) n ≡ Some s) same there) in new p (subst (λ x. Contains x.memory.member.parked p) (sym is-it) i)
    by (inr apart) = old u s p (sym (set-there w.targets t u z apart) ∙ there) i

-- the world once a target did something, where these letters were left
turn-keeps : (r : Rules) (w : World) (t : ℕ) (new : TargetState) (did : Did) (rest : List Letter) → Firsts r w → ((l : Letter) → Contains rest l → Contains w.messages l)
    → Leaves r (w.issued ++ events.listed did.issued) (w.lines ++ map (with_epoch w.issued) did.lines) (new.memory, did) → Firsts r (with_target t new (after_turn w (target t) did rest))
turn-keeps r w t new did rest F were k = follows-keeps r w v F (record {
  more = M;
  clients = clients-stay r w v F refl M;
  letters = sent r v.issued v.lines w t rest did.posts were k.posts;
  parked = λ u s p at i. inr (waits-at w v.targets t new (λ q. WaitsSo r v.issued v.lines q.ask) refl (λ q j. k.parked q (has-from_contains new.memory.member.parked q j))
      (λ l y q at' j. waits-stay r w.issued v.issued w.lines v.lines M q.ask (F.parked l y q at' j)) u s p at i);
})
  where
    v : World
    v = with_target t new (after_turn w (target t) did rest)

    M : IsMore w.issued v.issued w.lines v.lines
    M = more-by w.issued (events.listed did.issued) w.lines (map (with_epoch w.issued) did.lines)

module _ (r : Rules) (top : ℕ) (w : World) (E : Epochs r top w) (F : Firsts r w) where
  -- what is left of what waited, and was heard, where epochs were issued and lines added
  module _ (did : Did) where
    abbrev now : Dated
    now = w.issued ++ events.listed did.issued

    abbrev then : List Line
    then = w.lines ++ map (with_epoch w.issued) did.lines

    M : IsMore w.issued now w.lines then
    M = more-by w.issued (events.listed did.issued) w.lines (map (with_epoch w.issued) did.lines)

    heard-tells : (l : Letter) (rest : List Letter) → Takes w.messages l rest → MessageTells r now then l.message
    heard-tells l rest takes = tells-stay r w.issued now w.lines then M l.message (F.flight l (taken-is-among w.messages l rest takes))

    waited : (t : ℕ) (s : TargetState) → slice_get w.targets t ≡ Some s → AllWait r now then s.memory.member.parked
    waited t s here p i = waits-stay r w.issued now w.lines then M p.ask (F.parked t s p here (contains-from_has s.memory.member.parked p i))

    knows-leaves : (left : TargetMemory × Did) → Knows (GoesWith r now then) left → Leaves r now then left
    knows-leaves left k = record { posts = all-bear r now then left.1.posts k.posts; parked = k.parked }

  plain-keeps : (v : World) → 0 < r.attempts → ClientsStand r w → Event r w v → Firsts r v
  plain-keeps v some S (ByClient g) = (by-next r (Standing r) (by-moves r some) (by-counts r some) w v (record { stand = S; firsts = F; bear = answers-bear r top w E }) g).firsts
  plain-keeps v some S (ToClient g) = (by-hearing r (Standing r) (by-moves r some) (by-hears r some) w v (record { stand = S; firsts = F; bear = answers-bear r top w E }) g).firsts
  plain-keeps v some S (ToTarget g) = subst (Firsts r) (sym g.after) (turn-keeps r w g.t (target_after g.s g.new g.memory) g.did g.rest F (λ m i. left-is-among w.messages g.l g.rest m g.takes i)
      (knows-leaves g.did (g.memory, g.did)
      (all-hear-knows (GoesWith r (now g.did) (then g.did)) (target_plan r g.t) g.s.opening g.s.memory g.reading g.l.from g.l.message (kept g.s) g.new (g.memory, g.did) (asks-for r (now g.did) (then g.did) g.l.message (heard-tells g.did g.l g.rest g.takes))
      (waited g.did g.t g.s g.here) (all-dated r top w g.t g.s E g.here) g.turn)))
  plain-keeps v some S (ByTarget g) = subst (Firsts r) (sym g.after) (turn-keeps r w g.t (target_after g.s g.new g.memory) g.did w.messages F (λ m i. i)
      (knows-leaves g.did (g.memory, g.did)
      (idle-knows (GoesWith r (now g.did) (then g.did)) g.settling (target_plan r g.t) g.s.memory (kept g.s) g.new (g.memory, g.did) (waited g.did g.t g.s g.here) g.turn)))

-- ---- what is lost

-- who is told that a letter got no answer is told nothing of first epochs
reset-tells : (r : Rules) (issued : Dated) (lines : List Line) (down : Bool) (l : Letter) → MessageTells r issued lines (reset_letter down l).message
reset-tells r issued lines down l = tt

resets-tell : (r : Rules) (issued : Dated) (lines : List Line) (down : Bool) (qs : List Letter) (l : Letter) → Has l (map (reset_letter down) qs) → MessageTells r issued lines l.message
resets-tell r issued lines down qs l i = let z = has-from_map (reset_letter down) qs l i in subst (λ x. MessageTells r issued lines x.message) z.2 (reset-tells r issued lines down z.0)

lost-letters : (r : Rules) (issued : Dated) (lines : List Line) (w : World) (t : ℕ) (down : Bool) (l : Letter) → Contains (with_lost t down w).messages l → Contains w.messages l ⊎ MessageTells r issued lines l.message
lost-letters r issued lines w t down l i = elim (has-cases (filter (is_not_to t) w.messages) (resets t down w.asked) l (has-from_contains (filter (is_not_to t) w.messages ++ resets t down w.asked) l i)) [
  | inl j ↦ inl (contains-from_has w.messages l (has-from_filter (is_not_to t) w.messages l j).0)
  | inr j ↦ inr (resets-tell r issued lines down (filter (is_to t) w.asked) l j)
]

-- a target is set that keeps no Fetch but those that waited there
one-stops : (r : Rules) (w v : World) (t : ℕ) (z : TargetState) → Firsts r w → v.clients ≡ w.clients → v.targets ≡ set w.targets t z → ((p : Parked) → Contains z.memory.member.parked p → WaitsSo r w.issued w.lines p.ask)
    → IsMore w.issued v.issued w.lines v.lines → ((l : Letter) → Contains v.messages l → Contains w.messages l ⊎ MessageTells r v.issued v.lines l.message) → Firsts r v
one-stops r w v t z F clients targets here M letters = follows-keeps r w v F (record {
  more = M;
  clients = clients-stay r w v F clients M;
  letters = letters;
  parked = λ u s p at i. inr (waits-stay r w.issued v.issued w.lines v.lines M p.ask (waits-at w v.targets t z (λ q. WaitsSo r w.issued w.lines q.ask) targets here (λ k y q at' j. F.parked k y q at' j) u s p at i));
})

sweep-keeps : (r : Rules) (w : World) → Firsts r w → Firsts r (swept w)
sweep-keeps r w F = record {
  clients = F.clients;
  flight = λ l i. elim (has-cases w.messages told l (has-from_filter (is_not_to_down w.targets) (w.messages ++ told) l (has-from_contains (swept w).messages l i)).0) [
    | inl j ↦ F.flight l (contains-from_has w.messages l j)
    | inr j ↦ resets-tell r w.issued w.lines true (filter (is_to_down w.targets) w.asked) l j
  ];
  parked = F.parked;
}
  where
    told : List Letter
    told = map (reset_letter true) (filter (is_to_down w.targets) w.asked)

-- ---- openings

module _ (r : Rules) (issued : Dated) (lines : List Line) where
  statuses-tell : (inc : ℕ) (es : List Entry) → PostsTell r issued lines (statuses_for inc es)
  statuses-tell inc [] q i = absurd i
  statuses-tell inc (e ∷ es) q i = elim (has-cases (statuses_of inc e) (statuses_for inc es) q i) [
    | inl j ↦ (let z = has-from_map (status_to inc e.attempt) (other_members e) q j in subst (λ x. MessageTells r issued lines x.message) z.2 tt)
    | inr j ↦ statuses-tell inc es q j
  ]

  opening-tells : (t : ℕ) (d : Durable) → PostsTell r issued lines (opening_posts (target_plan r t) d)
  unfolding opening_posts
  opening-tells t d = statuses-tell d.incarnation (filter is_open (filter (is_led t) d.entries))

-- ---- every event

-- what a cut turn issued and told, and that its target stopped
cut-more : (w : World) (new : Dated) (told stop : List Line) → IsMore w.issued (w.issued ++ new) w.lines (w.lines ++ told ++ stop)
cut-more w new told stop = record { dates = λ x e i. Contains-append_left w.issued new (x, e) i; lost = λ x k. lost-more (w.lines ++ told) stop x (lost-more w.lines told x k) }

none-waits : (p : Parked) → Contains [] p → ⊥
none-waits p i = none-in [] p refl i

happening-keeps : (r : Rules) (top : ℕ) (w v : World) → 0 < r.attempts → ClientsStand r w → Epochs r top w → Firsts r w → Happening r w v → Firsts r v
happening-keeps r top w v some S E F (Plainly e up) = plain-keeps r top w E F v some S e
happening-keeps r top w v some S E F (Further f) =
    let g = f.hears in
    subst (Firsts r) (sym g.after) (turn-keeps r w g.t (target_after g.s g.new g.memory) g.did g.rest F (λ m i. left-is-among w.messages g.l g.rest m g.takes i)
    (further-leaves r (now r top w E F g.did) (then r top w E F g.did) f.number (target_plan r g.t) g.s.opening g.s.memory g.reading g.l.from (kept g.s) g.new (g.memory, g.did) g.l.message
    (waited r top w E F g.did g.t g.s g.here) (all-dated r top w g.t g.s E g.here) g.turn))
happening-keeps r top w v some S E F (IsCut g) =
    subst (Firsts r) (sym g.after) (one-stops r w (after_cut w g.t g.s g.cut) g.t (stopped_at g.s g.cut.left) F refl refl (λ p i. absurd (none-waits p i)) (cut-more w g.cut.issued g.cut.lines (line.Stop (stops_so_far w.lines) g.t ∷ [])) (lost-letters r _ _ w g.t false))
happening-keeps r top w v some S E F (Opens g) =
    subst (Firsts r) (sym g.after) (one-stops r w (after_opening r w g.t g.number g.s g.free) g.t (opened_at r g.t g.number g.s g.free) F refl refl (λ p i. absurd (none-waits p i)) (lines-only w.issued w.lines (restart_line g.number g.t g.s.durable ∷ [])) (sent r _ _ w g.t w.messages (opening_posts (target_plan r g.t) (reopened g.s.durable)) (λ l i. i) (opening-tells r _ _ g.t (reopened g.s.durable))))
happening-keeps r top w v some S E F (Fails g) = subst (Firsts r) (sym g.after) (one-stops r w (with_target g.t (record g.s { durable = g.k.durable; free = g.k.free }) w) g.t (record g.s { durable = g.k.durable; free = g.k.free }) F refl refl (λ p i. F.parked g.t g.s p g.here i) (none-more w.issued w.lines) (λ l i. inl i))
happening-keeps r top w v some S E F (GivenUp g) = subst (Firsts r) (sym g.after) (one-stops r w (with_lost g.t true (with_target g.t (record g.s { life = Down }) (record w { lines = w.lines ++ line.Down g.t ∷ [] }))) g.t (record g.s { life = Down }) F refl refl (λ p i. F.parked g.t g.s p g.here i) (lines-only w.issued w.lines (line.Down g.t ∷ [])) (lost-letters r _ _ w g.t true))
happening-keeps r top w v some S E F (Draws g) = subst (Firsts r) (sym g.after) (record { clients = F.clients; flight = F.flight; parked = F.parked })

pub event-keeps : (r : Rules) (top : ℕ) → 0 < r.attempts → (w v : World) → WorldEvent r w v → ClientsStand r w → Epochs r top w → Firsts r w → Firsts r v
event-keeps r top some w v e S E F = subst (Firsts r) (sym e.after) (sweep-keeps r e.u (happening-keeps r top w e.u some S E F e.happens))

-- ---- the beginning

pub firsts-begin : (r : Rules) (w : World) → ((n : ℕ) (c : ClientState) → slice_get w.clients n ≡ Some c → c.present ≡ None) → w.messages ≡ [] → ((t : ℕ) (s : TargetState) → slice_get w.targets t ≡ Some s → s.memory.member.parked ≡ []) → Firsts r w
firsts-begin r w none quiet idle = record {
  clients = λ n c a at here. let no : ⊥ = cc (none n c at, here) in absurd no;
  flight = λ l i. absurd (none-in w.messages l quiet i);
  parked = λ t s p at i. absurd (none-in s.memory.member.parked p (idle t s at) i);
}
