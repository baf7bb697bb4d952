-- A client's turn keeps the facts of losses: step by step, what it is past stays so, and its attempt stays present, or is over.
use Rattle.std.specs.Prelude.{ℕ, ◌≡◌, ◌⊎◌, ◌++◌, ◌==◌, ◌||◌, Bool, true, false, List, [], ◌∷◌, map, slice_get, Contains, Option, Some, None, refl}
use Rattle.std.proofs.Common.{append-nil, append_assoc, sym, ◌∙◌, ap, subst, inl, inr}
use Rattle.std.proofs.Math.ListN.{set}
use Rattle.base_types.specs.declared.id.AttemptId.{AttemptId}
use Rattle.base_types.specs.declared.report.Attempt.{Attempt}
use Rattle.base_types.specs.declared.report.Line.{Line}
use Rattle.base_types.specs.declared.report.Line.TheVariants as line
use Rattle.base_messages.specs.declared.message.Post.{Post}
use Rattle.daos_model.specs.Accesses.{attempt_targets}
use Rattle.daos_model.specs.Attempts.{EachTry, is_lost, is_of_client, tries}
use Rattle.daos_model.specs.CausesShown.{IsLostAtStop}
use Rattle.model_laws.specs.Members.{Has, contains-from_has, has-cases, has-from_contains, has-from_map}
use Rattle.model_laws.specs.TargetLaws.{number_same}
use Rattle.std.specs.List.{list_any}
use Rattle.world_contents.specs.world_commit.attempts.Attempts.{entry_in, leader_of}
use Rattle.world_contents.specs.world_commit.attempts.Turning.{one-or_another}
use Rattle.world_base.specs.declared.client.ClientState.{ClientState}
use Rattle.world_base.specs.declared.client.Present.{Present}
use Rattle.world_base.specs.declared.letter.Letter.{Letter}
use Rattle.world_base.specs.declared.world.World.{World}
use Rattle.world_base.specs.ClientTurns.{Move, attempt_id, listed, moved}
use Rattle.world_base.specs.Events.{ClientGoes, Rules, client_plan, with_client, with_epoch}
use Rattle.world_base.specs.Letters.{client, letter_of, letters_of}
use Rattle.world_base.specs.StepLaws.{by-next, set-here, set-there}
use Rattle.world_base.specs.Steps.{KeptByCounting, KeptByMoves, after_move, without}
use Rattle.world_causes.specs.causes.Lasting.{AreOfOthers, since-more}
use Rattle.world_contents.specs.world_letters.epochs.Epochs.{IsPast, IsPresent}
use Rattle.world_contents.specs.world_letters.epochs.Lists.{each-push}
use Rattle.world_contents.specs.world_commit.fates.Asking.{asked-was}
use Rattle.world_contents.specs.world_letters.lines.Lines.{filled}
use Rattle.world_causes.specs.losses.Losses.{Losses, Rests, StoppedSince, is_asked_of, tells_stop}
use Rattle.world_causes.specs.losses.Moving.{LinesSo, StaysOrEnds, moved-lines, moved-none, moved-stays}
use Rattle.world_causes.specs.outcomes.ClientLaws.{present-not-past}
use Rattle.world_causes.specs.outcomes.Moving.{moved-past, same-past}
use Rattle.world_causes.specs.outcomes.TurnLaws.{tried-cases}

-- ---- where clients are

-- the client of an attempt is past it
pub record IsOver (clients : List ClientState) (x : AttemptId) : Type 0 where
  pub c : ClientState
  pub here : slice_get clients x.client ≡ Some c
  pub past : IsPast c x

pub present-not-over : (r : Rules) (w : World) (x : AttemptId) → IsPresent r w x → IsOver w.clients x → ⊥
present-not-over r w x at over =
    let one : over.c ≡ at.c = let e : Some over.c ≡ Some at.c = sym over.here ∙ at.here in cc in
    present-not-past (client_plan r x.client) at.c at.a at.at (subst (IsPast at.c) (sym at.own) (subst (λ c. IsPast c x) one over.past))

-- lines tell of no attempt of this client
abbrev pub NoneOf : ℕ → List Line → Type 0
NoneOf n more = (b : Attempt) → Contains (tries more) b → b.id.client ≡ n → ⊥

none-any : (n : ℕ) (ts : List Attempt) → ((b : Attempt) → Has b ts → b.id.client ≡ n → ⊥) → list_any (is_of_client n) ts ≡ false
none-any n [] off = refl
none-any n (t ∷ ts) off = by (none-any n ts (λ b i. off b (inr i))) (t.id.client == n) refl
  where
    by : list_any (is_of_client n) ts ≡ false → (b : Bool) → (t.id.client == n) ≡ b → list_any (is_of_client n) (t ∷ ts) ≡ false
    by rest true is = absurd (off t (inl refl) (number_same t.id.client n is))
    by rest false is = ap (λ b. b || list_any (is_of_client n) ts) is ∙ rest

pub of-others : (n : ℕ) (more : List Line) → NoneOf n more → AreOfOthers n more
of-others n more off = none-any n (tries more) (λ b i. off b (contains-from_has (tries more) b i))

-- ---- after some steps of a client's turn

pub record After (r : Rules) (w v : World) : Type 0 where
  pub over : (x : AttemptId) → IsOver w.clients x → IsOver v.clients x
  pub more : List Line
  pub told : v.lines ≡ w.lines ++ more
  pub stays : (x : AttemptId) → IsPresent r w x → (IsPresent r v x × NoneOf x.client more) ⊎ IsOver v.clients x
  pub lines : EachTry (λ before a. is_lost a.id a.outcome ≡ true → IsLostAtStop r.script before a) v.lines
  pub letters : (l : Letter) (x : AttemptId) → Has l v.messages → tells_stop x l.message ≡ true → Has l w.messages ⊎ (IsPresent r w x × StoppedSince r w.lines x)
  pub asked : (l : Letter) (x : AttemptId) → Has l v.asked → tells_stop x l.message ≡ true → Has l w.asked ⊎ (IsPresent r w x × StoppedSince r w.lines x)
  pub targets : v.targets ≡ w.targets

none-yet : (n : ℕ) → NoneOf n []
unfolding tries
none-yet n b i own = has-from_contains [] b i

pub after-none : (r : Rules) (w : World) (rest : List Letter) → Losses r w → ((l : Letter) → Has l rest → Has l w.messages) → After r w (without w rest)
after-none r w rest k among = record {
  over = λ x o. o;
  more = [];
  told = sym (append-nil w.lines);
  stays = λ x at. inl (at, none-yet x.client);
  lines = k.lines;
  letters = λ l x i is. inl (among l i);
  asked = λ l x i is. inl i;
  targets = refl;
}

-- ---- one step

-- what a step of a client comes to
pub record Stepped (r : Rules) (w u : World) (n : ℕ) (c : ClientState) (m : Move) : Type 0 where
  pub past : (x : AttemptId) → IsPast c x → IsPast m.state x
  pub stays : (a : Present) → c.present ≡ Some a → StaysOrEnds (client_plan r n) c a m
  pub own : (b : Attempt) → m.line ≡ Some (line.Try b) → b.id.client ≡ n
  pub lost : (b : Attempt) → m.line ≡ Some (line.Try b) → is_lost b.id b.outcome ≡ true → IsLostAtStop r.script u.lines b
  pub tries : (l : Line) → m.line ≡ Some l → (b : Attempt) × (l ≡ line.Try b)
  pub posts : (q : Post) (x : AttemptId) → Has q (listed m.post) → tells_stop x q.message ≡ true → IsPresent r w x × StoppedSince r w.lines x

-- where a line tells of an attempt, if there is one
pub line-added : (o : Option Line) → ((l : Line) → o ≡ Some l → (b : Attempt) × (l ≡ line.Try b)) → (b : Attempt) → Has b (tries (listed o)) → o ≡ Some (line.Try b)
unfolding tries
line-added None tells b i = absurd i
line-added (Some l) tells b i =
    let t = tells l refl in
    elim (subst (λ y. Has b (tries (y ∷ []))) t.1 i) [ inl same ↦ ap (λ y. Some y) (t.1 ∙ ap (λ y. line.Try y) (sym same)) | inr none ↦ absurd none ]

module _ (r : Rules) (w u : World) (k : After r w u) (n : ℕ) (c : ClientState) (m : Move) (here : slice_get u.clients n ≡ Some c) (s : Stepped r w u n c m) where
  abbrev v : World
  v = after_move u n m

  now : slice_get v.clients n ≡ Some m.state
  now = set-here u.clients n c m.state here

  there : (x : AttemptId) → (x.client ≡ n → ⊥) → slice_get v.clients x.client ≡ slice_get u.clients x.client
  there x off = set-there u.clients n x.client m.state off

  over-on : (x : AttemptId) → IsOver u.clients x → IsOver v.clients x
  over-on x o = elim (one-or_another x.client n) [
    | inl is ↦
        let one : o.c ≡ c = let e : Some o.c ≡ Some c = sym o.here ∙ subst (λ j. slice_get u.clients j ≡ Some c) (sym is) here in cc in
        record { c = m.state; here = subst (λ j. slice_get v.clients j ≡ Some m.state) (sym is) now; past = s.past x (subst (λ z. IsPast z x) one o.past) }
    | inr off ↦ record { c = o.c; here = there x off ∙ o.here; past = o.past }
  ]

  added : (b : Attempt) → Has b (tries (listed m.line)) → m.line ≡ Some (line.Try b)
  added = line-added m.line s.tries

  -- lines are added of this client alone
  none-more : (j : ℕ) → (j ≡ n → ⊥) → NoneOf j k.more → NoneOf j (k.more ++ map (with_epoch u.issued) (listed m.line))
  none-more j off none b i own = elim (tried-cases u.issued k.more (listed m.line) b i) [
    | inl old ↦ none b old own
    | inr new ↦ off (sym own ∙ sym (ap (λ z. z.id.client) new.2) ∙ s.own new.0 (added new.0 new.1))
  ]

  still-none : (j : ℕ) → m.line ≡ None → NoneOf j k.more → NoneOf j (k.more ++ map (with_epoch u.issued) (listed m.line))
  still-none j none old = subst (λ o. NoneOf j (k.more ++ map (with_epoch u.issued) (listed o))) (sym none) (subst (NoneOf j) (sym (append-nil k.more)) old)

  stays-on : (x : AttemptId) → IsPresent r u x → NoneOf x.client k.more → (IsPresent r v x × NoneOf x.client (k.more ++ map (with_epoch u.issued) (listed m.line))) ⊎ IsOver v.clients x
  stays-on x at none = elim (one-or_another x.client n) [
    | inl is ↦
        let one : at.c ≡ c = let e : Some at.c ≡ Some c = sym at.here ∙ subst (λ j. slice_get u.clients j ≡ Some c) (sym is) here in cc in
        let own : attempt_id (client_plan r n) c at.a ≡ x = subst (λ z. attempt_id (client_plan r n) z at.a ≡ x) one (subst (λ j. attempt_id (client_plan r j) at.c at.a ≡ x) is at.own) in
        by is own (s.stays at.a (subst (λ z. z.present ≡ Some at.a) one at.at))
    | inr off ↦ inl (record { c = at.c; a = at.a; here = there x off ∙ at.here; at = at.at; own = at.own }, none-more x.client off none)
  ]
    where
      by : x.client ≡ n → attempt_id (client_plan r n) c at.a ≡ x → StaysOrEnds (client_plan r n) c at.a m → (IsPresent r v x × NoneOf x.client (k.more ++ map (with_epoch u.issued) (listed m.line))) ⊎ IsOver v.clients x
      by is own (inl z) = inl (
        record {
          c = m.state;
          a = z.b;
          here = subst (λ j. slice_get v.clients j ≡ Some m.state) (sym is) now;
          at = z.at;
          own = subst (λ j. attempt_id (client_plan r j) m.state z.b ≡ x) (sym is) (z.own ∙ own);
        },
        still-none x.client z.untold none,
      )
      by is own (inr past) = inr (record { c = m.state; here = subst (λ j. slice_get v.clients j ≡ Some m.state) (sym is) now; past = subst (IsPast m.state) own past })

  lines-on : EachTry (λ before a. is_lost a.id a.outcome ≡ true → IsLostAtStop r.script before a) v.lines
  lines-on = by m.line refl
    where
      by : (o : Option Line) → m.line ≡ o → EachTry (λ before a. is_lost a.id a.outcome ≡ true → IsLostAtStop r.script before a) (u.lines ++ map (with_epoch u.issued) (listed o))
      by None is = subst (EachTry (λ before a. is_lost a.id a.outcome ≡ true → IsLostAtStop r.script before a)) (sym (append-nil u.lines)) k.lines
      by (Some l) is =
          let t = s.tries l is in
          subst (λ y. EachTry (λ before a. is_lost a.id a.outcome ≡ true → IsLostAtStop r.script before a) (u.lines ++ with_epoch u.issued y ∷ [])) (sym t.1)
          (each-push (λ before a. is_lost a.id a.outcome ≡ true → IsLostAtStop r.script before a) u.lines (filled u.issued t.0) k.lines (λ lost. let z = s.lost t.0 (is ∙ ap (λ y. Some y) t.1) lost in record { since = z.since; rest = z.rest; stop = z.stop }))

  sent : (l : Letter) (x : AttemptId) → Has l (letters_of (client n) (listed m.post)) → tells_stop x l.message ≡ true → IsPresent r w x × StoppedSince r w.lines x
  sent l x i is = let q = has-from_map (letter_of (client n)) (listed m.post) l i in s.posts q.0 x q.1 (subst (λ z. tells_stop x z.message ≡ true) (sym q.2) is)

  pub stepped : After r w v
  stepped = record {
    over = λ x o. over-on x (k.over x o);
    more = k.more ++ map (with_epoch u.issued) (listed m.line);
    told = ap (λ ls. ls ++ map (with_epoch u.issued) (listed m.line)) k.told ∙ append_assoc w.lines k.more (map (with_epoch u.issued) (listed m.line));
    stays = λ x at. elim (k.stays x at) [ inl z ↦ stays-on x z.0 z.1 | inr o ↦ inr (over-on x o) ];
    lines = lines-on;
    letters = λ l x i is. elim (has-cases u.messages (letters_of (client n) (listed m.post)) l i) [ inl old ↦ k.letters l x old is | inr new ↦ inr (sent l x new is) ];
    asked = λ l x i is. elim (asked-was u.asked (letters_of (client n) (listed m.post)) l i) [ inl old ↦ k.asked l x old is | inr new ↦ inr (sent l x new.0 is) ];
    targets = k.targets;
  }

-- ---- moves

pub moves-step : (r : Rules) (w : World) → KeptByMoves r (After r w)
moves-step r w u n c here k = stepped r w u k n c (moved (client_plan r n) c) here (record {
  past = λ x past. moved-past (client_plan r n) c x past;
  stays = λ a at. moved-stays (client_plan r n) c a at;
  own = lines.own;
  lost = λ b is gone. let off = lines.unlost b is in (let no : ⊥ = cc (off, gone) in absurd no);
  tries = lines.tries;
  posts = λ q x i is. absurd (moved-none (client_plan r n) c q x i is);
})
  where
    lines : LinesSo n (moved (client_plan r n) c).line
    lines = moved-lines (client_plan r n) c

pub counts-step : (r : Rules) (w : World) → KeptByCounting (After r w)
counts-step r w u n j c here k = record {
  over = λ x o. over-on x (k.over x o);
  more = k.more;
  told = k.told;
  stays = λ x at. elim (k.stays x at) [ inl z ↦ inl (present-on x z.0, z.1) | inr o ↦ inr (over-on x o) ];
  lines = k.lines;
  letters = k.letters;
  asked = k.asked;
  targets = k.targets;
}
  where
    d : ClientState
    d = record c { skip = j }

    now : (x : AttemptId) → x.client ≡ n → slice_get (set u.clients n d) x.client ≡ Some d
    now x is = subst (λ i. slice_get (set u.clients n d) i ≡ Some d) (sym is) (set-here u.clients n c d here)

    same : (x : AttemptId) (z : ClientState) → x.client ≡ n → slice_get u.clients x.client ≡ Some z → z ≡ c
    same x z is at = let e : Some z ≡ Some c = sym at ∙ subst (λ i. slice_get u.clients i ≡ Some c) (sym is) here in cc

    over-on : (x : AttemptId) → IsOver u.clients x → IsOver (set u.clients n d) x
    over-on x o = elim (one-or_another x.client n) [
      | inl is ↦ record { c = d; here = now x is; past = same-past c d x refl (λ a at. (a, at, refl)) (subst (λ z. IsPast z x) (same x o.c is o.here) o.past) }
      | inr off ↦ record { c = o.c; here = set-there u.clients n x.client d off ∙ o.here; past = o.past }
    ]

    present-on : (x : AttemptId) → IsPresent r u x → IsPresent r (with_client n d u) x
    present-on x at = elim (one-or_another x.client n) [
      | inl is ↦
          let one = same x at.c is at.here in
          record { c = d; a = at.a; here = now x is; at = ap (λ z. z.present) (sym one) ∙ at.at; own = ap (λ z. attempt_id (client_plan r x.client) z at.a) (sym one) ∙ at.own }
      | inr off ↦ record { c = at.c; a = at.a; here = set-there u.clients n x.client d off ∙ at.here; at = at.at; own = at.own }
    ]

pub going-after : (r : Rules) (w v : World) → Losses r w → ClientGoes r w v → After r w v
going-after r w v k g = by-next r (After r w) (moves-step r w) (counts-step r w) w v (after-none r w w.messages k (λ l i. i)) g

-- ---- the turn

-- Whatever tells of a stop of an attempt, its client has begun it: it is at it, or past it.
pub record AreBegun (r : Rules) (w : World) : Type 0 where
  pub letters : (l : Letter) (x : AttemptId) → Has l w.messages → tells_stop x l.message ≡ true → IsPresent r w x ⊎ IsOver w.clients x
  pub asked : (l : Letter) (x : AttemptId) → Has l w.asked → tells_stop x l.message ≡ true → is_asked_of x l.message ≡ true → IsPresent r w x ⊎ IsOver w.clients x
  pub resting : (x : AttemptId) → Rests r w x → IsPresent r w x ⊎ IsOver w.clients x

pub after-losses : (r : Rules) (w v : World) → AreBegun r w → Losses r w → After r w v → Losses r v
after-losses r w v begun k g = record {
  letters = λ l x i is at. elim (g.letters l x i is) [
    | inl old ↦ since x at (begun.letters l x old is) (λ was. k.letters l x old is was)
    | inr new ↦ on x at new.0 new.1
  ];
  asked = λ l x i is asks at. elim (g.asked l x i is) [
    | inl old ↦ since x at (begun.asked l x old is asks) (λ was. k.asked l x old is asks was)
    | inr new ↦ on x at new.0 new.1
  ];
  resting = λ x rests at. since x at (begun.resting x (back x rests)) (λ was. k.resting x (back x rests) was);
  lines = g.lines;
}
  where
    on : (x : AttemptId) → IsPresent r v x → IsPresent r w x → StoppedSince r w.lines x → StoppedSince r v.lines x
    on x at was stop = elim (g.stays x was) [
      | inl z ↦ subst (λ ls. StoppedSince r ls x) (sym g.told) (since-more (attempt_targets r.script x) x.client w.lines g.more (of-others x.client g.more z.1) stop)
      | inr o ↦ absurd (present-not-over r v x at o)
    ]

    since : (x : AttemptId) → IsPresent r v x → IsPresent r w x ⊎ IsOver w.clients x → (IsPresent r w x → StoppedSince r w.lines x) → StoppedSince r v.lines x
    since x at (inl was) stop = on x at was (stop was)
    since x at (inr o) stop = absurd (present-not-over r v x at (g.over x o))

    back : (x : AttemptId) → Rests r v x → Rests r w x
    back x rests = record {
      s = rests.s;
      here = ap (λ ts. slice_get ts (leader_of r x)) (sym g.targets) ∙ rests.here;
      off = rests.off;
      held = record { entry = rests.held.entry; found = ap (λ ts. entry_in (slice_get ts (leader_of r x)) x) (sym g.targets) ∙ rests.held.found };
    }
