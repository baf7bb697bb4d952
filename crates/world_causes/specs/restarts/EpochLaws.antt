-- What is said of epochs, and of what clients were told, stays so in such a world.
use Rattle.std.specs.Prelude.{ℕ, ◌≡◌, ◌⊎◌, ◌≤◌, ◌/◌, ◌%◌, ◌++◌, true, false, All, List, [], ◌∷◌, Contains, slice_get, Some, refl, ◌<◌, nat_eq}
use Rattle.std.proofs.Common.{sym, ◌∙◌, ap, subst, arith, inl, inr}
use Rattle.base_types.specs.declared.epoch.Epoch.{Epoch}
use Rattle.base_types.specs.declared.id.AttemptId.{AttemptId}
use Rattle.base_types.specs.declared.report.Attempt.{Attempt}
use Rattle.base_types.specs.declared.report.Line.{Line}
use Rattle.base_types.specs.declared.report.Line.TheVariants as line
use Rattle.base_messages.specs.declared.message.Message.{Message}
use Rattle.base_messages.specs.declared.message.Message.TheVariants as message
use Rattle.model_laws.specs.Members.{Has, has-right}
use Rattle.daos_model.specs.Attempts.{EachTry, own_epochs, tries}
use Rattle.daos_model.specs.BoolLaws.{clash}
use Rattle.world_contents.specs.world_commit.attempts.History.{History}
use Rattle.world_base.specs.declared.client.ClientState.{ClientState}
use Rattle.world_base.specs.declared.letter.Letter.{Letter}
use Rattle.world_base.specs.declared.target.Life.TheVariants.{Running}
use Rattle.world_base.specs.declared.target.TargetState.{TargetState}
use Rattle.world_base.specs.declared.world.World.{World}
use Rattle.world_base.specs.Events.{Rules}
use Rattle.world_contents.specs.world_letters.epochs.Epochs.{AsksEpoch, Epochs, GoesWith, InCause, IsEpochOf, IsIssued, IsOwn, IsPresent, IsReadOf, IsSeen, IsTold, IsUnissued, ItsOwn, LacksEpoch, answers_undated}
use Rattle.world_contents.specs.gots.Gots.{Gots, IsLineServed}
use Rattle.world_causes.specs.restarts.Resting.{Rests, RestsAt, is_silent, same-tries}
use Rattle.std.specs.List.{IsDistinct}
use Rattle.daos_model.specs.Order.{RisesFrom}

-- ---- what a silent message says

asks-loudly : (m : Message) (x : AttemptId) (k : Epoch) → AsksEpoch m x k → is_silent m ≡ false
asks-loudly (message.Reset' t down place q) x k h = absurd h
asks-loudly (message.Status y inc) x k h = absurd h
asks-loudly m x k h = refl

lacks-loudly : (m : Message) (x : AttemptId) → LacksEpoch m x → is_silent m ≡ false
lacks-loudly (message.Reset' t down place q) x h = absurd h
lacks-loudly (message.Status y inc) x h = absurd h
lacks-loudly m x h = refl

goes-loudly : (m : Message) (x : AttemptId) (e : Epoch) → GoesWith m x e → is_silent m ≡ false
goes-loudly (message.Reset' t down place q) x e h = absurd h
goes-loudly (message.Status y inc) x e h = absurd h
goes-loudly m x e h = refl

undated-silent : (m : Message) → is_silent m ≡ true → answers_undated m ≡ false
undated-silent (message.Reset' t down place q) is = refl
undated-silent (message.Status y inc) is = refl
undated-silent m is = let no : ⊥ = cc in absurd no

read-silent : (r : Rules) (m : Message) → is_silent m ≡ true → IsReadOf r m
read-silent r (message.Reset' t down place q) is = tt
read-silent r (message.Status y inc) is = tt
read-silent r m is = let no : ⊥ = cc in absurd no

-- ---- each attempt of more lines

each-on : (P : List Line → Attempt → Type 0) (ls ms : List Line) → ((a : Attempt) → Has (line.Try a) ms → ⊥) → EachTry P ls → EachTry P (ls ++ ms)
each-on P ls ms none each before a after e = let k = split ls before e in each before a k.0 k.1
  where
    among : (before : List Line) → Has (line.Try a) (before ++ line.Try a ∷ after)
    among before = has-right before (line.Try a ∷ after) (line.Try a) (inl refl)

    split : (ls before : List Line) → ls ++ ms ≡ before ++ line.Try a ∷ after → (rest : List Line) × (ls ≡ before ++ line.Try a ∷ rest)
    split [] before e = absurd (none a (subst (Has (line.Try a)) (sym e) (among before)))
    split (l ∷ ls) [] e = let first : l ≡ line.Try a = cc in (ls, ap (λ z. z ∷ ls) first)
    split (l ∷ ls) (b ∷ before) e =
        let first : l ≡ b = cc in
        let rest : ls ++ ms ≡ before ++ line.Try a ∷ after = cc in
        let k = split ls before rest in
        (k.0, ap (λ z. z ∷ ls) first ∙ ap (λ zs. b ∷ zs) k.1)

module _ (r : Rules) (top : ℕ) (w v : World) (k : Rests w v) where
  same : tries v.lines ≡ tries w.lines
  same = same-tries w v k

  was : (x : AttemptId) (e : Epoch) → IsIssued v x e → IsIssued w x e
  was x e i = subst (λ is. Contains is (x, e)) k.issued i

  now : (x : AttemptId) (e : Epoch) → IsIssued w x e → IsIssued v x e
  now x e i = subst (λ is. Contains is (x, e)) (sym k.issued) i

  unissued : (x : AttemptId) → IsUnissued w x → IsUnissued v x
  unissued x none e i = none e (was x e i)

  client-was : (n : ℕ) (c : ClientState) → slice_get v.clients n ≡ Some c → slice_get w.clients n ≡ Some c
  client-was n c at = ap (λ cs. slice_get cs n) (sym k.clients) ∙ at

  client-now : (n : ℕ) (c : ClientState) → slice_get w.clients n ≡ Some c → slice_get v.clients n ≡ Some c
  client-now n c at = ap (λ cs. slice_get cs n) k.clients ∙ at

  present-now : (x : AttemptId) → IsPresent r w x → IsPresent r v x
  present-now x p = record { c = p.c; a = p.a; here = client-now x.client p.c p.here; at = p.at; own = p.own }

  present-was : (x : AttemptId) → IsPresent r v x → IsPresent r w x
  present-was x p = record { c = p.c; a = p.a; here = client-was x.client p.c p.here; at = p.at; own = p.own }

  of-now : (x : AttemptId) (e : Epoch) → IsEpochOf r w x e → IsEpochOf r v x e
  of-now x e (IsOwn i) = IsOwn (now x e i)
  of-now x e (IsSeen s) = IsSeen (record { name = s.name; reads = s.reads; c = s.c; here = client-now x.client s.c s.here; known = s.known })

  told-was : (n e : ℕ) → IsTold r v n e → IsTold r w n e
  told-was n e (ItsOwn a i client own has known sure is) = ItsOwn a (subst (λ as'. Contains as' a) same i) client own has known sure is
  told-was n e (InCause a i client among) = InCause a (subst (λ as'. Contains as' a) same i) client among

  -- a letter that says something of epochs was in flight
  loud : (l : Letter) → Contains v.messages l → is_silent l.message ≡ false → Contains w.messages l
  loud l i off = elim (k.messages l i) [ inl j ↦ j | inr is ↦ clash (is_silent l.message) is off ]

  leased-now : (n : ℕ) (z : TargetState) (lease : ℕ) → slice_get v.targets n ≡ Some z → ((s : TargetState) → slice_get w.targets n ≡ Some s → lease ≤ s.durable.lease) → lease ≤ z.durable.lease
  leased-now n z lease at low = let s = k.targets n z at in let up : s.0.durable.lease ≤ z.durable.lease = s.2.lease in let l : lease ≤ s.0.durable.lease = low s.0 s.1 in omega (arith, up, l)

  pub rests-epochs : Epochs r top w → Epochs r top v
  rests-epochs E = record {
    few = subst (λ n. n ≤ 256) (sym k.few) E.few;
    one = λ x e f i j. E.one x e f (was x e i) (was x f j);
    apart = λ x y e i j. E.apart x y e (was x e i) (was y e j);
    above = λ x e i. E.above x e (was x e i);
    own = λ x e i. E.own x e (was x e i);
    issued_by = λ x e i. E.issued_by x e (was x e i);
    issuer = λ x e i. let s = E.issuer x e (was x e i) in k.there (e.0 % 256) s.0 s.1;
    leased = λ x e z i at. leased-now (e.0 % 256) z (e.0 / 256) at (λ s here. E.leased x e s (was x e i) here);
    ticks = λ x e z i at runs. ticks x e z i at runs;
    line = λ x e i. elim (E.line x e (was x e i)) [ inl p ↦ inl (present-now x p) | inr l ↦ inr (l.0, subst (λ as'. Contains as' l.0) (sym same) l.1, l.2, l.3) ];
    fresh = λ l x t i a. let f = E.fresh l x t (loud l i (asks-loudly l.message x t a)) a in (present-now x f.0, unissued x f.1, f.2, λ e told. f.3 e (told-was x.client e told), f.4);
    asker = λ l x t i a. E.asker l x t (loud l i (asks-loudly l.message x t a)) a;
    asked = λ l x t i a. E.asked l x t (loud l i (asks-loudly l.message x t a)) a;
    lacking = λ l x i a. let f = E.lacking l x (loud l i (lacks-loudly l.message x a)) a in (f.0, unissued x f.1);
    dated = λ l i. elim (k.messages l i) [ inl j ↦ E.dated l j | inr is ↦ undated-silent l.message is ];
    borne = λ l x e i h. of-now x e (E.borne l x e (loud l i (goes-loudly l.message x e h)) h);
    entered = λ t z e at i. let s = k.targets t z at in elim (s.2.entries e i) [ inl j ↦ now e.attempt e.epoch (E.entered t s.0 e s.1 j) | inr j ↦ now e.attempt e.epoch j ];
    parked = λ t z p at i. let s = k.targets t z at in let f = E.parked t s.0 p s.1 (s.2.parked p i) in (record { x = f.0.x; e = f.0.e; bears = f.0.bears; known = of-now f.0.x f.0.e f.0.known }, f.1);
    reads = λ l i. elim (k.messages l i) [ inl j ↦ E.reads l j | inr is ↦ read-silent r l.message is ];
    known = λ n c a e here at is. of-now _ e (E.known n c a e (client-was n c here) at is);
    shown = λ a e i is. of-now a.id e (E.shown a e (subst (λ as'. Contains as' a) same i) is);
    tracked = λ n c a e here. E.tracked n c a e (client-was n c here);
    seen = λ n c a here. E.seen n c a (client-was n c here);
    unasked = λ n c a here. E.unasked n c a (client-was n c here);
    unknown = λ n c a here at idle none. unissued _ (E.unknown n c a (client-was n c here) at idle none);
    unmade = λ n c a here. E.unmade n c a (client-was n c here);
    trackers = λ n c here. let f = E.trackers n c (client-was n c here) in (f.0, λ e told. f.1 e (told-was n e told));
    rises = λ x e f p i told. E.rises x e f (present-was x p) (was x e i) (told-was x.client f told);
    same_command = λ x y e f i j. E.same_command x y e f (was x e i) (was y f j);
    past = λ a c i here. E.past a c (subst (λ as'. Contains as' a) same i) (client-was a.id.client c here);
    distinct = record { distinct = subst (λ as'. IsDistinct nat_eq (own_epochs r.script as')) (sym same) E.distinct.distinct; above = subst (λ as'. All (λ e. top < e) (own_epochs r.script as')) (sym same) E.distinct.above };
    risen = subst (EachTry (RisesFrom r.script)) (sym k.lines) (each-on (RisesFrom r.script) w.lines k.more k.no_tries E.risen);
  }
    where
      ticks : (x : AttemptId) (e : Epoch) (z : TargetState) → IsIssued v x e → slice_get v.targets (e.0 % 256) ≡ Some z → z.life ≡ Running → e.0 / 256 ≤ z.memory.ticks
      ticks x e z i at runs = by (s.2.ticks runs)
        where
          s : (s : TargetState) × (slice_get w.targets (e.0 % 256) ≡ Some s) × RestsAt w s z
          s = k.targets (e.0 % 256) z at

          by : ((s.0.life ≡ Running) × (s.0.memory.ticks ≤ z.memory.ticks)) ⊎ (z.durable.lease ≤ z.memory.ticks) → e.0 / 256 ≤ z.memory.ticks
          by (inl up) = let low : e.0 / 256 ≤ s.0.memory.ticks = E.ticks x e s.0 (was x e i) s.1 up.0 in let more : s.0.memory.ticks ≤ z.memory.ticks = up.1 in omega (arith, low, more)
          by (inr up) = let low : e.0 / 256 ≤ s.0.durable.lease = E.leased x e s.0 (was x e i) s.1 in let more : s.0.durable.lease ≤ z.durable.lease = s.2.lease in omega (arith, low, more, up)

  pub rests-gots : (h : History) → Gots r h w → Gots r h v
  rests-gots h g = record {
    present = λ n c a here. g.present n c a (client-was n c here);
    lines = subst (All (IsLineServed r h)) (sym same) g.lines;
    flying = λ n c a l x op group own b here at i to says. g.flying n c a l x op group own b (client-was n c here) at (loud l i (ap is_silent says)) to says;
  }
