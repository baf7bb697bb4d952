-- What keeps what is frozen where: an event in which no target changes, and a turn of a target, whole or cut.
use Rattle.std.specs.Prelude.{ℕ, ◌≡◌, ◌≤◌, ◌⊎◌, ◌||◌, ◌++◌, Bool, true, false, List, [], ◌∷◌, slice_get, Some, None, refl}
use Rattle.std.proofs.Common.{sym, ◌∙◌, ap, subst, inl, inr}
use Rattle.std.proofs.Math.ListN.{set}
use Rattle.std.proofs.lemmas.Bool.{cases_eq}
use Rattle.base_types.specs.declared.epoch.Epoch.{Epoch}
use Rattle.base_types.specs.declared.id.AttemptId.{AttemptId}
use Rattle.base_types.specs.declared.id.ContId.{ContId}
use Rattle.base_types.specs.declared.outcome.Outcome.TheVariants.{Committed}
use Rattle.base_types.specs.declared.report.Attempt.{Attempt}
use Rattle.base_types.specs.declared.report.Line.{Line}
use Rattle.base_types.specs.declared.report.Line.TheVariants as line
use Rattle.base_messages.specs.declared.message.Message.{Message}
use Rattle.base_messages.specs.declared.message.Message.TheVariants as message
use Rattle.model_laws.specs.Members.{Has, has-cases, has-left, has-right}
use Rattle.daos_model.specs.Attempts.{EachTry}
use Rattle.daos_model.specs.Durables.{is_frozen}
use Rattle.daos_model.specs.Opening.{Opening, top}
use Rattle.daos_model.specs.Snapshots.{HasSnapshotLine, Made}
use Rattle.world_base.specs.declared.client.ClientState.{ClientState}
use Rattle.world_base.specs.declared.client.KnownSnap.{KnownSnap}
use Rattle.world_base.specs.declared.letter.Letter.{Letter}
use Rattle.world_base.specs.declared.target.TargetState.{TargetState}
use Rattle.world_base.specs.declared.world.World.{World}
use Rattle.world_base.specs.Events.{Rules, client_plan}
use Rattle.world_base.specs.Letters.{Takes}
use Rattle.world_making.specs.freezings.Knowing.{IsUndated}
use Rattle.world_base.specs.StepLaws.{set-is, set-there}
use Rattle.world_making.specs.freezings.Collecting.{AreHeldSo}
use Rattle.world_making.specs.freezings.Freezings.{EndComes, Freezings, IsCreatedFirst, IsFated, IsFatedSnap, IsKnownSo, IsOfSnap, HasItsLine, KeepsFrozen, LossComes, IsOwnMade, IsFromBefore}
use Rattle.world_making.specs.freezings.Snapping.{Snapping, created-frozen}
use Rattle.world_making.specs.freezings.Telling.{is_commit_told}
use Rattle.world_making.specs.freezings.Turning.{OthersFrozen}
use Rattle.world_making.specs.making.Snapshots.{holds_created}
use Rattle.world_letters.specs.waits.Premises.{RequestsAreOfClients, is_end}
use Rattle.world_letters.specs.waits.Requests.{is_lost_request}
use Rattle.world_letters.specs.snapshots.Makings.{IsSnapIn, IsSnapOf}

-- a message answers a Freeze or a Prune with Ok
abbrev answers_ok : Message → Bool
answers_ok (message.Held x None) = true
answers_ok m = false

-- a message answers so, or says that an attempt is committed
abbrev pub says_done : Message → Bool
says_done m = answers_ok m || is_commit_told m

-- no letter says so but those that did
abbrev pub NoneMoreDone : World → World → Type 0
NoneMoreDone w v = (l : Letter) → Has l v.messages → says_done l.message ≡ true → Has l w.messages

-- what clients know stays so, where what is created stays so and lines are added
pub known-stays : (r : Rules) (o : Opening) (w v : World) → ((c : ContId) (s : Epoch) → IsCreatedFirst w c s → IsCreatedFirst v c s) → ((l : Line) → Has l w.lines → Has l v.lines)
    → (n : ℕ) (k : KnownSnap) → IsKnownSo r o w n k → IsKnownSo r o v n k
known-stays r o w v created more n k (IsFromBefore d m found epoch low kept' is) = IsFromBefore d m found epoch low kept' (created d.cont d.epoch is)
known-stays r o w v created more n k (IsOwnMade a own told-of m told) = IsOwnMade a own (more (line.Try a) told-of) m (more (line.Snapshot k.name m.cont k.epoch) told)

-- where an element stands of two lists, one behind the other
split-append : {T : Type 0} (xs ms before after : List T) (y : T) → xs ++ ms ≡ before ++ y ∷ after → ((rest : List T) × (xs ≡ before ++ y ∷ rest)) ⊎ Has y ms
split-append [] ms before after y e = inr (subst (Has y) (sym e) (has-right before (y ∷ after) y (inl refl)))
split-append (x ∷ xs) ms [] after y e = let same : x ≡ y = cc in inl (xs, ap (λ z. z ∷ xs) same)
split-append {T = T} (x ∷ xs) ms (b ∷ bs) after y e = by (split-append xs ms bs after y (cc))
  where
    first : x ≡ b
    first = cc

    by : ((rest : List T) × (xs ≡ bs ++ y ∷ rest)) ⊎ Has y ms → ((rest : List T) × (x ∷ xs ≡ b ∷ (bs ++ y ∷ rest))) ⊎ Has y ms
    by (inl k) = let same : xs ≡ bs ++ y ∷ k.0 = k.1 in inl (k.0, cc)
    by (inr i) = inr i

-- what each attempt has, it has with lines more that tell of none
pub each-on : (P : List Line → Attempt → Type 0) (ls ms : List Line) → ((a : Attempt) → Has (line.Try a) ms → ⊥) → EachTry P ls → EachTry P (ls ++ ms)
each-on P ls ms none each before a after e = elim (split-append ls ms before after (line.Try a) e) [ inl k ↦ each before a k.0 k.1 | inr i ↦ absurd (none a i) ]

-- what is to become of attempts that made snapshots comes still, or has its line
abbrev pub FatesStay : Rules → World → World → Type 0
FatesStay r w v = (x : AttemptId) (s : Epoch) (c : ContId) → Has (x, s) w.issued → IsSnapIn r x c → IsFated w x s → IsFated v x s

fated-on : (r : Rules) (w v : World) (c : ContId) (s : Epoch) → ((x : AttemptId) (e : Epoch) → Has (x, e) w.issued → Has (x, e) v.issued) → FatesStay r w v → IsFatedSnap r w c s → IsFatedSnap r v c s
fated-on r w v c s more stay f = record { x = f.x; issued = more f.x s f.issued; snaps = f.snaps; fate = stay f.x s c f.issued f.snaps f.fate }

-- where letters to clients stay in flight, and lines stay
pub fates-stay : (r : Rules) (w v : World) → RequestsAreOfClients w → ((l : Letter) → Has l w.messages → l.to.client ≡ true → Has l v.messages) → ((l : Line) → Has l w.lines → Has l v.lines) → FatesStay r w v
fates-stay r w v of_clients stay more x s c issued snaps (EndComes l i says) = EndComes l (stay l i ((of_clients.letters l i).end (ap is_end says))) says
fates-stay r w v of_clients stay more x s c issued snaps (LossComes l t down c2 name k i says) = LossComes l t down c2 name k (stay l i ((of_clients.letters l i).lost (ap is_lost_request says))) says
fates-stay r w v of_clients stay more x s c issued snaps (HasItsLine a i id epoch how) = HasItsLine a (more (line.Try a) i) id epoch how

-- what isn't taken is left
pub taken-or-left : (letters : List Letter) (l : Letter) (rest : List Letter) → Takes letters l rest → (m : Letter) → Has m letters → Has m rest ⊎ (m ≡ l)
taken-or-left letters l rest t m i = elim (has-cases t.before (l ∷ t.after) m (subst (Has m) t.among i)) [
  | inl j ↦ inl (subst (Has m) (sym t.left) (has-left t.before t.after m j))
  | inr j ↦ by j
]
  where
    by : Has m (l ∷ t.after) → Has m rest ⊎ (m ≡ l)
    by (inl same) = inr same
    by (inr j) = inl (subst (Has m) (sym t.left) (has-right t.before t.after m j))

-- ---- where no target changes

pub record LeavesTargets (r : Rules) (o : Opening) (w v : World) : Type 0 where
  pub targets : v.targets ≡ w.targets
  pub issued : v.issued ≡ w.issued
  pub letters : NoneMoreDone w v
  pub more : (l : Line) → Has l w.lines → Has l v.lines
  pub told : (name : List ℕ) (c : ContId) (s : Epoch) → Has (line.Snapshot name c s) v.lines → Has (line.Snapshot name c s) w.lines
  pub known : (n : ℕ) (c : ClientState) (k : KnownSnap) → slice_get v.clients n ≡ Some c → Has k c.known → IsKnownSo r o v n k
  pub knows : (n : ℕ) (c : ClientState) (a : Attempt) (name : List ℕ) (e : Epoch) → slice_get v.clients n ≡ Some c → Has (line.Try a) v.lines → a.id.client ≡ n → Made r.script name e a → Has (record { name = name; epoch = e }) c.known
  pub undated : (n : ℕ) (c : ClientState) → slice_get v.clients n ≡ Some c → IsUndated (client_plan r n) c
  pub committed : EachTry (HasSnapshotLine r.script) v.lines
  pub fates : FatesStay r w v

pub beside-keeps : (r : Rules) (o : Opening) (w v : World) → LeavesTargets r o w v → Freezings r o w → Freezings r o v
beside-keeps r o w v g k = record {
  held = λ l x c i says made. (let h = k.held l x c (g.letters l i (ap says_done says)) says made in (h.0, subst (Has (x, h.0)) (sym g.issued) h.1, still l.from.number c h.0 h.2));
  counted = λ t z n name at i named. (let h = k.counted t z n name (was t z at) i named in (h.0, λ u has. still u n.cont n.epoch (h.1 u has)));
  everywhere = λ z c s at is t. still t c s (k.everywhere z c s (was 0 z at) is t);
  origin = λ t z c s at is. elim (k.origin t z c s (was t z at) is) [ inl low ↦ inl low | inr of ↦ inr (of.0, subst (Has (of.0, s)) (sym g.issued) of.1, of.2) ];
  lines = λ name c s i z at. k.lines name c s (g.told name c s i) z (was 0 z at);
  ended = λ l x s name c i says of. g.more (line.Snapshot name c s) (k.ended l x s name c (g.letters l i (ap says_done says)) says of);
  known = g.known;
  knows = g.knows;
  undated = g.undated;
  committed = g.committed;
  fated = λ z c s at is high. fated-on r w v c s (λ x e i. subst (Has (x, e)) (sym g.issued) i) g.fates (k.fated z c s (was 0 z at) is high);
}
  where
    was : (t : ℕ) (z : TargetState) → slice_get v.targets t ≡ Some z → slice_get w.targets t ≡ Some z
    was t z at = ap (λ ts. slice_get ts t) (sym g.targets) ∙ at

    still : (t : ℕ) (c : ContId) (s : Epoch) → KeepsFrozen w t c s → KeepsFrozen v t c s
    still t c s frozen z at = frozen z (was t z at)

-- ---- a turn of a target, whole or cut

pub record IsTurn (r : Rules) (w v : World) : Type 0 where
  pub t : ℕ
  pub s : TargetState
  pub z : TargetState
  pub here : slice_get w.targets t ≡ Some s
  pub targets : v.targets ≡ set w.targets t z
  pub clients : v.clients ≡ w.clients
  pub issued : (x : AttemptId) (e : Epoch) → Has (x, e) w.issued → Has (x, e) v.issued
  pub snaps : Snapping (IsOfSnap r v.issued) (OthersFrozen w t) s.durable z.durable
  pub letters : (l : Letter) (x : AttemptId) (c : ContId) → Has l v.messages → l.message ≡ message.Held x None → IsSnapIn r x c → Has l w.messages ⊎
      ((l.from.number ≡ t) × ((e : Epoch) × Has (x, e) v.issued × (is_frozen z.durable c e ≡ true)))
  pub collecting : AreHeldSo w z.durable z.memory.collecting
  pub adds : List Line
  pub lines : v.lines ≡ w.lines ++ adds
  pub untried : (a : Attempt) → Has (line.Try a) adds → ⊥
  pub told : (name : List ℕ) (c : ContId) (e : Epoch) → Has (line.Snapshot name c e) adds → (t ≡ 0) × (holds_created z.durable c e ≡ true)
  pub fates : FatesStay r w v
  pub creates : (c : ContId) (e : Epoch) → holds_created z.durable c e ≡ true → (holds_created s.durable c e ≡ true) ⊎ IsFatedSnap r v c e
  pub ended : (l : Letter) (x : AttemptId) (e : Epoch) (name : List ℕ) (c : ContId) → Has l v.messages → l.message ≡ message.Ended x (Some e) Committed → IsSnapOf r x name c → Has l w.messages ⊎ Has (line.Snapshot name c e) v.lines

module _ (r : Rules) (o : Opening) (w v : World) (k : Freezings r o w) (g : IsTurn r w v) where
  there : (u : ℕ) (y : TargetState) → slice_get v.targets u ≡ Some y → slice_get (set w.targets g.t g.z) u ≡ Some y
  there u y at = ap (λ ts. slice_get ts u) (sym g.targets) ∙ at

  it-is : (u : ℕ) (y : TargetState) → slice_get v.targets u ≡ Some y → u ≡ g.t → g.z ≡ y
  it-is u y at same = set-is w.targets g.t g.z y (subst (λ n. slice_get (set w.targets g.t g.z) n ≡ Some y) same (there u y at))

  other-was : (u : ℕ) (y : TargetState) → slice_get v.targets u ≡ Some y → (u ≡ g.t → ⊥) → slice_get w.targets u ≡ Some y
  other-was u y at off = sym (set-there w.targets g.t u g.z off) ∙ there u y at

  was-here : (u : ℕ) → u ≡ g.t → slice_get w.targets u ≡ Some g.s
  was-here u same = subst (λ n. slice_get w.targets n ≡ Some g.s) (sym same) g.here

  still : (u : ℕ) (c : ContId) (e : Epoch) → KeepsFrozen w u c e → KeepsFrozen v u c e
  still u c e frozen y at = elim (cases_eq u g.t) [
    | inl same ↦ subst (λ x. is_frozen x.durable c e ≡ true) (it-is u y at same) (g.snaps.stays c e (frozen g.s (was-here u same)))
    | inr off ↦ frozen y (other-was u y at off)
  ]

  created-still : (c : ContId) (e : Epoch) → IsCreatedFirst w c e → IsCreatedFirst v c e
  created-still c e created y at = elim (cases_eq 0 g.t) [
    | inl same ↦ subst (λ x. holds_created x.durable c e ≡ true) (it-is 0 y at same) (g.snaps.kept c e (created g.s (was-here 0 same)))
    | inr off ↦ created y (other-was 0 y at off)
  ]

  more : (l : Line) → Has l w.lines → Has l v.lines
  more l i = subst (Has l) (sym g.lines) (has-left w.lines g.adds l i)

  -- what is frozen where the turn was
  now-frozen : (u : ℕ) (c : ContId) (e : Epoch) → u ≡ g.t → is_frozen g.z.durable c e ≡ true → KeepsFrozen v u c e
  now-frozen u c e same is y at = subst (λ x. is_frozen x.durable c e ≡ true) (it-is u y at same) is

  more-of : (c : ContId) (e : Epoch) → (e.0 ≤ top o) ⊎ IsOfSnap r w.issued c e → (e.0 ≤ top o) ⊎ IsOfSnap r v.issued c e
  more-of c e (inl low) = inl low
  more-of c e (inr of) = inr (of.0, g.issued of.0 e of.1, of.2)

  pub turn-keeps : Freezings r o v
  turn-keeps = record {
    held = λ l x c i says made. elim (g.letters l x c i says made) [
      | inl was ↦ (let h = k.held l x c was says made in (h.0, g.issued x h.0 h.1, still l.from.number c h.0 h.2))
      | inr new ↦ (new.1.0, new.1.1, now-frozen l.from.number c new.1.0 new.0 new.1.2)
    ];
    counted = λ u y n name at i named. elim (cases_eq u g.t) [
      | inl same ↦ (let is = it-is u y at same in let h = g.collecting n name (subst (λ x. Has n x.memory.collecting) (sym is) i) named in
          (subst (λ x. is_frozen x.durable n.cont n.epoch ≡ true) is h.0, λ m has. still m n.cont n.epoch (h.1 m has)))
      | inr off ↦ (let h = k.counted u y n name (other-was u y at off) i named in (h.0, λ m has. still m n.cont n.epoch (h.1 m has)))
    ];
    everywhere = λ y c e at is u. elim (cases_eq 0 g.t) [
      | inl same ↦ made y c e at same (subst (λ x. holds_created x.durable c e ≡ true) (sym (it-is 0 y at same)) is) u
      | inr off ↦ still u c e (k.everywhere y c e (other-was 0 y at off) is u)
    ];
    origin = λ u y c e at is. elim (cases_eq u g.t) [
      | inl same ↦ (elim (g.snaps.froze c e (subst (λ x. is_frozen x.durable c e ≡ true) (sym (it-is u y at same)) is)) [
        | inl was ↦ more-of c e (k.origin g.t g.s c e g.here was)
        | inr new ↦ inr new
      ])
      | inr off ↦ more-of c e (k.origin u y c e (other-was u y at off) is)
    ];
    lines = λ name c e i. elim (has-cases w.lines g.adds (line.Snapshot name c e) (subst (Has (line.Snapshot name c e)) g.lines i)) [
      | inl was ↦ created-still c e (k.lines name c e was)
      | inr now ↦ (let new = g.told name c e now in λ y at. subst (λ x. holds_created x.durable c e ≡ true) (it-is 0 y at (sym new.0)) new.1)
    ];
    ended = λ l x e name c i says of. elim (g.ended l x e name c i says of) [ inl was ↦ more (line.Snapshot name c e) (k.ended l x e name c was says of) | inr now ↦ now ];
    known = λ n c kn at i. known-stays r o w v created-still more n kn (k.known n c kn (ap (λ cs. slice_get cs n) (sym g.clients) ∙ at) i);
    knows = λ n c a name e at i own made. elim (has-cases w.lines g.adds (line.Try a) (subst (Has (line.Try a)) g.lines i)) [
      | inl j ↦ k.knows n c a name e (ap (λ cs. slice_get cs n) (sym g.clients) ∙ at) j own made
      | inr j ↦ absurd (g.untried a j)
    ];
    undated = λ n c at. k.undated n c (ap (λ cs. slice_get cs n) (sym g.clients) ∙ at);
    committed = subst (EachTry (HasSnapshotLine r.script)) (sym g.lines) (each-on (HasSnapshotLine r.script) w.lines g.adds g.untried k.committed);
    fated = λ y c e at is high. elim (cases_eq 0 g.t) [
      | inl same ↦ (elim (g.creates c e (subst (λ x. holds_created x.durable c e ≡ true) (sym (it-is 0 y at same)) is)) [
        | inl was ↦ fated-on r w v c e g.issued g.fates (k.fated g.s c e (was-here 0 same) was high)
        | inr new ↦ new
      ])
      | inr off ↦ fated-on r w v c e g.issued g.fates (k.fated y c e (other-was 0 y at off) is high)
    ];
  }
    where
      made : (y : TargetState) (c : ContId) (e : Epoch) → slice_get v.targets 0 ≡ Some y → 0 ≡ g.t → holds_created g.z.durable c e ≡ true → (u : ℕ) → KeepsFrozen v u c e
      made y c e at same is u = elim (g.snaps.made c e is) [
        | inl was ↦ still u c e (k.everywhere g.s c e (was-here 0 same) was u)
        | inr new ↦ (elim (cases_eq u g.t) [
          | inl own ↦ now-frozen u c e own (created-frozen g.z.durable c e is)
          | inr off ↦ still u c e (new u off)
        ])
      ]
