-- A turn in which a leader hears an Ack leaves what it keeps and serves sound; the last Ok decides the attempt.
use Rattle.std.specs.Prelude.{ℕ, ◌≡◌, ◌≢◌, ◌++◌, ◌==◌, Bool, true, false, not, is_some, List, [], ◌∷◌, filter, find, map, Contains, Option, Some, None, refl, if◌then◌else◌}
use Rattle.std.proofs.Common.{sym, ◌∙◌, ap, subst, inl, inr}
use Rattle.std.specs.Int.{bit_at}
use Rattle.std.proofs.Common.{arith}
use Rattle.std.proofs.lemmas.Bool.Decides.{nat_tests}
use Rattle.std.proofs.lemmas.List.Elements.{Contains-append_left}
use Rattle.std.proofs.lemmas.Nat.Bits.{bit_at-zero}
use Rattle.base_types.specs.declared.entry.Entry.{Entry}
use Rattle.base_types.specs.declared.epoch.Epoch.{Epoch}
use Rattle.base_types.specs.declared.id.AttemptId.{AttemptId}
use Rattle.base_types.specs.declared.outcome.Outcome.{Outcome}
use Rattle.base_types.specs.declared.outcome.Outcome.TheVariants.{Committed}
use Rattle.base_types.specs.Placement.{writes_members}
use Rattle.model_laws.specs.Members.{Has, has-cases, has-from_map}
use Rattle.model_laws.specs.TargetLaws.{same_number}
use Rattle.base_messages.specs.declared.actor.ActorId.{ActorId}
use Rattle.base_messages.specs.declared.message.Message.{Message}
use Rattle.base_messages.specs.declared.message.Message.TheVariants.{Ended}
use Rattle.base_messages.specs.declared.message.Post.{Post}
use Rattle.daos_model.specs.declared.durable.Durable.{Durable}
use Rattle.daos_model.specs.declared.durable.Version.{Version}
use Rattle.daos_model.specs.BoolLaws.{and_left, and_right, clash}
use Rattle.daos_model.specs.Durables.{entry_of, is_entry_of}
use Rattle.daos_model.specs.Opening.{Opening}
use Rattle.world_commit.specs.dtx_base.declared.leading.Undecided.{Undecided}
use Rattle.world_commit.specs.dtx_base.Leading.{LeaderOf, abort_to, ack_heard, answer_heard, answer_if_awaited, ended, entry_led, is_led, ok_heard, undecided_of}
use Rattle.world_commit.specs.dtx_base.Members.{are_all_counted, has_target, is_other_member, other_members, with_target}
use Rattle.world_commit.specs.attempts.Attempts.{members_of, writes_of}
use Rattle.world_commit.specs.attempts.History.{Decided, History}
use Rattle.world_commit.specs.world_base.declared.did.Did.{Did}
use Rattle.world_commit.specs.world_base.declared.target.TargetMemory.{TargetMemory}
use Rattle.world_commit.specs.world_base.declared.target.TargetState.{TargetState}
use Rattle.world_commit.specs.world_base.declared.world.World.{World}
use Rattle.world_commit.specs.world_base.Events.{Rules, kept, target_plan}
use Rattle.world_contents.specs.reads.Adds.{NoneIs, is_answer, is_end, none-answered}
use Rattle.world_contents.specs.reads.Beginning.{HasOpenRow, IsUndecidedAt, TurnBegins}
use Rattle.world_contents.specs.reads.ChangeLaws.{WasDecided}
use Rattle.world_contents.specs.reads.CommitLaws.{leaves-quiet, only-one}
use Rattle.world_contents.specs.reads.DecideLaws.{MayBeDecided}
use Rattle.world_contents.specs.reads.Given.{IsRefusalRight}
use Rattle.world_contents.specs.reads.Growing.{OneMore, committed_if, committed_in}
use Rattle.world_contents.specs.reads.GrowLaws.{none-committed}
use Rattle.world_contents.specs.reads.Midway.{Sound, TurnLeaves}
use Rattle.world_contents.specs.reads.StepLaws.{aborts-sound}
use Rattle.world_commit.specs.world_base.Acks as ack
use Rattle.world_commit.specs.world_base.Changes.{Change, Kept, Steps}
use Rattle.world_commit.specs.world_base.Commits.{bits_of}
use Rattle.world_commit.specs.world_base.PathLaws.{reached-keeps}
use Rattle.world_commit.specs.world_base.Requests.{sends}
use Rattle.world_commit.specs.world_base.Roles.{leader_at, leads_on}
use Rattle.world_commit.specs.world_base.Turns.{Whole}

-- ---- what a leader tells

-- an Ack is awaited of an attempt that is undecided here
awaited-row : (member : ℕ) (a : AttemptId) (inc : ℕ) (l : LeaderOf) → ack.is_awaited member a inc l ≡ true → (u : Undecided) × (undecided_of a l ≡ Some u)
unfolding ack.is_awaited
awaited-row member a inc l is = by (entry_led a l) (undecided_of a l) refl (and_right (inc == l.incarnation) (ack.is_awaited_of member (entry_led a l) (undecided_of a l)) is)
  where
    by : (e : Option Entry) (u : Option Undecided) → undecided_of a l ≡ u → ack.is_awaited_of member e u ≡ true → (u : Undecided) × (undecided_of a l ≡ Some u)
    by None u f g = let no : ⊥ = cc in absurd no
    by (Some e) None f g = let no : ⊥ = cc in absurd no
    by (Some e) (Some u) f g = (u, f)

-- so no refusal counts of one whose rows say that it isn't decided
pub refused-row : (r : Rules) (h : History) (t : ℕ) (s : TargetState) (from : ℕ) (a : AttemptId) (inc : ℕ) (refusal : Option Outcome) → IsUndecidedAt h s a
    → ack.is_refusing from a inc refusal (leader_at (target_plan r t) s.memory s.durable) ≡ true → WasDecided h a → ⊥
refused-row r h t s from a inc refusal none is = none row.0 row.1
  where
    row : (u : Undecided) × (undecided_of a (leader_at (target_plan r t) s.memory s.durable) ≡ Some u)
    row = awaited-row from a inc (leader_at (target_plan r t) s.memory s.durable) (and_left (ack.is_awaited from a inc (leader_at (target_plan r t) s.memory s.durable)) (is_some refusal) is)

-- an Ack that doesn't count is followed by nothing; the last Ok by the client's being told that the attempt is committed; and a
-- refusal by its being told that, and the others that the attempt is aborted
pub data AckTells (member : ℕ) (a : AttemptId) (refusal : Option Outcome) (l : LeaderOf) (posts : List Post) : Type 0 where
  Nothing : posts ≡ [] → AckTells member a refusal l posts
  TellsCommit : (e : Entry) (u : Undecided) (client : ActorId) → entry_led a l ≡ Some e → undecided_of a l ≡ Some u → is_other_member e member ≡ true → posts ≡ record { to = client; message = Ended a (Some e.epoch) Committed } ∷ [] → AckTells member a refusal l posts
  Refused : (e : Entry) (u : Undecided) (how : Outcome) → refusal ≡ Some how → posts ≡ ended u.client a e.epoch how ++ map (abort_to l.incarnation a) (other_members e) → AckTells member a refusal l posts

pub ack-tells : (member : ℕ) (a : AttemptId) (inc : ℕ) (refusal : Option Outcome) (l : LeaderOf) → AckTells member a refusal l (ack_heard member a inc refusal l).posts
unfolding ack_heard
ack-tells member a inc refusal l = counts (inc == l.incarnation)
  where
    told : (e : Entry) (u : Undecided) (client : Option ActorId) → entry_led a l ≡ Some e → undecided_of a l ≡ Some u → is_other_member e member ≡ true → AckTells member a refusal l (ended client a e.epoch Committed)
    told e u None f g m = Nothing refl
    told e u (Some client) f g m = TellsCommit e u client f g m refl

    last : (e : Entry) (u : Undecided) (all : Bool) → entry_led a l ≡ Some e → undecided_of a l ≡ Some u → is_other_member e member ≡ true → are_all_counted e (with_target u.counted member) ≡ all → AckTells member a refusal l (ok_heard member a e u l).posts
    last e u true f g m h = rw h (told e u u.client f g m)
    last e u false f g m h = rw h (Nothing refl)

    heard : (e : Entry) (u : Undecided) → entry_led a l ≡ Some e → undecided_of a l ≡ Some u → is_other_member e member ≡ true → (o : Option Outcome) → refusal ≡ o → AckTells member a refusal l (answer_heard member a o e u l).posts
    heard e u f g m None h = last e u (are_all_counted e (with_target u.counted member)) f g m refl
    heard e u f g m (Some how) h = Refused e u how h refl

    answers : (e : Entry) (u : Undecided) → entry_led a l ≡ Some e → undecided_of a l ≡ Some u → (other : Bool) → is_other_member e member ≡ other → AckTells member a refusal l (if other then answer_heard member a refusal e u l else record { leader = l; posts = [] }).posts
    answers e u f g true m = heard e u f g m refusal refl
    answers e u f g false m = Nothing refl

    awaits : (e : Option Entry) (u : Option Undecided) → entry_led a l ≡ e → undecided_of a l ≡ u → AckTells member a refusal l (answer_if_awaited member a refusal e u l).posts
    awaits None u f g = Nothing refl
    awaits (Some e) None f g = Nothing refl
    awaits (Some e) (Some u) f g = answers e u f g (is_other_member e member) refl

    counts : (same : Bool) → AckTells member a refusal l (if same then answer_if_awaited member a refusal (entry_led a l) (undecided_of a l) l else record { leader = l; posts = [] }).posts
    counts true = awaits (entry_led a l) (undecided_of a l) refl refl
    counts false = Nothing refl

-- a refusal tells of no commit, and answers no read
pub refusal-silent : (client : Option ActorId) (a : AttemptId) (e : Epoch) (how : Outcome) (inc : ℕ) (ms : List ℕ) → NoneIs is_answer (ended client a e how ++ map (abort_to inc a) ms)
refusal-silent client a e how inc ms p i = elim (has-cases (ended client a e how) (map (abort_to inc a) ms) p i) [
  | inl j ↦ told client j
  | inr j ↦ let z = has-from_map (abort_to inc a) ms p j in ap (λ q. is_answer q.message) (sym z.2)
]
  where
    told : (client : Option ActorId) → Has p (ended client a e how) → is_answer p.message ≡ false
    told None j = absurd j
    told (Some c) (inl same) = ap (λ q. is_answer q.message) same
    told (Some c) (inr j) = absurd j

aborts-committed : (inc : ℕ) (a : AttemptId) (ms : List ℕ) → committed_in (map (abort_to inc a) ms) ≡ []
aborts-committed inc a ms = none-committed (map (abort_to inc a) ms) (λ p i. let z = has-from_map (abort_to inc a) ms p i in ap (λ q. is_end q.message) (sym z.2))

other-committed : (a : AttemptId) (e : Epoch) (how : Outcome) → how ≢ Committed → committed_if a (Some e) how ≡ []
other-committed a e Committed other = absurd (other refl)
other-committed a e how other = refl

pub refusal-committed : (client : Option ActorId) (a : AttemptId) (e : Epoch) (how : Outcome) (inc : ℕ) (ms : List ℕ) → how ≢ Committed → committed_in (ended client a e how ++ map (abort_to inc a) ms) ≡ []
refusal-committed None a e how inc ms other = aborts-committed inc a ms
refusal-committed (Some c) a e how inc ms other = ap (λ xs. xs ++ committed_in (map (abort_to inc a) ms)) (other-committed a e how other) ∙ aborts-committed inc a ms

-- an attempt with another member writes something
pub other-writes : (r : Rules) (x : AttemptId) (e : Entry) (m : ℕ) → e.members ≡ members_of r x → is_other_member e m ≡ true → writes_of r x ≢ []
unfolding is_other_member has_target bits_of writes_members
other-writes r x e m members other none =
    let has : (bit_at e.members m == 1) ≡ true = and_left (bit_at e.members m == 1) (not (m == e.leader)) other in
    let empty : e.members ≡ 0 = members ∙ ap (λ ws. bits_of (writes_members ws r.script.targets)) none in
    let zero : bit_at e.members m ≡ 0 = ap (λ n. bit_at n m) empty ∙ bit_at-zero m in
    let no : ⊥ = grind (arith, nat_tests) in no

-- ---- the turn

-- what is found and stays is found among those that stay
find-kept : {T : Type 0} (p q : T → Bool) (xs : List T) (z : T) → find p xs ≡ Some z → q z ≡ true → find p (filter q xs) ≡ Some z
find-kept p q [] z h stays = h
find-kept p q (x ∷ xs) z h stays = by (λ k. find-kept p q xs z k stays) (p x) (q x) refl refl h
  where
    by : (find p xs ≡ Some z → find p (filter q xs) ≡ Some z) → (b c : Bool) → p x ≡ b → q x ≡ c → (if b then Some x else find p xs) ≡ Some z → find p (if q x then x ∷ filter q xs else filter q xs) ≡ Some z
    by rest true true e f h = ap (λ c. find p (if c then x ∷ filter q xs else filter q xs)) f ∙ ap (λ b. if b then Some x else find p (filter q xs)) e ∙ h
    by rest true false e f h = let same : x ≡ z = cc in clash (q x) (ap q same ∙ stays) f
    by rest false true e f h = ap (λ c. find p (if c then x ∷ filter q xs else filter q xs)) f ∙ ap (λ b. if b then Some x else find p (filter q xs)) e ∙ rest h
    by rest false false e f h = ap (λ c. find p (if c then x ∷ filter q xs else filter q xs)) f ∙ rest h

module _ (r : Rules) (o : Opening) (held : List Version) (h : History) (w : World) (t : ℕ) (s : TargetState) (b : TurnBegins r o held h w t s) where
  abbrev pub SoundAt : Durable → Type 0
  SoundAt d = Sound r o held h h.served s.opening t d s.memory.stamps

  -- the entry that a leader finds of an undecided attempt is the one that it keeps
  pub led-found : (a : AttemptId) (z : HasOpenRow r w t s a) (e : Entry) → entry_led a (leader_at (target_plan r t) s.memory s.durable) ≡ Some e → e ≡ z.entry
  unfolding entry_of
  led-found a z e found =
      let kept' : find (is_entry_of a) (filter (is_led t) s.durable.entries) ≡ Some z.entry = find-kept (is_entry_of a) (is_led t) s.durable.entries z.entry z.found (ap (λ n. n == t) z.leads ∙ same_number t) in
      cc (kept', found)

  -- what follows from an Ack in the world before it
  abbrev pub AckMid : ℕ → AttemptId → ℕ → Option Outcome → ack.AckStage → Kept → Type 0
  AckMid from a inc refusal ack.Heard k = k ≡ kept s
  AckMid from a inc refusal (ack.Followed f) k = SoundAt k.durable × (f ≡ ack_heard from a inc refusal (leader_at (target_plan r t) s.memory s.durable))

  -- what refuses counts of no decided attempt
  abbrev pub IsFirm : ℕ → AttemptId → ℕ → Option Outcome → Type 0
  IsFirm from a inc refusal = ack.is_refusing from a inc refusal (leader_at (target_plan r t) s.memory s.durable) ≡ true → WasDecided h a → ⊥

  pub ack-step : (from : ℕ) (a : AttemptId) (inc : ℕ) (refusal : Option Outcome) → IsFirm from a inc refusal → (g : ack.AckStage) (k : Kept) (c : Option Change) (u : ack.AckStage) (l : Kept)
      → ack.AckNext (target_plan r t) s.memory from a inc refusal g k c u → Steps c k l → AckMid from a inc refusal g k → AckMid from a inc refusal u l
  ack-step from a inc refusal firm g k c u l (ack.Aborts k' is) steps p = (
    subst SoundAt (sym steps.0) (aborts-sound r o held h h.served s.opening t s.memory.stamps k.durable a (firm refuses) (subst (λ n. SoundAt n.durable) (sym p) b.sound)),
    ap (λ n. ack_heard from a inc refusal (leader_at (target_plan r t) s.memory n.durable)) p,
  )
    where
      refuses : ack.is_refusing from a inc refusal (leader_at (target_plan r t) s.memory s.durable) ≡ true
      refuses = ap (λ n. ack.is_refusing from a inc refusal (leader_at (target_plan r t) s.memory n.durable)) (sym p) ∙ is
  ack-step from a inc refusal firm g k c u l (ack.Counts k' is) steps p =
      (subst (λ n. SoundAt n.durable) (sym (steps ∙ p)) b.sound, ap (λ n. ack_heard from a inc refusal (leader_at (target_plan r t) s.memory n.durable)) p)

  pub may-decide : (a : AttemptId) → (WasDecided h a → ⊥) → (e : Entry) → Contains w.issued (a, e.epoch) → MayBeDecided r o h a e.epoch
  may-decide a none e issued = record {
    undecided = none;
    alone = λ y f is same. none (f, subst (λ x. Decided h x f) (b.alone y a f e.epoch (b.decided y f is) issued same) is);
    above = b.above a e.epoch issued;
    form = b.forms a;
    fits = b.fits a;
  }

  ack-leaves : (from : ℕ) (a : AttemptId) (refusal : Option Outcome) (m : Message) (k : Kept) (n : TargetMemory) (posts : List Post) → IsUndecidedAt h s a → IsRefusalRight refusal → n.stamps ≡ s.memory.stamps → SoundAt k.durable
      → AckTells from a refusal (leader_at (target_plan r t) s.memory s.durable) posts → TurnLeaves r o held h w s.opening t m s.memory.member.parked k (n, sends posts None)
  ack-leaves from a refusal m k n posts undecided right same sound (Nothing none) =
      leaves-quiet r o held h w t s b m k n (sends posts None) same (λ p i. absurd (subst (Has p) none i)) (ap committed_in none) sound
  ack-leaves from a refusal m k n posts undecided right same sound (Refused e u how is all) =
      leaves-quiet r o held h w t s b m k n (sends posts None) same
      (subst (NoneIs is_answer) (sym all) (refusal-silent u.client a e.epoch how s.durable.incarnation (other_members e)))
      (ap committed_in all ∙ refusal-committed u.client a e.epoch how s.durable.incarnation (other_members e) (subst IsRefusalRight is right)) sound
  ack-leaves from a refusal m k n posts undecided right same sound (TellsCommit e u client found row other one) = record {
    more = [];
    right = λ q i. absurd i;
    sound = subst (Sound r o held h h.served s.opening t k.durable) (sym same) sound;
    answered = none-answered h.served t m s.memory.member.parked posts (subst (NoneIs is_answer) (sym one) (only-one r o held h w t s b (record { to = client; message = Ended a (Some e.epoch) Committed }) refl));
    told = (a, e.epoch) ∷ [];
    decides = OneMore a e.epoch (ap committed_in one) (may-decide a (undecided u row) e issued) (Contains-append_left w.issued [] (a, e.epoch) issued) (other-writes r a e from (ap (λ z. z.members) (led-found a open' e found) ∙ open'.members) other);
  }
    where
      open' : HasOpenRow r w t s a
      open' = b.rows a u row

      issued : Contains w.issued (a, e.epoch)
      issued = subst (λ z. Contains w.issued (a, z.epoch)) (sym (led-found a open' e found)) open'.issued

  ack-ends : (from : ℕ) (a : AttemptId) (inc : ℕ) (refusal : Option Outcome) (m : Message) → IsUndecidedAt h s a → IsRefusalRight refusal → (g : ack.AckStage) (k : Kept) (left : TargetMemory × Did) → ack.AckEnds s.memory g k left
      → AckMid from a inc refusal g k → TurnLeaves r o held h w s.opening t m s.memory.member.parked k left
  ack-ends from a inc refusal m undecided right g k left (ack.IsFollowed k' f z is) p =
      subst (TurnLeaves r o held h w s.opening t m s.memory.member.parked k) (sym is)
      (ack-leaves from a refusal m k (leads_on f s.memory) f.posts undecided right refl p.0
      (subst (λ y. AckTells from a refusal (leader_at (target_plan r t) s.memory s.durable) y.posts) (sym p.1) (ack-tells from a inc refusal (leader_at (target_plan r t) s.memory s.durable))))

  -- the whole turn
  pub ack-sound : (from : ℕ) (a : AttemptId) (inc : ℕ) (refusal : Option Outcome) (m : Message) → IsUndecidedAt h s a → IsRefusalRight refusal → (new : Kept) (left : TargetMemory × Did)
      → Whole (ack.AckNext (target_plan r t) s.memory from a inc refusal) (ack.AckEnds s.memory) ack.Heard (kept s) new left → TurnLeaves r o held h w s.opening t m s.memory.member.parked new left
  ack-sound from a inc refusal m undecided right new left turn =
      ack-ends from a inc refusal m undecided right turn.last new left turn.ends
      (reached-keeps (ack.AckNext (target_plan r t) s.memory from a inc refusal) (AckMid from a inc refusal) (ack-step from a inc refusal (refused-row r h t s from a inc refusal undecided)) ack.Heard (kept s) turn.last new turn.reached refl)
