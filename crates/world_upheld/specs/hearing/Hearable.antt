-- What goes to a running target it can hear, whatever a run does.
use Rattle.std.specs.Prelude.{ℕ, ◌≡◌, ◌≤◌, ◌<◌, ◌^◌, ◌/◌, ◌%◌, ◌⊎◌, Bool, true, false, IfSome, List, length, slice_get, Contains, Option, Some, None, refl}
use Rattle.std.proofs.Common.{inl, inr, sym, ◌∙◌, ap, subst, arith}
use Rattle.base_types.specs.declared.answer.Answer.TheVariants as answer
use Rattle.base_types.specs.declared.entry.Entry.{Entry}
use Rattle.base_types.specs.declared.epoch.Epoch.{Epoch}
use Rattle.base_types.specs.declared.id.AttemptId.{AttemptId}
use Rattle.base_types.specs.declared.id.ContId.{ContId}
use Rattle.base_types.specs.declared.operation.MinorWrite.{MinorWrite}
use Rattle.base_types.specs.declared.operation.Read.{Read}
use Rattle.base_types.specs.declared.operation.Write.{Write}
use Rattle.base_types.specs.Operations.{read_path, write_path}
use Rattle.base_types.specs.Placement.{ClassFits}
use Rattle.base_types.specs.Scripts.{IsOpInForm}
use Rattle.model_laws.specs.DecidedLaws.{all-from_has}
use Rattle.model_laws.specs.Lists.{all-at}
use Rattle.model_laws.specs.Members.{Has, contains-from_has, has-from_contains, has-from_filter}
use Rattle.base_messages.specs.declared.actor.ActorId.{ActorId}
use Rattle.base_messages.specs.declared.message.Message.{Message, more_of-Message}
use Rattle.base_messages.specs.declared.message.Message.TheVariants as message
use Rattle.daos_model.specs.declared.durable.Durable.{Durable}
use Rattle.daos_model.specs.declared.durable.Version.{Version}
use Rattle.daos_model.specs.Durables.{entry_of, is_enlisted, is_frozen}
use Rattle.daos_model.specs.Forms.{AreWritesInForm}
use Rattle.daos_model.specs.Opening.{Opening, top}
use Rattle.daos_model.specs.Transactions.{attempt_ops}
use Rattle.dtx_base.specs.Members.{is_written_at, writes_at}
use Rattle.world_legal.specs.world_commit.attempts.Asked.{IsCommitNew}
use Rattle.world_legal.specs.world_commit.attempts.Attempts.{IsOther, entry_at, entry_in, leader_of, writes_of}
use Rattle.world_legal.specs.world_commit.attempts.History.{History}
use Rattle.world_legal.specs.world_commit.attempts.Turning.{prepare-to}
use Rattle.world_base.specs.declared.letter.Letter.{Letter}
use Rattle.world_base.specs.declared.target.TargetPlan.{TargetPlan}
use Rattle.world_base.specs.declared.target.TargetState.{TargetState}
use Rattle.world_base.specs.declared.target.Life.TheVariants.{Running}
use Rattle.world_base.specs.declared.world.World.{World}
use Rattle.world_base.specs.Commits.{own_writes}
use Rattle.world_base.specs.Events.{Rules, target_plan}
use Rattle.world_base.specs.Letters.{reset_message, target}
use Rattle.world_base.specs.Requests.{request_epoch}
use Rattle.world_letters.specs.epochs.Epochs.{AsksEpoch, IsReadOf}
use Rattle.world_legal.specs.world_commit.fates.Asked.{AskedRight}
use Rattle.world_legal.specs.world_commit.fates.Facts.{IsPrepareRight, IsSaidSo}
use Rattle.world_legal.specs.world_contents.gots.FormLaws.{ops-form, read-declared, write-declared}
use Rattle.world_legal.specs.world_standing.hearable.Hearable.{CanHearOn, cont-declared, heard-in_form, leads-within, CanCommit, CanPrepare, CanStore}
use Rattle.world_legal.specs.world_standing.hearable.Sent.{AreSentSo, IsSentSo}
use Rattle.world_owners.specs.world_making.makers.Makers.{IsPruneRight, IsToldByMaker}
use Rattle.world_legal.specs.world_contents.posts.Forms.{IsInForm, IsReadAsked, is_collecting}
use Rattle.world_legal.specs.world_contents.reads.Given.{FitsTargets, Given, IsFetchRight, IsItsEpoch, IsMessageRight}
use Rattle.world_legal.specs.world_contents.reads.ListLaws.{some-in_form}
use Rattle.world_legal.specs.world_contents.reads.Reads.{IsOfAttempt}
use Rattle.world_letters.specs.snapshots.Makings.{AsksSo, IsAggregationOf, IsSnapIn, IsSo}
use Rattle.world_letters.specs.waits.Premises.{is_end}
use Rattle.world_letters.specs.waits.Requests.{is_lost_request, is_request}
use Rattle.world_upheld.specs.upheld.Begins.{AreEnlisted}
use Rattle.world_legal.specs.world_contents.posts.ScriptForm.{writes-declared, question-form}
use Rattle.world_legal.specs.closing.Sharing.{leader-writes, members-below, others-write}
use Rattle.world_upheld.specs.upheld.Dated.{issued-its}
use Rattle.world_legal.specs.world_causes.causes.Causes.{Stored}
use Rattle.world_legal.specs.world_causes.causes.Storing.{IsPrepareOf}
use Rattle.world_legal.specs.world_causes.causes.StoreTurns.{IsCommitOf}
use Rattle.world_upheld.specs.reasons.Accounted.{AccountedFor}
use Rattle.world_upheld.specs.upheld.Events.{asked-so, given-before, nothing_held}
use Rattle.world_upheld.specs.upheld.Upheld.{Grounds}
use Rattle.world_upheld.specs.hearing.Across.{ComesFromAnother, GoAcross, IsAskedAcross, IsToldAcross}

-- ---- the statements

-- a read at a snapshot that a target can serve: in a container that it knows, at an epoch that is frozen there
pub record IsReadFrozen (d : Durable) (e : Epoch) (read : Read) : Type 0 where
  pub enlisted : is_enlisted d (read_path read).cont ≡ true
  pub frozen : is_frozen d (read_path read).cont e ≡ true

-- an epoch that a target is told fits into 64 bits
abbrev pub IsEpochInForm : Epoch → Type 0
IsEpochInForm e = e.0 < 2 ^ 64

-- what was asked of another one of so many, at an epoch, got no answer
pub record IsCollectionLost (n by : ℕ) (to : ActorId) (e : Epoch) : Type 0 where
  pub within : by < n
  pub another : (to ≡ target by) → ⊥
  pub epoch : IsEpochInForm e

-- that was a Freeze, or a Prune
abbrev pub IsLostInForm : ℕ → ℕ → ActorId → Message → Type 0
IsLostInForm n by to (message.Freeze x c s) = IsCollectionLost n by to s
IsLostInForm n by to (message.Prune x c None (Some g)) = IsCollectionLost n by to g
IsLostInForm n by to m = ⊥

-- The form of what a target of so many hears for snapshots and aggregations, from whom. A client asks to make a snapshot, to aggregate, or to
-- read at a snapshot, whose epoch it tells; another target asks it to freeze, or to prune, at an epoch; another target answers; or what
-- asked a target to freeze or to prune got no answer.
abbrev pub GoesForMaking : ℕ → ActorId → ActorId → Message → Type 0
GoesForMaking n from to (message.Snap x c name tracker) = Unit {0}
GoesForMaking n from to (message.Prune x c (Some tracker) None) = Unit {0}
GoesForMaking n from to (message.Prune x c None (Some g)) = IsEpochInForm g × ComesFromAnother n from to
GoesForMaking n from to (message.Freeze x c s) = IsEpochInForm s × ComesFromAnother n from to
GoesForMaking n from to (message.Held x refusal) = ComesFromAnother n from to
GoesForMaking n from to (message.Reset' by down place (more_of-Message asked rest)) = IsLostInForm n by to asked
GoesForMaking n from to (message.Fetch x op group ep first tracker read true) = IsReadAsked read ep true
GoesForMaking n from to m = ⊥

-- What a target that keeps this can hear of them: the container is one that it knows, and a snapshot at which is read is frozen there.
abbrev pub CanHearOfMaking : Durable → Message → Type 0
CanHearOfMaking d (message.Snap x c name tracker) = is_enlisted d c ≡ true
CanHearOfMaking d (message.Prune x c tracker e) = is_enlisted d c ≡ true
CanHearOfMaking d (message.Freeze x c s) = is_enlisted d c ≡ true
CanHearOfMaking d (message.Held x refusal) = Unit {0}
CanHearOfMaking d (message.Reset' by down place asked) = Unit {0}
CanHearOfMaking d (message.Fetch x op group (Some e) first tracker read true) = IsReadFrozen d e read
CanHearOfMaking d m = ⊥

-- such a letter has its form, and can be heard
pub record IsMakingHeard (n : ℕ) (d : Durable) (from to : ActorId) (m : Message) : Type 0 where
  pub form : GoesForMaking n from to m
  pub can : CanHearOfMaking d m

-- a target can hear a letter as where no snapshot is made and nothing is aggregated, or as one of those
abbrev pub CanHearLetter : Rules → ℕ → Durable → Letter → Type 0
CanHearLetter r t d l = CanHearOn r t d l.message ⊎ IsMakingHeard r.script.targets d l.from l.to l.message

-- then it has the form that a target asks for
abbrev pub AllHeardIsInForm : Type 0
AllHeardIsInForm = (r : Rules) (t : ℕ) (d : Durable) (l : Letter) → r.script.targets ≤ 64 → CanHearLetter r t d l → IsInForm (target_plan r t) l.message

-- Where all is accounted for, the declared containers are known, Resets tell of targets, and what asks for freezes and prunes goes from one
-- target to another, what goes to a running target it can hear.
abbrev pub AllLettersCanBeHeard : Type 0
AllLettersCanBeHeard =
    (r : Rules) (o : Opening) (h : History) (stored : Stored) (w : World) (l : Letter) (t : ℕ) (s : TargetState) → 0 < r.script.targets
    → AccountedFor r o h stored w → AreSentSo r.script.targets w → GoAcross r.script.targets w → AreEnlisted r.script s.durable → Contains w.messages l → l.to ≡ target t → slice_get w.targets t ≡ Some s → s.life ≡ Running
    → CanHearLetter r t s.durable l

-- ---- the form

lost-in_form : (p : TargetPlan) (n by : ℕ) (down : Bool) (to : ActorId) (asked : Message) → n ≤ 64 → IsLostInForm n by to asked → IsInForm p (reset_message by down asked)
lost-in_form p n by down to (message.Freeze x c s) few k = let low = k.within in inr (inr (omega (arith, few, low), tt))
lost-in_form p n by down to (message.Prune x c None (Some g)) few k = let low = k.within in inr (inr (omega (arith, few, low), tt))
lost-in_form p n by down to m few k = absurd k

making-in_form : (p : TargetPlan) (n : ℕ) (from to : ActorId) (m : Message) → n ≤ 64 → GoesForMaking n from to m → IsInForm p m
making-in_form p n from to (message.Snap x c name tracker) few k = inr (inr tt)
making-in_form p n from to (message.Prune x c (Some tracker) None) few k = inr (inr tt)
making-in_form p n from to (message.Prune x c None (Some g)) few k = inr (inr tt)
making-in_form p n from to (message.Freeze x c s) few k = inr (inr tt)
making-in_form p n from to (message.Held x refusal) few k = inr (inr tt)
making-in_form p n from to (message.Reset' by down place (more_of-Message asked rest)) few k = lost-in_form p n by down to asked few k
making-in_form p n from to (message.Fetch x op group ep first tracker read true) few k = inl k
making-in_form p n from to m few k = absurd k

pub all-heard_in_form : AllHeardIsInForm
all-heard_in_form r t d l few (inl k) = heard-in_form r t d l.message k
all-heard_in_form r t d l few (inr k) = making-in_form (target_plan r t) r.script.targets l.from l.to l.message few k.form

-- ---- epochs

-- ticks that a lease of 56 bits covers make an epoch of 64 bits
in-form : (e lease : ℕ) → e / 256 ≤ lease → lease < 2 ^ 56 → e < 2 ^ 64
in-form e lease covered low = omega arith

-- ---- what can be stored

module _ (r : Rules) (o : Opening) (h : History) (stored : Stored) (w : World) (some : 0 < r.script.targets) (accounted : AccountedFor r o h stored w) (t : ℕ) (s : TargetState) (here : slice_get w.targets t ≡ Some s) where
  k : Grounds r o h w
  k = accounted.grounds

  given : Given r o nothing_held w
  given = given-before r o h w k.heard

  asked : AskedRight r h w
  asked = asked-so r o h w k

  entry-here : (x : AttemptId) → entry_at w t x ≡ entry_of s.durable x
  entry-here x = ap (λ z. entry_in z x) here

  -- an epoch that was issued fits
  issued-fits : (x : AttemptId) (e : Epoch) → Has (x, e) w.issued → IsEpochInForm e
  issued-fits x e i =
      let at = contains-from_has w.issued (x, e) i in
      let z = k.heard.epochs.issuer x e at in
      in-form e.0 z.0.durable.lease (k.heard.epochs.leased x e z.0 at z.1) (accounted.owned (e.0 % 256) z.0 z.1).lease

  -- no version has the epoch of an attempt that wasn't stored here
  no-version : (x : AttemptId) (e : Epoch) → (Contains stored (t, x) → ⊥) → top o < e.0 → ((y : AttemptId) (f : Epoch) → Contains w.issued (y, f) → f.0 ≡ e.0 → y ≡ x) → (v : Version) → Has v s.durable.versions → v.epoch.0 ≡ e.0 → ⊥
  no-version x e unstored above alone v i same =
      let own = accounted.owned t s here in
      let up : top o < v.epoch.0 = omega (arith, above, same) in
      let mine : v.by ≡ x = alone v.by v.epoch (own.written v i up) same in
      unstored (subst (λ y. Contains stored (t, y)) mine (own.stored_here v i up))

  -- a container of which an attempt makes a snapshot, or that it aggregates
  known-cont : (x : AttemptId) (c : ContId) → IsSnapIn r x c ⊎ IsAggregationOf r x c → is_enlisted s.durable c ≡ true
  known-cont x c = k.known t s x c here

  module _ (enlisted : AreEnlisted r.script s.durable) where
    known : (x : AttemptId) (m : MinorWrite) → Has m (writes_of r x) → is_enlisted s.durable (write_path m.write).cont ≡ true
    known x m i = enlisted (write_path m.write).cont
        (cont-declared r (write_path m.write) k.heard.form
        (write-declared r.script.objs m.write (writes-declared r.script.objs (attempt_ops r.script x) (ops-form r.script.targets r.script x k.heard.form) m i)))

    -- some of an attempt's writes can be stored where it has no entry, wasn't stored, and an epoch is its own
    can-store : (x : AttemptId) (ep : Option Epoch) (ws : List MinorWrite) → AreWritesInForm ws → ((m : MinorWrite) → Has m ws → Has m (writes_of r x)) → entry_of s.durable x ≡ None → (Contains stored (t, x) → ⊥)
        → ((e : Epoch) → ep ≡ Some e → IsItsEpoch o w x ep e) → CanStore s.durable x ep ws
    can-store x ep ws form its absent unstored own = record {
      form = form;
      enlisted = all-from_has (λ m. is_enlisted s.durable (write_path m.write).cont ≡ true) ws (λ m i. known x m (its m i));
      absent = absent;
      new = λ e is. all-from_has (λ v. v.epoch.0 ≡ e.0 → ⊥) s.durable.versions (no-version x e unstored (own e is).above (own e is).alone);
    }

    fits-each : (x : AttemptId) (m : MinorWrite) → Has m (writes_of r x) → FitsTargets r m.write
    fits-each x m i = given.fits x m (contains-from_has (writes_of r x) m i)

    can-commit : (l : Letter) (x : AttemptId) (ep first : Option Epoch) (tracker : Epoch) (ws : List MinorWrite) → Contains w.messages l → l.to ≡ target t → l.message ≡ message.Commit x ep first tracker ws → IsMessageRight r o w t s (message.Commit x ep first tracker ws) → CanCommit r t s.durable x ep ws
    can-commit l x ep first tracker ws among to says right = record {
      store = can-store x ep ws (subst AreWritesInForm (sym its) (given.forms x)) (λ m i. subst (Has m) its i) (sym (entry-here x) ∙ ap (λ u. entry_at w u x) leads ∙ new.unstored) (λ i. accounted.once.uncommitted t x l i among (subst (λ m. IsCommitOf m x) (sym says) refl)) epochs;
      some = subst (λ u. 0 < length (own_writes (target_plan r u) ws)) (sym leads) (subst (λ vs. 0 < length (own_writes (target_plan r (leader_of r x)) vs)) (sym its) (leader-writes r x (fits-each x) (λ none. right.0.some (its ∙ none))));
      fit = all-from_has (λ m. IfSome (write_path m.write).obj (λ obj. ClassFits obj.class r.script.targets)) ws (λ m i. fits-one m.write (fits-each x m (subst (Has m) its i)));
    }
      where
        its : ws ≡ writes_of r x
        its = right.0.its

        leads : t ≡ leader_of r x
        leads = right.0.leads

        new : IsCommitNew r h w l.to x ep ws
        new = asked.commits l x ep first tracker ws (has-from_contains w.messages l among) says

        epochs : (e : Epoch) → ep ≡ Some e → IsItsEpoch o w x ep e
        epochs e is = right.1 0 e (ap (request_epoch (target_plan r t) s.memory 0 tracker) is)

        fits-one : (z : Write) → FitsTargets r z → IfSome (write_path z).obj (λ obj. ClassFits obj.class r.script.targets)
        fits-one z f = subst (λ p. IfSome p (λ obj. ClassFits obj.class r.script.targets)) (sym f.1) f.2

    can-prepare : (l : Letter) (e : Entry) (first : Option Epoch) (ws : List MinorWrite) (inc : ℕ) → Contains w.messages l → l.to ≡ target t → l.message ≡ message.Prepare e first ws inc → IsPrepareRight r h w l.from l.to e ws inc → CanPrepare r s.durable e ws
    can-prepare l e first ws inc among to says p = record {
      store = can-store e.attempt (Some e.epoch) ws (subst AreWritesInForm (sym mine) (some-in_form (is_written_at r.script.targets t) (writes_of r e.attempt) (given.forms e.attempt)))
          (λ m i. (has-from_filter (is_written_at r.script.targets t) (writes_of r e.attempt) m (subst (Has m) mine i)).0) absent (accounted.once.so.asked t e.attempt (record { l = l; among = among; to = to; its = subst (λ m. IsPrepareOf m e.attempt) (sym says) refl })) epochs;
      some = subst (λ vs. 0 < length vs) (sym mine) (others-write r e.attempt t other);
      undecided = ap (λ z. z.committed) p.entry;
      unconfirmed = ap (λ z. z.confirmed) p.entry;
      leader = subst (λ n. n < r.script.targets) (sym (ap (λ z. z.leader) p.entry)) (leads-within (writes_of r e.attempt) r.script.targets some);
      members = subst (λ n. n < 2 ^ r.script.targets) (sym (ap (λ z. z.members) p.entry)) (members-below r e.attempt some);
    }
      where
        same : p.way.member ≡ t
        same = ap (λ a. a.number) (sym p.way.receiver ∙ to)

        other : IsOther r e.attempt t
        other = subst (IsOther r e.attempt) same p.way.other

        mine : ws ≡ writes_at r.script.targets t (writes_of r e.attempt)
        mine = p.writes ∙ ap (λ m. writes_at r.script.targets m (writes_of r e.attempt)) same

        absent : entry_of s.durable e.attempt ≡ None
        absent = sym (entry-here e.attempt) ∙ (k.heard.attempts.on.each e.attempt).awaited.before t l (has-from_contains w.messages l among) (prepare-to l t e first ws inc says to)

        epochs : (f : Epoch) → Some e.epoch ≡ Some f → IsItsEpoch o w e.attempt (Some e.epoch) f
        epochs f is = subst (λ g. IsItsEpoch o w e.attempt (Some e.epoch) g) (let one : e.epoch ≡ f = cc in one) (issued-its r o w k.heard.epochs e.attempt e.epoch (contains-from_has w.issued (e.attempt, e.epoch) p.issued))

    -- a read is of a container that the target knows
    read-known : (x : AttemptId) (op group : ℕ) (read : Read) (snapshot : Bool) → IsFetchRight r t x op group read snapshot → is_enlisted s.durable (read_path read).cont ≡ true
    read-known x op group read snapshot f =
        enlisted (read_path read).cont (cont-declared r (read_path read) k.heard.form
        (read-declared r.script.objs read (question-form r.script.objs a.stage a.op read (all-at (IsOpInForm r.script.objs) (attempt_ops r.script x) a.at.0 a.op (ops-form r.script.targets r.script x k.heard.form) a.at.2) a.asks)))
      where
        a : IsOfAttempt r (record { by = x; op = op; group = group; target = t; read = read; epoch = record { 0 = 0 }; answer = answer.Absent })
        a = f.asked (record { 0 = 0 }) answer.Absent

    -- ---- a letter

    module _ (sent : AreSentSo r.script.targets w) (across : GoAcross r.script.targets w) (l : Letter) (among : Contains w.messages l) (to : l.to ≡ target t) (runs : s.life ≡ Running) where
      i : Has l w.messages
      i = has-from_contains w.messages l among

      right : (m : Message) → l.message ≡ m → IsMessageRight r o w t s m
      right m it = subst (IsMessageRight r o w t s) it (given.asked l t s among to here runs)

      said : (m : Message) → l.message ≡ m → IsSaidSo r h w l.from l.to m
      said m it = subst (IsSaidSo r h w l.from l.to) it (k.heard.attempts.on.letters l i)

      so : (m : Message) → l.message ≡ m → IsSentSo r.script.targets l.to m
      so m it = subst (IsSentSo r.script.targets l.to) it (sent.letters l i)

      goes : (m : Message) → l.message ≡ m → IsToldAcross r.script.targets l.from l.to m
      goes m it = subst (IsToldAcross r.script.targets l.from l.to) it (across.letters l i)

      made : (m : Message) → l.message ≡ m → IsSo r w.issued m
      made m it = subst (IsSo r w.issued) it (k.heard.makings.letters l i)

      told : (m : Message) → l.message ≡ m → IsToldByMaker r m
      told m it = subst (IsToldByMaker r) it (k.makers.letters l i)

      -- it doesn't go to a client
      no-client : l.to.client ≡ true → ⊥
      no-client client = let bad : true ≡ false = sym client ∙ ap (λ a. a.client) to in let no : ⊥ = cc in no

      fetch : (x : AttemptId) (op group : ℕ) (ep first : Option Epoch) (tracker : Epoch) (read : Read) (snapshot : Bool) → l.message ≡ message.Fetch x op group ep first tracker read snapshot
          → CanHearOn r t s.durable (message.Fetch x op group ep first tracker read snapshot) ⊎ IsMakingHeard r.script.targets s.durable l.from l.to (message.Fetch x op group ep first tracker read snapshot)
      fetch x op group ep first tracker read false it =
          let f = (right (message.Fetch x op group ep first tracker read false) it).0 in
          inl (inl (record { now = refl; form = f.form; enlisted = read-known x op group read false f }))
      fetch x op group None first tracker read true it =
          let none = (k.heard.epochs.fresh l x tracker among (subst (λ m. AsksEpoch m x tracker) (sym it) (refl, refl))).4 in
          let reads = (subst (IsReadOf r) it (k.heard.epochs.reads l among)).0 in
          let no : ⊥ = cc (none, reads) in absurd no
      fetch x op group (Some e) first tracker read true it =
          let f = right (message.Fetch x op group (Some e) first tracker read true) it in
          inr (record { form = record { form = f.0.form; known = λ at. refl }; can = record { enlisted = read-known x op group read true f.0; frozen = (f.1 0 e refl).1 } })

      -- what got no answer was asked of another target, or was no Freeze and no Prune
      reset : (u : ℕ) (q : Message) → u < r.script.targets → IsPruneRight q → AsksSo r w.issued q → IsAskedAcross r.script.targets l.to (target u) q → (is_request q ≡ true → l.to.client ≡ true)
          → ((u < 64) × (is_collecting q ≡ false)) ⊎ IsLostInForm r.script.targets u l.to q
      reset u (message.Freeze x c s) low is so goes client = inr (record { within = low; another = goes.another; epoch = issued-fits x s so.0 })
      reset u (message.Prune x c None (Some g)) low is so goes client = inr (record { within = low; another = goes.another; epoch = issued-fits x g so.0 })
      reset u (message.Prune x c (Some tracker) None) low is so goes client = absurd (no-client (client refl))
      reset u (message.Prune x c None None) low is so goes client = absurd is
      reset u (message.Prune x c (Some tracker) (Some g)) low is so goes client = absurd is
      reset u q low is so goes client = let few : r.script.targets ≤ 64 = k.heard.few in inl (omega (arith, low, few), refl)

      pub can-hear_letter : CanHearLetter r t s.durable l
      can-hear_letter = by l.message refl
        where
          by : (m : Message) → l.message ≡ m → CanHearOn r t s.durable m ⊎ IsMakingHeard r.script.targets s.durable l.from l.to m
          by (message.Fetch x op group ep first tracker read snapshot) it = fetch x op group ep first tracker read snapshot it
          by (message.Commit x ep first tracker ws) it = inl (inl (can-commit l x ep first tracker ws among to it (right (message.Commit x ep first tracker ws) it)))
          by (message.Prepare e first ws inc) it = inl (inl (can-prepare l e first ws inc among to it (said (message.Prepare e first ws inc) it)))
          by (message.Ack x inc refusal) it = inl (inl tt)
          by (message.Mark inc marks) it = inl (inl tt)
          by (message.Marked inc ids) it = inl (inl tt)
          by (message.Query x ask) it = inl (inl tt)
          by (message.Verdict x ask inc v) it = inl (inl tt)
          by (message.Ask x) it = inl (inr tt)
          by (message.Status x inc) it = inl (inr tt)
          by (message.StatusIs x inc how) it = inl (inr tt)
          by (message.Reset' u down place (more_of-Message q rest)) it =
              let m = message.Reset' u down place (more_of-Message q rest) in
              elim (reset u q (so m it) (told m it) (made m it) (goes m it t to) (λ asked. (k.heard.requests.letters l i).lost (ap is_lost_request it ∙ asked))) [
                | inl j ↦ inl (inr j)
                | inr j ↦ inr (record { form = j; can = tt })
              ]
          by (message.Fetched x op group ep b) it = absurd (no-client ((k.heard.requests.letters l i).end (ap is_end it)))
          by (message.Ended x ep how) it = absurd (no-client ((k.heard.requests.letters l i).end (ap is_end it)))
          by (message.Tell tracker) it = absurd (no-client (so (message.Tell tracker) it))
          by (message.Snap x c name tracker) it = inr (record { form = tt; can = known-cont x c (inl (name, made (message.Snap x c name tracker) it)) })
          by (message.Freeze x c e) it =
              let m = made (message.Freeze x c e) it in inr (record { form = (issued-fits x e m.0, goes (message.Freeze x c e) it); can = known-cont x c (inl m.1) })
          by (message.Held x refusal) it = inr (record { form = goes (message.Held x refusal) it; can = tt })
          by (message.Prune x c (Some tracker) None) it = inr (record { form = tt; can = known-cont x c (inr (made (message.Prune x c (Some tracker) None) it)) })
          by (message.Prune x c None (Some g)) it =
              let m = made (message.Prune x c None (Some g)) it in inr (record { form = (issued-fits x g m.0, goes (message.Prune x c None (Some g)) it); can = known-cont x c (inr m.1) })
          by (message.Prune x c None None) it = absurd (told (message.Prune x c None None) it)
          by (message.Prune x c (Some tracker) (Some g)) it = absurd (told (message.Prune x c (Some tracker) (Some g)) it)

pub all-letters_can_be_heard : AllLettersCanBeHeard
all-letters_can_be_heard r o h stored w l t s some k sent across enlisted among to here runs = can-hear_letter r o h stored w some k t s here enlisted sent across l among to runs
