-- What a target hears is right, whatever a run does: a read is what its client asks of that target, and at a snapshot one that is frozen there;
-- and writes are those of the attempt.
use Rattle.std.specs.Prelude.{ℕ, ◌≡◌, ◌≤◌, Bool, true, false, length, List, map, find, slice_get, Contains, Option, Some, None, is_some, refl, [], ◌∷◌}
use Rattle.std.proofs.Common.{sym, ◌∙◌, ap, subst, inl, inr}
use Rattle.base_types.specs.declared.answer.Answer.TheVariants.{Absent}
use Rattle.base_types.specs.declared.epoch.Epoch.{Epoch}
use Rattle.base_types.specs.declared.id.AttemptId.{AttemptId}
use Rattle.base_types.specs.declared.id.ContId.{ContId}
use Rattle.base_types.specs.declared.operation.MinorWrite.{MinorWrite}
use Rattle.base_types.specs.declared.operation.Read.{Read}
use Rattle.base_types.specs.declared.outcome.Outcome.{Outcome}
use Rattle.base_types.specs.declared.script.OldDecl.{OldDecl}
use Rattle.base_types.specs.Operations.{read_path}
use Rattle.base_types.specs.Scripts.{IsInForm, all_snaps, old_snap}
use Rattle.base_messages.specs.declared.message.Message.{Message}
use Rattle.base_messages.specs.declared.message.Message.TheVariants as message
use Rattle.daos_model.specs.Accesses.{minor_writes}
use Rattle.daos_model.specs.BoolLaws.{clash}
use Rattle.daos_model.specs.declared.durable.Version.{Version}
use Rattle.daos_model.specs.Durables.{is_frozen}
use Rattle.daos_model.specs.Opening.{Opening, kept_map, top}
use Rattle.daos_model.specs.ReadsLegal.{is_named}
use Rattle.daos_model.specs.Transactions.{attempt_ops}
use Rattle.dtx_base.specs.declared.member.Parked.{Parked}
use Rattle.dtx_base.specs.Joining.{asker}
use Rattle.model_laws.specs.Members.{Has, contains-from_has, has-from_contains, has-left, has-right}
use Rattle.model_laws.specs.TargetLaws.{same_number}
use Rattle.world_legal.specs.world_commit.attempts.History.{History}
use Rattle.world_base.specs.declared.letter.Letter.{Letter}
use Rattle.world_base.specs.declared.request.CommitRequest.{CommitRequest}
use Rattle.world_base.specs.declared.request.FetchRequest.{FetchRequest}
use Rattle.world_base.specs.declared.target.Life.TheVariants.{Running}
use Rattle.world_base.specs.declared.target.TargetState.{TargetState}
use Rattle.world_base.specs.declared.world.World.{World}
use Rattle.world_base.specs.ClientTurns.{attempt_id}
use Rattle.world_base.specs.Events.{Rules, client_plan, target_plan}
use Rattle.world_base.specs.Letters.{Takes, target}
use Rattle.world_base.specs.Requests.{fetch_message, request_epoch}
use Rattle.world_letters.specs.clients.Snapshots.{is_at_snapshot}
use Rattle.world_letters.specs.epochs.Epochs.{AsksEpoch, ClientsStand, Epochs, GoesWith, HasItsEpoch, IsEpochOf, IsIssued, IsOwn, IsReadOf, IsSeen}
use Rattle.world_legal.specs.world_commit.fates.Facts.{Attempts, IsAckRight, IsSaidSo}
use Rattle.world_owners.specs.world_making.freezings.Freezings.{Freezings}
use Rattle.world_owners.specs.world_making.freezings.Seeing.{ANew, AnOld, NamesSnapshot, SeesFrozen, fetches-ask, waiting-see}
use Rattle.world_legal.specs.world_causes.handing.Groups.{ClientsAskWithin}
use Rattle.world_legal.specs.world_contents.gots.FormLaws.{ops-form}
use Rattle.world_legal.specs.world_causes.handing.Dates.{epochs-of_commits}
use Rattle.world_legal.specs.world_causes.handing.Places.{snapshots-read}
use Rattle.world_legal.specs.world_causes.handing.Handing.{IsAskedBy, IsHandedRight, asked-by, commit-goes}
use Rattle.world_legal.specs.world_commit.questions.Facts.{Questions}
use Rattle.world_legal.specs.world_contents.reads.Given.{Given, HasReadEpoch, IsCommitRight, IsFetchRight, IsItsSnapshot, IsKept, IsMade, IsMessageRight, IsParkedRight, IsReadEpoch, IsRefusalRight}
use Rattle.world_legal.specs.world_contents.reads.Reads.{IsOfAttempt}
use Rattle.world_letters.specs.snapshots.Makings.{IsSnapOf, Makings}
use Rattle.world_legal.specs.world_standing.standing.Requests.{IsParkedBy, parked-by, read-asked, writes-asked}
use Rattle.world_letters.specs.talks.AskLaws.{asked-commit}
use Rattle.world_letters.specs.talks.Asked.{Asked, commit_of}
use Rattle.world_letters.specs.talks.Conversation.{is_fetch_of}
use Rattle.world_letters.specs.waits.Premises.{RequestsAreOfClients}
use Rattle.world_letters.specs.waits.Requests.{is_request}
use Rattle.world_letters.specs.waits.Waits.{ARead, Conversation, HoldsIt, ParkedAt}
use Rattle.world_upheld.specs.upheld.Begins.{AreBefore}
use Rattle.world_legal.specs.world_contents.posts.ScriptForm.{ops-few, writes-in-form, writes-fit}
use Rattle.world_upheld.specs.upheld.Dated.{issued-its, request-its, same-epoch}
use Rattle.world_upheld.specs.upheld.Named.{made-named, script_snaps, old-named, one-cont, never-both, read-named}
use Rattle.world_upheld.specs.upheld.Reading.{read-right}

-- one of the letters in flight can be taken
pub takes-one : (letters : List Letter) (l : Letter) → Has l letters → (rest : List Letter) × Takes letters l rest
takes-one [] l i = absurd i
takes-one (m ∷ ms) l (inl same) = (ms, record { before = []; after = ms; among = ap (λ z. z ∷ ms) (sym same); left = refl })
takes-one (m ∷ ms) l (inr i) = let t = takes-one ms l i in (m ∷ t.0, record { before = m ∷ t.1.before; after = t.1.after; among = ap (λ z. m ∷ z) t.1.among; left = ap (λ z. m ∷ z) t.1.left })

-- ---- what this stands on

-- Of a script in form, with its targets, which are as many as a set of members holds: conversations, from whom requests come, where clients
-- stand, that they ask within the groups of their paths, epochs, what became of attempts, what targets ask one another, of what snapshots and aggregations come, and
-- what is frozen where.
pub record HeardGrounds (r : Rules) (o : Opening) (h : History) (w : World) : Type 0 where
  pub form : IsInForm r.script.targets r.script
  pub few : r.script.targets ≤ 64
  pub many : length w.targets ≡ r.script.targets
  pub talk : Conversation r w
  pub requests : RequestsAreOfClients w
  pub stand : ClientsStand r w
  pub epochs : Epochs r (top o) w
  pub within : ClientsAskWithin r w
  pub attempts : Attempts r h w
  pub questions : Questions r h w
  pub makings : Makings r w
  pub freezings : Freezings r o w

-- then what targets hear is right
abbrev pub AllHeardIsRight : Type 0
AllHeardIsRight = (r : Rules) (o : Opening) (held : ℕ → List Version) (h : History) (w : World) → AreBefore o held → HeardGrounds r o h w → Given r o held w

-- ---- epochs of attempts

module _ (r : Rules) (o : Opening) (h : History) (w : World) (k : HeardGrounds r o h w) where
  -- one that reads at no snapshot has its own
  own-epoch : (x : AttemptId) (e : Epoch) → is_at_snapshot r x ≡ false → IsEpochOf r w x e → IsIssued w x e
  own-epoch x e off (IsOwn i) = i
  own-epoch x e off (IsSeen named) = clash (is_at_snapshot r x) (ap is_some named.reads) off

  -- one that reads at a snapshot reads it where it is frozen, in its container
  seen-epoch : (t : ℕ) (s : TargetState) (x : AttemptId) (op group : ℕ) (ep : Option Epoch) (q : Read) (e : Epoch) → slice_get w.targets t ≡ Some s
      → IsFetchRight r t x op group q true → SeesFrozen r o w x e
      → IsReadEpoch r o w s.durable x (read_path q).cont ep true e
  seen-epoch t s x op group ep q e here right z = (by z.names, subst (λ c. is_frozen s.durable c e ≡ true) (same-cont z.names) (z.frozen t s here))
    where
      its : IsOfAttempt r (record { by = x; op = op; group = group; target = t; read = q; epoch = e; answer = Absent })
      its = right.asked e Absent

      asked : Has (z.name, (read_path q).cont) (script_snaps r.script)
      asked = read-named r.script x z.name its.at.0 its.op its.stage q k.form z.reads its.at.2 its.asks

      made : (y : AttemptId) (c : ContId) → IsSnapOf r y z.name c → Has (z.name, c) (all_snaps r.script.clients)
      made y c of = made-named r.script y z.name c of

      same-cont : NamesSnapshot r o x.client z.name z.cont e → z.cont ≡ (read_path q).cont
      same-cont (AnOld d m found same at low kept) =
          one-cont (script_snaps r.script) z.name z.cont (read_path q).cont k.form.snap_names
          (has-left (map old_snap r.script.olds) (all_snaps r.script.clients) (z.name, z.cont)
          (subst (λ c. Has (z.name, c) (map old_snap r.script.olds)) same (old-named r.script.olds z.name d found))) asked
      same-cont (ANew y own of high) =
          one-cont (script_snaps r.script) z.name z.cont (read_path q).cont k.form.snap_names
          (has-right (map old_snap r.script.olds) (all_snaps r.script.clients) (z.name, z.cont) (made y z.cont of)) asked

      undeclared : (y : AttemptId) (c : ContId) → IsSnapOf r y z.name c → find (is_named z.name) r.script.olds ≡ None
      undeclared y c of = none (find (is_named z.name) r.script.olds) refl
        where
          none : (f : Option OldDecl) → find (is_named z.name) r.script.olds ≡ f → find (is_named z.name) r.script.olds ≡ None
          none None is = is
          none (Some d) is =
              absurd (never-both (map old_snap r.script.olds) (all_snaps r.script.clients) z.name d.cont c k.form.snap_names (old-named r.script.olds z.name d is) (made y c of))

      by : NamesSnapshot r o x.client z.name z.cont e → IsItsSnapshot r o x (read_path q).cont e
      by (AnOld d m found same at low kept) =
          let one = same-cont (AnOld d m found same at low kept) in
          IsKept z.name d m z.reads found (same ∙ one) at low (subst (λ c. kept_map c e.0 o.stand.snaps ≡ Some m) one kept)
      by (ANew y own of high) = IsMade z.name z.reads (undeclared y z.cont of) high

  -- ---- every message to a running target

  module _ (l : Letter) (t : ℕ) (s : TargetState) (among : Contains w.messages l) (to : l.to ≡ target t) (here : slice_get w.targets t ≡ Some s) (runs : s.life ≡ Running) where
    taken : (rest : List Letter) × Takes w.messages l rest
    taken = takes-one w.messages l (has-from_contains w.messages l among)

    heard : is_request l.message ≡ true → IsAskedBy r w l taken.0
    heard of_kind = asked-by r w k.talk k.requests l taken.0 taken.1 of_kind

    module _ (x : AttemptId) (op group : ℕ) (ep first : Option Epoch) (tracker : Epoch) (q : Read) (snapshot : Bool) (it : l.message ≡ message.Fetch x op group ep first tracker q snapshot) where
      abbrev asks : FetchRequest
      asks = record { attempt = x; op = op; group = group; ep = ep; first = first; tracker = tracker; read = q; snapshot = snapshot }

      by_client : IsAskedBy r w l taken.0
      by_client = heard (ap is_request it)

      of_client : by_client.q.message ≡ fetch_message asks
      of_client = sym (ap (λ z. z.message) by_client.is) ∙ it

      at-it : snapshot ≡ is_at_snapshot r x
      at-it = (subst (IsReadOf r) it (k.epochs.reads l among)).0

      fetch-right : IsFetchRight r t x op group q snapshot
      fetch-right =
          let z = read-asked (client_plan r by_client.n) by_client.c by_client.a by_client.q asks by_client.at by_client.question of_client in
          read-right r w t asks k.form k.stand k.within
          (record { n = by_client.n; c = by_client.c; a = by_client.a; here = by_client.here; present = by_client.at; k = z.0; q = by_client.q; asked = z.1; says = of_client; to = sym (ap (λ y. y.to) by_client.is) ∙ to }) at-it

      -- its own epoch
      plain-epoch : snapshot ≡ false → (reading : ℕ) (e : Epoch) → request_epoch (target_plan r t) s.memory reading tracker ep ≡ Some e
          → IsReadEpoch r o w s.durable x (read_path q).cont ep false e
      plain-epoch off = request-its r o w k.epochs t s x ep tracker here runs bears low
        where
          plain : l.message ≡ message.Fetch x op group ep first tracker q false
          plain = it ∙ ap (message.Fetch x op group ep first tracker q) off

          bears : (e : Epoch) → ep ≡ Some e → IsIssued w x e
          bears e own =
              own-epoch x e (sym at-it ∙ off) (k.epochs.borne l x e among
              (subst (λ m. GoesWith m x e) (sym (plain ∙ ap (λ y. message.Fetch x op group y first tracker q false) own)) (refl, refl)))

          low : ep ≡ None → top o ≤ tracker.0
          low none =
              (k.epochs.fresh l x tracker among (subst (λ m. AsksEpoch m x tracker) (sym (plain ∙ ap (λ y. message.Fetch x op group y first tracker q false) none)) (refl, refl))).2

      -- that of the snapshot
      seen-there : snapshot ≡ true → (reading : ℕ) (e : Epoch) → request_epoch (target_plan r t) s.memory reading tracker ep ≡ Some e
          → IsReadEpoch r o w s.durable x (read_path q).cont ep true e
      seen-there on reading e found = by ep refl found
        where
          at : l.message ≡ message.Fetch x op group ep first tracker q true
          at = it ∙ ap (message.Fetch x op group ep first tracker q) on

          by : (y : Option Epoch) → ep ≡ y → request_epoch (target_plan r t) s.memory reading tracker y ≡ Some e → IsReadEpoch r o w s.durable x (read_path q).cont ep true e
          by None none issues =
              clash (is_at_snapshot r x) (sym at-it ∙ on)
              (k.epochs.fresh l x tracker among (subst (λ m. AsksEpoch m x tracker) (sym (at ∙ ap (λ y. message.Fetch x op group y first tracker q true) none)) (refl, refl))).4
          by (Some f) some bears =
              let own : Some f ≡ Some e = bears in
              let one : f ≡ e = cc (own) in
              seen-epoch t s x op group ep q e here (subst (IsFetchRight r t x op group q) on fetch-right)
              (fetches-ask r o w k.freezings k.makings k.epochs l x op group e first tracker q (has-from_contains w.messages l among)
              (at ∙ ap (λ y. message.Fetch x op group y first tracker q true) (some ∙ ap (λ y. Some y) one)))

      fetch-is : IsMessageRight r o w t s (message.Fetch x op group ep first tracker q snapshot)
      fetch-is = (fetch-right, by snapshot refl)
        where
          by : (b : Bool) → snapshot ≡ b → HasReadEpoch r o w t s x (read_path q).cont ep tracker snapshot
          by true on = λ reading e found. subst (λ b. IsReadEpoch r o w s.durable x (read_path q).cont ep b e) (sym on) (seen-there on reading e found)
          by false off = λ reading e found. subst (λ b. IsReadEpoch r o w s.durable x (read_path q).cont ep b e) (sym off) (plain-epoch off reading e found)

    commit-is : (x : AttemptId) (ep first : Option Epoch) (tracker : Epoch) (ws : List MinorWrite) → l.message ≡ message.Commit x ep first tracker ws
        → IsMessageRight r o w t s (message.Commit x ep first tracker ws)
    commit-is x ep first tracker ws it = (right, request-its r o w k.epochs t s x ep tracker here runs bears low)
      where
        f : CommitRequest
        f = record { attempt = x; ep = ep; first = first; tracker = tracker; writes = ws }

        i : IsAskedBy r w l taken.0
        i = heard (ap is_request it)

        says : i.q.message ≡ commit_of f
        says = sym (ap (λ z. z.message) i.is) ∙ it

        z : (e : Epoch) × Asked (client_plan r i.n) e i.c i.a i.q
        z = writes-asked (client_plan r i.n) i.c i.a i.q f i.at i.question says

        own : x ≡ attempt_id (client_plan r i.n) i.c i.a
        own = (asked-commit (client_plan r i.n) z.0 i.c i.a i.q f z.1 says).attempt

        goes : IsHandedRight r x i.q ws
        goes = subst (λ y. IsHandedRight r y i.q ws) (sym own) (commit-goes r w k.stand i.n i.c i.here i.a i.at z.0 i.q f z.1 says)

        right : IsCommitRight r t x ws
        right = record { its = goes.writes; some = goes.some; leads = ap (λ y. y.number) (sym to ∙ ap (λ y. y.to) i.is ∙ goes.to) }

        bears : (e : Epoch) → ep ≡ Some e → IsIssued w x e
        bears e has =
            contains-from_has w.issued (x, e)
            ((epochs-of_commits r (top o) w k.talk k.requests k.stand (snapshots-read r r.script.targets k.form) k.epochs).own l x e first tracker ws
            (has-from_contains w.messages l among)
            (it ∙ ap (λ y. message.Commit x y first tracker ws) has))

        low : ep ≡ None → top o ≤ tracker.0
        low none = (k.epochs.fresh l x tracker among (subst (λ m. AsksEpoch m x tracker) (sym (it ∙ ap (λ y. message.Commit x y first tracker ws) none)) (refl, refl))).2

    ack-is : (x : AttemptId) (inc : ℕ) (refusal : Option Outcome) → l.message ≡ message.Ack x inc refusal → IsRefusalRight refusal
    ack-is x inc refusal it = refused refusal (subst (IsSaidSo r h w l.from l.to) it (k.attempts.on.letters l (has-from_contains w.messages l among)))
      where
        refused : (how : Option Outcome) → IsAckRight r h w l.from l.to x inc how → IsRefusalRight how
        refused None a = tt
        refused (Some how) a = a.held

    message-right : IsMessageRight r o w t s l.message
    message-right = by l.message refl
      where
        by : (m : Message) → l.message ≡ m → IsMessageRight r o w t s m
        by (message.Fetch x op group ep first tracker q snapshot) it = fetch-is x op group ep first tracker q snapshot it
        by (message.Commit x ep first tracker ws) it = commit-is x ep first tracker ws it
        by (message.Ack x inc refusal) it = ack-is x inc refusal it
        by m it = tt

  -- ---- what waits at a target

  held-right : (t : ℕ) (s : TargetState) (p : Parked) → slice_get w.targets t ≡ Some s → Has p s.memory.member.parked → (z : IsParkedBy r w t p.ask)
      → HoldsIt z.q (ParkedAt t p.ask) → IsParkedRight r o w t s.durable p.ask
  held-right t s p here i z (ARead u ask f e to says own it) =
      subst (IsParkedRight r o w t s.durable) (sym it) (record { right = right; epoch = e; has = refl; its = by f.snapshot refl })
    where
      both : HasItsEpoch r w p.ask × IsReadOf r p.ask
      both = k.epochs.parked t s p here (contains-from_has s.memory.member.parked p i)

      at-it : f.snapshot ≡ is_at_snapshot r f.attempt
      at-it = (subst (IsReadOf r) it both.1).0

      right : IsFetchRight r t f.attempt f.op f.group f.read f.snapshot
      right =
          let a = read-asked (client_plan r z.n) z.c z.a z.q f z.at z.question says in
          read-right r w t f k.form k.stand k.within (record { n = z.n; c = z.c; a = z.a; here = z.here; present = z.at; k = a.0; q = z.q; asked = a.1; says = says; to = to }) at-it

      its-own : IsEpochOf r w f.attempt e
      its-own = by f.snapshot (subst (λ m. GoesWith m both.0.x both.0.e) it both.0.bears)
        where
          by : (b : Bool) → GoesWith (message.Fetch f.attempt f.op f.group (Some e) f.first f.tracker f.read b) both.0.x both.0.e → IsEpochOf r w f.attempt e
          by b goes = subst (λ y. IsEpochOf r w y e) (sym goes.0) (subst (IsEpochOf r w both.0.x) (sym goes.1) both.0.known)

      by : (b : Bool) → f.snapshot ≡ b → IsReadEpoch r o w s.durable f.attempt (read_path f.read).cont (Some e) f.snapshot e
      by false off =
          subst (λ b. IsReadEpoch r o w s.durable f.attempt (read_path f.read).cont (Some e) b e) (sym off)
          (issued-its r o w k.epochs f.attempt e (own-epoch f.attempt e (sym at-it ∙ off) its-own))
      by true on =
          subst (λ b. IsReadEpoch r o w s.durable f.attempt (read_path f.read).cont (Some e) b e) (sym on)
          (seen-epoch t s f.attempt f.op f.group (Some e) f.read e here (subst (IsFetchRight r t f.attempt f.op f.group f.read) on right)
          (waiting-see r o w k.freezings k.makings k.epochs t s p f.attempt f.op f.group e f.first f.tracker f.read here i
          (it ∙ ap (message.Fetch f.attempt f.op f.group (Some e) f.first f.tracker f.read) on)))

  waiting-right : (t : ℕ) (s : TargetState) (p : Parked) → slice_get w.targets t ≡ Some s → Has p s.memory.member.parked → IsParkedRight r o w t s.durable p.ask
  waiting-right t s p here i = by p.ask refl
    where
      of-client : (n : ℕ) → is_fetch_of n p.ask ≡ true → IsParkedRight r o w t s.durable p.ask
      of-client n own = let z = parked-by r w t s p n k.talk here i own in held-right t s p here i z z.holds

      fetch : (x : AttemptId) × (asker p.ask ≡ Some x)
      fetch = let z = k.questions.waiting t s p here i in (z.of, z.fetch)

      by : (m : Message) → p.ask ≡ m → IsParkedRight r o w t s.durable p.ask
      by (message.Fetch x op group ep first tracker q snapshot) it = of-client x.client (ap (is_fetch_of x.client) it ∙ same_number x.client)
      by m it = let bad : asker m ≡ Some fetch.0 = ap asker (sym it) ∙ fetch.1 in let no : ⊥ = cc in absurd no

pub all-heard_right : AllHeardIsRight
all-heard_right r o held h w before k = record {
  before = before;
  above = λ x e i. k.epochs.above x e i;
  apart = λ x y e f i j same. k.epochs.apart x y e i (subst (λ z. Contains w.issued (y, z)) (sym (same-epoch e f same)) j);
  forms =
      λ x. writes-in-form r.script.objs (attempt_ops r.script x) k.form.declared.obj_units (ops-few r.script.targets r.script x k.form)
      (ops-form r.script.targets r.script x k.form);
  fits = λ x m i. writes-fit r x m k.form (has-from_contains (minor_writes 0 (attempt_ops r.script x)) m i);
  few = k.few;
  asked = λ l t s among to here runs. message-right r o h w k l t s among to here runs;
  waiting = λ t s p here runs i. waiting-right r o h w k t s p here i;
}
