-- A Fetch that waits at a target is as its client asked it, which is at its attempt; at a snapshot, too.
use Rattle.std.specs.Prelude.{ℕ, ◌≡◌, ◌<◌, ◌≤◌, ◌/◌, Bool, true, false, length, slice_get, Contains, Some, is_some, refl}
use Rattle.std.proofs.Common.{arith, sym, ◌∙◌, ap, subst}
use Rattle.std.proofs.lemmas.Option.{slice_get_within}
use Rattle.base_types.specs.declared.epoch.Epoch.{Epoch}
use Rattle.base_types.specs.declared.id.AttemptId.{AttemptId}
use Rattle.base_types.specs.Operations.{read_path}
use Rattle.base_messages.specs.declared.message.Message.{Message}
use Rattle.base_messages.specs.declared.message.Message.TheVariants as message
use Rattle.daos_model.specs.Accesses.{access_paths, attempt_targets, op_path}
use Rattle.daos_model.specs.BoolLaws.{clash}
use Rattle.daos_model.specs.Opening.{Opening, top}
use Rattle.daos_model.specs.Transactions.{attempt_ops, ops_or_none}
use Rattle.dtx_base.specs.declared.member.Parked.{Parked}
use Rattle.dtx_base.specs.Joining.{asker}
use Rattle.model_laws.specs.Lists.{has-at}
use Rattle.model_laws.specs.Members.{Has, contains-from_has, has-from_contains, has-map}
use Rattle.model_laws.specs.TargetLaws.{same_number}
use Rattle.world_legal.specs.world_commit.attempts.History.{History}
use Rattle.world_base.specs.declared.request.FetchRequest.{FetchRequest}
use Rattle.world_base.specs.declared.target.TargetState.{TargetState}
use Rattle.world_base.specs.declared.world.World.{World}
use Rattle.world_base.specs.ClientTurns.{attempt_id}
use Rattle.world_base.specs.Events.{Rules, client_plan, kept, target_plan}
use Rattle.world_base.specs.Letters.{client, target}
use Rattle.world_base.specs.Reads.{fetch_at}
use Rattle.world_base.specs.Requests.{fetch_message}
use Rattle.world_base.specs.TargetTurns.{fetch_request}
use Rattle.world_legal.specs.world_causes.causes.Causes.{Dated, MeetsOther, Stored}
use Rattle.world_legal.specs.world_causes.causes.Growth.{question-asks}
use Rattle.world_legal.specs.world_causes.causes.Premises.{MessageBears}
use Rattle.world_legal.specs.world_causes.causes.Shown.{Causes, IsFirstOf, limit_over}
use Rattle.world_upheld.specs.causing.DateLaws.{epoch-once}
use Rattle.world_upheld.specs.causing.DatedVerdicts.{AsksFor, AtOwnEpoch, AtSnapshot, IsAskRight, IsAskFit}
use Rattle.world_upheld.specs.causing.Dates.{counted-up, counted_as, counts-issued, with_dates}
use Rattle.world_upheld.specs.causing.OverDates.{CausesOverDates}
use Rattle.world_upheld.specs.causing.SnapshotReads.{IsDatedRead}
use Rattle.world_letters.specs.clients.Snapshots.{is_at_snapshot}
use Rattle.world_letters.specs.epochs.Asking.{ops-at}
use Rattle.world_letters.specs.epochs.Epochs.{BearsEpoch, Epochs, HasItsEpoch, IsEpochOf, IsIssued, IsOwn, IsPresent, IsReadOf, IsSeen, reads_snapshot}
use Rattle.world_legal.specs.world_causes.firsts.Firsts.{GoesWith}
use Rattle.world_owners.specs.world_making.freezings.Fetching.{AsksOp, waiters-right}
use Rattle.world_legal.specs.world_causes.handing.Targets.{question-target}
use Rattle.world_legal.specs.shown.Parked.{read-sent}
use Rattle.world_legal.specs.world_standing.standing.Requests.{IsParkedBy, parked-by}
use Rattle.world_letters.specs.talks.AskLaws.{asked-read}
use Rattle.world_letters.specs.talks.Asked.{Asked, AsksRead}
use Rattle.world_upheld.specs.upheld.Begins.{AreRulesInForm}
use Rattle.world_upheld.specs.upheld.Heard.{HeardGrounds}
use Rattle.world_upheld.specs.reasons.Accounted.{AccountedFor}
use Rattle.world_upheld.specs.reasons.Counting.{first-counts}
use Rattle.world_upheld.specs.reasons.Events.{places-of_rules}
use Rattle.world_letters.specs.waits.Waits.{ARead, HoldsIt, ParkedAt, is_parked_of}

pub low-within : (k c b : ℕ) → k ≤ c → c / 256 ≤ b → k / 256 ≤ b
low-within k c b low up = omega (arith, low, up)

-- the epoch of what reads at no snapshot was issued to it
issued-own : (r : Rules) (w : World) (x : AttemptId) (e : Epoch) → is_at_snapshot r x ≡ false → IsEpochOf r w x e → IsIssued w x e
issued-own r w x e off (IsOwn i) = i
issued-own r w x e off (IsSeen named) = clash (is_at_snapshot r x) (ap is_some named.reads) off

module _ (r : Rules) (o : Opening) (h : History) (stored : Stored) (w : World) (A : AreRulesInForm r)
    (k : AccountedFor r o h stored w) (late : ℕ) (X : CausesOverDates r o late stored w) (t : ℕ) (s : TargetState) (here : slice_get w.targets t ≡ Some s) where
  abbrev dated : Dated
  dated = X.dated

  C : Causes r o stored (with_dates X.dated w)
  C = X.causes

  heard : HeardGrounds r o h w
  heard = k.grounds.heard

  epochs : Epochs r (top o) w
  epochs = heard.epochs

  few : t < 256
  few = let p : t < length w.targets = slice_get_within w.targets t s here in let q : length w.targets ≤ 256 = epochs.few in omega (arith, p, q)

  -- ---- what waits

  module _ (p : Parked) (i : Has p s.memory.member.parked) where
    among : Contains s.memory.member.parked p
    among = contains-from_has s.memory.member.parked p i

    there : IsParkedBy r w t p.ask
    there = by p.ask refl
      where
        fetch : (x : AttemptId) × (asker p.ask ≡ Some x)
        fetch = let z = heard.questions.waiting t s p here i in (z.of, z.fetch)

        by : (m : Message) → p.ask ≡ m → IsParkedBy r w t p.ask
        by (message.Fetch x op group ep first tracker q snapshot) it =
            parked-by r w t s p x.client heard.talk here i (ap (is_parked_of x.client) (ap (λ m. record p { ask = m }) it) ∙ same_number x.client)
        by m it = let bad : asker m ≡ Some fetch.0 = ap asker (sym it) ∙ fetch.1 in let no : ⊥ = cc in absurd no

    -- it is the present attempt's
    record IsAskOf : Type 0 where
      z : IsParkedBy r w t p.ask
      f : FetchRequest
      e : Epoch
      to : z.q.to ≡ target t
      says : z.q.message ≡ fetch_message f
      it : p.ask ≡ fetch_at f e

    ask-of : IsAskOf
    ask-of = by there there.holds
      where
        by : (z : IsParkedBy r w t p.ask) → HoldsIt z.q (ParkedAt t p.ask) → IsAskOf
        by z (ARead u ask f e to says own it) = record { z = z; f = f; e = e; to = to; says = says; it = it }

    module _ (y : IsAskOf) where
      asked : (e : Epoch) × (e.0 ≤ y.z.c.tracker.0) × Asked (client_plan r y.z.n) e y.z.c y.z.a y.z.q
      asked = read-sent r y.z.n y.z.c y.z.a y.z.q y.f y.z.at y.z.question y.says

      its : AsksRead (client_plan r y.z.n) asked.0 y.z.c y.z.a y.f
      its = asked-read (client_plan r y.z.n) asked.0 y.z.c y.z.a y.z.q y.f asked.2 y.says

      has-epoch : HasItsEpoch r w (fetch_at y.f y.e) × IsReadOf r (fetch_at y.f y.e)
      has-epoch = subst (λ m. HasItsEpoch r w m × IsReadOf r m) y.it (epochs.parked t s p here among)

      at-it : y.f.snapshot ≡ is_at_snapshot r y.f.attempt
      at-it = (has-epoch.1).0

      its-epoch : IsEpochOf r w y.f.attempt y.e
      its-epoch = let b = has-epoch.0 in subst (λ x. IsEpochOf r w x y.e) (sym b.bears.0) (subst (IsEpochOf r w b.x) (sym b.bears.1) b.known)

      its-ops : attempt_ops r.script (attempt_id (client_plan r y.z.n) y.z.c y.z.a) ≡ its.ops
      its-ops = let j = heard.stand y.z.n y.z.c y.z.here in ops-at r y.z.n y.z.c y.z.a j.0 y.z.at j.1 ∙ ap ops_or_none its.at

      access : Has (read_path y.f.read) (access_paths (attempt_ops r.script y.f.attempt))
      access =
          subst (λ os. Has (read_path y.f.read) (access_paths os)) (sym (ap (attempt_ops r.script) its.attempt ∙ its-ops))
          (subst (λ q. Has q (access_paths its.ops)) (question-asks y.z.a.stage its.o y.f.read its.asked).1 (has-map op_path its.ops its.o (has-at its.ops y.z.a.op its.o its.here)))

      is-target : Contains (attempt_targets r.script y.f.attempt) t
      is-target =
          subst (Contains (attempt_targets r.script y.f.attempt)) (ap (λ a. a.number) y.to)
          (subst (λ x. Contains (attempt_targets r.script x) y.z.q.to.number) (sym its.attempt)
          (question-target r w heard.stand (places-of_rules r A) heard.within y.z.n y.z.c y.z.here y.z.a y.z.at y.z.q y.z.question))

      -- at its own epoch
      module _ (plain : y.f.snapshot ≡ false) where
        off : is_at_snapshot r y.f.attempt ≡ false
        off = sym at-it ∙ plain

        issued : Contains w.issued (y.f.attempt, y.e)
        issued = issued-own r w y.f.attempt y.e off its-epoch

        counts : Contains dated (y.f.attempt, y.e)
        counts = contains-from_has dated (y.f.attempt, y.e) (counts-issued r late dated w X.dates y.f.attempt y.e (has-from_contains w.issued (y.f.attempt, y.e) issued))

        first : IsFirstOf dated w.lines y.f.attempt y.f.first
        first = first-counts w.issued dated w.lines y.f.attempt y.f.first
            (λ x e j. contains-from_has dated (x, e) (counts-issued r late dated w X.dates x e (has-from_contains w.issued (x, e) j)))
            (subst (MessageBears (GoesWith r w.issued w.lines)) y.it (k.grounds.firsts.parked t s p here among) off)

        fit : IsAskFit r o dated w.lines (target_plan r t) p.ask
        fit = record {
          q = fetch_request y.f.attempt y.f.op y.f.group (Some y.e) y.f.first y.f.tracker y.f.read y.f.snapshot;
          is = y.it;
          fit = record {
            few = few;
            epsilon = refl;
            plain = plain;
            request = record {
              tracked = low-within y.f.tracker.0 y.z.c.tracker.0 (limit_over o w.lines dated) (subst (λ g. g.0 ≤ y.z.c.tracker.0) (sym its.tracker) asked.1)
                  (C.bounded.trackers y.z.n y.z.c y.z.here);
              own = λ g some. (let one : y.e ≡ g = cc in
                  subst (λ j. Contains dated (y.f.attempt, j) × (top o < j.0) × (j.0 / 256 ≤ limit_over o w.lines dated)) one
                  (counts, epochs.above y.f.attempt y.e issued, C.bounded.issued y.f.attempt y.e counts));
              fresh = λ none. (let no : ⊥ = cc in absurd no);
              known = first;
            };
            access = access;
            target = λ floor cont reason shown. is-target;
          };
          e = y.e;
          own = refl;
        }

        meets : MeetsOther r dated y.f.attempt p.on
        meets = C.waiting.meets t s p y.f.attempt y.e here among
            (subst (λ m. BearsEpoch m y.f.attempt y.e) (sym (y.it ∙ ap (λ b. message.Fetch y.f.attempt y.f.op y.f.group (Some y.e) y.f.first y.f.tracker y.f.read b) plain)) (refl, refl))

      -- at a snapshot
      module _ (at : y.f.snapshot ≡ true) where
        snap-meets : MeetsOther r dated y.f.attempt p.on
        snap-meets = X.readers t s here p y.f.attempt i (ap reads_snapshot y.it ∙ at) (subst (λ m. AsksFor m y.f.attempt) (sym y.it) refl)

        -- what counts for it is the epoch of its snapshot, so much later
        snap-date : snap-meets.own ≡ counted_as r late y.f.attempt y.e
        snap-date =
            let m = X.dates.epochs y.f.attempt snap-meets.own snap-meets.its in
            m.2 ∙ ap (counted_as r late y.f.attempt) (epoch-once r (top o) w y.f.attempt m.0 y.e epochs m.1 its-epoch)

        snap-counts : Contains dated (y.f.attempt, counted_as r late y.f.attempt y.e)
        snap-counts = subst (λ d. Contains dated (y.f.attempt, d)) snap-date snap-meets.its

        snap-asks : AsksOp r y.f.attempt y.f.op y.f.read
        snap-asks = record {
          op = its.o;
          at = subst (λ os. slice_get os y.f.op ≡ Some its.o) (sym (ap (attempt_ops r.script) its.attempt ∙ its-ops)) (subst (λ n. slice_get its.ops n ≡ Some its.o) (sym its.op) its.here);
          stage = y.z.a.stage;
          asks = its.asked;
        }

        snap-read : IsDatedRead r o dated w.lines (fetch_request y.f.attempt y.f.op y.f.group (Some y.e) y.f.first y.f.tracker y.f.read y.f.snapshot) (client y.f.attempt.client) y.e (kept s)
        snap-read = record {
          snapshot = at;
          own = refl;
          date = counted_as r late y.f.attempt y.e;
          its = snap-counts;
          up = counted-up r late y.f.attempt y.e;
          within = low-within y.e.0 (counted_as r late y.f.attempt y.e).0 (limit_over o w.lines dated) (counted-up r late y.f.attempt y.e) (C.bounded.issued y.f.attempt (counted_as r late y.f.attempt y.e) snap-counts);
          access = contains-from_has (access_paths (attempt_ops r.script y.f.attempt)) (read_path y.f.read) access;
          from_client = refl;
          frozen = (waiters-right r.script.targets r o w A.form heard.freezings heard.makings epochs t s p y.f.attempt y.f.op y.f.group y.e y.f.first y.f.tracker y.f.read here i
              (y.it ∙ ap (λ b. message.Fetch y.f.attempt y.f.op y.f.group (Some y.e) y.f.first y.f.tracker y.f.read b) at) snap-asks).1;
        }

      right : (b : Bool) → y.f.snapshot ≡ b → IsAskRight r o dated w.lines (target_plan r t) (kept s) p.ask
      right false plain = AtOwnEpoch (fit plain)
      right true at = AtSnapshot (fetch_request y.f.attempt y.f.op y.f.group (Some y.e) y.f.first y.f.tracker y.f.read y.f.snapshot) y.e y.it (snap-read at)

      meets-so : (b : Bool) → y.f.snapshot ≡ b → MeetsOther r dated y.f.attempt p.on
      meets-so false plain = meets plain
      meets-so true at = snap-meets at

      present : IsPresent r w y.f.attempt
      present = subst (IsPresent r w) (sym its.attempt) (record { c = y.z.c; a = y.z.a; here = y.z.here; at = y.z.at; own = refl })

      -- for whom it asks
      asks-for : (x : AttemptId) → AsksFor p.ask x → y.f.attempt ≡ x
      asks-for x asks = subst (λ m. AsksFor m x) y.it asks

    pub waiting-right : IsAskRight r o dated w.lines (target_plan r t) (kept s) p.ask
    waiting-right = right ask-of (ask-of.f).snapshot refl

    -- what it waits for is in its way, and its client is at its attempt
    pub waiting-meets : (x : AttemptId) → AsksFor p.ask x → MeetsOther r dated x p.on
    waiting-meets x asks = subst (λ y. MeetsOther r dated y p.on) (asks-for ask-of x asks) (meets-so ask-of (ask-of.f).snapshot refl)

    pub waiting-present : (x : AttemptId) → AsksFor p.ask x → IsPresent r w x
    waiting-present x asks = subst (IsPresent r w) (asks-for ask-of x asks) (present ask-of)
