-- What follows on a world in which no client does anything: where each new letter shows its cause, outcomes go on to show their causes.
use Rattle.std.specs.Prelude.{ℕ, ◌≡◌, ◌≤◌, ◌+◌, ◌/◌, ◌++◌, ◌⊎◌, Any, true, false, List, [], Contains, slice_get, Some, None}
use Rattle.std.proofs.Common.{append-nil, inl, inr, sym, ◌∙◌, ap, subst, arith}
use Rattle.std.proofs.lemmas.List.Elements.{Contains-append_left}
use Rattle.base_types.specs.declared.epoch.Epoch.{Epoch}
use Rattle.base_types.specs.declared.id.AttemptId.{AttemptId}
use Rattle.base_types.specs.declared.id.ContId.{ContId}
use Rattle.base_types.specs.declared.outcome.FloorWhy.{FloorWhy}
use Rattle.base_types.specs.declared.report.Line.{Line}
use Rattle.base_messages.specs.declared.message.Message.{Message}
use Rattle.base_messages.specs.declared.message.Message.TheVariants as message
use Rattle.base_messages.specs.declared.message.Post.{Post}
use Rattle.model_laws.specs.Lists.{any-of}
use Rattle.model_laws.specs.Members.{contains-from_has, has-cases, has-from_contains}
use Rattle.daos_model.specs.Attempts.{EachTry, tries}
use Rattle.daos_model.specs.CausesShown.{ShowsFloor}
use Rattle.daos_model.specs.Opening.{Opening}
use Rattle.dtx_base.specs.declared.member.Parked.{Parked}
use Rattle.world_base.specs.declared.letter.Letter.{Letter}
use Rattle.world_base.specs.declared.target.Life.TheVariants.{Running}
use Rattle.world_base.specs.declared.target.TargetState.{TargetState}
use Rattle.world_base.specs.declared.world.World.{World}
use Rattle.world_base.specs.Events.{Rules}
use Rattle.world_contents.specs.world_letters.epochs.Epochs.{BearsEpoch, IsPresent, reads_snapshot}
use Rattle.world_causes.specs.losses.Since.{each-more}
use Rattle.world_causes.specs.causes.Causes.{Dated, IsAskedFor, IsUndecidedFor, MeetsOther, Stored, blocks_of_stored, epochs_told}
use Rattle.world_causes.specs.causes.Dates.{limit-rises}
use Rattle.world_causes.specs.causes.Growth.{meets-more}
use Rattle.world_causes.specs.causes.Lasting.{limit-told, message-more, open-more, outcome-more, silent-others}
use Rattle.world_causes.specs.causes.Shown.{Causes, FloorsShown, IsOpenTo, MessageStands, OutcomeStands, limit_over}
use Rattle.world_causes.specs.causes.Turns.{PostShows, none-of}

-- a letter as it was posted
abbrev pub posted : Letter → Post
posted l = record { to = l.to; message = l.message }

-- One target: its ticks and its lease are within the limit where they rose, its blocks are accounted for, and no more Fetches wait there but
-- for reads at snapshots.
pub record FollowsOn (r : Rules) (stored new : Stored) (limit t : ℕ) (s z : TargetState) : Type 0 where
  pub ticks : z.life ≡ Running → ((s.life ≡ Running) × (z.memory.ticks ≤ s.memory.ticks)) ⊎ (z.memory.ticks ≤ limit)
  pub lease : (z.durable.lease ≤ s.durable.lease) ⊎ (z.durable.lease ≤ limit + 65536)
  pub free : s.free + blocks_of_stored r.script t stored ≤ z.free + blocks_of_stored r.script t (new ++ stored)
  pub parked : (p : Parked) → Contains z.memory.member.parked p → Contains s.memory.member.parked p ⊎ (reads_snapshot p.ask ≡ true)

-- a read at a snapshot bears no epoch of its own
pub none-borne : (m : Message) (x : AttemptId) (e : Epoch) → reads_snapshot m ≡ true → BearsEpoch m x e → ⊥
none-borne (message.Fetch y op group (Some own) first tracker q true) x e is h = h
none-borne (message.Fetch y op group (Some own) first tracker q false) x e is h = let no : ⊥ = cc in no
none-borne (message.Fetch y op group None first tracker q snapshot) x e is h = h
none-borne m x e is h = let no : ⊥ = cc in no

-- Epochs were issued, and lines added that tell of no attempt, each within the limit; each letter was in flight before, or shows its cause;
-- and floors are shown.
pub record Continues (r : Rules) (o : Opening) (stored new : Stored) (w v : World) : Type 0 where
  pub added : Dated
  pub issued : v.issued ≡ w.issued ++ added
  pub more : List Line
  pub lines : v.lines ≡ w.lines ++ more
  pub silent : tries more ≡ []
  pub clients : v.clients ≡ w.clients
  pub messages : (l : Letter) → Contains v.messages l → Contains w.messages l ⊎ PostShows r o (new ++ stored) v.issued v.lines (posted l)
  pub dates : (x : AttemptId) (e : Epoch) → Contains added (x, e) → e.0 / 256 ≤ limit_over o v.lines v.issued
  pub told : (t : ℕ) (floor : Epoch) (cont : ContId) (reason : FloorWhy) → Any (ShowsFloor t floor cont reason) more → floor.0 / 256 ≤ limit_over o v.lines v.issued
  pub targets : (t : ℕ) (z : TargetState) → slice_get v.targets t ≡ Some z → (s : TargetState) × (slice_get w.targets t ≡ Some s) × FollowsOn r stored new (limit_over o v.lines v.issued) t s z
  pub floors : FloorsShown o v

module _ (r : Rules) (o : Opening) (stored new : Stored) (w v : World) (C : Causes r o stored w) (k : Continues r o stored new w v) where
  abbrev bound : ℕ
  bound = limit_over o v.lines v.issued

  rises : limit_over o w.lines w.issued ≤ bound
  rises = subst (λ ls. limit_over o w.lines w.issued ≤ limit_over o ls v.issued) (sym k.lines) (subst (λ is. limit_over o w.lines w.issued ≤ limit_over o (w.lines ++ k.more) is) (sym k.issued)
      (by (limit_over o w.lines w.issued) (limit_over o (w.lines ++ k.more) w.issued) (limit_over o (w.lines ++ k.more) (w.issued ++ k.added)) (limit-told o w.lines k.more w.issued) (limit-rises o (w.lines ++ k.more) w.issued k.added)))
    where
      by : (a b c : ℕ) → a ≤ b → b ≤ c → a ≤ c
      by a b c p q = omega (arith, p, q)

  up : {n : ℕ} → n ≤ limit_over o w.lines w.issued → n ≤ bound
  up {n = n} low = by (limit_over o w.lines w.issued) bound low rises
    where
      by : (a b : ℕ) → n ≤ a → a ≤ b → n ≤ b
      by a b p q = omega (arith, p, q)

  -- ticks, leases and blocks of one target
  ticks-at : (t : ℕ) (z : TargetState) → slice_get v.targets t ≡ Some z → z.life ≡ Running → z.memory.ticks ≤ bound
  ticks-at t z at runs = by (k.targets t z at)
    where
      sum : (a b c : ℕ) → a ≤ b → b ≤ c → a ≤ c
      sum a b c p q = omega (arith, p, q)

      by : (s : TargetState) × (slice_get w.targets t ≡ Some s) × FollowsOn r stored new bound t s z → z.memory.ticks ≤ bound
      by f = elim (f.2.ticks runs) [ inl y ↦ sum z.memory.ticks f.0.memory.ticks bound y.1 (up (C.bounded.ticks t f.0 f.1 y.0)) | inr low ↦ low ]

  lease-at : (t : ℕ) (z : TargetState) → slice_get v.targets t ≡ Some z → z.durable.lease ≤ bound + 65536
  lease-at t z at = by (k.targets t z at)
    where
      sum : (a b c d : ℕ) → a ≤ b → b ≤ c + 65536 → c ≤ d → a ≤ d + 65536
      sum a b c d p q s = omega (arith, p, q, s)

      by : (s : TargetState) × (slice_get w.targets t ≡ Some s) × FollowsOn r stored new bound t s z → z.durable.lease ≤ bound + 65536
      by f = elim f.2.lease [ inl y ↦ sum z.durable.lease f.0.durable.lease (limit_over o w.lines w.issued) bound y (C.bounded.leases t f.0 f.1) rises | inr low ↦ low ]

  space-at : (t : ℕ) (z : TargetState) → slice_get v.targets t ≡ Some z → o.free t ≤ z.free + blocks_of_stored r.script t (new ++ stored)
  space-at t z at =
      let f = k.targets t z at in
      sum (o.free t) (f.0.free + blocks_of_stored r.script t stored) (z.free + blocks_of_stored r.script t (new ++ stored)) (C.space t f.0 f.1) f.2.free
    where
      sum : (a b c : ℕ) → a ≤ b → b ≤ c → a ≤ c
      sum a b c p q = omega (arith, p, q)

  -- what is issued, and what lines tell of floors
  issued-at : (x : AttemptId) (e : Epoch) → Contains v.issued (x, e) → e.0 / 256 ≤ bound
  issued-at x e i = elim (has-cases w.issued k.added (x, e) (has-from_contains (w.issued ++ k.added) (x, e) (subst (λ is. Contains is (x, e)) k.issued i))) [
    | inl j ↦ up (C.bounded.issued x e (contains-from_has w.issued (x, e) j))
    | inr j ↦ k.dates x e (contains-from_has k.added (x, e) j)
  ]

  floors-at : (t : ℕ) (floor : Epoch) (cont : ContId) (reason : FloorWhy) → Any (ShowsFloor t floor cont reason) v.lines → floor.0 / 256 ≤ bound
  floors-at t floor cont reason i = by (subst (Any (ShowsFloor t floor cont reason)) k.lines i)
    where
      by : Any (ShowsFloor t floor cont reason) (w.lines ++ k.more) → floor.0 / 256 ≤ bound
      by j = elim (has-cases w.lines k.more j.1 (has-from_contains (w.lines ++ k.more) j.1 (j.0, j.2, j.3))) [
        | inl a ↦ up (C.bounded.floors t floor cont reason (any-of (ShowsFloor t floor cont reason) w.lines j.1 a j.4))
        | inr a ↦ k.told t floor cont reason (any-of (ShowsFloor t floor cont reason) k.more j.1 a j.4)
      ]

  -- ---- letters

  told-at : (l : Letter) (e : ℕ) → Contains v.messages l → Contains (epochs_told l.message) e → e / 256 ≤ bound
  told-at l e i j = elim (k.messages l i) [ inl old ↦ up (C.bounded.told l e old j) | inr new ↦ new.told e j ]

  still-open : (x by : AttemptId) → IsOpenTo r.script w.lines x by → IsOpenTo r.script v.lines x by
  still-open x by u = subst (λ ls. IsOpenTo r.script ls x by) (sym k.lines) (open-more r.script w.lines k.more x by (silent-others x.client k.more k.silent) u)

  undecided-at : (l : Letter) (x by : AttemptId) → Contains v.messages l → IsUndecidedFor l.message x by → IsPresent r v x → IsOpenTo r.script v.lines x by
  undecided-at l x by i u p = elim (k.messages l i) [
    | inl old ↦ still-open x by (C.waiting.undecided l x by old u (record { c = p.c; a = p.a; here = ap (λ cs. slice_get cs x.client) (sym k.clients) ∙ p.here; at = p.at; own = p.own }))
    | inr new ↦ new.undecided x by u
  ]

  asked-at : (l : Letter) (x : AttemptId) → Contains v.messages l → IsAskedFor l.message x → (e : Epoch) × Contains v.issued (x, e)
  asked-at l x i u = elim (k.messages l i) [
    | inl old ↦ (let e = C.waiting.asked l x old u in (e.0, subst (λ is. Contains is (x, e.0)) (sym k.issued) (more (x, e.0) e.1)))
    | inr new ↦ new.asked x u
  ]
    where
      more : (i : AttemptId × Epoch) → Contains w.issued i → Contains (w.issued ++ k.added) i
      more i j = Contains-append_left w.issued k.added i j

  shows-at : (l : Letter) → Contains v.messages l → MessageStands r o (new ++ stored) v.issued v.lines l.message
  shows-at l i = elim (k.messages l i) [
    | inl old ↦ subst (λ ls. MessageStands r o (new ++ stored) v.issued ls l.message) (sym k.lines) (subst (λ is. MessageStands r o (new ++ stored) is (w.lines ++ k.more) l.message) (sym k.issued)
        (message-more r o new stored w.issued k.added w.lines k.more l.message (λ x ends. silent-others x.client k.more k.silent) (C.flight l old)))
    | inr new' ↦ new'.shows
  ]

  lines-at : EachTry (λ before a. OutcomeStands r o (new ++ stored) v.issued before a.id a.outcome) v.lines
  lines-at = subst (EachTry (λ before a. OutcomeStands r o (new ++ stored) v.issued before a.id a.outcome)) (sym k.lines) (each-more (λ before a. OutcomeStands r o (new ++ stored) v.issued before a.id a.outcome) w.lines k.more k.silent
      (λ before a after e. subst (λ is. OutcomeStands r o (new ++ stored) is before a.id a.outcome) (sym k.issued)
      (subst (λ ls. OutcomeStands r o (new ++ stored) (w.issued ++ k.added) ls a.id a.outcome) (append-nil before)
      (outcome-more r o new stored w.issued k.added before [] a.id (none-of a.id.client) a.outcome (C.lines before a after e)))))

  meets-at : (t : ℕ) (z : TargetState) (p : Parked) (x : AttemptId) (e : Epoch) → slice_get v.targets t ≡ Some z → Contains z.memory.member.parked p → BearsEpoch p.ask x e → MeetsOther r v.issued x p.on
  meets-at t z p x e at i b =
      let f = k.targets t z at in
      elim (f.2.parked p i) [ inl was ↦ subst (λ is. MeetsOther r is x p.on) (sym k.issued) (meets-more r w.issued k.added x p.on (C.waiting.meets t f.0 p x e f.1 was b)) | inr reads ↦ absurd (none-borne p.ask x e reads b) ]

  pub continues-keep : Causes r o (new ++ stored) v
  continues-keep = record {
    bounded = record {
      ticks = ticks-at;
      trackers = λ n c at. up (C.bounded.trackers n c (ap (λ cs. slice_get cs n) (sym k.clients) ∙ at));
      issued = issued-at;
      told = told-at;
      floors = floors-at;
      leases = lease-at;
    };
    space = space-at;
    floors = k.floors;
    waiting = record {
      meets = meets-at;
      undecided = undecided-at;
      asked = asked-at;
      own = λ l x i u. elim (k.messages l i) [ inl old ↦ C.waiting.own l x old u | inr new ↦ new.own x u ];
    };
    flight = shows-at;
    lines = lines-at;
  }
