-- Any run begins with all that every event keeps; so it holds at each moment.
use Rattle.std.specs.Prelude.{ℕ, ◌≡◌, ◌≤◌, true, All, List, [], filter, length, slice_get, Contains, Option, Some, None, refl}
use Rattle.std.proofs.Common.{inl, sym, ◌∙◌, ap, subst, arith}
use Rattle.std.proofs.lemmas.List.Elements.{All-nil}
use Rattle.base_types.specs.declared.script.Command.{Command}
use Rattle.daos_model.specs.Attempts.{is_of_client, tries}
use Rattle.daos_model.specs.Opening.{Opening, top}
use Rattle.daos_model.specs.Ordered.{is_rising}
use Rattle.dtx_base.specs.Leading.{undecided_attempt}
use Rattle.dtx_base.specs.Rows.{row_key}
use Rattle.model_laws.specs.Lists.{none-in}
use Rattle.model_laws.specs.Members.{Has, has-from_contains}
use Rattle.world_legal.specs.world_commit.asks.Entries.{mapped}
use Rattle.world_legal.specs.world_commit.attempts.History.{History}
use Rattle.world_base.specs.declared.client.ClientState.{ClientState}
use Rattle.world_base.specs.declared.client.Present.{Present}
use Rattle.world_base.specs.declared.target.TargetState.{TargetState}
use Rattle.world_base.specs.declared.world.World.{World}
use Rattle.world_base.specs.ClientTurns.{is_waiting}
use Rattle.world_base.specs.Events.{Rules, client_plan}
use Rattle.world_base.specs.Stops.{Begins, Goes, WorldRun}
use Rattle.world_legal.specs.world_causes.causes.Shown.{FloorsShown, IsOfBefore}
use Rattle.world_letters.specs.clients.Answered.{EndsAsAnswered, IsAnsweredHere, ops_here}
use Rattle.world_letters.specs.clients.MoveLaws.{clients-begin}
use Rattle.base_types.specs.declared.epoch.Epoch.{Epoch}
use Rattle.base_types.specs.declared.id.AttemptId.{AttemptId}
use Rattle.world_letters.specs.clients.Snapshots.{is_at_snapshot}
use Rattle.world_letters.specs.epochs.Epochs.{IsEpochOf}
use Rattle.world_letters.specs.epochs.EventLaws.{epochs-begin}
use Rattle.world_owners.specs.world_making.freezings.Seeing.{SeesFrozen, readers-see}
use Rattle.world_legal.specs.world_commit.fates.Keeping.{HasNoneYet}
use Rattle.world_legal.specs.world_commit.fates.KeepingLaws.{attempts-begin}
use Rattle.world_legal.specs.world_causes.firsts.Events.{firsts-begin}
use Rattle.world_owners.specs.world_making.freezings.Events.{freezings-begin}
use Rattle.world_legal.specs.world_contents.gots.Gots.{Gots, IsLineServed}
use Rattle.world_legal.specs.world_causes.handing.Groups.{ClientsAskWithin, IsWithin}
use Rattle.world_legal.specs.world_causes.hearing.Writing.{entries-begin}
use Rattle.world_letters.specs.lines.Lines.{AreTheSame, HasLines, Lines}
use Rattle.world_letters.specs.lives.Events.{lives-begin}
use Rattle.world_owners.specs.world_making.makers.Events.{makers-begin}
use Rattle.world_legal.specs.world_causes.outcomes.Laws.{outcomes-begin}
use Rattle.world_owners.specs.world_making.prunings.Containers.{declared-known}
use Rattle.world_legal.specs.world_commit.questions.Happening.{questions-begin}
use Rattle.world_legal.specs.world_contents.reads.Given.{Given}
use Rattle.world_legal.specs.world_contents.reads.Reads.{Reads}
use Rattle.world_legal.specs.world_contents.reads.Versions.{Versions, VersionsStand}
use Rattle.world_legal.specs.world_commit.requests.Staying.{requests-begin}
use Rattle.world_letters.specs.snapshots.Events.{makings-begin}
use Rattle.world_letters.specs.waits.Events.{conversations-begin}
use Rattle.world_letters.specs.waits.Premises.{WaitersAreClients}
use Rattle.world_letters.specs.waits.Waits.{HoldsNothing}
use Rattle.world_legal.specs.closing.Kept.{get-map}
use Rattle.world_upheld.specs.upheld.Clients.{lines-stand}
use Rattle.world_upheld.specs.upheld.BeginKnown.{known-first}
use Rattle.world_upheld.specs.upheld.Begins.{AreRulesInForm, RunBeginsWell, RunBeginsWith, StartsWell, client_begins, held_at, no_history, versions_in, AreBefore}
use Rattle.world_upheld.specs.upheld.BeginVersions.{begins-well, frozen-before, versions-stand_first}
use Rattle.world_upheld.specs.upheld.Events.{all-events-uphold, grounds-go_on}
use Rattle.world_upheld.specs.upheld.Heard.{HeardGrounds, all-heard_right}
use Rattle.world_upheld.specs.upheld.Upheld.{Contents, Grounds, Upheld}

-- ---- the statements

-- a run of a script in form that begins well has its grounds, of nothing decided, aborted or served
abbrev pub RunsBeginWithGrounds : Type 0
RunsBeginWithGrounds = (r : Rules) (o : Opening) (w : World) → AreRulesInForm r → RunBeginsWell r o w → Grounds r o no_history w

-- and at each moment, of what was decided and aborted by then
abbrev pub RunsHaveGrounds : Type 0
RunsHaveGrounds = (r : Rules) (o : Opening) (w v : World) → AreRulesInForm r → RunBeginsWell r o w → WorldRun r w v → (h : History) × Grounds r o h v

-- one that stands for the opening begins well
abbrev pub StandingRunsBeginWell : Type 0
StandingRunsBeginWell = (r : Rules) (o : Opening) (w : World) → RunBeginsWith r o w → RunBeginsWell r o w

-- a run that stands for the opening begins with all, of nothing decided, aborted or served
abbrev pub RunsBeginUpheld : Type 0
RunsBeginUpheld = (r : Rules) (o : Opening) (w : World) → AreRulesInForm r → RunBeginsWith r o w → Upheld r o (held_at w) no_history w

-- and it holds at each moment of the run, of what was decided, aborted and served by then
abbrev pub RunsAreUpheld : Type 0
RunsAreUpheld = (r : Rules) (o : Opening) (w v : World) → AreRulesInForm r → RunBeginsWith r o w → WorldRun r w v → (h : History) × Upheld r o (held_at w) h v

-- so what targets hear is right at each moment
abbrev pub RunsHearAllRightly : Type 0
RunsHearAllRightly = (r : Rules) (o : Opening) (w v : World) → AreRulesInForm r → RunBeginsWith r o w → WorldRun r w v → Given r o (held_at w) v

-- and each attempt that reads at a snapshot, at its epoch, reads at one that is frozen at every target
abbrev pub RunsReadFrozen : Type 0
RunsReadFrozen =
    (r : Rules) (o : Opening) (w v : World) → AreRulesInForm r → RunBeginsWell r o w → WorldRun r w v → (x : AttemptId) (e : Epoch) → is_at_snapshot r x ≡ true → IsEpochOf r v x e
    → SeesFrozen r o v x e

-- ---- the beginning

module _ (r : Rules) (o : Opening) (w : World) (A : AreRulesInForm r) (B : RunBeginsWell r o w) where
  starts : (t : ℕ) (s : TargetState) → slice_get w.targets t ≡ Some s → StartsWell t o s
  starts = B.starts

  leads-none : (t : ℕ) (s : TargetState) → slice_get w.targets t ≡ Some s → (s.memory.leader.undecided ≡ []) × (s.memory.leader.decided ≡ [])
  leads-none t s here = let k = (starts t s here).leader in (ap (λ m. m.undecided) k, ap (λ m. m.decided) k)

  parks-none : (t : ℕ) (s : TargetState) → slice_get w.targets t ≡ Some s → s.memory.member.parked ≡ []
  parks-none t s here = ap (λ m. m.parked) (starts t s here).member

  -- each client is at its beginning
  client-is : (n : ℕ) (c : ClientState) → slice_get w.clients n ≡ Some c → (list : List Command) × (client_begins r o w list ≡ c)
  client-is n c here =
      let x = mapped (client_begins r o w) (slice_get r.script.clients n) c (sym (get-map (client_begins r o w) r.script.clients n) ∙ ap (λ cs. slice_get cs n) (sym B.clients) ∙ here) in
      (x.0, x.2)

  pub idle : (n : ℕ) (c : ClientState) → slice_get w.clients n ≡ Some c → c.present ≡ None
  idle n c here = sym (ap (λ z. z.present) (client-is n c here).1)

  no-attempt : {T : Type 0} (n : ℕ) (c : ClientState) (a : Present) → slice_get w.clients n ≡ Some c → c.present ≡ Some a → T
  no-attempt n c a here at = let none : c.present ≡ None = idle n c here in let no : ⊥ = cc in absurd no

  pub no-tries : tries w.lines ≡ []
  unfolding tries
  no-tries = ap tries B.lines

  lines-begin : Lines r w
  lines-begin = record {
    told = λ n c here. told n c (idle n c here) (client-is n c here);
    nobody = λ n none. ap (filter (is_of_client n)) no-tries;
  }
    where
      told : (n : ℕ) (c : ClientState) → c.present ≡ None → (list : List Command) × (client_begins r o w list ≡ c) → HasLines (client_plan r n) n c w.lines
      told n c none x = record {
        attempts = [];
        tells = record {
          told = clients-begin (client_plan r n) c (sym (ap (λ z. z.place) x.1)) (sym (ap (λ z. z.command) x.1)) none;
          answers = record { ended = All-nil (EndsAsAnswered (client_plan r n)); here = subst (IsAnsweredHere (ops_here (client_plan r n) c)) (sym none) tt };
        };
        same = subst (AreTheSame []) (sym (ap (filter (is_of_client n)) no-tries)) tt;
      }

  none-yet : HasNoneYet no_history w
  none-yet = record {
    none = record {
      decided = refl;
      aborted = refl;
      messages = B.messages;
      targets = λ t s here. record { entries = (starts t s here).keeps.entries; undecided = (leads-none t s here).0; decided = (leads-none t s here).1 };
    };
    asked = B.asked;
    quiet = λ t s here off. absurd (off (starts t s here).runs);
  }

  holds-none : (t : ℕ) (s : TargetState) → slice_get w.targets t ≡ Some s → HoldsNothing s.memory
  holds-none t s here = record { parked = parks-none t s here; undecided = (leads-none t s here).0; collecting = (starts t s here).collecting }

  waiters-begin : (t : ℕ) (s : TargetState) → slice_get w.targets t ≡ Some s → WaitersAreClients s.memory
  waiters-begin t s here = let k = holds-none t s here in record { rows = λ u c i. absurd (subst (Has u) k.undecided i); collecting = λ c i. absurd (subst (Has c) k.collecting i) }

  few-targets : length w.targets ≤ 256
  few-targets = let k : r.script.targets ≤ 64 = A.few_targets in let m : length w.targets ≡ r.script.targets = B.targets in omega (arith, k, m)

  same-low : (n : ℕ) → n ≤ n
  same-low n = omega arith

  within-begins : ClientsAskWithin r w
  within-begins n c here = subst (IsWithin (client_plan r n) c) (sym (idle n c here)) tt

  heard-begins : HeardGrounds r o no_history w
  heard-begins = record {
    form = A.form;
    few = A.few_targets;
    many = B.targets;
    talk = conversations-begin r w B.messages B.asked holds-none (λ n c here. ap is_waiting (idle n c here));
    requests = requests-begin w B.messages B.asked waiters-begin;
    stand = lines-stand r w lines-begin;
    epochs = epochs-begin r (top o) w (record {
      few = few-targets;
      messages = B.messages;
      issued = B.issued;
      lines = B.lines;
      entries = λ t s here. (starts t s here).keeps.entries;
      parked = λ t s here. parks-none t s here;
      clients = λ n c here. (idle n c here, subst (λ z. top o ≤ z.tracker.0) (client-is n c here).1 (same-low (top o)));
    });
    within = within-begins;
    attempts = attempts-begin r no_history w none-yet;
    questions = questions-begin r no_history w (record {
      messages = B.messages;
      waits = λ t s here. record { named = ap (λ m. m.named) (starts t s here).leader; parked = parks-none t s here; inquiries = ap (λ m. m.inquiries) (starts t s here).member };
      undecided = λ t s here. (leads-none t s here).0;
    });
    makings = makings-begin r w B.messages B.asked B.lines (λ t s here. (starts t s here).collecting);
    freezings =
        freezings-begin r o w B.messages B.lines (λ t s here. (starts t s here).collecting) B.frozen
        (λ t s c e here is. frozen-before o s.durable (starts t s here).keeps c e is)
        (λ n c k here i. known-first r o w A B n (slice_get w.targets 0) refl k (subst (λ z. Has k z.known) (sym (client-is n c here).1) i)) idle;
  }

  floors-begin : FloorsShown o w
  floors-begin = record {
    opening = λ t s c here runs. IsOfBefore (starts t s here).floor;
    leased = λ t s here runs. inl (starts t s here).floor;
    stored = λ t s c here. inl (IsOfBefore ((starts t s here).keeps.floors c).0);
    aggregated = λ t s c here. IsOfBefore ((starts t s here).keeps.floors c).1;
  }

  pub grounds-begin : Grounds r o no_history w
  grounds-begin = record {
    heard = heard-begins;
    makers = makers-begin r w B.messages B.asked;
    known = declared-known r w A.form B.enlisted;
    senders = λ l i. absurd (subst (Has l) B.messages i);
    rows = λ t s here. ap (is_rising (row_key undecided_attempt)) (leads-none t s here).0;
    endings = λ l i. absurd (none-in w.messages l B.messages i);
    lines = lines-begin;
    outcomes = outcomes-begin r no_history w none-yet B.lines;
    writes = entries-begin r w (λ t s here. (starts t s here).keeps.entries);
    floors = floors-begin;
    firsts = firsts-begin r w idle B.messages parks-none;
    lives = lives-begin w B.lines (λ t s here. (starts t s here).runs);
  }

-- ---- what targets keep, and what they answered

module _ (r : Rules) (o : Opening) (w : World) (A : AreRulesInForm r) (B : RunBeginsWith r o w) where
  well : RunBeginsWell r o w
  well = begins-well r o w B

  gots-begin : Gots r no_history w
  gots-begin = record {
    present = λ n c a here at. no-attempt r o w A well n c a here at;
    lines = subst (All (IsLineServed r no_history)) (sym (no-tries r o w A well)) (All-nil (IsLineServed r no_history));
    flying = λ n c a l x op group own b here at i. absurd (none-in w.messages l B.messages i);
  }

  versions-begin : Versions r o (held_at w) no_history w
  versions-begin = record {
    stand =
        λ t s here. subst (λ vs. VersionsStand r o vs no_history t s.durable) (sym (ap versions_in here))
        (versions-stand_first r o t s.durable (B.starts t s here).opens (B.snapshots t s here));
    apart = record { apart = λ i j d lt within. absurd (omega (arith, lt, within)); numbered = All-nil _ };
    issued = λ x e i. absurd i;
    written = λ x e i. absurd i;
  }

  reads-begin : Reads r o no_history w
  reads-begin = record {
    asked = λ q i. absurd i;
    form = λ q i. absurd i;
    issued = λ q i. absurd i;
    answers = λ q i. absurd i;
    guarded = λ q s i. absurd i;
    leased = λ q s i. absurd i;
    barred = λ q s v i. absurd i;
    stamps = λ t s z here runs i. absurd (none-in s.memory.stamps z (B.starts t s here).stamps i);
  }

  pub contents-begin : Contents r o (held_at w) no_history w
  contents-begin = record { gots = gots-begin; versions = versions-begin; reads = reads-begin }

  pub upheld-begins : Upheld r o (held_at w) no_history w
  upheld-begins = record { grounds = grounds-begin r o w A well; contents = contents-begin }

  -- what targets held then is of before the run
  pub held-first : AreBefore o (held_at w)
  held-first t z i = by (slice_get w.targets t) refl i
    where
      by : (s : Option TargetState) → slice_get w.targets t ≡ s → Contains (versions_in s) z → z.epoch.0 ≤ top o
      by None none j = absurd (has-from_contains [] z j)
      by (Some s) here j = ((B.starts t s here).opens.covered z j).0

-- ---- runs

pub runs-have_grounds : RunsHaveGrounds
runs-have_grounds r o w v A B Begins = (no_history, grounds-begin r o w A B)
runs-have_grounds r o w v A B (Goes u x run e) = let k = runs-have_grounds r o w u A B run in let s = grounds-go_on r o k.0 u v A.some_attempt k.1 e in (s.later, s.grounds)

pub runs-are_upheld : RunsAreUpheld
runs-are_upheld r o w v A B Begins = (no_history, upheld-begins r o w A B)
runs-are_upheld r o w v A B (Goes u x run e) =
    let k = runs-are_upheld r o w u A B run in
    let s = all-events-uphold r o (held_at w) k.0 u v A.some_attempt (held-first r o w A B) k.1 e in
    (s.later, s.upheld)

pub runs-hear_all_rightly : RunsHearAllRightly
runs-hear_all_rightly r o w v A B run = let k = runs-are_upheld r o w v A B run in all-heard_right r o (held_at w) k.0 v (held-first r o w A B) k.1.grounds.heard

pub runs-read_frozen : RunsReadFrozen
runs-read_frozen r o w v A B run x e at of = let k = runs-have_grounds r o w v A B run in readers-see r o v k.1.heard.freezings k.1.heard.makings k.1.heard.epochs x e at of
