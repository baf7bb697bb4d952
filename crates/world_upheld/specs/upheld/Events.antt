-- Each event of any run keeps all that holds between events.
use Rattle.std.specs.Prelude.{ℕ, ◌≡◌, ◌<◌, List, [], length, Contains, slice_get, refl}
use Rattle.base_messages.specs.declared.message.Post.{Post}
use Rattle.std.proofs.Common.{inl, inr, sym, ◌∙◌, ap, subst}
use Rattle.daos_model.specs.declared.durable.Version.{Version}
use Rattle.daos_model.specs.Opening.{Opening, top}
use Rattle.model_laws.specs.Members.{contains-from_has, has-from_contains}
use Rattle.world_legal.specs.world_commit.attempts.History.{Grew, GrowsBy, History}
use Rattle.world_base.specs.declared.world.World.{World}
use Rattle.world_base.specs.Events.{ByClient, ByTarget, Rules, ToClient, ToTarget}
use Rattle.world_base.specs.Stops.{Draws, Fails, Further, GivenUp, Happening, IsCut, Opens, Plainly, WorldEvent, swept}
use Rattle.world_owners.specs.world_making.dates.Events.{events-dates}
use Rattle.world_letters.specs.endings.Events as ending
use Rattle.world_letters.specs.epochs.Epochs.{Epochs}
use Rattle.world_legal.specs.world_commit.fates.Asked.{AskedRight}
use Rattle.world_legal.specs.world_commit.fates.Facts.{Attempts}
use Rattle.world_owners.specs.world_making.fates.Events as fate
use Rattle.world_owners.specs.world_making.fates.Laws.{MakingsAreRight}
use Rattle.world_legal.specs.world_causes.firsts.Events as first
use Rattle.world_owners.specs.world_making.freezings.Freezings.{HaveOneEpoch}
use Rattle.world_owners.specs.world_making.freezings.Laws as freezing
use Rattle.world_legal.specs.world_causes.handing.Dates.{SnapshotsAreRead, epochs-of_commits}
use Rattle.world_legal.specs.world_causes.handing.Handing.{asked-right, asks-right, commits-of_clients, hands-over}
use Rattle.world_legal.specs.world_causes.handing.Places.{snapshots-read}
use Rattle.world_legal.specs.world_causes.hearing.Going.{AnswersAreServed, Before, GoesOn}
use Rattle.world_legal.specs.world_causes.handing.Groups.{groups-stay}
use Rattle.world_legal.specs.world_causes.hearing.HappeningEpochs.{events-keep-clients}
use Rattle.world_legal.specs.world_causes.hearing.Writing.{EntriesKnown}
use Rattle.world_letters.specs.lines.Lines.{Lines}
use Rattle.world_letters.specs.lives.Events as life
use Rattle.world_owners.specs.world_making.makers.Events as maker
use Rattle.world_legal.specs.world_causes.outcomes.Keeping.{IsOfTarget, IsUsual}
use Rattle.world_legal.specs.world_causes.outcomes.Laws as outcome
use Rattle.world_legal.specs.world_causes.outcomes.Outcomes.{Outcomes}
use Rattle.world_legal.specs.world_causes.outcomes.Premises.{LinesArePast}
use Rattle.world_owners.specs.world_making.prunings.Containers.{all-events-keep_makers}
use Rattle.world_owners.specs.world_making.prunings.Floors.{all-events-keep_floors}
use Rattle.world_owners.specs.world_making.prunings.MakingGots.{all-events-keep_gots}
use Rattle.world_owners.specs.world_making.prunings.MakingReads.{all-events-keep_reads}
use Rattle.world_owners.specs.world_making.prunings.Writing.{all-events-keep_entries}
use Rattle.world_owners.specs.world_making.questions.Events as question
use Rattle.world_legal.specs.world_commit.requests.Rows.{commits-find, leaders-know, rows-stay}
use Rattle.world_legal.specs.world_commit.requests.Staying.{requests-happen, requests-stay}
use Rattle.world_letters.specs.snapshots.Events as making
use Rattle.world_legal.specs.world_standing.standing.Clients.{ClientsSpeak}
use Rattle.world_legal.specs.world_standing.standing.Events.{TellsOn, aborts-grow, decided-issued, outcomes-on}
use Rattle.world_legal.specs.world_standing.standing.Telling.{lines-on, sweeping-tells}
use Rattle.world_legal.specs.world_commit.statuses.Events.{told_by}
use Rattle.world_legal.specs.world_commit.statuses.SenderLaws.{senders-stay}
use Rattle.world_letters.specs.waits.Happenings as wait
use Rattle.world_letters.specs.waits.Premises.{LeadersKnow, RequestsAreOfClients}
use Rattle.world_letters.specs.waits.Waits.{Conversation}
use Rattle.world_upheld.specs.upheld.Clients.{client-goes, client-hears}
use Rattle.world_upheld.specs.upheld.Heard.{HeardGrounds, all-heard_right}
use Rattle.world_upheld.specs.upheld.Telling.{all-targets_tell}
use Rattle.world_legal.specs.world_contents.reads.Given.{Given}
use Rattle.world_legal.specs.world_contents.reads.Growing.{committed_in, grown}
use Rattle.world_legal.specs.world_contents.reads.GrowLaws.{grown-grows}
use Rattle.world_upheld.specs.upheld.Upheld.{AllEventsKeepGrounds, AllEventsUphold, Contents, Grounds, GroundsGoOn, IsUpheldStill}
use Rattle.world_upheld.specs.upheld.Begins.{AreBefore}

-- ---- lines, and what is told of ends

module _ (r : Rules) (top : ℕ) (h later : History) (w u : World) (some : 0 < r.attempts) (speak : ClientsSpeak r top h w) (attempts : Attempts r h w) (usual : IsUsual r h later w u) where
  by-client : GrowsBy h [] later → ClientsSpeak r top h u → TellsOn r later u
  by-client grows k = record { lines = k.lines; outcomes = outcomes-on r h later u grows k.outcomes }

  by-target : (e : Happening r w u) → IsOfTarget e → GrowsBy h (told_by e) later → TellsOn r later u
  by-target e of_target grows =
      record { lines = lines-on r w u (all-targets_tell r h w u attempts e of_target) speak.lines; outcomes = outcome.happenings-keep r h later w u usual speak.outcomes e of_target grows }

  tells-on : (e : Happening r w u) → GrowsBy h (told_by e) later → TellsOn r later u
  tells-on (Plainly (ByClient g) up) grows = by-client grows (client-goes r top h some w u speak g)
  tells-on (Plainly (ToClient g) up) grows = by-client grows (client-hears r top h some w u speak g)
  tells-on (Plainly (ToTarget g) up) grows = by-target (Plainly (ToTarget g) up) tt grows
  tells-on (Plainly (ByTarget g) up) grows = by-target (Plainly (ByTarget g) up) tt grows
  tells-on (Further g) grows = by-target (Further g) tt grows
  tells-on (IsCut g) grows = by-target (IsCut g) tt grows
  tells-on (Opens g) grows = by-target (Opens g) tt grows
  tells-on (Fails g) grows = by-target (Fails g) tt grows
  tells-on (GivenUp g) grows = by-target (GivenUp g) tt grows
  tells-on (Draws g) grows = by-target (Draws g) tt grows

-- ---- as many targets as before

happening-many : (r : Rules) (w v : World) → Happening r w v → length v.targets ≡ length w.targets
happening-many r w v e = elim (life.happening-adds r w v e) [ inl adds ↦ adds.few | inr drawn ↦ ap (λ u. length u.targets) drawn.1.after ]

pub event-many : (r : Rules) (w v : World) → WorldEvent r w v → length v.targets ≡ length w.targets
event-many r w v e = ap (λ x. length x.targets) e.after ∙ happening-many r w e.u e.happens

-- ---- one event

-- that what is heard is right rests on nothing that was held before the run
pub nothing_held : ℕ → List Version
nothing_held t = []

none-before : (o : Opening) → AreBefore o nothing_held
unfolding nothing_held
none-before o t z i = absurd (has-from_contains [] z i)

pub given-before : (r : Rules) (o : Opening) (h : History) (w : World) → HeardGrounds r o h w → Given r o nothing_held w
given-before r o h w k = all-heard_right r o nothing_held h w (none-before o) k

-- what is asked of targets is right, and no attempt has two epochs
pub asked-so : (r : Rules) (o : Opening) (h : History) (w : World) → Grounds r o h w → AskedRight r h w
asked-so r o h w k =
    asked-right r h w k.heard.talk k.heard.requests k.heard.stand k.outcomes (epochs-of_commits r (top o) w k.heard.talk k.heard.requests k.heard.stand (snapshots-read r r.script.targets k.heard.form) k.heard.epochs)

module _ (r : Rules) (o : Opening) (h later : History) (w v : World) (some : 0 < r.attempts) (k : Grounds r o h w) (e : WorldEvent r w v) (grows : GrowsBy h (told_by e.happens) later) where
  abbrev pub u : World
  u = e.u

  alone : SnapshotsAreRead r
  alone = snapshots-read r r.script.targets k.heard.form

  pub right : AskedRight r h w
  right = asked-so r o h w k

  -- ---- once it happened

  makings-right : MakingsAreRight r w
  makings-right = record { makings = k.heard.makings; makers = k.makers; requests = k.heard.requests }

  pub attempts-happened : Attempts r later u
  attempts-happened = fate.happening-keeps r h later w e.u right k.senders makings-right k.heard.attempts e.happens grows

  pub requests-happened : RequestsAreOfClients u
  requests-happened = requests-happen r w e.u k.heard.requests e.happens

  leaders : LeadersKnow r w
  leaders = leaders-know r h w k.heard.attempts k.rows

  pub talk-happened : Conversation r u
  talk-happened = wait.happenings-keep r w e.u k.heard.requests leaders e.happens k.heard.talk

  epochs-then : Epochs r (top o) v
  epochs-then = events-dates r (top o) h w v some alone k.heard.requests k.heard.talk k.heard.attempts k.heard.makings k.heard.stand k.heard.epochs e

  -- clients are past the attempts that lines tell of, and what is lost then changes neither
  past-happened : LinesArePast u
  past-happened a c i here =
      let same = sweeping-tells e.u in
      let swept-epochs : Epochs r (top o) (swept e.u) = subst (Epochs r (top o)) e.after epochs-then in
      swept-epochs.past a c (subst (λ ts. Contains ts a) (sym same.tries) i) (ap (λ cs. slice_get cs a.id.client) same.clients ∙ here)

  -- what clients hold, and what lines and ends tell
  speak : ClientsSpeak r (top o) h w
  speak = record { talk = k.heard.talk; endings = k.endings; lines = k.lines; epochs = k.heard.epochs; issued = decided-issued r h w k.heard.attempts; outcomes = k.outcomes }

  -- what an event of a target leaves
  usual : IsUsual r h later w u
  usual = record {
    attempts = k.heard.attempts;
    attempts_then = attempts-happened;
    hands = hands-over r w k.heard.talk k.heard.requests;
    commits_then = commits-of_clients e.u requests-happened;
    past = λ a c i here. k.heard.epochs.past a c i here;
    asks = asks-right r w k.heard.talk k.heard.requests k.heard.stand;
    makers = maker.makers-write r w k.heard.makings k.makers;
  }

  pub told : TellsOn r later u
  told = tells-on r (top o) h later w e.u some speak k.heard.attempts usual e.happens grows

  one-epoch : HaveOneEpoch w
  one-epoch x a b i j = k.heard.epochs.one x a b (contains-from_has w.issued (x, a) i) (contains-from_has w.issued (x, b) j)

  -- what is heard is right
  pub given : Given r o nothing_held w
  given = given-before r o h w k.heard

  -- which attempts have entries
  entries-known : EntriesKnown r o nothing_held h w
  entries-known = record { given = given; attempts = k.heard.attempts; writes = k.writes }

  -- ---- once what goes to targets that are given up is lost

  heard-then : HeardGrounds r o later v
  heard-then = record {
    form = k.heard.form;
    few = k.heard.few;
    many = event-many r w v e ∙ k.heard.many;
    talk = wait.events-keep r w v k.heard.requests leaders e k.heard.talk;
    requests = requests-stay r w v e k.heard.requests;
    stand = events-keep-clients r h w v some k.heard.attempts k.heard.stand e;
    within = groups-stay r w v e k.heard.within;
    epochs = epochs-then;
    attempts = fate.all-events_keep r h later w v right k.senders makings-right k.heard.attempts e grows;
    questions = question.all-events-keep-questions r h later w v right k.heard.attempts e (aborts-grow r h later w e.u e.happens grows) attempts-happened k.heard.questions;
    makings = (making.event-keeps r some w v e k.endings k.heard.stand k.heard.makings).1;
    freezings =
        freezing.events-keep r o some k.heard.few w v k.heard.many one-epoch k.heard.makings k.endings k.heard.stand k.heard.requests leaders k.heard.talk e k.heard.freezings;
  }

  pub grounds-then : Grounds r o later v
  grounds-then = record {
    heard = heard-then;
    makers = maker.event-keeps r w v e k.endings k.heard.makings k.makers;
    known = all-events-keep_makers r w v e k.known;
    senders = senders-stay r w v k.senders e;
    rows = rows-stay r h w v k.heard.attempts (commits-find r h w k.heard.attempts right) e k.rows;
    endings = ending.event-keeps r w v e k.endings;
    lines = subst (Lines r) (sym e.after) (lines-on r e.u (swept e.u) (sweeping-tells e.u) told.lines);
    outcomes = subst (Outcomes r later) (sym e.after) (outcome.sweeping-keeps r later e.u (hands-over r e.u talk-happened requests-happened) past-happened told.outcomes);
    writes = all-events-keep_entries r o nothing_held h w v entries-known e;
    floors = all-events-keep_floors r w v e o k.floors;
    firsts = first.event-keeps r (top o) some w v e k.heard.stand k.heard.epochs k.firsts;
    lives = life.event-keeps r w v e k.lives;
  }

pub all-events-keep_grounds : AllEventsKeepGrounds
all-events-keep_grounds r o h later w v some k e grows = grounds-then r o h later w v some k e grows

-- the history of what is told, besides what was
pub later-with : History → List Post → History
later-with h posts = grown h (committed_in posts) posts []

pub grows-with : (h : History) (posts : List Post) → GrowsBy h posts (later-with h posts)
unfolding later-with
grows-with h posts = grown-grows h (committed_in posts) posts [] refl

pub grounds-go_on : GroundsGoOn
grounds-go_on r o h w v some k e =
    let grows = grows-with h (told_by e.happens) in
    record { later = later-with h (told_by e.happens); grows = grows; grounds = grounds-then r o h (later-with h (told_by e.happens)) w v some k e grows }

-- ---- what targets keep and answer

module _ (r : Rules) (o : Opening) (held : ℕ → List Version) (h : History) (w v : World) (some : 0 < r.attempts) (before : AreBefore o held) (k : Grounds r o h w) (c : Contents r o held h w) (e : WorldEvent r w v) where
  at-event : Before r o held h w
  at-event = record {
    given = all-heard_right r o held h w before k.heard;
    right = asked-so r o h w k;
    senders = k.senders;
    attempts = k.heard.attempts;
    writes = k.writes;
    versions = c.versions;
    reads = c.reads;
  }

  pub go : GoesOn r o held h v (told_by e.happens) (AnswersAreServed e.happens)
  go = all-events-keep_reads r o held h w v at-event (record { epochs = k.heard.epochs; makings = k.heard.makings; known = k.known }) e

  abbrev pub later-so : History
  later-so = go.later

  pub contents-then : Contents r o held go.later v
  contents-then = record {
    gots =
        all-events-keep_gots r h go.later w v some go.served k.heard.talk k.senders k.heard.attempts k.heard.stand c.gots e
        (talk-happened r o h go.later w v some k e go.grows) go.also;
    versions = go.versions;
    reads = go.reads;
  }

  pub grew : Grew h go.later
  grew = record { decided = λ i j. go.grows.decided i.0 i.1 j; aborted = λ x j. go.grows.aborted x j; served = go.served }

  pub upholds : IsUpheldStill r o held h (told_by e.happens) v
  upholds = record { later = go.later; grows = go.grows; grew = grew; upheld = record { grounds = grounds-then r o h go.later w v some k e go.grows; contents = contents-then } }

pub all-events-uphold : AllEventsUphold
all-events-uphold r o held h w v some before k e = upholds r o held h w v some before k.grounds k.contents e
