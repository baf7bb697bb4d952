-- Everything that happens keeps the conversations of clients.
use Rattle.std.specs.Prelude.{ℕ, ◌≡◌, ◌==◌, ◌&&◌, Bool, true, false, List, [], Option, Some, None, refl}
use Rattle.std.proofs.Common.{sym, ◌∙◌, ap, subst}
use Rattle.base_types.specs.declared.id.AttemptId.{AttemptId}
use Rattle.base_types.specs.declared.epoch.Epoch.{Epoch}
use Rattle.base_types.specs.declared.operation.MinorWrite.{MinorWrite}
use Rattle.base_types.specs.declared.operation.Read.{Read}
use Rattle.base_types.specs.declared.outcome.Outcome.{Outcome}
use Rattle.base_messages.specs.declared.actor.ActorId.{ActorId}
use Rattle.base_messages.specs.declared.message.Message.{Message, more_of-Message}
use Rattle.base_messages.specs.declared.message.Message.TheVariants as message
use Rattle.base_messages.specs.declared.message.Post.{Post}
use Rattle.daos_model.specs.Ordered.{is_rising}
use Rattle.world_base.specs.dtx_base.Leading.{undecided_attempt}
use Rattle.world_base.specs.dtx_base.Rows.{row_key}
use Rattle.world_base.specs.model_laws.Members.{Has}
use Rattle.world_base.specs.declared.did.Did.{Did}
use Rattle.world_base.specs.declared.request.CommitRequest.{CommitRequest}
use Rattle.world_base.specs.declared.request.FetchRequest.{FetchRequest}
use Rattle.world_base.specs.declared.target.TargetMemory.{TargetMemory}
use Rattle.world_base.specs.declared.target.TargetPlan.{TargetPlan}
use Rattle.world_base.specs.declared.world.World.{World}
use Rattle.world_base.specs.ClientTurns.{request_of}
use Rattle.world_base.specs.Events.{ByClient, ByTarget, RightEvent, Rules, TargetHearsBy, TargetHearsRightly, ToClient, ToTarget, kept, right-event, target_after, target_plan}
use Rattle.world_base.specs.Further.{HearsFurther, reset_by}
use Rattle.world_base.specs.Letters.{client, is_talk_of, is_tell, target}
use Rattle.world_base.specs.PathLaws.{reached-keeps}
use Rattle.world_base.specs.Reads as read
use Rattle.world_base.specs.RightTurns.{HearsRightly}
use Rattle.world_base.specs.Roles.{is_in_doubt}
use Rattle.world_base.specs.Statuses.{ask_left, status_left, status_refusal}
use Rattle.world_base.specs.Stops.{Draws, Fails, Further, GivenUp, Happening, HearsMore, IsCut, Opens, Plainly, WorldEvent}
use Rattle.world_base.specs.TargetTurns.{Hearing, commit_request, fetch_request}
use Rattle.world_letters.specs.talks.Asked.{commit_of}
use Rattle.world_letters.specs.talks.Conversation.{Answers}
use Rattle.world_letters.specs.talks.LeaveLaws.{CommitLeaves, FetchLeaves, HasOwn, commit-leaves, fetch-leaves, own-goes}
use Rattle.world_letters.specs.talks.TalkLaws.{taken-is-among}
use Rattle.world_base.specs.model_laws.Members.{has-from_contains}
use Rattle.world_letters.specs.waits.ClientLaws.{goes-keeps, hears-keeps}
use Rattle.world_letters.specs.waits.CollectionTurns.{CollectLeaves, aggregate-leaves, collect-off, collect-on, freeze-leaves, freeze-reset, held-turns, prune-leaves, prune-reset, snap-leaves}
use Rattle.world_letters.specs.waits.Events.{cut-keeps, drawing-keeps, failing-keeps, given_up-keeps, opening-keeps, sweep-keeps}
use Rattle.world_letters.specs.waits.Heard.{collects-own, request-is}
use Rattle.world_letters.specs.waits.Requests.{IsWhatIsAsked, from-target, is_request, of-none}
use Rattle.world_letters.specs.waits.LeaderTurns.{ack-turns}
use Rattle.world_letters.specs.waits.Parts.{Holding, Leaves, LeavesOut, Passes, its-own, passes-one, told-one_off, turns-asked}
use Rattle.world_letters.specs.waits.Passing.{Goes, TurnsFor, question-of, told_to, turning-keeps}
use Rattle.world_letters.specs.waits.Premises.{LeadersKnow, RequestsAreOfClients}
use Rattle.world_letters.specs.waits.RequestTurns.{commit-collects, commit-off, commit-on, down-leaves, fetch-collects, fetch-off, fetch-on, stands-itself}
use Rattle.world_letters.specs.waits.ResetTurns.{reset-passes}
use Rattle.world_letters.specs.waits.StopTurns.{ask-off, ask-on, nothing-changes}
use Rattle.world_letters.specs.waits.TargetLaws.{between-hears, idle-keeps, is_between}
use Rattle.world_letters.specs.waits.VerdictTurns.{stands-one, verdict-turns}
use Rattle.world_letters.specs.waits.Waits.{Conversation, held_by}

-- ---- a target hears

module _ (Turn : Hearing) (r : Rules) (w v : World) (requests : RequestsAreOfClients w) (k : Conversation r w) (g : TargetHearsBy Turn r w v) where
  abbrev m : TargetMemory
  m = g.s.memory

  -- what goes on for each client goes on
  pub goes-each : ((n : ℕ) → TurnsFor n g.t g.l m g.memory g.did.posts) → Conversation r v
  goes-each turns = turning-keeps r w v (record {
    t = g.t;
    s = g.s;
    z = target_after g.s g.new g.memory;
    l = g.l;
    rest = g.rest;
    posts = g.did.posts;
    here = g.here;
    runs = g.runs;
    takes = g.takes;
    to_it = g.to_it;
    clients = ap (λ x. x.clients) g.after;
    targets = ap (λ x. x.targets) g.after;
    messages = ap (λ x. x.messages) g.after;
    asked = ap (λ x. x.asked) g.after;
    turns = turns;
  }) k

  among : Has g.l w.messages
  among = has-from_contains w.messages g.l (taken-is-among w.messages g.l g.rest g.takes)

  -- what is no client's request
  module _ (none : is_request g.l.message ≡ false) (no_tell : is_tell g.l.message ≡ false) where
    off-all : (n : ℕ) → is_talk_of n g.l ≡ false
    off-all n = of-none r w k g.l g.rest g.takes g.t g.to_it none no_tell n

    pub of-target : g.l.from.client ≡ false
    of-target = from-target r w k g.l g.rest g.takes g.t g.to_it none no_tell

    pub passes-all : ((n : ℕ) → Holding n g.t m → Passes n g.t m g.memory g.did.posts) → Conversation r v
    passes-all passes = goes-each (λ n. passes-one n g.t g.l m g.memory g.did.posts (off-all n) (passes n))

  -- a client's request
  module _ (asks : is_request g.l.message ≡ true) (no_tell : is_tell g.l.message ≡ false) where
    abbrev j : ℕ
    j = g.l.from.number

    its : IsWhatIsAsked r w j g.l × (g.l.from ≡ client j)
    its = request-is r w k g.l g.rest g.takes g.t g.to_it requests asks among

    -- the attempt is of that client
    pub own-attempt : (x : AttemptId) → request_of g.l.message ≡ Some x → x.client ≡ j
    own-attempt x is = its-own j its.0.q x (question-of r j its.0.c its.0.q its.0.now its.0.question) (ap (λ l. request_of l.message) (sym its.0.is) ∙ is)

    pub as-sent : (P : ActorId → Type 0) → P g.l.from → P (client j)
    as-sent P h = subst P its.1 h

    pub asked-all : ((n : ℕ) → (j == n) ≡ false → Holding n g.t m → LeavesOut n g.t m g.memory g.did.posts)
        → ((s : Post) → s.to ≡ target g.t → s.message ≡ g.l.message → held_by j g.t m ≡ [] → Goes s (told_to j g.did.posts) (held_by j g.t g.memory)) → Conversation r v
    asked-all leaves goes =
        goes-each (turns-asked j g.t g.l m g.memory g.did.posts its.1 g.to_it no_tell leaves (λ s of is free. goes s (sym (ap (λ l. l.to) is) ∙ g.to_it) (sym (ap (λ l. l.message) is)) free))

-- ---- as without stops

module _ (r : Rules) (w v : World) (requests : RequestsAreOfClients w) (leaders : LeadersKnow r w) (k : Conversation r w) (g : TargetHearsRightly r w v) where
  rising : is_rising (row_key undecided_attempt) g.s.memory.leader.undecided ≡ true
  rising = leaders.rows g.t g.s g.here

  hears-fetch : (x : AttemptId) (op group : ℕ) (ep first : Option Epoch) (tracker : Epoch) (rd : Read) (snapshot : Bool) → g.l.message ≡ message.Fetch x op group ep first tracker rd snapshot
      → HearsRightly (target_plan r g.t) g.s.opening g.s.memory g.reading g.l.from (message.Fetch x op group ep first tracker rd snapshot) (kept g.s) g.new (g.memory, g.did) → Conversation r v
  hears-fetch x op group ep first tracker rd snapshot is h =
      asked-all HearsRightly r w v requests k g asks no_tell (λ n off holds. fetch-off g.t g.l.from.number q g.s.memory (g.memory, g.did) own collects n off leaves)
      (λ s to same free. fetch-on g.t g.l.from.number q g.s.memory (g.memory, g.did) own collects s (stands-itself s g.t q to (same ∙ is)) free leaves)
    where
      q : FetchRequest
      q = fetch_request x op group ep first tracker rd snapshot

      asks : is_request g.l.message ≡ true
      asks = ap is_request is

      no_tell : is_tell g.l.message ≡ false
      no_tell = ap is_tell is

      own : x.client ≡ g.l.from.number
      own = own-attempt HearsRightly r w v requests k g asks no_tell x (ap request_of is)

      collects : g.memory.collecting ≡ g.s.memory.collecting
      collects = fetch-collects (target_plan r g.t) g.s.memory g.reading q g.l.from h.last g.new (g.memory, g.did) h.ends

      leaves : FetchLeaves q (client g.l.from.number) g.s.memory (g.memory, g.did)
      leaves = as-sent HearsRightly r w v requests k g asks no_tell (λ a. FetchLeaves q a g.s.memory (g.memory, g.did))
          (fetch-leaves (target_plan r g.t) g.s.memory g.reading q g.l.from h.last g.new (g.memory, g.did)
          (reached-keeps (read.FetchNext (target_plan r g.t) g.s.memory g.reading q) (λ s y. HasOwn q s) (λ s y o u l next steps has. own-goes (target_plan r g.t) g.s.memory g.reading q s u y o next has) read.Asked (kept g.s) h.last g.new h.reached tt) h.ends)

  hears-commit : (x : AttemptId) (ep first : Option Epoch) (tracker : Epoch) (ws : List MinorWrite) → g.l.message ≡ message.Commit x ep first tracker ws
      → HearsRightly (target_plan r g.t) g.s.opening g.s.memory g.reading g.l.from (message.Commit x ep first tracker ws) (kept g.s) g.new (g.memory, g.did) → Conversation r v
  hears-commit x ep first tracker ws is h =
      asked-all HearsRightly r w v requests k g asks no_tell (λ n off holds. commit-off g.t g.l.from.number q g.s.memory (g.memory, g.did) collects n off leaves)
      (λ s to same free. commit-on g.t g.l.from.number q g.s.memory (g.memory, g.did) collects s to (same ∙ is) free leaves)
    where
      q : CommitRequest
      q = commit_request x ep first tracker ws

      asks : is_request g.l.message ≡ true
      asks = ap is_request is

      no_tell : is_tell g.l.message ≡ false
      no_tell = ap is_tell is

      collects : g.memory.collecting ≡ g.s.memory.collecting
      collects = commit-collects (target_plan r g.t) g.s.opening g.s.memory g.reading q g.l.from h.last g.new (g.memory, g.did) h.ends

      leaves : CommitLeaves q (client g.l.from.number) g.s.memory (g.memory, g.did)
      leaves = as-sent HearsRightly r w v requests k g asks no_tell (λ a. CommitLeaves q a g.s.memory (g.memory, g.did)) (commit-leaves (target_plan r g.t) g.s.opening g.s.memory g.reading q g.l.from h.last g.new (g.memory, g.did) h.ends)

  hears-so : (q : Message) → g.l.message ≡ q → HearsRightly (target_plan r g.t) g.s.opening g.s.memory g.reading g.l.from q (kept g.s) g.new (g.memory, g.did) → Conversation r v
  hears-so (message.Fetch x op group ep first tracker rd snapshot) is h = hears-fetch x op group ep first tracker rd snapshot is h
  hears-so (message.Commit x ep first tracker ws) is h = hears-commit x ep first tracker ws is h
  hears-so (message.Prepare e first ws inc) is h = between-hears r w v g (ap is_between is) k
  hears-so (message.Mark inc marks) is h = between-hears r w v g (ap is_between is) k
  hears-so (message.Marked inc ids) is h = between-hears r w v g (ap is_between is) k
  hears-so (message.Query x ask) is h = between-hears r w v g (ap is_between is) k
  hears-so (message.Ack x inc refusal) is h =
      passes-all HearsRightly r w v requests k g (ap is_request is) (ap is_tell is) (λ n holds. ack-turns n g.t (target_plan r g.t) g.s.memory g.l.from.number x inc refusal (kept g.s) g.new (g.memory, g.did) rising h holds)
  hears-so (message.Verdict x ask inc v2) is h =
      goes-each HearsRightly r w v requests k g (λ n. stands-one n g.t g.l g.s.memory g.memory g.did.posts (of-none r w k g.l g.rest g.takes g.t g.to_it (ap is_request is) (ap is_tell is) n)
      (λ holds. verdict-turns (is_in_doubt g.t) n g.t (target_plan r g.t) g.s.memory g.reading x ask v2 (kept g.s) g.new (g.memory, g.did) h holds))
  hears-so q is h = absurd h

pub right-keeps : (r : Rules) (w v : World) → RequestsAreOfClients w → LeadersKnow r w → RightEvent r w v → Conversation r w → Conversation r v
right-keeps r w v requests leaders (ByClient g) k = goes-keeps r w v g k
right-keeps r w v requests leaders (ToClient g) k = hears-keeps r w v g k
right-keeps r w v requests leaders (ByTarget g) k = idle-keeps r w v g k
right-keeps r w v requests leaders (ToTarget g) k = hears-so r w v requests leaders k g g.l.message refl g.turn

-- ---- what else is heard

module _ (number : ℕ) (r : Rules) (w v : World) (requests : RequestsAreOfClients w) (leaders : LeadersKnow r w) (k : Conversation r w) (g : TargetHearsBy (HearsFurther number) r w v) where
  abbrev plan : TargetPlan
  plan = target_plan r g.t

  -- a client's request
  module _ (asks : is_request g.l.message ≡ true) (no_tell : is_tell g.l.message ≡ false) where
    down-hears : (q : CommitRequest) → g.l.message ≡ commit_of q → CommitLeaves q g.l.from g.s.memory (g.memory, g.did) × (g.memory.collecting ≡ g.s.memory.collecting) → Conversation r v
    down-hears q is h =
        let leaves = as-sent (HearsFurther number) r w v requests k g asks no_tell (λ a. CommitLeaves q a g.s.memory (g.memory, g.did)) h.0 in
        asked-all (HearsFurther number) r w v requests k g asks no_tell (λ n off holds. commit-off g.t g.l.from.number q g.s.memory (g.memory, g.did) h.1 n off leaves)
        (λ s to same free. commit-on g.t g.l.from.number q g.s.memory (g.memory, g.did) h.1 s to (same ∙ is) free leaves)

    ask-hears : (x : AttemptId) → g.l.message ≡ message.Ask x → (g.memory, g.did) ≡ ask_left plan g.s.memory g.l.from x (kept g.s) → Conversation r v
    ask-hears x is says =
        let left = as-sent (HearsFurther number) r w v requests k g asks no_tell (λ a. (g.memory, g.did) ≡ ask_left plan g.s.memory a x (kept g.s)) says in
        let own = own-attempt (HearsFurther number) r w v requests k g asks no_tell x (ap request_of is) in
        asked-all (HearsFurther number) r w v requests k g asks no_tell (λ n off holds. ask-off g.t g.l.from.number plan g.s.memory x (kept g.s) (g.memory, g.did) left own n off holds)
        (λ s to same free. ask-on g.t g.l.from.number plan g.s.memory x (kept g.s) (g.memory, g.did) left own (leaders.rows g.t g.s g.here) (leaders.opened g.t g.s g.here g.runs) s to (same ∙ is) free)

    collect-hears : (x : AttemptId) → ((own : Option Epoch) (how : Outcome) → Answers g.l.message (message.Ended x own how)) → CollectLeaves g.t x g.l.message g.l.from g.s.memory (g.memory, g.did) → Conversation r v
    collect-hears x ends h =
        let leaves = as-sent (HearsFurther number) r w v requests k g asks no_tell (λ a. CollectLeaves g.t x g.l.message a g.s.memory (g.memory, g.did)) h in
        asked-all (HearsFurther number) r w v requests k g asks no_tell (λ n off holds. collect-off g.t g.l.from.number x g.l.message g.s.memory (g.memory, g.did) n off leaves)
        (λ s to same free. collect-on g.t g.l.from.number x g.l.message g.s.memory (g.memory, g.did) ends s to same free leaves)

  -- what is none
  module _ (none : is_request g.l.message ≡ false) (no_tell : is_tell g.l.message ≡ false) where
    passes-then : ((n : ℕ) → Holding n g.t g.s.memory → Passes n g.t g.s.memory g.memory g.did.posts) → Conversation r v
    passes-then passes = passes-all (HearsFurther number) r w v requests k g none no_tell passes

    from-other : g.l.from.client ≡ false
    from-other = of-target (HearsFurther number) r w v requests k g none no_tell

    status-hears : (x : AttemptId) (inc : ℕ) → (g.memory, g.did) ≡ status_left g.s.memory g.l.from x inc (kept g.s) → Conversation r v
    status-hears x inc says = passes-then (λ n holds. Leaves (record {
      told = told-one_off n g.did.posts _ (ap (λ o. o.1.posts) says) (ap (λ b. b && (g.l.from.number == n)) from-other);
      held = ap (λ o. held_by n g.t o.0) says;
    }))

    reset-hears : (by-it : ℕ) (down : Bool) (asked : Message) → (g.memory, g.did) ≡ reset_by plan g.s.memory by-it down asked (kept g.s) → Conversation r v
    reset-hears by-it down asked says = passes-then (λ n holds. subst (λ (o : TargetMemory × Did). Passes n g.t g.s.memory o.0 o.1.posts) (sym says) (by n holds asked))
      where
        by : (n : ℕ) → Holding n g.t g.s.memory → (asked : Message) → Passes n g.t g.s.memory (reset_by plan g.s.memory by-it down asked (kept g.s)).0 (reset_by plan g.s.memory by-it down asked (kept g.s)).1.posts
        by n holds (message.Freeze x c s) = freeze-reset n g.t g.s.memory (collects-own r w g.t g.s k requests g.here) holds by-it down x c s
        by n holds (message.Prune x c tracker e) = prune-reset n g.t g.s.memory (collects-own r w g.t g.s k requests g.here) holds by-it down x c tracker e
        by n holds asked = reset-passes n g.t plan g.s.memory by-it down (kept g.s) (leaders.rows g.t g.s g.here) holds asked

  hears-more : (q : Message) → g.l.message ≡ q → HearsFurther number plan g.s.opening g.s.memory g.reading g.l.from q (kept g.s) g.new (g.memory, g.did) → Conversation r v
  hears-more (message.Commit x ep first tracker ws) is h =
      down-hears (ap is_request is) (ap is_tell is) (commit_request x ep first tracker ws) is (down-leaves plan g.s.memory g.reading (commit_request x ep first tracker ws) g.l.from h.last g.new (g.memory, g.did) h.ends)
  hears-more (message.Ask x) is h = ask-hears (ap is_request is) (ap is_tell is) x is (nothing-changes (kept g.s) g.new (g.memory, g.did) h).1
  hears-more (message.Status x inc) is h = status-hears (ap is_request is) (ap is_tell is) x inc (nothing-changes (kept g.s) g.new (g.memory, g.did) h).1
  hears-more (message.StatusIs x inc how) is h =
      passes-then (ap is_request is) (ap is_tell is) (λ n holds. ack-turns n g.t plan g.s.memory g.l.from.number x inc (status_refusal x how) (kept g.s) g.new (g.memory, g.did) (leaders.rows g.t g.s g.here) h holds)
  hears-more (message.Snap x c called tracker) is h =
      collect-hears (ap is_request is) (ap is_tell is) x (λ own how. subst (λ z. Answers z (message.Ended x own how)) (sym is) (own, how, refl))
      (subst (λ z. CollectLeaves g.t x z g.l.from g.s.memory (g.memory, g.did)) (sym is) (snap-leaves g.t plan g.s.memory g.reading tracker x c called g.l.from h.last g.new (g.memory, g.did) h.ends))
  hears-more (message.Freeze x c s) is h = passes-then (ap is_request is) (ap is_tell is) (λ n holds. Leaves (freeze-leaves n g.t plan g.s.memory x c g.l.from h.last g.new (g.memory, g.did) (from-other (ap is_request is) (ap is_tell is)) h.ends))
  hears-more (message.Held x refusal) is h =
      passes-then (ap is_request is) (ap is_tell is) (λ n holds. held-turns n g.t plan g.s.memory g.l.from.number x (collects-own r w g.t g.s k requests g.here) holds refusal (kept g.s) g.new (g.memory, g.did) h)
  hears-more (message.Prune x c (Some tracker) None) is h =
      collect-hears (ap is_request is) (ap is_tell is) x (λ own how. subst (λ z. Answers z (message.Ended x own how)) (sym is) (own, how, refl))
      (subst (λ z. CollectLeaves g.t x z g.l.from g.s.memory (g.memory, g.did)) (sym is) (aggregate-leaves g.t plan g.s.memory g.reading tracker x c g.l.from h.last g.new (g.memory, g.did) h.ends))
  hears-more (message.Prune x c None (Some e)) is h = passes-then (ap is_request is) (ap is_tell is) (λ n holds. Leaves (prune-leaves n g.t g.s.memory x g.l.from h.last g.new (g.memory, g.did) (from-other (ap is_request is) (ap is_tell is)) h.ends))
  hears-more (message.Reset' by-it down place (more_of-Message asked rest)) is h = reset-hears (ap is_request is) (ap is_tell is) by-it down asked (nothing-changes (kept g.s) g.new (g.memory, g.did) h).1
  hears-more q is h = absurd h

pub more-keeps : (r : Rules) (w v : World) → RequestsAreOfClients w → LeadersKnow r w → HearsMore r w v → Conversation r w → Conversation r v
more-keeps r w v requests leaders g k = hears-more g.number r w v requests leaders k g.hears g.hears.l.message refl g.hears.turn

-- ---- everything

pub happenings-keep : (r : Rules) (w v : World) → RequestsAreOfClients w → LeadersKnow r w → Happening r w v → Conversation r w → Conversation r v
happenings-keep r w v requests leaders (Plainly e up) k =
    right-keeps r w v requests leaders (right-event r w v (λ g. leaders.others g.l g.t g.s (has-from_contains w.messages g.l (taken-is-among w.messages g.l g.rest g.takes)) g.to_it g.here) e) k
happenings-keep r w v requests leaders (Further g) k = more-keeps r w v requests leaders g k
happenings-keep r w v requests leaders (IsCut g) k = cut-keeps r w v g k
happenings-keep r w v requests leaders (Opens g) k = opening-keeps r w v g k
happenings-keep r w v requests leaders (Fails g) k = failing-keeps r w v g k
happenings-keep r w v requests leaders (GivenUp g) k = given_up-keeps r w v g k
happenings-keep r w v requests leaders (Draws g) k = drawing-keeps r w v g k

-- and what goes to targets that are given up is lost
pub events-keep : (r : Rules) (w v : World) → RequestsAreOfClients w → LeadersKnow r w → WorldEvent r w v → Conversation r w → Conversation r v
events-keep r w v requests leaders e k = subst (Conversation r) (sym e.after) (sweep-keeps r e.u (happenings-keep r w e.u requests leaders e.happens k))
