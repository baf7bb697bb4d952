-- The steps of a member: a target that holds the entry of an attempt which another one leads.
use Rattle.std.specs.Prelude.{ℕ, Bool, true, false, ◌&&◌, ◌==◌, not, filter, map, ◌++◌, List, [], ◌∷◌, Option, Some, None, is_none, if◌then◌else◌}
use Rattle.std.specs.List.{list_any}
use Rattle.base_types.specs.declared.entry.Entry.{Entry}
use Rattle.base_types.specs.declared.entry.Verdict.{Verdict}
use Rattle.base_types.specs.declared.entry.Verdict.TheVariants as verdict
use Rattle.base_types.specs.declared.id.AttemptId.{AttemptId}
use Rattle.base_types.specs.declared.outcome.Cause.TheVariants.{Unresolved}
use Rattle.base_types.specs.declared.outcome.Outcome.TheVariants.{Restart}
use Rattle.base_messages.specs.declared.message.Message.{Message}
use Rattle.base_messages.specs.declared.message.Message.TheVariants.{Ack, Fetch, Fetched, Prepare, Query}
use Rattle.base_messages.specs.declared.message.Post.{Post}
use Rattle.base_messages.specs.declared.message.Reply.TheVariants as reply
use Rattle.daos_model.specs.Durables.{same_attempt}
use Rattle.dtx_base.specs.declared.member.Freed.{Freed}
use Rattle.dtx_base.specs.declared.member.Inquiry.{Inquiry}
use Rattle.dtx_base.specs.declared.member.MemberMemory.{MemberMemory}
use Rattle.dtx_base.specs.declared.member.Parked.{Parked}
use Rattle.dtx_base.specs.declared.member.QueryState.{QueryState}
use Rattle.dtx_base.specs.declared.member.QueryState.TheVariants as query
use Rattle.dtx_base.specs.Leading.{to_target}
use Rattle.dtx_base.specs.Rows.{row_of, with_row, without_row}

-- ---- a member

-- its number, and what it remembers
pub record MemberOf : Type 0 where
  pub me : ℕ
  pub memory : MemberMemory

-- what a step comes to: the member from then on, and what is set free
pub record MemberStep : Type 0 where
  pub member : MemberOf
  pub freed : Freed

abbrev pub member_step : MemberOf → Freed → MemberStep
member_step s freed = record { member = s; freed = freed }

-- nothing was parked and asked yet

abbrev pub first_member : ℕ → MemberOf
first_member me = record { me = me; memory = record { parked = []; inquiries = [] } }

abbrev pub with_parked : List Parked → MemberOf → MemberOf
with_parked ps s = record s { memory = record s.memory { parked = ps } }

abbrev pub with_inquiries : List Inquiry → MemberOf → MemberOf
with_inquiries qs s = record s { memory = record s.memory { inquiries = qs } }

-- ---- an attempt is prepared

-- the writes of a Prepare are stored: its leader is told Ok
abbrev pub ok_told : Message → List Post
ok_told (Prepare e first ws inc) = to_target e.leader (Ack e.attempt inc None) ∷ []
ok_told m = []

-- ---- a Fetch is parked

-- the attempt of a Fetch
abbrev pub asker : Message → Option AttemptId
asker (Fetch a op group ep first tracker r snapshot) = Some a
asker m = None

-- a Fetch waits, behind all that wait already, and the leader of what it waits for is asked
abbrev pub parking : Message → AttemptId → ℕ → MemberOf → MemberOf
parking ask on leader s = with_parked (s.memory.parked ++ record { on = on; leader = leader; ask = ask } ∷ []) s

abbrev pub query_for : Message → AttemptId → ℕ → List Post
query_for ask on leader = to_target leader (Query on (asker ask)) ∷ []

-- ---- a Verdict is heard

abbrev pub is_parked_on : AttemptId → Parked → Bool
is_parked_on a p = same_attempt p.on a

abbrev pub is_parked_elsewhere : AttemptId → Parked → Bool
is_parked_elsewhere a p = not (same_attempt p.on a)

abbrev pub parked_ask : Parked → Message
parked_ask p = p.ask

abbrev pub inquiry_attempt : Inquiry → AttemptId
inquiry_attempt q = q.attempt

-- it is known what became of an attempt: all Fetches that wait for it are tried again, in the order in which they were parked
abbrev pub resolved : AttemptId → MemberOf → MemberStep
resolved a s = record {
  member = with_inquiries (without_row inquiry_attempt a s.memory.inquiries) (with_parked (filter (is_parked_elsewhere a) s.memory.parked) s);
  freed = record { posts = []; again = map parked_ask (filter (is_parked_on a) s.memory.parked) };
}

-- a message is a Fetch of this attempt
abbrev pub is_asker : AttemptId → Message → Bool
is_asker x (Fetch a op group ep first tracker r snapshot) = same_attempt a x
is_asker x m = false

-- a Fetch of one attempt waits for another one
unfoldable pub is_waiting : AttemptId → AttemptId → Parked → Bool
is_waiting a x p = same_attempt p.on a && is_asker x p.ask

abbrev pub is_not_waiting : AttemptId → AttemptId → Parked → Bool
is_not_waiting a x p = not (is_waiting a x p)

-- the client of a Fetch is told that its attempt met one which isn't resolved
abbrev pub unresolved_told : AttemptId → Message → List Post
unresolved_told a (Fetch x op group ep first tracker r snapshot) =
    record { to = record { client = true; number = x.client }; message = Fetched x op group ep (reply.Outcome (Restart (Unresolved a))) } ∷ []
unresolved_told a m = []

abbrev pub all_unresolved_told : AttemptId → List Parked → List Post
all_unresolved_told a [] = []
all_unresolved_told a (p ∷ ps) = unresolved_told a p.ask ++ all_unresolved_told a ps

-- a Query that idle work sent got this far
abbrev pub inquiry_at : AttemptId → QueryState → Inquiry → Inquiry
inquiry_at a how q = if same_attempt q.attempt a then record q { state = how } else q

-- the attempt isn't decided: the Fetch that asked is answered, if it still waits, and the others wait on
unfoldable pub unresolved : AttemptId → AttemptId → MemberOf → MemberStep
unresolved a x s = record {
  member = with_parked (filter (is_not_waiting a x) s.memory.parked) s;
  freed = record { posts = all_unresolved_told a (filter (is_waiting a x) s.memory.parked); again = [] };
}

-- nothing is set free
abbrev pub quietly : MemberOf → MemberStep
quietly s = record { member = s; freed = record { posts = []; again = [] } }

-- the attempt isn't decided, and a Fetch asked, or idle work
abbrev pub undecided_heard : AttemptId → Option AttemptId → MemberOf → MemberStep
undecided_heard a (Some x) s = unresolved a x s
undecided_heard a None s = quietly (with_inquiries (map (inquiry_at a query.Undecided) s.memory.inquiries) s)

abbrev pub verdict_heard : AttemptId → Option AttemptId → Verdict → MemberOf → MemberStep
verdict_heard a ask verdict.Committed s = resolved a s
verdict_heard a ask verdict.Aborted s = resolved a s
verdict_heard a ask verdict.Undecided s = undecided_heard a ask s

-- ---- a Reset of a Query is heard

-- the Query of idle work goes, so that it may be sent again, unless the leader is down
abbrev pub inquiries_reset : Bool → AttemptId → List Inquiry → List Inquiry
inquiries_reset true a qs = map (inquiry_at a query.Down) qs
inquiries_reset false a qs = without_row inquiry_attempt a qs

abbrev pub query_reset : Bool → AttemptId → Option AttemptId → MemberOf → MemberStep
query_reset down a (Some x) s = unresolved a x s
query_reset down a None s = quietly (with_inquiries (inquiries_reset down a s.memory.inquiries) s)

-- a Fetch that asked is answered as by a Verdict that the attempt is undecided
abbrev pub reset_heard : Bool → Message → MemberOf → MemberStep
reset_heard down (Query a ask) s = query_reset down a ask s
reset_heard down m s = quietly s

-- ---- the settling phase

-- a prepared entry that another target leads, and for which idle work sent no Query
unfoldable pub is_to_inquire : ℕ → List Inquiry → Entry → Bool
is_to_inquire me qs e = not e.committed && not (e.leader == me) && is_none (row_of inquiry_attempt e.attempt qs)

abbrev pub new_inquiry : Entry → Inquiry
new_inquiry e = record { attempt = e.attempt; state = query.Unanswered }

abbrev pub inquiry_for : Entry → Post
inquiry_for e = to_target e.leader (Query e.attempt None)

abbrev pub with_inquiries_for : List Entry → List Inquiry → List Inquiry
with_inquiries_for [] qs = qs
with_inquiries_for (e ∷ es) qs = with_inquiries_for es (with_row inquiry_attempt (new_inquiry e) qs)

-- the entries for which Queries are to be sent, in their order
unfoldable pub to_inquire : List Entry → MemberOf → List Entry
to_inquire es s = filter (is_to_inquire s.me s.memory.inquiries) es

-- some Query is to be sent
abbrev pub is_inquiry_due : List Entry → MemberOf → Bool
is_inquiry_due es s = list_any (is_to_inquire s.me s.memory.inquiries) es

-- the leader of each such entry is asked
unfoldable pub inquired : List Entry → MemberOf → MemberStep
inquired es s = record {
  member = with_inquiries (with_inquiries_for (to_inquire es s) s.memory.inquiries) s;
  freed = record { posts = map inquiry_for (to_inquire es s); again = [] };
}
