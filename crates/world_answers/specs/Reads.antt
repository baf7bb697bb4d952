-- What a target answers of versions on paths with keys has form, and so has what groups' answers join to.
use Rattle.std.specs.Prelude.{ℕ, ◌≡◌, ◌+◌, ◌*◌, ◌<◌, ◌^◌, ◌++◌, ◌&&◌, nat_lt, Bool, true, false, List, [], ◌∷◌, filter, map, Option, Some, None, Ok, Err, All, refl, if◌then◌else◌}
use Rattle.std.proofs.Common.{sym, ap, subst, arith, inl, inr}
use Rattle.std.proofs.lemmas.Bool.Decides.{nat_tests}
use Rattle.std.proofs.lemmas.List.Elements.{All-append, All-cons, All-nil}
use Rattle.base_types.specs.declared.answer.Answer.{Answer}
use Rattle.base_types.specs.declared.answer.Answer.TheVariants as answers
use Rattle.base_types.specs.declared.entry.Settle.{Settle}
use Rattle.base_types.specs.declared.entry.Settle.TheVariants.{Abort, Commit, Confirm, Forget}
use Rattle.base_types.specs.declared.entry.Verdict.{Verdict}
use Rattle.base_types.specs.declared.entry.Verdict.TheVariants as verdicts
use Rattle.base_types.specs.declared.epoch.Epoch.{Epoch}
use Rattle.base_types.specs.declared.id.AttemptId.{AttemptId}
use Rattle.base_types.specs.declared.operation.Read.{Read}
use Rattle.base_types.specs.declared.operation.Read.TheVariants.{Akeys, Dkeys, Exists, Extent, Single}
use Rattle.base_types.specs.Keys.{IsKey}
use Rattle.base_types.specs.Operations.{read_path}
use Rattle.base_types.specs.Paths.{record_size}
use Rattle.base_messages.specs.declared.actor.ActorId.{ActorId}
use Rattle.base_messages.specs.declared.message.Message.{Message}
use Rattle.base_messages.specs.declared.message.Message.TheVariants as message
use Rattle.base_messages.specs.declared.message.Post.{Post}
use Rattle.daos_model.specs.declared.durable.Durable.{Durable}
use Rattle.daos_model.specs.declared.durable.Version.{Version}
use Rattle.daos_model.specs.Answers.{answer}
use Rattle.daos_model.specs.BoolLaws.{and_right}
use Rattle.daos_model.specs.Changes.{leased, settled}
use Rattle.daos_model.specs.Durables.{row_of}
use Rattle.daos_model.specs.Forms.{ends_at_akey, fits_array, is_length, is_read_in_form, is_unit}
use Rattle.daos_model.specs.Versions.{done_by, first_blocking, is_not_pending, map_below, sees, version_path, writes_in}
use Rattle.dtx_base.specs.declared.member.Parked.{Parked}
use Rattle.dtx_base.specs.Joining.{all_unresolved_told, is_parked_on, is_waiting, parked_ask, unresolved, unresolved_told, verdict_heard}
use Rattle.model_laws.specs.Groups.{join_two}
use Rattle.model_laws.specs.Members.{Has, has-from_filter, has-from_map}
use Rattle.report_writer.specs.Forms.{IsAnswer}
use Rattle.script_traits.specs.Keyed.{CellHasKeys, HasKeys, MapHasKeys, WriteHasKeys}
use Rattle.vos_store.specs.Answers.{answer_unless, fetched, is_past}
use Rattle.vos_store.specs.declared.refusal.FetchNo.TheVariants.{Aggregated}
use Rattle.world_base.specs.declared.did.Did.{Did}
use Rattle.world_base.specs.declared.request.FetchRequest.{FetchRequest}
use Rattle.world_base.specs.declared.target.TargetMemory.{TargetMemory}
use Rattle.world_base.specs.declared.target.TargetPlan.{TargetPlan}
use Rattle.world_base.specs.Changes.{Change, Kept, Steps}
use Rattle.world_base.specs.ClientTurns.{joined}
use Rattle.world_base.specs.PathLaws.{reached-keeps}
use Rattle.world_base.specs.Reads as read
use Rattle.world_base.specs.Requests.{fetch_message}
use Rattle.world_base.specs.Roles.{member_at}
use Rattle.world_base.specs.Turns.{Reached, Whole}
use Rattle.world_base.specs.VerdictLaws.{Tries, verdict-keeps}
use Rattle.world_base.specs.Verdicts as verdict
use Rattle.world_answers.specs.AnswerForms.{IsShortRead, answer-form}
use Rattle.world_answers.specs.KeyLaws.{effects-keys, in_byte_order-keys}
use Rattle.world_answers.specs.Forms.{AsksInForm, BringsAnswerInForm, IsFoundInForm, PostsInForm, VersionsHaveKeys}
use Rattle.world_answers.specs.Posts.{both-posts, none-posts, one-post, single-post}

-- ---- the statements

-- what a target's store answers to a read in form has form, where versions lie on paths with keys
abbrev pub StoresAnswerInForm : Type 0
StoresAnswerInForm = (q : Read) (e : Epoch) (d : Durable) (b : Answer) → is_read_in_form q ≡ true → VersionsHaveKeys d → fetched q e d ≡ Ok b → IsAnswer b

-- a group's answer joins what the groups before it gave to what has form
abbrev pub AnswersJoinInForm : Type 0
AnswersJoinInForm = (found : Option Answer) (b : Answer) → IsFoundInForm found → IsAnswer b → IsAnswer (joined found b)

-- ---- one read

short-read : (q : Read) → is_read_in_form q ≡ true → IsShortRead q
unfolding is_read_in_form
short-read (Single p) form = tt
short-read (Extent p low len) form =
    less low len
    (and_right (is_unit (record_size p)) (nat_lt (low + len) (2 ^ 32)) (and_right (ends_at_akey p && is_length (len * record_size p)) (fits_array (record_size p) low len) form))
  where
    less : (low len : ℕ) → nat_lt (low + len) (2 ^ 32) ≡ true → len < 2 ^ 32
    less low len is = let all : low + len < 2 ^ 32 = grind (arith, nat_tests) in omega (arith, all)
short-read (Dkeys p) form = tt
short-read (Akeys p) form = tt
short-read (Exists p) form = tt

writes-keys : (vs : List Version) → ((v : Version) → Has v vs → HasKeys (version_path v)) → All WriteHasKeys (writes_in vs)
writes-keys [] k = All-nil WriteHasKeys
writes-keys (v ∷ vs) k = All-cons WriteHasKeys v.write (writes_in vs) (k v (inl refl)) (writes-keys vs (λ x i. k x (inr i)))

-- the map below an epoch has keys
map-keys : (e : ℕ) (d : Durable) → VersionsHaveKeys d → MapHasKeys (map_below d.versions e)
unfolding map_below
map-keys e d k =
    effects-keys (writes_in (filter (sees e) d.versions)) [] (writes-keys (filter (sees e) d.versions) (λ v i. k v (has-from_filter (sees e) d.versions v i).0)) (All-nil CellHasKeys)

pub stores-answer_in_form : StoresAnswerInForm
unfolding fetched
stores-answer_in_form q e d b form keys is = by (is_past (read_path q).cont e d) (first_blocking (read_path q) e.0 d.versions) is
  where
    by : (past : Bool) (v : Option Version)
        → (if past then Err (Aggregated (row_of d (read_path q).cont).aggregated (row_of d (read_path q).cont).number) else answer_unless v (answer q (map_below d.versions e.0))) ≡ Ok b → IsAnswer b
    by true v at = let no : ⊥ = cc in absurd no
    by false (Some v) at = let no : ⊥ = cc in absurd no
    by false None at = let same : answer q (map_below d.versions e.0) ≡ b = cc in subst IsAnswer same (answer-form q (map_below d.versions e.0) (short-read q form) (map-keys e.0 d keys))

-- ---- several groups

join-two : (a b : Answer) → IsAnswer a → IsAnswer b → IsAnswer (join_two a b)
join-two (answers.Names ks) (answers.Names ls) one two = in_byte_order-keys (ks ++ ls) (All-append IsKey ks ls one two)
join-two answers.No b one two = two
join-two a b one two = one

pub answers-join_in_form : AnswersJoinInForm
answers-join_in_form None b k one = one
answers-join_in_form (Some a) b k one = join-two a b k one

-- ---- what a read changes

leased-keys : (ticks : ℕ) (d : Durable) → VersionsHaveKeys d → VersionsHaveKeys (leased ticks d)
unfolding leased
leased-keys ticks d k = k

settled-keys : (a : AttemptId) (step : Settle) (d : Durable) → VersionsHaveKeys d → VersionsHaveKeys (settled a step d)
unfolding settled done_by
settled-keys a Commit d k v i = let z = has-from_map (done_by a) d.versions v i in subst (λ x. HasKeys (version_path x)) z.2 (k z.0 z.1)
settled-keys a Abort d k v i = k v (has-from_filter (is_not_pending a) d.versions v i).0
settled-keys a (Confirm t) d k v i = k v i
settled-keys a Forget d k v i = k v i

abbrev HasKeysAt : Kept → Type 0
HasKeysAt k = VersionsHaveKeys k.durable

-- ---- a Fetch

module _ (t : TargetPlan) (m : TargetMemory) (reading : ℕ) (q : FetchRequest) where
  step-keys : (s : read.FetchStage) (k : Kept) (o : Option Change) (u : read.FetchStage) (l : Kept) → read.FetchNext t m reading q s k o u → Steps o k l → HasKeysAt k → HasKeysAt l
  step-keys s k o u l (read.AtSnapshot j e on ep) steps h = subst HasKeysAt (sym steps) h
  step-keys s k o u l (read.HasEpoch j e plain is) steps h = subst HasKeysAt (sym steps) h
  step-keys s k o u l (read.ExtendsLease j e lease low is) steps h = subst VersionsHaveKeys (sym steps.0) (leased-keys lease j.durable h)
  step-keys s k o u l (read.IsCovered j e low) steps h = subst HasKeysAt (sym steps) h
  step-keys s k o u l (read.SettlesOwn j e decided a none unsettled among) steps h = subst VersionsHaveKeys (sym steps.0) (settled-keys a Commit j.durable h)

  fetch-keys : (old : Kept) (last : read.FetchStage) (new : Kept) → HasKeysAt old → Reached (read.FetchNext t m reading q) read.Asked old last new → HasKeysAt new
  fetch-keys old last new k reached = reached-keeps (read.FetchNext t m reading q) (λ s k. HasKeysAt k) step-keys read.Asked old last new reached k

  module _ (from : ActorId) (form : is_read_in_form q.read ≡ true) where
    ends-in_form : (s : read.FetchStage) (k : Kept) (left : TargetMemory × Did) → HasKeysAt k → read.FetchEnds t m reading q from s k left → PostsInForm left.1.posts
    ends-in_form s k left h (read.IsSpent j z plain none is) = one-post BringsAnswerInForm z.1.posts _ (ap (λ o. o.1.posts) is) tt
    ends-in_form s k left h (read.IsRefused j e decided c z why is) = one-post BringsAnswerInForm z.1.posts _ (ap (λ o. o.1.posts) is) tt
    ends-in_form s k left h (read.MeetsUnresolved j e decided a z free unsettled unknown alone is) = one-post BringsAnswerInForm z.1.posts _ (ap (λ o. o.1.posts) is) tt
    ends-in_form s k left h (read.IsParked j e decided a leader z free unsettled other is) = one-post BringsAnswerInForm z.1.posts _ (ap (λ o. o.1.posts) is) tt
    ends-in_form s k left h (read.IsServed j e decided b z free served is) = one-post BringsAnswerInForm z.1.posts _ (ap (λ o. o.1.posts) is) (stores-answer_in_form q.read e j.durable b form h served)

    -- its turn, from versions with keys
    pub fetch-in_form : (old new : Kept) (left : TargetMemory × Did) → HasKeysAt old → Whole (read.FetchNext t m reading q) (read.FetchEnds t m reading q from) read.Asked old new left → PostsInForm left.1.posts
    fetch-in_form old new left k w = ends-in_form w.last new left (fetch-keys old w.last new k w.reached) w.ends

-- ---- what waits is told

-- that its attempt met one which isn't resolved, which is no answer
unresolved-in_form : (a : AttemptId) (m : Message) → PostsInForm (unresolved_told a m)
unresolved-in_form a (message.Fetch x op group ep first tracker q snapshot) = single-post BringsAnswerInForm _ tt
unresolved-in_form a m = none-posts BringsAnswerInForm

all-unresolved_in_form : (a : AttemptId) (ps : List Parked) → PostsInForm (all_unresolved_told a ps)
all-unresolved_in_form a [] = none-posts BringsAnswerInForm
all-unresolved_in_form a (p ∷ ps) = both-posts BringsAnswerInForm (unresolved_told a p.ask) (all_unresolved_told a ps) (unresolved-in_form a p.ask) (all-unresolved_in_form a ps)

-- ---- a Verdict

module _ (is_due : AttemptId → Durable → Bool) (t : TargetPlan) (m : TargetMemory) (reading : ℕ) (a : AttemptId) (ask : Option AttemptId) (v : Verdict) (old : Kept) (waits : (p : Parked) → Has p m.member.parked → AsksInForm p.ask) (keys : HasKeysAt old) where
  -- what is to be tried asks in form, what is to be sent has form, and versions lie on paths with keys
  record GoesInForm (asks : List Message) (posts : List Post) (k : Kept) : Type 0 where
    asked : (n : Message) → Has n asks → AsksInForm n
    sent : PostsInForm posts
    kept : HasKeysAt k

  tried : (n : Message) → Has n (map parked_ask (filter (is_parked_on a) m.member.parked)) → AsksInForm n
  tried n i = let z = has-from_map parked_ask (filter (is_parked_on a) m.member.parked) n i in subst AsksInForm z.2 (waits z.0 (has-from_filter (is_parked_on a) m.member.parked z.0 z.1).0)

  freed-in_form : (k : Kept) → HasKeysAt k → (v : Verdict) (ask : Option AttemptId) → GoesInForm (verdict_heard a ask v (member_at t m)).freed.again (verdict_heard a ask v (member_at t m)).freed.posts k
  unfolding unresolved
  freed-in_form k h verdicts.Committed ask = record { asked = tried; sent = none-posts BringsAnswerInForm; kept = h }
  freed-in_form k h verdicts.Aborted ask = record { asked = tried; sent = none-posts BringsAnswerInForm; kept = h }
  freed-in_form k h verdicts.Undecided (Some x) = record { asked = λ n i. absurd i; sent = all-unresolved_in_form a (filter (is_waiting a x) m.member.parked); kept = h }
  freed-in_form k h verdicts.Undecided None = record { asked = λ n i. absurd i; sent = none-posts BringsAnswerInForm; kept = h }

  settling-keys : (step : Option Settle) (k : Kept) → Steps (verdict.settling_change a step) old k → HasKeysAt k
  settling-keys None k steps = subst HasKeysAt (sym steps) keys
  settling-keys (Some step) k steps = subst VersionsHaveKeys (sym steps.0) (settled-keys a step old.durable keys)

  begins-in_form : (k : Kept) → Steps (verdict.settling_change a (verdict.settles_by is_due v a old.durable)) old k → GoesInForm (verdict_heard a ask v (member_at t m)).freed.again (verdict_heard a ask v (member_at t m)).freed.posts k
  begins-in_form k steps = freed-in_form k (settling-keys (verdict.settles_by is_due v a old.durable) k steps) v ask

  goes-in_form : (q : FetchRequest) (rest : List Message) (n : TargetMemory) (posts : List Post) (k l : Kept) (left : TargetMemory × Did) → GoesInForm (fetch_message q ∷ rest) posts k → Tries t reading n q k l left → GoesInForm rest (posts ++ left.1.posts) l
  goes-in_form q rest n posts k l left h w = record {
    asked = λ z i. h.asked z (inr i);
    sent = both-posts BringsAnswerInForm posts left.1.posts h.sent (fetch-in_form t n reading q (verdict.fetcher q) (h.asked (fetch_message q) (inl refl)) k l left h.kept w);
    kept = fetch-keys t n reading q k w.last l h.kept w.reached;
  }

  pub verdict-in_form : (new : Kept) (left : TargetMemory × Did) → Whole (verdict.VerdictNext is_due t m reading a ask v) verdict.VerdictEnds verdict.Heard old new left → PostsInForm left.1.posts
  verdict-in_form new left w = (verdict-keeps is_due t m reading a ask v old (λ asks n posts k. GoesInForm asks posts k) begins-in_form goes-in_form new left w).0.sent
