-- A target that is to store an attempt's writes stores them, or shows a later read or write, or that it lacks blocks.
use Rattle.std.specs.List.{list_any}
use Rattle.std.specs.Prelude.{ℕ, ◌≡◌, ◌≢◌, ◌≤◌, ◌<◌, ◌+◌, ◌/◌, ◌⊎◌, ◌++◌, ◌==◌, Bool, true, false, is_none, filter, List, [], ◌∷◌, Contains, Option, Some, None, refl, if◌then◌else◌}
use Rattle.std.proofs.Common.{append-nil, sym, ◌∙◌, ap, subst, inl, inr, arith}
use Rattle.std.proofs.lemmas.Bool.{eq-eqb}
use Rattle.std.proofs.lemmas.List.Elements.{Contains-append_left}
use Rattle.base_types.specs.declared.entry.Entry.{Entry}
use Rattle.base_types.specs.declared.epoch.Epoch.{Epoch}
use Rattle.base_types.specs.declared.id.AttemptId.{AttemptId}
use Rattle.base_types.specs.declared.operation.MinorWrite.{MinorWrite}
use Rattle.base_types.specs.declared.outcome.Cause.{Cause}
use Rattle.base_types.specs.declared.outcome.FloorWhy.{FloorWhy}
use Rattle.base_types.specs.declared.outcome.Outcome.{Outcome}
use Rattle.base_types.specs.declared.outcome.Outcome.TheVariants as outcome
use Rattle.base_types.specs.declared.report.Line.{Line}
use Rattle.base_types.specs.declared.script.Command.{Command}
use Rattle.base_types.specs.declared.script.Command.TheVariants.{Run, Snap, Aggregate, Tell, Skip}
use Rattle.base_types.specs.declared.script.Script.{Script}
use Rattle.base_types.specs.declared.shown.Shown.{Shown}
use Rattle.base_types.specs.Epochs.{last_ticks}
use Rattle.base_types.specs.Operations.{write_path}
use Rattle.base_types.specs.PathLaws.{near-comm}
use Rattle.base_types.specs.Placement.{path_members}
use Rattle.model_laws.specs.Members.{Has, contains-from_has, has-filter, has-from_contains, has-from_filter, has-map, has-right}
use Rattle.base_messages.specs.declared.actor.ActorId.{ActorId}
use Rattle.daos_model.specs.declared.durable.Durable.{Durable}
use Rattle.daos_model.specs.Accesses.{minor_writes}
use Rattle.daos_model.specs.Blocks.{blocks}
use Rattle.daos_model.specs.CausesShown.{blocks_at, blocks_of_some, is_snap, writes_at}
use Rattle.daos_model.specs.Durables.{entry_of}
use Rattle.daos_model.specs.Opening.{Opening, top}
use Rattle.daos_model.specs.Order.{told_by}
use Rattle.daos_model.specs.Transactions.{attempt_ops, command_of, ops_or_none}
use Rattle.dtx_base.specs.Leading.{LeaderOf, begun, begun_alone, begun_with_others, prepare_to}
use Rattle.dtx_base.specs.Members.{other_members}
use Rattle.dtx_base.specs.Rows.{is_empty}
use Rattle.vos_store.specs.Answers.{floor_of}
use Rattle.world_base.specs.declared.did.Did.{Did}
use Rattle.world_base.specs.declared.request.CommitRequest.{CommitRequest}
use Rattle.world_base.specs.declared.target.TargetMemory.{TargetMemory}
use Rattle.world_base.specs.Events.{Rules, listed, target_plan}
use Rattle.world_base.specs.Letters.{client}
use Rattle.world_base.specs.Changes.{Kept}
use Rattle.world_base.specs.Commits as commit
use Rattle.world_base.specs.Reads.{later_of}
use Rattle.world_base.specs.Requests.{issued_for, request_epoch, with_ticks}
use Rattle.world_base.specs.Roles.{leader_at}
use Rattle.world_base.specs.Turns.{Whole}
use Rattle.world_causes.specs.causes.AtFloors.{HasTarget, IsFloorShown, IsTarget, floor-shown}
use Rattle.world_causes.specs.causes.Causes.{Dated, ShowsRead, Stored, blocks_if, blocks_of_stored, is_new_to, stored_as, stored_by}
use Rattle.world_causes.specs.causes.Dates.{IsDated, heard-within, limit-rises, request-dated, request-spent}
use Rattle.world_causes.specs.causes.Floors.{IsFloorAt, first-floor-is, first-later-is, told-stays}
use Rattle.world_causes.specs.causes.Growth.{blocks-more}
use Rattle.world_causes.specs.causes.Lasting.{refusal-shows, stored-more}
use Rattle.world_causes.specs.causes.Paths.{CommitSoFar, commit-path}
use Rattle.world_causes.specs.causes.Premises.{AreOfReads, AreWritten, IsRequest}
use Rattle.world_causes.specs.causes.ReadTurns.{issue-within, meet-more, none-told, told-one, up}
use Rattle.world_causes.specs.causes.Shown.{LacksSpace, RefusalStands, limit_over}
use Rattle.world_causes.specs.causes.Turns.{AllMeet, AllShow, Leaves, PostShows, all-map}
use Rattle.world_causes.specs.causes.Writes.{IsWriteShown, write-access, write-shown}

-- ---- blocks

pub own-is : (r : Rules) (t : ℕ) (ws : List MinorWrite) → commit.own_writes (target_plan r t) ws ≡ writes_at r.script.targets t ws
own-is r t [] = refl
own-is r t (w ∷ ws) = by (list_any (λ m. m == t) (path_members (write_path w.write) r.script.targets)) (own-is r t ws)
  where
    by : (b : Bool) → commit.own_writes (target_plan r t) ws ≡ writes_at r.script.targets t ws
        → (if b then w ∷ commit.own_writes (target_plan r t) ws else commit.own_writes (target_plan r t) ws) ≡ (if b then w ∷ [] else []) ++ writes_at r.script.targets t ws
    by true e = ap (λ z. w ∷ z) e
    by false e = e

pub blocks-some : (ws : List MinorWrite) → ws ≢ [] → blocks ws ≡ blocks_of_some ws
blocks-some [] some = absurd (some refl)
blocks-some (w ∷ ws) some = refl

-- an attempt that has an entry now, and had none, counts with its blocks
stored-counts : (s : Script) (t : ℕ) (x : AttemptId) (stored : Stored) → Has (t, x) stored → blocks_at s t x ≤ blocks_of_stored s t stored
stored-counts s t x [] i = absurd i
stored-counts s t x (j ∷ stored) (inl same) =
    let own : blocks_if (j.0 == t) (blocks_at s t j.1) ≡ blocks_at s t x = ap (λ k. blocks_if (k.0 == t) (blocks_at s t k.1)) (sym same) ∙ ap (λ b. blocks_if b (blocks_at s t x)) (eq-eqb t t refl) in
    sum (blocks_if (j.0 == t) (blocks_at s t j.1)) (blocks_at s t x) own
  where
    sum : (m n : ℕ) → m ≡ n → n ≤ m + blocks_of_stored s t stored
    sum m n own = omega (arith, own)
stored-counts s t x (j ∷ stored) (inr i) = let k : blocks_at s t x ≤ blocks_of_stored s t stored = stored-counts s t x stored i in more (blocks_if (j.0 == t) (blocks_at s t j.1)) k
  where
    more : (m : ℕ) → blocks_at s t x ≤ blocks_of_stored s t stored → blocks_at s t x ≤ m + blocks_of_stored s t stored
    more m k = omega (arith, k)

is-stored : (t : ℕ) (old new : Durable) (e : Entry) → entry_of old e.attempt ≡ None → Has e new.entries → Has (t, e.attempt) (stored_by t old new)
is-stored t old new e none i = has-map (stored_as t) (filter (is_new_to old) new.entries) e (has-filter (is_new_to old) new.entries e i (ap is_none none))

both-count : (s : Script) (t : ℕ) (new stored : Stored) → blocks_of_stored s t (new ++ stored) ≡ blocks_of_stored s t new + blocks_of_stored s t stored
both-count s t [] stored = omega arith
both-count s t (j ∷ new) stored = sum (blocks_if (j.0 == t) (blocks_at s t j.1)) (both-count s t new stored)
  where
    sum : (m : ℕ) → blocks_of_stored s t (new ++ stored) ≡ blocks_of_stored s t new + blocks_of_stored s t stored → m + blocks_of_stored s t (new ++ stored) ≡ m + blocks_of_stored s t new + blocks_of_stored s t stored
    sum m e = omega (arith, e)

-- blocks are accounted for where they went to an entry that is stored
pub space-stored : (s : Script) (t : ℕ) (stored : Stored) (old new : Kept) (e : Entry) (ws : List MinorWrite) → entry_of old.durable e.attempt ≡ None → Has e new.durable.entries → old.free ≤ new.free + blocks ws → blocks ws ≡ blocks_at s t e.attempt
    → old.free + blocks_of_stored s t stored ≤ new.free + blocks_of_stored s t (stored_by t old.durable new.durable ++ stored)
space-stored s t stored old new e ws none among low is =
    let all : blocks_of_stored s t (stored_by t old.durable new.durable ++ stored) ≡ blocks_of_stored s t (stored_by t old.durable new.durable) + blocks_of_stored s t stored = both-count s t (stored_by t old.durable new.durable) stored in
    let own : blocks_at s t e.attempt ≤ blocks_of_stored s t (stored_by t old.durable new.durable) = stored-counts s t e.attempt (stored_by t old.durable new.durable) (is-stored t old.durable new.durable e none among) in
    sum (blocks ws) (blocks_at s t e.attempt) low is own all
  where
    sum : (a b : ℕ) → old.free ≤ new.free + a → a ≡ b → b ≤ blocks_of_stored s t (stored_by t old.durable new.durable)
        → blocks_of_stored s t (stored_by t old.durable new.durable ++ stored) ≡ blocks_of_stored s t (stored_by t old.durable new.durable) + blocks_of_stored s t stored
        → old.free + blocks_of_stored s t stored ≤ new.free + blocks_of_stored s t (stored_by t old.durable new.durable ++ stored)
    sum a b low is own all = omega (arith, low, is, own, all)

-- and where none were taken
pub space-same : (s : Script) (t : ℕ) (stored : Stored) (old new : Kept) → old.free ≤ new.free → old.free + blocks_of_stored s t stored ≤ new.free + blocks_of_stored s t (stored_by t old.durable new.durable ++ stored)
space-same s t stored old new low = let k : blocks_of_stored s t stored ≤ blocks_of_stored s t (stored_by t old.durable new.durable ++ stored) = blocks-more s t (stored_by t old.durable new.durable) stored in omega (arith, low, k)

-- what writes something makes no snapshot
pub writes-make_none : (r : Rules) (x : AttemptId) → minor_writes 0 (attempt_ops r.script x) ≢ [] → is_snap (command_of r.script x) ≡ false
unfolding minor_writes
writes-make_none r x some = by (command_of r.script x) some
  where
    by : (d : Option Command) → minor_writes 0 (ops_or_none d) ≢ [] → is_snap d ≡ false
    by None k = refl
    by (Some (Run ops skips snapshot)) k = refl
    by (Some (Snap name cont)) k = absurd (k refl)
    by (Some (Aggregate cont)) k = refl
    by (Some (Tell n)) k = refl
    by (Some (Skip turns)) k = refl

-- nor does what lacks blocks
lack-makes_none : (r : Rules) (t : ℕ) (x : AttemptId) (need free : ℕ) → free < need → need ≡ blocks_at r.script t x → is_snap (command_of r.script x) ≡ false
lack-makes_none r t x need free full is = writes-make_none r x (λ none. let zero' : blocks_at r.script t x ≡ 0 = ap (λ ws. blocks_of_some (writes_at r.script.targets t ws)) none in omega (arith, full, is, zero'))

-- ---- what a target shows that doesn't store writes

-- what is known of writes that are to be stored: they are some of an attempt, at its epoch
pub record IsWriting (r : Rules) (o : Opening) (issued : Dated) (lines : List Line) (x : AttemptId) (ep first : Option Epoch) (e : Epoch) (ws : List MinorWrite) : Type 0 where
  pub dated : IsDated o issued lines x ep first e
  pub its : (w : MinorWrite) → Has w ws → Has w (minor_writes 0 (attempt_ops r.script x))

-- why they are refused, and which epochs that tells
pub record RefusalShows (r : Rules) (o : Opening) (stored : Stored) (now : Dated) (lines : List Line) (x : AttemptId) (how : Outcome) : Type 0 where
  pub shows : RefusalStands r o stored now lines x how
  pub told : (n : ℕ) → Has n (told_by how) → n / 256 ≤ limit_over o lines now

module _ (r : Rules) (o : Opening) (stored : Stored) (issued : Dated) (lines : List Line) (t : ℕ) (opening : Epoch × FloorWhy) (m : TargetMemory) (old : Kept) (x : AttemptId) (ep first : Option Epoch) (ws : List MinorWrite) (T : IsTarget r o issued lines t opening old) (stamps : AreOfReads r issued m.stamps)
    (target : HasTarget r lines x t) where
  abbrev now : Epoch → Dated
  now e = issued ++ listed (issued_for x ep e)

  rises : (e : Epoch) → limit_over o lines issued ≤ limit_over o lines (now e)
  rises e = limit-rises o lines issued (listed (issued_for x ep e))

  -- a later read is near a write
  read-shown : (e : Epoch) (z : Shown) → IsWriting r o issued lines x ep first e ws → commit.FirstRead e m.stamps ws z → ShowsRead r (now e) x z.by z.epoch z.path
  read-shown e z d f = record {
    own = e;
    its = d.dated.its;
    later = f.shown.later;
    reader = Contains-append_left issued (listed (issued_for x ep e)) (z.by, z.epoch) (stamps z f.shown.among).0;
    asks = (stamps z f.shown.among).1;
    near = (at.0, f.w, at.1, at.2, near-comm z.path (write_path f.w.write) ∙ f.shown.near);
  }
    where
      at : Contains (minor_writes 0 (attempt_ops r.script x)) f.w
      at = contains-from_has (minor_writes 0 (attempt_ops r.script x)) f.w (d.its f.w (subst (Has f.w) (sym f.among) (has-right f.before (f.w ∷ f.after) f.w (inl refl))))

  pub refused-shows : (k : Kept) (e : Epoch) (c : Cause) → IsWriting r o issued lines x ep first e ws → k.durable.conts ≡ old.durable.conts → k.durable.versions ≡ old.durable.versions
      → commit.IsRefusedBy (target_plan r t) opening first e k.durable m.stamps ws c → RefusalShows r o stored (now e) lines x (outcome.Restart c)
  refused-shows k e c d conts olds (commit.ByFloor floor) = record { shows = shown.stands; told = λ n i. up (shown.told n i) (rises e) }
    where
      f : (w : MinorWrite) × Has w ws × IsFloorAt t e.0 (floor_of opening k.durable (write_path w.write).cont) c
      f = first-floor-is (target_plan r t) opening e k.durable ws c floor

      shown : IsFloorShown r o issued (now e) lines x c
      shown = floor-shown r o issued (now e) lines t opening old x e (write_path f.0.write) (floor_of opening k.durable (write_path f.0.write).cont) c T d.dated.above d.dated.its (write-access 0 (attempt_ops r.script x) f.0 (d.its f.0 f.1)) target
          ((told-stays o lines t opening old.durable k.durable conts T.floors).floor (write_path f.0.write).cont) f.2
  refused-shows k e c d conts olds (commit.ByWrite floor reads z later same) = subst (λ b. RefusalShows r o stored (now e) lines x (outcome.Restart b)) (sym same) (record { shows = shown.shows; told = told })
    where
      f : (u : MinorWrite) × Has u ws × (later_of (target_plan r t) first e (write_path u.write) k.durable ≡ Some z)
      f = first-later-is (target_plan r t) first e k.durable ws z later

      shown : IsWriteShown r issued (now e) lines x z
      shown = write-shown r o issued lines (target_plan r t) x ep first e (write_path f.0.write) k.durable z refl d.dated (subst (AreWritten r issued (top o)) (sym olds) T.written)
          (write-access 0 (attempt_ops r.script x) f.0 (d.its f.0 f.1)) f.2

      told : (n : ℕ) → Has n (z.epoch.0 ∷ []) → n / 256 ≤ limit_over o lines (now e)
      told n (inl same') = subst (λ g. g / 256 ≤ limit_over o lines (now e)) (sym same') (up (T.dates z.by z.epoch shown.writer) (rises e))
      told n (inr bad) = absurd bad
  refused-shows k e c d conts olds (commit.ByRead floor z first' same) = subst (λ b. RefusalShows r o stored (now e) lines x (outcome.Restart b)) (sym same) (record { shows = read-shown e z d first'; told = told })
    where
      told : (n : ℕ) → Has n (z.epoch.0 ∷ []) → n / 256 ≤ limit_over o lines (now e)
      told n (inl same') = subst (λ f. f / 256 ≤ limit_over o lines (now e)) (sym same') (up (T.dates z.by z.epoch (stamps z first'.shown.among).0) (rises e))
      told n (inr bad) = absurd bad

  pub lack-shows : (k : Kept) (e : Epoch) → IsWriting r o issued lines x ep first e ws → old.free ≤ k.free → k.free < blocks ws → blocks ws ≡ blocks_at r.script t x → o.free t ≤ old.free + blocks_of_stored r.script t stored
      → RefusalShows r o stored (now e) lines x (outcome.NoSpace t (blocks ws) k.free)
  lack-shows k e d low full is space = record {
    shows = subst (λ b. LacksSpace b r o stored (now e) x t (blocks ws) k.free) (sym (lack-makes_none r t x (blocks ws) k.free full is)) (record { own = e; its = d.dated.its; wanting = full; need_is = is; accounted = omega (arith, low, space) });
    told = λ n i. absurd i;
  }

-- ---- a Commit

-- what is known of a Commit: an attempt's writes, some of which its target holds, of which it keeps no entry
pub record IsCommit (r : Rules) (o : Opening) (issued : Dated) (lines : List Line) (t : ℕ) (old : Kept) (q : CommitRequest) : Type 0 where
  pub few : t < 256
  pub request : IsRequest o issued lines q.attempt q.ep q.first q.tracker
  pub its : q.writes ≡ minor_writes 0 (attempt_ops r.script q.attempt)
  pub some : commit.own_writes (target_plan r t) q.writes ≢ []
  pub unstored : entry_of old.durable q.attempt ≡ None
  pub target : HasTarget r lines q.attempt t

-- the blocks that a Commit asks for are those of the attempt
pub need-is : (r : Rules) (t : ℕ) (x : AttemptId) (ws : List MinorWrite) → ws ≡ minor_writes 0 (attempt_ops r.script x) → commit.own_writes (target_plan r t) ws ≢ []
    → blocks (commit.own_writes (target_plan r t) ws) ≡ blocks_at r.script t x
need-is r t x ws its some = blocks-some (commit.own_writes (target_plan r t) ws) some ∙ ap blocks_of_some (own-is r t ws) ∙ ap (λ z. blocks_of_some (writes_at r.script.targets t z)) its

-- what is sent when an attempt begins
begins-shows : (r : Rules) (o : Opening) (stored : Stored) (issued : Dated) (lines : List Line) (e : Entry) (first : Option Epoch) (from : ActorId) (ws : List MinorWrite) (l : LeaderOf) → from ≡ client e.attempt.client → e.epoch.0 / 256 ≤ limit_over o lines issued
    → AllShow r o stored issued lines (begun e first from ws l).posts
unfolding begun
begins-shows r o stored issued lines e first from ws l own within = by (is_empty (other_members e))
  where
    asks : (t : ℕ) → PostShows r o stored issued lines (prepare_to l.targets l.incarnation e first ws t)
    asks t = record { shows = tt; told = λ n i. absurd (none-told n i); undecided = λ x by' u. absurd u; asked = λ x u. absurd u; own = λ x u. absurd u }

    by : (b : Bool) → AllShow r o stored issued lines (if b then begun_alone e from l else begun_with_others e first from ws l).posts
    by true = (record { shows = tt; told = λ n i. subst (λ f. f / 256 ≤ limit_over o lines issued) (told-one e.epoch n i) within; undecided = λ x by' u. absurd u; asked = λ x u. absurd u; own = λ x same. own ∙ ap (λ y. client y.client) same }, tt)
    by false = all-map r o stored issued lines (prepare_to l.targets l.incarnation e first ws) asks (other_members e)

module _ (r : Rules) (o : Opening) (stored : Stored) (issued : Dated) (lines : List Line) (t : ℕ) (opening : Epoch × FloorWhy) (m : TargetMemory) (reading : ℕ) (q : CommitRequest) (from : ActorId) (old : Kept)
    (T : IsTarget r o issued lines t opening old) (h : IsCommit r o issued lines t old q) (own : from ≡ client q.attempt.client) (ticks : m.ticks ≤ limit_over o lines issued) (parked : AllMeet r issued m.member.parked) (stamps : AreOfReads r issued m.stamps)
    (space : o.free t ≤ old.free + blocks_of_stored r.script t stored) where
  abbrev later : Epoch → Dated
  later e = issued ++ listed (issued_for q.attempt q.ep e)

  pub writing : (e : Epoch) → request_epoch (target_plan r t) m reading q.tracker q.ep ≡ Some e → IsWriting r o issued lines q.attempt q.ep q.first e (commit.own_writes (target_plan r t) q.writes)
  writing e found = record {
    dated = request-dated o issued lines q.attempt q.ep q.first q.tracker (target_plan r t) m reading e h.few ticks h.request found;
    its = λ w i. subst (Has w) h.its (has-from_filter (commit.is_own (target_plan r t)) q.writes w i).0;
  }

  heard : (e : Epoch) → e.0 / 256 ≤ limit_over o lines (later e) → (with_ticks e m).ticks ≤ limit_over o lines (later e)
  heard e k = heard-within m.ticks e.0 (limit_over o lines (later e)) (up ticks (limit-rises o lines issued (listed (issued_for q.attempt q.ep e)))) k

  -- the attempt is refused
  pub ends-left : (k : Kept) (e : Epoch) (how : Outcome) (left : TargetMemory × Did) → IsWriting r o issued lines q.attempt q.ep q.first e (commit.own_writes (target_plan r t) q.writes) → old.free ≤ k.free
      → RefusalShows r o stored (later e) lines q.attempt how → left ≡ (with_ticks e m, commit.ends_at q from e how) → Leaves r o stored issued lines t old k left
  ends-left k e how left d low shown is = subst (Leaves r o stored issued lines t old k) (sym is) (record {
    posts = (
      record {
        shows = refusal-shows r o (stored_by t old.durable k.durable ++ stored) (later e) lines q.attempt how (stored-more r o (stored_by t old.durable k.durable) stored (later e) lines q.attempt how shown.shows);
        told = λ n i. told n (has-from_contains (e.0 ∷ told_by how) n i);
        undecided = λ x by u. absurd u;
        asked = λ x u. absurd u;
        own = λ x same. own ∙ ap (λ y. client y.client) same;
      },
      tt,
    );
    ticks = heard e d.dated.within;
    dated = issue-within o lines issued q.attempt q.ep e d.dated.within;
    space = space-same r.script t stored old k low;
    parked = meet-more r issued (listed (issued_for q.attempt q.ep e)) m.member.parked parked;
  })
    where
      told : (n : ℕ) → (n ≡ e.0) ⊎ Has n (told_by how) → n / 256 ≤ limit_over o lines (later e)
      told n (inl same) = subst (λ f. f / 256 ≤ limit_over o lines (later e)) (sym same) d.dated.within
      told n (inr i) = shown.told n i

  pub commit-ends : (s : commit.CommitStage) (k : Kept) (left : TargetMemory × Did) → CommitSoFar (target_plan r t) m reading q old s k → commit.CommitEnds (target_plan r t) opening m reading q from s k left
      → Leaves r o stored issued lines t old k left
  commit-ends s k left w (commit.IsSpent j z none is) = subst (Leaves r o stored issued lines t old k) (sym is) (record {
    posts = (
      record {
        shows = record { before = issued; since = []; among = refl; none = (h.request.fresh spent.0).0; spent = spent.1 };
        told = λ n i. absurd (none-told n i);
        undecided = λ x by u. absurd u;
        asked = λ x u. absurd u;
        own = λ x same. own ∙ ap (λ y. client y.client) same;
      },
      tt,
    );
    ticks = subst (λ is'. m.ticks ≤ limit_over o lines is') (sym (append-nil issued)) ticks;
    dated = λ x e i. let no : ⊥ = cc in absurd no;
    space = space-same r.script t stored old k (let f : old.free ≤ k.free + 0 = w.free in omega (arith, f));
    parked = meet-more r issued [] m.member.parked parked;
  })
    where
      spent : (q.ep ≡ None) × (last_ticks < limit_over o lines issued + 1)
      spent = request-spent o issued lines q.attempt q.ep q.first q.tracker (target_plan r t) m reading ticks h.request none
  commit-ends s k left w (commit.IsRefused j e c z why is) =
      let d = writing e w.dated in
      ends-left k e (outcome.Restart c) left d (let f : old.free ≤ k.free + 0 = w.free in omega (arith, f))
      (refused-shows r o stored issued lines t opening m old q.attempt q.ep q.first (commit.own_writes (target_plan r t) q.writes) T stamps h.target k e c d w.conts w.olds why) is
  commit-ends s k left w (commit.HasNoSpace j e z allowed full is) =
      let d = writing e w.dated in
      let low : old.free ≤ k.free = (let f : old.free ≤ k.free + 0 = w.free in omega (arith, f)) in
      ends-left k e (outcome.NoSpace t (blocks (commit.own_writes (target_plan r t) q.writes)) k.free) left d low
      (lack-shows r o stored issued lines t opening m old q.attempt q.ep q.first (commit.own_writes (target_plan r t) q.writes) T stamps h.target k e d low full (need-is r t q.attempt q.writes h.its h.some) space) is
  commit-ends s k left w (commit.HasBegun j e z is) =
      let d = writing e w.dated in
      subst (Leaves r o stored issued lines t old k) (sym is) (record {
        posts = begins-shows r o (stored_by t old.durable k.durable ++ stored) (later e) lines (commit.led_entry (target_plan r t) q e) q.first from q.writes (leader_at (target_plan r t) m k.durable) own d.dated.within;
        ticks = heard e d.dated.within;
        dated = issue-within o lines issued q.attempt q.ep e d.dated.within;
        space = space-stored r.script t stored old k (commit.led_entry (target_plan r t) q e) (commit.own_writes (target_plan r t) q.writes) h.unstored w.olds w.free (need-is r t q.attempt q.writes h.its h.some);
        parked = meet-more r issued (listed (issued_for q.attempt q.ep e)) m.member.parked parked;
      })

  -- a turn that hears a Commit
  pub commit-leaves : (new : Kept) (left : TargetMemory × Did) → Whole (commit.CommitNext (target_plan r t) opening m reading q) (commit.CommitEnds (target_plan r t) opening m reading q from) commit.Asked old new left
      → Leaves r o stored issued lines t old new left
  commit-leaves new left w = commit-ends w.last new left (commit-path (target_plan r t) opening m reading q old w.last new w.reached.did w.reached.path) w.ends
