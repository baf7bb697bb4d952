-- What turns leave of what idle work inquires.
use Rattle.std.specs.Prelude.{ℕ, ◌≡◌, ◌⊎◌, ◌==◌, ◌&&◌, Bool, true, false, not, filter, find, List, [], ◌∷◌, is_none, Option, Some, None, refl, if◌then◌else◌}
use Rattle.std.proofs.Common.{sym, ◌∙◌, ap, subst, inl, inr}
use Rattle.base_types.specs.declared.entry.Entry.{Entry}
use Rattle.base_types.specs.declared.entry.Verdict.{Verdict}
use Rattle.base_types.specs.declared.entry.Verdict.TheVariants as verdict
use Rattle.base_types.specs.declared.epoch.Epoch.{Epoch}
use Rattle.base_types.specs.declared.id.AttemptId.{AttemptId}
use Rattle.base_types.specs.declared.outcome.FloorWhy.{FloorWhy}
use Rattle.model_laws.specs.EntryLaws.{found-has, found-passes, has-put}
use Rattle.model_laws.specs.Members.{Has, has-from_filter, has-from_map, has-map, has-right}
use Rattle.base_messages.specs.declared.actor.ActorId.{ActorId}
use Rattle.base_messages.specs.declared.message.Message.{Message}
use Rattle.base_messages.specs.declared.message.Message.TheVariants as message
use Rattle.base_messages.specs.declared.message.Post.{Post}
use Rattle.daos_model.specs.declared.durable.Durable.{Durable}
use Rattle.daos_model.specs.BoolLaws.{and_left, and_right, not_true}
use Rattle.daos_model.specs.Durables.{entry_of, is_entry_of, same_attempt}
use Rattle.daos_model.specs.EntryLaws.{same_attempt-itself}
use Rattle.dtx_base.specs.declared.member.Inquiry.{Inquiry}
use Rattle.dtx_base.specs.declared.member.QueryState.TheVariants as state
use Rattle.dtx_base.specs.Joining.{MemberOf, inquired, inquiry_at, inquiry_attempt, inquiry_for, is_to_inquire, new_inquiry, to_inquire, unresolved, verdict_heard, with_inquiries_for}
use Rattle.dtx_base.specs.LeaderLaws.{same-is}
use Rattle.dtx_base.specs.Leading.{entry_led, is_led, query_answer, verdict_on}
use Rattle.dtx_base.specs.Rows.{is_among, is_other_row, row_key, row_of, with_row}
use Rattle.world_commit.specs.asks.ParkedLaws.{IsOpenStill}
use Rattle.world_base.specs.declared.did.Did.{Did}
use Rattle.world_base.specs.declared.target.TargetMemory.{TargetMemory}
use Rattle.world_base.specs.declared.target.TargetPlan.{TargetPlan}
use Rattle.world_base.specs.Changes.{Change, Kept, Steps}
use Rattle.world_base.specs.Idle.{AllSettled, IdleEnds, batch_of, inquiry_of}
use Rattle.world_base.specs.MemoryLaws.{ack-leaves, commit-leaves, fetch-leaves, mark-leaves, marked-leaves, prepare-leaves, query-leaves}
use Rattle.world_base.specs.PathLaws.{reached-keeps}
use Rattle.world_base.specs.RightTurns.{HearsRightly}
use Rattle.world_base.specs.Roles.{is_in_doubt, leader_at, member_at}
use Rattle.world_base.specs.TargetTurns.{IdlesWhole, commit_request, fetch_request, prepare_request}
use Rattle.world_base.specs.Turns.{Whole}
use Rattle.world_base.specs.VerdictLaws.{verdict-keeps}
use Rattle.world_base.specs.Verdicts as verdicts

-- ---- a turn that hears a message

-- an inquiry after a turn was there before, and isn't answered in it; or it was answered that its attempt isn't decided
pub data InquiryAfter (before : List Inquiry) (said : Message) (q : Inquiry) : Type 0 where
  WasThere : Has q before → IsOpenStill q.attempt None said → InquiryAfter before said q
  WasAnswered : (inc : ℕ) (old : Inquiry) → Has old before → old.attempt ≡ q.attempt → q.state ≡ state.Undecided → said ≡ message.Verdict q.attempt None inc verdict.Undecided → InquiryAfter before said q

abbrev pub InquiriesAfter : List Inquiry → Message → TargetMemory → Type 0
InquiriesAfter before said n = (q : Inquiry) → Has q n.member.inquiries → InquiryAfter before said q

inquiries-same : (m n : TargetMemory) (said : Message) → n.member.inquiries ≡ m.member.inquiries → ((x : AttemptId) → IsOpenStill x None said) → InquiriesAfter m.member.inquiries said n
inquiries-same m n said same all q i = WasThere (subst (Has q) same i) (all q.attempt)

-- what is resolved is inquired no more
others-open : (a : AttemptId) (ask : Option AttemptId) (inc : ℕ) (v : Verdict) (qs : List Inquiry) (q : Inquiry) → Has q (filter (is_other_row inquiry_attempt a) qs) → InquiryAfter qs (message.Verdict a ask inc v) q
others-open a ask inc v qs q i =
    let k = has-from_filter (is_other_row inquiry_attempt a) qs q i in
    WasThere k.0 (λ same none. let own : same_attempt q.attempt a ≡ true = ap (λ b. same_attempt b a) same ∙ same_attempt-itself a in (let no : ⊥ = cc (own, k.1) in no))

answered-at : (a : AttemptId) (inc : ℕ) (qs : List Inquiry) (old q : Inquiry) → Has old qs → inquiry_at a state.Undecided old ≡ q → InquiryAfter qs (message.Verdict a None inc verdict.Undecided) q
answered-at a inc qs old q i is = by (same_attempt old.attempt a) refl is
  where
    by : (b : Bool) → same_attempt old.attempt a ≡ b → (if b then record old { state = state.Undecided } else old) ≡ q → InquiryAfter qs (message.Verdict a None inc verdict.Undecided) q
    by true own e =
        let same : old.attempt ≡ a = same-is old.attempt a own in
        let here : old.attempt ≡ q.attempt = ap (λ z. z.attempt) e in
        WasAnswered inc old i here (sym (ap (λ z. z.state) e)) (ap (λ b. message.Verdict b None inc verdict.Undecided) (sym same ∙ here))
    by false apart e =
        subst (InquiryAfter qs (message.Verdict a None inc verdict.Undecided)) e
        (WasThere i (λ same none. let own : same_attempt old.attempt a ≡ true = ap (λ b. same_attempt b a) same ∙ same_attempt-itself a in (let no : ⊥ = cc (own, apart) in no)))

left-inquired : (a : AttemptId) (ask : Option AttemptId) (inc : ℕ) (v : Verdict) (s : MemberOf) (q : Inquiry) → Has q (verdict_heard a ask v s).member.memory.inquiries → InquiryAfter s.memory.inquiries (message.Verdict a ask inc v) q
unfolding unresolved
left-inquired a ask inc verdict.Committed s q i = others-open a ask inc verdict.Committed s.memory.inquiries q i
left-inquired a ask inc verdict.Aborted s q i = others-open a ask inc verdict.Aborted s.memory.inquiries q i
left-inquired a (Some x) inc verdict.Undecided s q i = WasThere i (λ same none. let no : ⊥ = cc in no)
left-inquired a None inc verdict.Undecided s q i = let o = has-from_map (inquiry_at a state.Undecided) s.memory.inquiries q i in answered-at a inc s.memory.inquiries o.0 q o.1 o.2

verdict-inquired : (t : TargetPlan) (m : TargetMemory) (reading : ℕ) (a : AttemptId) (ask : Option AttemptId) (inc : ℕ) (v : Verdict) (old new : Kept) (left : TargetMemory × Did)
    → Whole (verdicts.VerdictNext (is_in_doubt t.me) t m reading a ask v) verdicts.VerdictEnds verdicts.Heard old new left → InquiriesAfter m.member.inquiries (message.Verdict a ask inc v) left.0
verdict-inquired t m reading a ask inc v old new left w =
    (verdict-keeps (is_in_doubt t.me) t m reading a ask v old (λ asks n posts k. InquiriesAfter m.member.inquiries (message.Verdict a ask inc v) n) (λ k steps q i. left-inquired a ask inc v (member_at t m) q i)
    (λ q rest n posts k l z h y p i. h p (subst (Has p) (fetch-leaves t n reading q (verdicts.fetcher q) y.last l z y.ends).inquiries i)) new left w).0

pub hears-inquired : (t : TargetPlan) (opening : Epoch × FloorWhy) (m : TargetMemory) (reading : ℕ) (from : ActorId) (q : Message) (old new : Kept) (left : TargetMemory × Did)
    → HearsRightly t opening m reading from q old new left → InquiriesAfter m.member.inquiries q left.0
hears-inquired t opening m reading from (message.Fetch x op group ep first tracker r snapshot) old new left h p i =
    inquiries-same m left.0 (message.Fetch x op group ep first tracker r snapshot) (fetch-leaves t m reading (fetch_request x op group ep first tracker r snapshot) from h.last new left h.ends).inquiries (λ y. tt) p i
hears-inquired t opening m reading from (message.Commit x ep first tracker ws) old new left h p i =
    inquiries-same m left.0 (message.Commit x ep first tracker ws) (ap (λ z. z.inquiries) (commit-leaves t opening m reading (commit_request x ep first tracker ws) from h.last new left h.ends).member) (λ y. tt) p i
hears-inquired t opening m reading from (message.Prepare e first ws inc) old new left h p i =
    inquiries-same m left.0 (message.Prepare e first ws inc) (ap (λ z. z.member.inquiries) (prepare-leaves t opening m (prepare_request e first ws inc) h.last new left h.ends)) (λ y. tt) p i
hears-inquired t opening m reading from (message.Ack x inc refusal) old new left h p i =
    inquiries-same m left.0 (message.Ack x inc refusal) (ap (λ z. z.inquiries) (ack-leaves m h.last new left h.ends).member) (λ y. tt) p i
hears-inquired t opening m reading from (message.Mark inc marks) old new left h p i =
    inquiries-same m left.0 (message.Mark inc marks) (ap (λ z. z.member.inquiries) (mark-leaves m from inc marks h.last new left h.ends)) (λ y. tt) p i
hears-inquired t opening m reading from (message.Marked inc ids) old new left h p i =
    inquiries-same m left.0 (message.Marked inc ids) (ap (λ z. z.inquiries) (marked-leaves t m from.number inc ids h.last new left h.ends).rest.member) (λ y. tt) p i
hears-inquired t opening m reading from (message.Query x ask) old new left h p i =
    inquiries-same m left.0 (message.Query x ask) (ap (λ z. z.member.inquiries) (query-leaves t m from x ask h.last new left h.ends)) (λ y. tt) p i
hears-inquired t opening m reading from (message.Verdict x ask inc v) old new left h p i = verdict-inquired t m reading x ask inc v old new left h p i
hears-inquired t opening m reading from q old new left h p i = absurd h

-- ---- idle work

-- idle work asks of an entry that is prepared here, and that another target leads
pub record IsInquired (me : ℕ) (d : Durable) (posts : List Post) (e : Entry) : Type 0 where
  pub kept : Has e d.entries
  pub prepared : e.committed ≡ false
  pub led : (e.leader == me) ≡ false
  pub sent : Has (inquiry_for e) posts

-- an inquiry after idle work was there before, or is new
abbrev pub InquiredIdly : ℕ → Durable → List Inquiry → TargetMemory × Did → Type 0
InquiredIdly me d before left = (q : Inquiry) → Has q left.0.member.inquiries → Has q before ⊎ ((e : Entry) × (q ≡ new_inquiry e) × IsInquired me d left.1.posts e)

rows-for : (es : List Entry) (qs : List Inquiry) (q : Inquiry) → Has q (with_inquiries_for es qs) → Has q qs ⊎ ((e : Entry) × Has e es × (q ≡ new_inquiry e))
rows-for [] qs q i = inl i
rows-for (e ∷ es) qs q i = elim (rows-for es (with_row inquiry_attempt (new_inquiry e) qs) q i) [
  | inl old ↦ elim (has-put (row_key inquiry_attempt) (new_inquiry e) qs q old) [ inl same ↦ inr (e, inl refl, same) | inr j ↦ inl j ]
  | inr new ↦ inr (new.0, inr new.1, new.2)
]

pub inquired-is : (me : ℕ) (d : Durable) (s : MemberOf) (posts : List Post) (e : Entry) → s.me ≡ me → Has e (to_inquire d.entries s) → Has (inquiry_for e) posts → IsInquired me d posts e
unfolding to_inquire is_to_inquire
inquired-is me d s posts e own i sent =
    let k = has-from_filter (is_to_inquire s.me s.memory.inquiries) d.entries e i in
    let both : not e.committed && not (e.leader == s.me) ≡ true = and_left (not e.committed && not (e.leader == s.me)) (is_none (row_of inquiry_attempt e.attempt s.memory.inquiries)) k.1 in
    record {
      kept = k.0;
      prepared = not_true e.committed (and_left (not e.committed) (not (e.leader == s.me)) both);
      led = subst (λ n. (e.leader == n) ≡ false) own (not_true (e.leader == s.me) (and_right (not e.committed) (not (e.leader == s.me)) both));
      sent = sent;
    }

idle-new : (settling : Bool) (t : TargetPlan) (m : TargetMemory) (d : Durable) (posts : List Post) (q : Inquiry)
    → ((p : Post) → Has p (inquiry_of settling t m d).freed.posts → Has p posts) → Has q (inquiry_of settling t m d).member.memory.inquiries
    → Has q m.member.inquiries ⊎ ((e : Entry) × (q ≡ new_inquiry e) × IsInquired t.me d posts e)
unfolding inquired
idle-new false t m d posts q sent i = inl i
idle-new true t m d posts q sent i = elim (rows-for (to_inquire d.entries (member_at t m)) m.member.inquiries q i) [
  | inl old ↦ inl old
  | inr new ↦ inr (new.0, new.2, inquired-is t.me d (member_at t m) posts new.0 refl new.1 (sent (inquiry_for new.0) (has-map inquiry_for (to_inquire d.entries (member_at t m)) new.0 new.1)))
]

idle-inquired : (settling : Bool) (t : TargetPlan) (m : TargetMemory) (s : List AttemptId) (k : Kept) (left : TargetMemory × Did) → IdleEnds settling t m s k left → InquiredIdly t.me k.durable m.member.inquiries left
idle-inquired settling t m s k left (AllSettled j z is) q i =
    idle-new settling t m k.durable left.1.posts q
    (λ p at. subst (λ x. Has p x.1.posts) (sym is) (has-right (batch_of t m k.durable).posts (inquiry_of settling t m k.durable).freed.posts p at)) (subst (λ x. Has q x.0.member.inquiries) is i)

pub idles-inquired : (settling : Bool) (t : TargetPlan) (m : TargetMemory) (old new : Kept) (left : TargetMemory × Did) → IdlesWhole settling t m old new left → InquiredIdly t.me new.durable m.member.inquiries left
idles-inquired settling t m old new left h = idle-inquired settling t m h.last new left h.ends

-- ---- a Query

-- a Query is answered by what the leader kept and knew when it was heard
query-stands : (s : verdicts.QueryStage) (k : Kept) (o : Option Change) (u : verdicts.QueryStage) (l : Kept) → verdicts.QueryNext s k o u → Steps o k l → (old : Kept) → k ≡ old → l ≡ old
query-stands s k o u l (verdicts.Answers j) st old h = st ∙ h

query-said : (t : TargetPlan) (m : TargetMemory) (from : ActorId) (a : AttemptId) (ask : Option AttemptId) (s : verdicts.QueryStage) (k : Kept) (left : TargetMemory × Did) → verdicts.QueryEnds t m from a ask s k left
    → (p : Post) → Has p left.1.posts → p.message ≡ message.Verdict a ask k.durable.incarnation (query_answer a (leader_at t m k.durable))
query-said t m from a ask s k left (verdicts.IsTold j z is) p i = by (subst (λ x. Has p x.1.posts) is i)
  where
    by : Has p (record { to = from; message = message.Verdict a ask k.durable.incarnation (query_answer a (leader_at t m k.durable)) } ∷ []) → p.message ≡ message.Verdict a ask k.durable.incarnation (query_answer a (leader_at t m k.durable))
    by (inl same) = ap (λ x. x.message) same
    by (inr none) = absurd none

pub queried : (t : TargetPlan) (m : TargetMemory) (from : ActorId) (a : AttemptId) (ask : Option AttemptId) (old new : Kept) (left : TargetMemory × Did)
    → Whole verdicts.QueryNext (verdicts.QueryEnds t m from a ask) verdicts.IsAsked old new left
    → (p : Post) → Has p left.1.posts → p.message ≡ message.Verdict a ask old.durable.incarnation (query_answer a (leader_at t m old.durable))
queried t m from a ask old new left w p i =
    subst (λ x. p.message ≡ message.Verdict a ask x.durable.incarnation (query_answer a (leader_at t m x.durable)))
    (reached-keeps verdicts.QueryNext (λ s k. k ≡ old) (λ s k o u l next steps. query-stands s k o u l next steps old) verdicts.IsAsked old w.last new w.reached refl) (query-said t m from a ask w.last new left w.ends p i)

-- what isn't decided has an entry at its leader
pub found-some : {T : Type 0} (p : T → Bool) (xs : List T) (x : T) → Has x xs → p x ≡ true → (y : T) × (find p xs ≡ Some y)
found-some p [] x i is = absurd i
found-some {T = T} p (z ∷ xs) x i is = by (λ j. found-some p xs x j is) (p z) refl i
  where
    Found : Bool → Type 0
    Found b = (y : T) × ((if b then Some z else find p xs) ≡ Some y)

    by : (Has x xs → (y : T) × (find p xs ≡ Some y)) → (b : Bool) → p z ≡ b → Has x (z ∷ xs) → Found b
    by rest true here j = (z, refl)
    by rest false here (inl same) = let no : ⊥ = cc (ap p same, is, here) in absurd no
    by rest false here (inr j) = rest j

verdict-undecided : (o : Option Entry) (decided : Bool) → verdict_on o decided ≡ verdict.Undecided → (e : Entry) × (o ≡ Some e)
verdict-undecided None decided h = let no : ⊥ = cc in absurd no
verdict-undecided (Some e) decided h = (e, refl)

pub undecided-kept : (t : TargetPlan) (m : TargetMemory) (d : Durable) (x : AttemptId) → query_answer x (leader_at t m d) ≡ verdict.Undecided → (e : Entry) × (entry_of d x ≡ Some e)
unfolding query_answer entry_of
undecided-kept t m d x h =
    let e = verdict-undecided (entry_led x (leader_at t m d)) (is_among x m.leader.decided) h in
    let i = has-from_filter (is_led t.me) d.entries e.0 (found-has (is_entry_of x) (filter (is_led t.me) d.entries) e.0 e.1) in
    found-some (is_entry_of x) d.entries e.0 i.0 (found-passes (is_entry_of x) (filter (is_led t.me) d.entries) e.0 e.1)
