-- What a Verdict comes to: the attempt is settled, and the Fetches that waited are tried again one by one.
use Rattle.std.proofs.Common.{ℕ, ◌≡◌, ◌<◌, ◌++◌, inr, refl, sym, ◌∙◌, ap, subst, List, [], ◌∷◌, length, drop, slice_index_or, true, Option, Some, None, Ok, Err, arith}
use Rattle.base_types.specs.declared.entry.Entry.{Entry}
use Rattle.base_types.specs.declared.entry.Verdict.{Verdict}
use Rattle.base_types.specs.declared.entry.Verdict.TheVariants as verdict
use Rattle.base_types.specs.declared.id.AttemptId.{AttemptId}
use Rattle.model_laws.specs.Members.{Has}
use Rattle.base_messages.specs.declared.message.Message.{Message}
use Rattle.base_messages.specs.declared.message.Post.{Post}
use Rattle.daos_model.specs.declared.durable.Durable.{Durable}
use Rattle.dtx_base.specs.declared.member.Parked.{Parked}
use Rattle.dtx_base.specs.Joining.{MemberOf, member_step, verdict_heard}
use Rattle.vos_store.specs.Calls.{State}
use Rattle.vos_store.specs.declared.refusal.Stopped.{Stopped}
use Rattle.world_base.specs.declared.did.Did.{Did}
use Rattle.world_base.specs.declared.request.FetchRequest.{FetchRequest}
use Rattle.world_base.specs.declared.target.TargetMemory.{TargetMemory}
use Rattle.world_base.specs.declared.target.TargetPlan.{TargetPlan}
use Rattle.world_base.specs.Changes.{Change, Kept, made}
use Rattle.world_base.specs.Reads.{Asked}
use Rattle.world_base.specs.Requests.{fetch_message, sends}
use Rattle.world_base.specs.Roles.{is_prepared, joins_on, member_at, told_by}
use Rattle.world_base.specs.Turns.{CutShort, Reached, Whole}
use Rattle.world_base.specs.Verdicts.{AllTried, Freed, Heard, SettlesBy, VerdictEnds, VerdictNext, VerdictStage, freed_by, settles_by, settling_change}
use Rattle.target_parts.specs.declared.knows.Knows.{Knows}
use Rattle.target_parts.specs.declared.stop.TargetStop.{TargetStop}
use Rattle.target_parts.specs.declared.stop.TargetStop.TheVariants as stop
use Rattle.target_parts.specs.KeepingLaws.{ask-stays}
use Rattle.target_parts.specs.Knowing.{IsAskHere, IsOwn, LeadsWell, memory_of}
use Rattle.target_parts.specs.Knowing as knowing
use Rattle.target_parts.specs.Parts.{Now, Partway, kept, left_by}
use Rattle.target_parts.specs.Stops.{Turn, never}
use Rattle.target_parts.specs.Turning.{cut_in_change, cut_on, now_stays, reached_change, reached_on, reached_silent, whole}
use Rattle.target_reads.specs.Again.{AreHere, AreParkable, MadeSome, TriedTurn}
use Rattle.target_reads.specs.Fetches.{FetchTurn}
use Rattle.target_reads.proofs.Retrying.{known-unissued, path-enlisted, tried, tried-cut, tried-partly, verdict-frees, verdict-me}
use Rattle.world_base.specs.PathLaws.{reached-here}

-- ---- the first of those that are left

pub first-removed : {X : Type 0} (xs ys : List X) (x : X) → 0 < length xs → x ≡ slice_index_or xs 0 x → ys ≡ drop 1 xs → xs ≡ x ∷ ys
first-removed [] ys x lt is rest = absurd (omega (arith, lt))
first-removed (z ∷ zs) ys x lt is rest = ap (λ w. w ∷ zs) (sym is) ∙ ap (λ ws. x ∷ ws) (sym rest)

module _ (t : TargetPlan) (m : TargetMemory) (reading : ℕ) (a : AttemptId) (ask : Option AttemptId) (v : Verdict) where
  abbrev Next : VerdictStage → Kept → Option Change → VerdictStage → Type 0
  Next = VerdictNext is_prepared t m reading a ask v

  module _ (all : VerdictStage) (old : Kept) (n : TargetMemory) (x : Message) (xs rest : List Message) (posts : List Post) (d : Durable) (h k : State) (new : Option Durable) (finds : Durable → Type 0) (left : TargetMemory)
      (is : xs ≡ x ∷ rest) (reached : Reached Next all old (Freed xs n posts) (kept d h))
    where
      at : (q : FetchRequest) → fetch_message q ≡ x → Reached Next all old (Freed (fetch_message q ∷ rest) n posts) (kept d h)
      at q asks = subst (λ ys. Reached Next all old (Freed ys n posts) (kept d h)) (is ∙ ap (λ y. y ∷ rest) (sym asks)) reached

      -- it was tried
      pub tried-whole : (did : Did) → TriedTurn t n reading x d h new k finds left (Ok did) → Now new k (λ l. Reached Next all old (Freed rest left (posts ++ did.posts)) l)
      tried-whole did one = record {
        durable = one.turn.durable;
        kept_is = one.turn.kept_is;
        holds = reached_on Next all old (Freed (fetch_message one.q ∷ rest) n posts) (kept d h) (Freed rest left (posts ++ did.posts)) (kept one.turn.durable k) (at one.q one.asks)
            (tried t m reading a ask v n one.q rest posts (kept d h) (kept one.turn.durable k) left did one.turn.holds);
      }

      -- or that was cut, or memory was wanting
      pub tried-stops : (Done : Did → Kept → Type 0) (e : TargetStop) → TriedTurn t n reading x d h new k finds left (Err e) → Turn Next never all old Done new k finds (Err e)
      tried-stops Done e one = by e one.turn
        where
          by : (e : TargetStop) → FetchTurn t n reading one.q (record { client = true; number = one.q.attempt.client }) Asked d h new k finds left (Err e) → Turn Next never all old Done new k finds (Err e)
          by (stop.Store issued lines) cut = record {
            cut = cut_on Next all (Freed (fetch_message one.q ∷ rest) n posts) old (kept d h) (left_by k finds) (at one.q one.asks) (tried-cut t m reading a ask v n one.q rest posts (kept d h) (left_by k finds) cut.cut);
            issued_is = cut.issued_is ∙ known-unissued one.q cut.cut.last one.known;
            no_lines = cut.no_lines;
          }
          by (stop.Foreign place byte) none = absurd none
          by stop.Memory now = record {
            durable = now.durable;
            kept_is = now.kept_is;
            holds = record {
              last = _;
              reached = reached_on Next all old (Freed (fetch_message one.q ∷ rest) n posts) (kept d h) _ (kept now.durable k) (at one.q one.asks)
                  (tried-partly t m reading a ask v n one.q rest posts (kept d h) now.holds.last (kept now.durable k) now.holds.reached);
            };
          }

  -- none is left
  pub tried-all : (all : VerdictStage) (old : Kept) (n : TargetMemory) (xs : List Message) (posts : List Post) (k : State) (new : Option Durable) (did : Did) → length xs ≡ 0 → did ≡ sends posts None
      → Now new k (λ l. Reached Next all old (Freed xs n posts) l) → Now new k (λ l. Whole Next VerdictEnds all old l (n, did))
  tried-all all old n [] posts k new did none is now = record {
    durable = now.durable;
    kept_is = now.kept_is;
    holds = whole Next VerdictEnds all old (kept now.durable k) (Freed [] n posts) (n, did) now.holds (AllTried (kept now.durable k) n posts (n, did) (ap (λ x. (n, x)) is));
  }
  tried-all all old n (x ∷ xs) posts k new did none is now = absurd (let no : ⊥ = cc in no)

  pub partway-from : (all : VerdictStage) (old : Kept) (s : VerdictStage) (k : State) (new : Option Durable) → Now new k (λ l. Reached Next all old s l) → Now new k (Partway Next all old)
  partway-from all old s k new now = record { durable = now.durable; kept_is = now.kept_is; holds = record { last = s; reached = now.holds } }

  -- ---- the attempt is settled

  abbrev freed : VerdictStage
  freed = freed_by (verdict_heard a ask v (member_at t m)) m

  pub verdict-settles : (d : Durable) (h k : State) (new : Option Durable) (finds : Durable → Type 0) → MadeSome (settling_change a (settles_by is_prepared v a d)) d h new k finds (Ok tt) → Now new k (λ l. Reached Next Heard (kept d h) freed l)
  verdict-settles d h k new finds done = by (settling_change a (settles_by is_prepared v a d)) refl done
    where
      by : (o : Option Change) → o ≡ settling_change a (settles_by is_prepared v a d) → MadeSome o d h new k finds (Ok tt) → Now new k (λ l. Reached Next Heard (kept d h) freed l)
      by None is stays = record {
        durable = d;
        kept_is = stays.kept_is;
        holds = reached_silent Next Heard (kept d h) Heard (kept d k) freed (now_stays (λ l. Reached Next Heard (kept d h) Heard l) d h k new stays (reached-here Next Heard (kept d h))) (SettlesBy (kept d k) None is);
      }
      by (Some c) is did = record {
        durable = made c d;
        kept_is = did.kept_is;
        holds = reached_change Next Heard (kept d h) Heard (kept d h) c freed (kept (made c d) k) (reached-here Next Heard (kept d h)) (SettlesBy (kept d h) (Some c) is) refl did.free;
      }

  pub verdict-cut : (d : Durable) (h k : State) (new : Option Durable) (finds : Durable → Type 0) (e : Stopped) → MadeSome (settling_change a (settles_by is_prepared v a d)) d h new k finds (Err e) → CutShort Next Heard (kept d h) (left_by k finds)
  verdict-cut d h k new finds e done = by (settling_change a (settles_by is_prepared v a d)) refl done
    where
      by : (o : Option Change) → o ≡ settling_change a (settles_by is_prepared v a d) → MadeSome o d h new k finds (Err e) → CutShort Next Heard (kept d h) (left_by k finds)
      by None is none = absurd none
      by (Some c) is cut = cut_in_change Next Heard (kept d h) Heard (kept d h) c freed (left_by k finds) (reached-here Next Heard (kept d h)) (SettlesBy (kept d h) (Some c) is) cut

-- ---- what is here stays here

pub tried-here : (t : TargetPlan) (n : TargetMemory) (reading : ℕ) (x : Message) (xs rest : List Message) (d : Durable) (h k : State) (new : Option Durable) (finds : Durable → Type 0) (left : TargetMemory) (did : Did) → xs ≡ x ∷ rest
    → TriedTurn t n reading x d h new k finds left (Ok did) → AreHere xs d → (y : Durable) × (new ≡ Some y) × AreHere rest y
tried-here t n reading x xs rest d h k new finds left did is one here = (
  one.turn.durable,
  one.turn.kept_is,
  λ y i. ask-stays d one.turn.durable y (λ c. path-enlisted _ Asked (kept d h) one.turn.holds.reached.did one.turn.holds.last (kept one.turn.durable k) c one.turn.holds.reached.path) (here y (subst (Has y) (sym is) (inr i))),
)

pub settled-here : (t : TargetPlan) (m : TargetMemory) (reading : ℕ) (a : AttemptId) (ask : Option AttemptId) (v : Verdict) (asks : List Message) (old new : Kept) (s : VerdictStage) → Reached (VerdictNext is_prepared t m reading a ask v) Heard old s new
    → AreHere asks old.durable → AreHere asks new.durable
settled-here t m reading a ask v asks old new s r here = λ x i. ask-stays old.durable new.durable x (λ c. path-enlisted (VerdictNext is_prepared t m reading a ask v) Heard old r.did s new c r.path) (here x i)

-- ---- what a target knows once it heard a Verdict

-- as another member
abbrev pub with_member : MemberOf → Knows → Knows
with_member s k = record { hlc = k.hlc; stamps = k.stamps; entries = k.entries; leader = k.leader; member = s }

module _ (t : TargetPlan) (a : AttemptId) (ask : Option AttemptId) (v : Verdict) (old : Knows) (s : MemberOf) (posts : List Post) (again : List Message)
    (heard : member_step s (record { posts = posts; again = again }) ≡ verdict_heard a ask v old.member)
  where
    member-is : s ≡ (verdict_heard a ask v old.member).member
    member-is = ap (λ x. x.member) heard

    again-is : again ≡ (verdict_heard a ask v old.member).freed.again
    again-is = ap (λ x. x.freed.again) heard

    pub own-frees : (new : Knows) → new.hlc ≡ old.hlc → new.member ≡ s → IsOwn t old → IsOwn t new
    own-frees new clock member own = record {
      clock = ap (λ c. c.target) clock ∙ own.clock;
      member = ap (λ x. x.me) (member ∙ member-is) ∙ verdict-me a ask v old.member ∙ own.member;
      parked = subst (λ x. knowing.AreParkable x.memory) (sym (member ∙ member-is)) (λ p i. own.parked p ((verdict-frees a ask v old.member).stay p i));
    }

    pub leads-frees : (es : List Entry) (d : Durable) → LeadsWell t (memory_of old) es d → LeadsWell t (joins_on s (memory_of old)) es d
    leads-frees es d k = record {
      entries = k.entries;
      rows = k.rows;
      heard = k.heard;
      asks = subst (λ x. (p : Parked) → Has p x.memory.parked → IsAskHere p.ask d) (sym member-is) (λ p i. k.asks p ((verdict-frees a ask v old.member).stay p i));
    }

    pub frees-parkable : IsOwn t old → AreParkable again
    frees-parkable own x i =
        let p = (verdict-frees a ask v old.member).free x (subst (Has x) again-is i) in subst knowing.IsParkable p.2 (own.parked p.0 p.1)

    pub frees-here : (es : List Entry) (d : Durable) → LeadsWell t (memory_of old) es d → AreHere again d
    frees-here es d k x i =
        let p = (verdict-frees a ask v old.member).free x (subst (Has x) again-is i) in subst (λ y. IsAskHere y d) p.2 (k.asks p.0 p.1)

    -- what is left to be tried again, where this is known of what others told
    pub freed-is : (m n : TargetMemory) → m.member ≡ old.member.memory → IsOwn t old → n ≡ joins_on s m → freed_by (verdict_heard a ask v (member_at t m)) m ≡ Freed again n posts
    freed-is m n member own memory =
        ap (λ x. freed_by (verdict_heard a ask v (record { me = t.me; memory = x })) m) member
        ∙ ap (λ me. freed_by (verdict_heard a ask v (record { me = me; memory = old.member.memory })) m) (sym own.member)
        ∙ ap (λ x. freed_by x m) (sym heard) ∙ ap (λ x. Freed again x posts) (sym memory)

-- ---- what it tells

-- nothing changes by it of what is known as a member
pub told-member : (v : Verdict) (a : AttemptId) (m : TargetMemory) → (told_by v a m).member ≡ m.member
told-member verdict.Committed a m = refl
told-member verdict.Aborted a m = refl
told-member verdict.Undecided a m = refl

-- so it is heard as a member first or as a leader
pub told-joins : (v : Verdict) (a : AttemptId) (s : MemberOf) (m : TargetMemory) → record (joins_on s m) { leader = (told_by v a (joins_on s m)).leader } ≡ joins_on s (told_by v a m)
told-joins verdict.Committed a s m = refl
told-joins verdict.Aborted a s m = refl
told-joins verdict.Undecided a s m = refl
