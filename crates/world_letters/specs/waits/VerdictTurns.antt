-- A target hears what became of an attempt: the Fetches that wait for it are tried again, or answered.
use Rattle.std.specs.Prelude.{ℕ, ◌≡◌, ◌++◌, ◌==◌, Bool, true, false, not, if◌then◌else◌, List, [], ◌∷◌, filter, map, Option, Some, None, refl}
use Rattle.std.proofs.Common.{append-nil, sym, ◌∙◌, ap, subst}
use Rattle.std.proofs.lemmas.List.Elements.{filter-append}
use Rattle.base_types.specs.declared.entry.Verdict.{Verdict}
use Rattle.base_types.specs.declared.entry.Verdict.TheVariants as verdict
use Rattle.base_types.specs.declared.epoch.Epoch.{Epoch}
use Rattle.base_types.specs.declared.id.AttemptId.{AttemptId}
use Rattle.base_types.specs.declared.outcome.Cause.TheVariants.{Unresolved}
use Rattle.base_types.specs.declared.outcome.Outcome.TheVariants.{Restart}
use Rattle.base_messages.specs.declared.message.Message.{Message}
use Rattle.base_messages.specs.declared.message.Message.TheVariants as message
use Rattle.base_messages.specs.declared.message.Post.{Post}
use Rattle.base_messages.specs.declared.message.Reply.TheVariants as reply
use Rattle.daos_model.specs.BoolLaws.{clash}
use Rattle.daos_model.specs.Durables.{same_attempt}
use Rattle.daos_model.specs.declared.durable.Durable.{Durable}
use Rattle.world_base.specs.dtx_base.declared.member.Parked.{Parked}
use Rattle.world_base.specs.dtx_base.Joining.{all_unresolved_told, is_not_waiting, is_parked_elsewhere, is_parked_on, is_waiting, parked_ask, resolved, unresolved, unresolved_told, verdict_heard}
use Rattle.world_base.specs.model_laws.TargetLaws.{number_same}
use Rattle.world_base.specs.declared.did.Did.{Did}
use Rattle.world_base.specs.declared.request.FetchRequest.{FetchRequest}
use Rattle.world_base.specs.declared.target.TargetMemory.{TargetMemory}
use Rattle.world_base.specs.declared.target.TargetPlan.{TargetPlan}
use Rattle.world_base.specs.Changes.{Change, Kept, Steps}
use Rattle.world_base.specs.declared.letter.Letter.{Letter}
use Rattle.world_base.specs.Letters.{client, is_talk_of, target}
use Rattle.world_base.specs.PathLaws.{reached-keeps}
use Rattle.world_base.specs.Reads.{fetch_at}
use Rattle.world_base.specs.Requests.{fetch_message}
use Rattle.world_base.specs.Roles.{joins_on, member_at}
use Rattle.world_base.specs.Turns.{Whole}
use Rattle.world_base.specs.Verdicts.{AllTried, Freed, GoesOn, Heard, IsDone, SettlesBy, TriesNext, Trying, VerdictEnds, VerdictNext, VerdictStage}
use Rattle.world_letters.specs.talks.Conversation.{Answers, is_fetch_of}
use Rattle.world_letters.specs.talks.LeaveLaws.{FetchLeaves, HasOwn, fetch-leaves, own-goes}
use Rattle.world_letters.specs.waits.Lists.{filter-no, filter-swap, filter-yes}
use Rattle.world_letters.specs.waits.Parts.{HandsOn, Holding, HoldsNone, HoldsOne, Leaves, Passes, asked-is_talk, collected_part, held-parts, no-map, no-parts, open_part, parked_part}
use Rattle.world_letters.specs.waits.Passing.{Goes, IsKept, IsOfClient, IsTold, TurnsFor, is_post_to, none-part, told_to}
use Rattle.world_letters.specs.waits.RequestTurns.{StandsFor, fetch-collects, fetch-off, fetch-on}
use Rattle.world_letters.specs.waits.Waits.{AnAggregation, AnAsk, ARead, ASnapshot, Held, HoldsIt, ItsWrites, OpenAt, ParkedAt, CollectedAt, held_by, is_parked_of, parked_at}

-- ---- a Fetch that waits

-- what waits for a question is a Fetch that stands for it
abbrev pub WaitsFor : Post → Held → Type 0
WaitsFor q (ParkedAt t ask) = (f : FetchRequest) × (ask ≡ fetch_message f) × StandsFor q t f
WaitsFor q (OpenAt t x) = Unit {0}
WaitsFor q (CollectedAt t c) = Unit {0}

parked-stands : (q : Post) (t : ℕ) (f : FetchRequest) (e : Epoch) → q.to ≡ target t → q.message ≡ fetch_message f → ((o : Epoch) → f.ep ≡ Some o → o ≡ e) → StandsFor q t (record f { ep = Some e })
parked-stands q t f e to asked own = record {
  answers = λ o b. subst (λ m. Answers m (message.Fetched f.attempt f.op f.group o b)) (sym asked) (o, b, refl);
  waits = λ g has. ARead t (fetch_at f g) f g to asked (λ o is. own o is ∙ has e refl) refl;
}

waits-for : (q : Post) (x : Held) → HoldsIt q x → WaitsFor q x
waits-for q x (ARead t ask f e to asked own it) = (record f { ep = Some e }, it, parked-stands q t f e to asked own)
waits-for q x (ItsWrites t f to asked) = tt
waits-for q x (AnAsk t y to asked) = tt
waits-for q x (ASnapshot t c name k to asked named) = tt
waits-for q x (AnAggregation t c k to asked named) = tt

-- what waits of a client
data OwnParked (n t : ℕ) (m : TargetMemory) : Type 0 where
  NoneWaits : filter (is_parked_of n) m.member.parked ≡ [] → OwnParked n t m
  OneWaits : (p : Parked) → filter (is_parked_of n) m.member.parked ≡ p ∷ [] → open_part n t m.leader.undecided ≡ [] → collected_part n t m.collecting ≡ [] → held_by n t m ≡ ParkedAt t p.ask ∷ [] → OwnParked n t m

own-parked : (n t : ℕ) (m : TargetMemory) → Holding n t m → OwnParked n t m
own-parked n t m (HoldsNone none) = NoneWaits (no-map (parked_at t) (filter (is_parked_of n) m.member.parked) (no-parts n t m none).parked)
own-parked n t m (HoldsOne q x of one holds) = by (filter (is_parked_of n) m.member.parked) refl
  where
    rest-of : List Parked → List Held
    rest-of ps = map (parked_at t) ps ++ (open_part n t m.leader.undecided ++ collected_part n t m.collecting)

    by : (ps : List Parked) → filter (is_parked_of n) m.member.parked ≡ ps → OwnParked n t m
    by [] e = NoneWaits e
    by (p ∷ ps) e =
        let all : ParkedAt t p.ask ∷ rest-of ps ≡ x ∷ [] = sym (ap rest-of e) ∙ one in
        let same : ParkedAt t p.ask ≡ x = cc in
        let rest : rest-of ps ≡ [] = cc in
        let a = none-part (map (parked_at t) ps) (open_part n t m.leader.undecided ++ collected_part n t m.collecting) rest in
        let b = none-part (open_part n t m.leader.undecided) (collected_part n t m.collecting) a.1 in
        OneWaits p (e ∙ ap (λ qs. p ∷ qs) (no-map (parked_at t) ps a.0)) b.0 b.1 (one ∙ ap (λ y. y ∷ []) (sym same))

-- ---- Fetches are answered

told-unresolved : (n : ℕ) (a : AttemptId) (ps : List Parked) → told_to n (all_unresolved_told a ps) ≡ all_unresolved_told a (filter (is_parked_of n) ps)
told-unresolved n a [] = refl
told-unresolved n a (p ∷ ps) =
    filter-append (is_post_to n) (unresolved_told a p.ask) (all_unresolved_told a ps) ∙ ap (λ x. told_to n (unresolved_told a p.ask) ++ x) (told-unresolved n a ps) ∙ ap (λ x. x ++ all_unresolved_told a (filter (is_parked_of n) ps)) (one p.ask)
    ∙ more (is_fetch_of n p.ask)
  where
    one : (m : Message) → told_to n (unresolved_told a m) ≡ (if is_fetch_of n m then unresolved_told a m else [])
    one (message.Fetch x op group ep first tracker r snapshot) = refl
    one m = refl

    more : (b : Bool) → (if b then unresolved_told a p.ask else []) ++ all_unresolved_told a (filter (is_parked_of n) ps) ≡ all_unresolved_told a (if b then p ∷ filter (is_parked_of n) ps else filter (is_parked_of n) ps)
    more true = refl
    more false = refl

-- who asked is told that the attempt isn't resolved, and waits no more
pub record TellsUnresolved (a x : AttemptId) (m z : TargetMemory) (posts : List Post) : Type 0 where
  pub says : posts ≡ all_unresolved_told a (filter (is_waiting a x) m.member.parked)
  pub parked : z.member.parked ≡ filter (is_not_waiting a x) m.member.parked
  pub undecided : z.leader.undecided ≡ m.leader.undecided
  pub collecting : z.collecting ≡ m.collecting

module _ (n t : ℕ) (a x : AttemptId) (m z : TargetMemory) (posts : List Post) (k : TellsUnresolved a x m z posts) where
  told-own : told_to n posts ≡ all_unresolved_told a (filter (is_waiting a x) (filter (is_parked_of n) m.member.parked))
  told-own = ap (told_to n) k.says ∙ told-unresolved n a (filter (is_waiting a x) m.member.parked) ∙ ap (all_unresolved_told a) (filter-swap (is_parked_of n) (is_waiting a x) m.member.parked)

  parked-own : parked_part n t z.member.parked ≡ map (parked_at t) (filter (is_not_waiting a x) (filter (is_parked_of n) m.member.parked))
  parked-own = ap (parked_part n t) k.parked ∙ ap (map (parked_at t)) (filter-swap (is_parked_of n) (is_not_waiting a x) m.member.parked)

  held-now : (ps : List Held) → parked_part n t z.member.parked ≡ ps → held_by n t z ≡ ps ++ (open_part n t m.leader.undecided ++ collected_part n t m.collecting)
  held-now ps is = held-parts n t z ps (open_part n t m.leader.undecided) (collected_part n t m.collecting) is (ap (open_part n t) k.undecided) (ap (collected_part n t) k.collecting)

  pub tells-unresolved : Holding n t m → Passes n t m z posts
  tells-unresolved h = by (own-parked n t m h)
    where
      by : OwnParked n t m → Passes n t m z posts
      by (NoneWaits none) = Leaves (record {
        told = told-own ∙ ap (λ ps. all_unresolved_told a (filter (is_waiting a x) ps)) none;
        held = held-now (parked_part n t m.member.parked) (parked-own ∙ ap (λ ps. map (parked_at t) (filter (is_not_waiting a x) ps)) none ∙ sym (ap (map (parked_at t)) none));
      })
      by (OneWaits p one opened collected held) = waiting (is_waiting a x p) refl
        where
          waiting : (b : Bool) → is_waiting a x p ≡ b → Passes n t m z posts
          waiting false off = Leaves (record {
            told = told-own ∙ ap (λ ps. all_unresolved_told a (filter (is_waiting a x) ps)) one ∙ ap (all_unresolved_told a) (filter-no (is_waiting a x) p [] off);
            held = held-now (parked_part n t m.member.parked)
                (parked-own ∙ ap (λ ps. map (parked_at t) (filter (is_not_waiting a x) ps)) one ∙ ap (map (parked_at t)) (filter-yes (is_not_waiting a x) p [] (ap not off)) ∙ sym (ap (map (parked_at t)) one));
          })
          waiting true on = HandsOn (ParkedAt t p.ask) held (λ q of holds. (let f = waits-for q (ParkedAt t p.ask) holds in
              IsTold (record { to = client f.0.attempt.client; message = message.Fetched f.0.attempt f.0.op f.0.group f.0.ep (reply.Outcome (Restart (Unresolved a))) })
              (told-own ∙ ap (λ ps. all_unresolved_told a (filter (is_waiting a x) ps)) one ∙ ap (all_unresolved_told a) (filter-yes (is_waiting a x) p [] on) ∙ ap (λ ask. unresolved_told a ask ++ []) f.1)
              (held-now [] (parked-own ∙ ap (λ ps. map (parked_at t) (filter (is_not_waiting a x) ps)) one ∙ ap (map (parked_at t)) (filter-no (is_not_waiting a x) p [] (ap not on))) ∙ ap (λ us. us ++ collected_part n t m.collecting) opened ∙ collected)
              (f.2.answers f.0.ep (reply.Outcome (Restart (Unresolved a))))))

-- ---- Fetches are tried again

-- what is there of a question at a stage of a Verdict: it was answered; its Fetch is to be tried again; or the target holds it
pub data StageOf (q : Post) (t : ℕ) (told : List Post) (left : List Message) (held : List Held) : Type 0 where
  WasTold : (p : Post) → told ≡ p ∷ [] → left ≡ [] → held ≡ [] → Answers q.message p.message → StageOf q t told left held
  IsLeft : (f : FetchRequest) → told ≡ [] → left ≡ fetch_message f ∷ [] → held ≡ [] → StandsFor q t f → StageOf q t told left held
  StaysHeld : (x : Held) → told ≡ [] → left ≡ [] → held ≡ x ∷ [] → HoldsIt q x → StageOf q t told left held

pub record NothingThere (told : List Post) (left : List Message) (held : List Held) : Type 0 where
  pub untold : told ≡ []
  pub none_left : left ≡ []
  pub none_held : held ≡ []

-- what is there of a client at a stage, of which a target held nothing before, or something
pub record Stands (n t : ℕ) (m : TargetMemory) (told : List Post) (left : List Message) (held : List Held) : Type 0 where
  pub nothing : held_by n t m ≡ [] → NothingThere told left held
  pub something : (q : Post) (x : Held) → IsOfClient n q → held_by n t m ≡ x ∷ [] → HoldsIt q x → StageOf q t told left held

-- which Fetches are to be tried again
abbrev pub left_of : ℕ → List Message → List Message
left_of n asks = filter (is_fetch_of n) asks

abbrev StandsThen : ℕ → ℕ → TargetMemory → VerdictStage → Type 0
StandsThen n t m Heard = Unit {0}
StandsThen n t m (Freed asks z posts) = Stands n t m (told_to n posts) (left_of n asks) (held_by n t z)
StandsThen n t m (Trying f s asks z posts) = Stands n t m (told_to n posts) (left_of n (fetch_message f ∷ asks)) (held_by n t z) × HasOwn f s

left-asks : (n : ℕ) (ps : List Parked) → left_of n (map parked_ask ps) ≡ map parked_ask (filter (is_parked_of n) ps)
left-asks n [] = refl
left-asks n (p ∷ ps) = by (left-asks n ps) (is_parked_of n p)
  where
    by : left_of n (map parked_ask ps) ≡ map parked_ask (filter (is_parked_of n) ps) → (b : Bool) → (if b then p.ask ∷ left_of n (map parked_ask ps) else left_of n (map parked_ask ps)) ≡ map parked_ask (if b then p ∷ filter (is_parked_of n) ps else filter (is_parked_of n) ps)
    by rest true = ap (λ asks. p.ask ∷ asks) rest
    by rest false = rest

-- what is resolved sets free the Fetches that wait for it
module _ (n t : ℕ) (a : AttemptId) (m z : TargetMemory) (parked : z.member.parked ≡ filter (is_parked_elsewhere a) m.member.parked) (undecided : z.leader.undecided ≡ m.leader.undecided) (collecting : z.collecting ≡ m.collecting) where
  abbrev pub freed : List Message
  freed = map parked_ask (filter (is_parked_on a) m.member.parked)

  left-own : left_of n freed ≡ map parked_ask (filter (is_parked_on a) (filter (is_parked_of n) m.member.parked))
  left-own = left-asks n (filter (is_parked_on a) m.member.parked) ∙ ap (map parked_ask) (filter-swap (is_parked_of n) (is_parked_on a) m.member.parked)

  held-then : (ps : List Held) → map (parked_at t) (filter (is_parked_elsewhere a) (filter (is_parked_of n) m.member.parked)) ≡ ps → held_by n t z ≡ ps ++ (open_part n t m.leader.undecided ++ collected_part n t m.collecting)
  held-then ps is =
      held-parts n t z ps (open_part n t m.leader.undecided) (collected_part n t m.collecting) (ap (parked_part n t) parked ∙ ap (map (parked_at t)) (filter-swap (is_parked_of n) (is_parked_elsewhere a) m.member.parked) ∙ is) (ap (open_part n t) undecided)
      (ap (collected_part n t) collecting)

  none-resolved : filter (is_parked_of n) m.member.parked ≡ [] → (left_of n freed ≡ []) × (held_by n t z ≡ held_by n t m)
  none-resolved none =
      (left-own ∙ ap (λ ps. map parked_ask (filter (is_parked_on a) ps)) none, held-then (parked_part n t m.member.parked) (ap (λ ps. map (parked_at t) (filter (is_parked_elsewhere a) ps)) none ∙ sym (ap (map (parked_at t)) none)))

  one-resolved : (p : Parked) (q : Post) → filter (is_parked_of n) m.member.parked ≡ p ∷ [] → open_part n t m.leader.undecided ≡ [] → collected_part n t m.collecting ≡ [] → held_by n t m ≡ ParkedAt t p.ask ∷ [] → HoldsIt q (ParkedAt t p.ask)
      → StageOf q t [] (left_of n freed) (held_by n t z)
  one-resolved p q one opened collected held holds = by (same_attempt p.on a) refl
    where
      by : (b : Bool) → same_attempt p.on a ≡ b → StageOf q t [] (left_of n freed) (held_by n t z)
      by true on =
          let f = waits-for q (ParkedAt t p.ask) holds in
          IsLeft f.0 refl (left-own ∙ ap (λ ps. map parked_ask (filter (is_parked_on a) ps)) one ∙ ap (map parked_ask) (filter-yes (is_parked_on a) p [] on) ∙ ap (λ ask. ask ∷ []) f.1)
          (held-then [] (ap (λ ps. map (parked_at t) (filter (is_parked_elsewhere a) ps)) one ∙ ap (map (parked_at t)) (filter-no (is_parked_elsewhere a) p [] (ap not on))) ∙ ap (λ us. us ++ collected_part n t m.collecting) opened ∙ collected) f.2
      by false off =
          StaysHeld (ParkedAt t p.ask) refl (left-own ∙ ap (λ ps. map parked_ask (filter (is_parked_on a) ps)) one ∙ ap (map parked_ask) (filter-no (is_parked_on a) p [] off))
          (held-then (ParkedAt t p.ask ∷ []) (ap (λ ps. map (parked_at t) (filter (is_parked_elsewhere a) ps)) one ∙ ap (map (parked_at t)) (filter-yes (is_parked_elsewhere a) p [] (ap not off))) ∙ ap (λ us. ParkedAt t p.ask ∷ us ++ collected_part n t m.collecting) opened ∙ ap (λ cs. ParkedAt t p.ask ∷ cs) collected) holds

  pub resolved-stands : Holding n t m → Stands n t m [] (left_of n freed) (held_by n t z)
  resolved-stands h = by (own-parked n t m h)
    where
      by : OwnParked n t m → Stands n t m [] (left_of n freed) (held_by n t z)
      by (NoneWaits none) =
          let o = none-resolved none in
          record { nothing = λ free. record { untold = refl; none_left = o.0; none_held = o.1 ∙ free }; something = λ q x of one holds. StaysHeld x refl o.0 (o.1 ∙ one) holds }
      by (OneWaits p one opened collected held) = record {
        nothing = λ free. (let no : ⊥ = cc (sym held ∙ free) in absurd no);
        something = λ q x of it holds. (let both : ParkedAt t p.ask ∷ [] ≡ x ∷ [] = sym held ∙ it in let same : x ≡ ParkedAt t p.ask = cc in one-resolved p q one opened collected held (subst (HoldsIt q) same holds));
      }

-- what passes stands
passes-stands : (n t : ℕ) (m z : TargetMemory) (posts : List Post) → Passes n t m z posts → Stands n t m (told_to n posts) [] (held_by n t z)
passes-stands n t m z posts (Leaves o) = record { nothing = λ free. record { untold = o.told; none_left = refl; none_held = o.held ∙ free }; something = λ q x of one holds. StaysHeld x o.told refl (o.held ∙ one) holds }
passes-stands n t m z posts (HandsOn y held goes) = record {
  nothing = λ free. (let no : ⊥ = cc (sym held ∙ free) in absurd no);
  something = λ q x of one holds. (let both : y ∷ [] ≡ x ∷ [] = sym held ∙ one in let same : x ≡ y = cc in by q (goes q of (subst (HoldsIt q) same holds)));
}
  where
    by : (q : Post) → Goes q (told_to n posts) (held_by n t z) → StageOf q t (told_to n posts) [] (held_by n t z)
    by q (IsTold p told kept answers) = WasTold p told refl kept answers
    by q (IsKept x untold kept holds) = StaysHeld x untold refl kept holds

-- what a Verdict sets free
freed-stands : (n t : ℕ) (p : TargetPlan) (a : AttemptId) (ask : Option AttemptId) (v : Verdict) (m : TargetMemory) → Holding n t m
    → Stands n t m (told_to n (verdict_heard a ask v (member_at p m)).freed.posts) (left_of n (verdict_heard a ask v (member_at p m)).freed.again) (held_by n t (joins_on (verdict_heard a ask v (member_at p m)).member m))
unfolding unresolved
freed-stands n t p a ask verdict.Committed m h = resolved-stands n t a m (joins_on (resolved a (member_at p m)).member m) refl refl refl h
freed-stands n t p a ask verdict.Aborted m h = resolved-stands n t a m (joins_on (resolved a (member_at p m)).member m) refl refl refl h
freed-stands n t p a (Some x) verdict.Undecided m h =
    passes-stands n t m (joins_on (unresolved a x (member_at p m)).member m) (all_unresolved_told a (filter (is_waiting a x) m.member.parked))
    (tells-unresolved n t a x m (joins_on (unresolved a x (member_at p m)).member m) (all_unresolved_told a (filter (is_waiting a x) m.member.parked)) (record { says = refl; parked = refl; undecided = refl; collecting = refl }) h)
freed-stands n t p a None verdict.Undecided m h = passes-stands n t m (joins_on (verdict_heard a None verdict.Undecided (member_at p m)).member m) [] (Leaves (record { told = refl; held = refl }))

-- ---- one Fetch is tried

abbrev request_or : FetchRequest → Message → FetchRequest
request_or d (message.Fetch x op group ep first tracker r snapshot) = record { attempt = x; op = op; group = group; ep = ep; first = first; tracker = tracker; read = r; snapshot = snapshot }
request_or d m = d

fetch-same : (f g : FetchRequest) → fetch_message f ≡ fetch_message g → g ≡ f
fetch-same f g same = sym (ap (request_or f) same)

module _ (n t : ℕ) (m z : TargetMemory) (posts : List Post) (rest : List Message) (f : FetchRequest) (left : TargetMemory × Did) (leaves : FetchLeaves f (client f.attempt.client) z left) (collects : left.0.collecting ≡ z.collecting) where
  told-more : told_to n (posts ++ left.1.posts) ≡ told_to n posts ++ told_to n left.1.posts
  told-more = filter-append (is_post_to n) posts left.1.posts

  other-tried : (f.attempt.client == n) ≡ false → Stands n t m (told_to n posts) (left_of n (fetch_message f ∷ rest)) (held_by n t z) → Stands n t m (told_to n (posts ++ left.1.posts)) (left_of n rest) (held_by n t left.0)
  other-tried off k =
      let o = fetch-off t f.attempt.client f z left refl collects n off leaves in
      subst (λ ps. Stands n t m ps (left_of n rest) (held_by n t left.0)) (sym (told-more ∙ ap (λ x. told_to n posts ++ x) o.told ∙ append-nil (told_to n posts)))
      (subst (λ asks. Stands n t m (told_to n posts) asks (held_by n t left.0)) (filter-no (is_fetch_of n) (fetch_message f) rest off) (subst (λ hs. Stands n t m (told_to n posts) (left_of n (fetch_message f ∷ rest)) hs) (sym o.held) k))

  own-tried : (f.attempt.client == n) ≡ true → Stands n t m (told_to n posts) (left_of n (fetch_message f ∷ rest)) (held_by n t z) → Stands n t m (told_to n (posts ++ left.1.posts)) (left_of n rest) (held_by n t left.0)
  own-tried on k = record {
    nothing = λ free. (let o = k.nothing free in let no : ⊥ = cc (sym first ∙ o.none_left) in absurd no);
    something = λ q x of one holds. by q (k.something q x of one holds);
  }
    where
      first : left_of n (fetch_message f ∷ rest) ≡ fetch_message f ∷ left_of n rest
      first = filter-yes (is_fetch_of n) (fetch_message f) rest on

      goes : (q : Post) → StandsFor q t f → held_by n t z ≡ [] → Goes q (told_to n left.1.posts) (held_by n t left.0)
      goes q stands none =
          let same = number_same f.attempt.client n on in
          subst (λ i. Goes q (told_to i left.1.posts) (held_by i t left.0)) same (fetch-on t f.attempt.client f z left refl collects q stands (subst (λ i. held_by i t z ≡ []) (sym same) none) leaves)

      goes-then : (q : Post) → told_to n posts ≡ [] → left_of n rest ≡ [] → Goes q (told_to n left.1.posts) (held_by n t left.0) → StageOf q t (told_to n (posts ++ left.1.posts)) (left_of n rest) (held_by n t left.0)
      goes-then q untold none (IsTold p told kept answers) = WasTold p (told-more ∙ ap (λ x. x ++ told_to n left.1.posts) untold ∙ told) none kept answers
      goes-then q untold none (IsKept x still kept holds) = StaysHeld x (told-more ∙ ap (λ x. x ++ told_to n left.1.posts) untold ∙ still) none kept holds

      by : (q : Post) → StageOf q t (told_to n posts) (left_of n (fetch_message f ∷ rest)) (held_by n t z) → StageOf q t (told_to n (posts ++ left.1.posts)) (left_of n rest) (held_by n t left.0)
      by q (WasTold p told none kept answers) = let no : ⊥ = cc (sym first ∙ none) in absurd no
      by q (StaysHeld x untold none kept holds) = let no : ⊥ = cc (sym first ∙ none) in absurd no
      by q (IsLeft g untold is kept stands) =
          let both : fetch_message f ∷ left_of n rest ≡ fetch_message g ∷ [] = sym first ∙ is in
          let same : fetch_message f ≡ fetch_message g = cc in
          let none : left_of n rest ≡ [] = cc in
          goes-then q untold none (goes q (subst (StandsFor q t) (fetch-same f g same) stands) kept)

  tried-stands : Stands n t m (told_to n posts) (left_of n (fetch_message f ∷ rest)) (held_by n t z) → Stands n t m (told_to n (posts ++ left.1.posts)) (left_of n rest) (held_by n t left.0)
  tried-stands k = by (f.attempt.client == n) refl
    where
      by : (b : Bool) → (f.attempt.client == n) ≡ b → Stands n t m (told_to n (posts ++ left.1.posts)) (left_of n rest) (held_by n t left.0)
      by true on = own-tried on k
      by false off = other-tried off k

-- ---- the turn

verdict-step : (is_due : AttemptId → Durable → Bool) (n t : ℕ) (p : TargetPlan) (m : TargetMemory) (reading : ℕ) (a : AttemptId) (ask : Option AttemptId) (v : Verdict) → Holding n t m
    → (s : VerdictStage) (k : Kept) (o : Option Change) (u : VerdictStage) (l : Kept) → VerdictNext is_due p m reading a ask v s k o u → Steps o k l → StandsThen n t m s → StandsThen n t m u
verdict-step is_due n t p m reading a ask v h s k o u l (SettlesBy k2 o2 says) steps c = freed-stands n t p a ask v m h
verdict-step is_due n t p m reading a ask v h s k o u l (TriesNext k2 z posts rest x op group ep first tracker rd snapshot) steps c = (c, tt)
verdict-step is_due n t p m reading a ask v h s k o u l (GoesOn k2 z posts rest f g g2 o2 next) steps c = (c.0, own-goes p z reading f g g2 k2 o2 next c.1)
verdict-step is_due n t p m reading a ask v h s k o u l (IsDone k2 z posts rest f g left ends) steps c =
    tried-stands n t m z posts rest f left (fetch-leaves p z reading f (client f.attempt.client) g k2 left c.1 ends) (fetch-collects p z reading f (client f.attempt.client) g k2 left ends) c.0

pub verdict-turns : (is_due : AttemptId → Durable → Bool) (n t : ℕ) (p : TargetPlan) (m : TargetMemory) (reading : ℕ) (a : AttemptId) (ask : Option AttemptId) (v : Verdict) (old new : Kept) (left : TargetMemory × Did)
    → Whole (VerdictNext is_due p m reading a ask v) VerdictEnds Heard old new left → Holding n t m → Stands n t m (told_to n left.1.posts) [] (held_by n t left.0)
verdict-turns is_due n t p m reading a ask v old new left w h =
    ends w.last new left w.ends (reached-keeps (VerdictNext is_due p m reading a ask v) (λ s k. StandsThen n t m s) (verdict-step is_due n t p m reading a ask v h) Heard old w.last new w.reached tt)
  where
    ends : (s : VerdictStage) (k : Kept) (o : TargetMemory × Did) → VerdictEnds s k o → StandsThen n t m s → Stands n t m (told_to n o.1.posts) [] (held_by n t o.0)
    ends s k o (AllTried k2 z posts o2 says) c = subst (λ (y : TargetMemory × Did). Stands n t m (told_to n y.1.posts) [] (held_by n t y.0)) (sym says) c

-- so it goes on for each client
pub stands-one : (n t : ℕ) (l : Letter) (m z : TargetMemory) (posts : List Post) → is_talk_of n l ≡ false → (Holding n t m → Stands n t m (told_to n posts) [] (held_by n t z)) → TurnsFor n t l m z posts
stands-one n t l m z posts none stands = record {
  free = λ off nothing. (let o = (stands (HoldsNone nothing)).nothing nothing in (o.untold, o.none_held));
  holds = λ q x of off one holds. by q ((stands (HoldsOne q x of one holds)).something q x of one holds);
  hears = λ q of is nothing. clash (is_talk_of n l) (asked-is_talk n l q of is) none;
}
  where
    by : (q : Post) → StageOf q t (told_to n posts) [] (held_by n t z) → Goes q (told_to n posts) (held_by n t z)
    by q (WasTold p told left kept answers) = IsTold p told kept answers
    by q (IsLeft f untold left kept stands) = let no : ⊥ = cc in absurd no
    by q (StaysHeld x untold left kept holds) = IsKept x untold kept holds
