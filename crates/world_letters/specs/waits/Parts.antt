-- What a target holds for a client, part by part, and what a turn leaves of it.
use Rattle.std.specs.Prelude.{ℕ, ◌≡◌, ◌++◌, ◌==◌, Bool, true, false, if◌then◌else◌, List, [], ◌∷◌, filter, map, Option, Some, refl}
use Rattle.std.proofs.Common.{append-nil, sym, ◌∙◌, ap, subst, inl, inr}
use Rattle.std.proofs.lemmas.List.Elements.{filter-append}
use Rattle.base_types.specs.declared.epoch.Epoch.{Epoch}
use Rattle.base_types.specs.declared.id.AttemptId.{AttemptId}
use Rattle.base_types.specs.declared.outcome.Outcome.{Outcome}
use Rattle.base_messages.specs.declared.message.Message.{Message}
use Rattle.base_messages.specs.declared.message.Message.TheVariants as message
use Rattle.base_messages.specs.declared.message.Post.{Post}
use Rattle.daos_model.specs.Answers.{is_before}
use Rattle.daos_model.specs.BoolLaws.{clash}
use Rattle.daos_model.specs.Ordered.{put}
use Rattle.world_base.specs.dtx_base.declared.leading.Undecided.{Undecided}
use Rattle.world_base.specs.dtx_base.declared.member.Parked.{Parked}
use Rattle.world_base.specs.model_laws.Members.{Has, has-filter, has-from_map, has-left, has-map, has-right}
use Rattle.world_base.specs.model_laws.TargetLaws.{number_same, same_number}
use Rattle.world_base.specs.declared.letter.Letter.{Letter}
use Rattle.world_base.specs.declared.target.Collection.{Collection}
use Rattle.world_base.specs.declared.target.TargetMemory.{TargetMemory}
use Rattle.world_base.specs.ClientTurns.{request_of}
use Rattle.world_base.specs.Letters.{client, is_client, is_talk_of, is_tell, letter_of, target}
use Rattle.world_letters.specs.talks.Conversation as carrier
use Rattle.world_letters.specs.talks.Conversation.{Answers, Carrier, is_fetch_of}
use Rattle.world_letters.specs.talks.LeaveLaws.{HoldsOn}
use Rattle.world_letters.specs.talks.TalkLaws.{sent-is-of, sent-is-talk}
use Rattle.world_letters.specs.waits.Lists.{filter-no, filter-yes}
use Rattle.world_letters.specs.waits.Passing.{Goes, IsKept, IsOfClient, TurnsFor, is_post_to, none-part, one-part, told_to}
use Rattle.world_letters.specs.waits.Waits.{AnAggregation, AnAsk, ARead, ASnapshot, CollectedAt, Held, HoldsIt, ItsWrites, OpenAt, ParkedAt, collected_at, held_by, is_collected_of, is_open_of, is_parked_of, is_waited_by, open_at, parked_at}

-- ---- three parts

abbrev pub parked_part : ℕ → ℕ → List Parked → List Held
parked_part n t ps = map (parked_at t) (filter (is_parked_of n) ps)

abbrev pub open_part : ℕ → ℕ → List Undecided → List Held
open_part n t us = map (open_at t) (filter (is_open_of n) us)

abbrev pub collected_part : ℕ → ℕ → List Collection → List Held
collected_part n t cs = map (collected_at t) (filter (is_collected_of n) cs)

pub held-parts : (n t : ℕ) (m : TargetMemory) (ps us cs : List Held) → parked_part n t m.member.parked ≡ ps → open_part n t m.leader.undecided ≡ us → collected_part n t m.collecting ≡ cs → held_by n t m ≡ ps ++ (us ++ cs)
held-parts n t m ps us cs e f g =
    ap (λ x. x ++ (open_part n t m.leader.undecided ++ collected_part n t m.collecting)) e ∙ ap (λ x. ps ++ (x ++ collected_part n t m.collecting)) f ∙ ap (λ x. ps ++ (us ++ x)) g

-- where nothing is held, no part is
pub record NoParts (n t : ℕ) (m : TargetMemory) : Type 0 where
  pub parked : parked_part n t m.member.parked ≡ []
  pub opened : open_part n t m.leader.undecided ≡ []
  pub collected : collected_part n t m.collecting ≡ []

pub no-parts : (n t : ℕ) (m : TargetMemory) → held_by n t m ≡ [] → NoParts n t m
no-parts n t m none =
    let a = none-part (parked_part n t m.member.parked) (open_part n t m.leader.undecided ++ collected_part n t m.collecting) none in
    let b = none-part (open_part n t m.leader.undecided) (collected_part n t m.collecting) a.1 in
    record { parked = a.0; opened = b.0; collected = b.1 }

pub no-map : {T U : Type 0} (f : T → U) (xs : List T) → map f xs ≡ [] → xs ≡ []
no-map f [] none = refl
no-map f (x ∷ xs) none = let no : ⊥ = cc in absurd no

-- what is left of an undecided attempt but for who was counted
abbrev opens : ℕ → List Carrier → List Held
opens n [] = []
opens n (carrier.OpenAt t x waiting ∷ xs) = if is_waited_by n waiting then OpenAt t x ∷ opens n xs else opens n xs
opens n (x ∷ xs) = opens n xs

open-part_is : (n t : ℕ) (us : List Undecided) → opens n (map (carrier.open_at t) us) ≡ open_part n t us
open-part_is n t [] = refl
open-part_is n t (u ∷ us) = by (open-part_is n t us) (is_waited_by n u.client)
  where
    by : opens n (map (carrier.open_at t) us) ≡ open_part n t us → (b : Bool) → (if b then OpenAt t u.attempt ∷ opens n (map (carrier.open_at t) us) else opens n (map (carrier.open_at t) us)) ≡ map (open_at t) (if b then u ∷ filter (is_open_of n) us else filter (is_open_of n) us)
    by rest true = ap (λ xs. OpenAt t u.attempt ∷ xs) rest
    by rest false = rest

pub open-part_same : (n t : ℕ) (us vs : List Undecided) → map (carrier.open_at t) us ≡ map (carrier.open_at t) vs → open_part n t us ≡ open_part n t vs
open-part_same n t us vs same = sym (open-part_is n t us) ∙ ap (opens n) same ∙ open-part_is n t vs

-- a target that goes on holding the same
pub holds-on : (n t : ℕ) (m z : TargetMemory) → HoldsOn m z → z.collecting ≡ m.collecting → held_by n t z ≡ held_by n t m
holds-on n t m z h collecting =
    held-parts n t z (parked_part n t m.member.parked) (open_part n t m.leader.undecided) (collected_part n t m.collecting) (ap (parked_part n t) h.parked) (open-part_same n t z.leader.undecided m.leader.undecided (h.undecided t)) (ap (collected_part n t) collecting)

pub holds-same : (n t : ℕ) (m z : TargetMemory) → z.member.parked ≡ m.member.parked → z.leader.undecided ≡ m.leader.undecided → z.collecting ≡ m.collecting → held_by n t z ≡ held_by n t m
holds-same n t m z parked undecided collecting =
    held-parts n t z (parked_part n t m.member.parked) (open_part n t m.leader.undecided) (collected_part n t m.collecting) (ap (parked_part n t) parked) (ap (open_part n t) undecided) (ap (collected_part n t) collecting)

-- ---- one more among others

pub filter-put_off : {T : Type 0} (p : T → Bool) (key : T → List ℕ) (v : T) (us : List T) → p v ≡ false → filter p (put key v us) ≡ filter p us
filter-put_off p key v [] off = filter-no p v [] off
filter-put_off {T} p key v (u ∷ us) off = by (filter-put_off p key v us off) (is_before (key u) (key v))
  where
    by : filter p (put key v us) ≡ filter p us → (b : Bool) → filter p (if b then u ∷ put key v us else v ∷ u ∷ us) ≡ filter p (u ∷ us)
    by rest true = more (p u) refl
      where
        more : (c : Bool) → p u ≡ c → filter p (u ∷ put key v us) ≡ filter p (u ∷ us)
        more true e = filter-yes p u (put key v us) e ∙ ap (λ xs. u ∷ xs) rest ∙ sym (filter-yes p u us e)
        more false e = filter-no p u (put key v us) e ∙ rest ∙ sym (filter-no p u us e)
    by rest false = filter-no p v (u ∷ us) off

pub filter-put_on : {T : Type 0} (p : T → Bool) (key : T → List ℕ) (v : T) (us : List T) → p v ≡ true → filter p us ≡ [] → filter p (put key v us) ≡ v ∷ []
filter-put_on p key v [] on none = filter-yes p v [] on
filter-put_on {T} p key v (u ∷ us) on none = by (filter-put_on p key v us on) (is_before (key u) (key v)) (p u) refl
  where
    by : (filter p us ≡ [] → filter p (put key v us) ≡ v ∷ []) → (b c : Bool) → p u ≡ c → filter p (if b then u ∷ put key v us else v ∷ u ∷ us) ≡ v ∷ []
    by rest b true e = let no : ⊥ = cc (sym (filter-yes p u us e) ∙ none) in absurd no
    by rest true false e = filter-no p u (put key v us) e ∙ rest (sym (filter-no p u us e) ∙ none)
    by rest false false e = filter-yes p v (u ∷ us) on ∙ ap (λ xs. v ∷ xs) none

pub filter-last_off : {T : Type 0} (p : T → Bool) (v : T) (us : List T) → p v ≡ false → filter p (us ++ v ∷ []) ≡ filter p us
filter-last_off p v us off = filter-append p us (v ∷ []) ∙ ap (λ x. filter p us ++ x) (filter-no p v [] off) ∙ append-nil (filter p us)

pub filter-last_on : {T : Type 0} (p : T → Bool) (v : T) (us : List T) → p v ≡ true → filter p us ≡ [] → filter p (us ++ v ∷ []) ≡ v ∷ []
filter-last_on p v us on none = filter-append p us (v ∷ []) ∙ ap (λ x. x ++ filter p (v ∷ [])) none ∙ filter-yes p v [] on

-- ---- whose it is

-- what is held of a client's question is of an attempt of that client
abbrev pub IsHeldOf : ℕ → Held → Type 0
IsHeldOf n (ParkedAt t ask) = is_fetch_of n ask ≡ true
IsHeldOf n (OpenAt t x) = x.client ≡ n
IsHeldOf n (CollectedAt t c) = c.attempt.client ≡ n

pub its-own : (n : ℕ) (q : Post) (x : AttemptId) → IsOfClient n q → request_of q.message ≡ Some x → x.client ≡ n
its-own n q x of is = let same : Some x ≡ Some of.x = sym is ∙ of.asks in let it : x ≡ of.x = cc in ap (λ y. y.client) it ∙ of.own

pub held-own : (n : ℕ) (q : Post) (x : Held) → IsOfClient n q → HoldsIt q x → IsHeldOf n x
held-own n q x of (ARead t ask f e to asked own it) = ap (is_fetch_of n) it ∙ ap (λ m. m == n) (its-own n q f.attempt of (ap request_of asked)) ∙ same_number n
held-own n q x of (ItsWrites t f to asked) = its-own n q f.attempt of (ap request_of asked)
held-own n q x of (AnAsk t y to asked) = its-own n q y of (ap request_of asked)
held-own n q x of (ASnapshot t c name k to asked named) = its-own n q c.attempt of (ap request_of asked)
held-own n q x of (AnAggregation t c k to asked named) = its-own n q c.attempt of (ap request_of asked)

-- What a target holds for a client: nothing, or what the client asked.
pub data Holding (n t : ℕ) (m : TargetMemory) : Type 0 where
  HoldsNone : held_by n t m ≡ [] → Holding n t m
  HoldsOne : (q : Post) (x : Held) → IsOfClient n q → held_by n t m ≡ x ∷ [] → HoldsIt q x → Holding n t m

held-is_own : (n t : ℕ) (m : TargetMemory) → Holding n t m → (y : Held) → Has y (held_by n t m) → IsHeldOf n y
held-is_own n t m (HoldsNone none) y i = absurd (subst (Has y) none i)
held-is_own n t m (HoldsOne q x of one holds) y i = by (subst (Has y) one i)
  where
    by : Has y (x ∷ []) → IsHeldOf n y
    by (inl same) = subst (IsHeldOf n) (sym same) (held-own n q x of holds)
    by (inr none) = absurd none

row-among : (n t : ℕ) (m : TargetMemory) (u : Undecided) → Has u m.leader.undecided → is_open_of n u ≡ true → Has (OpenAt t u.attempt) (held_by n t m)
row-among n t m u i is =
    has-right (parked_part n t m.member.parked) (open_part n t m.leader.undecided ++ collected_part n t m.collecting) (OpenAt t u.attempt)
    (has-left (open_part n t m.leader.undecided) (collected_part n t m.collecting) (OpenAt t u.attempt) (has-map (open_at t) (filter (is_open_of n) m.leader.undecided) u (has-filter (is_open_of n) m.leader.undecided u i is)))

collection-among : (n t : ℕ) (m : TargetMemory) (c : Collection) → Has c m.collecting → is_collected_of n c ≡ true → Has (CollectedAt t c) (held_by n t m)
collection-among n t m c i is =
    has-right (parked_part n t m.member.parked) (open_part n t m.leader.undecided ++ collected_part n t m.collecting) (CollectedAt t c)
    (has-right (open_part n t m.leader.undecided) (collected_part n t m.collecting) (CollectedAt t c) (has-map (collected_at t) (filter (is_collected_of n) m.collecting) c (has-filter (is_collected_of n) m.collecting c i is)))

pub row-own : (n t : ℕ) (m : TargetMemory) → Holding n t m → (u : Undecided) → Has u m.leader.undecided → is_open_of n u ≡ true → u.attempt.client ≡ n
row-own n t m h u i is = held-is_own n t m h (OpenAt t u.attempt) (row-among n t m u i is)

pub collection-own : (n t : ℕ) (m : TargetMemory) → Holding n t m → (c : Collection) → Has c m.collecting → is_collected_of n c ≡ true → c.attempt.client ≡ n
collection-own n t m h c i is = held-is_own n t m h (CollectedAt t c) (collection-among n t m c i is)

-- ---- turns that leave a client

-- a turn tells a client nothing, and holds as much for it
pub record LeavesOut (n t : ℕ) (m z : TargetMemory) (posts : List Post) : Type 0 where
  pub told : told_to n posts ≡ []
  pub held : held_by n t z ≡ held_by n t m

request-no_tell : (m : Message) (x : AttemptId) → request_of m ≡ Some x → is_tell m ≡ false
request-no_tell (message.Tell k) x is = let no : ⊥ = cc in absurd no
request-no_tell m x is = refl

pub asked-is_talk : (n : ℕ) (l : Letter) (q : Post) → IsOfClient n q → l ≡ letter_of (client n) q → is_talk_of n l ≡ true
asked-is_talk n l q of is = sent-is-talk n l (ap (λ x. is_tell x.message) is ∙ request-no_tell q.message of.x of.asks) (ap (λ x. x.from) is)

-- a letter that is none of a client's leaves it out
pub leaves-one : (n t : ℕ) (l : Letter) (m z : TargetMemory) (posts : List Post) → is_talk_of n l ≡ false → (Holding n t m → LeavesOut n t m z posts) → TurnsFor n t l m z posts
leaves-one n t l m z posts none leaves = record {
  free = λ off nothing. (let o = leaves (HoldsNone nothing) in (o.told, o.held ∙ nothing));
  holds = λ q x of off one holds. (let o = leaves (HoldsOne q x of one holds) in IsKept x o.told (o.held ∙ one) holds);
  hears = λ q of is nothing. clash (is_talk_of n l) (asked-is_talk n l q of is) none;
}

-- A turn leaves a client out; or what it holds for it goes on.
pub data Passes (n t : ℕ) (m z : TargetMemory) (posts : List Post) : Type 0 where
  Leaves : LeavesOut n t m z posts → Passes n t m z posts
  HandsOn : (x : Held) → held_by n t m ≡ x ∷ [] → ((q : Post) → IsOfClient n q → HoldsIt q x → Goes q (told_to n posts) (held_by n t z)) → Passes n t m z posts

pub passes-one : (n t : ℕ) (l : Letter) (m z : TargetMemory) (posts : List Post) → is_talk_of n l ≡ false → (Holding n t m → Passes n t m z posts) → TurnsFor n t l m z posts
passes-one n t l m z posts none passes = record {
  free = λ off nothing. free nothing (passes (HoldsNone nothing));
  holds = λ q x of off one holds. on q x of one holds (passes (HoldsOne q x of one holds));
  hears = λ q of is nothing. clash (is_talk_of n l) (asked-is_talk n l q of is) none;
}
  where
    free : held_by n t m ≡ [] → Passes n t m z posts → (told_to n posts ≡ []) × (held_by n t z ≡ [])
    free nothing (Leaves o) = (o.told, o.held ∙ nothing)
    free nothing (HandsOn x one goes) = let no : ⊥ = cc (sym nothing ∙ one) in absurd no

    on : (q : Post) (x : Held) → IsOfClient n q → held_by n t m ≡ x ∷ [] → HoldsIt q x → Passes n t m z posts → Goes q (told_to n posts) (held_by n t z)
    on q x of one holds (Leaves o) = IsKept x o.told (o.held ∙ one) holds
    on q x of one holds (HandsOn y other goes) = let both : y ∷ [] ≡ x ∷ [] = sym other ∙ one in let same : x ≡ y = cc in goes q of (subst (HoldsIt q) same holds)

-- a letter of a client: others are left out, and its question goes on
pub turns-asked : (j t : ℕ) (l : Letter) (m z : TargetMemory) (posts : List Post) → l.from ≡ client j → l.to ≡ target t → is_tell l.message ≡ false
    → ((n : ℕ) → (j == n) ≡ false → Holding n t m → LeavesOut n t m z posts)
    → ((q : Post) → IsOfClient j q → l ≡ letter_of (client j) q → held_by j t m ≡ [] → Goes q (told_to j posts) (held_by j t z))
    → (n : ℕ) → TurnsFor n t l m z posts
turns-asked j t l m z posts from to no_tell leaves goes n = by (j == n) refl
  where
    its : is_talk_of n l ≡ (j == n)
    its = sent-is-of n j l no_tell from (ap (λ a. a.client) to)

    by : (b : Bool) → (j == n) ≡ b → TurnsFor n t l m z posts
    by false off = leaves-one n t l m z posts (its ∙ off) (leaves n off)
    by true on = record {
      free = λ off nothing. clash (is_talk_of n l) (its ∙ on) off;
      holds = λ q x of off one holds. clash (is_talk_of n l) (its ∙ on) off;
      hears = subst (λ i. (q : Post) → IsOfClient i q → l ≡ letter_of (client i) q → held_by i t m ≡ [] → Goes q (told_to i posts) (held_by i t z)) (number_same j n on) goes;
    }

-- ---- what is told

pub told-one_off : (n : ℕ) (posts : List Post) (p : Post) → posts ≡ p ∷ [] → is_client n p.to ≡ false → told_to n posts ≡ []
told-one_off n posts p one off = ap (told_to n) one ∙ filter-no (is_post_to n) p [] off

pub told-one_on : (n : ℕ) (posts : List Post) (p : Post) → posts ≡ p ∷ [] → is_client n p.to ≡ true → told_to n posts ≡ p ∷ []
told-one_on n posts p one on = ap (told_to n) one ∙ filter-yes (is_post_to n) p [] on

-- ---- which part it is

abbrev kind_of : Held → ℕ
kind_of (ParkedAt t ask) = 0
kind_of (OpenAt t x) = 1
kind_of (CollectedAt t c) = 2

-- what is held is in one part, and the others are empty
pub record InParts (n t : ℕ) (m : TargetMemory) (ps us cs : List Held) : Type 0 where
  pub parked : parked_part n t m.member.parked ≡ ps
  pub opened : open_part n t m.leader.undecided ≡ us
  pub collected : collected_part n t m.collecting ≡ cs

pub data WhichPart (n t : ℕ) (m : TargetMemory) (x : Held) : Type 0 where
  AmongParked : InParts n t m (x ∷ []) [] [] → WhichPart n t m x
  AmongOpen : InParts n t m [] (x ∷ []) [] → WhichPart n t m x
  AmongCollected : InParts n t m [] [] (x ∷ []) → WhichPart n t m x

pub which-part : (n t : ℕ) (m : TargetMemory) (x : Held) → held_by n t m ≡ x ∷ [] → WhichPart n t m x
which-part n t m x one = elim (one-part (parked_part n t m.member.parked) (open_part n t m.leader.undecided ++ collected_part n t m.collecting) x one) [
  | inr a ↦ (let b = none-part (open_part n t m.leader.undecided) (collected_part n t m.collecting) a.1 in AmongParked (record { parked = a.0; opened = b.0; collected = b.1 }))
  | inl a ↦ elim (one-part (open_part n t m.leader.undecided) (collected_part n t m.collecting) x a.1) [
    | inr b ↦ AmongOpen (record { parked = a.0; opened = b.0; collected = b.1 })
    | inl b ↦ AmongCollected (record { parked = a.0; opened = b.0; collected = b.1 })
  ]
]

parked-kind : (n t : ℕ) (ps : List Parked) (x : Held) → parked_part n t ps ≡ x ∷ [] → kind_of x ≡ 0
parked-kind n t ps x one = let z = has-from_map (parked_at t) (filter (is_parked_of n) ps) x (subst (Has x) (sym one) (inl refl)) in ap kind_of (sym z.2)

open-kind : (n t : ℕ) (us : List Undecided) (x : Held) → open_part n t us ≡ x ∷ [] → kind_of x ≡ 1
open-kind n t us x one = let z = has-from_map (open_at t) (filter (is_open_of n) us) x (subst (Has x) (sym one) (inl refl)) in ap kind_of (sym z.2)

collected-kind : (n t : ℕ) (cs : List Collection) (x : Held) → collected_part n t cs ≡ x ∷ [] → kind_of x ≡ 2
collected-kind n t cs x one = let z = has-from_map (collected_at t) (filter (is_collected_of n) cs) x (subst (Has x) (sym one) (inl refl)) in ap kind_of (sym z.2)

pub open-is : (n t : ℕ) (m : TargetMemory) (a : AttemptId) → held_by n t m ≡ OpenAt t a ∷ [] → InParts n t m [] (OpenAt t a ∷ []) []
open-is n t m a one = by (which-part n t m (OpenAt t a) one)
  where
    by : WhichPart n t m (OpenAt t a) → InParts n t m [] (OpenAt t a ∷ []) []
    by (AmongOpen k) = k
    by (AmongParked k) = let e = parked-kind n t m.member.parked (OpenAt t a) k.parked in let no : ⊥ = cc in absurd no
    by (AmongCollected k) = let e = collected-kind n t m.collecting (OpenAt t a) k.collected in let no : ⊥ = cc in absurd no

pub collected-is : (n t : ℕ) (m : TargetMemory) (c : Collection) → held_by n t m ≡ CollectedAt t c ∷ [] → InParts n t m [] [] (CollectedAt t c ∷ [])
collected-is n t m c one = by (which-part n t m (CollectedAt t c) one)
  where
    by : WhichPart n t m (CollectedAt t c) → InParts n t m [] [] (CollectedAt t c ∷ [])
    by (AmongCollected k) = k
    by (AmongParked k) = let e = parked-kind n t m.member.parked (CollectedAt t c) k.parked in let no : ⊥ = cc in absurd no
    by (AmongOpen k) = let e = open-kind n t m.leader.undecided (CollectedAt t c) k.opened in let no : ⊥ = cc in absurd no

-- a row of a client, or a collection, that a target holds is what it holds for it
pub row-is_held : (n t : ℕ) (m : TargetMemory) (u : Undecided) → Holding n t m → Has u m.leader.undecided → is_open_of n u ≡ true → held_by n t m ≡ OpenAt t u.attempt ∷ []
row-is_held n t m u h i is = by h
  where
    among : Has (OpenAt t u.attempt) (held_by n t m)
    among = row-among n t m u i is

    by : Holding n t m → held_by n t m ≡ OpenAt t u.attempt ∷ []
    by (HoldsNone none) = absurd (subst (Has (OpenAt t u.attempt)) none among)
    by (HoldsOne q x of one holds) = one ∙ it (subst (Has (OpenAt t u.attempt)) one among)
      where
        it : Has (OpenAt t u.attempt) (x ∷ []) → x ∷ [] ≡ OpenAt t u.attempt ∷ []
        it (inl same) = ap (λ y. y ∷ []) (sym same)
        it (inr none) = absurd none

pub collection-is_held : (n t : ℕ) (m : TargetMemory) (c : Collection) → Holding n t m → Has c m.collecting → is_collected_of n c ≡ true → held_by n t m ≡ CollectedAt t c ∷ []
collection-is_held n t m c h i is = by h
  where
    among : Has (CollectedAt t c) (held_by n t m)
    among = collection-among n t m c i is

    by : Holding n t m → held_by n t m ≡ CollectedAt t c ∷ []
    by (HoldsNone none) = absurd (subst (Has (CollectedAt t c)) none among)
    by (HoldsOne q x of one holds) = one ∙ it (subst (Has (CollectedAt t c)) one among)
      where
        it : Has (CollectedAt t c) (x ∷ []) → x ∷ [] ≡ CollectedAt t c ∷ []
        it (inl same) = ap (λ y. y ∷ []) (sym same)
        it (inr none) = absurd none

-- ---- what ends a question

-- that an attempt ended answers what a target holds of it
abbrev pub EndsFor : Post → Held → Type 0
EndsFor q (ParkedAt t ask) = Unit {0}
EndsFor q (OpenAt t x) = (own : Option Epoch) (how : Outcome) → Answers q.message (message.Ended x own how)
EndsFor q (CollectedAt t c) = (own : Option Epoch) (how : Outcome) → Answers q.message (message.Ended c.attempt own how)

pub ends-for : (q : Post) (x : Held) → HoldsIt q x → EndsFor q x
ends-for q x (ARead t ask f e to asked own it) = tt
ends-for q x (ItsWrites t f to asked) = λ own how. subst (λ z. Answers z (message.Ended f.attempt own how)) (sym asked) (own, how, refl)
ends-for q x (AnAsk t y to asked) = λ own how. subst (λ z. Answers z (message.Ended y own how)) (sym asked) (own, how, refl)
ends-for q x (ASnapshot t c name k to asked named) = λ own how. subst (λ z. Answers z (message.Ended c.attempt own how)) (sym asked) (own, how, refl)
ends-for q x (AnAggregation t c k to asked named) = λ own how. subst (λ z. Answers z (message.Ended c.attempt own how)) (sym asked) (own, how, refl)
