-- What goes about of reads, in lists, and from a question to its answer.
use Rattle.std.specs.Prelude.{ℕ, ◌≡◌, ◌≤◌, ◌+◌, ◌++◌, ◌==◌, Bool, true, false, not, List, [], ◌∷◌, filter, map, Option, refl, if◌then◌else◌}
use Rattle.std.proofs.Common.{sym, ◌∙◌, ap, subst, arith}
use Rattle.std.proofs.lemmas.Bool.Decides.{nat_tests}
use Rattle.base_types.specs.declared.answer.Answer.{Answer}
use Rattle.base_types.specs.declared.answer.Answer.TheVariants as answer
use Rattle.base_types.specs.declared.epoch.Epoch.{Epoch}
use Rattle.base_types.specs.declared.id.AttemptId.{AttemptId}
use Rattle.base_types.specs.declared.operation.Read.{Read}
use Rattle.base_types.specs.declared.operation.Read.TheVariants as read
use Rattle.base_types.specs.declared.outcome.Outcome.{Outcome}
use Rattle.base_types.specs.Paths.{record_size}
use Rattle.base_messages.specs.declared.message.Message.{Message}
use Rattle.base_messages.specs.declared.message.Message.TheVariants as message
use Rattle.base_messages.specs.declared.message.Reply.{Reply}
use Rattle.base_messages.specs.declared.message.Reply.TheVariants as reply
use Rattle.daos_model.specs.BoolLaws.{and_left, and_right}
use Rattle.daos_model.specs.Durables.{same_attempt}
use Rattle.daos_model.specs.Kinds.{are_pieces, is_of_kind}
use Rattle.world_letters.specs.kinds.Loads.{ask_alike, load, reply_weight, total, weight, weight_if}

-- ---- totals

pub total-append : {T : Type 0} (f : T → ℕ) (xs ys : List T) → total f (xs ++ ys) ≡ total f xs + total f ys
total-append f [] ys = omega arith
total-append f (x ∷ xs) ys = let rest = total-append f xs ys in omega (arith, rest)

pub total-map : {S T : Type 0} (f : T → ℕ) (g : S → T) (xs : List S) → total f (map g xs) ≡ total (λ x. f (g x)) xs
total-map f g [] = refl
total-map f g (x ∷ xs) = ap (λ n. f (g x) + n) (total-map f g xs)

pub total-none : {T : Type 0} (f : T → ℕ) (xs : List T) → ((x : T) → f x ≡ 0) → total f xs ≡ 0
total-none f [] none = refl
total-none f (x ∷ xs) none = let here = none x in let rest = total-none f xs none in omega (arith, here, rest)

-- those that pass a test carry no more than all
pub total-filter : {T : Type 0} (f : T → ℕ) (test : T → Bool) (xs : List T) → total f (filter test xs) ≤ total f xs
total-filter f test [] = omega arith
total-filter f test (x ∷ xs) = by (total-filter f test xs) (test x)
  where
    by : total f (filter test xs) ≤ total f xs → (b : Bool) → total f (if b then x ∷ filter test xs else filter test xs) ≤ f x + total f xs
    by rest true = omega (arith, rest)
    by rest false = omega (arith, rest)

-- those that pass it, and those that don't, carry all
pub total-parts : {T : Type 0} (f : T → ℕ) (test : T → Bool) (xs : List T) → total f (filter test xs) + total f (filter (λ x. not (test x)) xs) ≡ total f xs
total-parts f test [] = refl
total-parts f test (x ∷ xs) = by (total-parts f test xs) (test x)
  where
    by : total f (filter test xs) + total f (filter (λ y. not (test y)) xs) ≡ total f xs
        → (b : Bool) → total f (if b then x ∷ filter test xs else filter test xs) + total f (if not b then x ∷ filter (λ y. not (test y)) xs else filter (λ y. not (test y)) xs) ≡ f x + total f xs
    by rest true = omega (arith, rest)
    by rest false = omega (arith, rest)

-- one after another
pub total-split : {T : Type 0} (f : T → ℕ) (before after : List T) (x : T) → total f (before ++ x ∷ after) ≡ f x + total f (before ++ after)
total-split f before after x = let l = total-append f before (x ∷ after) in let r = total-append f before after in omega (arith, l, r)

-- what carries nothing of one read carries nothing of another
pub total-alike : {T : Type 0} (f g : T → ℕ) (xs : List T) → ((x : T) → f x ≡ 0 → g x ≡ 0) → total f xs ≡ 0 → total g xs ≡ 0
total-alike f g [] each none = refl
total-alike f g (x ∷ xs) each none =
    let here = each x (omega (arith, none)) in let rest = total-alike f g xs each (omega (arith, none)) in omega (arith, here, rest)

-- ---- kinds

pub alike-itself : (r : Read) → ask_alike r r ≡ true
unfolding ask_alike
alike-itself (read.Single p) = refl
alike-itself (read.Extent p low len) = grind (arith, nat_tests)
alike-itself (read.Dkeys p) = refl
alike-itself (read.Akeys p) = refl
alike-itself (read.Exists p) = refl

same-number : (m n : ℕ) → m == n ≡ true → m ≡ n
same-number m n e = grind (arith, nat_tests)

-- an answer of the kind of one is of the kind of the other
pub alike-kind : (r s : Read) (b : Answer) → ask_alike r s ≡ true → is_of_kind r b ≡ is_of_kind s b
unfolding ask_alike is_of_kind
alike-kind (read.Single p) (read.Single q) (answer.Bytes bytes) e = refl
alike-kind (read.Single p) (read.Single q) (answer.Parts ps) e = refl
alike-kind (read.Single p) (read.Single q) (answer.Names ks) e = refl
alike-kind (read.Single p) (read.Single q) answer.Yes e = refl
alike-kind (read.Single p) (read.Single q) answer.No e = refl
alike-kind (read.Single p) (read.Single q) answer.Absent e = refl
alike-kind (read.Extent p low len) (read.Extent q low' len') (answer.Parts ps) e =
    ap (λ n. are_pieces n len ps) (same-number (record_size p) (record_size q) (and_left (record_size p == record_size q) (len == len') e))
    ∙ ap (λ n. are_pieces (record_size q) n ps) (same-number len len' (and_right (record_size p == record_size q) (len == len') e))
alike-kind (read.Extent p low len) (read.Extent q low' len') (answer.Bytes bytes) e = refl
alike-kind (read.Extent p low len) (read.Extent q low' len') (answer.Names ks) e = refl
alike-kind (read.Extent p low len) (read.Extent q low' len') answer.Yes e = refl
alike-kind (read.Extent p low len) (read.Extent q low' len') answer.No e = refl
alike-kind (read.Extent p low len) (read.Extent q low' len') answer.Absent e = refl
alike-kind (read.Dkeys p) (read.Dkeys q) (answer.Bytes bytes) e = refl
alike-kind (read.Dkeys p) (read.Dkeys q) (answer.Parts ps) e = refl
alike-kind (read.Dkeys p) (read.Dkeys q) (answer.Names ks) e = refl
alike-kind (read.Dkeys p) (read.Dkeys q) answer.Yes e = refl
alike-kind (read.Dkeys p) (read.Dkeys q) answer.No e = refl
alike-kind (read.Dkeys p) (read.Dkeys q) answer.Absent e = refl
alike-kind (read.Akeys p) (read.Akeys q) (answer.Bytes bytes) e = refl
alike-kind (read.Akeys p) (read.Akeys q) (answer.Parts ps) e = refl
alike-kind (read.Akeys p) (read.Akeys q) (answer.Names ks) e = refl
alike-kind (read.Akeys p) (read.Akeys q) answer.Yes e = refl
alike-kind (read.Akeys p) (read.Akeys q) answer.No e = refl
alike-kind (read.Akeys p) (read.Akeys q) answer.Absent e = refl
alike-kind (read.Exists p) (read.Exists q) (answer.Bytes bytes) e = refl
alike-kind (read.Exists p) (read.Exists q) (answer.Parts ps) e = refl
alike-kind (read.Exists p) (read.Exists q) (answer.Names ks) e = refl
alike-kind (read.Exists p) (read.Exists q) answer.Yes e = refl
alike-kind (read.Exists p) (read.Exists q) answer.No e = refl
alike-kind (read.Exists p) (read.Exists q) answer.Absent e = refl
alike-kind (read.Single p) (read.Extent q low' len') b e = let no : ⊥ = cc in absurd no
alike-kind (read.Single p) (read.Dkeys q) b e = let no : ⊥ = cc in absurd no
alike-kind (read.Single p) (read.Akeys q) b e = let no : ⊥ = cc in absurd no
alike-kind (read.Single p) (read.Exists q) b e = let no : ⊥ = cc in absurd no
alike-kind (read.Extent p low len) (read.Single q) b e = let no : ⊥ = cc in absurd no
alike-kind (read.Extent p low len) (read.Dkeys q) b e = let no : ⊥ = cc in absurd no
alike-kind (read.Extent p low len) (read.Akeys q) b e = let no : ⊥ = cc in absurd no
alike-kind (read.Extent p low len) (read.Exists q) b e = let no : ⊥ = cc in absurd no
alike-kind (read.Dkeys p) (read.Single q) b e = let no : ⊥ = cc in absurd no
alike-kind (read.Dkeys p) (read.Extent q low' len') b e = let no : ⊥ = cc in absurd no
alike-kind (read.Dkeys p) (read.Akeys q) b e = let no : ⊥ = cc in absurd no
alike-kind (read.Dkeys p) (read.Exists q) b e = let no : ⊥ = cc in absurd no
alike-kind (read.Akeys p) (read.Single q) b e = let no : ⊥ = cc in absurd no
alike-kind (read.Akeys p) (read.Extent q low' len') b e = let no : ⊥ = cc in absurd no
alike-kind (read.Akeys p) (read.Dkeys q) b e = let no : ⊥ = cc in absurd no
alike-kind (read.Akeys p) (read.Exists q) b e = let no : ⊥ = cc in absurd no
alike-kind (read.Exists p) (read.Single q) b e = let no : ⊥ = cc in absurd no
alike-kind (read.Exists p) (read.Extent q low' len') b e = let no : ⊥ = cc in absurd no
alike-kind (read.Exists p) (read.Dkeys q) b e = let no : ⊥ = cc in absurd no
alike-kind (read.Exists p) (read.Akeys q) b e = let no : ⊥ = cc in absurd no

-- ---- weights

weight-some : (b : Bool) → 1 ≤ weight b
weight-some true = omega arith
weight-some false = omega arith

pub weight-one : (b : Bool) → weight b ≤ 1 → b ≡ true
weight-one true low = refl
weight-one false low = let no : ⊥ = omega (arith, low) in absurd no

weight-less : (b : Bool) → weight b ≤ 2
weight-less true = omega arith
weight-less false = omega arith

pub reply-some : (r : Read) (b : Reply) → 1 ≤ reply_weight r b
reply-some r (reply.Answer b) = weight-some (is_of_kind r b)
reply-some r (reply.Outcome how) = omega arith

if-less : (b : Bool) (m n : ℕ) → m ≤ n → weight_if b m ≤ weight_if b n
if-less true m n low = low
if-less false m n low = omega arith

if-none : (b : Bool) (m n : ℕ) → 1 ≤ m → weight_if b m ≡ 0 → weight_if b n ≡ 0
if-none true m n some none = let no : ⊥ = omega (arith, some, none) in absurd no
if-none false m n some none = refl

-- an answer of the kind of a read that was asked carries no more than the question
pub answer-carries : (x y : AttemptId) (r s : Read) (op group op' group' : ℕ) (e ep first : Option Epoch) (tracker : Epoch) (snapshot : Bool) (b : Answer) → is_of_kind s b ≡ true
    → load x r (message.Fetched y op group e (reply.Answer b)) ≤ load x r (message.Fetch y op' group' ep first tracker s snapshot)
unfolding load
answer-carries x y r s op group op' group' e ep first tracker snapshot b kind = if-less (same_attempt x y) (weight (is_of_kind r b)) (weight (ask_alike r s)) (by (ask_alike r s) refl)
  where
    by : (a : Bool) → ask_alike r s ≡ a → weight (is_of_kind r b) ≤ weight a
    by true alike = let own : is_of_kind r b ≡ true = alike-kind r s b alike ∙ kind in subst (λ k. weight k ≤ 1) (sym own) (omega arith)
    by false alike = weight-less (is_of_kind r b)

-- nor does how an attempt ended
pub end-carries : (x y : AttemptId) (r s : Read) (op group op' group' : ℕ) (e ep first : Option Epoch) (tracker : Epoch) (snapshot : Bool) (how : Outcome)
    → load x r (message.Fetched y op group e (reply.Outcome how)) ≤ load x r (message.Fetch y op' group' ep first tracker s snapshot)
unfolding load
end-carries x y r s op group op' group' e ep first tracker snapshot how = if-less (same_attempt x y) 1 (weight (ask_alike r s)) (weight-some (ask_alike r s))

-- a message that carries nothing of one read of an attempt carries nothing of another
pub none-alike : (x : AttemptId) (r s : Read) (m : Message) → load x r m ≡ 0 → load x s m ≡ 0
unfolding load
none-alike x r s (message.Fetch y op group e first tracker q snapshot) none = if-none (same_attempt x y) (weight (ask_alike r q)) (weight (ask_alike s q)) (weight-some (ask_alike r q)) none
none-alike x r s (message.Fetched y op group e b) none = if-none (same_attempt x y) (reply_weight r b) (reply_weight s b) (reply-some r b) none
none-alike x r s m none = refl
