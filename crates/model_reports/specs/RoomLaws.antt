-- Where there is room, no attempt is refused for want of space, and where there are places, no snapshot for want of one.
use Rattle.std.specs.Prelude.{ℕ, ◌+◌, ◌*◌, ◌≡◌, ◌≤◌, ◌<◌, Bool, true, false, ◌||◌, ◌&&◌, not, List, [], ◌∷◌, length, Option, Some, None, refl, if◌then◌else◌}
use Rattle.std.proofs.Common.{sym, ◌∙◌, ap, subst, arith, inl, inr}
use Rattle.base_types.specs.declared.id.AttemptId.{AttemptId}
use Rattle.base_types.specs.declared.outcome.Outcome.{Outcome}
use Rattle.base_types.specs.declared.outcome.Outcome.TheVariants as outcome
use Rattle.base_types.specs.declared.report.Attempt.{Attempt}
use Rattle.base_types.specs.declared.report.Line.{Line}
use Rattle.base_types.specs.declared.report.Report.{Report}
use Rattle.base_types.specs.declared.script.Command.{Command}
use Rattle.base_types.specs.declared.script.Command.TheVariants.{Run, Snap, Aggregate, Tell, Skip}
use Rattle.base_types.specs.declared.script.Script.{Script}
use Rattle.model_laws.specs.DecidedLaws.{all-from_has}
use Rattle.model_laws.specs.HoldingLaws.{held-blocks, holder-within}
use Rattle.model_laws.specs.Members.{Has}
use Rattle.daos_model.specs.Accesses.{minor_writes}
use Rattle.daos_model.specs.Attempts.{tries}
use Rattle.daos_model.specs.CausesShown.{LacksBlocks, LacksPlace, LacksSpace, ShowsWhy, blocks_at, blocks_of_others, blocks_of_some, is_snap, lacks_space_at, other_snaps, writes_at}
use Rattle.daos_model.specs.Durables.{same_attempt}
use Rattle.daos_model.specs.EntryLaws.{same_attempt-itself}
use Rattle.daos_model.specs.Headline.{Headline}
use Rattle.daos_model.specs.Opening.{Given, Outside}
use Rattle.daos_model.specs.Order.{AllInTurn}
use Rattle.daos_model.specs.Transactions.{attempt_ops, command_of, ops_of, ops_or_none}
use Rattle.model_reports.specs.Counts.{all-within}
use Rattle.model_reports.specs.Lines.{line-of}
use Rattle.model_reports.specs.Rooms.{FindsRoom, HasPlaces, HasRoom, OnlyTransactions, PlacesAreFound, RoomIsFound, SnapshotsFindPlaces, TransactionsFindRoom, blocks_of_command, is_transaction, lacks_space, snaps_of_command, sum_of, sum_over}

-- ---- blocks at one target

-- an attempt takes no more than its command
attempt-blocks : (s : Script) (t : ℕ) (x : AttemptId) (c : Command) → command_of s x ≡ Some c → blocks_at s t x ≤ blocks_of_command c
attempt-blocks s t x c at = subst (λ o. blocks_of_some (writes_at s.targets t (minor_writes 0 (ops_or_none o))) ≤ blocks_of_command c) (sym at) (held-blocks s.targets t (minor_writes 0 (ops_of c)))

-- ---- one attempt beside the others

module _ (s : Script) (t : ℕ) where
  abbrev held : Attempt → ℕ
  held a = blocks_at s t a.id

  unless : (b : Bool) (n : ℕ) → (if b then 0 else n) ≤ n
  unless true n = omega arith
  unless false n = omega arith

  others-within : (x : AttemptId) (xs : List Attempt) → blocks_of_others s t x xs ≤ sum_of held xs
  unfolding blocks_of_others
  others-within x [] = omega arith
  others-within x (a ∷ xs) =
      let one : (if same_attempt a.id x || lacks_space_at t a.outcome then 0 else blocks_at s t a.id) ≤ blocks_at s t a.id = unless (same_attempt a.id x || lacks_space_at t a.outcome) (blocks_at s t a.id) in
      let rest : blocks_of_others s t x xs ≤ sum_of held xs = others-within x xs in
      omega (arith, one, rest)

  own-and-others : (a : Attempt) (xs : List Attempt) → Has a xs → blocks_of_others s t a.id xs + blocks_at s t a.id ≤ sum_of held xs
  unfolding blocks_of_others
  own-and-others a [] i = absurd i
  own-and-others a (b ∷ xs) (inl same) =
      let none : (if same_attempt b.id a.id || lacks_space_at t b.outcome then 0 else blocks_at s t b.id) ≡ 0 = by (same_attempt b.id a.id) itself in
      let one : blocks_at s t a.id ≡ blocks_at s t b.id = ap held same in
      let rest : blocks_of_others s t a.id xs ≤ sum_of held xs = others-within a.id xs in
      omega (arith, none, one, rest)
    where
      itself : same_attempt b.id a.id ≡ true
      itself = subst (λ c. same_attempt c.id a.id ≡ true) same (same_attempt-itself a.id)

      by : (z : Bool) → z ≡ true → (if z || lacks_space_at t b.outcome then 0 else blocks_at s t b.id) ≡ 0
      by true e = refl
      by false e = let no : ⊥ = cc in absurd no
  own-and-others a (b ∷ xs) (inr i) =
      let one : (if same_attempt b.id a.id || lacks_space_at t b.outcome then 0 else blocks_at s t b.id) ≤ blocks_at s t b.id = unless (same_attempt b.id a.id || lacks_space_at t b.outcome) (blocks_at s t b.id) in
      let rest : blocks_of_others s t a.id xs + blocks_at s t a.id ≤ sum_of held xs = own-and-others a xs i in
      omega (arith, one, rest)

-- ---- snapshots

abbrev count : Bool → ℕ
count true = 1
count false = 0

module _ (s : Script) where
  abbrev snaps : Attempt → ℕ
  snaps a = count (is_snap (command_of s a.id))

  attempt-snaps : (a : Attempt) (c : Command) → command_of s a.id ≡ Some c → snaps a ≤ snaps_of_command c
  attempt-snaps a c at = subst (λ o. count (is_snap o) ≤ snaps_of_command c) (sym at) (by c)
    where
      by : (d : Command) → count (is_snap (Some d)) ≤ snaps_of_command d
      by (Run ops skips snapshot) = omega arith
      by (Snap name cont) = omega arith
      by (Aggregate cont) = omega arith
      by (Tell client) = omega arith
      by (Skip turns) = omega arith

  counted : (b c : Bool) → (if b && not c then 1 else 0) ≤ count b
  counted true true = omega arith
  counted true false = omega arith
  counted false c = omega arith

  other-snaps-within : (x : AttemptId) (xs : List Attempt) → other_snaps s x xs ≤ sum_of snaps xs
  other-snaps-within x [] = omega arith
  other-snaps-within x (a ∷ xs) =
      let one : (if is_snap (command_of s a.id) && not (same_attempt a.id x) then 1 else 0) ≤ count (is_snap (command_of s a.id)) = counted (is_snap (command_of s a.id)) (same_attempt a.id x) in
      let rest : other_snaps s x xs ≤ sum_of snaps xs = other-snaps-within x xs in
      omega (arith, one, rest)

  own-and-other-snaps : (a : Attempt) (xs : List Attempt) → Has a xs → other_snaps s a.id xs + snaps a ≤ sum_of snaps xs
  own-and-other-snaps a [] i = absurd i
  own-and-other-snaps a (b ∷ xs) (inl same) =
      let none : ◌≡◌ {A = ℕ} (if is_snap (command_of s b.id) && not (same_attempt b.id a.id) then 1 else 0) 0 = by (is_snap (command_of s b.id)) (same_attempt b.id a.id) itself in
      let one : snaps a ≡ snaps b = ap snaps same in
      let rest : other_snaps s a.id xs ≤ sum_of snaps xs = other-snaps-within a.id xs in
      omega (arith, none, one, rest)
    where
      itself : same_attempt b.id a.id ≡ true
      itself = subst (λ c. same_attempt c.id a.id ≡ true) same (same_attempt-itself a.id)

      by : (y z : Bool) → z ≡ true → ◌≡◌ {A = ℕ} (if y && not z then 1 else 0) 0
      by true true e = refl
      by false true e = refl
      by y false e = let no : ⊥ = cc in absurd no
  own-and-other-snaps a (b ∷ xs) (inr i) =
      let one : (if is_snap (command_of s b.id) && not (same_attempt b.id a.id) then 1 else 0) ≤ count (is_snap (command_of s b.id)) = counted (is_snap (command_of s b.id)) (same_attempt b.id a.id) in
      let rest : other_snaps s a.id xs + snaps a ≤ sum_of snaps xs = own-and-other-snaps a xs i in
      omega (arith, one, rest)

-- ---- no attempt is refused

-- a transaction that reads at no snapshot makes none
not-snap : (s : Script) → OnlyTransactions s → (x : AttemptId) → is_snap (command_of s x) ≡ false
not-snap s plain x = by (command_of s x) refl
  where
    one : (c : Command) → is_transaction c ≡ true → is_snap (Some c) ≡ false
    one (Run ops skips snapshot) e = refl
    one (Snap name cont) e = let no : ⊥ = cc in absurd no
    one (Aggregate cont) e = refl
    one (Tell client) e = refl
    one (Skip turns) e = refl

    by : (o : Option Command) → command_of s x ≡ o → is_snap o ≡ false
    by None e = refl
    by (Some c) e = one c (plain x c e)

-- an outcome that isn't for want of space
shows-other : (g : Given) (q : Report) (a : Attempt) (before : List Line) (how : Outcome) → ((t need free : ℕ) → LacksSpace (is_snap (command_of g.script a.id)) g q.lines a t need free → ⊥) → ShowsWhy g q.lines before a how
    → lacks_space how ≡ false
shows-other g q a before outcome.Committed none k = refl
shows-other g q a before (outcome.CondFailed op) none k = refl
shows-other g q a before (outcome.Restart why) none k = refl
shows-other g q a before (outcome.NoSpace t need free) none k = absurd (none t need free k)
shows-other g q a before outcome.EpochsSpent none k = refl
shows-other g q a before outcome.NoSnapshot none k = refl
shows-other g q a before (outcome.Unknown target) none k = refl

module _ (g : Given) (o : Outside) (resolved : AttemptId → Bool) (q : Report) (least : 0 < g.job.attempts) (h : Headline g o resolved q) where
  abbrev s : Script
  s = g.script

  in_turn : AllInTurn g.job.attempts s q.lines
  in_turn = h.outcomes.in_turn

  -- places aren't wanting
  no-place : HasPlaces s g.job.attempts (length g.opening.stand.snaps) → (a : Attempt) (t need free : ℕ) → Has a (tries q.lines) → is_snap (command_of s a.id) ≡ true → LacksPlace g q.lines a t need free → ⊥
  no-place places a t need free i snap k =
      let all : sum_of (snaps s) (tries q.lines) ≤ sum_over snaps_of_command s * g.job.attempts = all-within (snaps s) snaps_of_command g.job.attempts s q.lines least (λ b c at. attempt-snaps s b c at) in_turn in
      let own : other_snaps s a.id (tries q.lines) + snaps s a ≤ sum_of (snaps s) (tries q.lines) = own-and-other-snaps s a (tries q.lines) i in
      let one : snaps s a ≡ 1 = ap count snap in
      let full : 256 ≤ length g.opening.stand.snaps + other_snaps s a.id (tries q.lines) = k.full in
      let enough : length g.opening.stand.snaps + sum_over snaps_of_command s * g.job.attempts ≤ 256 = places in
      omega (arith, all, own, one, full, enough)

  -- so no attempt to make a snapshot shows a want of one
  snaps-find : HasPlaces s g.job.attempts (length g.opening.stand.snaps) → SnapshotsFindPlaces s q
  snaps-find places =
      all-from_has (λ a. is_snap (command_of s a.id) ≡ true → lacks_space a.outcome ≡ false) (tries q.lines)
      (λ a i snap. let z = line-of q.lines a i in shows-other g q a z.before a.outcome (λ t need free k. no-place places a t need free i snap (subst (λ b. LacksSpace b g q.lines a t need free) snap k)) (h.causes z.before a z.after z.among))

  -- blocks aren't wanting
  no-lack : 0 < s.targets → HasRoom s g.job.attempts g.opening.free → (a : Attempt) (t need free : ℕ) → Has a (tries q.lines) → LacksBlocks g q.lines a t need free → ⊥
  no-lack some room a t need free i k =
      let all : sum_of (held s t) (tries q.lines) ≤ sum_over blocks_of_command s * g.job.attempts = all-within (held s t) blocks_of_command g.job.attempts s q.lines least (λ b c at. attempt-blocks s t b.id c at) in_turn in
      let own : blocks_of_others s t a.id (tries q.lines) + blocks_at s t a.id ≤ sum_of (held s t) (tries q.lines) = own-and-others s t a (tries q.lines) i in
      let wanting : free < need = k.wanting in
      let is : need ≡ blocks_at s t a.id = k.need_is in
      let given : g.opening.free t ≤ free + blocks_of_others s t a.id (tries q.lines) = k.accounted in
      let enough : sum_over blocks_of_command s * g.job.attempts ≤ g.opening.free t = room t (holder-within s.targets t (minor_writes 0 (attempt_ops s a.id)) some (let more : 0 < blocks_at s t a.id = omega (arith, wanting, is) in more)) in
      omega (arith, all, own, wanting, is, given, enough)

  -- so no attempt shows a want of space
  finds : 0 < s.targets → HasRoom s g.job.attempts g.opening.free → ((a : Attempt) (t need free : ℕ) → Has a (tries q.lines) → is_snap (command_of s a.id) ≡ true → LacksPlace g q.lines a t need free → ⊥) → FindsRoom q
  finds some room places =
      all-from_has (λ a. lacks_space a.outcome ≡ false) (tries q.lines)
      (λ a i. let z = line-of q.lines a i in shows-other g q a z.before a.outcome (λ t need free k. lacking a t need free i (is_snap (command_of s a.id)) refl k) (h.causes z.before a z.after z.among))
    where
      lacking : (a : Attempt) (t need free : ℕ) → Has a (tries q.lines) → (b : Bool) → is_snap (command_of s a.id) ≡ b → LacksSpace b g q.lines a t need free → ⊥
      lacking a t need free i true e k = places a t need free i e k
      lacking a t need free i false e k = no-lack some room a t need free i k

pub places-are-found : PlacesAreFound
places-are-found g o resolved q least places h = snaps-find g o resolved q least h places

pub room-is-found : RoomIsFound
room-is-found g o resolved q some least room places h = finds g o resolved q least h some room (no-place g o resolved q least h places)

pub transactions-find-room : TransactionsFindRoom
transactions-find-room g o resolved q some least room plain h =
    finds g o resolved q least h some room (λ a t need free i snap k. let no : false ≡ true = sym (not-snap g.script plain a.id) ∙ snap in let bad : ⊥ = cc in bad)
