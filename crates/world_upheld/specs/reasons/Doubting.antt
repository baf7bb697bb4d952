-- Each event of any run keeps what shows where leaders stopped.
use Rattle.std.specs.Prelude.{ℕ, ◌≡◌, ◌⊎◌, Bool, true, false, List, [], ◌∷◌, map, slice_get, Option, Some, refl}
use Rattle.std.proofs.Common.{inl, inr, sym, ◌∙◌, ap, subst}
use Rattle.base_types.specs.declared.epoch.Epoch.{Epoch}
use Rattle.base_types.specs.declared.id.AttemptId.{AttemptId}
use Rattle.base_types.specs.declared.outcome.Outcome.TheVariants as outcome
use Rattle.base_types.specs.declared.report.Line.{Line}
use Rattle.base_messages.specs.declared.message.Message.{Message}
use Rattle.base_messages.specs.declared.message.Message.TheVariants as message
use Rattle.base_messages.specs.declared.message.Post.{Post}
use Rattle.dtx_base.specs.Leading.{to_target}
use Rattle.model_laws.specs.Members.{Has, contains-from_has, has-cases, has-from_map}
use Rattle.world_legal.specs.world_commit.attempts.Attempts.{IsBorn, entry_at, entry_in, is_known_at, is_known_in, leader_of, row_at, row_in}
use Rattle.world_legal.specs.world_commit.attempts.Counting.{has-left_over, has-taken}
use Rattle.world_legal.specs.world_commit.attempts.History.{GrowsBy, History}
use Rattle.world_legal.specs.world_commit.attempts.Turning.{one-or_another}
use Rattle.world_base.specs.declared.did.Did.{Did}
use Rattle.world_base.specs.declared.letter.Letter.{Letter}
use Rattle.world_base.specs.declared.target.TargetState.{TargetState}
use Rattle.world_base.specs.declared.world.World.{World}
use Rattle.world_base.specs.Events.{Rules, TargetHearsBy, kept, target_after, target_plan, with_epoch}
use Rattle.world_base.specs.Further.{HearsFurther}
use Rattle.world_base.specs.Letters.{letter_of, letters_of, target}
use Rattle.world_base.specs.Snapshots.{freeze_to, prune_to}
use Rattle.world_base.specs.StepLaws.{set-here, set-there}
use Rattle.world_base.specs.Stops.{Draws, Fails, Further, GivenUp, Happening, HearsMore, IsCut, Opens, Plainly, WorldEvent, swept}
use Rattle.world_letters.specs.endings.Posts.{further-sent}
use Rattle.world_letters.specs.endings.Telling.{AsksAgain, AsksFreezes, AsksPrunes, IsSent, Quietly}
use Rattle.world_legal.specs.world_commit.fates.Facts.{IsRow}
use Rattle.world_legal.specs.doubts.Doubts.{Doubts, IsInDoubt, RestsAt}
use Rattle.world_legal.specs.doubts.Events.{happening-keeps}
use Rattle.world_legal.specs.doubts.Laws.{IsBeside}
use Rattle.world_legal.specs.doubts.Recounting.{Recounts, WasInDoubt, entry-writes, recounting-keeps}
use Rattle.world_legal.specs.doubts.Rows.{HasRow}
use Rattle.world_legal.specs.doubts.Stopping.{cut-recounts, sweeping-recounts}
use Rattle.world_legal.specs.doubts.Targets.{TellNoLoss, after-lossless, collected-lossless}
use Rattle.world_legal.specs.doubts.Turns.{further-own}
use Rattle.world_letters.specs.lines.FilledLaws.{tries-filled}
use Rattle.world_letters.specs.lines.Lines.{filled}
use Rattle.world_legal.specs.world_causes.losses.ClientHears.{TellsLoss}
use Rattle.world_owners.specs.world_making.making.Kinds.{of-attempts}
use Rattle.world_owners.specs.world_making.losses.Tells.{turn-lines-untried}
use Rattle.world_owners.specs.world_making.makers.Makers.{MakersTell}
use Rattle.world_owners.specs.world_making.making.Making.{IsOfMaking, MakingLeaves, tells_of_snapshots}
use Rattle.world_owners.specs.world_making.making.Turns.{hearings-leave}
use Rattle.world_letters.specs.snapshots.Makings.{Makings}
use Rattle.world_legal.specs.world_commit.statuses.Events.{told_by}
use Rattle.world_legal.specs.world_commit.statuses.Fates.{told_further}
use Rattle.world_legal.specs.world_commit.stops.Stops.{sweeping-keeps}
use Rattle.world_upheld.specs.stored.Events.{making-ends-makers-alone}
use Rattle.world_upheld.specs.stored.Makers.{EndsMaker, maker-writes-none}

-- ---- the statements

-- a target hears of a snapshot or an aggregation, beside all that stands, of what is told of attempts in it
abbrev pub MakingKeepsDoubts : Type 0
MakingKeepsDoubts =
    (r : Rules) (h later : History) (w v : World) → IsBeside r h later w v → Makings r w → MakersTell r w → (f : HearsMore r w v) → IsOfMaking f.hears.l.message
    → GrowsBy h (told_further f) later → Doubts r h w → Doubts r later v

-- So each event keeps them, of what is told in it, or would be told if clients waited.
abbrev pub AllEventsKeepDoubts : Type 0
AllEventsKeepDoubts =
    (r : Rules) (h later : History) (w v : World) → (e : WorldEvent r w v) → IsBeside r h later w e.u → Makings r w → MakersTell r w → GrowsBy h (told_by e.happens) later
    → Doubts r h w → Doubts r later v

-- ---- what is sent tells of no loss

making-lossless : (m : Message) (did : Did) → IsSent m did → TellNoLoss did.posts
making-lossless m did (Quietly posts) q n i tells = after-lossless q.message n (posts q i) tells
making-lossless m did (AsksFreezes x c name tracker s ts heard posts issued) q n i tells =
    let z = has-from_map (freeze_to x c s) ts q (subst (Has q) posts i) in subst (λ y. TellsLoss y.message n) (sym z.2) tells
making-lossless m did (AsksPrunes x c tracker g ts heard posts issued) q n i tells =
    let z = has-from_map (prune_to x c g) ts q (subst (Has q) posts i) in subst (λ y. TellsLoss y.message n) (sym z.2) tells
making-lossless m did (AsksAgain u asked lost kind posts) q n i tells = by (subst (Has q) posts i)
  where
    by : Has q (to_target u asked ∷ []) → ⊥
    by (inl same) = collected-lossless asked n kind (subst (λ p. TellsLoss p.message n) same tells)
    by (inr none) = none

-- ---- a turn in which a target hears of a snapshot or an aggregation

module _ (r : Rules) (h later : History) (w v : World) (b : IsBeside r h later w v) (makings : Makings r w) (makers : MakersTell r w) (f : HearsMore r w v)
    (is : IsOfMaking f.hears.l.message) (grows : GrowsBy h (told_further f) later) where
  abbrev g : TargetHearsBy (HearsFurther f.number) r w v
  g = f.hears

  abbrev z : TargetState
  z = target_after g.s g.new g.memory

  abbrev more : List Line
  more = map (with_epoch w.issued) g.did.lines

  left : MakingLeaves f.number (target_plan r g.t) g.s.memory g.reading g.l.from g.l.message (kept g.s) g.new (g.memory, g.did)
  left = hearings-leave f.number (target_plan r g.t) g.s.opening g.s.memory g.reading g.l.from g.l.message (kept g.s) g.new (g.memory, g.did) g.turn is

  targets : slice_get v.targets g.t ≡ Some z
  targets = ap (λ u. slice_get u.targets g.t) g.after ∙ set-here w.targets g.t g.s z g.here

  -- at another target all is as before
  there : {A : Type 0} (part : Option TargetState → A) (u : ℕ) → (u ≡ g.t → ⊥) → part (slice_get v.targets u) ≡ part (slice_get w.targets u)
  there part u off = ap (λ y. part (slice_get y.targets u)) g.after ∙ ap part (set-there w.targets g.t u z off)

  runs-then : RestsAt v g.t → ⊥
  runs-then rests =
      let both : Some rests.s ≡ Some z = sym rests.here ∙ targets in
      let one : rests.s ≡ z = cc in
      rests.off (ap (λ y. y.life) one ∙ g.runs)

  born-was : (x : AttemptId) → (leader_of r x ≡ g.t → ⊥) → IsBorn r later v x → IsBorn r h w x
  born-was x off (inl held) = inl (record { entry = held.entry; found = sym (there (λ o. entry_in o x) (leader_of r x) off) ∙ held.found })
  born-was x off (inr gone) = elim (grows.only_aborted x gone) [
    | inl before ↦ inr before
    | inr tells ↦
        absurd (off (sym (further-own r h w v b.attempts b.right b.asks b.requests_then f.number g g.l.message refl g.turn x tells.own tells.how tells.told)))
  ]

  -- one that is in doubt here has a row, which it had before
  row-was : (x : AttemptId) → g.t ≡ leader_of r x → IsInDoubt r v x → HasRow x g.s.memory.leader.undecided
  row-was x leads d =
      elim ((b.attempts_then.on.each x).rows.either d.entry
      (λ y at. (let both : Some z ≡ Some y = sym targets ∙ subst (λ n. slice_get v.targets n ≡ Some y) (sym leads) at in
      let one : z ≡ y = cc in ap (λ (i : TargetState). i.life) (sym one) ∙ g.runs)) d.found d.prepared) [
        | inl known ↦ (let off = d.unknown in let no : ⊥ = cc (known, off) in absurd no)
        | inr row ↦ subst (HasRow x) left.ends.knows.undecided
            (row.0, ap (λ o. row_in o x) (sym targets) ∙ subst (λ n. row_at v n x ≡ Some row.0) (sym leads) row.1)
      ]

  doubted-was : (x : AttemptId) → g.t ≡ leader_of r x → HasRow x g.s.memory.leader.undecided → IsInDoubt r w x
  doubted-was x leads row =
      let had : IsRow r w x g.t row.0 = (b.attempts.on.each x).rows.undecided g.t row.0 (ap (λ o. row_in o x) g.here ∙ row.1) in
      record {
        entry = had.here.entry;
        found = subst (λ n. entry_at w n x ≡ Some had.here.entry) leads had.here.found;
        prepared = had.here.prepared;
        unknown = subst (λ n. is_known_at w n x ≡ false) leads had.unknown;
      }

  from-where : (l : Letter) → Has l v.messages → Has l g.rest ⊎ ((p : Post) × Has p g.did.posts × (letter_of (target g.t) p ≡ l))
  from-where l i = elim (has-cases g.rest (letters_of (target g.t) g.did.posts) l (subst (Has l) (ap (λ u. u.messages) g.after) i)) [
    | inl j ↦ inl j
    | inr j ↦ inr (has-from_map (letter_of (target g.t)) g.did.posts l j)
  ]

  -- the attempt of an end that is told makes a snapshot or aggregates: it writes nothing, so it isn't in doubt
  ends-none : (x : AttemptId) (own : Option Epoch) (p : Post) → Has p g.did.posts → p.message ≡ message.Ended x own outcome.Committed → IsInDoubt r v x → ⊥
  ends-none x own p i says d =
      maker-writes-none r x (subst (EndsMaker r) says (making-ends-makers-alone r w v makings makers f is p i)) (entry-writes r v b.writes_then (leader_of r x) x d.entry d.found)

  lossless : TellNoLoss g.did.posts
  lossless =
      making-lossless g.l.message g.did
      (further-sent f.number (target_plan r g.t) g.s.opening g.s.memory g.reading g.l.from (kept g.s) g.new (g.memory, g.did) g.l.message
      (b.endings g.l (contains-from_has w.messages g.l (has-taken w.messages g.l g.rest g.takes))) g.turn)

  making-recounts : Recounts r h later w v
  making-recounts = record {
    clients = ap (λ u. u.clients) g.after;
    more = more;
    lines = ap (λ u. u.lines) g.after;
    untried = tries-filled w.issued g.did.lines ∙ ap (map (filled w.issued)) (turn-lines-untried (target_plan r g.t).me g.did.lines left.lines);
    resting = λ x born rests. elim (one-or_another (leader_of r x) g.t) [
      | inl here ↦ absurd (runs-then (subst (RestsAt v) here rests))
      | inr off ↦ inl (born-was x off born, record { s = rests.s; here = sym (there (λ o. o) (leader_of r x) off) ∙ rests.here; off = rests.off })
    ];
    doubtful = λ x d. WasInDoubt (elim (one-or_another (leader_of r x) g.t) [
      | inl here ↦ doubted-was x (sym here) (row-was x (sym here) d)
      | inr off ↦ record {
        entry = d.entry;
        found = sym (there (λ o. entry_in o x) (leader_of r x) off) ∙ d.found;
        prepared = d.prepared;
        unknown = sym (there (λ o. is_known_in o x) (leader_of r x) off) ∙ d.unknown;
      }
    ]);
    told = λ l x own i says d. elim (from-where l i) [
      | inl j ↦ has-left_over w.messages g.l g.rest l g.takes j
      | inr p ↦ absurd (ends-none x own p.0 p.1 (ap (λ m. m.message) p.2 ∙ says) d)
    ];
    lost = λ l x ask i tells. elim (from-where l i) [
      | inl j ↦ inl (has-left_over w.messages g.l g.rest l g.takes j)
      | inr p ↦ absurd (lossless p.0 (message.Query x ask) p.1 (subst (λ m. TellsLoss m.message (message.Query x ask)) (sym p.2) tells))
    ];
  }

pub making-keeps_doubts : MakingKeepsDoubts
making-keeps_doubts r h later w v b makings makers f is grows k =
    recounting-keeps r h later w v b.attempts b.attempts_then b.outcomes b.writes_then (making-recounts r h later w v b makings makers f is grows) k

-- ---- every event

module _ (r : Rules) (h later : History) (w u : World) (b : IsBeside r h later w u) (makings : Makings r w) (makers : MakersTell r w) (k : Doubts r h w) where
  heard-doubts : (f : HearsMore r w u) (making : Bool) → tells_of_snapshots f.hears.l.message ≡ making → GrowsBy h (told_further f) later → Doubts r later u
  heard-doubts f true is grows = making-keeps_doubts r h later w u b makings makers f is grows k
  heard-doubts f false off grows = happening-keeps r h later w u b k (Further f) (of-attempts f.hears.l.message off) grows

  all-doubts : (e : Happening r w u) → GrowsBy h (told_by e) later → Doubts r later u
  all-doubts (Further f) grows = heard-doubts f (tells_of_snapshots f.hears.l.message) refl grows
  all-doubts (IsCut g) grows = recounting-keeps r h later w u b.attempts b.attempts_then b.outcomes b.writes_then (cut-recounts r h later w u b.attempts g grows) k
  all-doubts (Plainly e up) grows = happening-keeps r h later w u b k (Plainly e up) tt grows
  all-doubts (Opens g) grows = happening-keeps r h later w u b k (Opens g) tt grows
  all-doubts (Fails g) grows = happening-keeps r h later w u b k (Fails g) tt grows
  all-doubts (GivenUp g) grows = happening-keeps r h later w u b k (GivenUp g) tt grows
  all-doubts (Draws g) grows = happening-keeps r h later w u b k (Draws g) tt grows

pub all-events-keep_doubts : AllEventsKeepDoubts
all-events-keep_doubts r h later w v e b makings makers grows k =
    subst (Doubts r later) (sym e.after)
    (recounting-keeps r later later e.u (swept e.u) b.attempts_then (sweeping-keeps e.u r later b.attempts_then) b.outcomes_then b.writes_then (sweeping-recounts r later e.u)
    (all-doubts r h later w e.u b makings makers k e.happens grows))
