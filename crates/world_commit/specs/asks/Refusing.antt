-- A turn that hears an Ack: an entry stays, or the Ack refuses its attempt, of which the client and the other members are told.
use Rattle.std.specs.Prelude.{ℕ, ◌≡◌, ◌⊎◌, ◌==◌, ◌&&◌, Bool, true, false, is_some, map, List, ◌++◌, Option, Some, None, refl, if◌then◌else◌}
use Rattle.std.proofs.Common.{sym, ◌∙◌, subst, inl, inr}
use Rattle.base_types.specs.declared.entry.Entry.{Entry}
use Rattle.base_types.specs.declared.entry.Settle.TheVariants.{Abort}
use Rattle.base_types.specs.declared.id.AttemptId.{AttemptId}
use Rattle.base_types.specs.declared.outcome.Outcome.{Outcome}
use Rattle.model_laws.specs.Members.{Has, has-map, has-right}
use Rattle.base_messages.specs.declared.message.Post.{Post}
use Rattle.daos_model.specs.BoolLaws.{and_left, and_right}
use Rattle.dtx_base.specs.declared.leading.Undecided.{Undecided}
use Rattle.dtx_base.specs.Leading.{LeaderOf, abort_to, ack_heard, answer_heard, answer_if_awaited, ended, entry_led, quietly, undecided_of}
use Rattle.dtx_base.specs.Members.{is_other_member, other_members}
use Rattle.world_commit.specs.asks.Entries.{IsKept, kept-step}
use Rattle.world_commit.specs.attempts.Turning.{one-or_other}
use Rattle.world_base.specs.declared.did.Did.{Did}
use Rattle.world_base.specs.declared.target.TargetMemory.{TargetMemory}
use Rattle.world_base.specs.declared.target.TargetPlan.{TargetPlan}
use Rattle.world_base.specs.Acks.{AckEnds, AckNext, AckStage, Aborts, Counts, Followed, Heard, IsFollowed, is_awaited, is_awaited_of, is_refusing}
use Rattle.world_base.specs.Changes.{Change, Kept, Settles, Steps}
use Rattle.world_base.specs.PathLaws.{reached-keeps}
use Rattle.world_base.specs.Roles.{leader_at}
use Rattle.world_base.specs.Turns.{Whole}

-- an Ack refuses an attempt that is undecided here: its client, if one waits, is told the refusal, and each other member that it is aborted
pub record Refuses (l : LeaderOf) (a : AttemptId) (refusal : Option Outcome) (posts : List Post) : Type 0 where
  pub entry : Entry
  pub row : Undecided
  pub how : Outcome
  pub led : entry_led a l ≡ Some entry
  pub undecided : undecided_of a l ≡ Some row
  pub refused : refusal ≡ Some how
  pub sends : posts ≡ ended row.client a entry.epoch how ++ map (abort_to l.incarnation a) (other_members entry)

refusing-awaited : (t : ℕ) (a : AttemptId) (how : Outcome) (l : LeaderOf) (e : Option Entry) (u : Option Undecided) → entry_led a l ≡ e → undecided_of a l ≡ u → is_awaited_of t e u ≡ true
    → Refuses l a (Some how) (answer_if_awaited t a (Some how) e u l).posts
refusing-awaited t a how l None u led row is = let no : ⊥ = cc in absurd no
refusing-awaited t a how l (Some e) None led row is = let no : ⊥ = cc in absurd no
refusing-awaited t a how l (Some e) (Some u) led row is = by (is_other_member e t) is
  where
    by : (s : Bool) → s ≡ true → Refuses l a (Some how) (if s then answer_heard t a (Some how) e u l else quietly l).posts
    by true h = record { entry = e; row = u; how = how; led = led; undecided = row; refused = refl; sends = refl }
    by false h = let no : ⊥ = cc in absurd no

refusing-some : (t : ℕ) (a : AttemptId) (inc : ℕ) (refusal : Option Outcome) (l : LeaderOf) → is_awaited_of t (entry_led a l) (undecided_of a l) ≡ true → is_some refusal ≡ true
    → Refuses l a refusal (answer_if_awaited t a refusal (entry_led a l) (undecided_of a l) l).posts
refusing-some t a inc None l is some = let no : ⊥ = cc in absurd no
refusing-some t a inc (Some how) l is some = refusing-awaited t a how l (entry_led a l) (undecided_of a l) refl refl is

refusing-is : (t : ℕ) (a : AttemptId) (inc : ℕ) (refusal : Option Outcome) (l : LeaderOf) → is_refusing t a inc refusal l ≡ true → Refuses l a refusal (ack_heard t a inc refusal l).posts
unfolding ack_heard is_awaited
refusing-is t a inc refusal l is =
    let awaited : (inc == l.incarnation) && is_awaited_of t (entry_led a l) (undecided_of a l) ≡ true = and_left ((inc == l.incarnation) && is_awaited_of t (entry_led a l) (undecided_of a l)) (is_some refusal) is in
    let some : is_some refusal ≡ true = and_right ((inc == l.incarnation) && is_awaited_of t (entry_led a l) (undecided_of a l)) (is_some refusal) is in
    let own : (inc == l.incarnation) ≡ true = and_left (inc == l.incarnation) (is_awaited_of t (entry_led a l) (undecided_of a l)) awaited in
    let of : is_awaited_of t (entry_led a l) (undecided_of a l) ≡ true = and_right (inc == l.incarnation) (is_awaited_of t (entry_led a l) (undecided_of a l)) awaited in
    by (inc == l.incarnation) own of some
  where
    by : (s : Bool) → s ≡ true → is_awaited_of t (entry_led a l) (undecided_of a l) ≡ true → is_some refusal ≡ true
        → Refuses l a refusal (if s then answer_if_awaited t a refusal (entry_led a l) (undecided_of a l) l else quietly l).posts
    by true h of some = refusing-some t a inc refusal l of some
    by false h of some = let no : ⊥ = cc in absurd no

-- ---- the turn

module _ (t : TargetPlan) (m : TargetMemory) (member : ℕ) (a : AttemptId) (inc : ℕ) (refusal : Option Outcome) (old : Kept) (x : AttemptId) where
  -- what a turn has come to: the entry of an attempt stays, or it is refused
  abbrev Stands : AckStage → Kept → Type 0
  Stands Heard k = k ≡ old
  Stands (Followed s) k = IsKept k.durable x ⊎ ((x ≡ a) × Refuses (leader_at t m old.durable) a refusal s.posts)

  step-stands : IsKept old.durable x → (s : AckStage) (k : Kept) (o : Option Change) (u : AckStage) (l : Kept) → AckNext t m member a inc refusal s k o u → Steps o k l → Stands s k → Stands u l
  step-stands has s k o u l (Aborts j is) steps h = elim (one-or_other x a) [
    | inl same ↦ inr (same, subst (λ z. Refuses (leader_at t m z.durable) a refusal (ack_heard member a inc refusal (leader_at t m k.durable)).posts) h (refusing-is member a inc refusal (leader_at t m k.durable) is))
    | inr apart ↦ inl (kept-step x (Some (Settles a Abort)) k l steps apart (subst (λ z. IsKept z.durable x) (sym h) has))
  ]
  step-stands has s k o u l (Counts j is) steps h = inl (subst (λ z. IsKept z.durable x) (sym (steps ∙ h)) has)

  ends-stands : (s : AckStage) (new : Kept) (left : TargetMemory × Did) → AckEnds m s new left → Stands s new → IsKept new.durable x ⊎ ((x ≡ a) × Refuses (leader_at t m old.durable) a refusal left.1.posts)
  ends-stands s new left (IsFollowed j step z is) (inl kept) = inl kept
  ends-stands s new left (IsFollowed j step z is) (inr gone) = inr (gone.0, subst (λ y. Refuses (leader_at t m old.durable) a refusal y.1.posts) (sym is) gone.1)

  -- an entry stays, or the Ack refuses its attempt
  pub ack-kept : (new : Kept) (left : TargetMemory × Did) → IsKept old.durable x → Whole (AckNext t m member a inc refusal) (AckEnds m) Heard old new left
      → IsKept new.durable x ⊎ ((x ≡ a) × Refuses (leader_at t m old.durable) a refusal left.1.posts)
  ack-kept new left has w = ends-stands w.last new left w.ends (reached-keeps (AckNext t m member a inc refusal) Stands (step-stands has) Heard old w.last new w.reached refl)

-- each other member is told
pub refusal-told : (l : LeaderOf) (a : AttemptId) (refusal : Option Outcome) (posts : List Post) (g : Refuses l a refusal posts) (t : ℕ) → Has t (other_members g.entry) → Has (abort_to l.incarnation a t) posts
refusal-told l a refusal posts g t i =
    subst (Has (abort_to l.incarnation a t)) (sym g.sends) (has-right (ended g.row.client a g.entry.epoch g.how) (map (abort_to l.incarnation a) (other_members g.entry)) (abort_to l.incarnation a t) (has-map (abort_to l.incarnation a) (other_members g.entry) t i))
