-- Turns in which snapshots are made and containers aggregated keep that outcomes show their causes, whole or cut.
use Rattle.std.specs.Prelude.{ℕ, ◌≡◌, ◌≤◌, ◌+◌, ◌/◌, ◌++◌, ◌⊎◌, Bool, true, false, List, [], ◌∷◌, filter, Contains, slice_get, Option, Some, None, refl}
use Rattle.std.proofs.Common.{append_assoc, inl, inr, sym, ◌∙◌, ap, subst, arith}
use Rattle.base_types.specs.declared.epoch.Epoch.{Epoch}
use Rattle.base_types.specs.declared.id.AttemptId.{AttemptId}
use Rattle.base_types.specs.declared.report.Line.{Line}
use Rattle.base_types.specs.declared.report.Line.TheVariants as line
use Rattle.base_messages.specs.declared.message.Message.{Message, more_of-Message}
use Rattle.base_messages.specs.declared.message.Message.TheVariants as message
use Rattle.base_messages.specs.declared.message.Post.{Post}
use Rattle.model_laws.specs.Members.{Has, contains-from_has, has-cases, has-from_contains, has-from_filter, has-from_map, has-right}
use Rattle.daos_model.specs.Attempts.{tries}
use Rattle.daos_model.specs.Laws.{tries-append}
use Rattle.daos_model.specs.Opening.{Opening}
use Rattle.world_base.specs.declared.letter.Letter.{Letter}
use Rattle.world_base.specs.declared.target.TargetState.{TargetState}
use Rattle.world_base.specs.declared.world.World.{World}
use Rattle.world_base.specs.Events as events
use Rattle.world_base.specs.Events.{Rules, TargetHearsBy, kept, target_after, target_plan}
use Rattle.world_base.specs.Further.{HearsFurther}
use Rattle.world_base.specs.Letters.{letter_of, letters_of, target}
use Rattle.world_base.specs.Roles.{is_prepared}
use Rattle.world_base.specs.Stops.{AtWork, CutOf, Further, Happening, Hearing, HearsMore, IdleWork, IsCut, IsInHand, TargetCut, is_not_to, is_to, reset_letter, resets, stopped_at, stops_so_far, swept}
use Rattle.world_legal.specs.world_causes.causes.Causes.{Stored, stored_by}
use Rattle.world_legal.specs.world_causes.causes.Shown.{Causes, FloorsShown, limit_over}
use Rattle.world_legal.specs.world_causes.causes.Turns.{PostShows}
use Rattle.world_legal.specs.world_causes.showing.Following.{posted}
use Rattle.world_upheld.specs.causing.Frames.{IsBounded, IsCutBounded, cut-bounded, whole-bounded}
use Rattle.world_upheld.specs.causing.Hearing.{making-shows}
use Rattle.world_upheld.specs.causing.Known.{IsMakingKnown, dated-within}
use Rattle.world_upheld.specs.causing.OneTurn.{post-on, turn-keeps, untried}
use Rattle.world_upheld.specs.causing.Posts.{EachShows}
use Rattle.world_letters.specs.lives.CutLines.{hearing-cut}
use Rattle.world_letters.specs.lives.Events.{as-added}
use Rattle.world_letters.specs.lives.TurnLines.{IsTurnLine}
use Rattle.world_owners.specs.world_making.making.Making.{IsOfMaking, MakingLeaves}
use Rattle.world_owners.specs.world_making.making.Turns.{cuts-leave, hearings-leave}
use Rattle.world_owners.specs.world_making.prunings.Floors.{all-events-keep_floors}
use Rattle.world_legal.specs.world_causes.restarts.Resting.{is_silent}
use Rattle.world_legal.specs.world_causes.showing.Cutting.{work_stored}
use Rattle.world_legal.specs.world_causes.showing.Follows.{silent-shows}
use Rattle.world_letters.specs.snapshots.Events.{event-keeps}
use Rattle.world_letters.specs.snapshots.Makings.{ComesOf}
use Rattle.world_legal.specs.world_commit.statuses.Heard.{is_of_attempts}
use Rattle.world_legal.specs.world_commit.stops.CutEvents.{IsWithoutSnapshots, is_without_snapshots}
use Rattle.world_letters.specs.talks.TalkLaws.{left-is-among}

-- ---- the statements

-- what is heard of a snapshot or an aggregation
abbrev pub MakingKeepsCauses : Type 0
MakingKeepsCauses =
    (r : Rules) (o : Opening) (stored : Stored) (w v : World) → IsMakingKnown r o w → (g : HearsMore r w v) → is_of_attempts g.hears.l.message ≡ false → Causes r o stored w
    → Causes r o (stored_by g.hears.t g.hears.s.durable g.hears.new.durable ++ stored) v

-- and where a turn is cut in which it is heard
abbrev pub MakingCutsKeepCauses : Type 0
MakingCutsKeepCauses =
    (r : Rules) (o : Opening) (stored : Stored) (w v : World) → IsMakingKnown r o w → (g : TargetCut r w v) → (IsWithoutSnapshots g.work → ⊥) → Causes r o stored w
    → Causes r o (work_stored (target_plan r g.t) g.s g.work g.cut g.turn ++ stored) v

-- ---- what isn't of attempts is of makings

pub of-making : (m : Message) → is_of_attempts m ≡ false → IsOfMaking m
of-making (message.Snap x c name tracker) ours = refl
of-making (message.Freeze x c e) ours = refl
of-making (message.Held x refusal) ours = refl
of-making (message.Prune x c tracker e) ours = refl
of-making (message.Reset' by down place (more_of-Message (message.Freeze x c e) more)) ours = refl
of-making (message.Reset' by down place (more_of-Message (message.Prune x c tracker e) more)) ours = refl
of-making (message.Reset' by down place (more_of-Message q more)) ours = let no : ⊥ = cc in absurd no
of-making m ours = let no : ⊥ = cc in absurd no

making-cut : (m : Message) → is_without_snapshots m ≡ false → IsOfMaking m
making-cut (message.Snap x c name tracker) ours = refl
making-cut (message.Freeze x c e) ours = refl
making-cut (message.Held x refusal) ours = refl
making-cut (message.Prune x c tracker e) ours = refl
making-cut m ours = let no : ⊥ = cc in absurd no

-- a line of a turn is of no restart
turn-unrestarted : (t : ℕ) (l : Line) (n u inc : ℕ) (floor : Epoch) → IsTurnLine t l → l ≡ line.Restart n u inc floor → ⊥
turn-unrestarted t l n u inc floor own is = subst (IsTurnLine t) is own

module _ (r : Rules) (o : Opening) (stored : Stored) (w v : World) (K : IsMakingKnown r o w) (C : Causes r o stored w) where
  -- floors are shown then, and lines come of attempts
  floors-then : Happening r w v → FloorsShown o v
  floors-then h = let F = all-events-keep_floors r w (swept v) (record { u = v; happens = h; after = refl }) o C.floors in record { opening = F.opening; leased = F.leased; stored = F.stored; aggregated = F.aggregated }

  comes-then : Happening r w v → (l : Line) → Has l v.lines → ComesOf r v.issued l
  comes-then h l i = (event-keeps r K.some w (swept v) (record { u = v; happens = h; after = refl }) K.ends K.stand K.makings).1.lines l i

  -- the lease is within the limit
  was-leased : (t : ℕ) (s : TargetState) → slice_get w.targets t ≡ Some s → s.durable.lease ≤ limit_over o w.lines w.issued + 1 + 65535
  was-leased t s here = by s.durable.lease (limit_over o w.lines w.issued) (C.bounded.leases t s here)
    where
      by : (a b : ℕ) → a ≤ b + 65536 → a ≤ b + 1 + 65535
      by a b p = omega (arith, p)

  listed-is : (i : Option (AttemptId × Epoch)) (x : AttemptId) (e : Epoch) → Contains (events.listed i) (x, e) → i ≡ Some (x, e)
  listed-is None x e j = absurd (has-from_contains [] (x, e) j)
  listed-is (Some k) x e j = by (has-from_contains (k ∷ []) (x, e) j)
    where
      pair : AttemptId × Epoch
      pair = (x, e)

      by : Has pair (k ∷ []) → Some k ≡ Some pair
      by (inl same) = ap (λ z. Some z) (sym same)
      by (inr none) = absurd none

  -- ---- a whole turn

  pub making-keeps : (f : HearsMore r w v) → is_of_attempts f.hears.l.message ≡ false → Causes r o (stored_by f.hears.t f.hears.s.durable f.hears.new.durable ++ stored) v
  making-keeps f ours = turn-keeps r o stored new w v g.t g.s (target_after g.s g.new g.memory) C (record {
    here = g.here;
    targets = ap (λ u. u.targets) g.after;
    clients = ap (λ u. u.clients) g.after;
    added = events.listed g.did.issued;
    issued = ap (λ u. u.issued) g.after;
    more = g.did.lines;
    lines = lines;
    silent = silent;
    comes = λ l i. comes-then (Further f) l (subst (Has l) (sym lines) (has-right w.lines g.did.lines l i));
    unrestarted = λ l n u inc floor i is. turn-unrestarted g.t l n u inc floor (own l i) is;
    messages = messages;
    dates = λ x e i. bounds.dates x e (listed-is g.did.issued x e i);
    ticks = λ runs. bounds.ticks;
    lease = bounds.lease;
    free = bounds.free;
    parked = λ p i. inl (subst (λ m. Contains m.parked p) leaves.ends.knows.member i);
    floors = floors-then (Further f);
  })
    where
      g : TargetHearsBy (HearsFurther f.number) r w v
      g = f.hears

      new : Stored
      new = stored_by g.t g.s.durable g.new.durable

      ticks : g.s.memory.ticks ≤ limit_over o w.lines w.issued
      ticks = C.bounded.ticks g.t g.s g.here g.runs

      leaves : MakingLeaves f.number (target_plan r g.t) g.s.memory g.reading g.l.from g.l.message (kept g.s) g.new (g.memory, g.did)
      leaves = hearings-leave f.number (target_plan r g.t) g.s.opening g.s.memory g.reading g.l.from g.l.message (kept g.s) g.new (g.memory, g.did) g.turn (of-making g.l.message ours)

      own : (l : Line) → Has l g.did.lines → IsTurnLine g.t l
      own = leaves.lines

      silent : tries g.did.lines ≡ []
      silent = untried g.t g.did.lines own

      lines : v.lines ≡ w.lines ++ g.did.lines
      lines = ap (λ u. u.lines) g.after ∙ ap (λ ls. w.lines ++ ls) (as-added g.t w.issued g.did.lines own)

      bounds : IsBounded o w.issued w.lines f.number (target_plan r g.t) g.s.memory g.reading g.l.from g.l.message (dated-within r o stored w K C g.t g.s g.here g.l g.rest g.takes g.to_it g.reading ticks) (kept g.s) g.new (g.memory, g.did)
      bounds = whole-bounded o w.issued w.lines f.number (target_plan r g.t) g.s.memory g.reading g.l.from g.l.message (dated-within r o stored w K C g.t g.s g.here g.l g.rest g.takes g.to_it g.reading ticks) (kept g.s) g.new (g.memory, g.did) ticks (was-leased g.t g.s g.here) leaves

      shows : EachShows r o stored (w.issued ++ events.listed g.did.issued) w.lines g.did.posts
      shows = making-shows r o stored w K C g.t g.s g.here ticks g.reading g.l g.rest g.takes g.to_it f.number g.new (g.memory, g.did) g.l.message refl ours g.turn

      post-then : (q : Post) → Has q g.did.posts → PostShows r o (new ++ stored) v.issued v.lines q
      post-then q i = subst (λ ls. PostShows r o (new ++ stored) v.issued ls q) (sym lines) (subst (λ is. PostShows r o (new ++ stored) is (w.lines ++ g.did.lines) q) (sym (ap (λ u. u.issued) g.after))
          (post-on r o new stored (w.issued ++ events.listed g.did.issued) w.lines g.did.lines q silent (shows q i)))

      messages : (l : Letter) → Contains v.messages l → Contains w.messages l ⊎ PostShows r o (new ++ stored) v.issued v.lines (posted l)
      messages l i = elim (has-cases g.rest (letters_of (target g.t) g.did.posts) l (has-from_contains (g.rest ++ letters_of (target g.t) g.did.posts) l (subst (λ u. Contains u.messages l) g.after i))) [
        | inl j ↦ inl (left-is-among w.messages g.l g.rest l g.takes (contains-from_has g.rest l j))
        | inr j ↦ (let p = has-from_map (letter_of (target g.t)) g.did.posts l j in inr (subst (λ y. PostShows r o (new ++ stored) v.issued v.lines (posted y)) p.2 (post-then p.0 p.1)))
      ]

  -- ---- a turn that was cut

  abbrev stop_line : TargetCut r w v → List Line
  stop_line g = line.Stop (stops_so_far w.lines) g.t ∷ []

  one-stops : (n t : ℕ) (l : Line) → Has l (line.Stop n t ∷ []) → l ≡ line.Stop n t
  one-stops n t l (inl same) = same
  one-stops n t l (inr none) = absurd none

  -- a letter was in flight, or tells that one got no answer
  lost-shows : (g : TargetCut r w v) (new : Stored) (l : Letter) → Contains v.messages l → Contains w.messages l ⊎ PostShows r o (new ++ stored) v.issued v.lines (posted l)
  lost-shows g new l i = elim (has-cases (filter (is_not_to g.t) w.messages) (resets g.t false w.asked) l (has-from_contains (filter (is_not_to g.t) w.messages ++ resets g.t false w.asked) l (subst (λ u. Contains u.messages l) g.after i))) [
    | inl j ↦ inl (contains-from_has w.messages l (has-from_filter (is_not_to g.t) w.messages l j).0)
    | inr j ↦ inr (silent-shows r o (new ++ stored) v.issued v.lines l (let z = has-from_map (reset_letter false) (filter (is_to g.t) w.asked) l j in ap (λ y. is_silent y.message) (sym z.2)))
  ]

  pub cut-keeps : (g : TargetCut r w v) (new : Stored) → ((l : Line) → Has l g.cut.lines → IsTurnLine g.t l) → (g.s.free ≤ g.cut.left.free) × (g.cut.left.durable.lease ≤ limit_over o w.lines w.issued + 1 + 65535)
      × ((x : AttemptId) (e : Epoch) → Contains g.cut.issued (x, e) → e.0 / 256 ≤ limit_over o w.lines (w.issued ++ g.cut.issued)) → Causes r o (new ++ stored) v
  unfolding tries
  cut-keeps g new own bounds = turn-keeps r o stored new w v g.t g.s (stopped_at g.s g.cut.left) C (record {
    here = g.here;
    targets = ap (λ u. u.targets) g.after;
    clients = ap (λ u. u.clients) g.after;
    added = g.cut.issued;
    issued = ap (λ u. u.issued) g.after;
    more = g.cut.lines ++ stop_line g;
    lines = lines;
    silent = tries-append g.cut.lines (stop_line g) ∙ ap (λ xs. xs ++ []) (untried g.t g.cut.lines own);
    comes = λ l i. comes-then (IsCut g) l (subst (Has l) (sym lines) (has-right w.lines (g.cut.lines ++ stop_line g) l i));
    unrestarted = λ l n u inc floor i is. unrestarted l n u inc floor is (has-cases g.cut.lines (stop_line g) l i);
    messages = lost-shows g new;
    dates = bounds.2;
    ticks = λ is. let no : ⊥ = cc in absurd no;
    lease = bounds.1;
    free = bounds.0;
    parked = λ p i. absurd (has-from_contains [] p i);
    floors = floors-then (IsCut g);
  })
    where
      lines : v.lines ≡ w.lines ++ (g.cut.lines ++ stop_line g)
      lines = ap (λ u. u.lines) g.after ∙ append_assoc w.lines g.cut.lines (stop_line g)

      unrestarted : (l : Line) (n u inc : ℕ) (floor : Epoch) → l ≡ line.Restart n u inc floor → Has l g.cut.lines ⊎ Has l (stop_line g) → ⊥
      unrestarted l n u inc floor is (inl i) = turn-unrestarted g.t l n u inc floor (own l i) is
      unrestarted l n u inc floor is (inr i) = let stops = one-stops (stops_so_far w.lines) g.t l i in let no : ⊥ = cc in no

  pub making-cuts_keep : (g : TargetCut r w v) → (IsWithoutSnapshots g.work → ⊥) → Causes r o (work_stored (target_plan r g.t) g.s g.work g.cut g.turn ++ stored) v
  making-cuts_keep g ours = by g.work g.in_hand ours g.turn
    where
      by : (work : AtWork) → IsInHand w g.t work → (IsWithoutSnapshots work → ⊥) → (turn : CutOf (target_plan r g.t) g.s work g.cut) → Causes r o (work_stored (target_plan r g.t) g.s work g.cut turn ++ stored) v
      by IdleWork hand other turn = absurd (other tt)
      by (Hearing l reading number) hand other turn = heard (is_without_snapshots l.message) refl
        where
          ticks : g.s.memory.ticks ≤ limit_over o w.lines w.issued
          ticks = C.bounded.ticks g.t g.s g.here g.runs

          heard : (b : Bool) → is_without_snapshots l.message ≡ b → Causes r o (work_stored (target_plan r g.t) g.s (Hearing l reading number) g.cut turn ++ stored) v
          heard true is = absurd (other is)
          heard false is = cut-keeps g _ (hearing-cut is_prepared number (target_plan r g.t) g.s.opening g.s.memory reading l.from l.message (kept g.s) g.cut turn).own (bounds.free, bounds.lease, bounds.dates)
            where
              bounds : IsCutBounded o w.issued w.lines number (target_plan r g.t) g.s.memory reading l.from l.message (dated-within r o stored w K C g.t g.s g.here l hand.0.0 hand.0.1 hand.1 reading ticks) (kept g.s) g.cut
              bounds = cut-bounded o w.issued w.lines number (target_plan r g.t) g.s.memory reading l.from l.message (dated-within r o stored w K C g.t g.s g.here l hand.0.0 hand.0.1 hand.1 reading ticks) (kept g.s) g.cut (was-leased g.t g.s g.here)
                  (cuts-leave is_prepared number (target_plan r g.t) g.s.opening g.s.memory reading l.from l.message (kept g.s) g.cut turn (making-cut l.message is))

pub making-keeps_causes : MakingKeepsCauses
making-keeps_causes r o stored w v K g ours C = making-keeps r o stored w v K C g ours

pub making-cuts_keep_causes : MakingCutsKeepCauses
making-cuts_keep_causes r o stored w v K g ours C = making-cuts_keep r o stored w v K C g ours
