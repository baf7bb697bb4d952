-- What is left of an aborted attempt is taken out, one version after another.
use Rattle.std.proofs.Common.{◌≡◌, ℕ, ◌+◌, ◌≤◌, ◌<◌, ◌&&◌, ◌||◌, Bool, true, false, not, cond, List, [], ◌∷◌, ◌++◌, Ok, Err, Option, Result, get_or, length, option_map, take, refl, sym, ap, ◌∙◌, subst, arith, inr}
use Rattle.std.specs.Prelude.{All, IsErr, IsTrue, OnOk, filter, if◌then◌else◌, is_err}
use Rattle.std.proofs.lemmas.List.Elements.{All-head, All-tail}
use Rattle.base_outside.specs.Images.{Image}
use Rattle.base_types.specs.declared.entry.Settle.TheVariants as settle
use Rattle.base_types.specs.declared.id.AttemptId.{AttemptId}
use Rattle.daos_model.specs.BoolLaws.{clash}
use Rattle.daos_model.specs.Changes.{settled}
use Rattle.daos_model.specs.declared.durable.Durable.{Durable}
use Rattle.daos_model.specs.declared.durable.Version.{Version}
use Rattle.daos_model.specs.Versions.{is_not_pending, is_pending}
use Rattle.pmem_undo.specs.Undo.{IsUndo}
use Rattle.vos_entries.specs.Entries.{entries_in}
use Rattle.vos_image.specs.Kept.{Stored, counts}
use Rattle.vos_image.specs.Places.{Places}
use Rattle.vos_keeping.proofs.Going.{rest_count, those_stand, uncounted_go}
use Rattle.vos_keeping.proofs.Lists.{fewer_left, of_filter, on_all}
use Rattle.vos_keeping.proofs.Settling.{abort_settles}
use Rattle.vos_keeping.specs.Keeping.{IsAborted, SameRows, kept_so, versions_in}
use Rattle.vos_levels.specs.declared.change.Change.TheVariants.{Abort}
use Rattle.vos_levels.specs.Levels.{without_those}
use Rattle.vos_pool_base.specs.vos_places.Tables.{places_of}
use Rattle.vos_pool_base.specs.Pool.{OpenedState, kept_of, may_of}
use Rattle.vos_pool_base.specs.Tidy.{IfTidy, LeavesBut}
use Rattle.vos_pool_settle.specs.Aborting.{IsLeftAfter, IsLeftOver, IsTakenOut}
use Rattle.vos_pool_settle.specs.Settling.{HaveAllOf, IsSettling, OfItsKept}
use Rattle.vos_pool_settle.proofs.Made.{can_turn, each_counts, kept_is, same_stored}
use Rattle.vos_pool_settle.proofs.Named.{all_named, is_one_of, is_same, waits, waits_is}
use Rattle.vos_pool_turns.proofs.vos_pool_stage.Lifting.{leaves_then, none_leaves, quiet_then_quiet, still_same}
use Rattle.vos_pool_turns.specs.vos_pool_stage.Staged.{IsQuietCall, StandsInPool}
use Rattle.vos_pool_turns.specs.Pool.{CanTurn, HasTurned, IsOneTurn, TurnsKept}
use Rattle.vos_store.specs.Calls.{Makes}
use Rattle.vos_store.specs.declared.refusal.Stopped.{Stopped}
use Rattle.vos_store.specs.Refusals.{always_stop, refuses}
use Rattle.vos_pool_turns.specs.vos_turns.declared.entries.EntryStep.TheVariants as step
use Rattle.vos_pool_turns.proofs.vos_turns.Turning.{take_next}
use Rattle.vos_pool_turns.specs.vos_turns.Turns.{AreFew, IsTurned, after_each, after_one}
use Rattle.vos_pool_turns.proofs.Making.{stops_then}

-- ---- versions that go

pub without_is : {V : Type 0} (p : V → Bool) (vs : List V) → without_those p vs ≡ filter (λ v. not (p v)) vs
without_is p [] = refl
without_is p (v ∷ vs) = elim (p v) as (λ b. (if b then without_those p vs else v ∷ without_those p vs) ≡ cond (not b) (v ∷ filter (λ w. not (p w)) vs) (filter (λ w. not (p w)) vs)) [ true ↦ without_is p vs | false ↦ ap (λ z. v ∷ z) (without_is p vs) ]

pub filter_both : {V : Type 0} (p q r : V → Bool) (vs : List V) → ((v : V) → (p v || q v) ≡ r v) → filter (λ v. not (q v)) (filter (λ v. not (p v)) vs) ≡ filter (λ v. not (r v)) vs
filter_both p q r [] h = refl
filter_both p q r (v ∷ vs) h = by (p v) (q v) refl refl (filter_both p q r vs h)
  where
    by : (s t : Bool) → p v ≡ s → q v ≡ t → filter (λ v. not (q v)) (filter (λ v. not (p v)) vs) ≡ filter (λ v. not (r v)) vs
        → filter (λ v. not (q v)) (cond (not s) (v ∷ filter (λ v. not (p v)) vs) (filter (λ v. not (p v)) vs)) ≡ filter (λ v. not (r v)) (v ∷ vs)
    by true t e f k = let one : r v ≡ true = sym (h v) ∙ rw e refl in rw one k
    by false true e f k = let one : r v ≡ true = sym (h v) ∙ rw (e, f) refl in rw (f, one) k
    by false false e f k = let one : r v ≡ false = sym (h v) ∙ rw (e, f) refl in rw (f, one) (ap (λ z. v ∷ z) k)

pub all_left : {V : Type 0} (vs : List V) → vs ≡ filter (λ v. not false) vs
all_left [] = refl
all_left (v ∷ vs) = ap (λ z. v ∷ z) (all_left vs)

either : (b s w o : Bool) → ((if b then s && w else false) || (o && w)) ≡ (((b && s) || o) && w)
either true true true o = refl
either true true false true = refl
either true true false false = refl
either true false w o = refl
either false s w o = refl

abbrev pub goes : AttemptId → List Version → Version → Bool
goes a us v = is_one_of a us v && waits a v

-- those of an attempt that are among some
pub each_gone : (a : AttemptId) (us vs : List Version) → after_each (Abort a) us vs ≡ filter (λ v. not (goes a us v)) vs
each_gone a [] vs = all_left vs
each_gone a (u ∷ us) vs = by (waits a u) refl (each_gone a us)
  where
    by : (b : Bool) → waits a u ≡ b → ((ws : List Version) → after_each (Abort a) us ws ≡ filter (λ v. not (goes a us v)) ws) → after_each (Abort a) us (if b then after_one (Abort a) u vs else vs) ≡ filter (λ v. not (goes a (u ∷ us) v)) vs
    by true is on =
        on (without_those (λ w. is_same u w && waits a w) vs)
        ∙ (ap (filter (λ v. not (goes a us v))) (without_is (λ w. is_same u w && waits a w) vs)
        ∙ filter_both (λ w. is_same u w && waits a w) (goes a us) (goes a (u ∷ us)) vs (λ v. either true (is_same u v) (waits a v) (is_one_of a us v) ∙ sym (ap (λ (b : Bool). ((b && is_same u v) || is_one_of a us v) && waits a v) is)))
    by false is on = on vs ∙ same_goes vs
      where
        same_goes : (ws : List Version) → filter (λ v. not (goes a us v)) ws ≡ filter (λ v. not (goes a (u ∷ us) v)) ws
        same_goes [] = refl
        same_goes (w ∷ ws) =
            let one : goes a (u ∷ us) w ≡ goes a us w = ap (λ (b : Bool). ((b && is_same u w) || is_one_of a us w) && waits a w) is in
            ap (λ (z : List Version). cond (not (goes a us w)) (w ∷ z) z) (same_goes ws) ∙ sym (ap (λ (b : Bool). cond (not b) (w ∷ filter (λ v. not (goes a (u ∷ us) v)) ws) (filter (λ v. not (goes a (u ∷ us) v)) ws)) one)

-- those that go wait
goes_wait : (a : AttemptId) (us : List Version) (v : Version) → goes a us v ≡ true → is_pending a v ≡ true
goes_wait a us v h = waits_is a v ∙ second (is_one_of a us v) (waits a v) h
  where
    second : (b d : Bool) → (b && d) ≡ true → d ≡ true
    second true d h = h
    second false d h = absurd (cc)

-- where all are named, all that wait go
all_go : (a : AttemptId) (us vs : List Version) → All (λ w. is_pending a w ≡ true → is_one_of a us w ≡ true) vs → filter (λ v. not (goes a us v)) vs ≡ filter (is_not_pending a) vs
all_go a us [] all = refl
all_go a us (v ∷ vs) all =
    let here : goes a us v ≡ is_pending a v = by (is_pending a v) refl (All-head (λ w. is_pending a w ≡ true → is_one_of a us w ≡ true) v vs all) in
    ap (λ (b : Bool). cond (not b) (v ∷ filter (λ w. not (goes a us w)) vs) (filter (λ w. not (goes a us w)) vs)) here ∙ ap (λ (z : List Version). cond (is_not_pending a v) (v ∷ z) z) (all_go a us vs (All-tail (λ w. is_pending a w ≡ true → is_one_of a us w ≡ true) v vs all))
  where
    by : (b : Bool) → is_pending a v ≡ b → (is_pending a v ≡ true → is_one_of a us v ≡ true) → (is_one_of a us v && waits a v) ≡ is_pending a v
    by true is named = rw (named is) (sym (waits_is a v))
    by false is named = ap (λ (b : Bool). is_one_of a us v && b) (sym (waits_is a v) ∙ is) ∙ (no_both (is_one_of a us v) ∙ sym is)
      where
        no_both : (b : Bool) → (b && false) ≡ false
        no_both true = refl
        no_both false = refl

after_append : (a : AttemptId) (us vs ws : List Version) → after_each (Abort a) (us ++ vs) ws ≡ after_each (Abort a) vs (after_each (Abort a) us ws)
after_append a [] vs ws = refl
after_append a (u ∷ us) vs ws = after_append a us vs (after_each (Abort a) (u ∷ []) ws)

pub one_more : (us : List Version) (i : ℕ) (u : Version) (ones : List Version) → i < length us → u ≡ get_or us i u → ones ≡ u ∷ [] → take (i + 1) us ≡ take i us ++ ones
one_more us i u ones low is same = take_next us i u low is ∙ ap (λ z. take i us ++ z) (sym same)

pub few_one : (a : AttemptId) (u : Version) (ones : List Version) → ones ≡ u ∷ [] → AreFew (Abort a) ones
few_one a u ones same = subst (AreFew (Abort a)) (sym same) (record { few = inr (most (waits a u)); most = (let m = most (waits a u) in omega (arith, m)) })
  where
    most : (b : Bool) → length (cond b (u ∷ []) []) ≤ 1
    most true = omega arith
    most false = omega arith

-- ---- one version

not_counted : (a : AttemptId) (us : List Version) (x : Stored) → All (λ v. counts (entries_in x.1) v ≡ is_not_pending a v) (versions_in x) → All (λ v. goes a us v ≡ true → counts (entries_in x.1) v ≡ false) (versions_in x)
not_counted a us x all = on_all (λ v. counts (entries_in x.1) v ≡ is_not_pending a v) (λ v. goes a us v ≡ true → counts (entries_in x.1) v ≡ false) (λ v is go. is ∙ ap not (goes_wait a us v go)) (versions_in x) all

module _ {R : Type 0} (extent : R → ℕ) (tells : Bool) (image : R → Image) (may_leave : R → Image → Type 0) (count burns : R → ℕ) (a : AttemptId) where
  pub can_keep : (p : OpenedState R) → (IsTrue tells → p.blocks.undo.stopped ≡ false → (x : Stored) × IsLeftOver extent image a p x) → IsTrue tells → p.blocks.undo.stopped ≡ false → (x : Stored) × CanTurn extent image step.Keep p x
  can_keep p here told going = let x = here told going in (x.0, record { stands = x.1.stands; nothing = x.1.nothing; step = tt })

  over_as : (p : OpenedState R) (x y : Stored) → StandsInPool extent image p y → IsLeftOver extent image a p x → IsLeftOver extent image a p y
  over_as p x y stands over = subst (IsLeftOver extent image a p) (same_stored p.table.header.target (extent p.blocks.undo.region) (image p.blocks.undo.region) p.table x y over.stands stands) over

  pub keeps : (us : List Version) (p : OpenedState R) → (IsTrue tells → p.blocks.undo.stopped ≡ false → (x : Stored) × IsLeftOver extent image a p x) → TurnsKept tells extent image (Abort a) us a step.Keep p (λ d. d)
  keeps us p here told going x y can turned q rows =
      let h = here told going in
      let over = over_as p h.0 x can.stands h.1 in
      uncounted_go (goes a us) (places_of p.table) q x y rows turned.entries (not_counted a us x over.count) (turned.versions ∙ each_gone a us (versions_in x))

  pub left_after : (us : List Version) (p q : OpenedState R) (x : Stored) → IsLeftOver extent image a p x → HasTurned extent image (Abort a) us a step.Keep x q → IsLeftAfter extent image a us x q
  left_after us p q x over h = record {
    now = h.now;
    over = record {
      stands = h.stands;
      nothing = h.nothing;
      count = subst (λ (e : _). All (λ v. counts (entries_in e) v ≡ is_not_pending a v) (versions_in h.now)) (sym h.turned.entries)
          (subst (λ (z : List Version). All (λ v. counts (entries_in x.1) v ≡ is_not_pending a v) z) (sym (h.turned.versions ∙ each_gone a us (versions_in x)))
          (of_filter (λ v. counts (entries_in x.1) v ≡ is_not_pending a v) (λ v. not (goes a us v)) (versions_in x) (on_all (λ v. counts (entries_in x.1) v ≡ is_not_pending a v) (λ v. not (goes a us v) ≡ true → counts (entries_in x.1) v ≡ is_not_pending a v) (λ v is stays. is) (versions_in x) over.count)));
    };
    versions = h.turned.versions;
    entries = h.turned.entries;
  }

  -- ---- one after another

  pub taken_first : (p : OpenedState R) → p.blocks.undo.stopped ≡ false → IsTakenOut tells extent image may_leave count burns a [] p p (Ok tt)
  taken_first p going = record {
    quiet = record { told = refl; done = refl; left = λ x may. may };
    over = λ told x over. record { now = x; over = over; versions = refl; entries = refl };
    left = none_leaves extent tells image may_leave p p.blocks (still_same extent tells image may_leave p.blocks) 0;
    free = omega arith;
    size = refl;
    stops = record { later_faults = omega arith; later_burns = omega arith; cause = tt; stopped = tt; again = λ w. absurd (clash p.blocks.undo.stopped w going); once = λ w. w; went_on = refl };
  }

  -- what is left after those so far
  pub here_then : (us : List Version) (p q : OpenedState R) → IsTakenOut tells extent image may_leave count burns a us p q (Ok tt) → (IsTrue tells → (x : Stored) × IsLeftOver extent image a p x) → IsTrue tells → q.blocks.undo.stopped ≡ false → (x : Stored) × IsLeftOver extent image a q x
  here_then us p q k here told going = let x = here told in let l = k.over told x.0 x.1 in (l.now, l.over)

  over_then : (us vs : List Version) (p q w : OpenedState R) (r : Result (Unit {0}) Stopped) → (IsTrue tells → (x : Stored) → IsLeftOver extent image a p x → IsLeftAfter extent image a us x q) → OnOk r (IsTrue tells → (x : Stored) → CanTurn extent image step.Keep q x → HasTurned extent image (Abort a) vs a step.Keep x w)
      → OnOk r (IsTrue tells → (x : Stored) → IsLeftOver extent image a p x → IsLeftAfter extent image a (us ++ vs) x w)
  over_then us vs p q w (Ok z) first turned = λ told x over.
      let l = first told x over in
      let h = left_after vs q w l.now l.over (turned told l.now (record { stands = l.over.stands; nothing = l.over.nothing; step = tt })) in
      record {
        now = h.now;
        over = h.over;
        versions = h.versions ∙ (ap (after_each (Abort a) vs) l.versions ∙ sym (after_append a us vs (versions_in x)));
        entries = h.entries ∙ l.entries;
      }
  over_then us vs p q w (Err z) first turned = tt

  pub taken_more : (us vs : List Version) (p q w : OpenedState R) (r : Result (Unit {0}) Stopped) → (IsTrue tells → (x : Stored) × IsLeftOver extent image a p x) → IsTakenOut tells extent image may_leave count burns a us p q (Ok tt)
      → IsOneTurn tells extent image may_leave count burns (Abort a) vs a step.Keep q w r → IsTakenOut tells extent image may_leave count burns a (us ++ vs) p w r
  taken_more us vs p q w r here k one = record {
    quiet = quiet_then_quiet r (kept_of tells extent image p) (kept_of tells extent image q) (kept_of tells extent image w) (may_of tells extent may_leave p) (may_of tells extent may_leave q) (may_of tells extent may_leave w) k.quiet (one.quiet (keeps vs q (here_then us p q k here)));
    over = over_then us vs p q w r k.over one.turned;
    left = leaves_then tells extent may_leave 0 0 p q w k.left one.left;
    free = (let f = k.free in let h = one.free in omega (arith, f, h));
    size = one.size ∙ k.size;
    stops = stops_then p.blocks.undo.stopped q.blocks.undo.stopped w.blocks.undo.stopped (count p.blocks.undo.region) (count q.blocks.undo.region) (count w.blocks.undo.region) (burns p.blocks.undo.region) (burns q.blocks.undo.region) (burns w.blocks.undo.region) r (sym k.stops.went_on) k.stops.later_faults k.stops.later_burns one.stops;
  }

  -- where it stopped, whatever was to be taken out
  pub stopped_any : (us vs : List Version) (p w : OpenedState R) (r : Result (Unit {0}) Stopped) (z : Stopped) → r ≡ Err z → IsTakenOut tells extent image may_leave count burns a us p w r → IsTakenOut tells extent image may_leave count burns a vs p w r
  stopped_any us vs p w r z is k = record {
    quiet = k.quiet;
    over = subst (λ (o : Result (Unit {0}) Stopped). OnOk o (IsTrue tells → (x : Stored) → IsLeftOver extent image a p x → IsLeftAfter extent image a vs x w)) (sym is) tt;
    left = k.left;
    free = k.free;
    size = k.size;
    stops = k.stops;
  }

-- ---- the whole of it

-- a change, then a quiet call
pub makes_then_quiet : (stopped : Bool) (change : Durable → Durable) (r : Result (Unit {0}) Stopped) (old now new : Option Durable) (may may' may'' : Durable → Type 0) → Makes {T = Unit {0}} stopped always_stop change (Ok (tt {0})) old now may may' → IsQuietCall r now new may' may'' → Makes stopped always_stop change r old new may may''
makes_then_quiet stopped change r old now new may may' may'' m k = record {
  told = k.told ∙ m.told;
  done = by r k.done;
  refused = λ h. clash true refl (never r h);
  left = λ x found. m.left x (k.left x found);
}
  where
    by : (r : Result (Unit {0}) Stopped) → OnOk r (new ≡ now) → OnOk r (new ≡ option_map change old)
    by (Ok z) e = e ∙ m.done
    by (Err z) e = tt

    never : (r : Result (Unit {0}) Stopped) → refuses always_stop r ≡ true → true ≡ false
    never (Ok z) h = sym h
    never (Err z) h = sym h

module _ {R : Type 0} (extent : R → ℕ) (tells : Bool) (image : R → Image) (may_leave : R → Image → Type 0) (count burns : R → ℕ) (a : AttemptId) (p : OpenedState R) (tidy : IfTidy tells extent image p) where
  pub can_remove : IsTrue tells → p.blocks.undo.stopped ≡ false → (x : Stored) × CanTurn extent image step.Remove p x
  can_remove = can_turn extent tells image may_leave p tidy step.Remove (λ told going. tt)

  goes_so : (x y : Stored) (q : Places) → IsTrue tells → p.blocks.undo.stopped ≡ false → CanTurn extent image step.Remove p x → IsTurned (Abort a) [] a step.Remove x y → SameRows (places_of p.table) q → IsAborted a (places_of p.table) x q y
  goes_so x y q told going can turned rows = abort_settles a (places_of p.table) q x y rows (each_counts extent tells image may_leave p tidy told going x can.stands) turned.versions turned.entries

  pub entry_kept : TurnsKept tells extent image (Abort a) [] a step.Remove p (settled a settle.Abort)
  entry_kept told going x y can turned q rows = (goes_so x y q told going can turned rows).kept

  pub stopped_first : (us : List Version) (q : OpenedState R) (r : Result (Unit {0}) Stopped) (z : Stopped) → r ≡ Err z → IsOneTurn tells extent image may_leave count burns (Abort a) us a step.Remove p q r → us ≡ [] → IsSettling tells extent image may_leave count burns a settle.Abort p q r
  stopped_first us q r z is k none = record {
    kept = k.kept (settled a settle.Abort) (subst (λ (l : List Version). TurnsKept tells extent image (Abort a) l a step.Remove p (settled a settle.Abort)) (sym none) entry_kept);
    tidy = subst (λ (o : Result (Unit {0}) Stopped). OnOk o (IfTidy tells extent image p → IfTidy tells extent image q)) (sym is) tt;
    left = k.left;
    free = k.free;
    size = k.size;
    stops = k.stops;
  }

  module _ (q : OpenedState R) (one : IsOneTurn tells extent image may_leave count burns (Abort a) [] a step.Remove p q (Ok (tt {0}))) where
    pub left_over : p.blocks.undo.stopped ≡ false → IsTrue tells → (x : Stored) × IsLeftOver extent image a q x
    left_over going told =
        let x = can_remove told going in
        let h = one.turned told x.0 x.1 in
        (h.now, record { stands = h.stands; nothing = h.nothing; count = (goes_so x.0 h.now (places_of q.table) told going x.1 h.turned one.rows).count })

  module _ (undo : IsTrue tells → IsUndo (extent p.blocks.undo.region) tells (image p.blocks.undo.region) (may_leave p.blocks.undo.region) p.blocks.undo.staged p.blocks.undo.stopped) (us : List Version) (all : OfItsKept tells extent image p (HaveAllOf a us)) where
    tidy_then : (q w : OpenedState R) → IsOneTurn tells extent image may_leave count burns (Abort a) [] a step.Remove p q (Ok (tt {0})) → (IsTrue tells → (x : Stored) → IsLeftOver extent image a q x → IsLeftAfter extent image a us x w)
        → w.table.header.layout ≡ p.table.header.layout → p.blocks.undo.stopped ≡ w.blocks.undo.stopped → IfTidy tells extent image p → IfTidy tells extent image w
    tidy_then q w one over same went was told running =
        let going : p.blocks.undo.stopped ≡ false = went ∙ running in
        let t = was told going in
        let d = kept_so (places_of p.table) t.stored in
        let each = each_counts extent tells image may_leave p tidy told going t.stored t.stands in
        let named = those_stand (λ w. is_pending a w ≡ true → is_one_of a us w ≡ true) (places_of p.table) t.stored each (all_named a us d.versions (all told going d (kept_is extent tells image may_leave p tidy undo told going t.stored t.stands))) in
        let can : CanTurn extent image step.Remove p t.stored = record { stands = t.stands; nothing = t.unlisted; step = tt } in
        let h = one.turned told t.stored can in
        let s = goes_so t.stored h.now (places_of q.table) told going can h.turned one.rows in
        let l = over told h.now (record { stands = h.stands; nothing = h.nothing; count = s.count }) in
        let gone : versions_in l.now ≡ filter (λ v. not (is_pending a v)) (versions_in h.now) =
        l.versions ∙ (each_gone a us (versions_in h.now) ∙ all_go a us (versions_in h.now) (subst (λ (z : List Version). All (λ w. is_pending a w ≡ true → is_one_of a us w ≡ true) z) (sym h.turned.versions) named)) in
        record {
          stored = l.now;
          stands = l.over.stands;
          layout = same ∙ t.layout;
          counted = rest_count (is_pending a) h.now l.now l.entries s.count gone;
          unlisted = l.over.nothing;
          few = λ b. (let few = t.few b in let wait = s.wait b in let left = subst (λ (z : List Version). length (filter (is_pending b) z) ≤ length (filter (is_pending b) (versions_in h.now))) (sym gone) (fewer_left (is_pending b) (λ v. not (is_pending a v)) (versions_in h.now)) in omega (arith, few, wait, left));
        }

    pub aborts : (q w : OpenedState R) (r : Result (Unit {0}) Stopped) → IsOneTurn tells extent image may_leave count burns (Abort a) [] a step.Remove p q (Ok (tt {0})) → IsTakenOut tells extent image may_leave count burns a us q w r → IsSettling tells extent image may_leave count burns a settle.Abort p w r
    aborts q w r one k = record {
      kept = makes_then_quiet p.blocks.undo.stopped (settled a settle.Abort) r (kept_of tells extent image p) (kept_of tells extent image q) (kept_of tells extent image w) (may_of tells extent may_leave p) (may_of tells extent may_leave q) (may_of tells extent may_leave w) (one.kept (settled a settle.Abort) entry_kept) k.quiet;
      tidy = by r k.over k.stops.went_on;
      left = both;
      free = (let f = one.free in let h = k.free in omega (arith, f, h));
      size = k.size ∙ one.size;
      stops = stops_then p.blocks.undo.stopped q.blocks.undo.stopped w.blocks.undo.stopped (count p.blocks.undo.region) (count q.blocks.undo.region) (count w.blocks.undo.region) (burns p.blocks.undo.region) (burns q.blocks.undo.region) (burns w.blocks.undo.region) r (sym one.stops.went_on) one.stops.later_faults one.stops.later_burns k.stops;
    }
      where
        both : LeavesBut tells extent may_leave 0 p w
        both = leaves_then tells extent may_leave 0 0 p q w one.left k.left

        by : (r : Result (Unit {0}) Stopped) → OnOk r (IsTrue tells → (x : Stored) → IsLeftOver extent image a q x → IsLeftAfter extent image a us x w) → OnOk r (q.blocks.undo.stopped ≡ w.blocks.undo.stopped) → OnOk r (IfTidy tells extent image p → IfTidy tells extent image w)
        by (Ok z) over went = tidy_then q w one over both.same.layout (one.stops.went_on ∙ went)
        by (Err z) over went = tt

-- ---- what a call answered

pub was_err : (r : Result (Unit {0}) Stopped) (b : Bool) → b ≡ is_err r → b ≡ true → (z : Stopped) × (r ≡ Err z)
was_err (Ok z) b is e = absurd (clash b (e) (is))
was_err (Err z) b is e = (z, refl)

pub was_ok : (r : Result (Unit {0}) Stopped) (b : Bool) → b ≡ is_err r → b ≡ false → r ≡ Ok (tt {0})
was_ok (Ok tt) b is e = refl
was_ok (Err z) b is e = absurd (clash b is e)

-- where it went well it had not stopped
pub had_gone : (b : Bool) → (b ≡ true → IsErr {T = Unit {0}} {E = Stopped} (Ok (tt {0}))) → b ≡ false
had_gone false h = refl
had_gone true h = sym (h refl)
