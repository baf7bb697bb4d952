-- A Marked, attempt by attempt.
use Rattle.std.proofs.Common.{ℕ, ◌≡◌, ◌<◌, ◌+◌, ◌/◌, ◌%◌, ◌^◌, refl, sym, ◌∙◌, ap, subst, Bool, true, false, List, [], ◌∷◌, filter, find, length, drop, get_or, Option, Some, None, Ok, Err, arith}
use Rattle.std.specs.Prelude.{IsBitSet, if◌then◌else◌}
use Rattle.std.proofs.lemmas.Bool.Decides.{nat_tests}
use Rattle.std.proofs.lemmas.Nat.{and_mask, bit_set_by_shift}
use Rattle.base_types.specs.declared.entry.Entry.{Entry}
use Rattle.base_types.specs.declared.entry.Settle.TheVariants.{Confirm}
use Rattle.base_types.specs.declared.id.AttemptId.{AttemptId}
use Rattle.model_laws.specs.EntryLaws.{found-has, found-passes}
use Rattle.model_laws.specs.Members.{Has, has-from_filter}
use Rattle.model_laws.specs.RisingLaws.{after-has}
use Rattle.daos_model.specs.declared.durable.Durable.{Durable}
use Rattle.daos_model.specs.Answers.{is_before}
use Rattle.daos_model.specs.BoolLaws.{and_left, and_right, clash}
use Rattle.daos_model.specs.Durables.{attempt_key, entry_key, entry_of, is_entry_of, same_attempt}
use Rattle.daos_model.specs.Ordered.{all_after, is_rising}
use Rattle.daos_model.specs.OrderLaws.{before-itself}
use Rattle.dtx_base.specs.declared.leading.LeaderMemory.{LeaderMemory}
use Rattle.dtx_base.specs.declared.leading.Naming.{Naming}
use Rattle.dtx_base.specs.LeaderLaws.{same-is}
use Rattle.dtx_base.specs.Leading.{answered, entry_led, is_led, marked_heard, may_confirm}
use Rattle.dtx_base.specs.Members.{has_target}
use Rattle.vos_store.specs.Calls.{State}
use Rattle.vos_store.specs.Conditions.{CanSettle}
use Rattle.vos_store.specs.declared.refusal.Stopped.{Stopped}
use Rattle.world_base.specs.declared.did.Did.{Did as DidOf}
use Rattle.world_base.specs.declared.target.TargetMemory.{TargetMemory}
use Rattle.world_base.specs.declared.target.TargetPlan.{TargetPlan}
use Rattle.world_base.specs.Acks.{AllConfirmed, Confirms, MarkedEnds, MarkedNext, PassesBy, to_confirm}
use Rattle.world_base.specs.Changes.{Kept, Settles}
use Rattle.world_base.specs.Requests.{nothing_follows}
use Rattle.world_base.specs.Roles.{leader_at}
use Rattle.world_base.specs.Turns.{CutShort, Reached, Whole}
use Rattle.target_parts.specs.Keeping.{MadeIf}
use Rattle.target_parts.specs.KeepingLaws.{apart-unless}
use Rattle.target_parts.specs.Knowing.{AreRowsOpen, IsApart, LeadsWell}
use Rattle.target_parts.specs.Listing.{one_cut, one_more}
use Rattle.target_parts.specs.Parts.{Now, kept, left_by}
use Rattle.target_parts.specs.RowKeeping.{rows-named}
use Rattle.target_parts.specs.Turning.{whole}
use Rattle.target_dtx.proofs.Items.{item-itself}

-- of entries in order, the one of an attempt that a target leads is the one of that attempt
found-led : (q : Entry → Bool) (a : AttemptId) (es : List Entry) (e : Entry) → is_rising entry_key es ≡ true → find (is_entry_of a) (filter q es) ≡ Some e → find (is_entry_of a) es ≡ Some e
found-led q a [] e rising found = let no : ⊥ = cc in absurd no
found-led q a (x ∷ es) e rising found = by (q x) (same_attempt x.attempt a) refl (found-led q a es e (and_right (all_after entry_key (entry_key x) es) (is_rising entry_key es) rising)) found
  where
    beyond : same_attempt x.attempt a ≡ true → find (is_entry_of a) (filter q es) ≡ Some e → ⊥
    beyond own f =
        let there : Has e es = (has-from_filter q es e (found-has (is_entry_of a) (filter q es) e f)).0 in
        let after : is_before (entry_key x) (entry_key e) ≡ true = after-has entry_key (entry_key x) es e (and_left (all_after entry_key (entry_key x) es) (is_rising entry_key es) rising) there in
        let same : e.attempt ≡ x.attempt = same-is e.attempt a (found-passes (is_entry_of a) (filter q es) e f) ∙ sym (same-is x.attempt a own) in
        clash (is_before (entry_key x) (entry_key x)) (subst (λ y. is_before (entry_key x) (attempt_key y) ≡ true) same after) (before-itself (entry_key x))

    by : (b c : Bool) → same_attempt x.attempt a ≡ c → (find (is_entry_of a) (filter q es) ≡ Some e → find (is_entry_of a) es ≡ Some e)
        → find (is_entry_of a) (if b then x ∷ filter q es else filter q es) ≡ Some e → (if c then Some x else find (is_entry_of a) es) ≡ Some e
    by true true own rest f = sym (ap (λ (c : Bool). if c then Some x else find (is_entry_of a) (filter q es)) own) ∙ f
    by true false other rest f = rest (sym (ap (λ (c : Bool). if c then Some x else find (is_entry_of a) (filter q es)) other) ∙ f)
    by false true own rest f = absurd (beyond own f)
    by false false other rest f = rest f

bit-set : (set t : ℕ) → has_target set t ≡ true → IsBitSet set t
unfolding has_target
bit-set set t has =
    let one : set / 2 ^ t % 2 ≡ 1 = grind (arith, nat_tests) in
    (bit_set_by_shift set t).0 (and_mask (set / 2 ^ t) 1 ∙ one)

module _ (me member : ℕ) (a : AttemptId) (es : List Entry) (d : Durable) (e : Entry) (same : es ≡ d.entries) (rising : is_rising entry_key d.entries ≡ true)
    (found : find (is_entry_of a) (filter (is_led me) es) ≡ Some e) (settled : e.committed ≡ true)
  where
    here : entry_of d a ≡ Some e
    unfolding entry_of
    here = found-led (is_led me) a d.entries e rising (subst (λ xs. find (is_entry_of a) (filter (is_led me) xs) ≡ Some e) same found)

    pub confirm-can : has_target e.members member ≡ true → CanSettle a (Confirm member) d
    confirm-can has = record { entry = e; here = here; fits = (settled, bit-set e.members member has) }

    -- it isn't one that is to be decided or settled
    pub confirm-apart : (t : TargetPlan) (m : LeaderMemory) → AreRowsOpen t.me m d → IsApart a m
    confirm-apart t m rows = apart-unless t a m d rows (λ o.
        let is : o.entry ≡ e = let both : Some o.entry ≡ Some e = sym o.here ∙ here in cc in
        clash o.entry.committed (ap (λ x. x.committed) is ∙ settled) o.unsettled)

-- what stands for an attempt where there is none
abbrev pub none_marked : AttemptId
none_marked = record { client = 0; command = 0; attempt = 0 }

module _ (t : TargetPlan) (m : TargetMemory) (member : ℕ) (ids : List AttemptId) (old : Kept) (i : ℕ) (z : AttemptId) (d : Durable) (h k : State) (new : Option Durable) (finds : Durable → Type 0)
    (within : i < length ids) (reached : Reached (MarkedNext t m member) ids old (drop i ids) (kept d h))
  where
    abbrev x : AttemptId
    x = get_or ids i z

    abbrev may : Durable → Bool
    may y = may_confirm member (entry_led x (leader_at t m y))

    changes : may d ≡ true → (l : Kept) → l.durable ≡ d → MarkedNext t m member (x ∷ drop (i + 1) ids) l (Some (Settles x (Confirm member))) (drop (i + 1) ids)
    changes is l same = Confirms l x (drop (i + 1) ids) (ap may same ∙ is)

    passes : may d ≡ false → (l : Kept) → l.durable ≡ d → MarkedNext t m member (x ∷ drop (i + 1) ids) l None (drop (i + 1) ids)
    passes is l same = PassesBy l x (drop (i + 1) ids) (ap may same ∙ is)

    pub confirms-on : MadeIf (may d) (Settles x (Confirm member)) d h new k finds (Ok tt) → Now new k (λ l. Reached (MarkedNext t m member) ids old (drop (i + 1) ids) l)
    confirms-on made = one_more (MarkedNext t m member) ids old i x (may d) (Settles x (Confirm member)) d h k new finds within (item-itself ids i z within) changes passes reached made

    pub confirms-cut : (e : Stopped) → MadeIf (may d) (Settles x (Confirm member)) d h new k finds (Err e) → CutShort (MarkedNext t m member) ids old (left_by k finds)
    confirms-cut e made = one_cut (MarkedNext t m member) ids old i x (may d) (Settles x (Confirm member)) d h k new finds within (item-itself ids i z within) changes passes reached e made

-- none is left: the Mark got its answer
pub confirms-done : (t : TargetPlan) (m n : TargetMemory) (member inc : ℕ) (ids list : List AttemptId) (told : DidOf) (d : Durable) (h k : State) (new : Option Durable) → list ≡ to_confirm inc ids d
    → n ≡ record m { leader = record m.leader { named = answered member inc ids m.leader.named } } → told ≡ nothing_follows → Now new k (λ l. Reached (MarkedNext t m member) list (kept d h) [] l)
    → Now new k (λ l. Whole (MarkedNext t m member) (MarkedEnds t m member inc ids) (to_confirm inc ids d) (kept d h) l (n, told))
unfolding marked_heard
confirms-done t m n member inc ids list told d h k new list-is memory is now =
    subst (λ xs. Now new k (λ l. Whole (MarkedNext t m member) (MarkedEnds t m member inc ids) xs (kept d h) l (n, told))) list-is (record {
      durable = now.durable;
      kept_is = now.kept_is;
      holds = whole (MarkedNext t m member) (MarkedEnds t m member inc ids) list (kept d h) (kept now.durable k) [] (n, told) now.holds
          (AllConfirmed (kept now.durable k) (n, told) (ap (λ x. (x, told)) memory ∙ ap (λ x. (record m { leader = record m.leader { named = answered member inc ids m.leader.named } }, x)) is));
    })

-- the answer of a Mark changes nothing of the attempts that are to be decided or settled
pub leads-marked : (t : TargetPlan) (m : TargetMemory) (es : List Entry) (d : Durable) (named : List Naming) → LeadsWell t m es d → LeadsWell t (record m { leader = record m.leader { named = named } }) es d
leads-marked t m es d named k = record { entries = k.entries; rows = rows-named t.me m.leader d k.rows named; heard = k.heard; asks = k.asks }
