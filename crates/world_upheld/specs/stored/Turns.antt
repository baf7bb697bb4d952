-- A turn in which a target hears of a snapshot or an aggregation stores nothing, and keeps what is stored once.
use Rattle.std.specs.Prelude.{ℕ, ◌≡◌, ◌⊎◌, ◌++◌, Bool, true, false, List, [], ◌∷◌, filter, find, map, Contains, Option, Some, None, refl, if◌then◌else◌, is_none}
use Rattle.std.proofs.Common.{sym, ◌∙◌, ap, subst, inl, inr}
use Rattle.std.proofs.lemmas.List.Elements.{Contains-append_left}
use Rattle.base_types.specs.declared.entry.Entry.{Entry}
use Rattle.base_types.specs.declared.id.AttemptId.{AttemptId}
use Rattle.base_messages.specs.declared.message.Message.{Message}
use Rattle.base_messages.specs.declared.message.Message.TheVariants as message
use Rattle.base_messages.specs.declared.message.Post.{Post}
use Rattle.daos_model.specs.Attempts.{tries}
use Rattle.daos_model.specs.Durables.{entry_of, is_entry_of}
use Rattle.daos_model.specs.EntryLaws.{same_attempt-itself}
use Rattle.daos_model.specs.declared.durable.Durable.{Durable}
use Rattle.model_laws.specs.Members.{Has, contains-from_has, has-cases, has-from_contains, has-from_map}
use Rattle.world_legal.specs.world_commit.attempts.Counting.{has-left_over, has-taken}
use Rattle.world_legal.specs.world_commit.attempts.History.{History}
use Rattle.world_base.specs.declared.letter.Letter.{Letter}
use Rattle.world_base.specs.declared.world.World.{World}
use Rattle.world_base.specs.Events.{Rules, TargetHearsBy, kept, listed, target_plan, with_epoch}
use Rattle.world_base.specs.Further.{HearsFurther}
use Rattle.world_base.specs.Letters.{letter_of, letters_of, target}
use Rattle.world_legal.specs.world_causes.causes.Causes.{Stored, is_new_to, stored_as, stored_by}
use Rattle.world_legal.specs.world_causes.causes.StoreTurns.{IsCommitOf}
use Rattle.world_legal.specs.world_causes.causes.Storing.{HasItsLine, IsAskedAt, IsPrepareOf, IsRefusedAt, IsTold, RefusesAt}
use Rattle.world_letters.specs.epochs.Epochs.{ClientsStand}
use Rattle.world_legal.specs.world_commit.fates.Facts.{Attempts}
use Rattle.world_owners.specs.world_making.fates.Sends.{is_sent_in_making, making-sent}
use Rattle.world_letters.specs.lines.FilledLaws.{tries-filled}
use Rattle.world_letters.specs.lines.Lines.{filled}
use Rattle.world_owners.specs.world_making.losses.Tells.{turn-lines-untried}
use Rattle.world_owners.specs.world_making.makers.Makers.{IsMaker, MakersTell}
use Rattle.world_owners.specs.world_making.making.Making.{IsOfMaking, MakingLeaves}
use Rattle.world_owners.specs.world_making.making.Turns.{hearings-leave}
use Rattle.world_legal.specs.world_causes.outcomes.Outcomes.{IsHandedOver}
use Rattle.world_legal.specs.world_causes.outcomes.Premises.{HandsOver}
use Rattle.world_legal.specs.world_causes.outcomes.Untried.{untried-back}
use Rattle.world_owners.specs.world_making.questions.Entries.{turn-leaves-entry}
use Rattle.world_letters.specs.snapshots.Makings.{Makings}
use Rattle.world_legal.specs.world_causes.stored.Over.{StoringOver}
use Rattle.world_upheld.specs.stored.Makers.{EndMakers, maker-writes-none, making-ends-makers, refused-makes}
use Rattle.world_upheld.specs.stored.Writing.{StoredWrite, prepare-writes}

-- ---- nothing is stored

filter-none : (p : Entry → Bool) (es : List Entry) → ((e : Entry) → Has e es → p e ≡ false) → filter p es ≡ []
filter-none p [] off = refl
filter-none p (e ∷ es) off = by (p e) (off e (inl refl)) (filter-none p es (λ n i. off n (inr i)))
  where
    by : (b : Bool) → b ≡ false → filter p es ≡ [] → (if b then e ∷ filter p es else filter p es) ≡ []
    by false is rest = rest
    by true is rest = let no : ⊥ = cc in absurd no

-- an entry that is there is found
found-some : (es : List Entry) (e : Entry) → Has e es → find (is_entry_of e.attempt) es ≡ None → ⊥
found-some (n ∷ es) e (inl same) none =
    let own : is_entry_of e.attempt n ≡ true = ap (λ z. is_entry_of e.attempt z) (sym same) ∙ same_attempt-itself e.attempt in
    let bad : Some n ≡ None = sym (ap (λ b. if b then Some n else find (is_entry_of e.attempt) es) own) ∙ none in let no : ⊥ = cc in no
found-some (n ∷ es) e (inr i) none = by (is_entry_of e.attempt n) none (found-some es e i)
  where
    by : (b : Bool) → (if b then Some n else find (is_entry_of e.attempt) es) ≡ None → (find (is_entry_of e.attempt) es ≡ None → ⊥) → ⊥
    by true h rest = let no : ⊥ = cc in no
    by false h rest = rest h
found-some [] e i none = i

-- where no entry comes, nothing is stored
nothing-stored : (t : ℕ) (old new : Durable) → ((x : AttemptId) → entry_of old x ≡ None → entry_of new x ≡ None) → stored_by t old new ≡ []
unfolding entry_of
nothing-stored t old new stays = ap (map (stored_as t)) (filter-none (is_new_to old) new.entries known)
  where
    known : (e : Entry) → Has e new.entries → is_new_to old e ≡ false
    known e i = by (find (is_entry_of e.attempt) old.entries) refl
      where
        by : (o : Option Entry) → find (is_entry_of e.attempt) old.entries ≡ o → is_none o ≡ false
        by (Some f) at = refl
        by None at = absurd (found-some new.entries e i (stays e.attempt at))

-- ---- the turn

module _ (number : ℕ) (r : Rules) (w v : World) (g : TargetHearsBy (HearsFurther number) r w v) (is : IsOfMaking g.l.message) where
  left : MakingLeaves number (target_plan r g.t) g.s.memory g.reading g.l.from g.l.message (kept g.s) g.new (g.memory, g.did)
  left = hearings-leave number (target_plan r g.t) g.s.opening g.s.memory g.reading g.l.from g.l.message (kept g.s) g.new (g.memory, g.did) g.turn is

  flies : Has g.l w.messages
  flies = has-taken w.messages g.l g.rest g.takes

  sent : (q : Post) → Has q g.did.posts → is_sent_in_making q.message ≡ true
  sent = making-sent (target_plan r g.t) g.s.memory g.l.from g.l.message g.new.durable g.did.posts left.ends.sends

  pub ends-makers : Makings r w → MakersTell r w → EndMakers r g.did.posts
  ends-makers makings makers = making-ends-makers r w.issued (target_plan r g.t) g.s.memory g.l.from g.l.message g.new.durable g.did.posts (makings.letters g.l flies)
      (makers.letters g.l flies) left.ends.sends

  pub stores-nothing : stored_by g.t g.s.durable g.new.durable ≡ []
  stores-nothing =
      nothing-stored g.t g.s.durable g.new.durable
      (λ x. (turn-leaves-entry x number (target_plan r g.t) g.s.memory g.reading g.l.from g.l.message (kept g.s) g.new (g.memory, g.did) left).none)

  -- a letter was there before, or it is sent
  comes : (l : Letter) → Contains v.messages l → Contains w.messages l ⊎ ((q : Post) × Has q g.did.posts × (q.message ≡ l.message))
  comes l i = elim (has-cases g.rest (letters_of (target g.t) g.did.posts) l (subst (Has l) (ap (λ u. u.messages) g.after) (has-from_contains v.messages l i))) [
    | inl j ↦ inl (contains-from_has w.messages l (has-left_over w.messages g.l g.rest l g.takes j))
    | inr j ↦ (let z = has-from_map (letter_of (target g.t)) g.did.posts l j in inr (z.0, z.1, ap (λ y. y.message) z.2))
  ]

  -- what is sent asks for nothing to be stored
  unprepared : (m : Message) (x : AttemptId) → is_sent_in_making m ≡ true → IsPrepareOf m x → ⊥
  unprepared (message.Prepare e first ws inc) x sent k = let no : ⊥ = cc in no
  unprepared m x sent k = k

  uncommitted : (m : Message) (x : AttemptId) → is_sent_in_making m ≡ true → IsCommitOf m x → ⊥
  uncommitted (message.Commit y ep first tracker ws) x sent k = let no : ⊥ = cc in no
  uncommitted m x sent k = k

  -- no line tells of an attempt
  untold : tries (map (with_epoch w.issued) g.did.lines) ≡ []
  untold = tries-filled w.issued g.did.lines ∙ ap (map (filled w.issued)) (turn-lines-untried (target_plan r g.t).me g.did.lines left.lines)

  asked-before : (t : ℕ) (x : AttemptId) → IsAskedAt v t x → IsAskedAt w t x
  asked-before t x a = elim (comes a.l a.among) [
    | inl j ↦ record { l = a.l; among = j; to = a.to; its = a.its }
    | inr new ↦ absurd (unprepared new.0.message x (sent new.0 new.1) (subst (λ m. IsPrepareOf m x) (sym new.2) a.its))
  ]

  refused-before : EndMakers r g.did.posts → (t : ℕ) (x : AttemptId) → IsRefusedAt v t x → IsRefusedAt w t x ⊎ IsMaker r x
  refused-before ends t x (IsTold l i tells) = elim (comes l i) [
    | inl j ↦ inl (IsTold l j tells)
    | inr new ↦ inr (refused-makes r new.0.message t x (sent new.0 new.1) (ends new.0 new.1) (subst (λ m. RefusesAt m t x) (sym new.2) tells))
  ]
  refused-before ends t x (HasItsLine a need free i id how) =
      inl (HasItsLine a need free (untried-back w.lines (map (with_epoch w.issued) g.did.lines) a untold (subst (λ ls. Contains (tries ls) a) (ap (λ u. u.lines) g.after) i)) id how)

  module _ (h : History) (stored : Stored) (makings : Makings r w) (makers : MakersTell r w) (A : Attempts r h w) (hand : HandsOver r w) (stand : ClientsStand r w)
      (writes : StoredWrite r stored) (S : StoringOver r stored w) where
    turn-over : StoringOver r stored v
    turn-over = record {
      so = record {
        once = S.so.once;
        issued = λ t x i. let z = S.so.issued t x i in (
          z.0,
          subst (λ ps. Contains ps (x, z.0)) (sym (ap (λ u. u.issued) g.after))
              (Contains-append_left w.issued (listed g.did.issued) (x, z.0) z.1),
        );
        asked = λ t x a. S.so.asked t x (asked-before t x a);
        refused = λ t x f. elim (refused-before (ends-makers makings makers) t x f) [
          | inl old ↦ (let z = S.so.refused t x old in (z.0, λ a. z.1 (asked-before t x a)))
          | inr maker ↦ (
            λ i. maker-writes-none r x maker (writes t x i),
            λ a. let b = asked-before t x a in maker-writes-none r x maker
                (prepare-writes r h w A hand stand b.l x (has-from_contains w.messages b.l b.among) b.l.message refl b.its),
          )
        ];
      };
      handed = λ t x i. subst (λ cs. IsHandedOver r cs x) (sym (ap (λ u. u.clients) g.after)) (S.handed t x i);
      uncommitted = λ t x l i j c. elim (comes l j) [
        | inl old ↦ S.uncommitted t x l i old c
        | inr new ↦ uncommitted new.0.message x (sent new.0 new.1) (subst (λ m. IsCommitOf m x) (sym new.2) c)
      ];
    }

    pub making-over : StoringOver r (stored_by g.t g.s.durable g.new.durable ++ stored) v
    making-over = subst (λ new. StoringOver r (new ++ stored) v) (sym stores-nothing) turn-over
