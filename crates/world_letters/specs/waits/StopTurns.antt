-- What a target hears after stops: a client asks it what became of an attempt, a leader what it holds of one, or it is told that it gets no answer.
use Rattle.std.specs.Prelude.{ℕ, ◌≡◌, ◌==◌, ◌||◌, Bool, true, false, if◌then◌else◌, [], ◌∷◌, filter, map, Option, Some, None, refl}
use Rattle.std.proofs.Common.{sym, ◌∙◌, ap, subst}
use Rattle.base_types.specs.declared.entry.Entry.{Entry}
use Rattle.base_types.specs.declared.epoch.Epoch.{Epoch}
use Rattle.base_types.specs.declared.id.AttemptId.{AttemptId}
use Rattle.base_types.specs.declared.outcome.Outcome.{Outcome}
use Rattle.base_types.specs.declared.outcome.Outcome.TheVariants as outcome
use Rattle.base_messages.specs.declared.actor.ActorId.{ActorId}
use Rattle.base_messages.specs.declared.message.Message.TheVariants as message
use Rattle.base_messages.specs.declared.message.Post.{Post}
use Rattle.daos_model.specs.BoolLaws.{clash, false_of, or_left, or_right}
use Rattle.daos_model.specs.Durables.{same_attempt}
use Rattle.daos_model.specs.Ordered.{is_rising}
use Rattle.daos_model.specs.declared.durable.Durable.{Durable}
use Rattle.world_base.specs.dtx_base.declared.leading.Undecided.{Undecided}
use Rattle.world_base.specs.dtx_base.Asking.{ask_heard, asked_of, asked_open, tells_end, waited_by, waits_at}
use Rattle.world_base.specs.dtx_base.LeaderLaws.{same-is}
use Rattle.world_base.specs.dtx_base.Leading.{LeaderOf, LeaderStep, entry_led, first_down, undecided_attempt}
use Rattle.world_base.specs.dtx_base.RowLaws.{row-is}
use Rattle.world_base.specs.dtx_base.Rows.{is_among, is_row_of, row_key, row_of}
use Rattle.world_base.specs.model_laws.Members.{Has, has-filter}
use Rattle.world_base.specs.model_laws.TargetLaws.{same_number}
use Rattle.world_base.specs.declared.did.Did.{Did}
use Rattle.world_base.specs.declared.target.TargetMemory.{TargetMemory}
use Rattle.world_base.specs.declared.target.TargetPlan.{TargetPlan}
use Rattle.world_base.specs.Changes.{Change, Kept, Steps}
use Rattle.world_base.specs.Letters.{client, target}
use Rattle.world_base.specs.PathLaws.{reached-keeps}
use Rattle.world_base.specs.Roles.{leader_at}
use Rattle.world_base.specs.Statuses.{AtOnce, EndsAs, IsDone, Looking, Looks, NoChange, ask_left}
use Rattle.world_base.specs.Turns.{Whole}
use Rattle.world_letters.specs.talks.Conversation.{Answers}
use Rattle.world_letters.specs.waits.LeaderTurns.{filter-map_same, filter-mapped, row-alone}
use Rattle.world_letters.specs.waits.Parts.{Holding, LeavesOut, NoParts, collected_part, held-parts, holds-same, no-map, no-parts, open_part, parked_part, row-own, told-one_off, told-one_on}
use Rattle.world_letters.specs.waits.Passing.{Goes, IsKept, IsTold, told_to}
use Rattle.world_letters.specs.waits.Waits.{AnAsk, OpenAt, held_by, is_open_of, open_at}

-- ---- turns without a change

-- nothing that is kept changes
pub nothing-changes : {f : Kept → TargetMemory × Did} (old new : Kept) (left : TargetMemory × Did) → Whole NoChange (EndsAs f) Looking old new left → (new ≡ old) × (left ≡ f old)
nothing-changes {f} old new left w = by w.last w.ends (reached-keeps NoChange (λ s k. k ≡ old) step Looking old w.last new w.reached refl)
  where
    step : (s : AtOnce) (k : Kept) (o : Option Change) (u : AtOnce) (l : Kept) → NoChange s k o u → Steps o k l → k ≡ old → l ≡ old
    step s k o u l (Looks k2) steps h = steps ∙ h

    by : (s : AtOnce) → EndsAs f s new left → new ≡ old → (new ≡ old) × (left ≡ f old)
    by s (IsDone k left2 says) same = (same, says ∙ ap f same)

-- ---- an Ask

-- the client is told, or waits for an attempt that is undecided
pub data AskIs (x : AttemptId) (from : ActorId) (l : LeaderOf) (s : LeaderStep) : Type 0 where
  Tells : (own : Option Epoch) (how : Outcome) → s.posts ≡ tells_end from x own how → s.leader ≡ l → AskIs x from l s
  Waits : (e : Entry) → entry_led x l ≡ Some e → e.committed ≡ false → is_among x l.memory.decided ≡ false → s.posts ≡ [] → s.leader ≡ waited_by x from l → AskIs x from l s

pub ask-is : (x : AttemptId) (from : ActorId) (l : LeaderOf) → AskIs x from l (ask_heard x from l)
unfolding ask_heard
ask-is x from l = by (entry_led x l) refl
  where
    by : (o : Option Entry) → entry_led x l ≡ o → AskIs x from l (asked_of x from o (is_among x l.memory.decided) l)
    by None found = Tells None _ refl refl
    by (Some e) found = end (e.committed || is_among x l.memory.decided) refl
      where
        waits : e.committed ≡ false → is_among x l.memory.decided ≡ false → (o : Option ℕ) → AskIs x from l (asked_open x from e o l)
        waits prepared unknown None = Waits e found prepared unknown refl refl
        waits prepared unknown (Some down) = Tells (Some e.epoch) (outcome.Unknown down) refl refl

        end : (b : Bool) → (e.committed || is_among x l.memory.decided) ≡ b → AskIs x from l (if b then record { leader = l; posts = tells_end from x (Some e.epoch) outcome.Committed } else asked_open x from e (first_down e.members l.memory.down) l)
        end true is = Tells (Some e.epoch) outcome.Committed refl refl
        end false is = waits (or_left e.committed (is_among x l.memory.decided) is) (or_right e.committed (is_among x l.memory.decided) is) (first_down e.members l.memory.down)

-- an attempt whose entry here isn't committed, and that isn't known as decided, has a row
abbrev pub OpenHasRow : TargetPlan → TargetMemory → Durable → Type 0
OpenHasRow p m d =
    (x : AttemptId) (e : Entry) → entry_led x (leader_at p m d) ≡ Some e → e.committed ≡ false → is_among x m.leader.decided ≡ false → (u : Undecided) × (row_of undecided_attempt x m.leader.undecided ≡ Some u)

module _ (t j : ℕ) (p : TargetPlan) (m : TargetMemory) (x : AttemptId) (k : Kept) (left : TargetMemory × Did) (says : left ≡ ask_left p m (client j) x k) (own : x.client ≡ j) where
  abbrev asked : LeaderStep
  asked = ask_heard x (client j) (leader_at p m k.durable)

  its-attempt : (u : Undecided) → same_attempt u.attempt x ≡ true → u.attempt.client ≡ j
  its-attempt u same = ap (λ y. y.client) (same-is u.attempt x same) ∙ own

  keeps-attempt : (u : Undecided) → open_at t (waits_at x (client j) u) ≡ open_at t u
  keeps-attempt u = by (same_attempt u.attempt x)
    where
      by : (b : Bool) → open_at t (if b then record u { client = Some (client j) } else u) ≡ open_at t u
      by true = refl
      by false = refl

  pub ask-off : (n : ℕ) → (j == n) ≡ false → Holding n t m → LeavesOut n t m left.0 left.1.posts
  ask-off n off h = by (ask-is x (client j) (leader_at p m k.durable))
    where
      stays : (u : Undecided) → Has u m.leader.undecided → is_open_of n (waits_at x (client j) u) ≡ is_open_of n u
      stays u i = waits (same_attempt u.attempt x) refl (is_open_of n u) refl
        where
          waits : (b : Bool) → same_attempt u.attempt x ≡ b → (c : Bool) → is_open_of n u ≡ c → is_open_of n (if b then record u { client = Some (client j) } else u) ≡ is_open_of n u
          waits true e true f = let same : j ≡ n = sym (its-attempt u e) ∙ row-own n t m h u i f in clash (j == n) (ap (λ i. j == i) (sym same) ∙ same_number j) off
          waits true e false f = off ∙ sym f
          waits false e c f = refl

      by : AskIs x (client j) (leader_at p m k.durable) asked → LeavesOut n t m left.0 left.1.posts
      by (Tells e how posts same) = record {
        told = told-one_off n left.1.posts _ (ap (λ o. o.1.posts) says ∙ posts) off;
        held = holds-same n t m left.0 (ap (λ o. o.0.member.parked) says) (ap (λ o. o.0.leader.undecided) says ∙ ap (λ l. l.memory.undecided) same) (ap (λ o. o.0.collecting) says);
      }
      by (Waits e found prepared unknown none same) = record {
        told = ap (told_to n) (ap (λ o. o.1.posts) says ∙ none);
        held = held-parts n t left.0 (parked_part n t m.member.parked) (open_part n t m.leader.undecided) (collected_part n t m.collecting) (ap (λ o. parked_part n t o.0.member.parked) says)
            (ap (open_part n t) (ap (λ o. o.0.leader.undecided) says ∙ ap (λ l. l.memory.undecided) same) ∙ filter-map_same (is_open_of n) (waits_at x (client j)) (open_at t) m.leader.undecided stays keeps-attempt)
            (ap (λ o. collected_part n t o.0.collecting) says);
      }

  pub ask-on : is_rising (row_key undecided_attempt) m.leader.undecided ≡ true → OpenHasRow p m k.durable → (s : Post) → s.to ≡ target t → s.message ≡ message.Ask x → held_by j t m ≡ [] → Goes s (told_to j left.1.posts) (held_by j t left.0)
  ask-on rising rows s to is none = by (ask-is x (client j) (leader_at p m k.durable))
    where
      parts : NoParts j t m
      parts = no-parts j t m none

      waits : (u : Undecided) → Has u m.leader.undecided → is_open_of j (waits_at x (client j) u) ≡ is_row_of undecided_attempt x u
      waits u i = now (same_attempt u.attempt x)
        where
          off : is_open_of j u ≡ false
          off = false_of (is_open_of j u) (λ yes. absurd (subst (Has u) (no-map (open_at t) (filter (is_open_of j) m.leader.undecided) parts.opened) (has-filter (is_open_of j) m.leader.undecided u i yes)))

          now : (b : Bool) → is_open_of j (if b then record u { client = Some (client j) } else u) ≡ b
          now true = same_number j
          now false = off

      rows-now : (u : Undecided) → row_of undecided_attempt x m.leader.undecided ≡ Some u → open_part j t (map (waits_at x (client j)) m.leader.undecided) ≡ OpenAt t x ∷ []
      rows-now u found =
          ap (map (open_at t)) (filter-mapped (is_open_of j) (is_row_of undecided_attempt x) (waits_at x (client j)) m.leader.undecided waits ∙ ap (map (waits_at x (client j))) (row-alone undecided_attempt x m.leader.undecided u rising found))
          ∙ ap (λ y. y ∷ []) (keeps-attempt u ∙ ap (OpenAt t) (same-is u.attempt x (row-is undecided_attempt x m.leader.undecided u found)))

      by : AskIs x (client j) (leader_at p m k.durable) asked → Goes s (told_to j left.1.posts) (held_by j t left.0)
      by (Tells e how posts same) =
          IsTold _ (told-one_on j left.1.posts _ (ap (λ o. o.1.posts) says ∙ posts) (same_number j))
          (holds-same j t m left.0 (ap (λ o. o.0.member.parked) says) (ap (λ o. o.0.leader.undecided) says ∙ ap (λ l. l.memory.undecided) same) (ap (λ o. o.0.collecting) says) ∙ none)
          (subst (λ z. Answers z (message.Ended x e how)) (sym is) (e, how, refl))
      by (Waits e found prepared unknown untold same) =
          let u = rows x e found prepared unknown in
          IsKept (OpenAt t x) (ap (told_to j) (ap (λ o. o.1.posts) says ∙ untold))
          (held-parts j t left.0 [] (OpenAt t x ∷ []) [] (ap (λ o. parked_part j t o.0.member.parked) says ∙ parts.parked)
          (ap (open_part j t) (ap (λ o. o.0.leader.undecided) says ∙ ap (λ l. l.memory.undecided) same) ∙ rows-now u.0 u.1) (ap (λ o. collected_part j t o.0.collecting) says ∙ parts.collected)) (AnAsk t x to is)
