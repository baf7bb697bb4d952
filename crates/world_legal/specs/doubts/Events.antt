-- Each event keeps what shows where leaders stopped, and a run begins with it.
use Rattle.std.specs.Prelude.{ℕ, ◌≡◌, List, [], ◌∷◌, find, slice_get, Option, Some, None, refl}
use Rattle.std.proofs.Common.{inl, inr, sym, ◌∙◌, ap, subst}
use Rattle.base_types.specs.declared.entry.Entry.{Entry}
use Rattle.base_types.specs.declared.id.AttemptId.{AttemptId}
use Rattle.base_messages.specs.declared.message.Message.TheVariants as message
use Rattle.daos_model.specs.Attempts.{up_to_last_of}
use Rattle.daos_model.specs.CausesShown.{StopsAfter}
use Rattle.daos_model.specs.Durables.{entry_of, is_entry_of}
use Rattle.model_laws.specs.Members.{Has}
use Rattle.world_standing.specs.world_commit.attempts.Attempts.{IsBorn, entry_in, is_known_in, leader_of}
use Rattle.world_standing.specs.world_commit.attempts.Counting.{has-taken}
use Rattle.world_standing.specs.world_commit.attempts.History.{GrowsBy, History}
use Rattle.world_base.specs.declared.target.TargetState.{TargetState}
use Rattle.world_base.specs.declared.world.World.{World}
use Rattle.world_base.specs.Events.{ByClient, ByTarget, Rules, ToClient, ToTarget, rightly}
use Rattle.world_base.specs.Stops.{Draws, Fails, Further, GivenUp, Happening, IsCut, Opens, Plainly}
use Rattle.world_standing.specs.world_causes.causes.Lasting.{since-more}
use Rattle.world_standing.specs.world_letters.epochs.Epochs.{IsPresent}
use Rattle.world_standing.specs.world_commit.fates.Facts.{Attempts}
use Rattle.world_standing.specs.world_commit.fates.Rightly.{letters-tell}
use Rattle.world_standing.specs.world_causes.handing.Begun.{handed-where}
use Rattle.world_standing.specs.world_causes.hearing.Going.{EntriesWrite}
use Rattle.world_standing.specs.world_causes.losses.Clients.{of-others, present-not-over}
use Rattle.world_standing.specs.world_causes.outcomes.Outcomes.{Outcomes, HasWrites}
use Rattle.world_standing.specs.world_commit.statuses.Events.{HappensWithoutSnapshots, told_by}
use Rattle.world_legal.specs.doubts.Clients.{Goes, IsBegun, going-goes, hearing-goes}
use Rattle.world_legal.specs.doubts.Doubts.{Doubts, InFlight, InLines, IsInDoubt, IsToldCommitted, ItsLeaderStopped}
use Rattle.world_legal.specs.doubts.Laws.{DoubtsBegin, IsBeside}
use Rattle.world_legal.specs.doubts.Recounting.{Recounts, asked-of, entry-writes, loss-back, recounting-keeps, tells_back}
use Rattle.world_legal.specs.doubts.Stopping.{cut-recounts, drawing-recounts, failing-recounts, giving-up-recounts, opening-recounts}
use Rattle.world_legal.specs.doubts.Targets.{further-recounts, heard-lossless, hearing-recounts, idling-recounts}

-- ---- a client's turn

-- an attempt that was begun goes on to have its leader's stop behind it
stopped-goes : (r : Rules) (w v : World) (x : AttemptId) → Goes r w v → IsBegun r w x → ItsLeaderStopped r w x → ItsLeaderStopped r v x
stopped-goes r w v x g begun k = record { present = λ at. by at begun; told = g.told x begun k }
  where
    its : List ℕ
    its = leader_of r x ∷ []

    by : IsPresent r v x → IsBegun r w x → StopsAfter its (up_to_last_of x.client v.lines) v.lines
    by at (inr o) = absurd (present-not-over r v x at (g.after.over x o))
    by at (inl was) = elim (g.after.stays x was) [
      | inl z ↦ subst (λ ls. StopsAfter its (up_to_last_of x.client ls) ls) (sym g.after.told) (since-more its x.client w.lines g.after.more (of-others x.client g.after.more z.1) (k.present was))
      | inr o ↦ absurd (present-not-over r v x at o)
    ]

clients-keep : (r : Rules) (h later : History) (w v : World) → Attempts r h w → Outcomes r h w → EntriesWrite r v → GrowsBy h [] later → Goes r w v → Doubts r h w → Doubts r later v
clients-keep r h later w v attempts outcomes writes grows g k = record {
  doubtful = λ x d told. stopped-goes r w v x g (begun x (inl (record { entry = (was-doubt x d).entry; found = (was-doubt x d).found }))) (k.doubtful x (was-doubt x d) (was-told x d told));
  resting = λ x born rests. stopped-goes r w v x g (begun x (was-born x born)) (k.resting x (was-born x born) (record { s = rests.s; here = sym (part (λ o. o) (leader_of r x)) ∙ rests.here; off = rests.off }));
  lost = λ l x ask i tells. (let was = g.back l i (loss-back l.message (message.Query x ask) tells) in
      stopped-goes r w v x g (begun x (asked-of r h w l x ask attempts was tells).born) (k.lost l x ask was tells));
}
  where
    part : {A : Type 0} (f : Option TargetState → A) (u : ℕ) → f (slice_get v.targets u) ≡ f (slice_get w.targets u)
    part f u = ap (λ ts. f (slice_get ts u)) g.after.targets

    begun : (x : AttemptId) → IsBorn r h w x → IsBegun r w x
    begun x born = handed-where r h w outcomes x born

    was-born : (x : AttemptId) → IsBorn r later v x → IsBorn r h w x
    was-born x (inl held) = inl (record { entry = held.entry; found = sym (part (λ o. entry_in o x) (leader_of r x)) ∙ held.found })
    was-born x (inr gone) = elim (grows.only_aborted x gone) [ inl before ↦ inr before | inr tells ↦ absurd tells.told.sent ]

    was-doubt : (x : AttemptId) → IsInDoubt r v x → IsInDoubt r w x
    was-doubt x d = record { entry = d.entry; found = sym (part (λ o. entry_in o x) (leader_of r x)) ∙ d.found; prepared = d.prepared; unknown = sym (part (λ o. is_known_in o x) (leader_of r x)) ∙ d.unknown }

    was-told : (x : AttemptId) → IsInDoubt r v x → IsToldCommitted v x → IsToldCommitted w x
    was-told x d (InFlight l own i says) = InFlight l own (g.back l i (ap tells_back says)) says
    was-told x d (InLines b i own says) = subst (IsToldCommitted w) own (g.committed b i says (subst (HasWrites r) (sym own) (entry-writes r v writes (leader_of r x) x d.entry d.found)))

-- ---- every event

module _ (r : Rules) (h later : History) (w u : World) (b : IsBeside r h later w u) (k : Doubts r h w) where
  by-target : Recounts r h later w u → Doubts r later u
  by-target g = recounting-keeps r h later w u b.attempts b.attempts_then b.outcomes b.writes_then g k

  pub happening-keeps : (e : Happening r w u) → HappensWithoutSnapshots e → GrowsBy h (told_by e) later → Doubts r later u
  happening-keeps (Plainly (ByClient g) up) ours grows = clients-keep r h later w u b.attempts b.outcomes b.writes_then grows (going-goes r w u b.some b.lines b.losses g) k
  happening-keeps (Plainly (ToClient g) up) ours grows = clients-keep r h later w u b.attempts b.outcomes b.writes_then grows (hearing-goes r w u b.some b.talk b.endings b.lines b.losses b.lost g) k
  happening-keeps (Plainly (ToTarget g) up) ours grows =
      by-target (hearing-recounts r h later w u b.attempts b.attempts_then b.right b.asks b.endings b.requests_then
      (rightly r w u g (letters-tell r h w b.attempts g.l g.t g.s (has-taken w.messages g.l g.rest g.takes) g.to_it g.here)) (heard-lossless r w u b.endings g) grows)
  happening-keeps (Plainly (ByTarget g) up) ours grows = by-target (idling-recounts r h later w u b.attempts b.attempts_then b.right b.asks b.endings b.requests_then g grows)
  happening-keeps (Further g) ours grows = by-target (further-recounts r h later w u b.attempts b.attempts_then b.right b.asks b.endings b.requests_then g ours grows)
  happening-keeps (IsCut g) ours grows = by-target (cut-recounts r h later w u b.attempts g grows)
  happening-keeps (Opens g) ours grows = by-target (opening-recounts r h later w u b.attempts g grows)
  happening-keeps (Fails g) ours grows = by-target (failing-recounts r h later w u g grows)
  happening-keeps (GivenUp g) ours grows = by-target (giving-up-recounts r h later w u g grows)
  happening-keeps (Draws g) ours grows = by-target (drawing-recounts r h later w u g grows)

-- ---- the beginning

pub doubts-begin : DoubtsBegin
unfolding entry_of
doubts-begin r h w none lines = record {
  doubtful = λ x d told. absurd (unkept (leader_of r x) x (slice_get w.targets (leader_of r x)) refl d.entry d.found);
  resting = λ x born rests. absurd (unborn x born);
  lost = λ l x ask i tells. absurd (subst (Has l) none.none.messages i);
}
  where
    unkept : (u : ℕ) (x : AttemptId) (o : Option TargetState) → slice_get w.targets u ≡ o → (e : Entry) → entry_in o x ≡ Some e → ⊥
    unkept u x None at e found = let no : ⊥ = cc in no
    unkept u x (Some s) at e found = let gone : entry_of s.durable x ≡ None = ap (λ es. find (is_entry_of x) es) (none.none.targets u s at).entries in let no : ⊥ = cc (gone, found) in no

    unborn : (x : AttemptId) → IsBorn r h w x → ⊥
    unborn x (inl held) = unkept (leader_of r x) x (slice_get w.targets (leader_of r x)) refl held.entry held.found
    unborn x (inr a) = subst (Has x) none.none.aborted a
