-- Whatever a target hears for a snapshot or an aggregation, what it keeps and served is sound then, also where the turn is cut.
use Rattle.std.specs.Prelude.{ℕ, ◌≡◌, ◌<◌, false, List, slice_get, Some, None, refl}
use Rattle.std.proofs.lemmas.Option.{slice_get_within}
use Rattle.std.proofs.Common.{sym, subst, arith, inl, inr}
use Rattle.base_types.specs.declared.epoch.Epoch.{Epoch}
use Rattle.base_types.specs.declared.id.AttemptId.{AttemptId}
use Rattle.base_messages.specs.declared.message.Message.{Message, more_of-Message}
use Rattle.base_messages.specs.declared.message.Message.TheVariants as message
use Rattle.daos_model.specs.Opening.{Opening, top}
use Rattle.daos_model.specs.declared.durable.Durable.{Durable}
use Rattle.daos_model.specs.declared.durable.Version.{Version}
use Rattle.model_laws.specs.Members.{Has, contains-from_has}
use Rattle.world_causes.specs.world_commit.attempts.History.{History}
use Rattle.world_base.specs.declared.did.Did.{Did}
use Rattle.world_base.specs.declared.letter.Letter.{Letter}
use Rattle.world_base.specs.declared.target.Life.TheVariants.{Running}
use Rattle.world_base.specs.declared.target.TargetMemory.{TargetMemory}
use Rattle.world_base.specs.declared.target.TargetState.{TargetState}
use Rattle.world_base.specs.declared.world.World.{World}
use Rattle.world_base.specs.Changes.{Kept}
use Rattle.world_base.specs.CutTurns.{Cutting, HearingIsCut, issued_by_freeze, issued_by_prune, none_issued}
use Rattle.world_base.specs.Events.{Rules, kept, target_plan}
use Rattle.world_base.specs.Further.{HearsFurther, reset_by}
use Rattle.world_base.specs.Requests.{request_epoch}
use Rattle.world_base.specs.Roles.{is_prepared}
use Rattle.world_base.specs.Snapshots.{is_held_by_all}
use Rattle.world_letters.specs.epochs.Epochs.{AsksEpoch}
use Rattle.world_letters.specs.epochs.TargetEvents.{issued-ticks}
use Rattle.world_causes.specs.world_contents.frozen.Laws.{AreUnsettledAbove}
use Rattle.world_causes.specs.world_contents.reads.Beginning.{TurnBegins}
use Rattle.world_causes.specs.world_contents.reads.ChangeLaws.{entry-among}
use Rattle.world_causes.specs.world_contents.reads.EventLaws.{turn-begins}
use Rattle.world_causes.specs.world_contents.reads.Midway.{Sound}
use Rattle.world_causes.specs.world_contents.reads.Standing.{Knows}
use Rattle.world_letters.specs.snapshots.Makings.{IsSo}
use Rattle.world_causes.specs.world_commit.statuses.Heard.{is_of_attempts}
use Rattle.world_causes.specs.world_commit.statuses.Turns.{looked}
use Rattle.world_causes.specs.world_commit.stops.CutEvents.{is_without_snapshots}
use Rattle.world_making.specs.prunings.FreezeTurns.{freeze-cut, freeze-reached}
use Rattle.world_making.specs.prunings.HeldTurns.{held-cut, held-reached}
use Rattle.world_making.specs.prunings.Premises.{MakersStand}
use Rattle.world_making.specs.prunings.PruneTurns.{prune-cut, prune-reached}

module _ (r : Rules) (o : Opening) (held : ℕ → List Version) (h : History) (w : World) (b : Knows r o held h w) (k : MakersStand r o w) (t : ℕ) (s : TargetState) (here : slice_get w.targets t ≡ Some s) (runs : s.life ≡ Running) where
  begun : TurnBegins r o (held t) h w t s
  begun = turn-begins r o held h w b t s here runs

  -- each version that isn't settled is of an entry, of which the epoch was issued
  unsettled : AreUnsettledAbove o s.durable
  unsettled v i off =
      let p = begun.sound.stand.unsettled v i off in
      subst (λ (e : Epoch). top o < e.0) p.epoch (b.given.above p.entry.attempt p.entry.epoch (k.epochs.entered t s p.entry here (entry-among s.durable v.by p.entry p.found)))

  few : t < 256
  few = let less = slice_get_within w.targets t s here in let most = k.epochs.few in omega (arith, less, most)

  module _ (l : Letter) (among : Has l w.messages) where
    so : (m : Message) → l.message ≡ m → IsSo r w.issued m
    so m is = subst (IsSo r w.issued) is (k.makings.letters l among)

    -- an epoch that is issued then lies above the opening's, as its client's tracker does
    issued-above : (x : AttemptId) (tracker : Epoch) → AsksEpoch l.message x tracker → (reading : ℕ) (e : Epoch) → request_epoch (target_plan r t) s.memory reading tracker None ≡ Some e → top o < e.0
    issued-above x tracker asks reading e has =
        let low = (k.epochs.fresh l x tracker (contains-from_has w.messages l among) asks).2 in
        let up = (issued-ticks (target_plan r t) s.memory reading tracker e few has).1 in
        omega (arith, low, up)

    -- and one that was issued does so
    given-above : (x : AttemptId) (f tracker : Epoch) → Has (x, f) w.issued → (reading : ℕ) (e : Epoch) → request_epoch (target_plan r t) s.memory reading tracker (Some f) ≡ Some e → top o < e.0
    given-above x f tracker i reading e has = let same : f ≡ e = cc in subst (λ (y : Epoch). top o < y.0) same (b.given.above x f (contains-from_has w.issued (x, f) i))

    abbrev SoundAt : Durable → Type 0
    SoundAt d = Sound r o (held t) h h.served s.opening t d s.memory.stamps

    -- ---- whole turns

    pub making-sound : (number reading : ℕ) (new : Kept) (left : TargetMemory × Did) (m : Message) → l.message ≡ m → is_of_attempts m ≡ false → HearsFurther number (target_plan r t) s.opening s.memory reading l.from m (kept s) new left → SoundAt new.durable
    making-sound number reading new left (message.Snap x c name tracker) is ours turn =
        freeze-reached r o (held t) h h.served s.opening t (target_plan r t) s.memory reading tracker None c (is_held_by_all (target_plan r t) 0) begun.apart
        (issued-above x tracker (subst (λ q. AsksEpoch q x tracker) (sym is) (refl, refl)) reading) (kept s) turn.last new turn.reached begun.sound (k.known t s x c here (inl (name, so (message.Snap x c name tracker) is)))
    making-sound number reading new left (message.Freeze x c e) is ours turn =
        let makes = so (message.Freeze x c e) is in
        freeze-reached r o (held t) h h.served s.opening t (target_plan r t) s.memory reading e (Some e) c false begun.apart (given-above x e e makes.0 reading) (kept s) turn.last new turn.reached begun.sound (k.known t s x c here (inl makes.1))
    making-sound number reading new left (message.Held x refusal) is ours turn = held-reached r o (held t) h h.served s.opening t (target_plan r t) s.memory l.from.number x refusal (kept s) turn.last new turn.reached begun.sound
    making-sound number reading new left (message.Prune x c (Some tracker) None) is ours turn =
        prune-reached r o (held t) h h.served s.opening t (target_plan r t) s.memory reading tracker None c number begun.apart (issued-above x tracker (subst (λ q. AsksEpoch q x tracker) (sym is) (refl, refl)) reading) begun.known
        (kept s) begun.sound (k.known t s x c here (inr (so (message.Prune x c (Some tracker) None) is))) unsettled turn.last new turn.reached
    making-sound number reading new left (message.Prune x c None (Some g)) is ours turn =
        let makes = so (message.Prune x c None (Some g)) is in
        prune-reached r o (held t) h h.served s.opening t (target_plan r t) s.memory reading g (Some g) c number begun.apart (given-above x g g makes.0 reading) begun.known
        (kept s) begun.sound (k.known t s x c here (inr makes.1)) unsettled turn.last new turn.reached
    making-sound number reading new left (message.Reset' by down place (more_of-Message q rest)) is ours turn =
        subst (λ n. SoundAt n.durable) (sym (looked (reset_by (target_plan r t) s.memory by down q) (kept s) new left turn).same) begun.sound
    making-sound number reading new left (message.Commit x ep first tracker ws) is ours turn = let no : ⊥ = cc in absurd no
    making-sound number reading new left (message.Ask x) is ours turn = let no : ⊥ = cc in absurd no
    making-sound number reading new left (message.Status x inc) is ours turn = let no : ⊥ = cc in absurd no
    making-sound number reading new left (message.StatusIs x inc how) is ours turn = let no : ⊥ = cc in absurd no
    making-sound number reading new left m is ours turn = absurd turn

    -- ---- where they are cut

    pub making-cut : (number reading : ℕ) (cut : Cutting) (m : Message) → l.message ≡ m → is_without_snapshots m ≡ false → HearingIsCut is_prepared number (target_plan r t) s.opening s.memory reading l.from m (kept s) cut → SoundAt cut.left.durable
    making-cut number reading cut (message.Snap x c name tracker) is ours g =
        freeze-cut r o (held t) h h.served s.opening t (target_plan r t) s.memory reading tracker None c (is_held_by_all (target_plan r t) 0) begun.apart
        (issued-above x tracker (subst (λ q. AsksEpoch q x tracker) (sym is) (refl, refl)) reading) (issued_by_freeze x None) t (kept s) cut g begun.sound (k.known t s x c here (inl (name, so (message.Snap x c name tracker) is)))
    making-cut number reading cut (message.Freeze x c e) is ours g =
        let makes = so (message.Freeze x c e) is in
        freeze-cut r o (held t) h h.served s.opening t (target_plan r t) s.memory reading e (Some e) c false begun.apart (given-above x e e makes.0 reading) (issued_by_freeze x (Some e)) t (kept s) cut g begun.sound (k.known t s x c here (inl makes.1))
    making-cut number reading cut (message.Held x refusal) is ours g = held-cut r o (held t) h h.served s.opening t (target_plan r t) s.memory l.from.number x refusal none_issued t (kept s) cut g begun.sound
    making-cut number reading cut (message.Prune x c (Some tracker) None) is ours g =
        prune-cut r o (held t) h h.served s.opening t (target_plan r t) s.memory reading tracker None c number begun.apart (issued-above x tracker (subst (λ q. AsksEpoch q x tracker) (sym is) (refl, refl)) reading) begun.known
        (kept s) begun.sound (k.known t s x c here (inr (so (message.Prune x c (Some tracker) None) is))) unsettled (issued_by_prune x None) t cut g
    making-cut number reading cut (message.Prune x c None (Some e)) is ours g =
        let makes = so (message.Prune x c None (Some e)) is in
        prune-cut r o (held t) h h.served s.opening t (target_plan r t) s.memory reading e (Some e) c number begun.apart (given-above x e e makes.0 reading) begun.known
        (kept s) begun.sound (k.known t s x c here (inr makes.1)) unsettled (issued_by_prune x (Some e)) t cut g
    making-cut number reading cut (message.Prune x c (Some tracker) (Some e)) is ours g = absurd g
    making-cut number reading cut (message.Prune x c None None) is ours g = absurd g
    making-cut number reading cut m is ours g = let no : ⊥ = cc in absurd no
