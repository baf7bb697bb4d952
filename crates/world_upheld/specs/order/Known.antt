-- What is known of attempts that were answered, and which first epochs go with writes, also where clients read at snapshots.
use Rattle.std.specs.Prelude.{ℕ, ◌≡◌, false, List, slice_get, Option, Some, None, refl}
use Rattle.std.proofs.Common.{sym, ◌∙◌, subst}
use Rattle.base_types.specs.declared.epoch.Epoch.{Epoch}
use Rattle.base_types.specs.declared.id.AttemptId.{AttemptId}
use Rattle.base_types.specs.declared.outcome.Outcome.TheVariants.{Committed}
use Rattle.base_types.specs.declared.report.Attempt.{Attempt}
use Rattle.base_messages.specs.declared.message.Message.{Message}
use Rattle.base_messages.specs.declared.message.Message.TheVariants as message
use Rattle.daos_model.specs.Attempts.{tries}
use Rattle.model_laws.specs.Members.{Has, contains-from_has, has-from_contains}
use Rattle.world_legal.specs.world_commit.attempts.Attempts.{writes_of}
use Rattle.world_legal.specs.world_commit.attempts.History.{Decided, History, Served}
use Rattle.dtx_base.specs.declared.member.Parked.{Parked}
use Rattle.world_base.specs.declared.letter.Letter.{Letter}
use Rattle.world_base.specs.declared.target.TargetState.{TargetState}
use Rattle.world_base.specs.declared.world.World.{World}
use Rattle.world_base.specs.Events.{Rules}
use Rattle.world_legal.specs.world_causes.causes.Shown.{IsFirstOf}
use Rattle.world_letters.specs.clients.Snapshots.{is_at_snapshot}
use Rattle.world_letters.specs.epochs.Epochs.{AsksEpoch, Epochs}
use Rattle.world_legal.specs.world_standing.external.Behind.{FirstIsKnown}
use Rattle.world_legal.specs.world_standing.external.Told.{line-served, none-has}
use Rattle.world_legal.specs.world_commit.fates.Asked.{AskedRight}
use Rattle.world_legal.specs.world_commit.fates.Facts.{Attempts, IsSaidSo}
use Rattle.world_legal.specs.world_causes.firsts.Firsts.{Firsts, GoesWith, MessageTells, WaitsSo}
use Rattle.world_legal.specs.world_contents.gots.Gots.{Gots}
use Rattle.world_letters.specs.lines.Lines.{Lines}
use Rattle.world_upheld.specs.order.Storing.{KnowsTold}
use Rattle.world_legal.specs.world_causes.outcomes.Outcomes.{IsEndTrue, Outcomes}
use Rattle.world_legal.specs.world_contents.reads.Reads.{IsOfAttempt}

-- ---- attempts that were answered

abbrev pub LinesAreKnown : Type 0
LinesAreKnown = (r : Rules) (h : History) (w : World) → Lines r w → Gots r h w → ((q : Served) → Has q h.served → IsOfAttempt r q) → Outcomes r h w → KnowsTold r h (tries w.lines)

same-epoch : (e f : Epoch) → Some f ≡ Some e → f ≡ e
same-epoch e f same = cc

ended-decided : (r : Rules) (h : History) (w : World) (x : Attempt) (e : Epoch) → IsEndTrue r h w x.id x.epoch x.outcome → x.outcome ≡ Committed → x.epoch ≡ Some e → Decided h x.id e
ended-decided r h w x e true-end committed epoch = let d = true-end.committed committed in subst (Decided h x.id) (same-epoch e d.0 (sym d.1 ∙ epoch)) d.2

pub lines-are-known : LinesAreKnown
lines-are-known r h w lines gots asked outcomes = record {
  decided = λ x e m i committed epoch writes. ended-decided r h w x e (outcomes.lines x i (none-has (writes_of r x.id) m (has-from_contains (writes_of r x.id) m writes)))
      committed epoch;
  served = λ t x e read i committed epoch at. (let z = line-served r h w lines gots asked x t read i committed at in
      (z.q, z.among, z.target, same-epoch e z.q.epoch (sym z.epoch ∙ epoch), z.reads));
}

-- ---- first epochs

-- with a Commit, and with a Prepare, the first epoch of its command goes, if one does
abbrev pub BearsOfWriter : World → Message → Type 0
BearsOfWriter w (message.Commit x ep first tracker ws) = FirstIsKnown w.issued x first
BearsOfWriter w (message.Prepare e first ws inc) = FirstIsKnown w.issued e.attempt first
BearsOfWriter w m = Unit {0}

abbrev pub WritersBearFirsts : World → Type 0
WritersBearFirsts w = (l : Letter) → Has l w.messages → BearsOfWriter w l.message

abbrev pub WritersAreBorneFirsts : Type 0
WritersAreBorneFirsts = (r : Rules) (top : ℕ) (h : History) (w : World) → Epochs r top w → AskedRight r h w → Attempts r h w → Firsts r w → WritersBearFirsts w

-- of one that reads at no snapshot
goes-known : (r : Rules) (w : World) (x : AttemptId) (first : Option Epoch) → is_at_snapshot r x ≡ false → GoesWith r w.issued w.lines x first → FirstIsKnown w.issued x first
goes-known r w x first off k g is = let z = subst (IsFirstOf w.issued w.lines x) is (k off) in (z.number, z.early, z.its)

module _ (r : Rules) (top : ℕ) (h : History) (w : World) (E : Epochs r top w) (right : AskedRight r h w) (A : Attempts r h w) (F : Firsts r w) where
  -- what hands writes over reads at no snapshot
  commit-plain : (l : Letter) (x : AttemptId) (first : Option Epoch) (tracker : Epoch) (ws : List _) → Has l w.messages → (ep : Option Epoch)
      → l.message ≡ message.Commit x ep first tracker ws → is_at_snapshot r x ≡ false
  commit-plain l x first tracker ws i (Some e) is = E.own x e (contains-from_has w.issued (x, e) ((right.commits l x (Some e) first tracker ws i is).own e refl))
  commit-plain l x first tracker ws i None is = (E.fresh l x tracker (contains-from_has w.messages l i) (subst (λ m. AsksEpoch m x tracker) (sym is) (refl, refl))).4

  bears : (l : Letter) → Has l w.messages → (m : Message) → l.message ≡ m → MessageTells r w.issued w.lines m → BearsOfWriter w m
  bears l i (message.Commit x ep first tracker ws) is k = goes-known r w x first (commit-plain l x first tracker ws i ep is) k
  bears l i (message.Prepare e first ws inc) is k =
      let issued = (let so : IsSaidSo r h w l.from l.to (message.Prepare e first ws inc) = subst (IsSaidSo r h w l.from l.to) is (A.on.letters l i) in so.issued) in
      goes-known r w e.attempt first (E.own e.attempt e.epoch (contains-from_has w.issued (e.attempt, e.epoch) issued)) k
  bears l i m is k = tt

pub writers-are-borne-firsts : WritersAreBorneFirsts
writers-are-borne-firsts r top h w E right A F l i = bears r top h w E right A F l i l.message refl (F.flight l (contains-from_has w.messages l i))

-- ---- first epochs of reads

-- with a Fetch at no snapshot the first epoch of its command goes, if one does
abbrev pub BearsOfReader : Rules → World → Message → Type 0
BearsOfReader r w (message.Fetch x op group ep first tracker q snapshot) = is_at_snapshot r x ≡ false → FirstIsKnown w.issued x first
BearsOfReader r w m = Unit {0}

pub record ReadersBearFirsts (r : Rules) (w : World) : Type 0 where
  pub flight : (l : Letter) → Has l w.messages → BearsOfReader r w l.message
  pub parked : (t : ℕ) (s : TargetState) (p : Parked) → slice_get w.targets t ≡ Some s → Has p s.memory.member.parked → BearsOfReader r w p.ask

abbrev pub ReadersAreBorneFirsts : Type 0
ReadersAreBorneFirsts = (r : Rules) (w : World) → Firsts r w → ReadersBearFirsts r w

pub readers-are-borne-firsts : ReadersAreBorneFirsts
readers-are-borne-firsts r w F = record {
  flight = λ l i. flies l.message (F.flight l (contains-from_has w.messages l i));
  parked = λ t s p here i. waits p.ask (F.parked t s p here (contains-from_has s.memory.member.parked p i));
}
  where
    flies : (m : Message) → MessageTells r w.issued w.lines m → BearsOfReader r w m
    flies (message.Fetch x op group ep first tracker q snapshot) k = λ off. goes-known r w x first off k
    flies m k = tt

    waits : (m : Message) → WaitsSo r w.issued w.lines m → BearsOfReader r w m
    waits (message.Fetch x op group ep first tracker q snapshot) k = λ off. goes-known r w x first off k
    waits m k = tt
