-- What the facts of attempts say of them where targets may stop, as the laws of questions need it.
use Rattle.std.specs.Prelude.{◌≡◌, false}
use Rattle.std.proofs.Common.{subst}
use Rattle.base_types.specs.declared.id.AttemptId.{AttemptId}
use Rattle.model_laws.specs.Members.{Has}
use Rattle.base_messages.specs.declared.message.Message.{Message}
use Rattle.base_messages.specs.declared.message.Message.TheVariants as message
use Rattle.world_commit.specs.asks.Knowing.{CommitsAreNew, KnowsAttempts, SaysAborted, TellsOf}
use Rattle.world_commit.specs.attempts.Attempts.{IsFromLeader}
use Rattle.world_commit.specs.attempts.History.{Aborted, History}
use Rattle.world_commit.specs.fates.Asked.{AskedRight}
use Rattle.world_commit.specs.fates.Facts.{Attempts, IsSaidSo}
use Rattle.world_base.specs.declared.letter.Letter.{Letter}
use Rattle.world_base.specs.declared.world.World.{World}
use Rattle.world_base.specs.Events.{Rules}

module _ (r : Rules) (h : History) (w : World) (A : Attempts r h w) where
  told-so : (l : Letter) → (m : Message) → IsSaidSo r h w l.from l.to m → (x : AttemptId) → TellsOf x m → IsFromLeader r x l.from l.to
  told-so l (message.Prepare e first ws inc) k x same = subst (λ y. IsFromLeader r y l.from l.to) same k.way
  told-so l (message.Mark inc marks) k x i = (k x i.0 i.1).way
  told-so l (message.Verdict y ask inc v) k x same = subst (λ z. IsFromLeader r z l.from l.to) same k.way
  told-so l m k x none = absurd none

  aborted-so : (l : Letter) → (m : Message) → IsSaidSo r h w l.from l.to m → (x : AttemptId) → SaysAborted x m → Aborted h x
  aborted-so l (message.Mark inc marks) k x i = (k x false i).fate
  aborted-so l m k x none = absurd none

  says : (l : Letter) (m : Message) → Has l w.messages → l.message ≡ m → IsSaidSo r h w l.from l.to m
  says l m i is = subst (IsSaidSo r h w l.from l.to) is (A.on.letters l i)

  pub knows-fates : KnowsAttempts r h w
  knows-fates = record {
    entries = λ x. (A.on.each x).entries;
    ordered = A.on.ordered;
    rows = λ x t u at. let o = ((A.on.each x).rows.undecided t u at).here in (A.on.each x).entries.born t o.entry o.found;
    before = λ x m l i is. (A.on.each x).awaited.before m l i is;
    told = λ l x i k. told-so l l.message (A.on.letters l i) x k;
    aborted = λ l x i k. aborted-so l l.message (A.on.letters l i) x k;
    acks = λ l x inc refusal i is. (says l (message.Ack x inc refusal) i is).way;
    asked = λ l x ask i is. let k = says l (message.Query x ask) i is in (k.way, k.born);
    answered = λ l x ask inc v i is. (says l (message.Verdict x ask inc v) i is).born;
  }

pub commits-new : (r : Rules) (h : History) (w : World) → AskedRight r h w → CommitsAreNew r h w
commits-new r h w Q l x ep first tracker ws i is = Q.commits l x ep first tracker ws i is
