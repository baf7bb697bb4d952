-- What reads at targets is no attempt that its leader stored: so nothing that isn't settled is in the way of its own attempt.
use Rattle.std.specs.Prelude.{ℕ, ◌≡◌, true, false, slice_get, Some}
use Rattle.std.proofs.Common.{subst}
use Rattle.base_types.specs.declared.id.AttemptId.{AttemptId}
use Rattle.base_messages.specs.declared.message.Message.{Message, more_of-Message}
use Rattle.base_messages.specs.declared.message.Message.TheVariants as message
use Rattle.daos_model.specs.declared.durable.Version.{Version}
use Rattle.dtx_base.specs.declared.member.Parked.{Parked}
use Rattle.dtx_base.specs.Joining as member
use Rattle.dtx_base.specs.LeaderLaws.{same-is}
use Rattle.model_laws.specs.Members.{Has}
use Rattle.world_contents.specs.world_commit.attempts.Attempts.{IsBorn, IsHeld}
use Rattle.world_contents.specs.world_commit.attempts.History.{History}
use Rattle.world_base.specs.declared.letter.Letter.{Letter}
use Rattle.world_base.specs.declared.target.TargetState.{TargetState}
use Rattle.world_base.specs.declared.world.World.{World}
use Rattle.world_base.specs.Events.{Rules}
use Rattle.world_contents.specs.world_commit.fates.Facts.{Attempts, IsAskedSo, IsSaidSo}
use Rattle.world_causes.specs.losses.Reading.{NoneOpen}
use Rattle.world_causes.specs.losses.Resets.{AsksOfOthers, NoneReads, WaitForOthers}

-- a Fetch of an attempt is in flight, or waits at a target
pub data IsReading (w : World) (x : AttemptId) : Type 0 where
  InFlight : (l : Letter) → Has l w.messages → member.is_asker x l.message ≡ true → IsReading w x
  Waiting : (t : ℕ) (s : TargetState) (p : Parked) → slice_get w.targets t ≡ Some s → Has p s.memory.member.parked → member.is_asker x p.ask ≡ true → IsReading w x

-- nothing became of an attempt that reads: its client didn't hand it over yet
abbrev pub ReadersAreNew : Rules → History → World → Type 0
ReadersAreNew r h w = (x : AttemptId) → IsReading w x → IsBorn r h w x → ⊥

-- a version that isn't settled is of an attempt of which its target keeps an entry
abbrev pub OpenAreHeld : World → Type 0
OpenAreHeld w = (t : ℕ) (s : TargetState) (v : Version) → slice_get w.targets t ≡ Some s → Has v s.durable.versions → v.done ≡ false → IsHeld w t v.by

module _ (r : Rules) (h : History) (w : World) (new : ReadersAreNew r h w) (k : Attempts r h w) (t : ℕ) (s : TargetState) (here : slice_get w.targets t ≡ Some s) where
  pub reader-open : OpenAreHeld w → (x : AttemptId) → IsReading w x → NoneOpen x s.durable
  reader-open held x reads v i off own =
      let e = held t s v here i off in
      new x reads (subst (IsBorn r h w) own ((k.on.each v.by).entries.born t e.entry e.found))

  none-reads : (a : AttemptId) → IsBorn r h w a → NoneReads a s.memory.member.parked
  none-reads a born p x i asks same = new x (Waiting t s p here i asks) (subst (IsBorn r h w) (same-is a x same) born)

  -- so what is heard is of others than those that wait
  pub waits-for-others : (l : Letter) → Has l w.messages → WaitForOthers l.message s.memory.member.parked
  waits-for-others l i = by l.message (k.on.letters l i)
    where
      lost : (q : Message) → IsAskedSo r h w l.to l.from q → AsksOfOthers q s.memory.member.parked
      lost (message.Query a ask) so = none-reads a so.born
      lost q so = tt

      by : (m : Message) → IsSaidSo r h w l.from l.to m → WaitForOthers m s.memory.member.parked
      by (message.Verdict a ask inc v) so = none-reads a so.born
      by (message.Reset' t2 down place (more_of-Message q rest)) so = lost q so
      by m so = tt
