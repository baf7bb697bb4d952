-- What an actor does as without stops keeps the facts of versions and reads.
use Rattle.std.specs.Prelude.{ℕ, ◌≡◌, ◌≢◌, ◌++◌, List, [], refl}
use Rattle.std.proofs.Common.{sym, subst, append-nil, inl, inr}
use Rattle.base_types.specs.declared.id.AttemptId.{AttemptId}
use Rattle.base_messages.specs.declared.message.Message.{Message}
use Rattle.base_messages.specs.declared.message.Message.TheVariants as message
use Rattle.base_messages.specs.declared.message.Post.{Post}
use Rattle.model_laws.specs.Members.{Has, has-from_filter, has-right}
use Rattle.daos_model.specs.declared.durable.Version.{Version}
use Rattle.daos_model.specs.Opening.{Opening}
use Rattle.dtx_base.specs.Members.{all_targets, is_other_member, other_members}
use Rattle.world_contents.specs.world_commit.attempts.Attempts.{Entries, IsOther, IsToLeader, first_entry, writes_of}
use Rattle.world_contents.specs.world_commit.attempts.Counting.{has-taken}
use Rattle.world_contents.specs.world_commit.attempts.History.{GrowsBy, History}
use Rattle.world_base.specs.declared.world.World.{World}
use Rattle.world_base.specs.Events.{ByClient, ByTarget, Event, Rules, TargetHears, TargetHearsRightly, TargetIdles, ToClient, ToTarget, kept, listed, target_after, target_plan, rightly}
use Rattle.world_base.specs.RightTurns.{HearsRightly}
use Rattle.world_base.specs.Stops.{NoneDown, Plainly}
use Rattle.world_contents.specs.world_commit.fates.Facts.{IsSaidSo}
use Rattle.world_contents.specs.world_commit.fates.KeepingLaws.{attempts-kept}
use Rattle.world_contents.specs.world_commit.fates.Told.{silent_at}
use Rattle.world_contents.specs.reads.AckLaws.{other-writes}
use Rattle.world_contents.specs.reads.Adds.{AreAnswered}
use Rattle.world_contents.specs.reads.EventLaws.{After, clients-keep, hears-sound, idle-keeps, idle-leaves, right, told-so, turn-keeps}
use Rattle.world_contents.specs.reads.Growing.{grown, refused_in}
use Rattle.world_contents.specs.reads.GrowLaws.{decides-told, grown-grows, none-grows}
use Rattle.world_contents.specs.reads.Midway.{TurnLeaves}
use Rattle.world_contents.specs.reads.Reads.{Reads}
use Rattle.world_contents.specs.reads.Standing.{Knows}
use Rattle.world_contents.specs.reads.Versions.{Versions}
use Rattle.world_contents.specs.world_commit.stops.Happenings.{told_plainly}
use Rattle.world_causes.specs.hearing.AckTurns.{ack-goes}
use Rattle.world_causes.specs.hearing.Going.{AnswersAreServed, Before, GoesOn}
use Rattle.world_causes.specs.hearing.Standing.{attempts-stand}

-- an attempt with another member writes something
pub others-write : (r : Rules) (x : AttemptId) (m : ℕ) → IsOther r x m → writes_of r x ≢ []
unfolding other_members
others-write r x m other =
    other-writes r x (first_entry r x (record { 0 = 0 })) m refl (has-from_filter (is_other_member (first_entry r x (record { 0 = 0 }))) all_targets m other).1

module _ (r : Rules) (o : Opening) (held : ℕ → List Version) (h : History) (w v : World) (b : Before r o held h w) where
  pub knows : Knows r o held h w
  knows = record { given = b.given; right = record { commits = b.right.commits; one_epoch = b.right.one_epoch }; attempts = attempts-stand r h w b.attempts; versions = b.versions; reads = b.reads }

  -- nothing is told, and nothing is answered
  pub stays-on : (Also : History → Type 0) → Also h → Versions r o held h v × Reads r o h v → GoesOn r o held h v [] Also
  stays-on Also also k = record { later = h; grows = none-grows h [] (λ p i. absurd i); served = λ q i. i; also = also; versions = k.0; reads = k.1 }

  -- ---- a target hears a message

  module _ (g : TargetHears r w v) where
    among : Has g.l w.messages
    among = has-taken w.messages g.l g.rest g.takes

    abbrev right-turn : TargetHearsRightly r w v
    right-turn = rightly r w v g (knows.attempts.others g.l g.t g.s among g.to_it g.here)

    abbrev told : Message → List Post
    told m = g.did.posts ++ silent_at g.s (target_after g.s g.new g.memory) m

    abbrev Goes : Message → Type 0
    Goes m = GoesOn r o held h v (told m) (λ later. AreAnswered later.served g.t m g.s.memory.member.parked g.did.posts)

    entries : (m : Message) → g.l.message ≡ m → (later : History) → GrowsBy h (told m) later → (y : AttemptId) → Entries r later v y
    entries m is later grows y = ((attempts-kept r h later w v b.right b.attempts (ToTarget right-turn) (subst (λ n. GrowsBy h (told n) later) (sym is) grows)).on.each y).entries

    -- what is told in a turn by which it leaves this
    plainly : (m : Message) → g.l.message ≡ m → silent_at g.s (target_after g.s g.new g.memory) m ≡ [] → TurnLeaves r o (held g.t) h w g.s.opening g.t m g.s.memory.member.parked g.new (g.memory, g.did) → Goes m
    plainly m is none k = record {
      later = grown h k.told g.did.posts k.more;
      grows = grows;
      served = λ q i. has-right k.more h.served q i;
      also = k.answered;
      versions = subst (Versions r o held _) (sym g.after) after.0;
      reads = subst (Reads r o _) (sym g.after) after.1;
    }
      where
        grows : GrowsBy h (told m) (grown h k.told g.did.posts k.more)
        grows =
            subst (λ ps. GrowsBy h (g.did.posts ++ ps) (grown h k.told g.did.posts k.more)) (sym none)
            (subst (λ ps. GrowsBy h ps (grown h k.told g.did.posts k.more)) (sym (append-nil g.did.posts))
            (grown-grows h k.told g.did.posts k.more (decides-told r o h (w.issued ++ listed g.did.issued) g.did.posts k.told k.decides)))

        after : Versions r o held (grown h k.told g.did.posts k.more) (After w g.t g.s g.new (g.memory, g.did) g.rest) × Reads r o (grown h k.told g.did.posts k.more) (After w g.t g.s g.new (g.memory, g.did) g.rest)
        after =
            turn-keeps r o held h w knows g.t g.s g.new (g.memory, g.did) g.rest g.here k.more k.right k.sound g.did.posts k.told k.decides (refused_in g.did.posts ++ h.aborted)
            (λ y. subst (λ u. Entries r (grown h k.told g.did.posts k.more) u y) g.after (entries m is (grown h k.told g.did.posts k.more) grows y))

    hears-so : (m : Message) → g.l.message ≡ m → HearsRightly (target_plan r g.t) g.s.opening g.s.memory g.reading g.l.from m (kept g.s) g.new (g.memory, g.did) → Goes m
    hears-so (message.Fetch x op group ep first tracker q snapshot) is turn =
        plainly (message.Fetch x op group ep first tracker q snapshot) is refl (hears-sound r o held h w knows g.t g.s g.here g.runs g.reading g.l among g.to_it g.new (g.memory, g.did) (message.Fetch x op group ep first tracker q snapshot) is tt turn)
    hears-so (message.Commit x ep first tracker ws) is turn =
        plainly (message.Commit x ep first tracker ws) is refl (hears-sound r o held h w knows g.t g.s g.here g.runs g.reading g.l among g.to_it g.new (g.memory, g.did) (message.Commit x ep first tracker ws) is tt turn)
    hears-so (message.Prepare e first ws inc) is turn =
        plainly (message.Prepare e first ws inc) is refl (hears-sound r o held h w knows g.t g.s g.here g.runs g.reading g.l among g.to_it g.new (g.memory, g.did) (message.Prepare e first ws inc) is tt turn)
    hears-so (message.Ack x inc refusal) is turn =
        ack-goes r o held h w v knows g.t g.s g.here g.runs g.new (g.memory, g.did) g.rest g.after g.l.from.number x inc refusal (right r o held h w knows g.t g.s g.here g.runs g.reading g.l among g.to_it (message.Ack x inc refusal) is)
        (told-so r o held h w knows g.t g.s g.here g.runs g.reading g.l among g.to_it (message.Ack x inc refusal) is) (others-write r x way.member way.other) turn (message.Ack x inc refusal) (entries (message.Ack x inc refusal) is)
      where
        way : IsToLeader r x g.l.from g.l.to
        way = (subst (IsSaidSo r h w g.l.from g.l.to) is (b.attempts.on.letters g.l among)).way
    hears-so (message.Mark inc marks) is turn =
        plainly (message.Mark inc marks) is refl (hears-sound r o held h w knows g.t g.s g.here g.runs g.reading g.l among g.to_it g.new (g.memory, g.did) (message.Mark inc marks) is tt turn)
    hears-so (message.Marked inc ids) is turn =
        plainly (message.Marked inc ids) is refl (hears-sound r o held h w knows g.t g.s g.here g.runs g.reading g.l among g.to_it g.new (g.memory, g.did) (message.Marked inc ids) is tt turn)
    hears-so (message.Query x ask) is turn =
        plainly (message.Query x ask) is refl (hears-sound r o held h w knows g.t g.s g.here g.runs g.reading g.l among g.to_it g.new (g.memory, g.did) (message.Query x ask) is tt turn)
    hears-so (message.Verdict x ask inc c) is turn =
        plainly (message.Verdict x ask inc c) is refl (hears-sound r o held h w knows g.t g.s g.here g.runs g.reading g.l among g.to_it g.new (g.memory, g.did) (message.Verdict x ask inc c) is tt turn)
    hears-so m is turn = absurd turn

  -- ---- every plain event

  idles-so : (g : TargetIdles r w v) → GoesOn r o held h v g.did.posts (λ later. Unit {0})
  idles-so g = record {
    later = h;
    grows = none-grows h g.did.posts (idle-leaves r o held h w knows g.settling g.t g.s g.new (g.memory, g.did) g.here g.runs g.turn).endless;
    served = λ q i. i;
    also = tt;
    versions = subst (Versions r o held h) (sym g.after) k.0;
    reads = subst (Reads r o h) (sym g.after) k.1;
  }
    where
      k : Versions r o held h (After w g.t g.s g.new (g.memory, g.did) w.messages) × Reads r o h (After w g.t g.s g.new (g.memory, g.did) w.messages)
      k = idle-keeps r o held h w knows g.settling g.t g.s g.new (g.memory, g.did) g.here g.runs g.turn

  pub plain-goes : (e : Event r w v) (up : NoneDown r e) → GoesOn r o held h v (told_plainly e) (AnswersAreServed (Plainly e up))
  plain-goes (ByClient g) up = stays-on (λ later. Unit {0}) tt (clients-keep r o held h w v b.versions b.reads (inl g))
  plain-goes (ToClient g) up = stays-on (λ later. Unit {0}) tt (clients-keep r o held h w v b.versions b.reads (inr g))
  plain-goes (ToTarget g) up = hears-so g g.l.message refl (right-turn g).turn
  plain-goes (ByTarget g) up = idles-so g
