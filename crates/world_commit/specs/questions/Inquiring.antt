-- What is said of inquiries stays so in events as without stops, and where targets stop, open, or are given up.
use Rattle.std.specs.Prelude.{ℕ, ◌≡◌, ◌⊎◌, Bool, true, false, slice_get, Option, Some, None, refl}
use Rattle.std.proofs.Common.{sym, ◌∙◌, ap, subst, inl, inr}
use Rattle.base_types.specs.declared.entry.Entry.{Entry}
use Rattle.base_types.specs.declared.id.AttemptId.{AttemptId}
use Rattle.base_types.specs.declared.report.Line.{Line}
use Rattle.base_types.specs.declared.report.Line.TheVariants as line
use Rattle.model_laws.specs.Members.{Has, has-left}
use Rattle.base_messages.specs.declared.message.Message.{Message}
use Rattle.base_messages.specs.declared.message.Message.TheVariants as message
use Rattle.dtx_base.specs.declared.member.Inquiry.{Inquiry}
use Rattle.dtx_base.specs.Members.{has_target}
use Rattle.world_commit.specs.asks.Asks.{ByLeader, ByMark, IsQuery, IsQueryOf, IsVerdict, NoneHere, NonePrepares}
use Rattle.world_commit.specs.asks.InquiryKept.{InquirySo, SenseStays, client-inquiries, heard-inquiries, idle-inquiries}
use Rattle.world_commit.specs.asks.Knowing.{CommitsAreNew, KnowsAttempts, TellsOf}
use Rattle.world_commit.specs.asks.Moving.{all-stay, goes-moves, heard-moves, hears-moves, idle-moves}
use Rattle.world_commit.specs.asks.RowsKept.{mask_at, mask_in, masks-kept}
use Rattle.world_commit.specs.asks.Told.{IsPrepareOf, LeavesTold, client-leaves, held-told, prepare-is, told-on}
use Rattle.world_commit.specs.asks.ToldTurns.{hears-leaves, idles-leave}
use Rattle.world_commit.specs.attempts.Attempts.{IsBorn, IsOther, entry_at, leader_of}
use Rattle.world_commit.specs.attempts.History.{Aborted, History}
use Rattle.world_commit.specs.attempts.Stored.{target-is}
use Rattle.world_commit.specs.attempts.MemberBits.{has-none}
use Rattle.world_commit.specs.fates.Facts.{PromptsFly, down_in, knows_down}
use Rattle.world_commit.specs.questions.Facts.{HasStopped, InquiriesHold, IsAsked, IsKnownDown, IsOnInquiry, IsTold, IsToldOrStopped, LeaderStopped}
use Rattle.world_commit.specs.questions.Flying.{all-query, client-query, query-on}
use Rattle.world_commit.specs.questions.Losing.{lost-at, query-stays}
use Rattle.world_commit.specs.questions.Stopping.{IsLoss}
use Rattle.world_commit.specs.stops.Losses.{is_lost}
use Rattle.world_base.specs.declared.letter.Letter.{Letter}
use Rattle.world_base.specs.declared.target.TargetState.{TargetState}
use Rattle.world_base.specs.declared.world.World.{World}
use Rattle.world_base.specs.Events.{ByClient, ByTarget, RightEvent, Rules, ToClient, ToTarget, target_after}
use Rattle.world_base.specs.Letters.{target}

-- ---- who is known to be down

knows-mask : (o : Option TargetState) (m : ℕ) → down_in o m ≡ has_target (mask_in o) m
knows-mask None m = sym (has-none m)
knows-mask (Some s) m = refl

pub masks-know : (w v : World) (t m : ℕ) → mask_at v t ≡ mask_at w t → knows_down v t m ≡ knows_down w t m
masks-know w v t m same = knows-mask (slice_get v.targets t) m ∙ ap (λ n. has_target n m) same ∙ sym (knows-mask (slice_get w.targets t) m)

-- ---- events as without stops

-- lines stay
lines-on : (r : Rules) (w v : World) → RightEvent r w v → (l : Line) → Has l w.lines → Has l v.lines
lines-on r w v (ByClient g) l i = subst (Has l) (sym (ap (λ u. u.lines) g.after)) (has-left w.lines _ l i)
lines-on r w v (ToClient g) l i = subst (Has l) (sym (ap (λ u. u.lines) g.after)) (has-left w.lines _ l i)
lines-on r w v (ToTarget g) l i = subst (Has l) (sym (ap (λ u. u.lines) g.after)) (has-left w.lines _ l i)
lines-on r w v (ByTarget g) l i = subst (Has l) (sym (ap (λ u. u.lines) g.after)) (has-left w.lines _ l i)

module _ (r : Rules) (h later : History) (w v : World) (Q : CommitsAreNew r h w) (A : KnowsAttempts r h w) (B : KnowsAttempts r later v) (grown : (x : AttemptId) → Aborted h x → Aborted later x) where
  sense : RightEvent r w v → LeavesTold r h later w v → SenseStays (IsKnownDown r) (IsToldOrStopped r) r h later w v
  sense e L = record { down = λ m x is. masks-know w v m (leader_of r x) (masks-kept r h w v Q A e m) ∙ is; told = told; plainly = λ m x t. IsTold t }
    where
      told : (m : ℕ) (x : AttemptId) → IsOther r x m → NonePrepares w m x → IsToldOrStopped r h w m x → IsToldOrStopped r later v m x
      told m x other heard (IsTold t) = IsTold (told-on r h later w v B L m x other heard t)
      told m x other heard (LeaderStopped a stop) = LeaderStopped (grown x a) (stop.0, lines-on r w v e (line.Stop stop.0 (leader_of r x)) stop.1)

  pub inquiries-plain : (e : RightEvent r w v) → InquiriesHold r h w → InquiriesHold r later v
  inquiries-plain (ByClient g) k =
      client-inquiries IsOnInquiry (IsKnownDown r) (IsToldOrStopped r) r h later w v grown A B k (goes-moves r w v g) (sense (ByClient g) (client-leaves r h later w v grown B (goes-moves r w v g))) (λ m x. client-query w v (goes-moves r w v g) m x None)
  inquiries-plain (ToClient g) k =
      client-inquiries IsOnInquiry (IsKnownDown r) (IsToldOrStopped r) r h later w v grown A B k (hears-moves r w v g) (sense (ToClient g) (client-leaves r h later w v grown B (hears-moves r w v g))) (λ m x. client-query w v (hears-moves r w v g) m x None)
  inquiries-plain (ToTarget g) k =
      heard-inquiries IsOnInquiry (IsKnownDown r) (IsToldOrStopped r) r h later w v Q grown A B k g (sense (ToTarget g) (hears-leaves r h later w v Q A B grown g))
      (λ m x. query-on r w v g.t g.s (target_after g.s g.new g.memory) g.l g.new (g.memory, g.did) g.reading (heard-moves r w v g) g.to_it g.turn m x None)
  inquiries-plain (ByTarget g) k =
      idle-inquiries IsOnInquiry (IsKnownDown r) (IsToldOrStopped r) r h later w v grown A B k g (sense (ByTarget g) (idles-leave r h later w v g grown))
      (λ m x. all-query w v (all-stay w v g.t g.s (target_after g.s g.new g.memory) g.did.posts (idle-moves r w v g)) m x None) (λ m x f. IsAsked f)

-- ---- stops and openings

-- a letter that comes where nobody hears: a Reset, or a Status
abbrev pub is_news : Message → Bool
is_news (message.Reset' t down place asked) = true
is_news (message.Status x inc) = true
is_news m = false

-- What is left where targets stop, open, or are given up: attempts that were stored are, or are aborted; lines stay; targets that aren't
-- among the lost keep what they keep and know, and a leader that doesn't keep its entry has stopped.
pub record LossLeaves (r : Rules) (h later : History) (w v : World) (i : IsLoss w v) : Type 0 where
  pub grown : (x : AttemptId) → Aborted h x → Aborted later x
  pub born : (x : AttemptId) → IsBorn r h w x → IsBorn r later v x
  pub lines : (l : Line) → Has l w.lines → Has l v.lines
  pub entry : (m : ℕ) (x : AttemptId) → i.out m ≡ false → entry_at v m x ≡ entry_at w m x
  pub leader : (t : ℕ) (x : AttemptId) → (entry_at v t x ≡ entry_at w t x) ⊎ HasStopped v t
  pub down : (m t : ℕ) → i.out m ≡ false → knows_down v m t ≡ knows_down w m t
  pub came : (l : Letter) → Has l v.messages → (Has l w.messages × (is_lost i.out l ≡ false)) ⊎ (is_news l.message ≡ true)

module _ (r : Rules) (h later : History) (w v : World) (i : IsLoss w v) (L : LossLeaves r h later w v i) (fly : PromptsFly w) (A : KnowsAttempts r h w) (B : KnowsAttempts r later v) (k : InquiriesHold r h w) where
  no-prepare : (m : ℕ) (x : AttemptId) (l : Letter) → is_news l.message ≡ true → IsPrepareOf m x l.to l.message → ⊥
  no-prepare m x l news p = let bad : false ≡ true = sym (ap is_news p.is) ∙ news in let no : ⊥ = cc in no

  prepares : (m : ℕ) (x : AttemptId) → NonePrepares w m x → NonePrepares v m x
  prepares m x heard l j is = elim (L.came l j) [ inl old ↦ heard l old.0 is | inr news ↦ no-prepare m x l news (prepare-is m x l is) ]

  no-query : (m : ℕ) (x : AttemptId) (l : Letter) → is_news l.message ≡ true → IsQueryOf m x None l → ⊥
  no-query m x l news (IsQuery leader is from to) = let bad : false ≡ true = sym (ap is_news is) ∙ news in let no : ⊥ = cc in no
  no-query m x l news (IsVerdict inc said is to) = let bad : false ≡ true = sym (ap is_news is) ∙ news in let no : ⊥ = cc in no

  -- what a member has still prepared is kept by its leader, or is aborted
  prepared-told : (m : ℕ) (x : AttemptId) → IsOther r x m → HasStopped v (leader_of r x) → IsToldOrStopped r later v m x
  prepared-told m x other stop = by (entry_at v m x) refl
    where
      open' : (e : Entry) (b : Bool) → e.committed ≡ b → entry_at v m x ≡ Some e → IsToldOrStopped r later v m x
      open' e true done at = IsTold (NoneHere (λ f at2. let one : Some f ≡ Some e = sym at2 ∙ at in let same : f ≡ e = cc in ap (λ z. z.committed) same ∙ done))
      open' e false prepared at = elim ((B.entries x).born m e at) [
        | inl held ↦ IsTold (held-told r later v B m x other held)
        | inr a ↦ LeaderStopped a stop
      ]

      by : (o : Option Entry) → entry_at v m x ≡ o → IsToldOrStopped r later v m x
      by None at = IsTold (NoneHere (λ e at2. let no : ⊥ = cc (at, at2) in absurd no))
      by (Some e) at = open' e e.committed refl at

  told-loss : (m : ℕ) (x : AttemptId) → i.out m ≡ false → IsOther r x m → IsToldOrStopped r h w m x → IsToldOrStopped r later v m x
  told-loss m x on other (IsTold (ByLeader u)) = elim (L.leader (leader_of r x) x) [
    | inl same ↦ IsTold (ByLeader (record { entry = u.entry; found = same ∙ u.found; unconfirmed = u.unconfirmed }))
    | inr stop ↦ prepared-told m x other stop
  ]
  told-loss m x on other (IsTold (ByMark f)) = IsTold (ByMark (f.0, i.mail.stays f.0 f.1 (lost-at i.out f.0.to m f.2.to ∙ on), f.2))
  told-loss m x on other (IsTold (NoneHere none)) = IsTold (NoneHere (λ e at. none e (sym (L.entry m x on) ∙ at)))
  told-loss m x on other (LeaderStopped a stop) = LeaderStopped (L.grown x a) (stop.0, L.lines (line.Stop stop.0 (leader_of r x)) stop.1)

  -- a letter that isn't lost goes to a target that isn't
  not-out : (m : ℕ) (l : Letter) → l.to ≡ target m → is_lost i.out l ≡ false → i.out m ≡ false
  not-out m l to off = sym (lost-at i.out l.to m to) ∙ off

  row-on : (m : ℕ) (q : Inquiry) → i.out m ≡ false → InquirySo IsOnInquiry (IsKnownDown r) (IsToldOrStopped r) r h w m q → InquirySo IsOnInquiry (IsKnownDown r) (IsToldOrStopped r) r later v m q
  row-on m q on z = record {
    other = z.other;
    born = L.born q.attempt z.born;
    heard = prepares m q.attempt z.heard;
    down = λ is. L.down m (leader_of r q.attempt) on ∙ z.down is;
    unanswered = λ is. query-stays i.out i.down w v i.mail fly m q.attempt None on (z.unanswered is);
    undecided = λ is. told-loss m q.attempt on z.other (z.undecided is);
  }

  pub inquiries-loss : InquiriesHold r later v
  inquiries-loss = record {
    rows = λ m s q here j. elim (i.knows.memory m s here) [
      | inl none ↦ absurd (subst (Has q) none.inquiries j)
      | inr z ↦ row-on m q z.3 (k.rows m z.0 q z.1 (subst (λ y. Has q y.member.inquiries) z.2 j))
    ];
    heard = λ m x other f. elim (L.came f.0 f.1) [
      | inl old ↦ prepares m x (k.heard m x other (f.0, old.0, f.2))
      | inr news ↦ absurd (no-query m x f.0 news f.2)
    ];
    told = λ m x f. elim (L.came f.0 f.1) [
      | inl old ↦
          let way = A.told f.0 x old.0 (subst (TellsOf x) (sym f.2.says) refl) in
          told-loss m x (not-out m f.0 f.2.to old.1) (subst (IsOther r x) (target-is way.member m (sym way.receiver ∙ f.2.to)) way.other) (k.told m x (f.0, old.0, f.2))
      | inr news ↦ absurd (no-query m x f.0 news (IsVerdict f.2.inc _ f.2.says f.2.to))
    ];
  }
