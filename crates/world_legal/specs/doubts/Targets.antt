-- A target that hears a message, or does its idle work, keeps what shows where leaders stopped.
use Rattle.std.specs.Prelude.{ℕ, ◌≡◌, ◌⊎◌, ◌++◌, Bool, true, false, List, [], ◌∷◌, map, slice_get, Option, Some, None, refl}
use Rattle.std.proofs.Common.{inl, inr, sym, ◌∙◌, ap, subst}
use Rattle.std.proofs.Math.ListN.{set}
use Rattle.base_types.specs.declared.epoch.Epoch.{Epoch}
use Rattle.base_types.specs.declared.id.AttemptId.{AttemptId}
use Rattle.base_types.specs.declared.outcome.Outcome.{Outcome}
use Rattle.base_types.specs.declared.outcome.Outcome.TheVariants as outcome
use Rattle.base_types.specs.declared.report.Line.{Line}
use Rattle.base_messages.specs.declared.message.Message.{Message, more_of-Message}
use Rattle.base_messages.specs.declared.message.Message.TheVariants as message
use Rattle.base_messages.specs.declared.message.Post.{Post}
use Rattle.daos_model.specs.Attempts.{tries}
use Rattle.dtx_base.specs.Leading.{to_target}
use Rattle.dtx_base.specs.LeaderLaws.{same-is}
use Rattle.model_laws.specs.Members.{Has, contains-from_has, has-cases, has-from_map}
use Rattle.world_standing.specs.world_commit.attempts.Attempts.{IsBorn, entry_at, entry_in, is_known_at, is_known_in, leader_of, row_at, row_in}
use Rattle.world_standing.specs.world_commit.attempts.Counting.{has-left_over, has-taken}
use Rattle.world_standing.specs.world_commit.attempts.History.{GrowsBy, History, Tells}
use Rattle.world_standing.specs.world_commit.attempts.Turning.{one-or_another}
use Rattle.world_base.specs.declared.did.Did.{Did}
use Rattle.world_base.specs.declared.letter.Letter.{Letter}
use Rattle.world_base.specs.declared.target.Life.TheVariants.{Running}
use Rattle.world_base.specs.declared.target.TargetMemory.{TargetMemory}
use Rattle.world_base.specs.declared.target.TargetState.{TargetState}
use Rattle.world_base.specs.declared.world.World.{World}
use Rattle.world_base.specs.Events.{Rules, TargetHears, TargetHearsRightly, TargetIdles, kept, target_after, target_plan, with_epoch}
use Rattle.world_base.specs.Further.{HearsFurther, reset_by}
use Rattle.world_base.specs.Letters.{letter_of, letters_of, target}
use Rattle.world_base.specs.MemoryLaws.{hears-follows, idle-leaves, idles-follows}
use Rattle.world_base.specs.StepLaws.{set-here, set-there}
use Rattle.world_base.specs.Stops.{HearsMore}
use Rattle.world_base.specs.TargetTurns.{commit_request}
use Rattle.world_standing.specs.world_letters.endings.Posts.{further-sent}
use Rattle.world_standing.specs.world_letters.endings.Telling.{AsksAgain, AsksFreezes, AsksPrunes, IsSent, Quietly, TellsAfter, is_collected}
use Rattle.world_standing.specs.world_commit.fates.Asked.{AskedRight}
use Rattle.world_standing.specs.world_commit.fates.Facts.{Attempts, IsRow}
use Rattle.world_standing.specs.world_commit.fates.Lefts.{idle-left}
use Rattle.world_standing.specs.world_commit.fates.Told.{silent_at}
use Rattle.world_standing.specs.world_letters.lines.EndingLaws.{all-hear-tell, idle-tells}
use Rattle.world_standing.specs.world_letters.lines.FilledLaws.{tries-filled}
use Rattle.world_standing.specs.world_letters.lines.Lines.{Endings, TellsPlainly, filled}
use Rattle.world_standing.specs.world_causes.losses.ClientHears.{TellsLoss}
use Rattle.world_standing.specs.world_causes.losses.Hearing.{ack-lines}
use Rattle.world_standing.specs.world_causes.losses.Silent.{commit-down-none}
use Rattle.world_standing.specs.world_causes.outcomes.Outcomes.{commits}
use Rattle.world_standing.specs.world_causes.outcomes.Premises.{AsksGoRight}
use Rattle.world_standing.specs.world_causes.outcomes.Untried.{untried-none}
use Rattle.world_standing.specs.world_commit.statuses.Fates.{told_by_it}
use Rattle.world_standing.specs.world_commit.statuses.Heard.{is_of_attempts}
use Rattle.world_standing.specs.world_letters.waits.Premises.{RequestsAreOfClients}
use Rattle.world_standing.specs.world_letters.waits.StopTurns.{nothing-changes}
use Rattle.world_legal.specs.doubts.Doubts.{IsInDoubt, RestsAt}
use Rattle.world_legal.specs.doubts.Recounting.{IsDoubted, IsNew, Recounts, WasInDoubt}
use Rattle.world_legal.specs.doubts.Rows.{HasRow, LeavesRows, rows-same}
use Rattle.world_legal.specs.doubts.Turns.{further-own, further-rows, plain-untold, rightly-own, rightly-rows}

-- no message tells that another one got no answer
abbrev pub TellNoLoss : List Post → Type 0
TellNoLoss posts = (q : Post) (m : Message) → Has q posts → TellsLoss q.message m → ⊥

-- ---- a turn of a running target

module _ (r : Rules) (h later : History) (w v : World) (k : Attempts r h w) (k2 : Attempts r later v) (t : ℕ) (s z : TargetState) (here : slice_get w.targets t ≡ Some s) (runs : z.life ≡ Running) (targets : v.targets ≡ set w.targets t z) (clients : v.clients ≡ w.clients)
    (lines : List Line) (told_lines : v.lines ≡ w.lines ++ map (with_epoch w.issued) lines) (no_lines : lines ≡ []) (rest : List Letter) (posts : List Post) (messages : v.messages ≡ rest ++ letters_of (target t) posts) (was : (l : Letter) → Has l rest → Has l w.messages)
    (told : List Post) (grows : GrowsBy h told later) (own : (x : AttemptId) (e : Option Epoch) (how : Outcome) → Tells told x e how → t ≡ leader_of r x) (q : Message) (handed : (x : AttemptId) → commits x q ≡ true → entry_at w (leader_of r x) x ≡ None)
    (leaves : LeavesRows (λ x. t ≡ leader_of r x) q s.memory.leader.undecided z.memory.leader.undecided posts) (lossless : TellNoLoss posts) where
  now : slice_get v.targets t ≡ Some z
  now = ap (λ ts. slice_get ts t) targets ∙ set-here w.targets t s z here

  -- at another target all is as before
  there : {A : Type 0} (part : Option TargetState → A) (u : ℕ) → (u ≡ t → ⊥) → part (slice_get v.targets u) ≡ part (slice_get w.targets u)
  there part u off = ap (λ ts. part (slice_get ts u)) targets ∙ ap part (set-there w.targets t u z off)

  runs-then : RestsAt v t → ⊥
  runs-then rests =
      let both : Some rests.s ≡ Some z = sym rests.here ∙ now in
      let one : rests.s ≡ z = cc in
      rests.off (ap (λ y. y.life) one ∙ runs)

  born-was : (x : AttemptId) → (leader_of r x ≡ t → ⊥) → IsBorn r later v x → IsBorn r h w x
  born-was x off (inl held) = inl (record { entry = held.entry; found = sym (there (λ o. entry_in o x) (leader_of r x) off) ∙ held.found })
  born-was x off (inr gone) = elim (grows.only_aborted x gone) [ inl before ↦ inr before | inr tells ↦ absurd (off (sym (own x tells.own tells.how tells.told))) ]

  -- one that is in doubt here has a row
  row-then : (x : AttemptId) → t ≡ leader_of r x → IsInDoubt r v x → HasRow x z.memory.leader.undecided
  row-then x leads d = elim ((k2.on.each x).rows.either d.entry (λ y at. (let both : Some z ≡ Some y = sym now ∙ subst (λ n. slice_get v.targets n ≡ Some y) (sym leads) at in let one : z ≡ y = cc in ap (λ (i : TargetState). i.life) (sym one) ∙ runs)) d.found d.prepared) [
    | inl known ↦ (let off = d.unknown in let no : ⊥ = cc (known, off) in absurd no)
    | inr row ↦ (row.0, ap (λ o. row_in o x) (sym now) ∙ subst (λ n. row_at v n x ≡ Some row.0) (sym leads) row.1)
  ]

  doubted-here : (x : AttemptId) → t ≡ leader_of r x → HasRow x s.memory.leader.undecided ⊎ (commits x q ≡ true) → IsDoubted r w (map (with_epoch w.issued) lines) x
  doubted-here x leads (inr is) = IsNew (handed x is)
  doubted-here x leads (inl row) =
      let is : IsRow r w x t row.0 = (k.on.each x).rows.undecided t row.0 (ap (λ o. row_in o x) here ∙ row.1) in
      WasInDoubt (record { entry = is.here.entry; found = subst (λ n. entry_at w n x ≡ Some is.here.entry) leads is.here.found; prepared = is.here.prepared; unknown = subst (λ n. is_known_at w n x ≡ false) leads is.unknown })

  from-where : (l : Letter) → Has l v.messages → Has l rest ⊎ ((p : Post) × Has p posts × (letter_of (target t) p ≡ l))
  from-where l i = elim (has-cases rest (letters_of (target t) posts) l (subst (Has l) messages i)) [ inl j ↦ inl j | inr j ↦ inr (has-from_map (letter_of (target t)) posts l j) ]

  pub turn-recounts : Recounts r h later w v
  turn-recounts = record {
    clients = clients;
    more = map (with_epoch w.issued) lines;
    lines = told_lines;
    untried = tries-filled w.issued lines ∙ ap (map (filled w.issued)) (ap tries no_lines ∙ untried-none);
    resting = λ x born rests. elim (one-or_another (leader_of r x) t) [
      | inl is ↦ absurd (runs-then (subst (RestsAt v) is rests))
      | inr off ↦ inl (born-was x off born, record { s = rests.s; here = sym (there (λ o. o) (leader_of r x) off) ∙ rests.here; off = rests.off })
    ];
    doubtful = λ x d. elim (one-or_another (leader_of r x) t) [
      | inl is ↦ doubted-here x (sym is) (leaves.rows x (row-then x (sym is) d))
      | inr off ↦ WasInDoubt (record { entry = d.entry; found = sym (there (λ o. entry_in o x) (leader_of r x) off) ∙ d.found; prepared = d.prepared; unknown = sym (there (λ o. is_known_in o x) (leader_of r x) off) ∙ d.unknown })
    ];
    told = λ l x e i says d. elim (from-where l i) [
      | inl j ↦ was l j
      | inr p ↦ (let tells : Tells posts x e outcome.Committed = record { to = p.0.to; sent = subst (λ m. Has (record { to = p.0.to; message = m }) posts) (ap (λ m. m.message) p.2 ∙ says) p.1 } in
          absurd (leaves.told x e tells (row-then x (leaves.led x e tells) d)))
    ];
    lost = λ l x ask i tells. elim (from-where l i) [
      | inl j ↦ inl (was l j)
      | inr p ↦ absurd (lossless p.0 (message.Query x ask) p.1 (subst (λ m. TellsLoss m.message (message.Query x ask)) (sym p.2) tells))
    ];
  }

-- ---- which messages tell of no loss

plainly-lossless : (n m : Message) → TellsPlainly n → TellsLoss n m → ⊥
plainly-lossless (message.Reset' t down place (more_of-Message q rest)) m plain tells = plain
plainly-lossless n m plain tells = tells

pub after-lossless : (n m : Message) → TellsAfter n → TellsLoss n m → ⊥
after-lossless (message.Reset' t down place (more_of-Message q rest)) m after tells = after
after-lossless n m after tells = tells

pub collected-lossless : (n m : Message) → is_collected n ≡ true → TellsLoss n m → ⊥
collected-lossless (message.Reset' t down place (more_of-Message q rest)) m is tells = let no : ⊥ = cc (is) in no
collected-lossless n m is tells = tells

sent-lossless : (m : Message) (did : Did) → is_of_attempts m ≡ true → IsSent m did → TellNoLoss did.posts
sent-lossless m did ours (Quietly posts) q n i tells = after-lossless q.message n (posts q i) tells
sent-lossless m did ours (AsksFreezes x c name tracker s ts heard posts issued) q n i tells = let bad : false ≡ true = ap is_of_attempts (sym heard) ∙ ours in let no : ⊥ = cc in no
sent-lossless m did ours (AsksPrunes x c tracker g ts heard posts issued) q n i tells = let bad : false ≡ true = ap is_of_attempts (sym heard) ∙ ours in let no : ⊥ = cc in no
sent-lossless m did ours (AsksAgain u asked lost kind posts) q n i tells = by (subst (Has q) posts i)
  where
    by : Has q (to_target u asked ∷ []) → ⊥
    by (inl same) = collected-lossless asked n kind (subst (λ p. TellsLoss p.message n) same tells)
    by (inr none) = none

-- what is heard as without stops leads to none
pub heard-lossless : (r : Rules) (w v : World) → Endings w → (g : TargetHears r w v) → TellNoLoss g.did.posts
heard-lossless r w v ends g q m i tells =
    plainly-lossless q.message m ((all-hear-tell (target_plan r g.t) g.s.opening g.s.memory g.reading g.l.from g.l.message (kept g.s) g.new (g.memory, g.did) (ends g.l (contains-from_has w.messages g.l (has-taken w.messages g.l g.rest g.takes))) g.turn).0 q i) tells

-- ---- the turns

module _ (r : Rules) (h later : History) (w v : World) (k : Attempts r h w) (k2 : Attempts r later v) (right : AskedRight r h w) (asks : AsksGoRight r w) (ends : Endings w) (from : RequestsAreOfClients v) where
  -- an attempt that is handed over isn't stored
  handed-new : (l : Letter) → Has l w.messages → (m : Message) → l.message ≡ m → (x : AttemptId) → commits x m ≡ true → entry_at w (leader_of r x) x ≡ None
  handed-new l i (message.Commit y ep first tracker ws) is x own = subst (λ y. entry_at w (leader_of r y) y ≡ None) (same-is y x own) (right.commits l y ep first tracker ws i is).unstored
  handed-new l i m is x own = let no : ⊥ = cc in absurd no

  pub hearing-recounts : (g : TargetHearsRightly r w v) → TellNoLoss g.did.posts → GrowsBy h (g.did.posts ++ silent_at g.s (target_after g.s g.new g.memory) g.l.message) later → Recounts r h later w v
  hearing-recounts g lossless grows =
      turn-recounts r h later w v k k2 g.t g.s (target_after g.s g.new g.memory) g.here g.runs (ap (λ u. u.targets) g.after) (ap (λ u. u.clients) g.after) g.did.lines (ap (λ u. u.lines) g.after)
      (hears-follows (target_plan r g.t) g.s.opening g.s.memory g.reading g.l.from g.l.message (kept g.s) g.new (g.memory, g.did) g.turn).lines g.rest g.did.posts (ap (λ u. u.messages) g.after) (λ l i. has-left_over w.messages g.l g.rest l g.takes i)
      (g.did.posts ++ silent_at g.s (target_after g.s g.new g.memory) g.l.message) grows (rightly-own r h w v k right asks from g g.l.message refl g.turn) g.l.message (λ x is. handed-new g.l flies g.l.message refl x is)
      (rightly-rows r h w v k right asks from g g.l.message refl g.turn) lossless
    where
      flies : Has g.l w.messages
      flies = has-taken w.messages g.l g.rest g.takes

  pub idling-recounts : (g : TargetIdles r w v) → GrowsBy h g.did.posts later → Recounts r h later w v
  idling-recounts g grows =
      turn-recounts r h later w v k k2 g.t g.s (target_after g.s g.new g.memory) g.here g.runs (ap (λ u. u.targets) g.after) (ap (λ u. u.clients) g.after) g.did.lines (ap (λ u. u.lines) g.after)
      (idles-follows g.settling (target_plan r g.t) g.s.memory (kept g.s) g.new (g.memory, g.did) g.turn).lines w.messages g.did.posts (ap (λ u. u.messages) g.after) (λ l i. i)
      g.did.posts grows (λ x e how tells. absurd (untold x e how tells)) (message.Marked 0 []) (λ x is. let no : ⊥ = cc (is) in absurd no)
      (rows-same _ (message.Marked 0 []) g.s.memory.leader.undecided g.memory.leader.undecided g.did.posts (idle-leaves g.settling (target_plan r g.t) g.s.memory g.turn.last g.new (g.memory, g.did) g.turn.ends).undecided (λ x e tells. untold x e outcome.Committed tells))
      (λ q m i tells. plainly-lossless q.message m ((idle-tells g.settling (target_plan r g.t) g.s.memory g.turn.last g.new (g.memory, g.did) g.turn.ends).0 q i) tells)
    where
      untold : (x : AttemptId) (e : Option Epoch) (how : Outcome) → Tells g.did.posts x e how → ⊥
      untold = plain-untold g.did.posts (idle-left r h w v k.on g).plain

  -- what is heard after stops tells no line
  reset-lines : (g : HearsMore r w v) (by-it : ℕ) (down : Bool) (place : _) (asked : Message) (rest : _) → is_of_attempts (message.Reset' by-it down place (more_of-Message asked rest)) ≡ true → (reset_by (target_plan r g.hears.t) g.hears.s.memory by-it down asked (kept g.hears.s)).1.lines ≡ []
  reset-lines g by-it down place (message.Freeze x c s) rest ours = let no : ⊥ = cc in absurd no
  reset-lines g by-it down place (message.Prune x c tracker e) rest ours = let no : ⊥ = cc in absurd no
  reset-lines g by-it down place asked rest ours = refl

  further-lines : (g : HearsMore r w v) (m : Message) → is_of_attempts m ≡ true → HearsFurther g.number (target_plan r g.hears.t) g.hears.s.opening g.hears.s.memory g.hears.reading g.hears.l.from m (kept g.hears.s) g.hears.new (g.hears.memory, g.hears.did) → g.hears.did.lines ≡ []
  further-lines g (message.Commit x ep first tracker ws) ours turn = (commit-down-none (target_plan r g.hears.t) g.hears.s.memory g.hears.reading (commit_request x ep first tracker ws) g.hears.l.from turn.last g.hears.new (g.hears.memory, g.hears.did) turn.ends).1
  further-lines g (message.Ask x) ours turn = ap (λ (z : TargetMemory × Did). z.1.lines) (nothing-changes (kept g.hears.s) g.hears.new (g.hears.memory, g.hears.did) turn).1
  further-lines g (message.Status x inc) ours turn = ap (λ (z : TargetMemory × Did). z.1.lines) (nothing-changes (kept g.hears.s) g.hears.new (g.hears.memory, g.hears.did) turn).1
  further-lines g (message.StatusIs x inc how) ours turn = ack-lines g.hears.s.memory turn.last g.hears.new (g.hears.memory, g.hears.did) turn.ends
  further-lines g (message.Reset' by-it down place (more_of-Message asked rest)) ours turn = ap (λ (z : TargetMemory × Did). z.1.lines) (nothing-changes (kept g.hears.s) g.hears.new (g.hears.memory, g.hears.did) turn).1 ∙ reset-lines g by-it down place asked rest ours
  further-lines g (message.Snap x c called tracker) ours turn = let no : ⊥ = cc in absurd no
  further-lines g (message.Freeze x c s) ours turn = let no : ⊥ = cc in absurd no
  further-lines g (message.Held x refusal) ours turn = let no : ⊥ = cc in absurd no
  further-lines g (message.Prune x c tracker e) ours turn = let no : ⊥ = cc in absurd no
  further-lines g m ours turn = absurd turn

  pub further-recounts : (g : HearsMore r w v) → is_of_attempts g.hears.l.message ≡ true → GrowsBy h (told_by_it g.hears.l.message g.hears.s (target_after g.hears.s g.hears.new g.hears.memory) g.hears.did.posts) later → Recounts r h later w v
  further-recounts f ours grows =
      let g = f.hears in
      let flies : Has g.l w.messages = has-taken w.messages g.l g.rest g.takes in
      turn-recounts r h later w v k k2 g.t g.s (target_after g.s g.new g.memory) g.here g.runs (ap (λ u. u.targets) g.after) (ap (λ u. u.clients) g.after) g.did.lines (ap (λ u. u.lines) g.after)
      (further-lines f g.l.message ours g.turn) g.rest g.did.posts (ap (λ u. u.messages) g.after) (λ l i. has-left_over w.messages g.l g.rest l g.takes i)
      (told_by_it g.l.message g.s (target_after g.s g.new g.memory) g.did.posts) grows (further-own r h w v k right asks from f.number g g.l.message refl g.turn) g.l.message (λ x is. handed-new g.l flies g.l.message refl x is)
      (further-rows r h w v k right asks from f.number g g.l.message refl ours g.turn)
      (sent-lossless g.l.message g.did ours (further-sent f.number (target_plan r g.t) g.s.opening g.s.memory g.reading g.l.from (kept g.s) g.new (g.memory, g.did) g.l.message (ends g.l (contains-from_has w.messages g.l flies)) g.turn))
