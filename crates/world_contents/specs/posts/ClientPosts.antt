-- What clients of a script in form send is in form.
use Rattle.std.specs.Prelude.{ℕ, ◌≡◌, ◌++◌, Bool, true, false, ◌&&◌, IfSome, List, [], ◌∷◌, map, slice_get, All, Option, Some, None, refl, is_some, if◌then◌else◌}
use Rattle.std.proofs.Common.{inl, inr, zero, suc, sym, ap, subst}
use Rattle.base_types.specs.declared.epoch.Epoch.{Epoch}
use Rattle.base_types.specs.declared.operation.MinorWrite.{MinorWrite}
use Rattle.base_types.specs.declared.operation.Op.{Op}
use Rattle.base_types.specs.declared.operation.Read.{Read}
use Rattle.base_types.specs.declared.operation.Write.{Write}
use Rattle.base_types.specs.declared.script.Command.{Command}
use Rattle.base_types.specs.declared.script.Command.TheVariants as command
use Rattle.base_types.specs.declared.script.ContDecl.{ContDecl}
use Rattle.base_types.specs.declared.script.ObjDecl.{ObjDecl}
use Rattle.base_types.specs.Operations.{write_path}
use Rattle.base_types.specs.Placement.{ClassFits, writes_leader}
use Rattle.base_types.specs.Scripts.{AreCommands, IsCommand, IsInForm, IsOpInForm, IsWriteInForm, SnapName, old_snap, snap_of}
use Rattle.model_laws.specs.DecidedLaws.{all-from_has}
use Rattle.model_laws.specs.Lists.{all-at}
use Rattle.model_laws.specs.Members.{Has, has-cases}
use Rattle.base_messages.specs.declared.message.Message.{Message, more_of-Message}
use Rattle.base_messages.specs.declared.message.Message.TheVariants as message
use Rattle.base_messages.specs.declared.message.Post.{Post}
use Rattle.daos_model.specs.Accesses.{minor_writes}
use Rattle.daos_model.specs.Forms.{AreWritesInForm}
use Rattle.world_commit.specs.world_base.declared.client.ClientPlan.{ClientPlan}
use Rattle.world_commit.specs.world_base.declared.client.ClientState.{ClientState}
use Rattle.world_commit.specs.world_base.declared.client.KnownSnap.{KnownSnap}
use Rattle.world_commit.specs.world_base.declared.client.Present.{Present}
use Rattle.world_commit.specs.world_base.declared.did.Did.{Did}
use Rattle.world_commit.specs.world_base.ClientTurns.{ClientDid, Ended_by, Heard_on, HearTurn, Move, Moves, NextTurn, None_yet, One_more, Skipped, Went_on, about, answered, asks_again, attempt_id, command_at, goes, heard, heard_at, hears_epochs, is_about, knows, listed, moved, question, reset, reset_by, waits}
use Rattle.world_contents.specs.posts.ScriptForm.{read-in-form, writes-declared, writes-in-form, question-form}
use Rattle.world_contents.specs.posts.KnownSnapshots.{KnowsIts, ReadsKnown, all-known, heard-known, snapshot_at}
use Rattle.world_commit.specs.world_base.Events.{Rules, client_plan, commands_or_none, target_plan}
use Rattle.world_commit.specs.world_base.Letters.{target}
use Rattle.world_contents.specs.gots.FormLaws.{fit-object, write-declared}
use Rattle.world_contents.specs.posts.Forms.{AreWrites, ClientPosts, IsAsked, IsOfClient, IsReadAsked}
use Rattle.world_contents.specs.posts.Posting.{leader-writes}
use Rattle.world_commit.specs.world_letters.talks.AskLaws.{move-is, waiting-rests}
use Rattle.world_commit.specs.world_letters.talks.Asked.{ARead, ASnapshot, AnAggregation, Asked, Asking, IsMove, ItsWrites, Silent, Telling}
use Rattle.world_commit.specs.world_letters.talks.HearLaws.{ended-silent, replied-silent}

-- ---- the statements

-- wherever a client of a script in form goes on from, where it knows the snapshot at which it reads, what it sends has that form
abbrev pub ClientsPostInForm : Type 0
ClientsPostInForm =
    (r : Rules) (n : ℕ) (c d : ClientState) (did : Did) → IsInForm r.script.targets r.script → ReadsKnown (client_plan r n) c → NextTurn (client_plan r n) c did d
    → ClientPosts (target_plan r) did.posts

-- and so it is whatever it hears
abbrev pub HearersPostInForm : Type 0
HearersPostInForm =
    (r : Rules) (n : ℕ) (c d : ClientState) (m : Message) (did : Did) → IsInForm r.script.targets r.script → ReadsKnown (client_plan r n) c → HearTurn (client_plan r n) c m did d
    → ClientPosts (target_plan r) did.posts

-- ---- commands

-- each command of a client in form is in form, for some snapshots that are known there
command-form : (conts : List ContDecl) (objs : List ObjDecl) (known : List SnapName) (list : List Command) (n : ℕ) (d : Command) → AreCommands conts objs known list → slice_get list n ≡ Some d
    → (names : List SnapName) × IsCommand conts objs names d
command-form conts objs known [] n d f at = let no : ⊥ = cc in absurd no
command-form conts objs known (c ∷ cs) zero d f at = let same : c ≡ d = cc in (known, subst (IsCommand conts objs known) same f.0)
command-form conts objs known (c ∷ cs) (suc n) d f at = command-form conts objs (known ++ snap_of c) cs n d f.1 at

pub command-here : (r : Rules) (n place : ℕ) (d : Command) → IsInForm r.script.targets r.script → slice_get (commands_or_none (slice_get r.script.clients n)) place ≡ Some d
    → (names : List SnapName) × IsCommand r.script.conts r.script.objs names d
command-here r n place d form at = by (slice_get r.script.clients n) refl at
  where
    by : (o : Option (List Command)) → slice_get r.script.clients n ≡ o → slice_get (commands_or_none o) place ≡ Some d → (names : List SnapName) × IsCommand r.script.conts r.script.objs names d
    by None e at' = let no : ⊥ = cc in absurd no
    by (Some list) e at' =
        command-form r.script.conts r.script.objs (map old_snap r.script.olds) list place d (all-at (λ l. AreCommands r.script.conts r.script.objs (map old_snap r.script.olds) l) r.script.clients n list form.commands e) at'

-- ---- what is asked

module _ (r : Rules) (script : IsInForm r.script.targets r.script) where
  fits-all : (w : Write) → IsWriteInForm r.script.objs w → IfSome (write_path w).obj (λ o. ClassFits o.class r.script.targets)
  fits-all w f =
      let o = fit-object r.script.targets r.script.objs (write_path w) script.classes (write-declared r.script.objs w f) in
      subst (λ p. IfSome p (λ obj. ClassFits obj.class r.script.targets)) (sym o.1) o.2

  -- an operation's question
  asks-read : (n place : ℕ) (ops : List Op) (turns : List ℕ) (snapshot : Option (List ℕ)) (a : Present) (op : Op) (q : Read) (known : List KnownSnap) → KnowsIts snapshot known (Some a) → slice_get (commands_or_none (slice_get r.script.clients n)) place ≡ Some (command.Run ops turns snapshot)
      → slice_get ops a.op ≡ Some op → question a.stage op ≡ Some q → IsReadAsked q a.epoch (is_some snapshot)
  asks-read n place ops turns snapshot a op q known reads at here asks = record {
    form = read-in-form r.script.objs q script.declared.obj_units (question-form r.script.objs a.stage op q (all-at (IsOpInForm r.script.objs) ops a.op op (command-here r n place (command.Run ops turns snapshot) script at).1.0.in_form here) asks);
    known = its snapshot reads;
  }
    where
      its : (s : Option (List ℕ)) → KnowsIts s known (Some a) → is_some s ≡ true → is_some a.epoch ≡ true
      its None k is = let no : ⊥ = cc in absurd no
      its (Some name) k is = k.1

  -- the writes of a transaction, which go to their leader
  asks-writes : (n place : ℕ) (ops : List Op) (turns : List ℕ) (snapshot : Option (List ℕ)) (w : MinorWrite) (ws : List MinorWrite) → slice_get (commands_or_none (slice_get r.script.clients n)) place ≡ Some (command.Run ops turns snapshot)
      → minor_writes 0 ops ≡ w ∷ ws → AreWrites (target_plan r (writes_leader (w ∷ ws) r.script.targets)) (w ∷ ws)
  asks-writes n place ops turns snapshot w ws at all =
      let f = (command-here r n place (command.Run ops turns snapshot) script at).1.0 in
      let first = fit-object r.script.targets r.script.objs (write_path w.write) script.classes (write-declared r.script.objs w.write (writes-declared r.script.objs ops f.in_form w (subst (Has w) (sym all) (inl refl)))) in
      record {
        form = subst AreWritesInForm all (writes-in-form r.script.objs ops script.declared.obj_units f.few f.in_form);
        some = leader-writes (target_plan r (writes_leader (w ∷ ws) r.script.targets)) w ws first.0 refl first.1 first.2;
        fit = subst (All (λ m. IfSome (write_path m.write).obj (λ o. ClassFits o.class r.script.targets))) all
            (all-from_has (λ m. IfSome (write_path m.write).obj (λ o. ClassFits o.class r.script.targets)) (minor_writes 0 ops) (λ m i. fits-all m.write (writes-declared r.script.objs ops f.in_form m i)));
      }

  to-target : (t : ℕ) (m : Message) → IsAsked (target_plan r t) m → IsOfClient (target_plan r) (record { to = target t; message = m })
  to-target t m k = record { asked = λ to. k; told = λ to. let no : ⊥ = cc in absurd no }

  asked-form : (n : ℕ) (k : Epoch) (c : ClientState) (a : Present) (q : Post) → KnowsIts (snapshot_at (command_at (client_plan r n) c)) c.known (Some a) → Asked (client_plan r n) k c a q → IsOfClient (target_plan r) q
  asked-form n k c a q reads (ARead ops turns snapshot op z at here asks says) =
      subst (IsOfClient (target_plan r)) (sym says) (to-target _ (message.Fetch (attempt_id (client_plan r n) c a) a.op _ a.epoch a.first k z (is_some snapshot)) (asks-read n c.place ops turns snapshot a op z c.known (subst (λ o. KnowsIts (snapshot_at o) c.known (Some a)) at reads) at here asks))
  asked-form n k c a q reads (ItsWrites ops turns snapshot w ws at last all says) =
      subst (IsOfClient (target_plan r)) (sym says) (to-target (writes_leader (w ∷ ws) r.script.targets) (message.Commit (attempt_id (client_plan r n) c a) a.epoch a.first k (w ∷ ws)) (asks-writes n c.place ops turns snapshot w ws at all))
  asked-form n k c a q reads (ASnapshot name cont at says) = subst (IsOfClient (target_plan r)) (sym says) (to-target 0 (message.Snap (attempt_id (client_plan r n) c a) cont name k) tt)
  asked-form n k c a q reads (AnAggregation cont at says) = subst (IsOfClient (target_plan r)) (sym says) (to-target 0 (message.Prune (attempt_id (client_plan r n) c a) cont (Some k) None) tt)

  -- ---- a move

  abbrev AreInForm : List Post → Type 0
  AreInForm posts = ClientPosts (target_plan r) posts

  move-form : (n : ℕ) (c : ClientState) → ReadsKnown (client_plan r n) c → AreInForm (listed (moved (client_plan r n) c).post)
  move-form n c known = by (waits c) refl
    where
      nothing : (m : Move) → m.post ≡ None → AreInForm (listed m.post)
      nothing m e q i = absurd (subst (λ o. Has q (listed o)) e i)

      one : (m : Move) (s : Post) → m.post ≡ Some s → IsOfClient (target_plan r) s → AreInForm (listed m.post)
      one m s e t q i = elim (subst (λ o. Has q (listed o)) e i) [ inl same ↦ subst (IsOfClient (target_plan r)) (sym same) t | inr j ↦ absurd j ]

      is-a : IsMove (client_plan r n) c (moved (client_plan r n) c) → AreInForm (listed (moved (client_plan r n) c).post)
      is-a (Silent free none) = nothing (moved (client_plan r n) c) none
      is-a (Telling m none free says) = one (moved (client_plan r n) c) _ says (record { asked = λ to. let no : ⊥ = cc in absurd no; told = λ to. refl })
      is-a (Asking a q at asked says state) = one (moved (client_plan r n) c) q says (asked-form n c.tracker c a q (subst (KnowsIts (snapshot_at (command_at (client_plan r n) c)) c.known) at known) asked)

      by : (b : Bool) → waits c ≡ b → AreInForm (listed (moved (client_plan r n) c).post)
      by true h = nothing (moved (client_plan r n) c) (ap (λ m. m.post) (waiting-rests (client_plan r n) c h))
      by false h = is-a (move-is (client_plan r n) c h)

  -- ---- a turn

  both-form : (xs ys : List Post) → AreInForm xs → AreInForm ys → AreInForm (xs ++ ys)
  both-form xs ys k l q i = elim (has-cases xs ys q i) [ inl j ↦ k q j | inr j ↦ l q j ]

  moves-form : (n : ℕ) (c : ClientState) (posts : List Post) (lines : _) (d : ClientState) → ReadsKnown (client_plan r n) c → Moves (client_plan r n) c posts lines d → AreInForm posts
  moves-form n c posts lines d known None_yet = λ q i. absurd i
  moves-form n c posts lines d known (One_more sent told e before goes-on) =
      both-form sent (listed (moved (client_plan r n) e).post) (moves-form n c sent told e known before) (move-form n e (all-known (client_plan r n) c sent told e before known))

  did-form : (n : ℕ) (c d : ClientState) (did : Did) → ReadsKnown (client_plan r n) c → ClientDid (client_plan r n) c did d → AreInForm did.posts
  did-form n c d did known k =
      subst AreInForm (sym k.goes_on.all_sent)
      (both-form k.goes_on.sent (listed (moved (client_plan r n) k.goes_on.last).post) (moves-form n c k.goes_on.sent k.goes_on.told k.goes_on.last known k.goes_on.moves)
      (move-form n k.goes_on.last (all-known (client_plan r n) c k.goes_on.sent k.goes_on.told k.goes_on.last k.goes_on.moves known)))

  -- ---- hearing

  silent : (p : Option Post) → p ≡ None → AreInForm (listed p)
  silent p none q i = absurd (subst (λ o. Has q (listed o)) none i)

  -- where its writes, or a question what became of them, are lost, a client asks what became of them
  asks-again_form : (p : ClientPlan) (c : ClientState) (a : Present) (t : ℕ) → AreInForm (listed (asks_again p c a t).post)
  asks-again_form p c a t q (inl same) = subst (IsOfClient (target_plan r)) (sym same) (to-target t (message.Ask (attempt_id p c a)) tt)
  asks-again_form p c a t q (inr i) = absurd i

  reset-form : (p : ClientPlan) (c : ClientState) (a : Present) (t : ℕ) (m : Message) → AreInForm (listed (reset p c a t m).post)
  reset-form p c a t (message.Commit x e first tracker ws) = asks-again_form p c a t
  reset-form p c a t (message.Ask x) = asks-again_form p c a t
  reset-form p c a t m = silent None refl

  reset-by_form : (p : ClientPlan) (c : ClientState) (a : Present) (t : ℕ) (down : Bool) (m : Message) → AreInForm (listed (reset_by p c a t down m).post)
  reset-by_form p c a t false m = reset-form p c a t m
  reset-by_form p c a t true m = silent None refl

  answered-form : (p : ClientPlan) (c : ClientState) (a : Present) (m : Message) → AreInForm (listed (answered p c a m).post)
  answered-form p c a (message.Fetched x op group ep reply) = silent _ (replied-silent p c (knows ep a) reply refl).no_post
  answered-form p c a (message.Ended x ep how) = silent _ (ended-silent p c (knows ep a) ep how).no_post
  answered-form p c a (message.Reset' t down place (more_of-Message m rest)) = reset-by_form p c (record a { waits = false }) t down m
  answered-form p c a m = silent None refl

  heard-form : (p : ClientPlan) (c : ClientState) (m : Message) → AreInForm (listed (heard p c m).post)
  unfolding heard
  heard-form p c m = by c.present
    where
      if-so : (b : Bool) (x y : Move) → AreInForm (listed x.post) → AreInForm (listed y.post) → AreInForm (listed (if b then x else y).post)
      if-so true x y k l = k
      if-so false x y k l = l

      by : (o : Option Present) → AreInForm (listed (heard_at p (hears_epochs m c) m o).post)
      by None = silent None refl
      by (Some a) = if-so (a.waits && is_about (attempt_id p (hears_epochs m c) a) (about m)) (answered p (hears_epochs m c) a m) (goes (hears_epochs m c)) (answered-form p (hears_epochs m c) a m) (silent None refl)

-- ---- the laws

pub clients-post-in-form : ClientsPostInForm
clients-post-in-form r n c d did script known (Skipped skips none counted) q i = absurd (subst (λ x. Has q x.posts) none i)
clients-post-in-form r n c d did script known (Went_on awake k) q i = did-form r script n c d did known k q i

pub hearers-post-in-form : HearersPostInForm
hearers-post-in-form r n c d m did script known (Ended_by over posts state) q i = heard-form r script (client_plan r n) c m q (subst (λ x. Has q x.posts) posts i)
hearers-post-in-form r n c d m did script known (Heard_on rest goes-on k both) q i =
    both-form r script (listed (heard (client_plan r n) c m).post) rest.posts (heard-form r script (client_plan r n) c m)
    (did-form r script n (heard (client_plan r n) c m).state d rest (heard-known (client_plan r n) c m known) k) q (subst (λ x. Has q x.posts) both i)
