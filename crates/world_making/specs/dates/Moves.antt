-- What a client does at its attempt keeps what is said of epochs: it goes on, asks, or ends it.
use Rattle.std.specs.Prelude.{ℕ, ◌≡◌, ◌≤◌, ◌<◌, ◌+◌, ◌++◌, ◌⊎◌, ◌&&◌, Bool, true, false, nat_lt, List, [], Contains, map, is_some, slice_get, Option, Some, None, refl, if◌then◌else◌}
use Rattle.std.proofs.Common.{append-nil, sym, ◌∙◌, ap, subst, inl, inr, arith}
use Rattle.std.proofs.Math.ListN.{set}
use Rattle.std.proofs.lemmas.Option.{same_Some}
use Rattle.base_types.specs.declared.epoch.Epoch.{Epoch}
use Rattle.base_types.specs.declared.id.AttemptId.{AttemptId}
use Rattle.base_types.specs.declared.outcome.Outcome.{Outcome}
use Rattle.base_types.specs.declared.report.Attempt.{Attempt}
use Rattle.base_types.specs.declared.script.Command.{Command}
use Rattle.base_types.specs.declared.script.Command.TheVariants.{Aggregate, Run, Skip, Snap, Tell}
use Rattle.base_types.specs.declared.script.Script.{Script}
use Rattle.base_messages.specs.declared.message.Message.{Message}
use Rattle.daos_model.specs.Attempts.{is_restart, is_unsure, snapshot_of, snapshot_of_command, snapshot_or_none}
use Rattle.daos_model.specs.BoolLaws.{clash}
use Rattle.daos_model.specs.Order.{told_by}
use Rattle.daos_model.specs.Transactions.{attempt_ops, command_of}
use Rattle.world_base.specs.declared.client.ClientState.{ClientState}
use Rattle.world_base.specs.declared.client.Present.{Present}
use Rattle.world_base.specs.declared.world.World.{World}
use Rattle.world_base.specs.ClientTurns.{Move, after_end, asks, at_present, attempt_id, begun, command_at, ends, first_epoch, goes, known_epoch, listed, next_command}
use Rattle.world_base.specs.Events.{Rules, client_plan, epoch_issued, or_issued, with_client, with_epoch}
use Rattle.world_base.specs.Letters.{asked_after, client, letters_of, talk_of, target}
use Rattle.world_base.specs.StepLaws.{set-here}
use Rattle.world_base.specs.Steps.{after_client, after_move}
use Rattle.world_letters.specs.clients.Snapshots.{is_at_snapshot}
use Rattle.world_letters.specs.epochs.Asking.{begins-first}
use Rattle.world_letters.specs.epochs.ClientLaws.{same-id}
use Rattle.world_letters.specs.epochs.Epochs.{AsksFirst, Epochs, IsAt, IsEpochOf, IsIssued, IsOwn, IsPast, IsSeen, IsUnissued, is_making, makes}
use Rattle.world_letters.specs.epochs.Lists.{epoch-found, one-value}
use Rattle.world_letters.specs.epochs.Talking.{asks-no_tell}
use Rattle.world_letters.specs.talks.TalkLaws.{none-among, sent-is-talk}
use Rattle.world_making.specs.dates.Clients.{KeepsKnown, PresentDated, QuietDated, SendsDated, SendsIfAny, epoch-moves, present-dated, quiet-dates}
use Rattle.world_making.specs.dates.Endings.{EndingDated, ending-dates, own-off}
use Rattle.world_making.specs.dates.Owning.{own-issued}
use Rattle.world_making.specs.dates.Targets.{later-undated}

-- what is said of epochs stands after a move
abbrev pub StaysDated : Rules → ℕ → World → ℕ → Move → Type 0
StaysDated r top w n m = Epochs r top (after_move w n m)

-- a client is at an attempt of a command, and no letter between it and targets is in flight
pub record WorksDated (r : Rules) (top : ℕ) (w : World) (n : ℕ) (c : ClientState) (a : Present) : Type 0 where
  pub here : slice_get w.clients n ≡ Some (at_present a c)
  pub silent : talk_of n w.messages ≡ []
  pub epochs : Epochs r top w
  pub order : Command
  pub placed : command_at (client_plan r n) c ≡ Some order
  pub is : command_of r.script (attempt_id (client_plan r n) c a) ≡ Some order

-- attempts of a command have one command
pub command-same : (s : Script) (x y : AttemptId) → x.client ≡ y.client → x.command ≡ y.command → command_of s x ≡ command_of s y
unfolding command_of
command-same s x y client' command' = ap (λ n. command_of s (made n x.command y.attempt)) client' ∙ ap (λ k. command_of s (made y.client k y.attempt)) command'
  where
    made : ℕ → ℕ → ℕ → AttemptId
    made n k a = record { client = n; command = k; attempt = a }

pub keeps-same : (c d : ClientState) → d.known ≡ c.known → KeepsKnown c d
keeps-same c d same name e is = ap (λ ks. known_epoch ks name) same ∙ is

-- ---- the attempt that it is at

-- an attempt of which as much is known as before
pub present-moves : (r : Rules) (w : World) (n : ℕ) (c d : ClientState) (a b : Present) → PresentDated r w n c a → slice_get w.clients n ≡ Some c → KeepsKnown c d → c.tracker.0 ≤ d.tracker.0 → d.command ≡ c.command → b.attempt ≡ a.attempt
    → b.epoch ≡ a.epoch → (b.waits ≡ false → a.waits ≡ false)
    → (a.epoch ≡ None → AsksFirst (attempt_ops r.script (attempt_id (client_plan r n) c a)) a → AsksFirst (attempt_ops r.script (attempt_id (client_plan r n) c a)) b) → PresentDated r (with_client n d w) n d b
present-moves r w n c d a b P here keeps tracker command number epoch idle first = record {
  known = λ e is. subst (λ x. IsEpochOf r (with_client n d w) x e) (sym own) (epoch-moves r w n c d here keeps (attempt_id (client_plan r n) c a) e (P.known e (sym epoch ∙ is)));
  tracked = λ e is off. let low : e.0 ≤ c.tracker.0 = P.tracked e (sym epoch ∙ is) (subst (λ x. is_at_snapshot r x ≡ false) own off) in omega (arith, low, tracker);
  seen = λ none. subst (λ x. is_at_snapshot r x ≡ false) (sym own) (P.seen (sym epoch ∙ none));
  unasked = λ none. subst (λ x. AsksFirst (attempt_ops r.script x) b) (sym own) (first (sym epoch ∙ none) (P.unasked (sym epoch ∙ none)));
  unknown = λ off none. subst (λ x. IsUnissued w x) (sym own) (P.unknown (idle off) (sym epoch ∙ none));
  unmade = λ off makes'. epoch ∙ P.unmade (idle off) (subst (λ x. is_making r x ≡ true) own makes');
}
  where
    own : attempt_id (client_plan r n) d b ≡ attempt_id (client_plan r n) c a
    own = same-id r n c d a b command number

-- the same attempt, or none as before
pub quiet-same : (r : Rules) (top : ℕ) (w : World) (n : ℕ) (c d : ClientState) → Epochs r top w → slice_get w.clients n ≡ Some c → c.tracker.0 ≤ d.tracker.0 → d.command ≡ c.command → d.present ≡ c.present → KeepsKnown c d → QuietDated r w n c d
quiet-same r top w n c d E here tracker command present keeps = record {
  here = here;
  tracker = tracker;
  command = command;
  keeps = keeps;
  stays = λ a at. (a, present ∙ at, refl);
  was = λ b at. inl (b, sym present ∙ at, refl);
  present = λ b at. present-moves r w n c d b b (present-dated r top w n c b E here (sym present ∙ at)) here keeps tracker command refl refl (λ e. e) (λ none f. f);
}

-- an attempt that goes on
pub quiet-goes : (r : Rules) (top : ℕ) (w : World) (n : ℕ) (c d : ClientState) (a b : Present) → Epochs r top w → slice_get w.clients n ≡ Some (at_present a c) → c.tracker.0 ≤ d.tracker.0 → d.command ≡ c.command → d.known ≡ c.known
    → d.present ≡ Some b → b.attempt ≡ a.attempt → b.epoch ≡ a.epoch → (b.waits ≡ false → a.waits ≡ false)
    → (a.epoch ≡ None → AsksFirst (attempt_ops r.script (attempt_id (client_plan r n) c a)) a → AsksFirst (attempt_ops r.script (attempt_id (client_plan r n) c a)) b) → QuietDated r w n (at_present a c) d
quiet-goes r top w n c d a b E here tracker command known present number epoch idle first = record {
  here = here;
  tracker = tracker;
  command = command;
  keeps = keeps-same (at_present a c) d known;
  stays = λ z at. (b, present, number ∙ ap (λ y. y.attempt) (same_Some a z at));
  was = λ z at. inl (a, refl, sym number ∙ ap (λ y. y.attempt) (same_Some b z (sym present ∙ at)));
  present = λ z at. subst (PresentDated r (with_client n d w) n d) (same_Some b z (sym present ∙ at))
      (present-moves r w n (at_present a c) d a b (present-dated r top w n (at_present a c) a E here refl) here (keeps-same (at_present a c) d known) tracker command number epoch idle first);
}

-- ---- a move without a line

pub unsaid-dates : (r : Rules) (top : ℕ) (w : World) (n : ℕ) (c : ClientState) (m : Move) → m.line ≡ None → Epochs r top w → QuietDated r w n c m.state → SendsIfAny r top (with_client n m.state w) n m.post → StaysDated r top w n m
unsaid-dates r top w n c m none E Q S =
    subst (λ o. Epochs r top (after_client w n (listed m.post) (listed o) m.state)) (sym none)
    (subst (λ ls. Epochs r top (record w { clients = set w.clients n m.state; messages = w.messages ++ letters_of (client n) (listed m.post); asked = asked_after w.asked (letters_of (client n) (listed m.post)); lines = ls })) (sym (append-nil w.lines)) (quiet-dates r top w n c m.state m.post E Q S))

module _ (r : Rules) (top : ℕ) (w : World) (n : ℕ) where
  -- the client goes on with its attempt, and sends nothing
  pub goes-dates : (c : ClientState) (a b : Present) → WorksDated r top w n c a → b.attempt ≡ a.attempt → b.epoch ≡ a.epoch → (b.waits ≡ false → a.waits ≡ false)
      → (a.epoch ≡ None → AsksFirst (attempt_ops r.script (attempt_id (client_plan r n) c a)) a → AsksFirst (attempt_ops r.script (attempt_id (client_plan r n) c a)) b) → StaysDated r top w n (goes (at_present b c))
  goes-dates c a b K number epoch idle first =
      unsaid-dates r top w n (at_present a c) (goes (at_present b c)) refl K.epochs (quiet-goes r top w n c (at_present b c) a b K.epochs K.here (omega arith) refl refl refl number epoch idle first) tt

  -- it waits
  abbrev pub AskingClient : ClientState → Present → ClientState
  AskingClient c a = at_present (record a { waits = true }) c

  -- it asks, and waits
  pub asks-dates : (c : ClientState) (a : Present) (t : ℕ) (m : Message) → WorksDated r top w n c a → SendsDated r top (with_client n (AskingClient c a) w) n (record { to = target t; message = m }) → StaysDated r top w n (asks t m a c)
  asks-dates c a t m K S =
      unsaid-dates r top w n (at_present a c) (asks t m a c) refl K.epochs
      (quiet-goes r top w n c (AskingClient c a) a (record a { waits = true }) K.epochs K.here (omega arith) refl refl refl refl refl (λ e. let no : ⊥ = cc in absurd no) (λ none f. record { group = f.group; next = f.next })) S

  -- ---- an attempt ends

  -- the next attempt of a command
  abbrev pub next_attempt : ClientState → Present → Command → Present
  next_attempt c a d = begun (a.attempt + 1) a.first (first_epoch c.known (snapshot_of_command d))

  -- the client is then at it, or at the next command
  data NextIs (c : ClientState) (a : Present) (order : Command) (d : ClientState) : Type 0 where
    ByCommand : d.present ≡ None → d.command ≡ c.command + 1 → NextIs c a order d
    ByAttempt : d.present ≡ Some (next_attempt c a order) → d.command ≡ c.command → NextIs c a order d

  end-after : (c : ClientState) (a b : Present) (how : Outcome) (o : Option Command) (order : Command) → o ≡ Some order → b.attempt ≡ a.attempt → b.first ≡ a.first
      → ((after_end (client_plan r n) c o b how).tracker ≡ c.tracker) × ((after_end (client_plan r n) c o b how).known ≡ c.known) × NextIs c a order (after_end (client_plan r n) c o b how)
  end-after c a b how None order is number first = let no : ⊥ = cc in absurd no
  end-after c a b how (Some d) order is number first = by (is_restart how && nat_lt (b.attempt + 1) r.attempts)
    where
      same : next_attempt c b d ≡ next_attempt c a order
      same = ap (λ k. begun (k + 1) b.first (first_epoch c.known (snapshot_of_command d))) number ∙ ap (λ f. begun (a.attempt + 1) f (first_epoch c.known (snapshot_of_command d))) first ∙ ap (λ z. next_attempt c a z) (same_Some d order is)

      by : (l : Bool) → ((if l then at_present (next_attempt c b d) c else next_command c).tracker ≡ c.tracker) × ((if l then at_present (next_attempt c b d) c else next_command c).known ≡ c.known)
          × NextIs c a order (if l then at_present (next_attempt c b d) c else next_command c)
      by true = (refl, refl, ByAttempt (ap (λ z. Some z) same) refl)
      by false = (refl, refl, ByCommand refl refl)

  -- an attempt that has begun at the epoch of the snapshot that its command reads, where it reads one
  pub begun-dated : (c d : ClientState) (order : Command) (k : ℕ) (first : Option Epoch) (b : Present) → slice_get w.clients n ≡ Some c → KeepsKnown c d → b ≡ begun k first (first_epoch c.known (snapshot_of_command order))
      → command_of r.script (attempt_id (client_plan r n) d b) ≡ Some order → is_some (snapshot_of_command order) ≡ is_some b.epoch → IsUnissued w (attempt_id (client_plan r n) d b) → PresentDated r (with_client n d w) n d b
  begun-dated c d order k first b here keeps is command dated unissued = record {
    known = λ e has. by (snapshot_of_command order) refl e (sym (ap (λ z. z.epoch) is) ∙ has);
    tracked = λ e has off. let at : is_at_snapshot r (attempt_id (client_plan r n) d b) ≡ true = reads ∙ dated ∙ ap is_some has in clash (is_at_snapshot r (attempt_id (client_plan r n) d b)) at off;
    seen = λ none. reads ∙ dated ∙ ap is_some none;
    unasked = λ none. subst (AsksFirst (attempt_ops r.script (attempt_id (client_plan r n) d b))) (sym is) (begins-first (attempt_ops r.script (attempt_id (client_plan r n) d b)) k first (first_epoch c.known (snapshot_of_command order)));
    unknown = λ off none. unissued;
    unmade = λ off makes'. unread order (sym (ap makes command) ∙ makes') (ap (λ z. z.epoch) is);
  }
    where
      reads : is_at_snapshot r (attempt_id (client_plan r n) d b) ≡ is_some (snapshot_of_command order)
      reads = ap (λ o. is_some (snapshot_or_none o)) command

      named : snapshot_of r.script (attempt_id (client_plan r n) d b) ≡ snapshot_of_command order
      named = ap snapshot_or_none command

      by : (s : Option (List ℕ)) → snapshot_of_command order ≡ s → (e : Epoch) → first_epoch c.known (snapshot_of_command order) ≡ Some e → IsEpochOf r (with_client n d w) (attempt_id (client_plan r n) d b) e
      by None at e has = let none : first_epoch c.known (snapshot_of_command order) ≡ None = ap (first_epoch c.known) at in let no : ⊥ = cc in absurd no
      by (Some name) at e has = IsSeen (record {
        name = name;
        reads = named ∙ at;
        c = d;
        here = set-here w.clients n c d here;
        known = keeps name e (sym (ap (first_epoch c.known) at) ∙ has);
      })

      -- a command that makes a snapshot or aggregates reads at none
      unread : (o : Command) → makes (Some o) ≡ true → b.epoch ≡ first_epoch c.known (snapshot_of_command o) → b.epoch ≡ None
      unread (Run ops turns snapshot) on at = let no : ⊥ = cc in absurd no
      unread (Snap name cont) on at = at
      unread (Aggregate cont) on at = at
      unread (Tell client') on at = at
      unread (Skip turns) on at = at

  -- the line of an attempt that ends, with the epoch that its client knows of it, or else the one that was issued
  abbrev pub ItsLine : ClientState → Present → List (ℕ × Bool) → Outcome → Attempt
  ItsLine c a conds how = record {
    id = attempt_id (client_plan r n) c a;
    epoch = or_issued w.issued (attempt_id (client_plan r n) c a) a.epoch;
    conds = conds;
    gots = a.gots;
    outcome = how;
  }

  -- where its command reads at a snapshot, the client of an attempt still knows that
  known-still : (c : ClientState) (a : Present) (K : WorksDated r top w n c a) → is_some (snapshot_of_command K.order) ≡ is_some (first_epoch c.known (snapshot_of_command K.order))
  known-still c a K = by (snapshot_of_command K.order) refl
    where
      x : AttemptId
      x = attempt_id (client_plan r n) c a

      of-epoch : (name : List ℕ) → snapshot_of r.script x ≡ Some name → (e : Epoch) → IsEpochOf r w x e → is_some (known_epoch c.known name) ≡ true
      of-epoch name named e (IsOwn i) = let off : is_at_snapshot r x ≡ false = K.epochs.own x e i in let on : is_at_snapshot r x ≡ true = ap is_some named in let no : ⊥ = cc (on, off) in absurd no
      of-epoch name named e (IsSeen z) =
          let is : z.c ≡ at_present a c = one-value (slice_get w.clients n) z.c (at_present a c) z.here K.here in
          let same : z.name ≡ name = same_Some z.name name (sym z.reads ∙ named) in
          ap is_some (subst (λ k. known_epoch c.known k ≡ Some e) same (subst (λ y. known_epoch y.known z.name ≡ Some e) is z.known))

      at-epoch : (name : List ℕ) → snapshot_of r.script x ≡ Some name → (o : Option Epoch) → a.epoch ≡ o → is_some (known_epoch c.known name) ≡ true
      at-epoch name named None none = let off : is_at_snapshot r x ≡ false = K.epochs.seen n (at_present a c) a K.here refl none in let on : is_at_snapshot r x ≡ true = ap is_some named in let no : ⊥ = cc (on, off) in absurd no
      at-epoch name named (Some e) has = of-epoch name named e (K.epochs.known n (at_present a c) a e K.here refl has)

      by : (s : Option (List ℕ)) → snapshot_of_command K.order ≡ s → is_some (snapshot_of_command K.order) ≡ is_some (first_epoch c.known (snapshot_of_command K.order))
      by None at = ap is_some at ∙ sym (ap (λ s. is_some (first_epoch c.known s)) at)
      by (Some name) at = ap is_some at ∙ sym (at-epoch name (ap snapshot_or_none K.is ∙ at) a.epoch refl) ∙ sym (ap (λ s. is_some (first_epoch c.known s)) at)

  -- an attempt ends, of whose own epoch its client knows, or it is open what became of it, or it has none
  pub ends-dates : (c : ClientState) (a : Present) (conds : List (ℕ × Bool)) (waits' : Bool) (how : Outcome) → WorksDated r top w n c a
      → (a.epoch ≡ None → is_unsure (ItsLine c a conds how) ≡ false → IsUnissued w (attempt_id (client_plan r n) c a)) → ((e : ℕ) → Contains (told_by how) e → e ≤ c.tracker.0)
      → StaysDated r top w n (ends (client_plan r n) c (record a { conds = conds; waits = waits' }) how)
  ends-dates c a conds waits' how K unsure told =
      subst (λ ls. Epochs r top (record w { clients = set w.clients n d; messages = ls; lines = w.lines ++ map (with_epoch w.issued) (listed (ends (client_plan r n) c (record a { conds = conds; waits = waits' }) how).line) })) (sym (append-nil w.messages))
      (ending-dates r top w n (at_present a c) d (ItsLine c a conds how) K.epochs ending)
    where
      d : ClientState
      d = after_end (client_plan r n) c (command_at (client_plan r n) c) (record a { conds = conds; waits = waits' }) how

      x : AttemptId
      x = attempt_id (client_plan r n) c a

      then : (d.tracker ≡ c.tracker) × (d.known ≡ c.known) × NextIs c a K.order d
      then = end-after c a (record a { conds = conds; waits = waits' }) how (command_at (client_plan r n) c) K.order K.placed refl refl

      present : IsAt r w.clients x
      present = record { c = at_present a c; a = a; here = K.here; at = refl; own = refl }

      mine : (y : AttemptId) → IsAt r w.clients y → (y.client ≡ n) → x ≡ y
      mine y p same =
          let is : p.c ≡ at_present a c = one-value (slice_get w.clients n) p.c (at_present a c) (subst (λ k. slice_get w.clients k ≡ Some p.c) same p.here) K.here in
          let one : p.a ≡ a = one-value (Some a) p.a a (subst (λ z. z.present ≡ Some p.a) is p.at) refl in
          let there : attempt_id (client_plan r y.client) p.c p.a ≡ y = p.own in
          ap (λ k. attempt_id (client_plan r k) (at_present a c) a) (sym same) ∙ ap (λ z. attempt_id (client_plan r y.client) z a) (sym is) ∙ ap (λ z. attempt_id (client_plan r y.client) p.c z) (sym one) ∙ there

      shown : (o : Option Epoch) (e : Epoch) → a.epoch ≡ o → or_issued w.issued x o ≡ Some e → IsEpochOf r w x e
      shown None e is h = by (epoch-found w.issued x)
        where
          by : ((epoch_issued w.issued x ≡ None) × ((f : Epoch) → Contains w.issued (x, f) → ⊥)) ⊎ ((f : Epoch) × (epoch_issued w.issued x ≡ Some f) × Contains w.issued (x, f)) → IsEpochOf r w x e
          by (inl k) = let none : epoch_issued w.issued x ≡ None = k.0 in let no : ⊥ = cc in absurd no
          by (inr k) = let found : epoch_issued w.issued x ≡ Some k.0 = k.1 in let same : k.0 ≡ e = cc in subst (IsEpochOf r w x) same (IsOwn k.2)
      shown (Some own) e is h = K.epochs.known n (at_present a c) a e K.here refl (is ∙ h)

      whole : (o : Option Epoch) (e : Epoch) → a.epoch ≡ o → IsIssued w x e → or_issued w.issued x o ≡ Some e
      whole None e is h = by (epoch-found w.issued x)
        where
          by : ((epoch_issued w.issued x ≡ None) × ((f : Epoch) → Contains w.issued (x, f) → ⊥)) ⊎ ((f : Epoch) × (epoch_issued w.issued x ≡ Some f) × Contains w.issued (x, f)) → epoch_issued w.issued x ≡ Some e
          by (inl k) = absurd (k.1 e h)
          by (inr k) = k.1 ∙ ap (λ f. Some f) (K.epochs.one x k.0 e k.2 h)
      whole (Some own) e is h = ap (λ f. Some f) (K.epochs.one x own e (own-issued r w x own (K.epochs.own x e h) (K.epochs.known n (at_present a c) a own K.here refl is)) h)

      sure : (o : Option Epoch) (e : Epoch) → a.epoch ≡ o → or_issued w.issued x o ≡ Some e → is_at_snapshot r x ≡ false → is_unsure (ItsLine c a conds how) ≡ false → e.0 ≤ c.tracker.0
      sure None e is h off known = absurd (unsure is known e (own-issued r w x e off (shown None e is h)))
      sure (Some own) e is h off known = K.epochs.tracked n (at_present a c) a e K.here refl (is ∙ h) off

      passes : NextIs c a K.order d → (y : AttemptId) → IsPast (at_present a c) y → IsPast d y
      passes (ByCommand none command) y (inl k) = inl (omega (arith, k, command))
      passes (ByCommand none command) y (inr k) = let same : y.command ≡ c.command = k.2 in inl (omega (arith, same, command))
      passes (ByAttempt some command) y (inl k) = inl (omega (arith, k, command))
      passes (ByAttempt some command) y (inr k) =
          let one : k.0.attempt ≡ a.attempt = ap (λ z. z.attempt) (sym (same_Some a k.0 k.1)) in
          let low : y.attempt < k.0.attempt = k.3 in
          inr (next_attempt c a K.order, some, k.2 ∙ sym command, omega (arith, one, low))

      passed : NextIs c a K.order d → IsPast d x
      passed (ByCommand none command) = inl (omega (arith, command))
      passed (ByAttempt some command) = inr (next_attempt c a K.order, some, sym command, omega arith)

      unissued : NextIs c a K.order d → (b : Present) → d.present ≡ Some b → IsUnissued w (attempt_id (client_plan r n) d b)
      unissued (ByCommand none command) b at e h = cc
      unissued (ByAttempt some command) b at e h =
          let up : b.attempt ≡ a.attempt + 1 = ap (λ z. z.attempt) (sym (same_Some (next_attempt c a K.order) b (sym some ∙ at))) in
          later-undated r top w (attempt_id (client_plan r n) d b) x e K.epochs present h refl command (omega (arith, up))

      next : NextIs c a K.order d → (b : Present) → d.present ≡ Some b → PresentDated r (with_client n d w) n d b
      next (ByCommand none command) b at = let no : ⊥ = cc in absurd no
      next (ByAttempt some command) b at =
          let is : b ≡ next_attempt c a K.order = sym (same_Some (next_attempt c a K.order) b (sym some ∙ at)) in
          begun-dated (at_present a c) d K.order (a.attempt + 1) a.first b K.here (keeps-same (at_present a c) d then.1) is (command-same r.script (attempt_id (client_plan r n) d b) x refl command ∙ K.is)
          (known-still c a K ∙ sym (ap (λ z. is_some z.epoch) is)) (unissued then.2 b at)

      ending : EndingDated r w n (at_present a c) d (ItsLine c a conds how)
      ending = record {
        here = K.here;
        its = refl;
        keeps = keeps-same (at_present a c) d then.1;
        silent = λ l y k h q same. none-among n w.messages l K.silent h (sent-is-talk n l (asks-no_tell l.message y k q) (K.epochs.asker l y k h q ∙ ap (λ m. client m) same));
        mine = mine;
        shown = λ e h. shown a.epoch e refl h;
        present = λ e h. present;
        whole = λ e h. whole a.epoch e refl h;
        sure = λ e h own known. sure a.epoch e refl h (own-off r (ItsLine c a conds how) own) known;
        told = told;
        tracker = then.0;
        passes = passes then.2;
        passed = passed then.2;
        next = next then.2;
        unissued = unissued then.2;
      }

  -- one that waits for nothing, and of whose end its client hears nothing new
  pub sure-ends : (c : ClientState) (a : Present) (conds : List (ℕ × Bool)) (how : Outcome) → WorksDated r top w n c a → a.waits ≡ false → ((e : ℕ) → Contains (told_by how) e → e ≤ c.tracker.0) → StaysDated r top w n (ends (client_plan r n) c (record a { conds = conds }) how)
  sure-ends c a conds how K idle told = ends-dates c a conds a.waits how K (λ none known. K.epochs.unknown n (at_present a c) a K.here refl idle none) told
