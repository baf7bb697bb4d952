-- What a client does once its question is answered, or its request is lost, keeps what is said of epochs.
use Rattle.std.specs.Prelude.{ℕ, ◌≡◌, ◌≤◌, ◌+◌, ◌++◌, ◌||◌, Bool, true, false, nat_lt, find, List, [], ◌∷◌, map, Contains, slice_get, Option, Some, None, refl, if◌then◌else◌}
use Rattle.std.proofs.Common.{append-nil, sym, ◌∙◌, ap, subst, inl, arith}
use Rattle.std.proofs.Math.ListN.{set}
use Rattle.std.proofs.lemmas.Option.{same_Some}
use Rattle.base_types.specs.declared.answer.Answer.{Answer}
use Rattle.base_types.specs.declared.epoch.Epoch.{Epoch}
use Rattle.base_types.specs.declared.id.AttemptId.{AttemptId}
use Rattle.base_types.specs.declared.operation.Cond.{Cond}
use Rattle.base_types.specs.declared.operation.Op.{Op}
use Rattle.base_types.specs.declared.outcome.Outcome.{Outcome}
use Rattle.base_types.specs.declared.outcome.Outcome.TheVariants as outcome
use Rattle.base_types.specs.declared.script.Command.{Command}
use Rattle.base_types.specs.declared.script.Command.TheVariants as command
use Rattle.base_messages.specs.declared.message.Message.TheVariants as message
use Rattle.base_messages.specs.declared.message.Reply.{Reply}
use Rattle.base_messages.specs.declared.message.Reply.TheVariants as reply
use Rattle.daos_model.specs.Accesses.{op_path}
use Rattle.daos_model.specs.Attempts.{is_lost, is_unknown}
use Rattle.daos_model.specs.Conditions.{holds_where}
use Rattle.daos_model.specs.Order.{told_by}
use Rattle.daos_model.specs.Transactions.{attempt_ops, command_of}
use Rattle.world_base.specs.declared.client.ClientState.{ClientState}
use Rattle.world_base.specs.declared.client.KnownSnap.{KnownSnap}
use Rattle.world_base.specs.declared.client.Present.{Present}
use Rattle.world_base.specs.declared.client.Stage.{Stage}
use Rattle.world_base.specs.declared.client.Stage.TheVariants as stage
use Rattle.world_base.specs.declared.world.World.{World}
use Rattle.world_base.specs.ClientTurns.{Move, asks_again, at_present, attempt_id, command_at, condition_told, ends, epoch_of_known, goes, group_count, group_told, is_known_as, is_yes, joined, known_epoch, knows, knows_epoch, listed, next_op, next_stage, op_of, op_told, replied, snaps_known, told_at, told_by_reply}
use Rattle.world_base.specs.Events.{Rules, client_plan, with_client, with_epoch}
use Rattle.world_base.specs.Letters.{asked_after, client, letters_of, talk_of, target}
use Rattle.world_base.specs.StepLaws.{set-here, set-twice}
use Rattle.world_letters.specs.clients.Snapshots.{is_at_snapshot}
use Rattle.world_letters.specs.epochs.ClientLaws.{same-id}
use Rattle.world_letters.specs.epochs.Epochs.{AsksFirst, Epochs, IsEpochOf, IsUnissued, is_making}
use Rattle.world_letters.specs.epochs.Lists.{contains-none}
use Rattle.world_making.specs.dates.Clients.{KeepsKnown, PresentDated, QuietDated, epoch-moves, quiet-dates}
use Rattle.world_making.specs.dates.Going.{sends-nothing}
use Rattle.world_making.specs.dates.Moves.{StaysDated, WorksDated, ends-dates, goes-dates, quiet-goes, quiet-same, sure-ends, unsaid-dates}

-- ---- snapshots that a client knows

-- the first of a name stays where more are known
known-more : (name : List ℕ) (k : KnownSnap) (known : List KnownSnap) (e : Epoch) → known_epoch known name ≡ Some e → known_epoch (known ++ k ∷ []) name ≡ Some e
known-more name k [] e h = let no : ⊥ = cc in absurd no
known-more name k (y ∷ ys) e h = by (is_known_as name y) (known-more name k ys e) h
  where
    by : (b : Bool) → (known_epoch ys name ≡ Some e → known_epoch (ys ++ k ∷ []) name ≡ Some e) → epoch_of_known (if b then Some y else find (is_known_as name) ys) ≡ Some e → epoch_of_known (if b then Some y else find (is_known_as name) (ys ++ k ∷ [])) ≡ Some e
    by true ih g = g
    by false ih g = ih g

-- so it is of a client that hears how its attempt ended
pub snaps-more : (d : Option Command) (o : Option Epoch) (how : Outcome) (known : List KnownSnap) (name : List ℕ) (e : Epoch) → known_epoch known name ≡ Some e → known_epoch (snaps_known d o how known) name ≡ Some e
snaps-more (Some (command.Snap called cont)) (Some f) outcome.Committed known name e h = known-more name (record { name = called; epoch = f }) known e h
snaps-more d o how known name e h = h

-- ---- what was asked is answered

module _ (r : Rules) (top : ℕ) (w : World) (n : ℕ) where
  -- the client knows the epoch of an attempt of which a read was answered
  module _ (c : ClientState) where
    condition-dates : (a : Present) (cond : Cond) (there : Bool) → WorksDated r top w n c a → a.waits ≡ false → (a.epoch ≡ None → ⊥) → StaysDated r top w n (condition_told (client_plan r n) c a cond there)
    condition-dates a cond there K idle dated = by (holds_where there cond)
      where
        told : Present
        told = record a { conds = a.conds ++ (a.op, there) ∷ [] }

        by : (b : Bool) → StaysDated r top w n (if b then goes (at_present (next_stage stage.Cond told) c) else ends (client_plan r n) c told (outcome.CondFailed a.op))
        by true = goes-dates r top w n c a (next_stage stage.Cond told) K refl refl (λ e. idle) (λ none f. absurd (dated none))
        by false = sure-ends r top w n c a (a.conds ++ (a.op, there) ∷ []) (outcome.CondFailed a.op) K idle (λ e h. absurd (contains-none e h))

    told-at-dates : (a : Present) (cond : Cond) (s : Stage) (b : Answer) → WorksDated r top w n c a → a.waits ≡ false → (a.epoch ≡ None → ⊥) → StaysDated r top w n (told_at (client_plan r n) c a cond s b)
    told-at-dates a cond stage.Skip b K idle dated = goes-dates r top w n c a a K refl refl (λ e. e) (λ none f. f)
    told-at-dates a cond stage.Cond b K idle dated = condition-dates a cond (is_yes b) K idle dated
    told-at-dates a cond stage.Act b K idle dated = goes-dates r top w n c a (next_op (record a { gots = a.gots ++ (a.op, b) ∷ [] })) K refl refl (λ e. e) (λ none f. absurd (dated none))

    group-dates : (a : Present) (op : Op) (b : Answer) → WorksDated r top w n c a → a.waits ≡ false → (a.epoch ≡ None → ⊥) → StaysDated r top w n (group_told (client_plan r n) c a op b)
    group-dates a op b K idle dated = by (nat_lt (a.group + 1) (group_count (op_path op).obj (op_path op).dkey r.script.targets))
      where
        more : Present
        more = record a { group = a.group + 1; found = Some (joined a.found b) }

        by : (l : Bool) → StaysDated r top w n (if l then goes (at_present more c) else told_at (client_plan r n) c a op.cond a.stage (joined a.found b))
        by true = goes-dates r top w n c a more K refl refl (λ e. e) (λ none f. absurd (dated none))
        by false = told-at-dates a op.cond a.stage (joined a.found b) K idle dated

    op-told-dates : (a : Present) (b : Answer) (o : Option Op) → WorksDated r top w n c a → a.waits ≡ false → (a.epoch ≡ None → ⊥) → StaysDated r top w n (op_told (client_plan r n) c a b o)
    op-told-dates a b None K idle dated = goes-dates r top w n c a a K refl refl (λ e. e) (λ none f. f)
    op-told-dates a b (Some op) K idle dated = group-dates a op b K idle dated

    pub replied-dates : (a : Present) (b : Reply) → WorksDated r top w n c a → a.waits ≡ false → ((z : Answer) → b ≡ reply.Answer z → a.epoch ≡ None → ⊥) → ((e : ℕ) → Contains (told_by_reply b) e → e ≤ c.tracker.0) → StaysDated r top w n (replied (client_plan r n) c a b)
    replied-dates a (reply.Answer b) K idle dated told = op-told-dates a b (op_of (command_at (client_plan r n) c) a.op) K idle (dated b refl)
    replied-dates a (reply.Outcome how) K idle dated told = sure-ends r top w n c a a.conds how K idle told

  -- ---- what a client then knows

  -- the client as it is once it knows more
  pub quiet-client : (c d : ClientState) → Epochs r top w → QuietDated r w n c d → Epochs r top (with_client n d w)
  quiet-client c d E Q = subst (λ ls. Epochs r top (record w { clients = set w.clients n d; messages = ls })) (append-nil w.messages) (quiet-dates r top w n c d None E Q tt)

  -- what it does then, it does at once
  pub twice-dates : (d : ClientState) (m : Move) → StaysDated r top (with_client n d w) n m → StaysDated r top w n m
  twice-dates d m E =
      subst (λ cs. Epochs r top (record w { clients = cs; messages = w.messages ++ letters_of (client n) (listed m.post); asked = asked_after w.asked (letters_of (client n) (listed m.post)); lines = w.lines ++ map (with_epoch w.issued) (listed m.line) })) (set-twice w.clients n d m.state) E

  -- it is at an attempt that goes on, or that ends
  pub works-then : (c e : ClientState) (b : Present) (order : Command) → Epochs r top w → QuietDated r w n c (at_present b e) → talk_of n w.messages ≡ [] → command_at (client_plan r n) e ≡ Some order → command_of r.script (attempt_id (client_plan r n) e b) ≡ Some order
      → WorksDated r top (with_client n (at_present b e) w) n e b
  works-then c e b order E Q silent placed is = record { here = set-here w.clients n c (at_present b e) Q.here; silent = silent; epochs = quiet-client c (at_present b e) E Q; order = order; placed = placed; is = is }

  -- it knows the epoch of its attempt, where the answer bears it, or that it has none
  module _ (c e : ClientState) (a : Present) (o : Option Epoch) (waiting : Bool) (E : Epochs r top w) (here : slice_get w.clients n ≡ Some c) (at : c.present ≡ Some a) (tracker : c.tracker.0 ≤ e.tracker.0) (same : e.command ≡ c.command) (keeps : KeepsKnown c e) where
    abbrev pub Knowing : Present
    Knowing = record (knows o a) { waits = waiting }

    abbrev Own : AttemptId
    Own = attempt_id (client_plan r n) c a

    abbrev u : World
    u = with_client n (at_present Knowing e) w

    own : attempt_id (client_plan r n) (at_present Knowing e) Knowing ≡ Own
    own = same-id r n c (at_present Knowing e) a Knowing same refl

    pub quiet-knows : ((f : Epoch) → o ≡ Some f → IsEpochOf r w Own f × (f.0 ≤ e.tracker.0)) → (waiting ≡ false → o ≡ None → IsUnissued w Own) → (waiting ≡ false → is_making r Own ≡ false) → QuietDated r w n c (at_present Knowing e)
    quiet-knows bears lacks other = record {
      here = here;
      tracker = tracker;
      command = same;
      keeps = keeps;
      stays = λ z at'. (Knowing, refl, ap (λ y. y.attempt) (same_Some a z (sym at ∙ at')));
      was = λ z at'. inl (a, at, ap (λ y. y.attempt) (same_Some Knowing z at'));
      present = λ z at'. subst (PresentDated r u n (at_present Knowing e)) (same_Some Knowing z at') dated;
    }
      where
        known-by : (k : Option Epoch) → a.epoch ≡ k → (f : Epoch) → knows_epoch k o ≡ Some f → IsEpochOf r w Own f
        known-by None has f is = (bears f is).0
        known-by (Some g) has f is = E.known n c a f here at (has ∙ is)

        tracked-by : (k : Option Epoch) → a.epoch ≡ k → (f : Epoch) → knows_epoch k o ≡ Some f → is_at_snapshot r Own ≡ false → f.0 ≤ e.tracker.0
        tracked-by None has f is off = (bears f is).1
        tracked-by (Some g) has f is off = let low : f.0 ≤ c.tracker.0 = E.tracked n c a f here at (has ∙ is) off in omega (arith, low, tracker)

        none-by : (k : Option Epoch) → knows_epoch k o ≡ None → (k ≡ None) × (o ≡ None)
        none-by None is = (refl, is)
        none-by (Some g) is = let no : ⊥ = cc in absurd no

        dated : PresentDated r u n (at_present Knowing e) Knowing
        dated = record {
          known = λ f is. subst (λ x. IsEpochOf r u x f) (sym own) (epoch-moves r w n c (at_present Knowing e) here keeps Own f (known-by a.epoch refl f is));
          tracked = λ f is off. tracked-by a.epoch refl f is (subst (λ x. is_at_snapshot r x ≡ false) own off);
          seen = λ is. subst (λ x. is_at_snapshot r x ≡ false) (sym own) (E.seen n c a here at (none-by a.epoch is).0);
          unasked = λ is. (let f = E.unasked n c a here at (none-by a.epoch is).0 in subst (λ x. AsksFirst (attempt_ops r.script x) Knowing) (sym own) (record { group = f.group; next = f.next }));
          unknown = λ off is. subst (λ x. IsUnissued w x) (sym own) (lacks off (none-by a.epoch is).1);
          unmade = λ off makes'. (let no' : is_making r Own ≡ false = other off in let yes' : is_making r Own ≡ true = subst (λ x. is_making r x ≡ true) own makes' in let bad : ⊥ = cc in absurd bad);
        }

  -- ---- a request that is lost

  -- its attempt is over, and it is open what became of it
  pub lost-dates : (c e : ClientState) (a : Present) (order : Command) (how : Outcome) → Epochs r top w → slice_get w.clients n ≡ Some c → c.present ≡ Some a → c.tracker.0 ≤ e.tracker.0 → e.command ≡ c.command → e.present ≡ c.present → KeepsKnown c e
      → command_at (client_plan r n) e ≡ Some order → command_of r.script (attempt_id (client_plan r n) e a) ≡ Some order → talk_of n w.messages ≡ [] → ((x : AttemptId) → x ≡ attempt_id (client_plan r n) e a → is_unknown how || is_lost x how ≡ true)
      → ((f : ℕ) → Contains (told_by how) f → ⊥) → StaysDated r top w n (ends (client_plan r n) e (record a { waits = false }) how)
  lost-dates c e a order how E here at tracker command' present keeps placed is silent told' nothing =
      twice-dates (at_present a e) (ends (client_plan r n) e (record a { waits = false }) how)
      (ends-dates r top (with_client n (at_present a e) w) n e a a.conds false how (works-then c e a order E (quiet-same r top w n c (at_present a e) E here tracker command' (sym at) keeps) silent placed is)
      (λ none known. let unsure : is_unknown how || is_lost (attempt_id (client_plan r n) e a) how ≡ true = told' (attempt_id (client_plan r n) e a) refl in let no : ⊥ = cc in absurd no) (λ f h. absurd (nothing f h)))

  -- it asks what became of its attempt
  pub again-dates : (c e : ClientState) (a : Present) (t : ℕ) → Epochs r top w → slice_get w.clients n ≡ Some c → c.present ≡ Some a → c.tracker.0 ≤ e.tracker.0 → e.command ≡ c.command → e.known ≡ c.known
      → a.waits ≡ true → StaysDated r top w n (asks_again (client_plan r n) e (record a { waits = false }) t)
  again-dates c e a t E here at tracker command' known waits' =
      unsaid-dates r top w n c (asks_again (client_plan r n) e (record a { waits = false }) t) refl E
      (subst (λ z. QuietDated r w n z (at_present (record a { waits = true }) e)) (ap (λ o. record c { present = o }) (sym at))
      (quiet-goes r top w n c (at_present (record a { waits = true }) e) a (record a { waits = true }) E (here ∙ ap (λ z. Some z) (ap (λ o. record c { present = o }) at)) tracker command' known refl refl refl (λ off. let no : ⊥ = cc in absurd no) (λ none f. record { group = f.group; next = f.next })))
      (sends-nothing r top (with_client n (at_present (record a { waits = true }) e) w) n (record { to = target t; message = message.Ask (attempt_id (client_plan r n) e a) }) (λ x k h. h) (λ x h. h) (λ x f h. h) tt refl)
