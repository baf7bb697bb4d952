-- Each move of a client keeps what is said of epochs.
use Rattle.std.specs.Prelude.{ℕ, ◌≡◌, ◌≤◌, ◌++◌, ◌⊎◌, Bool, true, false, List, [], ◌∷◌, Contains, drop, map, is_some, slice_get, Option, Some, None, refl, if◌then◌else◌}
use Rattle.std.proofs.Common.{append-nil, sym, ◌∙◌, ap, subst, inl, inr, arith}
use Rattle.std.proofs.Math.ListN.{set}
use Rattle.std.proofs.lemmas.Option.{same_Some}
use Rattle.base_types.specs.declared.epoch.Epoch.{Epoch}
use Rattle.base_types.specs.declared.id.AttemptId.{AttemptId}
use Rattle.base_types.specs.declared.operation.MinorWrite.{MinorWrite}
use Rattle.base_types.specs.declared.operation.Op.{Op}
use Rattle.base_types.specs.declared.operation.Read.{Read}
use Rattle.base_types.specs.declared.outcome.Outcome.TheVariants as outcome
use Rattle.base_types.specs.declared.script.Command.{Command}
use Rattle.base_types.specs.declared.script.Command.TheVariants.{Aggregate, Run, Skip, Snap, Tell}
use Rattle.base_types.specs.declared.script.Script.{Script}
use Rattle.base_types.specs.Operations.{read_path}
use Rattle.base_types.specs.Placement.{writes_leader}
use Rattle.base_types.specs.Scripts.{is_numbered}
use Rattle.base_messages.specs.declared.message.Message.TheVariants as message
use Rattle.base_messages.specs.declared.message.Post.{Post}
use Rattle.daos_model.specs.Accesses.{minor_writes}
use Rattle.daos_model.specs.Attempts.{snapshot_of_command, snapshot_or_none}
use Rattle.daos_model.specs.Transactions.{attempt_ops, command_of, ops_or_none}
use Rattle.world_base.specs.declared.client.ClientState.{ClientState}
use Rattle.world_base.specs.declared.client.Present.{Present}
use Rattle.world_base.specs.declared.client.Stage.{Stage}
use Rattle.world_base.specs.declared.client.Stage.TheVariants as stage
use Rattle.world_base.specs.declared.world.World.{World}
use Rattle.world_base.specs.ClientTurns.{after_end, asks_or_goes, at_present, attempt_id, attempt_moves, begins_at, begun, command_at, command_moves, commits, ends, first_epoch, goes, group_asked, is_waiting, listed, member_asked, moved, moves_at, next_command, next_place, next_stage, op_moves, question, rests, run_moves, skip_at, waits}
use Rattle.world_base.specs.Events.{Rules, client_plan, epoch_issued, with_client, with_epoch}
use Rattle.world_base.specs.Letters.{client, talk_of, target}
use Rattle.world_base.specs.StepLaws.{set-here}
use Rattle.world_letters.specs.clients.MoveLaws.{is-at}
use Rattle.world_letters.specs.clients.Snapshots.{is_at_snapshot}
use Rattle.world_letters.specs.epochs.Asking.{asks-first, asks-nothing, goes-first, issuer-asked, issuer-leads}
use Rattle.world_letters.specs.epochs.Epochs.{AsksEpoch, AsksFirst, ClientsStand, Epochs, GoesWith, IsAt, IsEpochOf, IsPast, IsReadOf, IsTold, IsUnissued, LacksEpoch, answers_undated, first_question, first_target, is_making, issuer_of, left_to_ask, makes}
use Rattle.world_letters.specs.epochs.Lists.{contains-none, epoch-found, one-value}
use Rattle.world_letters.specs.epochs.Talking.{asks-no_tell}
use Rattle.world_letters.specs.snapshots.Events.{command-is}
use Rattle.world_letters.specs.talks.TalkLaws.{none-among, sent-is-talk}
use Rattle.world_making.specs.dates.Clients.{PresentDated, SendsDated, epoch-moves}
use Rattle.world_making.specs.dates.Endings.{ending-dates}
use Rattle.world_making.specs.dates.Laws.{MakersAskFirstTarget}
use Rattle.world_making.specs.dates.Moves.{ItsLine, StaysDated, AskingClient, WorksDated, asks-dates, begun-dated, goes-dates, quiet-goes, quiet-same, sure-ends, unsaid-dates}
use Rattle.world_making.specs.dates.Targets.{date-behind}

-- ---- what is sent

-- a message that neither asks for an epoch nor bears one
pub sends-nothing : (r : Rules) (top : ℕ) (u : World) (n : ℕ) (q : Post) → ((x : AttemptId) (k : Epoch) → AsksEpoch q.message x k → ⊥) → ((x : AttemptId) → LacksEpoch q.message x → ⊥) → ((x : AttemptId) (e : Epoch) → GoesWith q.message x e → ⊥)
    → IsReadOf r q.message → answers_undated q.message ≡ false → SendsDated r top u n q
sends-nothing r top u n q asks' lacks bears reads dated =
    record { asks = λ x k h. absurd (asks' x k h); first = λ x k h. absurd (asks' x k h); lacks = lacks; bears = λ x e h. absurd (bears x e h); reads = reads; dated = dated }

-- the target that an attempt without operations asks first
issuer-none : (s : Script) (x : AttemptId) → attempt_ops s x ≡ [] → 0 ≡ issuer_of s x
unfolding issuer_of writes_leader minor_writes
issuer-none s x none = sym (ap (λ os. first_target x.command s.targets (minor_writes 0 os) (first_question os)) none)

-- so is that of one that makes a snapshot or aggregates
pub makers-ask : MakersAskFirstTarget
makers-ask r x on = by (command_of r.script x) refl on
  where
    by : (o : Option Command) → command_of r.script x ≡ o → makes o ≡ true → issuer_of r.script x ≡ 0
    by None is no' = let no : ⊥ = cc in absurd no
    by (Some (Run ops turns snapshot)) is no' = let no : ⊥ = cc in absurd no
    by (Some (Snap name cont)) is on' = sym (issuer-none r.script x (ap ops_or_none is))
    by (Some (Aggregate cont)) is on' = sym (issuer-none r.script x (ap ops_or_none is))
    by (Some (Tell client')) is no' = let no : ⊥ = cc in absurd no
    by (Some (Skip turns)) is no' = let no : ⊥ = cc in absurd no

module _ (r : Rules) (top : ℕ) (w : World) (n : ℕ) where
  module _ (c : ClientState) (a : Present) (K : WorksDated r top w n c a) (idle : a.waits ≡ false) where
    abbrev Own : AttemptId
    Own = attempt_id (client_plan r n) c a

    abbrev u : World
    u = with_client n (AskingClient r top w n c a) w

    at-now : IsAt r u.clients Own
    at-now = record { c = AskingClient r top w n c a; a = record a { waits = true }; here = set-here w.clients n (at_present a c) (AskingClient r top w n c a) K.here; at = refl; own = refl }

    tracker : (top ≤ c.tracker.0) × ((e : ℕ) → IsTold r w n e → e ≤ c.tracker.0)
    tracker = K.epochs.trackers n (at_present a c) K.here

    -- a request of an attempt, with the epoch that its client knows of it
    sends-request : (q : Post) → (a.epoch ≡ None → q.to ≡ target (issuer_of r.script Own)) → ((x : AttemptId) (k : Epoch) → AsksEpoch q.message x k → (a.epoch ≡ None) × (Own ≡ x) × (c.tracker ≡ k)) → ((x : AttemptId) → LacksEpoch q.message x → ⊥)
        → ((x : AttemptId) (e : Epoch) → GoesWith q.message x e → (a.epoch ≡ Some e) × (Own ≡ x)) → IsReadOf r q.message → answers_undated q.message ≡ false → SendsDated r top u n q
    sends-request q to asks' lacks bears reads dated = record {
      asks = λ x k h. let f = asks' x k h in (
        sym (ap (λ y. y.client) f.1),
        subst (λ y. IsAt r u.clients y) f.1 at-now,
        subst (λ y. IsUnissued u y) f.1 (K.epochs.unknown n (at_present a c) a K.here refl idle f.0),
        subst (λ y. top ≤ y.0) f.2 tracker.0,
        (λ e t. subst (λ y. e ≤ y.0) f.2 (tracker.1 e (subst (λ y. IsTold r w y.client e) (sym f.1) t))),
        subst (λ y. is_at_snapshot r y ≡ false) f.1 (K.epochs.seen n (at_present a c) a K.here refl f.0),
      );
      first = λ x k h. let f = asks' x k h in subst (λ y. q.to ≡ target (issuer_of r.script y)) f.1 (to f.0);
      lacks = lacks;
      bears = λ x e h. let f = bears x e h in subst (λ y. IsEpochOf r u y e) f.1 (epoch-moves r w n (at_present a c) (AskingClient r top w n c a) K.here (λ name g k. k) Own e (K.epochs.known n (at_present a c) a e K.here refl f.0));
      reads = reads;
      dated = dated;
    }

    -- the target that a request without an epoch goes to
    abbrev GoesFirst : ℕ → Type 0
    GoesFirst t = a.epoch ≡ None → target t ≡ target (issuer_of r.script Own)

    fetch-sends : (t group : ℕ) (o : Option Epoch) (q : Read) (snapshot : Bool) → a.epoch ≡ o → snapshot ≡ is_at_snapshot r Own → is_making r Own ≡ false → GoesFirst t
        → SendsDated r top u n (record { to = target t; message = message.Fetch Own a.op group o a.first c.tracker q snapshot })
    fetch-sends t group None q snapshot is at other to =
        sends-request (record { to = target t; message = message.Fetch Own a.op group None a.first c.tracker q snapshot }) to (λ x k h. (is, h.0, h.1)) (λ x h. h) (λ x e h. absurd h) (at, other) refl
    fetch-sends t group (Some own) q snapshot is at other to =
        sends-request (record { to = target t; message = message.Fetch Own a.op group (Some own) a.first c.tracker q snapshot }) to (λ x k h. absurd h) (λ x h. h) (λ x e h. (is ∙ ap (λ z. Some z) h.1, h.0)) (at, other) refl

    commit-sends : (t : ℕ) (o : Option Epoch) (ws : List MinorWrite) → a.epoch ≡ o → GoesFirst t → SendsDated r top u n (record { to = target t; message = message.Commit Own o a.first c.tracker ws })
    commit-sends t None ws is to = sends-request (record { to = target t; message = message.Commit Own None a.first c.tracker ws }) to (λ x k h. (is, h.0, h.1)) (λ x h. h) (λ x e h. absurd h) tt refl
    commit-sends t (Some own) ws is to =
        sends-request (record { to = target t; message = message.Commit Own (Some own) a.first c.tracker ws }) to (λ x k h. absurd h) (λ x h. h) (λ x e h. (is ∙ ap (λ z. Some z) h.1, h.0)) tt refl

    -- ---- the moves of a transaction

    module _ (ops : List Op) (turns : List ℕ) (snapshot : Option (List ℕ)) (is : command_of r.script Own ≡ Some (Run ops turns snapshot)) where
      its : attempt_ops r.script Own ≡ ops
      its = ap ops_or_none is

      at-own : is_some snapshot ≡ is_at_snapshot r Own
      at-own = sym (ap (λ o. is_some (snapshot_or_none o)) is)

      asking : a.epoch ≡ None → AsksFirst ops a
      asking none = subst (λ os. AsksFirst os a) its (K.epochs.unasked n (at_present a c) a K.here refl none)

      commits-dates : (ws : List MinorWrite) → minor_writes 0 ops ≡ ws → slice_get ops a.op ≡ None → StaysDated r top w n (commits (client_plan r n) c a ws)
      commits-dates [] same last = sure-ends r top w n c a a.conds outcome.Committed K idle (λ e h. absurd (contains-none e h))
      commits-dates (q ∷ qs) same last =
          asks-dates r top w n c a (writes_leader (q ∷ qs) r.script.targets) (message.Commit Own a.epoch a.first c.tracker (q ∷ qs)) K
          (commit-sends (writes_leader (q ∷ qs) r.script.targets) a.epoch (q ∷ qs) refl
          (λ none. ap target (ap (λ ws. writes_leader ws r.script.targets) (sym same) ∙ issuer-leads r.script Own ops its (asks-nothing ops a last (asking none)))))

      stage-stays : (s : Stage) → ((next_stage s a).attempt ≡ a.attempt) × ((next_stage s a).epoch ≡ a.epoch) × ((next_stage s a).waits ≡ a.waits)
      stage-stays stage.Skip = (refl, refl, refl)
      stage-stays stage.Cond = (refl, refl, refl)
      stage-stays stage.Act = (refl, refl, refl)

      reads-dates : (op : Op) (q : Option Read) → slice_get ops a.op ≡ Some op → question a.stage op ≡ q → StaysDated r top w n (asks_or_goes (client_plan r n) c a (is_some snapshot) q)
      reads-dates op None at nothing =
          let s = stage-stays a.stage in
          goes-dates r top w n c a (next_stage a.stage a) K s.0 s.1 (λ e. sym s.2 ∙ e) (λ none f. subst (λ os. AsksFirst os (next_stage a.stage a)) (sym its) (goes-first ops a op at nothing (subst (λ os. AsksFirst os a) its f)))
      reads-dates op (Some q) at asked' =
          asks-dates r top w n c a (member_asked (read_path q).obj c.command r.script.targets group) (message.Fetch Own a.op group a.epoch a.first c.tracker q (is_some snapshot)) K
          (fetch-sends (member_asked (read_path q).obj c.command r.script.targets group) group a.epoch q (is_some snapshot) refl at-own (ap makes is)
          (λ none. ap target (issuer-asked r.script Own ops q a.group its (asks-first ops a op q at asked' (asking none)) (asking none).group)))
        where
          group : ℕ
          group = group_asked (read_path q).obj (read_path q).dkey r.script.targets a.group

      op-dates : (o : Option Op) → slice_get ops a.op ≡ o → StaysDated r top w n (op_moves (client_plan r n) c a ops (is_some snapshot) o)
      op-dates None last = commits-dates (minor_writes 0 ops) refl last
      op-dates (Some op) at = reads-dates op (question a.stage op) at refl

      run-dates : (s : Stage) → a.stage ≡ s → StaysDated r top w n (run_moves (client_plan r n) c a ops turns (is_some snapshot) s)
      run-dates stage.Skip at =
          unsaid-dates r top w n (at_present a c) (run_moves (client_plan r n) c a ops turns (is_some snapshot) stage.Skip) refl K.epochs
          (quiet-goes r top w n c (record c { present = Some (next_stage stage.Skip a); skip = skip_at turns a.op }) a (next_stage stage.Skip a) K.epochs K.here (omega arith) refl refl refl refl refl (λ e. idle)
          (λ none f. record { group = f.group; next = subst (λ s. left_to_ask s (drop a.op (attempt_ops r.script Own)) ≡ first_question (attempt_ops r.script Own)) at f.next })) tt
      run-dates stage.Cond at = op-dates (slice_get ops a.op) refl
      run-dates stage.Act at = op-dates (slice_get ops a.op) refl

    -- ---- a snapshot or an aggregation is asked for

    undated : is_making r Own ≡ true → a.epoch ≡ None
    undated on = K.epochs.unmade n (at_present a c) a K.here refl idle on

    attempt-dates : (d : Command) → command_of r.script Own ≡ Some d → c.present ≡ Some a → StaysDated r top w n (attempt_moves (client_plan r n) c a d)
    attempt-dates (Run ops turns snapshot) is at = run-dates ops turns snapshot is a.stage refl
    attempt-dates (Snap name cont) is at =
        asks-dates r top w n c a 0 (message.Snap Own cont name c.tracker) K
        (sends-request (record { to = target 0; message = message.Snap Own cont name c.tracker }) (λ none. ap target (issuer-none r.script Own (ap ops_or_none is))) (λ x k h. (undated (ap makes is), h.0, h.1)) (λ x h. h) (λ x e h. absurd h) tt refl)
    attempt-dates (Aggregate cont) is at =
        asks-dates r top w n c a 0 (message.Prune Own cont (Some c.tracker) None) K
        (sends-request (record { to = target 0; message = message.Prune Own cont (Some c.tracker) None }) (λ none. ap target (issuer-none r.script Own (ap ops_or_none is))) (λ x k h. (undated (ap makes is), h.0, h.1)) (λ x h. h) (λ x e h. absurd h) tt refl)
    attempt-dates (Tell client') is at = unsaid-dates r top w n (at_present a c) (rests c) refl K.epochs (quiet-same r top w n (at_present a c) c K.epochs K.here (omega arith) refl at (λ name e k. k)) tt
    attempt-dates (Skip turns) is at = unsaid-dates r top w n (at_present a c) (rests c) refl K.epochs (quiet-same r top w n (at_present a c) c K.epochs K.here (omega arith) refl at (λ name e k. k)) tt

  -- ---- commands begin

  module _ (c : ClientState) (E : Epochs r top w) (here : slice_get w.clients n ≡ Some c) (none : c.present ≡ None) (silent : talk_of n w.messages ≡ []) where
    -- the first attempt of the command
    abbrev FirstOne : AttemptId
    FirstOne = record { client = n; command = c.command; attempt = 0 }

    first-undated : IsUnissued w FirstOne
    first-undated e h = by (date-behind r top w FirstOne e c E h here)
      where
        by : IsPast c FirstOne ⊎ ((a : Present) × (c.present ≡ Some a) × (attempt_id (client_plan r n) c a ≡ FirstOne)) → ⊥
        by (inl (inl k)) = omega (arith, k)
        by (inl (inr k)) = let at : c.present ≡ Some k.0 = k.1 in cc
        by (inr k) = let at : c.present ≡ Some k.0 = k.1 in cc

    begins-dates : (order : Command) (o : Option Epoch) → command_of r.script FirstOne ≡ Some order → o ≡ first_epoch c.known (snapshot_of_command order) → is_some (snapshot_of_command order) ≡ is_some o → StaysDated r top w n (goes (at_present (begun 0 None o) c))
    begins-dates order o is same dated = unsaid-dates r top w n c (goes (at_present (begun 0 None o) c)) refl E (record {
      here = here;
      tracker = omega arith;
      command = refl;
      keeps = λ name e k. k;
      stays = λ a at. let no : ⊥ = cc in absurd no;
      was = λ b at. inr (subst (λ z. IsUnissued w (attempt_id (client_plan r n) c z)) (same_Some (begun 0 None o) b at) first-undated);
      present = λ b at.
          subst (PresentDated r (with_client n (at_present (begun 0 None o) c) w) n (at_present (begun 0 None o) c)) (same_Some (begun 0 None o) b at)
          (begun-dated r top w n c (at_present (begun 0 None o) c) order 0 None (begun 0 None o) here (λ name e k. k) (ap (begun 0 None) same) is dated first-undated);
    }) tt

    -- one that is to read at a snapshot that the client doesn't know ends at once
    after-none : (o : Option Command) → after_end (client_plan r n) c o (begun 0 None None) outcome.NoSnapshot ≡ next_command c
    after-none None = refl
    after-none (Some d) = refl

    never : (e : Epoch) → epoch_issued w.issued FirstOne ≡ Some e → ⊥
    never e h = by (epoch-found w.issued FirstOne)
      where
        by : ((epoch_issued w.issued FirstOne ≡ None) × ((f : Epoch) → Contains w.issued (FirstOne, f) → ⊥)) ⊎ ((f : Epoch) × (epoch_issued w.issued FirstOne ≡ Some f) × Contains w.issued (FirstOne, f)) → ⊥
        by (inl k) = let no : epoch_issued w.issued FirstOne ≡ None = k.0 in cc
        by (inr k) = first-undated k.0 k.2

    unknown-dates : StaysDated r top w n (ends (client_plan r n) c (begun 0 None None) outcome.NoSnapshot)
    unknown-dates =
        subst (λ d. Epochs r top (record w { clients = set w.clients n d; messages = w.messages ++ []; lines = w.lines ++ map (with_epoch w.issued) (listed (ends (client_plan r n) c (begun 0 None None) outcome.NoSnapshot).line) })) (sym (after-none (command_at (client_plan r n) c)))
        (subst (λ ls. Epochs r top (record w { clients = set w.clients n (next_command c); messages = ls; lines = w.lines ++ map (with_epoch w.issued) (listed (ends (client_plan r n) c (begun 0 None None) outcome.NoSnapshot).line) })) (sym (append-nil w.messages))
        (ending-dates r top w n c (next_command c) (ItsLine r top w n c (begun 0 None None) [] outcome.NoSnapshot) E (record {
          here = here;
          its = refl;
          keeps = λ name e k. k;
          silent = λ l y k h q same. none-among n w.messages l silent h (sent-is-talk n l (asks-no_tell l.message y k q) (E.asker l y k h q ∙ ap (λ m. client m) same));
          mine = λ x p same. (let is : p.c ≡ c = one-value (slice_get w.clients n) p.c c (subst (λ k. slice_get w.clients k ≡ Some p.c) same p.here) here in let at : c.present ≡ Some p.a = subst (λ z. z.present ≡ Some p.a) is p.at in let no : ⊥ = cc in absurd no);
          shown = λ e h. absurd (never e h);
          present = λ e h. absurd (never e h);
          whole = λ e h. absurd (first-undated e h);
          sure = λ e h own known. absurd (never e h);
          told = λ e h. absurd (contains-none e h);
          tracker = refl;
          passes = passes;
          passed = inl (omega arith);
          next = λ b at. let no : ⊥ = cc in absurd no;
          unissued = λ b at e h. let no : ⊥ = cc in no;
        })))
      where
        passes : (y : AttemptId) → IsPast c y → IsPast (next_command c) y
        passes y (inl k) = inl (omega (arith, k))
        passes y (inr k) = let at : c.present ≡ Some k.0 = k.1 in let no : ⊥ = cc in absurd no

    begins-at : (ops : List Op) (turns : List ℕ) (snapshot : Option (List ℕ)) (o : Option Epoch) → command_of r.script FirstOne ≡ Some (Run ops turns snapshot) → first_epoch c.known snapshot ≡ o → StaysDated r top w n (begins_at (client_plan r n) c snapshot o)
    begins-at ops turns None o is same = begins-dates (Run ops turns None) None is refl refl
    begins-at ops turns (Some name) None is same = unknown-dates
    begins-at ops turns (Some name) (Some e) is same = begins-dates (Run ops turns (Some name)) (Some e) is (sym same) refl

    command-dates : (d : Command) → (is_numbered d ≡ true → command_of r.script FirstOne ≡ Some d) → StaysDated r top w n (command_moves (client_plan r n) c d)
    command-dates (Run ops turns snapshot) is = begins-at ops turns snapshot (first_epoch c.known snapshot) (is refl) refl
    command-dates (Snap name cont) is = begins-dates (Snap name cont) None (is refl) refl refl
    command-dates (Aggregate cont) is = begins-dates (Aggregate cont) None (is refl) refl refl
    command-dates (Tell client') is =
        unsaid-dates r top w n c (command_moves (client_plan r n) c (Tell client')) refl E (quiet-same r top w n c (next_place c) E here (omega arith) refl refl (λ name e k. k))
        (sends-nothing r top (with_client n (next_place c) w) n (record { to = client client'; message = message.Tell c.tracker }) (λ x k h. h) (λ x h. h) (λ x e h. h) tt refl)
    command-dates (Skip turns) is =
        unsaid-dates r top w n c (command_moves (client_plan r n) c (Skip turns)) refl E (quiet-same r top w n c (record (next_place c) { skip = turns }) E here (omega arith) refl refl (λ name e k. k)) tt

  -- ---- every move

  -- an attempt that a client is at is one of its command
  pub works-at : (c : ClientState) (a : Present) → ClientsStand r w → Epochs r top w → slice_get w.clients n ≡ Some c → c.present ≡ Some a → talk_of n w.messages ≡ [] → WorksDated r top w n c a
  works-at c a S E here at silent =
      let told = S n c here in
      let k = is-at (client_plan r n) c a told.0 at told.1 in
      record {
        here = here ∙ ap (λ z. Some z) (ap (λ o. record c { present = o }) at);
        silent = silent;
        epochs = E;
        order = k.0;
        placed = k.1.at;
        is = command-is r n c a k.0 told.0 told.1 k.1.at k.1.numbered;
      }

  moves-at-dates : (c : ClientState) (o : Option Command) (present : Option Present) → ClientsStand r w → Epochs r top w → slice_get w.clients n ≡ Some c → talk_of n w.messages ≡ [] → command_at (client_plan r n) c ≡ o → c.present ≡ present
      → is_waiting present ≡ false → StaysDated r top w n (moves_at (client_plan r n) c o present)
  moves-at-dates c None present S E here silent at is idle = unsaid-dates r top w n c (rests c) refl E (quiet-same r top w n c c E here (omega arith) refl refl (λ name e k. k)) tt
  moves-at-dates c (Some d) None S E here silent at is idle =
      command-dates c E here is silent d (λ number. command-is r n c (begun 0 None None) d (S n c here).0 (S n c here).1 at number)
  moves-at-dates c (Some d) (Some a) S E here silent at is idle =
      let K = works-at c a S E here is silent in
      attempt-dates c a K idle d (K.is ∙ sym K.placed ∙ at) is

  -- each move of a client that goes on keeps what is said of epochs, where no letter of its conversation is in flight unless it waits
  pub moved-dates : (c : ClientState) → ClientsStand r w → Epochs r top w → slice_get w.clients n ≡ Some c → (waits c ≡ false → talk_of n w.messages ≡ []) → StaysDated r top w n (moved (client_plan r n) c)
  unfolding moved
  moved-dates c S E here silent = by (waits c) refl
    where
      by : (b : Bool) → waits c ≡ b → StaysDated r top w n (if b then rests c else moves_at (client_plan r n) c (command_at (client_plan r n) c) c.present)
      by true e = unsaid-dates r top w n c (rests c) refl E (quiet-same r top w n c c E here (omega arith) refl refl (λ name g k. k)) tt
      by false e = moves-at-dates c (command_at (client_plan r n) c) c.present S E here (silent e) refl refl e
