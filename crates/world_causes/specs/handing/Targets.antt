-- What is asked about an attempt is asked of one of its targets.
use Rattle.std.specs.Prelude.{ℕ, ◌≡◌, ◌⊎◌, ◌≢◌, ◌<◌, ◌&&◌, ◌==◌, not, Bool, true, false, List, [], ◌∷◌, slice_get, Contains, Option, Some, None, refl, if◌then◌else◌}
use Rattle.std.specs.List.{range_with_len}
use Rattle.std.proofs.Common.{zero, suc, sym, ◌∙◌, ap, subst, arith, inl, inr}
use Rattle.base_types.specs.declared.epoch.Epoch.{Epoch}
use Rattle.base_types.specs.declared.id.AttemptId.{AttemptId}
use Rattle.base_types.specs.declared.id.ObjId.{ObjId}
use Rattle.base_types.specs.declared.operation.MinorWrite.{MinorWrite}
use Rattle.base_types.specs.declared.operation.Op.{Op}
use Rattle.base_types.specs.declared.script.Command.{Command}
use Rattle.base_types.specs.declared.script.Command.TheVariants as command
use Rattle.base_types.specs.Operations.{read_path, write_path}
use Rattle.base_types.specs.Placement.{groups, path_leader, path_members, writes_leader, writes_members}
use Rattle.base_messages.specs.declared.message.Message.{Message}
use Rattle.base_messages.specs.declared.message.Message.TheVariants as message
use Rattle.base_messages.specs.declared.message.Post.{Post}
use Rattle.daos_model.specs.Accesses.{asked_member, asked_of_object, asked_targets, attempt_targets, is_asked, minor_writes, op_path, ops_asked, option_targets}
use Rattle.daos_model.specs.BoolLaws.{and_left}
use Rattle.daos_model.specs.Transactions.{attempt_ops, command_of, ops_or_none}
use Rattle.dtx_base.specs.LeaderLaws.{same-is}
use Rattle.dtx_base.specs.Members.{all_targets, has_target, is_other_member, other_members}
use Rattle.model_laws.specs.JoinLaws.{has-range}
use Rattle.model_laws.specs.Members.{Has, contains-from_has, has-filter, has-from_contains, has-from_filter, has-left, has-right, has-map}
use Rattle.model_laws.specs.TargetLaws.{same_number}
use Rattle.world_contents.specs.posts.Members.{bit-of}
use Rattle.world_contents.specs.world_commit.attempts.Attempts.{IsOther, first_entry, leader_of, members_of, writes_of}
use Rattle.world_contents.specs.world_commit.attempts.History.{History}
use Rattle.world_base.specs.declared.request.CommitRequest.{CommitRequest}
use Rattle.world_base.specs.declared.client.ClientPlan.{ClientPlan}
use Rattle.world_base.specs.declared.client.ClientState.{ClientState}
use Rattle.world_base.specs.declared.client.Present.{Present}
use Rattle.world_base.specs.declared.letter.Letter.{Letter}
use Rattle.world_base.specs.declared.world.World.{World}
use Rattle.world_base.specs.ClientTurns.{attempt_id, command_at, group_asked, group_count, member_asked, op_of, question, request_of, waits}
use Rattle.world_base.specs.Events.{Rules, client_plan}
use Rattle.world_base.specs.Letters.{client, letter_of, talk_of, target}
use Rattle.world_causes.specs.causes.Growth.{question-asks}
use Rattle.world_contents.specs.world_letters.epochs.Epochs.{ClientsStand}
use Rattle.world_contents.specs.world_commit.fates.Facts.{Attempts, IsAskedSo}
use Rattle.world_causes.specs.handing.Groups.{ClientsAskWithin, InGroup, IsWithin}
use Rattle.world_causes.specs.handing.Handing.{commit-goes}
use Rattle.world_causes.specs.losses.Losses.{AsksItsTargets, is_asked_of}
use Rattle.world_contents.specs.world_letters.snapshots.Events.{command-is}
use Rattle.world_contents.specs.world_letters.talks.AskLaws.{sent-is-asked}
use Rattle.world_contents.specs.world_letters.talks.Asked.{ARead, ASnapshot, AnAggregation, Asked, ItsWrites}
use Rattle.world_contents.specs.world_letters.waits.ClientLaws.{present-of, question-about}
use Rattle.world_contents.specs.world_letters.waits.Premises.{RequestsAreOfClients}
use Rattle.world_contents.specs.world_letters.waits.Requests.{is_request}
use Rattle.world_contents.specs.world_letters.waits.Waits.{Conversation, IsAsked, IsHeld, IsQuestion, IsReplied, ItsAsk, ItsRequest, TalksSo, asked_of, held_of, is_asked_by}

-- ---- what else holds, of which this makes use

-- a group is one of an object's, which there is, or that of the dkey
abbrev pub IsGroupWithin : Option ObjId → Option (List ℕ) → ℕ → ℕ → Type 0
IsGroupWithin None dkey targets g = ⊥
IsGroupWithin (Some o) None targets g = g < groups o.class targets
IsGroupWithin (Some o) (Some dkey) targets g = Unit {0}

-- an object is there, and has groups
abbrev pub HasGroups : Option ObjId → ℕ → Type 0
HasGroups None targets = ⊥
HasGroups (Some o) targets = 0 < groups o.class targets

-- There are targets; the leader of a write is one of its members; and what is read or written has groups.
pub record PlacesAreRight (r : Rules) : Type 0 where
  pub some : 0 < r.script.targets
  pub led : (x : AttemptId) (m : MinorWrite) → Contains (minor_writes 0 (attempt_ops r.script x)) m → Contains (path_members (write_path m.write) r.script.targets) (path_leader (write_path m.write) r.script.targets)
  pub grouped : (n place : ℕ) (ops : List Op) (turns : List ℕ) (name : Option (List ℕ)) (i : ℕ) (op : Op) → slice_get (client_plan r n).commands place ≡ Some (command.Run ops turns name) → slice_get ops i ≡ Some op → HasGroups (op_path op).obj r.script.targets

-- ---- reads

-- a group that is asked about is one of those
within-groups : (o : Option ObjId) (dkey : Option (List ℕ)) (targets g : ℕ) → HasGroups o targets → (g ≡ 0) ⊎ (g < group_count o dkey targets) → IsGroupWithin o dkey targets g
within-groups None dkey targets g some k = absurd some
within-groups (Some o) (Some dkey) targets g some k = tt
within-groups (Some o) None targets g some (inl zero-is) = subst (λ i. i < groups o.class targets) (sym zero-is) some
within-groups (Some o) None targets g some (inr low) = low

-- who is asked about such a group is among those whom a command asks about the path
asked-among : (o : Option ObjId) (dkey : Option (List ℕ)) (command targets g : ℕ) → IsGroupWithin o dkey targets g → Has (member_asked o command targets (group_asked o dkey targets g)) (asked_of_object o dkey command targets)
asked-among None dkey command targets g h = absurd h
asked-among (Some o) None command targets g h = has-map (asked_member o command targets) (range_with_len 0 (groups o.class targets)) g (has-range 0 (groups o.class targets) g (omega arith) (omega (arith, h)))
asked-among (Some o) (Some dkey) command targets g h = inl refl

ops-ask : (command targets : ℕ) (ops : List Op) (i : ℕ) (op : Op) (t : ℕ) → slice_get ops i ≡ Some op → is_asked op ≡ true → Has t (asked_targets command targets (op_path op)) → Has t (ops_asked command targets ops)
unfolding ops_asked
ops-ask command targets [] i op t found asks among = let no : ⊥ = cc in absurd no
ops-ask command targets (z ∷ ops) zero op t found asks among =
    let same : op ≡ z = cc in
    has-left (if is_asked z then asked_targets command targets (op_path z) else []) (ops_asked command targets ops) t
    (subst (λ (b : Bool). Has t (if b then asked_targets command targets (op_path z) else [])) (sym (ap is_asked (sym same) ∙ asks)) (subst (λ y. Has t (asked_targets command targets (op_path y))) same among))
ops-ask command targets (z ∷ ops) (suc i) op t found asks among = has-right (if is_asked z then asked_targets command targets (op_path z) else []) (ops_asked command targets ops) t (ops-ask command targets ops i op t found asks among)

-- ---- members

-- a member of an attempt's writes is one of its targets
pub member-is_target : (r : Rules) (x : AttemptId) (t : ℕ) → Has t (writes_members (writes_of r x) r.script.targets) → Has t (attempt_targets r.script x)
unfolding minor_writes writes_members
member-is_target r x t i = by (command_of r.script x) i
  where
    by : (o : Option Command) → Has t (writes_members (minor_writes 0 (ops_or_none o)) r.script.targets) → Has t (option_targets x.command r.script.targets o)
    by None i = absurd i
    by (Some (command.Run ops turns snapshot)) i = has-right (ops_asked x.command r.script.targets ops) (writes_members (minor_writes 0 ops) r.script.targets) t i
    by (Some (command.Snap name cont)) i = absurd i
    by (Some (command.Aggregate cont)) i = absurd i
    by (Some (command.Tell n)) i = absurd i
    by (Some (command.Skip turns)) i = absurd i

-- the leader of writes is one of their members
leader-among : (r : Rules) (x : AttemptId) (ws : List MinorWrite) → PlacesAreRight r → writes_of r x ≡ ws → ws ≢ [] → Has (writes_leader ws r.script.targets) (writes_members ws r.script.targets)
unfolding writes_leader writes_members
leader-among r x [] places is some = absurd (some refl)
leader-among r x (m ∷ ws) places is some =
    has-left (path_members (write_path m.write) r.script.targets) (writes_members ws r.script.targets) (path_leader (write_path m.write) r.script.targets)
    (has-from_contains (path_members (write_path m.write) r.script.targets) (path_leader (write_path m.write) r.script.targets) (places.led x m (contains-from_has (writes_of r x) m (subst (Has m) (sym is) (inl refl)))))

pub leader-is_target : (r : Rules) (x : AttemptId) → PlacesAreRight r → writes_of r x ≢ [] → Contains (attempt_targets r.script x) (leader_of r x)
leader-is_target r x places some = contains-from_has (attempt_targets r.script x) (leader_of r x) (member-is_target r x (leader_of r x) (leader-among r x (writes_of r x) places refl some))

-- and so is each other member
pub other-is_target : (r : Rules) (x : AttemptId) (m : ℕ) → IsOther r x m → Contains (attempt_targets r.script x) m
unfolding other_members is_other_member
other-is_target r x m i =
    let z = has-from_filter (is_other_member (first_entry r x (record { 0 = 0 }))) all_targets m i in
    contains-from_has (attempt_targets r.script x) m (member-is_target r x m (bit-of (writes_members (writes_of r x) r.script.targets) m (and_left (has_target (members_of r x) m) (not (m == leader_of r x)) z.1)))

-- ---- what a client asked

-- what has no answer of a client is what it asked
pub record IsUnanswered (r : Rules) (w : World) (l : Letter) : Type 0 where
  pub n : ℕ
  pub c : ClientState
  pub here : slice_get w.clients n ≡ Some c
  pub a : Present
  pub at : c.present ≡ Some a
  pub q : Post
  pub question : IsQuestion (client_plan r n) c q
  pub is : l ≡ letter_of (client n) q

pub unanswered-by : (r : Rules) (w : World) → Conversation r w → RequestsAreOfClients w → (l : Letter) → Has l w.asked → is_request l.message ≡ true → IsUnanswered r w l
unanswered-by r w k from l i is = by (slice_get w.clients n) refl
  where
    n : ℕ
    n = l.from.number

    mine : Has l (asked_of n w)
    mine = has-filter (is_asked_by n) w.asked l i (ap (λ b. b && (n == n)) ((from.asked l i).request is) ∙ same_number n)

    only : (c : ClientState) → slice_get w.clients n ≡ Some c → waits c ≡ true → (q : Post) → IsQuestion (client_plan r n) c q → asked_of n w ≡ letter_of (client n) q ∷ [] → IsUnanswered r w l
    only c here now q question one =
        let p = present-of c now in
        record { n = n; c = c; here = here; a = p.a; at = p.at; q = q; question = question; is = first (subst (Has l) one mine) }
      where
        first : Has l (letter_of (client n) q ∷ []) → l ≡ letter_of (client n) q
        first (inl same) = same
        first (inr none) = absurd none

    waiting : (c : ClientState) → slice_get w.clients n ≡ Some c → (b : Bool) → waits c ≡ b → TalksSo (client_plan r n) n c (talk_of n w.messages) (held_of n w) (asked_of n w) b → IsUnanswered r w l
    waiting c here false now q = absurd (subst (Has l) q.none_asked mine)
    waiting c here true now (IsAsked q question one none free) = only c here now q question free
    waiting c here true now (IsHeld q x question holds none one free) = only c here now q question free
    waiting c here true now (IsReplied q m question got one none free) = absurd (subst (Has l) free mine)

    by : (o : Option ClientState) → slice_get w.clients n ≡ o → IsUnanswered r w l
    by None e = absurd (subst (Has l) (k.nobody n e).none_asked mine)
    by (Some c) e = waiting c e (waits c) refl (k.talks n c e)

-- it is asked of a target of its attempt
module _ (r : Rules) (w : World) (stand : ClientsStand r w) (places : PlacesAreRight r) (within : ClientsAskWithin r w) (n : ℕ) (c : ClientState) (here : slice_get w.clients n ≡ Some c) (a : Present) (at : c.present ≡ Some a) where
  abbrev p : ClientPlan
  p = client_plan r n

  abbrev Targets : ℕ → Type 0
  Targets t = Contains (attempt_targets r.script (attempt_id p c a)) t

  first-target : (d : Command) → command_of r.script (attempt_id p c a) ≡ Some d → Has 0 (option_targets c.command r.script.targets (Some d)) → Targets 0
  first-target d is i = contains-from_has (attempt_targets r.script (attempt_id p c a)) 0 (subst (λ o. Has 0 (option_targets c.command r.script.targets o)) (sym is) i)

  asked-within : (op : Op) → op_of (command_at p c) a.op ≡ Some op → InGroup p c a → (a.group ≡ 0) ⊎ (a.group < group_count (op_path op).obj (op_path op).dkey r.script.targets)
  asked-within op found (inl first) = inl first
  asked-within op found (inr low) = inr (low op found)

  asked-target : (k : Epoch) (q : Post) → Asked p k c a q → Targets q.to.number
  asked-target k q (ARead ops turns snapshot op rd command-at found asks says) =
      let path = read_path rd in
      let reads = question-asks a.stage op rd asks in
      let here-op : op_of (command_at p c) a.op ≡ Some op = ap (λ o. op_of o a.op) command-at ∙ found in
      let own : IsGroupWithin (op_path op).obj (op_path op).dkey r.script.targets a.group =
      within-groups (op_path op).obj (op_path op).dkey r.script.targets a.group (places.grouped n c.place ops turns snapshot a.op op command-at found) (asked-within op here-op (subst (IsWithin p c) at (within n c here))) in
      let group = asked-among path.obj path.dkey c.command r.script.targets a.group (subst (λ z. IsGroupWithin z.obj z.dkey r.script.targets a.group) reads.1 own) in
      let asked : Has q.to.number (asked_targets c.command r.script.targets (op_path op)) =
      subst (λ z. Has q.to.number (asked_targets c.command r.script.targets z)) (sym reads.1) (subst (λ t. Has t (asked_targets c.command r.script.targets path)) (sym (ap (λ z. z.to.number) says)) group) in
      let s = stand n c here in
      contains-from_has (attempt_targets r.script (attempt_id p c a)) q.to.number
      (subst (λ o. Has q.to.number (option_targets c.command r.script.targets o)) (sym (command-is r n c a (command.Run ops turns snapshot) s.0 s.1 command-at refl))
      (has-left (ops_asked c.command r.script.targets ops) (writes_members (minor_writes 0 ops) r.script.targets) q.to.number (ops-ask c.command r.script.targets ops a.op op q.to.number found reads.0 asked)))
  asked-target k q (ItsWrites ops turns snapshot m ws command-at last all says) =
      let f : CommitRequest = record { attempt = attempt_id p c a; ep = a.epoch; first = a.first; tracker = k; writes = m ∷ ws } in
      let g = commit-goes r w stand n c here a at k q f (ItsWrites ops turns snapshot m ws command-at last all says) (ap (λ z. z.message) says) in
      subst Targets (sym (ap (λ z. z.number) g.to)) (leader-is_target r (attempt_id p c a) places (λ none. g.some (g.writes ∙ none)))
  asked-target k q (ASnapshot name cont command-at says) =
      subst Targets (sym (ap (λ z. z.to.number) says))
      (let s = stand n c here in first-target (command.Snap name cont) (command-is r n c a (command.Snap name cont) s.0 s.1 command-at refl) (has-range 0 r.script.targets 0 (omega arith) (let e = places.some in omega (arith, e))))
  asked-target k q (AnAggregation cont command-at says) =
      subst Targets (sym (ap (λ z. z.to.number) says))
      (let s = stand n c here in first-target (command.Aggregate cont) (command-is r n c a (command.Aggregate cont) s.0 s.1 command-at refl) (has-range 0 r.script.targets 0 (omega arith) (let e = places.some in omega (arith, e))))

  pub question-target : (q : Post) → IsQuestion p c q → Targets q.to.number
  question-target q (ItsRequest k low sent) = asked-target k q (sent-is-asked p k c a q at sent)
  question-target q (ItsAsk k s f low sent commit says) = subst Targets (sym (ap (λ z. z.to.number) says)) (asked-target k s (sent-is-asked p k c a s at sent))

-- ---- all

asked-request : (x : AttemptId) (m : Message) → is_request m ≡ true → is_asked_of x m ≡ true → request_of m ≡ Some x
asked-request x (message.Fetch y op group e first tracker rd snapshot) asks own = ap (λ z. Some z) (same-is y x own)
asked-request x (message.Commit y e first tracker ws) asks own = ap (λ z. Some z) (same-is y x own)
asked-request x (message.Ask y) asks own = ap (λ z. Some z) (same-is y x own)
asked-request x (message.Snap y cont name tracker) asks own = ap (λ z. Some z) (same-is y x own)
asked-request x (message.Prune y cont (Some tracker) None) asks own = ap (λ z. Some z) (same-is y x own)
asked-request x m asks own = let no : ⊥ = cc in absurd no

pub asks-its_targets : (r : Rules) (h : History) (w : World) → Conversation r w → RequestsAreOfClients w → ClientsStand r w → ClientsAskWithin r w → Attempts r h w → PlacesAreRight r → AsksItsTargets r w
asks-its_targets r h w k from stand within attempts places q x i own present = by q.message refl own
  where
    -- a client's
    of-client : is_request q.message ≡ true → is_asked_of x q.message ≡ true → Contains (attempt_targets r.script x) q.to.number
    of-client asks its =
        let z = unanswered-by r w k from q i asks in
        let about = question-about (client_plan r z.n) z.c z.a z.q z.at z.question in
        let same : Some (attempt_id (client_plan r z.n) z.c z.a) ≡ Some x = sym about.of_attempt ∙ ap (λ l. request_of l.message) (sym z.is) ∙ asked-request x q.message asks its in
        let it : attempt_id (client_plan r z.n) z.c z.a ≡ x = cc in
        subst (λ y. Contains (attempt_targets r.script y) q.to.number) it
        (subst (Contains (attempt_targets r.script (attempt_id (client_plan r z.n) z.c z.a))) (sym (ap (λ l. l.to.number) z.is)) (question-target r w stand places within z.n z.c z.here z.a z.at z.q z.question))

    -- a leader's
    of-leader : (y : AttemptId) (m : ℕ) → y ≡ x → IsOther r y m → q.to ≡ target m → Contains (attempt_targets r.script x) q.to.number
    of-leader y m same other to = subst (Contains (attempt_targets r.script x)) (sym (ap (λ a. a.number) to)) (other-is_target r x m (subst (λ z. IsOther r z m) same other))

    so : (m : Message) → q.message ≡ m → IsAskedSo r h w q.from q.to m
    so m is = subst (IsAskedSo r h w q.from q.to) is (attempts.on.asked q i)

    by : (m : Message) → q.message ≡ m → is_asked_of x m ≡ true → Contains (attempt_targets r.script x) q.to.number
    by (message.Prepare e first ws inc) is its = let z = so (message.Prepare e first ws inc) is in of-leader e.attempt z.way.member (same-is e.attempt x its) z.way.other z.way.receiver
    by (message.Status y inc) is its = let z = so (message.Status y inc) is in of-leader y z.way.member (same-is y x its) z.way.other z.way.receiver
    by (message.Fetch y op group e first tracker rd snapshot) is its = of-client (ap is_request is) own
    by (message.Commit y e first tracker ws) is its = of-client (ap is_request is) own
    by (message.Ask y) is its = of-client (ap is_request is) own
    by (message.Snap y cont name tracker) is its = of-client (ap is_request is) own
    by (message.Prune y cont (Some tracker) None) is its = of-client (ap is_request is) own
    by m is its = let no : ⊥ = cc in absurd no
