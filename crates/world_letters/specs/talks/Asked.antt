-- What a client asks of a target, and what a move of a client is.
use Rattle.std.specs.Prelude.{ℕ, ◌≡◌, true, false, List, ◌∷◌, slice_get, is_some, Option, Some, None}
use Rattle.base_types.specs.declared.epoch.Epoch.{Epoch}
use Rattle.base_types.specs.declared.id.ContId.{ContId}
use Rattle.base_types.specs.declared.operation.MinorWrite.{MinorWrite}
use Rattle.base_types.specs.declared.operation.Op.{Op}
use Rattle.base_types.specs.declared.operation.Read.{Read}
use Rattle.base_types.specs.declared.path.Path.{Path}
use Rattle.base_types.specs.declared.script.Command.TheVariants as command
use Rattle.base_types.specs.Operations.{read_path}
use Rattle.base_types.specs.Placement.{writes_leader}
use Rattle.base_messages.specs.declared.message.Message.{Message}
use Rattle.base_messages.specs.declared.message.Message.TheVariants as message
use Rattle.base_messages.specs.declared.message.Post.{Post}
use Rattle.daos_model.specs.Accesses.{minor_writes}
use Rattle.world_base.specs.declared.client.ClientPlan.{ClientPlan}
use Rattle.world_base.specs.declared.client.ClientState.{ClientState}
use Rattle.world_base.specs.declared.client.Present.{Present}
use Rattle.world_base.specs.declared.request.CommitRequest.{CommitRequest}
use Rattle.world_base.specs.declared.request.FetchRequest.{FetchRequest}
use Rattle.world_base.specs.ClientTurns.{Move, at_present, attempt_id, command_at, group_asked, member_asked, question, waits}
use Rattle.world_base.specs.Letters.{client, target}

-- the group of a read's path that is asked about next
abbrev pub group_of_read : ClientPlan → Present → Path → ℕ
group_of_read p a path = group_asked path.obj path.dkey p.targets a.group

-- what a client asks when its tracker is this one: the read or the condition of the operation that its attempt is at, of the
-- next group; the attempt's writes, behind the last operation; a snapshot; or an aggregation
pub data Asked (p : ClientPlan) (k : Epoch) (c : ClientState) (a : Present) (q : Post) : Type 0 where
  ARead : (ops : List Op) (turns : List ℕ) (snapshot : Option (List ℕ)) (op : Op) (r : Read) → command_at p c ≡ Some (command.Run ops turns snapshot)
      → slice_get ops a.op ≡ Some op → question a.stage op ≡ Some r
      → q ≡ record {
        to = target (member_asked (read_path r).obj c.command p.targets (group_of_read p a (read_path r)));
        message = message.Fetch (attempt_id p c a) a.op (group_of_read p a (read_path r)) a.epoch a.first k r (is_some snapshot);
      }
      → Asked p k c a q
  ItsWrites : (ops : List Op) (turns : List ℕ) (snapshot : Option (List ℕ)) (w : MinorWrite) (ws : List MinorWrite) → command_at p c ≡ Some (command.Run ops turns snapshot)
      → slice_get ops a.op ≡ None → minor_writes 0 ops ≡ w ∷ ws
      → q ≡ record { to = target (writes_leader (w ∷ ws) p.targets); message = message.Commit (attempt_id p c a) a.epoch a.first k (w ∷ ws) }
      → Asked p k c a q
  ASnapshot : (name : List ℕ) (cont : ContId) → command_at p c ≡ Some (command.Snap name cont)
      → q ≡ record { to = target 0; message = message.Snap (attempt_id p c a) cont name k } → Asked p k c a q
  AnAggregation : (cont : ContId) → command_at p c ≡ Some (command.Aggregate cont)
      → q ≡ record { to = target 0; message = message.Prune (attempt_id p c a) cont (Some k) None } → Asked p k c a q

-- a client has asked for this read
pub record AsksRead (p : ClientPlan) (k : Epoch) (c : ClientState) (a : Present) (q : FetchRequest) : Type 0 where
  pub attempt : q.attempt ≡ attempt_id p c a
  pub op : q.op ≡ a.op
  pub group : q.group ≡ group_of_read p a (read_path q.read)
  pub ep : q.ep ≡ a.epoch
  pub first : q.first ≡ a.first
  pub tracker : q.tracker ≡ k
  pub ops : List Op
  pub turns : List ℕ
  pub name : Option (List ℕ)
  pub o : Op
  pub at : command_at p c ≡ Some (command.Run ops turns name)
  pub here : slice_get ops a.op ≡ Some o
  pub asked : question a.stage o ≡ Some q.read
  pub snapshot : q.snapshot ≡ is_some name

-- a client has handed over these writes
pub record AsksCommit (p : ClientPlan) (k : Epoch) (c : ClientState) (a : Present) (q : CommitRequest) : Type 0 where
  pub attempt : q.attempt ≡ attempt_id p c a
  pub ep : q.ep ≡ a.epoch
  pub first : q.first ≡ a.first
  pub tracker : q.tracker ≡ k
  pub ops : List Op
  pub turns : List ℕ
  pub name : Option (List ℕ)
  pub at : command_at p c ≡ Some (command.Run ops turns name)
  pub last : slice_get ops a.op ≡ None
  pub writes : q.writes ≡ minor_writes 0 ops

abbrev pub commit_of : CommitRequest → Message
commit_of q = message.Commit q.attempt q.ep q.first q.tracker q.writes

-- what a client sends that tells another its tracker
abbrev pub tells_tracker : ClientState → ℕ → Post
tells_tracker c n = record { to = client n; message = message.Tell c.tracker }

-- What a move of a client is that doesn't wait: it sends nothing, and doesn't wait; between attempts it tells another client
-- its tracker, and doesn't wait; or it asks what it has to ask, and waits.
pub data IsMove (p : ClientPlan) (c : ClientState) (m : Move) : Type 0 where
  Silent : waits m.state ≡ false → m.post ≡ None → IsMove p c m
  Telling : (n : ℕ) → c.present ≡ None → waits m.state ≡ false → m.post ≡ Some (tells_tracker c n) → IsMove p c m
  Asking : (a : Present) (q : Post) → c.present ≡ Some a → Asked p c.tracker c a q → m.post ≡ Some q → m.state ≡ at_present (record a { waits = true }) c → IsMove p c m
