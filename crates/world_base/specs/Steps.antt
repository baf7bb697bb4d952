-- A client's turn as steps of the world, one for each move.
use Rattle.std.specs.Prelude.{ℕ, ◌≡◌, List, ◌++◌, map, slice_get, Some}
use Rattle.base_types.specs.declared.report.Line.{Line}
use Rattle.base_messages.specs.declared.message.Post.{Post}
use Rattle.world_base.specs.declared.client.ClientState.{ClientState}
use Rattle.world_base.specs.declared.letter.Letter.{Letter}
use Rattle.world_base.specs.declared.world.World.{World}
use Rattle.world_base.specs.ClientTurns.{Move, heard, listed, moved}
use Rattle.world_base.specs.Events.{Rules, client_plan, with_client, with_epoch}
use Rattle.world_base.specs.Letters.{Takes, asked_after, client, letters_of}

-- the world once a client sent these messages and added these lines, and is in this state
abbrev pub after_client : World → ℕ → List Post → List Line → ClientState → World
after_client w n posts lines d =
    with_client n d (record w { messages = w.messages ++ letters_of (client n) posts; asked = asked_after w.asked (letters_of (client n) posts); lines = w.lines ++ map (with_epoch w.issued) lines })

-- after one move of a client
abbrev pub after_move : World → ℕ → Move → World
after_move w n m = after_client w n (listed m.post) (listed m.line) m.state

abbrev pub without : World → List Letter → World
without w rest = record w { messages = rest }

-- what every move of a client keeps, and its hearing of a message, every turn of a client keeps
abbrev pub KeptByMoves : Rules → (World → Type 0) → Type 0
KeptByMoves r P = (w : World) (n : ℕ) (c : ClientState) → slice_get w.clients n ≡ Some c → P w → P (after_move w n (moved (client_plan r n) c))

abbrev pub KeptByHearing : Rules → (World → Type 0) → Type 0
KeptByHearing r P =
    (w : World) (n : ℕ) (c : ClientState) (l : Letter) (rest : List Letter) → slice_get w.clients n ≡ Some c → c.skip ≡ 0 → Takes w.messages l rest → l.to ≡ client n → P w
    → P (after_move (without w rest) n (heard (client_plan r n) c l.message))

-- and the counting of a turn that is skipped
abbrev pub KeptByCounting : (World → Type 0) → Type 0
KeptByCounting P = (w : World) (n k : ℕ) (c : ClientState) → slice_get w.clients n ≡ Some c → P w → P (with_client n (record c { skip = k }) w)
