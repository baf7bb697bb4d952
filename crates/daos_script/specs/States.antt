-- What a line adds to a script so far has keys, and so has the script in the end.
use Rattle.std.specs.Prelude.{ℕ, ◌+◌, Bool, true, false, ◌==◌, is_none, is_some, List, [], ◌∷◌, length, ◌≡◌, refl, All, Option, Some, None, Result, Ok, Err, if◌then◌else◌}
use Rattle.std.specs.List.{list_all}
use Rattle.std.proofs.Common.{subst}
use Rattle.std.proofs.lemmas.List.Elements.{All-append, All-cons, All-head, All-nil, All-push, All-same, All-tail, All-weaker}
use Rattle.base_types.specs.Keys.{IsKey}
use Rattle.base_types.specs.Scripts.{SnapName, all_snaps, snap_of, snaps_of}
use Rattle.base_types.specs.declared.fault.Why.TheVariants.{BadBlock, NotAscii, TooLong}
use Rattle.base_types.specs.declared.id.ContId.{ContId}
use Rattle.base_types.specs.declared.operation.Op.{Op}
use Rattle.base_types.specs.declared.script.Command.{Command}
use Rattle.base_types.specs.declared.script.Command.TheVariants as command
use Rattle.base_types.specs.declared.script.ContDecl.{ContDecl}
use Rattle.base_types.specs.declared.script.ObjDecl.{ObjDecl}
use Rattle.base_types.specs.declared.script.OldDecl.{OldDecl}
use Rattle.base_types.specs.declared.script.Script.{Script}
use Rattle.base_types.specs.declared.script.StopDecl.{StopDecl}
use Rattle.base_text.specs.Parts.{parts_of}
use Rattle.base_text.specs.Steps.{steps}
use Rattle.daos_script.specs.declared.reading.Reading.{Reading}
use Rattle.daos_script.specs.Grammar.{IsScriptText}
use Rattle.daos_script.specs.Located.{located}
use Rattle.daos_script.specs.Puts.{add_line, nothing_read, put_client, put_cont, put_do_at, put_drop, put_obj, put_old, put_snap, put_step, put_stop, put_tell}
use Rattle.daos_script.specs.Readings.{bad_tell, ended, ended_lists, is_passed, is_shown, long_line, open_line, read_line, said, script_of, text_lines, unless_bad, unless_open, with_line}
use Rattle.script_lines.specs.declared.line.At.{At}
use Rattle.script_lines.specs.declared.line.Line.{Line}
use Rattle.script_lines.specs.declared.line.Line.TheVariants as line
use Rattle.script_lines.specs.Lines.{line_at}
use Rattle.daos_script.specs.declared.client.Client.{Client}
use Rattle.daos_script.specs.declared.lists.Lists.{Lists}
use Rattle.daos_script.specs.declared.present.Present.{Present}
use Rattle.daos_script.specs.declared.present.Step.{Step}
use Rattle.daos_script.specs.declared.present.Step.TheVariants as step
use Rattle.daos_script.specs.declared.tx.Tx.{Tx}
use Rattle.daos_script.specs.Clients.{client_command, may_add, client_end, client_op, client_skip, client_tx, command_in, command_of, ended_tx, lone, op_in, skip_in, tx_in, tx_op}
use Rattle.daos_script.specs.Lists.{all_lists, lists_of, next_list, one_step, with_tell}
use Rattle.daos_script.specs.Steps.{begun, counted, step_command, step_end, step_op, step_skip, step_tx, tx_of, with_step, within_of}
use Rattle.script_words.specs.declared.decls.Decls.{Decls}
use Rattle.script_words.specs.Decls.{room, with_cont, with_drop, with_obj, with_old, with_own, with_stop}
use Rattle.daos_script.specs.Lines.{LineHasKeys, line-at}
use Rattle.daos_script.specs.Reading.{OnRead, on-bind, on-then, on-unless}
use Rattle.script_traits.specs.Keyed.{CommandHasKeys, OpHasKeys, ScriptHasKeys}

-- ---- what has keys

-- the name of a snapshot
abbrev pub SnapHasKey : SnapName → Type 0
SnapHasKey k = IsKey k.0

-- the operations of a command, and the name of the snapshot that it makes, if it makes one
pub record IsKeyed (c : Command) : Type 0 where
  pub ops : CommandHasKeys c
  pub snap : All SnapHasKey (snap_of c)

-- a client's commands so far, and the operations of its transaction
abbrev pub TxHasKeys : Tx → Type 0
TxHasKeys t = All OpHasKeys t.ops

abbrev pub TxOrNoneHasKeys : Option Tx → Type 0
TxOrNoneHasKeys None = Unit {0}
TxOrNoneHasKeys (Some t) = TxHasKeys t

pub record ClientHasKeys (c : Client) : Type 0 where
  pub list : All IsKeyed c.list
  pub tx : TxOrNoneHasKeys c.tx

abbrev pub ClientOrNoneHasKeys : Option Client → Type 0
ClientOrNoneHasKeys None = Unit {0}
ClientOrNoneHasKeys (Some c) = ClientHasKeys c

abbrev pub PresentHasKeys : Present → Type 0
PresentHasKeys p = ClientOrNoneHasKeys p.client

-- the lists of all clients
abbrev pub ListHasKeys : List Command → Type 0
ListHasKeys list = All IsKeyed list

pub record ListsHaveKeys (l : Lists) : Type 0 where
  pub whole : All ListHasKeys l.whole
  pub present : PresentHasKeys l.present

-- what is declared
pub record DeclsHaveKeys (d : Decls) : Type 0 where
  pub conts : All (λ (c : ContDecl). IsKey c.name) d.conts
  pub objs : All (λ (o : ObjDecl). IsKey o.name) d.objs

-- the script so far
pub record ReadingHasKeys (r : Reading) : Type 0 where
  pub decls : DeclsHaveKeys r.decls
  pub lists : ListsHaveKeys r.lists

-- what a line adds to a client's list
abbrev pub StepHasKeys : Step → Type 0
StepHasKeys (step.Do op) = OpHasKeys op
StepHasKeys (step.Number command) = IsKeyed command
StepHasKeys (step.Begin line at) = Unit {0}
StepHasKeys step.End = Unit {0}
StepHasKeys (step.Skip turns) = Unit {0}

-- ---- a client

makes-none : (c : Command) → CommandHasKeys c → snap_of c ≡ [] → IsKeyed c
makes-none c k none = record { ops = k; snap = All-same SnapHasKey (snap_of c) [] none (All-nil SnapHasKey) }

lone-keys : (snapshot : Option (List ℕ)) (op : Op) → OpHasKeys op → IsKeyed (lone snapshot op)
lone-keys snapshot op k = makes-none (lone snapshot op) (All-cons OpHasKeys op [] k (All-nil OpHasKeys)) refl

snap-keys : (name : List ℕ) (cont : ContId) → IsKey name → IsKeyed (command.Snap name cont)
snap-keys name cont k = record { ops = All-nil OpHasKeys; snap = All-cons SnapHasKey (name, cont) [] k (All-nil SnapHasKey) }

tx-op : (t : Tx) (op : Op) → TxHasKeys t → OpHasKeys op → OnRead TxHasKeys (tx_op t op)
unfolding tx_op
tx-op t op k h = on-then TxHasKeys (may_add t op) _ (λ fits. All-push OpHasKeys t.ops op k h)

op-in : (c : Client) (o : Option Tx) (op : Op) → ClientHasKeys c → TxOrNoneHasKeys o → OpHasKeys op → OnRead ClientHasKeys (op_in c o op)
op-in c None op k t h = record { list = All-push IsKeyed c.list (lone None op) k.list (lone-keys None op h); tx = k.tx }
op-in c (Some u) op k t h = on-bind TxHasKeys ClientHasKeys (tx_op u op) (λ v. Ok (record c { tx = Some v })) (tx-op u op t h) (λ v m. record { list = k.list; tx = m })

client-op : (c : Client) (op : Op) → ClientHasKeys c → OpHasKeys op → OnRead ClientHasKeys (client_op c op)
unfolding client_op
client-op c op k h = op-in c c.tx op k k.tx h

command-in : (c : Client) (o : Option Tx) (d : Command) → ClientHasKeys c → IsKeyed d → OnRead ClientHasKeys (command_in c o d)
command-in c None d k h = record { list = All-push IsKeyed c.list d k.list h; tx = k.tx }
command-in c (Some t) d k h = tt

client-command : (c : Client) (d : Command) → ClientHasKeys c → IsKeyed d → OnRead ClientHasKeys (client_command c d)
unfolding client_command
client-command c d k h = command-in c c.tx d k h

tx-in : (at : ℕ) (c : Client) (o : Option Tx) (snapshot : Option At) → ClientHasKeys c → OnRead ClientHasKeys (tx_in at c o snapshot)
tx-in at c None snapshot k = record { list = k.list; tx = All-nil OpHasKeys }
tx-in at c (Some t) snapshot k = tt

client-tx : (at : ℕ) (c : Client) (snapshot : Option At) → ClientHasKeys c → OnRead ClientHasKeys (client_tx at c snapshot)
unfolding client_tx
client-tx at c snapshot k = tx-in at c c.tx snapshot k

ended-tx : (o : Option Tx) → TxOrNoneHasKeys o → OnRead TxHasKeys (ended_tx o)
ended-tx None k = tt
ended-tx (Some t) k = on-unless TxHasKeys (length t.ops == 0) BadBlock (Ok t) k

client-end : (c : Client) → ClientHasKeys c → OnRead ClientHasKeys (client_end c)
unfolding client_end
client-end c k = on-bind TxHasKeys ClientHasKeys (ended_tx c.tx) _ (ended-tx c.tx k.tx) (λ t m. record { list = All-push IsKeyed c.list (command_of t) k.list (makes-none (command_of t) m refl); tx = tt })

skip-in : (c : Client) (o : Option Tx) (n : ℕ) → ClientHasKeys c → TxOrNoneHasKeys o → ClientHasKeys (skip_in c o n)
skip-in c None n k t = record { list = All-push IsKeyed c.list (command.Skip n) k.list (makes-none (command.Skip n) (All-nil OpHasKeys) refl); tx = k.tx }
skip-in c (Some u) n k t = record { list = k.list; tx = t }

client-skip : (c : Client) (n : ℕ) → ClientHasKeys c → ClientHasKeys (client_skip c n)
unfolding client_skip
client-skip c n k = skip-in c c.tx n k k.tx

-- ---- the present client

begun-keys : (o : Option Client) → ClientOrNoneHasKeys o → OnRead ClientHasKeys (begun o)
begun-keys None k = tt
begun-keys (Some c) k = k

step-op : (p : Present) (op : Op) → PresentHasKeys p → OpHasKeys op → OnRead PresentHasKeys (step_op p op)
unfolding step_op
step-op p op k h =
    on-bind ClientHasKeys PresentHasKeys (begun p.client) _ (begun-keys p.client k) (λ c m. on-bind ClientHasKeys PresentHasKeys (client_op c op) _ (client-op c op m h) (λ d l. on-then PresentHasKeys (counted (is_none c.tx) p.commands) _ (λ n. l)))

step-command : (p : Present) (e : Command) → PresentHasKeys p → IsKeyed e → OnRead PresentHasKeys (step_command p e)
unfolding step_command
step-command p e k h =
    on-bind ClientHasKeys PresentHasKeys (begun p.client) _ (begun-keys p.client k) (λ c m. on-bind ClientHasKeys PresentHasKeys (client_command c e) _ (client-command c e m h) (λ d l. on-then PresentHasKeys (counted true p.commands) _ (λ n. l)))

step-tx : (p : Present) (at : ℕ) (snapshot : Option At) → PresentHasKeys p → OnRead PresentHasKeys (step_tx p at snapshot)
unfolding step_tx
step-tx p at snapshot k =
    on-bind ClientHasKeys PresentHasKeys (begun p.client) _ (begun-keys p.client k) (λ c m. on-bind ClientHasKeys PresentHasKeys (client_tx at c snapshot) _ (client-tx at c snapshot m) (λ d l. on-then PresentHasKeys (counted true p.commands) _ (λ n. l)))

step-end : (p : Present) → PresentHasKeys p → OnRead PresentHasKeys (step_end p)
unfolding step_end
step-end p k = on-bind ClientHasKeys PresentHasKeys (begun p.client) _ (begun-keys p.client k) (λ c m. on-bind ClientHasKeys PresentHasKeys (client_end c) _ (client-end c m) (λ d l. l))

step-skip : (p : Present) (n : ℕ) → PresentHasKeys p → OnRead PresentHasKeys (step_skip p n)
unfolding step_skip
step-skip p n k = on-bind ClientHasKeys PresentHasKeys (begun p.client) _ (begun-keys p.client k) (λ c m. client-skip c n m)

step-keys : (p : Present) (s : Step) → PresentHasKeys p → StepHasKeys s → OnRead PresentHasKeys (with_step p s)
step-keys p (step.Do op) k h = step-op p op k h
step-keys p (step.Number command) k h = step-command p command k h
step-keys p (step.Begin line at) k h = step-tx p line at k
step-keys p step.End k h = step-end p k
step-keys p (step.Skip turns) k h = step-skip p turns k

-- ---- all clients

lists-keys : (whole : List (List Command)) (o : Option Client) → All ListHasKeys whole → ClientOrNoneHasKeys o → All ListHasKeys (lists_of whole o)
lists-keys whole None k h = k
lists-keys whole (Some c) k h = All-push ListHasKeys whole c.list k h.list

next-list : (l : Lists) → ListsHaveKeys l → OnRead ListsHaveKeys (next_list l)
unfolding next_list
next-list l k =
    on-unless ListsHaveKeys (is_some (tx_of l.present.client)) BadBlock _ (on-then ListsHaveKeys (room 64 (length (all_lists l))) _ (λ fits. record { whole = lists-keys l.whole l.present.client k.whole k.present; present = record { list = All-nil IsKeyed; tx = tt } }))

one-step : (l : Lists) (s : Step) → ListsHaveKeys l → StepHasKeys s → OnRead ListsHaveKeys (one_step l s)
unfolding one_step
one-step l s k h = on-bind PresentHasKeys ListsHaveKeys (with_step l.present s) _ (step-keys l.present s k.present h) (λ p m. record { whole = k.whole; present = m })

with-tell : (at : ℕ) (l : Lists) (to : ℕ) → ListsHaveKeys l → OnRead ListsHaveKeys (with_tell at l to)
unfolding with_tell
with-tell at l to k =
    on-bind ClientHasKeys ListsHaveKeys (begun l.present.client) _ (begun-keys l.present.client k.present)
    (λ c m. on-bind ClientHasKeys ListsHaveKeys (client_command c (command.Tell to)) _ (client-command c (command.Tell to) m (makes-none (command.Tell to) (All-nil OpHasKeys) refl)) (λ d n. record { whole = k.whole; present = n }))

-- ---- a line

put-cont : (r : Reading) (d : ContDecl) → ReadingHasKeys r → IsKey d.name → OnRead ReadingHasKeys (put_cont r d)
unfolding put_cont with_cont
put-cont r d k h =
    on-unless ReadingHasKeys (is_some r.lists.present.client) BadBlock _
    (on-bind DeclsHaveKeys ReadingHasKeys (with_cont r.decls d) _ (on-then DeclsHaveKeys (room 256 (length r.decls.conts)) _ (λ fits. record { conts = All-push (λ (c : ContDecl). IsKey c.name) r.decls.conts d k.decls.conts h; objs = k.decls.objs })) (λ decls m. record { decls = m; lists = k.lists }))

put-obj : (r : Reading) (d : ObjDecl) → ReadingHasKeys r → IsKey d.name → OnRead ReadingHasKeys (put_obj r d)
unfolding put_obj with_obj
put-obj r d k h =
    on-unless ReadingHasKeys (is_some r.lists.present.client) BadBlock _
    (on-bind DeclsHaveKeys ReadingHasKeys (with_obj r.decls d) _ (on-then DeclsHaveKeys (room 4096 (length r.decls.objs)) _ (λ fits. record { conts = k.decls.conts; objs = All-push (λ (o : ObjDecl). IsKey o.name) r.decls.objs d k.decls.objs h })) (λ decls m. record { decls = m; lists = k.lists }))

put-old : (r : Reading) (d : OldDecl) → ReadingHasKeys r → OnRead ReadingHasKeys (put_old r d)
unfolding put_old with_old
put-old r d k =
    on-unless ReadingHasKeys (is_some r.lists.present.client) BadBlock _
    (on-bind DeclsHaveKeys ReadingHasKeys (with_old r.decls d) _ (on-then DeclsHaveKeys (room 256 (length r.decls.olds)) _ (λ fits. record { conts = k.decls.conts; objs = k.decls.objs })) (λ decls m. record { decls = m; lists = k.lists }))

put-drop : (r : Reading) (name : List ℕ) → ReadingHasKeys r → OnRead ReadingHasKeys (put_drop r name)
unfolding put_drop
put-drop r name k =
    on-unless ReadingHasKeys (is_some r.lists.present.client) BadBlock (Ok (record r { decls = with_drop r.decls name }))
    (record { decls = record { conts = k.decls.conts; objs = k.decls.objs }; lists = k.lists })

put-stop : (r : Reading) (d : StopDecl) → ReadingHasKeys r → OnRead ReadingHasKeys (put_stop r d)
unfolding put_stop with_stop
put-stop r d k =
    on-unless ReadingHasKeys (is_some r.lists.present.client) BadBlock _
    (on-bind DeclsHaveKeys ReadingHasKeys (with_stop r.decls d) _ (on-then DeclsHaveKeys (room 64 (length r.decls.stops)) _ (λ fits. record { conts = k.decls.conts; objs = k.decls.objs })) (λ decls m. record { decls = m; lists = k.lists }))

put-client : (r : Reading) → ReadingHasKeys r → OnRead ReadingHasKeys (put_client r)
unfolding put_client
put-client r k = on-bind ListsHaveKeys ReadingHasKeys (next_list r.lists) _ (next-list r.lists k.lists) (λ lists m. record { decls = record { conts = k.decls.conts; objs = k.decls.objs }; lists = m })

put-step : (r : Reading) (s : Step) → ReadingHasKeys r → StepHasKeys s → OnRead ReadingHasKeys (put_step r s)
unfolding put_step
put-step r s k h = on-bind ListsHaveKeys ReadingHasKeys (one_step r.lists s) _ (one-step r.lists s k.lists h) (λ lists m. record { decls = k.decls; lists = m })

put-do-at : (r : Reading) (at : At) (op : Op) → ReadingHasKeys r → OpHasKeys op → OnRead ReadingHasKeys (put_do_at r at op)
unfolding put_do_at
put-do-at r at op k h = put-step r (step.Number (lone (Some at.name) op)) k (lone-keys (Some at.name) op h)

put-snap : (r : Reading) (name : List ℕ) (cont : ContId) → ReadingHasKeys r → IsKey name → OnRead ReadingHasKeys (put_snap r name cont)
unfolding put_snap with_own
put-snap r name cont k h =
    on-bind ListsHaveKeys ReadingHasKeys (one_step r.lists (step.Number (command.Snap name cont))) _ (one-step r.lists (step.Number (command.Snap name cont)) k.lists (snap-keys name cont h)) (λ lists m. record { decls = record { conts = k.decls.conts; objs = k.decls.objs }; lists = m })

put-tell : (at : ℕ) (r : Reading) (to : ℕ) → ReadingHasKeys r → OnRead ReadingHasKeys (put_tell at r to)
unfolding put_tell
put-tell at r to k = on-bind ListsHaveKeys ReadingHasKeys (with_tell at r.lists to) _ (with-tell at r.lists to k.lists) (λ lists m. record { decls = k.decls; lists = m })

add-line : (at : ℕ) (r : Reading) (l : Line) → ReadingHasKeys r → LineHasKeys l → OnRead ReadingHasKeys (add_line at r l)
add-line at r (line.Cont d) k h = put-cont r d k h
add-line at r (line.Obj d) k h = put-obj r d k h
add-line at r (line.Old d) k h = put-old r d k
add-line at r (line.Drop name) k h = put-drop r name k
add-line at r (line.Stop d) k h = put-stop r d k
add-line at r line.Client k h = put-client r k
add-line at r (line.Do op) k h = put-step r (step.Do op) k h
add-line at r (line.DoAt snapshot op) k h = put-do-at r snapshot op k h
add-line at r line.Tx k h = put-step r (step.Begin at None) k tt
add-line at r (line.TxAt snapshot) k h = put-step r (step.Begin at (Some snapshot)) k tt
add-line at r line.End k h = put-step r step.End k tt
add-line at r (line.Snap name cont) k h = put-snap r name cont k h
add-line at r (line.Aggregate cont) k h = put-step r (step.Number (command.Aggregate cont)) k (makes-none (command.Aggregate cont) (All-nil OpHasKeys) refl)
add-line at r (line.Tell client) k h = put-tell at r client k
add-line at r (line.Skip turns) k h = put-step r (step.Skip turns) k tt

said-keys : (r : Reading) (text : List ℕ) → OnRead LineHasKeys (said r text)
unfolding said
said-keys r text = by (list_all is_shown text)
  where
    by : (b : Bool) → OnRead LineHasKeys (if b then line_at r.decls (within_of r.lists.present.client) (parts_of 32 text) else Err NotAscii)
    by true = line-at r.decls (within_of r.lists.present.client) (parts_of 32 text)
    by false = tt

read-line : (at : ℕ) (r : Reading) (text : List ℕ) → ReadingHasKeys r → OnRead ReadingHasKeys (read_line at r text)
unfolding read_line
read-line at r text k = on-bind LineHasKeys ReadingHasKeys (said r text) _ (said-keys r text) (λ l h. add-line at r l k h)

-- ---- all lines

on-located : {A : Type 0} (P : A → Type 0) (at : ℕ) (r : Result A _) → OnRead P r → OnRead P (located at r)
on-located P at (Ok x) k = k
on-located P at (Err why) k = tt

with-line : (long at : ℕ) (r : Reading) (text : List ℕ) → ReadingHasKeys r → OnRead ReadingHasKeys (with_line long at r text)
unfolding with_line
with-line long at r text k = on-unless ReadingHasKeys (at == long) (record { line = at; why = TooLong 16777216 }) _ (by (is_passed text))
  where
    by : (b : Bool) → OnRead ReadingHasKeys (if b then Ok r else located at (read_line at r text))
    by true = k
    by false = on-located ReadingHasKeys at (read_line at r text) (read-line at r text k)

all-lines : (long at : ℕ) (r : Reading) (lines : List (List ℕ)) → ReadingHasKeys r → OnRead ReadingHasKeys (steps (with_line long) at r lines)
unfolding steps
all-lines long at r [] k = k
all-lines long at r (l ∷ lines) k = on-bind ReadingHasKeys ReadingHasKeys (with_line long at r l) (λ t. steps (with_line long) (at + 1) t lines) (with-line long at r l k) (λ t h. all-lines long (at + 1) t lines h)

-- ---- the end

unless-keys : (o b : Option ℕ) (lists : List (List Command)) → All ListHasKeys lists → OnRead (All ListHasKeys) (unless_open o (unless_bad b lists))
unless-keys None None lists k = k
unless-keys None (Some at) lists k = tt
unless-keys (Some at) b lists k = tt

ended-lists : (l : Lists) → ListsHaveKeys l → OnRead (All ListHasKeys) (ended_lists l)
unfolding ended_lists
ended-lists l k = unless-keys (open_line (tx_of l.present.client)) (bad_tell (length (all_lists l)) l.tells) (all_lists l) (lists-keys l.whole l.present.client k.whole k.present)

commands-keys : (lists : List (List Command)) → All ListHasKeys lists → All (λ list. All CommandHasKeys list) lists
commands-keys lists k = All-weaker ListHasKeys (λ list. All CommandHasKeys list) (λ list h. All-weaker IsKeyed CommandHasKeys (λ c i. i.ops) list h) lists k

list-snaps : (list : List Command) → ListHasKeys list → All SnapHasKey (snaps_of list)
list-snaps [] k = All-nil SnapHasKey
list-snaps (c ∷ cs) k = All-append SnapHasKey (snap_of c) (snaps_of cs) (All-head IsKeyed c cs k).snap (list-snaps cs (All-tail IsKeyed c cs k))

snaps-keys : (lists : List (List Command)) → All ListHasKeys lists → All SnapHasKey (all_snaps lists)
snaps-keys [] k = All-nil SnapHasKey
snaps-keys (list ∷ lists) k = All-append SnapHasKey (snaps_of list) (all_snaps lists) (list-snaps list (All-head ListHasKeys list lists k)) (snaps-keys lists (All-tail ListHasKeys list lists k))

ended-keys : (r : Reading) → ReadingHasKeys r → OnRead ScriptHasKeys (ended r)
unfolding ended
ended-keys r k = on-bind (All ListHasKeys) ScriptHasKeys (ended_lists r.lists) _ (ended-lists r.lists k.lists) (λ lists m. record { conts = k.decls.conts; objs = k.decls.objs; commands = commands-keys lists m; snaps = snaps-keys lists m })

nothing-read : (targets : ℕ) → ReadingHasKeys (nothing_read targets)
nothing-read targets = record {
  decls = record { conts = All-nil (λ (c : ContDecl). IsKey c.name); objs = All-nil (λ (o : ObjDecl). IsKey o.name) };
  lists = record { whole = All-nil ListHasKeys; present = tt };
}

-- ---- the statement

-- a script that some text stands for has keys
abbrev pub ScriptsReadHaveKeys : Type 0
ScriptsReadHaveKeys = (targets : ℕ) (bytes : List ℕ) (s : Script) → IsScriptText targets bytes s → ScriptHasKeys s

script-keys : (targets : ℕ) (bytes : List ℕ) → OnRead ScriptHasKeys (script_of targets bytes)
unfolding script_of
script-keys targets bytes = on-bind ReadingHasKeys ScriptHasKeys (steps (with_line (long_line bytes)) 1 (nothing_read targets) (text_lines bytes)) _ (all-lines (long_line bytes) 1 (nothing_read targets) (text_lines bytes) (nothing-read targets)) (λ r k. ended-keys r k)

pub scripts-read-have-keys : ScriptsReadHaveKeys
scripts-read-have-keys targets bytes s is = subst (λ r. OnRead ScriptHasKeys r) is (script-keys targets bytes)
