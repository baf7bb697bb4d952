-- Lines in the list of a client keep what was read a script in form so far.
use Rattle.std.proofs.Common.{count_by, ◌≡◌, ◌≤◌, ◌<◌, ◌*◌, ℕ, ◌+◌, Bool, true, false, cond, eqb, ◌&&◌, ◌||◌, not, List, [], ◌∷◌, ◌++◌, length, map, Some, None, Option, Ok, refl, sym, ap, subst, ◌∙◌, arith, Any, append_assoc, append-nil, is_some, is_none}
use Rattle.std.specs.List.{AllByRecursion, IsDistinct}
use Rattle.std.proofs.lemmas.Bool.{or_parts}
use Rattle.std.proofs.lemmas.Bool.Decides.{nat_tests}
use Rattle.std.proofs.lemmas.List.{length-append, map-append}
use Rattle.std.proofs.lemmas.List.Sums.{sum_by-append}
use Rattle.std.proofs.lemmas.List.Elements.{All-from_recursion}
use Rattle.base_types.specs.Keys.{same_key}
use Rattle.base_types.specs.Scripts.{AreCommands, IsCommand, IsContOf, IsOpInForm, IsPlainReadIn, IsTransaction, ReadsAt, SnapName, all_snaps, is_fetch, is_numbered, old_snap, snap_of, snaps_of}
use Rattle.base_types.specs.Operations.{act_path}
use Rattle.base_types.specs.declared.fault.Why.TheVariants.{BadBlock}
use Rattle.base_types.specs.declared.id.ContId.{ContId}
use Rattle.base_types.specs.declared.operation.Cond.{Cond}
use Rattle.base_types.specs.declared.operation.Cond.TheVariants.{Free, Must, MustNot}
use Rattle.base_types.specs.declared.operation.Op.{Op}
use Rattle.base_types.specs.declared.script.Command.{Command}
use Rattle.base_types.specs.declared.script.Command.TheVariants as command
use Rattle.base_types.specs.declared.script.ContDecl.{ContDecl}
use Rattle.base_types.specs.declared.script.ObjDecl.{ObjDecl}
use Rattle.base_names.specs.Names.{named}
use Rattle.base_text.specs.Results.{◌>>=◌}
use Rattle.script_words.specs.declared.decls.Decls.{Decls}
use Rattle.script_words.specs.Decls.{room, with_own}
use Rattle.script_words.specs.Lookups.{old_named}
use Rattle.script_words.specs.Snaps.{is_snap, or_else, snap_named}
use Rattle.script_words.proofs.Known.{entry_named, old_is_known}
use Rattle.script_lines.specs.declared.line.At.{At}
use Rattle.script_lines.specs.Ops.{PathFits}
use Rattle.script_lines.specs.Fits.{AtFits, DoAtFits, OpFits, SnapFits}
use Rattle.daos_script.specs.declared.client.Client.{Client}
use Rattle.daos_script.specs.declared.lists.Lists.{Lists}
use Rattle.daos_script.specs.declared.lists.Told.{Told}
use Rattle.daos_script.specs.declared.present.Present.{Present}
use Rattle.daos_script.specs.declared.present.Step.{Step}
use Rattle.daos_script.specs.declared.present.Step.TheVariants as step
use Rattle.daos_script.specs.declared.tx.Tx.{Tx}
use Rattle.daos_script.specs.declared.reading.Reading.{Reading}
use Rattle.daos_script.specs.Clients.{client_command, client_end, client_op, client_skip, client_tx, command_in, command_of, cont_of, ended_tx, is_barred, is_free, lone, may_add, name_of, op_in, skip_in, skip_open, tx_begun, tx_in, tx_op, tx_pushed, within_tx}
use Rattle.daos_script.specs.Lists.{lists_of, next_client, next_list, one_step, told_by, with_tell}
use Rattle.daos_script.specs.Steps.{begun, counted, step_command, step_end, step_op, step_skip, step_tx, tx_of, with_step, within_of}
use Rattle.daos_script.specs.Puts.{put_client, put_do_at, put_snap, put_step, put_tell}
use Rattle.daos_script.specs.SoFar.{IsKept, IsBody, IsOpen, IsStateAt, IsState, IsTx, TxReads, count_open, snap_name}
use Rattle.daos_script.proofs.Binds.{begun_ok, bind_ok, counted_ok, none_of, ok_is, room_left, room_ok, unless_ok}
use Rattle.daos_script.proofs.Pushes.{AreCommands-append, IsDistinct-push, all_append, all_push, all_snaps-push, any_after, any_more, count_numbered-push, entry_new, old_is_new, pushed, snaps_of-append}
use Rattle.daos_script.proofs.Tells.{all_kept-parts, all_kept-push, more_kept, numbered_kept, own_kept}

-- a snapshot that may be read, if one is given
abbrev pub AtGiven : Decls → Option At → Type 0
AtGiven decls None = Unit {0}
AtGiven decls (Some at) = AtFits decls at

-- ---- a list begins

-- whatever stands in the lists, they are in form, as lists that are whole
pub whole_lists : (conts : List ContDecl) (objs : List ObjDecl) (olds : List SnapName) (whole : List (List Command)) (o : Option Client) → IsBody conts objs olds whole o → AllByRecursion (λ list. AreCommands conts objs olds list) (lists_of whole o)
whole_lists conts objs olds whole None h = subst (λ w. AllByRecursion (λ list. AreCommands conts objs olds list) w) (sym h) tt
whole_lists conts objs olds whole (Some c) h = all_push (λ list. AreCommands conts objs olds list) whole c.list h.earlier h.present

free_counts : (o : Option Tx) → is_some o ≡ false → count_open o ≡ 0
free_counts None e = refl
free_counts (Some t) e = absurd cc

module _ (targets at : ℕ) where
  pub keep_client : (r t : Reading) → IsStateAt targets at r → put_client r ≡ Ok t → IsStateAt targets (at + 1) t
  unfolding put_client next_list
  keep_client r t h e =
      let lists = lists_of r.lists.whole r.lists.present.client in
      let after : Lists → Reading = λ l. record { decls = record r.decls { own = [] }; lists = l } in
      let x = bind_ok (next_list r.lists) (λ (l : Lists). Ok (after l)) t e in
      let g = unless_ok (is_some (tx_of r.lists.present.client)) BadBlock (room 64 (length lists) >>= λ fits. Ok (next_client r.lists)) x.0 x.1 in
      let b = room_ok 64 (length lists) (next_client r.lists) x.0 g.1 in
      let k = h.heads in
      subst (λ t. IsStateAt targets (at + 1) t) (ap after b.1 ∙ ok_is (after x.0) t x.2) (record {
        read_for = h.read_for;
        heads = record {
          few_conts = k.few_conts;
          cont_names = k.cont_names;
          cont_ids = k.cont_ids;
          few_objs = k.few_objs;
          obj_names = k.obj_names;
          obj_ids = k.obj_ids;
          obj_conts = k.obj_conts;
          obj_units = k.obj_units;
          classes = k.classes;
          few_olds = k.few_olds;
          old_conts = k.old_conts;
          known_drops = k.known_drops;
          drops_once = k.drops_once;
          few_stops = k.few_stops;
          stops_fit = k.stops_fit;
        };
        made_are = h.made_are ∙ sym (append-nil (all_snaps lists)) ∙ sym (all_snaps-push lists []);
        own_are = refl;
        names = h.names;
        body = record {
          earlier = whole_lists r.decls.conts r.decls.objs (map old_snap r.decls.olds) r.lists.whole r.lists.present.client h.body;
          present = tt;
          begun = tt;
          room = b.0;
          number = refl;
        };
        counts = omega (arith, h.counts, free_counts (tx_of r.lists.present.client) g.0, count_numbered-push lists []);
        few = h.few;
        skipped = omega arith;
        kept = all_kept-push r.lists.tells lists [] h.kept tt;
      })

  -- ---- a list goes on

  -- a client's list has some commands more, or its transaction goes on
  goes_on : (decls : Decls) (made own : List SnapName) (whole : List (List Command)) (c d : Client) (n m : ℕ) (tells : List Told) (cmds : List Command) → IsState targets at decls whole (Some c) n tells
      → d.list ≡ c.list ++ cmds → d.number ≡ c.number → AllByRecursion (IsKept tells (length whole)) cmds → made ≡ decls.made ++ snaps_of cmds → own ≡ decls.own ++ snaps_of cmds → IsDistinct same_key (map snap_name (map old_snap decls.olds ++ made))
      → AreCommands decls.conts decls.objs (map old_snap decls.olds ++ snaps_of c.list) cmds → IsOpen decls.objs (map old_snap decls.olds ++ snaps_of d.list) d.tx
      → m + count_open c.tx ≡ n + count_by is_numbered cmds + count_open d.tx → m ≤ 100000 → skip_open d.tx ≤ 10000 * (at + 1)
      → IsState targets (at + 1) (record decls { made = made; own = own }) whole (Some d) m tells
  goes_on decls made own whole c d n m tells cmds h listed number told made_is own_is distinct commands begun count few skipped =
      let k = h.heads in
      let b = h.body in
      let kept = all_kept-parts tells whole c.list h.kept in
      let counted : count_by is_numbered d.list ≡ count_by is_numbered c.list + count_by is_numbered cmds = ap (count_by is_numbered) listed ∙ sum_by-append (λ x. cond (is_numbered x) 1 0) c.list cmds in
      record {
        read_for = h.read_for;
        heads = record {
          few_conts = k.few_conts;
          cont_names = k.cont_names;
          cont_ids = k.cont_ids;
          few_objs = k.few_objs;
          obj_names = k.obj_names;
          obj_ids = k.obj_ids;
          obj_conts = k.obj_conts;
          obj_units = k.obj_units;
          classes = k.classes;
          few_olds = k.few_olds;
          old_conts = k.old_conts;
          known_drops = k.known_drops;
          drops_once = k.drops_once;
          few_stops = k.few_stops;
          stops_fit = k.stops_fit;
        };
        made_are = made_is ∙ ap (λ m. m ++ snaps_of cmds) (h.made_are ∙ all_snaps-push whole c.list) ∙ append_assoc (all_snaps whole) (snaps_of c.list) (snaps_of cmds)
            ∙ ap (λ s. all_snaps whole ++ s) (sym (snaps_of-append c.list cmds) ∙ ap snaps_of (sym listed)) ∙ sym (all_snaps-push whole d.list);
        own_are = own_is ∙ ap (λ o. o ++ snaps_of cmds) h.own_are ∙ sym (snaps_of-append c.list cmds) ∙ ap snaps_of (sym listed);
        names = distinct;
        body = record {
          earlier = b.earlier;
          present = subst (λ l. AreCommands decls.conts decls.objs (map old_snap decls.olds) l) (sym listed) (AreCommands-append decls.conts decls.objs (map old_snap decls.olds) c.list cmds b.present commands);
          begun = begun;
          room = b.room;
          number = number ∙ b.number;
        };
        counts = omega (arith, h.counts, count, counted, count_numbered-push whole c.list, count_numbered-push whole d.list);
        few = few;
        skipped = skipped;
        kept = all_kept-push tells whole d.list kept.0 (subst (λ l. AllByRecursion (IsKept tells (length whole)) l) (sym listed) (all_append (IsKept tells (length whole)) c.list cmds kept.1 told));
      }

  -- the same where no snapshot is made
  goes_on_so : (decls : Decls) (whole : List (List Command)) (c d : Client) (n m : ℕ) (tells : List Told) (cmds : List Command) → IsState targets at decls whole (Some c) n tells
      → d.list ≡ c.list ++ cmds → d.number ≡ c.number → AllByRecursion (IsKept tells (length whole)) cmds → snaps_of cmds ≡ []
      → AreCommands decls.conts decls.objs (map old_snap decls.olds ++ snaps_of c.list) cmds → IsOpen decls.objs (map old_snap decls.olds ++ snaps_of d.list) d.tx
      → m + count_open c.tx ≡ n + count_by is_numbered cmds + count_open d.tx → m ≤ 100000 → skip_open d.tx ≤ 10000 * (at + 1)
      → IsState targets (at + 1) decls whole (Some d) m tells
  goes_on_so decls whole c d n m tells cmds h listed number told none commands begun count few skipped =
      goes_on decls decls.made decls.own whole c d n m tells cmds h listed number told (sym (append-nil decls.made) ∙ ap (λ s. decls.made ++ s) (sym none)) (sym (append-nil decls.own) ∙ ap (λ s. decls.own ++ s) (sym none)) h.names commands begun count few skipped

  -- a command more, outside of transactions
  one_more : (decls : Decls) (whole : List (List Command)) (c : Client) (n m : ℕ) (tells : List Told) (x : Command) → IsState targets at decls whole (Some c) n tells → c.tx ≡ None → IsKept tells (length whole) x → snap_of x ≡ []
      → IsCommand decls.conts decls.objs (map old_snap decls.olds ++ snaps_of c.list) x → m ≡ n + count_by is_numbered (x ∷ []) → m ≤ 100000
      → IsState targets (at + 1) decls whole (Some (record c { list = c.list ++ x ∷ [] })) m tells
  one_more decls whole c n m tells x h free told none form count few =
      goes_on_so decls whole c (record c { list = c.list ++ x ∷ [] }) n m tells (x ∷ []) h refl refl (told, tt) (ap (λ s. s ++ []) none) (form, tt)
      (subst (λ t. IsOpen decls.objs (map old_snap decls.olds ++ snaps_of (c.list ++ x ∷ [])) t) (sym free) tt)
      (ap (λ k. k + count_open c.tx) count) few (subst (λ t. skip_open t ≤ 10000 * (at + 1)) (sym free) (omega arith))

  -- ---- the lines

  free_in : (c : Client) (x : Command) (o : Option Tx) (d : Client) → command_in c o x ≡ Ok d → (o ≡ None) × (d ≡ record c { list = c.list ++ x ∷ [] })
  free_in c x None d e = (refl, sym (ok_is (record c { list = c.list ++ x ∷ [] }) d e))
  free_in c x (Some t) d e = absurd cc

  -- a command that may not stand in a transaction
  command_ok : (c : Client) (x : Command) (d : Client) → client_command c x ≡ Ok d → (c.tx ≡ None) × (d ≡ record c { list = c.list ++ x ∷ [] })
  unfolding client_command
  command_ok c x d e = free_in c x c.tx d e

  state_of : (decls : Decls) (whole : List (List Command)) (p : Present) (tells : List Told) (c : Client) → p.client ≡ Some c → IsState targets at decls whole p.client p.commands tells → IsState targets at decls whole (Some c) p.commands tells
  state_of decls whole p tells c e h = subst (λ o. IsState targets at decls whole o p.commands tells) e h

  -- what a step makes of the present client
  abbrev StepKeeps : (r : Reading) (s : Step) → Type 0
  StepKeeps r s = (q : Present) → with_step r.lists.present s ≡ Ok q → IsState targets (at + 1) r.decls r.lists.whole q.client q.commands r.lists.tells

  one_step_ok : (l m : Lists) (s : Step) → one_step l s ≡ Ok m → (q : Present) × (with_step l.present s ≡ Ok q) × (record l { present = q } ≡ m)
  unfolding one_step
  one_step_ok l m s e =
      let y = bind_ok (with_step l.present s) (λ q. Ok (record l { present = q })) m e in (y.0, y.1, ok_is (record l { present = y.0 }) m y.2)

  keep_step : (r t : Reading) (s : Step) → StepKeeps r s → put_step r s ≡ Ok t → IsStateAt targets (at + 1) t
  unfolding put_step
  keep_step r t s keeps e =
      let x = bind_ok (one_step r.lists s) (λ lists. Ok (record r { lists = lists })) t e in
      let y = one_step_ok r.lists x.0 s x.1 in
      subst (λ t. IsStateAt targets (at + 1) t) (ap (λ l. record r { lists = l }) y.2 ∙ ok_is (record r { lists = x.0 }) t x.2) (keeps y.0 y.1)

  -- what a numbered command was added to, and what came of it
  numbered_ok : (p q : Present) (x : Command) → step_command p x ≡ Ok q
      → (c : Client) × (p.client ≡ Some c) × (c.tx ≡ None) × (p.commands < 100000) × (record { client = Some (record c { list = c.list ++ x ∷ [] }); commands = p.commands + 1 } ≡ q)
  unfolding step_command
  numbered_ok p q x e =
      let after : Client → ℕ → Present = λ d n. record { client = Some d; commands = n } in
      let a = bind_ok (begun p.client) (λ c. client_command c x >>= λ d. counted true p.commands >>= λ n. Ok (after d n)) q e in
      let b = bind_ok (client_command a.0 x) (λ d. counted true p.commands >>= λ n. Ok (after d n)) q a.2 in
      let d = bind_ok (counted true p.commands) (λ n. Ok (after b.0 n)) q b.2 in
      let f = command_ok a.0 x b.0 b.1 in
      let n = counted_ok p.commands d.0 d.1 in (
        a.0,
        begun_ok p.client a.0 a.1,
        f.0,
        n.0,
        ap (after (record a.0 { list = a.0.list ++ x ∷ [] })) (sym n.1) ∙ ap (λ u. after u d.0) (sym f.1) ∙ ok_is (after b.0 d.0) q d.2,
      )

  -- a numbered command that makes no snapshot
  keep_numbered : (r t : Reading) (x : Command) → is_numbered x ≡ true → snap_of x ≡ [] → IsStateAt targets at r
      → ((c : Client) → r.lists.present.client ≡ Some c → IsCommand r.decls.conts r.decls.objs (map old_snap r.decls.olds ++ snaps_of c.list) x) → put_step r (step.Number x) ≡ Ok t → IsStateAt targets (at + 1) t
  keep_numbered r t x one none h form e = keep_step r t (step.Number x) (λ q made. counted_in q (numbered_ok r.lists.present q x made)) e
    where
      n : ℕ
      n = r.lists.present.commands

      count_one : (x : Command) → is_numbered x ≡ true → n + 1 ≡ n + count_by is_numbered (x ∷ [])
      count_one (command.Run ops skips snapshot) e = refl
      count_one (command.Snap name cont) e = refl
      count_one (command.Aggregate cont) e = refl
      count_one (command.Tell client) e = absurd cc
      count_one (command.Skip n) e = absurd cc

      counted_in : (q : Present) → (c : Client) × (r.lists.present.client ≡ Some c) × (c.tx ≡ None) × (n < 100000) × (record { client = Some (record c { list = c.list ++ x ∷ [] }); commands = n + 1 } ≡ q)
          → IsState targets (at + 1) r.decls r.lists.whole q.client q.commands r.lists.tells
      counted_in q (c, is, free, few, same) =
          let s = state_of r.decls r.lists.whole r.lists.present r.lists.tells c is h in
          subst (λ (q : Present). IsState targets (at + 1) r.decls r.lists.whole q.client q.commands r.lists.tells) same
          (one_more r.decls r.lists.whole c n (n + 1) r.lists.tells x s free (numbered_kept r.lists.tells (length r.lists.whole) x one) none (form c is) (count_one x one) (omega (arith, few)))

  pub keep_aggregate : (r t : Reading) (cont : ContId) → IsStateAt targets at r → IsContOf r.decls.conts cont → put_step r (step.Number (command.Aggregate cont)) ≡ Ok t → IsStateAt targets (at + 1) t
  keep_aggregate r t cont h f e = keep_numbered r t (command.Aggregate cont) refl refl h (λ c is. f) e

  -- the snapshots that a client knows are those by which it may read
  known_snap : (decls : Decls) (list : List Command) (name : List ℕ) (cont : ContId) → decls.own ≡ snaps_of list → snap_named decls name ≡ Some cont → Any (λ k. k ≡ (name, cont)) (map old_snap decls.olds ++ snaps_of list)
  unfolding snap_named
  known_snap decls list name cont own e = go (old_named decls.olds name) refl e
    where
      go : (o : Option ContId) → old_named decls.olds name ≡ o → or_else o (named decls.own name) ≡ Some cont → Any (λ k. k ≡ (name, cont)) (map old_snap decls.olds ++ snaps_of list)
      go (Some c) h e = any_more (λ k. k ≡ (name, cont)) (map old_snap decls.olds) (snaps_of list) (old_is_known decls.olds name cont (h ∙ e))
      go None h e = any_after (λ k. k ≡ (name, cont)) (map old_snap decls.olds) (snaps_of list) (entry_named (snaps_of list) name cont (ap (λ s. named s name) (sym own) ∙ e))

  lone_form : (objs : List ObjDecl) (op : Op) → IsOpInForm objs op → IsTransaction objs (op ∷ []) (0 ∷ 0 ∷ [])
  lone_form objs op f = record { some = omega arith; few = omega arith; in_form = All-from_recursion (IsOpInForm objs) (op ∷ []) (f, tt); skips_between = refl }

  pub keep_do_at : (r t : Reading) (at' : At) (op : Op) → IsStateAt targets at r → DoAtFits r.decls at' op → put_do_at r at' op ≡ Ok t → IsStateAt targets (at + 1) t
  unfolding put_do_at
  keep_do_at r t at' op h f e =
      keep_numbered r t (lone (Some at'.name) op) refl refl h
      (λ c is. (lone_form r.decls.objs op f.form, (at'.cont, known_snap r.decls c.list at'.name at'.cont ((state_of r.decls r.lists.whole r.lists.present r.lists.tells c is h).own_are) f.known, All-from_recursion (IsPlainReadIn at'.cont) (op ∷ []) (f.plain, tt)))) e

  pub keep_snap : (r t : Reading) (name : List ℕ) (cont : ContId) → IsStateAt targets at r → SnapFits r.decls name cont → put_snap r name cont ≡ Ok t → IsStateAt targets (at + 1) t
  unfolding put_snap with_own is_snap
  keep_snap r t name cont h f e =
      let made = r.decls.made ++ (name, cont) ∷ [] in
      let own = r.decls.own ++ (name, cont) ∷ [] in
      let after : Lists → Reading = λ l. record { decls = record r.decls { made = made; own = own }; lists = l } in
      let x = bind_ok (one_step r.lists (step.Number (command.Snap name cont))) (λ l. Ok (after l)) t e in
      let y = one_step_ok r.lists x.0 (step.Number (command.Snap name cont)) x.1 in
      let a = numbered_ok r.lists.present y.0 (command.Snap name cont) y.1 in
      let s = state_of r.decls r.lists.whole r.lists.present r.lists.tells a.0 a.1 h in
      let p = or_parts (is_some (old_named r.decls.olds name) || is_some (named r.decls.made name)) (is_some (named r.decls.own name)) f.new_name in
      let q = or_parts (is_some (old_named r.decls.olds name)) (is_some (named r.decls.made name)) p.0 in
      let olds = map old_snap r.decls.olds in
      let new : AllByRecursion (λ n. same_key n name ≡ false) (map snap_name (olds ++ r.decls.made)) =
      subst (AllByRecursion (λ n. same_key n name ≡ false)) (sym (map-append snap_name olds r.decls.made))
      (all_append (λ n. same_key n name ≡ false) (map snap_name olds) (map snap_name r.decls.made) (old_is_new r.decls.olds name (none_of _ q.0)) (entry_new r.decls.made name (none_of _ q.1))) in
      let pushed_names : IsDistinct same_key (map snap_name ((olds ++ r.decls.made) ++ (name, cont) ∷ [])) =
      pushed snap_name (olds ++ r.decls.made) (name, cont) (λ ns. IsDistinct same_key ns) (IsDistinct-push same_key (map snap_name (olds ++ r.decls.made)) name h.names new) in
      let distinct : IsDistinct same_key (map snap_name (olds ++ made)) = subst (λ ks. IsDistinct same_key (map snap_name ks)) (append_assoc olds r.decls.made ((name, cont) ∷ [])) pushed_names in
      subst (λ t. IsStateAt targets (at + 1) t) (ap (λ q. after (record r.lists { present = q })) a.4 ∙ ap after y.2 ∙ ok_is (after x.0) t x.2)
      (goes_on r.decls made own r.lists.whole a.0 (record a.0 { list = a.0.list ++ command.Snap name cont ∷ [] }) r.lists.present.commands (r.lists.present.commands + 1) r.lists.tells (command.Snap name cont ∷ []) s refl refl (tt, tt) refl refl distinct (f.declared, tt)
      (subst (λ t. IsOpen r.decls.objs (olds ++ snaps_of (a.0.list ++ command.Snap name cont ∷ [])) t) (sym a.2) tt)
      (omega arith) (omega (arith, a.3)) (subst (λ t. skip_open t ≤ 10000 * (at + 1)) (sym a.2) (omega arith)))

  -- one line from `tell` more changes nothing of the rest
  told_state : (decls : Decls) (whole : List (List Command)) (c : Client) (n : ℕ) (tells : List Told) (t : Told) → IsState targets at decls whole (Some c) n tells → IsState targets at decls whole (Some c) n (tells ++ t ∷ [])
  told_state decls whole c n tells t h = record {
    read_for = h.read_for;
    heads = h.heads;
    made_are = h.made_are;
    own_are = h.own_are;
    names = h.names;
    body = h.body;
    counts = h.counts;
    few = h.few;
    skipped = h.skipped;
    kept = more_kept tells t 0 (whole ++ c.list ∷ []) h.kept;
  }

  pub keep_tell : (line : ℕ) (r t : Reading) (to : ℕ) → IsStateAt targets at r → put_tell line r to ≡ Ok t → IsStateAt targets (at + 1) t
  unfolding put_tell with_tell
  keep_tell line r t to h e =
      let tells = r.lists.tells in
      let n = r.lists.present.commands in
      let after : Lists → Reading = λ l. record r { lists = l } in
      let x = bind_ok (with_tell line r.lists to) (λ l. Ok (after l)) t e in
      let a = bind_ok (begun r.lists.present.client) (λ c. client_command c (command.Tell to) >>= λ d. Ok (told_by r.lists line to d)) x.0 x.1 in
      let y = bind_ok (client_command a.0 (command.Tell to)) (λ d. Ok (told_by r.lists line to d)) x.0 a.2 in
      let f = command_ok a.0 (command.Tell to) y.0 y.1 in
      let s = state_of r.decls r.lists.whole r.lists.present tells a.0 (begun_ok r.lists.present.client a.0 a.1) h in
      let told : Told = record { line = line; client = a.0.number; to = to } in
      subst (λ t. IsStateAt targets (at + 1) t) (ap (λ c. after (told_by r.lists line to c)) (sym f.1) ∙ ap after (ok_is (told_by r.lists line to y.0) x.0 y.2) ∙ ok_is (after x.0) t x.2)
      (one_more r.decls r.lists.whole a.0 n n (tells ++ told ∷ []) (command.Tell to) (told_state r.decls r.lists.whole a.0 n tells told s) f.0 (own_kept tells told (length r.lists.whole) s.body.number) refl tt (omega arith) h.few)

  -- a transaction begins; it reads a snapshot, if one is given
  at_known : (decls : Decls) (list : List Command) (o : Option At) → decls.own ≡ snaps_of list → AtGiven decls o → TxReads (map old_snap decls.olds ++ snaps_of list) [] o
  at_known decls list None own f = tt
  at_known decls list (Some at') own f = (known_snap decls list at'.name at'.cont own f, tt)

  tx_in_ok : (line : ℕ) (c : Client) (at' : Option At) (o : Option Tx) (d : Client) → tx_in line c o at' ≡ Ok d → (o ≡ None) × (d ≡ record c { tx = Some (tx_begun line at') })
  tx_in_ok line c at' None d e = (refl, sym (ok_is (record c { tx = Some (tx_begun line at') }) d e))
  tx_in_ok line c at' (Some t) d e = absurd cc

  tx_ok : (line : ℕ) (c : Client) (at' : Option At) (d : Client) → client_tx line c at' ≡ Ok d → (c.tx ≡ None) × (d ≡ record c { tx = Some (tx_begun line at') })
  unfolding client_tx
  tx_ok line c at' d e = tx_in_ok line c at' c.tx d e

  tx_step : (line : ℕ) (p q : Present) (at' : Option At) → step_tx p line at' ≡ Ok q
      → (c : Client) × (p.client ≡ Some c) × (c.tx ≡ None) × (p.commands < 100000) × (record { client = Some (record c { tx = Some (tx_begun line at') }); commands = p.commands + 1 } ≡ q)
  unfolding step_tx
  tx_step line p q at' e =
      let after : Client → ℕ → Present = λ d n. record { client = Some d; commands = n } in
      let a = bind_ok (begun p.client) (λ c. client_tx line c at' >>= λ d. counted true p.commands >>= λ n. Ok (after d n)) q e in
      let b = bind_ok (client_tx line a.0 at') (λ d. counted true p.commands >>= λ n. Ok (after d n)) q a.2 in
      let d = bind_ok (counted true p.commands) (λ n. Ok (after b.0 n)) q b.2 in
      let f = tx_ok line a.0 at' b.0 b.1 in
      let n = counted_ok p.commands d.0 d.1 in (
        a.0,
        begun_ok p.client a.0 a.1,
        f.0,
        n.0,
        ap (after (record a.0 { tx = Some (tx_begun line at') })) (sym n.1) ∙ ap (λ u. after u d.0) (sym f.1) ∙ ok_is (after b.0 d.0) q d.2,
      )

  pub keep_tx : (line : ℕ) (r t : Reading) (at' : Option At) → IsStateAt targets at r → AtGiven r.decls at' → put_step r (step.Begin line at') ≡ Ok t → IsStateAt targets (at + 1) t
  keep_tx line r t at' h f e = keep_step r t (step.Begin line at') (λ q made. begun_in q (tx_step line r.lists.present q at' made)) e
    where
      n : ℕ
      n = r.lists.present.commands

      begun_in : (q : Present) → (c : Client) × (r.lists.present.client ≡ Some c) × (c.tx ≡ None) × (n < 100000) × (record { client = Some (record c { tx = Some (tx_begun line at') }); commands = n + 1 } ≡ q)
          → IsState targets (at + 1) r.decls r.lists.whole q.client q.commands r.lists.tells
      begun_in q (c, is, none, few, same) =
          let s = state_of r.decls r.lists.whole r.lists.present r.lists.tells c is h in
          let free : count_open c.tx ≡ 0 = ap count_open none in
          subst (λ (q : Present). IsState targets (at + 1) r.decls r.lists.whole q.client q.commands r.lists.tells) same
          (goes_on_so r.decls r.lists.whole c (record c { tx = Some (tx_begun line at') }) n (n + 1) r.lists.tells [] s (sym (append-nil c.list)) refl tt refl tt
          (record { few = omega arith; in_form = tt; skips_before = refl; reads = at_known r.decls c.list at' s.own_are f }) (omega (arith, free)) (omega (arith, few)) (omega arith))

  -- the transaction ends
  ended_ok : (o : Option Tx) (t : Tx) → ended_tx o ≡ Ok t → (o ≡ Some t) × (0 < length t.ops)
  ended_ok None t e = absurd cc
  ended_ok (Some u) t e =
      let g = unless_ok (eqb (length u.ops) 0) BadBlock (Ok u) t e in
      let same : u ≡ t = ok_is u t g.1 in
      (ap (λ x. Some x) same, subst (λ (x : Tx). 0 < length x.ops) same (some (length u.ops) g.0))
    where
      some : (n : ℕ) → eqb n 0 ≡ false → 0 < n
      some n h = grind (arith, nat_tests)

  end_ok : (c : Client) (d : Client) → client_end c ≡ Ok d → (t : Tx) × (c.tx ≡ Some t) × (0 < length t.ops) × (record c { list = c.list ++ command_of t ∷ []; tx = None } ≡ d)
  unfolding client_end
  end_ok c d e =
      let a = bind_ok (ended_tx c.tx) (λ t. Ok (record c { list = c.list ++ command_of t ∷ []; tx = None })) d e in
      let g = ended_ok c.tx a.0 a.1 in
      (a.0, g.0, g.1, ok_is (record c { list = c.list ++ command_of a.0 ∷ []; tx = None }) d a.2)

  -- what a whole transaction reads
  reads_of : (known : List SnapName) (ops : List Op) (o : Option At) → TxReads known ops o → ReadsAt known ops (name_of o)
  reads_of known ops None h = tt
  reads_of known ops (Some at') h = (at'.cont, h.0, All-from_recursion (IsPlainReadIn at'.cont) ops h.1)

  end_step : (decls : Decls) (whole : List (List Command)) (p q : Present) (tells : List Told) → IsState targets at decls whole p.client p.commands tells → step_end p ≡ Ok q
      → IsState targets (at + 1) decls whole q.client q.commands tells
  unfolding step_end
  end_step decls whole p q tells h e =
      let n = p.commands in
      let after : Client → Present = λ d. record { client = Some d; commands = n } in
      let a = bind_ok (begun p.client) (λ c. client_end c >>= λ d. Ok (after d)) q e in
      let b = bind_ok (client_end a.0) (λ d. Ok (after d)) q a.2 in
      let g = end_ok a.0 b.0 b.1 in
      let s = state_of decls whole p tells a.0 (begun_ok p.client a.0 a.1) h in
      let x = g.0 in
      let known = map old_snap decls.olds ++ snaps_of a.0.list in
      let open_tx : IsTx decls.objs known x = subst (λ o. IsOpen decls.objs known o) g.1 s.body.begun in
      let u : Client = record a.0 { list = a.0.list ++ command_of x ∷ []; tx = None } in
      let begun : count_open a.0.tx ≡ 1 = ap count_open g.1 in
      let whole_tx : IsTransaction decls.objs x.ops (x.skips ++ x.skip ∷ []) = record {
        some = g.2;
        few = open_tx.few;
        in_form = All-from_recursion (IsOpInForm decls.objs) x.ops open_tx.in_form;
        skips_between = length-append x.skips (x.skip ∷ []) ∙ ap (λ n. n + 1) open_tx.skips_before;
      } in
      subst (λ (q : Present). IsState targets (at + 1) decls whole q.client q.commands tells) (ap after g.3 ∙ ok_is (after b.0) q b.2)
      (goes_on_so decls whole a.0 u n n tells (command_of x ∷ []) s refl refl (tt, tt) refl ((whole_tx, reads_of known x.ops x.at open_tx.reads), tt) tt (omega (arith, begun)) h.few (omega arith))

  pub keep_end : (r t : Reading) → IsStateAt targets at r → put_step r step.End ≡ Ok t → IsStateAt targets (at + 1) t
  keep_end r t h e = keep_step r t step.End (λ q made. end_step r.decls r.lists.whole r.lists.present q r.lists.tells h made) e

  -- an operation, of a transaction or as a command of its own
  may_add_ok : (t : Tx) (op : Op) (u : Unit {0}) → may_add t op ≡ Ok u → (is_barred t.at op ≡ false) × (length t.ops < 64)
  unfolding may_add
  may_add_ok t op u e = let g = unless_ok (is_barred t.at op) BadBlock (room 64 (length t.ops)) u e in (g.0, room_left 64 (length t.ops) u g.1)

  tx_op_ok : (t u : Tx) (op : Op) → tx_op t op ≡ Ok u → (is_barred t.at op ≡ false) × (length t.ops < 64) × (tx_pushed t op ≡ u)
  unfolding tx_op
  tx_op_ok t u op e =
      let a = bind_ok (may_add t op) (λ fits. Ok (tx_pushed t op)) u e in
      let g = may_add_ok t op a.0 a.1 in
      (g.0, g.1, ok_is (tx_pushed t op) u a.2)

  free_cond : (c : Cond) → is_free c ≡ true → c ≡ Free
  free_cond Free e = refl
  free_cond Must e = absurd cc
  free_cond MustNot e = absurd cc

  both : (a b : Bool) → not (a && b) ≡ false → (a ≡ true) × (b ≡ true)
  both true true e = (refl, refl)
  both true false e = absurd cc
  both false b e = absurd cc

  reads_more : (known : List SnapName) (ops : List Op) (o : Option At) (op : Op) → is_barred o op ≡ false → PathFits (cont_of o) (act_path op.act) → TxReads known ops o → TxReads known (ops ++ op ∷ []) o
  reads_more known ops None op e f h = tt
  reads_more known ops (Some at') op e f h =
      let p = both (is_free op.cond) (is_fetch op.act) e in
      (h.0, all_push (IsPlainReadIn at'.cont) ops op h.1 (record { free = free_cond op.cond p.0; fetch = p.1; inside = f }))

  with_op : (decls : Decls) (whole : List (List Command)) (c d : Client) (n m : ℕ) (tells : List Told) (op : Op) (o : Option Tx) → c.tx ≡ o → IsState targets at decls whole (Some c) n tells
      → OpFits decls (within_tx o) op → counted (is_none o) n ≡ Ok m → op_in c o op ≡ Ok d → IsState targets (at + 1) decls whole (Some d) m tells
  with_op decls whole c d n m tells op None free s f e k =
      let a = counted_ok n m e in
      subst (λ d. IsState targets (at + 1) decls whole (Some d) m tells) (ok_is (record c { list = c.list ++ lone None op ∷ [] }) d k)
      (one_more decls whole c n m tells (lone None op) s free tt refl (lone_form decls.objs op f.form, tt) a.1 (omega (arith, a.0, a.1)))
  with_op decls whole c d n m tells op (Some t) begun s f e k =
      let a = bind_ok (tx_op t op) (λ u. Ok (record c { tx = Some u })) d k in
      let b = tx_op_ok t a.0 op a.1 in
      let known = map old_snap decls.olds ++ snaps_of c.list in
      let x : IsTx decls.objs known t = subst (λ o. IsOpen decls.objs known o) begun s.body.begun in
      let u : Tx = record t { ops = t.ops ++ op ∷ []; skips = t.skips ++ t.skip ∷ []; skip = 0 } in
      let same : record c { tx = Some u } ≡ d = ap (λ u. record c { tx = Some u }) b.2 ∙ ok_is (record c { tx = Some a.0 }) d a.2 in
      let n_is : n ≡ m = ok_is n m e in
      let one : count_open c.tx ≡ 1 = ap count_open begun in
      subst (λ d. IsState targets (at + 1) decls whole (Some d) m tells) same
      (goes_on_so decls whole c (record c { tx = Some u }) n m tells [] s (sym (append-nil c.list)) refl tt refl tt
      (record {
        few = omega (arith, length-append t.ops (op ∷ []), b.1);
        in_form = all_push (IsOpInForm decls.objs) t.ops op x.in_form f.form;
        skips_before = omega (arith, length-append t.ops (op ∷ []), length-append t.skips (t.skip ∷ []), x.skips_before);
        reads = reads_more known t.ops t.at op b.0 f.inside x.reads;
      }) (omega (arith, one, n_is)) (omega (arith, n_is, s.few)) (omega arith))

  op_step : (decls : Decls) (whole : List (List Command)) (p q : Present) (tells : List Told) (op : Op) → IsState targets at decls whole p.client p.commands tells → OpFits decls (within_of p.client) op
      → step_op p op ≡ Ok q → IsState targets (at + 1) decls whole q.client q.commands tells
  unfolding step_op client_op
  op_step decls whole p q tells op h f e =
      let after : Client → ℕ → Present = λ d n. record { client = Some d; commands = n } in
      let a = bind_ok (begun p.client) (λ c. client_op c op >>= λ d. counted (is_none c.tx) p.commands >>= λ n. Ok (after d n)) q e in
      let d = bind_ok (client_op a.0 op) (λ d. counted (is_none a.0.tx) p.commands >>= λ n. Ok (after d n)) q a.2 in
      let b = bind_ok (counted (is_none a.0.tx) p.commands) (λ n. Ok (after d.0 n)) q d.2 in
      let is = begun_ok p.client a.0 a.1 in
      let fits : OpFits decls (within_tx a.0.tx) op = subst (λ w. OpFits decls w op) (ap within_of is) f in
      subst (λ (q : Present). IsState targets (at + 1) decls whole q.client q.commands tells) (ok_is (after d.0 b.0) q b.2)
      (with_op decls whole a.0 d.0 p.commands b.0 tells op a.0.tx refl (state_of decls whole p tells a.0 is h) fits b.1 d.1)

  pub keep_op : (r t : Reading) (op : Op) → IsStateAt targets at r → OpFits r.decls (within_of r.lists.present.client) op → put_step r (step.Do op) ≡ Ok t → IsStateAt targets (at + 1) t
  keep_op r t op h f e = keep_step r t (step.Do op) (λ q made. op_step r.decls r.lists.whole r.lists.present q r.lists.tells op h f made) e

  -- turns are skipped
  skipping : (decls : Decls) (whole : List (List Command)) (c : Client) (n turns : ℕ) (tells : List Told) (o : Option Tx) → c.tx ≡ o → 0 < turns → turns ≤ 10000 → IsState targets at decls whole (Some c) n tells
      → IsState targets (at + 1) decls whole (Some (skip_in c o turns)) n tells
  skipping decls whole c n turns tells None free some few s = one_more decls whole c n n tells (command.Skip turns) s free tt refl (some, few) (omega arith) s.few
  skipping decls whole c n turns tells (Some t) begun some few s =
      let known = map old_snap decls.olds ++ snaps_of c.list in
      let x : IsTx decls.objs known t = subst (λ o. IsOpen decls.objs known o) begun s.body.begun in
      let one : count_open c.tx ≡ 1 = ap count_open begun in
      let before : t.skip ≤ 10000 * at = subst (λ o. skip_open o ≤ 10000 * at) begun s.skipped in
      goes_on_so decls whole c (record c { tx = Some (record t { skip = t.skip + turns }) }) n n tells [] s (sym (append-nil c.list)) refl tt refl tt
      (record { few = x.few; in_form = x.in_form; skips_before = x.skips_before; reads = x.reads }) (omega (arith, one)) s.few (omega arith)

  skip_step : (decls : Decls) (whole : List (List Command)) (p q : Present) (tells : List Told) (turns : ℕ) → 0 < turns → turns ≤ 10000 → IsState targets at decls whole p.client p.commands tells
      → step_skip p turns ≡ Ok q → IsState targets (at + 1) decls whole q.client q.commands tells
  unfolding step_skip client_skip
  skip_step decls whole p q tells turns some few h e =
      let after : Client → Present = λ d. record { client = Some d; commands = p.commands } in
      let a = bind_ok (begun p.client) (λ c. Ok (after (client_skip c turns))) q e in
      subst (λ (q : Present). IsState targets (at + 1) decls whole q.client q.commands tells) (ok_is (after (client_skip a.0 turns)) q a.2)
      (skipping decls whole a.0 p.commands turns tells a.0.tx refl some few (state_of decls whole p tells a.0 (begun_ok p.client a.0 a.1) h))

  pub keep_skip : (r t : Reading) (turns : ℕ) → 0 < turns → turns ≤ 10000 → IsStateAt targets at r → put_step r (step.Skip turns) ≡ Ok t → IsStateAt targets (at + 1) t
  keep_skip r t turns some few h e = keep_step r t (step.Skip turns) (λ q made. skip_step r.decls r.lists.whole r.lists.present q r.lists.tells turns some few h made) e
