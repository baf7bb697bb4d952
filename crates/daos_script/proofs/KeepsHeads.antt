-- Lines before the first client keep what was read a script in form so far.
use Rattle.std.proofs.Common.{◌≡◌, ◌≤◌, ◌*◌, ℕ, ◌+◌, ◌||◌, List, [], ◌∷◌, ◌++◌, length, map, Some, None, Option, Ok, sym, ap, subst, ◌∙◌, arith, nat_eq, append-nil, is_some, Any}
use Rattle.std.specs.List.{IsDistinct}
use Rattle.std.proofs.lemmas.Bool.{or_parts}
use Rattle.std.proofs.lemmas.List.{length-append, map-append}
use Rattle.std.proofs.lemmas.List.Elements.{All-push}
use Rattle.base_types.specs.Keys.{same_key}
use Rattle.base_types.specs.Scripts.{IsContOf, IsStop, IsUnit, SnapName, all_snaps, cont_name, cont_number, obj_name, old_snap, same_declared}
use Rattle.base_types.specs.Placement.{ClassFits}
use Rattle.base_types.specs.declared.fault.Why.TheVariants.{BadBlock}
use Rattle.base_types.specs.declared.script.Command.{Command}
use Rattle.base_types.specs.declared.script.ContDecl.{ContDecl}
use Rattle.base_types.specs.declared.script.ObjDecl.{ObjDecl}
use Rattle.base_types.specs.declared.script.OldDecl.{OldDecl}
use Rattle.base_types.specs.declared.script.StopDecl.{StopDecl}
use Rattle.base_names.specs.Names.{named}
use Rattle.base_text.specs.Results.{◌>>=◌}
use Rattle.script_words.specs.Decls.{with_cont, with_obj, with_old, with_stop}
use Rattle.script_words.specs.Lookups.{old_named}
use Rattle.script_words.proofs.Known.{old_is_named}
use Rattle.script_words.specs.Snaps.{is_dropped, is_snap}
use Rattle.script_lines.specs.Fits.{ContFits, DropFits, ObjFits, OldFits}
use Rattle.daos_script.specs.declared.client.Client.{Client}
use Rattle.daos_script.specs.Lists.{lists_of}
use Rattle.daos_script.specs.declared.reading.Reading.{Reading}
use Rattle.daos_script.specs.Puts.{put_cont, put_drop, put_obj, put_old, put_stop}
use Rattle.daos_script.specs.SoFar.{IsBody, IsStateAt, snap_name}
use Rattle.daos_script.proofs.Binds.{bind_ok, none_of, ok_is, room_ok, unless_ok}
use Rattle.daos_script.proofs.Pushes.{IsDistinct-push, any_more, cont_is_new, id_is_new, obj_is_new, none_found, object_is_new, old_is_new, pushed}

-- ---- before the first client

body_none : (conts conts' : List ContDecl) (objs objs' : List ObjDecl) (olds olds' : List SnapName) (whole : List (List Command)) (o : Option Client) → o ≡ None → IsBody conts objs olds whole o → IsBody conts' objs' olds' whole o
body_none conts conts' objs objs' olds olds' whole None e h = h
body_none conts conts' objs objs' olds olds' whole (Some c) e h = absurd cc

nothing_made : (conts : List ContDecl) (objs : List ObjDecl) (olds : List SnapName) (whole : List (List Command)) (o : Option Client) → o ≡ None → IsBody conts objs olds whole o → all_snaps (lists_of whole o) ≡ []
nothing_made conts objs olds whole None e h = ap all_snaps h
nothing_made conts objs olds whole (Some c) e h = absurd cc

pub later : (at n : ℕ) → n ≤ 10000 * at → n ≤ 10000 * (at + 1)
later at n h = omega arith

module _ (targets at : ℕ) where
  pub keep_cont : (r t : Reading) (d : ContDecl) → IsStateAt targets at r → ContFits r.decls d → put_cont r d ≡ Ok t → IsStateAt targets (at + 1) t
  unfolding put_cont with_cont
  keep_cont r t d h f e =
      let g = unless_ok (is_some r.lists.present.client) BadBlock (with_cont r.decls d >>= λ decls. Ok (record r { decls = decls })) t e in
      let a = bind_ok (with_cont r.decls d) (λ decls. Ok (record r { decls = decls })) t g.1 in
      let b = room_ok 256 (length r.decls.conts) (record r.decls { conts = r.decls.conts ++ d ∷ [] }) a.0 a.1 in
      let none : r.lists.present.client ≡ None = none_of r.lists.present.client g.0 in
      let new : Reading = record r { decls = record r.decls { conts = r.decls.conts ++ d ∷ [] } } in
      let same : new ≡ t = ap (λ decls. record r { decls = decls }) b.1 ∙ ok_is (record r { decls = a.0 }) t a.2 in
      let k = h.heads in
      subst (λ t. IsStateAt targets (at + 1) t) same (record {
        read_for = h.read_for;
        heads = record {
          few_conts = omega (arith, length-append r.decls.conts (d ∷ []), b.0);
          cont_names = pushed cont_name r.decls.conts d (λ ns. IsDistinct same_key ns) (IsDistinct-push same_key (map cont_name r.decls.conts) d.name k.cont_names (cont_is_new r.decls.conts d.name f.new_name));
          cont_ids = pushed cont_number r.decls.conts d (λ ns. IsDistinct nat_eq ns) (IsDistinct-push nat_eq (map cont_number r.decls.conts) d.id.0 k.cont_ids (id_is_new r.decls.conts d.id f.new_id));
          few_objs = k.few_objs;
          obj_names = k.obj_names;
          obj_ids = k.obj_ids;
          obj_conts = λ i o lt. any_more (λ c. c.id ≡ _) r.decls.conts (d ∷ []) (k.obj_conts i o lt);
          obj_units = k.obj_units;
          classes = k.classes;
          few_olds = k.few_olds;
          old_conts = λ i o lt. any_more (λ c. c.id ≡ _) r.decls.conts (d ∷ []) (k.old_conts i o lt);
          known_drops = k.known_drops;
          drops_once = k.drops_once;
          few_stops = k.few_stops;
          stops_fit = k.stops_fit;
        };
        made_are = h.made_are;
        own_are = h.own_are;
        names = h.names;
        body = body_none r.decls.conts (r.decls.conts ++ d ∷ []) r.decls.objs r.decls.objs (map old_snap r.decls.olds) (map old_snap r.decls.olds) r.lists.whole r.lists.present.client none h.body;
        counts = h.counts;
        few = h.few;
        skipped = later at _ h.skipped;
        kept = h.kept;
      })

  pub keep_obj : (r t : Reading) (d : ObjDecl) → IsStateAt targets at r → ObjFits r.decls d → put_obj r d ≡ Ok t → IsStateAt targets (at + 1) t
  unfolding put_obj with_obj
  keep_obj r t d h f e =
      let g = unless_ok (is_some r.lists.present.client) BadBlock (with_obj r.decls d >>= λ decls. Ok (record r { decls = decls })) t e in
      let a = bind_ok (with_obj r.decls d) (λ decls. Ok (record r { decls = decls })) t g.1 in
      let b = room_ok 4096 (length r.decls.objs) (record r.decls { objs = r.decls.objs ++ d ∷ [] }) a.0 a.1 in
      let none : r.lists.present.client ≡ None = none_of r.lists.present.client g.0 in
      let new : Reading = record r { decls = record r.decls { objs = r.decls.objs ++ d ∷ [] } } in
      let same : new ≡ t = ap (λ decls. record r { decls = decls }) b.1 ∙ ok_is (record r { decls = a.0 }) t a.2 in
      let k = h.heads in
      subst (λ t. IsStateAt targets (at + 1) t) same (record {
        read_for = h.read_for;
        heads = record {
          few_conts = k.few_conts;
          cont_names = k.cont_names;
          cont_ids = k.cont_ids;
          few_objs = omega (arith, length-append r.decls.objs (d ∷ []), b.0);
          obj_names = pushed obj_name r.decls.objs d (λ ns. IsDistinct same_key ns) (IsDistinct-push same_key (map obj_name r.decls.objs) d.name k.obj_names (obj_is_new r.decls.objs d.name f.new_name));
          obj_ids = IsDistinct-push same_declared r.decls.objs d k.obj_ids (object_is_new r.decls.objs d f.new_object);
          obj_conts = All-push (λ o. IsContOf r.decls.conts o.cont) r.decls.objs d k.obj_conts f.declared;
          obj_units = All-push (λ o. IsUnit o.id.unit) r.decls.objs d k.obj_units f.unit;
          classes = All-push (λ o. ClassFits o.id.class targets) r.decls.objs d k.classes (subst (λ n. ClassFits d.id.class n) h.read_for f.class);
          few_olds = k.few_olds;
          old_conts = k.old_conts;
          known_drops = k.known_drops;
          drops_once = k.drops_once;
          few_stops = k.few_stops;
          stops_fit = k.stops_fit;
        };
        made_are = h.made_are;
        own_are = h.own_are;
        names = h.names;
        body = body_none r.decls.conts r.decls.conts r.decls.objs (r.decls.objs ++ d ∷ []) (map old_snap r.decls.olds) (map old_snap r.decls.olds) r.lists.whole r.lists.present.client none h.body;
        counts = h.counts;
        few = h.few;
        skipped = later at _ h.skipped;
        kept = h.kept;
      })

  pub keep_old : (r t : Reading) (d : OldDecl) → IsStateAt targets at r → OldFits r.decls d → put_old r d ≡ Ok t → IsStateAt targets (at + 1) t
  unfolding put_old with_old is_snap
  keep_old r t d h f e =
      let g = unless_ok (is_some r.lists.present.client) BadBlock (with_old r.decls d >>= λ decls. Ok (record r { decls = decls })) t e in
      let a = bind_ok (with_old r.decls d) (λ decls. Ok (record r { decls = decls })) t g.1 in
      let b = room_ok 256 (length r.decls.olds) (record r.decls { olds = r.decls.olds ++ d ∷ [] }) a.0 a.1 in
      let none : r.lists.present.client ≡ None = none_of r.lists.present.client g.0 in
      let new : Reading = record r { decls = record r.decls { olds = r.decls.olds ++ d ∷ [] } } in
      let same : new ≡ t = ap (λ decls. record r { decls = decls }) b.1 ∙ ok_is (record r { decls = a.0 }) t a.2 in
      let k = h.heads in
      let made : r.decls.made ≡ [] = h.made_are ∙ nothing_made r.decls.conts r.decls.objs (map old_snap r.decls.olds) r.lists.whole r.lists.present.client none h.body in
      let p = or_parts (is_some (old_named r.decls.olds d.name) || is_some (named r.decls.made d.name)) (is_some (named r.decls.own d.name)) f.new_name in
      let q = or_parts (is_some (old_named r.decls.olds d.name)) (is_some (named r.decls.made d.name)) p.0 in
      let no_old : old_named r.decls.olds d.name ≡ None = none_of _ q.0 in
      let before : IsDistinct same_key (map snap_name (map old_snap r.decls.olds)) = subst (λ m. IsDistinct same_key (map snap_name m)) (ap (λ m. map old_snap r.decls.olds ++ m) made ∙ append-nil (map old_snap r.decls.olds)) h.names in
      let after : IsDistinct same_key (map snap_name (map old_snap r.decls.olds ++ old_snap d ∷ [])) = pushed snap_name (map old_snap r.decls.olds) (old_snap d) (λ ns. IsDistinct same_key ns) (IsDistinct-push same_key (map snap_name (map old_snap r.decls.olds)) d.name before (old_is_new r.decls.olds d.name no_old)) in
      let listed : map old_snap r.decls.olds ++ old_snap d ∷ [] ≡ map old_snap (r.decls.olds ++ d ∷ []) ++ r.decls.made =
      sym (map-append old_snap r.decls.olds (d ∷ [])) ∙ sym (append-nil (map old_snap (r.decls.olds ++ d ∷ []))) ∙ ap (λ m. map old_snap (r.decls.olds ++ d ∷ []) ++ m) (sym made) in
      subst (λ t. IsStateAt targets (at + 1) t) same (record {
        read_for = h.read_for;
        heads = record {
          few_conts = k.few_conts;
          cont_names = k.cont_names;
          cont_ids = k.cont_ids;
          few_objs = k.few_objs;
          obj_names = k.obj_names;
          obj_ids = k.obj_ids;
          obj_conts = k.obj_conts;
          obj_units = k.obj_units;
          classes = k.classes;
          few_olds = omega (arith, length-append r.decls.olds (d ∷ []), b.0);
          old_conts = All-push (λ o. IsContOf r.decls.conts o.cont) r.decls.olds d k.old_conts f.declared;
          known_drops = λ i o lt. any_more (λ e. e.name ≡ _) r.decls.olds (d ∷ []) (k.known_drops i o lt);
          drops_once = k.drops_once;
          few_stops = k.few_stops;
          stops_fit = k.stops_fit;
        };
        made_are = h.made_are;
        own_are = h.own_are;
        names = subst (λ m. IsDistinct same_key (map snap_name m)) listed after;
        body = body_none r.decls.conts r.decls.conts r.decls.objs r.decls.objs (map old_snap r.decls.olds) (map old_snap (r.decls.olds ++ d ∷ [])) r.lists.whole r.lists.present.client none h.body;
        counts = h.counts;
        few = h.few;
        skipped = later at _ h.skipped;
        kept = h.kept;
      })

  pub keep_drop : (r t : Reading) (name : List ℕ) → IsStateAt targets at r → DropFits r.decls name → put_drop r name ≡ Ok t → IsStateAt targets (at + 1) t
  unfolding put_drop is_dropped
  keep_drop r t name h f e =
      let new : Reading = record r { decls = record r.decls { drops = r.decls.drops ++ name ∷ [] } } in
      let g = unless_ok (is_some r.lists.present.client) BadBlock (Ok new) t e in
      let k = h.heads in
      subst (λ t. IsStateAt targets (at + 1) t) (ok_is new t g.1) (record {
        read_for = h.read_for;
        heads = record {
          few_conts = k.few_conts;
          cont_names = k.cont_names;
          cont_ids = k.cont_ids;
          few_objs = k.few_objs;
          obj_names = k.obj_names;
          obj_ids = k.obj_ids;
          obj_conts = k.obj_conts;
          obj_units = k.obj_units;
          classes = k.classes;
          few_olds = k.few_olds;
          old_conts = k.old_conts;
          known_drops = All-push (λ n. Any (λ d. d.name ≡ n) r.decls.olds) r.decls.drops name k.known_drops (old_is_named r.decls.olds name f.known);
          drops_once = IsDistinct-push same_key r.decls.drops name k.drops_once (none_found (λ n. same_key n name) r.decls.drops f.new);
          few_stops = k.few_stops;
          stops_fit = k.stops_fit;
        };
        made_are = h.made_are;
        own_are = h.own_are;
        names = h.names;
        body = h.body;
        counts = h.counts;
        few = h.few;
        skipped = later at _ h.skipped;
        kept = h.kept;
      })

  pub keep_stop : (r t : Reading) (d : StopDecl) → IsStateAt targets at r → IsStop r.decls.targets d → put_stop r d ≡ Ok t → IsStateAt targets (at + 1) t
  unfolding put_stop with_stop
  keep_stop r t d h f e =
      let g = unless_ok (is_some r.lists.present.client) BadBlock (with_stop r.decls d >>= λ decls. Ok (record r { decls = decls })) t e in
      let a = bind_ok (with_stop r.decls d) (λ decls. Ok (record r { decls = decls })) t g.1 in
      let b = room_ok 64 (length r.decls.stops) (record r.decls { stops = r.decls.stops ++ d ∷ [] }) a.0 a.1 in
      let new : Reading = record r { decls = record r.decls { stops = r.decls.stops ++ d ∷ [] } } in
      let same : new ≡ t = ap (λ decls. record r { decls = decls }) b.1 ∙ ok_is (record r { decls = a.0 }) t a.2 in
      let k = h.heads in
      subst (λ t. IsStateAt targets (at + 1) t) same (record {
        read_for = h.read_for;
        heads = record {
          few_conts = k.few_conts;
          cont_names = k.cont_names;
          cont_ids = k.cont_ids;
          few_objs = k.few_objs;
          obj_names = k.obj_names;
          obj_ids = k.obj_ids;
          obj_conts = k.obj_conts;
          obj_units = k.obj_units;
          classes = k.classes;
          few_olds = k.few_olds;
          old_conts = k.old_conts;
          known_drops = k.known_drops;
          drops_once = k.drops_once;
          few_stops = omega (arith, length-append r.decls.stops (d ∷ []), b.0);
          stops_fit = All-push (IsStop targets) r.decls.stops d k.stops_fit (subst (λ n. IsStop n d) h.read_for f);
        };
        made_are = h.made_are;
        own_are = h.own_are;
        names = h.names;
        body = h.body;
        counts = h.counts;
        few = h.few;
        skipped = later at _ h.skipped;
        kept = h.kept;
      })
