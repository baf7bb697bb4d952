use Rattle.std.proofs.Common.{List, sym, subst, ◌∙◌, ◌≡◌, Ok}
use Rattle.std.specs.Prelude.{map}
use Rattle.std.proofs.lemmas.Result.{err_from_is_err_and}
use Rattle.vos_levels.specs.Levels.{things}
use Rattle.vos_image.specs.Content.{content_of}
use Rattle.vos_image.specs.Kinds.{entries, objects}
use Rattle.vos_image.specs.Laws.{root_blocks}
use Rattle.vos_image.specs.Nodes.{Node, nodes_in}
use Rattle.vos_image.specs.Trees.{read_tree}
use Rattle.vos_check_places.proofs.vos_places.Header.{roots_read}
use Rattle.vos_check_places.specs.vos_places.Tables.{AreRoots, places_of}
use Rattle.vos_check_entries.specs.vos_check.Rows.{row_of}
use Rattle.vos_check_base.proofs.Looking.{read_then}
use Rattle.vos_check_base.specs.Answers.{IsFault}
use Rattle.vos_check_entries.specs.Nodes.{node_in}
use Rattle.vos_check_entries.specs.Rows.{entry_row}
use Rattle.vos_check_places.specs.Fixed.{header_of, table_of}
use Rattle.vos_check_content.proofs.Assembling.{all_on, content_same, entries_off, fault_as, fault_at, marks_as, nodes_told, objects_off, places_off, reads_as}
use Rattle.vos_check_content.proofs.Headers.{ground_is, lease_low}
use Rattle.vos_check_content.proofs.content.check_content.Goals as goal

pub returns-in_err-fixed-clause-faulty : goal.returns-in_err-fixed-clause-faulty
returns-in_err-fixed-clause-faulty g c =
    let p = err_from_is_err_and c.from_residual.result c.from_residual.ensures.1 in
    rw (p.1, p.2) (λ told. fault_at c.args.target c.args.size (g.S.Source.bytes c.args.source.now) _ _ (λ at k. places_off _ _ at k) (c.in_err-fixed.ensures.fault told))

pub behind_roots-requires : goal.behind_roots-requires
behind_roots-requires g c = record {
  roots = λ told.
      let f = g.S.Source.bytes c.args.source.now in
      let size = c.args.size in
      let target = c.args.target in
      let d = content_of size f in
      let x = c.in_ok-fixed.fixed in
      let fixed = c.in_ok-fixed.ensures.read told in
      let so = ground_is target size f x fixed.keeps in
      let is = c.ground_of-ground.ensures (lease_low target size f x fixed.keeps) in
      let k0 = c.fixed.ensures.kept told in
      let c0 = content_same c.ground_of-ground.result _ f (g.S.Source.bytes c.fixed.new.source) d k0 is so in
      subst (λ z. AreRoots z x.header.objects x.header.entries) (sym c0) (roots_read target d (header_of x.header) _ fixed.keeps.header);
}

pub returns-in_err-fresh-clause-stops : goal.returns-in_err-fresh-clause-stops
returns-in_err-fresh-clause-stops g c =
    let p = err_from_is_err_and c.from_residual-in_err-fresh.result c.from_residual-in_err-fresh.ensures.1 in
    rw (p.1, p.2) (read_then _ _ g.S.Source.looked_on _ _ _ _ c.in_ok-fixed.ensures.stops c.in_err-fresh.ensures.stops)

pub returns-in_err-nodes-clause-stops : goal.returns-in_err-nodes-clause-stops
returns-in_err-nodes-clause-stops g c =
    let p = err_from_is_err_and c.from_residual-in_err-nodes.result c.from_residual-in_err-nodes.ensures.1 in
    rw (p.1, p.2) (read_then _ _ g.S.Source.looked_on _ _ _ _ c.in_ok-fixed.ensures.stops (read_then _ _ g.S.Source.looked_on _ _ _ _ c.in_ok-fresh.ensures.stops c.in_err-nodes.ensures.stops))

pub returns-in_err-entries-clause-stops : goal.returns-in_err-entries-clause-stops
returns-in_err-entries-clause-stops g c =
    let p = err_from_is_err_and c.from_residual-in_err-entries.result c.from_residual-in_err-entries.ensures.1 in
    rw (p.1, p.2) (read_then _ _ g.S.Source.looked_on _ _ _ _ c.in_ok-fixed.ensures.stops (read_then _ _ g.S.Source.looked_on _ _ _ _ c.in_ok-fresh.ensures.stops (read_then _ _ g.S.Source.looked_on _ _ _ _ c.in_ok-nodes.ensures.stops c.in_err-entries.ensures.stops)))

pub returns-clause-stops : goal.returns-clause-stops
returns-clause-stops g c = read_then _ _ g.S.Source.looked_on _ _ _ _ c.in_ok-fixed.ensures.stops (read_then _ _ g.S.Source.looked_on _ _ _ _ c.in_ok-fresh.ensures.stops (read_then _ _ g.S.Source.looked_on _ _ _ _ c.in_ok-nodes.ensures.stops c.in_ok-entries.ensures.stops))

pub returns-in_err-nodes-clause-faulty : goal.returns-in_err-nodes-clause-faulty
returns-in_err-nodes-clause-faulty g c =
    let p = err_from_is_err_and c.from_residual-in_err-nodes.result c.from_residual-in_err-nodes.ensures.1 in
    rw (p.1, p.2) (λ told.
    let f = g.S.Source.bytes c.args.source.now in
    let size = c.args.size in
    let target = c.args.target in
    let d = content_of size f in
    let x = c.in_ok-fixed.fixed in
    let fixed = c.in_ok-fixed.ensures.read told in
    let so = ground_is target size f x fixed.keeps in
    let is = c.ground_of-ground.ensures (lease_low target size f x fixed.keeps) in
    let k0 = c.fixed.ensures.kept told in
    let c0 = content_same c.ground_of-ground.result _ f (g.S.Source.bytes c.fixed.new.source) d k0 is so in
    let marks = marks_as _ d _ _ c0 (c.in_ok-fresh.ensures.marks told) in
    let k1 = c.behind_roots.ensures.kept told ∙ k0 in
    let c1 = content_same c.ground_of-ground.result _ f (g.S.Source.bytes c.behind_roots.new.source) d k1 is so in
    let fault = fault_as _ _ d (λ e. read_tree objects e x.header.objects) _ c.in_err-nodes.field-0.0 (root_blocks (header_of x.header)) c1 (c.in_err-nodes.ensures.read told) marks in
    fault_at target size f _ _ (λ at k. objects_off target d (places_of (table_of x)) _ at fixed.read k) fault)

pub returns-in_err-entries-clause-faulty : goal.returns-in_err-entries-clause-faulty
returns-in_err-entries-clause-faulty g c =
    let p = err_from_is_err_and c.from_residual-in_err-entries.result c.from_residual-in_err-entries.ensures.1 in
    rw (p.1, p.2) (λ told.
    let f = g.S.Source.bytes c.args.source.now in
    let size = c.args.size in
    let target = c.args.target in
    let d = content_of size f in
    let x = c.in_ok-fixed.fixed in
    let fixed = c.in_ok-fixed.ensures.read told in
    let so = ground_is target size f x fixed.keeps in
    let is = c.ground_of-ground.ensures (lease_low target size f x fixed.keeps) in
    let k0 = c.fixed.ensures.kept told in
    let c0 = content_same c.ground_of-ground.result _ f (g.S.Source.bytes c.fixed.new.source) d k0 is so in
    let marks = marks_as _ d _ _ c0 (c.in_ok-fresh.ensures.marks told) in
    let k1 = c.behind_roots.ensures.kept told ∙ k0 in
    let c1 = content_same c.ground_of-ground.result _ f (g.S.Source.bytes c.behind_roots.new.source) d k1 is so in
    let o = reads_as _ _ d (λ e. read_tree objects e x.header.objects) _ _ (λ o. c.in_ok-nodes.nodes.items ≡ map row_of (nodes_in o)) (root_blocks (header_of x.header)) c1 (c.in_ok-nodes.ensures.read told) marks in
    let k2 = c.check_objects.ensures.kept told ∙ k1 in
    let c2 = content_same c.ground_of-ground.result _ f (g.S.Source.bytes c.check_objects.new.source) d k2 is so in
    let fault = fault_as _ _ d (λ e. read_tree (entries (map node_in c.in_ok-nodes.nodes.items)) e x.header.entries) _ c.in_err-entries.field-0.0 o.gives.led c2 (c.in_err-entries.ensures.read told) o.gives.marks in
    let told_fault = subst (λ (z : List Node). IsFault d (read_tree (entries z) d x.header.entries o.gives.led) c.in_err-entries.field-0.0) (nodes_told _ _ o.shows) fault in
    fault_at target size f _ _ (λ at k. entries_off target d (places_of (table_of x)) o.value _ o.gives.led at fixed.read o.gives.is k) told_fault)

pub returns-clause-found : goal.returns-clause-found
returns-clause-found g c told =
    let f = g.S.Source.bytes c.args.source.now in
    let size = c.args.size in
    let target = c.args.target in
    let d = content_of size f in
    let x = c.in_ok-fixed.fixed in
    let fixed = c.in_ok-fixed.ensures.read told in
    let so = ground_is target size f x fixed.keeps in
    let is = c.ground_of-ground.ensures (lease_low target size f x fixed.keeps) in
    let k0 = c.fixed.ensures.kept told in
    let c0 = content_same c.ground_of-ground.result _ f (g.S.Source.bytes c.fixed.new.source) d k0 is so in
    let marks = marks_as _ d _ _ c0 (c.in_ok-fresh.ensures.marks told) in
    let k1 = c.behind_roots.ensures.kept told ∙ k0 in
    let c1 = content_same c.ground_of-ground.result _ f (g.S.Source.bytes c.behind_roots.new.source) d k1 is so in
    let o = reads_as _ _ d (λ e. read_tree objects e x.header.objects) _ _ (λ o. c.in_ok-nodes.nodes.items ≡ map row_of (nodes_in o)) (root_blocks (header_of x.header)) c1 (c.in_ok-nodes.ensures.read told) marks in
    let k2 = c.check_objects.ensures.kept told ∙ k1 in
    let c2 = content_same c.ground_of-ground.result _ f (g.S.Source.bytes c.check_objects.new.source) d k2 is so in
    let t = reads_as _ _ d (λ e. read_tree (entries (map node_in c.in_ok-nodes.nodes.items)) e x.header.entries) _ _ (λ t. c.in_ok-entries.entries.items ≡ map entry_row (things t)) o.gives.led c2 (c.in_ok-entries.ensures.read told) o.gives.marks in
    let read = subst (λ (z : List Node). read_tree (entries z) d x.header.entries o.gives.led ≡ Ok (t.value, t.gives.led)) (nodes_told _ _ o.shows) t.gives.is in
    record {
      stored = (o.value, t.value);
      table = fixed.keeps;
      read = all_on target size f (places_of (table_of x)) o.value t.value _ o.gives.led t.gives.led fixed.read o.gives.is read;
      entries = t.shows;
    }
