use Rattle.std.proofs.Common.{◌≡◌, ◌+◌, ℕ, List, Some, None, take, ap, arith, subst, false}
use Rattle.std.specs.Prelude.{IfOk, OnOk}
use Rattle.pmem_pages.specs.Blocks.{put}
use Rattle.pmem_undo.specs.Undo.{UndoState}
use Rattle.pmem_alloc.specs.Sets.{IsLeast, set_to}
use Rattle.pmem_alloc.specs.Map.{SameBeside, free_of}
use Rattle.pmem_alloc.specs.Blocks.{BlocksState, StagesMap, free_count}
use Rattle.pmem_alloc.specs.Pages.{shown}
use Rattle.pmem_alloc.specs.Laws.{free_in_within}
use Rattle.pmem_alloc.proofs.Shown.{least_shown, taken_shown, taken_count}
use Rattle.pmem_alloc.proofs.pages.BlocksPages.take_block.Goals as goal

pub returns-clause-first : goal.returns-clause-first
returns-clause-first g c =
    let is_one = subst (λ r. IfOk r (λ q. IsLeast (free_of c.self.inside.map) q)) c.unwrap.ensures c.take_one.ensures.least in
    (free_in_within _ _ _ is_one.is_in).0

pub returns-clause-was_free : goal.returns-clause-was_free
returns-clause-was_free g c t =
    let i = c.self.inside in
    let old : BlocksState _ = record { undo = i.undo; map = i.map; lasting = i.lasting; last = take i.many i.last } in
    let is_one = subst (λ r. IfOk r (λ q. IsLeast (free_of c.self.inside.map) q)) c.unwrap.ensures c.take_one.ensures.least in
    subst (λ (s : BlocksState _). shown g.R.Region.image s c.unwrap.result ≡ None) c.self.view_is (least_shown g.R.Region.image old c.unwrap.result (omega arith) is_one)

pub returns-clause-taken : goal.returns-clause-taken
returns-clause-taken g c t =
    let i = c.self.inside in
    let old : BlocksState _ = record { undo = i.undo; map = i.map; lasting = i.lasting; last = take i.many i.last } in
    let new : BlocksState _ = record { undo = c.take_one.new.undo; map = c.take_one.new.map; lasting = i.lasting; last = take i.many i.last } in
    let is_one = subst (λ r. IfOk r (λ q. IsLeast (free_of i.map) q)) c.unwrap.ensures c.take_one.ensures.least in
    let taken = subst (λ r. IfOk r (λ q. free_of c.take_one.new.map ≡ set_to (free_of i.map) q false)) c.unwrap.ensures c.take_one.ensures.taken in
    let staged = subst (λ r. OnOk r (StagesMap 1 i.undo.staged c.take_one.new.undo.staged)) c.unwrap.ensures c.take_one.ensures.staged in
    let beside = subst (λ r. OnOk r (SameBeside i.map c.take_one.new.map)) c.unwrap.ensures c.take_one.ensures.beside in
    subst (λ (s : BlocksState _). (x : List ℕ) × (shown g.R.Region.image new ≡ put (shown g.R.Region.image s) c.unwrap.result (Some x))) c.self.view_is
    (taken_shown g.R.Region.image old new c.unwrap.result (omega arith) is_one taken beside (ap (λ (u : UndoState _). u.region) c.take_one.ensures.rest) staged)

pub returns-clause-free : goal.returns-clause-free
returns-clause-free g c =
    let i = c.self.inside in
    let old : BlocksState _ = record { undo = i.undo; map = i.map; lasting = i.lasting; last = take i.many i.last } in
    let new : BlocksState _ = record { undo = c.take_one.new.undo; map = c.take_one.new.map; lasting = i.lasting; last = take i.many i.last } in
    let is_one = subst (λ r. IfOk r (λ q. IsLeast (free_of i.map) q)) c.unwrap.ensures c.take_one.ensures.least in
    let taken = subst (λ r. IfOk r (λ q. free_of c.take_one.new.map ≡ set_to (free_of i.map) q false)) c.unwrap.ensures c.take_one.ensures.taken in
    subst (λ (s : BlocksState _). free_count new + 1 ≡ free_count s) c.self.view_is (taken_count old new c.unwrap.result is_one taken c.take_one.ensures.end)
