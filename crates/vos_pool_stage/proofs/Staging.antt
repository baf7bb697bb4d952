-- Laws of what is staged.
use Rattle.std.proofs.Common.{ℕ, refl, sym, ap, ◌∙◌, subst}
use Rattle.base_outside.specs.Images.{Image, all_over, over}
use Rattle.base_outside.specs.ImageLaws.{all_over-push}
use Rattle.pmem_alloc.specs.Map.{MapState, is_block}
use Rattle.pmem_pages.proofs.Owning.{changed_first, changed_second}
use Rattle.vos_entries.specs.Entries.{entries_owner}
use Rattle.vos_pool_base.specs.vos_image.Content.{shown}
use Rattle.vos_pool_base.specs.vos_path.Objects.{objects_owner}
use Rattle.vos_pool_base.proofs.vos_path.Written.{holds_first, holds_second}
use Rattle.vos_pool_base.specs.vos_places.Laws.{counted, counter_range}
use Rattle.vos_pool_stage.specs.Laws.{EntriesAreStaged, ObjectsAreStaged, StagedAreShown, StagedStands, StagingBegins}
use Rattle.vos_pool_base.specs.vos_standing.Standing.{Stand, StaysBeside, content}
use Rattle.vos_pool_base.proofs.vos_standing.Changing.{blocks_are_shown, blocks_change}
use Rattle.vos_pool_base.proofs.vos_standing.Standing.{allows_after_blocks, fits_stay, stands_after_blocks}

pub staging_begins : StagingBegins
staging_begins target size f m t x s read = record {
  was = read;
  now = read;
  beside = record { bytes = λ i low. refl; map = record { end = refl; bits = λ b out. refl } };
  holds = s.holds;
}

pub staged_are_shown : StagedAreShown
staged_are_shown size f m staged n y k =
    let g = all_over staged f in (
      blocks_are_shown objects_owner size g n y.0 k.now (holds_first objects_owner entries_owner (shown (content size g)) y k.holds),
      blocks_are_shown entries_owner size g n y.1 k.now (holds_second objects_owner entries_owner (shown (content size g)) y k.holds),
    )

-- what stays beside them stays over several calls
beside_then : (l m n : MapState) (f g h : Image) → StaysBeside l f m g → StaysBeside m g n h → StaysBeside l f n h
beside_then l m n f g h first then_it = record {
  bytes = λ i low. then_it.bytes i low ∙ first.bytes i low;
  map = record {
    end = then_it.map.end ∙ first.map.end;
    bits = λ b out. then_it.map.bits b (ap (λ (e : ℕ). is_block e b) first.map.end ∙ out) ∙ first.map.bits b out;
  };
}

pub objects_are_staged : ObjectsAreStaged
objects_are_staged size f m staged n y staged' n' o k read C =
    let g = all_over staged f in
    let h = all_over staged' f in
    let c = blocks_change objects_owner size g h n n' y.0 o k.now read (read.end ∙ sym k.now.end) (holds_first objects_owner entries_owner (shown (content size g)) y k.holds) C in
    record {
      was = k.was;
      now = read;
      beside = beside_then m n n' f g h k.beside c.1;
      holds = (changed_first objects_owner entries_owner (shown (content size g)) (shown (content size h)) y.0 o y.1 k.holds c.0).holds;
    }

pub entries_are_staged : EntriesAreStaged
entries_are_staged size f m staged n y staged' n' e k read C =
    let g = all_over staged f in
    let h = all_over staged' f in
    let c = blocks_change entries_owner size g h n n' y.1 e k.now read (read.end ∙ sym k.now.end) (holds_second objects_owner entries_owner (shown (content size g)) y k.holds) C in
    record {
      was = k.was;
      now = read;
      beside = beside_then m n n' f g h k.beside c.1;
      holds = (changed_second objects_owner entries_owner (shown (content size g)) (shown (content size h)) y.0 y.1 e k.holds c.0).holds;
    }

pub staged_stands : StagedStands
staged_stands size f m staged n t c y k next =
    let r = counter_range c in
    let g = all_over staged f in
    let s = k.staged_is in
    subst (λ (h : Image). Stand t.header.target size h (counted c t) y) (sym (all_over-push staged r f))
    (stands_after_blocks t.header.target size f g (over r g) m n t k.before y c k.stood s.was s.now s.beside s.holds refl next.numbers next.lease k.objects k.entries
    (fits_stay (content size f) (content size (over r g)) y
    (allows_after_blocks t.header.target size f g m n t k.before y c k.stood s.was s.now s.beside s.holds next.numbers next.lease k.objects k.entries) k.fits))
