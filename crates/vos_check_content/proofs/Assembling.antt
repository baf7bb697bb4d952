-- The steps of the reading of a content, put together.
use Rattle.std.proofs.Common.{◌≡◌, ℕ, ◌+◌, List, [], ◌∷◌, Result, Ok, Err, refl, sym, ap, ◌∙◌, subst, arith}
use Rattle.std.specs.Prelude.{map, slice_index}
use Rattle.base_outside.specs.Images.{Image, bytes_at}
use Rattle.base_outside.specs.ImageLaws.{get_or-bytes_at}
use Rattle.vos_entries.specs.Entries.{Entries}
use Rattle.vos_image.specs.vos_path.Objects.{Objects}
use Rattle.vos_image.specs.Steps.{Step, read_of}
use Rattle.vos_image.specs.Content.{Content, content_of}
use Rattle.vos_image.specs.Kept.{read_content, read_whole}
use Rattle.vos_image.specs.Kinds.{entries, objects}
use Rattle.vos_image.specs.Nodes.{Node, nodes_in}
use Rattle.vos_image.specs.Places.{Places, read_places}
use Rattle.vos_image.specs.Trees.{read_tree}
use Rattle.vos_check_entries.specs.vos_check.declared.node.NodeRow.{NodeRow}
use Rattle.vos_check_entries.specs.vos_check.Rows.{row_of}
use Rattle.vos_check_base.specs.Answers.{IsFault, MarksIn, Reads, content}
use Rattle.vos_check_base.specs.Sets.{Set}
use Rattle.vos_check_base.specs.declared.ground.Ground.{Ground}
use Rattle.vos_check_places.specs.declared.fault.Fault.{Fault}
use Rattle.vos_check_places.specs.declared.fault.Fault.TheVariants.{Foreign as PlaceForeign, Memory as PlaceMemory}
use Rattle.vos_check_places.specs.Shown.{Shows, StopsAt}
use Rattle.vos_check_base.specs.declared.refusal.CheckNo.{CheckNo}
use Rattle.vos_check_base.specs.declared.refusal.CheckNo.TheVariants.{Stopped, Foreign, Memory}
use Rattle.vos_check_base.proofs.Steps.{off, on}
use Rattle.vos_check_entries.specs.Nodes.{node_in}
use Rattle.vos_check_content.specs.Whole.{IsFaulty, fault_of_places}

-- nodes that were gathered are told by their rows
rows_tell : (ns : List Node) → map node_in (map row_of ns) ≡ ns
rows_tell [] = refl
rows_tell (n ∷ ns) = ap (λ z. n ∷ z) (rows_tell ns)

pub nodes_told : (rows : List NodeRow) (ns : List Node) → rows ≡ map row_of ns → map node_in rows ≡ ns
nodes_told rows ns h = ap (map node_in) h ∙ rows_tell ns

-- ---- a fault

pub fault_at : {A : Type 0} (target size : ℕ) (f : Image) (o : Result (A × List ℕ) ℕ) (e : CheckNo) → ((at : ℕ) → o ≡ Err at → read_whole target (content_of size f) [] ≡ Err at) → IsFault (content_of size f) o e → IsFaulty target size f e
unfolding read_content
fault_at target size f o (Foreign at byte) goes h = (ap read_of (goes at h.0), h.1)
fault_at target size f o Stopped goes h = tt
fault_at target size f o Memory goes h = tt

pub places_off : (target : ℕ) (c : Content) (at : ℕ) → read_places target c [] ≡ Err at → read_whole target c [] ≡ Err at
unfolding read_whole
places_off target c at h = off _ _ [] at h

pub objects_off : (target : ℕ) (c : Content) (p : Places) (led : List ℕ) (at : ℕ) → read_places target c [] ≡ Ok (p, led) → read_tree objects c p.header.objects led ≡ Err at → read_whole target c [] ≡ Err at
unfolding read_whole
objects_off target c p led at one h = on _ _ [] p led _ one (off _ _ led at h)

pub entries_off : (target : ℕ) (c : Content) (p : Places) (o : Objects) (led more : List ℕ) (at : ℕ) → read_places target c [] ≡ Ok (p, led) → read_tree objects c p.header.objects led ≡ Ok (o, more) → read_tree (entries (nodes_in o)) c p.header.entries more ≡ Err at → read_whole target c [] ≡ Err at
unfolding read_whole
entries_off target c p o led more at one two h = on _ _ [] p led _ one (on _ _ led o more _ two (off _ _ more at h))

pub all_on : (target size : ℕ) (f : Image) (p : Places) (o : Objects) (e : Entries) (led more last : List ℕ) → read_places target (content_of size f) [] ≡ Ok (p, led) → read_tree objects (content_of size f) p.header.objects led ≡ Ok (o, more)
    → read_tree (entries (nodes_in o)) (content_of size f) p.header.entries more ≡ Ok (e, last) → read_content target size f ≡ Ok (record { places = p; stored = (o, e) })
unfolding read_content read_whole
all_on target size f p o e led more last one two three = ap read_of (on _ _ [] p led _ one (on _ _ led o more _ two (on _ _ more e last _ three refl)))

-- ---- fixed places

pub places_shown : (f : Image) (fixed map : List ℕ) → fixed ≡ bytes_at f 0 36864 → map ≡ bytes_at f 307200 16384 → Shows f fixed map
places_shown f fixed map one two = record {
  low = λ i from to. let e : 0 + i ≡ i = omega arith in sym (ap (λ (z : List ℕ). slice_index z i) one ∙ (get_or-bytes_at f 0 36864 i (omega (arith, to)) ∙ ap f e));
  high = λ i from to. let e : 0 + i ≡ i = omega arith in sym (ap (λ (z : List ℕ). slice_index z i) one ∙ (get_or-bytes_at f 0 36864 i to ∙ ap f e));
  blocks = sym two;
}

pub places_fault : (target size : ℕ) (f : Image) (e : Fault) → StopsAt (read_places target (content_of size f) []) f e → IsFault (content_of size f) (read_places target (content_of size f) []) (fault_of_places e)
places_fault target size f (PlaceForeign at byte) h = (h.stops, h.shown)
places_fault target size f PlaceMemory h = tt

-- ---- contents that are judged alike

pub content_same : (g k : Ground) (f h : Image) (d : Content) → h ≡ f → g ≡ k → content k f ≡ d → content g h ≡ d
content_same g k f h d same is so = ap (content g) same ∙ (ap (λ (z : Ground). content z f) is ∙ so)

pub marks_as : (c d : Content) (s : Set) (led : List ℕ) → c ≡ d → MarksIn c s led → MarksIn d s led
marks_as c d s led same m = subst (λ (z : Content). MarksIn z s led) same m

pub reads_as : {A : Type 0} (g : Ground) (h : Image) (d : Content) (step : Content → Step A) (before after : Set) (P : A → Type 0) (led : List ℕ) → content g h ≡ d
    → ((led : List ℕ) → MarksIn (content g h) before led → Reads (content g h) (step (content g h) led) after P) → MarksIn d before led → Reads d (step d led) after P
reads_as g h d step before after P led same does marks = subst (λ (z : Content). Reads z (step z led) after P) same (does led (subst (λ (z : Content). MarksIn z before led) (sym same) marks))

pub fault_as : {A : Type 0} (g : Ground) (h : Image) (d : Content) (step : Content → Step A) (before : Set) (e : CheckNo) (led : List ℕ) → content g h ≡ d
    → ((led : List ℕ) → MarksIn (content g h) before led → IsFault (content g h) (step (content g h) led) e) → MarksIn d before led → IsFault d (step d led) e
fault_as g h d step before e led same does marks = subst (λ (z : Content). IsFault z (step z led) e) same (does led (subst (λ (z : Content). MarksIn z before led) (sym same) marks))
