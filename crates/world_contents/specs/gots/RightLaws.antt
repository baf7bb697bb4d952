-- What clients were told is right, where what targets served was answered right.
use Rattle.std.specs.Prelude.{ℕ, zero, suc, ◌≡◌, ◌<◌, ◌+◌, ◌++◌, max, List, [], ◌∷◌, map, Option, Some, None, refl}
use Rattle.std.specs.List.{range_with_len}
use Rattle.std.proofs.Common.{sym, ◌∙◌, ap, subst, arith}
use Rattle.base_types.specs.declared.answer.Answer.{Answer}
use Rattle.base_types.specs.declared.epoch.Epoch.{Epoch}
use Rattle.base_types.specs.declared.id.AttemptId.{AttemptId}
use Rattle.base_types.specs.declared.id.Class.{Class}
use Rattle.base_types.specs.declared.id.ObjId.{ObjId}
use Rattle.base_types.specs.declared.operation.Read.{Read}
use Rattle.base_types.specs.declared.operation.Read.TheVariants as read
use Rattle.base_types.specs.Operations.{read_path}
use Rattle.base_types.specs.Placement.{ClassFits, group_of, groups}
use Rattle.base_types.specs.PlacementLaws.{groups-positive}
use Rattle.model_laws.specs.Groups.{IsPartUnder, group_part, join_all, join_more, join_two}
use Rattle.model_laws.specs.JoinLaws.{dkey-one_group, dkeys-joined, exists-joined, group_part-is}
use Rattle.model_laws.specs.ReadLaws.{answer-same}
use Rattle.daos_model.specs.declared.cell.CellValue.{CellValue}
use Rattle.daos_model.specs.Answers.{answer}
use Rattle.daos_model.specs.Opening.{Opening}
use Rattle.std.proofs.lemmas.List.{map_push}
use Rattle.world_commit.specs.world_base.ClientTurns.{group_asked, group_count, joined}
use Rattle.world_commit.specs.world_base.Events.{Rules}
use Rattle.world_contents.specs.gots.Gots.{AreJoined, IsJoined, IsServedTo, NoneYet, OneMore, group_at, groups_asked}
use Rattle.world_contents.specs.gots.Right.{AreAnsweredRight, IsJoinable, JoinsAreRight}
use Rattle.world_commit.specs.attempts.History.{History}
use Rattle.world_contents.specs.reads.Reads.{IsAnsweredRight, map_seen}

-- ---- one group

-- what a group answers on its part of a map
abbrev part_answer : Class → ℕ → Read → List CellValue → ℕ → Answer
part_answer class targets q m g = answer q (group_part class targets g m)

same-part : (class : Class) (targets : ℕ) (q : Read) (g : ℕ) (m part : List CellValue) → IsPartUnder class targets (read_path q) g m part → answer q part ≡ part_answer class targets q m g
same-part class targets q g m part is = answer-same q part (group_part class targets g m) (λ c at. is c at ∙ sym (group_part-is class targets (read_path q) g m c at))

one-right : (r : Rules) (o : Opening) (h : History) (x : AttemptId) (op g : ℕ) (q : Read) (b : Answer) (e : Epoch) (obj : ObjId) (m : List CellValue) → AreAnsweredRight r o h → map_seen r o h x e ≡ Some m → (read_path q).obj ≡ Some obj
    → IsServedTo h x op g q b (Some e) → b ≡ part_answer obj.class r.script.targets q m g
one-right r o h x op g q b e obj m all seen of_object s = gave ∙ same-part obj.class r.script.targets q g m a.part part
  where
    a : IsAnsweredRight r o h s.q
    a = all s.q s.among

    epoch : s.q.epoch ≡ e
    epoch = let k : Some e ≡ Some s.q.epoch = s.at in cc

    same_obj : a.obj ≡ obj
    same_obj = let k : Some a.obj ≡ Some obj = sym a.of_object ∙ ap (λ z. (read_path z).obj) s.asked ∙ of_object in cc

    same_map : a.map ≡ m
    same_map = let k : Some a.map ≡ Some m = sym a.seen ∙ ap (λ z. map_seen r o h z s.q.epoch) s.of_attempt ∙ ap (map_seen r o h x) epoch ∙ seen in cc

    part : IsPartUnder obj.class r.script.targets (read_path q) g m a.part
    part =
        subst (λ z. IsPartUnder z.class r.script.targets (read_path q) g m a.part) same_obj
        (subst (λ z. IsPartUnder a.obj.class r.script.targets (read_path z) g m a.part) s.asked
        (subst (λ z. IsPartUnder a.obj.class r.script.targets (read_path s.q.read) z m a.part) s.of_group
        (subst (λ z. IsPartUnder a.obj.class r.script.targets (read_path s.q.read) s.q.group z a.part) same_map a.is_part)))

    gave : b ≡ answer q a.part
    gave = sym s.gave ∙ a.right ∙ ap (λ z. answer z a.part) s.asked

-- ---- several groups

-- several answers joined, if there are any
abbrev join_some : List Answer → Option Answer
join_some [] = None
join_some (a ∷ as') = Some (join_more a as')

more-next : (a : Answer) (as' : List Answer) (b : Answer) → join_two (join_more a as') b ≡ join_more a (as' ++ b ∷ [])
more-next a [] b = refl
more-next a (c ∷ cs) b = more-next (join_two a c) cs b

some-next : (as' : List Answer) (b : Answer) → Some (joined (join_some as') b) ≡ join_some (as' ++ b ∷ [])
some-next [] b = refl
some-next (a ∷ as') b = ap (λ z. Some z) (more-next a as' b)

some-all : (as' : List Answer) (b : Answer) → Some b ≡ join_some as' → b ≡ join_all as'
some-all [] b e = let no : ⊥ = cc in absurd no
some-all (a ∷ as') b e = cc

range-suc : (a n : ℕ) → range_with_len a (suc n) ≡ range_with_len a n ++ (a + n) ∷ []
range-suc a zero = let z : a ≡ a + zero = omega arith in ap (λ k. k ∷ []) z
range-suc a (suc n) = let z : (a + 1) + n ≡ a + suc n = omega arith in ap (λ ns. a ∷ ns) (range-suc (a + 1) n ∙ ap (λ k. range_with_len (a + 1) n ++ k ∷ []) z)

-- one number more
range-next : (n : ℕ) → range_with_len 0 (n + 1) ≡ range_with_len 0 n ++ n ∷ []
range-next n =
    let s : n + 1 ≡ suc n = omega arith in
    let z : 0 + n ≡ n = omega arith in
    ap (range_with_len 0) s ∙ range-suc 0 n ∙ ap (λ k. range_with_len 0 n ++ k ∷ []) z

map-same : {A B : Type 0} (f g : A → B) (xs : List A) → ((x : A) → f x ≡ g x) → map f xs ≡ map g xs
map-same f g [] same = refl
map-same f g (x ∷ xs) same = ap (λ y. y ∷ map f xs) (same x) ∙ ap (λ ys. g x ∷ ys) (map-same f g xs same)

-- what so many groups gave is what they answer on their parts
joined-right : (r : Rules) (o : Opening) (h : History) (x : AttemptId) (op : ℕ) (q : Read) (e : Epoch) (obj : ObjId) (m : List CellValue) (n : ℕ) (found : Option Answer) → AreAnsweredRight r o h → map_seen r o h x e ≡ Some m → (read_path q).obj ≡ Some obj
    → AreJoined h x r.script.targets op q (Some e) n found
    → found ≡ join_some (map (λ k. part_answer obj.class r.script.targets q m (group_at q r.script.targets k)) (range_with_len 0 n))
joined-right r o h x op q e obj m n found all seen of_object NoneYet = refl
joined-right r o h x op q e obj m n found all seen of_object (OneMore i before b j s) =
    ap (λ z. Some (joined z b)) (joined-right r o h x op q e obj m i before all seen of_object j)
    ∙ ap (λ z. Some (joined (join_some (map f (range_with_len 0 i))) z)) (one-right r o h x op (group_at q r.script.targets i) q b e obj m all seen of_object s)
    ∙ some-next (map f (range_with_len 0 i)) (f i) ∙ ap join_some (sym (map_push f (range_with_len 0 i) i)) ∙ ap (λ ns. join_some (map f ns)) (sym (range-next i))
  where
    f : ℕ → Answer
    f k = part_answer obj.class r.script.targets q m (group_at q r.script.targets k)

-- ---- all groups

dkey-right : (r : Rules) (o : Opening) (h : History) (x : AttemptId) (op : ℕ) (q : Read) (e : Epoch) (b : Answer) (obj : ObjId) (m : List CellValue) (k : List ℕ) → AreAnsweredRight r o h → map_seen r o h x e ≡ Some m → (read_path q).obj ≡ Some obj
    → (read_path q).dkey ≡ Some k → IsJoined h x r.script.targets op q (Some e) b → b ≡ answer q m
dkey-right r o h x op q e b obj m k all seen of_object dkey j = some ∙ ap f' group ∙ sym (dkey-one_group obj.class r.script.targets q k m (group_part obj.class r.script.targets g m) dkey (group_part-is obj.class r.script.targets (read_path q) g m))
  where
    g : ℕ
    g = group_of obj.class k r.script.targets

    f' : ℕ → Answer
    f' = part_answer obj.class r.script.targets q m

    group : group_at q r.script.targets 0 ≡ g
    group = ap (λ z. group_asked z (read_path q).dkey r.script.targets 0) of_object ∙ ap (λ z. group_asked (Some obj) z r.script.targets 0) dkey

    count : groups_asked (read_path q) r.script.targets ≡ 1
    count = ap (λ z. max 1 (group_count z (read_path q).dkey r.script.targets)) of_object ∙ ap (λ z. max 1 (group_count (Some obj) z r.script.targets)) dkey

    some : b ≡ f' (group_at q r.script.targets 0)
    some = let same : Some b ≡ Some (f' (group_at q r.script.targets 0)) = joined-right r o h x op q e obj m 1 (Some b) all seen of_object (subst (λ n. AreJoined h x r.script.targets op q (Some e) n (Some b)) count j) in cc

-- without a dkey all the groups are asked
groups-right : (r : Rules) (o : Opening) (h : History) (x : AttemptId) (op : ℕ) (q : Read) (e : Epoch) (b : Answer) (obj : ObjId) (m : List CellValue) → AreAnsweredRight r o h → map_seen r o h x e ≡ Some m → (read_path q).obj ≡ Some obj → (read_path q).dkey ≡ None
    → ClassFits obj.class r.script.targets → IsJoined h x r.script.targets op q (Some e) b
    → b ≡ join_all (map (λ g. part_answer obj.class r.script.targets q m g) (range_with_len 0 (groups obj.class r.script.targets)))
groups-right r o h x op q e b obj m all seen of_object dkey fits j = some-all (map f' (range_with_len 0 n)) b (some ∙ ap join_some (map-same (λ k. f' (group_at q r.script.targets k)) f' (range_with_len 0 n) (λ k. ap f' (group k))))
  where
    n : ℕ
    n = groups obj.class r.script.targets

    f' : ℕ → Answer
    f' = part_answer obj.class r.script.targets q m

    group : (k : ℕ) → group_at q r.script.targets k ≡ k
    group k = ap (λ z. group_asked z (read_path q).dkey r.script.targets k) of_object ∙ ap (λ z. group_asked (Some obj) z r.script.targets k) dkey

    one_at_least : (i : ℕ) → 0 < i → max 1 i ≡ i
    one_at_least i some = omega arith

    count : groups_asked (read_path q) r.script.targets ≡ n
    count = ap (λ z. max 1 (group_count z (read_path q).dkey r.script.targets)) of_object ∙ ap (λ z. max 1 (group_count (Some obj) z r.script.targets)) dkey ∙ one_at_least n (groups-positive obj.class r.script.targets fits)

    some : Some b ≡ join_some (map (λ k. f' (group_at q r.script.targets k)) (range_with_len 0 n))
    some = joined-right r o h x op q e obj m n (Some b) all seen of_object (subst (λ i. AreJoined h x r.script.targets op q (Some e) i (Some b)) count j)

pub joins-right : JoinsAreRight
joins-right r o h x op q e b m all k seen dkeys j = by q refl k.joinable (read_path q).dkey refl
  where
    by : (z : Read) → q ≡ z → IsJoinable z → (d : Option (List ℕ)) → (read_path q).dkey ≡ d → b ≡ answer q m
    by z same i (Some key) dkey = dkey-right r o h x op q e b k.obj m key all seen k.of_object dkey j
    by (read.Single p) same i None dkey = let no : ⊥ = cc (i.1, dkey, ap (λ z. (read_path z).dkey) same) in absurd no
    by (read.Extent p low len) same i None dkey = let no : ⊥ = cc (i.1, dkey, ap (λ z. (read_path z).dkey) same) in absurd no
    by (read.Akeys p) same i None dkey = let no : ⊥ = cc (i.1, dkey, ap (λ z. (read_path z).dkey) same) in absurd no
    by (read.Dkeys p) same i None dkey =
        groups-right r o h x op q e b k.obj m all seen k.of_object dkey k.fits j
        ∙ ap (λ z. join_all (map (λ g. part_answer k.obj.class r.script.targets z m g) (range_with_len 0 (groups k.obj.class r.script.targets)))) same
        ∙ sym (dkeys-joined k.obj.class r.script.targets p m (λ g. group_part k.obj.class r.script.targets g m) k.fits (λ g lt. group_part-is k.obj.class r.script.targets p g m))
        ∙ ap (λ z. answer z m) (sym same)
    by (read.Exists p) same i None dkey =
        groups-right r o h x op q e b k.obj m all seen k.of_object dkey k.fits j
        ∙ ap (λ z. join_all (map (λ g. part_answer k.obj.class r.script.targets z m g) (range_with_len 0 (groups k.obj.class r.script.targets)))) same
        ∙ sym (exists-joined k.obj.class r.script.targets p m (λ g. group_part k.obj.class r.script.targets g m) k.fits dkeys (λ g lt. group_part-is k.obj.class r.script.targets p g m))
        ∙ ap (λ z. answer z m) (sym same)
