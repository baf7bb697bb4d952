-- What isn't sought among the first rows is found behind them.
use Rattle.std.proofs.Common.{◌≡◌, ℕ, zero, suc, Bool, true, false, ◌&&◌, ◌||◌, not, List, [], ◌∷◌, ◌++◌, Some, map, arith, take, drop, ◌+◌, ◌≤◌, ◌<◌, length, get_or, refl, sym, subst, ◌∙◌, ap}
use Rattle.std.specs.Prelude.{filter, find, if◌then◌else◌, nat_le, nat_lt}
use Rattle.std.specs.List.{list_all}
use Rattle.std.proofs.lemmas.Bool.Decides.{nat_tests}
use Rattle.std.proofs.lemmas.List.{append-nil, drop_all, length-drop, take-take, take_all}
use Rattle.base_types.specs.declared.id.AttemptId.{AttemptId}
use Rattle.base_types.specs.declared.path.Path.{Path}
use Rattle.base_types.specs.Paths.{overlaps}
use Rattle.daos_model.specs.declared.durable.Version.{Version}
use Rattle.daos_model.specs.Answers.{is_before}
use Rattle.daos_model.specs.BoolLaws.{and_left, and_right, both}
use Rattle.daos_model.specs.Durables.{same_attempt, version_key}
use Rattle.daos_model.specs.Ordered.{all_from, is_in_order}
use Rattle.daos_model.specs.Versions.{blocks_read, done_by, first_between, first_blocking, is_between, is_not_pending, is_pending, version_path}
use Rattle.vos_rows.specs.Tables.{is_done, is_upto}
use Rattle.vos_rows.proofs.Putting.{from-last, in_order-take, last_taken}

-- none of the first rows passes a test: what passes it first stands behind them
pub find-behind : (q t : Version → Bool) (n : ℕ) (vs : List Version) → ((v : Version) → t v ≡ true → q v ≡ false) → list_all t (take n vs) ≡ true → find q (drop n vs) ≡ find q vs
find-behind q t zero vs not_q h = refl
find-behind q t (suc n) [] not_q h = refl
find-behind q t (suc n) (v ∷ vs) not_q h =
    find-behind q t n vs not_q (and_right (t v) (list_all t (take n vs)) h)
    ∙ sym (ap (λ (b : Bool). if b then Some v else find q vs) (not_q v (and_left (t v) (list_all t (take n vs)) h)))

done-same : (a : AttemptId) (v : Version) → is_done v ≡ true → done_by a v ≡ v
unfolding done_by
done-same a v h = ap (λ (b : Bool). record v { done = b || same_attempt v.by a }) h ∙ ap (λ (b : Bool). record v { done = b }) (sym h)

-- an attempt's versions that are done stay so
pub done-behind : (a : AttemptId) (n : ℕ) (vs : List Version) → list_all is_done (take n vs) ≡ true → take n vs ++ map (done_by a) (drop n vs) ≡ map (done_by a) vs
done-behind a zero vs h = refl
done-behind a (suc n) [] h = refl
done-behind a (suc n) (v ∷ vs) h =
    ap (λ x. x ∷ (take n vs ++ map (done_by a) (drop n vs))) (sym (done-same a v (and_left (is_done v) (list_all is_done (take n vs)) h)))
    ∙ ap (λ xs. done_by a v ∷ xs) (done-behind a n vs (and_right (is_done v) (list_all is_done (take n vs)) h))

-- what is done keeps no read from its answer
pub done-blocks : (p : Path) (e : ℕ) (v : Version) → is_done v ≡ true → blocks_read p e v ≡ false
unfolding blocks_read
done-blocks p e v h = ap (λ (b : Bool). not b && nat_lt v.epoch.0 e && overlaps p (version_path v)) h

-- what is up to an epoch isn't above it
pub upto-between : (p : Path) (above upto : ℕ) (v : Version) → is_upto above v ≡ true → is_between p above upto v ≡ false
unfolding is_between
upto-between p above upto v h = by (nat_lt above v.epoch.0) refl
  where
    by : (b : Bool) → nat_lt above v.epoch.0 ≡ b → (b && nat_le v.epoch.0 upto && overlaps p (version_path v)) ≡ false
    by true e = let no : ⊥ = grind (arith, nat_tests) in absurd no
    by false e = refl

-- an attempt's versions are made done behind those that are
pub settled-behind : (a : AttemptId) (k j : ℕ) (vs new : List Version) → k + j ≡ length vs → new ≡ map (done_by a) (take j (drop k vs)) → list_all is_done (take k vs) ≡ true → take k vs ++ (new ++ drop j (drop k vs)) ≡ map (done_by a) vs
settled-behind a k j vs new is e h =
    let short : length (drop k vs) ≤ j = omega (arith, is, length-drop k vs) in
    ap (λ xs. take k vs ++ (new ++ xs)) (drop_all j (drop k vs) short)
    ∙ ap (λ xs. take k vs ++ xs) (append-nil new ∙ e ∙ ap (map (done_by a)) (take_all j (drop k vs) short))
    ∙ done-behind a k vs h

-- what blocks a read is found behind those that are done
pub blocking-behind : (p : Path) (e k j : ℕ) (vs : List Version) → k + j ≡ length vs → list_all is_done (take k vs) ≡ true → first_blocking p e (take j (drop k vs)) ≡ first_blocking p e vs
unfolding first_blocking
blocking-behind p e k j vs is h =
    ap (find (blocks_read p e)) (take_all j (drop k vs) (omega (arith, is, length-drop k vs)))
    ∙ find-behind (blocks_read p e) is_done k vs (done-blocks p e) h

-- what is between two epochs is found behind those up to the first of them
pub between-behind : (p : Path) (above upto k j : ℕ) (vs : List Version) → k + j ≡ length vs → list_all (is_upto above) (take k vs) ≡ true → first_between p above upto (take j (drop k vs)) ≡ first_between p above upto vs
unfolding first_between
between-behind p above upto k j vs is h =
    ap (find (is_between p above upto)) (take_all j (drop k vs) (omega (arith, is, length-drop k vs)))
    ∙ find-behind (is_between p above upto) (is_upto above) k vs (upto-between p above upto) h

-- of two versions in order the first has no later epoch
epoch-before : (u x : Version) → is_before (version_key u) (version_key x) ≡ false → x.epoch.0 ≤ u.epoch.0
epoch-before u x h = by (nat_lt u.epoch.0 x.epoch.0) refl
  where
    by : (b : Bool) → nat_lt u.epoch.0 x.epoch.0 ≡ b → x.epoch.0 ≤ u.epoch.0
    by false e = grind (arith, nat_tests)
    by true e = let no : ⊥ = cc in absurd no

-- versions in order of which the last is up to an epoch are all up to it
pub upto-last : (e : ℕ) (u : Version) (us : List Version) → is_in_order version_key (us ++ u ∷ []) ≡ true → u.epoch.0 ≤ e → list_all (is_upto e) (us ++ u ∷ []) ≡ true
upto-last e u [] order le = both (is_upto e u) true (grind (arith, nat_tests)) refl
upto-last e u (x ∷ us) order le =
    let first : x.epoch.0 ≤ u.epoch.0 = epoch-before u x (from-last version_key (version_key x) u us (and_left (all_from version_key (version_key x) (us ++ u ∷ [])) (is_in_order version_key (us ++ u ∷ [])) order)) in
    both (is_upto e x) (list_all (is_upto e) (us ++ u ∷ [])) (grind (arith, nat_tests))
    (upto-last e u us (and_right (all_from version_key (version_key x) (us ++ u ∷ [])) (is_in_order version_key (us ++ u ∷ [])) order) le)

-- so are those before a place, where the last of them is
pub upto-place : (e i j : ℕ) (u : Version) (vs : List Version) → i ≡ j + 1 → j < length vs → u ≡ get_or vs j u → is_in_order version_key vs ≡ true → u.epoch.0 ≤ e → list_all (is_upto e) (take i vs) ≡ true
upto-place e i j u vs is lt at order le =
    let taken : take i vs ≡ take j vs ++ u ∷ [] = last_taken version_key u vs i j is lt at in
    ap (list_all (is_upto e)) taken
    ∙ upto-last e u (take j vs) (subst (λ xs. is_in_order version_key xs ≡ true) taken (in_order-take version_key i vs order)) le

-- rows are done up to the lesser of two places, once one more is put at one of them
pub done-put : (n at : ℕ) (v : Version) (vs : List Version) → n ≤ at → at ≤ length vs → list_all is_done (take n vs) ≡ true → list_all is_done (take n (take at vs ++ v ∷ drop at vs)) ≡ true
done-put zero at v vs le within h = refl
done-put (suc n) zero v vs le within h = absurd (omega arith)
done-put (suc n) (suc at) v [] le within h = absurd (omega arith)
done-put (suc n) (suc at) v (x ∷ vs) le within h =
    both (is_done x) (list_all is_done (take n (take at vs ++ v ∷ drop at vs))) (and_left (is_done x) (list_all is_done (take n vs)) h)
    (done-put n at v vs (omega arith) (omega arith) (and_right (is_done x) (list_all is_done (take n vs)) h))

-- fewer of them are done too
pub done-fewer : (n m : ℕ) (vs : List Version) → n ≤ m → list_all is_done (take m vs) ≡ true → list_all is_done (take n vs) ≡ true
done-fewer zero m vs le h = refl
done-fewer (suc n) zero vs le h = absurd (omega arith)
done-fewer (suc n) (suc m) [] le h = refl
done-fewer (suc n) (suc m) (v ∷ vs) le h =
    both (is_done v) (list_all is_done (take n vs)) (and_left (is_done v) (list_all is_done (take m vs)) h)
    (done-fewer n m vs (omega arith) (and_right (is_done v) (list_all is_done (take m vs)) h))

-- what is done stays so
pub done-settled : (a : AttemptId) (n : ℕ) (vs : List Version) → list_all is_done (take n vs) ≡ true → list_all is_done (take n (map (done_by a) vs)) ≡ true
done-settled a zero vs h = refl
done-settled a (suc n) [] h = refl
done-settled a (suc n) (v ∷ vs) h =
    both (is_done (done_by a v)) (list_all is_done (take n (map (done_by a) vs))) (ap is_done (done-same a v (and_left (is_done v) (list_all is_done (take n vs)) h)) ∙ and_left (is_done v) (list_all is_done (take n vs)) h)
    (done-settled a n vs (and_right (is_done v) (list_all is_done (take n vs)) h))

-- the first rows stay, where one more is put behind them
pub same-put : (n at : ℕ) (v : Version) (vs : List Version) → n ≤ at → at ≤ length vs → take n (take at vs ++ v ∷ drop at vs) ≡ take n vs
same-put zero at v vs le within = refl
same-put (suc n) zero v vs le within = absurd (omega arith)
same-put (suc n) (suc at) v [] le within = absurd (omega arith)
same-put (suc n) (suc at) v (x ∷ vs) le within = ap (λ xs. x ∷ xs) (same-put n at v vs (omega arith) (omega arith))

-- and so do fewer of them
pub same-fewer : (n m : ℕ) (vs us : List Version) → n ≤ m → take m vs ≡ take m us → take n vs ≡ take n us
same-fewer n m vs us le e = sym (take-take n m vs le) ∙ ap (λ xs. take n xs) e ∙ take-take n m us le

-- so do those that are done, where an attempt's are made done
pub same-settled : (a : AttemptId) (n : ℕ) (vs : List Version) → list_all is_done (take n vs) ≡ true → take n (map (done_by a) vs) ≡ take n vs
same-settled a zero vs h = refl
same-settled a (suc n) [] h = refl
same-settled a (suc n) (v ∷ vs) h =
    ap (λ x. x ∷ take n (map (done_by a) vs)) (done-same a v (and_left (is_done v) (list_all is_done (take n vs)) h))
    ∙ ap (λ xs. v ∷ xs) (same-settled a n vs (and_right (is_done v) (list_all is_done (take n vs)) h))

done-stays : (a : AttemptId) (v : Version) → is_done v ≡ true → is_not_pending a v ≡ true
unfolding is_pending
done-stays a v h = ap (λ (b : Bool). not (same_attempt v.by a && not b)) h ∙ by (same_attempt v.by a)
  where
    by : (b : Bool) → not (b && false) ≡ true
    by true = refl
    by false = refl

-- and where those that aren't go
pub same-unpending : (a : AttemptId) (n : ℕ) (vs : List Version) → n ≤ length vs → list_all is_done (take n vs) ≡ true → (take n (filter (is_not_pending a) vs) ≡ take n vs) × (n ≤ length (filter (is_not_pending a) vs))
same-unpending a zero vs le h = (refl, omega arith)
same-unpending a (suc n) [] le h = absurd (omega arith)
same-unpending a (suc n) (v ∷ vs) le h =
    by (is_not_pending a v) (done-stays a v (and_left (is_done v) (list_all is_done (take n vs)) h)) (same-unpending a n vs (omega arith) (and_right (is_done v) (list_all is_done (take n vs)) h))
  where
    by : (b : Bool) → b ≡ true
        → (take n (filter (is_not_pending a) vs) ≡ take n vs) × (n ≤ length (filter (is_not_pending a) vs))
        → (take (suc n) (if b then v ∷ filter (is_not_pending a) vs else filter (is_not_pending a) vs) ≡ v ∷ take n vs) × (suc n ≤ length (if b then v ∷ filter (is_not_pending a) vs else filter (is_not_pending a) vs))
    by true e (same, long) = (ap (λ xs. v ∷ xs) same, omega (arith, long))
    by false e rest = absurd (let m : ⊥ = cc in m)
