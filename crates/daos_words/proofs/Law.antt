-- The laws of words.
use Rattle.std.proofs.Common.{◌≡◌, ◌≢◌, ℕ, ◌+◌, ◌*◌, ◌<◌, ◌≤◌, Bool, true, false, cond, ltb, List, [], ◌∷◌, ◌++◌, length, Option, Some, None, Result, Ok, Err, refl, ap, ◌∙◌, subst, arith}
use Rattle.std.specs.Prelude.{unwrap_or, IfSome}
use Rattle.std.proofs.lemmas.Bool.Decides.{nat_tests}
use Rattle.base_types.specs.declared.fault.WordFault.{WordFault}
use Rattle.base_types.specs.declared.fault.WordKind.{WordKind}
use Rattle.base_types.specs.declared.fault.WordKind.TheVariants.{NoValue, NoJob, NoCount, BadTarget, NoTarget}
use Rattle.base_types.specs.declared.job.Job.{Job}
use Rattle.base_types.specs.declared.job.Task.{Task}
use Rattle.base_types.specs.declared.job.Task.TheVariants as done
use Rattle.base_text.specs.Results.{◌>>=◌}
use Rattle.base_text.specs.Steps.{steps}
use Rattle.daos_words.specs.declared.given.Given.{Given}
use Rattle.daos_words.specs.declared.given.JobWord.{JobWord}
use Rattle.daos_words.specs.declared.given.JobWord.TheVariants.{Run, Load, Rebuild, Dfs, Audit}
use Rattle.daos_words.specs.declared.given.Setting.{Setting}
use Rattle.daos_words.specs.Laws.{IsWithin, IsInForm, IsTask, WordsLaw}
use Rattle.daos_words.specs.Words.{fault, with_word, job_with, rebuild_if, targets_of, task_of, ended_after, ended, nothing_given, job_of}
use Rattle.daos_words.proofs.Sound.{IsNamed, IsSound, bit, named_most, one, one_most, said, word_adds}

abbrev Asked : Type 0
Asked = Result Job WordFault

pub nothing_sound : IsSound nothing_given
nothing_sound = record { in_job = tt; in_targets = tt; in_size = tt; in_attempts = tt; in_epsilon = tt; apart = λ e. absurd cc; waits = tt }

steps_sound : (at : ℕ) (g t : Given) (ws : List (List ℕ)) → IsSound g → steps with_word at g ws ≡ Ok t → IsSound t
unfolding steps
steps_sound at g t [] h e = let same : g ≡ t = cc in subst IsSound same h
steps_sound at g t (w ∷ ws) h e = go (with_word at g w) refl e (λ u k f. steps_sound (at + 1) u t ws k f)
  where
    go : (x : Result Given WordFault) → with_word at g w ≡ x → (x >>= λ u. steps with_word (at + 1) u ws) ≡ Ok t
        → ((u : Given) → IsSound u → steps with_word (at + 1) u ws ≡ Ok t → IsSound t) → IsSound t
    go (Err f) r e ih = absurd cc
    go (Ok u) r e ih = ih u (word_adds at g w u h r).sound e

-- a value that is given lies in its range, and so does a default
in_range : (lo hi d : ℕ) (o : Option ℕ) → IfSome o (IsWithin lo hi) → IsWithin lo hi d → IsWithin lo hi (unwrap_or o d)
in_range lo hi d None h k = k
in_range lo hi d (Some n) h k = h

no_order : (g : Given) → IsSound g → g.threads ≡ true → unwrap_or g.order 0 ≡ 0
no_order g h e = ap (λ (o : Option ℕ). unwrap_or o 0) (h.apart e)

job_in_form : (task : Task) (g : Given) → IsSound g → IsTask (targets_of g) task → IsInForm (job_with task g)
job_in_form task g h k = record {
  task = k;
  targets = in_range 1 64 4 g.targets h.in_targets (omega arith, omega arith);
  size = in_range 2 32 4 g.size h.in_size (omega arith, omega arith);
  attempts = in_range 1 100 8 g.attempts h.in_attempts (omega arith, omega arith);
  epsilon = (in_range 0 1000000 0 g.epsilon h.in_epsilon (omega arith, omega arith)).1;
  apart = no_order g h;
}

abbrev Tasked : Type 0
Tasked = Result Task WordFault

task_is : (i j : Task) → let x : Tasked = Ok i in x ≡ Ok j → i ≡ j
task_is i j e = cc

is_below : (m n : ℕ) → ltb m n ≡ true → m < n
is_below m n e = grind (arith, nat_tests)

-- the task of what is given can be done on the targets asked for
rebuild_in_form : (at targets : ℕ) (o : Option ℕ) (task : Task) → IfSome o (IsWithin 1 63) → rebuild_if at targets o ≡ Ok task → IsTask targets task
rebuild_in_form at targets None task h e = absurd cc
rebuild_in_form at targets (Some target) task h e = go (ltb target targets) refl e
  where
    go : (b : Bool) → ltb target targets ≡ b → let x : Tasked = cond b (Ok (done.Rebuild target)) (fault at BadTarget) in x ≡ Ok task → IsTask targets task
    go true r e = let some : 1 ≤ target = h.0 in subst (IsTask targets) (task_is (done.Rebuild target) task e) (omega (arith, some), is_below target targets r)
    go false r e = absurd cc

task_in_form : (at targets : ℕ) (o : Option JobWord) (task : Task) → IsNamed o → task_of at targets o ≡ Ok task → IsTask targets task
task_in_form at targets None task h e = absurd cc
task_in_form at targets (Some Run) task h e = subst (IsTask targets) (task_is _ task e) tt
task_in_form at targets (Some (Load None)) task h e = absurd cc
task_in_form at targets (Some (Load (Some n))) task h e = subst (IsTask targets) (task_is _ task e) h
task_in_form at targets (Some (Rebuild None)) task h e = absurd cc
task_in_form at targets (Some (Rebuild (Some lost))) task h e = rebuild_in_form lost.place targets lost.target task h e
task_in_form at targets (Some Dfs) task h e = subst (IsTask targets) (task_is _ task e) tt
task_in_form at targets (Some Audit) task h e = subst (IsTask targets) (task_is _ task e) tt

same_job : (i j : Job) (x : Asked) → x ≡ Ok i → x ≡ Ok j → i ≡ j
same_job i j x e f = cc

asked : (i j : Job) → IsInForm i → let x : Asked = Ok i in x ≡ Ok j → IsInForm j
asked i j h e = subst IsInForm (same_job i j (Ok i) refl e) h

ended_in_form : (at : ℕ) (g : Given) (j : Job) → IsSound g → ended at g ≡ Ok j → IsInForm j
unfolding ended
ended_in_form at g j h e = go g.awaits e
  where
    after : (x : Tasked) → task_of at (targets_of g) g.job ≡ x → (x >>= λ task. Ok (job_with task g)) ≡ Ok j → IsInForm j
    after (Err f) r e = absurd cc
    after (Ok task) r e = asked (job_with task g) j (job_in_form task g h (task_in_form at (targets_of g) g.job task h.in_job r)) e

    go : (x : Option (ℕ × Setting)) → ended_after at g x ≡ Ok j → IsInForm j
    go None e = after (task_of at (targets_of g) g.job) refl e
    go (Some p) e = absurd cc

form : (ws : List (List ℕ)) (j : Job) → job_of ws ≡ Ok j → IsInForm j
unfolding job_of
form ws j e = go (steps with_word 0 nothing_given ws) refl e
  where
    go : (x : Result Given WordFault) → steps with_word 0 nothing_given ws ≡ x → (x >>= λ g. ended (length ws) g) ≡ Ok j → IsInForm j
    go (Err f) r e = absurd cc
    go (Ok g) r e = ended_in_form (length ws) g j (steps_sound 0 nothing_given g ws nothing_sound r) e

-- ---- how many words

-- each word gave something
steps_few : (at : ℕ) (g t : Given) (ws : List (List ℕ)) → IsSound g → steps with_word at g ws ≡ Ok t → said g + length ws ≤ said t
unfolding steps
steps_few at g t [] h e = let same : g ≡ t = cc in let alike : said g ≡ said t = ap (λ u. said u) same in omega (arith, alike)
steps_few at g t (w ∷ ws) h e = go (with_word at g w) refl e (λ u k f. steps_few (at + 1) u t ws k f)
  where
    go : (x : Result Given WordFault) → with_word at g w ≡ x → (x >>= λ u. steps with_word (at + 1) u ws) ≡ Ok t
        → ((u : Given) → IsSound u → steps with_word (at + 1) u ws ≡ Ok t → said u + length ws ≤ said t) → said g + length (w ∷ ws) ≤ said t
    go (Err f) r e ih = absurd cc
    go (Ok u) r e ih = let adds = word_adds at g w u h r in omega (arith, adds.more, ih u adds.sound e)

threads_or_order : (threads : Bool) (order : Option ℕ) → (threads ≡ true → order ≡ None) → bit threads + 2 * one order ≤ 2
threads_or_order false order h = omega (arith, one_most order)
threads_or_order true order h = let none : one order ≡ 0 = ap (λ (o : Option ℕ). one o) (h refl) in omega (arith, none)

ended_few : (at : ℕ) (g : Given) (j : Job) → IsSound g → ended at g ≡ Ok j → said g ≤ 12
unfolding ended
ended_few at g j h e = go g.awaits refl e
  where
    go : (x : Option (ℕ × Setting)) → g.awaits ≡ x → ended_after at g x ≡ Ok j → said g ≤ 12
    go None r e =
        let none : one g.awaits ≡ 0 = ap (λ (o : Option (ℕ × Setting)). one o) r in
        omega (
          arith,
          none,
          named_most g.job,
          one_most g.targets,
          one_most g.size,
          one_most g.attempts,
          one_most g.epsilon,
          threads_or_order g.threads g.order h.apart,
        )
    go (Some p) r e = absurd cc

few : (ws : List (List ℕ)) (j : Job) → job_of ws ≡ Ok j → length ws ≤ 12
unfolding job_of
few ws j e = go (steps with_word 0 nothing_given ws) refl e
  where
    go : (x : Result Given WordFault) → steps with_word 0 nothing_given ws ≡ x → (x >>= λ g. ended (length ws) g) ≡ Ok j → length ws ≤ 12
    go (Err f) r e = absurd cc
    go (Ok g) r e =
        omega (arith, steps_few 0 nothing_given g ws nothing_sound r, ended_few (length ws) g j (steps_sound 0 nothing_given g ws nothing_sound r) e)

-- ---- faults

-- a fault at the end stands behind the last word, or is a value that is missing
fault_is : (at : ℕ) (kind : WordKind) (f : WordFault) → let x : Asked = fault at kind in x ≡ Err f → (f.place ≡ at) × (f.kind ≡ kind)
fault_is at kind f e = let same : f ≡ record { place = at; kind = kind } = cc in (ap (λ (g : WordFault). g.place) same, ap (λ (g : WordFault). g.kind) same)

task_fault : (at : ℕ) (kind : WordKind) (f : WordFault) → let x : Tasked = fault at kind in x ≡ Err f → (f.place ≡ at) × (f.kind ≡ kind)
task_fault at kind f e = let same : f ≡ record { place = at; kind = kind } = cc in (ap (λ (g : WordFault). g.place) same, ap (λ (g : WordFault). g.kind) same)

rebuild_fault : (at targets : ℕ) (o : Option ℕ) (f : WordFault) → rebuild_if at targets o ≡ Err f → f.kind ≡ BadTarget
rebuild_fault at targets None f e = (task_fault at BadTarget f e).1
rebuild_fault at targets (Some target) f e = go (ltb target targets) e
  where
    go : (b : Bool) → let x : Tasked = cond b (Ok (done.Rebuild target)) (fault at BadTarget) in x ≡ Err f → f.kind ≡ BadTarget
    go true e = absurd cc
    go false e = (task_fault at BadTarget f e).1

-- a task is told to be missing behind the last word, or its target is none
job_fault : (at targets : ℕ) (o : Option JobWord) (f : WordFault) → task_of at targets o ≡ Err f → f.place < at → f.kind ≢ BadTarget → ⊥
job_fault at targets None f e lt ne = let at_end = (task_fault at NoJob f e).0 in omega (arith, at_end)
job_fault at targets (Some Run) f e lt ne = cc
job_fault at targets (Some (Load None)) f e lt ne = let at_end = (task_fault at NoCount f e).0 in omega (arith, at_end)
job_fault at targets (Some (Load (Some n))) f e lt ne = cc
job_fault at targets (Some (Rebuild None)) f e lt ne = let at_end = (task_fault at NoTarget f e).0 in omega (arith, at_end)
job_fault at targets (Some (Rebuild (Some lost))) f e lt ne = ne (rebuild_fault lost.place targets lost.target f e)
job_fault at targets (Some Dfs) f e lt ne = cc
job_fault at targets (Some Audit) f e lt ne = cc

ended_fault : (at : ℕ) (g : Given) (f : WordFault) → ended at g ≡ Err f → f.place < at → f.kind ≢ NoValue → f.kind ≢ BadTarget → ⊥
unfolding ended
ended_fault at g f e lt ne no_target = go g.awaits e
  where
    after : (x : Tasked) → task_of at (targets_of g) g.job ≡ x → (x >>= λ task. Ok (job_with task g)) ≡ Err f → ⊥
    after (Err k) r e = let same : k ≡ f = cc in job_fault at (targets_of g) g.job f (r ∙ ap (λ z. Err z) same) lt no_target
    after (Ok task) r e = cc

    go : (x : Option (ℕ × Setting)) → ended_after at g x ≡ Err f → ⊥
    go None e = after (task_of at (targets_of g) g.job) refl e
    go (Some p) e = ne (fault_is p.0 NoValue f e).1

steps_stay : (at : ℕ) (g : Given) (ws more : List (List ℕ)) (f : WordFault) → steps with_word at g ws ≡ Err f → steps with_word at g (ws ++ more) ≡ Err f
unfolding steps
steps_stay at g [] more f e = absurd cc
steps_stay at g (w ∷ ws) more f e = go (with_word at g w) e (λ u. steps_stay (at + 1) u ws more f)
  where
    go : (x : Result Given WordFault) → (x >>= λ u. steps with_word (at + 1) u ws) ≡ Err f → ((u : Given) → steps with_word (at + 1) u ws ≡ Err f → steps with_word (at + 1) u (ws ++ more) ≡ Err f)
        → (x >>= λ u. steps with_word (at + 1) u (ws ++ more)) ≡ Err f
    go (Err k) e ih = let same : k ≡ f = cc in ap (λ z. Err z) same
    go (Ok u) e ih = ih u e

stays : (ws more : List (List ℕ)) (f : WordFault) → job_of ws ≡ Err f → f.place < length ws → f.kind ≢ NoValue → f.kind ≢ BadTarget → job_of (ws ++ more) ≡ Err f
unfolding job_of
stays ws more f e lt ne no_target = go (steps with_word 0 nothing_given ws) refl e
  where
    go : (x : Result Given WordFault) → steps with_word 0 nothing_given ws ≡ x → (x >>= λ g. ended (length ws) g) ≡ Err f → (steps with_word 0 nothing_given (ws ++ more) >>= λ g. ended (length (ws ++ more)) g) ≡ Err f
    go (Ok g) r e = absurd (ended_fault (length ws) g f e lt ne no_target)
    go (Err k) r e = let same : k ≡ f = cc in rw (steps_stay 0 nothing_given ws more f (r ∙ ap (λ z. Err z) same)) refl

pub words_law : WordsLaw
words_law = record { form = form; few = few; stays = stays }
