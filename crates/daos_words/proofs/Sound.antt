-- What holds of what words gave: values lie in their ranges, and each word gave something.
use Rattle.std.proofs.Common.{◌≡◌, ℕ, ◌+◌, ◌*◌, ◌^◌, ◌<◌, ◌≤◌, Bool, true, false, cond, ◌&&◌, List, take, drop, position, eqb, codes, get_or, Option, Some, None, Result, Ok, refl, sym, ap, ◌∙◌, subst, arith, is_some, lit<}
use Rattle.std.specs.Prelude.{IfSome}
use Rattle.std.specs.Str.{bytes_eq}
use Rattle.base_types.specs.declared.fault.WordFault.{WordFault}
use Rattle.base_types.specs.declared.fault.WordKind.TheVariants.{Twice, Clash}
use Rattle.base_text.specs.Number.{number_in}
use Rattle.base_text.specs.NumberLaws.{numbers_are_decimals}
use Rattle.daos_words.specs.declared.given.Given.{Given}
use Rattle.daos_words.specs.declared.given.JobWord.{JobWord}
use Rattle.daos_words.specs.declared.given.JobWord.TheVariants.{Run, Load, Rebuild, Dfs, Audit}
use Rattle.daos_words.specs.declared.given.Lost.{Lost}
use Rattle.daos_words.specs.declared.given.Setting.{Setting}
use Rattle.daos_words.specs.declared.given.Setting.TheVariants.{Targets, Size, Attempts, Epsilon, Order}
use Rattle.daos_words.specs.Laws.{IsWithin}
use Rattle.daos_words.specs.Words.{fault, setting_named, lowest, highest, is_order, holds, with_number, with_value_of, with_value, with_joined, with_name, with_parts, with_threads, with_option, job_named, with_job, with_count, with_more, with_plain_after, with_plain, with_word_after, with_word}

abbrev pub one : {A : Type 0} → Option A → ℕ
one None = 0
one (Some x) = 1

abbrev pub bit : Bool → ℕ
bit true = 1
bit false = 0

-- how many words gave a job, and what stands behind it
abbrev pub named : Option JobWord → ℕ
named None = 0
named (Some Run) = 1
named (Some (Load count)) = 1 + one count
named (Some (Rebuild lost)) = 1 + one lost
named (Some Dfs) = 1
named (Some Audit) = 1

-- a target that is named is from 1 to 63
abbrev pub IsLost : Lost → Type 0
IsLost lost = IfSome lost.target (IsWithin 1 63)

-- what stands behind a job lies in its range
abbrev pub IsNamed : Option JobWord → Type 0
IsNamed None = Unit {0}
IsNamed (Some Run) = Unit {0}
IsNamed (Some (Load count)) = IfSome count (IsWithin 1 10000)
IsNamed (Some (Rebuild lost)) = IfSome lost IsLost
IsNamed (Some Dfs) = Unit {0}
IsNamed (Some Audit) = Unit {0}

-- no fewer words gave this
abbrev pub said : Given → ℕ
said g = named g.job + 2 * (one g.targets + one g.size + one g.attempts + one g.epsilon + one g.order) + bit g.threads + one g.awaits

-- an option that waits for its value has none, and goes with what is given
abbrev pub MayAwait : Given → Option (ℕ × Setting) → Type 0
MayAwait g None = Unit {0}
MayAwait g (Some p) = (holds p.1 g ≡ false) × ((is_order p.1 && g.threads) ≡ false)

pub record IsSound (g : Given) : Type 0 where
  pub in_job : IsNamed g.job
  pub in_targets : IfSome g.targets (IsWithin 1 64)
  pub in_size : IfSome g.size (IsWithin 2 32)
  pub in_attempts : IfSome g.attempts (IsWithin 1 100)
  pub in_epsilon : IfSome g.epsilon (IsWithin 0 1000000)
  pub apart : g.threads ≡ true → g.order ≡ None
  pub waits : MayAwait g g.awaits

-- a word gave more
pub record Adds (g t : Given) : Type 0 where
  pub sound : IsSound t
  pub more : said g + 1 ≤ said t

pub one_most : {A : Type 0} (o : Option A) → one o ≤ 1
one_most None = omega arith
one_most (Some x) = omega arith

pub named_most : (o : Option JobWord) → named o ≤ 2
named_most None = omega arith
named_most (Some Run) = omega arith
named_most (Some (Load count)) = omega (arith, one_most count)
named_most (Some (Rebuild lost)) = omega (arith, one_most lost)
named_most (Some Dfs) = omega arith
named_most (Some Audit) = omega arith

bit_most : (b : Bool) → bit b ≤ 1
bit_most true = omega arith
bit_most false = omega arith

pub few_words : (g : Given) → said g ≤ 14
few_words g =
    omega (
      arith,
      named_most g.job,
      one_most g.targets,
      one_most g.size,
      one_most g.attempts,
      one_most g.epsilon,
      one_most g.order,
      bit_most g.threads,
      one_most g.awaits,
    )

one_none : {A : Type 0} (o : Option A) → is_some o ≡ false → one o ≡ 0
one_none None e = refl
one_none (Some x) e = absurd cc

is_none : {A : Type 0} (o : Option A) → is_some o ≡ false → o ≡ None
is_none None e = refl
is_none (Some x) e = absurd cc

abbrev given : Given → Result Given WordFault
given g = Ok g

same_given : (g t : Given) → given g ≡ given t → g ≡ t
same_given g t e = cc

added : (g s t : Given) → given s ≡ given t → Adds g s → Adds g t
added g s t e a = subst (Adds g) (same_given s t e) a

highest_small : (o : Setting) → highest o < 2 ^ 64
highest_small Targets = lit< tt
highest_small Size = lit< tt
highest_small Attempts = lit< tt
highest_small Epsilon = lit< tt
highest_small Order = lit< tt

holds_apart : (o : Setting) (g : Given) (a : Option (ℕ × Setting)) → holds o (record g { awaits = a }) ≡ holds o g
holds_apart Targets g a = refl
holds_apart Size g a = refl
holds_apart Attempts g a = refl
holds_apart Epsilon g a = refl
holds_apart Order g a = refl

no_order : (g : Given) (n : ℕ) → (true && g.threads) ≡ false → g.threads ≡ true → Some n ≡ None
no_order g n p q = let r : (true && true) ≡ false = subst (λ b. (true && b) ≡ false) q p in absurd cc

-- ---- a value

module _ (g : Given) (h : IsSound g) (e : g.awaits ≡ None) where
  nothing_awaited : (t : Given) → MayAwait t g.awaits
  nothing_awaited t = subst (MayAwait t) (sym e) tt

  number_sound : (o : Setting) (n : ℕ) → (is_order o && g.threads) ≡ false → IsWithin (lowest o) (highest o) n → IsSound (with_number g o n)
  number_sound Targets n q r = record {
    in_job = h.in_job;
    in_targets = r;
    in_size = h.in_size;
    in_attempts = h.in_attempts;
    in_epsilon = h.in_epsilon;
    apart = h.apart;
    waits = nothing_awaited _;
  }
  number_sound Size n q r = record {
    in_job = h.in_job;
    in_targets = h.in_targets;
    in_size = r;
    in_attempts = h.in_attempts;
    in_epsilon = h.in_epsilon;
    apart = h.apart;
    waits = nothing_awaited _;
  }
  number_sound Attempts n q r = record {
    in_job = h.in_job;
    in_targets = h.in_targets;
    in_size = h.in_size;
    in_attempts = r;
    in_epsilon = h.in_epsilon;
    apart = h.apart;
    waits = nothing_awaited _;
  }
  number_sound Epsilon n q r = record {
    in_job = h.in_job;
    in_targets = h.in_targets;
    in_size = h.in_size;
    in_attempts = h.in_attempts;
    in_epsilon = r;
    apart = h.apart;
    waits = nothing_awaited _;
  }
  number_sound Order n q r = record {
    in_job = h.in_job;
    in_targets = h.in_targets;
    in_size = h.in_size;
    in_attempts = h.in_attempts;
    in_epsilon = h.in_epsilon;
    apart = no_order g n q;
    waits = nothing_awaited _;
  }

  number_more : (o : Setting) (n : ℕ) → holds o g ≡ false → said g + 2 ≤ said (with_number g o n)
  number_more Targets n p = omega (arith, one_none g.targets p)
  number_more Size n p = omega (arith, one_none g.size p)
  number_more Attempts n p = omega (arith, one_none g.attempts p)
  number_more Epsilon n p = omega (arith, one_none g.epsilon p)
  number_more Order n p = omega (arith, one_none g.order p)

  -- an option got its value
  value_adds : (at : ℕ) (o : Setting) (w : List ℕ) (t : Given) → holds o g ≡ false → (is_order o && g.threads) ≡ false → with_value at g o w ≡ Ok t
      → IsSound t × (said g + 2 ≤ said t)
  unfolding with_value
  value_adds at o w t p q f = go (number_in (lowest o) (highest o) w) refl f
    where
      go : (x : Option ℕ) → number_in (lowest o) (highest o) w ≡ x → with_value_of at g o x ≡ Ok t → IsSound t × (said g + 2 ≤ said t)
      go None r f = absurd cc
      go (Some n) r f =
          let s = numbers_are_decimals.spelled (lowest o) (highest o) n w (highest_small o) r in
          let same = same_given (with_number g o n) t f in
          (subst IsSound same (number_sound o n q (s.1, s.2)), subst (λ u. said g + 2 ≤ said u) same (number_more o n p))

  joined_adds : (at : ℕ) (o : Setting) (v : Option (List ℕ)) (t : Given) → holds o g ≡ false → (is_order o && g.threads) ≡ false → with_joined at g o v ≡ Ok t → Adds g t
  joined_adds at o None t p q f =
      let none : one g.awaits ≡ 0 = ap one e in
      added g (record g { awaits = Some (at, o) }) t f
      (record {
        sound = record {
          in_job = h.in_job;
          in_targets = h.in_targets;
          in_size = h.in_size;
          in_attempts = h.in_attempts;
          in_epsilon = h.in_epsilon;
          apart = h.apart;
          waits = (holds_apart o g (Some (at, o)) ∙ p, q);
        };
        more = omega (arith, none);
      })
  joined_adds at o (Some w) t p q f = let a = value_adds at o w t p q f in record { sound = a.0; more = omega (arith, a.1) }

  name_adds : (at : ℕ) (x : Option Setting) (v : Option (List ℕ)) (t : Given) → with_name at g x v ≡ Ok t → Adds g t
  name_adds at None v t f = absurd cc
  name_adds at (Some o) v t f = go (holds o g) refl (is_order o && g.threads) refl f
    where
      go : (b : Bool) → holds o g ≡ b → (c : Bool) → (is_order o && g.threads) ≡ c → cond b (fault at Twice) (cond c (fault at Clash) (with_joined at g o v)) ≡ Ok t → Adds g t
      go true p c q f = absurd cc
      go false p true q f = absurd cc
      go false p false q f = joined_adds at o v t p q f

  parts_add : (at : ℕ) (w : List ℕ) (i : Option ℕ) (t : Given) → with_parts at g w i ≡ Ok t → Adds g t
  parts_add at w None t f = name_adds at (setting_named w) None t f
  parts_add at w (Some i) t f = name_adds at (setting_named (take i w)) (Some (drop (i + 1) w)) t f

  threads_add : (at : ℕ) (t : Given) → with_threads at g ≡ Ok t → Adds g t
  threads_add at t f = go g.threads refl (is_some g.order) refl f
    where
      go : (b : Bool) → g.threads ≡ b → (c : Bool) → is_some g.order ≡ c → cond b (fault at Twice) (cond c (fault at Clash) (Ok (record g { threads = true }))) ≡ Ok t → Adds g t
      go true p c q f = absurd cc
      go false p true q f = absurd cc
      go false p false q f =
          let none : bit g.threads ≡ 0 = ap bit p in
          added g (record g { threads = true }) t f
          (record {
            sound = record {
              in_job = h.in_job;
              in_targets = h.in_targets;
              in_size = h.in_size;
              in_attempts = h.in_attempts;
              in_epsilon = h.in_epsilon;
              apart = λ _. is_none g.order q;
              waits = nothing_awaited _;
            };
            more = omega (arith, none);
          })

  option_adds : (at : ℕ) (w : List ℕ) (t : Given) → with_option at g w ≡ Ok t → Adds g t
  unfolding with_option
  option_adds at w t f = go (bytes_eq w (codes "--threads")) f
    where
      go : (b : Bool) → cond b (with_threads at g) (with_parts at g w (position (λ b. eqb b 61) w)) ≡ Ok t → Adds g t
      go true f = threads_add at t f
      go false f = parts_add at w (position (λ b. eqb b 61) w) t f

  -- ---- a plain word

  -- the job, with one word more
  job_is : (t : Given) (job : JobWord) → IsNamed (Some job) → named g.job + 1 ≤ named (Some job) → given (record g { job = Some job }) ≡ Ok t → Adds g t
  job_is t job form more f =
      added g (record g { job = Some job }) t f
      (record {
        sound = record {
          in_job = form;
          in_targets = h.in_targets;
          in_size = h.in_size;
          in_attempts = h.in_attempts;
          in_epsilon = h.in_epsilon;
          apart = h.apart;
          waits = nothing_awaited _;
        };
        more = omega (arith, more);
      })

  -- it has nothing behind it yet
  fresh : (w : List ℕ) → IfSome (job_named w) (λ job. IsNamed (Some job) × (1 ≤ named (Some job)))
  fresh w = go (bytes_eq w (codes "run")) (bytes_eq w (codes "load")) (bytes_eq w (codes "rebuild")) (bytes_eq w (codes "dfs")) (bytes_eq w (codes "audit"))
    where
      go : (a b c d e : Bool) → IfSome (cond a (Some Run) (cond b (Some (Load None)) (cond c (Some (Rebuild None)) (cond d (Some Dfs) (cond e (Some Audit) None))))) (λ job. IsNamed (Some job) × (1 ≤ named (Some job)))
      go true b c d e = (tt, omega arith)
      go false true c d e = (tt, omega arith)
      go false false true d e = (tt, omega arith)
      go false false false true e = (tt, omega arith)
      go false false false false true = (tt, omega arith)
      go false false false false false = tt

  job_adds : (at : ℕ) (o : Option JobWord) (t : Given) → g.job ≡ None → IfSome o (λ job. IsNamed (Some job) × (1 ≤ named (Some job))) → with_job at g o ≡ Ok t → Adds g t
  job_adds at None t n k f = absurd cc
  job_adds at (Some job) t n k f =
      let none : named g.job ≡ 0 = ap named n in
      let some : 1 ≤ named (Some job) = k.1 in
      job_is t job k.0 (omega (arith, none, some)) f

  count_adds : (at : ℕ) (w : List ℕ) (t : Given) → g.job ≡ Some (Load None) → with_count at g (number_in 1 10000 w) ≡ Ok t → Adds g t
  count_adds at w t was f = go (number_in 1 10000 w) refl f
    where
      go : (x : Option ℕ) → number_in 1 10000 w ≡ x → with_count at g x ≡ Ok t → Adds g t
      go None r f = absurd cc
      go (Some n) r f =
          let s = numbers_are_decimals.spelled 1 10000 n w (lit< tt) r in
          let one_word : named g.job ≡ 1 = ap named was in
          job_is t (Load (Some n)) (s.1, s.2) (omega (arith, one_word)) f

  -- a target that is named lies in its range
  lost_within : (w : List ℕ) → IfSome (number_in 1 63 w) (IsWithin 1 63)
  lost_within w = go (number_in 1 63 w) refl
    where
      go : (x : Option ℕ) → number_in 1 63 w ≡ x → IfSome x (IsWithin 1 63)
      go None r = tt
      go (Some n) r = let s = numbers_are_decimals.spelled 1 63 n w (lit< tt) r in (s.1, s.2)

  more_adds : (at : ℕ) (job : JobWord) (w : List ℕ) (t : Given) → g.job ≡ Some job → with_more at g job w ≡ Ok t → Adds g t
  more_adds at Run w t n f = absurd cc
  more_adds at (Load None) w t n f = count_adds at w t n f
  more_adds at (Load (Some count)) w t n f = absurd cc
  more_adds at (Rebuild None) w t n f =
      let was : named g.job ≡ 1 = ap named n in
      job_is t (Rebuild (Some (record { place = at; target = number_in 1 63 w }))) (lost_within w) (omega (arith, was)) f
  more_adds at (Rebuild (Some lost)) w t n f = absurd cc
  more_adds at Dfs w t n f = absurd cc
  more_adds at Audit w t n f = absurd cc

  plain_adds : (at : ℕ) (w : List ℕ) (t : Given) → with_plain at g w ≡ Ok t → Adds g t
  unfolding with_plain
  plain_adds at w t f = go g.job refl f
    where
      go : (x : Option JobWord) → g.job ≡ x → with_plain_after at g x w ≡ Ok t → Adds g t
      go None n f = job_adds at (job_named w) t n (fresh w) f
      go (Some job) n f = more_adds at job w t n f

-- ---- any word

-- what is given once the option before the word no longer waits
abbrev free : Given → Given
free g = record g { awaits = None }

free_sound : (g : Given) → IsSound g → IsSound (free g)
free_sound g h = record {
  in_job = h.in_job;
  in_targets = h.in_targets;
  in_size = h.in_size;
  in_attempts = h.in_attempts;
  in_epsilon = h.in_epsilon;
  apart = h.apart;
  waits = tt;
}

pub word_adds : (at : ℕ) (g : Given) (w : List ℕ) (t : Given) → IsSound g → with_word at g w ≡ Ok t → Adds g t
unfolding with_word
word_adds at g w t h f = go g.awaits refl f
  where
    go : (x : Option (ℕ × Setting)) → g.awaits ≡ x → with_word_after at g x w ≡ Ok t → Adds g t
    go None e f = first (eqb (get_or w 0 0) 45) f
      where
        first : (b : Bool) → cond b (with_option at g w) (with_plain at g w) ≡ Ok t → Adds g t
        first true f = option_adds g h e at w t f
        first false f = plain_adds g h e at w t f
    go (Some p) e f =
        let may : MayAwait g (Some p) = subst (MayAwait g) e h.waits in
        let one_more : one g.awaits ≡ 1 = ap one e in
        let a = value_adds (free g) (free_sound g h) refl at p.1 w t (holds_apart p.1 g None ∙ may.0) may.1 f in
        record { sound = a.0; more = omega (arith, a.1, one_more) }
