-- What words ask for, by what was read of them.
use Rattle.std.proofs.Common.{◌≡◌, ℕ, true, false, cond, List, Result, Ok, Err, refl, ap, subst, ◌∙◌}
use Rattle.base_types.specs.declared.fault.WordFault.{WordFault}
use Rattle.base_types.specs.declared.fault.WordKind.TheVariants.{NotYet}
use Rattle.base_types.specs.declared.job.Job.{Job}
use Rattle.base_text.specs.Results.{◌>>=◌}
use Rattle.daos_words.specs.declared.fault.WordNo.{WordNo}
use Rattle.daos_words.specs.declared.fault.WordNo.TheVariants.{Fault}
use Rattle.daos_words.specs.Words.{answered, job_of}
use Rattle.daos_app.specs.Words.{IsRefusedFor, is_run, place_of_more, run_job_of, run_or_not_yet}

abbrev not_yet : List (List ℕ) → Job → Result Job WordFault
not_yet ws j = Err (record { place = place_of_more ws; kind = NotYet })

answered_ok : (r : Result Job WordFault) (j : Job) → answered r ≡ Ok j → r ≡ Ok j
answered_ok (Ok i) j e = let same : i ≡ j = cc in ap (λ x. Ok x) same
answered_ok (Err f) j e = absurd cc

pub job_is_read : (ws : List (List ℕ)) (j : Job) → answered (job_of ws) ≡ Ok j → job_of ws ≡ Ok j
job_is_read ws j e = answered_ok (job_of ws) j e

-- a job that is run
pub run_is_asked : (ws : List (List ℕ)) (j : Job) → answered (job_of ws) ≡ Ok j → is_run j ≡ true → run_job_of ws ≡ Ok j
unfolding run_job_of
run_is_asked ws j e h = ap (λ r. r >>= run_or_not_yet ws) (answered_ok (job_of ws) j e) ∙ ap (λ b. cond b (Ok j) (not_yet ws j)) h

-- one that isn't
pub more_is_asked : (ws : List (List ℕ)) (j : Job) → answered (job_of ws) ≡ Ok j → is_run j ≡ false → run_job_of ws ≡ Err (record { place = place_of_more ws; kind = NotYet })
unfolding run_job_of
more_is_asked ws j e h = ap (λ r. r >>= run_or_not_yet ws) (answered_ok (job_of ws) j e) ∙ ap (λ b. cond b (Ok j) (not_yet ws j)) h

-- words with a fault
pub fault_stays : (ws : List (List ℕ)) (why : WordNo) → answered (job_of ws) ≡ Err why → IsRefusedFor ws why
unfolding run_job_of
fault_stays ws why e = go (job_of ws) refl e
  where
    refused : (f : WordFault) → job_of ws ≡ Err f → IsRefusedFor ws (Fault f)
    refused f i = ap (λ r. r >>= run_or_not_yet ws) i

    go : (r : Result Job WordFault) → job_of ws ≡ r → answered r ≡ Err why → IsRefusedFor ws why
    go (Ok j) i e = absurd cc
    go (Err f) i e = let same : Fault f ≡ why = cc in subst (IsRefusedFor ws) same (refused f i)
