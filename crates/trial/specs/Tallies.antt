-- How answers are counted.
use Rattle.std.specs.Prelude.{ℕ, ◌+◌, ◌-◌, ◌^◌, min, Bool, true, cond, not, List, [], ◌∷◌, Option}
use Rattle.trial.specs.declared.step.Step.{Step}
use Rattle.trial.specs.declared.step.Answer.{Answer}
use Rattle.trial.specs.declared.tally.Tally.{Tally}
use Rattle.trial.specs.Steps.{answer_to, is_none, is_refused, keys_after, same_answer}

-- nothing counted
abbrev pub no_calls : Tally
no_calls = record { calls = 0; refused = 0; none = 0; differing = 0 }

-- one more if it is so, up to the largest u64
abbrev pub count_if : Bool → ℕ → ℕ
count_if so n = cond so (min (n + 1) (2 ^ 64 - 1)) n

-- one call counted: the answer to it, and that of another line-up
abbrev pub counted : Tally → Answer → Answer → Tally
counted t a b =
    record {
      calls = count_if true t.calls;
      refused = count_if (is_refused a) t.refused;
      none = count_if (is_none a) t.none;
      differing = count_if (not (same_answer a b)) t.differing;
    }

-- a list of calls to two line-ups, counted
abbrev pub tallied : Tally → List (Option ℕ) → List (Option ℕ) → List Step → Tally
tallied t ks js [] = t
tallied t ks js (s ∷ ss) = tallied (counted t (answer_to ks s) (answer_to js s)) (keys_after ks s) (keys_after js s) ss
