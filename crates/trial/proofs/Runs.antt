-- Lists of calls, one call after the other.
use Rattle.std.proofs.Common.{◌≡◌, ℕ, ◌+◌, ◌<◌, ◌≤◌, true, not, List, [], ◌∷◌, length, get_or, drop, Option, sym, refl, ap, ◌∙◌, rules}
use Rattle.std.proofs.lemmas.List.{at_drop_all, at_drop_more}
use Rattle.trial.specs.declared.step.Step.{Step}
use Rattle.trial.specs.declared.step.Step.TheVariants.{Put}
use Rattle.trial.specs.declared.step.Answer.{Answer}
use Rattle.trial.specs.declared.tally.Tally.{Tally}
use Rattle.trial.specs.Steps.{answer_to, keys_after, keys_after_all, same_answer}
use Rattle.trial.specs.contracts.step.AnswerPartialEq.TheImpl as answers
use Rattle.trial.specs.Tallies.{count_if, counted, tallied}

-- the call at a position of a list
abbrev pub step_at : List Step → ℕ → Step
step_at steps i = get_or steps i (Put 0 0)

-- a loop over a list of calls: the calls that are left, made of what stands, give what all give
module _ (steps : List Step) (i : ℕ) where
  pub tally_step : (t t' all : Tally) (ks ks' js js' : List (Option ℕ)) → i < length steps → t' ≡ counted t (answer_to ks (step_at steps i)) (answer_to js (step_at steps i)) → ks' ≡ keys_after ks (step_at steps i) → js' ≡ keys_after js (step_at steps i) → tallied t ks js (drop i steps) ≡ all → tallied t' ks' js' (drop (i + 1) steps) ≡ all
  tally_step t t' all ks ks' js js' l et ek ej e = rw (et, ek, ej) (sym (at_drop_more (tallied t ks js) steps i (Put 0 0) l) ∙ e)

  pub keys_step : (ks ks' all : List (Option ℕ)) → i < length steps → ks' ≡ keys_after ks (step_at steps i) → keys_after_all ks (drop i steps) ≡ all → keys_after_all ks' (drop (i + 1) steps) ≡ all
  keys_step ks ks' all l ek e = rw ek (sym (at_drop_more (keys_after_all ks) steps i (Put 0 0) l) ∙ e)

  pub tally_end : (t all : Tally) (ks js : List (Option ℕ)) → length steps ≤ i → tallied t ks js (drop i steps) ≡ all → t ≡ all
  tally_end t all ks js l e = sym (at_drop_all (tallied t ks js) steps i l) ∙ e

  pub keys_end : (ks all : List (Option ℕ)) → length steps ≤ i → keys_after_all ks (drop i steps) ≡ all → ks ≡ all
  keys_end ks all l e = sym (at_drop_all (keys_after_all ks) steps i l) ∙ e

-- two answers are equal, as the code compares them, where they are the same
pub eq_is_same : (a b : Answer) → (answers.ghosts).eq a b ≡ same_answer a b
eq_is_same a b = search rules

same_answer_refl : (a : Answer) → same_answer a a ≡ true
same_answer_refl a = search rules

-- the same keys give the same answers, whatever the calls are
pub never_differs : (steps : List Step) (t : Tally) (ks : List (Option ℕ)) → (tallied t ks ks steps).differing ≡ t.differing
never_differs [] t ks = refl
never_differs (s ∷ ss) t ks =
    never_differs ss (counted t (answer_to ks s) (answer_to ks s)) (keys_after ks s) ∙ ap (λ b. count_if (not b) t.differing) (same_answer_refl (answer_to ks s))
