use Rattle.std.proofs.Common.{◌≡◌, ◌-◌, ◌^◌, Some, sym, ap, ◌∙◌, arith}
use Rattle.std.proofs.lemmas.Bool.{cond-true, cond-false}
use Rattle.claim.specs.Code.{front, number_in, well_formed}
use Rattle.claim.proofs.Numbers.{on_some}
use Rattle.claim.proofs.Reading.{WellFormed, fails, passes, formed, no_value, first_nought, too_large, last_no_digit}
use Rattle.claim.proofs.number_before.Goals as goal
use Rattle.claim.proofs.number_before.Goals.{then-digits-eq48-via-then-digits-eq48, then-digits-eq48-via-else-digits-eq48+then-number-gt-LARGEST, then-digits-eq48-via-else-digits-eq48+else-number-gt-LARGEST+then-not-is_ascii_digit}

pub returns-in_err-number : goal.returns-in_err-number
returns-in_err-number c =
    let code = c.args.code.now in
    let bad = fails code (no_value (2 ^ 64 - 1) code (sym c.in_err-number.was ∙ c.value.ensures.is_the_value)) in
    record { finds = c.from_residual.ensures ∙ sym (cond-false (well_formed code) _ _ bad) }

pub returns-then-digits-eq48 : goal.returns-then-digits-eq48
returns-then-digits-eq48 c =
    let code = c.args.code.now in
    let bad : WellFormed code → ⊥ =
    elim c.then-digits-eq48.branch [
      | then-digits-eq48-via-then-digits-eq48 w ↦ first_nought code w.if-digits-eq48.true
      | then-digits-eq48-via-else-digits-eq48+then-number-gt-LARGEST w ↦ too_large (2 ^ 64 - 1) _ code c.in_ok-number.ensures.is_the_value w.if-number-gt-LARGEST.true
      | then-digits-eq48-via-else-digits-eq48+else-number-gt-LARGEST+then-not-is_ascii_digit w ↦ last_no_digit code (sym w.if-not-is_ascii_digit.ensures.value)
    ] in
    record { finds = sym (cond-false (well_formed code) _ _ (fails code bad)) }

pub returns : goal.returns
returns c =
    let code = c.args.code.now in
    let valued = c.in_ok-number.ensures.is_the_value in
    let good = formed (2 ^ 64 - 1) _ code valued (omega arith) c.if-digits-eq48.false (omega arith) (omega arith) (sym c.if-not-is_ascii_digit.ensures.value) in
    let number : c.in_ok-number.number ≡ number_in code = omega (arith, (on_some (2 ^ 64 - 1) c.in_ok-number.number (front code) valued).number) in
    record { finds = ap (λ n. Some n) number ∙ sym (cond-true (well_formed code) _ _ (passes code good)) }
