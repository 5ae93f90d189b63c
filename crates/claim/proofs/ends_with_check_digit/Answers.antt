use Rattle.std.proofs.Common.{◌≡◌, ◌-◌, true, eqb, length, refl, ap, ◌∙◌, rules}
use Rattle.std.proofs.lemmas.Bool.{eqb-true}
use Rattle.claim.specs.Code.{number_in}
use Rattle.claim.proofs.Reading.{Accepted, tested, digits_take, only_codes, last_of}
use Rattle.claim.proofs.Changed.{guarded}
use Rattle.claim.proofs.ends_with_check_digit.Goals as goal

pub invariant_of-check_digit : goal.invariant_of-check_digit
invariant_of-check_digit c =
    let code = c.args.code.now in
    let digits = digits_take code (length code - 1) (tested code c.requires).digits in
    search (rules, digits)

pub returns : goal.returns
returns c =
    let code = c.args.code.now in
    let digit = c.check_digit.ensures.is_the_check_digit in
    let whole : eqb (last_of code) c.check_digit.result ≡ true → Accepted code (number_in code) =
    λ same. record { good = tested code c.requires; right = eqb-true (last_of code) c.check_digit.result same ∙ digit; number = refl } in
    record {
      tells = ap (eqb (last_of code)) digit;
      is_the_code = λ same. only_codes code (number_in code) (whole same);
      guards = λ same. guarded code (number_in code) (whole same);
    }
