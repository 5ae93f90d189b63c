use Rattle.std.proofs.Common.{◌≡◌, ◌+◌, ◌-◌, ◌*◌, ◌^◌, ◌≤◌, min, length, Some, refl, ◌∙◌, arith, rules}
use Rattle.std.specs.List.{fold}
use Rattle.std.proofs.lemmas.Iterator.{YieldsList-from_slice}
use Rattle.std.proofs.lemmas.Iterator.Consumers.{YieldsList-turn}
use Rattle.claim.proofs.Numbers.{digit_byte, value_by_fold}
use Rattle.claim.proofs.digits.Digits.value.Goals as goal

-- a byte that comes is one of the digits
pub fold-requires-clause-callable : goal.fold-requires-clause-callable
fold-requires-clause-callable c =
    let digits = c.args.self.now in
    record {
      at = λ xs t q x u y turns e.
          let turn = YieldsList-turn (YieldsList-from_slice digits.text.now cc) xs t y (Some x) u x refl e in
          let low : 48 ≤ x.now = omega (arith, turn.1, digit_byte digits.text.now (length xs) x.now digits.all turn.0) in
          search rules;
    }

pub returns : goal.returns
returns c =
    let bytes = c.args.self.now.text.now in
    let folded : c.fold.result ≡ fold (λ n b. min (min (n * 10) (2 ^ 64 - 1) + (b - 48)) (2 ^ 64 - 1)) 0 bytes = search rules in
    record { reads = folded ∙ value_by_fold bytes }
