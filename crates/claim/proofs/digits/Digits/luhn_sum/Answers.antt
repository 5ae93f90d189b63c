use Rattle.std.proofs.Common.{◌≡◌, ◌+◌, ◌-◌, length, get_or, drop, sym, ◌∙◌, arith, length-drop}
use lib.ListN.{length-map}
use Rattle.std.proofs.lemmas.List.{at_drop_more, at_drop_all}
use Rattle.claim.specs.Code.{digits_in}
use Rattle.claim.specs.Luhn.{total, weight}
use Rattle.claim.proofs.digits.Digits.luhn_sum.Goals as goal

pub loop-i-preserved : goal.loop-i-preserved
loop-i-preserved c =
    let ds = c.args.self.now.text.now in
    let i = c.loop-i.i in
    let more : total (digits_in (drop i ds)) ≡ weight (length (digits_in (drop (i + 1) ds))) (get_or ds i 0 - 48) + total (digits_in (drop (i + 1) ds)) =
    at_drop_more (λ l. total (digits_in l)) ds i 0 c.loop-i-test.true in
    let right : length (digits_in (drop (i + 1) ds)) ≡ length ds - 1 - i = simp (length-map, length-drop) (omega arith) in
    let added : c.weigh.result ≡ weight (length (digits_in (drop (i + 1) ds))) (get_or ds i 0 - 48) =
    c.weigh.ensures.weighs ∙ (λ k. weight (sym right k) (get_or ds i 0 - 48)) in
    (omega arith, omega (arith, more, added, c.loop-i.invariant.1))

pub returns : goal.returns
returns c =
    record { sums = omega (arith, at_drop_all (λ l. total (digits_in l)) c.args.self.now.text.now c.loop-i.i (omega arith), c.loop-i.invariant) }
