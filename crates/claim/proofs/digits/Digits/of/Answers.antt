use Rattle.std.proofs.Common.{sym, ◌∙◌, rules}
use Rattle.claim.proofs.Numbers.{told_by}
use Rattle.claim.proofs.digits.Digits.of.Goals as goal

pub invariant_of-result : goal.invariant_of-result
invariant_of-result c = record { all = sym (told_by c.args.text.now c.all.result (search rules) (search rules)) ∙ c.if-all.true }

pub returns-else-all : goal.returns-else-all
returns-else-all c = record { takes_digits = rw (sym (told_by c.args.text.now c.all.result (search rules) (search rules)) ∙ c.if-all.false) }
