use Rattle.std.proofs.Common.{◌≡◌, true, false, length, refl, sym, ap, ◌∙◌, arith, rules, tests}
use Rattle.std.specs.Char.{is_ascii_whitespace}
use Rattle.std.proofs.lemmas.Iterator.{YieldsList-from_slice, IsFirst-from_position, index_from_first}
use Rattle.desk.specs.Words.{until_white, from_white}
use Rattle.desk.proofs.Splitting.{trimmed, cut}
use Rattle.desk.proofs.words.split_word.Goals as goal

-- the white space that was found, or else the end, is where the word ends
pub returns : goal.returns
returns c =
    let t = c.trim_ascii_start-text.result.now in
    let skip = trimmed c.args.text.now t c.trim_ascii_start-text.ensures.value in
    let first = IsFirst-from_position _ _ _ (λ b. is_ascii_whitespace b ≡ true) (λ b. is_ascii_whitespace b ≡ false) c.position-end.ensures.ran (YieldsList-from_slice t cc) (λ x q k. search (rules, tests)) (λ x q k. search (rules, tests)) in
    let ends : length (until_white t) ≡ c.unwrap_or.result =
    index_from_first (λ bs. length (until_white bs)) (λ b. is_ascii_whitespace b ≡ true) (λ b. is_ascii_whitespace b ≡ false) refl (λ x xs white. rw white) (λ x xs dark. rw dark (omega arith)) t _ first ∙ sym c.unwrap_or.ensures in
    let parts = cut t c.unwrap_or.result ends in
    record {
      word = c.split_at.ensures.front ∙ parts.0 ∙ ap until_white skip;
      rest = c.split_at.ensures.back ∙ parts.1 ∙ ap from_white skip;
    }
