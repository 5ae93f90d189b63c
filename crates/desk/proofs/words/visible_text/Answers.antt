use Rattle.std.proofs.Common.{◌≡◌, true, ap, ◌∙◌, rules}
use Rattle.std.specs.Option.{option_map}
use Rattle.desk.specs.Words.{visible}
use Rattle.desk.proofs.Splitting.{told_by, utf8_visible, text_of}
use Rattle.desk.proofs.words.visible_text.Goals as goal

pub returns-then-not-all : goal.returns-then-not-all
returns-then-not-all c = let told = told_by c.args.word.now c.all.result (search rules) (search rules) in search (rules, told)

pub returns : goal.returns
returns c =
    let told = told_by c.args.word.now c.all.result (search rules) (search rules) in
    let all : visible c.args.word.now ≡ true = search (rules, told) in
    let text = text_of _ c.args.word.now c.from_utf8.result c.from_utf8.ensures.cases (utf8_visible c.args.word.now all) in
    record { shows_as_it_is = ap (option_map (λ x. x.now)) c.ok.ensures.value ∙ text ∙ rw all }
