-- Each word gives its eight bytes back, and the bytes are those of the fields, which have their widths.
use Rattle.std.proofs.Common.{rules, ◌∙◌}
use Rattle.rows.specs.Words.{words_of, fields_by, fields_in}
use Rattle.rows.proofs.WordLaws.{fields_back}
use Rattle.rows.proofs.words.Goals as goal

pub returns-clause-value : goal.returns-clause-value
unfolding words_of
returns-clause-value c = rw (c.word.ensures.value, c.word-2.ensures.value, c.word-3.ensures.value)

pub returns-clause-back : goal.returns-clause-back
unfolding fields_in
returns-clause-back c =
    (λ i. fields_by (c.word.ensures.back i) (c.word-2.ensures.back i) (c.word-3.ensures.back i)) ∙ fields_back c.args.f.now (search rules) (search rules) (search rules)
