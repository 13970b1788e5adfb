-- `most_of` goes by the field's code.
use mathlib.Core.Path.{◌∙◌}
use Rattle.log_entries.proofs.Tables.{by_code_lem, by-none, most-coded}
use Rattle.log_entries.proofs.most_of.Goals as goal

pub returns-then-code-eq-ANY : goal.returns-then-code-eq-ANY
returns-then-code-eq-ANY c = by_code_lem c.args.e 1 _ c.if-code-eq-ANY.true ∙ most-coded c.args.e c.args.i c.requires.0 c.requires.1 c.requires.2 _ c.code_of-code.ensures

pub returns-then-code-eq-FLAG : goal.returns-then-code-eq-FLAG
returns-then-code-eq-FLAG c = by_code_lem c.args.e 2 _ c.if-code-eq-FLAG.true ∙ most-coded c.args.e c.args.i c.requires.0 c.requires.1 c.requires.2 _ c.code_of-code.ensures

pub returns-then-code-eq-WORD : goal.returns-then-code-eq-WORD
returns-then-code-eq-WORD c = by_code_lem c.args.e 3 _ c.if-code-eq-WORD.true ∙ most-coded c.args.e c.args.i c.requires.0 c.requires.1 c.requires.2 _ c.code_of-code.ensures

pub returns-then-code-eq-BY_FIRST : goal.returns-then-code-eq-BY_FIRST
returns-then-code-eq-BY_FIRST c = c.most_value.ensures ∙ by_code_lem c.args.e 4 _ c.if-code-eq-BY_FIRST.true ∙ most-coded c.args.e c.args.i c.requires.0 c.requires.1 c.requires.2 _ c.code_of-code.ensures

pub returns-then-code-eq-BY_SECOND : goal.returns-then-code-eq-BY_SECOND
returns-then-code-eq-BY_SECOND c = c.most_value-then-code-eq-BY_SECOND.ensures ∙ by_code_lem c.args.e 5 _ c.if-code-eq-BY_SECOND.true ∙ most-coded c.args.e c.args.i c.requires.0 c.requires.1 c.requires.2 _ c.code_of-code.ensures

pub returns : goal.returns
returns c = by-none c.args.e _ c.if-code-eq-ANY.false c.if-code-eq-FLAG.false c.if-code-eq-WORD.false c.if-code-eq-BY_FIRST.false c.if-code-eq-BY_SECOND.false
    ∙ most-coded c.args.e c.args.i c.requires.0 c.requires.1 c.requires.2 _ c.code_of-code.ensures
