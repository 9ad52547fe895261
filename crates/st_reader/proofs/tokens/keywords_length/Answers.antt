use Rattle.std.proofs.Common.{◌≡◌, ℕ, ◌+◌, ◌-◌, List, length, take, drop, Option, Some, None, Bool, false, true, ap, sym, ◌∙◌, arith}
use Rattle.std.proofs.lemmas.List.{length-drop, take_rest}
use Rattle.st_classes.specs.Selectors.{is_letter}
use Rattle.st_reader.specs.Pieces.{begins}
use Rattle.st_reader.specs.Lexer.{keyword_more}
use Rattle.st_reader.proofs.Lists.{begins_below}
use Rattle.st_reader.proofs.Keywords.{more_keywords, other_word, no_more_keywords}
use Rattle.st_reader.proofs.tokens.keywords_length.Goals as goal

letter_of : (text : List ℕ) (n : ℕ) (t v : Bool) → t ≡ begins is_letter (take (length text - n) (drop n text)) → t ≡ v → begins is_letter (drop n text) ≡ v
letter_of text n t v e f = ap (λ (l : List ℕ). begins is_letter l) (sym (take_rest text n)) ∙ sym e ∙ f

more_of : (text : List ℕ) (n : ℕ) (o p : Option ℕ) → o ≡ keyword_more (take (length text - n) (drop n text)) → o ≡ p → keyword_more (drop n text) ≡ p
more_of text n o p e f = ap (λ (l : List ℕ). keyword_more l) (sym (take_rest text n)) ∙ sym e ∙ f

pub returns-in_err-more-clause-value : goal.returns-in_err-more-clause-value
returns-in_err-more-clause-value c =
    let text = c.args.text.now in
    let n = c.loop-length.length in
    let letter = letter_of text n c.begins_letter.result true c.begins_letter.ensures c.loop-length-test.true in
    let none = more_of text (n + 1) c.keyword_more.result None c.keyword_more.ensures.value c.in_err-more.was in
    c.from_residual.ensures ∙ other_word text n letter none c.loop-length.invariant.same

pub loop-length-preserved : goal.loop-length-preserved
loop-length-preserved c =
    let text = c.args.text.now in
    let n = c.loop-length.length in
    let letter = letter_of text n c.begins_letter.result true c.begins_letter.ensures c.loop-length-test.true in
    let more = more_of text (n + 1) c.keyword_more.result (Some c.in_ok-more.more) c.keyword_more.ensures.value c.in_ok-more.was in
    let below = c.in_ok-more.ensures.within in
    let inside = begins_below is_letter text n letter in
    let front = ap length (take_rest text (n + 1)) in
    let long = length-drop (n + 1) text in
    record {
      same = more_keywords text n c.in_ok-more.more letter more c.loop-length.invariant.same;
      within = omega (arith, below, front, long, inside);
    }

pub returns-clause-value : goal.returns-clause-value
returns-clause-value c =
    let text = c.args.text.now in
    let n = c.loop-length.length in
    no_more_keywords text n (letter_of text n c.begins_letter.result false c.begins_letter.ensures c.loop-length-test.false) c.loop-length.invariant.same
