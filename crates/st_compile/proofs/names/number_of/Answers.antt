use Rattle.st_compile.proofs.Interning.{number_answers, number_full}
use Rattle.st_compile.proofs.names.number_of.Goals as goal

pub returns-clause-answers : goal.returns-clause-answers
returns-clause-answers c = number_answers c.args.names.now c.intern-number.new.self c.args.text.now c.intern-number.result c.requires c.known.ensures c.intern-number.ensures.names c.intern-number.ensures.answers

pub returns-clause-full : goal.returns-clause-full
returns-clause-full c = number_full c.args.names.now c.intern-number.new.self c.args.text.now c.intern-number.result c.known.ensures c.intern-number.ensures.unchanged c.intern-number.ensures.answers
