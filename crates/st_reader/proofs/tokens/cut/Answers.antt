use Rattle.std.proofs.Common.{◌≡◌, ℕ, ◌+◌, List, Some, None, ◌∙◌, ap, sym, arith, drop-drop, subst, drop, map}
use Rattle.std.specs.Prelude.{option_map}
use Rattle.st_reader.specs.Tokens.{Token, IsCut, IsCutBefore}
use Rattle.st_reader.specs.Lexer.{tokens, tokens_behind, front}
use Rattle.st_reader.specs.Lexemes.{token_of, tokens_of}
use Rattle.st_reader.specs.declared.tokens.Lexeme.{Lexeme}
use Rattle.st_reader.proofs.Cutting.{behind, cut_step, cut_none, cut_end}
use Rattle.st_reader.proofs.Exact.{cut_tokens, tokens_cut}
use Rattle.st_reader.proofs.Stopping.{before_step, stops_at}
use Rattle.st_reader.proofs.tokens.cut.Goals as goal

apart : (o : List Token) (t : List ℕ) → tokens t ≡ None → IsCut t o → ⊥
apart ts t none c = let some = cut_tokens t ts c in absurd cc

pub returns-in_default-clause-ok : goal.returns-in_default-clause-ok
returns-in_default-clause-ok c = λ ts is.
    apart ts c.args.source.now (cut_none c.args.source.now c.loop-rest.lexemes.items c.loop-rest.start c.loop-rest.rest.now (omega arith) (sym c.front.ensures.value ∙ c.in_default.is) c.loop-rest.invariant.same) is

pub returns-in_default-clause-stops : goal.returns-in_default-clause-stops
returns-in_default-clause-stops c =
    let inv = c.loop-rest.invariant in
    stops_at c.args.source.now (tokens_of c.args.source.now c.loop-rest.lexemes.items) c.loop-rest.start c.loop-rest.rest.now inv.rest (omega arith) (sym c.front.ensures.value ∙ c.in_default.is) inv.before

pub loop-rest-preserved : goal.loop-rest-preserved
loop-rest-preserved c =
    let s = c.args.source.now in
    let rest = c.loop-rest.rest.now in
    let inv = c.loop-rest.invariant in
    let more = c.in-Some.more in
    let place = c.loop-rest.start + (more + 1) in
    let found : front rest ≡ Some (c.in-Some.piece, more) = sym c.in-Some.ensures.value in
    let step = cut_step s c.loop-rest.lexemes.items c.loop-rest.start rest c.in-Some.piece more inv.rest found inv.same in
    let put = ap (λ (l : List Lexeme). option_map (behind s l) (tokens_behind 0 place (drop (more + 1) rest))) (sym c.in_ok-put.ensures.ok) in
    let back = ap (λ (l : List ℕ). option_map (behind s c.put.new.lexemes.items) (tokens_behind 0 place l)) (sym c.split_at.ensures.back) in
    let cut : drop (more + 1) rest ≡ drop place s = ap (drop (more + 1)) inv.rest ∙ drop-drop (more + 1) c.loop-rest.start s in
    let next = before_step s c.loop-rest.lexemes.items c.loop-rest.start rest c.in-Some.piece more inv.rest found inv.within inv.before in
    let put_before = subst (λ (l : List Lexeme). IsCutBefore s (tokens_of s l) (drop (more + 1) rest)) (sym c.in_ok-put.ensures.ok) next in
    let back_before = subst (λ (l : List ℕ). IsCutBefore s (tokens_of s c.put.new.lexemes.items) l) (sym c.split_at.ensures.back) put_before in
    record {
      before = back_before;
      same = step ∙ put ∙ back;
      rest = c.split_at.ensures.back ∙ cut;
      within = omega (arith, c.split_at.ensures.back_len);
      short = omega arith;
    }

pub returns-clause-ok : goal.returns-clause-ok
returns-clause-ok c =
    tokens_cut c.args.source.now (map (token_of c.args.source.now) c.loop-rest.lexemes.items) (cut_end c.args.source.now c.loop-rest.lexemes.items c.loop-rest.start c.loop-rest.rest.now (omega arith) c.loop-rest.invariant.same)
