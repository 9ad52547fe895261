-- Messages, by what a tree shows.
use Rattle.std.proofs.Common.{◌≡◌, ◌≤◌, arith, length, Bool, true, false, List, [], ◌∷◌, Option, Some, None, refl, sym, ap, ◌∙◌}
use Rattle.std.specs.Prelude.{not, ◌||◌, ◌&&◌}
use Rattle.std.specs.List.{list_all, list_any}
use Rattle.std.proofs.lemmas.List.Folds.{list_any-append}
use Rattle.std.specs.declared.vec.Vec.{Vec}
use Rattle.std.specs.declared.alloc.Global.{Global}
use Rattle.st_reader.specs.declared.trees.Span.{Span}
use Rattle.st_reader.specs.declared.trees.Name.{Name}
use Rattle.st_reader.specs.declared.trees.Chain.{Chain}
use Rattle.st_reader.specs.declared.trees.Message.{Message as Sent, fold-roll-Message, Message-F, Keyword}
use Rattle.st_reader.specs.declared.trees.Message.TheVariants.{rolls-Keyword}
use Rattle.st_reader.specs.declared.inlining.Inlining.{Inlining}
use Rattle.st_reader.specs.declared.rules.alone.Alone.{Alone as Sort}
use Rattle.st_reader.specs.Syntax.{Expression, Message, Statements, keywords}
use Rattle.st_reader.specs.TreeViews.{chain_view, message_view, parts_of, seen_parts, further_of, seen_further, message_step, operand_step, chain_step, expression_step, statements_step}
use Rattle.st_reader.specs.Inlining.{is_block, is_loose, is_loop, suits_receiver, keyword_names, part_arguments, inlining}
use Rattle.st_reader.specs.WellFormed.{arguments, further_arguments}
use Rattle.st_reader.specs.ExpressionKinds.{expression_kind}
use Rattle.st_reader.proofs.Alone.{is_block_alone, is_loose_alone, block_alone, loose_alone}
pub use Rattle.st_reader.proofs.Seen.{unary_is, binary_is}

pub keyword_is : (ps : Vec (Name × Chain) Global) → message_view (Keyword ps) ≡ keywords (parts_of (seen_parts ps.items))
keyword_is ps = ap message_view (sym (rolls-Keyword ps)) ∙ fold-roll-Message Message Expression Expression Expression Statements message_step operand_step chain_step expression_step statements_step (Message-F.Keyword ps)

-- ---- arguments

pub all_blocks : (ps : List (Name × Chain)) → list_all is_block (part_arguments (parts_of (seen_parts ps))) ≡ list_all (λ p. is_block (chain_view p.1)) ps
all_blocks [] = refl
all_blocks (p ∷ ps) = ap (λ b. is_block (chain_view p.1) && b) (all_blocks ps)

pub any_loose : (ps : List (Name × Chain)) → list_any is_loose (part_arguments (parts_of (seen_parts ps))) ≡ list_any (λ p. is_loose (chain_view p.1)) ps
any_loose [] = refl
any_loose (p ∷ ps) = ap (λ b. is_loose (chain_view p.1) || b) (any_loose ps)

-- ---- which messages are inlined

pub inlining_many : (ps : List (Name × Chain)) → 3 ≤ length ps → inlining (keyword_names (parts_of (seen_parts ps))) ≡ None
inlining_many [] h = refl
inlining_many (a ∷ []) h = absurd (omega arith)
inlining_many (a ∷ b ∷ []) h = absurd (omega arith)
inlining_many (a ∷ b ∷ c ∷ ps) h = refl

abbrev pub suits_alone : Option Inlining → Sort → Bool
suits_alone None s = false
suits_alone (Some i) s = by_loop (is_loop i)
  where
    by_loop : Bool → Bool
    by_loop true = is_block_alone s
    by_loop false = not (is_loose_alone s)

pub suits : (i : Option Inlining) (e : Expression) → suits_receiver i e ≡ suits_alone i (expression_kind e)
suits None e = refl
suits (Some i) e = by (is_loop i) refl
  where
    by : (b : Bool) → is_loop i ≡ b → suits_receiver (Some i) e ≡ suits_alone (Some i) (expression_kind e)
    by true q = rw q (block_alone e)
    by false q = rw q (ap not (loose_alone e))

-- ---- the messages of a cascade

pub further_loose : (ms : List (Span × Sent)) → list_any is_loose (further_arguments (further_of (seen_further ms))) ≡ list_any (λ f. list_any is_loose (arguments (message_view f.1))) ms
further_loose [] = refl
further_loose (m ∷ ms) = list_any-append is_loose (arguments (message_view m.1)) (further_arguments (further_of (seen_further ms))) ∙ ap (λ b. list_any is_loose (arguments (message_view m.1)) || b) (further_loose ms)
