-- The parts of an expression, one after another.
use Rattle.std.proofs.Common.{◌≡◌, ℕ, zero, suc, List, length, Option, Some, None, refl, sym, ap, ◌∙◌}
use Rattle.std.specs.Prelude.{option_map, option_and_then}
use Rattle.st_reader.specs.declared.trees.Span.{Span}
use Rattle.st_reader.specs.declared.trees.Name.{Name}
use Rattle.st_reader.specs.declared.trees.Target.{Target}
use Rattle.st_reader.specs.Tokens.{Token}
use Rattle.st_reader.specs.Syntax.{Expression, Message}
use Rattle.st_reader.specs.TreeViews.{assigns}
use Rattle.st_reader.specs.Parser.{Read, Parse, with_parts, with_further, targets_of, binary_of, keyword_parts_of, chain_of, further_messages_of, value_of, expression_with, expression_of, group_of, block_of}
use Rattle.st_reader.proofs.Shorter.{with_tokens}

-- an expression in which brackets nest so deep
pub expression_is : (n : ℕ) (ts : List Token) → expression_of n ts ≡ expression_with (group_of n) (block_of n) ts
unfolding expression_of
expression_is zero ts = refl
expression_is (suc n) ts = refl

-- a value that is assigned, with what is behind it
abbrev pub assigned : List Target → Expression × List Token → Expression × List Token
assigned ts r = (assigns ts r.0, r.1)

assigned_with : (targets : List Target) (ts : List Token) (o : Option Expression) → option_map (assigned targets) (option_map (with_tokens ts) o) ≡ option_map (with_tokens ts) (option_map (assigns targets) o)
assigned_with targets ts None = refl
assigned_with targets ts (Some e) = refl

module _ (group inner : Span → Parse Expression) where
  -- the keyword message behind an expression
  abbrev pub behind_binary : Expression × List Token → Read Expression
  behind_binary r = option_and_then (λ (p : List (Name × Expression) × List Token). Some (with_parts r.0 p.0, p.1)) (keyword_parts_of group inner 8 r.1)

  -- the further messages behind an expression
  abbrev pub behind_chain : Expression × List Token → Read Expression
  behind_chain r = option_and_then (λ (f : List (Span × Message) × List Token). option_map (with_tokens f.1) (with_further r.0 f.0)) (further_messages_of group inner (length r.1) r.1)

  chain_at : (ts : List Token) → chain_of group inner ts ≡ option_and_then behind_binary (binary_of group inner ts)
  unfolding chain_of
  chain_at ts = refl

  value_at : (ts : List Token) → value_of group inner ts ≡ option_and_then behind_chain (chain_of group inner ts)
  unfolding value_of
  value_at ts = refl

  expression_at : (ts : List Token) → expression_with group inner ts ≡ option_map (assigned (targets_of ts).0) (value_of group inner (targets_of ts).1)
  unfolding expression_with
  expression_at ts = refl

  -- what the variables in front are
  behind_targets : (ts rest : List Token) (targets : List Target) → targets_of ts ≡ (targets, rest) → expression_with group inner ts ≡ option_map (assigned targets) (option_and_then behind_chain (option_and_then behind_binary (binary_of group inner rest)))
  behind_targets ts rest targets e =
      expression_at ts ∙ ap (λ (r : List Target × List Token). option_map (assigned r.0) (value_of group inner r.1)) e ∙ ap (option_map (assigned targets)) (value_at rest ∙ ap (option_and_then behind_chain) (chain_at rest))

  pub expression_chain : (ts rest : List Token) (targets : List Target) → targets_of ts ≡ (targets, rest) → binary_of group inner rest ≡ None → expression_with group inner ts ≡ None
  expression_chain ts rest targets e none =
      behind_targets ts rest targets e ∙ ap (λ (o : Read Expression). option_map (assigned targets) (option_and_then behind_chain (option_and_then behind_binary o))) none

  with_binary : (ts rest after : List Token) (targets : List Target) (c : Expression) → targets_of ts ≡ (targets, rest) → binary_of group inner rest ≡ Some (c, after) → expression_with group inner ts ≡ option_map (assigned targets) (option_and_then behind_chain (option_and_then (λ (p : List (Name × Expression) × List Token). Some (with_parts c p.0, p.1)) (keyword_parts_of group inner 8 after)))
  with_binary ts rest after targets c e found =
      behind_targets ts rest targets e ∙ ap (λ (o : Read Expression). option_map (assigned targets) (option_and_then behind_chain (option_and_then behind_binary o))) found

  pub expression_parts : (ts rest after : List Token) (targets : List Target) (c : Expression) → targets_of ts ≡ (targets, rest) → binary_of group inner rest ≡ Some (c, after) → keyword_parts_of group inner 8 after ≡ None → expression_with group inner ts ≡ None
  expression_parts ts rest after targets c e found none =
      with_binary ts rest after targets c e found ∙ ap (λ (o : Read (List (Name × Expression))). option_map (assigned targets) (option_and_then behind_chain (option_and_then (λ (p : List (Name × Expression) × List Token). Some (with_parts c p.0, p.1)) o))) none

  with_chain : (ts rest after more : List Token) (targets : List Target) (c r : Expression) (ps : List (Name × Expression)) → targets_of ts ≡ (targets, rest) → binary_of group inner rest ≡ Some (c, after) → keyword_parts_of group inner 8 after ≡ Some (ps, more) → r ≡ with_parts c ps → expression_with group inner ts ≡ option_map (assigned targets) (option_and_then (λ (f : List (Span × Message) × List Token). option_map (with_tokens f.1) (with_further r f.0)) (further_messages_of group inner (length more) more))
  with_chain ts rest after more targets c r ps e found parts is =
      with_binary ts rest after targets c e found ∙ ap (λ (o : Read (List (Name × Expression))). option_map (assigned targets) (option_and_then behind_chain (option_and_then (λ (p : List (Name × Expression) × List Token). Some (with_parts c p.0, p.1)) o))) parts ∙ ap (λ (x : Expression). option_map (assigned targets) (option_and_then (λ (f : List (Span × Message) × List Token). option_map (with_tokens f.1) (with_further x f.0)) (further_messages_of group inner (length more) more))) (sym is)

  pub expression_further : (ts rest after more : List Token) (targets : List Target) (c r : Expression) (ps : List (Name × Expression)) → targets_of ts ≡ (targets, rest) → binary_of group inner rest ≡ Some (c, after) → keyword_parts_of group inner 8 after ≡ Some (ps, more) → r ≡ with_parts c ps → further_messages_of group inner (length more) more ≡ None → expression_with group inner ts ≡ None
  expression_further ts rest after more targets c r ps e found parts is none =
      with_chain ts rest after more targets c r ps e found parts is ∙ ap (λ (o : Read (List (Span × Message))). option_map (assigned targets) (option_and_then (λ (f : List (Span × Message) × List Token). option_map (with_tokens f.1) (with_further r f.0)) o)) none

  pub expression_whole : (ts rest after more end : List Token) (targets : List Target) (c r : Expression) (ps : List (Name × Expression)) (fs : List (Span × Message)) → targets_of ts ≡ (targets, rest) → binary_of group inner rest ≡ Some (c, after) → keyword_parts_of group inner 8 after ≡ Some (ps, more) → r ≡ with_parts c ps → further_messages_of group inner (length more) more ≡ Some (fs, end) → expression_with group inner ts ≡ option_map (with_tokens end) (option_map (assigns targets) (with_further r fs))
  expression_whole ts rest after more end targets c r ps fs e found parts is others =
      with_chain ts rest after more targets c r ps e found parts is ∙ ap (λ (o : Read (List (Span × Message))). option_map (assigned targets) (option_and_then (λ (f : List (Span × Message) × List Token). option_map (with_tokens f.1) (with_further r f.0)) o)) others ∙ assigned_with targets end (with_further r fs)
