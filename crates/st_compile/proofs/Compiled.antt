-- The compiled method of a text that spells one.
use Rattle.std.proofs.Common.{◌≡◌, ℕ, ◌+◌, true, leb, ◌&&◌, List, length, map, Some, None, eqb, eq-eqb, refl, sym, ◌∙◌, subst, arith}
use Rattle.std.specs.List.{list_all}
use Rattle.std.proofs.lemmas.Bool.{and_from, leb-true}
use Rattle.std.proofs.lemmas.List.{length-map}
use Rattle.std.proofs.lemmas.List.Folds.{list_all-map}
use Rattle.st_classes.specs.declared.values.ClassId.{ClassId}
use Rattle.st_classes.specs.declared.values.Selector.{Selector}
use Rattle.st_classes.specs.declared.edits.Edit.{Edit}
use Rattle.st_classes.specs.declared.instructions.Instruction.{Instruction}
use Rattle.st_classes.specs.Methods.{IsSound}
use Rattle.st_classes.specs.Refusals.{first_of}
use Rattle.st_classes.specs.Classes.{class_count, slots}
use Rattle.st_classes.specs.Selectors.{place_of}
use Rattle.st_classes.specs.MethodSuits.{arity_at, is_number, instruction_suits, suits}
use Rattle.st_classes.proofs.LawLists.{list_all_get}
use Rattle.st_reader.specs.Spelling.{Spells}
use Rattle.st_reader.specs.Syntax.{Method}
use Rattle.st_reader.specs.Variables.{arguments_of, locals_of, temporaries_of, texts}
use Rattle.st_compile.specs.Scopes.{pattern_selector, scope_of}
use Rattle.st_compile.specs.Equations.{method_code}
use Rattle.st_compile.specs.CompileRules.{code_rules, is_small}
use Rattle.st_compile.specs.NameResolution.{instructions_of}
use Rattle.st_compile.specs.CompiledMethod.{IsCompiled, parts_of}
use Rattle.st_compile.specs.Encodable.{IsReady}
use Rattle.st_compile.proofs.Flowing.{code_fits}
use Rattle.st_compile.proofs.Accepted.{rules_known, rules_small, small_depths, small_length}
use Rattle.st_compile.proofs.Ending.{all_fit, begins_empty}
use Rattle.st_compile.proofs.Resolving.{instructions-length}
use Rattle.st_compile.proofs.Fine.{AreFine, fine_fits, fine_near, method_fine}
use Rattle.st_compile.proofs.Suits.{arity-place, code_suits}
use Rattle.st_compile.proofs.Spelled.{locals_count, spelled_arguments, spelled_locals, spelled_named, spelled_pattern}

-- the parts of a method are sound, and those of the compiled one
pub record IsMade (names : List (List ℕ)) (edits : List Edit) (c : ClassId) (m : Method) (text : List ℕ) (selector : Selector) (code : List Instruction) : Type 0 where
  pub sound : IsSound (parts_of c m selector code text)
  pub compiled : IsCompiled names edits c m text (parts_of c m selector code text)

-- a spelled method of which nothing is refused in a class
module _ (edits : List Edit) (c : ClassId) (m : Method) (text : List ℕ) (s : Spells m text) (none : first_of (code_rules edits c m) ≡ None) where
  small_code : is_small (method_code m) ≡ true
  small_code = rules_small (scope_of edits c m) (locals_of m) (method_code m) none

  pub ready_code : IsReady (scope_of edits c m) (method_code m)
  ready_code =
      let fine : AreFine (method_code m) = method_fine m s.spelled.grammar (spelled_named m text s) (small_length (method_code m) small_code) in
      record {
        known = rules_known (scope_of edits c m) (locals_of m) (method_code m) none;
        fits = fine_fits (method_code m) fine;
        near = fine_near (method_code m) fine;
      }

  -- the numbers of its selector and its instructions
  module _ (names : List (List ℕ)) (selector : Selector) (code : List Instruction) (e : place_of names (pattern_selector m.pattern) ≡ Some selector.0) (k : instructions_of names (scope_of edits c m) (method_code m) ≡ Some code) where
    sound : IsSound (parts_of c m selector code text)
    sound =
        let scope = scope_of edits c m in
        let ls = method_code m in
        let same : length code ≡ length ls = instructions-length names scope ls code k in
        record {
          long = length-map ls (λ l. l.depth) ∙ sym same;
          short = omega (arith, same, small_length ls small_code);
          start = begins_empty m;
          each = code_fits names scope ls code k (all_fit m);
          shallow = λ place depth at. leb-true depth 64 (list_all_get (λ n. leb n 64) (map (λ l. l.depth) ls) place depth (list_all-map (λ n. leb n 64) (λ l. l.depth) ls ∙ small_depths ls small_code) at);
          few = spelled_arguments m text s;
          small = spelled_locals m text s;
          sites = refl;
          text = s.spelled.short;
        }

    suited : suits names edits c (parts_of c m selector code text) ≡ true
    suited =
        let arguments = length (arguments_of m.pattern) in
        let temporaries = length (temporaries_of m.temporaries) in
        let all = λ (n : ℕ). list_all (instruction_suits names (class_count edits) (length (slots edits c)) n) code in
        let own : is_number (arity_at names selector) arguments ≡ true = arity-place names (pattern_selector m.pattern) arguments selector.0 e (spelled_pattern m text s) in
        let count : length (texts (locals_of m)) ≡ arguments + temporaries = length-map (locals_of m) (λ n. n.text) ∙ locals_count m in
        let each : all (arguments + temporaries) ≡ true = subst (λ n. all n ≡ true) count (code_suits names (scope_of edits c m) (method_code m) code ready_code.fits k) in
        and_from (eqb c.0 c.0 && is_number (arity_at names selector) arguments) (all (arguments + temporaries)) (and_from (eqb c.0 c.0) (is_number (arity_at names selector) arguments) (eq-eqb c.0 c.0 refl) own) each

    pub made_of : IsMade names edits c m text selector code
    made_of = record {
      sound = sound;
      compiled = record {
        selector = e;
        code = k;
        parts = refl;
        fitting = suited;
      };
    }
