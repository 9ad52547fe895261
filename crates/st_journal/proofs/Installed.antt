-- An install that adds no names is done again.
use Rattle.std.proofs.Common.{◌≡◌, ◌≢◌, ◌≤◌, ℕ, ◌++◌, [], ◌∷◌, List, length, Bool, true, false, None, subst, refl, sym, ap, ◌∙◌, ◌⊎◌, inl, inr, ⊎_elim, arith, length-append}
use Rattle.std.specs.Prelude.{if◌then◌else◌}
use Rattle.st_classes.specs.Names.{interned, is_name}
use Rattle.st_classes.specs.declared.values.ClassId.{ClassId}
use Rattle.st_classes.specs.declared.edits.Edit.TheVariants.{Install}
use Rattle.st_classes.specs.declared.methods.MethodParts.{MethodParts}
use Rattle.st_reader.specs.Syntax.{Method}
use Rattle.st_compile.specs.NeededNames.{interned_all, needed_texts}
use Rattle.st_image.specs.declared.history.Item.TheVariants.{Edited}
use Rattle.st_image.specs.Images.{ImageView, appended, world}
use Rattle.st_image.specs.Installs.{Installs}
use Rattle.st_image.specs.WorldInvariant.{IsLawful}
use Rattle.std.specs.Prelude.{not}
use Rattle.st_classes.specs.declared.refusals.Refusal.TheVariants.{UnknownClass, KernelMethod}
use Rattle.st_classes.specs.Classes.{is_class}
use Rattle.st_classes.specs.EditRules.{too_many_edits}
use Rattle.st_classes.specs.Refusals.{first_of}
use Rattle.st_reader.specs.Spelling.{Spells}
use Rattle.st_compile.specs.CompiledMethod.{IsCompiled}
use Rattle.st_compile.specs.CompileRules.{code_rules}
use Rattle.st_compile.specs.NeededNames.{names_rule}
use Rattle.st_compile.specs.Scopes.{pattern_selector}
use Rattle.st_image.specs.Images.{run_rules}
use Rattle.st_image.specs.Installs.{image_install_rules, is_kernel_text, source_rules}
use Rattle.st_image.proofs.Lists.{off, off_append}
use Rattle.st_journal.specs.declared.entries.Entry.TheVariants as entry
use Rattle.st_journal.specs.Entries.{Does}
use Rattle.st_journal.specs.Refused.{NeedsNames}
use Rattle.st_journal.proofs.Replayed.{does_alone}

interned_more : (names : List (List ℕ)) (text : List ℕ) (b : Bool) → is_name names text ≡ b → (interned names text ≡ names) ⊎ (interned names text ≡ names ++ text ∷ [])
interned_more names text true is = inl (ap (λ (b : Bool). if b then names else names ++ text ∷ []) is)
interned_more names text false is = inr (ap (λ (b : Bool). if b then names else names ++ text ∷ []) is)

longer_one : (names : List (List ℕ)) (text : List ℕ) → length names ≤ length (interned names text)
longer_one names text =
    ⊎_elim
    (λ same. omega (arith, ap (λ (l : List (List ℕ)). length l) same))
    (λ more. omega (arith, ap (λ (l : List (List ℕ)). length l) more, length-append names (text ∷ [])))
    (interned_more names text (is_name names text) refl)

longer : (names texts : List (List ℕ)) → length names ≤ length (interned_all names texts)
longer names [] = omega arith
longer names (text ∷ texts) = omega (arith, longer_one names text, longer (interned names text) texts)

same_names : (names texts : List (List ℕ)) → length (interned_all names texts) ≡ length names → interned_all names texts ≡ names
same_names names [] same = refl
same_names names (text ∷ texts) same =
    ⊎_elim
    (λ (known : interned names text ≡ names).
    same_names (interned names text) texts (same ∙ sym (ap (λ (l : List (List ℕ)). length l) known)) ∙ known)
    (λ (more : interned names text ≡ names ++ text ∷ []).
    absurd (omega (arith, same, longer (interned names text) texts, ap (λ (l : List (List ℕ)). length l) more, length-append names (text ∷ []))))
    (interned_more names text (is_name names text) refl)

code_allowed : (i : ImageView) (class : ClassId) (m : Method) → first_of (image_install_rules i class m) ≡ None → first_of (code_rules (world i).edits class m) ≡ None
code_allowed i class m allowed =
    let some : first_of (source_rules i class m) ≡ None = (off_append (source_rules i class m) (names_rule i.names (needed_texts m) ∷ too_many_edits (world i).edits ∷ run_rules i) allowed).0 in
    let unknown = off (not (is_class (world i).edits class)) UnknownClass ((is_kernel_text class (pattern_selector m.pattern), KernelMethod) ∷ code_rules (world i).edits class m) some in
    (off (is_kernel_text class (pattern_selector m.pattern)) KernelMethod (code_rules (world i).edits class m) unknown.1).1

-- no name was added, so the method was compiled at the names before
pub installed_alone : (i j : ImageView) (class : ClassId) (m : Method) (source : List ℕ) (n : ℕ) → length j.names ≡ length i.names → IsLawful i → IsLawful j → Spells m source → first_of (image_install_rules i class m) ≡ None → Installs i class m source j n
    → Does i (entry.Install class source) j
installed_alone i j class m source n same before behind spelled allowed h =
    let named : interned_all i.names (needed_texts m) ≡ i.names = same_names i.names (needed_texts m) (sym (ap (λ (k : ImageView). length k.names) h.added) ∙ same) in
    let alone : j ≡ appended i (Edited (Install class h.parts) ∷ []) = h.added ∙ ap (λ (ns : List (List ℕ)). record (appended i (Edited (Install class h.parts) ∷ [])) { names = ns }) named in
    let names : j.names ≡ i.names = ap (λ (k : ImageView). k.names) alone in
    let there : IsCompiled i.names (world i).edits class m source h.parts = subst (λ (ns : List (List ℕ)). IsCompiled ns (world i).edits class m source h.parts) names h.compiled in
    let of_source : h.parts.source ≡ source = ap (λ (p : MethodParts). p.source) h.compiled.parts in
    does_alone i (Edited (Install class h.parts)) (entry.Install class source) j
    (ap (λ (t : List ℕ). entry.Install class t) of_source)
    (record {
      method = m;
      spelled = subst (Spells m) (sym of_source) spelled;
      accepted = code_allowed i class m allowed;
      compiled = subst (λ (t : List ℕ). IsCompiled i.names (world i).edits class m t h.parts) (sym of_source) there;
    })
    before behind alone

-- an install that added names needed them
pub missing_names : (i j : ImageView) (class : ClassId) (m : Method) (source : List ℕ) (n : ℕ) → length j.names ≢ length i.names → Spells m source → Installs i class m source j n → NeedsNames i source
missing_names i j class m source n more spelled h = record {
  method = m;
  spelled = spelled;
  missing = λ same. more (ap (λ (k : ImageView). length k.names) h.added ∙ ap (λ (ns : List (List ℕ)). length ns) same);
}
