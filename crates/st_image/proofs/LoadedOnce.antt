-- What is loaded leads to one table.
use Rattle.std.proofs.Common.{◌≡◌, ℕ, List, [], ◌∷◌, ◌++◌, sym, ap, subst, ◌∙◌}
use Rattle.std.proofs.lemmas.Option.{same_Some}
use Rattle.st_classes.specs.declared.values.ClassId.{ClassId}
use Rattle.st_classes.specs.declared.edits.Edit.{Edit}
use Rattle.st_classes.specs.declared.edits.Edit.TheVariants.{Define, Remove, Reparent}
use Rattle.st_classes.specs.Kernel.{selector}
use Rattle.st_reader.specs.Spelling.{OneReading}
use Rattle.st_image.specs.declared.edit_text.EditText.TheVariants as text
use Rattle.st_image.specs.Loading.{LoaderView, LoadsName, LoadsEdit, LoadsAll, LeadsToOne}
use Rattle.st_image.proofs.LoadedNames.{installed_once, made}

pub name_once : LeadsToOne LoadsName
name_once l x m n p q = p.added ∙ sym q.added

same_view : (m n : LoaderView) → m.names ≡ n.names → m.edits ≡ n.edits → m ≡ n
same_view m n e f = ap (λ (ns : List (List ℕ)). made ns m.edits) e ∙ ap (λ (es : List Edit). made n.names es) f

pub edit_once : OneReading → LeadsToOne LoadsEdit
edit_once one l (text.Define name parent slots) m n p q =
    let above : p.above ≡ q.above = same_Some p.above q.above (sym p.named ∙ q.named) in
    same_view m n (p.names ∙ sym q.names) (p.accepts.added ∙ (ap (λ (c : ClassId). l.edits ++ Define name c slots ∷ []) above ∙ sym q.accepts.added))
edit_once one l (text.Install class source) m n p q = installed_once l class source m n (one source) p q
edit_once one l (text.Remove class name) m n p q =
    let holders : p.holder ≡ q.holder = same_Some p.holder q.holder (sym p.named ∙ q.named) in
    let numbers : p.number ≡ q.number = same_Some p.number q.number (sym p.there ∙ q.there) in
    same_view m n (p.names ∙ sym q.names) (p.accepts.added ∙ (ap (λ (c : ClassId). l.edits ++ Remove c (selector p.number) ∷ []) holders ∙ (ap (λ (k : ℕ). l.edits ++ Remove q.holder (selector k) ∷ []) numbers ∙ sym q.accepts.added)))
edit_once one l (text.Reparent class parent) m n p q =
    let classes : p.moved ≡ q.moved = same_Some p.moved q.moved (sym p.named ∙ q.named) in
    let above : p.above ≡ q.above = same_Some p.above q.above (sym p.named_above ∙ q.named_above) in
    same_view m n (p.names ∙ sym q.names) (p.accepts.added ∙ (ap (λ (c : ClassId). l.edits ++ Reparent c p.above ∷ []) classes ∙ (ap (λ (c : ClassId). l.edits ++ Reparent q.moved c ∷ []) above ∙ sym q.accepts.added)))

-- several, one after the other
pub all_once : {T : Type 0} (step : LoaderView → T → LoaderView → Type 0) → LeadsToOne step → LeadsToOne (LoadsAll step)
all_once step once l [] m n p q = p ∙ sym q
all_once step once l (x ∷ xs) m n p q =
    let same : p.0 ≡ q.0 = once l x p.0 q.0 p.1 q.1 in
    all_once step once q.0 xs m n (subst (λ (k : LoaderView). LoadsAll step k xs m) same p.2) q.2
