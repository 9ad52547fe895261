-- An item is the one that was told, also an install, of which only the source is told.
use Rattle.std.proofs.Common.{◌≡◌, ℕ, List, ◌++◌, Option, Some, None, sym, ap, subst, ◌∙◌}
use Rattle.std.proofs.lemmas.Option.{same_Some}
use Rattle.st_classes.specs.declared.values.ClassId.{ClassId}
use Rattle.st_classes.specs.declared.edits.Edit.{Edit}
use Rattle.st_classes.specs.declared.edits.Edit.TheVariants.{Define, Install, Remove, Reparent}
use Rattle.st_classes.specs.declared.methods.MethodParts.{MethodParts}
use Rattle.st_reader.specs.Spelling.{OneReading, Spells}
use Rattle.st_reader.specs.Syntax.{Method}
use Rattle.st_compile.specs.CompiledMethod.{IsCompiled}
use Rattle.st_image.specs.declared.history.Item.{Item}
use Rattle.st_image.specs.declared.history.Item.TheVariants.{Edited, Created, Posted, Closed, Begun, Ran}
use Rattle.st_image.specs.CompiledEdits.{IsCompiledFrom}
use Rattle.st_image.proofs.CompiledEdits.{method_more}
use Rattle.st_image.proofs.LoadedNames.{compiled_once}
use Rattle.st_journal.specs.declared.entries.Entry.{Entry}
use Rattle.st_journal.specs.declared.entries.Entry.TheVariants as entry
use Rattle.st_journal.specs.Entries.{IsCompiledItem, told}

-- one method of a class has a source, also at names that go on
same_method : (names more : List (List ℕ)) (edits : List Edit) (c : ClassId) (p q : MethodParts) → OneReading → IsCompiledFrom names edits c p → IsCompiledFrom (names ++ more) edits c q → p.source ≡ q.source → p ≡ q
same_method names more edits c p q one f g same =
    let methods : f.method ≡ g.method = one p.source f.method g.method f.spelled (subst (Spells g.method) (sym same) g.spelled) in
    let longer : IsCompiled (names ++ more) edits c f.method p.source p = method_more names more edits c f.method p.source p f.compiled in
    let of_other : IsCompiled (names ++ more) edits c g.method p.source p = subst (λ (m : Method). IsCompiled (names ++ more) edits c m p.source p) methods longer in
    let here : IsCompiled (names ++ more) edits c g.method p.source q = subst (λ (t : List ℕ). IsCompiled (names ++ more) edits c g.method t q) (sym same) g.compiled in
    compiled_once (names ++ more) edits c g.method p.source p q of_other here

-- the item that an entry tells, but for a method
abbrev untold : Entry → Option Item
untold (entry.Name text) = None
untold (entry.Define name parent slots) = Some (Edited (Define name parent slots))
untold (entry.Install class source) = None
untold (entry.Remove class selector) = Some (Edited (Remove class selector))
untold (entry.Reparent class parent) = Some (Edited (Reparent class parent))
untold (entry.Created class) = Some (Created class)
untold (entry.Posted actor message) = Some (Posted actor message)
untold (entry.Closed actor) = Some (Closed actor)
untold (entry.Begun actor) = Some (Begun actor)
untold (entry.Ran actor steps) = Some (Ran actor steps)
untold entry.Checkpoint = None

-- the item of an entry that is no method
plain : (x y : Item) → Some x ≡ untold (told y) → x ≡ y
plain x (Edited (Define name parent slots)) e = same_Some x _ e
plain x (Edited (Install c m)) e = cc
plain x (Edited (Remove c s)) e = same_Some x _ e
plain x (Edited (Reparent c p)) e = same_Some x _ e
plain x (Created c) e = same_Some x _ e
plain x (Posted a m) e = same_Some x _ e
plain x (Closed a) e = same_Some x _ e
plain x (Begun a) e = same_Some x _ e
plain x (Ran a n) e = same_Some x _ e

installed : (names more : List (List ℕ)) (edits : List Edit) (c : ClassId) (m : MethodParts) (y : Item) → OneReading → entry.Install c m.source ≡ told y → IsCompiledFrom names edits c m → IsCompiledItem (names ++ more) edits y → Edited (Install c m) ≡ y
installed names more edits c m (Edited (Define name parent slots)) one e p q = cc
installed names more edits c m (Edited (Install d n)) one e p q =
    let classes : c ≡ d = cc in
    let sources : m.source ≡ n.source = cc in
    let methods : m ≡ n = same_method names more edits c m n one p (subst (λ (k : ClassId). IsCompiledFrom (names ++ more) edits k n) (sym classes) q) sources in
    ap (λ (k : ClassId). Edited (Install k m)) classes ∙ ap (λ (x : MethodParts). Edited (Install d x)) methods
installed names more edits c m (Edited (Remove d s)) one e p q = cc
installed names more edits c m (Edited (Reparent d k)) one e p q = cc
installed names more edits c m (Created d) one e p q = cc
installed names more edits c m (Posted a k) one e p q = cc
installed names more edits c m (Closed a) one e p q = cc
installed names more edits c m (Begun a) one e p q = cc
installed names more edits c m (Ran a n) one e p q = cc

-- an item is told by one entry, which tells no other
pub same_item : (names more : List (List ℕ)) (edits : List Edit) (x y : Item) → OneReading → told x ≡ told y → IsCompiledItem names edits x → IsCompiledItem (names ++ more) edits y → x ≡ y
same_item names more edits (Edited (Define name parent slots)) y one e p q = plain (Edited (Define name parent slots)) y (ap untold e)
same_item names more edits (Edited (Install c m)) y one e p q = installed names more edits c m y one e p q
same_item names more edits (Edited (Remove c s)) y one e p q = plain (Edited (Remove c s)) y (ap untold e)
same_item names more edits (Edited (Reparent c k)) y one e p q = plain (Edited (Reparent c k)) y (ap untold e)
same_item names more edits (Created c) y one e p q = plain (Created c) y (ap untold e)
same_item names more edits (Posted a m) y one e p q = plain (Posted a m) y (ap untold e)
same_item names more edits (Closed a) y one e p q = plain (Closed a) y (ap untold e)
same_item names more edits (Begun a) y one e p q = plain (Begun a) y (ap untold e)
same_item names more edits (Ran a n) y one e p q = plain (Ran a n) y (ap untold e)

-- no item is told as a checkpoint
pub never_emptied : (x : Item) → told x ≡ entry.Checkpoint → ⊥
never_emptied (Edited (Define name parent slots)) e = cc
never_emptied (Edited (Install c m)) e = cc
never_emptied (Edited (Remove c s)) e = cc
never_emptied (Edited (Reparent c p)) e = cc
never_emptied (Created c) e = cc
never_emptied (Posted a m) e = cc
never_emptied (Closed a) e = cc
never_emptied (Begun a) e = cc
never_emptied (Ran a n) e = cc
