use Rattle.std.proofs.Common.{◌≡◌, ◌<◌, ℕ, List, Some, false, true, length, slice_get, subst, sym, ◌∙◌}
use Rattle.std.specs.Global.{Vec}
use Rattle.std.proofs.lemmas.List.{length-map}
use Rattle.st_classes.specs.Names.{AreNames, is_name, texts_of}
use Rattle.st_classes.proofs.Naming.{new_name, AreNames-interned}
use Rattle.st_classes.proofs.name_table.NameTable.append.Goals as goal

pub invariant_of-self-2 : goal.invariant_of-self-2
invariant_of-self-2 c =
    let out = subst (λ names. is_name names c.args.text.now ≡ false) (sym c.self.view_is) c.requires.new in
    let room = subst (λ (names : List (List ℕ)). length names < 8192) (sym c.self.view_is) c.requires.room in
    subst AreNames (sym c.in_ok-add.ensures.ok) (AreNames-interned (texts_of c.self.inside.texts.keys) c.args.text.now c.requires.selector out room c.self.invariant)

pub returns-clause-place : goal.returns-clause-place
returns-clause-place c =
    let names = texts_of c.self.inside.texts.keys in
    let out = subst (λ ns. is_name ns c.args.text.now ≡ false) (sym c.self.view_is) c.requires.new in
    let room = subst (λ (ns : List (List ℕ)). length ns < 8192) (sym c.self.view_is) c.requires.room in
    let long : c.len-place.result ≡ length names = c.len-place.ensures.len ∙ sym (length-map c.self.inside.texts.keys (λ (w : Vec ℕ). w.items)) in
    let last : slice_get (texts_of c.add.new.texts.keys) c.len-place.result ≡ Some c.args.text.now = rw (c.in_ok-add.ensures.ok, long) (new_name names c.args.text.now c.requires.selector out room).1 in
    last
