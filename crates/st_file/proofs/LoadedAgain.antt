-- What was saved of an image is loaded as that image again.
use Rattle.std.proofs.Common.{◌≡◌, ℕ, List, ◌++◌, Option, None, Some, Ok, Err, inl, inr, refl, sym, ap, ap₂, ◌∙◌, subst}
use Rattle.std.specs.Io.KnownBytes.{Consumes, IsAtEnd}
use Rattle.std.proofs.lemmas.List.{append-nil}
use Rattle.std.proofs.lemmas.Option.{same_Some}
use Rattle.serde_json.specs.Data.{Data}
use Rattle.st_image.specs.Images.{counts_of}
use Rattle.st_image.specs.Loaded.{image_at}
use Rattle.st_file.specs.RoundTrips.{DocumentsLoad, FilesLoad, IsAgain, TextsLoad}
use Rattle.st_file.specs.Describes.{DescribesOne, LoadsImage, WrongDescribesNone}
use Rattle.st_file.specs.Files.{LoadsText}

pub documents_load : DescribesOne → WrongDescribesNone → DocumentsLoad
documents_load one none m v (Ok j) doc (described, is) =
    let same = one v j.names m.names j.base m.base (counts_of j) m.counts described doc.describes in
    is ∙ ap₂ (λ names base. image_at names base (counts_of j)) same.0 same.1 ∙ ap (image_at m.names m.base) same.2
documents_load one none m v (Err e) doc (inl memory) = memory
documents_load one none m v (Err e) doc (inr (p, is, wrong)) = absurd (none p v m.names m.base m.counts wrong doc.describes)

pub texts_load : DescribesOne → WrongDescribesNone → TextsLoad
texts_load one none m text result (v, doc, line) (inl (u, is, loads)) =
    let same : u ≡ v = same_Some u v (sym is ∙ line.again) in
    documents_load one none m v result doc (subst (λ (d : Data). LoadsImage d result) same loads)
texts_load one none m text result (v, doc, line) (inr (inl (nothing, is))) = let never : Some v ≡ None = sym line.again ∙ nothing in cc
texts_load one none m text result (v, doc, line) (inr (inr is)) = subst (IsAgain m) (sym is) refl

-- an input that gave all its bytes gave those that were left
all_given : (before after : Option (List ℕ)) (text given : List ℕ) → before ≡ Some text → Consumes before after given → IsAtEnd after → given ≡ text
all_given None after text given e consumed end = cc
all_given (Some xs) None text given e consumed end = absurd consumed
all_given (Some xs) (Some ys) text given e consumed end =
    sym (append-nil given) ∙ ap (λ (rest : List ℕ). given ++ rest) (sym end) ∙ sym consumed ∙ same_Some xs text e

pub files_load : DescribesOne → WrongDescribesNone → FilesLoad
files_load one none m text before after result saved has (inl (given, gives, loads)) =
    let same : given ≡ text = all_given before.remaining after.remaining text given has gives.gives.consumed gives.whole in
    inl (texts_load one none m text result saved (subst (λ (t : List ℕ). LoadsText t result) same loads))
files_load one none m text before after result saved has (inr stops) = inr stops
