-- Nothing has happened in an image that was loaded.
use Rattle.std.proofs.Common.{◌≡◌, [], Option, Some, None, Result, Ok, Err, IfOk, IfSome, inl, inr, ap}
use Rattle.st_classes.specs.declared.refusals.Refusal.{Refusal}
use Rattle.st_image.specs.Images.{ImageView}
use Rattle.st_wire.specs.Streams.{InputView}
use Rattle.st_file.specs.Files.{LoadsFile}
use Rattle.st_disk.specs.FoundImages.{found_as}

pub loaded_anew : (before after : InputView) (r : Result ImageView Refusal) → LoadsFile before after r → IfOk r (λ i. i.history ≡ [])
loaded_anew before after (Ok i) (inl (text, gives, inl (v, is, loads))) = ap (λ (j : ImageView). j.history) loads.1
loaded_anew before after (Ok i) (inl (text, gives, inr (inl (none, is)))) = cc
loaded_anew before after (Ok i) (inl (text, gives, inr (inr is))) = cc
loaded_anew before after (Ok i) (inr (e, is, stops)) = cc
loaded_anew before after (Err e) h = tt

pub found_anew : (r : Result ImageView Refusal) → IfOk r (λ i. i.history ≡ []) → IfOk (found_as r) (λ f. IfSome f (λ i. i.history ≡ []))
found_anew (Ok i) h = h
found_anew (Err e) h = tt
