-- The text of a method is ASCII.
use Rattle.std.proofs.Common.{◌≡◌, ℕ, ◌<◌, List, true, arith}
use Rattle.std.specs.Str.{is_utf8}
use Rattle.std.proofs.lemmas.Bool.Decides.{nat_tests}
use Rattle.std.proofs.lemmas.List.Elements.{All-weaker}
use Rattle.std.proofs.lemmas.List.Sums.{AllPass-from_list_all}
use Rattle.std.proofs.lemmas.Str.{IsUtf8-from_ascii, is_utf8-from_IsUtf8}
use Rattle.std.proofs.lemmas.Str.Ascii.{IsAscii-from_all}
use Rattle.st_reader.specs.Tokens.{is_character}
use Rattle.st_reader.specs.Syntax.{Method}
use Rattle.st_reader.specs.Spelling.{Spells}

character_is_ascii : (b : ℕ) → is_character b ≡ true → b < 128
character_is_ascii b h = grind (arith, nat_tests)

pub spelled_is_ascii : (method : Method) (source : List ℕ) → Spells method source → is_utf8 source ≡ true
spelled_is_ascii method source h =
    let characters = AllPass-from_list_all is_character source h.spelled.characters in
    is_utf8-from_IsUtf8 source (IsUtf8-from_ascii source (IsAscii-from_all source (All-weaker (λ (b : ℕ). is_character b ≡ true) (λ (b : ℕ). b < 128) character_is_ascii source characters)))
