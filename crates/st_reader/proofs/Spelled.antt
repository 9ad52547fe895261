-- What a text spells by the grammar, by its tokens.
use Rattle.std.proofs.Common.{◌≡◌, ℕ, ◌<◌, ◌≤◌, true, false, List, length, Some, None, refl, sym, ap, subst, ◌∙◌, arith, ◌⊎◌, inl, inr}
use Rattle.std.specs.List.{list_all}
use Rattle.st_classes.specs.declared.refusals.Refusal.{Refusal}
use Rattle.st_classes.specs.declared.refusals.Refusal.TheVariants.{BadSource, NoMemory, UnknownClass, ClassExists, KernelClass, KernelMethod, BadName, SlotClash, TooDeep, NoSuchMethod, UnknownActor, Closed, Full, Old, BadArguments, NothingToDo, Stale, Changed, TooMany, Pending, Expired, BadCommand, TooLong, BadImage, HistoryFull, ReadFault, WriteFault, Cycle, SlotsDiffer}
use Rattle.st_reader.specs.Faults.{IsBadSource, RefusesSource}
use Rattle.st_reader.specs.Tokens.{Token, IsCut, CutsOneWay, is_character, token_fits}
use Rattle.st_reader.specs.Syntax.{Method}
use Rattle.st_reader.specs.Grammar.{method_toks}
use Rattle.st_reader.specs.Parser.{method_of}
use Rattle.st_reader.specs.Spelling.{OneReading, SpellsGrammar}
use Rattle.st_reader.proofs.Sound.{method_sound}
use Rattle.st_reader.proofs.Complete.{method_complete}

pub spelled : (text : List ℕ) (ts : List Token) (m : Method) → length text ≤ 4096 → list_all is_character text ≡ true → IsCut text ts → list_all token_fits ts ≡ true → method_of ts ≡ Some m → SpellsGrammar m text
spelled text ts m short plain cut fits read =
    let s = method_sound ts m read in
    record { short = short; characters = plain; cut = subst (IsCut text) (sym s.0) cut; fits = subst (λ (l : List Token). list_all token_fits l ≡ true) (sym s.0) fits; grammar = s.1 }

some_method : (a b : Method) → Some a ≡ Some b → a ≡ b
some_method a b e = cc

module _ (one : CutsOneWay) where
  -- the tokens of a method that a text spells are those into which it is cut
  same_tokens : (text : List ℕ) (ts : List Token) (m : Method) → IsCut text ts → SpellsGrammar m text → method_toks m ≡ ts
  same_tokens text ts m cut spells = one text (method_toks m) ts spells.cut cut

  pub one_method : (text : List ℕ) (ts : List Token) (m other : Method) → IsCut text ts → method_of ts ≡ Some m → SpellsGrammar other text → other ≡ m
  one_method text ts m other cut read spells =
      some_method other m (sym (method_complete other spells.grammar) ∙ ap method_of (same_tokens text ts other cut spells) ∙ read)

  pub no_method : (text : List ℕ) (ts : List Token) → IsCut text ts → method_of ts ≡ None → (m : Method) → SpellsGrammar m text → ⊥
  no_method text ts cut none m spells =
      let both : Some m ≡ None = sym (method_complete m spells.grammar) ∙ ap method_of (same_tokens text ts m cut spells) ∙ none in
      cc

  pub no_fit : (text : List ℕ) (ts : List Token) → IsCut text ts → list_all token_fits ts ≡ false → (m : Method) → SpellsGrammar m text → ⊥
  no_fit text ts cut over m spells =
      let e : false ≡ true = sym over ∙ ap (list_all token_fits) (sym (same_tokens text ts m cut spells)) ∙ spells.fits in
      cc

-- no text spells two methods, since it is cut into tokens in one way
pub one_reading : CutsOneWay → OneReading
one_reading one text a b s t =
    some_method a b (sym (method_complete a s.spelled.grammar) ∙ ap method_of (one text (method_toks a) (method_toks b) s.spelled.cut t.spelled.cut) ∙ method_complete b t.spelled.grammar)

pub no_cut : (text : List ℕ) → ((ts : List Token) → IsCut text ts → ⊥) → (m : Method) → SpellsGrammar m text → ⊥
no_cut text none m spells = none (method_toks m) spells.cut

pub too_long : (text : List ℕ) → 4096 < length text → (m : Method) → SpellsGrammar m text → ⊥
too_long text long m spells = let h = spells.short in omega arith

pub no_character : (text : List ℕ) → list_all is_character text ≡ false → (m : Method) → SpellsGrammar m text → ⊥
no_character text bad m spells = let e : false ≡ true = sym bad ∙ spells.characters in cc

-- ---- what a refused source is refused with

pub said : {X : Type 0} (e : Refusal) → RefusesSource e → X → (e ≡ NoMemory) ⊎ (IsBadSource e × X)
said (BadSource kind offset) r x = inr (tt, x)
said NoMemory r x = inl refl
said UnknownClass r x = absurd r
said ClassExists r x = absurd r
said KernelClass r x = absurd r
said KernelMethod r x = absurd r
said BadName r x = absurd r
said SlotClash r x = absurd r
said TooDeep r x = absurd r
said NoSuchMethod r x = absurd r
said UnknownActor r x = absurd r
said Closed r x = absurd r
said Full r x = absurd r
said (Old n) r x = absurd r
said BadArguments r x = absurd r
said NothingToDo r x = absurd r
said (Stale n) r x = absurd r
said Changed r x = absurd r
said (TooMany what) r x = absurd r
said Pending r x = absurd r
said Expired r x = absurd r
said BadCommand r x = absurd r
said TooLong r x = absurd r
said (BadImage place) r x = absurd r
said HistoryFull r x = absurd r
said ReadFault r x = absurd r
said WriteFault r x = absurd r
said Cycle r x = absurd r
said SlotsDiffer r x = absurd r
