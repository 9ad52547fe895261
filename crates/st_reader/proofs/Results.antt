-- Errors that are passed on.
use Rattle.std.proofs.Common.{◌≡◌, Option, None, Result, Ok, Err, IsErrAnd, sym, subst}
use Rattle.st_reader.specs.declared.parser.Wrong.{Wrong}
use Rattle.st_reader.specs.declared.parser.Wrong.TheVariants.{NoTree, NoMemory}
use Rattle.st_reader.specs.Parser.{Gives}

passed : {X Y Z W : Type 0} (view : X → Y) (inner : Z → W) (e : Wrong) (part : Option W) (read : Option Y) → (part ≡ None → read ≡ None) → Gives inner (Err e) part → Gives view (Err e) read
passed view inner NoMemory part read h g = tt
passed view inner NoTree part read h g = h g

-- where a part fails for want of a tree, the whole has none
pub gives_err : {X Y Z W : Type 0} (view : X → Y) (inner : Z → W) (r : Result X Wrong) (e : Wrong) (part : Option W) (read : Option Y) → IsErrAnd r (λ y. y ≡ e) → (part ≡ None → read ≡ None) → Gives inner (Err e) part → Gives view r read
gives_err view inner (Ok x) e part read q h g = absurd q
gives_err view inner (Err y) e part read q h g = subst (λ (z : Wrong). Gives view (Err z) read) (sym q) (passed view inner e part read h g)
