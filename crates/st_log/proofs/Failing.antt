-- What holds anyway holds if a call failed.
use Rattle.std.specs.Prelude.{Result, Ok, Err, OnErr}

pub on_err : {T E P : Type 0} (result : Result T E) → P → OnErr result P
on_err (Ok value) holds = tt
on_err (Err error) holds = holds
