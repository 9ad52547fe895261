-- What callers see of a device in memory.
use Rattle.std.specs.Prelude.{ℕ, List}
use Rattle.st_log.specs.declared.memory.Memory.{Memory}

-- its bytes
abbrev pub memory_bytes : Memory → List ℕ
memory_bytes m = m.bytes.items
