-- What callers see of a file.
use Rattle.std.specs.Prelude.{ℕ, List, reverse}
use Rattle.st_journal.specs.FileDevices.{first_bytes, contents_of}
use Rattle.st_journal.specs.declared.files.FileDevice.{FileDevice}

-- its bytes
abbrev pub device_contents : {F : Type 0} → FileDevice F → List ℕ
device_contents d = contents_of (first_bytes d.opened.items) (reverse d.changes.items)
