-- Epochs: turns are numbered since the last checkpoint, so a number means the same as long as the epoch is the same.
use Rattle.std.specs.Prelude.{ℕ, List, ◌++◌, codes, decimal}
use Rattle.st_queries.specs.declared.hosts.Host.{Host}

-- the text of an epoch: when the program began, and how many checkpoints there have been since
abbrev pub epoch : Host → List ℕ
epoch h = decimal h.start ++ codes "-" ++ decimal h.checkpoints
