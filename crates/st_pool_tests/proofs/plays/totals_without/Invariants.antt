use Rattle.st_calls.specs.Growth.{amounts}
use Rattle.st_pool_tests.proofs.plays.totals_without.Given as goal

-- the ledgers are the blanks', the book is that of what was opened, and all begin at the image and what it has counted
abbrev pub ghosts-played : goal.ghosts-played
ghosts-played g a = record { posts = a.blanks.posts.name; edits = a.blanks.edits.name; steps = a.blanks.steps.name; emptied = a.blanks.emptied.name; start = amounts a.image.value; first = a.image.value; book = a.opened.seen.book }
