use Rattle.st_calls.specs.Growth.{amounts}
use Rattle.st_server.proofs.sockets.serve_image.Given as goal

-- the ledgers are the blanks', the book is that of what was opened, and all begin at what the image has counted
abbrev pub ghosts-serve : goal.ghosts-serve
ghosts-serve g a = record { posts = a.blanks.posts.name; edits = a.blanks.edits.name; steps = a.blanks.steps.name; emptied = a.blanks.emptied.name; start = amounts a.image; first = a.image; book = a.opened.seen.book }
