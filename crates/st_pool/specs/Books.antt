-- The books under the lock, and how an image keeps up with them.
use Rattle.std.specs.Prelude.{◌≡◌, ℕ, ◌+◌}
use Rattle.st_image.specs.Images.{ImageView}
use Rattle.st_calls.specs.Growth.{Amounts, amounts}

-- the sums of all shares, how many shares were given out, and how many items of histories checkpoints have emptied
pub record BooksView : Type 0 where
  pub posts : ℕ
  pub edits : ℕ
  pub steps : ℕ
  pub callers : ℕ
  pub workers : ℕ
  pub emptied : ℕ

-- new books
abbrev pub no_books : BooksView
no_books = record { posts = 0; edits = 0; steps = 0; callers = 0; workers = 0; emptied = 0 }

-- the books have what an image has counted since it had these amounts
pub record Kept (start : Amounts) (i : ImageView) (b : BooksView) : Type 0 where
  pub posts : start.posts + b.posts ≡ (amounts i).posts
  pub edits : start.edits + b.edits ≡ (amounts i).edits
  pub steps : start.steps + b.steps ≡ (amounts i).steps
