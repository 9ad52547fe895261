-- That the books keep up with what an image counts.
use Rattle.std.proofs.Common.{◌≡◌, ℕ, ◌+◌, ap, arith}
use Rattle.st_image.specs.Images.{ImageView}
use Rattle.st_calls.specs.Growth.{Amounts, Grows}
use Rattle.st_pool.specs.Books.{BooksView, Kept}

-- books that take what a call adds keep up
pub kept_on : (start : Amounts) (i j : ImageView) (b c : BooksView) (posts edits steps : ℕ) → Kept start i b → Grows posts edits steps i j → c.posts ≡ b.posts + posts → c.edits ≡ b.edits + edits → c.steps ≡ b.steps + steps → Kept start j c
kept_on start i j b c posts edits steps k g p e s = record {
  posts = omega (arith, k.posts, p, g.more_posts);
  edits = omega (arith, k.edits, e, g.more_edits);
  steps = omega (arith, k.steps, s, g.more_steps);
}

pub kept_posted : (start : Amounts) (i j : ImageView) (b c : BooksView) (n : ℕ) → Kept start i b → Grows n 0 0 i j → c ≡ record b { posts = b.posts + n } → Kept start j c
kept_posted start i j b c n k g e = kept_on start i j b c n 0 0 k g (ap (λ (x : BooksView). x.posts) e) (omega (arith, ap (λ (x : BooksView). x.edits) e)) (omega (arith, ap (λ (x : BooksView). x.steps) e))

pub kept_edited : (start : Amounts) (i j : ImageView) (b c : BooksView) (n : ℕ) → Kept start i b → Grows 0 n 0 i j → c ≡ record b { edits = b.edits + n } → Kept start j c
kept_edited start i j b c n k g e = kept_on start i j b c 0 n 0 k g (omega (arith, ap (λ (x : BooksView). x.posts) e)) (ap (λ (x : BooksView). x.edits) e) (omega (arith, ap (λ (x : BooksView). x.steps) e))

pub kept_ran : (start : Amounts) (i j : ImageView) (b c : BooksView) (n : ℕ) → Kept start i b → Grows 0 0 n i j → c ≡ record b { steps = b.steps + n } → Kept start j c
kept_ran start i j b c n k g e = kept_on start i j b c 0 0 n k g (omega (arith, ap (λ (x : BooksView). x.posts) e)) (omega (arith, ap (λ (x : BooksView). x.edits) e)) (ap (λ (x : BooksView). x.steps) e)

pub kept_same : (start : Amounts) (i j : ImageView) (b : BooksView) → Kept start i b → Grows 0 0 0 i j → Kept start j b
kept_same start i j b k g = kept_on start i j b b 0 0 0 k g (omega arith) (omega arith) (omega arith)

pub kept_emptied : (start : Amounts) (i j : ImageView) (b c : BooksView) (n : ℕ) → Kept start i b → Grows 0 0 0 i j → c ≡ record b { emptied = n } → Kept start j c
kept_emptied start i j b c n k g e = kept_on start i j b c 0 0 0 k g (omega (arith, ap (λ (x : BooksView). x.posts) e)) (omega (arith, ap (λ (x : BooksView). x.edits) e)) (omega (arith, ap (λ (x : BooksView). x.steps) e))
