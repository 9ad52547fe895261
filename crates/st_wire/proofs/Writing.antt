-- Tokens that are written one after the other.
use Rattle.std.proofs.Common.{◌≡◌, ℕ, ◌+◌, ◌<◌, List, [], ◌∷◌, ◌++◌, length, get_or, drop, sym, ap, ◌∙◌, refl, drop-cons, add-one, append_assoc, Result}
use Rattle.std.proofs.lemmas.Result.{on_ok_weaker}
use Rattle.json.specs.Token.{Token}
use Rattle.json.specs.Written.{Written, Writes}
use Rattle.st_wire.specs.declared.replies.SiteReport.{SiteReport}
use Rattle.st_wire.specs.Replies.{site_data, site_items}
use Rattle.st_wire.specs.Writing.{Added, Adds, data_tokens, items_tokens}

-- more of them behind those
pub added : {a b c : Written} {xs ys : List Token} → Added a b xs → Added b c ys → Added a c (xs ++ ys)
added {a} {b} {c} {xs} {ys} first more = record { before = more.before ∙ first.before; tokens = more.tokens ∙ ap (λ ts. ts ++ ys) first.tokens ∙ append_assoc a.tokens xs ys }

-- more of them behind those, unless memory runs out
pub adds : {T E : Type 0} (r : Result T E) {a b : Written} (c : Written) {xs : List Token} (ys : List Token) → Added a b xs → Adds r b c ys → Adds r a c (xs ++ ys)
adds r c ys first more = on_ok_weaker r (λ m. added first m) more

-- one token
pub one : {E : Type 0} {r : Result (Unit {0}) E} {a b : Written} {t : Token} → Writes r a b t → Adds r a b (t ∷ [])
one {r = r} w = on_ok_weaker r (λ e. record { before = w.room.0; tokens = e }) w.ok

-- one site more
pub one_site : (sites : List SiteReport) (k : ℕ) (site : SiteReport) (a b c : Written) → k < length sites → site ≡ get_or sites k site
    → (b.before ≡ a.before) × (b.tokens ++ items_tokens (site_items (drop k sites)) ≡ a.tokens ++ items_tokens (site_items sites)) → Added b c (data_tokens (site_data site))
    → (c.before ≡ a.before) × (c.tokens ++ items_tokens (site_items (drop (k + 1) sites)) ≡ a.tokens ++ items_tokens (site_items sites))
one_site sites k site a b c h is so_far written =
    let later = items_tokens (site_items (drop (k + 1) sites)) in
    let first : items_tokens (site_items (drop k sites)) ≡ data_tokens (site_data site) ++ later = rw (add-one, drop-cons sites k site, sym is) refl in
    (written.before ∙ so_far.0, ap (λ ts. ts ++ later) written.tokens ∙ append_assoc b.tokens _ later ∙ ap (λ ts. b.tokens ++ ts) (sym first) ∙ so_far.1)
