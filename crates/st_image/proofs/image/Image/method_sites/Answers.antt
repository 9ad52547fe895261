use Rattle.std.proofs.Common.{arith, ◌≡◌, ℕ, ◌+◌, ◌<◌, ◌++◌, [], ◌∷◌, List, Option, Some, None, length, take, get_or, refl, ap, sym, ◌∙◌, append-nil}
use Rattle.std.specs.List.{filter_map}
use Rattle.std.specs.Option.{option_to_list}
use Rattle.std.proofs.lemmas.Grind.{common_steps}
use Rattle.std.proofs.lemmas.List.{take_more}
use Rattle.std.proofs.lemmas.List.Elements.{filter_map-append}
use Rattle.st_image.specs.declared.tallies.SiteStats.{SiteStats}
use Rattle.st_image.specs.Stats.{site_stats}
use Rattle.st_image.proofs.image.Image.method_sites.Goals as goal
use Rattle.st_image.proofs.image.Image.method_sites.Goals.{in-Some+in_ok-push, in_default}

one : (f : ℕ → Option SiteStats) (x : ℕ) (o : Option SiteStats) → f x ≡ o → filter_map f (x ∷ []) ≡ option_to_list o
one f x None e = rw e refl
one f x (Some s) e = rw e refl

one_more : (f : ℕ → Option SiteStats) (xs : List ℕ) (i : ℕ) (o : Option SiteStats) → i < length xs → f (get_or xs i 0) ≡ o → filter_map f (take (i + 1) xs) ≡ filter_map f (take i xs) ++ option_to_list o
one_more f xs i o h e = ap (filter_map f) (take_more xs i 0 h) ∙ filter_map-append f (take i xs) (get_or xs i 0 ∷ []) ∙ ap (λ (ys : List SiteStats). filter_map f (take i xs) ++ ys) (one f (get_or xs i 0) o e)

pub sites-preserved : goal.sites-preserved
sites-preserved g c =
    let f : ℕ → Option SiteStats = site_stats c.args.self.now.standing.tallies c.args.id c.args.method.now.code in
    let xs : List ℕ = c.sites-place-items.result.now in
    elim c.match-site_stats.branch [
      | in-Some+in_ok-push w ↦ (
          let pushed : w.push.new.self.items ≡ c.sites.list.items ++ w.in-Some.told ∷ [] = grind (arith, common_steps) in
          rw w.list-is (pushed ∙ ap (λ (ys : List SiteStats). ys ++ w.in-Some.told ∷ []) c.sites.invariant ∙ sym (one_more f xs c.sites.place-index (Some w.in-Some.told) c.sites-test.true (sym c.site_stats.ensures ∙ w.in-Some.is)))
          )
      | in_default w ↦ rw w.list-is (c.sites.invariant ∙ sym (append-nil (filter_map f (take c.sites.place-index xs))) ∙ sym (one_more f xs c.sites.place-index None c.sites-test.true (sym c.site_stats.ensures ∙ w.in_default.is)))
    ]
