-- Reports of sites, as far as some place.
use Rattle.std.proofs.Common.{◌≡◌, ℕ, ◌+◌, ◌<◌, List, [], ◌∷◌, ◌++◌, map, take, get_or, length, sym, ap, ◌∙◌}
use Rattle.std.proofs.lemmas.List.{map-append, take_more}
use Rattle.st_image.specs.declared.tallies.SiteStats.{SiteStats}
use Rattle.st_wire.specs.declared.replies.SiteReport.{SiteReport}
use Rattle.st_script.specs.SiteReports.{site_report}

-- one report more
pub reported_more : (names : List (List ℕ)) (all : List SiteStats) (n : ℕ) (s : SiteStats) (before after : List SiteReport) (r : SiteReport) → before ≡ map (site_report names) (take n all) → n < length all → r ≡ site_report names (get_or all n s) → after ≡ before ++ r ∷ [] → after ≡ map (site_report names) (take (n + 1) all)
reported_more names all n s before after r h l is e =
    let f : SiteStats → SiteReport = site_report names in
    e ∙ ap (λ xs. xs ++ r ∷ []) h
    ∙ ap (λ x. map f (take n all) ++ x ∷ []) is
    ∙ sym (map-append f (take n all) (get_or all n s ∷ []))
    ∙ ap (map f) (sym (take_more all n s l))
