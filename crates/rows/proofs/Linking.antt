-- The blank ones of the first arrows, with one more. Assumes nothing.
use Rattle.std.proofs.Common.{◌≡◌, ℕ, ◌+◌, ◌<◌, ◌≤◌, Bool, true, false, cond, not, List, [], ◌∷◌, ◌++◌, map, length, get_or, take, filter, ap, ◌∙◌, refl, arith}
use Rattle.std.proofs.lemmas.List.{take_more, append-nil, map-append, length-map, length-take}
use Rattle.std.proofs.lemmas.List.Elements.{filter-append}
use Rattle.std.proofs.lemmas.List.Filters.{length-filter_both}
use Rattle.std.proofs.lemmas.Bool.{cond-true, cond-false}
use Rattle.course.specs.declared.course.Arrow.{Arrow}
use Rattle.course.specs.Course.{is_blank_origin}
use Rattle.course.specs.Reach.{ends}
use Rattle.rows.specs.Links.{none}
use Rattle.rows.specs.Rows.{blanks}

abbrev blank : Arrow → Bool
blank a = is_blank_origin a.origin

module _ (arrows : List Arrow) (k : ℕ) (l : k < length arrows) where
  next : blanks (take (k + 1) arrows) ≡ blanks (take k arrows) ++ cond (blank (get_or arrows k none)) (get_or arrows k none ∷ []) []
  next = ap (filter blank) (take_more arrows k none l) ∙ filter-append blank (take k arrows) (get_or arrows k none ∷ [])

  pub blanks_more : blank (get_or arrows k none) ≡ true → map ends (blanks (take (k + 1) arrows)) ≡ map ends (blanks (take k arrows)) ++ ends (get_or arrows k none) ∷ []
  blanks_more b =
      ap (map ends) (next ∙ ap (λ (l : List Arrow). blanks (take k arrows) ++ l) (cond-true (blank (get_or arrows k none)) (get_or arrows k none ∷ []) [] b))
      ∙ map-append ends (blanks (take k arrows)) (get_or arrows k none ∷ [])

  pub blanks_same : blank (get_or arrows k none) ≡ false → map ends (blanks (take (k + 1) arrows)) ≡ map ends (blanks (take k arrows))
  blanks_same b =
      ap (map ends) (next ∙ ap (λ (l : List Arrow). blanks (take k arrows) ++ l) (cond-false (blank (get_or arrows k none)) (get_or arrows k none ∷ []) [] b) ∙ append-nil (blanks (take k arrows)))

  pub few_blanks : length (map ends (blanks (take k arrows))) ≤ k
  few_blanks = omega (arith, length-map (blanks (take k arrows)) ends, length-filter_both blank (λ a. not (blank a)) (λ a. refl) (take k arrows), length-take k arrows)
