-- What a table answers to one more step. Assumes nothing.
use Rattle.std.proofs.Common.{◌≡◌, ℕ, ◌<◌, Bool, cond, ◌&&◌, ltb, List, [], ◌∷◌, ◌++◌, length, ◌∙◌}
use Rattle.std.proofs.lemmas.Bool.{and_from, lt-ltb, cond-true}

-- a step that there is room for, and whose ends have a mark, is added
pub added : (old new : List (ℕ × ℕ)) (r : Bool) (t h : ℕ) → r ≡ (ltb (length old) 2048 && (ltb t 1024 && ltb h 1024)) → new ≡ cond r (old ++ (t, h) ∷ []) old →
    length old < 2048 → t < 1024 → h < 1024 → new ≡ old ++ (t, h) ∷ []
added old new r t h e q l lt lh =
    q ∙ cond-true r (old ++ (t, h) ∷ []) old (e ∙ and_from (ltb (length old) 2048) (ltb t 1024 && ltb h 1024) (lt-ltb (length old) 2048 l) (and_from (ltb t 1024) (ltb h 1024) (lt-ltb t 1024 lt) (lt-ltb h 1024 lh)))
