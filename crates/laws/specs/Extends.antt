-- A run only adds entries. Assumes nothing.
--
--   Begins xs ys   ys begins with xs
--   Extends c d    each list of the course d begins with that of c
--   OnlyAdds       a finished evaluation leaves a course that extends the one that it went on from, and so the course of a
--                  finished run extends the source's entries
use Rattle.std.specs.Prelude.{◌≡◌, ℕ, List, ◌++◌}
use Rattle.expression.specs.Forms.{Tree}
use Rattle.course.specs.declared.environment.Environment.{Environment}
use Rattle.course.specs.Course.{Course, done}
use Rattle.course.specs.Labels.{Compare}
use Rattle.course.specs.Sources.{Graph}
use Rattle.course.specs.Opening.{opening}
use Rattle.course.specs.Forward.{Maps, eval, forward}

pub record Begins {X : Type 0} (xs ys : List X) : Type 0 where
  pub rest : List X
  pub is : ys ≡ xs ++ rest

pub record Extends (c d : Course) : Type 0 where
  pub nodes : Begins c.nodes d.nodes
  pub arrows : Begins c.arrows d.arrows
  pub frames : Begins c.frames d.frames
  pub comparisons : Begins c.comparisons d.comparisons

pub record OnlyAdds : Type 0 where
  pub evaluation : (cmp : Compare) (e : Tree) (env : Environment) (f : ℕ) (c : Course) (m : Maps) (d : Course) → eval cmp e env f c ≡ done m d → Extends c d
  pub run : (cmp : Compare) (g : Graph) (e : Tree) (v : ℕ) (d : Course) → forward cmp g e ≡ done v d → Extends (opening g) d
