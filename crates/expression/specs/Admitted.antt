-- An admitted expression, read as trees. Assumes nothing.
--
--   form_of x p    the form at the place p of the expression x; past the end a Zero
--   tree_of x p    the tree that stands there
--   count_of x     how many places the expression has
--   whole_of x     the last place, which is the whole
--   Holds raw c x the expression x is the one of the raw places, with c constants
use Rattle.std.specs.Prelude.{◌≡◌, ℕ, ◌-◌, ◌<◌, List, length, Some, slice_index_or}
use Rattle.expression.specs.declared.raw.RawPlace.{RawPlace}
use Rattle.expression.specs.declared.expression.Expression.{Expression}
use Rattle.expression.specs.declared.form.Form.{Form}
use Rattle.expression.specs.declared.form.Form.TheVariants.{Zero}
use Rattle.expression.specs.Forms.{Tree, tree_at}
use Rattle.expression.specs.Admission.{table_read, read_at}

abbrev pub form_of : Expression → ℕ → Form
form_of x p = slice_index_or x.table.forms.items p Zero

abbrev pub tree_of : Expression → ℕ → Tree
tree_of x p = tree_at x.table.forms.items p

abbrev pub count_of : Expression → ℕ
count_of x = length x.table.forms.items

abbrev pub whole_of : Expression → ℕ
whole_of x = count_of x - 1

-- each form as it is read off its raw place
pub record Holds (raw : List RawPlace) (c : ℕ) (x : Expression) : Type 0 where
  pub table : x.table.forms.items ≡ table_read raw
  pub size : count_of x ≡ length raw
  pub constant_count : x.constants ≡ c
  pub forms : (p : ℕ) → p < length raw → read_at raw p ≡ Some (form_of x p)
