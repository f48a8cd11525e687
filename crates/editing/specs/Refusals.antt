-- The number of each refusal, and the numbers that it names. Assumes nothing.
--
--   number e         the number under which the refusal e is told
--   four a b c d     four numbers, each of which may be missing
--   names e          the numbers that e names, in order: an arrow; the place, the frame and the list of an entry; a row; a row
--                    and the lowest edited row of its arrow; a comparison, its place, its frame and a row; none for the others
use Rattle.std.specs.Prelude.{ℕ, List, [], ◌∷◌, Some, None, Option}
use Rattle.course.specs.Course.{list_number}
use Rattle.editing.specs.declared.refusal.Refusal.{Refusal}
use Rattle.editing.specs.declared.refusal.Refusal.TheVariants.{ShortTable, SourceSize, LooseArrow, CourseFull, TooManyRows, NothingOpened, NoSuchEntry, FullDraft, NoSuchArrow, NoEdit, ConstantRow, Clashes, Turns, FullHistory, NothingStanding, NothingUndone, DraftOpen, SlipUnfit}

abbrev pub number : Refusal → ℕ
number ShortTable = 10
number SourceSize = 16
number (LooseArrow k) = 17
number (CourseFull e) = 18
number TooManyRows = 19
number NothingOpened = 20
number NoSuchEntry = 21
number FullDraft = 22
number NoSuchArrow = 23
number NoEdit = 30
number (ConstantRow r) = 31
number (Clashes c) = 32
number (Turns t) = 33
number FullHistory = 34
number NothingStanding = 40
number NothingUndone = 41
number DraftOpen = 42
number SlipUnfit = 43

abbrev pub four : Option ℕ → Option ℕ → Option ℕ → Option ℕ → List (Option ℕ)
four a b c d = a ∷ b ∷ c ∷ d ∷ []

abbrev pub names : Refusal → List (Option ℕ)
names ShortTable = four None None None None
names SourceSize = four None None None None
names (LooseArrow k) = four (Some k) None None None
names (CourseFull e) = four (Some e.place) (Some e.frame) (Some (list_number e.list)) None
names TooManyRows = four None None None None
names NothingOpened = four None None None None
names NoSuchEntry = four None None None None
names FullDraft = four None None None None
names NoSuchArrow = four None None None None
names NoEdit = four None None None None
names (ConstantRow r) = four (Some r) None None None
names (Clashes c) = four (Some c.row) (Some c.lowest) None None
names (Turns t) = four (Some t.comparison) (Some t.place) (Some t.frame) (Some t.row)
names FullHistory = four None None None None
names NothingStanding = four None None None None
names NothingUndone = four None None None None
names DraftOpen = four None None None None
names SlipUnfit = four None None None None
