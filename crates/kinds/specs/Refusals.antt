-- The numbers of the refusals of labels. Assumes nothing.
--
--   number_of    24 for a text label whose length or a byte is wrong, 25 for a setting whose value is wrong
use Rattle.std.specs.Prelude.{ℕ}
use Rattle.kinds.specs.declared.refusal.Refusal.{Refusal}
use Rattle.kinds.specs.declared.refusal.Refusal.TheVariants.{Text, Setting}

abbrev pub number_of : Refusal → ℕ
number_of Text = 24
number_of Setting = 25
