-- The laws that every view keeps, in one list. Assumes nothing.
--
-- RunLaws: of every run, whatever it compares
--   recorded        every comparison of a finished run has the outcome that the run's own comparing gives
--   same_course     another way to compare takes the same course if and only if it agrees with every recorded comparison
--   bounds          the entries of a finished run name entries that there are, and each list is within its size
--   only_adds       a run only adds entries, after those of the source
--   reached         what a recursion takes as reached is exactly what arrows of any origin reach
--   members, nodes, arrows    its set S has exactly the nodes reached, upwards, and T exactly the arrows with their tail in S
--   recursion       a recursion is the run of its rule over S, T and the hubs
--   hub_numbers, hubs, hubs_stand    the hubs' numbers, the hubs that are made, and what they stand for
--   rows            the rows are exactly the shown nodes with the arrows that lead on, by node and then by arrow, each once
--
-- LabelLaws alike meaning: of every kind of label, whose labels are alike where their meanings are equal
--   classes         the run over class numbers is the run that asks the labels themselves
--   recorded        every comparison of a finished run agrees with the two labels' meanings
--   same_course     a second labelling takes the same course if and only if it agrees with every recorded comparison
use Rattle.std.specs.Prelude.{Bool}
use Rattle.laws.specs.Bounds.{Bounds}
use Rattle.laws.specs.Extends.{OnlyAdds}
use Rattle.laws.specs.Labelling.{ClassesStand, RecordedMeanings, SameCourseMeanings}
use Rattle.laws.specs.Reached.{ReachedExact}
use Rattle.laws.specs.Recorded.{Recorded, SameCourse}
use Rattle.laws.specs.Recursion.{MembersExact, NodesExact, ArrowsExact, RecursionRule, HubNumbers, HubsExact, HubsStand}
use Rattle.rows.specs.RowsLaw.{RowsLaw}

pub record RunLaws : Type 0 where
  pub recorded : Recorded
  pub same_course : SameCourse
  pub bounds : Bounds
  pub only_adds : OnlyAdds
  pub reached : ReachedExact
  pub members : MembersExact
  pub nodes : NodesExact
  pub arrows : ArrowsExact
  pub recursion : RecursionRule
  pub hub_numbers : HubNumbers
  pub hubs : HubsExact
  pub hubs_stand : HubsStand
  pub rows : RowsLaw

pub record LabelLaws {L M : Type 0} (alike : L → L → Bool) (meaning : L → M) : Type 0 where
  pub classes : ClassesStand alike meaning
  pub recorded : RecordedMeanings alike meaning
  pub same_course : SameCourseMeanings alike meaning
