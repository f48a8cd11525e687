use Rattle.laws.proofs.Labelling.{classes_stand, recorded_meanings, same_course_meanings}
use Rattle.laws.proofs.laws.labels_law.Goals as goal

pub returns : goal.returns
returns g c =
    record {
      classes = classes_stand g.L.Label.alike g.L.Label.meaning g.met.L.Label.exact;
      recorded = recorded_meanings g.L.Label.alike g.L.Label.meaning g.met.L.Label.exact;
      same_course = same_course_meanings g.L.Label.alike g.L.Label.meaning g.met.L.Label.exact;
    }
