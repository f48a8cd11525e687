use Rattle.std.proofs.Common.{◌∙◌, rules}
use Rattle.std.proofs.lemmas.Iterator.{YieldsList-from_slice}
use Rattle.std.proofs.lemmas.Iterator.Consumers.{YieldsList-from_filter, YieldsList-from_enumerate, YieldsList-at, count_from_yields_List}
use Rattle.std.proofs.lemmas.List.Sums.{length-filter}
use Rattle.std.specs.Prelude.{is_ok}
use Rattle.std.specs.List.{enumerate_from}
use borrow.Author.Tests.{tests}
use Rattle.listing.specs.Totals.{first_of_class}
use Rattle.listing.proofs.totals.count_answers.Goals as goal

pub returns-clause-labels : goal.returns-clause-labels
returns-clause-labels g c =
    let answers = c.args.answers.now in
    count_from_yields_List c.filter.result c.count.result c.count.ensures.ran
    (YieldsList-from_filter _ is_ok (YieldsList-at c.filter.ensures.source (YieldsList-from_slice answers cc)) c.filter.ensures.closure (λ x b q k. search (rules, tests)))
    ∙ length-filter is_ok answers

pub returns-clause-distinct : goal.returns-clause-distinct
returns-clause-distinct g c =
    let answers = c.args.answers.now in
    count_from_yields_List c.filter-2.result c.count-2.result c.count-2.ensures.ran
    (YieldsList-from_filter _ (λ a. first_of_class a.0 a.1) (YieldsList-at c.filter-2.ensures.source (YieldsList-from_enumerate (YieldsList-at c.enumerate.ensures.source (YieldsList-from_slice answers cc)) c.enumerate.ensures.count)) c.filter-2.ensures.closure (λ x b q k. search (rules, tests)))
    ∙ length-filter (λ a. first_of_class a.0 a.1) (enumerate_from 0 answers)
