use Rattle.std.proofs.Common.{rules}
use Rattle.std.proofs.lemmas.Iterator.{cases_from_all, YieldsList-from_slice}
use Rattle.libyaml_types.specs.Texts.{PairIsUtf8}
use Rattle.libyaml_types.proofs.Pairs.{all_are_utf8}
use Rattle.libyaml_types.proofs.utf8.are_utf8_pairs.Goals as goal
use borrow.Author.Tests.{tests}

pub returns : goal.returns
returns c =
    all_are_utf8 _ _ (cases_from_all _ _ _ PairIsUtf8 (λ pair. ¬ PairIsUtf8 pair) c.all.ensures.ran
    (YieldsList-from_slice c.args.pairs.now cc)
    (λ x q k. search (rules, tests)) (λ x q k. search (rules, tests)))
