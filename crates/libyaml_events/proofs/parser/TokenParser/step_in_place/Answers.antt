use Rattle.std.proofs.Common.{◌∙◌, [], sym}
use Rattle.std.proofs.lemmas.List.{set_at}
use Rattle.libyaml_events.proofs.parser.TokenParser.step_in_place.Goals as goal

pub returns-in-GivenBefore-clause-steps : goal.returns-in-GivenBefore-clause-steps
returns-in-GivenBefore-clause-steps c = (
  c.step.new.out,
  rw c.in-GivenBefore.is at c.step.ensures.steps,
  rw c.push_reserved.ensures.items
      (set_at c.args.events.now.items _ [] _ _ (sym (c.len-place.ensures ∙ c.args.events.now.ok.0))),
)

pub returns-in-Given-clause-steps : goal.returns-in-Given-clause-steps
returns-in-Given-clause-steps c = (
  c.step.new.out,
  rw c.in-Given.is at c.step.ensures.steps,
  rw c.push_reserved.ensures.items
      (set_at c.args.events.now.items _ [] _ _ (sym (c.len-place.ensures ∙ c.args.events.now.ok.0))),
)
