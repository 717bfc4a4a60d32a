use Rattle.std.proofs.Common.{ap, option_map, refl, rules, string_bytes, sym}
use Rattle.libyaml_events.proofs.layer.Contents.{content_put}
use Rattle.libyaml_events.specs.automaton.AutomatonResults.{IsOpening}
use Rattle.libyaml_events.specs.declared.pending.Pending.{Pending}
use Rattle.libyaml_events.specs.declared.step.Step.TheVariants as stepped
use Rattle.libyaml_events.proofs.parser.TokenParser.put_content_of.Goals as goal

pub returns-in-Scalar-clause-puts : goal.returns-in-Scalar-clause-puts
returns-in-Scalar-clause-puts g c = λ o h.
    content_put o h (option_map string_bytes c.args.tag) c.args.token.now c.args.self.now c.args.self.now c.lead_content.new.self
    c.args.pending.now.reading c.args.pending.now.reading c.args.pending.now.properties.anchor c.args.pending.now.properties.anchor
    stepped.Given c.put_scalar_after.new.token c.put_scalar_after.new.pending c.put_scalar_after.new.out c.put_scalar_after.new.self refl refl refl
    c.lead_content.result c.lead_content.new.pending.reading c.lead_content.new.pending.properties.anchor
    c.args.out.now.start_mark c.args.pending.now.reading.end_mark
    (ap (λ (x : Pending). x.properties.anchor) c.lead_content.ensures.texts) (sym c.requires.start) refl
    (c.lead_content.ensures.led o h c.args.pending.now.properties.anchor (option_map string_bytes c.args.tag))
    (λ out h r es ee s. c.put_scalar_after.ensures.puts _ out h r es ee (rw c.in-Scalar.is at s))

pub returns-in-EmptyHead-clause-puts : goal.returns-in-EmptyHead-clause-puts
returns-in-EmptyHead-clause-puts g c = λ o h.
    content_put o h (option_map string_bytes c.args.tag) c.args.token.now c.args.self.now c.args.self.now c.lead_content.new.self
    c.args.pending.now.reading c.args.pending.now.reading c.args.pending.now.properties.anchor c.args.pending.now.properties.anchor
    stepped.GivenBefore c.args.token.now c.put_empty_after.new.pending c.put_empty_after.new.out c.put_empty_after.new.self refl refl refl
    c.lead_content.result c.lead_content.new.pending.reading c.lead_content.new.pending.properties.anchor
    c.args.out.now.start_mark c.args.pending.now.reading.end_mark
    (ap (λ (x : Pending). x.properties.anchor) c.lead_content.ensures.texts) (sym c.requires.start) refl
    (c.lead_content.ensures.led o h c.args.pending.now.properties.anchor (option_map string_bytes c.args.tag))
    (λ out h r es ee s. c.put_empty_after.ensures.puts _ out h r es ee (rw c.in-EmptyHead.is at s))

pub returns-in-IndentlessSequence-clause-puts : goal.returns-in-IndentlessSequence-clause-puts
returns-in-IndentlessSequence-clause-puts g c = λ o h.
    content_put o h (option_map string_bytes c.args.tag) c.args.token.now c.args.self.now c.args.self.now c.lead_content.new.self
    c.args.pending.now.reading c.args.pending.now.reading c.args.pending.now.properties.anchor c.args.pending.now.properties.anchor
    stepped.GivenBefore c.args.token.now c.put_indentless.new.pending c.put_indentless.new.out c.put_indentless.new.self refl refl refl
    c.lead_content.result c.lead_content.new.pending.reading c.lead_content.new.pending.properties.anchor
    c.args.out.now.start_mark c.args.pending.now.reading.end_mark
    (ap (λ (x : Pending). x.properties.anchor) c.lead_content.ensures.texts) (sym c.requires.start) refl
    (c.lead_content.ensures.led o h c.args.pending.now.properties.anchor (option_map string_bytes c.args.tag))
    (λ out h r es ee s. c.put_indentless.ensures.puts _ out h r es ee (rw c.in-IndentlessSequence.is at s))

pub returns-in-Failed-clause-puts : goal.returns-in-Failed-clause-puts
returns-in-Failed-clause-puts g c = λ o h.
    content_put o h (option_map string_bytes c.args.tag) c.args.token.now c.args.self.now c.args.self.now c.lead_content.new.self
    c.args.pending.now.reading c.args.pending.now.reading c.args.pending.now.properties.anchor c.args.pending.now.properties.anchor
    c.set_problem.result c.args.token.now c.lead_content.new.pending c.args.out.now c.set_problem.new.self refl refl refl
    c.lead_content.result c.lead_content.new.pending.reading c.lead_content.new.pending.properties.anchor
    c.args.out.now.start_mark c.args.pending.now.reading.end_mark
    (ap (λ (x : Pending). x.properties.anchor) c.lead_content.ensures.texts) (sym c.requires.start) refl
    (c.lead_content.ensures.led o h c.args.pending.now.properties.anchor (option_map string_bytes c.args.tag))
    (λ out h r es ee s. let t = (rw c.in-Failed.is at s) in search rules)

pub returns-in_default : goal.returns-in_default
returns-in_default g c =
    let opening : IsOpening c.lead_content.result = search rules in
    record {
      puts = λ o h.
          content_put o h (option_map string_bytes c.args.tag) c.args.token.now c.args.self.now c.args.self.now c.lead_content.new.self
          c.args.pending.now.reading c.args.pending.now.reading c.args.pending.now.properties.anchor c.args.pending.now.properties.anchor
          stepped.Given c.args.token.now c.put_opening.new.pending c.put_opening.new.out c.put_opening.new.self refl refl refl
          c.lead_content.result c.lead_content.new.pending.reading c.lead_content.new.pending.properties.anchor
          c.args.out.now.start_mark c.args.pending.now.reading.end_mark
          (ap (λ (x : Pending). x.properties.anchor) c.lead_content.ensures.texts) (sym c.requires.start) refl
          (c.lead_content.ensures.led o h c.args.pending.now.properties.anchor (option_map string_bytes c.args.tag))
          (c.put_opening.ensures.puts c.lead_content.result _ opening c.lead_content.ensures.fits);
      grows = λ f. absurd cc;
      handle = λ f. absurd cc;
    }
