use Rattle.std.proofs.Common.{option_map, refl, string_bytes}
use Rattle.libyaml_events.proofs.layer.Contents.{content_again}
use Rattle.libyaml_events.specs.machine.Outcomes.{only_if}
use Rattle.libyaml_automaton.specs.Numbers.{flag}
use Rattle.libyaml_events.proofs.parser.TokenParser.put_content.Goals as goal

pub returns-in-YAML_SCALAR_TOKEN-clause-puts : goal.returns-in-YAML_SCALAR_TOKEN-clause-puts
returns-in-YAML_SCALAR_TOKEN-clause-puts c = λ o h.
    content_again o h (option_map string_bytes c.args.tag) c.args.token.now c.args.self.now c.args.self.now
    c.args.self.now c.args.pending.now.reading c.forget_earlier.new.pending.reading
    (only_if (flag c.args.pending.now.reading.has_anchor) c.args.pending.now.properties.anchor)
    c.forget_earlier.new.pending.properties.anchor
    c.put_content_of.result c.put_content_of.new.token c.put_content_of.new.pending c.put_content_of.new.out
    c.put_content_of.new.self refl c.forget_earlier.ensures.anchor c.forget_earlier.ensures.reading
    (c.put_content_of.ensures.puts o h)

pub returns-in_default-clause-puts : goal.returns-in_default-clause-puts
returns-in_default-clause-puts c = λ o h.
    content_again o h (option_map string_bytes c.args.tag) c.args.token.now c.args.self.now c.args.self.now
    c.args.self.now c.args.pending.now.reading c.forget_earlier.new.pending.reading
    (only_if (flag c.args.pending.now.reading.has_anchor) c.args.pending.now.properties.anchor)
    c.forget_earlier.new.pending.properties.anchor
    c.put_other_content.result c.put_other_content.new.token c.put_other_content.new.pending c.put_other_content.new.out
    c.put_other_content.new.self refl c.forget_earlier.ensures.anchor c.forget_earlier.ensures.reading
    (c.put_other_content.ensures.puts o h)
