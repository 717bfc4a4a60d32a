use Rattle.std.proofs.Common.{None, Ok, ◌∙◌, ℕ, List, Option, ap, option_map, string_bytes, sym}
use Rattle.libyaml_events.proofs.layer.Contents.{opening_put}
use Rattle.libyaml_grammar.specs.grammar.Events.{event, Event}
use Rattle.libyaml_events.specs.machine.Config.{Machine, holding}
use Rattle.libyaml_events.specs.machine.Want.{Given}
use Rattle.libyaml_events.specs.automaton.AutomatonResults.{collection_start}
use Rattle.libyaml_types.specs.declared.event.unnamed_yaml_event_t_data.{unnamed_yaml_event_t_data}
use Rattle.libyaml_events.proofs.parser.TokenParser.put_opening.Goals as goal

pub returns : goal.returns
returns c = record {
  puts = λ led end opening fits out h r es ee s. (
    opening_put out h c.args.pending.now.properties.anchor (option_map string_bytes c.args.tag) c.args.token.now led r c.args.pending.now.reading c.args.self.now
        c.args.out.now.start_mark opening fits es s ∙ (ap (λ (e : Event). Ok (Given e (holding None c.args.self.now)))
        (sym (c.put_node.ensures.put ∙ ap (λ (x : unnamed_yaml_event_t_data). event x c.args.out.now.start_mark c.args.token.now.end_mark)
        (c.collection_start-content.ensures
        ∙ ap (λ (a : Option (List ℕ)). collection_start a (option_map string_bytes c.args.tag) c.args.token.now.content)
        c.take_anchor-anchor.ensures)))
        ∙ ap (λ (m : Machine). Ok (Given c.put_node.new.out (holding None m))) (sym c.put_node.ensures.same)),
    λ e. cc,
  );
}
