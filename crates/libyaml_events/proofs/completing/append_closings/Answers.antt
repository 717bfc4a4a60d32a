use Rattle.std.proofs.Common.{◌≡◌, ◌++◌, ◌∙◌, ℕ, List, ap, append-nil, arith, sym}
use Rattle.libyaml_types.specs.declared.enums.yaml_parser_state_t.{yaml_parser_state_t}
use Rattle.libyaml_automaton.specs.Completing.{closings}
use Rattle.libyaml_automaton.specs.Config.{states_of}
use Rattle.libyaml_automaton.proofs.exported.Stacks.{states_none}
use Rattle.libyaml_events.proofs.completing.append_closings.Goals as goal

pub returns : goal.returns
returns c =
    let items = c.loop-left.types.items in
    let states = c.args.states.now in
    let none_left : c.loop-left.left ≡ 0 = grind arith in
    sym (append-nil items)
    ∙ (ap (λ (ss : List yaml_parser_state_t). items ++ closings ss) (sym (states_none states))
    ∙ (ap (λ (n : ℕ). items ++ closings (states_of n states)) (sym none_left) ∙ c.loop-left.invariant.1))
