-- Two completions of one position with different marks differ in their first event.
use Rattle.std.proofs.Common.{◌≡◌, [], Some, arith}
use Rattle.libyaml_grammar.specs.grammar.Tokens.{Marks}
use Rattle.libyaml_grammar.specs.grammar.Trees.{Stream}
use Rattle.libyaml_grammar.specs.grammar.Events.{Event}
use Rattle.libyaml_grammar.proofs.exported.Positions.{Position, done, position_rest}
use Rattle.libyaml_grammar.proofs.exported.Given.{gives_all}
use Rattle.libyaml_grammar.specs.partial.DeterminedEvents.{next_event}

same_start : (x y : Event) → Some x ≡ Some y → x.start_mark ≡ y.start_mark
same_start x y h = grind arith

-- two completions of one position differ in their first event
abbrev Differ : Position → Marks → Marks → Type 0
Differ q m n = next_event (gives_all (position_rest m q) q []) ≡ next_event (gives_all (position_rest n q) q []) → ⊥

module _ (m n : Marks) (s : m.start ≡ n.start → ⊥) (e : m.end ≡ n.end → ⊥) where
  pub differ : (q : Position) → ((t : Stream) → q ≡ done t → ⊥) → Differ q m n
  differ q d h = grind arith
