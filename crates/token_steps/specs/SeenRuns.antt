-- A run of exact calls as one of the other calls.
use Rattle.std.specs.Prelude.{◌≡◌, List, [], ℕ, Option, None, Some, length}
use Rattle.libyaml_types.specs.Types.{token_type}
use Rattle.libyaml_types.specs.declared.mark.yaml_mark_t.{yaml_mark_t}
use Rattle.libyaml_types.specs.declared.enums.yaml_scalar_style_t.TheVariants.{YAML_PLAIN_SCALAR_STYLE}
use Rattle.libyaml_types.specs.declared.token.unnamed_yaml_token_t_data.TheVariants as tok
use Rattle.libyaml_grammar.specs.grammar.Tokens.{Token}
use Rattle.libyaml_grammar.specs.grammar.Events.{Event}
use Rattle.libyaml_grammar.specs.grammar.ValidLists.{has_end}
use Rattle.libyaml_automaton.specs.declared.difference.Difference.{Difference}
use Rattle.libyaml_automaton.specs.declared.difference.Difference.TheVariants.{PairKey}
use Rattle.libyaml_events.specs.machine.Config.{Handles}
use Rattle.libyaml_events.specs.machine.Want.{Texts}
use Rattle.token_steps.specs.declared.steps.steps_t.{steps_t}
use Rattle.token_steps.specs.Differing.{differs_in}
use Rattle.token_steps.specs.Runs.{Run}

-- in the place of a token that is lost, an empty plain scalar at its end
abbrev pub seen_as : Difference → Token → Token
seen_as PairKey t = record {
  content = tok.Scalar (record { value = []; style = YAML_PLAIN_SCALAR_STYLE });
  start_mark = t.end_mark;
  end_mark = t.end_mark;
}
seen_as _ t = t

abbrev pub token_seen : steps_t → Token → Token
token_seen d t = seen_as (differs_in d (token_type t.content)) t

abbrev pub seen_in_hand : steps_t → Option Token → Option Token
seen_in_hand d None = None
seen_in_hand d (Some t) = Some (token_seen d t)

-- a run with these events, over as many tokens, whose STREAM-END is no other
pub record SeenRun (d : steps_t) (ss : List ℕ) (ms : List yaml_mark_t) (hs : Handles) (kept : Texts) (o : Option Token)
    (l : List Token) (g : List Event) : Type 0 where
  pub tokens : List Token
  pub run : Run d ss ms hs kept (seen_in_hand d o) tokens g
  pub same_length : length tokens ≡ length l
  pub same_end : has_end tokens ≡ has_end l
