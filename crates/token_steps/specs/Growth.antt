-- Where a call pushes, and so finds a stack full that has no room.
use Rattle.std.specs.Prelude.{Bool, false}
use Rattle.libyaml_types.specs.declared.enums.yaml_token_type_t.{yaml_token_type_t}
use Rattle.libyaml_automaton.specs.declared.next.Next.{Next}
use Rattle.libyaml_automaton.specs.declared.next.Next.TheVariants as next
use Rattle.libyaml_automaton.specs.declared.node_place.NodePlace.{NodePlace}
use Rattle.libyaml_automaton.specs.Fits.{HandledBy, Nodes, Documents, opens_at}
use Rattle.libyaml_automaton.specs.Growth.{stack_part_of, pushes, pushes_in_documents, opens}
use Rattle.libyaml_automaton.specs.Numbers.{next_of, state_of, place_of, flag}
use Rattle.libyaml_automaton.specs.Purposes.{next_at_or}
use Rattle.token_steps.specs.declared.steps.steps_t.{steps_t}
use Rattle.token_steps.specs.Facts.{TagRead, Undefined, tag_if}

-- the function that takes the next token
abbrev pub next_in : steps_t → Next
next_in d = next_at_or (next_of d.read.next) (state_of d.machine.state)

abbrev pub pushes_by : HandledBy → (pushes in_documents : Bool) → Bool
pushes_by Nodes pushes in_documents = pushes
pushes_by Documents pushes in_documents = in_documents

-- a call at a token of this kind puts a state on the stack
abbrev pub pushes_state : Next → (behind_document_end : Bool) → yaml_token_type_t → Bool
pushes_state n after_end k = pushes_by (stack_part_of n) (pushes n k) (pushes_in_documents n after_end k)

abbrev pub grows_states : steps_t → yaml_token_type_t → Bool
grows_states d k = pushes_state (next_in d) (flag d.machine.behind_document_end) k

-- A mark is put where a collection opens, after properties too, unless a handle isn't declared.
abbrev pub content_opens : TagRead → NodePlace → yaml_token_type_t → Bool
content_opens Undefined p k = false
content_opens g p k = opens_at p k

abbrev pub pushes_mark : Next → TagRead → NodePlace → yaml_token_type_t → Bool
pushes_mark next.AfterProperties g p k = content_opens g p k
pushes_mark n g p k = opens n k

abbrev pub grows_marks : steps_t → yaml_token_type_t → Bool
grows_marks d k = pushes_mark (next_in d) (tag_if (flag d.read.has_tag) d.tag) (place_of d.read.place) k
