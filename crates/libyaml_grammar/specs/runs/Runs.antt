-- The run over a list of tokens and a source's error: all events, and how it ends (docs/DEFINITIONS.md, "Runs").
use Rattle.std.specs.Prelude.{◌≡◌, List, [], ◌∷◌, ◌++◌, Bool, true, false}
use Rattle.libyaml_grammar.specs.partial.PartialEvents.{partial_events}
use Rattle.libyaml_grammar.specs.partial.PartialFaults.{fault}
use Rattle.libyaml_grammar.specs.partial.PartialTrees.{PartialTree, at_tag, at_tag_after}
use Rattle.libyaml_grammar.specs.grammar.Events.{Event, events}
use Rattle.libyaml_types.specs.Fault.{Fault}
use Rattle.libyaml_grammar.specs.partial.Fits.{Fits}
use Rattle.libyaml_grammar.specs.grammar.Order.{in_order}
use Rattle.libyaml_grammar.specs.grammar.ValidLists.{IsViablePrefix, has_end}
use Rattle.libyaml_grammar.specs.partial.DeterminedEvents.{Determines}
use Rattle.libyaml_grammar.specs.runs.StreamEnds.{up_to_end}
use Rattle.libyaml_grammar.specs.grammar.Tokens.{Anchor, Content, Token}
use Rattle.libyaml_grammar.specs.grammar.Trees.{Stream, tokens}

-- a run ends with the stream, or fails
pub data Ending : Type 0 where
  Ends : Ending
  Fails : Fault → Ending

abbrev pub has_token : List Token → Bool
has_token [] = false
has_token (t ∷ l) = true

abbrev pub is_after : Content → List Token → Bool
is_after (Anchor a) l = has_token l
is_after k l = true

-- Whether a token follows the properties of the node at whose TAG a tree is cut, where l is what follows that
-- TAG. The properties are the TAG, and an ANCHOR directly before it or else directly after it.
abbrev pub is_after_properties : PartialTree → List Token → Bool
is_after_properties (at_tag p) [] = false
is_after_properties (at_tag p) (t ∷ l) = is_after t.content l
is_after_properties (at_tag_after p a m) l = has_token l
is_after_properties c l = true

-- The four cases: a valid list, which ends; a partial tree that fits, with its error; a partial tree at a TAG after
-- whose node's properties no token stands, with the source's error f; a viable prefix without STREAM-END, with f.
pub data IsRun (l : List Token) (f : Fault) (e : List Event) (x : Ending) : Type 0 where
  of_valid_list : (t : Stream) → up_to_end l ≡ tokens t → in_order t ≡ true → e ≡ events t → x ≡ Ends → IsRun l f e x
  of_partial_tree : (before : List Token) (token : Token) (following : List Token) (c : PartialTree)
      → up_to_end l ≡ before ++ token ∷ following → Fits before token c
      → is_after_properties c following ≡ true → e ≡ partial_events c token
      → x ≡ Fails (fault c token.content token.start_mark) → IsRun l f e x
  amid_properties : (before : List Token) (token : Token) (following : List Token) (c : PartialTree)
      → up_to_end l ≡ before ++ token ∷ following → Fits before token c
      → is_after_properties c following ≡ false → e ≡ partial_events c token → x ≡ Fails f → IsRun l f e x
  of_viable_prefix : IsViablePrefix (up_to_end l) → has_end (up_to_end l) ≡ false → Determines (up_to_end l) e → x ≡ Fails f
      → IsRun l f e x

-- a partial tree fits, with these events and this error
pub record HasFault (l : List Token) (e : List Event) (g : Fault) : Type 0 where
  pub before : List Token
  pub token : Token
  pub following : List Token
  pub cut : PartialTree
  pub all : l ≡ before ++ token ∷ following
  pub fits : Fits before token cut
  pub given : e ≡ partial_events cut token
  pub fails : g ≡ fault cut token.content token.start_mark

-- The run of a list whose only STREAM-END is its last token: the events of its one tree, and the end; or the events of the
-- one partial tree that fits, and its error. The error after the list never shows.
pub data RunsWhole (l : List Token) (f : Fault) : Type 0 where
  to_its_end : (t : Stream) → in_order t ≡ true → l ≡ tokens t → IsRun l f (events t) Ends → RunsWhole l f
  to_its_fault : (before : List Token) (token : Token) (following : List Token) (c : PartialTree)
      → l ≡ before ++ token ∷ following → Fits before token c
      → IsRun l f (partial_events c token) (Fails (fault c token.content token.start_mark)) → RunsWhole l f
