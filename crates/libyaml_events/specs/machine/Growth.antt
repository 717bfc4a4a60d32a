-- Where a step may take memory of the parser's own (docs/DEFINITIONS.md, "Growth"): the automaton pushes a state after which
-- the parser goes on, or the start of a collection; a tag directive is kept, whose handle is new; or a tag is joined from its
-- handle's prefix and its suffix. At all other steps none is taken.
use Rattle.std.specs.Prelude.{◌||◌, ℕ, List, [], ◌∷◌, Option, None, Some, Bool, true, false, is_some, not}
use Rattle.std.specs.FinMap.{get}
use Rattle.libyaml_types.specs.Types.{token_type}
use Rattle.libyaml_types.specs.declared.token.unnamed_yaml_token_t_data.{unnamed_yaml_token_t_data}
use Rattle.libyaml_types.specs.declared.token.unnamed_yaml_token_t_data.TheVariants as tok
use Rattle.libyaml_types.specs.declared.token.unnamed_yaml_token_t_data_tag.{unnamed_yaml_token_t_data_tag}
use Rattle.libyaml_automaton.specs.declared.next.Next.{Next}
use Rattle.libyaml_automaton.specs.declared.next.Next.TheVariants as next
use Rattle.libyaml_automaton.specs.Automaton.{AfterDirective, AfterProperties}
use Rattle.libyaml_automaton.specs.Automaton as automaton
use Rattle.libyaml_automaton.specs.Fits.{opens_at}
use Rattle.libyaml_automaton.specs.Growth.{pushes, opens}
use Rattle.libyaml_automaton.specs.Purposes.{next_for}
use Rattle.libyaml_events.specs.machine.Config.{Machine, Handles}
use Rattle.libyaml_events.specs.machine.Machine.{or_default}
use Rattle.libyaml_events.specs.machine.Want.{Texts, Want}

-- a document begins, or a tag directive is kept: its handle isn't declared yet
abbrev pub grows_at_directive : Handles → unnamed_yaml_token_t_data → Bool
grows_at_directive hs (tok.TagDirective g) = not (is_some (get hs g.handle))
grows_at_directive hs tok.DocumentStart = true
grows_at_directive hs _ = false

-- likewise where the document may be implicit; a further DOCUMENT-END is skipped
abbrev pub grows_at_document : (behind_document_end : Bool) → Handles → unnamed_yaml_token_t_data → Bool
grows_at_document behind_document_end hs tok.StreamEnd = false
grows_at_document behind_document_end hs (tok.VersionDirective v) = false
grows_at_document behind_document_end hs (tok.TagDirective g) = not (is_some (get hs g.handle))
grows_at_document behind_document_end hs tok.DocumentEnd = not behind_document_end
grows_at_document behind_document_end hs _ = true

-- a tag with a handle that has a prefix is joined
abbrev pub has_prefix : Handles → List ℕ → Bool
has_prefix hs [] = false
has_prefix hs (x ∷ xs) = is_some (or_default (get hs (x ∷ xs)) (x ∷ xs))

abbrev pub joins : Option unnamed_yaml_token_t_data_tag → Handles → Bool
joins None hs = false
joins (Some g) hs = has_prefix hs g.handle

abbrev pub joins_after_anchor : (has_anchor : Bool) → Option unnamed_yaml_token_t_data_tag → Handles → Bool
joins_after_anchor false g hs = false
joins_after_anchor true g hs = joins g hs

-- the other property joins nothing yet
abbrev pub joins_before : automaton.PropertiesRead → Texts → Handles → unnamed_yaml_token_t_data → Bool
joins_before r h hs (tok.Anchor a) = joins_after_anchor r.anchor h.tag hs
joins_before r h hs _ = joins h.tag hs

-- by the function that takes the token
abbrev pub grows_at : Next → Machine → unnamed_yaml_token_t_data → Bool
grows_at next.AtImplicitDocumentStart c k = grows_at_document c.behind_document_end c.handles k
grows_at next.AtDocumentStart c k = grows_at_directive c.handles k
grows_at n c k = pushes n (token_type k) || opens n (token_type k)

abbrev pub grows_for : automaton.Purpose → Texts → Machine → unnamed_yaml_token_t_data → Bool
grows_for (AfterDirective start has_version) h c k = grows_at_directive c.handles k
grows_for (AfterProperties p r) h c k = joins_before r h c.handles k || opens_at p (token_type k)
grows_for w h c k = grows_at (next_for w c.state) c k

abbrev pub may_grow : Want → Machine → unnamed_yaml_token_t_data → Bool
may_grow w c k = grows_for w.next w.texts c k
