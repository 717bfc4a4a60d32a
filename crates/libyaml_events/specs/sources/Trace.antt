-- What a machine was handed and gave, step by step (docs/DEFINITIONS.md, "Histories").
use Rattle.std.specs.Prelude.{◌≡◌, ◌++◌, ◌∷◌, List, [], Option, Some, None, Ok, Err, false}
use Rattle.libyaml_grammar.specs.grammar.Tokens.{Token}
use Rattle.libyaml_grammar.specs.grammar.Events.{Event}
use Rattle.libyaml_events.specs.machine.Config.{Config, Machine, holding, start, ended_or_failed}
use Rattle.libyaml_events.specs.machine.Machine.{Progressed, step}
use Rattle.libyaml_events.specs.machine.Want.{Want, AtState, Given, Wants}

-- Where a machine stands, with the tokens that it was handed and the events that it gave: it gave an event, or nothing was
-- done yet; or a token is in hand, or one is wanted.
pub data Moment : Type 0 where
  after_event : Config → List Token → List Event → Moment
  amid : Want → Machine → Option Token → List Token → List Event → Moment

abbrev pub StepLeads : Progressed → List Token → List Event → Moment → Type 0
StepLeads (Err f) l g m = ⊥
StepLeads (Ok (Wants w c)) l g m = m ≡ amid w c None l g
StepLeads (Ok (Given e c)) l g m = m ≡ after_event c l (g ++ e ∷ [])

-- The second moment is a next one of the first. A token that stays after an event is in hand again.
abbrev pub Next : Moment → Moment → Type 0
Next (after_event c l g) m = m ≡ amid AtState c.machine c.lookahead l g
Next (amid w c None l g) m = (ended_or_failed c ≡ false) × ((t : Token) × (m ≡ amid w c (Some t) (l ++ t ∷ []) g))
Next (amid w c (Some t) l g) m = StepLeads (step w c t) l g m

-- from the first moment to the second
pub data Trace : Moment → Moment → Type 0 where
  here : {a : Moment} → Trace a a
  goes_on : {a b c : Moment} → Next a b → Trace b c → Trace a c

-- a machine that was at its start came here
abbrev pub Reached : Moment → Type 0
Reached = Trace (after_event (holding None start) [] [])
