-- What a call says of the automaton's step at its token.
use Rattle.std.specs.Prelude.{◌≡◌, ℕ, true, false, Ok, Err}
use Rattle.libyaml_types.specs.declared.enums.yaml_token_type_t.{yaml_token_type_t}
use Rattle.libyaml_types.specs.declared.enums.yaml_token_type_t.TheVariants as kinds
use Rattle.libyaml_automaton.specs.declared.action.Action.{Action}
use Rattle.libyaml_automaton.specs.declared.action.Action.TheVariants as action
use Rattle.libyaml_automaton.specs.declared.next.Next.TheVariants as next
use Rattle.libyaml_automaton.specs.declared.reading.Reading.{Reading}
use Rattle.libyaml_automaton.specs.Automaton.{AtState}
use Rattle.libyaml_automaton.specs.Config.{Stacks}
use Rattle.libyaml_automaton.specs.Numbers.{next_of}
use Rattle.libyaml_automaton.specs.Purposes.{purpose_of}
use Rattle.token_steps.specs.declared.did.Did.{Did}
use Rattle.token_steps.specs.declared.did.Did.TheVariants as did
use Rattle.token_steps.specs.declared.steps.steps_t.{steps_t}
use Rattle.token_steps.specs.declared.records.step_event_t.{step_event_t}
use Rattle.token_steps.specs.declared.records.step_fault_t.{step_fault_t}
use Rattle.token_steps.specs.Facts.{Given, NoTag, StepResult, TagRead, StepWant, Wants, tag_for}
use Rattle.token_steps.specs.Numbers.{number}
use Rattle.token_steps.specs.Records.{event_of, step_fault}

-- what the next token is wanted for
abbrev pub want_in : steps_t → StepWant
want_in d = record { next = purpose_of d.read; tag = d.tag }

-- and the tag of the node whose properties are read
abbrev pub tag_in : steps_t → TagRead
tag_in d = tag_for (purpose_of d.read) d.tag

-- p is what the automaton does with the token's fact; d, e, f and c are the record, the event, the error and the
-- configuration after it. After an event no text is kept.
abbrev pub Tells : Did → (p : StepResult) → (d : steps_t) → (e : step_event_t) → (f : step_fault_t) → (c : Stacks) → Type 0
Tells did.Wants p d e f c = p ≡ Ok (Wants (want_in d), c)
Tells did.Gave p d e f c = (p ≡ Ok (Given (event_of e false), c)) × (purpose_of d.read ≡ AtState)
Tells did.Stays p d e f c = (p ≡ Ok (Given (event_of e true), c)) × (purpose_of d.read ≡ AtState)
Tells did.FullStates p d e f c = Unit {0}
Tells did.FullMarks p d e f c = Unit {0}
Tells did.Failed p d e f c = p ≡ Err (step_fault f)
Tells did.Bad p d e f c = Unit {0}

-- an event was put
abbrev pub IsGiven : Did → Type 0
IsGiven did.Gave = Unit {0}
IsGiven did.Stays = Unit {0}
IsGiven _ = ⊥

-- nothing was done
abbrev pub IsUntold : Did → Type 0
IsUntold did.FullStates = Unit {0}
IsUntold did.FullMarks = Unit {0}
IsUntold did.Bad = Unit {0}
IsUntold _ = ⊥

-- something was done
abbrev pub IsDone : Did → Type 0
IsDone did.FullStates = ⊥
IsDone did.FullMarks = ⊥
IsDone did.Bad = ⊥
IsDone _ = Unit {0}

-- a result that asks nothing further
abbrev pub IsTold : Action → Type 0
IsTold action.Document = ⊥
IsTold action.AsksVersion = ⊥
IsTold action.AsksHandle = ⊥
IsTold action.AsksContent = ⊥
IsTold action.FullStates = ⊥
IsTold action.FullMarks = ⊥
IsTold _ = Unit {0}

-- a property alone has the next token wanted after properties, and g is the tag of the node that the event is of
abbrev pub FitsTold : Action → yaml_token_type_t → Reading → (g : TagRead) → Type 0
FitsTold action.Wants k r g = next_of r.next ≡ next.AfterProperties → ⊥
FitsTold action.WantsAnchor k r g = k ≡ kinds.YAML_ANCHOR_TOKEN
FitsTold action.WantsTag k r g = (k ≡ kinds.YAML_TAG_TOKEN) × (next_of r.next ≡ next.AfterProperties)
FitsTold action.Empty k r g = g ≡ NoTag
FitsTold action.EmptyAfter k r g = g ≡ NoTag
FitsTold action.EmptyAtEnd k r g = g ≡ NoTag
FitsTold action.Pair k r g = g ≡ NoTag
FitsTold _ k r g = Unit {0}

-- the same by the number that C sees
abbrev pub TellsNumber : ℕ → (p : StepResult) → (d : steps_t) → (e : step_event_t) → (f : step_fault_t) → (c : Stacks) → Type 0
TellsNumber n p d e f c = (a : Did) × (n ≡ number a) × Tells a p d e f c
