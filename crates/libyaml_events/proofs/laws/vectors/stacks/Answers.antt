use Rattle.std.proofs.Common.{◌≡◌, ◌++◌, ◌∷◌, List, [], Ok, Err, refl, sym, ap, arith, inl, inr, codes}
use Rattle.libyaml_types.specs.declared.enums.yaml_error_type_t.TheVariants.{YAML_MEMORY_ERROR, YAML_PARSER_ERROR}
use Rattle.libyaml_types.specs.declared.enums.yaml_parser_state_t.TheVariants.{YAML_PARSE_DOCUMENT_END_STATE, YAML_PARSE_END_STATE}
use Rattle.libyaml_events.specs.machine.Config.{Config, Machine, start}
use Rattle.libyaml_events.specs.machine.Machine.{Progressed, step}
use Rattle.libyaml_events.specs.machine.Want.{Want, Given, Wants}
use Rattle.libyaml_events.specs.sources.Calls.{Calls, after_want, by_error, by_event, returns}
use Rattle.libyaml_types.specs.declared.enums.yaml_error_type_t.{yaml_error_type_t}
use Rattle.libyaml_types.specs.Fault.{Fault, no_fault}
use Rattle.libyaml_grammar.specs.grammar.Events.{Event}
use Rattle.libyaml_grammar.specs.vectors.VectorNotation.{SCALAR, STREAM, place, token}
use Rattle.libyaml_events.specs.vectors.StackVectors.{MissesEntry}
use Rattle.libyaml_grammar.specs.grammar.Tokens.{Content, Token}
use Rattle.libyaml_events.proofs.laws.vectors.stacks.Goals as goal

-- a call that looks at one token
by_one : (w : Want) (c : Machine) (t : Token) (e : Event) (d : Config) → Calls w c (Ok t ∷ []) (returns (Ok e) d)
    → step w c t ≡ Ok (Given e d)
by_one w c t e d (by_event s) = s
by_one w c t e d (after_want s z) = elim z [ ]

fails_by_one : (w : Want) (c : Machine) (t : Token) (x : yaml_error_type_t) (d : Config)
    → Calls w c (Ok t ∷ []) (returns (Err x) d) → step w c t ≡ Err d.machine.fault
fails_by_one w c t x d (by_error s) = s
fails_by_one w c t x d (after_want s z) = elim z [ ]

abbrev left_by : Progressed → Machine
left_by (Ok (Given e d)) = d.machine
left_by (Ok (Wants w d)) = d
left_by (Err f) = start

abbrev fault_by : Progressed → Fault
fault_by (Ok p) = no_fault
fault_by (Err f) = f

pub returns-clause-sequence_ends : goal.returns-clause-sequence_ends
returns-clause-sequence_ends k = λ states marks. by_event refl

pub returns-clause-without_state : goal.returns-clause-without_state
returns-clause-without_state k = λ h. no (ap (λ (o : Progressed). (left_by o).state)
    (sym (by_one _ _ _ _ _ (h (YAML_PARSE_DOCUMENT_END_STATE ∷ []) []))))
  where
    no : YAML_PARSE_END_STATE ≡ YAML_PARSE_DOCUMENT_END_STATE → ⊥
    no e = cc

pub returns-clause-without_mark : goal.returns-clause-without_mark
returns-clause-without_mark k = λ h. no (ap (λ (o : Progressed). (left_by o).marks)
    (sym (by_one _ _ _ _ _ (h [] (place 0 ∷ [])))))
  where
    no : place 0 ∷ [] ≡ [] → ⊥
    no e = cc

pub returns-clause-entry_missing : goal.returns-clause-entry_missing
returns-clause-entry_missing k = λ states marks. inl (by_error refl)

pub returns-clause-by_no_mark : goal.returns-clause-by_no_mark
returns-clause-by_no_mark k = λ h. go h
  where
    no : (place 0).index ≡ (place 1).index → ⊥
    no e = cc

    go : MissesEntry [] 0 → ⊥
    go h = elim (h [] (place 1 ∷ [])) [
      | inl x ↦ no (ap (λ (o : Progressed). (fault_by o).context_mark.index) (sym (fails_by_one _ _ _ _ _ x)))
      | inr x ↦ not_memory
          (ap (λ (f : Fault). f.error) x.1)
    ]
      where
        not_memory : YAML_PARSER_ERROR ≡ YAML_MEMORY_ERROR → ⊥
        not_memory e = cc

pub returns-clause-holds_none : goal.returns-clause-holds_none
returns-clause-holds_none k =
    record {
      before = token 0 STREAM ∷ token 1 (SCALAR (codes "a")) ∷ [];
      all_tokens = refl;
      at_most_one =
          omega arith;
    }

pub returns-clause-holds_second : goal.returns-clause-holds_second
returns-clause-holds_second k = record { before = token 0 STREAM ∷ []; all_tokens = refl; at_most_one = omega arith }

-- the content of the second token
abbrev second : List Token → Content
second (t ∷ (u ∷ l)) = u.content
second _ = STREAM

pub returns-clause-holds_first : goal.returns-clause-holds_first
returns-clause-holds_first k = λ h. no h.before h.all_tokens
  where
    no : (l : List Token) → token 0 STREAM ∷ token 1 (SCALAR (codes "a")) ∷ [] ≡ l ++ token 0 STREAM ∷ [] → ⊥
    no [] e = cc
    no (t ∷ []) e = apart (ap second e)
      where
        apart : SCALAR (codes "a") ≡ STREAM → ⊥
        apart f = cc
    no (t ∷ (u ∷ [])) e = cc
    no (t ∷ (u ∷ (v ∷ l))) e = cc
