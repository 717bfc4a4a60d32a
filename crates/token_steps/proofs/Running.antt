-- A run of calls is what a parser was handed and gave.
use Rattle.std.proofs.Common.{◌≡◌, ◌∙◌, ◌∷◌, ◌++◌, List, [], ℕ, true, false, Option, None, Some, Ok, refl, ap, subst, arith}
use Rattle.libyaml_types.specs.Fault.{no_fault}
use Rattle.libyaml_types.specs.declared.mark.yaml_mark_t.{yaml_mark_t}
use Rattle.libyaml_grammar.specs.grammar.Tokens.{Token}
use Rattle.libyaml_grammar.specs.grammar.Events.{Event}
use Rattle.libyaml_automaton.specs.Automaton as automaton
use Rattle.libyaml_automaton.specs.Config.{Stacks, stacks_of, first_stacks}
use Rattle.libyaml_automaton.specs.Purposes.{purpose_of}
use Rattle.libyaml_events.specs.machine.Config.{Handles, no_handles, config_with, holding, token_if}
use Rattle.libyaml_events.specs.machine.Machine.{declared_by}
use Rattle.libyaml_events.specs.machine.Want.{Texts, no_texts}
use Rattle.libyaml_events.proofs.exported.Pushes as push_lemmas
use Rattle.libyaml_events.proofs.exported.Pushes.{fed_ended}
use Rattle.libyaml_events.specs.sources.Pushed.{Fed}
use Rattle.token_steps.specs.declared.did.Did.{Did}
use Rattle.token_steps.specs.declared.did.Did.TheVariants as did
use Rattle.token_steps.specs.declared.steps.steps_t.{steps_t}
use Rattle.token_steps.specs.declared.records.step_event_t.{step_event_t}
use Rattle.token_steps.specs.declared.records.step_fault_t.{step_fault_t}
use Rattle.token_steps.specs.Facts.{Given, StepResult, TagRead, Wants, step_by_fact, tag_for}
use Rattle.token_steps.specs.Facts as facts
use Rattle.token_steps.specs.Numbers.{number}
use Rattle.token_steps.specs.Records.{shape_of, event_of}
use Rattle.token_steps.specs.RunLaws.{RunIsFed}
use Rattle.token_steps.specs.Runs.{Run, begins, moves, takes, wants, gave, stays}
use Rattle.token_steps.specs.Tells.{Tells, want_in, tag_in}
use Rattle.token_steps.specs.Texts.{event_with, handles_past, texts_kept_after, tag_read_of, token_of}
use Rattle.token_steps.proofs.Follows.{keeping}
use Rattle.token_steps.proofs.Kept.{Holds}
use Rattle.token_steps.proofs.Tied.{After, kept_after, steps_told, told_with}

-- such a parser, with what is kept
pub record Stood (v : automaton.Purpose) (g : TagRead) (c : Stacks) (hs : Handles) (h : Texts) (o : Option Token) (l : List Token)
    (es : List Event) : Type 0 where
  pub fed : Fed (record { next = v; texts = h }) (config_with c hs no_fault) o l es
  pub holds : Holds (keeping v) h
  pub tag : g ≡ tag_read_of hs h.tag

abbrev pub StoodAt : steps_t → Stacks → Handles → Texts → Option Token → List Token → List Event → Type 0
StoodAt d c hs h o l es = Stood (purpose_of d.read) (tag_in d) c hs h o l es

at_config : (v : automaton.Purpose) (g : TagRead) (c c' : Stacks) (hs : Handles) (h : Texts) (o : Option Token) (l : List Token)
    (es : List Event) → c' ≡ c → Stood v g c hs h o l es → Stood v g c' hs h o l es
at_config v g c c' hs h o l es e s = rw e s

at_want : (v v' : automaton.Purpose) (g g' : TagRead) (c : Stacks) (hs : Handles) (h : Texts) (o : Option Token) (l : List Token)
    (es : List Event) → v' ≡ v → g' ≡ g → Stood v g c hs h o l es → Stood v' g' c hs h o l es
at_want v v' g g' c hs h o l es e f s = rw (e, f) s

-- between two events nothing is kept
between : (d : steps_t) (c : Stacks) (hs : Handles) (o : Option Token) (l : List Token) (es : List Event)
    → purpose_of d.read ≡ automaton.AtState → Fed (record { next = automaton.AtState; texts = no_texts }) (config_with c hs no_fault) o l es
    → StoodAt d c hs no_texts o l es
between d c hs o l es e f = at_want automaton.AtState (purpose_of d.read) facts.NoTag (tag_in d) c hs no_texts o l es e
    (ap (λ (x : automaton.Purpose). tag_for x d.tag) e) (record { fed = f; holds = refl; tag = refl })

after_wants : (x : Did) (d d' : steps_t) (c c' : Stacks) (hs : Handles) (h : Texts) (l : List Token) (es : List Event)
    (t : Token) (e : step_event_t) (f : step_fault_t) → StoodAt d c hs h (Some t) l es → 0 ≡ number x
    → Tells x (step_by_fact (want_in d) c (token_of hs t)) d' e f c'
    → StoodAt d' c' (declared_by hs t.content) (texts_kept_after h t.content) None l es
after_wants did.Wants d d' c c' hs h l es t e f s q y =
    let kept = subst (After hs h t.content) y (kept_after (want_in d) hs h t c s.holds s.tag) in
    let stepped = steps_told (want_in d) hs h t c s.holds s.tag ∙ ap (told_with h hs t t.content) y in record {
      fed = push_lemmas.wants (record { next = purpose_of d.read; texts = h }) (config_with c hs no_fault) t s.fed stepped;
      holds = kept.0;
      tag = kept.1;
    }
after_wants _ d d' c c' hs h l es t e f s q y = absurd (omega arith)

given : (d d' : steps_t) (c c' : Stacks) (hs : Handles) (h : Texts) (l : List Token) (es : List Event) (t : Token)
    (e : facts.StepEvent) → StoodAt d c hs h (Some t) l es → step_by_fact (want_in d) c (token_of hs t) ≡ Ok (Given e, c')
    → purpose_of d'.read ≡ automaton.AtState
    → StoodAt d' c' (handles_past hs e.shape) no_texts (token_if e.stays t) l
    (es ++ event_with hs h t.content e ∷ [])
given d d' c c' hs h l es t e s y w = between d' c' (handles_past hs e.shape) (token_if e.stays t) l
    (es ++ event_with hs h t.content e ∷ []) w
    (push_lemmas.gives_on (record { next = purpose_of d.read; texts = h }) (config_with c hs no_fault) t s.fed
    (event_with hs h t.content e) (holding (token_if e.stays t) (config_with c' (handles_past hs e.shape) no_fault))
    (steps_told (want_in d) hs h t c s.holds s.tag ∙ ap (told_with h hs t t.content) y))

after_event : (x : Did) (d d' : steps_t) (c c' : Stacks) (hs : Handles) (h : Texts) (l : List Token) (es : List Event)
    (t : Token) (e : step_event_t) (f : step_fault_t) → StoodAt d c hs h (Some t) l es → 1 ≡ number x
    → Tells x (step_by_fact (want_in d) c (token_of hs t)) d' e f c'
    → StoodAt d' c' (handles_past hs (shape_of e)) no_texts None l (es ++ event_with hs h t.content (event_of e false) ∷ [])
after_event did.Gave d d' c c' hs h l es t e f s q y = given d d' c c' hs h l es t (event_of e false) s y.0 y.1
after_event _ d d' c c' hs h l es t e f s q y = absurd (omega arith)

before_token : (x : Did) (d d' : steps_t) (c c' : Stacks) (hs : Handles) (h : Texts) (l : List Token) (es : List Event)
    (t : Token) (e : step_event_t) (f : step_fault_t) → StoodAt d c hs h (Some t) l es → 2 ≡ number x
    → Tells x (step_by_fact (want_in d) c (token_of hs t)) d' e f c'
    → StoodAt d' c' (handles_past hs (shape_of e)) no_texts (Some t) l
    (es ++ event_with hs h t.content (event_of e true) ∷ [])
before_token did.Stays d d' c c' hs h l es t e f s q y = given d d' c c' hs h l es t (event_of e true) s y.0 y.1
before_token _ d d' c c' hs h l es t e f s q y = absurd (omega arith)

pub stood : (d : steps_t) (ss : List ℕ) (ms : List yaml_mark_t) (hs : Handles) (h : Texts) (o : Option Token)
    (l : List Token) (es : List Event) → Run d ss ms hs h o l es → StoodAt d (stacks_of d.machine ss ms) hs h o l es
stood _ _ _ _ _ _ _ _ (begins d ss ms e f) = at_config (purpose_of d.read) (tag_in d) first_stacks (stacks_of d.machine ss ms)
    no_handles no_texts None [] [] f (between d first_stacks no_handles None [] [] e push_lemmas.begins)
stood _ _ _ _ _ _ _ _ (moves d d' ss ss' ms ms' hs h o l es r v g e) =
    at_config (purpose_of d'.read) (tag_in d') (stacks_of d.machine ss ms) (stacks_of d'.machine ss' ms') hs h o l es e
    (at_want (purpose_of d.read) (purpose_of d'.read) (tag_in d) (tag_in d') (stacks_of d.machine ss ms) hs h o l es v g
    (stood d ss ms hs h o l es r))
stood _ _ _ _ _ _ _ _ (takes d ss ms hs h l es t r e) =
    let s = stood d ss ms hs h None l es r in record {
      fed = push_lemmas.takes (record { next = purpose_of d.read; texts = h })
          (config_with (stacks_of d.machine ss ms) hs no_fault) l es t s.fed (fed_ended s.fed ∙ e);
      holds = s.holds;
      tag = s.tag;
    }
stood _ _ _ _ _ _ _ _ (wants d d' ss ss' ms ms' hs h l es t e f r c) =
    after_wants c.0 d d' (stacks_of d.machine ss ms) (stacks_of d'.machine ss' ms') hs h l es t e f
    (stood d ss ms hs h (Some t) l es r) c.1 c.2
stood _ _ _ _ _ _ _ _ (gave d d' ss ss' ms ms' hs h l es t e f r c) =
    after_event c.0 d d' (stacks_of d.machine ss ms) (stacks_of d'.machine ss' ms') hs h l es t e f
    (stood d ss ms hs h (Some t) l es r) c.1 c.2
stood _ _ _ _ _ _ _ _ (stays d d' ss ss' ms ms' hs h l es t e f r c) =
    before_token c.0 d d' (stacks_of d.machine ss ms) (stacks_of d'.machine ss' ms') hs h l es t e f
    (stood d ss ms hs h (Some t) l es r) c.1 c.2

pub fed : RunIsFed
fed d ss ms hs h o l es r = let s = stood d ss ms hs h o l es r in (s.fed, s.tag)
