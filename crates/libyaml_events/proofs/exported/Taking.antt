-- Events taken in turn: none, those of one call after those of others, and the event of a call.
use Rattle.std.proofs.Common.{◌++◌, ◌∷◌, List, [], refl, sym, ap, ◌∙◌, append_assoc}
use Rattle.libyaml_types.specs.Fault.{SourceResult}
use Rattle.libyaml_types.specs.Source.{Follows}
use Rattle.libyaml_types.specs.declared.source.yaml_token_source_t.{Ghosts}
use Rattle.libyaml_grammar.specs.grammar.Events.{Event}
use Rattle.libyaml_events.specs.machine.Config.{Parser}
use Rattle.libyaml_events.specs.sources.CallsInTurn.{Took}
use Rattle.libyaml_events.specs.sources.History.{ForHistory}
use Rattle.libyaml_events.specs.sources.Parsing.{CarriesOn}
use Rattle.libyaml_events.proofs.calls.KnownRuns.{further}
use Rattle.libyaml_events.proofs.exported.CallsInTurn.{both_calls, no_call, one_call}

module _ {S : Type 0} (g : Ghosts S) where
  pub took_none : (p : Parser S) → Took g p p []
  took_none p = record {
    history = no_call g.gives p p p;
    runs = λ events ending run. record { later = events; all = refl; run = run };
  }

  pub took_both : (old mid new : Parser S) (a b : List Event) → Took g old mid a
      → Took g mid new b → Took g old new (a ++ b)
  took_both old mid new a b x y = record {
    history = λ asked given h. let c = x.history asked given h in
        both_calls g.gives old mid new asked given a b c (y.history _ _ c.history);
    runs = λ events ending run.
        let l = x.runs events ending run in
        let m = y.runs l.later ending l.run in
        record {
          later = m.later;
          all = l.all ∙ ap (λ (r : List Event). a ++ r) m.all ∙ sym (append_assoc a b m.later);
          run = m.run;
        };
  }

  pub took_one : ((s t : S) (a : SourceResult) → g.gives s a t → Follows (g.may_break t) (g.known s) a (g.known t))
      → (old new : Parser S) (e : Event) → ForHistory old (CarriesOn g.gives old e new) → Took g old new (e ∷ [])
  took_one follows old new e carried = record {
    history = λ asked given h. one_call g.gives old old new asked given e (carried asked given h);
    runs = λ events ending run.
        let k = carried run.asked run.given run.history in
        further g follows old new events ending run k.more (e ∷ []) k.gave k.history;
  }
