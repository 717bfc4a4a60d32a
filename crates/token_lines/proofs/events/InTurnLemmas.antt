-- How a run's calls write the text of each event in its turn.
use Rattle.std.proofs.Common.{◌≡◌, ◌++◌, ℕ, List, [], ◌∷◌, map, Option, false, ◌∙◌, subst, arith}
use Rattle.std.proofs.KnownBytes.{Appends-nil, Appends-trans}
use Rattle.std.proofs.lemmas.List.{append-nil, map-append}
use Rattle.std.proofs.lemmas.List.Folds.{concat-append}
use Rattle.std.specs.List.{concat}
use Rattle.std.specs.Io.KnownBytes.{Appends}
use Rattle.libyaml_types.specs.declared.event.yaml_event_t.{yaml_event_t}
use Rattle.libyaml_types.specs.declared.token.yaml_token_t.{yaml_token_t}
use Rattle.libyaml_events.specs.machine.Config.{Parser}
use Rattle.libyaml_events.specs.sources.History.{History, is_over, is_stream_end}
use Rattle.libyaml_types.specs.Fault.{SourceResult}
use Rattle.libyaml_events.proofs.exported.CallsInTurn.{both_calls, no_call, one_call}
use Rattle.token_lines.specs.events.InTurn.{AllWritten, CallSays, gave_event, failed}

module _ {S : Type 0} (text : yaml_event_t → List ℕ) (gives : S → SourceResult → S → Type 0) where
  pub none_yet : (p : Parser S) (x : Option (List ℕ)) (asked : List yaml_token_t) (given : List yaml_event_t)
      → History p asked given → is_over p ≡ false
      → AllWritten text gives p p x x asked given
  none_yet p x asked given h running = record {
    events = [];
    carried = no_call gives p p p asked given h;
    running = running;
    wrote = Appends-nil x;
  }

  -- one text more
  pub texts_more : (done : List yaml_event_t) (e : yaml_event_t) → concat (map text done)
      ++ text e ≡ concat (map text (done ++ e ∷ []))
  texts_more done e = grind (arith, append-nil, concat-append, map-append)

  pub one_more : (first p q : Parser S) (a b c : Option (List ℕ)) (asked : List yaml_token_t) (given : List yaml_event_t)
      → AllWritten text gives first p a b asked given
      → (is_over p ≡ false → (asked' : List yaml_token_t) (given' : List yaml_event_t) → History p asked' given'
      → CallSays gives (λ e. (is_stream_end e ≡ false) × Appends b c (text e)) (λ f. ⊥) p q asked' given')
      → AllWritten text gives first q a c asked given
  one_more first p q a b c asked given w calls = go (calls w.running (asked ++ w.carried.more) (given ++ w.events) w.carried.history)
    where
      go : CallSays gives (λ e. (is_stream_end e ≡ false) × Appends b c (text e)) (λ f. ⊥) p q
          (asked ++ w.carried.more) (given ++ w.events)
          → AllWritten text gives first q a c asked given
      go (gave_event e on wrote) = record {
        events = w.events ++ e ∷ [];
        carried = both_calls gives first p q asked given w.events (e ∷ []) w.carried
            (one_call gives p p q (asked ++ w.carried.more) (given ++ w.events) e on);
        running = on.ends ∙ wrote.0;
        wrote = subst (Appends a c) (texts_more w.events e)
            (Appends-trans a b c (concat (map text w.events)) (text e) w.wrote wrote.1);
      }
      go (failed by wrote) = absurd wrote
