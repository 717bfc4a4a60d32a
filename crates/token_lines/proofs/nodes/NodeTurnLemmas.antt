-- How a run's steps write each document in its turn.
use Rattle.std.proofs.Common.{◌≡◌, ◌++◌, ◌∷◌, ◌==◌, ℕ, ℤ, List, [], length, Option, Some, None, Bool, true, false, Ok, Err, refl, sym, ◌∙◌, subst, arith, ◌≢◌, ap}
use Rattle.std.proofs.KnownBytes.{Appends-nil, Appends-trans}
use Rattle.std.proofs.lemmas.Bool.{eqb-true}
use Rattle.std.proofs.lemmas.List.{append-nil, nil_from_length}
use Rattle.std.proofs.lemmas.List.Concat.{flat_map-append}
use Rattle.std.proofs.lemmas.List.Folds.{concat-append}
use Rattle.std.specs.List.{concat, flat_map}
use Rattle.std.specs.Io.KnownBytes.{Appends}
use Rattle.libyaml_types.specs.declared.event.yaml_event_t.{yaml_event_t}
use Rattle.libyaml_types.specs.declared.token.yaml_token_t.{yaml_token_t}
use Rattle.libyaml_documents.specs.declared.node.yaml_node_t.{yaml_node_t}
use Rattle.libyaml_documents.specs.Documents.{Document}
use Rattle.libyaml_events.specs.machine.Config.{Parser}
use Rattle.libyaml_types.specs.Fault.{Fault, fault_of}
use Rattle.libyaml_events.specs.sources.History.{ForHistory, has_failed, kept_fault}
use Rattle.libyaml_types.specs.declared.source.yaml_token_source_t.{Ghosts}
use Rattle.libyaml_events.proofs.exported.Histories as histories
use Rattle.libyaml_graphs.specs.loads.Bounds.{next_bounded}
use Rattle.libyaml_graphs.specs.loads.Loads.{left_over}
use Rattle.libyaml_loader.specs.document.Ids.{magnitude}
use Rattle.libyaml_loader.specs.loads.Loading.{DocumentOrError, HasEnded, LoadsFrom}
use Rattle.libyaml_loader.proofs.exported.LoadsInTurn.{none_in_turn}
use Rattle.libyaml_loader.proofs.exported.LoadsInTurn as loads_in_turn
use Rattle.line_writing.specs.DocumentText.{document_lines}
use Rattle.line_writing.specs.FaultText.{fault_text}
use Rattle.token_lines.specs.declared.run.run_end_t.{run_end_t}
use Rattle.token_lines.specs.declared.run.run_end_t.TheVariants.{Ended, Faulted, OutputFailed}
use Rattle.token_lines.specs.declared.run.LastStep.{LastStep}
use Rattle.token_lines.specs.declared.run.LastStep.TheVariants as step
use Rattle.token_lines.specs.nodes.LastLoad.{AllLoaded, LastLoad, WroteForLoad}
use Rattle.token_lines.specs.nodes.NodeStep.{IsKept, LoadTurn, StepForLoad}
use Rattle.token_lines.specs.lines.LineRun.{ClosedBy, WroteFault}
use Rattle.token_lines.proofs.events.LastCallLemmas.{fault_after}

-- whether a document has nodes, by their count
pub has_none : (ns ms : List yaml_node_t) (b : Bool) → b ≡ (length ns == 0) → b ≡ true → ns ≡ ms → ms ≡ []
has_none ns ms b is empty same = grind (arith, nil_from_length, eqb-true)

pub has_some : (ns ms : List yaml_node_t) (b : Bool) → b ≡ (length ns == 0) → b ≡ false → ns ≡ ms → ms ≢ []
has_some ns ms b is_empty is same none = no (sym is ∙ is_empty ∙ ap (λ (l : List yaml_node_t). length l == 0) (same ∙ none))
  where
    no : false ≡ true → ⊥
    no h = cc

module _ {S : Type 0} (g : Ghosts S) (n : ℕ) where
  pub turn_of : (s : Option LastStep) (p q : Parser S) (b c : Option (List ℕ)) (r a : DocumentOrError) → r ≡ a
      → LoadsFrom g (next_bounded n) left_over p r q → StepForLoad s a (kept_fault q) b c
      → (s ≡ Some step.Ended → ForHistory p (λ _ _. HasEnded q)) → LoadTurn g n s p q b c
  turn_of s p q b c r a is load wrote ends
      = record {
        loaded = r;
        load = load;
        wrote =
            subst (λ (x : DocumentOrError). StepForLoad s x (kept_fault q) b c) (sym is) wrote;
        ends = ends;
      }

  pub none_loaded : (p : Parser S) (x : Option (List ℕ)) → ForHistory p (AllLoaded g.gives n p p x x)
  none_loaded p x asked given h = record {
    documents = [];
    loaded = none_in_turn g n asked given p h;
    wrote = Appends-nil x;
  }

  texts_more : (ds : List Document) (d : Document)
      → concat (flat_map document_lines ds) ++ concat (document_lines d) ≡ concat (flat_map document_lines (ds ++ d ∷ []))
  texts_more ds d = grind (arith, flat_map-append, append-nil, concat-append)

  pub one_loaded : (first p q : Parser S) (a b c : Option (List ℕ)) (asked : List yaml_token_t)
      (given : List yaml_event_t) → AllLoaded g.gives n first p a b asked given
      → LoadTurn g n None p q b c → AllLoaded g.gives n first q a c asked given
  one_loaded first p q a b c asked given w turn = go turn.loaded turn.load turn.wrote
    where
      go : (r : DocumentOrError) → LoadsFrom g (next_bounded n) left_over p r q
          → StepForLoad None r (kept_fault q) b c → AllLoaded g.gives n first q a c asked given
      go (Ok d) load (some, wrote) = record {
        documents = w.documents ++ d ∷ [];
        loaded = loads_in_turn.one_more g n asked given first p q w.documents d w.loaded load some;
        wrote = subst (Appends a c) (texts_more w.documents d)
            (Appends-trans a b c (concat (flat_map document_lines w.documents)) (concat (document_lines d)) w.wrote wrote);
      }
      go (Err x) load wrote = absurd wrote

-- what was written of a load, by its step and after it
for_load : (s : LastStep) (end : run_end_t) (kept : Fault) (b c d : Option (List ℕ)) (r : DocumentOrError)
    → StepForLoad (Some s) r kept b c → ClosedBy s end c d → WroteForLoad end r kept b d
for_load step.Ended end kept b c d r w h = grind arith
for_load (step.Failed f) Ended kept b c d r w h = absurd h
for_load (step.Failed f) (Faulted told) kept b c d (Ok x) w h =
    let cut = w.2 in (
      h.0 ∙ w.0,
      w.1,
      record {
        written = cut.written;
        line = cut.line;
        rest = cut.rest;
        all = cut.all;
        wrote
            = subst (λ (g : Fault). Appends b d (concat cut.written ++ fault_text g)) w.0
            (Appends-trans b c d (concat cut.written) (fault_text (fault_of f)) cut.wrote h.1);
      },
    )
for_load (step.Failed f) (Faulted told) kept b c d (Err x) w h = fault_after (Faulted told) f kept b c d w h
for_load (step.Failed f) OutputFailed kept b c d (Ok x) w h = tt
for_load (step.Failed f) OutputFailed kept b c d (Err x) w h = tt
for_load step.OutputFailed end kept b c d r w h = grind arith

only_ended : (s : LastStep) (end : run_end_t) (c d : Option (List ℕ)) → ClosedBy s end c d → end ≡ Ended → Some s ≡ Some step.Ended
only_ended step.Ended end c d h is = refl
only_ended (step.Failed f) end c d h is = absurd (rw is at h)
only_ended step.OutputFailed end c d h is = cc

-- the text of an error that was kept before
pub kept_closed : (s : LastStep) (kept : Fault) (end : run_end_t) (c d : Option (List ℕ)) → IsKept (Some s) kept → ClosedBy s end c d
    → WroteFault end kept c d
kept_closed (step.Failed f) kept end c d is h = subst (λ (x : Fault). WroteFault end x c d) is h
kept_closed step.Ended kept end c d is h = absurd is
kept_closed step.OutputFailed kept end c d is h = absurd is

-- the bound of the first parser
module _ {S : Type 0} (g : Ghosts S) (s : Option LastStep) (p q : Parser S) (b c : Option (List ℕ)) (z w : ℤ) (same : z ≡ w) where
  pub turn_at : (has_failed p ≡ false → LoadTurn g (magnitude z) s p q b c) → has_failed p ≡ false
      → LoadTurn g (magnitude w) s p q b c
  turn_at turns running = subst (λ (y : ℤ). LoadTurn g (magnitude y) s p q b c) same (turns running)

pub last_load_at : {S W : Type 0} (g : Ghosts S) (contents : W → Option (List ℕ)) (end : run_end_t) (s : LastStep)
    (first p q : Parser S) (writer : W) (a c d : Option (List ℕ)) (asked : List yaml_token_t)
    (given : List yaml_event_t) → p.max_entries ≡ first.max_entries
    → AllLoaded g.gives (magnitude first.max_entries) first p a (contents writer) asked given
    → (has_failed p ≡ false → LoadTurn g (magnitude p.max_entries) (Some s) p q (contents writer) c)
    → ClosedBy s end c d → LastLoad g contents (magnitude first.max_entries) end first q a d asked given
last_load_at g contents end s first p q writer a c d asked given bound earlier turns closed =
    let before = earlier.loaded.carried in
    let running = histories.faultless p (asked ++ before.more) (given ++ earlier.loaded.taken) before.history in
    let turn = turn_at g (Some s) p q (contents writer) c p.max_entries first.max_entries bound turns running in
    record {
      parser = p;
      writer = writer;
      earlier = earlier;
      loaded = turn.loaded;
      load = turn.load;
      wrote = for_load s end (kept_fault q) (contents writer) c d turn.loaded turn.wrote closed;
      ends = λ (is : end ≡ Ended). turn.ends (only_ended s end c d closed is) (asked ++ before.more)
          (given ++ earlier.loaded.taken) before.history;
    }
