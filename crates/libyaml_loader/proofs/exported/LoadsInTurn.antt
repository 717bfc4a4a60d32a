-- A loop over loads, over every source: the documents that came are the first loads of the events that they took.
use Rattle.std.proofs.Common.{◌≢◌, ◌++◌, ◌∷◌, ℕ, List, [], Ok, map, refl, ap, ◌∙◌, append_assoc}
use Rattle.std.proofs.lemmas.List.Elements.{All-nil}
use Rattle.libyaml_types.specs.declared.source.yaml_token_source_t.{Ghosts}
use Rattle.libyaml_grammar.specs.grammar.Events.{Event}
use Rattle.libyaml_grammar.specs.grammar.Tokens.{Token}
use Rattle.libyaml_documents.specs.Documents.{Document}
use Rattle.libyaml_events.specs.machine.Config.{Parser}
use Rattle.libyaml_events.specs.sources.History.{History}
use Rattle.libyaml_events.proofs.exported.CallsInTurn.{both_calls, no_call}
use Rattle.libyaml_graphs.specs.loads.Bounds.{bounded_loads, next_bounded}
use Rattle.libyaml_graphs.specs.loads.Loads.{Load, left_over}
use Rattle.libyaml_graphs.proofs.exported.LoadLists.{HasRoot, oks_last, roots_last}
use Rattle.libyaml_graphs.proofs.exported.Roots.{earlier_of}
use Rattle.libyaml_loader.specs.loads.Loading.{Loads, at_end, whole}
use Rattle.libyaml_loader.specs.loads.LoadsInTurn.{LoadedInTurn}

module _ {S : Type 0} (g : Ghosts S) (n : ℕ) (asked : List Token) (given : List Event) where
  pub none_in_turn : (p : Parser S) → History p asked given → LoadedInTurn g.gives n p p [] asked given
  none_in_turn p history = record {
    taken = [];
    carried = no_call g.gives p p p asked given history;
    loads = λ rest x. refl;
    roots = All-nil HasRoot;
  }

  pub one_more : (first old new : Parser S) (documents : List Document) (d : Document)
      → LoadedInTurn g.gives n first old documents asked given → Loads g (next_bounded n) left_over old new d
      → d.nodes ≢ [] → LoadedInTurn g.gives n first new (documents ++ d ∷ []) asked given
  one_more first old new documents d w (whole taken took load left stands) root = record {
    taken = w.taken ++ taken;
    carried = both_calls g.gives first old new asked given w.taken taken w.carried
        (took.history (asked ++ w.carried.more) (given ++ w.taken) w.carried.history);
    loads = λ rest x. ap (λ (l : List Event). bounded_loads n l x) (append_assoc w.taken taken rest)
        ∙ (w.loads (taken ++ rest) x ∙ (ap (λ (l : List Load). map (λ (e : Document). Ok e) documents ++ l)
        (earlier_of (taken ++ rest) x n d (load rest x) root
        ∙ ap (λ (l : List Event). Ok d ∷ bounded_loads n l x) (left rest))
        ∙ oks_last documents d (bounded_loads n rest x)));
    roots = roots_last documents d w.roots root;
  }
  one_more first old new documents d w (at_end taken took load left ends is stands) root =
      absurd (root (ap (λ (x : Document). x.nodes) is))
