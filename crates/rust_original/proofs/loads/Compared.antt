-- Where the runs there and here are the same, so are the loads. Where they part, the loads are the same after an error of
-- the events before, and else the documents of these begin both.
use Rattle.std.proofs.Common.{◌≡◌, ◌∷◌, ◌++◌, ◌∙◌, ℕ, List, [], Ok, Err, map, refl, sym, ap, arith}
use Rattle.libyaml_types.specs.declared.event.unnamed_yaml_event_t_data.{unnamed_yaml_event_t_data}
use Rattle.libyaml_types.specs.declared.event.unnamed_yaml_event_t_data.TheVariants as ev
use Rattle.libyaml_types.specs.Fault.{Fault}
use Rattle.libyaml_grammar.specs.runs.Runs.{Ending, Ends}
use Rattle.libyaml_grammar.specs.grammar.Events.{Event, event}
use Rattle.libyaml_grammar.specs.grammar.Tokens.{Mark, Token}
use Rattle.libyaml_graphs.specs.loads.Bounds.{IsBoundedLoads, bounded_loads}
use Rattle.libyaml_documents.specs.Documents.{Document}
use Rattle.libyaml_graphs.specs.loads.Loads.{Load, last_load}
use Rattle.rust_original.specs.loader.Loader as orig_loader
use Rattle.rust_original.specs.loader.Loader.{FAIL, LoaderResult, OK, OriginalState, between, original_loads_from, loads_there, new_loader, within}
use Rattle.rust_original.specs.loader.LoadsThere.{LoadsCompare, LoadsThere, loads_part, same_loads}
use Rattle.rust_original.specs.parser.Differences.{Compares, parts, same}
use Rattle.rust_original.specs.parser.Runs.{new_original_parser}
use Rattle.rust_original.specs.parser.Texts.{as_held}

-- the loads b and c are the same, or the loads a are documents without an error, which begin both
data Shares (a b c : List Load) : Type 0 where
  equal : b ≡ c → Shares a b c
  begin : (documents : List Document) (left right : List Load) → a ≡ map Ok documents ++ last_load Ends ∷ []
      → b ≡ map Ok documents ++ left → c ≡ map Ok documents ++ right → Shares a b c

more : (d : Document) {a b c : List Load} → Shares a b c → Shares (Ok d ∷ a) (Ok d ∷ b) (Ok d ∷ c)
more d (equal e) = equal (ap (λ (l : List Load). Ok d ∷ l) e)
more d (begin documents left right front e f) = begin (d ∷ documents) left right (cc) (cc) (cc)

module _ (n : ℕ) (r t : List Event) (x y : Ending) where
  abbrev Shared : List Event → Type 0
  Shared b = (s : OriginalState) → Shares (original_loads_from n s b Ends) (original_loads_from n s (b ++ r) x) (original_loads_from n s (b ++ t) y)

  event_shared : (k : unnamed_yaml_event_t_data) (m m' : Mark) (b : List Event) → Shared b → Shared (event k m m' ∷ b)
  event_shared ev.StreamEnd m m' b ih between = equal refl
  event_shared (ev.DocumentStart d) m m' b ih between = ih (within (record { start = d; mark = m }) new_loader)
  event_shared _ m m' b ih between = ih between
  event_shared (ev.DocumentEnd d) m m' b ih (within o l) = more _ (ih between)
  event_shared k m m' b ih (within o l) = go (orig_loader.load_event n l (event k m m'))
    where
      go : (v : LoaderResult) → Shares (elim v [ FAIL f ↦ Err f ∷ [] | OK q ↦ original_loads_from n (within o q) b Ends ])
          (elim v [ FAIL f ↦ Err f ∷ [] | OK q ↦ original_loads_from n (within o q) (b ++ r) x ])
          (elim v [ FAIL f ↦ Err f ∷ [] | OK q ↦ original_loads_from n (within o q) (b ++ t) y ])
      go (FAIL f) = equal refl
      go (OK q) = ih (within o q)

  shared : (b : List Event) → Shared b
  shared [] between = begin [] _ _ refl refl refl
  shared [] (within o l) = begin [] _ _ refl refl refl
  shared (e ∷ b) s = event_shared e.content e.start_mark e.end_mark b (shared b) s

pub loads_compared : (n : ℕ) (l : List Token) (f : Fault) (a b : List Load) (there : LoadsThere n l f a)
    → (here : IsBoundedLoads n (map as_held l) f b)
    → Compares (new_original_parser (map as_held l) f) there.events there.ending here.events here.ending
    → loads_there n here.events here.ending ≡ bounded_loads n here.events here.ending
    → LoadsCompare n (new_original_parser (map as_held l) f) a b
loads_compared n l f a b there here compares alike = go compares
  where
    here_too : b ≡ loads_there n here.events here.ending
    here_too = here.all ∙ sym alike

    go : Compares (new_original_parser (map as_held l) f) there.events there.ending here.events here.ending
        → LoadsCompare n (new_original_parser (map as_held l) f) a b
    go (same e x) = same_loads (grind (arith, there.all, here_too))
    go (parts before e' d' q reached differs e d later_there later_here) = by
        (shared n e' d' there.ending here.ending before between)
      where
        a_is : a ≡ loads_there n (before ++ e') there.ending
        a_is = cc (there.all)

        b_is : b ≡ loads_there n (before ++ d') here.ending
        b_is = cc (here_too)

        by : Shares (loads_there n before Ends) (loads_there n (before ++ e') there.ending)
            (loads_there n (before ++ d') here.ending) → LoadsCompare n (new_original_parser (map as_held l) f) a b
        by (equal i) = same_loads (a_is ∙ (i ∙ sym b_is))
        by (begin documents left right front i j)
            = loads_part before q reached differs documents front left right (a_is ∙ i) (b_is ∙ j)
