-- How the documents of a whole run are gathered, load by load.
use Rattle.std.proofs.Common.{◌≡◌, ◌≢◌, ◌<◌, ◌⊎◌, ◌++◌, ℕ, pos, List, [], ◌∷◌, map, Option, Some, None, Ok, Err, true, false, append_assoc, refl, sym, ap, ap₂, ◌∙◌, subst, inl, inr, ⊎_elim}
use Rattle.std.proofs.lemmas.List.{append-nil}
use Rattle.libyaml_types.specs.declared.enums.yaml_error_type_t.{yaml_error_type_t}
use Rattle.libyaml_types.specs.declared.enums.yaml_error_type_t.TheVariants.{YAML_MEMORY_ERROR}
use Rattle.libyaml_documents.specs.Documents.{Document, empty_document}
use Rattle.libyaml_events.specs.machine.Config.{Parser}
use Rattle.libyaml_grammar.specs.grammar.Events.{Event, events}
use Rattle.libyaml_types.specs.Fault.{Fault, memory_fault}
use Rattle.libyaml_types.specs.Fault as faults
use Rattle.libyaml_events.proofs.exported.CallsInTurn.{both_calls}
use Rattle.libyaml_events.specs.sources.History.{source_results, between_documents, has_failed, kept_fault, new_parser}
use Rattle.libyaml_grammar.specs.partial.DeterminedEvents.{Begins}
use Rattle.libyaml_grammar.specs.grammar.Nesting.{IsNested}
use Rattle.libyaml_grammar.specs.grammar.Order.{in_order}
use Rattle.libyaml_events.proofs.exported.Histories as histories
use Rattle.libyaml_grammar.specs.runs.Runs.{Ending, Ends, Fails}
use Rattle.libyaml_grammar.specs.grammar.Tokens.{Token}
use Rattle.libyaml_grammar.specs.grammar.Trees.{Stream, tokens}
use Rattle.libyaml_types.specs.declared.fault.yaml_parser_t_prefix.{yaml_parser_t_prefix}
use Rattle.libyaml_types.specs.declared.source.yaml_token_source_t.{Ghosts}
use Rattle.libyaml_graphs.specs.loads.Bounds.{NoneLacksMemory, bounded_loads, next_bounded}
use Rattle.libyaml_graphs.specs.loads.GraphLaws.{RootsFollow}
use Rattle.libyaml_graphs.specs.loads.Loads.{IsLoads, Load, last_load, left_over, loads, loads_of}
use Rattle.libyaml_graphs.proofs.exported.BoundedPrefixes.{IsPrefixTree, prefix_of_loads, met, same, unmet_loads}
use Rattle.libyaml_graphs.proofs.exported.LoadLists.{roots_after}
use Rattle.libyaml_graphs.proofs.exported.Roots.{fault_of, last_of, roots_follow}
use Rattle.libyaml_graphs.proofs.exported.RunLoads.{valid_list_loads}
use Rattle.libyaml_loader.specs.document.Ids.{magnitude}
use Rattle.libyaml_events.specs.sources.CallsInTurn.{Took}
use Rattle.libyaml_loader.specs.loads.Loading.{DocumentOrError, KeptBy, LoadFails, Loads, LoadsFrom, ParserFails, at_end, by_loader, by_memory, by_parser, whole}
use Rattle.libyaml_loader.proofs.exported.LoadsInTurn.{none_in_turn, one_more}
use Rattle.libyaml_loader.specs.loads.LoadsInTurn.{LoadedInTurn}
use Rattle.unsafe_libyaml.specs.WholeRun.{ending_of}
use Rattle.unsafe_libyaml.specs.WholeLoads.{GathersLoads, LoadsTo, as_whole_loads}
use Rattle.unsafe_libyaml.specs.WholeLoads as whole_loads
use Rattle.unsafe_libyaml.proofs.WholeRuns.{GaveSoFar, Tells, asked_all, asked_until, none_is_some, stopped_so}
use Rattle.unsafe_libyaml.specs.declared.load_all.yaml_documents_t.{yaml_documents_t}
use Rattle.libyaml_events.specs.sources.Trace.{here}

-- the bound of a parser that was made and not told another
abbrev pub most : ℕ
most = 2147483647

abbrev oks : List Document → List Load
oks ds = map (λ (d : Document). Ok d) ds

-- Within the loads over a source: the parser loaded these documents since it was made.
pub record Loaded {S : Type 0} (g : Ghosts S) (source : S) (p : Parser S) (loaded : List Document) : Type 0 where
  pub in_turn : LoadedInTurn g.gives most (new_parser source) p loaded [] []
  pub between : between_documents p ≡ true
  pub bound : p.max_entries ≡ pos 2147483647

-- lists of loads
none_lacks : (ds : List Document) (l : List Load) → NoneLacksMemory l → NoneLacksMemory (oks ds ++ l)
none_lacks [] l h = h
none_lacks (d ∷ ds) l h = none_lacks ds l h

-- the documents that were loaded are the first of the loads, also where the bound is met after them
same_document : (c d : Document) (a b : List Load) → ◌≡◌ {A = List Load} (Ok c ∷ a) (Ok d ∷ b) → c ≡ d
same_document c d a b h = cc

same_after : (c d : Document) (a b : List Load) → ◌≡◌ {A = List Load} (Ok c ∷ a) (Ok d ∷ b) → a ≡ b
same_after c d a b h = cc

oks_first : (loaded ds : List Document) (following rest : List Load)
    → ◌≡◌ {A = List Load} (oks ds ++ (Err memory_fault ∷ [])) (oks loaded ++ following)
    → (t : List Load) × (oks ds ++ rest ≡ oks loaded ++ t)
oks_first [] ds following rest h = (oks ds ++ rest, refl)
oks_first (d ∷ loaded) [] following rest h = absurd cc
oks_first (d ∷ loaded) (c ∷ ds) following rest h =
    let k = oks_first loaded ds following rest
    (same_after c d (oks ds ++ (Err memory_fault ∷ [])) (oks loaded ++ following) h) in (
      k.0,
      ap₂ (λ (x : Document) (l : List Load). Ok x ∷ l)
          (same_document c d (oks ds ++ (Err memory_fault ∷ [])) (oks loaded ++ following) h) k.1,
    )

loaded_first : (within all : List Load) → IsPrefixTree within all → (loaded : List Document) (following : List Load)
    → within ≡ oks loaded ++ following
    → (t : List Load) × (all ≡ oks loaded ++ t)
loaded_first within all (same e) loaded following h = (following, sym e ∙ h)
loaded_first within all (met ds rest i j) loaded following h = let k = oks_first loaded ds following rest (sym i ∙ h)
    in (k.0, j ∙ k.1)

pub loaded_none : {S : Type 0} (g : Ghosts S) (source : S) (p : Parser S) → p ≡ new_parser source
    → between_documents p ≡ true → p.max_entries ≡ pos 2147483647 → Loaded g source p []
loaded_none g source p is between bound = record {
  in_turn = subst (λ q. LoadedInTurn g.gives most (new_parser source) q [] [] []) (sym is)
      (none_in_turn g most [] [] (new_parser source) here);
  between = between;
  bound = bound;
}

pub loaded_as : {S : Type 0} (g : Ghosts S) (source : S) (p : Parser S) (a b : List Document) → b ≡ a
    → Loaded g source p a → Loaded g source p b
loaded_as g source p a b h l = subst (λ (k : List Document). Loaded g source p k) (sym h) l

module _ {S : Type 0} (g : Ghosts S) (source : S) (old new : Parser S) (r : DocumentOrError)
    (call : has_failed old ≡ false → LoadsFrom g (next_bounded (magnitude old.max_entries)) left_over old r new)
    (loaded : List Document) (was : Loaded g source old loaded) where
  abbrev given : List Event
  given = was.in_turn.taken

  abbrev so : GaveSoFar g.gives source old given
  so = was.in_turn.carried

  loads_of_call : (q : DocumentOrError) → r ≡ q → LoadsFrom g (next_bounded most) left_over old q new
  loads_of_call q is =
      subst (λ (n : ℕ). LoadsFrom g (next_bounded n) left_over old q new) (ap magnitude was.bound)
      (subst (λ (q : DocumentOrError). LoadsFrom g (next_bounded (magnitude old.max_entries)) left_over old q new) is
      (call (histories.faultless old so.more given so.history)))

  -- what was given goes on by the events that were taken
  gave_on : (p : Parser S) (taken : List Event) → Took g old p taken → GaveSoFar g.gives source p (given ++ taken)
  gave_on p taken took
      = both_calls g.gives (new_parser source) old p [] [] given taken so
      (took.history so.more given so.history)

  so_far_after : (taken rest : List Event) (x : Ending) → bounded_loads most ((given ++ taken) ++ rest) x
      ≡ oks loaded ++ bounded_loads most (taken ++ rest) x
  so_far_after taken rest x = ap (λ (l : List Event). bounded_loads most l x) (append_assoc given taken rest)
      ∙ was.in_turn.loads (taken ++ rest) x

  -- after one document more
  pub loaded_next : between_documents new ≡ true → new.max_entries ≡ old.max_entries → (d : Document) → r ≡ Ok d
      → d.nodes ≢ [] → Loaded g source new (loaded ++ d ∷ [])
  loaded_next between bound d is has_root = record {
    in_turn = one_more g most [] [] (new_parser source) old new loaded d was.in_turn (loads_of_call (Ok d) is) has_root;
    between = between;
    bound = bound ∙ was.bound;
  }

  -- what all calls gathered
  module _ (all : yaml_documents_t) (items : all.documents.items ≡ loaded) where
    -- the loads within the bound are the loads, where none is out of memory
    are_loads_so : (e : List Event) (x y : Ending) → bounded_loads most e x ≡ as_whole_loads loaded y
        → NoneLacksMemory (last_load y ∷ []) → ending_of all.fault ≡ y
        → as_whole_loads all.documents.items (ending_of all.fault) ≡ loads e x
    are_loads_so e x y list memory fault_is =
        ap₂ as_whole_loads items fault_is ∙ (sym list
        ∙ unmet_loads e x most (subst NoneLacksMemory (sym list) (none_lacks loaded (last_load y ∷ []) memory)))

    are_first : (taken rest : List Event) (x : Ending)
        → (later : List Load) × (loads ((given ++ taken) ++ rest) x ≡ oks all.documents.items ++ later)
    are_first taken rest x =
        let e = (given ++ taken) ++ rest in
        let (later, h) = loaded_first (bounded_loads most e x) (loads e x) (prefix_of_loads e x most) loaded
        (bounded_loads most (taken ++ rest) x)
        (so_far_after taken rest x) in
        (later, h ∙ ap (λ (ds : List Document). oks ds ++ later) (sym items))

    pub gathers_loads : (d : Document) → r ≡ Ok d → d.nodes ≡ [] → all.fault ≡ None → GathersLoads g.gives source all
    gathers_loads d is no_root no_fault = go (loads_of_call (Ok d) is)
      where
        ends : ending_of all.fault ≡ Ends
        ends = ap ending_of no_fault

        no_end : ◌≡◌ {A = Load} (Err memory_fault) (Ok d) → ⊥
        no_end h = cc

        roots_of : (taken : List Event) → Took g old new taken → RootsFollow taken
        roots_of taken took = roots_after given taken
            (roots_follow (given ++ taken) (histories.nests new _ _ (gave_on new taken took).history))

        go : Loads g (next_bounded most) left_over old new d → GathersLoads g.gives source all
        go (whole taken took is_load left b) =
            let x = Fails memory_fault in
            let load = ap (λ (l : List Event). next_bounded most l x) (sym (append-nil taken)) ∙ is_load [] x in
            absurd (no_end (last_of taken x most d (roots_of taken took) load no_root).1)
        go (at_end taken took last left run empty ended) =
            let k = gave_on new taken took in
            let z = last_of taken Ends most (empty_document None [] false false) (roots_of taken took)
            (last Ends) refl in
            let list = was.in_turn.loads taken Ends ∙ ap (λ (t : List Load). oks loaded ++ t) z.0 in
            record {
              asked = k.more;
              last = [];
              taken = given ++ taken;
              tokens = asked_all k;
              begins = histories.begins_each new _ _ k.history;
              begins_run = histories.begins_each_run new _ _ k.history;
              nests = histories.nests new _ _ k.history;
              are_loads
                  = are_loads_so (given ++ taken) Ends Ends list tt ends
                  ∙ ap (λ (y : Ending). loads (given ++ taken) y) (sym ends);
              are_first = are_first taken;
              whole = λ (h : all.fault ≡ None). (ended so.more given so.history).whole _ _ k.history;
              stopped = λ (f : yaml_parser_t_prefix) (h : all.fault ≡ Some f). absurd (none_is_some f (sym no_fault ∙ h));
            }

    -- where the error is not out of memory
    module _ (y : yaml_error_type_t) (is : r ≡ Err y) (p : yaml_parser_t_prefix)
        (kept : faults.fault_of p ≡ kept_fault new) (fault_is : all.fault ≡ Some p)
        (other : p.error ≢ YAML_MEMORY_ERROR) where
      ends_so : ending_of all.fault ≡ Fails (kept_fault new)
      ends_so = ap ending_of fault_is ∙ ap Fails kept

      has_memory : (kept_fault new).error ≢ YAML_MEMORY_ERROR
      has_memory m = other (ap (λ (w : Fault). w.error) kept ∙ m)

      stands : (e : List Event) (x : Ending) → next_bounded most e x ≡ Err (kept_fault new) → (given : List Event)
          → bounded_loads most given x ≡ oks loaded ++ bounded_loads most e x
          → as_whole_loads all.documents.items (ending_of all.fault) ≡ loads given x
      stands e x last given so_far = are_loads_so given x (Fails (kept_fault new))
          (so_far ∙ ap (λ (t : List Load). oks loaded ++ t) (fault_of e x most (kept_fault new) last))
          (has_memory, tt) ends_so

      by_parser_call : (taken : List Event) (parser : Parser S) → Took g old parser taken → ParserFails g parser new
          → ((x : Ending) → next_bounded most taken x ≡ last_load x) → GathersLoads g.gives source all
      by_parser_call taken parser took fails last =
          let k = gave_on parser taken took in
          let call = fails.history _ _ k.history in
          let x = Fails (kept_fault new) in
          record {
            asked = k.more;
            last = call.more;
            taken = given ++ taken;
            tokens = asked_until k new call;
            begins = histories.begins_each parser _ _ k.history;
            begins_run = histories.begins_each_run parser _ _ k.history;
            nests = histories.nests parser _ _ k.history;
            are_loads
                = stands taken x (last x) (given ++ taken) (was.in_turn.loads taken x)
                ∙ ap (λ (e : Ending). loads (given ++ taken) e) (sym ends_so);
            are_first = are_first taken;
            whole = λ (h : all.fault ≡ None). absurd (none_is_some p (sym h ∙ fault_is));
            stopped = λ (f : yaml_parser_t_prefix) (h : all.fault ≡ Some f). inl
                (stopped_so p f (sym fault_is ∙ h) kept other call);
          }

      by_loader_step : (taken : List Event) (parser : Parser S) → Took g old parser taken → (f : Fault)
          → KeptBy f parser new
          → ((rest : List Event) (x : Ending) → next_bounded most (taken ++ rest) x ≡ Err f)
          → GathersLoads g.gives source all
      by_loader_step taken parser took f keeps fails =
          let k = gave_on parser taken took in
          record {
            asked = k.more;
            last = [];
            taken = given ++ taken;
            tokens = asked_all k;
            begins = histories.begins_each parser _ _ k.history;
            begins_run = histories.begins_each_run parser _ _ k.history;
            nests = histories.nests parser _ _ k.history;
            are_loads
                = sym (error (ap kept_fault (keeps _ _ k.history)) [] (ending_of all.fault))
                ∙ ap (λ (l : List Event). loads l (ending_of all.fault)) (append-nil (given ++ taken));
            are_first = are_first taken;
            whole = λ (h : all.fault ≡ None). absurd (none_is_some p (sym h ∙ fault_is));
            stopped = λ (w : yaml_parser_t_prefix) (h : all.fault ≡ Some w). inr
                (error (ap kept_fault (keeps _ _ k.history)));
          }
        where
          error : kept_fault new ≡ f → (rest : List Event) (x : Ending)
              → loads ((given ++ taken) ++ rest) x ≡ as_whole_loads all.documents.items (ending_of all.fault)
          error is_kept rest x = sym (stands (taken ++ rest) x
              (fails rest x ∙ ap (λ (w : Fault). Err w) (sym is_kept)) ((given ++ taken) ++ rest)
              (so_far_after taken rest x))

      pub gathers_to_fault : GathersLoads g.gives source all
      gathers_to_fault = go (loads_of_call (Err y) is)
        where
          go : LoadFails g (next_bounded most) left_over old new → GathersLoads g.gives source all
          go (by_parser taken parser took fails last) = by_parser_call taken parser took fails last
          go (by_loader before e parser took f keeps waits fails) =
              by_loader_step (before ++ e ∷ []) parser took f keeps fails
          go (by_memory before e parser took keeps grows) = absurd (has_memory (ap (λ (q : Parser S). (kept_fault q).error)
              (keeps _ _ (gave_on parser (before ++ e ∷ []) took).history)))

-- over a source that knows its tokens, by the run of the tokens that it was asked for
pub loads_to : {S : Type 0} (g : Ghosts S) (source : S) (all : yaml_documents_t) (w : GathersLoads g.gives source all)
    (l : List Token) (f : Fault) (a : List Load) (h : IsLoads l f a)
    → Tells g.may_break w.tokens.stands w.asked w.last w.taken h.events h.ending → LoadsTo g source all a
loads_to g source all w l f a h tells = subst (LoadsTo g source all) (sym h.all) (go all.fault refl)
  where
    told_so : (y : Ending) → ending_of all.fault ≡ y → (w.taken ≡ h.events) × (y ≡ h.ending)
        → LoadsTo g source all (loads h.events h.ending)
    told_so y i k = whole_loads.whole (w.are_loads ∙ ap₂ loads k.0 (i ∙ k.1))

    begins : Begins w.taken h.events
    begins = tells.begins w.begins_run

    go : (o : Option yaml_parser_t_prefix) → all.fault ≡ o → LoadsTo g source all (loads h.events h.ending)
    go None i = told_so Ends (ap ending_of i) (tells.whole (w.whole i))
    go (Some p) i = ⊎_elim (λ s. ⊎_elim (told_so (Fails (faults.fault_of p)) (ap ending_of i))
        (λ b. let (rest, k) = w.are_first begins.0 h.ending in
        whole_loads.broken_off (source_results w.asked w.last) w.tokens.stands (faults.fault_of p) w.tokens.gave b
        (ap ending_of i) rest (ap (λ (l : List Event). loads l h.ending) begins.1 ∙ k))
        (tells.stopped (faults.fault_of p) s))
        (λ c. whole_loads.whole (sym (c begins.0 h.ending) ∙ ap (λ (l : List Event). loads l h.ending) (sym begins.1)))
        (w.stopped p i)

-- after a document with a root fewer events are left
pub fewer : (d : Document) (new old : ℕ) → (d ≡ empty_document None [] false false) ⊎ (new < old) → d.nodes ≢ [] → new < old
fewer d new old (inl e) h = absurd (h (ap (λ (k : Document). k.nodes) e))
fewer d new old (inr k) h = k

-- the loads over a tree's tokens
pub tree_loads : (t : Stream) (f : Fault) → in_order t ≡ true
    → (n : IsNested (events t)) × IsLoads (tokens t) f (loads_of n.texts (last_load Ends ∷ []))
tree_loads t f o =
    let h = valid_list_loads t [] f o in
    (h.0, subst (λ (l : List Token). IsLoads l f (loads_of h.0.texts (last_load Ends ∷ []))) (append-nil (tokens t)) h.1)
