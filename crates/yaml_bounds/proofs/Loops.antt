-- What a whole loop over events within bounds yielded, by the tokens that were to come.
use Rattle.std.proofs.Common.{◌≡◌, ◌≤◌, inl, inr, ◌++◌, ◌∷◌, ◌∙◌, ℕ, List, [], Option, Some, None, Ok, Err, refl, sym, ap, subst, append-nil, append_assoc, true≢false}
use Rattle.std.specs.List.{AllByRecursion}
use Rattle.libyaml_types.specs.Fault.{Fault, fault_of, SourceResult}
use Rattle.libyaml_types.specs.Source.{Follows, coming}
use Rattle.libyaml_types.specs.Types.{event_type}
use Rattle.libyaml_types.specs.declared.fault.yaml_parser_t_prefix.{yaml_parser_t_prefix}
use Rattle.libyaml_types.specs.declared.source.yaml_token_source_t.{Ghosts}
use Rattle.libyaml_grammar.specs.grammar.Events.{Event}
use Rattle.libyaml_grammar.specs.grammar.Nesting.{NestsSoFar}
use Rattle.libyaml_grammar.specs.grammar.Tokens.{Token}
use Rattle.libyaml_grammar.specs.runs.Runs.{Ending, Ends, Fails, IsRun}
use Rattle.libyaml_grammar.proofs.exported.NestingSoFar.{run_prefix_nests}
use Rattle.libyaml_documents.specs.Documents.{Document}
use Rattle.libyaml_events.specs.machine.Config.{Parser}
use Rattle.libyaml_events.specs.sources.History.{History, kept_fault}
use Rattle.libyaml_events.specs.sources.Iterates.{YieldsEvent}
use Rattle.libyaml_events.specs.sources.RunToCome.{FailsHere, RestOfRun, RunToCome}
use Rattle.libyaml_events.proofs.exported.KnownTokens.{fails_here, nothing_after_end}
use Rattle.libyaml_events.proofs.exported.Taking.{took_one}
use Rattle.libyaml_graphs.specs.graphs.GraphParts.{Closing, Opening, closing_of}
use Rattle.libyaml_graphs.specs.loads.Bounds.{bounded_loads}
use Rattle.libyaml_graphs.specs.loads.Leads.{as_loads, loads_from}
use Rattle.libyaml_graphs.specs.loads.Loads.{Load}
use Rattle.libyaml_graphs.specs.machine.Loader.{between}
use Rattle.libyaml_graphs.proofs.exported.Leading.{from_none, leads_none}
use Rattle.libyaml_composer.specs.declared.deed.Deed.{Deed}
use Rattle.libyaml_composer.specs.declared.deed.Deed.TheVariants as deed
use Rattle.libyaml_composer.specs.declared.records.place_t.{place_t}
use Rattle.libyaml_composer.specs.Composing.{Composer, Told, is_start, told}
use Rattle.libyaml_composer.specs.DocumentSoFar.{DocumentSoFar, IsRefused, applied, deed_fault, ended_documents, given, loader_state, nothing_held}
use Rattle.libyaml_composer.proofs.exported.Deeds.{represents_roomy}
use Rattle.libyaml_composer.proofs.exported.Standing.{Stood, refuses, stands_on}
use Rattle.libyaml_loader.specs.composed.EventComposer.{EventComposer, new_event_composer}
use Rattle.libyaml_loader.specs.composed.Telling.{TellsDeed, load_fault, no_place}
use Rattle.libyaml_loader.specs.document.Stack.{roomy}
use Rattle.yaml_expansion.specs.Expansion.{HasExpandedSize}
use Rattle.document_sizes.specs.declared.counted.Counted.{Counted}
use Rattle.document_sizes.specs.declared.counted.Counted.TheVariants as counted
use Rattle.document_sizes.specs.declared.sizes.sizes_t.{sizes_t}
use Rattle.document_sizes.specs.Counting.{Count, bound_of, count_of, counting}
use Rattle.document_sizes.specs.RunLaws.{Continues}
use Rattle.document_sizes.specs.ParserRuns.{CountsEvent, StreamRun, begins, moves, takes}
use Rattle.document_sizes.proofs.exported.Laws.{ends_with_its_size, goes_on_whole, stops_at_a_cycle, stops_at_the_bound}
use Rattle.yaml_bounds.specs.declared.bounded_composer.bounded_composer_t.{bounded_composer_t}
use Rattle.yaml_bounds.specs.Bounds.{AnswersTo, CountedBy, RefusesNode, TakesNode, by_count, by_deed, by_memory, count_fault, size_before}
use Rattle.yaml_bounds.specs.BoundedEvents.{BoundedEvents, EndsByFault, by_event, by_parser}
use Rattle.yaml_bounds.specs.BoundedLoops.{AreBoundedOf, GetsEndless, GetsTooLarge, GoesOnWith, HasSizeWithin, LoopBounded, StopsBy, all, cut_short, event, fault, gets_endless, gets_too_large, no_item, refused, too_many}
use Rattle.yaml_bounds.proofs.Told.{fault_same, held_anchors, nothing_given, taken_so, told_so}

-- what is counted, where there is a bound
abbrev Counts : Option ℕ → Composer → DocumentSoFar → Option sizes_t → List ℕ → List Event → List Document → Type 0
Counts None c h s sizes es ds = s ≡ None
Counts (Some m) c h s sizes es ds = (total : ℕ) × (s ≡ Some (record { total = total; max = m })) × StreamRun m c h total sizes es
    × AllByRecursion (HasSizeWithin m) ds

-- where a loop stands after these events
record Stands (n : ℕ) (max : Option ℕ) (c : bounded_composer_t) (es : List Event) : Type 0 where
  held : DocumentSoFar
  documents : List Document
  anchors : held.anchors ≡ c.composer.anchors
  stood : Stood n c.composer.collections held es documents
  counts : Counts max c.composer.collections held c.size c.sizes.items es documents

all_more : (m : ℕ) (a b : List Document) → AllByRecursion (HasSizeWithin m) a → AllByRecursion (HasSizeWithin m) b
    → AllByRecursion (HasSizeWithin m) (a ++ b)
all_more m [] b h k = k
all_more m (d ∷ a) b h k = (h.0, all_more m a b h.1 k)

abbrev loads_after : List Load → List Load
loads_after [] = []
loads_after (x ∷ l) = l

same_loads : (ds : List Document) (a b : List Load) → as_loads ds ++ a ≡ as_loads ds ++ b → a ≡ b
same_loads [] a b e = e
same_loads (d ∷ ds) a b e = same_loads ds a b (ap loads_after e)

-- room is none of what stands
roomy_stood : (n : ℕ) (c : Composer) (h : DocumentSoFar) (es : List Event) (ds : List Document) (room : ℕ) → Stood n c h es ds
    → Stood n (roomy room c) h es ds
roomy_stood n c h es ds room s = record {
  bound = s.bound;
  leads = s.leads;
  standing = λ w. let (o, there) = s.standing w in (o, represents_roomy c h o room there);
}

-- an event that was told
module _ (n : ℕ) (old : EventComposer) (es : List Event) (ds : List Document) (h : DocumentSoFar) (anchors : h.anchors ≡ old.anchors)
    (stood : Stood n old.collections h es ds) (e : Event) (d : Deed) (p : place_t) (new : EventComposer) (tells : TellsDeed old e d p new) where
  abbrev t : Told
  t = told d p new.collections

  goes : (IsRefused d → ⊥) → Stood n new.collections (applied d p e h) (es ++ e ∷ []) (ds ++ given d e h)
  goes sound = stands_on n (roomy tells.room old.collections) h es ds (roomy_stood n old.collections h es ds tells.room stood) e no_place t
      (told_so old new e d p tells h anchors) (sound, tells.has_room)

  ends : IsRefused d → (any : List Event) (y : Ending) → bounded_loads n (es ++ e ∷ any) y ≡ as_loads ds ++ Err (deed_fault d h e) ∷ []
  ends r any y = refuses n (roomy tells.room old.collections) h es ds (roomy_stood n old.collections h es ds tells.room stood) e no_place t
      (told_so old new e d p tells h anchors) r any y

  -- within a bound
  module _ (m total : ℕ) (sizes more : List ℕ) (run : StreamRun m old.collections h total sizes es) where
    -- with room for so many collections and numbers
    run_roomy : StreamRun m (roomy tells.room old.collections) h total (sizes ++ more) es
    run_roomy = moves old.collections h total tells.room sizes more es run

    abbrev CountsNow : Counted → ℕ → List ℕ → Type 0
    CountsNow a total' sizes' = CountsEvent m (roomy tells.room old.collections) h total (sizes ++ more) e t (count_of a total' sizes')

    counts_now : (a : Counted) (total' : ℕ) (sizes' : List ℕ) → (IsRefused d → ⊥)
        → count_of a total' sizes' ≡ counting (bound_of m) d (is_start (event_type e.content)) p total (sizes ++ more) → CountsNow a total' sizes'
    counts_now a total' sizes' sound is = record {
      place = no_place;
      composed = told_so old new e d p tells h anchors;
      taken = taken_so old new e d p tells h anchors sound;
      counted = is;
    }

    module _ (nests : NestsSoFar (es ++ e ∷ [])) where
      -- each document that ends with the event is within the bound
      ended_within : (total' : ℕ) (sizes' : List ℕ) → CountsNow counted.Within total' sizes' → AllByRecursion (HasSizeWithin m) (given d e h)
      ended_within total' sizes' k = go d refl
        where
          within : d ≡ deed.Ends → HasExpandedSize h.nodes total × (total ≤ bound_of m)
          within is = ends_with_its_size m (roomy tells.room old.collections) h total (sizes ++ more) es e t
              (count_of counted.Within total' sizes') run_roomy k nests is

          of_document : d ≡ deed.Ends → (o : Option Opening) (c : Option Closing) → AllByRecursion (HasSizeWithin m) (ended_documents o h.nodes c)
          of_document is None c = tt
          of_document is (Some o) None = tt
          of_document is (Some o) (Some c) = let (size, le) = within is in ((total, size, le), tt)

          go : (b : Deed) → d ≡ b → AllByRecursion (HasSizeWithin m) (given b e h)
          go deed.Ends is = of_document is h.opening (closing_of e)
          go _ is = tt

      -- no document ends with an event that isn't within the bound
      none_ends : (a : Counted) (total' : ℕ) (sizes' : List ℕ) → CountsNow a total' sizes' → (a ≡ counted.Within → ⊥) → d ≡ deed.Ends → ⊥
      none_ends a total' sizes' k out is = out (ap (λ (x : Count). x.answer) (k.counted
          ∙ ap (λ (b : Deed). counting (bound_of m) b (is_start (event_type e.content)) p total (sizes ++ more)) is))

      -- whatever comes after it, a document that becomes whole continues the nodes that it leaves
      continues : (a : Counted) (total' : ℕ) (sizes' : List ℕ) → (IsRefused d → ⊥) → CountsNow a total' sizes' → (a ≡ counted.Within → ⊥)
          → (x : Document) → GoesOnWith n ds (es ++ e ∷ []) x → (x.nodes ≡ [] → ⊥)
          → Continues (applied d p e h).nodes new.collections.stack x.nodes
      continues a total' sizes' sound k out x (later, y, more_loads, nests_on, loads) root =
          let there = goes sound in
          let none : ds ++ given d e h ≡ ds = ap (λ (l : List Document). ds ++ l) (nothing_given d e h (none_ends a total' sizes' k out))
          ∙ append-nil ds in
          let all_loads = sym (ap (λ (l : List Document). as_loads l ++ loads_from n (loader_state new.collections (applied d p e h)) later y) none)
          ∙ (sym (there.leads.loads later y) ∙ loads) in
          goes_on_whole m (roomy tells.room old.collections) h total (sizes ++ more) es e t (count_of a total' sizes') run_roomy k out later
          (subst NestsSoFar (append_assoc es (e ∷ []) later) nests_on) y x more_loads
          (ap (λ (q : ℕ). loads_from q (loader_state new.collections (applied d p e h)) later y) there.bound
          ∙ same_loads ds (loads_from n (loader_state new.collections (applied d p e h)) later y) (Ok x ∷ more_loads) all_loads) root

      larger : (total' : ℕ) (sizes' : List ℕ) → (IsRefused d → ⊥) → CountsNow counted.TooLarge total' sizes'
          → GetsTooLarge n m ds (es ++ e ∷ [])
      larger total' sizes' sound k x on root size has =
          stops_at_the_bound m (roomy tells.room old.collections) h total total' (sizes ++ more) sizes' es e t run_roomy k nests x.nodes
          (continues counted.TooLarge total' sizes' sound k (λ f. cc) x on root) size has

      cyclic : (total' : ℕ) (sizes' : List ℕ) → (IsRefused d → ⊥) → CountsNow counted.Endless total' sizes'
          → GetsEndless n ds (es ++ e ∷ [])
      cyclic total' sizes' sound k x on root = (
        p.child,
        stops_at_a_cycle m (roomy tells.room old.collections) h total total' (sizes ++ more) sizes' es e t run_roomy k nests x.nodes
            (continues counted.Endless total' sizes' sound k (λ f. cc) x on root),
      )

-- one event that is taken
further : (n : ℕ) (max : Option ℕ) (old new : bounded_composer_t) (es : List Event) (e : Event) → NestsSoFar (es ++ e ∷ [])
    → Stands n max old es → TakesNode old e new → Stands n max new (es ++ e ∷ [])
further n max old new es e nests s k = record {
  held = applied k.deed k.place e s.held;
  documents = s.documents ++ given k.deed e s.held;
  anchors = held_anchors old.composer new.composer e k.deed k.place k.tells s.held s.anchors k.taken;
  stood = goes n old.composer es s.documents s.held s.anchors s.stood e k.deed k.place new.composer k.tells k.taken;
  counts = by max old.size s.counts k.counted;
}
  where
    by : (max : Option ℕ) (z : Option sizes_t) → Counts max old.composer.collections s.held z old.sizes.items es s.documents
        → CountedBy z counted.Within k.deed (event_type e.content) k.place old.sizes.items new.size new.sizes.items
        → Counts max new.composer.collections (applied k.deed k.place e s.held) new.size new.sizes.items (es ++ e ∷ [])
        (s.documents ++ given k.deed e s.held)
    by None None none c = c.1
    by None (Some z) none c = absurd cc
    by (Some m) None (total, is, run, within) c = absurd cc
    by (Some m) (Some z) (total, is, run, within) (total', more, size, counted_so) =
        let z_is : z ≡ record { total = total; max = m } = cc in
        let now = subst (λ (q : sizes_t). count_of counted.Within total' new.sizes.items
        ≡ counting (bound_of q.max) k.deed (is_start (event_type e.content)) k.place q.total (old.sizes.items ++ more)) z_is counted_so in
        let counts = counts_now n old.composer es s.documents s.held s.anchors s.stood e k.deed k.place new.composer k.tells m total
        old.sizes.items more run counted.Within total' new.sizes.items k.taken now in (
          total',
          size ∙ ap (λ (q : sizes_t). Some (record { total = total'; max = q.max })) z_is,
          takes (roomy k.tells.room old.composer.collections) s.held total total' (old.sizes.items ++ more) new.sizes.items es e
              (told k.deed k.place new.composer.collections)
              (run_roomy n old.composer es s.documents s.held s.anchors s.stood e k.deed k.place new.composer k.tells m total
              old.sizes.items more run) counts,
          all_more m s.documents (given k.deed e s.held) within
              (ended_within n old.composer es s.documents s.held s.anchors s.stood e k.deed k.place new.composer k.tells m total
              old.sizes.items more run nests total' new.sizes.items counts),
        )

module _ (n : ℕ) (max : Option ℕ) (old : bounded_composer_t) (es : List Event) (e : Event) (f : Fault) (later : List Event) (x : Ending)
    (MayBreak : Fault → Type 0) (nests : NestsSoFar (es ++ e ∷ [])) (s : Stands n max old es) where
  abbrev Stops : Type 0
  Stops = StopsBy n max MayBreak es s.documents (Fails f) (e ∷ later) x

  -- a count that isn't within the bound
  stops_count : (a : Counted) (d : Deed) (p : place_t) (new : bounded_composer_t) → TellsDeed old.composer e d p new.composer
      → (IsRefused d → ⊥) → AnswersTo a d (event_type e.content) p old new → (a ≡ counted.Within → ⊥) → f ≡ count_fault a e.start_mark
      → Stops
  stops_count a d p new tells sound answers out is = by max old.size s.counts answers
    where
      by : (max' : Option ℕ) (z : Option sizes_t) → Counts max' old.composer.collections s.held z old.sizes.items es s.documents
          → CountedBy z a d (event_type e.content) p old.sizes.items new.size new.sizes.items
          → StopsBy n max' MayBreak es s.documents (Fails f) (e ∷ later) x
      by None None none c = absurd (out c.0)
      by None (Some z) none c = absurd cc
      by (Some m) None (total, is_z, run, within) c = absurd cc
      by (Some m) (Some z) (total, is_z, run, within) (total', more, size, counted_so) =
          let z_is : z ≡ record { total = total; max = m } = cc in
          let now = subst (λ (q : sizes_t). count_of a total' new.sizes.items
          ≡ counting (bound_of q.max) d (is_start (event_type e.content)) p q.total (old.sizes.items ++ more)) z_is counted_so in
          go a is now
        where
          go : (b : Counted) → f ≡ count_fault b e.start_mark
              → count_of b total' new.sizes.items ≡ counting (bound_of m) d (is_start (event_type e.content)) p total (old.sizes.items ++ more)
              → StopsBy n (Some m) MayBreak es s.documents (Fails f) (e ∷ later) x
          go counted.TooLarge is now = gets_too_large m e later refl refl (ap Fails is)
              (larger n old.composer es s.documents s.held s.anchors s.stood e d p new.composer tells m total old.sizes.items more run nests
              total' new.sizes.items sound (counts_now n old.composer es s.documents s.held s.anchors s.stood e d p new.composer tells m total
              old.sizes.items more run counted.TooLarge total' new.sizes.items sound now))
          go counted.Endless is now = gets_endless m e later refl refl (ap Fails is)
              (cyclic n old.composer es s.documents s.held s.anchors s.stood e d p new.composer tells m total old.sizes.items more run nests
              total' new.sizes.items sound (counts_now n old.composer es s.documents s.held s.anchors s.stood e d p new.composer tells m total
              old.sizes.items more run counted.Endless total' new.sizes.items sound now))
          go _ is now = cut_short f refl (inl is)

  -- the error of a load
  by_load : (d : Deed) (p : place_t) (c : EventComposer) → TellsDeed old.composer e d p c → IsRefused d → f ≡ load_fault d old.composer e → Stops
  by_load d p c tells r is = refused f e later refl refl
      (λ any y. ends n old.composer es s.documents s.held s.anchors s.stood e d p c tells r any y
      ∙ ap (λ (g : Fault). as_loads s.documents ++ Err g ∷ []) (fault_same d old.composer e s.held s.anchors r ∙ sym is))

  -- one event that is refused
  stops_event : RefusesNode old e f → Stops
  stops_event (by_deed deed.FullList p c tells r is) = too_many e later refl (ap Fails is)
      (ends n old.composer es s.documents s.held s.anchors s.stood e deed.FullList p c tells r)
  stops_event (by_deed deed.UndefinedAlias p c tells r is) = by_load deed.UndefinedAlias p c tells r is
  stops_event (by_deed deed.RepeatedAnchor p c tells r is) = by_load deed.RepeatedAnchor p c tells r is
  stops_event (by_deed _ p c tells r is) = absurd r
  stops_event (by_count a d p new tells sound answers out is) = stops_count a d p new tells sound answers out is
  stops_event (by_memory is node) = cut_short f refl (inl is)

module _ {S : Type 0} (g : Ghosts S)
    (follows : (s t : S) (a : SourceResult) → g.gives s a t → Follows (g.may_break t) (g.known s) a (g.known t))
    (n : ℕ) (max : Option ℕ) where
  -- the event is the first of the run
  rest_of : (old new : Parser S) (e : Event) → YieldsEvent g old (Some (Ok e)) new → (events : List Event) (x : Ending)
      → RunToCome g.known old events x → RestOfRun g.known new (e ∷ []) events x
  rest_of old new e y events x run = (took_one g follows old new e (y.1.next.carries_on y.0)).runs events x run

  -- each prefix of these events nests, after those before
  abbrev PrefixesNest : List Event → List Event → Type 0
  PrefixesNest es events = (given later : List Event) → events ≡ given ++ later → NestsSoFar (es ++ given)

  record Bounded (new : Parser S) (es yielded : List Event) (ending : Ending) (events : List Event) (x : Ending) : Type 0 where
    last : bounded_composer_t
    stands : Stands n max last (es ++ yielded)
    rest : List Event
    first : events ≡ yielded ++ rest
    stops : StopsBy n max (g.may_break new.source) (es ++ yielded) stands.documents ending rest x

  stays : (new : Parser S) (c : bounded_composer_t) (es : List Event) (ending : Ending) (events : List Event) (x : Ending)
      → (s : Stands n max c es) → StopsBy n max (g.may_break new.source) es s.documents ending events x → Bounded new es [] ending events x
  stays new c es ending events x s stops = subst (λ (l : List Event). (s : Stands n max c l)
      → StopsBy n max (g.may_break new.source) l s.documents ending events x → Bounded new es [] ending events x)
      (append-nil es) (λ s stops. record { last = c; stands = s; rest = events; first = refl; stops = stops }) s stops

  of_fault : (old new : BoundedEvents S) (f : yaml_parser_t_prefix) (es events : List Event) (x : Ending) → PrefixesNest es events
      → (s : Stands n max old.composer es) → RunToCome g.known old.parser events x → EndsByFault g old f new
      → StopsBy n max (g.may_break new.parser.source) es s.documents (Fails (fault_of f)) events x
  of_fault old new f es events x nests s run (by_parser y) = go
      (fails_here g follows old.parser new.parser events x run (y.1.error.fails run.asked run.given run.history))
    where
      go : FailsHere (g.may_break new.parser.source) (kept_fault new.parser) events x
          → StopsBy n max (g.may_break new.parser.source) es s.documents (Fails (fault_of f)) events x
      go (inl i) = all i.0 (ap Fails y.2 ∙ sym i.1)
      go (inr (inl m)) = cut_short (fault_of f) refl (inl (y.2 ∙ m))
      go (inr (inr b)) = cut_short (fault_of f) refl (inr (subst (λ (h : Fault). g.may_break new.parser.source h) (sym y.2) b))
  of_fault old new f es events x nests s run (by_event e parser y refuses kept) =
      let r = rest_of old.parser parser e y events x run in
      subst (λ (l : List Event). StopsBy n max (g.may_break new.parser.source) es s.documents (Fails (fault_of f)) l x) (sym r.all)
      (stops_event n max old.composer es e (fault_of f) r.later x (g.may_break new.parser.source)
      (nests (e ∷ []) r.later r.all) s refuses)

  bounded : (old new : BoundedEvents S) (es yielded : List Event) (ending : Ending) (events : List Event) (x : Ending)
      → PrefixesNest es events → Stands n max old.composer es → RunToCome g.known old.parser events x → LoopBounded g old yielded ending new
      → Bounded new.parser es yielded ending events x
  bounded old new es yielded ending events x nests s run (no_item y) =
      let e = nothing_after_end g.known old.parser y.0.0 events x run in
      stays new.parser old.composer es Ends events x s (all e.0 (sym e.1))
  bounded old new es yielded ending events x nests s run (fault f y) =
      stays new.parser old.composer es (Fails (fault_of f)) events x s (of_fault old new f es events x nests s run y)
  bounded old new es yielded ending events x nests s run (event e later end next y loop) =
      let r = rest_of old.parser next.parser e y.0 events x run in
      let b = bounded next new (es ++ e ∷ []) later end r.later x
      (λ given others is. subst NestsSoFar (sym (append_assoc es (e ∷ []) given))
      (nests (e ∷ given) others (r.all ∙ ap (λ (l : List Event). e ∷ l) is)))
      (further n max old.composer next.composer es e (nests (e ∷ []) r.later r.all) s y.1) r.run loop in
      moved r.later b (r.all ∙ ap (λ (l : List Event). e ∷ l) b.first)
    where
      moved : (others : List Event) → (b : Bounded new.parser (es ++ e ∷ []) later end others x)
          → events ≡ (e ∷ later) ++ b.rest → Bounded new.parser es (e ∷ later) end events x
      moved others b first = subst (λ (l : List Event). (s : Stands n max b.last l)
          → StopsBy n max (g.may_break new.parser.source) l s.documents end b.rest x → Bounded new.parser es (e ∷ later) end events x)
          (sym (append_assoc es (e ∷ []) later))
          (λ s stops. record { last = b.last; stands = s; rest = b.rest; first = first; stops = stops }) b.stands b.stops

  pub of_list : (old new : BoundedEvents S) (yielded : List Event) (ending : Ending) (l : List Token) (f : Fault)
      (events : List Event) (x : Ending) → old.composer.composer ≡ new_event_composer n → old.composer.size ≡ size_before max
      → History old.parser [] [] → g.known old.parser.source ≡ Some (coming l f) → IsRun l f events x
      → LoopBounded g old yielded ending new → AreBoundedOf g.may_break new.parser n max yielded ending events x
  of_list old new yielded ending l f events x made size history knows run loop =
      let b = bounded old new [] yielded ending events x (λ given later is. run_prefix_nests l f events x run given later is)
      (begin old.composer made size)
      (record { asked = []; given = []; rest = l; fault = f; history = history; knows = knows; run = run }) loop in
      record {
        documents = b.stands.documents;
        rest = b.rest;
        first = b.first;
        faultless = λ y. ap (λ (q : List Event). bounded_loads n q y) (sym (append-nil yielded)) ∙ (b.stands.stood.leads.loads [] y
            ∙ ap (λ (q : List Load). as_loads b.stands.documents ++ q) (from_none n (loader_state b.last.composer.collections b.stands.held) y));
        sizes = λ m is. (subst (λ (q : Option ℕ). Counts q b.last.composer.collections b.stands.held b.last.size b.last.sizes.items yielded
            b.stands.documents) is b.stands.counts).3;
        stops = b.stops;
      }
    where
      begin : (c : bounded_composer_t) → c.composer ≡ new_event_composer n → c.size ≡ size_before max → Stands n max c []
      begin c made size = record {
        held = nothing_held;
        documents = [];
        anchors = sym (ap (λ (k : EventComposer). k.anchors) made);
        stood = subst (λ (k : Composer). Stood n k nothing_held [] []) (sym (ap (λ (k : EventComposer). k.collections) made)) (record {
          bound = refl;
          leads = leads_none n between;
          standing = λ w. absurd (true≢false (sym w));
        });
        counts = by max size;
      }
        where
          by : (max' : Option ℕ) → c.size ≡ size_before max' → Counts max' c.composer.collections nothing_held c.size c.sizes.items [] []
          by None size = size
          by (Some m) size = (
            0,
            size,
            begins c.composer.collections 0 c.sizes.items
                (ap (λ (k : EventComposer). k.collections.is_within) made),
            tt,
          )
