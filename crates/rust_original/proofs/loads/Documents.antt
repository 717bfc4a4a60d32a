-- The original's loader over the events of a document.
use Rattle.std.proofs.Common.{◌≡◌, ◌∷◌, ◌++◌, ℕ, List, [], length, nat_lt, Option, Some, Bool, true, false, Ok, Err, refl, sym, ap, ◌∙◌, arith}
use Rattle.libyaml_types.specs.declared.event.unnamed_yaml_event_t_data.{unnamed_yaml_event_t_data}
use Rattle.libyaml_types.specs.declared.event.unnamed_yaml_event_t_data.TheVariants as ev
use Rattle.libyaml_types.specs.Fault.{Fault}
use Rattle.libyaml_grammar.specs.runs.Runs.{Ending}
use Rattle.libyaml_grammar.specs.grammar.Events.{Event, event}
use Rattle.libyaml_grammar.specs.grammar.Tokens.{Mark}
use Rattle.libyaml_graphs.specs.graphs.ComposerFaults.{composer_part_fault}
use Rattle.libyaml_documents.specs.LoadedNodes.{mapping_loaded, scalar_loaded, sequence_loaded}
use Rattle.libyaml_graphs.specs.graphs.GraphParts.{Opening, Part, alias_part, following, end_part, leaf_part, part_in, parts, start_part}
use Rattle.libyaml_graphs.specs.graphs.Graphs.{Start}
use Rattle.libyaml_graphs.specs.machine.Loader.{no_anchors}
use Rattle.libyaml_graphs.specs.loads.Loads.{Load, after_document, document, end_of_document, last_load, load_then}
use Rattle.libyaml_graphs.specs.loads.Bounds.{first_stop, if_above, if_wrong, list_sizes, one_above}
use Rattle.libyaml_graphs.proofs.exported.BoundedLoader.{Within, all_begin_more, held_so_far, reaches}
use Rattle.libyaml_graphs.proofs.exported.Building.{graph_sizes, list_grows, sizes, build_stands, BeginsEmpty, Built, Held, build}
use Rattle.libyaml_graphs.proofs.exported.Building as built
use Rattle.rust_original.specs.loader.Loader as orig_loader
use Rattle.rust_original.specs.loader.Loader.{FAIL, LoaderResult, OK, yaml_alias_data_t}
use Rattle.rust_original.proofs.loads.Halves.{AllSound, halves}
use Rattle.rust_original.proofs.loads.Steps.{Agrees, Follows, event_follows, halves_length, load_event, there}
use Rattle.rust_original.proofs.loads.Bound.{event_limited, full_there, guarded, not_less, over_there, part_full}

-- the events of a document, from one on
module _ (n : ℕ) (o : Opening) (x : Ending) where
  abbrev loaded_there : List Event → orig_loader.OriginalLoader → List Load
  loaded_there r l = orig_loader.original_loads_from n (orig_loader.within o l) r x

  abbrev Same : List Event → Type 0
  Same r = (es : List Start) (F : List Part) (b : Built) (xs : List yaml_alias_data_t) → Within n es F b → Agrees es xs
      → AllSound b.held → loaded_there r (there xs b) ≡ load_then (first_stop n es F (parts r)) (end_of_document r) o
      (halves (built.finished es (parts r) b)) (last_load x)
      (orig_loader.original_loads_from n orig_loader.between (after_document r) x)

  module _ (r : List Event) (ih : Same r) (p : Part) (e : BeginsEmpty p) (es : List Start) (F : List Part) (b : Built)
      (s : Within n es F b) (h : AllSound b.held) where
    abbrev ends_as : Bool → Option Fault → Bool → List Load
    ends_as c w d
        = load_then (if_above c (if_wrong w (if_above d (first_stop n (following p es) (F ++ p ∷ []) (parts r)))))
        (end_of_document r) o
        (halves (built.finished es (p ∷ parts r) b)) (last_load x)
        (orig_loader.original_loads_from n orig_loader.between (after_document r) x)

    over_is : (q : Part) → over_there n q b ≡ nat_lt n (length (following q es))
    over_is q = grind (arith, not_less, halves_length, s.few, s.stands.size)

    grown : full_there n p b ≡ one_above n (sizes (build es p b).held)
    grown = part_full n p b h ∙ sym (list_grows p n es b no_anchors e s.stands.there s.short)

    full_is : full_there n p b ≡ one_above n (list_sizes [] (F ++ p ∷ []))
    full_is = grown ∙ (ap (λ (hs : List Held). one_above n (sizes hs))
        (held_so_far (following p es) (F ++ p ∷ []) (build es p b) (reaches p es F b e s.stands s.reached))
        ∙ graph_sizes (F ++ p ∷ []) [] n (all_begin_more F p s.all_begin e))

    part_same : (c : Bool) → c ≡ nat_lt n (length (following p es)) → (d : Bool) → full_there n p b ≡ d → (y : LoaderResult)
        → Follows y (composer_part_fault es p) (following p es) (build es p b)
        → ◌≡◌ {A = List Load} (elim (guarded c d y) [ FAIL f ↦ Err f ∷ [] | OK m ↦ loaded_there r m ])
        (ends_as c (composer_part_fault es p) d)
    part_same true i d j y w = refl
    part_same false i d j (FAIL f) w = ap (λ (v : Option Fault). ends_as false v d) (sym w)
    part_same false i true j (OK m) w = ap (λ (v : Option Fault). ends_as false v true) (sym w.0)
    part_same false i false j (OK m) (w, (xs, k, g, t)) =
        ap (loaded_there r) k
        ∙ (ih (following p es) (F ++ p ∷ []) (build es p b) xs (record {
          stands = build_stands p es b s.stands;
          few = sym i;
          short = sym grown ∙ j;
          reached = reaches p es F b e s.stands s.reached;
          all_begin = all_begin_more F p s.all_begin e;
        }) g t
        ∙ (ap (λ (hs : List Held). load_then (first_stop n (following p es) (F ++ p ∷ []) (parts r)) (end_of_document r) o
        (halves hs) (last_load x)
        (orig_loader.original_loads_from n orig_loader.between (after_document r) x)) (built.build_finished p es (parts r) b e s.stands.there)
        ∙ ap (λ (v : Option Fault). ends_as false v false) (sym w)))

    event_ends : (y : LoaderResult) → Follows y (composer_part_fault es p) (following p es) (build es p b)
        → ◌≡◌ {A = List Load}
        (elim (guarded (over_there n p b) (full_there n p b) y) [ FAIL f ↦ Err f ∷ [] | OK m ↦ loaded_there r m ])
        (ends_as (nat_lt n (length (following p es))) (composer_part_fault es p) (one_above n (list_sizes [] (F ++ p ∷ []))))
    event_ends y w = grind (arith, part_same, over_is, full_is)

  limited_same : (k : unnamed_yaml_event_t_data) (m m' : Mark) (r : List Event) → Same r → (p : Part)
      → part_in k m m' ≡ Some p → BeginsEmpty p
      → (es : List Start) (F : List Part) (b : Built) (xs : List yaml_alias_data_t) → (s : Within n es F b)
      → AllSound b.held
      → Follows (load_event (there xs b) (event k m m')) (composer_part_fault es p) (following p es) (build es p b)
      → ◌≡◌ {A = List Load}
      (elim (orig_loader.load_event n (there xs b) (event k m m')) [ FAIL f ↦ Err f ∷ [] | OK l ↦ loaded_there r l ])
      (load_then (first_stop n es F (p ∷ parts r)) (end_of_document r) o (halves (built.finished es (p ∷ parts r) b))
      (last_load x)
      (orig_loader.original_loads_from n orig_loader.between (after_document r) x))
  limited_same k m m' r ih p i e es F b xs s h w = grind (arith, event_limited, event_ends)

  event_same : (k : unnamed_yaml_event_t_data) (m m' : Mark) (r : List Event) → Same r → Same (event k m m' ∷ r)
  event_same (ev.DocumentEnd d) m m' r ih es F b xs s g h
      = ap (λ (hs : List Held). Ok (document o (halves hs) (record { is_implicit = d.implicit; mark = m' }))
      ∷ orig_loader.original_loads_from n orig_loader.between r x) (sym (built.finished_none es b))
  event_same (ev.Alias a) m m' r ih es F b xs s g h
      = limited_same (ev.Alias a) m m' r ih (alias_part a.anchor m) refl tt es F b xs s h
      (event_follows (ev.Alias a) m m' es b xs s.stands.size g h)
  event_same (ev.Scalar a) m m' r ih es F b xs s g h
      = limited_same (ev.Scalar a) m m' r ih (leaf_part a.anchor (scalar_loaded a m m')) refl refl es F b xs s h
      (event_follows (ev.Scalar a) m m' es b xs s.stands.size g h)
  event_same (ev.SequenceStart a) m m' r ih es F b xs s g h
      = limited_same (ev.SequenceStart a) m m' r ih (start_part a.anchor (sequence_loaded a.tag a.style [] m m')) refl
      refl es F b xs s h
      (event_follows (ev.SequenceStart a) m m' es b xs s.stands.size g h)
  event_same (ev.MappingStart a) m m' r ih es F b xs s g h
      = limited_same (ev.MappingStart a) m m' r ih (start_part a.anchor (mapping_loaded a.tag a.style [] m m')) refl
      refl es F b xs s h
      (event_follows (ev.MappingStart a) m m' es b xs s.stands.size g h)
  event_same ev.SequenceEnd m m' r ih es F b xs s g h
      = limited_same ev.SequenceEnd m m' r ih (end_part m') refl tt es F b xs s h
      (event_follows ev.SequenceEnd m m' es b xs s.stands.size g h)
  event_same ev.MappingEnd m m' r ih es F b xs s g h
      = limited_same ev.MappingEnd m m' r ih (end_part m') refl tt es F b xs s h
      (event_follows ev.MappingEnd m m' es b xs s.stands.size g h)
  event_same _ m m' r ih es F b xs s g h = ih es F b xs s g h

  pub document_same : (r : List Event) → Same r
  document_same [] es F b xs s g h = grind arith
  document_same (e ∷ r) es F b xs s g h
      = event_same e.content e.start_mark e.end_mark r (document_same r) es F b xs s g h
