-- A run over a parser's events is, within each document, one that loses nothing.
use Rattle.std.proofs.Common.{◌≡◌, ◌∷◌, ◌++◌, ◌∙◌, ℕ, List, [], Bool, false, true, refl, sym, ap, subst, append_assoc, arith}
use Rattle.libyaml_types.specs.Types.{event_type}
use Rattle.libyaml_types.specs.declared.event.unnamed_yaml_event_t_data.TheVariants as ev
use Rattle.libyaml_types.specs.declared.event.unnamed_yaml_event_t_data_document_start.{unnamed_yaml_event_t_data_document_start}
use Rattle.libyaml_grammar.specs.grammar.Events.{Event, document_end_at, event, stream_end_at, stream_start_at}
use Rattle.libyaml_grammar.specs.grammar.Nesting.{DocumentTexts, HasPairs, IsNested, TextsHavePairs, Value, no_texts, text_after, texts_events, value_events}
use Rattle.libyaml_grammar.specs.grammar.Tokens.{Mark, StreamHead}
use Rattle.libyaml_grammar.proofs.exported.Injectivity.{head_same, not_cons, tail_same}
use Rattle.libyaml_graphs.specs.graphs.GraphParts.{Opening}
use Rattle.libyaml_composer.specs.declared.deed.Deed.TheVariants as deed
use Rattle.libyaml_composer.specs.declared.deed.Deed.{Deed}
use Rattle.libyaml_composer.specs.declared.records.place_t.{place_t}
use Rattle.libyaml_composer.specs.Composing.{Composer, Told, composer_step, is_start, step_in, within_step}
use Rattle.libyaml_composer.specs.DocumentSoFar.{DocumentSoFar, applied, event_fact}
use Rattle.document_sizes.specs.declared.counted.Counted.TheVariants as counted
use Rattle.document_sizes.specs.Counting.{Count, bound_of, count_of, counting}
use Rattle.document_sizes.specs.ParserRuns.{CountsEvent, TakesEvent, StreamRun}
use Rattle.document_sizes.specs.ParserRuns as stream
use Rattle.document_sizes.specs.Runs.{CountRun, Counts, LosesNothing, document_begun}
use Rattle.document_sizes.specs.Runs as run
use Rattle.document_sizes.proofs.LeftValues.{Going, Inside, Stepped, due, ends, goes, stepped}

-- documents, the first one first
pub data Docs : Type 0 where
  no_docs : Docs
  first_doc : unnamed_yaml_event_t_data_document_start → Mark → Mark → Value → Bool → Mark → Mark → Docs → Docs

abbrev pub docs_events : Docs → List Event → List Event
docs_events no_docs r = r
docs_events (first_doc d m n v i p q ds) r = event (ev.DocumentStart d) m n ∷ value_events v
    (document_end_at i p q ∷ docs_events ds r)

abbrev pub DocsHavePairs : Docs → Type 0
DocsHavePairs no_docs = Unit {0}
DocsHavePairs (first_doc d m n v i p q ds) = HasPairs v × DocsHavePairs ds

abbrev before : DocumentTexts → Docs → Docs
before no_texts ds = ds
before (text_after ts d m n v i p q) ds = before ts (first_doc d m n v i p q ds)

in_turn : (ts : DocumentTexts) (ds : Docs) (r : List Event) → TextsHavePairs ts → DocsHavePairs ds
    → (texts_events ts (docs_events ds r) ≡ docs_events (before ts ds) r) × DocsHavePairs (before ts ds)
in_turn no_texts ds r h k = (refl, k)
in_turn (text_after ts d m n v i p q) ds r h k = in_turn ts (first_doc d m n v i p q ds) r h.0 (h.1, k)

-- what is left of a stream after its start
pub record Further (rest : List Event) : Type 0 where
  pub docs : Docs
  pub end : Mark
  pub end_end : Mark
  pub all : rest ≡ docs_events docs (stream_end_at end end_end ∷ [])
  pub pairs : DocsHavePairs docs

-- and after a document's value
pub record Beyond (tail : List Event) : Type 0 where
  pub is_implicit : Bool
  pub mark : Mark
  pub mark_end : Mark
  pub others : List Event
  pub all : tail ≡ document_end_at is_implicit mark mark_end ∷ others
  pub further : Further others

-- where a caller stands that counted all events but these
pub data Stands (max : ℕ) (c : Composer) (h : DocumentSoFar) (total : ℕ) (sizes : List ℕ) (rest : List Event) : Type 0 where
  at_start : c.is_within ≡ false → (head : StreamHead) (m n : Mark) (others : List Event)
      → rest ≡ stream_start_at head m n ∷ others → Further others → Stands max c h total sizes rest
  between : c.is_within ≡ false → Further rest → Stands max c h total sizes rest
  over : c.is_within ≡ false → rest ≡ [] → Stands max c h total sizes rest
  within : c.is_within ≡ true → (tail : List Event) → Beyond tail → Inside tail c.nodes c.stack rest → CountRun max c h total sizes
      → Stands max c h total sizes rest

-- at an event: the composer stays outside a document, begins or ends one, or takes a part of it and loses nothing
pub data Does (max : ℕ) (c : Composer) (h : DocumentSoFar) (total : ℕ) (sizes : List ℕ) (e : Event) (rest : List Event) (t : Told)
    : Type 0 where
  stays : t.deed ≡ deed.Passes → t.composer ≡ c → Stands max c h total sizes rest → Does max c h total sizes e rest t
  opens : (o : Opening) → t.deed ≡ deed.Begins → t.composer ≡ record c { is_within = true; nodes = 0; stack = [] }
      → applied deed.Begins t.place e h ≡ document_begun o
      → (tail : List Event) → Beyond tail → Inside tail 0 [] rest → Does max c h total sizes e rest t
  closes : t.deed ≡ deed.Ends → t.composer ≡ record c { is_within = false } → c.stack ≡ [] → CountRun max c h total sizes
      → Further rest → Does max c h total sizes e rest t
  parts : c.is_within ≡ true → (tail : List Event) → Beyond tail → Going tail c rest t → CountRun max c h total sizes
      → Does max c h total sizes e rest t

module _ (max : ℕ) (c : Composer) (h : DocumentSoFar) (total : ℕ) (sizes : List ℕ) (e : Event) (rest : List Event) (p : place_t) where
  abbrev step : Told
  step = composer_step (event_type e.content) (event_fact h e) p c

  abbrev Did : Told → Type 0
  Did t = Does max c h total sizes e rest t

  -- outside a document, at an event of this kind
  outside : c.is_within ≡ false → (x : Event) → e ≡ x → step ≡ step_in false (event_type x.content) (event_fact h e) p c
  outside is x same = grind arith

  at_docs : c.is_within ≡ false → (ds : Docs) (m n : Mark) → DocsHavePairs ds
      → e ∷ rest ≡ docs_events ds (stream_end_at m n ∷ []) → Did step
  at_docs is no_docs m n pairs all = subst Did (sym (outside is (stream_end_at m n) (head_same e (stream_end_at m n) rest [] all)))
      (stays refl refl (over is (tail_same e (stream_end_at m n) rest [] all)))
  at_docs is (first_doc d a b v i x y ds) m n pairs all =
      let others = docs_events ds (stream_end_at m n ∷ []) in
      let tail = document_end_at i x y ∷ others in
      let first = head_same e (event (ev.DocumentStart d) a b) rest (value_events v tail) all in
      subst Did (sym (outside is (event (ev.DocumentStart d) a b) first))
      (opens (record { start = d; mark = a }) refl refl
      (ap (λ (z : Event). applied deed.Begins p z h) first) tail
      (record {
        is_implicit = i;
        mark = x;
        mark_end = y;
        others = others;
        all = refl;
        further = record { docs = ds; end = m; end_end = n; all = refl; pairs = pairs.1 };
      })
      (due refl refl v pairs.0 (tail_same e (event (ev.DocumentStart d) a b) rest (value_events v tail) all)))

  at_part : c.is_within ≡ true → (tail : List Event) → Beyond tail → Inside tail c.nodes c.stack (e ∷ rest)
      → CountRun max c h total sizes → TakesEvent step.deed → Did step
  at_part is tail beyond inside r taken =
      subst Did (sym same) (by (stepped tail c (event_fact h e) p c.stack e rest inside (subst (λ (t : Told). TakesEvent t.deed) same taken)))
    where
      same : step ≡ within_step (event_type e.content) (event_fact h e) p c
      same = ap (λ (b : Bool). step_in b (event_type e.content) (event_fact h e) p c) is

      ended : Event
      ended = document_end_at beyond.is_implicit beyond.mark beyond.mark_end

      by : Stepped tail c (event_fact h e) p c.stack e rest → Did (within_step (event_type e.content) (event_fact h e) p c)
      by (goes g) = parts is tail beyond g r
      by (ends none all) =
          let both : e ∷ rest ≡ ended ∷ beyond.others = all ∙ beyond.all in
          subst (λ (x : Event). Did (within_step (event_type x.content) (event_fact h e) p c))
          (sym (head_same e ended rest beyond.others both))
          (closes refl refl none r (subst Further (sym (tail_same e ended rest beyond.others both)) beyond.further))

  does : Stands max c h total sizes (e ∷ rest) → TakesEvent step.deed → Did step
  does (at_start is head m n others all further) taken
      = subst Did (sym (outside is (stream_start_at head m n) (head_same e (stream_start_at head m n) rest others all)))
      (stays refl refl (between is (subst Further (sym (tail_same e (stream_start_at head m n) rest others all)) further)))
  does (between is further) taken = at_docs is further.docs further.end further.end_end further.pairs further.all
  does (over is none) taken = absurd (not_cons e rest (sym none))
  does (within is tail beyond inside r) taken = at_part is tail beyond inside r taken

-- an event that was counted
module _ (max : ℕ) (c : Composer) (h : DocumentSoFar) (total : ℕ) (sizes : List ℕ) (e : Event) (rest : List Event) (t : Told) where
  pub did : (n : Count) → CountsEvent max c h total sizes e t n → Stands max c h total sizes (e ∷ rest) → Does max c h total sizes e rest t
  did n k s = subst (Does max c h total sizes e rest) (sym k.composed)
      (does max c h total sizes e rest k.place s (subst (λ (x : Told). TakesEvent x.deed) k.composed k.taken))

  pub counts : (n : Count) → CountsEvent max c h total sizes e t n → (tail : List Event) → Going tail c rest t
      → Counts max c h total sizes e t n
  counts n k tail g = record { place = k.place; composed = k.composed; part = g.part; all = g.all; counted = k.counted }

  -- what is counted at these deeds
  pub same_count : (n : Count) → CountsEvent max c h total sizes e t n → (d : Deed) → t.deed ≡ d
      → n ≡ counting (bound_of max) d (is_start (event_type e.content)) t.place total sizes
  same_count n k d is = k.counted ∙ ap (λ (x : Deed). counting (bound_of max) x (is_start (event_type e.content)) t.place total sizes) is

  further : (total' : ℕ) (sizes' : List ℕ) → CountsEvent max c h total sizes e t (count_of counted.Within total' sizes')
      → Does max c h total sizes e rest t → Stands max t.composer (applied t.deed t.place e h) total' sizes' rest
  further total' sizes' k (stays is same s) =
      let f = same_count (count_of counted.Within total' sizes') k deed.Passes is in
      subst (λ (x : Deed). Stands max t.composer (applied x t.place e h) total' sizes' rest) (sym is)
      (subst (λ (x : Composer). Stands max x h total' sizes' rest) (sym same)
      (subst (λ (x : Count). Stands max c h x.total x.sizes rest) (sym f) s))
  further total' sizes' k (opens o is same begun tail beyond inside) =
      let f = same_count (count_of counted.Within total' sizes') k deed.Begins is in
      subst (λ (x : Deed). Stands max t.composer (applied x t.place e h) total' sizes' rest) (sym is)
      (subst (λ (x : Composer). Stands max x (applied deed.Begins t.place e h) total' sizes' rest) (sym same)
      (subst (λ (x : DocumentSoFar). Stands max (record c { is_within = true; nodes = 0; stack = [] }) x total' sizes' rest) (sym begun)
      (subst (λ (x : Count). Stands max (record c { is_within = true; nodes = 0; stack = [] }) (document_begun o) x.total x.sizes rest) (sym f)
      (within refl tail beyond inside (run.begins c o sizes)))))
  further total' sizes' k (closes is same none r beyond) =
      subst (λ (x : Composer). Stands max x (applied t.deed t.place e h) total' sizes' rest) (sym same) (between refl beyond)
  further total' sizes' k (parts is tail beyond g r)
      = within (g.within ∙ is) tail beyond g.inside (run.takes c h total total' sizes sizes' e t r
      (counts (count_of counted.Within total' sizes') k tail g))

pub stands : (max : ℕ) (c : Composer) (h : DocumentSoFar) (total : ℕ) (sizes : List ℕ) (es : List Event) → StreamRun max c h total sizes es
    → (rest : List Event) → IsNested (es ++ rest) → Stands max c h total sizes rest
stands max c h total sizes es (stream.begins c' total' sizes' is) rest n =
    let (all, pairs) = in_turn n.texts no_docs (stream_end_at n.end n.end_end ∷ []) n.pairs tt in
    at_start is n.head n.start n.start_end (texts_events n.texts (stream_end_at n.end n.end_end ∷ [])) n.all (record {
      docs = before n.texts no_docs;
      end = n.end;
      end_end = n.end_end;
      all = all;
      pairs = pairs;
    })
stands max c h total sizes es (stream.moves c' h' total' room sizes' more es' r) rest n = go (stands max c' h' total' sizes' es' r rest n)
  where
    go : Stands max c' h' total' sizes' rest → Stands max (record c' { room = room }) h' total' (sizes' ++ more) rest
    go (at_start is head m n others all further) = at_start is head m n others all further
    go (between is further) = between is further
    go (over is none) = over is none
    go (within is tail beyond inside k) = within is tail beyond inside (run.moves c' h' total' room sizes' more k)
stands max c h total sizes es (stream.takes c' h' total' total'' sizes' sizes'' es' e t r k) rest n =
    further max c' h' total' sizes' e rest t total'' sizes'' k
    (did max c' h' total' sizes' e rest t (count_of counted.Within total'' sizes'') k
    (stands max c' h' total' sizes' es' r (e ∷ rest) (subst IsNested (append_assoc es' (e ∷ []) rest) n)))
