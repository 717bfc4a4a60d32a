-- Whatever events come, a document that becomes whole holds first what its nodes hold now.
use Rattle.std.proofs.Common.{◌≡◌, ◌∷◌, ◌++◌, ◌∙◌, ℕ, suc, ℤ, pos, List, [], length, nat_le, Option, Some, None, Ok, Err, Bool, true, refl, sym, ap, subst, arith, append-nil, append_assoc}
use Rattle.libyaml_types.specs.Fault.{Fault}
use Rattle.libyaml_types.specs.Types.{event_type}
use Rattle.libyaml_types.specs.declared.event.unnamed_yaml_event_t_data.{unnamed_yaml_event_t_data}
use Rattle.libyaml_grammar.specs.grammar.Events.{Event, document_end_at}
use Rattle.libyaml_grammar.specs.grammar.Nesting.{IsNested}
use Rattle.libyaml_grammar.specs.grammar.Tokens.{Mark}
use Rattle.libyaml_grammar.specs.runs.Runs.{Ending, Ends, Fails}
use Rattle.libyaml_grammar.proofs.exported.Injectivity.{head_same}
use Rattle.libyaml_documents.specs.Documents.{Document}
use Rattle.libyaml_documents.specs.declared.node.yaml_node_t.{yaml_node_t}
use Rattle.libyaml_graphs.specs.graphs.GraphParts.{Closing, Opening, closing_in, closing_of, part_of}
use Rattle.libyaml_graphs.specs.loads.Bounds.{bounded_loads}
use Rattle.libyaml_graphs.specs.loads.Leads.{loads_from, whole_then}
use Rattle.libyaml_graphs.specs.loads.Loads.{Load, after_document, document, end_of_document, last_load}
use Rattle.libyaml_graphs.specs.machine.Loader.{Loader, Loading, State, bounded_option, failed, going, if_going, load_from, within}
use Rattle.libyaml_graphs.proofs.exported.LoaderSteps.{nothing_left, within_event}
use Rattle.libyaml_composer.specs.declared.deed.Deed.{Deed}
use Rattle.libyaml_composer.specs.declared.deed.Deed.TheVariants as deed
use Rattle.libyaml_composer.specs.declared.records.open_t.{open_t}
use Rattle.libyaml_composer.specs.declared.records.place_t.{place_t}
use Rattle.libyaml_composer.specs.Composing.{Composer, Told, composer_step, is_start, step_in, within_step}
use Rattle.libyaml_composer.specs.DocumentSoFar.{DocumentSoFar, IsRefused, applied, applied_part, event_fact, loader_by, state_in}
use Rattle.libyaml_composer.specs.Represents.{IsPart, Represents}
use Rattle.libyaml_composer.proofs.exported.Deeds.{represents_roomy}
use Rattle.libyaml_composer.proofs.exported.Follows.{Goes, fails_so, goes_on}
use Rattle.libyaml_composer.proofs.exported.Reasons.{full_starts}
use Rattle.yaml_expansion.specs.Expansion.{ids_at}
use Rattle.document_sizes.specs.Counting.{Count}
use Rattle.document_sizes.specs.ParserLaws.{WholeContinues}
use Rattle.document_sizes.specs.ParserRuns.{TakesEvent}
use Rattle.document_sizes.specs.RunLaws.{Continues}
use Rattle.document_sizes.proofs.Continuing.{before}
use Rattle.document_sizes.proofs.LeftValues.{Going, Inside, Stepped, ends, goes, stepped}
use Rattle.document_sizes.proofs.NestedEvents as nested
use Rattle.document_sizes.proofs.ParserRunning.{Beyond, Does, closes, counts, did, opens, parts, same_count, stands, stays}
use Rattle.document_sizes.proofs.Running.{represented, standing}
use Rattle.document_sizes.proofs.Views.{view}

-- the nodes of a document that was loaded
abbrev nodes_in : Load → List yaml_node_t
nodes_in (Ok d) = d.nodes
nodes_in (Err f) = []

no_document : (x : Ending) → nodes_in (last_load x) ≡ []
no_document Ends = refl
no_document (Fails f) = refl

same_nodes : (nodes : List yaml_node_t) → Continues nodes [] nodes
same_nodes nodes = record { count = omega arith; holds = λ id. ([], sym (append-nil (ids_at nodes id))); holds_keys = tt }

takes_part : (d : Deed) → IsPart d → TakesEvent d
takes_part d part = grind arith

-- the document's end within it
ends_it : (k : unnamed_yaml_event_t_data) (m : Mark) (y : Closing) (f : ℤ) (p : place_t) (c : Composer) → closing_in k m ≡ Some y
    → (within_step (event_type k) f p c).deed ≡ deed.Ends
ends_it k m y f p c is = grind arith

more_room : (n : ℕ) → nat_le (suc n) n ≡ true → ⊥
more_room n e = grind arith

module _ (tail : List Event) (beyond : Beyond tail) (most : ℕ) (y : Ending) (d : Document) (root : d.nodes ≡ [] → ⊥) where
  abbrev Whole : Load → Type 0
  Whole a = a ≡ Ok d

  no_root : (a : Load) → nodes_in a ≡ [] → Whole a → ⊥
  no_root a none is = root (sym (ap nodes_in is) ∙ none)

  abbrev bare : place_t
  bare = record { node = pos 0; child = pos 0; parent = pos 0; key = pos 0 }

  -- an event of the document
  module _ (c : Composer) (h : DocumentSoFar) (o : Opening) (same : c.most ≡ most) (is_here : Represents c h o) (x : Event) (r rest : List Event)
      (inside : Inside tail c.nodes c.stack (x ∷ r ++ rest)) where
    -- with room for one collection more
    abbrev roomy : Composer
    roomy = record c { room = suc (length c.stack) }

    abbrev step : Told
    step = composer_step (event_type x.content) (event_fact h x) bare roomy

    abbrev inner : Told
    inner = within_step (event_type x.content) (event_fact h x) bare roomy

    step_is : inner ≡ step
    step_is = ap (λ (b : Bool). step_in b (event_type x.content) (event_fact h x) bare roomy) (sym is_here.is_within)

    -- its end
    none_open : (k : Closing) → closing_of x ≡ Some k → c.stack ≡ []
    none_open k is = by (stepped tail roomy (event_fact h x) bare c.stack x (r ++ rest) inside (subst TakesEvent (sym ended) tt))
      where
        ended : inner.deed ≡ deed.Ends
        ended = ends_it x.content x.end_mark k (event_fact h x) bare roomy is

        by : Stepped tail roomy (event_fact h x) bare c.stack x (r ++ rest) → c.stack ≡ []
        by (goes g) = absurd (subst IsPart ended g.part)
        by (ends none all) = none

    -- any other event, which the machine takes
    module _ (without : closing_of x ≡ None) (l : Loader) (goes_there : bounded_option c.most (loader_by c h) (part_of x) ≡ going l) where
      sound : IsRefused step.deed → ⊥
      sound refused = let f = sym goes_there ∙ fails_so c h o is_here x without bare (suc (length c.stack)) step refl refused in absurd cc

      has_room : step.deed ≡ deed.FullStack → ⊥
      has_room full = more_room (length c.stack) (full_starts (event_type x.content) (event_fact h x) bare roomy full).1

      abbrev Gone : Type 0
      Gone = Goes c.most o h c.stack (part_of x) x.end_mark (bounded_option c.most (loader_by c h) (part_of x)) step

      gone : Gone
      gone = goes_on c h o is_here x without bare (suc (length c.stack)) step refl sound has_room

      not_tail : x ∷ r ++ rest ≡ tail → ⊥
      not_tail all =
          let first = head_same x (document_end_at beyond.is_implicit beyond.mark beyond.mark_end) (r ++ rest) beyond.others (all ∙ beyond.all) in
          let e : closing_of x ≡ closing_of (document_end_at beyond.is_implicit beyond.mark beyond.mark_end)
          = ap (λ (z : Event). closing_of z) first in
          absurd cc

      going_on : Going tail roomy (r ++ rest) step
      going_on = by (stepped tail roomy (event_fact h x) bare c.stack x (r ++ rest) inside
          (takes_part inner.deed (subst (λ (t : Told). IsPart t.deed) (sym step_is) gone.part)))
        where
          by : Stepped tail roomy (event_fact h x) bare c.stack x (r ++ rest) → Going tail roomy (r ++ rest) step
          by (goes g) = subst (Going tail roomy (r ++ rest)) step_is g
          by (ends none all) = absurd (not_tail all)

      there : bounded_option c.most (loader_by c h) (part_of x) ≡ going (loader_by step.composer (applied_part step.deed step.place (part_of x) x.end_mark h))
      there = gone.leads

      back : Continues (applied_part step.deed step.place (part_of x) x.end_mark h).nodes step.composer.stack d.nodes
          → Continues h.nodes c.stack d.nodes
      back = before d.nodes roomy h o (represents_roomy c h o (suc (length c.stack)) is_here) (part_of x) (is_start (event_type x.content)) x.end_mark
          step (view roomy h o (represents_roomy c h o (suc (length c.stack)) is_here) bare x gone.part) going_on.all

  abbrev ContinuesBy : Opening → (any rest : List Event) → Type 0
  ContinuesBy o any rest = (c : Composer) (h : DocumentSoFar) → c.most ≡ most → Represents c h o → Inside tail c.nodes c.stack (any ++ rest)
      → Whole (load_from most (within o (loader_by c h)) any y) → Continues h.nodes c.stack d.nodes

  whole_continues : (any rest : List Event) (o : Opening) → ContinuesBy o any rest
  whole_continues [] rest o c h same is_here inside whole =
      absurd (no_root (last_load y) (no_document y) (sym (nothing_left most (within o (loader_by c h)) y) ∙ whole))
  whole_continues (x ∷ r) rest o c h same is_here inside whole = by (closing_of x) refl (whole_continues r rest o)
    where
      by : (z : Option Closing) → closing_of x ≡ z → ContinuesBy o r rest → Continues h.nodes c.stack d.nodes
      by (Some k) is later =
          let e : Ok (document o h.nodes k) ≡ Ok d
          = ap (λ (z : Option Closing). within_event most o (loader_by c h) r y z (part_of x)) (sym is) ∙ whole in
          subst (λ (s : List open_t). Continues h.nodes s d.nodes) (sym (none_open c h o same is_here x r rest inside k is))
          (subst (Continues h.nodes []) (ap nodes_in e) (same_nodes h.nodes))
      by None is later = go (bounded_option c.most (loader_by c h) (part_of x)) refl
        where
          next : (b : Loading) → bounded_option c.most (loader_by c h) (part_of x) ≡ b
              → within_event most o (loader_by c h) r y None (part_of x)
              ≡ if_going (λ (f : Fault). Err f) b (λ (l : Loader). load_from most (within o l) r y)
          next b e = ap (λ (u : Loading). if_going (λ (f : Fault). Err f) u (λ (l : Loader). load_from most (within o l) r y))
              (subst (λ (n : ℕ). bounded_option n (loader_by c h) (part_of x) ≡ b) same e)

          told_so : within_event most o (loader_by c h) r y None (part_of x) ≡ Ok d
          told_so = ap (λ (z : Option Closing). within_event most o (loader_by c h) r y z (part_of x)) (sym is) ∙ whole

          go : (b : Loading) → bounded_option c.most (loader_by c h) (part_of x) ≡ b → Continues h.nodes c.stack d.nodes
          go (failed f) e = absurd (no_root (Err f) refl (sym (next (failed f) e) ∙ told_so))
          go (going l) e =
              let t = step c h o same is_here x r rest inside in
              let g = gone c h o same is_here x r rest inside is l e in
              let n = going_on c h o same is_here x r rest inside is l e in
              let h' = applied_part t.deed t.place (part_of x) x.end_mark h in
              back c h o same is_here x r rest inside is l e
              (later t.composer h' (g.bound ∙ same) g.stands n.inside
              (sym (next (going (loader_by t.composer h')) g.leads) ∙ told_so))

abbrev first_load : Load → List Load → Load
first_load a [] = a
first_load a (b ∷ l) = b

first_is : (c : Option Closing) (a : Load) (l : List Load) (d : Document) (more : List Load) → whole_then c a l ≡ Ok d ∷ more → a ≡ Ok d
first_is c a l d more e = same c a ∙ ap (first_load a) e
  where
    same : (c : Option Closing) (a : Load) → a ≡ first_load a (whole_then c a l)
    same c (Err f) = refl
    same None (Ok d) = refl
    same (Some c) (Ok d) = refl

pub goes_on_whole : WholeContinues
goes_on_whole max c h total sizes es e t n run k out later nests y d more loads root =
    let (rest, all) = nested.goes_on e.start_mark (es ++ e ∷ later) nests in
    by rest (did max c h total sizes e (later ++ rest) t n k
    (stands max c h total sizes es run (e ∷ (later ++ rest)) (subst IsNested (append_assoc es (e ∷ later) rest) all)))
  where
    inner : (o : Opening) → Represents t.composer (applied t.deed t.place e h) o
        → load_from t.composer.most (within o (loader_by t.composer (applied t.deed t.place e h))) later y ≡ Ok d
    inner o there = first_is (end_of_document later) _ (bounded_loads t.composer.most (after_document later) y) d more
        (ap (λ (s : State). loads_from t.composer.most s later y)
        (sym (ap (λ (b : Bool). state_in b (applied t.deed t.place e h).opening (loader_by t.composer (applied t.deed t.place e h))) there.is_within
        ∙ ap (λ (q : Option Opening). state_in true q (loader_by t.composer (applied t.deed t.place e h))) there.opening)) ∙ loads)

    by : (rest : List Event) → Does max c h total sizes e (later ++ rest) t
        → Continues (applied t.deed t.place e h).nodes t.composer.stack d.nodes
    by rest (stays is same s) = absurd (out (ap (λ (x : Count). x.answer) (same_count max c h total sizes e (later ++ rest) t n k deed.Passes is)))
    by rest (opens o is same begun tail beyond inside)
        = absurd (out (ap (λ (x : Count). x.answer) (same_count max c h total sizes e (later ++ rest) t n k deed.Begins is)))
    by rest (closes is same none r beyond)
        = absurd (out (ap (λ (x : Count). x.answer) (same_count max c h total sizes e (later ++ rest) t n k deed.Ends is)))
    by rest (parts is tail beyond g r) =
        let s = standing max c h total sizes r in
        let there = represented max c h total sizes s e t n (counts max c h total sizes e (later ++ rest) t n k tail g) in
        whole_continues tail beyond t.composer.most y d root later rest s.opening t.composer (applied t.deed t.place e h) refl there
        g.inside (inner s.opening there)
