-- What an event does to the original's loader, without the bound.
use Rattle.std.specs.Prelude.{bytes_eq}
use Rattle.std.proofs.Common.{◌≡◌, ◌∷◌, ◌++◌, ℕ, suc, List, [], length, Option, Some, None, Bool, true, false, refl, ap, ◌∙◌, codes, if◌then◌else◌, cond, arith}
use Rattle.std.specs.Cmp.Lexicographic as lex
use Rattle.libyaml_types.specs.declared.event.unnamed_yaml_event_t_data.{unnamed_yaml_event_t_data}
use Rattle.libyaml_types.specs.declared.event.unnamed_yaml_event_t_data.TheVariants as ev
use Rattle.libyaml_documents.specs.declared.node.yaml_node_t.{yaml_node_t}
use Rattle.libyaml_types.specs.Fault.{Fault}
use Rattle.libyaml_grammar.specs.grammar.Events.{Event, event}
use Rattle.libyaml_grammar.specs.grammar.Tokens.{Mark}
use Rattle.libyaml_graphs.specs.graphs.ComposerFaults.{alias_fault, anchor_fault, composer_part_fault}
use Rattle.libyaml_documents.specs.LoadedNodes.{mapping_loaded, scalar_loaded, sequence_loaded}
use Rattle.libyaml_graphs.specs.graphs.GraphParts.{Part, alias_part, following, end_part, part_in, anchored_node_start}
use Rattle.libyaml_graphs.specs.graphs.Graphs.{AnchoredNode, Start, anchored_node, carries}
use Rattle.libyaml_graphs.proofs.exported.Building.{Built, Held, bare, build, hold_top}
use Rattle.rust_original.specs.loader.Loader as orig_loader
use Rattle.rust_original.specs.loader.Loader.{FAIL, LoaderResult, OK, alias_of, yaml_alias_data_t}
use Rattle.rust_original.proofs.loads.Halves.{AllSound, Sound, end_sound, ended_there, half, halves, held_there, hold_sound}

-- what the original's loader is, where this much is built
abbrev pub ids : List ℕ → List ℕ
ids [] = []
ids (p ∷ s) = suc p ∷ ids s

abbrev pub there : List yaml_alias_data_t → Built → orig_loader.OriginalLoader
there xs b = record { aliases = xs; nodes = halves b.held; ctx = ids b.places }

abbrev pub Agrees : List Start → List yaml_alias_data_t → Type 0
Agrees es xs = (a : List ℕ) → alias_of xs a ≡ anchored_node a es

abbrev pub Follows : LoaderResult → Option Fault → List Start → Built → Type 0
Follows (FAIL f) w es b = w ≡ Some f
Follows (OK m) w es b = (w ≡ None) × ((xs : List yaml_alias_data_t) × (m ≡ there xs b) × Agrees es xs × AllSound b.held)

-- an anchored node's id is one
anchored_node_id : (a : List ℕ) (es : List Start) (c : AnchoredNode) → anchored_node a es ≡ Some c → (i : ℕ) × (c.id ≡ suc i)
anchored_node_id a [] c e = absurd cc
anchored_node_id a (s ∷ es) c e = go (carries s.anchor a) (λ k. anchored_node_id a es c k) e
  where
    go : (u : Bool) → (anchored_node a es ≡ Some c → (i : ℕ) × (c.id ≡ suc i))
        → ◌≡◌ {A = Option AnchoredNode}
        (elim u [ true ↦ Some (record { id = suc (length es); mark = s.mark }) | false ↦ anchored_node a es ]) (Some c)
        → (i : ℕ) × (c.id ≡ suc i)
    go true ih h = (length es, cc)
    go false ih h = ih h

halves_append : (hs : List Held) (x : yaml_node_t) → halves (hs ++ bare x ∷ []) ≡ halves hs ++ x ∷ []
halves_append [] x = refl
halves_append (h ∷ hs) x = ap (λ (l : List yaml_node_t). half h ∷ l) (halves_append hs x)

pub halves_length : (hs : List Held) → length (halves hs) ≡ length hs
halves_length [] = refl
halves_length (h ∷ hs) = ap (λ (n : ℕ). suc n) (halves_length hs)

sound_append : (hs : List Held) (x : yaml_node_t) → AllSound hs → Sound None x.content → AllSound (hs ++ bare x ∷ [])
sound_append [] x h i = (i, tt)
sound_append (y ∷ hs) x h i = (h.0, sound_append hs x h.1 i)

top_sound : (i : ℕ) (s : List ℕ) (hs : List Held) → AllSound hs → AllSound (hold_top (suc i) s hs)
top_sound i s hs h = grind (arith, hold_sound)

-- the original's functions without the bound
abbrev pub pushed : orig_loader.OriginalLoader → Option (List ℕ) → yaml_node_t → Bool → LoaderResult
pushed l anchor x opens
    = orig_loader.yaml_parser_register_anchor (record l { nodes = l.nodes ++ x ∷ [] }) (suc (length l.nodes)) x.start_mark
    anchor λ r.
    OK (if opens then record (orig_loader.child_added r (suc (length l.nodes))) { ctx = suc (length l.nodes) ∷ r.ctx } else
    orig_loader.child_added r (suc (length l.nodes)))

abbrev pub load_alias : orig_loader.OriginalLoader → List ℕ → Mark → LoaderResult
load_alias l anchor mark = elim (alias_of l.aliases anchor) [
  | Some found ↦ OK (orig_loader.child_added l found.id)
  | None ↦ orig_loader.yaml_parser_set_composer_error (codes "found undefined alias") mark
]

-- the child of an id, handed to the innermost collection
node_add : (xs : List yaml_alias_data_t) (i : ℕ) (s : List ℕ) (hs : List Held) → AllSound hs
    → orig_loader.child_added (record { aliases = xs; nodes = halves hs; ctx = ids s }) (suc i)
    ≡ record { aliases = xs; nodes = halves (hold_top (suc i) s hs); ctx = ids s }
node_add xs i [] hs h = refl
node_add xs i (p ∷ s) hs h
    = ap (λ (l : List yaml_node_t). let m : orig_loader.OriginalLoader = record { aliases = xs; nodes = l; ctx = suc p ∷ ids s } in m)
    (held_there p i hs h)

alias_follows : (a : List ℕ) (m : Mark) (es : List Start) (b : Built) (xs : List yaml_alias_data_t) → Agrees es xs
    → AllSound b.held
    → Follows (load_alias (there xs b) a m) (alias_fault (anchored_node a es) m) es (build es (alias_part a m) b)
alias_follows a m es b xs g h = grind (arith, g a, anchored_node_id a es, node_add, top_sound)

-- a node put after the others
abbrev or_else : Option AnchoredNode → Option AnchoredNode → Option AnchoredNode
or_else None o = o
or_else (Some c) o = Some c

alias_more : (xs : List yaml_alias_data_t) (d : yaml_alias_data_t) (a : List ℕ)
    → alias_of (xs ++ d ∷ []) a ≡ or_else (alias_of xs a) (cond (bytes_eq d.anchor a) (Some d.anchored_node) None)
alias_more [] d a = refl
alias_more (e ∷ xs) d a = go (bytes_eq e.anchor a) (alias_more xs d a)
  where
    go : (u : Bool)
        → alias_of (xs ++ d ∷ []) a ≡ or_else (alias_of xs a) (cond (bytes_eq d.anchor a) (Some d.anchored_node) None)
        → cond u (Some e.anchored_node) (alias_of (xs ++ d ∷ []) a)
        ≡ or_else (cond u (Some e.anchored_node) (alias_of xs a)) (cond (bytes_eq d.anchor a) (Some d.anchored_node) None)
    go u ih = grind arith

agrees_more : (xs : List yaml_alias_data_t) (es : List Start) (b : List ℕ) (m : Mark) → Agrees es xs
    → alias_of xs b ≡ None → Agrees (record { anchor = Some b; mark = m } ∷ es)
    (xs ++ record { anchor = b; anchored_node = record { id = suc (length es); mark = m } } ∷ [])
agrees_more xs es b m g e a = grind (arith, alias_more, lex.same_text b a, g a)

abbrev opened : Bool → ℕ → Built → Built
opened true n b = record { places = n ∷ b.places; held = b.held }
opened false n b = b

abbrev pub put : Bool → yaml_node_t → ℕ → Built → Built
put opens x n b
    = opened opens (length b.held)
    (record { places = b.places; held = hold_top (suc n) b.places (b.held ++ bare x ∷ []) })

abbrev pub finish_there : Bool → orig_loader.OriginalLoader → ℕ → orig_loader.OriginalLoader
finish_there opens r index
    = if opens then record (orig_loader.child_added r index) { ctx = index ∷ r.ctx } else orig_loader.child_added r index

module _ (x : yaml_node_t) (opens : Bool) (es : List Start) (b : Built) (size : length b.held ≡ length es)
    (h : AllSound b.held) (i : Sound None x.content) where
  index_is : length (halves b.held) ≡ length es
  index_is = halves_length b.held ∙ size

  finished : (ys : List yaml_alias_data_t)
      → finish_there opens (record { aliases = ys; nodes = halves b.held ++ x ∷ []; ctx = ids b.places })
      (suc (length (halves b.held)))
      ≡ there ys (put opens x (length es) b)
  finished ys = rw (← (halves_append b.held x), index_is) (go opens)
    where
      go : (o : Bool)
          → finish_there o (record { aliases = ys; nodes = halves (b.held ++ bare x ∷ []); ctx = ids b.places })
          (suc (length es))
          ≡ there ys (put o x (length es) b)
      go o = grind (arith, node_add, bare, sound_append, hold_top)

  put_sound : AllSound (put opens x (length es) b).held
  put_sound = grind (arith, top_sound, bare, sound_append)

  node_follows : (a : Option (List ℕ)) (xs : List yaml_alias_data_t) → Agrees es xs
      → Follows (pushed (there xs b) a x opens) (anchor_fault es a x.start_mark) (anchored_node_start a x ∷ es)
      (put opens x (length es) b)
  node_follows a xs g = grind (arith, finished, put_sound, index_is, agrees_more)

abbrev pub load_event : orig_loader.OriginalLoader → Event → LoaderResult
load_event l e = elim e.content [
  | ev.Alias a ↦ load_alias l a.anchor e.start_mark
  | ev.Scalar s ↦ pushed l s.anchor (scalar_loaded s e.start_mark e.end_mark) false
  | ev.SequenceStart s ↦ pushed l s.anchor (sequence_loaded s.tag s.style [] e.start_mark e.end_mark) true
  | ev.SequenceEnd ↦ OK (orig_loader.node_ended l e)
  | ev.MappingStart s ↦ pushed l s.anchor (mapping_loaded s.tag s.style [] e.start_mark e.end_mark) true
  | ev.MappingEnd ↦ OK (orig_loader.node_ended l e)
  | _ ↦ OK l
]

-- an event of a document
abbrev Moves : LoaderResult → Option Part → List Start → Built → List yaml_alias_data_t → Type 0
Moves o None es b xs = o ≡ OK (there xs b)
Moves o (Some p) es b xs = Follows o (composer_part_fault es p) (following p es) (build es p b)

end_follows : (n : Mark) (xs : List yaml_alias_data_t) (es : List Start) (s : List ℕ) (hs : List Held)
    (k : unnamed_yaml_event_t_data) (m : Mark) → Agrees es xs → AllSound hs
    → Follows (OK (orig_loader.node_ended (there xs (record { places = s; held = hs })) (event k m n))) None es
    (build es (end_part n) (record { places = s; held = hs }))
end_follows n xs es [] hs k m g h = (refl, (xs, refl, g, h))
end_follows n xs es (p ∷ s) hs k m g h = (refl, (xs, cc (ended_there p n hs), g, end_sound p n hs h))

pub event_follows : (k : unnamed_yaml_event_t_data) (m n : Mark) (es : List Start) (b : Built)
    (xs : List yaml_alias_data_t) → length b.held ≡ length es → Agrees es xs
    → AllSound b.held → Moves (load_event (there xs b) (event k m n)) (part_in k m n) es b xs
event_follows (ev.Alias a) m n es b xs size g h = alias_follows a.anchor m es b xs g h
event_follows (ev.Scalar s) m n es b xs size g h = node_follows (scalar_loaded s m n) false es b size h tt s.anchor xs g
event_follows (ev.SequenceStart s) m n es b xs size g h
    = node_follows (sequence_loaded s.tag s.style [] m n) true es b size h tt s.anchor xs g
event_follows (ev.MappingStart s) m n es b xs size g h
    = node_follows (mapping_loaded s.tag s.style [] m n) true es b size h tt s.anchor xs g
event_follows ev.SequenceEnd m n es b xs size g h = end_follows n xs es b.places b.held ev.SequenceEnd m g h
event_follows ev.MappingEnd m n es b xs size g h = end_follows n xs es b.places b.held ev.MappingEnd m g h
event_follows _ m n es b xs size g h = refl
