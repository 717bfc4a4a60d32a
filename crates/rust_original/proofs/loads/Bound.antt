-- What the bound on lists does to it.
use Rattle.std.proofs.Common.{◌≡◌, ◌∷◌, ◌++◌, ℕ, zero, suc, ℤ, List, [], length, nat_lt, ltb-true, lt-ltb, ◌≤◌, arith, Option, Some, None, Bool, true, false, not, refl, ap, ◌∙◌, codes, if◌then◌else◌}
use Rattle.std.specs.Prelude.{slice_get}
use Rattle.libyaml_types.specs.declared.event.unnamed_yaml_event_t_data.{unnamed_yaml_event_t_data}
use Rattle.libyaml_types.specs.declared.event.unnamed_yaml_event_t_data.TheVariants as ev
use Rattle.libyaml_documents.specs.declared.node.unnamed_yaml_node_t_data.{unnamed_yaml_node_t_data}
use Rattle.libyaml_documents.specs.declared.node.yaml_node_t.{yaml_node_t}
use Rattle.libyaml_types.specs.Fault.{memory_fault}
use Rattle.libyaml_grammar.specs.grammar.Events.{event}
use Rattle.libyaml_grammar.specs.grammar.Tokens.{Mark}
use Rattle.libyaml_documents.specs.LoadedNodes.{mapping_loaded, scalar_loaded, sequence_loaded}
use Rattle.libyaml_graphs.specs.graphs.GraphParts.{Part, alias_part, end_part, leaf_part, part_in, start_part}
use Rattle.libyaml_graphs.specs.graphs.Graphs.{AnchoredNode}
use Rattle.libyaml_graphs.specs.machine.Loader.{content_full, list_full, no_anchors, node_full}
use Rattle.libyaml_graphs.specs.machine.Loader as loader
use Rattle.libyaml_graphs.proofs.exported.Building.{AllLess, Falls, Less, key_in, loader_of, stack_of, AllHas, Built, Has, Held, nodes_in}
use Rattle.rust_original.specs.loader.Loader as orig_loader
use Rattle.rust_original.specs.loader.Loader.{FAIL, LoaderResult, OK, alias_of, yaml_alias_data_t}
use Rattle.rust_original.proofs.loads.Halves.{AllSound, Sound, halves, last_waits, none_waits, with_half}
use Rattle.rust_original.proofs.loads.Steps.{finish_there, ids, load_alias, load_event, pushed, there}

-- the bound
abbrev pub guarded : (over full : Bool) → LoaderResult → LoaderResult
guarded true c o = FAIL memory_fault
guarded false c (FAIL f) = FAIL f
guarded false true (OK m) = FAIL memory_fault
guarded false false (OK m) = OK m

abbrev pub over_there : ℕ → Part → Built → Bool
over_there n (alias_part a m) b = false
over_there n (leaf_part a x) b = not (nat_lt (length (halves b.held)) n)
over_there n (start_part a x) b = not (nat_lt (length (halves b.held)) n)
over_there n (end_part m) b = false

abbrev pub full_there : ℕ → Part → Built → Bool
full_there n (end_part m) b = false
full_there n p b = orig_loader.is_parent_full n (ids b.places) (halves b.held)

abbrev pub guard_part : ℕ → Option Part → Built → LoaderResult → LoaderResult
guard_part n None b o = o
guard_part n (Some p) b o = guarded (over_there n p b) (full_there n p b) o

pub not_less : (a n : ℕ) → not (nat_lt a n) ≡ nat_lt n (suc a)
not_less a n = grind arith

full_same : (n : ℕ) (k : Option ℤ) (c : unnamed_yaml_node_t_data) → Sound k c
    → orig_loader.is_full n (with_half k c) ≡ content_full n k c
full_same n k c h = grind (arith, not_less, none_waits, last_waits)

place_full : (n p : ℕ) (hs : List Held) → AllSound hs
    → orig_loader.full_at n p (halves hs) ≡ node_full n (key_in p hs) (slice_get (nodes_in hs) p)
place_full n p [] h = refl
place_full n zero (x ∷ hs) h = full_same n x.key x.node.content h.0
place_full n (suc p) (x ∷ hs) h = place_full n p hs h.1

any_full : (n : ℕ) (s : List ℕ) (hs : List Held) → AllSound hs
    → orig_loader.is_parent_full n (ids s) (halves hs) ≡ loader.parent_full n (stack_of s hs) (nodes_in hs)
any_full n [] hs h = refl
any_full n (p ∷ s) hs h = place_full n p hs h

pub part_full : (n : ℕ) (p : Part) (b : Built) → AllSound b.held
    → full_there n p b ≡ list_full n (loader_of b no_anchors) p
part_full n p b h = grind (arith, any_full)

-- a parent's list is as full after a node was put after the others
still_full : (n p : ℕ) (hs : List Held) (x : yaml_node_t) → Has p hs
    → orig_loader.full_at n p (halves hs ++ x ∷ []) ≡ orig_loader.full_at n p (halves hs)
still_full n p [] x h = absurd h
still_full n zero (y ∷ hs) x h = refl
still_full n (suc p) (y ∷ hs) x h = still_full n p hs x h

parent_still : (n : ℕ) (s : List ℕ) (hs : List Held) (x : yaml_node_t) → AllHas s hs
    → orig_loader.is_parent_full n (ids s) (halves hs ++ x ∷ []) ≡ orig_loader.is_parent_full n (ids s) (halves hs)
parent_still n [] hs x h = refl
parent_still n (p ∷ s) hs x h = still_full n p hs x h.0

-- the stack of open collections is no longer than the list of nodes
above : (q p : ℕ) → Less q p → suc q ≤ p
above q zero h = absurd h
above zero (suc p) h = omega arith
above (suc q) (suc p) h = let i = above q p h in omega arith

falls_short : (s : List ℕ) (p : ℕ) → AllLess s p → Falls s → length (ids s) ≤ p
falls_short [] p h f = omega arith
falls_short (q ∷ s) p h f = let i = above q p h.0 in let j = falls_short s q f.0 f.1 in omega arith

has_place : (p : ℕ) (hs : List Held) → Has p hs → suc p ≤ length (halves hs)
has_place p [] h = absurd h
has_place zero (x ∷ hs) h = omega arith
has_place (suc p) (x ∷ hs) h = let i = has_place p hs h in omega arith

stack_short : (s : List ℕ) (hs : List Held) → AllHas s hs → Falls s → length (ids s) ≤ length (halves hs)
stack_short [] hs h f = omega arith
stack_short (p ∷ s) hs h f = let i = has_place p hs h.0 in let j = falls_short s p f.0 f.1 in omega arith

kept_ctx : (l : orig_loader.OriginalLoader) (i : ℕ) (c : List ℕ) → l.ctx ≡ c → (orig_loader.child_added l i).ctx ≡ l.ctx
kept_ctx l i c e = grind arith

module _ (n : ℕ) (x : yaml_node_t) (opens : Bool) (b : Built) (has : AllHas b.places b.held) (falls : Falls b.places)
  where
    abbrev index : ℕ
    index = suc (length (halves b.held))

    abbrev pushed_node : List yaml_alias_data_t → orig_loader.OriginalLoader
    pushed_node ys = record { aliases = ys; nodes = halves b.held ++ x ∷ []; ctx = ids b.places }

    opened_there : (ys : List yaml_alias_data_t) → nat_lt (length (halves b.held)) n ≡ true
        → orig_loader.if_ok (orig_loader.yaml_parser_load_node_add n (pushed_node ys) index)
        (λ s. if opens then orig_loader.STACK_LIMIT n (length s.ctx) (OK (record s { ctx = index ∷ s.ctx })) else OK s)
        ≡ guarded false (orig_loader.is_parent_full n (ids b.places) (halves b.held))
        (OK (finish_there opens (pushed_node ys) index))
    opened_there ys e
        = ap (λ (u : Bool). orig_loader.if_ok (if u then FAIL memory_fault else OK (orig_loader.child_added (pushed_node ys) index))
        (λ s. if opens then orig_loader.STACK_LIMIT n (length s.ctx) (OK (record s { ctx = index ∷ s.ctx })) else OK s))
        (parent_still n b.places b.held x has)
        ∙ go (orig_loader.is_parent_full n (ids b.places) (halves b.held)) opens
      where
        fits : nat_lt (length (ids b.places)) n ≡ true
        fits = grind (arith, ltb-true, stack_short, lt-ltb)

        go : (u o : Bool) → orig_loader.if_ok (if u then FAIL memory_fault else OK (orig_loader.child_added (pushed_node ys) index))
            (λ s. if o then orig_loader.STACK_LIMIT n (length s.ctx) (OK (record s { ctx = index ∷ s.ctx })) else OK s)
            ≡ guarded false u (OK (finish_there o (pushed_node ys) index))
        go true o = refl
        go false false = refl
        go false true
            = ap (λ (c : List ℕ). orig_loader.STACK_LIMIT n (length c)
            (OK (record (orig_loader.child_added (pushed_node ys) index) { ctx = index ∷ c })))
            (kept_ctx (pushed_node ys) index (ids b.places) refl)
            ∙ ap (λ (u : Bool). if u then OK
            (record (orig_loader.child_added (pushed_node ys) index) { ctx = index ∷ ids b.places }) else FAIL memory_fault)
            fits

    node_limited : (a : Option (List ℕ)) (xs : List yaml_alias_data_t)
        → orig_loader.node_pushed n (there xs b) a x opens
        ≡ guarded (not (nat_lt (length (halves b.held)) n)) (orig_loader.is_parent_full n (ids b.places) (halves b.held))
        (pushed (there xs b) a x opens)
    node_limited a xs = go (nat_lt (length (halves b.held)) n) refl
      where
        registered : (o : Option AnchoredNode) (c : List ℕ) → nat_lt (length (halves b.held)) n ≡ true
            → elim o [
              | Some y ↦ orig_loader.yaml_parser_set_composer_error_context (codes "found duplicate anchor; first occurrence")
                  y.mark (codes "second occurrence") x.start_mark
              | None ↦ orig_loader.if_ok
                  (orig_loader.yaml_parser_load_node_add n
                  (pushed_node
                  (xs ++ record { anchor = c; anchored_node = record { id = index; mark = x.start_mark } } ∷ [])) index)
                  (λ s. if opens then orig_loader.STACK_LIMIT n (length s.ctx) (OK (record s { ctx = index ∷ s.ctx })) else OK s)
            ] ≡ guarded false (orig_loader.is_parent_full n (ids b.places) (halves b.held)) (elim o [
              | Some y ↦ orig_loader.yaml_parser_set_composer_error_context (codes "found duplicate anchor; first occurrence")
                  y.mark (codes "second occurrence") x.start_mark
              | None ↦ OK
                  (finish_there opens
                  (pushed_node
                  (xs ++ record { anchor = c; anchored_node = record { id = index; mark = x.start_mark } } ∷ [])) index)
            ])
        registered o c e = grind (arith, opened_there)

        with_room : (c : Option (List ℕ)) → nat_lt (length (halves b.held)) n ≡ true
            → orig_loader.yaml_parser_register_anchor (pushed_node xs) index x.start_mark c
            (λ r. orig_loader.if_ok (orig_loader.yaml_parser_load_node_add n r index)
            (λ s. if opens then orig_loader.STACK_LIMIT n (length s.ctx) (OK (record s { ctx = index ∷ s.ctx })) else OK s))
            ≡ guarded false (orig_loader.is_parent_full n (ids b.places) (halves b.held)) (pushed (there xs b) c x opens)
        with_room c e = grind (arith, opened_there, registered)

        go : (u : Bool) → nat_lt (length (halves b.held)) n ≡ u
            → (if u then orig_loader.yaml_parser_register_anchor (pushed_node xs) index x.start_mark a
            (λ r. orig_loader.if_ok (orig_loader.yaml_parser_load_node_add n r index)
            (λ s. if opens then orig_loader.STACK_LIMIT n (length s.ctx) (OK (record s { ctx = index ∷ s.ctx })) else OK s))
            else FAIL memory_fault)
            ≡ guarded (not u) (orig_loader.is_parent_full n (ids b.places) (halves b.held)) (pushed (there xs b) a x opens)
        go u e = grind (arith, with_room)

alias_limited : (n : ℕ) (a : List ℕ) (m : Mark) (xs : List yaml_alias_data_t) (b : Built)
    → orig_loader.yaml_parser_load_alias n (there xs b) a m ≡ guarded false (orig_loader.is_parent_full n (ids b.places) (halves b.held))
    (load_alias (there xs b) a m)
alias_limited n a m xs b = grind arith

pub event_limited : (n : ℕ) (k : unnamed_yaml_event_t_data) (m m' : Mark) (b : Built) (xs : List yaml_alias_data_t)
    → AllHas b.places b.held → Falls b.places
    → orig_loader.load_event n (there xs b) (event k m m') ≡ guard_part n (part_in k m m') b
    (load_event (there xs b) (event k m m'))
event_limited n (ev.Alias a) m m' b xs h f = alias_limited n a.anchor m xs b
event_limited n (ev.Scalar s) m m' b xs h f = node_limited n (scalar_loaded s m m') false b h f s.anchor xs
event_limited n (ev.SequenceStart s) m m' b xs h f
    = node_limited n (sequence_loaded s.tag s.style [] m m') true b h f s.anchor xs
event_limited n (ev.MappingStart s) m m' b xs h f
    = node_limited n (mapping_loaded s.tag s.style [] m m') true b h f s.anchor xs
event_limited n _ m m' b xs h f = refl
