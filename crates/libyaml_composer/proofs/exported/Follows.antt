-- A call follows the loader's machine at each event within a document.
use Rattle.std.proofs.Common.{◌≡◌, ◌<◌, ◌≤◌, ◌++◌, ◌∷◌, List, [], ℕ, zero, suc, ℤ, pos, length, arith, refl, sym, ap, subst, ◌∙◌, true≢false, Option, Some, None, Bool, true, false, map, nat_le, nat_lt, length-append, append-nil, cond, nat_cmp}
use Rattle.std.proofs.lemmas.Int.{ints}
use Rattle.std.specs.Cmp.Lexicographic.{slice_cmp, nat_list_cmp_total}
use Rattle.std.specs.FinMap.{get, get-insert}
use Rattle.std.specs.BTreeMap.{is_at}
use Rattle.libyaml_types.specs.Types.{event_type}
use Rattle.libyaml_types.specs.declared.event.unnamed_yaml_event_t_data.TheVariants as ev
use Rattle.libyaml_types.specs.declared.event.unnamed_yaml_event_t_data.{unnamed_yaml_event_t_data}
use Rattle.libyaml_grammar.specs.grammar.Events.{Event}
use Rattle.libyaml_grammar.specs.grammar.Tokens.{Mark}
use Rattle.libyaml_documents.specs.LoadedNodes.{mapping_loaded, scalar_loaded, sequence_loaded, with_end}
use Rattle.libyaml_documents.specs.Nodes.{IsIdUpTo, with_changed}
use Rattle.libyaml_documents.specs.declared.node.yaml_node_t.{yaml_node_t}
use Rattle.libyaml_graphs.specs.graphs.ComposerFaults.{repeated_anchor}
use Rattle.libyaml_graphs.specs.graphs.Graphs.{AnchoredNode, id_or}
use Rattle.libyaml_graphs.specs.graphs.GraphParts.{Opening, Part, alias_part, closing_in, closing_of, end_part, leaf_part, part_in, part_of, start_part}
use Rattle.libyaml_graphs.specs.machine.Loader.{Anchors, Loader, Loading, OpenNode, Registered, bounded_option, failed, going, if_child_fits, known, on_alias, on_node, parent_full, register, registered, unless_full}
use Rattle.libyaml_composer.specs.declared.deed.Deed.TheVariants as deed
use Rattle.libyaml_composer.specs.declared.records.open_t.{open_t}
use Rattle.libyaml_composer.specs.declared.records.place_t.{place_t}
use Rattle.libyaml_composer.specs.Composing.{Composer, Told, adding, at_anchored_node, at_start, deed_for, collection_ended, holding_top, if_placed, is_list_full, with_open_node, place_in, composer_step, handing, told, unless, within_step}
use Rattle.libyaml_composer.specs.Numbers.{is_set, is_id}
use Rattle.libyaml_composer.specs.DocumentSoFar.{DocumentSoFar, anchor_in, anchored, applied_part, anchored_node_named, fact_by, event_fact, fault_part, IsRefused, first_mark, loader_by, held_with_nodes, with_made_node, open_of, placed}
use Rattle.libyaml_composer.proofs.Children.{Handing, hands_child}
use Rattle.libyaml_composer.proofs.exported.Deeds.{child_applied, child_open, child_part, child_put, not_part}
use Rattle.libyaml_composer.proofs.exported.Opens.{get_last, length_changed, opens_more, opens_other, opens_wider}
use Rattle.libyaml_composer.specs.Represents.{FitsParent, IsAlike, IsCarried, IsChild, IsNode, IsOpenNode, IsPart, Opens, DeedFits, Represents, TakesOneMore}

-- r is what the machine makes of a part, and t what the call does with it
pub record Goes (most : ℕ) (o : Opening) (h : DocumentSoFar) (s : List open_t) (q : Option Part) (end : Mark) (r : Loading) (t : Told)
    : Type 0 where
  pub part : IsPart t.deed
  pub leads : r ≡ going (loader_by t.composer (applied_part t.deed t.place q end h))
  pub stands : Represents t.composer (applied_part t.deed t.place q end h) o
  pub bound : t.composer.most ≡ most
  pub puts : DeedFits t.deed t.place q h s

data Follows (most : ℕ) (o : Opening) (h : DocumentSoFar) (s : List open_t) (q : Option Part) (start end : Mark) (r : Loading) (t : Told)
    : Type 0 where
  goes : Goes most o h s q end r t → Follows most o h s q start end r t
  fails : IsRefused t.deed → r ≡ failed (fault_part t.deed h q start) → Follows most o h s q start end r t
  full : t.deed ≡ deed.FullStack → Follows most o h s q start end r t

-- anchors
registered_by : (xs : Anchors) (a : Option (List ℕ)) (i : ℕ) (m : Mark)
    → register a i m xs ≡ elim (anchored_node_named xs a) [ Some c ↦ known c.mark | None ↦ registered (anchored a i m xs) ]
registered_by xs None i m = refl
registered_by xs (Some a) i m = refl

carried_named : (n : ℕ) (xs : Anchors) → ((q : List ℕ) → IsCarried n (get xs q)) → (a : Option (List ℕ))
    → IsCarried n (anchored_node_named xs a)
carried_named n xs h None = tt
carried_named n xs h (Some a) = h a

carried_wider : (n m : ℕ) (x : Option AnchoredNode) → n ≤ m → IsCarried n x → IsCarried m x
carried_wider n m None le h = tt
carried_wider n m (Some c) le h = (h.0, omega (arith, h.1, le))

carried_more : (n : ℕ) (xs : Anchors) (a : Option (List ℕ)) (m : Mark) → ((q : List ℕ) → IsCarried n (get xs q))
    → (q : List ℕ) → IsCarried (suc n) (get (anchored a (suc n) m xs) q)
carried_more n xs None m h q = carried_wider n (suc n) (get xs q) (omega arith) (h q)
carried_more n xs (Some a) m h q =
    subst (IsCarried (suc n)) (sym (get-insert nat_list_cmp_total xs a (record { id = suc n; mark = m }) q))
    (go (is_at (slice_cmp nat_cmp q) a) (get xs q) (carried_wider n (suc n) (get xs q) (omega arith) (h q)))
  where
    go : (b : Bool) (x : Option AnchoredNode) → IsCarried (suc n) x
        → IsCarried (suc n) (cond b (Some (record { id = suc n; mark = m })) x)
    go true x h = (omega arith, omega arith)
    go false x h = h

going_to : (a b : List yaml_node_t) (s t : List OpenNode) (xs : Anchors) → a ≡ b → s ≡ t
    → going (record { nodes = a; stack = s; anchors = xs }) ≡ going (record { nodes = b; stack = t; anchors = xs })
going_to a b s t xs e g = cc

id_of : (k : ℕ) → 0 < k → is_id (pos k) ≡ true
id_of zero h = absurd (omega arith)
id_of (suc k) h = refl

module _ (most room : ℕ) (o : Opening) (s : List open_t) (h : DocumentSoFar) (opening : h.opening ≡ Some o)
    (opens : Opens (length h.nodes) h.nodes (length h.nodes) s)
    (carried : (a : List ℕ) → IsCarried (length h.nodes) (get h.anchors a))
    (p : place_t) where
  abbrev here : Composer
  here = record { is_within = true; nodes = length h.nodes; most = most; room = room; stack = s }

  abbrev machine : Loader
  machine = loader_by here h

  abbrev id : ℤ
  id = pos (suc (length h.nodes))

  abbrev Hands : (node child : ℤ) (total : ℕ) → List yaml_node_t → Type 0
  Hands j i total nodes = Handing most i nodes total (length h.nodes) (map open_of s) (deed_for s) (place_in j i s) (holding_top i s)
      (is_list_full most s)

  more : (l : List yaml_node_t) → Hands id id (suc (length h.nodes)) (h.nodes ++ l)
  more l = hands_child most id refl (h.nodes ++ l) (suc (length h.nodes)) (length h.nodes) (omega arith)
      (omega (arith, ints), omega (arith, ints)) id s
      (opens_wider (length h.nodes) (suc (length h.nodes)) _ (length h.nodes) (length h.nodes) s (omega arith) (omega arith)
      (opens_more (length h.nodes) h.nodes l (length h.nodes) s (omega arith) opens))

  room_is : parent_full most (map open_of s) h.nodes ≡ is_list_full most s
  room_is = subst (λ (l : List yaml_node_t). parent_full most (map open_of s) l ≡ is_list_full most s) (append-nil h.nodes)
      (more []).full_is

  -- a child is put, after its node, if it is one
  module _ (q : Option Part) (end : Mark) (j i : ℤ) (g : DocumentSoFar) (made : with_made_node (is_id j) j q h ≡ g)
      (begun : g.opening ≡ Some o) (n : ℕ) (count : n ≡ length g.nodes) (child : Hands j i n g.nodes)
      (named : (a : List ℕ) → IsCarried n (get g.anchors a)) (is : IsChild q) (node : is_id j ≡ true → (j ≡ id) × IsNode q)
      (numbered : IsNode q → j ≡ id) where
    abbrev place : place_t
    place = place_in j i s

    abbrev after : DocumentSoFar
    after = held_with_nodes (placed (deed_for s) place g.nodes) g

    applied : after ≡ applied_part (deed_for s) place q end h
    applied = ap (λ (k : DocumentSoFar). held_with_nodes (placed (deed_for s) place k.nodes) k) (sym made)
        ∙ child_applied (deed_for s) (child_put s) place q end h

    total : n ≡ length after.nodes
    total = count ∙ sym child.count

    child_goes : (t : List open_t) (r : Loading)
        → r ≡ going (record { nodes = after.nodes; stack = map open_of t; anchors = g.anchors }) → Opens n after.nodes n t
        → Goes most o h s q end r (told (deed_for s) place (record here { nodes = n; stack = t }))
    child_goes t r leads there = record {
      part = child_part (deed_for s) (child_put s);
      leads = leads ∙ ap (λ (k : DocumentSoFar). going (loader_by (record here { nodes = n; stack = t }) k)) applied;
      stands = subst (λ (k : DocumentSoFar). Represents (record here { nodes = n; stack = t }) k o) applied (record {
        is_within = refl;
        opening = begun;
        nodes = total;
        opens = subst (λ (m : ℕ). Opens m after.nodes m t) total there;
        carried = subst (λ (m : ℕ). (a : List ℕ) → IsCarried m (get g.anchors a)) total named;
      });
      bound = refl;
      puts = record {
        fits = subst (λ (k : DocumentSoFar). FitsParent (deed_for s) place (length k.nodes) k.nodes) (sym made)
            (subst (λ (m : ℕ). FitsParent (deed_for s) place m g.nodes) count child.fits);
        takes = subst (λ (k : DocumentSoFar). TakesOneMore (deed_for s) (map open_of s) k.nodes) (sym made) child.takes;
        node = λ put e. (node e).0;
        child = λ put. is;
        made = λ put e. (node e).1;
        closed = λ k. absurd (child_open (deed_for s) (child_put s) k);
        put = λ c. child_put s;
        numbered = numbered;
      };
    }

  -- a node of this anchor, for which there is room or not
  module _ (a : Option (List ℕ)) (x : yaml_node_t) (end : Mark) where
    abbrev with_node : DocumentSoFar
    with_node = record h { nodes = h.nodes ++ x ∷ []; anchors = anchored a (suc (length h.nodes)) x.start_mark h.anchors }

    abbrev fact : ℤ
    fact = pos (id_or (anchored_node_named h.anchors a))

    abbrev first : Bool
    first = nat_lt most (suc (length h.nodes))

    count : suc (length h.nodes) ≡ length (h.nodes ++ x ∷ [])
    count = omega (arith, length-append h.nodes (x ∷ []))

    abbrev AtNode : Option Part → Loading → Told → Type 0
    AtNode q r t = Follows most o h s q x.start_mark end r t

    node_follows : (q : Option Part) → anchor_in q ≡ a → (opens : List OpenNode) (t : Told)
        → AtNode q (on_node (registered with_node.anchors) x opens machine) t
        → AtNode q (unless_full first (if_child_fits (parent_full most (map open_of s) h.nodes)
        (on_node (register a (suc (length h.nodes)) x.start_mark h.anchors) x opens machine))) (if_placed fact p here t)
    node_follows q at opens t there =
        subst (λ (b : Bool). AtNode q (unless_full first (if_child_fits b (on_node (register a (suc (length h.nodes)) x.start_mark h.anchors) x opens machine)))
        (if_placed fact p here t)) (sym room_is)
        (subst (λ (r : Registered). AtNode q (unless_full first (if_child_fits (is_list_full most s) (on_node r x opens machine))) (if_placed fact p here t))
        (sym (registered_by h.anchors a (suc (length h.nodes)) x.start_mark))
        (go (anchored_node_named h.anchors a) (ap (anchored_node_named h.anchors) at) (carried_named _ h.anchors carried a)
        first (is_list_full most s)))
      where
        go : (k : Option AnchoredNode) → anchored_node_named h.anchors (anchor_in q) ≡ k → IsCarried (length h.nodes) k → (first list : Bool)
            → AtNode q (unless_full first (if_child_fits list
            (on_node (elim k [ Some c ↦ known c.mark | None ↦ registered with_node.anchors ]) x opens machine)))
            (unless first deed.FullList p here (unless (is_id (pos (id_or k))) deed.RepeatedAnchor p here (unless list deed.FullList p here t)))
        go k same lt true list = fails tt refl
        go None same lt false true = fails tt refl
        go None same lt false false = there
        go (Some c) same lt false list = subst (λ (b : Bool). AtNode q (failed (repeated_anchor c.mark x.start_mark))
            (unless b deed.RepeatedAnchor p here (unless list deed.FullList p here t))) (sym (id_of c.id lt.0))
            (fails tt (ap (λ (k : Option AnchoredNode). failed (repeated_anchor (first_mark k x.start_mark) x.start_mark)) (sym same)))

    node_goes : (q : Option Part) → with_made_node true id q h ≡ with_node → IsChild q → IsNode q → (opens : List OpenNode) (t : List open_t)
        → map open_of t ≡ opens ++ map open_of (holding_top id s)
        → Opens (suc (length h.nodes)) (placed (deed_for s) (place_in id id s) with_node.nodes) (suc (length h.nodes)) t
        → Goes most o h s q end (on_node (registered with_node.anchors) x opens machine)
        (told (deed_for s) (place_in id id s) (record here { nodes = suc (length h.nodes); stack = t }))
    node_goes q made child node opens t stack there =
        child_goes q end id id with_node made opening (suc (length h.nodes)) count (more (x ∷ []))
        (carried_more (length h.nodes) h.anchors a x.start_mark carried) child (λ e. (refl, node)) (λ n. refl) t _
        (going_to _ _ _ _ with_node.anchors (sym (more (x ∷ [])).nodes_are)
        (ap (λ (l : List OpenNode). opens ++ l) (sym (more (x ∷ [])).stack_is) ∙ sym stack)) there

    -- the collections that are open around it
    around : Opens (suc (length h.nodes)) (placed (deed_for s) (place_in id id s) with_node.nodes) (length h.nodes) (holding_top id s)
    around = (more (x ∷ [])).opens

    leaf : AtNode (Some (leaf_part a x)) (bounded_option most machine (Some (leaf_part a x))) (if_placed fact p here (adding here))
    leaf = node_follows (Some (leaf_part a x)) refl [] (adding here) (goes (node_goes (Some (leaf_part a x)) refl tt tt [] (holding_top id s) refl
        (opens_wider _ _ _ (length h.nodes) _ (holding_top id s) (omega arith) (omega arith) around)))

    -- the start of a collection without children
    start : (m : ℕ) → IsAlike x.content (is_set m) false 0
        → AtNode (Some (start_part a x)) (bounded_option most machine (Some (start_part a x))) (at_start m fact p here)
    start m empty = node_follows (Some (start_part a x)) refl (record { node = id; key = None } ∷ [])
        (unless (nat_le room (length s)) deed.FullStack p here (with_open_node m id (adding here))) (by (nat_le room (length s)))
      where
        by : (b : Bool) → AtNode (Some (start_part a x)) (on_node (registered with_node.anchors) x (record { node = id; key = None } ∷ []) machine)
            (unless b deed.FullStack p here (with_open_node m id (adding here)))
        by true = full refl
        by false = goes (node_goes (Some (start_part a x)) refl tt tt (record { node = id; key = None } ∷ []) (record { node = id; key = pos 0; children = 0; is_mapping = m } ∷ holding_top id s) refl (
          length h.nodes,
          refl,
          omega arith,
          subst (λ (y : Option yaml_node_t). IsOpenNode y (record { node = id; key = pos 0; children = 0; is_mapping = m }))
              (sym ((more (x ∷ [])).later (length h.nodes) (omega arith) ∙ get_last h.nodes x)) empty,
          λ w. absurd (true≢false (sym w)),
          around,
        ))

  -- an alias
  module _ (a : List ℕ) (m end : Mark) where
    abbrev AtAlias : Loading → Told → Type 0
    AtAlias r t = Follows most o h s (Some (alias_part a m)) m end r t

    made : (k : AnchoredNode) → 0 < k.id → k.id ≤ length h.nodes → (b : Bool)
        → AtAlias (unless_full false (if_child_fits b (on_alias (Some k) m machine)))
        (unless b deed.FullList p here (handing (pos 0) (pos k.id) here))
    made k lt le true = fails tt refl
    made k lt le false = goes (child_goes (Some (alias_part a m)) end (pos 0) (pos k.id) h refl opening (length h.nodes) refl child carried tt
        (λ e. absurd (true≢false (sym e))) (λ n. absurd n) (holding_top (pos k.id) s) _
        (going_to _ _ _ _ h.anchors (sym child.nodes_are) (sym child.stack_is)) child.opens)
      where
        child : Hands (pos 0) (pos k.id) (length h.nodes) h.nodes
        child = hands_child most (pos k.id) (id_of k.id lt) h.nodes (length h.nodes) (length h.nodes) (omega arith)
            (omega (arith, ints, lt), omega (arith, ints, le)) (pos 0) s opens

    alias : AtAlias (bounded_option most machine (Some (alias_part a m)))
        (at_anchored_node (is_id (pos (id_or (get h.anchors a)))) (pos (id_or (get h.anchors a))) p here)
    alias = subst (λ (b : Bool). AtAlias (unless_full false (if_child_fits b (on_alias (get h.anchors a) m machine)))
        (at_anchored_node (is_id (pos (id_or (get h.anchors a)))) (pos (id_or (get h.anchors a))) p here)) (sym room_is)
        (go (get h.anchors a) (carried a))
      where
        go : (k : Option AnchoredNode) → IsCarried (length h.nodes) k
            → AtAlias (unless_full false (if_child_fits (is_list_full most s) (on_alias k m machine)))
            (at_anchored_node (is_id (pos (id_or k))) (pos (id_or k)) p here)
        go None lt = fails tt refl
        go (Some k) lt = subst (λ (b : Bool). AtAlias (unless_full false (if_child_fits (is_list_full most s) (on_alias (Some k) m machine)))
            (at_anchored_node b (pos k.id) p here)) (sym (id_of k.id lt.0)) (made k lt.0 lt.1 (is_list_full most s))

  nothing_put : {q : Option Part} {t : List open_t} → (IsChild q → ⊥) → (IsNode q → ⊥) → DeedFits deed.Passes p q h t
  nothing_put none no_node = record {
    fits = tt;
    takes = tt;
    node = λ put e. absurd put;
    child = λ put. absurd put;
    made = λ put e. absurd put;
    closed = λ k. absurd k;
    put = λ c. absurd (none c);
    numbered = λ n. absurd (no_node n);
  }

  -- the end of a collection
  ends : (start end : Mark) → Follows most o h s (Some (end_part end)) start end
      (bounded_option most machine (Some (end_part end))) (collection_ended s p here)
  ends start end = go s opens
    where
      go : (s : List open_t) → Opens (length h.nodes) h.nodes (length h.nodes) s
          → Follows most o h s (Some (end_part end)) start end
          (bounded_option most (loader_by (record here { stack = s }) h) (Some (end_part end)))
          (collection_ended s p (record here { stack = s }))
      go [] g = goes (record {
        part = tt;
        leads = refl;
        stands = record { is_within = refl; opening = opening; nodes = refl; opens = tt; carried = carried };
        bound = refl;
        puts = nothing_put (λ c. c) (λ c. c);
      })
      go (y ∷ s) (k, is, lt, there, key, rest) =
          let count : length h.nodes ≡ length (with_changed y.node (with_end end) h.nodes)
          = sym (ap (λ (z : ℤ). length (with_changed z (with_end end) h.nodes)) is ∙ length_changed k (with_end end) h.nodes) in
          goes (record {
            part = tt;
            leads = refl;
            stands = record {
              is_within = refl;
              opening = opening;
              nodes = count;
              opens = subst (λ (n : ℕ). Opens n (with_changed y.node (with_end end) h.nodes) n s) count
                  (subst (λ (z : ℤ). Opens (length h.nodes) (with_changed z (with_end end) h.nodes) (length h.nodes) s) (sym is)
                  (opens_wider _ _ _ k (length h.nodes) s (omega arith) (omega arith)
                  (opens_other (with_end end) _ h.nodes k k s (omega arith) rest)));
              carried = subst (λ (n : ℕ). (q : List ℕ) → IsCarried n (get h.anchors q)) count carried;
            };
            bound = refl;
            puts = record {
              fits = tt;
              takes = tt;
              node = λ put e. absurd put;
              child = λ put. absurd put;
              made = λ put e. absurd put;
              closed = λ q. subst (IsIdUpTo (length h.nodes)) (sym is) (omega (arith, ints), omega (arith, ints, lt));
              put = λ c. absurd c;
              numbered = λ n. absurd n;
            };
          })

  -- any event but the document's end
  follows_at : (e : Event) → closing_of e ≡ None → Follows most o h s (part_of e) e.start_mark e.end_mark
      (bounded_option most machine (part_of e)) (within_step (event_type e.content) (event_fact h e) p here)
  follows_at e without = go e.content without
    where
      nothing : Follows most o h s None e.start_mark e.end_mark (going machine) (told deed.Passes p here)
      nothing = goes (record {
        part = tt;
        leads = refl;
        stands = record { is_within = refl; opening = opening; nodes = refl; opens = opens; carried = carried };
        bound = refl;
        puts = nothing_put (λ c. c) (λ c. c);
      })

      go : (k : unnamed_yaml_event_t_data) → closing_in k e.end_mark ≡ None
          → Follows most o h s (part_in k e.start_mark e.end_mark) e.start_mark e.end_mark
          (bounded_option most machine (part_in k e.start_mark e.end_mark))
          (within_step (event_type k) (fact_by h.anchors (part_in k e.start_mark e.end_mark)) p here)
      go (ev.DocumentEnd d) g = absurd cc
      go (ev.Alias k) g = alias k.anchor e.start_mark e.end_mark
      go (ev.Scalar k) g = leaf k.anchor (scalar_loaded k e.start_mark e.end_mark) e.end_mark
      go (ev.SequenceStart k) g = start k.anchor (sequence_loaded k.tag k.style [] e.start_mark e.end_mark) e.end_mark 0 refl
      go (ev.MappingStart k) g = start k.anchor (mapping_loaded k.tag k.style [] e.start_mark e.end_mark) e.end_mark 1 refl
      go ev.SequenceEnd g = ends e.start_mark e.end_mark
      go ev.MappingEnd g = ends e.start_mark e.end_mark
      go _ g = nothing

-- what a call returned within a document, with room for so many collections, at an event that isn't the document's end
module _ (c : Composer) (h : DocumentSoFar) (o : Opening) (stands : Represents c h o) (e : Event) (without : closing_of e ≡ None)
    (p : place_t) (room : ℕ) (t : Told)
    (tells : t ≡ composer_step (event_type e.content) (event_fact h e) p (record c { room = room })) where
  abbrev AsTold : Told → Type 0
  AsTold t = Follows c.most o h c.stack (part_of e) e.start_mark e.end_mark (bounded_option c.most (loader_by c h) (part_of e)) t

  follows : AsTold t
  follows = subst AsTold (sym tells)
      (subst (λ (k : Composer). AsTold (composer_step (event_type e.content) (event_fact h e) p k))
      (ap (λ (n : ℕ). record { is_within = true; nodes = n; most = c.most; room = room; stack = c.stack }) (sym stands.nodes)
      ∙ ap (λ (b : Bool). record { is_within = b; nodes = c.nodes; most = c.most; room = room; stack = c.stack })
      (sym stands.is_within))
      (follows_at c.most room o c.stack h stands.opening stands.opens stands.carried p e without))

  -- the machine goes on where it refuses nothing and had room
  pub goes_on : (IsRefused t.deed → ⊥) → (t.deed ≡ deed.FullStack → ⊥)
      → Goes c.most o h c.stack (part_of e) e.end_mark (bounded_option c.most (loader_by c h) (part_of e)) t
  goes_on sound room_left = go follows
    where
      go : AsTold t → Goes c.most o h c.stack (part_of e) e.end_mark (bounded_option c.most (loader_by c h) (part_of e)) t
      go (goes g) = g
      go (fails refused fault) = absurd (sound refused)
      go (full is) = absurd (room_left is)

  -- and fails by the error of a deed that refuses
  pub fails_so : IsRefused t.deed → bounded_option c.most (loader_by c h) (part_of e) ≡ failed (fault_part t.deed h (part_of e) e.start_mark)
  fails_so refused = go follows
    where
      go : AsTold t → bounded_option c.most (loader_by c h) (part_of e) ≡ failed (fault_part t.deed h (part_of e) e.start_mark)
      go (goes g) = absurd (not_part t.deed refused g.part)
      go (fails refused fault) = fault
      go (full is) = absurd (subst IsRefused is refused)

-- the parent's list is full for the machine where it is for the composer
pub list_is : (c : Composer) (h : DocumentSoFar) (o : Opening) → Represents c h o
    → parent_full c.most (map open_of c.stack) h.nodes ≡ is_list_full c.most c.stack
list_is c h o stands = room_is c.most 0 o c.stack h stands.opening stands.opens stands.carried
    (record { node = pos 0; child = pos 0; parent = pos 0; key = pos 0 })
