-- A run keeps the numbers those of the trees.
use Rattle.std.proofs.Common.{◌≡◌, ◌≤◌, ◌∷◌, ◌++◌, ◌∙◌, ℕ, suc, ℤ, pos, List, [], length, map, Option, None, Bool, inl, inr, refl, sym, ap, subst, arith, length-append}
use Rattle.libyaml_types.specs.Types.{event_type}
use Rattle.libyaml_grammar.specs.grammar.Events.{Event}
use Rattle.libyaml_grammar.specs.grammar.Tokens.{Mark}
use Rattle.libyaml_documents.specs.declared.node.yaml_node_t.{yaml_node_t}
use Rattle.libyaml_graphs.specs.graphs.GraphParts.{Opening, Part, closing_of, part_of}
use Rattle.libyaml_composer.specs.declared.deed.Deed.{Deed}
use Rattle.libyaml_composer.specs.declared.deed.Deed.TheVariants as deed
use Rattle.libyaml_composer.specs.declared.records.open_t.{open_t}
use Rattle.libyaml_composer.specs.declared.records.place_t.{place_t}
use Rattle.libyaml_composer.specs.Composing.{Composer, Told, composer_step, deed_for, holding_top, is_start, place_in, waiting_in}
use Rattle.libyaml_composer.specs.DocumentSoFar.{DocumentSoFar, applied, applied_part, event_fact, nodes_made}
use Rattle.libyaml_composer.specs.Represents.{IsPart, Opens, Represents}
use Rattle.libyaml_composer.proofs.exported.Deeds.{none_carried, not_part, part_applied, represents_roomy}
use Rattle.libyaml_composer.proofs.exported.Follows.{goes_on}
use Rattle.libyaml_composer.proofs.exported.Opens.{get_among}
use Rattle.yaml_expansion.specs.Expansion.{HasExpandedSize, TreesHave}
use Rattle.yaml_expansion.specs.Expansion as expansion
use Rattle.document_sizes.specs.declared.counted.Counted.TheVariants as counted
use Rattle.document_sizes.specs.Counting.{Count, bound_of, count_of, counting}
use Rattle.document_sizes.specs.Runs.{CountRun, Counts, LosesNothing}
use Rattle.document_sizes.specs.Runs as run
use Rattle.document_sizes.specs.RunLaws.{TotalIsSize}
use Rattle.document_sizes.proofs.Trees.{Trees, first, none, says_same}
use Rattle.document_sizes.proofs.Holding.{opened_of}
use Rattle.document_sizes.proofs.Inverse.{limit}
use Rattle.document_sizes.proofs.Steps.{SaysOf, state_of}
use Rattle.document_sizes.proofs.Events.{Next, alias_next, closed_next, get_in, open_next, scalar_next}
use Rattle.document_sizes.proofs.Views.{View, alias, begins, closes, passes, scalar, view}

pub record Standing (max : ℕ) (c : Composer) (h : DocumentSoFar) (total : ℕ) (sizes : List ℕ) : Type 0 where
  pub opening : Opening
  pub represents : Represents c h opening
  pub room : c.nodes ≤ length sizes
  pub bound : total ≤ bound_of max
  pub says : SaysOf limit h.nodes c.stack (get_in sizes) total

module _ (max : ℕ) (c : Composer) (h : DocumentSoFar) (total : ℕ) (sizes : List ℕ) (stands : Standing max c h total sizes)
    (q : Option Part) (start : Bool) (m : Mark) where
  abbrev nodes_in : Told → List yaml_node_t
  nodes_in t = (applied_part t.deed t.place q m h).nodes

  count : c.nodes ≡ length h.nodes
  count = stands.represents.nodes

  next : (t : Told) (total' : ℕ) (sizes' : List ℕ) → View c h q start t → LosesNothing t.deed c
      → count_of counted.Within total' sizes' ≡ counting (bound_of max) t.deed start t.place total sizes
      → Next max c h total sizes q start m count stands.room stands.bound (nodes_in t) t.composer.stack t.composer.nodes total' sizes'
  next t total' sizes' (alias j lt) all e = alias_next max c h total sizes q start m count stands.room stands.bound c.stack j total' sizes'
      lt stands.represents.opens stands.says all e
  next t total' sizes' (scalar a x empty is starts) all e = subst F (sym count)
      (λ f. scalar_next max c h total sizes q start m count stands.room stands.bound x empty (ap nodes_made is) c.stack total' sizes'
      stands.represents.opens stands.says all starts f) e
    where
      F : ℕ → Type 0
      F n = count_of counted.Within total' sizes'
          ≡ counting (bound_of max) (deed_for c.stack) start (place_in (pos (suc n)) (pos (suc n)) c.stack) total sizes
          → Next max c h total sizes q start m count stands.room stands.bound
          (applied_part (deed_for c.stack) (place_in (pos (suc n)) (pos (suc n)) c.stack) q m h).nodes
          (holding_top (pos (suc n)) c.stack) (suc c.nodes) total' sizes'
  next t total' sizes' (begins a x kind empty is starts) all e = subst F (sym count)
      (λ f. open_next max c h total sizes q start m count stands.room stands.bound x empty (ap nodes_made is) c.stack kind total' sizes'
      stands.represents.opens stands.says all starts f) e
    where
      F : ℕ → Type 0
      F n = count_of counted.Within total' sizes'
          ≡ counting (bound_of max) (deed_for c.stack) start (place_in (pos (suc n)) (pos (suc n)) c.stack) total sizes
          → Next max c h total sizes q start m count stands.room stands.bound
          (applied_part (deed_for c.stack) (place_in (pos (suc n)) (pos (suc n)) c.stack) q m h).nodes
          (record { node = pos (suc n); key = pos 0; children = 0; is_mapping = kind } ∷ holding_top (pos (suc n)) c.stack)
          (suc c.nodes) total' sizes'
  next t total' sizes' (closes o s end is) all e = closed_next max c h total sizes q start m count stands.room stands.bound o s
      (subst (λ (l : List open_t). Opens (length h.nodes) h.nodes (length h.nodes) l) is stands.represents.opens)
      (subst (λ (l : List open_t). SaysOf limit h.nodes l (get_in sizes) total) is stands.says)
      total' sizes' (sym (ap waiting_in is) ∙ all) e
  next t total' sizes' (passes p) all e =
      let f : total' ≡ total = ap (λ (x : Count). x.total) e in
      let g : sizes' ≡ sizes = ap (λ (x : Count). x.sizes) e in (
        subst (λ (l : List ℕ). c.nodes ≤ length l) (sym g) stands.room,
        let b : total ≤ bound_of max = stands.bound in subst (λ (n : ℕ). n ≤ bound_of max) (sym f) b,
        subst (λ (n : ℕ). SaysOf limit h.nodes c.stack (get_in sizes') n) (sym f)
            (subst (λ (l : List ℕ). SaysOf limit h.nodes c.stack (get_in l) total) (sym g) stands.says),
      )

not_full : (d : Deed) → IsPart d → d ≡ deed.FullStack → ⊥
not_full d t e = subst IsPart e t

-- where the composer stands after an event
module _ (c : Composer) (h : DocumentSoFar) (o : Opening) (stands : Represents c h o) (e : Event) (p : place_t)
    (part : IsPart (composer_step (event_type e.content) (event_fact h e) p c).deed) where
  abbrev pub step : Told
  step = composer_step (event_type e.content) (event_fact h e) p c

  no_end : closing_of e ≡ None
  no_end = grind arith

  pub stays : Represents step.composer (applied step.deed step.place e h) o
  stays = subst (λ (g : DocumentSoFar). Represents step.composer g o) (part_applied step.deed part step.place e h)
      (goes_on c h o stands e no_end p c.room step refl (λ r. not_part step.deed r part) (not_full step.deed part)).stands

-- an event that is composed and counted
module _ (max : ℕ) (c : Composer) (h : DocumentSoFar) (total : ℕ) (sizes : List ℕ) (s : Standing max c h total sizes) (e : Event) (t : Told)
  where
    pub view_of : (count : Count) → Counts max c h total sizes e t count → View c h (part_of e) (is_start (event_type e.content)) t
    view_of n k = grind (arith, view)

    pub same_nodes : (count : Count) → Counts max c h total sizes e t count
        → applied_part t.deed t.place (part_of e) e.end_mark h ≡ applied t.deed t.place e h
    same_nodes n k = part_applied t.deed k.part t.place e h

    pub represented : (count : Count) → Counts max c h total sizes e t count → Represents t.composer (applied t.deed t.place e h) s.opening
    represented n k = subst (λ (x : Told). Represents x.composer (applied x.deed x.place e h) s.opening) (sym k.composed)
        (stays c h s.opening s.represents e k.place (subst (λ (x : Told). IsPart x.deed) k.composed k.part))

    pub steps : (total' : ℕ) (sizes' : List ℕ) → Counts max c h total sizes e t (count_of counted.Within total' sizes')
        → Standing max t.composer (applied t.deed t.place e h) total' sizes'
    steps total' sizes' k =
        let r = next max c h total sizes s (part_of e) (is_start (event_type e.content)) e.end_mark t total' sizes'
        (view_of (count_of counted.Within total' sizes') k) k.all k.counted in
        record {
          opening = s.opening;
          represents = represented (count_of counted.Within total' sizes') k;
          room = r.0;
          bound = r.1;
          says = subst (λ (d : DocumentSoFar). SaysOf limit d.nodes t.composer.stack (get_in sizes') total')
              (same_nodes (count_of counted.Within total' sizes') k) r.2;
        }

pub standing : (max : ℕ) (c : Composer) (h : DocumentSoFar) (total : ℕ) (sizes : List ℕ) → CountRun max c h total sizes
    → Standing max c h total sizes
standing max c h total sizes (run.begins c' o sizes') = record {
  opening = o;
  represents = record { is_within = refl; opening = refl; nodes = refl; opens = tt; carried = none_carried };
  room = omega arith;
  bound = omega arith;
  says = record {
    ended = λ k size lt e m. absurd (omega arith);
    opened = λ k size lt e m. absurd (omega arith);
    stands = inl (refl, refl);
  };
}
standing max c h total sizes (run.moves c' h' total' room sizes' more r) =
    let s = standing max c' h' total' sizes' r in
    let n : c'.nodes ≡ length h'.nodes = s.represents.nodes in
    record {
      opening = s.opening;
      represents = represents_roomy c' h' s.opening room s.represents;
      room = let a : c'.nodes ≤ length sizes' = s.room in omega (arith, a, length-append sizes' more);
      bound = s.bound;
      says = says_same limit (state_of h'.nodes (get_in sizes')) (state_of h'.nodes (get_in (sizes' ++ more)))
          (map (opened_of h'.nodes) c'.stack) total' refl refl
          (λ j lt. get_among sizes' more j (let a : c'.nodes ≤ length sizes' = s.room in omega (arith, a, n, lt))) s.says;
    }
standing max c h total sizes (run.takes c' h' total' total'' sizes' sizes'' e t r counts) =
    steps max c' h' total' sizes' (standing max c' h' total' sizes' r) e t total'' sizes'' counts

forget : (nodes : List yaml_node_t) (g : ℕ → Option ℕ) (ids : List ℤ) (n : ℕ) → Trees limit (state_of nodes g) ids n → TreesHave nodes ids n
forget nodes g ids n none = expansion.none
forget nodes g ids n (first id rest below beside p b s) =
    expansion.first id rest below beside (forget nodes g _ below b) (forget nodes g rest beside s)

pub total_is_size : TotalIsSize
total_is_size max c h total sizes r closed =
    let s = standing max c h total sizes r in
    (go h.nodes (subst (λ (l : List open_t). SaysOf limit h.nodes l (get_in sizes) total) closed s.says), s.bound)
  where
    go : (nodes : List yaml_node_t) → SaysOf limit nodes [] (get_in sizes) total → HasExpandedSize nodes total
    go [] says = elim says.stands [
      | inl e ↦ subst (TreesHave [] []) (sym e.1) expansion.none
      | inr t ↦ absurd (never total t)
    ]
      where
        never : (n : ℕ) → Trees limit (state_of [] (get_in sizes)) (pos 1 ∷ []) n → ⊥
        never n (first id ids below beside p b s) = omega (arith, p.3)
    go (x ∷ nodes) says = elim says.stands [
      | inl e ↦ absurd (omega (arith, e.0))
      | inr t ↦ forget (x ∷ nodes) (get_in sizes) (pos 1 ∷ []) total t
    ]
