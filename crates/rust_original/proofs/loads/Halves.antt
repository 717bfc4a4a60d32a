-- The original's nodes beside ours: a mapping whose key waits has a pair without value there.
use Rattle.std.proofs.Common.{◌≡◌, ◌∷◌, ◌++◌, ◌&&◌, ℕ, zero, suc, ℤ, pos, List, [], Option, Some, None, Bool, true, false, not, refl, ap, arith}
use Rattle.libyaml_documents.specs.Nodes.{changed_at}
use Rattle.libyaml_documents.specs.declared.node.unnamed_yaml_node_t_data.{unnamed_yaml_node_t_data}
use Rattle.libyaml_documents.specs.declared.node.unnamed_yaml_node_t_data.TheVariants.{Scalar, Sequence, Mapping}
use Rattle.libyaml_documents.specs.declared.node.yaml_node_t.{yaml_node_t}
use Rattle.libyaml_documents.specs.declared.pairs.yaml_node_pair_t.{yaml_node_pair_t}
use Rattle.libyaml_grammar.specs.grammar.Tokens.{Mark}
use Rattle.libyaml_graphs.specs.machine.Loader.{content_and_child, key_after_child}
use Rattle.libyaml_graphs.proofs.exported.Building.{Held, change, end_at, hold}
use Rattle.rust_original.specs.loader.Loader as orig_loader
use Rattle.rust_original.specs.loader.Loader.{with_value}

-- a mapping whose key waits has a pair without value there
abbrev pub with_half : Option ℤ → unnamed_yaml_node_t_data → unnamed_yaml_node_t_data
with_half None c = c
with_half (Some k) (Scalar s) = Scalar s
with_half (Some k) (Sequence s) = Sequence s
with_half (Some k) (Mapping m) = Mapping (record m { pairs = m.pairs ++ record { key = k; value = pos 0 } ∷ [] })

abbrev pub half : Held → yaml_node_t
half h = record {
  tag = h.node.tag;
  content = with_half h.key h.node.content;
  start_mark = h.node.start_mark;
  end_mark =
      h.node.end_mark;
}

abbrev pub halves : List Held → List yaml_node_t
halves [] = []
halves (h ∷ hs) = half h ∷ halves hs

abbrev pub IsId : ℤ → Type 0
IsId (pos (suc n)) = Unit {0}
IsId _ = ⊥

abbrev pub AllFull : List yaml_node_pair_t → Type 0
AllFull [] = Unit {0}
AllFull (p ∷ ps) = IsId p.value × AllFull ps

abbrev pub Sound : Option ℤ → unnamed_yaml_node_t_data → Type 0
Sound None (Scalar s) = Unit {0}
Sound None (Sequence s) = Unit {0}
Sound None (Mapping m) = AllFull m.pairs
Sound (Some k) (Scalar s) = ⊥
Sound (Some k) (Sequence s) = ⊥
Sound (Some k) (Mapping m) = IsId k × AllFull m.pairs

abbrev pub AllSound : List Held → Type 0
AllSound [] = Unit {0}
AllSound (h ∷ hs) = Sound h.key h.node.content × AllSound hs

-- pairs
id_not_zero : (z : ℤ) → IsId z → orig_loader.is_zero z ≡ false
id_not_zero z h = grind arith

pub none_waits : (ps : List yaml_node_pair_t) → AllFull ps → orig_loader.waits ps ≡ false
none_waits [] h = refl
none_waits (p ∷ []) h = grind (arith, id_not_zero)
none_waits (p ∷ q ∷ ps) h = none_waits (q ∷ ps) h.1

pub last_waits : (ps : List yaml_node_pair_t) (k : ℤ) → IsId k
    → orig_loader.waits (ps ++ record { key = k; value = pos 0 } ∷ []) ≡ true
last_waits [] k h = ap (λ (u : Bool). not u && true) (id_not_zero k h)
last_waits (p ∷ []) k h = last_waits [] k h
last_waits (p ∷ q ∷ ps) k h = last_waits (q ∷ ps) k h

last_value : (i : ℕ) (ps : List yaml_node_pair_t) (k : ℤ)
    → with_value i (ps ++ record { key = k; value = pos 0 } ∷ []) ≡ ps ++ record { key = k; value = pos i } ∷ []
last_value i [] k = refl
last_value i (p ∷ []) k = refl
last_value i (p ∷ q ∷ ps) k = ap (λ (l : List yaml_node_pair_t). p ∷ l) (last_value i (q ∷ ps) k)

full_append : (ps : List yaml_node_pair_t) (p : yaml_node_pair_t) → AllFull ps → IsId p.value → AllFull (ps ++ p ∷ [])
full_append [] p h i = (i, tt)
full_append (q ∷ ps) p h i = (h.0, full_append ps p h.1 i)

-- a child handed to a node
added : (i : ℕ) (k : Option ℤ) (c : unnamed_yaml_node_t_data) → Sound k c
    → orig_loader.content_with_child (suc i) (with_half k c) ≡ with_half (key_after_child k (pos (suc i)) c)
    (content_and_child k (pos (suc i)) c)
added i k c h = grind (arith, none_waits, last_waits, last_value)

stays_sound : (i : ℕ) (k : Option ℤ) (c : unnamed_yaml_node_t_data) → Sound k c
    → Sound (key_after_child k (pos (suc i)) c) (content_and_child k (pos (suc i)) c)
stays_sound i k c h = grind (arith, full_append)

abbrev with_child_there : ℕ → yaml_node_t → yaml_node_t
with_child_there i x = record x { content = orig_loader.content_with_child i x.content }

pub held_there : (p i : ℕ) (hs : List Held) → AllSound hs
    → changed_at p (with_child_there (suc i)) (halves hs) ≡ halves (change p (hold (suc i)) hs)
held_there p i [] h = refl
held_there zero i (x ∷ hs) h = grind (arith, added i x.key x.node.content h.0)
held_there (suc p) i (x ∷ hs) h = cc (held_there p i hs h.1)

pub hold_sound : (p i : ℕ) (hs : List Held) → AllSound hs → AllSound (change p (hold (suc i)) hs)
hold_sound p i [] h = tt
hold_sound zero i (x ∷ hs) h = (stays_sound i x.key x.node.content h.0, h.1)
hold_sound (suc p) i (x ∷ hs) h = (h.0, hold_sound p i hs h.1)

abbrev with_end_there : Mark → yaml_node_t → yaml_node_t
with_end_there m x = record x { end_mark = m }

pub ended_there : (p : ℕ) (m : Mark) (hs : List Held)
    → changed_at p (with_end_there m) (halves hs) ≡ halves (change p (end_at m) hs)
ended_there p m [] = refl
ended_there zero m (x ∷ hs) = refl
ended_there (suc p) m (x ∷ hs) = ap (λ (l : List yaml_node_t). half x ∷ l) (ended_there p m hs)

pub end_sound : (p : ℕ) (m : Mark) (hs : List Held) → AllSound hs → AllSound (change p (end_at m) hs)
end_sound p m [] h = tt
end_sound zero m (x ∷ hs) h = h
end_sound (suc p) m (x ∷ hs) h = (h.0, end_sound p m hs h.1)
