-- The loads within a bound are a prefix of the loads, and then out of memory where the bound was met.
use Rattle.std.proofs.Common.{◌≡◌, ◌⊎◌, ◌++◌, ◌∷◌, ℕ, List, [], length, map, nat_lt, Option, Some, None, Bool, true, false, Ok, Err, refl, sym, ap, subst, inl, inr}
use Rattle.libyaml_documents.specs.Documents.{Document}
use Rattle.libyaml_types.specs.Fault.{memory_fault, Fault}
use Rattle.libyaml_grammar.specs.runs.Runs.{Ending}
use Rattle.libyaml_grammar.specs.grammar.Events.{Event}
use Rattle.libyaml_graphs.specs.loads.Bounds.{NoneLacksMemory, bounded_loads, first_stop, if_above, if_wrong, list_sizes, one_above}
use Rattle.libyaml_graphs.specs.graphs.ComposerFaults.{composer_fault, or_else, composer_part_fault}
use Rattle.libyaml_graphs.specs.graphs.Graphs.{Start}
use Rattle.libyaml_graphs.specs.loads.Loads.{Begun, Load, begun, document, end_of_document, last_load, load_then, loads, loads_by}
use Rattle.libyaml_graphs.specs.graphs.GraphParts.{Closing, Part, following, graph, parts}
use Rattle.libyaml_graphs.proofs.loads.Room.{bound_exact}

-- The loads within the bound are the loads; or they are the first of them, which are these documents, and out of memory.
pub data IsPrefixTree (within all : List Load) : Type 0 where
  same : within ≡ all → IsPrefixTree within all
  met : (documents : List Document) (rest : List Load)
      → ◌≡◌ {A = List Load} within (map Ok documents ++ Err memory_fault ∷ [])
      → ◌≡◌ {A = List Load} all (map Ok documents ++ rest) → IsPrefixTree within all

some_is : (f g : Fault) → ◌≡◌ {A = Option Fault} (Some g) (Some f) → f ≡ g
some_is f g h = cc

-- what stops a load is out of memory, or its composer error
stop_or : (a b : Bool) (w o c : Option Fault) (f : Fault) → (o ≡ Some f → (f ≡ memory_fault) ⊎ (c ≡ Some f))
    → if_above a (if_wrong w (if_above b o)) ≡ Some f
    → (f ≡ memory_fault) ⊎ (or_else w c ≡ Some f)
stop_or true b w o c f k e = inl (some_is f memory_fault e)
stop_or false b (Some g) o c f k e = inr e
stop_or false true None o c f k e = inl (some_is f memory_fault e)
stop_or false false None o c f k e = k e

stops : (P : List Part) (es : List Start) (F : List Part) (n : ℕ) (f : Fault) → first_stop n es F P ≡ Some f
    → (f ≡ memory_fault)
    ⊎ (composer_fault es P ≡ Some f)
stops [] es F n f e = absurd cc
stops (p ∷ P) es F n f e =
    stop_or (nat_lt n (length (following p es))) (one_above n (list_sizes [] (F ++ p ∷ []))) (composer_part_fault es p)
    (first_stop n (following p es) (F ++ p ∷ []) P)
    (composer_fault (following p es) P) f (stops P (following p es) (F ++ p ∷ []) n f) e

one_more : (d : Document) (b l : List Load) → IsPrefixTree b l → IsPrefixTree (Ok d ∷ b) (Ok d ∷ l)
one_more d b l (same e) = same (ap (λ (m : List Load). Ok d ∷ m) e)
one_more d b l (met ds rest i j) = met (d ∷ ds) rest (ap (λ (m : List Load). Ok d ∷ m) i)
    (ap (λ (m : List Load). Ok d ∷ m) j)

-- of a document
text_prefix : (n : ℕ) (b : Begun) (x : Ending) (c : Option Closing) (g : Option Fault)
    → first_stop n [] [] (parts b.rest) ≡ g → (l m : List Load) → IsPrefixTree l m
    → IsPrefixTree (load_then g c b.opening (graph [] (parts b.rest)) (last_load x) l)
    (load_then (composer_fault [] (parts b.rest)) c b.opening (graph [] (parts b.rest)) (last_load x) m)
text_prefix n b x c (Some f) e l m later = go (stops (parts b.rest) [] [] n f e)
  where
    all : Option Fault → List Load
    all g = load_then g c b.opening (graph [] (parts b.rest)) (last_load x) m

    only : Fault → List Load
    only g = Err g ∷ []

    go : (f ≡ memory_fault) ⊎ (composer_fault [] (parts b.rest) ≡ Some f)
        → IsPrefixTree (Err f ∷ []) (all (composer_fault [] (parts b.rest)))
    go (inl h) = met [] (all (composer_fault [] (parts b.rest))) (ap only h) refl
    go (inr h) = same (ap all (sym h))
text_prefix n b x c None e l m later
    = subst (λ (g : Option Fault). IsPrefixTree (load_then None c b.opening (graph [] (parts b.rest)) (last_load x) l)
    (load_then g c b.opening (graph [] (parts b.rest)) (last_load x) m)) (sym ((bound_exact (parts b.rest) n).0 e).0) (go c)
  where
    go : (d : Option Closing) → IsPrefixTree (load_then None d b.opening (graph [] (parts b.rest)) (last_load x) l)
        (load_then None d b.opening (graph [] (parts b.rest)) (last_load x) m)
    go (Some d) = one_more (document b.opening (graph [] (parts b.rest)) d) l m later
    go None = same refl

prefix_of : (bs : List Begun) (x : Ending) (n : ℕ)
    → IsPrefixTree (loads_by (first_stop n [] []) x bs) (loads_by (composer_fault []) x bs)
prefix_of [] x n = same refl
prefix_of (b ∷ bs) x n = text_prefix n b x (end_of_document b.rest) (first_stop n [] [] (parts b.rest)) refl _ _
    (prefix_of bs x n)

pub prefix_of_loads : (r : List Event) (x : Ending) (n : ℕ) → IsPrefixTree (bounded_loads n r x) (loads r x)
prefix_of_loads r x n = prefix_of (begun r) x n

-- so where no load within the bound is out of memory, the bound was not met
lacks_memory : (ds : List Document) → NoneLacksMemory (map Ok ds ++ Err memory_fault ∷ []) → ⊥
lacks_memory [] h = h.0 refl
lacks_memory (d ∷ ds) h = lacks_memory ds h

not_met : (within all : List Load) → IsPrefixTree within all → NoneLacksMemory within → within ≡ all
not_met within all (same e) h = e
not_met within all (met ds rest i j) h = absurd (lacks_memory ds (subst NoneLacksMemory i h))

pub unmet_loads : (r : List Event) (x : Ending) (n : ℕ) → NoneLacksMemory (bounded_loads n r x)
    → bounded_loads n r x ≡ loads r x
unmet_loads r x n = not_met (bounded_loads n r x) (loads r x) (prefix_of_loads r x n)
