-- The events of each run begin events that nest, so they nest as far as they go.
use Rattle.std.proofs.Common.{◌≡◌, ◌⊎◌, inl, inr, List, [], ◌∷◌, ◌++◌, refl, sym, ap, ◌∙◌, subst, append_assoc, append-nil}
use Rattle.libyaml_types.specs.declared.event.unnamed_yaml_event_t_data.TheVariants as ev
use Rattle.libyaml_grammar.specs.partial.PartialEvents.{partial_events, shown_partial, sort_of}
use Rattle.libyaml_grammar.specs.partial.PartialTrees.{PartialTree, at_directive, document_due, open_collection, part_due, separator_due}
use Rattle.libyaml_grammar.specs.grammar.Events.{Event, document_end_at, event, events, stream_end_at, stream_start_at}
use Rattle.libyaml_types.specs.Fault.{Fault}
use Rattle.libyaml_grammar.proofs.exported.Given.{gives_all}
use Rattle.libyaml_grammar.specs.grammar.Nesting.{BeginsValue, IsNested, IsOpenDocument, NestsSoFar, DocumentTexts, TextsHavePairs, has_begun, no_texts, none_open, not_begun, one_open, text_after, texts_events, value_events, whole}
use Rattle.libyaml_grammar.proofs.exported.Positions.{Position, between, done, flow_after, in_mapping, position_rest, shown, position_of}
use Rattle.libyaml_grammar.specs.runs.Runs.{Ending, Ends, IsRun, amid_properties, of_viable_prefix, of_partial_tree, of_valid_list}
use Rattle.libyaml_grammar.specs.grammar.Tokens.{Mark, Marks, Token, marks_of}
use Rattle.libyaml_grammar.specs.grammar.Trees.{Stream, following, free, no_directives, sequence}
use Rattle.libyaml_grammar.proofs.exported.Completion.{position_ends}
use Rattle.libyaml_grammar.proofs.exported.Nesting.{events_nest_proof}
use Rattle.libyaml_grammar.proofs.exported.Run.{first_mark, given_shown}
use Rattle.libyaml_grammar.proofs.exported.Running.{ended_run}
use Rattle.libyaml_grammar.proofs.exported.Splits.{Splits, both_split, event_splits, member_end_splits, missing_value_splits, position_splits, value_splits}

-- what a partial tree shows stands before the events after it
partial_splits : (c : PartialTree) (m : Mark) → Splits (shown_partial c m)
partial_splits (document_due d) m = both_split (position_splits (between (following d)) m) (event_splits _)
partial_splits (at_directive (free f) no_directives) m = position_splits (between (free f)) m
partial_splits (at_directive (following d) no_directives) m
    = both_split (position_splits (between (following d)) m) (event_splits _)
partial_splits (part_due c o s ps) m = both_split (position_splits (in_mapping c o s ps) m) (missing_value_splits ps m)
partial_splits (separator_due c e) m = both_split (position_splits (flow_after c e) m) (member_end_splits (sort_of c) e m)
partial_splits c m = position_splits (position_of c) m

-- a tree whose events go on from those of a partial tree
abbrev GoesOn : PartialTree → Mark → Type 0
GoesOn c m = (t : Stream) × (later : List Event) × (events t ≡ shown_partial c m later)

-- the tree that completes a position, and the events of what completes it
completed : (m : Marks) (q : Position)
    → (t : Stream) × (events t ≡ shown q (first_mark (position_rest m q) m.start)
    (gives_all (position_rest m q) q []))
completed m q = let e = position_ends m q in (e.0, given_shown (position_rest m q) q (done e.0) e.1 m.start [])

goes_on : (c : PartialTree) (m : Marks) → GoesOn c m.start
goes_on (at_directive (free f) no_directives) m = let t = completed m (between (free f)) in (t.0, _, t.1)
goes_on (at_directive (following d) no_directives) m = let t = completed m (between (following d)) in (t.0, _, t.1)
goes_on (separator_due (open_collection p o sequence s is) e) m = let t =
    completed m (flow_after (open_collection p o sequence s is) e) in (t.0, _, t.1)
goes_on c m = let t = completed m (position_of c) in (t.0, _, t.1)

-- the events begin events that nest
abbrev pub BeginsNested : List Event → Type 0
BeginsNested l = (rest : List Event) × IsNested (l ++ rest)

tree_begins : (t : Stream) (l rest : List Event) → events t ≡ l ++ rest → BeginsNested l
tree_begins t l rest e = (rest, subst IsNested e (events_nest_proof t))

partial_begins : (c : PartialTree) (b : Token) → BeginsNested (partial_events c b)
partial_begins c b
    = let g = goes_on c (marks_of b) in tree_begins g.0 (partial_events c b) g.1 (g.2
    ∙ (partial_splits c b.start_mark).splits g.1)

pub run_begins : (l : List Token) (f : Fault) (e : List Event) (x : Ending) → IsRun l f e x → BeginsNested e
run_begins l f e x (of_valid_list t a o g h) = tree_begins t e [] (sym g ∙ sym (append-nil e))
run_begins l f e x (of_partial_tree before token after c a i o g h) = subst BeginsNested (sym g) (partial_begins c token)
run_begins l f e x (amid_properties before token after c a i o g h) = subst BeginsNested (sym g) (partial_begins c token)
run_begins l f e x (of_viable_prefix b n s h) =
    let r = s.begins_each b.valid_list.tree b.rest b.valid_list.order (sym b.valid_list.all) in
    tree_begins b.valid_list.tree e r.0 r.1

-- events that begin events that nest: whole documents, and at most one that is open
two_lists : (a b c d : List Event) → a ++ b ≡ c ++ d → ((x : List Event) × (c ≡ a ++ x))
    ⊎ ((x : List Event) × (a ≡ c ++ x) × (x ++ b ≡ d))
two_lists [] b c d e = inl (c, refl)
two_lists (t ∷ a) b [] d e = inr (t ∷ a, refl, e)
two_lists (t ∷ a) b (u ∷ c) d e = go (two_lists a b c d (cc))
  where
    same : t ≡ u
    same = cc

    go : ((x : List Event) × (c ≡ a ++ x)) ⊎ ((x : List Event) × (a ≡ c ++ x) × (x ++ b ≡ d))
        → ((x : List Event) × (u ∷ c ≡ t ∷ (a ++ x)))
        ⊎ ((x : List Event) × (t ∷ a ≡ u ∷ (c ++ x)) × (x ++ b ≡ d))
    go (inl (x, h)) = inl (x, ap (λ (l : List Event). u ∷ l) h ∙ ap (λ (y : Event). y ∷ (a ++ x)) (sym same))
    go (inr (x, h, i)) = inr (x, ap (λ (l : List Event). t ∷ l) h ∙ ap (λ (y : Event). y ∷ (c ++ x)) same, i)

-- where a list ends that begins these documents and what follows them
data EndsIn (l rest : List Event) (ts : DocumentTexts) (r : List Event) : Type 0 where
  among : (us : DocumentTexts) (o : List Event) → l ≡ texts_events us o → TextsHavePairs us → IsOpenDocument o → EndsIn l rest ts r
  past : (k : List Event) → l ≡ texts_events ts k → k ++ rest ≡ r → EndsIn l rest ts r

ends_in : (ts : DocumentTexts) (l rest r : List Event) → TextsHavePairs ts → l ++ rest ≡ texts_events ts r → EndsIn l rest ts r
ends_in no_texts l rest r h e = past l refl e
ends_in (text_after ts d m n v i p q) l rest r h e =
    go (ends_in ts l rest (event (ev.DocumentStart d) m n ∷ value_events v (document_end_at i p q ∷ r)) h.0 e)
  where
    head : Event
    head = event (ev.DocumentStart d) m n

    go : EndsIn l rest ts (event (ev.DocumentStart d) m n ∷ value_events v (document_end_at i p q ∷ r))
        → EndsIn l rest (text_after ts d m n v i p q) r
    go (among us o a b c) = among us o a b c
    go (past [] a b) = among ts [] a h.0 (none_open refl)
    go (past (x ∷ k) a b)
        = further (two_lists k rest (value_events v []) (document_end_at i p q ∷ r) (tails
        ∙ (value_splits v).splits (document_end_at i p q ∷ r)))
      where
        heads : x ≡ event (ev.DocumentStart d) m n
        heads = cc

        tails : k ++ rest ≡ value_events v (document_end_at i p q ∷ r)
        tails = cc

        opens : BeginsValue k → EndsIn l rest (text_after ts d m n v i p q) r
        opens w = among ts (event (ev.DocumentStart d) m n ∷ k)
            (a ∙ ap (λ (y : Event). texts_events ts (y ∷ k)) heads) h.0 (one_open d m n k refl w)

        further : ((y : List Event) × (value_events v [] ≡ k ++ y))
            ⊎ ((y : List Event) × (k ≡ value_events v [] ++ y) × (y ++ rest ≡ document_end_at i p q ∷ r))
            → EndsIn l rest (text_after ts d m n v i p q) r
        further (inl (y, c)) = opens (record { val = v; rest = y; all = c; pairs = h.1 })
        further (inr ([], c, f)) =
            opens (record {
              val = v;
              rest = [];
              all = sym (append-nil (value_events v []))
                  ∙ (sym c ∙ sym (append-nil k));
              pairs = h.1;
            })
        further (inr (y ∷ ys, c, f)) = past ys (a
            ∙ ap (texts_events ts) (ap (λ (z : Event). z ∷ k) heads
            ∙ ap (λ (z : List Event). event (ev.DocumentStart d) m n ∷ z) (c
            ∙ (ap (λ (z : Event). value_events v [] ++ z ∷ ys) first
            ∙ sym ((value_splits v).splits (document_end_at i p q ∷ ys)))))) others
          where
            first : y ≡ document_end_at i p q
            first = cc

            others : ys ++ rest ≡ r
            others = cc

pub prefix_nests : (l rest : List Event) → IsNested (l ++ rest) → NestsSoFar l
prefix_nests [] rest n = not_begun refl
prefix_nests (x ∷ l) rest n = go (ends_in n.texts l rest (stream_end_at n.end n.end_end ∷ []) n.pairs tails)
  where
    all : x ∷ (l ++ rest) ≡ stream_start_at n.head n.start n.start_end ∷ texts_events n.texts
        (stream_end_at n.end n.end_end ∷ [])
    all = n.all

    heads : x ≡ stream_start_at n.head n.start n.start_end
    heads = let e = all in cc

    tails : l ++ rest ≡ texts_events n.texts (stream_end_at n.end n.end_end ∷ [])
    tails = let e = all in cc

    after_start : (k : List Event) → l ≡ k → x ∷ l ≡ stream_start_at n.head n.start n.start_end ∷ k
    after_start k e = ap (λ (z : List Event). x ∷ z) e ∙ ap (λ (y : Event). y ∷ k) heads

    begun : (us : DocumentTexts) (o : List Event) → l ≡ texts_events us o → TextsHavePairs us → IsOpenDocument o
        → NestsSoFar (x ∷ l)
    begun us o a b c = has_begun (record {
      head = n.head;
      start = n.start;
      start_end = n.start_end;
      texts = us;
      open_document = o;
      all
          = after_start (texts_events us o) a;
      pairs = b;
      is_open = c;
    })

    go : EndsIn l rest n.texts (stream_end_at n.end n.end_end ∷ []) → NestsSoFar (x ∷ l)
    go (among us o a b c) = begun us o a b c
    go (past [] a b) = begun n.texts [] a n.pairs (none_open refl)
    go (past (y ∷ []) a b) = whole
        (record {
          head = n.head;
          start = n.start;
          start_end = n.start_end;
          texts = n.texts;
          end = n.end;
          end_end = n.end_end;
          all
              = after_start (texts_events n.texts (stream_end_at n.end n.end_end ∷ []))
              (a ∙ ap (λ (z : Event). texts_events n.texts (z ∷ [])) last);
          pairs
              = n.pairs;
        })
      where
        last : y ≡ stream_end_at n.end n.end_end
        last = cc
    go (past (y ∷ z ∷ k) a b) = absurd (no (z ∷ (k ++ rest)) others)
      where
        others : z ∷ (k ++ rest) ≡ []
        others = cc

        no : (u : List Event) → z ∷ (k ++ rest) ≡ [] → ⊥
        no u h = cc

pub run_nests_so_far : (l : List Token) (f : Fault) (e : List Event) (x : Ending) → IsRun l f e x → NestsSoFar e
run_nests_so_far l f e x r = let b = run_begins l f e x r in prefix_nests e b.0 b.1

-- and so does what begins the events of a run
pub run_prefix_nests : (l : List Token) (f : Fault) (e : List Event) (x : Ending) → IsRun l f e x
    → (d later : List Event) → e ≡ d ++ later → NestsSoFar d
run_prefix_nests l f e x r d later h =
    let b = run_begins l f e x r in
    prefix_nests d (later ++ b.0) (subst IsNested (ap (λ (y : List Event). y ++ b.0) h ∙ append_assoc d later b.0) b.1)

pub ended_nests : (l : List Token) (f : Fault) (e : List Event) → IsRun l f e Ends → IsNested e
ended_nests l f e r = let t = ended_run l f e r in subst IsNested (sym t.3) (events_nest_proof t.0)
