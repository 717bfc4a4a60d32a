-- The tokens of a list pushed to a loader in turn.
use Rattle.std.proofs.Common.{◌≡◌, ◌⊎◌, inl, inr, ◌++◌, ◌∷◌, ℕ, List, [], Bool, true, false, Ok, Err, refl, sym, ap, ◌∙◌, subst, append_assoc}
use Rattle.std.proofs.lemmas.List.{append-nil}
use Rattle.std.specs.Result.{is_err}
use Rattle.std.proofs.lemmas.Bool.{true≢false}
use Rattle.libyaml_types.specs.declared.token.yaml_token_t.{yaml_token_t}
use Rattle.libyaml_documents.specs.Documents.{Document}
use Rattle.libyaml_types.specs.Fault.{Fault}
use Rattle.libyaml_grammar.specs.runs.Runs.{Ends}
use Rattle.libyaml_grammar.specs.grammar.ValidLists.{has_end}
use Rattle.libyaml_events.specs.sources.Pushes.{Done, done_if}
use Rattle.libyaml_graphs.specs.loads.Loads.{last_load}
use Rattle.libyaml_loader.specs.pushes.Loaded.{ForLoaded, Loaded, PushLoader, loader_fault, loader_has_stopped, loader_keeps_fault}
use Rattle.libyaml_loader.specs.pushes.PushesLoads.{AreThen, PushesLoads, StopsLoading, TakesLoads, by_memory, by_tokens}
use Rattle.example_theorems.specs.Answer.{GivesLoads, LoadsFail}

abbrev Tokens : Type 0
Tokens = List yaml_token_t

abbrev most : ℕ
most = 2147483647

-- after some tokens of a list: those that were taken, and those after the stream's end
pub record LoadTurn (l : PushLoader) (all : Tokens) (documents : List Document) : Type 0 where
  pub taken : Tokens
  pub later : Tokens
  pub parts : all ≡ taken ++ later
  pub loaded : Loaded l taken documents
  pub bound : l.max_entries ≡ most
  pub none_or_end : (later ≡ []) ⊎ (loader_has_stopped l ≡ true)

pub first_load_turn : (l : PushLoader) → Loaded l [] [] → l.max_entries ≡ most → LoadTurn l [] []
first_load_turn l h b = record { taken = []; later = []; parts = refl; loaded = h; bound = b; none_or_end = inl refl }

module _ (Full : Type 0) (old : PushLoader) (t : yaml_token_t) (all : Tokens) (documents : List Document)
    (turn : LoadTurn old all documents) (new : PushLoader)
    (after : List Document) where
  ended_turn : loader_has_stopped old ≡ true → new ≡ old → after ≡ documents → LoadTurn new (all ++ t ∷ []) after
  ended_turn h e f = record {
    taken = turn.taken;
    later = turn.later ++ t ∷ [];
    parts = ap (λ (x : Tokens). x ++ t ∷ []) turn.parts ∙ append_assoc turn.taken turn.later (t ∷ []);
    loaded = subst (λ (x : PushLoader). Loaded x turn.taken after) (sym e)
        (subst (Loaded old turn.taken) (sym f) turn.loaded);
    bound = ap (λ (x : PushLoader). x.max_entries) e ∙ turn.bound;
    none_or_end = inr (ap loader_has_stopped e ∙ h);
  }

  no_end : loader_has_stopped old ≡ false → all ≡ turn.taken
  no_end h = go turn.none_or_end
    where
      go : (turn.later ≡ []) ⊎ (loader_has_stopped old ≡ true) → all ≡ turn.taken
      go (inl e) = turn.parts ∙ (ap (λ (x : Tokens). turn.taken ++ x) e ∙ append-nil turn.taken)
      go (inr e) = absurd (true≢false (sym e ∙ h))

  -- a push without an error
  pub next_load_turn : (r : Done) → is_err r ≡ false → PushesLoads Full old t documents r new after
      → LoadTurn new (all ++ t ∷ []) after
  next_load_turn (Err x) k p = absurd cc
  next_load_turn (Ok u) k p = go (loader_has_stopped old) refl
    where
      go : (b : Bool) → loader_has_stopped old ≡ b → LoadTurn new (all ++ t ∷ []) after
      go true h = let s = p.stopped h in ended_turn h s.0 s.1
      go false h =
          let f : TakesLoads Full old t documents (Ok u) new after = p.takes h in
          record {
            taken = turn.taken ++ t ∷ [];
            later = [];
            parts = ap (λ (x : Tokens). x ++ t ∷ []) (no_end h) ∙ sym (append-nil (turn.taken ++ t ∷ []));
            loaded = subst (Loaded new (turn.taken ++ t ∷ [])) (sym f.appended)
                (f.ends_so turn.taken documents turn.loaded);
            bound = p.bound ∙ turn.bound;
            none_or_end = inl refl;
          }

  -- a push with an error
  pub failed_load_turn : ((l : PushLoader) → ForLoaded l (λ _ _. loader_keeps_fault l ≡ false)) → (r : Done) → is_err r ≡ true
      → PushesLoads Full old t documents r new after → (rest : Tokens) (source : Fault)
      → LoadsFail (all ++ t ∷ rest) source (loader_fault new)
  failed_load_turn faultless (Ok u) k p rest source = absurd cc
  failed_load_turn faultless (Err x) k p rest source = go (loader_has_stopped old) refl
    where
      no_error : (f : Fault) (b : Bool) → b ≡ false → ◌≡◌ {A = Done} (Err x) (done_if b f) → ⊥
      no_error f false e i = cc
      no_error f true e i = cc

      so : StopsLoading Full most (turn.taken ++ t ∷ []) turn.loaded.events after (loader_fault new) → all ≡ turn.taken
          → LoadsFail (all ++ t ∷ rest) source (loader_fault new)
      so (by_memory e more here begins leads m) i = inl e
      so (by_tokens loads) i = inr (
        after,
        subst (λ (y : Tokens). AreThen most y source after (Err (loader_fault new)))
            (append_assoc turn.taken (t ∷ []) rest ∙ ap (λ (y : Tokens). y ++ t ∷ rest) (sym i)) (loads rest source),
      )

      go : (b : Bool) → loader_has_stopped old ≡ b → LoadsFail (all ++ t ∷ rest) source (loader_fault new)
      go true h = absurd (no_error (loader_fault old) (loader_keeps_fault old) (faultless old turn.taken documents turn.loaded)
          (p.stopped h).2)
      go false h =
          let f : TakesLoads Full old t documents (Err x) new after = p.takes h in
          let g = turn.loaded.events in
          let s : StopsLoading Full new.max_entries (turn.taken ++ t ∷ []) g (documents ++ f.added) (loader_fault new) =
          f.ends_so turn.taken documents turn.loaded in
          so (subst (λ (n : ℕ). StopsLoading Full n (turn.taken ++ t ∷ []) g after (loader_fault new)) (p.bound ∙ turn.bound)
          (subst (λ (y : List Document). StopsLoading Full new.max_entries (turn.taken ++ t ∷ []) g y (loader_fault new))
          (sym f.appended) s)) (no_end h)

-- after all tokens
pub last_load_turn : (l : PushLoader) (all : Tokens) (documents : List Document) → LoadTurn l all documents
    → ((k : PushLoader) → ForLoaded k (λ tokens _. loader_has_stopped k ≡ has_end tokens))
    → ((k : PushLoader) → ForLoaded k (λ tokens ds. has_end tokens ≡ false → (source : Fault)
    → AreThen k.max_entries tokens source ds (Err source)))
    → ((k : PushLoader) → ForLoaded k (λ tokens ds. has_end tokens ≡ true → (more : Tokens) (source : Fault)
    → AreThen k.max_entries (tokens ++ more) source ds (last_load Ends)))
    → (source : Fault) → GivesLoads all source documents
last_load_turn l all documents turn ended so_far whole source = go (has_end turn.taken) refl
  where
    go : (b : Bool) → has_end turn.taken ≡ b → GivesLoads all source documents
    go true h = inl (subst (λ (n : ℕ). AreThen n all source documents (last_load Ends)) turn.bound
        (subst (λ (y : Tokens). AreThen l.max_entries y source documents (last_load Ends)) (sym turn.parts)
        (whole l turn.taken documents turn.loaded h turn.later source)))
    go false h = inr (by turn.none_or_end)
      where
        by : (turn.later ≡ []) ⊎ (loader_has_stopped l ≡ true) → AreThen most all source documents (Err source)
        by (inl e) = subst (λ (n : ℕ). AreThen n all source documents (Err source)) turn.bound
            (subst (λ (y : Tokens). AreThen l.max_entries y source documents (Err source))
            (sym (turn.parts ∙ (ap (λ (x : Tokens). turn.taken ++ x) e ∙ append-nil turn.taken)))
            (so_far l turn.taken documents turn.loaded h source))
        by (inr e) = absurd (true≢false (sym e ∙ (ended l turn.taken documents turn.loaded ∙ h)))
