-- How the events of a whole run are gathered, call by call.
use Rattle.std.proofs.Common.{◌≡◌, ◌≢◌, ◌⊎◌, ◌++◌, List, [], ◌∷◌, Option, Some, None, Result, Ok, Err, IfOk, true, sym, ap, ◌∙◌, subst, inl, refl, ⊎_elim}
use Rattle.std.proofs.lemmas.List.{append-nil}
use Rattle.std.specs.declared.alloc.AllocError.{AllocError}
use Rattle.libyaml_types.specs.declared.enums.yaml_error_type_t.TheVariants.{YAML_MEMORY_ERROR}
use Rattle.libyaml_events.specs.sources.Calls.{Gave}
use Rattle.libyaml_events.specs.sources.CallsInTurn.{CarriedOn}
use Rattle.libyaml_events.specs.sources.Determined.{BeginsEachRun}
use Rattle.libyaml_events.specs.machine.Config.{Config, Parser}
use Rattle.libyaml_grammar.specs.grammar.Events.{Event, events}
use Rattle.libyaml_grammar.specs.partial.DeterminedEvents.{Begins}
use Rattle.libyaml_grammar.specs.grammar.Order.{in_order}
use Rattle.libyaml_grammar.specs.grammar.Trees.{Stream, tokens}
use Rattle.libyaml_types.specs.Fault.{Fault, SourceResult, fault_of}
use Rattle.libyaml_events.specs.sources.History.{ForHistory, History, is_over, source_results, kept_fault, new_parser}
use Rattle.libyaml_events.specs.sources.Needs.{EachNeeded}
use Rattle.libyaml_events.specs.sources.Parsing.{CarriesOn, Cause, FailsBy, HasFailed, IsWhole, StopsShort}
use Rattle.libyaml_events.specs.sources.Parsing as parsing
use Rattle.libyaml_grammar.specs.runs.Runs.{Ending, Ends, Fails, IsRun}
use Rattle.libyaml_types.specs.Source.{Follows, coming}
use Rattle.libyaml_grammar.specs.grammar.Tokens.{Token}
use Rattle.libyaml_grammar.proofs.exported.Running.{valid_list_run}
use Rattle.libyaml_types.specs.declared.fault.yaml_parser_t_prefix.{yaml_parser_t_prefix}
use Rattle.libyaml_types.specs.declared.source.yaml_token_source_t.{Ghosts}
use Rattle.libyaml_events.proofs.exported.CallsInTurn.{both_calls, gave_then, no_call, one_call}
use Rattle.libyaml_events.proofs.exported.RunStops.{answers_both}
use Rattle.libyaml_events.proofs.exported.Histories as histories
use Rattle.libyaml_events.proofs.exported.KnownTokens.{asked_prefix, failed_known, short_known, whole_known}
use Rattle.unsafe_libyaml.specs.WholeRun.{Asked, Gathers, RunsTo, StoppedBy, whole, broken_off, ending_of, of_grammar, of_source}
use Rattle.unsafe_libyaml.specs.declared.parse_all.yaml_run_t.{yaml_run_t}

-- what a parser over this source gave since it was made
abbrev pub GaveSoFar : {S : Type 0} → (gives : S → SourceResult → S → Type 0) → (source : S) → (p : Parser S)
    → (given : List Event) → Type 0
GaveSoFar gives source p given = CarriedOn gives (new_parser source) p [] [] given

pub gave_none : {S : Type 0} (gives : S → SourceResult → S → Type 0) (source : S) (p : Parser S) → p ≡ new_parser source
    → History p [] []
    → GaveSoFar gives source p []
gave_none gives source p is h = subst (λ q. CarriedOn gives q p [] [] []) is (no_call gives p p p [] [] h)

pub gave_more : {S : Type 0} (gives : S → SourceResult → S → Type 0) (source : S) (old new : Parser S)
    (given : List Event) (e : Event)
    → (k : GaveSoFar gives source old given) → CarriesOn gives old e new k.more given
    → GaveSoFar gives source new (given ++ e ∷ [])
gave_more gives source old new given e k on
    = both_calls gives (new_parser source) old new [] [] given (e ∷ []) k (one_call gives old old new k.more given e on)

pub none_is_some : (p : yaml_parser_t_prefix) → ◌≡◌ {A = Option yaml_parser_t_prefix} None (Some p) → ⊥
none_is_some p h = cc

the_same : (p q : yaml_parser_t_prefix) → ◌≡◌ {A = Option yaml_parser_t_prefix} (Some p) (Some q) → p ≡ q
the_same p q h = cc

-- nothing that was asked for was not needed
no_answer : (front : List Token) (x : SourceResult) (following : List SourceResult)
    → ◌≡◌ {A = List SourceResult} [] (source_results front (x ∷ following)) → ⊥
no_answer [] x following h = cc
no_answer (t ∷ l) x following h = cc

pub none_needed : (asked : List Token) (given : List Event) → EachNeeded asked [] given
none_needed asked given front x following h = absurd (no_answer front x following h)

stopped_by : (c : Config) (asked : List Token) (given : List Event) (more : List SourceResult) (f : Fault)
    → Cause c asked given more f
    → f.error ≢ YAML_MEMORY_ERROR → StoppedBy asked more given f
stopped_by c asked given more f (parsing.of_memory l a b d e) other = absurd (other (ap (λ (g : Fault). g.error) e))
stopped_by c asked given more f (parsing.of_grammar l a b) other = of_grammar l a b
stopped_by c asked given more f (parsing.of_source l a b d) other = of_source l a b d

-- what a source was asked for, and until a call failed
module _ {S : Type 0} {gives : S → SourceResult → S → Type 0} {source : S} {p : Parser S} {given : List Event}
    (k : GaveSoFar gives source p given) where
  abbrev pub asked_all : Asked gives source k.more [] given
  asked_all = record { stands = p.source; gave = k.gave; needed = k.needed; needed_last = none_needed k.more given }

  abbrev pub asked_until : (new : Parser S) → (fails : FailsBy gives p new k.more given)
      → Asked gives source k.more fails.more given
  asked_until new fails = record {
    stands = new.source;
    gave = gave_then gives k.more fails.more source p.source new.source k.gave fails.gave;
    needed = k.needed;
    needed_last = fails.needed;
  }

-- the error of a call that failed, which is not out of memory
pub stopped_so : {S : Type 0} {gives : S → SourceResult → S → Type 0} {old new : Parser S} {asked : List Token}
    {given : List Event} (p f : yaml_parser_t_prefix)
    → ◌≡◌ {A = Option yaml_parser_t_prefix} (Some p) (Some f) → fault_of p ≡ kept_fault new → p.error ≢ YAML_MEMORY_ERROR
    → (fails : FailsBy gives old new asked given) → StoppedBy asked fails.more given (fault_of f)
stopped_so {S} {gives} {old} {new} {asked} {given} p f is kept other fails =
    subst (λ (q : Fault). StoppedBy asked fails.more given q) (sym kept ∙ ap fault_of (the_same p f is))
    (stopped_by old.config asked given fails.more (kept_fault new) fails.cause
    (λ m. other (ap (λ (q : Fault). q.error) kept ∙ m)))

-- over every source
module _ {S : Type 0} (gives : S → SourceResult → S → Type 0) (source : S) (p : Parser S) (run : yaml_run_t)
    (k : GaveSoFar gives source p run.events.items) where
  pub gathers_all : is_over p ≡ true → run.fault ≡ None → Gathers gives source run
  gathers_all over no_fault = record {
    asked = k.more;
    last = [];
    tokens = asked_all k;
    begins = histories.begins_each p k.more run.events.items k.history;
    begins_run = histories.begins_each_run p k.more run.events.items k.history;
    nests = histories.nests p k.more run.events.items k.history;
    whole = λ (h : run.fault ≡ None). histories.whole p over k.more run.events.items k.history;
    stopped = λ (f : yaml_parser_t_prefix) (h : run.fault ≡ Some f). absurd (none_is_some f (sym no_fault ∙ h));
  }

  -- where the error is not out of memory
  pub gathers_some : (new : Parser S) → ForHistory p (FailsBy gives p new) → (f : yaml_parser_t_prefix)
      → fault_of f ≡ kept_fault new → run.fault ≡ Some f
      → f.error ≢ YAML_MEMORY_ERROR → Gathers gives source run
  gathers_some new fails f kept fault other =
      let by = fails k.more run.events.items k.history in
      record {
        asked = k.more;
        last = by.more;
        tokens = asked_until k new by;
        begins = histories.begins_each p k.more run.events.items k.history;
        begins_run = histories.begins_each_run p k.more run.events.items k.history;
        nests = histories.nests p k.more run.events.items k.history;
        whole = λ (h : run.fault ≡ None). absurd (none_is_some f (sym h ∙ fault));
        stopped = λ (g : yaml_parser_t_prefix) (h : run.fault ≡ Some g). stopped_so f g (sym fault ∙ h) kept other by;
      }

-- what the tokens that were asked for tell of a run
pub record Tells {S : Type 0} (MayBreak : S → Fault → Type 0) (stands : S) (asked : List Token) (last : List SourceResult)
    (given e : List Event) (x : Ending)
    : Type 0 where
  pub whole : IsWhole asked given → (given ≡ e) × (Ends ≡ x)
  pub stopped : (g : Fault) → StoppedBy asked last given g → ((given ≡ e) × (Fails g ≡ x)) ⊎ MayBreak stands g
  pub begins : BeginsEachRun asked given → Begins given e

-- over a source that knows its tokens
module _ {S : Type 0} (g : Ghosts S)
    (follows : (s t : S) (a : SourceResult) → g.gives s a t → Follows (g.may_break t) (g.known s) a (g.known t))
    (source : S) (l : List Token) (f : Fault) (e : List Event) (x : Ending) (is_run : IsRun l f e x)
    (k : g.known source ≡ Some (coming l f)) (asked : List Token) (last : List SourceResult) (given : List Event)
    (a : Asked g.gives source asked last given) where
  stopped_run : (w : Fault) → StoppedBy asked last given w → ((given ≡ e) × (Fails w ≡ x)) ⊎ g.may_break a.stands w
  stopped_run w by = go by
    where
      gave_as : (b : List Token) (r : List SourceResult) → last ≡ source_results b r
          → Gave g.gives source (source_results (asked ++ b) r) a.stands
      gave_as b r i = subst (λ (y : List SourceResult). Gave g.gives source y a.stands)
          (ap (source_results asked) i ∙ answers_both asked b r) a.gave

      go : StoppedBy asked last given w → ((given ≡ e) × (Fails w ≡ x)) ⊎ g.may_break a.stands w
      go (of_grammar b i h) = inl (failed_known g follows [] source a.stands l f k e x is_run (asked ++ b)
          given w (gave_as b [] i) h)
      go (of_source b i c h) = short_known g follows [] source a.stands l f k e x is_run (asked ++ b)
          given w (gave_as b (Err w ∷ []) i) h

  pub tells : Tells g.may_break a.stands asked last given e x
  tells = record {
    whole = whole_known g follows [] source a.stands l f k e x is_run asked given last a.gave;
    stopped = stopped_run;
    begins = λ begins. let (rest, all) = asked_prefix g follows asked last source a.stands a.gave l f k in
        begins rest f e x (subst (λ (y : List Token). IsRun y f e x) all is_run);
  }

pub runs_to : {S : Type 0} (g : Ghosts S) (source : S) (run : yaml_run_t) (w : Gathers g.gives source run)
    (e : List Event) (x : Ending) → Tells g.may_break w.tokens.stands w.asked w.last run.events.items e x
    → RunsTo g source run e x
runs_to g source run w e x tells = go run.fault refl
  where
    whole_so : (y : Ending) → ending_of run.fault ≡ y → (run.events.items ≡ e) × (y ≡ x) → RunsTo g source run e x
    whole_so y i h = whole h.0 (i ∙ h.1)

    go : (o : Option yaml_parser_t_prefix) → run.fault ≡ o → RunsTo g source run e x
    go None i = whole_so Ends (ap ending_of i) (tells.whole (w.whole i))
    go (Some p) i = ⊎_elim (whole_so (Fails (fault_of p)) (ap ending_of i))
        (λ b. broken_off (source_results w.asked w.last) w.tokens.stands (fault_of p) w.tokens.gave b (ap ending_of i)
        (tells.begins w.begins_run))
        (tells.stopped (fault_of p) (w.stopped p i))

-- the run over a tree's tokens
pub tree_runs : (t : Stream) (f : Fault) → in_order t ≡ true → IsRun (tokens t) f (events t) Ends
tree_runs t f o = subst (λ (l : List Token). IsRun l f (events t) Ends) (append-nil (tokens t)) (valid_list_run t [] f o)

pub if_ok : {A : Type 0} (r : Result A AllocError) (P Q : A → Type 0) → IfOk r P → ((a : A) → P a → Q a) → IfOk r Q
if_ok (Ok a) P Q h k = k a h
if_ok (Err e) P Q h k = h
