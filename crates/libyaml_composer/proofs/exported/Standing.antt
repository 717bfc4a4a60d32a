-- Whoever does what the composer's deeds say stands where the loader's machine does, and has the documents that it gave.
use Rattle.std.proofs.Common.{◌≡◌, ◌++◌, ◌∷◌, List, [], ℕ, refl, sym, ap, subst, ◌∙◌, Option, Some, None, Bool, true, false, Err, true≢false, arith}
use Rattle.libyaml_types.specs.Types.{event_type}
use Rattle.libyaml_types.specs.declared.event.unnamed_yaml_event_t_data.TheVariants as ev
use Rattle.libyaml_types.specs.declared.event.unnamed_yaml_event_t_data.{unnamed_yaml_event_t_data}
use Rattle.libyaml_grammar.specs.grammar.Events.{Event}
use Rattle.libyaml_grammar.specs.runs.Runs.{Ending}
use Rattle.libyaml_documents.specs.Documents.{Document}
use Rattle.libyaml_graphs.specs.graphs.GraphParts.{Closing, Opening, closing_in, closing_of, opening_in, opening_of, part_of}
use Rattle.libyaml_graphs.specs.loads.Bounds.{bounded_loads}
use Rattle.libyaml_graphs.specs.loads.Leads.{Leads, as_loads, loads_from}
use Rattle.libyaml_graphs.specs.loads.Loads.{Load, document}
use Rattle.libyaml_graphs.specs.machine.Loader.{State, between, bounded_option, no_anchors, within}
use Rattle.libyaml_composer.specs.declared.deed.Deed.{Deed}
use Rattle.libyaml_composer.specs.declared.deed.Deed.TheVariants as deed
use Rattle.libyaml_composer.specs.declared.records.place_t.{place_t}
use Rattle.libyaml_composer.specs.Composing.{Composer, Told, between_step, composer_step, step_in, told, within_step}
use Rattle.libyaml_composer.specs.DocumentSoFar.{DocumentSoFar, applied, event_fact, deed_fault, given, loader_by, state_in, loader_state, IsRefused}
use Rattle.libyaml_composer.specs.Represents.{IsPart, Represents}
use Rattle.libyaml_composer.proofs.exported.Deeds.{none_carried, part_applied}
use Rattle.libyaml_composer.proofs.exported.Follows.{Goes, fails_so, goes_on}
use Rattle.libyaml_graphs.proofs.exported.Leading.{closes_there, goes_there, leads_both, opens_there, passes_by, refused_there}

-- where a caller stands after these events
pub record Stood (most : ℕ) (c : Composer) (h : DocumentSoFar) (es : List Event) (ds : List Document) : Type 0 where
  pub bound : c.most ≡ most
  pub leads : Leads most between es ds (loader_state c h)
  pub standing : c.is_within ≡ true → (o : Opening) × Represents c h o

-- one event
pub record Steps (c : Composer) (h : DocumentSoFar) (e : Event) (t : Told) : Type 0 where
  pub bound : t.composer.most ≡ c.most
  pub leads : Leads c.most (loader_state c h) (e ∷ []) (given t.deed e h) (loader_state t.composer (applied t.deed t.place e h))
  pub standing : t.composer.is_within ≡ true → (o : Opening) × Represents t.composer (applied t.deed t.place e h) o

-- the deeds of parts
part_gives : (d : Deed) → IsPart d → (e : Event) (h : DocumentSoFar) → [] ≡ given d e h
part_gives d k e h = grind arith

-- it refuses nothing, and had room
abbrev pub Takes : Deed → Type 0
Takes d = (IsRefused d → ⊥) × (d ≡ deed.FullStack → ⊥)

-- between documents
module _ (c : Composer) (h : DocumentSoFar) (e : Event) (p : place_t) (out : c.is_within ≡ false) where
  state_out : between ≡ loader_state c h
  state_out = ap (λ (b : Bool). state_in b h.opening (loader_by c h)) (sym out)

  passes : opening_of e ≡ None → Steps c h e (told deed.Passes p c)
  passes none = record {
    bound = refl;
    leads = subst (λ (s : State). Leads c.most s (e ∷ []) [] s) state_out (passes_by c.most e none);
    standing = λ w. absurd (true≢false (sym w ∙ out));
  }

  opens : (o : Opening) → opening_of e ≡ Some o
      → Steps c h e (told deed.Begins p (record c { is_within = true; nodes = 0; stack = [] }))
  opens o is = record {
    bound = refl;
    leads = subst (λ (s : State). Leads c.most s (e ∷ []) [] (loader_state (record c { is_within = true; nodes = 0; stack = [] })
        (record { opening = opening_of e; nodes = []; anchors = no_anchors }))) state_out
        (subst (λ (x : Option Opening). Leads c.most between (e ∷ []) []
        (loader_state (record c { is_within = true; nodes = 0; stack = [] }) (record { opening = x; nodes = []; anchors = no_anchors })))
        (sym is) (opens_there c.most e o is));
    standing = λ w. (o, record { is_within = refl; opening = is; nodes = refl; opens = tt; carried = none_carried });
  }

  steps_between : Steps c h e (between_step (event_type e.content) p c)
  steps_between = go e.content refl
    where
      go : (k : unnamed_yaml_event_t_data) → k ≡ e.content → Steps c h e (between_step (event_type k) p c)
      go (ev.DocumentStart d) is = opens (record { start = d; mark = e.start_mark })
          (ap (λ (k : unnamed_yaml_event_t_data). opening_in k e.start_mark) (sym is))
      go _ is = passes (ap (λ (k : unnamed_yaml_event_t_data). opening_in k e.start_mark) (sym is))

-- within one
module _ (c : Composer) (h : DocumentSoFar) (e : Event) (p : place_t) (inside : c.is_within ≡ true) (o : Opening)
    (stands : Represents c h o) where
  abbrev step : Told
  step = within_step (event_type e.content) (event_fact h e) p c

  state_inside : within o (loader_by c h) ≡ loader_state c h
  state_inside = ap (λ (x : Option Opening). state_in true x (loader_by c h)) (sym stands.opening)
      ∙ ap (λ (b : Bool). state_in b h.opening (loader_by c h)) (sym inside)

  closes : (k : Closing) → closing_of e ≡ Some k → Steps c h e (told deed.Ends p (record c { is_within = false }))
  closes k is = record {
    bound = refl;
    leads = rw state_inside at (rw gives at (closes_there c.most o (loader_by c h) e k is));
    standing = λ w. absurd (true≢false (sym w));
  }
    where
      gives : document o h.nodes k ∷ [] ≡ given deed.Ends e h
      gives = rw (stands.opening, is) refl

  told_inside : step ≡ composer_step (event_type e.content) (event_fact h e) p c
  told_inside = ap (λ (b : Bool). step_in b (event_type e.content) (event_fact h e) p c) (sym inside)

  parts : closing_of e ≡ None → Takes step.deed → Steps c h e step
  parts without taken = go step (goes_on c h o stands e without p c.room step told_inside taken.0 taken.1)
    where
      go : (t : Told) → Goes c.most o h c.stack (part_of e) e.end_mark (bounded_option c.most (loader_by c h) (part_of e)) t
          → Steps c h e t
      go t g =
          let same = part_applied t.deed g.part t.place e h in
          let there : Represents t.composer (applied t.deed t.place e h) o = rw same at g.stands in
          record {
            bound = g.bound;
            leads = rw (part_gives t.deed g.part e h) at (rw state_inside at
                (rw (ap (λ (x : Option Opening). state_in true x (loader_by t.composer (applied t.deed t.place e h)))
                (sym there.opening) ∙ ap (λ (b : Bool). state_in b (applied t.deed t.place e h).opening (loader_by
                t.composer (applied t.deed t.place e h))) (sym there.is_within)) at
                (goes_there c.most o (loader_by c h) (loader_by t.composer (applied t.deed t.place e h)) e without
                (rw same at g.leads))));
            standing = λ w. (o, there);
          }

  steps_within : Takes step.deed → Steps c h e step
  steps_within taken = by (closing_of e) refl
    where
      ends : (k : unnamed_yaml_event_t_data) (x : Closing) → closing_in k e.end_mark ≡ Some x
          → told deed.Ends p (record c { is_within = false }) ≡ within_step (event_type k) (event_fact h e) p c
      ends k x is = grind arith

      by : (x : Option Closing) → closing_of e ≡ x → Steps c h e step
      by None is = parts is taken
      by (Some k) is = subst (Steps c h e) (ends e.content k is) (closes k is)

  refused : IsRefused step.deed → (rest : List Event) (x : Ending) → loads_from c.most (loader_state c h) (e ∷ rest) x
      ≡ Err (deed_fault step.deed h e) ∷ []
  refused is rest x = by (closing_of e) refl
    where
      not_end : (k : unnamed_yaml_event_t_data) (y : Closing) → closing_in k e.end_mark ≡ Some y
          → IsRefused (within_step (event_type k) (event_fact h e) p c).deed → ⊥
      not_end k y is r = grind arith

      by : (y : Option Closing) → closing_of e ≡ y → loads_from c.most (loader_state c h) (e ∷ rest) x
          ≡ Err (deed_fault step.deed h e) ∷ []
      by None y = subst (λ (s : State). loads_from c.most s (e ∷ rest) x ≡ Err (deed_fault step.deed h e) ∷ []) state_inside
          (refused_there c.most o (loader_by c h) e (deed_fault step.deed h e) y (fails_so c h o stands e y p c.room step told_inside is) rest x)
      by (Some k) y = absurd (not_end e.content k y is)

-- an event of a stream
module _ (most : ℕ) (c : Composer) (h : DocumentSoFar) (es : List Event) (ds : List Document) (stood : Stood most c h es ds)
    (e : Event) (p : place_t) where
  steps : Takes (composer_step (event_type e.content) (event_fact h e) p c).deed
      → Steps c h e (composer_step (event_type e.content) (event_fact h e) p c)
  steps taken = by c.is_within refl taken
    where
      by : (b : Bool) → c.is_within ≡ b → Takes (step_in b (event_type e.content) (event_fact h e) p c).deed
          → Steps c h e (step_in b (event_type e.content) (event_fact h e) p c)
      by false out taken = steps_between c h e p out
      by true inside taken = let (o, stands) = stood.standing inside in steps_within c h e p inside o stands taken

  pub stands_on : (t : Told) → t ≡ composer_step (event_type e.content) (event_fact h e) p c → Takes t.deed
      → Stood most t.composer (applied t.deed t.place e h) (es ++ e ∷ []) (ds ++ given t.deed e h)
  stands_on t is taken =
      let s : Steps c h e t = subst (Steps c h e) (sym is) (steps (rw is at taken)) in
      record {
        bound = s.bound ∙ stood.bound;
        leads = leads_both most between (loader_state c h) _ es (e ∷ []) ds (given t.deed e h) stood.leads
            (rw stood.bound at s.leads);
        standing = s.standing;
      }

  pub refuses : (t : Told) → t ≡ composer_step (event_type e.content) (event_fact h e) p c → IsRefused t.deed
      → (rest : List Event) (x : Ending)
      → bounded_loads most (es ++ e ∷ rest) x ≡ as_loads ds ++ Err (deed_fault t.deed h e) ∷ []
  refuses t is r rest x = stood.leads.loads (e ∷ rest) x ∙ ap (λ (l : List Load). as_loads ds ++ l)
      (rw stood.bound at (rw (← is) at (by c.is_within refl (rw is at r))))
    where
      none : (k : unnamed_yaml_event_t_data) → IsRefused (between_step (event_type k) p c).deed → ⊥
      none k r = grind arith

      by : (b : Bool) → c.is_within ≡ b → IsRefused (step_in b (event_type e.content) (event_fact h e) p c).deed
          → loads_from c.most (loader_state c h) (e ∷ rest) x
          ≡ Err (deed_fault (step_in b (event_type e.content) (event_fact h e) p c).deed h e) ∷ []
      by false out r = absurd (none e.content r)
      by true inside r = let (o, stands) = stood.standing inside in refused c h e p inside o stands r rest x
