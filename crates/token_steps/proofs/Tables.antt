-- A table of handles stands for the document's, and goes on so.
use Rattle.std.proofs.Common.{◌≡◌, ◌==◌, ◌∙◌, ◌++◌, ◌∷◌, ℕ, List, [], Option, None, Some, refl, sym, ap}
use Rattle.std.specs.Prelude.{is_some}
use mathlib.Core.Bool.{true≢false}
use Rattle.std.specs.FinMap.{get}
use Rattle.libyaml_types.specs.Models.{TagDirectiveToken}
use Rattle.libyaml_types.specs.declared.token.unnamed_yaml_token_t_data.TheVariants as tok
use Rattle.libyaml_events.specs.machine.Config.{Handles}
use Rattle.libyaml_events.specs.machine.Machine.{declared_by}
use Rattle.token_steps.specs.Texts.{bit, fact_of}
use Rattle.token_steps.specs.declared.tags.handles.handle_t.{handle_t}
use Rattle.token_steps.specs.Handles.{AreHandlesWithin, bytes_at, handles_at}
use Rattle.token_steps.proofs.Found.{adds, stay}

-- a fact 0 says that there is none
none : (o : Option (List ℕ)) → bit (is_some o) ≡ 0 → o ≡ None
none None e = refl
none (Some x) e = absurd (true≢false (ap (λ (n : ℕ). n == 1) e))

pub declares : (texts more : List ℕ) (table : List handle_t) (entry : handle_t) (hs : Handles)
    (g : TagDirectiveToken)
    → hs ≡ handles_at texts table → AreHandlesWithin texts table → fact_of hs (tok.TagDirective g) ≡ 0
    → bytes_at (texts ++ more) entry.handle ≡ g.handle → bytes_at (texts ++ more) entry.prefix ≡ g.prefix
    → declared_by hs (tok.TagDirective g) ≡ handles_at (texts ++ more) (table ++ entry ∷ [])
declares texts more table entry hs g same within new handle prefix =
    let all : hs ≡ handles_at (texts ++ more) table = same ∙ sym (stay texts more table within) in
    let absent : get (handles_at (texts ++ more) table) (bytes_at (texts ++ more) entry.handle) ≡ None
    = rw (handle, sym all) (none (get hs g.handle) new) in
    sym (adds (texts ++ more) table entry absent ∙ rw (handle, prefix, sym all) refl)
