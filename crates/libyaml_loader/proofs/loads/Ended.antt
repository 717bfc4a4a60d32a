-- After the stream's end a load changes nothing.
use Rattle.std.proofs.Common.{◌≡◌, true, false, sym, ap, ◌∙◌}
use Rattle.std.proofs.lemmas.Bool.{true≢false}
use Rattle.libyaml_events.specs.machine.Config.{Parser}
use Rattle.libyaml_events.specs.sources.History.{is_over}

pub still_ended : {S : Type 0} (first now : Parser S) → (is_over first ≡ true → now ≡ first) → is_over first ≡ true
    → is_over now ≡ true
still_ended first now same ended = ap is_over (same ended) ∙ ended

pub has_not_ended : {S : Type 0} (first now : Parser S) → (is_over first ≡ true → now ≡ first) → is_over now ≡ false
    → is_over first ≡ true → ⊥
has_not_ended first now same runs ended = true≢false (sym (still_ended first now same ended) ∙ runs)
