-- A source that copies the tokens of a list, and its laws.
use Rattle.std.specs.Prelude.{◌≡◌, ℕ, ◌+◌, ◌<◌, Ok, Err}
use Rattle.std.proofs.Common.{ap, ◌∙◌, arith}
use Rattle.libyaml_types.specs.Fault.{Fault, SourceResult, memory_fault}

-- what is seen of it: how many tokens are left to copy, and the fault after them
pub record Copies : Type 0 where
  pub left : ℕ
  pub fault : Fault

-- A token, and one fewer is left. Or a fault, with nothing left: the one after the tokens, or a failed allocation's before.
abbrev pub CopiesGive : Copies → SourceResult → Copies → Type 0
CopiesGive s (Ok token) t = (s.left ≡ t.left + 1) × (t.fault ≡ s.fault)
CopiesGive s (Err f) t = (t ≡ record { left = 0; fault = f }) × (s.left ≡ 0 → f ≡ s.fault) × (0 < s.left → f ≡ memory_fault)

copies_end : (t u : Copies) (fault : Fault) (answer : SourceResult) → t ≡ record { left = 0; fault = fault }
    → CopiesGive t answer u → answer ≡ Err fault
copies_end t u fault (Ok token) e k = let none : t.left ≡ 0 = ap (λ (c : Copies). c.left) e
    in absurd (omega (arith, none, k.0))
copies_end t u fault (Err f) e k = ap Err (k.1 (ap (λ (c : Copies). c.left) e) ∙ ap (λ (c : Copies). c.fault) e)

-- where nothing is left the fault is given again
pub gives_repeats : (s t u : Copies) (fault : Fault) (answer : SourceResult) → CopiesGive s (Err fault) t → CopiesGive t answer u
    → answer ≡ Err fault
gives_repeats s t u fault answer h k = copies_end t u fault answer h.0 k
