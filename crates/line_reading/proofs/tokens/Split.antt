-- a text cut at its first separator
use Rattle.std.proofs.Common.{◌≡◌, ◌≢◌, ℕ, ◌==◌, ◌+◌, ◌<◌, ◌≤◌, All, Bool, false, cond, List, [], ◌∷◌, ◌++◌, length, take, drop, get_or, Some, None, refl, ap, sym, ◌∙◌, subst, ne_eqb, eq-eqb, arith}
use Rattle.std.proofs.lemmas.List.{take-append-drop, take_all, at_drop_more, append-nil}
use Rattle.std.proofs.lemmas.List.Elements.{All-weaker, All-head, All-tail}
use Rattle.std.specs.List.{slice_split, onto_first}
use Rattle.line_reading.specs.tokens.Prefixes.{before_byte, after_byte}
use Rattle.line_reading.specs.tokens.Pieces.{pieces_of}

pub no_separator : (c : ℕ) (bs : List ℕ) → All (λ x. x ≢ c) bs → All (λ x. (x == c) ≡ false) bs
no_separator c bs h = All-weaker (λ x. x ≢ c) (λ x. (x == c) ≡ false) (λ x ne. ne_eqb x c ne) bs h

-- the pieces are the first, and those after it
split_cond : (t : Bool) (c b : ℕ) (bs : List ℕ) → slice_split (λ b. b == c) bs ≡ before_byte c bs ∷ pieces_of c
    (after_byte c bs)
    → cond t ([] ∷ slice_split (λ b. b == c) bs) (onto_first b (slice_split (λ b. b == c) bs)) ≡ cond t []
    (b ∷ before_byte c bs)
    ∷ pieces_of c (cond t (Some bs) (after_byte c bs))
split_cond t c b bs h = grind arith

pub split_first : (c : ℕ) (bs : List ℕ) → slice_split (λ b. b == c) bs ≡ before_byte c bs ∷ pieces_of c (after_byte c bs)
split_first c [] = refl
split_first c (b ∷ bs) = split_cond (b == c) c b bs (split_first c bs)

-- a prefix without the separator
pub before-append : (c : ℕ) (l r : List ℕ) → All (λ x. x ≢ c) l → before_byte c (l ++ r) ≡ l ++ before_byte c r
before-append c [] r clean = refl
before-append c (b ∷ l) r clean = cc (ne_eqb b c (All-head (λ x. x ≢ c) b l clean), before-append c l r (All-tail (λ x. x ≢ c) b l clean))

pub behind-append : (c : ℕ) (l r : List ℕ) → All (λ x. x ≢ c) l → after_byte c (l ++ r) ≡ after_byte c r
behind-append c [] r clean = refl
behind-append c (b ∷ l) r clean = cc (ne_eqb b c (All-head (λ x. x ≢ c) b l clean), behind-append c l r (All-tail (λ x. x ≢ c) b l clean))

at_separator : (c x : ℕ) (r : List ℕ) → x ≡ c → (before_byte c (x ∷ r) ≡ []) × (after_byte c (x ∷ r) ≡ Some r)
at_separator c x r e = rw (eq-eqb x c e) (refl, refl)

pub cut_here : (c : ℕ) (bs : List ℕ) (n : ℕ) → n < length bs → All (λ x. x ≢ c) (take n bs) → get_or bs n 0 ≡ c
    → (take n bs ≡ before_byte c bs)
    × (Some (drop (n + 1) bs) ≡ after_byte c bs)
cut_here c bs n h clean at =
    let l = take n bs in
    let r = get_or bs n 0 ∷ drop (n + 1) bs in
    let pieces : bs ≡ l ++ r = sym (take-append-drop n bs) ∙ ap (λ x. l ++ x) (at_drop_more (λ x. x) bs n 0 h) in
    let here = at_separator c (get_or bs n 0) (drop (n + 1) bs) at in (
      sym (ap (before_byte c) pieces ∙ before-append c l r clean ∙ ap (λ x. l ++ x) here.0 ∙ append-nil l),
      sym (ap (after_byte c) pieces ∙ behind-append c l r clean ∙ here.1),
    )

pub cut_nowhere : (c : ℕ) (bs : List ℕ) (n : ℕ) → length bs ≤ n → All (λ x. x ≢ c) (take n bs)
    → (bs ≡ before_byte c bs) × (None ≡ after_byte c bs)
cut_nowhere c bs n h clean =
    let all : All (λ x. x ≢ c) bs = subst (All (λ x. x ≢ c)) (take_all n bs h) clean in (
      sym (ap (before_byte c) (sym (append-nil bs)) ∙ before-append c bs [] all ∙ append-nil bs),
      sym (ap (after_byte c) (sym (append-nil bs)) ∙ behind-append c bs [] all),
    )
