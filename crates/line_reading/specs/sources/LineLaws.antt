-- the first line of an input, and what follows it
use Rattle.std.proofs.Common.{◌≡◌, ℕ, ◌==◌, Bool, true, false, cond, List, [], ◌∷◌, refl, ap, sym, ◌⊎◌, inl, inr}
use Rattle.std.specs.List.{slice_split, onto_first}
use Rattle.line_reading.specs.sources.ReadLines.{last_line, lines_of_pieces, lines, after_line}

-- the pieces of an input are one at least
abbrev pub HasPieces : List (List ℕ) → Type 0
HasPieces pieces = (f : List ℕ) × ((r : List (List ℕ)) × (pieces ≡ f ∷ r))

pieces_onto : (b : ℕ) (pieces : List (List ℕ)) → HasPieces (onto_first b pieces)
pieces_onto b [] = (b ∷ [], ([], refl))
pieces_onto b (f ∷ r) = (b ∷ f, (r, refl))

pieces_cond : (t : Bool) (b : ℕ) (pieces : List (List ℕ)) → HasPieces (cond t ([] ∷ pieces) (onto_first b pieces))
pieces_cond true b pieces = ([], (pieces, refl))
pieces_cond false b pieces = pieces_onto b pieces

pub has_pieces : (bs : List ℕ) → HasPieces (slice_split (λ b. b == 10) bs)
has_pieces [] = ([], ([], refl))
has_pieces (b ∷ bs) = pieces_cond (b == 10) b (slice_split (λ b. b == 10) bs)

pub lines_of_more : (l : List ℕ) (pieces : List (List ℕ)) → HasPieces pieces
    → lines_of_pieces (l ∷ pieces) ≡ l ∷ lines_of_pieces pieces
lines_of_more l pieces h = rw h.1.1 refl

abbrev Ends : List (List ℕ) → List ℕ → Type 0
Ends pieces behind = (f : List ℕ) × ((pieces ≡ f ∷ []) × (behind ≡ []))

abbrev LineGoesOn : List (List ℕ) → List ℕ → Type 0
LineGoesOn pieces behind = (f : List ℕ) × (pieces ≡ f ∷ slice_split (λ b. b == 10) behind)

abbrev LineShape : List (List ℕ) → List ℕ → Type 0
LineShape pieces behind = Ends pieces behind ⊎ LineGoesOn pieces behind

shape_onto : (b : ℕ) (pieces : List (List ℕ)) (behind : List ℕ) → LineShape pieces behind → LineShape (onto_first b pieces) behind
shape_onto b pieces behind (inl h) = inl (b ∷ h.0, (ap (onto_first b) h.1.0, h.1.1))
shape_onto b pieces behind (inr h) = inr (b ∷ h.0, ap (onto_first b) h.1)

shape_cond : (t : Bool) (b : ℕ) (bs : List ℕ) → LineShape (slice_split (λ b. b == 10) bs) (after_line bs)
    → LineShape (cond t ([] ∷ slice_split (λ b. b == 10) bs) (onto_first b (slice_split (λ b. b == 10) bs)))
    (cond t bs (after_line bs))
shape_cond true b bs h = inr ([], refl)
shape_cond false b bs h = shape_onto b _ _ h

shape : (bs : List ℕ) → LineShape (slice_split (λ b. b == 10) bs) (after_line bs)
shape [] = inl ([], (refl, refl))
shape (b ∷ bs) = shape_cond (b == 10) b bs (shape bs)

abbrev BeginsWithLine : List (List ℕ) → List ℕ → Type 0
BeginsWithLine ls behind = (ls ≡ []) ⊎ ((l : List ℕ) × (ls ≡ l ∷ lines behind))

begins_last : (f behind : List ℕ) → behind ≡ [] → BeginsWithLine (last_line f) behind
begins_last [] behind e = inl refl
begins_last (b ∷ f) behind e = inr (b ∷ f, ap (λ r. (b ∷ f) ∷ lines r) (sym e))

begins : (pieces : List (List ℕ)) (behind : List ℕ) → LineShape pieces behind → BeginsWithLine (lines_of_pieces pieces) behind
begins pieces behind (inl h) = rw h.1.0 (begins_last h.0 behind h.1.1)
begins pieces behind (inr h) = rw h.1 (inr (h.0, lines_of_more h.0 _ (has_pieces behind)))

rest_is : (ls : List (List ℕ)) (behind l : List ℕ) (more : List (List ℕ)) → BeginsWithLine ls behind → ls ≡ l ∷ more
    → more ≡ lines behind
rest_is ls behind l more (inl h) e = cc
rest_is ls behind l more (inr h) e = cc (h.1)

pub lines_after : (bytes l : List ℕ) (more : List (List ℕ)) → lines bytes ≡ l ∷ more → more ≡ lines (after_line bytes)
lines_after bytes l more e = rest_is (lines bytes) (after_line bytes) l more (begins _ _ (shape bytes)) e
