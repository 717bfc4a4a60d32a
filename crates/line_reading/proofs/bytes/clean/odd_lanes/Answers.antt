use Rattle.std.proofs.Common.{ℕ, ◌+◌, ◌-◌, ◌%◌, leb, eqb, cond, arith, refl}
use Rattle.std.proofs.lemmas.Simd.{zip2_splat, zip2_of_maps, splat_is_map}
use Rattle.std.specs.Int.Bits.{bit_or}
use Rattle.line_reading.specs.Clean.{is_odd}
use Rattle.line_reading.proofs.Lanes.{masked}
use Rattle.line_reading.proofs.bytes.clean.odd_lanes.Goals as goal

abbrev control : ℕ → ℕ
control x = cond (leb 0x5e ((x + (256 - 0x21)) % 256)) 255 0

abbrev percent : ℕ → ℕ
percent x = cond (eqb x 37) 255 0

pub returns : goal.returns
returns c =
    let v = c.args.bytes in
    let long = c.fits-bytes.0 in
    masked (λ x. bit_or (control x) (percent x)) is_odd v _ refl (omega (arith, long)) c.fits-bytes.1
    (zip2_of_maps bit_or control percent v
    (zip2_of_maps (λ a b. cond (leb a b) 255 0) (λ _. 0x5e) (λ x. (x + (256 - 0x21)) % 256) v (splat_is_map v 16 0x5e long)
    (zip2_splat (λ a b. (a + (256 - b)) % 256) v 16 0x21 long))
    (zip2_splat (λ a b. cond (eqb a b) 255 0) v 16 37 long))
