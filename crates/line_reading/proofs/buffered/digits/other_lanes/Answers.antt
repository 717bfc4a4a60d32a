use Rattle.std.proofs.Common.{◌+◌, ◌-◌, ◌%◌, leb, cond, arith, refl}
use Rattle.std.proofs.lemmas.Simd.{zip2_splat, zip2_of_maps, splat_is_map}
use Rattle.line_reading.specs.tokens.Joined.{is_no_digit}
use Rattle.line_reading.proofs.Lanes.{masked}
use Rattle.line_reading.proofs.buffered.digits.other_lanes.Goals as goal

pub returns : goal.returns
returns c =
    let v = c.args.bytes in
    let long = c.fits-bytes.0 in
    masked (λ x. cond (leb 10 ((x + (256 - 48)) % 256)) 255 0) is_no_digit v _ refl (omega (arith, long)) c.fits-bytes.1
    (zip2_of_maps (λ a b. cond (leb a b) 255 0) (λ _. 10) (λ x. (x + (256 - 48)) % 256) v (splat_is_map v 8 10 long)
    (zip2_splat (λ a b. (a + (256 - b)) % 256) v 8 48 long))
