use Rattle.std.proofs.Common.{◌<◌, ◌^◌, arith}
use Rattle.std.specs.Int.Bits.{bit_and}
use Rattle.std.proofs.lemmas.Nat.{and_le_r, xor_lt}
use Rattle.line_reading.proofs.Words.{clean_at, odd_at}
use Rattle.line_reading.proofs.bytes.clean.is_clean_at.Goals as goal

pub overflow_add-no_percent : goal.overflow_add-no_percent
overflow_add-no_percent c =
    let low : bit_and c.word_at-word.result 0x7f7f_7f7f_7f7f_7f7f < 2 ^ 63 =
    omega (arith, and_le_r c.word_at-word.result 0x7f7f_7f7f_7f7f_7f7f) in
    omega (arith, xor_lt 63 (bit_and c.word_at-word.result 0x7f7f_7f7f_7f7f_7f7f) 0x2525_2525_2525_2525 low (omega arith))

pub returns-clause-clean : goal.returns-clause-clean
returns-clause-clean c = clean_at c.args.bytes.now c.args.at c.requires (λ i. (c.type_inv.bytes i).fits)
    c.word_at-word.result c.word_at-word.ensures

pub returns-clause-odd : goal.returns-clause-odd
returns-clause-odd c = odd_at c.args.bytes.now c.args.at c.requires (λ i. (c.type_inv.bytes i).fits)
    c.word_at-word.result c.word_at-word.ensures
