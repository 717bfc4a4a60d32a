use Rattle.line_writing.proofs.exported.EscapeLemmas.{percent_decode-escaped}
use Rattle.token_lines.proofs.lines.ReadsBackLemmas.{encoding_reads_back, string_reads_back, string_is_field, style_reads_back}
use Rattle.token_lines.proofs.laws.reading_undoes_writing.Goals as goal

pub returns : goal.returns
returns c = record {
  bytes = percent_decode-escaped;
  strings = string_reads_back;
  fields = string_is_field;
  encodings = encoding_reads_back;
  styles = style_reads_back;
}
