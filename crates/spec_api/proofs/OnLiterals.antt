-- What an answer unfolds to compute the definitions on literals.
use Rattle.std.specs.Prelude.{⊤}
use Rattle.std.specs.Fmt.{digits}
use Rattle.std.specs.Str.{is_utf8, chars}
use Rattle.std.specs.Str.Lossy.{utf8_lossy, utf8_valid_len, utf8_error_len}
use Rattle.form_urlencoded.specs.Form.{raw_pairs, split}
use Rattle.percent_encoding.specs.Percent.{percent_decode}
use Rattle.serde_json.proofs.OnLiterals.{serde_json_on_literals}

unfoldable pub on_literals : ⊤
unfolding serde_json_on_literals digits is_utf8 chars utf8_lossy utf8_valid_len utf8_error_len raw_pairs split percent_decode
on_literals = tt
