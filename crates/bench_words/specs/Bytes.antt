-- The bytes of a message as a script writes them. Assumes nothing.
use Rattle.std.specs.Prelude.{ℕ, ◌%◌, Bool, ◌&&◌, ◌||◌, List, [], length, codes, ◌==◌}
use Rattle.std.specs.List.{list_all}
use Rattle.std.specs.Result.{result_unwrap_or}
use Rattle.std.specs.Str.{bytes_eq}
use Rattle.hex.specs.Hex.{decode_of, is_hex_digit}

abbrev pub is_digits : List ℕ → Bool
is_digits w = (length w % 2 == 0) && list_all is_hex_digit w

-- pairs of hex digits, or - for none
abbrev pub is_bytes : List ℕ → Bool
is_bytes w = bytes_eq w (codes "-") || is_digits w

-- the bytes of the pairs; - has none
abbrev pub bytes_of : List ℕ → List ℕ
bytes_of w = result_unwrap_or (decode_of w) []
