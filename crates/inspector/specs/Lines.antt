-- What a line of input says: who reads, and the bytes of one message. Assumes nothing.
use Rattle.std.specs.Prelude.{ℕ, Bool, ◌||◌, if◌then◌else◌, List, [], length, Some, None, Ok, Err, codes, Option, Result, ◌==◌, slice_index}
use Rattle.std.specs.List.{list_all, prefix_len}
use Rattle.std.specs.Str.{bytes_eq}
use Rattle.hex.specs.declared.error.FromHexError.{FromHexError}
use Rattle.hex.specs.declared.error.FromHexError.TheVariants.{InvalidHexCharacter, OddLength, InvalidStringLength, OutOfMemory}
use Rattle.hex.specs.Hex.{is_hex_digit, decode_of}
use Rattle.wire.specs.declared.kinds.Channel.{Channel}
use Rattle.wire.specs.declared.kinds.Channel.TheVariants as channel
use Rattle.inspector.specs.declared.line.Line.{Line}
use Rattle.inspector.specs.declared.line.Line.TheVariants as line
use Rattle.inspector.specs.declared.line.Unclear.{Unclear}
use Rattle.inspector.specs.declared.line.Unclear.TheVariants as why
use Rattle.inspector.specs.Words.{is_blank, first_word, after_word}

-- what a line says
pub data Given : Type 0 where
  skipped : Given
  message : Channel → List ℕ → Given
  unclear : Unclear → Given

abbrev pub given_by : Line → Given
given_by line.Skipped = skipped
given_by (line.Message ch bytes) = message ch bytes.items
given_by (line.Unclear why) = unclear why

-- nothing but blanks, or # in front
abbrev pub is_skipped : List ℕ → Bool
is_skipped bs = prefix_len is_blank bs == length bs || slice_index bs 0 == 35

abbrev pub channel_of : List ℕ → Option Channel
channel_of w =
    if bytes_eq w (codes "real-time") then Some channel.RealTime
    else if bytes_eq w (codes "recovery") then Some channel.Recovery
    else if bytes_eq w (codes "follower") then Some channel.Follower
    else None

abbrev pub decoded : Channel → Result (List ℕ) FromHexError → Given
decoded ch (Ok bs) = message ch bs
decoded ch (Err OddLength) = unclear why.OddDigits
decoded ch (Err (InvalidHexCharacter c i)) = unclear why.NotHex
decoded ch (Err InvalidStringLength) = unclear why.NotHex
decoded ch (Err OutOfMemory) = unclear why.NotHex

-- what a word says as the bytes of a message: - for none, or pairs of hex digits
abbrev pub bytes_given : Channel → List ℕ → Given
bytes_given ch w =
    if bytes_eq w (codes "-") then message ch []
    else if list_all is_hex_digit w then decoded ch (decode_of w)
    else unclear why.NotHex

-- the words behind the reader
abbrev pub behind_reader : Option Channel → List ℕ → Given
behind_reader None rest = unclear why.UnknownReader
behind_reader (Some ch) rest =
    if length (first_word rest) == 0 then unclear why.NoBytes
    else if length (first_word (after_word rest)) == 0 then bytes_given ch (first_word rest)
    else unclear why.MoreWords

abbrev pub given : List ℕ → Given
given bs = if is_skipped bs then skipped else behind_reader (channel_of (first_word bs)) (after_word bs)
